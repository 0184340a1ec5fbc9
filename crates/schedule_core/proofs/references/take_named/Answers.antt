use Rattle.std.proofs.Common.{◌+◌, ℕ, List, drop, refl, subst}
use Rattle.std.specs.List.{filter_map}
use Rattle.std.specs.Option.{option_to_list}
use Rattle.frame_code.specs.Words.{unit_named}
use Rattle.step_table.specs.Passes.{view}
use Rattle.step_table.specs.RecordHands.{HasFuture}
use Rattle.schedule_core.proofs.EachFacts.{IsTakingEach, front-has, taking-starts, taking-on, named-first}
use Rattle.schedule_core.proofs.references.take_named.Goals as goal

pub words-init : goal.words-init
words-init c = taking-starts c.args.shared.now.setup.plan (filter_map unit_named c.args.words.now) c.args.pass.now c.requires.has

pub take_if-requires-clause-has : goal.take_if-requires-clause-has
take_if-requires-clause-has c =
    let words = c.args.words.now in let i = c.words.word-index in let g = c.args.shared.now.setup.plan in
    let so = subst (λ (rest : List ℕ). IsTakingEach g (filter_map unit_named words) rest c.args.pass.now c.words.pass) (named-first words i _ c.unit_of.result c.words-test.true refl c.unit_of.ensures) c.words.invariant in
    front-has (λ (u : ℕ). HasFuture g u (view c.words.pass)) (option_to_list c.unit_of.result) (filter_map unit_named (drop (i + 1) words)) so.has

pub words-preserved : goal.words-preserved
words-preserved c =
    let words = c.args.words.now in let i = c.words.word-index in let g = c.args.shared.now.setup.plan in
    let so = subst (λ (rest : List ℕ). IsTakingEach g (filter_map unit_named words) rest c.args.pass.now c.words.pass) (named-first words i _ c.unit_of.result c.words-test.true refl c.unit_of.ensures) c.words.invariant in
    taking-on g (filter_map unit_named words) (option_to_list c.unit_of.result) (filter_map unit_named (drop (i + 1) words)) c.args.pass.now c.words.pass c.take_if.new.pass so c.take_if.ensures.pass c.take_if.ensures.taken
