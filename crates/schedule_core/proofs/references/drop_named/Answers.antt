use Rattle.std.proofs.Common.{◌+◌, ℕ, List, drop, refl, ap, subst, arith}
use Rattle.std.proofs.lemmas.List.{drop_all}
use Rattle.std.specs.List.{filter_map}
use Rattle.std.specs.Option.{option_to_list}
use Rattle.frame_code.specs.Words.{unit_named}
use Rattle.step_table.specs.Passes.{view}
use Rattle.schedule_core.proofs.EachFacts.{IsDroppingEach, drop-front, dropping-starts, dropping-on, dropping-done, named-first}
use Rattle.schedule_core.proofs.references.drop_named.Goals as goal

pub words-init : goal.words-init
words-init c = dropping-starts c.args.shared.now.setup (filter_map unit_named c.args.words.now) c.args.pass.now c.requires.may

pub drop_if-requires-clause-may : goal.drop_if-requires-clause-may
drop_if-requires-clause-may c =
    let words = c.args.words.now in let i = c.words.word-index in let g = c.args.shared.now.setup in
    let so = subst (λ (rest : List ℕ). IsDroppingEach g (filter_map unit_named words) rest c.args.pass.now c.words.pass) (named-first words i _ c.unit_of.result c.words-test.true refl c.unit_of.ensures) c.words.invariant in
    drop-front g (option_to_list c.unit_of.result) (filter_map unit_named (drop (i + 1) words)) (view c.words.pass) so.may

pub words-preserved : goal.words-preserved
words-preserved c =
    let words = c.args.words.now in let i = c.words.word-index in let g = c.args.shared.now.setup in
    let so = subst (λ (rest : List ℕ). IsDroppingEach g (filter_map unit_named words) rest c.args.pass.now c.words.pass) (named-first words i _ c.unit_of.result c.words-test.true refl c.unit_of.ensures) c.words.invariant in
    dropping-on g (filter_map unit_named words) (option_to_list c.unit_of.result) (filter_map unit_named (drop (i + 1) words)) c.args.pass.now c.words.pass c.drop_if.new.pass so c.drop_if.ensures.pass c.drop_if.ensures.dropped

pub returns-clause-dropped : goal.returns-clause-dropped
returns-clause-dropped c =
    let words = c.args.words.now in let i = c.words.word-index in
    dropping-done c.args.shared.now.setup (filter_map unit_named words) (filter_map unit_named (drop i words)) c.args.pass.now c.words.pass (ap (filter_map unit_named) (drop_all i words (omega (arith, c.words-test.false)))) c.words.invariant
