use Rattle.std.proofs.Common.{◌∙◌, ◌∷◌, ◌++◌, [], ℕ, List, length, refl, sym, ap, arith}
use Rattle.frame_code.specs.Control.{control_kind, is_aggregate}
use Rattle.step_table.specs.Passes.{view}
use Rattle.table_core.specs.declared.view.View.{View}
use Rattle.schedule_rule.proofs.TakingFacts.{length-words}
use Rattle.std.specs.Prelude.{slice_index}
use Rattle.schedule_core.proofs.WrittenFrames.{front-some, front-few, kind-within, read-is, may-read, reading-starts, reading-on}
use Rattle.schedule_core.proofs.frames.read_frame.Goals as goal

pub read_known-control-requires-clause-may : goal.read_known-control-requires-clause-may
read_known-control-requires-clause-may c =
    let k = c.requires.known.1 in
    may-read c.args.shared.now.setup.plan c.args.code.now c.args.unit c.requires.known.0 (view c.args.pass.now) (view c.args.pass.now) 0 k refl
    (omega (arith, front-some c.args.shared.now.setup.plan c.args.code.now c.args.unit c.requires.known.0 (view c.args.pass.now) k))

pub length_of-length-requires : goal.length_of-length-requires
length_of-length-requires c task =
    let k = c.requires.known.1 in let g = c.args.shared.now.setup.plan in let p = c.args.code.now in let w = c.requires.known.0 in
    let is = read-is g p c.args.unit w (view c.args.pass.now) k 0 c.read_known-control.result (omega (arith, front-some g p c.args.unit w (view c.args.pass.now) k)) c.read_known-control.ensures.value.known in
    omega (arith, kind-within g p c.args.unit w (view c.args.pass.now) k (sym (ap is_aggregate is) ∙ task), ap control_kind is)

pub words-init : goal.words-init
words-init c =
    reading-starts c.args.shared.now.setup.plan c.args.code.now c.args.unit c.read_known-control.result c.length_of-length.result c.push.new.self.items c.args.pass.now c.read_known-control.new.pass
    (c.push.ensures.items ∙ ap (λ (l : List ℕ). l ++ c.read_known-control.result ∷ []) c.new-frame.ensures) c.length_of-length.ensures c.read_known-control.ensures.pass c.read_known-control.ensures.value

pub read_known-word-requires-clause-may : goal.read_known-word-requires-clause-may
read_known-word-requires-clause-may c =
    let k = c.requires.known.1 in let so = c.words.invariant in
    may-read c.args.shared.now.setup.plan c.args.code.now c.args.unit c.requires.known.0 (view c.args.pass.now) (view c.words.pass) c.words.at k (ap (λ (v : View). v.known) so.view_is)
    (omega (arith, c.words-test.true, so.long_is c.requires.known.0 k))

pub push-requires-in-words : goal.push-requires-in-words
push-requires-in-words c =
    let k = c.requires.known.1 in let so = c.words.invariant in let w = c.requires.known.0 in (
      omega arith,
      omega (
        arith,
        c.words-test.true,
        so.long_is w k,
        ap length (so.read w k),
        length-words (slice_index w) 0 c.words.at,
        front-few c.args.shared.now.setup.plan c.args.code.now c.args.unit w (view c.args.pass.now) k,
      ),
    )

pub words-preserved : goal.words-preserved
words-preserved c =
    reading-on c.args.shared.now.setup.plan c.args.code.now c.args.unit c.read_known-word.result c.length_of-length.result c.words.at c.words.frame.items c.push-in-words.new.self.items c.args.pass.now c.words.pass c.read_known-word.new.pass
    c.words.invariant c.words-test.true c.push-in-words.ensures.items c.read_known-word.ensures.pass c.read_known-word.ensures.value
