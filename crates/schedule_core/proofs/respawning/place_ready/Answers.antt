use Rattle.std.proofs.Common.{◌∙◌, ℕ, Some, None, List, false, refl, sym, ap, subst}
use Rattle.step_table.specs.Passes.{view}
use Rattle.step_table.specs.PlacingSteps.{MayPlaceNext, PlacesNext}
use Rattle.schedule_core.specs.Entries.{entry_of}
use Rattle.schedule_core.specs.FrameWords.{WritesFrame}
use Rattle.schedule_core.specs.NextPlaces.{PlacesAgain}
use Rattle.schedule_core.proofs.NextPlaceFacts.{written-starts, may-next, placed-ready}
use Rattle.schedule_core.proofs.respawning.place_ready.Goals as goal

pub ready_again-word-requires-clause-may : goal.ready_again-word-requires-clause-may
ready_again-word-requires-clause-may c =
    let g = c.args.shared.now.setup in let u = c.args.started.unit in let n = c.args.number in let items = c.args.next.now.items in let v = view c.args.pass.now in let w = view c.write_frame.new.pass in
    let wrote = subst (λ (m : ℕ). WritesFrame m items v w) c.unit-unit.ensures c.write_frame.ensures.written in
    subst (λ (ws : List ℕ). MayPlaceNext g false c.args.started n ws w) (sym c.as_slice.ensures.value)
    (may-next g u n None items v c.requires.may w wrote false c.args.started refl (written-starts g u n None items v c.requires.may w wrote refl))

pub returns-clause-placed : goal.returns-clause-placed
returns-clause-placed c =
    let g = c.args.shared.now.setup in let u = c.args.started.unit in let n = c.args.number in let items = c.args.next.now.items in let v = view c.args.pass.now in let w = view c.write_frame.new.pass in
    let wrote = subst (λ (m : ℕ). WritesFrame m items v w) c.unit-unit.ensures c.write_frame.ensures.written in
    let places = subst (λ (ws : List ℕ). PlacesNext g false c.args.started n ws c.args.priority c.write_frame.new.pass c.ready_again-word.new.pass) c.as_slice.ensures.value c.ready_again-word.ensures.view in
    subst (λ e. PlacesAgain g u n c.args.priority None items v (Some e) (view c.ready_again-word.new.pass)) (sym (c.entry_of.ensures ∙ ap (λ (m : ℕ). entry_of m c.ready_again-word.result) c.unit-unit.ensures))
    (placed-ready g u n None items v c.requires.may w wrote c.args.priority c.ready_again-word.result places.found (view c.ready_again-word.new.pass) places.view_is c.ready_again-word.ensures.word)
