use Rattle.std.proofs.Common.{ℕ, Some, List, true, refl, sym, subst}
use Rattle.future_refs.specs.Drops.{Drops, GivesBack}
use Rattle.step_table.specs.Passes.{view}
use Rattle.step_table.specs.PlacingSteps.{MayPlaceNext, PlacesNext}
use Rattle.step_table.specs.RecordHands.{MayLessen}
use Rattle.step_table.specs.RecordSteps.{Refers}
use Rattle.wait_lists.specs.Joining.{MayJoin}
use Rattle.schedule_core.specs.Making.{JoinsBehind}
use Rattle.schedule_core.specs.FrameWords.{WritesFrame}
use Rattle.schedule_core.proofs.EachFacts.{dropped-one}
use Rattle.schedule_core.proofs.NextBehindFacts.{may-join, may-drop, placed-behind}
use Rattle.schedule_core.proofs.NextPlaceFacts.{may-referred, may-next}
use Rattle.schedule_core.proofs.respawning.place_behind.Goals as goal

pub wait_again-waiter-requires-clause-may : goal.wait_again-waiter-requires-clause-may
wait_again-waiter-requires-clause-may c =
    let g = c.args.shared.now.setup in let u = c.args.started.unit in let n = c.args.number in let b = c.args.behind.unit in let t = c.args.behind.task in let items = c.args.next.now.items in
    let v = view c.args.pass.now in let cloned = view c.clone_future-kept.new.pass in let w = view c.write_frame.new.pass in let may = c.requires.may.may in
    let refers = subst (λ (m : ℕ). Refers m c.args.pass.now c.clone_future-kept.result c.clone_future-kept.new.pass) c.of-named.ensures c.clone_future-kept.ensures.future in
    let wrote = subst (λ (m : ℕ). WritesFrame m items cloned w) c.unit-unit.ensures c.write_frame.ensures.written in
    subst (λ (ws : List ℕ). MayPlaceNext g true c.args.started n ws w) (sym c.as_slice.ensures.value)
    (may-next g u n (Some t) items cloned (may-referred g u n (Some t) items v may b refers.found cloned refers.view_is) w wrote true c.args.started refl tt)

pub join-entry-requires-clause-may : goal.join-entry-requires-clause-may
join-entry-requires-clause-may c =
    let g = c.args.shared.now.setup in let u = c.args.started.unit in let n = c.args.number in let b = c.args.behind.unit in let t = c.args.behind.task in let items = c.args.next.now.items in
    let v = view c.args.pass.now in let cloned = view c.clone_future-kept.new.pass in let w = view c.write_frame.new.pass in let may = c.requires.may.may in
    let refers = subst (λ (m : ℕ). Refers m c.args.pass.now c.clone_future-kept.result c.clone_future-kept.new.pass) c.of-named.ensures c.clone_future-kept.ensures.future in
    let wrote = subst (λ (m : ℕ). WritesFrame m items cloned w) c.unit-unit.ensures c.write_frame.ensures.written in
    let x = view c.wait_again-waiter.new.pass in
    let places = subst (λ (ws : List ℕ). PlacesNext g true c.args.started n ws c.args.priority c.write_frame.new.pass c.wait_again-waiter.new.pass) c.as_slice.ensures.value c.wait_again-waiter.ensures.view in
    subst (λ (m : ℕ). MayJoin g.plan b m x) (sym c.wait_again-waiter.ensures.waiter)
    (may-join g u n b t refers.found items v cloned w may refers.view_is wrote c.args.priority places.found x places.view_is c.requires.may.predecessor.0 c.requires.may.predecessor.1)

pub drop_future-requires-clause-may : goal.drop_future-requires-clause-may
drop_future-requires-clause-may c =
    let g = c.args.shared.now.setup in let u = c.args.started.unit in let n = c.args.number in let b = c.args.behind.unit in let t = c.args.behind.task in let items = c.args.next.now.items in
    let v = view c.args.pass.now in let cloned = view c.clone_future-kept.new.pass in let w = view c.write_frame.new.pass in let may = c.requires.may.may in
    let refers = subst (λ (m : ℕ). Refers m c.args.pass.now c.clone_future-kept.result c.clone_future-kept.new.pass) c.of-named.ensures c.clone_future-kept.ensures.future in
    let wrote = subst (λ (m : ℕ). WritesFrame m items cloned w) c.unit-unit.ensures c.write_frame.ensures.written in
    let x = view c.wait_again-waiter.new.pass in
    let places = subst (λ (ws : List ℕ). PlacesNext g true c.args.started n ws c.args.priority c.write_frame.new.pass c.wait_again-waiter.new.pass) c.as_slice.ensures.value c.wait_again-waiter.ensures.view in
    let y = view c.join-entry.new.pass in
    let joined = subst (λ (m : ℕ). JoinsBehind g m c.args.behind x c.join-entry.result y) c.wait_again-waiter.ensures.waiter c.join-entry.ensures.joined in
    subst (λ (m : ℕ). MayLessen g m y) (sym refers.unit_is)
    (may-drop g u n b t refers.found items v cloned w may refers.view_is wrote c.args.priority places.found x places.view_is c.join-entry.result y joined c.requires.may.predecessor.0)

pub returns-clause-placed : goal.returns-clause-placed
returns-clause-placed c =
    let g = c.args.shared.now.setup in let u = c.args.started.unit in let n = c.args.number in let b = c.args.behind.unit in let t = c.args.behind.task in let items = c.args.next.now.items in
    let v = view c.args.pass.now in let cloned = view c.clone_future-kept.new.pass in let w = view c.write_frame.new.pass in let may = c.requires.may.may in
    let refers = subst (λ (m : ℕ). Refers m c.args.pass.now c.clone_future-kept.result c.clone_future-kept.new.pass) c.of-named.ensures c.clone_future-kept.ensures.future in
    let wrote = subst (λ (m : ℕ). WritesFrame m items cloned w) c.unit-unit.ensures c.write_frame.ensures.written in
    let x = view c.wait_again-waiter.new.pass in
    let places = subst (λ (ws : List ℕ). PlacesNext g true c.args.started n ws c.args.priority c.write_frame.new.pass c.wait_again-waiter.new.pass) c.as_slice.ensures.value c.wait_again-waiter.ensures.view in
    let y = view c.join-entry.new.pass in
    let joined = subst (λ (m : ℕ). JoinsBehind g m c.args.behind x c.join-entry.result y) c.wait_again-waiter.ensures.waiter c.join-entry.ensures.joined in
    let gives = dropped-one g.plan (Some b) b y (view c.drop_future.new.pass) refl (subst (λ (m : ℕ). Drops g.plan m y (view c.drop_future.new.pass)) refers.unit_is c.drop_future.ensures.view)
    (subst (λ (m : ℕ). GivesBack m y (view c.drop_future.new.pass)) refers.unit_is c.drop_future.ensures.hand) in
    placed-behind g u n b t refers.found items v cloned w may refers.view_is wrote c.args.priority places.found x places.view_is c.join-entry.result y joined (view c.drop_future.new.pass) gives t
