use Rattle.std.proofs.Common.{ℕ, ◌≤◌, Option, List, length, slice_get, sym, ◌∙◌, ap, subst}
use Rattle.task_syntax.specs.Places.{Each}
use Rattle.task_syntax.specs.declared.program.Sort.TheVariants.{Future}
use Rattle.frame_code.specs.Setting.{HasSort}
use Rattle.frame_code.specs.Units.{units_of}
use Rattle.frame_code.specs.Words.{OfMembers, body_of}
use Rattle.frame_code.specs.declared.act.Act.TheVariants as act
use Rattle.record_core.specs.EndSound.{members_class}
use Rattle.plain_state.specs.Engine.{EngineState}
use Rattle.plain_engine.specs.Asking.{IsKnown}
use Rattle.plain_engine.proofs.CarriedOut.{frame_asks, fits_asks}
use Rattle.plain_engine.proofs.Gathering.{some_members, few_members, first_known, small_members, asks_all}
use Rattle.plain_engine.proofs.engine.Engine.gather.Goals as goal

pub units_named-members-requires-clause-frame : goal.units_named-members-requires-clause-frame
units_named-members-requires-clause-frame c = frame_asks c.args.checked.now c.args.self.now c.args.unit c.args.frame.now.items
    (act.All c.args.request.now) c.requires

pub units_named-members-requires-clause-few : goal.units_named-members-requires-clause-few
units_named-members-requires-clause-few c = let fits = fits_asks c.args.checked.now c.args.self.now c.args.unit c.args.frame.now.items
    (act.All c.args.request.now) c.requires in rw c.as_slice.ensures fits.2

pub units_named-members-requires-clause-futures : goal.units_named-members-requires-clause-futures
units_named-members-requires-clause-futures c =
    subst (λ (xs : List ℕ). Each xs (λ x. HasSort c.args.checked.now Future x c.args.frame.now.items)) (sym c.as_slice.ensures)
    (fits_asks c.args.checked.now c.args.self.now c.args.unit c.args.frame.now.items (act.All c.args.request.now) c.requires).3

pub members_class-class-requires-clause-some : goal.members_class-class-requires-clause-some
members_class-class-requires-clause-some c = some_members c.args.checked.now c.args.self.now c.args.unit c.args.frame.now.items c.args.request.now
    c.as_slice-2.result.now (c.as_slice-2.ensures ∙ (c.units_named-members.ensures ∙ ap (units_of
    (body_of c.args.checked.now c.args.frame.now.items)) c.as_slice.ensures)) c.requires

pub members_class-class-requires-clause-few : goal.members_class-class-requires-clause-few
members_class-class-requires-clause-few c = few_members c.args.checked.now c.args.self.now c.args.unit c.args.frame.now.items c.args.request.now
    c.as_slice-2.result.now (c.as_slice-2.ensures ∙ (c.units_named-members.ensures ∙ ap (units_of
    (body_of c.args.checked.now c.args.frame.now.items)) c.as_slice.ensures)) c.requires

pub members_frame-requires-clause-some : goal.members_frame-requires-clause-some
members_frame-requires-clause-some c = some_members c.args.checked.now c.args.self.now c.args.unit c.args.frame.now.items c.args.request.now
    c.as_slice-4.result.now (c.as_slice-4.ensures ∙ (c.units_named-members.ensures ∙ ap (units_of
    (body_of c.args.checked.now c.args.frame.now.items)) c.as_slice.ensures)) c.requires

pub members_frame-requires-clause-few : goal.members_frame-requires-clause-few
members_frame-requires-clause-few c = few_members c.args.checked.now c.args.self.now c.args.unit c.args.frame.now.items c.args.request.now
    c.as_slice-4.result.now (c.as_slice-4.ensures ∙ (c.units_named-members.ensures ∙ ap (units_of
    (body_of c.args.checked.now c.args.frame.now.items)) c.as_slice.ensures)) c.requires

pub members_frame-requires-clause-units : goal.members_frame-requires-clause-units
members_frame-requires-clause-units c = small_members c.args.checked.now c.args.self.now c.args.unit c.args.frame.now.items c.args.request.now
    c.as_slice-4.result.now (c.as_slice-4.ensures ∙ (c.units_named-members.ensures ∙ ap (units_of
    (body_of c.args.checked.now c.args.frame.now.items)) c.as_slice.ensures)) c.requires
    (subst (λ (e : EngineState). length e.store.records ≤ 524288) c.self.view_is c.keeps.ensures.units)

pub spawn_new-requires-clause-frame : goal.spawn_new-requires-clause-frame
spawn_new-requires-clause-frame c = frame_asks c.args.checked.now c.args.self.now c.args.unit c.args.frame.now.items
    (act.All c.args.request.now) c.requires

pub spawn_new-requires-clause-variable : goal.spawn_new-requires-clause-variable
spawn_new-requires-clause-variable c = (fits_asks c.args.checked.now c.args.self.now c.args.unit c.args.frame.now.items
    (act.All c.args.request.now) c.requires).0

pub spawn_new-requires-clause-first : goal.spawn_new-requires-clause-first
spawn_new-requires-clause-first c = (c.members_frame.ensures c.args.checked.now).0

pub spawn_new-requires-clause-known : goal.spawn_new-requires-clause-known
spawn_new-requires-clause-known c = subst (λ (o : Option ℕ). IsKnown c.args.self.now o) (sym c.first_of-after.ensures)
    (first_known c.args.checked.now c.args.self.now c.args.unit c.args.frame.now.items c.args.request.now c.as_slice-3.result.now
    (c.as_slice-3.ensures ∙ (c.units_named-members.ensures ∙ ap (units_of
    (body_of c.args.checked.now c.args.frame.now.items)) c.as_slice.ensures)) c.requires)

pub spawn_new-requires-clause-asks : goal.spawn_new-requires-clause-asks
spawn_new-requires-clause-asks c = (
  c.requires.moment,
  asks_all c.args.checked.now c.args.self.now c.args.unit c.args.frame.now.items c.args.request.now c.units_named-members.result
      (c.units_named-members.ensures ∙ ap (units_of (body_of c.args.checked.now c.args.frame.now.items)) c.as_slice.ensures)
      c.members_class-class.result c.first_of-after.result c.members_frame.new.frame.items c.requires.moment c.requires.at
      (c.members_class-class.ensures ∙ ap (λ (ms : List ℕ). members_class (length ms)) c.as_slice-2.ensures)
      (c.first_of-after.ensures ∙ ap (λ (ms : List ℕ). slice_get ms 0) c.as_slice-3.ensures)
      ((c.members_frame.ensures c.args.checked.now).1 ∙ ap (λ (ms : List ℕ). OfMembers ms 1) c.as_slice-4.ensures),
)

pub returns-clause-steps : goal.returns-clause-steps
returns-clause-steps c m at = c.spawn_new.ensures.steps m
    (asks_all c.args.checked.now c.args.self.now c.args.unit c.args.frame.now.items c.args.request.now c.units_named-members.result
    (c.units_named-members.ensures ∙ ap (units_of (body_of c.args.checked.now c.args.frame.now.items)) c.as_slice.ensures)
    c.members_class-class.result c.first_of-after.result c.members_frame.new.frame.items m at
    (c.members_class-class.ensures ∙ ap (λ (ms : List ℕ). members_class (length ms)) c.as_slice-2.ensures)
    (c.first_of-after.ensures ∙ ap (λ (ms : List ℕ). slice_get ms 0) c.as_slice-3.ensures)
    ((c.members_frame.ensures c.args.checked.now).1 ∙ ap (λ (ms : List ℕ). OfMembers ms 1) c.as_slice-4.ensures))
