-- A respawn is a step of the run: what it is behind is known, and its further activation is the one of the law.
use Rattle.std.proofs.Common.{◌≡◌, ℕ, zero, suc, ◌+◌, ◌<◌, ◌≤◌, cond, nat_eq, Option, Some, None, List, [], ◌∷◌, length, slice_get, refl, sym, ◌∙◌, ap, subst, arith}
use Rattle.std.specs.Prelude.{IfSome}
use Rattle.std.proofs.lemmas.Option.{none-some, slice_get_within}
use Rattle.task_syntax.specs.Places.{Each}
use Rattle.task_syntax.specs.declared.value.Priority.{Priority}
use Rattle.task_syntax.specs.declared.program.Program.{Program}
use Rattle.task_meaning.specs.Meant.{future_at}
use Rattle.frame_code.specs.Words.{BodyOf, OfKind, OfMembers, body_of}
use Rattle.frame_code.specs.Frames.{IsFrame}
use Rattle.frame_code.specs.Names.{present, names_of}
use Rattle.frame_code.specs.Units as units
use Rattle.frame_code.specs.Units.{IsEnteredHeld, GivesUp}
use Rattle.frame_code.specs.declared.act.RespawnRequest.{RespawnRequest}
use Rattle.frame_code.specs.declared.act.Act.TheVariants as act
use Rattle.record_core.specs.Numbers.{HasTask}
use Rattle.record_core.specs.declared.rows.Cause.TheVariants as cause
use Rattle.record_core.specs.declared.rows.CutTag.TheVariants.{Limit}
use Rattle.run_model.specs.Step.{step}
use Rattle.plain_state.specs.declared.record.Behind.{Behind}
use Rattle.plain_state.specs.declared.record.Outcome.{Outcome}
use Rattle.plain_state.specs.declared.record.Outcome.TheVariants.{WasCut}
use Rattle.plain_state.specs.Store.{HasUnit, units_of}
use Rattle.plain_state.specs.Engine.{EngineState}
use Rattle.plain_state.specs.Sees.{Rests, times}
use Rattle.plain_state.specs.Moves.{behind_at, behind_record, behind_ended, renewed_task}
use Rattle.plain_state.specs.Laws.{RenewsTask, respawn_unit, entered_held}
use Rattle.plain_engine.specs.Asking.{IsKnown}
use Rattle.plain_engine.specs.Ending.{Moment, EndsAt, MayRenewAt, MayGoOn, gone_on, renewed_at, task_at, task_or_none}
use Rattle.plain_engine.specs.Going.{AsksAt, MayCarryOut, PriorityIs}
use Rattle.plain_engine.proofs.StepLaws.{names_are_known, running_is_known, respawn_is_step}
use Rattle.plain_engine.proofs.RunningFacts.{running_is_under_way}
use Rattle.plain_engine.proofs.StoreSizes.{changed_size, unit_stays, fits_still}
use Rattle.plain_engine.proofs.CarriedOut.{after_step}

-- what a variable names is among the names
pub among_futures : (xs : List (Option ℕ)) (x u : ℕ) → future_at xs x ≡ Some u → (at : ℕ) × (slice_get (present xs) at ≡ Some u)
among_futures [] x u named = absurd (none-some u named)
among_futures (None ∷ xs) zero u named = absurd (none-some u named)
among_futures (Some v ∷ xs) zero u named = (0, named)
among_futures (None ∷ xs) (suc x) u named = among_futures xs x u named
among_futures (Some v ∷ xs) (suc x) u named = let later = among_futures xs x u named in (suc later.0, later.1)

pub known_if : (e : EngineState) (names : List ℕ) → Each names (λ u. IsKnown e (Some u)) → (o : Option ℕ) → ((u : ℕ) → o ≡ Some u → (at : ℕ) ×
    (slice_get names at ≡ Some u))
    → IsKnown e o
known_if e names all None f = tt
known_if e names all (Some u) f = let a = f u refl in all a.0 u a.1

-- what a body is behind next is known, where each of its names is
pub behind_known : (e : EngineState) (body : BodyOf ℕ) (x : Option ℕ) → Each (names_of body) (λ u. IsKnown e (Some u)) → IsKnown e
    (respawn_unit body x)
behind_known e (OfKind q) None all = tt
behind_known e (OfKind q) (Some x) all = known_if e (present q.futures) all (future_at q.futures x) (among_futures q.futures x)
behind_known e (OfMembers members next) None all = tt
behind_known e (OfMembers members next) (Some at) all = known_if e members all (slice_get members at) (λ u there. (at, there))

-- the task that it is behind was accepted
ended_task : (e : EngineState) (task unit : ℕ) (o : Option Outcome) → HasTask e.journal.rows task → IfSome (behind_ended task unit o).task
    (HasTask e.journal.rows)
ended_task e task unit None has = has
ended_task e task unit (Some outcome) has = has

pub after_known : (e : EngineState) (o : Option ℕ) → IsKnown e o → IfSome (behind_at e.store o).task (HasTask e.journal.rows)
after_known e None known = tt
after_known e (Some unit) (known, there, has) =
    subst (λ o. IfSome (behind_record unit o).task (HasTask e.journal.rows)) (sym there) (ended_task e known.task unit known.outcome has)

same_entered : (p : Program) (target : ℕ) (body : BodyOf ℕ) → units.entered_held p target body ≡ entered_held p target body
same_entered p target (OfKind q) = refl
same_entered p target (OfMembers members next) = refl

same_times : (u : ℕ) (xs : List ℕ) → units.times u xs ≡ times u xs
same_times u [] = refl
same_times u (x ∷ xs) = ap (λ n. cond (nat_eq x u) 1 0 + n) (same_times u xs)

module _ (p : Program) (e : EngineState) (unit : ℕ) (words : List ℕ) (request : RespawnRequest) where
  pub respawn_behind : MayCarryOut p e unit words (act.Again request) → IsKnown e (respawn_unit (body_of p words) request.behind)
  respawn_behind may = behind_known e (body_of p words) request.behind
      (names_are_known p may.moment.columns may.moment.plan e may.moment.run unit words may.at.may may.at.runs)

  pub has_unit : MayCarryOut p e unit words (act.Again request) → HasUnit e.store unit
  has_unit may =
      let known = running_is_known p may.moment.columns may.moment.plan e may.moment.run unit words may.at.may may.at.runs in
      slice_get_within e.store.records unit known.0 known.1

  pub may_renew : (behind : Behind) → behind ≡ behind_at e.store (respawn_unit (body_of p words) request.behind) → MayCarryOut p e unit words
      (act.Again request)
      → MayRenewAt unit behind e
  may_renew behind is_behind may = record {
    within = has_unit may;
    under_way = running_is_under_way p may.moment.columns may.moment.plan e may.moment.run unit words may.at.may may.at.runs;
    after = subst (λ (b : Behind). IfSome b.task (HasTask e.journal.rows)) (sym is_behind)
        (after_known e (respawn_unit (body_of p words) request.behind) (respawn_behind may));
  }

  module _ (m : Moment) (at : AsksAt p e unit words (act.Again request) m) where
    -- at the limit the task ends
    pub ends_at_limit : e.journal.limit ≤ length e.journal.rows → EndsAt p e unit words (WasCut Limit) cause.Limit (after_step p m)
    ends_at_limit full =
        let known = running_is_known p m.columns m.plan e m.run unit words at.may at.runs in
        (respawn_is_step p m.columns m.plan e m.run unit words words [] request known.0 at.may at.runs at.asks known.1).1 full

    module _ (behind : Behind) (priority : Priority) (next given_up : List ℕ)
        (is_behind : behind ≡ behind_at e.store (respawn_unit (body_of p words) request.behind))
        (is_priority : PriorityIs p e unit words request.priority priority)
        (left : length e.journal.rows < e.journal.limit) (frame : IsFrame p next) (entered : IsEnteredHeld p request.target words next)
        (gives_up : GivesUp p words given_up next) where
      renews : RenewsTask p m.columns m.plan e unit priority behind given_up next (step p m.columns m.plan.units m.run)
      renews =
          let known = running_is_known p m.columns m.plan e m.run unit words at.may at.runs in
          subst (λ (b : Behind). RenewsTask p m.columns m.plan e unit priority b given_up next (step p m.columns m.plan.units m.run)) (sym is_behind)
          (subst (λ (o : Priority). RenewsTask p m.columns m.plan e unit o (behind_at e.store (respawn_unit
          (body_of p words) request.behind)) given_up next
          (step p m.columns m.plan.units m.run)) (sym (is_priority known.0 known.1))
          ((respawn_is_step p m.columns m.plan e m.run unit words next given_up request known.0 at.may at.runs at.asks known.1).0
          left frame (entered ∙ same_entered p request.target (body_of p words)) parts))
        where
          parts : (u : ℕ) → times u given_up + times u (names_of (body_of p next)) ≡ times u (names_of (body_of p words))
          parts u = omega (
            arith,
            gives_up u,
            same_times u given_up,
            same_times u (names_of (body_of p next)),
            same_times u (names_of
                (body_of p words)),
          )

      same_task : task_at e unit ≡ renews.task
      same_task = ap task_or_none renews.there ∙ renews.of_task

      renewed_units : units_of (renewed_at unit priority behind e).store ≡ units_of e.store
      renewed_units = changed_size _ unit e.store

      -- with a number the further activation may go on
      pub may_go_on : MayGoOn unit behind given_up next (renewed_at unit priority behind e).store
      may_go_on = record {
        within = unit_stays e.store (renewed_at unit priority behind e).store unit renewed_units renews.may.within;
        gives_up = renews.may.gives_up;
        fits = fits_still e.store (renewed_at unit priority behind e).store unit (length next) renewed_units renews.may.fits;
        arrives = renews.may.arrives;
      }

      -- and nothing runs afterwards
      pub rests_after : Rests p m.columns m.plan (gone_on unit behind given_up next (renewed_at unit priority behind e))
          (step p m.columns m.plan.units m.run)
      rests_after = subst (λ (task : ℕ). Rests p m.columns m.plan (renewed_task unit task priority behind given_up next e)
          (step p m.columns m.plan.units m.run)) (sym same_task) renews.rests

-- what is known has a record
pub known_unit : (e : EngineState) (o : Option ℕ) → IsKnown e o → IfSome o (HasUnit e.store)
known_unit e None known = tt
known_unit e (Some unit) known = slice_get_within e.store.records unit known.0 known.1
