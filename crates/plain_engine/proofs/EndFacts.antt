-- The first and the last state of a run of an engine.
use Rattle.std.proofs.Common.{◌≡◌, ℕ, Some, length, slice_get, inl, inr, sym, ap, subst, arith}
use Rattle.std.specs.Int.{IsPowerOfTwo}
use Rattle.task_syntax.specs.Form.{IsWellFormed}
use Rattle.task_syntax.specs.Valid.{IsValid}
use Rattle.task_syntax.specs.declared.program.Program.{Program}
use Rattle.task_syntax.specs.declared.columns.Columns.{Columns}
use Rattle.kt_words.specs.Ranges.{IsGeometry, IsUnitCount}
use Rattle.kt_words.specs.declared.geometry.Geometry.{Geometry}
use Rattle.kt_words.specs.declared.plan.Plan.{Plan}
use Rattle.kt_words.proofs.GeometryFacts.{units_by_name}
use Rattle.record_core.specs.EndCounts.{EndCounts}
use Rattle.record_core.specs.EndFaithful.{EndFaithful}
use Rattle.record_core.specs.EndSeen.{EndSeen, RunPlan, plan_of}
use Rattle.record_core.specs.EndSound.{EndComplete, EndSound}
use Rattle.run_model.specs.State.{Run}
use Rattle.run_model.specs.End.{EndsAs, OneThreadRun, end_seen}
use Rattle.run_model.proofs.RootValues.{ends_sound}
use Rattle.run_model.proofs.FaithfulEnds.{ends_faithful}
use Rattle.run_model.proofs.CountsEnd.{ends_complete}
use Rattle.run_model.proofs.CountsUnrefused.{ends_count}
use Rattle.plain_state.specs.declared.record.RootState.{RootState}
use Rattle.plain_state.specs.declared.record.RootState.TheVariants as root
use Rattle.plain_state.specs.Engine.{EngineState, unused_engine}
use Rattle.plain_state.specs.Laws.{Asked, MayRun}
use Rattle.plain_engine.specs.EngineView.{HasRecord, IsReadable, end_of}
use Rattle.plain_engine.specs.Going.{IdlesAt, IsAtEnd}
use Rattle.plain_engine.specs.Roots.{AsksAll, MayAskAll}
use Rattle.plain_engine.proofs.RootFacts.{known_within}
use Rattle.plain_engine.proofs.StepLaws.{all_asked, end_is_seen, ended_roots_are_known, ended_roots_are_many, evidence_is_whole, none_asked, none_left}

power_of : (units : ℕ) → IsUnitCount units → IsPowerOfTwo units
power_of units (inl e) = (3, e)
power_of units (inr (inl e)) = (4, e)
power_of units (inr (inr (inl e))) = (5, e)
power_of units (inr (inr (inr (inl e)))) = (6, e)
power_of units (inr (inr (inr (inr (inl e))))) = (7, e)
power_of units (inr (inr (inr (inr (inr (inl e)))))) = (8, e)
power_of units (inr (inr (inr (inr (inr (inr e)))))) = (9, e)

geometry_is : (g : Geometry) → IsGeometry g.superblocks g.units
geometry_is g = record { superblocks_fit = g.superblocks_fit; units_fit = (g.units_fit.0, g.units_fit.1, power_of g.units (units_by_name g)) }

-- a checked program may run within a plan
pub may_run : (p : Program) (plan : Plan) → IsWellFormed p → IsValid p → MayRun p (plan_of plan)
may_run p plan formed valid = record { formed = formed; valid = valid; geometry = geometry_is plan.geometry; some = plan.limit_fits.0; few = plan.limit_fits.1 }

module _ (p : Program) (plan : RunPlan) (may : MayRun p plan) (e : EngineState) (unused : e ≡ unused_engine plan) where
  first_asked : Asked p plan e 0
  first_asked = subst (λ s. Asked p plan s 0) (sym unused) (none_asked p plan may)

  -- at first all roots may be asked for
  pub may_ask_all : MayAskAll p e
  may_ask_all = record { plan = plan; may = may; asked = first_asked; none = ap (λ (s : EngineState). length s.roots) unused }

  -- and then nothing runs
  pub asked_idles : (c : Columns) (asked : EngineState) → AsksAll p e asked → (r : Run) × IdlesAt p c asked plan r
  asked_idles c asked asks =
      let (r, rests) = all_asked p c plan asked (asks plan may first_asked) in (r, record { may = may; rests = rests })

module _ (p : Program) (c : Columns) (plan : RunPlan) (may : MayRun p plan) (e : EngineState) (end : IsAtEnd p c e plan) where
  is_over : OneThreadRun p c plan end.run
  is_over = none_left p c plan e end.run end.rests end.over

  abbrev answer : EndSeen
  answer = end_of plan.superblocks plan.units e

  seen : answer ≡ end_seen plan end.run
  seen = end_is_seen p c plan e end.run may end.rests end.over

  -- what an engine at its end answers
  pub end_answers : EndsAs p c plan answer
  end_answers = (end.run, is_over, seen)

  pub end_sound : EndSound p c plan answer
  end_sound = subst (EndSound p c plan) (sym seen) (ends_sound p c plan end.run may.formed may.valid may.geometry is_over)

  pub end_faithful : EndFaithful p answer
  end_faithful = subst (EndFaithful p) (sym seen) (ends_faithful p c plan end.run may.formed may.valid may.geometry is_over)

  pub end_complete : EndComplete p c plan answer
  end_complete = subst (EndComplete p c plan) (sym seen) (ends_complete p c plan end.run may.formed may.valid may.geometry is_over)

  pub end_counts : EndCounts p c answer
  end_counts = subst (EndCounts p c) (sym seen) (ends_count p c plan end.run may.formed may.valid is_over)

  known_at : (at : ℕ) (state : RootState) → slice_get e.roots at ≡ Some state → HasRecord e.store state
  known_at at (root.Named unit) there = known_within e (Some unit) (ended_roots_are_known p c plan e end.run at unit may end.rests there)
  known_at at (root.Refused tag) there = tt
  known_at at (root.Skipped earlier tag) there = tt

  -- and that it can be read
  pub is_readable : IsReadable plan.superblocks e
  is_readable = record {
    few = omega (arith, ended_roots_are_many p c plan e end.run may end.rests, may.formed.roots_fit);
    known = known_at;
    whole = evidence_is_whole p c plan e end.run may end.rests;
  }
