-- The laws that the tasks which an engine names are known to it.
use Rattle.std.proofs.Common.{◌≡◌, ℕ, Option, Some, None, IsSome, List, [], length, slice_get, refl, sym, ◌∙◌, ap, subst, inl, inr}
use Rattle.std.specs.Option.{is_some, option_map}
use Rattle.std.proofs.lemmas.Option.{none-some}
use Rattle.task_syntax.specs.declared.program.Program.{Program}
use Rattle.task_syntax.specs.declared.columns.Columns.{Columns}
use Rattle.frame_code.specs.Words.{body_of}
use Rattle.frame_code.specs.Names.{names_of}
use Rattle.record_core.specs.Numbers.{HasTask}
use Rattle.record_core.specs.Journal.{JournalState}
use Rattle.record_core.specs.EndSeen.{RunPlan}
use Rattle.run_model.specs.State.{RootWord, Named, Refused, Skipped, Evidence, Run}
use Rattle.run_model.proofs.NumbersInvariant.{NumbersStand}
use Rattle.run_model.proofs.UsedFacts.{in_use}
use Rattle.run_model.proofs.BlocksInvariant.{EvidenceStands}
use Rattle.run_model.proofs.EndFields.{map_length}
use Rattle.run_model.proofs.EndLaws.{root_count}
use Rattle.run_model.proofs.EndSoundness.{evidence_always}
use Rattle.plain_state.specs.declared.record.RootState.TheVariants as root
use Rattle.plain_state.specs.Engine.{EngineState}
use Rattle.plain_state.specs.Sees.{Sees, InUse, IsReached, root_state, class_seen, words_seen, unit_of}
use Rattle.plain_state.specs.Laws.{MayRun}
use Rattle.plain_state.specs.Known.{IsKnown, NamesAreKnown, RunningIsKnown, RootsAreKnown, EndedRootsAreKnown, EndedRootsAreMany, EvidenceIsWhole}
use Rattle.plain_state.proofs.References.{in_use_open, in_use_named, times_member}
use Rattle.plain_state.proofs.InHand.{known_at}
use Rattle.plain_state.proofs.GrownLists.{map_member}
use Rattle.plain_state.proofs.NewNames.{names_named}
use Rattle.plain_state.proofs.Finishing.{names_seen}
use Rattle.plain_state.proofs.Running.{reached_stands}
use Rattle.plain_state.proofs.KnownRuns.{known_asked}

-- the unit of a task in use is known
pub unit_known : (p : Program) (units : ℕ) (hand : List ℕ) (own : Option (ℕ × List ℕ)) (e : EngineState) (r : Run) → Sees p units hand own e r
    → (t unit : ℕ) → InUse hand r t → HasTask r.journal.rows t → unit_of r.blocks t ≡ Some unit → IsKnown e (Some unit)
unit_known p units hand own e r sees t unit used task at =
    let st = sees.tasks t used in
    let here = known_at p units hand own e r sees t unit used at in (
      st.known,
      subst (λ x. slice_get e.store.records x ≡ Some st.known) here st.there,
      subst (λ (j : JournalState). HasTask j.rows st.known.task) (sym sees.journal) (subst (HasTask r.journal.rows) (sym st.task) task),
    )

-- the task of a root whose state names a unit
root_named : (r : Run) (word : RootWord) (unit : ℕ) → root_state r.blocks word ≡ Some (root.Named unit)
    → (t : ℕ) × (word ≡ Named t) × (unit_of r.blocks t ≡ Some unit)
root_named r (Named t) unit e = (t, refl, by (unit_of r.blocks t) e)
  where
    by : (o : Option ℕ) → option_map root.Named o ≡ Some (root.Named unit) → o ≡ Some unit
    by None f = absurd (none-some (root.Named unit) f)
    by (Some x) f = cc
root_named r (Refused tag) unit e = absurd (cc e)
root_named r (Skipped at tag) unit e = absurd (cc e)

-- the units of roots are known
roots_known : (p : Program) (units : ℕ) (e : EngineState) (r : Run) → NumbersStand r → Sees p units [] None e r
    → (at unit : ℕ) → slice_get e.roots at ≡ Some (root.Named unit) → IsKnown e (Some unit)
roots_known p units e r held sees at unit there =
    let (word, get, is) = map_member (root_state r.blocks) r.roots e.roots sees.roots at (root.Named unit) there in
    let (t, same, has) = root_named r word unit is in
    let named : slice_get r.roots at ≡ Some (Named t) = get ∙ ap Some same in
    unit_known p units [] None e r sees t unit ((in_use r.roots r.bodies t).1 (inr (inl (at, named)))) (held.names.in_roots at t named) has

pub names_are_known : NamesAreKnown
names_are_known p c plan e r unit words may q at u there =
    let held = (reached_stands p c plan r q.reached).numbers in
    let (t, get, has) = map_member (unit_of r.blocks) (names_of q.body) (names_of (body_of p words))
    (names_seen p plan.units e r unit words q.t q.n q.body held q.runs q.at q.sees) at u there in
    let named = times_member t (names_of q.body) at get in
    unit_known p plan.units [] (Some (q.t, words)) e r q.sees t u (in_use_named [] r q.t t q.body q.runs.has named)
    (held.names.in_bodies q.t t q.body q.runs.has (names_named q.body t named)) has

pub running_is_known : RunningIsKnown
running_is_known p c plan e r unit words may q =
    let held = (reached_stands p c plan r q.reached).numbers in
    unit_known p plan.units [] (Some (q.t, words)) e r q.sees q.t unit (in_use_open [] r q.t q.body q.runs.has)
    (held.live.of_task q.t (ap is_some q.runs.has)) q.at

pub roots_are_known : RootsAreKnown
roots_are_known p plan e done at unit may asked there =
    roots_known p plan.units e asked.run (known_asked p plan may e done asked).kept.run.numbers asked.sees at unit there

pub ended_roots_are_known : EndedRootsAreKnown
ended_roots_are_known p c plan e r at unit may rests there =
    roots_known p plan.units e r (reached_stands p c plan r rests.reached).numbers rests.sees at unit there

pub ended_roots_are_many : EndedRootsAreMany
ended_roots_are_many p c plan e r may rests =
    sym (map_length (λ state. Some state) e.roots) ∙ sym (ap length rests.sees.roots) ∙ map_length (root_state r.blocks) r.roots ∙ many rests.reached
  where
    many : IsReached p c plan r → length r.roots ≡ length p.roots
    many (taken, same) = ap (λ (x : Run). length x.roots) (sym same) ∙ root_count p c plan taken

-- the evidence of a state that is reached stands
reached_evidence : (p : Program) (c : Columns) (plan : RunPlan) (r : Run) → MayRun p plan → IsReached p c plan r → EvidenceStands plan r
reached_evidence p c plan r may (taken, same) = subst (EvidenceStands plan) same (evidence_always p c plan may.geometry taken).evidence

pub evidence_is_whole : EvidenceIsWhole
evidence_is_whole p c plan e r may rests some =
    ap length rests.sees.words ∙ by r.evidence refl (subst (λ (o : Option ℕ). IsSome o) rests.sees.class some)
  where
    by : (o : Option Evidence) → r.evidence ≡ o → IsSome (class_seen o) → length (words_seen o) ≡ plan.superblocks
    by None is none = absurd (cc none)
    by (Some kept) is has = (reached_evidence p c plan r may rests.reached kept is).every
