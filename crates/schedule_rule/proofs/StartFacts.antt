-- An activation is taken once at most, no task runs twice, and what is ready or runs is behind no task that is not over.
use Rattle.std.proofs.Common.{◌≡◌, inl, inr, ℕ, ◌<◌, ◌≤◌, ◌==◌, ◌&&◌, List, [], map, sym, ap, subst, arith}
use Rattle.std.specs.Prelude.{nat_le, IfSome}
use Rattle.std.proofs.lemmas.Bool.{cases_lt, eqb-true}
use Rattle.record_core.specs.Sums.{total}
use Rattle.record_core.specs.Counting.{At, Has, one_if, passing, times}
use Rattle.record_core.proofs.CountFacts.{passing-some}
use Rattle.record_core.proofs.TotalFacts.{total-le, total-map, total-same}
use Rattle.kt_words.specs.StateWords.{phase_of, number_of}
use Rattle.task_meaning.specs.Worths.{OfAll}
use Rattle.table_core.specs.Addresses.{Mem, super, state, units_of}
use Rattle.table_core.specs.Holdings.{Run}
use Rattle.table_core.specs.Lists.{Each}
use Rattle.table_core.specs.Own.{record_words}
use Rattle.table_core.specs.Story.{Story}
use Rattle.table_core.specs.Parts.{own, seen as table_seen}
use Rattle.table_core.specs.declared.setup.Setup.{Setup}
use Rattle.table_core.specs.declared.view.View.{View}
use Rattle.table_core.proofs.ListFacts.{at_map}
use Rattle.table_core.proofs.OwnFacts.{runs-counts, runs-phase}
use Rattle.table_core.proofs.StandingFacts.{total-some}
use Rattle.schedule_rule.specs.Calls.{task_of, after_of, is_number, IsNumber, IsTaskOf, IsComplete}
use Rattle.schedule_rule.specs.Numbers.{in_hand, in_hands}
use Rattle.schedule_rule.specs.Parts.{names, places, owners, running, begun, seen, AllSay}
use Rattle.schedule_rule.proofs.StoryFacts.{number-from, task-of-number}
use Rattle.schedule_rule.proofs.TakingFacts.{one-few}

module _ (g : Setup) (s : Story) (m : Mem) (vs : List View) where
  -- a number is taken no more often than it stands anywhere
  taken-few : (n : ℕ) → AllSay g s m vs → total (λ (v : View). times n v.taken) vs ≤ one_if (is_number s.calls n)
  taken-few n l = omega (
    arith,
    l.schedule places n,
    total-map (in_hand n) (seen places) vs,
    total-le (λ (v : View). times n v.taken) (λ (v : View). in_hand n (seen places v)) vs (λ k v there. omega arith),
  )

  -- it is taken once, and is an accepted one
  pub taken-once : (n : ℕ) → AllSay g s m vs → (total (λ (v : View). times n v.taken) vs ≤ 1) × (1 ≤ total (λ (v : View). times n v.taken) vs → IsNumber s.calls n)
  taken-once n l = (omega (arith, taken-few n l, one-few (is_number s.calls n)), (λ some. number-from s.calls n (omega (arith, some, taken-few n l))))

  -- the task of a run is an accepted one
  run-task : AllSay g s m vs → (id : ℕ) (v : View) → At vs id v → (r : Run) → Has r v.runs → IsTaskOf s.calls r.task
  run-task l id v at r has =
      let is = l.schedule running id v.runs (at_map (seen running) vs id v at) has.0 r has.1 in
      subst (IsTaskOf s.calls) (sym is.task) (task-of-number s.calls (OfAll []) (l.schedule names) r.number is.accepted).0

  -- a task runs once
  pub runs-once : (t : ℕ) → AllSay g s m vs → total (λ (v : View). passing (λ (r : Run). r.task == t) v.runs) vs ≤ 1
  runs-once t l = elim (cases_lt 0 (total (λ (v : View). passing (λ (r : Run). r.task == t) v.runs) vs)) [
    | inl some ↦
        let one = total-some (λ (v : View). passing (λ (r : Run). r.task == t) v.runs) vs (omega (arith, some)) in
        let has = (passing-some (λ (r : Run). r.task == t) (one.1).runs).0 one.3 in
        omega (
          arith,
          (l.schedule owners).once t (subst (IsTaskOf s.calls) (eqb-true (has.member).task t has.passes) (run-task l one.0 one.1 one.2 has.member has.there)),
          total-map (in_hands s.calls t) (seen owners) vs,
          total-le (λ (v : View). passing (λ (r : Run). r.task == t) v.runs) (λ (v : View). in_hands s.calls t (seen owners v)) vs (λ k v there. omega (
            arith,
            total-same (λ (r : Run). one_if (r.task == t)) (λ (r : Run). one_if (task_of s.calls r.number == t)) v.runs
                (λ j r there'. ap (λ (x : ℕ). one_if (x == t)) (l.schedule running k v.runs (at_map (seen running) vs k v there) j r there').task),
          )),
        )
    | inr none ↦ omega (arith, none)
  ]

  -- what runs is behind none that is not complete
  pub runs-behind_none : (id : ℕ) (v : View) → AllSay g s m vs → At vs id v → Each (λ (r : Run). IfSome (after_of s.calls r.number) (IsComplete s.ends)) v.runs
  runs-behind_none id v l at k r there =
      let hand = at_map (table_seen own) vs id v at in
      let phase = runs-phase g.plan (λ i. m (super i)) (λ w. m (state w)) (record_words m) (map (table_seen own) vs) (l.table own) id (table_seen own v) hand r.unit (runs-counts v.runs r (k, there)) in
      subst (λ (n : ℕ). IfSome (after_of s.calls n) (IsComplete s.ends)) (sym ((l.table own).numbers id (table_seen own v) hand k r there))
      (l.schedule begun r.unit phase.0 (ap (λ (p : ℕ). nat_le 3 p && nat_le p 4) phase.1))

-- and neither is what is ready
pub ready-behind_none : (g : Setup) (s : Story) (m : Mem) (vs : List View) (u : ℕ) → AllSay g s m vs → u < units_of g.plan → phase_of (m (state u)) ≡ 3 → IfSome (after_of s.calls (number_of (m (state u)))) (IsComplete s.ends)
ready-behind_none g s m vs u l near e = l.schedule begun u near (ap (λ (p : ℕ). nat_le 3 p && nat_le p 4) e)
