-- No number is lost: the last number of a task is that of a run once it was taken, or the task is over.
use Rattle.std.proofs.Common.{◌≡◌, ◌≢◌, ◌∙◌, inl, inr, ℕ, ◌+◌, ◌<◌, ◌≤◌, ◌==◌, Bool, true, false, List, [], refl, sym, ap, arith}
use Rattle.std.specs.Prelude.{cond}
use Rattle.std.proofs.lemmas.Bool.{cases_eq, cases_lt, eq-eqb, ne_eqb}
use Rattle.record_core.specs.Sums.{total, below}
use Rattle.record_core.specs.Counting.{At, Has, one_if, passing, times}
use Rattle.record_core.proofs.BelowFacts.{below-bounded, below-member}
use Rattle.record_core.proofs.TotalFacts.{total-bounded, total-map, total-member, total-plus, total-same}
use Rattle.kt_words.specs.StateWords.{number_of}
use Rattle.task_meaning.specs.Worths.{OfAll}
use Rattle.table_core.specs.Addresses.{Mem, state, task, units_of}
use Rattle.table_core.specs.Asking.{Drawn}
use Rattle.table_core.specs.Holdings.{Run}
use Rattle.table_core.specs.References.{is_saved}
use Rattle.table_core.specs.Story.{Story}
use Rattle.table_core.specs.declared.setup.Setup.{Setup}
use Rattle.table_core.specs.declared.view.View.{View}
use Rattle.table_core.proofs.ListFacts.{at_map, total-has}
use Rattle.schedule_rule.specs.Calls.{task_of, is_number, ends_of, IsNumber, IsTaskOf, IsLast}
use Rattle.schedule_rule.specs.Numbers.{in_state, in_hand, in_hands, saved_at, IsRun}
use Rattle.schedule_rule.specs.Parts.{askers, names, owners, places, running, seen, AllSay}
use Rattle.schedule_rule.specs.Rows.{drawn_at}
use Rattle.schedule_rule.proofs.DrawKinds.{drawn-numbers}
use Rattle.schedule_rule.proofs.StartFacts.{taken-once}
use Rattle.schedule_rule.proofs.StateFacts.{saved-record}
use Rattle.schedule_rule.proofs.StoryFacts.{task-of-number}
use Rattle.schedule_rule.proofs.TakingFacts.{one-few}

-- two tests that agree count the same
one-same : (a b c d : ℕ) → (a ≡ b → c ≡ d) → (c ≡ d → a ≡ b) → one_if (a == b) ≡ one_if (c == d)
one-same a b c d there back = elim (cases_eq a b) [
  | inl e ↦ ap one_if (eq-eqb a b e) ∙ sym (ap one_if (eq-eqb c d (there e)))
  | inr ne ↦ ap one_if (ne_eqb a b ne) ∙ sym (ap one_if (ne_eqb c d (λ e. ne (back e))))
]

module _ (g : Setup) (s : Story) (m : Mem) (vs : List View) (n : ℕ) (l : AllSay g s m vs) (taken : 1 ≤ total (λ (v : View). times n v.taken) vs) (last : IsLast s.calls n)
    (not_over : ends_of (task_of s.calls n) s.ends ≡ 0) where
  abbrev t : ℕ
  t = task_of s.calls n

  abbrev states : ℕ → ℕ
  states u = m (state u)

  abbrev tasks : ℕ → ℕ
  tasks u = m (task u)

  -- it is an accepted number
  is_number_there : IsNumber s.calls n
  is_number_there = (taken-once g s m vs n l).1 taken

  -- and its task an accepted one
  is_task : IsTaskOf s.calls t
  is_task = (task-of-number s.calls (OfAll []) (l.schedule names) n is_number_there).0

  -- the last number of the task is this one
  same-last : (k : ℕ) → IsNumber s.calls k → IsLast s.calls k → task_of s.calls k ≡ t → k ≡ n
  same-last k is is_last e = elim (cases_lt k n) [
    | inl low ↦ absurd (is_last n is_number_there low (sym e))
    | inr far ↦ elim (cases_lt n k) [
      | inl low ↦ absurd (last k is low e)
      | inr far' ↦ omega (arith, far, far')
    ]
  ]

  -- it stands in no state word, and is drawn in no hand
  elsewhere : below (in_state states n) (units_of g.plan) + total (λ (v : View). drawn_at n v.drawn) vs ≡ 0
  elsewhere = omega (
    arith,
    taken,
    l.schedule places n,
    one-few (is_number s.calls n),
    total-map (in_hand n) (seen places) vs,
    total-plus (λ (v : View). drawn_at n v.drawn) (λ (v : View). times n v.taken) vs,
  )

  -- so no drawn number is of its task
  not-drawn : (k : ℕ) (v : View) → At vs k v → (d : Drawn) → Has d v.drawn → task_of s.calls d.number ≡ t → ⊥
  not-drawn k v at d there e =
      let same : d.number ≡ n =
      same-last d.number (drawn-numbers g k v m vs s l at k v at there.0 d there.1) ((l.schedule owners).last_drawn k (seen owners v) (at_map (seen owners) vs k v at) there.0 d there.1) e in
      omega (
        arith,
        elsewhere,
        total-member (λ (x : View). drawn_at n x.drawn) vs k v at,
        total-has (λ (y : Drawn). one_if (y.number == n)) v.drawn d there,
        ap one_if (eq-eqb d.number n same),
      )

  -- no record that waits or is ready is of its task
  not-saved : below (saved_at states tasks t) (units_of g.plan) ≡ 0
  not-saved = omega (arith, below-bounded (saved_at states tasks t) 0 (units_of g.plan) (λ u near. none u near (is_saved (states u)) refl))
    where
      apart : (u : ℕ) → u < units_of g.plan → is_saved (states u) ≡ true → tasks u ≢ t
      apart u near saved e =
          let of = (l.schedule owners).is_of u near (saved-record (states u) saved) in
          let same : number_of (states u) ≡ n = same-last (number_of (states u)) of.0 ((l.schedule owners).last_saved u near saved) (sym of.1 ∙ e) in
          omega (
            arith,
            elsewhere,
            below-member (in_state states n) (units_of g.plan) u near,
            ap (λ (b : Bool). cond b (one_if (number_of (states u) == n)) 0) saved,
            ap one_if (eq-eqb (number_of (states u)) n same),
          )

      none : (u : ℕ) → u < units_of g.plan → (b : Bool) → is_saved (states u) ≡ b → saved_at states tasks t u ≤ 0
      none u near true e = omega (arith, ap (λ (b : Bool). cond b (one_if (tasks u == t)) 0) e, ap one_if (ne_eqb (tasks u) t (apart u near e)))
      none u near false e = omega (arith, ap (λ (b : Bool). cond b (one_if (tasks u == t)) 0) e)

  -- a run of its task has it
  run-is : (k : ℕ) (v : View) → At vs k v → (r : Run) → Has r v.runs → task_of s.calls r.number ≡ t → r.number ≡ n
  run-is k v at r there e = by r.asked refl
    where
      is : IsRun g.plan s.calls r
      is = l.schedule running k v.runs (at_map (seen running) vs k v at) there.0 r there.1

      by : (b : Bool) → r.asked ≡ b → r.number ≡ n
      by false none = same-last r.number is.accepted (is.last none) e
      by true some =
          let next = (l.schedule askers k (seen askers v) (at_map (seen askers) vs k v at)).asked there.0 r there.1 some in
          absurd (not-drawn k v at next.0 next.1 (next.2.task ∙ e))

  -- so the task is in hands as often as its number
  in-hands : (k : ℕ) (v : View) → At vs k v → in_hands s.calls t (seen owners v) ≡ passing (λ (r : Run). r.number == n) v.runs
  in-hands k v at = omega (
    arith,
    total-bounded (λ (d : Drawn). one_if (d.number == t)) 0 v.drawn (λ j d there. omega (arith, ap one_if (ne_eqb d.number t (λ e. not-drawn k v at d (j, there) (ap (task_of s.calls) e ∙ is_task.1))))),
    total-same (λ (r : Run). one_if (task_of s.calls r.number == t)) (λ (r : Run). one_if (r.number == n)) v.runs
        (λ j r there. one-same (task_of s.calls r.number) t r.number n (run-is k v at r (j, there)) (ap (task_of s.calls))),
  )

  -- one run has it
  pub one-runs : total (λ (v : View). passing (λ (r : Run). r.number == n) v.runs) vs ≡ 1
  one-runs = omega (
    arith,
    (l.schedule owners).once t is_task,
    not_over,
    not-saved,
    total-map (in_hands s.calls t) (seen owners) vs,
    total-same (λ (v : View). in_hands s.calls t (seen owners v)) (λ (v : View). passing (λ (r : Run). r.number == n) v.runs) vs in-hands,
  )

-- the last number of a task runs once it was taken, or the task is over
pub taken-runs_or_is_over : (g : Setup) (s : Story) (m : Mem) (vs : List View) (n : ℕ) → AllSay g s m vs → 1 ≤ total (λ (v : View). times n v.taken) vs → IsLast s.calls n → ends_of (task_of s.calls n) s.ends ≡ 0
    → total (λ (v : View). passing (λ (r : Run). r.number == n) v.runs) vs ≡ 1
taken-runs_or_is_over = one-runs
