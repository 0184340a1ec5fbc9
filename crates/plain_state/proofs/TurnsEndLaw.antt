-- The law that a turn takes one of the starts that are left.
use Rattle.std.proofs.Common.{◌≡◌, ℕ, zero, suc, ◌+◌, ◌-◌, ◌<◌, ◌≤◌, Option, Some, None, List, [], ◌∷◌, length, slice_get, refl, sym, ◌∙◌, ap, arith}
use Rattle.std.proofs.lemmas.Option.{none-some, same_Some}
use Rattle.task_syntax.specs.declared.program.Program.{Program}
use Rattle.task_syntax.specs.declared.columns.Columns.{Columns}
use Rattle.record_core.specs.Numbers.{by_number}
use Rattle.record_core.specs.Sums.{total}
use Rattle.record_core.specs.Journal.{JournalState, Starts, start_in, start_of}
use Rattle.record_core.specs.JournalLaws.{GrowsFrom}
use Rattle.record_core.specs.EndSeen.{RunPlan}
use Rattle.record_core.specs.declared.rows.ActivationRow.{ActivationRow}
use Rattle.run_model.specs.State.{Queues, Run, next_queued}
use Rattle.run_model.specs.Step.{step, steps}
use Rattle.run_model.proofs.JournalGrows.{steps_grow}
use Rattle.run_model.proofs.LiveFacts.{one_started}
use Rattle.plain_state.specs.Engine.{EngineState}
use Rattle.plain_state.specs.Sees.{IsReached, Rests}
use Rattle.plain_state.specs.Laws.{TurnsEnd, starts_left}
use Rattle.plain_state.proofs.Running.{reached_stands, reached_next}
use Rattle.plain_state.proofs.Beginning.{Starting}
use Rattle.plain_state.proofs.StartLaws.{start, step_rows}

-- lists of which the first keeps its members at each place, with no more each
module _ {A : Type 0} (f : A → ℕ) (most : (x : A) → f x ≤ 1) where
  -- each member of the one list has a place in the other, and no more there
  abbrev Lower : List A → List A → Type 0
  Lower xs ys = (k : ℕ) (x : A) → slice_get xs k ≡ Some x → (y : A) × (slice_get ys k ≡ Some y) × (f y ≤ f x)

  -- no sum is above the length
  sum_most : (ys : List A) → total f ys ≤ length ys
  sum_most [] = omega arith
  sum_most (y ∷ ys) = omega (arith, most y, sum_most ys)

  -- the sum rises at most with the length
  lower : (xs ys : List A) → Lower xs ys → total f ys + length xs ≤ total f xs + length ys
  lower [] ys less = omega (arith, sum_most ys)
  lower (x ∷ xs) [] less = let (y, there, le) = less 0 x refl in absurd (none-some y there)
  lower (x ∷ xs) (y ∷ ys) less =
      let (z, there, le) = less 0 x refl in
      let same : f y ≡ f z = ap f (same_Some y z there) in
      omega (arith, same, le, lower xs ys (λ k w e. less (suc k) w e))

  -- and one is less
  lower_once : (xs ys : List A) (k : ℕ) (x y : A) → Lower xs ys → slice_get xs k ≡ Some x → slice_get ys k ≡ Some y → f y < f x → total f ys + length xs < total f xs + length ys
  lower_once [] ys k x y less there now lt = absurd (none-some x there)
  lower_once (w ∷ xs) [] k x y less there now lt = absurd (none-some y now)
  lower_once (w ∷ xs) (v ∷ ys) zero x y less there now lt =
      let is_w : f w ≡ f x = ap f (same_Some w x there) in
      let is_v : f v ≡ f y = ap f (same_Some v y now) in
      omega (arith, is_w, is_v, lt, lower xs ys (λ j z e. less (suc j) z e))
  lower_once (w ∷ xs) (v ∷ ys) (suc k) x y less there now lt =
      let (z, stands, le) = less 0 w refl in
      let same : f v ≡ f z = ap f (same_Some v z stands) in
      omega (arith, same, le, lower_once xs ys k x y (λ j u e. less (suc j) u e) there now lt)

  -- the other list is not shorter
  lower_long : (xs ys : List A) → Lower xs ys → length xs ≤ length ys
  lower_long [] ys less = omega arith
  lower_long (x ∷ xs) [] less = let (y, there, le) = less 0 x refl in absurd (none-some y there)
  lower_long (x ∷ xs) (y ∷ ys) less = omega (arith, lower_long xs ys (λ j u e. less (suc j) u e))

-- a row that has not started
abbrev waiting : Option ℕ → ℕ
waiting o = elim o [ None ↦ 1 | Some s ↦ 0 ]

-- one at most
waiting_most : (o : Option ℕ) → waiting o ≤ 1
waiting_most None = omega arith
waiting_most (Some s) = omega arith

-- a start that is kept
waiting_kept : (one other : Option ℕ) → ((s : ℕ) → one ≡ Some s → other ≡ Some s) → waiting other ≤ waiting one
waiting_kept None other kept = waiting_most other
waiting_kept (Some s) other kept = let gone : waiting other ≡ 0 = ap waiting (kept s refl) in omega (arith, gone)

-- whether a row has not started
abbrev waiting_row : ActivationRow → ℕ
waiting_row row = elim row.start [ None ↦ 1 | Some s ↦ 0 ]

-- the starts that are left to a journal
abbrev left_of : JournalState → ℕ
left_of j = total waiting_row j.rows + (j.limit - length j.rows)

module _ (p : Program) (c : Columns) (plan : RunPlan) (e : EngineState) (r : Run) (taken unit : ℕ) (left : Queues) (rests : Rests p c plan e r) (next : next_queued e.store.ready ≡ Some (unit, left)) where
  -- the run at the end of the turn
  abbrev later : Run
  later = steps p c plan.units (suc taken) r

  -- its journal has grown
  grows : GrowsFrom r.journal later.journal
  grows = steps_grow p c plan.limit plan.units (suc taken) r (reached_stands p c plan r rests.reached)

  -- a start stays
  less : (k : ℕ) (row : ActivationRow) → slice_get r.journal.rows k ≡ Some row → (then : ActivationRow) × (slice_get later.journal.rows k ≡ Some then) × (waiting_row then ≤ waiting_row row)
  less k row there =
      let (start, now) = grows.rows (suc k) row there in
      (record row { start = start }, now, waiting_kept row.start start (λ s is. sym (ap start_in now) ∙ grows.stamps (Starts (suc k)) s (ap start_in there ∙ is)))

  -- the one that started has a stamp from then on
  begun : Starting p plan.units e r unit left → (s : ℕ) × (start_of later.journal.rows (start p c plan e r unit left rests next).n ≡ Some s)
  begun st =
      let on = start p c plan e r unit left rests next in
      let one = one_started r.journal.rows on.n (r.journal.stamps + 1) on.row on.there in
      let first : start_of (step p c plan.units r).journal.rows on.n ≡ Some (r.journal.stamps + 1) = ap (λ rows. start_of rows on.n) (step_rows p c plan e r unit left rests next) ∙ ap start_in one.here in
      let rest = steps_grow p c plan.limit plan.units taken (step p c plan.units r) (reached_stands p c plan (step p c plan.units r) (reached_next p c plan r rests.reached)) in
      (r.journal.stamps + 1, rest.stamps (Starts on.n) (r.journal.stamps + 1) first)

  -- one start less, but for the rows that came
  fewer : total waiting_row later.journal.rows + length r.journal.rows < total waiting_row r.journal.rows + length later.journal.rows
  fewer = let on = start p c plan e r unit left rests next in let (s, has) = begun on in by on.n on.row on.there on.waits s has
    where
      by : (n : ℕ) (row : ActivationRow) → by_number r.journal.rows n ≡ Some row → row.start ≡ None → (s : ℕ) → start_of later.journal.rows n ≡ Some s
          → total waiting_row later.journal.rows + length r.journal.rows < total waiting_row r.journal.rows + length later.journal.rows
      by zero row there waits s has = absurd (none-some row there)
      by (suc k) row there waits s has =
          let (start, now) = grows.rows (suc k) row there in
          let stamped : start ≡ Some s = sym (ap start_in now) ∙ has in
          let was : waiting_row row ≡ 1 = ap waiting waits in
          let is : waiting_row (record row { start = start }) ≡ 0 = ap waiting stamped in
          lower_once waiting_row (λ x. waiting_most x.start) r.journal.rows later.journal.rows k row (record row { start = start }) less there now (omega (arith, was, is))

  -- so fewer are left
  pub fewer_left : IsReached p c plan later → left_of later.journal < left_of r.journal
  fewer_left reached =
      let now = (reached_stands p c plan later reached).journal in
      let was = (reached_stands p c plan r rests.reached).journal in
      let in_now = now.journal.within in
      let in_was = was.journal.within in
      let longer = lower_long waiting_row (λ x. waiting_most x.start) r.journal.rows later.journal.rows less in
      omega (arith, fewer, longer, in_now, in_was, now.of_plan, was.of_plan)

-- the law on turns
pub turns_end : TurnsEnd
turns_end p c plan e new r taken unit left run rests next then =
    let fewer = fewer_left p c plan e r taken unit left rests next then.reached in
    let now : starts_left new ≡ left_of (steps p c plan.units (suc taken) r).journal = ap left_of then.sees.journal in
    let was : starts_left e ≡ left_of r.journal = ap left_of rests.sees.journal in
    omega (arith, fewer, now, was)
