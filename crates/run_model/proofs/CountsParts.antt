-- What stands of counts after each part of a move.
use Rattle.std.proofs.Common.{◌≡◌, ◌≢◌, ℕ, zero, suc, ◌+◌, ◌≤◌, cond, nat_eq, Option, Some, None, List, [], ◌∷◌, ◌++◌, length, refl, sym, ◌∙◌, ap, subst, inl, inr, ⊎_elim, arith, ne_eqb, eq-eqb}
use Rattle.std.specs.Prelude.{◌⊎◌, slice_set}
use Rattle.std.proofs.lemmas.Option.{none-some, same_Some}
use Rattle.task_syntax.specs.declared.program.Program.{Program}
use Rattle.task_syntax.specs.declared.columns.Columns.{Columns}
use Rattle.task_meaning.specs.Meant.{Counts}
use Rattle.task_meaning.specs.Frame.{FrameOf}
use Rattle.task_meaning.specs.FrameCounts.{RestCounts}
use Rattle.task_meaning.specs.Worths.{Accepted}
use Rattle.frame_code.specs.Words.{OfKind, OfMembers}
use Rattle.record_core.specs.Sums.{total}
use Rattle.record_core.specs.Numbers.{by_number, put_number, found}
use Rattle.record_core.specs.Journal.{tasks_from, task_count}
use Rattle.record_core.specs.declared.rows.ActivationRow.{ActivationRow}
use Rattle.record_core.proofs.TotalFacts.{total-set}
use Rattle.run_model.specs.State.{Body}
use Rattle.run_model.proofs.ByNumber.{number_within, snoc_cases, found_new, found_other, found_put, found_put_other}
use Rattle.run_model.proofs.NumbersInvariant.{IsLiveAt}
use Rattle.run_model.proofs.CountsInvariant.{BodyCounts, BodiesCount}

-- a member is put at a number
pub put_cases : {A : Type 0} (xs : List A) (t u : ℕ) (x y : A) → by_number (put_number xs t x) u ≡ Some y → ((u ≡ t) × (y ≡ x)) ⊎ ((u ≢ t) × (by_number xs u ≡ Some y))
put_cases [] zero u x y e = absurd (by u e)
  where
    by : (u : ℕ) → by_number [] u ≡ Some y → ⊥
    by zero e = none-some y e
    by (suc u) e = none-some y e
put_cases [] (suc t) zero x y e = absurd (none-some y e)
put_cases [] (suc t) (suc u) x y e = absurd (none-some y e)
put_cases (z ∷ xs) zero zero x y e = absurd (none-some y e)
put_cases (z ∷ xs) zero (suc u) x y e = inr (λ same. absurd (omega (arith, same)), e)
put_cases (z ∷ xs) (suc t) zero x y e = absurd (none-some y e)
put_cases (z ∷ xs) (suc zero) (suc zero) x y e = inl (refl, sym (same_Some x y e))
put_cases (z ∷ xs) (suc zero) (suc (suc u)) x y e = inr (λ same. absurd (omega (arith, same)), e)
put_cases (z ∷ xs) (suc (suc t)) (suc zero) x y e = inr (λ same. absurd (omega (arith, same)), e)
put_cases (z ∷ xs) (suc (suc t)) (suc (suc u)) x y e =
    ⊎_elim (λ same. inl (ap suc same.0, same.1)) (λ differ. inr (λ same. differ.0 (omega (arith, same)), differ.1)) (put_cases xs (suc t) (suc u) x y e)

-- the last one that is put at a number stays
pub put_twice : {A : Type 0} (xs : List A) (t : ℕ) (x y : A) → put_number (put_number xs t x) t y ≡ put_number xs t y
put_twice {A = A} xs zero x y = refl
put_twice {A = A} xs (suc k) x y = go xs k
  where
    go : (xs : List A) (k : ℕ) → slice_set (slice_set xs k x) k y ≡ slice_set xs k y
    go [] k = refl
    go (z ∷ xs) zero = refl
    go (z ∷ xs) (suc k) = ap (λ rest. z ∷ rest) (go xs k)

-- the sum where one is put at a number
pub total_put : {A : Type 0} (f : A → ℕ) (xs : List A) (t : ℕ) (old new : A) → by_number xs t ≡ Some old → total f (put_number xs t new) + f old ≡ total f xs + f new
total_put f xs zero old new e = absurd (none-some old e)
total_put f xs (suc k) old new e = total-set f xs k old new e

-- whether the row is the first of its task, at the same number
first_of : (row : ActivationRow) (n m : ℕ) → n ≡ m → ◌≡◌ {A = ℕ} (cond (nat_eq row.task n) 1 0) (cond (nat_eq row.task m) 1 0)
first_of row n m same = ap (λ k. cond (nat_eq row.task k) 1 0) same

-- one more row: a first one of a task counts
pub tasks_more : (n : ℕ) (rows : List ActivationRow) (row : ActivationRow) → tasks_from n (rows ++ row ∷ []) ≡ tasks_from n rows + cond (nat_eq row.task (n + length rows)) 1 0
tasks_more n [] row = omega (arith, first_of row n (n + 0) (omega arith))
tasks_more n (first ∷ rows) row = omega (arith, tasks_more (suc n) rows row, first_of row (suc n + length rows) (n + suc (length rows)) (omega arith))

-- the row of a new task counts one
pub new_task_counts : (rows : List ActivationRow) (row : ActivationRow) → row.task ≡ suc (length rows) → task_count (rows ++ row ∷ []) ≡ task_count rows + 1
new_task_counts rows row same = let one : ◌≡◌ {A = ℕ} (cond (nat_eq row.task (1 + length rows)) 1 0) 1 = ap (λ x. cond x 1 0) (eq-eqb row.task (1 + length rows) (omega (arith, same))) in omega (arith, tasks_more 1 rows row, one)

-- and a row of an older task none
pub old_task_counts : (rows : List ActivationRow) (row : ActivationRow) → row.task ≤ length rows → task_count (rows ++ row ∷ []) ≡ task_count rows
old_task_counts rows row within =
    let none : ◌≡◌ {A = ℕ} (cond (nat_eq row.task (1 + length rows)) 1 0) 0 = ap (λ x. cond x 1 0) (ne_eqb row.task (1 + length rows) (λ same. absurd (omega (arith, same, within)))) in
    omega (arith, tasks_more 1 rows row, none)

module _ (p : Program) (c : Columns) where
  -- a task stands at another body, and other counts are left of it
  pub bodies_put : (rows : List ActivationRow) (running : Option ℕ) (calls : List Accepted) (bodies : List (Option Body)) (left : List Counts) (t : ℕ) (body : Option Body) (k : Counts)
      → 1 ≤ t → t ≤ length bodies → BodiesCount p c rows running calls bodies left → BodyCounts p c rows running calls t body k
      → BodiesCount p c rows running calls (put_number bodies t body) (put_number left t k)
  bodies_put rows running calls bodies left t body k some within now new u j e =
      ⊎_elim
      (λ same.
      let here : found (put_number bodies t body) u ≡ body = ap (found (put_number bodies t body)) same.0 ∙ found_put bodies t body some within in
      subst (λ b. BodyCounts p c rows running calls u b j) (sym here) (subst (λ x. BodyCounts p c rows running calls x body j) (sym same.0) (subst (λ x. BodyCounts p c rows running calls t body x) (sym same.1) new)))
      (λ differ. subst (λ b. BodyCounts p c rows running calls u b j) (sym (found_put_other bodies t u body differ.0)) (now u j differ.1))
      (put_cases left t u k j e)

  -- one more number
  pub bodies_snoc : (rows : List ActivationRow) (running : Option ℕ) (calls : List Accepted) (bodies : List (Option Body)) (left : List Counts) (body : Option Body) (k : Counts)
      → length left ≡ length bodies → BodiesCount p c rows running calls bodies left → BodyCounts p c rows running calls (suc (length bodies)) body k
      → BodiesCount p c rows running calls (bodies ++ body ∷ []) (left ++ k ∷ [])
  bodies_snoc rows running calls bodies left body k beside now new u j e =
      ⊎_elim
      (λ old.
      let within = number_within left u j old in
      subst (λ b. BodyCounts p c rows running calls u b j) (sym (found_other bodies body u (λ same. absurd (omega (arith, same, within.1, beside))))) (now u j old))
      (λ added.
      let is_new : u ≡ suc (length bodies) = omega (arith, added.0, beside) in
      subst (λ b. BodyCounts p c rows running calls u b j) (sym (found_new bodies body u is_new))
      (subst (λ x. BodyCounts p c rows running calls x body j) (sym is_new) (subst (λ x. BodyCounts p c rows running calls (suc (length bodies)) body x) (sym added.1) new)))
      (snoc_cases left k u j e)

  -- other rows, where each live number stays so, and what is counted from its frame
  pub bodies_later : (rows rows' : List ActivationRow) (running running' : Option ℕ) (calls calls' : List Accepted) (bodies : List (Option Body)) (left : List Counts)
      → ((t n : ℕ) (row : ActivationRow) (q : FrameOf ℕ) → found bodies t ≡ Some (OfKind q) → IsLiveAt rows running t n row
      → (row' : ActivationRow) × IsLiveAt rows' running' t n row' × ((k : Counts) → RestCounts p c calls row.after q k → RestCounts p c calls' row'.after q k))
      → BodiesCount p c rows running calls bodies left → BodiesCount p c rows' running' calls' bodies left
  bodies_later rows rows' running running' calls calls' bodies left stays now t k e = by (found bodies t) refl (now t k e)
    where
      by : (body : Option Body) → found bodies t ≡ body → BodyCounts p c rows running calls t body k → BodyCounts p c rows' running' calls' t body k
      by None is_body was = was
      by (Some (OfMembers members next)) is_body was = was
      by (Some (OfKind q)) is_body was =
          let (n, row, live, rest) = was in
          let (row', live', later) = stays t n row q is_body live in (n, row', live', later k rest)
