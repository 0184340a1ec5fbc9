-- How often a task is referred to.
use Rattle.std.proofs.Common.{◌≡◌, ◌≢◌, ◌↔◌, ℕ, zero, suc, ◌+◌, ◌<◌, ◌≤◌, ◌^◌, Bool, true, false, cond, nat_eq, ◌||◌, Option, Some, None, List, [], ◌∷◌, ◌++◌, length, map, slice_get, refl, sym, ◌∙◌, ap, ⊎_elim, arith, eq-eqb}
use Rattle.std.specs.List.{list_any}
use Rattle.std.proofs.lemmas.Bool.{cases_eq, false≢true, eqb-true}
use Rattle.std.proofs.lemmas.Option.{none-some, same_Some}
use Rattle.task_syntax.specs.Facts.{has}
use Rattle.frame_code.specs.Words.{OfKind, OfMembers}
use Rattle.frame_code.specs.Names.{names_of, present}
use Rattle.record_core.specs.Numbers.{by_number, put_number, flat, found}
use Rattle.record_core.specs.Sums.{total}
use Rattle.record_core.proofs.NumberFacts.{total-put}
use Rattle.record_core.proofs.TotalFacts.{total-append, total-map, total-bounded}
use Rattle.run_model.specs.State.{Body, RootWord, Named, Refused, Skipped, Run}
use Rattle.run_model.specs.Placing.{is_task, task_names, root_names, is_open}
use Rattle.run_model.specs.Step.{with_body}
use Rattle.run_model.proofs.ByNumber.{found_put, found_put_other, found_within}
use Rattle.plain_state.specs.Sees.{times, body_times, root_times, references, with_hand, InUse}

-- a test says whether a count is above 0
abbrev Counts : Bool → ℕ → Type 0
Counts test count = (test ≡ true) ↔ (1 ≤ count)

-- a test counts once
bit : (b : Bool) → Counts b (cond b 1 0)
bit true = (λ e. omega arith, λ le. refl)
bit false = (λ e. absurd (false≢true e), λ le. absurd (omega (arith, le)))

-- one of two tests
or_counts : (a b : Bool) (m n : ℕ) → Counts a m → Counts b n → Counts (a || b) (m + n)
or_counts true b m n one other = (λ e. omega (arith, one.0 refl), λ le. refl)
or_counts false b m n one other = (λ e. omega (arith, other.0 e), λ le. other.1 (omega (arith, le, none m one)))
  where
    none : (m : ℕ) → Counts false m → m ≡ 0
    none zero h = refl
    none (suc m) h = absurd (false≢true (h.1 (omega arith)))

-- some member passes where the sum is above 0
any_counts : {A : Type 0} (test : A → Bool) (count : A → ℕ) (xs : List A) → ((x : A) → Counts (test x) (count x))
    → Counts (list_any test xs) (total count xs)
any_counts test count [] each = (λ e. absurd (false≢true e), λ le. absurd (omega (arith, le)))
any_counts test count (x ∷ xs) each = or_counts (test x) (list_any test xs) (count x) (total count xs) (each x) (any_counts test count xs each)

-- a root names a task or does not
root_counts : (t : ℕ) (word : RootWord) → Counts (root_names t word) (root_times t word)
root_counts t (Named u) = bit (nat_eq u t)
root_counts t (Refused tag) = bit false
root_counts t (Skipped at tag) = bit false

-- numbers are equal both ways
nat_eq_sym : (a b : ℕ) → nat_eq a b ≡ true → nat_eq b a ≡ true
nat_eq_sym a b e = eq-eqb b a (sym (eqb-true a b e))

-- variables that name a task
future_counts : (t : ℕ) (futures : List (Option ℕ)) → Counts (list_any (is_task t) futures) (times t (present futures))
future_counts t [] = bit false
future_counts t (None ∷ futures) = future_counts t futures
future_counts t (Some u ∷ futures) =
    or_counts (nat_eq u t) (list_any (is_task t) futures) (cond (nat_eq u t) 1 0) (times t (present futures)) (bit (nat_eq u t))
    (future_counts t futures)

-- members that are a task
member_counts : (t : ℕ) (members : List ℕ) → Counts (has t members) (times t members)
member_counts t members = any_counts (nat_eq t) (λ x. cond (nat_eq x t) 1 0) members each
  where
    each : (x : ℕ) → Counts (nat_eq t x) (cond (nat_eq x t) 1 0)
    each x = (λ e. (bit (nat_eq x t)).0 (nat_eq_sym t x e), λ le. nat_eq_sym x t ((bit (nat_eq x t)).1 le))

-- a body names a task or does not
body_counts : (t : ℕ) (o : Option Body) → Counts (task_names t o) (body_times t o)
body_counts t None = bit false
body_counts t (Some (OfKind q)) = future_counts t q.futures
body_counts t (Some (OfMembers members next)) = member_counts t members

-- the roots with those in hand before them
pub hand_roots : (t : ℕ) (hand : List ℕ) (roots : List RootWord)
    → total (root_times t) (map Named hand ++ roots) ≡ times t hand + total (root_times t) roots
hand_roots t hand roots = omega (arith, total-append (root_times t) (map Named hand) roots, total-map (root_times t) Named hand)

-- a task is in use exactly where it is referred to
pub in_use_counts : (hand : List ℕ) (r : Run) (t : ℕ) → InUse hand r t ↔ (1 ≤ references hand r t)
in_use_counts hand r t =
    let all = or_counts (is_open (found r.bodies t)) (list_any (root_names t) (with_hand hand r).roots || list_any (task_names t) r.bodies)
    (cond (is_open (found r.bodies t)) 1 0)
    (total (root_times t) (with_hand hand r).roots + total (body_times t) r.bodies) (bit (is_open (found r.bodies t)))
    (or_counts (list_any (root_names t) (with_hand hand r).roots) (list_any (task_names t) r.bodies) (total (root_times t) (with_hand hand r).roots)
    (total (body_times t) r.bodies)
    (any_counts (root_names t) (root_times t) (with_hand hand r).roots (root_counts t))
    (any_counts (task_names t) (body_times t) r.bodies (body_counts t))) in
    (λ used. omega (arith, all.0 used, hand_roots t hand r.roots), λ le. all.1 (omega (arith, le, hand_roots t hand r.roots)))

-- a task that stands in hand, one in a list, and how often
pub times_itself : (t : ℕ) → ◌≡◌ {A = ℕ} (cond (nat_eq t t) 1 0) 1
times_itself t = ap (λ b. cond b 1 0) (eq-eqb t t refl)

-- another task is not counted
pub times_other : (t u : ℕ) → u ≢ t → ◌≡◌ {A = ℕ} (cond (nat_eq u t) 1 0) 0
times_other t u differ = by (nat_eq u t) refl
  where
    by : (b : Bool) → nat_eq u t ≡ b → ◌≡◌ {A = ℕ} (cond b 1 0) 0
    by true e = absurd (differ (eqb-true u t e))
    by false e = refl

-- in two lists, one behind the other
pub times_append : (t : ℕ) (xs ys : List ℕ) → times t (xs ++ ys) ≡ times t xs + times t ys
times_append t xs ys = total-append (λ x. cond (nat_eq x t) 1 0) xs ys

-- no more often than the list is long
pub times_bound : (t : ℕ) (xs : List ℕ) → times t xs ≤ length xs
times_bound t xs = omega (arith, total-bounded (λ x. cond (nat_eq x t) 1 0) 1 xs (λ place x e. at_most (nat_eq x t)))
  where
    at_most : (b : Bool) → ◌≤◌ (cond b 1 0) 1
    at_most true = omega arith
    at_most false = omega arith

-- a member of a list stands in it, and what stands in it is a member
pub times_member : (t : ℕ) (xs : List ℕ) (at : ℕ) → slice_get xs at ≡ Some t → 1 ≤ times t xs
times_member t [] at e = absurd (none-some t e)
times_member t (x ∷ xs) zero e =
    let same = same_Some x t e in let one = times_itself t in let here : ◌≡◌ {A = ℕ} (cond (nat_eq x t) 1 0) (cond (nat_eq t t) 1 0) =
    ap (λ y. cond (nat_eq y t) 1 0) same in omega (arith, one, here)
times_member t (x ∷ xs) (suc at) e = omega (arith, times_member t xs at e)

-- what is counted stands at some place
pub times_there : (t : ℕ) (xs : List ℕ) → 1 ≤ times t xs → (at : ℕ) × (slice_get xs at ≡ Some t)
times_there t [] le = absurd (omega (arith, le))
times_there t (x ∷ xs) le =
    ⊎_elim (λ same. (0, ap Some same)) (λ differ. let (at, e) = times_there t xs (omega (arith, le, times_other t x differ)) in (suc at, e))
    (cases_eq x t)

-- one more in hand
pub references_held : (hand : List ℕ) (r : Run) (t u : ℕ) → references (u ∷ hand) r t ≡ references hand r t + cond (nat_eq u t) 1 0
references_held hand r t u = omega arith

-- one body in place of another
pub open_there : (bodies : List (Option Body)) (t : ℕ) (old : Body) → found bodies t ≡ Some old → by_number bodies t ≡ Some (Some old)
open_there bodies t old e = by (by_number bodies t) refl e
  where
    by : (o : Option (Option Body)) → by_number bodies t ≡ o → flat o ≡ Some old → by_number bodies t ≡ Some (Some old)
    by None there f = absurd (none-some old f)
    by (Some b) there f = there ∙ ap Some f

-- the names of a body in all bodies, after another one, or none, took its place
pub body_total : (bodies : List (Option Body)) (t u : ℕ) (old : Body) (new : Option Body) → found bodies t ≡ Some old
    → total (body_times u) (put_number bodies t new) + times u (names_of old) ≡ total (body_times u) bodies + body_times u new
body_total bodies t u old new has = total-put (body_times u) bodies t (Some old) new (open_there bodies t old has)

-- the same tasks are under way
pub open_kept : (bodies : List (Option Body)) (t u : ℕ) (old new : Body) → found bodies t ≡ Some old
    → is_open (found (put_number bodies t (Some new)) u) ≡ is_open (found bodies u)
open_kept bodies t u old new has =
    ⊎_elim
    (λ same. let within = found_within bodies t old has in ap (λ v. is_open (found (put_number bodies t (Some new)) v)) same
    ∙ ap is_open (found_put bodies t (Some new) within.0 within.1) ∙ sym (ap is_open (ap (found bodies) same ∙ has)))
    (λ differ. ap is_open (found_put_other bodies t u (Some new) differ))
    (cases_eq u t)

-- the references after another body took the place of one
pub references_body : (hand : List ℕ) (r : Run) (t u : ℕ) (old new : Body) → found r.bodies t ≡ Some old
    → references hand (with_body r t new) u + times u (names_of old) ≡ references hand r u + times u (names_of new)
references_body hand r t u old new has =
    let same : ◌≡◌ {A = ℕ} (cond (is_open (found (put_number r.bodies t (Some new)) u)) 1 0) (cond (is_open (found r.bodies u)) 1 0) =
    ap (λ b. cond b 1 0) (open_kept r.bodies t u old new has) in
    omega (arith, same, body_total r.bodies t u old (Some new) has)

-- a task that a body names, or that is under way, or in hand, is in use
pub in_use_open : (hand : List ℕ) (r : Run) (t : ℕ) (body : Body) → found r.bodies t ≡ Some body → InUse hand r t
in_use_open hand r t body has =
    let one : ◌≡◌ {A = ℕ} (cond (is_open (found r.bodies t)) 1 0) 1 = ap (λ o. cond (is_open o) 1 0) has in
    (in_use_counts hand r t).1 (omega (arith, one))

-- what a body names is in use
pub in_use_named : (hand : List ℕ) (r : Run) (t u : ℕ) (body : Body) → found r.bodies t ≡ Some body → 1 ≤ times u (names_of body) → InUse hand r u
in_use_named hand r t u body has named = (in_use_counts hand r u).1 (omega (arith, body_total r.bodies t u body None has, named))

-- what is in hand is in use
pub in_use_hand : (hand : List ℕ) (r : Run) (t : ℕ) → 1 ≤ times t hand → InUse hand r t
in_use_hand hand r t le = (in_use_counts hand r t).1 (omega (arith, le))

-- A bound: where each body names at most 63 tasks, there are few bodies and roots, and few are in hand.
pub references_bound : (hand : List ℕ) (r : Run) (t : ℕ) → ((u : ℕ) (body : Body) → found r.bodies u ≡ Some body → length (names_of body) ≤ 63)
    → length r.bodies ≤ 4000000 → length r.roots ≤ 16 → length hand ≤ 1000 → references hand r t + 1 < 2 ^ 32
references_bound hand r t names bodies roots held =
    let of_bodies = total-bounded (body_times t) 63 r.bodies (λ place o e. body_bound o (λ body same. names (suc place) body (ap flat e ∙ same))) in
    let of_roots = total-bounded (root_times t) 1 r.roots (λ place word e. root_bound word) in
    omega (arith, of_bodies, of_roots, times_bound t hand, bodies, roots, held, open_bound (is_open (found r.bodies t)))
  where
    body_bound : (o : Option Body) → ((body : Body) → o ≡ Some body → length (names_of body) ≤ 63) → body_times t o ≤ 63
    body_bound None h = omega arith
    body_bound (Some body) h = omega (arith, times_bound t (names_of body), h body refl)

    open_bound : (b : Bool) → ◌≤◌ (cond b 1 0) 1
    open_bound true = omega arith
    open_bound false = omega arith

    root_bound : (word : RootWord) → root_times t word ≤ 1
    root_bound (Named u) = open_bound (nat_eq u t)
    root_bound (Refused tag) = omega arith
    root_bound (Skipped at tag) = omega arith
