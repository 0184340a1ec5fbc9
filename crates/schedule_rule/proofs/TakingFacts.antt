-- What a take needs of words and lists: the words of a block as a list, what becomes known of them, the references that a frame brings,
-- and that no more numbers are taken than there are.
use Rattle.std.proofs.Common.{◌≡◌, ◌∙◌, ◌⊎◌, inl, inr, ℕ, zero, suc, ◌+◌, ◌<◌, ◌≤◌, ◌==◌, Bool, true, false, cond, Option, Some, None, List, [], ◌∷◌, ◌++◌, map, length, refl, sym, ap, subst, true≢false, arith}
use Rattle.std.specs.Prelude.{slice_index, IsTrue, nat_eq, ◌||◌}
use Rattle.std.specs.List.{cons_option}
use Rattle.std.proofs.lemmas.Bool.{cases_eq, eq-eqb, eqb-true, ne_eqb}
use Rattle.record_core.specs.Sums.{total, below}
use Rattle.record_core.specs.Counting.{At, Has, one_if, times}
use Rattle.record_core.proofs.BelowFacts.{below-set, below-bounded, below-plus, below-front}
use Rattle.record_core.proofs.TotalFacts.{none_there, total-append, total-below, total-bounded, total-map, total-same}
use Rattle.task_syntax.specs.Facts.{has}
use Rattle.task_syntax.specs.Places.{AllDiffer}
use Rattle.task_syntax.specs.Valid.{Way}
use Rattle.task_syntax.specs.declared.program.State.{State}
use Rattle.task_syntax.specs.declared.program.Program.{Program}
use Rattle.task_meaning.specs.Meant.{future_at}
use Rattle.frame_code.specs.Names.{present, names_of, named}
use Rattle.frame_code.specs.Ways.{BodyHasWay}
use Rattle.frame_code.specs.Words.{BodyOf, OfKind, OfMembers, words_from, body_at}
use Rattle.table_core.specs.Addresses.{Addr, arena, is_same}
use Rattle.table_core.specs.Holdings.{Run}
use Rattle.table_core.specs.Lists.{Each}
use Rattle.table_core.specs.Own.{known_in}
use Rattle.table_core.proofs.AddressFacts.{same-is}
use Rattle.table_core.proofs.ListFacts.{each-cons, same_some}
use Rattle.schedule_rule.specs.Frames.{HeldAmong, Covers, needed, BagSound}
use Rattle.schedule_rule.specs.TakingViews.{with_words}

-- a list of words has as many as were read
pub length-words : (f : ℕ → ℕ) (k n : ℕ) → length (words_from f k n) ≡ n
length-words f k zero = refl
length-words f k (suc n) = ap suc (length-words f (k + 1) n)

-- and reads as they do
pub read-words : (f : ℕ → ℕ) (k n j : ℕ) → j < n → slice_index (words_from f k n) j ≡ f (k + j)
read-words f k zero j low = absurd (omega (arith, low))
read-words f k (suc n) zero low = ap f (omega arith)
read-words f k (suc n) (suc j) low = read-words f (k + 1) n j (omega (arith, low)) ∙ ap f (omega arith)

-- what is known of words beside these is known still; of each of these the word is known
pub known-words : (k : ℕ) (ws : List ℕ) (known : List (Addr × ℕ)) (a : Addr) (n : ℕ) → known_in a (with_words k ws known) ≡ Some n
    → ((j : ℕ) × (j < length ws) × (a ≡ arena (k + j)) × (n ≡ slice_index ws j)) ⊎ (known_in a known ≡ Some n)
known-words k [] known a n is = inr is
known-words k (w ∷ ws) known a n is = by (is_same (arena k) a) refl is (known-words (k + 1) ws known a n)
  where
    by : (b : Bool) → is_same (arena k) a ≡ b → cond b (Some w) (known_in a (with_words (k + 1) ws known)) ≡ Some n
        → (known_in a (with_words (k + 1) ws known) ≡ Some n → ((j : ℕ) × (j < length ws) × (a ≡ arena (k + 1 + j)) × (n ≡ slice_index ws j)) ⊎ (known_in a known ≡ Some n))
        → ((j : ℕ) × (j < suc (length ws)) × (a ≡ arena (k + j)) × (n ≡ slice_index (w ∷ ws) j)) ⊎ (known_in a known ≡ Some n)
    by true e found later = inl (0, omega arith, sym (same-is (arena k) a e) ∙ ap arena (omega arith), sym (same_some w n found))
    by false e found later = elim (later found) [
      | inl t ↦ inl (suc t.0, omega (arith, t.1), t.2 ∙ ap arena (omega arith), t.3)
      | inr t ↦ inr t
    ]

-- the numbers below n, the greatest first
abbrev pub first_numbers : ℕ → List ℕ
first_numbers zero = []
first_numbers (suc n) = n ∷ first_numbers n

-- each of them is a member
first-has : (n x : ℕ) → x < n → Has x (first_numbers n)
first-has zero x low = absurd (omega (arith, low))
first-has (suc n) x low = elim (cases_eq x n) [
  | inl e ↦ (0, ap Some (sym e))
  | inr ne ↦ let t = first-has n x (omega (arith, low, ne)) in (suc t.0, t.1)
]

-- a member and its place add up to the number before n
first-below : (n k x : ℕ) → At (first_numbers n) k x → x + k + 1 ≡ n
first-below zero k x there = absurd (none_there x there)
first-below (suc n) zero x there = omega (arith, same_some n x there)
first-below (suc n) (suc k) x there = omega (arith, first-below n k x there)

-- they differ
first-differ : (n : ℕ) → AllDiffer (first_numbers n)
first-differ n i j x there there' = omega (arith, first-below n i x there, first-below n j x there')

-- how often an option is this unit
abbrev some_is : ℕ → Option ℕ → ℕ
some_is u None = 0
some_is u (Some w) = one_if (w == u)

-- a unit is named as often as it stands among the options
times-present : (u : ℕ) (os : List (Option ℕ)) → times u (present os) ≡ total (some_is u) os
times-present u [] = refl
times-present u (o ∷ os) = by o (times-present u os)
  where
    by : (o' : Option ℕ) → times u (present os) ≡ total (some_is u) os → times u (cons_option o' (present os)) ≡ some_is u o' + total (some_is u) os
    by None rest = omega (arith, rest)
    by (Some w) rest = ap (λ (n : ℕ). one_if (w == u) + n) rest

-- the first variables name no more than all of them
futures-below : (u : ℕ) (os : List (Option ℕ)) (n : ℕ) → below (λ x. some_is u (future_at os x)) n ≤ total (some_is u) os
futures-below u [] n = omega (arith, below-bounded (λ x. some_is u (future_at {A = ℕ} [] x)) 0 n (λ k low. omega arith))
futures-below u (o ∷ os) zero = omega arith
futures-below u (o ∷ os) (suc n) = omega (arith, below-front (λ x. some_is u (future_at (o ∷ os) x)) n, futures-below u os n)

-- a sum over them is one over the numbers below n
first-total : (f : ℕ → ℕ) (n : ℕ) → total f (first_numbers n) ≡ below f n
first-total f zero = refl
first-total f (suc n) = omega (arith, first-total f n)

-- a bound of the members of a list
abbrev above : List ℕ → ℕ
above [] = 0
above (x ∷ xs) = suc x + above xs

-- a member is below it
below-above : (x : ℕ) (xs : List ℕ) → IsTrue (has x xs) → x < above xs
below-above x [] is = absurd (true≢false (sym is))
below-above x (y ∷ ys) is = by (nat_eq x y) refl is (below-above x ys)
  where
    by : (b : Bool) → nat_eq x y ≡ b → IsTrue (b || has x ys) → (IsTrue (has x ys) → x < above ys) → x < suc y + above ys
    by true e here rest = omega (arith, eqb-true x y e)
    by false e there rest = omega (arith, rest there)

-- Variables of a frame, each once, with all that are held on the ways to where it stands; they name no more than the frame does.
pub record IsCovering (p : Program) (body : BodyOf ℕ) (variables : List ℕ) : Type 0 where
  pub differ : AllDiffer variables
  pub held : HeldAmong p body variables
  pub few : (u : ℕ) → times u (needed body variables) ≤ times u (names_of body)

-- a frame with a way has such variables
pub covering : (p : Program) (body : BodyOf ℕ) → BodyHasWay p body → (variables : List ℕ) × IsCovering p body variables
covering p (OfMembers units next) way = ([], record { differ = λ i j x there there'. absurd (none_there x there); held = tt; few = λ u. omega arith })
covering p (OfKind q) way = (
  first_numbers (above way.1.held),
  record {
    differ = first-differ (above way.1.held);
    held = λ x state is held. first-has (above way.1.held) x (below-above x way.1.held (held way.1 (subst (λ (y : State). Way y q.at way.1) (same_some way.0 state (sym way.2 ∙ is)) way.3)));
    few = λ u. omega (
      arith,
      times-present u (map (future_at q.futures) (first_numbers (above way.1.held))),
      total-map (some_is u) (future_at q.futures) (first_numbers (above way.1.held)),
      first-total (λ x. some_is u (future_at q.futures x)) (above way.1.held),
      futures-below u q.futures (above way.1.held),
      times-present u q.futures,
    );
  },
)

-- with a reference for each unit that a new run's frame names, the references are enough
pub bag-taken : (p : Program) (futures : List ℕ) (runs : List Run) (r : Run) → BodyHasWay p (body_at p (slice_index r.words)) → BagSound p (record { futures = futures; runs = runs })
    → BagSound p (record { futures = named p (slice_index r.words) ++ futures; runs = r ∷ runs })
bag-taken p futures runs r way was = record {
  pairs = (r, mine.0) ∷ was.pairs;
  are_runs = ap (λ (rs : List Run). r ∷ rs) was.are_runs;
  covers = each-cons (λ (x : Run × List ℕ). Covers p x.0 x.1) (r, mine.0) was.pairs (mine.1.differ, mine.1.held) was.covers;
  enough = λ u. omega (arith, mine.1.few u, was.enough u, total-append (λ (w : ℕ). one_if (w == u)) (named p (slice_index r.words)) futures);
}
  where
    mine : (variables : List ℕ) × IsCovering p (body_at p (slice_index r.words)) variables
    mine = covering p (body_at p (slice_index r.words)) way

-- a number below n is one of these
below-one : (x n : ℕ) → x < n → below (λ k. one_if (x == k)) n ≡ 1
below-one x n low = omega (
  arith,
  below-set (λ k. 0) (λ k. one_if (x == k)) n x low (λ k less ne. ap one_if (ne_eqb x k (λ e. ne (sym e)))),
  below-bounded (λ k. 0) 0 n (λ k less. omega arith),
  ap one_if (eq-eqb x x refl),
)

-- each member of a list of numbers below n is counted under one of these
below-times : (l : List ℕ) (n : ℕ) → Each (λ x. x < n) l → below (λ k. times k l) n ≡ length l
below-times [] n all = omega (arith, below-bounded (λ k. 0) 0 n (λ k low. omega arith))
below-times (x ∷ l) n all = omega (
  arith,
  below-plus (λ k. one_if (x == k)) (λ k. times k l) n,
  below-one x n (all 0 x refl),
  below-times l n (λ k y there. all (suc k) y there),
)

-- Lists of numbers up to n in which each number stands once at most, and one of these numbers nowhere: together they are shorter than n.
pub fewer-than : {A : Type 0} (f : A → List ℕ) (xs : List A) (n spare : ℕ) → 1 ≤ spare → spare ≤ n → ((k : ℕ) (x : A) → At xs k x → Each (λ y. (1 ≤ y) × (y ≤ n)) (f x))
    → ((y : ℕ) → total (λ x. times y (f x)) xs + one_if (spare == y) ≤ 1) → total (λ x. length (f x)) xs + 1 ≤ n
fewer-than f xs n spare some few range once = omega (
  arith,
  below-front each-number n,
  first-none,
  below-bounded (λ k. each-number (suc k)) 1 n (λ k low. once (suc k)),
  below-plus (λ y. total (λ x. times y (f x)) xs) (λ y. one_if (spare == y)) (suc n),
  below-one spare (suc n) (omega (arith, few)),
  total-below (λ x y. times y (f x)) xs (suc n),
  total-same (λ x. length (f x)) (λ x. below (λ y. times y (f x)) (suc n)) xs (λ k x there. sym (below-times (f x) (suc n) (λ j y there'. omega (arith, (range k x there j y there').1)))),
)
  where
    each-number : ℕ → ℕ
    each-number y = total (λ x. times y (f x)) xs + one_if (spare == y)

    first-none : each-number 0 ≡ 0
    first-none = omega (
      arith,
      total-bounded (λ x. times 0 (f x)) 0 xs (λ k x there. omega (arith, total-bounded (λ (y : ℕ). one_if (y == 0)) 0 (f x) (λ j y there'. omega (arith, ap one_if (ne_eqb y 0 (λ e. omega (arith, e, (range k x there j y there').0))))))),
      ap one_if (ne_eqb spare 0 (λ e. omega (arith, e, some))),
    )

-- a test counts once at most
pub one-few : (b : Bool) → one_if b ≤ 1
one-few true = omega arith
one-few false = omega arith
