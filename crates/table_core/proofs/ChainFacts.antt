-- Units that stand one after the other by their next words.
use Rattle.std.proofs.Common.{◌≡◌, ◌≢◌, ◌∙◌, ℕ, zero, suc, ◌-◌, ◌<◌, ◌≤◌, Bool, true, false, ◌==◌, List, [], ◌∷◌, length, refl, ap, arith}
use Rattle.std.specs.Prelude.{nat_lt}
use Rattle.std.proofs.lemmas.Bool.{ltb-true}
use Rattle.record_core.specs.Sums.{total, below}
use Rattle.record_core.specs.Counting.{At, one_if, times}
use Rattle.record_core.proofs.TotalFacts.{total-le, total-below, total-member}
use Rattle.record_core.proofs.BelowFacts.{below-member, below-bounded}
use Rattle.table_core.specs.WaitLists.{chained, Follows}
use Rattle.table_core.proofs.BagFacts.{one-here}

-- as many units as are asked for
pub chained-length : (nexts : ℕ → ℕ) (link n : ℕ) → length (chained nexts link n) ≡ n
chained-length nexts link zero = refl
chained-length nexts link (suc n) = ap suc (chained-length nexts (nexts (link - 1)) n)

module _ (nexts nexts' : ℕ → ℕ) where
  -- the same units where their next words are the same
  pub chained-same : (link n : ℕ) → ((x : ℕ) → 1 ≤ times x (chained nexts link n) → nexts' x ≡ nexts x) → chained nexts' link n ≡ chained nexts link n
  chained-same link zero same = refl
  chained-same link (suc n) same =
      let here : nexts' (link - 1) ≡ nexts (link - 1) = same (link - 1) (omega (arith, one-here (link - 1))) in
      ap (λ (k : ℕ). (link - 1) ∷ chained nexts' k n) here
      ∙ ap (λ (l : List ℕ). (link - 1) ∷ l) (chained-same (nexts (link - 1)) n (λ x some. same x (omega (arith, some))))

  -- units still follow each other where their next words are the same
  pub follows-same : (l : List ℕ) → ((x : ℕ) → 1 ≤ times x l → nexts' x ≡ nexts x) → Follows nexts l → Follows nexts' l
  follows-same [] same f = tt
  follows-same (u ∷ us) same f = (same u (omega (arith, one-here u)) ∙ f.0, follows-same us (λ x some. same x (omega (arith, some))) f.1)

-- a member is not what is no member
pub member-apart : (w x : ℕ) (l : List ℕ) → times w l ≡ 0 → 1 ≤ times x l → x ≢ w
member-apart w x l none some e = omega (arith, none, some, ap (λ (y : ℕ). times y l) e)

total-ones : (l : List ℕ) → length l ≡ total (λ (x : ℕ). 1) l
total-ones [] = refl
total-ones (x ∷ l) = omega (arith, total-ones l)

at-most-one : (b : Bool) → one_if b ≤ 1
at-most-one true = omega arith
at-most-one false = omega arith

-- numbers below a bound, each once at most
abbrev pub AreFew : List ℕ → ℕ → Type 0
AreFew l n = (w : ℕ) → times w l ≤ one_if (nat_lt w n)

module _ (l : List ℕ) (n : ℕ) (few : AreFew l n) where
  -- a member is below the bound
  pub few-near : (w : ℕ) → 1 ≤ times w l → w < n
  few-near w some = by (nat_lt w n) refl
    where
      by : (b : Bool) → nat_lt w n ≡ b → w < n
      by true e = ltb-true w n e
      by false e = absurd (omega (arith, some, few w, ap one_if e))

  -- there are no more members than numbers below the bound
  pub few-length : length l ≤ n
  few-length = omega (
    arith,
    total-ones l,
    total-le (λ (x : ℕ). 1) (λ (x : ℕ). below (λ k. one_if (x == k)) n) l counted,
    total-below (λ (x k : ℕ). one_if (x == k)) l n,
    below-bounded (λ k. times k l) 1 n (λ k low. omega (arith, few k, at-most-one (nat_lt k n))),
  )
    where
      counted : (k x : ℕ) → At l k x → 1 ≤ below (λ j. one_if (x == j)) n
      counted k x at =
          let some : 1 ≤ times x l = omega (arith, total-member (λ (y : ℕ). one_if (y == x)) l k x at, one-here x) in
          omega (arith, below-member (λ j. one_if (x == j)) n x (few-near x some), one-here x)
