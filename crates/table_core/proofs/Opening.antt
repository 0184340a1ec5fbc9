-- The rule holds of a table whose words are all 0, with its first pass.
use Rattle.std.proofs.Common.{◌≡◌, ◌∙◌, ℕ, zero, suc, ◌+◌, ◌%◌, Bool, true, false, cond, ◌==◌, [], ◌∷◌, map, replicate, get_or, refl, sym, ap, true≢false, arith}
use Rattle.std.specs.Prelude.{nat_lt}
use Rattle.std.proofs.lemmas.Bool.{ne_eqb}
use Rattle.std.proofs.lemmas.Nat.Bits.{bit_at-zero}
use Rattle.record_core.specs.Sums.{below}
use Rattle.record_core.specs.Counting.{one_if}
use Rattle.record_core.proofs.BelowFacts.{below-same}
use Rattle.record_core.proofs.TotalFacts.{none_there}
use Rattle.kt_words.specs.declared.plan.Plan.{Plan}
use Rattle.table_core.specs.Addresses.{Addr, Mem, super, state, address, is_there, mem_of, units_of}
use Rattle.table_core.specs.Story.{unwritten}
use Rattle.table_core.specs.Pool.{cap, Hand, records, used_at, held, owned, IsKept, bit_in}
use Rattle.table_core.specs.Bounds.{IsBounded}
use Rattle.table_core.specs.Views.{first_view}
use Rattle.table_core.specs.Holdings.{Record, Skipped}
use Rattle.table_core.specs.Own.{is_in, record_words}
use Rattle.table_core.specs.Parts.{Part, pool, shares, bounds, wins, looks, evers, references, fits, own, roots, shaped, numbers, totals, waits, sights, seen, Says}
use Rattle.table_core.specs.declared.setup.Setup.{Setup}
use Rattle.table_core.proofs.PoolFacts.{cond-le}
use Rattle.table_core.proofs.ListFacts.{each-cons, each-none}
use Rattle.table_core.proofs.OwnFacts.{knows-nothing, own-from}
use Rattle.table_core.proofs.WaitFacts.{waits-from}

abbrev pub zeros : Mem
zeros a = 0

get_or-zeros : (n k : ℕ) → ◌≡◌ {A = ℕ} (get_or (replicate n 0) k 0) 0
get_or-zeros zero k = refl
get_or-zeros (suc n) zero = refl
get_or-zeros (suc n) (suc k) = get_or-zeros n k

-- words that are all 0 read as 0 at each address
pub mem-zeros : (g : Plan) (n : ℕ) → mem_of g (replicate n 0) ≡ zeros
mem-zeros g n = λ i a. at (is_there g a) a i
  where
    at : (b : Bool) (a : Addr) → ◌≡◌ {A = ℕ} (cond b (get_or (replicate n 0) (address g a) 0) 0) 0
    at true a = get_or-zeros n (address g a)
    at false a = refl

-- a sum of zeros is 0
pub below-zeros : (n : ℕ) → below (λ k. 0) n ≡ 0
below-zeros zero = refl
below-zeros (suc n) = omega (arith, below-zeros n)

module _ (g : Setup) where
  abbrev first_hand : Hand
  first_hand = seen pool first_view

  opened : (i : ℕ) → IsKept g.plan 0 (bit_in zeros i) (held g.plan (λ i. zeros (super i)) (λ u. zeros (state u)) (first_hand ∷ []) i) (owned g.plan (λ i. zeros (super i)) (λ u. zeros (state u)) (first_hand ∷ []) i)
  opened i = record {
    class_fits = omega arith;
    counted = λ c. omega (arith, below-zeros g.plan.geometry.units, cond-le (0 == c) (records g.plan (λ u. 0) i), cond-le (0 == c) 0);
    few = omega arith;
    ever = omega arith;
    once = λ c b small. omega (arith, bit_at-zero (b % 64), cond-le (0 == c) (bit_in zeros i b), cond-le (0 == c) (used_at g.plan (λ u. 0) i c b), cond-le (nat_lt b (cap g.plan c)) 0);
    inside = λ c b past. omega (arith, cond-le (0 == c) (used_at g.plan (λ u. 0) i c b), cond-le (nat_lt b (cap g.plan c)) 0);
  }

  -- no root word names a record
  pub no_roots : (u : ℕ) → below (λ r. one_if (0 == u + 1)) 16 ≡ 0
  no_roots u = below-same (λ r. one_if (0 == u + 1)) (λ r. 0) 16 (λ r near. ap one_if (ne_eqb 0 (u + 1) (λ e. omega (arith, e)))) ∙ below-zeros 16

  -- no record is in a phase but that of none
  free : (phase u : ℕ) → (0 == phase) ≡ false → is_in g.plan (λ w. 0) phase u ≡ 0
  free phase u other = by (nat_lt u (units_of g.plan))
    where
      by : (b : Bool) → cond b (one_if (0 == phase)) 0 ≡ 0
      by true = ap one_if other
      by false = refl

  -- each part of the rule holds of words that are 0 and the first view
  pub first_parts : (q : Part) → Says g q unwritten zeros (map (seen q) (first_view ∷ []))
  first_parts pool = record {
    kept = λ i near. opened i;
    blocks = each-cons _ first_hand [] (each-none _) (each-none _);
    first = λ i j near below used. absurd (omega (arith, used));
  }
  first_parts shares = refl
  first_parts bounds = each-cons IsBounded (seen bounds first_view) [] (record { few = omega arith; accepted = omega arith; single = omega arith; spent = λ none. absurd (omega (arith, none)) }) (each-none _)
  first_parts wins = record { counts = λ i c near. omega (arith, cond-le (0 == c) 0); ever = λ i near. refl }
  first_parts looks = each-cons _ (seen looks first_view) [] (each-none _) (each-none _)
  first_parts evers = omega (arith, below-zeros g.plan.geometry.superblocks)
  first_parts references = record {
    counted = λ u near is. absurd (true≢false (sym is));
    unnamed = λ u near is. omega (arith, no_roots u, below-zeros (units_of g.plan));
    last = λ u near. refl;
    inside = λ u far. omega (arith, below-zeros (units_of g.plan));
  }
  first_parts fits = record { saved = λ u near is. absurd (true≢false (sym is)); running = each-cons _ [] [] (each-none _) (each-none _) }
  first_parts own = own-from g.plan (λ i. 0) (λ u. 0) (record_words zeros) (seen own first_view ∷ [])
      (λ u. sym (free 1 u refl)) (λ u. sym (free 4 u refl)) (λ u. omega (arith, free 5 u refl))
      (each-cons _ (seen own first_view) [] (record { classes = each-none _; run_classes = each-none _; numbers = each-none _; known = λ a n e. absurd (knows-nothing a n e) }) (each-none _))
  first_parts roots = record {
    one = refl;
    says = each-cons _ (seen roots first_view) [] (each-cons _ [] [] (λ r near. refl) (each-none _)) (each-none _);
    few = each-cons _ (seen roots first_view) [] (each-cons _ [] [] (omega arith) (each-none _)) (each-none _);
    near = each-cons _ (seen roots first_view) [] (each-cons _ [] [] (λ r u at. absurd (none_there (Record u) at)) (each-none _)) (each-none _);
    skipped = each-cons _ (seen roots first_view) [] (each-cons _ [] [] (λ r j at. absurd (none_there (Skipped j) at)) (each-none _)) (each-none _);
    known = each-cons _ (seen roots first_view) [] (omega arith) (each-none _);
  }
  first_parts shaped = λ u near. record { phase_fits = omega arith; priority_fits = omega arith; tag_fits = omega arith; number_fits = omega arith }
  first_parts numbers = record { taken = omega arith; calls = refl }
  first_parts totals = record { drawn = omega arith; stamps = refl }
  first_parts waits = waits-from (λ u. 0) (λ u. 0) (λ u. 0) g.plan (seen waits first_view ∷ []) (λ u near is. absurd (true≢false (sym is))) (λ u near is. absurd (omega (arith, is)))
      (λ w. omega (arith, below-zeros (units_of g.plan), free 2 w refl)) (λ u near is. absurd (true≢false (sym is)))
      (each-cons _ (seen waits first_view) [] (record { done_closed = each-none _; chains = each-none _; numbers = each-none _; linked = each-none _ }) (each-none _))
  first_parts sights = each-cons _ (seen sights first_view) [] (each-none _) (each-none _)
