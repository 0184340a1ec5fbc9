-- A word is one pass's own at most: records lie apart.
use Rattle.std.proofs.Common.{◌≡◌, ◌≢◌, ◌∙◌, ◌⊎◌, inl, inr, ℕ, suc, ◌+◌, ◌*◌, ◌<◌, ◌≤◌, Bool, true, false, cond, ◌==◌, List, refl, sym, ap, subst, mul-le-mul_right, suc-mul, true≢false, arith}
use Rattle.std.specs.Prelude.{nat_lt, nat_le}
use Rattle.std.proofs.lemmas.Bool.{cases_eq, cases_order, eqb-true, and_parts, leb-true, ltb-true}
use Rattle.record_core.specs.Counting.{At, one_if}
use Rattle.record_core.proofs.TotalFacts.{total-two_members}
use Rattle.kt_words.specs.declared.plan.Plan.{Plan}
use Rattle.kt_words.specs.Capacity.{block_units}
use Rattle.kt_words.specs.SuperWords.{class_of}
use Rattle.kt_words.specs.StateWords.{phase_of}
use Rattle.kt_words.proofs.GeometryFacts.{blocks_end_inside}
use Rattle.table_core.specs.Addresses.{Addr, Mem, super, bits, state, refs, head, next, task, outcome, arena, root, journal, evidence, sum, units_of, is_same, put}
use Rattle.table_core.specs.Pool.{superblock_of, bit_of, IsBlock, Hand, PoolSound}
use Rattle.table_core.specs.Holdings.{Made, Run}
use Rattle.table_core.specs.Own.{Hands, made_at, runs_at, is_inside, is_word_of, is_result_of, is_own, is_in, record_words, OwnSound}
use Rattle.table_core.proofs.PoolFacts.{bit_below}
use Rattle.table_core.proofs.PoolRecords.{record_block}
use Rattle.table_core.proofs.ClassFacts.{used-from}
use Rattle.table_core.proofs.OwnFacts.{made-phase, runs-phase, made-counts, runs-counts}
use Rattle.table_core.proofs.RecordWords.{OwnedBy, owned-by}

-- a result is a word of its record
pub result-word : (u units : ℕ) (a : Addr) → is_result_of u units a ≡ true → is_word_of u units a ≡ true
result-word u units (outcome w) e = e
result-word u units (arena k) e = e
result-word u units (super i) e = absurd (true≢false (sym e))
result-word u units (bits i j) e = absurd (true≢false (sym e))
result-word u units (state w) e = absurd (true≢false (sym e))
result-word u units (refs w) e = absurd (true≢false (sym e))
result-word u units (head w) e = absurd (true≢false (sym e))
result-word u units (next w) e = absurd (true≢false (sym e))
result-word u units (task w) e = absurd (true≢false (sym e))
result-word u units (root r) e = absurd (true≢false (sym e))
result-word u units (journal n j) e = absurd (true≢false (sym e))
result-word u units (evidence i) e = absurd (true≢false (sym e))
result-word u units (sum k) e = absurd (true≢false (sym e))

-- a word of a block of the arena lies in it
pub inside-parts : (u units k : ℕ) → is_inside u units k ≡ true → (8 * u ≤ k) × (k < 8 * (u + units))
inside-parts u units k e = let t = and_parts (nat_le (8 * u) k) (nat_lt k (8 * (u + units))) e in (leb-true (8 * u) k t.0, ltb-true k (8 * (u + units)) t.1)

module _ (g : Plan) where
  -- of two blocks of one superblock, and of two superblocks, the first ends before the second begins
  earlier_bit : (u w c : ℕ) → IsBlock g u c → IsBlock g w c → superblock_of g u ≡ superblock_of g w → bit_of g u c < bit_of g w c → u + block_units c ≤ w
  earlier_bit u w c is is' same lt =
      let up_to : suc (bit_of g u c) * block_units c ≤ bit_of g w c * block_units c = mul-le-mul_right (block_units c) (omega arith) in
      omega (arith, is.at_its_place, is'.at_its_place, up_to, suc-mul (bit_of g u c) (block_units c), ap (λ (i : ℕ). i * g.geometry.units) same)

  earlier_place : (u c w c' : ℕ) → IsBlock g u c → IsBlock g w c' → superblock_of g u < superblock_of g w → u + block_units c ≤ w
  earlier_place u c w c' is is' lt =
      let up_to : suc (superblock_of g u) * g.geometry.units ≤ superblock_of g w * g.geometry.units = mul-le-mul_right g.geometry.units (omega arith) in
      omega (arith, is.at_its_place, is'.at_its_place, up_to, suc-mul (superblock_of g u) g.geometry.units, blocks_end_inside g.geometry c (bit_of g u c) is.class_fits (bit_below g u c is))

  -- two blocks at two units share none, where a superblock has one class
  pub blocks-apart : (u c w c' : ℕ) → IsBlock g u c → IsBlock g w c' → (superblock_of g u ≡ superblock_of g w → c ≡ c') → u ≢ w → (u + block_units c ≤ w) ⊎ (w + block_units c' ≤ u)
  blocks-apart u c w c' is is' classes ne = places (cases_order (superblock_of g u) (superblock_of g w))
    where
      bits_of : superblock_of g u ≡ superblock_of g w → c ≡ c' → (bit_of g u c ≡ bit_of g w c) ⊎ ((bit_of g u c < bit_of g w c) ⊎ (bit_of g w c < bit_of g u c))
          → (u + block_units c ≤ w) ⊎ (w + block_units c' ≤ u)
      bits_of same alike (inl e) = absurd (ne (omega (
        arith,
        is.at_its_place,
        is'.at_its_place,
        ap (λ (i : ℕ). i * g.geometry.units) same,
        ap (λ (b : ℕ). b * block_units c) e,
        ap (λ (k : ℕ). bit_of g w k * block_units k) alike,
      )))
      bits_of same alike (inr (inl lt)) = inl (earlier_bit u w c is (subst (IsBlock g w) (sym alike) is') same lt)
      bits_of same alike (inr (inr gt)) = inr (omega (arith, ap block_units alike, earlier_bit w u c (subst (IsBlock g w) (sym alike) is') is (sym same) gt))

      places : (superblock_of g u ≡ superblock_of g w) ⊎ ((superblock_of g u < superblock_of g w) ⊎ (superblock_of g w < superblock_of g u))
          → (u + block_units c ≤ w) ⊎ (w + block_units c' ≤ u)
      places (inl e) = bits_of e (classes e) (cases_order (bit_of g u c) (bit_of g w c))
      places (inr (inl lt)) = inl (earlier_place u c w c' is is' lt)
      places (inr (inr gt)) = inr (earlier_place w c' u c is' is gt)

  module _ (supers : ℕ → ℕ) (bit : ℕ → ℕ → ℕ) (states : ℕ → ℕ) (hands : List Hand) (sound : PoolSound g supers bit states hands) where
    -- the word is of the record at u, a record of the table
    pub record Lies (u : ℕ) (a : Addr) : Type 0 where
      pub near : u < units_of g
      pub used : 1 ≤ phase_of (states u)
      pub word : is_word_of u (block_units (class_of (supers (superblock_of g u)))) a ≡ true

    -- a word is of one record
    pub lies-one : (a : Addr) (u w : ℕ) → Lies u a → Lies w a → u ≡ w
    lies-one a u w lies lies' = by a lies.word lies'.word
      where
        header : (x : ℕ) → (x == u) ≡ true → (x == w) ≡ true → u ≡ w
        header x e e' = sym (eqb-true x u e) ∙ eqb-true x w e'

        in_arena : (k : ℕ) → is_inside u (block_units (class_of (supers (superblock_of g u)))) k ≡ true → is_inside w (block_units (class_of (supers (superblock_of g w)))) k ≡ true → u ≡ w
        in_arena k e e' = same (cases_eq u w)
          where
            mine : IsBlock g u (class_of (supers (superblock_of g u)))
            mine = record_block g supers bit states hands sound u lies.near (used-from (states u) lies.used)

            its : IsBlock g w (class_of (supers (superblock_of g w)))
            its = record_block g supers bit states hands sound w lies'.near (used-from (states w) lies'.used)

            same : (u ≡ w) ⊎ (u ≢ w) → u ≡ w
            same (inl e) = e
            same (inr ne) = elim (blocks-apart u (class_of (supers (superblock_of g u))) w (class_of (supers (superblock_of g w))) mine its (λ i. ap (λ (j : ℕ). class_of (supers j)) i) ne) [
              | inl before ↦ absurd (omega (arith, before, inside-parts u _ k e, inside-parts w _ k e'))
              | inr behind ↦ absurd (omega (arith, behind, inside-parts u _ k e, inside-parts w _ k e'))
            ]

        by : (a : Addr) → is_word_of u (block_units (class_of (supers (superblock_of g u)))) a ≡ true → is_word_of w (block_units (class_of (supers (superblock_of g w)))) a ≡ true → u ≡ w
        by (state x) e e' = header x e e'
        by (refs x) e e' = header x e e'
        by (head x) e e' = header x e e'
        by (next x) e e' = header x e e'
        by (task x) e e' = header x e e'
        by (outcome x) e e' = header x e e'
        by (arena k) e e' = in_arena k e e'
        by (super i) e e' = absurd (true≢false (sym e))
        by (bits i j) e e' = absurd (true≢false (sym e))
        by (root r) e e' = absurd (true≢false (sym e))
        by (journal n j) e e' = absurd (true≢false (sym e))
        by (evidence i) e e' = absurd (true≢false (sym e))
        by (sum k) e e' = absurd (true≢false (sym e))

    module _ (words : Addr → ℕ) (owners : List Hands) (own : OwnSound g supers states words owners) where
      -- an own word is of an own record
      pub owner-of : (k : ℕ) (h : Hands) → At owners k h → (a : Addr) → is_own h.made h.runs a ≡ true
          → (u : ℕ) × Lies u a × (((1 ≤ made_at u h.made) × (phase_of (states u) ≡ 1)) ⊎ ((1 ≤ runs_at u h.runs) × (phase_of (states u) ≡ 4)))
      owner-of k h at a mine = elim (owned-by h.made h.runs a mine) [
        | inl t ↦
            let r : Made = t.0 in
            let some = made-counts h.made r t.1 in let p = made-phase g supers states words owners own k h at r.unit some in
            let class_is = own.classes k h at (t.1).0 r (t.1).1 in (
              r.unit,
              record { near = p.0; used = omega (arith, p.1); word = ap (λ (c : ℕ). is_word_of r.unit (block_units c) a) (sym class_is) ∙ t.2 },
              inl (some, p.1),
            )
        | inr t ↦
            let r : Run = t.0 in
            let some = runs-counts h.runs r t.1 in let p = runs-phase g supers states words owners own k h at r.unit some in
            let class_is = own.run_classes k h at (t.1).0 r (t.1).1 in (
              r.unit,
              record { near = p.0; used = omega (arith, p.1); word = ap (λ (c : ℕ). is_word_of r.unit (block_units c) a) (sym class_is) ∙ result-word r.unit (block_units r.class) a t.2 },
              inr (some, p.1),
            )
      ]

      one-in : (phase u : ℕ) → is_in g states phase u ≤ 1
      one-in phase u = by (nat_lt u (units_of g)) (phase_of (states u) == phase)
        where
          by : (b d : Bool) → cond b (one_if d) 0 ≤ 1
          by true true = omega arith
          by true false = omega arith
          by false d = omega arith

      -- a word is the own one of one pass
      pub own-one : (k j : ℕ) (h x : Hands) → At owners k h → At owners j x → (a : Addr) → is_own h.made h.runs a ≡ true → is_own x.made x.runs a ≡ true → k ≢ j → ⊥
      own-one k j h x at at' a mine its ne = by t.2 t'.2
        where
          t : (u : ℕ) × Lies u a × (((1 ≤ made_at u h.made) × (phase_of (states u) ≡ 1)) ⊎ ((1 ≤ runs_at u h.runs) × (phase_of (states u) ≡ 4)))
          t = owner-of k h at a mine

          t' : (u : ℕ) × Lies u a × (((1 ≤ made_at u x.made) × (phase_of (states u) ≡ 1)) ⊎ ((1 ≤ runs_at u x.runs) × (phase_of (states u) ≡ 4)))
          t' = owner-of j x at' a its

          same : t.0 ≡ t'.0
          same = lies-one a t.0 t'.0 t.1 t'.1

          by : ((1 ≤ made_at t.0 h.made) × (phase_of (states t.0) ≡ 1)) ⊎ ((1 ≤ runs_at t.0 h.runs) × (phase_of (states t.0) ≡ 4))
              → ((1 ≤ made_at t'.0 x.made) × (phase_of (states t'.0) ≡ 1)) ⊎ ((1 ≤ runs_at t'.0 x.runs) × (phase_of (states t'.0) ≡ 4)) → ⊥
          by (inl a) (inl b) = omega (arith, a.0, b.0, ap (λ (w : ℕ). made_at w x.made) same, total-two_members (λ (y : Hands). made_at t.0 y.made) owners k j h x ne at at', own.made t.0, one-in 1 t.0)
          by (inr a) (inr b) = omega (arith, a.0, b.0, ap (λ (w : ℕ). runs_at w x.runs) same, total-two_members (λ (y : Hands). runs_at t.0 y.runs) owners k j h x ne at at', own.running t.0, one-in 4 t.0)
          by (inl a) (inr b) = omega (arith, a.1, b.1, ap (λ (w : ℕ). phase_of (states w)) same)
          by (inr a) (inl b) = omega (arith, a.1, b.1, ap (λ (w : ℕ). phase_of (states w)) same)

-- the words that are filled
abbrev pub is_filled : Addr → Bool
is_filled (refs u) = true
is_filled (head u) = true
is_filled (task u) = true
is_filled (outcome u) = true
is_filled (arena k) = true
is_filled a = false

-- one of them is written
pub words-put : (m : Mem) (n : ℕ) (a : Addr) → is_filled a ≡ true → (x : Addr) → record_words (put m a n) x ≡ cond (is_same a x) n (record_words m x)
words-put m n (refs u) e (refs w) = refl
words-put m n (refs u) e x = refl
words-put m n (head u) e (head w) = refl
words-put m n (head u) e x = refl
words-put m n (task u) e (task w) = refl
words-put m n (task u) e x = refl
words-put m n (outcome u) e (outcome w) = refl
words-put m n (outcome u) e x = refl
words-put m n (arena k) e (arena j) = refl
words-put m n (arena k) e x = refl
words-put m n (super i) e x = absurd (true≢false (sym e))
words-put m n (bits i j) e x = absurd (true≢false (sym e))
words-put m n (state u) e x = absurd (true≢false (sym e))
words-put m n (next u) e x = absurd (true≢false (sym e))
words-put m n (root r) e x = absurd (true≢false (sym e))
words-put m n (journal k j) e x = absurd (true≢false (sym e))
words-put m n (evidence i) e x = absurd (true≢false (sym e))
words-put m n (sum k) e x = absurd (true≢false (sym e))

-- an own word is a word of a record
pub own-word : (m : Mem) (made : List Made) (runs : List Run) (a : Addr) → is_own made runs a ≡ true → record_words m a ≡ m a
own-word m made runs a mine = by a (owned-by made runs a mine)
  where
    none : (a : Addr) → ((u units : ℕ) → is_word_of u units a ≡ false) → ((u units : ℕ) → is_result_of u units a ≡ false) → OwnedBy made runs a → ⊥
    none a word result (inl t) = true≢false (sym t.2 ∙ word (t.0).unit (block_units (t.0).class))
    none a word result (inr t) = true≢false (sym t.2 ∙ result (t.0).unit (block_units (t.0).class))

    by : (a : Addr) → OwnedBy made runs a → record_words m a ≡ m a
    by (super i) t = absurd (none (super i) (λ u n. refl) (λ u n. refl) t)
    by (bits i j) t = absurd (none (bits i j) (λ u n. refl) (λ u n. refl) t)
    by (root r) t = absurd (none (root r) (λ u n. refl) (λ u n. refl) t)
    by (journal n j) t = absurd (none (journal n j) (λ u n. refl) (λ u n. refl) t)
    by (evidence i) t = absurd (none (evidence i) (λ u n. refl) (λ u n. refl) t)
    by (sum k) t = absurd (none (sum k) (λ u n. refl) (λ u n. refl) t)
    by a t = refl
