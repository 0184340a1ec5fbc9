-- The pool where one superblock and one hand change.
use Rattle.std.proofs.Common.{◌≡◌, ◌≢◌, ◌∙◌, ◌⊎◌, inl, inr, ℕ, suc, ◌+◌, ◌*◌, ◌%◌, ◌<◌, ◌≤◌, Bool, true, false, cond, ◌==◌, List, refl, sym, ap, subst, mul-le-mul_right, suc-mul, mod-lt, arith}
use Rattle.std.proofs.Math.Nat.{div-lt_iff_lt-mul}
use Rattle.std.specs.Prelude.{slice_set, nat_lt}
use Rattle.std.proofs.lemmas.Nat.{pow_pos}
use Rattle.std.proofs.lemmas.Bool.{cases_eq, eq-eqb, eqb-true, ne_eqb, ltb-true}
use Rattle.record_core.specs.Sums.{total, below}
use Rattle.record_core.proofs.TotalFacts.{total-le, total-set, total-member}
use Rattle.record_core.proofs.BelowFacts.{below-member, below-same}
use Rattle.kt_words.specs.declared.plan.Plan.{Plan}
use Rattle.kt_words.specs.Capacity.{block_units}
use Rattle.kt_words.specs.SuperWords.{class_of}
use Rattle.kt_words.proofs.GeometryFacts.{blocks_fill, blocks_end_inside, unit_names_place}
use Rattle.record_core.specs.Counting.{At}
use Rattle.table_core.specs.Lists.{Each, hit, hit3}
use Rattle.table_core.specs.Holdings.{Block}
use Rattle.table_core.specs.Pool.{cap, unit_of, superblock_of, bit_of, IsBlock, is_used, Hand, places, owns, records, used_at, held, owned, IsKept, PoolSound}
use Rattle.table_core.proofs.ListFacts.{each-set}

-- two numbers under one condition add up under it
pub cond-plus : (b : Bool) (x y : ℕ) → cond b x 0 + cond b y 0 ≡ cond b (x + y) 0
cond-plus true x y = refl
cond-plus false x y = refl

-- a number under a condition is at most the number
pub cond-le : (b : Bool) (x : ℕ) → cond b x 0 ≤ x
cond-le true x = omega arith
cond-le false x = omega arith

-- a part of a superblock's class that is not 0 tells the class
pub class_from : (k c x : ℕ) → 1 ≤ cond (k == c) x 0 → k ≡ c
class_from k c x some = by (k == c) refl some
  where
    by : (b : Bool) → (k == c) ≡ b → 1 ≤ cond b x 0 → k ≡ c
    by true e h = eqb-true k c e
    by false e h = absurd (omega arith)

-- a number under the condition of two equal ones is the number
pub cond-at : (k c x : ℕ) → k ≡ c → cond (k == c) x 0 ≡ x
cond-at k c x e = ap (λ (b : Bool). cond b x 0) (eq-eqb k c e)

-- a number under the condition of two different ones is 0
pub cond-apart : (k c x : ℕ) → k ≢ c → cond (k == c) x 0 ≡ 0
cond-apart k c x ne = ap (λ (b : Bool). cond b x 0) (ne_eqb k c ne)

-- a place of another superblock is not hit
pub hit-apart : (i c j k : ℕ) → i ≢ j → hit i c j k ≡ 0
hit-apart i c j k ne = cond-apart i j (cond (c == k) 1 0) ne

-- in its superblock a place is hit where the class is the same
pub hit-here : (i c k : ℕ) → hit i c i k ≡ cond (c == k) 1 0
hit-here i c k = cond-at i i (cond (c == k) 1 0) refl

-- a block of another superblock is not hit
pub hit3-apart : (i c b j k d : ℕ) → i ≢ j → hit3 i c b j k d ≡ 0
hit3-apart i c b j k d ne = cond-apart i j (cond (c == k) (cond (b == d) 1 0) 0) ne

-- in its superblock a block is hit where class and bit are the same
pub hit3-here : (i c b k d : ℕ) → hit3 i c b i k d ≡ cond (c == k) (cond (b == d) 1 0) 0
hit3-here i c b k d = cond-at i i (cond (c == k) (cond (b == d) 1 0) 0) refl

hit3-le : (i c b j k d : ℕ) → hit3 i c b j k d ≤ hit i c j k
hit3-le i c b j k d = by (i == j) (c == k) (b == d)
  where
    by : (x y z : Bool) → cond x (cond y (cond z 1 0) 0) 0 ≤ cond x (cond y 1 0) 0
    by true true true = omega arith
    by true true false = omega arith
    by true false z = omega arith
    by false y z = omega arith

module _ (g : Plan) where
  -- each block that a hand has is a place that it has
  owns-places : (i c b : ℕ) (h : Hand) → owns g i c b h ≤ places g i c h
  owns-places i c b h =
      let fewer : owns g i c b h ≤ total (λ (x : Block). hit (superblock_of g x.unit) x.class i c) h.blocks =
      total-le (λ (x : Block). hit3 (superblock_of g x.unit) x.class (bit_of g x.unit x.class) i c b) (λ (x : Block). hit (superblock_of g x.unit) x.class i c) h.blocks
      (λ k x at. hit3-le (superblock_of g x.unit) x.class (bit_of g x.unit x.class) i c b) in
      omega (arith, fewer)

  -- the first unit of a block lies in its superblock
  pub first_below : (c b : ℕ) → c ≤ 3 → b < cap g c → b * block_units c < g.geometry.units
  first_below c b fits below = omega (arith, blocks_end_inside g.geometry c b fits below, pow_pos c)

  used-records : (states : ℕ → ℕ) (i c b : ℕ) → c ≤ 3 → used_at g states i c b ≤ records g states i
  used-records states i c b fits = by (nat_lt b (cap g c)) refl
    where
      by : (t : Bool) → nat_lt b (cap g c) ≡ t → cond t (is_used (states (unit_of g i c b))) 0 ≤ records g states i
      by true e = below-member (λ j. is_used (states (i * g.geometry.units + j))) g.geometry.units (b * block_units c) (first_below c b fits (ltb-true b (cap g c) e))
      by false e = omega arith

  -- each block that is owned is a place that is held
  pub owned-held : (supers states : ℕ → ℕ) (hands : List Hand) (i c b : ℕ) → class_of (supers i) ≤ 3 → owned g supers states hands i c b ≤ held g supers states hands i c
  owned-held supers states hands i c b fits =
      let by_hands : total (owns g i c b) hands ≤ total (places g i c) hands = total-le (owns g i c b) (places g i c) hands (λ k h at. owns-places i c b h) in
      omega (arith, by_hands, by (class_of (supers i) == c) refl)
    where
      by : (t : Bool) → (class_of (supers i) == c) ≡ t → cond t (used_at g states i c b) 0 ≤ cond t (records g states i) 0
      by true e = used-records states i c b (subst (λ (k : ℕ). k ≤ 3) (eqb-true (class_of (supers i)) c e) fits)
      by false e = omega arith

  -- a block below the capacity is one, and is found again by its unit
  pub names_place : (i c b : ℕ) → c ≤ 3 → b < cap g c → (superblock_of g (unit_of g i c b) ≡ i) × (bit_of g (unit_of g i c b) c ≡ b)
  names_place i c b fits below = unit_names_place g.geometry i c b fits below

  -- superblock, class and bit in range make a block
  pub block_there : (i c b : ℕ) → i < g.geometry.superblocks → c ≤ 3 → b < cap g c → IsBlock g (unit_of g i c b) c
  block_there i c b near fits below =
      let t = names_place i c b fits below in
      let inside : suc i * g.geometry.units ≤ g.geometry.superblocks * g.geometry.units = mul-le-mul_right g.geometry.units (omega arith) in
      record {
        class_fits = fits;
        inside = omega (arith, inside, suc-mul i g.geometry.units, first_below c b fits below);
        at_its_place = λ j. unit_of g (t.0 j) c (t.1 j);
      }

  -- where a block lies
  pub superblock_near : (u c : ℕ) → IsBlock g u c → superblock_of g u < g.geometry.superblocks
  superblock_near u c is = (div-lt_iff_lt-mul {k = g.geometry.units} {x = u} {y = g.geometry.superblocks} (omega (arith, g.geometry.units_fit))).1 is.inside

  -- the bit of a block is below the capacity of its class
  pub bit_below : (u c : ℕ) → IsBlock g u c → bit_of g u c < cap g c
  bit_below u c is =
      let within : u % g.geometry.units < g.geometry.units = mod-lt u (omega (arith, g.geometry.units_fit)) in
      let full : cap g c * block_units c ≡ g.geometry.units = (blocks_fill g.geometry c is.class_fits).0 in
      (div-lt_iff_lt-mul {k = block_units c} {x = u % g.geometry.units} {y = cap g c} (pow_pos c)).1 (omega (arith, within, full))

  -- a superblock of which nothing changes
  pub kept-same : (n n' : ℕ) (bits bits' : ℕ → ℕ) (held held' : ℕ → ℕ) (owned owned' : ℕ → ℕ → ℕ) → IsKept g n bits held owned → n' ≡ n
      → ((b : ℕ) → b < 512 → bits' b ≡ bits b) → ((c : ℕ) → held' c ≡ held c) → ((c b : ℕ) → owned' c b ≡ owned c b) → IsKept g n' bits' held' owned'
  kept-same n n' bits bits' held held' owned owned' kept same same_bits same_held same_owned =
      subst (λ (k : ℕ). IsKept g k bits' held' owned') (sym same) (record {
        class_fits = kept.class_fits;
        counted = λ c. same_held c ∙ kept.counted c;
        few = kept.few;
        ever = kept.ever;
        once = λ c b near. same_owned c b ∙ kept.once c b near ∙ ap (λ (x : ℕ). cond (class_of n == c) x 0) (sym (same_bits b near));
        inside = λ c b past. same_owned c b ∙ kept.inside c b past;
      })

  -- hands that have the same together
  pub pool-same : (supers : ℕ → ℕ) (bits : ℕ → ℕ → ℕ) (states : ℕ → ℕ) (hands hands' : List Hand) → PoolSound g supers bits states hands
      → ((i c : ℕ) → total (places g i c) hands' ≡ total (places g i c) hands) → ((i c b : ℕ) → total (owns g i c b) hands' ≡ total (owns g i c b) hands)
      → Each (λ h. Each (λ (b : Block). IsBlock g b.unit b.class) h.blocks) hands' → PoolSound g supers bits states hands'
  pool-same supers bits states hands hands' sound same same' blocks = record {
    kept = λ i near. kept-same (supers i) (supers i) (bits i) (bits i) (held g supers states hands i) (held g supers states hands' i) (owned g supers states hands i) (owned g supers states hands' i)
        (sound.kept i near) refl (λ b small. refl) (λ c. omega (arith, same i c)) (λ c b. omega (arith, same' i c b));
    blocks = blocks;
    first = sound.first;
  }

  -- records that stand where they stood
  pub pool-used : (supers : ℕ → ℕ) (bits : ℕ → ℕ → ℕ) (states states' : ℕ → ℕ) (hands : List Hand) → PoolSound g supers bits states hands
      → ((u : ℕ) → is_used (states' u) ≡ is_used (states u)) → PoolSound g supers bits states' hands
  pool-used supers bits states states' hands sound same = record {
    kept = λ i near. kept-same (supers i) (supers i) (bits i) (bits i) (held g supers states hands i) (held g supers states' hands i) (owned g supers states hands i) (owned g supers states' hands i)
        (sound.kept i near) refl (λ b small. refl) (λ c. ap (λ (n : ℕ). total (places g i c) hands + cond (class_of (supers i) == c) n 0) (records-same i)) (λ c b. ap (λ (n : ℕ). total (owns g i c b) hands + cond (class_of (supers i) == c) (cond (nat_lt b (cap g c)) n 0) 0) (same (unit_of g i c b)));
    blocks = sound.blocks;
    first = λ i j near low used. sound.first i j near low (sym (same (i * g.geometry.units + j)) ∙ used);
  }
    where
      records-same : (i : ℕ) → records g states' i ≡ records g states i
      records-same i = below-same (λ j. is_used (states' (i * g.geometry.units + j))) (λ j. is_used (states (i * g.geometry.units + j))) g.geometry.units (λ j low. same (i * g.geometry.units + j))

  module _ (supers : ℕ → ℕ) (bits : ℕ → ℕ → ℕ) (states : ℕ → ℕ) (hands : List Hand) (id : ℕ) (h h' : Hand) (at : At hands id h) where
    -- sums over the hands, after one has changed
    pub places_after : (i c : ℕ) → total (places g i c) (slice_set hands id h') + places g i c h ≡ total (places g i c) hands + places g i c h'
    places_after i c = total-set (places g i c) hands id h h' at

    -- where one hand changes, the owners of a block change by what that hand had and has
    pub owns_after : (i c b : ℕ) → total (owns g i c b) (slice_set hands id h') + owns g i c b h ≡ total (owns g i c b) hands + owns g i c b h'
    owns_after i c b = total-set (owns g i c b) hands id h h' at

    -- what one hand has is at most what is held
    pub places-held : (i c : ℕ) → places g i c h ≤ held g supers states hands i c
    places-held i c = omega (arith, total-member (places g i c) hands id h at)

    -- what one hand owns of a block is at most what all own
    pub owns-owned : (i c b : ℕ) → owns g i c b h ≤ owned g supers states hands i c b
    owns-owned i c b = omega (arith, total-member (owns g i c b) hands id h at)

    -- the word and bits of superblock i change, and what one hand has there
    pub pool-moved : PoolSound g supers bits states hands → (supers' : ℕ → ℕ) (bits' : ℕ → ℕ → ℕ) (i : ℕ)
        → ((j : ℕ) → j ≢ i → supers' j ≡ supers j) → ((j b : ℕ) → j ≢ i → b < 512 → bits' j b ≡ bits j b)
        → ((j c : ℕ) → j ≢ i → places g j c h' ≡ places g j c h) → ((j c b : ℕ) → j ≢ i → owns g j c b h' ≡ owns g j c b h)
        → Each (λ (b : Block). IsBlock g b.unit b.class) h'.blocks
        → ((j : ℕ) → j < g.geometry.units → is_used (states (i * g.geometry.units + j)) ≡ 1 → j % block_units (class_of (supers' i)) ≡ 0)
        → (i < g.geometry.superblocks → IsKept g (supers' i) (bits' i) (held g supers' states (slice_set hands id h') i) (owned g supers' states (slice_set hands id h') i))
        → PoolSound g supers' bits' states (slice_set hands id h')
    pool-moved sound supers' bits' i same_supers same_bits same_places same_owns blocks first here = record {
      kept = λ j near. by j near (cases_eq j i);
      blocks = each-set (λ (x : Hand). Each (λ (b : Block). IsBlock g b.unit b.class) x.blocks) hands id h' sound.blocks blocks;
      first = λ j k near below used. first_by j k near below used (cases_eq j i);
    }
      where
        by : (j : ℕ) → j < g.geometry.superblocks → (j ≡ i) ⊎ (j ≢ i)
            → IsKept g (supers' j) (bits' j) (held g supers' states (slice_set hands id h') j) (owned g supers' states (slice_set hands id h') j)
        by j near (inl e) = subst (λ (k : ℕ). IsKept g (supers' k) (bits' k) (held g supers' states (slice_set hands id h') k) (owned g supers' states (slice_set hands id h') k)) (sym e) (here (omega (arith, near, e)))
        by j near (inr ne) = kept-same (supers j) (supers' j) (bits j) (bits' j) (held g supers states hands j) (held g supers' states (slice_set hands id h') j)
            (owned g supers states hands j) (owned g supers' states (slice_set hands id h') j) (sound.kept j near) (same_supers j ne) (λ b. same_bits j b ne)
            (λ c. omega (arith, places_after j c, same_places j c ne, ap (λ (n : ℕ). cond (class_of n == c) (records g states j) 0) (same_supers j ne)))
            (λ c b. omega (arith, owns_after j c b, same_owns j c b ne, ap (λ (n : ℕ). cond (class_of n == c) (used_at g states j c b) 0) (same_supers j ne)))

        first_by : (j k : ℕ) → j < g.geometry.superblocks → k < g.geometry.units → is_used (states (j * g.geometry.units + k)) ≡ 1 → (j ≡ i) ⊎ (j ≢ i)
            → k % block_units (class_of (supers' j)) ≡ 0
        first_by j k near below used (inl e) =
            subst (λ (x : ℕ). k % block_units (class_of (supers' x)) ≡ 0) (sym e) (first k below (subst (λ (x : ℕ). is_used (states (x * g.geometry.units + k)) ≡ 1) e used))
        first_by j k near below used (inr ne) =
            subst (λ (n : ℕ). k % block_units (class_of n) ≡ 0) (sym (same_supers j ne)) (sound.first j k near below used)
