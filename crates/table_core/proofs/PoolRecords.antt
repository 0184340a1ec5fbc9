-- The pool where a block becomes a record, and where a record becomes a block.
use Rattle.std.proofs.Common.{◌≡◌, ◌≢◌, ◌∙◌, ◌⊎◌, inl, inr, ℕ, ◌+◌, ◌*◌, ◌%◌, ◌<◌, ◌≤◌, Bool, true, false, cond, ◌==◌, List, refl, sym, ap, subst, true≢false, arith}
use Rattle.std.specs.Prelude.{slice_set, nat_lt}
use Rattle.std.proofs.lemmas.Nat.{div-mul-add, div-add-mod'}
use Rattle.std.proofs.lemmas.Bool.{cases_eq, eqb-true, eq-eqb, ltb-true, lt-ltb}
use Rattle.std.proofs.Math.Nat.{mul-mod_left}
use Rattle.record_core.specs.Counting.{At, Has}
use Rattle.record_core.proofs.BelowFacts.{below-set, below-same}
use Rattle.record_core.proofs.TotalFacts.{total-member}
use Rattle.kt_words.specs.declared.plan.Plan.{Plan}
use Rattle.kt_words.specs.Capacity.{block_units}
use Rattle.kt_words.specs.SuperWords.{class_of}
use Rattle.kt_words.proofs.GeometryFacts.{blocks_fill}
use Rattle.table_core.specs.Addresses.{units_of}
use Rattle.table_core.specs.Lists.{Each, hit, hit3}
use Rattle.table_core.specs.Holdings.{Block}
use Rattle.table_core.specs.Pool.{cap, unit_of, superblock_of, bit_of, IsBlock, is_used, Hand, places, owns, records, used_at, held, owned, PoolSound}
use Rattle.table_core.proofs.ListFacts.{each-set, total-has}
use Rattle.table_core.proofs.PoolFacts.{cond-plus, cond-le, cond-at, hit-apart, hit-here, names_place, superblock_near, bit_below, kept-same, places_after, owns_after}
use Rattle.table_core.proofs.PoolSteps.{class_held}
use Rattle.table_core.proofs.ClassFacts.{superblock_in, unit-parts, place_in}

-- triples that agree, and triples that do not
hit3-one : (i c b j k d : ℕ) → i ≡ j → c ≡ k → b ≡ d → hit3 i c b j k d ≡ 1
hit3-one i c b j k d e e' e'' = cond-at i j _ e ∙ cond-at c k _ e' ∙ cond-at b d 1 e''

hit3-none : (i c b j k d : ℕ) → (i ≡ j → c ≡ k → b ≡ d → ⊥) → hit3 i c b j k d ≡ 0
hit3-none i c b j k d apart = by (i == j) refl (c == k) refl (b == d) refl
  where
    by : (x : Bool) → (i == j) ≡ x → (y : Bool) → (c == k) ≡ y → (z : Bool) → (b == d) ≡ z → hit3 i c b j k d ≡ 0
    by true e true e' true e'' = absurd (apart (eqb-true i j e) (eqb-true c k e') (eqb-true b d e''))
    by true e true e' false e'' = ap (λ (t : Bool). cond t (cond (c == k) (cond (b == d) 1 0) 0) 0) e ∙ ap (λ (t : Bool). cond t (cond (b == d) 1 0) 0) e' ∙ ap (λ (t : Bool). cond t 1 0) e''
    by true e false e' z e'' = ap (λ (t : Bool). cond t (cond (c == k) (cond (b == d) 1 0) 0) 0) e ∙ ap (λ (t : Bool). cond t (cond (b == d) 1 0) 0) e'
    by false e y e' z e'' = ap (λ (t : Bool). cond t (cond (c == k) (cond (b == d) 1 0) 0) 0) e

-- Unit u is free under `less` and has a record under `more`; other units are alike.
module _ (g : Plan) (supers less more : ℕ → ℕ) (u c : ℕ) (is : IsBlock g u c) (its : class_of (supers (superblock_of g u)) ≡ c)
    (free : is_used (less u) ≡ 0) (used : is_used (more u) ≡ 1) (others : (w : ℕ) → w ≢ u → more w ≡ less w) where
  abbrev i : ℕ
  i = superblock_of g u

  abbrev b : ℕ
  b = bit_of g u c

  records-here : records g more i ≡ records g less i + 1
  records-here =
      let f : ℕ → ℕ = λ x. is_used (less (i * g.geometry.units + x)) in let f' : ℕ → ℕ = λ x. is_used (more (i * g.geometry.units + x)) in
      let was : f (u % g.geometry.units) ≡ 0 = ap (λ (w : ℕ). is_used (less w)) (unit-parts g u) ∙ free in
      let now : f' (u % g.geometry.units) ≡ 1 = ap (λ (w : ℕ). is_used (more w)) (unit-parts g u) ∙ used in
      omega (arith, was, now, below-set f f' g.geometry.units (u % g.geometry.units) (place_in g u) (λ x low ne. ap is_used (others (i * g.geometry.units + x) (λ e. ne (omega (arith, e, unit-parts g u))))))

  records-there : (j : ℕ) → j ≢ i → records g more j ≡ records g less j
  records-there j ne = below-same (λ x. is_used (more (j * g.geometry.units + x))) (λ x. is_used (less (j * g.geometry.units + x))) g.geometry.units
      (λ x low. ap is_used (others (j * g.geometry.units + x) (λ e. ne (sym (div-mul-add j g.geometry.units x low) ∙ ap (superblock_of g) e))))

  records-one : (j k : ℕ) → cond (class_of (supers j) == k) (records g more j) 0 ≡ cond (class_of (supers j) == k) (records g less j) 0 + hit i c j k
  records-one j k = by (cases_eq j i)
    where
      here : cond (class_of (supers i) == k) (records g more i) 0 ≡ cond (class_of (supers i) == k) (records g less i) 0 + hit i c i k
      here =
          ap (λ (n : ℕ). cond (class_of (supers i) == k) n 0) records-here ∙ sym (cond-plus (class_of (supers i) == k) (records g less i) 1)
          ∙ ap (λ (n : ℕ). cond (class_of (supers i) == k) (records g less i) 0 + n) (ap (λ (n : ℕ). cond (n == k) 1 0) its ∙ sym (hit-here i c k))

      by : (j ≡ i) ⊎ (j ≢ i) → cond (class_of (supers j) == k) (records g more j) 0 ≡ cond (class_of (supers j) == k) (records g less j) 0 + hit i c j k
      by (inl e) = subst (λ (x : ℕ). cond (class_of (supers x) == k) (records g more x) 0 ≡ cond (class_of (supers x) == k) (records g less x) 0 + hit i c x k) (sym e) here
      by (inr ne) = omega (arith, ap (λ (n : ℕ). cond (class_of (supers j) == k) n 0) (records-there j ne), hit-apart i c j k (λ e. ne (sym e)))

  used-one : (j k d : ℕ) → class_of (supers j) ≤ 3 → cond (class_of (supers j) == k) (used_at g more j k d) 0 ≡ cond (class_of (supers j) == k) (used_at g less j k d) 0 + hit3 i c b j k d
  used-one j k d low = by (class_of (supers j) == k) refl
    where
      within : (t : Bool) → nat_lt d (cap g k) ≡ t → class_of (supers j) ≡ k → cond t (is_used (more (unit_of g j k d))) 0 ≡ cond t (is_used (less (unit_of g j k d))) 0 + hit3 i c b j k d
      within false e same = omega (arith, hit3-none i c b j k d (λ x y z. true≢false (sym (lt-ltb d (cap g k) (omega (arith, bit_below g u c is, z, ap (cap g) y))) ∙ e)))
      within true e same = at_unit (cases_eq (unit_of g j k d) u)
        where
          place : (superblock_of g (unit_of g j k d) ≡ j) × (bit_of g (unit_of g j k d) k ≡ d)
          place = names_place g j k d (omega (arith, low, same)) (ltb-true d (cap g k) e)

          at_unit : (unit_of g j k d ≡ u) ⊎ (unit_of g j k d ≢ u) → is_used (more (unit_of g j k d)) ≡ is_used (less (unit_of g j k d)) + hit3 i c b j k d
          at_unit (inl at) =
              let where_is : i ≡ j = sym (ap (superblock_of g) at) ∙ place.0 in
              let class_is : c ≡ k = sym its ∙ ap (λ (x : ℕ). class_of (supers x)) where_is ∙ same in
              let bit_is : b ≡ d = ap (λ (x : ℕ). bit_of g u x) class_is ∙ sym (ap (λ (x : ℕ). bit_of g x k) at) ∙ place.1 in
              omega (arith, ap (λ (x : ℕ). is_used (more x)) at, used, ap (λ (x : ℕ). is_used (less x)) at, free, hit3-one i c b j k d where_is class_is bit_is)
          at_unit (inr ne) = omega (
            arith,
            ap is_used (others (unit_of g j k d) ne),
            hit3-none i c b j k d (λ x y z. ne ((λ t. unit_of g (sym x t) (sym y t) (sym z t)) ∙ is.at_its_place)),
          )

      by : (t : Bool) → (class_of (supers j) == k) ≡ t → cond t (used_at g more j k d) 0 ≡ cond t (used_at g less j k d) 0 + hit3 i c b j k d
      by true e = within (nat_lt d (cap g k)) refl (eqb-true (class_of (supers j)) k e)
      by false e = omega (arith, hit3-none i c b j k d (λ x y z. true≢false (sym (eq-eqb (class_of (supers j)) k (ap (λ (n : ℕ). class_of (supers n)) (sym x) ∙ its ∙ y)) ∙ e)))

  module _ (bits : ℕ → ℕ → ℕ) (hands : List Hand) (id : ℕ) (h h' : Hand) (at : At hands id h) where
    abbrev after : List Hand
    after = slice_set hands id h'

    -- a hand's block becomes a record
    pub pool-came : PoolSound g supers bits less hands → ((j k : ℕ) → places g j k h ≡ places g j k h' + hit i c j k) → ((j k d : ℕ) → owns g j k d h ≡ owns g j k d h' + hit3 i c b j k d)
        → Each (λ (x : Block). IsBlock g x.unit x.class) h'.blocks → PoolSound g supers bits more after
    pool-came sound same_places same_owns blocks = record {
      kept = λ j near. let kept = sound.kept j near in
          kept-same g (supers j) (supers j) (bits j) (bits j) (held g supers less hands j) (held g supers more after j) (owned g supers less hands j) (owned g supers more after j) kept refl (λ d small. refl)
          (λ k. omega (arith, places_after g supers bits less hands id h h' at j k, same_places j k, records-one j k))
          (λ k d. omega (arith, owns_after g supers bits less hands id h h' at j k d, same_owns j k d, used-one j k d kept.class_fits));
      blocks = each-set (λ (x : Hand). Each (λ (y : Block). IsBlock g y.unit y.class) x.blocks) hands id h' sound.blocks blocks;
      first = λ j x near low in_it. first j x near low in_it (cases_eq (j * g.geometry.units + x) u);
    }
      where
        first : (j x : ℕ) → j < g.geometry.superblocks → x < g.geometry.units → is_used (more (j * g.geometry.units + x)) ≡ 1
            → (j * g.geometry.units + x ≡ u) ⊎ (j * g.geometry.units + x ≢ u) → x % block_units (class_of (supers j)) ≡ 0
        first j x near low in_it (inr ne) = sound.first j x near low (ap is_used (sym (others (j * g.geometry.units + x) ne)) ∙ in_it)
        first j x near low in_it (inl e) =
            let where_is : j ≡ i = sym (div-mul-add j g.geometry.units x low) ∙ ap (superblock_of g) e in
            let class_is : class_of (supers j) ≡ c = ap (λ (y : ℕ). class_of (supers y)) where_is ∙ its in
            let place : x ≡ b * block_units c = omega (arith, e, is.at_its_place, ap (λ (y : ℕ). y * g.geometry.units) where_is) in
            ap (λ (y : ℕ). x % block_units y) class_is ∙ ap (λ (y : ℕ). y % block_units c) place ∙ mul-mod_left b (block_units c)

    -- a record becomes a block of a hand
    pub pool-went : PoolSound g supers bits more hands → ((j k : ℕ) → places g j k h' ≡ places g j k h + hit i c j k) → ((j k d : ℕ) → owns g j k d h' ≡ owns g j k d h + hit3 i c b j k d)
        → Each (λ (x : Block). IsBlock g x.unit x.class) h'.blocks → PoolSound g supers bits less after
    pool-went sound same_places same_owns blocks = record {
      kept = λ j near. let kept = sound.kept j near in
          kept-same g (supers j) (supers j) (bits j) (bits j) (held g supers more hands j) (held g supers less after j) (owned g supers more hands j) (owned g supers less after j) kept refl (λ d small. refl)
          (λ k. omega (arith, places_after g supers bits more hands id h h' at j k, same_places j k, records-one j k))
          (λ k d. omega (arith, owns_after g supers bits more hands id h h' at j k d, same_owns j k d, used-one j k d kept.class_fits));
      blocks = each-set (λ (x : Hand). Each (λ (y : Block). IsBlock g y.unit y.class) x.blocks) hands id h' sound.blocks blocks;
      first = λ j x near low in_it. sound.first j x near low (ap is_used (others (j * g.geometry.units + x) (λ e. omega (arith, in_it, ap (λ (y : ℕ). is_used (less y)) e, free))) ∙ in_it);
    }

-- a record stands at the first unit of a block of its superblock's class
pub record_block : (g : Plan) (supers : ℕ → ℕ) (bits : ℕ → ℕ → ℕ) (states : ℕ → ℕ) (hands : List Hand) → PoolSound g supers bits states hands
    → (u : ℕ) → u < units_of g → is_used (states u) ≡ 1 → IsBlock g u (class_of (supers (superblock_of g u)))
record_block g supers bits states hands sound u near used =
    let i : ℕ = superblock_of g u in let c : ℕ = class_of (supers i) in
    let first : u % g.geometry.units % block_units c ≡ 0 = sound.first i (u % g.geometry.units) (superblock_in g u near) (place_in g u) (ap (λ (w : ℕ). is_used (states w)) (unit-parts g u) ∙ used) in
    record {
      class_fits = (sound.kept i (superblock_in g u near)).class_fits;
      inside = near;
      at_its_place = omega (arith, unit-parts g u, div-add-mod' (u % g.geometry.units) (block_units c), first);
    }

-- no record stands where a hand has a block, and its superblock has its class
pub block_free : (g : Plan) (supers : ℕ → ℕ) (bits : ℕ → ℕ → ℕ) (states : ℕ → ℕ) (hands : List Hand) (id : ℕ) (h : Hand) → At hands id h → PoolSound g supers bits states hands
    → ((j d : ℕ) → bits j d ≤ 1) → (x : Block) → Has x h.blocks → IsBlock g x.unit x.class → (is_used (states x.unit) ≡ 0) × (class_of (supers (superblock_of g x.unit)) ≡ x.class)
block_free g supers bits states hands id h at sound bit x has is = (unused, class_is)
  where
    i : ℕ
    i = superblock_of g x.unit

    b : ℕ
    b = bit_of g x.unit x.class

    near : i < g.geometry.superblocks
    near = superblock_near g x.unit x.class is

    mine : hit i x.class i x.class ≤ places g i x.class h
    mine = omega (arith, total-has (λ (y : Block). hit (superblock_of g y.unit) y.class i x.class) h.blocks x has)

    class_is : class_of (supers i) ≡ x.class
    class_is = (class_held g supers bits states hands id h at sound i x.class near (omega (arith, mine, hit-here i x.class x.class, cond-at x.class x.class 1 refl))).0

    in_cap : nat_lt b (cap g x.class) ≡ true
    in_cap = lt-ltb b (cap g x.class) (bit_below g x.unit x.class is)

    record_there : used_at g states i x.class b ≡ is_used (states x.unit)
    record_there = ap (λ (t : Bool). cond t (is_used (states (unit_of g i x.class b))) 0) in_cap ∙ ap (λ (w : ℕ). is_used (states w)) is.at_its_place

    unused : is_used (states x.unit) ≡ 0
    unused =
        let small : b < 512 = omega (arith, bit_below g x.unit x.class is, (blocks_fill g.geometry x.class is.class_fits).2) in
        omega (
          arith,
          (sound.kept i near).once x.class b small,
          cond-le (class_of (supers i) == x.class) (bits i b),
          bit i b,
          cond-at (class_of (supers i)) x.class (used_at g states i x.class b) class_is,
          record_there,
          total-member (owns g i x.class b) hands id h at,
          total-has (λ (y : Block). hit3 (superblock_of g y.unit) y.class (bit_of g y.unit y.class) i x.class b) h.blocks x has,
          hit3-one i x.class b i x.class b refl refl refl,
        )
