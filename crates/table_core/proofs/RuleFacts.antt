-- Blocks of passes and of records lie apart, and a pool of which nobody has anything is empty.
use Rattle.std.proofs.Common.{◌≡◌, ◌≢◌, ◌∙◌, ◌⊎◌, inl, inr, ℕ, suc, ◌+◌, ◌*◌, ◌<◌, ◌≤◌, ◌==◌, List, map, refl, sym, ap, subst, mul-le-mul_right, suc-mul, arith}
use Rattle.std.specs.Prelude.{nat_lt, slice_get}
use Rattle.std.proofs.lemmas.Bool.{cases_eq}
use Rattle.record_core.specs.Sums.{total}
use Rattle.record_core.specs.Counting.{At, one_if}
use Rattle.record_core.proofs.TotalFacts.{total-member, total-two_members, total-bounded}
use Rattle.record_core.proofs.BelowFacts.{below-bounded}
use Rattle.kt_words.specs.SuperWords.{count_of, class_of}
use Rattle.kt_words.specs.StateWords.{phase_of}
use Rattle.kt_words.proofs.GeometryFacts.{blocks_fill}
use Rattle.table_core.specs.Addresses.{Mem, super, state, units_of}
use Rattle.table_core.specs.Lists.{Each, hit, hit3}
use Rattle.table_core.specs.Holdings.{Place, Block}
use Rattle.table_core.specs.Pool.{superblock_of, bit_of, IsBlock, is_used, Hand, places, owns, records, held, owned, IsKept, PoolSound, bit_in}
use Rattle.table_core.specs.Parts.{pool, seen, Lawful}
use Rattle.table_core.specs.RuleLaws.{HasAt, ShareNone, AreApart, BlocksAreApart, StandsAt, class_at, RecordsAreApart, RecordsAndBlocksAreApart, HasNothing, UnusedPoolIsEmpty}
use Rattle.table_core.specs.declared.setup.Setup.{Setup}
use Rattle.table_core.specs.declared.view.View.{View}
use Rattle.table_core.proofs.ListFacts.{at_map, map_at, same_some}
use Rattle.table_core.proofs.PoolFacts.{cond-le, cond-at, hit-here, hit3-here, superblock_near, bit_below, owned-held}
use Rattle.table_core.proofs.PoolSteps.{class_held}
use Rattle.table_core.proofs.ClassFacts.{used-from}
use Rattle.table_core.proofs.PoolRecords.{record_block, block_free}
use Rattle.table_core.proofs.Owners.{blocks-apart}

module _ (g : Setup) (m : Mem) (vs : List View) (lawful : Lawful g m vs) where
  abbrev hands : List Hand
  hands = map (seen pool) vs

  abbrev supers : ℕ → ℕ
  supers i = m (super i)

  abbrev states : ℕ → ℕ
  states u = m (state u)

  sound : PoolSound g.plan supers (bit_in m) states hands
  sound = lawful.1 pool

  abbrev its : Block → ℕ
  its x = superblock_of g.plan x.unit

  abbrev its_bit : Block → ℕ
  its_bit x = bit_of g.plan x.unit x.class

  -- a block of a pass is one of the table's, in its superblock's class
  module _ (id k : ℕ) (x : Block) (has : HasAt vs id k x) where
    hand_at : At hands id (seen pool has.pass)
    hand_at = at_map (seen pool) vs id has.pass has.at

    is_block : IsBlock g.plan x.unit x.class
    is_block = sound.blocks id (seen pool has.pass) hand_at k x has.there

    near : its x < g.plan.geometry.superblocks
    near = superblock_near g.plan x.unit x.class is_block

    one_hit : hit3 (its x) x.class (its_bit x) (its x) x.class (its_bit x) ≡ 1
    one_hit = hit3-here (its x) x.class (its_bit x) x.class (its_bit x) ∙ cond-at x.class x.class _ refl ∙ cond-at (its_bit x) (its_bit x) 1 refl

    its_class : class_of (supers (its x)) ≡ x.class
    its_class =
        let mine = total-member (λ (y : Block). hit (superblock_of g.plan y.unit) y.class (its x) x.class) has.pass.blocks k x has.there in
        (class_held g.plan supers (bit_in m) states hands id (seen pool has.pass) hand_at sound (its x) x.class near (omega (arith, mine, hit-here (its x) x.class x.class, cond-at x.class x.class 1 refl))).0

  -- a block has one owner at most
  one_owner : (i c b : ℕ) → i < g.plan.geometry.superblocks → b < 512 → total (owns g.plan i c b) hands ≤ 1
  one_owner i c b near small = omega (arith, (sound.kept i near).once c b small, cond-le (class_of (supers i) == c) (bit_in m i b))

  -- two blocks at two positions are not at one bit of one superblock
  not_both : (id k id' k' : ℕ) (x y : Block) → HasAt vs id k x → HasAt vs id' k' y → (id ≢ id') ⊎ (k ≢ k') → its x ≡ its y → x.class ≡ y.class → its_bit x ≢ its_bit y
  not_both id k id' k' x y has has' apart same_place same_class same_bit = by (cases_eq id id')
    where
      small : its_bit x < 512
      small = let is = is_block id k x has in omega (arith, bit_below g.plan x.unit x.class is, (blocks_fill g.plan.geometry x.class is.class_fits).2)

      f : Block → ℕ
      f z = hit3 (superblock_of g.plan z.unit) z.class (bit_of g.plan z.unit z.class) (its x) x.class (its_bit x)

      most : total (owns g.plan (its x) x.class (its_bit x)) hands ≤ 1
      most = one_owner (its x) x.class (its_bit x) (near id k x has) small

      hit_x : hit3 (its x) x.class (its_bit x) (its x) x.class (its_bit x) ≡ 1
      hit_x = one_hit id k x has

      hit_y : hit3 (its y) y.class (its_bit y) (its x) x.class (its_bit x) ≡ 1
      hit_y = sym (λ j. hit3 (same_place j) (same_class j) (same_bit j) (its x) x.class (its_bit x)) ∙ hit_x

      within : (id ≢ id') ⊎ (k ≢ k') → id ≡ id' → k ≢ k'
      within (inl ne) e = absurd (ne e)
      within (inr ne) e = ne

      one_pass : id ≡ id' → has'.pass ≡ has.pass
      one_pass e = same_some has'.pass has.pass (sym has'.at ∙ ap (λ (j : ℕ). slice_get vs j) (sym e) ∙ has.at)

      by : (id ≡ id') ⊎ (id ≢ id') → ⊥
      by (inl e) =
          let there : At has.pass.blocks k' y = subst (λ (v : View). At v.blocks k' y) (one_pass e) has'.there in
          let both : f x + f y ≤ total f has.pass.blocks = total-two_members f has.pass.blocks k k' x y (within apart e) has.there there in
          omega (arith, most, hit_x, hit_y, both, total-member (owns g.plan (its x) x.class (its_bit x)) hands id (seen pool has.pass) (hand_at id k x has))
      by (inr ne) =
          omega (
            arith,
            most,
            hit_x,
            hit_y,
            total-member f has.pass.blocks k x has.there,
            total-member f has'.pass.blocks k' y has'.there,
            total-two_members (owns g.plan (its x) x.class (its_bit x)) hands id id' (seen pool has.pass) (seen pool has'.pass) ne (hand_at id k x has) (hand_at id' k' y has'),
          )

  apart_from : (id k id' k' : ℕ) (x y : Block) → HasAt vs id k x → HasAt vs id' k' y → (id ≢ id') ⊎ (k ≢ k') → AreApart x y
  apart_from id k id' k' x y has has' apart = blocks-apart g.plan x.unit x.class y.unit y.class (is_block id k x has) (is_block id' k' y has') class_same other_unit
    where
      class_same : its x ≡ its y → x.class ≡ y.class
      class_same e = sym (its_class id k x has) ∙ ap (λ (i : ℕ). class_of (supers i)) e ∙ its_class id' k' y has'

      other_unit : x.unit ≢ y.unit
      other_unit e =
          let same_place : its x ≡ its y = ap (superblock_of g.plan) e in
          not_both id k id' k' x y has has' apart same_place (class_same same_place) (λ j. bit_of g.plan (e j) (class_same same_place j))

  -- a record's block is one of its superblock's class
  stands_block : (u : ℕ) → StandsAt g m u → IsBlock g.plan u (class_at g m u)
  stands_block u stands = record_block g.plan supers (bit_in m) states hands sound u stands.near (used-from (states u) stands.used)

  records_apart : (u w : ℕ) → StandsAt g m u → StandsAt g m w → u ≢ w → ShareNone u (class_at g m u) w (class_at g m w)
  records_apart u w stands stands' ne =
      blocks-apart g.plan u (class_at g m u) w (class_at g m w) (stands_block u stands) (stands_block w stands') (λ e. ap (λ (i : ℕ). class_of (supers i)) e) ne

  -- where a pass has a block, no record stands
  records_and_blocks : (id k u : ℕ) (x : Block) → HasAt vs id k x → StandsAt g m u → ShareNone x.unit x.class u (class_at g m u)
  records_and_blocks id k u x has stands = blocks-apart g.plan x.unit x.class u (class_at g m u) (is_block id k x has) (stands_block u stands)
      (λ e. sym (its_class id k x has) ∙ ap (λ (i : ℕ). class_of (supers i)) e) other_unit
    where
      free : is_used (states x.unit) ≡ 0
      free = (block_free g.plan supers (bit_in m) states hands id (seen pool has.pass) (hand_at id k x has) sound (λ j d. omega arith) x (k, has.there) (is_block id k x has)).0

      other_unit : x.unit ≢ u
      other_unit e = omega (arith, free, ap (λ (w : ℕ). is_used (states w)) e, used-from (states u) stands.used)

  module _ (nothing : Each HasNothing vs) (free : (u : ℕ) → u < units_of g.plan → phase_of (states u) ≡ 0) (i : ℕ) (inside : i < g.plan.geometry.superblocks) where
    kept : IsKept g.plan (supers i) (bit_in m i) (held g.plan supers states hands i) (owned g.plan supers states hands i)
    kept = sound.kept i inside

    nothing_of : (c : ℕ) (v : View) → HasNothing v → places g.plan i c (seen pool v) ≡ 0
    nothing_of c v none =
        omega (
          arith,
          ap (total (λ (r : Place). hit r.superblock r.class i c)) none.reserved,
          ap (total (λ (b : Block). hit (superblock_of g.plan b.unit) b.class i c)) none.blocks,
          ap (total (λ (d : Place). hit d.superblock d.class i c)) none.debts,
        )

    no_places : (c : ℕ) → total (places g.plan i c) hands ≡ 0
    no_places c = omega (arith, total-bounded (places g.plan i c) 0 hands (λ k h at. each_none k h at))
      where
        each_none : (k : ℕ) (h : Hand) → At hands k h → places g.plan i c h ≤ 0
        each_none k h at = let t = map_at (seen pool) vs k h at in omega (arith, nothing_of c t.0 (nothing k t.0 t.1), ap (places g.plan i c) t.2)

    no_records : records g.plan states i ≡ 0
    no_records = omega (arith, below-bounded (λ j. is_used (states (i * g.plan.geometry.units + j))) 0 g.plan.geometry.units unused)
      where
        unused : (j : ℕ) → j < g.plan.geometry.units → is_used (states (i * g.plan.geometry.units + j)) ≤ 0
        unused j low =
            let up_to : suc i * g.plan.geometry.units ≤ g.plan.geometry.superblocks * g.plan.geometry.units = mul-le-mul_right g.plan.geometry.units (omega arith) in
            omega (arith, ap (λ (n : ℕ). one_if (nat_lt 0 n)) (free (i * g.plan.geometry.units + j) (omega (arith, up_to, low, suc-mul i g.plan.geometry.units))))

    empty_at : (count_of (supers i) ≡ 0) × ((b : ℕ) → b < 512 → bit_in m i b ≡ 0)
    empty_at =
        let c : ℕ = class_of (supers i) in
        let none : held g.plan supers states hands i c ≡ 0 = omega (arith, no_places c, no_records, cond-le (c == c) (records g.plan states i)) in (
          omega (arith, kept.counted c, none, cond-at c c (count_of (supers i)) refl),
          λ b small. omega (arith, kept.once c b small, cond-at c c (bit_in m i b) refl, owned-held g.plan supers states hands i c b kept.class_fits, none),
        )

-- two blocks of passes share no unit
pub blocks_are_apart : BlocksAreApart
blocks_are_apart g m vs lawful = apart_from g m vs lawful

-- two records share no unit
pub records_are_apart : RecordsAreApart
records_are_apart g m vs lawful = records_apart g m vs lawful

-- a block of a pass and the block of a record share no unit
pub records_and_blocks_are_apart : RecordsAndBlocksAreApart
records_and_blocks_are_apart g m vs lawful = records_and_blocks g m vs lawful

-- a pool of which nobody has anything is empty
pub unused_pool_is_empty : UnusedPoolIsEmpty
unused_pool_is_empty g m vs lawful nothing free = empty_at g m vs lawful nothing free
