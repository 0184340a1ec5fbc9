-- The pool after each of its steps.
use Rattle.std.proofs.Common.{◌≡◌, ◌≢◌, ◌∙◌, ◌⊎◌, inl, inr, ℕ, ◌+◌, ◌-◌, ◌*◌, ◌%◌, ◌<◌, ◌≤◌, true, cond, ◌==◌, List, ◌∷◌, refl, sym, ap, subst, arith}
use Rattle.std.specs.Prelude.{slice_set}
use Rattle.std.proofs.lemmas.Bool.{cases_eq}
use Rattle.record_core.specs.Sums.{total, below}
use Rattle.record_core.proofs.BelowFacts.{below-member}
use Rattle.kt_words.specs.declared.plan.Plan.{Plan}
use Rattle.kt_words.specs.Capacity.{block_units}
use Rattle.kt_words.specs.SuperWords.{count_of, class_of, ever_of, risen}
use Rattle.kt_words.specs.SuperWordLaws.{SuperWordSays}
use Rattle.kt_words.proofs.GeometryFacts.{blocks_fill}
use Rattle.record_core.specs.Counting.{At, Has, dropped}
use Rattle.table_core.specs.Lists.{Each, hit, hit3}
use Rattle.table_core.specs.Holdings.{Place, Block}
use Rattle.table_core.specs.Pool.{cap, unit_of, superblock_of, bit_of, IsBlock, is_used, Hand, places, owns, records, used_at, held, owned, IsKept, PoolSound}
use Rattle.table_core.specs.Views.{place, block, is_place, is_block}
use Rattle.table_core.proofs.ListFacts.{each-cons, each-dropped, dropped-place, dropped-block, total-has}
use Rattle.table_core.proofs.PoolFacts.{cond-plus, cond-le, class_from, cond-at, cond-apart, hit-apart, hit-here, hit3-apart, hit3-here, owned-held, names_place, block_there, superblock_near, bit_below, places_after, owns_after, places-held, owns-owned, pool-moved}

-- one less and one more
back : (n : ℕ) → 1 ≤ n → n - 1 + 1 ≡ n
back n some = omega arith

module _ (g : Plan) (supers : ℕ → ℕ) (bits : ℕ → ℕ → ℕ) (states : ℕ → ℕ) (hands : List Hand) (id : ℕ) (h : Hand) (at : At hands id h) (sound : PoolSound g supers bits states hands) where
  blocks-of : Each (λ (b : Block). IsBlock g b.unit b.class) h.blocks
  blocks-of = sound.blocks id h at

  -- a count is at most 512
  pub count-small : (i : ℕ) → i < g.geometry.superblocks → count_of (supers i) ≤ 512
  count-small i near = let kept = sound.kept i near in omega (arith, kept.few, (blocks_fill g.geometry (class_of (supers i)) kept.class_fits).2)

  -- where a hand has something of a superblock in a class, that is its class, and its count is not 0
  pub class_held : (i c : ℕ) → i < g.geometry.superblocks → 1 ≤ places g i c h → (class_of (supers i) ≡ c) × (1 ≤ count_of (supers i))
  class_held i c near some =
      let kept = sound.kept i near in
      let counted : 1 ≤ cond (class_of (supers i) == c) (count_of (supers i)) 0 = omega (arith, kept.counted c, places-held g supers bits states hands id h h at i c) in
      (class_from (class_of (supers i)) c (count_of (supers i)) counted, omega (arith, cond-le (class_of (supers i) == c) (count_of (supers i))))

  -- the bit of a block in a hand is set
  pub block_set : (x : Block) → Has x h.blocks → 1 ≤ bits (superblock_of g x.unit) (bit_of g x.unit x.class)
  block_set x has =
      let is : IsBlock g x.unit x.class = blocks-of has.0 x has.1 in
      let i : ℕ = superblock_of g x.unit in let b : ℕ = bit_of g x.unit x.class in
      let near : i < g.geometry.superblocks = superblock_near g x.unit x.class is in
      let small : b < 512 = omega (arith, bit_below g x.unit x.class is, (blocks_fill g.geometry x.class is.class_fits).2) in
      let one : hit3 i x.class b i x.class b ≡ 1 = hit3-here i x.class b x.class b ∙ cond-at x.class x.class _ refl ∙ cond-at b b 1 refl in
      let mine : hit3 i x.class b i x.class b ≤ owns g i x.class b h = total-has (λ (y : Block). hit3 (superblock_of g y.unit) y.class (bit_of g y.unit y.class) i x.class b) h.blocks x has in
      omega (arith, one, mine, owns-owned g supers bits states hands id h h at i x.class b, (sound.kept i near).once x.class b small, cond-le (class_of (supers i) == x.class) (bits i b))

  module _ (i : ℕ) (near : i < g.geometry.superblocks) (c : ℕ) where
    abbrev kept : IsKept g (supers i) (bits i) (held g supers states hands i) (owned g supers states hands i)
    kept = sound.kept i near

    -- an empty superblock has no record, no place is held there, and no bit is set
    no_records : count_of (supers i) ≡ 0 → records g states i ≡ 0
    no_records none = omega (arith, kept.counted (class_of (supers i)), cond-at (class_of (supers i)) (class_of (supers i)) (records g states i) refl, cond-le (class_of (supers i) == class_of (supers i)) (count_of (supers i)))

    no_places : count_of (supers i) ≡ 0 → (k : ℕ) → total (places g i k) hands ≡ 0
    no_places none k = omega (arith, kept.counted k, cond-le (class_of (supers i) == k) (count_of (supers i)))

    no_bits : count_of (supers i) ≡ 0 → (b : ℕ) → b < 512 → bits i b ≡ 0
    no_bits none b small =
        let k : ℕ = class_of (supers i) in
        omega (arith, kept.once k b small, cond-at k k (bits i b) refl, owned-held g supers states hands i k b kept.class_fits, kept.counted k, cond-le (k == k) (count_of (supers i)))

    -- a place is reserved
    module _ (supers' : ℕ → ℕ) (fits : c ≤ 3) (room : count_of (supers i) < cap g c) (says : SuperWordSays (supers' i) (count_of (supers i) + 1) c (risen (ever_of (supers i)))) where
      abbrev more : Hand
      more = record h { reserved = place i c ∷ h.reserved }

      abbrev after : List Hand
      after = slice_set hands id more

      one_more : (k : ℕ) → total (places g i k) after ≡ total (places g i k) hands + cond (c == k) 1 0
      one_more k = omega (arith, places_after g supers bits states hands id h more at i k, hit-here i c k)

      same_owns : (k b : ℕ) → total (owns g i k b) after ≡ total (owns g i k b) hands
      same_owns k b = omega (arith, owns_after g supers bits states hands id h more at i k b)

      -- the count after it
      counted_after : (k : ℕ) → cond (class_of (supers' i) == k) (count_of (supers' i)) 0 ≡ cond (c == k) (count_of (supers i) + 1) 0
      counted_after k = λ j. cond (says.class_is j == k) (says.count_is j) 0

      -- a weight under the class after it
      under : (k x : ℕ) → cond (class_of (supers' i) == k) x 0 ≡ cond (c == k) x 0
      under k x = ap (λ (n : ℕ). cond (n == k) x 0) says.class_is

      reserved_same : class_of (supers i) ≡ c → IsKept g (supers' i) (bits i) (held g supers' states after i) (owned g supers' states after i)
      reserved_same same =
          let before : (k x : ℕ) → cond (class_of (supers i) == k) x 0 ≡ cond (c == k) x 0 = λ k x. ap (λ (n : ℕ). cond (n == k) x 0) same in
          let R : ℕ = records g states i in let n : ℕ = count_of (supers i) in
          record {
            class_fits = omega (arith, says.class_is, fits);
            counted = λ k. omega (arith, one_more k, under k R, before k R, before k n, kept.counted k, cond-plus (c == k) n 1, counted_after k);
            few = subst (λ (k : ℕ). count_of (supers' i) ≤ cap g k) (sym says.class_is) (omega (arith, says.count_is, room));
            ever = omega (arith, says.count_is, says.ever_is, kept.ever, count-small i near);
            once = λ k b small. omega (arith, same_owns k b, under k (used_at g states i k b), before k (used_at g states i k b), kept.once k b small, before k (bits i b), under k (bits i b));
            inside = λ k b past. omega (arith, same_owns k b, under k (used_at g states i k b), before k (used_at g states i k b), kept.inside k b past);
          }

      nothing_owned : count_of (supers i) ≡ 0 → (k b : ℕ) → owned g supers' states after i k b ≡ 0
      nothing_owned none k b =
          omega (arith, same_owns k b, owned-held g supers' states hands i k b (omega (arith, says.class_is, fits)), no_places none k, no_records none, cond-le (class_of (supers' i) == k) (records g states i))

      reserved_empty : count_of (supers i) ≡ 0 → IsKept g (supers' i) (bits i) (held g supers' states after i) (owned g supers' states after i)
      reserved_empty none =
          let R : ℕ = records g states i in let n : ℕ = count_of (supers i) in
          record {
            class_fits = omega (arith, says.class_is, fits);
            counted = λ k. omega (arith, one_more k, no_places none k, no_records none, cond-le (class_of (supers' i) == k) R, counted_after k, cond-plus (c == k) n 1, cond-le (c == k) n);
            few = subst (λ (k : ℕ). count_of (supers' i) ≤ cap g k) (sym says.class_is) (omega (arith, says.count_is, room));
            ever = omega (arith, says.count_is, says.ever_is, kept.ever, count-small i near);
            once = λ k b small. omega (arith, nothing_owned none k b, no_bits none b small, cond-le (class_of (supers' i) == k) (bits i b));
            inside = λ k b past. nothing_owned none k b;
          }

      -- the pool is sound after a place was reserved
      pub pool-reserved : (class_of (supers i) ≡ c) ⊎ (count_of (supers i) ≡ 0) → ((j : ℕ) → j ≢ i → supers' j ≡ supers j) → PoolSound g supers' bits states after
      pool-reserved which others = pool-moved g supers bits states hands id h more at sound supers' bits i others (λ j b ne small. refl)
          (λ j k ne. omega (arith, hit-apart i c j k (λ e. ne (sym e)))) (λ j k b ne. refl) blocks-of (first which) (λ near'. here which)
        where
          first : (class_of (supers i) ≡ c) ⊎ (count_of (supers i) ≡ 0) → (j : ℕ) → j < g.geometry.units → is_used (states (i * g.geometry.units + j)) ≡ 1 → j % block_units (class_of (supers' i)) ≡ 0
          first (inl same) j below used = subst (λ (k : ℕ). j % block_units k ≡ 0) (same ∙ sym says.class_is) (sound.first i j near below used)
          first (inr none) j below used = absurd (omega (arith, used, no_records none, below-member (λ u. is_used (states (i * g.geometry.units + u))) g.geometry.units j below))

          here : (class_of (supers i) ≡ c) ⊎ (count_of (supers i) ≡ 0) → IsKept g (supers' i) (bits i) (held g supers' states after i) (owned g supers' states after i)
          here (inl same) = reserved_same same
          here (inr none) = reserved_empty none

    -- a debt is paid
    module _ (supers' : ℕ → ℕ) (has : Has (place i c) h.debts) (says : SuperWordSays (supers' i) (count_of (supers i) - 1) (class_of (supers i)) (ever_of (supers i))) where
      abbrev paid : Hand
      paid = record h { debts = dropped (is_place (place i c)) h.debts }

      abbrev left : List Hand
      left = slice_set hands id paid

      one_less : (j k : ℕ) → places g j k paid + hit i c j k ≡ places g j k h
      one_less j k = omega (arith, dropped-place (place i c) (λ (d : Place). hit d.superblock d.class j k) h.debts has)

      owed : 1 ≤ places g i c h
      owed = omega (arith, one_less i c, hit-here i c c, cond-at c c 1 refl)

      settled_kept : IsKept g (supers' i) (bits i) (held g supers' states left i) (owned g supers' states left i)
      settled_kept =
          let held_here = class_held i c near owed in
          let same : (k x : ℕ) → cond (class_of (supers' i) == k) x 0 ≡ cond (class_of (supers i) == k) x 0 = λ k x. ap (λ (n : ℕ). cond (n == k) x 0) says.class_is in
          let class_is : (k x : ℕ) → cond (class_of (supers i) == k) x 0 ≡ cond (c == k) x 0 = λ k x. ap (λ (n : ℕ). cond (n == k) x 0) held_here.0 in
          let R : ℕ = records g states i in let n : ℕ = count_of (supers i) in
          let same_owns : (k b : ℕ) → total (owns g i k b) left ≡ total (owns g i k b) hands = λ k b. omega (arith, owns_after g supers bits states hands id h paid at i k b) in
          let part : (k : ℕ) → cond (c == k) (n - 1) 0 + cond (c == k) 1 0 ≡ cond (c == k) n 0 = λ k. cond-plus (c == k) (n - 1) 1 ∙ ap (λ (x : ℕ). cond (c == k) x 0) (back n held_here.1) in
          record {
            class_fits = omega (arith, says.class_is, kept.class_fits);
            counted = λ k. omega (arith, places_after g supers bits states hands id h paid at i k, one_less i k, hit-here i c k, same k R, kept.counted k, part k, class_is k n, class_is k (n - 1), same k (n - 1), ap (λ (x : ℕ). cond (class_of (supers' i) == k) x 0) says.count_is);
            few = subst (λ (k : ℕ). count_of (supers' i) ≤ cap g k) (sym says.class_is) (omega (arith, says.count_is, kept.few));
            ever = omega (arith, says.count_is, says.ever_is, kept.ever);
            once = λ k b small. omega (arith, same_owns k b, same k (used_at g states i k b), kept.once k b small, same k (bits i b));
            inside = λ k b past. omega (arith, same_owns k b, same k (used_at g states i k b), kept.inside k b past);
          }

      -- the pool is sound after a place was settled
      pub pool-settled : ((j : ℕ) → j ≢ i → supers' j ≡ supers j) → PoolSound g supers' bits states left
      pool-settled others = pool-moved g supers bits states hands id h paid at sound supers' bits i others (λ j b ne small. refl)
          (λ j k ne. omega (arith, one_less j k, hit-apart i c j k (λ e. ne (sym e)))) (λ j k b ne. refl) blocks-of
          (λ j below used. subst (λ (k : ℕ). j % block_units k ≡ 0) (sym says.class_is) (sound.first i j near below used)) (λ near'. settled_kept)

    -- a bit is won for a reserved place
    module _ (b : ℕ) (bits' : ℕ → ℕ → ℕ) (fits : c ≤ 3) (below : b < cap g c) (has : Has (place i c) h.reserved) (set : (j d : ℕ) → d < 512 → bits' j d ≡ bits j d + hit i b j d) where
      abbrev won : Hand
      won = record h { reserved = dropped (is_place (place i c)) h.reserved; blocks = block (unit_of g i c b) c true ∷ h.blocks }

      abbrev then : List Hand
      then = slice_set hands id won

      same_places : (j k : ℕ) → places g j k won ≡ places g j k h
      same_places j k = omega (arith, dropped-place (place i c) (λ (r : Place). hit r.superblock r.class j k) h.reserved has, ap (λ (x : ℕ). hit x c j k) (names_place g i c b fits below).0)

      one_block : (j k d : ℕ) → owns g j k d won ≡ owns g j k d h + hit3 i c b j k d
      one_block j k d =
          let t = names_place g i c b fits below in
          let same : hit3 (superblock_of g (unit_of g i c b)) c (bit_of g (unit_of g i c b) c) j k d ≡ hit3 i c b j k d = λ x. hit3 (t.0 x) c (t.1 x) j k d in
          omega (arith, same)

      its_class : class_of (supers i) ≡ c
      its_class =
          let some : hit i c i c ≤ places g i c h = omega (arith, total-has (λ (r : Place). hit r.superblock r.class i c) h.reserved (place i c) has) in
          (class_held i c near (omega (arith, some, hit-here i c c, cond-at c c 1 refl))).0

      claimed_kept : IsKept g (supers i) (bits' i) (held g supers states then i) (owned g supers states then i)
      claimed_kept =
          let class_is : (k x : ℕ) → cond (class_of (supers i) == k) x 0 ≡ cond (c == k) x 0 = λ k x. ap (λ (n : ℕ). cond (n == k) x 0) its_class in
          let owned_after : (k d : ℕ) → owned g supers states then i k d ≡ owned g supers states hands i k d + cond (c == k) (cond (b == d) 1 0) 0 =
          λ k d. omega (arith, owns_after g supers bits states hands id h won at i k d, one_block i k d, hit3-here i c b k d) in
          record {
            class_fits = kept.class_fits;
            counted = λ k. omega (arith, places_after g supers bits states hands id h won at i k, same_places i k, kept.counted k);
            few = kept.few;
            ever = kept.ever;
            once = λ k d small. omega (
              arith,
              owned_after k d,
              kept.once k d small,
              class_is k (bits i d),
              class_is k (bits' i d),
              cond-plus (c == k) (bits i d) (cond (b == d) 1 0),
              ap (λ (x : ℕ). cond (c == k) x 0) (set i d small ∙ ap (λ (x : ℕ). bits i d + x) (hit-here i b d)),
            );
            inside = λ k d past. omega (arith, owned_after k d, kept.inside k d past, outside k d past (cases_eq c k));
          }
        where
          outside : (k d : ℕ) → cap g k ≤ d → (c ≡ k) ⊎ (c ≢ k) → ◌≡◌ {A = ℕ} (cond (c == k) (cond (b == d) 1 0) 0) 0
          outside k d past (inl e) = cond-at c k _ e ∙ cond-apart b d 1 (λ same. omega (arith, below, past, same, ap (cap g) e))
          outside k d past (inr ne) = cond-apart c k _ ne

      -- the pool is sound after a bit was set
      pub pool-claimed : PoolSound g supers bits' states then
      pool-claimed = pool-moved g supers bits states hands id h won at sound supers bits' i (λ j ne. refl) (λ j d ne small. omega (arith, set j d small, hit-apart i b j d (λ e. ne (sym e))))
          (λ j k ne. same_places j k) (λ j k d ne. omega (arith, one_block j k d, hit3-apart i c b j k d (λ e. ne (sym e))))
          (each-cons (λ (x : Block). IsBlock g x.unit x.class) (block (unit_of g i c b) c true) h.blocks (block_there g i c b near fits below) blocks-of)
          (λ j low used. sound.first i j near low used) (λ near'. claimed_kept)

  -- the bit of a block is cleared
  module _ (x : Block) (has : Has x h.blocks) (bits' : ℕ → ℕ → ℕ) (clear : (j d : ℕ) → d < 512 → bits' j d + hit (superblock_of g x.unit) (bit_of g x.unit x.class) j d ≡ bits j d) where
    abbrev place_of : Place
    place_of = place (superblock_of g x.unit) x.class

    abbrev given : Hand
    given = record h { blocks = dropped (is_block x) h.blocks; debts = place_of ∷ h.debts }

    abbrev later : List Hand
    later = slice_set hands id given

    abbrev its : ℕ
    its = superblock_of g x.unit

    still_places : (j k : ℕ) → places g j k given ≡ places g j k h
    still_places j k = omega (arith, dropped-block x (λ (y : Block). hit (superblock_of g y.unit) y.class j k) h.blocks has)

    less_blocks : (j k d : ℕ) → owns g j k d given + hit3 its x.class (bit_of g x.unit x.class) j k d ≡ owns g j k d h
    less_blocks j k d = omega (arith, dropped-block x (λ (y : Block). hit3 (superblock_of g y.unit) y.class (bit_of g y.unit y.class) j k d) h.blocks has)

    cleared_kept : its < g.geometry.superblocks → IsKept g (supers its) (bits' its) (held g supers states later its) (owned g supers states later its)
    cleared_kept near =
        let was = sound.kept its near in let b : ℕ = bit_of g x.unit x.class in let c : ℕ = x.class in
        let mine : hit its c its c ≤ places g its c h = omega (arith, total-has (λ (y : Block). hit (superblock_of g y.unit) y.class its c) h.blocks x has) in
        let its_class : class_of (supers its) ≡ c = (class_held its c near (omega (arith, mine, hit-here its c c, cond-at c c 1 refl))).0 in
        let class_is : (k n : ℕ) → cond (class_of (supers its) == k) n 0 ≡ cond (c == k) n 0 = λ k n. ap (λ (y : ℕ). cond (y == k) n 0) its_class in
        let owned_after : (k d : ℕ) → owned g supers states later its k d + cond (c == k) (cond (b == d) 1 0) 0 ≡ owned g supers states hands its k d =
        λ k d. omega (arith, owns_after g supers bits states hands id h given at its k d, less_blocks its k d, hit3-here its c b k d) in
        record {
          class_fits = was.class_fits;
          counted = λ k. omega (arith, places_after g supers bits states hands id h given at its k, still_places its k, was.counted k);
          few = was.few;
          ever = was.ever;
          once = λ k d small. omega (
            arith,
            owned_after k d,
            was.once k d small,
            class_is k (bits its d),
            class_is k (bits' its d),
            cond-plus (c == k) (bits' its d) (cond (b == d) 1 0),
            ap (λ (n : ℕ). cond (c == k) n 0) (ap (λ (n : ℕ). bits' its d + n) (sym (hit-here its b d)) ∙ clear its d small),
          );
          inside = λ k d past. omega (arith, owned_after k d, was.inside k d past);
        }

    -- the pool is sound after a bit was cleared
    pub pool-cleared : PoolSound g supers bits' states later
    pool-cleared = pool-moved g supers bits states hands id h given at sound supers bits' its (λ j ne. refl)
        (λ j d ne small. omega (arith, clear j d small, hit-apart its (bit_of g x.unit x.class) j d (λ e. ne (sym e))))
        (λ j k ne. still_places j k) (λ j k d ne. omega (arith, less_blocks j k d, hit3-apart its x.class (bit_of g x.unit x.class) j k d (λ e. ne (sym e))))
        (each-dropped (λ (y : Block). IsBlock g y.unit y.class) (is_block x) h.blocks blocks-of)
        (λ j low used. sound.first its j (superblock_near g x.unit x.class (blocks-of has.0 x has.1)) low used) cleared_kept
