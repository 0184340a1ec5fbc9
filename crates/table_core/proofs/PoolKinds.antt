-- Each kind of step of the pool keeps the rule.
use Rattle.std.proofs.Common.{◌≡◌, ◌≢◌, ◌∙◌, ◌⊎◌, inl, inr, ℕ, zero, suc, ◌+◌, ◌-◌, ◌/◌, ◌%◌, ◌^◌, ◌<◌, ◌≤◌, Bool, cond, ◌==◌, List, map, length, refl, sym, ap, subst, arith}
use prog.Atomic.{either}
use Rattle.std.specs.Prelude.{slice_set}
use Rattle.std.specs.Int.{bit_at}
use Rattle.std.specs.Int.Bits.{bit_or, bit_and}
use Rattle.std.proofs.lemmas.Bool.{cases_eq, eq-eqb, ne_eqb}
use Rattle.atomic_table.proofs.Lists.{exchanged}
use Rattle.record_core.specs.Sums.{total}
use Rattle.record_core.proofs.TotalFacts.{total-map, total-set, total-member}
use Rattle.kt_words.specs.SuperWords.{count_of, class_of, ever_of, risen, reserved_word}
use Rattle.kt_words.specs.SuperWordLaws.{SuperWordSays}
use Rattle.kt_words.proofs.SuperWordFacts.{word_reserves, count_falls}
use Rattle.table_core.specs.Addresses.{Addr, Mem, super, bits, state, frame_in, put}
use Rattle.record_core.specs.Counting.{At, Has, one_if}
use Rattle.table_core.specs.Lists.{Each, hit}
use Rattle.table_core.specs.Holdings.{Place, Block}
use Rattle.table_core.specs.Story.{Story, tasks_in}
use Rattle.table_core.specs.Pool.{cap, superblock_of, bit_of, Hand, PoolSound, bit_in}
use Rattle.table_core.specs.Wins.{Won, Looked, IsLook, at_place}
use Rattle.table_core.specs.Bounds.{Held, IsBounded}
use Rattle.table_core.specs.Own.{record_words}
use Rattle.table_core.specs.Roots.{Turn}
use Rattle.table_core.specs.Views.{place, is_place, saw, look_of, looked, reserved, claimed, cleared, settled}
use Rattle.table_core.specs.Steps.{Tried, WonBit, Stepped}
use Rattle.table_core.specs.Parts.{Part, pool, shares, bounds, wins, looks, evers, fits, own, roots, seen, Says, AllSay, Keeps}
use Rattle.table_core.specs.declared.setup.Setup.{Setup}
use Rattle.table_core.specs.declared.view.View.{View}
use Rattle.table_core.proofs.ListFacts.{at_map, each-set, each-cons, dropped-block, length-dropped-has, place-passes, total-has}
use Rattle.table_core.proofs.Rule.{frames, moves, kept_word}
use Rattle.table_core.proofs.PoolFacts.{cond-at, hit-here}
use Rattle.table_core.proofs.ClassFacts.{fits-stay, own-stay}
use Rattle.table_core.proofs.PoolSteps.{count-small, class_held, block_set, pool-reserved, pool-settled, pool-claimed, pool-cleared}
use Rattle.table_core.proofs.WinSteps.{wins-reserved, wins-settled, looks-moved, evers-moved}
use Rattle.table_core.proofs.BitFacts.{one_bit, all_but, set_again, bits-set, bits-cleared}

-- the word of a superblock that is written, and those of others
super-here : (m : Mem) (i n : ℕ) → put m (super i) n (super i) ≡ n
super-here m i n = ap (λ (b : Bool). cond b n (m (super i))) (eq-eqb i i refl)

super-other : (m : Mem) (i n j : ℕ) → j ≢ i → put m (super i) n (super j) ≡ m (super j)
super-other m i n j ne = ap (λ (b : Bool). cond b n (m (super j))) (ne_eqb i j (λ e. ne (sym e)))

-- a bit is 0 or 1
pub bit_two : (n k : ℕ) → (bit_at n k ≡ 0) ⊎ (bit_at n k ≡ 1)
bit_two n k = by (bit_at n k) (omega arith)
  where
    by : (b : ℕ) → b ≤ 1 → (b ≡ 0) ⊎ (b ≡ 1)
    by zero h = inl refl
    by (suc zero) h = inr refl
    by (suc (suc b)) h = absurd (omega arith)

-- a view that has seen one more step is for each part as it was
pub saw-same : (v : View) (a : Addr) (n : ℕ) (q : Part) → seen q v ≡ seen q (saw a n v)
saw-same v a n pool = refl
saw-same v a n q = refl

-- a pass that is in use stays bounded while only its part of the pool changes
pub bounded : (h : Held) (things : ℕ) → 1 ≤ h.parts → IsBounded h → IsBounded (record h { things = things })
bounded h things in_use was = record { few = was.few; accepted = was.accepted; single = was.single; spent = λ none. absurd (omega (arith, none)) }

module _ (g : Setup) (id : ℕ) (v : View) where
  -- a step that only sees a word, and leaves it as it was
  pub sees : (a : Addr) (n : ℕ) (m : Mem) (vs : List View) (s : Story) → AllSay g s m vs → At vs id v → AllSay g s m (slice_set vs id (saw a n v))
  sees a n m vs s l at = λ q. frames g vs id v at q s m (saw a n v) (saw-same v a n q) (l q)

  module _ (m : Mem) (vs : List View) (s : Story) (l : AllSay g s m vs) (at : At vs id v) where
    abbrev supers : ℕ → ℕ
    supers j = m (super j)

    abbrev states : ℕ → ℕ
    states u = m (state u)

    abbrev hands : List Hand
    hands = map (seen pool) vs

    abbrev hand : Hand
    hand = seen pool v

    hand_at : At hands id hand
    hand_at = at_map (seen pool) vs id v at

    sound : PoolSound g.plan supers (bit_in m) states hands
    sound = l pool

    bounds-kept : (w : View) → IsBounded (seen bounds w) → Each IsBounded (slice_set (map (seen bounds) vs) id (seen bounds w))
    bounds-kept w = each-set IsBounded (map (seen bounds) vs) id (seen bounds w) (l bounds)

    was_bounded : IsBounded (seen bounds v)
    was_bounded = l bounds id (seen bounds v) (at_map (seen bounds) vs id v at)

    -- look
    module _ (i c : ℕ) (near : i < g.plan.geometry.superblocks) where
      abbrev word : ℕ
      word = m (super i)

      abbrev after_look : View
      after_look = saw (super i) word (looked i c word v)

      class_near : class_of word ≤ 3
      class_near = (sound.kept i near).class_fits

      -- what all have won there is at least the count, and what this pass settled
      seen_count : count_of word + at_place i (class_of word) v.settles ≤ total (λ u. at_place i (class_of word) u.wins) vs
      seen_count =
          let k : ℕ = class_of word in
          let kept = (l wins).counts i k near in
          let mine : at_place i k v.settles ≤ total (λ (u : Won). at_place i k u.settles) (map (seen wins) vs) =
          total-member (λ (u : Won). at_place i k u.settles) (map (seen wins) vs) id (seen wins v) (at_map (seen wins) vs id v at) in
          omega (arith, kept, mine, cond-at k k (count_of word) refl, total-map (λ (u : Won). at_place i k u.wins) (seen wins) vs)

      new_look : IsLook g.plan supers (slice_set (map (seen looks) vs) id (seen looks after_look)) v.wins (look_of i c word v)
      new_look =
          let k : ℕ = class_of word in
          let all : total (λ (u : Looked). at_place i k u.wins) (slice_set (map (seen looks) vs) id (seen looks after_look)) + at_place i k v.wins
          ≡ total (λ (u : Looked). at_place i k u.wins) (map (seen looks) vs) + at_place i k v.wins =
          total-set (λ (u : Looked). at_place i k u.wins) (map (seen looks) vs) id (seen looks v) (seen looks after_look) (at_map (seen looks) vs id v at) in
          record {
            near = near;
            class_fits = class_near;
            count = omega (arith, seen_count, all, total-map (λ (u : Looked). at_place i k u.wins) (seen looks) vs);
            ever = omega arith;
            count_ever = (sound.kept i near).ever;
          }

      look-parts : (q : Part) → Says g q s m (map (seen q) (slice_set vs id after_look))
      look-parts looks = moves g vs id v at looks s m after_look
          (looks-moved g.plan supers supers (map (seen looks) vs) id (seen looks v) (seen looks after_look) (at_map (seen looks) vs id v at) (l looks)
          (λ j. omega arith) (λ j k. omega arith)
          (each-cons (IsLook g.plan supers (slice_set (map (seen looks) vs) id (seen looks after_look)) v.wins) (look_of i c word v) v.looks new_look))
      look-parts q = frames g vs id v at q s m after_look refl (l q)

    -- reserve
    module _ (i c new : ℕ) (near : i < g.plan.geometry.superblocks) (low_class : c ≤ 3) (in_use : 1 ≤ v.parts) (which : (class_of (m (super i)) ≡ c) ⊎ (count_of (m (super i)) ≡ 0))
        (room : count_of (m (super i)) < cap g.plan c) (new_is : new ≡ reserved_word (m (super i)) c) (small : m (super i) < 18446744073709551616) where
      abbrev after_reserve : View
      after_reserve = saw (super i) (m (super i)) (reserved (place i c) v)

      abbrev written : Mem
      written = put m (super i) new

      abbrev supers' : ℕ → ℕ
      supers' j = written (super j)

      says : SuperWordSays (supers' i) (count_of (m (super i)) + 1) c (risen (ever_of (m (super i))))
      says = subst (λ (n : ℕ). SuperWordSays n (count_of (m (super i)) + 1) c (risen (ever_of (m (super i))))) (sym (super-here m i new ∙ new_is))
          (word_reserves (m (super i)) c (omega (arith, count-small g.plan supers (bit_in m) states hands id hand hand_at sound i near)) (omega (arith, low_class))).0

      rises : (j : ℕ) → ever_of (supers j) ≤ ever_of (supers' j)
      rises j = by (cases_eq j i)
        where
          by : (j ≡ i) ⊎ (j ≢ i) → ever_of (supers j) ≤ ever_of (supers' j)
          by (inl e) = subst (λ (x : ℕ). ever_of (supers x) ≤ ever_of (supers' x)) (sym e) (omega (arith, says.ever_is, small))
          by (inr ne) = omega (arith, ap ever_of (super-other m i new j ne))

      -- only an empty superblock changes its class
      pub class_stays : (j : ℕ) → j < g.plan.geometry.superblocks → 1 ≤ count_of (supers j) → class_of (supers' j) ≡ class_of (supers j)
      class_stays j near' some = by (cases_eq j i)
        where
          here : (class_of (supers i) ≡ c) ⊎ (count_of (supers i) ≡ 0) → 1 ≤ count_of (supers i) → class_of (supers' i) ≡ class_of (supers i)
          here (inl same) some' = says.class_is ∙ sym same
          here (inr none) some' = absurd (omega (arith, none, some'))

          by : (j ≡ i) ⊎ (j ≢ i) → class_of (supers' j) ≡ class_of (supers j)
          by (inl e) = subst (λ (x : ℕ). class_of (supers' x) ≡ class_of (supers x)) (sym e) (here which (subst (λ (x : ℕ). 1 ≤ count_of (supers x)) e some))
          by (inr ne) = ap class_of (super-other m i new j ne)

      reserve-parts : (q : Part) → Says g q s written (map (seen q) (slice_set vs id after_reserve))
      reserve-parts pool = moves g vs id v at pool s written after_reserve
          (pool-reserved g.plan supers (bit_in m) states hands id hand hand_at sound i near c supers' low_class room says which (super-other m i new))
      reserve-parts bounds = moves g vs id v at bounds s written after_reserve (bounds-kept after_reserve (bounded (seen bounds v) _ in_use was_bounded))
      reserve-parts wins = moves g vs id v at wins s written after_reserve
          (wins-reserved g.plan supers supers' (map (seen wins) vs) id (seen wins v) (at_map (seen wins) vs id v at) (l wins) i c near (super-other m i new) which says)
      reserve-parts looks = moves g vs id v at looks s written after_reserve
          (looks-moved g.plan supers supers' (map (seen looks) vs) id (seen looks v) (seen looks after_reserve) (at_map (seen looks) vs id v at) (l looks) rises
          (λ j k. omega arith) (λ e. e))
      reserve-parts evers = moves g vs id v at evers s written after_reserve
          (evers-moved g.plan supers supers' (tasks_in s.calls) i 1 (map (seen evers) vs) id (seen evers v) (seen evers after_reserve) (at_map (seen evers) vs id v at) near
          (super-other m i new) (omega (arith, says.ever_is)) (omega arith) (l evers))
      reserve-parts fits = frames g vs id v at fits s written after_reserve refl
          (fits-stay g.plan supers (bit_in m) states hands sound supers' class_stays g.checked (frame_in m) (map (seen fits) vs) (l fits))
      reserve-parts own = frames g vs id v at own s written after_reserve refl
          (own-stay g.plan supers (bit_in m) states hands sound supers' class_stays (record_words m) (map (seen own) vs) (l own))
      reserve-parts q = frames g vs id v at q s written after_reserve refl (l q)

    -- settle
    module _ (i c new : ℕ) (near : i < g.plan.geometry.superblocks) (in_use : 1 ≤ v.parts) (has : Has (place i c) v.debts) (new_is : 1 ≤ m (super i) → new ≡ m (super i) - 1) where
      abbrev after_settle : View
      after_settle = saw (super i) (m (super i)) (settled (place i c) v)

      abbrev less : Mem
      less = put m (super i) new

      abbrev supers'' : ℕ → ℕ
      supers'' j = less (super j)

      owed : (class_of (m (super i)) ≡ c) × (1 ≤ count_of (m (super i)))
      owed =
          let mine = total-has (λ (d : Place). hit d.superblock d.class i c) v.debts (place i c) has in
          class_held g.plan supers (bit_in m) states hands id hand hand_at sound i c near (omega (arith, mine, hit-here i c c, cond-at c c 1 refl))

      says_less : SuperWordSays (supers'' i) (count_of (m (super i)) - 1) (class_of (m (super i))) (ever_of (m (super i)))
      says_less = subst (λ (n : ℕ). SuperWordSays n (count_of (m (super i)) - 1) (class_of (m (super i))) (ever_of (m (super i)))) (sym (super-here m i new ∙ new_is (omega (arith, owed.1))))
          (count_falls (m (super i)) (omega (arith, owed.1)))

      stays : (j : ℕ) → ever_of (supers j) ≤ ever_of (supers'' j)
      stays j = by (cases_eq j i)
        where
          by : (j ≡ i) ⊎ (j ≢ i) → ever_of (supers j) ≤ ever_of (supers'' j)
          by (inl e) = subst (λ (x : ℕ). ever_of (supers x) ≤ ever_of (supers'' x)) (sym e) (omega (arith, says_less.ever_is))
          by (inr ne) = omega (arith, ap ever_of (super-other m i new j ne))

      -- the class stays
      pub still_class : (j : ℕ) → j < g.plan.geometry.superblocks → 1 ≤ count_of (supers j) → class_of (supers'' j) ≡ class_of (supers j)
      still_class j near' some = by (cases_eq j i)
        where
          by : (j ≡ i) ⊎ (j ≢ i) → class_of (supers'' j) ≡ class_of (supers j)
          by (inl e) = subst (λ (x : ℕ). class_of (supers'' x) ≡ class_of (supers x)) (sym e) says_less.class_is
          by (inr ne) = ap class_of (super-other m i new j ne)

      settle-parts : (q : Part) → Says g q s less (map (seen q) (slice_set vs id after_settle))
      settle-parts pool = moves g vs id v at pool s less after_settle
          (pool-settled g.plan supers (bit_in m) states hands id hand hand_at sound i near c supers'' has says_less (super-other m i new))
      settle-parts bounds = moves g vs id v at bounds s less after_settle (bounds-kept after_settle (bounded (seen bounds v) _ in_use was_bounded))
      settle-parts wins = moves g vs id v at wins s less after_settle
          (wins-settled g.plan supers supers'' (map (seen wins) vs) id (seen wins v) (at_map (seen wins) vs id v at) (l wins) i c near (super-other m i new) owed.0 owed.1 says_less)
      settle-parts looks = moves g vs id v at looks s less after_settle
          (looks-moved g.plan supers supers'' (map (seen looks) vs) id (seen looks v) (seen looks after_settle) (at_map (seen looks) vs id v at) (l looks) stays (λ j k. omega arith) (λ e. e))
      settle-parts evers = moves g vs id v at evers s less after_settle
          (evers-moved g.plan supers supers'' (tasks_in s.calls) i 0 (map (seen evers) vs) id (seen evers v) (seen evers after_settle) (at_map (seen evers) vs id v at) near
          (super-other m i new) (omega (arith, says_less.ever_is)) (omega arith) (l evers))
      settle-parts fits = frames g vs id v at fits s less after_settle refl
          (fits-stay g.plan supers (bit_in m) states hands sound supers'' still_class g.checked (frame_in m) (map (seen fits) vs) (l fits))
      settle-parts own = frames g vs id v at own s less after_settle refl
          (own-stay g.plan supers (bit_in m) states hands sound supers'' still_class (record_words m) (map (seen own) vs) (l own))
      settle-parts q = frames g vs id v at q s less after_settle refl (l q)

    -- claim, where the bit is clear
    module _ (i c b : ℕ) (near : i < g.plan.geometry.superblocks) (low_class : c ≤ 3) (below : b < cap g.plan c) (in_use : 1 ≤ v.parts) (has : Has (place i c) v.reserved)
        (clear : bit_at (m (bits i (b / 64))) (b % 64) ≡ 0) where
      abbrev after_claim : View
      after_claim = saw (bits i (b / 64)) (m (bits i (b / 64))) (claimed g.plan (place i c) b v)

      abbrev marked : Mem
      marked = put m (bits i (b / 64)) (bit_or (m (bits i (b / 64))) (one_bit b))

      claim-parts : (q : Part) → Says g q s marked (map (seen q) (slice_set vs id after_claim))
      claim-parts pool = moves g vs id v at pool s marked after_claim
          (pool-claimed g.plan supers (bit_in m) states hands id hand hand_at sound i near c b (bit_in marked) low_class below has (λ j d small. bits-set m i b clear j d))
      claim-parts bounds = moves g vs id v at bounds s marked after_claim (bounds-kept after_claim (bounded (seen bounds v) _ in_use was_bounded))
      claim-parts evers = frames g vs id v at evers s marked after_claim
          (let e : seen evers v ≡ seen evers after_claim = omega (arith, length-dropped-has (is_place (place i c)) v.reserved (place i c) has (place-passes (place i c))) in e) (l evers)
      claim-parts q = frames g vs id v at q s marked after_claim refl (l q)

    -- clear
    module _ (x : Block) (in_use : 1 ≤ v.parts) (has : Has x v.blocks) where
      abbrev its : ℕ
      its = superblock_of g.plan x.unit

      abbrev its_bit : ℕ
      its_bit = bit_of g.plan x.unit x.class

      abbrev after_clear : View
      after_clear = saw (bits its (its_bit / 64)) (m (bits its (its_bit / 64))) (cleared g.plan x v)

      abbrev unmarked : Mem
      unmarked = put m (bits its (its_bit / 64)) (bit_and (m (bits its (its_bit / 64))) (all_but its_bit))

      was_set : bit_at (m (bits its (its_bit / 64))) (its_bit % 64) ≡ 1
      was_set = omega (arith, block_set g.plan supers (bit_in m) states hands id hand hand_at sound x has)

      clear-parts : (q : Part) → Says g q s unmarked (map (seen q) (slice_set vs id after_clear))
      clear-parts pool = moves g vs id v at pool s unmarked after_clear
          (pool-cleared g.plan supers (bit_in m) states hands id hand hand_at sound x has (bit_in unmarked) (λ j d small. bits-cleared m its its_bit was_set j d))
      clear-parts bounds = moves g vs id v at bounds s unmarked after_clear (bounds-kept after_clear (bounded (seen bounds v) _ in_use was_bounded))
      clear-parts evers = frames g vs id v at evers s unmarked after_clear
          (let e : seen evers v ≡ seen evers after_clear = omega (arith, dropped-block x (λ (y : Block). one_if y.fresh) v.blocks has) in e) (l evers)
      clear-parts q = frames g vs id v at q s unmarked after_clear refl (l q)

  -- a look at a superblock keeps the rule
  pub looks-at : (i c : ℕ) → i < g.plan.geometry.superblocks → Keeps g id v (super i) (λ n. n) (λ r w. (w ≡ saw (super i) r (looked i c r v)) × (class_of r ≤ 3))
  looks-at i c near m vs s l at small = (
    after_look m vs s l at i c near,
    kept_word g s m (super i) (m (super i)) _ refl (look-parts m vs s l at i c near),
    (refl, class_near m vs s l at i c near),
    (refl, refl, inl refl),
  )

  -- a try to reserve a place of a superblock keeps the rule
  pub reserves-at : (i c old new : ℕ) → i < g.plan.geometry.superblocks → c ≤ 3 → 1 ≤ v.parts → (class_of old ≡ c) ⊎ (count_of old ≡ 0) → count_of old < cap g.plan c → new ≡ reserved_word old c
      → Keeps g id v (super i) (λ n. either (n == old) new n) (λ r w. Tried old (saw (super i) r v) (saw (super i) r (reserved (place i c) v)) r w × (class_of r ≤ 3))
  reserves-at i c old new near low_class in_use which room new_is m vs s l at small = exchanged (m (super i)) old new
      (λ n. (w : View) × AllSay g s (put m (super i) n) (slice_set vs id w) × (Tried old (saw (super i) (m (super i)) v) (saw (super i) (m (super i)) (reserved (place i c) v)) (m (super i)) w × (class_of (m (super i)) ≤ 3)) × Stepped (super i) (m (super i)) n v w)
      (λ e. (
        saw (super i) (m (super i)) (reserved (place i c) v),
        reserve-parts m vs s l at i c new near low_class in_use (subst (λ (x : ℕ). (class_of x ≡ c) ⊎ (count_of x ≡ 0)) (sym e) which) (omega (arith, room, ap count_of e)) (new_is ∙ ap (λ (x : ℕ). reserved_word x c) (sym e)) small,
        ((λ same. refl, λ ne. absurd (ne e)), class_near m vs s l at i c near),
        (refl, refl, inl refl),
      ))
      (λ ne. (
        saw (super i) (m (super i)) v,
        kept_word g s m (super i) (m (super i)) _ refl (sees (super i) (m (super i)) m vs s l at),
        ((λ same. absurd (ne same), λ e. refl), class_near m vs s l at i c near),
        (refl, refl, inl refl),
      ))

  -- the settling of a place keeps the rule
  pub settles-at : (i c : ℕ) → i < g.plan.geometry.superblocks → 1 ≤ v.parts → Has (place i c) v.debts
      → Keeps g id v (super i) (λ n. (n + (2 ^ 64 - 1)) % 2 ^ 64) (λ r w. w ≡ saw (super i) r (settled (place i c) v))
  settles-at i c near in_use has m vs s l at small = (
    saw (super i) (m (super i)) (settled (place i c) v),
    settle-parts m vs s l at i c ((m (super i) + (2 ^ 64 - 1)) % 2 ^ 64) near in_use has (λ some. omega (arith, some, small)),
    refl,
    (refl, refl, inl refl),
  )

  -- a try to claim a bit keeps the rule
  pub claims-at : (i c b : ℕ) → i < g.plan.geometry.superblocks → c ≤ 3 → b < cap g.plan c → 1 ≤ v.parts → Has (place i c) v.reserved
      → Keeps g id v (bits i (b / 64)) (λ n. bit_or n (one_bit b)) (λ r w. WonBit b (saw (bits i (b / 64)) r v) (saw (bits i (b / 64)) r (claimed g.plan (place i c) b v)) r w)
  claims-at i c b near low_class below in_use has m vs s l at small = by (bit_two (m (bits i (b / 64))) (b % 64))
    where
      by : (bit_at (m (bits i (b / 64))) (b % 64) ≡ 0) ⊎ (bit_at (m (bits i (b / 64))) (b % 64) ≡ 1)
          → (w : View) × AllSay g s (put m (bits i (b / 64)) (bit_or (m (bits i (b / 64))) (one_bit b))) (slice_set vs id w)
          × WonBit b (saw (bits i (b / 64)) (m (bits i (b / 64))) v) (saw (bits i (b / 64)) (m (bits i (b / 64))) (claimed g.plan (place i c) b v)) (m (bits i (b / 64))) w × Stepped (bits i (b / 64)) (m (bits i (b / 64))) (bit_or (m (bits i (b / 64))) (one_bit b)) v w
      by (inl clear) = (
        saw (bits i (b / 64)) (m (bits i (b / 64))) (claimed g.plan (place i c) b v),
        claim-parts m vs s l at i c b near low_class below in_use has clear,
        (λ e. refl, λ e. absurd (omega (arith, clear, e))),
        (refl, refl, inl refl),
      )
      by (inr set) = (
        saw (bits i (b / 64)) (m (bits i (b / 64))) v,
        kept_word g s m (bits i (b / 64)) _ _ (set_again (m (bits i (b / 64))) b set) (sees (bits i (b / 64)) (m (bits i (b / 64))) m vs s l at),
        (λ e. absurd (omega (arith, set, e)), λ e. refl),
        (refl, refl, inl refl),
      )

  -- the clearing of a block's bit keeps the rule
  pub clears-at : (x : Block) → 1 ≤ v.parts → Has x v.blocks
      → Keeps g id v (bits (superblock_of g.plan x.unit) (bit_of g.plan x.unit x.class / 64)) (λ n. bit_and n (all_but (bit_of g.plan x.unit x.class)))
      (λ r w. w ≡ saw (bits (superblock_of g.plan x.unit) (bit_of g.plan x.unit x.class / 64)) r (cleared g.plan x v))
  clears-at x in_use has m vs s l at small = (
    saw (bits (superblock_of g.plan x.unit) (bit_of g.plan x.unit x.class / 64)) (m (bits (superblock_of g.plan x.unit) (bit_of g.plan x.unit x.class / 64))) (cleared g.plan x v),
    clear-parts m vs s l at x in_use has,
    refl,
    (refl, refl, inl refl),
  )

  -- a load of any word, which tells that no pass has more than all parts, and none has more than one turn
  pub glances-at : (a : Addr) → Keeps g id v a (λ n. n) (λ r w. (w ≡ saw a r v) × (v.parts ≤ 4096) × (length v.turn ≤ 1))
  glances-at a m vs s l at small =
      let mine : v.parts ≤ total (λ (n : ℕ). n) (map (seen shares) vs) = total-member (λ (n : ℕ). n) (map (seen shares) vs) id v.parts (at_map (seen shares) vs id v at) in
      let its : length v.turn ≤ total (λ (t : Turn). length t.turn) (map (seen roots) vs) =
      total-member (λ (t : Turn). length t.turn) (map (seen roots) vs) id (seen roots v) (at_map (seen roots) vs id v at) in
      (saw a (m a) v, kept_word g s m a (m a) _ refl (sees a (m a) m vs s l at), (refl, omega (arith, mine, l shares), omega (arith, its, (l roots).one)), (refl, refl, inl refl))
