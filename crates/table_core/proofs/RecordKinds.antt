-- Each kind of step that makes a record of a block, or a block of a record, keeps the rule.
use Rattle.std.proofs.Common.{◌≡◌, ◌≢◌, ◌∙◌, ◌⊎◌, inl, inr, ℕ, ◌+◌, ◌<◌, ◌≤◌, Bool, true, false, cond, ◌==◌, Some, List, map, refl, sym, ap, subst, true≢false, arith}
use Rattle.std.specs.Prelude.{slice_set, nat_lt, nat_le, ◌&&◌}
use Rattle.std.proofs.lemmas.Bool.{cases_eq, cases_lt, eqb-true, eq-eqb, ne_eqb, lt-ltb, le-leb, and_from, false_from_ne_true}
use Rattle.record_core.specs.Sums.{total, below}
use Rattle.record_core.specs.Counting.{At, Has, one_if, times, dropped}
use Rattle.record_core.proofs.TotalFacts.{total-member, total-set, total-map, total-le, total-two_members}
use Rattle.record_core.proofs.CountFacts.{total-dropped}
use Rattle.kt_words.specs.Capacity.{block_units}
use Rattle.kt_words.specs.StateWords.{phase_of, number_of, IsStateWord}
use Rattle.kt_words.specs.SuperWords.{class_of}
use Rattle.table_core.specs.Addresses.{Addr, Mem, super, state, refs, head, next, task, root, frame_in, units_of, put}
use Rattle.table_core.specs.Lists.{Each, hit, hit3}
use Rattle.table_core.specs.Holdings.{Block, Made, Run}
use Rattle.table_core.specs.Story.{Story}
use Rattle.table_core.specs.Bounds.{IsBounded}
use Rattle.table_core.specs.Pool.{superblock_of, bit_of, IsBlock, is_used, Hand, bit_in}
use Rattle.table_core.specs.References.{is_saved, is_live, is_record, Bag, saved_in, places_in, own_in, IsReferred}
use Rattle.table_core.specs.Own.{Hands, made_at, done_at, is_own, is_in, is_word_of, known_in, record_words, OwnSound}
use Rattle.table_core.specs.WaitLists.{Waits, unclosed_at, is_open}
use Rattle.table_core.specs.Sights.{Knows}
use Rattle.table_core.specs.Views.{block, is_block, saw}
use Rattle.table_core.specs.RecordViews.{new_made, is_made_at, founded, unmade, retired}
use Rattle.table_core.specs.Parts.{Part, pool, bounds, evers, references, fits, own, shaped, waits, sights, seen, Says, AllSay, Keeps}
use Rattle.table_core.specs.declared.setup.Setup.{Setup}
use Rattle.table_core.specs.declared.view.View.{View}
use Rattle.table_core.proofs.ListFacts.{at_map, map_at, set_again, each-set, each-cons, each-dropped, dropped-block}
use Rattle.table_core.proofs.Rule.{frames, moves, kept_word}
use Rattle.table_core.proofs.PoolRecords.{pool-came, pool-went, record_block, block_free}
use Rattle.table_core.proofs.PoolKinds.{bounded, sees}
use Rattle.table_core.proofs.ReferenceFacts.{in_hands, kept_in, leaving, saved-same, referred-moved}
use Rattle.table_core.proofs.ReferenceBound.{kept-done}
use Rattle.table_core.proofs.BagFacts.{times-dropped, one-here, one-apart}
use Rattle.table_core.proofs.ClassFacts.{superblock_in, used-from, record-phase}
use Rattle.table_core.proofs.OwnFacts.{IsHand, hands-from, hand-apart, own-moved, made-phase, runs-phase, made-counts, runs-counts}
use Rattle.table_core.proofs.SightFacts.{sighted, sights-written}
use Rattle.table_core.proofs.WaitFacts.{unclosed-le, unread, waits-state}
use Rattle.table_core.proofs.RecordWords.{state-own, words-state, forgets, made-one, own-left, own-more}

-- a state word that is written, and those of others
pub state-here : (m : Mem) (u n : ℕ) → put m (state u) n (state u) ≡ n
state-here m u n = ap (λ (b : Bool). cond b n (m (state u))) (eq-eqb u u refl)

-- the state words of other units stay
pub state-other : (m : Mem) (u n w : ℕ) → w ≢ u → put m (state u) n (state w) ≡ m (state w)
state-other m u n w ne = ap (λ (b : Bool). cond b n (m (state w))) (ne_eqb u w (λ e. ne (sym e)))

-- a unit in no use has phase 0
free-phase : (word : ℕ) → is_used word ≡ 0 → phase_of word ≡ 0
free-phase word free = by (cases_eq (phase_of word) 0)
  where
    by : (phase_of word ≡ 0) ⊎ (phase_of word ≢ 0) → phase_of word ≡ 0
    by (inl e) = e
    by (inr ne) = absurd (omega (arith, free, used-from word (omega (arith, ne))))

-- the tests of a state word, by its phase
abbrev test_saved : ℕ → Bool
test_saved p = nat_le 2 p && nat_le p 3

abbrev test_live : ℕ → Bool
test_live p = nat_le 2 p && nat_le p 4

abbrev test_record : ℕ → Bool
test_record p = nat_le 2 p && nat_le p 5

pub no-cond : (b : Bool) → ◌≡◌ {A = ℕ} (cond b 0 0) 0
no-cond true = refl
no-cond false = refl

-- a record that is made goes
pub made-dropped : (u w : ℕ) (l : List Made) (r : Made) → Has r l → r.unit ≡ u → made_at w (dropped (is_made_at u) l) + one_if (u == w) ≡ made_at w l
made-dropped u w l r has e = total-dropped (λ (x : Made). one_if (x.unit == w)) (is_made_at u) (one_if (u == w)) l
    (λ k x at here. ap (λ (n : ℕ). one_if (n == w)) (eqb-true x.unit u here)) (record { member = r; there = has; passes = eq-eqb r.unit u e })

module _ (g : Setup) (id : ℕ) (v : View) where
  module _ (m : Mem) (vs : List View) (s : Story) (l : AllSay g s m vs) (at : At vs id v) where
    abbrev states : ℕ → ℕ
    states w = m (state w)

    abbrev supers : ℕ → ℕ
    supers i = m (super i)

    abbrev heads : ℕ → ℕ
    heads w = m (head w)

    abbrev hands : List Hand
    hands = map (seen pool) vs

    abbrev owners : List Hands
    owners = map (seen own) vs

    abbrev bags : List Bag
    bags = map (seen references) vs

    hand_at : At hands id (seen pool v)
    hand_at = at_map (seen pool) vs id v at

    owner_at : At owners id (seen own v)
    owner_at = at_map (seen own) vs id v at

    bag_at : At bags id (seen references v)
    bag_at = at_map (seen references) vs id v at

    was_bounded : IsBounded (seen bounds v)
    was_bounded = l bounds id (seen bounds v) (at_map (seen bounds) vs id v at)

    bounds-kept : (w : View) → IsBounded (seen bounds w) → Each IsBounded (slice_set (map (seen bounds) vs) id (seen bounds w))
    bounds-kept w = each-set IsBounded (map (seen bounds) vs) id (seen bounds w) (l bounds)

    -- a unit that is in a phase, before and after the state of one unit is written
    module _ (u n : ℕ) (near : u < units_of g.plan) where
      abbrev states' : ℕ → ℕ
      states' w = put m (state u) n (state w)

      -- a test that the old word and the new one answer alike is answered alike at each unit
      pub same-test : (f : ℕ → Bool) → f n ≡ f (states u) → (w : ℕ) → f (states' w) ≡ f (states w)
      same-test f same w = by (cases_eq w u)
        where
          by : (w ≡ u) ⊎ (w ≢ u) → f (states' w) ≡ f (states w)
          by (inl e) = subst (λ (x : ℕ). f (states' x) ≡ f (states x)) (sym e) (ap f (state-here m u n) ∙ same)
          by (inr ne) = ap f (state-other m u n w ne)

      in-here : (phase : ℕ) → is_in g.plan states' phase u ≡ one_if (phase_of n == phase)
      in-here phase = ap (λ (b : Bool). cond b (one_if (phase_of (states' u) == phase)) 0) (lt-ltb u (units_of g.plan) near) ∙ ap (λ (x : ℕ). one_if (phase_of x == phase)) (state-here m u n)

      -- the unit stood in a phase exactly where its word says so
      pub in-was : (phase : ℕ) → is_in g.plan states phase u ≡ one_if (phase_of (states u) == phase)
      in-was phase = ap (λ (b : Bool). cond b (one_if (phase_of (states u) == phase)) 0) (lt-ltb u (units_of g.plan) near)

      in-other : (phase w : ℕ) → w ≢ u → is_in g.plan states' phase w ≡ is_in g.plan states phase w
      in-other phase w ne = ap (λ (x : ℕ). cond (nat_lt w (units_of g.plan)) (one_if (phase_of x == phase)) 0) (state-other m u n w ne)

      -- one record more in a phase, or one less, or as before
      pub in-moved : (phase f f' : ℕ) → one_if (phase_of n == phase) ≡ f' → one_if (phase_of (states u) == phase) ≡ f → (w : ℕ)
          → is_in g.plan states' phase w + cond (u == w) f 0 ≡ is_in g.plan states phase w + cond (u == w) f' 0
      in-moved phase f f' now before w = by (cases_eq w u)
        where
          at_u : (x : ℕ) → cond (u == u) x 0 ≡ x
          at_u x = ap (λ (b : Bool). cond b x 0) (eq-eqb u u refl)

          by : (w ≡ u) ⊎ (w ≢ u) → is_in g.plan states' phase w + cond (u == w) f 0 ≡ is_in g.plan states phase w + cond (u == w) f' 0
          by (inl e) = subst (λ (x : ℕ). is_in g.plan states' phase x + cond (u == x) f 0 ≡ is_in g.plan states phase x + cond (u == x) f' 0) (sym e)
              (omega (arith, in-here phase, in-was phase, now, before, at_u f, at_u f'))
          by (inr ne) = omega (
            arith,
            in-other phase w ne,
            ap (λ (b : Bool). cond b f 0) (ne_eqb u w (λ e. ne (sym e))),
            ap (λ (b : Bool). cond b f' 0) (ne_eqb u w (λ e. ne (sym e))),
          )

      -- where the unit is neither saved, live nor a record before and after, references stay
      references-stay : (w : View) → seen references v ≡ seen references w → is_record n ≡ is_record (states u) → is_saved n ≡ is_saved (states u) → is_live n ≡ is_live (states u)
          → Says g references s (put m (state u) n) (map (seen references) (slice_set vs id w))
      references-stay w same recorded saved live = frames g vs id v at references s (put m (state u) n) w same
          (referred-moved g.checked g.plan states states' (λ x. m (refs x)) (λ x. m (refs x)) (λ r. m (root r)) (λ r. m (root r)) (frame_in m) (frame_in m) bags bags (l references)
          (same-test is_saved saved) (same-test is_live live) (same-test is_record recorded) (λ r low is. refl) (λ x low is. refl) (λ x low is none. none)
          (λ x low. (l references).last x low) (λ x far. omega arith))

      fits-stay : (w : View) → seen fits v ≡ seen fits w → is_saved n ≡ is_saved (states u) → Says g fits s (put m (state u) n) (map (seen fits) (slice_set vs id w))
      fits-stay w same saved = frames g vs id v at fits s (put m (state u) n) w same (record {
        saved = λ x low is. (l fits).saved x low (sym (same-test is_saved saved x) ∙ is);
        running = (l fits).running;
      })

      -- each state word is one after the step
      pub shaped-now : IsStateWord n → (w : ℕ) → w < units_of g.plan → IsStateWord (states' w)
      shaped-now is w low = by (cases_eq w u)
        where
          by : (w ≡ u) ⊎ (w ≢ u) → IsStateWord (states' w)
          by (inl e) = subst (λ (x : ℕ). IsStateWord (states' x)) (sym e) (subst IsStateWord (sym (state-here m u n)) is)
          by (inr ne) = subst IsStateWord (sym (state-other m u n w ne)) (l shaped w low)

      -- where the record at u has no list, does not wait, and is none afterwards, lists stay
      waits-stay : (w : View) → seen waits v ≡ seen waits w → is_open states heads u ≡ false → ¬ (phase_of (states u) ≡ 2) → phase_of n ≤ 1
          → Says g waits s (put m (state u) n) (map (seen waits) (slice_set vs id w))
      waits-stay w same unlisted not_waiting low = frames g vs id v at waits s (put m (state u) n) w same
          (waits-state g.plan states heads (λ x. m (next x)) (map (seen waits) vs) (l waits) u states' (state-other m u n) unlisted not_waiting (omega (arith, low, ap phase_of (state-here m u n))))

      -- where nobody refers to it, all that was seen stays
      sights-stay : (w : View) → seen sights v ≡ seen sights w → ((k : ℕ) (x : Knows) → At (map (seen sights) vs) k x → times u x.futures ≡ 0)
          → Says g sights s (put m (state u) n) (map (seen sights) (slice_set vs id w))
      sights-stay w same nobody = frames g vs id v at sights s (put m (state u) n) w same
          (sights-written heads heads (λ x. m (task x)) (λ x. m (task x)) states states' (map (seen sights) vs) (l sights)
          (λ k x h there has. record { later = inl refl; task_same = refl; done_same = λ is. state-other m u n x (λ e. omega (arith, has, nobody k h there, ap (λ (y : ℕ). times y h.futures) e)) }))

      -- nobody refers to what is no record
      nobody-refers : is_record (states u) ≡ false → (k : ℕ) (x : Knows) → At (map (seen sights) vs) k x → times u x.futures ≡ 0
      nobody-refers none k x there = by (cases_eq (times u x.futures) 0)
        where
          by : (times u x.futures ≡ 0) ⊎ (times u x.futures ≢ 0) → times u x.futures ≡ 0
          by (inl e) = e
          by (inr ne) = absurd (true≢false (sym (sighted g m vs s l k x there u (omega (arith, ne))).1 ∙ none))

      no-list : is_record (states u) ≡ false → is_open states heads u ≡ false
      no-list none = unread g.plan states heads (λ x. m (next x)) (map (seen waits) vs) (l waits) u states heads none

      -- words of records that are nobody's own at u stay
      pub words-kept : (k : ℕ) (h : Hands) → At owners k h → made_at u h.made ≡ 0 → (a : Addr) → is_own h.made h.runs a ≡ true → record_words (put m (state u) n) a ≡ record_words m a
      words-kept k h there none a mine = words-state m u n a
          (λ w e same. omega (arith, none, state-own h.made h.runs u (subst (λ (b : Addr). is_own h.made h.runs b ≡ true) (e ∙ ap state same) mine)))

      -- where the phase is another one, no hand makes a record
      pub not-made : ¬ (phase_of (states u) ≡ 1) → (k : ℕ) (h : Hands) → At owners k h → made_at u h.made ≡ 0
      not-made other k h there = by (cases_eq (made_at u h.made) 0)
        where
          by : (made_at u h.made ≡ 0) ⊎ (made_at u h.made ≢ 0) → made_at u h.made ≡ 0
          by (inl e) = e
          by (inr ne) = absurd (other (made-phase g.plan supers states (record_words m) owners (l own) k h there u (omega (arith, ne))).1)

    -- found
    module _ (x : Block) (has : Has x v.blocks) (fresh : x.fresh ≡ true) (in_use : 1 ≤ v.parts) where
      abbrev u : ℕ
      u = x.unit

      abbrev after_found : View
      after_found = saw (state u) (m (state u)) (founded x v)

      -- the block that becomes a record is one of the table
      pub block_is : IsBlock g.plan u x.class
      block_is = (l pool).blocks id (seen pool v) hand_at has.0 x has.1

      free : (is_used (states u) ≡ 0) × (class_of (supers (superblock_of g.plan u)) ≡ x.class)
      free = block_free g.plan supers (bit_in m) states hands id (seen pool v) hand_at (l pool) (λ j d. omega arith) x has block_is

      -- no record stood in the block
      pub none_there : phase_of (states u) ≡ 0
      none_there = free-phase (states u) free.0

      -- each part of the rule holds after a record was made in a block
      pub found-parts : (q : Part) → Says g q s (put m (state u) 1) (map (seen q) (slice_set vs id after_found))
      found-parts pool = moves g vs id v at pool s (put m (state u) 1) after_found
          (pool-came g.plan supers states (states' u 1 block_is.inside) u x.class block_is free.1 free.0 (ap is_used (state-here m u 1)) (state-other m u 1) (bit_in m) hands id (seen pool v) (seen pool after_found)
          hand_at (l pool) (λ j k. omega (arith, dropped-block x (λ (y : Block). hit (superblock_of g.plan y.unit) y.class j k) v.blocks has))
          (λ j k d. omega (arith, dropped-block x (λ (y : Block). hit3 (superblock_of g.plan y.unit) y.class (bit_of g.plan y.unit y.class) j k d) v.blocks has))
          (each-dropped (λ (y : Block). IsBlock g.plan y.unit y.class) (is_block x) v.blocks ((l pool).blocks id (seen pool v) hand_at)))
      found-parts bounds = moves g vs id v at bounds s (put m (state u) 1) after_found (bounds-kept after_found (bounded (seen bounds v) _ in_use was_bounded))
      found-parts evers = frames g vs id v at evers s (put m (state u) 1) after_found
          (let e : seen evers v ≡ seen evers after_found = omega (arith, dropped-block x (λ (y : Block). one_if y.fresh) v.blocks has, ap one_if fresh) in e) (l evers)
      found-parts references = references-stay u 1 block_is.inside after_found refl (ap (λ (p : ℕ). test_record p) (sym none_there)) (ap (λ (p : ℕ). test_saved p) (sym none_there)) (ap (λ (p : ℕ). test_live p) (sym none_there))
      found-parts fits = fits-stay u 1 block_is.inside after_found refl (ap (λ (p : ℕ). test_saved p) (sym none_there))
      found-parts own = moves g vs id v at own s (put m (state u) 1) after_found
          (own-moved g.plan supers states (states' u 1 block_is.inside) (record_words m) (record_words (put m (state u) 1)) owners id (seen own v) (seen own after_found) owner_at (l own)
          (λ w. omega (arith, in-moved u 1 block_is.inside 1 0 1 refl (ap (λ (p : ℕ). one_if (p == 1)) none_there) w, no-cond (u == w)))
          (λ w. omega (arith, in-moved u 1 block_is.inside 4 0 0 refl (ap (λ (p : ℕ). one_if (p == 4)) none_there) w))
          (λ w. omega (arith, (l own).done w, in-moved u 1 block_is.inside 5 0 0 refl (ap (λ (p : ℕ). one_if (p == 5)) none_there) w))
          (λ k h ne there was. kept k h there)
          (let mine = kept id (seen own v) owner_at in record {
            classes = each-cons _ (new_made x) v.made (sym free.1) mine.classes;
            run_classes = mine.run_classes;
            numbers = mine.numbers;
            known = λ a n e. let t = mine.known a n e in (t.0, own-more (new_made x) v.made v.runs a t.1);
          }))
        where
          kept : (k : ℕ) (h : Hands) → At owners k h → IsHand g.plan supers (states' u 1 block_is.inside) (record_words (put m (state u) 1)) h
          kept k h there = hand-apart g.plan supers states (states' u 1 block_is.inside) (record_words m) (record_words (put m (state u) 1)) owners (l own) u (state-other m u 1) k h there
              (λ e. omega (arith, e, none_there)) (words-kept u 1 block_is.inside k h there (not-made u 1 block_is.inside (λ e. omega (arith, e, none_there)) k h there))
      found-parts shaped = frames g vs id v at shaped s (put m (state u) 1) after_found refl
          (shaped-now u 1 block_is.inside (record { phase_fits = omega arith; priority_fits = omega arith; tag_fits = omega arith; number_fits = omega arith }))
      found-parts waits = waits-stay u 1 block_is.inside after_found refl (no-list u 1 block_is.inside (ap test_record none_there)) (λ e. omega (arith, e, none_there)) (omega arith)
      found-parts sights = sights-stay u 1 block_is.inside after_found refl (nobody-refers u 1 block_is.inside (ap test_record none_there))
      found-parts q = frames g vs id v at q s (put m (state u) 1) after_found refl (l q)

    -- unmake
    module _ (r : Made) (has : Has r v.made) (no_number : r.number ≡ 0) (in_use : 1 ≤ v.parts) where
      abbrev unit : ℕ
      unit = r.unit

      abbrev after_unmake : View
      after_unmake = saw (state unit) (m (state unit)) (unmade unit r.class v)

      -- the record that is made is in range, and in its phase
      pub made_there : (unit < units_of g.plan) × (phase_of (states unit) ≡ 1)
      made_there = made-phase g.plan supers states (record_words m) owners (l own) id (seen own v) owner_at unit (made-counts v.made r has)

      class_is : r.class ≡ class_of (supers (superblock_of g.plan unit))
      class_is = (l own).classes id (seen own v) owner_at has.0 r has.1

      in_its_block : IsBlock g.plan unit r.class
      in_its_block = subst (IsBlock g.plan unit) (sym class_is)
          (record_block g.plan supers (bit_in m) states hands (l pool) unit made_there.0 (used-from (states unit) (omega (arith, made_there.1))))

      -- one hand has one record made there
      only_made : total (λ (h : Hands). made_at unit h.made) owners ≡ 1
      only_made = (l own).made unit ∙ in-was unit 0 made_there.0 1 ∙ ap (λ (p : ℕ). one_if (p == 1)) made_there.1

      -- the hand makes one record at most at the unit
      pub made_few : made_at unit v.made ≤ 1
      made_few = omega (arith, only_made, total-member (λ (h : Hands). made_at unit h.made) owners id (seen own v) owner_at)

      nobody-else : (k : ℕ) (h : Hands) → k ≢ id → At owners k h → made_at unit h.made ≡ 0
      nobody-else k h ne there =
          omega (arith, only_made, made-counts v.made r has, total-two_members (λ (x : Hands). made_at unit x.made) owners k id h (seen own v) ne there owner_at)

      -- each part of the rule holds after a record became a block again
      pub unmake-parts : (q : Part) → Says g q s (put m (state unit) 0) (map (seen q) (slice_set vs id after_unmake))
      unmake-parts pool = moves g vs id v at pool s (put m (state unit) 0) after_unmake
          (pool-went g.plan supers (states' unit 0 made_there.0) states unit r.class in_its_block (sym class_is) (ap is_used (state-here m unit 0))
          (used-from (states unit) (omega (arith, made_there.1))) (λ w ne. sym (state-other m unit 0 w ne)) (bit_in m) hands id (seen pool v) (seen pool after_unmake)
          hand_at (l pool) (λ j k. omega arith) (λ j k d. omega arith)
          (each-cons (λ (y : Block). IsBlock g.plan y.unit y.class) (block unit r.class true) v.blocks in_its_block ((l pool).blocks id (seen pool v) hand_at)))
      unmake-parts bounds = moves g vs id v at bounds s (put m (state unit) 0) after_unmake (bounds-kept after_unmake (bounded (seen bounds v) _ in_use was_bounded))
      unmake-parts evers = frames g vs id v at evers s (put m (state unit) 0) after_unmake
          (let e : seen evers v ≡ seen evers after_unmake = omega (
            arith,
            total-dropped (λ (x : Made). cond (x.number == 0) 1 0) (is_made_at unit) 1 v.made
                (λ k x there here. ap (λ (y : Made). cond (y.number == 0) 1 0) (made-one unit v.made made_few r x has refl (k, there) (eqb-true x.unit unit here)) ∙ ap (λ (b : Bool). cond b 1 0) (eq-eqb r.number 0 no_number))
                (record { member = r; there = has; passes = eq-eqb unit unit refl }),
          ) in e) (l evers)
      unmake-parts references = references-stay unit 0 made_there.0 after_unmake refl (ap test_record (sym made_there.1)) (ap test_saved (sym made_there.1)) (ap test_live (sym made_there.1))
      unmake-parts fits = fits-stay unit 0 made_there.0 after_unmake refl (ap test_saved (sym made_there.1))
      unmake-parts own = moves g vs id v at own s (put m (state unit) 0) after_unmake
          (own-moved g.plan supers states (states' unit 0 made_there.0) (record_words m) (record_words (put m (state unit) 0)) owners id (seen own v) (seen own after_unmake) owner_at (l own)
          (λ w. omega (arith, in-moved unit 0 made_there.0 1 1 0 refl (ap (λ (p : ℕ). one_if (p == 1)) made_there.1) w, no-cond (unit == w), made-dropped unit w v.made r has refl))
          (λ w. omega (arith, in-moved unit 0 made_there.0 4 0 0 refl (ap (λ (p : ℕ). one_if (p == 4)) made_there.1) w))
          (λ w. omega (arith, (l own).done w, in-moved unit 0 made_there.0 5 0 0 refl (ap (λ (p : ℕ). one_if (p == 5)) made_there.1) w))
          (λ k h ne there was. hand-apart g.plan supers states (states' unit 0 made_there.0) (record_words m) (record_words (put m (state unit) 0)) owners (l own) unit (state-other m unit 0) k h there
          (λ e. omega (arith, e, made_there.1)) (words-kept unit 0 made_there.0 k h there (nobody-else k h ne there)))
          (record {
            classes = each-dropped _ (is_made_at unit) v.made mine.classes;
            run_classes = mine.run_classes;
            numbers = λ j x there. mine.numbers j x there ∙ ap number_of (sym (state-other m unit 0 x.unit (λ e. not_running x (j, there) e)));
            known = λ a n e. still_known a n (forgets unit (block_units r.class) v.known a n e);
          }))
        where
          mine : IsHand g.plan supers states (record_words m) (seen own v)
          mine = hands-from g.plan supers states (record_words m) owners (l own) id (seen own v) owner_at

          not_running : (x : Run) → Has x v.runs → x.unit ≢ unit
          not_running x there e =
              let runs = runs-phase g.plan supers states (record_words m) owners (l own) id (seen own v) owner_at x.unit (runs-counts v.runs x there) in
              omega (arith, runs.1, made_there.1, ap (λ (w : ℕ). phase_of (states w)) e)

          still_known : (a : Addr) (n : ℕ) → (known_in a v.known ≡ Some n) × (is_word_of unit (block_units r.class) a ≡ false)
              → (record_words (put m (state unit) 0) a ≡ n) × (is_own (dropped (is_made_at unit) v.made) v.runs a ≡ true)
          still_known a n t =
              let k = mine.known a n t.0 in (
                words-state m unit 0 a (λ w e same. true≢false (sym (ap (is_word_of unit (block_units r.class)) e ∙ eq-eqb w unit same) ∙ t.1)) ∙ k.0,
                own-left unit r.class v.made v.runs (λ x there e. mine.classes there.0 x there.1 ∙ ap (λ (w : ℕ). class_of (supers (superblock_of g.plan w))) e ∙ sym class_is) a k.1 t.1,
              )
      unmake-parts shaped = frames g vs id v at shaped s (put m (state unit) 0) after_unmake refl
          (shaped-now unit 0 made_there.0 (record { phase_fits = omega arith; priority_fits = omega arith; tag_fits = omega arith; number_fits = omega arith }))
      unmake-parts waits = waits-stay unit 0 made_there.0 after_unmake refl (no-list unit 0 made_there.0 (ap test_record made_there.1)) (λ e. omega (arith, e, made_there.1)) (omega arith)
      unmake-parts sights = sights-stay unit 0 made_there.0 after_unmake refl (nobody-refers unit 0 made_there.0 (ap test_record made_there.1))
      unmake-parts q = frames g vs id v at q s (put m (state unit) 0) after_unmake refl (l q)

    -- retire
    module _ (u : ℕ) (near : u < units_of g.plan) (has : 1 ≤ times u v.retiring) (in_use : 1 ≤ v.parts) where
      abbrev class : ℕ
      class = class_of (supers (superblock_of g.plan u))

      abbrev after_retire : View
      after_retire = saw (state u) (m (state u)) (retired u class v)

      is_leaving : 1 ≤ leaving bags u
      is_leaving = omega (arith, has, total-member (λ (b : Bag). times u b.retiring) bags id (seen references v) bag_at)

      at_its_last : (is_record (states u) ≡ true) × (m (refs u) ≡ 0)
      at_its_last = by (is_record (states u)) refl (m (refs u) == 0) refl
        where
          by : (b : Bool) → is_record (states u) ≡ b → (d : Bool) → (m (refs u) == 0) ≡ d → (is_record (states u) ≡ true) × (m (refs u) ≡ 0)
          by true e true z = (e, eqb-true (m (refs u)) 0 z)
          by true e false z = absurd (omega (arith, is_leaving, (l references).last u near, ap (λ (x : Bool). cond x (one_if (m (refs u) == 0)) 0) e, ap one_if z))
          by false e d z = absurd (omega (arith, is_leaving, (l references).last u near, ap (λ (x : Bool). cond x (one_if (m (refs u) == 0)) 0) e))

      -- nobody refers to it, and so it is done
      nothing : 0 ≡ places_in g.checked states (λ w. m (refs w)) (λ r. m (root r)) (frame_in m) g.plan bags u + own_in g.checked states (λ w. m (refs w)) (λ r. m (root r)) (frame_in m) bags u
      nothing = sym at_its_last.1 ∙ (l references).counted u near at_its_last.0

      -- the record at its last reference is done
      pub is_done : phase_of (states u) ≡ 5
      is_done = by (is_live (states u)) refl
        where
          by : (b : Bool) → is_live (states u) ≡ b → phase_of (states u) ≡ 5
          by true e = absurd (omega (arith, nothing, ap one_if e))
          by false e = by_phase (cases_lt 4 (phase_of (states u)))
            where
              by_phase : (4 < phase_of (states u)) ⊎ (phase_of (states u) ≤ 4) → phase_of (states u) ≡ 5
              by_phase (inl high) = omega (arith, high, record-phase (states u) at_its_last.0)
              by_phase (inr low) = absurd (true≢false (sym (and_from _ _ (le-leb 2 (phase_of (states u)) (omega (arith, record-phase (states u) at_its_last.0))) (le-leb (phase_of (states u)) 4 low)) ∙ e))

      -- a list that is open is still to be closed by a hand, which has the scheduler's own reference
      pub unlisted : is_open states heads u ≡ false
      unlisted = false_from_ne_true (is_open states heads u) (λ e. omega (arith, (l waits).done_open u near is_done e, unclosed_few, nothing, kept-done g m vs s l u))
        where
          unclosed_few : total (λ (x : Waits). unclosed_at u x.done) (map (seen waits) vs) ≤ total (λ (h : Hands). done_at u h.done) owners
          unclosed_few = omega (
            arith,
            total-map (λ (x : Waits). unclosed_at u x.done) (seen waits) vs,
            total-map (λ (h : Hands). done_at u h.done) (seen own) vs,
            total-le (λ (x : View). unclosed_at u x.done) (λ (x : View). done_at u x.done) vs (λ k x there. unclosed-le u x.done),
          )

      -- it stands in a block of its class
      pub in_block : IsBlock g.plan u class
      in_block = record_block g.plan supers (bit_in m) states hands (l pool) u near (used-from (states u) (omega (arith, is_done)))

      abbrev now : ℕ → ℕ
      now w = put m (state u) 0 (state w)

      abbrev bags' : List Bag
      bags' = slice_set bags id (seen references after_retire)

      hands-same : (w : ℕ) → in_hands bags' w ≡ in_hands bags w
      hands-same w = omega (arith, total-set (λ (b : Bag). times w b.futures) bags id (seen references v) (seen references after_retire) bag_at)

      kept-same_sum : (w : ℕ) → kept_in bags' w ≡ kept_in bags w
      kept-same_sum w = omega (arith, total-set (λ (b : Bag). times w b.done) bags id (seen references v) (seen references after_retire) bag_at)

      leaving-less : (w : ℕ) → leaving bags' w + one_if (u == w) ≡ leaving bags w
      leaving-less w = omega (arith, total-set (λ (b : Bag). times w b.retiring) bags id (seen references v) (seen references after_retire) bag_at, times-dropped u w v.retiring has)

      saved-now : (w : ℕ) → is_saved (now w) ≡ is_saved (states w)
      saved-now = same-test u 0 near is_saved (ap test_saved (sym is_done))

      live-now : (w : ℕ) → is_live (now w) ≡ is_live (states w)
      live-now = same-test u 0 near is_live (ap test_live (sym is_done))

      names-now : (w : ℕ) → below (saved_in g.checked now (λ x. m (refs x)) (λ r. m (root r)) (frame_in m) w) (units_of g.plan)
          ≡ below (saved_in g.checked states (λ x. m (refs x)) (λ r. m (root r)) (frame_in m) w) (units_of g.plan)
      names-now w = saved-same g.checked g.plan states now (λ x. m (refs x)) (λ x. m (refs x)) (λ r. m (root r)) (λ r. m (root r)) (frame_in m) (frame_in m) bags bags' saved-now (λ r low is. refl) w

      retire-references : IsReferred g.checked now (λ w. m (refs w)) (λ r. m (root r)) (frame_in m) g.plan bags'
      retire-references = record {
        counted = λ w low is. counted w low is (cases_eq w u);
        unnamed = λ w low is. unnamed w low is (cases_eq w u);
        last = λ w low. last w low (cases_eq w u);
        inside = λ w far. omega (arith, (l references).inside w far, names-now w, hands-same w, kept-same_sum w, ap one_if (live-now w), leaving-less w);
      }
        where
          was : IsReferred g.checked states (λ w. m (refs w)) (λ r. m (root r)) (frame_in m) g.plan bags
          was = l references

          gone : is_record (now u) ≡ false
          gone = ap is_record (state-here m u 0)

          counted : (w : ℕ) → w < units_of g.plan → is_record (now w) ≡ true → (w ≡ u) ⊎ (w ≢ u)
              → m (refs w) ≡ places_in g.checked now (λ x. m (refs x)) (λ r. m (root r)) (frame_in m) g.plan bags' w + own_in g.checked now (λ x. m (refs x)) (λ r. m (root r)) (frame_in m) bags' w
          counted w low is (inl e) = absurd (true≢false (sym (ap (λ (x : ℕ). is_record (now x)) (sym e) ∙ is) ∙ gone))
          counted w low is (inr ne) = omega (arith, was.counted w low (ap is_record (sym (state-other m u 0 w ne)) ∙ is), names-now w, hands-same w, kept-same_sum w, ap one_if (live-now w))

          unnamed : (w : ℕ) → w < units_of g.plan → is_record (now w) ≡ false → (w ≡ u) ⊎ (w ≢ u)
              → places_in g.checked now (λ x. m (refs x)) (λ r. m (root r)) (frame_in m) g.plan bags' w + own_in g.checked now (λ x. m (refs x)) (λ r. m (root r)) (frame_in m) bags' w ≡ 0
          unnamed w low is (inl e) = subst (λ (x : ℕ). places_in g.checked now (λ x. m (refs x)) (λ r. m (root r)) (frame_in m) g.plan bags' x + own_in g.checked now (λ x. m (refs x)) (λ r. m (root r)) (frame_in m) bags' x ≡ 0) (sym e)
              (omega (arith, nothing, names-now u, hands-same u, kept-same_sum u, ap one_if (live-now u)))
          unnamed w low is (inr ne) = omega (arith, was.unnamed w low (ap is_record (sym (state-other m u 0 w ne)) ∙ is), names-now w, hands-same w, kept-same_sum w, ap one_if (live-now w))

          last : (w : ℕ) → w < units_of g.plan → (w ≡ u) ⊎ (w ≢ u) → leaving bags' w ≡ cond (is_record (now w)) (one_if (m (refs w) == 0)) 0
          last w low (inl e) = subst (λ (x : ℕ). leaving bags' x ≡ cond (is_record (now x)) (one_if (m (refs x) == 0)) 0) (sym e)
              (omega (arith, leaving-less u, one-here u, was.last u near, few (is_record (states u)) (m (refs u) == 0)) ∙ sym (ap (λ (b : Bool). cond b (one_if (m (refs u) == 0)) 0) gone))
            where
              few : (b d : Bool) → cond b (one_if d) 0 ≤ 1
              few true true = omega arith
              few true false = omega arith
              few false d = omega arith
          last w low (inr ne) = omega (arith, leaving-less w, one-apart u w (λ e. ne (sym e)), was.last w low)
              ∙ ap (λ (x : ℕ). cond (is_record x) (one_if (m (refs w) == 0)) 0) (sym (state-other m u 0 w ne))

      -- each part of the rule holds after a record was retired
      pub retire-parts : (q : Part) → Says g q s (put m (state u) 0) (map (seen q) (slice_set vs id after_retire))
      retire-parts pool = moves g vs id v at pool s (put m (state u) 0) after_retire
          (pool-went g.plan supers now states u class in_block refl (ap is_used (state-here m u 0))
          (used-from (states u) (omega (arith, is_done))) (λ w ne. sym (state-other m u 0 w ne)) (bit_in m) hands id (seen pool v) (seen pool after_retire)
          hand_at (l pool) (λ j k. omega arith) (λ j k d. omega arith)
          (each-cons (λ (y : Block). IsBlock g.plan y.unit y.class) (block u class false) v.blocks in_block ((l pool).blocks id (seen pool v) hand_at)))
      retire-parts bounds = moves g vs id v at bounds s (put m (state u) 0) after_retire (bounds-kept after_retire (bounded (seen bounds v) _ in_use was_bounded))
      retire-parts evers = frames g vs id v at evers s (put m (state u) 0) after_retire (let e : seen evers v ≡ seen evers after_retire = omega arith in e) (l evers)
      retire-parts references = moves g vs id v at references s (put m (state u) 0) after_retire retire-references
      retire-parts fits = fits-stay u 0 near after_retire refl (ap test_saved (sym is_done))
      retire-parts own = frames g vs id v at own s (put m (state u) 0) after_retire refl
          (subst (OwnSound g.plan supers now (record_words (put m (state u) 0))) (set_again owners id (seen own v) owner_at)
          (own-moved g.plan supers states now (record_words m) (record_words (put m (state u) 0)) owners id (seen own v) (seen own v) owner_at (l own)
          (λ w. omega (arith, in-moved u 0 near 1 0 0 refl (ap (λ (p : ℕ). one_if (p == 1)) is_done) w))
          (λ w. omega (arith, in-moved u 0 near 4 0 0 refl (ap (λ (p : ℕ). one_if (p == 4)) is_done) w))
          (λ w. omega (arith, done w (cases_eq w u)))
          (λ k h ne there was. kept k h there) (kept id (seen own v) owner_at)))
        where
          kept : (k : ℕ) (h : Hands) → At owners k h → IsHand g.plan supers now (record_words (put m (state u) 0)) h
          kept k h there = hand-apart g.plan supers states now (record_words m) (record_words (put m (state u) 0)) owners (l own) u (state-other m u 0) k h there
              (λ e. omega (arith, e, is_done)) (words-kept u 0 near k h there (not-made u 0 near (λ e. omega (arith, e, is_done)) k h there))

          done : (w : ℕ) → (w ≡ u) ⊎ (w ≢ u) → total (λ (h : Hands). done_at w h.done) owners ≤ is_in g.plan now 5 w
          done w (inl e) = subst (λ (x : ℕ). total (λ (h : Hands). done_at x h.done) owners ≤ is_in g.plan now 5 x) (sym e) (omega (arith, nothing, kept-done g m vs s l u))
          done w (inr ne) = omega (arith, (l own).done w, in-other u 0 near 5 w ne)
      retire-parts shaped = frames g vs id v at shaped s (put m (state u) 0) after_retire refl
          (shaped-now u 0 near (record { phase_fits = omega arith; priority_fits = omega arith; tag_fits = omega arith; number_fits = omega arith }))
      retire-parts waits = waits-stay u 0 near after_retire refl unlisted (λ e. omega (arith, e, is_done)) (omega arith)
      retire-parts sights = sights-stay u 0 near after_retire refl (λ k x there. no_future k x there (map_at (seen sights) vs k x there))
        where
          no_future : (k : ℕ) (x : Knows) → At (map (seen sights) vs) k x → (t : View) × At vs k t × (seen sights t ≡ x) → times u x.futures ≡ 0
          no_future k x there t = omega (
            arith,
            nothing,
            ap (λ (y : Knows). times u y.futures) t.2,
            total-member (λ (b : Bag). times u b.futures) bags k (seen references t.0) (at_map (seen references) vs k t.0 t.1),
          )
      retire-parts q = frames g vs id v at q s (put m (state u) 0) after_retire refl (l q)

  -- a load of a superblock's word tells the class of a block there
  pub class-glances-at : (u : ℕ) → u < units_of g.plan → Keeps g id v (super (superblock_of g.plan u)) (λ n. n)
      (λ r w. (w ≡ saw (super (superblock_of g.plan u)) r v) × (class_of r ≤ 3) × ((x : Block) → Has x v.blocks → x.unit ≡ u → class_of r ≡ x.class))
  class-glances-at u near m vs s l at small =
      let i : ℕ = superblock_of g.plan u in (
        saw (super i) (m (super i)) v,
        kept_word g s m (super i) (m (super i)) _ refl (sees g id v (super i) (m (super i)) m vs s l at),
        (
          refl,
          ((l pool).kept i (superblock_in g.plan u near)).class_fits,
          λ x has e.
              let is : IsBlock g.plan x.unit x.class = (l pool).blocks id (seen pool v) (hand_at m vs s l at) has.0 x has.1 in
              ap (λ (w : ℕ). class_of (m (super (superblock_of g.plan w)))) (sym e)
              ∙ (block_free g.plan (λ j. m (super j)) (bit_in m) (λ w. m (state w)) (map (seen pool) vs) id (seen pool v) (hand_at m vs s l at) (l pool) (λ j d. omega arith) x has is).1,
        ),
        (refl, refl, inl refl),
      )
