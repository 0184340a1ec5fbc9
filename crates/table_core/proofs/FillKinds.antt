-- Each kind of step that writes or reads an own word, or reads a state word, keeps the rule.
use Rattle.std.proofs.Common.{◌≡◌, ◌≢◌, ◌∙◌, ◌⊎◌, inl, inr, ℕ, ◌+◌, ◌*◌, ◌<◌, ◌≤◌, Bool, true, false, cond, ◌==◌, Some, List, ◌∷◌, map, refl, sym, ap, subst, true≢false, arith}
use Rattle.std.specs.Prelude.{slice_set, nat_le, ◌&&◌}
use Rattle.std.proofs.lemmas.Bool.{ne_eqb, lt-ltb, le-leb, leb-true, eqb-true, and_from, and_parts}
use Rattle.record_core.specs.Counting.{At, one_if, times}
use Rattle.kt_words.specs.Capacity.{block_units}
use Rattle.kt_words.specs.StateWords.{phase_of, IsStateWord}
use Rattle.kt_words.specs.SuperWords.{class_of}
use Rattle.frame_code.specs.Frames.{frame_length}
use Rattle.table_core.specs.Addresses.{Addr, Mem, super, bits, state, refs, head, next, task, outcome, arena, root, journal, evidence, sum, frame_in, units_of, is_same, put}
use Rattle.table_core.specs.Story.{Story}
use Rattle.table_core.specs.Pool.{superblock_of, Hand, bit_in}
use Rattle.table_core.specs.References.{is_saved, is_record, Bag}
use Rattle.table_core.specs.Own.{Hands, made_at, is_own, is_inside, known_in, record_words, OwnSound}
use Rattle.table_core.specs.Holdings.{SawDone}
use Rattle.table_core.specs.Sights.{Knows, IsKnown}
use Rattle.table_core.specs.Views.{saw}
use Rattle.table_core.specs.RecordViews.{filled, learnt, saw_state}
use Rattle.table_core.specs.Parts.{Part, pool, references, fits, own, shaped, waits, sights, seen, Says, AllSay, Keeps}
use Rattle.table_core.specs.declared.setup.Setup.{Setup}
use Rattle.table_core.specs.declared.view.View.{View}
use Rattle.table_core.proofs.AddressFacts.{same-is}
use Rattle.table_core.proofs.ListFacts.{at_map, each-set, each-cons}
use Rattle.table_core.proofs.Rule.{frames, moves, kept_word}
use Rattle.table_core.proofs.FrameReads.{frame-some, names-same}
use Rattle.table_core.proofs.ReferenceFacts.{referred-moved, leaving}
use Rattle.table_core.proofs.ClassFacts.{saved-phase, record-phase}
use Rattle.table_core.proofs.OwnFacts.{IsHand, hands-from, hand-kept, own-moved, made-phase}
use Rattle.table_core.proofs.RecordWords.{refs-own, head-own, task-own}
use Rattle.table_core.proofs.SightFacts.{sighted, sights-written}
use Rattle.table_core.proofs.WaitFacts.{waits-head}
use Rattle.table_core.proofs.Owners.{Lies, lies-one, owner-of, own-one, is_filled, words-put, own-word}

-- an arena word that is written, and another one
arena-other : (m : Mem) (x n k : ℕ) → k ≢ x → put m (arena x) n (arena k) ≡ m (arena k)
arena-other m x n k ne = ap (λ (b : Bool). cond b n (m (arena k))) (ne_eqb x k (λ e. ne (sym e)))

-- the task words of other units stay
pub task-other : (m : Mem) (u n w : ℕ) → w ≢ u → put m (task u) n (task w) ≡ m (task w)
task-other m u n w ne = ap (λ (b : Bool). cond b n (m (task w))) (ne_eqb u w (λ e. ne (sym e)))

-- the heads of other units stay
pub head-other : (m : Mem) (u n w : ℕ) → w ≢ u → put m (head u) n (head w) ≡ m (head w)
head-other m u n w ne = ap (λ (b : Bool). cond b n (m (head w))) (ne_eqb u w (λ e. ne (sym e)))

-- what is no record by its phase
abbrev test_record : ℕ → Bool
test_record p = nat_le 2 p && nat_le p 5

refs-other : (m : Mem) (u n w : ℕ) → w ≢ u → put m (refs u) n (refs w) ≡ m (refs w)
refs-other m u n w ne = ap (λ (b : Bool). cond b n (m (refs w))) (ne_eqb u w (λ e. ne (sym e)))

module _ (g : Setup) (id : ℕ) (v : View) where
  module _ (m : Mem) (vs : List View) (s : Story) (l : AllSay g s m vs) (at : At vs id v) where
    abbrev states : ℕ → ℕ
    states w = m (state w)

    abbrev supers : ℕ → ℕ
    supers i = m (super i)

    abbrev owners : List Hands
    owners = map (seen own) vs

    abbrev hands : List Hand
    hands = map (seen pool) vs

    owner_at : At owners id (seen own v)
    owner_at = at_map (seen own) vs id v at

    -- fill, of any word
    module _ (a : Addr) (n : ℕ) (mine : is_own v.made v.runs a ≡ true) (may : is_filled a ≡ true) where
      abbrev after_fill : View
      after_fill = saw a (m a) (filled a n v)

      abbrev written : Addr → ℕ
      written = record_words (put m a n)

      -- other words are as before
      other : (x : Addr) → is_same a x ≡ false → written x ≡ record_words m x
      other x apart = words-put m n a may x ∙ ap (λ (b : Bool). cond b n (record_words m x)) apart

      its : (x : Addr) → is_same a x ≡ true → written x ≡ n
      its x same = words-put m n a may x ∙ ap (λ (b : Bool). cond b n (record_words m x)) same

      -- another pass's own words are others
      theirs : (k : ℕ) (h : Hands) → k ≢ id → At owners k h → (x : Addr) → is_own h.made h.runs x ≡ true → written x ≡ record_words m x
      theirs k h ne there x its_own = by (is_same a x) refl
        where
          by : (b : Bool) → is_same a x ≡ b → written x ≡ record_words m x
          by false e = other x e
          by true e = absurd (own-one g.plan supers (bit_in m) states hands (l pool) (record_words m) owners (l own) k id h (seen own v) there owner_at a
              (subst (λ (y : Addr). is_own h.made h.runs y ≡ true) (sym (same-is a x e)) its_own) mine ne)

      -- what hands own is so after an own word was filled
      pub fill-own : OwnSound g.plan supers states written (slice_set owners id (seen own after_fill))
      fill-own = own-moved g.plan supers states states (record_words m) written owners id (seen own v) (seen own after_fill) owner_at (l own)
          (λ w. refl) (λ w. refl) (λ w. omega (arith, (l own).done w))
          (λ k h ne there was. hand-kept g.plan supers states (record_words m) written h was (theirs k h ne there))
          (let is = hands-from g.plan supers states (record_words m) owners (l own) id (seen own v) owner_at in
          record { classes = is.classes; run_classes = is.run_classes; numbers = is.numbers; known = λ x k e. known x k (is_same a x) refl e is })
        where
          known : (x : Addr) (k : ℕ) (b : Bool) → is_same a x ≡ b → known_in x ((a, n) ∷ v.known) ≡ Some k → IsHand g.plan supers states (record_words m) (seen own v)
              → (written x ≡ k) × (is_own v.made v.runs x ≡ true)
          known x k true same e is =
              let found : Some n ≡ Some k = ap (λ (b : Bool). cond b (Some n) (known_in x v.known)) (sym same) ∙ e in
              let value : n ≡ k = cc in
              (its x same ∙ value, subst (λ (y : Addr). is_own v.made v.runs y ≡ true) (same-is a x same) mine)
          known x k false apart e is =
              let found : known_in x v.known ≡ Some k = ap (λ (b : Bool). cond b (Some n) (known_in x v.known)) (sym apart) ∙ e in
              let t = is.known x k found in (other x apart ∙ t.0, t.1)

      -- the record whose word it is
      pub filler : (u : ℕ) × Lies g.plan supers (bit_in m) states hands (l pool) u a × ((phase_of (states u) ≡ 1) ⊎ (phase_of (states u) ≡ 4))
      filler =
          let t = owner-of g.plan supers (bit_in m) states hands (l pool) (record_words m) owners (l own) id (seen own v) owner_at a mine in
          (t.0, t.1, elim t.2 [ inl p ↦ inl p.1 | inr p ↦ inr p.1 ])

    -- a unit at which the hand makes a record is in the phase of records that are made
    pub is-made : (u : ℕ) → 1 ≤ made_at u v.made → phase_of (states u) ≡ 1
    is-made u some = (made-phase g.plan supers states (record_words m) owners (l own) id (seen own v) owner_at u some).1

    -- nobody refers to a record that is made
    unsighted : (u : ℕ) → phase_of (states u) ≡ 1 → (k w : ℕ) (x : Knows) → At (map (seen sights) vs) k x → 1 ≤ times w x.futures → w ≢ u
    unsighted u made k w x there has e = omega (arith, made, record-phase (states w) (sighted g m vs s l k x there w has).1, ap (λ (y : ℕ). phase_of (states y)) e)

    -- fill of a word that no other part reads of a record that is made
    task-parts : (u n : ℕ) → is_own v.made v.runs (task u) ≡ true → (q : Part) → Says g q s (put m (task u) n) (map (seen q) (slice_set vs id (saw (task u) (m (task u)) (filled (task u) n v))))
    task-parts u n mine own = moves g vs id v at own s (put m (task u) n) _ (fill-own (task u) n mine refl)
    task-parts u n mine sights = frames g vs id v at sights s (put m (task u) n) (saw (task u) (m (task u)) (filled (task u) n v)) refl
        (sights-written (λ w. m (head w)) (λ w. m (head w)) (λ w. m (task w)) (λ w. put m (task u) n (task w)) states states (map (seen sights) vs) (l sights)
        (λ k w x there has. record {
          later = inl refl;
          task_same = task-other m u n w (unsighted u (is-made u (task-own v.made v.runs u mine)) k w x there has);
          done_same = λ e. refl;
        }))
    task-parts u n mine q = frames g vs id v at q s (put m (task u) n) (saw (task u) (m (task u)) (filled (task u) n v)) refl (l q)

    head-parts : (u n : ℕ) → is_own v.made v.runs (head u) ≡ true → (q : Part) → Says g q s (put m (head u) n) (map (seen q) (slice_set vs id (saw (head u) (m (head u)) (filled (head u) n v))))
    head-parts u n mine own = moves g vs id v at own s (put m (head u) n) _ (fill-own (head u) n mine refl)
    head-parts u n mine waits = frames g vs id v at waits s (put m (head u) n) (saw (head u) (m (head u)) (filled (head u) n v)) refl
        (waits-head g.plan states (λ w. m (head w)) (λ w. m (next w)) (map (seen waits) vs) (l waits) u (λ w. put m (head u) n (head w)) (head-other m u n)
        (ap test_record (is-made u (head-own v.made v.runs u mine))))
    head-parts u n mine sights = frames g vs id v at sights s (put m (head u) n) (saw (head u) (m (head u)) (filled (head u) n v)) refl
        (sights-written (λ w. m (head w)) (λ w. put m (head u) n (head w)) (λ w. m (task w)) (λ w. m (task w)) states states (map (seen sights) vs) (l sights)
        (λ k w x there has. record {
          later = inl (head-other m u n w (unsighted u (is-made u (head-own v.made v.runs u mine)) k w x there has));
          task_same = refl;
          done_same = λ e. refl;
        }))
    head-parts u n mine q = frames g vs id v at q s (put m (head u) n) (saw (head u) (m (head u)) (filled (head u) n v)) refl (l q)

    result-parts : (u n : ℕ) → is_own v.made v.runs (outcome u) ≡ true
        → (q : Part) → Says g q s (put m (outcome u) n) (map (seen q) (slice_set vs id (saw (outcome u) (m (outcome u)) (filled (outcome u) n v))))
    result-parts u n mine own = moves g vs id v at own s (put m (outcome u) n) _ (fill-own (outcome u) n mine refl)
    result-parts u n mine q = frames g vs id v at q s (put m (outcome u) n) (saw (outcome u) (m (outcome u)) (filled (outcome u) n v)) refl (l q)

    abbrev bags : List Bag
    bags = map (seen references) vs

    -- fill of the reference word of a record that is made: no part counts it yet
    module _ (u n : ℕ) (mine : is_own v.made v.runs (refs u) ≡ true) where
      abbrev after_refs : View
      after_refs = saw (refs u) (m (refs u)) (filled (refs u) n v)

      is_made : (u < units_of g.plan) × (phase_of (states u) ≡ 1)
      is_made = made-phase g.plan supers states (record_words m) owners (l own) id (seen own v) owner_at u (refs-own v.made v.runs u mine)

      counted : (w : ℕ) → is_record (states w) ≡ true → put m (refs u) n (refs w) ≡ m (refs w)
      counted w is = refs-other m u n w (λ e. omega (arith, is_made.1, record-phase (states w) is, ap (λ (x : ℕ). phase_of (states x)) e))

      lasts : (w : ℕ) → w < units_of g.plan → (b : Bool) → is_record (states w) ≡ b → leaving bags w ≡ cond (is_record (states w)) (one_if (put m (refs u) n (refs w) == 0)) 0
      lasts w low true e = (l references).last w low ∙ ap (λ (k : ℕ). cond (is_record (states w)) (one_if (k == 0)) 0) (sym (counted w e))
      lasts w low false e = (l references).last w low ∙ ap (λ (b : Bool). cond b (one_if (m (refs w) == 0)) 0) e ∙ sym (ap (λ (b : Bool). cond b (one_if (put m (refs u) n (refs w) == 0)) 0) e)

      refs-parts : (q : Part) → Says g q s (put m (refs u) n) (map (seen q) (slice_set vs id after_refs))
      refs-parts own = moves g vs id v at own s (put m (refs u) n) after_refs (fill-own (refs u) n mine refl)
      refs-parts references = frames g vs id v at references s (put m (refs u) n) after_refs refl
          (referred-moved g.checked g.plan states states (λ w. m (refs w)) (λ w. put m (refs u) n (refs w)) (λ r. m (root r)) (λ r. m (root r)) (frame_in m) (frame_in m) bags bags (l references)
          (λ w. refl) (λ w. refl) (λ w. refl) (λ r low is. refl) (λ w low is. omega (arith, counted w is)) (λ w low is none. none)
          (λ w low. lasts w low (is_record (states w)) refl) (λ w far. omega arith))
      refs-parts q = frames g vs id v at q s (put m (refs u) n) after_refs refl (l q)

    -- fill of a frame word: saved frames lie in other blocks
    module _ (x n : ℕ) (mine : is_own v.made v.runs (arena x) ≡ true) where
      abbrev after_frame : View
      after_frame = saw (arena x) (m (arena x)) (filled (arena x) n v)

      abbrev frames' : ℕ → ℕ → ℕ
      frames' = frame_in (put m (arena x) n)

      -- the frame of a saved record is no own word, so it stays
      pub frame-stays : (r : ℕ) → r < units_of g.plan → is_saved (states r) ≡ true → (k : ℕ) → k < frame_length g.checked (frame_in m r 0) → frames' r k ≡ frame_in m r k
      frame-stays r near is k low = arena-other m x n (8 * r + k) (λ e. apart e (filler (arena x) n mine refl))
        where
          long : frame_length g.checked (frame_in m r 0) ≤ 8 * block_units (class_of (supers (superblock_of g.plan r)))
          long = (l fits).saved r near is

          apart : 8 * r + k ≡ x → (u : ℕ) × Lies g.plan supers (bit_in m) states hands (l pool) u (arena x) × ((phase_of (states u) ≡ 1) ⊎ (phase_of (states u) ≡ 4)) → ⊥
          apart e t =
              let here : is_inside r (block_units (class_of (supers (superblock_of g.plan r)))) x ≡ true =
              and_from _ _ (le-leb (8 * r) x (omega (arith, e))) (lt-ltb x (8 * (r + block_units (class_of (supers (superblock_of g.plan r))))) (omega (arith, e, low, long))) in
              let same : t.0 ≡ r = lies-one g.plan supers (bit_in m) states hands (l pool) (arena x) t.0 r t.1
              (record { near = near; used = omega (arith, saved-phase (states r) is); word = here }) in
              phases (ap (λ (w : ℕ). phase_of (states w)) same) t.2
            where
              phases : phase_of (states t.0) ≡ phase_of (states r) → (phase_of (states t.0) ≡ 1) ⊎ (phase_of (states t.0) ≡ 4) → ⊥
              phases same (inl p) = omega (arith, same, p, saved-phase (states r) is)
              phases same (inr p) = omega (arith, same, p, saved-phase (states r) is)

      frame-parts : (q : Part) → Says g q s (put m (arena x) n) (map (seen q) (slice_set vs id after_frame))
      frame-parts own = moves g vs id v at own s (put m (arena x) n) after_frame (fill-own (arena x) n mine refl)
      frame-parts references = frames g vs id v at references s (put m (arena x) n) after_frame refl
          (referred-moved g.checked g.plan states states (λ w. m (refs w)) (λ w. m (refs w)) (λ r. m (root r)) (λ r. m (root r)) (frame_in m) frames' bags bags (l references)
          (λ w. refl) (λ w. refl) (λ w. refl) (λ r low is. names-same g.checked (frame_in m r) (frames' r) (frame-stays r low is)) (λ w low is. refl) (λ w low is none. none)
          (λ w low. (l references).last w low) (λ w far. omega arith))
      frame-parts fits = frames g vs id v at fits s (put m (arena x) n) after_frame refl (record {
        saved = λ r low is. omega (arith, ap (frame_length g.checked) (frame-stays r low is 0 (frame-some g.checked (frame_in m r 0))), (l fits).saved r low is);
        running = (l fits).running;
      })
      frame-parts q = frames g vs id v at q s (put m (arena x) n) after_frame refl (l q)

    -- fill, whichever word it is
    pub fill-lawful : (a : Addr) (n : ℕ) → is_own v.made v.runs a ≡ true → is_filled a ≡ true → AllSay g s (put m a n) (slice_set vs id (saw a (m a) (filled a n v)))
    fill-lawful (task u) n mine may = task-parts u n mine
    fill-lawful (head u) n mine may = head-parts u n mine
    fill-lawful (outcome u) n mine may = result-parts u n mine
    fill-lawful (refs u) n mine may = refs-parts u n mine
    fill-lawful (arena x) n mine may = frame-parts x n mine
    fill-lawful (super i) n mine may = absurd (true≢false (sym may))
    fill-lawful (bits i j) n mine may = absurd (true≢false (sym may))
    fill-lawful (state u) n mine may = absurd (true≢false (sym may))
    fill-lawful (next u) n mine may = absurd (true≢false (sym may))
    fill-lawful (root r) n mine may = absurd (true≢false (sym may))
    fill-lawful (journal k j) n mine may = absurd (true≢false (sym may))
    fill-lawful (evidence i) n mine may = absurd (true≢false (sym may))
    fill-lawful (sum k) n mine may = absurd (true≢false (sym may))

    -- read own
    module _ (a : Addr) where
      abbrev after_read : View
      after_read = saw a (m a) (learnt a (m a) v)

      read-known : (x : Addr) (k : ℕ) → known_in x after_read.known ≡ Some k → (record_words m x ≡ k) × (is_own v.made v.runs x ≡ true)
      read-known x k e = by (is_own v.made v.runs a) refl e
        where
          is : IsHand g.plan supers states (record_words m) (seen own v)
          is = hands-from g.plan supers states (record_words m) owners (l own) id (seen own v) owner_at

          by : (b : Bool) → is_own v.made v.runs a ≡ b → known_in x (cond b ((a, m a) ∷ v.known) v.known) ≡ Some k → (record_words m x ≡ k) × (is_own v.made v.runs x ≡ true)
          by false e h = is.known x k h
          by true mine h = newest (is_same a x) refl h
            where
              newest : (b : Bool) → is_same a x ≡ b → cond (is_same a x) (Some (m a)) (known_in x v.known) ≡ Some k → (record_words m x ≡ k) × (is_own v.made v.runs x ≡ true)
              newest true same h' =
                  let found : Some (m a) ≡ Some k = ap (λ (b : Bool). cond b (Some (m a)) (known_in x v.known)) (sym same) ∙ h' in
                  let value : m a ≡ k = cc in
                  let its_own : is_own v.made v.runs x ≡ true = subst (λ (y : Addr). is_own v.made v.runs y ≡ true) (same-is a x same) mine in
                  (own-word m v.made v.runs x its_own ∙ ap m (sym (same-is a x same)) ∙ value, its_own)
              newest false apart h' = is.known x k (ap (λ (b : Bool). cond b (Some (m a)) (known_in x v.known)) (sym apart) ∙ h')

      read-parts : (q : Part) → Says g q s m (map (seen q) (slice_set vs id after_read))
      read-parts own = moves g vs id v at own s m after_read
          (own-moved g.plan supers states states (record_words m) (record_words m) owners id (seen own v) (seen own after_read) owner_at (l own)
          (λ w. refl) (λ w. refl) (λ w. omega (arith, (l own).done w)) (λ k h ne there was. was)
          (let is = hands-from g.plan supers states (record_words m) owners (l own) id (seen own v) owner_at in
          record { classes = is.classes; run_classes = is.run_classes; numbers = is.numbers; known = read-known }))
      read-parts q = frames g vs id v at q s m after_read refl (l q)

      read-told : (n : ℕ) → known_in a v.known ≡ Some n → m a ≡ n
      read-told n e = let t = (l own).known id (seen own v) owner_at a n e in sym (own-word m v.made v.runs a t.1) ∙ t.0

    -- see state
    see-parts : (u : ℕ) (q : Part) → Says g q s m (map (seen q) (slice_set vs id (saw (state u) (m (state u)) (saw_state u (m (state u)) v))))
    see-parts u sights = moves g vs id v at sights s m (saw (state u) (m (state u)) (saw_state u (m (state u)) v))
        (each-set (IsKnown (λ w. m (head w)) (λ w. m (task w)) states) (map (seen sights) vs) id _ (l sights) (by (nat_le 1 (times u v.futures) && (phase_of (m (state u)) == 5)) refl))
      where
        mine : IsKnown (λ w. m (head w)) (λ w. m (task w)) states (seen sights v)
        mine = l sights id (seen sights v) (at_map (seen sights) vs id v at)

        by : (b : Bool) → (nat_le 1 (times u v.futures) && (phase_of (m (state u)) == 5)) ≡ b
            → IsKnown (λ w. m (head w)) (λ w. m (task w)) states (record { futures = v.futures; sights = cond b (SawDone u (m (state u)) ∷ v.sights) v.sights })
        by false e = mine
        by true e =
            let t = and_parts (nat_le 1 (times u v.futures)) (phase_of (m (state u)) == 5) e in
            each-cons _ (SawDone u (m (state u))) v.sights (leb-true 1 (times u v.futures) t.0, (refl, eqb-true (phase_of (m (state u))) 5 t.1)) mine
    see-parts u q = frames g vs id v at q s m (saw (state u) (m (state u)) (saw_state u (m (state u)) v)) refl (l q)

  -- read own: what is known is what is found
  pub reads-at : (a : Addr) → Keeps g id v a (λ n. n) (λ r w. (w ≡ saw a r (learnt a r v)) × ((n : ℕ) → known_in a v.known ≡ Some n → r ≡ n))
  reads-at a m vs s l at small = (saw a (m a) (learnt a (m a) v), kept_word g s m a (m a) _ refl (read-parts m vs s l at a), (refl, read-told m vs s l at a), (refl, refl, inl refl))

  -- see state
  pub sees-state-at : (u : ℕ) → u < units_of g.plan → Keeps g id v (state u) (λ n. n) (λ r w. (w ≡ saw (state u) r (saw_state u r v)) × IsStateWord r)
  sees-state-at u near m vs s l at small = (
    saw (state u) (m (state u)) (saw_state u (m (state u)) v),
    kept_word g s m (state u) (m (state u)) _ refl (see-parts m vs s l at u),
    (refl, l shaped u near),
    (refl, refl, inl refl),
  )
