-- A take keeps the table's rule: a record that is ready runs in the hand.
use Rattle.std.proofs.Common.{◌≡◌, ◌∙◌, ◌⊎◌, inl, inr, ℕ, ◌+◌, ◌*◌, ◌<◌, ◌≤◌, ◌==◌, ◌&&◌, Bool, true, false, cond, Option, Some, None, List, [], ◌∷◌, ◌++◌, map, length, refl, sym, ap, subst, true≢false, arith, length-append}
use Rattle.std.specs.Prelude.{slice_set, slice_index, nat_le, nat_lt, IfSome, not}
use Rattle.std.proofs.lemmas.Bool.{cases_eq, cases_lt, eq-eqb, le-leb, lt-ltb, and_from, eqb-true}
use Rattle.record_core.specs.Sums.{total, below}
use Rattle.record_core.specs.Counting.{At, one_if, times}
use Rattle.record_core.proofs.BelowFacts.{below-set, below-member}
use Rattle.record_core.proofs.CountFacts.{times-some}
use Rattle.record_core.proofs.NumberFacts.{numbered_member}
use Rattle.record_core.proofs.TotalFacts.{total-set, total-map, total-append, total-member, total-le}
use Rattle.kt_words.specs.Capacity.{block_units}
use Rattle.kt_words.specs.HeadWords.{closed_word}
use Rattle.kt_words.specs.StateWords.{phase_of, number_of, IsStateWord}
use Rattle.kt_words.specs.SuperWords.{class_of}
use Rattle.task_meaning.specs.Worths.{Accepted}
use Rattle.frame_code.specs.Frames.{frame_length}
use Rattle.frame_code.specs.Names.{named}
use Rattle.frame_code.specs.Words.{words_from}
use Rattle.table_core.specs.Addresses.{Addr, Mem, super, state, refs, head, next, task, arena, root, frame_in, units_of, put}
use Rattle.table_core.specs.Bounds.{IsBounded, Numbered}
use Rattle.table_core.specs.Holdings.{Made, Run}
use Rattle.table_core.specs.Lists.{Each}
use Rattle.table_core.specs.Own.{Hands, is_own, is_result_of, known_in, record_words, is_word_of}
use Rattle.table_core.specs.Pool.{is_used, bit_in, superblock_of, IsBlock}
use Rattle.table_core.specs.References.{is_saved, is_live, is_record, Bag, saved_in, IsReferred}
use Rattle.table_core.specs.Sights.{IsKnown}
use Rattle.table_core.specs.Story.{Story, Fact, IsOver, End}
use Rattle.table_core.specs.Views.{saw}
use Rattle.table_core.specs.Parts.{Part as TablePart, pool, bounds, references, fits, own, shaped, numbers, waits, sights, totals, seen as table_seen, Says as TableSays}
use Rattle.table_core.specs.declared.setup.Setup.{Setup}
use Rattle.table_core.specs.declared.view.View.{View}
use Rattle.table_core.proofs.ClassFacts.{used-from}
use Rattle.table_core.proofs.FrameReads.{frame-some, names-few, names-same}
use Rattle.table_core.proofs.ListFacts.{at_map, each-set, each-cons}
use Rattle.table_core.proofs.OwnFacts.{IsHand, hands-from, own-moved}
use Rattle.table_core.proofs.PoolFacts.{pool-used}
use Rattle.table_core.proofs.PoolRecords.{record_block}
use Rattle.table_core.proofs.RecordKinds.{state-here, state-other, same-test, in-moved, shaped-now, words-kept, not-made}
use Rattle.table_core.proofs.RecordWords.{or-left, or-right, has-any, owned-by, OwnedBy}
use Rattle.table_core.proofs.ReferenceFacts.{in_hands, kept_in, leaving}
use Rattle.table_core.proofs.Rule.{frames as table_frames, moves as table_moves}
use Rattle.table_core.proofs.SightFacts.{sights-written, known-more}
use Rattle.table_core.proofs.WaitFacts.{waits-kept}
use Rattle.schedule_rule.specs.Calls.{AtNumber, task_in, after_of, IsNumber, IsComplete, is_number}
use Rattle.schedule_rule.specs.LifeViews.{knowing}
use Rattle.schedule_rule.specs.Numbers.{in_hand, in_state}
use Rattle.schedule_rule.specs.Parts.{formed, places, owners, begun, seen, AllSay}
use Rattle.schedule_rule.specs.TakingViews.{with_words, new_run, took}
use Rattle.schedule_rule.proofs.StoryFacts.{number-from}
use Rattle.schedule_rule.proofs.TakingFacts.{length-words, read-words, known-words, fewer-than, one-few}

-- the end of a task that is over, as a fact
abbrev pub over-facts : (story_ends : List End) (o : Option ℕ) → IfSome o (IsComplete story_ends) → List Fact
over-facts ends None over = []
over-facts ends (Some t) over = IsOver t over.0 ∷ []

-- both cases are 0
cond-zero : (b : Bool) → ◌≡◌ {A = ℕ} (cond b 0 0) 0
cond-zero true = refl
cond-zero false = refl

module _ (g : Setup) (id : ℕ) (v : View) (m : Mem) (vs : List View) (s : Story) (l : AllSay g s m vs) (at : At vs id v) (u : ℕ) (near : u < units_of g.plan) (in_use : 1 ≤ v.parts)
    (n : ℕ) (was : phase_of (m (state u)) ≡ 3) (is : phase_of n ≡ 4) (numbered : number_of n ≡ number_of (m (state u))) (shape : IsStateWord n) where
  abbrev pub states : ℕ → ℕ
  states w = m (state w)

  abbrev pub now : ℕ → ℕ
  now w = put m (state u) n (state w)

  abbrev supers : ℕ → ℕ
  supers i = m (super i)

  abbrev hands : List Hands
  hands = map (table_seen own) vs

  abbrev bags_vs : List Bag
  bags_vs = map (table_seen references) vs

  -- the words of the record's block, its number and the call of that
  abbrev pub class : ℕ
  class = class_of (supers (superblock_of g.plan u))

  abbrev pub ws : List ℕ
  ws = words_from (frame_in m u) 0 (8 * block_units class)

  abbrev pub number : ℕ
  number = number_of (states u)

  -- the record was one
  pub was-record : is_record (states u) ≡ true
  was-record = ap (λ (p : ℕ). nat_le 2 p && nat_le p 5) was

  -- its frame was saved
  pub was-saved : is_saved (states u) ≡ true
  was-saved = ap (λ (p : ℕ). nat_le 2 p && nat_le p 3) was

  -- its number is an accepted one
  pub its-number : IsNumber s.calls number
  its-number = ((l.schedule owners).is_of u near was-record).0

  abbrev pub call : Accepted
  call = (numbered_member s.calls number its-number.0 its-number.1).0

  -- the call is that of the number
  pub call-is : AtNumber s.calls number call
  call-is = (numbered_member s.calls number its-number.0 its-number.1).1

  -- the predecessor of the number is none, or complete
  pub over : IfSome (after_of s.calls number) (IsComplete s.ends)
  over = l.schedule begun u near (ap (λ (p : ℕ). nat_le 3 p && nat_le p 4) was)

  abbrev pub more : List Fact
  more = over-facts s.ends (after_of s.calls number) over

  abbrev pub run : Run
  run = new_run u class number (task_in (Some call) number) ws

  abbrev pub after_take : View
  after_take = knowing more (saw (state u) (m (state u)) (took g.checked u class number ws call v))

  -- the frame lies in the block, so its words are among those
  pub fits-in : frame_length g.checked (frame_in m u 0) ≤ 8 * block_units class
  fits-in = (l.table fits).saved u near was-saved

  -- a word of the frame stands in the list of words
  pub same-words : (k : ℕ) → k < frame_length g.checked (frame_in m u 0) → slice_index ws k ≡ frame_in m u k
  same-words k low = read-words (frame_in m u) 0 (8 * block_units class) k (omega (arith, low, fits-in)) ∙ ap (frame_in m u) (omega arith)

  -- so does the control word
  pub first-same : slice_index ws 0 ≡ frame_in m u 0
  first-same = same-words 0 (frame-some g.checked (frame_in m u 0))

  -- the list names what the saved frame names
  pub same-names : named g.checked (slice_index ws) ≡ named g.checked (frame_in m u)
  same-names = names-same g.checked (frame_in m u) (slice_index ws) same-words

  -- the record lies in a block of this class
  pub in-block : IsBlock g.plan u class
  in-block = record_block g.plan supers (bit_in m) states (map (table_seen pool) vs) (l.table pool) u near (used-from (states u) (omega (arith, was)))

  -- tests of the state that both phases pass alike
  same : (f : ℕ → Bool) → f n ≡ f (states u) → (w : ℕ) → f (now w) ≡ f (states w)
  same = same-test g id v m vs s l.table at u n near

  -- the same units have records that may be referred to
  pub recorded : (w : ℕ) → is_record (now w) ≡ is_record (states w)
  recorded = same is_record (ap (λ (p : ℕ). nat_le 2 p && nat_le p 5) is ∙ sym was-record)

  -- and records that wait, are ready or run
  pub lives : (w : ℕ) → is_live (now w) ≡ is_live (states w)
  lives = same is_live (ap (λ (p : ℕ). nat_le 2 p && nat_le p 4) is ∙ sym (ap (λ (p : ℕ). nat_le 2 p && nat_le p 4) was))

  -- and records at all
  used : (w : ℕ) → is_used (now w) ≡ is_used (states w)
  used w = ap one_if (same (λ x. nat_lt 0 (phase_of x)) (ap (λ (p : ℕ). nat_lt 0 p) is ∙ sym (ap (λ (p : ℕ). nat_lt 0 p) was)) w)

  -- the same records are done
  pub in-five : (w : ℕ) → (phase_of (now w) == 5) ≡ (phase_of (states w) == 5)
  in-five = same (λ x. phase_of x == 5) (ap (λ (p : ℕ). p == 5) is ∙ sym (ap (λ (p : ℕ). p == 5) was))

  -- and the same ones wait
  in-two : (w : ℕ) → (phase_of (now w) == 2) ≡ (phase_of (states w) == 2)
  in-two = same (λ x. phase_of x == 2) (ap (λ (p : ℕ). p == 2) is ∙ sym (ap (λ (p : ℕ). p == 2) was))

  -- state words have the numbers that they had
  pub number-same : (w : ℕ) → number_of (now w) ≡ number_of (states w)
  number-same w = elim (cases_eq w u) [
    | inl e ↦ subst (λ (x : ℕ). number_of (now x) ≡ number_of (states x)) (sym e) (ap number_of (state-here m u n) ∙ numbered)
    | inr ne ↦ ap number_of (state-other m u n w ne)
  ]

  -- what is saved now is another record, which was saved before
  pub saved-here : is_saved (now u) ≡ false
  saved-here = ap is_saved (state-here m u n) ∙ ap (λ (p : ℕ). nat_le 2 p && nat_le p 3) is

  -- such a record has the word that it had
  pub still-saved : (w : ℕ) → is_saved (now w) ≡ true → now w ≡ states w
  still-saved w saved = state-other m u n w (λ e. true≢false (sym saved ∙ ap (λ (x : ℕ). is_saved (now x)) e ∙ saved-here))

  -- and was saved before
  pub was-saved_at : (w : ℕ) → is_saved (now w) ≡ true → is_saved (states w) ≡ true
  was-saved_at w saved = ap is_saved (sym (still-saved w saved)) ∙ saved

  -- the names of the frame go from the saved ones into the hand
  abbrev saved_names : (ℕ → ℕ) → ℕ → ℕ → ℕ
  saved_names words w r = saved_in g.checked words (λ x. m (refs x)) (λ k. m (root k)) (frame_in m) w r

  names-less : (w : ℕ) → below (saved_names now w) (units_of g.plan) + times w (named g.checked (slice_index ws)) ≡ below (saved_names states w) (units_of g.plan)
  names-less w = omega (
    arith,
    below-set (saved_names states w) (saved_names now w) (units_of g.plan) u near (λ r low ne. ap (λ (x : ℕ). cond (is_saved x) (times w (named g.checked (frame_in m r))) 0) (state-other m u n r ne)),
    ap (λ (b : Bool). cond b (times w (named g.checked (frame_in m u))) 0) saved-here,
    ap (λ (b : Bool). cond b (times w (named g.checked (frame_in m u))) 0) was-saved,
    ap (times w) same-names,
  )

  abbrev bags_after : List Bag
  bags_after = slice_set bags_vs id (table_seen references after_take)

  -- the references of the pass stand among those of all
  bag_at : At bags_vs id (table_seen references v)
  bag_at = at_map (table_seen references) vs id v at

  -- the hands have one reference more for each name
  hands-more : (w : ℕ) → in_hands bags_after w ≡ in_hands bags_vs w + times w (named g.checked (slice_index ws))
  hands-more w = omega (
    arith,
    total-set (λ (b : Bag). times w b.futures) bags_vs id (table_seen references v) (table_seen references after_take) bag_at,
    total-append (λ (x : ℕ). one_if (x == w)) (named g.checked (slice_index ws)) v.futures,
  )

  -- done records keep their references
  kept-same : (w : ℕ) → kept_in bags_after w ≡ kept_in bags_vs w
  kept-same w = omega (arith, total-set (λ (b : Bag). times w b.done) bags_vs id (table_seen references v) (table_seen references after_take) bag_at)

  -- and the same ones are at their last reference
  leaving-same : (w : ℕ) → leaving bags_after w ≡ leaving bags_vs w
  leaving-same w = omega (arith, total-set (λ (b : Bag). times w b.retiring) bags_vs id (table_seen references v) (table_seen references after_take) bag_at)

  -- reference words count as before
  take-references : IsReferred g.checked now (λ x. m (refs x)) (λ k. m (root k)) (frame_in m) g.plan bags_after
  take-references = record {
    counted = λ w low record_is. omega (arith, (l.table references).counted w low (sym (recorded w) ∙ record_is), names-less w, hands-more w, kept-same w, ap one_if (lives w));
    unnamed = λ w low none. omega (arith, (l.table references).unnamed w low (sym (recorded w) ∙ none), names-less w, hands-more w, kept-same w, ap one_if (lives w));
    last = λ w low. leaving-same w ∙ (l.table references).last w low ∙ sym (ap (λ (b : Bool). cond b (one_if (m (refs w) == 0)) 0) (recorded w));
    inside = λ w far. omega (arith, (l.table references).inside w far, names-less w, hands-more w, kept-same w, leaving-same w, ap one_if (lives w));
  }

  -- what the frame names are records of the table
  pub names-near : Each (λ x. x < units_of g.plan) (named g.checked (slice_index ws))
  names-near k x there = elim (cases_lt x (units_of g.plan)) [
    | inl low ↦ low
    | inr far ↦ absurd (omega (arith, (l.table references).inside x (omega (arith, far)), names-less x, (times-some x (named g.checked (slice_index ws))).1 (k, there)))
  ]

  -- it names few
  pub names-are_few : length (named g.checked (slice_index ws)) ≤ 63
  names-are_few =
      let frame = (l.schedule formed).saved u near was-saved in
      omega (arith, ap length same-names, names-few g.checked (frame_in m u), frame.few, length-words (frame_in m u) 0 (frame_length g.checked (frame_in m u 0)))

  -- the numbers that all passes took are one more, and no more than the accepted ones
  taken-few : total (λ (x : View). length x.taken) vs + 1 ≤ length s.calls
  taken-few = fewer-than (λ (x : View). x.taken) vs (length s.calls) number its-number.0 its-number.1
      (λ k x there j y there'.
      let one : 1 ≤ times y x.taken = (times-some y x.taken).1 (j, there') in
      number-from s.calls y (omega (arith, one, l.schedule places y, total-member (in_hand y) (map (seen places) vs) k (seen places x) (at_map (seen places) vs k x there))))
      once
    where
      once : (y : ℕ) → total (λ (x : View). times y x.taken) vs + one_if (number == y) ≤ 1
      once y = omega (
        arith,
        l.schedule places y,
        total-map (in_hand y) (seen places) vs,
        total-le (λ (x : View). times y x.taken) (λ (x : View). in_hand y (seen places x)) vs (λ k x there. omega arith),
        below-member (in_state states y) (units_of g.plan) u near,
        ap (λ (b : Bool). cond b (one_if (number == y)) 0) was-saved,
        one-few (is_number s.calls y),
      )

  -- hands keep what they know
  words-still : (k : ℕ) (h : Hands) → At hands k h → (a : Addr) → is_own h.made h.runs a ≡ true → record_words (put m (state u) n) a ≡ record_words m a
  words-still k h there = words-kept g id v m vs s l.table at u n near k h there (not-made g id v m vs s l.table at u n near (λ e. omega (arith, e, was)) k h there)

  -- the records of the pass stand among those of all
  own_at : At hands id (table_seen own v)
  own_at = at_map (table_seen own) vs id v at

  -- what the pass had and knew of its records is so
  mine : IsHand g.plan supers states (record_words m) (table_seen own v)
  mine = hands-from g.plan supers states (record_words m) hands (l.table own) id (table_seen own v) own_at

  -- a word of the block is the pass's own now, and what was its own is so still
  own-block : (j : ℕ) → j < 8 * block_units class → is_own v.made (run ∷ v.runs) (arena (8 * u + j)) ≡ true
  own-block j low = or-right _ _ (or-left _ _ (and_from _ _ (le-leb (8 * u) (8 * u + j) (omega arith)) (lt-ltb (8 * u + j) (8 * (u + block_units class)) (omega (arith, low)))))

  -- what was its own is so still
  own-still : (a : Addr) → is_own v.made v.runs a ≡ true → is_own v.made (run ∷ v.runs) a ≡ true
  own-still a mine_is = by (owned-by v.made v.runs a mine_is)
    where
      by : OwnedBy v.made v.runs a → is_own v.made (run ∷ v.runs) a ≡ true
      by (inl t) = or-left _ _ (has-any (λ (r : Made). is_word_of r.unit (block_units r.class) a) v.made t.0 t.1 t.2)
      by (inr t) = or-right _ _ (or-right _ _ (has-any (λ (r : Run). is_result_of r.unit (block_units r.class) a) v.runs t.0 t.1 t.2))

  -- what is known of a word is so, and the word is its own
  now-known : (a : Addr) (k : ℕ) → known_in a (with_words (8 * u) ws v.known) ≡ Some k → (record_words (put m (state u) n) a ≡ k) × (is_own v.made (run ∷ v.runs) a ≡ true)
  now-known a k found = by (known-words (8 * u) ws v.known a k found)
    where
      by : ((j : ℕ) × (j < length ws) × (a ≡ arena (8 * u + j)) × (k ≡ slice_index ws j)) ⊎ (known_in a v.known ≡ Some k) → (record_words (put m (state u) n) a ≡ k) × (is_own v.made (run ∷ v.runs) a ≡ true)
      by (inl t) =
          let low : t.0 < 8 * block_units class = omega (arith, t.1, length-words (frame_in m u) 0 (8 * block_units class)) in (
            ap (record_words (put m (state u) n)) t.2 ∙ sym (t.3 ∙ read-words (frame_in m u) 0 (8 * block_units class) t.0 low ∙ ap (frame_in m u) (omega arith)),
            ap (is_own v.made (run ∷ v.runs)) t.2 ∙ own-block t.0 low,
          )
      by (inr before) = let t = mine.known a k before in (words-still id (table_seen own v) own_at a t.1 ∙ t.0, own-still a t.1)

  -- each part of the table's rule holds after the take
  pub take-table : (q : TablePart) → TableSays g q s (put m (state u) n) (map (table_seen q) (slice_set vs id after_take))
  take-table pool = table_frames g vs id v at pool s (put m (state u) n) after_take refl (pool-used g.plan supers (bit_in m) states now (map (table_seen pool) vs) (l.table pool) used)
  take-table bounds =
      let held = l.table bounds id (table_seen bounds v) (at_map (table_seen bounds) vs id v at) in
      table_moves g vs id v at bounds s (put m (state u) n) after_take (each-set IsBounded (map (table_seen bounds) vs) id (table_seen bounds after_take) (l.table bounds) (record {
        few = omega (arith, held.few, names-are_few, length-append (named g.checked (slice_index ws)) v.futures);
        accepted = held.accepted;
        single = held.single;
        spent = λ none. absurd (omega (arith, none, in_use));
      }))
  take-table references = table_moves g vs id v at references s (put m (state u) n) after_take take-references
  take-table fits = table_moves g vs id v at fits s (put m (state u) n) after_take (record {
    saved = λ w low saved. (l.table fits).saved w low (was-saved_at w saved);
    running = each-set _ (map (table_seen fits) vs) id (run ∷ v.runs) (l.table fits).running
        (each-cons _ run v.runs (omega (arith, fits-in, ap (frame_length g.checked) first-same)) ((l.table fits).running id v.runs (at_map (table_seen fits) vs id v at)));
  })
  take-table own = table_moves g vs id v at own s (put m (state u) n) after_take
      (own-moved g.plan supers states now (record_words m) (record_words (put m (state u) n)) hands id (table_seen own v) (table_seen own after_take) own_at (l.table own)
      (λ w. omega (arith, in-moved g id v m vs s l.table at u n near 1 0 0 (ap (λ (p : ℕ). one_if (p == 1)) is) (ap (λ (p : ℕ). one_if (p == 1)) was) w))
      (λ w. omega (arith, in-moved g id v m vs s l.table at u n near 4 0 1 (ap (λ (p : ℕ). one_if (p == 4)) is) (ap (λ (p : ℕ). one_if (p == 4)) was) w, cond-zero (u == w)))
      (λ w. omega (arith, (l.table own).done w, in-moved g id v m vs s l.table at u n near 5 0 0 (ap (λ (p : ℕ). one_if (p == 5)) is) (ap (λ (p : ℕ). one_if (p == 5)) was) w))
      (λ k h other there hand. record {
        classes = hand.classes;
        run_classes = hand.run_classes;
        numbers = λ j x there'. hand.numbers j x there' ∙ sym (number-same x.unit);
        known = λ a k' e. let t = hand.known a k' e in (words-still k h there a t.1 ∙ t.0, t.1);
      })
      (record {
        classes = mine.classes;
        run_classes = each-cons _ run v.runs refl mine.run_classes;
        numbers = each-cons _ run v.runs (sym (number-same u)) (λ j x there. mine.numbers j x there ∙ sym (number-same x.unit));
        known = now-known;
      }))
  take-table shaped = table_frames g vs id v at shaped s (put m (state u) n) after_take refl (shaped-now g id v m vs s l.table at u n near shape)
  take-table numbers = table_moves g vs id v at numbers s (put m (state u) n) after_take (record {
    taken = omega (
      arith,
      taken-few,
      (l.table totals).drawn,
      total-map (λ (h : Numbered). h.taken) (table_seen numbers) vs,
      total-set (λ (h : Numbered). h.taken) (map (table_seen numbers) vs) id (table_seen numbers v) (table_seen numbers after_take) (at_map (table_seen numbers) vs id v at),
    );
    calls = omega (arith, (l.table numbers).calls, total-set (λ (h : Numbered). h.calls) (map (table_seen numbers) vs) id (table_seen numbers v) (table_seen numbers after_take) (at_map (table_seen numbers) vs id v at));
  })
  take-table waits = table_frames g vs id v at waits s (put m (state u) n) after_take refl
      (waits-kept g.plan states now (λ w. m (head w)) (λ w. m (head w)) (λ w. m (next w)) (map (table_seen waits) vs) (l.table waits)
      (λ w. ap (λ (b : Bool). b && not (m (head w) == closed_word)) (recorded w))
      (λ w opened. refl)
      (λ w low live. sym (lives w) ∙ live)
      (λ w five. eqb-true (phase_of (states w)) 5 (sym (in-five w) ∙ eq-eqb (phase_of (now w)) 5 five))
      in-two
      (λ w two. number-same w))
  take-table sights = table_moves g vs id v at sights s (put m (state u) n) after_take
      (each-set (IsKnown (λ w. m (head w)) (λ w. m (task w)) now) (map (table_seen sights) vs) id (table_seen sights after_take) written
      (known-more (λ w. m (head w)) (λ w. m (task w)) now v.futures (named g.checked (slice_index ws) ++ v.futures) v.sights
      (λ w some. omega (arith, some, total-append (λ (x : ℕ). one_if (x == w)) (named g.checked (slice_index ws)) v.futures))
      (written id (table_seen sights v) (at_map (table_seen sights) vs id v at))))
    where
      written : Each (IsKnown (λ w. m (head w)) (λ w. m (task w)) now) (map (table_seen sights) vs)
      written = sights-written (λ w. m (head w)) (λ w. m (head w)) (λ w. m (task w)) (λ w. m (task w)) states now (map (table_seen sights) vs) (l.table sights)
          (λ k w x there refers. record { later = inl refl; task_same = refl; done_same = λ five. state-other m u n w (λ e. omega (arith, five, was, ap (λ (y : ℕ). phase_of (states y)) e)) })
  take-table q = table_frames g vs id v at q s (put m (state u) n) after_take refl (l.table q)
