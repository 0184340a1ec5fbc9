-- The next number of a running record is placed: the table's rule is kept.
use Rattle.std.proofs.Common.{◌≡◌, ◌≢◌, ◌∙◌, inl, ℕ, ◌+◌, ◌*◌, ◌<◌, ◌≤◌, ◌==◌, ◌&&◌, Bool, true, false, cond, not, Some, List, [], map, length, refl, sym, ap, subst, true≢false, arith}
use Rattle.std.specs.Prelude.{slice_get, slice_set, slice_index}
use Rattle.std.proofs.lemmas.Bool.{eq-eqb}
use Rattle.record_core.specs.Counting.{At, Has, one_if, times, dropped}
use Rattle.record_core.proofs.CountFacts.{passing-one}
use Rattle.record_core.proofs.TotalFacts.{total-member, total-two_members}
use Rattle.kt_words.specs.Capacity.{block_units}
use Rattle.kt_words.specs.HeadWords.{closed_word, link_of, length_of}
use Rattle.kt_words.specs.StateWords.{phase_of, number_of}
use Rattle.kt_words.specs.SuperWords.{class_of}
use Rattle.frame_code.specs.Frames.{frame_length}
use Rattle.frame_code.specs.Names.{named}
use Rattle.table_core.specs.Addresses.{Addr, Mem, super, state, refs, head, next, task, root, frame, frame_in, put, units_of}
use Rattle.table_core.specs.Asking.{Drawn}
use Rattle.table_core.specs.Bounds.{IsBounded}
use Rattle.table_core.specs.Holdings.{Run, Done}
use Rattle.table_core.specs.Lists.{Each}
use Rattle.table_core.specs.Own.{Hands, runs_at, is_own, is_word_of, known_in, record_words}
use Rattle.table_core.specs.Pool.{superblock_of, bit_in}
use Rattle.table_core.specs.References.{is_live}
use Rattle.table_core.specs.Sights.{IsKnown, SightsSound}
use Rattle.table_core.specs.Story.{Story}
use Rattle.table_core.specs.Views.{saw}
use Rattle.table_core.specs.WaitLists.{Waits, chained, is_open, listed}
use Rattle.table_core.specs.WaitViews.{is_run_at}
use Rattle.table_core.specs.Parts.{Part, pool, bounds, references, fits, own, shaped, waits, sights, seen, Says}
use Rattle.table_core.specs.declared.setup.Setup.{Setup}
use Rattle.table_core.specs.declared.view.View.{View}
use Rattle.table_core.proofs.FinishKinds.{own-past, runs-dropped}
use Rattle.table_core.proofs.ListFacts.{at_map, map_at, each-set, each-dropped, length-dropped-has, same_some}
use Rattle.table_core.proofs.OwnFacts.{IsHand, hands-from, own-moved, runs-phase, done-phase, runs-counts, done-counts}
use Rattle.table_core.proofs.PoolFacts.{pool-used}
use Rattle.table_core.proofs.RecordKinds.{no-cond, state-here, state-other, in-moved, shaped-now, words-kept, not-made}
use Rattle.table_core.proofs.RecordWords.{forgets}
use Rattle.table_core.proofs.ReferenceBound.{in-few}
use Rattle.table_core.proofs.Rule.{frames, moves}
use Rattle.table_core.proofs.SightFacts.{sights-written}
use Rattle.table_core.specs.Steps.{placing as placed_at}
use Rattle.schedule_rule.specs.Parts.{AllSay}
use Rattle.schedule_rule.specs.PlacingViews.{less, is_drawn, placed_again, logged, IsPlacedWord, MayPlaceAgain}
use Rattle.schedule_rule.proofs.PlacingFacts.{length-less, times-less, kept-known, dropped-other}
use Rattle.schedule_rule.proofs.PlacingFactsFrames.{named-same, control-same, next-short}
use Rattle.schedule_rule.proofs.PlacingFactsRecords.{IsPlaced, used-same, was-live, now-record, referred-placed, fits-placed, waits-placed}
use Rattle.schedule_rule.proofs.PlacingKindsMadeTable.{other-phase}

module _ (g : Setup) (id : ℕ) (v : View) (m : Mem) (vs : List View) (s : Story) (l : AllSay g s m vs) (at : At vs id v) (waits_then : Bool) (r : Run) (d : Drawn) (words : List ℕ)
    (may : MayPlaceAgain g.checked v waits_then r d words) (in_use : 1 ≤ v.parts) (n : ℕ) (word : IsPlacedWord waits_then d.number n) where
  abbrev u : ℕ
  u = r.unit

  abbrev states : ℕ → ℕ
  states w = m (state w)

  abbrev m' : Mem
  m' = put m (state u) n

  abbrev now : ℕ → ℕ
  now w = m' (state w)

  abbrev heads : ℕ → ℕ
  heads w = m (head w)

  abbrev nexts : ℕ → ℕ
  nexts w = m (next w)

  abbrev supers : ℕ → ℕ
  supers i = m (super i)

  abbrev owners : List Hands
  owners = map (seen own) vs

  abbrev taken : List ℕ
  taken = named g.checked (slice_index words)

  abbrev pub after_again : View
  after_again = saw (state u) (m (state u)) (logged (placed_at u n words) (placed_again waits_then u r.class r.task d.number taken v))

  -- where the hand stands among all
  owner_at : At owners id (seen own v)
  owner_at = at_map (seen own) vs id v at

  -- the record ran, and is one of the table
  pub was_run : (u < units_of g.plan) × (phase_of (states u) ≡ 4)
  was_run = runs-phase g.plan supers states (record_words m) owners (l.table own) id (seen own v) owner_at u (runs-counts v.runs r may.has)

  -- the state word says that it waits or is ready
  pub placing-again : IsPlaced g.plan states now waits_then false u d.number
  placing-again = record {
    near = was_run.0;
    was = was_run.1;
    phase = ap phase_of (state-here m u n) ∙ word.phase;
    number_is = ap number_of (state-here m u n) ∙ word.number_is;
    others = state-other m u n;
  }

  -- what is said of the hand alone
  mine : IsHand g.plan supers states (record_words m) (seen own v)
  mine = hands-from g.plan supers states (record_words m) owners (l.table own) id (seen own v) owner_at

  -- its block begins with the words that are known
  pub frame-again : (j : ℕ) → j < length words → frame_in m u j ≡ slice_index words j
  frame-again j low = (mine.known (frame u j) (slice_index words j) ((may.placeable).known j low)).0

  -- no other run is there
  runs-few : runs_at u v.runs ≤ 1
  runs-few = omega (arith, (l.table own).running u, in-few g m vs s l.table 4 u, total-member (λ (h : Hands). runs_at u h.runs) owners id (seen own v) owner_at)

  -- so a run there is this one
  pub only-run : (x : Run) → Has x v.runs → x.unit ≡ u → x ≡ r
  only-run x there e =
      let same = passing-one (is_run_at u) v.runs there.0 (may.has).0 x r runs-few there.1 (eq-eqb x.unit u e) (may.has).1 (eq-eqb u u refl) in
      same_some x r (sym there.1 ∙ ap (slice_get v.runs) same ∙ (may.has).1)

  -- a run that is left is another record
  pub run-left : (x : Run) → Has x (dropped (is_run_at u) v.runs) → Has x v.runs × (x.unit ≢ u)
  run-left x has = let t = dropped-other (is_run_at u) v.runs runs-few x has in (t.0, λ e. true≢false (sym (eq-eqb x.unit u e) ∙ t.1))

  -- no other hand has a run there
  nobody-else : (k : ℕ) (h : Hands) → k ≢ id → At owners k h → runs_at u h.runs ≡ 0
  nobody-else k h ne there = omega (
    arith,
    (l.table own).running u,
    in-few g m vs s l.table 4 u,
    runs-counts v.runs r may.has,
    total-two_members (λ (x : Hands). runs_at u x.runs) owners k id h (seen own v) ne there owner_at,
  )

  -- the frame fits into its block
  short : frame_length g.checked (frame_in m u 0) ≤ 8 * block_units (class_of (supers (superblock_of g.plan u)))
  short = omega (
    arith,
    next-short g.checked words (may.placeable).is_frame r.words may.next,
    (l.table fits).running id v.runs (at_map (seen fits) vs id v at) (may.has).0 r (may.has).1,
    ap (frame_length g.checked) (control-same g.checked words (may.placeable).is_frame (frame_in m u) frame-again),
    ap (λ (c : ℕ). 8 * block_units c) (mine.run_classes (may.has).0 r (may.has).1),
  )

  -- the frame takes what it names
  named-there : (w : ℕ) → times w (named g.checked (frame_in m u)) ≡ times w taken
  named-there w = ap (times w) (named-same g.checked words (may.placeable).is_frame (frame_in m u) frame-again)

  -- what the frame names the hand has no more
  balance : (w : ℕ) → times w (less v.futures taken) + times w (named g.checked (frame_in m u)) ≡ times w v.futures + 0
  balance w = omega (arith, times-less w v.futures taken (may.placeable).held, named-there w)

  -- hands keep what they know
  words-still : (k : ℕ) (h : Hands) → At owners k h → (a : Addr) → is_own h.made h.runs a ≡ true → record_words m' a ≡ record_words m a
  words-still k h there = words-kept g id v m vs s l.table at u n was_run.0 k h there (not-made g id v m vs s l.table at u n was_run.0 (λ e. omega (arith, e, was_run.1)) k h there)

  -- what was known of other words is so still, and they are own words
  words-left : (a : Addr) (k : ℕ) → (known_in a v.known ≡ Some k) × (is_word_of u (block_units r.class) a ≡ false) → (record_words m' a ≡ k) × (is_own v.made (dropped (is_run_at u) v.runs) a ≡ true)
  words-left a k t =
      let known = mine.known a k t.0 in (
        words-still id (seen own v) owner_at a known.1 ∙ known.0,
        own-past u r.class v.made v.runs (λ x there e. ap (λ (y : Run). y.class) (only-run x there e)) a known.1 t.1,
      )

  -- what was seen of records is so still
  sights-now : SightsSound heads (λ w. m (task w)) now (map (seen sights) vs)
  sights-now = sights-written heads heads (λ w. m (task w)) (λ w. m (task w)) states now (map (seen sights) vs) (l.table sights)
      (λ k w x there some. record { later = inl refl; task_same = refl; done_same = λ is. state-other m u n w (λ e. omega (arith, is, was_run.1, ap (λ (y : ℕ). phase_of (states y)) e)) })

  -- its list is open, as it was
  was-open : is_open states heads u ≡ true
  was-open = (l.table waits).live_open u was_run.0 (was-live g.plan states now waits_then false u d.number placing-again)

  -- its head is not closed
  unclosed : not (heads u == closed_word) ≡ true
  unclosed = right (Rattle.table_core.specs.References.is_record (states u)) (not (heads u == closed_word)) was-open
    where
      right : (a b : Bool) → (a && b) ≡ true → b ≡ true
      right true b e = e
      right false b e = absurd (true≢false (sym e))

  -- its list is open afterwards
  opens : is_open now heads u ≡ true
  opens = ap (λ (b : Bool). b && not (heads u == closed_word)) (now-record g.plan states now waits_then false u d.number placing-again) ∙ unclosed

  -- its list has the members that it had
  pub list-again : listed now heads nexts u ≡ listed states heads nexts u
  list-again = ap (λ (b : Bool). cond b (chained nexts (link_of (heads u)) (length_of (heads u))) []) (opens ∙ sym was-open)

  -- a done record is another one
  done-apart : (k : ℕ) (x : Waits) → At (map (seen waits) vs) k x → Each (λ (y : Done). y.unit ≢ u) x.done
  done-apart k x there j y there' e =
      let t = map_at (seen waits) vs k x there in
      let p = done-phase g.plan supers states (record_words m) owners (l.table own) k (seen own t.0) (at_map (seen own) vs k t.0 t.1) y.unit
      (done-counts (t.0).done y (j, subst (λ (z : Waits). At z.done j y) (sym t.2) there')) in
      omega (arith, p.1, was_run.1, ap (λ (w : ℕ). phase_of (states w)) e)

  -- how much the pass had
  was_bounded : IsBounded (seen bounds v)
  was_bounded = l.table bounds id (seen bounds v) (at_map (seen bounds) vs id v at)

  -- one number less is drawn
  drawn-shorter : length (dropped (is_drawn d.number) v.drawn) + 1 ≡ length v.drawn
  drawn-shorter = length-dropped-has (is_drawn d.number) v.drawn d (may.placeable).drawn (eq-eqb d.number d.number refl)

  -- each part of the table's rule is kept
  pub again-table : (q : Part) → Says g q s m' (map (seen q) (slice_set vs id after_again))
  again-table pool = frames g vs id v at pool s m' after_again refl
      (pool-used g.plan supers (bit_in m) states now (map (seen pool) vs) (l.table pool) (λ w. ap one_if (used-same g.plan states now waits_then false u d.number placing-again w)))
  again-table bounds = moves g vs id v at bounds s m' after_again (each-set IsBounded (map (seen bounds) vs) id (seen bounds after_again) (l.table bounds) (record {
    few = omega (arith, was_bounded.few, length-less v.futures taken, drawn-shorter);
    accepted = omega (arith, was_bounded.accepted, drawn-shorter);
    single = was_bounded.single;
    spent = λ none. absurd (omega (arith, none, in_use));
  }))
  again-table references = moves g vs id v at references s m' after_again
      (referred-placed g.plan states now waits_then false u d.number placing-again g.checked (λ w. m (refs w)) (λ k. m (root k)) (frame_in m) (map (seen references) vs) id (seen references v) (seen references after_again)
      (at_map (seen references) vs id v at) (l.table references) refl refl balance (λ w. omega (arith, (may.placeable).held w, named-there w)) (λ e. absurd (true≢false (sym e))))
  again-table fits = moves g vs id v at fits s m' after_again
      (fits-placed g.plan states now waits_then false u d.number placing-again g.checked supers (frame_in m) (map (seen fits) vs) (slice_set (map (seen fits) vs) id (dropped (is_run_at u) v.runs)) (l.table fits) short
      (each-set _ (map (seen fits) vs) id (dropped (is_run_at u) v.runs) (l.table fits).running (each-dropped _ (is_run_at u) v.runs ((l.table fits).running id v.runs (at_map (seen fits) vs id v at)))))
  again-table own = moves g vs id v at own s m' after_again
      (own-moved g.plan supers states now (record_words m) (record_words m') owners id (seen own v) (seen own after_again) owner_at (l.table own)
      (λ w. omega (arith, in-moved g id v m vs s l.table at u n was_run.0 1 0 0 (other-phase waits_then n 1 word.phase refl refl) (ap (λ (p : ℕ). one_if (p == 1)) was_run.1) w))
      (λ w. omega (
        arith,
        in-moved g id v m vs s l.table at u n was_run.0 4 1 0 (other-phase waits_then n 4 word.phase refl refl) (ap (λ (p : ℕ). one_if (p == 4)) was_run.1) w,
        no-cond (u == w),
        runs-dropped u w v.runs r may.has refl,
      ))
      (λ w. omega (
        arith,
        (l.table own).done w,
        in-moved g id v m vs s l.table at u n was_run.0 5 0 0 (other-phase waits_then n 5 word.phase refl refl) (ap (λ (p : ℕ). one_if (p == 5)) was_run.1) w,
      ))
      (λ k h ne there was. record {
        classes = was.classes;
        run_classes = was.run_classes;
        numbers = λ j x there'. was.numbers j x there'
            ∙ ap number_of (sym (state-other m u n x.unit (λ e. omega (arith, nobody-else k h ne there, subst (λ (w : ℕ). 1 ≤ runs_at w h.runs) e (runs-counts h.runs x (j, there'))))));
        known = λ a k' e. let t = was.known a k' e in (words-still k h there a t.1 ∙ t.0, t.1);
      })
      (record {
        classes = mine.classes;
        run_classes = each-dropped _ (is_run_at u) v.runs mine.run_classes;
        numbers = λ j x there. let t = run-left x (j, there) in mine.numbers t.0.0 x t.0.1 ∙ ap number_of (sym (state-other m u n x.unit t.1));
        known = λ a k e. words-left a k (forgets u (block_units r.class) v.known a k e);
      }))
  again-table shaped = frames g vs id v at shaped s m' after_again refl (shaped-now g id v m vs s l.table at u n was_run.0 word.shape)
  again-table waits = moves g vs id v at waits s m' after_again
      (waits-placed g.plan states now waits_then false u d.number placing-again heads nexts (map (seen waits) vs) (l.table waits) id (seen waits v) (at_map (seen waits) vs id v at) opens list-again
      ((l.table waits).ends u was_run.0 was-open) done-apart)
  again-table sights = moves g vs id v at sights s m' after_again (each-set (IsKnown heads (λ w. m (task w)) now) (map (seen sights) vs) id (seen sights after_again) sights-now
      (kept-known heads (λ w. m (task w)) now (less v.futures taken) v.sights (λ k x there. (sights-now id (seen sights v) (at_map (seen sights) vs id v at) k x there).1)))
  again-table q = frames g vs id v at q s m' after_again refl (l.table q)
