-- The number of a made record is placed: the table's rule is kept.
use Rattle.std.proofs.Common.{◌≡◌, ◌≢◌, ◌∙◌, inl, ℕ, ◌+◌, ◌*◌, ◌<◌, ◌≤◌, ◌==◌, ◌&&◌, ◌||◌, Bool, true, false, cond, not, Some, List, [], map, length, refl, sym, ap, subst, true≢false, arith}
use Rattle.std.specs.Prelude.{slice_set, slice_index}
use Rattle.std.proofs.lemmas.Bool.{eqb-true, eq-eqb, ne_eqb}
use Rattle.record_core.specs.Sums.{total}
use Rattle.record_core.specs.Counting.{At, Has, one_if, times, dropped}
use Rattle.record_core.specs.Numbers.{by_number}
use Rattle.record_core.proofs.CountFacts.{total-dropped}
use Rattle.record_core.proofs.TotalFacts.{total-member, total-two_members}
use Rattle.kt_words.specs.Capacity.{block_units}
use Rattle.kt_words.specs.HeadWords.{closed_word, link_of, length_of}
use Rattle.kt_words.specs.StateWords.{phase_of, number_of}
use Rattle.kt_words.specs.SuperWords.{class_of}
use Rattle.task_meaning.specs.Worths.{Accepted}
use Rattle.frame_code.specs.Frames.{frame_length}
use Rattle.frame_code.specs.Names.{named}
use Rattle.table_core.specs.Addresses.{Addr, Mem, super, state, refs, head, next, task, root, frame, frame_in, put, units_of}
use Rattle.table_core.specs.Asking.{Drawn}
use Rattle.table_core.specs.Bounds.{IsBounded}
use Rattle.table_core.specs.Holdings.{Made, Run, Done, Sight, SawTask}
use Rattle.table_core.specs.Lists.{Each}
use Rattle.table_core.specs.Own.{Hands, any, made_at, is_own, is_word_of, is_result_of, known_in, record_words}
use Rattle.table_core.specs.Pool.{superblock_of, bit_in}
use Rattle.table_core.specs.RecordViews.{is_made_at}
use Rattle.table_core.specs.References.{is_record}
use Rattle.table_core.specs.Sights.{Knows, StillSo, IsKnown, SightsSound}
use Rattle.table_core.specs.Story.{Story, IsAccepted}
use Rattle.table_core.specs.Views.{saw}
use Rattle.table_core.specs.WaitLists.{Waits, chained, link_to, Follows, is_open, listed}
use Rattle.table_core.specs.Parts.{Part, pool, bounds, evers, references, fits, own, shaped, waits, sights, seen, Says}
use Rattle.table_core.specs.declared.setup.Setup.{Setup}
use Rattle.table_core.specs.declared.view.View.{View}
use Rattle.table_core.proofs.ListFacts.{at_map, map_at, each-set, each-cons, each-dropped, length-dropped-has}
use Rattle.table_core.proofs.OwnFacts.{IsHand, hands-from, hand-apart, own-moved, made-phase, runs-phase, done-phase, made-counts, runs-counts, done-counts}
use Rattle.table_core.proofs.PoolFacts.{pool-used}
use Rattle.table_core.proofs.RecordKinds.{no-cond, made-dropped, state-here, state-other, in-was, in-moved, shaped-now, words-kept}
use Rattle.table_core.proofs.RecordWords.{words-state, forgets, made-one, own-left}
use Rattle.table_core.proofs.Rule.{frames, moves}
use Rattle.table_core.proofs.SightFacts.{sighted, sights-written}
use Rattle.table_core.specs.Steps.{placing as placed_at}
use Rattle.schedule_rule.specs.Calls.{AtNumber, IsNumber}
use Rattle.schedule_rule.specs.Counts.{class_in}
use Rattle.schedule_rule.specs.Parts.{facts, classes, AllSay, seen as rule_seen}
use Rattle.schedule_rule.specs.PlacingViews.{kept_sights, is_drawn, futures_with, phase_placed, placed, logged, IsPlacedWord, MayPlace}
use Rattle.schedule_rule.proofs.ChangedFacts.{AreAs}
use Rattle.schedule_rule.proofs.DrawKinds.{drawn-numbers}
use Rattle.schedule_rule.proofs.PlacingFacts.{length-less, times-less, kept-known}
use Rattle.schedule_rule.proofs.PlacingFactsFrames.{named-same, control-same, first-fits}
use Rattle.schedule_rule.proofs.PlacingFactsRecords.{IsPlaced, used-same, was-record, now-record, referred-placed, fits-placed, waits-placed}

-- runs that differ in their frames, and in how many numbers they have to place
pub record IsRunPast (x y : Run) : Type 0 where
  pub unit : y.unit ≡ x.unit
  pub class : y.class ≡ x.class
  pub number : y.number ≡ x.number
  pub task : y.task ≡ x.task
  pub asked : y.asked ≡ x.asked

-- runs of which one may have a further frame, and the same units, numbers and tasks as before
pub record ArePast (runs runs' : List Run) : Type 1 where
  pub alike : AreAs IsRunPast runs runs'
  pub has : (x : Run) → Has x runs → (y : Run) × Has y runs' × IsRunPast x y

-- a word that says that a record waits or is ready says no other phase
pub other-phase : (waits : Bool) (n k : ℕ) → phase_of n ≡ phase_placed waits → (2 == k) ≡ false → (3 == k) ≡ false → one_if (phase_of n == k) ≡ 0
other-phase true n k e two three = ap (λ (p : ℕ). one_if (p == k)) e ∙ ap one_if two
other-phase false n k e two three = ap (λ (p : ℕ). one_if (p == k)) e ∙ ap one_if three

module _ (g : Setup) (id : ℕ) (v : View) (m : Mem) (vs : List View) (s : Story) (l : AllSay g s m vs) (at : At vs id v) (waits_then : Bool) (r : Made) (d : Drawn) (call : Accepted) (words : List ℕ)
    (may : MayPlace g.checked v waits_then r d call words) (runs : List Run) (past : ArePast v.runs runs)
    (runs_fit : Each (λ (x : Run). frame_length g.checked (slice_index x.words 0) ≤ 8 * block_units x.class) runs) (in_use : 1 ≤ v.parts) (n : ℕ) (word : IsPlacedWord waits_then d.number n) where
  abbrev u : ℕ
  u = r.unit

  abbrev states : ℕ → ℕ
  states w = m (state w)

  abbrev m' : Mem
  m' = put m (state u) n

  abbrev now : ℕ → ℕ
  now w = m' (state w)

  abbrev heads : ℕ → ℕ
  heads w = m (head w)

  abbrev nexts : ℕ → ℕ
  nexts w = m (next w)

  abbrev supers : ℕ → ℕ
  supers i = m (super i)

  abbrev owners : List Hands
  owners = map (seen own) vs

  abbrev taken : List ℕ
  taken = named g.checked (slice_index words)

  abbrev pub after_made : View
  after_made = saw (state u) (m (state u)) (logged (placed_at u n words) (placed waits_then u r.class d.number taken runs v))

  -- where the hand stands among all
  owner_at : At owners id (seen own v)
  owner_at = at_map (seen own) vs id v at

  -- the record was made, and is one of the table
  pub was_made : (u < units_of g.plan) × (phase_of (states u) ≡ 1)
  was_made = made-phase g.plan supers states (record_words m) owners (l.table own) id (seen own v) owner_at u (made-counts v.made r may.has)

  -- the state word says that it waits or is ready
  pub placing : IsPlaced g.plan states now waits_then true u d.number
  placing = record {
    near = was_made.0;
    was = was_made.1;
    phase = ap phase_of (state-here m u n) ∙ word.phase;
    number_is = ap number_of (state-here m u n) ∙ word.number_is;
    others = state-other m u n;
  }

  -- what is said of the hand alone
  mine : IsHand g.plan supers states (record_words m) (seen own v)
  mine = hands-from g.plan supers states (record_words m) owners (l.table own) id (seen own v) owner_at

  -- what is known of its words is so
  refs-two : m (refs u) ≡ 2
  refs-two = (mine.known (refs u) 2 may.references_known).0

  -- its list is open and empty
  head-zero : heads u ≡ 0
  head-zero = (mine.known (head u) 0 may.head_known).0

  -- its task word has the number
  pub task-is : m (task u) ≡ d.number
  task-is = (mine.known (task u) d.number may.task_known).0

  -- its block begins with the words that are known
  pub frame-is : (j : ℕ) → j < length words → frame_in m u j ≡ slice_index words j
  frame-is j low = (mine.known (frame u j) (slice_index words j) ((may.placeable).known j low)).0

  -- the number is an accepted one, with this call
  pub is_number : IsNumber s.calls d.number
  is_number = drawn-numbers g id v m vs s l at id v at ((may.placeable).drawn).0 d ((may.placeable).drawn).1

  -- the number has this call
  pub is_call : AtNumber s.calls d.number call
  is_call = l.schedule facts id v.facts (at_map (rule_seen facts) vs id v at) (may.accepted).0 (IsAccepted d.number call) (may.accepted).1

  -- the number is not 0
  pub some_number : r.number ≢ 0
  some_number none = omega (arith, is_number.0, sym may.numbered ∙ none)

  -- the class of its block is that of its call
  class-is : r.class ≡ class_of (supers (superblock_of g.plan u))
  class-is = mine.classes (may.has).0 r (may.has).1

  -- and that of its call
  class-of-call : r.class ≡ class_in g.checked (Some call)
  class-of-call = (l.schedule classes).made id v.made (at_map (rule_seen classes) vs id v at) (may.has).0 r (may.has).1 some_number
      ∙ ap (λ (k : ℕ). class_in g.checked (by_number s.calls k)) may.numbered ∙ ap (class_in g.checked) is_call

  -- the frame fits into its block
  short : frame_length g.checked (frame_in m u 0) ≤ 8 * block_units (class_of (supers (superblock_of g.plan u)))
  short = omega (
    arith,
    first-fits g.checked words (may.placeable).is_frame v call may.first,
    ap (frame_length g.checked) (control-same g.checked words (may.placeable).is_frame (frame_in m u) frame-is),
    ap (λ (c : ℕ). 8 * block_units c) (sym class-of-call ∙ class-is),
  )

  -- one hand has one record made there
  only-made : total (λ (h : Hands). made_at u h.made) owners ≡ 1
  only-made = (l.table own).made u ∙ in-was g id v m vs s l.table at u n was_made.0 1 ∙ ap (λ (p : ℕ). one_if (p == 1)) was_made.1

  -- so one record at most is made there in this hand
  pub made_few : made_at u v.made ≤ 1
  made_few = omega (arith, only-made, total-member (λ (h : Hands). made_at u h.made) owners id (seen own v) owner_at)

  -- no other hand has a made record there
  nobody-else : (k : ℕ) (h : Hands) → k ≢ id → At owners k h → made_at u h.made ≡ 0
  nobody-else k h ne there = omega (arith, only-made, made-counts v.made r may.has, total-two_members (λ (x : Hands). made_at u x.made) owners k id h (seen own v) ne there owner_at)

  -- no other record is made there
  pub only-one : (x : Made) → Has x v.made → x.unit ≡ u → x ≡ r
  only-one x there e = made-one u v.made made_few r x may.has refl there e

  -- a run is another record
  pub not-running : (x : Run) → Has x v.runs → x.unit ≢ u
  not-running x there e =
      let t = runs-phase g.plan supers states (record_words m) owners (l.table own) id (seen own v) owner_at x.unit (runs-counts v.runs x there) in
      omega (arith, t.1, was_made.1, ap (λ (w : ℕ). phase_of (states w)) e)

  -- the frame takes what it names
  named-there : (w : ℕ) → times w (named g.checked (frame_in m u)) ≡ times w taken
  named-there w = ap (times w) (named-same g.checked words (may.placeable).is_frame (frame_in m u) frame-is)

  -- what the frame names the hand has no more, and it has one reference to the record
  balance : (w : ℕ) → times w (futures_with u taken v.futures) + times w (named g.checked (frame_in m u)) ≡ times w v.futures + one_if (u == w)
  balance w = omega (arith, times-less w v.futures taken (may.placeable).held, named-there w)

  -- what was known of other words is so still, and they are own words
  words-left : (a : Addr) (k : ℕ) → (known_in a v.known ≡ Some k) × (is_word_of u (block_units r.class) a ≡ false) → (record_words m' a ≡ k) × (is_own (dropped (is_made_at u) v.made) runs a ≡ true)
  words-left a k t =
      let known = mine.known a k t.0 in (
        words-state m u n a (λ w e same. true≢false (sym (ap (is_word_of u (block_units r.class)) e ∙ eq-eqb w u same) ∙ t.1)) ∙ known.0,
        ap (λ (b : Bool). any (λ (x : Made). is_word_of x.unit (block_units x.class) a) (dropped (is_made_at u) v.made) || b)
            ((past.alike).tests (λ (x : Run). is_result_of x.unit (block_units x.class) a) (λ x y like. (λ i. is_result_of (like.unit i) (block_units (like.class i)) a)))
            ∙ own-left u r.class v.made v.runs (λ x there e. ap (λ (y : Made). y.class) (only-one x there e)) a known.1 t.1,
      )

  -- nobody referred to it
  nobody-refers : (k : ℕ) (x : Knows) → At (map (seen sights) vs) k x → (w : ℕ) → 1 ≤ times w x.futures → w ≢ u
  nobody-refers k x there w some e =
      true≢false (sym (sighted g m vs s l.table k x there w some).1 ∙ ap (λ (y : ℕ). is_record (states y)) e ∙ was-record g.plan states now waits_then true u d.number placing)

  -- what was seen of records is so still
  sights-now : SightsSound heads (λ w. m (task w)) now (map (seen sights) vs)
  sights-now = sights-written heads heads (λ w. m (task w)) (λ w. m (task w)) states now (map (seen sights) vs) (l.table sights)
      (λ k w x there some. record { later = inl refl; task_same = refl; done_same = λ is. state-other m u n w (nobody-refers k x there w some) })

  -- so is what the hand has seen, with the task of the record
  its-sights : IsKnown heads (λ w. m (task w)) now (seen sights after_made)
  its-sights = each-cons (λ (x : Sight). (1 ≤ times (Rattle.table_core.specs.Holdings.seen_at x) (futures_with u taken v.futures)) × StillSo heads (λ w. m (task w)) now x) (SawTask u d.number)
      (kept_sights (futures_with u taken v.futures) v.sights)
      (omega (arith, ap one_if (eq-eqb u u refl)), task-is)
      (kept-known heads (λ w. m (task w)) now (futures_with u taken v.futures) v.sights (λ k x there. (sights-now id (seen sights v) (at_map (seen sights) vs id v at) k x there).1))

  -- its list is open, and empty
  closed-not : not (0 == closed_word) ≡ true
  closed-not = refl

  -- its list is open afterwards
  opens : is_open now heads u ≡ true
  opens = ap (λ (b : Bool). b && not (heads u == closed_word)) (now-record g.plan states now waits_then true u d.number placing) ∙ ap (λ (h : ℕ). not (h == closed_word)) head-zero

  -- it had no list
  list-was : listed states heads nexts u ≡ []
  list-was = ap (λ (b : Bool). cond (b && not (heads u == closed_word)) (chained nexts (link_of (heads u)) (length_of (heads u))) []) (was-record g.plan states now waits_then true u d.number placing)

  -- its list has no member
  list-now : listed now heads nexts u ≡ []
  list-now = ap (λ (b : Bool). cond b (chained nexts (link_of (heads u)) (length_of (heads u))) []) opens ∙ ap (λ (h : ℕ). chained nexts (link_of h) (length_of h)) head-zero

  -- so its list is as it was
  pub list-same : listed now heads nexts u ≡ listed states heads nexts u
  list-same = list-now ∙ sym list-was

  -- a done record is another one
  done-apart : (k : ℕ) (x : Waits) → At (map (seen waits) vs) k x → Each (λ (y : Done). y.unit ≢ u) x.done
  done-apart k x there j y there' e =
      let t = map_at (seen waits) vs k x there in
      let p = done-phase g.plan supers states (record_words m) owners (l.table own) k (seen own t.0) (at_map (seen own) vs k t.0 t.1) y.unit
      (done-counts (t.0).done y (j, subst (λ (z : Waits). At z.done j y) (sym t.2) there')) in
      omega (arith, p.1, was_made.1, ap (λ (w : ℕ). phase_of (states w)) e)

  -- its list ends where its head says
  ends-so : Follows nexts (listed states heads nexts u) × (link_of (heads u) ≡ link_to (listed states heads nexts u))
  ends-so = (subst (Follows nexts) (sym list-was) tt, ap link_of head-zero ∙ ap link_to (sym list-was))

  -- how much the pass had
  was_bounded : IsBounded (seen bounds v)
  was_bounded = l.table bounds id (seen bounds v) (at_map (seen bounds) vs id v at)

  -- one number less is drawn
  drawn-shorter : length (dropped (is_drawn d.number) v.drawn) + 1 ≡ length v.drawn
  drawn-shorter = length-dropped-has (is_drawn d.number) v.drawn d (may.placeable).drawn (eq-eqb d.number d.number refl)

  -- it had a number
  unnumbered-same : total (λ (x : Made). cond (x.number == 0) 1 0) (dropped (is_made_at u) v.made) ≡ total (λ (x : Made). cond (x.number == 0) 1 0) v.made
  unnumbered-same = omega (
    arith,
    total-dropped (λ (x : Made). cond (x.number == 0) 1 0) (is_made_at u) 0 v.made
        (λ k x there here. ap (λ (y : Made). cond (y.number == 0) 1 0) (only-one x (k, there) (eqb-true x.unit u here)) ∙ ap (λ (b : Bool). cond b 1 0) (ne_eqb r.number 0 some_number))
        (record { member = r; there = may.has; passes = eq-eqb u u refl }),
  )

  -- each part of the table's rule is kept
  pub made-table : (q : Part) → Says g q s m' (map (seen q) (slice_set vs id after_made))
  made-table pool = frames g vs id v at pool s m' after_made refl
      (pool-used g.plan supers (bit_in m) states now (map (seen pool) vs) (l.table pool) (λ w. ap one_if (used-same g.plan states now waits_then true u d.number placing w)))
  made-table bounds = moves g vs id v at bounds s m' after_made (each-set IsBounded (map (seen bounds) vs) id (seen bounds after_made) (l.table bounds) (record {
    few = omega (arith, was_bounded.few, length-less v.futures taken, drawn-shorter);
    accepted = omega (arith, was_bounded.accepted, drawn-shorter);
    single = was_bounded.single;
    spent = λ none. absurd (omega (arith, none, in_use));
  }))
  made-table evers = frames g vs id v at evers s m' after_made (let e : seen evers v ≡ seen evers after_made = omega (arith, unnumbered-same) in e) (l.table evers)
  made-table references = moves g vs id v at references s m' after_made
      (referred-placed g.plan states now waits_then true u d.number placing g.checked (λ w. m (refs w)) (λ k. m (root k)) (frame_in m) (map (seen references) vs) id (seen references v) (seen references after_made)
      (at_map (seen references) vs id v at) (l.table references) refl refl balance (λ w. omega (arith, (may.placeable).held w, named-there w)) (λ e. refs-two))
  made-table fits = moves g vs id v at fits s m' after_made
      (fits-placed g.plan states now waits_then true u d.number placing g.checked supers (frame_in m) (map (seen fits) vs) (slice_set (map (seen fits) vs) id runs) (l.table fits) short
      (each-set _ (map (seen fits) vs) id runs (l.table fits).running runs_fit))
  made-table own = moves g vs id v at own s m' after_made
      (own-moved g.plan supers states now (record_words m) (record_words m') owners id (seen own v) (seen own after_made) owner_at (l.table own)
      (λ w. omega (
        arith,
        in-moved g id v m vs s l.table at u n was_made.0 1 1 0 (other-phase waits_then n 1 word.phase refl refl) (ap (λ (p : ℕ). one_if (p == 1)) was_made.1) w,
        no-cond (u == w),
        made-dropped u w v.made r may.has refl,
      ))
      (λ w. omega (
        arith,
        in-moved g id v m vs s l.table at u n was_made.0 4 0 0 (other-phase waits_then n 4 word.phase refl refl) (ap (λ (p : ℕ). one_if (p == 4)) was_made.1) w,
        (past.alike).sums (λ (x : Run). one_if (x.unit == w)) (λ x y like. ap (λ (k : ℕ). one_if (k == w)) like.unit),
      ))
      (λ w. omega (
        arith,
        (l.table own).done w,
        in-moved g id v m vs s l.table at u n was_made.0 5 0 0 (other-phase waits_then n 5 word.phase refl refl) (ap (λ (p : ℕ). one_if (p == 5)) was_made.1) w,
      ))
      (λ k h ne there was. hand-apart g.plan supers states now (record_words m) (record_words m') owners (l.table own) u (state-other m u n) k h there (λ e. omega (arith, e, was_made.1))
      (words-kept g id v m vs s l.table at u n was_made.0 k h there (nobody-else k h ne there)))
      (record {
        classes = each-dropped _ (is_made_at u) v.made mine.classes;
        run_classes = (past.alike).each (λ (x : Run). x.class ≡ class_of (supers (superblock_of g.plan x.unit)))
            (λ x y like is. like.class ∙ is ∙ ap (λ (w : ℕ). class_of (supers (superblock_of g.plan w))) (sym like.unit)) mine.run_classes;
        numbers = (past.alike).each (λ (x : Run). x.number ≡ number_of (now x.unit)) (λ x y like is. like.number ∙ is ∙ ap (λ (w : ℕ). number_of (now w)) (sym like.unit))
            (λ j x there. mine.numbers j x there ∙ ap number_of (sym (state-other m u n x.unit (not-running x (j, there)))));
        known = λ a k e. words-left a k (forgets u (block_units r.class) v.known a k e);
      }))
  made-table shaped = frames g vs id v at shaped s m' after_made refl (shaped-now g id v m vs s l.table at u n was_made.0 word.shape)
  made-table waits = moves g vs id v at waits s m' after_made
      (waits-placed g.plan states now waits_then true u d.number placing heads nexts (map (seen waits) vs) (l.table waits) id (seen waits v) (at_map (seen waits) vs id v at) opens list-same ends-so done-apart)
  made-table sights = moves g vs id v at sights s m' after_made (each-set (IsKnown heads (λ w. m (task w)) now) (map (seen sights) vs) id (seen sights after_made) sights-now its-sights)
  made-table q = frames g vs id v at q s m' after_made refl (l.table q)
