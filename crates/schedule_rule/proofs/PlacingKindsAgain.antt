-- The next number of a running record is placed: the scheduler's rule is kept.
use Rattle.std.proofs.Common.{◌≡◌, ◌≢◌, ◌∙◌, inl, inr, ℕ, ◌+◌, ◌<◌, ◌≤◌, ◌==◌, Bool, true, false, List, map, refl, sym, ap, subst, arith}
use Rattle.std.specs.Prelude.{slice_get, slice_set, slice_index, IfSome}
use Rattle.std.proofs.lemmas.Bool.{eqb-true, eq-eqb, ne_eqb}
use Rattle.record_core.specs.Counting.{At, Has, one_if, passing, dropped}
use Rattle.record_core.specs.Numbers.{by_number}
use Rattle.record_core.proofs.CountFacts.{total-dropped}
use Rattle.record_core.proofs.TotalFacts.{total-set}
use Rattle.kt_words.specs.StateWords.{phase_of, number_of}
use Rattle.kt_words.specs.SuperWords.{class_of}
use Rattle.frame_code.specs.Words.{body_at}
use Rattle.table_core.specs.Addresses.{Mem, super, state, head, next, task, outcome, frame_in, put, units_of}
use Rattle.table_core.specs.Asking.{Drawn, Asker, OfRoot, OfTask, Answer}
use Rattle.table_core.specs.Holdings.{Made, Run}
use Rattle.table_core.specs.Own.{record_words}
use Rattle.table_core.specs.Pool.{superblock_of}
use Rattle.table_core.specs.References.{is_saved, is_record}
use Rattle.table_core.specs.Story.{Story}
use Rattle.table_core.specs.WaitLists.{listed}
use Rattle.table_core.specs.WaitViews.{is_run_at}
use Rattle.table_core.specs.Parts.{own, seen as table_seen}
use Rattle.table_core.specs.declared.setup.Setup.{Setup}
use Rattle.table_core.specs.declared.view.View.{View}
use Rattle.table_core.proofs.ListFacts.{at_map, each-set, each-dropped, total-has, same_some}
use Rattle.table_core.proofs.OwnFacts.{made-phase, made-counts}
use Rattle.table_core.proofs.RecordKinds.{state-other}
use Rattle.schedule_rule.specs.Askers.{asks_for, IsAsker, IsForRecord, IsNextOf, AskedSound}
use Rattle.schedule_rule.specs.Calls.{task_of, after_of, begun as begun_before, IsNumber, IsTaskOf, IsLast, IsComplete}
use Rattle.schedule_rule.specs.Counts.{class_in}
use Rattle.schedule_rule.specs.Frames.{HoldsNames, IsFrameOf, IsFormed, BagSound}
use Rattle.schedule_rule.specs.Numbers.{in_hand, in_hands, IsRun}
use Rattle.schedule_rule.specs.Limits.{ToldSound, is_limit, IsMet}
use Rattle.schedule_rule.proofs.LimitFacts.{each-answers_left}
use Rattle.schedule_rule.specs.Parts.{Part, rowed, places, askers, framed, formed, owners, results, running, live, classes, behind, begun, bags, seen, Says, AllSay, limits}
use Rattle.schedule_rule.specs.PlacingLaws.{PlaceAgainKeeps}
use Rattle.schedule_rule.specs.PlacingViews.{is_drawn, IsPlacedWord, MayPlaceAgain}
use Rattle.schedule_rule.specs.Rows.{RowedSound}
use Rattle.schedule_rule.proofs.AskingFacts.{is_run, one-run}
use Rattle.schedule_rule.proofs.DrawKinds.{drawn-numbers}
use Rattle.schedule_rule.proofs.FrameFacts.{frame-words}
use Rattle.schedule_rule.proofs.FrontFacts.{holds-same}
use Rattle.schedule_rule.proofs.PlacingFactsFrames.{next-frame, reads-same, formed-same}
use Rattle.schedule_rule.proofs.PlacingFactsRecords.{lists-placed, IsPlaced, by-unit, waits-other, in-state-more, saved-more, done-same, live-more, results-placed, begun-placed}
use Rattle.schedule_rule.proofs.PlacingKindsAgainTable.{after_again, was_run, placing-again, frame-again, only-run, run-left, list-again, again-table}
use Rattle.schedule_rule.proofs.PlacingFactsDrawn.{may-begin, one-drawn, drawn-left, drawn-loses, row-left, first-none, asks-less}
use Rattle.schedule_rule.proofs.RecordKinds.{has-left, listed-waits, chained-waits}
use Rattle.schedule_rule.proofs.Rule.{frames, moves, same-story}

module _ (g : Setup) (id : ℕ) (v : View) (m : Mem) (vs : List View) (s : Story) (l : AllSay g s m vs) (at : At vs id v) (waits_then : Bool) (r : Run) (d : Drawn) (words : List ℕ)
    (may : MayPlaceAgain g.checked v waits_then r d words) (in_use : 1 ≤ v.parts) (n : ℕ) (word : IsPlacedWord waits_then d.number n)
    (covers : BagSound g.checked (seen bags (after_again g id v m vs s l at waits_then r d words may in_use n word))) where
  abbrev u : ℕ
  u = r.unit

  abbrev states : ℕ → ℕ
  states w = m (state w)

  abbrev tasks : ℕ → ℕ
  tasks w = m (task w)

  abbrev m' : Mem
  m' = put m (state u) n

  abbrev now : ℕ → ℕ
  now w = m' (state w)

  abbrev drawn : List Drawn
  drawn = dropped (is_drawn d.number) v.drawn

  abbrev runs : List Run
  runs = dropped (is_run_at u) v.runs

  abbrev after : View
  after = after_again g id v m vs s l at waits_then r d words may in_use n word

  -- the record ran, and is one of the table
  there : (u < units_of g.plan) × (phase_of (states u) ≡ 4)
  there = was_run g id v m vs s l at waits_then r d words may in_use n word

  -- its state word says that it waits or is ready
  placed_is : IsPlaced g.plan states now waits_then false u d.number
  placed_is = placing-again g id v m vs s l at waits_then r d words may in_use n word

  -- no other run is there
  only : (x : Run) → Has x v.runs → x.unit ≡ u → x ≡ r
  only = only-run g id v m vs s l at waits_then r d words may in_use n word

  -- a run that is left is another record
  left : (x : Run) → Has x runs → Has x v.runs × (x.unit ≢ u)
  left = run-left g id v m vs s l at waits_then r d words may in_use n word

  -- other state words stay
  others : (w : ℕ) → w ≢ u → now w ≡ states w
  others = state-other m u n

  -- its state word has the drawn number
  number-here : number_of (now u) ≡ d.number
  number-here = placed_is.number_is

  -- the number is drawn in this hand
  has_drawn : Has d v.drawn
  has_drawn = (may.placeable).drawn

  -- for whom the hand's numbers were drawn
  was_asked : AskedSound s.calls g.plan (seen askers v)
  was_asked = l.schedule askers id (seen askers v) (at_map (seen askers) vs id v at)

  -- what is said of the run
  of_run : IsRun g.plan s.calls r
  of_run = is_run g id v m vs s l at r may.has

  -- a made record is another one
  not-made : (x : Made) → Has x v.made → x.unit ≢ u
  not-made x has e =
      let t = made-phase g.plan (λ i. m (super i)) states (record_words m) (map (table_seen own) vs) (l.table own) id (table_seen own v) (at_map (table_seen own) vs id v at) x.unit (made-counts v.made x has) in
      omega (arith, t.1, there.1, ap (λ (w : ℕ). phase_of (states w)) e)

  -- the number is the next one of the run's task
  next-of : IsNextOf s.calls d r
  next-of = elim (was_asked.asker has_drawn.0 d has_drawn.1).1 [
    | inl t ↦ absurd (not-made t.0 t.1 (t.2.unit ∙ may.its))
    | inr t ↦ subst (IsNextOf s.calls d) (only t.0 t.1 (t.2.unit ∙ may.its)) t.2
  ]

  abbrev t : ℕ
  t = task_of s.calls r.number

  -- the number is an accepted one
  is_number_there : IsNumber s.calls d.number
  is_number_there = drawn-numbers g id v m vs s l at id v at has_drawn.0 d has_drawn.1

  -- the run has the number of its state word
  its_number : r.number ≡ number_of (states u)
  its_number = (l.table own).numbers id (table_seen own v) (at_map (table_seen own) vs id v at) (may.has).0 r (may.has).1

  -- it was a record
  was_record : is_record (states u) ≡ true
  was_record = Rattle.schedule_rule.proofs.PlacingFactsRecords.was-record g.plan states now waits_then false u d.number placed_is

  -- its task word has the task of the run
  task-there : tasks u ≡ t
  task-there = ((l.schedule owners).is_of u there.0 was_record).1 ∙ ap (task_of s.calls) (sym its_number)

  -- it is no task's first number
  not-first : (k : ℕ) → IsTaskOf s.calls k → d.number ≢ k
  not-first k is e =
      let first : task_of s.calls d.number ≡ d.number = subst (λ (x : ℕ). task_of s.calls x ≡ x) (sym e) is.1 in
      omega (arith, (next-of).next, ap (λ (x : ℕ). begun_before s.calls x d.number) (sym (next-of).task ∙ first), first-none g id v m vs s l at d.number (is_number_there, first))

  -- its frame is of its task's call
  framed-there : IsFrameOf g.checked s.calls tasks d.number (body_at g.checked (frame_in m u))
  framed-there = frame-words g.checked s.calls tasks d.number (slice_index words) (frame_in m u)
      (reads-same g.checked words (may.placeable).is_frame (frame_in m u) (frame-again g id v m vs s l at waits_then r d words may in_use n word))
      (next-frame g.checked s.calls tasks r.number d.number (body_at g.checked (slice_index r.words)) (body_at g.checked (slice_index words)) may.next (next-of).task (next-of).next
      ((l.schedule framed).running id v.runs (at_map (seen framed) vs id v at) (may.has).0 r (may.has).1))

  -- no other number is drawn by an act of the run
  none-asks : (y : Drawn) → Has y drawn → y.asker ≡ OfTask t → ⊥
  none-asks y has by_it = omega (
    arith,
    was_asked.unplaced (may.has).0 r (may.has).1,
    may.last,
    asks-less g id v m vs s l at d has_drawn t,
    ap (asks_for t) (next-of).asker,
    total-has (λ (z : Drawn). asks_for t z.asker) drawn y has,
    ap (asks_for t) by_it,
    ap one_if (eq-eqb t t refl),
  )

  -- a run by whose act another number is drawn is left
  asks-still : (y : Drawn) → Has y drawn → (x : Run) → Has x v.runs → y.asker ≡ OfTask (task_of s.calls x.number) → Has x runs
  asks-still y has x has' by_it =
      has-left (is_run_at u) v.runs x (ne_eqb x.unit u (λ e. none-asks y has (by_it ∙ ap (λ (z : Run). OfTask (task_of s.calls z.number)) (only x has' e)))) has'

  -- who asked for another number is there still
  asker-still : (y : Drawn) → Has y drawn → (a : Asker) → y.asker ≡ a → IsAsker s.calls g.plan (seen askers v) y.number a → IsAsker s.calls g.plan (seen askers after) y.number a
  asker-still y has (OfRoot k) same is = is
  asker-still y has (OfTask k) same is = (is.0, asks-still y has is.0 is.1 (same ∙ ap OfTask (sym is.2)), is.2)

  -- the record of another number is there still
  record-still : (y : Drawn) → Has y drawn → IsForRecord s.calls (seen askers v) y → IsForRecord s.calls (seen askers after) y
  record-still y has (inl is) = inl is
  record-still y has (inr is) = inr (is.0, asks-still y has is.0 is.1 is.2.asker, is.2)

  -- so all is said of the hand's numbers
  asked-now : AskedSound s.calls g.plan (seen askers after)
  asked-now = record {
    asker = λ k y has. let was = was_asked.asker (drawn-left g id v m vs s l at d y (k, has)).0.0 y (drawn-left g id v m vs s l at d y (k, has)).0.1 in
        (asker-still y (k, has) y.asker refl was.0, record-still y (k, has) was.1);
    made = λ k x has some. let was = was_asked.made k x has some in
        (was.0, has-left (is_drawn d.number) v.drawn was.0 (ne_eqb (was.0).number d.number (λ e. apart x (k, has) was.0 was.1 was.2 e)) was.1, was.2, was.3);
    unplaced = λ k x has. let was = left x (k, has) in omega (
      arith,
      was_asked.unplaced was.0.0 x was.0.1,
      asks-less g id v m vs s l at d has_drawn (task_of s.calls x.number),
      ap (asks_for (task_of s.calls x.number)) (next-of).asker,
      ap one_if (ne_eqb t (task_of s.calls x.number) (λ e. other-task x was.0 was.1 (sym e))),
    );
    one = λ k x has. let was = left x (k, has) in was_asked.one was.0.0 x was.0.1;
    asked = λ k x has e. let was = left x (k, has) in let its = was_asked.asked was.0.0 x was.0.1 e in (
      its.0,
      has-left (is_drawn d.number) v.drawn its.0 (ne_eqb (its.0).number d.number (λ same. other-task x was.0 was.1 (sym its.2.task ∙ ap (task_of s.calls) same ∙ (next-of).task))) its.1,
      its.2,
    );
  }
    where
      apart : (x : Made) → Has x v.made → (y : Drawn) → Has y v.drawn → y.unit ≡ x.unit → y.number ≡ d.number → ⊥
      apart x has y has' unit e = not-made x has (sym unit ∙ ap (λ (z : Drawn). z.unit) (one-drawn g id v m vs s l at d y has_drawn has' e) ∙ may.its)

      other-task : (x : Run) → Has x v.runs → x.unit ≢ u → task_of s.calls x.number ≡ t → ⊥
      other-task x has ne same =
          let one = one-run g id v m vs s l at r may.has id v at has.0 x has.1 same in
          ne (ap (λ (z : Run). z.unit) (same_some x r (sym has.1 ∙ ap (slice_get v.runs) one.1 ∙ (may.has).1)))

  -- one run less is of its task
  runs-less : (k : ℕ) → passing (λ (x : Run). task_of s.calls x.number == k) runs + one_if (t == k) ≡ passing (λ (x : Run). task_of s.calls x.number == k) v.runs
  runs-less k = total-dropped (λ (x : Run). one_if (task_of s.calls x.number == k)) (is_run_at u) (one_if (t == k)) v.runs
      (λ j x has here. ap (λ (y : Run). one_if (task_of s.calls y.number == k)) (only x (j, has) (eqb-true x.unit u here))) (record { member = r; there = may.has; passes = eq-eqb u u refl })

  -- what is said of saved records or of records is so by unit
  by : (P : ℕ → ℕ → Type 0) (test : ℕ → Bool) → P u (now u) → ((w : ℕ) → w < units_of g.plan → test (states w) ≡ true → P w (states w)) → (w : ℕ) → w < units_of g.plan → test (now w) ≡ true → P w (now w)
  by = by-unit g.plan states now waits_then false u d.number placed_is

  -- what waits is another record
  other : (w : ℕ) → is_saved (states w) ≡ true → w ≢ u
  other = waits-other g.plan states now waits_then false u d.number placed_is

  -- all lists have the members that they had
  listed-now : (w : ℕ) → listed now (λ x. m (head x)) (λ x. m (next x)) w ≡ listed states (λ x. m (head x)) (λ x. m (next x)) w
  listed-now = lists-placed g.plan states now waits_then false u d.number placed_is (λ x. m (head x)) (λ x. m (next x)) (list-again g id v m vs s l at waits_then r d words may in_use n word)

  -- each part of the scheduler's rule is kept
  again-says : (q : Part) → Says g q s m' (map (seen q) (slice_set vs id after))
  again-says rowed = moves g vs id v at rowed s m' after (each-set RowedSound (map (seen rowed) vs) id (seen rowed after) (l.schedule rowed)
      (let was = l.schedule rowed id (seen rowed v) (at_map (seen rowed) vs id v at) in record {
        task = λ k. row-left g id v m vs s l at d has_drawn k v.no_task (may.placeable).task_row (was.task k);
        after = λ k. row-left g id v m vs s l at d has_drawn k v.no_after (may.placeable).after_row (was.after k);
        runs = each-dropped _ (is_run_at u) v.runs was.runs;
      }))
  again-says places = moves g vs id v at places s m' after
      (λ k. omega (
        arith,
        l.schedule places k,
        in-state-more g.plan states now waits_then false u d.number placed_is k,
        total-set (in_hand k) (map (seen places) vs) id (seen places v) (seen places after) (at_map (seen places) vs id v at),
        drawn-loses g id v m vs s l at d has_drawn k,
      ))
  again-says askers = moves g vs id v at askers s m' after (each-set (AskedSound s.calls g.plan) (map (seen askers) vs) id (seen askers after) (l.schedule askers) asked-now)
  again-says framed = moves g vs id v at framed s m' after (record {
    saved = by (λ w x. IsFrameOf g.checked s.calls tasks (number_of x) (body_at g.checked (frame_in m w))) is_saved
        (subst (λ (k : ℕ). IsFrameOf g.checked s.calls tasks k (body_at g.checked (frame_in m u))) (sym number-here) framed-there) (l.schedule framed).saved;
    names = by (λ w x. HoldsNames g.checked (body_at g.checked (frame_in m w))) is_saved
        (holds-same g.checked (slice_index words) (frame_in m u) (reads-same g.checked words (may.placeable).is_frame (frame_in m u) (frame-again g id v m vs s l at waits_then r d words may in_use n word)) (may.placeable).names)
        (l.schedule framed).names;
    running = each-set _ (map (seen framed) vs) id runs (l.schedule framed).running (each-dropped _ (is_run_at u) v.runs ((l.schedule framed).running id v.runs (at_map (seen framed) vs id v at)));
  })
  again-says formed = moves g vs id v at formed s m' after (record {
    saved = by (λ w x. IsFormed g.checked (frame_in m w)) is_saved
        (formed-same g.checked words (may.placeable).is_frame (frame_in m u) (frame-again g id v m vs s l at waits_then r d words may in_use n word)) (l.schedule formed).saved;
    running = each-set _ (map (seen formed) vs) id runs (l.schedule formed).running (each-dropped _ (is_run_at u) v.runs ((l.schedule formed).running id v.runs (at_map (seen formed) vs id v at)));
  })
  again-says owners = moves g vs id v at owners s m' after (record {
    is_of = by (λ w x. IsNumber s.calls (number_of x) × (tasks w ≡ task_of s.calls (number_of x))) is_record
        (subst (λ (k : ℕ). IsNumber s.calls k × (tasks u ≡ task_of s.calls k)) (sym number-here) (is_number_there, task-there ∙ sym (next-of).task)) (l.schedule owners).is_of;
    once = λ k is. omega (
      arith,
      (l.schedule owners).once k is,
      saved-more g.plan states now waits_then false u d.number placed_is tasks k,
      ap (λ (x : ℕ). one_if (x == k)) task-there,
      total-set (in_hands s.calls k) (map (seen owners) vs) id (seen owners v) (seen owners after) (at_map (seen owners) vs id v at),
      drawn-loses g id v m vs s l at d has_drawn k,
      ap one_if (ne_eqb d.number k (not-first k is)),
      runs-less k,
    );
    done = λ k. omega (arith, (l.schedule owners).done k, done-same g.plan states now waits_then false u d.number placed_is tasks k);
    ended = (l.schedule owners).ended;
    last_saved = by (λ w x. IsLast s.calls (number_of x)) is_saved
        (subst (IsLast s.calls) (sym number-here) ((l.schedule owners).last_drawn id (seen owners v) (at_map (seen owners) vs id v at) has_drawn.0 d has_drawn.1)) (l.schedule owners).last_saved;
    last_drawn = each-set _ (map (seen owners) vs) id (seen owners after) (l.schedule owners).last_drawn
        (each-dropped _ (is_drawn d.number) v.drawn ((l.schedule owners).last_drawn id (seen owners v) (at_map (seen owners) vs id v at)));
  })
  again-says results = frames g vs id v at results s m' after refl (results-placed g.plan states now waits_then false u d.number placed_is s.ends tasks (λ w. m (outcome w)) (l.schedule results))
  again-says running = moves g vs id v at running s m' after
      (each-set _ (map (seen running) vs) id runs (l.schedule running) (each-dropped _ (is_run_at u) v.runs (l.schedule running id v.runs (at_map (seen running) vs id v at))))
  again-says limits = moves g vs id v at limits s m' after
      (let was : ToldSound g.plan.limit s.calls (seen limits v) = (l.schedule limits).told id (seen limits v) (at_map (seen limits) vs id v at) in
      record {
        told = each-set (ToldSound g.plan.limit s.calls) (map (seen limits) vs) id (seen limits after) (l.schedule limits).told (record { answers = each-answers_left (λ (a : Answer). is_limit a.refusal ≡ true → IsMet g.plan.limit s.calls) r.task v.answers was.answers; roots = was.roots });
        ended = (l.schedule limits).ended;
      })
  again-says live = frames g vs id v at live s m' after refl (omega (arith, l.schedule live, live-more g.plan states now waits_then false u d.number placed_is))
  again-says classes = frames g vs id v at classes s m' after refl (record {
    records = by (λ w x. class_of (m (super (superblock_of g.plan w))) ≡ class_in g.checked (by_number s.calls (task_of s.calls (number_of x)))) is_record
        ((l.schedule classes).records u there.0 was_record
        ∙ ap (λ (k : ℕ). class_in g.checked (by_number s.calls k)) (ap (task_of s.calls) (sym its_number) ∙ sym (next-of).task ∙ ap (task_of s.calls) (sym number-here)))
        (l.schedule classes).records;
    made = (l.schedule classes).made;
  })
  again-says behind = frames g vs id v at behind s m' after refl (record {
    listed_behind = λ k w low has. let was = subst (λ (x : List ℕ). Has w x) (listed-now k) has in
        ap (λ (x : ℕ). after_of s.calls (number_of x)) (others w (other w (listed-waits g id v m vs s l at k w low was))) ∙ (l.schedule behind).listed_behind k w low was;
    chained_behind = λ k chains at' j chain at'' i w has.
        subst (λ (x : ℕ). IfSome (after_of s.calls (number_of x)) (IsComplete s.ends)) (sym (others w (other w (chained-waits g id v m vs s l at k chains j chain i w at' at'' has))))
        ((l.schedule behind).chained_behind k chains at' j chain at'' i w has);
  })
  again-says begun = frames g vs id v at begun s m' after refl
      (begun-placed g.plan states now waits_then false u d.number placed_is s.calls s.ends (may-begin g id v m vs s l at d.number waits_then may.starts) (l.schedule begun))
  again-says bags = moves g vs id v at bags s m' after (each-set (BagSound g.checked) (map (seen bags) vs) id (seen bags after) (l.schedule bags) covers)
  again-says q = frames g vs id v at q s m' after refl (l.schedule q)

  -- all parts of both rules
  pub again-placed : AllSay g s m' (slice_set vs id after)
  again-placed = record { table = again-table g id v m vs s l at waits_then r d words may in_use n word; schedule = again-says }

module _ (g : Setup) (id : ℕ) (v : View) where
  -- the number that a run drew for its next activation is placed
  pub places-again-at : PlaceAgainKeeps g id v
  places-again-at waits r d words may covers in_use word parked m vs s l at small = (
    _,
    (s, same-story s, again-placed g id v m vs s l at waits r d words may in_use word parked (covers (l.schedule bags id (seen bags v) (at_map (seen bags) vs id v at)))),
    (m (state r.unit), refl),
    (refl, refl, inr (r.unit, words, refl, refl)),
  )
