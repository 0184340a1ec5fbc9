-- The number of a made record is placed: the scheduler's rule is kept.
use Rattle.std.proofs.Common.{◌≡◌, ◌≢◌, ◌∙◌, inl, inr, ℕ, ◌+◌, ◌*◌, ◌<◌, ◌≤◌, ◌==◌, Bool, true, false, List, map, refl, sym, ap, subst, true≢false, arith}
use Rattle.std.specs.Prelude.{slice_set, slice_index, IfSome}
use Rattle.std.proofs.lemmas.Bool.{eqb-true, eq-eqb, ne_eqb}
use Rattle.record_core.specs.Sums.{total}
use Rattle.record_core.specs.Counting.{At, Has, one_if, times, dropped}
use Rattle.record_core.specs.Numbers.{by_number}
use Rattle.record_core.proofs.CountFacts.{total-dropped}
use Rattle.record_core.proofs.TotalFacts.{total-set}
use Rattle.kt_words.specs.Capacity.{block_units}
use Rattle.kt_words.specs.StateWords.{phase_of, number_of}
use Rattle.kt_words.specs.SuperWords.{class_of}
use Rattle.task_meaning.specs.Worths.{Accepted}
use Rattle.frame_code.specs.Frames.{frame_length}
use Rattle.frame_code.specs.Words.{body_at}
use Rattle.table_core.specs.Addresses.{Mem, super, state, head, next, task, outcome, frame_in, put, units_of}
use Rattle.table_core.specs.Asking.{Drawn, Asker, OfRoot, OfTask}
use Rattle.table_core.specs.Holdings.{Made, Run}
use Rattle.table_core.specs.Lists.{Each}
use Rattle.table_core.specs.Pool.{superblock_of}
use Rattle.table_core.specs.RecordViews.{is_made_at}
use Rattle.table_core.specs.References.{is_saved, is_record}
use Rattle.table_core.specs.Story.{Story}
use Rattle.table_core.specs.WaitLists.{listed}
use Rattle.table_core.specs.Parts.{own, seen as table_seen}
use Rattle.table_core.specs.declared.setup.Setup.{Setup}
use Rattle.table_core.specs.declared.view.View.{View}
use Rattle.table_core.proofs.ListFacts.{at_map, each-set, each-dropped}
use Rattle.table_core.proofs.RecordKinds.{state-other}
use Rattle.schedule_rule.specs.Askers.{asks_for, IsAsker, IsNextOf, HasNext, IsForRecord, AskedSound}
use Rattle.schedule_rule.specs.Calls.{task_of, after_of, begun as begun_before, IsNumber, IsTaskOf, IsLast, IsComplete}
use Rattle.schedule_rule.specs.Counts.{lives_in, class_in, CountedSound}
use Rattle.schedule_rule.specs.Frames.{HoldsNames, IsFrameOf, IsFormed, BagSound}
use Rattle.schedule_rule.specs.Numbers.{in_hand, in_hands, IsRun}
use Rattle.schedule_rule.specs.Parts.{Part, rowed, places, askers, framed, formed, owners, results, running, live, classes, behind, begun, bags, seen, Says, AllSay, counted_lives}
use Rattle.schedule_rule.specs.PlacingViews.{is_drawn, IsPlacedWord, MayPlace}
use Rattle.schedule_rule.specs.Rows.{RowedSound}
use Rattle.schedule_rule.proofs.KnownFacts.{seen-task}
use Rattle.schedule_rule.proofs.PlacingFacts.{dropped-other}
use Rattle.schedule_rule.proofs.PlacingFactsDrawn.{may-begin, one-drawn, drawn-left, drawn-loses, row-left, first-none, asks-less}
use Rattle.schedule_rule.proofs.FrontFacts.{holds-same}
use Rattle.schedule_rule.proofs.PlacingFactsFrames.{first-frame, reads-same, formed-same}
use Rattle.schedule_rule.proofs.PlacingFactsRecords.{lists-placed, IsPlaced, by-unit, waits-other, in-state-more, saved-more, done-same, live-more, results-placed, begun-placed}
use Rattle.schedule_rule.proofs.PlacingKindsMadeTable.{ArePast, IsRunPast, after_made, was_made, placing, task-is, frame-is, is_call, some_number, made_few, only-one, not-running, list-same, made-table}
use Rattle.schedule_rule.proofs.FrameFacts.{frame-words}
use Rattle.schedule_rule.proofs.RecordKinds.{has-left, listed-waits, chained-waits}
use Rattle.schedule_rule.proofs.Rule.{frames, moves}
use Rattle.schedule_rule.proofs.DrawKinds.{drawn-numbers}

module _ (g : Setup) (id : ℕ) (v : View) (m : Mem) (vs : List View) (s : Story) (l : AllSay g s m vs) (at : At vs id v) (waits_then : Bool) (r : Made) (d : Drawn) (call : Accepted) (words : List ℕ)
    (may : MayPlace g.checked v waits_then r d call words) (runs : List Run) (past : ArePast v.runs runs)
    (runs_fit : Each (λ (x : Run). frame_length g.checked (slice_index x.words 0) ≤ 8 * block_units x.class) runs) (in_use : 1 ≤ v.parts) (n : ℕ) (word : IsPlacedWord waits_then d.number n)
    (runs_framed : Each (λ (x : Run). IsFrameOf g.checked s.calls (λ w. m (task w)) x.number (body_at g.checked (slice_index x.words))) runs)
    (runs_formed : Each (λ (x : Run). IsFormed g.checked (slice_index x.words)) runs)
    (runs_unplaced : Each (λ (x : Run). x.unplaced ≡ total (λ (y : Drawn). asks_for (task_of s.calls x.number) y.asker) (dropped (is_drawn d.number) v.drawn)) runs)
    (covers : BagSound g.checked (seen bags (after_made g id v m vs s l at waits_then r d call words may runs past runs_fit in_use n word))) where
  abbrev u : ℕ
  u = r.unit

  abbrev states : ℕ → ℕ
  states w = m (state w)

  abbrev tasks : ℕ → ℕ
  tasks w = m (task w)

  abbrev m' : Mem
  m' = put m (state u) n

  abbrev now : ℕ → ℕ
  now w = m' (state w)

  abbrev drawn : List Drawn
  drawn = dropped (is_drawn d.number) v.drawn

  abbrev after : View
  after = after_made g id v m vs s l at waits_then r d call words may runs past runs_fit in_use n word

  -- the record was made, and is one of the table
  there : (u < units_of g.plan) × (phase_of (states u) ≡ 1)
  there = was_made g id v m vs s l at waits_then r d call words may runs past runs_fit in_use n word

  -- its state word says that it waits or is ready
  placed_is : IsPlaced g.plan states now waits_then true u d.number
  placed_is = placing g id v m vs s l at waits_then r d call words may runs past runs_fit in_use n word

  -- no other made record is there
  only : (x : Made) → Has x v.made → x.unit ≡ u → x ≡ r
  only = only-one g id v m vs s l at waits_then r d call words may runs past runs_fit in_use n word

  -- other state words stay
  others : (w : ℕ) → w ≢ u → now w ≡ states w
  others = state-other m u n

  -- its state word has the drawn number
  number-here : number_of (now u) ≡ d.number
  number-here = placed_is.number_is

  -- the number is drawn in this hand
  has_drawn : Has d v.drawn
  has_drawn = (may.placeable).drawn

  -- for whom the hand's numbers were drawn
  was_asked : AskedSound s.calls g.plan (seen askers v)
  was_asked = l.schedule askers id (seen askers v) (at_map (seen askers) vs id v at)

  -- the number is for this record, and is its task's first
  unit-is : d.unit ≡ u
  unit-is =
      let t = was_asked.made (may.has).0 r (may.has).1 (some_number g id v m vs s l at waits_then r d call words may runs past runs_fit in_use n word) in
      ap (λ (x : Drawn). x.unit) (sym (one-drawn g id v m vs s l at d t.0 has_drawn t.1 (t.3 ∙ may.numbered))) ∙ t.2

  -- the number is its own task
  is-first : task_of s.calls d.number ≡ d.number
  is-first = elim (was_asked.asker has_drawn.0 d has_drawn.1).1 [
    | inl t ↦ t.2.task
    | inr t ↦ absurd (not-running g id v m vs s l at waits_then r d call words may runs past runs_fit in_use n word t.0 t.1 (t.2.unit ∙ unit-is))
  ]

  -- it is an accepted one
  is_number_there : IsNumber s.calls d.number
  is_number_there = drawn-numbers g id v m vs s l at id v at has_drawn.0 d has_drawn.1

  -- so it is a task
  is_task : IsTaskOf s.calls d.number
  is_task = (is_number_there, is-first)

  -- the task word has it
  task-there : tasks u ≡ d.number
  task-there = task-is g id v m vs s l at waits_then r d call words may runs past runs_fit in_use n word

  -- the frame of the record is of its call
  framed-there : IsFrameOf g.checked s.calls tasks d.number (body_at g.checked (frame_in m u))
  framed-there = frame-words g.checked s.calls tasks d.number (slice_index words) (frame_in m u)
      (reads-same g.checked words (may.placeable).is_frame (frame_in m u) (frame-is g id v m vs s l at waits_then r d call words may runs past runs_fit in_use n word))
      (first-frame v tasks (λ w t has. (seen-task g id v m vs s l at w t has).1) g.checked s.calls d.number call (body_at g.checked (slice_index words)) may.first
      (is_call g id v m vs s l at waits_then r d call words may runs past runs_fit in_use n word) is-first (first-none g id v m vs s l at d.number is_task))

  -- one made record less is counted in
  lives-less : total (λ (x : Made). one_if x.live) (dropped (is_made_at u) v.made) + 1 ≡ total (λ (x : Made). one_if x.live) v.made
  lives-less = total-dropped (λ (x : Made). one_if x.live) (is_made_at u) 1 v.made
      (λ k x here is. ap one_if (ap (λ (z : Made). z.live) (only x (k, here) (eqb-true x.unit u is)) ∙ may.counted)) (record { member = r; there = may.has; passes = eq-eqb u u refl })

  abbrev by : (P : ℕ → ℕ → Type 0) (test : ℕ → Bool) → P u (now u) → ((w : ℕ) → w < units_of g.plan → test (states w) ≡ true → P w (states w)) → (w : ℕ) → w < units_of g.plan → test (now w) ≡ true → P w (now w)
  by = by-unit g.plan states now waits_then true u d.number placed_is

  -- what waits is another record
  other : (w : ℕ) → is_saved (states w) ≡ true → w ≢ u
  other = waits-other g.plan states now waits_then true u d.number placed_is

  -- all lists have the members that they had
  listed-now : (w : ℕ) → listed now (λ x. m (head x)) (λ x. m (next x)) w ≡ listed states (λ x. m (head x)) (λ x. m (next x)) w
  listed-now = lists-placed g.plan states now waits_then true u d.number placed_is (λ x. m (head x)) (λ x. m (next x))
      (list-same g id v m vs s l at waits_then r d call words may runs past runs_fit in_use n word)

  -- the other numbers are drawn for records that are there still
  asker-now : (k : ℕ) (a : Asker) → IsAsker s.calls g.plan (seen askers v) k a → IsAsker s.calls g.plan (seen askers after) k a
  asker-now k (OfRoot root) is = is
  asker-now k (OfTask t) is = let x = past.has is.0 is.1 in (x.0, x.1, ap (task_of s.calls) x.2.number ∙ is.2)

  -- a made record with another number is left
  made-left : (x : Made) → Has x v.made → x.number ≢ d.number → Has x (dropped (is_made_at u) v.made)
  made-left x has ne = has-left (is_made_at u) v.made x (ne_eqb x.unit u (λ e. ne (ap (λ (y : Made). y.number) (only x has e) ∙ may.numbered))) has

  -- a number that a run drew for itself is so behind its act
  next-past : (y : Drawn) (x z : Run) → IsRunPast x z → IsNextOf s.calls y x → IsNextOf s.calls y z
  next-past y x z like is = let same : task_of s.calls z.number ≡ task_of s.calls x.number = ap (task_of s.calls) like.number in record {
    unit = like.unit ∙ is.unit;
    asked = like.asked ∙ is.asked;
    asker = is.asker ∙ ap OfTask (sym same);
    task = is.task ∙ sym same;
    next = ap (λ (k : ℕ). begun_before s.calls k y.number) same ∙ is.next ∙ ap (λ (k : ℕ). begun_before s.calls (task_of s.calls k) k + 1) (sym like.number);
  }

  -- the next number that a run has drawn is another one
  next-left : Each (λ (x : Run). x.asked ≡ true → HasNext s.calls drawn x) v.runs
  next-left k x has e = let its = was_asked.asked k x has e in (
    its.0,
    has-left (is_drawn d.number) v.drawn its.0 (ne_eqb (its.0).number d.number (λ same. apart its.0 its.1 its.2 same)) its.1,
    its.2,
  )
    where
      apart : (y : Drawn) → Has y v.drawn → IsNextOf s.calls y x → y.number ≡ d.number → ⊥
      apart y there is same = not-running g id v m vs s l at waits_then r d call words may runs past runs_fit in_use n word x (k, has)
          (is.unit ∙ ap (λ (z : Drawn). z.unit) (one-drawn g id v m vs s l at d y has_drawn there same) ∙ unit-is)

  -- a run asked for one number at most
  asks-few : Each (λ (x : Run). total (λ (y : Drawn). asks_for (task_of s.calls x.number) y.asker) v.drawn ≤ 1) runs
  asks-few = (past.alike).each (λ (x : Run). total (λ (y : Drawn). asks_for (task_of s.calls x.number) y.asker) v.drawn ≤ 1)
      (λ x y like is. subst (λ (k : ℕ). total (λ (z : Drawn). asks_for (task_of s.calls k) z.asker) v.drawn ≤ 1) (sym like.number) is)
      (λ k x has. omega (arith, was_asked.unplaced k x has, was_asked.one k x has))

  -- the record of another number is there still
  record-now : (y : Drawn) → y.number ≢ d.number → IsForRecord s.calls (seen askers v) y → IsForRecord s.calls (seen askers after) y
  record-now y ne (inl t) = inl (t.0, made-left t.0 t.1 (λ e. ne (sym t.2.number ∙ e)), t.2)
  record-now y ne (inr t) =
      let x = past.has t.0 t.1 in
      inr (x.0, x.1, next-past y t.0 x.0 x.2 t.2)

  -- so all is said of the hand's numbers
  asked-now : AskedSound s.calls g.plan (seen askers after)
  asked-now = record {
    asker = λ k y has. let t = drawn-left g id v m vs s l at d y (k, has) in
        let was = was_asked.asker t.0.0 y t.0.1 in
        (asker-now y.number y.asker was.0, record-now y t.1 was.1);
    made = λ k x has some. let t = dropped-other (is_made_at u) v.made (made_few g id v m vs s l at waits_then r d call words may runs past runs_fit in_use n word) x (k, has) in
        let was = was_asked.made t.0.0 x t.0.1 some in
        (was.0, has-left (is_drawn d.number) v.drawn was.0 (ne_eqb (was.0).number d.number (λ e. apart x t.1 was.0 was.1 was.2 e)) was.1, was.2, was.3);
    unplaced = runs_unplaced;
    one = λ k x has. omega (arith, runs_unplaced k x has, asks-less g id v m vs s l at d has_drawn (task_of s.calls x.number), asks-few k x has);
    asked = (past.alike).each (λ (x : Run). x.asked ≡ true → HasNext s.calls drawn x) (λ x y like is e. let its = is (sym like.asked ∙ e) in (its.0, its.1, next-past its.0 x y like its.2)) next-left;
  }
    where
      apart : (x : Made) → is_made_at u x ≡ false → (y : Drawn) → Has y v.drawn → y.unit ≡ x.unit → y.number ≡ d.number → ⊥
      apart x not_here y has unit e =
          true≢false (sym (eq-eqb x.unit u (sym unit ∙ ap (λ (z : Drawn). z.unit) (one-drawn g id v m vs s l at d y has_drawn has e) ∙ unit-is)) ∙ not_here)

  -- each part of the scheduler's rule is kept
  made-says : (q : Part) → Says g q s m' (map (seen q) (slice_set vs id after))
  made-says rowed = moves g vs id v at rowed s m' after (each-set RowedSound (map (seen rowed) vs) id (seen rowed after) (l.schedule rowed)
      (let was = l.schedule rowed id (seen rowed v) (at_map (seen rowed) vs id v at) in record {
        task = λ k. row-left g id v m vs s l at d has_drawn k v.no_task (may.placeable).task_row (was.task k);
        after = λ k. row-left g id v m vs s l at d has_drawn k v.no_after (may.placeable).after_row (was.after k);
        runs = (past.alike).each (λ (x : Run). 1 ≤ times x.number v.taken) (λ x y like is. subst (λ (k : ℕ). 1 ≤ times k v.taken) (sym like.number) is) was.runs;
      }))
  made-says places = moves g vs id v at places s m' after
      (λ k. omega (arith, l.schedule places k, in-state-more g.plan states now waits_then true u d.number placed_is k, total-set (in_hand k) (map (seen places) vs) id (seen places v) (seen places after) (at_map (seen places) vs id v at), drawn-loses g id v m vs s l at d has_drawn k))
  made-says askers = moves g vs id v at askers s m' after (each-set (AskedSound s.calls g.plan) (map (seen askers) vs) id (seen askers after) (l.schedule askers) asked-now)
  made-says framed = moves g vs id v at framed s m' after (record {
    saved = by (λ w x. IsFrameOf g.checked s.calls tasks (number_of x) (body_at g.checked (frame_in m w))) is_saved
        (subst (λ (k : ℕ). IsFrameOf g.checked s.calls tasks k (body_at g.checked (frame_in m u))) (sym number-here) framed-there) (l.schedule framed).saved;
    names = by (λ w x. HoldsNames g.checked (body_at g.checked (frame_in m w))) is_saved
        (holds-same g.checked (slice_index words) (frame_in m u) (reads-same g.checked words (may.placeable).is_frame (frame_in m u) (frame-is g id v m vs s l at waits_then r d call words may runs past runs_fit in_use n word)) (may.placeable).names)
        (l.schedule framed).names;
    running = each-set _ (map (seen framed) vs) id runs (l.schedule framed).running runs_framed;
  })
  made-says formed = moves g vs id v at formed s m' after (record {
    saved = by (λ w x. IsFormed g.checked (frame_in m w)) is_saved
        (formed-same g.checked words (may.placeable).is_frame (frame_in m u) (frame-is g id v m vs s l at waits_then r d call words may runs past runs_fit in_use n word)) (l.schedule formed).saved;
    running = each-set _ (map (seen formed) vs) id runs (l.schedule formed).running runs_formed;
  })
  made-says results = frames g vs id v at results s m' after refl (results-placed g.plan states now waits_then true u d.number placed_is s.ends tasks (λ w. m (outcome w)) (l.schedule results))
  made-says begun = frames g vs id v at begun s m' after refl
      (begun-placed g.plan states now waits_then true u d.number placed_is s.calls s.ends (may-begin g id v m vs s l at d.number waits_then may.starts) (l.schedule begun))
  made-says owners = moves g vs id v at owners s m' after (record {
    is_of = by (λ w x. IsNumber s.calls (number_of x) × (tasks w ≡ task_of s.calls (number_of x))) is_record
        (subst (λ (k : ℕ). IsNumber s.calls k × (tasks u ≡ task_of s.calls k)) (sym number-here) (is_number_there, task-there ∙ sym is-first)) (l.schedule owners).is_of;
    once = λ t is. omega (
      arith,
      (l.schedule owners).once t is,
      saved-more g.plan states now waits_then true u d.number placed_is tasks t,
      ap (λ (k : ℕ). one_if (k == t)) task-there,
      total-set (in_hands s.calls t) (map (seen owners) vs) id (seen owners v) (seen owners after) (at_map (seen owners) vs id v at),
      drawn-loses g id v m vs s l at d has_drawn t,
      (past.alike).sums (λ (x : Run). one_if (task_of s.calls x.number == t)) (λ x y like. ap (λ (k : ℕ). one_if (task_of s.calls k == t)) like.number),
    );
    done = λ t. omega (arith, (l.schedule owners).done t, done-same g.plan states now waits_then true u d.number placed_is tasks t);
    ended = (l.schedule owners).ended;
    last_saved = by (λ w x. IsLast s.calls (number_of x)) is_saved
        (subst (IsLast s.calls) (sym number-here) ((l.schedule owners).last_drawn id (seen owners v) (at_map (seen owners) vs id v at) has_drawn.0 d has_drawn.1)) (l.schedule owners).last_saved;
    last_drawn = each-set _ (map (seen owners) vs) id (seen owners after) (l.schedule owners).last_drawn
        (each-dropped _ (is_drawn d.number) v.drawn ((l.schedule owners).last_drawn id (seen owners v) (at_map (seen owners) vs id v at)));
  })
  made-says running = moves g vs id v at running s m' after (each-set _ (map (seen running) vs) id runs (l.schedule running)
      ((past.alike).each (IsRun g.plan s.calls)
      (λ x y like is. record {
        near = omega (arith, is.near, like.unit);
        accepted = subst (IsNumber s.calls) (sym like.number) is.accepted;
        task = like.task ∙ is.task ∙ ap (task_of s.calls) (sym like.number);
        last = λ none. subst (IsLast s.calls) (sym like.number) (is.last (sym like.asked ∙ none));
      })
      (l.schedule running id v.runs (at_map (seen running) vs id v at))))
  made-says live = moves g vs id v at live s m' after
      (omega (arith, l.schedule live, live-more g.plan states now waits_then true u d.number placed_is, lives-less, total-set lives_in (map (seen live) vs) id (seen live v) (seen live after) (at_map (seen live) vs id v at)))
  made-says counted_lives = moves g vs id v at counted_lives s m' after
      (let was : CountedSound (seen counted_lives v) = l.schedule counted_lives id (seen counted_lives v) (at_map (seen counted_lives) vs id v at) in
      each-set CountedSound (map (seen counted_lives) vs) id (seen counted_lives after) (l.schedule counted_lives) (record { made = each-dropped _ (is_made_at u) v.made was.made; done = was.done }))
  made-says classes = moves g vs id v at classes s m' after (record {
    records = by (λ w x. class_of (m (super (superblock_of g.plan w))) ≡ class_in g.checked (by_number s.calls (task_of s.calls (number_of x)))) is_record class-there (l.schedule classes).records;
    made = each-set _ (map (seen classes) vs) id (dropped (is_made_at u) v.made) (l.schedule classes).made
        (each-dropped _ (is_made_at u) v.made ((l.schedule classes).made id v.made (at_map (seen classes) vs id v at)));
  })
    where
      class-there : class_of (m (super (superblock_of g.plan u))) ≡ class_in g.checked (by_number s.calls (task_of s.calls (number_of (now u))))
      class-there =
          sym ((l.table own).classes id (table_seen own v) (at_map (table_seen own) vs id v at) (may.has).0 r (may.has).1)
          ∙ (l.schedule classes).made id v.made (at_map (seen classes) vs id v at) (may.has).0 r (may.has).1 (some_number g id v m vs s l at waits_then r d call words may runs past runs_fit in_use n word)
          ∙ ap (λ (k : ℕ). class_in g.checked (by_number s.calls k)) (may.numbered ∙ sym is-first ∙ ap (task_of s.calls) (sym number-here))
  made-says behind = frames g vs id v at behind s m' after refl (record {
    listed_behind = λ k w low has. let was = subst (λ (x : List ℕ). Has w x) (listed-now k) has in
        ap (λ (x : ℕ). after_of s.calls (number_of x)) (others w (other w (listed-waits g id v m vs s l at k w low was))) ∙ (l.schedule behind).listed_behind k w low was;
    chained_behind = λ k chains at' j chain at'' i w has.
        subst (λ (x : ℕ). IfSome (after_of s.calls (number_of x)) (IsComplete s.ends)) (sym (others w (other w (chained-waits g id v m vs s l at k chains j chain i w at' at'' has))))
        ((l.schedule behind).chained_behind k chains at' j chain at'' i w has);
  })
  made-says bags = moves g vs id v at bags s m' after (each-set (BagSound g.checked) (map (seen bags) vs) id (seen bags after) (l.schedule bags) covers)
  made-says q = frames g vs id v at q s m' after refl (l.schedule q)

  -- all parts of both rules
  pub made-placed : AllSay g s m' (slice_set vs id after)
  made-placed = record { table = made-table g id v m vs s l at waits_then r d call words may runs past runs_fit in_use n word; schedule = made-says }
