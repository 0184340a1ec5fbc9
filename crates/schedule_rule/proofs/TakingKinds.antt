-- A take keeps the scheduler's rule: the number of a record that is ready is taken, and its task runs in the hand.
use Rattle.std.proofs.Common.{◌≡◌, ◌≢◌, ◌∙◌, ◌⊎◌, inl, inr, ℕ, suc, ◌<◌, ◌≤◌, ◌==◌, ◌&&◌, Bool, true, false, cond, not, Option, Some, None, List, [], ◌∷◌, ◌++◌, map, refl, sym, ap, subst, true≢false, arith}
use Rattle.std.specs.Prelude.{slice_set, slice_index, IfSome}
use Rattle.std.proofs.lemmas.Bool.{cases_eq, eq-eqb, eqb-true, ne_eqb}
use prog.Atomic.{either}
use Rattle.atomic_table.proofs.Lists.{exchanged}
use Rattle.record_core.specs.Sums.{total, below}
use Rattle.record_core.specs.Counting.{At, Has, one_if}
use Rattle.record_core.specs.Numbers.{by_number}
use Rattle.record_core.proofs.BelowFacts.{below-set, below-same, below-member}
use Rattle.record_core.proofs.TotalFacts.{total-set, total-member, total-bounded}
use Rattle.kt_words.specs.HeadWords.{closed_word, link_of, length_of}
use Rattle.kt_words.specs.StateWords.{phase_of, number_of, IsStateWord}
use Rattle.task_meaning.specs.Worths.{Accepted, OfAll}
use Rattle.frame_code.specs.Frames.{IsFrame, frame_length}
use Rattle.frame_code.specs.Ways.{BodyHasWay}
use Rattle.frame_code.specs.Words.{body_at}
use Rattle.table_core.specs.Addresses.{Mem, state, head, next, task, outcome, frame_in, units_of, put}
use Rattle.table_core.specs.Asking.{Asker, OfRoot, OfTask, Drawn}
use Rattle.table_core.specs.Holdings.{Run}
use Rattle.table_core.specs.Lists.{Each}
use Rattle.table_core.specs.References.{is_saved, is_live, is_record}
use Rattle.table_core.specs.Story.{Story, Fact, IsAccepted, IsOver, Outcome}
use Rattle.table_core.specs.WaitLists.{chained, listed}
use Rattle.table_core.specs.Parts.{shaped}
use Rattle.table_core.specs.declared.setup.Setup.{Setup}
use Rattle.table_core.specs.declared.view.View.{View}
use Rattle.table_core.proofs.ListFacts.{at_map, each-set, each-cons, each-none, each-append, total-has}
use Rattle.table_core.proofs.RecordKinds.{state-other}
use Rattle.table_core.specs.Steps.{Stepped}
use Rattle.schedule_rule.specs.Askers.{asks_for, IsAsker, IsForRecord, AskedSound}
use Rattle.schedule_rule.specs.Calls.{task_in, after_in, task_of, after_of, IsNumber, IsTaskOf, IsLast, IsComplete, IsSo}
use Rattle.schedule_rule.specs.Counts.{class_in}
use Rattle.schedule_rule.specs.Frames.{HoldsNames, front, IsFormed, IsFrameOf, BagSound}
use Rattle.schedule_rule.specs.LifeViews.{MayStart}
use Rattle.schedule_rule.specs.Numbers.{in_hand, in_state, saved_at, done_with, in_hands, is_begun}
use Rattle.schedule_rule.specs.Results.{SaysOutcome}
use Rattle.schedule_rule.specs.Rows.{RowedSound}
use Rattle.schedule_rule.specs.TakingViews.{IsTaking, IsTakenFrame, Taken, Takes}
use Rattle.schedule_rule.specs.Parts.{Part, names, suited, facts, rowed, places, askers, framed, formed, owners, results, running, live, classes, behind, begun, bags, seen, Says, AllSay, LawfulAfter, Keeps}
use Rattle.schedule_rule.proofs.FrameFacts.{front-same, frame-words}
use Rattle.schedule_rule.proofs.PoolKinds.{glances-at}
use Rattle.schedule_rule.proofs.RecordKinds.{has-more}
use Rattle.schedule_rule.proofs.Rule.{frames, moves, same-story}
use Rattle.schedule_rule.proofs.FrontFacts.{holds-same}
use Rattle.schedule_rule.proofs.SoundFacts.{has-way}
use Rattle.schedule_rule.proofs.StoryFacts.{task-of-number}
use Rattle.schedule_rule.proofs.TakenFrames.{number-has, frame-of_call}
use Rattle.schedule_rule.proofs.TakingFacts.{bag-taken, length-words}
use Rattle.schedule_rule.proofs.TakingTable.{over-facts, class, was-record, was-saved, its-number, call, call-is, over, more, run, after_take, fits-in, same-words, first-same, in-block, recorded, lives, in-five, number-same, saved-here, still-saved, was-saved_at, names-near, names-are_few, take-table}

module _ (g : Setup) (id : ℕ) (v : View) (m : Mem) (vs : List View) (s : Story) (l : AllSay g s m vs) (at : At vs id v) (u : ℕ) (near : u < units_of g.plan) (in_use : 1 ≤ v.parts)
    (n : ℕ) (was : phase_of (m (state u)) ≡ 3) (is : phase_of n ≡ 4) (numbered : number_of n ≡ number_of (m (state u))) (shape : IsStateWord n) where
  -- the state words
  abbrev words : ℕ → ℕ
  words w = m (state w)

  -- the state words after the take
  abbrev later : ℕ → ℕ
  later w = put m (state u) n (state w)

  -- the task words
  abbrev tasks : ℕ → ℕ
  tasks w = m (task w)

  -- the number that is taken
  abbrev taken_number : ℕ
  taken_number = number_of (m (state u))

  -- its call
  abbrev its_call : Accepted
  its_call = call g id v m vs s l at u near in_use n was is numbered shape

  -- the new run
  abbrev its_run : Run
  its_run = run g id v m vs s l at u near in_use n was is numbered shape

  -- the view after the take
  abbrev new_view : View
  new_view = after_take g id v m vs s l at u near in_use n was is numbered shape

  -- the words after the take
  abbrev m' : Mem
  m' = put m (state u) n

  -- the record was saved
  was_saved : is_saved (words u) ≡ true
  was_saved = was-saved g id v m vs s l at u near in_use n was is numbered shape

  -- it is no more
  saved_now : is_saved (later u) ≡ false
  saved_now = saved-here g id v m vs s l at u near in_use n was is numbered shape

  -- what is saved has the word that it had
  still : (w : ℕ) → is_saved (later w) ≡ true → later w ≡ words w
  still = still-saved g id v m vs s l at u near in_use n was is numbered shape

  -- and was saved before
  saved-before : (w : ℕ) → is_saved (later w) ≡ true → is_saved (words w) ≡ true
  saved-before = was-saved_at g id v m vs s l at u near in_use n was is numbered shape

  -- state words have the numbers that they had
  numbers-same : (w : ℕ) → number_of (later w) ≡ number_of (words w)
  numbers-same = number-same g id v m vs s l at u near in_use n was is numbered shape

  -- the same units have records
  recorded_now : (w : ℕ) → is_record (later w) ≡ is_record (words w)
  recorded_now = recorded g id v m vs s l at u near in_use n was is numbered shape

  -- the number is an accepted one
  is-number : IsNumber s.calls taken_number
  is-number = its-number g id v m vs s l at u near in_use n was is numbered shape

  -- with this call
  at-number : by_number s.calls taken_number ≡ Some its_call
  at-number = call-is g id v m vs s l at u near in_use n was is numbered shape

  -- the task of the number, which stands in the record's task word
  its-task : task_in (Some its_call) taken_number ≡ task_of s.calls taken_number
  its-task = ap (λ (o : Option Accepted). task_in o taken_number) (sym at-number)

  -- so does that word say
  word-task : tasks u ≡ task_of s.calls taken_number
  word-task = ((l.schedule owners).is_of u near (was-record g id v m vs s l at u near in_use n was is numbered shape)).1

  -- it is a task
  is-task : IsTaskOf s.calls (task_of s.calls taken_number)
  is-task = (task-of-number s.calls (OfAll []) (l.schedule names) taken_number is-number).0

  -- the task is saved in this record, so it runs in no hand
  saved-one : 1 ≤ below (saved_at words tasks (task_of s.calls taken_number)) (units_of g.plan)
  saved-one = omega (
    arith,
    below-member (saved_at words tasks (task_of s.calls taken_number)) (units_of g.plan) u near,
    ap (λ (b : Bool). cond b (one_if (tasks u == task_of s.calls taken_number)) 0) was_saved,
    ap one_if (eq-eqb (tasks u) (task_of s.calls taken_number) word-task),
  )

  -- no run of the hand is of the task
  not-running : (x : Run) → Has x v.runs → task_of s.calls x.number ≢ task_of s.calls taken_number
  not-running x there same = omega (
    arith,
    (l.schedule owners).once (task_of s.calls taken_number) is-task,
    saved-one,
    total-member (in_hands s.calls (task_of s.calls taken_number)) (map (seen owners) vs) id (seen owners v) (at_map (seen owners) vs id v at),
    total-has (λ (y : Run). one_if (task_of s.calls y.number == task_of s.calls taken_number)) v.runs x there,
    ap one_if (eq-eqb (task_of s.calls x.number) (task_of s.calls taken_number) same),
  )

  -- what was said of who asks
  was_asked : AskedSound s.calls g.plan (seen askers v)
  was_asked = l.schedule askers id (seen askers v) (at_map (seen askers) vs id v at)

  -- no number is drawn by an act of the task
  none-asks : (asker : Asker) (j : ℕ) → IsAsker s.calls g.plan (seen askers v) j asker → asks_for (task_of s.calls taken_number) asker ≡ 0
  none-asks (OfRoot root) j asks = refl
  none-asks (OfTask t) j asks = ap one_if (ne_eqb t (task_of s.calls taken_number) (λ same. not-running asks.0 asks.1 (asks.2 ∙ same)))

  -- so no number is drawn for it
  none-drawn : total (λ d. asks_for (task_of s.calls taken_number) d.asker) v.drawn ≡ 0
  none-drawn = omega (arith, total-bounded (λ (d : Drawn). asks_for (task_of s.calls taken_number) d.asker) 0 v.drawn (λ j d there. omega (arith, none-asks d.asker d.number (was_asked.asker j d there).0)))

  -- who asked is there still
  asker-still : (j : ℕ) (asker : Asker) → IsAsker s.calls g.plan (seen askers v) j asker → IsAsker s.calls g.plan (seen askers new_view) j asker
  asker-still j (OfRoot root) it = it
  asker-still j (OfTask t) it = (it.0, has-more its_run v.runs it.0 it.1, it.2)

  -- the record that a number is for is in the hand still
  for-still : (d : Drawn) → IsForRecord s.calls (seen askers v) d → IsForRecord s.calls (seen askers new_view) d
  for-still d (inl it) = inl it
  for-still d (inr it) = inr (it.0, has-more its_run v.runs it.0 it.1, it.2)

  -- the words of the block begin with the frame
  formed-here : IsFormed g.checked (slice_index its_run.words)
  formed-here = subst (IsFrame g.checked) (sym (front-same g.checked (frame_in m u) (slice_index its_run.words) (same-words g id v m vs s l at u near in_use n was is numbered shape))) ((l.schedule formed).saved u near was_saved)

  -- the frame is of the number's call
  frame-here : IsFrameOf g.checked s.calls tasks taken_number (body_at g.checked (slice_index its_run.words))
  frame-here = frame-words g.checked s.calls tasks taken_number (frame_in m u) (slice_index its_run.words) (same-words g id v m vs s l at u near in_use n was is numbered shape) ((l.schedule framed).saved u near was_saved)

  -- and stands where there is a way
  way-here : BodyHasWay g.checked (body_at g.checked (slice_index its_run.words))
  way-here = has-way g.checked s.calls tasks taken_number (body_at g.checked (slice_index its_run.words)) frame-here

  -- what is held there names units
  names-here : HoldsNames g.checked (body_at g.checked (slice_index its_run.words))
  names-here = holds-same g.checked (frame_in m u) (slice_index its_run.words) (same-words g id v m vs s l at u near in_use n was is numbered shape) ((l.schedule framed).names u near was_saved)

  -- the predecessor is over, and the pass knows it
  over-so : (o : Option ℕ) (is_over : IfSome o (IsComplete s.ends)) → Each (IsSo s.calls s.ends) (over-facts s.ends o is_over)
  over-so None is_over = each-none _
  over-so (Some t) is_over = each-cons _ (IsOver t is_over.0) [] is_over.1 (each-none _)

  -- records have the lists that they had
  listed-same : (w : ℕ) → listed later (λ x. m (head x)) (λ x. m (next x)) w ≡ listed words (λ x. m (head x)) (λ x. m (next x)) w
  listed-same w = ap (λ (b : Bool). cond (b && not (m (head w) == closed_word)) (chained (λ x. m (next x)) (link_of (m (head w))) (length_of (m (head w)))) []) (recorded_now w)

  -- each part of the scheduler's rule holds after the take
  take-says : (q : Part) → Says g q s m' (map (seen q) (slice_set vs id new_view))
  take-says facts = moves g vs id v at facts s m' new_view
      (each-set (Each (IsSo s.calls s.ends)) (map (seen facts) vs) id (seen facts new_view) (l.schedule facts)
      (each-append (IsSo s.calls s.ends) (more g id v m vs s l at u near in_use n was is numbered shape) (IsAccepted taken_number its_call ∷ v.facts)
      (over-so (after_of s.calls taken_number) (over g id v m vs s l at u near in_use n was is numbered shape))
      (each-cons (IsSo s.calls s.ends) (IsAccepted taken_number its_call) v.facts at-number (l.schedule facts id v.facts (at_map (seen facts) vs id v at)))))
  take-says rowed =
      let rows = l.schedule rowed id (seen rowed v) (at_map (seen rowed) vs id v at) in
      moves g vs id v at rowed s m' new_view (each-set RowedSound (map (seen rowed) vs) id (seen rowed new_view) (l.schedule rowed) (record {
        task = rows.task;
        after = rows.after;
        runs = each-cons _ its_run v.runs (omega (arith, ap one_if (eq-eqb taken_number taken_number refl))) (λ j x there. omega (arith, rows.runs j x there));
      }))
  take-says places = moves g vs id v at places s m' new_view (λ j. omega (
    arith,
    l.schedule places j,
    below-set (in_state words j) (in_state later j) (units_of g.plan) u near (λ w low ne. ap (λ (x : ℕ). cond (is_saved x) (one_if (number_of x == j)) 0) (state-other m u n w ne)),
    ap (λ (b : Bool). cond b (one_if (number_of (later u) == j)) 0) saved_now,
    ap (λ (b : Bool). cond b (one_if (taken_number == j)) 0) was_saved,
    total-set (in_hand j) (map (seen places) vs) id (seen places v) (seen places new_view) (at_map (seen places) vs id v at),
  ))
  take-says askers = moves g vs id v at askers s m' new_view (each-set (AskedSound s.calls g.plan) (map (seen askers) vs) id (seen askers new_view) (l.schedule askers) (record {
    asker = λ j d there. let t = was_asked.asker j d there in (asker-still d.number d.asker t.0, for-still d t.1);
    made = was_asked.made;
    unplaced = each-cons _ its_run v.runs (sym none-drawn) was_asked.unplaced;
    one = each-cons _ its_run v.runs (omega arith) was_asked.one;
    asked = each-cons _ its_run v.runs (λ e. absurd (true≢false (sym e))) was_asked.asked;
  }))
  take-says framed = moves g vs id v at framed s m' new_view (record {
    saved = λ w low saved. subst (λ (x : ℕ). IsFrameOf g.checked s.calls tasks x (body_at g.checked (frame_in m w))) (sym (numbers-same w)) ((l.schedule framed).saved w low (saved-before w saved));
    names = λ w low saved. (l.schedule framed).names w low (saved-before w saved);
    running = each-set _ (map (seen framed) vs) id (its_run ∷ v.runs) (l.schedule framed).running (each-cons _ its_run v.runs frame-here ((l.schedule framed).running id v.runs (at_map (seen framed) vs id v at)));
  })
  take-says formed = moves g vs id v at formed s m' new_view (record {
    saved = λ w low saved. (l.schedule formed).saved w low (saved-before w saved);
    running = each-set _ (map (seen formed) vs) id (its_run ∷ v.runs) (l.schedule formed).running (each-cons _ its_run v.runs formed-here ((l.schedule formed).running id v.runs (at_map (seen formed) vs id v at)));
  })
  take-says owners = moves g vs id v at owners s m' new_view (record {
    is_of = λ w low record_is. subst (λ (x : ℕ). IsNumber s.calls x × (tasks w ≡ task_of s.calls x)) (sym (numbers-same w)) ((l.schedule owners).is_of w low (sym (recorded_now w) ∙ record_is));
    once = λ t it. omega (
      arith,
      (l.schedule owners).once t it,
      below-set (saved_at words tasks t) (saved_at later tasks t) (units_of g.plan) u near (λ w low ne. ap (λ (x : ℕ). cond (is_saved x) (one_if (tasks w == t)) 0) (state-other m u n w ne)),
      ap (λ (b : Bool). cond b (one_if (tasks u == t)) 0) saved_now,
      ap (λ (b : Bool). cond b (one_if (tasks u == t)) 0) was_saved,
      ap (λ (x : ℕ). one_if (x == t)) word-task,
      total-set (in_hands s.calls t) (map (seen owners) vs) id (seen owners v) (seen owners new_view) (at_map (seen owners) vs id v at),
    );
    done = λ t. omega (
      arith,
      (l.schedule owners).done t,
      below-same (done_with later tasks t) (done_with words tasks t) (units_of g.plan) (λ w low. ap (λ (b : Bool). cond b (one_if (tasks w == t)) 0) (in-five g id v m vs s l at u near in_use n was is numbered shape w)),
    );
    ended = (l.schedule owners).ended;
    last_saved = λ w low saved. subst (IsLast s.calls) (sym (numbers-same w)) ((l.schedule owners).last_saved w low (saved-before w saved));
    last_drawn = each-set _ (map (seen owners) vs) id (seen owners new_view) (l.schedule owners).last_drawn ((l.schedule owners).last_drawn id (seen owners v) (at_map (seen owners) vs id v at));
  })
  take-says results = frames g vs id v at results s m' new_view refl (λ w low done.
      let there : phase_of (words w) ≡ 5 = eqb-true (phase_of (words w)) 5 (sym (in-five g id v m vs s l at u near in_use n was is numbered shape w) ∙ eq-eqb (phase_of (later w)) 5 done) in
      let t = l.schedule results w low there in
      (t.0, t.1, subst (λ (x : ℕ). SaysOutcome x (m (outcome w)) t.0) (sym (state-other m u n w (λ e. omega (arith, there, was, ap (λ (x : ℕ). phase_of (words x)) e)))) t.2))
  take-says running = moves g vs id v at running s m' new_view (each-set _ (map (seen running) vs) id (its_run ∷ v.runs) (l.schedule running)
      (each-cons _ its_run v.runs (record { near = near; accepted = is-number; task = its-task; last = λ _. (l.schedule owners).last_saved u near was_saved }) (l.schedule running id v.runs (at_map (seen running) vs id v at))))
  take-says live = frames g vs id v at live s m' new_view refl
      (omega (arith, l.schedule live, below-same (λ w. one_if (is_live (later w))) (λ w. one_if (is_live (words w))) (units_of g.plan) (λ w low. ap one_if (lives g id v m vs s l at u near in_use n was is numbered shape w))))
  take-says classes = frames g vs id v at classes s m' new_view refl (record {
    records = λ w low record_is. (l.schedule classes).records w low (sym (recorded_now w) ∙ record_is) ∙ ap (λ (x : ℕ). class_in g.checked (by_number s.calls (task_of s.calls x))) (sym (numbers-same w));
    made = (l.schedule classes).made;
  })
  take-says behind = frames g vs id v at behind s m' new_view refl (record {
    listed_behind = λ j w low there. ap (after_of s.calls) (numbers-same w) ∙ (l.schedule behind).listed_behind j w low (subst (λ (x : List ℕ). Has w x) (listed-same j) there);
    chained_behind = λ j chains at' i chain at'' h w at'''.
        subst (λ (x : ℕ). IfSome (after_of s.calls x) (IsComplete s.ends)) (sym (numbers-same w)) ((l.schedule behind).chained_behind j chains at' i chain at'' h w at''');
  })
  take-says begun = frames g vs id v at begun s m' new_view refl (λ w low begun_now. subst (λ (x : ℕ). IfSome (after_of s.calls x) (IsComplete s.ends)) (sym (numbers-same w)) (by w low begun_now (cases_eq w u)))
    where
      by : (w : ℕ) → w < units_of g.plan → is_begun (later w) ≡ true → (w ≡ u) ⊎ (w ≢ u) → IfSome (after_of s.calls (number_of (words w))) (IsComplete s.ends)
      by w low begun_now (inl e) = subst (λ (x : ℕ). IfSome (after_of s.calls (number_of (words x))) (IsComplete s.ends)) (sym e) (over g id v m vs s l at u near in_use n was is numbered shape)
      by w low begun_now (inr ne) = l.schedule begun w low (ap is_begun (sym (state-other m u n w ne)) ∙ begun_now)
  take-says bags = moves g vs id v at bags s m' new_view (each-set (BagSound g.checked) (map (seen bags) vs) id (seen bags new_view) (l.schedule bags)
      (bag-taken g.checked v.futures v.runs its_run way-here (l.schedule bags id (seen bags v) (at_map (seen bags) vs id v at))))
  take-says q = frames g vs id v at q s m' new_view refl (l.schedule q)

  -- all parts, after the take
  taken-says : AllSay g s m' (slice_set vs id new_view)
  taken-says = record { table = take-table g id v m vs s l at u near in_use n was is numbered shape; schedule = take-says }

  -- what the pass knows of the predecessor
  knows-over : (o : Option ℕ) (is_over : IfSome o (IsComplete s.ends)) (fs : List Fact) → IfSome o (λ t. (outcome : Outcome) × Has (IsOver t outcome) (over-facts s.ends o is_over ++ fs))
  knows-over None is_over fs = tt
  knows-over (Some t) is_over fs = (is_over.0, (0, refl))

  -- a member of a list is one of the list behind another
  has-behind : {A : Type 0} (front l : List A) (x : A) → Has x l → Has x (front ++ l)
  has-behind [] l x has = has
  has-behind (y ∷ front) l x has = let t = has-behind front l x has in (suc t.0, t.1)

  -- the activation may start
  may-start : MayStart new_view taken_number
  may-start = (
    its_call,
    has-behind (more g id v m vs s l at u near in_use n was is numbered shape) (IsAccepted taken_number its_call ∷ v.facts) (IsAccepted taken_number its_call) (0, refl),
    subst (λ (o : Option Accepted). IfSome (after_in o) (λ t. (outcome : Outcome) × Has (IsOver t outcome) new_view.facts)) at-number
        (knows-over (after_of s.calls taken_number) (over g id v m vs s l at u near in_use n was is numbered shape) (IsAccepted taken_number its_call ∷ v.facts)),
  )

  -- what is told of the frame
  taken-frame : IsTakenFrame g u (class g id v m vs s l at u near in_use n was is numbered shape) its_call its_run.words
  taken-frame = record {
    block = in-block g id v m vs s l at u near in_use n was is numbered shape;
    long = length-words (frame_in m u) 0 _;
    formed = formed-here;
    fits = omega (arith, fits-in g id v m vs s l at u near in_use n was is numbered shape, ap (frame_length g.checked) (first-same g id v m vs s l at u near in_use n was is numbered shape));
    way = way-here;
    names = names-here;
    few = names-are_few g id v m vs s l at u near in_use n was is numbered shape;
    near = names-near g id v m vs s l at u near in_use n was is numbered shape;
    suits = let has = number-has s.calls taken_number its_call at-number in l.schedule suited has.0 its_call has.1;
    is_of = frame-of_call g.checked s.calls tasks taken_number its_call (body_at g.checked (slice_index its_run.words)) (l.schedule names) at-number frame-here;
  }

  -- what the take tells
  tells : Taken g u (m (state u)) v new_view
  tells = (
    class g id v m vs s l at u near in_use n was is numbered shape,
    its_run.words,
    its_call,
    more g id v m vs s l at u near in_use n was is numbered shape,
    taken-frame,
    l.schedule bags id (seen bags v) (at_map (seen bags) vs id v at),
    refl,
    may-start,
  )

module _ (g : Setup) (id : ℕ) (v : View) where
  -- take: the state word of any unit is exchanged from one that says ready to one that says running
  pub takes-at : (u : ℕ) → u < units_of g.plan → 1 ≤ v.parts → (ready word : ℕ) → IsTaking ready word → Keeps g id v (state u) (λ n. either (n == ready) word n) (Takes g u ready v)
  takes-at u near in_use ready word is m vs s l at small =
      exchanged (m (state u)) ready word
      (λ n. (w : View) × LawfulAfter g s (put m (state u) n) (slice_set vs id w) × Takes g u ready v (m (state u)) w × Stepped (state u) (m (state u)) n v w)
      (λ e.
      let was : phase_of (m (state u)) ≡ 3 = ap phase_of e ∙ is.was in
      let numbered : number_of word ≡ number_of (m (state u)) = is.number ∙ ap number_of (sym e) in (
        after_take g id v m vs s l at u near in_use word was is.is numbered is.shape,
        (s, same-story s, taken-says g id v m vs s l at u near in_use word was is.is numbered is.shape),
        (
          (λ _. subst (λ (x : ℕ). Taken g u x v (after_take g id v m vs s l at u near in_use word was is.is numbered is.shape)) e (tells g id v m vs s l at u near in_use word was is.is numbered is.shape)),
          (λ ne. absurd (ne e)),
          l.table shaped u near,
        ),
        (refl, refl, inl refl),
      ))
      (λ ne. let t = glances-at g id v (state u) m vs s l at small in (t.0, t.1, ((λ e. absurd (ne e)), (λ _. t.2.0), l.table shaped u near), t.3))
