-- A number is drawn within the limit: what keeps the rule whoever asks. Its call is the story's next one.
use Rattle.std.proofs.Common.{◌≡◌, ◌≢◌, ◌∙◌, ◌⊎◌, inl, inr, ℕ, ◌+◌, ◌%◌, ◌^◌, ◌<◌, ◌≤◌, ◌==◌, Bool, true, false, cond, Option, Some, List, map, length, refl, sym, ap, subst, arith, ◌∷◌, []}
use Rattle.std.specs.Prelude.{slice_set, slice_index, IfSome, ◌*◌, ◌||◌}
use Rattle.std.proofs.lemmas.Bool.{cases_eq, cases_lt, eq-eqb, ne_eqb}
use Rattle.record_core.specs.Sums.{total, below}
use Rattle.record_core.specs.Counting.{At, Has, one_if, times}
use Rattle.record_core.specs.Numbers.{by_number}
use Rattle.record_core.proofs.BelowFacts.{below-bounded, below-member}
use Rattle.record_core.proofs.CountFacts.{times-some}
use Rattle.record_core.proofs.TotalFacts.{total-set, total-snoc, total-same, total-member, total-bounded}
use Rattle.record_core.proofs.NumberFacts.{number-old}
use Rattle.kt_words.specs.SuperWords.{class_of}
use Rattle.kt_words.specs.Capacity.{block_units}
use Rattle.kt_words.specs.StateWords.{number_of}
use Rattle.frame_code.specs.Frames.{frame_length}
use Rattle.frame_code.specs.Words.{body_at}
use Rattle.task_meaning.specs.Worths.{Accepted}
use Rattle.table_core.specs.Addresses.{Addr, Mem, super, state, head, next, task, root, journal, sum, frame_in, put, units_of}
use Rattle.table_core.specs.Asking.{Asker, Drawn}
use Rattle.table_core.specs.Bounds.{IsBounded, Numbered}
use Rattle.table_core.specs.Holdings.{Made, Run}
use Rattle.table_core.specs.Lists.{Each}
use Rattle.table_core.specs.Own.{any, is_in, is_own, is_word_of, is_result_of, record_words}
use Rattle.table_core.specs.Pool.{superblock_of}
use Rattle.table_core.specs.References.{is_saved}
use Rattle.table_core.specs.Story.{Story, IsAccepted, is_new}
use Rattle.table_core.specs.Views.{saw}
use Rattle.table_core.specs.WaitLists.{listed, chains_at}
use Rattle.table_core.specs.Parts.{Part as TablePart, bounds, evers, fits, own, numbers, totals, waits, unnumbered, seen as table_seen, Says as TableSays}
use Rattle.table_core.specs.declared.setup.Setup.{Setup}
use Rattle.table_core.specs.declared.view.View.{View}
use Rattle.table_core.proofs.ListFacts.{at_map, map_at, each-set, each-cons, set_cases, total-has, each-append, each-none}
use Rattle.table_core.proofs.OwnFacts.{IsHand, hands-from, own-moved}
use Rattle.table_core.proofs.WaitFacts.{standing, chain-waits}
use Rattle.table_core.proofs.Rule.{frames as table_frames, moves as table_moves}
use Rattle.schedule_rule.specs.Calls.{AtNumber, task_in, task_of, after_of, IsNumber, IsTaskOf, NamesEarlier, CallsSound, IsLast, IsSo, IsComplete, ends_of, Suits}
use Rattle.schedule_rule.specs.Rows.{Unwritten, RowsSound, RowedSound, row_word, word_of_task, lacking_task, lacking_after}
use Rattle.schedule_rule.specs.Numbers.{in_hand, TasksHeld, saved_at, in_hands, IsRun}
use Rattle.schedule_rule.specs.Askers.{AskedSound}
use Rattle.schedule_rule.specs.Counts.{lives_in, class_in, CountedSound}
use Rattle.schedule_rule.specs.Frames.{BagSound, IsFrameOf, IsFormed}
use Rattle.schedule_rule.specs.RootTasks.{RootTasksSound}
use Rattle.schedule_rule.specs.DrawViews.{drew, drawn_for}
use Rattle.schedule_rule.proofs.LimitFacts.{limits-stay}
use Rattle.schedule_rule.specs.Parts.{Part, draws, names, callers, facts, rows, rowed, places, askers, framed, root_tasks, owners, running, live, classes, behind, bags, quiet, Seen, seen, Says, AllSay, formed, suited, results, begun, counted_lives, limits}
use Rattle.schedule_rule.proofs.AskFacts.{asked-stays}
use Rattle.schedule_rule.proofs.ChangedFacts.{AreAs, IsMadeAs, IsRunAs}
use Rattle.schedule_rule.proofs.RecordKinds.{listed-waits, chained-waits}
use Rattle.schedule_rule.proofs.Rule.{frames, moves}
use Rattle.schedule_rule.proofs.StateFacts.{saved-record, begun-record}
use Rattle.schedule_rule.proofs.StoryFacts.{more, new, length-more, not-new, number-same, number-here, task-same, after-same, number-stays, new-number, number-from, is-number, is-number-same, is-number-more, no-number, task-stays, task-was, so-stays, ComesNext, calls-more, last-stays, last-new, task-of-number, call-same, frame-stays}

module _ (g : Setup) (id : ℕ) (v : View) (m : Mem) (vs : List View) (s : Story) (l : AllSay g s m vs) (at : At vs id v) where
  -- the state words
  abbrev pub states : ℕ → ℕ
  states w = m (state w)

  -- what is drawn, runs or stands in a state word is a number
  pub drawn-numbers : (k : ℕ) (x : View) → At vs k x → Each (λ (d : Drawn). IsNumber s.calls d.number) x.drawn
  drawn-numbers k x there j d there' = number-from s.calls d.number (omega (
    arith,
    l.schedule places d.number,
    total-member (in_hand d.number) (map (seen places) vs) k (seen places x) (at_map (seen places) vs k x there),
    total-has (λ (y : Drawn). one_if (y.number == d.number)) x.drawn d (j, there'),
    ap one_if (eq-eqb d.number d.number refl),
  ))

  pub run-numbers : (k : ℕ) (x : View) → At vs k x → Each (λ (r : Run). IsNumber s.calls r.number) x.runs
  run-numbers k x there j r there' = (l.schedule running k (seen running x) (at_map (seen running) vs k x there) j r there').accepted

  pub made-numbers : (k : ℕ) (x : View) → At vs k x → Each (λ (r : Made). r.number ≢ 0 → IsNumber s.calls r.number) x.made
  made-numbers k x there j r there' some =
      let t = (l.schedule askers k (seen askers x) (at_map (seen askers) vs k x there)).made j r there' some in
      subst (IsNumber s.calls) t.3 (drawn-numbers k x there t.1.0 t.0 t.1.1)

  pub saved-number : (w : ℕ) → w < units_of g.plan → is_saved (states w) ≡ true → IsNumber s.calls (number_of (states w))
  saved-number w near is = ((l.schedule owners).is_of w near (saved-record (states w) is)).0

  sound : CallsSound s.calls
  sound = l.schedule names

  -- the classes of old numbers are as before
  pub class-stays : (a : Accepted) (k : ℕ) (x : View) → At vs k x → Each (λ (r : Made). r.number ≢ 0 → r.class ≡ class_in g.checked (by_number (more s.calls a) r.number)) x.made
  class-stays a k x there j r there' some =
      (l.schedule classes).made k (seen classes x) (at_map (seen classes) vs k x there) j r there' some
      ∙ ap (class_in g.checked) (sym (number-same s.calls a r.number (not-new s.calls a r.number (made-numbers k x there j r there' some))))

  -- no old number is of a task that begins
  pub none-of_new : (a : Accepted) → task_in (Some a) (new s.calls a) ≡ new s.calls a → (n : ℕ) → IsNumber s.calls n → task_of s.calls n ≢ task_in (Some a) (new s.calls a)
  none-of_new a begins n is same = omega (arith, (task-of-number s.calls a sound n is).1, is.1, same, begins)

  module _ (a : Accepted) (made : List Made) (runs : List Run) where
    -- what a draw needs, whoever asks: the records are as before but for numbers and what they asked for, and no other record, number
    -- or running record that may still draw is of the call's task
    pub record IsDraw : Type 1 where
      pub names : NamesEarlier s.calls (new s.calls a) a
      pub suits : Suits g.checked a
      pub next : ComesNext s.calls a
      pub may : v.may_draw ≡ 1
      pub in_use : 1 ≤ v.parts
      pub mades : AreAs IsMadeAs v.made made
      pub run_as : AreAs IsRunAs v.runs runs
      pub bag : BagSound g.checked (seen bags v) → BagSound g.checked (record { futures = v.futures; runs = runs })
      pub numbered : unnumbered made + is_new a ≡ unnumbered v.made
      pub class : Each (λ (r : Made). r.number ≢ 0 → r.class ≡ class_in g.checked (by_number (more s.calls a) r.number)) made
      pub counted : Each (λ (r : Made). r.live ≡ true → r.number ≢ 0) made
      pub saved_apart : (w : ℕ) → w < units_of g.plan → is_saved (states w) ≡ true → task_of s.calls (number_of (states w)) ≢ task_in (Some a) (new s.calls a)
      pub drawn_apart : (k : ℕ) (x : View) → At vs k x → Each (λ (d : Drawn). task_of s.calls d.number ≢ task_in (Some a) (new s.calls a)) x.drawn
      pub runs_apart : (k : ℕ) (x : View) → k ≢ id → At vs k x → Each (λ (r : Run). r.asked ≡ false → task_of s.calls r.number ≢ task_in (Some a) (new s.calls a)) x.runs
      pub mine_last : Each (λ (r : Run). r.asked ≡ false → IsLast (more s.calls a) r.number) runs

  module _ (a : Accepted) (made : List Made) (runs : List Run) (is : IsDraw a made runs) (u root_task : ℕ) (asker : Asker) (low : m (sum 0) < g.plan.limit) where
    -- the calls with the new one, its number, and for whom it is drawn
    abbrev calls : List Accepted
    calls = more s.calls a

    abbrev n : ℕ
    n = new s.calls a

    abbrev d : Drawn
    d = drawn_for n u asker

    -- the view and the story after the draw
    abbrev pub after_draw : View
    after_draw = saw (sum 0) (m (sum 0)) (drew d a made runs root_task v)

    abbrev pub story : Story
    story = record s { calls = calls }

    -- the word that is written
    abbrev word : ℕ
    word = (m (sum 0) + 1) % 2 ^ 64

    abbrev m' : Mem
    m' = put m (sum 0) word

    -- the word counts one more
    counts : m (sum 0) ≡ length s.calls
    counts = omega (arith, (l.table totals).drawn, low)

    word-is : word ≡ m (sum 0) + 1
    word-is = omega (arith, low, g.plan.limit_fits.1)

    was_bounded : IsBounded (table_seen bounds v)
    was_bounded = l.table bounds id (table_seen bounds v) (at_map (table_seen bounds) vs id v at)

    was_hand : IsHand g.plan (λ i. m (super i)) states (record_words m) (table_seen own v)
    was_hand = hands-from g.plan (λ i. m (super i)) states (record_words m) (map (table_seen own) vs) (l.table own) id (table_seen own v) (at_map (table_seen own) vs id v at)

    -- the pass has the same words of its own
    own-same : (b : Addr) → is_own made runs b ≡ is_own v.made v.runs b
    own-same b =
        ap (λ (x : Bool). x || any (λ (r : Run). is_result_of r.unit (block_units r.class) b) runs)
        (is.mades.tests (λ (r : Made). is_word_of r.unit (block_units r.class) b) (λ r r' alike. ap (λ (w : ℕ). is_word_of w (block_units r'.class) b) alike.unit ∙ ap (λ (c : ℕ). is_word_of r.unit (block_units c) b) alike.class))
        ∙ ap (λ (x : Bool). any (λ (r : Made). is_word_of r.unit (block_units r.class) b) v.made || x)
        (is.run_as.tests (λ (r : Run). is_result_of r.unit (block_units r.class) b) (λ r r' alike. ap (λ (w : ℕ). is_result_of w (block_units r'.class) b) alike.unit ∙ ap (λ (c : ℕ). is_result_of r.unit (block_units c) b) alike.class))

    now_hand : IsHand g.plan (λ i. m (super i)) states (record_words m) (table_seen own after_draw)
    now_hand = record {
      classes = is.mades.each (λ (r : Made). r.class ≡ class_of (m (super (superblock_of g.plan r.unit)))) (λ r r' alike e. alike.class ∙ e ∙ ap (λ (w : ℕ). class_of (m (super (superblock_of g.plan w)))) (sym alike.unit)) was_hand.classes;
      run_classes = is.run_as.each (λ (r : Run). r.class ≡ class_of (m (super (superblock_of g.plan r.unit)))) (λ r r' alike e. alike.class ∙ e ∙ ap (λ (w : ℕ). class_of (m (super (superblock_of g.plan w)))) (sym alike.unit)) was_hand.run_classes;
      numbers = is.run_as.each (λ (r : Run). r.number ≡ number_of (states r.unit)) (λ r r' alike e. alike.number ∙ e ∙ ap (λ (w : ℕ). number_of (states w)) (sym alike.unit)) was_hand.numbers;
      known = λ b k e. ((was_hand.known b k e).0, own-same b ∙ (was_hand.known b k e).1);
    }

    -- the parts of the table's rule
    draw-table : (q : TablePart) → TableSays g q story m' (map (table_seen q) (slice_set vs id after_draw))
    draw-table bounds = table_moves g vs id v at bounds story m' after_draw (each-set IsBounded (map (table_seen bounds) vs) id (table_seen bounds after_draw) (l.table bounds)
        (record { few = omega (arith, was_bounded.few); accepted = omega (arith, was_bounded.accepted); single = omega arith; spent = λ none. absurd (omega (arith, none, is.in_use)) }))
    draw-table evers = table_moves g vs id v at evers story m' after_draw
        (omega (arith, l.table evers, total-snoc is_new s.calls a, is.numbered, total-set (λ (k : ℕ). k) (map (table_seen evers) vs) id (table_seen evers v) (table_seen evers after_draw) (at_map (table_seen evers) vs id v at)))
    draw-table fits = table_moves g vs id v at fits story m' after_draw (record {
      saved = (l.table fits).saved;
      running = each-set _ (map (table_seen fits) vs) id runs (l.table fits).running
          (is.run_as.each (λ (r : Run). frame_length g.checked (slice_index r.words 0) ≤ 8 * block_units r.class)
          (λ r r' alike e. subst (λ (w : List ℕ). frame_length g.checked (slice_index w 0) ≤ 8 * block_units r'.class) (sym alike.words) (subst (λ (c : ℕ). frame_length g.checked (slice_index r.words 0) ≤ 8 * block_units c) (sym alike.class) e))
          ((l.table fits).running id v.runs (at_map (table_seen fits) vs id v at)));
    })
    draw-table own = table_moves g vs id v at own story m' after_draw
        (own-moved g.plan (λ i. m (super i)) states states (record_words m) (record_words m) (map (table_seen own) vs) id (table_seen own v) (table_seen own after_draw) (at_map (table_seen own) vs id v at) (l.table own)
        (λ w. ap (λ (k : ℕ). k + is_in g.plan states 1 w) (is.mades.sums (λ (r : Made). one_if (r.unit == w)) (λ r r' alike. ap (λ (k : ℕ). one_if (k == w)) alike.unit)))
        (λ w. ap (λ (k : ℕ). k + is_in g.plan states 4 w) (is.run_as.sums (λ (r : Run). one_if (r.unit == w)) (λ r r' alike. ap (λ (k : ℕ). one_if (k == w)) alike.unit)))
        (λ w. omega (arith, (l.table own).done w))
        (λ k x ne there hand. hand)
        now_hand)
    draw-table numbers = table_moves g vs id v at numbers story m' after_draw (record {
      taken = omega (arith, (l.table numbers).taken, total-set (λ (h : Numbered). h.taken) (map (table_seen numbers) vs) id (table_seen numbers v) (table_seen numbers after_draw) (at_map (table_seen numbers) vs id v at));
      calls = omega (arith, (l.table numbers).calls, length-more s.calls a, total-set (λ (h : Numbered). h.calls) (map (table_seen numbers) vs) id (table_seen numbers v) (table_seen numbers after_draw) (at_map (table_seen numbers) vs id v at));
    })
    draw-table totals = table_frames g vs id v at totals story m' after_draw refl (record {
      drawn = omega (arith, length-more s.calls a, counts, word-is, low);
      stamps = (l.table totals).stamps;
    })
    draw-table q = table_frames g vs id v at q story m' after_draw refl (l.table q)

    -- both rows of the new number are lacking, and 0
    row-drawn : (old : ℕ → ℕ) (word word' lacking lacking' : ℕ → ℕ) → ((k : ℕ) → k ≢ n → word' k ≡ word k) → ((k : ℕ) → lacking' k ≡ lacking k + one_if (n == k))
        → ((k : ℕ) → old k ≡ row_word s.calls k (lacking k) (word k)) → (k : ℕ) → old k ≡ row_word calls k (lacking' k) (word' k)
    row-drawn old word word' lacking lacking' same one was k = elim (cases_eq k n) [
      | inl e ↦ subst (λ (x : ℕ). old x ≡ row_word calls x (lacking' x) (word' x)) (sym e)
          (was n ∙ ap (λ (b : Bool). cond b (cond (lacking n == 0) (word n) 0) 0) (no-number s.calls n (λ t. omega (arith, t.1)))
          ∙ sym (ap (λ (b : Bool). cond b (cond (lacking' n == 0) (word' n) 0) 0) (is-number calls n (new-number s.calls a)) ∙ ap (λ (b : Bool). cond b (word' n) 0) (ne_eqb (lacking' n) 0 (λ z. omega (arith, z, one n, ap one_if (eq-eqb n n refl))))))
      | inr ne ↦ was k ∙ sym (ap (λ (b : Bool). cond b (cond (lacking' k == 0) (word' k) 0) 0) (is-number-same s.calls a k ne)
          ∙ ap (λ (x : ℕ). row_word s.calls k x (word' k)) (omega (arith, one k, ap one_if (ne_eqb n k (λ e. ne (sym e))))) ∙ ap (row_word s.calls k (lacking k)) (same k ne))
    ]

    was_rows : RowsSound s.calls (λ k. m (journal k 0)) (λ k. m (journal k 1)) (map (seen rows) vs)
    was_rows = l.schedule rows

    was_rowed : RowedSound (seen rowed v)
    was_rowed = l.schedule rowed id (seen rowed v) (at_map (seen rowed) vs id v at)

    -- the new number lacks both rows, once
    lacks-task : (k : ℕ) → lacking_task k (slice_set (map (seen rows) vs) id (seen rows after_draw)) ≡ lacking_task k (map (seen rows) vs) + one_if (n == k)
    lacks-task k = omega (arith, total-set (λ (h : Unwritten). times k h.no_task) (map (seen rows) vs) id (seen rows v) (seen rows after_draw) (at_map (seen rows) vs id v at))

    lacks-after : (k : ℕ) → lacking_after k (slice_set (map (seen rows) vs) id (seen rows after_draw)) ≡ lacking_after k (map (seen rows) vs) + one_if (n == k)
    lacks-after k = omega (arith, total-set (λ (h : Unwritten). times k h.no_after) (map (seen rows) vs) id (seen rows v) (seen rows after_draw) (at_map (seen rows) vs id v at))

    -- which hands have the task t
    task-of-run : (t : ℕ) (k : ℕ) (x : View) → At vs k x → (j : ℕ) (r : Run) → At x.runs j r → one_if (task_of calls r.number == t) ≡ one_if (task_of s.calls r.number == t)
    task-of-run t k x there j r there' = ap (λ (y : ℕ). one_if (y == t)) (task-same s.calls a r.number (not-new s.calls a r.number (run-numbers k x there j r there')))

    hands-view : (t k : ℕ) (h : TasksHeld) → At (map (seen owners) vs) k h → in_hands calls t h ≡ in_hands s.calls t h
    hands-view t k h there =
        let x = map_at (seen owners) vs k h there in
        subst (λ (y : TasksHeld). in_hands calls t y ≡ in_hands s.calls t y) x.2
        (omega (arith, total-same (λ (r : Run). one_if (task_of calls r.number == t)) (λ (r : Run). one_if (task_of s.calls r.number == t)) (x.0).runs (task-of-run t k x.0 x.1)))

    -- one hand more has the new number
    hands-now : (t : ℕ) → total (in_hands calls t) (slice_set (map (seen owners) vs) id (seen owners after_draw)) ≡ total (in_hands s.calls t) (map (seen owners) vs) + one_if (n == t)
    hands-now t = omega (
      arith,
      total-same (in_hands calls t) (in_hands s.calls t) (map (seen owners) vs) (hands-view t),
      total-set (in_hands calls t) (map (seen owners) vs) id (seen owners v) (seen owners after_draw) (at_map (seen owners) vs id v at),
      is.run_as.sums (λ (r : Run). one_if (task_of calls r.number == t)) (λ r r' alike. ap (λ (y : ℕ). one_if (task_of calls y == t)) alike.number),
    )

    -- nothing had the new number
    saved-none : (w : ℕ) → w < units_of g.plan → saved_at states (λ x. m (task x)) n w ≤ 0
    saved-none w near = by (is_saved (states w)) refl
      where
        by : (b : Bool) → is_saved (states w) ≡ b → cond b (one_if (m (task w) == n)) 0 ≤ 0
        by true e =
            let number = saved-number w near e in
            omega (arith, ap one_if (ne_eqb (m (task w)) n (λ same. omega (arith, same, ((l.schedule owners).is_of w near (saved-record (states w) e)).1, (task-of-number s.calls a sound (number_of (states w)) number).1, number.1))))
        by false e = omega arith

    hand-none : (k : ℕ) (h : TasksHeld) → At (map (seen owners) vs) k h → in_hands s.calls n h ≤ 0
    hand-none k h there =
        let x = map_at (seen owners) vs k h there in
        subst (λ (y : TasksHeld). in_hands s.calls n y ≤ 0) x.2
        (omega (
          arith,
          total-bounded (λ (y : Drawn). one_if (y.number == n)) 0 (x.0).drawn (λ j y at'. omega (arith, ap one_if (ne_eqb y.number n (not-new s.calls a y.number (drawn-numbers k x.0 x.1 j y at'))))),
          total-bounded (λ (r : Run). one_if (task_of s.calls r.number == n)) 0 (x.0).runs (λ j r at'. let number = run-numbers k x.0 x.1 j r at' in
              omega (arith, ap one_if (ne_eqb (task_of s.calls r.number) n (λ same. omega (arith, same, (task-of-number s.calls a sound r.number number).1, number.1))))),
        ))

    ends-none : ends_of n s.ends ≡ 0
    ends-none = elim (cases_lt 0 (ends_of n s.ends)) [
      | inl some ↦ absurd (not-new s.calls a n ((l.schedule owners).ended n (omega (arith, some))).0 refl)
      | inr none ↦ omega (arith, none)
    ]

    -- each task stands in one place, or has ended
    one-place : (t : ℕ) → IsTaskOf calls t → below (saved_at states (λ x. m (task x)) t) (units_of g.plan) + total (in_hands calls t) (slice_set (map (seen owners) vs) id (seen owners after_draw)) + ends_of t s.ends ≡ 1
    one-place t is_task = elim (cases_eq t n) [
      | inl e ↦ subst (λ (x : ℕ). below (saved_at states (λ y. m (task y)) x) (units_of g.plan) + total (in_hands calls x) (slice_set (map (seen owners) vs) id (seen owners after_draw)) + ends_of x s.ends ≡ 1) (sym e)
          (omega (
            arith,
            hands-now n,
            ends-none,
            ap one_if (eq-eqb n n refl),
            total-bounded (in_hands s.calls n) 0 (map (seen owners) vs) hand-none,
            below-bounded (saved_at states (λ y. m (task y)) n) 0 (units_of g.plan) saved-none,
          ))
      | inr ne ↦ omega (arith, hands-now t, ap one_if (ne_eqb n t (λ e. ne (sym e))), (l.schedule owners).once t (task-was s.calls a t is_task ne))
    ]

    was_run : Each (IsRun g.plan s.calls) v.runs
    was_run = l.schedule running id v.runs (at_map (seen running) vs id v at)

    -- what is said of a run is so still, where the new number is not of its task
    run-stays : (r : Run) → (r.asked ≡ false → task_of s.calls r.number ≢ task_in (Some a) n) → IsRun g.plan s.calls r → IsRun g.plan calls r
    run-stays r apart was = record {
      near = was.near;
      accepted = number-stays s.calls a r.number was.accepted;
      task = was.task ∙ sym (task-same s.calls a r.number (not-new s.calls a r.number was.accepted));
      last = λ not. last-stays s.calls a r.number (not-new s.calls a r.number was.accepted) (apart not) (was.last not);
    }

    -- but for being the last
    abbrev StaysRun : Run → Type 0
    StaysRun r = (r.unit < units_of g.plan) × IsNumber calls r.number × (r.task ≡ task_of calls r.number)

    -- and what is said of those of this hand
    my-runs : Each (IsRun g.plan calls) runs
    my-runs k r there =
        let t = is.run_as.each StaysRun
        (λ x y alike e. (
          subst (λ (w : ℕ). w < units_of g.plan) (sym alike.unit) e.0,
          subst (IsNumber calls) (sym alike.number) e.1,
          alike.task ∙ e.2 ∙ ap (task_of calls) (sym alike.number),
        ))
        (λ j x at'. let was = was_run j x at' in (was.near, number-stays s.calls a x.number was.accepted, was.task ∙ sym (task-same s.calls a x.number (not-new s.calls a x.number was.accepted)))) k r there in
        record { near = t.0; accepted = t.1; task = t.2; last = is.mine_last k r there }

    abbrev IsFramed : Run → Type 0
    IsFramed r = IsFrameOf g.checked calls (λ w. m (task w)) r.number (body_at g.checked (slice_index r.words))

    -- the frames of runs are those of their tasks still
    framed-old : (k : ℕ) (x : View) → At vs k x → Each IsFramed x.runs
    framed-old k x there j r there' =
        frame-stays s.calls a sound g.checked (λ w. m (task w)) r.number (body_at g.checked (slice_index r.words)) (run-numbers k x there j r there') ((l.schedule framed).running k x.runs (at_map (seen framed) vs k x there) j r there')

    -- what stands in a list or a chain is a record of the table
    listed-near : (k w : ℕ) → k < units_of g.plan → Has w (listed states (λ x. m (head x)) (λ x. m (next x)) k) → w < units_of g.plan
    listed-near k w near has =
        let here : times w (listed states (λ x. m (head x)) (λ x. m (next x)) k) ≤ below (λ j. times w (listed states (λ x. m (head x)) (λ x. m (next x)) j)) (units_of g.plan) =
        below-member (λ j. times w (listed states (λ x. m (head x)) (λ x. m (next x)) j)) (units_of g.plan) k near in
        (standing states (λ x. m (head x)) (λ x. m (next x)) g.plan (map (table_seen waits) vs) (l.table waits) w (omega (arith, here, (times-some w (listed states (λ x. m (head x)) (λ x. m (next x)) k)).1 has))).0

    chained-near : (k : ℕ) (x : View) → At vs k x → (j : ℕ) (chain : List ℕ) (i w : ℕ) → At x.chains j chain → At chain i w → w < units_of g.plan
    chained-near k x there j chain i w at' at'' =
        let some : 1 ≤ chains_at w x.chains = omega (arith, total-member (times w) x.chains j chain at', (times-some w chain).1 (i, at'')) in
        (chain-waits states (λ y. m (head y)) (λ y. m (next y)) g.plan (map (table_seen waits) vs) (l.table waits) k (table_seen waits x) (at_map (table_seen waits) vs k x there) w some).0

    -- what waits or is ready is behind what it was behind
    after-stays : (w : ℕ) → w < units_of g.plan → is_saved (states w) ≡ true → after_of calls (number_of (states w)) ≡ after_of s.calls (number_of (states w))
    after-stays w near saved = after-same s.calls a (number_of (states w)) (not-new s.calls a (number_of (states w)) (saved-number w near saved))

    -- members of the lists of all passes
    old-or-new : (q : Part) (P : Seen q → Type 0) → ((k : ℕ) (x : View) → At vs k x → P (seen q x)) → P (seen q after_draw) → Each P (slice_set (map (seen q) vs) id (seen q after_draw))
    old-or-new q P old here = each-set P (map (seen q) vs) id (seen q after_draw) (λ k h there. let x = map_at (seen q) vs k h there in subst P x.2 (old k x.0 x.1)) here

    module _ (asks : AskedSound calls g.plan (seen askers after_draw))
        (roots_say : RootTasksSound g.checked g.plan calls (λ w. m (task w)) (λ r. m (root r)) (slice_set (map (seen root_tasks) vs) id (seen root_tasks after_draw))) where
      draw-says : (q : Part) → Says g q story m' (map (seen q) (slice_set vs id after_draw))
      draw-says draws = moves g vs id v at draws story m' after_draw
          (omega (arith, l.schedule draws, is.may, word-is, total-set (λ (k : ℕ). k) (map (seen draws) vs) id (seen draws v) 0 (at_map (seen draws) vs id v at)))
      draw-says names = calls-more s.calls a sound is.names is.next
      draw-says suited = each-append (Suits g.checked) s.calls (a ∷ []) (l.schedule suited) (each-cons (Suits g.checked) a [] is.suits (each-none _))
      draw-says results = l.schedule results
      draw-says begun = λ w near is.
          subst (λ (o : Option ℕ). IfSome o (IsComplete s.ends)) (sym (after-same s.calls a (number_of (states w)) (not-new s.calls a (number_of (states w)) ((l.schedule owners).is_of w near (begun-record (states w) is)).0)))
          (l.schedule begun w near is)
      draw-says callers = moves g vs id v at callers story m' after_draw (record {
        once = λ k. omega (
          arith,
          (l.schedule callers).once k,
          is-number-more s.calls a k,
          total-set (λ (known : List (ℕ × Accepted)). total (λ x. one_if (x.0 == k)) known) (map (seen callers) vs) id (seen callers v) (seen callers after_draw) (at_map (seen callers) vs id v at),
        );
        same = old-or-new callers (Each (λ (x : ℕ × Accepted). AtNumber calls x.0 x.1))
            (λ k x there j y there'. number-old s.calls a y.1 y.0 ((l.schedule callers).same k x.calls (at_map (seen callers) vs k x there) j y there'))
            (each-cons (λ (x : ℕ × Accepted). AtNumber calls x.0 x.1) (n, a) v.calls (number-here s.calls a)
            (λ j y there'. number-old s.calls a y.1 y.0 ((l.schedule callers).same id v.calls (at_map (seen callers) vs id v at) j y there')));
      })
      draw-says facts = moves g vs id v at facts story m' after_draw
          (old-or-new facts (Each (IsSo calls s.ends))
          (λ k x there j y there'. so-stays s.calls a s.ends y (l.schedule facts k x.facts (at_map (seen facts) vs k x there) j y there'))
          (each-cons (IsSo calls s.ends) (IsAccepted n a) v.facts (number-here s.calls a) (λ j y there'. so-stays s.calls a s.ends y (l.schedule facts id v.facts (at_map (seen facts) vs id v at) j y there'))))
      draw-says rows = moves g vs id v at rows story m' after_draw (record {
        task = row-drawn (λ k. m (journal k 0)) (task_of s.calls) (task_of calls) (λ k. lacking_task k (map (seen rows) vs)) (λ k. lacking_task k (slice_set (map (seen rows) vs) id (seen rows after_draw)))
            (task-same s.calls a) lacks-task was_rows.task;
        after = row-drawn (λ k. m (journal k 1)) (λ k. word_of_task (after_of s.calls k)) (λ k. word_of_task (after_of calls k)) (λ k. lacking_after k (map (seen rows) vs))
            (λ k. lacking_after k (slice_set (map (seen rows) vs) id (seen rows after_draw))) (λ k ne. ap word_of_task (after-same s.calls a k ne)) lacks-after was_rows.after;
        task_once = λ k. omega (arith, was_rows.task_once k, is-number-more s.calls a k, lacks-task k);
        after_once = λ k. omega (arith, was_rows.after_once k, is-number-more s.calls a k, lacks-after k);
      })
      draw-says rowed = moves g vs id v at rowed story m' after_draw (each-set RowedSound (map (seen rowed) vs) id (seen rowed after_draw) (l.schedule rowed) (record {
        task = λ k. omega (arith, was_rowed.task k);
        after = λ k. omega (arith, was_rowed.after k);
        runs = is.run_as.each (λ (r : Run). 1 ≤ times r.number v.taken) (λ r r' alike e. subst (λ (w : ℕ). 1 ≤ times w v.taken) (sym alike.number) e) was_rowed.runs;
      }))
      draw-says places = moves g vs id v at places story m' after_draw
          (λ k. omega (arith, l.schedule places k, is-number-more s.calls a k, total-set (in_hand k) (map (seen places) vs) id (seen places v) (seen places after_draw) (at_map (seen places) vs id v at)))
      draw-says askers = moves g vs id v at askers story m' after_draw
          (old-or-new askers (AskedSound calls g.plan) (λ k x there. asked-stays s.calls a g.plan (seen askers x) (drawn-numbers k x there) (run-numbers k x there) (l.schedule askers k (seen askers x) (at_map (seen askers) vs k x there))) asks)
      draw-says framed = moves g vs id v at framed story m' after_draw (record {
        saved = λ w near saved. frame-stays s.calls a sound g.checked (λ x. m (task x)) (number_of (states w)) (body_at g.checked (frame_in m w)) (saved-number w near saved) ((l.schedule framed).saved w near saved);
        names = (l.schedule framed).names;
        running = old-or-new framed (Each IsFramed) framed-old
            (is.run_as.each IsFramed (λ r r' alike e. subst (λ (k : ℕ). IsFrameOf g.checked calls (λ w. m (task w)) k (body_at g.checked (slice_index r'.words))) (sym alike.number)
            (subst (λ (ws : List ℕ). IsFrameOf g.checked calls (λ w. m (task w)) r.number (body_at g.checked (slice_index ws))) (sym alike.words) e)) (framed-old id v at));
      })
      draw-says formed = moves g vs id v at formed story m' after_draw (record {
        saved = (l.schedule formed).saved;
        running = each-set _ (map (seen formed) vs) id runs (l.schedule formed).running
            (is.run_as.each (λ (r : Run). IsFormed g.checked (slice_index r.words)) (λ r r' alike e. subst (λ (ws : List ℕ). IsFormed g.checked (slice_index ws)) (sym alike.words) e)
            ((l.schedule formed).running id v.runs (at_map (seen formed) vs id v at)));
      })
      draw-says root_tasks = moves g vs id v at root_tasks story m' after_draw roots_say
      draw-says owners = moves g vs id v at owners story m' after_draw (record {
        is_of = λ w near record_is. let was = (l.schedule owners).is_of w near record_is in
            (number-stays s.calls a (number_of (states w)) was.0, was.1 ∙ sym (task-same s.calls a (number_of (states w)) (not-new s.calls a (number_of (states w)) was.0)));
        once = one-place;
        done = (l.schedule owners).done;
        ended = λ t some. task-stays s.calls a t ((l.schedule owners).ended t some);
        last_saved = λ w near saved. last-stays s.calls a (number_of (states w)) (not-new s.calls a (number_of (states w)) (saved-number w near saved)) (is.saved_apart w near saved) ((l.schedule owners).last_saved w near saved);
        last_drawn = old-or-new owners (λ h. Each (λ (y : Drawn). IsLast calls y.number) h.drawn) old-last (each-cons (λ (y : Drawn). IsLast calls y.number) d v.drawn (last-new s.calls a) (old-last id v at));
      })
        where
          old-last : (k : ℕ) (x : View) → At vs k x → Each (λ (y : Drawn). IsLast calls y.number) x.drawn
          old-last k x there j y there' =
              last-stays s.calls a y.number (not-new s.calls a y.number (drawn-numbers k x there j y there')) (is.drawn_apart k x there j y there') ((l.schedule owners).last_drawn k (seen owners x) (at_map (seen owners) vs k x there) j y there')
      draw-says running = moves g vs id v at running story m' after_draw (λ k rs there. by k rs (set_cases (map (seen running) vs) id k runs rs there))
        where
          by : (k : ℕ) (rs : List Run) → ((k ≡ id) × (rs ≡ runs)) ⊎ ((k ≢ id) × At (map (seen running) vs) k rs) → Each (IsRun g.plan calls) rs
          by k rs (inl t) = subst (Each (IsRun g.plan calls)) (sym t.1) my-runs
          by k rs (inr t) =
              let x = map_at (seen running) vs k rs t.1 in
              subst (Each (IsRun g.plan calls)) x.2 (λ j r there. run-stays r (is.runs_apart k x.0 t.0 x.1 j r there) (l.schedule running k (x.0).runs (at_map (seen running) vs k x.0 x.1) j r there))
      draw-says live = moves g vs id v at live story m' after_draw
          (omega (
            arith,
            l.schedule live,
            is.mades.sums (λ (r : Made). one_if r.live) (λ r r' alike. ap one_if alike.live),
            total-set lives_in (map (seen live) vs) id (seen live v) (seen live after_draw) (at_map (seen live) vs id v at),
          ))
      draw-says counted_lives = moves g vs id v at counted_lives story m' after_draw
          (let was : CountedSound (seen counted_lives v) = l.schedule counted_lives id (seen counted_lives v) (at_map (seen counted_lives) vs id v at) in
          each-set CountedSound (map (seen counted_lives) vs) id (seen counted_lives after_draw) (l.schedule counted_lives) (record { made = is.counted; done = was.done }))
      draw-says classes = moves g vs id v at classes story m' after_draw (record {
        records = λ w near record_is. (l.schedule classes).records w near record_is ∙ ap (class_in g.checked) (sym (call-same s.calls a sound (number_of (states w)) ((l.schedule owners).is_of w near record_is).0));
        made = old-or-new classes (Each (λ (r : Made). r.number ≢ 0 → r.class ≡ class_in g.checked (by_number calls r.number))) (class-stays a) is.class;
      })
      draw-says behind = frames g vs id v at behind story m' after_draw refl (record {
        listed_behind = λ k w near has. after-stays w (listed-near k w near has) (listed-waits g id v m vs s l at k w near has) ∙ (l.schedule behind).listed_behind k w near has;
        chained_behind = λ k chains at' j chain at'' i w at'''.
            let x = map_at (seen behind) vs k chains at' in
            subst (λ (o : Option ℕ). IfSome o (IsComplete s.ends))
            (sym (after-stays w (chained-near k x.0 x.1 j chain i w (subst (λ (c : List (List ℕ)). At c j chain) (sym x.2) at'') at''') (chained-waits g id v m vs s l at k chains j chain i w at' at'' at''')))
            ((l.schedule behind).chained_behind k chains at' j chain at'' i w at''');
      })
      draw-says bags = moves g vs id v at bags story m' after_draw (each-set (BagSound g.checked) (map (seen bags) vs) id _ (l.schedule bags) (is.bag (l.schedule bags id (seen bags v) (at_map (seen bags) vs id v at))))
      draw-says limits = frames g vs id v at limits story m' after_draw refl (limits-stay g.plan.limit s.calls a s.ends (map (seen limits) vs) (l.schedule limits))
      draw-says quiet = frames g vs id v at quiet story m' after_draw refl (l.schedule quiet)

      -- all parts, of the story with the new call
      pub drawn : AllSay g story m' (slice_set vs id after_draw)
      drawn = record { table = draw-table; schedule = draw-says }
