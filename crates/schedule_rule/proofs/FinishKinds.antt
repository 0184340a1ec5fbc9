-- A running record is done: its task has ended, and the scheduler's rule is kept.
use Rattle.std.proofs.Common.{◌≡◌, ◌≢◌, ◌∙◌, ◌⊎◌, inl, inr, ℕ, ◌+◌, ◌<◌, ◌≤◌, ◌==◌, ◌&&◌, Bool, true, false, cond, not, Option, Some, None, List, [], ◌∷◌, ◌++◌, map, length, refl, sym, ap, subst, true≢false, arith}
use Rattle.std.specs.Prelude.{slice_get, slice_set, slice_index, nat_le, IfSome}
use Rattle.std.proofs.lemmas.Bool.{cases_eq, eq-eqb, ne_eqb}
use Rattle.record_core.specs.Sums.{below}
use Rattle.record_core.specs.Counting.{At, Has, one_if, times, passing, dropped}
use Rattle.record_core.specs.Numbers.{by_number}
use Rattle.record_core.proofs.BelowFacts.{below-same, below-set}
use Rattle.record_core.proofs.CountFacts.{passing-one, total-dropped}
use Rattle.record_core.proofs.TotalFacts.{total-set, total-member, total-snoc}
use Rattle.kt_words.specs.HeadWords.{closed_word, link_of, length_of}
use Rattle.kt_words.specs.StateWords.{phase_of, number_of, IsStateWord, tag_of, tag_code}
use Rattle.frame_code.specs.Words.{body_at}
use Rattle.task_meaning.specs.Worths.{OfAll}
use Rattle.task_syntax.specs.declared.program.Program.{Program}
use Rattle.table_core.specs.Addresses.{Mem, state, head, next, task, put, units_of, frame_in, outcome as result_word}
use Rattle.table_core.specs.Asking.{Asker, OfRoot, OfTask, Drawn, Answer, Null, Limit, By, IsLimit}
use Rattle.table_core.specs.Bounds.{IsBounded}
use Rattle.table_core.specs.Holdings.{Run}
use Rattle.table_core.specs.Lists.{Each}
use Rattle.table_core.specs.Own.{Hands, runs_at}
use Rattle.table_core.specs.References.{is_saved, is_live, is_record}
use Rattle.table_core.specs.Story.{Story, Outcome, End, Fact, IsAccepted, IsOver, IsTask, Gave, WasCut}
use Rattle.table_core.specs.Views.{saw}
use Rattle.table_core.specs.WaitLists.{chained, listed}
use Rattle.table_core.specs.WaitViews.{is_run_at, finished, new_done}
use Rattle.table_core.specs.Parts.{Part as TablePart, bounds, own, totals, seen as table_seen, Says as TableSays}
use Rattle.table_core.specs.declared.setup.Setup.{Setup}
use Rattle.table_core.specs.declared.view.View.{View}
use Rattle.table_core.proofs.FinishKinds.{ran, recorded, saved, number-same, finish-parts as finish-table}
use Rattle.table_core.proofs.ListFacts.{at_map, each-set, each-cons, each-dropped, total-has, total-dropped_le, same_some, each-append, each-none}
use Rattle.table_core.proofs.PoolKinds.{bounded}
use Rattle.table_core.proofs.RecordKinds.{state-here, state-other}
use Rattle.table_core.proofs.ReferenceBound.{in-few}
use Rattle.table_core.proofs.Rule.{moves as table_moves}
use Rattle.schedule_rule.specs.Askers.{asks_for, IsAsker, IsForRecord, AskedSound}
use Rattle.schedule_rule.specs.Calls.{task_of, after_of, IsNumber, IsTaskOf, IsLast, IsComplete, IsSo, ends_of, Ended}
use Rattle.schedule_rule.specs.Counts.{lives_in, class_in, CountedSound}
use Rattle.schedule_rule.specs.Frames.{IsFrameOf, Covers, needed, BagSound}
use Rattle.schedule_rule.specs.LifeViews.{ended, FinishedTask, KnowsEnd, IsFinishWord}
use Rattle.schedule_rule.specs.Numbers.{in_state, saved_at, done_with, in_hands, IsRun, is_begun}
use Rattle.schedule_rule.specs.Limits.{ToldSound, is_limit, IsMet, is_limit_end}
use Rattle.schedule_rule.proofs.LimitFacts.{each-answers_left}
use Rattle.schedule_rule.specs.Parts.{Part, facts, rowed, places, askers, framed, owners, running, live, classes, behind, bags, seen, Says, AllSay, Keeps, formed, results, begun, counted_lives, limits}
use Rattle.schedule_rule.specs.Rows.{RowedSound}
use Rattle.schedule_rule.proofs.KnowingFacts.{has-append, table-alike}
use Rattle.schedule_rule.proofs.RecordKinds.{has-left}
use Rattle.schedule_rule.proofs.Rule.{frames, moves, one-end}
use Rattle.schedule_rule.proofs.StoryFacts.{task-of-number}
use Rattle.schedule_rule.specs.Results.{tag_for, IsResult, SaysOutcome}
use Rattle.task_syntax.specs.declared.value.Value.TheVariants.{Number, Trapped}
use Rattle.schedule_rule.proofs.StateFacts.{begun-phase}

map-dropped : {A B : Type 0} (f : A → B) (q : B → Bool) (l : List A) → map f (dropped (λ x. q (f x)) l) ≡ dropped q (map f l)
map-dropped f q [] = refl
map-dropped {A} {B} f q (x ∷ l) = by (q (f x)) (map-dropped f q l)
  where
    by : (b : Bool) → map f (dropped (λ y. q (f y)) l) ≡ dropped q (map f l) → map f (cond b l (x ∷ dropped (λ y. q (f y)) l)) ≡ cond b (map f l) (f x ∷ dropped q (map f l))
    by true rest = refl
    by false rest = ap (λ (ys : List B). f x ∷ ys) rest

-- references that are enough for some runs are enough without one of them
pub bag-dropped : (p : Program) (futures : List ℕ) (runs : List Run) (q : Run → Bool) → BagSound p (record { futures = futures; runs = runs }) → BagSound p (record { futures = futures; runs = dropped q runs })
bag-dropped p futures runs q was = record {
  pairs = dropped (λ (x : Run × List ℕ). q x.0) was.pairs;
  are_runs = map-dropped (λ (x : Run × List ℕ). x.0) q was.pairs ∙ ap (dropped q) was.are_runs;
  covers = each-dropped (λ (x : Run × List ℕ). Covers p x.0 x.1) (λ (x : Run × List ℕ). q x.0) was.pairs was.covers;
  enough = λ u. omega (arith, was.enough u, total-dropped_le (λ (x : Run × List ℕ). times u (needed (body_at p (slice_index x.0.words)) x.1)) (λ (x : Run × List ℕ). q x.0) was.pairs);
}

module _ (g : Setup) (id : ℕ) (v : View) where
  module _ (m : Mem) (vs : List View) (s : Story) (l : AllSay g s m vs) (at : At vs id v) (r : Run) (has : Has r v.runs) (placed : r.unplaced ≡ 0) (in_use : 1 ≤ v.parts) (n : ℕ) (done : phase_of n ≡ 5)
      (numbered : number_of n ≡ r.number) (shape : IsStateWord n) (outcome : Outcome) (tagged : tag_of n ≡ tag_code (tag_for outcome)) (knows : KnowsEnd v r outcome) where
    abbrev u : ℕ
    u = r.unit

    abbrev t : ℕ
    t = r.task

    abbrev states : ℕ → ℕ
    states w = m (state w)

    abbrev now : ℕ → ℕ
    now w = put m (state u) n (state w)

    abbrev tasks : ℕ → ℕ
    tasks w = m (task w)

    abbrev e : End
    e = record { task = t; outcome = outcome }

    abbrev ends : List End
    ends = s.ends ++ e ∷ []

    abbrev story : Story
    story = record s { ends = ends }

    abbrev m' : Mem
    m' = put m (state u) n

    abbrev runs : List Run
    runs = dropped (is_run_at u) v.runs

    abbrev after_finish : View
    after_finish = saw (state u) (m (state u)) (ended t outcome (finished u r.class v))

    was_ran : (u < units_of g.plan) × (phase_of (states u) ≡ 4)
    was_ran = ran g id v m vs s l.table at r has in_use n done numbered shape

    saved-now : (w : ℕ) → is_saved (now w) ≡ is_saved (states w)
    saved-now = saved g id v m vs s l.table at r has in_use n done numbered shape

    recorded-now : (w : ℕ) → is_record (now w) ≡ is_record (states w)
    recorded-now = recorded g id v m vs s l.table at r has in_use n done numbered shape

    number-now : (w : ℕ) → number_of (now w) ≡ number_of (states w)
    number-now = number-same g id v m vs s l.table at r has in_use n done numbered shape

    is_run : IsRun g.plan s.calls r
    is_run = l.schedule running id v.runs (at_map (seen running) vs id v at) has.0 r has.1

    its_number : r.number ≡ number_of (states u)
    its_number = (l.table own).numbers id (table_seen own v) (at_map (table_seen own) vs id v at) has.0 r has.1

    -- the task word of the record is that of the run
    its_task : m (task u) ≡ t
    its_task =
        ((l.schedule owners).is_of u was_ran.0 (ap (λ (p : ℕ). nat_le 2 p && nat_le p 5) was_ran.1)).1 ∙ ap (task_of s.calls) (sym its_number) ∙ sym is_run.task

    is_task : IsTaskOf s.calls t
    is_task = subst (IsTaskOf s.calls) (sym is_run.task) (task-of-number s.calls (OfAll []) (l.schedule Rattle.schedule_rule.specs.Parts.names) r.number is_run.accepted).0

    -- no other run is there
    runs-few : runs_at u v.runs ≤ 1
    runs-few = omega (arith, (l.table own).running u, in-few g m vs s l.table 4 u, total-member (λ (h : Hands). runs_at u h.runs) (map (table_seen own) vs) id (table_seen own v) (at_map (table_seen own) vs id v at))

    only : (x : Run) → Has x v.runs → is_run_at u x ≡ true → x ≡ r
    only x there here =
        let same = passing-one (is_run_at u) v.runs there.0 has.0 x r runs-few there.1 here has.1 (eq-eqb u u refl) in
        same_some x r (sym there.1 ∙ ap (slice_get v.runs) same ∙ has.1)

    -- the end is counted
    ends-now : (k : ℕ) → ends_of k ends ≡ ends_of k s.ends + one_if (t == k)
    ends-now k = total-snoc (λ (x : End). one_if (x.task == k)) s.ends e

    complete-still : (k : ℕ) → IsComplete s.ends k → IsComplete ends k
    complete-still k was = (was.0, has-append (record { task = k; outcome = was.0 }) s.ends (e ∷ []) was.1)

    some-complete : (o : Option ℕ) → IfSome o (IsComplete s.ends) → IfSome o (IsComplete ends)
    some-complete None was = was
    some-complete (Some k) was = complete-still k was

    so-still : (f : Fact) → IsSo s.calls s.ends f → IsSo s.calls ends f
    so-still (IsAccepted k call) is = is
    so-still (IsOver k o) is = has-append (record { task = k; outcome = o }) s.ends (e ∷ []) is
    so-still (IsTask k) is = is

    last-member : (l : List End) → Has e (l ++ e ∷ [])
    last-member [] = (0, refl)
    last-member (x ∷ l) = let t' = last-member l in (suc_of t'.0, t'.1)
      where
        suc_of : ℕ → ℕ
        suc_of k = Rattle.std.proofs.Common.suc k

    finish-table' : (q : TablePart) → TableSays g q story m' (map (table_seen q) (slice_set vs id after_finish))
    finish-table' bounds = table_moves g vs id v at bounds story m' after_finish
        (each-set IsBounded (map (table_seen bounds) vs) id (table_seen bounds after_finish) (l.table bounds) (bounded (table_seen bounds v) _ in_use (l.table bounds id (table_seen bounds v) (at_map (table_seen bounds) vs id v at))))
    finish-table' totals = record { drawn = (l.table totals).drawn; stamps = (l.table totals).stamps }
    finish-table' q = table-alike g s m' vs id (saw (state u) (m (state u)) (finished u r.class v)) after_finish q refl (finish-table g id v m vs s l.table at r has in_use n done numbered shape q)

    in-state-now : (k w : ℕ) → in_state now k w ≡ in_state states k w
    in-state-now k w = ap (λ (b : Bool). cond b (one_if (number_of (now w) == k)) 0) (saved-now w) ∙ ap (λ (x : ℕ). cond (is_saved (states w)) (one_if (x == k)) 0) (number-now w)

    runs-less : (k : ℕ) → passing (λ (x : Run). task_of s.calls x.number == k) runs + one_if (t == k) ≡ passing (λ (x : Run). task_of s.calls x.number == k) v.runs
    runs-less k = total-dropped (λ (x : Run). one_if (task_of s.calls x.number == k)) (is_run_at u) (one_if (t == k)) v.runs
        (λ j x there here. ap (λ (y : Run). one_if (task_of s.calls y.number == k)) (only x (j, there) here) ∙ ap (λ (y : ℕ). one_if (y == k)) (sym is_run.task))
        (record { member = r; there = has; passes = eq-eqb u u refl })

    -- no number is drawn by an act of its task
    none-asks : (d : Drawn) → Has d v.drawn → d.asker ≡ OfTask (task_of s.calls r.number) → ⊥
    none-asks d there by_it =
        let all = (l.schedule askers id (seen askers v) (at_map (seen askers) vs id v at)).unplaced has.0 r has.1 in
        omega (
          arith,
          all,
          placed,
          total-has (λ (x : Drawn). asks_for (task_of s.calls r.number) x.asker) v.drawn d there,
          ap (asks_for (task_of s.calls r.number)) by_it,
          ap one_if (eq-eqb (task_of s.calls r.number) (task_of s.calls r.number) refl),
        )

    -- a run by whose act a number is drawn is another one
    asks-still : (d : Drawn) → Has d v.drawn → (x : Run) → Has x v.runs → d.asker ≡ OfTask (task_of s.calls x.number) → Has x runs
    asks-still d there x has' by_it = has-left (is_run_at u) v.runs x (ne_eqb x.unit u (λ same. none-asks d there (by_it ∙ ap (λ (y : Run). OfTask (task_of s.calls y.number)) (only x has' (eq-eqb x.unit u same))))) has'

    was_asked : AskedSound s.calls g.plan (seen askers v)
    was_asked = l.schedule askers id (seen askers v) (at_map (seen askers) vs id v at)

    asked-now : AskedSound s.calls g.plan (seen askers after_finish)
    asked-now = record {
      asker = λ k d there. let was = was_asked.asker k d there in (asker-still d (k, there) d.asker refl was.0, for-still d (k, there) was.1);
      made = was_asked.made;
      unplaced = each-dropped _ (is_run_at u) v.runs was_asked.unplaced;
      one = each-dropped _ (is_run_at u) v.runs was_asked.one;
      asked = each-dropped _ (is_run_at u) v.runs was_asked.asked;
    }
      where
        asker-still : (d : Drawn) → Has d v.drawn → (a : Asker) → d.asker ≡ a → IsAsker s.calls g.plan (seen askers v) d.number a → IsAsker s.calls g.plan (seen askers after_finish) d.number a
        asker-still d there (OfRoot k) same is = is
        asker-still d there (OfTask k) same is = (is.0, asks-still d there is.0 is.1 (same ∙ ap OfTask (sym is.2)), is.2)

        for-still : (d : Drawn) → Has d v.drawn → IsForRecord s.calls (seen askers v) d → IsForRecord s.calls (seen askers after_finish) d
        for-still d there (inl is) = inl is
        for-still d there (inr is) = inr (is.0, asks-still d there is.0 is.1 is.2.asker, is.2)

    live-less : below (λ w. one_if (is_live (now w))) (units_of g.plan) + 1 ≡ below (λ w. one_if (is_live (states w))) (units_of g.plan)
    live-less = omega (
      arith,
      below-set (λ w. one_if (is_live (states w))) (λ w. one_if (is_live (now w))) (units_of g.plan) u was_ran.0 (λ w low ne. ap (λ (x : ℕ). one_if (is_live x)) (state-other m u n w ne)),
      ap (λ (x : ℕ). one_if (is_live x)) (state-here m u n),
      ap (λ (p : ℕ). one_if (nat_le 2 p && nat_le p 4)) done,
      ap (λ (p : ℕ). one_if (nat_le 2 p && nat_le p 4)) was_ran.1,
    )

    done-more : (k : ℕ) → below (done_with now tasks k) (units_of g.plan) ≡ below (done_with states tasks k) (units_of g.plan) + one_if (t == k)
    done-more k = omega (
      arith,
      below-set (done_with states tasks k) (done_with now tasks k) (units_of g.plan) u was_ran.0 (λ w low ne. ap (λ (x : ℕ). cond (phase_of x == 5) (one_if (tasks w == k)) 0) (state-other m u n w ne)),
      ap (λ (x : ℕ). cond (phase_of x == 5) (one_if (tasks u == k)) 0) (state-here m u n),
      ap (λ (p : ℕ). cond (p == 5) (one_if (tasks u == k)) 0) done,
      ap (λ (p : ℕ). cond (p == 5) (one_if (tasks u == k)) 0) was_ran.1,
      ap (λ (x : ℕ). one_if (x == k)) its_task,
    )

    listed-now : (w : ℕ) → listed now (λ x. m (head x)) (λ x. m (next x)) w ≡ listed states (λ x. m (head x)) (λ x. m (next x)) w
    listed-now w = ap (λ (b : Bool). cond (b && not (m (head w) == closed_word)) (chained (λ x. m (next x)) (link_of (m (head w))) (length_of (m (head w)))) []) (recorded-now w)

    finish-says : (q : Part) → Says g q story m' (map (seen q) (slice_set vs id after_finish))
    finish-says facts = moves g vs id v at facts story m' after_finish
        (each-set (Each (IsSo s.calls ends)) (map (seen facts) vs) id (seen facts after_finish) (λ k fs there j f there'. so-still f (l.schedule facts k fs there j f there'))
        (each-cons (IsSo s.calls ends) (IsOver t outcome) v.facts (last-member s.ends) (λ j f there. so-still f (l.schedule facts id v.facts (at_map (seen facts) vs id v at) j f there))))
    finish-says rowed = moves g vs id v at rowed story m' after_finish (each-set RowedSound (map (seen rowed) vs) id (seen rowed after_finish) (l.schedule rowed)
        (let was = l.schedule rowed id (seen rowed v) (at_map (seen rowed) vs id v at) in record { task = was.task; after = was.after; runs = each-dropped _ (is_run_at u) v.runs was.runs }))
    finish-says places = frames g vs id v at places story m' after_finish refl (λ k. omega (arith, l.schedule places k, below-same (in_state now k) (in_state states k) (units_of g.plan) (λ w low. in-state-now k w)))
    finish-says askers = moves g vs id v at askers story m' after_finish (each-set (AskedSound s.calls g.plan) (map (seen askers) vs) id (seen askers after_finish) (l.schedule askers) asked-now)
    finish-says framed = moves g vs id v at framed story m' after_finish (record {
      saved = λ w low is. subst (λ (x : ℕ). IsFrameOf g.checked s.calls tasks x (body_at g.checked (frame_in m w))) (sym (number-now w)) ((l.schedule framed).saved w low (sym (saved-now w) ∙ is));
      names = λ w low is. (l.schedule framed).names w low (sym (saved-now w) ∙ is);
      running = each-set _ (map (seen framed) vs) id runs (l.schedule framed).running (each-dropped _ (is_run_at u) v.runs ((l.schedule framed).running id v.runs (at_map (seen framed) vs id v at)));
    })
    finish-says formed = moves g vs id v at formed story m' after_finish (record {
      saved = λ w low is. (l.schedule formed).saved w low (sym (saved-now w) ∙ is);
      running = each-set _ (map (seen formed) vs) id runs (l.schedule formed).running (each-dropped _ (is_run_at u) v.runs ((l.schedule formed).running id v.runs (at_map (seen formed) vs id v at)));
    })
    finish-says results = frames g vs id v at results story m' after_finish refl (λ w low is. ended-at w low is (cases_eq w u))
      where
        -- the result word is that of the outcome
        result-is : (o : Outcome) → KnowsEnd v r o → IsResult (m (result_word u)) o
        result-is (Gave (Number k)) knows' = ((l.table own).known id (table_seen own v) (at_map (table_seen own) vs id v at) (result_word u) k knows').0
        result-is (Gave (Trapped trap)) knows' = tt
        result-is (WasCut cut told) knows' = tt

        ended-at : (w : ℕ) → w < units_of g.plan → phase_of (now w) ≡ 5 → (w ≡ u) ⊎ (w ≢ u) → (o : Outcome) × Ended ends (tasks w) o × SaysOutcome (now w) (m (result_word w)) o
        ended-at w low is (inl same) = subst (λ (x : ℕ). (o : Outcome) × Ended ends (tasks x) o × SaysOutcome (now x) (m (result_word x)) o) (sym same) (
          outcome,
          subst (λ (k : ℕ). Ended ends k outcome) (sym its_task) (last-member s.ends),
          (ap tag_of (state-here m u n) ∙ tagged, result-is outcome knows),
        )
        ended-at w low is (inr other) =
            let was = state-other m u n w other in
            let t = l.schedule results w low (ap phase_of (sym was) ∙ is) in
            (t.0, has-append (record { task = tasks w; outcome = t.0 }) s.ends (e ∷ []) t.1, subst (λ (x : ℕ). SaysOutcome x (m (result_word w)) t.0) (sym was) t.2)
    finish-says begun = frames g vs id v at begun story m' after_finish refl (λ w low is. begun-at w low is (cases_eq w u))
      where
        begun-at : (w : ℕ) → w < units_of g.plan → is_begun (now w) ≡ true → (w ≡ u) ⊎ (w ≢ u) → IfSome (after_of s.calls (number_of (now w))) (IsComplete ends)
        begun-at w low is (inl same) = absurd (omega (arith, (begun-phase (now w) is).1, ap (λ (x : ℕ). phase_of (now x)) same ∙ ap phase_of (state-here m u n) ∙ done))
        begun-at w low is (inr ne) =
            let was = state-other m u n w ne in
            subst (λ (x : ℕ). IfSome (after_of s.calls (number_of x)) (IsComplete ends)) (sym was) (some-complete (after_of s.calls (number_of (states w))) (l.schedule begun w low (ap is_begun (sym was) ∙ is)))
    finish-says owners = moves g vs id v at owners story m' after_finish (record {
      is_of = λ w low is. subst (λ (x : ℕ). IsNumber s.calls x × (tasks w ≡ task_of s.calls x)) (sym (number-now w)) ((l.schedule owners).is_of w low (sym (recorded-now w) ∙ is));
      once = λ k is. omega (
        arith,
        (l.schedule owners).once k is,
        below-same (saved_at now tasks k) (saved_at states tasks k) (units_of g.plan) (λ w low. ap (λ (b : Bool). cond b (one_if (tasks w == k)) 0) (saved-now w)),
        total-set (in_hands s.calls k) (map (seen owners) vs) id (seen owners v) (seen owners after_finish) (at_map (seen owners) vs id v at),
        runs-less k,
        ends-now k,
      );
      done = λ k. omega (arith, (l.schedule owners).done k, done-more k, ends-now k);
      ended = λ k some. ended-task k some (cases_eq t k);
      last_saved = λ w low is. subst (IsLast s.calls) (sym (number-now w)) ((l.schedule owners).last_saved w low (sym (saved-now w) ∙ is));
      last_drawn = each-set _ (map (seen owners) vs) id (seen owners after_finish) (l.schedule owners).last_drawn ((l.schedule owners).last_drawn id (seen owners v) (at_map (seen owners) vs id v at));
    })
      where
        ended-task : (k : ℕ) → 1 ≤ ends_of k ends → (t ≡ k) ⊎ (t ≢ k) → IsTaskOf s.calls k
        ended-task k some (inl same) = subst (IsTaskOf s.calls) same is_task
        ended-task k some (inr ne) = (l.schedule owners).ended k (omega (arith, some, ends-now k, ap one_if (ne_eqb t k ne)))
    finish-says running = moves g vs id v at running story m' after_finish
        (each-set _ (map (seen running) vs) id runs (l.schedule running) (each-dropped _ (is_run_at u) v.runs (l.schedule running id v.runs (at_map (seen running) vs id v at))))
    finish-says limits = moves g vs id v at limits story m' after_finish
        (let was : ToldSound g.plan.limit s.calls (seen limits v) = (l.schedule limits).told id (seen limits v) (at_map (seen limits) vs id v at) in
        record {
          told = each-set (ToldSound g.plan.limit s.calls) (map (seen limits) vs) id (seen limits after_finish) (l.schedule limits).told (record { answers = each-answers_left (λ (a : Answer). is_limit a.refusal ≡ true → IsMet g.plan.limit s.calls) t v.answers was.answers; roots = was.roots });
          ended = each-append _ s.ends (e ∷ []) (l.schedule limits).ended (each-cons _ e [] (λ is. met outcome knows is) (each-none _));
        })
      where
        met : (o : Outcome) → KnowsEnd v r o → is_limit_end o ≡ true → IsMet g.plan.limit s.calls
        met (Gave (Number k)) why is = absurd (true≢false (sym is))
        met (Gave (Trapped trap)) why is = absurd (true≢false (sym is))
        met (WasCut Null refusal) why is = absurd (true≢false (sym is ∙ ap is_limit why))
        met (WasCut Limit refusal) why is = ((l.schedule limits).told id (seen limits v) (at_map (seen limits) vs id v at)).answers why.1.0 (record { asker = OfTask t; refusal = IsLimit }) why.1.1 refl
        met (WasCut (By k) refusal) why is =
            let so = l.schedule facts id v.facts (at_map (seen facts) vs id v at) why.4.0 (IsOver k (WasCut why.1 refusal)) why.4.1 in
            (l.schedule limits).ended so.0 (record { task = k; outcome = WasCut why.1 refusal }) so.1 is
    finish-says live = moves g vs id v at live story m' after_finish
        (omega (arith, l.schedule live, live-less, total-set lives_in (map (seen live) vs) id (seen live v) (seen live after_finish) (at_map (seen live) vs id v at)))
    finish-says counted_lives = moves g vs id v at counted_lives story m' after_finish
        (let was : CountedSound (seen counted_lives v) = l.schedule counted_lives id (seen counted_lives v) (at_map (seen counted_lives) vs id v at) in
        each-set CountedSound (map (seen counted_lives) vs) id (seen counted_lives after_finish) (l.schedule counted_lives) (record { made = was.made; done = each-cons _ (new_done u) v.done (λ e. absurd (true≢false (sym e))) was.done }))
    finish-says classes = frames g vs id v at classes story m' after_finish refl (record {
      records = λ w low is. (l.schedule classes).records w low (sym (recorded-now w) ∙ is) ∙ ap (λ (x : ℕ). class_in g.checked (by_number s.calls (task_of s.calls x))) (sym (number-now w));
      made = (l.schedule classes).made;
    })
    finish-says behind = frames g vs id v at behind story m' after_finish refl (record {
      listed_behind = λ k w low there. ap (after_of s.calls) (number-now w) ∙ (l.schedule behind).listed_behind k w low (subst (λ (x : List ℕ). Has w x) (listed-now k) there);
      chained_behind = λ k chains at' j chain at'' i w at'''.
          some-complete (after_of s.calls (number_of (now w)))
          (subst (λ (x : ℕ). IfSome (after_of s.calls x) (IsComplete s.ends)) (sym (number-now w)) ((l.schedule behind).chained_behind k chains at' j chain at'' i w at'''));
    })
    finish-says bags = moves g vs id v at bags story m' after_finish (each-set (BagSound g.checked) (map (seen bags) vs) id (seen bags after_finish) (l.schedule bags)
        (bag-dropped g.checked v.futures v.runs (is_run_at u) (l.schedule bags id (seen bags v) (at_map (seen bags) vs id v at))))
    finish-says q = frames g vs id v at q story m' after_finish refl (l.schedule q)

  -- finish: a running record of the hand by whose acts nothing is unplaced; the new word keeps its number
  pub finishes-at : (r : Run) → Has r v.runs → r.unplaced ≡ 0 → 1 ≤ v.parts → (word : ℕ) (outcome : Outcome) → IsFinishWord v r word outcome
      → Keeps g id v (state r.unit) (λ n. word) (λ k w. FinishedTask r.unit r.task outcome v w)
  finishes-at r has placed in_use word outcome is m vs s l at small = (
    after_finish m vs s l at r has placed in_use word is.done is.number is.shape outcome is.tag is.knows,
    (
      story m vs s l at r has placed in_use word is.done is.number is.shape outcome is.tag is.knows,
      one-end s (record { task = r.task; outcome = outcome }),
      record {
        table = finish-table' m vs s l at r has placed in_use word is.done is.number is.shape outcome is.tag is.knows;
        schedule = finish-says m vs s l at r has placed in_use word is.done is.number is.shape outcome is.tag is.knows;
      },
    ),
    (m (state r.unit), r.class, refl, class-same),
    (refl, refl, inl refl),
  )
    where
      class-same : (x : Run) → Has x v.runs → x.unit ≡ r.unit → x.class ≡ r.class
      class-same x there same = ap (λ (y : Run). y.class) (only m vs s l at r has placed in_use word is.done is.number is.shape outcome is.tag is.knows x there (eq-eqb x.unit r.unit same))
