-- The two rows of the number of a running record are seen: nobody lacks them, so they say its task and its predecessor.
use Rattle.std.proofs.Common.{◌≡◌, ◌∙◌, ℕ, ◌≤◌, ◌==◌, Bool, true, cond, Option, Some, None, List, [], ◌∷◌, map, length, refl, sym, ap, subst, arith, inl}
use Rattle.std.specs.Prelude.{IfSome}
use Rattle.record_core.specs.Sums.{total}
use Rattle.record_core.specs.Counting.{At, Has, one_if, times}
use Rattle.record_core.proofs.TotalFacts.{total-map, total-plus, total-le, total-member}
use Rattle.record_core.proofs.NumberFacts.{numbered_member}
use Rattle.task_meaning.specs.Worths.{Accepted, OfCall, OfAll, Respawn}
use Rattle.table_core.specs.Addresses.{Mem, journal}
use Rattle.table_core.specs.Holdings.{Run}
use Rattle.table_core.specs.Lists.{Each}
use Rattle.table_core.specs.Parts.{totals}
use Rattle.table_core.specs.Story.{Story, IsAccepted}
use Rattle.table_core.specs.Views.{saw}
use Rattle.table_core.specs.declared.setup.Setup.{Setup}
use Rattle.table_core.specs.declared.view.View.{View}
use Rattle.table_core.proofs.ListFacts.{at_map}
use Rattle.schedule_rule.specs.Calls.{AtNumber, after_in, first_in, task_of, after_of, is_number, IsBefore, NamesEarlier}
use Rattle.schedule_rule.specs.Numbers.{in_hand, IsRun}
use Rattle.schedule_rule.specs.Rows.{word_of_task, row_word, lacking_task, lacking_after, drawn_at, Unwritten}
use Rattle.schedule_rule.specs.SeeingViews.{IsAfterRow}
use Rattle.schedule_rule.specs.Parts.{names, facts, rows, rowed, places, running, seen, AllSay, Keeps}
use Rattle.schedule_rule.proofs.Rule.{same-story}
use Rattle.schedule_rule.proofs.SeeingKinds.{seen-says}
use Rattle.schedule_rule.proofs.StoryFacts.{is-number}

-- what a call is behind was accepted before it
behind-earlier : (calls : List Accepted) (n : ℕ) (call : Accepted) → NamesEarlier calls n call → IfSome (after_in (Some call)) (IsBefore calls n)
behind-earlier calls n (OfCall call waits) earlier = earlier.1
behind-earlier calls n (Respawn task waits) earlier = earlier.1
behind-earlier calls n (OfAll members) earlier = first members earlier.0 earlier.2
  where
    first : (members : List ℕ) → 1 ≤ length members → Each (IsBefore calls n) members → IfSome (first_in members) (IsBefore calls n)
    first [] some all = absurd (omega (arith, some))
    first (t ∷ more) some all = all 0 t refl

-- a task that was accepted before a number is less than that, and its word is itself
word-few : (calls : List Accepted) (n : ℕ) (o : Option ℕ) → IfSome o (IsBefore calls n) → word_of_task o ≤ n
word-few calls n None before = omega arith
word-few calls n (Some t) before = omega (arith, before.0)

module _ (g : Setup) (id : ℕ) (v : View) where
  module _ (m : Mem) (vs : List View) (s : Story) (l : AllSay g s m vs) (at : At vs id v) (r : Run) (has : Has r v.runs) where
    abbrev n : ℕ
    n = r.number

    -- what the pass says of the run is so
    is_run : IsRun g.plan s.calls r
    is_run = l.schedule running id v.runs (at_map (seen running) vs id v at) has.0 r has.1

    -- its number is that of an accepted call
    numbered : is_number s.calls n ≡ true
    numbered = is-number s.calls n is_run.accepted

    -- the number was taken
    was_taken : 1 ≤ times n v.taken
    was_taken = (l.schedule rowed id (seen rowed v) (at_map (seen rowed) vs id v at)).runs has.0 r has.1

    -- so it is drawn in no hand
    not_drawn : total (λ (x : View). drawn_at n x.drawn) vs ≡ 0
    not_drawn = omega (
      arith,
      was_taken,
      total-member (λ (x : View). times n x.taken) vs id v at,
      total-plus (λ (x : View). drawn_at n x.drawn) (λ (x : View). times n x.taken) vs,
      total-map (in_hand n) (seen places) vs,
      l.schedule places n,
      ap one_if numbered,
    )

    -- and nobody lacks its rows
    no-task-lacks : lacking_task n (map (seen rows) vs) ≡ 0
    no-task-lacks = omega (
      arith,
      not_drawn,
      total-map (λ (h : Unwritten). times n h.no_task) (seen rows) vs,
      total-le (λ (x : View). times n x.no_task) (λ (x : View). drawn_at n x.drawn) vs (λ k x there. (l.schedule rowed k (seen rowed x) (at_map (seen rowed) vs k x there)).task n),
    )

    -- the same of the second row
    no-after-lacks : lacking_after n (map (seen rows) vs) ≡ 0
    no-after-lacks = omega (
      arith,
      not_drawn,
      total-map (λ (h : Unwritten). times n h.no_after) (seen rows) vs,
      total-le (λ (x : View). times n x.no_after) (λ (x : View). drawn_at n x.drawn) vs (λ k x there. (l.schedule rowed k (seen rowed x) (at_map (seen rowed) vs k x there)).after n),
    )

    -- a row that nobody lacks is written
    row-is : (lacking word : ℕ) → lacking ≡ 0 → row_word s.calls n lacking word ≡ word
    row-is lacking word none = ap (λ (b : Bool). cond b (cond (lacking == 0) word 0) 0) numbered ∙ ap (λ (k : ℕ). cond (k == 0) word 0) none

    -- the first row says the task of the run
    task-row : m (journal n 0) ≡ r.task
    task-row = (l.schedule rows).task n ∙ row-is (lacking_task n (map (seen rows) vs)) (task_of s.calls n) no-task-lacks ∙ sym is_run.task

    -- the second row says the predecessor of its number
    after-row : m (journal n 1) ≡ word_of_task (after_of s.calls n)
    after-row = (l.schedule rows).after n ∙ row-is (lacking_after n (map (seen rows) vs)) (word_of_task (after_of s.calls n)) no-after-lacks

    -- what is known of the number's call is so
    known-call : (call : Accepted) → Has (IsAccepted n call) v.facts → AtNumber s.calls n call
    known-call call knows = l.schedule facts id v.facts (at_map (seen facts) vs id v at) knows.0 (IsAccepted n call) knows.1

    -- the call of the number
    its_call : (call : Accepted) × AtNumber s.calls n call
    its_call = numbered_member s.calls n is_run.accepted.0 is_run.accepted.1

    -- what is behind comes earlier
    earlier : (call : Accepted) → AtNumber s.calls n call → IfSome (after_in (Some call)) (IsBefore s.calls n)
    earlier call is = behind-earlier s.calls n call ((l.schedule names).earlier n call is)

    -- the second row says what the step tells of it
    is-after-row : IsAfterRow g.plan.limit v n (m (journal n 1))
    is-after-row = record {
      few = omega (
        arith,
        after-row,
        ap (λ (o : Option Accepted). word_of_task (after_in o)) its_call.1,
        word-few s.calls n (after_in (Some its_call.0)) (earlier its_call.0 its_call.1),
        is_run.accepted.1,
        (l.table totals).drawn,
      );
      is = λ call knows. ap (λ (o : Option Accepted). word_of_task (after_in o)) (sym (known-call call knows)) ∙ sym after-row;
      some = λ call t knows is. (subst (λ (o : Option ℕ). IfSome o (IsBefore s.calls n)) is (earlier call (known-call call knows))).1.0.0;
    }

  -- the row of its task
  pub sees-task-row-at : (r : Run) → Has r v.runs → Keeps g id v (journal r.number 0) (λ n. n) (λ k w. (w ≡ saw (journal r.number 0) k v) × (k ≡ r.task))
  sees-task-row-at r has m vs s l at small = (
    saw (journal r.number 0) (m (journal r.number 0)) v,
    (s, same-story s, seen-says g id v m vs s l at (journal r.number 0)),
    (refl, task-row m vs s l at r has),
    (refl, refl, inl refl),
  )

  -- the row of its predecessor
  pub sees-after-row-at : (r : Run) → Has r v.runs → Keeps g id v (journal r.number 1) (λ n. n) (λ k w. (w ≡ saw (journal r.number 1) k v) × IsAfterRow g.plan.limit v r.number k)
  sees-after-row-at r has m vs s l at small = (
    saw (journal r.number 1) (m (journal r.number 1)) v,
    (s, same-story s, seen-says g id v m vs s l at (journal r.number 1)),
    (refl, is-after-row m vs s l at r has),
    (refl, refl, inl refl),
  )
