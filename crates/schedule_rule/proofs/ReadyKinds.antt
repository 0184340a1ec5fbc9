-- A waiter of the hand becomes ready, under its number, and the scheduler's rule is kept.
use Rattle.std.proofs.Common.{◌≡◌, ◌≢◌, ◌∙◌, ◌⊎◌, inl, inr, ℕ, ◌<◌, ◌≤◌, ◌==◌, Bool, true, cond, Option, Some, None, List, map, refl, sym, ap, subst, arith}
use Rattle.std.specs.Prelude.{slice_set, IfSome}
use Rattle.std.proofs.lemmas.Bool.{cases_eq}
use Rattle.record_core.specs.Counting.{At, Has, one_if}
use Rattle.record_core.specs.Numbers.{by_number}
use Rattle.record_core.proofs.BelowFacts.{below-same}
use Rattle.kt_words.specs.StateWords.{phase_of, number_of, IsStateWord}
use Rattle.task_meaning.specs.Worths.{Accepted}
use Rattle.frame_code.specs.Words.{body_at}
use Rattle.table_core.specs.Addresses.{Mem, state, head, next, task, outcome, put, units_of, frame_in}
use Rattle.table_core.specs.Holdings.{Waiter}
use Rattle.table_core.specs.References.{is_saved, is_live, is_record}
use Rattle.table_core.specs.Story.{Story, IsAccepted, IsOver}
use Rattle.table_core.specs.Views.{saw}
use Rattle.table_core.specs.WaitLists.{listed}
use Rattle.table_core.specs.WaitViews.{readied}
use Rattle.table_core.specs.declared.setup.Setup.{Setup}
use Rattle.table_core.specs.declared.view.View.{View}
use Rattle.table_core.proofs.ListFacts.{at_map}
use Rattle.table_core.proofs.ReadyKinds.{recorded, saved, lives, done, number-same, lists-same, ready-parts as ready-table}
use Rattle.table_core.proofs.RecordKinds.{state-here, state-other}
use Rattle.schedule_rule.specs.Calls.{task_of, after_in, after_of, IsNumber, IsLast, IsComplete}
use Rattle.schedule_rule.specs.Counts.{class_in}
use Rattle.schedule_rule.specs.Frames.{IsFrameOf}
use Rattle.schedule_rule.specs.LifeViews.{KnowsOver, MayStart}
use Rattle.schedule_rule.specs.Numbers.{in_state, saved_at, done_with, is_begun}
use Rattle.schedule_rule.specs.Results.{SaysOutcome}
use Rattle.schedule_rule.specs.SeeingViews.{IsWaitingWord, ready_word}
use Rattle.schedule_rule.specs.Parts.{Part, facts, begun, places, framed, formed, owners, results, live, classes, behind, seen, Says, AllSay, Keeps}
use Rattle.schedule_rule.proofs.Rule.{frames, same-story}

-- the word of a record that is ready is one, and has the number of the word that it is made of
ready-phase : (word : ℕ) → IsStateWord word → phase_of (ready_word word) ≡ 3
ready-phase word is = omega (arith, is.priority_fits, is.tag_fits)

-- it keeps the number
ready-number : (word : ℕ) → IsStateWord word → number_of (ready_word word) ≡ number_of word
ready-number word is = omega (arith, is.priority_fits, is.tag_fits)

-- its numbers are in their ranges
ready-shape : (word : ℕ) → IsStateWord word → IsStateWord (ready_word word)
ready-shape word is = record {
  phase_fits = omega (arith, ready-phase word is);
  priority_fits = omega (arith, is.priority_fits, is.tag_fits);
  tag_fits = omega (arith, is.priority_fits, is.tag_fits);
  number_fits = omega (arith, ready-number word is, is.number_fits);
}

module _ (g : Setup) (id : ℕ) (v : View) where
  module _ (m : Mem) (vs : List View) (s : Story) (l : AllSay g s m vs) (at : At vs id v) (x : Waiter) (has : Has x v.waiting) (in_use : 1 ≤ v.parts) (n : ℕ) (ready : phase_of n ≡ 3)
      (numbered : number_of n ≡ x.number) (shape : IsStateWord n) (may : MayStart v x.number) where
    abbrev u : ℕ
    u = x.unit

    abbrev states : ℕ → ℕ
    states w = m (state w)

    abbrev now : ℕ → ℕ
    now w = put m (state u) n (state w)

    abbrev tasks : ℕ → ℕ
    tasks w = m (task w)

    abbrev m' : Mem
    m' = put m (state u) n

    abbrev after_ready : View
    after_ready = saw (state u) (m (state u)) (readied u v)

    -- the same records wait or are ready
    saved-now : (w : ℕ) → is_saved (now w) ≡ is_saved (states w)
    saved-now = saved g id v m vs s l.table at x has in_use n ready numbered shape

    -- the same units have records that may be referred to
    recorded-now : (w : ℕ) → is_record (now w) ≡ is_record (states w)
    recorded-now = recorded g id v m vs s l.table at x has in_use n ready numbered shape

    -- the same records live
    live-now : (w : ℕ) → is_live (now w) ≡ is_live (states w)
    live-now = lives g id v m vs s l.table at x has in_use n ready numbered shape

    -- the same records are done
    done-now : (w : ℕ) → (phase_of (now w) == 5) ≡ (phase_of (states w) == 5)
    done-now = done g id v m vs s l.table at x has in_use n ready numbered shape

    -- they have the same numbers
    number-now : (w : ℕ) → number_of (now w) ≡ number_of (states w)
    number-now = number-same g id v m vs s l.table at x has in_use n ready numbered shape

    -- lists are as before
    listed-now : (w : ℕ) → listed now (λ y. m (head y)) (λ y. m (next y)) w ≡ listed states (λ y. m (head y)) (λ y. m (next y)) w
    listed-now = lists-same g id v m vs s l.table at x has in_use n ready numbered shape

    -- each number stands where it stood
    in-state-now : (k w : ℕ) → in_state now k w ≡ in_state states k w
    in-state-now k w = ap (λ (b : Bool). cond b (one_if (number_of (now w) == k)) 0) (saved-now w) ∙ ap (λ (y : ℕ). cond (is_saved (states w)) (one_if (y == k)) 0) (number-now w)

    -- a done record is another one
    still-done : (w : ℕ) → phase_of (now w) ≡ 5 → now w ≡ states w
    still-done w phase = state-other m u n w (λ e. omega (arith, phase, ap (λ (y : ℕ). phase_of (now y)) e, ap phase_of (state-here m u n), ready))

    -- what is known to be over is
    known-over : (o : Option ℕ) → IfSome o (KnowsOver v) → IfSome o (IsComplete s.ends)
    known-over None over = over
    known-over (Some t) over = (over.0, l.schedule facts id v.facts (at_map (seen facts) vs id v at) over.1.0 (IsOver t over.0) over.1.1)

    -- so the predecessor of the waiter is over, if it has one
    predecessor-over : IfSome (after_of s.calls x.number) (IsComplete s.ends)
    predecessor-over = subst (λ (c : Option Accepted). IfSome (after_in c) (IsComplete s.ends))
        (sym (l.schedule facts id v.facts (at_map (seen facts) vs id v at) may.1.0 (IsAccepted x.number may.0) may.1.1)) (known-over (after_in (Some may.0)) may.2)

    -- what is ready or runs is behind no task that is not over
    begun-now : (w : ℕ) → w < units_of g.plan → is_begun (now w) ≡ true → IfSome (after_of s.calls (number_of (now w))) (IsComplete s.ends)
    begun-now w near is = by (cases_eq w u)
      where
        by : (w ≡ u) ⊎ (w ≢ u) → IfSome (after_of s.calls (number_of (now w))) (IsComplete s.ends)
        by (inl e) = subst (λ (y : ℕ). IfSome (after_of s.calls y) (IsComplete s.ends)) (sym (ap (λ (y : ℕ). number_of (now y)) e ∙ ap number_of (state-here m u n) ∙ numbered)) predecessor-over
        by (inr ne) =
            let other = state-other m u n w ne in
            subst (λ (y : ℕ). IfSome (after_of s.calls (number_of y)) (IsComplete s.ends)) (sym other) (l.schedule begun w near (ap is_begun (sym other) ∙ is))

    -- the scheduler's rule holds once the waiter is ready
    ready-says : (q : Part) → Says g q s m' (map (seen q) (slice_set vs id after_ready))
    ready-says places = frames g vs id v at places s m' after_ready refl (λ k. omega (arith, l.schedule places k, below-same (in_state now k) (in_state states k) (units_of g.plan) (λ w low. in-state-now k w)))
    ready-says framed = frames g vs id v at framed s m' after_ready refl (record {
      saved = λ w near is. subst (λ (y : ℕ). IsFrameOf g.checked s.calls tasks y (body_at g.checked (frame_in m w))) (sym (number-now w)) ((l.schedule framed).saved w near (sym (saved-now w) ∙ is));
      names = λ w near is. (l.schedule framed).names w near (sym (saved-now w) ∙ is);
      running = (l.schedule framed).running;
    })
    ready-says formed = frames g vs id v at formed s m' after_ready refl (record { saved = λ w near is. (l.schedule formed).saved w near (sym (saved-now w) ∙ is); running = (l.schedule formed).running })
    ready-says owners = frames g vs id v at owners s m' after_ready refl (record {
      is_of = λ w near is. subst (λ (y : ℕ). IsNumber s.calls y × (tasks w ≡ task_of s.calls y)) (sym (number-now w)) ((l.schedule owners).is_of w near (sym (recorded-now w) ∙ is));
      once = λ t is. omega (
        arith,
        (l.schedule owners).once t is,
        below-same (saved_at now tasks t) (saved_at states tasks t) (units_of g.plan) (λ w low. ap (λ (b : Bool). cond b (one_if (tasks w == t)) 0) (saved-now w)),
      );
      done = λ t. omega (
        arith,
        (l.schedule owners).done t,
        below-same (done_with now tasks t) (done_with states tasks t) (units_of g.plan) (λ w low. ap (λ (b : Bool). cond b (one_if (tasks w == t)) 0) (done-now w)),
      );
      ended = (l.schedule owners).ended;
      last_saved = λ w near is. subst (IsLast s.calls) (sym (number-now w)) ((l.schedule owners).last_saved w near (sym (saved-now w) ∙ is));
      last_drawn = (l.schedule owners).last_drawn;
    })
    ready-says results = frames g vs id v at results s m' after_ready refl (λ w near phase.
        let same = still-done w phase in let t = l.schedule results w near (ap phase_of (sym same) ∙ phase) in
        (t.0, t.1, subst (λ (y : ℕ). SaysOutcome y (m (outcome w)) t.0) (sym same) t.2))
    ready-says live = frames g vs id v at live s m' after_ready refl
        (omega (arith, l.schedule live, below-same (λ w. one_if (is_live (now w))) (λ w. one_if (is_live (states w))) (units_of g.plan) (λ w low. ap one_if (live-now w))))
    ready-says classes = frames g vs id v at classes s m' after_ready refl (record {
      records = λ w near is. (l.schedule classes).records w near (sym (recorded-now w) ∙ is) ∙ ap (λ (y : ℕ). class_in g.checked (by_number s.calls (task_of s.calls y))) (sym (number-now w));
      made = (l.schedule classes).made;
    })
    ready-says behind = frames g vs id v at behind s m' after_ready refl (record {
      listed_behind = λ k w near there. ap (after_of s.calls) (number-now w) ∙ (l.schedule behind).listed_behind k w near (subst (λ (y : List ℕ). Has w y) (listed-now k) there);
      chained_behind = λ k cs there j c there' i w there''. subst (λ (y : ℕ). IfSome (after_of s.calls y) (IsComplete s.ends)) (sym (number-now w)) ((l.schedule behind).chained_behind k cs there j c there' i w there'');
    })
    ready-says begun = frames g vs id v at begun s m' after_ready refl begun-now
    ready-says q = frames g vs id v at q s m' after_ready refl (l.schedule q)

  -- ready: a waiter of the hand that may start, by the word that was seen there
  pub readies-at : (x : Waiter) → Has x v.waiting → MayStart v x.number → (old : ℕ) → Has (state x.unit, old) v.seen → IsWaitingWord x.number old → 1 ≤ v.parts
      → Keeps g id v (state x.unit) (λ n. ready_word old) (λ k w. (n : ℕ) × (w ≡ saw (state x.unit) n (readied x.unit v)))
  readies-at x has may old saw_it waiting in_use m vs s l at small =
      let phase = ready-phase old waiting.shaped in let number = ready-number old waiting.shaped ∙ waiting.number_is in let shape = ready-shape old waiting.shaped in (
        saw (state x.unit) (m (state x.unit)) (readied x.unit v),
        (
          s,
          same-story s,
          record {
            table = ready-table g id v m vs s l.table at x has in_use (ready_word old) phase number shape;
            schedule = ready-says m vs s l at x has in_use (ready_word old) phase number shape may;
          },
        ),
        (m (state x.unit), refl),
        (refl, refl, inl refl),
      )
