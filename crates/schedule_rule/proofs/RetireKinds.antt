-- A done record at its last reference goes: the scheduler's rule is kept, since its task has ended and its list is closed.
use Rattle.std.proofs.Common.{◌≡◌, ◌≢◌, ◌∙◌, ◌⊎◌, inl, inr, ℕ, ◌<◌, ◌≤◌, ◌==◌, ◌&&◌, Bool, true, false, cond, not, List, [], map, refl, sym, ap, subst, true≢false, arith}
use Rattle.std.specs.Prelude.{slice_set, IfSome}
use Rattle.std.proofs.lemmas.Bool.{cases_eq}
use Rattle.record_core.specs.Counting.{At, Has, one_if, times}
use Rattle.record_core.specs.Numbers.{by_number}
use Rattle.record_core.proofs.BelowFacts.{below-same, below-le}
use Rattle.kt_words.specs.HeadWords.{closed_word, link_of, length_of}
use Rattle.kt_words.specs.StateWords.{phase_of, number_of}
use Rattle.kt_words.specs.SuperWords.{class_of}
use Rattle.frame_code.specs.Words.{body_at}
use Rattle.table_core.specs.Addresses.{Mem, super, state, head, next, task, put, units_of, frame_in, outcome}
use Rattle.table_core.specs.Pool.{IsBlock, superblock_of}
use Rattle.table_core.specs.RecordViews.{retired}
use Rattle.table_core.specs.References.{is_saved, is_live, is_record}
use Rattle.table_core.specs.Story.{Story}
use Rattle.table_core.specs.Views.{saw}
use Rattle.table_core.specs.WaitLists.{chained, is_open, listed}
use Rattle.table_core.specs.declared.setup.Setup.{Setup}
use Rattle.table_core.specs.declared.view.View.{View}
use Rattle.table_core.proofs.RecordKinds.{is_done, unlisted, in_block, same-test, state-here, state-other, retire-parts as retire-table}
use Rattle.schedule_rule.specs.Calls.{task_of, after_of, IsNumber, IsLast, IsComplete}
use Rattle.schedule_rule.specs.Numbers.{in_state, saved_at, done_with, is_begun}
use Rattle.schedule_rule.specs.Frames.{IsFrameOf}
use Rattle.schedule_rule.specs.Counts.{class_in}
use Rattle.schedule_rule.specs.Parts.{Part, places, owners, framed, live, classes, behind, seen, Says, AllSay, Keeps, formed, results, begun}
use Rattle.schedule_rule.proofs.Rule.{frames, same-story}
use Rattle.schedule_rule.proofs.RecordKinds.{test_saved, test_live, listed-waits, chained-waits}
use Rattle.schedule_rule.specs.Results.{SaysOutcome}
use Rattle.schedule_rule.proofs.StateFacts.{begun-record}

module _ (g : Setup) (id : ℕ) (v : View) where
  module _ (m : Mem) (vs : List View) (s : Story) (l : AllSay g s m vs) (at : At vs id v) (u : ℕ) (near : u < units_of g.plan) (has : 1 ≤ times u v.retiring) (in_use : 1 ≤ v.parts) where
    abbrev states : ℕ → ℕ
    states w = m (state w)

    abbrev now : ℕ → ℕ
    now w = put m (state u) 0 (state w)

    abbrev heads : ℕ → ℕ
    heads w = m (head w)

    abbrev nexts : ℕ → ℕ
    nexts w = m (next w)

    done : phase_of (states u) ≡ 5
    done = is_done g id v m vs s l.table at u near has in_use

    saved-now : (w : ℕ) → is_saved (now w) ≡ is_saved (states w)
    saved-now = same-test g id v m vs s l.table at u 0 near is_saved (ap test_saved (sym done))

    live-now : (w : ℕ) → is_live (now w) ≡ is_live (states w)
    live-now = same-test g id v m vs s l.table at u 0 near is_live (ap test_live (sym done))

    -- a record that stands afterwards is another one
    is-other : (w : ℕ) → is_record (now w) ≡ true → w ≢ u
    is-other w is e = true≢false (sym is ∙ ap (λ (x : ℕ). is_record (now x)) e ∙ ap is_record (state-here m u 0))

    other : (w : ℕ) → is_record (now w) ≡ true → now w ≡ states w
    other w is = state-other m u 0 w (is-other w is)

    was-record : (w : ℕ) → is_record (now w) ≡ true → is_record (states w) ≡ true
    was-record w is = ap is_record (sym (other w is)) ∙ is

    -- what waits, is ready or runs is another one
    saved-other : (w : ℕ) → is_saved (states w) ≡ true → now w ≡ states w
    saved-other w is = state-other m u 0 w (λ e. true≢false (sym is ∙ ap (λ (x : ℕ). is_saved (states x)) e ∙ ap test_saved done))

    in-state-now : (n w : ℕ) → in_state now n w ≡ in_state states n w
    in-state-now n w = by (is_saved (states w)) refl
      where
        by : (b : Bool) → is_saved (states w) ≡ b → in_state now n w ≡ in_state states n w
        by true e = ap (λ (x : ℕ). cond (is_saved x) (one_if (number_of x == n)) 0) (saved-other w e)
        by false e = ap (λ (b : Bool). cond b (one_if (number_of (now w) == n)) 0) (saved-now w ∙ e) ∙ sym (ap (λ (b : Bool). cond b (one_if (number_of (states w) == n)) 0) e)

    done-now : (t w : ℕ) → done_with now (λ x. m (task x)) t w ≤ done_with states (λ x. m (task x)) t w
    done-now t w = by (cases_eq w u)
      where
        by : (w ≡ u) ⊎ (w ≢ u) → done_with now (λ x. m (task x)) t w ≤ done_with states (λ x. m (task x)) t w
        by (inl e) = omega (arith, ap (λ (x : ℕ). cond (phase_of x == 5) (one_if (m (task w) == t)) 0) (ap now e ∙ state-here m u 0))
        by (inr ne) = omega (arith, ap (λ (x : ℕ). cond (phase_of x == 5) (one_if (m (task w) == t)) 0) (state-other m u 0 w ne))

    opens-now : (w : ℕ) → is_open now heads w ≡ is_open states heads w
    opens-now w = by (cases_eq w u)
      where
        by : (w ≡ u) ⊎ (w ≢ u) → is_open now heads w ≡ is_open states heads w
        by (inl e) = ap (λ (x : ℕ). is_record x && not (heads w == closed_word)) (ap now e ∙ state-here m u 0) ∙ sym (ap (is_open states heads) e ∙ unlisted g id v m vs s l.table at u near has in_use)
        by (inr ne) = ap (λ (x : ℕ). is_record x && not (heads w == closed_word)) (state-other m u 0 w ne)

    listed-now : (w : ℕ) → listed now heads nexts w ≡ listed states heads nexts w
    listed-now w = ap (λ (b : Bool). cond b (chained nexts (link_of (heads w)) (length_of (heads w))) []) (opens-now w)

    waits-other : (w : ℕ) → is_record (states w) ≡ true → phase_of (states w) ≢ 5 → now w ≡ states w
    waits-other w is ne = state-other m u 0 w (λ e. ne (ap (λ (x : ℕ). phase_of (states x)) e ∙ done))

    abbrev after_retire : ℕ → View
    after_retire c = saw (state u) (m (state u)) (retired u c v)

    retire-says : (c : ℕ) (q : Part) → Says g q s (put m (state u) 0) (map (seen q) (slice_set vs id (after_retire c)))
    retire-says c places = frames g vs id v at places s (put m (state u) 0) (after_retire c) refl
        (λ n. omega (arith, l.schedule places n, below-same (in_state now n) (in_state states n) (units_of g.plan) (λ w low. in-state-now n w)))
    retire-says c owners = frames g vs id v at owners s (put m (state u) 0) (after_retire c) refl (record {
      is_of = λ w low is. subst (λ (x : ℕ). IsNumber s.calls (number_of x) × (m (task w) ≡ task_of s.calls (number_of x))) (sym (other w is)) ((l.schedule owners).is_of w low (was-record w is));
      once = λ t is. omega (arith, (l.schedule owners).once t is, below-same (saved_at now (λ x. m (task x)) t) (saved_at states (λ x. m (task x)) t) (units_of g.plan) (λ w low. ap (λ (b : Bool). cond b (one_if (m (task w) == t)) 0) (saved-now w)));
      done = λ t. omega (arith, (l.schedule owners).done t, below-le (done_with now (λ x. m (task x)) t) (done_with states (λ x. m (task x)) t) (units_of g.plan) (λ w low. done-now t w));
      ended = (l.schedule owners).ended;
      last_saved = λ w low is. let there = sym (saved-now w) ∙ is in subst (λ (x : ℕ). IsLast s.calls (number_of x)) (sym (saved-other w there)) ((l.schedule owners).last_saved w low there);
      last_drawn = (l.schedule owners).last_drawn;
    })
    retire-says c framed = frames g vs id v at framed s (put m (state u) 0) (after_retire c) refl (record {
      saved = λ w low is. let there = sym (saved-now w) ∙ is in
          subst (λ (x : ℕ). IsFrameOf g.checked s.calls (λ y. m (task y)) (number_of x) (body_at g.checked (frame_in m w))) (sym (saved-other w there)) ((l.schedule framed).saved w low there);
      names = λ w low is. (l.schedule framed).names w low (sym (saved-now w) ∙ is);
      running = (l.schedule framed).running;
    })
    retire-says c formed = frames g vs id v at formed s (put m (state u) 0) (after_retire c) refl (record {
      saved = λ w low is. (l.schedule formed).saved w low (sym (saved-now w) ∙ is);
      running = (l.schedule formed).running;
    })
    retire-says c results = frames g vs id v at results s (put m (state u) 0) (after_retire c) refl (λ w low is.
        let same : now w ≡ states w = state-other m u 0 w (λ e. omega (arith, sym is ∙ ap (λ (x : ℕ). phase_of (now x)) e ∙ ap phase_of (state-here m u 0))) in
        let t = l.schedule results w low (ap phase_of (sym same) ∙ is) in
        (t.0, t.1, subst (λ (x : ℕ). SaysOutcome x (m (outcome w)) t.0) (sym same) t.2))
    retire-says c begun = frames g vs id v at begun s (put m (state u) 0) (after_retire c) refl (λ w low is.
        let same : now w ≡ states w = other w (begun-record (now w) is) in
        subst (λ (x : ℕ). IfSome (after_of s.calls (number_of x)) (IsComplete s.ends)) (sym same) (l.schedule begun w low (ap is_begun (sym same) ∙ is)))
    retire-says c live = frames g vs id v at live s (put m (state u) 0) (after_retire c) refl
        (omega (arith, l.schedule live, below-same (λ w. one_if (is_live (now w))) (λ w. one_if (is_live (states w))) (units_of g.plan) (λ w low. ap one_if (live-now w))))
    retire-says c classes = frames g vs id v at classes s (put m (state u) 0) (after_retire c) refl (record {
      records = λ w low is. (l.schedule classes).records w low (was-record w is) ∙ ap (λ (x : ℕ). class_in g.checked (by_number s.calls (task_of s.calls (number_of x)))) (sym (other w is));
      made = (l.schedule classes).made;
    })
    retire-says c behind = frames g vs id v at behind s (put m (state u) 0) (after_retire c) refl (record {
      listed_behind = λ k w low there.
          let was = subst (λ (x : List ℕ). Has w x) (listed-now k) there in
          ap (λ (x : ℕ). after_of s.calls (number_of x)) (saved-other w (listed-waits g id v m vs s l at k w low was)) ∙ (l.schedule behind).listed_behind k w low was;
      chained_behind = λ k chains at' j chain at'' i w at'''.
          subst (λ (x : ℕ). IfSome (after_of s.calls (number_of x)) (IsComplete s.ends)) (sym (saved-other w (chained-waits g id v m vs s l at k chains j chain i w at' at'' at''')))
          ((l.schedule behind).chained_behind k chains at' j chain at'' i w at''');
    })
    retire-says c q = frames g vs id v at q s (put m (state u) 0) (after_retire c) refl (l.schedule q)

  pub retires-at : (u : ℕ) → u < units_of g.plan → 1 ≤ times u v.retiring → 1 ≤ v.parts
      → Keeps g id v (state u) (λ n. 0) (λ k w. (c : ℕ) × IsBlock g.plan u c × ((n : ℕ) × (w ≡ saw (state u) n (retired u c v))))
  retires-at u near has in_use m vs s l at small = (
    saw (state u) (m (state u)) (retired u (class_of (m (super (superblock_of g.plan u)))) v),
    (s, same-story s, record { table = retire-table g id v m vs s l.table at u near has in_use; schedule = retire-says m vs s l at u near has in_use (class_of (m (super (superblock_of g.plan u)))) }),
    (class_of (m (super (superblock_of g.plan u))), in_block g id v m vs s l.table at u near has in_use, (m (state u), refl)),
    (refl, refl, inl refl),
  )
