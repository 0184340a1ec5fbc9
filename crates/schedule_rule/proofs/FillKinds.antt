-- Filling a word of a record that is made, or a frame or result word of one that runs, keeps the scheduler's rule: what it says of
-- tasks, lists and frames, it says of other records.
use Rattle.std.proofs.Common.{◌≡◌, ◌∙◌, ℕ, ◌==◌, ◌&&◌, Bool, true, false, cond, not, List, [], map, Some, refl, sym, ap, subst, true≢false, arith, ◌⊎◌, inl, inr, ◌≤◌}
use Rattle.std.specs.Prelude.{slice_set, slice_index}
use Rattle.std.proofs.lemmas.Bool.{eqb-true, ne_eqb}
use Rattle.record_core.specs.Counting.{At, Has, one_if}
use Rattle.record_core.proofs.BelowFacts.{below-same}
use Rattle.kt_words.specs.HeadWords.{closed_word, link_of, length_of}
use Rattle.kt_words.specs.StateWords.{phase_of, number_of}
use Rattle.frame_code.specs.Words.{body_at}
use Rattle.table_core.specs.Addresses.{Addr, Mem, state, refs, head, next, task, outcome, arena, root, put, units_of, frame_in, super, bits, journal, evidence, sum}
use Rattle.table_core.specs.Holdings.{Run}
use Rattle.table_core.specs.Own.{is_own, made_at, runs_at, record_words}
use Rattle.table_core.specs.RecordViews.{filled}
use Rattle.table_core.specs.References.{is_saved, is_record}
use Rattle.table_core.specs.Story.{Story}
use Rattle.table_core.specs.Views.{saw}
use Rattle.table_core.specs.WaitLists.{chained, listed}
use Rattle.table_core.specs.declared.setup.Setup.{Setup}
use Rattle.table_core.specs.declared.view.View.{View}
use Rattle.table_core.proofs.FillKinds.{task-other, head-other, is-made, frame-stays, fill-lawful}
use Rattle.table_core.proofs.ListFacts.{map_at, at_map}
use Rattle.table_core.proofs.Owners.{is_filled}
use Rattle.table_core.proofs.RecordWords.{task-own, head-own, owned-by}
use Rattle.record_core.proofs.TotalFacts.{none_there}
use Rattle.schedule_rule.specs.Numbers.{saved_at, done_with}
use Rattle.schedule_rule.specs.RuleLaws.{is_filled as may_fill}
use Rattle.schedule_rule.specs.Parts.{Part, owners, framed, root_tasks, behind, classes, seen, Says, AllSay, Keeps, formed, results}
use Rattle.schedule_rule.proofs.FrontFacts.{holds-same}
use Rattle.schedule_rule.proofs.FrameFacts.{frame-tasks, frame-words, saved-members, running-members, root-named, front-same}
use Rattle.schedule_rule.proofs.RecordKinds.{test_record}
use Rattle.schedule_rule.proofs.Rule.{frames, same-story}
use Rattle.schedule_rule.proofs.StateFacts.{saved-record}
use Rattle.schedule_rule.specs.Calls.{Ended}
use Rattle.frame_code.specs.Frames.{IsFrame}
use Rattle.schedule_rule.specs.Results.{IsResult}
use Rattle.table_core.proofs.OwnFacts.{made-phase, runs-phase, made-counts, runs-counts}
use Rattle.table_core.specs.Parts.{own, seen as table_seen}

-- the words that are filled, as the laws tell them
pub filled-word : (a : Addr) → may_fill a ≡ true → is_filled a ≡ true
filled-word (task u) may = refl
filled-word (head u) may = refl
filled-word (outcome u) may = refl
filled-word (refs u) may = refl
filled-word (arena x) may = refl
filled-word (super i) may = absurd (true≢false (sym may))
filled-word (bits i j) may = absurd (true≢false (sym may))
filled-word (state u) may = absurd (true≢false (sym may))
filled-word (next u) may = absurd (true≢false (sym may))
filled-word (root r) may = absurd (true≢false (sym may))
filled-word (journal k j) may = absurd (true≢false (sym may))
filled-word (evidence i) may = absurd (true≢false (sym may))
filled-word (sum k) may = absurd (true≢false (sym may))

module _ (g : Setup) (id : ℕ) (v : View) where
  module _ (m : Mem) (vs : List View) (s : Story) (l : AllSay g s m vs) (at : At vs id v) where
    abbrev states : ℕ → ℕ
    states w = m (state w)

    abbrev heads : ℕ → ℕ
    heads w = m (head w)

    abbrev nexts : ℕ → ℕ
    nexts w = m (next w)

    abbrev tasks : ℕ → ℕ
    tasks w = m (task w)

    -- the task word of a record that is made
    module _ (u n : ℕ) (mine : is_own v.made v.runs (task u) ≡ true) where
      made : phase_of (states u) ≡ 1
      made = is-made g id v m vs s l.table at u (task-own v.made v.runs u mine)

      abbrev tasks' : ℕ → ℕ
      tasks' w = put m (task u) n (task w)

      -- other records have the task that they had
      others : (w : ℕ) → is_record (states w) ≡ true → tasks' w ≡ tasks w
      others w is = task-other m u n w (λ e. true≢false (sym is ∙ ap (λ (x : ℕ). is_record (states x)) e ∙ ap test_record made))

      saved-others : (t w : ℕ) → saved_at states tasks' t w ≡ saved_at states tasks t w
      saved-others t w = by (is_saved (states w)) refl
        where
          by : (b : Bool) → is_saved (states w) ≡ b → saved_at states tasks' t w ≡ saved_at states tasks t w
          by true e = ap (λ (k : ℕ). cond (is_saved (states w)) (one_if (k == t)) 0) (others w (saved-record (states w) e))
          by false e = ap (λ (b : Bool). cond b (one_if (tasks' w == t)) 0) e ∙ sym (ap (λ (b : Bool). cond b (one_if (tasks w == t)) 0) e)

      done-others : (t w : ℕ) → done_with states tasks' t w ≡ done_with states tasks t w
      done-others t w = by (phase_of (states w) == 5) refl
        where
          by : (b : Bool) → (phase_of (states w) == 5) ≡ b → done_with states tasks' t w ≡ done_with states tasks t w
          by true e = ap (λ (k : ℕ). cond (phase_of (states w) == 5) (one_if (k == t)) 0) (others w (ap test_record (eqb-true (phase_of (states w)) 5 e)))
          by false e = ap (λ (b : Bool). cond b (one_if (tasks' w == t)) 0) e ∙ sym (ap (λ (b : Bool). cond b (one_if (tasks w == t)) 0) e)

      -- whose list something stands in is a record
      heads-records : (k w : ℕ) → Has w (listed states heads nexts k) → is_record (states k) ≡ true
      heads-records k w has = by (is_record (states k)) refl
        where
          by : (b : Bool) → is_record (states k) ≡ b → b ≡ true
          by true e = refl
          by false e = absurd (none_there w (subst (λ (x : List ℕ). At x has.0 w) (ap (λ (b : Bool). cond (b && not (heads k == closed_word)) (chained nexts (link_of (heads k)) (length_of (heads k))) []) e) has.1))

      abbrev after : View
      after = saw (task u) (m (task u)) (filled (task u) n v)

      task-says : (q : Part) → Says g q s (put m (task u) n) (map (seen q) (slice_set vs id after))
      task-says owners = frames g vs id v at owners s (put m (task u) n) after refl (record {
        is_of = λ w near is. let t = (l.schedule owners).is_of w near is in (t.0, others w is ∙ t.1);
        once = λ t is. omega (arith, (l.schedule owners).once t is, below-same (saved_at states tasks' t) (saved_at states tasks t) (units_of g.plan) (λ w near. saved-others t w));
        done = λ t. omega (arith, (l.schedule owners).done t, below-same (done_with states tasks' t) (done_with states tasks t) (units_of g.plan) (λ w near. done-others t w));
        ended = (l.schedule owners).ended;
        last_saved = (l.schedule owners).last_saved;
        last_drawn = (l.schedule owners).last_drawn;
      })
      task-says framed = frames g vs id v at framed s (put m (task u) n) after refl (record {
        saved = λ w near is. frame-tasks g.checked s.calls tasks tasks' (number_of (states w)) (body_at g.checked (frame_in m w)) (λ x has. others x (saved-members g m vs s l w near is x has)) ((l.schedule framed).saved w near is);
        names = (l.schedule framed).names;
        running = λ k rs there j r at'.
            let t = map_at (seen framed) vs k rs there in
            frame-tasks g.checked s.calls tasks tasks' r.number (body_at g.checked (slice_index r.words))
            (λ x has. others x (running-members g m vs s l k t.0 t.1 j r (subst (λ (y : List Run). At y j r) (sym t.2) at') x has)) ((l.schedule framed).running k rs there j r at');
      })
      task-says results = frames g vs id v at results s (put m (task u) n) after refl (λ w near is.
          let t = l.schedule results w near is in
          (t.0, subst (λ (k : ℕ). Ended s.ends k t.0) (sym (others w (ap test_record is))) t.1, t.2))
      task-says root_tasks = frames g vs id v at root_tasks s (put m (task u) n) after refl (record {
        own = (l.schedule root_tasks).own;
        are = (l.schedule root_tasks).are;
        rise = (l.schedule root_tasks).rise;
        few = (l.schedule root_tasks).few;
        named = λ r w low near e. (l.schedule root_tasks).named r w low near e ∙ ap Some (sym (others w (root-named g m vs s l r w low near e)));
        drawn = (l.schedule root_tasks).drawn;
        of_turn = (l.schedule root_tasks).of_turn;
      })
      task-says behind = frames g vs id v at behind s (put m (task u) n) after refl (record {
        listed_behind = λ k w near has. (l.schedule behind).listed_behind k w near has ∙ ap Some (sym (others k (heads-records k w has)));
        chained_behind = (l.schedule behind).chained_behind;
      })
      task-says q = frames g vs id v at q s (put m (task u) n) after refl (l.schedule q)

    -- the head of a record that is made: it has no list yet
    module _ (u n : ℕ) (mine : is_own v.made v.runs (head u) ≡ true) where
      is_made : phase_of (states u) ≡ 1
      is_made = is-made g id v m vs s l.table at u (head-own v.made v.runs u mine)

      abbrev heads' : ℕ → ℕ
      heads' w = put m (head u) n (head w)

      listed-others : (w : ℕ) → listed states heads' nexts w ≡ listed states heads nexts w
      listed-others w = by (is_record (states w)) refl
        where
          none : (h : ℕ → ℕ) → is_record (states w) ≡ false → listed states h nexts w ≡ []
          none h e = ap (λ (b : Bool). cond (b && not (h w == closed_word)) (chained nexts (link_of (h w)) (length_of (h w))) []) e

          by : (b : Bool) → is_record (states w) ≡ b → listed states heads' nexts w ≡ listed states heads nexts w
          by true e = ap (λ (h : ℕ). cond (is_record (states w) && not (h == closed_word)) (chained nexts (link_of h) (length_of h)) [])
              (head-other m u n w (λ same. true≢false (sym e ∙ ap (λ (x : ℕ). is_record (states x)) same ∙ ap test_record is_made)))
          by false e = none heads' e ∙ sym (none heads e)

      abbrev after_head : View
      after_head = saw (head u) (m (head u)) (filled (head u) n v)

      head-says : (q : Part) → Says g q s (put m (head u) n) (map (seen q) (slice_set vs id after_head))
      head-says behind = frames g vs id v at behind s (put m (head u) n) after_head refl (record {
        listed_behind = λ k w near has. (l.schedule behind).listed_behind k w near (subst (λ (x : List ℕ). Has w x) (listed-others k) has);
        chained_behind = (l.schedule behind).chained_behind;
      })
      head-says q = frames g vs id v at q s (put m (head u) n) after_head refl (l.schedule q)

    -- a frame word: saved frames lie in other blocks
    module _ (x n : ℕ) (mine : is_own v.made v.runs (arena x) ≡ true) where
      abbrev after_frame : View
      after_frame = saw (arena x) (m (arena x)) (filled (arena x) n v)

      frame-says : (q : Part) → Says g q s (put m (arena x) n) (map (seen q) (slice_set vs id after_frame))
      frame-says framed = frames g vs id v at framed s (put m (arena x) n) after_frame refl (record {
        saved = λ w near is. frame-words g.checked s.calls tasks (number_of (states w)) (frame_in m w) (frame_in (put m (arena x) n) w) (frame-stays g id v m vs s l.table at x n mine w near is) ((l.schedule framed).saved w near is);
        names = λ w near is. holds-same g.checked (frame_in m w) (frame_in (put m (arena x) n) w) (frame-stays g id v m vs s l.table at x n mine w near is) ((l.schedule framed).names w near is);
        running = (l.schedule framed).running;
      })
      frame-says formed = frames g vs id v at formed s (put m (arena x) n) after_frame refl (record {
        saved = λ w near is. subst (IsFrame g.checked) (sym (front-same g.checked (frame_in m w) (frame_in (put m (arena x) n) w) (frame-stays g id v m vs s l.table at x n mine w near is))) ((l.schedule formed).saved w near is);
        running = (l.schedule formed).running;
      })
      frame-says q = frames g vs id v at q s (put m (arena x) n) after_frame refl (l.schedule q)

    refs-says : (u n : ℕ) (q : Part) → Says g q s (put m (refs u) n) (map (seen q) (slice_set vs id (saw (refs u) (m (refs u)) (filled (refs u) n v))))
    refs-says u n classes = frames g vs id v at classes s (put m (refs u) n) (saw (refs u) (m (refs u)) (filled (refs u) n v)) refl (l.schedule classes)
    refs-says u n q = frames g vs id v at q s (put m (refs u) n) (saw (refs u) (m (refs u)) (filled (refs u) n v)) refl (l.schedule q)

    -- an own result is of a record that is made or runs
    result-phase : (u : ℕ) → is_own v.made v.runs (outcome u) ≡ true → (phase_of (states u) ≡ 1) ⊎ (phase_of (states u) ≡ 4)
    result-phase u mine = elim (owned-by v.made v.runs (outcome u) mine) [
      | inl t ↦ inl (made-phase g.plan (λ i. m (super i)) states (record_words m) (map (table_seen own) vs) (l.table own) id (table_seen own v) (at_map (table_seen own) vs id v at) u
          (subst (λ (w : ℕ). 1 ≤ made_at w v.made) (sym (eqb-true u (t.0).unit t.2)) (made-counts v.made t.0 t.1))).1
      | inr t ↦ inr (runs-phase g.plan (λ i. m (super i)) states (record_words m) (map (table_seen own) vs) (l.table own) id (table_seen own v) (at_map (table_seen own) vs id v at) u
          (subst (λ (w : ℕ). 1 ≤ runs_at w v.runs) (sym (eqb-true u (t.0).unit t.2)) (runs-counts v.runs t.0 t.1))).1
    ]

    -- a result word: those of done records stay
    module _ (u n : ℕ) (mine : is_own v.made v.runs (outcome u) ≡ true) where
      abbrev after_result : View
      after_result = saw (outcome u) (m (outcome u)) (filled (outcome u) n v)

      still-result : (w : ℕ) → phase_of (states w) ≡ 5 → put m (outcome u) n (outcome w) ≡ m (outcome w)
      still-result w done = ap (λ (b : Bool). cond b n (m (outcome w))) (ne_eqb u w (λ e. apart e (result-phase u mine)))
        where
          apart : u ≡ w → (phase_of (states u) ≡ 1) ⊎ (phase_of (states u) ≡ 4) → ⊥
          apart e (inl one) = omega (arith, sym one ∙ ap (λ (x : ℕ). phase_of (states x)) e ∙ done)
          apart e (inr four) = omega (arith, sym four ∙ ap (λ (x : ℕ). phase_of (states x)) e ∙ done)

      result-says : (q : Part) → Says g q s (put m (outcome u) n) (map (seen q) (slice_set vs id after_result))
      result-says results = frames g vs id v at results s (put m (outcome u) n) after_result refl (λ w near done.
          let t = l.schedule results w near done in
          (t.0, t.1, (t.2.0, subst (λ (x : ℕ). IsResult x t.0) (sym (still-result w done)) t.2.1)))
      result-says q = frames g vs id v at q s (put m (outcome u) n) after_result refl (l.schedule q)

    fill-says : (a : Addr) (n : ℕ) → is_own v.made v.runs a ≡ true → is_filled a ≡ true → (q : Part) → Says g q s (put m a n) (map (seen q) (slice_set vs id (saw a (m a) (filled a n v))))
    fill-says (task u) n mine may = task-says u n mine
    fill-says (head u) n mine may = head-says u n mine
    fill-says (outcome u) n mine may = result-says u n mine
    fill-says (refs u) n mine may = refs-says u n
    fill-says (arena x) n mine may = frame-says x n mine
    fill-says (super i) n mine may = absurd (true≢false (sym may))
    fill-says (bits i j) n mine may = absurd (true≢false (sym may))
    fill-says (state u) n mine may = absurd (true≢false (sym may))
    fill-says (next u) n mine may = absurd (true≢false (sym may))
    fill-says (root r) n mine may = absurd (true≢false (sym may))
    fill-says (journal k j) n mine may = absurd (true≢false (sym may))
    fill-says (evidence i) n mine may = absurd (true≢false (sym may))
    fill-says (sum k) n mine may = absurd (true≢false (sym may))

  -- fill: an own word of a record that is made, or the frame or the result of one that runs
  pub fills-at : (a : Addr) (n : ℕ) → is_own v.made v.runs a ≡ true → is_filled a ≡ true → Keeps g id v a (λ k. n) (λ r w. (k : ℕ) × (w ≡ saw a k (filled a n v)))
  fills-at a n mine may m vs s l at small =
      (saw a (m a) (filled a n v), (s, same-story s, record { table = fill-lawful g id v m vs s l.table at a n mine may; schedule = fill-says m vs s l at a n mine may }), (m a, refl), (refl, refl, inl refl))
