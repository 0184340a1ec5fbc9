-- Who asked for the number of a made record that is placed: a run whose frame is past the act then, or a root.
use Rattle.std.proofs.Common.{◌≡◌, ◌∙◌, inl, inr, ℕ, ◌+◌, ◌*◌, ◌≤◌, true, false, List, map, refl, sym, ap, subst, true≢false, arith}
use Rattle.std.specs.Prelude.{slice_get, slice_index}
use Rattle.std.proofs.lemmas.Bool.{eq-eqb, ne_eqb}
use Rattle.record_core.specs.Sums.{total}
use Rattle.record_core.specs.Counting.{At, Has, one_if, dropped}
use Rattle.record_core.proofs.CountFacts.{passing-one}
use Rattle.record_core.proofs.TotalFacts.{total-member}
use Rattle.kt_words.specs.Capacity.{block_units}
use Rattle.task_meaning.specs.Frame.{variables_of}
use Rattle.frame_code.specs.Frames.{frame_length}
use Rattle.frame_code.specs.Words.{OfKind, frame_at, body_at}
use Rattle.frame_code.proofs.Aggregates.{body-of_task}
use Rattle.table_core.specs.Addresses.{Mem, state, task}
use Rattle.table_core.specs.Asking.{Drawn, OfRoot, OfTask}
use Rattle.table_core.specs.Holdings.{Run}
use Rattle.table_core.specs.Lists.{Each}
use Rattle.table_core.specs.Own.{Hands, runs_at}
use Rattle.table_core.specs.Story.{Story}
use Rattle.table_core.specs.WaitViews.{is_run_at}
use Rattle.table_core.specs.Parts.{own, fits, seen as table_seen}
use Rattle.table_core.specs.declared.setup.Setup.{Setup}
use Rattle.table_core.specs.declared.view.View.{View}
use Rattle.table_core.proofs.ListFacts.{at_map, same_some}
use Rattle.table_core.proofs.ReferenceBound.{in-few}
use Rattle.schedule_rule.specs.Askers.{asks_for, AskedSound}
use Rattle.schedule_rule.specs.Calls.{task_of}
use Rattle.schedule_rule.specs.Frames.{IsFrameOf, IsFormed}
use Rattle.schedule_rule.specs.LifeViews.{IsMovedFrame}
use Rattle.schedule_rule.specs.Parts.{askers, framed, formed, bags, seen, AllSay}
use Rattle.schedule_rule.specs.PlacingLaws.{PlaceForRunKeeps, PlaceForRootKeeps}
use Rattle.schedule_rule.specs.PlacingViews.{is_drawn, past_act, with_act_past}
use Rattle.schedule_rule.proofs.AskingFacts.{is_run, one-run, run-changed}
use Rattle.schedule_rule.proofs.ChangedFacts.{AreAs, same-as, set-as}
use Rattle.schedule_rule.proofs.LiveFacts.{each-changed, has-kept}
use Rattle.schedule_rule.proofs.PlacingFacts.{each-changed_to}
use Rattle.schedule_rule.proofs.PlacingFactsFrames.{length-task}
use Rattle.schedule_rule.proofs.PlacingFactsDrawn.{asks-less}
use Rattle.schedule_rule.proofs.PlacingKindsMade.{made-placed}
use Rattle.schedule_rule.proofs.PlacingKindsMadeTable.{IsRunPast, ArePast}
use Rattle.schedule_rule.proofs.Rule.{same-story}

-- a run is like itself
run-itself : (x : Run) → IsRunPast x x
run-itself x = record { unit = refl; class = refl; number = refl; task = refl; asked = refl }

module _ (g : Setup) (id : ℕ) (v : View) (m : Mem) (vs : List View) (s : Story) (l : AllSay g s m vs) (at : At vs id v) (d : Drawn) (drawn : Has d v.drawn) where
  abbrev left : List Drawn
  left = dropped (is_drawn d.number) v.drawn

  -- for whom the hand's numbers were drawn
  was_asked : AskedSound s.calls g.plan (seen askers v)
  was_asked = l.schedule askers id (seen askers v) (at_map (seen askers) vs id v at)

  -- a run asked for it
  module _ (x : Run) (has : Has x v.runs) (by_it : d.asker ≡ OfTask x.task) (next : List ℕ) (is : IsMovedFrame g.checked x.words next) where
    abbrev runs : List Run
    runs = with_act_past x.unit next v.runs

    -- no other run is there
    runs-few : runs_at x.unit v.runs ≤ 1
    runs-few = omega (
      arith,
      (l.table own).running x.unit,
      in-few g m vs s l.table 4 x.unit,
      total-member (λ (h : Hands). runs_at x.unit h.runs) (map (table_seen own) vs) id (table_seen own v) (at_map (table_seen own) vs id v at),
    )

    -- so a run there is this one
    only : (y : Run) → Has y v.runs → is_run_at x.unit y ≡ true → y ≡ x
    only y there here =
        let same = passing-one (is_run_at x.unit) v.runs there.0 has.0 y x runs-few there.1 here has.1 (eq-eqb x.unit x.unit refl) in
        same_some y x (sym there.1 ∙ ap (slice_get v.runs) same ∙ has.1)

    -- its task is that of its number
    its-task : x.task ≡ task_of s.calls x.number
    its-task = (is_run g id v m vs s l at x has).task

    -- past the act it is the same but for its frame and what it has to place
    past-itself : IsRunPast x (past_act next x)
    past-itself = record { unit = refl; class = refl; number = refl; task = refl; asked = refl }

    -- the runs are the same but for that
    pub act-past : ArePast v.runs runs
    act-past = record {
      alike = subst (AreAs IsRunPast v.runs) (sym (run-changed g id v m vs s l at x has (past_act next))) (set-as IsRunPast v.runs has.0 x (past_act next x) has.1 past-itself);
      has = λ y there. let t = has-kept (is_run_at x.unit) (past_act next) y v.runs there in (
        t.0,
        t.1,
        elim t.2 [
          | inl e ↦ subst (IsRunPast y) (sym e) (run-itself y)
          | inr e ↦ subst (IsRunPast y) (sym e) (record { unit = refl; class = refl; number = refl; task = refl; asked = refl })
        ],
      );
    }

    -- the frame is as long as before
    past-length : frame_length g.checked (slice_index next 0) ≡ frame_length g.checked (slice_index x.words 0)
    past-length = length-task g.checked (slice_index next 0) is.next_single ∙ ap (λ (k : ℕ). 1 + variables_of g.checked k) is.kind ∙ sym (length-task g.checked (slice_index x.words 0) is.single)

    -- the frames fit as they did
    pub act-fits : Each (λ (y : Run). frame_length g.checked (slice_index y.words 0) ≤ 8 * block_units y.class) runs
    act-fits = each-changed (is_run_at x.unit) (past_act next) (λ (y : Run). frame_length g.checked (slice_index y.words 0) ≤ 8 * block_units y.class) v.runs
        (λ y there here fit. omega (arith, fit, past-length, ap (λ (z : Run). frame_length g.checked (slice_index z.words 0)) (only y there here)))
        ((l.table fits).running id v.runs (at_map (table_seen fits) vs id v at))

    -- the frame is of the same call still
    past-frame : (n : ℕ) → IsFrameOf g.checked s.calls (λ w. m (task w)) n (body_at g.checked (slice_index x.words)) → IsFrameOf g.checked s.calls (λ w. m (task w)) n (body_at g.checked (slice_index next))
    past-frame n was =
        let t : IsFrameOf g.checked s.calls (λ w. m (task w)) n (OfKind (frame_at g.checked (slice_index x.words))) =
        subst (IsFrameOf g.checked s.calls (λ w. m (task w)) n) (body-of_task g.checked x.words is.single) was in
        subst (IsFrameOf g.checked s.calls (λ w. m (task w)) n) (sym (body-of_task g.checked next is.next_single)) ((t.0.0, t.0.1, t.0.2, is.kind ∙ t.0.3), is.way)

    -- so are all frames of the hand
    pub act-framed : Each (λ (y : Run). IsFrameOf g.checked s.calls (λ w. m (task w)) y.number (body_at g.checked (slice_index y.words))) runs
    act-framed = each-changed (is_run_at x.unit) (past_act next) (λ (y : Run). IsFrameOf g.checked s.calls (λ w. m (task w)) y.number (body_at g.checked (slice_index y.words))) v.runs
        (λ y there here was. past-frame y.number (subst (λ (z : Run). IsFrameOf g.checked s.calls (λ w. m (task w)) y.number (body_at g.checked (slice_index z.words))) (only y there here) was))
        ((l.schedule framed).running id v.runs (at_map (seen framed) vs id v at))

    -- and all begin with a frame
    pub act-formed : Each (λ (y : Run). IsFormed g.checked (slice_index y.words)) runs
    act-formed = each-changed (is_run_at x.unit) (past_act next) (λ (y : Run). IsFormed g.checked (slice_index y.words)) v.runs (λ y there here was. is.formed)
        ((l.schedule formed).running id v.runs (at_map (seen formed) vs id v at))

    -- it has one number less to place, and no other run has
    pub act-unplaced : Each (λ (y : Run). y.unplaced ≡ total (λ (z : Drawn). asks_for (task_of s.calls y.number) z.asker) left) runs
    act-unplaced = each-changed_to (is_run_at x.unit) (past_act next) (λ (y : Run). y.unplaced ≡ total (λ (z : Drawn). asks_for (task_of s.calls y.number) z.asker) v.drawn)
        (λ (y : Run). y.unplaced ≡ total (λ (z : Drawn). asks_for (task_of s.calls y.number) z.asker) left) v.runs runs-few
        (λ y there here was. omega (
          arith,
          was,
          asks-less g id v m vs s l at d drawn (task_of s.calls y.number),
          ap (asks_for (task_of s.calls y.number)) by_it,
          ap one_if (eq-eqb x.task (task_of s.calls y.number) (its-task ∙ ap (λ (z : Run). task_of s.calls z.number) (sym (only y there here)))),
        ))
        (λ y there not was. omega (
          arith,
          was,
          asks-less g id v m vs s l at d drawn (task_of s.calls y.number),
          ap (asks_for (task_of s.calls y.number)) by_it,
          ap one_if (ne_eqb x.task (task_of s.calls y.number) (λ e. apart y there not (sym e ∙ its-task))),
        ))
        was_asked.unplaced
      where
        apart : (y : Run) → Has y v.runs → is_run_at x.unit y ≡ false → task_of s.calls y.number ≡ task_of s.calls x.number → ⊥
        apart y there not same =
            let one = one-run g id v m vs s l at x has id v at there.0 y there.1 same in
            true≢false (sym (eq-eqb y.unit x.unit (ap (λ (z : Run). z.unit) (same_some y x (sym there.1 ∙ ap (slice_get v.runs) one.1 ∙ has.1)))) ∙ not)

  -- a root asked for it
  module _ (root : ℕ) (by_it : d.asker ≡ OfRoot root) where
    -- the runs stay
    pub root-past : ArePast v.runs v.runs
    root-past = record { alike = same-as IsRunPast v.runs; has = λ y there. (y, there, run-itself y) }

    -- no run has one less to place
    pub root-unplaced : Each (λ (y : Run). y.unplaced ≡ total (λ (z : Drawn). asks_for (task_of s.calls y.number) z.asker) left) v.runs
    root-unplaced k y there = omega (arith, was_asked.unplaced k y there, asks-less g id v m vs s l at d drawn (task_of s.calls y.number), ap (asks_for (task_of s.calls y.number)) by_it)

module _ (g : Setup) (id : ℕ) (v : View) where
  -- the number of a made record is placed by an act of a run
  pub places-for_run-at : PlaceForRunKeeps g id v
  places-for_run-at waits r d call words may x has by_it past is covers in_use word parked m vs s l at small =
      let fit = act-fits g id v m vs s l at d (may.placeable).drawn x has by_it past is in
      let framed_so = act-framed g id v m vs s l at d (may.placeable).drawn x has by_it past is in
      let formed_so = act-formed g id v m vs s l at d (may.placeable).drawn x has by_it past is in
      let unplaced = act-unplaced g id v m vs s l at d (may.placeable).drawn x has by_it past is in (
        _,
        (
          s,
          same-story s,
          made-placed g id v m vs s l at waits r d call words may (with_act_past x.unit past v.runs) (act-past g id v m vs s l at d (may.placeable).drawn x has by_it past is) fit in_use word parked framed_so formed_so unplaced
              (covers (l.schedule bags id (seen bags v) (at_map (seen bags) vs id v at))),
        ),
        (m (state r.unit), refl),
        (refl, refl, inr (r.unit, words, refl, refl)),
      )

  -- the number of a made record is placed that was drawn for a root
  pub places-for_root-at : PlaceForRootKeeps g id v
  places-for_root-at waits r d call words may root by_it covers in_use word parked m vs s l at small = (
    _,
    (
      s,
      same-story s,
      made-placed g id v m vs s l at waits r d call words may v.runs (root-past g id v m vs s l at d (may.placeable).drawn root by_it) ((l.table fits).running id v.runs (at_map (table_seen fits) vs id v at)) in_use word parked
          ((l.schedule framed).running id v.runs (at_map (seen framed) vs id v at)) ((l.schedule formed).running id v.runs (at_map (seen formed) vs id v at))
          (root-unplaced g id v m vs s l at d (may.placeable).drawn root by_it) (covers (l.schedule bags id (seen bags v) (at_map (seen bags) vs id v at))),
    ),
    (m (state r.unit), refl),
    (refl, refl, inr (r.unit, words, refl, refl)),
  )
