-- A number is drawn for a new task, whose record is made: what keeps the scheduler's rule, be the asker a run or a root.
use Rattle.std.proofs.Common.{◌≡◌, ◌≢◌, ◌∙◌, inl, inr, ℕ, suc, ◌≤◌, ◌==◌, Bool, true, false, cond, Some, List, ◌∷◌, map, refl, sym, ap, subst, arith}
use Rattle.std.specs.Prelude.{slice_set, slice_get}
use Rattle.std.proofs.lemmas.Bool.{eq-eqb, ne_eqb}
use Rattle.record_core.specs.Counting.{At, Has}
use Rattle.record_core.specs.Numbers.{by_number}
use Rattle.record_core.proofs.TotalFacts.{total-set, total-member, slice_get-set_other}
use Rattle.task_meaning.specs.Worths.{Accepted, OfCall, OfAll, Respawn}
use Rattle.table_core.specs.Addresses.{Mem}
use Rattle.table_core.specs.Asking.{Asker, Drawn}
use Rattle.table_core.specs.Holdings.{Made, Run}
use Rattle.table_core.specs.Lists.{Each}
use Rattle.table_core.specs.Own.{Hands, made_at}
use Rattle.table_core.specs.RecordViews.{is_made_at}
use Rattle.table_core.specs.Story.{Story, is_new}
use Rattle.table_core.specs.Parts.{own, seen as table_seen}
use Rattle.table_core.specs.declared.setup.Setup.{Setup}
use Rattle.table_core.specs.declared.view.View.{View}
use Rattle.table_core.proofs.ListFacts.{at_map, same_some, each-set, set_cases, set_here}
use Rattle.table_core.proofs.ReferenceBound.{in-few}
use Rattle.schedule_rule.specs.Calls.{task_in, IsLast, Suits}
use Rattle.schedule_rule.specs.Askers.{IsFirstOf}
use Rattle.schedule_rule.specs.Counts.{class_in}
use Rattle.schedule_rule.specs.Frames.{BagSound}
use Rattle.schedule_rule.specs.DrawViews.{give_number, with_number, drawn_for, KnowsNamed}
use Rattle.schedule_rule.specs.Parts.{askers, bags, seen, AllSay, counted_lives}
use Rattle.schedule_rule.proofs.ChangedFacts.{AreAs, set-as, changed-one, IsMadeAs, IsRunAs}
use Rattle.schedule_rule.proofs.DrawKinds.{IsDraw, class-stays, none-of_new, drawn-numbers, run-numbers, saved-number}
use Rattle.schedule_rule.proofs.KnownFacts.{known-call}
use Rattle.schedule_rule.proofs.StoryFacts.{more, new, number-here, task-here, ComesNext}

-- what begins a task
pub begins-task : (v : View) (a : Accepted) (n : ℕ) → KnowsNamed v a → (task_in (Some a) n ≡ n) × (is_new a ≡ 1)
begins-task v (OfCall call waits) n knows = (refl, refl)
begins-task v (OfAll members) n knows = (refl, refl)
begins-task v (Respawn t waits) n knows = absurd knows

module _ (g : Setup) (id : ℕ) (v : View) (m : Mem) (vs : List View) (s : Story) (l : AllSay g s m vs) (at : At vs id v) (a : Accepted) (suits : Suits g.checked a) (knows : KnowsNamed v a)
    (y : Made) (has : Has y v.made) (no_number : y.number ≡ 0) (class_is : y.class ≡ class_in g.checked (Some a)) where
  abbrev n : ℕ
  n = new s.calls a

  -- the made records, of which one has the number
  abbrev pub numbered : List Made
  numbered = slice_set v.made has.0 (give_number n y)

  begins : task_in (Some a) n ≡ n
  begins = (begins-task v a n knows).0

  -- the list in which the made record at its unit has the number
  pub made-changed : with_number y.unit n v.made ≡ numbered
  made-changed = changed-one (is_made_at y.unit) (give_number n) v.made has.0 y has.1 (eq-eqb y.unit y.unit refl) (omega (
    arith,
    (l.table own).made y.unit,
    in-few g m vs s l.table 1 y.unit,
    total-member (λ (h : Hands). made_at y.unit h.made) (map (table_seen own) vs) id (table_seen own v) (at_map (table_seen own) vs id v at),
  ))

  -- the call is no further activation
  no-next : ComesNext s.calls a
  no-next t members waits same here = absurd (subst (KnowsNamed v) same knows)

  -- the draw has what every draw needs
  pub new-draw : (runs : List Run) → v.may_draw ≡ 1 → 1 ≤ v.parts → AreAs IsRunAs v.runs runs → (BagSound g.checked (seen bags v) → BagSound g.checked (record { futures = v.futures; runs = runs }))
      → Each (λ (r : Run). r.asked ≡ false → IsLast (more s.calls a) r.number) runs → IsDraw g id v m vs s l at a numbered runs
  new-draw runs may in_use alike bag last = record {
    names = known-call g id v m vs s l at a knows;
    suits = suits;
    next = no-next;
    may = may;
    in_use = in_use;
    mades = set-as IsMadeAs v.made has.0 y (give_number n y) has.1 (record { unit = refl; class = refl; live = refl });
    run_as = alike;
    bag = bag;
    numbered = omega (
      arith,
      (begins-task v a n knows).1,
      total-set (λ (r : Made). cond (r.number == 0) 1 0) v.made has.0 y (give_number n y) has.1,
      ap {B = ℕ} (λ (b : Bool). cond b 1 0) (eq-eqb y.number 0 no_number),
      ap {B = ℕ} (λ (b : Bool). cond b 1 0) (ne_eqb n 0 (λ e. omega (arith, e))),
    );
    class = each-set (λ (r : Made). r.number ≢ 0 → r.class ≡ class_in g.checked (by_number (more s.calls a) r.number)) v.made has.0 (give_number n y) (class-stays g id v m vs s l at a id v at)
        (λ _. class_is ∙ ap (class_in g.checked) (sym (number-here s.calls a)));
    counted = each-set (λ (r : Made). r.live ≡ true → r.number ≢ 0) v.made has.0 (give_number n y) (l.schedule counted_lives id (seen counted_lives v) (at_map (seen counted_lives) vs id v at)).made (λ _ e. omega (arith, e));
    saved_apart = λ w near saved. none-of_new g id v m vs s l at a begins _ (saved-number g id v m vs s l at w near saved);
    drawn_apart = λ k x there j d there'. none-of_new g id v m vs s l at a begins d.number (drawn-numbers g id v m vs s l at k x there j d there');
    runs_apart = λ k x _ there j r there' _. none-of_new g id v m vs s l at a begins r.number (run-numbers g id v m vs s l at k x there j r there');
    mine_last = last;
  }

  -- the record has the new number
  pub is-first : (asker : Asker) → (r : Made) × Has r numbered × IsFirstOf (more s.calls a) (drawn_for n y.unit asker) r
  is-first asker = (give_number n y, (has.0, set_here v.made has.0 y (give_number n y) has.1), record { unit = refl; number = refl; task = task-here s.calls a ∙ begins })

  -- a record with a number is another one
  pub first-kept : (d : Drawn) → Has d v.drawn → (z : Made) → Has z v.made → IsFirstOf (more s.calls a) d z → Has z numbered
  first-kept d there z there' is =
      (there'.0, slice_get-set_other v.made has.0 there'.0 (give_number n y) apart ∙ there'.1)
    where
      apart : has.0 ≢ there'.0
      apart e =
          let same : y ≡ z = same_some y z (sym has.1 ∙ ap (slice_get v.made) e ∙ there'.1) in
          omega (arith, (drawn-numbers g id v m vs s l at id v at there.0 d there.1).0, is.number, ap (λ (r : Made). r.number) same, no_number)

  -- each made record with a number has one of the drawn ones
  pub all-drawn : (asker : Asker) → Each (λ (z : Made). z.number ≢ 0 → (d : Drawn) × Has d (drawn_for n y.unit asker ∷ v.drawn) × (d.unit ≡ z.unit) × (d.number ≡ z.number)) numbered
  all-drawn asker k z there some = elim (set_cases v.made has.0 k (give_number n y) z there) [
    | inl e ↦ (drawn_for n y.unit asker, (0, refl), ap (λ (r : Made). r.unit) (sym e.1), ap (λ (r : Made). r.number) (sym e.1))
    | inr old ↦ let d = (l.schedule askers id (seen askers v) (at_map (seen askers) vs id v at)).made k z old.1 some in (d.0, (suc d.1.0, d.1.1), d.2, d.3)
  ]
