-- The result of a record that was seen done is loaded: where its state word says so, it is the number that its task gave.
use Rattle.std.proofs.Common.{◌≡◌, ◌≢◌, ◌∙◌, ◌⊎◌, inl, inr, ℕ, ◌<◌, ◌≤◌, List, [], ◌∷◌, map, refl, sym, ap, subst, arith}
use Rattle.std.specs.Prelude.{slice_set}
use Rattle.std.proofs.lemmas.Bool.{cases_eq}
use Rattle.record_core.specs.Counting.{At, Has, times}
use Rattle.kt_words.specs.StateWords.{phase_of, tag_of, tag_code}
use Rattle.kt_words.specs.declared.tag.Tag.TheVariants as tag
use Rattle.task_syntax.specs.declared.value.Trap.TheVariants as trap
use Rattle.task_syntax.specs.declared.value.Value.TheVariants.{Number, Trapped}
use Rattle.table_core.specs.Addresses.{Mem, state, head, task, outcome, put, units_of}
use Rattle.table_core.specs.Asking.{IsNull, IsLimit}
use Rattle.table_core.specs.Holdings.{SawTask, SawDone, seen_at}
use Rattle.table_core.specs.Lists.{Each}
use Rattle.table_core.specs.Parts.{sights, seen as table_seen}
use Rattle.table_core.specs.Sights.{StillSo}
use Rattle.table_core.specs.Story.{Story, Outcome, Gave, WasCut, Fact, IsOver}
use Rattle.table_core.specs.Views.{saw}
use Rattle.table_core.specs.declared.setup.Setup.{Setup}
use Rattle.table_core.specs.declared.view.View.{View}
use Rattle.table_core.proofs.AddressFacts.{put-again}
use Rattle.table_core.proofs.ListFacts.{at_map, each-none, each-cons}
use Rattle.table_core.proofs.SightFacts.{sighted}
use Rattle.schedule_rule.specs.Calls.{Ended, IsSo}
use Rattle.schedule_rule.specs.LifeViews.{knowing}
use Rattle.schedule_rule.specs.Results.{tag_for, IsResult}
use Rattle.schedule_rule.specs.SeeingViews.{SawNumber, TellsResult}
use Rattle.schedule_rule.specs.Parts.{Part, facts, results, seen, Says, AllSay, Keeps}
use Rattle.schedule_rule.proofs.KnowingFacts.{table-knowing, facts-known, has-append}
use Rattle.schedule_rule.proofs.Rule.{frames, moves, same-story}
use Rattle.schedule_rule.proofs.SeeingKinds.{seen-says}

-- an outcome with the tag of a number is the number that the result word says
number-given : (o : Outcome) (result : ℕ) → tag_code tag.Number ≡ tag_code (tag_for o) → IsResult result o → o ≡ Gave (Number result)
number-given (Gave (Number n)) result same is = ap (λ (k : ℕ). Gave (Number k)) (sym is)
number-given (Gave (Trapped trap.Overflow)) result same is = absurd (omega (arith, same))
number-given (Gave (Trapped trap.Divide)) result same is = absurd (omega (arith, same))
number-given (Gave (Trapped trap.NoRow)) result same is = absurd (omega (arith, same))
number-given (WasCut cut IsNull) result same is = absurd (omega (arith, same))
number-given (WasCut cut IsLimit) result same is = absurd (omega (arith, same))

module _ (g : Setup) (id : ℕ) (v : View) where
  module _ (m : Mem) (vs : List View) (s : Story) (l : AllSay g s m vs) (at : At vs id v) (u word : ℕ) (saw_done : Has (SawDone u word) v.sights) where
    abbrev result : ℕ
    result = m (outcome u)

    -- what was seen of records is so
    known : Each (λ x. (1 ≤ times (seen_at x) v.futures) × StillSo (λ w. m (head w)) (λ w. m (task w)) (λ w. m (state w)) x) v.sights
    known = l.table sights id (table_seen sights v) (at_map (table_seen sights) vs id v at)

    -- the record is done still, with this word
    done : (1 ≤ times u v.futures) × (m (state u) ≡ word) × (phase_of word ≡ 5)
    done = let k = known saw_done.0 (SawDone u word) saw_done.1 in (k.0, k.1.0, k.1.1)

    -- it is one of the table
    near : u < units_of g.plan
    near = (sighted g m vs s l.table id (table_seen sights v) (at_map (table_seen sights) vs id v at) u done.0).0

    -- how its task ended
    ends_so : (o : Outcome) × Ended s.ends (m (task u)) o × (tag_of word ≡ tag_code (tag_for o)) × IsResult result o
    ends_so =
        let t = l.schedule results u near (ap phase_of done.1 ∙ done.2) in
        (t.0, t.1, ap tag_of (sym done.1) ∙ t.2.0, t.2.1)

    -- what is known more: that the task gave the number, where the word says that it gave one
    abbrev Learns : List Fact → Type 0
    Learns more = Each (IsSo s.calls s.ends) more × (tag_of word ≢ tag_code tag.Number → more ≡ []) × (tag_of word ≡ tag_code tag.Number → Has (IsOver (m (task u)) (Gave (Number result))) more)

    -- there are such facts
    learns : (more : List Fact) × Learns more
    learns = by (cases_eq (tag_of word) (tag_code tag.Number))
      where
        by : (tag_of word ≡ tag_code tag.Number) ⊎ (tag_of word ≢ tag_code tag.Number) → (more : List Fact) × Learns more
        by (inr ne) = ([], (each-none (IsSo s.calls s.ends), (λ other. refl), (λ e. absurd (ne e))))
        by (inl e) =
            let gave : ends_so.0 ≡ Gave (Number result) = number-given ends_so.0 result (sym e ∙ ends_so.2) ends_so.3 in (
              IsOver (m (task u)) (Gave (Number result)) ∷ [],
              (
                each-cons (IsSo s.calls s.ends) (IsOver (m (task u)) (Gave (Number result))) [] (subst (Ended s.ends (m (task u))) gave ends_so.1) (each-none (IsSo s.calls s.ends)),
                (λ ne. absurd (ne e)),
                (λ same. (0, refl)),
              ),
            )

    abbrev after_result : View
    after_result = knowing learns.0 (saw (outcome u) result v)

    -- each task that was seen there is known to have given it
    gives : tag_of word ≡ tag_code tag.Number → SawNumber after_result u result
    gives e t saw_it = has-append (IsOver t (Gave (Number result))) learns.0 v.facts
        (subst (λ (k : ℕ). Has (IsOver k (Gave (Number result))) learns.0) (known saw_it.0 (SawTask u t) saw_it.1).1 (learns.1.2 e))

    -- the scheduler's rule holds with what is known more
    result-says : (q : Part) → Says g q s (put m (outcome u) result) (map (seen q) (slice_set vs id after_result))
    result-says facts = moves g vs id v at facts s (put m (outcome u) result) after_result (facts-known g m vs s l id v at learns.0 learns.1.0)
    result-says q = frames g vs id v at q s (put m (outcome u) result) after_result refl (subst (λ (x : Mem). Says g q s x (map (seen q) vs)) (sym (put-again m (outcome u))) (l.schedule q))

  -- see result, of a record that was seen done
  pub sees-result-at : (u word : ℕ) → Has (SawDone u word) v.sights → Keeps g id v (outcome u) (λ n. n) (λ r w. TellsResult u word v r w)
  sees-result-at u word saw_done m vs s l at small =
      let more = learns m vs s l at u word saw_done in (
        after_result m vs s l at u word saw_done,
        (
          s,
          same-story s,
          record {
            table = table-knowing g s (put m (outcome u) (m (outcome u))) vs id more.0 (saw (outcome u) (m (outcome u)) v) (seen-says g id v m vs s l at (outcome u)).table;
            schedule = result-says m vs s l at u word saw_done;
          },
        ),
        (more.0, refl, more.1.1, gives m vs s l at u word saw_done),
        (refl, refl, inl refl),
      )
