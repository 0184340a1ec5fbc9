-- For whom numbers are drawn is said as before, once one more call is accepted.
use Rattle.std.proofs.Common.{◌≡◌, ◌∙◌, inl, inr, ℕ, ◌+◌, List, sym, ap, arith}
use Rattle.record_core.specs.Sums.{total}
use Rattle.kt_words.specs.declared.plan.Plan.{Plan}
use Rattle.task_meaning.specs.Worths.{Accepted}
use Rattle.table_core.specs.Asking.{Asker, OfRoot, OfTask, Drawn}
use Rattle.table_core.specs.Holdings.{Made, Run}
use Rattle.table_core.specs.Lists.{Each}
use Rattle.schedule_rule.specs.Calls.{task_of, IsNumber, begun}
use Rattle.schedule_rule.specs.Askers.{Asks, asks_for, IsAsker, IsNextOf, IsFirstOf, IsForRecord, AskedSound}
use Rattle.schedule_rule.proofs.StoryFacts.{more, not-new, task-same, begun-same}

module _ (calls : List Accepted) (a : Accepted) where
  -- a number for a made record is one still
  pub first-stays : (d : Drawn) (r : Made) → IsNumber calls d.number → IsFirstOf calls d r → IsFirstOf (more calls a) d r
  first-stays d r is was = record { unit = was.unit; number = was.number; task = task-same calls a d.number (not-new calls a d.number is) ∙ was.task }

  -- a number for a run's next activation is one still
  pub next-stays : (d : Drawn) (r : Run) → IsNumber calls d.number → IsNumber calls r.number → IsNextOf calls d r → IsNextOf (more calls a) d r
  next-stays d r is is' was =
      let same : task_of (more calls a) r.number ≡ task_of calls r.number = task-same calls a r.number (not-new calls a r.number is') in
      record {
        unit = was.unit;
        asked = was.asked;
        asker = was.asker ∙ ap OfTask (sym same);
        task = task-same calls a d.number (not-new calls a d.number is) ∙ was.task ∙ sym same;
        next = ap (λ (t : ℕ). begun (more calls a) t d.number) same ∙ begun-same calls a (task_of calls r.number) d.number (omega (arith, is.1)) ∙ was.next
            ∙ ap (λ (k : ℕ). k + 1) (sym (ap (λ (t : ℕ). begun (more calls a) t r.number) same ∙ begun-same calls a (task_of calls r.number) r.number (omega (arith, is'.1))));
      }

  -- a run has as many numbers unplaced as before
  pub unplaced-stays : (drawn : List Drawn) (r : Run) → IsNumber calls r.number → r.unplaced ≡ total (λ d. asks_for (task_of calls r.number) d.asker) drawn
      → r.unplaced ≡ total (λ d. asks_for (task_of (more calls a) r.number) d.asker) drawn
  unplaced-stays drawn r is was = was ∙ ap (λ (t : ℕ). total (λ (d : Drawn). asks_for t d.asker) drawn) (sym (task-same calls a r.number (not-new calls a r.number is)))

  module _ (g : Plan) (h : Asks) (drawn : Each (λ (d : Drawn). IsNumber calls d.number) h.drawn) (runs : Each (λ (r : Run). IsNumber calls r.number) h.runs) where
    -- who asked is an asker still
    pub asker-stays : (n : ℕ) (asker : Asker) → IsAsker calls g h n asker → IsAsker (more calls a) g h n asker
    asker-stays n (OfTask t) was = let r : Run = was.0 in (r, was.1, task-same calls a r.number (not-new calls a r.number (runs was.1.0 r was.1.1)) ∙ was.2)
    asker-stays n (OfRoot r) was = was

    -- the record that a number is for is in the hand still
    pub record-stays : (d : Drawn) → IsNumber calls d.number → IsForRecord calls h d → IsForRecord (more calls a) h d
    record-stays d is (inl t) = inl (t.0, t.1, first-stays d t.0 is t.2)
    record-stays d is (inr t) = inr (t.0, t.1, next-stays d t.0 is (runs t.1.0 t.0 t.1.1) t.2)

    -- so all that is said of a hand is so still
    pub asked-stays : AskedSound calls g h → AskedSound (more calls a) g h
    asked-stays was = record {
      asker = λ k d at. let t = was.asker k d at in (asker-stays d.number d.asker t.0, record-stays d (drawn k d at) t.1);
      made = was.made;
      unplaced = λ k r at. unplaced-stays h.drawn r (runs k r at) (was.unplaced k r at);
      one = was.one;
      asked = λ k r at e. let t = was.asked k r at e in (t.0, t.1, next-stays t.0 r (drawn t.1.0 t.0 t.1.1) (runs k r at) t.2);
    }
