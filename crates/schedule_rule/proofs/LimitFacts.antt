-- That the limit is met stays so, and answers that are left are some of those that were given.
use Rattle.std.proofs.Common.{ℕ, Bool, true, false, cond, List, [], ◌∷◌, refl, arith}
use Rattle.task_meaning.specs.Worths.{Accepted}
use Rattle.table_core.specs.Asking.{Answer}
use Rattle.table_core.specs.Lists.{Each}
use Rattle.table_core.specs.RecordViews.{is_of_root, left_answers}
use Rattle.table_core.specs.Story.{End}
use Rattle.table_core.proofs.ListFacts.{each-cons, each-tail}
use Rattle.schedule_rule.specs.LifeViews.{is_to, answers_left}
use Rattle.schedule_rule.specs.Limits.{IsMet, Told, LimitsSound}
use Rattle.schedule_rule.proofs.StoryFacts.{more, length-more}

module _ (P : Answer → Type 0) where
  -- the answers to others than a task
  pub each-answers_left : (t : ℕ) (l : List Answer) → Each P l → Each P (answers_left t l)
  each-answers_left t [] all = all
  each-answers_left t (a ∷ l) all = by (is_to t a.asker) (each-answers_left t l (each-tail P a l all))
    where
      by : (b : Bool) → Each P (answers_left t l) → Each P (cond b (answers_left t l) (a ∷ answers_left t l))
      by true rest = rest
      by false rest = each-cons P a (answers_left t l) (all 0 a refl) rest

  -- the answers to tasks
  pub each-left_answers : (l : List Answer) → Each P l → Each P (left_answers l)
  each-left_answers [] all = all
  each-left_answers (a ∷ l) all = by (is_of_root a.asker) (each-left_answers l (each-tail P a l all))
    where
      by : (b : Bool) → Each P (left_answers l) → Each P (cond b (left_answers l) (a ∷ left_answers l))
      by true rest = rest
      by false rest = each-cons P a (left_answers l) (all 0 a refl) rest

-- once one more call is accepted the limit is met where it was
pub limits-stay : (limit : ℕ) (calls : List Accepted) (a : Accepted) (ends : List End) (vs : List Told) → LimitsSound limit calls ends vs → LimitsSound limit (more calls a) ends vs
limits-stay limit calls a ends vs was = record {
  told = λ k h there. let is = was.told k h there in
      record { answers = λ j x there' e. still (is.answers j x there' e); roots = λ j xs there' i x there'' e. still (is.roots j xs there' i x there'' e) };
  ended = λ k x there e. still (was.ended k x there e);
}
  where
    still : IsMet limit calls → IsMet limit (more calls a)
    still met = omega (arith, met, length-more calls a)
