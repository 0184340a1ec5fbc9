-- What was seen of records is kept where a reference to them is left.
use Rattle.std.proofs.Common.{◌≡◌, ◌∙◌, ℕ, zero, suc, ◌≤◌, ◌==◌, Bool, true, false, cond, List, [], ◌∷◌, ap, arith}
use Rattle.std.specs.Prelude.{slice_get}
use Rattle.std.proofs.lemmas.Bool.{ne_eqb}
use Rattle.record_core.specs.Counting.{Has, times}
use Rattle.record_core.proofs.TotalFacts.{none_there}
use Rattle.table_core.specs.Holdings.{Sight, seen_at}
use Rattle.table_core.proofs.ListFacts.{same_some}
use Rattle.schedule_rule.specs.PlacingViews.{kept_sights}

-- sights are kept of records to which a reference is left
pub kept-has : (futures : List ℕ) (ss : List Sight) (s : Sight) → 1 ≤ times (seen_at s) futures → Has s ss → Has s (kept_sights futures ss)
kept-has futures [] s some has = absurd (none_there s has.1)
kept-has futures (x ∷ ss) s some (zero, at) =
    let x_is : x ≡ s = same_some x s at in
    let kept : (times (seen_at x) futures == 0) ≡ false = ne_eqb (times (seen_at x) futures) 0 (λ e. absurd (omega (arith, some, e, ap (λ (y : Sight). times (seen_at y) futures) x_is))) in
    (0, ap (λ (b : Bool). slice_get (cond b (kept_sights futures ss) (x ∷ kept_sights futures ss)) 0) kept ∙ at)
kept-has futures (x ∷ ss) s some (suc k, at) = by (times (seen_at x) futures == 0) (kept-has futures ss s some (k, at))
  where
    by : (b : Bool) → Has s (kept_sights futures ss) → Has s (cond b (kept_sights futures ss) (x ∷ kept_sights futures ss))
    by true t = t
    by false t = (suc t.0, t.1)
