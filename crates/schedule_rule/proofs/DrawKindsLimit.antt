-- A draw above the limit keeps the scheduler's rule: no call is accepted, and the asker is told.
use Rattle.std.proofs.Common.{◌≡◌, ℕ, ◌+◌, ◌%◌, ◌^◌, ◌≤◌, List, map, refl, arith}
use Rattle.std.specs.Prelude.{slice_set}
use Rattle.record_core.specs.Counting.{At}
use Rattle.record_core.proofs.TotalFacts.{total-set}
use Rattle.table_core.specs.Addresses.{Mem, sum, put}
use Rattle.table_core.specs.Asking.{Asker, IsLimit}
use Rattle.table_core.specs.Bounds.{IsBounded}
use Rattle.table_core.specs.Story.{Story}
use Rattle.table_core.specs.Views.{saw}
use Rattle.table_core.specs.Parts.{Part as TablePart, bounds, totals, seen as table_seen, Says as TableSays}
use Rattle.table_core.specs.declared.setup.Setup.{Setup}
use Rattle.table_core.specs.declared.view.View.{View}
use Rattle.table_core.proofs.ListFacts.{at_map, each-set, each-cons}
use Rattle.table_core.proofs.Rule.{frames as table_frames, moves as table_moves}
use Rattle.schedule_rule.specs.DrawViews.{drew_none}
use Rattle.schedule_rule.specs.Limits.{ToldSound}
use Rattle.schedule_rule.specs.Parts.{Part, draws, seen, Says, AllSay, limits}
use Rattle.schedule_rule.proofs.Rule.{frames, moves}

module _ (g : Setup) (id : ℕ) (v : View) (m : Mem) (vs : List View) (s : Story) (l : AllSay g s m vs) (at : At vs id v) (asker : Asker) (may : v.may_draw ≡ 1) (in_use : 1 ≤ v.parts)
    (far : g.plan.limit ≤ m (sum 0)) where
  -- the view after the draw
  abbrev pub after_none : View
  after_none = saw (sum 0) (m (sum 0)) (drew_none asker v)

  abbrev word : ℕ
  word = (m (sum 0) + 1) % 2 ^ 64

  word-is : word ≡ m (sum 0) + 1
  word-is = omega (arith, l.schedule draws, g.plan.limit_fits.1)

  was_bounded : IsBounded (table_seen bounds v)
  was_bounded = l.table bounds id (table_seen bounds v) (at_map (table_seen bounds) vs id v at)

  -- the parts of the table's rule, and of the scheduler's
  none-table : (q : TablePart) → TableSays g q s (put m (sum 0) word) (map (table_seen q) (slice_set vs id after_none))
  none-table bounds = table_moves g vs id v at bounds s (put m (sum 0) word) after_none (each-set IsBounded (map (table_seen bounds) vs) id (table_seen bounds after_none) (l.table bounds)
      (record { few = was_bounded.few; accepted = was_bounded.accepted; single = omega arith; spent = λ none. absurd (omega (arith, none, in_use)) }))
  none-table totals = table_frames g vs id v at totals s (put m (sum 0) word) after_none refl (record {
    drawn = omega (arith, (l.table totals).drawn, word-is, far);
    stamps = (l.table totals).stamps;
  })
  none-table q = table_frames g vs id v at q s (put m (sum 0) word) after_none refl (l.table q)

  none-says : (q : Part) → Says g q s (put m (sum 0) word) (map (seen q) (slice_set vs id after_none))
  none-says draws = moves g vs id v at draws s (put m (sum 0) word) after_none
      (omega (arith, l.schedule draws, may, word-is, total-set (λ (k : ℕ). k) (map (seen draws) vs) id (seen draws v) 0 (at_map (seen draws) vs id v at)))
  none-says limits = moves g vs id v at limits s (put m (sum 0) word) after_none
      (let was : ToldSound g.plan.limit s.calls (seen limits v) = (l.schedule limits).told id (seen limits v) (at_map (seen limits) vs id v at) in
      record {
        told = each-set (ToldSound g.plan.limit s.calls) (map (seen limits) vs) id (seen limits after_none) (l.schedule limits).told (record { answers = each-cons _ (record { asker = asker; refusal = IsLimit }) v.answers (λ _. omega (arith, (l.table totals).drawn, far)) was.answers; roots = was.roots });
        ended = (l.schedule limits).ended;
      })
  none-says q = frames g vs id v at q s (put m (sum 0) word) after_none refl (l.schedule q)

  -- all parts, of the same story
  pub none_drawn : AllSay g s (put m (sum 0) word) (slice_set vs id after_none)
  none_drawn = record { table = none-table; schedule = none-says }
