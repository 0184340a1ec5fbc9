-- Loads of the totals keep the scheduler's rule: who sees fewer numbers drawn than the limit may draw one, and who sees that
-- nothing lives once all roots were asked for knows that nothing will.
use Rattle.std.proofs.Common.{◌≡◌, ◌⊎◌, inl, inr, ℕ, zero, suc, ◌<◌, ◌≤◌, ◌==◌, ◌&&◌, Bool, true, false, cond, Option, Some, None, List, map, length, refl, sym, ap, subst, arith}
use Rattle.std.specs.Prelude.{slice_set, nat_lt}
use Rattle.std.proofs.lemmas.Bool.{cases_lt, eqb-true, and_parts}
use Rattle.std.proofs.lemmas.List.{map-set}
use Rattle.record_core.specs.Sums.{total, below}
use Rattle.record_core.specs.Counting.{At, one_if}
use Rattle.record_core.proofs.TotalFacts.{total-map, total-set, total-le}
use Rattle.record_core.proofs.BelowFacts.{below-same}
use Rattle.record_core.proofs.NumberFacts.{member_at}
use Rattle.table_core.specs.Addresses.{Mem, root, sum}
use Rattle.table_core.specs.Asking.{Asker, IsLimit}
use Rattle.table_core.specs.Bounds.{IsBounded}
use Rattle.table_core.specs.Holdings.{RootSays}
use Rattle.table_core.specs.Roots.{Turn, RootsSound, word_at, asked_in}
use Rattle.table_core.specs.Steps.{Stepped}
use Rattle.table_core.specs.Story.{Story}
use Rattle.table_core.specs.Views.{saw}
use Rattle.table_core.specs.Parts.{Part as TablePart, bounds, shares, roots, seen as table_seen, Says as TableSays, totals}
use Rattle.table_core.specs.declared.setup.Setup.{Setup}
use Rattle.table_core.specs.declared.view.View.{View}
use Rattle.table_core.proofs.ListFacts.{at_map, each-set, set_cases, each-cons}
use Rattle.table_core.proofs.PoolKinds.{bounded}
use Rattle.table_core.proofs.Rule.{frames as table_frames, moves as table_moves}
use Rattle.table_core.proofs.RootKinds.{word-behind}
use Rattle.table_core.proofs.StandingFacts.{total-some}
use Rattle.schedule_rule.specs.DrawViews.{permitted, told_limit, saw_live, SawDrawn}
use Rattle.schedule_rule.specs.Limits.{ToldSound}
use Rattle.schedule_rule.specs.Parts.{Part, draws, quiet, seen, Says, AllSay, Keeps, limits}
use Rattle.schedule_rule.proofs.Rule.{frames, moves, kept_word, same-story}

-- a function that is 0 from k on is above 0 at k numbers at most
few-above : (f : ℕ → ℕ) (k : ℕ) → ((r : ℕ) → k ≤ r → f r ≡ 0) → (n : ℕ) → (below (λ r. one_if (nat_lt 0 (f r))) n ≤ n) × (below (λ r. one_if (nat_lt 0 (f r))) n ≤ k)
few-above f k none zero = (omega arith, omega arith)
few-above f k none (suc n) =
    let was = few-above f k none n in let one : one_if (nat_lt 0 (f n)) ≤ 1 = at_most (nat_lt 0 (f n)) in
    (omega (arith, was.0, one), elim (cases_lt n k) [ inl low ↦ omega (arith, was.0, one, low) | inr far ↦ omega (arith, was.1, ap (λ (x : ℕ). one_if (nat_lt 0 x)) (none n (omega (arith, far)))) ])
  where
    at_most : (b : Bool) → one_if b ≤ 1
    at_most true = omega arith
    at_most false = omega arith

module _ (g : Setup) (id : ℕ) (v : View) where
  module _ (m : Mem) (vs : List View) (s : Story) (l : AllSay g s m vs) (at : At vs id v) where
    -- a pass that may draw is one of the 4,096
    few-permits : (k : ℕ) (x : View) → At vs k x → x.may_draw ≤ x.parts
    few-permits k x there =
        let is = l.table bounds k (table_seen bounds x) (at_map (table_seen bounds) vs k x there) in
        elim (cases_lt 0 x.parts) [ inl some ↦ omega (arith, some, is.single) | inr none ↦ omega (arith, none, is.spent (omega (arith, none))) ]

    -- so no more than 4,096 may draw
    permits-few : 1 ≤ v.parts → total (λ n. n) (map (seen draws) (slice_set vs id (permitted v))) ≤ 4096
    permits-few in_use = omega (
      arith,
      l.table shares,
      total-map (λ (n : ℕ). n) (λ (x : View). x.parts) vs,
      total-map (λ (n : ℕ). n) (λ (x : View). x.may_draw) (slice_set vs id (permitted v)),
      total-set (λ (x : View). x.may_draw) vs id v (permitted v) at,
      total-set (λ (x : View). x.parts) vs id v (record v { parts = 1 }) at,
      total-set (λ (x : View). x.may_draw) vs id v (record v { may_draw = 0 }) at,
      in_use,
      total-le (λ (x : View). x.may_draw) (λ (x : View). x.parts) (slice_set vs id (permitted v)) (λ k x there. elim (set-cases k x there) [ inl e ↦ subst (λ (y : View). y.may_draw ≤ y.parts) (sym e) in_use | inr old ↦ few-permits k x old ]),
      total-set (λ (x : View). x.parts) vs id v (permitted v) at,
    )
      where
        set-cases : (k : ℕ) (x : View) → At (slice_set vs id (permitted v)) k x → (x ≡ permitted v) ⊎ At vs k x
        set-cases k x there = elim (set_cases vs id k (permitted v) x there) [ inl t ↦ inl t.1 | inr t ↦ inr t.1 ]

    -- below the limit, and at it
    abbrev after_drawn : View
    after_drawn = saw (sum 0) (m (sum 0)) (permitted v)

    abbrev after_limit : Option Asker → View
    after_limit asker = saw (sum 0) (m (sum 0)) (told_limit asker v)

    was_bounded : IsBounded (table_seen bounds v)
    was_bounded = l.table bounds id (table_seen bounds v) (at_map (table_seen bounds) vs id v at)

    -- the parts of the table's rule, and of the scheduler's, where a number may be drawn
    drawn-table : 1 ≤ v.parts → (q : TablePart) → TableSays g q s m (map (table_seen q) (slice_set vs id after_drawn))
    drawn-table in_use bounds = table_moves g vs id v at bounds s m after_drawn (each-set _ (map (table_seen bounds) vs) id (table_seen bounds after_drawn) (l.table bounds)
        (record { few = was_bounded.few; accepted = was_bounded.accepted; single = omega arith; spent = λ none. absurd (omega (arith, in_use, none)) }))
    drawn-table in_use q = table_frames g vs id v at q s m after_drawn refl (l.table q)

    drawn-says : 1 ≤ v.parts → m (sum 0) < g.plan.limit → (q : Part) → Says g q s m (map (seen q) (slice_set vs id after_drawn))
    drawn-says in_use low draws = moves g vs id v at draws s m after_drawn
        (omega (arith, low, permits-few in_use, total-map (λ (n : ℕ). n) (seen draws) (slice_set vs id (permitted v)), ap (total (λ (n : ℕ). n)) (map-set (seen draws) vs id (permitted v))))
    drawn-says in_use low q = frames g vs id v at q s m after_drawn refl (l.schedule q)

    -- and where the limit is met
    limit-table : (asker : Option Asker) → 1 ≤ v.parts → (q : TablePart) → TableSays g q s m (map (table_seen q) (slice_set vs id (after_limit asker)))
    limit-table None in_use bounds = table_frames g vs id v at bounds s m (after_limit None) refl (l.table bounds)
    limit-table None in_use q = table_frames g vs id v at q s m (after_limit None) refl (l.table q)
    limit-table (Some asker) in_use bounds = table_moves g vs id v at bounds s m (after_limit (Some asker))
        (each-set _ (map (table_seen bounds) vs) id (table_seen bounds (after_limit (Some asker))) (l.table bounds) (bounded (table_seen bounds v) _ in_use was_bounded))
    limit-table (Some asker) in_use q = table_frames g vs id v at q s m (after_limit (Some asker)) refl (l.table q)

    limit-says : (asker : Option Asker) → g.plan.limit ≤ m (sum 0) → (q : Part) → Says g q s m (map (seen q) (slice_set vs id (after_limit asker)))
    limit-says None far draws = frames g vs id v at draws s m (after_limit None) refl (l.schedule draws)
    limit-says None far q = frames g vs id v at q s m (after_limit None) refl (l.schedule q)
    limit-says (Some asker) far draws = frames g vs id v at draws s m (after_limit (Some asker)) refl (l.schedule draws)
    limit-says (Some asker) far limits = moves g vs id v at limits s m (after_limit (Some asker))
        (let was : ToldSound g.plan.limit s.calls (seen limits v) = (l.schedule limits).told id (seen limits v) (at_map (seen limits) vs id v at) in
        record {
          told = each-set (ToldSound g.plan.limit s.calls) (map (seen limits) vs) id (seen limits (after_limit (Some asker))) (l.schedule limits).told (record { answers = each-cons _ (record { asker = asker; refusal = IsLimit }) v.answers (λ _. omega (arith, (l.table totals).drawn, far)) was.answers; roots = was.roots });
          ended = (l.schedule limits).ended;
        })
    limit-says (Some asker) far q = frames g vs id v at q s m (after_limit (Some asker)) refl (l.schedule q)

    -- the load of the word of living records
    abbrev after_live : View
    after_live = saw (sum 1) (m (sum 1)) (saw_live g.plan.roots (m (sum 1)) v)

    -- and where what lives was seen
    live-table : (q : TablePart) → TableSays g q s m (map (table_seen q) (slice_set vs id after_live))
    live-table bounds = table_frames g vs id v at bounds s m after_live refl (l.table bounds)
    live-table q = table_frames g vs id v at q s m after_live refl (l.table q)

    turns : RootsSound g.checked g.plan (λ r. m (root r)) (map (table_seen roots) vs)
    turns = l.table roots

    -- no more roots are asked for than there are
    asked-few : asked_in (λ r. m (root r)) ≤ g.plan.roots
    asked-few =
        let t = total-some (λ (x : Turn). length x.turn) (map (table_seen roots) vs) (omega (arith, turns.one)) in
        let one = member_at (t.1).turn 0 (omega (arith, t.3)) in
        let asked : List RootSays = one.0 in let few = turns.few t.0 t.1 t.2 0 asked one.1 in
        omega (
          arith,
          few,
          (few-above (word_at asked) (length asked) (word-behind asked) 16).1,
          below-same (λ r. one_if (nat_lt 0 (m (root r)))) (λ r. one_if (nat_lt 0 (word_at asked r))) 16 (λ r low. ap (λ (x : ℕ). one_if (nat_lt 0 x)) (turns.says t.0 t.1 t.2 0 asked one.1 r low)),
        )

    live-says : (q : Part) → Says g q s m (map (seen q) (slice_set vs id after_live))
    live-says quiet = moves g vs id v at quiet s m after_live (each-set _ (map (seen quiet) vs) id (seen quiet after_live) (l.schedule quiet) (by ((m (sum 1) == 0) && (v.asked == g.plan.roots)) refl))
      where
        by : (b : Bool) → ((m (sum 1) == 0) && (v.asked == g.plan.roots)) ≡ b → 1 ≤ cond b 1 v.quiet → (m (sum 1) ≡ 0) × (asked_in (λ r. m (root r)) ≡ g.plan.roots)
        by true e some =
            let t = and_parts (m (sum 1) == 0) (v.asked == g.plan.roots) e in
            (eqb-true (m (sum 1)) 0 t.0, omega (arith, asked-few, eqb-true v.asked g.plan.roots t.1, turns.known id (table_seen roots v) (at_map (table_seen roots) vs id v at)))
        by false e some = l.schedule quiet id (seen quiet v) (at_map (seen quiet) vs id v at) some
    live-says q = frames g vs id v at q s m after_live refl (l.schedule q)

  -- see total, of the numbers drawn
  pub sees-drawn-at : (asker : Option Asker) → 1 ≤ v.parts → Keeps g id v (sum 0) (λ n. n) (SawDrawn g.plan.limit asker v)
  sees-drawn-at asker in_use m vs s l at small = elim (cases_lt (m (sum 0)) g.plan.limit) [
    | inl low ↦ (
      saw (sum 0) (m (sum 0)) (permitted v),
      kept_word g s m (sum 0) (m (sum 0)) (slice_set vs id (saw (sum 0) (m (sum 0)) (permitted v))) refl (s, same-story s, record { table = drawn-table m vs s l at in_use; schedule = drawn-says m vs s l at in_use low }),
      ((λ _. refl), (λ far. absurd (omega (arith, low, far)))),
      (refl, refl, inl refl),
    )
    | inr far ↦ (
      saw (sum 0) (m (sum 0)) (told_limit asker v),
      kept_word g s m (sum 0) (m (sum 0)) (slice_set vs id (saw (sum 0) (m (sum 0)) (told_limit asker v))) refl (s, same-story s, record { table = limit-table m vs s l at asker in_use; schedule = limit-says m vs s l at asker (omega (arith, far)) }),
      ((λ low. absurd (omega (arith, low, far))), (λ _. refl)),
      steps asker (m (sum 0)),
    )
  ]
    where
      steps : (asker : Option Asker) (n : ℕ) → Stepped (sum 0) n n v (saw (sum 0) n (told_limit asker v))
      steps None n = (refl, refl, inl refl)
      steps (Some asker) n = (refl, refl, inl refl)

  -- see total, of what lives
  pub sees-live-at : Keeps g id v (sum 1) (λ n. n) (λ r w. w ≡ saw (sum 1) r (saw_live g.plan.roots r v))
  sees-live-at m vs s l at small = (
    saw (sum 1) (m (sum 1)) (saw_live g.plan.roots (m (sum 1)) v),
    kept_word g s m (sum 1) (m (sum 1)) (slice_set vs id (saw (sum 1) (m (sum 1)) (saw_live g.plan.roots (m (sum 1)) v))) refl (
      s,
      same-story s,
      record {
        table = live-table m vs s l at;
        schedule = live-says m vs s l at;
      },
    ),
    refl,
    (refl, refl, inl refl),
  )
