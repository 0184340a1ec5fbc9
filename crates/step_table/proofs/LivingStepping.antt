-- The steps on the count of living records, by the units of the records.
use Rattle.std.proofs.Common.{◌≡◌, ℕ, ◌+◌, ◌-◌, ◌%◌, ◌^◌, ◌≤◌, subst}
use Rattle.table_core.specs.Addresses.{sum}
use Rattle.table_core.specs.Views.{saw}
use Rattle.table_core.specs.declared.setup.Setup.{Setup}
use Rattle.table_core.specs.declared.view.View.{View}
use Rattle.schedule_rule.specs.LifeViews.{counted_in, counted_out}
use Rattle.schedule_rule.specs.Parts.{Keeps}
use Rattle.schedule_rule.proofs.LiveKinds.{counts-in-at, counts-out-at}
use Rattle.step_table.specs.LivingSteps.{MayCountIn, MayCountOut}
use Rattle.step_table.proofs.LookupFacts.{made-there, done-there}

module _ (g : Setup) (id : ℕ) (v : View) (u : ℕ) where
  -- a made record is counted in
  pub counts-in-value : MayCountIn g.plan u v → 1 ≤ v.parts → Keeps g id v (sum 1) (λ n. (n + 1) % 2 ^ 64) (λ k w. w ≡ saw (sum 1) k (counted_in u v))
  counts-in-value may in_use =
      let has = made-there u v.made may.made may.at.there in
      subst (λ (x : ℕ). Keeps g id v (sum 1) (λ n. (n + 1) % 2 ^ 64) (λ k w. w ≡ saw (sum 1) k (counted_in x v))) has.1 (counts-in-at g id v may.made has.0 may.uncounted may.numbered in_use)

  -- a done record is counted out
  pub counts-out-value : MayCountOut g.plan u v → 1 ≤ v.parts → Keeps g id v (sum 1) (λ n. (n + (2 ^ 64 - 1)) % 2 ^ 64) (λ k w. w ≡ saw (sum 1) k (counted_out u v))
  counts-out-value may in_use =
      let has = done-there u v.done may.done may.at.there in
      subst (λ (x : ℕ). Keeps g id v (sum 1) (λ n. (n + (2 ^ 64 - 1)) % 2 ^ 64) (λ k w. w ≡ saw (sum 1) k (counted_out x v))) has.1 (counts-out-at g id v may.done has.0 may.counted may.closed in_use)
