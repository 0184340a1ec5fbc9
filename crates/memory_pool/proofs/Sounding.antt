-- The views of a pass before and after a search are sound.
use Rattle.std.proofs.Common.{◌≡◌, ◌⊎◌, inl, inr, ℕ, ◌<◌, subst, arith}
use Rattle.table_core.specs.declared.setup.Setup.{Setup}
use Rattle.table_core.specs.declared.view.View.{View}
use Rattle.schedule_rule.specs.SoundViews.{SoundView}
use Rattle.step_table.specs.Sound.{AreSound}

-- in so many rounds: none was made and nothing has changed, or both views are sound
abbrev pub SoundSince : Setup → ℕ → View → View → Type 0
SoundSince g k old now = ((k ≡ 0) × (now ≡ old)) ⊎ AreSound g old now

module _ (g : Setup) (old now : View) where
  -- so they are where a step follows, or a call
  pub sound-next : (k : ℕ) (new : View) → SoundSince g k old now → AreSound g now new → AreSound g old new
  sound-next k new (inl same) step = record { before = subst (SoundView g) same.1 step.before; after = step.after }
  sound-next k new (inr since) step = record { before = since.before; after = step.after }

  -- and after some rounds
  pub sound-after : (k : ℕ) → 0 < k → SoundSince g k old now → AreSound g old now
  sound-after k some (inl none) = absurd (omega (arith, some, none.0))
  sound-after k some (inr since) = since

  -- two calls in a row
  pub sound-on : (new : View) → AreSound g old now → AreSound g now new → AreSound g old new
  sound-on new first second = record { before = first.before; after = second.after }
