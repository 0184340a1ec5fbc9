-- How much one pass may have.
use Rattle.std.specs.Prelude.{◌≡◌, ℕ, ◌+◌, ◌*◌, ◌≤◌, List}
use Rattle.record_core.specs.Sums.{total}

-- how many of each a pass has; `things` are all that leaves a pass not idle, but for its references, with the turn and the leave to
-- draw
pub record Held : Type 0 where
  pub parts : ℕ
  pub references : ℕ
  pub things : ℕ
  pub may_draw : ℕ
  pub taken : ℕ
  pub drawn : ℕ
  pub calls : ℕ

pub record IsBounded (h : Held) : Type 0 where
  -- a frame that is taken brings at most 64 references, and a number that is placed brings one
  pub few : h.references + h.drawn ≤ 4294967296 + 64 * h.taken + h.calls
  -- each number that was drawn has its call
  pub accepted : h.drawn ≤ h.calls
  pub single : h.may_draw ≤ 1
  -- a pass that was joined into another has nothing
  pub spent : h.parts ≡ 0 → h.references + h.things ≡ 0

-- how many numbers a pass took, and of how many it has the calls
pub record Numbered : Type 0 where
  pub taken : ℕ
  pub calls : ℕ

-- all passes together took no more numbers than the limit, and have the calls that are accepted, so many
pub record NumbersSound (limit accepted : ℕ) (vs : List Numbered) : Type 0 where
  pub taken : total (λ v. v.taken) vs ≤ limit
  pub calls : total (λ v. v.calls) vs ≡ accepted
