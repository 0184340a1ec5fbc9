-- What holds of each member of a list, and where pairs and triples agree.
use Rattle.std.specs.Prelude.{ℕ, List, cond, ◌==◌}
use Rattle.record_core.specs.Counting.{At}

-- P holds of each member
abbrev pub Each : {A : Type 0} → (A → Type 0) → List A → Type 0
Each P l = (k : ℕ) (x : _) → At l k x → P x

-- 1 where the two pairs are the same; where the two triples are
abbrev pub hit : ℕ → ℕ → ℕ → ℕ → ℕ
hit i c j k = cond (i == j) (cond (c == k) 1 0) 0

abbrev pub hit3 : ℕ → ℕ → ℕ → ℕ → ℕ → ℕ → ℕ
hit3 i c b j k d = cond (i == j) (cond (c == k) (cond (b == d) 1 0) 0) 0
