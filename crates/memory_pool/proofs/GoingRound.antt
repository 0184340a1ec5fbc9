-- A search that tries each superblock once, from some one on.
use Rattle.std.proofs.Common.{◌≡◌, ◌≢◌, ◌∙◌, ◌⊎◌, inl, inr, ℕ, ◌+◌, ◌-◌, ◌<◌, ◌≤◌, Bool, false, Option, Some, None, List, [], ◌++◌, append_assoc, refl, sym, ap, subst, arith}
use Rattle.std.proofs.lemmas.Bool.{cases_eq, cases_lt}
use Rattle.kt_words.specs.declared.plan.Plan.{Plan}
use Rattle.table_core.specs.Holdings.{Look}
use Rattle.step_table.specs.declared.pass.Pass.{Pass}
use Rattle.step_table.specs.declared.tokens.Reserved.{Reserved}
use Rattle.step_table.specs.Passes.{view}
use Rattle.memory_pool.specs.declared.found.Found.{Found}
use Rattle.memory_pool.specs.declared.found.Found.TheVariants as found
use Rattle.memory_pool.specs.Searches.{SawNoRoom, SawNoneBelow, SeesNoRoom, Tries, IsFirstEmpty, Follows}
use Rattle.memory_pool.proofs.NewestFacts.{saw-with-older, saw-with-newer}

-- superblock i of n lies k steps from start, where the first comes after the last
abbrev pub LiesAhead : ℕ → ℕ → ℕ → ℕ → Type 0
LiesAhead n start k i = (i ≡ start + k) ⊎ (i + n ≡ start + k)

-- the looks made since the old ones saw no room in the superblocks less than k steps from start
pub record SawNoneAhead (g : Plan) (c start k : ℕ) (old new : List Look) : Type 0 where
  pub added : List Look
  pub since : new ≡ added ++ old
  pub each : (i j : ℕ) → i < g.geometry.superblocks → j < k → LiesAhead g.geometry.superblocks start j i → SawNoRoom g c i added

-- until an empty superblock was left, each one that was tried was seen without room
abbrev pub SawSoFar : Plan → ℕ → Bool → ℕ → ℕ → List Look → List Look → Option ℕ → Type 0
SawSoFar g c changes start k old new None = SawNoneAhead g c start k old new
SawSoFar g c changes start k old new (Some at) = (changes ≡ false) × (at < g.geometry.superblocks)

pub saw-none-yet : (g : Plan) (c start : ℕ) (l : List Look) → SawNoneAhead g c start 0 l l
saw-none-yet g c start l = record { added = []; since = refl; each = λ i j near below at. absurd (omega (arith, below)) }

-- one step further
pub ahead-next : (n start k i next : ℕ) → start < n → k < n → i < n → LiesAhead n start k i → Follows n i next → LiesAhead n start (k + 1) next
ahead-next n start k i next start_near near inside (inl e) (inl f) = inl (omega (arith, e, f))
ahead-next n start k i next start_near near inside (inl e) (inr f) = inr (omega (arith, e, f.0, f.1))
ahead-next n start k i next start_near near inside (inr e) (inl f) = inr (omega (arith, e, f))
ahead-next n start k i next start_near near inside (inr e) (inr f) = absurd (omega (arith, start_near, near, e, f.0))

-- one superblock more without room
pub saw-none-next : (g : Plan) (c start k n : ℕ) (old : List Look) (p q : Pass) → n < g.geometry.superblocks → LiesAhead g.geometry.superblocks start k n → SawNoneAhead g c start k old (view p).looks
    → SeesNoRoom g n c p q → SawNoneAhead g c start (k + 1) old (view q).looks
saw-none-next g c start k n old p q near here before none = record {
  added = none.looks.added ++ before.added;
  since = none.looks.since ∙ ap (λ (l : List Look). none.looks.added ++ l) before.since ∙ sym (append_assoc none.looks.added before.added old);
  each = λ i j inside below at. by i j inside below at (cases_eq i n);
}
  where
    same : (i j : ℕ) → i < g.geometry.superblocks → LiesAhead g.geometry.superblocks start j i → LiesAhead g.geometry.superblocks start k n → j ≡ k → i ≡ n
    same i j inside (inl e) (inl f) is = omega (arith, e, f, is)
    same i j inside (inl e) (inr f) is = absurd (omega (arith, inside, e, f, is))
    same i j inside (inr e) (inl f) is = absurd (omega (arith, near, e, f, is))
    same i j inside (inr e) (inr f) is = omega (arith, e, f, is)

    by : (i j : ℕ) → i < g.geometry.superblocks → j < k + 1 → LiesAhead g.geometry.superblocks start j i → (i ≡ n) ⊎ (i ≡ n → ⊥) → SawNoRoom g c i (none.looks.added ++ before.added)
    by i j inside below at (inl e) = subst (λ (m : ℕ). SawNoRoom g c m (none.looks.added ++ before.added)) (sym e) (saw-with-older g c n none.looks.added before.added none.saw)
    by i j inside below at (inr other) =
        let earlier : j ≢ k = λ is. other (same i j inside at here is) in
        saw-with-newer g c i none.looks.added before.added (none.looks.elsewhere i other) (before.each i j inside (omega (arith, below, earlier)) at)

-- what one more try leaves
pub saw-next : (g : Plan) (c : ℕ) (changes : Bool) (start k n : ℕ) (old : List Look) (p q : Pass) (before : Option ℕ) (tried : Found) (first : Option ℕ) → n < g.geometry.superblocks
    → LiesAhead g.geometry.superblocks start k n → SawSoFar g c changes start k old (view p).looks before → Tries g n c changes p tried q → ((won : Reserved) → tried ≡ found.Place won → ⊥)
    → IsFirstEmpty before tried first → SawSoFar g c changes start (k + 1) old (view q).looks first
saw-next g c changes start k n old p q (Some at) tried first near here saw tries none is = subst (SawSoFar g c changes start (k + 1) old (view q).looks) (sym is) saw
saw-next g c changes start k n old p q None (found.Place won) first near here saw tries none is = absurd (none won refl)
saw-next g c changes start k n old p q None (found.Empty at) first near here saw tries none is =
    subst (SawSoFar g c changes start (k + 1) old (view q).looks) (sym is) (tries.0, subst (λ (m : ℕ). m < g.geometry.superblocks) (sym tries.1) near)
saw-next g c changes start k n old p q None found.Nothing first near here saw tries none is =
    subst (SawSoFar g c changes start (k + 1) old (view q).looks) (sym is) (saw-none-next g c start k n old p q near here saw tries)

-- after a whole round each superblock was tried
pub saw-all : (g : Plan) (c start : ℕ) (old new : List Look) → start < g.geometry.superblocks → SawNoneAhead g c start g.geometry.superblocks old new → SawNoneBelow g c g.geometry.superblocks old new
saw-all g c start old new near saw = record { added = saw.added; since = saw.since; each = λ i inside. by i inside (cases_lt i start) }
  where
    by : (i : ℕ) → i < g.geometry.superblocks → (i < start) ⊎ (start ≤ i) → SawNoRoom g c i saw.added
    by i inside (inr after) = saw.each i (i - start) inside (omega (arith, inside)) (inl (omega (arith, after)))
    by i inside (inl before) = saw.each i (i + g.geometry.superblocks - start) inside (omega (arith, near, before)) (inr (omega (arith, near)))
