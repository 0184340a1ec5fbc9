-- Where an answer was null and the limit was not met, each superblock holds a block of a task.
use Rattle.std.proofs.Common.{◌≡◌, ◌≢◌, ◌⊎◌, ℕ, zero, suc, ◌<◌, ◌≤◌, Some, List, [], ◌∷◌, length, slice_get, refl, inl, inr, arith}
use Rattle.task_syntax.specs.Places.{Each}
use Rattle.task_syntax.specs.declared.program.Program.{Program}
use Rattle.task_syntax.specs.declared.columns.Columns.{Columns}
use Rattle.task_meaning.specs.Meant.{Counts}
use Rattle.task_meaning.specs.Roots.{RootsCount}
use Rattle.kt_words.specs.Ranges.{IsGeometry}
use Rattle.kt_words.specs.Capacity.{IsWithoutRoom, capacity}
use Rattle.kt_words.specs.declared.super_word.SuperWord.{SuperWord}
use Rattle.record_core.specs.Sums.{total}
use Rattle.record_core.specs.Journal.{task_count}
use Rattle.record_core.specs.EndSeen.{EndSeen, RunPlan}
use Rattle.record_core.specs.EndSound.{EndSound, evidence_count}
use Rattle.record_core.specs.EndCounts.{EndCounts, NothingRefused}
use Rattle.record_core.specs.declared.rows.CutFrom.{CutFrom}
use Rattle.record_core.specs.declared.rows.CutTag.{CutTag}
use Rattle.record_core.specs.declared.rows.RootEnd.TheVariants.{Cut}

-- a superblock has room for a block of each class
some_capacity : (units class : ℕ) → 8 ≤ units → class ≤ 3 → 1 ≤ capacity units class
some_capacity units zero enough fits = omega (arith, enough)
some_capacity units (suc zero) enough fits = omega (arith, enough)
some_capacity units (suc (suc zero)) enough fits = omega (arith, enough)
some_capacity units (suc (suc (suc zero))) enough fits = omega (arith, enough)
some_capacity units (suc (suc (suc (suc class)))) enough fits = absurd (omega (arith, fits))

-- one without room holds a block
holds_one : (units class : ℕ) (word : SuperWord) → 8 ≤ units → class ≤ 3 → IsWithoutRoom units class word.class word.count → 1 ≤ word.count
holds_one units class word enough fits (inl same) = omega (arith, some_capacity units class enough fits, same.1)
holds_one units class word enough fits (inr differ) = omega (arith, differ.1)

-- so there are at least as many blocks as superblocks
all_hold : (units class : ℕ) (words : List SuperWord) → 8 ≤ units → class ≤ 3 → Each words (λ (word : SuperWord). IsWithoutRoom units class word.class word.count) → length words ≤ total evidence_count words
all_hold units class [] enough fits full = omega arith
all_hold units class (word ∷ words) enough fits full =
    omega (arith, holds_one units class word enough fits (full 0 word refl), all_hold units class words enough fits (λ at. full (suc at)))

-- and no more than tasks
pub no_null_with_room : (p : Program) (c : Columns) (plan : RunPlan) (e : EndSeen) → IsGeometry plan.superblocks plan.units → EndSound p c plan e → 1 ≤ e.nulls
    → length e.rows < plan.limit → task_count e.rows < plan.superblocks → ⊥
no_null_with_room p c plan e geometry sound some below more =
    let (class, is_class, shown) = sound.evidence some in
    let enough : 8 ≤ e.units = rw sound.units geometry.units_fit.0 in
    omega (arith, more, shown.counted below, all_hold e.units class e.evidence enough shown.class_fits shown.full, shown.every, sound.superblocks)

-- an end that counts as the meaning does leaves nothing out
pub none_left_out : (p : Program) (c : Columns) (e : EndSeen) (k : Counts) → EndCounts p c e → RootsCount p c k → NothingRefused e
    → ((task_count e.rows ≢ k.tasks) ⊎ ((length e.rows ≢ k.activations) ⊎ ((at : ℕ) × (tag : CutTag) × (from : CutFrom) × (slice_get e.roots at ≡ Some (Cut tag from))))) → ⊥
none_left_out p c e k counts counted none (inl tasks) = tasks (counts k counted none).tasks
none_left_out p c e k counts counted none (inr (inl activations)) = activations (counts k counted none).activations
none_left_out p c e k counts counted none (inr (inr (at, tag, from, there))) = (counts k counted none).values at (Cut tag from) there
