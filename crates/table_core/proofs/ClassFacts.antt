-- Where a record stands no class changes, so frames fit as before, and what hands keep of classes stays so.
use Rattle.std.proofs.Common.{◌≡◌, ◌∙◌, ℕ, ◌+◌, ◌*◌, ◌%◌, ◌<◌, ◌≤◌, true, List, refl, sym, ap, mod-lt, arith}
use Rattle.std.specs.Prelude.{nat_le}
use Rattle.std.proofs.Math.Nat.{div-lt_iff_lt-mul}
use Rattle.std.proofs.lemmas.Nat.{div-add-mod'}
use Rattle.std.proofs.lemmas.Bool.{and_parts, leb-true, lt-ltb}
use Rattle.record_core.specs.Counting.{one_if}
use Rattle.record_core.proofs.BelowFacts.{below-member}
use Rattle.kt_words.specs.declared.plan.Plan.{Plan}
use Rattle.kt_words.specs.Capacity.{block_units}
use Rattle.kt_words.specs.SuperWords.{count_of, class_of}
use Rattle.kt_words.specs.StateWords.{phase_of}
use Rattle.task_syntax.specs.declared.program.Program.{Program}
use Rattle.table_core.specs.Addresses.{Addr, units_of}
use Rattle.table_core.specs.Pool.{superblock_of, is_used, Hand, records, PoolSound}
use Rattle.table_core.specs.Holdings.{Run}
use Rattle.table_core.specs.References.{is_saved, is_live, is_record, FramesFit}
use Rattle.table_core.specs.Own.{Hands, OwnSound}
use Rattle.table_core.proofs.PoolFacts.{cond-at}
use Rattle.table_core.proofs.OwnFacts.{made-phase, runs-phase, made-counts, runs-counts}

-- a unit in a phase that is not 0 is in use
pub used-from : (word : ℕ) → 1 ≤ phase_of word → is_used word ≡ 1
used-from word some = ap one_if (lt-ltb 0 (phase_of word) (omega (arith, some)))

-- a saved record waits or is ready
pub saved-phase : (word : ℕ) → is_saved word ≡ true → (2 ≤ phase_of word) × (phase_of word ≤ 3)
saved-phase word e = let t = and_parts (nat_le 2 (phase_of word)) (nat_le (phase_of word) 3) e in (leb-true 2 (phase_of word) t.0, leb-true (phase_of word) 3 t.1)

-- a record that lives waits, is ready or runs
pub live-phase : (word : ℕ) → is_live word ≡ true → (2 ≤ phase_of word) × (phase_of word ≤ 4)
live-phase word e = let t = and_parts (nat_le 2 (phase_of word)) (nat_le (phase_of word) 4) e in (leb-true 2 (phase_of word) t.0, leb-true (phase_of word) 4 t.1)

-- a record that is one waits, is ready, runs or is done
pub record-phase : (word : ℕ) → is_record word ≡ true → (2 ≤ phase_of word) × (phase_of word ≤ 5)
record-phase word e = let t = and_parts (nat_le 2 (phase_of word)) (nat_le (phase_of word) 5) e in (leb-true 2 (phase_of word) t.0, leb-true (phase_of word) 5 t.1)

module _ (g : Plan) where
  -- a unit lies in one of the superblocks
  pub superblock_in : (u : ℕ) → u < units_of g → superblock_of g u < g.geometry.superblocks
  superblock_in u near = (div-lt_iff_lt-mul {k = g.geometry.units} {x = u} {y = g.geometry.superblocks} (omega (arith, g.geometry.units_fit))).1 near

  -- and at a place there
  pub unit-parts : (u : ℕ) → superblock_of g u * g.geometry.units + u % g.geometry.units ≡ u
  unit-parts u = div-add-mod' u g.geometry.units

  -- the place of a unit in its superblock is in range
  pub place_in : (u : ℕ) → u % g.geometry.units < g.geometry.units
  place_in u = mod-lt u (omega (arith, g.geometry.units_fit))

  module _ (supers : ℕ → ℕ) (bits : ℕ → ℕ → ℕ) (states : ℕ → ℕ) (hands : List Hand) (sound : PoolSound g supers bits states hands) where
    -- a superblock with a record in it has a count
    pub used-counts : (u : ℕ) → u < units_of g → 1 ≤ phase_of (states u) → 1 ≤ count_of (supers (superblock_of g u))
    used-counts u near some =
        let i : ℕ = superblock_of g u in
        let here : is_used (states (i * g.geometry.units + u % g.geometry.units)) ≤ records g states i = below-member (λ j. is_used (states (i * g.geometry.units + j))) g.geometry.units (u % g.geometry.units) (place_in u) in
        let used : is_used (states (i * g.geometry.units + u % g.geometry.units)) ≡ 1 = ap (λ (w : ℕ). is_used (states w)) (unit-parts u) ∙ used-from (states u) some in
        let kept = sound.kept i (superblock_in u near) in
        omega (arith, here, used, kept.counted (class_of (supers i)), cond-at (class_of (supers i)) (class_of (supers i)) (records g states i) refl, cond-at (class_of (supers i)) (class_of (supers i)) (count_of (supers i)) refl)

    module _ (supers' : ℕ → ℕ) (stays : (j : ℕ) → j < g.geometry.superblocks → 1 ≤ count_of (supers j) → class_of (supers' j) ≡ class_of (supers j)) where
      -- a superblock of which the count is not 0 keeps its class: so does the one of each record
      pub classes-stay : (u : ℕ) → u < units_of g → 1 ≤ phase_of (states u) → class_of (supers' (superblock_of g u)) ≡ class_of (supers (superblock_of g u))
      classes-stay u near some = stays (superblock_of g u) (superblock_in u near) (used-counts u near some)

      -- frames fit their blocks still, where no class changes under a record
      pub fits-stay : (p : Program) (frames : ℕ → ℕ → ℕ) (vs : List (List Run)) → FramesFit p g states supers frames vs → FramesFit p g states supers' frames vs
      fits-stay p frames vs was = record {
        saved = λ u near is. omega (arith, was.saved u near is, ap block_units (classes-stay u near (omega (arith, saved-phase (states u) is))));
        running = was.running;
      }

      -- what hands say of their records is so still, where no class changes under a record
      pub own-stay : (words : Addr → ℕ) (vs : List Hands) → OwnSound g supers states words vs → OwnSound g supers' states words vs
      own-stay words vs was = record {
        made = was.made;
        running = was.running;
        done = was.done;
        classes = λ k h at j r there. let p = made-phase g supers states words vs was k h at r.unit (made-counts h.made r (j, there)) in
            was.classes k h at j r there ∙ sym (classes-stay r.unit p.0 (omega (arith, p.1)));
        run_classes = λ k h at j r there. let p = runs-phase g supers states words vs was k h at r.unit (runs-counts h.runs r (j, there)) in
            was.run_classes k h at j r there ∙ sym (classes-stay r.unit p.0 (omega (arith, p.1)));
        numbers = was.numbers;
        known = was.known;
      }
