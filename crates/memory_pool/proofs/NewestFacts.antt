-- The newest look at a superblock, as looks are added.
use Rattle.std.proofs.Common.{◌≡◌, ◌≢◌, ◌∙◌, ℕ, ◌+◌, ◌-◌, ◌≤◌, Bool, true, false, cond, ◌==◌, Some, None, List, [], ◌∷◌, ◌++◌, length, take, true≢false, refl, sym, ap, arith}
use Rattle.std.proofs.lemmas.List.{length-append}
use Rattle.std.proofs.Math.Seq.{take-append-add}
use Rattle.std.proofs.lemmas.Bool.{eqb-true, eq-eqb}
use Rattle.kt_words.specs.declared.plan.Plan.{Plan}
use Rattle.table_core.specs.Holdings.{Look}
use Rattle.table_core.specs.declared.view.View.{View}
use Rattle.step_table.specs.LastLooks.{newest, recent}
use Rattle.memory_pool.specs.Searches.{SawNoRoom}

-- the look that was added last is the newest at its superblock, and no other superblock's
pub newest-here : (i : ℕ) (l : Look) (looks : List Look) → l.superblock ≡ i → newest i (l ∷ looks) ≡ Some l
newest-here i l looks here = ap (λ (b : Bool). cond b (Some l) (newest i looks)) (eq-eqb l.superblock i here)

pub newest-other : (i : ℕ) (l : Look) (looks : List Look) → l.superblock ≢ i → newest i (l ∷ looks) ≡ newest i looks
newest-other i l looks other = by (l.superblock == i) refl
  where
    by : (b : Bool) → (l.superblock == i) ≡ b → newest i (l ∷ looks) ≡ newest i looks
    by true is = absurd (other (eqb-true l.superblock i is))
    by false is = ap (λ (b : Bool). cond b (Some l) (newest i looks)) is

-- where newer looks are at other superblocks, the newest is an older one
pub newest-older : (i : ℕ) (newer older : List Look) → newest i newer ≡ None → newest i (newer ++ older) ≡ newest i older
newest-older i [] older none = refl
newest-older i (l ∷ newer) older none = by (newest-older i newer older) (l.superblock == i) refl
  where
    by : (newest i newer ≡ None → newest i (newer ++ older) ≡ newest i older) → (b : Bool) → (l.superblock == i) ≡ b → newest i (l ∷ newer ++ older) ≡ newest i older
    by rest true is = absurd (some_none (sym (newest-here i l newer (eqb-true l.superblock i is)) ∙ none))
      where
        some_none : Some l ≡ None → ⊥
        some_none e = cc
    by rest false is =
        let other : l.superblock ≢ i = λ e. absurd (true≢false (sym (eq-eqb l.superblock i e) ∙ is)) in
        newest-other i l (newer ++ older) other ∙ rest (sym (newest-other i l newer other) ∙ none)

-- and where one is there, it is the newest of all
pub newest-first : (i : ℕ) (newer older : List Look) (told : Look) → newest i newer ≡ Some told → newest i (newer ++ older) ≡ Some told
newest-first i [] older told some = absurd (none_some some)
  where
    none_some : None ≡ Some told → ⊥
    none_some e = cc
newest-first i (l ∷ newer) older told some = by (newest-first i newer older told) (l.superblock == i) refl
  where
    by : (newest i newer ≡ Some told → newest i (newer ++ older) ≡ Some told) → (b : Bool) → (l.superblock == i) ≡ b → newest i (l ∷ newer ++ older) ≡ Some told
    by rest true is = let here = eqb-true l.superblock i is in newest-here i l (newer ++ older) here ∙ sym (newest-here i l newer here) ∙ some
    by rest false is =
        let other : l.superblock ≢ i = λ e. absurd (true≢false (sym (eq-eqb l.superblock i e) ∙ is)) in
        newest-other i l (newer ++ older) other ∙ rest (sym (newest-other i l newer other) ∙ some)

-- what the newest look saw stays, with older looks and with newer ones elsewhere
pub saw-with-older : (g : Plan) (c i : ℕ) (newer older : List Look) → SawNoRoom g c i newer → SawNoRoom g c i (newer ++ older)
saw-with-older g c i newer older saw =
    record { look = saw.look; newest_is = newest-first i newer older saw.look saw.newest_is; for_class = saw.for_class; no_room = saw.no_room }

pub saw-with-newer : (g : Plan) (c i : ℕ) (newer older : List Look) → newest i newer ≡ None → SawNoRoom g c i older → SawNoRoom g c i (newer ++ older)
saw-with-newer g c i newer older none saw =
    record { look = saw.look; newest_is = newest-older i newer older none ∙ saw.newest_is; for_class = saw.for_class; no_room = saw.no_room }

-- what a pass keeps after a call is the newest look of the call
pub kept-is-new : (i : ℕ) (old new : View) (added : List Look) (told : Look) → old.old_looks ≤ length old.looks → new.old_looks ≡ old.old_looks → new.looks ≡ added ++ old.looks → newest i added ≡ Some told
    → newest i (recent new.old_looks new.looks) ≡ Some told
kept-is-new i old new added told ages same since some =
    (λ k. newest i (recent (same k) (since k))) ∙ ap (λ (k : ℕ). newest i (take k (added ++ old.looks))) split ∙ ap (newest i) (take-append-add added old.looks (length old.looks - old.old_looks))
    ∙ newest-first i added (take (length old.looks - old.old_looks) old.looks) told some
  where
    split : length (added ++ old.looks) - old.old_looks ≡ length added + (length old.looks - old.old_looks)
    split = omega (arith, ages, length-append added old.looks)
