-- A pass keeps its newest look at each superblock while it looks and while it takes in another pass.
use Rattle.std.proofs.Common.{◌≡◌, ◌≢◌, ◌∙◌, ℕ, zero, suc, ◌+◌, ◌-◌, ◌≤◌, Bool, true, false, cond, ◌==◌, Some, None, List, [], ◌∷◌, ◌++◌, length, map, take, slice_index, true≢false, refl, sym, ap, subst, arith}
use Rattle.std.proofs.lemmas.List.{length-append, length-map}
use Rattle.std.proofs.lemmas.Bool.{eqb-true, eq-eqb}
use Rattle.table_core.specs.Holdings.{Look}
use Rattle.table_core.specs.Views.{with_wins, joined}
use Rattle.table_core.specs.declared.view.View.{View}
use Rattle.step_table.specs.declared.last_looks.LastLooks.{LastLooks}
use Rattle.step_table.specs.LastLooks.{newest, KeepsNewest, Replaces}

some_is : {A : Type 0} (x y : A) → Some x ≡ Some y → x ≡ y
some_is x y e = cc

-- one look more
pub keeps-looked : (old new : LastLooks) (before : ℕ) (looks : List Look) (l : Look) → before ≤ length looks → KeepsNewest old before looks → Replaces l.superblock l.word l.class old new
    → KeepsNewest new before (l ∷ looks)
keeps-looked old new before looks l ages kept replaces i told e = by (l.superblock == i) refl
  where
    one_more : suc (length looks) - before ≡ suc (length looks - before)
    one_more = omega (arith, ages)

    found : newest i (l ∷ take (length looks - before) looks) ≡ Some told
    found = subst (λ (k : ℕ). newest i (take k (l ∷ looks)) ≡ Some told) one_more e

    by : (b : Bool) → (l.superblock == i) ≡ b → (slice_index new.words i ≡ told.word) × (slice_index new.classes i ≡ told.class)
    by true is =
        let here : l.superblock ≡ i = eqb-true l.superblock i is in
        let same : l ≡ told = some_is l told (sym (ap (λ (b : Bool). cond b (Some l) (newest i (take (length looks - before) looks))) is) ∙ found) in (
          subst (λ (k : ℕ). slice_index new.words k ≡ told.word) here (replaces.word_is ∙ ap (λ (x : Look). x.word) same),
          subst (λ (k : ℕ). slice_index new.classes k ≡ told.class) here (replaces.class_is ∙ ap (λ (x : Look). x.class) same),
        )
    by false is =
        let other : i ≢ l.superblock = λ e. absurd (true≢false (sym (eq-eqb l.superblock i (sym e)) ∙ is)) in
        let before_it = kept i told (sym (ap (λ (b : Bool). cond b (Some l) (newest i (take (length looks - before) looks))) is) ∙ found) in
        let stays = replaces.others i other in
        (stays.0 ∙ before_it.0, stays.1 ∙ before_it.1)

-- the newest look is the same, but for the wins of the other pass
found_before : (other : View) (i k : ℕ) (looks more : List Look) (told : Look) → k ≤ length looks → newest i (take k (map (with_wins other) looks ++ more)) ≡ Some told
    → (l : Look) × (newest i (take k looks) ≡ Some l) × (l.word ≡ told.word) × (l.class ≡ told.class)
found_before other i zero looks more told few e = absurd (none e)
  where
    none : None ≡ Some told → ⊥
    none e = cc
found_before other i (suc k) [] more told few e = absurd (omega (arith, few))
found_before other i (suc k) (l ∷ looks) more told few e = by (found_before other i k looks more told (omega (arith, few))) (l.superblock == i) refl
  where
    later : Type 0
    later = newest i (take k (map (with_wins other) looks ++ more)) ≡ Some told → (x : Look) × (newest i (take k looks) ≡ Some x) × (x.word ≡ told.word) × (x.class ≡ told.class)

    by : later → (b : Bool) → (l.superblock == i) ≡ b → (x : Look) × (cond (l.superblock == i) (Some l) (newest i (take k looks)) ≡ Some x) × (x.word ≡ told.word) × (x.class ≡ told.class)
    by rest true is =
        let same : with_wins other l ≡ told =
        some_is (with_wins other l) told (sym (ap (λ (b : Bool). cond b (Some (with_wins other l)) (newest i (take k (map (with_wins other) looks ++ more)))) is) ∙ e) in
        (l, ap (λ (b : Bool). cond b (Some l) (newest i (take k looks))) is, ap (λ (x : Look). x.word) same, ap (λ (x : Look). x.class) same)
    by rest false is =
        let found = rest (sym (ap (λ (b : Bool). cond b (Some (with_wins other l)) (newest i (take k (map (with_wins other) looks ++ more)))) is) ∙ e) in
        (found.0, ap (λ (b : Bool). cond b (Some l) (newest i (take k looks))) is ∙ found.1, found.2, found.3)

-- a pass has all looks of the one that it takes in
pub joined-length : (keep other : View) → length (joined keep other).looks ≡ length keep.looks + length other.looks
joined-length keep other =
    length-append (map (with_wins other) keep.looks) (map (with_wins keep) other.looks) ∙ (λ k. length-map keep.looks (with_wins other) k + length-map other.looks (with_wins keep) k)

-- the looks of a pass that is taken in count as older
pub keeps-joined : (last : LastLooks) (keep other : View) → keep.old_looks ≤ length keep.looks → KeepsNewest last keep.old_looks keep.looks → KeepsNewest last (joined keep other).old_looks (joined keep other).looks
keeps-joined last keep other ages kept i told e = by (found_before other i (length keep.looks - keep.old_looks) keep.looks (map (with_wins keep) other.looks) told (omega arith) there)
  where
    as_many : length (joined keep other).looks - (joined keep other).old_looks ≡ length keep.looks - keep.old_looks
    as_many = omega (arith, joined-length keep other)

    there : newest i (take (length keep.looks - keep.old_looks) (joined keep other).looks) ≡ Some told
    there = subst (λ (k : ℕ). newest i (take k (joined keep other).looks) ≡ Some told) as_many e

    by : (l : Look) × (newest i (take (length keep.looks - keep.old_looks) keep.looks) ≡ Some l) × (l.word ≡ told.word) × (l.class ≡ told.class)
        → (slice_index last.words i ≡ told.word) × (slice_index last.classes i ≡ told.class)
    by found = let is = kept i found.0 found.1 in (is.0 ∙ found.2, is.1 ∙ found.3)
