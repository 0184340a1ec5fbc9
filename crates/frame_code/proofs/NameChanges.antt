-- A future that is put into a frame takes the place of the old one among the names.
use Rattle.std.proofs.Common.{◌≡◌, ℕ, zero, suc, ◌<◌, Option, Some, None, List, [], ◌∷◌, ◌++◌, length, slice_set, refl, ap, arith}
use Rattle.std.specs.List.{cons_option}
use Rattle.std.specs.Option.{option_to_list}
use Rattle.task_meaning.specs.Meant.{future_at}
use Rattle.frame_code.specs.Names.{present, OneNameChanges}

present-first : (f : Option ℕ) (names : List ℕ) → cons_option f names ≡ option_to_list f ++ names
present-first None names = refl
present-first (Some x) names = refl

later : (f : Option ℕ) (names before after : List ℕ) (o : Option ℕ) → names ≡ before ++ option_to_list o ++ after
    → cons_option f names ≡ (option_to_list f ++ before) ++ option_to_list o ++ after
later None names before after o e = e
later (Some x) names before after o e = ap (λ ns. x ∷ ns) e

pub changes : (fs : List (Option ℕ)) (x : ℕ) (future : Option ℕ) → x < length fs → (before : List ℕ) × (after : List ℕ)
    × (present fs ≡ before ++ option_to_list (future_at fs x) ++ after) × (present (slice_set fs x future) ≡ before ++ option_to_list future ++ after)
changes [] x future h = absurd (omega (arith, h))
changes (f ∷ fs) zero future h = ([], present fs, present-first f (present fs), present-first future (present fs))
changes (f ∷ fs) (suc x) future h =
    let more = changes fs x future (omega (arith, h)) in
    (option_to_list f ++ more.0, more.1, later f (present fs) more.0 more.1 (future_at fs x) more.2, later f (present (slice_set fs x future)) more.0 more.1 future more.3)

pub name-changes : OneNameChanges
name-changes q x future h = changes q.futures x future h
