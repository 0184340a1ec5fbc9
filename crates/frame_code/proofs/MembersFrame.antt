-- The first frame of an aggregate.
use Rattle.std.proofs.Common.{◌≡◌, ℕ, zero, suc, ◌+◌, ◌<◌, ◌≤◌, true, cond, nat_eq, List, [], ◌∷◌, length, map, slice_index, refl, sym, ◌∙◌, ap, subst, arith}
use Rattle.std.specs.List.{filter_map}
use Rattle.task_syntax.specs.declared.program.Program.{Program}
use Rattle.task_meaning.specs.Frame.{variables_of}
use Rattle.frame_code.specs.Control.{aggregate_code, control_word, control_kind, control_state, control_at, is_aggregate}
use Rattle.frame_code.specs.Words.{OfMembers, unit_named, words_from, members_at, body_of}
use Rattle.frame_code.specs.Frames.{IsKindControl, IsAggregateFrame, IsFrame}
use Rattle.frame_code.proofs.ControlWords.{kind-of_word, state-of_word, at-of_word, word-fits}
use Rattle.frame_code.proofs.Aggregates.{body-of_members}
use Rattle.frame_code.proofs.NamedUnits.{words-last}

length-suc : (members : List ℕ) → length (map suc members) ≡ length members
length-suc [] = refl
length-suc (member ∷ members) = ap suc (length-suc members)

-- the words of units name the units
units-again : (members : List ℕ) → filter_map unit_named (map suc members) ≡ members
units-again [] = refl
units-again (member ∷ members) = ap (λ ms. member ∷ ms) (units-again members)

-- the word of each unit names one
suc-names : (members : List ℕ) (k : ℕ) → k < length members → 1 ≤ slice_index (map suc members) k
suc-names [] k h = absurd (omega (arith, h))
suc-names (member ∷ members) zero h = omega arith
suc-names (member ∷ members) (suc k) h = suc-names members k (omega (arith, h))

named-after : (head : ℕ) (members : List ℕ) (place : ℕ) → 1 ≤ place → place ≤ length members → 1 ≤ slice_index (head ∷ map suc members) place
named-after head members zero low high = absurd (omega (arith, low))
named-after head members (suc k) low high = suc-names members k (omega (arith, high))

-- the control word of so many members, and their words, are the frame of their aggregate at its first member
pub members-frame : (members : List ℕ) → 0 < length members → length members ≤ 8 → (p : Program)
    → IsFrame p (control_word aggregate_code (length members) 1 ∷ map suc members)
    × (body_of p (control_word aggregate_code (length members) 1 ∷ map suc members) ≡ OfMembers members 1)
members-frame members some few p =
    let n : ℕ = length members in
    let head : ℕ = control_word 255 n 1 in
    let words : List ℕ = head ∷ map suc members in
    let k : control_kind head ≡ 255 = kind-of_word 255 n 1 (omega arith) (omega (arith, few)) (omega arith) in
    let s : control_state head ≡ n = state-of_word 255 n 1 (omega arith) (omega (arith, few)) (omega arith) in
    let a : control_at head ≡ 1 = at-of_word 255 n 1 (omega arith) (omega (arith, few)) (omega arith) in
    let group : is_aggregate head ≡ true = ap (λ m. nat_eq m 255) k in
    let long : length words ≡ 1 + n = omega (arith, length-suc members) in
    let is_members : members_at (slice_index words) ≡ members
    = ap (λ m. filter_map unit_named (words_from (slice_index words) 1 m)) s ∙ (ap (filter_map unit_named) (sym (words-last words 1 n long)) ∙ units-again members) in
    let is_known : IsAggregateFrame (slice_index words) = record {
      some = omega (arith, s, some);
      few = omega (arith, s, few);
      next = omega (arith, s, a, some);
      named = λ place low high. named-after head members place low (omega (arith, high, s));
    } in (
      record {
        size = long ∙ (ap (λ m. 1 + m) (sym s) ∙ ap (λ b. cond b (1 + control_state head) (1 + variables_of p (control_kind head))) (sym group));
        few = omega (arith, long, few);
        control = word-fits 255 n 1 (omega arith) (omega (arith, few)) (omega arith);
        says = subst (λ b. cond b (IsAggregateFrame (slice_index words)) (IsKindControl p head)) (sym group) is_known;
      },
      body-of_members p words group ∙ (ap (λ ms. OfMembers ms (control_at head)) is_members ∙ ap (OfMembers members) a),
    )
