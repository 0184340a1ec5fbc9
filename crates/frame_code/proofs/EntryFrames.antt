-- The frame of a task at the start of its entry state, before its arguments are set.
use Rattle.std.proofs.Common.{◌≡◌, ℕ, zero, suc, ◌+◌, ◌-◌, ◌<◌, ◌≤◌, Bool, true, false, cond, nat_eq, Option, None, List, [], ◌∷◌, length, replicate, slice_index, refl, sym, ◌∙◌, ap, subst, arith}
use Rattle.std.proofs.lemmas.Bool.{eqb-true}
use Rattle.task_syntax.specs.Facts.{has}
use Rattle.task_syntax.specs.Form.{IsWellFormed, IsFormedState}
use Rattle.task_syntax.specs.Valid.{IsValid}
use Rattle.task_syntax.specs.declared.program.Sort.{Sort}
use Rattle.task_syntax.specs.declared.program.Sort.TheVariants.{Number, Future}
use Rattle.task_syntax.specs.declared.program.Variable.{Variable}
use Rattle.task_syntax.specs.declared.program.Program.{Program}
use Rattle.task_meaning.specs.Frame.{variables_of, variables_in, code_in, state_in, code_at, padded, kept_from, holds_at, entry}
use Rattle.frame_code.specs.Control.{control_word, control_kind, control_state, control_at, is_aggregate}
use Rattle.frame_code.specs.Words.{OfKind, variable_list, variables_at, one_if_number, one_if_future, number_count, number_if, numbers_from, future_if, futures_from, kind_frame, frame_at, body_of}
use Rattle.frame_code.specs.Frames.{IsKindControl, IsAggregateFrame, IsFrame}
use Rattle.frame_code.specs.Setting.{bare_call}
use Rattle.frame_code.proofs.HeldActs.{item-within}
use Rattle.frame_code.proofs.ControlWords.{kind-of_word, state-of_word, at-of_word, word-fits}
use Rattle.frame_code.proofs.Aggregates.{body-of_task}

length-replicate : {A : Type 0} (n : ℕ) (x : A) → length (replicate n x) ≡ n
length-replicate zero x = refl
length-replicate (suc n) x = ap suc (length-replicate n x)

zeros-read : (n k : ℕ) → slice_index (replicate n 0) k ≡ 0
zeros-read zero k = refl
zeros-read (suc n) zero = refl
zeros-read (suc n) (suc k) = zeros-read n k

zeros-after : (word n k : ℕ) → 1 ≤ k → slice_index (word ∷ replicate n 0) k ≡ 0
zeros-after word n zero h = absurd (omega (arith, h))
zeros-after word n (suc k) h = zeros-read n k

numbers-zero : (w : ℕ → ℕ) (place : ℕ) (vs : List Variable) → ((k : ℕ) → place ≤ k → w k ≡ 0) → numbers_from w place vs ≡ replicate (length vs) 0
numbers-zero w place [] h = refl
numbers-zero w place (v ∷ vs) h =
    let a : number_if v.sort (w place) ≡ 0 = by v.sort in
    let b = numbers-zero w (place + one_if_number v.sort) vs (λ k low. h k (omega (arith, low))) in cc
  where
    by : (s : Sort) → number_if s (w place) ≡ 0
    by Number = h place (omega arith)
    by Future = refl

futures-none : (w : ℕ → ℕ) (place : ℕ) (vs : List Variable) → ((k : ℕ) → place ≤ k → w k ≡ 0) → futures_from w place vs ≡ replicate (length vs) None
futures-none w place [] h = refl
futures-none w place (v ∷ vs) h =
    let a : future_if v.sort (w place) ≡ None = by v.sort in
    let b = futures-none w (place + one_if_future v.sort) vs (λ k low. h k (omega (arith, low))) in cc
  where
    by : (s : Sort) → future_if s (w place) ≡ None
    by Number = refl
    by Future = ap (future_if Future) (h place (omega arith))

abbrev no_unit : Option ℕ
no_unit = None

kept-none : (at : ℕ) (held : List ℕ) (n : ℕ) → kept_from at held (replicate n no_unit) ≡ replicate n no_unit
kept-none at held zero = refl
kept-none at held (suc n) =
    let a : cond (has at held) no_unit no_unit ≡ no_unit = by (has at held) in
    let b = kept-none (at + 1) held n in cc
  where
    by : (b : Bool) → cond b no_unit no_unit ≡ no_unit
    by true = refl
    by false = refl

no-group : (kind : ℕ) → kind < 255 → nat_eq kind 255 ≡ false
no-group kind h = by (nat_eq kind 255) refl
  where
    by : (b : Bool) → nat_eq kind 255 ≡ b → b ≡ false
    by true e = absurd (omega (arith, h, eqb-true kind 255 e))
    by false e = refl

pub entry-frame : (p : Program) (kind n : ℕ) → IsWellFormed p → IsValid p → kind < length p.kinds → n ≡ length (variables_at p kind)
    → IsFrame p (control_word kind 0 0 ∷ replicate n 0) × (body_of p (control_word kind 0 0 ∷ replicate n 0) ≡ OfKind (entry p (bare_call kind)))
entry-frame p kind n formed valid within many =
    let found = item-within p.kinds kind within in
    let first = item-within found.0.states 0 (formed.kinds kind found.0 found.1).has_state in
    let formed_first : IsFormedState p found.0 first.0 = ((formed.kinds kind found.0 found.1).states) 0 first.0 first.1 in
    let head : ℕ = control_word kind 0 0 in
    let words : List ℕ = head ∷ replicate n 0 in
    let small : kind < 64 = omega (arith, within, formed.kinds_fit) in
    let k : control_kind head ≡ kind = kind-of_word kind 0 0 (omega (arith, small)) (omega arith) (omega arith) in
    let s : control_state head ≡ 0 = state-of_word kind 0 0 (omega (arith, small)) (omega arith) (omega arith) in
    let a : control_at head ≡ 0 = at-of_word kind 0 0 (omega (arith, small)) (omega arith) (omega arith) in
    let task : is_aggregate head ≡ false = ap (λ m. nat_eq m 255) k ∙ no-group kind (omega (arith, small)) in
    let code : code_at p kind 0 ≡ first.0.code = ap (λ o. code_in (state_in o 0)) found.1 ∙ ap code_in first.1 in
    let vs_found : variables_at p kind ≡ found.0.variables = ap variable_list found.1 in
    let counted : variables_of p kind ≡ n = ap variables_in found.1 ∙ (ap length (sym vs_found) ∙ sym many) in
    let few : n ≤ 63 = omega (arith, many, ap length vs_found, (valid.kinds kind found.0 found.1).few_variables) in
    let zeros : List ℕ = replicate n 0 in
    let zeros_long : length zeros ≡ n = length-replicate n 0 in
    let none : (i : ℕ) → 1 ≤ i → slice_index words i ≡ 0 = zeros-after head n in
    let numbers : numbers_from (slice_index words) 1 (variables_at p kind) ≡ padded (variables_of p kind) 0 []
    = numbers-zero (slice_index words) 1 (variables_at p kind) none ∙ ap (λ (m : ℕ). replicate m 0) (omega (arith, many, counted)) in
    let futures : futures_from (slice_index words) (1 + number_count (variables_at p kind)) (variables_at p kind) ≡ kept_from 0 (holds_at p kind 0) (padded (variables_of p kind) None [])
    = futures-none (slice_index words) (1 + number_count (variables_at p kind)) (variables_at p kind) (λ i low. none i (omega (arith, low)))
    ∙ (ap (λ (m : ℕ). replicate m None) (omega (arith, many, counted)) ∙ sym (kept-none 0 (holds_at p kind 0) (variables_of p kind - 0))) in
    let is : frame_at p (slice_index words) ≡ entry p (bare_call kind) = ap (λ m. kind_frame (variables_at p m) (slice_index words)) k ∙ cc in (
      record {
        size = ap suc zeros_long ∙ (omega (arith, counted) ∙ (ap (λ m. 1 + variables_of p m) (sym k)
            ∙ ap (λ b. cond b (1 + control_state head) (1 + variables_of p (control_kind head))) (sym task)));
        few = omega (arith, zeros_long, few);
        control = word-fits kind 0 0 (omega (arith, small)) (omega arith) (omega arith);
        says = subst (λ b. cond b (IsAggregateFrame (slice_index words)) (IsKindControl p head)) (sym task) (record {
          kind = omega (arith, k, within);
          line = omega (arith, a, formed_first.ends.2, ap length code, ap (λ m. length (code_at p m (control_state head))) k, ap (λ m. length (code_at p kind m)) s);
        });
      },
      body-of_task p words task ∙ ap OfKind is,
    )
