-- What the frames and calls of a kind without variables are.
use Rattle.std.proofs.Common.{◌≡◌, ◌∙◌, ℕ, ◌+◌, ◌<◌, Bool, true, false, cond, Option, Some, None, List, [], ◌∷◌, length, refl, sym, ap, subst, true≢false, arith}
use Rattle.std.specs.Prelude.{slice_get, slice_index}
use Rattle.std.proofs.lemmas.Option.{none-some, same_Some}
use Rattle.record_core.proofs.TotalFacts.{none_there}
use Rattle.task_syntax.specs.Facts.{has, at_start}
use Rattle.task_syntax.specs.Valid.{starts}
use Rattle.task_syntax.specs.declared.program.Kind.{Kind}
use Rattle.task_syntax.specs.declared.program.Variable.{Variable}
use Rattle.task_syntax.specs.declared.program.Program.{Program}
use Rattle.task_syntax.specs.declared.program.State.{State}
use Rattle.task_meaning.specs.Frame.{variables_in, variables_of, state_in, state_at, code_in, holds_at, padded, kept, entry}
use Rattle.kt_words.specs.Capacity.{class_for}
use Rattle.frame_code.specs.Control.{is_aggregate}
use Rattle.frame_code.specs.Frames.{IsFrame}
use Rattle.frame_code.specs.Names.{present, named, names_of}
use Rattle.frame_code.specs.Ways.{HasWay, BodyHasWay}
use Rattle.frame_code.specs.Words.{BodyOf, OfKind, OfMembers, variable_list, variables_at, number_count, futures_from, kind_frame, frame_at, members_at, body_at}
use Rattle.frame_code.specs.Control.{control_kind, control_at}
use Rattle.table_core.specs.declared.view.View.{View}
use Rattle.schedule_rule.specs.Calls.{Suits}
use Rattle.schedule_rule.specs.Counts.{class_in}
use Rattle.schedule_rule.specs.Frames.{HoldsNames}
use Rattle.schedule_rule.specs.PlacingViews.{IsFirstFrame}
use Rattle.schedule_rule.specs.TakingViews.{IsOfCall}
use Rattle.table_records.specs.Plain.{IsPlainKind, plain_call, call_behind, plain_frame, plain_words}

-- a member of a list stands below its length
below-length : {A : Type 0} (l : List A) (x : A) → slice_get l 0 ≡ Some x → 0 < length l
below-length [] x e = absurd (none-some x e)
below-length (y ∷ l) x e = omega arith

module _ (p : Program) (plain : IsPlainKind p) where
  -- the kind has no variables
  variables-none : variables_at p 0 ≡ []
  variables-none = ap variable_list plain.kind_there ∙ plain.no_variables

  variables-zero : variables_of p 0 ≡ 0
  variables-zero = ap variables_in plain.kind_there ∙ ap length plain.no_variables

  -- its words are its first frame
  pub frame-is : frame_at p (slice_index plain_words) ≡ plain_frame
  frame-is = ap (λ (vs : List Variable). kind_frame vs (slice_index plain_words)) variables-none

  pub body-is : body_at p (slice_index plain_words) ≡ OfKind plain_frame
  body-is = ap OfKind frame-is

  -- it names nothing
  pub names-none : named p (slice_index plain_words) ≡ []
  names-none = ap names_of body-is

  state-is : state_at p 0 0 ≡ Some plain.state
  state-is = ap (λ (k : Option Kind). state_in k 0) plain.kind_there ∙ plain.state_there

  -- nothing is held there, so there is nothing that it would have to name
  pub frame-names : HoldsNames p (body_at p (slice_index plain_words))
  frame-names = subst (λ (b : BodyOf ℕ). HoldsNames p b) (sym body-is) (λ x state is held.
      let none : has x state.holds ≡ false = ap (λ (s : State). has x s.holds) (same_Some state plain.state (sym is ∙ state-is)) ∙ ap (has x) plain.holds_none in
      absurd (true≢false (sym (held (at_start state) starts) ∙ none)))

  -- its words are a frame of the program
  pub words-frame : IsFrame p plain_words
  words-frame = record {
    size = ap (λ (n : ℕ). 1 + n) (sym variables-zero);
    few = omega arith;
    control = omega arith;
    says = record { kind = below-length p.kinds plain.kind plain.kind_there; line = subst (λ (n : ℕ). 0 < n) (sym (ap (λ s. length (code_in s)) state-is)) plain.some_code };
  }

  -- it stands at the start, where a way begins
  pub frame-way : HasWay p plain_frame
  frame-way = (plain.state, at_start plain.state, state-is, starts)

  -- it is where the call enters
  pub entry-is : entry p plain_call ≡ plain_frame
  entry-is = λ k. record { kind = 0; state = 0; at = 0; numbers = padded (variables-zero k) 0 []; futures = kept (holds_at p 0 0) (padded (variables-zero k) None []) }

  -- the program may make the call
  pub call-suits : (behind : Option ℕ) → Suits p (call_behind behind)
  call-suits behind = record {
    kind = below-length p.kinds plain.kind plain.kind_there;
    numbers = λ k e. none_passed k e;
    futures = λ k e. (none_passed k e, λ at a v there. absurd (none_there a there));
  }
    where
      none_passed : (k : Kind) → slice_get p.kinds 0 ≡ Some k → 0 ≡ k.arguments
      none_passed k e = sym (ap (λ (x : Kind). x.arguments) (same_Some k plain.kind (sym e ∙ plain.kind_there)) ∙ plain.no_arguments)

  -- blocks of class 0 are enough for it
  pub class-zero : (behind : Option ℕ) → class_in p (Some (call_behind behind)) ≡ 0
  class-zero behind = ap (λ (n : ℕ). class_for (1 + n)) variables-zero

  -- the words are the first frame of the call
  pub first-frame : (v : View) (behind : Option ℕ) → IsFirstFrame p v (call_behind behind) (body_at p (slice_index plain_words))
  first-frame v behind = subst (IsFirstFrame p v (call_behind behind)) (sym body-is) (record {
    passed = plain_call;
    kind = refl;
    numbers = refl;
    futures = record { length_is = refl; each = λ k unit task there. absurd (none_there unit there) };
    is = sym entry-is;
    way = frame-way;
  })

-- the body of a frame that was taken under such a call is no aggregate's
pub taken-single : (p : Program) (words : ℕ → ℕ) (behind : Option ℕ) → IsOfCall (call_behind behind) (body_at p words) → is_aggregate (words 0) ≡ false
taken-single p words behind is = by (is_aggregate (words 0)) refl is
  where
    by : (b : Bool) → is_aggregate (words 0) ≡ b → IsOfCall (call_behind behind) (cond b (OfMembers (members_at words) (control_at (words 0))) (OfKind (frame_at p words))) → is_aggregate (words 0) ≡ false
    by true e none = absurd none
    by false e some = e

-- so there is a way to where it stands
pub taken-way : (p : Program) (words : ℕ → ℕ) → is_aggregate (words 0) ≡ false → BodyHasWay p (body_at p words) → HasWay p (frame_at p words)
taken-way p words single way = subst (λ (b : Bool). BodyHasWay p (cond b (OfMembers (members_at words) (control_at (words 0))) (OfKind (frame_at p words)))) single way

-- and names nothing
pub taken-names : (p : Program) → IsPlainKind p → (words : ℕ → ℕ) (behind : Option ℕ) → IsOfCall (call_behind behind) (body_at p words) → named p words ≡ []
taken-names p plain words behind is =
    let single : is_aggregate (words 0) ≡ false = taken-single p words behind is in
    let kind : control_kind (words 0) ≡ 0 = subst (λ (b : Bool). IsOfCall (call_behind behind) (cond b (OfMembers (members_at words) (control_at (words 0))) (OfKind (frame_at p words)))) single is in
    let none : variables_at p (control_kind (words 0)) ≡ [] = ap (variables_at p) kind ∙ ap variable_list plain.kind_there ∙ plain.no_variables in
    ap (λ (b : Bool). names_of (cond b (OfMembers (members_at words) (control_at (words 0))) (OfKind (frame_at p words)))) single
    ∙ ap (λ (vs : List Variable). present (futures_from words (1 + number_count vs) vs)) none
