use Rattle.std.proofs.Common.{rules, ◌≡◌, ℕ, zero, suc, false, Some, List, [], ◌∷◌, length, slice_get, slice_index, refl, sym, ◌∙◌, ap, subst, arith}
use Rattle.std.proofs.lemmas.List.{nil_from_length}
use Rattle.std.proofs.lemmas.Option.{none-some, same_Some, slice_get_read}
use Rattle.task_syntax.specs.Valid.{Agrees, sort_of}
use Rattle.task_syntax.specs.declared.instr.Argument.{Argument}
use Rattle.task_syntax.specs.declared.instr.Argument.TheVariants as argument
use Rattle.task_syntax.specs.declared.instr.Operand.TheVariants.{Literal}
use Rattle.task_syntax.specs.declared.program.Sort.TheVariants as sort
use Rattle.task_syntax.specs.declared.program.Variable.{Variable}
use Rattle.task_syntax.specs.declared.program.Kind.{Kind}
use Rattle.task_syntax.specs.declared.program.Program.{Program}
use Rattle.frame_code.specs.Control.{is_aggregate}
use Rattle.frame_code.specs.Entries.{BodyMaySpawn, MaySpawn}
use Rattle.frame_code.specs.declared.act.SpawnRequest.{SpawnRequest}
use Rattle.frame_code.proofs.Aggregates.{body-of_task}
use Rattle.frame_rows.proofs.tests.number_passed.Goals as goal

-- a list of length one has one member
one_member : (xs : List ℕ) → length xs ≡ 1 → (x : ℕ) × (xs ≡ x ∷ [])
one_member [] e = absurd (omega (arith, e))
one_member (x ∷ []) e = (x, refl)
one_member (x ∷ y ∷ xs) e = absurd (omega (arith, e))

-- one number agrees with the arguments of a kind that takes one
one_agrees : (n : ℕ) (kind : Kind) (v : Variable) → kind.arguments ≡ 1 → slice_get kind.variables 0 ≡ Some v → v.sort ≡ sort.Number
    → Agrees sort_of kind (argument.Number (Literal n) ∷ [])
one_agrees n kind v one first number = (sym one, sorts)
  where
    sorts : (at : ℕ) (a : Argument) (w : Variable) → slice_get (argument.Number (Literal n) ∷ []) at ≡ Some a → slice_get kind.variables at ≡ Some w → w.sort ≡ sort_of a
    sorts zero a w is there = ap (λ (x : Variable). x.sort) (same_Some w v (sym there ∙ first)) ∙ (number ∙ ap sort_of (same_Some (argument.Number (Literal n)) a is))
    sorts (suc at) a w is there = absurd (none-some a is)

-- a task may pass one number to a kind that takes one
may_pass : (p : Program) (request : SpawnRequest) (words : List ℕ) (kind : Kind) (v : Variable) → is_aggregate (slice_index words 0) ≡ false
    → slice_get p.kinds request.kind ≡ Some kind → kind.arguments ≡ 1 → slice_get kind.variables 0 ≡ Some v → v.sort ≡ sort.Number
    → length request.numbers ≡ 1 → length request.futures ≡ 0 → MaySpawn p request words
may_pass p request words kind v task is_kind one first number one_number no_future =
    let (n, is) = one_member request.numbers one_number in
    subst (BodyMaySpawn p request) (sym (body-of_task p words task)) (
      argument.Number (Literal n) ∷ [],
      record {
        numbers = sym is;
        futures = sym (nil_from_length request.futures no_future);
        agrees = λ other there. subst (λ (k : Kind). Agrees sort_of k (argument.Number (Literal n) ∷ [])) (same_Some kind other (sym is_kind ∙ there)) (one_agrees n kind v one first number);
        named = λ at x there. absurd (none-some x there);
      },
    )

pub passed_by-requires-clause-arguments : goal.passed_by-requires-clause-arguments
passed_by-requires-clause-arguments c =
    let p = c.args.checked.now in
    let kinds = c.as_slice-kinds.result.now in
    let kind = c.index-kinds-request.result in
    let variables = c.as_slice-variables.result.now in
    let are_kinds : p.kinds ≡ kinds = sym (c.as_slice-kinds.ensures ∙ ap (λ (q : Program). q.kinds) c.program.ensures.same) in
    let read = slice_get_read kinds (length kinds) c.args.request.now.kind kind refl (omega (arith, c.if-kinds-request.false)) c.index-kinds-request.is in
    let first = slice_get_read variables (length variables) 0 c.index-variables-0.result refl (omega (arith, c.if-variables-lt1.false)) c.index-variables-0.is in
    may_pass p c.args.request.now c.args.frame.now.items kind c.index-variables-0.result (search rules)
    (ap (λ (ks : List Kind). slice_get ks c.args.request.now.kind) are_kinds ∙ read) (search rules)
    (ap (λ (vs : List Variable). slice_get vs 0) (sym c.as_slice-variables.ensures) ∙ first) (search rules)
    (ap length (sym c.as_slice.ensures) ∙ c.if-as_slice-ne1.false) (ap length (sym c.as_slice-else-as_slice-ne1.ensures) ∙ c.if-as_slice-ne0.false)
