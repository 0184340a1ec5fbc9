-- The faults of the lines of roots.
use Rattle.std.proofs.Common.{◌≡◌, ℕ, ◌+◌, ◌<◌, ◌≤◌, Option, Some, None, List, length, slice_get, refl, sym, ◌∙◌, ap, subst, ◌⊎◌, inl, inr, arith, IfSome}
use Rattle.std.proofs.lemmas.Bool.{cases_lt}
use Rattle.std.proofs.lemmas.Option.{slice_get_within}
use Rattle.task_syntax.specs.Form.{IsFormedRootArgument}
use Rattle.task_syntax.specs.Valid.{Agrees, sort_of_root}
use Rattle.task_syntax.specs.declared.program.RootArgument.{RootArgument}
use Rattle.task_syntax.specs.declared.program.RootArgument.TheVariants as root_argument
use Rattle.task_syntax.specs.declared.program.State.{State}
use Rattle.task_syntax.specs.declared.program.Kind.{Kind}
use Rattle.task_syntax.specs.declared.program.Root.{Root}
use Rattle.task_syntax.specs.declared.program.Program.{Program}
use Rattle.task_check.specs.declared.fault.Cause.{Cause}
use Rattle.task_check.specs.declared.fault.Cause.TheVariants.{FrameTooLarge, BadCount, NotHeld, NotSettled, StateNeeds}
use Rattle.task_check.specs.declared.fault.Found.{Found}
use Rattle.task_check.specs.Asks.{root_in, passed_settled}
use Rattle.task_check.specs.Faults.{IsFirst, RootFault, RootHasCause}
use Rattle.task_check.specs.Parts.{UnbehindFault, earlier_of}
use Rattle.task_check.proofs.First.{precedes-right, first-same, first-earlier}
use Rattle.task_check.proofs.Lacks.{same-some}

module _ (p : Program) (line : ℕ) (behind : Option ℕ) (roots : List ℕ) where
  -- the first root that is not the predecessor is the first fault
  pub unbehind-found : (i r : ℕ) (earlier : Root) (name : List ℕ) → name ≡ earlier.name → slice_get roots i ≡ Some r → slice_get p.roots r ≡ Some earlier → ¬ (behind ≡ Some r)
      → ((j y : ℕ) → j < i → slice_get roots j ≡ Some y → behind ≡ Some y)
      → (a : Option Found) → a ≡ Some (record { line = line; cause = StateNeeds; position = i; name = name }) → IsFirst (UnbehindFault p line behind roots) a
  unbehind-found i r earlier name named here stands other before a e =
      let f : Found = record { line = line; cause = StateNeeds; position = i; name = name } in
      subst (IsFirst (UnbehindFault p line behind roots)) (sym e) (
        (refl, refl, (r, earlier, here, stands, named, other)),
        λ g lacks. precedes-right f g lacks.0 lacks.1 (by g.position lacks.2.0 lacks.2.2 lacks.2.5),
      ) where
        by : (j y : ℕ) → slice_get roots j ≡ Some y → ¬ (behind ≡ Some y) → i ≤ j
        by j y at no_behind = elim (cases_lt j i) [ inl h ↦ absurd (no_behind (before j y h at)) | inr h ↦ h ]

  -- where each root is the predecessor there is no fault
  pub unbehind-none : ((j x : ℕ) → j < length roots → slice_get roots j ≡ Some x → behind ≡ Some x) → IsFirst (UnbehindFault p line behind roots) None
  unbehind-none all_behind f lacks = lacks.2.5 (all_behind f.position lacks.2.0 (slice_get_within roots f.position lacks.2.0 lacks.2.2) lacks.2.2)

-- one more root is the predecessor
pub behind-more : (behind : Option ℕ) (roots : List ℕ) (i y : ℕ) → slice_get roots i ≡ Some y → behind ≡ Some y → ((j x : ℕ) → j < i → slice_get roots j ≡ Some x → behind ≡ Some x)
    → (j x : ℕ) → j < i + 1 → slice_get roots j ≡ Some x → behind ≡ Some x
behind-more behind roots i y here present before j x h at = elim (cases_lt j i) [
  | inl k ↦ before j x k at
  | inr k ↦ let e : j ≡ i = omega arith in
      subst (λ z. behind ≡ Some z) (same-some (slice_get roots i) y x here (subst (λ n. slice_get roots n ≡ Some x) e at)) present
]

-- a root that an argument passes is one of the program
pub root-within : (p : Program) (at : ℕ) (a : RootArgument) → at ≤ length p.roots → IsFormedRootArgument at a → IfSome (root_in a) (λ r. r < length p.roots)
root-within p at (root_argument.Number n) h f = tt
root-within p at (root_argument.Root r) h f = omega arith

module _ (p : Program) (root : Root) (k : Kind) (entry : State) (stands : slice_get p.kinds root.kind ≡ Some k) (starts : slice_get k.states 0 ≡ Some entry) where
  abbrev Misfit : Found → Type 0
  Misfit f = (f.line ≡ root.line) × (f.cause ≡ BadCount) × (f.position ≡ 0) × (f.name ≡ k.name) × ¬ Agrees sort_of_root k root.arguments

  abbrev Needy : Found → Type 0
  Needy = UnbehindFault p root.line root.behind (passed_settled root_in entry.settled root.arguments)

  with-cause : (f : Found) (c : Cause) → f.line ≡ root.line → f.cause ≡ c → RootHasCause p root c f.position f.name → RootFault p root f
  with-cause f c l e h = (l, subst (λ k. RootHasCause p root k f.position f.name) (sym e) h)

  to-root : (f : Found) → Misfit f ⊎ Needy f → RootFault p root f
  to-root f (inl m) = with-cause f BadCount m.0 m.1 (m.2, (k, stands, m.3, m.4))
  to-root f (inr m) = with-cause f StateNeeds m.0 m.1 (k, entry, stands, starts, m.2)

  by-cause : (f : Found) → f.line ≡ root.line → (c : Cause) → f.cause ≡ c → RootHasCause p root c f.position f.name → Misfit f ⊎ Needy f
  by-cause f l FrameTooLarge e h = absurd h
  by-cause f l BadCount e h =
      let same : h.1.0 ≡ k = same-some (slice_get p.kinds root.kind) h.1.0 k h.1.1 stands in
      inl (l, e, h.0, h.1.2 ∙ ap (λ (z : Kind). z.name) same, λ a. h.1.3 (subst (λ z. Agrees sort_of_root z root.arguments) (sym same) a))
  by-cause f l NotHeld e h = absurd h
  by-cause f l NotSettled e h = absurd h
  by-cause f l StateNeeds e h =
      let same : h.0 ≡ k = same-some (slice_get p.kinds root.kind) h.0 k h.2 stands in
      let same_entry : h.1 ≡ entry = same-some (slice_get k.states 0) h.1 entry (subst (λ (z : Kind). slice_get z.states 0 ≡ Some h.1) same h.3) starts in
      inr (l, e, (h.4.0, h.4.1, subst (λ (s : State). slice_get (passed_settled root_in s.settled root.arguments) f.position ≡ Some h.4.0) same_entry h.4.2, h.4.3, h.4.4, h.4.5))

  -- the earlier of a root's two faults is its first
  pub root-first : (a b : Option Found) → IsFirst Misfit a → IsFirst Needy b → IsFirst (RootFault p root) (earlier_of a b)
  root-first a b first second = first-same (λ f. Misfit f ⊎ Needy f) (RootFault p root) to-root (λ f m. by-cause f m.0 f.cause refl m.1) (earlier_of a b) (first-earlier Misfit Needy a b first second)
