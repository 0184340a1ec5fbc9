-- The faults of a state's own line.
use Rattle.std.proofs.Common.{◌≡◌, ℕ, ◌<◌, true, nat_lt, Option, Some, length, refl, sym, subst, ◌⊎◌, inl, inr, arith, IsTrue}
use Rattle.std.proofs.lemmas.Bool.Decides.{nat_tests}
use Rattle.task_syntax.specs.Facts.{has}
use Rattle.task_syntax.specs.declared.program.State.{State}
use Rattle.task_syntax.specs.declared.program.Kind.{Kind}
use Rattle.task_check.specs.declared.fault.Cause.TheVariants.{NotHeld, FrameTooLarge}
use Rattle.task_check.specs.declared.fault.Found.{Found}
use Rattle.task_check.specs.Faults.{IsFirst, DeclaredFault, SizeFault}
use Rattle.task_check.specs.Parts.{LackingFault, earlier_of}
use Rattle.task_check.proofs.First.{first-same, first-earlier, precedes-right}
use Rattle.task_check.proofs.Lacks.{lacks-same, lacks-front, front-lacks}

test-less : (x a : ℕ) → nat_lt x a ≡ true → x < a
test-less x a e = grind (arith, nat_tests)

less-test : (x a : ℕ) → x < a → nat_lt x a ≡ true
less-test x a h = grind (arith, nat_tests)

module _ (kind : Kind) (place : ℕ) (state : State) where
  abbrev Unheld : Found → Type 0
  Unheld = LackingFault state.line NotHeld (length state.holds) kind state.settled (λ x. IsTrue (has x state.holds))

  abbrev NoArgument : Found → Type 0
  NoArgument = LackingFault state.line NotHeld 0 kind state.holds (λ x. IsTrue (nat_lt x kind.arguments))

  -- a later state declares wrongly only what it settles
  pub declared-later : ¬ (place ≡ 0) → (r : Option Found) → IsFirst Unheld r → IsFirst (DeclaredFault kind place state) r
  declared-later later r first = first-same Unheld (DeclaredFault kind place state)
      (λ f m. (m.0, m.1, inr m.2)) (λ f m. elim m.2 [ inl h ↦ absurd (later h.0) | inr s ↦ (m.0, m.1, s) ]) r first

  -- an entry state may also hold what is no argument
  pub declared-entry : place ≡ 0 → (a b : Option Found) → IsFirst NoArgument a → IsFirst Unheld b → IsFirst (DeclaredFault kind place state) (earlier_of a b)
  declared-entry entry a b first second = first-same (λ f. NoArgument f ⊎ Unheld f) (DeclaredFault kind place state)
      (λ f m. elim m [
        | inl h ↦ (
          h.0,
          h.1,
          inl (
            entry,
            lacks-same kind state.holds (λ x. IsTrue (nat_lt x kind.arguments)) (λ x. x < kind.arguments) (λ x w l. less-test x kind.arguments l) f.position f.name
                (lacks-front kind state.holds (λ x. IsTrue (nat_lt x kind.arguments)) f.position f.name h.2),
          ),
        )
        | inr s ↦ (s.0, s.1, inr s.2)
      ])
      (λ f m. elim m.2 [
        | inl h ↦ inl (
          m.0,
          m.1,
          front-lacks kind state.holds (λ x. IsTrue (nat_lt x kind.arguments)) f.position f.name
              (lacks-same kind state.holds (λ x. x < kind.arguments) (λ x. IsTrue (nat_lt x kind.arguments)) (λ x w l. test-less x kind.arguments l) f.position f.name h.1),
        )
        | inr s ↦ inr (m.0, m.1, s)
      ])
      (earlier_of a b) (first-earlier NoArgument Unheld a b first second)

-- a kind with too many variables
pub size-found : (kind : Kind) → 63 < length kind.variables → (r : Option Found) → r ≡ Some (record { line = kind.line; cause = FrameTooLarge; position = 0; name = kind.name }) → IsFirst (SizeFault kind) r
size-found kind many r e = subst (IsFirst (SizeFault kind)) (sym e)
    ((refl, refl, refl, refl, many), λ g m. precedes-right (record { line = kind.line; cause = FrameTooLarge; position = 0; name = kind.name }) g m.0 m.1 (omega arith))
