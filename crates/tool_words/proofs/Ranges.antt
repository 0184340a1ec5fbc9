-- Which numbers a plan takes, by the tests of `specs/Choice.antt` and by the ranges of `kt_words`.
use Rattle.std.proofs.Common.{◌≡◌, ℕ, ◌≤◌, inl, inr, Bool, true, false, nat_eq, nat_le, if◌then◌else◌, IsSome, IsNone, IfSome, ◌↔◌, Option, Some, None, option_map, refl, ap, subst, arith, le-leb, leb-true}
use Rattle.std.proofs.lemmas.Bool.{eqb-true}
use Rattle.task_syntax.specs.Names.{is_between}
use Rattle.task_syntax.proofs.Bools.{both, either}
use Rattle.kt_words.specs.Ranges.{IsGeometry, HasUnits, IsUnitCount, IsPlan}
use Rattle.kt_words.specs.declared.plan.Plan.{Plan}
use Rattle.kt_words.specs.declared.geometry.Geometry.{Geometry}
use Rattle.kt_words.proofs.GeometryFacts.{units_by_name}
use Rattle.record_core.specs.EndSeen.{plan_of}
use Rattle.tool_words.specs.Choice.{is_unit_count, fit_plan, plan_with}

-- a test on both sides of a range
pub between : (low high n : ℕ) → is_between low high n ≡ true → (low ≤ n) × (n ≤ high)
between low high n h = let b = both (nat_le low n) (nat_le n high) h in (leb-true low n b.0, leb-true n high b.1)

pub is_within : (low high n : ℕ) → low ≤ n → n ≤ high → is_between low high n ≡ true
is_within low high n above below = rw (le-leb low n above, le-leb n high below) refl

-- one of the seven numbers
listed : (n : ℕ) → is_unit_count (Some n) ≡ true → HasUnits n
listed n h = elim (either (nat_eq 8 n) _ h) [
  | inl e ↦ by 8 (eqb-true 8 n e) (omega arith, omega arith, (3, refl))
  | inr h ↦ elim (either (nat_eq 16 n) _ h) [
    | inl e ↦ by 16 (eqb-true 16 n e) (omega arith, omega arith, (4, refl))
    | inr h ↦ elim (either (nat_eq 32 n) _ h) [
      | inl e ↦ by 32 (eqb-true 32 n e) (omega arith, omega arith, (5, refl))
      | inr h ↦ elim (either (nat_eq 64 n) _ h) [
        | inl e ↦ by 64 (eqb-true 64 n e) (omega arith, omega arith, (6, refl))
        | inr h ↦ elim (either (nat_eq 128 n) _ h) [
          | inl e ↦ by 128 (eqb-true 128 n e) (omega arith, omega arith, (7, refl))
          | inr h ↦ elim (either (nat_eq 256 n) _ h) [
            | inl e ↦ by 256 (eqb-true 256 n e) (omega arith, omega arith, (8, refl))
            | inr h ↦ elim (either (nat_eq 512 n) false h) [
              | inl e ↦ by 512 (eqb-true 512 n e) (omega arith, omega arith, (9, refl))
              | inr h ↦ cc
            ]
          ]
        ]
      ]
    ]
  ]
] where
  by : (m : ℕ) → m ≡ n → HasUnits m → HasUnits n
  by m e h = subst HasUnits e h

is_listed : (n : ℕ) → IsUnitCount n → is_unit_count (Some n) ≡ true
is_listed n (inl e) = rw e refl
is_listed n (inr (inl e)) = rw e refl
is_listed n (inr (inr (inl e))) = rw e refl
is_listed n (inr (inr (inr (inl e)))) = rw e refl
is_listed n (inr (inr (inr (inr (inl e))))) = rw e refl
is_listed n (inr (inr (inr (inr (inr (inl e)))))) = rw e refl
is_listed n (inr (inr (inr (inr (inr (inr e)))))) = rw e refl

-- what passes has a geometry, and a limit in its range
fits : (s u l : ℕ) → fit_plan (Some s) (Some u) (Some l) ≡ true → IsGeometry s u × (1 ≤ l) × (l ≤ 4000000)
fits s u l h =
    let first = both (is_between 1 1024 s) _ h in
    let next = both (is_unit_count (Some u)) (is_between 1 4000000 l) first.1 in
    let limit = between 1 4000000 l next.1 in
    (record { superblocks_fit = between 1 1024 s first.0; units_fit = listed u next.0 }, limit.0, limit.1)

false_where : (b : Bool) → (b ≡ true → ⊥) → b ≡ false
false_where true n = absurd (n refl)
false_where false n = refl

some_none : {A : Type 0} (o : Option A) → IsSome o → IsNone o → ⊥
some_none None s n = cc
some_none (Some x) s n = cc

-- without a geometry nothing passes
pub no_geometry : {A : Type 0} (made : Option A) (s u l : ℕ) → IsSome made ↔ IsGeometry s u → IsNone made → fit_plan (Some s) (Some u) (Some l) ≡ false
no_geometry made s u l exactly none =
    false_where (fit_plan (Some s) (Some u) (Some l)) (λ h. some_none made (exactly.1 (fits s u l h).0) none)

-- with one, the plan is made exactly where the limit is in its range
pub plan_made : (made : Option Plan) (g : Geometry) (s u l : ℕ) → g.superblocks ≡ s → g.units ≡ u → IsSome made ↔ IsPlan l 0
    → IfSome made (λ p. (p.geometry ≡ g) × (p.limit ≡ l) × (p.roots ≡ 0))
    → option_map plan_of made ≡ (if fit_plan (Some s) (Some u) (Some l) then Some (plan_with (Some s) (Some u) (Some l)) else None)
plan_made None g s u l superblocks units exactly same =
    let not : fit_plan (Some s) (Some u) (Some l) ≡ false = false_where (fit_plan (Some s) (Some u) (Some l)) (λ h.
    let f = fits s u l h in some_none {A = Plan} None (exactly.1 (record { some_activation = f.1; limit_fits = f.2; roots_fit = omega arith })) refl) in
    rw not refl
plan_made (Some p) g s u l superblocks units exactly same =
    let plan : IsPlan l 0 = exactly.0 refl in
    let within : is_between 1 1024 s ≡ true = subst (λ n. is_between 1 1024 n ≡ true) superblocks (is_within 1 1024 g.superblocks g.superblocks_fit.0 g.superblocks_fit.1) in
    let counted : is_unit_count (Some u) ≡ true = subst (λ n. is_unit_count (Some n) ≡ true) units (is_listed g.units (units_by_name g)) in
    let yes : fit_plan (Some s) (Some u) (Some l) ≡ true =
    rw (within, counted, is_within 1 4000000 l plan.some_activation plan.limit_fits) refl in
    let made : plan_of p ≡ record { superblocks = s; units = u; limit = l } = rw (← superblocks, ← units, ← same.0, ← same.1) refl in
    rw yes (ap Some made)
