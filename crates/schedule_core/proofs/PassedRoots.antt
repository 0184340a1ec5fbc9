-- The arguments of a root's line are passed, one after the other, with references to the records of the roots among them.
use Rattle.std.proofs.Common.{◌≡◌, ◌∙◌, ◌⊎◌, inl, inr, ℕ, zero, suc, ◌+◌, ◌≤◌, Option, Some, None, List, [], ◌∷◌, ◌++◌, map, length, refl, sym, ap, subst, arith}
use Rattle.std.specs.List.{cons_option}
use Rattle.std.specs.Option.{option_to_list}
use Rattle.std.proofs.lemmas.List.{map-append, length-append}
use Rattle.std.proofs.lemmas.List.Elements.{filter_map-append}
use Rattle.record_core.specs.Counting.{At}
use Rattle.record_core.proofs.TotalFacts.{none_there}
use Rattle.kt_words.specs.declared.plan.Plan.{Plan}
use Rattle.task_syntax.specs.declared.program.RootArgument.{RootArgument}
use Rattle.task_syntax.specs.declared.program.RootArgument.TheVariants as root_argument
use Rattle.frame_code.specs.Entries.{future_of}
use Rattle.frame_code.specs.Names.{present}
use Rattle.frame_code.specs.declared.entries.Passed.{Passed}
use Rattle.frame_code.specs.declared.entries.Passed.TheVariants as passed
use Rattle.table_core.specs.Holdings.{RootSays}
use Rattle.table_core.specs.declared.view.View.{View}
use Rattle.table_core.proofs.ListFacts.{same_some}
use Rattle.step_table.specs.Passes.{view, IsSameWith}
use Rattle.step_table.specs.RootSteps.{HasRootRecord}
use Rattle.step_table.specs.declared.pass.Pass.{Pass}
use Rattle.schedule_core.specs.Hosting.{IsBehindRoot, IsPassedAs}
use Rattle.schedule_core.specs.NamedRoots.{HaveRootRecords, PassesRoot, PassesRoots, TakesBehind, TakesRoot, TakesUnits}
use Rattle.schedule_core.specs.declared.making.Behind.{Behind}
use Rattle.schedule_core.proofs.EachFacts.{part-has, same-on}
use Rattle.schedule_core.proofs.TakenUnits.{takes-none, takes-then}

module _ (g : Plan) where
  -- a number is passed as it is
  pub passes-number : (a : RootArgument) (n : ℕ) (v : View) → a ≡ root_argument.Number n → PassesRoot g a (passed.Number n) v v
  passes-number a n v is = record { is = λ asked turn. subst (λ (b : RootArgument). IsPassedAs asked b (passed.Number n)) (sym is) refl; takes = takes-none g v }

  -- a root is passed by its record
  pub passes-record : (a : RootArgument) (r u : ℕ) (b : Behind) (v w : View) → a ≡ root_argument.Root r → u ≡ b.unit → TakesRoot g r b v w → PassesRoot g a (passed.Future u) v w
  passes-record a r u b v w is unit_is takes = subst (λ (n : ℕ). PassesRoot g a (passed.Future n) v w) (sym unit_is) (record {
    is = λ asked turn. subst (λ (c : RootArgument). IsPassedAs asked c (passed.Future b.unit)) (sym is) (b.unit, refl, takes.is_its asked turn);
    takes = takes.takes;
  })

  -- the root that a line is behind, if it is behind one
  pub behind-none : (o : Option ℕ) (v : View) → o ≡ None → TakesBehind g o None v v
  behind-none o v is = record { is = λ asked turn. subst (λ (p : Option ℕ). IsBehindRoot asked p None) (sym is) tt; takes = takes-none g v; task_is = tt }

  pub behind-some : (o : Option ℕ) (r : ℕ) (b : Behind) (v w : View) → o ≡ Some r → TakesRoot g r b v w → TakesBehind g o (Some b) v w
  behind-some o r b v w is takes = record {
    is = λ asked turn. subst (λ (p : Option ℕ). IsBehindRoot asked p (Some b)) (sym is) (takes.is_its asked turn);
    takes = takes.takes;
    task_is = takes.task_is;
  }

-- what roots have a record have one in each view with the same turn
pub records-kept : (g : Plan) (names : List ℕ) (v w : View) → w.turn ≡ v.turn → HaveRootRecords g names v → HaveRootRecords g names w
records-kept g names v w turn_is have k r at = let h = have k r at in (h.0, kept r h.1)
  where
    kept : (r : ℕ) → HasRootRecord g r v → HasRootRecord g r w
    kept r h = record { asked = h.asked; has_turn = turn_is ∙ h.has_turn; unit = h.unit; there = h.there; near = h.near }

-- no more units are passed than there are arguments
pub present-few : (os : List (Option ℕ)) → length (present os) ≤ length os
present-few [] = omega arith
present-few (None ∷ os) = omega (arith, present-few os)
present-few (Some u ∷ os) = omega (arith, present-few os)

-- one more at the end
present-snoc : (given : List Passed) (x : Passed) → present (map future_of (given ++ x ∷ [])) ≡ present (map future_of given) ++ option_to_list (future_of x)
present-snoc given x =
    ap (λ (l : List (Option ℕ)). present l) (map-append future_of given (x ∷ []))
    ∙ filter_map-append (λ (o : Option ℕ). o) (map future_of given) (future_of x ∷ [])
    ∙ ap (λ (l : List ℕ). present (map future_of given) ++ l) (by (future_of x))
  where
    by : (o : Option ℕ) → cons_option o [] ≡ option_to_list o
    by None = refl
    by (Some u) = refl

-- a member of a list with one more at the end is that one, or was there
snoc-cases : {A : Type 0} (l : List A) (x : A) (k : ℕ) (y : A) → At (l ++ x ∷ []) k y → At l k y ⊎ ((k ≡ length l) × (x ≡ y))
snoc-cases [] x zero y at = inr (refl, same_some x y at)
snoc-cases [] x (suc k) y at = absurd (none_there y at)
snoc-cases (z ∷ l) x zero y at = inl at
snoc-cases (z ∷ l) x (suc k) y at = elim (snoc-cases l x k y at) [ inl t ↦ inl t | inr t ↦ inr (ap suc t.0, t.1) ]

-- so many of the arguments are passed, and the rest is left
pub record IsPassing (g : Plan) (arguments : List RootArgument) (rest : List ℕ) (at : ℕ) (given : List Passed) (old now : Pass) : Type 0 where
  pub has : HaveRootRecords g rest (view now)
  pub count : length given ≡ at
  pub each : (asked : List RootSays) → (view old).turn ≡ asked ∷ [] → (k : ℕ) (a : RootArgument) (x : Passed) → At arguments k a → At given k x → IsPassedAs asked a x
  pub takes : TakesUnits g (present (map future_of given)) (view old) (view now)
  pub same : IsSameWith (old.held + length (present (map future_of given))) old now

pub passing-starts : (g : Plan) (arguments : List RootArgument) (all : List ℕ) (old : Pass) (given : List Passed) → given ≡ [] → HaveRootRecords g all (view old) → IsPassing g arguments all 0 given old old
passing-starts g arguments all old given none have = subst (λ (l : List Passed). IsPassing g arguments all 0 l old old) (sym none) (record {
  has = have;
  count = refl;
  each = λ asked turn k a x there at. absurd (none_there x at);
  takes = takes-none g (view old);
  same = record { table = refl; id = refl; splits = refl; number = refl; held_is = omega arith };
})

-- references to fewer records than may be had
pub passing-room : (g : Plan) (arguments : List RootArgument) (rest : List ℕ) (at : ℕ) (given : List Passed) (old now : Pass) → IsPassing g arguments rest at given old now → now.held ≤ old.held + at
passing-room g arguments rest at given old now so = omega (arith, so.same.held_is, so.count, present-few (map future_of given), long given)
  where
    long : (l : List Passed) → length (map future_of l) ≡ length l
    long [] = refl
    long (x ∷ l) = ap suc (long l)

pub passing-on : (g : Plan) (arguments : List RootArgument) (more rest : List ℕ) (at : ℕ) (given : List Passed) (one : RootArgument) (x : Passed) (old now new : Pass) → IsPassing g arguments (more ++ rest) at given old now
    → At arguments at one → IsSameWith (now.held + length (option_to_list (future_of x))) now new → PassesRoot g one x (view now) (view new) → IsPassing g arguments rest (at + 1) (given ++ x ∷ []) old new
passing-on g arguments more rest at given one x old now new so there same passes = record {
  has = records-kept g rest (view now) (view new) (ap (λ (v : View). v.turn) passes.takes.view_is) (part-has _ more rest so.has);
  count = omega (arith, so.count, length-append given (x ∷ []));
  each = λ asked turn k a y at_a at_y. by asked turn k a y at_a (snoc-cases given x k y at_y);
  takes = subst (λ (l : List ℕ). TakesUnits g l (view old) (view new)) (sym (present-snoc given x))
      (takes-then g (present (map future_of given)) (option_to_list (future_of x)) (view old) (view now) (view new) so.takes passes.takes);
  same = subst (λ (l : List ℕ). IsSameWith (old.held + length l) old new) (sym (present-snoc given x))
      (same-on (old.held + length (present (map future_of given))) (old.held + length (present (map future_of given) ++ option_to_list (future_of x))) old now new so.same
      (record {
        table = same.table;
        id = same.id;
        splits = same.splits;
        number = same.number;
        held_is = omega (arith, same.held_is, so.same.held_is, length-append (present (map future_of given)) (option_to_list (future_of x)));
      }));
}
  where
    by : (asked : List RootSays) → (view old).turn ≡ asked ∷ [] → (k : ℕ) (a : RootArgument) (y : Passed) → At arguments k a → At given k y ⊎ ((k ≡ length given) × (x ≡ y)) → IsPassedAs asked a y
    by asked turn k a y at_a (inl was) = so.each asked turn k a y at_a was
    by asked turn k a y at_a (inr is) =
        let here : At arguments k one = subst (λ (n : ℕ). At arguments n one) (sym (is.0 ∙ so.count)) there in
        subst (λ (z : Passed). IsPassedAs asked a z) is.1
        (subst (λ (b : RootArgument). IsPassedAs asked b x) (same_some one a (sym here ∙ at_a)) (passes.is asked (ap (λ (v : View). v.turn) so.takes.view_is ∙ turn)))

-- all are passed
pub passing-ends : (g : Plan) (arguments : List RootArgument) (rest : List ℕ) (at : ℕ) (given : List Passed) (old now : Pass) → at ≡ length arguments → IsPassing g arguments rest at given old now → PassesRoots g arguments given (view old) (view now)
passing-ends g arguments rest at given old now all so = record { are = λ asked turn. record { length_is = so.count ∙ all; each = so.each asked turn }; takes = so.takes }
