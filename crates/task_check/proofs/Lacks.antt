-- The first future of a list that is not in a set, and what lists of futures are asked for.
use Rattle.std.proofs.Common.{◌≡◌, ℕ, zero, suc, ◌+◌, ◌<◌, ◌≤◌, Bool, true, false, ◌||◌, cond, nat_eq, Option, Some, None, List, [], ◌∷◌, ◌++◌, length, slice_get, refl, sym, ◌∙◌, ap, subst, inl, inr, arith, IfSome, IsTrue, eq-eqb, eqb-true}
use Rattle.std.specs.Option.{option_to_list}
use Rattle.std.proofs.lemmas.Bool.{cases_lt}
use Rattle.std.proofs.lemmas.Option.{slice_get_within}
use Rattle.task_syntax.proofs.Bools.{either, or_right}
use Rattle.task_syntax.specs.Places.{Each, IsFutureAt}
use Rattle.task_syntax.specs.Form.{IsFormedInstr, IsFormedArgument}
use Rattle.task_syntax.specs.Valid.{Way, Held, Settled, WillSettle}
use Rattle.task_syntax.specs.declared.instr.Argument.{Argument}
use Rattle.task_syntax.specs.declared.instr.Argument.TheVariants as argument
use Rattle.task_syntax.specs.declared.instr.Instr.{Instr}
use Rattle.task_syntax.specs.declared.instr.Instr.TheVariants.{Set, Math, If, Goto, Label, Cell, Rows, Spawn, All, Copy, Drop, Get, Again, Done}
use Rattle.task_syntax.specs.declared.program.State.{State}
use Rattle.task_syntax.specs.declared.program.Kind.{Kind}
use Rattle.task_syntax.specs.declared.program.Variable.{Variable}
use Rattle.task_syntax.specs.declared.program.Program.{Program}
use Rattle.task_check.specs.declared.fault.Cause.{Cause}
use Rattle.task_check.specs.declared.fault.Found.{Found}
use Rattle.task_check.specs.declared.set.VariableSet.{VariableSet}
use Rattle.task_check.specs.Asks.{future_in, passed, asks_held}
use Rattle.task_check.specs.Known.{Question, held, settled, member, in_set, will_settle}
use Rattle.task_check.specs.Ways.{Agreed}
use Rattle.task_check.specs.Faults.{IsFirst, Lacks, LacksBehind}
use Rattle.task_check.specs.Parts.{LackingFault}
use Rattle.task_check.proofs.First.{precedes-right, first-same}
use Rattle.task_check.proofs.Places.{future-within}

-- an option has one content
pub same-some : {X : Type 0} (o : Option X) (x y : X) → o ≡ Some x → o ≡ Some y → x ≡ y
same-some o x y e f = cc

module _ (line : ℕ) (cause : Cause) (front : ℕ) (kind : Kind) (xs : List ℕ) (set : VariableSet) where
  abbrev Absent : Found → Type 0
  Absent = LackingFault line cause front kind xs (λ x. IsTrue (in_set x set))

  -- the first future outside the set is the first fault
  pub lacking-found : (i x : ℕ) (v : Variable) → slice_get xs i ≡ Some x → slice_get kind.variables x ≡ Some v → in_set x set ≡ false
      → ((j y : ℕ) → j < i → slice_get xs j ≡ Some y → in_set y set ≡ true)
      → (r : Option Found) → r ≡ Some (record { line = line; cause = cause; position = front + i; name = v.name }) → IsFirst Absent r
  lacking-found i x v here variable absent before r e =
      let f : Found = record { line = line; cause = cause; position = front + i; name = v.name } in
      subst (IsFirst Absent) (sym e) (
        (refl, refl, (i, refl, (x, v, here, variable, refl, λ yes. (let c : true ≡ false = sym yes ∙ absent in cc)))),
        λ g lacks. precedes-right f g lacks.0 lacks.1 (by (lacks.2.0) g lacks.2.1 lacks.2.2.0 lacks.2.2.2 lacks.2.2.5),
      ) where
        by : (j : ℕ) (g : Found) → g.position ≡ front + j → (y : ℕ) → slice_get xs j ≡ Some y → ¬ IsTrue (in_set y set) → front + i ≤ g.position
        by j g e y at no_in = elim (cases_lt j i) [
          | inl h ↦ absurd (no_in (before j y h at))
          | inr h ↦ omega arith
        ]

  -- the same, where its name was found otherwise
  pub lacking-named : (i x : ℕ) (v : Variable) (name : List ℕ) → name ≡ v.name → slice_get xs i ≡ Some x → slice_get kind.variables x ≡ Some v → in_set x set ≡ false
      → ((j y : ℕ) → j < i → slice_get xs j ≡ Some y → in_set y set ≡ true)
      → (r : Option Found) → r ≡ Some (record { line = line; cause = cause; position = front + i; name = name }) → IsFirst Absent r
  lacking-named i x v name same here variable absent before r e =
      lacking-found i x v here variable absent before r (e ∙ ap (λ m. Some (record { line = line; cause = cause; position = front + i; name = m })) same)

  -- where all futures are in the set there is no fault
  pub lacking-none : ((j x : ℕ) → j < length xs → slice_get xs j ≡ Some x → in_set x set ≡ true) → IsFirst Absent None
  lacking-none all_in f lacks = lacks.2.2.5 (all_in lacks.2.0 lacks.2.2.0 (slice_get_within xs lacks.2.0 lacks.2.2.0 lacks.2.2.2) lacks.2.2.2)

  -- one more future is in the set
  pub lacking-more : (i y : ℕ) → slice_get xs i ≡ Some y → in_set y set ≡ true → ((j x : ℕ) → j < i → slice_get xs j ≡ Some x → in_set x set ≡ true)
      → (j x : ℕ) → j < i + 1 → slice_get xs j ≡ Some x → in_set x set ≡ true
  lacking-more i y here present before j x h at = elim (cases_lt j i) [
    | inl k ↦ before j x k at
    | inr k ↦ let e : j ≡ i = omega arith in
        subst (λ z. in_set z set ≡ true) (same-some (slice_get xs i) y x here (subst (λ n. slice_get xs n ≡ Some x) e at)) present
  ]

-- of what two lists have together
pub each-append : (xs ys : List ℕ) (P : ℕ → Type 0) → Each xs P → Each ys P → Each (xs ++ ys) P
each-append [] ys P h k i y e = k i y e
each-append (x ∷ xs) ys P h k zero y e = h zero y e
each-append (x ∷ xs) ys P h k (suc i) y e = each-append xs ys P (λ j z s. h (suc j) z s) k i y e

-- what holds of two lists holds of the first
pub append-left : (xs ys : List ℕ) (P : ℕ → Type 0) → Each (xs ++ ys) P → Each xs P
append-left [] ys P h i y e = cc
append-left (x ∷ xs) ys P h zero y e = h zero y e
append-left (x ∷ xs) ys P h (suc i) y e = append-left xs ys P (λ j z s. h (suc j) z s) i y e

-- what holds of two lists holds of the second
pub append-right : (xs ys : List ℕ) (P : ℕ → Type 0) → Each (xs ++ ys) P → Each ys P
append-right [] ys P h = h
append-right (x ∷ xs) ys P h = append-right xs ys P (λ j z s. h (suc j) z s)

-- what holds of an option holds of its list
pub each-option : (o : Option ℕ) (P : ℕ → Type 0) → IfSome o P → Each (option_to_list o) P
each-option None P h i x e = cc
each-option (Some y) P h zero x e = subst P (same-some (Some y) y x refl e) h
each-option (Some y) P h (suc i) x e = cc

-- what holds of the list of an option holds of the option
pub option-each : (o : Option ℕ) (P : ℕ → Type 0) → Each (option_to_list o) P → IfSome o P
option-each None P h = tt
option-each (Some y) P h = h zero y refl

-- of what arguments pass
module _ {A : Type 0} (future_of : A → Option ℕ) (picks : ℕ → Bool) (P : ℕ → Type 0) where
  -- what holds of each picked argument's future holds of all that is passed
  pub passed-each : (at : ℕ) (xs : List A) → ((i : ℕ) (a : A) → slice_get xs i ≡ Some a → picks (at + i) ≡ true → IfSome (future_of a) P) → Each (passed future_of picks at xs) P
  passed-each at [] h = λ i x e. cc
  passed-each at (a ∷ xs) h =
      each-append (option_to_list (cond (picks at) (future_of a) None)) (passed future_of picks (suc at) xs) P
      (each-option (cond (picks at) (future_of a) None) P (picked (picks at) refl))
      (passed-each (suc at) xs (λ i b e p. h (suc i) b e (subst (λ n. picks n ≡ true) (let s : suc at + i ≡ at + suc i = omega arith in s) p))) where
        picked : (b : Bool) → picks at ≡ b → IfSome (cond b (future_of a) None) P
        picked true e = h zero a refl (subst (λ n. picks n ≡ true) (let s : at ≡ at + 0 = omega arith in s) e)
        picked false e = tt

  -- what holds of all that is passed holds of each picked argument's future
  pub each-passed : (at : ℕ) (xs : List A) → Each (passed future_of picks at xs) P → (i : ℕ) (a : A) → slice_get xs i ≡ Some a → picks (at + i) ≡ true → IfSome (future_of a) P
  each-passed at [] h i a e p = cc
  each-passed at (b ∷ xs) h zero a e p =
      let first : IfSome (cond (picks at) (future_of b) None) P = option-each (cond (picks at) (future_of b) None) P (append-left (option_to_list (cond (picks at) (future_of b) None)) (passed future_of picks (suc at) xs) P h) in
      let here : picks at ≡ true = subst (λ n. picks n ≡ true) (let s : at + 0 ≡ at = omega arith in s) p in
      subst (λ c. IfSome (future_of c) P) (same-some (Some b) b a refl e) (subst (λ c. IfSome (cond c (future_of b) None) P) here first)
  each-passed at (b ∷ xs) h (suc i) a e p =
      each-passed (suc at) xs (append-right (option_to_list (cond (picks at) (future_of b) None)) (passed future_of picks (suc at) xs) P h) i a e
      (subst (λ n. picks n ≡ true) (let s : at + suc i ≡ suc at + i = omega arith in s) p)

-- the futures that a well-formed instruction names are variables of the kind
each-one : (y : ℕ) (P : ℕ → Type 0) → P y → Each (y ∷ []) P
each-one y P h = each-option (Some y) P h

each-none : (P : ℕ → Type 0) → Each [] P
each-none P i x e = cc

-- a predecessor is a variable of the kind
pub behind-within : (kind : Kind) (behind : Option ℕ) → IfSome behind (IsFutureAt kind) → IfSome behind (λ x. x < length kind.variables)
behind-within kind None h = tt
behind-within kind (Some g) h = future-within kind g h

-- a future that an argument passes is a variable of the kind
pub argument-within : (kind : Kind) (a : Argument) → IsFormedArgument kind a → IfSome (future_in a) (λ x. x < length kind.variables)
argument-within kind (argument.Number n) h = tt
argument-within kind (argument.Future x) h = future-within kind x h

-- the futures that are to be held are variables of the kind
pub asks_held-within : (p : Program) (kind : Kind) (state : State) (at : ℕ) (instr : Instr) → IsFormedInstr p kind state at instr → Each (asks_held instr) (λ x. x < length kind.variables)
asks_held-within p kind state at (Spawn to callee arguments behind priority retry) f =
    each-append (passed future_in (λ n. true) 0 arguments) (option_to_list behind) (λ x. x < length kind.variables)
    (passed-each future_in (λ n. true) (λ x. x < length kind.variables) 0 arguments (λ i a e yes_it. argument-within kind a (f.3 i a e)))
    (each-option behind (λ x. x < length kind.variables) (behind-within kind behind f.4))
asks_held-within p kind state at (All to members priority retry) f = λ i x e. future-within kind x (f.3 i x e)
asks_held-within p kind state at (Copy to source) f = each-one source (λ x. x < length kind.variables) (future-within kind source f.1)
asks_held-within p kind state at (Drop future) f = each-one future (λ x. x < length kind.variables) (future-within kind future f)
asks_held-within p kind state at (Get to future) f = each-one future (λ x. x < length kind.variables) (future-within kind future f.1)
asks_held-within p kind state at (Again target behind priority) f = each-option behind (λ x. x < length kind.variables) (behind-within kind behind f.1)
asks_held-within p kind state at (Set a b) f = each-none (λ x. x < length kind.variables)
asks_held-within p kind state at (Math a b c d) f = each-none (λ x. x < length kind.variables)
asks_held-within p kind state at (If a b c d) f = each-none (λ x. x < length kind.variables)
asks_held-within p kind state at (Goto a) f = each-none (λ x. x < length kind.variables)
asks_held-within p kind state at (Label a) f = each-none (λ x. x < length kind.variables)
asks_held-within p kind state at (Cell a b c) f = each-none (λ x. x < length kind.variables)
asks_held-within p kind state at (Rows a b) f = each-none (λ x. x < length kind.variables)
asks_held-within p kind state at (Done a) f = each-none (λ x. x < length kind.variables)

-- the same lack, for facts that come to the same
pub lacks-same : (kind : Kind) (xs : List ℕ) (P Q : ℕ → Type 0) → ((x : ℕ) → x < length kind.variables → Q x → P x) → (position : ℕ) (name : List ℕ) → Lacks kind xs P position name → Lacks kind xs Q position name
lacks-same kind xs P Q back position name l =
    (l.0, l.1, l.2, l.3, l.4, λ q. l.5 (back l.0 (slice_get_within kind.variables l.0 l.1 l.3) q))

-- what a list lacks with nothing before it, it lacks
pub lacks-front : (kind : Kind) (xs : List ℕ) (P : ℕ → Type 0) (position : ℕ) (name : List ℕ) → LacksBehind 0 kind xs P position name → Lacks kind xs P position name
lacks-front kind xs P position name l = subst (λ n. Lacks kind xs P n name) (let e : position ≡ 0 + l.0 = l.1 in let s : l.0 ≡ position = omega arith in s) l.2

-- what a list lacks, it lacks with nothing before it
pub front-lacks : (kind : Kind) (xs : List ℕ) (P : ℕ → Type 0) (position : ℕ) (name : List ℕ) → Lacks kind xs P position name → LacksBehind 0 kind xs P position name
front-lacks kind xs P position name l = (position, (let s : position ≡ 0 + position = omega arith in s), l)

-- what is answered at a place is what all ways to it agree in
module _ (n : ℕ) (state : State) (at : ℕ) (answer : Question → Bool) (agreed : Agreed n (Way state at) answer) where
  -- what is answered as held is held on all ways
  pub held-way : (x : ℕ) → x < n → IsTrue (answer (held x)) → Held state at x
  held-way x h yes_it = λ f way. agreed.sound (held x) h yes_it f way

  -- what is held on all ways is answered as held
  pub way-held : (x : ℕ) → x < n → Held state at x → IsTrue (answer (held x))
  way-held x h all_ways = agreed.whole (held x) h all_ways

  -- what is answered as settled is settled on all ways
  pub settled-way : (x : ℕ) → x < n → IsTrue (answer (settled x)) → Settled state at x
  settled-way x h yes_it = λ f way. agreed.sound (settled x) h yes_it f way

  -- what is settled on all ways is answered as settled
  pub way-settled : (x : ℕ) → x < n → Settled state at x → IsTrue (answer (settled x))
  way-settled x h all_ways = agreed.whole (settled x) h all_ways

  -- what is answered as settling will be settled
  pub will-way : (behind : Option ℕ) → IfSome behind (λ g. g < n) → (x : ℕ) → x < n → IsTrue (will_settle answer behind x) → WillSettle state at behind x
  will-way None b x h yes_it = settled-way x h yes_it
  will-way (Some g) b x h yes_it = elim (either (nat_eq x g) (answer (settled x) || answer (member g x)) yes_it) [
    | inl e ↦ inr (inl (sym (eqb-true x g e)))
    | inr s ↦ elim (either (answer (settled x)) (answer (member g x)) s) [
      | inl t ↦ inl (settled-way x h t)
      | inr m ↦ inr (inr (λ f way. agreed.sound (member g x) (b, h) m f way))
    ]
  ]

  -- what will be settled is answered as settling
  pub way-will : (behind : Option ℕ) → IfSome behind (λ g. g < n) → (x : ℕ) → x < n → WillSettle state at behind x → IsTrue (will_settle answer behind x)
  way-will None b x h w = way-settled x h w
  way-will (Some g) b x h (inl s) = or_right (nat_eq x g) (answer (settled x) || answer (member g x)) (rw (way-settled x h s) refl)
  way-will (Some g) b x h (inr (inl e)) = rw (eq-eqb x g (sym e)) refl
  way-will (Some g) b x h (inr (inr m)) = or_right (nat_eq x g) (answer (settled x) || answer (member g x)) (or_right (answer (settled x)) (answer (member g x)) (agreed.whole (member g x) (b, h) m))

-- the same faults, for another test that comes to the same and another name of the list
pub lacking-same : (line : ℕ) (cause : Cause) (front other_front : ℕ) (kind : Kind) (xs ys : List ℕ) (test other : ℕ → Bool) → front ≡ other_front → xs ≡ ys → ((x : ℕ) → test x ≡ other x) → (r : Option Found)
    → IsFirst (LackingFault line cause front kind xs (λ x. IsTrue (test x))) r → IsFirst (LackingFault line cause other_front kind ys (λ x. IsTrue (other x))) r
lacking-same line cause front other_front kind xs ys test other fronts lists tests r first =
    first-same (LackingFault line cause other_front kind ys (λ x. IsTrue (test x))) (LackingFault line cause other_front kind ys (λ x. IsTrue (other x)))
    (λ f m. (m.0, m.1, (m.2.0, m.2.1, lacks-same kind ys (λ x. IsTrue (test x)) (λ x. IsTrue (other x)) (λ x h o. tests x ∙ o) m.2.0 f.name m.2.2)))
    (λ f m. (m.0, m.1, (m.2.0, m.2.1, lacks-same kind ys (λ x. IsTrue (other x)) (λ x. IsTrue (test x)) (λ x h o. sym (tests x) ∙ o) m.2.0 f.name m.2.2)))
    r (subst (λ n. IsFirst (LackingFault line cause n kind ys (λ x. IsTrue (test x))) r) fronts
    (subst (λ zs. IsFirst (LackingFault line cause front kind zs (λ x. IsTrue (test x))) r) lists first))
