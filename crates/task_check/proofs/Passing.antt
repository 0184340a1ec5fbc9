-- What is known before and behind an instruction is brought to the places that it leads to.
use Rattle.std.proofs.Common.{◌≡◌, ℕ, zero, suc, ◌+◌, ◌<◌, ◌≤◌, Bool, true, false, Option, Some, None, List, [], ◌∷◌, length, slice_get, slice_set, length-set, refl, sym, ◌∙◌, ap, subst, ◌⊎◌, inl, inr, arith, vec_len, Result, Ok, Err, IfOk}
use Rattle.std.proofs.lemmas.Bool.{cases_eq}
use Rattle.std.proofs.lemmas.Option.{slice_get_within}
use Rattle.task_syntax.specs.Places.{instr_at}
use Rattle.std.specs.Option.{option_map}
use Rattle.task_syntax.specs.declared.instr.Line.{Line}
use Rattle.task_syntax.specs.Form.{IsFormedState, IsFormedInstr, Leaves, Ends}
use Rattle.task_syntax.specs.Facts.{at_start}
use Rattle.task_syntax.specs.Valid.{Way, JumpsTo}
use Rattle.task_syntax.specs.declared.instr.Instr.{Instr}
use Rattle.task_syntax.specs.declared.instr.Instr.TheVariants.{Set, Math, If, Goto, Label, Cell, Rows, Spawn, All, Copy, Drop, Get, Again, Done}
use Rattle.task_syntax.specs.declared.program.State.{State}
use Rattle.task_syntax.specs.declared.program.Kind.{Kind}
use Rattle.task_syntax.specs.declared.program.Program.{Program}
use Rattle.task_check.specs.declared.known.Known.{Known}
use Rattle.task_check.specs.Known.{Question, IsAbout, says, knows, answer_after, IsWithin}
use Rattle.task_check.specs.Ways.{Agreed, Arrives, at_first, IsArrived, AreArrived, IsJoined, Brings, Passes, GoesOnTo, Takes, AreSized}
use Rattle.task_check.proofs.Agreed.{agreed-same, agreed-one, agreed-after, arrived-same, arrived-kept, arrived-joined, Behind}
use Rattle.task_check.proofs.Places.{OneMore, arrives-more, more-arrives, arrives-none, arrived-way, nothing-way, unreached-here, decided, formed-at, formed-within, jumps-or-not, goes-on-or-not}

-- inside a list something stands
pub some-inside : {X : Type 0} (xs : List X) (at : ℕ) → at < length xs → (x : X) × (slice_get xs at ≡ Some x)
some-inside [] at h = absurd (omega arith)
some-inside (x ∷ xs) zero h = (x, refl)
some-inside (x ∷ xs) (suc at) h = some-inside xs at (omega arith)

-- two facts on a result give a third
pub both-ok : {X E : Type 0} (r : Result X E) (P Q R : X → Type 0) → ((x : X) → P x → Q x → R x) → IfOk r P → IfOk r Q → IfOk r R
both-ok (Ok x) P Q R f p q = f x p q
both-ok (Err e) P Q R f p q = p

-- a target is the place that it names
pub same-target : (target at : ℕ) → Some target ≡ Some at → at ≡ target
same-target target at e = cc

-- no target names no place
pub no-target : (at : ℕ) → None ≡ Some at → ⊥
no-target at e = cc

-- what is known is not nothing
pub not-none : (k : Known) → Some k ≡ None → ⊥
not-none k e = cc

-- false is not true
pub is-false : false ≡ true → ⊥
is-false e = cc

-- what is taken at a place, where another value is left there
set-other : {X : Type 0} (xs : List X) (at to : ℕ) (x : X) → ¬ (to ≡ at) → slice_get (slice_set xs at x) to ≡ slice_get xs to
set-other [] at to x n = refl
set-other (y ∷ ys) zero zero x n = absurd (n refl)
set-other (y ∷ ys) zero (suc to) x n = refl
set-other (y ∷ ys) (suc at) zero x n = refl
set-other (y ∷ ys) (suc at) (suc to) x n = set-other ys at to x (λ e. n (ap suc e))

set-same : {X : Type 0} (xs : List X) (at : ℕ) (x y : X) → slice_get xs at ≡ Some y → slice_get (slice_set xs at x) at ≡ Some x
set-same [] at x y e = cc
set-same (z ∷ zs) zero x y e = refl
set-same (z ∷ zs) (suc at) x y e = set-same zs at x y e

-- what is taken from a place leaves it empty, and the others as they were
pub takes : (n at : ℕ) (xs : List (Option Known)) (here left : Option Known) (k : Known) → left ≡ None → slice_get xs at ≡ Some here → AreSized n xs → ((o : Known) → here ≡ Some o → k ≡ o)
    → (here ≡ None → (vec_len k.members ≡ n) × ((q : Question) → IsAbout n q → knows q k ≡ false)) → Takes n at k xs (slice_set xs at left)
takes n at xs here left k empty stands sized known none = record {
  sized = by here refl;
  was_known = λ o e. known o (same here (Some o) stands e);
  was_none = λ e. (none (same here None stands e)).1;
  long = length-set xs at left;
  emptied = set-same xs at left here stands ∙ ap (λ o. Some o) empty;
  others = λ to other. set-other xs at to left other;
} where
  same : (a b : Option Known) → slice_get xs at ≡ Some a → slice_get xs at ≡ Some b → a ≡ b
  same a b e f = let s : Some a ≡ Some b = sym e ∙ f in cc

  by : (o : Option Known) → here ≡ o → vec_len k.members ≡ n
  by None e = (none e).0
  by (Some o) e = ap (λ (z : Known). vec_len z.members) (known o e) ∙ sized at o (stands ∙ ap (λ z. Some z) e)

-- the same places, and none
pub brings-same : (n : ℕ) (To Also : ℕ → Type 0) (k : Known) (old new : List (Option Known)) → ((at : ℕ) → To at → Also at) → ((at : ℕ) → Also at → To at) → Brings n To k old new → Brings n Also k old new
brings-same n To Also k old new to back b = record {
  long = b.long;
  brought = λ at before slot e f also. b.brought at before slot e f (back at also);
  kept = λ at not_so. b.kept at (λ t. not_so (to at t));
}

-- what is brought to places is brought to the same places
pub passes-same : (n : ℕ) (answer : Question → Bool) (To Also : ℕ → Type 0) (old new : List (Option Known)) → ((at : ℕ) → To at → Also at) → ((at : ℕ) → Also at → To at) → Passes n answer To old new → Passes n answer Also old new
passes-same n answer To Also old new to back p = (p.0, p.1, p.2, brings-same n To Also p.0 old new to back p.3)

-- what is brought nowhere leaves all as it was
pub passes-none : (n : ℕ) (answer : Question → Bool) (To : ℕ → Type 0) (k : Known) (xs : List (Option Known)) → vec_len k.members ≡ n → ((q : Question) → IsAbout n q → knows q k ≡ answer q) → ((at : ℕ) → ¬ To at) → Passes n answer To xs xs
passes-none n answer To k xs sized same none = (
  k,
  sized,
  same,
  record {
    long = refl;
    brought = λ at before slot e f so. absurd (none at so);
    kept = λ at not_so. refl;
  },
)

-- an instruction that leaves changes no answer
pub leaves-same : (instr : Instr) (answer : Question → Bool) (q : Question) → Leaves instr → answer q ≡ answer_after instr answer q
leaves-same (If a b c d) answer q l = absurd l
leaves-same (Goto a) answer q l = refl
leaves-same (Set a b) answer q l = absurd l
leaves-same (Math a b c d) answer q l = absurd l
leaves-same (Label a) answer q l = absurd l
leaves-same (Cell a b c) answer q l = absurd l
leaves-same (Rows a b) answer q l = absurd l
leaves-same (Spawn a b c d e f) answer q l = absurd l
leaves-same (All a b c d) answer q l = absurd l
leaves-same (Copy a b) answer q l = absurd l
leaves-same (Drop a) answer q l = absurd l
leaves-same (Get a b) answer q l = absurd l
leaves-same (Again a b c) answer q l = refl
leaves-same (Done a) answer q l = refl

-- what is brought has its size
pub passes-sized : (n : ℕ) (answer : Question → Bool) (To : ℕ → Type 0) (old new : List (Option Known)) → ((at : ℕ) → To at ⊎ (¬ To at)) → Passes n answer To old new → AreSized n old → AreSized n new
passes-sized n answer To old new decide p sized at o e = elim (decide at) [
  | inl so ↦ by (some-inside old at (let h : at < length new = slice_get_within new at (Some o) e in let l : length new ≡ length old = p.3.long in omega arith)) so
  | inr not_so ↦ sized at o (sym (p.3.kept at not_so) ∙ e)
] where
  size : (before : Option Known) → IsJoined n before p.0 (Some o) → vec_len o.members ≡ n
  size None j = let same : o ≡ p.0 = cc in ap (λ (k : Known). vec_len k.members) same ∙ p.1
  size (Some b) j = let same : o ≡ j.0 = (let s : Some o ≡ Some j.0 = j.1 in cc) in ap (λ (k : Known). vec_len k.members) same ∙ j.2

  by : (before : Option Known) × (slice_get old at ≡ Some before) → To at → vec_len o.members ≡ n
  by (before, here) so = size before (p.3.brought at before (Some o) here e so)

-- what is taken leaves each size
pub takes-sized : (n at : ℕ) (k : Known) (old new : List (Option Known)) → Takes n at k old new → AreSized n old → AreSized n new
takes-sized n at k old new taken sized to o e = elim (cases_eq to at) [
  | inl same ↦ let gone : Some (Some o) ≡ Some None = sym e ∙ (ap (λ i. slice_get new i) same ∙ taken.emptied) in cc
  | inr other ↦ sized to o (sym (taken.others to other) ∙ e)
]

-- one place on
module _ (p : Program) (kind : Kind) (state : State) (formed : IsFormedState p kind state) (at : ℕ) (inside : at < length state.code) where
  -- what is taken at a place is what all ways to it agree in
  pub taken-way : (k : Known) (old new : List (Option Known)) → AreArrived (length kind.variables) state at old → Takes (length kind.variables) at k old new → Agreed (length kind.variables) (Way state at) (λ q. knows q k)
  taken-way k old new arrived taken = by (some-inside old at (let l : length old ≡ length state.code = arrived.long in omega arith)) where
    slots : (slot : Option Known) → slice_get old at ≡ Some slot → IsArrived (length kind.variables) (Arrives state at at) slot → Agreed (length kind.variables) (Way state at) (λ q. knows q k)
    slots None here none = nothing-way p kind state formed at (λ q. knows q k)
        (unreached-here p kind state formed at inside (λ b h. decided p kind state formed b (omega arith)) none) none (taken.was_none here)
    slots (Some o) here some = subst (λ (z : Known). Agreed (length kind.variables) (Way state at) (λ q. knows q z)) (sym (taken.was_known o here))
        (arrived-way p kind state formed at (λ q. knows q o) some.1)

    by : (slot : Option Known) × (slice_get old at ≡ Some slot) → Agreed (length kind.variables) (Way state at) (λ q. knows q k)
    by (slot, here) = slots slot here (arrived.each at slot (omega arith) here)

  -- after one more line each later place keeps what arrives there
  pub arrived-next : (instr : Instr) → instr_at state at ≡ Some instr → (k : Known) (old took jumped new : List (Option Known))
      → AreArrived (length kind.variables) state at old → Takes (length kind.variables) at k old took → Passes (length kind.variables) (λ q. knows q k) (JumpsTo instr) took jumped
      → Passes (length kind.variables) (answer_after instr (λ q. knows q k)) (GoesOnTo instr at) jumped new → AreArrived (length kind.variables) state (at + 1) new
  arrived-next instr stands k old took jumped new arrived taken leaps goes = record {
    long = goes.3.long ∙ (leaps.3.long ∙ (taken.long ∙ arrived.long));
    sized = passes-sized (length kind.variables) (answer_after instr (λ q. knows q k)) (GoesOnTo instr at) jumped new (λ to. goes-on-or-not instr at to) goes
        (passes-sized (length kind.variables) (λ q. knows q k) (JumpsTo instr) took jumped (λ to. jumps-or-not instr to) leaps (takes-sized (length kind.variables) at k old took taken arrived.sized));
    each = λ to slot ahead here. by to slot ahead here
        (some-inside jumped to (let h : to < length new = slice_get_within new to slot here in let l : length new ≡ length jumped = goes.3.long in omega arith));
  } where
    agreed : Agreed (length kind.variables) (Way state at) (λ q. knows q k)
    agreed = taken-way k old took arrived taken

    within : IsWithin (length kind.variables) instr
    within = formed-within p kind state at instr (formed-at p kind state formed at instr stands)

    leapt : (to : ℕ) (before slot : Option Known) → slice_get took to ≡ Some before → slice_get jumped to ≡ Some slot → IsArrived (length kind.variables) (Arrives state at to) before
        → IsArrived (length kind.variables) (λ f. Arrives state at to f ⊎ (JumpsTo instr to × Way state at f)) slot
    leapt to before slot was here a = elim (jumps-or-not instr to) [
      | inl so ↦ arrived-joined (length kind.variables) (Arrives state at to) (Way state at) (JumpsTo instr to) so leaps.0 leaps.1
          (agreed-same (length kind.variables) (Way state at) (Way state at) (λ q. knows q k) (λ q. knows q leaps.0) (λ f w. w) (λ f w. w) leaps.2 agreed)
          before slot a (leaps.3.brought to before slot was here so)
      | inr not_so ↦ arrived-kept (length kind.variables) (Arrives state at to) (Way state at) (JumpsTo instr to) not_so slot
          (subst (IsArrived (length kind.variables) (Arrives state at to)) (let s : Some before ≡ Some slot = sym was ∙ (sym (leaps.3.kept to not_so) ∙ here) in cc) a)
    ]

    gone : (to : ℕ) (before slot : Option Known) → slice_get jumped to ≡ Some before → slice_get new to ≡ Some slot
        → IsArrived (length kind.variables) (λ f. Arrives state at to f ⊎ (JumpsTo instr to × Way state at f)) before → IsArrived (length kind.variables) (OneMore state at instr to) slot
    gone to before slot was here a = elim (goes-on-or-not instr at to) [
      | inl so ↦ arrived-joined (length kind.variables) (λ f. Arrives state at to f ⊎ (JumpsTo instr to × Way state at f)) (Behind instr (Way state at)) (GoesOnTo instr at to) so goes.0 goes.1
          (agreed-after (length kind.variables) (Way state at) (λ q. knows q k) (λ q. knows q goes.0) instr within goes.2 agreed)
          before slot a (goes.3.brought to before slot was here so)
      | inr not_so ↦ arrived-kept (length kind.variables) (λ f. Arrives state at to f ⊎ (JumpsTo instr to × Way state at f)) (Behind instr (Way state at)) (GoesOnTo instr at to) not_so slot
          (subst (IsArrived (length kind.variables) (λ f. Arrives state at to f ⊎ (JumpsTo instr to × Way state at f))) (let s : Some before ≡ Some slot = sym was ∙ (sym (goes.3.kept to not_so) ∙ here) in cc) a)
    ]

    through : (to : ℕ) (slot middle : Option Known) → at + 1 ≤ to → slice_get new to ≡ Some slot → slice_get jumped to ≡ Some middle
        → (first : Option Known) × (slice_get took to ≡ Some first) → IsArrived (length kind.variables) (Arrives state (at + 1) to) slot
    through to slot middle ahead here between (first, was) =
        let before : slice_get old to ≡ Some first = sym (taken.others to (λ e. absurd (omega arith))) ∙ was in
        arrived-same (length kind.variables) (OneMore state at instr to) (Arrives state (at + 1) to)
        (λ f m. more-arrives state at instr stands to f m) (λ f a. arrives-more state at instr stands to f a) slot
        (gone to middle slot between here (leapt to first middle was between (arrived.each to first (omega arith) before)))

    by : (to : ℕ) (slot : Option Known) → at + 1 ≤ to → slice_get new to ≡ Some slot → (middle : Option Known) × (slice_get jumped to ≡ Some middle) → IsArrived (length kind.variables) (Arrives state (at + 1) to) slot
    by to slot ahead here (middle, between) = through to slot middle ahead here between
        (some-inside took to (let h : to < length jumped = slice_get_within jumped to middle between in let l : length jumped ≡ length took = leaps.3.long in omega arith))

-- at first the start alone arrives
pub arrived-first : (n : ℕ) (state : State) (k : Known) (old new : List (Option Known)) → length old ≡ length state.code → ((at : ℕ) (slot : Option Known) → slice_get old at ≡ Some slot → slot ≡ None)
    → vec_len k.members ≡ n → ((q : Question) → IsAbout n q → knows q k ≡ says q (at_start state)) → Brings n (λ at. at ≡ 0) k old new → AreArrived n state 0 new
arrived-first n state k old new long none sized same brings = record {
  long = brings.long ∙ long;
  sized = λ at o e. size at o e (cases_eq at 0) (some-inside old at (let w : at < length new = slice_get_within new at (Some o) e in let l : length new ≡ length old = brings.long in omega arith));
  each = λ at slot h here. by at slot here (some-inside old at (let w : at < length new = slice_get_within new at slot here in let l : length new ≡ length old = brings.long in omega arith)) (cases_eq at 0);
} where
  size : (at : ℕ) (o : Known) → slice_get new at ≡ Some (Some o) → (at ≡ 0) ⊎ (¬ (at ≡ 0)) → (before : Option Known) × (slice_get old at ≡ Some before) → vec_len o.members ≡ n
  size at o e (inl first) (before, was) =
      let joined : IsJoined n None k (Some o) = subst (λ z. IsJoined n z k (Some o)) (none at before was) (brings.brought at before (Some o) was e first) in
      let same : o ≡ k = cc in ap (λ (z : Known). vec_len z.members) same ∙ sized
  size at o e (inr later) (before, was) =
      let gone : Some (Some o) ≡ Some before = sym e ∙ (brings.kept at later ∙ was) in
      let empty : before ≡ None = none at before was in cc

  by : (at : ℕ) (slot : Option Known) → slice_get new at ≡ Some slot → (before : Option Known) × (slice_get old at ≡ Some before) → (at ≡ 0) ⊎ (¬ (at ≡ 0)) → IsArrived n (Arrives state 0 at) slot
  by at slot here (before, was) (inl e) =
      let joined : IsJoined n None k slot = subst (λ o. IsJoined n o k slot) (none at before was) (brings.brought at before slot was here e) in
      subst (IsArrived n (Arrives state 0 at)) (sym joined) (
        sized,
        agreed-same n (λ f. f ≡ at_start state) (Arrives state 0 at) (λ q. knows q k) (λ q. knows q k)
            (λ f s. subst (λ z. Arrives state 0 z f) (sym e) (subst (λ z. Arrives state 0 0 z) (sym s) at_first))
            (λ f a. (arrives-none state at f a).1) (λ q about. refl) (agreed-one n (at_start state) (λ q. knows q k) same),
      )
  by at slot here (before, was) (inr not_first) =
      let gone : slot ≡ None = (let s : Some slot ≡ Some before = sym here ∙ (brings.kept at not_first ∙ was) in let b : before ≡ None = none at before was in cc) in
      subst (IsArrived n (Arrives state 0 at)) (sym gone) (λ f a. not_first (arrives-none state at f a).0)

-- where a line leads is in the code
instr-inside : (lines : List Line) (at : ℕ) (instr : Instr) → option_map (λ (l : Line). l.instr) (slice_get lines at) ≡ Some instr → at < length lines
instr-inside [] at instr e = cc
instr-inside (l ∷ lines) zero instr e = omega arith
instr-inside (l ∷ lines) (suc at) instr e = let h : at < length lines = instr-inside lines at instr e in omega arith

-- a jump leads to a place of the state
pub jump-inside : (p : Program) (kind : Kind) (state : State) (at : ℕ) (instr : Instr) (to : ℕ) → IsFormedInstr p kind state at instr → JumpsTo instr to → to < length state.code
jump-inside p kind state at (If relation left right target) to formed j = subst (λ t. t < length state.code) j (instr-inside state.code target formed.2.1.0 formed.2.1.1)
jump-inside p kind state at (Goto target) to formed j = subst (λ t. t < length state.code) j (instr-inside state.code target formed.1.0 formed.1.1)
jump-inside p kind state at (Set a b) to formed j = absurd j
jump-inside p kind state at (Math a b c d) to formed j = absurd j
jump-inside p kind state at (Label a) to formed j = absurd j
jump-inside p kind state at (Cell a b c) to formed j = absurd j
jump-inside p kind state at (Rows a b) to formed j = absurd j
jump-inside p kind state at (Spawn a b c d e f) to formed j = absurd j
jump-inside p kind state at (All a b c d) to formed j = absurd j
jump-inside p kind state at (Copy a b) to formed j = absurd j
jump-inside p kind state at (Drop a) to formed j = absurd j
jump-inside p kind state at (Get a b) to formed j = absurd j
jump-inside p kind state at (Again a b c) to formed j = absurd j
jump-inside p kind state at (Done a) to formed j = absurd j

ends-leaves : (instr : Instr) → Ends instr → Leaves instr
ends-leaves (Again a b c) e = tt
ends-leaves (Done a) e = tt
ends-leaves (Goto a) e = tt
ends-leaves (If a b c d) e = absurd e
ends-leaves (Set a b) e = absurd e
ends-leaves (Math a b c d) e = absurd e
ends-leaves (Label a) e = absurd e
ends-leaves (Cell a b c) e = absurd e
ends-leaves (Rows a b) e = absurd e
ends-leaves (Spawn a b c d e f) h = absurd h
ends-leaves (All a b c d) e = absurd e
ends-leaves (Copy a b) e = absurd e
ends-leaves (Drop a) e = absurd e
ends-leaves (Get a b) e = absurd e

-- a line that goes on has a next line
pub next-inside : (p : Program) (kind : Kind) (state : State) → IsFormedState p kind state → (at : ℕ) (instr : Instr) → instr_at state at ≡ Some instr → at < length state.code → ¬ Leaves instr → at + 1 < length state.code
next-inside p kind state formed at instr stands inside goes = elim (cases_eq at formed.ends.0) [
  | inl e ↦ absurd (goes (ends-leaves instr (subst Ends (let s : Some formed.ends.1 ≡ Some instr = sym formed.ends.3 ∙ subst (λ k. instr_at state k ≡ Some instr) e stands in cc) formed.ends.4)))
  | inr n ↦ let l : length state.code ≡ formed.ends.0 + 1 = formed.ends.2 in omega arith
]
