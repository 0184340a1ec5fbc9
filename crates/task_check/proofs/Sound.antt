-- A program has no fault exactly where it is valid.
use Rattle.std.proofs.Common.{◌≡◌, ℕ, zero, suc, ◌+◌, ◌<◌, ◌≤◌, Bool, true, false, ◌||◌, Option, Some, None, List, [], ◌∷◌, length, slice_get, refl, sym, ◌∙◌, ap, subst, inl, inr, arith, IfSome, IsTrue}
use Rattle.std.specs.Option.{option_map, option_to_list}
use Rattle.std.proofs.lemmas.Bool.{cases_eq, cases_lt}
use Rattle.std.proofs.lemmas.Option.{slice_get_within}
use Rattle.task_syntax.proofs.Bools.{has-first, has-rest}
use Rattle.task_syntax.specs.Places.{Each, instr_at}
use Rattle.task_syntax.specs.Form.{IsWellFormed, IsFormedKind, IsFormedInstr}
use Rattle.task_syntax.specs.Facts.{has}
use Rattle.task_syntax.specs.Valid.{Held, Settled, WillSettle, Agrees, HeldArgument, WillSettleArgument, IsSoundInstr, IsBehind, IsValid, sort_of, sort_of_root}
use Rattle.task_syntax.specs.declared.program.Sort.{Sort}
use Rattle.task_syntax.specs.declared.program.Sort.TheVariants.{Number, Future}
use Rattle.task_syntax.specs.declared.instr.Argument.{Argument}
use Rattle.task_syntax.specs.declared.instr.Argument.TheVariants as argument
use Rattle.task_syntax.specs.declared.program.RootArgument.{RootArgument}
use Rattle.task_syntax.specs.declared.program.RootArgument.TheVariants as root_argument
use Rattle.task_syntax.specs.declared.instr.Instr.{Instr}
use Rattle.task_syntax.specs.declared.instr.Instr.TheVariants.{Set, Math, If, Goto, Label, Cell, Rows, Spawn, All, Copy, Drop, Get, Again, Done}
use Rattle.task_syntax.specs.declared.instr.Line.{Line}
use Rattle.task_syntax.specs.declared.program.State.{State}
use Rattle.task_syntax.specs.declared.program.Kind.{Kind}
use Rattle.task_syntax.specs.declared.program.Program.{Program}
use Rattle.task_check.specs.declared.fault.Cause.{Cause}
use Rattle.task_check.specs.declared.fault.Cause.TheVariants.{FrameTooLarge, BadCount, NotHeld, NotSettled, StateNeeds}
use Rattle.task_check.specs.declared.fault.Found.{Found}
use Rattle.task_check.specs.Asks.{future_in, root_in, passed, passed_settled, asks_held, asks_settled}
use Rattle.task_check.specs.Known.{will_settle}
use Rattle.task_check.specs.Faults.{Lacks, IsMisfit, LacksForState, HasCause, RootHasCause, HasFault}
use Rattle.task_check.proofs.Masks.{not_eq}
use Rattle.task_check.proofs.Places.{future-within, formed-at, line-at, decided, Decided}
use Rattle.task_check.proofs.Passing.{some-inside}
use Rattle.task_check.proofs.Lacks.{same-some, each-append, append-left, append-right, each-option, option-each, passed-each, each-passed, argument-within, behind-within, asks_held-within, will-way, way-will}
use Rattle.task_check.proofs.RootFaults.{root-within}

-- what is not false holds, for facts that can be decided
stable-true : (b : Bool) → ¬ (¬ (b ≡ true)) → b ≡ true
stable-true true h = refl
stable-true false h = absurd (h (λ e. (let c : true ≡ false = sym e in cc)))

stable-number : (a b : ℕ) → ¬ (¬ (a ≡ b)) → a ≡ b
stable-number a b h = elim (cases_eq a b) [ inl e ↦ e | inr n ↦ absurd (h n) ]

stable-less : (a b : ℕ) → ¬ (¬ (a < b)) → a < b
stable-less a b h = elim (cases_lt a b) [ inl l ↦ l | inr g ↦ absurd (h (λ l. (let x : a < b = l in let y : b ≤ a = g in omega arith))) ]

stable-sort : (s t : Sort) → ¬ (¬ (s ≡ t)) → s ≡ t
stable-sort Number Number h = refl
stable-sort Number Future h = absurd (h (λ e. cc))
stable-sort Future Number h = absurd (h (λ e. cc))
stable-sort Future Future h = refl

stable-option : (o : Option ℕ) (r : ℕ) → ¬ (¬ (o ≡ Some r)) → o ≡ Some r
stable-option None r h = absurd (h (λ e. cc))
stable-option (Some x) r h = ap (λ n. Some n) (stable-number x r (λ n. h (λ e. n (same-some (Some x) x r refl e))))

stable-agrees : {A : Type 0} (sort_by : A → Sort) (k : Kind) (arguments : List A) → ¬ (¬ Agrees sort_by k arguments) → Agrees sort_by k arguments
stable-agrees sort_by k arguments h = (
  stable-number (length arguments) k.arguments (λ n. h (λ a. n a.0)),
  λ at a v e f. stable-sort v.sort (sort_by a) (λ n. h (λ g. n (g.1 at a v e f))),
)

stable-held : (state : State) (at x : ℕ) → ¬ (¬ Held state at x) → Held state at x
stable-held state at x h = λ f way. stable-true (has x f.held) (λ n. h (λ g. n (g f way)))

stable-settled : (state : State) (at x : ℕ) → ¬ (¬ Settled state at x) → Settled state at x
stable-settled state at x h = λ f way. stable-true (has x f.settled) (λ n. h (λ g. n (g f way)))

stable-will : (n : ℕ) (state : State) (at : ℕ) → Decided n state at → (behind : Option ℕ) → IfSome behind (λ g. g < n) → (x : ℕ) → x < n → ¬ (¬ WillSettle state at behind x) → WillSettle state at behind x
stable-will n state at d behind b x h k =
    will-way n state at d.0 d.1 behind b x h (stable-true (will_settle d.0 behind x) (λ no_will. k (λ w. no_will (way-will n state at d.0 d.1 behind b x h w))))

-- a list that lacks nothing, and one that lacks something
unlacked : (kind : Kind) (xs : List ℕ) (P : ℕ → Type 0) → Each xs (λ x. x < length kind.variables) → ((x : ℕ) → x < length kind.variables → ¬ (¬ P x) → P x)
    → ((position : ℕ) (name : List ℕ) → ¬ Lacks kind xs P position name) → Each xs P
unlacked kind xs P within stable none i x e = stable x (within i x e) (λ no_p.
    let v = some-inside kind.variables x (within i x e) in
    none i v.0.name (x, v.0, e, v.1, refl, no_p))

lacks-absurd : (kind : Kind) (xs : List ℕ) (P : ℕ → Type 0) (position : ℕ) (name : List ℕ) → Each xs P → Lacks kind xs P position name → ⊥
lacks-absurd kind xs P position name each l = l.5 (each position l.0 l.2)

-- what stands in a list is in it
pub at-has : (xs : List ℕ) (j x : ℕ) → slice_get xs j ≡ Some x → has x xs ≡ true
at-has [] j x e = cc
at-has (y ∷ ys) zero x e = has-first x y ys (sym (same-some (Some y) y x refl e))
at-has (y ∷ ys) (suc j) x e = has-rest x y ys (at-has ys j x e)

-- what is in a list stands somewhere
pub has-at : (xs : List ℕ) (x : ℕ) → has x xs ≡ true → (j : ℕ) × (slice_get xs j ≡ Some x)
has-at [] x h = cc
has-at (y ∷ ys) x h = elim (cases_eq x y) [
  | inl e ↦ (zero, ap (λ n. Some n) (sym e))
  | inr n ↦ let r = has-at ys x (sym (ap (λ b. b || has x ys) (not_eq x y n)) ∙ h) in (suc r.0, r.1)
]

-- what is passed for settled arguments, argument by argument
pub settled-each : {A : Type 0} (future_of : A → Option ℕ) (settled : List ℕ) (arguments : List A) (P : ℕ → Type 0) → Each settled (λ x. (a : A) → slice_get arguments x ≡ Some a → IfSome (future_of a) P) → Each (passed_settled future_of settled arguments) P
settled-each future_of settled arguments P h = passed-each future_of (λ at. has at settled) P 0 arguments (λ i a e picked.
    let j = has-at settled (0 + i) picked in
    h j.0 i (subst (λ n. slice_get settled j.0 ≡ Some n) (let s : 0 + i ≡ i = omega arith in s) j.1) a e)

each-settled : {A : Type 0} (future_of : A → Option ℕ) (settled : List ℕ) (arguments : List A) (P : ℕ → Type 0) → Each (passed_settled future_of settled arguments) P → Each settled (λ x. (a : A) → slice_get arguments x ≡ Some a → IfSome (future_of a) P)
each-settled future_of settled arguments P h j x e a f = each-passed future_of (λ at. has at settled) P 0 arguments h x a f
    (subst (λ n. has n settled ≡ true) (let s : x ≡ 0 + x = omega arith in s) (at-has settled j x e))

-- what a sound instruction asks for is there
held-argument : (state : State) (at : ℕ) (a : Argument) → HeldArgument state at a → IfSome (future_in a) (Held state at)
held-argument state at (argument.Number n) h = tt
held-argument state at (argument.Future x) h = h

argument-held : (state : State) (at : ℕ) (a : Argument) → IfSome (future_in a) (Held state at) → HeldArgument state at a
argument-held state at (argument.Number n) h = tt
argument-held state at (argument.Future x) h = h

will-argument : (state : State) (at : ℕ) (behind : Option ℕ) (a : Argument) → WillSettleArgument state at behind a → IfSome (future_in a) (WillSettle state at behind)
will-argument state at behind (argument.Number n) h = tt
will-argument state at behind (argument.Future x) h = h

argument-will : (state : State) (at : ℕ) (behind : Option ℕ) (a : Argument) → IfSome (future_in a) (WillSettle state at behind) → WillSettleArgument state at behind a
argument-will state at behind (argument.Number n) h = tt
argument-will state at behind (argument.Future x) h = h

root-behind : (behind : Option ℕ) (a : RootArgument) → IsBehind behind a → IfSome (root_in a) (λ r. behind ≡ Some r)
root-behind behind (root_argument.Number n) h = tt
root-behind behind (root_argument.Root r) h = h

behind-root : (behind : Option ℕ) (a : RootArgument) → IfSome (root_in a) (λ r. behind ≡ Some r) → IsBehind behind a
behind-root behind (root_argument.Number n) h = tt
behind-root behind (root_argument.Root r) h = h

nothing-asked : (P : ℕ → Type 0) → Each [] P
nothing-asked P i x e = cc

one-asked : (y : ℕ) (P : ℕ → Type 0) → P y → Each (y ∷ []) P
one-asked y P h = each-option (Some y) P h

module _ (p : Program) (kind : Kind) (state : State) (at : ℕ) where
  -- what a sound instruction asks to be held is held
  pub sound-held : (instr : Instr) → IsFormedInstr p kind state at instr → IsSoundInstr p kind state at instr → Each (asks_held instr) (Held state at)
  sound-held (Spawn to callee arguments behind priority retry) f s =
      let k = some-inside p.kinds callee f.1 in
      let sound = s k.0 k.1 in
      each-append (passed future_in (λ n. true) 0 arguments) (option_to_list behind) (Held state at)
      (passed-each future_in (λ n. true) (Held state at) 0 arguments (λ i a e so. held-argument state at a (sound.held i a e)))
      (each-option behind (Held state at) sound.behind_held)
  sound-held (All to members priority retry) f s = s
  sound-held (Copy to source) f s = one-asked source (Held state at) s
  sound-held (Drop future) f s = one-asked future (Held state at) s
  sound-held (Get to future) f s = one-asked future (Held state at) s.0
  sound-held (Again target behind priority) f s =
      let next = some-inside kind.states target f.0 in
      each-option behind (Held state at) (s next.0 next.1).behind_held
  sound-held (Set a b) f s = nothing-asked (Held state at)
  sound-held (Math a b c d) f s = nothing-asked (Held state at)
  sound-held (If a b c d) f s = nothing-asked (Held state at)
  sound-held (Goto a) f s = nothing-asked (Held state at)
  sound-held (Label a) f s = nothing-asked (Held state at)
  sound-held (Cell a b c) f s = nothing-asked (Held state at)
  sound-held (Rows a b) f s = nothing-asked (Held state at)
  sound-held (Done a) f s = nothing-asked (Held state at)

  -- what a sound instruction asks to be settled is settled
  pub sound-settled : (instr : Instr) → IsSoundInstr p kind state at instr → Each (asks_settled instr) (Settled state at)
  sound-settled (Get to future) s = one-asked future (Settled state at) s.1
  sound-settled (Spawn a b c d e f) s = nothing-asked (Settled state at)
  sound-settled (All a b c d) s = nothing-asked (Settled state at)
  sound-settled (Copy a b) s = nothing-asked (Settled state at)
  sound-settled (Drop a) s = nothing-asked (Settled state at)
  sound-settled (Again a b c) s = nothing-asked (Settled state at)
  sound-settled (Set a b) s = nothing-asked (Settled state at)
  sound-settled (Math a b c d) s = nothing-asked (Settled state at)
  sound-settled (If a b c d) s = nothing-asked (Settled state at)
  sound-settled (Goto a) s = nothing-asked (Settled state at)
  sound-settled (Label a) s = nothing-asked (Settled state at)
  sound-settled (Cell a b c) s = nothing-asked (Settled state at)
  sound-settled (Rows a b) s = nothing-asked (Settled state at)
  sound-settled (Done a) s = nothing-asked (Settled state at)

  sound-fits : (instr : Instr) (name : List ℕ) → IsSoundInstr p kind state at instr → IsMisfit p instr name → ⊥
  sound-fits (Spawn to callee arguments behind priority retry) name s m = m.3 (s m.0 m.1).agrees
  sound-fits (All a b c d) name s m = m
  sound-fits (Copy a b) name s m = m
  sound-fits (Drop a) name s m = m
  sound-fits (Get a b) name s m = m
  sound-fits (Again a b c) name s m = m
  sound-fits (Set a b) name s m = m
  sound-fits (Math a b c d) name s m = m
  sound-fits (If a b c d) name s m = m
  sound-fits (Goto a) name s m = m
  sound-fits (Label a) name s m = m
  sound-fits (Cell a b c) name s m = m
  sound-fits (Rows a b) name s m = m
  sound-fits (Done a) name s m = m

  sound-needs : (instr : Instr) (position : ℕ) (name : List ℕ) → IsSoundInstr p kind state at instr → LacksForState p kind state at instr position name → ⊥
  sound-needs (Spawn to callee arguments behind priority retry) position name s m =
      lacks-absurd kind (passed_settled future_in m.1.settled arguments) (WillSettle state at behind) position name
      (settled-each future_in m.1.settled arguments (WillSettle state at behind) (λ j x e a f. will-argument state at behind a ((s m.0 m.2).settled m.1 m.3 j x e a f))) m.4
  sound-needs (Again target behind priority) position name s m = elim m.2 [
    | inl l ↦ lacks-absurd kind m.0.holds (Held state at) position name (s m.0 m.1).held l
    | inr l ↦ lacks-absurd kind m.0.settled (WillSettle state at behind) l.0 name (s m.0 m.1).settled l.2
  ]
  sound-needs (All a b c d) position name s m = m
  sound-needs (Copy a b) position name s m = m
  sound-needs (Drop a) position name s m = m
  sound-needs (Get a b) position name s m = m
  sound-needs (Set a b) position name s m = m
  sound-needs (Math a b c d) position name s m = m
  sound-needs (If a b c d) position name s m = m
  sound-needs (Goto a) position name s m = m
  sound-needs (Label a) position name s m = m
  sound-needs (Cell a b c) position name s m = m
  sound-needs (Rows a b) position name s m = m
  sound-needs (Done a) position name s m = m

  sound-cause : (instr : Instr) → IsFormedInstr p kind state at instr → IsSoundInstr p kind state at instr → (c : Cause) (position : ℕ) (name : List ℕ) → HasCause p kind state at instr c position name → ⊥
  sound-cause instr f s FrameTooLarge position name h = h
  sound-cause instr f s BadCount position name h = sound-fits instr name s h.1
  sound-cause instr f s NotHeld position name h = lacks-absurd kind (asks_held instr) (Held state at) position name (sound-held instr f s) h
  sound-cause instr f s NotSettled position name h = lacks-absurd kind (asks_settled instr) (Settled state at) position name (sound-settled instr s) h
  sound-cause instr f s StateNeeds position name h = sound-needs instr position name s h

  -- an instruction without a fault is sound
  fits-sound : (k : Kind) (arguments : List Argument) → ¬ (¬ Agrees sort_of k arguments) → Agrees sort_of k arguments
  fits-sound k arguments h = stable-agrees sort_of k arguments h

  all-held : (instr : Instr) → IsFormedInstr p kind state at instr → ((position : ℕ) (name : List ℕ) → ¬ Lacks kind (asks_held instr) (Held state at) position name) → Each (asks_held instr) (Held state at)
  all-held instr f none = unlacked kind (asks_held instr) (Held state at) (asks_held-within p kind state at instr f) (λ x h n. stable-held state at x n) none

  -- an instruction with no cause of a fault is sound
  pub causeless-sound : Decided (length kind.variables) state at → IsFormedKind p kind → (instr : Instr) → IsFormedInstr p kind state at instr → ((c : Cause) (position : ℕ) (name : List ℕ) → ¬ HasCause p kind state at instr c position name) → IsSoundInstr p kind state at instr
  causeless-sound d fk (Spawn to callee arguments behind priority retry) f none = λ k e.
      let each : Each (asks_held (Spawn to callee arguments behind priority retry)) (Held state at) = all-held (Spawn to callee arguments behind priority retry) f (none NotHeld) in
      let b = behind-within kind behind f.4 in
      record {
        agrees = fits-sound k arguments (λ n. none BadCount 0 k.name (refl, (k, e, refl, n)));
        held = λ i a g. argument-held state at a (each-passed future_in (λ n. true) (Held state at) 0 arguments (append-left (passed future_in (λ n. true) 0 arguments) (option_to_list behind) (Held state at) each) i a g refl);
        behind_held = option-each behind (Held state at) (append-right (passed future_in (λ n. true) 0 arguments) (option_to_list behind) (Held state at) each);
        settled = λ entry starts j x g a h. argument-will state at behind a (each-settled future_in entry.settled arguments (WillSettle state at behind)
            (unlacked kind (passed_settled future_in entry.settled arguments) (WillSettle state at behind)
            (passed-each future_in (λ n. has n entry.settled) (λ y. y < length kind.variables) 0 arguments (λ i c m so. argument-within kind c (f.3 i c m)))
            (λ y w n. stable-will (length kind.variables) state at d behind b y w n)
            (λ position name l. none StateNeeds position name (k, entry, e, starts, l))) j x g a h);
      }
  causeless-sound d fk (All to members priority retry) f none = all-held (All to members priority retry) f (none NotHeld)
  causeless-sound d fk (Copy to source) f none = all-held (Copy to source) f (none NotHeld) 0 source refl
  causeless-sound d fk (Drop future) f none = all-held (Drop future) f (none NotHeld) 0 future refl
  causeless-sound d fk (Get to future) f none = (
    all-held (Get to future) f (none NotHeld) 0 future refl,
    unlacked kind (future ∷ []) (Settled state at) (one-asked future (λ x. x < length kind.variables) (future-within kind future f.1)) (λ x h n. stable-settled state at x n) (none NotSettled) 0 future refl,
  )
  causeless-sound d fk (Again target behind priority) f none = λ next e.
      let formed = fk.states target next e in
      let b = behind-within kind behind f.1 in
      record {
        behind_held = option-each behind (Held state at) (all-held (Again target behind priority) f (none NotHeld));
        held = unlacked kind next.holds (Held state at) (λ i x g. future-within kind x (formed.holds i x g)) (λ x h n. stable-held state at x n) (λ position name l. none StateNeeds position name (next, e, inl l));
        settled = unlacked kind next.settled (WillSettle state at behind) (λ i x g. future-within kind x (formed.settled i x g)) (λ x w n. stable-will (length kind.variables) state at d behind b x w n)
            (λ i name l. none StateNeeds (length next.holds + i) name (next, e, inr (i, refl, l)));
      }
  causeless-sound d fk (Set a b) f none = tt
  causeless-sound d fk (Math a b c e) f none = tt
  causeless-sound d fk (If a b c e) f none = tt
  causeless-sound d fk (Goto a) f none = tt
  causeless-sound d fk (Label a) f none = tt
  causeless-sound d fk (Cell a b c) f none = tt
  causeless-sound d fk (Rows a b) f none = tt
  causeless-sound d fk (Done a) f none = tt

instr-of : (state : State) (at : ℕ) (line : Line) → slice_get state.code at ≡ Some line → instr_at state at ≡ Some line.instr
instr-of state at line e = ap (λ o. option_map (λ (l : Line). l.instr) o) e

-- a valid program has no fault
pub valid-faultless : (p : Program) → IsWellFormed p → IsValid p → (f : Found) → ¬ HasFault p f
valid-faultless p formed valid f (inl (i, kind, stands, inl size)) = let few : length kind.variables ≤ 63 = (valid.kinds i kind stands).few_variables in let many : 63 < length kind.variables = size.4 in absurd (omega arith)
valid-faultless p formed valid f (inl (i, kind, stands, inr (place, state, here, inl (l, c, inl (entry, lacks))))) =
    lacks-absurd kind state.holds (λ x. x < kind.arguments) f.position f.name ((valid.kinds i kind stands).entry state (subst (λ n. slice_get kind.states n ≡ Some state) entry here)) lacks
valid-faultless p formed valid f (inl (i, kind, stands, inr (place, state, here, inl (l, c, inr (j, e, lacks))))) =
    lacks-absurd kind state.settled (λ x. IsTrue (has x state.holds)) j f.name ((valid.kinds i kind stands).states place state here).settled_held lacks
valid-faultless p formed valid f (inl (i, kind, stands, inr (place, state, here, inr (at, line, code, (l, cause))))) =
    sound-cause p kind state at line.instr (((formed.kinds i kind stands).states place state here).instrs at line code)
    (((valid.kinds i kind stands).states place state here).instrs at line.instr (instr-of state at line code)) f.cause f.position f.name cause
valid-faultless p formed valid f (inr (i, root, stands, (l, cause))) = by f.cause cause where
  by : (c : Cause) → RootHasCause p root c f.position f.name → ⊥
  by FrameTooLarge h = h
  by BadCount h = h.1.3 ((valid.roots i root stands).agrees h.1.0 h.1.1)
  by NotHeld h = h
  by NotSettled h = h
  by StateNeeds h = h.4.5 (settled-each root_in h.1.settled root.arguments (λ r. root.behind ≡ Some r)
      (λ j x e a g. root-behind root.behind a ((valid.roots i root stands).settled h.0 h.2 h.1 h.3 j x e a g)) f.position h.4.0 h.4.2)

-- a program without a fault is valid
pub faultless-valid : (p : Program) → IsWellFormed p → ((f : Found) → ¬ HasFault p f) → IsValid p
faultless-valid p formed none = record {
  kinds = λ i kind stands.
      let fk = formed.kinds i kind stands in
      record {
        few_variables = few (length kind.variables) (λ many. none (record { line = kind.line; cause = FrameTooLarge; position = 0; name = kind.name }) (inl (i, kind, stands, inl (refl, refl, refl, refl, many))));
        entry = λ first here. unlacked kind first.holds (λ x. x < kind.arguments) (λ j x e. future-within kind x ((fk.states 0 first here).holds j x e)) (λ x h n. stable-less x kind.arguments n)
            (λ position name l. none (record { line = first.line; cause = NotHeld; position = position; name = name }) (inl (i, kind, stands, inr (0, first, here, inl (refl, refl, inl (refl, l))))));
        states = λ place state here. record {
          settled_held = unlacked kind state.settled (λ x. IsTrue (has x state.holds)) (λ j x e. future-within kind x ((fk.states place state here).settled j x e)) (λ x h n. stable-true (has x state.holds) n)
              (λ j name l. none (record { line = state.line; cause = NotHeld; position = length state.holds + j; name = name }) (inl (i, kind, stands, inr (place, state, here, inl (refl, refl, inr (j, refl, l))))));
          instrs = λ at instr there.
              let l = line-at state.code at instr there in
              let formed_line = formed-at p kind state (fk.states place state here) at instr there in
              causeless-sound p kind state at (decided p kind state (fk.states place state here) at (slice_get_within state.code at l.0 l.1)) fk instr formed_line
              (λ c position name h. none (record { line = l.0.line; cause = c; position = position; name = name }) (inl (i, kind, stands, inr (place, state, here, inr (at, l.0, l.1, (refl, subst (λ z. HasCause p kind state at z c position name) (sym l.2) h))))));
        };
      };
  roots = λ i root stands.
      let fr = formed.roots i root stands in
      let inside : i < length p.roots = slice_get_within p.roots i root stands in
      record {
        agrees = λ k e. stable-agrees sort_of_root k root.arguments (λ n. none (record { line = root.line; cause = BadCount; position = 0; name = k.name }) (inr (i, root, stands, (refl, (refl, (k, e, refl, n))))));
        settled = λ k e entry starts j x g a h. behind-root root.behind a (each-settled root_in entry.settled root.arguments (λ r. root.behind ≡ Some r)
            (λ position r there. stable-option root.behind r (λ n.
            let earlier = some-inside p.roots r (passed-each root_in (λ n. has n entry.settled) (λ y. y < length p.roots) 0 root.arguments (λ m c o so. root-within p i c (omega arith) (fr.arguments m c o)) position r there) in
            none (record { line = root.line; cause = StateNeeds; position = position; name = earlier.0.name }) (inr (i, root, stands, (refl, (k, entry, e, starts, (r, earlier.0, there, earlier.1, refl, n))))))) j x g a h);
      };
} where
  few : (n : ℕ) → ¬ (63 < n) → n ≤ 63
  few n h = elim (cases_lt 63 n) [ inl l ↦ absurd (h l) | inr g ↦ g ]
