-- In a valid program the held futures alone matter.
use Rattle.std.specs.Prelude.{◌≡◌, ℕ, zero, suc, ◌+◌, ◌<◌, ◌≤◌, Bool, true, false, ◌||◌, cond, nat_eq, Option, Some, None, List, [], ◌∷◌, map, length, slice_get, slice_set, IfSome, IsTrue}
use Rattle.std.specs.Option.{option_map}
use Rattle.std.proofs.Common.{refl, sym, ap, subst, ◌∙◌, arith, length-set}
use Rattle.std.proofs.lemmas.Bool.{eqb-true}
use Rattle.task_syntax.proofs.Bools.{has-without}
use Rattle.task_syntax.specs.Places.{Each, instr_at}
use Rattle.task_syntax.specs.Facts.{Facts, has, without, members_of, renewed, after}
use Rattle.task_syntax.specs.Form.{IsWellFormed, IsFormedInstr, Leaves}
use Rattle.task_syntax.specs.Valid.{goes_on, jumps, JumpsTo, Held, HeldArgument, SpawnsSoundly, RespawnsSoundly, IsSoundInstr, IsValid}
use Rattle.task_syntax.specs.declared.value.Value.{Value}
use Rattle.task_syntax.specs.declared.value.Value.TheVariants.{Number, Trapped}
use Rattle.task_syntax.specs.declared.instr.Argument.{Argument}
use Rattle.task_syntax.specs.declared.instr.Argument.TheVariants as argument
use Rattle.task_syntax.specs.declared.instr.Instr.{Instr}
use Rattle.task_syntax.specs.declared.instr.Instr.TheVariants.{Set, Math, If, Goto, Label, Cell, Rows, Spawn, All, Copy, Drop, Get, Again, Done}
use Rattle.task_syntax.specs.declared.instr.Line.{Line}
use Rattle.task_syntax.specs.declared.program.State.{State}
use Rattle.task_syntax.specs.declared.program.Kind.{Kind}
use Rattle.task_syntax.specs.declared.program.Program.{Program}
use Rattle.task_syntax.specs.declared.columns.Columns.{Columns}
use Rattle.task_meaning.specs.Meant.{Meant, counted, adding, with_value, with_number, future_at, behind, behind_all}
use Rattle.task_meaning.specs.Frame.{FrameOf, Place, Call, state_in, state_at, code_in, code_at, holds_in, holds_at, kept_from, kept, enter, set_number, set_future, operand, number_passed, future_passed, spawned, renamed}
use Rattle.task_meaning.specs.Arithmetic.{computed, compares, cell_at}
use Rattle.task_meaning.specs.Meaning.{child_of, aggregate_of, with_child, rest}
use Rattle.task_meaning.specs.Worths.{Accepted, worths, place_in, rest_of}
use Rattle.task_meaning.specs.Acts.{steps_with, act_of, JumpsAhead, followed}
use Rattle.task_meaning.specs.HeldLaws.{IsHeldAt, AgreeInHeld}
use Rattle.task_meaning.proofs.Lists.{drop-at, get-inside}
use Rattle.task_meaning.proofs.Parts.{length-kept_from}
use Rattle.task_meaning.proofs.Grows.{place_of}
use Rattle.task_meaning.proofs.Ahead.{AllJumpAhead, jumps_ahead}
use Rattle.task_meaning.proofs.ActByAct.{rest-follows, rest-past}
use Rattle.task_meaning.proofs.Renaming.{future_at-renamed, length-renamed}

-- what is in a list, where it was put in front anew, and is not that
has-renewed : (x y : ℕ) (ys : List ℕ) → IsTrue (has x (y ∷ without y ys)) → ¬ (x ≡ y) → IsTrue (has x ys)
has-renewed x y ys e n = go (nat_eq x y) refl e
  where
    go : (b : Bool) → nat_eq x y ≡ b → (b || has x (without y ys)) ≡ true → IsTrue (has x ys)
    go true f g = absurd (n (eqb-true x y f))
    go false f g = (has-without x y ys g).1

has-at : (x : ℕ) (xs : List ℕ) → IsTrue (has x xs) → (at : ℕ) × (slice_get xs at ≡ Some x)
has-at x [] e = absurd (cc e)
has-at x (y ∷ ys) e = go (nat_eq x y) refl (has-at x ys) e
  where
    go : (b : Bool) → nat_eq x y ≡ b → (IsTrue (has x ys) → (at : ℕ) × (slice_get ys at ≡ Some x)) → (b || has x ys) ≡ true → (at : ℕ) × (slice_get (y ∷ ys) at ≡ Some x)
    go true f more g = (zero, ap Some (sym (eqb-true x y f)))
    go false f more g = let (at, h) = more g in (suc at, h)

-- the future variable that an instruction writes
abbrev Writes : Instr → ℕ → Type 0
Writes (Spawn to kind arguments waits priority retry) x = x ≡ to
Writes (All to members priority retry) x = x ≡ to
Writes (Copy to source) x = x ≡ to
Writes (Drop future) x = x ≡ future
Writes _ x = ⊥

-- what is held after an instruction was held before it, or is written by it
held-before : (instr : Instr) (x : ℕ) (f : Facts) → ¬ Writes instr x → IsTrue (has x (after instr f).held) → IsTrue (has x f.held)
held-before (Spawn to kind arguments waits priority retry) x f n e = has-renewed x to f.held e n
held-before (All to members priority retry) x f n e = has-renewed x to f.held e n
held-before (Copy to source) x f n e = go (nat_eq to source) e
  where
    go : (b : Bool) → IsTrue (has x (cond b f (renewed to (has source f.settled) (members_of source f.members) f)).held) → IsTrue (has x f.held)
    go true g = g
    go false g = has-renewed x to f.held g n
held-before (Drop future) x f n e = (has-without x future f.held e).1
held-before _ x f n e = e

held-on : (state : State) (at x : ℕ) (instr : Instr) → instr_at state at ≡ Some instr → ¬ Leaves instr → ¬ Writes instr x → Held state (at + 1) x → Held state at x
held-on state at x instr stands on n held f way = held-before instr x f n (held (after instr f) (goes_on instr way stands on))

-- two lists agree in what is held at a place
record Alike (state : State) (at : ℕ) (fs gs : List (Option Value)) : Type 0 where
  as_long : length fs ≡ length gs
  held : (x : ℕ) → Held state at x → future_at fs x ≡ future_at gs x

set-agrees : (fs gs : List (Option Value)) (to : ℕ) (o : Option Value) (x : ℕ) → length fs ≡ length gs → (¬ (x ≡ to) → future_at fs x ≡ future_at gs x)
    → future_at (slice_set fs to o) x ≡ future_at (slice_set gs to o) x
set-agrees [] [] to o x e h = refl
set-agrees [] (g ∷ gs) to o x e h = absurd (omega (arith, e))
set-agrees (f ∷ fs) [] to o x e h = absurd (omega (arith, e))
set-agrees (f ∷ fs) (g ∷ gs) zero o zero e h = refl
set-agrees (f ∷ fs) (g ∷ gs) zero o (suc x) e h = h (λ s. omega (arith, s))
set-agrees (f ∷ fs) (g ∷ gs) (suc to) o zero e h = h (λ s. omega (arith, s))
set-agrees (f ∷ fs) (g ∷ gs) (suc to) o (suc x) e h = set-agrees fs gs to o x (omega (arith, e)) (λ n. h (λ s. n (omega (arith, s))))

alike-set : (state : State) (at : ℕ) (fs gs : List (Option Value)) (instr : Instr) (to : ℕ) (o : Option Value) → instr_at state at ≡ Some instr → ¬ Leaves instr
    → ((x : ℕ) → Writes instr x → x ≡ to) → Alike state at fs gs → Alike state (at + 1) (slice_set fs to o) (slice_set gs to o)
alike-set state at fs gs instr to o stands on writes a = record {
  as_long = length-set fs to o ∙ a.as_long ∙ sym (length-set gs to o);
  held = λ x h. set-agrees fs gs to o x a.as_long (λ n. a.held x (held-on state at x instr stands on (λ w. n (writes x w)) h));
}

alike-on : (state : State) (at : ℕ) (fs gs : List (Option Value)) (instr : Instr) → instr_at state at ≡ Some instr → ¬ Leaves instr → ((x : ℕ) → ¬ Writes instr x)
    → Alike state at fs gs → Alike state (at + 1) fs gs
alike-on state at fs gs instr stands on none a = record { as_long = a.as_long; held = λ x h. a.held x (held-on state at x instr stands on (none x) h) }

alike-jump : (state : State) (at : ℕ) (fs gs : List (Option Value)) (instr : Instr) (to : ℕ) → instr_at state at ≡ Some instr → JumpsTo instr to
    → Alike state at fs gs → Alike state to fs gs
alike-jump state at fs gs instr to stands j a = record { as_long = a.as_long; held = λ x h. a.held x (λ f way. h f (jumps instr to way stands j)) }

-- what a frame passes, waits for, gathers and keeps is held
passed-alike : (state : State) (at : ℕ) (fs gs : List (Option Value)) → Alike state at fs gs → (arguments : List Argument) → Each arguments (HeldArgument state at)
    → map (future_passed fs) arguments ≡ map (future_passed gs) arguments
passed-alike state at fs gs a [] h = refl
passed-alike state at fs gs a (argument.Number n ∷ more) h = ap (λ os. None ∷ os) (passed-alike state at fs gs a more (λ i b e. h (suc i) b e))
passed-alike state at fs gs a (argument.Future x ∷ more) h =
    let first : future_at fs x ≡ future_at gs x = a.held x (h zero (argument.Future x) refl) in
    let others = passed-alike state at fs gs a more (λ i b e. h (suc i) b e) in
    λ i. first i ∷ others i

behind-alike : (state : State) (at : ℕ) (fs gs : List (Option Value)) → Alike state at fs gs → (waits : Option ℕ) → IfSome waits (Held state at) → (m : Meant)
    → behind waits fs m ≡ behind waits gs m
behind-alike state at fs gs a None h m = refl
behind-alike state at fs gs a (Some x) h m = ap (λ (o : Option Value). with_value o (λ v. m)) (a.held x h)

members-alike : (state : State) (at : ℕ) (fs gs : List (Option Value)) → Alike state at fs gs → (members : List ℕ) → Each members (Held state at) → (m : Meant)
    → behind_all members fs m ≡ behind_all members gs m
members-alike state at fs gs a [] h m = refl
members-alike state at fs gs a (x ∷ more) h m =
    behind-alike state at fs gs a (Some x) (h zero x refl) (behind_all more fs m)
    ∙ ap (behind (Some x) gs) (members-alike state at fs gs a more (λ i y e. h (suc i) y e) m)

kept-same : {A : Type 0} (from : ℕ) (held : List ℕ) (fs gs : List (Option A)) → length fs ≡ length gs
    → ((x : ℕ) → IsTrue (has (from + x) held) → future_at fs x ≡ future_at gs x) → kept_from from held fs ≡ kept_from from held gs
kept-same from held [] [] e h = refl
kept-same from held [] (g ∷ gs) e h = absurd (omega (arith, e))
kept-same from held (f ∷ fs) [] e h = absurd (omega (arith, e))
kept-same {A} from held (f ∷ fs) (g ∷ gs) e h =
    let first : cond (has from held) f None ≡ cond (has from held) g None
    = go (has from held) (λ t. h zero (subst (λ (i : ℕ). IsTrue (has i held)) (omega arith) t)) in
    let others = kept-same (from + 1) held fs gs (omega (arith, e)) (λ x t. h (suc x) (subst (λ (i : ℕ). IsTrue (has i held)) (omega arith) t)) in
    λ i. first i ∷ others i
  where
    go : (b : Bool) → (b ≡ true → f ≡ g) → cond b f None ≡ cond b g None
    go true k = k refl
    go false k = refl

kept-held : {A : Type 0} (from : ℕ) (held : List ℕ) (fs : List (Option A)) (x : ℕ) → IsTrue (has (from + x) held) → future_at (kept_from from held fs) x ≡ future_at fs x
kept-held from held [] x e = refl
kept-held from held (f ∷ fs) zero e =
    let t : IsTrue (has from held) = subst (λ (i : ℕ). IsTrue (has i held)) (omega arith) e in
    ap (λ b. cond b f None) t
kept-held from held (f ∷ fs) (suc x) e = kept-held (from + 1) held fs x (subst (λ (i : ℕ). IsTrue (has i held)) (omega arith) e)

module _ (p : Program) (c : Columns) (n : ℕ) (ahead : AllJumpAhead p) (at_kind at_state : ℕ) (kind : Kind) (state : State)
    (is_kind : slice_get p.kinds at_kind ≡ Some kind) (is_state : slice_get kind.states at_state ≡ Some state) where
  -- from a later place the same follows
  LaterAlike : ℕ → Type 0
  LaterAlike at = (to : ℕ) (numbers : List ℕ) (fs gs : List (Option Value)) → at < to → Alike state to fs gs
      → rest p c (suc n) (place_of at_kind at_state to numbers fs) ≡ rest p c (suc n) (place_of at_kind at_state to numbers gs)

  number-alike : (v : Value) (frame other : ℕ → Place) (q r : Place) → ((i : ℕ) → rest p c (suc n) (frame i) ≡ rest p c (suc n) (other i))
      → followed p c n (steps_with v frame) q ≡ followed p c n (steps_with v other) r
  number-alike (Number i) frame other q r h = h i
  number-alike (Trapped t) frame other q r h = refl

  branch-alike : (b : Bool) (jumped gone jumped' gone' : Place) → rest p c (suc n) jumped ≡ rest p c (suc n) jumped' → rest p c (suc n) gone ≡ rest p c (suc n) gone'
      → rest p c (suc n) (cond b jumped gone) ≡ rest p c (suc n) (cond b jumped' gone')
  branch-alike true jumped gone jumped' gone' h k = h
  branch-alike false jumped gone jumped' gone' h k = k

  read-alike : (o : Option Value) (frame other : ℕ → Place) → ((i : ℕ) → rest p c (suc n) (frame i) ≡ rest p c (suc n) (other i))
      → with_value o (λ v. with_number v (λ i. rest p c (suc n) (frame i))) ≡ with_value o (λ v. with_number v (λ i. rest p c (suc n) (other i)))
  read-alike None frame other h = refl
  read-alike (Some (Number i)) frame other h = h i
  read-alike (Some (Trapped t)) frame other h = refl

  spawn-alike : (at : ℕ) (numbers : List ℕ) (fs gs : List (Option Value)) (callee : ℕ) (arguments : List Argument) (waits : Option ℕ) (k : Kind)
      → SpawnsSoundly k state at arguments waits → Alike state at fs gs
      → child_of p (rest p c n) waits (spawned (place_of at_kind at_state at numbers fs) callee arguments) fs
      ≡ child_of p (rest p c n) waits (spawned (place_of at_kind at_state at numbers gs) callee arguments) gs
  spawn-alike at numbers fs gs callee arguments waits k sound a =
      let call : List (Option Value) → Call = (λ os. record { kind = callee; numbers = map (number_passed numbers) arguments; futures = os }) in
      ap (λ (os : List (Option Value)). child_of p (rest p c n) waits (call os) fs) (passed-alike state at fs gs a arguments sound.held)
      ∙ behind-alike state at fs gs a waits sound.behind_held _

  enter-alike : (at : ℕ) (numbers : List ℕ) (fs gs : List (Option Value)) (target : ℕ) (next : State) → slice_get kind.states target ≡ Some next
      → Each next.holds (Held state at) → Alike state at fs gs
      → enter p (place_of at_kind at_state at numbers fs) target ≡ enter p (place_of at_kind at_state at numbers gs) target
  enter-alike at numbers fs gs target next is_next held a =
      let holds : holds_at p at_kind target ≡ next.holds
      = ap (λ (o : Option Kind). holds_in (state_in o target)) is_kind ∙ ap holds_in is_next in
      let futures : kept (holds_at p at_kind target) fs ≡ kept (holds_at p at_kind target) gs
      = kept-same 0 (holds_at p at_kind target) fs gs a.as_long
      (λ x t.
      let u : IsTrue (has x next.holds) = subst (λ (i : ℕ). IsTrue (has i next.holds)) (omega arith) (subst (λ (hs : List ℕ). IsTrue (has (0 + x) hs)) holds t) in
      let (i, e) = has-at x next.holds u in
      a.held x (held i x e)) in
      λ i. record { kind = at_kind; state = target; at = 0; numbers = numbers; futures = futures i }

  instr-alike : (at : ℕ) (instr : Instr) (numbers : List ℕ) (fs gs : List (Option Value)) → instr_at state at ≡ Some instr → IsFormedInstr p kind state at instr
      → IsSoundInstr p kind state at instr → JumpsAhead at instr → Alike state at fs gs → LaterAlike at
      → followed p c n (act_of c instr (place_of at_kind at_state at numbers fs)) (place_of at_kind at_state at numbers fs)
      ≡ followed p c n (act_of c instr (place_of at_kind at_state at numbers gs)) (place_of at_kind at_state at numbers gs)
  unfolding LaterAlike
  instr-alike at (Set to value) numbers fs gs stands formed sound ahead a later =
      later (at + 1) _ fs gs (omega arith) (alike-on state at fs gs (Set to value) stands (λ l. l) (λ x w. w) a)
  instr-alike at (Math op to left right) numbers fs gs stands formed sound ahead a later =
      number-alike (computed op (operand numbers left) (operand numbers right)) (set_number (place_of at_kind at_state at numbers fs) to)
      (set_number (place_of at_kind at_state at numbers gs) to) _ _
      (λ i. later (at + 1) _ fs gs (omega arith) (alike-on state at fs gs (Math op to left right) stands (λ l. l) (λ x w. w) a))
  instr-alike at (If relation left right target) numbers fs gs stands formed sound ahead a later =
      branch-alike (compares relation (operand numbers left) (operand numbers right)) _ _ _ _
      (later target numbers fs gs (ahead target refl) (alike-jump state at fs gs (If relation left right target) target stands refl a))
      (later (at + 1) numbers fs gs (omega arith) (alike-on state at fs gs (If relation left right target) stands (λ l. l) (λ x w. w) a))
  instr-alike at (Goto target) numbers fs gs stands formed sound ahead a later =
      later target numbers fs gs (ahead target refl) (alike-jump state at fs gs (Goto target) target stands refl a)
  instr-alike at (Label name) numbers fs gs stands formed sound ahead a later =
      later (at + 1) numbers fs gs (omega arith) (alike-on state at fs gs (Label name) stands (λ l. l) (λ x w. w) a)
  instr-alike at (Cell to column row) numbers fs gs stands formed sound ahead a later =
      number-alike (cell_at c column (operand numbers row)) (set_number (place_of at_kind at_state at numbers fs) to)
      (set_number (place_of at_kind at_state at numbers gs) to) _ _
      (λ i. later (at + 1) _ fs gs (omega arith) (alike-on state at fs gs (Cell to column row) stands (λ l. l) (λ x w. w) a))
  instr-alike at (Rows to column) numbers fs gs stands formed sound ahead a later =
      later (at + 1) _ fs gs (omega arith) (alike-on state at fs gs (Rows to column) stands (λ l. l) (λ x w. w) a)
  instr-alike at (Spawn to callee arguments waits priority retry) numbers fs gs stands formed sound ahead a later =
      let (k, is) = get-inside p.kinds callee formed.1 in
      let same = spawn-alike at numbers fs gs callee arguments waits k (sound k is) a in
      let child : Meant = child_of p (rest p c n) waits (spawned (place_of at_kind at_state at numbers gs) callee arguments) gs in
      ap (λ (m : Meant). with_child m (rest p c (suc n)) (place_of at_kind at_state at numbers fs) to) same
      ∙ ap (adding child.counts)
      (later (at + 1) numbers (slice_set fs to child.value) (slice_set gs to child.value) (omega arith)
      (alike-set state at fs gs (Spawn to callee arguments waits priority retry) to child.value stands (λ l. l) (λ x w. w) a))
  instr-alike at (All to members priority retry) numbers fs gs stands formed sound ahead a later =
      let child : Meant = aggregate_of members gs in
      ap (λ (m : Meant). with_child m (rest p c (suc n)) (place_of at_kind at_state at numbers fs) to) (members-alike state at fs gs a members sound _)
      ∙ ap (adding child.counts)
      (later (at + 1) numbers (slice_set fs to child.value) (slice_set gs to child.value) (omega arith)
      (alike-set state at fs gs (All to members priority retry) to child.value stands (λ l. l) (λ x w. w) a))
  instr-alike at (Copy to source) numbers fs gs stands formed sound ahead a later =
      ap (λ (o : Option Value). rest p c (suc n) (set_future (place_of at_kind at_state at numbers fs) to o)) (a.held source sound)
      ∙ later (at + 1) numbers (slice_set fs to (future_at gs source)) (slice_set gs to (future_at gs source)) (omega arith)
      (alike-set state at fs gs (Copy to source) to (future_at gs source) stands (λ l. l) (λ x w. w) a)
  instr-alike at (Drop future) numbers fs gs stands formed sound ahead a later =
      later (at + 1) numbers (slice_set fs future None) (slice_set gs future None) (omega arith)
      (alike-set state at fs gs (Drop future) future None stands (λ l. l) (λ x w. w) a)
  instr-alike at (Get to future) numbers fs gs stands formed sound ahead a later =
      ap (λ (o : Option Value). with_value o (λ v. with_number v (λ i. rest p c (suc n) (set_number (place_of at_kind at_state at numbers fs) to i)))) (a.held future sound.0)
      ∙ read-alike (future_at gs future) (set_number (place_of at_kind at_state at numbers fs) to) (set_number (place_of at_kind at_state at numbers gs) to)
      (λ i. later (at + 1) _ fs gs (omega arith) (alike-on state at fs gs (Get to future) stands (λ l. l) (λ x w. w) a))
  instr-alike at (Again target waits priority) numbers fs gs stands formed sound ahead a later =
      let (next, is) = get-inside kind.states target formed.0 in
      let s : RespawnsSoundly next state at waits = sound next is in
      behind-alike state at fs gs a waits s.behind_held _
      ∙ ap (λ (q : Place). behind waits gs (adding (counted 0 1) (rest p c n q))) (enter-alike at numbers fs gs target next is s.held a)
  instr-alike at (Done value) numbers fs gs stands formed sound ahead a later = refl

  code-is : code_at p at_kind at_state ≡ state.code
  code-is = ap (λ (o : Option Kind). code_in (state_in o at_state)) is_kind ∙ ap code_in is_state

  -- each line is formed, and sound on all ways to it
  AllGood : Type 0
  AllGood = (at : ℕ) (line : Line) → slice_get state.code at ≡ Some line → IsFormedInstr p kind state at line.instr × IsSoundInstr p kind state at line.instr

  place-alike : AllGood → (at : ℕ) (numbers : List ℕ) (fs gs : List (Option Value)) → Alike state at fs gs
      → ((line : Line) → slice_get state.code at ≡ Some line → LaterAlike at)
      → rest p c (suc n) (place_of at_kind at_state at numbers fs) ≡ rest p c (suc n) (place_of at_kind at_state at numbers gs)
  unfolding AllGood
  place-alike good at numbers fs gs a later = go (slice_get state.code at) refl
    where
      go : (o : Option Line) → slice_get state.code at ≡ o
          → rest p c (suc n) (place_of at_kind at_state at numbers fs) ≡ rest p c (suc n) (place_of at_kind at_state at numbers gs)
      go None e =
          let none : slice_get (code_at p at_kind at_state) at ≡ None = ap (λ (ls : List Line). slice_get ls at) code-is ∙ e in
          rest-past p c (suc n) (place_of at_kind at_state at numbers fs) none ∙ sym (rest-past p c (suc n) (place_of at_kind at_state at numbers gs) none)
      go (Some line) e =
          let stands : slice_get (code_at p at_kind at_state) at ≡ Some line = ap (λ (ls : List Line). slice_get ls at) code-is ∙ e in
          let jump_ahead : JumpsAhead at line.instr = ahead at_kind at_state at line stands in
          let (formed, sound) = good at line e in
          rest-follows p c n (place_of at_kind at_state at numbers fs) line stands jump_ahead
          ∙ instr-alike at line.instr numbers fs gs (ap (λ o. option_map (λ (l : Line). l.instr) o) e) formed sound jump_ahead a (later line e)
          ∙ sym (rest-follows p c n (place_of at_kind at_state at numbers gs) line stands jump_ahead)

  -- a place with at most so many lines left
  lines-alike : AllGood → (left at : ℕ) (numbers : List ℕ) (fs gs : List (Option Value)) → length state.code ≤ at + left → Alike state at fs gs
      → rest p c (suc n) (place_of at_kind at_state at numbers fs) ≡ rest p c (suc n) (place_of at_kind at_state at numbers gs)
  unfolding LaterAlike
  lines-alike good zero at numbers fs gs enough a =
      place-alike good at numbers fs gs a (λ line e. let l : at < length state.code = (drop-at state.code at line e).1 in absurd (omega (arith, l, enough)))
  lines-alike good (suc left) at numbers fs gs enough a =
      place-alike good at numbers fs gs a (λ line e to ns os rs further b. lines-alike good left to ns os rs (omega (arith, enough, further)) b)

rest-alike : (p : Program) (c : Columns) (n : ℕ) → IsWellFormed p → IsValid p → (at_kind at_state at : ℕ) (numbers : List ℕ) (fs gs : List (Option Value))
    → length fs ≡ length gs → ((x : ℕ) → (state : State) → state_at p at_kind at_state ≡ Some state → Held state at x → future_at fs x ≡ future_at gs x)
    → rest p c n (place_of at_kind at_state at numbers fs) ≡ rest p c n (place_of at_kind at_state at numbers gs)
unfolding AllGood
rest-alike p c zero formed valid at_kind at_state at numbers fs gs long same = refl
rest-alike p c (suc n) formed valid at_kind at_state at numbers fs gs long same = in_kind (slice_get p.kinds at_kind) refl
  where
    Same : Type 0
    Same = rest p c (suc n) (place_of at_kind at_state at numbers fs) ≡ rest p c (suc n) (place_of at_kind at_state at numbers gs)

    nowhere : slice_get (code_at p at_kind at_state) at ≡ None → Same
    nowhere none = rest-past p c (suc n) (place_of at_kind at_state at numbers fs) none ∙ sym (rest-past p c (suc n) (place_of at_kind at_state at numbers gs) none)

    in_state : (kind : Kind) → slice_get p.kinds at_kind ≡ Some kind → (o : Option State) → slice_get kind.states at_state ≡ o → Same
    in_state kind e None f = nowhere (ap (λ (o : Option Kind). slice_get (code_in (state_in o at_state)) at) e ∙ ap (λ (o : Option State). slice_get (code_in o) at) f)
    in_state kind e (Some state) f =
        let there : state_at p at_kind at_state ≡ Some state = ap (λ (o : Option Kind). state_in o at_state) e ∙ f in
        lines-alike p c n (jumps_ahead p formed) at_kind at_state kind state e f
        (λ i line g. (
          ((formed.kinds at_kind kind e).states at_state state f).instrs i line g,
          ((valid.kinds at_kind kind e).states at_state state f).instrs i line.instr (ap (λ o. option_map (λ (l : Line). l.instr) o) g),
        ))
        (length state.code) at numbers fs gs (omega arith) (record { as_long = long; held = λ x h. same x state there h })

    in_kind : (o : Option Kind) → slice_get p.kinds at_kind ≡ o → Same
    in_kind None e = nowhere (ap (λ (o : Option Kind). slice_get (code_in (state_in o at_state)) at) e)
    in_kind (Some kind) e = in_state kind e (slice_get kind.states at_state) refl

-- places that agree in the held futures mean the same
pub held-alone : (p : Program) (c : Columns) (n : ℕ) (q other : Place) → IsWellFormed p → IsValid p → AgreeInHeld p q other → rest p c n q ≡ rest p c n other
held-alone p c n q other formed valid a =
    rest-alike p c n formed valid q.kind q.state q.at q.numbers q.futures other.futures a.as_long (λ x state there h. a.held x (state, there, h))
    ∙ ap (rest p c n) (λ i. place_of (a.kind i) (a.state i) (a.at i) (a.numbers i) other.futures)

-- the same follows from frames that agree in the held futures
pub held-tasks : (p : Program) (c : Columns) (n : ℕ) (accepted : List Accepted) (waits : Option ℕ) (q other : FrameOf ℕ) → IsWellFormed p → IsValid p → AgreeInHeld p q other
    → rest_of p c n accepted waits q ≡ rest_of p c n accepted waits other
held-tasks p c n accepted waits q other formed valid a =
    let ws : List (Option Value) = worths p c n accepted in
    ap (behind waits ws) (held-alone p c n (place_in ws q) (place_in ws other) formed valid (record {
      kind = a.kind;
      state = a.state;
      at = a.at;
      numbers = a.numbers;
      as_long = length-renamed (future_at ws) q.futures ∙ a.as_long ∙ sym (length-renamed (future_at ws) other.futures);
      held = λ x h.
          future_at-renamed (future_at ws) q.futures x ∙ ap (renamed (future_at ws)) (a.held x h) ∙ sym (future_at-renamed (future_at ws) other.futures x);
    }))

-- a frame may give up what is not held
pub unheld-goes : (p : Program) (c : Columns) (n : ℕ) (accepted : List Accepted) (waits : Option ℕ) (q : FrameOf ℕ) (variables : List ℕ)
    → IsWellFormed p → IsValid p → ((x : ℕ) → IsHeldAt p q x → IsTrue (has x variables))
    → rest_of p c n accepted waits (record q { futures = kept variables q.futures }) ≡ rest_of p c n accepted waits q
unheld-goes p c n accepted waits q variables formed valid h =
    held-tasks p c n accepted waits (record q { futures = kept variables q.futures }) q formed valid (record {
      kind = refl;
      state = refl;
      at = refl;
      numbers = refl;
      as_long = length-kept_from 0 variables q.futures;
      held = λ x is. kept-held 0 variables q.futures x (subst (λ (i : ℕ). IsTrue (has i variables)) (omega arith) (h x is));
    })
