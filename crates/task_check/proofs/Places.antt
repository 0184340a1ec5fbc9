-- Ways and arrivals at the places of a well-formed state, and what all ways to a place agree in.
use Rattle.std.proofs.Common.{◌≡◌, ℕ, zero, suc, ◌+◌, ◌<◌, ◌≤◌, Bool, false, ◌&&◌, Option, Some, None, IfSome, List, [], ◌∷◌, length, slice_get, refl, sym, ◌∙◌, ap, subst, ◌⊎◌, inl, inr, arith, add-one}
use Rattle.std.specs.Option.{option_map}
use Rattle.std.proofs.lemmas.Bool.{cases_eq, cases_lt}
use Rattle.task_syntax.specs.Places.{instr_at, IsFutureAt}
use Rattle.task_syntax.specs.declared.program.Sort.TheVariants as sort
use Rattle.task_syntax.specs.declared.program.Variable.{Variable}
use Rattle.task_syntax.specs.Form.{IsFormedState, IsFormedInstr, Leaves}
use Rattle.task_syntax.specs.Facts.{Facts, after, at_start, nothing_held}
use Rattle.task_syntax.specs.Valid.{Way, starts, unreached, goes_on, jumps, JumpsTo, IsUnreachedLabel}
use Rattle.task_syntax.specs.declared.instr.Instr.{Instr}
use Rattle.task_syntax.specs.declared.instr.Instr.TheVariants.{Set, Math, If, Goto, Label, Cell, Rows, Spawn, All, Copy, Drop, Get, Again, Done}
use Rattle.task_syntax.specs.declared.instr.Line.{Line}
use Rattle.task_syntax.specs.declared.program.State.{State}
use Rattle.task_syntax.specs.declared.program.Kind.{Kind}
use Rattle.task_syntax.specs.declared.program.Program.{Program}
use Rattle.task_check.specs.Known.{Question, held, settled, member, IsAbout, says, answer_after, IsWithin}
use Rattle.task_check.specs.Ways.{Agreed, Arrives, at_first, by_line, by_jump, GoesOnTo}
use Rattle.task_check.proofs.Agreed.{agreed-same, agreed-one, agreed-both, agreed-after, Behind}

-- the line whose instruction stands at a place
pub line-at : (lines : List Line) (at : ℕ) (instr : Instr) → option_map (λ (l : Line). l.instr) (slice_get lines at) ≡ Some instr → (line : Line) × (slice_get lines at ≡ Some line) × (line.instr ≡ instr)
line-at [] at instr e = cc
line-at (l ∷ lines) zero instr e = (l, refl, cc)
line-at (l ∷ lines) (suc at) instr e = line-at lines at instr e

-- the instruction at a place of a well-formed state is well formed
pub formed-at : (p : Program) (kind : Kind) (state : State) → IsFormedState p kind state → (at : ℕ) (instr : Instr) → instr_at state at ≡ Some instr → IsFormedInstr p kind state at instr
formed-at p kind state formed at instr stands = let l = line-at state.code at instr stands in
    subst (λ i. IsFormedInstr p kind state at i) l.2 (formed.instrs at l.0 l.1)

-- a jump goes ahead
pub jump-ahead : (p : Program) (kind : Kind) (state : State) (at : ℕ) (instr : Instr) (to : ℕ) → IsFormedInstr p kind state at instr → JumpsTo instr to → at < to
jump-ahead p kind state at (If relation left right target) to formed j = subst (λ t. at < t) j formed.2.0
jump-ahead p kind state at (Goto target) to formed j = subst (λ t. at < t) j formed.0
jump-ahead p kind state at (Set a b) to formed j = absurd j
jump-ahead p kind state at (Math a b c d) to formed j = absurd j
jump-ahead p kind state at (Label a) to formed j = absurd j
jump-ahead p kind state at (Cell a b c) to formed j = absurd j
jump-ahead p kind state at (Rows a b) to formed j = absurd j
jump-ahead p kind state at (Spawn a b c d e f) to formed j = absurd j
jump-ahead p kind state at (All a b c d) to formed j = absurd j
jump-ahead p kind state at (Copy a b) to formed j = absurd j
jump-ahead p kind state at (Drop a) to formed j = absurd j
jump-ahead p kind state at (Get a b) to formed j = absurd j
jump-ahead p kind state at (Again a b c) to formed j = absurd j
jump-ahead p kind state at (Done a) to formed j = absurd j

-- whether an instruction jumps to a place, and whether it leaves
pub jumps-or-not : (instr : Instr) (to : ℕ) → JumpsTo instr to ⊎ (¬ JumpsTo instr to)
jumps-or-not (If relation left right target) to = cases_eq target to
jumps-or-not (Goto target) to = cases_eq target to
jumps-or-not (Set a b) to = inr (λ j. j)
jumps-or-not (Math a b c d) to = inr (λ j. j)
jumps-or-not (Label a) to = inr (λ j. j)
jumps-or-not (Cell a b c) to = inr (λ j. j)
jumps-or-not (Rows a b) to = inr (λ j. j)
jumps-or-not (Spawn a b c d e f) to = inr (λ j. j)
jumps-or-not (All a b c d) to = inr (λ j. j)
jumps-or-not (Copy a b) to = inr (λ j. j)
jumps-or-not (Drop a) to = inr (λ j. j)
jumps-or-not (Get a b) to = inr (λ j. j)
jumps-or-not (Again a b c) to = inr (λ j. j)
jumps-or-not (Done a) to = inr (λ j. j)

-- whether an instruction leaves
pub leaves-or-not : (instr : Instr) → Leaves instr ⊎ (¬ Leaves instr)
leaves-or-not (If a b c d) = inr (λ j. j)
leaves-or-not (Goto target) = inl tt
leaves-or-not (Set a b) = inr (λ j. j)
leaves-or-not (Math a b c d) = inr (λ j. j)
leaves-or-not (Label a) = inr (λ j. j)
leaves-or-not (Cell a b c) = inr (λ j. j)
leaves-or-not (Rows a b) = inr (λ j. j)
leaves-or-not (Spawn a b c d e f) = inr (λ j. j)
leaves-or-not (All a b c d) = inr (λ j. j)
leaves-or-not (Copy a b) = inr (λ j. j)
leaves-or-not (Drop a) = inr (λ j. j)
leaves-or-not (Get a b) = inr (λ j. j)
leaves-or-not (Again a b c) = inl tt
leaves-or-not (Done a) = inl tt

-- whether an instruction goes on to a place
pub goes-on-or-not : (instr : Instr) (at to : ℕ) → GoesOnTo instr at to ⊎ (¬ GoesOnTo instr at to)
goes-on-or-not instr at to = elim (cases_eq to (at + 1)) [
  | inl e ↦ elim (leaves-or-not instr) [ inl l ↦ inr (λ g. g.1 l) | inr n ↦ inl (e, n) ]
  | inr n ↦ inr (λ g. n g.0)
]

same-instr : (state : State) (at : ℕ) (a b : Instr) → instr_at state at ≡ Some a → instr_at state at ≡ Some b → a ≡ b
same-instr state at a b e f = cc

-- what arrives at a place is a way to it, and a way arrives from the lines before
pub arrives-way : (state : State) (lines at : ℕ) (f : Facts) → Arrives state lines at f → Way state at f
arrives-way state lines at f at_first = starts
arrives-way state lines at f (by_line instr h way s n) = goes_on instr way s n
arrives-way state lines at f (by_jump instr to h way s j) = jumps instr to way s j

-- a way to a place arrives there from the lines before, or begins there
pub way-arrives : (p : Program) (kind : Kind) (state : State) → IsFormedState p kind state → (at : ℕ) (f : Facts) → Way state at f → (IsUnreachedLabel state at × (f ≡ nothing_held)) ⊎ Arrives state at at f
way-arrives p kind state formed at f starts = inr at_first
way-arrives p kind state formed at f (unreached u) = inl (u, refl)
way-arrives p kind state formed at f (goes_on {at = b} instr way s n) = inr (by_line instr (omega arith) way s n)
way-arrives p kind state formed at f (jumps {at = b} instr to way s j) = inr (by_jump instr to (jump-ahead p kind state b instr to (formed-at p kind state formed b instr s) j) way s j)

-- nothing arrives at a label that nothing reaches
pub arrives-reached : (state : State) (lines at : ℕ) (f : Facts) → IsUnreachedLabel state at → Arrives state lines at f → ⊥
arrives-reached state lines at f u at_first = absurd (let e : 0 ≡ u.before + 1 = u.follows in omega arith)
arrives-reached state lines at f u (by_line {at = b} instr h way s n) =
    let e : b ≡ u.before = (let g : b + 1 ≡ u.before + 1 = u.follows in omega arith) in
    n (subst Leaves (same-instr state u.before u.left instr u.stands_before (subst (λ k. instr_at state k ≡ Some instr) e s)) u.leaves)
arrives-reached state lines at f u (by_jump {at = b} instr to h way s j) = u.no_jump b instr s j

-- what one more line brings
abbrev pub OneMore : State → ℕ → Instr → ℕ → Facts → Type 0
OneMore state at instr to f = (Arrives state at to f ⊎ (JumpsTo instr to × Way state at f)) ⊎ (GoesOnTo instr at to × Behind instr (Way state at) f)

-- what arrives from one more line came before, or comes from that line
pub arrives-more : (state : State) (at : ℕ) (instr : Instr) → instr_at state at ≡ Some instr → (to : ℕ) (f : Facts) → Arrives state (at + 1) to f → OneMore state at instr to f
arrives-more state at instr stands to f at_first = inl (inl at_first)
arrives-more state at instr stands to f (by_line {at = b} {f = g} i h way s n) = elim (cases_lt b at) [
  | inl below ↦ inl (inl (by_line i below way s n))
  | inr above ↦
      let e : b ≡ at = omega arith in
      let same : i ≡ instr = same-instr state at i instr (subst (λ k. instr_at state k ≡ Some i) e s) stands in
      inr ((ap (λ k. k + 1) e, λ l. n (subst Leaves (sym same) l)), (g, subst (λ k. Way state k g) e way, ap (λ k. after k g) same))
]
arrives-more state at instr stands to f (by_jump {at = b} i t h way s j) = elim (cases_lt b at) [
  | inl below ↦ inl (inl (by_jump i t below way s j))
  | inr above ↦
      let e : b ≡ at = omega arith in
      let same : i ≡ instr = same-instr state at i instr (subst (λ k. instr_at state k ≡ Some i) e s) stands in
      inl (inr (subst (λ k. JumpsTo k t) same j, subst (λ k. Way state k f) e way))
]

-- what arrives from the lines before arrives from one more
pub arrives-earlier : (state : State) (at to : ℕ) (f : Facts) → Arrives state at to f → Arrives state (at + 1) to f
arrives-earlier state at to f at_first = at_first
arrives-earlier state at to f (by_line {at = b} i h way s n) = by_line i (omega arith) way s n
arrives-earlier state at to f (by_jump {at = b} i t h way s j) = by_jump i t (omega arith) way s j

-- what one more line brings arrives
pub more-arrives : (state : State) (at : ℕ) (instr : Instr) → instr_at state at ≡ Some instr → (to : ℕ) (f : Facts) → OneMore state at instr to f → Arrives state (at + 1) to f
more-arrives state at instr stands to f (inl (inl a)) = arrives-earlier state at to f a
more-arrives state at instr stands to f (inl (inr j)) = by_jump instr to (omega arith) j.1 stands j.0
more-arrives state at instr stands to f (inr (g, (h, way, e))) =
    subst (λ k. Arrives state (at + 1) k f) (sym g.0) (subst (λ k. Arrives state (at + 1) (at + 1) k) (sym e) (by_line instr (omega arith) way stands g.1))

-- the variables that an instruction names are variables of the kind
named-within : {X Y : Type 0} (f : X → Y) (xs : List X) (i : ℕ) (y : Y) → option_map f (slice_get xs i) ≡ Some y → i < length xs
named-within f [] i y e = cc
named-within f (x ∷ xs) zero y e = omega arith
named-within f (x ∷ xs) (suc i) y e = let h : i < length xs = named-within f xs i y e in omega arith

-- a future variable is a variable of the kind
pub future-within : (kind : Kind) (x : ℕ) → IsFutureAt kind x → x < length kind.variables
future-within kind x e = named-within (λ (v : Variable). v.sort) kind.variables x sort.Future e

behind-within : (kind : Kind) (behind : Option ℕ) → IfSome behind (IsFutureAt kind) → IfSome behind (λ g. g < length kind.variables)
behind-within kind None h = tt
behind-within kind (Some g) h = future-within kind g h

-- the futures that a well-formed instruction names are variables of the kind
pub formed-within : (p : Program) (kind : Kind) (state : State) (at : ℕ) (instr : Instr) → IsFormedInstr p kind state at instr → IsWithin (length kind.variables) instr
formed-within p kind state at (Spawn to callee arguments behind priority retry) f = (future-within kind to f.0, behind-within kind behind f.4)
formed-within p kind state at (All to members priority retry) f = (future-within kind to f.0, λ i x e. future-within kind x (f.3 i x e))
formed-within p kind state at (Copy to source) f = (future-within kind to f.0, future-within kind source f.1)
formed-within p kind state at (Drop future) f = future-within kind future f
formed-within p kind state at (Get to future) f = future-within kind future f.1
formed-within p kind state at (Again target behind priority) f = behind-within kind behind f.1
formed-within p kind state at (Set a b) f = tt
formed-within p kind state at (Math a b c d) f = tt
formed-within p kind state at (If a b c d) f = tt
formed-within p kind state at (Goto a) f = tt
formed-within p kind state at (Label a) f = tt
formed-within p kind state at (Cell a b c) f = tt
formed-within p kind state at (Rows a b) f = tt
formed-within p kind state at (Done a) f = tt

instr-in : (lines : List Line) (at : ℕ) → at < length lines → (instr : Instr) × (option_map (λ (l : Line). l.instr) (slice_get lines at) ≡ Some instr)
instr-in [] at h = absurd (omega arith)
instr-in (l ∷ lines) zero h = (l.instr, refl)
instr-in (l ∷ lines) (suc at) h = instr-in lines at (omega arith)

-- at each place of a state stands an instruction
pub instr-exists : (state : State) (at : ℕ) → at < length state.code → (instr : Instr) × (instr_at state at ≡ Some instr)
instr-exists state at h = instr-in state.code at h

-- what a place is known to agree in
abbrev pub Decided : ℕ → State → ℕ → Type 0
Decided n state at = (answer : Question → Bool) × Agreed n (Way state at) answer

abbrev Kept : ℕ → (Facts → Type 0) → Type 0
Kept n S = ((f : Facts) → ¬ S f) ⊎ ((answer : Question → Bool) × Agreed n S answer)

kept-more : (n : ℕ) (S T : Facts → Type 0) (P : Type 0) (a : Question → Bool) → P ⊎ (¬ P) → Agreed n T a → Kept n S → Kept n (λ f. S f ⊎ (P × T f))
kept-more n S T P a (inr not_so) agreed (inl none) = inl (λ f m. elim m [ inl s ↦ none f s | inr t ↦ not_so t.0 ])
kept-more n S T P a (inr not_so) agreed (inr some) =
    inr (some.0, agreed-same n S (λ f. S f ⊎ (P × T f)) some.0 some.0 (λ f s. inl s) (λ f m. elim m [ inl s ↦ s | inr t ↦ absurd (not_so t.0) ]) (λ q about. refl) some.1)
kept-more n S T P a (inl so) agreed (inl none) =
    inr (a, agreed-same n T (λ f. S f ⊎ (P × T f)) a a (λ f t. inr (so, t)) (λ f m. elim m [ inl s ↦ absurd (none f s) | inr t ↦ t.1 ]) (λ q about. refl) agreed)
kept-more n S T P a (inl so) agreed (inr some) =
    inr (
      (λ q. some.0 q && a q),
      agreed-same n (λ f. S f ⊎ T f) (λ f. S f ⊎ (P × T f)) (λ q. some.0 q && a q) (λ q. some.0 q && a q)
          (λ f m. elim m [ inl s ↦ inl s | inr t ↦ inr (so, t) ]) (λ f m. elim m [ inl s ↦ inl s | inr t ↦ inr t.1 ]) (λ q about. refl)
          (agreed-both n S T some.0 a (λ q. some.0 q && a q) (λ q about. refl) some.1 agreed),
    )

kept-same : (n : ℕ) (S T : Facts → Type 0) → ((f : Facts) → S f → T f) → ((f : Facts) → T f → S f) → Kept n S → Kept n T
kept-same n S T to back (inl none) = inl (λ f t. none f (back f t))
kept-same n S T to back (inr some) = inr (some.0, agreed-same n S T some.0 some.0 to back (λ q about. refl) some.1)

-- from no line there arrives the start alone
pub arrives-none : (state : State) (at : ℕ) (f : Facts) → Arrives state 0 at f → (at ≡ 0) × (f ≡ at_start state)
arrives-none state at f at_first = (refl, refl)
arrives-none state at f (by_line instr h way s n) = absurd (omega arith)
arrives-none state at f (by_jump instr to h way s j) = absurd (omega arith)

says-nothing : (q : Question) → says q nothing_held ≡ false
says-nothing (held x) = refl
says-nothing (settled x) = refl
says-nothing (member g x) = refl

module _ (p : Program) (kind : Kind) (state : State) (formed : IsFormedState p kind state) where
  -- where nothing arrives, a label stands that nothing reaches
  pub unreached-here : (at : ℕ) → at < length state.code → ((b : ℕ) → b < at → Decided (length kind.variables) state b) → ((f : Facts) → ¬ Arrives state at at f) → IsUnreachedLabel state at
  unreached-here zero inside before none = absurd (none (at_start state) at_first)
  unreached-here (suc b) inside before none =
      let left = instr-exists state b (omega arith) in
      let label = instr-exists state (suc b) inside in
      let next : suc b ≡ b + 1 = sym (add-one b) in
      elim (leaves-or-not left.0) [
        | inl leaves ↦ record {
          before = b;
          label = label.0;
          left = left.0;
          stands = label.1;
          is_label = formed.left_by_label b left.0 label.0 left.1 leaves (subst (λ k. instr_at state k ≡ Some label.0) next label.1);
          follows = next;
          stands_before = left.1;
          leaves = leaves;
          no_jump = λ from jump s j.
              let h : from < suc b = jump-ahead p kind state from jump (suc b) (formed-at p kind state formed from jump s) j in
              let d = before from h in
              none d.1.some.0 (by_jump jump (suc b) h d.1.some.1 s j);
        }
        | inr goes ↦ let d = before b (omega arith) in
            absurd (none (after left.0 d.1.some.0) (subst (λ k. Arrives state (suc b) k (after left.0 d.1.some.0)) (sym next) (by_line left.0 (omega arith) d.1.some.1 left.1 goes)))
      ]

  -- what all ways to a place agree in, by what arrives there
  pub arrived-way : (at : ℕ) (answer : Question → Bool) → Agreed (length kind.variables) (Arrives state at at) answer → Agreed (length kind.variables) (Way state at) answer
  arrived-way at answer agreed = agreed-same (length kind.variables) (Arrives state at at) (Way state at) answer answer
      (λ f a. arrives-way state at at f a)
      (λ f w. elim (way-arrives p kind state formed at f w) [ inl u ↦ absurd (arrives-reached state at at agreed.some.0 u.0 agreed.some.1) | inr a ↦ a ])
      (λ q about. refl) agreed

  -- at a label that nothing reaches nothing is known
  pub nothing-way : (at : ℕ) (answer : Question → Bool) → IsUnreachedLabel state at → ((f : Facts) → ¬ Arrives state at at f) → ((q : Question) → IsAbout (length kind.variables) q → answer q ≡ false) → Agreed (length kind.variables) (Way state at) answer
  nothing-way at answer u none same = agreed-same (length kind.variables) (λ f. f ≡ nothing_held) (Way state at) (λ q. says q nothing_held) answer
      (λ f e. subst (λ k. Way state at k) (sym e) (unreached u))
      (λ f w. elim (way-arrives p kind state formed at f w) [ inl v ↦ v.1 | inr a ↦ absurd (none f a) ])
      (λ q about. same q about ∙ sym (says-nothing q))
      (agreed-one (length kind.variables) nothing_held (λ q. says q nothing_held) (λ q about. refl))

  arrived-by : (at : ℕ) → at < length state.code → ((b : ℕ) → b < at → Decided (length kind.variables) state b) → (lines : ℕ) → lines ≤ at → Kept (length kind.variables) (Arrives state lines at)
  arrived-by at inside before zero h = elim (cases_eq at 0) [
    | inl e ↦ inr (
      (λ q. says q (at_start state)),
      agreed-same (length kind.variables) (λ f. f ≡ at_start state) (Arrives state 0 at) (λ q. says q (at_start state)) (λ q. says q (at_start state))
          (λ f s. subst (λ k. Arrives state 0 k f) (sym e) (subst (λ k. Arrives state 0 0 k) (sym s) at_first))
          (λ f a. (arrives-none state at f a).1) (λ q about. refl) (agreed-one (length kind.variables) (at_start state) (λ q. says q (at_start state)) (λ q about. refl)),
    )
    | inr n ↦ inl (λ f a. n (arrives-none state at f a).0)
  ]
  arrived-by at inside before (suc lines) h =
      let instr = instr-exists state lines (omega arith) in
      let d = before lines (omega arith) in
      let within = formed-within p kind state lines instr.0 (formed-at p kind state formed lines instr.0 instr.1) in
      let next : suc lines ≡ lines + 1 = sym (add-one lines) in
      subst (λ k. Kept (length kind.variables) (Arrives state k at)) (sym next)
      (kept-same (length kind.variables) (OneMore state lines instr.0 at) (Arrives state (lines + 1) at)
      (λ f m. more-arrives state lines instr.0 instr.1 at f m) (λ f a. arrives-more state lines instr.0 instr.1 at f a)
      (kept-more (length kind.variables) (λ f. Arrives state lines at f ⊎ (JumpsTo instr.0 at × Way state lines f)) (Behind instr.0 (Way state lines)) (GoesOnTo instr.0 lines at) (λ q. answer_after instr.0 d.0 q)
      (goes-on-or-not instr.0 lines at)
      (agreed-after (length kind.variables) (Way state lines) d.0 (λ q. answer_after instr.0 d.0 q) instr.0 within (λ q about. refl) d.1)
      (kept-more (length kind.variables) (Arrives state lines at) (Way state lines) (JumpsTo instr.0 at) d.0 (jumps-or-not instr.0 at) d.1
      (arrived-by at inside before lines (omega arith)))))

  decided-below : (m at : ℕ) → at < m → at < length state.code → Decided (length kind.variables) state at
  decided-below zero at h inside = absurd (omega arith)
  decided-below (suc m) at h inside =
      let before : (b : ℕ) → b < at → Decided (length kind.variables) state b = λ b k. decided-below m b (omega arith) (omega arith) in
      elim (arrived-by at inside before at (omega arith)) [
        | inr some ↦ (some.0, arrived-way at some.0 some.1)
        | inl none ↦ ((λ q. false), nothing-way at (λ q. false) (unreached-here at inside before none) none (λ q about. refl))
      ]

  -- at each place it is known what all ways agree in
  pub decided : (at : ℕ) → at < length state.code → Decided (length kind.variables) state at
  decided at inside = decided-below (suc at) at (omega arith) inside
