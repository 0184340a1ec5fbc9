-- The lines of a well-formed program may stand one behind the other: states, kinds and roots.
use Rattle.task_writer.proofs.Vocabulary.{Sort, ◌≡◌, ℕ, zero, suc, ◌<◌, ◌≤◌, Some, List, [], ◌∷◌, ◌++◌, map, length, take, drop, slice_get, refl, sym, ◌∙◌, ap, subst, arith, append_assoc, append-nil, flat_map, length-map, map-append, take-append-drop, length-take-le, IsName, Each, AllDiffer, IsFutureAt, IsFormedState, IsFormedKind, IsFormedRootArgument, IsWellFormed, Variable, State, Kind, RootArgument, Root, Program, differ-front, differ-map, What, Place, Outside, Head, Ended, Scope, first_scope, after, is_variable, IsNew, MayBegin, place_where, name_at, kind_names, variable_names, state_names, root_names, state_lines, var_lines, kind_lines, root_term_of, root_line, lines_of_program, get-at, true, ◌+◌, AllGiven, known_among, line_uses, given-both, futures-listed, UsesRoot, root_term_use, Known, is_given, names_in, code_lines, IsFormedRoot}
use Rattle.task_writer.proofs.Writable.{AllOf, IsWritableVariable, IsWritableRootTerm}
use Rattle.task_writer.proofs.WritableSteps.{position-named, variable-named, all-writable, some-writable}
use Rattle.task_writer.proofs.Found.{new-before, length-front}
use Rattle.task_writer.proofs.ReadPlaces.{stands-at, variable-place, name-among}
use Rattle.task_writer.proofs.Itemized.{items_at}
use Rattle.task_writer.proofs.ReadStates.{states_lines, states-end-code, states-named}
use Rattle.task_writer.proofs.ReadKinds.{inner-behind}
use Rattle.task_writer.proofs.ReadRoots.{earlier-name}
use Rattle.task_writer.proofs.KnownSteps.{each-in, behind-in, kind-in, futures-in}
use Rattle.task_writer.proofs.StandingCode.{Stands, Follows, code-stands}

-- ---- lists of names

-- the name of what stands behind others is new among theirs
name-new : {X : Type 0} (name : X → List ℕ) (front : List X) (x : X) (back all : List X) (taken : List (List ℕ)) → all ≡ front ++ x ∷ back → AllDiffer (map name all) → taken ≡ map name front → IsNew (name x) taken
name-new name front x back all taken e differ is =
    let apart : AllDiffer (map name front ++ map name (x ∷ back)) = subst (λ ns. AllDiffer ns) (ap (map name) e ∙ map-append name front (x ∷ back)) differ in
    subst (λ ns. IsNew (name x) ns) (sym is) (new-before (map name front) (map name (x ∷ back)) 0 (name x) apart refl)

names-snoc : {X : Type 0} (name : X → List ℕ) (front : List X) (x : X) (taken : List (List ℕ)) → taken ≡ map name front → taken ++ name x ∷ [] ≡ map name (front ++ x ∷ [])
names-snoc name front x taken is = ap (λ ns. ns ++ name x ∷ []) is ∙ sym (map-append name front (x ∷ []))

count-below : {X : Type 0} (name : X → List ℕ) (front : List X) (x : X) (back all : List X) (taken : List (List ℕ)) (limit : ℕ) → all ≡ front ++ x ∷ back → taken ≡ map name front → length all ≤ limit → length taken < limit
count-below name front x back all taken limit e is fits =
    let short = length-front front x back all e in
    let mapped : length (map name front) ≡ length front = rw length-map refl in
    let len : length taken ≡ length front = ap (λ (ns : List (List ℕ)). length ns) is ∙ mapped in
    omega (arith, short, len, fits)

-- ---- states

-- two futures of a kind with one name are one
futures-apart : (kind : Kind) → AllDiffer kind.variables → (x y : ℕ) → IsFutureAt kind x → IsFutureAt kind y
    → name_at (variable_names kind.variables) x ≡ name_at (variable_names kind.variables) y → x ≡ y
futures-apart kind differ x y f g e =
    sym (variable-place kind.variables differ Sort.Future x (stands-at kind.variables Sort.Future x f))
    ∙ (ap (λ name. place_where (is_variable Sort.Future name) kind.variables) e
    ∙ variable-place kind.variables differ Sort.Future y (stands-at kind.variables Sort.Future y g))

futures-differ : (kind : Kind) → AllDiffer kind.variables → (xs : List ℕ) → Each xs (IsFutureAt kind) → AllDiffer xs → AllDiffer (map (name_at (variable_names kind.variables)) xs)
futures-differ kind differ xs h d =
    differ-map (name_at (variable_names kind.variables)) xs (λ i j x y e f same. futures-apart kind differ x y (h i x e) (h j y f) same) d

-- the scope in a kind, behind the first of its states
pub record InKind (kind : Kind) (kinds roots : List (List ℕ)) (front : List State) (s : Scope) : Type 0 where
  pub kinds_are : s.kinds ≡ kinds
  pub roots_are : s.roots ≡ roots
  pub variables_are : s.variables ≡ kind.variables
  pub states_are : s.states ≡ state_names front

-- what follows the states of a kind may stand behind its last one
abbrev pub FollowsStates : List (List ℕ) → Kind → List (List ℕ) → List (List ℕ) → List State → List What → Type 0
FollowsStates names kind kinds roots front tail = (t : Scope) (m : ℕ) → InKind kind kinds roots front t → t.place ≡ Ended → Stands names t m tail

state-stands : (p : Program) (kind : Kind) → Each p.kinds (λ (k : Kind). IsName k.name) → IsFormedKind p kind → (kinds roots : List (List ℕ)) (front : List State) (state : State) (more : List State)
    → kind.states ≡ front ++ state ∷ more → IsFormedState p kind state → (rest : List What)
    → FollowsStates (kind_names p.kinds) kind kinds roots (front ++ state ∷ []) (states_lines (kind_names p.kinds) kind more rest)
    → (s : Scope) (m : ℕ) → InKind kind kinds roots front s → MayBegin s.place → Stands (kind_names p.kinds) s m (states_lines (kind_names p.kinds) kind (state ∷ more) rest)
unfolding state_lines
state-stands p kind named formed kinds roots front state more e f rest next s m i place =
    let name : State → List ℕ = λ z. z.name in
    let K = kind_names p.kinds in
    let vs = variable_names kind.variables in
    let future = variable-named kind formed.variable_names Sort.Future in
    let w = What.State state.name (map (name_at vs) state.holds) (map (name_at vs) state.settled) in
    let ns = s.states ++ state.name ∷ [] in
    let lines = code_lines (names_in K kind state) state.code in
    let tail = states_lines K kind more rest in
    let k = known_among K s (items_at (m + 1) (lines ++ tail)) in
    let here = names-snoc name front state s.states i.states_are in
    let whole : kind.states ≡ (front ++ state ∷ []) ++ more = e ∙ sym (append_assoc front (state ∷ []) more) in
    let names : ns ++ state_names more ≡ state_names kind.states = ap (λ z. z ++ state_names more) here ∙ (sym (map-append name (front ++ state ∷ []) more) ∙ ap (map name) (sym whole)) in
    let follows : Follows K kind kinds roots ns state tail = record {
      ends = states-end-code K kind more rest;
      named = λ m. ap (λ z. ns ++ z) (states-named K kind more m rest) ∙ names;
      next = λ t m c ended. next t m (record { kinds_are = c.kinds_are; roots_are = c.roots_are; variables_are = c.variables_are; states_are = c.states_are ∙ here }) ended;
    } in
    let body : Stands K s m (w ∷ (lines ++ tail)) = (
      (f.name, (all-writable (IsFutureAt kind) IsName (name_at vs) future state.holds f.holds, (all-writable (IsFutureAt kind) IsName (name_at vs) future state.settled f.settled, tt))),
      (
        place,
        count-below name front state more kind.states s.states 32 e i.states_are formed.states_fit,
        name-new name front state more kind.states s.states e formed.state_names_differ i.states_are,
        futures-differ kind formed.variables_differ state.holds f.holds f.holds_differ,
        futures-differ kind formed.variables_differ state.settled f.settled f.settled_differ,
      ),
      (refl, (refl, given-both k _ _ (futures-listed k _ (futures-in k kind i.variables_are state.holds f.holds)) (futures-listed k _ (futures-in k kind i.variables_are state.settled f.settled)))),
      code-stands p kind state named formed f kinds roots ns tail follows state.code (after s w) (m + 1) refl
          (record { kinds_are = i.kinds_are; roots_are = i.roots_are; variables_are = i.variables_are; states_are = refl; labels_are = refl; steps_are = refl }) refl,
    ) in
    subst (λ ws. Stands K s m (w ∷ ws)) (sym (append_assoc lines (flat_map (state_lines K kind) more) (What.End ∷ rest))) body

-- the states from one on, where a state may begin; where none is left, one has ended
states-stand : (p : Program) (kind : Kind) → Each p.kinds (λ (k : Kind). IsName k.name) → IsFormedKind p kind → (kinds roots : List (List ℕ)) (rest : List What)
    → FollowsStates (kind_names p.kinds) kind kinds roots kind.states (What.End ∷ rest) → (todo front : List State) → kind.states ≡ front ++ todo
    → (s : Scope) (m : ℕ) → InKind kind kinds roots front s → MayBegin s.place → (todo ≡ [] → s.place ≡ Ended) → Stands (kind_names p.kinds) s m (states_lines (kind_names p.kinds) kind todo rest)
states-stand p kind named formed kinds roots rest next [] front e s m i begin ended =
    next s m (subst (λ (c : List State). InKind kind kinds roots c s) (sym (e ∙ append-nil front)) i) (ended refl)
states-stand p kind named formed kinds roots rest next (state ∷ todo) front e s m i begin ended =
    let at : slice_get kind.states (length front) ≡ Some state = ap (λ (c : List State). slice_get c (length front)) e ∙ get-at front state todo in
    let whole : kind.states ≡ (front ++ state ∷ []) ++ todo = e ∙ sym (append_assoc front (state ∷ []) todo) in
    state-stands p kind named formed kinds roots front state todo e (formed.states (length front) state at) rest
    (λ t m j place. states-stand p kind named formed kinds roots rest next todo (front ++ state ∷ []) whole t m j (subst (λ (q : Place). MayBegin q) (sym place) tt) (λ none. place)) s m i begin

-- ---- kinds

each-front : {X : Type 0} (P : X → Type 0) (xs : List X) → Each xs P → AllOf P xs
each-front P [] h = tt
each-front P (x ∷ xs) h = (h zero x refl, each-front P xs (λ i. h (suc i)))

all-parts : {X : Type 0} (P : X → Type 0) (front back : List X) → AllOf P (front ++ back) → AllOf P front × AllOf P back
all-parts P [] back h = (tt, h)
all-parts P (x ∷ front) back h = let r = all-parts P front back h.1 in ((h.0, r.0), r.1)

-- the line of the other variables, where there are any, and what follows it
locals-stand : (names : List (List ℕ)) (kind : Kind) (arguments locals : List Variable) (s : Scope) (m : ℕ) (tail : List What) → arguments ++ locals ≡ kind.variables → AllDiffer kind.variables → length kind.variables ≤ 255
    → AllOf IsWritableVariable locals → s.place ≡ Head → s.variables ≡ arguments
    → ((t : Scope) (m : ℕ) → t.place ≡ Head → t.kinds ≡ s.kinds → t.roots ≡ s.roots → t.variables ≡ kind.variables → t.states ≡ s.states → Stands names t m tail)
    → Stands names s m (var_lines locals ++ tail)
locals-stand names kind arguments [] s m tail e differ fits named place is next = next s m place refl refl (is ∙ (sym (append-nil arguments) ∙ e)) refl
locals-stand names kind arguments (v ∷ vs) s m tail e differ fits named place is next =
    let all : s.variables ++ v ∷ vs ≡ kind.variables = ap (λ xs. xs ++ v ∷ vs) is ∙ e in (
      ((λ z. cc, named), tt),
      (place, subst (λ xs. AllDiffer xs) (sym all) differ, subst (λ (xs : List Variable). length xs ≤ 255) (sym all) fits),
      tt,
      next (after s (What.Var (v ∷ vs))) (m + 1) place refl refl all refl,
    )

kind-stands : (p : Program) → IsWellFormed p → Each p.kinds (λ (k : Kind). IsName k.name) → (front : List Kind) (kind : Kind) (more : List Kind) → p.kinds ≡ front ++ kind ∷ more → IsFormedKind p kind
    → (tail : List What) (s : Scope) (m : ℕ) → s.place ≡ Outside → s.kinds ≡ kind_names front
    → ((t : Scope) (m : ℕ) → t.place ≡ Outside → t.kinds ≡ kind_names (front ++ kind ∷ []) → t.roots ≡ s.roots → Stands (kind_names p.kinds) t m tail)
    → Stands (kind_names p.kinds) s m (kind_lines (kind_names p.kinds) kind ++ tail)
unfolding kind_lines
kind-stands p formed named front kind more e f tail s m place is next =
    let name : Kind → List ℕ = λ k. k.name in
    let n = kind.arguments in
    let vs = kind.variables in
    let K = kind_names p.kinds in
    let parts = take-append-drop n vs in
    let all = all-parts IsWritableVariable (take n vs) (drop n vs) (subst (λ xs. AllOf IsWritableVariable xs) (sym parts) (each-front IsWritableVariable vs f.variable_names)) in
    let some = f.has_state in
    let len = length-take-le n vs f.arguments_are_variables in
    let small = f.arguments_fit in
    let kinds = s.kinds ++ kind.name ∷ [] in
    let body : Stands K (after s (What.Kind kind.name (take n vs))) (m + 1) (var_lines (drop n vs) ++ states_lines K kind kind.states tail) =
    locals-stand K kind (take n vs) (drop n vs) (after s (What.Kind kind.name (take n vs))) (m + 1) (states_lines K kind kind.states tail) parts f.variables_differ f.variables_fit all.1 refl refl
    (λ t m head tk tr tv ts. states-stand p kind named f kinds s.roots tail
    (λ u m i ended. (tt, ended, tt, next (after u What.End) (m + 1) refl (i.kinds_are ∙ names-snoc name front kind s.kinds is) i.roots_are))
    kind.states [] refl t m (record { kinds_are = tk; roots_are = tr; variables_are = tv; states_are = ts })
    (subst (λ (q : Place). MayBegin q) (sym head) tt) (λ none. let len : length kind.states ≡ 0 = ap (λ (c : List State). length c) none in absurd (omega (arith, some, len)))) in (
      (f.name, (all.0, tt)),
      (
        place,
        count-below name front kind more p.kinds s.kinds 64 e is formed.kinds_fit,
        name-new name front kind more p.kinds s.kinds e formed.kind_names_differ is,
        differ-front (take n vs) (drop n vs) (subst (λ xs. AllDiffer xs) (sym parts) f.variables_differ),
        omega (arith, len, small),
      ),
      tt,
      subst (λ ws. Stands K (after s (What.Kind kind.name (take n vs))) (m + 1) ws) (sym (inner-behind K kind tail)) body,
    )

kinds-stand : (p : Program) → IsWellFormed p → Each p.kinds (λ (k : Kind). IsName k.name) → (tail : List What) (roots : List (List ℕ))
    → ((t : Scope) (m : ℕ) → t.place ≡ Outside → t.roots ≡ roots → Stands (kind_names p.kinds) t m tail)
    → (todo front : List Kind) → p.kinds ≡ front ++ todo → (s : Scope) (m : ℕ) → s.place ≡ Outside → s.kinds ≡ kind_names front → s.roots ≡ roots
    → Stands (kind_names p.kinds) s m (flat_map (kind_lines (kind_names p.kinds)) todo ++ tail)
kinds-stand p formed named tail roots next [] front e s m place is none = next s m place none
kinds-stand p formed named tail roots next (kind ∷ todo) front e s m place is none =
    let K = kind_names p.kinds in
    let at : slice_get p.kinds (length front) ≡ Some kind = ap (λ (c : List Kind). slice_get c (length front)) e ∙ get-at front kind todo in
    let whole : p.kinds ≡ (front ++ kind ∷ []) ++ todo = e ∙ sym (append_assoc front (kind ∷ []) todo) in
    subst (λ ws. Stands K s m ws) (sym (append_assoc (kind_lines K kind) (flat_map (kind_lines K) todo) tail))
    (kind-stands p formed named front kind todo e (formed.kinds (length front) kind at) (flat_map (kind_lines K) todo ++ tail) s m place is
    (λ t m out tk tr. kinds-stand p formed named tail roots next todo (front ++ kind ∷ []) whole t m out tk (tr ∙ none)))

-- ---- roots

root-argument-writable : (roots : List Root) → Each roots (λ (r : Root). IsName r.name) → (at : ℕ) → at < length roots → (a : RootArgument) → IsFormedRootArgument at a → IsWritableRootTerm (root_term_of (root_names roots) a)
root-argument-writable roots named at l (RootArgument.Number n) f = f
root-argument-writable roots named at l (RootArgument.Root root) f = position-named (λ (r : Root). r.name) roots named root (omega (arith, f, l))

root-in : (k : Known) (earlier names : List (List ℕ)) → k.roots ≡ earlier → ((at : ℕ) → at < length earlier → slice_get earlier at ≡ Some (name_at names at))
    → (at : ℕ) → at < length earlier → is_given k (UsesRoot (name_at names at)) ≡ true
root-in k earlier names e named at l = rw e (name-among earlier at (name_at names at) (named at l))

root-term-in : (k : Known) (earlier names : List (List ℕ)) → k.roots ≡ earlier → ((at : ℕ) → at < length earlier → slice_get earlier at ≡ Some (name_at names at))
    → (a : RootArgument) → IsFormedRootArgument (length earlier) a → is_given k (root_term_use (root_term_of names a)) ≡ true
root-term-in k earlier names e named (RootArgument.Number n) formed = refl
root-term-in k earlier names e named (RootArgument.Root at) formed = root-in k earlier names e named at formed

root-given : (k : Known) (p : Program) → k.kinds ≡ kind_names p.kinds → (earlier names : List (List ℕ)) → k.roots ≡ earlier
    → ((at : ℕ) → at < length earlier → slice_get earlier at ≡ Some (name_at names at)) → (root : Root) → IsFormedRoot p (length earlier) root
    → AllGiven k (line_uses (root_line (kind_names p.kinds) names root))
unfolding root_line
root-given k p kinds earlier names e named root formed =
    let arguments = each-in k root_term_use (root_term_of names) (IsFormedRootArgument (length earlier)) (λ a f. root-term-in k earlier names e named a f) root.arguments formed.arguments in
    let behind = behind-in k UsesRoot (name_at names) (λ at. at < length earlier) (λ at l. root-in k earlier names e named at l) root.behind formed.behind in
    (refl, (refl, (kind-in k.kinds p kinds root.kind formed.kind, given-both k _ _ arguments behind)))

roots-stand : (p : Program) → IsWellFormed p → Each p.kinds (λ (k : Kind). IsName k.name) → Each p.roots (λ (r : Root). IsName r.name)
    → (todo front : List Root) → p.roots ≡ front ++ todo → (s : Scope) (m : ℕ) → s.place ≡ Outside → s.roots ≡ root_names front
    → Stands (kind_names p.kinds) s m (map (root_line (kind_names p.kinds) (root_names p.roots)) todo)
unfolding root_line
roots-stand p formed named rooted [] front e s m place is = place
roots-stand p formed named rooted (root ∷ todo) front e s m place is =
    let name : Root → List ℕ = λ r. r.name in
    let at : slice_get p.roots (length front) ≡ Some root = ap (λ (c : List Root). slice_get c (length front)) e ∙ get-at front root todo in
    let f = formed.roots (length front) root at in
    let short = length-front front root todo p.roots e in
    let whole : p.roots ≡ (front ++ root ∷ []) ++ todo = e ∙ sym (append_assoc front (root ∷ []) todo) in
    let R = root_names p.roots in
    let w = root_line (kind_names p.kinds) R root in
    let k = known_among (kind_names p.kinds) s (items_at (m + 1) (map (root_line (kind_names p.kinds) R) todo)) in
    let size : length (root_names front) ≡ length front = rw length-map refl in
    let earlier : (at : ℕ) → at < length (root_names front) → slice_get (root_names front) at ≡ Some (name_at R at) =
    λ at l. earlier-name (root_names front) (root_names (root ∷ todo)) at l ∙ ap (λ all. Some (name_at all at)) (sym (ap (map name) e ∙ map-append name front (root ∷ todo))) in (
      (
        f.name,
        (
          position-named (λ (k : Kind). k.name) p.kinds named root.kind f.kind,
          (
            all-writable (IsFormedRootArgument (length front)) IsWritableRootTerm (root_term_of R) (root-argument-writable p.roots rooted (length front) short) root.arguments f.arguments,
            (some-writable (λ earlier. earlier < length front) (name_at R) (λ earlier l. position-named name p.roots rooted earlier (omega (arith, l, short))) root.behind f.behind, (tt, tt)),
          ),
        ),
      ),
      (
        place,
        count-below name front root todo p.roots s.roots 16 e is formed.roots_fit,
        name-new name front root todo p.roots s.roots e formed.root_names_differ is,
        rw length-map f.arguments_fit,
      ),
      root-given k p refl (root_names front) R is earlier root (subst (λ n. IsFormedRoot p n root) (sym size) f),
      roots-stand p formed named rooted todo (front ++ root ∷ []) whole (after s w) (m + 1) place (names-snoc name front root s.roots is),
    )

-- ---- programs

pub lines-stand : (p : Program) → IsWellFormed p → Stands (kind_names p.kinds) first_scope 2 (lines_of_program p)
unfolding lines_of_program
lines-stand p formed =
    let named : Each p.kinds (λ (k : Kind). IsName k.name) = λ i k e. (formed.kinds i k e).name in
    let rooted : Each p.roots (λ (r : Root). IsName r.name) = λ i r e. (formed.roots i r e).name in
    kinds-stand p formed named (map (root_line (kind_names p.kinds) (root_names p.roots)) p.roots) []
    (λ t m out none. roots-stand p formed named rooted p.roots [] refl t m out none) p.kinds [] refl first_scope 2 refl refl refl
