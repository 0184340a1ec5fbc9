-- The names that a well-formed program has at its positions are names.
use Rattle.task_writer.proofs.Vocabulary.{◌≡◌, ◌≢◌, ℕ, zero, suc, ◌+◌, ◌<◌, Option, Some, None, List, [], ◌∷◌, map, drop, length, slice_get, refl, sym, ◌∙◌, ap, subst, arith, length-map, IfSome, IsName, EachAt, Each, IsFormedInstr, IsLabelAhead, Sort, Variable, State, Kind, Program, Instr, get-map, option_map, name_at, variable_names, label_names}
use Rattle.task_syntax.specs.declared.instr.Instr.TheVariants.{Label}
use Rattle.task_writer.proofs.Named.{name-found}
use Rattle.task_writer.proofs.ReadPlaces.{named-at, stands-at}
use Rattle.task_writer.proofs.ReadCode.{label-at}
use Rattle.task_writer.proofs.Writable.{AllOf}

-- what stands at a position of named things has a name
pub position-named : {X : Type 0} (name : X → List ℕ) (xs : List X) → Each xs (λ x. IsName (name x)) → (at : ℕ) → at < length xs → IsName (name_at (map name xs) at)
position-named name xs h at l =
    let e = named-at (map name xs) at (rw length-map l) in
    let x = get-map name xs at (name_at (map name xs) at) e in
    subst IsName x.2 (h at x.0 x.1)

pub variable-named : (kind : Kind) → Each kind.variables (λ (v : Variable). IsName v.name) → (sort : Sort) (at : ℕ)
    → option_map (λ (v : Variable). v.sort) (slice_get kind.variables at) ≡ Some sort → IsName (name_at (variable_names kind.variables) at)
variable-named kind h sort at e =
    let s = stands-at kind.variables sort at e in
    subst IsName (sym (name-found (λ (v : Variable). v.name) kind.variables at s.variable s.stands)) (h at s.variable s.stands)

from-next-all : {X : Type 0} (all : List X) (j : ℕ) → slice_get all (0 + 1 + j) ≡ slice_get (drop 1 all) j
from-next-all [] j = refl
from-next-all (x ∷ xs) j = let e : 0 + 1 + j ≡ suc j = omega arith in ap (slice_get (x ∷ xs)) e

-- the label at a target has a name
pub label-named : (p : Program) (kind : Kind) (state : State) → EachAt state.code (λ at line. IsFormedInstr p kind state at line.instr)
    → (at target : ℕ) → IsLabelAhead state at target → IsName (name_at (label_names state.code) target)
label-named p kind state formed at target ahead =
    let label = label-at state 0 (drop 1 state.code) (from-next-all state.code) target (omega (arith, ahead.0), ahead.1) in
    subst IsName (sym label.called)
    (by label.line.instr label.name label.is (formed target label.line (ap (slice_get state.code) (sym label.sum) ∙ (from-next-all state.code label.place ∙ label.stands)))) where
      by : (instr : Instr) (name : List ℕ) → instr ≡ Label name → IsFormedInstr p kind state target instr → IsName name
      by instr name e f = let P : Instr → Type 0 = IsFormedInstr p kind state target in subst P e f

-- ---- lists

pub all-writable : {A B : Type 0} (P : A → Type 0) (Q : B → Type 0) (f : A → B) → ((a : A) → P a → Q (f a)) → (xs : List A) → Each xs P → AllOf Q (map f xs)
all-writable P Q f one [] h = tt
all-writable P Q f one (x ∷ xs) h = (one x (h zero x refl), all-writable P Q f one xs (λ i. h (suc i)))

pub some-writable : {A : Type 0} (P : A → Type 0) (f : A → List ℕ) → ((a : A) → P a → IsName (f a)) → (o : Option A) → IfSome o P → IfSome (option_map f o) IsName
some-writable P f one None h = tt
some-writable P f one (Some a) h = one a h

pub map-begun : {A B : Type 0} (f : A → B) (xs : List A) → 0 < length xs → map f xs ≢ []
map-begun f [] h e = omega (arith, h)
map-begun f (x ∷ xs) h e = cc
