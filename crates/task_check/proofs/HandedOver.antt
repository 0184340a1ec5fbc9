-- In a valid program what is handed over as held is held, and what is handed over as settled is settled, or will be.
use Rattle.std.proofs.Common.{◌≡◌, ℕ, ◌<◌, ◌≤◌, Option, Some, None, List, length, slice_get, sym, ◌∙◌, ap, inl, inr, arith, IsTrue}
use Rattle.std.specs.Option.{option_map}
use Rattle.task_syntax.specs.Places.{Each, IsFutureAt}
use Rattle.task_syntax.specs.Form.{IsWellFormed, IsFormedKind}
use Rattle.task_syntax.specs.Facts.{Facts, has}
use Rattle.task_syntax.specs.Valid.{Way, WillSettle, Agrees, HeldArgument, WillSettleArgument, SpawnsSoundly, RespawnsSoundly, IsSoundState, IsSoundKind, IsBehind, IsSoundRoot, IsValid, sort_of, sort_of_root}
use Rattle.task_syntax.specs.declared.program.Sort.{Sort}
use Rattle.task_syntax.specs.declared.program.Sort.TheVariants as sort
use Rattle.task_syntax.specs.declared.program.Variable.{Variable}
use Rattle.task_syntax.specs.declared.instr.Argument.{Argument}
use Rattle.task_syntax.specs.declared.instr.Argument.TheVariants as argument
use Rattle.task_syntax.specs.declared.program.RootArgument.{RootArgument}
use Rattle.task_syntax.specs.declared.program.RootArgument.TheVariants as root_argument
use Rattle.task_syntax.specs.declared.program.State.{State}
use Rattle.task_syntax.specs.declared.program.Kind.{Kind}
use Rattle.task_syntax.specs.declared.program.Root.{Root}
use Rattle.task_syntax.specs.declared.program.Program.{Program}
use Rattle.task_check.specs.Laws.{IsStateOf, IsSettledBehind, IsSpawnAt, IsRespawnAt, PassesFuture}
use Rattle.task_check.proofs.Passing.{some-inside}
use Rattle.task_check.proofs.Sound.{at-has, has-at}

-- what all ways agree in is so on each way
will-on_way : (state : State) (at : ℕ) (f : Facts) → Way state at f → (behind : Option ℕ) (x : ℕ) → WillSettle state at behind x → IsSettledBehind f behind x
will-on_way state at f way None x h = h f way
will-on_way state at f way (Some g) x h = elim h [
  | inl s ↦ inl (s f way)
  | inr more ↦ elim more [ inl e ↦ inr (inl e) | inr m ↦ inr (inr (m f way)) ]
]

-- of a sound kind, an entry state holds arguments alone, which agree in sort with what is passed for them
entry-passed : {A : Type 0} (sort_by : A → Sort) (p : Program) (kind : Kind) (entry : State) (arguments : List A) → IsFormedKind p kind → IsSoundKind p kind
    → Agrees sort_by kind arguments → slice_get kind.states 0 ≡ Some entry → (x : ℕ) → IsTrue (has x entry.holds) → IsFutureAt kind x
    → (a : A) × (slice_get arguments x ≡ Some a) × (sort_by a ≡ sort.Future)
entry-passed {A} sort_by p kind entry arguments formed sound agrees is_entry x holds future =
    let h = has-at entry.holds x holds in
    let l : x < kind.arguments = sound.entry entry is_entry h.0 x h.1 in
    let as_many : length arguments ≡ kind.arguments = agrees.0 in
    let fits : kind.arguments ≤ length kind.variables = formed.arguments_are_variables in
    let a = some-inside arguments x (omega (arith, l, as_many)) in
    let v = some-inside kind.variables x (omega (arith, l, fits)) in
    let of_sort : Some v.0.sort ≡ Some sort.Future = sym (ap (λ o. option_map (λ (w : Variable). w.sort) o) v.1) ∙ future in
    let same : v.0.sort ≡ sort.Future = cc of_sort in
    (a.0, a.1, sym (agrees.1 x a.0 v.0 a.1 v.1) ∙ same)

module _ (p : Program) (formed : IsWellFormed p) (valid : IsValid p) where
  -- what an entry state settles it holds, as an argument of sort future
  settled-holds : (kind : Kind) (entry : State) → ((at : ℕ) × (slice_get p.kinds at ≡ Some kind)) → slice_get kind.states 0 ≡ Some entry
      → (i x : ℕ) → slice_get entry.settled i ≡ Some x → IsTrue (has x entry.holds) × IsFutureAt kind x
  settled-holds kind entry (at, is_kind) is_entry i x e =
      (((valid.kinds at kind is_kind).states 0 entry is_entry).settled_held i x e, ((formed.kinds at kind is_kind).states 0 entry is_entry).settled i x e)

  module _ (state : State) (at : ℕ) (entry : State) (arguments : List Argument) (behind : Option ℕ) (s : IsSpawnAt p state at entry arguments behind)
      (sound : SpawnsSoundly s.kind state at arguments behind) (f : Facts) (way : Way state at f) where
    argument-at : (x : ℕ) → IsTrue (has x entry.holds) → IsFutureAt s.kind x → (a : Argument) × (slice_get arguments x ≡ Some a) × (sort_of a ≡ sort.Future)
    argument-at = entry-passed sort_of p s.kind entry arguments (formed.kinds s.callee s.kind s.is_kind) (valid.kinds s.callee s.kind s.is_kind) sound.agrees s.is_entry

    spawn-settled : Each entry.settled (PassesFuture arguments (IsSettledBehind f behind))
    spawn-settled i x e =
        let h = settled-holds s.kind entry (s.callee, s.is_kind) s.is_entry i x e in
        let a = argument-at x h.0 h.1 in
        by a.0 a.1 a.2 (sound.settled entry s.is_entry i x e a.0 a.1)
      where
        by : (a : Argument) → slice_get arguments x ≡ Some a → sort_of a ≡ sort.Future → WillSettleArgument state at behind a
            → PassesFuture arguments (IsSettledBehind f behind) x
        by (argument.Number n) g of_sort w = cc of_sort
        by (argument.Future y) g of_sort w = (y, g, will-on_way state at f way behind y w)

    spawn-held : Each entry.holds (PassesFuture arguments (λ x. IsTrue (has x f.held)))
    spawn-held i x e =
        let future : IsFutureAt s.kind x = ((formed.kinds s.callee s.kind s.is_kind).states 0 entry s.is_entry).holds i x e in
        let a = argument-at x (at-has entry.holds i x e) future in
        by a.0 a.1 a.2 (sound.held x a.0 a.1)
      where
        by : (a : Argument) → slice_get arguments x ≡ Some a → sort_of a ≡ sort.Future → HeldArgument state at a → PassesFuture arguments (λ y. IsTrue (has y f.held)) x
        by (argument.Number n) g of_sort h = cc of_sort
        by (argument.Future y) g of_sort h = (y, g, h f way)

  -- what the line of a state needs, in a valid program
  sound-at : (kind : Kind) (state : State) → IsStateOf p kind state → IsSoundState p kind state
  sound-at kind state s = (valid.kinds s.kind_at kind s.is_kind).states s.state_at state s.is_state

  -- what an entry state settles is passed, and is settled or will be
  pub spawns-settled : (kind : Kind) (state : State) → IsStateOf p kind state
      → (at : ℕ) (entry : State) (arguments : List Argument) (behind : Option ℕ) → IsSpawnAt p state at entry arguments behind
      → (f : Facts) → Way state at f → Each entry.settled (PassesFuture arguments (IsSettledBehind f behind))
  spawns-settled kind state of_kind at entry arguments behind s f way =
      spawn-settled state at entry arguments behind s ((sound-at kind state of_kind).instrs at _ s.stands s.kind s.is_kind) f way

  -- what an entry state holds is passed, and is held
  pub spawns-held : (kind : Kind) (state : State) → IsStateOf p kind state
      → (at : ℕ) (entry : State) (arguments : List Argument) (behind : Option ℕ) → IsSpawnAt p state at entry arguments behind
      → (f : Facts) → Way state at f → Each entry.holds (PassesFuture arguments (λ x. IsTrue (has x f.held)))
  spawns-held kind state of_kind at entry arguments behind s f way =
      spawn-held state at entry arguments behind s ((sound-at kind state of_kind).instrs at _ s.stands s.kind s.is_kind) f way

  respawn-sound : (kind : Kind) (state : State) → IsStateOf p kind state → (at : ℕ) (target : State) (behind : Option ℕ) → IsRespawnAt kind state at target behind
      → RespawnsSoundly target state at behind
  respawn-sound kind state of_kind at target behind s = (sound-at kind state of_kind).instrs at _ s.stands target s.is_target

  -- what a target settles is settled, or will be
  pub respawns-settled : (kind : Kind) (state : State) → IsStateOf p kind state
      → (at : ℕ) (target : State) (behind : Option ℕ) → IsRespawnAt kind state at target behind
      → (f : Facts) → Way state at f → Each target.settled (IsSettledBehind f behind)
  respawns-settled kind state of_kind at target behind s f way i x e =
      will-on_way state at f way behind x ((respawn-sound kind state of_kind at target behind s).settled i x e)

  -- what a target holds is held
  pub respawns-held : (kind : Kind) (state : State) → IsStateOf p kind state
      → (at : ℕ) (target : State) (behind : Option ℕ) → IsRespawnAt kind state at target behind
      → (f : Facts) → Way state at f → Each target.holds (λ x. IsTrue (has x f.held))
  respawns-held kind state of_kind at target behind s f way i x e = (respawn-sound kind state of_kind at target behind s).held i x e f way

  -- what a root passes as settled is its predecessor
  pub roots-predecessor : (root : Root) (kind : Kind) (entry : State)
      → ((position : ℕ) × (slice_get p.roots position ≡ Some root)) → slice_get p.kinds root.kind ≡ Some kind → slice_get kind.states 0 ≡ Some entry
      → Each entry.settled (λ position. (r : ℕ) × (slice_get root.arguments position ≡ Some (root_argument.Root r)) × (root.behind ≡ Some r))
  roots-predecessor root kind entry (place, is_root) is_kind is_entry i x e =
      let sound : IsSoundRoot p root = valid.roots place root is_root in
      let h = settled-holds kind entry (root.kind, is_kind) is_entry i x e in
      let a = entry-passed sort_of_root p kind entry root.arguments (formed.kinds root.kind kind is_kind) (valid.kinds root.kind kind is_kind)
      (sound.agrees kind is_kind) is_entry x h.0 h.1 in
      by a.0 a.1 a.2 (sound.settled kind is_kind entry is_entry i x e a.0 a.1)
    where
      by : (a : RootArgument) → slice_get root.arguments x ≡ Some a → sort_of_root a ≡ sort.Future → IsBehind root.behind a
          → (r : ℕ) × (slice_get root.arguments x ≡ Some (root_argument.Root r)) × (root.behind ≡ Some r)
      by (root_argument.Number n) g of_sort b = cc of_sort
      by (root_argument.Root r) g of_sort b = (r, g, b)
