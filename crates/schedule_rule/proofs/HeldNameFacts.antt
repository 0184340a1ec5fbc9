-- What a frame holds names units: where it moves, where a task begins, and where it goes on.
use Rattle.std.proofs.Common.{◌≡◌, ◌≢◌, ◌∙◌, ◌⊎◌, inl, inr, ℕ, zero, suc, ◌+◌, ◌<◌, Bool, true, false, cond, nat_eq, Option, Some, None, List, [], ◌∷◌, ◌++◌, length, map, slice_get, slice_set, refl, sym, ap, subst, true≢false, arith}
use Rattle.std.specs.Prelude.{IsTrue}
use Rattle.std.specs.Option.{option_map}
use Rattle.std.proofs.lemmas.Bool.{cases_eq, eq-eqb, eqb-true}
use Rattle.std.proofs.lemmas.List.{get_or-set_same, get_or-set_other}
use Rattle.task_syntax.proofs.Bools.{either, has-without}
use Rattle.task_syntax.specs.Facts.{Facts, has, after}
use Rattle.task_syntax.specs.Form.{IsFormedInstr, Leaves}
use Rattle.task_syntax.specs.Places.{Each, IsFutureAt}
use Rattle.task_syntax.specs.Valid.{Way, starts, goes_on, Held, IsSoundInstr, RespawnsSoundly, SpawnsSoundly}
use Rattle.task_syntax.specs.declared.columns.Columns.{Columns}
use Rattle.task_syntax.specs.declared.instr.Argument.{Argument}
use Rattle.task_syntax.specs.declared.instr.Instr.{Instr}
use Rattle.task_syntax.specs.declared.instr.Instr.TheVariants.{Math, Cell, Spawn, All, Copy, Drop, Get, Again, Done}
use Rattle.task_syntax.specs.declared.instr.Line.{Line}
use Rattle.task_syntax.specs.declared.program.Kind.{Kind}
use Rattle.task_syntax.specs.declared.program.Program.{Program}
use Rattle.task_syntax.specs.declared.program.Sort.TheVariants as sort
use Rattle.task_syntax.specs.declared.program.State.{State}
use Rattle.task_syntax.specs.declared.program.Variable.{Variable}
use Rattle.task_syntax.specs.declared.value.Value.{Value}
use Rattle.task_syntax.specs.declared.value.Value.TheVariants as value
use Rattle.task_meaning.specs.Arithmetic.{computed, cell_at}
use Rattle.task_meaning.specs.Frame.{FrameOf, state_in, state_at, code_at, holds_in, holds_at, kept_from, operand}
use Rattle.task_meaning.specs.Meant.{future_at}
use Rattle.frame_code.specs.Control.{control_kind, control_at, is_aggregate}
use Rattle.frame_code.specs.Entries.{sort_of_passed, future_of}
use Rattle.frame_code.specs.Moves.{IsRespawn, passed_on}
use Rattle.frame_code.specs.Setting.{with_future}
use Rattle.frame_code.specs.Stops.{numbers_passed, variables_passed, trapped, stop_at, Passes, GoesTo, stays, passes}
use Rattle.frame_code.specs.Words.{BodyOf, OfKind, OfMembers, variable_list, variables_at, number_count, members_at, frame_at}
use Rattle.frame_code.specs.declared.act.Act.TheVariants as act
use Rattle.frame_code.specs.declared.act.SpawnRequest.{SpawnRequest}
use Rattle.frame_code.specs.declared.entries.Passed.{Passed}
use Rattle.frame_code.specs.declared.entries.Passed.TheVariants as passed
use Rattle.frame_code.proofs.FrameWays.{stands-there}
use Rattle.frame_code.proofs.Formed.{Moves, passes-moves}
use Rattle.frame_code.proofs.HeldActs.{item-within, acts-held}
use Rattle.frame_code.proofs.MovedFrames.{IsLineOf, line-of}
use Rattle.frame_code.proofs.Variables.{sort-within, length-futures}
use Rattle.table_core.proofs.ListFacts.{same_some}
use Rattle.schedule_rule.specs.Frames.{HoldsNames}
use Rattle.schedule_rule.specs.HeldNames.{PutsInto, StandsPutting, LinesHoldNames, ReadsHoldNames, PutsHoldNames, DropsHoldNames, EnteredHoldNames, EntriesHoldNames, ActsNameUnits, SpawnsMayPass}
use Rattle.schedule_rule.proofs.CoveringFacts.{asks-held}
use Rattle.schedule_rule.proofs.CoveringMoveFacts.{held-before, copy-held}

-- a line where a frame does not stop changes no future, and what is held behind it was held
line-names : (p : Program) (c : Columns) (q next : FrameOf ℕ) → Passes p c q next → HoldsNames p (OfKind q) → HoldsNames p (OfKind next)
line-names p c q next over names y state is held =
    let moves : Moves (over.0).instr q next = passes-moves q next c (over.0).instr (over.2).0 (over.2).1 in
    let was = held-before p c q next over state is y held in
    let it = names y state was.0 was.1 in (it.0, ap (λ (fs : List (Option ℕ)). future_at fs y) moves.futures ∙ it.1)

lines-names : (p : Program) (c : Columns) (q last : FrameOf ℕ) → GoesTo p c q last → HoldsNames p (OfKind q) → HoldsNames p (OfKind last)
lines-names p c q last stays names = names
lines-names p c q last (passes {at} {next} goes more) names = line-names p c at next more (lines-names p c q at goes names)

pub lines-hold : LinesHoldNames
lines-hold p c (OfKind q) (OfKind last) asked goes names = lines-names p c q last goes.0 names
lines-hold p c (OfMembers units next) (OfMembers same at) asked goes names = tt
lines-hold p c (OfKind q) (OfMembers units next) asked goes names = absurd goes
lines-hold p c (OfMembers units next) (OfKind last) asked goes names = absurd goes

-- what is held at the next line is held behind the instruction, on each way to it
held-next : (p : Program) (q : FrameOf ℕ) (line : Line) → slice_get (code_at p q.kind q.state) q.at ≡ Some line → ¬ Leaves line.instr → (state : State) → state_at p q.kind q.state ≡ Some state
    → (y : ℕ) → Held state (q.at + 1) y → (f : Facts) → Way state q.at f → IsTrue (has y (after line.instr f).held)
held-next p q line stands remains state is y held f way = held (after line.instr f) (goes_on line.instr way (stands-there p q state line is stands) remains)

-- past a read
pub reads-hold : ReadsHoldNames
reads-hold p (OfKind q) (OfKind last) n (line, stands, (to, x, is_read, same)) names = subst (λ (z : FrameOf ℕ). HoldsNames p (OfKind z)) (sym same)
    (λ y state is held. names y state is (λ f way. subst (λ (instr : Instr). IsTrue (has y (after instr f).held)) is_read
    (held-next p q line stands (subst (λ (instr : Instr). ¬ Leaves instr) (sym is_read) (λ leaves. leaves)) state is y held f way)))
reads-hold p (OfMembers units next) last n given names = absurd given
reads-hold p (OfKind q) (OfMembers units next) n given names = absurd given

-- what is held behind an instruction that puts a future into x is x, or was held
puts-held : (instr : Instr) (x y : ℕ) (f : Facts) → PutsInto x instr → IsTrue (has y (after instr f).held) → (y ≡ x) ⊎ IsTrue (has y f.held)
puts-held (Spawn to kind arguments behind priority retry) x y f is held = asks-held (Spawn to kind arguments behind priority retry) x y f is held
puts-held (All to members priority retry) x y f is held = asks-held (All to members priority retry) x y f is held
puts-held (Copy to source) x y f is held = elim (copy-held to source y f held) [ inl e ↦ inl (e ∙ is) | inr it ↦ inr it ]
puts-held instr x y f is held = absurd is

-- such an instruction goes on
puts-remains : (instr : Instr) (x : ℕ) → PutsInto x instr → ¬ Leaves instr
puts-remains (Spawn to kind arguments behind priority retry) x is leaves = leaves
puts-remains (All to members priority retry) x is leaves = leaves
puts-remains (Copy to source) x is leaves = leaves
puts-remains instr x is leaves = absurd is

-- and its variable is a future
puts-future : (p : Program) (kind : Kind) (state : State) (at : ℕ) (instr : Instr) (x : ℕ) → IsFormedInstr p kind state at instr → PutsInto x instr → IsFutureAt kind x
puts-future p kind state at (Spawn to callee arguments behind priority retry) x formed is = subst (IsFutureAt kind) is formed.0
puts-future p kind state at (All to members priority retry) x formed is = subst (IsFutureAt kind) is formed.0
puts-future p kind state at (Copy to source) x formed is = subst (IsFutureAt kind) is formed.0
puts-future p kind state at instr x formed is = absurd is

-- past an instruction that puts a future into a variable
pub puts-hold : PutsHoldNames
puts-hold p words x u formed stands names = by (is_aggregate (words 0)) stands names
  where
    body : Bool → BodyOf ℕ
    body b = cond b (OfMembers (members_at words) (control_at (words 0))) (OfKind (frame_at p words))

    by : (b : Bool) → StandsPutting p x (body b) → HoldsNames p (body b) → HoldsNames p (with_future x (Some u) (passed_on (body b)))
    by true here names' = absurd here
    by false (line, at, puts) names' = λ y state is held. on y state is held (cases_eq y x)
      where
        its : IsLineOf p (frame_at p words).kind (frame_at p words).state (frame_at p words).at line
        its = line-of p (frame_at p words).kind (frame_at p words).state (frame_at p words).at line at

        within : x < length (frame_at p words).futures
        within =
            let sort_is = puts-future p its.of_kind its.of_state (frame_at p words).at line.instr x
            (((formed.kinds (frame_at p words).kind its.of_kind its.is_kind).states (frame_at p words).state its.of_state its.is_state).instrs (frame_at p words).at line its.is_line) puts in
            omega (
              arith,
              sort-within (its.of_kind).variables x sort.Future sort_is,
              ap (λ (o : Option Kind). length (variable_list o)) its.is_kind,
              length-futures words (1 + number_count (variables_at p (control_kind (words 0)))) (variables_at p (control_kind (words 0))),
            )

        on : (y : ℕ) (state : State) → state_at p (frame_at p words).kind (frame_at p words).state ≡ Some state → Held state ((frame_at p words).at + 1) y → (y ≡ x) ⊎ (y ≢ x) → (unit : ℕ) × (future_at (slice_set (frame_at p words).futures x (Some u)) y ≡ Some unit)
        on y state is held (inl e) = (u, ap (future_at (slice_set (frame_at p words).futures x (Some u))) e ∙ get_or-set_same (frame_at p words).futures x (Some u) None within)
        on y state is held (inr ne) =
            let before : Held state (frame_at p words).at y = λ f way. elim (puts-held line.instr x y f puts (held-next p (frame_at p words) line at (puts-remains line.instr x puts) state is y held f way)) [
              | inl e ↦ absurd (ne e)
              | inr it ↦ it
            ] in
            let it = names' y state is before in (it.0, get_or-set_other (frame_at p words).futures x y (Some u) None ne ∙ it.1)

-- past a drop
pub drops-hold : DropsHoldNames
drops-hold p (OfKind q) x (line, stands, is_drop) way names = λ y state is held.
    let behind : (f : Facts) → Way state q.at f → IsTrue (has y (after (Drop x) f).held) = λ f to. subst (λ (instr : Instr). IsTrue (has y (after instr f).held)) is_drop
    (held-next p q line stands (subst (λ (instr : Instr). ¬ Leaves instr) (sym is_drop) (λ leaves. leaves)) state is y held f to) in
    let it = names y state is (λ f to. (has-without y x f.held (behind f to)).1) in
    let here : Way state q.at way.1 = subst (λ (z : State). Way z q.at way.1) (same_some way.0 state (sym way.2 ∙ is)) way.3 in
    let apart : y ≢ x = λ e. true≢false (sym (eq-eqb x y (sym e)) ∙ (has-without y x (way.1).held (behind way.1 here)).0) in
    (it.0, get_or-set_other q.futures x y None None apart ∙ it.1)
drops-hold p (OfMembers units next) x stands way names = absurd stands

-- what is in a list stands at some place of it
has-place : (x : ℕ) (xs : List ℕ) → has x xs ≡ true → (at : ℕ) × (slice_get xs at ≡ Some x)
has-place x [] is = absurd (true≢false (sym is))
has-place x (y ∷ ys) is = elim (either (nat_eq x y) (has x ys) is) [
  | inl e ↦ (0, ap Some (sym (eqb-true x y e)))
  | inr rest ↦ let t = has-place x ys rest in (suc t.0, t.1)
]

-- a future that is held is kept
kept-there : (from : ℕ) (held : List ℕ) (fs : List (Option ℕ)) (x : ℕ) → has (from + x) held ≡ true → future_at (kept_from from held fs) x ≡ future_at fs x
kept-there from held [] x is = refl
kept-there from held (f ∷ fs) zero is = let e : from + 0 ≡ from = omega arith in ap (λ (b : Bool). cond b f None) (ap (λ (k : ℕ). has k held) (sym e) ∙ is)
kept-there from held (f ∷ fs) (suc x) is = let e : (from + 1) + x ≡ from + suc x = omega arith in kept-there (from + 1) held fs x (ap (λ (k : ℕ). has k held) e ∙ is)

-- what is held at the start of a state is what it holds
held-start : (state : State) (x : ℕ) → Held state 0 x → has x state.holds ≡ true
held-start state x held = held _ starts

-- where a task enters a state, what the state holds was held
respawn-held : (p : Program) (kind : Kind) (state target : State) (at goal : ℕ) (instr : Instr) → IsSoundInstr p kind state at instr → IsRespawn goal instr → slice_get kind.states goal ≡ Some target
    → Each target.holds (Held state at)
respawn-held p kind state target at goal (Again named waits priority) sound is there =
    let soundly : RespawnsSoundly target state at waits = sound target (ap (slice_get kind.states) is ∙ there) in soundly.held
respawn-held p kind state target at goal instr sound is there = absurd is

-- in a next activation
pub entered-hold : EnteredHoldNames
entered-hold p target (OfMembers units next) formed valid may names = tt
entered-hold p target (OfKind q) formed valid (line, stands, goal) names = λ y state is held.
    let its = line-of p q.kind q.state q.at line stands in
    let sound = ((valid.kinds q.kind its.of_kind its.is_kind).states q.state its.of_state its.is_state).instrs q.at line.instr (ap (option_map (λ (l : Line). l.instr)) its.is_line) in
    let there : slice_get (its.of_kind).states target ≡ Some state = sym (ap (λ (o : Option Kind). state_in o target) its.is_kind) ∙ is in
    let place = has-place y state.holds (held-start state y held) in
    let was = respawn-held p its.of_kind its.of_state state q.at target line.instr sound goal there place.0 y place.1 in
    let it = names y its.of_state (ap (λ (o : Option Kind). state_in o q.state) its.is_kind ∙ its.is_state) was in
    let zero_more : 0 + y ≡ y = omega arith in
    (it.0, kept-there 0 (holds_at p q.kind target) q.futures y (ap (λ (k : ℕ). has k (holds_at p q.kind target)) zero_more ∙ ap (λ (o : Option State). has y (holds_in o)) is ∙ held-start state y held) ∙ it.1)

-- what is passed at a place is named by the variable there
passed-at : (given : List Passed) (more : List (Option ℕ)) (y : ℕ) (a : Passed) → slice_get given y ≡ Some a → future_at (map future_of given ++ more) y ≡ future_of a
passed-at [] more y a is = cc
passed-at (b ∷ bs) more zero a is = ap future_of (same_some b a is)
passed-at (b ∷ bs) more (suc y) a is = passed-at bs more y a is

-- what is passed for a future names a unit
future-unit : (a : Passed) → sort.Future ≡ sort_of_passed a → (unit : ℕ) × (future_of a ≡ Some unit)
future-unit (passed.Number n) is = cc
future-unit (passed.Future unit) is = (unit, refl)

-- a variable of a sort is there
variable-there : (vs : List Variable) (x : ℕ) → option_map (λ (v : Variable). v.sort) (slice_get vs x) ≡ Some sort.Future → (v : Variable) × (slice_get vs x ≡ Some v) × (v.sort ≡ sort.Future)
variable-there vs x is = by (slice_get vs x) refl is
  where
    by : (o : Option Variable) → slice_get vs x ≡ o → option_map (λ (v : Variable). v.sort) o ≡ Some sort.Future → (v : Variable) × (slice_get vs x ≡ Some v) × (v.sort ≡ sort.Future)
    by None at e = cc
    by (Some v) at e = (v, at, same_some v.sort sort.Future e)

-- in a first frame
pub entries-hold : EntriesHoldNames
entries-hold p kind given formed valid fits agrees y state is held =
    let k = item-within p.kinds kind fits in
    let there : slice_get (k.0).states 0 ≡ Some state = sym (ap (λ (o : Option Kind). state_in o 0) k.1) ∙ is in
    let place = has-place y state.holds (held-start state y held) in
    let agree = agrees k.0 k.1 in
    let a = item-within given y (omega (arith, agree.0, (valid.kinds kind k.0 k.1).entry state there place.0 y place.1)) in
    let v = variable-there (k.0).variables y (((formed.kinds kind k.0 k.1).states 0 state there).holds place.0 y place.1) in
    let it = future-unit a.0 (sym v.2 ∙ agree.1 y a.0 v.0 a.1 v.1) in
    let zero_more : 0 + y ≡ y = omega arith in (
      it.0,
      kept-there 0 (holds_at p kind 0) _ y (ap (λ (i : ℕ). has i (holds_at p kind 0)) zero_more ∙ ap (λ (o : Option State). has y (holds_in o)) is ∙ held-start state y held)
          ∙ passed-at given _ y a.0 a.1 ∙ it.1,
    )

-- what an act asks for is held, so it names units
pub acts-name : ActsNameUnits
acts-name p c q asked formed valid stops names at x there =
    let its = line-of p q.kind q.state q.at (stops.0) (stops.1) in
    let is : state_at p q.kind q.state ≡ Some its.of_state = ap (λ (o : Option Kind). state_in o q.state) its.is_kind ∙ its.is_state in
    names x its.of_state is ((acts-held p c q asked formed valid stops its.of_state is).0 at x there)

no-trap : (v : Value) (request : SpawnRequest) → trapped v ≡ Some (act.Spawn request) → ⊥
no-trap (value.Number n) request e = cc
no-trap (value.Trapped t) request e = cc

-- these are the arguments of a spawn by which this is asked for
pub record IsSpawnBy (q : FrameOf ℕ) (request : SpawnRequest) (instr : Instr) : Type 0 where
  pub arguments : List Argument
  pub instr_is : instr ≡ Spawn request.to request.kind arguments request.behind request.priority request.retry
  pub numbers : numbers_passed q.numbers arguments ≡ request.numbers
  pub futures : variables_passed arguments ≡ request.futures

-- where a spawn is asked for, a spawn stands
pub spawn-by : (c : Columns) (q : FrameOf ℕ) (request : SpawnRequest) (instr : Instr) → stop_at c instr q ≡ Some (act.Spawn request) → IsSpawnBy q request instr
spawn-by c q request (Math op to left right) e = absurd (no-trap (computed op (operand q.numbers left) (operand q.numbers right)) request e)
spawn-by c q request (Cell to column row) e = absurd (no-trap (cell_at c column (operand q.numbers row)) request e)
spawn-by c q request (Spawn to kind arguments waits priority retry) e =
    let made : SpawnRequest = record {
      to = to;
      kind = kind;
      numbers = numbers_passed q.numbers arguments;
      futures = variables_passed arguments;
      behind = waits;
      priority = priority;
      retry = retry;
    } in
    let same : made ≡ request = cc in
    subst (λ (r : SpawnRequest). IsSpawnBy q r (Spawn to kind arguments waits priority retry)) same (record { arguments = arguments; instr_is = refl; numbers = refl; futures = refl })
spawn-by c q request (All to members priority retry) e = cc
spawn-by c q request (Copy to source) e = cc
spawn-by c q request (Drop x) e = cc
spawn-by c q request (Get to x) e = cc
spawn-by c q request (Again target waits priority) e = cc
spawn-by c q request (Done a) e = cc
spawn-by c q request _ e = cc

-- a member of a list stands at the same place of a longer one
at-front : (xs ys : List ℕ) (at x : ℕ) → slice_get xs at ≡ Some x → slice_get (xs ++ ys) at ≡ Some x
at-front [] ys at x is = cc
at-front (z ∷ xs) ys zero x is = is
at-front (z ∷ xs) ys (suc at) x is = at-front xs ys at x is

-- what a spawn asks for may be passed
pub spawns-pass : SpawnsMayPass
spawns-pass p c q request formed valid stops names = (
  its.arguments,
  record {
    numbers = its.numbers;
    futures = its.futures;
    agrees = λ kind there. (soundly kind there).agrees;
    named = λ at x there. acts-name p c q (act.Spawn request) formed valid stops names at x (at-front request.futures _ at x (subst (λ (l : List ℕ). slice_get l at ≡ Some x) its.futures there));
  },
)
  where
    its : IsSpawnBy q request (stops.0).instr
    its = spawn-by c q request (stops.0).instr stops.2

    line : IsLineOf p q.kind q.state q.at stops.0
    line = line-of p q.kind q.state q.at stops.0 stops.1

    soundly : (kind : Kind) → slice_get p.kinds request.kind ≡ Some kind → SpawnsSoundly kind line.of_state q.at its.arguments request.behind
    soundly = subst (λ (instr : Instr). IsSoundInstr p line.of_kind line.of_state q.at instr) its.instr_is
        (((valid.kinds q.kind line.of_kind line.is_kind).states q.state line.of_state line.is_state).instrs q.at (stops.0).instr (ap (option_map (λ (l : Line). l.instr)) line.is_line))
