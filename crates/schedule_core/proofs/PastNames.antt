-- A frame past an act that puts a future into a variable, or drops it.
use Rattle.std.proofs.Common.{◌≡◌, ◌⊎◌, inl, inr, ℕ, ◌+◌, ◌<◌, ◌==◌, Bool, true, false, cond, Option, Some, ◌++◌, length, sym, ap, subst, arith}
use Rattle.std.specs.Prelude.{slice_get}
use Rattle.std.specs.Option.{option_to_list, option_map}
use Rattle.std.proofs.lemmas.List.{length-append}
use Rattle.record_core.specs.Counting.{times, one_if}
use Rattle.record_core.proofs.TotalFacts.{total-append}
use Rattle.task_syntax.specs.Form.{IsWellFormed, IsFormedInstr}
use Rattle.task_syntax.specs.Places.{IsFutureAt}
use Rattle.task_syntax.specs.declared.instr.Instr.{Instr}
use Rattle.task_syntax.specs.declared.instr.Instr.TheVariants.{Spawn, All, Copy, Drop}
use Rattle.task_syntax.specs.declared.program.Kind.{Kind}
use Rattle.task_syntax.specs.declared.program.Program.{Program}
use Rattle.task_syntax.specs.declared.program.Sort.TheVariants as sort
use Rattle.task_syntax.specs.declared.program.State.{State}
use Rattle.task_syntax.specs.declared.program.Variable.{Variable}
use Rattle.frame_code.specs.Control.{is_aggregate, control_at, control_kind}
use Rattle.frame_code.specs.Moves.{MayPass, IsPassed, passed_on}
use Rattle.frame_code.specs.Names.{names_of}
use Rattle.frame_code.specs.Setting.{BodyHasSort, unit_of, with_future}
use Rattle.frame_code.specs.Stops.{StandsAt}
use Rattle.frame_code.specs.Ways.{BodyHasWay}
use Rattle.frame_code.specs.Words.{BodyOf, OfKind, OfMembers, body_at, frame_at, members_at, number_count, variable_list, variables_at}
use Rattle.frame_code.proofs.MovedFrames.{IsLineOf, line-of}
use Rattle.frame_code.proofs.NameChanges.{name-changes}
use Rattle.frame_code.proofs.Variables.{sort-within, length-futures}
use Rattle.frame_code.proofs.WayLaws.{futures-way}
use Rattle.schedule_rule.specs.HeldNames.{PutsInto, StandsPutting, StandsDropping}
use Rattle.schedule_core.specs.Runs.{IsTask, IsSameState}

-- the instruction puts a future into the variable, or drops it
abbrev pub Touches : ℕ → Instr → Type 0
Touches x instr = PutsInto x instr ⊎ (instr ≡ Drop x)

abbrev pub StandsTouching : Program → ℕ → BodyOf ℕ → Type 0
StandsTouching p x (OfKind q) = StandsAt p (λ line. Touches x line.instr) q
StandsTouching p x (OfMembers units next) = ⊥

pub puts-touching : (p : Program) (x : ℕ) (b : BodyOf ℕ) → StandsPutting p x b → StandsTouching p x b
puts-touching p x (OfKind q) (line, at, puts) = (line, at, inl puts)
puts-touching p x (OfMembers units next) stands = absurd stands

pub drops-touching : (p : Program) (x : ℕ) (b : BodyOf ℕ) → StandsDropping p x b → StandsTouching p x b
drops-touching p x (OfKind q) (line, at, drops) = (line, at, inr drops)
drops-touching p x (OfMembers units next) stands = absurd stands

-- a frame goes past such an instruction
puts-passed : (instr : Instr) (x : ℕ) → PutsInto x instr → IsPassed instr
puts-passed (Spawn to kind arguments behind priority retry) x is = tt
puts-passed (All to members priority retry) x is = tt
puts-passed (Copy to source) x is = tt
puts-passed instr x is = absurd is

touches-passed : (instr : Instr) (x : ℕ) → Touches x instr → IsPassed instr
touches-passed instr x (inl puts) = puts-passed instr x puts
touches-passed instr x (inr is) = subst IsPassed (sym is) tt

-- its variable is a future
puts-future : (p : Program) (kind : Kind) (state : State) (at : ℕ) (instr : Instr) (x : ℕ) → IsFormedInstr p kind state at instr → PutsInto x instr → IsFutureAt kind x
puts-future p kind state at (Spawn to callee arguments behind priority retry) x formed is = subst (IsFutureAt kind) is formed.0
puts-future p kind state at (All to members priority retry) x formed is = subst (IsFutureAt kind) is formed.0
puts-future p kind state at (Copy to source) x formed is = subst (IsFutureAt kind) is formed.0
puts-future p kind state at instr x formed is = absurd is

touches-future : (p : Program) (kind : Kind) (state : State) (at : ℕ) (instr : Instr) (x : ℕ) → IsFormedInstr p kind state at instr → Touches x instr → IsFutureAt kind x
touches-future p kind state at instr x formed (inl puts) = puts-future p kind state at instr x formed puts
touches-future p kind state at instr x formed (inr is) = let f : IsFormedInstr p kind state at (Drop x) = subst (IsFormedInstr p kind state at) is formed in f

-- The second body is the first past its act, with the future in the variable. It names what the first named, with that future in place
-- of the one before.
pub record IsPast (p : Program) (x : ℕ) (future : Option ℕ) (b next : BodyOf ℕ) : Type 0 where
  pub way : BodyHasWay p next
  pub single : IsTask next
  pub same : (a : BodyOf ℕ) → IsSameState a b → IsSameState a next
  pub names : (w : ℕ) → times w (option_to_list (unit_of b x)) + times w (names_of next) ≡ times w (option_to_list future) + times w (names_of b)
  pub count : length (option_to_list (unit_of b x)) + length (names_of next) ≡ length (option_to_list future) + length (names_of b)

module _ (p : Program) (words : ℕ → ℕ) (x : ℕ) (formed : IsWellFormed p) where
  abbrev body : Bool → BodyOf ℕ
  body b = cond b (OfMembers (members_at words) (control_at (words 0))) (OfKind (frame_at p words))

  module _ (stands : StandsTouching p x (OfKind (frame_at p words))) where
    its : IsLineOf p (frame_at p words).kind (frame_at p words).state (frame_at p words).at stands.0
    its = line-of p (frame_at p words).kind (frame_at p words).state (frame_at p words).at stands.0 stands.1

    its-future : IsFutureAt its.of_kind x
    its-future = touches-future p its.of_kind its.of_state (frame_at p words).at stands.0.instr x
        (((formed.kinds (frame_at p words).kind its.of_kind its.is_kind).states (frame_at p words).state its.of_state its.is_state).instrs (frame_at p words).at stands.0 its.is_line) stands.2

    task-sort : BodyHasSort p sort.Future x (OfKind (frame_at p words))
    task-sort = subst (λ (o : Option Kind). option_map (λ (v : Variable). v.sort) (slice_get (variable_list o) x) ≡ Some sort.Future) (sym its.is_kind) its-future

    within : x < length (frame_at p words).futures
    within = omega (
      arith,
      sort-within its.of_kind.variables x sort.Future its-future,
      ap (λ (o : Option Kind). length (variable_list o)) its.is_kind,
      length-futures words (1 + number_count (variables_at p (control_kind (words 0)))) (variables_at p (control_kind (words 0))),
    )

    task-passes : MayPass p (OfKind (frame_at p words))
    task-passes = (stands.0, stands.1, touches-passed stands.0.instr x stands.2)

    task-past : (future : Option ℕ) → BodyHasWay p (OfKind (frame_at p words)) → IsPast p x future (OfKind (frame_at p words)) (with_future x future (passed_on (OfKind (frame_at p words))))
    task-past future way =
        let (before, after, old_is, new_is) = name-changes (frame_at p words) x future within in
        record {
          way = futures-way p (frame_at p words) x future task-passes way;
          single = tt;
          same = λ a is. same-past a is;
          names = λ w. omega (
            arith,
            ap (times w) old_is,
            ap (times w) new_is,
            total-append (λ (z : ℕ). one_if (z == w)) (before ++ option_to_list (unit_of (OfKind (frame_at p words)) x)) after,
            total-append (λ (z : ℕ). one_if (z == w)) before (option_to_list (unit_of (OfKind (frame_at p words)) x)),
            total-append (λ (z : ℕ). one_if (z == w)) (before ++ option_to_list future) after,
            total-append (λ (z : ℕ). one_if (z == w)) before (option_to_list future),
          );
          count = omega (
            arith,
            ap length old_is,
            ap length new_is,
            length-append (before ++ option_to_list (unit_of (OfKind (frame_at p words)) x)) after,
            length-append before (option_to_list (unit_of (OfKind (frame_at p words)) x)),
            length-append (before ++ option_to_list future) after,
            length-append before (option_to_list future),
          );
        }
      where
        same-past : (a : BodyOf ℕ) → IsSameState a (OfKind (frame_at p words)) → IsSameState a (with_future x future (passed_on (OfKind (frame_at p words))))
        same-past (OfKind q) is = is
        same-past (OfMembers units next) is = absurd is

  -- the variable is a future of the frame, which may go past the act
  pub touch-sort : StandsTouching p x (body_at p words) → BodyHasSort p sort.Future x (body_at p words)
  touch-sort stands = by (is_aggregate (words 0)) stands
    where
      by : (b : Bool) → StandsTouching p x (body b) → BodyHasSort p sort.Future x (body b)
      by true here = absurd here
      by false here = task-sort here

  pub touch-passes : StandsTouching p x (body_at p words) → MayPass p (body_at p words)
  touch-passes stands = by (is_aggregate (words 0)) stands
    where
      by : (b : Bool) → StandsTouching p x (body b) → MayPass p (body b)
      by true here = absurd here
      by false here = task-passes here

  pub goes-past : (future : Option ℕ) → StandsTouching p x (body_at p words) → BodyHasWay p (body_at p words) → IsPast p x future (body_at p words) (with_future x future (passed_on (body_at p words)))
  goes-past future stands way = by (is_aggregate (words 0)) stands way
    where
      by : (b : Bool) → StandsTouching p x (body b) → BodyHasWay p (body b) → IsPast p x future (body b) (with_future x future (passed_on (body b)))
      by true here way' = absurd here
      by false here way' = task-past here future way'
