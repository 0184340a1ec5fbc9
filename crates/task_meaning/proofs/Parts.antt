-- The parts of a program at a frame, and how long a frame's lists are.
use Rattle.std.specs.Prelude.{◌≡◌, ℕ, zero, suc, ◌+◌, ◌-◌, ◌≤◌, Option, Some, None, List, [], ◌∷◌, ◌++◌, length, replicate, slice_get}
use Rattle.std.proofs.Common.{refl, ap, ◌∙◌, arith}
use Rattle.task_syntax.specs.declared.program.State.{State}
use Rattle.task_syntax.specs.declared.program.Kind.{Kind}
use Rattle.task_syntax.specs.declared.program.Program.{Program}
use Rattle.task_meaning.specs.Frame.{FrameOf, CallOf, variables_in, variables_of, state_in, state_at, code_in, code_at, holds_in, holds_at, padded, kept_from, entry, enter}

module _ (p : Program) (kind state : ℕ) (k : Kind) (s : State) (at_kind : slice_get p.kinds kind ≡ Some k) (at_state : slice_get k.states state ≡ Some s) where
  -- the state at a position of a kind of the program
  pub state_at-is : state_at p kind state ≡ Some s
  state_at-is = ap (λ (o : Option Kind). state_in o state) at_kind ∙ at_state

  -- the lines of that state
  pub code_at-is : code_at p kind state ≡ s.code
  code_at-is = ap code_in state_at-is

  -- the futures that it holds
  pub holds_at-is : holds_at p kind state ≡ s.holds
  holds_at-is = ap holds_in state_at-is

-- the variables of a kind
pub variables_of-is : (p : Program) (kind : ℕ) (k : Kind) → slice_get p.kinds kind ≡ Some k → variables_of p kind ≡ length k.variables
variables_of-is p kind k e = ap variables_in e

-- a list that was made longer has the length that was asked for
pub length-padded : {A : Type 0} (n : ℕ) (dummy : A) (xs : List A) → length xs ≤ n → length (padded n dummy xs) ≡ n
length-padded {A} n dummy xs h = go xs (n - length xs) ∙ omega (arith, h)
  where
    go : (ys : List A) (m : ℕ) → length (ys ++ replicate m dummy) ≡ length ys + m
    go [] zero = omega arith
    go [] (suc m) = let e : length (replicate m dummy) ≡ 0 + m = go [] m in omega (arith, e)
    go (y ∷ ys) m = let e : length (ys ++ replicate m dummy) ≡ length ys + m = go ys m in omega (arith, e)

-- giving futures up leaves the length
pub length-kept_from : {A : Type 0} (at : ℕ) (held : List ℕ) (fs : List (Option A)) → length (kept_from at held fs) ≡ length fs
length-kept_from at held [] = refl
length-kept_from at held (f ∷ fs) = ap suc (length-kept_from (at + 1) held fs)

-- the first frame of a call has a number for each variable
pub entry-numbers : {A : Type 0} (p : Program) (call : CallOf A) → length call.numbers ≤ variables_of p call.kind → length (entry p call).numbers ≡ variables_of p call.kind
entry-numbers p call h = length-padded (variables_of p call.kind) 0 call.numbers h

-- the first frame of a call has a future for each variable
pub entry-futures : {A : Type 0} (p : Program) (call : CallOf A) → length call.futures ≤ variables_of p call.kind → length (entry p call).futures ≡ variables_of p call.kind
entry-futures p call h =
    length-kept_from 0 (holds_at p call.kind 0) (padded (variables_of p call.kind) None call.futures) ∙ length-padded (variables_of p call.kind) None call.futures h

-- a respawn leaves the number of futures
pub enter-futures : {A : Type 0} (p : Program) (q : FrameOf A) (target : ℕ) → length (enter p q target).futures ≡ length q.futures
enter-futures p q target = length-kept_from 0 (holds_at p q.kind target) q.futures
