-- A run to a value gives the value and the counts of its events.
use Rattle.std.specs.Prelude.{◌≡◌, ℕ, zero, suc, ◌+◌, ◌≤◌, Option, Some, None, List, [], ◌∷◌, ◌++◌, length, replicate}
use Rattle.std.proofs.Common.{refl, sym, ap, ◌∙◌, arith}
use Rattle.task_syntax.specs.Places.{Each}
use Rattle.task_syntax.specs.declared.value.Value.{Value}
use Rattle.task_syntax.specs.declared.value.Value.TheVariants.{Number, Trapped}
use Rattle.task_syntax.specs.declared.program.Program.{Program}
use Rattle.task_syntax.specs.declared.columns.Columns.{Columns}
use Rattle.task_meaning.specs.Meant.{Counts, Meant, counted, total, gives, given, adding, with_value, with_number, behind, behind_all}
use Rattle.task_meaning.specs.Frame.{Place, set_number, set_future}
use Rattle.task_meaning.specs.Meaning.{child_of, with_child, rest}
use Rattle.task_meaning.specs.Acts.{Act, ActsAt, followed}
use Rattle.task_meaning.specs.Runs.{Event, Begins, Starts, tasks_in, activations_in, counts_of, HasValue, IsReady, IsTrap, called, gathered, Runs, finishes, steps, calls, gathers, reads, reads_trap, respawns}
use Rattle.task_meaning.proofs.Grows.{Stays-at}
use Rattle.task_meaning.proofs.Fuel.{rest-within}
use Rattle.task_meaning.proofs.ActByAct.{rest-follows}
use Rattle.task_meaning.proofs.Ahead.{AllJumpAhead}

-- a meaning with this value and these counts is just these
pub given-by : (m : Meant) (v : Value) (k : Counts) → m.value ≡ Some v → m.counts ≡ Some k → m ≡ given v k
given-by m v k a b = λ i. record { value = a i; counts = b i }

-- what fuel gives, more fuel gives
pub given-later : (p : Program) (c : Columns) (n m : ℕ) (q : Place) (v : Value) (k : Counts) → n ≤ m → rest p c n q ≡ given v k → rest p c m q ≡ given v k
given-later p c n m q v k e f =
    let w = rest-within p c n m q e in
    given-by (rest p c m q) v k (Stays-at _ _ w.value v (ap (λ (r : Meant). r.value) f)) (Stays-at _ _ w.counts k (ap (λ (r : Meant). r.counts) f))

-- what follows from a place is what follows its act
pub rest-acts : (p : Program) (c : Columns) (n : ℕ) (q : Place) (act : Act Value) → AllJumpAhead p → ActsAt p c q act → rest p c (suc n) q ≡ followed p c n act q
rest-acts p c n q act ahead (line, e, a) =
    rest-follows p c n q line e (ahead q.kind q.state q.at line e) ∙ ap (λ (x : Act Value). followed p c n x q) a

-- behind a future with a value the same is meant
pub behind-ready : (waits : Option ℕ) (futures : List (Option Value)) (m : Meant) → IsReady futures waits → behind waits futures m ≡ m
behind-ready None futures m h = refl
behind-ready (Some x) futures m (v, e) = ap (λ (o : Option Value). with_value o (λ v. m)) e

-- behind futures with values the same is meant
pub behind_all-ready : (members : List ℕ) (futures : List (Option Value)) (m : Meant) → Each members (HasValue futures) → behind_all members futures m ≡ m
behind_all-ready [] futures m h = refl
behind_all-ready (x ∷ more) futures m h =
    behind-ready (Some x) futures (behind_all more futures m) (h zero x refl) ∙ behind_all-ready more futures m (λ at y e. h (suc at) y e)

tasks-append : (a b : List Event) → tasks_in (a ++ b) ≡ tasks_in a + tasks_in b
tasks-append [] b = omega arith
tasks-append (Begins ∷ a) b = omega (arith, tasks-append a b)
tasks-append (Starts ∷ a) b = tasks-append a b

activations-append : (a b : List Event) → activations_in (a ++ b) ≡ activations_in a + activations_in b
activations-append [] b = omega arith
activations-append (Begins ∷ a) b = activations-append a b
activations-append (Starts ∷ a) b = omega (arith, activations-append a b)

-- the counts of two lists of events are those of both together
pub counts-append : (a b : List Event) → counts_of (a ++ b) ≡ total (counts_of a) (counts_of b)
counts-append a b = λ i. record { tasks = tasks-append a b i; activations = activations-append a b i }

-- a call begins one task and starts one activation more
pub counts-called : (events : List Event) → counts_of (called events) ≡ total (record { tasks = 1; activations = 1 }) (counts_of events)
counts-called events =
    let t : suc (tasks_in events) ≡ 1 + tasks_in events = omega arith in
    let a : suc (activations_in events) ≡ 1 + activations_in events = omega arith in
    λ i. record { tasks = t i; activations = a i }

no_tasks : (m : ℕ) → tasks_in (replicate m Starts) ≡ 0
no_tasks zero = refl
no_tasks (suc m) = no_tasks m

each_starts : (m : ℕ) → activations_in (replicate m Starts) ≡ m
each_starts zero = refl
each_starts (suc m) = ap suc (each_starts m)

-- an aggregate begins one task, and starts an activation for each member
pub counts-gathered : (m : ℕ) → counts_of (gathered m) ≡ total (record { tasks = 1; activations = m }) (record { tasks = 0; activations = 0 })
counts-gathered m =
    let t : suc (tasks_in (replicate m Starts)) ≡ 1 + 0 = ap suc (no_tasks m) in
    let a : activations_in (replicate m Starts) ≡ m + 0 = omega (arith, each_starts m) in
    λ i. record { tasks = t i; activations = a i }

-- a respawn starts one activation more
pub counts-started : (events : List Event) → counts_of (Starts ∷ events) ≡ total (record { tasks = 0; activations = 1 }) (counts_of events)
counts-started events =
    let t : tasks_in events ≡ 0 + tasks_in events = omega arith in
    let a : suc (activations_in events) ≡ 1 + activations_in events = omega arith in
    λ i. record { tasks = t i; activations = a i }

-- a child with a value and counts, and what follows it
pub child-given : (child : Meant) (w v : Value) (i j : Counts) (same : Place → Meant) (q : Place) (to : ℕ)
    → child ≡ given w i → same (set_future q to (Some w)) ≡ given v j → with_child child same q to ≡ given v (total i j)
child-given child w v i j same q to e f =
    ap (λ (m : Meant). with_child m same q to) e ∙ ap (adding (Some i)) f

-- a trap that is read is the value
pub trap-ends : (v : Value) (go : ℕ → Meant) → IsTrap v → with_number v go ≡ gives v
trap-ends (Number n) go h = absurd h
trap-ends (Trapped t) go h = refl

-- a run to a value gives it, with the counts of its events, by some fuel
pub runs-given : (p : Program) (c : Columns) → AllJumpAhead p → (q : Place) (v : Value) (events : List Event) → Runs p c q v events
    → (n : ℕ) × (rest p c n q ≡ given v (counts_of events))
runs-given p c ahead q v events (finishes at) = (1, rest-acts p c 0 _ _ ahead at)
runs-given p c ahead q v events (steps next at more) =
    let (n, e) = runs-given p c ahead _ _ _ more in
    (suc n, rest-acts p c n _ _ ahead at ∙ given-later p c n (suc n) _ _ _ (omega arith) e)
runs-given p c ahead q v events (calls {q = place} {events = after} to call waits w below at ready child more) =
    let (n, e) = runs-given p c ahead _ _ _ child in
    let (m, f) = runs-given p c ahead _ _ _ more in
    let one : Counts = record { tasks = 1; activations = 1 } in
    let child_given : child_of p (rest p c (n + m)) waits call place.futures ≡ given w (total one (counts_of below))
    = behind-ready waits place.futures _ ready ∙ ap (adding (counted 1 1)) (given-later p c n (n + m) _ _ _ (omega arith) e) in (
      suc (n + m),
      rest-acts p c (n + m) _ _ ahead at
          ∙ child-given _ w _ _ _ (rest p c (suc (n + m))) place to child_given (given-later p c m (suc (n + m)) _ _ _ (omega arith) f)
          ∙ ap (given _) (sym (counts-append (called below) after ∙ ap (λ k. total k (counts_of after)) (counts-called below))),
    )
runs-given p c ahead q v events (gathers {q = place} {events = after} to members at ready more) =
    let (n, e) = runs-given p c ahead _ _ _ more in (
      suc n,
      rest-acts p c n _ _ ahead at
          ∙ child-given _ (Number 0) _ _ _ (rest p c (suc n)) place to (behind_all-ready members place.futures _ ready) (given-later p c n (suc n) _ _ _ (omega arith) e)
          ∙ ap (given _) (sym (counts-append (gathered (length members)) after ∙ ap (λ k. total k (counts_of after)) (counts-gathered (length members)))),
    )
runs-given p c ahead q v events (reads {q = place} to x k at named more) =
    let (n, e) = runs-given p c ahead _ _ _ more in (
      suc n,
      rest-acts p c n _ _ ahead at
          ∙ ap (λ o. with_value o (λ u. with_number u (λ i. rest p c (suc n) (set_number place to i)))) named
          ∙ given-later p c n (suc n) _ _ _ (omega arith) e,
    )
runs-given p c ahead q v events (reads_trap {q = place} to x at named trap) = (
  1,
  rest-acts p c 0 _ _ ahead at
      ∙ ap (λ o. with_value o (λ u. with_number u (λ i. rest p c 1 (set_number place to i)))) named
      ∙ trap-ends _ _ trap,
)
runs-given p c ahead q v events (respawns {q = place} {events = after} target waits at ready more) =
    let (n, e) = runs-given p c ahead _ _ _ more in (
      suc n,
      rest-acts p c n _ _ ahead at
          ∙ behind-ready waits place.futures _ ready
          ∙ ap (adding (counted 0 1)) e
          ∙ ap (given _) (sym (counts-started after)),
    )
