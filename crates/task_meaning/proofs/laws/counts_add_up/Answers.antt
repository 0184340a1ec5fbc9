use Rattle.std.specs.Prelude.{◌≡◌, ℕ, List}
use Rattle.std.proofs.Common.{refl, sym, ap, ◌∙◌}
use Rattle.task_syntax.specs.Form.{IsWellFormed}
use Rattle.task_syntax.specs.declared.value.Value.{Value}
use Rattle.task_syntax.specs.declared.program.Program.{Program}
use Rattle.task_syntax.specs.declared.columns.Columns.{Columns}
use Rattle.task_meaning.specs.Meant.{Counts, counted, total, given, adding}
use Rattle.task_meaning.specs.Frame.{Place, entry}
use Rattle.task_meaning.specs.Meaning.{rest, mean}
use Rattle.task_meaning.specs.Runs.{Event, Runs, counts_of, called}
use Rattle.task_meaning.proofs.Ahead.{jumps_ahead}
use Rattle.task_meaning.proofs.FromRuns.{runs-given, counts-called}
use Rattle.task_meaning.proofs.ToRuns.{adding-given, given-runs}
use Rattle.task_meaning.proofs.laws.counts_add_up.Goals as goal

to_run : (p : Program) (d : Columns) (q : Place) (v : Value) (k : Counts) → IsWellFormed p → (n : ℕ) × (rest p d n q ≡ given v k)
    → (events : List Event) × Runs p d q v events × (counts_of events ≡ k)
to_run p d q v k formed (n, e) = given-runs p d (jumps_ahead p formed) n q v k e

from_run : (p : Program) (d : Columns) (q : Place) (v : Value) (k : Counts) → IsWellFormed p → (events : List Event) × Runs p d q v events × (counts_of events ≡ k)
    → (n : ℕ) × (rest p d n q ≡ given v k)
from_run p d q v k formed (events, runs, s) =
    let (n, e) = runs-given p d (jumps_ahead p formed) q v events runs in (n, e ∙ ap (given v) s)

pub returns-clause-place : goal.returns-clause-place
returns-clause-place c p d q v k formed = (to_run p d q v k formed, from_run p d q v k formed)

pub returns-clause-call : goal.returns-clause-call
returns-clause-call c p d call v k formed = (there, back)
  where
    there : (n : ℕ) × (mean p d n call ≡ given v k) → (events : List Event) × Runs p d (entry p call) v events × (counts_of (called events) ≡ k)
    there (n, e) =
        let (one, j, a, f, s) = adding-given (counted 1 1) (rest p d n (entry p call)) v k e in
        let (events, runs, t) = to_run p d (entry p call) v j formed (n, f) in
        let a' : record { tasks = 1; activations = 1 } ≡ one = cc a in
        (events, runs, counts-called events ∙ ap (total _) t ∙ ap (λ (x : Counts). total x j) a' ∙ sym s)

    back : (events : List Event) × Runs p d (entry p call) v events × (counts_of (called events) ≡ k) → (n : ℕ) × (mean p d n call ≡ given v k)
    back (events, runs, s) =
        let (n, e) = from_run p d (entry p call) v (counts_of events) formed (events, runs, refl) in
        (n, ap (adding (counted 1 1)) e ∙ ap (given v) (sym (counts-called events) ∙ s))
