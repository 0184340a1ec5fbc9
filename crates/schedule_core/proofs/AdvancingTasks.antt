-- A running task goes on along lines that stop nothing.
use Rattle.std.proofs.Common.{◌≡◌, ◌∙◌, ℕ, List, sym, subst}
use Rattle.std.specs.Prelude.{slice_get}
use Rattle.task_syntax.specs.declared.columns.Columns.{Columns}
use Rattle.task_syntax.specs.declared.program.Program.{Program}
use Rattle.frame_code.specs.Calls.{Advances, Means, NamesStay, KeepsWay}
use Rattle.frame_code.specs.Frames.{IsFrame}
use Rattle.frame_code.specs.Members.{member_act}
use Rattle.frame_code.specs.Stops.{BodyAdvances}
use Rattle.frame_code.specs.Words.{BodyOf, OfKind, OfMembers, body_of}
use Rattle.frame_code.specs.declared.act.Act.{Act}
use Rattle.frame_code.proofs.FrameWays.{goes-keeps}
use Rattle.table_core.specs.declared.setup.Setup.{Setup}
use Rattle.table_core.specs.declared.view.View.{View}
use Rattle.schedule_rule.proofs.HeldNameFacts.{lines-hold}
use Rattle.schedule_core.specs.Bags.{IsSpare}
use Rattle.schedule_core.specs.Moves.{Asks, RunsOn}
use Rattle.schedule_core.specs.Runs.{IsInStep, IsSameState}
use Rattle.schedule_core.specs.declared.running.Running.{Running}
use Rattle.schedule_core.proofs.MovedTasks.{in-step-at}

-- where a body stops, it asks
asks-there : (p : Program) (c : Columns) (b last : BodyOf ℕ) (asked : Act) → BodyAdvances p c b asked last → Asks p c asked last
asks-there p c (OfKind q) (OfKind last) asked goes = goes.1
asks-there p c (OfMembers units next) (OfMembers same at) asked goes = (λ k. member_act (slice_get (goes.0 k) (goes.1 k)) (goes.1 k)) ∙ goes.2
asks-there p c (OfKind q) (OfMembers same at) asked goes = absurd goes
asks-there p c (OfMembers units next) (OfKind last) asked goes = absurd goes

-- it is of the kind that it was
kind-stays : (p : Program) (c : Columns) (b last a : BodyOf ℕ) (asked : Act) → BodyAdvances p c b asked last → IsSameState a b → IsSameState a last
kind-stays p c (OfKind q) (OfKind last) (OfKind first) asked goes same = let kept = goes-keeps p c q last goes.0 in (kept.kind ∙ same.0, kept.state ∙ same.1)
kind-stays p c (OfMembers units next) (OfMembers same at) (OfMembers first begun) asked goes is = (goes.0 ∙ is.0, goes.1 ∙ is.1)
kind-stays p c (OfKind q) (OfMembers same at) a asked goes is = absurd goes
kind-stays p c (OfMembers units next) (OfKind last) a asked goes is = absurd goes
kind-stays p c (OfKind q) (OfKind last) (OfMembers first begun) asked goes is = absurd is
kind-stays p c (OfMembers units next) (OfMembers same at) (OfKind first) asked goes is = absurd is

pub runs-on : (g : Setup) (x y : Running) (v : View) (q : Program) (c : Columns) (asked : Act) → q ≡ g.checked → c ≡ g.columns → y ≡ record x { frame = y.frame } → IsInStep g x v → IsFrame q y.frame.items
    → Advances q c x.frame.items asked y.frame.items → Means q c x.frame.items asked y.frame.items → NamesStay q x.frame.items y.frame.items → KeepsWay q x.frame.items y.frame.items → RunsOn g x v asked y
runs-on g x y v q c asked same columns moved s frame acts meaning names way = record {
  moved = moved;
  acts = goes;
  meaning = subst (λ (p : Program). Means p g.columns x.frame.items asked y.frame.items) same (subst (λ (d : Columns). Means q d x.frame.items asked y.frame.items) columns meaning);
  asks = asks-there g.checked g.columns (body_of g.checked x.frame.items) (body_of g.checked y.frame.items) asked goes;
  names = named;
  in_step = in-step-at g x y v moved s (subst (λ (p : Program). IsFrame p y.frame.items) same frame) (subst (λ (p : Program). KeepsWay p x.frame.items y.frame.items) same way s.way)
      (lines-hold g.checked g.columns (body_of g.checked x.frame.items) (body_of g.checked y.frame.items) asked goes s.names)
      (λ a is. kind-stays g.checked g.columns (body_of g.checked x.frame.items) (body_of g.checked y.frame.items) a asked goes is)
      (subst (λ (l : List ℕ). IsSpare g.checked x.started.unit l v) (sym named) s.spare);
}
  where
    goes : Advances g.checked g.columns x.frame.items asked y.frame.items
    goes = subst (λ (p : Program). Advances p g.columns x.frame.items asked y.frame.items) same (subst (λ (d : Columns). Advances q d x.frame.items asked y.frame.items) columns acts)

    named : NamesStay g.checked x.frame.items y.frame.items
    named = subst (λ (p : Program). NamesStay p x.frame.items y.frame.items) same names
