-- How many references a worker's pass counts.
use Rattle.std.proofs.Common.{◌≡◌, ◌∙◌, ℕ, ◌+◌, ◌-◌, ◌≤◌, ◌<◌, ◌^◌, ◌==◌, Option, Some, None, List, [], ◌++◌, length, refl, sym, ap, subst, arith}
use Rattle.record_core.specs.Counting.{one_if, dropped}
use Rattle.record_core.proofs.TotalFacts.{none_there, total-append}
use Rattle.task_syntax.specs.declared.columns.Columns.{Columns}
use Rattle.task_syntax.specs.declared.instr.Instr.{Instr}
use Rattle.task_syntax.specs.declared.instr.Instr.TheVariants.{Spawn, All}
use Rattle.task_syntax.specs.declared.program.Program.{Program}
use Rattle.frame_code.specs.Frames.{IsFrame}
use Rattle.frame_code.specs.Members.{member_act}
use Rattle.frame_code.specs.Units.{named_in}
use Rattle.frame_code.specs.Words.{BodyOf, OfKind, OfMembers}
use Rattle.frame_code.specs.declared.act.Act.TheVariants as act
use Rattle.frame_code.specs.declared.act.AllRequest.{AllRequest}
use Rattle.frame_code.specs.declared.act.RespawnRequest.{RespawnRequest}
use Rattle.frame_code.specs.declared.act.SpawnRequest.{SpawnRequest}
use Rattle.table_core.specs.Holdings.{Run}
use Rattle.table_core.specs.WaitViews.{is_run_at}
use Rattle.table_core.specs.declared.setup.Setup.{Setup}
use Rattle.table_core.specs.declared.view.View.{View}
use Rattle.schedule_rule.specs.CoveringLaws.{AsksInto, StandsAsking}
use Rattle.schedule_rule.specs.Frames.{BagSound}
use Rattle.schedule_rule.specs.HeldNames.{PutsInto, StandsPutting}
use Rattle.schedule_rule.specs.PlacingViews.{less}
use Rattle.step_table.specs.Passes.{view}
use Rattle.step_table.specs.declared.pass.Pass.{Pass}
use Rattle.schedule_core.specs.Bags.{IsSpare}
use Rattle.schedule_core.specs.FrameWords.{OnlySees}
use Rattle.schedule_core.specs.Moves.{Asks}
use Rattle.schedule_core.specs.Respawning.{AsksAgain}
use Rattle.schedule_core.specs.Spawning.{AsksFor}
use Rattle.schedule_core.specs.declared.running.Running.{Running}
use Rattle.schedule_core.proofs.SpawnSights.{names-fit}
use Rattle.worker_loop.specs.Working.{RunsAlone, Runs, IsFree}
use Rattle.worker_loop.proofs.HandFacts.{dropped-run, idle-sees}

-- none are counted once those of the frame are given up
pub gone-count : (q p : Program) (items : List ℕ) (held : ℕ) → q ≡ p → held ≡ length {A = ℕ} [] + length (named_in p items) → held - length (named_in q items) ≡ 0
gone-count q p items held same is = omega (arith, is, ap (λ (r : Program). length (named_in r items)) same)

-- a frame names few
pub few-count : (g : Setup) (x : Running) (p : Pass) → Runs g x [] p → p.held + 64 ≤ 2 ^ 32
few-count g x p r = omega (arith, r.count, names-fit g.checked g.checked x.frame.items 0 0 refl r.alone.in_step.frame refl (omega arith), few g.checked x.frame.items r.alone.in_step.frame)
  where
    few : (q : Program) (items : List ℕ) → IsFrame q items → length (named_in q items) ≤ 64
    few q items frame = omega (arith, names-fit q q items 4294967232 4294967232 refl frame refl (omega arith))

pub few-room : (g : Setup) (x : Running) (p : Pass) → Runs g x [] p → p.held < 2 ^ 32
few-room g x p r = omega (arith, few-count g x p r)

-- a pass that has only seen more is free still
pub free-sees : (old new : Pass) → IsFree old → OnlySees (view old) (view new) → new.held ≡ old.held → IsFree new
free-sees old new free sees held = record { idle = idle-sees (view old) (view new) free.idle sees; count = held ∙ free.count }

no-runs : (p : Program) (futures : List ℕ) (runs : List Run) → runs ≡ [] → BagSound p (record { futures = futures; runs = runs })
no-runs p futures runs none = subst (λ (l : List Run). BagSound p (record { futures = futures; runs = l })) (sym none)
    (record { pairs = []; are_runs = refl; covers = λ k x at. absurd (none_there x at); enough = λ u. omega arith })

-- all references of a pass that runs one task are spare
pub alone-spare : (g : Setup) (x : Running) (units : List ℕ) (v : View) → RunsAlone g x units v → IsSpare g.checked x.started.unit (units ++ named_in g.checked x.frame.items) v
alone-spare g x units v a = record {
  there = λ w. omega (arith, a.bag w, total-append (λ (z : ℕ). one_if (z == w)) units (named_in g.checked x.frame.items));
  bag = no-runs g.checked (less v.futures (units ++ named_in g.checked x.frame.items)) (dropped (is_run_at x.started.unit) v.runs) (dropped-run x.started.unit v.runs a.in_step.run a.one a.in_step.at.there);
}

no-member : (o : Option ℕ) (next : ℕ) (request : SpawnRequest) → member_act o next ≡ act.Spawn request → ⊥
no-member None next request e = cc
no-member (Some m) next request e = cc

-- a task that asks for a spawn is no aggregate
pub asks-spawn : (p : Program) (c : Columns) (request : SpawnRequest) (b : BodyOf ℕ) → Asks p c (act.Spawn request) b → AsksFor p c (act.Spawn request) b
asks-spawn p c request (OfKind q) asks = asks
asks-spawn p c request (OfMembers units next) asks = absurd (no-member _ next request asks)

no-member_all : (o : Option ℕ) (next : ℕ) (request : AllRequest) → member_act o next ≡ act.All request → ⊥
no-member_all None next request e = cc
no-member_all (Some m) next request e = cc

pub asks-all : (p : Program) (c : Columns) (request : AllRequest) (b : BodyOf ℕ) → Asks p c (act.All request) b → AsksFor p c (act.All request) b
asks-all p c request (OfKind q) asks = asks
asks-all p c request (OfMembers units next) asks = absurd (no-member_all _ next request asks)

no-member_copy : (o : Option ℕ) (next to source : ℕ) → member_act o next ≡ act.Copy to source → ⊥
no-member_copy None next to source e = cc
no-member_copy (Some m) next to source e = cc

pub asks-copy : (p : Program) (c : Columns) (to source : ℕ) (b : BodyOf ℕ) → Asks p c (act.Copy to source) b → AsksFor p c (act.Copy to source) b
asks-copy p c to source (OfKind q) asks = asks
asks-copy p c to source (OfMembers units next) asks = absurd (no-member_copy _ next to source asks)

-- an aggregate's next activation
pub asks-again : (p : Program) (c : Columns) (request : RespawnRequest) (b : BodyOf ℕ) → Asks p c (act.Again request) b → AsksAgain p c request b
asks-again p c request (OfKind q) asks = asks
asks-again p c request (OfMembers units next) asks = asks

asks-puts : (x : ℕ) (instr : Instr) → AsksInto x instr → PutsInto x instr
asks-puts x (Spawn to kind arguments behind priority retry) is = is
asks-puts x (All to members priority retry) is = is
asks-puts x instr is = absurd is

-- and puts the new task into its variable
pub stands-putting : (p : Program) (x : ℕ) (d : BodyOf ℕ) → StandsAsking p x d → StandsPutting p x d
stands-putting p x (OfKind q) (line, at, is) = (line, at, asks-puts x line.instr is)
stands-putting p x (OfMembers units next) is = absurd is
