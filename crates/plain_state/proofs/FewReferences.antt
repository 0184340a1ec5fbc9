-- Where a run is reached, references are far below what a record can count, and units are small numbers.
use Rattle.std.proofs.Common.{◌≡◌, ℕ, suc, ◌+◌, ◌<◌, ◌≤◌, ◌^◌, Bool, true, false, Option, Some, None, List, [], ◌∷◌, length, map, slice_get, slice_index, refl, sym, ◌∙◌, ap, arith}
use Rattle.std.specs.List.{filter_map, cons_option}
use Rattle.std.proofs.Math.Nat.{mul-le-mul_right}
use Rattle.task_syntax.specs.declared.program.Kind.{Kind}
use Rattle.task_syntax.specs.declared.program.Program.{Program}
use Rattle.task_syntax.specs.declared.columns.Columns.{Columns}
use Rattle.task_meaning.specs.Frame.{variables_in, renamed}
use Rattle.task_meaning.proofs.Renaming.{length-renamed}
use Rattle.kt_words.specs.Ranges.{IsUnitCount}
use Rattle.frame_code.specs.Control.{control_kind, is_aggregate}
use Rattle.frame_code.specs.Words.{BodyOf, OfKind, OfMembers, variable_list, variables_at, body_of, futures_from, number_count}
use Rattle.frame_code.specs.Frames.{IsFrame}
use Rattle.frame_code.specs.Names.{names_of, present, body_with}
use Rattle.frame_code.proofs.ControlWords.{task-size}
use Rattle.frame_code.proofs.Variables.{length-futures}
use Rattle.frame_code.proofs.Aggregates.{body-of_task, body-of_members}
use Rattle.pool_core.proofs.Units.{block_units-pos}
use Rattle.record_core.specs.Numbers.{found}
use Rattle.record_core.specs.EndSeen.{RunPlan}
use Rattle.run_model.specs.State.{Body, Run}
use Rattle.run_model.proofs.EndLaws.{root_count}
use Rattle.plain_state.specs.Engine.{EngineState}
use Rattle.plain_state.specs.Laws.{MayRun}
use Rattle.plain_state.specs.Sees.{Sees, SeesBody, InUse, IsReached, references, frame_or, unit_of, SeesTask}
use Rattle.plain_state.specs.Store.{frame_at as words_at}
use Rattle.plain_state.proofs.Units.{unit_in_use, unit_block, block_inside}
use Rattle.plain_state.proofs.References.{references_bound, in_use_open, in_use_named, times_member}
use Rattle.plain_state.proofs.Running.{body_length, frame_size, reached_stands}

-- at most all variables name a task
present_most : (futures : List (Option ℕ)) → length (present futures) ≤ length futures
present_most [] = omega arith
present_most (None ∷ futures) = omega (arith, present_most futures)
present_most (Some u ∷ futures) = omega (arith, present_most futures)

-- a list whose members all have another name has as many of those
filter_all : (name : ℕ → Option ℕ) (xs : List ℕ) → ((at x : ℕ) → slice_get xs at ≡ Some x → (y : ℕ) × (name x ≡ Some y))
    → length (filter_map name xs) ≡ length xs
filter_all name [] each = refl
filter_all name (x ∷ xs) each =
    let (y, e) = each 0 x refl in
    ap (λ o. length (cons_option o (filter_map name xs))) e ∙ ap suc (filter_all name xs (λ at. each (suc at)))

-- how many futures the words of a frame have
abbrev futures_of : BodyOf ℕ → ℕ
futures_of (OfKind q) = length q.futures
futures_of (OfMembers members next) = 0

-- a frame has at most 63 futures
words_futures : (p : Program) (words : List ℕ) → IsFrame p words → futures_of (body_of p words) ≤ 63
words_futures p words frame = by (is_aggregate (slice_index words 0)) refl
  where
    many : (o : Option Kind) → variables_in o ≡ length (variable_list o)
    many None = refl
    many (Some kind) = refl

    by : (b : Bool) → is_aggregate (slice_index words 0) ≡ b → futures_of (body_of p words) ≤ 63
    by true e = let none = ap futures_of (body-of_members p words e) in omega (arith, none)
    by false e =
        let vs = variables_at p (control_kind (slice_index words 0)) in
        let here : futures_of (body_of p words) ≡ length (futures_from (slice_index words) (1 + number_count vs) vs) =
        ap futures_of (body-of_task p words e) in
        omega (
          arith,
          here,
          length-futures (slice_index words) (1 + number_count vs) vs,
          task-size p words frame e,
          many
              (slice_get p.kinds (control_kind (slice_index words 0))),
          frame.few,
        )

-- a body that the engine sees names at most 63 tasks
pub few_names : (p : Program) (units : ℕ) (hand : List ℕ) (own : Option (ℕ × List ℕ)) (e : EngineState) (r : Run) → Sees p units hand own e r
    → (u : ℕ) (body : Body) → found r.bodies u ≡ Some body → length (names_of body) ≤ 63
few_names p units hand own e r sees u body has = by body has refl
  where
    task : SeesTask p hand own e.store r u
    task = sees.tasks u (in_use_open hand r u body has)

    ws : List ℕ
    ws = frame_or own u (words_at e.store task.block.unit)

    says : SeesBody p r.blocks ws body
    says = task.body body has

    by : (b : Body) → found r.bodies u ≡ Some b → body ≡ b → length (names_of b) ≤ 63
    by (OfKind q) has_b same =
        let futures : futures_of (body_of p ws) ≡ length (map (renamed (unit_of r.blocks)) q.futures) =
        ap futures_of (says.says ∙ ap (body_with (unit_of r.blocks)) same) in
        omega (arith, futures, length-renamed (unit_of r.blocks) q.futures, present_most q.futures, words_futures p ws says.frame)
    by (OfMembers members next) has_b same =
        let long = ap (body_length p) (says.says ∙ ap (body_with (unit_of r.blocks)) same) in
        let all = filter_all (unit_of r.blocks) members
        (λ at x get. unit_in_use p units hand own e r sees x
        (in_use_named hand r u x (OfMembers members next) has_b (times_member x members at get))) in
        omega (arith, long, all, frame_size p ws says.frame, says.frame.few)

-- so few references are counted
pub few_references : (p : Program) (c : Columns) (plan : RunPlan) (hand : List ℕ) (own : Option (ℕ × List ℕ)) (e : EngineState) (r : Run)
    → MayRun p plan → IsReached p c plan r
    → Sees p plan.units hand own e r → length hand ≤ 1000 → (u : ℕ) → references hand r u + 1 < 2 ^ 32
few_references p c plan hand own e r may reached sees small u =
    let stands = reached_stands p c plan r reached in
    references_bound hand r u (few_names p plan.units hand own e r sees)
    (omega (arith, stands.numbers.beside.of_bodies, stands.journal.journal.within, stands.journal.of_plan, may.few))
    (omega (arith, roots reached, may.formed.roots_fit)) small
  where
    roots : IsReached p c plan r → length r.roots ≡ length p.roots
    roots (taken, same) = ap (λ (x : Run). length x.roots) (sym same) ∙ root_count p c plan taken

-- and units are small
unit_count_fits : (units : ℕ) → IsUnitCount units → units ≤ 512
unit_count_fits units h = omega (arith, h)

-- a unit of a task in use
pub unit_small : (p : Program) (units : ℕ) (hand : List ℕ) (own : Option (ℕ × List ℕ)) (e : EngineState) (r : Run) → Sees p units hand own e r
    → (u unit : ℕ) → InUse hand r u → unit_of r.blocks u ≡ Some unit
    → unit + 1 < 2 ^ 32
unit_small p units hand own e r sees u unit used at =
    let (block, has, first) = unit_block r.blocks u unit at in
    let inside = block_inside p units hand own e r sees u block has used in
    let most = mul-le-mul_right e.store.pool.units sees.sound.few in
    omega (arith, inside, first, block_units-pos block.class, sees.shaped.units, most, unit_count_fits e.store.pool.units sees.sound.unit_count)
