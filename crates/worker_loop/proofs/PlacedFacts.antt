-- What comes of a next activation.
use Rattle.std.proofs.Common.{◌≡◌, ◌∙◌, ℕ, ◌+◌, ◌-◌, Option, Some, None, List, [], length, sym, ap, arith}
use Rattle.std.specs.Option.{option_to_list}
use Rattle.record_core.specs.Counting.{times}
use Rattle.frame_code.specs.Units.{named_in}
use Rattle.frame_code.specs.Words.{BodyOf}
use Rattle.task_syntax.specs.declared.value.Priority.{Priority}
use Rattle.table_core.specs.declared.setup.Setup.{Setup}
use Rattle.step_table.specs.Passes.{view}
use Rattle.step_table.specs.declared.pass.Pass.{Pass}
use Rattle.schedule_core.specs.Moves.{GoesPast, RunsOn}
use Rattle.schedule_core.specs.Respawning.{GoesOn as GoesOnWith, held_respawned}
use Rattle.schedule_core.specs.declared.answers.Respawned.{Respawned}
use Rattle.schedule_core.specs.declared.answers.Respawned.TheVariants as respawned
use Rattle.schedule_core.specs.declared.running.Running.{Running}
use Rattle.frame_code.specs.declared.act.Act.{Act}
use Rattle.worker_loop.specs.Serving.{Places}
use Rattle.worker_loop.specs.Working.{Runs, RunsAlone, Stands}
use Rattle.worker_loop.proofs.CallFacts.{respawned-idle, limited-alone, past-alone, advanced-alone}

pub places : (g : Setup) (x : Running) (wanted : Option ℕ) (priority : Priority) (IsNext : List ℕ → Type 0) (told : Respawned) (old new : Pass) → Runs g x [] old
    → GoesOnWith g x wanted priority IsNext (view old) told (view new) → new.held ≡ held_respawned g x old.held told
    → Places g told new
places g x wanted priority IsNext respawned.Waits old new r has held = record { idle = respawned-idle g x wanted priority IsNext (view old) None (view new) r.alone has; count = omega (arith, held, r.count) }
places g x wanted priority IsNext (respawned.Ready e) old new r has held = record { idle = respawned-idle g x wanted priority IsNext (view old) (Some e) (view new) r.alone has; count = omega (arith, held, r.count) }
places g x wanted priority IsNext (respawned.Over back) old new r has held =
    let both = limited-alone g x (view old) back (view new) r.alone has in
    (record { alone = both.0; made_is = ap (λ (z : Running). option_to_list z.made) has.back_is ∙ r.made_is; count = held ∙ r.count ∙ ap (λ (z : Running). length {A = ℕ} [] + length (named_in g.checked z.frame.items)) (sym has.back_is) }, both.1)

-- a task past its act has just the references of its frame
pub past-runs : (g : Setup) (x y : Running) (body : BodyOf ℕ) (came given left units : List ℕ) (old new : Pass) → RunsAlone g x units (view old) → old.held ≡ length units + length (named_in g.checked x.frame.items) → x.made ≡ None
    → GoesPast g x body came given left (view old) y (view new) → ((w : ℕ) → times w units + times w given ≡ times w came) → length units + length given ≡ length came → new.held ≡ old.held + length given - length left → Runs g y [] new
past-runs g x y body came given left units old new alone count none past balanced counted held = record {
  alone = past-alone g x y body came given left units (view old) (view new) alone past balanced;
  made_is = ap (λ (z : Running). option_to_list z.made) past.moved ∙ ap option_to_list none;
  count = omega (arith, held, count, past.count, counted);
}

-- so has one that goes on along its lines
pub on-runs : (g : Setup) (x : Running) (p : Pass) (asked : Act) (y : Running) → Runs g x [] p → RunsOn g x (view p) asked y → Runs g y [] p
on-runs g x p asked y r on = record { alone = advanced-alone g x (view p) asked y r.alone on; made_is = ap (λ (z : Running). option_to_list z.made) on.moved ∙ r.made_is; count = r.count ∙ sym (ap (λ (l : List ℕ). length {A = ℕ} [] + length l) on.names) }

-- the record that stands is that of the task that was begun with
pub stands-same : (y x : Running) (p : Pass) → y.started ≡ x.started → Stands y.started.number (view p) → Stands x.started.number (view p)
stands-same y x p same (r, one, number) = (r, one, number ∙ ap (λ z. z.number) same)
