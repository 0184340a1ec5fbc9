-- That the references which a placing leaves are enough, and that the frame of the run that asked has moved, as callers know it.
use Rattle.std.proofs.Common.{◌≡◌, ℕ, ◌+◌, ◌≤◌, Bool, true, false, cond, List, ◌∷◌, sym, subst, arith}
use Rattle.std.specs.Prelude.{slice_index}
use Rattle.record_core.specs.Counting.{passing, times}
use Rattle.task_syntax.specs.declared.program.Program.{Program}
use Rattle.task_meaning.specs.Worths.{Accepted}
use Rattle.frame_code.specs.Control.{is_aggregate}
use Rattle.frame_code.specs.Names.{named}
use Rattle.frame_code.specs.Ways.{HasWay, BodyHasWay}
use Rattle.frame_code.specs.Words.{BodyOf, OfKind, OfMembers, frame_at, members_at, body_at}
use Rattle.frame_code.specs.Control.{control_at}
use Rattle.table_core.specs.Asking.{Drawn, OfTask}
use Rattle.table_core.specs.Holdings.{Run}
use Rattle.table_core.specs.WaitViews.{is_run_at}
use Rattle.table_core.specs.declared.setup.Setup.{Setup}
use Rattle.table_core.specs.declared.view.View.{View}
use Rattle.schedule_rule.specs.CoveringLaws.{StandsAsking, IsActPast}
use Rattle.schedule_rule.specs.Frames.{IsFormed, BagSound}
use Rattle.schedule_rule.specs.PlacingLaws.{StillCovers}
use Rattle.schedule_rule.specs.PlacingViews.{less, with_act_past}
use Rattle.schedule_rule.specs.SoundViews.{SoundRecords}
use Rattle.schedule_rule.proofs.CoveringFacts.{more-cover, fewer-cover, acts-cover, acts-move}
use Rattle.schedule_rule.proofs.PlacingFacts.{times-less}
use Rattle.step_table.specs.declared.record_tokens.Made.{Made}
use Rattle.step_table.specs.PlacingSteps.{ForRun, ForRoot, placed_made, IsByRun, placed_next}
use Rattle.step_table.specs.RecordHands.{RunAt}
use Rattle.step_table.proofs.LookupFacts.{run-there}

-- These references are apart from those that the frame with these words takes, and enough for the runs of the view.
pub record Spares (p : Program) (v : View) (words apart : List ℕ) : Type 0 where
  pub bag : BagSound p (record { futures = apart; runs = v.runs })
  pub apart_from : (u : ℕ) → times u apart + times u (named p (slice_index words)) ≤ times u v.futures

module _ (g : Setup) (v : View) (words apart : List ℕ) (spares : Spares g.checked v words apart) where
  abbrev taken : List ℕ
  taken = named g.checked (slice_index words)

  -- each of them is among those that are left
  left-has : (u : ℕ) → times u apart ≤ times u (less v.futures taken)
  left-has u = omega (arith, spares.apart_from u, times-less u v.futures taken (λ x. omega (arith, spares.apart_from x)))

  -- so what is left is enough
  left-covers : BagSound g.checked (record { futures = less v.futures taken; runs = v.runs })
  left-covers = more-cover g.checked v.runs apart (less v.futures taken) left-has spares.bag

  -- the placing by an act of a run leaves enough
  pub covers-run : (waits : Bool) (made : Made) (number : ℕ) (call : Accepted) (w : ℕ) (past : List ℕ) (run : Run) → RunAt g.plan w v run → passing (is_run_at w) v.runs ≤ 1 → IsActPast g.checked run.words past made.unit
      → StillCovers g v (placed_made waits g.checked made number (record { call = call; words = words; asked = ForRun w past }) v)
  covers-run waits made number call w past run at one act was =
      let there = run-there w v.runs run at.there in
      subst (λ (u : ℕ). BagSound g.checked (record { futures = made.unit ∷ less v.futures taken; runs = with_act_past u past v.runs })) there.1
      (acts-cover g.checked (less v.futures taken) v.runs run there.0 (subst (λ (u : ℕ). passing (is_run_at u) v.runs ≤ 1) (sym there.1) one) past made.unit act left-covers)

  -- that for the root of the turn too
  pub covers-root : (waits : Bool) (made : Made) (number : ℕ) (call : Accepted) → StillCovers g v (placed_made waits g.checked made number (record { call = call; words = words; asked = ForRoot }) v)
  covers-root waits made number call was = more-cover g.checked v.runs (less v.futures taken) (made.unit ∷ less v.futures taken) (λ u. omega arith) left-covers

  -- and that of a run's next number
  pub covers-next : (waits : Bool) (run : Run) (number : ℕ) → StillCovers g v (placed_next waits g.checked run number words v)
  covers-next waits run number was = fewer-cover g.checked (less v.futures taken) v.runs run.unit left-covers

-- where a task's frame asks, there is a way to it as there is one to its body
asks-way : (p : Program) (words : ℕ → ℕ) (x : ℕ) → StandsAsking p x (body_at p words) → BodyHasWay p (body_at p words) → HasWay p (frame_at p words)
asks-way p words x = by (is_aggregate (words 0))
  where
    body : Bool → BodyOf ℕ
    body b = cond b (OfMembers (members_at words) (control_at (words 0))) (OfKind (frame_at p words))

    by : (b : Bool) → StandsAsking p x (body b) → BodyHasWay p (body b) → HasWay p (frame_at p words)
    by true asks way = absurd asks
    by false asks way = way

-- a run of a sound view asked by its act, and its frame is past that now
pub by-run : (g : Setup) (v : View) (d : Drawn) (w u : ℕ) (past : List ℕ) (run : Run) → SoundRecords g v → RunAt g.plan w v run → d.asker ≡ OfTask run.task → IsActPast g.checked run.words past u
    → IsFormed g.checked (slice_index past) → IsByRun g d w past v
by-run g v d w u past run sound at asker_is act formed =
    let there = (run-there w v.runs run at.there).0 in let way = (sound.frames there.0 run there.1).way in
    record { run = run; at = at; asker_is = asker_is; moved = acts-move g.checked run.words past u act (asks-way g.checked (slice_index run.words) act.variable act.asks way) formed }
