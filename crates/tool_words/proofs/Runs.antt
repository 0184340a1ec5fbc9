-- What the words of a run choose, from its parts.
use Rattle.std.proofs.Common.{◌≡◌, ℕ, Bool, true, false, ◌&&◌, List, Option, Some, None, is_some, if◌then◌else◌, codes, refl, sym, ap}
use Rattle.clap.specs.Walk.{Row, Text, first_of}
use Rattle.record_core.specs.EndSeen.{RunPlan}
use Rattle.tool_words.specs.Choice.{RunWords, is_in_range, workers_in, has_plan, plan_in, has_flag, has_run, run_in}

-- where a test gave something, it holds
chosen : {A : Type 0} (test : Bool) (x : Option A) (got : A) → Some got ≡ (if test then x else None) → (test ≡ true) × (x ≡ Some got)
chosen true x got e = (refl, sym e)
chosen false x got e = cc

-- where it gave nothing, it does not
unchosen : {A : Type 0} (test : Bool) (x : A) → None ≡ (if test then Some x else None) → test ≡ false
unchosen true x e = cc
unchosen false x e = refl

no_run : (a b : Bool) → b ≡ false → (a && b) ≡ false
no_run true b e = e
no_run false b e = refl

module _ (rows : List Row) where
  abbrev Chosen : Option RunWords
  Chosen = if has_run rows then Some (run_in rows) else None

  pub without_program : first_of (codes "program") rows ≡ None → None ≡ Chosen
  without_program none = rw none refl

  pub without_plan : None ≡ (if has_plan rows then Some (plan_in rows) else None) → None ≡ Chosen
  without_plan none =
      let plan = unchosen (has_plan rows) (plan_in rows) none in
      let numbers = no_run (is_in_range 1 64 (workers_in rows)) (has_plan rows) plan in
      rw (no_run (is_some (first_of (codes "program") rows)) _ numbers) refl

  pub with_all : (program : Text) (columns : Option Text) (workers : ℕ) (plan : RunPlan) (trace : Bool)
      → first_of (codes "program") rows ≡ Some program → first_of (codes "columns") rows ≡ columns
      → Some workers ≡ (if is_in_range 1 64 (workers_in rows) then workers_in rows else None)
      → Some plan ≡ (if has_plan rows then Some (plan_in rows) else None) → trace ≡ has_flag rows (codes "trace")
      → Some (record { program = program; columns = columns; workers = workers; plan = plan; trace = trace }) ≡ Chosen
  with_all program columns workers plan trace named file many planned flag =
      let w = chosen (is_in_range 1 64 (workers_in rows)) (workers_in rows) workers many in
      let p = chosen (has_plan rows) (Some (plan_in rows)) plan planned in
      let is_plan : plan_in rows ≡ plan = cc in
      let all : has_run rows ≡ true = rw (named, w.0, p.0) refl in
      let same : record { program = program; columns = columns; workers = workers; plan = plan; trace = trace } ≡ run_in rows =
      rw (named, file, w.1, is_plan, ← flag) refl in
      rw all (ap Some same)
