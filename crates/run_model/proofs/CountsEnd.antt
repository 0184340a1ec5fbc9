-- The end of a run is complete, where the meaning has counts, these are within the limit, and the pool suffices.
use Rattle.std.proofs.Common.{◌≡◌, ℕ, zero, suc, ◌≤◌, Some, List, [], ◌∷◌, length, map, slice_get, refl, sym, ◌∙◌, ap, subst, arith}
use Rattle.std.proofs.lemmas.Option.{none-some, same_Some}
use Rattle.task_syntax.specs.Places.{Each}
use Rattle.task_syntax.specs.Form.{IsWellFormed}
use Rattle.task_syntax.specs.Valid.{IsValid}
use Rattle.task_syntax.specs.declared.program.Program.{Program}
use Rattle.task_syntax.specs.declared.columns.Columns.{Columns}
use Rattle.task_meaning.specs.Meant.{Counts}
use Rattle.task_meaning.specs.Leads.{no_counts}
use Rattle.task_meaning.specs.Roots.{RootsCount}
use Rattle.task_meaning.proofs.RootCounts.{none-left}
use Rattle.kt_words.specs.Ranges.{IsGeometry}
use Rattle.record_core.specs.Sums.{total}
use Rattle.record_core.specs.Numbers.{found}
use Rattle.record_core.specs.Journal.{task_count}
use Rattle.record_core.specs.EndSeen.{RunPlan}
use Rattle.record_core.specs.EndSound.{Suffices, IsValueEnd, IsComplete, EndComplete}
use Rattle.run_model.specs.State.{Outcome, Gave, WasCut, RootWord, Named, Refused, Skipped, Run}
use Rattle.run_model.specs.End.{OneThreadRun, end_at, root_end, end_seen, state_at}
use Rattle.run_model.proofs.ByNumber.{has_some}
use Rattle.run_model.proofs.Reached.{always}
use Rattle.run_model.proofs.FramesInvariant.{FramesStand}
use Rattle.run_model.proofs.FramesKept.{frames_first, frames_root, frames_move}
use Rattle.run_model.proofs.ValuesInvariant.{ValuesStand}
use Rattle.run_model.proofs.ValuesKept.{values_first, values_root, values_move}
use Rattle.run_model.proofs.RootsInvariant.{RootsStand}
use Rattle.run_model.proofs.RootsKept.{roots_first, roots_root, roots_move}
use Rattle.run_model.proofs.RunStands.{RunStands, run_first, run_root, run_move}
use Rattle.run_model.proofs.StandsStill.{IsQuiet}
use Rattle.run_model.proofs.AllFinish.{all_finish, no_bodies}
use Rattle.run_model.proofs.BlocksKept.{BlocksHeld, blocks_first, blocks_root, blocks_move}
use Rattle.run_model.proofs.CountsInvariant.{IsNamed, BodyCounts, CountsStand}
use Rattle.run_model.proofs.CountsKept.{HasRoomLeft, counts_step}
use Rattle.run_model.proofs.CountsRoots.{counts_first, counts_asked}
use Rattle.run_model.proofs.CountsRoom.{CallsAsk, ask_first, ask_root, ask_move, has_room_left}
use Rattle.run_model.proofs.EndLaws.{root_count, end_quiet}

-- with counts, what they rest on
pub record HeldCounts (p : Program) (c : Columns) (plan : RunPlan) (all : Counts) (r : Run) : Type 0 where
  pub run : RunStands p plan.limit r
  pub roots : RootsStand p r
  pub frames : FramesStand p r
  pub values : ValuesStand p c r
  pub blocks : BlocksHeld p plan r
  pub ask : CallsAsk p r.calls
  pub counts : CountsStand p c r all

-- counts stand at each step of a run of a valid program, within the limit and in a pool that suffices
pub counts_always : (p : Program) → IsWellFormed p → IsValid p → (c : Columns) (plan : RunPlan) → IsGeometry plan.superblocks plan.units
    → (all : Counts) → RootsCount p c all → all.activations ≤ plan.limit → Suffices p plan all.tasks → (taken : ℕ) → HeldCounts p c plan all (state_at p c plan taken)
counts_always p formed valid c plan geometry all counted fits suffices taken = always p c plan (HeldCounts p c plan all) (record {
  first = record {
    run = run_first p plan;
    roots = roots_first p plan;
    frames = frames_first p plan;
    values = values_first p c plan;
    blocks = blocks_first p plan geometry;
    ask = ask_first p plan;
    counts = counts_first p c plan all counted;
  };
  root = λ r s root next now move. let run = run_root p plan.limit plan.units r s root next now.run move in record {
    run = run;
    roots = roots_root p formed plan.units r s root next now.run.numbers now.roots move;
    frames = frames_root p formed valid plan.units r s root next now.run.numbers run.numbers now.frames move;
    values = values_root p c plan.units r s root next now.run.numbers now.run.calls now.values move;
    blocks = blocks_root p plan geometry r s root next now.run.numbers now.blocks move;
    ask = ask_root p formed plan.units r s root next now.ask move;
    counts = counts_asked p formed c plan.units all r root next now.run.numbers now.run.calls now.roots now.counts plan.limit fits now.run.journal.of_plan (room r now) s move;
  };
  move = λ r s now move. let run = run_move p c plan.limit plan.units r s now.run move in record {
    run = run;
    roots = roots_move p c plan.units r s now.roots move;
    frames = frames_move p formed valid c plan.units r s now.run.numbers run.numbers now.frames move;
    values = values_move p formed valid c plan.units r s now.run.numbers now.run.calls now.frames now.values move;
    blocks = blocks_move p plan geometry c r s now.run.numbers now.blocks move;
    ask = ask_move p formed valid c plan.units r s now.run.numbers now.frames now.ask move;
    counts = counts_step p formed valid c all r now.run.numbers now.run.calls now.frames now.values now.counts plan.units (room r now) plan.limit fits now.run.journal.of_plan s move;
  };
}) taken
  where
    room : (r : Run) → HeldCounts p c plan all r → HasRoomLeft p plan.units all r
    room r now = has_room_left p plan geometry r now.run.numbers now.run.calls now.blocks now.ask all suffices

-- a sum of nothing
total_none : {A : Type 0} (f : A → ℕ) (xs : List A) → Each xs (λ x. f x ≡ 0) → total f xs ≡ 0
total_none f [] each = refl
total_none f (x ∷ xs) each = omega (arith, each 0 x refl, total_none f xs (λ at. each (suc at)))

-- a member of a list that a function made
made_at : {A B : Type 0} (f : A → B) (xs : List A) (at : ℕ) (y : B) → slice_get (map f xs) at ≡ Some y → (x : A) × (slice_get xs at ≡ Some x) × (f x ≡ y)
made_at f [] at y e = absurd (none-some y e)
made_at f (x ∷ xs) zero y e = (x, refl, same_Some (f x) y e)
made_at f (x ∷ xs) (suc at) y e = made_at f xs at y e

-- where nothing is under way or to come, all was accepted that is counted
module _ (p : Program) (c : Columns) (plan : RunPlan) (all : Counts) (r : Run) (run : RunStands p plan.limit r) (counts : CountsStand p c r all) (quiet : IsQuiet r) (all_asked : length r.roots ≡ length p.roots) where
  -- of no number anything is left
  none_left : (t : ℕ) (k : Counts) → Rattle.record_core.specs.Numbers.by_number counts.left t ≡ Some k → k ≡ no_counts
  none_left t k e = subst (λ body. BodyCounts p c r.journal.rows r.running r.calls t body k) (no_bodies r run.numbers run.rank quiet t) (counts.bodies_count t k e)

  -- and no root is to come
  no_root_left : no_counts ≡ counts.roots_left
  no_root_left = (none-left p c (length r.roots) counts.roots_left (omega (arith, all_asked))).0 counts.to_come

  -- so all tasks were accepted
  all_tasks : task_count r.journal.rows ≡ all.tasks
  all_tasks =
      let none = total_none (λ (k : Counts). k.tasks) counts.left (λ at k e. ap (λ (x : Counts). x.tasks) (none_left (suc at) k e)) in
      omega (arith, counts.add_up.tasks, none, ap (λ (x : Counts). x.tasks) no_root_left)

  -- and all activations
  all_activations : length r.journal.rows ≡ all.activations
  all_activations =
      let none = total_none (λ (k : Counts). k.activations) counts.left (λ at k e. ap (λ (x : Counts). x.activations) (none_left (suc at) k e)) in
      omega (arith, counts.add_up.activations, none, ap (λ (x : Counts). x.activations) no_root_left)

  -- each root has a value
  word_valued : (at : ℕ) (word : RootWord) → slice_get r.roots at ≡ Some word → IsNamed word → IsValueEnd (root_end r word)
  word_valued at (Named t) e is =
      let task = run.numbers.names.in_roots at t e in
      let (outcome, ended) = has_some (found r.outcomes t) ((run.numbers.live.has_outcome t).1 (all_finish r run.numbers run.rank quiet t task)) in
      subst (λ o. IsValueEnd (end_at t o)) (sym ended) (by t outcome ended)
    where
      by : (t : ℕ) (outcome : Outcome) → found r.outcomes t ≡ Some outcome → IsValueEnd (end_at t (Some outcome))
      by t (Gave v) ended = tt
      by t (WasCut tag) ended = absurd (counts.uncut t tag ended)
  word_valued at (Refused tag) e is = absurd is
  word_valued at (Skipped from tag) e is = absurd is

  -- the end is complete
  pub complete : IsComplete (end_seen plan r) all
  complete = record {
    values = λ at end e. let (word, there, is_end) = made_at (root_end r) r.roots at end e in subst IsValueEnd is_end (word_valued at word there (counts.named at word there));
    activations = all_activations;
    tasks = all_tasks;
    nulls = counts.no_null;
  }

-- so is the end of each run of a valid program
pub ends_complete : (p : Program) (c : Columns) (plan : RunPlan) (end : Run) → IsWellFormed p → IsValid p → IsGeometry plan.superblocks plan.units → OneThreadRun p c plan end
    → EndComplete p c plan (end_seen plan end)
ends_complete p c plan end formed valid geometry run all counted fits suffices =
    let now = subst (HeldCounts p c plan all) run.reached (counts_always p formed valid c plan geometry all counted fits suffices run.taken) in
    complete p c plan all end now.run now.counts (end_quiet p c plan end run)
    (ap (λ (r : Run). length r.roots) (sym run.reached) ∙ root_count p c plan run.taken)
