-- What holds before the first root, and is kept by each move, holds at each step of each run.
use Rattle.std.proofs.Common.{◌≡◌, ℕ, zero, suc, Option, Some, None, List, [], ◌∷◌, ◌++◌, length, slice_get, refl, sym, ◌∙◌, ap, inl, inr, append_assoc, append-nil}
use Rattle.task_syntax.specs.declared.program.Root.{Root as RootLine}
use Rattle.task_syntax.specs.declared.program.Program.{Program}
use Rattle.task_syntax.specs.declared.columns.Columns.{Columns}
use Rattle.record_core.specs.Numbers.{found}
use Rattle.record_core.specs.Journal.{next_number}
use Rattle.record_core.specs.EndSeen.{RunPlan}
use Rattle.record_core.specs.RootEnds.{roots_named}
use Rattle.run_model.specs.State.{Outcome, RootWord, Named, Refused, Skipped, Run}
use Rattle.run_model.specs.Step.{arrives, accepts, root_request, step, steps, with_root, asks_root, asks_roots, at_first, asked, first_taskless}
use Rattle.run_model.specs.Move.{Move, RootMove, StaysOrMoves}
use Rattle.run_model.proofs.Traversal.{step_moves, root_moves}

-- one more at the end
length_snoc : {A : Type 0} (xs : List A) (x : A) → length (xs ++ x ∷ []) ≡ suc (length xs)
length_snoc [] x = refl
length_snoc (y ∷ xs) x = ap suc (length_snoc xs x)

-- the root is the next one to be asked for, and nothing runs
pub record IsNextRoot (p : Program) (r : Run) (root : RootLine) : Type 0 where
  pub there : slice_get p.roots (length r.roots) ≡ Some root
  pub idle : r.running ≡ None

-- an arrival changes no root and not what runs
pub record SameRoots (r s : Run) : Type 0 where
  pub roots : s.roots ≡ r.roots
  pub running : s.running ≡ r.running

arrival : (r : Run) (n : ℕ) (after : Option ℕ) → SameRoots r (arrives r n after)
arrival r n None = record { roots = refl; running = refl }
arrival r n (Some u) = by (found r.outcomes u)
  where
    by : (o : Option Outcome) → SameRoots r (Rattle.run_model.specs.Step.waits_or_queues o r n u)
    by None = record { roots = refl; running = refl }
    by (Some outcome) = record { roots = refl; running = refl }

-- a move of a root adds its word, and starts nothing
pub record OneMoreRoot (r s : Run) : Type 0 where
  pub word : RootWord
  pub roots : s.roots ≡ r.roots ++ word ∷ []
  pub running : s.running ≡ r.running

-- a root's move answers one root more
pub one_more_root : (p : Program) (units : ℕ) (r s : Run) (root : RootLine) → RootMove p units r root s → OneMoreRoot r s
one_more_root p units r s root (RootMove.named block free placed some) =
    let new = with_root (accepts units r (root_request p r root) block) (Named (next_number r.journal)) in
    let same = arrival new (next_number r.journal) (root_request p r root).after in
    record { word = Named (next_number r.journal); roots = same.roots; running = same.running }
one_more_root p units r s root (RootMove.refused tag notes free how) = record { word = Refused tag; roots = refl; running = refl }
one_more_root p units r s root (RootMove.skipped first e) = record { word = Skipped first.0 first.1; roots = refl; running = refl }

-- the root at the front of what is left
next_there : (roots done more : List RootLine) (root : RootLine) → roots ≡ done ++ root ∷ more → slice_get roots (length done) ≡ Some root
next_there roots done more root e = rw e (front done)
  where
    front : (done : List RootLine) → slice_get (done ++ root ∷ more) (length done) ≡ Some root
    front [] = refl
    front (x ∷ xs) = front xs

module _ (p : Program) (plan : RunPlan) (K : Run → Type 0) where
  -- after some roots were asked for
  pub record HasAsked (done : ℕ) (r : Run) : Type 0 where
    pub kept : K r
    pub idle : r.running ≡ None
    pub roots : length r.roots ≡ done

  module _ (root_keeps : (r s : Run) (root : RootLine) → IsNextRoot p r root → K r → RootMove p plan.units r root s → K s) where
    one_asked : (done : ℕ) (r s : Run) (root : RootLine) → slice_get p.roots done ≡ Some root → HasAsked done r → RootMove p plan.units r root s → HasAsked (suc done) s
    one_asked done r s root there now move =
        let more = one_more_root p plan.units r s root move in record {
          kept = root_keeps r s root (record { there = ap (slice_get p.roots) now.roots ∙ there; idle = now.idle }) now.kept move;
          idle = more.running ∙ now.idle;
          roots = ap length more.roots ∙ length_snoc r.roots more.word ∙ ap suc now.roots;
        }

    asks_front : (before more done left : List RootLine) (r : Run) → p.roots ≡ before ++ more → before ≡ done ++ left → HasAsked (length done) r → HasAsked (length before) (asks_roots p plan.units r left)
    asks_front before more done [] r split e now = record { kept = now.kept; idle = now.idle; roots = now.roots ∙ sym (ap length (e ∙ append-nil done)) }
    asks_front before more done (root ∷ left) r split e now =
        let next = asks_root p plan.units r root (first_taskless r.roots (roots_named root)) in
        let there = next_there p.roots done (left ++ more) root (split ∙ ap (λ (xs : List RootLine). xs ++ more) e ∙ append_assoc done (root ∷ left) more) in
        asks_front before more (done ++ root ∷ []) left next split (e ∙ sym (append_assoc done (root ∷ []) left))
        (rw (length_snoc done root) (one_asked (length done) r next root there now (root_moves p plan.units r root)))

    -- once the roots at the front were asked for
    pub asked_front : K (at_first plan) → (before more : List RootLine) → p.roots ≡ before ++ more → HasAsked (length before) (asks_roots p plan.units (at_first plan) before)
    asked_front first before more split = asks_front before more [] before (at_first plan) split refl (record { kept = first; idle = refl; roots = refl })

-- roots are asked for in their order
pub asks_append : (p : Program) (units : ℕ) (r : Run) (xs ys : List RootLine) → asks_roots p units r (xs ++ ys) ≡ asks_roots p units (asks_roots p units r xs) ys
asks_append p units r [] ys = refl
asks_append p units r (root ∷ xs) ys = asks_append p units (asks_root p units r root (first_taskless r.roots (roots_named root))) xs ys

module _ (p : Program) (c : Columns) (plan : RunPlan) (K : Run → Type 0) where
  -- each move of a root, and each move of a task, keeps K
  pub record IsKept : Type 0 where
    pub first : K (at_first plan)
    pub root : (r s : Run) (root : RootLine) → IsNextRoot p r root → K r → RootMove p plan.units r root s → K s
    pub move : (r s : Run) → K r → Move p c plan.units r s → K s

  -- once all roots were asked for
  pub asked_all : IsKept → HasAsked p plan K (length p.roots) (asked p plan)
  asked_all kept = asked_front p plan K kept.root kept.first p.roots [] (sym (append-nil p.roots))

  step_keeps : (kept : IsKept) (r s : Run) → K r → StaysOrMoves p c plan.units r s → K s
  step_keeps kept r s now (inl stays) = rw stays.0 now
  step_keeps kept r s now (inr move) = kept.move r s now move

  steps_keep : (kept : IsKept) (taken : ℕ) (r : Run) → K r → K (steps p c plan.units taken r)
  steps_keep kept zero r now = now
  steps_keep kept (suc n) r now = steps_keep kept n (step p c plan.units r) (step_keeps kept r (step p c plan.units r) now (step_moves p c plan.units r))

  -- at each step of the run
  pub always : IsKept → (taken : ℕ) → K (steps p c plan.units taken (asked p plan))
  always kept taken = steps_keep kept taken (asked p plan) (asked_all kept).kept

  -- what holds once all roots were asked for, and is kept by each move of a task, holds from then on
  pub always_from : (L : Run → Type 0) → L (asked p plan) → ((r s : Run) → K r → L r → Move p c plan.units r s → L s) → IsKept → (taken : ℕ) → L (steps p c plan.units taken (asked p plan))
  always_from L first move kept taken = go taken (asked p plan) (asked_all kept).kept first
    where
      go : (taken : ℕ) (r : Run) → K r → L r → L (steps p c plan.units taken r)
      go zero r now then = then
      go (suc taken) r now then =
          let next = step p c plan.units r in
          go taken next (step_keeps kept r next now (step_moves p c plan.units r)) (stays_or_moves next (step_moves p c plan.units r))
        where
          stays_or_moves : (s : Run) → StaysOrMoves p c plan.units r s → L s
          stays_or_moves s (inl stays) = rw stays.0 then
          stays_or_moves s (inr moved) = move r s now then moved
