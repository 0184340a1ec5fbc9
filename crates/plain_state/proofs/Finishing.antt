-- A task ends: it is completed, and lets go what its body named, and itself.
use Rattle.std.proofs.Common.{◌≡◌, ℕ, ◌≤◌, cond, Option, Some, None, List, [], ◌∷◌, map, refl, sym, ◌∙◌, ap, subst, arith, eq-eqb}
use Rattle.std.specs.List.{filter_map, cons_option}
use Rattle.task_syntax.specs.declared.program.Program.{Program}
use Rattle.task_meaning.specs.Frame.{renamed}
use Rattle.frame_code.specs.Words.{OfKind, OfMembers, body_of}
use Rattle.frame_code.specs.Names.{names_of, present, body_with}
use Rattle.record_core.specs.Journal.{with_finished, MayCause}
use Rattle.record_core.specs.declared.rows.Cause.{Cause}
use Rattle.run_model.specs.State.{Body, Outcome as RunOutcome, Run}
use Rattle.run_model.specs.Step.{completes}
use Rattle.run_model.specs.Move.{RunsAt}
use Rattle.run_model.proofs.JournalKept.{under_way}
use Rattle.run_model.proofs.NumbersInvariant.{NumbersStand}
use Rattle.plain_state.specs.Store.{StoreState, completed, let_go, let_go_all, MayLetGo, MayLetGoAll}
use Rattle.plain_state.specs.Engine.{EngineState}
use Rattle.plain_state.specs.Moves.{finished, MayFinish}
use Rattle.plain_state.specs.Sees.{Sees, SeesBody, unit_of, outcome_seen, times}
use Rattle.plain_state.proofs.Units.{unit_in_use}
use Rattle.plain_state.proofs.References.{in_use_named, in_use_hand}
use Rattle.plain_state.proofs.HandLists.{let_go_all_sees}
use Rattle.plain_state.proofs.QueueRoom.{cons_parts, times_here, times_later}
use Rattle.plain_state.proofs.LetGo.{may_let_go, sees_let_go}
use Rattle.plain_state.proofs.Completing.{waiters, may_complete, done_engine, completed_sees}

-- names under other names
module _ (f : ℕ → Option ℕ) where
  -- of futures
  renamed_present : (os : List (Option ℕ)) (us : List ℕ) → map f (present os) ≡ map (λ u. Some u) us → present (map (renamed f) os) ≡ us
  renamed_present [] [] e = refl
  renamed_present [] (u ∷ us) e = absurd (differ e)
    where
      differ : ◌≡◌ {A = List (Option ℕ)} [] (Some u ∷ map (λ v. Some v) us) → ⊥
      differ h = cc
  renamed_present (None ∷ os) us e = renamed_present os us e
  renamed_present (Some t ∷ os) [] e = absurd (differ e)
    where
      differ : ◌≡◌ {A = List (Option ℕ)} (f t ∷ map f (present os)) [] → ⊥
      differ h = cc
  renamed_present (Some t ∷ os) (u ∷ us) e =
      let (head, tail) = cons_parts (f t) (Some u) (map f (present os)) (map (λ w. Some w) us) e in
      ap (λ o. cons_option o (present (map (renamed f) os))) head ∙ ap (λ xs. u ∷ xs) (renamed_present os us tail)

  -- of members
  renamed_members : (ts us : List ℕ) → map f ts ≡ map (λ u. Some u) us → filter_map f ts ≡ us
  renamed_members [] [] e = refl
  renamed_members [] (u ∷ us) e = absurd (differ e)
    where
      differ : ◌≡◌ {A = List (Option ℕ)} [] (Some u ∷ map (λ v. Some v) us) → ⊥
      differ h = cc
  renamed_members (t ∷ ts) [] e = absurd (differ e)
    where
      differ : ◌≡◌ {A = List (Option ℕ)} (f t ∷ map f ts) [] → ⊥
      differ h = cc
  renamed_members (t ∷ ts) (u ∷ us) e =
      let (head, tail) = cons_parts (f t) (Some u) (map f ts) (map (λ w. Some w) us) e in
      ap (λ o. cons_option o (filter_map f ts)) head ∙ ap (λ xs. u ∷ xs) (renamed_members ts us tail)

  -- the names of a body under other names are the other names
  pub renamed_names : (body : Body) (us : List ℕ) → map f (names_of body) ≡ map (λ u. Some u) us → names_of (body_with f body) ≡ us
  renamed_names (OfKind q) us e = renamed_present q.futures us e
  renamed_names (OfMembers members next) us e = renamed_members members us e

  -- each has another name
  pub all_named : (ts : List ℕ) → ((t : ℕ) → 1 ≤ times t ts → (u : ℕ) × (f t ≡ Some u)) → (us : List ℕ) × (map f ts ≡ map (λ u. Some u) us)
  all_named [] each = ([], refl)
  all_named (t ∷ ts) each =
      let (u, e) = each t (let one = times_here t ts in omega (arith, one)) in
      let (us, es) = all_named ts (λ x some. each x (times_later x t ts some)) in
      (u ∷ us, ap (λ o. o ∷ map f ts) e ∙ ap (λ os. Some u ∷ os) es)

module _ (p : Program) (units : ℕ) (e : EngineState) (r : Run) (unit : ℕ) (words : List ℕ) (t n : ℕ) (body : Body) (held : NumbersStand r) (runs : RunsAt r t n body) (at : unit_of r.blocks t ≡ Some unit)
    (sees : Sees p units [] (Some (t, words)) e r) where
  -- the words of the running frame say its body
  frame_is : SeesBody p r.blocks words body
  frame_is =
      let task = sees.tasks t (Rattle.plain_state.proofs.References.in_use_open [] r t body runs.has) in
      subst (λ ws. SeesBody p r.blocks ws body) (ap (λ x. cond x words (Rattle.plain_state.specs.Store.frame_at e.store task.block.unit)) (eq-eqb t t refl)) (task.body body runs.has)

  -- the units that the words of the running frame name are those of what its body names
  pub names_seen : map (unit_of r.blocks) (names_of body) ≡ map (λ u. Some u) (names_of (body_of p words))
  names_seen =
      let (us, are) = all_named (unit_of r.blocks) (names_of body) (λ u some. unit_in_use p units [] (Some (t, words)) e r sees u (in_use_named [] r t u body runs.has some)) in
      are ∙ ap (map (λ u. Some u)) (sym (renamed_names (unit_of r.blocks) body us are) ∙ sym (ap names_of frame_is.says))

  -- It ends so: each call may be made, and the engine stands for the run that ended it.
  pub finish_sees : (outcome : RunOutcome) (why : Cause) → MayCause r.journal why
      → (ws : List ℕ) × MayFinish unit t ws (names_of (body_of p words)) (outcome_seen outcome) why e
      × Sees p units [] None (finished unit t ws (names_of (body_of p words)) (outcome_seen outcome) why e) (completes r t outcome why)
  finish_sees outcome why caused =
      let done = completed_sees p units e r unit words t n body held runs at sees outcome why in
      let (names, left) = let_go_all_sees p units None (done_engine p units e r unit words t n body held runs at sees outcome why) (completes r t outcome why) (names_of body) (names_of (body_of p words)) (t ∷ []) names_seen done in
      let last = may_let_go p units [] None _ (completes r t outcome why) t unit left at in (
        waiters p units e r unit words t n body held runs at sees outcome why,
        record {
          under_way = subst (λ j. Rattle.record_core.specs.Journal.IsUnderWay j t) (sym sees.journal) (under_way r t n body held runs);
          caused = subst (λ j. MayCause j why) (sym sees.journal) caused;
          completes = may_complete p units e r unit words t n body held runs at sees outcome why;
          gives_up = names;
          last = last;
        },
        sees_let_go p units [] None _ (completes r t outcome why) t unit left at,
      )
