-- The running task puts a task in hand into one of its variables, or nothing, and gives up what the variable named.
use Rattle.std.proofs.Common.{◌≡◌, ℕ, zero, suc, ◌+◌, ◌<◌, ◌≤◌, Option, Some, None, List, [], ◌∷◌, ◌++◌, length, refl, sym, ◌∙◌, ap, subst, arith, cond, nat_eq}
use Rattle.std.specs.Option.{option_to_list}
use Rattle.std.proofs.lemmas.Option.{none-some, same_Some}
use Rattle.task_syntax.specs.declared.program.Program.{Program}
use Rattle.task_meaning.specs.Meant.{future_at}
use Rattle.task_meaning.specs.Frame.{FrameOf, set_future, renamed}
use Rattle.frame_code.specs.Words.{OfKind}
use Rattle.frame_code.specs.Names.{names_of, present}
use Rattle.frame_code.proofs.NameChanges.{name-changes}
use Rattle.record_core.specs.Numbers.{found}
use Rattle.run_model.specs.State.{Run}
use Rattle.run_model.specs.Step.{with_body}
use Rattle.plain_state.specs.Engine.{EngineState, with_store}
use Rattle.plain_state.specs.Moves.{let_go_if, MayLetGoIf}
use Rattle.plain_state.specs.Sees.{Sees, SeesBody, times, unit_of}
use Rattle.plain_state.proofs.Units.{unit_in_use}
use Rattle.plain_state.proofs.References.{in_use_named, times_itself, times_append}
use Rattle.plain_state.proofs.InHand.{sees_body}
use Rattle.plain_state.proofs.LetGo.{sees_let_go}
use Rattle.plain_state.proofs.HandLists.{may_let_go_used}

-- a task that a variable names is among the names
pub future_named : (futures : List (Option ℕ)) (x u : ℕ) → future_at futures x ≡ Some u → 1 ≤ times u (present futures)
future_named [] x u e = absurd (none-some u e)
future_named (None ∷ futures) zero u e = absurd (none-some u e)
future_named (None ∷ futures) (suc x) u e = future_named futures x u e
future_named (Some v ∷ futures) zero u e =
    let same : v ≡ u = same_Some v u e in
    let one : ◌≡◌ {A = ℕ} (cond (nat_eq v u) 1 0) 1 =
    ap (λ w. cond (nat_eq w u) 1 0) same ∙ times_itself u in
    omega (arith, one)
future_named (Some v ∷ futures) (suc x) u e = omega (arith, future_named futures x u e)

module _ (p : Program) (units : ℕ) (e : EngineState) (r : Run) (t : ℕ) (words : List ℕ) (q : FrameOf ℕ) (x : ℕ) (future : Option ℕ)
    (sees : Sees p units (option_to_list future) (Some (t, words)) e r) (has : found r.bodies t ≡ Some (OfKind q)) where
  abbrev old : Option ℕ
  old = future_at q.futures x

  -- what the variable names may be let go
  pub may_let_go_old : MayLetGoIf (renamed (unit_of r.blocks) old) e.store
  may_let_go_old = by old refl
    where
      by : (o : Option ℕ) → old ≡ o → MayLetGoIf (renamed (unit_of r.blocks) o) e.store
      by None names = tt
      by (Some w) names =
          let used = in_use_named (option_to_list future) r t w (OfKind q) has (future_named q.futures x w names) in
          let (unit, at) = unit_in_use p units (option_to_list future) (Some (t, words)) e r sees w used in
          subst (λ o. MayLetGoIf o e.store) (sym at) (may_let_go_used p units (option_to_list future) (Some (t, words)) e r w unit sees used at)

  -- and once it is let go, the engine sees the task with the variable set
  pub sees_set : (next : List ℕ) → x < length q.futures → SeesBody p r.blocks next (OfKind (set_future q x future)) → length next ≡ length words
      → Sees p units [] (Some (t, next)) (with_store e (let_go_if (renamed (unit_of r.blocks) old) e.store))
      (with_body r t (OfKind (set_future q x future)))
  sees_set next within says long = by old refl
    where
      names : (o : Option ℕ) → old ≡ o → (u : ℕ)
          → times u (option_to_list o) + times u (names_of (OfKind (set_future q x future))) ≡ times u (option_to_list future) + times u
          (names_of (OfKind q))
      names o is_old u =
          let (before, after, then, now) = name-changes q x future within in
          let then_times = ap (times u) then ∙ times_append u (before ++ option_to_list old) after in
          let now_times = ap (times u) now ∙ times_append u (before ++ option_to_list future) after in
          let gone = ap (λ f. times u (option_to_list f)) is_old in
          omega (arith, then_times, now_times, times_append u before (option_to_list old), times_append u before (option_to_list future), gone)

      by : (o : Option ℕ) → old ≡ o
          → Sees p units [] (Some (t, next)) (with_store e (let_go_if (renamed (unit_of r.blocks) o) e.store))
          (with_body r t (OfKind (set_future q x future)))
      by None is_old =
          sees_body p units (option_to_list future) [] t words next (OfKind q) (OfKind (set_future q x future)) e r sees has
          (names None is_old) says long
      by (Some w) is_old =
          let used = in_use_named (option_to_list future) r t w (OfKind q) has (future_named q.futures x w is_old) in
          let (unit, at) = unit_in_use p units (option_to_list future) (Some (t, words)) e r sees w used in
          let then = sees_body p units (option_to_list future) (w ∷ []) t words next (OfKind q) (OfKind (set_future q x future)) e r sees has
          (names (Some w) is_old) says long in
          subst (λ o. Sees p units [] (Some (t, next)) (with_store e (let_go_if o e.store)) (with_body r t (OfKind (set_future q x future)))) (sym at)
          (sees_let_go p units [] (Some (t, next)) e (with_body r t (OfKind (set_future q x future))) w unit then at)
