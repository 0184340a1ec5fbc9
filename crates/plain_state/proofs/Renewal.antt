-- A running task is renewed: each call may be made, and the engine stands for the run in which its further number arrived.
use Rattle.std.proofs.Common.{◌≡◌, ◌≢◌, ◌⊎◌, ℕ, ◌+◌, ◌*◌, ◌<◌, ◌≤◌, cond, nat_eq, Option, Some, None, List, [], ◌∷◌, ◌++◌, length, map, slice_get, refl, sym, ◌∙◌, ap, subst, inr, ⊎_elim, arith, append-nil, IfSome}
use Rattle.pool_core.specs.Blocks.{BlockState}
use Rattle.std.proofs.lemmas.Bool.{cases_eq}
use Rattle.std.proofs.lemmas.Option.{same_Some, slice_get_within}
use Rattle.task_syntax.specs.declared.program.Program.{Program}
use Rattle.task_syntax.specs.declared.columns.Columns.{Columns}
use Rattle.task_syntax.specs.declared.value.Priority.{Priority}
use Rattle.task_meaning.specs.Worths.{Respawn}
use Rattle.frame_code.specs.Names.{names_of}
use Rattle.record_core.specs.Numbers.{flat, found, HasTask}
use Rattle.record_core.specs.Journal.{next_number, with_accepted, IsUnderWay}
use Rattle.record_core.specs.EndSeen.{RunPlan}
use Rattle.record_core.specs.declared.rows.ActivationRow.{ActivationRow}
use Rattle.run_model.specs.State.{Body, Outcome as RunOutcome, Run}
use Rattle.run_model.specs.Step.{arrives, waits_or_queues, with_body, draws}
use Rattle.run_model.specs.Move.{RunsAt}
use Rattle.run_model.proofs.ByNumber.{snoc_new, found_old, found_put, found_within}
use Rattle.run_model.proofs.JournalKept.{under_way}
use Rattle.run_model.proofs.LiveFacts.{read_snoc}
use Rattle.run_model.proofs.NumbersInvariant.{NumbersStand, NumbersHeld, BodyNames}
use Rattle.run_model.proofs.NumbersParts.{held_renewed, if_some_from}
use Rattle.plain_state.specs.declared.record.Behind.{Behind}
use Rattle.plain_state.specs.Store.{let_go_all, renewed, stored, units_of, MayLetGoAll}
use Rattle.plain_state.specs.Engine.{EngineState, with_store}
use Rattle.plain_state.specs.Moves.{arrived, MayArrive, MayRenew, renewed_task}
use Rattle.plain_state.specs.Laws.{RenewsTask}
use Rattle.plain_state.specs.Sees.{Sees, SeesTask, SeesBody, InUse, IsReached, times, unit_of}
use Rattle.plain_state.proofs.Units.{block_inside}
use Rattle.plain_state.proofs.References.{in_use_open, times_itself, times_other}
use Rattle.plain_state.proofs.InHand.{sees_body, sees_stored, known_at}
use Rattle.plain_state.proofs.HandLists.{let_go_all_sees, cons_parts, nil_cons}
use Rattle.plain_state.proofs.GrownLists.{body_same}
use Rattle.plain_state.proofs.Arriving.{waits_unit, waits_open, arrival_sees}
use Rattle.plain_state.proofs.BehindSeen.{IsBehind}
use Rattle.plain_state.proofs.Renewing.{unit_same, sees_drawn}

-- an arrival lets nothing run
arrives_idle : (r : Run) (n : ℕ) (after : Option ℕ) → (arrives r n after).running ≡ r.running
arrives_idle r n None = refl
arrives_idle r n (Some u) = by (found r.outcomes u)
  where
    by : (o : Option RunOutcome) → (waits_or_queues o r n u).running ≡ r.running
    by None = refl
    by (Some outcome) = refl

module _ (p : Program) (c : Columns) (plan : RunPlan) (e : EngineState) (r : Run) (unit : ℕ) (words : List ℕ) (t m : ℕ) (old : Body)
    (held : NumbersStand r) (runs : RunsAt r t m old) (at : unit_of r.blocks t ≡ Some unit)
    (sees : Sees p plan.units [] (Some (t, words)) e r) where
  module _ (after : Option ℕ) (priority : Priority) (behind : Behind) (to : Body) (given_up next gone : List ℕ) (is_behind : IsBehind r after behind)
      (names : (u : ℕ) → times u gone + times u (names_of to) ≡ times u (names_of old))
      (are : map (unit_of r.blocks) gone ≡ map (λ x. Some x) given_up) (says : SeesBody p r.blocks next to) (long : length next ≡ length words)
      (tasks : (u : ℕ) → BodyNames to u ⊎ (after ≡ Some u) → HasTask r.journal.rows u) where
    abbrev drawn : Run
    drawn = record (draws r (Some t) after priority (Respawn t after) None None) { running = None }

    abbrev new_run : Run
    new_run = with_body drawn t to

    abbrev blocks_now : List (Option BlockState)
    blocks_now = r.blocks ++ None ∷ []

    abbrev one : EngineState
    one = record e { journal = with_accepted e.journal (Some t) after; store = renewed unit (next_number e.journal) priority behind.cut e.store }

    same_unit : (u : ℕ) → unit_of blocks_now u ≡ unit_of r.blocks u
    same_unit u =
        unit_same p plan.units [] (Some (t, words)) e r t m unit old held runs at sees after priority (Respawn t after) behind.cut is_behind.cut u

    at_now : unit_of blocks_now t ≡ Some unit
    at_now = same_unit t ∙ at

    first : Sees p plan.units [] (Some (t, words)) one drawn
    first = sees_drawn p plan.units [] (Some (t, words)) e r t m unit old held runs at sees after priority (Respawn t after) behind.cut is_behind.cut

    has_now : found (r.bodies ++ None ∷ []) t ≡ Some old
    has_now = found_old r.bodies None t old runs.has

    says_now : SeesBody p blocks_now next to
    says_now = record { frame = says.frame; says = says.says ∙ body_same (unit_of r.blocks) (unit_of blocks_now) to (λ v some. sym (same_unit v)) }

    second : Sees p plan.units (gone ++ []) (Some (t, next)) one new_run
    second = subst (λ hand. Sees p plan.units hand (Some (t, next)) one new_run) (sym (append-nil gone))
        (sees_body p plan.units [] gone t words next old to one drawn first has_now (λ u. omega (arith, names u)) says_now long)

    are_now : map (unit_of blocks_now) gone ≡ map (λ x. Some x) given_up
    are_now = same_map gone ∙ are
      where
        same_map : (xs : List ℕ) → map (unit_of blocks_now) xs ≡ map (unit_of r.blocks) xs
        same_map [] = refl
        same_map (x ∷ xs) = ap (λ o. o ∷ map (unit_of blocks_now) xs) (same_unit x) ∙ ap (λ os. unit_of r.blocks x ∷ os) (same_map xs)

    third : MayLetGoAll given_up one.store × Sees p plan.units [] (Some (t, next)) (with_store one (let_go_all given_up one.store)) new_run
    third = let_go_all_sees p plan.units (Some (t, next)) one new_run gone given_up [] are_now second

    abbrev two : EngineState
    two = with_store one (let_go_all given_up one.store)

    abbrev three : EngineState
    three = with_store one (stored unit next two.store)

    used_now : InUse [] new_run t
    used_now =
        let within = found_within (r.bodies ++ None ∷ []) t old has_now in in_use_open [] new_run t to
        (found_put (r.bodies ++ None ∷ []) t (Some to) within.0 within.1)

    fourth : Sees p plan.units [] None three new_run
    fourth = sees_stored p plan.units [] t unit next two new_run third.1 used_now at_now

    row : ActivationRow
    row = record { task = t; after = after; start = None }

    held_now : NumbersHeld new_run (next_number r.journal ∷ [])
    held_now = held_renewed r t m old to after priority held runs tasks

    waits_same : waits_unit new_run after ≡ behind.waits
    waits_same = by after ∙ sym is_behind.waits
      where
        by : (o : Option ℕ) → waits_unit new_run o ≡ waits_unit r o
        by None = refl
        by (Some u) =
            ap (λ x. waits_open x (unit_of blocks_now u)) (read_snoc flat r.outcomes None refl u) ∙ ap (waits_open (found r.outcomes u)) (same_unit u)

    fifth : MayArrive unit behind.waits three.store × Sees p plan.units [] None (with_store three (arrived unit behind.waits three.store))
        (arrives new_run (next_number r.journal) after)
    fifth =
        subst (λ o. MayArrive unit o three.store × Sees p plan.units [] None (with_store three (arrived unit o three.store))
        (arrives new_run (next_number r.journal) after)) waits_same
        (arrival_sees p plan.units [] None three new_run (next_number r.journal) held_now (record { task = t; after = after; start = None })
        (snoc_new r.journal.rows (record { task = t; after = after; start = None })) refl t unit refl at_now fourth)

    abbrev mine : SeesTask p [] (Some (t, words)) e.store r t
    mine = sees.tasks t (in_use_open [] r t old runs.has)

    here : mine.block.unit ≡ unit
    here = known_at p plan.units [] (Some (t, words)) e r sees t unit (in_use_open [] r t old runs.has) at

    may_renew : MayRenew unit t priority behind given_up next e
    may_renew = record {
      under_way = subst (λ j. IsUnderWay j t) (sym sees.journal) (under_way r t m old held runs);
      after = subst (λ o. IfSome o (HasTask e.journal.rows)) (sym is_behind.of_task)
          (if_some_from (λ u. HasTask e.journal.rows u) after (λ u is. subst (λ j. HasTask j.rows u) (sym sees.journal) (tasks u (inr is))));
      within = subst (λ x. x < units_of e.store) here (slice_get_within e.store.records mine.block.unit mine.known mine.there);
      gives_up = third.0;
      fits = (fits_in, subst (λ n. n ≤ 64) refl says.frame.few);
      arrives = fifth.0;
    }
      where
        fits_in : unit * 8 + length next ≤ units_of e.store * 8
        fits_in =
            omega (
              arith,
              block_inside p plan.units [] (Some (t, words)) e r sees t mine.block mine.has_block
                  (in_use_open [] r t old runs.has),
              mine.fits,
              mine.size words refl,
              long,
              here,
            )

    pub renews_as : (s : Run) → IsReached p c plan s → s ≡ arrives new_run (next_number r.journal) after
        → RenewsTask p c plan e unit priority behind given_up next s
    renews_as s reached same = record {
      task = t;
      known = mine.known;
      there = ap (slice_get e.store.records) (sym here) ∙ mine.there;
      of_task = mine.task;
      may = may_renew;
      rests = record {
        reached = reached;
        idle = ap (λ (x : Run). x.running) same ∙ arrives_idle new_run (next_number r.journal) after;
        sees = subst (λ x. Sees p plan.units [] None (renewed_task unit t priority behind given_up next e) x) (sym same)
            (subst (λ o. Sees p plan.units [] None
            (record e { journal = with_accepted e.journal (Some t) o; store = arrived unit behind.waits three.store })
            (arrives new_run (next_number r.journal) after)) (sym is_behind.of_task) fifth.1);
      };
    }

-- the tasks of units, and how often they stand in lists of both

-- each unit of a list is that of a task of which P holds
pub preimages : (f : ℕ → Option ℕ) (P : ℕ → Type 0) (xs : List ℕ) → ((x : ℕ) → 1 ≤ times x xs → (u : ℕ) × P u × (f u ≡ Some x))
    → (us : List ℕ) × (map f us ≡ map (λ x. Some x) xs) × ((u : ℕ) → 1 ≤ times u us → P u)
preimages f P [] each = ([], refl, λ u some. absurd (omega (arith, some)))
preimages f P (x ∷ xs) each =
    let (u, holds, is) = each x (omega (arith, times_itself x)) in
    let (us, are, all) = preimages f P xs (λ y some. each y (omega (arith, some))) in (
      u ∷ us,
      ap (λ o. o ∷ map f us) is ∙ ap (λ os. Some x ∷ os) are,
      λ v some. ⊎_elim (λ same. subst P same holds) (λ differ. all v (omega (arith, some, times_other v u differ))) (cases_eq u v),
    )

-- a task stands among tasks as often as its unit among their units, where no other of them has that unit
pub times_image : (f : ℕ → Option ℕ) (us xs : List ℕ) (u x : ℕ) → map f us ≡ map (λ y. Some y) xs → f u ≡ Some x
    → ((v : ℕ) → 1 ≤ times v us → f v ≡ Some x → v ≡ u) → times u us ≡ times x xs
times_image f [] [] u x are is only = refl
times_image f [] (y ∷ xs) u x are is only = absurd (nil_cons (Some y) (map (λ z. Some z) xs) are)
times_image f (v ∷ us) [] u x are is only = absurd (nil_cons (f v) (map f us) (sym are))
times_image f (v ∷ us) (y ∷ xs) u x are is only =
    let (head, rest) = cons_parts (f v) (Some y) (map f us) (map (λ z. Some z) xs) are in
    let more = times_image f us xs u x rest is (λ w some is_x. only w (omega (arith, some)) is_x) in
    ⊎_elim
    (λ same.
    let at_x : y ≡ x = same_Some y x (sym head ∙ ap f same ∙ is) in
    let one : ◌≡◌ {A = ℕ} (cond (nat_eq v u) 1 0) 1 = ap (λ w. cond (nat_eq w u) 1 0) same ∙ times_itself u in
    let other : ◌≡◌ {A = ℕ} (cond (nat_eq y x) 1 0) 1 = ap (λ w. cond (nat_eq w x) 1 0) at_x ∙ times_itself x in
    omega (arith, more, one, other))
    (λ differ.
    let far : y ≢ x = λ e. differ (only v (omega (arith, times_itself v)) (head ∙ ap Some e)) in
    omega (arith, more, times_other u v differ, times_other x y far))
    (cases_eq v u)
