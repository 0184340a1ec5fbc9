-- Each move keeps that what is named has a lower rank.
use Rattle.std.proofs.Common.{◌≡◌, ◌≢◌, ◌⊎◌, ℕ, suc, ◌+◌, ◌*◌, ◌<◌, ◌≤◌, cond, eqb, Option, Some, None, List, [], ◌∷◌, ◌++◌, length, refl, sym, ◌∙◌, ap, subst, inl, inr, ⊎_elim, arith, eq-eqb}
use Rattle.std.proofs.lemmas.Bool.{cases_eq, ne_eqb}
use Rattle.std.proofs.lemmas.Option.{none-some, same_Some}
use Rattle.task_syntax.specs.declared.program.Root.{Root as RootLine}
use Rattle.task_syntax.specs.declared.program.Program.{Program}
use Rattle.task_syntax.specs.declared.columns.Columns.{Columns}
use Rattle.task_meaning.specs.Worths.{Respawn}
use Rattle.task_meaning.specs.Frame.{FrameOf, set_future}
use Rattle.frame_code.specs.Words.{OfKind}
use Rattle.record_core.specs.Sums.{below}
use Rattle.record_core.specs.Numbers.{by_number, put_number, flat, found, HasTask}
use Rattle.record_core.specs.Journal.{next_number, started_rows}
use Rattle.record_core.specs.EndSeen.{RunPlan}
use Rattle.record_core.specs.declared.rows.ActivationRow.{ActivationRow}
use Rattle.record_core.proofs.BelowFacts.{below-member}
use Rattle.run_model.specs.State.{Body, Outcome, Named, Queues, Run, next_queued}
use Rattle.run_model.specs.Step.{Request, arrives, waits_or_queues, accepts, draws, with_body, with_root, root_request, at_first}
use Rattle.run_model.specs.Move.{with_notes, RunsAt, begins, Move, RootMove}
use Rattle.run_model.proofs.ByNumber.{length_snoc, found_new, found_other, found_put, found_put_other, found_within, found_old, none_of_empty}
use Rattle.run_model.proofs.NumbersInvariant.{BodyNames, IsLiveAt, Live, NumbersStand}
use Rattle.run_model.proofs.NamesFacts.{FrameNames, RequestNames, goes_names, asks_named, renews_named, set_named, root_named}
use Rattle.run_model.proofs.LiveFacts.{live_snoc_cases, same_row, read_snoc, task_within, one_started, was_row, was_live, no_wait, live_then}
use Rattle.run_model.proofs.NumbersParts.{behind_task, next_row, held_starts, started_runs}
use Rattle.run_model.proofs.RunsFacts.{running_task, running_within}
use Rattle.run_model.proofs.RankInvariant.{Names, Ranked, RankStands}
use Rattle.run_model.proofs.Reached.{IsNextRoot}

-- where fewer are named, the same ranks do
fewer : (rows rows' : List ActivationRow) (running running' : Option ℕ) (bodies bodies' : List (Option Body)) → ((t u : ℕ) → Names rows' running' bodies' t u → Names rows running bodies t u)
    → Ranked rows running bodies → Ranked rows' running' bodies'
fewer rows rows' running running' bodies bodies' less now = record { rank = now.rank; falls = λ t u named. now.falls t u (less t u named) }

-- whom an unfinished task names is a task
named_task : (r : Run) → NumbersStand r → (t u : ℕ) → Names r.journal.rows r.running r.bodies t u → HasTask r.journal.rows u
named_task r held t u (body, has, inl named) = held.names.in_bodies t u body has named
named_task r held t u (body, has, inr (n, row, live, after)) = (behind_task r.journal.rows held.of_tasks n u row live.there after).1

-- another body of a task
body_names : (rows : List ActivationRow) (running : Option ℕ) (bodies : List (Option Body)) (t : ℕ) (old body : Body) → found bodies t ≡ Some old → (v u : ℕ) → Names rows running (put_number bodies t (Some body)) v u
    → Names rows running bodies v u ⊎ ((v ≡ t) × BodyNames body u)
body_names rows running bodies t old body has v u (other, e, how) =
    ⊎_elim
    (λ same.
    let within = found_within bodies t old has in
    let is_body : body ≡ other = same_Some body other (sym (found_put bodies t (Some body) within.0 within.1) ∙ sym (ap (found (put_number bodies t (Some body))) same) ∙ e) in
    ⊎_elim (λ named. inr (same, subst (λ b. BodyNames b u) (sym is_body) named)) (λ live. inl (old, ap (found bodies) same ∙ has, inr live)) how)
    (λ differ. inl (other, sym (found_put_other bodies t v (Some body) differ) ∙ e, how))
    (cases_eq v t)

-- the row of a new task
abbrev new_row : Run → Request → ActivationRow
new_row r request = record { task = next_number r.journal; after = request.after; start = None }

-- a new task
module _ (r : Run) (held : NumbersStand r) (request : Request) where
  new_names : (v u : ℕ) → Names (r.journal.rows ++ (new_row r request) ∷ []) r.running (r.bodies ++ Some request.body ∷ []) v u → ((v ≡ next_number r.journal) × RequestNames request u) ⊎ ((v ≢ next_number r.journal) × Names r.journal.rows r.running r.bodies v u)
  new_names v u (body, e, how) = by_number_of (cases_eq v (next_number r.journal))
    where
      behind : (n : ℕ) (row : ActivationRow) → IsLiveAt (r.journal.rows ++ (new_row r request) ∷ []) r.running v n row → row.after ≡ Some u → (IsLiveAt r.journal.rows r.running v n row) ⊎ ((v ≡ next_number r.journal) × (request.after ≡ Some u))
      behind n row live after =
          ⊎_elim (λ old. inl old) (λ new. inr (sym live.of_task ∙ ap (λ (k : ActivationRow). k.task) new.1, sym (ap (λ (k : ActivationRow). k.after) new.1) ∙ after)) (live_snoc_cases r.journal.rows (new_row r request) r.running v n row live)

      old_row : v ≡ next_number r.journal → (n : ℕ) (row : ActivationRow) → IsLiveAt r.journal.rows r.running v n row → ⊥
      old_row same n row live = let within = task_within r.journal.rows row.task (held.of_tasks n row live.there).of_task in absurd (omega (arith, within.1, live.of_task, same))

      by_number_of : (v ≡ next_number r.journal) ⊎ (v ≢ next_number r.journal) → ((v ≡ next_number r.journal) × RequestNames request u) ⊎ ((v ≢ next_number r.journal) × Names r.journal.rows r.running r.bodies v u)
      by_number_of (inl same) =
          let is_body : request.body ≡ body = same_Some request.body body (sym (found_new r.bodies (Some request.body) v (same ∙ sym (ap suc held.beside.of_bodies))) ∙ e) in
          inl (
            same,
            ⊎_elim (λ named. inl (subst (λ b. BodyNames b u) (sym is_body) named))
                (λ live. ⊎_elim (λ old. absurd (old_row same live.0 live.1 old)) (λ new. inr new.1) (behind live.0 live.1 live.2 live.3)) how,
          )
      by_number_of (inr differ) =
          inr (
            differ,
            (
              body,
              sym (found_other r.bodies (Some request.body) v (λ same. differ (same ∙ ap suc held.beside.of_bodies))) ∙ e,
              ⊎_elim (λ named. inl named) (λ live. ⊎_elim (λ old. inr (live.0, live.1, old, live.3)) (λ new. absurd (differ new.0)) (behind live.0 live.1 live.2 live.3)) how,
            ),
          )

-- twice the rank, and one more, but of one number
abbrev spread : (ℕ → ℕ) → ℕ → ℕ → ℕ → ℕ
spread rank n here x = cond (eqb x n) here (2 * rank x + 1)

spread_here : (rank : ℕ → ℕ) (n here x : ℕ) → x ≡ n → spread rank n here x ≡ here
spread_here rank n here x same = ap (λ b. cond b here (2 * rank x + 1)) (eq-eqb x n same)

spread_other : (rank : ℕ → ℕ) (n here x : ℕ) → x ≢ n → spread rank n here x ≡ 2 * rank x + 1
spread_other rank n here x differ = ap (λ b. cond b here (2 * rank x + 1)) (ne_eqb x n differ)

-- a task that is there is not the new one
old_task : (r : Run) (u : ℕ) → HasTask r.journal.rows u → u ≢ next_number r.journal
old_task r u task same = let within = task_within r.journal.rows u task in absurd (omega (arith, within.1, same))

-- a task of the running one: between it and what it names
rank_spawned : (r : Run) (t m to : ℕ) (q : FrameOf ℕ) (request : Request) → NumbersStand r → RunsAt r t m (OfKind q) → ((u : ℕ) → RequestNames request u → FrameNames q u) → RankStands r
    → Ranked (r.journal.rows ++ record { task = next_number r.journal; after = request.after; start = None } ∷ []) r.running (put_number (r.bodies ++ Some request.body ∷ []) t (Some (OfKind (set_future q to (Some (next_number r.journal))))))
rank_spawned r t m to q request held runs asked now = record { rank = rank'; falls = falls }
  where
    n : ℕ
    n = next_number r.journal

    rank' : ℕ → ℕ
    rank' = spread now.rank (next_number r.journal) (2 * now.rank t)

    t_old : t ≢ next_number r.journal
    t_old = old_task r t (running_task r [] held t m (OfKind q) runs)

    at_t : (u : ℕ) → FrameNames q u → now.rank u < now.rank t
    at_t u named = now.falls t u (OfKind q, runs.has, inl named)

    drawn : (v u : ℕ) → Names (r.journal.rows ++ new_row r request ∷ []) r.running (r.bodies ++ Some request.body ∷ []) v u → rank' u < rank' v
    drawn v u named =
        ⊎_elim
        (λ new.
        let below = at_t u (asked u new.1) in
        let u_old = old_task r u (held.names.in_bodies t u (OfKind q) runs.has (asked u new.1)) in
        let one = spread_here now.rank (next_number r.journal) (2 * now.rank t) v new.0 in
        let other = spread_other now.rank (next_number r.journal) (2 * now.rank t) u u_old in omega (arith, below, one, other))
        (λ old.
        let below = now.falls v u old.1 in
        let u_old = old_task r u (named_task r held v u old.1) in
        let one = spread_other now.rank (next_number r.journal) (2 * now.rank t) v old.0 in
        let other = spread_other now.rank (next_number r.journal) (2 * now.rank t) u u_old in omega (arith, below, one, other))
        (new_names r held request v u named)

    set_falls : (v u : ℕ) → v ≡ t → FrameNames (set_future q to (Some (next_number r.journal))) u → rank' u < rank' v
    set_falls v u same named =
        let one = spread_other now.rank (next_number r.journal) (2 * now.rank t) v (λ e. t_old (sym same ∙ e)) in
        let is_t : now.rank v ≡ now.rank t = ap now.rank same in
        ⊎_elim
        (λ new. let other = spread_here now.rank (next_number r.journal) (2 * now.rank t) u (sym new) in omega (arith, one, is_t, other))
        (λ old.
        let below = at_t u old in
        let u_old = old_task r u (held.names.in_bodies t u (OfKind q) runs.has old) in
        let other = spread_other now.rank (next_number r.journal) (2 * now.rank t) u u_old in omega (arith, below, one, is_t, other))
        (set_named q to (next_number r.journal) u named)

    falls : (v u : ℕ) → Names (r.journal.rows ++ record { task = next_number r.journal; after = request.after; start = None } ∷ []) r.running (put_number (r.bodies ++ Some request.body ∷ []) t (Some (OfKind (set_future q to (Some (next_number r.journal)))))) v u → rank' u < rank' v
    falls v u named =
        ⊎_elim (λ before. drawn v u before) (λ set. set_falls v u set.0 set.1)
        (body_names (r.journal.rows ++ new_row r request ∷ []) r.running (r.bodies ++ Some request.body ∷ []) t (OfKind q) (OfKind (set_future q to (Some (next_number r.journal)))) (found_old r.bodies (Some request.body) t (OfKind q) runs.has) v u named)

-- a task of a root: above all
rank_rooted : (r : Run) (request : Request) → NumbersStand r → ((u : ℕ) → RequestNames request u → HasTask r.journal.rows u) → RankStands r
    → Ranked (r.journal.rows ++ record { task = next_number r.journal; after = request.after; start = None } ∷ []) r.running (r.bodies ++ Some request.body ∷ [])
rank_rooted r request held tasks now = record { rank = rank'; falls = falls }
  where
    top : ℕ
    top = 2 * below now.rank (suc (length r.journal.rows)) + 2

    rank' : ℕ → ℕ
    rank' = spread now.rank (next_number r.journal) (2 * below now.rank (suc (length r.journal.rows)) + 2)

    falls : (v u : ℕ) → Names (r.journal.rows ++ record { task = next_number r.journal; after = request.after; start = None } ∷ []) r.running (r.bodies ++ Some request.body ∷ []) v u → rank' u < rank' v
    falls v u named =
        ⊎_elim
        (λ new.
        let task = tasks u new.1 in
        let within = task_within r.journal.rows u task in
        let most = below-member now.rank (suc (length r.journal.rows)) u (omega (arith, within.1)) in
        let one = spread_here now.rank (next_number r.journal) (2 * below now.rank (suc (length r.journal.rows)) + 2) v new.0 in
        let other = spread_other now.rank (next_number r.journal) (2 * below now.rank (suc (length r.journal.rows)) + 2) u (old_task r u task) in omega (arith, most, one, other))
        (λ old.
        let falls_old = now.falls v u old.1 in
        let one = spread_other now.rank (next_number r.journal) (2 * below now.rank (suc (length r.journal.rows)) + 2) v old.0 in
        let other = spread_other now.rank (next_number r.journal) (2 * below now.rank (suc (length r.journal.rows)) + 2) u (old_task r u (named_task r held v u old.1)) in omega (arith, falls_old, one, other))
        (new_names r held request v u named)

-- a task is renewed: it names no more than its body did
renewed_names : (r : Run) (t m : ℕ) (body to : Body) (after : Option ℕ) → NumbersStand r → RunsAt r t m body → ((u : ℕ) → BodyNames to u ⊎ (after ≡ Some u) → BodyNames body u)
    → (v u : ℕ) → Names (r.journal.rows ++ record { task = t; after = after; start = None } ∷ []) None (put_number (r.bodies ++ None ∷ []) t (Some to)) v u → Names r.journal.rows r.running r.bodies v u
renewed_names r t m body to after held runs less v u (other, e, how) = by (cases_eq v t)
  where
    row : ActivationRow
    row = record { task = t; after = after; start = None }

    within : (1 ≤ t) × (t ≤ length r.journal.rows)
    within = running_within r [] held t m body runs

    was : (n : ℕ) (was_row : ActivationRow) → IsLiveAt r.journal.rows None v n was_row → IsLiveAt r.journal.rows r.running v n was_row
    was n was_row live = was_live r.journal.rows r.journal.tasks r.outcomes r.bodies r.running held.live v n was_row live

    behind : v ≡ t → (n : ℕ) (live_row : ActivationRow) → IsLiveAt (r.journal.rows ++ row ∷ []) None v n live_row → live_row.after ≡ Some u → after ≡ Some u
    behind same n live_row live is_after =
        ⊎_elim
        (λ old. absurd (no_wait r.journal.rows r.journal.tasks r.outcomes r.bodies r.running held.live t m runs.row runs.running runs.there runs.of_task n live_row old.there (⊎_elim (λ start. start) (λ none. absurd (none-some n none)) old.live) (old.of_task ∙ same)))
        (λ new. sym (ap (λ (k : ActivationRow). k.after) new.1) ∙ is_after)
        (live_snoc_cases r.journal.rows row None v n live_row live)

    by : (v ≡ t) ⊎ (v ≢ t) → Names r.journal.rows r.running r.bodies v u
    by (inl same) =
        let here = found_put (r.bodies ++ None ∷ []) t (Some to) within.0 (omega (arith, within.1, length_snoc r.bodies None, held.beside.of_bodies)) in
        let is_to : to ≡ other = same_Some to other (sym here ∙ sym (ap (found (put_number (r.bodies ++ None ∷ []) t (Some to))) same) ∙ e) in
        (body, ap (found r.bodies) same ∙ runs.has, inl (less u (⊎_elim (λ named. inl (subst (λ b. BodyNames b u) (sym is_to) named)) (λ live. inr (behind same live.0 live.1 live.2 live.3)) how)))
    by (inr differ) = (
      other,
      sym (read_snoc flat r.bodies None refl v) ∙ sym (found_put_other (r.bodies ++ None ∷ []) t v (Some to) differ) ∙ e,
      ⊎_elim (λ named. inl named)
          (λ live. ⊎_elim (λ old. inr (live.0, live.1, was live.0 live.1 old, live.3)) (λ new. absurd (differ (sym live.2.of_task ∙ ap (λ (k : ActivationRow). k.task) new.1))) (live_snoc_cases r.journal.rows row None v live.0 live.1 live.2))
          how,
    )

-- a task ends: it names nobody
ended_names : (r : Run) (t m : ℕ) (body : Body) → NumbersStand r → RunsAt r t m body → (v u : ℕ) → Names r.journal.rows None (put_number r.bodies t None) v u → Names r.journal.rows r.running r.bodies v u
ended_names r t m body held runs v u (other, e, how) = by (cases_eq v t)
  where
    within : (1 ≤ t) × (t ≤ length r.journal.rows)
    within = running_within r [] held t m body runs

    by : (v ≡ t) ⊎ (v ≢ t) → Names r.journal.rows r.running r.bodies v u
    by (inl same) = absurd (none-some other (sym (found_put r.bodies t None within.0 (omega (arith, within.1, held.beside.of_bodies))) ∙ sym (ap (found (put_number r.bodies t None)) same) ∙ e))
    by (inr differ) = (
      other,
      sym (found_put_other r.bodies t v None differ) ∙ e,
      ⊎_elim (λ named. inl named) (λ live. inr (live.0, live.1, was_live r.journal.rows r.journal.tasks r.outcomes r.bodies r.running held.live v live.0 live.1 live.2, live.3)) how,
    )

-- an activation starts
started_names : (r : Run) (n : ℕ) (left : Queues) → NumbersStand r → r.running ≡ None → next_queued r.ready ≡ Some (n, left) → (v u : ℕ) → Names (begins r n left).journal.rows (Some n) r.bodies v u → Names r.journal.rows r.running r.bodies v u
started_names r n left held idle next v u (body, e, how) =
    (body, e, ⊎_elim (λ named. inl named) (λ live. inr (behind live.0 live.1 live.2 live.3)) how)
  where
    behind : (k : ℕ) (now_row : ActivationRow) → IsLiveAt (begins r n left).journal.rows (Some n) v k now_row → now_row.after ≡ Some u → (k : ℕ) × (row : ActivationRow) × IsLiveAt r.journal.rows r.running v k row × (row.after ≡ Some u)
    behind k now_row live after =
        let (row, there, waits) = next_row r [] n left held next in
        let rows' = started_rows r.journal.rows n (r.journal.stamps + 1) (by_number r.journal.rows n) in
        let started = one_started r.journal.rows n (r.journal.stamps + 1) row there in
        let w = was_row r.journal.rows rows' n (r.journal.stamps + 1) row there started k now_row live.there in
        let (was, old) = live_then r.journal.rows rows' n (r.journal.stamps + 1) row there started r.journal.tasks r.outcomes r.bodies waits (subst (Live r.journal.rows r.journal.tasks r.outcomes r.bodies) idle held.live) v k now_row live in
        let same : w.was ≡ was = same_row r.journal.rows k w.was was w.stood old.there in
        (k, was, subst (λ o. IsLiveAt r.journal.rows o v k was) (sym idle) old, sym (ap (λ (x : ActivationRow). x.after) same) ∙ sym w.after ∙ after)

arrives_rank : (r : Run) (n : ℕ) (after : Option ℕ) → RankStands r → RankStands (arrives r n after)
arrives_rank r n None now = record { rank = now.rank; falls = now.falls }
arrives_rank r n (Some u) now = by (found r.outcomes u)
  where
    by : (o : Option Outcome) → RankStands (waits_or_queues o r n u)
    by None = record { rank = now.rank; falls = now.falls }
    by (Some outcome) = record { rank = now.rank; falls = now.falls }

-- before the first root nothing is named
pub rank_first : (plan : RunPlan) → RankStands (at_first plan)
rank_first plan = record { rank = λ x. 0; falls = λ t u named. absurd (none-some named.0 (sym (ap flat (none_of_empty t)) ∙ named.1)) }

-- a root's move keeps what is named below who names it
pub rank_root : (p : Program) (units : ℕ) (r s : Run) (root : RootLine) → IsNextRoot p r root → NumbersStand r → RankStands r → RootMove p units r root s → RankStands s
rank_root p units r _ root next held now (RootMove.named block free placed some) =
    let request = root_request p r root in
    arrives_rank (with_root (accepts units r request block) (Named (next_number r.journal))) (next_number r.journal) request.after
    (let new = rank_rooted r request held (λ u named. let (at, e) = root_named p r root u named in held.names.in_roots at u e) now in record { rank = new.rank; falls = new.falls })
rank_root p units r _ root next held now (RootMove.refused tag notes free how) = record { rank = now.rank; falls = now.falls }
rank_root p units r _ root next held now (RootMove.skipped first e) = record { rank = now.rank; falls = now.falls }

module _ (p : Program) (c : Columns) (units : ℕ) where
  -- each move keeps what is named below who names it
  pub rank_move : (r s : Run) → NumbersStand r → RankStands r → Move p c units r s → RankStands s
  rank_move r _ held now (Move.goes_on t n q next runs goes) =
      let less = fewer r.journal.rows r.journal.rows r.running r.running r.bodies (put_number r.bodies t (Some (OfKind next)))
      (λ v u named. ⊎_elim (λ old. old) (λ set. (OfKind q, ap (found r.bodies) set.0 ∙ runs.has, inl (goes_names p c r q next u goes set.1))) (body_names r.journal.rows r.running r.bodies t (OfKind q) (OfKind next) runs.has v u named)) now in
      record { rank = less.rank; falls = less.falls }
  rank_move r _ held now (Move.spawned t n to q request retry block runs asks placed some) =
      arrives_rank (with_body (accepts units r request block) t (OfKind (set_future q to (Some (next_number r.journal))))) (next_number r.journal) request.after
      (let new = rank_spawned r t n to q request held runs (λ u named. asks_named p c q request to u retry asks named) now in record { rank = new.rank; falls = new.falls })
  rank_move r _ held now (Move.respawned t n body to after priority notes runs renews some) =
      arrives_rank (with_body (record (draws (with_notes r notes) (Some t) after priority (Respawn t after) None None) { running = None }) t to) (next_number r.journal) after
      (record { rank = now.rank; falls = λ v u named. now.falls v u (renewed_names r t n body to after held runs (λ w names. renews_named p c units r n w body to after priority notes renews names) v u named) })
  rank_move r _ held now (Move.gave t n body v runs answers) = record { rank = now.rank; falls = λ w u named. now.falls w u (ended_names r t n body held runs w u named) }
  rank_move r _ held now (Move.refused t n body tag notes runs refuses) = record { rank = now.rank; falls = λ w u named. now.falls w u (ended_names r t n body held runs w u named) }
  rank_move r _ held now (Move.started n left idle next uncut) = record { rank = now.rank; falls = λ w u named. now.falls w u (started_names r n left held idle next w u named) }
  rank_move r _ held now (Move.cut_at_start n left row u tag idle next there after cut) =
      let (body, runs) = started_runs r n left row held idle next there in
      record { rank = now.rank; falls = λ w v named. now.falls w v (started_names r n left held idle next w v (ended_names (begins r n left) row.task n body (held_starts r n left held idle next) runs w v named)) }
