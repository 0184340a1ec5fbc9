-- What an ended run answers is in order, and each of its cuts has a cause.
use Rattle.std.proofs.Common.{◌≡◌, ◌↔◌, ℕ, zero, suc, ◌+◌, ◌≤◌, true, Option, Some, None, List, [], ◌∷◌, length, map, slice_get, refl, sym, ◌∙◌, ap, subst, arith}
use Rattle.std.specs.Prelude.{IsSome}
use Rattle.std.specs.Option.{is_some, option_map, option_or}
use Rattle.std.proofs.lemmas.Bool.{false≢true}
use Rattle.std.proofs.lemmas.Option.{none-some, same_Some}
use Rattle.task_syntax.specs.Places.{Each, EachAt}
use Rattle.task_syntax.specs.declared.program.Root.{Root as RootLine}
use Rattle.task_syntax.specs.declared.program.Program.{Program}
use Rattle.task_meaning.specs.Meant.{future_at}
use Rattle.task_meaning.specs.Roots.{root_call}
use Rattle.task_meaning.specs.RootLaws.{root_waits}
use Rattle.task_meaning.specs.Worths.{Accepted, OfCall}
use Rattle.record_core.specs.Sums.{total}
use Rattle.record_core.specs.Numbers.{by_number, found, HasTask}
use Rattle.record_core.specs.Journal.{AreStampedOnce, CausesLead, Leads, task_count, finish_of, cause_of, is_cut}
use Rattle.record_core.specs.EndSeen.{RunPlan}
use Rattle.record_core.specs.EndSound.{HasNoRetry, IsOwnEnd, AreOwn, IsCutAsNamed, IsValueEnd, null_root, null_ends}
use Rattle.record_core.specs.EndFaithful.{IsUncut, HidesNoCut, AreAsAsked}
use Rattle.record_core.specs.RootEnds.{roots_named, cut_without_task, first_without_task, cut_from_root}
use Rattle.record_core.specs.declared.rows.ActivationRow.{ActivationRow}
use Rattle.record_core.specs.declared.rows.Cause.TheVariants as cause
use Rattle.record_core.specs.declared.rows.RootEnd.{RootEnd}
use Rattle.record_core.specs.declared.rows.RootEnd.TheVariants.{Value, Cut}
use Rattle.record_core.specs.declared.rows.CutTag.{CutTag}
use Rattle.record_core.specs.declared.rows.CutTag.TheVariants.{Null, Limit}
use Rattle.record_core.specs.declared.rows.CutFrom.TheVariants as from
use Rattle.record_core.proofs.CountedStamps.{all_written}
use Rattle.run_model.specs.State.{Outcome, Gave, WasCut, RootWord, Named, Refused, Skipped, Run}
use Rattle.run_model.specs.Step.{own_task, own_tasks, taskless, first_taskless}
use Rattle.run_model.specs.End.{end_at, root_end, end_seen}
use Rattle.run_model.proofs.StandsStill.{IsQuiet}
use Rattle.run_model.proofs.NamesFacts.{own_named}
use Rattle.run_model.proofs.NullsInvariant.{null_word}
use Rattle.run_model.proofs.RootsInvariant.{skipped_from, RootsStand}
use Rattle.run_model.proofs.MadeInvariant.{OrderStands}
use Rattle.run_model.proofs.RunStands.{RunStands}
use Rattle.run_model.proofs.AllFinish.{all_start, all_finish}

-- the member of a list that a function made
mapped : {A B : Type 0} (f : A → B) (xs : List A) (at : ℕ) (y : B) → slice_get (map f xs) at ≡ Some y → (x : A) × (slice_get xs at ≡ Some x) × (f x ≡ y)
mapped f [] at y e = absurd (none-some y e)
mapped f (x ∷ xs) zero y e = (x, refl, same_Some (f x) y e)
mapped f (x ∷ xs) (suc at) y e = mapped f xs at y e

pub mapped_to : {A B : Type 0} (f : A → B) (xs : List A) (at : ℕ) (x : A) → slice_get xs at ≡ Some x → slice_get (map f xs) at ≡ Some (f x)
mapped_to f [] at x e = absurd (none-some x e)
mapped_to f (y ∷ xs) zero x e = ap (λ z. Some (f z)) (same_Some y x e)
mapped_to f (y ∷ xs) (suc at) x e = mapped_to f xs at x e

pub map_length : {A B : Type 0} (f : A → B) (xs : List A) → length (map f xs) ≡ length xs
map_length f [] = refl
map_length f (x ∷ xs) = ap suc (map_length f xs)

pub own_at : (words : List RootWord) (at : ℕ) (word : RootWord) → slice_get words at ≡ Some word → future_at (map own_task words) at ≡ own_task word
own_at [] at word e = absurd (none-some word e)
own_at (w ∷ words) zero word e = ap own_task (same_Some w word e)
own_at (w ∷ words) (suc at) word e = own_at words at word e

module _ (plan : RunPlan) (r : Run) where
  -- each root's end is that of its word
  word_of : (at : ℕ) (end : RootEnd) → slice_get (map (root_end r) r.roots) at ≡ Some end → (word : RootWord) × (slice_get r.roots at ≡ Some word) × (root_end r word ≡ end)
  word_of at end e = mapped (root_end r) r.roots at end e

  own_end : (word : RootWord) → IsOwnEnd (root_end r word) ↔ IsSome (own_task word)
  own_end (Named t) = by (found r.outcomes t)
    where
      by : (o : Option Outcome) → IsOwnEnd (end_at t o) ↔ IsSome (Some t)
      by None = (λ _. refl, λ _. tt)
      by (Some (Gave v)) = (λ _. refl, λ _. tt)
      by (Some (WasCut tag)) = (λ _. refl, λ _. tt)
  own_end (Refused tag) = (λ no. absurd no, λ some. absurd (false≢true some))
  own_end (Skipped at tag) = (λ no. absurd no, λ some. absurd (false≢true some))

  taskless_end : (word : RootWord) → cut_without_task (root_end r word) ≡ taskless (Some word)
  taskless_end (Named t) = by (found r.outcomes t)
    where
      by : (o : Option Outcome) → cut_without_task (end_at t o) ≡ None
      by None = refl
      by (Some (Gave v)) = refl
      by (Some (WasCut tag)) = refl
  taskless_end (Refused tag) = refl
  taskless_end (Skipped at tag) = refl

  cut_from_end : (word : RootWord) → cut_from_root (root_end r word) ≡ skipped_from word
  cut_from_end (Named t) = by (found r.outcomes t)
    where
      by : (o : Option Outcome) → cut_from_root (end_at t o) ≡ None
      by None = refl
      by (Some (Gave v)) = refl
      by (Some (WasCut tag)) = refl
  cut_from_end (Refused tag) = refl
  cut_from_end (Skipped at tag) = refl

  one_end_of : (k : ℕ) (words : List RootWord) (i : ℕ)
      → ◌≡◌ {A = Option (ℕ × CutTag)} (elim (slice_get (map (root_end r) words) i) [ None ↦ None | Some end ↦ option_map {U = ℕ × CutTag} (λ tag. (k, tag)) (cut_without_task end) ])
      (option_map {U = ℕ × CutTag} (λ tag. (k, tag)) (taskless (slice_get words i)))
  one_end_of k [] i = refl
  one_end_of k (w ∷ words) zero = ap (λ (o : Option CutTag). option_map {U = ℕ × CutTag} (λ tag. (k, tag)) o) (taskless_end w)
  one_end_of k (w ∷ words) (suc i) = one_end_of k words i

  first_end : (names : List ℕ) → first_without_task (map (root_end r) r.roots) names ≡ first_taskless r.roots names
  first_end [] = refl
  first_end (k ∷ names) =
      ap (λ o. option_or o (first_without_task (map (root_end r) r.roots) names)) (one_end_of k r.roots k)
      ∙ ap (option_or (option_map {U = ℕ × CutTag} (λ tag. (k, tag)) (taskless (slice_get r.roots k)))) (first_end names)

  -- a root is cut from another exactly where it names one without a task
  pub ends_named : (p : Program) → RootsStand p r → EachAt (end_seen plan r).roots (IsCutAsNamed p (end_seen plan r).roots)
  ends_named p roots at end e root there =
      let (word, has, is_end) = word_of at end e in
      ap cut_from_root (sym is_end) ∙ cut_from_end word ∙ sym (roots.skipped at root word there has) ∙ sym (first_end (roots_named root))

  -- the tasks of roots
  pub ends_own : (p : Program) (limit : ℕ) → RunStands p limit r → AreOwn (end_seen plan r)
  ends_own p limit now = record {
    as_many = map_length own_task r.roots ∙ sym (map_length (root_end r) r.roots);
    own = λ at end e. let (word, has, is_end) = word_of at end e in
        let iff = own_end word in
        (λ owned. ap is_some (own_at r.roots at word has) ∙ iff.0 (subst IsOwnEnd (sym is_end) owned), λ some. subst IsOwnEnd is_end (iff.1 (sym (ap is_some (own_at r.roots at word has)) ∙ some)));
    accepted = λ at t e. now.numbers.names.in_roots at t (own_named r.roots at t e);
    once = λ i j t e f. now.numbers.names.once i j t (own_named r.roots i t e) (own_named r.roots j t f);
  }

  -- null answers
  null_end : (word : RootWord) → null_root (root_end r word) ≡ null_word word
  null_end (Named t) = by (found r.outcomes t)
    where
      by : (o : Option Outcome) → null_root (end_at t o) ≡ 0
      by None = refl
      by (Some (Gave v)) = refl
      by (Some (WasCut Null)) = refl
      by (Some (WasCut Limit)) = refl
  null_end (Refused Null) = refl
  null_end (Refused Limit) = refl
  null_end (Skipped at Null) = refl
  null_end (Skipped at Limit) = refl

  pub null_roots : (words : List RootWord) → total null_root (map (root_end r) words) ≡ total null_word words
  null_roots [] = refl
  null_roots (w ∷ words) = omega (arith, null_end w, null_roots words)

  pub ends_null : (p : Program) (limit : ℕ) → RunStands p limit r → null_ends (end_seen plan r) ≤ r.nulls
  ends_null p limit now = omega (arith, now.nulls.counted, null_roots r.roots)

  pub ends_null_once : (p : Program) (limit : ℕ) → RunStands p limit r → HasNoRetry p → null_ends (end_seen plan r) ≡ r.nulls
  ends_null_once p limit now no_retry = omega (arith, now.nulls.counted, null_roots r.roots, now.nulls.none no_retry)

  -- refusals by the limit
  pub ends_limited_root : (p : Program) (limit : ℕ) → RunStands p limit r → (at : ℕ) → slice_get (end_seen plan r).roots at ≡ Some (Cut Limit from.Host) → length r.journal.rows ≡ limit
  ends_limited_root p limit now at e = let (word, has, is_end) = word_of at (Cut Limit from.Host) e in by word has is_end
    where
      by_outcome : (t : ℕ) (o : Option Outcome) → end_at t o ≡ Cut Limit from.Host → ⊥
      by_outcome t None h = cc
      by_outcome t (Some (Gave v)) h = cc
      by_outcome t (Some (WasCut tag)) h = cc

      by : (word : RootWord) → slice_get r.roots at ≡ Some word → root_end r word ≡ Cut Limit from.Host → length r.journal.rows ≡ limit
      by (Named t) has h = absurd (by_outcome t (found r.outcomes t) h)
      by (Refused tag) has h = now.causes.limited_root at (has ∙ ap (λ g. Some (Refused g)) (same_tag h)) ∙ now.journal.of_plan
        where
          same_tag : Cut tag from.Host ≡ Cut Limit from.Host → tag ≡ Limit
          same_tag g = cc
      by (Skipped k tag) has h = absurd (wrong h)
        where
          wrong : Cut tag (from.Root k) ≡ Cut Limit from.Host → ⊥
          wrong g = cc

  pub ends_limited : (p : Program) (limit : ℕ) → RunStands p limit r → (t : ℕ) → cause_of r.journal.tasks t ≡ cause.Limit → length r.journal.rows ≡ limit
  ends_limited p limit now t e = now.causes.limited t e ∙ now.journal.of_plan

  -- causes
  pub ends_causes : (p : Program) (limit : ℕ) → RunStands p limit r → CausesLead r.journal.rows r.journal.tasks
  ends_causes p limit now t u e = (now.causes.by t u e, now.journal.journal.led t u e)

  -- where the run is over
  module _ (p : Program) (limit : ℕ) (now : RunStands p limit r) (quiet : IsQuiet r) where
    pub ends_started : Each r.journal.rows (λ (row : ActivationRow). IsSome row.start)
    ends_started at row there = all_start r now.numbers now.rank quiet (suc at) row there

    pub ends_finished : (t : ℕ) → HasTask r.journal.rows t → IsSome (finish_of r.journal.tasks t)
    ends_finished t task = all_finish r now.numbers now.rank quiet t task

    pub ends_stamped : AreStampedOnce r.journal.rows r.journal.tasks (length r.journal.rows + task_count r.journal.rows)
    ends_stamped = subst (AreStampedOnce r.journal.rows r.journal.tasks) (all_written r.journal now.journal.journal ends_started ends_finished) now.journal.journal.stamped

    -- a root shows a value exactly where its own task was not cut
    pub ends_clear : EachAt (end_seen plan r).roots (λ at end. IsValueEnd end ↔ IsUncut r.journal.tasks (future_at (own_tasks r) at))
    ends_clear at end e =
        let (word, has, is_end) = word_of at end e in
        let own = own_at r.roots at word has in
        let iff = by word has in
        (λ value. subst (IsUncut r.journal.tasks) (sym own) (iff.0 (subst IsValueEnd (sym is_end) value)), λ uncut. subst IsValueEnd is_end (iff.1 (subst (IsUncut r.journal.tasks) own uncut)))
      where
        named : (t : ℕ) → HasTask r.journal.rows t → (o : Option Outcome) → found r.outcomes t ≡ o → IsValueEnd (end_at t o) ↔ (cause_of r.journal.tasks t ≡ cause.Clear)
        named t task None f = absurd (false≢true (sym (ap is_some f) ∙ (now.numbers.live.has_outcome t).1 (ends_finished t task)))
        named t task (Some (Gave v)) f = (λ _. now.outcomes.gave t v f, λ _. tt)
        named t task (Some (WasCut tag)) f = (λ no. absurd no, λ clear. absurd (false≢true (sym (ap is_cut clear) ∙ now.outcomes.cut t tag f)))

        by : (word : RootWord) → slice_get r.roots at ≡ Some word → IsValueEnd (root_end r word) ↔ IsUncut r.journal.tasks (own_task word)
        by (Named t) has = named t (now.numbers.names.in_roots at t has) (found r.outcomes t) refl
        by (Refused tag) has = (λ no. no, λ no. no)
        by (Skipped k tag) has = (λ no. no, λ no. no)

    pub ends_through : (n u : ℕ) (row : ActivationRow) → by_number r.journal.rows n ≡ Some row → row.after ≡ Some u → is_cut (cause_of r.journal.tasks u) ≡ true → cause_of r.journal.tasks row.task ≡ cause.By u
    ends_through n u row there after cut = now.causes.through n u row there (all_start r now.numbers now.rank quiet n row there) after cut

    -- no cut is hidden
    pub ends_hide : OrderStands r → HidesNoCut (end_seen plan r)
    ends_hide order = record { clear = ends_clear; through = ends_through; last = λ n u row there after cut. order.last n u row there (all_start r now.numbers now.rank quiet n row there) after cut }

    -- roots have the tasks that they were asked for, in their order
    pub ends_asked : RootsStand p r → OrderStands r → AreAsAsked p (end_seen plan r)
    ends_asked roots order = record { behind = own_behind; rise = λ i j t u lt e f. order.rise i j t u lt (own_named r.roots i t e) (own_named r.roots j u f) }
      where
        own_behind : (at t : ℕ) (root : RootLine) (row : ActivationRow) → slice_get p.roots at ≡ Some root → future_at (own_tasks r) at ≡ Some t → by_number r.journal.rows t ≡ Some row → row.after ≡ root_waits (own_tasks r) root.behind
        own_behind at t root row there has is_row =
            let task = roots.tasks at root t there has in
            let call : Accepted = OfCall (root_call (own_tasks r) root) (root_waits (own_tasks r) root.behind) in
            (now.calls.row_of t call row (ap (by_number r.calls) task.follows ∙ task.accepted_as) is_row).1

    -- a root that is cut from a task is cut from its own, whose causes lead to a refusal
    pub ends_cut : (at t : ℕ) (tag : CutTag) → slice_get (end_seen plan r).roots at ≡ Some (Cut tag (from.Task t)) → (future_at (own_tasks r) at ≡ Some t) × Leads r.journal.tasks tag t
    ends_cut at t tag e = let (word, has, is_end) = word_of at (Cut tag (from.Task t)) e in by word has is_end
      where
        by_outcome : (u : ℕ) (o : Option Outcome) → found r.outcomes u ≡ o → HasTask r.journal.rows u → end_at u o ≡ Cut tag (from.Task t) → (u ≡ t) × Leads r.journal.tasks tag u
        by_outcome u None f task h = absurd (false≢true (sym (ap is_some f) ∙ (now.numbers.live.has_outcome u).1 (ends_finished u task)))
        by_outcome u (Some (Gave v)) f task h = absurd (wrong h)
          where
            wrong : Value v ≡ Cut tag (from.Task t) → ⊥
            wrong g = cc
        by_outcome u (Some (WasCut other)) f task h = (same_task h, subst (λ g. Leads r.journal.tasks g u) (same_tag h) (now.causes.leads u other f))
          where
            same_task : Cut other (from.Task u) ≡ Cut tag (from.Task t) → u ≡ t
            same_task g = cc

            same_tag : Cut other (from.Task u) ≡ Cut tag (from.Task t) → other ≡ tag
            same_tag g = cc

        by : (word : RootWord) → slice_get r.roots at ≡ Some word → root_end r word ≡ Cut tag (from.Task t) → (future_at (own_tasks r) at ≡ Some t) × Leads r.journal.tasks tag t
        by (Named u) has h =
            let (same, leads) = by_outcome u (found r.outcomes u) refl (now.numbers.names.in_roots at u has) h in
            (own_at r.roots at (Named u) has ∙ ap Some same, subst (Leads r.journal.tasks tag) same leads)
        by (Refused other) has h = absurd (wrong h)
          where
            wrong : Cut other from.Host ≡ Cut tag (from.Task t) → ⊥
            wrong g = cc
        by (Skipped k other) has h = absurd (wrong h)
          where
            wrong : Cut other (from.Root k) ≡ Cut tag (from.Task t) → ⊥
            wrong g = cc
