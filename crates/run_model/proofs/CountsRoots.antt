-- What stands of counts before the first root, and after each root that is asked for.
use Rattle.std.proofs.Common.{◌≡◌, ℕ, suc, ◌+◌, ◌≤◌, Option, Some, None, List, [], ◌∷◌, ◌++◌, length, slice_get, refl, sym, ◌∙◌, ap, subst, inl, ⊎_elim, arith}
use Rattle.std.proofs.lemmas.Bool.{ltb-false}
use Rattle.std.proofs.lemmas.Option.{none-some, IfSome_then}
use Rattle.std.specs.Option.{option_map, option_or}
use Rattle.task_syntax.specs.Places.{Each}
use Rattle.task_syntax.specs.Form.{IsWellFormed}
use Rattle.task_syntax.specs.declared.program.Root.{Root as RootLine}
use Rattle.task_syntax.specs.declared.program.Program.{Program}
use Rattle.task_syntax.specs.declared.columns.Columns.{Columns}
use Rattle.task_meaning.specs.Meant.{Counts}
use Rattle.task_meaning.specs.Frame.{FrameOf, entry, variables_of}
use Rattle.task_meaning.specs.FrameCounts.{RestCounts}
use Rattle.task_meaning.specs.RootCounts.{RootsLeft}
use Rattle.task_meaning.specs.RootLaws.{root_waits, AreRootTasks}
use Rattle.task_meaning.specs.Roots.{root_call, RootsCount}
use Rattle.task_meaning.specs.Worths.{Accepted, OfCall}
use Rattle.task_meaning.proofs.FrameCounts.{grown-counts}
use Rattle.task_meaning.proofs.RootCounts.{one-more, root-task_counts}
use Rattle.pool_core.specs.Blocks.{BlockState}
use Rattle.frame_code.specs.Words.{OfKind}
use Rattle.record_core.specs.Numbers.{by_number, found}
use Rattle.record_core.specs.Journal.{next_number}
use Rattle.record_core.specs.EndSeen.{RunPlan}
use Rattle.record_core.specs.EndSound.{kind_class}
use Rattle.record_core.specs.RootEnds.{roots_named}
use Rattle.record_core.proofs.TotalFacts.{total-snoc}
use Rattle.record_core.specs.declared.rows.ActivationRow.{ActivationRow}
use Rattle.record_core.specs.declared.rows.CutTag.{CutTag}
use Rattle.run_model.specs.State.{WasCut, RootWord, Named, Refused, Skipped, Run}
use Rattle.run_model.specs.Step.{own_tasks, taskless, first_taskless, accepts, with_root, root_request, at_first}
use Rattle.run_model.specs.Move.{Notes, with_notes, RefusesRoot, RootMove}
use Rattle.run_model.proofs.ByNumber.{length_snoc, snoc_new, snoc_old, none_of_empty}
use Rattle.run_model.proofs.NumbersInvariant.{NumbersStand, IsLiveAt}
use Rattle.run_model.proofs.CallsInvariant.{CallsStand}
use Rattle.run_model.proofs.LiveFacts.{outcome_snoc}
use Rattle.run_model.proofs.NumbersParts.{slice_snoc}
use Rattle.run_model.proofs.RootsInvariant.{RootsStand}
use Rattle.run_model.proofs.RootsKept.{future_last, own_snoc, own_length, call_same, futures_snoc, waits_snoc, formed_up, tasks_with}
use Rattle.run_model.proofs.ValuesParts.{frame_names, after_names}
use Rattle.run_model.proofs.BlocksKept.{class_fits}
use Rattle.run_model.proofs.CountsInvariant.{IsNamed, BodyCounts, CountsStand}
use Rattle.run_model.proofs.CountsParts.{bodies_snoc, bodies_later, new_task_counts}
use Rattle.run_model.proofs.CountsKept.{HasRoomLeft, counts_arrives, new_row}
use Rattle.run_model.proofs.Reached.{IsNextRoot}

-- at first all roots are to come
pub counts_first : (p : Program) (c : Columns) (plan : RunPlan) (all : Counts) → RootsCount p c all → CountsStand p c (at_first plan) all
counts_first p c plan all counted = record {
  left = [];
  roots_left = all;
  beside = refl;
  bodies_count = λ t k e. absurd (none-some k (sym (none_of_empty t) ∙ e));
  to_come = counted;
  add_up = record { tasks = omega arith; activations = omega arith };
  uncut = λ t tag e. none-some (WasCut tag) (sym (ap Rattle.record_core.specs.Numbers.flat (none_of_empty t)) ∙ e);
  no_null = refl;
  named = λ at word e. absurd (none-some word e);
}

-- where each root has a task, none is skipped
none_taskless : (words : List RootWord) (names : List ℕ) → Each words IsNamed → first_taskless words names ≡ None
none_taskless words [] named = refl
none_taskless words (at ∷ names) named =
    ap (λ o. option_or (option_map (λ tag. (at, tag)) o) (first_taskless words names)) (has (slice_get words at) refl) ∙ none_taskless words names named
  where
    word_has : (word : RootWord) → IsNamed word → taskless (Some word) ≡ None
    word_has (Named t) is = refl
    word_has (Refused tag) is = absurd is
    word_has (Skipped from tag) is = absurd is

    has : (o : Option RootWord) → slice_get words at ≡ o → taskless o ≡ None
    has None e = refl
    has (Some word) e = word_has word (named at word e)

module _ (p : Program) (formed : IsWellFormed p) (c : Columns) (units : ℕ) (all : Counts) where
  module _ (r : Run) (root : RootLine) (next : IsNextRoot p r root) (held : NumbersStand r) (calls : CallsStand r) (roots : RootsStand p r) (now : CountsStand p c r all) where
    -- the next root counts a task and an activation, and what is counted from its first frame
    record NextCounts : Type 0 where
      first : Counts
      later : Counts
      of_first : RestCounts p c (r.calls ++ OfCall (root_call (own_tasks r) root) (root_waits (own_tasks r) root.behind) ∷ []) (root_waits (own_tasks r) root.behind) (entry p (root_call (own_tasks r) root)) first
      of_later : RootsLeft p c (suc (length r.roots)) later
      of_tasks : now.roots_left.tasks ≡ 1 + (first.tasks + later.tasks)
      of_activations : now.roots_left.activations ≡ 1 + (first.activations + later.activations)

    next_counts : first_taskless r.roots (roots_named root) ≡ None → NextCounts
    next_counts free =
        let (i, j, here, later, sum) = (one-more p c (length r.roots) root now.roots_left next.there).0 now.to_come in
        let (x, first, sum_here) = (root-task_counts p c calls' own' (length r.roots) root (next_number r.journal) i formed tasks next.there own_at).0 here in
        record {
          first = x;
          later = j;
          of_first = subst (λ w. RestCounts p c calls' w (entry p (root_call (own_tasks r) root)) x) same_waits (subst (λ k. RestCounts p c calls' (root_waits own' root.behind) (entry p k) x) same_call first);
          of_later = later;
          of_tasks = omega (arith, ap (λ (k : Counts). k.tasks) sum, ap (λ (k : Counts). k.tasks) sum_here);
          of_activations = omega (arith, ap (λ (k : Counts). k.activations) sum, ap (λ (k : Counts). k.activations) sum_here);
        }
      where
        calls' : List Accepted
        calls' = r.calls ++ OfCall (root_call (own_tasks r) root) (root_waits (own_tasks r) root.behind) ∷ []

        own' : List (Option ℕ)
        own' = own_tasks r ++ Some (next_number r.journal) ∷ []

        tasks : AreRootTasks p calls' own'
        tasks = subst (AreRootTasks p calls') (own_snoc r.roots (Named (next_number r.journal))) (tasks_with p formed units r root next held roots free)

        own_at : Rattle.task_meaning.specs.Meant.future_at own' (length r.roots) ≡ Some (next_number r.journal)
        own_at = ap (Rattle.task_meaning.specs.Meant.future_at own') (sym (own_length r.roots)) ∙ future_last (own_tasks r) (Some (next_number r.journal))

        le : length r.roots ≤ length (own_tasks r)
        le = omega (arith, own_length r.roots)

        same_call : root_call own' root ≡ root_call (own_tasks r) root
        same_call = call_same (own_tasks r) own' root (futures_snoc (own_tasks r) (Some (next_number r.journal)) root.arguments
            (formed_up (length r.roots) (length (own_tasks r)) root.arguments le (formed.roots (length r.roots) root next.there).arguments))

        same_waits : root_waits own' root.behind ≡ root_waits (own_tasks r) root.behind
        same_waits = waits_snoc (own_tasks r) (Some (next_number r.journal)) root.behind
            (IfSome_then root.behind (formed.roots (length r.roots) root next.there).behind (λ at below. omega (arith, below, le)))

    -- the root has a task
    named_counts : (block : BlockState) → first_taskless r.roots (roots_named root) ≡ None
        → CountsStand p c (with_root (accepts units r (root_request p r root) block) (Named (next_number r.journal))) all
    named_counts block free = record {
      left = now.left ++ root_counts.first ∷ [];
      roots_left = root_counts.later;
      beside = length_snoc now.left root_counts.first ∙ ap suc now.beside ∙ sym (length_snoc r.journal.rows row);
      bodies_count = bodies_snoc p c rows' r.running calls' r.bodies now.left (Some (OfKind (entry p (root_call (own_tasks r) root)))) root_counts.first (omega (arith, now.beside, held.beside.of_bodies))
          (bodies_later p c r.journal.rows rows' r.running r.running r.calls calls' r.bodies now.left stays now.bodies_count)
          (subst (λ x. BodyCounts p c rows' r.running calls' x (Some (OfKind (entry p (root_call (own_tasks r) root)))) root_counts.first) (ap suc (sym held.beside.of_bodies))
          (next_number r.journal, row, record { there = snoc_new r.journal.rows row; of_task = refl; live = inl refl }, root_counts.of_first));
      to_come = subst (λ x. RootsLeft p c x root_counts.later) (sym (length_snoc r.roots (Named (next_number r.journal)))) root_counts.of_later;
      add_up = record {
        tasks = omega (arith, now.add_up.tasks, new_task_counts r.journal.rows row refl, total-snoc (λ (x : Counts). x.tasks) now.left root_counts.first, root_counts.of_tasks);
        activations = omega (arith, now.add_up.activations, length_snoc r.journal.rows row, total-snoc (λ (x : Counts). x.activations) now.left root_counts.first, root_counts.of_activations);
      };
      uncut = λ u tag e. now.uncut u tag (sym (outcome_snoc r.outcomes u) ∙ e);
      no_null = now.no_null;
      named = λ at word e. ⊎_elim (λ old. now.named at word old) (λ new. subst IsNamed new.1 tt) (slice_snoc r.roots (Named (next_number r.journal)) word at e);
    }
      where
        root_counts : NextCounts
        root_counts = next_counts free

        row : ActivationRow
        row = new_row r (root_waits (own_tasks r) root.behind)

        rows' : List ActivationRow
        rows' = r.journal.rows ++ new_row r (root_waits (own_tasks r) root.behind) ∷ []

        calls' : List Accepted
        calls' = r.calls ++ OfCall (root_call (own_tasks r) root) (root_waits (own_tasks r) root.behind) ∷ []

        stays : (u m : ℕ) (other : ActivationRow) (q : FrameOf ℕ) → found r.bodies u ≡ Some (OfKind q) → IsLiveAt r.journal.rows r.running u m other
            → (row' : ActivationRow) × IsLiveAt rows' r.running u m row' × ((x : Counts) → RestCounts p c r.calls other.after q x → RestCounts p c calls' row'.after q x)
        stays u m other q has live = (
          other,
          record { there = snoc_old r.journal.rows row m other live.there; of_task = live.of_task; live = live.live },
          λ x rest. (grown-counts p c r.calls (OfCall (root_call (own_tasks r) root) (root_waits (own_tasks r) root.behind)) other.after q x
              (frame_names r held u q has, after_names r held calls m other live.there)).0 rest,
        )

    -- no root is refused
    none_refused_root : (limit : ℕ) → all.activations ≤ limit → r.journal.limit ≡ limit → HasRoomLeft p units all r → (tag : CutTag) (notes : Notes) → first_taskless r.roots (roots_named root) ≡ None
        → RefusesRoot p units r root tag notes → ⊥
    none_refused_root limit fits same room _ _ free (RefusesRoot.no_block none) =
        let counted = next_counts free in
        room (kind_class p root.kind) (class_fits (1 + variables_of p root.kind), λ k of. of.kinds root.kind (formed.roots (length r.roots) root next.there).kind)
        (omega (arith, now.add_up.tasks, counted.of_tasks)) none
    none_refused_root limit fits same room _ _ free (RefusesRoot.no_number block placed none) =
        let counted = next_counts free in
        let full = ltb-false (length r.journal.rows) r.journal.limit none in
        absurd (omega (arith, full, same, fits, now.add_up.activations, counted.of_activations))

    -- asking for a root that is not refused keeps what stands of counts
    pub root_kept : (s : Run) → ((tag : CutTag) (notes : Notes) → first_taskless r.roots (roots_named root) ≡ None → RefusesRoot p units r root tag notes → s ≡ with_root (with_notes r notes) (Refused tag) → ⊥)
        → RootMove p units r root s → CountsStand p c s all
    root_kept _ unrefused (RootMove.named block free placed some) =
        counts_arrives p c all (with_root (accepts units r (root_request p r root) block) (Named (next_number r.journal))) (next_number r.journal) (root_request p r root).after (named_counts block free)
    root_kept _ unrefused (RootMove.refused tag notes free how) = absurd (unrefused tag notes free how refl)
    root_kept _ unrefused (RootMove.skipped first e) = absurd (none-some first (sym (none_taskless r.roots (roots_named root) now.named) ∙ e))

    -- so it is where the pool has room left
    pub counts_asked : (limit : ℕ) → all.activations ≤ limit → r.journal.limit ≡ limit → HasRoomLeft p units all r → (s : Run) → RootMove p units r root s → CountsStand p c s all
    counts_asked limit fits same room s move = root_kept s (λ tag notes free how e. none_refused_root limit fits same room tag notes free how) move
