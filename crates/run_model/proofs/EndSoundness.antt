-- The end of a run is sound, once its values are shown to be the meaning's.
use Rattle.std.proofs.Common.{◌≡◌, ℕ, zero, suc, ◌≤◌, Option, Some, None, List, [], ◌∷◌, length, map, slice_get, refl, sym, ◌∙◌, ap, subst, arith}
use Rattle.std.proofs.lemmas.Option.{none-some, same_Some}
use Rattle.task_syntax.specs.Places.{Each, EachAt}
use Rattle.task_syntax.specs.Form.{IsWellFormed}
use Rattle.task_syntax.specs.declared.value.Value.{Value as ValueOf}
use Rattle.task_syntax.specs.declared.program.Root.{Root as RootLine}
use Rattle.task_syntax.specs.declared.program.Program.{Program}
use Rattle.task_syntax.specs.declared.columns.Columns.{Columns}
use Rattle.task_meaning.specs.Meant.{future_at}
use Rattle.task_meaning.specs.Roots.{RootGives, root_call}
use Rattle.task_meaning.specs.RootLaws.{root_waits}
use Rattle.task_meaning.specs.Worths.{Accepted, OfCall}
use Rattle.kt_words.specs.Ranges.{IsGeometry}
use Rattle.kt_words.specs.Capacity.{IsWithoutRoom}
use Rattle.kt_words.specs.declared.super_word.SuperWord.{SuperWord}
use Rattle.pool_core.specs.Blocks.{BlockState}
use Rattle.record_core.specs.Sums.{total}
use Rattle.record_core.specs.Numbers.{by_number, found}
use Rattle.record_core.specs.Journal.{task_count}
use Rattle.record_core.specs.EndSeen.{RunPlan}
use Rattle.record_core.specs.EndSound.{kind_class, own_of_class, evidence_count, HasEvidence, IsRootSound, EndSound}
use Rattle.record_core.specs.EndFaithful.{HeldBlocks}
use Rattle.record_core.specs.declared.rows.RootEnd.{RootEnd}
use Rattle.record_core.specs.declared.rows.RootEnd.TheVariants.{Value, Cut}
use Rattle.record_core.specs.declared.rows.CutFrom.TheVariants.{Host, Root, Task}
use Rattle.run_model.specs.State.{RootWord, Named, Evidence, Run}
use Rattle.run_model.specs.Step.{own_task, own_tasks}
use Rattle.run_model.specs.Placing.{used}
use Rattle.run_model.specs.End.{OneThreadRun, held_of, class_kept, words_kept, end_seen, state_at}
use Rattle.run_model.proofs.ByNumber.{has_some}
use Rattle.run_model.proofs.Reached.{always}
use Rattle.run_model.proofs.RunStands.{RunStands, run_first, run_root, run_move}
use Rattle.run_model.proofs.AllFinish.{no_bodies}
use Rattle.run_model.proofs.BlocksInvariant.{EvidenceStands}
use Rattle.run_model.proofs.BlocksKept.{BlocksHeld, blocks_first, blocks_root, blocks_move}
use Rattle.run_model.proofs.EvidenceKept.{evidence_first, evidence_root, evidence_move}
use Rattle.run_model.proofs.HeldAtEnd.{held_at_end}
use Rattle.run_model.proofs.EndFields.{ends_cut, ends_named}
use Rattle.run_model.proofs.EndLaws.{end_stands, end_quiet, end_roots, ends_in_order}

-- numbers, blocks and evidence of every run
pub record WithEvidence (p : Program) (plan : RunPlan) (r : Run) : Type 0 where
  pub run : RunStands p plan.limit r
  pub blocks : BlocksHeld p plan r
  pub evidence : EvidenceStands plan r

pub evidence_always : (p : Program) (c : Columns) (plan : RunPlan) → IsGeometry plan.superblocks plan.units → (taken : ℕ) → WithEvidence p plan (state_at p c plan taken)
evidence_always p c plan geometry taken = always p c plan (WithEvidence p plan) (record {
  first = record { run = run_first p plan; blocks = blocks_first p plan geometry; evidence = evidence_first p plan geometry };
  root = λ r s root next now move. record {
    run = run_root p plan.limit plan.units r s root next now.run move;
    blocks = blocks_root p plan geometry r s root next now.run.numbers now.blocks move;
    evidence = evidence_root p plan geometry r s root next now.blocks now.evidence move;
  };
  move = λ r s now move. record {
    run = run_move p c plan.limit plan.units r s now.run move;
    blocks = blocks_move p plan geometry c r s now.run.numbers now.blocks move;
    evidence = evidence_move p plan geometry c r s now.blocks now.evidence move;
  };
}) taken

module _ (p : Program) (c : Columns) (plan : RunPlan) (geometry : IsGeometry plan.superblocks plan.units) (formed : IsWellFormed p) (end : Run) (run : OneThreadRun p c plan end) where
  stands : WithEvidence p plan end
  stands = subst (WithEvidence p plan) run.reached (evidence_always p c plan geometry run.taken)

  -- the block of a root's task is of the class of the root's kind
  root_block : (i t : ℕ) (line : RootLine) → slice_get end.roots i ≡ Some (Named t) → slice_get p.roots i ≡ Some line → (b : BlockState) × (found end.blocks t ≡ Some b) × (b.class ≡ kind_class p line.kind)
  root_block i t line has there =
      let roots = end_roots p c plan formed end run in
      let task = roots.tasks i line t there (own_here end.roots i has) in
      let (b, e) = has_some (found end.blocks t) (stands.blocks.owned.owned t (stands.run.numbers.names.in_roots i t has)) in
      let call : Accepted = OfCall (root_call (own_tasks end) line) (root_waits (own_tasks end) line.behind) in
      (b, e, stands.blocks.owned.classes t (kind_class p line.kind) call b (ap (by_number end.calls) task.follows ∙ task.accepted_as) e refl)
    where
      own_here : (words : List RootWord) (i : ℕ) → slice_get words i ≡ Some (Named t) → future_at (map own_task words) i ≡ Some t
      own_here [] i e = absurd (none-some (Named t) e)
      own_here (w ∷ words) zero e = ap own_task (same_Some w (Named t) e)
      own_here (w ∷ words) (suc i) e = own_here words i e

  held : (class : ℕ) → held_of class (used end) ≡ own_of_class p class p.roots (own_tasks end)
  held class =
      let roots = end_roots p c plan formed end run in
      held_at_end p class end.blocks end.bodies p.roots end.roots (no_bodies end stands.run.numbers stands.run.rank (end_quiet p c plan end run)) roots.few root_block (λ i j t e f. stands.run.numbers.names.once i j t e f)

  pub held_by_class : (class : ℕ) → class ≤ 3 → slice_get (end_seen plan end).held class ≡ Some (own_of_class p class p.roots (own_tasks end))
  held_by_class zero fits = ap Some (held 0)
  held_by_class (suc zero) fits = ap Some (held 1)
  held_by_class (suc (suc zero)) fits = ap Some (held 2)
  held_by_class (suc (suc (suc zero))) fits = ap Some (held 3)
  held_by_class (suc (suc (suc (suc class)))) fits = absurd (omega arith)

  pub evidence_left : 1 ≤ end.nulls → HasEvidence (end_seen plan end) plan.limit
  evidence_left some = by end.evidence refl
    where
      by : (o : Option Evidence) → end.evidence ≡ o → HasEvidence (end_seen plan end) plan.limit
      by None e = absurd (omega (arith, some, stands.run.nulls.kept.1 e))
      by (Some kept) e =
          let holds = stands.evidence kept e in (
            kept.class,
            ap class_kept e,
            record {
              class_fits = holds.class_fits;
              every = ap (λ o. length (words_kept o)) e ∙ holds.every;
              classes = subst (λ o. Each (words_kept o) (λ (word : SuperWord). word.class ≤ 3)) (sym e) holds.classes;
              full = subst (λ o. Each (words_kept o) (λ (word : SuperWord). IsWithoutRoom plan.units kept.class word.class word.count)) (sym e) holds.full;
              counted = λ below. subst (λ o. total evidence_count (words_kept o) ≤ task_count end.journal.rows) (sym e) holds.counted;
            },
          )

  -- each superblock that it shows has room for its blocks
  pub counts_left : Each (words_kept end.evidence) (HeldBlocks plan.units)
  counts_left = by end.evidence refl
    where
      by : (o : Option Evidence) → end.evidence ≡ o → Each (words_kept o) (HeldBlocks plan.units)
      by None e = λ at word there. absurd (none-some word there)
      by (Some kept) e = (stands.evidence kept e).held

  -- the values of roots are all that is left to show
  pub sound_with : ((at : ℕ) (v : ValueOf) → slice_get (end_seen plan end).roots at ≡ Some (Value v) → RootGives p c at v) → EndSound p c plan (end_seen plan end)
  sound_with values =
      let order = ends_in_order p c plan end run in
      record {
        beside = order.beside;
        of_tasks = order.of_tasks;
        started = order.started;
        finished = order.finished;
        stamped = order.stamped;
        ordered = order.ordered;
        own = order.own;
        roots = roots;
        named = ends_named plan end p (end_roots p c plan formed end run);
        causes = order.causes;
        caused = order.caused;
        held_classes = refl;
        held = held_by_class;
        nulls = order.nulls;
        nulls_once = order.nulls_once;
        evidence = evidence_left;
        superblocks = refl;
        units = refl;
        as_many = order.as_many;
        within = order.within;
        limited = order.limited;
        limited_root = order.limited_root;
      }
    where
      by_end : (at : ℕ) (shown : RootEnd) → slice_get (end_seen plan end).roots at ≡ Some shown → IsRootSound p c (end_seen plan end) at shown
      by_end at (Value v) e = values at v e
      by_end at (Cut tag Host) e = tt
      by_end at (Cut tag (Root r)) e = tt
      by_end at (Cut tag (Task t)) e = ends_cut plan end p plan.limit (end_stands p c plan end run) (end_quiet p c plan end run) at t tag e

      roots : EachAt (end_seen plan end).roots (IsRootSound p c (end_seen plan end))
      roots at shown e = by_end at shown e
