-- The writes of the two rows of a number, by the words that are written.
use Rattle.std.proofs.Common.{◌≡◌, ◌∙◌, ℕ, ◌≤◌, Option, sym, ap, subst}
use Rattle.record_core.proofs.CountFacts.{times-some}
use Rattle.table_core.specs.Addresses.{journal}
use Rattle.table_core.specs.Views.{saw}
use Rattle.table_core.specs.declared.setup.Setup.{Setup}
use Rattle.table_core.specs.declared.view.View.{View}
use Rattle.schedule_rule.specs.DrawViews.{wrote_task, wrote_after}
use Rattle.schedule_rule.specs.Parts.{Keeps}
use Rattle.schedule_rule.specs.Rows.{word_of_task}
use Rattle.schedule_rule.proofs.RowKinds.{writes-task-at, writes-after-at}
use Rattle.step_table.specs.RowSteps.{MayWriteTask, MayWriteAfter}

module _ (g : Setup) (id : ℕ) (v : View) (n : ℕ) where
  -- the task of a number is written
  pub writes-task-value : (task word : ℕ) → word ≡ task → MayWriteTask g.plan n task v → 1 ≤ v.parts
      → Keeps g id v (journal n 0) (λ k. word) (λ k w. (found : ℕ) × (w ≡ saw (journal n 0) found (wrote_task n v)))
  writes-task-value task word is may in_use =
      subst (λ (t : ℕ). Keeps g id v (journal n 0) (λ k. t) (λ k w. (found : ℕ) × (w ≡ saw (journal n 0) found (wrote_task n v)))) (sym (is ∙ may.task_is))
      (writes-task-at g id v n may.call may.knows ((times-some n v.no_task).0 may.lacks) in_use)

  -- the predecessor of a number is written
  pub writes-after-value : (behind : Option ℕ) (word : ℕ) → word ≡ word_of_task behind → MayWriteAfter g.plan n behind v → 1 ≤ v.parts
      → Keeps g id v (journal n 1) (λ k. word) (λ k w. (found : ℕ) × (w ≡ saw (journal n 1) found (wrote_after n v)))
  writes-after-value behind word is may in_use =
      subst (λ (t : ℕ). Keeps g id v (journal n 1) (λ k. t) (λ k w. (found : ℕ) × (w ≡ saw (journal n 1) found (wrote_after n v)))) (sym (is ∙ ap word_of_task may.behind_is))
      (writes-after-at g id v n may.call may.knows ((times-some n v.no_after).0 may.lacks) in_use)
