use Rattle.step_table.proofs.shared.Shared.new.Goals as goal
use Rattle.std.proofs.Common.{◌≡◌, ℕ, ◌∙◌, List, [], ◌∷◌, replicate, sym, subst}
use Rattle.table_core.specs.Views.{first_view}
use Rattle.table_core.specs.declared.setup.Setup.{Setup}
use Rattle.schedule_rule.specs.Parts.{Holds}
use Rattle.schedule_rule.proofs.Opening.{holds-first}

pub of_words-requires : goal.of_words-requires
of_words-requires c =
    let setup : Setup = record { checked = c.args.checked; columns = c.args.columns; plan = c.args.plan } in
    let zeros : c.as_slice.result.now ≡ replicate c.words.result 0 = c.as_slice.ensures.value ∙ c.in_ok-zeros.ensures.items_if_clones_equal (λ y e. e) in
    subst (λ (ws : List ℕ). Holds setup ws (first_view ∷ [])) (sym zeros) (holds-first setup c.words.result c.words.ensures)
