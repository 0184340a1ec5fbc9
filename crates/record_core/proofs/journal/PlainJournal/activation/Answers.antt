use Rattle.std.proofs.Common.{◌∙◌, ◌≤◌, Some, length, sym, ap, subst}
use Rattle.record_core.specs.Numbers.{by_number}
use Rattle.record_core.specs.Journal.{JournalState}
use Rattle.record_core.proofs.PackedFacts.{activation_at}
use Rattle.record_core.proofs.journal.PlainJournal.activation.Goals as goal

pub returns : goal.returns
returns c =
    ap (λ (j : JournalState). by_number j.rows c.args.number) (sym c.self.view_is)
    ∙ activation_at c.self.inside.rows.items c.args.number c.index.result.now c.requires.some
    (subst (λ (j : JournalState). c.args.number ≤ length j.rows) (sym c.self.view_is) c.requires.within) c.index.ensures
    ∙ ap Some (sym c.activation.ensures)
