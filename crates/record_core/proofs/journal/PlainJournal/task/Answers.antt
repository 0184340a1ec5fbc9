use Rattle.std.proofs.Common.{◌∙◌, ◌≤◌, Some, length, sym, ap, subst, arith}
use Rattle.record_core.specs.Numbers.{by_number, HasTask}
use Rattle.record_core.specs.Journal.{JournalState}
use Rattle.record_core.specs.Packed.{journal_in}
use Rattle.record_core.proofs.NumberFacts.{number-in_range}
use Rattle.record_core.proofs.PackedFacts.{task_at}
use Rattle.record_core.proofs.journal.PlainJournal.task.Goals as goal

pub returns : goal.returns
returns c =
    let was : JournalState = journal_in c.self.inside.rows.items c.self.inside.stamps c.self.inside.limit in
    let there : HasTask was.rows c.args.number = subst (λ (j : JournalState). HasTask j.rows c.args.number) (sym c.self.view_is) c.requires in
    let few : (1 ≤ c.args.number) × (c.args.number ≤ length was.rows) = number-in_range was.rows c.args.number there.0 there.1 in
    ap (λ (j : JournalState). by_number j.tasks c.args.number) (sym c.self.view_is)
    ∙ task_at c.self.inside.rows.items c.args.number c.index.result.now few.0 (omega (arith, few.1, c.self.invariant.journal.beside)) c.index.ensures
    ∙ ap Some (sym c.task.ensures)
