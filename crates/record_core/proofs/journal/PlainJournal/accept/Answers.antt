use Rattle.std.proofs.Common.{◌≡◌, ◌∙◌, sym, ap, ◌<◌, true, [], ◌∷◌, ◌++◌, length, arith}
use Rattle.std.specs.Prelude.{None, is_ok}
use Rattle.record_core.specs.Journal.{JournalState, unfinished}
use Rattle.record_core.specs.JournalInvariant.{HasRoom}
use Rattle.record_core.specs.Packed.{NumberRow, activations_in, journal_in, tasks_in}
use Rattle.record_core.proofs.JournalCode.{grown, accepted_by, room-accepted}
use Rattle.record_core.proofs.PackedFacts.{activations-length, activations-snoc, tasks-snoc}
use Rattle.record_core.proofs.journal.PlainJournal.accept.Goals as goal

pub invariant_of-self : goal.invariant_of-self
invariant_of-self c =
    let inside = c.self.inside in
    let was : JournalState = journal_in inside.rows.items inside.stamps inside.limit in
    let room : HasRoom was inside.rows.cap = c.self.invariant in
    let many : length was.rows ≡ length inside.rows.items = activations-length inside.rows.items in
    let more : length was.rows < inside.limit = omega (arith, many, inside.rows.ok.0, c.len.ensures, c.if-len-self.false) in
    let drawn : c.len-2.result ≡ length was.rows = c.len-2.ensures ∙ inside.rows.ok.0 ∙ sym many in
    let fits : is_ok c.push-fits.result ≡ true = c.push-fits.ensures.succeeds (omega (arith, inside.rows.ok.0, many, more, room.rows_fit)) in
    let row : NumberRow = record { activation = record { task = c.unwrap_or-task.result; after = c.args.after; start = None }; task = unfinished } in
    let rows : c.push-fits.new.self.items ≡ inside.rows.items ++ row ∷ []
    = grown (is_ok c.push-fits.result) c.push-fits.new.self.items (inside.rows.items ++ c.new.result ∷ []) inside.rows.items c.push-fits.ensures.items fits
    ∙ ap (λ (r : NumberRow). inside.rows.items ++ r ∷ []) c.new.ensures in
    room-accepted was c.args.self.now (journal_in c.push-fits.new.self.items inside.stamps inside.limit)
    c.args.task c.args.after inside.rows.cap c.push-fits.new.self.cap c.self.view_is room more c.requires.task c.requires.after
    (accepted_by was c.args.task c.args.after c.unwrap_or-task.result c.len-2.result (activations_in c.push-fits.new.self.items) (tasks_in c.push-fits.new.self.items)
    drawn c.unwrap_or-task.ensures (ap activations_in rows ∙ activations-snoc inside.rows.items row) (ap tasks_in rows ∙ tasks-snoc inside.rows.items row))
    c.push-fits.ensures.capacity

pub returns-clause-kept : goal.returns-clause-kept
returns-clause-kept c = (invariant_of-self c).journal
