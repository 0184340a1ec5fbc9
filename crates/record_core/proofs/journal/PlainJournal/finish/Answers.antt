use Rattle.std.proofs.Common.{◌∙◌, ◌≤◌, length, ap, arith}
use Rattle.record_core.specs.Journal.{JournalState, with_finished}
use Rattle.record_core.specs.Packed.{journal_in}
use Rattle.record_core.specs.declared.journal.PlainJournal.TheInside.{Inside}
use Rattle.record_core.proofs.JournalCode.{stamps_fit, finished_number, room-finished}
use Rattle.record_core.proofs.PackedFacts.{tasks-length, finished_packed, cause_fits}
use Rattle.record_core.proofs.journal.PlainJournal.finish.Goals as goal

abbrev state : Inside → JournalState
state inside = journal_in inside.rows.items inside.stamps inside.limit

pub overflow_add-self : goal.overflow_add-self
overflow_add-self c =
    let few : c.self.inside.stamps ≤ 8000000 = stamps_fit (state c.self.inside) c.self.inside.rows.cap c.self.invariant in omega arith

pub finish-requires-clause-few : goal.finish-requires-clause-few
finish-requires-clause-few c =
    let few : c.self.inside.stamps ≤ 8000000 = stamps_fit (state c.self.inside) c.self.inside.rows.cap c.self.invariant in omega arith

pub finish-requires-clause-cause : goal.finish-requires-clause-cause
finish-requires-clause-cause c = cause_fits (state c.self.inside) c.args.self.now c.self.inside.rows.cap c.args.cause c.self.view_is c.self.invariant c.requires.cause

pub index_mut-row-requires : goal.index_mut-row-requires
index_mut-row-requires c =
    let few : (1 ≤ c.args.task) × (c.args.task ≤ length (state c.self.inside).tasks)
    = finished_number (state c.self.inside) c.args.self.now c.args.task c.self.view_is c.self.invariant.journal c.requires.under_way in
    omega (arith, few.0, few.1, tasks-length c.self.inside.rows.items, c.self.inside.rows.ok.0)

pub invariant_of-self : goal.invariant_of-self
invariant_of-self c =
    let few : (1 ≤ c.args.task) × (c.args.task ≤ length (state c.self.inside).tasks)
    = finished_number (state c.self.inside) c.args.self.now c.args.task c.self.view_is c.self.invariant.journal c.requires.under_way in
    room-finished (state c.self.inside) c.args.self.now _ c.args.task c.args.cause c.self.inside.rows.cap c.self.view_is c.self.invariant
    c.requires.under_way c.requires.cause
    (finished_packed c.self.inside.rows.items c.self.inside.stamps c.self.inside.limit c.args.task c.args.cause c.index_mut-row.result.now c.finish.new.self few.0 c.index_mut-row.ensures.value c.finish.ensures)

pub returns-clause-kept : goal.returns-clause-kept
returns-clause-kept c = (invariant_of-self c).journal

pub returns-clause-finished : goal.returns-clause-finished
returns-clause-finished c =
    let few : (1 ≤ c.args.task) × (c.args.task ≤ length (state c.self.inside).tasks)
    = finished_number (state c.self.inside) c.args.self.now c.args.task c.self.view_is c.self.invariant.journal c.requires.under_way in
    finished_packed c.self.inside.rows.items c.self.inside.stamps c.self.inside.limit c.args.task c.args.cause c.index_mut-row.result.now c.finish.new.self few.0 c.index_mut-row.ensures.value c.finish.ensures
    ∙ ap (λ (j : JournalState). with_finished j c.args.task c.args.cause) c.self.view_is
