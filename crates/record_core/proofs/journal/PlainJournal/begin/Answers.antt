use Rattle.std.proofs.Common.{◌∙◌, ◌≤◌, length, ap, arith}
use Rattle.record_core.specs.Journal.{JournalState, with_begun}
use Rattle.record_core.specs.Packed.{journal_in}
use Rattle.record_core.specs.declared.journal.PlainJournal.TheInside.{Inside}
use Rattle.record_core.proofs.JournalCode.{stamps_fit, begun_number, room-begun}
use Rattle.record_core.proofs.PackedFacts.{activations-length, begun_packed}
use Rattle.record_core.proofs.journal.PlainJournal.begin.Goals as goal

abbrev state : Inside → JournalState
state inside = journal_in inside.rows.items inside.stamps inside.limit

pub overflow_add-self : goal.overflow_add-self
overflow_add-self c =
    let few : c.self.inside.stamps ≤ 8000000 = stamps_fit (state c.self.inside) c.self.inside.rows.cap c.self.invariant in omega arith

pub begin-requires-clause-few : goal.begin-requires-clause-few
begin-requires-clause-few c =
    let few : c.self.inside.stamps ≤ 8000000 = stamps_fit (state c.self.inside) c.self.inside.rows.cap c.self.invariant in omega arith

pub index_mut-row-requires : goal.index_mut-row-requires
index_mut-row-requires c =
    let few : (1 ≤ c.args.number) × (c.args.number ≤ length (state c.self.inside).rows)
    = begun_number (state c.self.inside) c.args.self.now c.args.number c.self.view_is c.requires in
    omega (arith, few.0, few.1, activations-length c.self.inside.rows.items, c.self.inside.rows.ok.0)

pub invariant_of-self : goal.invariant_of-self
invariant_of-self c =
    room-begun (state c.self.inside) c.args.self.now _ c.args.number c.self.inside.rows.cap c.self.view_is c.self.invariant c.requires
    (begun_packed c.self.inside.rows.items c.self.inside.stamps c.self.inside.limit c.args.self.now c.args.number c.index_mut-row.result.now c.begin.new.self c.self.view_is c.requires c.index_mut-row.ensures.value c.begin.ensures)

pub returns-clause-begun : goal.returns-clause-begun
returns-clause-begun c =
    begun_packed c.self.inside.rows.items c.self.inside.stamps c.self.inside.limit c.args.self.now c.args.number c.index_mut-row.result.now c.begin.new.self c.self.view_is c.requires c.index_mut-row.ensures.value c.begin.ensures
    ∙ ap (λ (j : JournalState). with_begun j c.args.number) c.self.view_is

pub returns-clause-kept : goal.returns-clause-kept
returns-clause-kept c = (invariant_of-self c).journal
