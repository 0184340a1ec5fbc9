use Rattle.std.proofs.Common.{◌≡◌, ◌∙◌, ℕ, sym, ap, subst}
use Rattle.ready_queues.specs.declared.entry.Entry.{Entry}
use Rattle.schedule_core.specs.Entries.{entry_of}
use Rattle.schedule_core.proofs.NextReady.{next-waits, next-gives}
use Rattle.schedule_core.proofs.completing.next_ready.Goals as goal

pub ready_waiting-word-requires-clause-may : goal.ready_waiting-word-requires-clause-may
ready_waiting-word-requires-clause-may c =
    next-waits c.args.shared.now.setup c.requires.chain.0 c.args.chain c.args.pass.now c.next_of.new.pass (c.in_ok-waiter.waiter, c.in_ok-waiter.rest) c.requires.chain.1
    (c.in_ok-waiter.ensures.some c.requires.chain.0 c.requires.chain.1)

pub returns-clause-some : goal.returns-clause-some
returns-clause-some c members has =
    next-gives c.args.shared.now.setup members c.args.chain c.args.pass.now c.next_of.new.pass (c.in_ok-waiter.waiter, c.in_ok-waiter.rest) has (c.in_ok-waiter.ensures.some members has) c.ready_waiting-word.result
    c.ready_waiting-word.new.pass c.entry_of.result c.ready_waiting-word.ensures.ready (ap (λ (e : Entry). e.unit) c.entry_of.ensures ∙ c.unit-unit.ensures)
    (subst (λ (u : ℕ). c.entry_of.result ≡ entry_of u c.ready_waiting-word.result) (sym (ap (λ (e : Entry). e.unit) c.entry_of.ensures)) c.entry_of.ensures)
