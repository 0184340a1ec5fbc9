use Rattle.std.proofs.Common.{ℕ, sym, subst}
use Rattle.step_table.specs.Passes.{view, plan}
use Rattle.step_table.specs.SeeingSteps.{MayReady}
use Rattle.step_table.specs.declared.record_tokens.Linkable.{Linkable}
use Rattle.wait_lists.specs.Joining.{MayJoin, SawClosed, Waits}
use Rattle.schedule_core.proofs.Joining.{join-waits, may-ready, joins-closed}
use Rattle.schedule_core.proofs.making.join.Goals as goal

pub of-predecessor-requires : goal.of-predecessor-requires
of-predecessor-requires c = c.requires.may.future.there

pub join_list-requires-clause-may : goal.join_list-requires-clause-may
join_list-requires-clause-may c = subst (λ (u : ℕ). MayJoin (plan c.args.shared.now) u c.args.waiter.unit (view c.args.pass.now)) (sym c.of-predecessor.ensures) c.requires.may

pub ready_waiting-word-requires-clause-may : goal.ready_waiting-word-requires-clause-may
ready_waiting-word-requires-clause-may c =
    let told = c.in-Closed.ensures.answer in
    subst (λ (l : Linkable). MayReady (plan c.args.shared.now) l.unit (view c.join_list.new.pass)) (sym told.0)
    (may-ready (plan c.args.shared.now) c.args.behind.unit c.args.waiter.unit (view c.args.pass.now) (view c.join_list.new.pass) c.requires.may
    (subst (λ (u : ℕ). SawClosed u c.args.waiter.unit (view c.args.pass.now) (view c.join_list.new.pass)) c.of-predecessor.ensures told.1))

pub returns-in-Waits-clause-joined : goal.returns-in-Waits-clause-joined
returns-in-Waits-clause-joined c =
    join-waits c.args.shared.now.setup c.args.waiter.unit c.args.behind (view c.args.pass.now) (view c.join_list.new.pass)
    (subst (λ (u : ℕ). Waits u c.args.waiter.unit (view c.args.pass.now) (view c.join_list.new.pass)) c.of-predecessor.ensures c.in-Waits.ensures.answer) c.in-Waits.ensures.sound.after

pub returns-in-Closed-clause-joined : goal.returns-in-Closed-clause-joined
returns-in-Closed-clause-joined c =
    let told = c.in-Closed.ensures.answer in
    joins-closed c.args.shared.now.setup c.args.waiter c.in-Closed.back c.unit-unit.result c.args.behind (view c.args.pass.now) c.join_list.new.pass c.ready_waiting-word.new.pass c.ready_waiting-word.result c.entry_of.result
    told.0 c.unit-unit.ensures c.entry_of.ensures c.requires.may
    (subst (λ (u : ℕ). SawClosed u c.args.waiter.unit (view c.args.pass.now) (view c.join_list.new.pass)) c.of-predecessor.ensures told.1) c.ready_waiting-word.ensures.ready c.ready_waiting-word.ensures.sound.after
