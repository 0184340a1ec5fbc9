use Rattle.std.proofs.Common.{length, refl, ap, IsTrue}
use Rattle.task_check.specs.Known.{in_set, knows, will_settle}
use Rattle.task_check.specs.declared.fault.Cause.TheVariants.{StateNeeds}
use Rattle.task_check.specs.Parts.{LackingFault}
use Rattle.task_check.proofs.First.{first-earlier}
use Rattle.task_check.proofs.Lacks.{lacking-same}
use Rattle.task_check.proofs.line.respawn_needs.Goals as goal

pub returns : goal.returns
returns c =
    rw c.earlier.ensures (first-earlier
    (LackingFault c.args.line StateNeeds 0 c.args.kind.now c.args.next.now.holds (λ x. IsTrue (in_set x c.args.known.now.held)))
    (LackingFault c.args.line StateNeeds (length c.args.next.now.holds) c.args.kind.now c.args.next.now.settled (λ x. IsTrue (will_settle (λ q. knows q c.args.known.now) c.args.behind x)))
    c.in_ok-not_held.not_held c.in_ok-not_settled.not_settled
    (lacking-same c.args.line StateNeeds 0 0 c.args.kind.now c.as_slice-holds.result.now c.args.next.now.holds
    (λ x. in_set x c.args.known.now.held) (λ x. in_set x c.args.known.now.held) refl c.as_slice-holds.ensures (λ x. refl) c.in_ok-not_held.not_held c.in_ok-not_held.ensures)
    (lacking-same c.args.line StateNeeds (length c.as_slice-holds.result.now) (length c.args.next.now.holds) c.args.kind.now c.as_slice-settled.result.now c.args.next.now.settled
    (λ x. in_set x c.settling-settling.result) (λ x. will_settle (λ q. knows q c.args.known.now) c.args.behind x) (ap (λ xs. length xs) c.as_slice-holds.ensures) c.as_slice-settled.ensures
    c.settling-settling.ensures c.in_ok-not_settled.not_settled c.in_ok-not_settled.ensures))
