use Rattle.task_check.proofs.StateFaults.{declared-later, declared-entry}
use Rattle.task_check.proofs.state.declared_fault.Goals as goal

pub returns-then-at-ne0 : goal.returns-then-at-ne0
returns-then-at-ne0 c = declared-later c.args.kind.now c.args.at c.args.state.now c.if-at-ne0.true c.in_ok-unheld.unheld c.in_ok-unheld.ensures

pub returns : goal.returns
returns c = rw c.earlier.ensures (declared-entry c.args.kind.now c.args.at c.args.state.now c.if-at-ne0.false c.in_ok-entry.entry c.in_ok-unheld.unheld c.in_ok-entry.ensures c.in_ok-unheld.ensures)
