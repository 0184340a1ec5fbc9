use Rattle.std.proofs.Common.{sym}
use Rattle.run_report.proofs.Names.{root_short}
use Rattle.run_report.proofs.roots.root_name.Goals as goal

pub returns-in-Some-clause-short : goal.returns-in-Some-clause-short
returns-in-Some-clause-short c = rw c.as_bytes.ensures (root_short c.args.program.now c.requires c.from.result c.in-Some.root.now (sym c.in-Some.ensures))
