use Rattle.plain_state.proofs.LinesLeft.{lines_go}
use Rattle.plain_state.proofs.new_task_laws.lines_run_out.Goals as goal

pub returns : goal.returns
returns c = lines_go
