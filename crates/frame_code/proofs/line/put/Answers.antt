use Rattle.frame_code.proofs.LineSteps.{put-goes}
use Rattle.frame_code.proofs.line.put.Goals as goal

pub returns-in-Number-clause-step : goal.returns-in-Number-clause-step
returns-in-Number-clause-step c = put-goes c.args.kind.now c.args.value c.args.at c.args.to c.in-Number.number c.args.words.now c.set.new.words c.in-Number.is (c.set.ensures.set c.args.at)
