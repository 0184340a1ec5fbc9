use Rattle.plain_engine.proofs.Starting.{has_frame, is_frame, is_running, may_be_cut, may_start, takes_start, taken_so, turns_cut, turns_run}
use Rattle.plain_engine.proofs.engine.Engine.turn.Goals as goal

-- src/turn.rt:22:22
pub begin-record-requires : goal.begin-record-requires
begin-record-requires c =
    let (left, next, same) = taken_so c.args.self.now c.take_next.new.self c.take_next.result c.in-Some.unit c.take_next.ensures c.in-Some.is in
    may_start c.args.checked.now c.args.columns.now c.args.self.now c.take_next.new.self c.in-Some.unit left next same c.requires

-- src/turn.rt:23:21
pub frame-requires : goal.frame-requires
frame-requires c =
    let (left, next, same) = taken_so c.args.self.now c.take_next.new.self c.take_next.result c.in-Some.unit c.take_next.ensures c.in-Some.is in
    has_frame c.args.checked.now c.args.columns.now c.args.self.now c.take_next.new.self c.in-Some.unit left next same c.begin-record.result c.begin-record.ensures.record c.begin-record.new.self c.begin-record.ensures.begun c.requires

-- src/turn.rt:25:26
pub cut-requires-clause-frame : goal.cut-requires-clause-frame
cut-requires-clause-frame c =
    let (left, next, same) = taken_so c.args.self.now c.take_next.new.self c.take_next.result c.in-Some.unit c.take_next.ensures c.in-Some.is in
    is_frame c.args.checked.now c.args.columns.now c.args.self.now c.take_next.new.self c.in-Some.unit left next same c.begin-record.result c.begin-record.ensures.record c.begin-record.new.self c.begin-record.ensures.begun
    c.frame.new.frame.items c.frame.ensures c.requires

-- src/turn.rt:25:26
pub cut-requires-clause-cut : goal.cut-requires-clause-cut
cut-requires-clause-cut c =
    let (left, next, same) = taken_so c.args.self.now c.take_next.new.self c.take_next.result c.in-Some.unit c.take_next.ensures c.in-Some.is in
    may_be_cut c.args.checked.now c.args.columns.now c.args.self.now c.take_next.new.self c.in-Some.unit left next same c.begin-record.result c.begin-record.ensures.record c.begin-record.new.self c.begin-record.ensures.begun
    c.frame.new.frame.items c.frame.ensures c.in-Some-cut.tag c.in-Some-cut.is c.requires

-- src/turn.rt:26:21
pub run-requires : goal.run-requires
run-requires c =
    let (left, next, same) = taken_so c.args.self.now c.take_next.new.self c.take_next.result c.in-Some.unit c.take_next.ensures c.in-Some.is in
    is_running c.args.checked.now c.args.columns.now c.args.self.now c.take_next.new.self c.in-Some.unit left next same c.begin-record.result c.begin-record.ensures.record c.begin-record.new.self c.begin-record.ensures.begun
    c.frame.new.frame.items c.frame.ensures c.in-None.is c.requires

-- src/turn.rt:13:5
pub returns-in-Some-cut-clause-turns : goal.returns-in-Some-cut-clause-turns
returns-in-Some-cut-clause-turns c =
    let (left, next, same) = taken_so c.args.self.now c.take_next.new.self c.take_next.result c.in-Some.unit c.take_next.ensures c.in-Some.is in
    turns_cut c.args.checked.now c.args.columns.now c.args.self.now c.take_next.new.self c.in-Some.unit left next same c.begin-record.result c.begin-record.ensures.record c.begin-record.new.self c.begin-record.ensures.begun
    c.frame.new.frame.items c.frame.ensures c.in-Some-cut.tag c.in-Some-cut.is c.cut.new.self c.cut.ensures

-- src/turn.rt:13:5
pub returns-in-Some-cut-clause-fewer : goal.returns-in-Some-cut-clause-fewer
returns-in-Some-cut-clause-fewer c =
    let (left, next, same) = taken_so c.args.self.now c.take_next.new.self c.take_next.result c.in-Some.unit c.take_next.ensures c.in-Some.is in
    takes_start c.args.checked.now c.args.columns.now c.args.self.now c.take_next.new.self c.in-Some.unit left next same c.cut.new.self c.requires
    (turns_cut c.args.checked.now c.args.columns.now c.args.self.now c.take_next.new.self c.in-Some.unit left next same c.begin-record.result c.begin-record.ensures.record c.begin-record.new.self c.begin-record.ensures.begun
    c.frame.new.frame.items c.frame.ensures c.in-Some-cut.tag c.in-Some-cut.is c.cut.new.self c.cut.ensures)

-- src/turn.rt:13:5
pub returns-in-None-clause-turns : goal.returns-in-None-clause-turns
returns-in-None-clause-turns c =
    let (left, next, same) = taken_so c.args.self.now c.take_next.new.self c.take_next.result c.in-Some.unit c.take_next.ensures c.in-Some.is in
    turns_run c.args.checked.now c.args.columns.now c.args.self.now c.take_next.new.self c.in-Some.unit left next same c.begin-record.result c.begin-record.ensures.record c.begin-record.new.self c.begin-record.ensures.begun
    c.frame.new.frame.items c.frame.ensures c.in-None.is c.run.new.self c.run.ensures

-- src/turn.rt:13:5
pub returns-in-None-clause-fewer : goal.returns-in-None-clause-fewer
returns-in-None-clause-fewer c =
    let (left, next, same) = taken_so c.args.self.now c.take_next.new.self c.take_next.result c.in-Some.unit c.take_next.ensures c.in-Some.is in
    takes_start c.args.checked.now c.args.columns.now c.args.self.now c.take_next.new.self c.in-Some.unit left next same c.run.new.self c.requires
    (turns_run c.args.checked.now c.args.columns.now c.args.self.now c.take_next.new.self c.in-Some.unit left next same c.begin-record.result c.begin-record.ensures.record c.begin-record.new.self c.begin-record.ensures.begun
    c.frame.new.frame.items c.frame.ensures c.in-None.is c.run.new.self c.run.ensures)
