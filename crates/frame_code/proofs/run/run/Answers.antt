use Rattle.std.proofs.Common.{◌≡◌, ◌<◌, Some, length, slice_index, refl, sym, ◌∙◌, ap, subst, arith}
use Rattle.frame_code.specs.Control.{control_at}
use Rattle.frame_code.specs.Words.{frame_at}
use Rattle.frame_code.specs.Stops.{stop_at, GoesTo, stays}
use Rattle.frame_code.specs.Line.{standing}
use Rattle.frame_code.specs.Told.{act_told}
use Rattle.frame_code.specs.declared.act.Act.TheVariants.{Trap}
use Rattle.frame_code.specs.declared.words.Control.{Control}
use Rattle.frame_code.proofs.ControlWords.{frame-line}
use Rattle.frame_code.proofs.RunLines.{StandsIn, stands-in, code-here, frame-here, fits-here, near-here, passes-here, next-here, moved-there, run-here}
use Rattle.frame_code.proofs.run.run.Goals as goal

pub lines-init : goal.lines-init
lines-init c =
    let p = c.args.checked.now in
    let words = c.args.words.now in
    let control = c.unpack-control.result in
    let kind = c.kind_at-kind.result.now in
    let state = c.state_at-state.result.now in
    let stands : StandsIn p (slice_index words 0) kind state
    = stands-in p c.program.result.now (slice_index words 0) control kind state c.program.ensures.same c.unpack-control.ensures c.kind_at-kind.ensures c.state_at-state.ensures in
    let is_at : control_at (slice_index words 0) ≡ control.at = ap (λ (x : Control). x.at) (sym c.unpack-control.ensures) in
    let line : control_at (slice_index words 0) < length state.code = subst (λ ls. control_at (slice_index words 0) < length ls)
    (code-here p (slice_index words 0) kind state c.program.ensures.formed stands) (frame-line p words c.requires.frame c.requires.task).line in
    record {
      of = stands;
      goes = subst (GoesTo p c.args.columns.now (frame_at p (slice_index words)))
          (frame-here p (slice_index words 0) kind state c.program.ensures.formed stands words refl ∙ ap (standing kind words) is_at) stays;
      head = refl;
      stands = subst (λ at. at < length state.code) is_at line;
    }

pub carry_out-requires-clause-fits : goal.carry_out-requires-clause-fits
carry_out-requires-clause-fits c = fits-here c.args.checked.now (slice_index c.args.words.now 0) c.kind_at-kind.result.now c.state_at-state.result.now c.program.ensures.formed c.lines.invariant.of
    c.lines.at c.line_at-line.result.now c.line_at-line.ensures

pub carry_out-requires-clause-near : goal.carry_out-requires-clause-near
carry_out-requires-clause-near c =
    let h = near-here c.args.checked.now (slice_index c.args.words.now 0) c.kind_at-kind.result.now c.state_at-state.result.now c.program.ensures.formed c.lines.invariant.of
    c.lines.at c.lines.invariant.stands in omega arith

pub lines-smaller : goal.lines-smaller
lines-smaller c =
    let h = next-here c.args.checked.now (slice_index c.args.words.now 0) c.kind_at-kind.result.now c.state_at-state.result.now c.program.ensures.formed c.lines.invariant.of c.args.columns.now
    c.lines.words c.carry_out.new.words c.lines.at c.in-Goes.next c.line_at-line.result.now c.line_at-line.ensures c.in-Goes.ensures.step.0 c.in-Goes.ensures.step.1 in omega arith

pub lines-preserved : goal.lines-preserved
lines-preserved c =
    let p = c.args.checked.now in
    let head = slice_index c.args.words.now 0 in
    let kind = c.kind_at-kind.result.now in
    let state = c.state_at-state.result.now in
    let line = c.line_at-line.result.now in
    record {
      of = c.lines.invariant.of;
      goes = passes-here p head kind state c.program.ensures.formed c.lines.invariant.of c.args.columns.now (frame_at p (slice_index c.args.words.now)) c.lines.words c.carry_out.new.words
          c.lines.at c.in-Goes.next line c.lines.invariant.head c.line_at-line.ensures c.lines.invariant.goes c.in-Goes.ensures.step.0 c.in-Goes.ensures.step.1;
      head = c.in-Goes.ensures.head ∙ c.lines.invariant.head;
      stands = (next-here p head kind state c.program.ensures.formed c.lines.invariant.of c.args.columns.now c.lines.words c.carry_out.new.words c.lines.at c.in-Goes.next line
          c.line_at-line.ensures c.in-Goes.ensures.step.0 c.in-Goes.ensures.step.1).1;
    }

pub stand-requires-clause-at : goal.stand-requires-clause-at
stand-requires-clause-at c =
    let h = near-here c.args.checked.now (slice_index c.args.words.now 0) c.kind_at-kind.result.now c.state_at-state.result.now c.program.ensures.formed c.lines.invariant.of
    c.lines.at c.lines.invariant.stands in omega arith

pub stand-requires-in-Asks-clause-at : goal.stand-requires-in-Asks-clause-at
stand-requires-in-Asks-clause-at c =
    let h = near-here c.args.checked.now (slice_index c.args.words.now 0) c.kind_at-kind.result.now c.state_at-state.result.now c.program.ensures.formed c.lines.invariant.of
    c.lines.at c.lines.invariant.stands in omega arith

pub request-asked-requires-clause-fits : goal.request-asked-requires-clause-fits
request-asked-requires-clause-fits c = fits-here c.args.checked.now (slice_index c.args.words.now 0) c.kind_at-kind.result.now c.state_at-state.result.now c.program.ensures.formed c.lines.invariant.of
    c.lines.at c.line_at-line.result.now c.line_at-line.ensures

pub returns-in-Traps-clause-run : goal.returns-in-Traps-clause-run
returns-in-Traps-clause-run c = run-here c.args.checked.now (slice_index c.args.words.now 0) c.kind_at-kind.result.now c.state_at-state.result.now c.program.ensures.formed c.lines.invariant.of c.args.columns.now
    c.args.words.now c.lines.words c.stand.new.words c.lines.at c.line_at-line.result.now (Trap c.in-Traps.trap) c.requires.frame refl c.requires.task
    c.lines.auto.words c.lines.invariant.head (moved-there (slice_index c.args.words.now 0) c.unpack-control.result c.lines.at c.carry_out.new.words c.lines.words c.stand.new.words c.unpack-control.ensures c.in-Traps.ensures.step.1 c.stand.ensures)
    c.line_at-line.ensures c.lines.invariant.goes c.in-Traps.ensures.step.0

pub returns-in-Asks-clause-run : goal.returns-in-Asks-clause-run
returns-in-Asks-clause-run c = run-here c.args.checked.now (slice_index c.args.words.now 0) c.kind_at-kind.result.now c.state_at-state.result.now c.program.ensures.formed c.lines.invariant.of c.args.columns.now
    c.args.words.now c.lines.words c.stand-in-Asks.new.words c.lines.at c.line_at-line.result.now (act_told c.request-asked.result c.request-asked.new.requests) c.requires.frame refl c.requires.task
    c.lines.auto.words c.lines.invariant.head (moved-there (slice_index c.args.words.now 0) c.unpack-control.result c.lines.at c.carry_out.new.words c.lines.words c.stand-in-Asks.new.words c.unpack-control.ensures c.in-Asks.ensures.step.1 c.stand-in-Asks.ensures)
    c.line_at-line.ensures c.lines.invariant.goes
    (subst (λ ws. stop_at c.args.columns.now c.line_at-line.result.now.instr (standing c.kind_at-kind.result.now ws c.lines.at) ≡ Some (act_told c.request-asked.result c.request-asked.new.requests))
    c.in-Asks.ensures.step.1 (c.request-asked.ensures c.args.columns.now c.lines.at))
