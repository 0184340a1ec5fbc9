use Rattle.std.proofs.Common.{sym, ◌∙◌, ap, subst}
use Rattle.task_syntax.specs.Form.{IsFormedOperand}
use Rattle.task_meaning.specs.Frame.{operand}
use Rattle.frame_code.specs.Line.{numbers_of}
use Rattle.frame_code.proofs.LaidOut.{laid-known, laid-within, laid-reads}
use Rattle.frame_code.proofs.line.read.Goals as goal

pub bounds-places-x : goal.bounds-places-x
bounds-places-x c = laid-known c.args.kind.now c.args.places.now c.args.words.now c.requires.laid_out c.in-Variable.x
    (subst (IsFormedOperand c.args.kind.now) c.in-Variable.is c.requires.formed)

pub bounds-words-places : goal.bounds-words-places
bounds-words-places c = laid-within c.args.kind.now c.args.places.now c.args.words.now c.requires.laid_out c.in-Variable.x
    (subst (IsFormedOperand c.args.kind.now) c.in-Variable.is c.requires.formed)

pub returns-in-Variable : goal.returns-in-Variable
returns-in-Variable c = laid-reads c.args.kind.now c.args.places.now c.args.words.now c.requires.laid_out c.in-Variable.x
    (subst (IsFormedOperand c.args.kind.now) c.in-Variable.is c.requires.formed)
    ∙ ap (operand (numbers_of c.args.kind.now c.args.words.now)) (sym c.in-Variable.is)
