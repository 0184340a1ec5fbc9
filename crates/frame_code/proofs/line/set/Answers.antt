use Rattle.frame_code.proofs.LaidOut.{laid-known, laid-within, laid-sets, laid-head}
use Rattle.frame_code.proofs.line.set.Goals as goal

pub bounds-places-to : goal.bounds-places-to
bounds-places-to c = laid-known c.args.kind.now c.args.places.now c.args.words.now c.requires.laid_out c.args.to c.requires.variable

pub bounds-words-places : goal.bounds-words-places
bounds-words-places c = laid-within c.args.kind.now c.args.places.now c.args.words.now c.requires.laid_out c.args.to c.requires.variable

pub returns : goal.returns
returns c = record {
  set = laid-sets c.args.kind.now c.args.places.now c.args.words.now c.requires.laid_out c.args.to c.requires.variable c.args.number;
  head = laid-head c.args.kind.now c.args.places.now c.args.words.now c.requires.laid_out c.args.to c.requires.variable c.args.number;
}
