use Rattle.std.proofs.Common.{length, slice_index, ◌∙◌, ap, arith}
use Rattle.frame_code.proofs.Variables.{length-places, places-at}
use Rattle.frame_code.proofs.places.KindVariables.number_place.Goals as goal

pub bounds-places-x : goal.bounds-places-x
bounds-places-x c = omega (arith, ap length c.places.ensures, length-places 1 c.args.self.now, c.requires)

pub returns : goal.returns
returns c = ap (λ ps. slice_index ps c.args.x) c.places.ensures ∙ places-at 1 c.args.self.now c.args.x c.requires
