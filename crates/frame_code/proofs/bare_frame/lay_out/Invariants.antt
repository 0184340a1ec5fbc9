use Rattle.std.proofs.Common.{◌≡◌, ◌∷◌, replicate}
use Rattle.frame_code.proofs.bare_frame.lay_out.Given as goal

abbrev pub invariant-zeros : goal.invariant-zeros
invariant-zeros l = l.frame.items ≡ (l.control ∷ replicate l._zero 0)
