use Rattle.std.proofs.Common.{◌≡◌, suc, ◌∷◌, length, map, take}
use Rattle.frame_code.specs.Control.{aggregate_code, control_word}
use Rattle.frame_code.proofs.entries.members_frame.Given as goal

abbrev pub invariant-members : goal.invariant-members
invariant-members l = l.frame.items ≡ (control_word aggregate_code (length l.members) 1 ∷ map suc (take l.member-index l.members))
