use Rattle.std.proofs.Common.{◌∷◌, suc, length, map, sym, ◌∙◌, ap, subst, arith}
use Rattle.std.proofs.lemmas.List.{take_all}
use Rattle.frame_code.specs.Control.{aggregate_code, control_word}
use Rattle.frame_code.specs.Entries.{IsFrameOfMembers}
use Rattle.frame_code.proofs.MembersFrame.{members-frame}
use Rattle.frame_code.proofs.entries.members_frame.Goals as goal

pub returns : goal.returns
returns c =
    let members = c.args.members.now in
    let all = take_all c.members.member-index members (omega (arith, c.members-test.false)) in
    subst (IsFrameOfMembers members) (sym (c.members.invariant ∙ ap (λ ms. control_word aggregate_code (length members) 1 ∷ map suc ms) all))
    (members-frame members c.requires.some c.requires.few)
