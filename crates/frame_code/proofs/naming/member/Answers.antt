use Rattle.std.proofs.Common.{length, slice_index, ap, subst, sym, ◌+◌, ◌-◌, arith}
use Rattle.frame_code.specs.Units.{IsMember}
use Rattle.frame_code.proofs.NamedUnits.{member-word}
use Rattle.frame_code.proofs.naming.member.Goals as goal

pub bounds-as_slice-position : goal.bounds-as_slice-position
bounds-as_slice-position c = let h = member-word c.args.frame.now.items c.args.position c.requires in omega (arith, h.0, ap length c.as_slice.ensures.value)

pub overflow_sub-result : goal.overflow_sub-result
overflow_sub-result c =
    let h = member-word c.args.frame.now.items c.args.position c.requires in
    omega (arith, h.1, ap (λ l. slice_index l (1 + c.args.position)) c.as_slice.ensures.value)

pub returns : goal.returns
returns c =
    let h = member-word c.args.frame.now.items c.args.position c.requires in
    subst (λ l. IsMember c.args.frame.now.items c.args.position (slice_index l (1 + c.args.position) - 1)) (sym c.as_slice.ensures.value) h.2
