use Rattle.std.proofs.Common.{length, ap, arith}
use Rattle.frame_rows.proofs.tests.pair.Goals as goal

pub member-requires : goal.member-requires
member-requires c =
    let h = c.members_frame.ensures c.args.checked.now in
    (c.args.checked.now, c.as_slice.result.now, 1, h.0, h.1, omega (arith, ap length c.as_slice.ensures))

pub returns : goal.returns
returns c = (c.members_frame.ensures c.args.checked.now).0
