use Rattle.std.proofs.Common.{◌≡◌, rules, refl}
use Rattle.tool_words.proofs.Ranges.{no_geometry, plan_made}
use Rattle.tool_words.proofs.numbers.plan_with.Goals as goal

pub returns-in_err-geometry : goal.returns-in_err-geometry
returns-in_err-geometry c =
    let s : c.in_ok-superblocks.superblocks ≡ c.args.superblocks = search rules in
    let u : c.in_ok-units.units ≡ c.args.units = search rules in
    let unfit = no_geometry c.new.result c.args.superblocks c.args.units c.args.limit (rw (← s, ← u) c.new.ensures.exactly) (search rules) in
    rw (c.from_residual-in_err-geometry.ensures, unfit) refl

pub returns : goal.returns
returns c =
    let s : c.in_ok-superblocks.superblocks ≡ c.args.superblocks = search rules in
    let u : c.in_ok-units.units ≡ c.args.units = search rules in
    plan_made c.new-2.result c.in_ok-geometry.geometry c.args.superblocks c.args.units c.args.limit (search rules) (search rules) c.new-2.ensures.exactly c.new-2.ensures.numbers
