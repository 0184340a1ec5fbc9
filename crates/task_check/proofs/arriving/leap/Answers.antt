use Rattle.std.proofs.Common.{◌≡◌, subst}
use Rattle.task_check.specs.Ways.{Brings}
use Rattle.task_check.proofs.arriving.leap.Goals as goal

pub returns : goal.returns
returns c =
    (c.in_ok-same.same, c.in_ok-same.ensures.len, (λ q about. c.in_ok-same.ensures.knows q), subst (λ n. Brings n (λ at. at ≡ c.args.target) c.in_ok-same.same c.args.arriving.now.items c.arrive.new.arriving.items) c.in_ok-same.ensures.len c.arrive.ensures)
