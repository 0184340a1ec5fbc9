use Rattle.std.proofs.Common.{◌≡◌, ◌<◌, ◌+◌, ◌∙◌, Some, length, arith, sym, subst, vec_len}
use Rattle.task_check.specs.Known.{IsAbout}
use Rattle.task_check.specs.Ways.{Brings}
use Rattle.task_check.proofs.Places.{future-within}
use Rattle.task_check.proofs.Passing.{arrived-first, not-none}
use Rattle.task_check.proofs.state.arrivals.Goals as goal

pub at_start-requires-clause-holds : goal.at_start-requires-clause-holds
at_start-requires-clause-holds c = λ i x e.
    let h : x < length c.args.kind.now.variables = future-within c.args.kind.now x (c.requires.state.holds i x e) in
    omega (arith, c.requires.kind.variables_fit)

pub at_start-requires-clause-settled : goal.at_start-requires-clause-settled
at_start-requires-clause-settled c = λ i x e.
    let h : x < length c.args.kind.now.variables = future-within c.args.kind.now x (c.requires.state.settled i x e) in
    omega (arith, c.requires.kind.variables_fit)

pub arrive-requires-clause-within : goal.arrive-requires-clause-within
arrive-requires-clause-within c =
    let long : length c.in_ok-arriving.arriving.items ≡ length c.args.state.now.code = c.in_ok-arriving.ensures.len ∙ c.len.ensures in
    let ends : length c.args.state.now.code ≡ c.requires.state.ends.0 + 1 = c.requires.state.ends.2 in
    omega arith

pub arrive-requires-clause-sized : goal.arrive-requires-clause-sized
arrive-requires-clause-sized c = λ at o e. absurd (not-none o (c.in_ok-arriving.ensures.none at (Some o) e))

pub returns : goal.returns
returns c =
    let same : c.len-2.result ≡ length c.args.kind.now.variables = c.len-2.ensures in
    let sized : vec_len c.in_ok-start.start.members ≡ length c.args.kind.now.variables = c.in_ok-start.ensures.len ∙ same in
    arrived-first (length c.args.kind.now.variables) c.args.state.now c.in_ok-start.start c.in_ok-arriving.arriving.items c.arrive.new.arriving.items
    (c.in_ok-arriving.ensures.len ∙ c.len.ensures) c.in_ok-arriving.ensures.none sized
    (λ q about. c.in_ok-start.ensures.knows q (subst (λ n. IsAbout n q) (sym same) about))
    (subst (λ n. Brings n (λ at. at ≡ 0) c.in_ok-start.start c.in_ok-arriving.arriving.items c.arrive.new.arriving.items) sized c.arrive.ensures)
