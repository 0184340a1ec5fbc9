use Rattle.std.proofs.Common.{◌≡◌, Some, refl, sym, ap, vec_len}
use Rattle.std.proofs.lemmas.Result.{IfOk-weaker}
use Rattle.task_syntax.specs.Valid.{JumpsTo}
use Rattle.task_check.specs.Known.{knows}
use Rattle.task_check.proofs.Passing.{passes-same, passes-none, same-target, no-target}
use Rattle.task_check.proofs.arriving.jump.Goals as goal

pub leap-requires-clause-within : goal.leap-requires-clause-within
leap-requires-clause-within c = c.requires.within c.in-Some.target ((c.in-Some.ensures c.in-Some.target).1 refl)

pub returns-in-Some : goal.returns-in-Some
returns-in-Some c =
    IfOk-weaker _ _ _ (λ u p. passes-same (vec_len c.args.known.now.members) (λ q. knows q c.args.known.now) (λ at. at ≡ c.in-Some.target) (JumpsTo c.args.instr.now) c.args.arriving.now.items c.leap.new.arriving.items
    (λ at e. (c.in-Some.ensures at).1 (ap (λ n. Some n) (sym e))) (λ at j. same-target c.in-Some.target at ((c.in-Some.ensures at).0 j)) p) c.leap.ensures

pub returns-in-None : goal.returns-in-None
returns-in-None c =
    passes-none (vec_len c.args.known.now.members) (λ q. knows q c.args.known.now) (JumpsTo c.args.instr.now) c.args.known.now c.args.arriving.now.items refl (λ q about. refl)
    (λ at j. no-target at ((c.in-None.ensures at).0 j))
