use Rattle.std.proofs.Common.{◌≡◌, ◌+◌, refl, subst, vec_len}
use Rattle.task_check.specs.Known.{knows, answer_after}
use Rattle.task_check.specs.Ways.{Brings, GoesOnTo}
use Rattle.task_check.proofs.Passing.{brings-same, passes-none, leaves-same, is-false}
use Rattle.task_check.proofs.arriving.go_on.Goals as goal

pub returns-then-not-leaves : goal.returns-then-not-leaves
returns-then-not-leaves c = (
  c.after.result,
  c.after.ensures.len,
  c.after.ensures.knows,
  brings-same (vec_len c.args.known.members) (λ at. at ≡ c.args.at + 1) (GoesOnTo c.args.instr.now c.args.at) c.after.result c.args.arriving.now.items c.arrive.new.arriving.items
      (λ at e. (e, λ l. is-false (c.if-not-leaves.ensures.1 l))) (λ at g. g.0)
      (subst (λ n. Brings n (λ at. at ≡ c.args.at + 1) c.after.result c.args.arriving.now.items c.arrive.new.arriving.items) c.after.ensures.len c.arrive.ensures),
)

pub returns-else-not-leaves : goal.returns-else-not-leaves
returns-else-not-leaves c =
    passes-none (vec_len c.args.known.members) (answer_after c.args.instr.now (λ q. knows q c.args.known)) (GoesOnTo c.args.instr.now c.args.at) c.args.known c.args.arriving.now.items refl
    (λ q about. leaves-same c.args.instr.now (λ r. knows r c.args.known) q (c.if-not-leaves.ensures.0 refl)) (λ at g. g.1 (c.if-not-leaves.ensures.0 refl))
