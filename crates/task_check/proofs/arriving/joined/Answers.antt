use Rattle.std.proofs.Common.{refl, ◌∙◌, sym, subst, ◌≡◌, vec_len}
use Rattle.task_check.specs.Known.{IsAbout}
use Rattle.task_check.proofs.arriving.joined.Goals as goal

pub returns-in-Some : goal.returns-in-Some
returns-in-Some c =
    let same : vec_len c.in-Some.other.members ≡ vec_len c.args.known.members = c.requires c.in-Some.other c.in-Some.is in
    rw c.in-Some.is (c.joined.result, refl, c.joined.ensures.len ∙ same, λ q about. c.joined.ensures.knows q (subst (λ n. IsAbout n q) (sym same) about))
