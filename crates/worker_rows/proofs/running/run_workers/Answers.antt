use Rattle.std.proofs.Common.{All, length, sym, ap, subst, arith}
use Rattle.worker_loop.specs.Serving.{HasWorked}
use Rattle.worker_rows.proofs.LeadFacts.{written}
use Rattle.worker_rows.proofs.running.run_workers.Goals as goal

pub returns-clause-worked : goal.returns-clause-worked
returns-clause-worked g c =
    subst (λ l. All (λ w. HasWorked w.worked w.pass) l)
    (sym (written c.in_ok-first.workers.len c.in_ok-first.workers.items c.run_all.new.workers
    (omega (arith, c.run_all.auto.workers, ap length c.as_mut_slice.ensures.value)) (omega (arith, c.as_mut_slice.ensures.len, ap length c.as_mut_slice.ensures.value))))
    c.run_all.ensures.worked
