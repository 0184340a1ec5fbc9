use Rattle.std.proofs.Common.{◌≡◌, IfOk, subst}
use Rattle.task_syntax.specs.declared.program.Program.{Program}
use Rattle.record_core.specs.EndCounts.{EndCounts}
use Rattle.record_core.specs.EndFaithful.{EndFaithful}
use Rattle.record_core.specs.EndSeen.{plan_of}
use Rattle.record_core.specs.EndSound.{EndComplete, EndSound}
use Rattle.run_model.specs.End.{EndsAs}
use Rattle.plain_engine.proofs.run.PlainRun.run.Goals as goal

pub returns-clause-sound : goal.returns-clause-sound
returns-clause-sound c =
    let same : c.in_ok-code.code ≡ c.args.checked.now = subst (λ made. IfOk made (λ code. code ≡ c.args.checked.now)) c.in_ok-code.was c.new.ensures in
    subst (λ (p : Program). EndSound p c.args.columns.now (plan_of c.args.plan) c.run_to_end.result) same c.run_to_end.ensures.sound

pub returns-clause-answers : goal.returns-clause-answers
returns-clause-answers c =
    let same : c.in_ok-code.code ≡ c.args.checked.now = subst (λ made. IfOk made (λ code. code ≡ c.args.checked.now)) c.in_ok-code.was c.new.ensures in
    subst (λ (p : Program). EndsAs p c.args.columns.now (plan_of c.args.plan) c.run_to_end.result) same c.run_to_end.ensures.answers

pub returns-clause-faithful : goal.returns-clause-faithful
returns-clause-faithful c =
    let same : c.in_ok-code.code ≡ c.args.checked.now = subst (λ made. IfOk made (λ code. code ≡ c.args.checked.now)) c.in_ok-code.was c.new.ensures in
    subst (λ (p : Program). EndFaithful p c.run_to_end.result) same c.run_to_end.ensures.faithful

pub returns-clause-complete : goal.returns-clause-complete
returns-clause-complete c =
    let same : c.in_ok-code.code ≡ c.args.checked.now = subst (λ made. IfOk made (λ code. code ≡ c.args.checked.now)) c.in_ok-code.was c.new.ensures in
    subst (λ (p : Program). EndComplete p c.args.columns.now (plan_of c.args.plan) c.run_to_end.result) same c.run_to_end.ensures.complete

pub returns-clause-counts : goal.returns-clause-counts
returns-clause-counts c =
    let same : c.in_ok-code.code ≡ c.args.checked.now = subst (λ made. IfOk made (λ code. code ≡ c.args.checked.now)) c.in_ok-code.was c.new.ensures in
    subst (λ (p : Program). EndCounts p c.args.columns.now c.run_to_end.result) same c.run_to_end.ensures.counts
