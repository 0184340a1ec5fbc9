use Rattle.std.proofs.Common.{◌≡◌, sym, subst}
use Rattle.record_core.specs.EndCounts.{EndCounts}
use Rattle.record_core.specs.EndFaithful.{EndFaithful}
use Rattle.record_core.specs.EndSeen.{plan_of}
use Rattle.record_core.specs.EndSound.{EndComplete, EndSound}
use Rattle.run_model.specs.End.{EndsAs}
use Rattle.plain_state.specs.Engine.{unused_engine}
use Rattle.plain_engine.proofs.EndFacts.{asked_idles, end_answers, end_complete, end_counts, end_faithful, end_sound, is_readable, may_ask_all, may_run}
use Rattle.plain_engine.proofs.run.run_to_end.Goals as goal

pub ask_roots-requires : goal.ask_roots-requires
ask_roots-requires c =
    let may = may_run c.args.checked.now c.args.plan c.program-program.ensures.formed c.program-program.ensures.valid in
    let unused : c.args.engine ≡ unused_engine (plan_of c.args.plan) = c.requires.unused in
    may_ask_all c.args.checked.now (plan_of c.args.plan) may c.args.engine unused

pub turns-requires : goal.turns-requires
turns-requires c =
    let may = may_run c.args.checked.now c.args.plan c.program-program.ensures.formed c.program-program.ensures.valid in
    let unused : c.args.engine ≡ unused_engine (plan_of c.args.plan) = c.requires.unused in
    let (r, idle) = asked_idles c.args.checked.now (plan_of c.args.plan) may c.args.engine unused c.args.columns.now c.ask_roots.new.self c.ask_roots.ensures in
    (plan_of c.args.plan, r, idle)

pub new-requires : goal.new-requires
new-requires c =
    let may = may_run c.args.checked.now c.args.plan c.program-program.ensures.formed c.program-program.ensures.valid in
    let unused : c.args.engine ≡ unused_engine (plan_of c.args.plan) = c.requires.unused in
    let (r, idle) = asked_idles c.args.checked.now (plan_of c.args.plan) may c.args.engine unused c.args.columns.now c.ask_roots.new.self c.ask_roots.ensures in
    let end = c.turns.ensures (plan_of c.args.plan) r idle in
    is_readable c.args.checked.now c.args.columns.now (plan_of c.args.plan) may c.turns.new.self end

pub returns-clause-sound : goal.returns-clause-sound
returns-clause-sound c =
    let may = may_run c.args.checked.now c.args.plan c.program-program.ensures.formed c.program-program.ensures.valid in
    let unused : c.args.engine ≡ unused_engine (plan_of c.args.plan) = c.requires.unused in
    let (r, idle) = asked_idles c.args.checked.now (plan_of c.args.plan) may c.args.engine unused c.args.columns.now c.ask_roots.new.self c.ask_roots.ensures in
    let end = c.turns.ensures (plan_of c.args.plan) r idle in
    subst (EndSound c.args.checked.now c.args.columns.now (plan_of c.args.plan)) (sym c.new.ensures) (end_sound c.args.checked.now c.args.columns.now (plan_of c.args.plan) may c.turns.new.self end)

pub returns-clause-answers : goal.returns-clause-answers
returns-clause-answers c =
    let may = may_run c.args.checked.now c.args.plan c.program-program.ensures.formed c.program-program.ensures.valid in
    let unused : c.args.engine ≡ unused_engine (plan_of c.args.plan) = c.requires.unused in
    let (r, idle) = asked_idles c.args.checked.now (plan_of c.args.plan) may c.args.engine unused c.args.columns.now c.ask_roots.new.self c.ask_roots.ensures in
    let end = c.turns.ensures (plan_of c.args.plan) r idle in
    subst (EndsAs c.args.checked.now c.args.columns.now (plan_of c.args.plan)) (sym c.new.ensures) (end_answers c.args.checked.now c.args.columns.now (plan_of c.args.plan) may c.turns.new.self end)

pub returns-clause-faithful : goal.returns-clause-faithful
returns-clause-faithful c =
    let may = may_run c.args.checked.now c.args.plan c.program-program.ensures.formed c.program-program.ensures.valid in
    let unused : c.args.engine ≡ unused_engine (plan_of c.args.plan) = c.requires.unused in
    let (r, idle) = asked_idles c.args.checked.now (plan_of c.args.plan) may c.args.engine unused c.args.columns.now c.ask_roots.new.self c.ask_roots.ensures in
    let end = c.turns.ensures (plan_of c.args.plan) r idle in
    subst (EndFaithful c.args.checked.now) (sym c.new.ensures) (end_faithful c.args.checked.now c.args.columns.now (plan_of c.args.plan) may c.turns.new.self end)

pub returns-clause-complete : goal.returns-clause-complete
returns-clause-complete c =
    let may = may_run c.args.checked.now c.args.plan c.program-program.ensures.formed c.program-program.ensures.valid in
    let unused : c.args.engine ≡ unused_engine (plan_of c.args.plan) = c.requires.unused in
    let (r, idle) = asked_idles c.args.checked.now (plan_of c.args.plan) may c.args.engine unused c.args.columns.now c.ask_roots.new.self c.ask_roots.ensures in
    let end = c.turns.ensures (plan_of c.args.plan) r idle in
    subst (EndComplete c.args.checked.now c.args.columns.now (plan_of c.args.plan)) (sym c.new.ensures) (end_complete c.args.checked.now c.args.columns.now (plan_of c.args.plan) may c.turns.new.self end)

pub returns-clause-counts : goal.returns-clause-counts
returns-clause-counts c =
    let may = may_run c.args.checked.now c.args.plan c.program-program.ensures.formed c.program-program.ensures.valid in
    let unused : c.args.engine ≡ unused_engine (plan_of c.args.plan) = c.requires.unused in
    let (r, idle) = asked_idles c.args.checked.now (plan_of c.args.plan) may c.args.engine unused c.args.columns.now c.ask_roots.new.self c.ask_roots.ensures in
    let end = c.turns.ensures (plan_of c.args.plan) r idle in
    subst (EndCounts c.args.checked.now c.args.columns.now) (sym c.new.ensures) (end_counts c.args.checked.now c.args.columns.now (plan_of c.args.plan) may c.turns.new.self end)
