use Rattle.std.proofs.Common.{◌∙◌, inr, ℕ, None, sym, ap, subst}
use Rattle.std.specs.List.{filter_map}
use Rattle.task_syntax.specs.declared.program.Program.{Program}
use Rattle.frame_code.specs.Units.{named_in}
use Rattle.frame_code.specs.Words.{unit_named}
use Rattle.step_table.specs.Passes.{view}
use Rattle.step_table.specs.RecordHands.{RunAt}
use Rattle.step_table.specs.declared.record_tokens.Chain.{Chain}
use Rattle.step_table.specs.declared.record_tokens.Finishing.{Finishing}
use Rattle.schedule_core.specs.Completing.{WritesResult}
use Rattle.schedule_core.proofs.Ends.{may-finish, may-close_list, may-close, may-drop, completes}
use Rattle.schedule_core.proofs.completing.complete.Goals as goal

pub write_result-requires-clause-may : goal.write_result-requires-clause-may
write_result-requires-clause-may c =
    let s = c.requires.may.in_step in
    inr (s.run, subst (λ (u : ℕ). RunAt c.args.shared.now.setup.plan u (view c.args.pass.now) s.run) (sym c.unit.ensures) s.at, tt)

pub finish-finishing-requires-clause-may : goal.finish-finishing-requires-clause-may
finish-finishing-requires-clause-may c =
    let any : Finishing = record { unit = 0 } in let none : Chain = record { first = None; length = 0 } in let p = c.args.pass.now in
    may-finish c.args.shared.now.setup c.args.running c.args.outcome c.args.pass.now c.write_result.new.pass p p p p any any none c.ending_of.result c.requires.may
    (subst (λ (u : ℕ). WritesResult u c.args.outcome (view c.args.pass.now) (view c.write_result.new.pass)) c.unit.ensures c.write_result.ensures.written) c.ending_of.ensures

pub close_list-requires-clause-hand : goal.close_list-requires-clause-hand
close_list-requires-clause-hand c =
    let none : Chain = record { first = None; length = 0 } in let p = c.args.pass.now in
    may-close_list c.args.shared.now.setup c.args.running c.args.outcome c.args.pass.now c.write_result.new.pass c.finish-finishing.new.pass p p p c.finish-finishing.result c.finish-finishing.result none c.ending_of.result
    c.requires.may (subst (λ (u : ℕ). WritesResult u c.args.outcome (view c.args.pass.now) (view c.write_result.new.pass)) c.unit.ensures c.write_result.ensures.written) c.ending_of.ensures c.finish-finishing.ensures.done

pub close_done-requires-clause-may : goal.close_done-requires-clause-may
close_done-requires-clause-may c =
    let p = c.args.pass.now in
    may-close c.args.shared.now.setup c.args.running c.args.outcome c.args.pass.now c.write_result.new.pass c.finish-finishing.new.pass c.close_list.new.pass p p c.finish-finishing.result c.close_list.result.0 c.close_list.result.1
    c.ending_of.result c.requires.may (subst (λ (u : ℕ). WritesResult u c.args.outcome (view c.args.pass.now) (view c.write_result.new.pass)) c.unit.ensures c.write_result.ensures.written) c.ending_of.ensures
    c.finish-finishing.ensures.done c.close_list.ensures.chain

pub drop_named-requires-clause-may : goal.drop_named-requires-clause-may
drop_named-requires-clause-may c =
    let p = c.args.pass.now in
    may-drop c.args.shared.now.setup c.args.running c.args.outcome c.args.pass.now c.write_result.new.pass c.finish-finishing.new.pass c.close_list.new.pass c.close_done.new.pass p c.finish-finishing.result
    c.close_list.result.0 c.close_list.result.1 c.ending_of.result c.requires.may
    (subst (λ (u : ℕ). WritesResult u c.args.outcome (view c.args.pass.now) (view c.write_result.new.pass)) c.unit.ensures c.write_result.ensures.written) c.ending_of.ensures c.finish-finishing.ensures.done
    c.close_list.ensures.chain c.close_done.ensures.closed (filter_map unit_named c.naming_words.result.now)
    (c.naming_words.ensures ∙ ap (λ (q : Program). named_in q c.args.running.frame.items) c.requires.code) c.finish-finishing.ensures.sound.before

pub returns-clause-done : goal.returns-clause-done
returns-clause-done c =
    completes c.args.shared.now.setup c.args.running c.args.outcome c.args.pass.now c.write_result.new.pass c.finish-finishing.new.pass c.close_list.new.pass c.close_done.new.pass c.drop_named.new.pass
    c.finish-finishing.result c.close_list.result.0 c.close_list.result.1 c.ending_of.result c.requires.may
    (subst (λ (u : ℕ). WritesResult u c.args.outcome (view c.args.pass.now) (view c.write_result.new.pass)) c.unit.ensures c.write_result.ensures.written) c.ending_of.ensures c.finish-finishing.ensures.done
    c.close_list.ensures.chain c.close_done.ensures.closed (filter_map unit_named c.naming_words.result.now)
    (c.naming_words.ensures ∙ ap (λ (q : Program). named_in q c.args.running.frame.items) c.requires.code) c.finish-finishing.ensures.sound.before c.drop_named.ensures.dropped
