use Rattle.record_core.proofs.TurnFacts.{begun_under_way}
use Rattle.journal_bench.proofs.take_turn.Goals as goal

pub finish-requires-clause-under_way : goal.finish-requires-clause-under_way
finish-requires-clause-under_way c =
    begun_under_way c.args.journal.now c.accept.new.self c.begin.new.self c.in_ok-number.number c.in_ok-number.ensures.number c.in_ok-number.ensures.accepted
    c.begin.ensures.begun c.begin.ensures.kept
