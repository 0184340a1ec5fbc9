use Rattle.step_table.proofs.shared.Shared.split.Goals as goal
use Rattle.std.proofs.Common.{sym, subst, arith}
use Rattle.atomic_table.specs.Table.{Splits}
use Rattle.table_core.specs.Views.{kept_half, idle_half}
use Rattle.table_core.specs.declared.setup.Setup.{Setup}
use Rattle.schedule_rule.proofs.Rule.{holds_at}
use Rattle.schedule_rule.proofs.Splitting.{splits}
use Rattle.step_table.proofs.Stepping.{some-words}

pub split_seat-second-requires : goal.split_seat-second-requires
split_seat-second-requires c =
    let t = c.args.self.now in let seat = c.args.pass.seat in let v = seat.me.0 in (
      c.requires.table,
      some-words t.setup.plan t.table.shared.table_id.words t.sized,
      subst (λ (k : Setup). Splits (holds_at k) seat.id v (kept_half v) (idle_half v)) (sym t.keyed) (splits t.setup seat.id v (omega (arith, c.args.pass.shares, c.requires.splits))),
    )
