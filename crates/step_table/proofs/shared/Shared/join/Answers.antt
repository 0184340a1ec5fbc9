use Rattle.step_table.proofs.shared.Shared.join.Goals as goal
use Rattle.std.proofs.Common.{◌≡◌, ℕ, ◌+◌, ◌≤◌, ◌∙◌, ◌++◌, length, sym, subst, ap, arith}
use Rattle.atomic_table.specs.Table.{Me, Joins}
use Rattle.table_core.specs.Addresses.{super}
use Rattle.table_core.specs.Views.{joined, spent, saw}
use Rattle.table_core.specs.declared.setup.Setup.{Setup}
use Rattle.table_core.specs.declared.view.View.{View}
use Rattle.schedule_rule.proofs.Rule.{holds_at}
use Rattle.schedule_rule.proofs.Joining.{joins}
use Rattle.schedule_rule.proofs.PoolKinds.{glances-at}
use Rattle.std.proofs.lemmas.List.{length-append}
use Rattle.step_table.specs.LastLooks.{KeepsNewest}
use Rattle.step_table.proofs.LooksFacts.{joined-length, keeps-joined}
use Rattle.step_table.proofs.Stepping.{some-words}

pub join_seat-requires : goal.join_seat-requires
join_seat-requires c =
    let t = c.args.self.now in let keep = c.args.keep.seat in let other = c.args.other.seat in (
      c.requires.table.0,
      c.requires.table.1,
      c.args.other.bare,
      some-words t.setup.plan t.table.shared.table_id.words t.sized,
      subst (λ (k : Setup). Joins (holds_at k) keep.id keep.me.0 other.id other.me.0 (joined keep.me.0 other.me.0) spent) (sym t.keyed)
          (joins t.setup keep.id keep.me.0 other.id other.me.0 (omega (arith, c.args.keep.shares)) c.requires.other),
    )

pub load_as-requires-clause-rule : goal.load_as-requires-clause-rule
load_as-requires-clause-rule c = glances-at c.args.self.now.setup c.join_seat.new.seat.id c.join_seat.new.seat.me.0 (super 0)

-- the parts of both are at most all parts
few : (kept more both : ℕ) (joined_parts : both ≡ more + kept) (most : both ≤ 4096) → more + kept ≤ 4096
few kept more both e most = omega arith

pub overflow_add-result : goal.overflow_add-result
overflow_add-result c =
    let both = ap (λ (me : Me (Unit {0}) View). me.0.parts) c.join_seat.ensures.2 in
    omega (arith, few c.args.keep.seat.me.0.parts c.args.other.seat.me.0.parts c.join_seat.new.seat.me.0.parts both c.load_as.ensures.told.1, c.args.keep.shares, c.args.other.shares)

pub overflow_add-result-2 : goal.overflow_add-result-2
overflow_add-result-2 c =
    let both = ap (λ (me : Me (Unit {0}) View). me.0.parts) c.join_seat.ensures.2 in
    omega (arith, few c.args.keep.seat.me.0.parts c.args.other.seat.me.0.parts c.join_seat.new.seat.me.0.parts both c.load_as.ensures.told.1, c.args.keep.shares, c.args.other.shares)

pub returns-clause-view : goal.returns-clause-view
returns-clause-view c =
    let both = ap (λ (me : Me (Unit {0}) View). me.0) c.join_seat.ensures.2 in
    record { found = c.load_as.result; view_is = c.load_as.ensures.told.0 ∙ ap (λ (v : View). saw (super 0) c.load_as.result v) both }

pub invariant_of-result-clause-ages : goal.invariant_of-result-clause-ages
invariant_of-result-clause-ages c =
    let keep = c.args.keep.seat.me.0 in let other = c.args.other.seat.me.0 in
    let both = c.load_as.ensures.told.0 ∙ ap (λ (v : View). saw (super 0) c.load_as.result v) (ap (λ (me : Me (Unit {0}) View). me.0) c.join_seat.ensures.2) in
    let looks = ap (λ (v : View). length v.looks) both in let old = ap (λ (v : View). v.old_looks) both in
    omega (arith, looks, old, c.args.keep.ages, joined-length keep other)

pub invariant_of-result-clause-looks : goal.invariant_of-result-clause-looks
invariant_of-result-clause-looks c =
    let keep = c.args.keep in let v = keep.seat.me.0 in let other = c.args.other.seat.me.0 in
    let both = c.load_as.ensures.told.0 ∙ ap (λ (v : View). saw (super 0) c.load_as.result v) (ap (λ (me : Me (Unit {0}) View). me.0) c.join_seat.ensures.2) in
    subst (λ (w : View). KeepsNewest keep.last w.old_looks w.looks) (sym both) (keeps-joined keep.last v other keep.ages keep.looks)

-- one of two passes has the turn at most
pub either-requires : goal.either-requires
either-requires c =
    let keep = c.args.keep in let other = c.args.other in
    let joined_view = ap (λ (me : Me (Unit {0}) View). me.0) c.join_seat.ensures.2 in
    let lengths = ap (λ (v : View). length v.turn) joined_view in
    omega (arith, c.load_as.ensures.told.2, lengths, length-append other.seat.me.0.turn keep.seat.me.0.turn, ap length keep.turns, ap length other.turns)

pub invariant_of-result-clause-turns : goal.invariant_of-result-clause-turns
invariant_of-result-clause-turns c =
    let keep = c.args.keep in let other = c.args.other in
    let joined_view = ap (λ (me : Me (Unit {0}) View). me.0) c.join_seat.ensures.2 in
    let both = c.load_as.ensures.told.0 ∙ ap (λ (v : View). saw (super 0) c.load_as.result v) joined_view in
    c.either.ensures ∙ (λ k. other.turns k ++ keep.turns k) ∙ sym (ap (λ (v : View). v.turn) both)

pub returns-clause-sound : goal.returns-clause-sound
returns-clause-sound c = c.load_as.ensures.sound.after
