use Rattle.wait_lists.proofs.lists.join_list.Goals as goal
use Rattle.std.proofs.Common.{◌∙◌, refl, sym, subst}
use Rattle.step_table.specs.declared.record_tokens.Linkable.{Linkable}
use Rattle.step_table.specs.Passes.{view}
use Rattle.wait_lists.specs.Joining.{MayTry, Waits}
use Rattle.wait_lists.proofs.JoinFacts.{IsJoining, join-starts, join-waits, join-goes-on, listed-open, join-closed, unlisted, may-try}

pub tries-init : goal.tries-init
tries-init c = record {
  same = c.see_head-seen.ensures.pass;
  sound = c.see_head-seen.ensures.sound;
  waiter = refl;
  joining = join-starts c.args.shared.now.setup.plan c.args.predecessor.now.unit c.args.waiter.unit c.args.pass.now c.see_head-seen.result c.see_head-seen.new.pass c.see_head-seen.ensures.head;
}

pub try_join-requires-clause-may : goal.try_join-requires-clause-may
try_join-requires-clause-may c =
    let g = c.args.shared.now.setup.plan in let joining = c.tries.invariant.joining in let u = c.args.predecessor.now.unit in
    subst (λ (x : Linkable). MayTry g u x.unit c.tries.seen (view c.tries.pass)) (sym c.tries.invariant.waiter)
    (may-try g u c.args.waiter.unit (view c.args.pass.now) (view c.tries.pass) c.tries.seen joining (listed-open c.tries.seen c.in-Listed.first c.in-Listed.length c.in-Listed.is joining.is_head.fits) c.requires.may)

pub returns-in-Ok-clause-answer : goal.returns-in-Ok-clause-answer
returns-in-Ok-clause-answer c =
    let g = c.args.shared.now.setup.plan in let u = c.args.predecessor.now.unit in let old = view c.args.pass.now in let joining = c.tries.invariant.joining in
    let its = subst (λ (x : Linkable). IsJoining g u x.unit old (view c.tries.pass) c.tries.seen) (sym c.tries.invariant.waiter) joining in
    subst (λ (x : Linkable). Waits u x.unit old (view c.try_join.new.pass)) c.tries.invariant.waiter
    (join-waits g u c.tries.waiter old c.tries.pass c.try_join.new.pass c.tries.seen its (listed-open c.tries.seen c.in-Listed.first c.in-Listed.length c.in-Listed.is joining.is_head.fits) c.in-Ok.ensures.tried)

pub returns-in-Ok-clause-sound : goal.returns-in-Ok-clause-sound
returns-in-Ok-clause-sound c = record { before = c.tries.invariant.sound.before; after = c.in-Ok.ensures.sound.after }

pub tries-preserved : goal.tries-preserved
tries-preserved c =
    let g = c.args.shared.now.setup.plan in let u = c.args.predecessor.now.unit in let old = view c.args.pass.now in let joining = c.tries.invariant.joining in
    let its = subst (λ (x : Linkable). IsJoining g u x.unit old (view c.tries.pass) c.tries.seen) (sym c.tries.invariant.waiter) joining in
    let loses = c.in-Err.ensures.tried in let was = c.tries.invariant.same in let now = c.in-Err.ensures.pass in
    record {
      same = record { table = now.table ∙ was.table; id = now.id ∙ was.id; splits = now.splits ∙ was.splits; number = now.number ∙ was.number; held_is = now.held_is ∙ was.held_is };
      sound = record { before = c.tries.invariant.sound.before; after = c.in-Err.ensures.sound.after };
      waiter = loses.back ∙ c.tries.invariant.waiter;
      joining = subst (λ (x : Linkable). IsJoining g u x.unit old (view c.try_join.new.pass) c.in-Err.later) c.tries.invariant.waiter
          (join-goes-on g u c.tries.waiter old c.tries.pass c.try_join.new.pass c.tries.seen its (listed-open c.tries.seen c.in-Listed.first c.in-Listed.length c.in-Listed.is joining.is_head.fits) _ loses);
    }

pub returns-clause-answer : goal.returns-clause-answer
returns-clause-answer c =
    let g = c.args.shared.now.setup.plan in let u = c.args.predecessor.now.unit in let old = view c.args.pass.now in let now = view c.tries.pass in
    (c.tries.invariant.waiter, (join-closed g u c.args.waiter.unit old now c.tries.seen c.tries.invariant.joining (unlisted c.tries.seen c.in_default.not-Listed)).0)
