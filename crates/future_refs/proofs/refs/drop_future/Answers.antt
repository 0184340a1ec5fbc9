use Rattle.future_refs.proofs.refs.drop_future.Goals as goal
use Rattle.std.proofs.Common.{ℕ, ◌<◌, ◌≤◌, true≢false, refl, sym, subst}
use Rattle.record_core.specs.Counting.{times}
use Rattle.table_core.specs.Addresses.{refs, units_of}
use Rattle.table_core.specs.declared.view.View.{View}
use Rattle.step_table.specs.Passes.{view}
use Rattle.future_refs.proofs.Dropping.{retires-one, has-back, frees-from, gives-back}

pub retire-block-requires-clause-hand : goal.retire-block-requires-clause-hand
retire-block-requires-clause-hand c =
    let less = c.in-Some.ensures.view in let u = c.args.future.unit in let last = less.last_is in
    record {
      near = subst (λ (w : ℕ). w < units_of c.args.shared.now.setup.plan) (sym last.unit_is) c.requires.may.has.near;
      there = subst (λ (w : ℕ). 1 ≤ times w (view c.less.new.pass).retiring) (sym last.unit_is)
          (subst (λ (v : View). 1 ≤ times u v.retiring) (sym less.view_is) (retires-one u less.found (view c.args.pass.now) (refs u) (last.exactly.0 refl)));
    }

pub release_block-requires-clause-hand : goal.release_block-requires-clause-hand
release_block-requires-clause-hand c =
    has-back c.args.shared.now.setup.plan c.in-Some.retiring c.less.new.pass c.retire-block.result c.retire-block.new.pass c.retire-block.ensures.block

pub returns-in-None-clause-view : goal.returns-in-None-clause-view
returns-in-None-clause-view c =
    let less = c.in-None.ensures.view in let last = less.last_is in
    record { found = less.found; more = λ ne. less.view_is; last = λ one. absurd (true≢false (sym (last.exactly.1 one))) }

pub returns-in-Some-clause-view : goal.returns-in-Some-clause-view
returns-in-Some-clause-view c =
    let less = c.in-Some.ensures.view in let last = less.last_is in
    record {
      found = less.found;
      more = λ ne. absurd (ne (last.exactly.0 refl));
      last = λ one. frees-from c.args.shared.now.setup.plan c.args.future.unit less.found (view c.args.pass.now) c.in-Some.retiring c.less.new.pass c.retire-block.new.pass c.retire-block.result
          c.release_block.new.pass last.unit_is one less.view_is c.retire-block.ensures.block c.release_block.ensures.view;
    }

pub returns-in-None-clause-hand : goal.returns-in-None-clause-hand
returns-in-None-clause-hand c = gives-back c.args.shared.now.setup.plan c.args.future.unit (view c.args.pass.now) (view c.less.new.pass) (returns-in-None-clause-view c)

pub returns-in-Some-clause-hand : goal.returns-in-Some-clause-hand
returns-in-Some-clause-hand c = gives-back c.args.shared.now.setup.plan c.args.future.unit (view c.args.pass.now) (view c.release_block.new.pass) (returns-in-Some-clause-view c)

pub returns-in-Some-clause-sound : goal.returns-in-Some-clause-sound
returns-in-Some-clause-sound c = record { before = c.in-Some.ensures.sound.before; after = c.release_block.ensures.sound.after }
