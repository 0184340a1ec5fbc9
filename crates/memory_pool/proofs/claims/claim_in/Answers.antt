use Rattle.std.proofs.Common.{◌/◌, ◌∙◌, inl, inr, refl, arith}
use Rattle.table_core.specs.Addresses.{bits}
use Rattle.step_table.specs.Passes.{view}
use Rattle.memory_pool.proofs.Sounding.{sound-next}
use Rattle.memory_pool.proofs.Searching.{sees-self, sees-on, step-sees, has-place-on, bit-on, turns-into, block-later}
use Rattle.memory_pool.proofs.claims.claim_in.Goals as goal

pub loop-init : goal.loop-init
loop-init g c = (tt, tt, sees-self c.args.pass.now, refl, omega (arith, c.cap-room.ensures.room), inl (refl, refl))

pub claim-requires-clause-table : goal.claim-requires-clause-table
claim-requires-clause-table g c = c.loop.invariant.2.same.table ∙ c.requires.table

pub claim-requires-clause-hand : goal.claim-requires-clause-hand
claim-requires-clause-hand g c = has-place-on c.args.shared.now.setup.plan c.args.reserved c.loop.reserved c.args.pass.now c.loop.pass c.loop.invariant.2 c.loop.invariant.3 c.requires.hand

pub claim-requires-clause-bit : goal.claim-requires-clause-bit
claim-requires-clause-bit g c =
    bit-on c.args.shared.now.setup.plan c.plan.result c.args.reserved c.loop.reserved c.loop.bit c.cap-room.result c.class.result c.plan.ensures c.class.ensures c.cap-room.ensures.quotient
    c.loop.invariant.3 c.loop.invariant.4

pub returns-in-Ok-clause-block : goal.returns-in-Ok-clause-block
returns-in-Ok-clause-block g c =
    let below = bit-on c.args.shared.now.setup.plan c.plan.result c.args.reserved c.loop.reserved c.loop.bit c.cap-room.result c.class.result c.plan.ensures c.class.ensures c.cap-room.ensures.quotient
    c.loop.invariant.3 c.loop.invariant.4 in
    turns-into c.args.shared.now.setup.plan c.args.reserved c.loop.reserved c.loop.bit c.args.pass.now c.loop.pass c.claim.new.pass c.in-Ok.block c.loop.invariant.2 c.loop.invariant.3 below c.in-Ok.ensures.ok

pub returns-in-Ok-clause-later : goal.returns-in-Ok-clause-later
returns-in-Ok-clause-later g c =
    block-later c.args.shared.now.setup.plan c.loop.reserved c.loop.bit c.args.pass.now c.loop.pass c.claim.new.pass c.in-Ok.block c.loop.invariant.2 c.in-Ok.ensures.ok

pub returns-in-Ok-clause-sound : goal.returns-in-Ok-clause-sound
returns-in-Ok-clause-sound g c = sound-next c.args.shared.now.setup (view c.args.pass.now) (view c.loop.pass) 0 (view c.claim.new.pass) c.loop.invariant.5 c.in-Ok.ensures.sound

pub loop-preserved : goal.loop-preserved
loop-preserved g c =
    let lost = c.in-Err.ensures.err in (
      tt,
      tt,
      sees-on c.args.pass.now c.loop.pass c.claim.new.pass c.loop.invariant.2
          (step-sees (bits c.loop.reserved.superblock (c.loop.bit / 64)) c.in-Err.found c.loop.pass c.claim.new.pass c.in-Err.ensures.pass lost.view_is),
      lost.back ∙ c.loop.invariant.3,
      c.next_bit-bit.ensures,
      inr (sound-next c.args.shared.now.setup (view c.args.pass.now) (view c.loop.pass) 0 (view c.claim.new.pass) c.loop.invariant.5 c.in-Err.ensures.sound),
    )
