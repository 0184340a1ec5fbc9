use Rattle.std.proofs.Common.{inl, inr, refl, sym, subst, true≢false}
use Rattle.kt_words.specs.declared.plan.Plan.{Plan}
use Rattle.kt_words.specs.SuperWords.{packed_super}
use Rattle.table_core.specs.Addresses.{super}
use Rattle.memory_pool.specs.Searches.{IsFull}
use Rattle.step_table.specs.Passes.{view}
use Rattle.memory_pool.proofs.Sounding.{sound-next, sound-on}
use Rattle.memory_pool.proofs.Searching.{sees-self, sees-on, look-sees, step-sees, at-self, at-look, at-step, finds-no-room, finds-place, place-later}
use Rattle.memory_pool.proofs.search.try_in.Goals as goal

pub loop-init : goal.loop-init
loop-init g c = (tt, tt, sees-self c.args.pass.now, at-self c.args.superblock c.args.pass.now, inl (refl, refl))

pub returns-then-not-has_room-clause-later : goal.returns-then-not-has_room-clause-later
returns-then-not-has_room-clause-later g c =
    (sees-on c.args.pass.now c.loop.pass c.look-seen.new.pass c.loop.invariant.2
    (look-sees c.args.superblock c.args.class c.look-seen.result c.loop.pass c.look-seen.new.pass c.look-seen.ensures.pass c.look-seen.ensures.view)).later

pub returns-then-not-has_room-clause-answer : goal.returns-then-not-has_room-clause-answer
returns-then-not-has_room-clause-answer g c =
    let full = subst (λ (p : Plan). IsFull p c.look-seen.result c.args.class) c.plan-plan.ensures (c.if-not-has_room.ensures.no (λ h. absurd (true≢false (sym h)))) in
    finds-no-room c.args.shared.now.setup.plan c.args.superblock c.args.class c.look-seen.result c.args.pass.now c.loop.pass c.look-seen.new.pass c.look-seen.ensures.word c.loop.invariant.2
    c.loop.invariant.3 c.look-seen.ensures.pass c.look-seen.ensures.view full

pub returns-then-seen-class-clause-later : goal.returns-then-seen-class-clause-later
returns-then-seen-class-clause-later g c =
    (sees-on c.args.pass.now c.loop.pass c.look-seen.new.pass c.loop.invariant.2
    (look-sees c.args.superblock c.args.class c.look-seen.result c.loop.pass c.look-seen.new.pass c.look-seen.ensures.pass c.look-seen.ensures.view)).later

pub returns-then-seen-class-clause-answer : goal.returns-then-seen-class-clause-answer
returns-then-seen-class-clause-answer g c =
    let looked = sees-on c.args.pass.now c.loop.pass c.look-seen.new.pass c.loop.invariant.2
    (look-sees c.args.superblock c.args.class c.look-seen.result c.loop.pass c.look-seen.new.pass c.look-seen.ensures.pass c.look-seen.ensures.view) in
    (c.if-not-changes.true, refl, looked.stays)

pub returns-in-Ok-clause-answer : goal.returns-in-Ok-clause-answer
returns-in-Ok-clause-answer g c =
    let looked = sees-on c.args.pass.now c.loop.pass c.look-seen.new.pass c.loop.invariant.2
    (look-sees c.args.superblock c.args.class c.look-seen.result c.loop.pass c.look-seen.new.pass c.look-seen.ensures.pass c.look-seen.ensures.view) in
    finds-place c.args.superblock c.args.class c.look-seen.result c.args.pass.now c.look-seen.new.pass c.reserve.new.pass c.in-Ok.reserved looked c.in-Ok.ensures.ok

pub returns-in-Ok-clause-later : goal.returns-in-Ok-clause-later
returns-in-Ok-clause-later g c =
    let looked = sees-on c.args.pass.now c.loop.pass c.look-seen.new.pass c.loop.invariant.2
    (look-sees c.args.superblock c.args.class c.look-seen.result c.loop.pass c.look-seen.new.pass c.look-seen.ensures.pass c.look-seen.ensures.view) in
    place-later c.args.superblock c.args.class c.look-seen.result c.args.pass.now c.look-seen.new.pass c.reserve.new.pass c.in-Ok.reserved looked c.in-Ok.ensures.ok

pub returns-then-not-has_room-clause-sound : goal.returns-then-not-has_room-clause-sound
returns-then-not-has_room-clause-sound g c =
    sound-next c.args.shared.now.setup (view c.args.pass.now) (view c.loop.pass) 0 (view c.look-seen.new.pass) c.loop.invariant.4 c.look-seen.ensures.sound

pub returns-then-seen-class-clause-sound : goal.returns-then-seen-class-clause-sound
returns-then-seen-class-clause-sound g c =
    sound-next c.args.shared.now.setup (view c.args.pass.now) (view c.loop.pass) 0 (view c.look-seen.new.pass) c.loop.invariant.4 c.look-seen.ensures.sound

pub returns-in-Ok-clause-sound : goal.returns-in-Ok-clause-sound
returns-in-Ok-clause-sound g c =
    sound-on c.args.shared.now.setup (view c.args.pass.now) (view c.look-seen.new.pass) (view c.reserve.new.pass) (sound-next c.args.shared.now.setup (view c.args.pass.now) (view c.loop.pass) 0 (view c.look-seen.new.pass) c.loop.invariant.4 c.look-seen.ensures.sound) c.in-Ok.ensures.sound

pub loop-preserved : goal.loop-preserved
loop-preserved g c =
    let looked = sees-on c.args.pass.now c.loop.pass c.look-seen.new.pass c.loop.invariant.2
    (look-sees c.args.superblock c.args.class c.look-seen.result c.loop.pass c.look-seen.new.pass c.look-seen.ensures.pass c.look-seen.ensures.view) in
    let at = at-look c.args.superblock c.args.class c.look-seen.result c.args.pass.now c.loop.pass c.look-seen.new.pass c.loop.invariant.3 c.look-seen.ensures.view in
    let lost = c.in_default.ensures.err.view_is in let word = packed_super c.in_default.field-0 in (
      tt,
      tt,
      sees-on c.args.pass.now c.look-seen.new.pass c.reserve.new.pass looked (step-sees (super c.args.superblock) word c.look-seen.new.pass c.reserve.new.pass c.in_default.ensures.pass lost),
      at-step c.args.superblock word (super c.args.superblock) c.args.pass.now c.look-seen.new.pass c.reserve.new.pass at lost,
      inr (sound-on c.args.shared.now.setup (view c.args.pass.now) (view c.look-seen.new.pass) (view c.reserve.new.pass) (sound-next c.args.shared.now.setup (view c.args.pass.now) (view c.loop.pass) 0 (view c.look-seen.new.pass) c.loop.invariant.4 c.look-seen.ensures.sound) c.in_default.ensures.sound),
    )
