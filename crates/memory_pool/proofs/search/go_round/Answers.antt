use Rattle.std.proofs.Common.{◌≡◌, ℕ, ◌<◌, inl, inr, refl, subst, ap, arith}
use Rattle.kt_words.specs.declared.plan.Plan.{Plan}
use Rattle.step_table.specs.Passes.{view, plan}
use Rattle.memory_pool.specs.Searches.{Follows}
use Rattle.memory_pool.proofs.Sounding.{sound-next, sound-after}
use Rattle.memory_pool.proofs.Searching.{sees-self, sees-on, sees-more-on, try-sees}
use Rattle.memory_pool.proofs.GoingRound.{SawNoneAhead, SawSoFar, saw-none-yet, saw-next, saw-all, ahead-next}
use Rattle.memory_pool.proofs.search.go_round.Goals as goal

pub loop-turn-init : goal.loop-turn-init
loop-turn-init g c =
    let p = plan c.args.shared.now in let v = view c.args.pass.now in (
      sees-self c.args.pass.now,
      c.requires.start,
      inl (omega arith),
      saw-none-yet p c.args.class c.args.start v.looks,
      inl (refl, refl),
    )

pub returns-in-Place-clause-later : goal.returns-in-Place-clause-later
returns-in-Place-clause-later g c =
    sees-more-on (view c.args.pass.now) (view c.loop-turn.pass) (view c.try_in-found.new.pass) c.loop-turn.invariant.0.later c.try_in-found.ensures.later

pub returns-in-Place-clause-sound : goal.returns-in-Place-clause-sound
returns-in-Place-clause-sound g c =
    sound-next c.args.shared.now.setup (view c.args.pass.now) (view c.loop-turn.pass) c.loop-turn.turn (view c.try_in-found.new.pass) c.loop-turn.invariant.4 c.try_in-found.ensures.sound

pub loop-turn-preserved : goal.loop-turn-preserved
loop-turn-preserved g c =
    let p = plan c.args.shared.now in let n = p.geometry.superblocks in let old = c.loop-turn.pass in let new = c.try_in-found.new.pass in
    let as_planned = ap (λ (q : Plan). q.geometry.superblocks) c.plan-superblocks.ensures in
    let tried = c.try_in-found.ensures in let kept = c.loop-turn.invariant in let here = c.loop-turn.superblock in
    let only = try-sees p here c.args.class c.args.changes old new c.try_in-found.result tried.pass tried.later tried.answer c.in_default.not-Place in
    let follows = subst (λ (m : ℕ). Follows m here c.next-superblock.result) as_planned c.next-superblock.ensures.after in
    let turn = subst (λ (m : ℕ). c.loop-turn.turn < m) as_planned c.loop-turn-test.true in (
      sees-on c.args.pass.now old new kept.0 only,
      subst (λ (m : ℕ). c.next-superblock.result < m) as_planned c.next-superblock.ensures.inside,
      ahead-next n c.args.start c.loop-turn.turn here c.next-superblock.result c.requires.start turn kept.1 kept.2 follows,
      saw-next p c.args.class c.args.changes c.args.start c.loop-turn.turn here (view c.args.pass.now).looks old new c.loop-turn.empty c.try_in-found.result c.first_empty-empty.result
          kept.1 kept.2 kept.3 tried.answer c.in_default.not-Place c.first_empty-empty.ensures,
      inr (sound-next c.args.shared.now.setup (view c.args.pass.now) (view c.loop-turn.pass) c.loop-turn.turn (view c.try_in-found.new.pass) c.loop-turn.invariant.4 c.try_in-found.ensures.sound),
    )

pub returns-in-Some-clause-sound : goal.returns-in-Some-clause-sound
returns-in-Some-clause-sound g c =
    let as_planned = ap (λ (q : Plan). q.geometry.superblocks) c.plan-superblocks.ensures in
    sound-after c.args.shared.now.setup (view c.args.pass.now) (view c.loop-turn.pass) c.loop-turn.turn
    (omega (arith, c.loop-turn-test.false, c.loop-turn.auto.turn-end, as_planned, c.requires.start)) c.loop-turn.invariant.4

pub returns-in-None-clause-sound : goal.returns-in-None-clause-sound
returns-in-None-clause-sound g c =
    let as_planned = ap (λ (q : Plan). q.geometry.superblocks) c.plan-superblocks.ensures in
    sound-after c.args.shared.now.setup (view c.args.pass.now) (view c.loop-turn.pass) c.loop-turn.turn
    (omega (arith, c.loop-turn-test.false, c.loop-turn.auto.turn-end, as_planned, c.requires.start)) c.loop-turn.invariant.4

pub returns-in-None-clause-answer : goal.returns-in-None-clause-answer
returns-in-None-clause-answer g c =
    let p = plan c.args.shared.now in let old = (view c.args.pass.now).looks in let new = (view c.loop-turn.pass).looks in
    let as_planned = ap (λ (q : Plan). q.geometry.superblocks) c.plan-superblocks.ensures in
    let all : c.loop-turn.turn ≡ p.geometry.superblocks = omega (arith, c.loop-turn-test.false, c.loop-turn.auto.turn-end, as_planned) in
    let saw = subst (SawSoFar p c.args.class c.args.changes c.args.start c.loop-turn.turn old new) c.in-None.is c.loop-turn.invariant.3 in
    record {
      stays = c.loop-turn.invariant.0.stays;
      saw = saw-all p c.args.class c.args.start old new c.requires.start (subst (λ (k : ℕ). SawNoneAhead p c.args.class c.args.start k old new) all saw);
    }
