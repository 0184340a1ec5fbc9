use Rattle.std.proofs.Common.{◌+◌, ◌*◌, ◌<◌, ◌∙◌, ap, subst, arith}
use Rattle.kt_words.specs.Capacity.{block_units}
use Rattle.pool_core.specs.Blocks.{BlockState}
use Rattle.pool_core.specs.Pool.{with_superblock}
use Rattle.pool_core.proofs.Giving.{ready_seen, IsSound-given}
use Rattle.pool_core.proofs.Units.{block_ends, unit_fits, shifted}
use Rattle.pool_core.proofs.VacancyFacts.{change_given}
use Rattle.pool_core.proofs.plain_pool.PlainPool.give.Goals as goal

pub give-bit-requires-clause-counted : goal.give-bit-requires-clause-counted
give-bit-requires-clause-counted c =
    let ready = ready_seen c.args.class c.args.superblock c.self.view_is c.self.invariant.0 c.requires.class c.requires.chosen c.index_mut-state.ensures.value in
    ready.kept.counted

pub give-bit-requires-clause-ever_fits : goal.give-bit-requires-clause-ever_fits
give-bit-requires-clause-ever_fits c =
    let ready = ready_seen c.args.class c.args.superblock c.self.view_is c.self.invariant.0 c.requires.class c.requires.chosen c.index_mut-state.ensures.value in
    ready.kept.ever_fits

pub give-bit-requires-clause-within : goal.give-bit-requires-clause-within
give-bit-requires-clause-within c =
    let ready = ready_seen c.args.class c.args.superblock c.self.view_is c.self.invariant.0 c.requires.class c.requires.chosen c.index_mut-state.ensures.value in
    omega (arith, ready.size, c.cap-room.ensures.quotient)

pub give-bit-requires-clause-below : goal.give-bit-requires-clause-below
give-bit-requires-clause-below c =
    let ready = ready_seen c.args.class c.args.superblock c.self.view_is c.self.invariant.0 c.requires.class c.requires.chosen c.index_mut-state.ensures.value in
    omega (arith, ready.below, c.cap-room.ensures.quotient)

pub note_change-requires-clause-superblock : goal.note_change-requires-clause-superblock
note_change-requires-clause-superblock c =
    let ready = ready_seen c.args.class c.args.superblock c.self.view_is c.self.invariant.0 c.requires.class c.requires.chosen c.index_mut-state.ensures.value in
    ready.within

pub note_change-requires-clause-was : goal.note_change-requires-clause-was
note_change-requires-clause-was c =
    let ready = ready_seen c.args.class c.args.superblock c.self.view_is c.self.invariant.0 c.requires.class c.requires.chosen c.index_mut-state.ensures.value in
    omega (arith, ready.kept.class_fits, c.class-was.ensures)

pub overflow_mul-unit : goal.overflow_mul-unit
overflow_mul-unit c =
    let ready = ready_seen c.args.class c.args.superblock c.self.view_is c.self.invariant.0 c.requires.class c.requires.chosen c.index_mut-state.ensures.value in
    omega (arith, unit_fits c.args.superblock c.self.inside.geometry.units 0 ready.within c.self.inside.geometry.units_fit.1 (omega arith))

pub overflow_add-unit : goal.overflow_add-unit
overflow_add-unit c =
    let ready = ready_seen c.args.class c.args.superblock c.self.view_is c.self.invariant.0 c.requires.class c.requires.chosen c.index_mut-state.ensures.value in
    let ends = block_ends c.self.inside.geometry.units c.args.class c.give-bit.result c.cap-room.result c.cap-room.ensures.whole c.give-bit.ensures.inside in
    rw (shifted c.self.inside.geometry.units c.args.class c.give-bit.result c.cap-room.result c.cap-room.ensures.whole c.give-bit.ensures.inside c.self.inside.geometry.units_fit.1)
    (omega (arith, unit_fits c.args.superblock c.self.inside.geometry.units (c.give-bit.result * block_units c.args.class) ready.within c.self.inside.geometry.units_fit.1 (omega (arith, ends, c.self.inside.geometry.units_fit.1))))

pub invariant_of-self : goal.invariant_of-self
invariant_of-self c =
    let ready = ready_seen c.args.class c.args.superblock c.self.view_is c.self.invariant.0 c.requires.class c.requires.chosen c.index_mut-state.ensures.value in (
      rw c.give-bit.ensures.after
          (IsSound-given (record { units = c.self.inside.geometry.units; superblocks = c.self.inside.superblocks.items }) c.args.class c.args.superblock c.give-bit.result
          c.index_mut-state.result.now c.self.invariant.0 c.requires.class ready c.give-bit.ensures.lowest
          (subst (λ n. c.give-bit.result < n) c.cap-room.ensures.quotient c.give-bit.ensures.inside)),
      rw c.note_change.ensures
          (change_given c.self.inside.geometry.units c.args.superblock c.args.class c.class-was.result c.give-bit.result c.cap-room.result
          c.self.inside.superblocks.items c.self.inside.vacancies c.index_mut-state.result.now c.give-bit.new.self c.has_room-has_room.result c.is_empty-was_empty.result
          c.self.invariant.1 c.self.invariant.0 c.requires.class ready c.class-was.ensures c.cap-room.ensures.quotient c.give-bit.ensures.after c.has_room-has_room.ensures c.is_empty-was_empty.ensures),
      c.self.invariant.2,
    )

pub returns : goal.returns
returns c =
    let ready = ready_seen c.args.class c.args.superblock c.self.view_is c.self.invariant.0 c.requires.class c.requires.chosen c.index_mut-state.ensures.value in
    let unit = shifted c.self.inside.geometry.units c.args.class c.give-bit.result c.cap-room.result c.cap-room.ensures.whole c.give-bit.ensures.inside c.self.inside.geometry.units_fit.1 in
    rw (← c.self.view_is) (record {
      place = c.args.superblock;
      bit = c.give-bit.result;
      was = c.index_mut-state.result.now;
      chosen = ready.chosen;
      lowest = c.give-bit.ensures.lowest;
      block_is = c.new.ensures ∙ ap (λ offset. let b : BlockState = record { unit = c.args.superblock * c.self.inside.geometry.units + offset; class = c.args.class } in b) unit;
      after = ap (with_superblock (record { units = c.self.inside.geometry.units; superblocks = c.self.inside.superblocks.items }) c.args.superblock) c.give-bit.ensures.after;
    })
