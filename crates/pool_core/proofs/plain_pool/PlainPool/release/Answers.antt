use Rattle.std.proofs.Common.{◌≡◌, ◌↔◌, true, refl, sym, subst, ◌∙◌, ap, arith}
use Rattle.std.proofs.lemmas.Option.{slice_get_within}
use Rattle.pool_core.specs.Pool.{PoolState}
use Rattle.pool_core.specs.Blocks.{BlockState}
use Rattle.pool_core.specs.Superblocks.{HasRoom, taken_back}
use Rattle.pool_core.proofs.Out.{Removes-taken_back}
use Rattle.pool_core.proofs.Taking.{out_seen, found_seen, place_of, bit_of, IsSound-taken_back}
use Rattle.pool_core.proofs.VacancyFacts.{change_taken_back}
use Rattle.pool_core.proofs.plain_pool.PlainPool.release.Goals as goal

pub take_back-requires-clause-counted : goal.take_back-requires-clause-counted
take_back-requires-clause-counted c =
    let out = out_seen c.requires c.self.view_is in
    let at = found_seen c.requires c.self.view_is c.self.invariant.0 c.unit.ensures c.class-class.ensures c.parted-place.ensures.superblock c.parted-place.ensures.within c.index_mut-superblock.ensures.value in
    rw at.now_is (c.self.invariant.0.kept c.requires.place c.requires.superblock out.there).counted

pub take_back-requires-clause-out : goal.take_back-requires-clause-out
take_back-requires-clause-out c =
    let out = out_seen c.requires c.self.view_is in
    let at = found_seen c.requires c.self.view_is c.self.invariant.0 c.unit.ensures c.class-class.ensures c.parted-place.ensures.superblock c.parted-place.ensures.within c.index_mut-superblock.ensures.value in
    rw (at.now_is, at.bit_is) out.is_set

pub note_change-requires-clause-superblock : goal.note_change-requires-clause-superblock
note_change-requires-clause-superblock c =
    let out = out_seen c.requires c.self.view_is in
    let at = found_seen c.requires c.self.view_is c.self.invariant.0 c.unit.ensures c.class-class.ensures c.parted-place.ensures.superblock c.parted-place.ensures.within c.index_mut-superblock.ensures.value in
    omega (arith, at.place_is, slice_get_within c.self.inside.superblocks.items c.requires.place c.requires.superblock out.there, c.self.invariant.0.few)

pub cap-room-requires : goal.cap-room-requires
cap-room-requires c =
    let out = out_seen c.requires c.self.view_is in
    let class : c.class-class.result ≡ c.requires.superblock.class = c.class-class.ensures ∙ ap (λ (b : BlockState). b.class) out.block_is in
    omega (arith, class, (c.self.invariant.0.kept c.requires.place c.requires.superblock out.there).class_fits)

pub note_change-requires-clause-was : goal.note_change-requires-clause-was
note_change-requires-clause-was c =
    let out = out_seen c.requires c.self.view_is in
    let class : c.class-class.result ≡ c.requires.superblock.class = c.class-class.ensures ∙ ap (λ (b : BlockState). b.class) out.block_is in
    omega (arith, class, (c.self.invariant.0.kept c.requires.place c.requires.superblock out.there).class_fits)

pub note_change-requires-clause-class : goal.note_change-requires-clause-class
note_change-requires-clause-class c =
    let out = out_seen c.requires c.self.view_is in
    let class : c.class-class.result ≡ c.requires.superblock.class = c.class-class.ensures ∙ ap (λ (b : BlockState). b.class) out.block_is in
    omega (arith, class, (c.self.invariant.0.kept c.requires.place c.requires.superblock out.there).class_fits)

pub invariant_of-self : goal.invariant_of-self
invariant_of-self c =
    let out = out_seen c.requires c.self.view_is in
    let at = found_seen c.requires c.self.view_is c.self.invariant.0 c.unit.ensures c.class-class.ensures c.parted-place.ensures.superblock c.parted-place.ensures.within c.index_mut-superblock.ensures.value in
    let after : c.take_back.new.self ≡ taken_back c.requires.superblock c.requires.bit = rw (c.take_back.ensures, at.now_is, at.bit_is) refl in (
      rw (at.place_is, after)
          (IsSound-taken_back (record { units = c.self.inside.geometry.units; superblocks = c.self.inside.superblocks.items }) c.args.block c.requires.place c.requires.bit c.requires.superblock c.self.invariant.0 out),
      rw (c.note_change.ensures, at.place_is)
          (change_taken_back c.self.inside.geometry.units c.requires.place c.class-class.result c.requires.bit c.cap-room.result c.self.inside.superblocks.items c.self.inside.vacancies
          c.requires.superblock c.take_back.new.self c.is_empty-is_empty.result c.has_room-had_room.result c.self.invariant.1 c.self.invariant.0 out.there out.is_set
          (c.class-class.ensures ∙ ap (λ (b : BlockState). b.class) out.block_is) c.cap-room.ensures.quotient after c.is_empty-is_empty.ensures
          (subst (λ s. (c.has_room-had_room.result ≡ true) ↔ HasRoom c.class-class.result c.cap-room.result s) at.now_is c.has_room-had_room.ensures)),
      c.self.invariant.2,
    )

pub returns-clause-back : goal.returns-clause-back
returns-clause-back c =
    let out = out_seen c.requires c.self.view_is in
    let at = found_seen c.requires c.self.view_is c.self.invariant.0 c.unit.ensures c.class-class.ensures c.parted-place.ensures.superblock c.parted-place.ensures.within c.index_mut-superblock.ensures.value in
    let pool : PoolState = record { units = c.self.inside.geometry.units; superblocks = c.self.inside.superblocks.items } in
    rw (← c.self.view_is) (record {
      place = c.requires.place;
      bit = c.requires.bit;
      was = c.requires.superblock;
      out = out;
      place_is = sym (place_of pool c.args.block c.requires.place c.requires.bit c.requires.superblock c.self.invariant.0 out);
      bit_is = sym (bit_of pool c.args.block c.requires.place c.requires.bit c.requires.superblock c.self.invariant.0 out);
      after = rw (at.place_is, c.take_back.ensures, at.now_is, at.bit_is) refl;
    })

pub returns-clause-removes : goal.returns-clause-removes
returns-clause-removes c =
    let out = out_seen c.requires c.self.view_is in
    let at = found_seen c.requires c.self.view_is c.self.invariant.0 c.unit.ensures c.class-class.ensures c.parted-place.ensures.superblock c.parted-place.ensures.within c.index_mut-superblock.ensures.value in
    rw (← c.self.view_is, at.place_is, c.take_back.ensures, at.now_is, at.bit_is)
    (Removes-taken_back (record { units = c.self.inside.geometry.units; superblocks = c.self.inside.superblocks.items }) c.args.block c.requires.place c.requires.bit c.requires.superblock c.self.invariant.0 out)

pub returns-clause-sound : goal.returns-clause-sound
returns-clause-sound c =
    let out = out_seen c.requires c.self.view_is in
    let at = found_seen c.requires c.self.view_is c.self.invariant.0 c.unit.ensures c.class-class.ensures c.parted-place.ensures.superblock c.parted-place.ensures.within c.index_mut-superblock.ensures.value in
    rw (at.place_is, c.take_back.ensures, at.now_is, at.bit_is)
    (IsSound-taken_back (record { units = c.self.inside.geometry.units; superblocks = c.self.inside.superblocks.items }) c.args.block c.requires.place c.requires.bit c.requires.superblock c.self.invariant.0 out)
