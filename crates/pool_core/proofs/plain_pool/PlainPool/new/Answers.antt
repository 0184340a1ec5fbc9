use Rattle.std.proofs.Common.{◌≡◌, arith, refl}
use Rattle.kt_words.proofs.GeometryFacts.{units_by_name}
use Rattle.pool_core.proofs.Sound.{IsSound-unused}
use Rattle.pool_core.proofs.Units.{capacity_fills}
use Rattle.pool_core.proofs.VacancyFacts.{unused_vacancies}
use Rattle.pool_core.proofs.plain_pool.PlainPool.new.Goals as goal

pub shift_of-requires : goal.shift_of-requires
shift_of-requires c = units_by_name c.args.geometry

pub invariant_of-result : goal.invariant_of-result
invariant_of-result c =
    let all : c.loop-place._place ≡ c.args.geometry.superblocks = omega (arith, c.loop-place-test.false, c.loop-place.auto) in
    rw (c.loop-place.invariant, all) (
      IsSound-unused c.args.geometry.superblocks c.args.geometry.units c.args.geometry.superblocks_fit (units_by_name c.args.geometry),
      unused_vacancies c.args.geometry.superblocks c.args.geometry.units c.new-2.result (capacity_fills c.args.geometry.units 0 (units_by_name c.args.geometry) (omega arith)).1 c.new-2.ensures,
      c.shift_of.ensures,
    )

pub returns-clause-unused : goal.returns-clause-unused
returns-clause-unused c =
    let all : c.loop-place._place ≡ c.args.geometry.superblocks = omega (arith, c.loop-place-test.false, c.loop-place.auto) in
    rw (c.loop-place.invariant, all) refl

pub returns-clause-sound : goal.returns-clause-sound
returns-clause-sound c =
    let all : c.loop-place._place ≡ c.args.geometry.superblocks = omega (arith, c.loop-place-test.false, c.loop-place.auto) in
    rw (c.loop-place.invariant, all) (IsSound-unused c.args.geometry.superblocks c.args.geometry.units c.args.geometry.superblocks_fit (units_by_name c.args.geometry))
