-- What each geometry keeps, and each plan.
use mathlib.Core.HLevel.{is_prop→PathP}
use Rattle.std.proofs.Common.{◌∙◌, inl, inr, ap, ◌+◌, ◌*◌, ◌/◌, ◌≤◌, ◌<◌, arith}
use Rattle.std.proofs.Math.Nat.{mul-le-mul_right, mul-div_cancel}
use Rattle.std.proofs.lemmas.Nat.{div-mul-add, mod-mul-add, pow_pos}
use Rattle.std.proofs.lemmas.Bool.{cases_eq, cases_lt}
use Rattle.std.proofs.Props.{props}
use Rattle.std.specs.Int.{IsPowerOfTwo}
use Rattle.kt_words.specs.Capacity.{capacity, block_units}
use Rattle.kt_words.specs.GeometryLaws.{UnitsByName, BlocksFill, BlocksEndInside, UnitNamesPlace, RoomIsEither, NumbersMakeGeometry, NumbersMakePlan}
use Rattle.kt_words.proofs.Powers.{unit_count_merely, capacity_fills}

pub units_by_name : UnitsByName
units_by_name geometry = unit_count_merely geometry.units geometry.units_fit geometry.power_of_two

pub blocks_fill : BlocksFill
blocks_fill geometry class e = capacity_fills geometry.units class geometry.units_fit geometry.power_of_two e

pub blocks_end_inside : BlocksEndInside
blocks_end_inside geometry class place e below =
    let up_to : place + 1 ≤ capacity geometry.units class = omega arith in
    omega (arith, mul-le-mul_right (block_units class) up_to, (blocks_fill geometry class e).0)

pub unit_names_place : UnitNamesPlace
unit_names_place geometry superblock class place e below =
    let inside : place * block_units class < geometry.units = omega (arith, blocks_end_inside geometry class place e below, pow_pos class) in (
      div-mul-add superblock geometry.units (place * block_units class) inside,
      ap (λ rest. rest / block_units class) (mod-mul-add superblock geometry.units (place * block_units class) inside) ∙ mul-div_cancel place (pow_pos class),
    )

pub room_is_either : RoomIsEither
room_is_either geometry wanted class count e = (
  λ without. elim without [
    | inl full ↦ (λ room. omega (arith, room.1, full.1), omega (arith, full.1, (blocks_fill geometry wanted e).1))
    | inr other ↦ (λ room. other.0 room.0, other.1)
  ],
  λ none. elim (cases_eq class wanted) [
    | inl same ↦ elim (cases_lt count (capacity geometry.units wanted)) [ inl below ↦ absurd (none.0 (same, below)) | inr full ↦ inl (same, full) ]
    | inr other ↦ inr (other, none.1)
  ],
)

pub numbers_make_geometry : NumbersMakeGeometry
numbers_make_geometry one other superblocks units = λ i. record {
  superblocks = superblocks i;
  units = units i;
  superblocks_fit = is_prop→PathP (λ j. (1 ≤ superblocks j) × (superblocks j ≤ 1024)) (λ j. hlevel props) one.superblocks_fit other.superblocks_fit i;
  units_fit = is_prop→PathP (λ j. (8 ≤ units j) × (units j ≤ 512)) (λ j. hlevel props) one.units_fit other.units_fit i;
  power_of_two = is_prop→PathP (λ j. ∥ IsPowerOfTwo (units j) ∥₁) (λ j. hlevel props) one.power_of_two other.power_of_two i;
}

pub numbers_make_plan : NumbersMakePlan
numbers_make_plan one other geometries limits roots = λ i. record {
  geometry = geometries i;
  limit = limits i;
  roots = roots i;
  limit_fits = is_prop→PathP (λ j. (1 ≤ limits j) × (limits j ≤ 4000000)) (λ j. hlevel props) one.limit_fits other.limit_fits i;
  roots_fit = is_prop→PathP (λ j. roots j ≤ 16) (λ j. hlevel props) one.roots_fit other.roots_fit i;
}
