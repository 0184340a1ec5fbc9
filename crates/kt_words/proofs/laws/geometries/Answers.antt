use Rattle.kt_words.proofs.GeometryFacts.{units_by_name, blocks_fill, blocks_end_inside, unit_names_place, room_is_either, numbers_make_geometry}
use Rattle.kt_words.proofs.laws.geometries.Goals as goal

pub returns-clause-units : goal.returns-clause-units
returns-clause-units c = units_by_name

pub returns-clause-fill : goal.returns-clause-fill
returns-clause-fill c = blocks_fill

pub returns-clause-inside : goal.returns-clause-inside
returns-clause-inside c = blocks_end_inside

pub returns-clause-numbers : goal.returns-clause-numbers
returns-clause-numbers c = numbers_make_geometry

pub returns-clause-place : goal.returns-clause-place
returns-clause-place c = unit_names_place

pub returns-clause-room : goal.returns-clause-room
returns-clause-room c = room_is_either
