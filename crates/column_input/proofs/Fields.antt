-- The fields of a record by their places.
use Rattle.std.proofs.Common.{◌≡◌, ℕ, zero, suc, ◌+◌, ◌<◌, Option, List, [], ◌∷◌, length, drop, refl, ◌∙◌, ap, add-one, drop-cons}
use Rattle.std.specs.Prelude.{slice_index_or, unwrap_or}
use Rattle.csv.specs.Records.{field_at}
use Rattle.column_input.specs.Records.{Record}

field-found : (fields : List (List ℕ)) (place : ℕ) → unwrap_or (field_at fields place) [] ≡ slice_index_or fields place []
unfolding field_at
field-found [] place = refl
field-found (f ∷ fields) zero = refl
field-found (f ∷ fields) (suc place) = field-found fields place

-- what is found at a place, or else nothing
pub field-or : (fields : List (List ℕ)) (place : ℕ) (o : Option (List ℕ)) → o ≡ field_at fields place → unwrap_or o [] ≡ slice_index_or fields place []
field-or fields place o e = ap (λ (o : Option (List ℕ)). unwrap_or o []) e ∙ field-found fields place

-- the fields from a place on are the one there and those behind it
pub drop-field : (fields : Record) (place : ℕ) → place < length fields → drop place fields ≡ slice_index_or fields place [] ∷ drop (place + 1) fields
drop-field fields place h = rw (add-one, drop-cons fields place []) refl
