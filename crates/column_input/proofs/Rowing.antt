-- Rows, put below the columns one after the other.
use Rattle.std.proofs.Common.{◌≡◌, ℕ, zero, suc, ◌+◌, ◌<◌, ◌≤◌, Bool, true, false, if◌then◌else◌, Option, Some, None, Result, Ok, Err, List, [], ◌∷◌, ◌++◌, length, take, drop, refl, sym, ◌∙◌, ap, subst, arith, add-one}
use Rattle.std.specs.Prelude.{slice_index_or, slice_set}
use Rattle.std.specs.Str.Parse.{digits_value}
use Rattle.std.proofs.lemmas.List.{drop_all, get_or_default}
use Rattle.task_text.specs.Scan.{is_number}
use Rattle.column_input.specs.declared.fault.Cause.TheVariants.{BadNumber}
use Rattle.column_input.specs.Records.{Record}
use Rattle.column_input.specs.Reading.{Fault, check_numbers, fault_at}
use Rattle.column_input.specs.Rows.{put_below}
use Rattle.column_input.proofs.Fields.{drop-field}

-- ---- the fields of a row

pub numbers-more : (row : ℕ) (fields : Record) (place : ℕ) (whole : Result (Unit {0}) Fault) → place < length fields → is_number (slice_index_or fields place []) ≡ true
    → check_numbers row (place + 1) (drop place fields) ≡ whole → check_numbers row (place + 1 + 1) (drop (place + 1) fields) ≡ whole
unfolding check_numbers
numbers-more row fields place whole h e k = rw (drop-field fields place h, e) at k

pub numbers-bad : (row : ℕ) (fields : Record) (place : ℕ) (whole : Result (Unit {0}) Fault) → place < length fields → is_number (slice_index_or fields place []) ≡ false
    → check_numbers row (place + 1) (drop place fields) ≡ whole → whole ≡ Err (fault_at BadNumber row (place + 1))
unfolding check_numbers
numbers-bad row fields place whole h e k = sym (rw (drop-field fields place h, e) at k)

pub numbers-end : (row : ℕ) (fields : Record) (place : ℕ) (whole : Result (Unit {0}) Fault) → length fields ≤ place
    → check_numbers row (place + 1) (drop place fields) ≡ whole → whole ≡ Ok tt
unfolding check_numbers
numbers-end row fields place whole h k = sym (rw (drop_all place fields h) at k)

-- ---- a row below the columns

pub put-length : (columns : List (List ℕ)) (fields : Record) → length (put_below columns fields) ≡ length columns
unfolding put_below
put-length [] fields = refl
put-length (column ∷ columns) [] = refl
put-length (column ∷ columns) (field ∷ fields) = ap (λ n. suc n) (put-length columns fields)

pub put-none : (columns : List (List ℕ)) → put_below columns [] ≡ columns
unfolding put_below
put-none [] = refl
put-none (column ∷ columns) = refl

-- one more field
pub put-more : (columns : List (List ℕ)) (fields : Record) (place : ℕ) → place < length fields → length fields ≡ length columns
    → slice_set (put_below columns (take place fields)) place
    (slice_index_or (put_below columns (take place fields)) place [] ++ digits_value 10 (slice_index_or fields place []) ∷ [])
    ≡ put_below columns (take (place + 1) fields)
unfolding put_below
put-more columns [] place h full = absurd (omega arith)
put-more [] (field ∷ fields) place h full = absurd (omega arith)
put-more (column ∷ columns) (field ∷ fields) zero h full =
    ap (λ (t : List (List ℕ)). (column ++ digits_value 10 field ∷ []) ∷ t) (sym (put-none columns))
put-more (column ∷ columns) (field ∷ fields) (suc place) h full =
    rw add-one (ap (λ (t : List (List ℕ)). (column ++ digits_value 10 field ∷ []) ∷ t) (put-more columns fields place (omega arith) (omega arith) ∙ rw add-one refl))

-- a number was put below the column at a place
pub put-step : (start columns : List (List ℕ)) (fields : Record) (place number : ℕ) (old new : List ℕ) → place < length fields → length fields ≡ length start
    → columns ≡ put_below start (take place fields) → old ≡ slice_index_or columns place old → new ≡ old ++ number ∷ []
    → number ≡ digits_value 10 (slice_index_or fields place [])
    → slice_set columns place new ≡ put_below start (take (place + 1) fields)
put-step start columns fields place number old new h full below at put spelled =
    let inside : place < length columns = rw (below, put-length) (rw (← full) h) in
    let here : old ≡ slice_index_or (put_below start (take place fields)) place [] = at ∙ get_or_default columns place old [] inside ∙ ap (λ (t : List (List ℕ)). slice_index_or t place []) below in
    rw (put, spelled, here, below) (put-more start fields place h full)

-- ---- the number of a field

pub no-number : (word field : List ℕ) (o : Option ℕ) → word ≡ field → o ≡ (if is_number word then Some (digits_value 10 word) else None) → o ≡ None → is_number field ≡ false
no-number word field o same e none = ap (λ (t : List ℕ). is_number t) (sym same) ∙ by (is_number word) (sym e ∙ none) where
  by : (b : Bool) → ◌≡◌ {A = Option ℕ} (if b then Some (digits_value 10 word) else None) None → b ≡ false
  by true e = cc
  by false e = refl

pub a-number : (word field : List ℕ) (o : Option ℕ) (number : ℕ) → word ≡ field → o ≡ (if is_number word then Some (digits_value 10 word) else None) → o ≡ Some number
    → (is_number field ≡ true) × (number ≡ digits_value 10 field)
a-number word field o number same e some = subst (λ (t : List ℕ). (is_number t ≡ true) × (number ≡ digits_value 10 t)) same (by (is_number word) refl (sym e ∙ some)) where
  by : (b : Bool) → is_number word ≡ b → ◌≡◌ {A = Option ℕ} (if b then Some (digits_value 10 word) else None) (Some number) → (is_number word ≡ true) × (number ≡ digits_value 10 word)
  by true t e = (t, cc)
  by false t e = cc
