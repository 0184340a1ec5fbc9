-- The rows of a table, one after the other.
use Rattle.std.proofs.Common.{◌≡◌, ℕ, zero, suc, ◌+◌, ◌<◌, ◌≤◌, Bool, true, false, cond, Result, Ok, Err, List, [], ◌∷◌, ◌++◌, map, replicate, length, drop, refl, sym, ◌∙◌, ap, arith, append_assoc}
use Rattle.std.specs.Prelude.{◌==◌, nat_lt}
use Rattle.std.proofs.lemmas.Bool.Decides.{nat_tests}
use Rattle.std.proofs.lemmas.List.{append-nil, length-replicate, map-append}
use Rattle.column_input.specs.declared.fault.Cause.TheVariants.{Ragged, TooManyRows}
use Rattle.column_input.specs.declared.fault.ColumnError.{ColumnError}
use Rattle.column_input.specs.declared.fault.ColumnError.TheVariants as error
use Rattle.column_input.specs.Records.{Record}
use Rattle.column_input.specs.Reading.{Fault, Gives, ◌>>◌, cells_from, cells_in, check_numbers, check_row, check_rows, fault_at, most_rows, number_at}
use Rattle.column_input.specs.Rows.{put_below}
use Rattle.column_input.proofs.Fields.{drop-field}
use Rattle.column_input.proofs.Rowing.{put-length}

-- rows put below the columns, the first of them first
unfoldable pub put_rows : List (List ℕ) → List Record → List (List ℕ)
put_rows columns [] = columns
put_rows columns (fields ∷ rows) = put_rows (put_below columns fields) rows

-- ---- what is put below the columns

put-cells : (place count : ℕ) (done : List Record) (fields : Record) → length fields ≡ place + count
    → put_below (cells_from place count done) (drop place fields) ≡ cells_from place count (done ++ fields ∷ [])
unfolding cells_from put_below
put-cells place zero done fields full = refl
put-cells place (suc count) done fields full =
    let inside : place < length fields = omega arith in
    rw (drop-field fields place inside, map-append (number_at place) done (fields ∷ []))
    (ap (λ (t : List (List ℕ)). (map (number_at place) done ++ number_at place fields ∷ []) ∷ t) (put-cells (place + 1) count done fields (omega arith)))

no-cells : (place count : ℕ) → cells_from place count [] ≡ replicate count []
unfolding cells_from
no-cells place zero = refl
no-cells place (suc count) = ap (λ (t : List (List ℕ)). [] ∷ t) (no-cells (place + 1) count)

-- ---- what is checked

-- a row that passes is none too many, and has a number for each column
pub row-passed : (width row : ℕ) (fields : Record) → check_row width row fields ≡ Ok tt → (row ≤ 1000000) × (length fields ≡ width)
row-passed width row fields e = by (nat_lt most_rows row) refl (length fields == width) refl e where
  by : (b : Bool) → nat_lt most_rows row ≡ b → (d : Bool) → (length fields == width) ≡ d
      → cond b (Err (fault_at TooManyRows row 0)) (cond d (check_numbers row 1 fields) (Err (fault_at Ragged row 0))) ≡ Ok tt → (row ≤ 1000000) × (length fields ≡ width)
  by true t d u e = cc
  by false t true u e = (grind (arith, nat_tests), grind (arith, nat_tests))
  by false t false u e = cc

-- a row that passes leaves the others
pub rows-more : (width row : ℕ) (fields : Record) (rows : List Record) → check_row width row fields ≡ Ok tt
    → check_rows width row (fields ∷ rows) ≡ check_rows width (row + 1) rows
unfolding check_rows
rows-more width row fields rows e = ap (λ (t : Result (Unit {0}) Fault). t >> check_rows width (row + 1) rows) e

rows-split : (width row : ℕ) (fields : Record) (rows : List Record) → check_rows width row (fields ∷ rows) ≡ Ok tt
    → (check_row width row fields ≡ Ok tt) × (check_rows width (row + 1) rows ≡ Ok tt)
unfolding check_rows
rows-split width row fields rows e = by (check_row width row fields) refl e where
  by : (o : Result (Unit {0}) Fault) → check_row width row fields ≡ o → o >> check_rows width (row + 1) rows ≡ Ok tt
      → (check_row width row fields ≡ Ok tt) × (check_rows width (row + 1) rows ≡ Ok tt)
  by (Ok u) t e = (t, e)
  by (Err fault) t e = cc

-- ---- both

put-rows-below : (width row : ℕ) (done rows : List Record) → check_rows width row rows ≡ Ok tt → put_rows (cells_from 0 width done) rows ≡ cells_from 0 width (done ++ rows)
unfolding put_rows
put-rows-below width row done [] e = rw append-nil refl
put-rows-below width row done (fields ∷ rows) e =
    let parts = rows-split width row fields rows e in
    let full = (row-passed width row fields parts.0).1 in
    rw (put-cells 0 width done fields (omega arith))
    (put-rows-below width (row + 1) (done ++ fields ∷ []) rows parts.1 ∙ ap (λ (t : List Record). cells_from 0 width t) (append_assoc done (fields ∷ []) rows))

-- what a loop over the rows keeps: how many there were, the columns, and what is asked of and put below them by the rows ahead
pub record Keeps (width row : ℕ) (columns : List (List ℕ)) (rows whole : List Record) : Type 0 where
  pub few : row ≤ 1000000
  pub wide : length columns ≡ width
  pub checks : check_rows width (row + 1) rows ≡ check_rows width 1 whole
  pub puts : put_rows columns rows ≡ put_rows (replicate width []) whole

pub keeps-none : (width : ℕ) (columns : List (List ℕ)) (whole : List Record) → columns ≡ replicate width [] → Keeps width 0 columns whole whole
keeps-none width columns whole e = record {
  few = omega arith;
  wide = rw e (length-replicate width []);
  checks = refl;
  puts = rw e refl;
}

-- one more row
pub keeps-more : (width row : ℕ) (columns longer : List (List ℕ)) (fields : Record) (rows rest whole : List Record) → rows ≡ fields ∷ rest
    → check_row (length columns) (row + 1) fields ≡ Ok tt → longer ≡ put_below columns fields → Keeps width row columns rows whole → Keeps width (row + 1) longer rest whole
unfolding put_rows
keeps-more width row columns longer fields rows rest whole next passed put kept =
    let here : check_row width (row + 1) fields ≡ Ok tt = rw (← kept.wide) passed in
    record {
      few = (row-passed width (row + 1) fields here).0;
      wide = rw put (put-length columns fields ∙ kept.wide);
      checks = sym (rows-more width (row + 1) fields rest here) ∙ rw (← next) kept.checks;
      puts = rw put (rw next at kept.puts);
    }

-- behind the last row
pub keeps-all : (width row : ℕ) (columns : List (List ℕ)) (rows whole : List Record) → rows ≡ [] → Keeps width row columns rows whole → cells_in width whole ≡ Ok columns
unfolding put_rows check_rows
keeps-all width row columns rows whole none kept =
    let checked : Ok tt ≡ check_rows width 1 whole = rw none at kept.checks in
    let put : columns ≡ put_rows (replicate width []) whole = rw none at kept.puts in
    let below = rw (no-cells 0 width) at (put-rows-below width 1 [] whole (sym checked)) in
    ap (λ (t : Result (Unit {0}) Fault). t >> Ok (cells_from 0 width whole)) (sym checked) ∙ ap (λ (t : List (List ℕ)). Ok t) (sym (put ∙ below))

-- a row at fault
pub keeps-fault : (width row : ℕ) (columns : List (List ℕ)) (fields : Record) (rows rest whole : List Record) (e : ColumnError) → rows ≡ fields ∷ rest
    → Gives {A = Unit {0}} (Err e) (check_row (length columns) (row + 1) fields) → Keeps width row columns rows whole
    → Gives {A = List (List ℕ)} (Err e) (cells_in width whole)
unfolding check_rows
keeps-fault width row columns fields rows rest whole (error.Fault cause at column) next gives kept =
    let here : check_row width (row + 1) fields ≡ Err (fault_at cause at column) = rw (← kept.wide) gives in
    ap (λ (t : Result (Unit {0}) Fault). t >> Ok (cells_from 0 width whole))
    (sym kept.checks ∙ ap (λ (t : List Record). check_rows width (row + 1) t) next ∙ ap (λ (t : Result (Unit {0}) Fault). t >> check_rows width (row + 1 + 1) rest) here)
keeps-fault width row columns fields rows rest whole error.Memory next gives kept = tt
