-- A fault of the rows that is told is the first.
use Rattle.std.proofs.Common.{◌≡◌, ◌≢◌, ℕ, zero, suc, ◌+◌, ◌<◌, ◌≤◌, ◌⊎◌, inl, inr, false, Result, Ok, Err, Some, List, [], ◌∷◌, length, slice_get, refl, sym, ◌∙◌, ap, subst, arith}
use Rattle.std.specs.Prelude.{slice_index_or}
use Rattle.std.proofs.lemmas.Bool.{false≢true}
use Rattle.std.proofs.lemmas.Option.{slice_get-get_or, slice_get_within}
use Rattle.task_syntax.specs.Places.{AllDiffer}
use Rattle.task_text.specs.Scan.{is_number}
use Rattle.column_input.specs.declared.fault.Cause.{Cause}
use Rattle.column_input.specs.declared.fault.Cause.TheVariants.{NoHeader, TwiceNamed, Ragged, BadNumber, TooManyRows, TooManyColumns}
use Rattle.column_input.specs.Faults.{HasCause, IsFirst, IsRow}
use Rattle.column_input.specs.Records.{Field, Record}
use Rattle.column_input.specs.Reading.{Fault, check_header, check_row, check_rows, fault_at, most_rows}
use Rattle.column_input.proofs.Checked.{Even, Fails, FirstAt, IsBad, IsFine, Passes, TooMany, Uneven, numbers-first, row-cases, row-fine, rows-first}
use Rattle.column_input.proofs.FirstFaults.{Behind, first-by, same-fault}
use Rattle.column_input.proofs.Tabulated.{header-fine, some-same, three-way}

-- ---- a row by its number

row-one : (header : Record) (rows : List Record) (at : ℕ) (fields : Record) → slice_get rows at ≡ Some fields → IsRow (header ∷ rows) (1 + at) fields
row-one header rows at fields e =
    let next : suc at ≡ 1 + at = omega arith in
    (omega arith, subst (λ n. slice_get (header ∷ rows) n ≡ Some fields) next e)

row-of : (header : Record) (rows : List Record) (row : ℕ) (fields : Record) → IsRow (header ∷ rows) row fields → (at : ℕ) × (row ≡ 1 + at) × (slice_get rows at ≡ Some fields)
row-of header rows zero fields r = absurd (omega (arith, r.0))
row-of header rows (suc at) fields r = (at, omega arith, r.1)

-- ---- what stands in front of the row at fault

-- a row against the one at fault: it passes, or it is that one, or it comes behind it
against : (width at : ℕ) (rows : List Record) (f : Fault) (first : FirstAt rows (Passes width 1) (Fails width 1 f) at) (other : ℕ) (fields : Record) → slice_get rows other ≡ Some fields
    → (check_row width (1 + other) fields ≡ Ok tt) ⊎ ((other ≡ at) × (fields ≡ first.item)) ⊎ (at < other)
against width at rows f first other fields e = by (three-way other at) where
  by : (other < at) ⊎ (other ≡ at) ⊎ (at < other) → (check_row width (1 + other) fields ≡ Ok tt) ⊎ ((other ≡ at) × (fields ≡ first.item)) ⊎ (at < other)
  by (inl l) = inl (first.fine other fields l e)
  by (inr (inl s)) = inr (inl (s, some-same fields first.item (sym e ∙ ap (λ n. slice_get rows n) s ∙ first.there)))
  by (inr (inr l)) = inr (inr l)

-- no more rows passed than there may be
at-most : (width at : ℕ) (rows : List Record) (f : Fault) → FirstAt rows (Passes width 1) (Fails width 1 f) at → at ≤ 1000000
at-most width zero rows f first = omega arith
at-most width (suc at) rows f first =
    let inside = slice_get_within rows (suc at) first.item first.there in
    let before = row-fine width (1 + at) (slice_index_or rows at []) (first.fine at (slice_index_or rows at []) (omega arith) (slice_get-get_or rows at [] (omega arith))) in
    let few = before.0 in
    omega arith

-- ---- the faults that no row has

-- the header is fine, so each other fault is one of the rows
abbrev InRows : Record → List Record → Fault → Type 0
InRows header rows f =
    ((row column : ℕ) → row ≡ 1000001 → column ≡ 0 → row < length (header ∷ rows) → Behind f TooManyRows row column)
    × ((row column other : ℕ) (fields : Record) → row ≡ 1 + other → column ≡ 0 → slice_get rows other ≡ Some fields → length fields ≢ length header → Behind f Ragged row column)
    × ((row column other place : ℕ) (fields : Record) (field : Field) → row ≡ 1 + other → column ≡ place + 1 → slice_get rows other ≡ Some fields
    → slice_get fields place ≡ Some field → is_number field ≡ false → Behind f BadNumber row column)

behind-rows : (header : Record) (rows : List Record) (f : Fault) → length header ≤ 16 → AllDiffer header → InRows header rows f
    → (cause : Cause) (row column : ℕ) → HasCause (header ∷ rows) cause row column → Behind f cause row column
behind-rows header rows f few apart in_rows NoHeader row column h = let no = h.2 in cc
behind-rows header rows f few apart in_rows TooManyColumns row column h =
    let same : header ≡ h.2 = some-same header h.2 h.3 in
    let long = subst (λ (t : Record). 16 < length t) (sym same) h.4 in
    absurd (omega arith)
behind-rows header rows f few apart in_rows TwiceNamed row column h =
    let same : header ≡ h.1 = some-same header h.1 h.4 in
    let again = h.5 in
    let one : again.0 ≡ h.2 = subst (λ (t : Record). AllDiffer t) same apart again.0 h.2 again.1 again.3 again.4 in
    let before = again.2 in
    absurd (omega arith)
behind-rows header rows f few apart in_rows TooManyRows row column h = in_rows.0 row column h.0 h.1 h.2
behind-rows header rows f few apart in_rows Ragged row column h =
    let same : header ≡ h.1 = some-same header h.1 h.3 in
    let at = row-of header rows row h.2 h.4 in
    in_rows.1 row column at.0 h.2 at.1 h.0 at.2 (subst (λ (t : Record). length h.2 ≢ length t) (sym same) h.5)
behind-rows header rows f few apart in_rows BadNumber row column h =
    let at = row-of header rows row h.0 h.4 in
    in_rows.2 row column at.0 h.1 h.0 h.2 at.1 h.3 at.2 h.5 h.6

-- ---- each cause

-- a row past the last that may be
past-last : (header : Record) (rows : List Record) (at : ℕ) → length header ≤ 16 → AllDiffer header
    → FirstAt rows (Passes (length header) 1) (Fails (length header) 1 (fault_at TooManyRows (1 + at) 0)) at → most_rows < 1 + at
    → IsFirst (header ∷ rows) (fault_at TooManyRows (1 + at) 0)
past-last header rows at few apart first past =
    let most = at-most (length header) at rows (fault_at TooManyRows (1 + at) 0) first in
    let inside = slice_get_within rows at first.item first.there in
    first-by (header ∷ rows) (fault_at TooManyRows (1 + at) 0) (omega arith, refl, omega arith)
    (behind-rows header rows (fault_at TooManyRows (1 + at) 0) few apart (many, ragged, bad))
  where
    many : (row column : ℕ) → row ≡ 1000001 → column ≡ 0 → row < length (header ∷ rows) → Behind (fault_at TooManyRows (1 + at) 0) TooManyRows row column
    many row column r c l =
        let most = at-most (length header) at rows (fault_at TooManyRows (1 + at) 0) first in
        inl (same-fault TooManyRows row (1 + at) column 0 (omega arith) c)

    ragged : (row column other : ℕ) (fields : Record) → row ≡ 1 + other → column ≡ 0 → slice_get rows other ≡ Some fields → length fields ≢ length header
        → Behind (fault_at TooManyRows (1 + at) 0) Ragged row column
    ragged row column other fields r c e n = elim (against (length header) at rows (fault_at TooManyRows (1 + at) 0) first other fields e) [
      | inl passed ↦ absurd (n (row-fine (length header) (1 + other) fields passed).1)
      | inr rest ↦ elim rest [ inl same ↦ let s = same.0 in inr (inr (inl (omega arith, omega arith))) | inr l ↦ inr (inl (omega arith)) ]
    ]

    bad : (row column other place : ℕ) (fields : Record) (field : Field) → row ≡ 1 + other → column ≡ place + 1 → slice_get rows other ≡ Some fields
        → slice_get fields place ≡ Some field → is_number field ≡ false → Behind (fault_at TooManyRows (1 + at) 0) BadNumber row column
    bad row column other place fields field r c e p n = elim (against (length header) at rows (fault_at TooManyRows (1 + at) 0) first other fields e) [
      | inl passed ↦ absurd (false≢true (sym n ∙ (row-fine (length header) (1 + other) fields passed).2 place field p))
      | inr rest ↦ elim rest [ inl same ↦ let s = same.0 in inr (inr (inl (omega arith, omega arith))) | inr l ↦ inr (inl (omega arith)) ]
    ]

-- a row with another number of fields
uneven-row : (header : Record) (rows : List Record) (at : ℕ) → length header ≤ 16 → AllDiffer header
    → (first : FirstAt rows (Passes (length header) 1) (Fails (length header) 1 (fault_at Ragged (1 + at) 0)) at) → 1 + at ≤ most_rows → length first.item ≢ length header
    → IsFirst (header ∷ rows) (fault_at Ragged (1 + at) 0)
uneven-row header rows at few apart first within other_length =
    first-by (header ∷ rows) (fault_at Ragged (1 + at) 0) (refl, header, first.item, refl, row-one header rows at first.item first.there, other_length)
    (behind-rows header rows (fault_at Ragged (1 + at) 0) few apart (many, ragged, bad))
  where
    many : (row column : ℕ) → row ≡ 1000001 → column ≡ 0 → row < length (header ∷ rows) → Behind (fault_at Ragged (1 + at) 0) TooManyRows row column
    many row column r c l = inr (inl (omega arith))

    ragged : (row column other : ℕ) (fields : Record) → row ≡ 1 + other → column ≡ 0 → slice_get rows other ≡ Some fields → length fields ≢ length header
        → Behind (fault_at Ragged (1 + at) 0) Ragged row column
    ragged row column other fields r c e n = elim (against (length header) at rows (fault_at Ragged (1 + at) 0) first other fields e) [
      | inl passed ↦ absurd (n (row-fine (length header) (1 + other) fields passed).1)
      | inr rest ↦ elim rest [ inl same ↦ let s = same.0 in inl (same-fault Ragged row (1 + at) column 0 (omega arith) c) | inr l ↦ inr (inl (omega arith)) ]
    ]

    bad : (row column other place : ℕ) (fields : Record) (field : Field) → row ≡ 1 + other → column ≡ place + 1 → slice_get rows other ≡ Some fields
        → slice_get fields place ≡ Some field → is_number field ≡ false → Behind (fault_at Ragged (1 + at) 0) BadNumber row column
    bad row column other place fields field r c e p n = elim (against (length header) at rows (fault_at Ragged (1 + at) 0) first other fields e) [
      | inl passed ↦ absurd (false≢true (sym n ∙ (row-fine (length header) (1 + other) fields passed).2 place field p))
      | inr rest ↦ elim rest [ inl same ↦ let s = same.0 in inr (inr (inl (omega arith, omega arith))) | inr l ↦ inr (inl (omega arith)) ]
    ]

-- a field that is no number
bad-number : (header : Record) (rows : List Record) (at place : ℕ) → length header ≤ 16 → AllDiffer header
    → (first : FirstAt rows (Passes (length header) 1) (Fails (length header) 1 (fault_at BadNumber (1 + at) (1 + place))) at) → 1 + at ≤ most_rows
    → length first.item ≡ length header → FirstAt first.item IsFine IsBad place
    → IsFirst (header ∷ rows) (fault_at BadNumber (1 + at) (1 + place))
bad-number header rows at place few apart first within full wrong =
    first-by (header ∷ rows) (fault_at BadNumber (1 + at) (1 + place))
    (first.item, place, wrong.item, omega arith, row-one header rows at first.item first.there, wrong.there, wrong.bad)
    (behind-rows header rows (fault_at BadNumber (1 + at) (1 + place)) few apart (many, ragged, bad))
  where
    many : (row column : ℕ) → row ≡ 1000001 → column ≡ 0 → row < length (header ∷ rows) → Behind (fault_at BadNumber (1 + at) (1 + place)) TooManyRows row column
    many row column r c l = inr (inl (omega arith))

    ragged : (row column other : ℕ) (fields : Record) → row ≡ 1 + other → column ≡ 0 → slice_get rows other ≡ Some fields → length fields ≢ length header
        → Behind (fault_at BadNumber (1 + at) (1 + place)) Ragged row column
    ragged row column other fields r c e n = elim (against (length header) at rows (fault_at BadNumber (1 + at) (1 + place)) first other fields e) [
      | inl passed ↦ absurd (n (row-fine (length header) (1 + other) fields passed).1)
      | inr rest ↦ elim rest [ inl same ↦ absurd (n (ap (λ (t : Record). length t) same.1 ∙ full)) | inr l ↦ inr (inl (omega arith)) ]
    ]

    in-place : (row column other : ℕ) (field : Field) → row ≡ 1 + at → column ≡ other + 1 → slice_get first.item other ≡ Some field → is_number field ≡ false
        → (other < place) ⊎ (other ≡ place) ⊎ (place < other) → Behind (fault_at BadNumber (1 + at) (1 + place)) BadNumber row column
    in-place row column other field r c p n (inl l) = absurd (false≢true (sym n ∙ wrong.fine other field l p))
    in-place row column other field r c p n (inr (inl s)) = inl (same-fault BadNumber row (1 + at) column (1 + place) r (omega arith))
    in-place row column other field r c p n (inr (inr l)) = inr (inr (inr (sym r, refl, omega arith)))

    bad : (row column other spot : ℕ) (fields : Record) (field : Field) → row ≡ 1 + other → column ≡ spot + 1 → slice_get rows other ≡ Some fields
        → slice_get fields spot ≡ Some field → is_number field ≡ false → Behind (fault_at BadNumber (1 + at) (1 + place)) BadNumber row column
    bad row column other spot fields field r c e p n = elim (against (length header) at rows (fault_at BadNumber (1 + at) (1 + place)) first other fields e) [
      | inl passed ↦ absurd (false≢true (sym n ∙ (row-fine (length header) (1 + other) fields passed).2 spot field p))
      | inr rest ↦ elim rest [
        | inl same ↦
            let s = same.0 in
            in-place row column spot field (omega arith) c (subst (λ (t : Record). slice_get t spot ≡ Some field) same.1 p) n (three-way spot place)
        | inr l ↦ inr (inl (omega arith))
      ]
    ]

-- ---- all of them

err-same : (f g : Fault) → ◌≡◌ {A = Result (Unit {0}) Fault} (Err f) (Err g) → f ≡ g
err-same f g e = cc

abbrev RowsFirst : Record → List Record → ℕ → Fault → Type 0
RowsFirst header rows at f = FirstAt rows (Passes (length header) 1) (Fails (length header) 1 f) at

pub first-row : (header : Record) (rows : List Record) (f : Fault) → check_header header ≡ Ok tt → check_rows (length header) 1 rows ≡ Err f → IsFirst (header ∷ rows) f
first-row header rows f fine e =
    let head = header-fine header fine in
    let first = rows-first (length header) 1 rows f e in
    elim (row-cases (length header) (1 + first.0) first.1.item (Err f) first.1.bad) [
      | inl many ↦ told-many head.0 head.1 first.0 f first.1 many
      | inr rest ↦ elim rest [
        | inl uneven ↦ told-uneven head.0 head.1 first.0 f first.1 uneven
        | inr even ↦ told-even head.0 head.1 first.0 f first.1 even (numbers-first (1 + first.0) 1 first.1.item f even.numbers)
      ]
    ]
  where
    told-many : length header ≤ 16 → AllDiffer header → (at : ℕ) (f : Fault) → RowsFirst header rows at f → TooMany (1 + at) (Err f) → IsFirst (header ∷ rows) f
    told-many few apart at f first many =
        let same : f ≡ fault_at TooManyRows (1 + at) 0 = err-same f _ many.told in
        subst (IsFirst (header ∷ rows)) (sym same) (past-last header rows at few apart (subst (RowsFirst header rows at) same first) many.past)

    told-uneven : length header ≤ 16 → AllDiffer header → (at : ℕ) (f : Fault) (first : RowsFirst header rows at f) → Uneven (length header) (1 + at) first.item (Err f)
        → IsFirst (header ∷ rows) f
    told-uneven few apart at f first uneven =
        let same : f ≡ fault_at Ragged (1 + at) 0 = err-same f _ uneven.told in
        let moved = subst (λ (g : Fault). (first : RowsFirst header rows at g) × (length first.item ≢ length header)) same (first, uneven.other) in
        subst (IsFirst (header ∷ rows)) (sym same) (uneven-row header rows at few apart moved.0 uneven.within moved.1)

    told-even : length header ≤ 16 → AllDiffer header → (at : ℕ) (f : Fault) (first : RowsFirst header rows at f) → Even (length header) (1 + at) first.item (Err f)
        → ((place : ℕ) × (f ≡ fault_at BadNumber (1 + at) (1 + place)) × FirstAt first.item IsFine IsBad place) → IsFirst (header ∷ rows) f
    told-even few apart at f first even numbers =
        let same = numbers.1 in
        let moved = subst (λ (g : Fault). (first : RowsFirst header rows at g) × (length first.item ≡ length header) × FirstAt first.item IsFine IsBad numbers.0) same (first, even.full, numbers.2) in
        subst (IsFirst (header ∷ rows)) (sym same) (bad-number header rows at numbers.0 few apart moved.0 even.within moved.1 moved.2)
