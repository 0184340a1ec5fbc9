-- Records have a table or a first fault, and never both.
use Rattle.std.proofs.Common.{◌≡◌, ℕ, zero, suc, ◌+◌, ◌<◌, ◌≤◌, inl, inr, Result, Ok, Err, Some, List, [], ◌∷◌, length, slice_get, refl, sym, ◌∙◌, ap, subst, arith}
use Rattle.std.proofs.lemmas.Bool.{false≢true}
use Rattle.task_syntax.specs.declared.columns.Columns.{Columns}
use Rattle.column_input.specs.declared.fault.Cause.{Cause}
use Rattle.column_input.specs.declared.fault.Cause.TheVariants.{NoHeader, TwiceNamed, Ragged, BadNumber, TooManyRows, TooManyColumns}
use Rattle.column_input.specs.Causes.{rank}
use Rattle.column_input.specs.Faults.{HasCause, IsFirst, Precedes}
use Rattle.column_input.specs.Records.{Record}
use Rattle.column_input.specs.Reading.{Fault, ◌>>=◌, cells_from, cells_in, check_header, check_rows, columns_in}
use Rattle.column_input.specs.Table.{Tabulates}
use Rattle.column_input.proofs.FirstFaults.{first-empty, first-header}
use Rattle.column_input.proofs.FirstRows.{first-row}
use Rattle.column_input.proofs.Tabulated.{one-table, some-same, table}

abbrev columns_ok : Record → List (List ℕ) → Result Columns Fault
columns_ok names cells = Ok (record { names = names; cells = cells })

-- what records give: their table, or their first fault
abbrev pub GivesEither : List Record → Result Columns Fault → Type 0
GivesEither records (Ok columns) = Tabulates records columns
GivesEither records (Err fault) = IsFirst records fault

header-told : (header : Record) (rows : List Record) (f : Fault) → check_header header ≡ Err f → columns_in (header ∷ rows) ≡ Err f
header-told header rows f e =
    ap (λ (h : Result (Unit {0}) Fault). h >>= (λ _. Ok header) >>= (λ (names : Record). cells_in (length names) rows >>= (λ cells. columns_ok names cells))) e

rows-told : (header : Record) (rows : List Record) (f : Fault) → check_header header ≡ Ok tt → check_rows (length header) 1 rows ≡ Err f → columns_in (header ∷ rows) ≡ Err f
rows-told header rows f h e =
    ap (λ (h : Result (Unit {0}) Fault). h >>= (λ _. Ok header) >>= (λ (names : Record). cells_in (length names) rows >>= (λ cells. columns_ok names cells))) h
    ∙ ap (λ (r : Result (Unit {0}) Fault). r >>= (λ _. Ok (cells_from 0 (length header) rows)) >>= (λ cells. columns_ok header cells)) e

table-told : (header : Record) (rows : List Record) → check_header header ≡ Ok tt → check_rows (length header) 1 rows ≡ Ok tt
    → columns_in (header ∷ rows) ≡ columns_ok header (cells_from 0 (length header) rows)
table-told header rows h e =
    ap (λ (h : Result (Unit {0}) Fault). h >>= (λ _. Ok header) >>= (λ (names : Record). cells_in (length names) rows >>= (λ cells. columns_ok names cells))) h
    ∙ ap (λ (r : Result (Unit {0}) Fault). r >>= (λ _. Ok (cells_from 0 (length header) rows)) >>= (λ cells. columns_ok header cells)) e

pub gives-either : (records : List Record) → GivesEither records (columns_in records)
gives-either [] = first-empty
gives-either (header ∷ rows) = by (check_header header) refl (check_rows (length header) 1 rows) refl where
  by : (h : Result (Unit {0}) Fault) → check_header header ≡ h → (r : Result (Unit {0}) Fault) → check_rows (length header) 1 rows ≡ r → GivesEither (header ∷ rows) (columns_in (header ∷ rows))
  by (Err f) e r k = subst (GivesEither (header ∷ rows)) (sym (header-told header rows f e)) (first-header header rows f e)
  by (Ok u) e (Err f) k = subst (GivesEither (header ∷ rows)) (sym (rows-told header rows f e k)) (first-row header rows f e k)
  by (Ok u) e (Ok v) k = subst (GivesEither (header ∷ rows)) (sym (table-told header rows e k)) (table header rows e k)

-- a row is one behind the header
below : (row : ℕ) → 0 < row → (at : ℕ) × (row ≡ at + 1)
below zero l = absurd (omega (arith, l))
below (suc at) l = (at, omega arith)

-- records with a table have no fault
table-faultless : (records : List Record) (columns : Columns) → Tabulates records columns → (cause : Cause) (row column : ℕ) → HasCause records cause row column → ⊥
table-faultless records columns t NoHeader row column h =
    let none : slice_get [] 0 ≡ Some columns.names = subst (λ (r : List Record). slice_get r 0 ≡ Some columns.names) h.2 t.header in cc
table-faultless records columns t TooManyColumns row column h =
    let same : columns.names ≡ h.2 = some-same columns.names h.2 (sym t.header ∙ h.3) in
    let few = subst (λ (n : Record). length n ≤ 16) same t.few_names in
    let long = h.4 in
    omega arith
table-faultless records columns t TwiceNamed row column h =
    let same : columns.names ≡ h.1 = some-same columns.names h.1 (sym t.header ∙ h.4) in
    let apart = t.names_differ in
    let again = h.5 in
    let one : again.0 ≡ h.2 = apart again.0 h.2 again.1 (subst (λ (n : Record). slice_get n again.0 ≡ Some again.1) (sym same) again.3)
    (subst (λ (n : Record). slice_get n h.2 ≡ Some again.1) (sym same) again.4) in
    let before = again.2 in
    omega arith
table-faultless records columns t TooManyRows row column h =
    let few = t.few_rows in
    let at = h.0 in
    let inside = h.2 in
    omega arith
table-faultless records columns t Ragged row column h =
    let same : columns.names ≡ h.1 = some-same columns.names h.1 (sym t.header ∙ h.3) in
    let at = below row h.4.0 in
    h.5 (t.rows_full at.0 h.2 (subst (λ n. slice_get records n ≡ Some h.2) at.1 h.4.1) ∙ ap (λ (n : Record). length n) same)
table-faultless records columns t BadNumber row column h =
    let at = below row h.4.0 in
    false≢true (sym h.6 ∙ (t.numbers at.0 h.1 h.0 h.2 (subst (λ n. slice_get records n ≡ Some h.0) at.1 h.4.1) h.5).0)

-- of two first faults each is the other
precedes-not : (f g : Fault) → Precedes f g → Precedes g f → ⊥
precedes-not f g p q = elim p [
  | inl a ↦ elim q [ inl b ↦ omega arith | inr more ↦ elim more [ inl b ↦ omega arith | inr b ↦ omega arith ] ]
  | inr rest ↦ elim rest [
    | inl a ↦ elim q [ inl b ↦ omega arith | inr more ↦ elim more [ inl b ↦ omega arith | inr b ↦ let same = ap rank b.1 in omega arith ] ]
    | inr a ↦
        let same = ap rank a.1 in
        elim q [ inl b ↦ omega arith | inr more ↦ elim more [ inl b ↦ omega arith | inr b ↦ omega arith ] ]
  ]
]

one-first : (records : List Record) (f g : Fault) → IsFirst records f → IsFirst records g → f ≡ g
one-first records f g a b = elim (a.before_all g b.here) [
  | inl same ↦ sym same
  | inr before ↦ elim (b.before_all f a.here) [ inl same ↦ same | inr after ↦ absurd (precedes-not f g before after) ]
]

pub columns-exactly : (records : List Record) (columns : Columns) (o : Result Columns Fault) → GivesEither records o → Tabulates records columns → o ≡ Ok columns
columns-exactly records columns (Ok other) either t = ap (λ (c : Columns). Ok c) (one-table records other columns either t)
columns-exactly records columns (Err fault) either t = absurd (table-faultless records columns t fault.cause fault.row fault.column either.here)

pub fault-exactly : (records : List Record) (fault : Fault) (o : Result Columns Fault) → GivesEither records o → IsFirst records fault → o ≡ Err fault
fault-exactly records fault (Ok columns) either f = absurd (table-faultless records columns either fault.cause fault.row fault.column f.here)
fault-exactly records fault (Err other) either f = ap (λ (g : Fault). Err g) (one-first records other fault either f)

pub told-table : (records : List Record) (columns : Columns) → columns_in records ≡ Ok columns → Tabulates records columns
told-table records columns e = subst (GivesEither records) e (gives-either records)

pub told-first : (records : List Record) (fault : Fault) → columns_in records ≡ Err fault → IsFirst records fault
told-first records fault e = subst (GivesEither records) e (gives-either records)
