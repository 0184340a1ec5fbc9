-- Columns that are read are the table of their records, and a table has but one form.
use Rattle.std.proofs.Common.{◌≡◌, ℕ, zero, suc, ◌+◌, ◌<◌, ◌≤◌, ◌⊎◌, inl, inr, Bool, true, false, Ok, Option, Some, None, List, [], ◌∷◌, map, length, take, slice_get, refl, sym, ◌∙◌, ap, arith, add-one}
use Rattle.std.specs.Prelude.{◌&&◌, ◌||◌, slice_index_or, option_map}
use Rattle.std.specs.Option.{option_and_then}
use Rattle.std.specs.Str.Parse.{digits_value}
use Rattle.std.specs.Cmp.Lexicographic.{same_text}
use Rattle.std.proofs.lemmas.Bool.{eq-eqb, false≢true, or_left, or_right}
use Rattle.std.proofs.lemmas.List.{ext_get_or, length-map}
use Rattle.std.proofs.lemmas.Option.{get_or_from_slice_get, slice_get-get_or, slice_get-map, slice_get_within}
use Rattle.task_syntax.specs.Names.{same_bytes}
use Rattle.task_syntax.specs.Places.{AllDiffer}
use Rattle.task_syntax.specs.declared.columns.Columns.{Columns}
use Rattle.task_text.specs.Scan.{is_among, is_number}
use Rattle.column_input.specs.Records.{Field, Record}
use Rattle.column_input.specs.Reading.{cells_from, check_header, check_rows, number_at}
use Rattle.column_input.specs.Table.{Tabulates, cell_at}
use Rattle.column_input.proofs.Checked.{header-cases, names-fine, row-fine, rows-fine}

-- ---- lists by places

pub some-same : {X : Type 0} (x y : X) → Some x ≡ Some y → x ≡ y
some-same x y e = cc

pub three-way : (i j : ℕ) → (i < j) ⊎ (i ≡ j) ⊎ (j < i)
three-way zero zero = inr (inl refl)
three-way zero (suc j) = inl (omega arith)
three-way (suc i) zero = inr (inr (omega arith))
three-way (suc i) (suc j) = elim (three-way i j) [
  | inl l ↦ inl (omega arith)
  | inr more ↦ elim more [ inl s ↦ inr (inl (ap (λ n. suc n) s)) | inr l ↦ inr (inr (omega arith)) ]
]

-- what stands at a place stands in front of a later one
pub take-get : {X : Type 0} (xs : List X) (i n : ℕ) (x : X) → i < n → slice_get xs i ≡ Some x → slice_get (take n xs) i ≡ Some x
take-get [] i n x l e = cc
take-get (y ∷ ys) i zero x l e = absurd (omega arith)
take-get (y ∷ ys) zero (suc n) x l e = e
take-get (y ∷ ys) (suc i) (suc n) x l e = take-get ys i n x (omega arith) e

pub get-taken : {X : Type 0} (xs : List X) (i n : ℕ) (x : X) → slice_get (take n xs) i ≡ Some x → (i < n) × (slice_get xs i ≡ Some x)
get-taken [] i zero x e = cc
get-taken [] i (suc n) x e = cc
get-taken (y ∷ ys) i zero x e = cc
get-taken (y ∷ ys) zero (suc n) x e = (omega arith, e)
get-taken (y ∷ ys) (suc i) (suc n) x e = let r = get-taken ys i n x e in (omega arith, r.1)

-- ---- names

pub same-bytes : (word : Field) → same_bytes word word ≡ true
same-bytes [] = refl
same-bytes (byte ∷ bytes) = ap (λ b. b && same_bytes bytes bytes) (eq-eqb byte byte refl) ∙ same-bytes bytes

-- a name that stands at a place is among the names
pub is_among-at : (names : List Field) (name : Field) (i : ℕ) → slice_get names i ≡ Some name → is_among names name ≡ true
is_among-at [] name i e = cc
is_among-at (first ∷ names) name zero e =
    or_left _ _ (ap (λ (t : Field). same_bytes name t) (some-same first name e) ∙ same-bytes name)
is_among-at (first ∷ names) name (suc i) e = or_right _ _ (is_among-at names name i e)

-- and a name that is among them stands at a place
pub place-among : (names : List Field) (name : Field) → is_among names name ≡ true → (i : ℕ) × (slice_get names i ≡ Some name)
place-among [] name e = cc
place-among (first ∷ names) name e = by (same_bytes name first) refl e (place-among names name) where
  by : (b : Bool) → same_bytes name first ≡ b → (b || is_among names name) ≡ true → (is_among names name ≡ true → (i : ℕ) × (slice_get names i ≡ Some name))
      → (i : ℕ) × (slice_get (first ∷ names) i ≡ Some name)
  by true t e later = (0, ap (λ (t : Field). Some t) (sym (same_text name first (sym t))))
  by false t e later = (suc (later e).0, (later e).1)

-- names that are each none of those before it differ
names-differ : (names : List Field) → ((place : ℕ) (name : Field) → slice_get names place ≡ Some name → is_among (take place names) name ≡ false) → AllDiffer names
names-differ names apart i j x e f = by (three-way i j) where
  no : (a b : ℕ) → a < b → slice_get names a ≡ Some x → slice_get names b ≡ Some x → ⊥
  no a b l e f = false≢true (sym (apart b x f) ∙ is_among-at (take b names) x a (take-get names a b x l e))

  by : (i < j) ⊎ (i ≡ j) ⊎ (j < i) → i ≡ j
  by (inl l) = absurd (no i j l e f)
  by (inr (inl s)) = s
  by (inr (inr l)) = absurd (no j i l f e)

pub header-fine : (header : Record) → check_header header ≡ Ok tt → (length header ≤ 16) × AllDiffer header
header-fine header e = elim (header-cases header (Ok tt) e) [
  | inl p ↦ cc
  | inr q ↦ (q.0, names-differ header (names-fine [] 1 header q.1))
]

-- ---- cells

cells-length : (place count : ℕ) (rows : List Record) → length (cells_from place count rows) ≡ count
unfolding cells_from
cells-length place zero rows = refl
cells-length place (suc count) rows = ap (λ n. suc n) (cells-length (place + 1) count rows)

cells-at : (place count : ℕ) (rows : List Record) (c : ℕ) → c < count → slice_get (cells_from place count rows) c ≡ Some (map (number_at (place + c)) rows)
unfolding cells_from
cells-at place zero rows c l = absurd (omega arith)
cells-at place (suc count) rows zero l = ap (λ (n : ℕ). Some (map (number_at n) rows)) (omega arith)
cells-at place (suc count) rows (suc c) l = cells-at (place + 1) count rows c (omega arith) ∙ ap (λ (n : ℕ). Some (map (number_at n) rows)) (omega arith)

pub row-at : (header : Record) (rows : List Record) (row : ℕ) → slice_get (header ∷ rows) (row + 1) ≡ slice_get rows row
row-at header rows row = rw add-one refl

-- a row that was read is full of numbers
row-even : (width : ℕ) (rows : List Record) → check_rows width 1 rows ≡ Ok tt → (row : ℕ) (fields : Record) → slice_get rows row ≡ Some fields
    → (1 + row ≤ 1000000) × (length fields ≡ width) × ((place : ℕ) (field : Field) → slice_get fields place ≡ Some field → is_number field ≡ true)
row-even width rows e row fields h = row-fine width (1 + row) fields (rows-fine width 1 rows e row fields h)

few-rows : (width : ℕ) (rows : List Record) → check_rows width 1 rows ≡ Ok tt → length rows ≤ 1000000
few-rows width rows e = by (length rows) refl where
  by : (n : ℕ) → length rows ≡ n → length rows ≤ 1000000
  by zero t = omega arith
  by (suc n) t =
      let here = row-even width rows e n (slice_index_or rows n []) (slice_get-get_or rows n [] (omega arith)) in
      let few = here.0 in
      omega arith

-- what was checked is a table
pub table : (header : Record) (rows : List Record) → check_header header ≡ Ok tt → check_rows (length header) 1 rows ≡ Ok tt
    → Tabulates (header ∷ rows) (record { names = header; cells = cells_from 0 (length header) rows })
table header rows fine even =
    let width = length header in
    record {
      header = refl;
      few_names = (header-fine header fine).0;
      names_differ = (header-fine header fine).1;
      few_rows = let few = few-rows width rows even in omega arith;
      rows_full = λ row fields h. (row-even width rows even row fields (sym (row-at header rows row) ∙ h)).1;
      numbers = spelled;
      column_each = cells-length 0 width rows;
      cell_each = each;
    }
  where
    spelled : (row column : ℕ) (fields : Record) (field : Field) → slice_get (header ∷ rows) (row + 1) ≡ Some fields → slice_get fields column ≡ Some field
        → (is_number field ≡ true) × (cell_at (record { names = header; cells = cells_from 0 (length header) rows }) row column ≡ Some (digits_value 10 field))
    spelled row column fields field h at =
        let there : slice_get rows row ≡ Some fields = sym (row-at header rows row) ∙ h in
        let here = row-even (length header) rows even row fields there in
        let inside = slice_get_within fields column field at in
        let full = here.1 in (
          here.2 column field at,
          ap (λ (o : Option (List ℕ)). option_and_then (λ cells. slice_get cells row) o) (cells-at 0 (length header) rows column (omega arith))
              ∙ slice_get-map (number_at (0 + column)) rows row
              ∙ ap (λ (o : Option Record). option_map (number_at (0 + column)) o) there
              ∙ ap (λ (n : ℕ). Some (number_at n fields)) (omega arith)
              ∙ ap (λ (t : Field). Some (digits_value 10 t)) (get_or_from_slice_get fields column field [] at),
        )

    each : (column : ℕ) (cells : List ℕ) → slice_get (cells_from 0 (length header) rows) column ≡ Some cells → length cells + 1 ≡ length (header ∷ rows)
    each column cells h =
        let inside = slice_get_within (cells_from 0 (length header) rows) column cells h in
        let wide = cells-length 0 (length header) rows in
        let same : map (number_at (0 + column)) rows ≡ cells = some-same _ _ (sym (cells-at 0 (length header) rows column (omega arith)) ∙ h) in
        let long : length cells ≡ length rows = ap (λ (t : List ℕ). length t) (sym same) ∙ length-map rows (number_at (0 + column)) in
        omega arith

-- ---- one table

and-then-some : (o : Option (List ℕ)) (row v : ℕ) → option_and_then (λ cells. slice_get cells row) o ≡ Some v → (cells : List ℕ) × (o ≡ Some cells) × (slice_get cells row ≡ Some v)
and-then-some None row v e = cc
and-then-some (Some cells) row v e = (cells, refl, e)

cell-value : (cells : List (List ℕ)) (row column v : ℕ) → option_and_then (λ cells. slice_get cells row) (slice_get cells column) ≡ Some v
    → slice_index_or (slice_index_or cells column []) row 0 ≡ v
cell-value cells row column v e =
    let at = and-then-some (slice_get cells column) row v e in
    rw (get_or_from_slice_get cells column at.0 [] at.1) (get_or_from_slice_get at.0 row v 0 at.2)

-- each column of a table has a cell for each row
column-long : (records : List Record) (columns : Columns) → Tabulates records columns → (column : ℕ) → column < length columns.cells
    → length (slice_index_or columns.cells column []) + 1 ≡ length records
column-long records columns t column l = t.cell_each column (slice_index_or columns.cells column []) (slice_get-get_or columns.cells column [] l)

-- a cell of a table is the number that its field spells
cell-of : (records : List Record) (columns : Columns) → Tabulates records columns → (column row : ℕ) → column < length columns.names → row + 1 < length records
    → slice_index_or (slice_index_or columns.cells column []) row 0 ≡ digits_value 10 (slice_index_or (slice_index_or records (row + 1) []) column [])
cell-of records columns t column row l m =
    let fields = slice_index_or records (row + 1) [] in
    let there : slice_get records (row + 1) ≡ Some fields = slice_get-get_or records (row + 1) [] m in
    let full = t.rows_full row fields there in
    let field = slice_index_or fields column [] in
    let at : slice_get fields column ≡ Some field = slice_get-get_or fields column [] (omega arith) in
    cell-value columns.cells row column (digits_value 10 field) (t.numbers row column fields field there at).1

-- two tables of the same records are one
pub one-table : (records : List Record) (one other : Columns) → Tabulates records one → Tabulates records other → one ≡ other
one-table records one other a b = by one.names other.names one.cells other.cells names cells where
  names : one.names ≡ other.names
  names = some-same _ _ (sym a.header ∙ b.header)

  wide : length other.cells ≡ length one.cells
  wide = b.column_each ∙ ap (λ (t : List Field). length t) (sym names) ∙ sym a.column_each

  cell : (column row : ℕ) → column < length one.cells → row < length (slice_index_or one.cells column [])
      → slice_index_or (slice_index_or one.cells column []) row 0 ≡ slice_index_or (slice_index_or other.cells column []) row 0
  cell column row l m =
      let long = column-long records one a column l in
      let each = a.column_each in
      let other_each = b.column_each in
      let w = wide in
      cell-of records one a column row (omega arith) (omega arith) ∙ sym (cell-of records other b column row (omega arith) (omega arith))

  column : (c : ℕ) → c < length one.cells → slice_index_or one.cells c [] ≡ slice_index_or other.cells c []
  column c l =
      let w = wide in
      let long = column-long records one a c l in
      let other_long = column-long records other b c (omega arith) in
      ext_get_or 0 _ _ (omega arith) (λ row m. cell c row l m)

  cells : one.cells ≡ other.cells
  cells = ext_get_or [] one.cells other.cells (sym wide) column

  by : (n m : List Field) (c d : List (List ℕ)) → n ≡ m → c ≡ d → ◌≡◌ {A = Columns} (record { names = n; cells = c }) (record { names = m; cells = d })
  by n m c d p q = rw (p, q) refl
