-- The column of a name is the one at its place.
use Rattle.std.proofs.Common.{◌≡◌, ℕ, zero, suc, ◌+◌, Bool, true, false, cond, Some, List, [], ◌∷◌, length, slice_get, refl, sym, ◌∙◌, ap, arith}
use Rattle.std.specs.Option.{option_and_then}
use Rattle.std.specs.Cmp.Lexicographic.{same_text}
use Rattle.task_syntax.specs.Names.{same_bytes}
use Rattle.task_syntax.specs.Places.{AllDiffer}
use Rattle.task_syntax.specs.Columns.{cell_of, cells_beside, rows_of}
use Rattle.task_syntax.specs.declared.columns.Columns.{Columns}
use Rattle.task_syntax.proofs.Differ.{differ-head, differ-tail}
use Rattle.column_input.specs.Records.{Field, Record}
use Rattle.column_input.specs.Table.{Tabulates, cell_at}
use Rattle.column_input.proofs.Tabulated.{same-bytes, some-same}

-- a name that stands further behind is another one
other-name : (first name : Field) (names : List Field) (place : ℕ) → AllDiffer (first ∷ names) → slice_get names place ≡ Some name → same_bytes name first ≡ false
other-name first name names place apart e = by (same_bytes name first) refl where
  by : (b : Bool) → same_bytes name first ≡ b → same_bytes name first ≡ false
  by true t =
      let same : name ≡ first = same_text name first (sym t) in
      absurd (differ-head first names apart place (e ∙ ap (λ (n : Field). Some n) same))
  by false t = t

beside : (names : List Field) (cells : List (List ℕ)) (place : ℕ) (name : Field) → AllDiffer names → length cells ≡ length names → slice_get names place ≡ Some name
    → slice_get cells place ≡ Some (cells_beside name names cells)
beside [] cells place name apart full e = cc
beside (first ∷ names) [] place name apart full e = absurd (omega arith)
beside (first ∷ names) (column ∷ cells) zero name apart full e =
    let same : same_bytes name first ≡ true = ap (λ (n : Field). same_bytes name n) (some-same first name e) ∙ same-bytes name in
    ap (λ b. Some (cond b column (cells_beside name names cells))) (sym same)
beside (first ∷ names) (column ∷ cells) (suc place) name apart full e =
    beside names cells place name (differ-tail first names apart) (omega arith) e
    ∙ ap (λ b. Some (cond b column (cells_beside name names cells))) (sym (other-name first name names place apart e))

pub name-finds : (records : List Record) (columns : Columns) → Tabulates records columns → (place : ℕ) (name : Field) → slice_get columns.names place ≡ Some name
    → (rows_of columns name + 1 ≡ length records) × ((row : ℕ) → cell_of columns name row ≡ cell_at columns row place)
name-finds records columns t place name e =
    let here = beside columns.names columns.cells place name t.names_differ t.column_each e in
    (t.cell_each place (cells_beside name columns.names columns.cells) here, λ row. ap (λ o. option_and_then (λ cells. slice_get cells row) o) (sym here))
