-- One turn over the rows of a text: another item, a fault, and the end.
use Rattle.task_lines.proofs.Vocabulary.{◌≡◌, ◌≢◌, ℕ, ◌+◌, ◌≤◌, List, [], ◌∷◌, ◌++◌, length, drop, Some, None, Result, Ok, Err, refl, sym, ap, append-nil, arith, Fault, NoEnd, TextError, fault_at, Gives, Row, Scan, start_of, first_start, What, Item, Place, Outside, Head, Code, Jumped, Ended, Scope, after, line_of, items_from, append_assoc, ◌>>=◌}

-- the items that are read, behind those found before
abbrev pub behind : List Item → Result (List Item) Fault → Result (List Item) Fault
behind found (Ok more) = Ok (found ++ more)
behind found (Err fault) = Err fault

pub behind_none : (reading : Result (List Item) Fault) → reading ≡ behind [] reading
behind_none (Ok more) = refl
behind_none (Err fault) = refl

behind_one : (found : List Item) (item : Item) (reading : Result (List Item) Fault)
    → behind found (reading >>= (λ items. Ok (item ∷ items))) ≡ behind (found ++ item ∷ []) reading
behind_one found item (Ok more) = ap Ok (sym (append_assoc found (item ∷ []) more))
behind_one found item (Err fault) = refl

one_row : (last : ℕ) (s : Scope) (row : Row) (rows : List Row) (found : List Item) (w : What)
    → line_of s row ≡ Ok w
    → behind found (items_from last s (row ∷ rows)) ≡ behind (found ++ record { line = row.line; what = w } ∷ []) (items_from last (after s w) rows)
unfolding items_from
one_row last s row rows found w e = rw e (behind_one found (record { line = row.line; what = w }) (items_from last (after s w) rows))

-- another item is read
pub one_item : (last : ℕ) (s t : Scope) (rows : List Row) (at : Scan) (found : List Item) (item : Item)
    → Some at ≡ first_start rows → line_of s (record { line = at.line; words = at.left }) ≡ Ok item.what → item.line ≡ at.line → t ≡ after s item.what
    → behind found (items_from last s rows) ≡ behind (found ++ item ∷ []) (items_from last t (drop 1 rows))
one_item last s t [] at found item start read line scope = cc
one_item last s t (row ∷ rows) at found item start read line scope =
    let e : at ≡ start_of row = cc in
    let r = rw e at read in
    let l = rw e at line in
    rw (scope, one_row last s row rows found item.what r) (ap (λ n. behind (found ++ record { line = n; what = item.what } ∷ []) (items_from last (after s item.what) rows)) (sym l))

-- a row is at fault
pub row_fails : (last : ℕ) (s : Scope) (rows : List Row) (at : Scan) (found : List Item) (fault : Fault)
    → Some at ≡ first_start rows → line_of s (record { line = at.line; words = at.left }) ≡ Err fault
    → behind found (items_from last s rows) ≡ Err fault
unfolding items_from
row_fails last s [] at found fault start read = cc
row_fails last s (row ∷ rows) at found fault start read =
    let e : at ≡ start_of row = cc in
    let r = rw e at read in
    rw r refl

-- the same, or memory fails
pub row_fails_or : (last : ℕ) (s : Scope) (rows : List Row) (at : Scan) (found : List Item) (e : TextError)
    → Some at ≡ first_start rows → Gives {A = Item} {B = What} (λ item. item.what) (Err e) (line_of s (record { line = at.line; words = at.left }))
    → Gives {A = List Item} {B = List Item} (λ items. items) (Err e) (behind found (items_from last s rows))
row_fails_or last s rows at found (TextError.Fault fault) start read = row_fails last s rows at found fault start read
row_fails_or last s rows at found TextError.Memory start read = tt

-- no row is left
pub rows_end : (last : ℕ) (s : Scope) (rows : List Row) (found : List Item)
    → first_start rows ≡ None → s.place ≡ Outside → behind found (items_from last s rows) ≡ Ok found
unfolding items_from
rows_end last s [] found none outside = rw outside (ap Ok (append-nil found))
rows_end last s (row ∷ rows) found none outside = cc

-- no row is left, and something is open
pub rows_stop : (last : ℕ) (s : Scope) (rows : List Row) (found : List Item)
    → first_start rows ≡ None → s.place ≢ Outside → behind found (items_from last s rows) ≡ Err (fault_at NoEnd last 0)
unfolding items_from
rows_stop last s (row ∷ rows) found none inside = cc
rows_stop last s [] found none inside = by s.place refl where
  by : (place : Place) → s.place ≡ place → behind found (items_from last s []) ≡ Err (fault_at NoEnd last 0)
  by Outside e = absurd (inside e)
  by Head e = rw e refl
  by Code e = rw e refl
  by Jumped e = rw e refl
  by Ended e = rw e refl

-- the steps of a state are at most the lines read
pub steps_counted : (s : Scope) (w : What) → (after s w).steps ≤ s.steps + 1
steps_counted s (What.Kind name arguments) = omega arith
steps_counted s _ = omega arith

-- a row is taken
pub one_less : (rows : List Row) (at : Scan) → Some at ≡ first_start rows → length (drop 1 rows) + 1 ≡ length rows
one_less [] at start = cc
one_less (row ∷ rows) at start = omega arith
