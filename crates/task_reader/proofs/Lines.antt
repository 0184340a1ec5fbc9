-- No two parts of a program stand at one line.
use Rattle.task_reader.proofs.Vocabulary.{◌≡◌, ℕ, zero, suc, ◌+◌, ◌<◌, ◌≤◌, Bool, true, false, cond, nat_eq, Some, List, [], ◌∷◌, ◌++◌, map, slice_get, refl, sym, ap, subst, arith, eqb-true, eq-eqb, flat_map, AllDiffer, lines_of_state, lines_of_kind, Root, Line, differ-nil, differ-cons, Word, Row, words_of, code_of, with_row, rows_from, What, Item, Scope, after, RowsSpellFrom, IsInside, state_names, Positions, code_from, states_from, variables_from, kind_of, kinds_from, root_of, roots_from, some-same}
use Rattle.task_reader.proofs.Stands.{Stand, item_at, no-outside, kind-behind}

-- ---- how often a number stands in a list

abbrev pub times : ℕ → List ℕ → ℕ
times x [] = 0
times x (y ∷ ys) = cond (nat_eq x y) 1 0 + times x ys

times-append : (x : ℕ) (xs ys : List ℕ) → times x (xs ++ ys) ≡ times x xs + times x ys
times-append x [] ys = omega arith
times-append x (y ∷ xs) ys = omega (arith, times-append x xs ys)

times-here : (x : ℕ) (ys : List ℕ) → times x (x ∷ ys) ≡ 1 + times x ys
times-here x ys = ap (λ b. cond b 1 0 + times x ys) (eq-eqb x x refl)

times-at : (xs : List ℕ) (j x : ℕ) → slice_get xs j ≡ Some x → 1 ≤ times x xs
times-at [] j x e = cc
times-at (y ∷ ys) zero x e = let s : y ≡ x = some-same y x e in
    omega (arith, times-here x ys, ap (λ v. times x (v ∷ ys)) s)
times-at (y ∷ ys) (suc j) x e = omega (arith, times-at ys j x e)

differ-from-times : (xs : List ℕ) → ((x : ℕ) → times x xs ≤ 1) → AllDiffer xs
differ-from-times [] once = differ-nil
differ-from-times (y ∷ ys) once = differ-cons y ys
    (λ j e. omega (arith, once y, times-here y ys, times-at ys j y e))
    (differ-from-times ys (λ x. omega (arith, once x)))

-- ---- the lines of rows and items rise

abbrev pub RowsRise : ℕ → List Row → Type 0
RowsRise n [] = Unit {0}
RowsRise n (row ∷ rows) = (n ≤ row.line) × RowsRise (row.line + 1) rows

abbrev pub ItemsRise : ℕ → List Item → Type 0
ItemsRise n [] = Unit {0}
ItemsRise n (item ∷ items) = (n ≤ item.line) × ItemsRise (item.line + 1) items

rise-later : (n m : ℕ) (rows : List Row) → n ≤ m → RowsRise m rows → RowsRise n rows
rise-later n m [] le r = tt
rise-later n m (row ∷ rows) le r = (omega (arith, le, r.0), r.1)

row-rises : (line : ℕ) (words : List Word) (rows : List Row) → RowsRise (line + 1) rows → RowsRise line (with_row line words rows)
row-rises line [] rows r = rise-later line (line + 1) rows (omega arith) r
row-rises line (word ∷ words) rows r = (omega arith, r)

pub rows-rise : (lines : List (List ℕ)) (line : ℕ) → RowsRise line (rows_from line lines)
rows-rise [] line = tt
rows-rise (first ∷ rest) line = row-rises line (words_of (code_of first)) (rows_from (line + 1) rest) (rows-rise rest (line + 1))

pub items-rise : (n : ℕ) (s : Scope) (rows : List Row) (items : List Item) → RowsRise n rows → RowsSpellFrom s rows items → ItemsRise n items
items-rise n s rows [] r spelled = tt
items-rise n s [] (item ∷ items) r spelled = absurd spelled
items-rise n s (row ∷ rows) (item ∷ items) r spelled =
    (omega (arith, r.0, spelled.0), subst (λ l. ItemsRise (l + 1) items) (sym spelled.0) (items-rise (row.line + 1) (after s item.what) rows items r.1 spelled.3))

abbrev pub item_lines : List Item → List ℕ
item_lines items = map (λ (i : Item). i.line) items

times-before : (n x : ℕ) (items : List Item) → ItemsRise n items → x < n → times x (item_lines items) ≡ 0
times-before n x [] r lt = refl
times-before n x (item ∷ items) r lt = by (nat_eq x item.line) refl (times-before (item.line + 1) x items r.1 (omega (arith, r.0, lt))) where
  by : (b : Bool) → nat_eq x item.line ≡ b → times x (item_lines items) ≡ 0 → cond b 1 0 + times x (item_lines items) ≡ 0
  by true e later = absurd (omega (arith, eqb-true x item.line e, r.0, lt))
  by false e later = omega arith

times-once : (n x : ℕ) (items : List Item) → ItemsRise n items → times x (item_lines items) ≤ 1
times-once n x [] r = omega arith
times-once n x (item ∷ items) r = by (nat_eq x item.line) refl (times-once (item.line + 1) x items r.1) where
  by : (b : Bool) → nat_eq x item.line ≡ b → times x (item_lines items) ≤ 1 → cond b 1 0 + times x (item_lines items) ≤ 1
  by true e later = omega (arith, times-before (item.line + 1) x items r.1 (omega (arith, eqb-true x item.line e)))
  by false e later = omega arith

-- ---- each part of the program stands at the line of an item of its own

abbrev code_lines : Positions → ℕ → List Item → List ℕ
code_lines positions at items = map (λ (l : Line). l.line) (code_from positions at items)

abbrev state_lines : Positions → List Item → List ℕ
state_lines positions items = flat_map lines_of_state (states_from positions items)

abbrev kind_lines : List (List ℕ) → List Item → List ℕ
kind_lines kinds items = flat_map lines_of_kind (kinds_from kinds items)

abbrev root_lines : List (List ℕ) → List (List ℕ) → List Item → List ℕ
root_lines kinds earlier items = map (λ (r : Root). r.line) (roots_from kinds earlier items)

pub record LinesCount (x : ℕ) (kinds : List (List ℕ)) (s : Scope) (items : List Item) : Type 0 where
  pub outside : (earlier : List (List ℕ)) → times x (kind_lines kinds items) + times x (root_lines kinds earlier items) ≤ times x (item_lines items)
  pub in_kind : IsInside s.place → (positions : Positions) (at : ℕ) (earlier : List (List ℕ))
      → times x (code_lines positions at items) + times x (state_lines positions items) + times x (kind_lines kinds items) + times x (root_lines kinds earlier items) ≤ times x (item_lines items)

abbrev Counted : ℕ → List (List ℕ) → List Item → Type 0
Counted x kinds items = (s : Scope) → Stand s items → LinesCount x kinds s items

counted-step : (x : ℕ) (kinds : List (List ℕ)) (line : ℕ) (w : What) (items : List Item) → Counted x kinds items → Counted x kinds (item_at line w ∷ items)
unfolding code_from states_from kind_of kinds_from root_of roots_from
counted-step x kinds line (What.Kind name arguments) items further s stand =
    let positions : Positions = record { kinds = kinds; variables = arguments ++ variables_from items; states = state_names items } in
    let later = further (after s (What.Kind name arguments)) stand.2 in
    record {
      outside = λ earlier. omega (arith, times-append x (state_lines positions items) (kind_lines kinds items), later.in_kind tt positions 0 earlier);
      in_kind = λ in_kind positions at earlier. absurd (no-outside s.place in_kind stand.1.0);
    }
counted-step x kinds line (What.Var more) items further s stand =
    let later = further (after s (What.Var more)) stand.2 in
    record {
      outside = λ earlier. omega (arith, later.outside earlier);
      in_kind = λ in_kind positions at earlier. omega (arith, later.in_kind in_kind positions 0 earlier);
    }
counted-step x kinds line (What.State name holds settled) items further s stand =
    let later = further (after s (What.State name holds settled)) stand.2 in
    record {
      outside = λ earlier. omega (arith, later.outside earlier);
      in_kind = λ in_kind positions at earlier. omega (arith, times-append x (code_lines positions 0 items) (state_lines positions items), later.in_kind tt positions 0 earlier);
    }
counted-step x kinds line (What.Step step) items further s stand =
    let later = further (after s (What.Step step)) stand.2 in
    record {
      outside = λ earlier. omega (arith, later.outside earlier);
      in_kind = λ in_kind positions at earlier. omega (arith, later.in_kind (kind-behind step) positions (at + 1) earlier);
    }
counted-step x kinds line What.End items further s stand =
    let later = further (after s What.End) stand.2 in
    record {
      outside = λ earlier. omega (arith, later.outside earlier);
      in_kind = λ in_kind positions at earlier. omega (arith, later.outside earlier);
    }
counted-step x kinds line (What.Root name kind arguments behind priority) items further s stand =
    let later = further (after s (What.Root name kind arguments behind priority)) stand.2 in
    record {
      outside = λ earlier. omega (arith, later.outside (earlier ++ name ∷ []));
      in_kind = λ in_kind positions at earlier. absurd (no-outside s.place in_kind stand.1.0);
    }

counted : (x : ℕ) (kinds : List (List ℕ)) (items : List Item) → Counted x kinds items
unfolding code_from states_from kinds_from roots_from
counted x kinds [] s stand = record {
  outside = λ earlier. omega arith;
  in_kind = λ in_kind positions at earlier. omega arith;
}
counted x kinds (item ∷ items) s stand = counted-step x kinds item.line item.what items (counted x kinds items) s stand

-- the lines of the kinds and roots that items give all differ
pub lines-differ : (kinds earlier : List (List ℕ)) (items : List Item) (s : Scope) (n : ℕ) → Stand s items → ItemsRise n items
    → AllDiffer (kind_lines kinds items ++ root_lines kinds earlier items)
lines-differ kinds earlier items s n stand rise = differ-from-times (kind_lines kinds items ++ root_lines kinds earlier items)
    (λ x. omega (arith, times-append x (kind_lines kinds items) (root_lines kinds earlier items), (counted x kinds items s stand).outside earlier, times-once n x items rise))
