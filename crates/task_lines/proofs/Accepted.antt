-- What the rows of a text spell is read from it.
use Rattle.task_lines.proofs.Vocabulary.{◌≡◌, ℕ, Bool, false, cond, List, [], ◌∷◌, length, Result, Ok, Err, refl, sym, ◌∙◌, ap, subst, codes, NoEnd, Fault, fault_at, Row, lines_of, without_mark, rows_of, Scan, start_of, check_text, whole, Answers, whole-answers, What, Item, Place, Outside, Head, Ended, Scope, first_scope, after, header_line, read_line, is_open_state, is_cut_short, line_of, items_from, rows_behind_header, items_of, Spells, MayBegin, MayStand, RowsSpellFrom, RowsSpell, tested, then-answers, tested-answers, header_word, ◌>>=◌}
use Rattle.task_lines.proofs.AcceptedText.{text-checked, spelled-text}
use Rattle.task_lines.proofs.AcceptedLines.{line-answers}

-- one after the other
pub goes-on : {A B : Type 0} (o : Result A Fault) (f : A → Result B Fault) (a : A) (b : B) → o ≡ Ok a → f a ≡ Ok b → o >>= f ≡ Ok b
goes-on o f a b e g = ap (λ (p : Result _ Fault). p >>= f) e ∙ g

no-open-state : (place : Place) → MayBegin place → is_open_state place ≡ false
no-open-state Head h = refl
no-open-state Ended h = refl
no-open-state place h = absurd h

-- a line that may stand cuts nothing short
not-cut : (scope : Scope) (w : What) → MayStand scope w → is_cut_short scope.place w ≡ false
not-cut scope (What.State name holds settled) may = no-open-state scope.place may.0
not-cut scope What.End may = ap (λ p. is_cut_short p What.End) may
not-cut scope w may = refl

pub row-accepted : (scope : Scope) (row : Row) (w : What) → Spells row.words w → MayStand scope w → line_of scope row ≡ Ok w
unfolding line_of
row-accepted scope row w spells may =
    goes-on (check_text row) _ tt w (text-checked row.words (spelled-text row.words w spells) row.line 1)
    (goes-on (whole (read_line scope) row) _ w w (whole-answers (read_line scope) row w (line-answers scope row.words w spells may (start_of row) refl))
    (ap (λ (b : Bool). cond {A = Result What Fault} b (Err (fault_at NoEnd row.line 0)) (Ok w)) (not-cut scope w may)))

end-accepted : (last : ℕ) (place : Place) → place ≡ Outside → ◌≡◌ {A = Result (List Item) Fault} (elim place [ Outside ↦ Ok [] | _ ↦ Err (fault_at NoEnd last 0) ]) (Ok [])
end-accepted last Outside e = refl
end-accepted last place e = cc

same-item : (i j : Item) → i.line ≡ j.line → i.what ≡ j.what → i ≡ j
same-item i j a b = ap by_line a ∙ ap by_what b where
  by_line : ℕ → Item
  by_line line = record { line = line; what = i.what }

  by_what : What → Item
  by_what w = record { line = j.line; what = w }

rows-accepted : (last : ℕ) (rows : List Row) (scope : Scope) (items : List Item) → RowsSpellFrom scope rows items → items_from last scope rows ≡ Ok items
unfolding items_from
rows-accepted last [] scope [] h = end-accepted last scope.place h
rows-accepted last [] scope (item ∷ items) h = absurd h
rows-accepted last (row ∷ rows) scope [] h = absurd h
rows-accepted last (row ∷ rows) scope (item ∷ items) h =
    let same = same-item (record { line = row.line; what = item.what }) item (sym h.0) refl in
    goes-on (line_of scope row) _ item.what (item ∷ items) (row-accepted scope row item.what h.1 h.2)
    (goes-on (items_from last (after scope item.what) rows) _ items (item ∷ items) (rows-accepted last rows (after scope item.what) items h.3)
    (ap (λ (i : Item). Ok (i ∷ items)) same))

header-answers : (s : Scan) → s.left ≡ codes "ktask" ∷ codes "1" ∷ [] → Answers header_line s tt []
unfolding header_line
header-answers s e =
    then-answers (tested (header_word (codes "ktask")) (λ _. tt {0})) (λ _. tested (header_word (codes "1")) (λ _. tt {0})) s tt tt (codes "1" ∷ []) []
    (tested-answers (header_word (codes "ktask")) (λ _. tt {0}) s (codes "ktask") (codes "1" ∷ []) (refl, tt) e)
    (λ t e. tested-answers (header_word (codes "1")) (λ _. tt {0}) t (codes "1") [] (refl, tt) e)

pub header-accepted : (header : Row) (rows : List Row) → header.words ≡ codes "ktask" ∷ codes "1" ∷ [] → rows_behind_header (header ∷ rows) ≡ Ok rows
unfolding rows_behind_header
header-accepted header rows words =
    goes-on (check_text header) _ tt rows (subst (λ ws. check_text (record { line = header.line; words = ws }) ≡ Ok tt) (sym words) (text-checked (codes "ktask" ∷ codes "1" ∷ []) (refl, (refl, tt)) header.line 1))
    (goes-on (whole header_line header) _ tt rows (whole-answers header_line header tt (header-answers (start_of header) words)) refl)

text-accepted : (last : ℕ) (rows : List Row) (items : List Item) → RowsSpell rows items → (rows_behind_header rows >>= λ (behind : List Row). items_from last first_scope behind) ≡ Ok items
text-accepted last [] items h = absurd h
text-accepted last (row ∷ rows) items h =
    goes-on (rows_behind_header (row ∷ rows)) (λ behind. items_from last first_scope behind) rows items (header-accepted row rows h.0) (rows-accepted last rows first_scope items h.1)

-- what the rows of a text spell is what is read from it
pub items_of-accepted : (text : List ℕ) (items : List Item) → RowsSpell (rows_of text) items → items_of text ≡ Ok items
unfolding items_of
items_of-accepted text items h = text-accepted (length (lines_of (without_mark text))) (rows_of text) items h
