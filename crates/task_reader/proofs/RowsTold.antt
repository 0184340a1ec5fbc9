-- The first fault of the rows of a text is what the reading gives.
use Rattle.task_reader.proofs.Vocabulary.{◌≡◌, ◌≢◌, ℕ, ◌+◌, Bool, true, cond, Option, Some, None, List, [], ◌∷◌, ◌++◌, length, Result, Ok, Err, refl, sym, ◌∙◌, ap, subst, inl, inr, arith, codes, differ-nil, Cause, NotText, NoEnd, UnknownWord, Fault, fault_at, Word, Row, lines_of, without_mark, rows_of, start_of, is_text, check_text, whole, ArePresent, RowsPresent, rows-present, read-whole, whole-words, What, Item, Place, Outside, Head, Ended, Scope, first_scope, after, opening, header_line, read_line, is_cut_short, line_of, items_from, rows_behind_header, items_of, Spells, row-accepted, header-accepted, AreNew, line-taken, new-after, Asked, cause_of, header_asked, opened_by, line_asked, word_at, IsRefusedAt, AreAsAsked, IsNoTextAt, AreText, RowFault, EndsTooSoon, LeadTo, LineFault, no_row, in_header, in_row, too_soon, left_open, is_open_state, check_words}
use Rattle.task_text.specs.Fault.{◌>>=◌}
use Rattle.task_reader.proofs.AskedWords.{RowAgrees, whole-agrees}
use Rattle.task_reader.proofs.AskedLines.{line-agrees, header-agrees}
use Rattle.task_reader.proofs.AskedPlaces.{refused-found, none-refused}
use Rattle.task_reader.proofs.FirstFailing.{first-answered, all-answered, no_text, text-tests}
use Rattle.task_reader.proofs.FirstFaults.{cuts, cuts-is, first-word}

-- ---- single rows

pub same-fault : (f g : Fault) → f.cause ≡ g.cause → f.line ≡ g.line → f.word ≡ g.word → f ≡ g
same-fault f g a b c =
    ap (λ cause. fault_at cause f.line f.word) a ∙ (ap (λ line. fault_at g.cause line f.word) b ∙ ap (λ word. fault_at g.cause g.line word) c)

-- bytes that are no text are what the test of a row finds
text-told : (row : Row) (fault : Fault) (place : ℕ) → fault.line ≡ row.line → fault.word ≡ place + 1 → fault.cause ≡ NotText → IsNoTextAt row.words place → check_text row ≡ Err fault
text-told row fault place line word cause h =
    first-answered is_text (no_text row.line) (check_words row.line) (text-tests row.line) 1 row.words place h
    ∙ ap (λ (f : Fault). Err f) (same-fault (no_text row.line (1 + place)) fault (sym cause) (sym line) (omega (arith, word)))

-- a row whose words are text passes the test
text-clear : (row : Row) → AreText row.words → check_text row ≡ Ok tt
text-clear row text = all-answered is_text (no_text row.line) (check_words row.line) (text-tests row.line) 1 row.words text

pair-is : (c d : Cause) (m n : ℕ) → ◌≡◌ {A = Option (Cause × ℕ)} (Some (c, m)) (Some (d, n)) → ◌≡◌ {A = Cause × ℕ} (c, m) (d, n)
pair-is c d m n e = ap (λ (o : Option (Cause × ℕ)). elim o [ None ↦ (c, m) | Some p ↦ p ]) e

-- a word that may not stand is what the reading of a row finds
word-told : {A : Type 0} (o : Result A Fault) (asked : Asked) (row : Row) (fault : Fault) (place : ℕ) → RowAgrees o row asked
    → fault.line ≡ row.line → fault.word ≡ place + 1 → IsRefusedAt asked row.words place fault.cause → o ≡ Err fault
word-told (Ok a) asked row fault place agrees line word h =
    let c : ◌≡◌ {A = Option (Cause × ℕ)} None (Some (fault.cause, 1 + place)) = sym agrees ∙ refused-found asked 1 row.words place fault.cause h in cc
word-told (Err f) asked row fault place agrees line word h =
    let p = pair-is f.cause fault.cause f.word (1 + place) (sym agrees.1 ∙ refused-found asked 1 row.words place fault.cause h) in
    ap (λ (f : Fault). Err f) (same-fault f fault (ap (λ (p : Cause × ℕ). p.0) p) (agrees.0 ∙ sym line) (ap (λ (p : Cause × ℕ). p.1) p ∙ omega (arith, word)))

-- what is read of a row each word of which may stand
word-clear : {A : Type 0} (o : Result A Fault) (asked : Asked) (row : Row) → RowAgrees o row asked → AreAsAsked asked row.words → (a : A) × (o ≡ Ok a)
word-clear (Ok a) asked row agrees all = (a, refl)
word-clear (Err f) asked row agrees all =
    let c : ◌≡◌ {A = Option (Cause × ℕ)} None (Some (f.cause, f.word)) = sym (none-refused asked 1 row.words all) ∙ agrees.1 in cc

-- ---- lines

pub stops : {A B : Type 0} (o : Result A Fault) (f : A → Result B Fault) (fault : Fault) → o ≡ Err fault → o >>= f ≡ Err fault
stops o f fault e = ap (λ (p : Result _ Fault). p >>= f) e

goes-on : {A B : Type 0} (o : Result A Fault) (f : A → Result B Fault) (a : A) (r : Result B Fault) → o ≡ Ok a → f a ≡ r → o >>= f ≡ r
goes-on o f a r e g = ap (λ (p : Result _ Fault). p >>= f) e ∙ g

-- the fault of a row is that of its line
pub row-told : (scope : Scope) (row : Row) (fault : Fault) → ArePresent row.words → RowFault (line_asked scope) row fault → line_of scope row ≡ Err fault
unfolding line_of
row-told scope row fault present (line, place, word, inl h) = stops (check_text row) _ fault (text-told row fault place line word h.0 h.1)
row-told scope row fault present (line, place, word, inr h) =
    goes-on (check_text row) _ tt (Err fault) (text-clear row h.0)
    (stops (whole (read_line scope) row) _ fault
    (word-told (whole (read_line scope) row) (line_asked scope) row fault place (whole-agrees (read_line scope) row (line_asked scope) present (line-agrees scope (start_of row))) line word h.1))

-- no state or end is read outside of kinds
open-state : (place : Place) → place ≢ Outside → place ≢ Head → place ≢ Ended → is_open_state place ≡ true
open-state Outside o h e = absurd (o refl)
open-state Head o h e = absurd (h refl)
open-state Ended o h e = absurd (e refl)
open-state _ o h e = refl

end-cuts : (place : Place) → place ≢ Outside → place ≢ Ended → is_cut_short place What.End ≡ true
end-cuts Outside o e = absurd (o refl)
end-cuts Ended o e = absurd (e refl)
end-cuts Head o e = refl
end-cuts _ o e = refl

outside-unlike : (scope : Scope) (words : List Word) (word : Word) → word_at words 0 ≡ word → cause_of (opened_by scope (opening Outside word)) word ≡ Some UnknownWord → scope.place ≡ Outside
    → AreAsAsked (line_asked scope) words → ⊥
outside-unlike scope words word first unknown outside all =
    let here : cause_of (opened_by scope (opening scope.place (word_at words 0))) (word_at words 0) ≡ None = all 0 (omega arith) in
    let there : cause_of (opened_by scope (opening scope.place (word_at words 0))) (word_at words 0) ≡ Some UnknownWord =
    ap (λ w. cause_of (opened_by scope (opening scope.place w)) w) first ∙ (ap (λ p. cause_of (opened_by scope (opening p word)) word) outside ∙ unknown) in
    let c : ◌≡◌ {A = Option Cause} None (Some UnknownWord) = sym here ∙ there in cc

soon-cuts : (scope : Scope) (words : List Word) → AreAsAsked (line_asked scope) words → EndsTooSoon scope.place (word_at words 0) → cuts scope.place (word_at words 0) ≡ true
soon-cuts scope words all (inl h) =
    ap (cuts scope.place) h.0 ∙ open-state scope.place (λ o. outside-unlike scope words (codes "state") h.0 refl o all) h.1 h.2
soon-cuts scope words all (inr h) = ap (cuts scope.place) h.0 ∙ end-cuts scope.place (λ o. outside-unlike scope words (codes "end") h.0 refl o all) h.1

ends-cut : (scope : Scope) (words : List Word) (w : What) → Spells words w → AreAsAsked (line_asked scope) words → EndsTooSoon scope.place (word_at words 0) → is_cut_short scope.place w ≡ true
ends-cut scope words w spelled all soon = cuts-is scope.place w ∙ (ap (cuts scope.place) (first-word words w spelled) ∙ soon-cuts scope words all soon)

-- a line that ends a state or a kind too soon is at fault
soon-told : (scope : Scope) → AreNew 255 scope.variables → (row : Row) → ArePresent row.words → AreText row.words → AreAsAsked (line_asked scope) row.words
    → EndsTooSoon scope.place (word_at row.words 0) → line_of scope row ≡ Err (fault_at NoEnd row.line 0)
unfolding line_of
soon-told scope new row present text all soon =
    let got = word-clear (whole (read_line scope) row) (line_asked scope) row (whole-agrees (read_line scope) row (line_asked scope) present (line-agrees scope (start_of row))) all in
    let r = read-whole (read_line scope) row got.0 got.1 in
    let t = line-taken scope new (start_of row) (got.0, r.end) r.reads in
    let words = whole-words row t.words r.end present t.left r.missing in
    let cut = ends-cut scope row.words got.0 (subst (λ ws. Spells ws got.0) (sym words) t.spells) all soon in
    goes-on (check_text row) _ tt (Err (fault_at NoEnd row.line 0)) (text-clear row text)
    (goes-on (whole (read_line scope) row) _ got.0 (Err (fault_at NoEnd row.line 0)) got.1
    (ap (λ (b : Bool). cond {A = Result What Fault} b (Err (fault_at NoEnd row.line 0)) (Ok got.0)) cut))

-- ---- rows

-- the scope behind lines that may stand still has different variables
new-behind : (rows : List Row) (scope end : Scope) → AreNew 255 scope.variables → LeadTo scope rows end → AreNew 255 end.variables
new-behind [] scope end new h = subst (λ (s : Scope). AreNew 255 s.variables) h new
new-behind (row ∷ rows) scope end new h = new-behind rows (after scope h.0) end (new-after scope h.0 h.2 new) h.3

present-at : (before others : List Row) (row : Row) → RowsPresent (before ++ row ∷ others) → ArePresent row.words
present-at [] others row h = h.0
present-at (first ∷ before) others row h = present-at before others row h.1

-- behind lines that may stand, a line at fault is the fault of the rows
rows-told : (last : ℕ) (before others : List Row) (scope end : Scope) (row : Row) (fault : Fault) → LeadTo scope before end → line_of end row ≡ Err fault
    → items_from last scope (before ++ row ∷ others) ≡ Err fault
unfolding items_from
rows-told last [] others scope end row fault lines e = stops (line_of scope row) _ fault (subst (λ (s : Scope). line_of s row ≡ Err fault) (sym lines) e)
rows-told last (first ∷ before) others scope end row fault lines e =
    goes-on (line_of scope first) _ lines.0 (Err fault) (row-accepted scope first lines.0 lines.1 lines.2)
    (stops (items_from last (after scope lines.0) (before ++ row ∷ others)) _ fault (rows-told last before others (after scope lines.0) end row fault lines.3 e))

end-told : (last : ℕ) (place : Place) → place ≢ Outside → ◌≡◌ {A = Result (List Item) Fault} (elim place [ Outside ↦ Ok [] | _ ↦ Err (fault_at NoEnd last 0) ]) (Err (fault_at NoEnd last 0))
end-told last Outside n = absurd (n refl)
end-told last place n = refl

rows-unclosed : (last : ℕ) (rows : List Row) (scope end : Scope) → LeadTo scope rows end → end.place ≢ Outside → items_from last scope rows ≡ Err (fault_at NoEnd last 0)
unfolding items_from
rows-unclosed last [] scope end lines n = end-told last scope.place (subst (λ (s : Scope). s.place ≢ Outside) (sym lines) n)
rows-unclosed last (row ∷ rows) scope end lines n =
    goes-on (line_of scope row) _ lines.0 (Err (fault_at NoEnd last 0)) (row-accepted scope row lines.0 lines.1 lines.2)
    (stops (items_from last (after scope lines.0) rows) _ (fault_at NoEnd last 0) (rows-unclosed last rows (after scope lines.0) end lines.3 n))

-- ---- the text

text-of : (text : List ℕ) (rows : List Row) (r : Result (List Item) Fault) → rows_of text ≡ rows
    → (rows_behind_header rows >>= (λ (behind : List Row). items_from (length (lines_of (without_mark text))) first_scope behind)) ≡ r → items_of text ≡ r
unfolding items_of
text-of text rows r is e = ap (λ rows. rows_behind_header rows >>= (λ (behind : List Row). items_from (length (lines_of (without_mark text))) first_scope behind)) is ∙ e

header-told : (header : Row) (rows : List Row) (fault : Fault) → ArePresent header.words → RowFault header_asked header fault → rows_behind_header (header ∷ rows) ≡ Err fault
unfolding rows_behind_header
header-told header rows fault present (line, place, word, inl h) = stops (check_text header) _ fault (text-told header fault place line word h.0 h.1)
header-told header rows fault present (line, place, word, inr h) =
    goes-on (check_text header) _ tt (Err fault) (text-clear header h.0)
    (stops (whole header_line header) _ fault
    (word-told (whole header_line header) header_asked header fault place (whole-agrees header_line header header_asked present (header-agrees (start_of header))) line word h.1))

behind-header : (text : List ℕ) (header : Row) (rows : List Row) (fault : Fault) → rows_of text ≡ header ∷ rows → header.words ≡ codes "ktask" ∷ codes "1" ∷ []
    → items_from (length (lines_of (without_mark text))) first_scope rows ≡ Err fault → items_of text ≡ Err fault
behind-header text header rows fault is words e = text-of text (header ∷ rows) (Err fault) is
    (goes-on (rows_behind_header (header ∷ rows)) _ rows (Err fault) (header-accepted header rows words) e)

rows-are : (text : List ℕ) (rows : List Row) → rows_of text ≡ rows → RowsPresent rows
rows-are text rows is = subst RowsPresent is (rows-present (lines_of (without_mark text)) 1)

-- the first fault of the lines of a text is what the reading gives
pub lines-told : (text : List ℕ) (fault : Fault) → LineFault text fault → items_of text ≡ Err fault
unfolding rows_behind_header
lines-told text fault (no_row is e) = text-of text [] (Err fault) is (ap (λ (f : Fault). Err f) (sym e))
lines-told text fault (in_header header rows is h) = text-of text (header ∷ rows) (Err fault) is
    (stops (rows_behind_header (header ∷ rows)) _ fault (header-told header rows fault (rows-are text (header ∷ rows) is).0 h))
lines-told text fault (in_row scope row stands h) =
    let present = present-at (stands.header ∷ stands.before) stands.others row (rows-are text (stands.header ∷ (stands.before ++ row ∷ stands.others)) stands.parts) in
    behind-header text stands.header (stands.before ++ row ∷ stands.others) fault stands.parts stands.header_is
    (rows-told (length (lines_of (without_mark text))) stands.before stands.others first_scope scope row fault stands.lines (row-told scope row fault present h))
lines-told text fault (too_soon scope row stands e clear all soon) =
    let present = present-at (stands.header ∷ stands.before) stands.others row (rows-are text (stands.header ∷ (stands.before ++ row ∷ stands.others)) stands.parts) in
    let new = new-behind stands.before first_scope scope (differ-nil, omega arith) stands.lines in
    behind-header text stands.header (stands.before ++ row ∷ stands.others) fault stands.parts stands.header_is
    (rows-told (length (lines_of (without_mark text))) stands.before stands.others first_scope scope row fault stands.lines
    (soon-told scope new row present clear all soon ∙ ap (λ (f : Fault). Err f) (sym e)))
lines-told text fault (left_open header rows scope is words lines n e) =
    behind-header text header rows fault is words
    (rows-unclosed (length (lines_of (without_mark text))) rows first_scope scope lines n ∙ ap (λ (f : Fault). Err f) (sym e))
