-- The fault of a text that is told is its first.
use Rattle.task_reader.proofs.Vocabulary.{◌≡◌, ◌≢◌, ℕ, Bool, true, false, cond, List, [], ◌∷◌, ◌++◌, length, Result, Ok, Err, refl, sym, ◌∙◌, ap, subst, ◌⊎◌, inl, inr, arith, codes, differ-nil, NoEnd, Fault, fault_at, Word, Row, lines_of, without_mark, rows_of, start_of, check_text, whole, ArePresent, RowsPresent, rows-present, read-whole, whole-words, What, Item, Place, Outside, Head, Code, Jumped, Ended, Scope, first_scope, after, header_line, read_line, is_open_state, is_cut_short, line_of, items_from, rows_behind_header, items_of, Spells, MayStand, AreNew, line-taken, SpellsRow, new-after, header-taken, Asked, header_asked, line_asked, word_at, AreAsAsked, AreText, RowFault, EndsTooSoon, LeadTo, LineFault, no_row, in_header, in_row, too_soon, left_open, same_bytes, MathOp, operation_word, entry, Math, Set, same-word, RowsSpell, RowsSpellFrom, is_text, check_words}
use Rattle.task_text.specs.Fault.{◌>>=◌}
use Rattle.task_reader.proofs.AskedWords.{RowAgrees, whole-agrees}
use Rattle.task_reader.proofs.AskedLines.{line-agrees, header-agrees}
use Rattle.task_reader.proofs.AskedPlaces.{Says, verdict-says}
use Rattle.task_reader.proofs.FirstFailing.{Told, answer-told, no_text, text-tests}

-- ---- rows

-- whether a line that begins with this word ends a state or a kind too soon
abbrev pub cuts : Place → Word → Bool
cuts place word = cond (same_bytes word (codes "state")) (is_open_state place) (cond (same_bytes word (codes "end")) (is_cut_short place What.End) false)

operation-cuts : (place : Place) (operation : MathOp) → false ≡ cuts place (operation_word operation)
operation-cuts place MathOp.Add = refl
operation-cuts place _ = refl

-- a line is cut short as its first word says
pub cuts-is : (place : Place) (w : What) → is_cut_short place w ≡ cuts place (entry w).word
cuts-is place (What.Step (Math operation to left right)) = operation-cuts place operation
cuts-is place (What.Step (Set to value)) = refl
cuts-is place (What.Step _) = refl
cuts-is place (What.State name holds settled) = refl
cuts-is place _ = refl

not-open : (place : Place) → is_open_state place ≡ true → (place ≢ Head) × (place ≢ Ended)
not-open Code unclosed = (λ e. cc, λ e. cc)
not-open Jumped unclosed = (λ e. cc, λ e. cc)
not-open place unclosed = cc

not-ended : (place : Place) → is_cut_short place What.End ≡ true → place ≢ Ended
not-ended Ended cut e = cc
not-ended place cut e = cc

cuts-soon : (place : Place) (word : Word) → cuts place word ≡ true → EndsTooSoon place word
cuts-soon place word = by (same_bytes word (codes "state")) refl (same_bytes word (codes "end")) refl where
  by : (a : Bool) → same_bytes word (codes "state") ≡ a → (b : Bool) → same_bytes word (codes "end") ≡ b
      → cond a (is_open_state place) (cond b (is_cut_short place What.End) false) ≡ true → EndsTooSoon place word
  by true s b e cut = let n = not-open place cut in inl (same-word word (codes "state") s, n.0, n.1)
  by false s true e cut = inr (same-word word (codes "end") e, not-ended place cut)
  by false s false e cut = cc

pub first-word : (words : List Word) (w : What) → Spells words w → (entry w).word ≡ word_at words 0
first-word words w spelled = sym (ap (λ ws. word_at ws 0) spelled.1)

-- a line that is cut short begins with its word
cut-ends : (place : Place) (words : List Word) (w : What) → Spells words w → is_cut_short place w ≡ true → EndsTooSoon place (word_at words 0)
cut-ends place words w spelled cut = subst (EndsTooSoon place) (first-word words w spelled) (cuts-soon place (entry w).word (sym (cuts-is place w) ∙ cut))

-- each word of the row is as it is asked, and the line ends a state or a kind too soon
abbrev pub TooSoon : Scope → Row → Fault → Type 0
TooSoon scope row fault =
    (fault ≡ fault_at NoEnd row.line 0) × AreText row.words × AreAsAsked (line_asked scope) row.words × EndsTooSoon scope.place (word_at row.words 0)

-- what the outcome of a line says of its row
abbrev pub LineAnswer : Scope → Row → Result What Fault → Type 0
LineAnswer scope row (Ok w) = SpellsRow scope row w
LineAnswer scope row (Err fault) = RowFault (line_asked scope) row fault ⊎ TooSoon scope row fault

-- the fault of a row whose bytes are no text
text-fault : (asked : Asked) (row : Row) (fault : Fault) → Told is_text (no_text row.line) 1 row.words (Err fault) → RowFault asked row fault
text-fault asked row fault h =
    (ap (λ (f : Fault). f.line) h.1, h.0, ap (λ (f : Fault). f.word) h.1 ∙ omega arith, inl (ap (λ (f : Fault). f.cause) h.1, h.2))

-- the fault of a row that has a word which may not stand
word-fault : (asked : Asked) (row : Row) (fault : Fault) → AreText row.words → RowAgrees {A = What} (Err fault) row asked → RowFault asked row fault
word-fault asked row fault text h =
    let r = subst (Says asked 1 row.words) h.1 (verdict-says asked 1 row.words) in (h.0, r.0, omega (arith, r.1), inr (text, r.2))

pub line-answer : (scope : Scope) → AreNew 255 scope.variables → (row : Row) → ArePresent row.words → LineAnswer scope row (line_of scope row)
unfolding line_of
line-answer scope new row present = by (check_text row) (answer-told is_text (no_text row.line) (check_words row.line) (text-tests row.line) 1 row.words) where
  unless_cut : What → Result What Fault
  unless_cut w = cond (is_cut_short scope.place w) (Err (fault_at NoEnd row.line 0)) (Ok w)

  by : (o : Result (Unit {0}) Fault) → Told is_text (no_text row.line) 1 row.words o
      → LineAnswer scope row (o >>= (λ (u : Unit {0}). whole (read_line scope) row >>= (λ (w : What). cond {A = Result What Fault} (is_cut_short scope.place w) (Err (fault_at NoEnd row.line 0)) (Ok w))))
  by (Err fault) h = inl (text-fault (line_asked scope) row fault h)
  by (Ok u) text = read (whole (read_line scope) row) refl (whole-agrees (read_line scope) row (line_asked scope) present (line-agrees scope (start_of row))) where
    read : (o : Result What Fault) → whole (read_line scope) row ≡ o → RowAgrees o row (line_asked scope)
        → LineAnswer scope row (o >>= (λ (w : What). cond {A = Result What Fault} (is_cut_short scope.place w) (Err (fault_at NoEnd row.line 0)) (Ok w)))
    read (Err fault) e h = inl (word-fault (line_asked scope) row fault text h)
    read (Ok w) e h =
        let r = read-whole (read_line scope) row w e in
        let t = line-taken scope new (start_of row) (w, r.end) r.reads in
        let all = whole-words row t.words r.end present t.left r.missing in
        cut (is_cut_short scope.place w) refl (subst (λ ws. Spells ws w) (sym all) t.spells) t.stands where
          cut : (b : Bool) → is_cut_short scope.place w ≡ b → Spells row.words w → (is_cut_short scope.place w ≡ false → MayStand scope w)
              → LineAnswer scope row (cond {A = Result What Fault} b (Err (fault_at NoEnd row.line 0)) (Ok w))
          cut true c spells stands = inr (refl, text, subst (Says (line_asked scope) 1 row.words) h (verdict-says (line_asked scope) 1 row.words), cut-ends scope.place row.words w spells c)
          cut false c spells stands = record { spells = spells; stands = stands c }

-- ---- lines

-- the first fault of rows that stand behind a scope
pub data Found (last : ℕ) (scope : Scope) (rows : List Row) (fault : Fault) : Type 0 where
  found_row : (before others : List Row) (end : Scope) (row : Row) → rows ≡ before ++ row ∷ others → LeadTo scope before end
      → RowFault (line_asked end) row fault ⊎ TooSoon end row fault → Found last scope rows fault
  found_open : (end : Scope) → LeadTo scope rows end → end.place ≢ Outside → fault ≡ fault_at NoEnd last 0 → Found last scope rows fault

-- what the outcome of rows says of them
abbrev pub RowsAnswer : ℕ → Scope → List Row → Result (List Item) Fault → Type 0
RowsAnswer last scope rows (Ok items) = RowsSpellFrom scope rows items
RowsAnswer last scope rows (Err fault) = Found last scope rows fault

one-before : (last : ℕ) (scope : Scope) (row : Row) (rows : List Row) (w : What) (fault : Fault) → SpellsRow scope row w → Found last (after scope w) rows fault → Found last scope (row ∷ rows) fault
one-before last scope row rows w fault here (found_row before others end at parts lines h) =
    found_row (row ∷ before) others end at (ap (λ rs. row ∷ rs) parts) (w, here.spells, here.stands, lines) h
one-before last scope row rows w fault here (found_open end lines unclosed e) = found_open end (w, here.spells, here.stands, lines) unclosed e

rows-answer : (last : ℕ) (rows : List Row) (scope : Scope) → RowsPresent rows → AreNew 255 scope.variables → RowsAnswer last scope rows (items_from last scope rows)
unfolding items_from
rows-answer last [] scope present new = by scope.place refl where
  by : (place : Place) → scope.place ≡ place → RowsAnswer last scope [] (elim place [ Outside ↦ Ok [] | _ ↦ Err (fault_at NoEnd last 0) ])
  by Outside e = e
  by Head e = found_open scope refl (λ o. let f : Head ≡ Outside = sym e ∙ o in cc) refl
  by Code e = found_open scope refl (λ o. let f : Code ≡ Outside = sym e ∙ o in cc) refl
  by Jumped e = found_open scope refl (λ o. let f : Jumped ≡ Outside = sym e ∙ o in cc) refl
  by Ended e = found_open scope refl (λ o. let f : Ended ≡ Outside = sym e ∙ o in cc) refl
rows-answer last (row ∷ rows) scope present new =
    by (line_of scope row) (line-answer scope new row present.0)
    (λ w here. rows-answer last rows (after scope w) present.1 (new-after scope w here.stands new)) where
      by : (o : Result What Fault) → LineAnswer scope row o
          → ((w : What) → SpellsRow scope row w → RowsAnswer last (after scope w) rows (items_from last (after scope w) rows))
          → RowsAnswer last scope (row ∷ rows) (o >>= (λ (w : What). items_from last (after scope w) rows >>= (λ (items : List Item). Ok (record { line = row.line; what = w } ∷ items))))
      by (Err f) h later = found_row [] rows scope row refl refl h
      by (Ok w) here later = more (items_from last (after scope w) rows) (later w here) where
        more : (o : Result (List Item) Fault) → RowsAnswer last (after scope w) rows o
            → RowsAnswer last scope (row ∷ rows) (o >>= (λ (items : List Item). Ok (record { line = row.line; what = w } ∷ items)))
        more (Ok items) h = (refl, here.spells, here.stands, h)
        more (Err g) h = one-before last scope row rows w g here h

-- ---- the text

-- the header of a text whose first row is read as one
pub header-words : (row : Row) (u : Unit {0}) → ArePresent row.words → whole header_line row ≡ Ok u → row.words ≡ codes "ktask" ∷ codes "1" ∷ []
header-words row u present e =
    let w = read-whole header_line row u e in
    whole-words row (codes "ktask" ∷ codes "1" ∷ []) w.end present (header-taken (start_of row) (u, w.end) w.reads) w.missing

text-found : (text : List ℕ) (header : Row) (rows : List Row) (fault : Fault) → rows_of text ≡ header ∷ rows → header.words ≡ codes "ktask" ∷ codes "1" ∷ []
    → Found (length (lines_of (without_mark text))) first_scope rows fault → LineFault text fault
text-found text header rows fault is words (found_row before others end row parts lines (inl h)) =
    in_row end row (record { header = header; before = before; others = others; parts = is ∙ ap (λ rs. header ∷ rs) parts; header_is = words; lines = lines }) h
text-found text header rows fault is words (found_row before others end row parts lines (inr h)) =
    too_soon end row (record { header = header; before = before; others = others; parts = is ∙ ap (λ rs. header ∷ rs) parts; header_is = words; lines = lines }) h.0 h.1 h.2 h.3
text-found text header rows fault is words (found_open end lines unclosed e) = left_open header rows end is words lines unclosed e

-- what the outcome of a text says of it
abbrev pub LinesAnswer : List ℕ → Result (List Item) Fault → Type 0
LinesAnswer text (Ok items) = RowsSpell (rows_of text) items
LinesAnswer text (Err fault) = LineFault text fault

lines-answer : (text : List ℕ) → LinesAnswer text (items_of text)
unfolding items_of rows_behind_header
lines-answer text = by (rows_of text) refl (rows-present (lines_of (without_mark text)) 1) where
  by : (rows : List Row) → rows_of text ≡ rows → RowsPresent rows
      → LinesAnswer text (rows_behind_header rows >>= (λ (behind : List Row). items_from (length (lines_of (without_mark text))) first_scope behind))
  by [] is present = no_row is refl
  by (header ∷ rows) is present = checked (check_text header) (answer-told is_text (no_text header.line) (check_words header.line) (text-tests header.line) 1 header.words) where
    checked : (o : Result (Unit {0}) Fault) → Told is_text (no_text header.line) 1 header.words o
        → LinesAnswer text ((o >>= (λ (u : Unit {0}). whole header_line header >>= (λ (u : Unit {0}). Ok rows))) >>= (λ (behind : List Row). items_from (length (lines_of (without_mark text))) first_scope behind))
    checked (Err f) h = in_header header rows is (text-fault header_asked header f h)
    checked (Ok u) h = read (whole header_line header) refl (whole-agrees header_line header header_asked present.0 (header-agrees (start_of header))) where
      read : (o : Result (Unit {0}) Fault) → whole header_line header ≡ o → RowAgrees o header header_asked
          → LinesAnswer text ((o >>= (λ (u : Unit {0}). Ok rows)) >>= (λ (behind : List Row). items_from (length (lines_of (without_mark text))) first_scope behind))
      read (Err f) was a = in_header header rows is (word-fault header_asked header f h a)
      read (Ok v) was a = behind (items_from (length (lines_of (without_mark text))) first_scope rows) (rows-answer (length (lines_of (without_mark text))) rows first_scope present.1 (differ-nil, omega arith)) where
        behind : (o : Result (List Item) Fault) → RowsAnswer (length (lines_of (without_mark text))) first_scope rows o → LinesAnswer text o
        behind (Ok items) h = subst (λ rows. RowsSpell rows items) (sym is) (header-words header v present.0 was, h)
        behind (Err f) h = text-found text header rows f is (header-words header v present.0 was) h

-- what is read from a text is spelled by its rows, and a fault in a line is the first of the text
pub items-answer : (text : List ℕ) (o : Result (List Item) Fault) → items_of text ≡ o → LinesAnswer text o
items-answer text o e = subst (LinesAnswer text) e (lines-answer text)
