-- The items of a text keep the limits.
use Rattle.task_reader.proofs.Vocabulary.{◌≡◌, ℕ, suc, ◌+◌, ◌*◌, ◌^◌, ◌<◌, ◌≤◌, Bool, true, false, cond, not, ◌==◌, List, [], ◌∷◌, ◌++◌, length, drop, refl, ap, codes, arith, starts_with, prefix_len, length-take, length-drop, nat_eq, Word, Row, in_front, lines_of, code_of, words_of, with_row, rows_from, without_mark, rows_of, length-words_of, Step, Spawn, All, What, Item, Scope, first_scope, after, SpellsFuture, EachSpells, SpellsFutures, Spells, MayName, RowsSpellFrom, RowsSpell, steps_ahead, IsShortStep, IsShort, EachIsShort, Fit, length-append}
use Rattle.task_reader.proofs.Stands.{Stand, item_at, no-names, kind-names, root-names, state-names, rows-stand}
use Rattle.task_reader.proofs.FormedCode.{gives-code}
use Rattle.task_reader.proofs.FormedKinds.{kind-variables}

-- ---- the words of a row are at most half as many as the bytes of the text

abbrev LinesWithin : ℕ → List (List ℕ) → Type 0
LinesWithin n [] = Unit {0}
LinesWithin n (line ∷ lines) = (length line ≤ n) × LinesWithin n lines

lines-wider : (n m : ℕ) (lines : List (List ℕ)) → n ≤ m → LinesWithin n lines → LinesWithin m lines
lines-wider n m [] l h = tt
lines-wider n m (line ∷ lines) l h = (omega (arith, h.0), lines-wider n m lines l h.1)

in_front-within : (n byte : ℕ) (lines : List (List ℕ)) → LinesWithin n lines → LinesWithin (suc n) (in_front byte lines)
in_front-within n byte [] h = (omega arith, tt)
in_front-within n byte (line ∷ lines) h = (omega (arith, h.0), lines-wider n (suc n) lines (omega arith) h.1)

line-step : (b : Bool) (byte n : ℕ) (lines : List (List ℕ)) → LinesWithin n lines → LinesWithin (suc n) (cond b ([] ∷ lines) (in_front byte lines))
line-step true byte n lines h = (omega arith, lines-wider n (suc n) lines (omega arith) h)
line-step false byte n lines h = in_front-within n byte lines h

lines-within : (text : List ℕ) → LinesWithin (length text) (lines_of text)
lines-within [] = tt
lines-within (byte ∷ bytes) = line-step (byte == 10) byte (length bytes) (lines_of bytes) (lines-within bytes)

abbrev RowsWithin : ℕ → List Row → Type 0
RowsWithin n [] = Unit {0}
RowsWithin n (row ∷ rows) = (2 * length row.words ≤ n + 1) × RowsWithin n rows

with_row-within : (n line : ℕ) (words : List Word) (rows : List Row) → 2 * length words ≤ n + 1 → RowsWithin n rows → RowsWithin n (with_row line words rows)
with_row-within n line [] rows l h = h
with_row-within n line (word ∷ words) rows l h = (l, h)

few-words : (n : ℕ) (line : List ℕ) → length line ≤ n → 2 * length (words_of (code_of line)) ≤ n + 1
few-words n line l =
    let t : length (code_of line) ≤ length line = omega (arith, length-take (prefix_len (λ byte. not (byte == 35)) line) line) in
    omega (arith, length-words_of (code_of line))

rows-within : (n line : ℕ) (lines : List (List ℕ)) → LinesWithin n lines → RowsWithin n (rows_from line lines)
rows-within n line [] h = tt
rows-within n line (first ∷ rest) h =
    with_row-within n line (words_of (code_of first)) (rows_from (line + 1) rest) (few-words n first h.0) (rows-within n (line + 1) rest h.1)

mark-step : (b : Bool) (text : List ℕ) → length (cond b (drop 3 text) text) ≤ length text
mark-step true text = omega (arith, length-drop 3 text)
mark-step false text = omega arith

text-within : (text : List ℕ) → RowsWithin (length text) (rows_of text)
text-within text =
    rows-within (length text) 1 (lines_of (without_mark text))
    (lines-wider (length (without_mark text)) (length text) (lines_of (without_mark text)) (mark-step (starts_with nat_eq text (239 ∷ 187 ∷ 191 ∷ [])) text) (lines-within (without_mark text)))

-- ---- the lists of a state take a word for each future

spells-length : (ws : List Word) (names : List (List ℕ)) → EachSpells SpellsFuture ws names → length ws ≡ length names
spells-length [] [] h = refl
spells-length (word ∷ ws) (name ∷ names) h = ap suc (spells-length ws names h.1)
spells-length [] (name ∷ names) h = absurd h
spells-length (word ∷ ws) [] h = absurd h

list-length : (opening : Word) (words : List Word) (names : List (List ℕ)) → SpellsFutures opening words names → length names ≤ length words
list-length opening words [] h = omega arith
list-length opening words (name ∷ names) h =
    let e : length words ≡ suc (length h.0) = ap (λ ws. length ws) h.1 in
    omega (arith, spells-length h.0 (name ∷ names) h.2)

state-words : (n : ℕ) (words : List Word) (name : List ℕ) (holds settled : List (List ℕ)) → 2 * length words ≤ n + 1 → n < 2 ^ 32
    → Spells words (What.State name holds settled) → length holds + length settled < 2 ^ 31
state-words n words name holds settled few small h =
    let hs = h.0.1.0.0 in
    let ss = h.0.1.1.0.0 in
    let e : length words ≡ suc (suc (length (hs ++ (ss ++ [])))) = ap (λ ws. length ws) h.1 in
    omega (arith, length-append hs (ss ++ []), length-append ss [], list-length (codes "holds") hs holds h.0.1.0.1, list-length (codes "settled") ss settled h.0.1.1.0.1)

-- ---- what may stand keeps the limits

step-short : (s : Scope) (step : Step) → MayName s step → IsShortStep step
step-short s (Spawn to kind arguments behind priority retry) m = m
step-short s (All to members priority retry) m = m
step-short s _ m = tt

short : (n : ℕ) (s : Scope) (words : List Word) (line : ℕ) (w : What) (items : List Item) → n < 2 ^ 32 → 2 * length words ≤ n + 1
    → Spells words w → Stand s (item_at line w ∷ items) → IsShort w items
short n s words line (What.Kind name arguments) items small few spelled stand = (
  stand.1.4,
  (kind-variables s line name arguments items stand).fit,
  (state-names items (after s (What.Kind name arguments)) tt stand.2 (no-names 32)).fit,
)
short n s words line (What.State name holds settled) items small few spelled stand =
    let count : 0 + steps_ahead items ≤ 64 = (gives-code (record { kinds = []; variables = []; states = [] }) items (after s (What.State name holds settled)) 0 stand.2).fits (omega arith) in
    (omega (arith, count), state-words n words name holds settled few small spelled)
short n s words line (What.Step step) items small few spelled stand = step-short s step stand.1.2
short n s words line (What.Root name kind arguments behind priority) items small few spelled stand = stand.1.3
short n s words line _ items small few spelled stand = tt

each-short : (n : ℕ) (s : Scope) (rows : List Row) (items : List Item) → n < 2 ^ 32 → RowsWithin n rows → RowsSpellFrom s rows items → EachIsShort items
each-short n s [] [] small few h = tt
each-short n s (row ∷ rows) (item ∷ items) small few h = (
  short n s row.words item.line item.what items small few.0 h.1 (rows-stand s (row ∷ rows) (item ∷ items) h),
  each-short n (after s item.what) rows items small few.1 h.3,
)
each-short n s [] (item ∷ items) small few h = absurd h
each-short n s (row ∷ rows) [] small few h = absurd h

rows-fit : (n : ℕ) (rows : List Row) (items : List Item) → n < 2 ^ 32 → RowsWithin n rows → RowsSpell rows items → Fit items
rows-fit n [] items small few h = absurd h
rows-fit n (row ∷ rows) items small few h =
    let stand = rows-stand first_scope rows items h.1 in
    record {
      kinds = (kind-names items first_scope stand (no-names 64)).fit;
      roots = (root-names items first_scope stand (no-names 16)).fit;
      each = each-short n first_scope rows items small few.1 h.1;
    }

pub items_fit : (text : List ℕ) (items : List Item) → length text < 2 ^ 32 → RowsSpell (rows_of text) items → Fit items
items_fit text items small h = rows-fit (length text) (rows_of text) items small (text-within text) h
