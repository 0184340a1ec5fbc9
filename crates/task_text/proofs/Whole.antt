-- A row that was read whole, whose words are all there.
use Rattle.std.proofs.Common.{◌≡◌, ℕ, ◌+◌, Bool, true, false, not, cond, List, [], ◌∷◌, ◌++◌, Result, Ok, Err, refl, ◌∙◌, ap, subst, append-nil}
use Rattle.task_text.specs.declared.fault.Cause.TheVariants.{WordsLeft}
use Rattle.task_text.specs.declared.fault.Fault.{Fault}
use Rattle.task_text.specs.Text.{Word, Row, is_blank, begins_with_word, in_front, words_of, code_of, with_row, rows_from}
use Rattle.task_text.specs.Scan.{is_missing, is_present, Scan, start_of, first_of, seen, Outcome, Parser, ◌>>=◌, ended, without_scan, whole}
use Rattle.task_text.proofs.Taken.{parts, needed, same-ok}

-- no word is empty
abbrev pub ArePresent : List Word → Type 0
ArePresent [] = Unit {0}
ArePresent (word ∷ words) = (is_present word ≡ true) × ArePresent words

pub present-behind : (front words : List Word) → ArePresent (front ++ words) → ArePresent words
present-behind [] words h = h
present-behind (word ∷ front) words h = present-behind front words h.1

present-in-front : (byte : ℕ) (words : List Word) → ArePresent words → ArePresent (in_front byte words)
present-in-front byte [] h = (refl, tt)
present-in-front byte (first ∷ rest) h = (refl, h.1)

present-by : (byte : ℕ) (words : List Word) (blank begins : Bool) → ArePresent words
    → ArePresent (cond blank words (cond begins (in_front byte words) ((byte ∷ []) ∷ words)))
present-by byte words true begins h = h
present-by byte words false true h = present-in-front byte words h
present-by byte words false false h = (refl, h)

pub words-present : (bytes : List ℕ) → ArePresent (words_of bytes)
words-present [] = tt
words-present (byte ∷ bytes) = present-by byte (words_of bytes) (is_blank byte) (begins_with_word bytes) (words-present bytes)

abbrev pub RowsPresent : List Row → Type 0
RowsPresent [] = Unit {0}
RowsPresent (row ∷ rows) = ArePresent row.words × RowsPresent rows

row-present : (line : ℕ) (words : List Word) (rows : List Row) → ArePresent words → RowsPresent rows → RowsPresent (with_row line words rows)
row-present line [] rows h more = more
row-present line (word ∷ words) rows h more = (h, more)

pub rows-present : (lines : List (List ℕ)) (line : ℕ) → RowsPresent (rows_from line lines)
rows-present [] line = tt
rows-present (first ∷ rest) line = row-present line (words_of (code_of first)) (rows_from (line + 1) rest) (words-present (code_of first)) (rows-present rest (line + 1))

-- what a parser gives that reads a whole row
pub record ReadsWhole {A : Type 0} (p : Parser A) (row : Row) (a : A) : Type 0 where
  pub end : Scan
  pub reads : p (start_of row) ≡ Ok (a, end)
  pub missing : is_missing (seen end) ≡ true

pub same-answer : {A : Type 0} (a b : A) → ◌≡◌ {A = Result A Fault} (Ok a) (Ok b) → a ≡ b
same-answer a b e = cc

with-scan : {A : Type 0} (o : Outcome A) (a : A) → without_scan o ≡ Ok a → (t : Scan) × (o ≡ Ok (a, t))
with-scan (Ok p) a e = (p.1, ap (λ v. Ok (v, p.1)) (same-answer p.0 a e))
with-scan (Err fault) a e = cc

pub read-whole : {A : Type 0} (p : Parser A) (row : Row) (a : A) → whole p row ≡ Ok a → ReadsWhole p row a
unfolding whole
read-whole p row a e =
    let o = with-scan ((p >>= ended) (start_of row)) a e in
    let q = parts (p (start_of row)) ended (a, o.0) o.1 in
    let n = needed is_missing WordsLeft (λ t. Ok (q.value, t)) q.scan (a, o.0) q.next in
    let same = same-ok (q.value, q.scan) (a, o.0) n.1 in
    record { end = q.scan; reads = q.first ∙ ap (λ v. Ok (v, q.scan)) (ap (λ r. r.0) same); missing = n.0 }

nothing-left : (words : List Word) → ArePresent words → is_missing (first_of words) ≡ true → words ≡ []
nothing-left [] h m = refl
nothing-left (word ∷ words) h m = let c : not true ≡ true = subst (λ b. not b ≡ true) m h.0 in cc

all-words : (words more all : List Word) → all ≡ words ++ more → more ≡ [] → all ≡ words
all-words words more all e n = e ∙ (ap (λ m. words ++ m) n ∙ append-nil words)

-- where a row is read whole, the words that were taken are all that it has
pub whole-words : (row : Row) (words : List Word) (end : Scan) → ArePresent row.words → row.words ≡ words ++ end.left → is_missing (seen end) ≡ true → row.words ≡ words
unfolding seen
whole-words row words end present e missing =
    all-words words end.left row.words e (nothing-left end.left (present-behind words end.left (subst ArePresent e present)) missing)
