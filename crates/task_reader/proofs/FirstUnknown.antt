-- The first name that no line gives.
use Rattle.task_reader.proofs.Vocabulary.{◌≡◌, ◌<◌, ℕ, ◌+◌, add-one, true, Some, List, [], ◌∷◌, ◌++◌, length, slice_get, Result, Ok, Err, refl, sym, ◌∙◌, ap, subst, arith, Fault, Row, rows_of, Item, Scope, first_scope, after, Spells, RowsSpellFrom, RowsSpell, Use, line_uses, is_given, known_at, uses_known, line_known, names_known, scope_behind, UsesAt, IsFirstUnknown}
use Rattle.task_text.specs.Fault.{◌>>◌}
use Rattle.task_reader.proofs.FirstFailing.{Told, answer-told, unknown_word, uses-tests}
use Rattle.task_reader.proofs.UsedWords.{use-spelled}

-- ---- in lines

-- the first line of these that uses a name which is not given
pub record UnknownIn (all : List Item) (s : Scope) (items : List Item) (fault : Fault) : Type 0 where
  pub before : List Item
  pub item : Item
  pub ahead : List Item
  pub among : items ≡ before ++ item ∷ ahead
  pub found : Told (is_given (known_at all (scope_behind s before) ahead)) (unknown_word item.line) 1 (line_uses item.what) (Err fault)
  pub none_before : (first : List Item) (line : Item) (rest : List Item) → items ≡ first ++ line ∷ rest → length first < length before
      → (place : ℕ) (other : Use) → UsesAt line place other → is_given (known_at all (scope_behind s first) rest) other ≡ true

same-head : (a b : Item) (xs ys : List Item) → a ∷ xs ≡ b ∷ ys → a ≡ b
same-head a b xs ys e = cc

same-rest : (a b : Item) (xs ys : List Item) → a ∷ xs ≡ b ∷ ys → xs ≡ ys
same-rest a b xs ys e = cc

line-later : (all : List Item) (s : Scope) (item : Item) (items : List Item) (fault : Fault) → line_known (known_at all s items) item.line item.what ≡ Ok tt
    → UnknownIn all (after s item.what) items fault → UnknownIn all s (item ∷ items) fault
line-later all s item items fault ok u = record { before = item ∷ u.before; item = u.item; ahead = u.ahead; among = ap (λ is. item ∷ is) u.among; found = u.found; none_before = none } where
  none : (first : List Item) (line : Item) (rest : List Item) → item ∷ items ≡ first ++ line ∷ rest → length first < length (item ∷ u.before)
      → (place : ℕ) (other : Use) → UsesAt line place other → is_given (known_at all (scope_behind s first) rest) other ≡ true
  none [] line rest e l place other at =
      let same : item ≡ line = same-head item line items rest e in
      let behind : items ≡ rest = same-rest item line items rest e in
      subst (λ rest. is_given (known_at all s rest) other ≡ true) behind
      (subst (Told (is_given (known_at all s items)) (unknown_word item.line) 1 (line_uses item.what)) ok
      (answer-told (is_given (known_at all s items)) (unknown_word item.line) (uses_known (known_at all s items) item.line) (uses-tests (known_at all s items) item.line) 1 (line_uses item.what)) place other
      (subst (λ (line : Item). UsesAt line place other) (sym same) at))
  none (f ∷ first) line rest e l place other at =
      let same : item ≡ f = same-head item f items (first ++ line ∷ rest) e in
      subst (λ (f : Item). is_given (known_at all (scope_behind (after s f.what) first) rest) other ≡ true) same
      (u.none_before first line rest (same-rest item f items (first ++ line ∷ rest) e) (omega (arith, l)) place other at)

unknown-in : (all : List Item) (s : Scope) (items : List Item) (fault : Fault) → names_known all s items ≡ Err fault → UnknownIn all s items fault
unfolding names_known
unknown-in all s [] fault e = cc
unknown-in all s (item ∷ items) fault e = by (line_known (known_at all s items) item.line item.what) refl e (unknown-in all (after s item.what) items fault) where
  by : (o : Result (Unit {0}) Fault) → line_known (known_at all s items) item.line item.what ≡ o → o >> names_known all (after s item.what) items ≡ Err fault
      → (names_known all (after s item.what) items ≡ Err fault → UnknownIn all (after s item.what) items fault) → UnknownIn all s (item ∷ items) fault
  by (Ok u) is e later = line-later all s item items fault is (later e)
  by (Err f) is e later = record {
    before = [];
    item = item;
    ahead = items;
    among = refl;
    found = subst (Told (is_given (known_at all s items)) (unknown_word item.line) 1 (line_uses item.what)) (is ∙ e)
        (answer-told (is_given (known_at all s items)) (unknown_word item.line) (uses_known (known_at all s items) item.line) (uses-tests (known_at all s items) item.line) 1 (line_uses item.what));
    none_before = λ first line rest e l. absurd (omega (arith, l));
  }

-- ---- in a text

-- the row that spells a line
pub record RowOf (rows : List Row) (at : ℕ) (item : Item) : Type 0 where
  pub row : Row
  pub stands : slice_get rows at ≡ Some row
  pub line : item.line ≡ row.line
  pub spells : Spells row.words item.what

row-of : (s : Scope) (rows : List Row) (items before : List Item) (item : Item) (ahead : List Item) → RowsSpellFrom s rows items → items ≡ before ++ item ∷ ahead → RowOf rows (length before) item
row-of s [] [] [] item ahead spell e = cc
row-of s [] [] (b ∷ before) item ahead spell e = cc
row-of s [] (i ∷ items) before item ahead spell e = absurd spell
row-of s (row ∷ rows) [] before item ahead spell e = absurd spell
row-of s (row ∷ rows) (i ∷ items) [] item ahead spell e =
    let same : i ≡ item = same-head i item items ahead e in
    subst (λ (i : Item). RowOf (row ∷ rows) 0 i) same (record { row = row; stands = refl; line = spell.0; spells = spell.1 })
row-of s (row ∷ rows) (i ∷ items) (b ∷ before) item ahead spell e =
    let r = row-of (after s i.what) rows items before item ahead spell.3 (same-rest i b items (before ++ item ∷ ahead) e) in
    record { row = r.row; stands = r.stands; line = r.line; spells = r.spells }

pub row-behind-header : (rows : List Row) (items before : List Item) (item : Item) (ahead : List Item) → RowsSpell rows items → items ≡ before ++ item ∷ ahead → RowOf rows (length before + 1) item
row-behind-header [] items before item ahead spell e = absurd spell
row-behind-header (header ∷ rows) items before item ahead spell e =
    let r = row-of first_scope rows items before item ahead spell.1 e in
    record { row = r.row; stands = ap (λ n. slice_get (header ∷ rows) n) (add-one (length before)) ∙ r.stands; line = r.line; spells = r.spells }

-- an unknown name that is told is the first of the text
pub unknown-found : (text : List ℕ) (items : List Item) (fault : Fault) → RowsSpell (rows_of text) items → names_known items first_scope items ≡ Err fault → IsFirstUnknown text fault
unknown-found text items fault spelled e =
    let u = unknown-in items first_scope items fault e in
    let r = row-behind-header (rows_of text) items u.before u.item u.ahead spelled u.among in
    let at = use-spelled r.row.words u.item.what r.spells u.found.0 u.found.2.found u.found.2.stands in
    record {
      cause = ap (λ (f : Fault). f.cause) u.found.1;
      items = items;
      spelled = spelled;
      before = u.before;
      item = u.item;
      ahead = u.ahead;
      among = u.among;
      row = r.row;
      row_is = r.stands;
      line = ap (λ (f : Fault). f.line) u.found.1 ∙ r.line;
      place = u.found.0;
      word_number = ap (λ (f : Fault). f.word) u.found.1 ∙ omega arith;
      word = at.word;
      word_is = at.stands;
      used = u.found.2.found;
      uses = u.found.2.stands;
      spells = at.spells;
      unknown = u.found.2.here;
      none_earlier = u.found.2.none_before;
      none_before = u.none_before;
    }
