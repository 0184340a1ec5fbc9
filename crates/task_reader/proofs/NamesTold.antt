-- The first name that no line gives is what the reading gives.
use Rattle.task_reader.proofs.Vocabulary.{◌≡◌, ◌<◌, ℕ, ◌+◌, true, Some, List, [], ◌∷◌, ◌++◌, length, Err, refl, sym, ◌∙◌, ap, arith, UnknownName, Fault, fault_at, rows_of, Item, Scope, first_scope, after, Use, line_uses, is_given, known_at, uses_known, line_known, names_known, scope_behind, UsesAt, IsFirstUnknown}
use Rattle.task_text.specs.Fault.{◌>>◌}
use Rattle.task_reader.proofs.FirstFailing.{first-answered, all-answered, unknown_word, uses-tests}
use Rattle.task_reader.proofs.FirstUnknown.{row-behind-header}
use Rattle.task_reader.proofs.RowsTold.{same-fault}

-- behind lines whose names are given, a line with an unknown name is what the look-up finds
name-told : (all : List Item) (s : Scope) (before : List Item) (item : Item) (ahead : List Item) (fault : Fault)
    → line_known (known_at all (scope_behind s before) ahead) item.line item.what ≡ Err fault
    → ((first : List Item) (line : Item) (rest : List Item) → before ++ item ∷ ahead ≡ first ++ line ∷ rest → length first < length before
    → (place : ℕ) (other : Use) → UsesAt line place other → is_given (known_at all (scope_behind s first) rest) other ≡ true)
    → names_known all s (before ++ item ∷ ahead) ≡ Err fault
unfolding names_known
name-told all s [] item ahead fault e given = ap (λ o. o >> names_known all (after s item.what) ahead) e
name-told all s (first ∷ before) item ahead fault e given =
    let rest = before ++ item ∷ ahead in
    let here = all-answered (is_given (known_at all s rest)) (unknown_word first.line) (uses_known (known_at all s rest) first.line) (uses-tests (known_at all s rest) first.line) 1 (line_uses first.what)
    (λ place used at. given [] first rest refl (omega arith) place used at) in
    ap (λ o. o >> names_known all (after s first.what) rest) here
    ∙ name-told all (after s first.what) before item ahead fault e
    (λ front line more same l place other at. given (first ∷ front) line more (ap (λ is. first ∷ is) same) (omega (arith, l)) place other at)

-- the first unknown name of a text is what the look-up gives
pub unknown-told : (text : List ℕ) (fault : Fault) (u : IsFirstUnknown text fault) → names_known u.items first_scope u.items ≡ Err fault
unknown-told text fault u =
    let k = known_at u.items (scope_behind first_scope u.before) u.ahead in
    let r = row-behind-header (rows_of text) u.items u.before u.item u.ahead u.spelled u.among in
    let found = first-answered (is_given k) (unknown_word u.item.line) (uses_known k u.item.line) (uses-tests k u.item.line) 1 (line_uses u.item.what) u.place
    (record { found = u.used; stands = u.uses; here = u.unknown; none_before = u.none_earlier }) in
    let row : u.row ≡ r.row = ap (λ o. elim o [ Some row ↦ row | _ ↦ u.row ]) (sym u.row_is ∙ r.stands) in
    let line : fault.line ≡ u.item.line = u.line ∙ (ap (λ row. row.line) row ∙ sym r.line) in
    let same : fault_at UnknownName u.item.line (1 + u.place) ≡ fault = same-fault (fault_at UnknownName u.item.line (1 + u.place)) fault (sym u.cause) (sym line) (omega (arith, u.word_number)) in
    ap (λ items. names_known u.items first_scope items) u.among
    ∙ name-told u.items first_scope u.before u.item u.ahead fault (found ∙ ap (λ (f : Fault). Err f) same)
    (λ first line rest e l place other at. u.none_before first line rest (u.among ∙ e) l place other at)
