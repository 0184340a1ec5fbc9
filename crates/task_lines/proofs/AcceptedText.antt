-- The words that spell lines have only bytes that may stand outside comments.
use Rattle.task_lines.proofs.Vocabulary.{◌≡◌, ℕ, ◌+◌, ◌≤◌, Bool, true, false, not, ◌&&◌, ◌||◌, cond, nat_eq, nat_le, Option, Some, None, List, [], ◌∷◌, ◌++◌, length, Result, Ok, Err, refl, sym, ◌∙◌, ap, subst, inl, inr, arith, codes, nat_lt, ◌^◌, list_all, digits_value, leb-true, le-leb, eqb-true, is_between, is_letter, is_digit, is_name_byte, is_reserved, begins_with_letter, IsName, Sort, Variable, MathOp, Relation, Less, Priority, High, both, either, NotText, Fault, fault_at, Word, is_text, check_words, Term, Passed, Set, Math, RootTerm, What, Part, GotoWord, AName, ANewName, ATarget, ATerm, ARelation, AFuture, KindVariables, MoreVariables, Arguments, RootArguments, Members, HeldFutures, SettledFutures, Predecessor, APriority, LastPriority, ARetry, Of, Values, Choice, Choices, part_words, entry, SpellsFuture, SpellsNumber, operation_word, relation_word, priority_word, EachSpells, SpellsBehind, SpellsPriority, retry_words, Spells}
use Rattle.task_lines.specs.Table.{words_of}
use Rattle.task_lines.specs.Grammar.{SpellsName, SpellsTerm, SpellsPassed, SpellsRootTerm, SpellsVariable, SpellsFutures}

-- each byte of the words may stand outside comments
abbrev pub AreText : List Word → Type 0
AreText [] = Unit {0}
AreText (word ∷ words) = (is_text word ≡ true) × AreText words

words-checked : (line at : ℕ) (word : Word) (words : List Word) (b : Bool) → b ≡ true → check_words line (at + 1) words ≡ Ok tt
    → ◌≡◌ {A = Result (Unit {0}) Fault} (cond b (check_words line (at + 1) words) (Err (fault_at NotText line at))) (Ok tt)
words-checked line at word words true e h = h
words-checked line at word words false e h = cc

pub text-checked : (words : List Word) → AreText words → (line at : ℕ) → check_words line at words ≡ Ok tt
unfolding check_words
text-checked [] h line at = refl
text-checked (word ∷ words) h line at = words-checked line at word words (is_text word) h.0 (text-checked words h.1 line (at + 1))

-- ---- bytes

pub between : (low high byte : ℕ) → is_between low high byte ≡ true → (low ≤ byte) × (byte ≤ high)
between low high byte h = let b = both (nat_le low byte) (nat_le byte high) h in (leb-true low byte b.0, leb-true byte high b.1)

text-byte : (byte : ℕ) → 33 ≤ byte → byte ≤ 126 → is_between 33 126 byte ≡ true
text-byte byte low high = ap (λ b. b && nat_le byte 126) (le-leb 33 byte low) ∙ le-leb byte 126 high

digit-text : (byte : ℕ) → is_digit byte ≡ true → is_between 33 126 byte ≡ true
digit-text byte h = let b = between 48 57 byte h in text-byte byte (omega (arith, b.0)) (omega (arith, b.1))

letter-text : (byte : ℕ) → is_letter byte ≡ true → is_between 33 126 byte ≡ true
letter-text byte h = elim (either (is_between 65 90 byte) (is_between 97 122 byte) h) [
  | inl a ↦ let b = between 65 90 byte a in text-byte byte (omega (arith, b.0)) (omega (arith, b.1))
  | inr a ↦ let b = between 97 122 byte a in text-byte byte (omega (arith, b.0)) (omega (arith, b.1))
]

name-byte-text : (byte : ℕ) → is_name_byte byte ≡ true → is_between 33 126 byte ≡ true
name-byte-text byte h = elim (either (is_letter byte || is_digit byte) (nat_eq byte 95) h) [
  | inl a ↦ elim (either (is_letter byte) (is_digit byte) a) [ inl l ↦ letter-text byte l | inr d ↦ digit-text byte d ]
  | inr e ↦ text-byte byte (omega (arith, eqb-true byte 95 e)) (omega (arith, eqb-true byte 95 e))
]

pub all-pass : {X : Type 0} (p q : X → Bool) → ((x : X) → p x ≡ true → q x ≡ true) → (xs : List X) → list_all p xs ≡ true → list_all q xs ≡ true
all-pass p q h [] e = refl
all-pass p q h (x ∷ xs) e = let b = both (p x) (list_all p xs) e in ap (λ c. c && list_all q xs) (h x b.0) ∙ all-pass p q h xs b.1

-- ---- words

name-text : (word : Word) → IsName word → is_text word ≡ true
name-text word h =
    let a = both (begins_with_letter word && list_all is_name_byte word && nat_le (length word) 24) (not (is_reserved word)) h in
    let b = both (begins_with_letter word && list_all is_name_byte word) (nat_le (length word) 24) a.0 in
    all-pass is_name_byte (is_between 33 126) name-byte-text word (both (begins_with_letter word) (list_all is_name_byte word) b.0).1

spelled-name-text : (word : Word) (name : List ℕ) → SpellsName word name → is_text word ≡ true
spelled-name-text word name s = ap is_text s.0 ∙ name-text name s.1

future-text : (word : Word) (name : List ℕ) → SpellsFuture word name → is_text word ≡ true
future-text word name s = ap is_text s.0 ∙ name-text name s.1

number-text : (word : Word) (n : ℕ) → SpellsNumber word n → is_text word ≡ true
number-text word n s = all-pass is_digit (is_between 33 126) digit-text word
    (both (is_between 1 20 (length word)) (list_all is_digit word)
    (both (is_between 1 20 (length word) && list_all is_digit word) (nat_lt (digits_value 10 word) (2 ^ 64)) s.0).0).1

term-text : (word : Word) (t : Term) → SpellsTerm word t → is_text word ≡ true
term-text word (Term.Literal n) s = number-text word n s
term-text word (Term.Variable name) s = spelled-name-text word name s

passed-text : (word : Word) (a : Passed) → SpellsPassed word a → is_text word ≡ true
passed-text word (Passed.Number t) s = term-text word t s
passed-text word (Passed.Future name) s = future-text word name s

root-term-text : (word : Word) (a : RootTerm) → SpellsRootTerm word a → is_text word ≡ true
root-term-text word (RootTerm.Number n) s = number-text word n s
root-term-text word (RootTerm.Root name) s = future-text word name s

by-sort-text : (word : Word) (name : List ℕ) (s : Sort) → SpellsVariable word (record { name = name; sort = s }) → is_text word ≡ true
by-sort-text word name Sort.Number h = spelled-name-text word name h
by-sort-text word name Sort.Future h = future-text word name h

variable-text : (word : Word) (v : Variable) → SpellsVariable word v → is_text word ≡ true
variable-text word v h = by-sort-text word v.name v.sort h

operation-text : (operation : MathOp) → is_text (operation_word operation) ≡ true
operation-text MathOp.Add = refl
operation-text _ = refl

relation-text : (relation : Relation) → is_text (relation_word relation) ≡ true
relation-text Less = refl
relation-text _ = refl

-- ---- several words

append-text : (front back : List Word) → AreText front → AreText back → AreText (front ++ back)
append-text [] back a b = b
append-text (word ∷ front) back a b = (a.0, append-text front back a.1 b)

each-text : {A : Type 0} (R : Word → A → Type 0) → ((word : Word) (a : A) → R word a → is_text word ≡ true) → (words : List Word) (items : List A) → EachSpells R words items → AreText words
each-text R text [] items h = tt
each-text R text (word ∷ words) [] h = absurd h
each-text R text (word ∷ words) (a ∷ items) h = (text word a h.0, each-text R text words items h.1)

behind-text : (words : List Word) (behind : Option (List ℕ)) → SpellsBehind words behind → AreText words
behind-text words None h = subst AreText (sym h.0) tt
behind-text words (Some name) h = subst AreText (sym h.0) (refl, (name-text name h.1, tt))

one-priority-text : (priority : Priority) → AreText (priority_word priority ∷ [])
one-priority-text High = (refl, tt)
one-priority-text _ = (refl, tt)

priority-text : (words : List Word) (priority : Priority) → SpellsPriority words priority → AreText words
priority-text words priority (inl one) = subst AreText (sym one) (one-priority-text priority)
priority-text words priority (inr none) = subst AreText (sym none.0) tt

retry-text : (retry : Bool) → AreText (retry_words retry)
retry-text true = (refl, tt)
retry-text false = tt

futures-text : (opening : Word) → is_text opening ≡ true → (words : List Word) (names : List (List ℕ)) → SpellsFutures opening words names → AreText words
futures-text opening is words [] h = subst AreText (sym h) tt
futures-text opening is words (name ∷ names) h = subst AreText (sym h.1) (is, each-text SpellsFuture future-text h.0 (name ∷ names) h.2)

-- ---- lines

part-text : (part : Part) (v : Of part) (c : Choice part v) → AreText (part_words part v c)
part-text GotoWord v c = (refl, tt)
part-text AName name c = (name-text name c, tt)
part-text (ANewName named) name c = (name-text name c, tt)
part-text ATarget name c = (name-text name c, tt)
part-text ATerm t c = (term-text c.0 t c.1, tt)
part-text ARelation relation c = (relation-text relation, tt)
part-text AFuture name c = (name-text name c, tt)
part-text KindVariables variables c = each-text SpellsVariable variable-text c.0 variables c.1
part-text MoreVariables variables c = each-text SpellsVariable variable-text c.0 variables c.2
part-text Arguments arguments c = each-text SpellsPassed passed-text c.0 arguments c.1
part-text RootArguments arguments c = each-text SpellsRootTerm root-term-text c.0 arguments c.1
part-text Members members c = each-text SpellsFuture future-text c.0 members c.2
part-text HeldFutures names c = futures-text (codes "holds") refl c.0 names c.1
part-text SettledFutures names c = futures-text (codes "settled") refl c.0 names c.1
part-text Predecessor behind c = behind-text c.0 behind c.1
part-text APriority priority c = priority-text c.0 priority c.1
part-text LastPriority priority c = priority-text c.0 priority c.1
part-text ARetry retry c = retry-text retry

parts-text : (ps : List Part) (vs : Values ps) (c : Choices ps vs) → AreText (words_of ps vs c [])
parts-text [] vs c = tt
parts-text (part ∷ ps) vs c = append-text (part_words part vs.0 c.0) (words_of ps vs.1 c.1 []) (part-text part vs.0 c.0) (parts-text ps vs.1 c.1)

first-text : (w : What) → is_text (entry w).word ≡ true
first-text (What.Step (Math operation to left right)) = operation-text operation
first-text (What.Kind name arguments) = refl
first-text (What.Step (Set to value)) = refl
first-text (What.Step _) = refl
first-text _ = refl

pub spelled-text : (words : List Word) (w : What) → Spells words w → AreText words
spelled-text words w p = subst AreText (sym p.1) (first-text w, parts-text (entry w).parts (entry w).values p.0)
