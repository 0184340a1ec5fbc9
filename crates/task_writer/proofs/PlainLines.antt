-- The words of a line that may be written spell it, and are tidy.
use Rattle.task_writer.proofs.Vocabulary.{◌≡◌, ◌≢◌, ℕ, ◌<◌, ◌≤◌, ◌^◌, Bool, true, false, not, ◌&&◌, ◌||◌, nat_le, nat_eq, Option, Some, None, List, [], ◌∷◌, ◌++◌, map, length, refl, sym, subst, ◌∙◌, ap, arith, inl, inr, codes, decimal, IfSome, list_all, le-leb, eqb-true, is_between, is_letter, is_digit, is_name_byte, is_reserved, begins_with_letter, IsName, Sort, Variable, MathOp, Relation, Less, AtMost, Equal, Differs, Priority, High, Regular, Low, both, either, Word, begins_with_digit, Term, Passed, RootTerm, What, operation_word, between, all-pass, Part, GotoWord, AName, ANewName, ATarget, ATerm, ARelation, AFuture, KindVariables, MoreVariables, Arguments, RootArguments, Members, HeldFutures, SettledFutures, Predecessor, APriority, LastPriority, ARetry, Of, Values, entry, future_word, relation_word, behind_words, retry_words, term_word, passed_word, root_term_word, variable_word, futures_words, priority_words, line_words, is_plain, IsTidy, AllTidy, Set, Math, Choice, Choices, part_words, append-nil, EachSpells, SpellsFuture, SpellsTerm, SpellsPassed, SpellsRootTerm, SpellsVariable, SpellsFutures, SpellsPriority, Spells}
use Rattle.task_writer.proofs.Writable.{AllOf, IsWritableTerm, IsWritablePassed, IsWritableRootTerm, IsWritableVariable, IsWritablePart, AreWritable, IsWritable, decimal-digits, decimal-begun, number-spelled}
use Rattle.task_lines.specs.Table.{words_of}
use Rattle.task_writer.proofs.WrittenParts.{part_written, parts_written, written}

-- ---- bytes

not-same : (byte n : ℕ) (b : Bool) → nat_eq byte n ≡ b → (byte ≡ n → ⊥) → not b ≡ true
not-same byte n true e h = absurd (h (eqb-true byte n e))
not-same byte n false e h = refl

plain-byte : (byte : ℕ) → 36 ≤ byte → byte ≤ 126 → is_plain byte ≡ true
plain-byte byte low high =
    ap (λ b. (b && nat_le byte 126) && not (nat_eq byte 35)) (le-leb 33 byte (omega (arith, low)))
    ∙ (ap (λ b. b && not (nat_eq byte 35)) (le-leb byte 126 high)
    ∙ not-same byte 35 (nat_eq byte 35) refl (λ e. omega (arith, e, low)))

digit-plain : (byte : ℕ) → is_digit byte ≡ true → is_plain byte ≡ true
digit-plain byte h = let b = between 48 57 byte h in plain-byte byte (omega (arith, b.0)) (omega (arith, b.1))

letter-plain : (byte : ℕ) → is_letter byte ≡ true → is_plain byte ≡ true
letter-plain byte h = elim (either (is_between 65 90 byte) (is_between 97 122 byte) h) [
  | inl a ↦ let b = between 65 90 byte a in plain-byte byte (omega (arith, b.0)) (omega (arith, b.1))
  | inr a ↦ let b = between 97 122 byte a in plain-byte byte (omega (arith, b.0)) (omega (arith, b.1))
]

name-byte-plain : (byte : ℕ) → is_name_byte byte ≡ true → is_plain byte ≡ true
name-byte-plain byte h = elim (either (is_letter byte || is_digit byte) (nat_eq byte 95) h) [
  | inl a ↦ elim (either (is_letter byte) (is_digit byte) a) [ inl l ↦ letter-plain byte l | inr d ↦ digit-plain byte d ]
  | inr e ↦ plain-byte byte (omega (arith, eqb-true byte 95 e)) (omega (arith, eqb-true byte 95 e))
]

-- ---- words

letter-no-digit : (word : Word) → begins_with_letter word ≡ true → begins_with_digit word ≡ true → ⊥
letter-no-digit [] l d = cc
letter-no-digit (byte ∷ bytes) l d = let a = between 48 57 byte d in elim (either (is_between 65 90 byte) (is_between 97 122 byte) l) [
  | inl b ↦ let c = between 65 90 byte b in omega (arith, a.1, c.0)
  | inr b ↦ let c = between 97 122 byte b in omega (arith, a.1, c.0)
]

letter-begins : (word : Word) → begins_with_letter word ≡ true → word ≢ []
letter-begins [] l e = cc
letter-begins (byte ∷ bytes) l e = cc

no-true : (b : Bool) → b ≡ true → not b ≡ true → ⊥
no-true true e f = cc
no-true false e f = cc

pub name-tidy : (word : Word) → IsName word → IsTidy word
name-tidy word h =
    let a = both (begins_with_letter word && list_all is_name_byte word && nat_le (length word) 24) (not (is_reserved word)) h in
    let b = both (begins_with_letter word && list_all is_name_byte word) (nat_le (length word) 24) a.0 in
    let c = both (begins_with_letter word) (list_all is_name_byte word) b.0 in
    record {
      begun = letter-begins word c.0;
      plain = all-pass is_name_byte is_plain name-byte-plain word c.1;
      needed = λ e. no-true (is_reserved word) (ap is_reserved e) a.1;
      number = λ d. absurd (letter-no-digit word c.0 d);
    }

name-plain : (word : Word) → IsName word → list_all is_plain word ≡ true
name-plain word h = (name-tidy word h).plain

future-tidy : (name : List ℕ) → IsName name → IsTidy (future_word name)
future-tidy name h = record {
  begun = λ e. cc;
  plain = name-plain name h;
  needed = λ e. cc;
  number = λ d. cc;
}

no-digit-needed : (word : Word) → list_all is_digit word ≡ true → word ≢ codes "regular"
no-digit-needed word h e = let c : true ≡ false = sym h ∙ ap (list_all is_digit) e in cc

begun-length : (word : Word) → 0 < length word → word ≢ []
begun-length [] h e = omega (arith, h)
begun-length (byte ∷ bytes) h e = cc

number-tidy : (n : ℕ) → n < 2 ^ 64 → IsTidy (decimal n)
number-tidy n h = record {
  begun = begun-length (decimal n) (decimal-begun n h);
  plain = all-pass is_digit is_plain digit-plain (decimal n) (decimal-digits n h);
  needed = no-digit-needed (decimal n) (decimal-digits n h);
  number = λ d. (n, h, refl);
}

-- a fixed word that is no number: each of the tests is done at its bytes
abbrev pub is_fixed : Word → Bool
is_fixed [] = false
is_fixed (byte ∷ bytes) = list_all is_plain (byte ∷ bytes) && not (is_digit byte) && not (nat_eq byte 114 && nat_eq (length bytes) 6)

pub fixed-tidy : (word : Word) → is_fixed word ≡ true → IsTidy word
fixed-tidy [] h = cc
fixed-tidy (byte ∷ bytes) h =
    let a : ((list_all is_plain (byte ∷ bytes) && not (is_digit byte)) ≡ true) × (not (nat_eq byte 114 && nat_eq (length bytes) 6) ≡ true) = both _ _ h in
    let b = both (list_all is_plain (byte ∷ bytes)) (not (is_digit byte)) a.0 in
    record {
      begun = λ e. cc;
      plain = b.0;
      needed = λ e. no-true (nat_eq byte 114 && nat_eq (length bytes) 6) (ap test e) a.1;
      number = λ d. absurd (no-true (is_digit byte) d b.1);
    } where
      test : Word → Bool
      test [] = false
      test (byte ∷ bytes) = nat_eq byte 114 && nat_eq (length bytes) 6

-- what is written spells what it is of, and is tidy
abbrev IsFine : {A : Type 0} → (Word → A → Type 0) → (A → Word) → A → Type 0
IsFine R w a = R (w a) a × IsTidy (w a)

future-fine : (name : List ℕ) → IsName name → IsFine SpellsFuture future_word name
future-fine name h = ((refl, h), future-tidy name h)

term-fine : (t : Term) → IsWritableTerm t → IsFine SpellsTerm term_word t
term-fine (Term.Literal n) h = (number-spelled n h, number-tidy n h)
term-fine (Term.Variable name) h = ((refl, h), name-tidy name h)

passed-fine : (a : Passed) → IsWritablePassed a → IsFine SpellsPassed passed_word a
passed-fine (Passed.Number t) h = term-fine t h
passed-fine (Passed.Future name) h = future-fine name h

root-term-fine : (a : RootTerm) → IsWritableRootTerm a → IsFine SpellsRootTerm root_term_word a
root-term-fine (RootTerm.Number n) h = (number-spelled n h, number-tidy n h)
root-term-fine (RootTerm.Root name) h = future-fine name h

by-sort : (name : List ℕ) (s : Sort) → IsName name → IsFine SpellsVariable variable_word (record { name = name; sort = s })
by-sort name Sort.Number h = ((refl, h), name-tidy name h)
by-sort name Sort.Future h = future-fine name h

variable-fine : (v : Variable) → IsWritableVariable v → IsFine SpellsVariable variable_word v
variable-fine v h = by-sort v.name v.sort h

operation-fixed : (operation : MathOp) → is_fixed (operation_word operation) ≡ true
operation-fixed MathOp.Add = refl
operation-fixed _ = refl

relation-tidy : (relation : Relation) → IsTidy (relation_word relation)
relation-tidy Less = fixed-tidy (codes "<") refl
relation-tidy AtMost = fixed-tidy (codes "<=") refl
relation-tidy Equal = fixed-tidy (codes "==") refl
relation-tidy Differs = fixed-tidy (codes "!=") refl

-- ---- several words

append-tidy : (xs ys : List Word) → AllTidy xs → AllTidy ys → AllTidy (xs ++ ys)
append-tidy [] ys g h = h
append-tidy (x ∷ xs) ys g h = (g.0, append-tidy xs ys g.1 h)

each-fine : {A : Type 0} (R : Word → A → Type 0) (P : A → Type 0) (w : A → Word) → ((a : A) → P a → IsFine R w a)
    → (xs : List A) → AllOf P xs → EachSpells R (map w xs) xs × AllTidy (map w xs)
each-fine R P w one [] h = (tt, tt)
each-fine R P w one (a ∷ xs) h = let f = one a h.0 in let more = each-fine R P w one xs h.1 in ((f.0, more.0), (f.1, more.1))

futures-fine : (opening : Word) → IsTidy opening → (names : List (List ℕ)) → AllOf IsName names
    → SpellsFutures opening (futures_words opening names) names × AllTidy (futures_words opening names)
futures-fine opening o [] h = (refl, tt)
futures-fine opening o (name ∷ names) h =
    let f = each-fine SpellsFuture IsName future_word future-fine (name ∷ names) h in ((map future_word (name ∷ names), refl, f.0), (o, f.1))

behind-tidy : (behind : Option (List ℕ)) → IfSome behind IsName → AllTidy (behind_words behind)
behind-tidy None h = tt
behind-tidy (Some name) h = (fixed-tidy (codes "behind") refl, (future-tidy name h, tt))

priority-fine : (priority : Priority) → SpellsPriority (priority_words priority) priority × AllTidy (priority_words priority)
priority-fine High = (inl refl, (fixed-tidy (codes "high") refl, tt))
priority-fine Regular = (inr (refl, refl), tt)
priority-fine Low = (inl refl, (fixed-tidy (codes "low") refl, tt))

retry-tidy : (retry : Bool) → AllTidy (retry_words retry)
retry-tidy true = (fixed-tidy (codes "retry") refl, tt)
retry-tidy false = tt

-- ---- lines

-- the words that are written of a part spell it, and are tidy
part-fine : (part : Part) (v : Of part) → IsWritablePart part v → ((c : Choice part v) × (part_written part v ≡ part_words part v c)) × AllTidy (part_written part v)
part-fine GotoWord v h = ((tt, refl), (fixed-tidy (codes "goto") refl, tt))
part-fine AName name h = ((h, refl), (name-tidy name h, tt))
part-fine (ANewName named) name h = ((h, refl), (name-tidy name h, tt))
part-fine ATarget name h = ((h, refl), (name-tidy name h, tt))
part-fine ATerm t h = let f = term-fine t h in (((term_word t, f.0), refl), (f.1, tt))
part-fine ARelation relation h = ((tt, refl), (relation-tidy relation, tt))
part-fine AFuture name h = ((h, refl), (future-tidy name h, tt))
part-fine KindVariables variables h =
    let f = each-fine SpellsVariable IsWritableVariable variable_word variable-fine variables h in (((map variable_word variables, f.0), refl), f.1)
part-fine MoreVariables variables h =
    let f = each-fine SpellsVariable IsWritableVariable variable_word variable-fine variables h.1 in (((map variable_word variables, h.0, f.0), refl), f.1)
part-fine Arguments arguments h =
    let f = each-fine SpellsPassed IsWritablePassed passed_word passed-fine arguments h in (((map passed_word arguments, f.0), refl), f.1)
part-fine RootArguments arguments h =
    let f = each-fine SpellsRootTerm IsWritableRootTerm root_term_word root-term-fine arguments h in (((map root_term_word arguments, f.0), refl), f.1)
part-fine Members members h =
    let f = each-fine SpellsFuture IsName future_word future-fine members h.1 in (((map future_word members, h.0, f.0), refl), f.1)
part-fine HeldFutures names h =
    let f = futures-fine (codes "holds") (fixed-tidy (codes "holds") refl) names h in (((futures_words (codes "holds") names, f.0), refl), f.1)
part-fine SettledFutures names h =
    let f = futures-fine (codes "settled") (fixed-tidy (codes "settled") refl) names h in (((futures_words (codes "settled") names, f.0), refl), f.1)
part-fine Predecessor behind h = (((behind_words behind, (refl, h)), refl), behind-tidy behind h)
part-fine APriority priority h = let f = priority-fine priority in (((priority_words priority, f.0), refl), f.1)
part-fine LastPriority priority h = let f = priority-fine priority in (((priority_words priority, f.0), refl), f.1)
part-fine ARetry retry h = ((tt, refl), retry-tidy retry)

parts-fine : (ps : List Part) (vs : Values ps) → AreWritable ps vs → ((c : Choices ps vs) × (parts_written ps vs ≡ words_of ps vs c [])) × AllTidy (parts_written ps vs)
parts-fine [] vs h = ((tt, refl), tt)
parts-fine (part ∷ []) vs h = let one = part-fine part vs.0 h.0 in (((one.0.0, tt), one.0.1 ∙ sym (append-nil (part_words part vs.0 one.0.0))), one.1)
parts-fine (part ∷ next ∷ ps) vs h =
    let one = part-fine part vs.0 h.0 in
    let more = parts-fine (next ∷ ps) vs.1 h.1 in (
      ((one.0.0, more.0.0), ap (λ ws. ws ++ parts_written (next ∷ ps) vs.1) one.0.1 ∙ ap (λ ws. part_words part vs.0 one.0.0 ++ ws) more.0.1),
      append-tidy (part_written part vs.0) (parts_written (next ∷ ps) vs.1) one.1 more.1,
    )

pub line-spelled : (w : What) → IsWritable w → Spells (line_words w) w
line-spelled w h = let p = parts-fine (entry w).parts (entry w).values h in (p.0.0, written w ∙ ap (λ ws. (entry w).word ∷ ws) p.0.1)

first-fixed : (w : What) → is_fixed (entry w).word ≡ true
first-fixed (What.Step (Math operation to left right)) = operation-fixed operation
first-fixed (What.Kind name arguments) = refl
first-fixed (What.Step (Set to value)) = refl
first-fixed (What.Step _) = refl
first-fixed _ = refl

pub line-tidy : (w : What) → IsWritable w → AllTidy (line_words w)
line-tidy w h = subst AllTidy (sym (written w)) (fixed-tidy (entry w).word (first-fixed w), (parts-fine (entry w).parts (entry w).values h).1)

pub line-begun : (w : What) → line_words w ≢ []
line-begun w e = let c : (entry w).word ∷ parts_written (entry w).parts (entry w).values ≡ [] = sym (written w) ∙ e in cc
