-- Tidy words that spell a line are the words that are written of it.
use Rattle.task_writer.proofs.Vocabulary.{◌≡◌, ◌≢◌, ℕ, ◌^◌, true, ◌&&◌, List, [], ◌∷◌, ◌++◌, map, length, refl, sym, ◌∙◌, ap, subst, append-nil, inl, inr, codes, decimal, nat_lt, list_all, digits_value, is_between, is_digit, Sort, Variable, Priority, High, Regular, Low, both, Word, begins_with_digit, Term, Passed, RootTerm, What, SpellsFuture, SpellsNumber, SpellsTerm, SpellsPassed, SpellsRootTerm, SpellsVariable, EachSpells, SpellsFutures, SpellsPriority, Spells, Part, GotoWord, ATerm, KindVariables, MoreVariables, Arguments, RootArguments, Members, HeldFutures, SettledFutures, Predecessor, APriority, LastPriority, Of, Values, Choice, Choices, part_words, entry, future_word, term_word, passed_word, root_term_word, variable_word, futures_words, priority_words, line_words, IsTidy, AllTidy}
use Rattle.task_lines.specs.Table.{words_of}
use Rattle.task_writer.proofs.Writable.{decimal-value}
use Rattle.task_writer.proofs.WrittenParts.{part_written, parts_written, written}

digit-begins : (word : Word) → word ≢ [] → list_all is_digit word ≡ true → begins_with_digit word ≡ true
digit-begins [] n h = absurd (n refl)
digit-begins (byte ∷ bytes) n h = (both (is_digit byte) (list_all is_digit bytes) h).0

number-unique : (word : Word) (n : ℕ) → SpellsNumber word n → IsTidy word → word ≡ decimal n
number-unique word n s t =
    let digits = (both (is_between 1 20 (length word)) (list_all is_digit word) (both (is_between 1 20 (length word) && list_all is_digit word) (nat_lt (digits_value 10 word) (2 ^ 64)) s.0).0).1 in
    let d = t.number (digit-begins word t.begun digits) in
    d.2 ∙ ap decimal (sym (decimal-value d.0 d.1) ∙ (ap (digits_value 10) (sym d.2) ∙ s.1))

term-unique : (word : Word) (t : Term) → SpellsTerm word t → IsTidy word → word ≡ term_word t
term-unique word (Term.Literal n) s t = number-unique word n s t
term-unique word (Term.Variable name) s t = s.0

passed-unique : (word : Word) (a : Passed) → SpellsPassed word a → IsTidy word → word ≡ passed_word a
passed-unique word (Passed.Number t) s tidy = term-unique word t s tidy
passed-unique word (Passed.Future name) s tidy = s.0

root-term-unique : (word : Word) (a : RootTerm) → SpellsRootTerm word a → IsTidy word → word ≡ root_term_word a
root-term-unique word (RootTerm.Number n) s tidy = number-unique word n s tidy
root-term-unique word (RootTerm.Root name) s tidy = s.0

by-sort : (word : Word) (name : List ℕ) (s : Sort) → let v : Variable = record { name = name; sort = s } in SpellsVariable word v → word ≡ variable_word v
by-sort word name Sort.Number h = h.0
by-sort word name Sort.Future h = h.0

variable-unique : (word : Word) (v : Variable) → SpellsVariable word v → IsTidy word → word ≡ variable_word v
variable-unique word v s tidy = by-sort word v.name v.sort s

future-unique : (word : Word) (name : List ℕ) → SpellsFuture word name → IsTidy word → word ≡ future_word name
future-unique word name s tidy = s.0

cons-same : {A : Type 0} (x y : A) (xs ys : List A) → x ≡ y → xs ≡ ys → x ∷ xs ≡ y ∷ ys
cons-same x y xs ys e f = ap (λ z. z ∷ xs) e ∙ ap (λ zs. y ∷ zs) f

append-same : {A : Type 0} (xs ys us vs : List A) → xs ≡ us → ys ≡ vs → xs ++ ys ≡ us ++ vs
append-same xs ys us vs e f = ap (λ z. z ++ ys) e ∙ ap (λ z. us ++ z) f

each-unique : {A : Type 0} (R : Word → A → Type 0) (w : A → Word) → ((word : Word) (a : A) → R word a → IsTidy word → word ≡ w a) → (words : List Word) (xs : List A) → EachSpells R words xs → AllTidy words → words ≡ map w xs
each-unique R w one [] [] s t = refl
each-unique R w one [] (a ∷ xs) s t = absurd s
each-unique R w one (word ∷ words) [] s t = absurd s
each-unique R w one (word ∷ words) (a ∷ xs) s t = cons-same word (w a) words (map w xs) (one word a s.0 t.0) (each-unique R w one words xs s.1 t.1)

tidy-parts : (xs ys : List Word) → AllTidy (xs ++ ys) → AllTidy xs × AllTidy ys
tidy-parts [] ys h = (tt, h)
tidy-parts (x ∷ xs) ys h = let r = tidy-parts xs ys h.1 in ((h.0, r.0), r.1)

futures-unique : (opening : Word) (words : List Word) (names : List (List ℕ)) → SpellsFutures opening words names → AllTidy words → words ≡ futures_words opening names
futures-unique opening words [] s t = s
futures-unique opening words (name ∷ names) s t =
    let tidy : AllTidy (opening ∷ s.0) = subst AllTidy s.1 t in
    s.1 ∙ ap (λ ws. opening ∷ ws) (each-unique SpellsFuture future_word future-unique s.0 (name ∷ names) s.2 tidy.1)

priority-unique : (words : List Word) (priority : Priority) → SpellsPriority words priority → AllTidy words → words ≡ priority_words priority
priority-unique words High (inl e) t = e
priority-unique words High (inr e) t = let c : High ≡ Regular = e.1 in cc
priority-unique words Low (inl e) t = e
priority-unique words Low (inr e) t = let c : Low ≡ Regular = e.1 in cc
priority-unique words Regular (inl e) t = let tidy : AllTidy (codes "regular" ∷ []) = subst AllTidy e t in absurd (tidy.0.needed refl)
priority-unique words Regular (inr e) t = e.0

part-unique : (part : Part) (v : Of part) (c : Choice part v) → AllTidy (part_words part v c) → part_words part v c ≡ part_written part v
part-unique GotoWord v c t = refl
part-unique ATerm term c t = ap (λ w. w ∷ []) (term-unique c.0 term c.1 t.0)
part-unique KindVariables variables c t = each-unique SpellsVariable variable_word variable-unique c.0 variables c.1 t
part-unique MoreVariables variables c t = each-unique SpellsVariable variable_word variable-unique c.0 variables c.2 t
part-unique Arguments arguments c t = each-unique SpellsPassed passed_word passed-unique c.0 arguments c.1 t
part-unique RootArguments arguments c t = each-unique SpellsRootTerm root_term_word root-term-unique c.0 arguments c.1 t
part-unique Members members c t = each-unique SpellsFuture future_word future-unique c.0 members c.2 t
part-unique HeldFutures names c t = futures-unique (codes "holds") c.0 names c.1 t
part-unique SettledFutures names c t = futures-unique (codes "settled") c.0 names c.1 t
part-unique Predecessor behind c t = c.1.0
part-unique APriority priority c t = priority-unique c.0 priority c.1 t
part-unique LastPriority priority c t = priority-unique c.0 priority c.1 t
part-unique _ _ c t = refl

parts-unique : (ps : List Part) (vs : Values ps) (c : Choices ps vs) → AllTidy (words_of ps vs c []) → words_of ps vs c [] ≡ parts_written ps vs
parts-unique [] vs c t = refl
parts-unique (part ∷ []) vs c t = append-nil (part_words part vs.0 c.0) ∙ part-unique part vs.0 c.0 (tidy-parts (part_words part vs.0 c.0) [] t).0
parts-unique (part ∷ next ∷ ps) vs c t =
    let tidy = tidy-parts (part_words part vs.0 c.0) (words_of (next ∷ ps) vs.1 c.1 []) t in
    append-same (part_words part vs.0 c.0) (words_of (next ∷ ps) vs.1 c.1 []) _ _ (part-unique part vs.0 c.0 tidy.0) (parts-unique (next ∷ ps) vs.1 c.1 tidy.1)

pub line-unique : (words : List Word) (w : What) → Spells words w → AllTidy words → words ≡ line_words w
line-unique words w p t =
    let tidy : AllTidy ((entry w).word ∷ words_of (entry w).parts (entry w).values p.0 []) = subst AllTidy p.1 t in
    p.1 ∙ (ap (λ ws. (entry w).word ∷ ws) (parts-unique (entry w).parts (entry w).values p.0 tidy.1) ∙ sym (written w))
