-- The first unknown name of a list is where its look-up stops.
use Rattle.task_reader.proofs.Vocabulary.{◌≡◌, ◌≢◌, ℕ, suc, ◌+◌, Bool, true, false, cond, not, nat_lt, List, [], ◌∷◌, ◌++◌, map, length, Some, None, Result, Ok, Err, refl, ap, sym, ◌∙◌, arith, position, position_or_len, nat_tests, Fault, UnknownName, fault_at, Future, has_variable, Term, Passed, RootTerm, Use, Plain, UsesFuture, term_use, passed_use, root_term_use, futures_uses, Known, is_given, known, uses_known, WordPlace, behind, unknown_at, is_known_term, is_known_passed, is_known_root_term}
use Rattle.task_text.specs.Fault.{◌>>◌}

-- what a look-up of a list answers, where so many names are known in front
abbrev stops_at : ℕ → ℕ → ℕ → ℕ → Result (Unit {0}) Fault
stops_at line word n len = cond (nat_lt n len) (Err (fault_at UnknownName line (word + n))) (Ok tt)

stops_at-one : (line word n len : ℕ) → stops_at line (word + 1) n len ≡ stops_at line word (1 + n) (suc len)
stops_at-one line word n len =
    let e : word + 1 + n ≡ word + (1 + n) = omega arith in
    let t : nat_lt (1 + n) (suc len) ≡ nat_lt n len = grind (arith, nat_tests) in
    rw (e, t) refl

each-step : (b : Bool) (line word n len : ℕ) (rest : Result (Unit {0}) Fault) → rest ≡ stops_at line (word + 1) n len
    → (known line word b >> rest) ≡ stops_at line word (cond (not (not b)) (1 + n) 0) (suc len)
each-step true line word n len rest h = h ∙ stops_at-one line word n len
each-step false line word n len rest h = let e : word + 0 ≡ word = omega arith in let t : nat_lt 0 (suc len) ≡ true = grind (arith, nat_tests) in rw (t, e) refl

uses_known-stops : {A : Type 0} (k : Known) (line : ℕ) (use_of : A → Use) (test : A → Bool)
    → ((a : A) → is_given k (use_of a) ≡ test a)
    → (word : ℕ) (xs : List A) → uses_known k line word (map use_of xs) ≡ stops_at line word (position_or_len (λ a. not (test a)) xs) (length xs)
unfolding uses_known
uses_known-stops k line use_of test h word [] = refl
uses_known-stops k line use_of test h word (x ∷ xs) =
    rw (h x) (each-step (test x) line word _ (length xs) _ (uses_known-stops k line use_of test h (word + 1) xs))

unknown_at-stops : (b : Bool) (line word n : ℕ) → unknown_at line word (cond b (Some n) None) ≡ cond b (Err (fault_at UnknownName line (word + n))) (Ok tt)
unknown_at-stops true line word n = refl
unknown_at-stops false line word n = refl

-- the first unknown name of a list is where its look-up stops
pub uses_known-is : {A : Type 0} (k : Known) (line : ℕ) (use_of : A → Use) (test : A → Bool)
    → ((a : A) → is_given k (use_of a) ≡ test a)
    → (word : ℕ) (xs : List A) → unknown_at line word (position (λ a. not (test a)) xs) ≡ uses_known k line word (map use_of xs)
uses_known-is k line use_of test h word xs =
    unknown_at-stops _ line word _ ∙ sym (uses_known-stops k line use_of test h word xs)

-- a list of futures is looked up in the variables
pub futures_known-is : (k : Known) (line word : ℕ) (names : List (List ℕ))
    → unknown_at line word (position (λ name. not (has_variable k.variables Future name)) names) ≡ uses_known k line word (map UsesFuture names)
futures_known-is k line word names = uses_known-is k line UsesFuture (has_variable k.variables Future) (λ _. refl) word names

-- an operand is given where its variable is
pub term_known-is : (k : Known) (t : Term) → is_given k (term_use t) ≡ is_known_term k.variables t
term_known-is k (Term.Literal n) = refl
term_known-is k (Term.Variable name) = refl

passed_known-is : (k : Known) (p : Passed) → is_given k (passed_use p) ≡ is_known_passed k.variables p
passed_known-is k (Passed.Number t) = term_known-is k t
passed_known-is k (Passed.Future name) = refl

-- the arguments of a spawn are looked up in the variables
pub arguments_known-is : (k : Known) (line word : ℕ) (arguments : List Passed)
    → unknown_at line word (position (λ p. not (is_known_passed k.variables p)) arguments) ≡ uses_known k line word (map passed_use arguments)
arguments_known-is k line word arguments = uses_known-is k line passed_use (is_known_passed k.variables) (passed_known-is k) word arguments

root_term_known-is : (k : Known) (t : RootTerm) → is_given k (root_term_use t) ≡ is_known_root_term k.roots t
root_term_known-is k (RootTerm.Number n) = refl
root_term_known-is k (RootTerm.Root name) = refl

-- the arguments of a root are looked up in the roots
pub root_terms_known-is : (k : Known) (line word : ℕ) (arguments : List RootTerm)
    → unknown_at line word (position (λ t. not (is_known_root_term k.roots t)) arguments) ≡ uses_known k line word (map root_term_use arguments)
root_terms_known-is k line word arguments = uses_known-is k line root_term_use (is_known_root_term k.roots) (root_term_known-is k) word arguments

-- ---- one list behind another

then-assoc : (a b c : Result (Unit {0}) Fault) → (a >> b) >> c ≡ a >> (b >> c)
then-assoc (Ok u) b c = refl
then-assoc (Err fault) b c = refl

then-done : (a : Result (Unit {0}) Fault) → a >> Ok tt ≡ a
then-done (Ok u) = refl
then-done (Err fault) = refl

one-more : (word n : ℕ) → word + suc n ≡ (word + 1) + n
one-more word n = omega arith

-- the names of two lists are looked up one list after the other
pub uses_known-append : (k : Known) (line word : ℕ) (one other : List Use)
    → uses_known k line word (one ++ other) ≡ (uses_known k line word one >> uses_known k line (word + length one) other)
unfolding uses_known
uses_known-append k line word [] other = let z : word ≡ word + 0 = omega arith in ap (λ w. uses_known k line w other) z
uses_known-append k line word (first ∷ one) other =
    let step : Result (Unit {0}) Fault = known line word (is_given k first) in
    ap (λ rest. step >> rest) (uses_known-append k line (word + 1) one other)
    ∙ (ap (λ w. step >> (uses_known k line (word + 1) one >> uses_known k line w other)) (sym (one-more word (length one)))
    ∙ sym (then-assoc step (uses_known k line (word + 1) one) (uses_known k line (word + suc (length one)) other)))

-- where the first of two lists is in order, what is found in the second is found in both
pub found-behind : (k : Known) (p q : WordPlace) (one other : List Use) (r s : Result (Unit {0}) Fault)
    → q ≡ behind (length one) p → r ≡ uses_known k p.line p.word one → r ≡ Ok tt → s ≡ uses_known k q.line q.word other
    → s ≡ uses_known k p.line p.word (one ++ other)
found-behind k p q one other r s place first ok second =
    let e : uses_known k p.line p.word one ≡ Ok tt = sym first ∙ ok in
    let f : s ≡ uses_known k p.line (p.word + length one) other = second ∙ ap (λ (q : WordPlace). uses_known k q.line q.word other) place in
    f ∙ sym (uses_known-append k p.line p.word one other ∙ ap (λ (o : Result (Unit {0}) Fault). o >> uses_known k p.line (p.word + length one) other) e)

-- a fault in the first of two lists is the fault of both
pub fault-first : (k : Known) (line word : ℕ) (one other : List Use) (r : Result (Unit {0}) Fault) (fault : Fault)
    → r ≡ uses_known k line word one → r ≡ Err fault → Err fault ≡ uses_known k line word (one ++ other)
fault-first k line word one other r fault first err =
    sym (uses_known-append k line word one other
    ∙ ap (λ (o : Result (Unit {0}) Fault). o >> uses_known k line (word + length one) other) (sym first ∙ err))

-- a list that is not empty is looked up behind its fixed word
pub list-behind : (k : Known) (p q : WordPlace) (names : List (List ℕ)) (r : Result (Unit {0}) Fault) → names ≢ [] → q ≡ behind 1 p
    → r ≡ uses_known k q.line q.word (map UsesFuture names) → r ≡ uses_known k p.line p.word (futures_uses names)
unfolding uses_known
list-behind k p q [] r some place found = absurd (some refl)
list-behind k p q (name ∷ names) r some place found =
    found ∙ ap (λ (q : WordPlace). uses_known k q.line q.word (map UsesFuture (name ∷ names))) place

-- behind two words that name nothing
pub behind-two : (k : Known) (line : ℕ) (first at : WordPlace) (uses : List Use) → first.line ≡ line → first.word ≡ 1 → at ≡ behind 2 first
    → uses_known k at.line at.word uses ≡ uses_known k line 1 (Plain ∷ Plain ∷ uses)
unfolding uses_known
behind-two k line first at uses a b place =
    ap (λ (q : WordPlace). uses_known k q.line q.word uses) place
    ∙ (ap (λ w. uses_known k first.line (w + 2) uses) b ∙ ap (λ l. uses_known k l 3 uses) a)

-- behind a word that names nothing
pub behind-one : (k : Known) (line : ℕ) (first at : WordPlace) (uses : List Use) → first.line ≡ line → first.word ≡ 1 → at ≡ behind 1 first
    → uses_known k at.line at.word uses ≡ uses_known k line 1 (Plain ∷ uses)
unfolding uses_known
behind-one k line first at uses a b place =
    ap (λ (q : WordPlace). uses_known k q.line q.word uses) place
    ∙ (ap (λ w. uses_known k first.line (w + 1) uses) b ∙ ap (λ l. uses_known k l 2 uses) a)

-- where a name is known, what is found behind it is found
pub name-behind : (k : Known) (p q : WordPlace) (first : Use) (uses : List Use) (r s : Result (Unit {0}) Fault)
    → q ≡ behind 1 p → r ≡ known p.line p.word (is_given k first) → r ≡ Ok tt → s ≡ uses_known k q.line q.word uses
    → s ≡ uses_known k p.line p.word (first ∷ uses)
unfolding uses_known
name-behind k p q first uses r s place found ok later =
    let e : known p.line p.word (is_given k first) ≡ Ok tt = sym found ∙ ok in
    later ∙ (ap (λ (q : WordPlace). uses_known k q.line q.word uses) place
    ∙ sym (ap (λ (o : Result (Unit {0}) Fault). o >> uses_known k p.line (p.word + 1) uses) e))

-- a word that names nothing is passed
pub plain-behind : (k : Known) (p q : WordPlace) (uses : List Use) (s : Result (Unit {0}) Fault)
    → q ≡ behind 1 p → s ≡ uses_known k q.line q.word uses → s ≡ uses_known k p.line p.word (Plain ∷ uses)
unfolding uses_known
plain-behind k p q uses s place later = later ∙ ap (λ (q : WordPlace). uses_known k q.line q.word uses) place

-- the last name of a line
pub name-last : (k : Known) (p : WordPlace) (last : Use) (s : Result (Unit {0}) Fault)
    → s ≡ known p.line p.word (is_given k last) → s ≡ uses_known k p.line p.word (last ∷ [])
unfolding uses_known
name-last k p last s found = found ∙ sym (then-done (known p.line p.word (is_given k last)))
