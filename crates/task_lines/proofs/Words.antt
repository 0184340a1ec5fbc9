-- What the words of parts stand for: those that pass the tests of a part are the words that spell it.
use Rattle.task_lines.proofs.Vocabulary.{◌≡◌, ℕ, zero, suc, ◌≤◌, Bool, true, false, not, ◌&&◌, ◌||◌, cond, nat_eq, nat_le, Some, List, [], ◌∷◌, ◌++◌, length, drop, slice_get, refl, sym, ◌∙◌, ap, subst, inl, inr, arith, nat_lt, list_any, list_all, digits_value, leb-true, eqb-true, ltb-true, lt-ltb, slice_get_within, length-append, same_bytes, is_between, is_letter, is_digit, is_name_byte, is_reserved, begins_with_letter, is_name, IsName, AllDiffer, Sort, Variable, both, either, not_true, or_right, get-front, differ-snoc, Cause, Word, is_present, begins_with_digit, is_number, is_future, is_operand, is_no_bad_number, is_among, a_name, new_name, a_future, same-bytes, same-word, future-parts, IsWord, IsItem, Term, Passed, RootTerm, same_sort, is_variable, has_variable, an_operand, term_of, is_variable_word, variable_of, is_new, a_variable, other_future, is_argument, passed_of, an_argument, a_member, is_root_argument, root_term_of, append_assoc, SpellsFuture, IsNew}
use Rattle.task_lines.specs.Grammar.{SpellsName, SpellsTerm, SpellsPassed, SpellsRootTerm, SpellsVariable}
use Rattle.task_lines.proofs.Parts.{begins_number}

-- ---- first bytes

true-false : true ≡ false → ⊥
true-false e = cc

pub some-same : {A : Type 0} (x y : A) → Some x ≡ Some y → x ≡ y
some-same x y e = cc

-- a test that would tell two things apart fails
fails : (b : Bool) → (b ≡ true → ⊥) → b ≡ false
fails true n = absurd (n refl)
fails false n = refl

letter-from : (byte : ℕ) → is_letter byte ≡ true → 65 ≤ byte
letter-from byte h = elim (either (is_between 65 90 byte) (is_between 97 122 byte) h) [
  | inl a ↦ leb-true 65 byte (both (nat_le 65 byte) (nat_le byte 90) a).0
  | inr b ↦ let c : 97 ≤ byte = leb-true 97 byte (both (nat_le 97 byte) (nat_le byte 122) b).0 in omega arith
]

digit-to : (byte : ℕ) → is_digit byte ≡ true → byte ≤ 57
digit-to byte h = leb-true byte 57 (both (nat_le 48 byte) (nat_le byte 57) h).1

pub name-letter : (word : Word) → IsName word → begins_with_letter word ≡ true
name-letter word h =
    let a = both (begins_with_letter word && list_all is_name_byte word && nat_le (length word) 24) (not (is_reserved word)) h in
    let b = both (begins_with_letter word && list_all is_name_byte word) (nat_le (length word) 24) a.0 in
    (both (begins_with_letter word) (list_all is_name_byte word) b.0).0

letter-no-digit : (word : Word) → begins_with_letter word ≡ true → begins_with_digit word ≡ false
letter-no-digit [] h = refl
letter-no-digit (byte ∷ bytes) h = fails (is_digit byte) (λ d. omega (arith, letter-from byte h, digit-to byte d))

letter-no-future : (word : Word) → begins_with_letter word ≡ true → is_future word ≡ false
letter-no-future [] h = refl
letter-no-future (byte ∷ bytes) h = fails (nat_eq byte 64 && is_name bytes) (λ f. omega (arith, letter-from byte h, eqb-true byte 64 (both (nat_eq byte 64) (is_name bytes) f).0))

digit-no-future : (word : Word) → begins_with_digit word ≡ true → is_future word ≡ false
digit-no-future [] h = refl
digit-no-future (byte ∷ bytes) h = fails (nat_eq byte 64 && is_name bytes) (λ f. omega (arith, digit-to byte h, eqb-true byte 64 (both (nat_eq byte 64) (is_name bytes) f).0))

-- ---- names

neither : (a b : Bool) → (a || b) ≡ false → (a ≡ false) × (b ≡ false)
neither true b e = cc
neither false b e = (refl, e)

new-name : (name : List ℕ) (taken : List (List ℕ)) → is_among taken name ≡ false → IsNew name taken
new-name name [] e = tt
new-name name (other ∷ more) e = let n : (same_bytes name other ≡ false) × (is_among more name ≡ false) = neither _ _ e in
    ((λ (same : name ≡ other). let c : true ≡ false = sym (same-bytes name) ∙ (ap (λ o. same_bytes name o) same ∙ n.0) in cc), new-name name more n.1)

not-among : (name : List ℕ) (taken : List (List ℕ)) → IsNew name taken → is_among taken name ≡ false
not-among name [] n = refl
not-among name (other ∷ more) n = ap (λ b. b || is_among more name) (fails (same_bytes name other) (λ h. n.0 (same-word name other h))) ∙ not-among name more n.1

pub name-means : IsWord SpellsName a_name (λ word. word)
name-means = record {
  there = λ p. true-false (sym p.0);
  spells = λ word p. (refl, p.0);
  passes = λ word name r. ((ap is_name r.0 ∙ r.1, tt), r.0);
}

-- a name that is none of those taken
pub new-name-means : (cause : Cause) (taken : List (List ℕ)) → IsWord (λ word name. SpellsName word name × IsNew name taken) (new_name cause taken) (λ word. word)
new-name-means cause taken = record {
  there = λ p. true-false (sym p.0);
  spells = λ word p. ((refl, p.0), new-name word taken (not_true (is_among taken word) p.1.0));
  passes = λ word name r. ((ap is_name r.0.0 ∙ r.0.1, (ap (λ w. not (is_among taken w)) r.0.0 ∙ ap not (not-among name taken r.1), tt)), r.0.0);
}

pub future-passes : (word : Word) (name : List ℕ) → SpellsFuture word name → is_future word ≡ true
future-passes word name s = ap is_future s.0 ∙ s.1

pub future-present : (word : Word) (name : List ℕ) → SpellsFuture word name → is_present word ≡ true
future-present word name s = ap is_present s.0

pub future-means : IsWord SpellsFuture a_future (drop 1)
future-means = record {
  there = λ p. true-false (sym p.0);
  spells = λ word p. future-parts word p.0;
  passes = λ word name r. ((future-passes word name r, tt), ap (drop 1) r.0);
}

-- ---- operands

term-spelled : (word : Word) (digit : Bool) → cond digit (is_number word) true ≡ true → (digit || is_name word) ≡ true
    → SpellsTerm word (cond digit (Term.Literal (digits_value 10 word)) (Term.Variable word))
term-spelled word true n o = (n, refl)
term-spelled word false n o = (refl, o)

record ReadsTerm (word : Word) (t : Term) : Type 0 where
  number : is_no_bad_number word ≡ true
  operand : is_operand word ≡ true
  no_future : is_future word ≡ false
  value : term_of word ≡ t

reads-term : (word : Word) (t : Term) → SpellsTerm word t → ReadsTerm word t
reads-term word (Term.Literal n) s = let d = begins_number word s.0 in record {
  number = ap (λ b. cond b (is_number word) true) d ∙ s.0;
  operand = ap (λ b. b || is_name word) d;
  no_future = digit-no-future word d;
  value = ap (λ b. cond b (Term.Literal (digits_value 10 word)) (Term.Variable word)) d ∙ ap Term.Literal s.1;
}
reads-term word (Term.Variable name) s =
    let is : IsName word = subst IsName (sym s.0) s.1 in
    let d = letter-no-digit word (name-letter word is) in
    record {
      number = ap (λ b. cond b (is_number word) true) d;
      operand = ap (λ b. b || is_name word) d ∙ is;
      no_future = letter-no-future word (name-letter word is);
      value = ap (λ b. cond b (Term.Literal (digits_value 10 word)) (Term.Variable word)) d ∙ ap Term.Variable s.0;
    }

pub term-means : IsWord SpellsTerm an_operand term_of
term-means = record {
  there = λ p. true-false (sym p.1.0);
  spells = λ word p. term-spelled word (begins_with_digit word) p.0 p.1.0;
  passes = λ word t r. let h = reads-term word t r in ((h.number, (h.operand, tt)), h.value);
}

-- ---- lists

-- a list to which there may be one more, and one that had fewer before
one-more : {X : Type 0} (found : List X) (a : X) (limit : ℕ) → nat_lt (length found) limit ≡ true → length (found ++ a ∷ []) ≤ limit
one-more found a limit e = omega (arith, length-append found (a ∷ []), ltb-true (length found) limit e)

few : {X : Type 0} (found : List X) (a : X) (more : List X) (limit : ℕ) → length (found ++ a ∷ more) ≤ limit → nat_lt (length found) limit ≡ true
few found a more limit h = lt-ltb (length found) limit (omega (arith, length-append found (a ∷ more), h))

pub get-at : {X : Type 0} (xs : List X) (y : X) (more : List X) → slice_get (xs ++ y ∷ more) (length xs) ≡ Some y
get-at [] y more = refl
get-at (x ∷ xs) y more = get-at xs y more

differ-absent : {X : Type 0} (xs : List X) (y : X) (more : List X) → AllDiffer (xs ++ y ∷ more) → (j : ℕ) → slice_get xs j ≡ Some y → ⊥
differ-absent xs y more d j e = let same : j ≡ length xs = d j (length xs) y (get-front xs (y ∷ more) j y e) (get-at xs y more) in
    omega (arith, same, slice_get_within xs j y e)

any-by : {X : Type 0} (test : X → Bool) (x : X) (xs : List X) (b : Bool) → test x ≡ b
    → (list_any test xs ≡ true → (j : ℕ) × (y : X) × (slice_get xs j ≡ Some y) × (test y ≡ true))
    → (b || list_any test xs) ≡ true → (j : ℕ) × (y : X) × (slice_get (x ∷ xs) j ≡ Some y) × (test y ≡ true)
any-by test x xs true t further h = (zero, x, refl, t)
any-by test x xs false t further h = let r = further h in (suc r.0, r.1, r.2, r.3)

any-where : {X : Type 0} (test : X → Bool) (xs : List X) → list_any test xs ≡ true → (j : ℕ) × (y : X) × (slice_get xs j ≡ Some y) × (test y ≡ true)
any-where test [] h = cc
any-where test (x ∷ xs) h = any-by test x xs (test x) refl (any-where test xs) h

pub any-at : {X : Type 0} (test : X → Bool) (xs : List X) (j : ℕ) (x : X) → slice_get xs j ≡ Some x → test x ≡ true → list_any test xs ≡ true
any-at test [] j x e t = cc
any-at test (y ∷ ys) zero x e t = ap (λ b. b || list_any test ys) (ap test (some-same y x e) ∙ t)
any-at test (y ∷ ys) (suc j) x e t = or_right (test y) (list_any test ys) (any-at test ys j x e t)

-- ---- futures

absent : (name : List ℕ) (taken : List (List ℕ)) → is_among taken name ≡ false → (j : ℕ) → slice_get taken j ≡ Some name → ⊥
absent name taken n j e = true-false (sym (any-at (same_bytes name) taken j name e (same-bytes name)) ∙ n)

no-name : (taken : List (List ℕ)) (name : List ℕ) (more : List (List ℕ)) → AllDiffer (taken ++ name ∷ more) → is_among taken name ≡ false
no-name taken name more d = fails (is_among taken name) (λ h.
    let r = any-where (same_bytes name) taken h in
    differ-absent taken name more d r.0 (r.2 ∙ ap Some (sym (same-word name r.1 r.3))))

-- a future that is none of those before it in its list
pub other-future-means : (test : Word → Bool) → IsItem SpellsFuture (λ found. AllDiffer found) test other_future (drop 1)
other-future-means test = record {
  there = λ found t p. true-false (sym p.0);
  spells = λ found word t holds p. (future-parts word p.0, differ-snoc found (drop 1 word) holds (absent (drop 1 word) found (not_true (is_among found (drop 1 word)) p.1.0)));
  passes = λ found name more word holds r. (
    (future-passes word name r, (ap (λ w. not (is_among found (drop 1 w))) r.0 ∙ ap not (no-name found name more holds), tt)),
    ap (drop 1) r.0,
  );
}

pub member-means : (test : Word → Bool) → IsItem SpellsFuture (λ found. length found ≤ 8) test (λ found. a_member (length found)) (drop 1)
member-means test = record {
  there = λ found t p. true-false (sym p.0);
  spells = λ found word t holds p. (future-parts word p.0, one-more found (drop 1 word) 8 p.1.0);
  passes = λ found name more word holds r. ((future-passes word name r, (few found name more 8 holds, tt)), ap (drop 1) r.0);
}

-- ---- arguments

passed-spelled : (word : Word) → is_no_bad_number word ≡ true → is_argument word ≡ true → SpellsPassed word (passed_of word)
passed-spelled word n h = by (is_future word) refl h where
  by : (b : Bool) → is_future word ≡ b → (is_operand word || b) ≡ true → SpellsPassed word (cond b (Passed.Future (drop 1 word)) (Passed.Number (term_of word)))
  by true f h = future-parts word f
  by false f h = term-spelled word (begins_with_digit word) n (elim (either (is_operand word) false h) [ inl o ↦ o | inr o ↦ cc ])

-- a word stands for what is read from it
pub record ReadsAs {A : Type 0} (test : Word → Bool) (of : Word → A) (word : Word) (a : A) : Type 0 where
  number : is_no_bad_number word ≡ true
  pub passes : test word ≡ true
  value : of word ≡ a

pub reads-passed : (word : Word) (a : Passed) → SpellsPassed word a → ReadsAs is_argument passed_of word a
reads-passed word (Passed.Number t) s = let h = reads-term word t s in record {
  number = h.number;
  passes = ap (λ b. b || is_future word) h.operand;
  value = ap (λ b. cond b (Passed.Future (drop 1 word)) (Passed.Number (term_of word))) h.no_future ∙ ap Passed.Number h.value;
}
reads-passed word (Passed.Future name) s = record {
  number = ap is_no_bad_number s.0;
  passes = or_right (is_operand word) (is_future word) (future-passes word name s);
  value = ap (λ b. cond b (Passed.Future (drop 1 word)) (Passed.Number (term_of word))) (future-passes word name s) ∙ ap (λ w. Passed.Future (drop 1 w)) s.0;
}

pub argument-means : IsItem SpellsPassed (λ found. length found ≤ 16) is_argument (λ found. an_argument (length found)) passed_of
argument-means = record {
  there = λ found t p. true-false (sym t);
  spells = λ found word t holds p. (passed-spelled word p.0 t, one-more found (passed_of word) 16 p.1.0);
  passes = λ found a more word holds r. let h = reads-passed word a r in ((h.number, (few found a more 16 holds, tt)), h.value);
}

root-term-spelled : (word : Word) → is_no_bad_number word ≡ true → is_root_argument word ≡ true → SpellsRootTerm word (root_term_of word)
root-term-spelled word n h = by (is_future word) refl h where
  number : (digit : Bool) → cond digit (is_number word) true ≡ true → (digit || false) ≡ true → is_number word ≡ true
  number true n h = n
  number false n h = cc

  by : (b : Bool) → is_future word ≡ b → (begins_with_digit word || b) ≡ true → SpellsRootTerm word (cond b (RootTerm.Root (drop 1 word)) (RootTerm.Number (digits_value 10 word)))
  by true f h = future-parts word f
  by false f h = (number (begins_with_digit word) n h, refl)

pub reads-root-term : (word : Word) (a : RootTerm) → SpellsRootTerm word a → ReadsAs is_root_argument root_term_of word a
reads-root-term word (RootTerm.Number n) s = let d = begins_number word s.0 in record {
  number = ap (λ b. cond b (is_number word) true) d ∙ s.0;
  passes = ap (λ b. b || is_future word) d;
  value = ap (λ b. cond b (RootTerm.Root (drop 1 word)) (RootTerm.Number (digits_value 10 word))) (digit-no-future word d) ∙ ap RootTerm.Number s.1;
}
reads-root-term word (RootTerm.Root name) s = record {
  number = ap is_no_bad_number s.0;
  passes = or_right (begins_with_digit word) (is_future word) (future-passes word name s);
  value = ap (λ b. cond b (RootTerm.Root (drop 1 word)) (RootTerm.Number (digits_value 10 word))) (future-passes word name s) ∙ ap (λ w. RootTerm.Root (drop 1 w)) s.0;
}

pub root-argument-means : IsItem SpellsRootTerm (λ found. length found ≤ 16) is_root_argument (λ found. an_argument (length found)) root_term_of
root-argument-means = record {
  there = λ found t p. true-false (sym t);
  spells = λ found word t holds p. (root-term-spelled word p.0 t, one-more found (root_term_of word) 16 p.1.0);
  passes = λ found a more word holds r. let h = reads-root-term word a r in ((h.number, (few found a more 16 holds, tt)), h.value);
}

-- ---- variables

variable-spelled : (word : Word) → is_variable_word word ≡ true → SpellsVariable word (variable_of word)
variable-spelled word h = by (is_future word) refl h where
  by : (b : Bool) → is_future word ≡ b → (is_name word || b) ≡ true
      → SpellsVariable word (cond b (record { name = drop 1 word; sort = Sort.Future }) (record { name = word; sort = Sort.Number }))
  by true f h = future-parts word f
  by false f h = (refl, elim (either (is_name word) false h) [ inl n ↦ n | inr n ↦ cc ])

record ReadsVariable (word : Word) (v : Variable) : Type 0 where
  passes : is_variable_word word ≡ true
  value : variable_of word ≡ v
  present : is_present word ≡ true

letter-present : (word : Word) → begins_with_letter word ≡ true → is_present word ≡ true
letter-present [] h = cc
letter-present (byte ∷ bytes) h = refl

reads-by-sort : (word : Word) (name : List ℕ) (s : Sort) → SpellsVariable word (record { name = name; sort = s }) → ReadsVariable word (record { name = name; sort = s })
reads-by-sort word name Sort.Number h =
    let is : IsName word = subst IsName (sym h.0) h.1 in
    let n = letter-no-future word (name-letter word is) in
    record {
      passes = ap (λ b. b || is_future word) is;
      value = ap (λ b. cond b (record { name = drop 1 word; sort = Sort.Future }) (record { name = word; sort = Sort.Number })) n ∙ ap (λ w. record { name = w; sort = Sort.Number }) h.0;
      present = letter-present word (name-letter word is);
    }
reads-by-sort word name Sort.Future h = record {
  passes = or_right (is_name word) (is_future word) (future-passes word name h);
  value = ap (λ b. cond b (record { name = drop 1 word; sort = Sort.Future }) (record { name = word; sort = Sort.Number })) (future-passes word name h)
      ∙ ap (λ w. record { name = drop 1 w; sort = Sort.Future }) h.0;
  present = future-present word name h;
}

reads-variable : (word : Word) (v : Variable) → SpellsVariable word v → ReadsVariable word v
reads-variable word v h = reads-by-sort word v.name v.sort h

pub variable-present : (word : Word) (v : Variable) → SpellsVariable word v → is_present word ≡ true
variable-present word v h = (reads-variable word v h).present

pub same-sort : (a : Sort) → same_sort a a ≡ true
same-sort Sort.Number = refl
same-sort Sort.Future = refl

new-variable : (taken : List Variable) (v : Variable) → has_variable taken v.sort v.name ≡ false → (j : ℕ) → slice_get taken j ≡ Some v → ⊥
new-variable taken v n j e = let is : is_variable v.sort v.name v ≡ true = ap (λ b. b && same_bytes v.name v.name) (same-sort v.sort) ∙ same-bytes v.name in
    true-false (sym (any-at (is_variable v.sort v.name) taken j v e is) ∙ n)

pub same-sort-is : (a b : Sort) → same_sort a b ≡ true → a ≡ b
same-sort-is Sort.Number Sort.Number h = refl
same-sort-is Sort.Future Sort.Future h = refl
same-sort-is Sort.Number Sort.Future h = cc
same-sort-is Sort.Future Sort.Number h = cc

same-variable : (u v : Variable) → u.name ≡ v.name → u.sort ≡ v.sort → u ≡ v
same-variable u v a b = ap by_name a ∙ ap by_sort b where
  by_name : List ℕ → Variable
  by_name n = record { name = n; sort = u.sort }

  by_sort : Sort → Variable
  by_sort s = record { name = v.name; sort = s }

no-variable : (taken : List Variable) (v : Variable) (more : List Variable) → AllDiffer (taken ++ v ∷ more) → has_variable taken v.sort v.name ≡ false
no-variable taken v more d = fails (has_variable taken v.sort v.name) (λ h.
    let r = any-where (is_variable v.sort v.name) taken h in
    let b = both (same_sort v.sort r.1.sort) (same_bytes v.name r.1.name) r.3 in
    let same = same-variable r.1 v (sym (same-word v.name r.1.name b.1)) (sym (same-sort-is v.sort r.1.sort b.0)) in
    differ-absent taken v more d r.0 (r.2 ∙ ap Some same))

-- the variables so far differ and are not too many
abbrev pub AreNew : ℕ → List Variable → Type 0
AreNew limit variables = AllDiffer variables × (length variables ≤ limit)

pub variable-means : (limit : ℕ) (before : List Variable) (test : Word → Bool)
    → IsItem SpellsVariable (λ found. AreNew limit (before ++ found)) test (λ found. a_variable limit (before ++ found)) variable_of
variable-means limit before test = record {
  there = λ found t p. true-false (sym p.0);
  spells = λ found word t holds p.
      let taken = before ++ found in
      let v = variable_of word in
      let new = new-variable taken v (not_true (has_variable taken v.sort v.name) p.1.0) in
      let all : AreNew limit (taken ++ v ∷ []) = (differ-snoc taken v holds.0 new, one-more taken v limit p.1.1.0) in
      (variable-spelled word p.0, subst (AreNew limit) (append_assoc before found (v ∷ [])) all);
  passes = λ found v more word holds r.
      let taken = before ++ found in
      let all : AreNew limit (taken ++ v ∷ more) = subst (AreNew limit) (sym (append_assoc before found (v ∷ more))) holds in
      let h = reads-variable word v r in
      let new : is_new taken word ≡ true = ap (λ (u : Variable). not (has_variable taken u.sort u.name)) h.value ∙ ap not (no-variable taken v more all.0) in
      ((h.passes, (new, (few taken v more limit all.1, tt))), h.value);
}
