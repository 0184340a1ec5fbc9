-- What a parser that answers has taken from the words of a row.
use Rattle.std.proofs.Common.{◌≡◌, ◌≢◌, ℕ, ◌<◌, Bool, true, false, cond, nat_eq, List, [], ◌∷◌, ◌++◌, drop, Ok, Err, refl, sym, ◌∙◌, ap, subst, append-nil}
use Rattle.std.specs.Prelude.{nat_lt}
use Rattle.std.specs.Cmp.Lexicographic.{same_text}
use Rattle.std.proofs.lemmas.Bool.{ltb-true, eqb-true}
use Rattle.std.proofs.lemmas.List.{append_assoc}
use Rattle.task_syntax.specs.Names.{IsName, same_bytes, is_name}
use Rattle.task_syntax.proofs.Bools.{both}
use Rattle.task_text.specs.declared.fault.Cause.{Cause}
use Rattle.task_text.specs.declared.fault.Cause.TheVariants.{UnknownWord, TooMany}
use Rattle.task_text.specs.declared.fault.Fault.{Fault}
use Rattle.task_text.specs.Text.{Word}
use Rattle.task_text.specs.Scan.{is_future, Scan, first_of, seen, moved, fault_here, Outcome, Parser, and_then, ◌>>=◌, ◌>>◌, need, room, Test, tested, fixed, eat, each_along, each, one_or_more}

pub same-ok : {A : Type 0} (a b : A × Scan) → ◌≡◌ {A = Outcome A} (Ok a) (Ok b) → a ≡ b
same-ok a b e = cc

-- what one parser gives, and what the next makes of it
pub record Parts {A B : Type 0} (o : Outcome A) (f : A → Parser B) (r : B × Scan) : Type 0 where
  pub value : A
  pub scan : Scan
  pub first : o ≡ Ok (value, scan)
  pub next : f value scan ≡ Ok r

pub parts : {A B : Type 0} (o : Outcome A) (f : A → Parser B) (r : B × Scan) → and_then o f ≡ Ok r → Parts o f r
parts (Ok p) f r e = record { value = p.0; scan = p.1; first = refl; next = e }
parts (Err fault) f r e = cc

when : {B : Type 0} (b : Bool) (fault : Fault) (q : Parser B) (s : Scan) (r : B × Scan)
    → and_then (cond b (Ok (tt, s)) (Err fault)) (λ (u : Unit {0}). q) ≡ Ok r → (b ≡ true) × (q s ≡ Ok r)
when true fault q s r e = (refl, e)
when false fault q s r e = cc

-- a word that passed its test, and what was read from there
pub needed : {B : Type 0} (test : Word → Bool) (cause : Cause) (q : Parser B) (s : Scan) (r : B × Scan)
    → (need test cause >> q) s ≡ Ok r → (test (seen s) ≡ true) × (q s ≡ Ok r)
unfolding need
needed test cause q s r e = when (test (seen s)) (fault_here cause s) q s r e

pub roomy : {B : Type 0} (count limit : ℕ) (q : Parser B) (s : Scan) (r : B × Scan) → (room count limit >> q) s ≡ Ok r → (count < limit) × (q s ≡ Ok r)
unfolding room
roomy count limit q s r e = let w = when (nat_lt count limit) (fault_here TooMany s) q s r e in (ltb-true count limit w.0, w.1)

-- a word that no missing word could be stands first
pub word-there : (P : Word → Type 0) → (P [] → ⊥) → (s : Scan) → P (seen s) → s.left ≡ seen s ∷ (moved s).left
unfolding seen moved
word-there P none s p = by s.left p where
  by : (left : List Word) → P (first_of left) → left ≡ first_of left ∷ drop 1 left
  by [] p = absurd (none p)
  by (word ∷ words) p = refl

pub same-word : (a b : Word) → same_bytes a b ≡ true → a ≡ b
same-word a b h = same_text a b (sym h)

-- `@` and a name
pub future-parts : (word : Word) → is_future word ≡ true → (word ≡ 64 ∷ drop 1 word) × IsName (drop 1 word)
future-parts [] h = cc
future-parts (byte ∷ bytes) h = let b : (nat_eq byte 64 ≡ true) × (is_name bytes ≡ true) = both _ _ h in
    (ap (λ c. c ∷ bytes) (eqb-true byte 64 b.0), b.1)

-- ---- single words

-- the word passes each of the tests
abbrev pub AllPass : List Test → Word → Type 0
AllPass [] word = Unit {0}
AllPass (test ∷ tests) word = (test.0 word ≡ true) × AllPass tests word

-- a word that was taken passes its tests
pub tested-taken : {A : Type 0} (tests : List Test) (f : Word → A) (s : Scan) (r : A × Scan) → tested tests f s ≡ Ok r
    → AllPass tests (seen s) × (◌≡◌ {A = A × Scan} (f (seen s), moved s) r)
tested-taken [] f s r e = (tt, same-ok (f (seen s), moved s) r e)
tested-taken (test ∷ tests) f s r e =
    let n = needed test.0 test.1 (tested tests f) s r e in
    let more = tested-taken tests f s r n.1 in
    ((n.0, more.0), more.1)

pub this-word : (word : Word) (s : Scan) → same_bytes word [] ≡ false → same_bytes word (seen s) ≡ true → s.left ≡ word ∷ (moved s).left
this-word word s present t =
    word-there (λ w. same_bytes word w ≡ true) (λ t. let c : true ≡ false = sym t ∙ present in cc) s t ∙ ap (λ w. w ∷ (moved s).left) (sym (same-word word (seen s) t))

-- this very word stands first
pub this-taken : (word : Word) (cause : Cause) → same_bytes word [] ≡ false → (s : Scan) (r : Unit {0} × Scan)
    → tested ((same_bytes word, cause) ∷ []) (λ _. tt) s ≡ Ok r → s.left ≡ word ∷ r.1.left
this-taken word cause present s r e =
    let t = tested-taken ((same_bytes word, cause) ∷ []) (λ _. tt) s r e in
    this-word word s present t.0.0 ∙ ap (λ (q : Unit {0} × Scan). word ∷ q.1.left) t.1

pub fixed-taken : (word : Word) → same_bytes word [] ≡ false → (s : Scan) (r : Unit {0} × Scan) → fixed word s ≡ Ok r → s.left ≡ word ∷ r.1.left
unfolding fixed
fixed-taken word present s r e = this-taken word UnknownWord present s r e

-- a word stands for what is made of it where it passes the tests, which a missing word does not
pub record IsWord {A : Type 0} (R : Word → A → Type 0) (tests : List Test) (of : Word → A) : Type 0 where
  pub there : AllPass tests [] → ⊥
  pub spells : (word : Word) → AllPass tests word → R word (of word)
  pub passes : (word : Word) (a : A) → R word a → AllPass tests word × (of word ≡ a)

-- a word that spells what was read stands first
pub record TakesOne {A : Type 0} (R : Word → A → Type 0) (s : Scan) (r : A × Scan) : Type 0 where
  pub word : Word
  pub left : s.left ≡ word ∷ r.1.left
  pub spells : R word r.0

pub word-taken : {A : Type 0} (R : Word → A → Type 0) (tests : List Test) (of : Word → A) → IsWord R tests of
    → (s : Scan) (r : A × Scan) → tested tests of s ≡ Ok r → TakesOne R s r
word-taken R tests of is s r e = let t = tested-taken tests of s r e in
    subst (TakesOne R s) t.1 (record { word = seen s; left = word-there (AllPass tests) is.there s t.0; spells = is.spells (seen s) t.0 })

-- the word was there and was taken, or nothing was
pub data Eaten (word : Word) (s : Scan) (r : Bool × Scan) : Type 0 where
  eaten : r.0 ≡ true → s.left ≡ word ∷ r.1.left → Eaten word s r
  left : r.0 ≡ false → s ≡ r.1 → Eaten word s r

eaten-by : (word : Word) (s : Scan) (r : Bool × Scan) → same_bytes word [] ≡ false → (b : Bool) → same_bytes word (seen s) ≡ b
    → ◌≡◌ {A = Outcome Bool} (cond b (Ok (true, moved s)) (Ok (false, s))) (Ok r) → Eaten word s r
eaten-by word s r present true t e = let same = same-ok (true, moved s) r e in
    eaten (sym (ap (λ (q : Bool × Scan). q.0) same)) (this-word word s present t ∙ ap (λ (q : Bool × Scan). word ∷ q.1.left) same)
eaten-by word s r present false t e = let same = same-ok (false, s) r e in
    left (sym (ap (λ (q : Bool × Scan). q.0) same)) (ap (λ (q : Bool × Scan). q.1) same)

pub eat-taken : (word : Word) → same_bytes word [] ≡ false → (s : Scan) (r : Bool × Scan) → eat word s ≡ Ok r → Eaten word s r
unfolding eat
eat-taken word present s r e = eaten-by word s r present (same_bytes word (seen s)) refl e

-- ---- lists

-- a word for each item
abbrev pub WordsSpell : {A : Type 0} → (Word → A → Type 0) → List Word → List A → Type 0
WordsSpell R [] [] = Unit {0}
WordsSpell R (word ∷ words) (a ∷ more) = R word a × WordsSpell R words more
WordsSpell R _ _ = ⊥

-- a word that spells the item stands first, and what was found with it keeps what holds of all found
pub record TakesItem {A : Type 0} (R : Word → A → Type 0) (Holds : List A → Type 0) (found : List A) (s : Scan) (r : A × Scan) : Type 0 where
  pub word : Word
  pub left : s.left ≡ word ∷ r.1.left
  pub spells : R word r.0
  pub holds : Holds (found ++ r.0 ∷ [])

pub record TakesItems {A : Type 0} (R : Word → A → Type 0) (Holds : List A → Type 0) (found : List A) (s : Scan) (r : List A × Scan) : Type 0 where
  pub words : List Word
  pub items : List A
  pub left : s.left ≡ words ++ r.1.left
  pub all : r.0 ≡ found ++ items
  pub spell : WordsSpell R words items
  pub holds : Holds r.0

no-items : {A : Type 0} (R : Word → A → Type 0) (Holds : List A → Type 0) (found : List A) (s : Scan) (r : List A × Scan) → Holds found
    → ◌≡◌ {A = Outcome (List A)} (Ok (found, s)) (Ok r) → TakesItems R Holds found s r
no-items R Holds found s r holds e = subst (TakesItems R Holds found s) (same-ok (found, s) r e)
    (record { words = []; items = []; left = refl; all = sym (append-nil found); spell = tt; holds = holds })

one-item-more : {A : Type 0} (R : Word → A → Type 0) (Holds : List A → Type 0) (found : List A) (s : Scan) (q : A × Scan) (r : List A × Scan)
    → TakesItem R Holds found s q → TakesItems R Holds (found ++ q.0 ∷ []) q.1 r → TakesItems R Holds found s r
one-item-more R Holds found s q r one more = record {
  words = one.word ∷ more.words;
  items = q.0 ∷ more.items;
  left = one.left ∙ ap (λ ws. one.word ∷ ws) more.left;
  all = more.all ∙ append_assoc found (q.0 ∷ []) more.items;
  spell = (one.spells, more.spell);
  holds = more.holds;
}

-- what each item takes where its word passes the test
abbrev pub ItemTakes : {A : Type 0} → (Word → A → Type 0) → (List A → Type 0) → (Word → Bool) → (List A → Parser A) → Type 0
ItemTakes {A} R Holds test item = (found : List A) (s : Scan) (r : A × Scan) → test (seen s) ≡ true → Holds found → item found s ≡ Ok r → TakesItem R Holds found s r

-- an item of a list stands for the word that it is made of, which passes tests that depend on the items before it
pub record IsItem {A : Type 0} (R : Word → A → Type 0) (Holds : List A → Type 0) (test : Word → Bool) (tests : List A → List Test) (of : Word → A) : Type 0 where
  pub there : (found : List A) → test [] ≡ true → AllPass (tests found) [] → ⊥
  pub spells : (found : List A) (word : Word) → test word ≡ true → Holds found → AllPass (tests found) word → R word (of word) × Holds (found ++ of word ∷ [])
  pub passes : (found : List A) (a : A) (more : List A) (word : Word) → Holds (found ++ a ∷ more) → R word a → AllPass (tests found) word × (of word ≡ a)

item-takes : {A : Type 0} (R : Word → A → Type 0) (Holds : List A → Type 0) (test : Word → Bool) (tests : List A → List Test) (of : Word → A)
    → IsItem R Holds test tests of → ItemTakes R Holds test (λ found. tested (tests found) of)
item-takes R Holds test tests of is found s r t holds e =
    let p = tested-taken (tests found) of s r e in
    let one = is.spells found (seen s) t holds p.0 in
    subst (TakesItem R Holds found s) p.1
    (record { word = seen s; left = word-there (λ w. (test w ≡ true) × AllPass (tests found) w) (λ h. is.there found h.0 h.1) s (t, p.0); spells = one.0; holds = one.1 })

-- the word that stands next
pub seen-is : (s : Scan) (word : Word) (words : List Word) → s.left ≡ word ∷ words → seen s ≡ word
unfolding seen
seen-is s word words e = ap first_of e

rest-is : (word other : Word) (words more : List Word) → word ∷ words ≡ other ∷ more → more ≡ words
rest-is word other words more e = cc

each-by : {A : Type 0} (R : Word → A → Type 0) (Holds : List A → Type 0) (test : Word → Bool) (item : List A → Parser A) → ItemTakes R Holds test item
    → (word : Word) (words : List Word)
    → ((found : List A) (s : Scan) (r : List A × Scan) → s.left ≡ words → Holds found → each_along words test item found s ≡ Ok r → TakesItems R Holds found s r)
    → (found : List A) (s : Scan) (r : List A × Scan) → s.left ≡ word ∷ words → Holds found
    → (b : Bool) → test word ≡ b → (cond b (item found >>= (λ a. each_along words test item (found ++ a ∷ []))) (λ t. Ok (found, t))) s ≡ Ok r → TakesItems R Holds found s r
each-by R Holds test item takes word words further found s r is holds true t e =
    let p = parts (item found s) (λ a. each_along words test item (found ++ a ∷ [])) r e in
    let one = takes found s (p.value, p.scan) (ap test (seen-is s word words is) ∙ t) holds p.first in
    one-item-more R Holds found s (p.value, p.scan) r one
    (further (found ++ p.value ∷ []) p.scan r (rest-is word one.word words p.scan.left (sym is ∙ one.left)) one.holds p.next)
each-by R Holds test item takes word words further found s r is holds false t e = no-items R Holds found s r holds e

each-along : {A : Type 0} (R : Word → A → Type 0) (Holds : List A → Type 0) (test : Word → Bool) (item : List A → Parser A) → ItemTakes R Holds test item
    → (words : List Word) (found : List A) (s : Scan) (r : List A × Scan) → s.left ≡ words → Holds found → each_along words test item found s ≡ Ok r → TakesItems R Holds found s r
unfolding each_along
each-along R Holds test item takes [] found s r is holds e = no-items R Holds found s r holds e
each-along R Holds test item takes (word ∷ words) found s r is holds e =
    each-by R Holds test item takes word words (each-along R Holds test item takes words) found s r is holds (test word) refl e

each-taken : {A : Type 0} (R : Word → A → Type 0) (Holds : List A → Type 0) (test : Word → Bool) (item : List A → Parser A) → ItemTakes R Holds test item
    → (found : List A) (s : Scan) (r : List A × Scan) → Holds found → each test item found s ≡ Ok r → TakesItems R Holds found s r
each-taken R Holds test item takes found s r holds e = each-along R Holds test item takes s.left found s r refl holds e

-- the same of a list that has one item at least, where each item tests its own word
one-or-more-taken : {A : Type 0} (R : Word → A → Type 0) (Holds : List A → Type 0) (test : Word → Bool) (item : List A → Parser A) → ItemTakes R Holds (λ word. true) item
    → (s : Scan) (r : List A × Scan) → Holds [] → one_or_more test item s ≡ Ok r → TakesItems R Holds [] s r × (r.0 ≢ [])
one-or-more-taken R Holds test item takes s r holds e =
    let p = parts (item [] s) (λ a. each test item (a ∷ [])) r e in
    let one = takes [] s (p.value, p.scan) refl holds p.first in
    let more = each-taken R Holds test item (λ found s r t. takes found s r refl) (p.value ∷ []) p.scan r one.holds p.next in (
      one-item-more R Holds [] s (p.value, p.scan) r one more,
      λ (none : r.0 ≡ []). let c : p.value ∷ more.items ≡ [] = sym more.all ∙ none in cc,
    )

-- words that spell a list stand first
pub record TakesList {A : Type 0} (R : Word → A → Type 0) (Holds : List A → Type 0) (s : Scan) (r : List A × Scan) : Type 0 where
  pub words : List Word
  pub left : s.left ≡ words ++ r.1.left
  pub spell : WordsSpell R words r.0
  pub holds : Holds r.0

list-taken : {A : Type 0} (R : Word → A → Type 0) (Holds : List A → Type 0) (s : Scan) (r : List A × Scan) → TakesItems R Holds [] s r → TakesList R Holds s r
list-taken R Holds s r t = record { words = t.words; left = t.left; spell = subst (WordsSpell R t.words) (sym t.all) t.spell; holds = t.holds }

pub items-taken : {A : Type 0} (R : Word → A → Type 0) (Holds : List A → Type 0) (test : Word → Bool) (tests : List A → List Test) (of : Word → A)
    → IsItem R Holds test tests of → (s : Scan) (r : List A × Scan) → Holds [] → each test (λ found. tested (tests found) of) [] s ≡ Ok r → TakesList R Holds s r
items-taken R Holds test tests of is s r holds e =
    list-taken R Holds s r (each-taken R Holds test (λ found. tested (tests found) of) (item-takes R Holds test tests of is) [] s r holds e)

pub some-items-taken : {A : Type 0} (R : Word → A → Type 0) (Holds : List A → Type 0) (test : Word → Bool) (tests : List A → List Test) (of : Word → A)
    → IsItem R Holds (λ word. true) tests of → (s : Scan) (r : List A × Scan) → Holds [] → one_or_more test (λ found. tested (tests found) of) s ≡ Ok r
    → TakesList R Holds s r × (r.0 ≢ [])
some-items-taken R Holds test tests of is s r holds e =
    let found = one-or-more-taken R Holds test (λ found. tested (tests found) of) (item-takes R Holds (λ word. true) tests of is) s r holds e in
    (list-taken R Holds s r found.0, found.1)
