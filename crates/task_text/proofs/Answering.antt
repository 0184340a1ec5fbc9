-- What a parser answers where the words that it is for stand next.
use Rattle.std.proofs.Common.{◌≡◌, ◌≢◌, ℕ, ◌<◌, Bool, true, false, ◌&&◌, cond, List, [], ◌∷◌, ◌++◌, drop, Ok, Err, refl, sym, ◌∙◌, ap, subst, append-nil}
use Rattle.std.proofs.lemmas.Bool.{lt-ltb, eq-eqb}
use Rattle.std.proofs.lemmas.List.{append_assoc}
use Rattle.task_syntax.specs.Names.{same_bytes}
use Rattle.task_text.specs.declared.fault.Cause.{Cause}
use Rattle.task_text.specs.declared.fault.Cause.TheVariants.{TooMany}
use Rattle.task_text.specs.Text.{Word, Row}
use Rattle.task_text.specs.Scan.{is_missing, Scan, start_of, first_of, seen, moved, fault_here, Outcome, Parser, and_then, ◌>>=◌, ◌>>◌, ◌<$>◌, pure, take_word, need, room, Test, tested, this_word, fixed, eat, each_along, each, one_or_more, ended, without_scan, whole}
use Rattle.task_text.proofs.Taken.{seen-is, WordsSpell, AllPass, IsWord, IsItem}

-- the parser answers, and leaves the rest
pub record Answers {A : Type 0} (p : Parser A) (s : Scan) (a : A) (rest : List Word) : Type 0 where
  pub end : Scan
  pub reads : p s ≡ Ok (a, end)
  pub left : end.left ≡ rest

pub then-answers : {A B : Type 0} (p : Parser A) (f : A → Parser B) (s : Scan) (a : A) (b : B) (rest more : List Word)
    → Answers p s a rest → ((t : Scan) → t.left ≡ rest → Answers (f a) t b more) → Answers (p >>= f) s b more
then-answers p f s a b rest more h next = let n = next h.end h.left in
    record { end = n.end; reads = ap (λ o. and_then o f) h.reads ∙ n.reads; left = n.left }

pub pure-answers : {A : Type 0} (s : Scan) (a : A) (rest : List Word) → s.left ≡ rest → Answers (pure a) s a rest
pure-answers s a rest e = record { end = s; reads = refl; left = e }

pub need-answers : {B : Type 0} (test : Word → Bool) (cause : Cause) (q : Parser B) (s : Scan) (b : B) (rest : List Word)
    → test (seen s) ≡ true → Answers q s b rest → Answers (need test cause >> q) s b rest
unfolding need
need-answers test cause q s b rest t h = record {
  end = h.end;
  reads = ap (λ (c : Bool). and_then (cond c (Ok (tt, s)) (Err (fault_here cause s))) (λ (u : Unit {0}). q)) t ∙ h.reads;
  left = h.left;
}

pub room-answers : {B : Type 0} (count limit : ℕ) (q : Parser B) (s : Scan) (b : B) (rest : List Word)
    → count < limit → Answers q s b rest → Answers (room count limit >> q) s b rest
unfolding room
room-answers count limit q s b rest t h = record {
  end = h.end;
  reads = ap (λ (c : Bool). and_then (cond c (Ok (tt, s)) (Err (fault_here TooMany s))) (λ (u : Unit {0}). q)) (lt-ltb count limit t) ∙ h.reads;
  left = h.left;
}

pub seen-first : (s : Scan) (words : List Word) → s.left ≡ words → seen s ≡ first_of words
unfolding seen
seen-first s words e = ap first_of e

pub moved-is : (s : Scan) (word : Word) (rest : List Word) → s.left ≡ word ∷ rest → (moved s).left ≡ rest
unfolding moved
moved-is s word rest e = ap (λ ws. drop 1 ws) e

pub take-answers : {A : Type 0} (f : Word → A) (s : Scan) (word : Word) (rest : List Word) → s.left ≡ word ∷ rest → Answers (f <$> take_word) s (f word) rest
take-answers f s word rest e = record { end = moved s; reads = ap (λ w. Ok (f w, moved s)) (seen-is s word rest e); left = moved-is s word rest e }

-- behind the word that is taken whatever it is
pub taken-answers : {B : Type 0} (q : Parser B) (s : Scan) (word : Word) (rest more : List Word) (b : B) → s.left ≡ word ∷ rest
    → ((t : Scan) → t.left ≡ rest → Answers q t b more) → Answers (take_word >> q) s b more
taken-answers q s word rest more b e next = let n = next (moved s) (moved-is s word rest e) in record { end = n.end; reads = n.reads; left = n.left }

-- ---- single words

pub same-bytes : (word : Word) → same_bytes word word ≡ true
same-bytes [] = refl
same-bytes (byte ∷ bytes) = ap (λ b. b && same_bytes bytes bytes) (eq-eqb byte byte refl) ∙ same-bytes bytes

seen-same : (s : Scan) (word : Word) (rest : List Word) → s.left ≡ word ∷ rest → same_bytes word (seen s) ≡ true
seen-same s word rest e = ap (λ w. same_bytes word w) (seen-is s word rest e) ∙ same-bytes word

-- a word that passes the tests is taken
pub tested-answers : {A : Type 0} (tests : List Test) (f : Word → A) (s : Scan) (word : Word) (rest : List Word) → AllPass tests word → s.left ≡ word ∷ rest
    → Answers (tested tests f) s (f word) rest
tested-answers [] f s word rest pass e = take-answers f s word rest e
tested-answers (test ∷ tests) f s word rest pass e =
    need-answers test.0 test.1 (tested tests f) s (f word) rest (ap test.0 (seen-is s word rest e) ∙ pass.0) (tested-answers tests f s word rest pass.1 e)

pub fixed-answers : (word : Word) (s : Scan) (rest : List Word) → s.left ≡ word ∷ rest → Answers (fixed word) s tt rest
unfolding fixed
fixed-answers word s rest e = tested-answers (this_word word) (λ _. tt) s word rest (same-bytes word, tt) e

pub word-answers : {A : Type 0} (R : Word → A → Type 0) (tests : List Test) (of : Word → A) → IsWord R tests of
    → (word : Word) (a : A) → R word a → (s : Scan) (rest : List Word) → s.left ≡ word ∷ rest → Answers (tested tests of) s a rest
word-answers R tests of is word a r s rest e =
    let h = is.passes word a r in subst (λ b. Answers (tested tests of) s b rest) h.1 (tested-answers tests of s word rest h.0 e)

pub eat-answers : (word : Word) (s : Scan) (rest : List Word) → s.left ≡ word ∷ rest → Answers (eat word) s true rest
unfolding eat
eat-answers word s rest e = record {
  end = moved s;
  reads = ap (λ (c : Bool). cond {A = Outcome Bool} c (Ok (true, moved s)) (Ok (false, s))) (seen-same s word rest e);
  left = moved-is s word rest e;
}

pub eat-nothing : (word : Word) (s : Scan) (rest : List Word) → s.left ≡ rest → same_bytes word (first_of rest) ≡ false → Answers (eat word) s false rest
unfolding eat
eat-nothing word s rest e n = record {
  end = s;
  reads = ap (λ (c : Bool). cond {A = Outcome Bool} c (Ok (true, moved s)) (Ok (false, s))) (ap (λ w. same_bytes word w) (seen-first s rest e) ∙ n);
  left = e;
}

-- ---- lists

-- each item of a list that holds is read behind those before it
abbrev pub ItemAnswers : {A : Type 0} → (Word → A → Type 0) → (List A → Type 0) → (List A → Parser A) → Type 0
ItemAnswers {A} R Holds item = (found : List A) (a : A) (more : List A) (s : Scan) (word : Word) (rest : List Word)
    → Holds (found ++ a ∷ more) → R word a → s.left ≡ word ∷ rest → Answers (item found) s a rest

pub item-answers : {A : Type 0} (R : Word → A → Type 0) (Holds : List A → Type 0) (test : Word → Bool) (tests : List A → List Test) (of : Word → A)
    → IsItem R Holds test tests of → ItemAnswers R Holds (λ found. tested (tests found) of)
item-answers R Holds test tests of is found a more s word rest holds r e =
    let h = is.passes found a more word holds r in
    subst (λ b. Answers (tested (tests found) of) s b rest) h.1 (tested-answers (tests found) of s word rest h.0 e)

along-end : {A : Type 0} (test : Word → Bool) (item : List A → Parser A) (rest : List Word) (found : List A) (s : Scan) → s.left ≡ rest → test (first_of rest) ≡ false
    → Answers (each_along rest test item found) s found rest
unfolding each_along
along-end test item [] found s e stop = pure-answers s found [] e
along-end {A} test item (word ∷ words) found s e stop = record {
  end = s;
  reads = ap (λ (c : Bool). (cond {A = Parser (List A)} c (item found >>= (λ a. each_along words test item (found ++ a ∷ []))) (pure found)) s) stop;
  left = e;
}

along-answers : {A : Type 0} (R : Word → A → Type 0) (Holds : List A → Type 0) (test : Word → Bool) (item : List A → Parser A) → ItemAnswers R Holds item
    → ((word : Word) (a : A) → R word a → test word ≡ true) → (rest : List Word) → test (first_of rest) ≡ false
    → (words : List Word) (items found : List A) (s : Scan) → WordsSpell R words items → Holds (found ++ items) → s.left ≡ words ++ rest
    → Answers (each_along (words ++ rest) test item found) s (found ++ items) rest
unfolding each_along
along-answers R Holds test item answers passes rest stop [] [] found s spell holds e =
    subst (λ all. Answers (each_along rest test item found) s all rest) (sym (append-nil found)) (along-end test item rest found s e stop)
along-answers R Holds test item answers passes rest stop [] (a ∷ items) found s spell holds e = absurd spell
along-answers R Holds test item answers passes rest stop (word ∷ words) [] found s spell holds e = absurd spell
along-answers {A} R Holds test item answers passes rest stop (word ∷ words) (a ∷ items) found s spell holds e =
    let one = answers found a items s word (words ++ rest) holds spell.0 e in
    let same : (found ++ a ∷ []) ++ items ≡ found ++ a ∷ items = append_assoc found (a ∷ []) items in
    let both = then-answers (item found) (λ b. each_along (words ++ rest) test item (found ++ b ∷ [])) s a ((found ++ a ∷ []) ++ items) (words ++ rest) rest one
    (λ t l. along-answers R Holds test item answers passes rest stop words items (found ++ a ∷ []) t spell.1 (subst Holds (sym same) holds) l) in
    subst (λ all. Answers (each_along ((word ∷ words) ++ rest) test item found) s all rest) same
    (record {
      end = both.end;
      reads = ap (λ (c : Bool). (cond {A = Parser (List A)} c (item found >>= (λ b. each_along (words ++ rest) test item (found ++ b ∷ []))) (pure found)) s) (passes word a spell.0) ∙ both.reads;
      left = both.left;
    })

pub each-answers : {A : Type 0} (R : Word → A → Type 0) (Holds : List A → Type 0) (test : Word → Bool) (item : List A → Parser A) → ItemAnswers R Holds item
    → ((word : Word) (a : A) → R word a → test word ≡ true) → (rest : List Word) → test (first_of rest) ≡ false
    → (words : List Word) (items found : List A) (s : Scan) → WordsSpell R words items → Holds (found ++ items) → s.left ≡ words ++ rest
    → Answers (each test item found) s (found ++ items) rest
each-answers R Holds test item answers passes rest stop words items found s spell holds e =
    let h = along-answers R Holds test item answers passes rest stop words items found s spell holds e in
    record { end = h.end; reads = ap (λ ws. each_along ws test item found s) e ∙ h.reads; left = h.left }

pub one-or-more-answers : {A : Type 0} (R : Word → A → Type 0) (Holds : List A → Type 0) (test : Word → Bool) (item : List A → Parser A) → ItemAnswers R Holds item
    → ((word : Word) (a : A) → R word a → test word ≡ true) → (rest : List Word) → test (first_of rest) ≡ false
    → (words : List Word) (items : List A) (s : Scan) → items ≢ [] → WordsSpell R words items → Holds items → s.left ≡ words ++ rest
    → Answers (one_or_more test item) s items rest
one-or-more-answers R Holds test item answers passes rest stop words [] s some spell holds e = absurd (some refl)
one-or-more-answers R Holds test item answers passes rest stop [] (a ∷ items) s some spell holds e = absurd spell
one-or-more-answers R Holds test item answers passes rest stop (word ∷ words) (a ∷ items) s some spell holds e =
    then-answers (item []) (λ b. each test item (b ∷ [])) s a (a ∷ items) (words ++ rest) rest
    (answers [] a items s word (words ++ rest) holds spell.0 e)
    (λ t l. each-answers R Holds test item answers passes rest stop words items (a ∷ []) t spell.1 holds l)

-- ---- whole rows

pub whole-answers : {A : Type 0} (p : Parser A) (row : Row) (a : A) → Answers p (start_of row) a [] → whole p row ≡ Ok a
unfolding whole
whole-answers p row a h =
    let n = then-answers p ended (start_of row) a a [] [] h
    (λ t l. need-answers is_missing _ (pure a) t a [] (ap is_missing (seen-first t [] l)) (pure-answers t a [] l)) in
    ap without_scan n.reads
