-- Where a parser stops is the first word that is not as the table asks.
use Rattle.task_reader.proofs.Vocabulary.{◌≡◌, ℕ, ◌+◌, Bool, true, false, not, cond, Option, Some, None, List, [], ◌∷◌, ◌++◌, map, drop, Result, Ok, Err, refl, sym, ◌∙◌, ap, subst, ◌⊎◌, inl, inr, IsSome, if◌then◌else◌, Cause, WordsLeft, Fault, fault_at, Word, Row, is_missing, Scan, start_of, first_of, seen, moved, number_behind, fault_here, Outcome, Parser, and_then, pure, need, each_along, each, ended, without_scan, whole, ArePresent, Test, Asked, End, One, Many, By, failed_by, cause_of, behind_word, tested, ◌>>=◌, tested-taken}

-- ---- the first word that may not stand

abbrev pub first_or : Option Cause → ℕ → Option (Cause × ℕ) → Option (Cause × ℕ)
first_or None n later = later
first_or (Some cause) n later = Some (cause, n)

-- the cause and the number of the first word that may not stand, where the first has number n
abbrev pub verdict : Asked → ℕ → List Word → Option (Cause × ℕ)
verdict asked n [] = first_or (cause_of asked []) n None
verdict asked n (word ∷ words) = first_or (cause_of asked word) n (verdict (behind_word asked word) (n + 1) words)

-- what is asked by the word itself
pub verdict-by : (asked : Word → Asked) (n : ℕ) (words : List Word) → verdict (By asked) n words ≡ verdict (asked (first_of words)) n words
verdict-by asked n [] = refl
verdict-by asked n (word ∷ words) = refl

-- ---- what an outcome says of the words

-- what was read is as it was asked, and what follows is judged from there; or a fault is the first word that may not stand
abbrev pub Agrees : {A : Type 0} → Outcome A → Scan → Asked → Asked → Type 0
Agrees (Ok r) s asked next =
    (r.1.line ≡ s.line) × (verdict asked s.word s.left ≡ verdict next r.1.word r.1.left) × (ArePresent s.left → ArePresent r.1.left)
Agrees (Err fault) s asked next = (fault.line ≡ s.line) × (verdict asked s.word s.left ≡ Some (fault.cause, fault.word))

-- the parser reads from there what is asked before whatever follows
abbrev pub FollowsAt : {A : Type 0} → Parser A → (Asked → Asked) → Scan → Type 0
FollowsAt p part s = (next : Asked) → Agrees (p s) s (part next) next

-- and so it does everywhere
abbrev pub Follows : {A : Type 0} → Parser A → (Asked → Asked) → Type 0
Follows p part = (s : Scan) → FollowsAt p part s

carried : {A : Type 0} (o : Outcome A) (s t : Scan) (whole middle next : Asked) → t.line ≡ s.line
    → verdict whole s.word s.left ≡ verdict middle t.word t.left → (ArePresent s.left → ArePresent t.left) → Agrees o t middle next → Agrees o s whole next
carried (Ok r) s t whole middle next line same present a = (a.0 ∙ line, same ∙ a.1, λ h. a.2 (present h))
carried (Err fault) s t whole middle next line same present a = (a.0 ∙ line, same ∙ a.1)

-- one part behind another, where the second may depend on what was read
pub then-at : {A B : Type 0} (p : Parser A) (f : A → Parser B) (one other : Asked → Asked) (s : Scan)
    → FollowsAt p one s → ((a : A) (t : Scan) → p s ≡ Ok (a, t) → FollowsAt (f a) other t) → FollowsAt (p >>= f) (λ next. one (other next)) s
then-at {A} {B} p f one other s h later next = by (p s) refl (h (other next)) where
  by : (o : Outcome A) → p s ≡ o → Agrees o s (one (other next)) (other next) → Agrees (and_then o f) s (one (other next)) next
  by (Ok r) e a = carried (f r.0 r.1) s r.1 (one (other next)) (other next) next a.0 a.1 a.2 (later r.0 r.1 e next)
  by (Err fault) e a = a

-- one part behind another
pub then-follows : {A B : Type 0} (p : Parser A) (f : A → Parser B) (one other : Asked → Asked)
    → Follows p one → ((a : A) → Follows (f a) other) → Follows (p >>= f) (λ next. one (other next))
then-follows p f one other h later s = then-at p f one other s (h s) (λ a t e. later a t)

-- nothing is read
pub pure-follows : {A : Type 0} (a : A) → Follows (pure a) (λ next. next)
pure-follows a s next = (refl, refl, λ h. h)

-- what is made of what was read changes nothing
pub map-follows : {A B : Type 0} (p : Parser A) (f : A → B) (part : Asked → Asked) → Follows p part → Follows (p >>= (λ a. pure (f a))) part
map-follows p f part h = then-follows p (λ a. pure (f a)) part (λ next. next) h (λ a. pure-follows (f a))

-- ---- one word

-- how the tests of a word end
abbrev Ends : {A : Type 0} → List Test → (Word → A) → Scan → Outcome A → Type 0
Ends tests f s (Ok r) = (r ≡ (f (seen s), moved s)) × (failed_by tests (seen s) ≡ None)
Ends tests f s (Err fault) = (cause : Cause) × (fault ≡ fault_here cause s) × (failed_by tests (seen s) ≡ Some cause)

ends : {A : Type 0} (tests : List Test) (f : Word → A) (s : Scan) → Ends tests f s (tested tests f s)
unfolding need
ends [] f s = (refl, refl)
ends {A} (test ∷ tests) f s = by (test.0 (seen s)) refl (ends tests f s) where
  by : (b : Bool) → test.0 (seen s) ≡ b → Ends tests f s (tested tests f s)
      → Ends (test ∷ tests) f s (and_then (cond b (Ok (tt, s)) (Err (fault_here test.1 s))) (λ (u : Unit {0}). tested tests f))
  by true e h = further (tested tests f s) h where
    further : (o : Outcome A) → Ends tests f s o → Ends (test ∷ tests) f s o
    further (Ok r) h = (h.0, ap (λ b. cond b (failed_by tests (seen s)) (Some test.1)) e ∙ h.1)
    further (Err fault) h = (h.0, h.1, ap (λ b. cond b (failed_by tests (seen s)) (Some test.1)) e ∙ h.2)
  by false e h = (test.1, refl, ap (λ b. cond b (failed_by tests (seen s)) (Some test.1)) e)

none-fails : (cause : Option Cause) → IsSome cause → cause ≡ None → ⊥
none-fails None h e = cc
none-fails (Some cause) h e = cc

present-rest : (words : List Word) → ArePresent words → ArePresent (drop 1 words)
present-rest [] h = tt
present-rest (word ∷ words) h = h.1

-- how a word is judged whose tests have ended
judged : {A : Type 0} (tests : List Test) (f : Word → A) (s : Scan) (next : Asked) (words : List Word) → s.left ≡ words → IsSome (failed_by tests []) ⊎ (is_missing (seen s) ≡ false)
    → (o : Outcome A) → Ends tests f s o → Agrees o s (One tests next) next
unfolding seen moved fault_here
judged {A} tests f s next words is present (Ok r) h =
    subst (λ (r : A × Scan). Agrees (Ok r) s (One tests next) next) (sym h.0) (refl, by words is present, λ p. present-rest s.left p) where
      by : (words : List Word) → s.left ≡ words → IsSome (failed_by tests []) ⊎ (is_missing (seen s) ≡ false)
          → verdict (One tests next) s.word s.left ≡ verdict next (moved s).word (moved s).left
      by [] is (inl some) = absurd (none-fails (failed_by tests []) some (ap (λ ws. failed_by tests (first_of ws)) (sym is) ∙ h.1))
      by [] is (inr there) = let c : true ≡ false = ap (λ ws. is_missing (first_of ws)) (sym is) ∙ there in cc
      by (word ∷ words) is present =
          let none : failed_by tests word ≡ None = ap (λ ws. failed_by tests (first_of ws)) (sym is) ∙ h.1 in
          ap (λ ws. verdict (One tests next) s.word ws) is
          ∙ (ap (λ c. first_or c s.word (verdict next (s.word + 1) words)) none
          ∙ ap (λ ws. verdict next (number_behind s.word ws) (drop 1 ws)) (sym is))
judged tests f s next words is present (Err fault) h =
    subst (λ (fault : Fault). (fault.line ≡ s.line) × (verdict (One tests next) s.word s.left ≡ Some (fault.cause, fault.word))) (sym h.1) (refl, by words is) where
      by : (words : List Word) → s.left ≡ words → verdict (One tests next) s.word s.left ≡ Some (h.0, s.word)
      by [] is =
          let some : failed_by tests [] ≡ Some h.0 = ap (λ ws. failed_by tests (first_of ws)) (sym is) ∙ h.2 in
          ap (λ ws. verdict (One tests next) s.word ws) is ∙ ap (λ c. first_or c s.word None) some
      by (word ∷ words) is =
          let some : failed_by tests word ≡ Some h.0 = ap (λ ws. failed_by tests (first_of ws)) (sym is) ∙ h.2 in
          ap (λ ws. verdict (One tests next) s.word ws) is ∙ ap (λ c. first_or c s.word (verdict next (s.word + 1) words)) some

-- a word that passes its tests is taken, where no missing word could pass them
pub word-follows : {A : Type 0} (tests : List Test) (f : Word → A) → IsSome (failed_by tests []) → Follows (tested tests f) (One tests)
word-follows tests f some s next = judged tests f s next s.left refl (inl some) (tested tests f s) (ends tests f s)

-- ---- what depends on the next word

-- what is asked by the next word
pub by-agrees : {A : Type 0} (o : Outcome A) (asked : Word → Asked) (s : Scan) (next : Asked) → Agrees o s (asked (seen s)) next → Agrees o s (By asked) next
unfolding seen
by-agrees (Ok r) asked s next a = (a.0, verdict-by asked s.word s.left ∙ a.1, a.2)
by-agrees (Err fault) asked s next a = (a.0, verdict-by asked s.word s.left ∙ a.1)

pub by-follows : {A : Type 0} (p : Parser A) (part : Word → Asked → Asked) (s : Scan) → FollowsAt p (part (seen s)) s → FollowsAt p (λ next. By (λ word. part word next)) s
by-follows p part s h next = by-agrees (p s) (λ word. part word next) s next (h next)

-- one part or another, as the next word says
pub where-follows : {A : Type 0} (p : Parser A) (test : Word → Bool) (one other : Asked → Asked) (s : Scan)
    → (test (seen s) ≡ true → FollowsAt p one s) → (test (seen s) ≡ false → FollowsAt p other s)
    → FollowsAt p (λ next. By (λ word. if test word then one next else other next)) s
where-follows {A} p test one other s h g =
    by-follows p (λ word next. if test word then one next else other next) s (by (test (seen s)) refl h g) where
      by : (b : Bool) → test (seen s) ≡ b → (b ≡ true → FollowsAt p one s) → (b ≡ false → FollowsAt p other s)
          → FollowsAt p (λ next. if test (seen s) then one next else other next) s
      by true e h g next = subst (λ b. Agrees (p s) s (if b then one next else other next) next) (sym e) (h refl next)
      by false e h g next = subst (λ b. Agrees (p s) s (if b then one next else other next) next) (sym e) (g refl next)

-- ---- lists

map-more : {A : Type 0} (f : Word → A) (words : List Word) (word : Word) → map f words ++ f word ∷ [] ≡ map f (words ++ word ∷ [])
map-more f [] word = refl
map-more f (first ∷ words) word = ap (λ more. f first ∷ more) (map-more f words word)

-- how the items of a list are read: each word passes its tests, which depend on those before it
abbrev pub ItemTested : {A : Type 0} → (List A → Parser A) → (List Word → List Test) → (Word → A) → Type 0
ItemTested item tests f = (words : List Word) (s : Scan) → item (map f words) s ≡ tested (tests words) f s

along-follows : {A : Type 0} (test : Word → Bool) (item : List A → Parser A) (tests : List Word → List Test) (f : Word → A) → ItemTested item tests f → test [] ≡ false
    → (left : List Word) (found : List Word) (s : Scan) → s.left ≡ left → FollowsAt (each_along left test item (map f found)) (Many test tests found) s
unfolding each_along seen moved fault_here
along-follows test item tests f is none [] found s left next = (
  refl,
  ap (λ ws. verdict (Many test tests found next) s.word ws) left
      ∙ (ap (λ b. first_or (cond b (failed_by (tests found) []) (cause_of next [])) s.word None) none ∙ ap (λ ws. verdict next s.word ws) (sym left)),
  λ h. h,
)
along-follows {A} test item tests f is none (word ∷ words) found s left next =
    by (test word) refl (along-follows test item tests f is none words) where
      later : Bool → Option (Cause × ℕ)
      later b = first_or (cond b (failed_by (tests found) word) (cause_of next word)) s.word
          (verdict (cond b (Many test tests (found ++ word ∷ []) next) (behind_word next word)) (s.word + 1) words)

      step : verdict (Many test tests found next) s.word s.left ≡ later (test word)
      step = ap (λ ws. verdict (Many test tests found next) s.word ws) left

      one : seen s ≡ word
      one = ap first_of left

      by : (b : Bool) → test word ≡ b
          → ((found : List Word) (s : Scan) → s.left ≡ words → FollowsAt (each_along words test item (map f found)) (Many test tests found) s)
          → Agrees ((cond b (item (map f found) >>= (λ a. each_along words test item (map f found ++ a ∷ []))) (pure (map f found))) s) s (Many test tests found next) next
      by false e further = (refl, step ∙ (ap later e ∙ ap (λ ws. verdict next s.word ws) (sym left)), λ h. h)
      by true e further = go (item (map f found) s) refl where
        go : (o : Outcome A) → item (map f found) s ≡ o → Agrees (and_then o (λ a. each_along words test item (map f found ++ a ∷ []))) s (Many test tests found next) next
        go o here = ending o (subst (Ends (tests found) f s) (sym (is found s) ∙ here) (ends (tests found) f s)) where
          ending : (o : Outcome A) → Ends (tests found) f s o → Agrees (and_then o (λ a. each_along words test item (map f found ++ a ∷ []))) s (Many test tests found next) next
          ending (Err fault) h =
              let some : failed_by (tests found) word ≡ Some h.0 = ap (λ w. failed_by (tests found) w) (sym one) ∙ h.2 in
              subst (λ (fault : Fault). (fault.line ≡ s.line) × (verdict (Many test tests found next) s.word s.left ≡ Some (fault.cause, fault.word))) (sym h.1)
              (refl, step ∙ (ap later e ∙ ap (λ c. first_or c s.word (verdict (Many test tests (found ++ word ∷ []) next) (s.word + 1) words)) some))
          ending (Ok r) h =
              let clear : failed_by (tests found) word ≡ None = ap (λ w. failed_by (tests found) w) (sym one) ∙ h.1 in
              let rest : (moved s).left ≡ words = ap (λ ws. drop 1 ws) left in
              let all : map f found ++ f (seen s) ∷ [] ≡ map f (found ++ word ∷ []) = ap (λ w. map f found ++ f w ∷ []) one ∙ map-more f found word in
              let whole : verdict (Many test tests found next) s.word s.left ≡ verdict (Many test tests (found ++ word ∷ []) next) (moved s).word (moved s).left =
              step ∙ (ap later e ∙ (ap (λ c. first_or c s.word (verdict (Many test tests (found ++ word ∷ []) next) (s.word + 1) words)) clear
              ∙ ap (λ ws. verdict (Many test tests (found ++ word ∷ []) next) (number_behind s.word ws) (drop 1 ws)) (sym left))) in
              let more = further (found ++ word ∷ []) (moved s) rest next in
              subst (λ (r : A × Scan). Agrees (each_along words test item (map f found ++ r.0 ∷ []) r.1) s (Many test tests found next) next) (sym h.0)
              (carried _ s (moved s) (Many test tests found next) (Many test tests (found ++ word ∷ []) next) next refl whole (λ p. present-rest s.left p)
              (subst (λ all. Agrees (each_along words test item all (moved s)) (moved s) (Many test tests (found ++ word ∷ []) next) next) (sym all) more))

-- the items of a list, behind those found before
pub each-follows : {A : Type 0} (test : Word → Bool) (item : List A → Parser A) (tests : List Word → List Test) (f : Word → A) → ItemTested item tests f → test [] ≡ false
    → (found : List Word) → Follows (each test item (map f found)) (Many test tests found)
each-follows test item tests f is none found s = along-follows test item tests f is none s.left found s refl

-- ---- at a place

-- a parser that does there what another does
pub at-same : {A : Type 0} (p q : Parser A) (part : Asked → Asked) (s : Scan) → p s ≡ q s → FollowsAt q part s → FollowsAt p part s
at-same p q part s e h next = subst (λ o. Agrees o s (part next) next) (sym e) (h next)

-- a word that is known to pass its tests is taken
pub taken-at : {A : Type 0} (tests : List Test) (f : Word → A) (s : Scan) → failed_by tests (seen s) ≡ None → IsSome (failed_by tests [])
    → FollowsAt (λ s. Ok (f (seen s), moved s)) (One tests) s
taken-at tests f s clear some next = judged tests f s next s.left refl (inl some) (Ok (f (seen s), moved s)) (refl, clear)

-- a word that is known to fail a test is at fault
pub refused-at : (A : Type 0) (tests : List Test) (cause : Cause) (s : Scan) → failed_by tests (seen s) ≡ Some cause → IsSome (failed_by tests [])
    → FollowsAt {A = A} (λ s. Err (fault_here cause s)) (One tests) s
refused-at A tests cause s fails some next = judged {A = Word} tests (λ w. w) s next s.left refl (inl some) (Err (fault_here cause s)) (cause, refl, fails)

-- at least one item
pub some-follows : {A : Type 0} (test : Word → Bool) (item : List A → Parser A) (tests : List Word → List Test) (f : Word → A) → ItemTested item tests f → test [] ≡ false
    → IsSome (failed_by (tests []) []) → Follows (item [] >>= (λ a. each test item (a ∷ []))) (λ next. By (λ word. One (tests []) (Many test tests (word ∷ []) next)))
some-follows {A} test item tests f is none some s =
    by-follows (item [] >>= (λ a. each test item (a ∷ []))) (λ word next. One (tests []) (Many test tests (word ∷ []) next)) s
    (then-at (item []) (λ a. each test item (a ∷ [])) (One (tests [])) (Many test tests (seen s ∷ [])) s
    (at-same (item []) (tested (tests []) f) (One (tests [])) s (is [] s) (word-follows (tests []) f some s))
    (λ a t e. let same = ap (λ (q : A × Scan). q.0) (tested-taken (tests []) f s (a, t) (sym (is [] s) ∙ e)).1 in
    subst (λ a. FollowsAt (each test item (a ∷ [])) (Many test tests (seen s ∷ [])) t) same (each-follows test item tests f is none (seen s ∷ []) t)))

-- ---- whole rows

-- what the outcome of a whole row says of its words
abbrev pub RowAgrees : {A : Type 0} → Result A Fault → Row → Asked → Type 0
RowAgrees (Ok a) row asked = verdict asked 1 row.words ≡ None
RowAgrees (Err fault) row asked = (fault.line ≡ row.line) × (verdict asked 1 row.words ≡ Some (fault.cause, fault.word))

-- a row that is read whole has no word that may not stand, and a fault is the first of them
pub whole-agrees : {A : Type 0} (p : Parser A) (row : Row) (asked : Asked) → ArePresent row.words → Agrees (p (start_of row)) (start_of row) asked End → RowAgrees (whole p row) row asked
unfolding whole need seen fault_here
whole-agrees {A} p row asked present a = by (p (start_of row)) a where
  by : (o : Outcome A) → Agrees o (start_of row) asked End → RowAgrees (without_scan (and_then o ended)) row asked
  by (Err fault) a = a
  by (Ok r) a = rest r.1.left refl (a.2 present) where
    rest : (left : List Word) → r.1.left ≡ left → ArePresent r.1.left → RowAgrees (without_scan (ended r.0 r.1)) row asked
    rest [] e h =
        subst (λ ws. RowAgrees (without_scan (and_then (cond (is_missing (first_of ws)) (Ok (tt, r.1)) (Err (fault_at WordsLeft r.1.line r.1.word))) (λ (u : Unit {0}). pure r.0))) row asked) (sym e)
        (a.1 ∙ ap (λ ws. verdict End r.1.word ws) e)
    rest (word ∷ words) e h = there word (subst ArePresent e h).0 e where
      there : (word : Word) → not (is_missing word) ≡ true → r.1.left ≡ word ∷ words → RowAgrees (without_scan (ended r.0 r.1)) row asked
      there [] h e = cc
      there (byte ∷ bytes) h e =
          subst (λ ws. RowAgrees (without_scan (and_then (cond (is_missing (first_of ws)) (Ok (tt, r.1)) (Err (fault_at WordsLeft r.1.line r.1.word))) (λ (u : Unit {0}). pure r.0))) row asked) (sym e)
          (a.0, a.1 ∙ ap (λ ws. verdict End r.1.word ws) e)
