-- The first word that may not stand, by its place.
use Rattle.task_reader.proofs.Vocabulary.{◌≡◌, ◌<◌, ℕ, zero, suc, ◌+◌, Option, Some, None, List, [], ◌∷◌, refl, ◌∙◌, ap, arith, Cause, Word, Asked, cause_of, behind_word, cause_at, IsRefusedAt, AreAsAsked}
use Rattle.task_reader.proofs.AskedWords.{first_or, verdict}

-- ---- words that may not stand

-- a place, and the word there is the first that may not stand
abbrev pub RefusedFrom : Asked → ℕ → List Word → Cause → ℕ → Type 0
RefusedFrom asked n words cause number = (place : ℕ) × (number ≡ n + place) × IsRefusedAt asked words place cause

-- what the verdict on words says of them
abbrev pub Says : Asked → ℕ → List Word → Option (Cause × ℕ) → Type 0
Says asked n words None = AreAsAsked asked words
Says asked n words (Some found) = RefusedFrom asked n words found.0 found.1

at-first : (asked : Asked) (n : ℕ) (words : List Word) (cause : Cause) → cause_at asked words 0 ≡ Some cause → RefusedFrom asked n words cause n
at-first asked n words cause here = (0, omega arith, record { within = omega arith; here = here; none_before = λ earlier l. absurd (omega (arith, l)) })

says-later : (asked : Asked) (n : ℕ) (word : Word) (words : List Word) → cause_of asked word ≡ None → (v : Option (Cause × ℕ))
    → Says (behind_word asked word) (n + 1) words v → Says asked n (word ∷ words) v
says-later asked n word words clear None all = by where
  by : AreAsAsked asked (word ∷ words)
  by zero l = clear
  by (suc place) l = all place (omega (arith, l))
says-later asked n word words clear (Some found) r =
    (suc r.0, omega (arith, r.1), record { within = omega (arith, r.2.within); here = r.2.here; none_before = before }) where
      before : (earlier : ℕ) → earlier < suc r.0 → cause_at asked (word ∷ words) earlier ≡ None
      before zero l = clear
      before (suc earlier) l = r.2.none_before earlier (omega (arith, l))

-- the first word that may not stand has its place, and where none is at fault each may stand
pub verdict-says : (asked : Asked) (n : ℕ) (words : List Word) → Says asked n words (verdict asked n words)
verdict-says asked n [] = by (cause_of asked []) refl where
  by : (c : Option Cause) → cause_of asked [] ≡ c → Says asked n [] (first_or c n None)
  by (Some c) is = at-first asked n [] c is
  by None is = all where
    all : AreAsAsked asked []
    all zero l = is
    all (suc place) l = absurd (omega (arith, l))
verdict-says asked n (word ∷ words) = by (cause_of asked word) refl (verdict-says (behind_word asked word) (n + 1) words) where
  by : (c : Option Cause) → cause_of asked word ≡ c → Says (behind_word asked word) (n + 1) words (verdict (behind_word asked word) (n + 1) words)
      → Says asked n (word ∷ words) (first_or c n (verdict (behind_word asked word) (n + 1) words))
  by None is later = says-later asked n word words is (verdict (behind_word asked word) (n + 1) words) later
  by (Some c) is later = at-first asked n (word ∷ words) c is

-- and what stands at that place is found
pub refused-found : (asked : Asked) (n : ℕ) (words : List Word) (place : ℕ) (cause : Cause) → IsRefusedAt asked words place cause → verdict asked n words ≡ Some (cause, n + place)
refused-found asked n [] zero cause r = let z : n ≡ n + 0 = omega arith in ap (λ c. first_or c n None) r.here ∙ ap (λ m. Some (cause, m)) z
refused-found asked n [] (suc place) cause r = absurd (omega (arith, r.within))
refused-found asked n (word ∷ words) zero cause r =
    let z : n ≡ n + 0 = omega arith in ap (λ c. first_or c n (verdict (behind_word asked word) (n + 1) words)) r.here ∙ ap (λ m. Some (cause, m)) z
refused-found asked n (word ∷ words) (suc place) cause r =
    let z : (n + 1) + place ≡ n + suc place = omega arith in
    ap (λ c. first_or c n (verdict (behind_word asked word) (n + 1) words)) (r.none_before zero (omega arith))
    ∙ (refused-found (behind_word asked word) (n + 1) words place cause (record {
      within = omega (arith, r.within);
      here = r.here;
      none_before = λ earlier l. r.none_before (suc earlier) (omega (arith, l));
    }) ∙ ap (λ m. Some (cause, m)) z)

-- and where each may stand, none is at fault
pub none-refused : (asked : Asked) (n : ℕ) (words : List Word) → AreAsAsked asked words → verdict asked n words ≡ None
none-refused asked n [] all = ap (λ c. first_or c n None) (all zero (omega arith))
none-refused asked n (word ∷ words) all =
    ap (λ c. first_or c n (verdict (behind_word asked word) (n + 1) words)) (all zero (omega arith))
    ∙ none-refused (behind_word asked word) (n + 1) words (λ place l. all (suc place) (omega (arith, l)))
