-- A line that is cut into words.
use Rattle.std.proofs.Common.{◌≡◌, ℕ, zero, suc, ◌+◌, ◌*◌, ◌^◌, ◌<◌, ◌≤◌, Bool, true, false, not, cond, nat_lt, Some, None, unwrap_or, List, [], ◌∷◌, length, take, drop, refl, sym, ◌∙◌, ap, subst, arith}
use Rattle.std.specs.List.{prefix_len, position, position_or_len}
use Rattle.std.proofs.lemmas.List.Sums.{prefix_len-le-length}
use Rattle.std.proofs.lemmas.Bool.{ltb-false}
use Rattle.task_text.specs.Text.{Word, in_front, is_blank, begins_with_word, words_of}
use Rattle.task_text.specs.Scan.{is_missing, first_of}
use Rattle.task_text.specs.Cursor.{begins_with_blank, words_from, is_over}

-- the next word is the one in front
pub first_of-words_from : (word : Word) (rest : List ℕ) → first_of (words_from word rest) ≡ word
first_of-words_from [] rest = refl
first_of-words_from (byte ∷ bytes) rest = refl

-- where there is no first place that passes, all of the list stands before it
pub unwrap_or-position : {X : Type 0} (p : X → Bool) (xs : List X) → unwrap_or (position p xs) (length xs) ≡ position_or_len p xs
unwrap_or-position p xs = by (nat_lt (position_or_len p xs) (length xs)) refl where
  by : (t : Bool) → nat_lt (position_or_len p xs) (length xs) ≡ t → unwrap_or (cond t (Some (position_or_len p xs)) None) (length xs) ≡ position_or_len p xs
  by true e = refl
  by false e = let h = ltb-false (position_or_len p xs) (length xs) e in let g = prefix_len-le-length (λ x. not (p x)) xs in omega arith

-- the first n bytes as a word, and the words behind them
abbrev cut : ℕ → List ℕ → List Word
cut n bytes = words_from (take n bytes) (drop n bytes)

position-skip : (byte : ℕ) (bytes : List ℕ) → is_blank byte ≡ false → position_or_len is_blank (byte ∷ bytes) ≡ suc (position_or_len is_blank bytes)
position-skip byte bytes h = ap (λ b. cond (not b) (1 + prefix_len (λ x. not (is_blank x)) bytes) 0) h ∙ omega arith

position-stop : (byte : ℕ) (bytes : List ℕ) → is_blank byte ≡ true → position_or_len is_blank (byte ∷ bytes) ≡ zero
position-stop byte bytes h = ap (λ b. cond (not b) (1 + prefix_len (λ x. not (is_blank x)) bytes) 0) h

words_of-blank : (byte : ℕ) (bytes : List ℕ) → is_blank byte ≡ true → words_of (byte ∷ bytes) ≡ words_of bytes
words_of-blank byte bytes h = ap (λ b. cond b (words_of bytes) (cond (begins_with_word bytes) (in_front byte (words_of bytes)) ((byte ∷ []) ∷ words_of bytes))) h

words_of-byte : (byte : ℕ) (bytes : List ℕ) → is_blank byte ≡ false → words_of (byte ∷ bytes) ≡ cond (begins_with_word bytes) (in_front byte (words_of bytes)) ((byte ∷ []) ∷ words_of bytes)
words_of-byte byte bytes h = ap (λ b. cond b (words_of bytes) (cond (begins_with_word bytes) (in_front byte (words_of bytes)) ((byte ∷ []) ∷ words_of bytes))) h

words_of-last : (a b : ℕ) (bytes : List ℕ) → is_blank a ≡ false → is_blank b ≡ true → words_of (a ∷ b ∷ bytes) ≡ (a ∷ []) ∷ words_of (b ∷ bytes)
words_of-last a b bytes h e = words_of-byte a (b ∷ bytes) h ∙ ap (λ t. cond (not t) (in_front a (words_of (b ∷ bytes))) ((a ∷ []) ∷ words_of (b ∷ bytes))) e

words_of-more : (a b : ℕ) (bytes : List ℕ) → is_blank a ≡ false → is_blank b ≡ false → words_of (a ∷ b ∷ bytes) ≡ in_front a (words_of (b ∷ bytes))
words_of-more a b bytes h e = words_of-byte a (b ∷ bytes) h ∙ ap (λ t. cond (not t) (in_front a (words_of (b ∷ bytes))) ((a ∷ []) ∷ words_of (b ∷ bytes))) e

-- the first word is the front before the first blank
pub words_of-cut : (bytes : List ℕ) → begins_with_blank bytes ≡ false → words_from (take (position_or_len is_blank bytes) bytes) (drop (position_or_len is_blank bytes) bytes) ≡ words_of bytes
words_of-cut [] h = refl
words_of-cut (a ∷ []) h = ap (λ n. cut n (a ∷ [])) (position-skip a [] h) ∙ sym (words_of-byte a [] h)
words_of-cut (a ∷ b ∷ bytes) h = by (is_blank b) refl (words_of-cut (b ∷ bytes)) where
  by : (t : Bool) → is_blank b ≡ t → (is_blank b ≡ false → cut (position_or_len is_blank (b ∷ bytes)) (b ∷ bytes) ≡ words_of (b ∷ bytes))
      → cut (position_or_len is_blank (a ∷ b ∷ bytes)) (a ∷ b ∷ bytes) ≡ words_of (a ∷ b ∷ bytes)
  by true e more =
      ap (λ n. cut n (a ∷ b ∷ bytes)) (position-skip a (b ∷ bytes) h ∙ ap suc (position-stop b bytes e))
      ∙ sym (words_of-last a b bytes h e)
  by false e more =
      ap (λ n. cut n (a ∷ b ∷ bytes)) (position-skip a (b ∷ bytes) h ∙ ap suc (position-skip b bytes e))
      ∙ (ap (in_front a) (ap (λ n. cut n (b ∷ bytes)) (sym (position-skip b bytes e)) ∙ more e)
      ∙ sym (words_of-more a b bytes h e))

length-in_front : (byte : ℕ) (words : List Word) → 0 < length words → length (in_front byte words) ≡ length words
length-in_front byte [] h = absurd (omega (arith, h))
length-in_front byte (word ∷ words) h = refl

in_front-some : (byte : ℕ) (words : List Word) → 0 < length (in_front byte words)
in_front-some byte [] = omega arith
in_front-some byte (word ∷ words) = omega arith

words_of-some : (byte : ℕ) (bytes : List ℕ) → is_blank byte ≡ false → 0 < length (words_of (byte ∷ bytes))
words_of-some byte bytes h = subst (λ ws. 0 < length ws) (sym (words_of-byte byte bytes h)) (by (begins_with_word bytes)) where
  by : (t : Bool) → 0 < length (cond t (in_front byte (words_of bytes)) ((byte ∷ []) ∷ words_of bytes))
  by true = in_front-some byte (words_of bytes)
  by false = omega arith

-- a word takes a byte, and a blank parts it from the next
pub length-words_of : (bytes : List ℕ) → 2 * length (words_of bytes) ≤ length bytes + 1
length-words_of [] = omega arith
length-words_of (a ∷ []) = by (is_blank a) refl where
  by : (t : Bool) → is_blank a ≡ t → 2 * length (words_of (a ∷ [])) ≤ 2
  by true h = rw (words_of-blank a [] h) (omega arith)
  by false h = rw (words_of-byte a [] h) (omega arith)
length-words_of (a ∷ b ∷ bytes) = by (is_blank a) refl (is_blank b) refl (length-words_of (b ∷ bytes)) (length-words_of bytes) where
  by : (t : Bool) → is_blank a ≡ t → (u : Bool) → is_blank b ≡ u → 2 * length (words_of (b ∷ bytes)) ≤ length (b ∷ bytes) + 1 → 2 * length (words_of bytes) ≤ length bytes + 1
      → 2 * length (words_of (a ∷ b ∷ bytes)) ≤ length (a ∷ b ∷ bytes) + 1
  by true h u e one two = let s = ap length (words_of-blank a (b ∷ bytes) h) in omega (arith, s, one)
  by false h true e one two = let s = ap length (words_of-last a b bytes h e) in let r = ap length (words_of-blank b bytes e) in omega (arith, s, r, two)
  by false h false e one two = let s = ap length (words_of-more a b bytes h e) in let r = length-in_front a (words_of (b ∷ bytes)) (words_of-some b bytes e) in omega (arith, s, r, one)

-- the words of a line that was cut can be counted
pub counts : (word : Word) (rest bytes : List ℕ) → words_from word rest ≡ words_of bytes → length bytes < 2 ^ 32 → 1 + length (words_from word rest) < 2 ^ 32
counts word rest bytes e h = let s = ap length e in omega (arith, s, length-words_of bytes)

pub ruleset cutting = (first_of-words_from, words_of-cut, counts)

pub position-within : {X : Type 0} (p : X → Bool) (xs : List X) → position_or_len p xs ≤ length xs
position-within p xs = prefix_len-le-length (λ x. not (p x)) xs

pub ruleset positions = (unwrap_or-position, position-within)

pub is_over_from : (word : Word) (rest : List ℕ) → is_over (words_from word rest) ≡ is_missing word
is_over_from [] rest = refl
is_over_from (byte ∷ bytes) rest = refl
