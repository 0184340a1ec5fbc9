-- A text that is cut into lines.
use Rattle.std.proofs.Common.{◌≡◌, ◌≢◌, ℕ, zero, suc, ◌+◌, ◌-◌, ◌<◌, ◌==◌, Bool, true, false, not, cond, List, [], ◌∷◌, length, take, drop, refl, sym, ◌∙◌, ap, arith}
use Rattle.std.specs.List.{prefix_len, position_or_len}
use Rattle.std.proofs.lemmas.List.{take_rest}
use Rattle.task_text.specs.Text.{in_front, lines_of}

abbrev is_end : ℕ → Bool
is_end byte = byte == 10

position-end : (byte : ℕ) (bytes : List ℕ) → is_end byte ≡ true → position_or_len is_end (byte ∷ bytes) ≡ zero
position-end byte bytes h = ap (λ b. cond (not b) (1 + prefix_len (λ x. not (is_end x)) bytes) 0) h

position-on : (byte : ℕ) (bytes : List ℕ) → is_end byte ≡ false → position_or_len is_end (byte ∷ bytes) ≡ suc (position_or_len is_end bytes)
position-on byte bytes h = ap (λ b. cond (not b) (1 + prefix_len (λ x. not (is_end x)) bytes) 0) h ∙ omega arith

-- the first n bytes as a line, and the lines behind the byte that follows them
abbrev line_cut : ℕ → List ℕ → List (List ℕ)
line_cut n bytes = take n bytes ∷ lines_of (drop (suc n) bytes)

lines_of-end : (byte : ℕ) (bytes : List ℕ) → is_end byte ≡ true → lines_of (byte ∷ bytes) ≡ [] ∷ lines_of bytes
lines_of-end byte bytes h = ap (λ b. cond b ([] ∷ lines_of bytes) (in_front byte (lines_of bytes))) h

lines_of-on : (byte : ℕ) (bytes : List ℕ) → is_end byte ≡ false → lines_of (byte ∷ bytes) ≡ in_front byte (lines_of bytes)
lines_of-on byte bytes h = ap (λ b. cond b ([] ∷ lines_of bytes) (in_front byte (lines_of bytes))) h

-- the first line is the front before the first line feed
cut-is : (bytes : List ℕ) (byte : ℕ) → line_cut (position_or_len is_end (byte ∷ bytes)) (byte ∷ bytes) ≡ lines_of (byte ∷ bytes)
cut-is [] a = by (is_end a) refl where
  by : (t : Bool) → is_end a ≡ t → line_cut (position_or_len is_end (a ∷ [])) (a ∷ []) ≡ lines_of (a ∷ [])
  by true h = ap (λ n. line_cut n (a ∷ [])) (position-end a [] h) ∙ sym (lines_of-end a [] h)
  by false h = ap (λ n. line_cut n (a ∷ [])) (position-on a [] h) ∙ sym (lines_of-on a [] h)
cut-is (b ∷ rest) a = by (is_end a) refl (cut-is rest b) where
  by : (t : Bool) → is_end a ≡ t → line_cut (position_or_len is_end (b ∷ rest)) (b ∷ rest) ≡ lines_of (b ∷ rest)
      → line_cut (position_or_len is_end (a ∷ b ∷ rest)) (a ∷ b ∷ rest) ≡ lines_of (a ∷ b ∷ rest)
  by true h more = ap (λ n. line_cut n (a ∷ b ∷ rest)) (position-end a (b ∷ rest) h) ∙ sym (lines_of-end a (b ∷ rest) h)
  by false h more = ap (λ n. line_cut n (a ∷ b ∷ rest)) (position-on a (b ∷ rest) h) ∙ (ap (in_front a) more ∙ sym (lines_of-on a (b ∷ rest) h))

drop-suc : (n : ℕ) (xs : List ℕ) → drop (suc n) xs ≡ drop 1 (drop n xs)
drop-suc zero xs = refl
drop-suc (suc n) [] = refl
drop-suc (suc n) (x ∷ xs) = drop-suc n xs

pub lines_of-cut : (text : List ℕ) (n : ℕ) → text ≢ [] → n ≡ position_or_len (λ byte. byte == 10) text → lines_of text ≡ take n text ∷ lines_of (drop 1 (drop n text))
lines_of-cut [] n h e = absurd (h refl)
lines_of-cut (a ∷ bytes) n h e =
    sym (cut-is bytes a) ∙ (ap (λ m. line_cut m (a ∷ bytes)) (sym e) ∙ ap (λ rest. take n (a ∷ bytes) ∷ lines_of rest) (drop-suc n (a ∷ bytes)))

-- a line, where bytes stand behind it, and where none do
pub lines_of-split : (text line behind : List ℕ) (n : ℕ) → text ≢ [] → n ≡ position_or_len (λ byte. byte == 10) text → line ≡ take n text → behind ≡ drop n text
    → lines_of text ≡ line ∷ lines_of (take (length behind - 1) (drop 1 behind))
lines_of-split text line behind n h e f b = rw (take_rest behind 1, f, b) (lines_of-cut text n h e)

pub lines_of-whole : (text line behind : List ℕ) (n : ℕ) → text ≢ [] → n ≡ position_or_len (λ byte. byte == 10) text → line ≡ take n text → behind ≡ drop n text → length behind < 1
    → lines_of text ≡ line ∷ lines_of behind
lines_of-whole text line behind n h e f b short = rw f (lines_of-cut text n h e ∙ ap (λ rest. take n text ∷ lines_of rest) (ap (drop 1) (sym b) ∙ by behind short)) where
  by : (rest : List ℕ) → length rest < 1 → drop 1 rest ≡ rest
  by [] s = refl
  by (x ∷ xs) s = absurd (omega (arith, s))
