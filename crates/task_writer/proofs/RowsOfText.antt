-- The rows of a canonical text are the words of its lines.
use Rattle.task_writer.proofs.Vocabulary.{◌≡◌, ℕ, ◌+◌, Bool, true, false, not, ◌&&◌, cond, List, [], ◌∷◌, ◌++◌, refl, ◌∙◌, ap, append_assoc, ◌==◌, take, one-add, list_all, prefix_len, both, Word, Row, is_blank, in_front, lines_of, code_of, begins_with_word, with_row, rows_from, spaced, parted, line_text, words_of, ◌≢◌, sym, arith, flat_map, nat_eq, nat_le, leb-true, eqb-true, is_between, ◌||◌, drop, pointwise, without_mark, rows_of, is_plain, IsTidy, AllTidy, EachTidy}
use Rattle.task_writer.proofs.Itemized.{numbered}
use Rattle.task_writer.proofs.CanonicalText.{written, line-parted}

-- ---- bytes

-- a byte that neither ends a line nor begins a comment
abbrev pub stays : ℕ → Bool
stays byte = not (byte == 10) && not (byte == 35)

-- no blank either
abbrev pub in_word : ℕ → Bool
in_word byte = not (is_blank byte) && stays byte

differs : (byte n : ℕ) → (byte ≡ n → ⊥) → (byte == n) ≡ false
differs byte n h = by (byte == n) refl where
  by : (b : Bool) → (byte == n) ≡ b → b ≡ false
  by true e = absurd (h (eqb-true byte n e))
  by false e = refl

plain-in-word : (byte : ℕ) → is_plain byte ≡ true → in_word byte ≡ true
plain-in-word byte h =
    let b : (is_between 33 126 byte ≡ true) × (not (nat_eq byte 35) ≡ true) = both _ _ h in
    let low = leb-true 33 byte (both (nat_le 33 byte) (nat_le byte 126) b.0).0 in
    let space = differs byte 32 (λ e. omega (arith, e, low)) in
    let tab = differs byte 9 (λ e. omega (arith, e, low)) in
    let return = differs byte 13 (λ e. omega (arith, e, low)) in
    let feed = differs byte 10 (λ e. omega (arith, e, low)) in
    ap (λ c. not (c || byte == 9 || byte == 13) && (not (byte == 10) && not (byte == 35))) space
    ∙ (ap (λ c. not (c || byte == 13) && (not (byte == 10) && not (byte == 35))) tab
    ∙ (ap (λ c. not c && (not (byte == 10) && not (byte == 35))) return
    ∙ (ap (λ c. not c && not (byte == 35)) feed ∙ b.1)))

all-in-word : (word : Word) → list_all is_plain word ≡ true → list_all in_word word ≡ true
all-in-word [] h = refl
all-in-word (byte ∷ word) h =
    let b : (is_plain byte ≡ true) × (list_all is_plain word ≡ true) = both _ _ h in
    ap (λ c. c && list_all in_word word) (plain-in-word byte b.0) ∙ all-in-word word b.1

-- ---- lines

front-line : (byte : ℕ) (b : Bool) (line : List ℕ) (lines : List (List ℕ)) → not b ≡ true
    → ◌≡◌ {A = List (List ℕ)} (cond b ([] ∷ (line ∷ lines)) (in_front byte (line ∷ lines))) ((byte ∷ line) ∷ lines)
front-line byte true line lines h = cc
front-line byte false line lines h = refl

line-cut : (xs rest : List ℕ) → list_all stays xs ≡ true → lines_of (xs ++ 10 ∷ rest) ≡ xs ∷ lines_of rest
line-cut [] rest h = refl
line-cut (byte ∷ xs) rest h =
    let b : (stays byte ≡ true) × (list_all stays xs ≡ true) = both _ _ h in
    ap (λ ls. cond {A = List (List ℕ)} (byte == 10) ([] ∷ ls) (in_front byte ls)) (line-cut xs rest b.1)
    ∙ front-line byte (byte == 10) xs (lines_of rest) (both (not (byte == 10)) (not (byte == 35)) b.0).0

no-comment : (byte : ℕ) (b : Bool) (n : ℕ) (xs : List ℕ) → b ≡ true → take n xs ≡ xs → take (cond b (1 + n) 0) (byte ∷ xs) ≡ byte ∷ xs
no-comment byte true n xs h e = rw (one-add n) (ap (λ zs. byte ∷ zs) e)
no-comment byte false n xs h e = cc

code-whole : (xs : List ℕ) → list_all stays xs ≡ true → code_of xs ≡ xs
code-whole [] h = refl
code-whole (byte ∷ xs) h =
    let b : (stays byte ≡ true) × (list_all stays xs ≡ true) = both _ _ h in
    no-comment byte (not (byte == 35)) (prefix_len (λ b. not (b == 35)) xs) xs (both (not (byte == 10)) (not (byte == 35)) b.0).1 (code-whole xs b.1)

-- ---- words

last-byte : (byte : ℕ) (blank begins : Bool) (rest : List ℕ) → not blank ≡ true → begins ≡ false
    → cond {A = List Word} blank (words_of rest) (cond begins (in_front byte (words_of rest)) ((byte ∷ []) ∷ words_of rest)) ≡ (byte ∷ []) ∷ words_of rest
last-byte byte false false rest h e = refl
last-byte byte true begins rest h e = cc
last-byte byte blank true rest h e = cc

next-byte : (byte : ℕ) (blank begins : Bool) (bytes : List ℕ) (word : Word) (words : List Word) → not blank ≡ true → begins ≡ true → words_of bytes ≡ word ∷ words
    → cond {A = List Word} blank (words_of bytes) (cond begins (in_front byte (words_of bytes)) ((byte ∷ []) ∷ words_of bytes)) ≡ (byte ∷ word) ∷ words
next-byte byte false true bytes word words h b e = ap (in_front byte) e
next-byte byte true begins bytes word words h b e = cc
next-byte byte blank false bytes word words h b e = cc

word-cut : (word : Word) (rest : List ℕ) → word ≢ [] → list_all in_word word ≡ true → begins_with_word rest ≡ false → words_of (word ++ rest) ≡ word ∷ words_of rest
word-cut [] rest some h e = absurd (some refl)
word-cut (byte ∷ []) rest some h e =
    let b : (in_word byte ≡ true) × (true ≡ true) = both _ _ h in
    last-byte byte (is_blank byte) (begins_with_word rest) rest (both (not (is_blank byte)) (stays byte) b.0).0 e
word-cut (byte ∷ next ∷ bytes) rest some h e =
    let b : (in_word byte ≡ true) × (list_all in_word (next ∷ bytes) ≡ true) = both _ _ h in
    let n : (in_word next ≡ true) × (list_all in_word bytes ≡ true) = both _ _ b.1 in
    next-byte byte (is_blank byte) (not (is_blank next)) (next ∷ (bytes ++ rest)) (next ∷ bytes) (words_of rest)
    (both (not (is_blank byte)) (stays byte) b.0).0 (both (not (is_blank next)) (stays next) n.0).0 (word-cut (next ∷ bytes) rest (λ z. cc) b.1 e)

spaced-begins : (words : List Word) → begins_with_word (spaced words) ≡ false
unfolding spaced
spaced-begins [] = refl
spaced-begins (word ∷ words) = refl

first-cut : (word : Word) (words : List Word) → IsTidy word → words_of (word ++ spaced words) ≡ word ∷ words_of (spaced words)
first-cut word words t = word-cut word (spaced words) t.begun (all-in-word word t.plain) (spaced-begins words)

spaced-words : (words : List Word) → AllTidy words → words_of (spaced words) ≡ words
unfolding spaced
spaced-words [] h = refl
spaced-words (word ∷ words) h = first-cut word words h.0 ∙ ap (λ ws. word ∷ ws) (spaced-words words h.1)

-- ---- whole lines

all-append : (p : ℕ → Bool) (xs ys : List ℕ) → list_all p xs ≡ true → list_all p ys ≡ true → list_all p (xs ++ ys) ≡ true
all-append p [] ys g h = h
all-append p (x ∷ xs) ys g h =
    let b : (p x ≡ true) × (list_all p xs ≡ true) = both _ _ g in
    ap (λ c. c && list_all p (xs ++ ys)) b.0 ∙ all-append p xs ys b.1 h

word-stays : (word : Word) → list_all in_word word ≡ true → list_all stays word ≡ true
word-stays [] h = refl
word-stays (byte ∷ word) h =
    let b : (in_word byte ≡ true) × (list_all in_word word ≡ true) = both _ _ h in
    ap (λ c. c && list_all stays word) (both (not (is_blank byte)) (stays byte) b.0).1 ∙ word-stays word b.1

tidy-stays : (word : Word) → IsTidy word → list_all stays word ≡ true
tidy-stays word t = word-stays word (all-in-word word t.plain)

spaced-stays : (words : List Word) → AllTidy words → list_all stays (spaced words) ≡ true
unfolding spaced
spaced-stays [] h = refl
spaced-stays (word ∷ words) h = all-append stays word (spaced words) (tidy-stays word h.0) (spaced-stays words h.1)

first-row : (line : ℕ) (words : List Word) (rest : List ℕ) → words ≢ [] → AllTidy words
    → rows_from line (lines_of (line_text words ++ rest)) ≡ record { line = line; words = words } ∷ rows_from (line + 1) (lines_of rest)
unfolding line_text parted
first-row line [] rest some h = absurd (some refl)
first-row line (word ∷ words) rest some h =
    let whole = word ++ spaced words in
    let s : list_all stays whole ≡ true = all-append stays word (spaced words) (tidy-stays word h.0) (spaced-stays words h.1) in
    let cut : words_of whole ≡ word ∷ words = first-cut word words h.0 ∙ ap (λ ws. word ∷ ws) (spaced-words words h.1) in
    ap (λ t. rows_from line (lines_of t)) (append_assoc whole (10 ∷ []) rest)
    ∙ (ap (rows_from line) (line-cut whole rest s)
    ∙ ap (λ ws. with_row line ws (rows_from (line + 1) (lines_of rest))) (ap words_of (code-whole whole s) ∙ cut))

tidy-rows : (at : ℕ) (lines : List (List Word)) → EachTidy lines → rows_from at (lines_of (flat_map written lines)) ≡ numbered at lines
tidy-rows at [] h = refl
tidy-rows at (line ∷ lines) h =
    let row : Row = record { line = at; words = line } in
    ap (λ t. rows_from at (lines_of (t ++ flat_map written lines))) (sym (line-parted line))
    ∙ (first-row at line (flat_map written lines) h.0 h.1 ∙ ap (λ rows. row ∷ rows) (tidy-rows (at + 1) lines h.2))

-- a text of tidy lines begins with no mark
not-mark : (byte : ℕ) → is_plain byte ≡ true → nat_eq 239 byte ≡ false
not-mark byte h = by (nat_eq 239 byte) refl where
  by : (b : Bool) → nat_eq 239 byte ≡ b → b ≡ false
  by true e =
      let b : (is_between 33 126 byte ≡ true) × (not (nat_eq byte 35) ≡ true) = both _ _ h in
      let high = leb-true byte 126 (both (nat_le 33 byte) (nat_le byte 126) b.0).1 in
      let same = eqb-true 239 byte e in
      absurd (omega (arith, high, same))
  by false e = refl

mark-cut : (byte : ℕ) (bytes : List ℕ) → nat_eq 239 byte ≡ false → without_mark (byte ∷ bytes) ≡ byte ∷ bytes
mark-cut byte bytes e = ap (λ (c : Bool). cond {A = List ℕ} (c && pointwise nat_eq (187 ∷ 191 ∷ []) (take 2 bytes)) (drop 2 bytes) (byte ∷ bytes)) e

no-mark : (lines : List (List Word)) → EachTidy lines → without_mark (flat_map written lines) ≡ flat_map written lines
no-mark [] h = refl
no-mark ([] ∷ lines) h = absurd (h.0 refl)
no-mark (([] ∷ words) ∷ lines) h = absurd (h.1.0.begun refl)
no-mark (((byte ∷ bytes) ∷ []) ∷ lines) h = mark-cut byte _ (not-mark byte (both (is_plain byte) (list_all is_plain bytes) h.1.0.plain).0)
no-mark (((byte ∷ bytes) ∷ word ∷ words) ∷ lines) h = mark-cut byte _ (not-mark byte (both (is_plain byte) (list_all is_plain bytes) h.1.0.plain).0)

-- the rows of a text of tidy lines
pub parted-rows : (text : List ℕ) (lines : List (List Word)) → text ≡ flat_map written lines → EachTidy lines → rows_of text ≡ numbered 1 lines
parted-rows text lines e tidy = ap rows_of e ∙ (ap (λ t. rows_from 1 (lines_of t)) (no-mark lines tidy) ∙ tidy-rows 1 lines tidy)
