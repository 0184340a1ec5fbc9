-- Lines that are written word by word.
use Rattle.task_writer.proofs.Vocabulary.{◌≡◌, ℕ, ◌+◌, ◌<◌, ◌≤◌, List, [], ◌∷◌, ◌++◌, map, length, take, get_or, sym, ◌∙◌, ap, append_assoc, append-nil, take_more, take_all, map-append, map-map, ◌==◌, true, false, arith, eqb-true, flat_map-append, Word, future_word, futures_words, spaced, parted, line_text}

spaced-append : (xs ys : List Word) → spaced (xs ++ ys) ≡ spaced xs ++ spaced ys
unfolding spaced
spaced-append xs ys = flat_map-append (λ (word : Word). 32 ∷ word) xs ys

-- one more piece
more : (o a b xs ys : List ℕ) → a ≡ o ++ xs → b ≡ a ++ ys → b ≡ o ++ (xs ++ ys)
more o a b xs ys p q = q ∙ (ap (λ z. z ++ ys) p ∙ append_assoc o xs ys)

more-words : (o a b : List ℕ) (xs ys : List Word) → a ≡ o ++ spaced xs → b ≡ a ++ spaced ys → b ≡ o ++ spaced (xs ++ ys)
more-words o a b xs ys p q = more o a b (spaced xs) (spaced ys) p q ∙ ap (λ z. o ++ z) (sym (spaced-append xs ys))

-- a first word, further words, and the end
pub line-1 : (o a b c : List ℕ) (word : Word) (words : List Word) → a ≡ o ++ word → b ≡ a ++ spaced words → c ≡ b ++ 10 ∷ [] → c ≡ o ++ line_text (word ∷ words)
unfolding line_text parted
line-1 o a b c word words p q r = more o b c (word ++ spaced words) (10 ∷ []) (more o a b word (spaced words) p q) r

pub line-0 : (o a b : List ℕ) (w : Word) → a ≡ o ++ w → b ≡ a ++ 10 ∷ [] → b ≡ o ++ line_text (w ∷ [])
unfolding spaced
line-0 o a b w p q = line-1 o a a b w [] p (sym (append-nil a)) q

-- a word and a list
pub line-2 : (o a b c d : List ℕ) (w x : Word) (ys : List Word) → a ≡ o ++ w → b ≡ a ++ spaced (x ∷ []) → c ≡ b ++ spaced ys → d ≡ c ++ 10 ∷ [] → d ≡ o ++ line_text (w ∷ x ∷ ys)
line-2 o a b c d w x ys p q r s = line-1 o a c d w (x ∷ ys) p (more-words a b c (x ∷ []) ys q r) s

-- two words and a list
pub line-3 : (o a b c d e : List ℕ) (w x y : Word) (zs : List Word) → a ≡ o ++ w → b ≡ a ++ spaced (x ∷ []) → c ≡ b ++ spaced (y ∷ []) → d ≡ c ++ spaced zs → e ≡ d ++ 10 ∷ []
    → e ≡ o ++ line_text (w ∷ x ∷ y ∷ zs)
line-3 o a b c d e w x y zs p q r s t = line-1 o a d e w (x ∷ y ∷ zs) p (more-words a b d (x ∷ []) (y ∷ zs) q (more-words b c d (y ∷ []) zs r s)) t

-- a word and two lists
pub line-2-2 : (o a b c d e : List ℕ) (w x : Word) (ys zs : List Word) → a ≡ o ++ w → b ≡ a ++ spaced (x ∷ []) → c ≡ b ++ spaced ys → d ≡ c ++ spaced zs → e ≡ d ++ 10 ∷ []
    → e ≡ o ++ line_text (w ∷ x ∷ (ys ++ zs))
line-2-2 o a b c d e w x ys zs p q r s t = line-1 o a d e w (x ∷ (ys ++ zs)) p (more-words a b d (x ∷ []) (ys ++ zs) q (more-words b c d ys zs r s)) t

-- two words and three lists
pub line-3-3 : (o a b c d e f g : List ℕ) (w x y : Word) (us vs ws : List Word) → a ≡ o ++ w → b ≡ a ++ spaced (x ∷ []) → c ≡ b ++ spaced (y ∷ [])
    → d ≡ c ++ spaced us → e ≡ d ++ spaced vs → f ≡ e ++ spaced ws → g ≡ f ++ 10 ∷ [] → g ≡ o ++ line_text (w ∷ x ∷ y ∷ (us ++ (vs ++ ws)))
line-3-3 o a b c d e f g w x y us vs ws p q r s t u v =
    line-1 o a f g w (x ∷ y ∷ (us ++ (vs ++ ws))) p
    (more-words a b f (x ∷ []) (y ∷ (us ++ (vs ++ ws))) q
    (more-words b c f (y ∷ []) (us ++ (vs ++ ws)) r
    (more-words c d f us (vs ++ ws) s (more-words d e f vs ws t u)))) v

-- five words
pub line-5 : (o a b c d e f g : List ℕ) (w v x y z u : Word) → a ≡ o ++ w → b ≡ a ++ spaced (v ∷ []) → c ≡ b ++ spaced (x ∷ []) → d ≡ c ++ spaced (y ∷ [])
    → e ≡ d ++ spaced (z ∷ []) → f ≡ e ++ spaced (u ∷ []) → g ≡ f ++ 10 ∷ [] → g ≡ o ++ line_text (w ∷ v ∷ x ∷ y ∷ z ∷ u ∷ [])
line-5 o a b c d e f g w v x y z u p q r s t k l =
    line-1 o a f g w (v ∷ x ∷ y ∷ z ∷ u ∷ []) p
    (more-words a b f (v ∷ []) (x ∷ y ∷ z ∷ u ∷ []) q
    (more-words b c f (x ∷ []) (y ∷ z ∷ u ∷ []) r
    (more-words c d f (y ∷ []) (z ∷ u ∷ []) s (more-words d e f (z ∷ []) (u ∷ []) t k)))) l

pub ruleset lines = (line-0, line-1, line-2, line-3, line-2-2, line-3-3, line-5)

-- ---- parts of lines

pub word-put : (o a b : List ℕ) (w : Word) → a ≡ o ++ 32 ∷ [] → b ≡ a ++ w → b ≡ o ++ spaced (w ∷ [])
unfolding spaced
word-put o a b w p q = more o a b (32 ∷ []) w p q ∙ ap (λ z. o ++ (32 ∷ z)) (sym (append-nil w))

pub future-put : (o a b : List ℕ) (name : List ℕ) → a ≡ o ++ 32 ∷ 64 ∷ [] → b ≡ a ++ name → b ≡ o ++ spaced (future_word name ∷ [])
unfolding spaced
future-put o a b name p q = more o a b (32 ∷ 64 ∷ []) name p q ∙ ap (λ z. o ++ (32 ∷ 64 ∷ z)) (sym (append-nil name))

pub nothing-put : (o : List ℕ) → o ≡ o ++ spaced []
unfolding spaced
nothing-put o = sym (append-nil o)

pub opened-put : (o a b : List ℕ) (w : Word) (xs : List Word) → a ≡ o ++ spaced (w ∷ []) → b ≡ a ++ spaced xs → b ≡ o ++ spaced (w ∷ xs)
opened-put o a b w xs p q = more-words o a b (w ∷ []) xs p q

pub ruleset parts = (word-put, future-put, nothing-put, opened-put)

-- the front of the line of a spawn, and of an aggregate
pub spawn-front : (o a b c d : List ℕ) (w x y : Word) (zs : List Word) → a ≡ o ++ w → b ≡ a ++ spaced (x ∷ []) → c ≡ b ++ spaced (y ∷ []) → d ≡ c ++ spaced zs
    → d ≡ o ++ parted (w ∷ x ∷ y ∷ zs)
unfolding parted
spawn-front o a b c d w x y zs p q r s = more o a d w (spaced (x ∷ y ∷ zs)) p (more-words a b d (x ∷ []) (y ∷ zs) q (more-words b c d (y ∷ []) zs r s))

pub all-front : (o a b c : List ℕ) (w x : Word) (ys : List Word) → a ≡ o ++ w → b ≡ a ++ spaced (x ∷ []) → c ≡ b ++ spaced ys → c ≡ o ++ parted (w ∷ x ∷ ys)
unfolding parted
all-front o a b c w x ys p q r = more o a c w (spaced (x ∷ ys)) p (more-words a b c (x ∷ []) ys q r)

pub options-put : (o a b c : List ℕ) (xs ys : List Word) → a ≡ o ++ spaced xs → b ≡ a ++ spaced ys → c ≡ b ++ 10 ∷ [] → c ≡ o ++ (spaced (xs ++ ys) ++ 10 ∷ [])
options-put o a b c xs ys p q r = more o b c (spaced (xs ++ ys)) (10 ∷ []) (more-words o a b xs ys p q) r

joined : (o a b : List ℕ) (w : Word) (xs os : List Word) → a ≡ o ++ parted (w ∷ xs) → b ≡ a ++ (spaced os ++ 10 ∷ []) → b ≡ o ++ line_text (w ∷ (xs ++ os))
unfolding line_text parted
joined o a b w xs os p q =
    more o a b (w ++ spaced xs) (spaced os ++ 10 ∷ []) p q
    ∙ ap (λ z. o ++ z) (sym (append_assoc (w ++ spaced xs) (spaced os) (10 ∷ [])) ∙ ap (λ z. z ++ 10 ∷ []) (append_assoc w (spaced xs) (spaced os) ∙ ap (λ z. w ++ z) (sym (spaced-append xs os))))

pub tail-put : (o a b : List ℕ) (xs ys : List Word) → a ≡ o ++ spaced xs → b ≡ a ++ (spaced ys ++ 10 ∷ []) → b ≡ o ++ (spaced (xs ++ ys) ++ 10 ∷ [])
tail-put o a b xs ys p q =
    more o a b (spaced xs) (spaced ys ++ 10 ∷ []) p q ∙ ap (λ z. o ++ z) (sym (append_assoc (spaced xs) (spaced ys) (10 ∷ [])) ∙ ap (λ z. z ++ 10 ∷ []) (sym (spaced-append xs ys)))

pub spawn-line : (o a b : List ℕ) (w x y : Word) (zs os : List Word) → a ≡ o ++ parted (w ∷ x ∷ y ∷ zs) → b ≡ a ++ (spaced os ++ 10 ∷ []) → b ≡ o ++ line_text (w ∷ x ∷ y ∷ (zs ++ os))
spawn-line o a b w x y zs os p q = joined o a b w (x ∷ y ∷ zs) os p q

pub all-line : (o a b : List ℕ) (w x : Word) (ys os : List Word) → a ≡ o ++ parted (w ∷ x ∷ ys) → b ≡ a ++ (spaced os ++ 10 ∷ []) → b ≡ o ++ line_text (w ∷ x ∷ (ys ++ os))
all-line o a b w x ys os p q = joined o a b w (x ∷ ys) os p q

pub ruleset long_lines = (spawn-front, all-front, options-put, tail-put, spawn-line, all-line)

-- ---- lists that are written in a loop

-- one more member of a list
pub one-more : {A : Type 0} (f : A → Word) (xs : List A) (i : ℕ) (d : A) (o a b : List ℕ) → i < length xs
    → a ≡ o ++ spaced (map f (take i xs)) → b ≡ a ++ spaced (f (get_or xs i d) ∷ []) → b ≡ o ++ spaced (map f (take (i + 1) xs))
one-more f xs i d o a b l p q =
    more-words o a b (map f (take i xs)) (f (get_or xs i d) ∷ []) p q
    ∙ ap (λ ws. o ++ spaced ws) (sym (ap (map f) (take_more xs i d l) ∙ map-append f (take i xs) (get_or xs i d ∷ [])))

-- all members
pub all-put : {A B : Type 0} (f : B → Word) (g : A → B) (xs : List A) (i : ℕ) (o a : List ℕ) → length xs ≤ i
    → a ≡ o ++ spaced (map (λ (x : A). f (g x)) (take i xs)) → a ≡ o ++ spaced (map f (map g xs))
all-put f g xs i o a l e = e ∙ ap (λ ws. o ++ spaced ws) (ap (map (λ x. f (g x))) (take_all i xs l) ∙ sym (map-map f g xs))

-- a fixed word and futures, where there are some
pub none-listed : (o : List ℕ) (w : Word) (xs : List ℕ) (f : ℕ → List ℕ) → (length xs == 0) ≡ true → o ≡ o ++ spaced (futures_words w (map f xs))
none-listed o w [] f e = nothing-put o
none-listed o w (x ∷ xs) f e = absurd (omega (arith, eqb-true (length (x ∷ xs)) 0 e))

pub some-listed : (o a b : List ℕ) (w : Word) (xs : List ℕ) (f : ℕ → List ℕ) → (length xs == 0) ≡ false → a ≡ o ++ spaced (w ∷ []) → b ≡ a ++ spaced (map future_word (map f xs))
    → b ≡ o ++ spaced (futures_words w (map f xs))
some-listed o a b w [] f e p q = cc
some-listed o a b w (x ∷ xs) f e p q = more-words o a b (w ∷ []) (map future_word (map f (x ∷ xs))) p q

pub ruleset opened = (none-listed, some-listed)
