-- Lines that are written one after the other.
use Rattle.task_writer.proofs.Vocabulary.{◌≡◌, ℕ, ◌+◌, ◌<◌, ◌≤◌, true, false, List, [], ◌∷◌, ◌++◌, map, length, take, drop, get_or, sym, ◌∙◌, ap, append_assoc, append-nil, refl, arith, codes, ◌==◌, flat_map, flat_map-append, take_more, take_all, map-append, slice_get_read, eqb-true, IsWellFormed, Variable, State, Kind, Program, What, variable_word, futures_words, line_words, spaced, line_text, header_words, text_of_lines, text_of, name_at, kind_names, variable_names, root_names, names_in, code_lines, state_lines, var_lines, kind_lines, root_line, lines_of_program, HaveArguments}
use Rattle.task_writer.proofs.Putting.{line-1}

pub text-append : (xs ys : List What) → text_of_lines (xs ++ ys) ≡ text_of_lines xs ++ text_of_lines ys
unfolding text_of_lines
text-append xs ys = flat_map-append (λ (w : What). line_text (line_words w)) xs ys

more-lines : (o a b : List ℕ) (xs ys : List What) → a ≡ o ++ text_of_lines xs → b ≡ a ++ text_of_lines ys → b ≡ o ++ text_of_lines (xs ++ ys)
more-lines o a b xs ys p q = q ∙ (ap (λ z. z ++ text_of_lines ys) p ∙ (append_assoc o (text_of_lines xs) (text_of_lines ys) ∙ ap (λ z. o ++ z) (sym (text-append xs ys))))

one-line : (w : What) → line_text (line_words w) ≡ text_of_lines (w ∷ [])
unfolding text_of_lines
one-line w = sym (append-nil (line_text (line_words w)))

as-line : (o a : List ℕ) (w : What) → a ≡ o ++ line_text (line_words w) → a ≡ o ++ text_of_lines (w ∷ [])
as-line o a w p = p ∙ ap (λ z. o ++ z) (one-line w)

pub no-lines : (o : List ℕ) → o ≡ o ++ text_of_lines []
unfolding text_of_lines
no-lines o = sym (append-nil o)

-- ---- loops

pub line-more : {A : Type 0} (f : A → What) (xs : List A) (i : ℕ) (x : A) (o a b : List ℕ) → i < length xs → x ≡ get_or xs i x
    → a ≡ o ++ text_of_lines (map f (take i xs)) → b ≡ a ++ line_text (line_words (f x)) → b ≡ o ++ text_of_lines (map f (take (i + 1) xs))
line-more f xs i x o a b l e p q =
    more-lines o a b (map f (take i xs)) (f x ∷ []) p (as-line a b (f x) q)
    ∙ ap (λ ws. o ++ text_of_lines ws) (sym (ap (map f) (take_more xs i x l ∙ ap (λ y. take i xs ++ y ∷ []) (sym e)) ∙ map-append f (take i xs) (x ∷ [])))

pub lines-more : {A : Type 0} (f : A → List What) (xs : List A) (i : ℕ) (x : A) (o a b : List ℕ) → i < length xs → x ≡ get_or xs i x
    → a ≡ o ++ text_of_lines (flat_map f (take i xs)) → b ≡ a ++ text_of_lines (f x) → b ≡ o ++ text_of_lines (flat_map f (take (i + 1) xs))
lines-more f xs i x o a b l e p q =
    more-lines o a b (flat_map f (take i xs)) (f x) p q
    ∙ ap (λ ws. o ++ text_of_lines ws) (sym (ap (flat_map f) (take_more xs i x l ∙ ap (λ y. take i xs ++ y ∷ []) (sym e)) ∙ (flat_map-append f (take i xs) (x ∷ []) ∙ ap (λ ws. flat_map f (take i xs) ++ ws) (append-nil (f x)))))

-- all members
pub all-lines : {A : Type 0} (f : A → What) (xs : List A) (i : ℕ) (o a : List ℕ) → length xs ≤ i → a ≡ o ++ text_of_lines (map f (take i xs)) → a ≡ o ++ text_of_lines (map f xs)
all-lines f xs i o a l e = e ∙ ap (λ ys. o ++ text_of_lines (map f ys)) (take_all i xs l)

pub all-flat : {A : Type 0} (f : A → List What) (xs : List A) (i : ℕ) (o a : List ℕ) → length xs ≤ i → a ≡ o ++ text_of_lines (flat_map f (take i xs)) → a ≡ o ++ text_of_lines (flat_map f xs)
all-flat f xs i o a l e = e ∙ ap (λ ys. o ++ text_of_lines (flat_map f ys)) (take_all i xs l)

-- ---- kinds

pub state-put : (o a b : List ℕ) (kinds : List (List ℕ)) (kind : Kind) (state : State)
    → a ≡ o ++ line_text (codes "state" ∷ state.name ∷ (futures_words (codes "holds") (map (name_at (variable_names kind.variables)) state.holds) ++ futures_words (codes "settled") (map (name_at (variable_names kind.variables)) state.settled)))
    → b ≡ a ++ text_of_lines (code_lines (names_in kinds kind state) state.code) → b ≡ o ++ text_of_lines (state_lines kinds kind state)
unfolding state_lines
state-put o a b kinds kind state p q = more-lines o a b (_ ∷ []) (code_lines (names_in kinds kind state) state.code) (as-line o a _ p) q

pub no-locals : (o : List ℕ) (locals : List Variable) → (length locals == 0) ≡ true → o ≡ o ++ text_of_lines (var_lines locals)
no-locals o [] e = no-lines o
no-locals o (v ∷ vs) e = absurd (omega (arith, eqb-true (length (v ∷ vs)) 0 e))

pub some-locals : (o a b c : List ℕ) (locals : List Variable) → (length locals == 0) ≡ false → a ≡ o ++ codes "var" → b ≡ a ++ spaced (map variable_word locals) → c ≡ b ++ 10 ∷ []
    → c ≡ o ++ text_of_lines (var_lines locals)
some-locals o a b c [] e p q r = cc
some-locals o a b c (v ∷ vs) e p q r = as-line o c _ (line-1 o a b c (codes "var") (map variable_word (v ∷ vs)) p q r)

pub kind-put : (o a b c d : List ℕ) (kinds : List (List ℕ)) (kind : Kind) (front back : List Variable) → front ≡ take kind.arguments kind.variables → back ≡ drop kind.arguments kind.variables
    → a ≡ o ++ line_text (codes "kind" ∷ kind.name ∷ map variable_word front) → b ≡ a ++ text_of_lines (var_lines back)
    → c ≡ b ++ text_of_lines (flat_map (state_lines kinds kind) kind.states) → d ≡ c ++ line_text (codes "end" ∷ []) → d ≡ o ++ text_of_lines (kind_lines kinds kind)
unfolding kind_lines
kind-put o a b c d kinds kind front back e f p q r s =
    more-lines o a d (_ ∷ []) _ (as-line o a _ (p ∙ ap (λ vs. o ++ line_text (codes "kind" ∷ kind.name ∷ map variable_word vs)) e))
    (more-lines a b d (var_lines (drop kind.arguments kind.variables)) _ (q ∙ ap (λ vs. a ++ text_of_lines (var_lines vs)) f)
    (more-lines b c d (flat_map (state_lines kinds kind) kind.states) (_ ∷ []) r (as-line c d _ s)))

pub ruleset kinds = (state-put, no-locals, some-locals, kind-put)

pub arguments_here : (kinds : List Kind) (i : ℕ) (kind : Kind) → HaveArguments kinds → i < length kinds → kind ≡ get_or kinds i kind → kind.arguments ≤ length kind.variables
arguments_here kinds i kind h l e = h i kind (slice_get_read kinds (length kinds) i kind refl l e)

pub arguments-fit : (p : Program) → IsWellFormed p → HaveArguments p.kinds
arguments-fit p w i kind e = (w.kinds i kind e).arguments_are_variables

-- ---- programs

pub program-put : (o a b c : List ℕ) (p : Program) → o ≡ [] → a ≡ o ++ line_text header_words
    → b ≡ a ++ text_of_lines (flat_map (kind_lines (kind_names p.kinds)) p.kinds)
    → c ≡ b ++ text_of_lines (map (root_line (kind_names p.kinds) (root_names p.roots)) p.roots) → c ≡ text_of p
unfolding text_of lines_of_program
program-put o a b c p n q r s =
    more-lines a b c (flat_map (kind_lines (kind_names p.kinds)) p.kinds) (map (root_line (kind_names p.kinds) (root_names p.roots)) p.roots) r s
    ∙ ap (λ z. z ++ text_of_lines (flat_map (kind_lines (kind_names p.kinds)) p.kinds ++ map (root_line (kind_names p.kinds) (root_names p.roots)) p.roots)) (q ∙ ap (λ z. z ++ line_text header_words) n)

pub ruleset programs = (program-put, arguments-fit)
