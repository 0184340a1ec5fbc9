-- The text of a well-formed program is canonical.
use Rattle.task_writer.proofs.Vocabulary.{◌≡◌, ◌≢◌, ℕ, true, false, List, [], ◌∷◌, ◌++◌, map, take, drop, refl, sym, ◌∙◌, ap, subst, arith, append_assoc, append-nil, codes, flat_map, join_with_byte, decimal_digit, IsWellFormed, MathOp, Line, Variable, State, Kind, Root, Program, Word, same-bytes, same_bytes, first_of, Step, What, Scope, first_scope, after, operation_word, line_words, spaced, parted, line_text, header_words, text_of_lines, text_of, IsTidy, AllTidy, EachTidy, Opens, EachNext, IsCanonical, Set, Math, Names, kind_names, root_names, names_in, step_of, code_lines, state_lines, var_lines, kind_lines, root_line, lines_of_program, ◌+◌}
use Rattle.task_writer.proofs.PlainLines.{fixed-tidy, line-tidy, line-begun}
use Rattle.task_writer.proofs.StandingCode.{Stands}
use Rattle.task_writer.proofs.StandingKinds.{lines-stand}

-- ---- words parted by one space

joined : (words : List Word) → parted words ≡ join_with_byte 32 words
unfolding parted spaced
joined [] = refl
joined (word ∷ []) = append-nil word
joined (word ∷ next ∷ words) = ap (λ z. word ++ 32 ∷ z) (joined (next ∷ words))

pub line-parted : (words : List Word) → line_text words ≡ join_with_byte 32 words ++ 10 ∷ []
unfolding line_text
line-parted words = ap (λ z. z ++ 10 ∷ []) (joined words)

abbrev pub written : List Word → List ℕ
written words = join_with_byte 32 words ++ 10 ∷ []

lines-parted : (ws : List What) → text_of_lines ws ≡ flat_map written (map line_words ws)
unfolding text_of_lines
lines-parted [] = refl
lines-parted (w ∷ ws) =
    ap (λ z. z ++ text_of_lines ws) (line-parted (line_words w)) ∙ ap (λ z. written (line_words w) ++ z) (lines-parted ws)

pub text-parted : (p : Program) → text_of p ≡ flat_map written (header_words ∷ map line_words (lines_of_program p))
unfolding text_of
text-parted p =
    ap (λ z. z ++ text_of_lines (lines_of_program p)) (line-parted header_words) ∙ ap (λ z. written header_words ++ z) (lines-parted (lines_of_program p))

-- ---- tidy words

each-tidy : (kinds : List (List ℕ)) (ws : List What) (s : Scope) (m : ℕ) → Stands kinds s m ws → EachTidy (map line_words ws)
each-tidy kinds [] s m h = tt
each-tidy kinds (w ∷ ws) s m h = (line-begun w, line-tidy w h.0, each-tidy kinds ws (after s w) (m + 1) h.3)

one-tidy : IsTidy (codes "1")
one-tidy = record {
  begun = λ e. cc;
  plain = refl;
  needed = λ e. cc;
  number = λ d. (1, omega arith, sym (decimal_digit 1 (omega arith)));
}

header-tidy : AllTidy header_words
header-tidy = (fixed-tidy (codes "ktask") refl, (one-tidy, tt))

-- ---- the first words of lines

pub apart : (a b : Word) → same_bytes a b ≡ false → a ≢ b
apart a b h e = let c : true ≡ false = sym (same-bytes a) ∙ (ap (same_bytes a) e ∙ h) in cc

-- a word that is neither `var` nor `root`
abbrev pub IsNeither : Word → Type 0
IsNeither word = (word ≢ codes "var") × (word ≢ codes "root")

neither : (word : Word) → same_bytes word (codes "var") ≡ false → same_bytes word (codes "root") ≡ false → IsNeither word
neither word v r = (apart word (codes "var") v, apart word (codes "root") r)

operation-open : (operation : MathOp) → IsNeither (operation_word operation)
operation-open MathOp.Add = neither _ refl refl
operation-open _ = neither _ refl refl

abbrev pub IsInner : What → Type 0
IsInner w = IsNeither (first_of (line_words w))

pub step-inner : (s : Step) → IsInner (What.Step s)
step-inner (Math operation to left right) = operation-open operation
step-inner (Set to value) = neither _ refl refl
step-inner _ = neither _ refl refl

abbrev pub VarBehindKind : List Word → List Word → Type 0
VarBehindKind line next = Opens (codes "var") next → Opens (codes "kind") line

abbrev pub RootBehindRoot : List Word → List Word → Type 0
RootBehindRoot line next = Opens (codes "root") line → Opens (codes "root") next

-- the lines are in order behind a line that opens no root
record AreOrdered (ws : List What) : Type 0 where
  one_var : (line : List Word) → EachNext VarBehindKind (line ∷ map line_words ws)
  roots_last : (line : List Word) → (Opens (codes "root") line → ⊥) → EachNext RootBehindRoot (line ∷ map line_words ws)

inner-first : (w : What) (ws : List What) → IsInner w → AreOrdered ws → AreOrdered (w ∷ ws)
inner-first w ws i o = record {
  one_var = λ line. ((λ opens. absurd (i.0 opens)), o.one_var (line_words w));
  roots_last = λ line n. ((λ opens. absurd (n opens)), o.roots_last (line_words w) i.1);
}

code-ordered : (n : Names) (code : List Line) (tail : List What) → AreOrdered tail → AreOrdered (code_lines n code ++ tail)
code-ordered n [] tail o = o
code-ordered n (l ∷ code) tail o = inner-first (What.Step (step_of n l.instr)) (code_lines n code ++ tail) (step-inner (step_of n l.instr)) (code-ordered n code tail o)

states-ordered : (kinds : List (List ℕ)) (kind : Kind) (states : List State) (tail : List What) → AreOrdered tail → AreOrdered (flat_map (state_lines kinds kind) states ++ tail)
unfolding state_lines
states-ordered kinds kind [] tail o = o
states-ordered kinds kind (state ∷ states) tail o =
    let lines = code_lines (names_in kinds kind state) state.code in
    let more = flat_map (state_lines kinds kind) states in
    subst AreOrdered (sym (append_assoc (state_lines kinds kind state) more tail))
    (inner-first _ (lines ++ (more ++ tail)) (neither (codes "state") refl refl) (code-ordered (names_in kinds kind state) state.code (more ++ tail) (states-ordered kinds kind states tail o)))

var-ordered : (name : List ℕ) (arguments locals : List Variable) (tail : List What) → AreOrdered tail → AreOrdered (What.Kind name arguments ∷ (var_lines locals ++ tail))
var-ordered name arguments [] tail o = inner-first (What.Kind name arguments) tail (neither (codes "kind") refl refl) o
var-ordered name arguments (v ∷ vs) tail o = record {
  one_var = λ line. ((λ opens. absurd (apart (codes "kind") (codes "var") refl opens)), ((λ opens. refl), o.one_var (line_words (What.Var (v ∷ vs)))));
  roots_last = λ line n. ((λ opens. absurd (n opens)), ((λ opens. absurd (apart (codes "kind") (codes "root") refl opens)), o.roots_last (line_words (What.Var (v ∷ vs))) (apart (codes "var") (codes "root") refl)));
}

kinds-ordered : (names : List (List ℕ)) (kinds : List Kind) (tail : List What) → AreOrdered tail → AreOrdered (flat_map (kind_lines names) kinds ++ tail)
unfolding kind_lines
kinds-ordered names [] tail o = o
kinds-ordered names (kind ∷ kinds) tail o =
    let more = flat_map (kind_lines names) kinds ++ tail in
    let states = flat_map (state_lines names kind) kind.states in
    let locals = var_lines (drop kind.arguments kind.variables) in
    let head = What.Kind kind.name (take kind.arguments kind.variables) in
    subst AreOrdered
    (sym (append_assoc (kind_lines names kind) (flat_map (kind_lines names) kinds) tail ∙ ap (λ ws. head ∷ ws) (append_assoc locals (states ++ What.End ∷ []) more ∙ ap (λ ws. locals ++ ws) (append_assoc states (What.End ∷ []) more))))
    (var-ordered kind.name (take kind.arguments kind.variables) (drop kind.arguments kind.variables) (states ++ (What.End ∷ more))
    (states-ordered names kind kind.states (What.End ∷ more) (inner-first What.End more (neither (codes "end") refl refl) (kinds-ordered names kinds tail o))))

roots-ordered : (names roots : List (List ℕ)) (rs : List Root) → AreOrdered (map (root_line names roots) rs)
unfolding root_line
roots-ordered names roots rs = record { one_var = vars rs; roots_last = λ line n. last rs line } where
  vars : (rs : List Root) (line : List Word) → EachNext VarBehindKind (line ∷ map line_words (map (root_line names roots) rs))
  vars [] line = tt
  vars (r ∷ rs) line = ((λ opens. absurd (apart (codes "root") (codes "var") refl opens)), vars rs (line_words (root_line names roots r)))

  last : (rs : List Root) (line : List Word) → EachNext RootBehindRoot (line ∷ map line_words (map (root_line names roots) rs))
  last [] line = tt
  last (r ∷ rs) line = ((λ opens. refl), last rs (line_words (root_line names roots r)))

program-ordered : (p : Program) → AreOrdered (lines_of_program p)
unfolding lines_of_program
program-ordered p = kinds-ordered (kind_names p.kinds) p.kinds _ (roots-ordered (kind_names p.kinds) (root_names p.roots) p.roots)

pub lines-tidy : (p : Program) → IsWellFormed p → EachTidy (header_words ∷ map line_words (lines_of_program p))
lines-tidy p formed = ((λ e. cc), header-tidy, each-tidy (kind_names p.kinds) (lines_of_program p) first_scope 2 (lines-stand p formed))

pub is_canonical : (p : Program) → IsWellFormed p → IsCanonical (text_of p)
is_canonical p formed = record {
  lines = header_words ∷ map line_words (lines_of_program p);
  parted = text-parted p;
  tidy = lines-tidy p formed;
  one_var = (program-ordered p).one_var header_words;
  roots_last = (program-ordered p).roots_last header_words (apart (codes "ktask") (codes "root") refl);
}
