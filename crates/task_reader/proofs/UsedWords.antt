-- The words that spell a line spell the names that it uses, each at its place.
use Rattle.task_reader.proofs.Vocabulary.{◌≡◌, ℕ, zero, suc, Option, Some, None, List, [], ◌∷◌, ◌++◌, map, slice_get, refl, sym, subst, codes, Word, Term, Passed, Step, Set, Math, If, Goto, Label, Cell, Rows, Spawn, All, Copy, Drop, Get, Again, Done, RootTerm, What, SpellsTerm, SpellsPassed, SpellsRootTerm, SpellsFuture, EachSpells, SpellsFutures, SpellsBehind, Spells, Use, UsesFuture, UsesRoot, SpellsUse, term_use, passed_use, root_term_use, behind_uses, futures_uses, step_uses, line_uses, some-same}

-- the words begin with one for each use, which spells it
abbrev Covers : List Word → List Use → Type 0
Covers words [] = Unit {0}
Covers [] (first ∷ uses) = ⊥
Covers (word ∷ words) (first ∷ uses) = SpellsUse word first × Covers words uses

-- the word that spells a use
pub record SpelledAt (words : List Word) (place : ℕ) (used : Use) : Type 0 where
  pub word : Word
  pub stands : slice_get words place ≡ Some word
  pub spells : SpellsUse word used

covers-at : (words : List Word) (uses : List Use) → Covers words uses → (place : ℕ) (used : Use) → slice_get uses place ≡ Some used → SpelledAt words place used
covers-at words [] c place used e = cc
covers-at [] (first ∷ uses) c place used e = absurd c
covers-at (word ∷ words) (first ∷ uses) c zero used e = record { word = word; stands = refl; spells = subst (SpellsUse word) (some-same first used e) c.0 }
covers-at (word ∷ words) (first ∷ uses) c (suc place) used e = let r = covers-at words uses c.1 place used e in
    record { word = r.word; stands = r.stands; spells = r.spells }

-- ---- parts

term-spelled : (word : Word) (t : Term) → SpellsTerm word t → SpellsUse word (term_use t)
term-spelled word (Term.Literal n) s = tt
term-spelled word (Term.Variable name) s = s.0

passed-spelled : (word : Word) (a : Passed) → SpellsPassed word a → SpellsUse word (passed_use a)
passed-spelled word (Passed.Number t) s = term-spelled word t s
passed-spelled word (Passed.Future name) s = s.0

root-term-spelled : (word : Word) (t : RootTerm) → SpellsRootTerm word t → SpellsUse word (root_term_use t)
root-term-spelled word (RootTerm.Number n) s = tt
root-term-spelled word (RootTerm.Root name) s = s.0

future-spelled : (word : Word) (name : List ℕ) → SpellsFuture word name → SpellsUse word (UsesFuture name)
future-spelled word name s = s.0

each-covered : {A : Type 0} (R : Word → A → Type 0) (use_of : A → Use) → ((word : Word) (a : A) → R word a → SpellsUse word (use_of a))
    → (words : List Word) (items : List A) (more : List Word) (rest : List Use) → EachSpells R words items → Covers more rest → Covers (words ++ more) (map use_of items ++ rest)
each-covered R use_of spelled [] [] more rest s c = c
each-covered R use_of spelled [] (a ∷ items) more rest s c = absurd s
each-covered R use_of spelled (word ∷ words) [] more rest s c = absurd s
each-covered R use_of spelled (word ∷ words) (a ∷ items) more rest s c = (spelled word a s.0, each-covered R use_of spelled words items more rest s.1 c)

list-covered : {A : Type 0} (R : Word → A → Type 0) (use_of : A → Use) → ((word : Word) (a : A) → R word a → SpellsUse word (use_of a))
    → (words : List Word) (items : List A) (more : List Word) → EachSpells R words items → Covers (words ++ more) (map use_of items)
list-covered R use_of spelled [] [] more s = tt
list-covered R use_of spelled [] (a ∷ items) more s = absurd s
list-covered R use_of spelled (word ∷ words) [] more s = absurd s
list-covered R use_of spelled (word ∷ words) (a ∷ items) more s = (spelled word a s.0, list-covered R use_of spelled words items more s.1)

behind-covered : (use_of : List ℕ → Use) → ((name : List ℕ) → SpellsUse (64 ∷ name) (use_of name)) → (words more : List Word) (behind : Option (List ℕ)) → SpellsBehind words behind
    → Covers (words ++ more) (behind_uses use_of behind)
behind-covered use_of spelled words more None s = tt
behind-covered use_of spelled words more (Some name) s = subst (λ ws. Covers (ws ++ more) (behind_uses use_of (Some name))) (sym s.0) (tt, (spelled name, tt))

futures-covered : (opening : Word) (words more : List Word) (names : List (List ℕ)) (rest : List Use) → SpellsFutures opening words names → Covers more rest
    → Covers (words ++ more) (futures_uses names ++ rest)
futures-covered opening words more [] rest s c = subst (λ ws. Covers (ws ++ more) rest) (sym s) c
futures-covered opening words more (name ∷ names) rest s c =
    subst (λ ws. Covers (ws ++ more) (futures_uses (name ∷ names) ++ rest)) (sym s.1) (tt, each-covered SpellsFuture UsesFuture future-spelled s.0 (name ∷ names) more rest s.2 c)

last-covered : (opening : Word) (words more : List Word) (names : List (List ℕ)) → SpellsFutures opening words names → Covers (words ++ more) (futures_uses names)
last-covered opening words more [] s = tt
last-covered opening words more (name ∷ names) s =
    subst (λ ws. Covers (ws ++ more) (futures_uses (name ∷ names))) (sym s.1) (tt, list-covered SpellsFuture UsesFuture future-spelled s.0 (name ∷ names) more s.2)

-- ---- lines

step-covered : (words : List Word) (step : Step) → Spells words (What.Step step) → Covers words (step_uses step)
step-covered words (Set to value) s = subst (λ ws. Covers ws (step_uses (Set to value))) (sym s.1) (tt, (refl, (term-spelled s.0.1.0.0 value s.0.1.0.1, tt)))
step-covered words (Math operation to left right) s =
    subst (λ ws. Covers ws (step_uses (Math operation to left right))) (sym s.1) (tt, (refl, (term-spelled s.0.1.0.0 left s.0.1.0.1, (term-spelled s.0.1.1.0.0 right s.0.1.1.0.1, tt))))
step-covered words (If relation left right target) s =
    subst (λ ws. Covers ws (step_uses (If relation left right target))) (sym s.1) (tt, (term-spelled s.0.0.0 left s.0.0.1, (tt, (term-spelled s.0.1.1.0.0 right s.0.1.1.0.1, (tt, (refl, tt))))))
step-covered words (Goto target) s = subst (λ ws. Covers ws (step_uses (Goto target))) (sym s.1) (tt, (refl, tt))
step-covered words (Label name) s = tt
step-covered words (Cell to column row) s = subst (λ ws. Covers ws (step_uses (Cell to column row))) (sym s.1) (tt, (refl, (tt, (term-spelled s.0.1.1.0.0 row s.0.1.1.0.1, tt))))
step-covered words (Rows to column) s = subst (λ ws. Covers ws (step_uses (Rows to column))) (sym s.1) (tt, (refl, tt))
step-covered words (Spawn to kind arguments behind priority retry) s =
    subst (λ ws. Covers ws (step_uses (Spawn to kind arguments behind priority retry))) (sym s.1)
    (tt, (refl, (refl, each-covered SpellsPassed passed_use passed-spelled s.0.1.1.0.0 arguments _ (behind_uses UsesFuture behind) s.0.1.1.0.1 (behind-covered UsesFuture (λ name. refl) s.0.1.1.1.0.0 _ behind s.0.1.1.1.0.1))))
step-covered words (All to members priority retry) s =
    subst (λ ws. Covers ws (step_uses (All to members priority retry))) (sym s.1) (tt, (refl, list-covered SpellsFuture UsesFuture future-spelled s.0.1.0.0 members _ s.0.1.0.2))
step-covered words (Copy to source) s = subst (λ ws. Covers ws (step_uses (Copy to source))) (sym s.1) (tt, (refl, (refl, tt)))
step-covered words (Drop future) s = subst (λ ws. Covers ws (step_uses (Drop future))) (sym s.1) (tt, (refl, tt))
step-covered words (Get to future) s = subst (λ ws. Covers ws (step_uses (Get to future))) (sym s.1) (tt, (refl, (refl, tt)))
step-covered words (Again target behind priority) s =
    subst (λ ws. Covers ws (step_uses (Again target behind priority))) (sym s.1) (tt, (refl, behind-covered UsesFuture (λ name. refl) s.0.1.0.0 _ behind s.0.1.0.1))
step-covered words (Done value) s = subst (λ ws. Covers ws (step_uses (Done value))) (sym s.1) (tt, (term-spelled s.0.0.0 value s.0.0.1, tt))

line-covered : (words : List Word) (w : What) → Spells words w → Covers words (line_uses w)
line-covered words (What.Kind name arguments) s = tt
line-covered words (What.Var variables) s = tt
line-covered words (What.State name holds settled) s = subst (λ ws. Covers ws (line_uses (What.State name holds settled))) (sym s.1)
    (tt, (tt, futures-covered (codes "holds") s.0.1.0.0 _ holds (futures_uses settled) s.0.1.0.1 (last-covered (codes "settled") s.0.1.1.0.0 [] settled s.0.1.1.0.1)))
line-covered words (What.Step step) s = step-covered words step s
line-covered words What.End s = tt
line-covered words (What.Root name kind arguments behind priority) s = subst (λ ws. Covers ws (line_uses (What.Root name kind arguments behind priority))) (sym s.1)
    (tt, (tt, (refl, each-covered SpellsRootTerm root_term_use root-term-spelled s.0.1.1.0.0 arguments _ (behind_uses UsesRoot behind) s.0.1.1.0.1 (behind-covered UsesRoot (λ name. refl) s.0.1.1.1.0.0 _ behind s.0.1.1.1.0.1))))

-- the name that a line uses at a place is spelled by the word there
pub use-spelled : (words : List Word) (w : What) → Spells words w → (place : ℕ) (used : Use) → slice_get (line_uses w) place ≡ Some used → SpelledAt words place used
use-spelled words w s place used e = covers-at words (line_uses w) (line-covered words w s) place used e
