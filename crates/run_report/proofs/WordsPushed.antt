-- A line to which words are appended one after the other.
use Rattle.std.proofs.Common.{◌≡◌, ℕ, List, [], ◌∷◌, ◌++◌, append_assoc, sym, ◌∙◌, ap}
use Rattle.std.specs.Prelude.{codes}
use Rattle.std.proofs.lemmas.List.{append-nil}
use Rattle.std.proofs.lemmas.Grind.{flat_map-append}
use Rattle.run_report.specs.Lines.{Word, Words, joined, spaced}

-- the first word
pub first_word : (line : List ℕ) (first : Word) → line ≡ first → line ≡ joined (first ∷ [])
first_word line first is = is ∙ sym (append-nil first)

-- one word more
pub next_word : (line new : List ℕ) (first : Word) (words : Words) (word : Word) → line ≡ joined (first ∷ words) → new ≡ line ++ (codes " " ++ word)
    → new ≡ joined (first ∷ (words ++ word ∷ []))
next_word line new first words word is pushed =
    let one : spaced (words ++ word ∷ []) ≡ spaced words ++ (codes " " ++ word) =
    flat_map-append (λ (w : Word). codes " " ++ w) words (word ∷ []) ∙ ap (λ z. spaced words ++ z) (append-nil (codes " " ++ word)) in
    pushed ∙ (ap (λ z. z ++ (codes " " ++ word)) is ∙ (append_assoc first (spaced words) (codes " " ++ word) ∙ ap (λ z. first ++ z) (sym one)))
