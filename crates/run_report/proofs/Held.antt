-- A list of four is known by its four members.
use Rattle.std.proofs.Common.{◌≡◌, ℕ, List, [], ◌∷◌, ◌++◌, length, Some, slice_get, append_assoc, arith}
use Rattle.std.specs.Prelude.{codes, decimal}
use Rattle.std.proofs.lemmas.List.{append-nil}
use Rattle.run_report.specs.Lines.{joined}
use Rattle.run_report.specs.Report.{held_words}

pub four_members : (xs : List ℕ) (a b c d : ℕ) → length xs ≡ 4 → slice_get xs 0 ≡ Some a → slice_get xs 1 ≡ Some b → slice_get xs 2 ≡ Some c → slice_get xs 3 ≡ Some d
    → xs ≡ a ∷ b ∷ c ∷ d ∷ []
four_members [] a b c d four e f g h = cc
four_members (x ∷ []) a b c d four e f g h = cc
four_members (x ∷ y ∷ []) a b c d four e f g h = cc
four_members (x ∷ y ∷ z ∷ []) a b c d four e f g h = cc
four_members (x ∷ y ∷ z ∷ w ∷ []) a b c d four e f g h = cc
four_members (x ∷ y ∷ z ∷ w ∷ v ∷ vs) a b c d four e f g h = absurd (omega (arith, four))

-- words appended one after the other are the words joined
appended : (start space a b c d : List ℕ) → (((start ++ (space ++ a)) ++ (space ++ b)) ++ (space ++ c)) ++ (space ++ d)
    ≡ start ++ ((space ++ a) ++ ((space ++ b) ++ ((space ++ c) ++ ((space ++ d) ++ []))))
appended start space a b c d = simp (append_assoc, append-nil)

-- four numbers pushed one after the other
pub held_text : (start one two three four held : List ℕ) (a b c d : ℕ) → start ≡ codes "held" → one ≡ start ++ (codes " " ++ decimal a)
    → two ≡ one ++ (codes " " ++ decimal b) → three ≡ two ++ (codes " " ++ decimal c) → four ≡ three ++ (codes " " ++ decimal d)
    → held ≡ a ∷ b ∷ c ∷ d ∷ [] → four ≡ joined (held_words held)
held_text start one two three four held a b c d e f g h i j = rw (i, h, g, f, e, j) (appended (codes "held") (codes " ") (decimal a) (decimal b) (decimal c) (decimal d))
