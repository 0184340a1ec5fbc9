-- The items that are read from a text are spelled by its rows.
use Rattle.task_lines.proofs.Vocabulary.{◌≡◌, ◌∷◌, Result, Ok, Err, refl, ◌∙◌, ap, arith, codes, NoHeader, Fault, Row, Scan, What, Scope, after, header_line, Spells, MayStand, parts, tested, this-taken, header_word, ◌>>=◌}
use Rattle.task_lines.proofs.Words.{AreNew}

-- ---- rows

pub result-parts : {A B : Type 0} (o : Result A Fault) (f : A → Result B Fault) (b : B) → o >>= f ≡ Ok b → (a : A) × (o ≡ Ok a) × (f a ≡ Ok b)
result-parts (Ok a) f b e = (a, refl, e)
result-parts (Err fault) f b e = cc

pub record SpellsRow (scope : Scope) (row : Row) (w : What) : Type 0 where
  pub spells : Spells row.words w
  pub stands : MayStand scope w

-- the variables so far still differ behind a line that may stand
pub new-after : (scope : Scope) (w : What) → MayStand scope w → AreNew 255 scope.variables → AreNew 255 (after scope w).variables
new-after scope (What.Kind name arguments) stands new = (stands.3, omega (arith, stands.4))
new-after scope (What.Var variables) stands new = (stands.1, stands.2)
new-after scope w stands new = new

-- ---- the header

pub header-taken : (s : Scan) (r : Unit {0} × Scan) → header_line s ≡ Ok r → s.left ≡ codes "ktask" ∷ codes "1" ∷ r.1.left
unfolding header_line
header-taken s r e =
    let p = parts (tested (header_word (codes "ktask")) (λ _. tt {0}) s) (λ _. tested (header_word (codes "1")) (λ _. tt {0})) r e in
    this-taken (codes "ktask") NoHeader refl s (p.value, p.scan) p.first ∙ ap (λ ws. codes "ktask" ∷ ws) (this-taken (codes "1") NoHeader refl p.scan r p.next)
