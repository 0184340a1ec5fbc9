-- The words of a row that are checked one by one.
use Rattle.std.proofs.Common.{◌≡◌, ℕ, ◌+◌, ◌<◌, Bool, true, false, cond, List, [], ◌∷◌, length, drop, Result, Ok, Err, refl, sym, ap, arith}
use Rattle.task_text.specs.declared.fault.Fault.{Fault}
use Rattle.task_text.specs.declared.fault.Cause.TheVariants.{NotText}
use Rattle.task_text.specs.Fault.{fault_at}
use Rattle.task_text.specs.Text.{Word}
use Rattle.task_text.specs.Scan.{Scan, is_text, first_of, number_behind, seen, moved, fault_here, check_words}
use Rattle.task_text.specs.Cursor.{is_over}

-- what checking gives for the words that are left
abbrev pub checked : Scan → Result (Unit {0}) Fault
checked s = check_words s.line s.word s.left

choice : (line at : ℕ) (word : Word) (words : List Word) (b : Bool) → is_text word ≡ b → check_words line at (word ∷ words) ≡ cond b (check_words line (at + 1) words) (Err (fault_at NotText line at))
unfolding check_words
choice line at word words b t = ap (λ c. cond c (check_words line (at + 1) words) (Err (fault_at NotText line at))) t

pub checked-end : (s : Scan) → is_over s.left ≡ true → checked s ≡ Ok tt
unfolding check_words
checked-end s h = by s.left h where
  by : (left : List Word) → is_over left ≡ true → check_words s.line s.word left ≡ Ok tt
  by [] h = refl
  by (word ∷ words) h = cc

pub checked-bad : (s : Scan) → is_over s.left ≡ false → is_text (seen s) ≡ false → checked s ≡ Err (fault_here NotText s)
unfolding seen fault_here
checked-bad s h t = by s.left h t where
  by : (left : List Word) → is_over left ≡ false → is_text (first_of left) ≡ false → check_words s.line s.word left ≡ Err (fault_at NotText s.line s.word)
  by [] h t = cc
  by (word ∷ words) h t = choice s.line s.word word words false t

pub checked-more : (s : Scan) → is_over s.left ≡ false → is_text (seen s) ≡ true → checked (moved s) ≡ checked s
unfolding seen moved
checked-more s h t = by s.left h t where
  by : (left : List Word) → is_over left ≡ false → is_text (first_of left) ≡ true → check_words s.line (number_behind s.word left) (drop 1 left) ≡ check_words s.line s.word left
  by [] h t = cc
  by (word ∷ words) h t = sym (choice s.line s.word word words true t)

pub moved-fewer : (s : Scan) → is_over s.left ≡ false → length (moved s).left < length s.left
unfolding moved
moved-fewer s h = by s.left h where
  by : (left : List Word) → is_over left ≡ false → length (drop 1 left) < length left
  by [] h = cc
  by (word ∷ words) h = omega arith
