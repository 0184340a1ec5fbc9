-- Lists of items that are read in a loop: one more item, an item at fault, and the end.
use Rattle.std.proofs.Common.{◌≡◌, ◌<◌, Bool, true, false, cond, List, [], ◌∷◌, ◌++◌, length, drop, Ok, Err, refl, sym, ◌∙◌, ap, arith}
use Rattle.task_text.specs.declared.fault.Fault.{Fault}
use Rattle.task_text.specs.Text.{Word}
use Rattle.task_text.specs.Scan.{Scan, first_of, seen, moved, Parser, and_then, each_along, each}

-- a loop over the words of a row ends
pub moved-shorter : (test : Word → Bool) (s : Scan) → test [] ≡ false → test (seen s) ≡ true → length (moved s).left < length s.left
unfolding seen moved
moved-shorter test s n t = by s.left n t where
  by : (left : List Word) → test [] ≡ false → test (first_of left) ≡ true → length (drop 1 left) < length left
  by [] n t = let c : true ≡ false = sym t ∙ n in cc
  by (word ∷ words) n t = omega arith

-- a word chooses between one more item and the end
chosen : {A : Type 0} (test : Word → Bool) (item : List A → Parser A) (found : List A) (s : Scan) (word : Word) (words : List Word) (b : Bool) → test word ≡ b
    → each_along (word ∷ words) test item found s ≡ cond b (and_then (item found s) (λ a. each_along words test item (found ++ a ∷ []))) (Ok (found, s))
unfolding each_along
chosen {A} test item found s word words true t = ap (λ b. cond {A = Parser (List A)} b (λ z. and_then (item found z) (λ a. each_along words test item (found ++ a ∷ []))) (λ z. Ok (found, z)) s) t
chosen {A} test item found s word words false t = ap (λ b. cond {A = Parser (List A)} b (λ z. and_then (item found z) (λ a. each_along words test item (found ++ a ∷ []))) (λ z. Ok (found, z)) s) t

pub each-ends : {A : Type 0} (test : Word → Bool) (item : List A → Parser A) (found : List A) (s : Scan) → test (seen s) ≡ false → each test item found s ≡ Ok (found, s)
unfolding seen each_along
each-ends {A} test item found s t = by s.left t where
  by : (left : List Word) → test (first_of left) ≡ false → each_along left test item found s ≡ Ok (found, s)
  by [] t = refl
  by (word ∷ words) t = chosen test item found s word words false t

pub each-fails : {A : Type 0} (test : Word → Bool) (item : List A → Parser A) (found : List A) (s : Scan) (fault : Fault)
    → test [] ≡ false → test (seen s) ≡ true → item found s ≡ Err fault → each test item found s ≡ Err fault
unfolding seen each_along
each-fails {A} test item found s fault n t e = by s.left t where
  by : (left : List Word) → test (first_of left) ≡ true → each_along left test item found s ≡ Err fault
  by [] t = let c : true ≡ false = sym t ∙ n in cc
  by (word ∷ words) t =
      chosen test item found s word words true t
      ∙ ap (λ o. and_then o (λ a. each_along words test item (found ++ a ∷ []))) e

pub each-more : {A : Type 0} (test : Word → Bool) (item : List A → Parser A) (found : List A) (s next : Scan) (a : A)
    → test [] ≡ false → test (seen s) ≡ true → item found s ≡ Ok (a, next) → next ≡ moved s → each test item found s ≡ each test item (found ++ a ∷ []) next
unfolding seen moved each_along
each-more {A} test item found s next a n t e m = by s.left t ∙ ap (λ left. each_along left test item (found ++ a ∷ []) next) (sym (ap (λ z. z.left) m)) where
  by : (left : List Word) → test (first_of left) ≡ true → each_along left test item found s ≡ each_along (drop 1 left) test item (found ++ a ∷ []) next
  by [] t = let c : true ≡ false = sym t ∙ n in cc
  by (word ∷ words) t =
      chosen test item found s word words true t
      ∙ ap (λ o. and_then o (λ a. each_along words test item (found ++ a ∷ []))) e
