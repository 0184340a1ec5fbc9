-- The words of the units, behind those that stand before them.
use Rattle.std.proofs.Common.{◌≡◌, ℕ, zero, suc, ◌+◌, ◌*◌, ◌-◌, ◌≤◌, List, [], ◌∷◌, length, take, drop, replicate, drop-drop, sym, ap, ◌∙◌, arith}
use Rattle.std.proofs.lemmas.List.{drop-replicate}
use Rattle.plain_state.specs.Store.{written}
use Rattle.plain_records.specs.StoreView.{unit_words}

-- where nothing was written
pub none_written : (units : ℕ) → unit_words (replicate (units * 8 + 6) 0) ≡ replicate (units * 8) 0
none_written units = let e : units * 8 + 6 - 6 ≡ units * 8 = omega arith in drop-replicate 6 (units * 8 + 6) 0 ∙ ap (λ n. replicate n 0) e

-- what is written behind a front does not change what the front is
drop_written : (before at : ℕ) (new words : List ℕ) → before ≤ length words → drop before (written (before + at) new words) ≡ written at new (drop before words)
drop_written zero at new words some = let e : 0 + at ≡ at = omega arith in ap (λ n. written n new words) e
drop_written (suc before) at new [] some = absurd (omega (arith, some))
drop_written (suc before) at new (w ∷ words) some = let e : suc before + at ≡ suc (before + at) = omega arith in
    let f : suc (before + at) + length new ≡ suc (before + at + length new) = omega arith in
    rw (e, f) (drop_written before at new words (omega (arith, some)))

-- words that are written behind those before them are written among the words of the units
pub written_behind : (at : ℕ) (new words : List ℕ) → 6 ≤ length words → unit_words (written (6 + at) new words) ≡ written at new (unit_words words)
written_behind at new words some = drop_written 6 at new words some

-- words that are read behind those before them
pub read_behind : (count at : ℕ) (words : List ℕ) → take count (drop (6 + at) words) ≡ take count (drop at (unit_words words))
read_behind count at words = ap (take count) (sym (drop-drop at 6 words))
