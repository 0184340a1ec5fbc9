-- One unit and one superblock more is seen.
use Rattle.std.proofs.Common.{◌≡◌, ◌∙◌, ℕ, ◌+◌, ◌≤◌, Bool, true, false, [], ◌∷◌, ◌++◌, List, refl, ap, arith}
use Rattle.record_core.specs.Counting.{one_if}
use Rattle.kt_words.specs.StateWords.{packed_state}
use Rattle.kt_words.specs.SuperWords.{packed_super}
use Rattle.kt_words.specs.declared.state_word.StateWord.{StateWord}
use Rattle.kt_words.specs.declared.super_word.SuperWord.{SuperWord}
use Rattle.table_core.specs.Addresses.{Addr, state, super}
use Rattle.table_core.specs.declared.view.View.{View}
use Rattle.worker_rows.specs.Left.{is_complete, is_busy, states_seen, supers_seen, SeesRecords, SeesBlocks}

pub no-records : (v : View) → SeesRecords 0 0 0 v v
no-records v = record { words = []; each = refl; seen = refl; done_is = refl; going_is = refl }

pub more-records : (u done going one two : ℕ) (word : StateWord) (old now new : View) → SeesRecords u done going old now → new.seen ≡ (state u, packed_state word) ∷ now.seen → one ≡ one_if (is_complete word.phase)
    → two ≡ one_if (is_busy word.phase) → SeesRecords (u + 1) (done + one) (going + two) old new
more-records u done going one two word old now new s saw is_one is_two = record {
  words = word ∷ s.words;
  each = omega (arith, s.each);
  seen = saw ∙ ap (λ (l : List (Addr × ℕ)). (state u, packed_state word) ∷ l) s.seen ∙ ap (λ (n : ℕ). (state n, packed_state word) ∷ (states_seen s.words ++ old.seen)) (omega (arith, s.each));
  done_is = omega (arith, s.done_is, is_one);
  going_is = omega (arith, s.going_is, is_two);
}

pub at-most-one : (b : Bool) → one_if b ≤ 1
at-most-one true = omega arith
at-most-one false = omega arith

pub no-blocks : (v : View) → SeesBlocks 0 0 v v
no-blocks v = record { words = []; each = refl; seen = refl; blocks_is = refl }

pub more-blocks : (i blocks more : ℕ) (word : SuperWord) (old now new : View) → SeesBlocks i blocks old now → new.seen ≡ (super i, packed_super word) ∷ now.seen → more ≡ word.count → SeesBlocks (i + 1) (blocks + more) old new
more-blocks i blocks more word old now new s saw is_more = record {
  words = word ∷ s.words;
  each = omega (arith, s.each);
  seen = saw ∙ ap (λ (l : List (Addr × ℕ)). (super i, packed_super word) ∷ l) s.seen ∙ ap (λ (n : ℕ). (super n, packed_super word) ∷ (supers_seen s.words ++ old.seen)) (omega (arith, s.each));
  blocks_is = omega (arith, s.blocks_is, is_more);
}
