-- The words of a frame after a record changed, and after a frame was stored.
use Rattle.std.proofs.Common.{◌≡◌, ◌≢◌, ◌⊎◌, ℕ, zero, suc, ◌+◌, ◌*◌, ◌≤◌, Some, List, [], ◌∷◌, ◌++◌, length, take, drop, slice_get, refl, sym, ◌∙◌, ap, ⊎_elim, arith}
use Rattle.std.proofs.lemmas.Bool.{cases_eq}
use Rattle.std.proofs.lemmas.Slice.{drop-append-drop}
use Rattle.std.proofs.Math.Seq.{take-append_seam}
use Rattle.plain_state.specs.declared.record.Record.{Record}
use Rattle.plain_state.specs.Store.{StoreState, IsShaped, changed, changed_at, let_go, written, stored, with_length, frame_in, frame_at}
use Rattle.plain_state.proofs.ChangedRecords.{changed_same, changed_other, changed_length, let_go_words}

-- the words that stand there, where the length of the record is known
pub frame_is : (s : StoreState) (unit : ℕ) (k : Record) → slice_get s.records unit ≡ Some k
    → frame_at s unit ≡ take k.length (drop (unit * 8) s.words)
frame_is s unit k there = ap (frame_in unit s.words) there

-- the same words and the same length are the same frame
pub frame_same : (s s' : StoreState) (unit : ℕ) (k k' : Record) → slice_get s.records unit ≡ Some k → slice_get s'.records unit ≡ Some k'
    → k'.length ≡ k.length → s'.words ≡ s.words → frame_at s' unit ≡ frame_at s unit
frame_same s s' unit k k' there there' long words =
    frame_is s' unit k' there' ∙ ap (λ n. take n (drop (unit * 8) s'.words)) long ∙ ap (λ ws. take k.length (drop (unit * 8) ws)) words
    ∙ sym (frame_is s unit k there)

-- a change of a record that keeps the length keeps all frames
pub frame_changed : (f : Record → Record) (unit at : ℕ) (s : StoreState) (k : Record) → ((known : Record) → (f known).length ≡ known.length)
    → slice_get s.records at ≡ Some k → frame_at (changed f unit s) at ≡ frame_at s at
frame_changed f unit at s k keeps there =
    ⊎_elim
    (λ same. frame_same s (changed f unit s) at k (f k) there
    (ap (slice_get (changed_at f unit s.records)) same ∙ changed_same f unit s.records k (ap (slice_get s.records) (sym same) ∙ there))
    (keeps k) refl)
    (λ differ. frame_same s (changed f unit s) at k k there (changed_other f unit at s.records differ ∙ there) refl refl)
    (cases_eq at unit)

-- lengths of lists of words
pub take_length : (n : ℕ) (xs : List ℕ) → n ≤ length xs → length (take n xs) ≡ n
take_length zero xs le = refl
take_length (suc n) [] le = absurd (omega arith)
take_length (suc n) (x ∷ xs) le = ap suc (take_length n xs (omega arith))

-- what is left after a front was dropped
pub drop_length : (n : ℕ) (xs : List ℕ) → n ≤ length xs → n + length (drop n xs) ≡ length xs
drop_length zero xs le = omega arith
drop_length (suc n) [] le = absurd (omega arith)
drop_length (suc n) (x ∷ xs) le = omega (arith, drop_length n xs (omega arith))

-- two lists, one behind the other
pub append_length : (xs ys : List ℕ) → length (xs ++ ys) ≡ length xs + length ys
append_length [] ys = omega arith
append_length (x ∷ xs) ys = omega (arith, append_length xs ys)

-- a frame that lies in the words has the length that its record says
pub frame_length : (s : StoreState) (unit : ℕ) (k : Record) → slice_get s.records unit ≡ Some k → unit * 8 + k.length ≤ length s.words
    → length (frame_at s unit) ≡ k.length
frame_length s unit k there fits =
    ap length (frame_is s unit k there)
    ∙ take_length k.length (drop (unit * 8) s.words) (omega (arith, drop_length (unit * 8) s.words (omega (arith, fits)), fits))

-- words are as many after some of them were written
pub written_length : (at : ℕ) (items xs : List ℕ) → at + length items ≤ length xs → length (written at items xs) ≡ length xs
written_length at items xs fits = omega (
  arith,
  fits,
  append_length (take at xs ++ items) (drop (at + length items) xs),
  append_length (take at xs) items,
  take_length at xs (omega (arith, fits)),
  drop_length (at + length items) xs fits,
)

-- what is read of written words: the items, or what stood before or behind them
pub read_written : (at : ℕ) (items xs rest : List ℕ) → at ≤ length xs → take (length items) (drop at (take at xs ++ items ++ rest)) ≡ items
read_written zero items xs rest le = take-append_seam items rest
read_written (suc at) items [] rest le = absurd (omega arith)
read_written (suc at) items (x ∷ xs) rest le = read_written at items xs rest (omega arith)

-- a front that ends before the written words
take_before : (n at : ℕ) (items xs rest : List ℕ) → n ≤ at → at ≤ length xs → take n (take at xs ++ items ++ rest) ≡ take n xs
take_before zero at items xs rest le within = refl
take_before (suc n) zero items xs rest le within = absurd (omega arith)
take_before (suc n) (suc at) items [] rest le within = absurd (omega arith)
take_before (suc n) (suc at) items (x ∷ xs) rest le within = ap (λ ys. x ∷ ys) (take_before n at items xs rest (omega arith) (omega arith))

-- words that lie before those that were written
pub read_before : (from n at : ℕ) (items xs rest : List ℕ) → from + n ≤ at → at ≤ length xs
    → take n (drop from (take at xs ++ items ++ rest)) ≡ take n (drop from xs)
read_before zero n at items xs rest le within = take_before n at items xs rest (omega arith) within
read_before (suc from) n zero items xs rest le within = absurd (omega arith)
read_before (suc from) n (suc at) items [] rest le within = absurd (omega arith)
read_before (suc from) n (suc at) items (x ∷ xs) rest le within = read_before from n at items xs rest (omega arith) (omega arith)

-- words that lie behind those that were written
drop_behind : (from at next : ℕ) (items xs : List ℕ) → next ≡ at + length items → next ≤ from → next ≤ length xs
    → drop from (take at xs ++ items ++ drop next xs) ≡ drop from xs
drop_behind from zero next items xs e le within = drop-append-drop next xs items from le (omega (arith, e))
drop_behind from (suc at) next items [] e le within = absurd (omega arith)
drop_behind zero (suc at) next items (x ∷ xs) e le within = absurd (omega arith)
drop_behind (suc from) (suc at) zero items (x ∷ xs) e le within = absurd (omega arith)
drop_behind (suc from) (suc at) (suc next) items (x ∷ xs) e le within = drop_behind from at next items xs (omega arith) (omega arith) (omega arith)

-- the frame that was stored
pub frame_stored : (unit : ℕ) (words : List ℕ) (s : StoreState) (k : Record) → slice_get s.records unit ≡ Some k
    → unit * 8 + length words ≤ length s.words → frame_at (stored unit words s) unit ≡ words
frame_stored unit words s k there fits =
    frame_is (stored unit words s) unit (with_length (length words) k) (changed_same (with_length (length words)) unit s.records k there)
    ∙ read_written (unit * 8) words s.words (drop (unit * 8 + length words) s.words) (omega (arith, fits))

-- another frame, whose words lie before those that were stored, or behind them
pub frame_beside : (unit at : ℕ) (words : List ℕ) (s : StoreState) (k : Record) → at ≢ unit → slice_get s.records at ≡ Some k
    → unit * 8 + length words ≤ length s.words
    → (at * 8 + k.length ≤ unit * 8) ⊎ (unit * 8 + length words ≤ at * 8) → frame_at (stored unit words s) at ≡ frame_at s at
frame_beside unit at words s k differ there fits beside =
    frame_is (stored unit words s) at k (changed_other (with_length (length words)) unit at s.records differ ∙ there)
    ∙ ⊎_elim
    (λ before. read_before (at * 8) k.length (unit * 8) words s.words (drop (unit * 8 + length words) s.words) before (omega (arith, fits)))
    (λ behind. ap (take k.length) (drop_behind (at * 8) (unit * 8) (unit * 8 + length words) words s.words refl behind fits))
    beside
    ∙ sym (frame_is s at k there)

-- the store keeps its shape
pub stored_shaped : (unit : ℕ) (words : List ℕ) (s : StoreState) → unit * 8 + length words ≤ length s.words → IsShaped s
    → IsShaped (stored unit words s)
stored_shaped unit words s fits shaped = record {
  units = changed_length (with_length (length words)) unit s.records ∙ shaped.units;
  of_blocks = shaped.of_blocks ∙ sym (changed_length (with_length (length words)) unit s.records);
  of_words = written_length (unit * 8) words s.words fits ∙ shaped.of_words
      ∙ ap (λ n. n * 8) (sym (changed_length (with_length (length words)) unit s.records));
}

-- a reference that is let go keeps all frames
pub frame_let_go : (unit at : ℕ) (s : StoreState) (k k' : Record) → slice_get s.records at ≡ Some k → slice_get (let_go unit s).records at ≡ Some k'
    → k'.length ≡ k.length → frame_at (let_go unit s) at ≡ frame_at s at
frame_let_go unit at s k k' there there' long = frame_same s (let_go unit s) at k k' there there' long (let_go_words unit s)
