-- The words of a frame, written and read one after the other.
use Rattle.std.proofs.Common.{◌≡◌, ◌≢◌, ◌∙◌, ◌⊎◌, inl, inr, ℕ, zero, suc, ◌+◌, ◌*◌, ◌<◌, ◌≤◌, Bool, true, false, cond, Some, List, [], ◌∷◌, ◌++◌, length, refl, sym, ap, arith}
use Rattle.std.specs.Prelude.{slice_index}
use Rattle.std.proofs.lemmas.Bool.{cases_eq, eq-eqb, ne_eqb}
use Rattle.kt_words.specs.declared.plan.Plan.{Plan}
use Rattle.task_meaning.specs.Frame.{variables_of}
use Rattle.frame_code.specs.Control.{control_kind, control_state, is_aggregate}
use Rattle.frame_code.specs.Words.{words_from}
use Rattle.frame_code.proofs.ControlWords.{frame-line}
use Rattle.std.proofs.lemmas.Option.{same_Some}
use Rattle.schedule_rule.specs.Frames.{front}
use Rattle.schedule_rule.proofs.TakingFacts.{length-words, read-words}
use Rattle.step_table.specs.SeeingSteps.{KnowsWord, ReadsKnown}
use Rattle.frame_code.specs.Frames.{frame_length}
use Rattle.table_core.specs.Addresses.{frame}
use Rattle.table_core.specs.Own.{known_in}
use Rattle.table_core.specs.declared.view.View.{View}
use Rattle.step_table.specs.Lookups.{made_in, run_in}
use Rattle.step_table.specs.Passes.{view, IsSame}
use Rattle.step_table.specs.RecordHands.{MayFill}
use Rattle.step_table.specs.RecordSteps.{Fills}
use Rattle.step_table.specs.declared.pass.Pass.{Pass}
use Rattle.step_table.specs.declared.record_tokens.OwnWord.{OwnWord}
use Rattle.step_table.specs.declared.record_tokens.OwnWord.TheVariants as own_word
use Rattle.task_syntax.specs.declared.program.Program.{Program}
use Rattle.schedule_core.specs.FrameWords.{KnowsFront, IsFrontOf}
use Rattle.schedule_core.specs.References.{Grows}
use Rattle.schedule_core.proofs.EachFacts.{grows-on, grows-self}

-- what may be filled may be so where the records are the same
pub fill-same : (g : Plan) (u : ℕ) (word : OwnWord) (v w : View) → w.made ≡ v.made → w.runs ≡ v.runs → MayFill g u word v → MayFill g u word w
fill-same g u word v w made runs (inl t) = inl (t.0, record { is_block = (t.1).is_block; there = ap (λ l. made_in u l) made ∙ (t.1).there }, t.2)
fill-same g u word v w made runs (inr t) = inr (t.0, record { is_block = (t.1).is_block; there = ap (λ l. run_in u l) runs ∙ (t.1).there }, t.2)

-- the first words of a frame are known
abbrev pub KnowsUpTo : ℕ → List ℕ → ℕ → View → Type 0
KnowsUpTo u words n v = (j : ℕ) → j < n → known_in (frame u j) v.known ≡ Some (slice_index words j)

-- so many words of the frame are written
pub record IsWriting (u : ℕ) (words : List ℕ) (n : ℕ) (old now : Pass) : Type 0 where
  pub known : KnowsUpTo u words n (view now)
  pub seen : Grows (view old).seen (view now).seen
  pub view_is : view now ≡ record (view old) { known = (view now).known; seen = (view now).seen }
  pub same : IsSame old now

pub writing-starts : (u : ℕ) (words : List ℕ) (old : Pass) → IsWriting u words 0 old old
writing-starts u words old = record {
  known = λ j low. absurd (omega (arith, low));
  seen = grows-self (view old).seen;
  view_is = refl;
  same = record { table = refl; id = refl; splits = refl; number = refl; held_is = refl };
}

-- one word more is known
known-more : (u n value : ℕ) (words : List ℕ) (v w : View) → value ≡ slice_index words n → w.known ≡ (frame u n, value) ∷ v.known → KnowsUpTo u words n v → KnowsUpTo u words (n + 1) w
known-more u n value words v w value_is is known j low = ap (λ l. known_in (frame u j) l) is ∙ by (cases_eq j n)
  where
    by : (j ≡ n) ⊎ (j ≢ n) → known_in (frame u j) ((frame u n, value) ∷ v.known) ≡ Some (slice_index words j)
    by (inl e) = ap (λ (b : Bool). cond b (Some value) (known_in (frame u j) v.known)) (eq-eqb (8 * u + n) (8 * u + j) (omega (arith, e))) ∙ ap Some value_is ∙ ap (λ (k : ℕ). Some (slice_index words k)) (sym e)
    by (inr ne) = ap (λ (b : Bool). cond b (Some value) (known_in (frame u j) v.known)) (ne_eqb (8 * u + n) (8 * u + j) (λ e. ne (omega (arith, e)))) ∙ known j (omega (arith, low, ne))

pub writing-on : (u n value : ℕ) (words : List ℕ) (old now new : Pass) → IsWriting u words n old now → value ≡ slice_index words n → IsSame now new → Fills u (own_word.Frame n) value now new → IsWriting u words (n + 1) old new
writing-on u n value words old now new so value_is same fills = record {
  known = known-more u n value words (view now) (view new) value_is (ap (λ (v : View). v.known) fills.view_is) so.known;
  seen = grows-on (view old).seen (view now).seen (view new).seen so.seen ((frame u n, fills.found) ∷ [], ap (λ (v : View). v.seen) fills.view_is);
  view_is = fills.view_is ∙ (λ k. record (so.view_is k) { known = (frame u n, value) ∷ (view now).known; seen = (frame u n, fills.found) ∷ (view now).seen })
      ∙ (λ k. record (view old) { known = (sym fills.view_is k).known; seen = (sym fills.view_is k).seen });
  same = record {
    table = same.table ∙ so.same.table;
    id = same.id ∙ so.same.id;
    splits = same.splits ∙ so.same.splits;
    number = same.number ∙ so.same.number;
    held_is = same.held_is ∙ so.same.held_is;
  };
}

-- one word more behind those that were read
pub words-more : (f : ℕ → ℕ) (k n : ℕ) → words_from f k (suc n) ≡ words_from f k n ++ f (k + n) ∷ []
words-more f k zero = ap (λ (m : ℕ). f m ∷ []) (omega arith)
words-more f k (suc n) = ap (λ (l : List ℕ). f k ∷ l) (words-more f (k + 1) n ∙ ap (λ (m : ℕ). words_from f (k + 1) n ++ f m ∷ []) (omega arith))

-- The first words of the frame are read that is known to stand in the record: they are its control word and those behind it.
pub record IsReading (g : Plan) (p : Program) (u : ℕ) (old : Pass) (long n : ℕ) (items : List ℕ) (now : Pass) : Type 0 where
  pub some : 1 ≤ n
  pub long_is : (words : List ℕ) → KnowsFront g p u words (view old) → long ≡ frame_length p (slice_index words 0)
  pub read : (words : List ℕ) → KnowsFront g p u words (view old) → items ≡ words_from (slice_index words) 0 n
  pub seen : Grows (view old).seen (view now).seen
  pub view_is : view now ≡ record (view old) { seen = (view now).seen }
  pub same : IsSame old now

module _ (g : Plan) (p : Program) (u : ℕ) (words : List ℕ) (v : View) (k : KnowsFront g p u words v) where
  abbrev its_long : ℕ
  its_long = frame_length p (slice_index words 0)

  pub front-some : 1 ≤ its_long
  front-some = by (is_aggregate (slice_index words 0))
    where
      by : (b : Bool) → 1 ≤ cond b (1 + control_state (slice_index words 0)) (1 + variables_of p (control_kind (slice_index words 0)))
      by true = omega arith
      by false = omega arith

  first-word : slice_index (front p (slice_index words)) 0 ≡ slice_index words 0
  first-word = read-words (slice_index words) 0 its_long 0 (omega (arith, front-some))

  -- the program has the kind of the frame, if it is a task's
  pub kind-within : is_aggregate (slice_index words 0) ≡ false → control_kind (slice_index words 0) < length p.kinds
  kind-within task =
      let line = frame-line p (front p (slice_index words)) k.formed (ap is_aggregate first-word ∙ task) in
      omega (arith, line.kind, ap control_kind first-word)

  pub front-few : its_long ≤ 64
  front-few = omega (arith, k.formed.few, length-words (slice_index words) 0 its_long)

  -- what is known of a word is that word
  pub read-is : (j value : ℕ) → j < its_long → known_in (frame u j) v.known ≡ Some value → value ≡ slice_index words j
  read-is j value low found = same_Some value (slice_index words j) (sym found ∙ k.known j low)

-- a known word may be read, also once others were
pub may-read : (g : Plan) (p : Program) (u : ℕ) (words : List ℕ) (v w : View) (j : ℕ) → KnowsFront g p u words v → w.known ≡ v.known → j < frame_length p (slice_index words 0) → KnowsWord g u (own_word.Frame j) w
may-read g p u words v w j k same low = record { at = k.inside j low; value = slice_index words j; known = ap (λ l. known_in (frame u j) l) same ∙ k.known j low }

-- the control word was read
pub reading-starts : (g : Plan) (p : Program) (u value long : ℕ) (items : List ℕ) (old now : Pass) → items ≡ value ∷ [] → long ≡ frame_length p value → IsSame old now → ReadsKnown u (own_word.Frame 0) old value now
    → IsReading g p u old long 1 items now
reading-starts g p u value long items old now is is_long same reads = record {
  some = omega arith;
  long_is = λ words k. is_long ∙ ap (frame_length p) (read-is g p u words (view old) k 0 value (omega (arith, front-some g p u words (view old) k)) reads.known);
  read = λ words k. is ∙ ap (λ (w : ℕ). w ∷ []) (read-is g p u words (view old) k 0 value (omega (arith, front-some g p u words (view old) k)) reads.known);
  seen = ((frame u 0, value) ∷ [], ap (λ (v : View). v.seen) reads.view_is);
  view_is = reads.view_is ∙ (λ k. record (view old) { seen = (sym reads.view_is k).seen });
  same = same;
}

-- and one word more
pub reading-on : (g : Plan) (p : Program) (u value long n : ℕ) (items more : List ℕ) (old now new : Pass) → IsReading g p u old long n items now → n < long → more ≡ items ++ value ∷ [] → IsSame now new
    → ReadsKnown u (own_word.Frame n) now value new → IsReading g p u old long (n + 1) more new
reading-on g p u value long n items more old now new so low is same reads = record {
  some = omega arith;
  long_is = so.long_is;
  read = λ words k. is ∙ ap (λ (l : List ℕ). l ++ value ∷ []) (so.read words k)
      ∙ ap (λ (w : ℕ). words_from (slice_index words) 0 n ++ w ∷ []) (read-is g p u words (view old) k n value (omega (arith, low, so.long_is words k)) (sym (ap (λ (v : View). known_in (frame u n) v.known) so.view_is) ∙ reads.known))
      ∙ last (slice_index words);
  seen = grows-on (view old).seen (view now).seen (view new).seen so.seen ((frame u n, value) ∷ [], ap (λ (v : View). v.seen) reads.view_is);
  view_is = reads.view_is ∙ (λ k. record (so.view_is k) { seen = (frame u n, value) ∷ (view now).seen }) ∙ (λ k. record (view old) { seen = (sym reads.view_is k).seen });
  same = record {
    table = same.table ∙ so.same.table;
    id = same.id ∙ so.same.id;
    splits = same.splits ∙ so.same.splits;
    number = same.number ∙ so.same.number;
    held_is = same.held_is ∙ so.same.held_is;
  };
}
  where
    last : (f : ℕ → ℕ) → words_from f 0 n ++ f n ∷ [] ≡ words_from f 0 (n + 1)
    last f =
        let at : n ≡ 0 + n = omega arith in let next : suc n ≡ n + 1 = omega arith in
        ap (λ (m : ℕ). words_from f 0 n ++ f m ∷ []) at ∙ sym (words-more f 0 n) ∙ ap (λ (m : ℕ). words_from f 0 m) next

-- all words were read
pub reading-ends : (g : Plan) (p : Program) (u long n : ℕ) (items : List ℕ) (old now : Pass) → IsReading g p u old long n items now → n ≡ long → IsFrontOf g p u (view old) items
reading-ends g p u long n items old now so e words k = so.read words k ∙ ap (λ (m : ℕ). words_from (slice_index words) 0 m) (e ∙ so.long_is words k)
