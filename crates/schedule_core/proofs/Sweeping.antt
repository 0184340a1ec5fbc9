-- A sweep over the state words of all units.
use Rattle.std.proofs.Common.{◌≡◌, ◌≢◌, ◌∙◌, ◌⊎◌, inl, inr, ℕ, suc, ◌+◌, ◌<◌, List, [], ◌∷◌, ◌++◌, refl, sym, ap, subst, append_assoc, arith}
use Rattle.std.proofs.lemmas.Bool.{cases_eq}
use Rattle.record_core.specs.Counting.{Has}
use Rattle.kt_words.specs.StateWords.{FitsStateWord, packed_state}
use Rattle.kt_words.specs.declared.phase.Phase.TheVariants.{Ready}
use Rattle.kt_words.specs.declared.state_word.StateWord.{StateWord}
use Rattle.table_core.specs.Addresses.{Addr, state}
use Rattle.table_core.specs.declared.view.View.{View}
use Rattle.step_table.specs.Passes.{view, IsSame}
use Rattle.step_table.specs.RecordSteps.{SeesState}
use Rattle.step_table.specs.declared.pass.Pass.{Pass}
use Rattle.ready_queues.specs.declared.entry.Entry.{Entry}
use Rattle.schedule_core.specs.Entries.{entry_of}
use Rattle.schedule_core.specs.Taking.{SawReady}
use Rattle.schedule_core.specs.References.{Grows}
use Rattle.schedule_core.proofs.EachFacts.{grows-on, grows-self}
use Rattle.schedule_core.proofs.TakenRuns.{state-sights}

-- of the steps that were made, one found the record at the unit not to be ready
pub record SawOther (u : ℕ) (old new : View) : Type 0 where
  pub steps : List (Addr × ℕ)
  pub found : StateWord
  pub since : new.seen ≡ steps ++ old.seen
  pub saw : Has (state u, packed_state found) steps
  pub other : found.phase ≢ Ready

-- the first n records were seen not to be ready
pub record IsSweeping (n : ℕ) (old now : Pass) : Type 0 where
  pub none : (u : ℕ) → u < n → SawOther u (view old) (view now)
  pub sights : Grows (view old).sights (view now).sights
  pub seen : Grows (view old).seen (view now).seen
  pub view_is : view now ≡ record (view old) { sights = (view now).sights; seen = (view now).seen }
  pub same : IsSame old now

pub sweeping-starts : (p : Pass) → IsSweeping 0 p p
sweeping-starts p = record {
  none = λ u low. absurd (omega (arith, low));
  sights = grows-self (view p).sights;
  seen = grows-self (view p).seen;
  view_is = refl;
  same = record { table = refl; id = refl; splits = refl; number = refl; held_is = refl };
}

-- what was found stays found
saw-on : (u : ℕ) (old now new : View) → SawOther u old now → Grows now.seen new.seen → SawOther u old new
saw-on u old now new saw grows = record {
  steps = grows.0 ++ saw.steps;
  found = saw.found;
  since = grows.1 ∙ ap (λ l. grows.0 ++ l) saw.since ∙ sym (append_assoc grows.0 saw.steps old.seen);
  saw = behind grows.0 saw.steps saw.saw;
  other = saw.other;
}
  where
    behind : (front back : List (Addr × ℕ)) → Has (state u, packed_state saw.found) back → Has (state u, packed_state saw.found) (front ++ back)
    behind [] back has = has
    behind (x ∷ front) back has = let t = behind front back has in (suc t.0, t.1)

-- one record more was seen
sees-more : (n : ℕ) (now new : Pass) (word : StateWord) → SeesState n now word new → Grows (view now).seen (view new).seen
sees-more n now new word sees = ((state n, packed_state word) ∷ [], ap (λ (v : View). v.seen) sees)

-- what was kept of the records that were seen
pub sweep-sights : (n : ℕ) (old now new : Pass) (word : StateWord) → IsSweeping n old now → SeesState n now word new → Grows (view old).sights (view new).sights
sweep-sights n old now new word so sees = grows-on (view old).sights (view now).sights (view new).sights so.sights (state-sights n now new word sees)

pub sweeping-on : (n : ℕ) (old now new : Pass) (word : StateWord) → IsSweeping n old now → IsSame now new → SeesState n now word new → word.phase ≢ Ready → IsSweeping (n + 1) old new
sweeping-on n old now new word so same sees other = record {
  none = λ u low. by u low (cases_eq u n);
  sights = sweep-sights n old now new word so sees;
  seen = grows-on (view old).seen (view now).seen (view new).seen so.seen (sees-more n now new word sees);
  view_is = sees ∙ (λ k. record (so.view_is k) { sights = (sym sees k).sights; seen = (sym sees k).seen });
  same = record {
    table = same.table ∙ so.same.table;
    id = same.id ∙ so.same.id;
    splits = same.splits ∙ so.same.splits;
    number = same.number ∙ so.same.number;
    held_is = same.held_is ∙ so.same.held_is;
  };
}
  where
    by : (u : ℕ) → u < n + 1 → (u ≡ n) ⊎ (u ≢ n) → SawOther u (view old) (view new)
    by u low (inl e) = subst (λ (w : ℕ). SawOther w (view old) (view new)) (sym e) (record {
      steps = (state n, packed_state word) ∷ so.seen.0;
      found = word;
      since = ap (λ (v : View). v.seen) sees ∙ ap (λ l. (state n, packed_state word) ∷ l) so.seen.1;
      saw = (0, refl);
      other = other;
    })
    by u low (inr ne) = saw-on u (view old) (view now) (view new) (so.none u (omega (arith, low, ne))) (sees-more n now new word sees)

-- the record was seen ready just now
pub saw-ready : (n : ℕ) (old now new : Pass) (last : View) (word : StateWord) (entry : Entry) → IsSweeping n old now → SeesState n now word new → word.phase ≡ Ready → FitsStateWord word → entry ≡ entry_of n word → Grows (view new).seen last.seen → SawReady entry (view old) last
saw-ready n old now new last word entry so sees ready fits is grows = subst (λ (e : Entry). SawReady e (view old) last) (sym is) (
  grows.0 ++ (state n, packed_state word) ∷ so.seen.0,
  word,
  grows.1 ∙ ap (λ l. grows.0 ++ l) (ap (λ (v : View). v.seen) sees ∙ ap (λ l. (state n, packed_state word) ∷ l) so.seen.1) ∙ sym (append_assoc grows.0 ((state n, packed_state word) ∷ so.seen.0) (view old).seen),
  behind-it grows.0 so.seen.0,
  ready,
  fits,
  refl,
)
  where
    behind-it : (front back : List (Addr × ℕ)) → Has (state n, packed_state word) (front ++ (state n, packed_state word) ∷ back)
    behind-it [] back = (0, refl)
    behind-it (x ∷ front) back = let t = behind-it front back in (suc t.0, t.1)

-- the views of a sweep, up to its last look
pub sweep-view : (n : ℕ) (old now new : Pass) (word : StateWord) → IsSweeping n old now → SeesState n now word new → view new ≡ record (view old) { sights = (view new).sights; seen = (view new).seen }
sweep-view n old now new word so sees = sees ∙ (λ k. record (so.view_is k) { sights = (sym sees k).sights; seen = (sym sees k).seen })

pub sweep-grows : (n : ℕ) (old now new : Pass) (word : StateWord) → IsSweeping n old now → SeesState n now word new → Grows (view old).seen (view new).seen
sweep-grows n old now new word so sees = grows-on (view old).seen (view now).seen (view new).seen so.seen (sees-more n now new word sees)
