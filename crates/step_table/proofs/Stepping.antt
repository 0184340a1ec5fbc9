-- A kind of step that keeps the rule may be made on the table.
use Rattle.std.proofs.Common.{◌≡◌, ◌∙◌, ◌⊎◌, inl, inr, ℕ, ◌/◌, ◌<◌, ◌≤◌, true, ap, arith}
use Rattle.std.specs.Prelude.{slice_set}
use Rattle.kt_words.specs.declared.plan.Plan.{Plan}
use Rattle.atomic_table.specs.Table.{Me, Allows}
use Rattle.table_core.specs.Addresses.{Addr, super, bits, is_there, words_of, put}
use Rattle.kt_words.specs.Capacity.{block_units}
use Rattle.kt_words.specs.SuperWords.{FitsSuperWord, packed_super, class_of, count_of}
use Rattle.kt_words.specs.SuperWordLaws.{SuperWordSays}
use Rattle.kt_words.specs.declared.super_word.SuperWord.{SuperWord}
use Rattle.kt_words.proofs.SuperWordFacts.{super_word_says_its_value}
use Rattle.table_core.specs.Pool.{cap, superblock_of, bit_of, IsBlock}
use Rattle.table_core.specs.Steps.{Tells, TellsStored}
use Rattle.table_core.proofs.PoolFacts.{superblock_near, bit_below}
use Rattle.std.proofs.Math.Nat.{div-le_self}
use Rattle.table_core.specs.declared.setup.Setup.{Setup}
use Rattle.table_core.specs.declared.view.View.{View}
use Rattle.table_core.proofs.AddressFacts.{address-in, there_from}
use Rattle.table_core.proofs.ListFacts.{set_here}
use Rattle.schedule_rule.specs.Parts.{Keeps}
use Rattle.schedule_rule.proofs.Rule.{holds_at, allows, stores}
use Rattle.schedule_rule.proofs.SoundFacts.{sound-views}
use Rattle.step_table.specs.Seats.{LiesAt, always}
use Rattle.step_table.specs.Sound.{AreSound}
use Rattle.step_table.specs.Passes.{TakesOne}

-- a step that keeps the rule may be made, and tells what it tells
pub may_step : (g key : Setup) (words slots id word : ℕ) (me : Me (Unit {0}) View) (a : Addr) (f : ℕ → ℕ) (told : ℕ → View → Type 0)
    → key ≡ g → words ≡ words_of g.plan → LiesAt g.plan a word → Keeps g id me.0 a f told
    → (word < words) × Allows (holds_at key) slots id me word f (Tells a told me)
may_step g key words slots id word me a f told keyed sized lies keeps =
    (omega (arith, lies.place, sized, address-in g.plan a lies.there), allows g key slots id word me a f told keyed lies.place lies.there lies.written keeps)

-- and so may a store, which tells the number that it writes
pub may_store : (g key : Setup) (words slots id word new : ℕ) (me : Me (Unit {0}) View) (a : Addr) (told : ℕ → View → Type 0)
    → key ≡ g → words ≡ words_of g.plan → LiesAt g.plan a word → Keeps g id me.0 a (always new) (λ n. told new)
    → (word < words) × Allows (holds_at key) slots id me word (always new) (λ n. TellsStored a told me new)
may_store g key words slots id word new me a told keyed sized lies keeps =
    (omega (arith, lies.place, sized, address-in g.plan a lies.there), stores g key slots id word new me a told keyed lies.place lies.there lies.written keeps)

-- a step that tells one thing tells what follows from it
pub weaker : (g : Setup) (id : ℕ) (v : View) (a : Addr) (f : ℕ → ℕ) (told less : ℕ → View → Type 0) → ((n : ℕ) (w : View) → told n w → less n w) → Keeps g id v a f told → Keeps g id v a f less
weaker g id v a f told less follows keeps m vs s says at small = let step = keeps m vs s says at small in (step.0, step.1, follows (m a) step.0 step.2, step.3)

-- a step that keeps the rule tells besides that the views before and after it are sound
pub tells-sound : (g : Setup) (id : ℕ) (v : View) (a : Addr) (f : ℕ → ℕ) (told : ℕ → View → Type 0) → Keeps g id v a f told → Keeps g id v a f (λ n w. told n w × AreSound g v w)
tells-sound g id v a f told keeps m vs s says at small =
    let step = keeps m vs s says at small in (
      step.0,
      step.1,
      (
        step.2,
        record {
          before = sound-views g m vs id v (s, says) at;
          after = sound-views g (put m a (f (m a))) (slice_set vs id step.0) id step.0 (step.1.0, step.1.2) (set_here vs id v step.0 at);
        },
      ),
      step.3,
    )

-- the words of the pool are there
pub super-there : (g : Plan) (i : ℕ) → i < g.geometry.superblocks → is_there g (super i) ≡ true
super-there g i near = there_from g (super i) near (omega arith)

pub bits-there : (g : Plan) (i b : ℕ) → i < g.geometry.superblocks → b < g.geometry.units → is_there g (bits i (b / 64)) ≡ true
bits-there g i b near below = there_from g (bits i (b / 64)) near (omega (arith, below))

-- a block's bit is one of its superblock's
pub cap-units : (g : Plan) (c : ℕ) → cap g c ≤ g.geometry.units
cap-units g c = div-le_self g.geometry.units (block_units c)

pub block-there : (g : Plan) (u c : ℕ) → IsBlock g u c → is_there g (bits (superblock_of g u) (bit_of g u c / 64)) ≡ true
block-there g u c is = bits-there g (superblock_of g u) (bit_of g u c) (superblock_near g u c is) (omega (arith, bit_below g u c is, cap-units g c))

-- what room in a superblock says of its word
pub takes-one : (g : Plan) (word : SuperWord) (c old : ℕ) → FitsSuperWord word → TakesOne g word c → old ≡ packed_super word
    → ((class_of old ≡ c) ⊎ (count_of old ≡ 0)) × (count_of old < cap g c)
takes-one g word c old fits takes e = (which takes.of_class, omega (arith, count_is, takes.room))
  where
    says : SuperWordSays (packed_super word) word.count word.class word.ever
    says = (super_word_says_its_value word fits).0

    count_is : count_of old ≡ word.count
    count_is = ap count_of e ∙ says.count_is

    which : (word.class ≡ c) ⊎ (word.count ≡ 0) → (class_of old ≡ c) ⊎ (count_of old ≡ 0)
    which (inl same) = inl (ap class_of e ∙ says.class_is ∙ same)
    which (inr none) = inr (count_is ∙ none)

-- a table has words
pub some-words : (g : Plan) (words : ℕ) → words ≡ words_of g → 0 < words
some-words g words sized = omega (arith, sized, g.geometry.superblocks_fit)
