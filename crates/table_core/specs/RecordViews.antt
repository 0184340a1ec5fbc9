-- What the steps on records and references do to a view.
use Rattle.std.specs.Prelude.{ℕ, List, [], ◌∷◌, ◌++◌, Bool, true, false, cond, ◌==◌, ◌&&◌, nat_le, max, length}
use Rattle.kt_words.specs.StateWords.{phase_of}
use Rattle.kt_words.specs.Capacity.{block_units}
use Rattle.record_core.specs.Counting.{times, dropped}
use Rattle.table_core.specs.Addresses.{Addr}
use Rattle.table_core.specs.Asking.{Asker, OfRoot, OfTask, Answer}
use Rattle.table_core.specs.Holdings.{Block, Made, Done, RootSays, Record, Sight, SawDone, seen_at}
use Rattle.table_core.specs.Own.{is_word_of, is_own}
use Rattle.table_core.specs.Views.{block, is_block}
use Rattle.table_core.specs.declared.view.View.{View}

-- what is known of other words than those of the record at u
abbrev pub forget_words : ℕ → ℕ → List (Addr × ℕ) → List (Addr × ℕ)
forget_words u units [] = []
forget_words u units (x ∷ xs) = cond (is_word_of u units x.0) (forget_words u units xs) (x ∷ forget_words u units xs)

-- a record is made in a block; it has no number yet
abbrev pub new_made : Block → Made
new_made x = record { unit = x.unit; class = x.class; number = 0; live = false }

abbrev pub founded : Block → View → View
founded x v = record v { blocks = dropped (is_block x) v.blocks; made = new_made x ∷ v.made }

abbrev pub is_made_at : ℕ → Made → Bool
is_made_at u r = r.unit == u

-- a record without a number is a block again
abbrev pub unmade : ℕ → ℕ → View → View
unmade u c v = record v { made = dropped (is_made_at u) v.made; known = forget_words u (block_units c) v.known; blocks = block u c true ∷ v.blocks }

-- an own word was written
abbrev pub filled : Addr → ℕ → View → View
filled a n v = record v { known = (a, n) ∷ v.known }

-- a word was read: it is kept where it is the pass's own
abbrev pub learnt : Addr → ℕ → View → View
learnt a n v = record v { known = cond (is_own v.made v.runs a) ((a, n) ∷ v.known) v.known }

-- one reference more
abbrev pub referred : ℕ → View → View
referred u v = record v { futures = u ∷ v.futures }

abbrev pub is_at : ℕ → ℕ → Bool
is_at u w = w == u

-- what was seen of other records
abbrev pub forget : ℕ → List Sight → List Sight
forget u [] = []
forget u (s ∷ ss) = cond (seen_at s == u) (forget u ss) (s ∷ forget u ss)

-- what was seen of a record goes with the last reference to it
abbrev pub left_sights : ℕ → List ℕ → List Sight → List Sight
left_sights u futures sights = cond (times u futures == 0) (forget u sights) sights

-- the record is at its last reference where the word was 1
abbrev pub at_last : ℕ → ℕ → List ℕ → List ℕ
at_last u found retiring = cond (found == 1) (u ∷ retiring) retiring

-- one reference less, where the reference word was `found`
abbrev pub lessened : ℕ → ℕ → View → View
lessened u found v = record v {
  futures = dropped (is_at u) v.futures;
  sights = left_sights u (dropped (is_at u) v.futures) v.sights;
  retiring = at_last u found v.retiring;
}

abbrev pub is_done_at : ℕ → Done → Bool
is_done_at u d = d.unit == u

-- the scheduler's own reference is given up
abbrev pub gave_up : ℕ → ℕ → View → View
gave_up u found v = record v { done = dropped (is_done_at u) v.done; retiring = at_last u found v.retiring }

-- a record at its last reference is a block again, and not a fresh one
abbrev pub retired : ℕ → ℕ → View → View
retired u c v = record v { retiring = dropped (is_at u) v.retiring; blocks = block u c false ∷ v.blocks }

-- the reference of a record goes into the root's word
abbrev pub given_to_root : RootSays → List ℕ → List ℕ
given_to_root (Record u) futures = dropped (is_at u) futures
given_to_root says futures = futures

abbrev pub sights_given : RootSays → List ℕ → List Sight → List Sight
sights_given (Record u) futures sights = left_sights u futures sights
sights_given says futures sights = sights

-- the turn with one root more asked for, and how many those are
abbrev pub turned : RootSays → List (List RootSays) → List (List RootSays)
turned says [] = []
turned says (asked ∷ more) = (asked ++ says ∷ []) ∷ more

abbrev pub asked_by : List (List RootSays) → ℕ
asked_by [] = 0
asked_by (asked ∷ more) = length asked

abbrev pub is_of_root : Asker → Bool
is_of_root (OfRoot root) = true
is_of_root (OfTask task) = false

-- the answers to tasks; those to roots go as the root is named
abbrev pub left_answers : List Answer → List Answer
left_answers [] = []
left_answers (a ∷ more) = cond (is_of_root a.asker) (left_answers more) (a ∷ left_answers more)

-- the next root is asked for
abbrev pub put_root : RootSays → View → View
put_root says v = record v {
  futures = given_to_root says v.futures;
  sights = sights_given says (given_to_root says v.futures) v.sights;
  turn = turned says v.turn;
  asked = max v.asked (asked_by (turned says v.turn));
  root_task = 0;
  answers = left_answers v.answers;
}

-- a state word was seen: of a done record to which the pass has a reference it is kept
abbrev pub saw_state : ℕ → ℕ → View → View
saw_state u word v = record v { sights = cond (nat_le 1 (times u v.futures) && (phase_of word == 5)) (SawDone u word ∷ v.sights) v.sights }
