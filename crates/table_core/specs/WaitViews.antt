-- What the steps on wait lists do to a view.
use Rattle.std.specs.Prelude.{ℕ, ◌+◌, List, [], ◌∷◌, Bool, true, false, cond, ◌==◌, ◌&&◌, Some, None}
use Rattle.kt_words.specs.Capacity.{block_units}
use Rattle.record_core.specs.Counting.{dropped}
use Rattle.table_core.specs.Holdings.{Waiter, Run, Done, SawHead}
use Rattle.table_core.specs.RecordViews.{forget_words}
use Rattle.table_core.specs.declared.view.View.{View}

-- the head of a record was seen under a reference to it
abbrev pub saw_head : ℕ → ℕ → View → View
saw_head u head v = record v { sights = SawHead u head ∷ v.sights }

abbrev pub is_waiter_at : ℕ → Waiter → Bool
is_waiter_at u x = x.unit == u

-- the next word of the waiter at w was linked to the list of that head
abbrev pub link_in : ℕ → ℕ → List Waiter → List Waiter
link_in w head [] = []
link_in w head (x ∷ xs) = cond (is_waiter_at w x) (record x { linked = Some head } ∷ xs) (x ∷ link_in w head xs)

abbrev pub linked : ℕ → ℕ → View → View
linked w head v = record v { waiting = link_in w head v.waiting }

-- a try to join a list that another step was faster than
abbrev pub tried : View → View
tried v = record v { tries = v.tries + 1 }

-- the waiter at w stands in a list
abbrev pub joined_list : ℕ → View → View
joined_list w v = record v { waiting = dropped (is_waiter_at w) v.waiting; tries = v.tries + 1 }

-- the done record at u has its list closed
abbrev pub close_in : ℕ → List Done → List Done
close_in u [] = []
close_in u (d ∷ ds) = cond (d.unit == u) (record d { closed = true } ∷ ds) (d ∷ close_in u ds)

-- a chain without members is nothing in the hand
abbrev pub with_chain : List ℕ → List (List ℕ) → List (List ℕ)
with_chain [] chains = chains
with_chain (u ∷ us) chains = (u ∷ us) ∷ chains

-- the list of the done record at u is closed, and its members are a chain in the hand
abbrev pub closed_list : ℕ → List ℕ → View → View
closed_list u members v = record v { done = close_in u v.done; chains = with_chain members v.chains }

abbrev pub same_list : List ℕ → List ℕ → Bool
same_list [] [] = true
same_list [] (y ∷ ys) = false
same_list (x ∷ xs) [] = false
same_list (x ∷ xs) (y ∷ ys) = (x == y) && same_list xs ys

-- a waiter that was linked to no head
abbrev pub new_waiter : ℕ → ℕ → Waiter
new_waiter u number = record { unit = u; number = number; linked = None }

-- u, the first of a chain, is a waiter in the hand, under its number
abbrev pub unchained : ℕ → ℕ → List ℕ → View → View
unchained u number rest v = record v {
  chains = with_chain rest (dropped (same_list (u ∷ rest)) v.chains);
  waiting = new_waiter u number ∷ v.waiting;
}

abbrev pub is_run_at : ℕ → Run → Bool
is_run_at u r = r.unit == u

-- a record that is done, its list still open, and counted as living
abbrev pub new_done : ℕ → Done
new_done u = record { unit = u; closed = false; out = false }

-- a running record is done: its frame and its result are its pass's own no more
abbrev pub finished : ℕ → ℕ → View → View
finished u c v = record v {
  runs = dropped (is_run_at u) v.runs;
  known = forget_words u (block_units c) v.known;
  done = new_done u ∷ v.done;
}

-- the waiter at u is ready, and in the hand no more
abbrev pub readied : ℕ → View → View
readied u v = record v { waiting = dropped (is_waiter_at u) v.waiting }
