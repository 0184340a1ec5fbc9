-- The rule of a queue: all that was pushed, in order, is all that was taken, in order, and then what the queue holds.
use Rattle.std.specs.Prelude.{◌≡◌, ℕ, ◌≤◌, true, false, List, [], ◌∷◌, ◌++◌, length, map, nat_eq, if◌then◌else◌}
use mathlib.Core.Option.{some}
use lib.ListN.{get_elem?}
use Rattle.ready_queues.specs.declared.entry.Item.{Item}
use Rattle.ready_queues.specs.declared.account.Hand.{Hand}

-- Who moved which item: the number of a pass, and the item that it pushed or took.
abbrev pub Move : Type 0
Move = ℕ × Item

abbrev pub items_of : List Move → List Item
items_of moves = map (λ (m : Move). m.1) moves

-- the items that one pass moved, in order
abbrev pub moved_by : ℕ → List Move → List Item
moved_by pass [] = []
moved_by pass (m ∷ moves) = if nat_eq m.0 pass then m.1 ∷ moved_by pass moves else moved_by pass moves

-- The pass with this number knows what it pushed and what it took. Where it is alone it is the only one of so many.
pub record Knows (count : ℕ) (pushes takes : List Move) (pass : ℕ) (hand : Hand) : Type 0 where
  pub pushed : hand.pushed ≡ moved_by pass pushes
  pub took : hand.took ≡ moved_by pass takes
  pub sole : hand.alone ≡ true → count ≡ 1

-- These are all pushes and all takes of a queue, each in the order in which they were made. Nothing is lost, nothing comes
-- twice and nothing overtakes: the items pushed are the items taken and then the items held. Each pass knows its own moves,
-- and each move is that of a pass.
pub record Accounts (items : List Item) (hands : List Hand) (pushes takes : List Move) : Type 0 where
  pub balance : items_of pushes ≡ items_of takes ++ items
  pub known : (pass : ℕ) (hand : Hand) → get_elem? hands pass ≡ some hand → Knows (length hands) pushes takes pass hand
  pub no_others : (pass : ℕ) → length hands ≤ pass → (moved_by pass pushes ≡ []) × (moved_by pass takes ≡ [])

-- the rule
abbrev pub Kept : List Item → List Hand → Type 0
Kept items hands = (pushes : List Move) × (takes : List Move) × Accounts items hands pushes takes

abbrev pub first_hand : Hand
first_hand = record { alone = true; pushed = []; took = []; held = [] }

-- the hand of a pass that is made of another
abbrev pub new_hand : Hand
new_hand = record { alone = false; pushed = []; took = []; held = [] }

-- what is left of a hand whose pass is split
abbrev pub parted : Hand → Hand
parted v = record v { alone = false }

-- the rule allows that the queue holds these items while a pass has this hand
abbrev pub Agrees : Hand → List Item → Type 0
Agrees v items = (hands : List Hand) × (pass : ℕ) × Kept items hands × (get_elem? hands pass ≡ some v)

-- the hand after a push to a queue that held these items
abbrev pub with_push : Hand → Item → List Item → Hand
with_push v x items = record v { pushed = v.pushed ++ x ∷ []; held = items }

-- the hand after a take from a queue that held these items
abbrev pub with_take : Hand → Item → List Item → Hand
with_take v x items = record v { took = v.took ++ x ∷ []; held = items }

-- the item came to the back of the queue: the pass pushed one more, and what is held since agrees with the rule
abbrev pub Pushes : Hand → Item → Hand → Type 0
Pushes v x w = (items : List Item) × (w ≡ with_push v x items) × Agrees w (items ++ x ∷ [])

-- the item left the front of the queue: the pass took one more, and what is held since agrees with the rule
abbrev pub Takes : Hand → Item → Hand → Type 0
Takes v x w = (rest : List Item) × (w ≡ with_take v x (x ∷ rest)) × Agrees w rest
