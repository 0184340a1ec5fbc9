-- What the checker knows at a place, and what becomes of it behind an instruction.
use Rattle.std.specs.Prelude.{◌≡◌, ℕ, ◌<◌, ◌/◌, ◌%◌, Bool, false, not, ◌&&◌, ◌||◌, cond, nat_eq, Option, Some, None, List, [], slice_index, slice_index_or, IfSome, IsTrue}
use Rattle.std.specs.Int.{bit_at}
use Rattle.task_syntax.specs.Places.{Each}
use Rattle.task_syntax.specs.Facts.{Facts, has, members_of}
use Rattle.task_syntax.specs.declared.instr.Instr.{Instr}
use Rattle.task_syntax.specs.declared.instr.Instr.TheVariants.{Spawn, All, Copy, Drop, Again, Get}
use Rattle.task_check.specs.declared.set.VariableSet.{VariableSet}
use Rattle.task_check.specs.declared.known.Known.{Known}

-- the set has a position
abbrev pub in_set : ℕ → VariableSet → Bool
in_set x set = nat_eq (bit_at (slice_index set.words (x / 64)) (x % 64)) 1

-- what may be asked of a place: is x held, is x settled, is x among the members of g
pub data Question : Type 0 where
  held : ℕ → Question
  settled : ℕ → Question
  member : ℕ → ℕ → Question

-- the question is about the first n variables
abbrev pub IsAbout : ℕ → Question → Type 0
IsAbout n (held x) = x < n
IsAbout n (settled x) = x < n
IsAbout n (member g x) = (g < n) × (x < n)

-- the answer of the facts of a way
abbrev pub says : Question → Facts → Bool
says (held x) f = has x f.held
says (settled x) f = has x f.settled
says (member g x) f = has x (members_of g f.members)

-- the answer of the checker
abbrev pub knows : Question → Known → Bool
knows (held x) k = in_set x k.held
knows (settled x) k = in_set x k.settled
knows (member g x) k = in_set x (slice_index_or k.members.items g (record { words = [] }))

-- the checker answers so, of the first n variables
abbrev pub AnswersBy : ℕ → (Question → Bool) → Known → Type 0
AnswersBy n answer k = (q : Question) → IsAbout n q → knows q k ≡ answer q

-- x is in the set
abbrev pub IsIn : VariableSet → ℕ → Type 0
IsIn set x = IsTrue (in_set x set)

-- x is in list g of these, where there is one
abbrev pub is_listed : List VariableSet → ℕ → ℕ → Bool
is_listed lists g x = in_set x (slice_index_or lists g (record { words = [] }))

-- the answer behind an instruction that makes x name something new: it is settled or not, and has members
abbrev pub renewed_answer : ℕ → Bool → (ℕ → Bool) → (Question → Bool) → Question → Bool
renewed_answer x is_settled listed answer (held y) = nat_eq y x || answer (held y)
renewed_answer x is_settled listed answer (settled y) = cond (nat_eq y x) is_settled (answer (settled y))
renewed_answer x is_settled listed answer (member g y) = not (nat_eq x y) && cond (nat_eq g x) (listed y) (answer (member g y))

-- the answer behind an instruction that gives x up
abbrev pub given_up_answer : ℕ → (Question → Bool) → Question → Bool
given_up_answer x answer (held y) = not (nat_eq x y) && answer (held y)
given_up_answer x answer (settled y) = not (nat_eq x y) && answer (settled y)
given_up_answer x answer (member g y) = not (nat_eq x y) && cond (nat_eq g x) false (answer (member g y))

-- the answer behind an instruction that makes x name what y names
abbrev pub copied_answer : ℕ → ℕ → (Question → Bool) → Question → Bool
copied_answer x y answer q = cond (nat_eq x y) (answer q) (renewed_answer x (answer (settled y)) (λ z. answer (member y z)) answer q)

-- the answer behind an instruction, by the answers before it
abbrev pub answer_after : Instr → (Question → Bool) → Question → Bool
answer_after (Spawn to callee arguments behind priority retry) answer q = renewed_answer to false (λ y. false) answer q
answer_after (All to members priority retry) answer q = renewed_answer to false (λ y. has y members) answer q
answer_after (Copy to source) answer q = copied_answer to source answer q
answer_after (Drop future) answer q = given_up_answer future answer q
answer_after _ answer q = answer q

-- x will be settled behind a predecessor
abbrev pub will_settle : (Question → Bool) → Option ℕ → ℕ → Bool
will_settle answer None x = answer (settled x)
will_settle answer (Some g) x = nat_eq x g || (answer (settled x) || answer (member g x))

-- the same by what the checker knows
abbrev pub WillBeSettled : Known → Option ℕ → ℕ → Type 0
WillBeSettled k behind x = IsTrue (will_settle (λ q. knows q k) behind x)

-- the future variables that an instruction names are among the first n
abbrev pub IsWithin : ℕ → Instr → Type 0
IsWithin n (Spawn to callee arguments behind priority retry) = (to < n) × IfSome behind (λ g. g < n)
IsWithin n (All to members priority retry) = (to < n) × Each members (λ x. x < n)
IsWithin n (Copy to source) = (to < n) × (source < n)
IsWithin n (Drop future) = future < n
IsWithin n (Get to future) = future < n
IsWithin n (Again target behind priority) = IfSome behind (λ g. g < n)
IsWithin n _ = Unit {0}
