-- What is known of the future variables at a place, and what an instruction makes of it.
use Rattle.std.specs.Prelude.{ℕ, Bool, false, not, cond, nat_eq, List, [], ◌∷◌, filter}
use Rattle.std.specs.List.{list_any}
use Rattle.task_syntax.specs.declared.instr.Instr.{Instr}
use Rattle.task_syntax.specs.declared.instr.Instr.TheVariants.{Spawn, All, Copy, Drop}
use Rattle.task_syntax.specs.declared.program.State.{State}

-- the held variables, the settled ones among them, and for some held variables the list of their members
pub record Facts : Type 0 where
  pub held : List ℕ
  pub settled : List ℕ
  pub members : List (ℕ × List ℕ)

-- x is in the list
abbrev pub has : ℕ → List ℕ → Bool
has x xs = list_any (nat_eq x) xs

-- the list without x
abbrev pub without : ℕ → List ℕ → List ℕ
without x xs = filter (λ y. not (nat_eq x y)) xs

-- the members that are listed for x
abbrev pub members_of : ℕ → List (ℕ × List ℕ) → List ℕ
members_of x [] = []
members_of x ((y, ys) ∷ more) = cond (nat_eq x y) ys (members_of x more)

-- x has no members and stands in no member list
abbrev pub forget : ℕ → List (ℕ × List ℕ) → List (ℕ × List ℕ)
forget x [] = []
forget x ((y, ys) ∷ more) = cond (nat_eq x y) (forget x more) ((y, without x ys) ∷ forget x more)

-- x is held and names something new: it is settled or not, and has the members that are given
abbrev pub renewed : ℕ → Bool → List ℕ → Facts → Facts
renewed x is_settled listed f = record {
  held = x ∷ without x f.held;
  settled = cond is_settled (x ∷ without x f.settled) (without x f.settled);
  members = (x, without x listed) ∷ forget x f.members;
}

-- x is not held
abbrev pub given_up : ℕ → Facts → Facts
given_up x f = record { held = without x f.held; settled = without x f.settled; members = forget x f.members }

-- the facts behind an instruction
abbrev pub after : Instr → Facts → Facts
after (Spawn to kind arguments behind priority retry) f = renewed to false [] f
after (All to members priority retry) f = renewed to false members f
after (Copy to source) f = cond (nat_eq to source) f (renewed to (has source f.settled) (members_of source f.members) f)
after (Drop future) f = given_up future f
after _ f = f

-- the facts at the start of a state, and where nothing is held
abbrev pub at_start : State → Facts
at_start state = record { held = state.holds; settled = state.settled; members = [] }

abbrev pub nothing_held : Facts
nothing_held = record { held = []; settled = []; members = [] }
