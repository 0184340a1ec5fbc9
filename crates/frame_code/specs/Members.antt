-- What an aggregate asks for, and what is left of it. It begins behind its first member, and each later activation is behind
-- the next one; once it was behind the last, it is done with 0.
use Rattle.std.specs.Prelude.{◌≡◌, ℕ, suc, Option, Some, None, List, [], ◌∷◌, drop, slice_get}
use Rattle.task_syntax.specs.declared.value.Value.{Value}
use Rattle.task_syntax.specs.declared.value.Value.TheVariants.{Number}
use Rattle.task_syntax.specs.declared.value.Priority.TheVariants.{Regular}
use Rattle.task_meaning.specs.Meant.{Meant, counted, nothing, gives, adding, with_value, future_at}
use Rattle.task_meaning.specs.Meaning.{aggregate_of}
use Rattle.frame_code.specs.declared.act.Act.{Act}
use Rattle.frame_code.specs.declared.act.Act.TheVariants as act

-- it respawns behind its next member, or is done
abbrev pub member_act : Option ℕ → ℕ → Act
member_act None next = act.Done 0
member_act (Some member) next = act.Again (record { target = 0; behind = Some next; priority = Regular })

-- what is left where these members are still to come: an activation behind each, and then the number 0
abbrev pub members_mean : (ℕ → Option Value) → List ℕ → Meant
members_mean meant [] = gives (Number 0)
members_mean meant (member ∷ more) = with_value (meant member) (λ v. adding (counted 0 1) (members_mean meant more))

abbrev pub behind_member : (ℕ → Option Value) → Option ℕ → Meant → Meant
behind_member meant None m = nothing
behind_member meant (Some member) m = with_value (meant member) (λ v. m)

-- what follows the act of an aggregate: an activation behind the member that it names, and the members past that one; or a number
abbrev pub member_follows : (ℕ → Option Value) → List ℕ → Act → Meant
member_follows meant members (act.Again request) = elim request.behind [
  | None ↦ nothing
  | Some next ↦ behind_member meant (slice_get members next) (adding (counted 0 1) (members_mean meant (drop (suc next) members)))
]
member_follows meant members (act.Done n) = gives (Number n)
member_follows meant members _ = nothing

-- the meaning of an aggregate is that of its activations in turn
abbrev pub AggregatesAreInTurn : Type 0
AggregatesAreInTurn = (futures : List (Option Value)) (member : ℕ) (more : List ℕ) → aggregate_of (member ∷ more) futures
    ≡ with_value (future_at futures member) (λ v. adding (counted 1 1) (members_mean (future_at futures) more))
