-- What the frame of a record that is taken is of, and what the words of its block say.
use Rattle.std.proofs.Common.{◌≡◌, ◌≢◌, ◌∙◌, inl, inr, ℕ, zero, suc, ◌<◌, ◌≤◌, ◌==◌, Bool, true, false, Option, Some, List, [], map, length, sym, ap, true≢false, arith}
use Rattle.std.proofs.lemmas.Bool.{cases_eq, ne_eqb}
use Rattle.std.proofs.lemmas.List.{length-map}
use Rattle.record_core.specs.Counting.{Has, one_if}
use Rattle.record_core.specs.Numbers.{by_number}
use Rattle.record_core.proofs.BelowFacts.{below-bounded}
use Rattle.record_core.proofs.NumberFacts.{number-in_range}
use Rattle.record_core.proofs.TotalFacts.{none_there}
use Rattle.task_syntax.specs.declared.program.Program.{Program}
use Rattle.task_meaning.specs.Worths.{Accepted, OfCall, OfAll, Respawn}
use Rattle.frame_code.specs.Words.{BodyOf, OfKind, OfMembers}
use Rattle.table_core.proofs.ListFacts.{same_some}
use Rattle.schedule_rule.specs.Calls.{AtNumber, task_in, task_of, begun, CallsSound}
use Rattle.schedule_rule.specs.Frames.{IsFrameOf}
use Rattle.schedule_rule.specs.TakingViews.{IsOfCall}
use Rattle.schedule_rule.proofs.StoryFacts.{task-of-number}

-- what has a number is a member
pub number-has : {A : Type 0} (l : List A) (n : ℕ) (x : A) → by_number l n ≡ Some x → Has x l
number-has l zero x e = absurd (none_there x e)
number-has l (suc n) x e = (n, e)

-- the kind of a call
abbrev kind_in : Accepted → ℕ
kind_in (OfCall call after) = call.kind
kind_in (OfAll members) = 0
kind_in (Respawn t after) = 0

-- the members of an aggregate
abbrev members_in : Accepted → List ℕ
members_in (OfCall call after) = []
members_in (OfAll members) = members
members_in (Respawn t after) = []

-- whether an aggregate was accepted
abbrev is_all : Accepted → Bool
is_all (OfCall call after) = false
is_all (OfAll members) = true
is_all (Respawn t after) = false

-- no earlier number is of a task that begins
none-begun : (calls : List Accepted) → CallsSound calls → (n : ℕ) → n ≤ length calls → 1 ≤ n → begun calls n n ≡ 0
none-begun calls sound n low some = omega (arith, below-bounded (λ k. one_if (task_of calls k == n)) 0 n (λ k less. omega (arith, ap one_if (ne_eqb (task_of calls k) n (earlier k less)))))
  where
    earlier : (k : ℕ) → k < n → task_of calls k ≢ n
    earlier k less e = elim (cases_eq k 0) [
      | inl zero_is ↦ omega (arith, some, sym e ∙ ap (task_of calls) zero_is)
      | inr ne ↦ omega (arith, less, e, (task-of-number calls (OfAll []) sound k (omega (arith, ne), omega (arith, less, low))).1)
    ]

-- the frame of a number is one of its call's
pub frame-of_call : (p : Program) (calls : List Accepted) (tasks : ℕ → ℕ) (n : ℕ) (call : Accepted) (body : BodyOf ℕ) → CallsSound calls → AtNumber calls n call → IsFrameOf p calls tasks n body → IsOfCall call body
frame-of_call p calls tasks n (OfCall call after) (OfKind q) sound at is =
    is.0.3 ∙ ap kind_in (same_some (OfCall is.0.0 is.0.1) (OfCall call after) (sym is.0.2 ∙ ap (by_number calls) (ap (λ (o : Option Accepted). task_in o n) at) ∙ at))
frame-of_call p calls tasks n (OfCall call after) (OfMembers units position) sound at is =
    true≢false (ap is_all (same_some (OfAll (map tasks units)) (OfCall call after) (sym is.0 ∙ ap (by_number calls) (ap (λ (o : Option Accepted). task_in o n) at) ∙ at)))
frame-of_call p calls tasks n (OfAll members) (OfKind q) sound at is =
    true≢false (ap is_all (same_some (OfAll members) (OfCall is.0.0 is.0.1) (sym at ∙ ap (by_number calls) (sym (ap (λ (o : Option Accepted). task_in o n) at)) ∙ is.0.2)))
frame-of_call p calls tasks n (OfAll members) (OfMembers units position) sound at is =
    let itself : task_of calls n ≡ n = ap (λ (o : Option Accepted). task_in o n) at in
    let range = number-in_range calls n (OfAll members) at in (
      sym (length-map units tasks) ∙ ap (λ (a : Accepted). length (members_in a)) (same_some (OfAll (map tasks units)) (OfAll members) (sym is.0 ∙ ap (by_number calls) itself ∙ at)),
      omega (arith, is.1, ap (λ (t : ℕ). begun calls t n) itself, none-begun calls sound n range.1 range.0),
    )
frame-of_call p calls tasks n (Respawn t after) body sound at is = tt
