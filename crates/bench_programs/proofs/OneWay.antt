-- States where all ways to a place bring the same facts, and a test for them.
use Rattle.std.proofs.Common.{◌≡◌, ℕ, ◌+◌, Bool, true, false, ◌&&◌, nat_eq, Option, Some, None, option_map, List, [], ◌∷◌, slice_get, refl, sym, ◌∙◌, ap, subst, cond, eqb-true}
use Rattle.std.specs.List.{list_any}
use Rattle.std.specs.Cmp.Lexicographic.{same_text}
use Rattle.task_syntax.specs.Names.{same_bytes}
use Rattle.task_syntax.specs.Places.{EachAt, instr_at}
use Rattle.task_syntax.specs.Form.{Leaves, IsLabel}
use Rattle.task_syntax.specs.Facts.{Facts, after, at_start, nothing_held}
use Rattle.task_syntax.specs.Valid.{Way, starts, unreached, goes_on, jumps, JumpsTo}
use Rattle.task_syntax.specs.declared.instr.Instr.{Instr}
use Rattle.task_syntax.specs.declared.instr.Instr.TheVariants.{If, Goto, Label, Again, Done}
use Rattle.task_syntax.specs.declared.instr.Line.{Line}
use Rattle.task_syntax.specs.declared.program.State.{State}
use Rattle.task_syntax.proofs.Bools.{both}
use Rattle.bench_programs.proofs.ListTests.{all_from, each-at-from, any-at}

-- ---- facts that are the same

abbrev same_members : List (ℕ × List ℕ) → List (ℕ × List ℕ) → Bool
same_members [] [] = true
same_members ((g, xs) ∷ more) ((h, ys) ∷ others) = nat_eq g h && (same_bytes xs ys && same_members more others)
same_members _ _ = false

-- lists of members that pass are the same
members-same : (some others : List (ℕ × List ℕ)) → same_members some others ≡ true → some ≡ others
members-same [] [] h = refl
members-same ((g, xs) ∷ more) ((f, ys) ∷ others) h =
    let a : (nat_eq g f ≡ true) × ((same_bytes xs ys && same_members more others) ≡ true) = both _ _ h in
    let b : (same_bytes xs ys ≡ true) × (same_members more others ≡ true) = both _ _ a.1 in
    let first : g ≡ f = eqb-true g f a.0 in
    let listed : xs ≡ ys = same_text xs ys (sym b.0) in
    let rest : more ≡ others = members-same more others b.1 in
    cc
members-same [] (y ∷ ys) h = cc
members-same (x ∷ xs) [] h = cc

abbrev same_facts : Facts → Facts → Bool
same_facts f g = same_bytes f.held g.held && (same_bytes f.settled g.settled && same_members f.members g.members)

-- facts with the same parts are the same
same-parts : (a b c d : List ℕ) (l m : List (ℕ × List ℕ)) → a ≡ b → c ≡ d → l ≡ m
    → ◌≡◌ {A = Facts} (record { held = a; settled = c; members = l }) (record { held = b; settled = d; members = m })
same-parts a b c d l m e f g = cc

-- facts that pass are the same
facts-same : (f g : Facts) → same_facts f g ≡ true → f ≡ g
facts-same f g h = let a : (same_bytes f.held g.held ≡ true) × ((same_bytes f.settled g.settled && same_members f.members g.members) ≡ true) = both _ _ h in
    let b : (same_bytes f.settled g.settled ≡ true) × (same_members f.members g.members ≡ true) = both _ _ a.1 in
    same-parts f.held g.held f.settled g.settled f.members g.members
    (same_text f.held g.held (sym a.0)) (same_text f.settled g.settled (sym b.0)) (members-same f.members g.members b.1)

abbrev same_found : Option Facts → Option Facts → Bool
same_found (Some f) (Some g) = same_facts f g
same_found _ _ = false

-- facts that are found and pass are the same
found-same : (some other : Option Facts) → same_found some other ≡ true → some ≡ other
found-same (Some f) (Some g) h = ap Some (facts-same f g h)
found-same (Some f) None h = cc
found-same None (Some g) h = cc
found-same None None h = cc

-- ---- the facts of a state, place by place

-- what the first jump to a place brought
abbrev brought_to : ℕ → List (ℕ × Facts) → Facts
brought_to at [] = nothing_held
brought_to at ((to, f) ∷ more) = cond (nat_eq to at) f (brought_to at more)

-- the facts of lines from the place `at` on, where f stand there, and these jumps came before
abbrev facts_from : ℕ → List (ℕ × Facts) → Facts → List Line → List Facts
facts_from at jumped f [] = []
facts_from at jumped f (line ∷ more) = elim line.instr [
  | If relation left right target ↦ f ∷ facts_from (at + 1) ((target, f) ∷ jumped) f more
  | Again target behind priority ↦ f ∷ facts_from (at + 1) jumped (brought_to (at + 1) jumped) more
  | Done value ↦ f ∷ facts_from (at + 1) jumped (brought_to (at + 1) jumped) more
  | other ↦ f ∷ facts_from (at + 1) jumped (after other f) more
]

abbrev pub facts_of : State → List Facts
facts_of state = facts_from 0 [] (at_start state) state.code

-- ---- that each way brings them

-- the facts behind a line are what it makes of those before it; `goto` is left out
abbrev follows : List Facts → ℕ → Instr → Bool
follows facts at (If relation left right target) =
    same_found (slice_get facts (at + 1)) (slice_get facts at) && same_found (slice_get facts target) (slice_get facts at)
follows facts at (Goto target) = false
follows facts at (Again target behind priority) = true
follows facts at (Done value) = true
follows facts at instr = same_found (slice_get facts (at + 1)) (option_map (after instr) (slice_get facts at))

-- where the facts follow, a line that goes on brings those of the next place
goes-on : (facts : List Facts) (at : ℕ) (instr : Instr) (f : Facts) → follows facts at instr ≡ true → ¬ Leaves instr
    → slice_get facts at ≡ Some f → slice_get facts (at + 1) ≡ Some (after instr f)
goes-on facts at (If relation left right target) f h stays e =
    let a : (same_found (slice_get facts (at + 1)) (slice_get facts at) ≡ true) × (same_found (slice_get facts target) (slice_get facts at) ≡ true) = both _ _ h in
    found-same (slice_get facts (at + 1)) (slice_get facts at) a.0 ∙ e
goes-on facts at (Goto target) f h stays e = cc
goes-on facts at (Again target behind priority) f h stays e = absurd (stays tt)
goes-on facts at (Done value) f h stays e = absurd (stays tt)
goes-on facts at instr f h stays e =
    found-same (slice_get facts (at + 1)) (option_map (after instr) (slice_get facts at)) h ∙ ap (option_map (after instr)) e

-- and a jump those of its target
jumps-on : (facts : List Facts) (at to : ℕ) (instr : Instr) (f : Facts) → follows facts at instr ≡ true → JumpsTo instr to
    → slice_get facts at ≡ Some f → slice_get facts to ≡ Some f
jumps-on facts at to (If relation left right target) f h leads e =
    let a : (same_found (slice_get facts (at + 1)) (slice_get facts at) ≡ true) × (same_found (slice_get facts target) (slice_get facts at) ≡ true) = both _ _ h in
    ap (slice_get facts) (sym leads) ∙ (found-same (slice_get facts target) (slice_get facts at) a.1 ∙ e)
jumps-on facts at to (Goto target) f h leads e = cc
jumps-on facts at to instr f h leads e = absurd leads

-- a jump names the place
abbrev jumps_to : ℕ → Instr → Bool
jumps_to at (If relation left right target) = nat_eq target at
jumps_to at _ = false

-- an instruction that passes jumps there
jumps-to : (at : ℕ) (instr : Instr) → jumps_to at instr ≡ true → JumpsTo instr at
jumps-to at (If relation left right target) h = eqb-true target at h
jumps-to at instr h = cc

-- a jump names the label, if one stands there
abbrev is_reached : State → ℕ → Instr → Bool
is_reached state at (Label name) = list_any (λ (l : Line). jumps_to at l.instr) state.code
is_reached state at _ = true

-- a label that passes is named by a jump
reaches : (state : State) (at : ℕ) (instr : Instr) → is_reached state at instr ≡ true → IsLabel instr
    → (from : ℕ) × (jump : Instr) × (instr_at state from ≡ Some jump) × JumpsTo jump at
reaches state at (Label name) h label = let found = any-at (λ (l : Line). jumps_to at l.instr) state.code h in
    (found.0, found.1.instr, ap (option_map (λ (l : Line). l.instr)) found.2, jumps-to at found.1.instr found.3)
reaches state at instr h label = absurd label

abbrev line_is_one_way : State → ℕ → Line → Bool
line_is_one_way state at line = follows (facts_of state) at line.instr && is_reached state at line.instr

-- on each line the facts follow, and labels are reached
abbrev pub is_one_way : State → Bool
is_one_way state = all_from (line_is_one_way state) 0 state.code && same_found (slice_get (facts_of state) 0) (Some (at_start state))

-- what passes that test at a place
at-place : (state : State) → is_one_way state ≡ true → (at : ℕ) (instr : Instr) → instr_at state at ≡ Some instr
    → (follows (facts_of state) at instr ≡ true) × (is_reached state at instr ≡ true)
at-place state h at instr e = by (slice_get state.code at) refl e where
  lines : EachAt state.code (λ at line. line_is_one_way state at line ≡ true)
  lines = each-at-from (line_is_one_way state) (λ at line. line_is_one_way state at line ≡ true) state.code (λ at line w. w) (both _ _ h).0

  by : (found : Option Line) → slice_get state.code at ≡ found → option_map (λ (l : Line). l.instr) found ≡ Some instr
      → (follows (facts_of state) at instr ≡ true) × (is_reached state at instr ≡ true)
  by (Some line) g s = let same : line.instr ≡ instr = cc in
      subst (λ i. (follows (facts_of state) at i ≡ true) × (is_reached state at i ≡ true)) same (both _ _ (lines at line g))
  by None g s = cc

-- all ways to a place bring the facts that stand there
pub way-brings : (state : State) → is_one_way state ≡ true → (at : ℕ) (f : Facts) → Way state at f → slice_get (facts_of state) at ≡ Some f
way-brings state h at f starts = found-same (slice_get (facts_of state) 0) (Some (at_start state)) (both _ _ h).1
way-brings state h at f (unreached u) = let r = reaches state at u.label (at-place state h at u.label u.stands).1 u.is_label in
    absurd (u.no_jump r.0 r.1 r.2 r.3)
way-brings state h at f (goes_on {at = before} {f = g} instr way stands stays) =
    goes-on (facts_of state) before instr g (at-place state h before instr stands).0 stays (way-brings state h before g way)
way-brings state h at f (jumps {at = from} instr to way stands leads) =
    jumps-on (facts_of state) from to instr f (at-place state h from instr stands).0 leads (way-brings state h from f way)
