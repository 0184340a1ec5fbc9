-- How many lines are left to a frame.
use Rattle.std.proofs.Common.{◌≡◌, ℕ, ◌<◌, ◌≤◌, length, refl, ◌∙◌, ap, subst, arith}
use Rattle.std.proofs.lemmas.Option.{slice_get_within}
use Rattle.task_syntax.specs.Form.{IsWellFormed}
use Rattle.task_syntax.specs.declared.program.Program.{Program}
use Rattle.task_syntax.specs.declared.columns.Columns.{Columns}
use Rattle.task_meaning.specs.Frame.{FrameOf, code_at, set_number}
use Rattle.task_meaning.specs.Acts.{Steps}
use Rattle.task_meaning.proofs.Ahead.{jumps_ahead, StepsAhead, act-ahead}
use Rattle.frame_code.specs.Words.{BodyOf, OfKind, OfMembers}
use Rattle.frame_code.specs.Stops.{GoesTo, BodyAdvances}
use Rattle.frame_code.specs.Moves.{BodyIsGiven}
use Rattle.frame_code.specs.declared.act.Act.{Act as FrameAct}
use Rattle.plain_state.specs.Laws.{lines_left, LinesGo}

-- a frame of the same state, not further back
record IsAhead (q next : FrameOf ℕ) : Type 0 where
  kind : next.kind ≡ q.kind
  state : next.state ≡ q.state
  at : q.at ≤ next.at

-- a frame that is ahead has no more lines left
ahead_left : (p : Program) (q next : FrameOf ℕ) → IsAhead q next → lines_left p (OfKind next) ≤ lines_left p (OfKind q)
ahead_left p q next h =
    let same : length (code_at p next.kind next.state) ≡ length (code_at p q.kind q.state) = ap (λ k. length (code_at p k next.state)) h.kind
    ∙ ap (λ s. length (code_at p q.kind s)) h.state in
    omega (arith, same, h.at)

-- a frame goes on ahead, line by line
goes_ahead : (p : Program) (c : Columns) (q last : FrameOf ℕ) → IsWellFormed p → GoesTo p c q last → IsAhead q last
goes_ahead p c q _ formed GoesTo.stays = record { kind = refl; state = refl; at = omega arith }
goes_ahead p c q last formed (GoesTo.passes {at} goes (line, there, (stops, acts))) =
    let before = goes_ahead p c q at formed goes in
    let steps : StepsAhead at (Steps last) = subst (StepsAhead at) acts (act-ahead c line.instr at
    (jumps_ahead p formed at.kind at.state at.at line there)) in
    record { kind = steps.0 ∙ before.kind; state = steps.1 ∙ before.state; at = omega (arith, steps.2, before.at) }

-- a body that goes on has no more lines left
advance_left : (p : Program) (c : Columns) (body next : BodyOf ℕ) (asked : FrameAct) → IsWellFormed p → BodyAdvances p c body asked next
    → lines_left p next ≤ lines_left p body
advance_left p c (OfKind q) (OfKind last) asked formed advances = ahead_left p q last (goes_ahead p c q last formed advances.0)
advance_left p c (OfMembers members next) (OfMembers same at) asked formed advances = omega arith
advance_left p c (OfKind q) (OfMembers same at) asked formed advances = absurd advances
advance_left p c (OfMembers members next) (OfKind q) asked formed advances = absurd advances

-- a body that was given a number has fewer
given_left : (p : Program) (body next : BodyOf ℕ) (n : ℕ) → BodyIsGiven p body n next → lines_left p next < lines_left p body
given_left p (OfKind q) (OfKind last) n (line, there, (to, x, is, same)) =
    let left : lines_left p (OfKind last) ≡ lines_left p (OfKind (set_number q to n)) = ap (λ f. lines_left p (OfKind f)) same in
    omega (arith, left, slice_get_within (code_at p q.kind q.state) q.at line there)
given_left p (OfKind q) (OfMembers same at) n given = absurd given
given_left p (OfMembers members next) (OfKind q) n given = absurd given
given_left p (OfMembers members next) (OfMembers same at) n given = absurd given

-- the law
pub lines_go : LinesGo
lines_go = record {
  advance = advance_left;
  passes = λ p c q asked x future stops. omega (arith, slice_get_within (code_at p q.kind q.state) q.at stops.0 stops.1);
  given = given_left;
}
