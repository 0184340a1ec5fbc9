-- What the calls promise of the words of a frame, before and after.
use Rattle.std.specs.Prelude.{◌≡◌, ℕ, List}
use Rattle.task_syntax.specs.declared.program.Program.{Program}
use Rattle.task_syntax.specs.declared.columns.Columns.{Columns}
use Rattle.frame_code.specs.Words.{body_of}
use Rattle.frame_code.specs.Names.{names_of}
use Rattle.frame_code.specs.Stops.{BodyAdvances}
use Rattle.frame_code.specs.Moves.{BodyIsGiven, BodyAllows, passed_on, entered}
use Rattle.frame_code.specs.Meant.{KeepsMeaning}
use Rattle.frame_code.specs.Ways.{BodyKeepsWay}
use Rattle.frame_code.specs.declared.act.Act.{Act}

-- the frame went on to the first line where it stops, and asks for this there
abbrev pub Advances : Program → Columns → List ℕ → Act → List ℕ → Type 0
Advances p c old asked new = BodyAdvances p c (body_of p old) asked (body_of p new)

-- what followed from the frame is what it asks for, and what follows that
abbrev pub Means : Program → Columns → List ℕ → Act → List ℕ → Type 0
Means p c old asked new = KeepsMeaning p c (body_of p old) asked (body_of p new)

-- the frame names the same tasks as before
abbrev pub NamesStay : Program → List ℕ → List ℕ → Type 0
NamesStay p old new = names_of (body_of p new) ≡ names_of (body_of p old)

-- where there was a way to its line, there is one again
abbrev pub KeepsWay : Program → List ℕ → List ℕ → Type 0
KeepsWay p old new = BodyKeepsWay p (body_of p old) (body_of p new)

-- what the frame may do once it got what it asks for
abbrev pub Allows : Program → Act → List ℕ → Type 0
Allows p asked words = BodyAllows p asked (body_of p words)

-- the number was set in the variable of the read, and the frame stands at the next line
abbrev pub IsGiven : Program → List ℕ → ℕ → List ℕ → Type 0
IsGiven p old n new = BodyIsGiven p (body_of p old) n (body_of p new)

-- the frame stands at the next line
abbrev pub IsPassedOn : Program → List ℕ → List ℕ → Type 0
IsPassedOn p old new = body_of p new ≡ passed_on (body_of p old)

-- the frame stands at the first line of the state; an aggregate's waits for its next member
abbrev pub IsEntered : Program → ℕ → List ℕ → List ℕ → Type 0
IsEntered p target old new = body_of p new ≡ entered target (body_of p old)
