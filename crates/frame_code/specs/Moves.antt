-- How a frame moves once it got what it asked for, and when it may.
use Rattle.std.specs.Prelude.{◌≡◌, ℕ, ◌+◌, ◌<◌, length}
use Rattle.task_syntax.specs.declared.instr.Instr.{Instr}
use Rattle.task_syntax.specs.declared.instr.Instr.TheVariants.{Spawn, All, Copy, Drop, Get, Again}
use Rattle.task_syntax.specs.declared.program.Program.{Program}
use Rattle.task_meaning.specs.Frame.{go_on, set_number}
use Rattle.frame_code.specs.Words.{BodyOf, OfKind, OfMembers}
use Rattle.frame_code.specs.Stops.{StandsAt}
use Rattle.frame_code.specs.declared.act.Act.{Act}
use Rattle.frame_code.specs.declared.act.Act.TheVariants as act

-- the instruction is a read; a spawn, an aggregate, a copy or a drop; a respawn to this state
abbrev pub IsRead : Instr → Type 0
IsRead (Get to future) = Unit {0}
IsRead _ = ⊥

abbrev pub IsPassed : Instr → Type 0
IsPassed (Spawn to kind arguments waits priority retry) = Unit {0}
IsPassed (All to members priority retry) = Unit {0}
IsPassed (Copy to source) = Unit {0}
IsPassed (Drop future) = Unit {0}
IsPassed _ = ⊥

abbrev pub IsRespawn : ℕ → Instr → Type 0
IsRespawn goal (Again target waits priority) = target ≡ goal
IsRespawn goal _ = ⊥

-- a body may be given a number at a read
abbrev pub MayGive : Program → BodyOf ℕ → Type 0
MayGive p (OfKind q) = StandsAt p (λ line. IsRead line.instr) q
MayGive p (OfMembers members next) = ⊥

-- it may go past a spawn, an aggregate, a copy or a drop
abbrev pub MayPass : Program → BodyOf ℕ → Type 0
MayPass p (OfKind q) = StandsAt p (λ line. IsPassed line.instr) q
MayPass p (OfMembers members next) = ⊥

-- it may enter the state to which it respawns; an aggregate its next activation, while a member is left
abbrev pub MayEnter : Program → ℕ → BodyOf ℕ → Type 0
MayEnter p target (OfKind q) = StandsAt p (λ line. IsRespawn target line.instr) q
MayEnter p target (OfMembers members next) = (target ≡ 0) × (next < length members)

-- the number is set in the variable of the read, and the frame stands at the next line
abbrev pub BodyIsGiven : Program → BodyOf ℕ → ℕ → BodyOf ℕ → Type 0
BodyIsGiven p (OfKind q) n (OfKind last) = StandsAt p (λ line. (to : ℕ) × (x : ℕ) × (line.instr ≡ Get to x) × (last ≡ set_number q to n)) q
BodyIsGiven p _ n _ = ⊥

-- the next line
abbrev pub passed_on : BodyOf ℕ → BodyOf ℕ
passed_on (OfKind q) = OfKind (go_on q)
passed_on (OfMembers members next) = OfMembers members next

-- the first line of the state, the variables as they are; of an aggregate the next member
abbrev pub entered : ℕ → BodyOf ℕ → BodyOf ℕ
entered target (OfKind q) = OfKind (record q { state = target; at = 0 })
entered target (OfMembers members next) = OfMembers members (next + 1)

-- what a body that asks for this may do once it got it
abbrev pub BodyAllows : Program → Act → BodyOf ℕ → Type 0
BodyAllows p (act.Spawn request) body = MayPass p body
BodyAllows p (act.All request) body = MayPass p body
BodyAllows p (act.Copy to source) body = MayPass p body
BodyAllows p (act.Drop future) body = MayPass p body
BodyAllows p (act.NeedsValue future) body = MayGive p body
BodyAllows p (act.Again request) body = MayEnter p request.target body
BodyAllows p _ body = Unit {0}
