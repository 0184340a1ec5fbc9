-- The frame past an act by which its task asked for another one.
use Rattle.std.proofs.Common.{◌≡◌, ◌∙◌, ℕ, suc, Some, List, refl, sym, ap, subst}
use Rattle.task_syntax.specs.Form.{IsWellFormed}
use Rattle.task_syntax.specs.declared.program.Sort.TheVariants.{Future}
use Rattle.task_syntax.specs.declared.program.Program.{Program}
use Rattle.frame_code.specs.Frames.{IsFrame}
use Rattle.frame_code.specs.Moves.{MayPass, passed_on}
use Rattle.frame_code.specs.Setting.{BodyHasSort, HasSort, with_future}
use Rattle.frame_code.specs.Words.{BodyOf, OfKind, OfMembers, body_of}
use Rattle.frame_code.proofs.PassedFrames.{passes-past, of-past, passed-clauses}
use Rattle.frame_code.proofs.SetFrames.{sort-of, future-set}
use Rattle.schedule_core.specs.PastFrames.{next_words, past_words}

-- a frame keeps its variables at another line
sort-on : (p : Program) (x : ℕ) (b : BodyOf ℕ) → BodyHasSort p Future x b → BodyHasSort p Future x (passed_on b)
sort-on p x (OfKind q) is = is
sort-on p x (OfMembers units next) is = is

-- the words are a frame, at the next line, and its variable for the new task names the unit
pub past-frame : (p : Program) (words : List ℕ) (to unit : ℕ) → IsWellFormed p → IsFrame p words → MayPass p (body_of p words) → HasSort p Future to words
    → IsFrame p (past_words p words to unit) × (body_of p (past_words p words to unit) ≡ with_future to (Some unit) (passed_on (body_of p words)))
past-frame p words to unit formed frame may sort =
    let past = passes-past p words may in
    let clauses = passed-clauses p words past.0 formed past.1 (of-past p words past.0 past.1) (next_words words) frame refl in
    let there : HasSort p Future to (next_words words) = subst (BodyHasSort p Future to) (sym clauses.1) (sort-on p to (body_of p words) sort) in
    let s = sort-of p (next_words words) Future to there in
    let set = future-set p (next_words words) clauses.0 s.0 to (suc unit) s.1 in
    (set.0, set.1 ∙ ap (with_future to (Some unit)) clauses.1)
