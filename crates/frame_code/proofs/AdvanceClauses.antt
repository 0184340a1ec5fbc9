-- From the run of a task to what `advance` promises of the words of its frame.
use Rattle.std.proofs.Common.{◌≡◌, List, ℕ, length, slice_index, sym, ◌∙◌, ap, subst}
use Rattle.std.specs.List.{refill}
use Rattle.task_syntax.specs.Form.{IsWellFormed}
use Rattle.task_syntax.specs.Valid.{IsValid}
use Rattle.task_syntax.specs.declared.program.Program.{Program}
use Rattle.task_syntax.specs.declared.columns.Columns.{Columns}
use Rattle.frame_code.specs.Words.{BodyOf, OfKind, frame_at, body_of}
use Rattle.frame_code.specs.Names.{present, names_of}
use Rattle.frame_code.specs.Moves.{BodyAllows}
use Rattle.frame_code.specs.Meant.{KeepsMeaning, AreHeld}
use Rattle.frame_code.specs.Ways.{BodyKeepsWay}
use Rattle.frame_code.specs.Run.{unpacked, IsRun}
use Rattle.frame_code.specs.declared.act.Act.{Act}
use Rattle.frame_code.specs.declared.words.Control.{Control}
use Rattle.frame_code.proofs.ActMeanings.{advance-meaning}
use Rattle.frame_code.proofs.HeldActs.{acts-held}
use Rattle.frame_code.proofs.FrameWays.{goes-keeps, goes-way}
use Rattle.frame_code.proofs.AllowedMoves.{stop-allows}
use Rattle.frame_code.proofs.Aggregates.{refill-same, body-of_task, is-task}

-- what is promised of a body before and after
pub record IsAdvance (p : Program) (c : Columns) (body : BodyOf ℕ) (asked : Act) (last : BodyOf ℕ) : Type 0 where
  pub meaning : KeepsMeaning p c body asked last
  pub held : AreHeld p asked last
  pub next : BodyAllows p asked last
  pub names : names_of last ≡ names_of body
  pub way : BodyKeepsWay p body last

-- `control` is what the first of these words says, and the run wrote the words whole
pub run-advances : (p : Program) (c : Columns) (old words new : List ℕ) (control : Control) (asked : Act) → IsWellFormed p → IsValid p → words ≡ old
    → length new ≡ length words → control ≡ unpacked (slice_index words 0) → (control.kind ≡ 255 → ⊥) → IsRun p c words asked new
    → IsAdvance p c (body_of p old) asked (body_of p (refill (length old) old new))
run-advances p c old words new control asked formed valid same long says other r =
    let first = frame_at p (slice_index words) in
    let last = frame_at p (slice_index new) in
    let is_old : OfKind first ≡ body_of p old = sym (body-of_task p words (is-task words control says other)) ∙ ap (body_of p) same in
    let is_new : OfKind last ≡ body_of p (refill (length old) old new) = sym (body-of_task p new r.is_task) ∙ ap (body_of p) (sym (refill-same old new (long ∙ ap length same))) in
    subst (λ b. IsAdvance p c b asked (body_of p (refill (length old) old new))) is_old (subst (λ b. IsAdvance p c (OfKind first) asked b) is_new (record {
      meaning = advance-meaning p c first last asked formed r.goes r.stops;
      held = acts-held p c last asked formed valid r.stops;
      next = stop-allows p c last asked r.stops;
      names = ap present (goes-keeps p c first last r.goes).futures;
      way = goes-way p c first last r.goes;
    }))
