-- The line of a cut root, in the parts in which it is written.
use Rattle.std.proofs.Common.{◌≡◌, ℕ, List, ◌++◌, append_assoc}
use Rattle.std.specs.Prelude.{codes}
use Rattle.task_syntax.specs.declared.program.Program.{Program}
use Rattle.record_core.specs.EndSeen.{EndSeen}
use Rattle.record_core.specs.declared.rows.CutTag.{CutTag}
use Rattle.record_core.specs.declared.rows.CutFrom.{CutFrom}
use Rattle.run_report.specs.Lines.{Word, spaced, line_text}
use Rattle.run_report.specs.Report.{cut_word, cut_words, from_words}

regroup : (first space name tag rest line_end : List ℕ)
    → ((first ++ (space ++ name)) ++ (space ++ tag)) ++ (rest ++ line_end) ≡ (first ++ ((space ++ name) ++ ((space ++ tag) ++ rest))) ++ line_end
regroup first space name tag rest line_end = simp append_assoc

-- the first three words, then the others, then the end
pub cut_in_parts : (p : Program) (e : EndSeen) (name : Word) (tag : CutTag) (from : CutFrom) (start one two text word : List ℕ)
    → start ≡ codes "cause" → one ≡ start ++ (codes " " ++ name) → two ≡ one ++ (codes " " ++ word) → word ≡ cut_word tag → text ≡ two
    → text ++ (spaced (from_words p e from) ++ codes "\n") ≡ line_text (cut_words p e name tag from)
cut_in_parts p e name tag from start one two text word f g h i j =
    rw (j, h, i, g, f) (regroup (codes "cause") (codes " ") name (cut_word tag) (spaced (from_words p e from)) (codes "\n"))
