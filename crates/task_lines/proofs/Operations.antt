-- The lines of the five operations differ in their words alone.
use Rattle.task_lines.proofs.Vocabulary.{Result, MathOp, Fault, Scan, Scans, What, Scope, operation_line, operation_keyword, keyword_line}

pub operation_scans : (scope : Scope) (operation : MathOp) (s new : Scan) (result : Result What Fault) → Scans (operation_line scope operation s) result new
    → Scans (keyword_line scope (operation_keyword operation) s) result new
unfolding operation_line keyword_line
operation_scans scope MathOp.Add s new result h = h
operation_scans scope _ s new result h = h
