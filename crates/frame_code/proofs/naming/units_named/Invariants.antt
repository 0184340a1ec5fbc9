use Rattle.std.proofs.Common.{◌≡◌, ◌≤◌, ◌++◌, drop, length}
use Rattle.frame_code.specs.Words.{body_of}
use Rattle.frame_code.specs.Units.{units_of}
use Rattle.frame_code.proofs.naming.units_named.Given as goal

abbrev pub invariant-variables : goal.invariant-variables
invariant-variables l = record {
  told : l.units ++ units_of (body_of l.checked l.frame.items) (drop l.variable-index l.variables) ≡ units_of (body_of l.checked l.frame.items) l.variables;
  few : length l.units ≤ l.variable-index;
}
