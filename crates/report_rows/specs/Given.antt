-- What an end that is given by its rows answers.
use Rattle.std.specs.Prelude.{[]}
use Rattle.record_core.specs.EndSeen.{EndSeen}
use Rattle.report_rows.specs.declared.given_end.GivenEnd.{GivenEnd}

-- its rows, and no root's own task
abbrev pub seen_of : GivenEnd → EndSeen
seen_of end = record {
  superblocks = end.geometry.superblocks;
  units = end.geometry.units;
  roots = end.roots.now;
  own = [];
  rows = end.activations.now;
  tasks = end.tasks.now;
  nulls = end.nulls;
  held = end.held;
  evidence_class = end.evidence_class;
  evidence = end.evidence.now;
}
