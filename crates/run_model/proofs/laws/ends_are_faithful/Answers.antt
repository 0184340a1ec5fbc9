use Rattle.run_model.proofs.EndLaws.{ends_hide_no_cut, ends_are_as_asked, ends_skip}
use Rattle.run_model.proofs.FaithfulEnds.{ends_faithful}
use Rattle.run_model.proofs.RootsFirst.{ends_ask_first}
use Rattle.run_model.proofs.laws.ends_are_faithful.Goals as goal

pub returns-clause-faithful : goal.returns-clause-faithful
returns-clause-faithful c = ends_faithful

pub returns-clause-skipped : goal.returns-clause-skipped
returns-clause-skipped c = ends_skip

pub returns-clause-cuts : goal.returns-clause-cuts
returns-clause-cuts c = ends_hide_no_cut

pub returns-clause-asked : goal.returns-clause-asked
returns-clause-asked c = ends_are_as_asked

pub returns-clause-first : goal.returns-clause-first
returns-clause-first c = ends_ask_first
