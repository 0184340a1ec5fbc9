use Rattle.run_model.proofs.EndSoundness.{held_by_class, evidence_left}
use Rattle.run_model.proofs.laws.ends_show_the_pool.Goals as goal

pub returns-clause-held : goal.returns-clause-held
returns-clause-held c p columns plan end class formed geometry run fits = held_by_class p columns plan geometry formed end run class fits

pub returns-clause-evidence : goal.returns-clause-evidence
returns-clause-evidence c p columns plan end formed geometry run some = evidence_left p columns plan geometry formed end run some
