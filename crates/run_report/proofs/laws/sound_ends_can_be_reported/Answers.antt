use Rattle.run_report.proofs.SoundEnds.{sound_ends_can_be_reported}
use Rattle.run_report.proofs.laws.sound_ends_can_be_reported.Goals as goal

pub returns : goal.returns
returns c = record { law = sound_ends_can_be_reported }
