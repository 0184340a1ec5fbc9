use Rattle.step_table.proofs.shared.Shared.release_block.Goals as goal

pub returns-clause-sound : goal.returns-clause-sound
returns-clause-sound c = record { before = c.clear-debt.ensures.sound.before; after = c.settle.ensures.sound.after }
