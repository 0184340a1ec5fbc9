use Rattle.plain_records.proofs.store.Records.complete.Given as goal

abbrev pub ghost-wake : goal.ghost-wake
ghost-wake g a = g.waiters
