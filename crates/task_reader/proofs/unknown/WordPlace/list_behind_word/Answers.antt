use Rattle.std.proofs.Common.{◌≢◌, [], rules}
use Rattle.task_reader.proofs.KnownLemmas.{list-behind}
use Rattle.task_reader.proofs.unknown.WordPlace.list_behind_word.Goals as goal

pub returns-clause-found : goal.returns-clause-found
returns-clause-found c = λ k e.
    let some : c.args.names.now ≢ [] = search rules in
    list-behind k c.args.self.now c.pass.new.self c.args.names.now c.futures_known.result some c.pass.ensures (c.futures_known.ensures.found k e)
