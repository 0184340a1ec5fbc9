-- How a call tells what a task asks for.
use Rattle.std.specs.Prelude.{false, None, []}
use Rattle.task_syntax.specs.declared.value.Priority.TheVariants.{Regular}
use Rattle.frame_code.specs.declared.act.Act.{Act}
use Rattle.frame_code.specs.declared.act.Act.TheVariants as act
use Rattle.frame_code.specs.declared.act.Asked.{Asked}
use Rattle.frame_code.specs.declared.act.Asked.TheVariants as asked
use Rattle.frame_code.specs.declared.act.Requests.{Requests}

-- What is asked for at a spawn and at an aggregate stands in the requests.
abbrev pub act_told : Asked → Requests → Act
act_told asked.Spawn r = act.Spawn r.spawn
act_told asked.All r = act.All r.all
act_told (asked.Copy to source) r = act.Copy to source
act_told (asked.Drop future) r = act.Drop future
act_told (asked.NeedsValue future) r = act.NeedsValue future
act_told (asked.Again request) r = act.Again request
act_told (asked.Done number) r = act.Done number
act_told (asked.Trap trap) r = act.Trap trap

-- nothing was asked for yet
abbrev pub nothing_asked : Requests
nothing_asked = record {
  spawn = record { to = 0; kind = 0; numbers = []; futures = []; behind = None; priority = Regular; retry = false };
  all = record { to = 0; members = []; priority = Regular; retry = false };
}
