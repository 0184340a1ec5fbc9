-- There is a way to the line of an entry, and to that of a frame whose future was set.
use Rattle.std.proofs.Common.{◌∙◌, ap, refl}
use Rattle.task_syntax.specs.Facts.{at_start}
use Rattle.task_syntax.specs.Valid.{starts}
use Rattle.task_meaning.specs.Frame.{set_future, state_in}
use Rattle.frame_code.specs.Ways.{EntriesHaveWays, FuturesKeepWays}
use Rattle.frame_code.proofs.HeldActs.{item-within}
use Rattle.frame_code.proofs.FrameWays.{way-on}
use Rattle.frame_code.proofs.PassedFrames.{passed-remains}

pub entries-way : EntriesHaveWays
entries-way p call formed within =
    let kind = item-within p.kinds call.kind within in
    let state = item-within kind.0.states 0 (formed.kinds call.kind kind.0 kind.1).has_state in
    (state.0, at_start state.0, ap (λ o. state_in o 0) kind.1 ∙ state.1, starts)

pub futures-way : FuturesKeepWays
futures-way p q x future may way = way-on p q (set_future q x future) may.0 may.1 (passed-remains may.0.instr may.2) refl refl refl way
