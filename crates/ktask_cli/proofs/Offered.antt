-- A text that was offered on a sink, and a fault of it that was told on another.
use Rattle.std.proofs.Common.{◌≡◌, ℕ, List, [], Option, None, Result, Ok, Err, OnOk, OnErr, inl, inr, ap}
use Rattle.record_core.specs.EndSeen.{EndSeen}
use Rattle.tool_io.specs.declared.failed.Failed.{Failed}
use Rattle.tool_io.specs.Fault.{ErrOnlyByFault}
use Rattle.tool_io.specs.Seen.{SinkSeen}
use Rattle.tool_io.specs.Sink.{Adds, AddsFront}
use Rattle.run_report.specs.Writing.{Writes as Written}
use Rattle.ktask_cli.specs.declared.stop.Stop.TheVariants.{WriteFault}
use Rattle.ktask_cli.specs.Outcome.{Answer, Writes}
use Rattle.ktask_cli.specs.Refusal.{Tells}

-- the text was taken with the status that is due, or a front of it was, and the fault was told
pub offered : {S : Type 0} (seen : S → SinkSeen) (err_was err_is : S) (text : List ℕ) (status due : ℕ) (finished : Option EndSeen) (out_was out_is : SinkSeen)
    (written : Result (Unit {0}) Failed)
    → OnOk written (Adds out_was out_is text)
    → OnErr written (AddsFront out_was out_is text)
    → ErrOnlyByFault written out_was.faults out_is.faults
    → OnOk written ((status ≡ due) × (err_is ≡ err_was))
    → OnErr written (Tells WriteFault [] status (seen err_was) (seen err_is))
    → Writes text due (record { status = status; finished = finished; out_was = out_was; out_is = out_is; err_was = seen err_was; err_is = seen err_is })
offered seen err_was err_is text status due finished out_was out_is (Ok done) adds front cause whole fault =
    inl (record { status_is = whole.0; out = adds; err = ap seen whole.1 })
offered seen err_was err_is text status due finished out_was out_is (Err failed) adds front cause whole fault =
    inr (record { out = front; fault = cause; told = fault })

-- a text that was offered, whatever else is answered
pub writes_as : (text : List ℕ) (status : ℕ) (a : Answer) (finished : Option EndSeen) → Writes text status a → Writes text status (record a { finished = finished })
writes_as text status a finished (inl t) = inl (record { status_is = t.status_is; out = t.out; err = t.err })
writes_as text status a finished (inr t) = inr (record { out = t.out; fault = t.fault; told = t.told })

-- a text that was put, as what was written
pub written : (was is : SinkSeen) (text : List ℕ) (result : Result (Unit {0}) Failed) → OnOk result (Adds was is text) → OnErr result (AddsFront was is text)
    → ErrOnlyByFault result was.faults is.faults → Written was is text result
written was is text (Ok done) adds front cause = (adds, cause)
written was is text (Err failed) adds front cause = (front, cause)

-- a text that was written, and a fault of it that was told
pub written_offered : {S : Type 0} (seen : S → SinkSeen) (err_was err_is : S) (text : List ℕ) (status due : ℕ) (out_was out_is : SinkSeen)
    (result : Result (Unit {0}) Failed)
    → Written out_was out_is text result
    → OnOk result ((status ≡ due) × (err_is ≡ err_was))
    → OnErr result (Tells WriteFault [] status (seen err_was) (seen err_is))
    → Writes text due (record { status = status; finished = None; out_was = out_was; out_is = out_is; err_was = seen err_was; err_is = seen err_is })
written_offered seen err_was err_is text status due out_was out_is (Ok done) w whole fault =
    offered seen err_was err_is text status due None out_was out_is (Ok done) w.0 tt w.1 whole fault
written_offered seen err_was err_is text status due out_was out_is (Err failed) w whole fault =
    offered seen err_was err_is text status due None out_was out_is (Err failed) tt w.0 w.1 whole fault
