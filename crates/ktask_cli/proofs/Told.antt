-- A line that was made, or want of memory in its place.
use Rattle.std.proofs.Common.{◌≡◌, ℕ, List, [], Result, Ok, Err, IfOk, OnErr, String, string_bytes, inl, inr, ◌∙◌}
use Rattle.std.specs.declared.alloc.AllocError.{AllocError}
use Rattle.std.specs.declared.alloc.Global.{Global}
use Rattle.ktask_cli.specs.declared.stop.Stop.{Stop}
use Rattle.ktask_cli.specs.declared.stop.Stop.TheVariants.{WantOfMemory}
use Rattle.ktask_cli.specs.Refusal.{Tells, TellsOrWants}
use Rattle.tool_io.specs.Seen.{SinkSeen}
use Rattle.ktask_cli.specs.Io.{Offers}
use Rattle.ktask_cli.specs.Stop.{status_of, line_of}

pub made_told : (line : Result (String Global) AllocError) (stop : Stop) (name : List ℕ) (status due : ℕ) (was is : SinkSeen)
    → due ≡ status_of stop
    → IfOk line (λ text. string_bytes text ≡ line_of name stop)
    → IfOk line (λ text. (status ≡ due) × Offers was is (string_bytes text))
    → OnErr line (Tells WantOfMemory [] status was is)
    → TellsOrWants stop name status was is
made_told (Ok text) stop name status due was is status_due spelled made unmade = inl (record { status_is = made.0 ∙ status_due; line = rw (← spelled) made.1 })
made_told (Err error) stop name status due was is status_due spelled made unmade = inr (record { status_is = unmade.status_is; line = unmade.line })

-- a line that was offered
pub told : (stop : Stop) (name line : List ℕ) (status due : ℕ) (was is : SinkSeen) → due ≡ status_of stop → line ≡ line_of name stop → status ≡ due → Offers was is line → Tells stop name status was is
told stop name line status due was is status_due spelled status_is offered = record { status_is = status_is ∙ status_due; line = rw (← spelled) offered }
