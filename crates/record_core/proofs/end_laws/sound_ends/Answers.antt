use Rattle.record_core.proofs.EndFacts.{no_other_value, refusal_of, limit_met, null_shown, cut_by_earlier}
use Rattle.record_core.proofs.HeldFacts.{held_by_roots}
use Rattle.record_core.proofs.ItemFacts.{sound_by_items}
use Rattle.record_core.proofs.RoomFacts.{no_null_with_room}
use Rattle.record_core.proofs.end_laws.sound_ends.Goals as goal

pub returns-clause-value : goal.returns-clause-value
returns-clause-value c = no_other_value

pub returns-clause-refusal : goal.returns-clause-refusal
returns-clause-refusal c p d plan e at tag from formed sound = refusal_of p d plan e formed sound at tag from

pub returns-clause-limit : goal.returns-clause-limit
returns-clause-limit c p d plan e at from formed sound = limit_met p d plan e formed sound at from

pub returns-clause-null : goal.returns-clause-null
returns-clause-null c p d plan e at from formed sound = null_shown p d plan e formed sound at from

pub returns-clause-held : goal.returns-clause-held
returns-clause-held c = held_by_roots

pub returns-clause-earlier : goal.returns-clause-earlier
returns-clause-earlier c = cut_by_earlier

pub returns-clause-items : goal.returns-clause-items
returns-clause-items c = sound_by_items

pub returns-clause-room : goal.returns-clause-room
returns-clause-room c = no_null_with_room
