-- What a step on one word needs of the word and leaves of the seat.
use Rattle.std.specs.Prelude.{◌≡◌, ℕ, ◌+◌, ◌-◌, ◌%◌, ◌^◌, ◌∷◌, true}
use Rattle.atomic_table.specs.declared.shared.Seat.{Seat}
use Rattle.kt_words.specs.declared.plan.Plan.{Plan}
use Rattle.table_core.specs.Addresses.{Addr, address, is_there}
use Rattle.table_core.specs.declared.setup.Setup.{Setup}
use Rattle.table_core.specs.declared.view.View.{View}
use Rattle.schedule_rule.specs.Parts.{Keeps, is_written}

-- the seat of the same pass, which may hold and know something else
pub record IsSameSeat (old new : Seat (Unit {0}) View) : Type 0 where
  pub table : new.table_id ≡ old.table_id
  pub id : new.id ≡ old.id
  pub parts : new.me.0.parts ≡ old.me.0.parts
  pub bare : new.me.1 ≡ old.me.1

-- a step of this seat that writes f of what it finds may be made, and tells this
abbrev pub MayStep : Setup → Seat (Unit {0}) View → Addr → (ℕ → ℕ) → (ℕ → View → Type 0) → Type 0
MayStep g seat a f told = Keeps g seat.id seat.me.0 a f told

-- the pass has seen one step more: this word, with this number
abbrev pub HasSeen : Addr → ℕ → View → View → Type 0
HasSeen a found old new = new.seen ≡ (a, found) ∷ old.seen

-- less k, of a number of 64 bits
abbrev pub less_by : ℕ → ℕ → ℕ
less_by k n = (n + (2 ^ 64 - k)) % 2 ^ 64

-- k more, of a number of 64 bits
abbrev pub more_by : ℕ → ℕ → ℕ
more_by k n = (n + k) % 2 ^ 64

-- k, whatever it was
abbrev pub always : ℕ → ℕ → ℕ
always k n = k

-- the word lies at this address, and some kind of step writes it
pub record LiesAt (g : Plan) (a : Addr) (word : ℕ) : Type 0 where
  pub place : word ≡ address g a
  pub there : is_there g a ≡ true
  pub written : is_written a ≡ true
