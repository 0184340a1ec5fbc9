-- A reader of records over bytes, and the records that it has ahead of it.
use Rattle.std.specs.Prelude.{◌≡◌, ℕ, ◌+◌, false, true, Option, Some, None, List, [], length, IsSome}
use Rattle.std.specs.Borrow.{Bor}
use Rattle.csv.specs.Machine.{ends_at_end}
use Rattle.csv.specs.Reading.{Ready, default_config, is_flexible, reader_config, reader_state, reader_trim, records_from, source_of}
use Rattle.csv.specs.declared.parser.State.{State}
use Rattle.csv.specs.declared.reader.Reader.{Reader}
use Rattle.csv.specs.declared.reader.Trim.TheVariants as trim
use Rattle.column_input.specs.Records.{Record}

abbrev pub Source : Type 0
Source = Reader (Bor (List ℕ))

-- the bytes that the reader has left
abbrev pub left_of : Source → Option (List ℕ)
left_of reader = source_of (λ bytes. Some bytes.now) reader

-- the records of what is left, from a state between two records
abbrev pub records_left : State → Option (List ℕ) → List Record
records_left state None = []
records_left state (Some bytes) = records_from default_config (length bytes + 1) state bytes

-- the records that come next
abbrev pub ahead : Source → List Record
ahead reader = records_left (reader_state reader) (left_of reader)

-- the reader has not failed, stands between two records, gives each as it is, and takes records of any length
pub record IsReading (reader : Source) : Type 0 where
  pub plain : reader_trim reader ≡ trim.None
  pub ready : Ready reader
  pub default : reader_config reader ≡ default_config
  pub between : ends_at_end (reader_state reader) ≡ false
  pub known : IsSome (left_of reader)
  pub flexible : is_flexible reader ≡ true
