-- Why a command's plan stops, and what its text is where it does not.
use Rattle.std.proofs.Common.{◌≡◌, ℕ, ◌≤◌, inl, inr, List, Option, Some, None, Result, Ok, Err, IsErr, IsOk, IsOkAnd, IfSome, refl, sym, ap, subst}
use Rattle.task_syntax.specs.Columns.{no_columns}
use Rattle.task_syntax.specs.Form.{IsWellFormed}
use Rattle.task_syntax.specs.Valid.{IsValid}
use Rattle.task_syntax.specs.declared.columns.Columns.{Columns}
use Rattle.task_syntax.specs.declared.program.Program.{Program}
use Rattle.task_text.specs.Fault.{number_of}
use Rattle.task_text.specs.declared.fault.Fault.{Fault}
use Rattle.task_reader.specs.Read.{program_in}
use Rattle.task_reader.proofs.Read.{program_in-formed}
use Rattle.task_writer.specs.Text.{text_of}
use Rattle.run_report.specs.CheckLines.{check_lines}
use Rattle.run_report.specs.Lines.{text_of as lines_text}
use Rattle.tool_io.specs.declared.fetch_error.FetchError.{FetchError}
use Rattle.ktask_cli.specs.declared.stop.InputFile.TheVariants as file
use Rattle.ktask_cli.specs.declared.stop.Stop.{Stop}
use Rattle.ktask_cli.specs.declared.stop.Stop.TheVariants as stop
use Rattle.ktask_cli.specs.Plan.{Plan, content_of, judged, OrWants, ◌>>=◌}
use Rattle.ktask_cli.specs.Ready.{read_from, read_in, Checks, program_under, columns_from, columns_read, valid_under, columns_under, input_under, kinds_under, text_under}
use Rattle.tool_io.specs.Seen.{ShelfSeen, Holds}
use Rattle.ktask_cli.specs.Io.{Fetches}
use Rattle.ktask_cli.specs.Statuses.{Run, Check, Print, Suits, HasColumns, IsFetched}
use Rattle.column_input.specs.Records.{records_of}
use Rattle.column_input.specs.Reading.{columns_in, Fault as ColumnFault}
use Rattle.ktask_cli.specs.Stop.{status_of, fetch_stop}
use Rattle.ktask_cli.proofs.Plans.{judged_ready, Stopped, judged_stop, wanted, earlier, here, content_read, content_refused, both_ready, StoppedIn, in_first, in_next, both_stop, was_judged}

-- the program was fetched, and its text is a program of which P holds
pub record Took (P : Program → Type 0) (name : List ℕ) (was : ShelfSeen) : Type 0 where
  pub text : List ℕ
  pub tells : Holds was name text
  pub suits : IsOkAnd (program_in text) P

-- why a plan stops, where the text is to be a program of which P holds
pub data Cause (P : Program → Type 0) (name : List ℕ) (was is : ShelfSeen) (s : Stop) : Type 0 where
  wants : s ≡ stop.WantOfMemory → Cause P name was is s
  unfetched : (error : FetchError) → Fetches was is name (Err error) → s ≡ fetch_stop file.Program error → Cause P name was is s
  unsuited : (text : List ℕ) → Fetches was is name (Ok text) → status_of s ≡ 5 → ¬ IsOkAnd (program_in text) P → Cause P name was is s

-- what P holds of is what the text is
suits_by : (P : Program → Type 0) (r : Result Program Fault) (p : Program) → r ≡ Ok p → P p → IsOkAnd r P
suits_by P r p e h = subst (λ x. IsOkAnd x P) (sym e) h

suited : (P : Program → Type 0) (r : Result Program Fault) (p : Program) → r ≡ Ok p → IsOkAnd r P → P p
suited P r p e h = subst (λ x. IsOkAnd x P) e h

unsuits_unread : (P : Program → Type 0) (r : Result Program Fault) → IsErr r → ¬ IsOkAnd r P
unsuits_unread P (Ok p) is_error h = cc
unsuits_unread P (Err fault) is_error h = h

-- a program that was fetched
record Read (name : List ℕ) (was is : ShelfSeen) (p : Program) : Type 0 where
  text : List ℕ
  fetched : Fetches was is name (Ok text)
  is_program : program_in text ≡ Ok p

was_read : (r : Result Program Fault) (p : Program) → Ok p ≡ read_from r → r ≡ Ok p
was_read (Ok q) p e = let g : q ≡ p = cc in ap Ok g
was_read (Err fault) p e = cc

was_refused : (r : Result Program Fault) (s : Stop) → Err s ≡ read_from r → IsErr r × (status_of s ≡ 5)
was_refused (Ok q) s e = cc
was_refused (Err fault) s e = let t : s ≡ stop.ProgramFault (number_of fault.cause) fault.line fault.word = cc in (refl, ap status_of t)

program_read : (name : List ℕ) (was is : ShelfSeen) (p : Program) → program_under name was is (Ok p) → Read name was is p
program_read name was is p f = let j = judged_ready (content_of file.Program name) (λ text result. result ≡ read_in text) was is p f in record {
  text = j.0;
  fetched = content_read file.Program name was is j.0 j.1;
  is_program = was_read (program_in j.0) p j.2;
}

program_stopped : (P : Program → Type 0) (name : List ℕ) (was is : ShelfSeen) (s : Stop) → program_under name was is (Err s) → Cause P name was is s
program_stopped P name was is s f = by (judged_stop (content_of file.Program name) (λ text result. result ≡ read_in text) was is s f) where
  by : Stopped (content_of file.Program name) (λ text result. result ≡ read_in text) was is s → Cause P name was is s
  by (wanted e) = wants e
  by (earlier e) = let r = content_refused file.Program name was is s e in unfetched r.0 r.1 r.2
  by (here text c e) = let r = was_refused (program_in text) s e in unsuited text (content_read file.Program name was is text c) r.1 (unsuits_unread P (program_in text) r.0)

valid_read : (name : List ℕ) (was is : ShelfSeen) (p : Program) → valid_under name was is (Ok p) → Read name was is p × IsValid p
valid_read name was is p f =
    let j = judged_ready (program_under name) Checks was is p f in
    (subst (λ q. Read name was is q) (sym j.2.0) (program_read name was is j.0 j.1), subst IsValid (sym j.2.0) j.2.1)

invalid_status : (p : Program) (s : Stop) → Checks p (Err s) → (¬ IsValid p) × (status_of s ≡ 5)
invalid_status p (stop.CheckFault cause line name) h = (h.0, refl)
invalid_status p stop.WordsRefused h = absurd h
invalid_status p (stop.CannotRead which) h = absurd h
invalid_status p (stop.TooLong which) h = absurd h
invalid_status p (stop.ProgramFault cause line word) h = absurd h
invalid_status p (stop.ColumnsFault cause row column) h = absurd h
invalid_status p stop.WriteFault h = absurd h
invalid_status p stop.WantOfMemory h = absurd h

-- P holds of valid programs alone
valid_stopped : (P : Program → Type 0) → ((p : Program) → P p → IsValid p) → (name : List ℕ) (was is : ShelfSeen) (s : Stop) → valid_under name was is (Err s) → Cause P name was is s
valid_stopped P only name was is s f = by (judged_stop (program_under name) Checks was is s f) where
  by : Stopped (program_under name) Checks was is s → Cause P name was is s
  by (wanted e) = wants e
  by (earlier e) = program_stopped P name was is s e
  by (here p c h) = let r = program_read name was is p c in let i = invalid_status p s h in
      unsuited r.text r.fetched i.1 (λ suits. i.0 (only p (suited P (program_in r.text) p r.is_program suits)))

-- what a part leaves of the shelf
pub record Keeps (was is : ShelfSeen) : Type 0 where
  pub holds : is.holds ≡ was.holds
  pub faults : was.faults ≤ is.faults

valid_keeps : (name : List ℕ) (was is : ShelfSeen) (p : Program) → valid_under name was is (Ok p) → Keeps was is
valid_keeps name was is p f = let r = valid_read name was is p f in record { holds = r.0.fetched.kept; faults = r.0.fetched.cause }

valid_told : (name : List ℕ) (was is : ShelfSeen) (p : Program) → valid_under name was is (Ok p) → IsFetched is
valid_told name was is p f = let r = valid_read name was is p f in r.0.fetched.told

valid_took : (P : Program → Type 0) → ((p : Program) → IsValid p → P p) → (name : List ℕ) (was is : ShelfSeen) (p : Program) → valid_under name was is (Ok p) → Took P name was
valid_took P for name was is p f = let r = valid_read name was is p f in
    record { text = r.0.text; tells = r.0.fetched.content; suits = suits_by P (program_in r.0.text) p r.0.is_program (for p r.1) }

-- ---- columns

-- the shelf after the columns: where they are named, they were fetched, and have columns
pub data TookColumns (was is : ShelfSeen) : Option (List ℕ) → Type 0 where
  none_named : is ≡ was → TookColumns was is None
  read : (name text : List ℕ) → Fetches was is name (Ok text) → HasColumns text → TookColumns was is (Some name)

has_columns : (r : Result Columns ColumnFault) (c : Columns) → Ok c ≡ columns_from r → IsOk r
has_columns (Ok d) c e = refl
has_columns (Err fault) c e = cc

no_columns_in : (r : Result Columns ColumnFault) (s : Stop) → Err s ≡ columns_from r → (¬ IsOk r) × (status_of s ≡ 6)
no_columns_in (Ok d) s e = cc
no_columns_in (Err fault) s e = let t : s ≡ stop.ColumnsFault fault.cause fault.row fault.column = cc in ((λ h. cc), ap status_of t)

columns_took : (name : Option (List ℕ)) (was is : ShelfSeen) (c : Columns) → columns_under name was is (Ok c) → TookColumns was is name
columns_took None was is c f = none_named (was_judged (λ result. result ≡ Ok no_columns) was is (Ok c) f).0
columns_took (Some name) was is c f = let j = judged_ready (content_of file.Columns name) (λ text result. result ≡ columns_read text) was is c f in
    read name j.0 (content_read file.Columns name was is j.0 j.1) (has_columns (columns_in (records_of j.0)) c j.2)

-- why columns stop a run
pub data ColumnsCause (was is : ShelfSeen) (s : Stop) : Option (List ℕ) → Type 0 where
  columns_want : {name : Option (List ℕ)} → s ≡ stop.WantOfMemory → ColumnsCause was is s name
  columns_unfetched : (name : List ℕ) (error : FetchError) → Fetches was is name (Err error) → s ≡ fetch_stop file.Columns error → ColumnsCause was is s (Some name)
  columns_refused : (name text : List ℕ) → Fetches was is name (Ok text) → status_of s ≡ 6 → ¬ HasColumns text → ColumnsCause was is s (Some name)

columns_stopped : (name : Option (List ℕ)) (was is : ShelfSeen) (s : Stop) → columns_under name was is (Err s) → ColumnsCause was is s name
columns_stopped None was is s f = by (was_judged (λ result. result ≡ Ok no_columns) was is (Err s) f).1 where
  by : OrWants (λ result. result ≡ Ok no_columns) (Err s) → ColumnsCause was is s None
  by (inl e) = columns_want cc
  by (inr e) = cc
columns_stopped (Some name) was is s f = by (judged_stop (content_of file.Columns name) (λ text result. result ≡ columns_read text) was is s f) where
  by : Stopped (content_of file.Columns name) (λ text result. result ≡ columns_read text) was is s → ColumnsCause was is s (Some name)
  by (wanted e) = columns_want e
  by (earlier e) = let r = content_refused file.Columns name was is s e in columns_unfetched name r.0 r.1 r.2
  by (here text c e) = let r = no_columns_in (columns_in (records_of text)) s e in columns_refused name text (content_read file.Columns name was is text c) r.1 r.0

-- ---- runs

-- the parts of a run behind a valid program
abbrev pub Pairs : Program → Columns → Result (Program × Columns) Stop → Type 0
Pairs p c result = result ≡ Ok (p, c)

abbrev pub Behind : Option (List ℕ) → Program → Plan (Program × Columns)
Behind columns p = columns_under columns >>= (λ c. judged (Pairs p c))

-- where a file of columns is named, it has columns, if the shelf tells what it holds
abbrev pub Had : Option (List ℕ) → ShelfSeen → Type 0
Had columns was = (file : List ℕ) → columns ≡ Some file → IfSome (was.holds file) HasColumns

-- a run's program and columns were taken
pub record TookInput (name : List ℕ) (columns : Option (List ℕ)) (was is : ShelfSeen) : Type 0 where
  pub program : Took (Suits Run) name was
  pub told : IsFetched is
  pub had : Had columns was

had_behind : (columns : Option (List ℕ)) (was middle is : ShelfSeen) → Keeps was middle → TookColumns middle is columns → Had columns was
had_behind None was middle is kept took file named = cc
had_behind (Some other_file) was middle is kept (read known text fetched has) file named =
    let e : other_file ≡ file = cc in
    let content : IfSome (was.holds other_file) (λ held. text ≡ held) = subst (λ (h : List ℕ → Option (List ℕ)). IfSome (h other_file) (λ held. text ≡ held)) kept.holds fetched.content in
    subst (λ f. IfSome (was.holds f) HasColumns) e (by (was.holds other_file) content) where
      by : (o : Option (List ℕ)) → IfSome o (λ held. text ≡ held) → IfSome o HasColumns
      by None h = tt
      by (Some held) h = subst HasColumns h has

told_behind : (columns : Option (List ℕ)) (middle is : ShelfSeen) → IsFetched middle → TookColumns middle is columns → IsFetched is
told_behind None middle is told (none_named same) = subst IsFetched (sym same) told
told_behind (Some name) middle is told (read n text fetched has) = fetched.told

pub run_took : (name : List ℕ) (columns : Option (List ℕ)) (was is : ShelfSeen) (input : Program × Columns) → input_under name columns was is (Ok input) → TookInput name columns was is
run_took name columns was is input f =
    let r = both_ready (valid_under name) (Behind columns) was is input f in
    let j = judged_ready (columns_under columns) (Pairs r.1) r.0 is input r.3 in
    record {
      program = valid_took (Suits Run) (λ p h. h) name was r.0 r.1 r.2;
      told = told_behind columns r.0 is (valid_told name was r.0 r.1 r.2) (columns_took columns r.0 is j.0 j.1);
      had = had_behind columns was r.0 is (valid_keeps name was r.0 r.1 r.2) (columns_took columns r.0 is j.0 j.1);
    }

-- what is run is well formed
pub run_formed : (name : List ℕ) (columns : Option (List ℕ)) (was is : ShelfSeen) (input : Program × Columns) → input_under name columns was is (Ok input) → IsWellFormed input.0
run_formed name columns was is input f =
    let r = both_ready (valid_under name) (Behind columns) was is input f in
    let j = judged_ready (columns_under columns) (Pairs r.1) r.0 is input r.3 in
    let read = (valid_read name was r.0 r.1 r.2).0 in
    let same : r.1 ≡ input.0 = cc in
    subst IsWellFormed same (program_in-formed read.text r.1 read.is_program)

-- why a run stops
pub data RunCause (name : List ℕ) (columns : Option (List ℕ)) (was is : ShelfSeen) (s : Stop) : Type 0 where
  in_program : Cause (Suits Run) name was is s → RunCause name columns was is s
  in_columns : (middle : ShelfSeen) → Keeps was middle → Took (Suits Run) name was → ColumnsCause middle is s columns → RunCause name columns was is s

pub run_stopped : (name : List ℕ) (columns : Option (List ℕ)) (was is : ShelfSeen) (s : Stop) → input_under name columns was is (Err s) → RunCause name columns was is s
run_stopped name columns was is s f = by (both_stop (valid_under name) (Behind columns) was is s f) where
  behind : (middle : ShelfSeen) (p : Program) → valid_under name was middle (Ok p) → Stopped (columns_under columns) (Pairs p) middle is s → RunCause name columns was is s
  behind middle p v (wanted e) = in_program (wants e)
  behind middle p v (earlier e) = in_columns middle (valid_keeps name was middle p v) (valid_took (Suits Run) (λ q h. h) name was middle p v) (columns_stopped columns middle is s e)
  behind middle p v (here c g e) = cc

  by : StoppedIn (valid_under name) (Behind columns) was is s → RunCause name columns was is s
  by (in_first e) = in_program (valid_stopped (Suits Run) (λ p h. h) name was is s e)
  by (in_next middle p v n) = behind middle p v (judged_stop (columns_under columns) (Pairs p) middle is s n)

-- ---- the other commands

-- a program was taken by the one fetch of a command
pub record TookOne (P : Program → Type 0) (name : List ℕ) (was is : ShelfSeen) : Type 0 where
  pub program : Took P name was
  pub told : IsFetched is

pub check_took : (name : List ℕ) (was is : ShelfSeen) (text : List ℕ) → kinds_under name was is (Ok text) → TookOne (Suits Check) name was is
check_took name was is text f =
    let j = judged_ready (valid_under name) (λ q result. result ≡ Ok (lines_text (check_lines q))) was is text f in
    record { program = valid_took (Suits Check) (λ p h. h) name was is j.0 j.1; told = valid_told name was is j.0 j.1 }

pub check_stopped : (name : List ℕ) (was is : ShelfSeen) (s : Stop) → kinds_under name was is (Err s) → Cause (Suits Check) name was is s
check_stopped name was is s f = by (judged_stop (valid_under name) (λ q result. result ≡ Ok (lines_text (check_lines q))) was is s f) where
  by : Stopped (valid_under name) (λ q result. result ≡ Ok (lines_text (check_lines q))) was is s → Cause (Suits Check) name was is s
  by (wanted e) = wants e
  by (earlier e) = valid_stopped (Suits Check) (λ p h. h) name was is s e
  by (here p c e) = cc

pub print_took : (name : List ℕ) (was is : ShelfSeen) (text : List ℕ) → text_under name was is (Ok text) → TookOne (Suits Print) name was is
print_took name was is text f =
    let j = judged_ready (program_under name) (λ q result. result ≡ Ok (text_of q)) was is text f in
    let r = program_read name was is j.0 j.1 in
    record { program = record { text = r.text; tells = r.fetched.content; suits = suits_by (Suits Print) (program_in r.text) j.0 r.is_program tt }; told = r.fetched.told }

pub print_stopped : (name : List ℕ) (was is : ShelfSeen) (s : Stop) → text_under name was is (Err s) → Cause (Suits Print) name was is s
print_stopped name was is s f = by (judged_stop (program_under name) (λ q result. result ≡ Ok (text_of q)) was is s f) where
  by : Stopped (program_under name) (λ q result. result ≡ Ok (text_of q)) was is s → Cause (Suits Print) name was is s
  by (wanted e) = wants e
  by (earlier e) = program_stopped (Suits Print) name was is s e
  by (here p c e) = cc
