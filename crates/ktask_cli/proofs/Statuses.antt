-- Each status from the whole of what the tool did.
use Rattle.std.proofs.lemmas.Bool.{eqb-false}
use Rattle.std.proofs.Math.Nat.{le-min, min-le_left, min-le_right}
use Rattle.std.proofs.Common.{nat_eq, ◌↔◌, option_and_then, ◌≡◌, ℕ, ◌+◌, ◌-◌, ◌^◌, ◌<◌, ◌≤◌, min, arith, ◌⊎◌, inl, inr, false, List, [], length, Option, Some, None, Result, Ok, Err, IsSome, IsSomeAnd, IsNone, is_some, IfSome, MatchResult, refl, sym, ◌∙◌, ap, subst}
use Rattle.task_syntax.specs.declared.columns.Columns.{Columns}
use Rattle.task_syntax.specs.declared.program.Program.{Program}
use Rattle.record_core.specs.EndSeen.{EndSeen}
use Rattle.tool_io.specs.declared.fetch_error.FetchError.{FetchError}
use Rattle.tool_io.specs.declared.fetch_error.FetchError.TheVariants.{Failed, TooLong, Memory}
use Rattle.ktask_cli.specs.declared.stop.Stop.{Stop}
use Rattle.ktask_cli.specs.declared.stop.Stop.TheVariants as stop
use Rattle.tool_words.specs.Choice.{Choice, RunWords}
use Rattle.tool_words.specs.declared.choice.BenchWords.{BenchWords}
use Rattle.tool_words.specs.Choice as choice
use Rattle.tool_io.specs.Count.{Rose}
use Rattle.tool_io.specs.Fetch.{FailedOnlyByFault}
use Rattle.ktask_cli.specs.Outcome.{Answer, Writes, RunsTo, Runs, RunsOrWants, RunsUntold, Prints, Stops, Reaches, Does, DoesChoice}
use Rattle.ktask_cli.specs.Plan.{Plan}
use Rattle.ktask_cli.specs.Ready.{input_under, kinds_under, text_under}
use Rattle.ktask_cli.specs.Refusal.{TellsOrWants, Told}
use Rattle.ktask_cli.specs.Help.{help_text}
use Rattle.ktask_cli.specs.Order.{IsRunOf, bench_order, bench_plan, order_of, order_text}
use Rattle.ktask_cli.specs.RunStatus.{status_of_ends, IsStatusOf}
use Rattle.tool_io.specs.Seen.{ShelfSeen, SinkSeen, Holds}
use Rattle.ktask_cli.specs.Io.{Fetches}
use Rattle.ktask_cli.specs.Statuses.{Command, Run, Check, Print, asked_by, Suits, SuitsText, HasColumns, IsFetched, IsRefused, IsOrWants, TwoForWords, FiveForText, SixForColumns, IsLong, SevenForFetch, EightForOut, ZeroForPrinted, HoldsColumns, RunForSuited, QuietWhereRefused, SilentWhereDone, IsOfRunAlone, IsDone, IsAnswered, RunsAtStatus, ToldBy, EndsByStatus, DoneUnasked, StatusHasCause}
use Rattle.ktask_cli.specs.Stop.{status_of, longest_file, named_for}
use Rattle.ktask_cli.proofs.Causes.{Took, Cause, wants, unfetched, unsuited, Keeps, ColumnsCause, columns_want, columns_unfetched, columns_refused, Had, TookInput, run_took, RunCause, in_program, in_columns, run_stopped, TookOne, check_took, check_stopped, print_took, print_stopped}
use Rattle.ktask_cli.proofs.Offered.{writes_as}
use Rattle.ktask_cli.proofs.Ends.{Shows, all_numbers, none_cut, some_null, limited, run_shows}

-- ---- what can come of a command

-- nothing was run or printed
record Quiet (a : Answer) : Type 0 where
  no_run : IsNone a.finished
  out : a.out_is ≡ a.out_was

data Came (limit : ℕ) (command : Command) (name : List ℕ) (columns : Option (List ℕ)) (was is : ShelfSeen) (a : Answer) : Type 0 where
  ran : command ≡ Run → Took (Suits command) name was → IsFetched is → (e : EndSeen) → a.finished ≡ Some e → Shows limit e a.status → a.status ≡ status_of_ends e.roots → a.err_is ≡ a.err_was → Had columns was → Came limit command name columns was is a
  unreported : command ≡ Run → Took (Suits command) name was → IsFetched is → (e : EndSeen) → a.finished ≡ Some e → a.status ≡ 8 → Rose a.out_was.faults a.out_is.faults → Had columns was → Came limit command name columns was is a
  printed : ¬ (command ≡ Run) → Took (Suits command) name was → IsFetched is → IsNone a.finished → a.status ≡ 0 → a.err_is ≡ a.err_was → Came limit command name columns was is a
  unprinted : ¬ (command ≡ Run) → Took (Suits command) name was → IsFetched is → IsNone a.finished → a.status ≡ 8 → Rose a.out_was.faults a.out_is.faults → Came limit command name columns was is a
  wanting : Quiet a → a.status ≡ 9 → Came limit command name columns was is a
  refused : Quiet a → a.status ≡ 7 → IsRefused is → Rose was.faults is.faults ⊎ (IsLong was name ⊎ IsSomeAnd columns (IsLong was)) → Came limit command name columns was is a
  unfit : Quiet a → a.status ≡ 5 → IsFetched is → (text : List ℕ) → Holds was name text → ¬ SuitsText command text → Came limit command name columns was is a
  unfit_columns : Quiet a → a.status ≡ 6 → IsFetched is → command ≡ Run → Took (Suits command) name was → (file text : List ℕ) → columns ≡ Some file → Holds was file text → ¬ HasColumns text → Came limit command name columns was is a

-- a fetch that was refused: by a fault of the shelf, or since the file is too long
refused_for : (was is : ShelfSeen) (name : List ℕ) (error : FetchError) → Fetches was is name (Err error) → (error ≡ Failed) ⊎ (error ≡ TooLong)
    → IsRefused is × (Rose was.faults is.faults ⊎ IsLong was name)
refused_for was is name error fetched (inl e) = (inl (fetched.told ∙ ap (λ x. Some (Err x)) e), inl (subst (λ x. FailedOnlyByFault {T = List ℕ} (Err x) was.faults is.faults) e fetched.cause))
refused_for was is name error fetched (inr e) = (inr (fetched.told ∙ ap (λ x. Some (Err x)) e), inr (fetched.long (ap Err e)))

refused_program : (limit : ℕ) (command : Command) (name : List ℕ) (columns : Option (List ℕ)) (was is : ShelfSeen) (a : Answer) (error : FetchError) → Quiet a → a.status ≡ 7 → Fetches was is name (Err error)
    → (error ≡ Failed) ⊎ (error ≡ TooLong) → Came limit command name columns was is a
refused_program limit command name columns was is a error q seven fetched which = let r = refused_for was is name error fetched which in by r.0 r.1 where
  by : IsRefused is → Rose was.faults is.faults ⊎ IsLong was name → Came limit command name columns was is a
  by last (inl rose) = refused q seven last (inl rose)
  by last (inr long) = refused q seven last (inr (inl long))

stopped : (limit : ℕ) (command : Command) (name : List ℕ) (columns : Option (List ℕ)) (was is : ShelfSeen) (a : Answer) (s : Stop) → Cause (Suits command) name was is s → Quiet a → (a.status ≡ status_of s) ⊎ (a.status ≡ 9)
    → Came limit command name columns was is a
stopped limit command name columns was is a s c q (inr nine) = wanting q nine
stopped limit command name columns was is a s (wants e) q (inl status) = wanting q (status ∙ ap status_of e)
stopped limit command name columns was is a s (unfetched Failed fetched e) q (inl status) = refused_program limit command name columns was is a Failed q (status ∙ ap status_of e) fetched (inl refl)
stopped limit command name columns was is a s (unfetched TooLong fetched e) q (inl status) = refused_program limit command name columns was is a TooLong q (status ∙ ap status_of e) fetched (inr refl)
stopped limit command name columns was is a s (unfetched Memory fetched e) q (inl status) = wanting q (status ∙ ap status_of e)
stopped limit command name columns was is a s (unsuited text fetched five not) q (inl status) = unfit q (status ∙ five) fetched.told text fetched.content not

-- ---- where the columns stop a run

rose_from : (was middle is : ℕ) → was ≤ middle → Rose middle is → Rose was is
rose_from was middle is up rose =
    let one : min (was + 1) (2 ^ 64 - 1) ≤ was + 1 = min-le_left (was + 1) (2 ^ 64 - 1) in
    let two : min (was + 1) (2 ^ 64 - 1) ≤ 2 ^ 64 - 1 = min-le_right (was + 1) (2 ^ 64 - 1) in
    let both : min (was + 1) (2 ^ 64 - 1) ≤ min (middle + 1) (2 ^ 64 - 1) = le-min (omega (arith, one, up)) two in
    omega (arith, both, rose)

refused_columns : (limit : ℕ) (name file : List ℕ) (was middle is : ShelfSeen) (a : Answer) (error : FetchError) → Keeps was middle → Quiet a → a.status ≡ 7 → Fetches middle is file (Err error)
    → (error ≡ Failed) ⊎ (error ≡ TooLong) → Came limit Run name (Some file) was is a
refused_columns limit name file was middle is a error kept q seven fetched which = let r = refused_for middle is file error fetched which in by r.0 r.1 where
  by : IsRefused is → Rose middle.faults is.faults ⊎ IsLong middle file → Came limit Run name (Some file) was is a
  by last (inl rose) = refused q seven last (inl (rose_from was.faults middle.faults is.faults kept.faults rose))
  by last (inr long) = refused q seven last (inr (inr (subst (λ (h : List ℕ → Option (List ℕ)). IfSome (h file) (λ held. longest_file < length held)) kept.holds long)))

stopped_columns : (limit : ℕ) (name : List ℕ) (columns : Option (List ℕ)) (was middle is : ShelfSeen) (a : Answer) (s : Stop) → Keeps was middle → Took (Suits Run) name was → ColumnsCause middle is s columns → Quiet a
    → (a.status ≡ status_of s) ⊎ (a.status ≡ 9) → Came limit Run name columns was is a
stopped_columns limit name columns was middle is a s kept took c q (inr nine) = wanting q nine
stopped_columns limit name columns was middle is a s kept took (columns_want e) q (inl status) = wanting q (status ∙ ap status_of e)
stopped_columns limit name (Some file) was middle is a s kept took (columns_unfetched other_file Failed fetched e) q (inl status) = refused_columns limit name file was middle is a Failed kept q (status ∙ ap status_of e) fetched (inl refl)
stopped_columns limit name (Some file) was middle is a s kept took (columns_unfetched other_file TooLong fetched e) q (inl status) = refused_columns limit name file was middle is a TooLong kept q (status ∙ ap status_of e) fetched (inr refl)
stopped_columns limit name (Some file) was middle is a s kept took (columns_unfetched other_file Memory fetched e) q (inl status) = wanting q (status ∙ ap status_of e)
stopped_columns limit name (Some file) was middle is a s kept took (columns_refused other_file text fetched six not) q (inl status) =
    unfit_columns q (status ∙ six) fetched.told refl took file text refl (subst (λ (h : List ℕ → Option (List ℕ)). IfSome (h file) (λ held. text ≡ held)) kept.holds fetched.content) not

stopped_run : (limit : ℕ) (name : List ℕ) (columns : Option (List ℕ)) (was is : ShelfSeen) (a : Answer) (s : Stop) → RunCause name columns was is s → Quiet a → (a.status ≡ status_of s) ⊎ (a.status ≡ 9) → Came limit Run name columns was is a
stopped_run limit name columns was is a s (in_program c) q status = stopped limit Run name columns was is a s c q status
stopped_run limit name columns was is a s (in_columns middle kept took c) q status = stopped_columns limit name columns was middle is a s kept took c q status

told_or_wants : (s : Stop) (name : List ℕ) (status : ℕ) (was is : SinkSeen) → TellsOrWants s name status was is → (status ≡ status_of s) ⊎ (status ≡ 9)
told_or_wants s name status was is (inl t) = inl t.status_is
told_or_wants s name status was is (inr t) = inr t.status_is

status_told : (s : Stop) (name : List ℕ) (status : ℕ) (was is : SinkSeen) → Told s name status was is → (status ≡ status_of s) ⊎ (status ≡ 9)
status_told (stop.CannotRead which) name status was is t = told_or_wants (stop.CannotRead which) name status was is t
status_told (stop.TooLong which) name status was is t = told_or_wants (stop.TooLong which) name status was is t
status_told stop.WordsRefused name status was is t = inl t.status_is
status_told (stop.ProgramFault cause line word) name status was is t = inl t.status_is
status_told (stop.CheckFault cause line named) name status was is t = inl t.status_is
status_told (stop.ColumnsFault cause row column) name status was is t = inl t.status_is
status_told stop.WriteFault name status was is t = inl t.status_is
status_told stop.WantOfMemory name status was is t = inl t.status_is

quiet_stop : (s : Stop) (name : List ℕ) (a : Answer) → Stops s name a → Quiet a
quiet_stop s name a h = record { no_run = h.no_run; out = h.out }

status_stop : (s : Stop) (name : List ℕ) (a : Answer) → Stops s name a → (a.status ≡ status_of s) ⊎ (a.status ≡ 9)
status_stop s name a h = status_told s name a.status a.err_was a.err_is h.told

came_run : (run : RunWords) (was is : ShelfSeen) (a : Answer)
    → Reaches (input_under run.program run.columns) (λ input. Runs (order_of run input)) (named_for run.program run.columns) was is a
    → Came run.plan.limit Run run.program run.columns was is a
came_run run was is a r = by r.reached r.follows r.ended where
  offered : (input : Program × Columns) (h : Runs (order_of run input) a) → TookInput run.program run.columns was is
      → Writes (order_text (order_of run input) h.end) (status_of_ends h.end.roots) a → Came run.plan.limit Run run.program run.columns was is a
  offered input h took (inl t) =
      ran refl took.program took.told h.end h.finished
      (subst (λ n. Shows run.plan.limit h.end n) (sym t.status_is) (run_shows input.0 input.1 run.plan h.end h.ran.run.formed h.ran.run.sound)) t.status_is t.err took.had
  offered input h took (inr t) = unreported refl took.program took.told h.end h.finished t.told.status_is t.fault took.had

  by : (reached : Result (Program × Columns) Stop) → input_under run.program run.columns was is reached
      → MatchResult reached (λ input. Runs (order_of run input) a) (λ s. Stops s (named_for run.program run.columns s) a) → Came run.plan.limit Run run.program run.columns was is a
  by (Ok input) follows h =
      offered input h (run_took run.program run.columns was is input follows) h.ran.offered
  by (Err s) follows h =
      stopped_run run.plan.limit run.program run.columns was is a s (run_stopped run.program run.columns was is s follows)
      (quiet_stop s (named_for run.program run.columns s) a h) (status_stop s (named_for run.program run.columns s) a h)

-- a command that prints
came_printed : (limit : ℕ) (command : Command) → ¬ (command ≡ Run) → (plan : Plan (List ℕ)) (name : List ℕ) (columns : Option (List ℕ)) (was is : ShelfSeen) (a : Answer)
    → ((text : List ℕ) → plan was is (Ok text) → TookOne (Suits command) name was is) → ((s : Stop) → plan was is (Err s) → Cause (Suits command) name was is s)
    → Reaches plan Prints (λ s. name) was is a → Came limit command name columns was is a
came_printed limit command plain plan name columns was is a took cause r = by r.reached r.follows r.ended where
  offered : (text : List ℕ) (h : Prints text a) → TookOne (Suits command) name was is → Writes text 0 a → Came limit command name columns was is a
  offered text h got (inl t) = printed plain got.program got.told h.no_run t.status_is t.err
  offered text h got (inr t) = unprinted plain got.program got.told h.no_run t.told.status_is t.fault

  by : (reached : Result (List ℕ) Stop) → plan was is reached → MatchResult reached (λ text. Prints text a) (λ s. Stops s name a) → Came limit command name columns was is a
  by (Ok text) follows h = offered text h (took text follows) h.offered
  by (Err s) follows h = stopped limit command name columns was is a s (cause s follows) (quiet_stop s name a h) (status_stop s name a h)

check_is_no_run : ¬ (Check ≡ Run)
check_is_no_run e = cc

print_is_no_run : ¬ (Print ≡ Run)
print_is_no_run e = cc

came_check : (limit : ℕ) (name : List ℕ) (was is : ShelfSeen) (a : Answer) → Reaches (kinds_under name) Prints (λ s. name) was is a → Came limit Check name None was is a
came_check limit name was is a r =
    came_printed limit Check check_is_no_run (kinds_under name) name None was is a (check_took name was is) (check_stopped name was is) r

came_print : (limit : ℕ) (name : List ℕ) (was is : ShelfSeen) (a : Answer) → Reaches (text_under name) Prints (λ s. name) was is a → Came limit Print name None was is a
came_print limit name was is a r =
    came_printed limit Print print_is_no_run (text_under name) name None was is a (print_took name was is) (print_stopped name was is) r

-- ---- the causes of each status

-- two statuses are not one
other : {P : Type 0} (status m n : ℕ) → status ≡ m → status ≡ n → nat_eq m n ≡ false → P
other status m n e f h = absurd (eqb-false m n h (sym e ∙ f))

shown_not : {P : Type 0} (limit : ℕ) (e : EndSeen) (status n : ℕ) → Shows limit e status → status ≡ n → nat_eq 0 n ≡ false → nat_eq 1 n ≡ false → nat_eq 3 n ≡ false → nat_eq 4 n ≡ false → P
shown_not limit e status n (all_numbers is each) f a b c d = other status 0 n is f a
shown_not limit e status n (none_cut is any each) f a b c d = other status 1 n is f b
shown_not limit e status n (some_null is any) f a b c d = other status 3 n is f c
shown_not limit e status n (limited is any each met) f a b c d = other status 4 n is f d

some_none : {A P : Type 0} (o : Option A) (x : A) → o ≡ Some x → o ≡ None → P
some_none o x e f = cc

some_for_none : {A P : Type 0} (o : Option A) → IsSome o → IsNone o → P
some_for_none None s n = cc
some_for_none (Some x) s n = cc

if_some : {A : Type 0} (o : Option A) (P Q : A → Type 0) → ((x : A) → P x → Q x) → IfSome o P → IfSome o Q
if_some None P Q f h = tt
if_some (Some x) P Q f h = f x h

if_some_all : {A : Type 0} (o : Option A) (Q : A → Type 0) → ((x : A) → Q x) → IfSome o Q
if_some_all None Q f = tt
if_some_all (Some x) Q f = f x

-- what the shelf holds under the name suits, where a text that suits was taken
held_suits : (command : Command) (name : List ℕ) (was : ShelfSeen) → Took (Suits command) name was → IfSome (was.holds name) (SuitsText command)
held_suits command name was t = if_some (was.holds name) (λ held. t.text ≡ held) (SuitsText command) (λ held e. subst (SuitsText command) e t.suits) t.tells

-- a fetch that gave its content was not refused
not_refused : (is : ShelfSeen) → IsFetched is → IsRefused is → ⊥
not_refused is told (inl e) = cc
not_refused is told (inr e) = cc

some_choice_none : {P : Type 0} (chosen : Option Choice) → IsSome chosen → chosen ≡ None → P
some_choice_none chosen s e = cc

not_two : (limit : ℕ) (command : Command) (name : List ℕ) (columns : Option (List ℕ)) (was is : ShelfSeen) (a : Answer) → Came limit command name columns was is a → ¬ (a.status ≡ 2)
not_two limit command name columns was is a (ran run took told e finished shows by_roots err had) h = shown_not limit e a.status 2 shows h refl refl refl refl
not_two limit command name columns was is a (unreported run took told e finished status fault had) h = other a.status 8 2 status h refl
not_two limit command name columns was is a (printed plain took told none status err) h = other a.status 0 2 status h refl
not_two limit command name columns was is a (unprinted plain took told none status fault) h = other a.status 8 2 status h refl
not_two limit command name columns was is a (wanting q status) h = other a.status 9 2 status h refl
not_two limit command name columns was is a (refused q status last why) h = other a.status 7 2 status h refl
not_two limit command name columns was is a (unfit q status told text tells not) h = other a.status 5 2 status h refl
not_two limit command name columns was is a (unfit_columns q status told run took file text named tells not) h = other a.status 6 2 status h refl

-- what is due for a program's text that does not suit
abbrev DueFive : Command → List ℕ → ShelfSeen → Answer → Type 0
DueFive command name was a = IfSome (was.holds name) (λ held. ¬ SuitsText command held → IsOrWants 5 a)

five_where_suited : (command : Command) (name : List ℕ) (was : ShelfSeen) (a : Answer) → Took (Suits command) name was → DueFive command name was a
five_where_suited command name was a took =
    if_some (was.holds name) (SuitsText command) (λ held. ¬ SuitsText command held → IsOrWants 5 a) (λ held suits not. absurd (not suits)) (held_suits command name was took)

five_where : (command : Command) (name : List ℕ) (was : ShelfSeen) (a : Answer) → IsOrWants 5 a → DueFive command name was a
five_where command name was a due = if_some_all (was.holds name) (λ held. ¬ SuitsText command held → IsOrWants 5 a) (λ held not. due)

five : (limit : ℕ) (command : Command) (name : List ℕ) (columns : Option (List ℕ)) (was is : ShelfSeen) (a : Answer) → Came limit command name columns was is a → FiveForText (Some (command, name, columns)) was is a
five limit command name columns was is a (ran run took told e finished shows by_roots err had) = ((λ h. shown_not limit e a.status 5 shows h refl refl refl refl), (λ last. five_where_suited command name was a took))
five limit command name columns was is a (unreported run took told e finished status fault had) = ((λ h. other a.status 8 5 status h refl), (λ last. five_where_suited command name was a took))
five limit command name columns was is a (printed plain took told none status err) = ((λ h. other a.status 0 5 status h refl), (λ last. five_where_suited command name was a took))
five limit command name columns was is a (unprinted plain took told none status fault) = ((λ h. other a.status 8 5 status h refl), (λ last. five_where_suited command name was a took))
five limit command name columns was is a (wanting q status) = ((λ h. other a.status 9 5 status h refl), (λ last. five_where command name was a (inr status)))
five limit command name columns was is a (refused q status lost why) = ((λ h. other a.status 7 5 status h refl), (λ last. absurd (not_refused is last lost)))
five limit command name columns was is a (unfit q status told text tells not) = ((λ h. (told, (text, tells, not))), (λ last. five_where command name was a (inl status)))
five limit command name columns was is a (unfit_columns q status told run took file text named tells not) = ((λ h. other a.status 6 5 status h refl), (λ last. five_where_suited command name was a took))

-- ---- columns that are refused

no_six : (command : Command) (name : List ℕ) (columns : Option (List ℕ)) (was is : ShelfSeen) (a : Answer) → ¬ (a.status ≡ 6)
    → (command ≡ Run → IsFetched is → (file : List ℕ) → columns ≡ Some file → IfSome (was.holds name) (λ program. SuitsText command program → IfSome (was.holds file) (λ held. ¬ HasColumns held → IsOrWants 6 a)))
    → SixForColumns (Some (command, name, columns)) was is a
no_six command name None was is a never due = never
no_six command name (Some file) was is a never due = ((λ h. absurd (never h)), (λ run last. due run last file refl))

-- what is due for columns that are none
abbrev DueSix : Command → List ℕ → List ℕ → ShelfSeen → Answer → Type 0
DueSix command name file was a = IfSome (was.holds name) (λ program. SuitsText command program → IfSome (was.holds file) (λ held. ¬ HasColumns held → IsOrWants 6 a))

six_where : (command : Command) (name file : List ℕ) (was : ShelfSeen) (a : Answer) → IsOrWants 6 a → DueSix command name file was a
six_where command name file was a due = if_some_all (was.holds name) (λ program. SuitsText command program → IfSome (was.holds file) (λ held. ¬ HasColumns held → IsOrWants 6 a))
    (λ program suits. if_some_all (was.holds file) (λ held. ¬ HasColumns held → IsOrWants 6 a) (λ held not. due))

six_where_unsuited : (command : Command) (name file text : List ℕ) (was : ShelfSeen) (a : Answer) → Holds was name text → ¬ SuitsText command text → DueSix command name file was a
six_where_unsuited command name file text was a tells not =
    if_some (was.holds name) (λ held. text ≡ held) (λ program. SuitsText command program → IfSome (was.holds file) (λ held. ¬ HasColumns held → IsOrWants 6 a))
    (λ program e suits. absurd (not (subst (SuitsText command) (sym e) suits))) tells

six_where_read : (command : Command) (name file : List ℕ) (was : ShelfSeen) (a : Answer) → IfSome (was.holds file) HasColumns → DueSix command name file was a
six_where_read command name file was a has = if_some_all (was.holds name) (λ program. SuitsText command program → IfSome (was.holds file) (λ held. ¬ HasColumns held → IsOrWants 6 a))
    (λ program suits. if_some (was.holds file) HasColumns (λ held. ¬ HasColumns held → IsOrWants 6 a) (λ held got not. absurd (not got)) has)

six_refused : (command : Command) (name : List ℕ) (columns : Option (List ℕ)) (was is : ShelfSeen) (a : Answer) → a.status ≡ 6 → IsFetched is → command ≡ Run → Took (Suits command) name was → (file text : List ℕ) → columns ≡ Some file → Holds was file text → ¬ HasColumns text
    → SixForColumns (Some (command, name, columns)) was is a
six_refused command name None was is a status told run took file text named tells not = cc
six_refused command name (Some other_file) was is a status told run took file text named tells not =
    let e : file ≡ other_file = cc in
    ((λ h. (run, told, (took.text, took.tells, took.suits), (text, subst (λ f. IfSome (was.holds f) (λ held. text ≡ held)) e tells, not))), (λ run last. six_where command name other_file was a (inl status)))

six : (limit : ℕ) (command : Command) (name : List ℕ) (columns : Option (List ℕ)) (was is : ShelfSeen) (a : Answer) → Came limit command name columns was is a → SixForColumns (Some (command, name, columns)) was is a
six limit command name columns was is a (ran run took told e finished shows by_roots err had) = no_six command name columns was is a (λ h. shown_not limit e a.status 6 shows h refl refl refl refl) (λ r last file named. six_where_read command name file was a (had file named))
six limit command name columns was is a (unreported run took told e finished status fault had) = no_six command name columns was is a (λ h. other a.status 8 6 status h refl) (λ r last file named. six_where_read command name file was a (had file named))
six limit command name columns was is a (printed plain took told none status err) = no_six command name columns was is a (λ h. other a.status 0 6 status h refl) (λ r last file named. absurd (plain r))
six limit command name columns was is a (unprinted plain took told none status fault) = no_six command name columns was is a (λ h. other a.status 8 6 status h refl) (λ r last file named. absurd (plain r))
six limit command name columns was is a (wanting q status) = no_six command name columns was is a (λ h. other a.status 9 6 status h refl) (λ r last file named. six_where command name file was a (inr status))
six limit command name columns was is a (refused q status lost why) = no_six command name columns was is a (λ h. other a.status 7 6 status h refl) (λ r last file named. absurd (not_refused is last lost))
six limit command name columns was is a (unfit q status told text tells not) = no_six command name columns was is a (λ h. other a.status 5 6 status h refl) (λ r last file named. six_where_unsuited command name file text was a tells not)
six limit command name columns was is a (unfit_columns q status told run took file text named tells not) = six_refused command name columns was is a status told run took file text named tells not

seven : (limit : ℕ) (command : Command) (name : List ℕ) (columns : Option (List ℕ)) (was is : ShelfSeen) (a : Answer) → Came limit command name columns was is a → SevenForFetch (Some (command, name, columns)) was is a
seven limit command name columns was is a (ran run took told e finished shows by_roots err had) = ((λ h. shown_not limit e a.status 7 shows h refl refl refl refl), (λ r. absurd (not_refused is told r)))
seven limit command name columns was is a (unreported run took told e finished status fault had) = ((λ h. other a.status 8 7 status h refl), (λ r. absurd (not_refused is told r)))
seven limit command name columns was is a (printed plain took told none status err) = ((λ h. other a.status 0 7 status h refl), (λ r. absurd (not_refused is told r)))
seven limit command name columns was is a (unprinted plain took told none status fault) = ((λ h. other a.status 8 7 status h refl), (λ r. absurd (not_refused is told r)))
seven limit command name columns was is a (wanting q status) = ((λ h. other a.status 9 7 status h refl), (λ r. inr status))
seven limit command name columns was is a (refused q status lost why) = ((λ h. (lost, why)), (λ r. inl status))
seven limit command name columns was is a (unfit q status told text tells not) = ((λ h. other a.status 5 7 status h refl), (λ r. absurd (not_refused is told r)))
seven limit command name columns was is a (unfit_columns q status told run took file text named tells not) = ((λ h. other a.status 6 7 status h refl), (λ r. absurd (not_refused is told r)))

eight : (limit : ℕ) (command : Command) (name : List ℕ) (columns : Option (List ℕ)) (was is : ShelfSeen) (a : Answer) → Came limit command name columns was is a → EightForOut a
eight limit command name columns was is a (ran run took told e finished shows by_roots err had) h = shown_not limit e a.status 8 shows h refl refl refl refl
eight limit command name columns was is a (unreported run took told e finished status fault had) h = fault
eight limit command name columns was is a (printed plain took told none status err) h = other a.status 0 8 status h refl
eight limit command name columns was is a (unprinted plain took told none status fault) h = fault
eight limit command name columns was is a (wanting q status) h = other a.status 9 8 status h refl
eight limit command name columns was is a (refused q status last why) h = other a.status 7 8 status h refl
eight limit command name columns was is a (unfit q status told text tells not) h = other a.status 5 8 status h refl
eight limit command name columns was is a (unfit_columns q status told run took file text named tells not) h = other a.status 6 8 status h refl

zero_printed : (limit : ℕ) (command : Command) (name : List ℕ) (columns : Option (List ℕ)) (was is : ShelfSeen) (a : Answer) → Came limit command name columns was is a → ZeroForPrinted (Some (command, name, columns)) was is a
zero_printed limit command name columns was is a c plain last = by c where
  by : Came limit command name columns was is a → IfSome (was.holds name) (λ held. SuitsText command held → (¬ Rose a.out_was.faults a.out_is.faults) → IsOrWants 0 a)
  by (ran run took told e finished shows by_roots err had) = absurd (plain run)
  by (unreported run took told e finished status fault had) = absurd (plain run)
  by (printed p took told none status err) = if_some_all (was.holds name) (λ held. SuitsText command held → (¬ Rose a.out_was.faults a.out_is.faults) → IsOrWants 0 a) (λ held suits no. inl status)
  by (unprinted p took told none status fault) = if_some_all (was.holds name) (λ held. SuitsText command held → (¬ Rose a.out_was.faults a.out_is.faults) → IsOrWants 0 a) (λ held suits no. absurd (no fault))
  by (wanting q status) = if_some_all (was.holds name) (λ held. SuitsText command held → (¬ Rose a.out_was.faults a.out_is.faults) → IsOrWants 0 a) (λ held suits no. inr status)
  by (refused q status lost why) = absurd (not_refused is last lost)
  by (unfit q status told text tells not) = if_some (was.holds name) (λ held. text ≡ held) (λ held. SuitsText command held → (¬ Rose a.out_was.faults a.out_is.faults) → IsOrWants 0 a)
      (λ held e suits no. absurd (not (subst (SuitsText command) (sym e) suits))) tells
  by (unfit_columns q status told run took file text named tells not) = absurd (plain run)

held_columns : (columns : Option (List ℕ)) (was : ShelfSeen) (file text : List ℕ) → columns ≡ Some file → Holds was file text → ¬ HasColumns text → HoldsColumns was columns → ⊥
held_columns None was file text named tells not holds = cc
held_columns (Some other_file) was file text named tells not holds =
    let e : file ≡ other_file = cc in by (was.holds other_file) (subst (λ f. IfSome (was.holds f) (λ held. text ≡ held)) e tells) holds where
      by : (o : Option (List ℕ)) → IfSome o (λ held. text ≡ held) → IsSomeAnd o HasColumns → ⊥
      by None t h = h
      by (Some held) t h = not (subst HasColumns (sym t) h)

-- the statuses of a run
abbrev OfRun : Answer → Type 0
OfRun a = IsDone a.status ⊎ (a.status ≡ 8)

of_run : (limit : ℕ) (a : Answer) (e : EndSeen) → Shows limit e a.status → OfRun a
of_run limit a e (all_numbers is each) = inl (inl is)
of_run limit a e (none_cut is any each) = inl (inr (inl is))
of_run limit a e (some_null is any) = inl (inr (inr (inl is)))
of_run limit a e (limited is any each met) = inl (inr (inr (inr is)))

run_suited : (limit : ℕ) (command : Command) (name : List ℕ) (columns : Option (List ℕ)) (was is : ShelfSeen) (a : Answer) → Came limit command name columns was is a → RunForSuited (Some (command, name, columns)) was is a
run_suited limit command name columns was is a c run last = by c where
  by : Came limit command name columns was is a → IfSome (was.holds name) (λ held. SuitsText command held → HoldsColumns was columns → OfRun a ⊎ (a.status ≡ 9))
  by (ran r took told e finished shows by_roots err had) = if_some_all (was.holds name) (λ held. SuitsText command held → HoldsColumns was columns → OfRun a ⊎ (a.status ≡ 9)) (λ held suits has. inl (of_run limit a e shows))
  by (unreported r took told e finished status fault had) = if_some_all (was.holds name) (λ held. SuitsText command held → HoldsColumns was columns → OfRun a ⊎ (a.status ≡ 9)) (λ held suits has. inl (inr status))
  by (printed plain took told none status err) = absurd (plain run)
  by (unprinted plain took told none status fault) = absurd (plain run)
  by (wanting q status) = if_some_all (was.holds name) (λ held. SuitsText command held → HoldsColumns was columns → OfRun a ⊎ (a.status ≡ 9)) (λ held suits has. inr status)
  by (refused q status lost why) = absurd (not_refused is last lost)
  by (unfit q status told text tells not) = if_some (was.holds name) (λ held. text ≡ held) (λ held. SuitsText command held → HoldsColumns was columns → OfRun a ⊎ (a.status ≡ 9))
      (λ held e suits has. absurd (not (subst (SuitsText command) (sym e) suits))) tells
  by (unfit_columns q status told r took file text named tells not) = if_some_all (was.holds name) (λ held. SuitsText command held → HoldsColumns was columns → OfRun a ⊎ (a.status ≡ 9)) (λ held suits has. absurd (held_columns columns was file text named tells not has))

not_done_at : {P : Type 0} (a : Answer) (m : ℕ) → a.status ≡ m → nat_eq m 0 ≡ false → nat_eq m 1 ≡ false → nat_eq m 3 ≡ false → nat_eq m 4 ≡ false → IsDone a.status → P
not_done_at a m is w x y z (inl e) = other a.status m 0 is e w
not_done_at a m is w x y z (inr (inl e)) = other a.status m 1 is e x
not_done_at a m is w x y z (inr (inr (inl e))) = other a.status m 3 is e y
not_done_at a m is w x y z (inr (inr (inr e))) = other a.status m 4 is e z

silent : (limit : ℕ) (command : Command) (name : List ℕ) (columns : Option (List ℕ)) (was is : ShelfSeen) (a : Answer) → Came limit command name columns was is a → SilentWhereDone a
silent limit command name columns was is a (ran run took told e finished shows by_roots err had) h = err
silent limit command name columns was is a (unreported run took told e finished status fault had) h = not_done_at a 8 status refl refl refl refl h
silent limit command name columns was is a (printed plain took told none status err) h = err
silent limit command name columns was is a (unprinted plain took told none status fault) h = not_done_at a 8 status refl refl refl refl h
silent limit command name columns was is a (wanting q status) h = not_done_at a 9 status refl refl refl refl h
silent limit command name columns was is a (refused q status last why) h = not_done_at a 7 status refl refl refl refl h
silent limit command name columns was is a (unfit q status told text tells not) h = not_done_at a 5 status refl refl refl refl h
silent limit command name columns was is a (unfit_columns q status told run took file text named tells not) h = not_done_at a 6 status refl refl refl refl h

-- the statuses of a refusal
abbrev OfRefusal : Answer → Type 0
OfRefusal a = (a.status ≡ 2) ⊎ ((a.status ≡ 5) ⊎ ((a.status ≡ 6) ⊎ ((a.status ≡ 7) ⊎ (a.status ≡ 9))))

no_refusal_at : {P : Type 0} (a : Answer) (m : ℕ) → a.status ≡ m → nat_eq m 2 ≡ false → nat_eq m 5 ≡ false → nat_eq m 6 ≡ false → nat_eq m 7 ≡ false → nat_eq m 9 ≡ false → OfRefusal a → P
no_refusal_at a m is w x v y z (inl e) = other a.status m 2 is e w
no_refusal_at a m is w x v y z (inr (inl e)) = other a.status m 5 is e x
no_refusal_at a m is w x v y z (inr (inr (inl e))) = other a.status m 6 is e v
no_refusal_at a m is w x v y z (inr (inr (inr (inl e)))) = other a.status m 7 is e y
no_refusal_at a m is w x v y z (inr (inr (inr (inr e)))) = other a.status m 9 is e z

no_refusal_shown : {P : Type 0} (limit : ℕ) (a : Answer) (e : EndSeen) → Shows limit e a.status → OfRefusal a → P
no_refusal_shown limit a e (all_numbers is each) r = no_refusal_at a 0 is refl refl refl refl refl r
no_refusal_shown limit a e (none_cut is any each) r = no_refusal_at a 1 is refl refl refl refl refl r
no_refusal_shown limit a e (some_null is any) r = no_refusal_at a 3 is refl refl refl refl refl r
no_refusal_shown limit a e (limited is any each met) r = no_refusal_at a 4 is refl refl refl refl refl r

quiet : (limit : ℕ) (command : Command) (name : List ℕ) (columns : Option (List ℕ)) (was is : ShelfSeen) (a : Answer) → Came limit command name columns was is a → QuietWhereRefused a
quiet limit command name columns was is a (ran run took told e finished shows by_roots err had) r = no_refusal_shown limit a e shows r
quiet limit command name columns was is a (unreported run took told e finished status fault had) r = no_refusal_at a 8 status refl refl refl refl refl r
quiet limit command name columns was is a (printed plain took told none status err) r = no_refusal_at a 0 status refl refl refl refl refl r
quiet limit command name columns was is a (unprinted plain took told none status fault) r = no_refusal_at a 8 status refl refl refl refl refl r
quiet limit command name columns was is a (wanting q status) r = q.out
quiet limit command name columns was is a (refused q status last why) r = q.out
quiet limit command name columns was is a (unfit q status told text tells not) r = q.out
quiet limit command name columns was is a (unfit_columns q status told run took file text named tells not) r = q.out

of_run_alone_not : {P : Type 0} (a : Answer) (m : ℕ) → a.status ≡ m → nat_eq m 1 ≡ false → nat_eq m 3 ≡ false → nat_eq m 4 ≡ false → IsOfRunAlone a.status → P
of_run_alone_not a m is x y z (inl e) = other a.status m 1 is e x
of_run_alone_not a m is x y z (inr (inl e)) = other a.status m 3 is e y
of_run_alone_not a m is x y z (inr (inr e)) = other a.status m 4 is e z

no_run_at : {P : Type 0} (a : Answer) (m : ℕ) → a.status ≡ m → nat_eq m 0 ≡ false → nat_eq m 1 ≡ false → nat_eq m 3 ≡ false → nat_eq m 4 ≡ false → nat_eq m 8 ≡ false → OfRun a → P
no_run_at a m is v w x y z (inl done) = not_done_at a m is v w x y done
no_run_at a m is v w x y z (inr e) = other a.status m 8 is e z

-- what `RunsAtStatus` says, by the command
abbrev RunsFor : Command → Answer → Type 0
RunsFor command a = (IsSome a.finished ↔ ((command ≡ Run) × OfRun a)) × (IsOfRunAlone a.status → command ≡ Run)

where_run : (command : Command) (a : Answer) → command ≡ Run → (e : EndSeen) → a.finished ≡ Some e → OfRun a → RunsFor command a
where_run command a run e finished status = (((λ some. (run, status)), (λ h. ap is_some finished)), (λ h. run))

where_printed : (command : Command) (a : Answer) (m : ℕ) → ¬ (command ≡ Run) → IsNone a.finished → a.status ≡ m
    → nat_eq m 1 ≡ false → nat_eq m 3 ≡ false → nat_eq m 4 ≡ false → RunsFor command a
where_printed command a m plain none status x y z =
    (((λ some. some_for_none a.finished some none), (λ h. absurd (plain h.0))), (λ h. of_run_alone_not a m status x y z h))

where_stopped : (command : Command) (a : Answer) (m : ℕ) → IsNone a.finished → a.status ≡ m
    → nat_eq m 0 ≡ false → nat_eq m 1 ≡ false → nat_eq m 3 ≡ false → nat_eq m 4 ≡ false → nat_eq m 8 ≡ false → RunsFor command a
where_stopped command a m none status v w x y z =
    (((λ some. some_for_none a.finished some none), (λ h. no_run_at a m status v w x y z h.1)), (λ h. of_run_alone_not a m status w x y h))

runs : (limit : ℕ) (command : Command) (name : List ℕ) (columns : Option (List ℕ)) (was is : ShelfSeen) (a : Answer) → Came limit command name columns was is a → RunsFor command a
runs limit command name columns was is a (ran run took told e finished shows by_roots err had) = where_run command a run e finished (of_run limit a e shows)
runs limit command name columns was is a (unreported run took told e finished status fault had) = where_run command a run e finished (inr status)
runs limit command name columns was is a (printed plain took told none status err) = where_printed command a 0 plain none status refl refl refl
runs limit command name columns was is a (unprinted plain took told none status fault) = where_printed command a 8 plain none status refl refl refl
runs limit command name columns was is a (wanting q status) = where_stopped command a 9 q.no_run status refl refl refl refl refl
runs limit command name columns was is a (refused q status last why) = where_stopped command a 7 q.no_run status refl refl refl refl refl
runs limit command name columns was is a (unfit q status told text tells not) = where_stopped command a 5 q.no_run status refl refl refl refl refl
runs limit command name columns was is a (unfit_columns q status told run took file text named tells not) = where_stopped command a 6 q.no_run status refl refl refl refl refl

-- what the status says of an end that is answered
abbrev EndsFor : ℕ → Answer → Type 0
EndsFor limit a = IfSome a.finished (λ e. IsStatusOf limit e a.status)

end_by : (limit : ℕ) (a : Answer) (e : EndSeen) → a.finished ≡ Some e → IsStatusOf limit e a.status → EndsFor limit a
end_by limit a e finished by = subst (λ o. IfSome o (λ x. IsStatusOf limit x a.status)) (sym finished) by

shown : (limit : ℕ) (e : EndSeen) (status : ℕ) → status ≡ status_of_ends e.roots → Shows limit e status → IsStatusOf limit e status
shown limit e status by (all_numbers is each) = record {
  zero = λ h. each;
  one = λ h. other status 0 1 is h refl;
  three = λ h. other status 0 3 is h refl;
  four = λ h. other status 0 4 is h refl;
  by_roots = λ no. by;
}
shown limit e status by (none_cut is any each) = record {
  zero = λ h. other status 1 0 is h refl;
  one = λ h. (any, each);
  three = λ h. other status 1 3 is h refl;
  four = λ h. other status 1 4 is h refl;
  by_roots = λ no. by;
}
shown limit e status by (some_null is any) = record {
  zero = λ h. other status 3 0 is h refl;
  one = λ h. other status 3 1 is h refl;
  three = λ h. any;
  four = λ h. other status 3 4 is h refl;
  by_roots = λ no. by;
}
shown limit e status by (limited is any each met) = record {
  zero = λ h. other status 4 0 is h refl;
  one = λ h. other status 4 1 is h refl;
  three = λ h. other status 4 3 is h refl;
  four = λ h. (any, each, met);
  by_roots = λ no. by;
}

-- at 8 nothing is said
unshown : (limit : ℕ) (e : EndSeen) (status : ℕ) → status ≡ 8 → IsStatusOf limit e status
unshown limit e status is = record {
  zero = λ h. other status 8 0 is h refl;
  one = λ h. other status 8 1 is h refl;
  three = λ h. other status 8 3 is h refl;
  four = λ h. other status 8 4 is h refl;
  by_roots = λ no. absurd (no is);
}

no_end : (limit : ℕ) (a : Answer) → IsNone a.finished → EndsFor limit a
no_end limit a none = by a.finished none where
  by : (o : Option EndSeen) → IsNone o → IfSome o (λ x. IsStatusOf limit x a.status)
  by None n = tt
  by (Some x) n = cc

ends : (limit : ℕ) (command : Command) (name : List ℕ) (columns : Option (List ℕ)) (was is : ShelfSeen) (a : Answer) → Came limit command name columns was is a → EndsFor limit a
ends limit command name columns was is a (ran run took told e finished shows by_roots err had) = end_by limit a e finished (shown limit e a.status by_roots shows)
ends limit command name columns was is a (unreported run took told e finished status fault had) = end_by limit a e finished (unshown limit e a.status status)
ends limit command name columns was is a (printed plain took told none status err) = no_end limit a none
ends limit command name columns was is a (unprinted plain took told none status fault) = no_end limit a none
ends limit command name columns was is a (wanting q status) = no_end limit a q.no_run
ends limit command name columns was is a (refused q status last why) = no_end limit a q.no_run
ends limit command name columns was is a (unfit q status told text tells not) = no_end limit a q.no_run
ends limit command name columns was is a (unfit_columns q status told run took file text named tells not) = no_end limit a q.no_run

-- ---- each choice

-- the clauses of a choice that asks the shelf for files
asking : (chosen : Choice) (limit : ℕ) (command : Command) (name : List ℕ) (columns : Option (List ℕ)) (was is : ShelfSeen) (a : Answer)
    → asked_by chosen ≡ Some (command, name, columns) → Came limit command name columns was is a
    → EndsByStatus (Some chosen) a → RunsAtStatus (Some chosen) a → DoneUnasked (Some chosen) a → StatusHasCause (Some chosen) was is a
asking chosen limit command name columns was is a asked c ended ran_at help = record {
  ends = ended;
  runs = ran_at;
  zero_printed = subst (λ o. ZeroForPrinted o was is a) (sym asked) (zero_printed limit command name columns was is a c);
  done_unasked = help;
  run_suited = subst (λ o. RunForSuited o was is a) (sym asked) (run_suited limit command name columns was is a c);
  two = ((λ h. absurd (not_two limit command name columns was is a c h)), (λ none. cc));
  five = subst (λ o. FiveForText o was is a) (sym asked) (five limit command name columns was is a c);
  six = subst (λ o. SixForColumns o was is a) (sym asked) (six limit command name columns was is a c);
  seven = subst (λ o. SevenForFetch o was is a) (sym asked) (seven limit command name columns was is a c);
  eight = eight limit command name columns was is a c;
  quiet = quiet limit command name columns was is a c;
  silent = silent limit command name columns was is a c;
}

run_causes : (run : RunWords) (was is : ShelfSeen) (a : Answer) → Came run.plan.limit Run run.program run.columns was is a → StatusHasCause (Some (choice.Run run)) was is a
run_causes run was is a c =
    let r = runs run.plan.limit Run run.program run.columns was is a c in
    asking (choice.Run run) run.plan.limit Run run.program run.columns was is a refl c
    (ends run.plan.limit Run run.program run.columns was is a c)
    (((λ some. (tt, (r.0.0 some).1)), (λ h. r.0.1 (refl, h.1))), (λ h. tt)) tt

six_as : (name : List ℕ) (columns : Option (List ℕ)) (was is : ShelfSeen) (a : Answer) (finished : Option EndSeen)
    → SixForColumns (Some (Run, name, columns)) was is (record a { finished = finished }) → SixForColumns (Some (Run, name, columns)) was is a
six_as name None was is a finished h = h
six_as name (Some file) was is a finished h = h

-- the same answer without the end: the clauses say nothing of it but where they speak of an end
plain_from : (run : RunWords) (was is : ShelfSeen) (a : Answer) (finished : Option EndSeen) → IsNone a.finished → (IsDone a.status → ToldBy run.plan a)
    → StatusHasCause (Some (choice.Run run)) was is (record a { finished = finished }) → StatusHasCause (Some (choice.Plain run)) was is a
plain_from run was is a finished none told s = record {
  ends = told;
  runs = (((λ some. some_for_none a.finished some none), (λ h. absurd h.0)), (λ h. tt));
  zero_printed = s.zero_printed;
  done_unasked = tt;
  run_suited = s.run_suited;
  two = ((λ h. some_choice_none (Some (choice.Run run)) refl (s.two.0 h)), (λ none_chosen. cc));
  five = s.five;
  six = six_as run.program run.columns was is a finished s.six;
  seven = s.seven;
  eight = s.eight;
  quiet = s.quiet;
  silent = s.silent;
}

told_by : (run : RunWords) (input : Program × Columns) (e : EndSeen) (a : Answer) → IsRunOf (order_of run input) e
    → Writes (order_text (order_of run input) e) (status_of_ends e.roots) a → IsDone a.status → ToldBy run.plan a
told_by run input e a is_run (inl t) done = record {
  order = order_of run input;
  same_plan = refl;
  end = e;
  run = is_run;
  status = shown run.plan.limit e a.status t.status_is
      (subst (λ n. Shows run.plan.limit e n) (sym t.status_is) (run_shows input.0 input.1 run.plan e is_run.formed is_run.sound));
  report = t.out;
}
told_by run input e a is_run (inr t) done = not_done_at a 8 t.told.status_is refl refl refl refl done

plain_causes : (run : RunWords) (was is : ShelfSeen) (a : Answer)
    → Reaches (input_under run.program run.columns) (λ input. RunsUntold (order_of run input)) (named_for run.program run.columns) was is a
    → StatusHasCause (Some (choice.Plain run)) was is a
plain_causes run was is a r = by r.reached r.follows r.ended where
  by : (reached : Result (Program × Columns) Stop) → input_under run.program run.columns was is reached
      → MatchResult reached (λ input. RunsUntold (order_of run input) a) (λ s. Stops s (named_for run.program run.columns s) a) → StatusHasCause (Some (choice.Plain run)) was is a
  by (Ok input) follows h =
      let ended : Answer = record a { finished = Some h.end } in
      let ran_to : RunsTo (order_of run input) h.end ended = record {
        run = h.ran.run;
        offered = writes_as (order_text (order_of run input) h.end) (status_of_ends h.end.roots) a (Some h.end) h.ran.offered;
      } in
      let same : Runs (order_of run input) ended = record { end = h.end; finished = refl; ran = ran_to } in
      let c = came_run run was is ended (record { reached = Ok input; follows = follows; ended = same }) in
      plain_from run was is a (Some h.end) h.untold
      (told_by run input h.end a h.ran.run h.ran.offered)
      (run_causes run was is ended c)
  by (Err s) follows h =
      let c = came_run run was is a (record { reached = Err s; follows = follows; ended = h }) in
      let causes = run_causes run was is a c in
      plain_from run was is a a.finished h.no_run
      (λ done. some_for_none a.finished (causes.runs.0.1 (tt, inl done)) h.no_run) causes

check_causes : (name : List ℕ) (was is : ShelfSeen) (a : Answer) → Came 0 Check name None was is a → StatusHasCause (Some (choice.Check name)) was is a
check_causes name was is a c =
    let r = runs 0 Check name None was is a c in
    asking (choice.Check name) 0 Check name None was is a refl c tt
    (((λ some. absurd (check_is_no_run (r.0.0 some).0)), (λ h. absurd h.0)), (λ h. absurd (check_is_no_run (r.1 h)))) tt

print_causes : (name : List ℕ) (was is : ShelfSeen) (a : Answer) → Came 0 Print name None was is a → StatusHasCause (Some (choice.Print name)) was is a
print_causes name was is a c =
    let r = runs 0 Print name None was is a c in
    asking (choice.Print name) 0 Print name None was is a refl c tt
    (((λ some. absurd (print_is_no_run (r.0.0 some).0)), (λ h. absurd h.0)), (λ h. absurd (print_is_no_run (r.1 h)))) tt

-- the clauses where the shelf is asked for nothing
record Unasked (chosen : Option Choice) (a : Answer) : Type 0 where
  nothing : option_and_then asked_by chosen ≡ None
  no_five : ¬ (a.status ≡ 5)
  no_six : ¬ (a.status ≡ 6)
  no_seven : ¬ (a.status ≡ 7)

unasked : (chosen : Option Choice) (was is : ShelfSeen) (a : Answer) → Unasked chosen a
    → EndsByStatus chosen a → RunsAtStatus chosen a → DoneUnasked chosen a → TwoForWords chosen a → EightForOut a → QuietWhereRefused a → SilentWhereDone a
    → StatusHasCause chosen was is a
unasked chosen was is a u ended ran_at help words out taken told = record {
  ends = ended;
  runs = ran_at;
  zero_printed = subst (λ o. ZeroForPrinted o was is a) (sym u.nothing) tt;
  done_unasked = help;
  run_suited = subst (λ o. RunForSuited o was is a) (sym u.nothing) tt;
  two = words;
  five = subst (λ o. FiveForText o was is a) (sym u.nothing) u.no_five;
  six = subst (λ o. SixForColumns o was is a) (sym u.nothing) u.no_six;
  seven = subst (λ o. SevenForFetch o was is a) (sym u.nothing) u.no_seven;
  eight = out;
  quiet = taken;
  silent = told;
}

unasked_at : (chosen : Option Choice) (a : Answer) (m : ℕ) → option_and_then asked_by chosen ≡ None → a.status ≡ m → nat_eq m 5 ≡ false → nat_eq m 6 ≡ false → nat_eq m 7 ≡ false → Unasked chosen a
unasked_at chosen a m none is x y z = record {
  nothing = none;
  no_five = λ h. other a.status m 5 is h x;
  no_six = λ h. other a.status m 6 is h y;
  no_seven = λ h. other a.status m 7 is h z;
}

-- nothing was run
no_run : (chosen : Option Choice) (a : Answer) → ¬ IsAnswered chosen → IsNone a.finished → (IsOfRunAlone a.status → ⊥) → RunsAtStatus chosen a
no_run chosen a not none alone =
    (((λ some. some_for_none a.finished some none), (λ h. absurd (not h.0))), (λ h. absurd (alone h)))

-- where the words are refused
refused_causes : (was is : ShelfSeen) (a : Answer) → Quiet a → a.status ≡ 2 → StatusHasCause None was is a
refused_causes was is a q status = unasked None was is a (unasked_at None a 2 refl status refl refl refl) tt
    (no_run None a (λ h. h) q.no_run (λ h. of_run_alone_not a 2 status refl refl refl h)) tt
    ((λ h. refl), (λ none. inl status)) (λ h. other a.status 2 8 status h refl) (λ h. q.out) (λ h. not_done_at a 2 status refl refl refl refl h)

-- where memory runs out and nothing is asked for
wanting_causes : (chosen : Option Choice) (was is : ShelfSeen) (a : Answer) → option_and_then asked_by chosen ≡ None → ¬ IsAnswered chosen
    → EndsByStatus chosen a → DoneUnasked chosen a → Quiet a → a.status ≡ 9 → StatusHasCause chosen was is a
wanting_causes chosen was is a nothing not ended help q status = unasked chosen was is a (unasked_at chosen a 9 nothing status refl refl refl) ended
    (no_run chosen a not q.no_run (λ h. of_run_alone_not a 9 status refl refl refl h)) help
    ((λ h. other a.status 9 2 status h refl), (λ none. inr status)) (λ h. other a.status 9 8 status h refl) (λ h. q.out) (λ h. not_done_at a 9 status refl refl refl refl h)

help_causes : (was is : ShelfSeen) (a : Answer) (text : List ℕ) → IsNone a.finished → Writes text 0 a → StatusHasCause (Some choice.Help) was is a
help_causes was is a text none (inl t) = unasked (Some choice.Help) was is a (unasked_at (Some choice.Help) a 0 refl t.status_is refl refl refl) tt
    (no_run (Some choice.Help) a (λ h. h) none (λ h. of_run_alone_not a 0 t.status_is refl refl refl h)) (λ no_fault. inl t.status_is)
    ((λ h. other a.status 0 2 t.status_is h refl), (λ none_chosen. cc)) (λ h. other a.status 0 8 t.status_is h refl)
    (λ h. no_refusal_at a 0 t.status_is refl refl refl refl refl h) (λ h. t.err)
help_causes was is a text none (inr t) =
    let status : a.status ≡ 8 = t.told.status_is in
    unasked (Some choice.Help) was is a (unasked_at (Some choice.Help) a 8 refl status refl refl refl) tt
    (no_run (Some choice.Help) a (λ h. h) none (λ h. of_run_alone_not a 8 status refl refl refl h)) (λ no_fault. absurd (no_fault t.fault))
    ((λ h. other a.status 8 2 status h refl), (λ none_chosen. cc)) (λ h. t.fault)
    (λ h. no_refusal_at a 8 status refl refl refl refl refl h) (λ h. not_done_at a 8 status refl refl refl refl h)

-- where a program of a family was run
bench_reported : (bench : BenchWords) (was is : ShelfSeen) (a : Answer) (h : Runs (bench_order bench) a)
    → Writes (order_text (bench_order bench) h.end) (status_of_ends h.end.roots) a → StatusHasCause (Some (choice.Bench bench)) was is a
bench_reported bench was is a h (inl t) =
    let chosen : Option Choice = Some (choice.Bench bench) in
    let o = bench_order bench in
    let shows : Shows bench_plan.limit h.end a.status =
    subst (λ n. Shows bench_plan.limit h.end n) (sym t.status_is) (run_shows o.program o.columns bench_plan h.end h.ran.run.formed h.ran.run.sound) in
    unasked chosen was is a
    (record {
      nothing = refl;
      no_five = λ e. shown_not bench_plan.limit h.end a.status 5 shows e refl refl refl refl;
      no_six = λ e. shown_not bench_plan.limit h.end a.status 6 shows e refl refl refl refl;
      no_seven = λ e. shown_not bench_plan.limit h.end a.status 7 shows e refl refl refl refl;
    })
    (end_by bench_plan.limit a h.end h.finished (shown bench_plan.limit h.end a.status t.status_is shows))
    (((λ some. (tt, of_run bench_plan.limit a h.end shows)), (λ k. ap is_some h.finished)), (λ k. tt)) (inl (ap is_some h.finished))
    ((λ e. shown_not bench_plan.limit h.end a.status 2 shows e refl refl refl refl), (λ none. cc))
    (λ e. shown_not bench_plan.limit h.end a.status 8 shows e refl refl refl refl)
    (λ k. no_refusal_shown bench_plan.limit a h.end shows k) (λ k. t.err)
bench_reported bench was is a h (inr t) =
    let chosen : Option Choice = Some (choice.Bench bench) in
    let status : a.status ≡ 8 = t.told.status_is in
    unasked chosen was is a (unasked_at chosen a 8 refl status refl refl refl)
    (end_by bench_plan.limit a h.end h.finished (unshown bench_plan.limit h.end a.status status))
    (((λ some. (tt, inr status)), (λ k. ap is_some h.finished)), (λ k. tt)) (inl (ap is_some h.finished))
    ((λ e. other a.status 8 2 status e refl), (λ none. cc)) (λ e. t.fault)
    (λ k. no_refusal_at a 8 status refl refl refl refl refl k) (λ k. not_done_at a 8 status refl refl refl refl k)

bench_wanting : (bench : BenchWords) (was is : ShelfSeen) (a : Answer) → Quiet a → a.status ≡ 9 → StatusHasCause (Some (choice.Bench bench)) was is a
bench_wanting bench was is a q status =
    let chosen : Option Choice = Some (choice.Bench bench) in
    unasked chosen was is a (unasked_at chosen a 9 refl status refl refl refl)
    (no_end bench_plan.limit a q.no_run)
    (((λ some. some_for_none a.finished some q.no_run), (λ k. no_run_at a 9 status refl refl refl refl refl k.1)), (λ k. tt)) (inr status)
    ((λ e. other a.status 9 2 status e refl), (λ none. cc)) (λ e. other a.status 9 8 status e refl)
    (λ k. q.out) (λ k. not_done_at a 9 status refl refl refl refl k)

bench_causes : (bench : BenchWords) (was is : ShelfSeen) (a : Answer) → RunsOrWants (bench_order bench) a → StatusHasCause (Some (choice.Bench bench)) was is a
bench_causes bench was is a (inl h) = bench_reported bench was is a h h.ran.offered
bench_causes bench was is a (inr h) = bench_wanting bench was is a (quiet_stop stop.WantOfMemory [] a h) h.told.status_is

-- where memory ran out at the words
wanted : (chosen : Choice) (was is : ShelfSeen) (a : Answer) → Quiet a → a.status ≡ 9 → StatusHasCause (Some chosen) was is a
wanted (choice.Run run) was is a q status = run_causes run was is a (wanting q status)
wanted (choice.Bench bench) was is a q status = bench_wanting bench was is a q status
wanted (choice.Plain run) was is a q status = plain_from run was is a a.finished q.no_run (λ done. not_done_at a 9 status refl refl refl refl done)
    (run_causes run was is a (wanting q status))
wanted (choice.Check name) was is a q status = check_causes name was is a (wanting q status)
wanted (choice.Print name) was is a q status = print_causes name was is a (wanting q status)
wanted choice.Help was is a q status = wanting_causes (Some choice.Help) was is a refl (λ h. h) tt (λ no_fault. inr status) q status

choice_causes : (chosen : Choice) (was is : ShelfSeen) (a : Answer) → DoesChoice chosen was is a → StatusHasCause (Some chosen) was is a
choice_causes (choice.Run run) was is a r = run_causes run was is a (came_run run was is a r)
choice_causes (choice.Bench bench) was is a (same, h) = bench_causes bench was is a h
choice_causes (choice.Plain run) was is a r = plain_causes run was is a r
choice_causes (choice.Check name) was is a r = check_causes name was is a (came_check 0 name was is a r)
choice_causes (choice.Print name) was is a r = print_causes name was is a (came_print 0 name was is a r)
choice_causes choice.Help was is a (same, h) = help_causes was is a help_text h.no_run h.offered

pub status_has_cause : (chosen : Option Choice) (was is : ShelfSeen) (a : Answer) → Does chosen was is a → StatusHasCause chosen was is a
status_has_cause None was is a (inl (same, h)) = refused_causes was is a (quiet_stop stop.WordsRefused _ a h) h.told.status_is
status_has_cause None was is a (inr (same, h)) = wanting_causes None was is a refl (λ h. h) tt tt (quiet_stop stop.WantOfMemory _ a h) h.told.status_is
status_has_cause (Some chosen) was is a (inl h) = choice_causes chosen was is a h
status_has_cause (Some chosen) was is a (inr (same, h)) = wanted chosen was is a (quiet_stop stop.WantOfMemory _ a h) h.told.status_is
