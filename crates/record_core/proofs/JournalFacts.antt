-- What each call writes keeps the journal.
use Rattle.std.proofs.Common.{◌≡◌, ℕ, zero, suc, ◌<◌, Option, Some, None, List, [], ◌∷◌, ◌++◌, length, refl, ap, arith}
use Rattle.std.specs.Prelude.{IsSome, is_some}
use Rattle.record_core.specs.Numbers.{by_number}
use Rattle.record_core.specs.Journal.{empty_journal, finish_of, cause_of, Event, Starts, Finishes, stamp_of, IsJournal}
use Rattle.record_core.specs.declared.rows.Cause.TheVariants.{Clear}
use Rattle.record_core.proofs.TotalFacts.{none_there}

-- what an option has
pub some_value : {A : Type 0} (o : Option A) → IsSome o → (x : A) × (o ≡ Some x)
some_value (Some x) is = (x, refl)
some_value None is = absurd cc

-- an option that has a value is not empty
pub is_some_from : {A : Type 0} (o : Option A) (x : A) → o ≡ Some x → IsSome o
is_some_from o x is = ap is_some is

-- a list by number with one more member has what it had, where the new member reads as none
pub reads-append : {A B : Type 0} (read : Option A → B) (xs : List A) (x : A) → read (Some x) ≡ read None
    → (n : ℕ) → read (by_number (xs ++ x ∷ []) n) ≡ read (by_number xs n)
reads-append read xs x none zero = refl
reads-append read [] x none (suc zero) = none
reads-append read [] x none (suc (suc n)) = refl
reads-append read (y ∷ xs) x none (suc zero) = refl
reads-append read (y ∷ xs) x none (suc (suc n)) = reads-append read xs x none (suc n)

-- the empty journal is one
pub empty-is_journal : (limit : ℕ) → IsJournal (empty_journal limit)
empty-is_journal limit = record {
  beside = refl;
  within = omega arith;
  of_tasks = λ n row at. absurd (nothing n row at);
  finished = λ t f at. absurd (no_finish t f at);
  stamped = record {
    within = λ e s at. absurd (no_stamp e s at);
    once = λ e f s at at'. absurd (no_stamp e s at);
    every = λ s some few. absurd (omega (arith, some, few));
  };
  counted = refl;
  ordered = record {
    behind = λ n u s row at after start. absurd (nothing n row at);
    rise = λ n m s one other b at at' same start. absurd (nothing n one at);
    before = λ n f row at finish. absurd (nothing n row at);
  };
  begun = λ n m one other b at at' same. absurd (nothing n one at);
  caused = λ t unfinished. no_cause t;
  led = λ t u is. absurd (let clear : cause_of [] t ≡ Clear = no_cause t in cc);
}
  where
    nothing : {A : Type 0} (n : ℕ) (x : A) → by_number [] n ≡ Some x → ⊥
    nothing zero x at = none_there x at
    nothing (suc n) x at = none_there x at

    no_finish : (t f : ℕ) → finish_of [] t ≡ Some f → ⊥
    no_finish zero f at = none_there f at
    no_finish (suc t) f at = none_there f at

    no_stamp : (e : Event) (s : ℕ) → stamp_of [] [] e ≡ Some s → ⊥
    no_stamp (Starts zero) s at = none_there s at
    no_stamp (Starts (suc n)) s at = none_there s at
    no_stamp (Finishes zero) s at = none_there s at
    no_stamp (Finishes (suc t)) s at = none_there s at

    no_cause : (t : ℕ) → cause_of [] t ≡ Clear
    no_cause zero = refl
    no_cause (suc t) = refl

-- past its end a list by number has nothing
pub beyond : {A B : Type 0} (read : Option A → B) (xs : List A) (n : ℕ) → length xs < n → read (by_number xs n) ≡ read None
beyond read xs zero b = absurd (omega (arith, b))
beyond read [] (suc n) b = refl
beyond read (y ∷ xs) (suc zero) b = absurd (omega (arith, b))
beyond read (y ∷ xs) (suc (suc n)) b = beyond read xs (suc n) (omega (arith, b))
