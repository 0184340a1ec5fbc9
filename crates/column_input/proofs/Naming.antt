-- The names of a header, taken one after the other.
use Rattle.std.proofs.Common.{◌≡◌, ℕ, ◌+◌, ◌<◌, ◌≤◌, Bool, true, false, cond, Result, Ok, Err, List, [], ◌∷◌, ◌++◌, length, drop, take, sym, ◌∙◌, ap}
use Rattle.std.specs.Prelude.{slice_index_or, nat_lt}
use Rattle.std.proofs.lemmas.List.{drop_all, take_all, take_more}
use Rattle.task_text.specs.Scan.{is_among}
use Rattle.column_input.specs.declared.fault.Cause.TheVariants.{TwiceNamed, TooManyColumns}
use Rattle.column_input.specs.Records.{Field, Record}
use Rattle.column_input.proofs.Fields.{drop-field}
use Rattle.column_input.specs.Reading.{Fault, ◌>>=◌, check_names, fault_at, names_in, most_columns}

-- one more name
pub names-more : (names longer : List Field) (fields : Record) (place : ℕ) (whole : Result (Unit {0}) Fault) → place < length fields
    → is_among names (slice_index_or fields place []) ≡ false → longer ≡ names ++ slice_index_or fields place [] ∷ []
    → (names ≡ take place fields) × (check_names names (place + 1) (drop place fields) ≡ whole)
    → (longer ≡ take (place + 1) fields) × (check_names longer (place + 1 + 1) (drop (place + 1) fields) ≡ whole)
unfolding check_names
names-more names longer fields place whole h e l k = (
  l ∙ ap (λ (t : List Field). t ++ slice_index_or fields place [] ∷ []) k.0 ∙ sym (take_more fields place [] h),
  rw l (rw (drop-field fields place h, e) at k.1),
)

-- whether the header is not too long chooses what follows
abbrev asked : Bool → Result (Unit {0}) Fault → Record → Result (List Field) Fault
asked b whole fields = cond b (Err (fault_at TooManyColumns 0 (most_columns + 1))) whole >>= (λ _. Ok fields)

-- a name that stands further to the left too
pub names-again : (names : List Field) (fields : Record) (place : ℕ) → place < length fields → is_among names (slice_index_or fields place []) ≡ true
    → nat_lt most_columns (length fields) ≡ false
    → check_names names (place + 1) (drop place fields) ≡ check_names [] 1 fields → names_in fields ≡ Err (fault_at TwiceNamed 0 (place + 1))
unfolding check_names
names-again names fields place h e few k =
    let at : ◌≡◌ {A = Result (Unit {0}) Fault} (Err (fault_at TwiceNamed 0 (place + 1))) (check_names [] 1 fields) = rw (drop-field fields place h, e) at k in
    ap (λ b. asked b (check_names [] 1 fields) fields) few ∙ ap (λ t. asked false t fields) (sym at)

-- behind the last name
pub names-end : (names : List Field) (fields : Record) (place : ℕ) → length fields ≤ place → nat_lt most_columns (length fields) ≡ false
    → (names ≡ take place fields) × (check_names names (place + 1) (drop place fields) ≡ check_names [] 1 fields) → names_in fields ≡ Ok names
unfolding check_names
names-end names fields place h few k =
    let at : ◌≡◌ {A = Result (Unit {0}) Fault} (Ok tt) (check_names [] 1 fields) = rw (drop_all place fields h) at k.1 in
    ap (λ b. asked b (check_names [] 1 fields) fields) few ∙ ap (λ t. asked false t fields) (sym at)
    ∙ ap (λ (t : List Field). Ok t) (sym (k.0 ∙ take_all place fields h))
