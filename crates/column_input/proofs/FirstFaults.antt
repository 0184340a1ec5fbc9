-- A fault that is told is the first.
use Rattle.std.proofs.Common.{◌≡◌, ℕ, ◌+◌, ◌<◌, ◌≤◌, ◌⊎◌, inl, inr, true, false, Err, Some, List, [], ◌∷◌, length, take, slice_get, refl, sym, ◌∙◌, subst, arith}
use Rattle.std.proofs.lemmas.Bool.{false≢true}
use Rattle.task_text.specs.Scan.{is_among}
use Rattle.column_input.specs.declared.fault.Cause.{Cause}
use Rattle.column_input.specs.declared.fault.Cause.TheVariants.{NoHeader, TwiceNamed, Ragged, BadNumber, TooManyRows, TooManyColumns}
use Rattle.column_input.specs.Faults.{HasCause, IsAgain, IsFirst, Precedes}
use Rattle.column_input.specs.Records.{Field, Record}
use Rattle.column_input.specs.Reading.{Fault, check_header, fault_at, most_columns}
use Rattle.column_input.proofs.Checked.{Among, FirstAt, header-cases, names-first}
use Rattle.column_input.proofs.Tabulated.{get-taken, is_among-at, place-among, some-same, take-get, three-way}

-- the fault is this one, or comes behind it
abbrev pub Behind : Fault → Cause → ℕ → ℕ → Type 0
Behind f cause row column = (fault_at cause row column ≡ f) ⊎ Precedes f (fault_at cause row column)

pub first-by : (records : List Record) (f : Fault) → HasCause records f.cause f.row f.column
    → ((cause : Cause) (row column : ℕ) → HasCause records cause row column → Behind f cause row column) → IsFirst records f
first-by records f here behind = record { here = here; before_all = λ g h. behind g.cause g.row g.column h }

pub same-fault : (cause : Cause) (r s c d : ℕ) → r ≡ s → c ≡ d → fault_at cause r c ≡ fault_at cause s d
same-fault cause r s c d p q = rw (p, q) refl

-- a fault of the header comes before those of the rows
abbrev in-row : (cause other : Cause) (column at place : ℕ) → 0 < at → Behind (fault_at cause 0 column) other at place
in-row cause other column at place l = inr (inl l)

-- ---- no record

pub first-empty : IsFirst [] (fault_at NoHeader 0 0)
first-empty = first-by [] (fault_at NoHeader 0 0) (refl, refl, refl) behind where
  behind : (cause : Cause) (row column : ℕ) → HasCause [] cause row column → Behind (fault_at NoHeader 0 0) cause row column
  behind NoHeader row column h = inl (same-fault NoHeader row 0 column 0 h.0 h.1)
  behind TooManyColumns row column h = let no = h.3 in cc
  behind TwiceNamed row column h = let no = h.4 in cc
  behind TooManyRows row column h = let l = h.2 in absurd (omega arith)
  behind Ragged row column h = let no = h.3 in cc
  behind BadNumber row column h = let no = h.4.1 in cc

-- ---- the header

-- too many names
long-header : (header : Record) (rows : List Record) → most_columns < length header → IsFirst (header ∷ rows) (fault_at TooManyColumns 0 17)
long-header header rows l = first-by (header ∷ rows) (fault_at TooManyColumns 0 17) (refl, refl, header, refl, l) behind where
  behind : (cause : Cause) (row column : ℕ) → HasCause (header ∷ rows) cause row column → Behind (fault_at TooManyColumns 0 17) cause row column
  behind NoHeader row column h = let no = h.2 in cc
  behind TooManyColumns row column h = inl (same-fault TooManyColumns row 0 column 17 h.0 h.1)
  behind TwiceNamed row column h = inr (inr (inl (sym h.0, omega arith)))
  behind TooManyRows row column h = let at = h.0 in inr (inl (omega arith))
  behind Ragged row column h = inr (inl h.4.0)
  behind BadNumber row column h = inr (inl h.4.0)

-- a name that stands further to the left too is among those in front of it
again-among : (header : Record) (place : ℕ) → IsAgain header place → (name : Field) × (slice_get header place ≡ Some name) × (is_among (take place header) name ≡ true)
again-among header place again =
    (again.1, again.4, is_among-at (take place header) again.1 again.0 (take-get header again.0 place again.1 again.2 again.3))

-- a name that is given twice
twice-header : (header : Record) (rows : List Record) (place : ℕ) → length header ≤ most_columns → FirstAt header (Among [] header false) (Among [] header true) place
    → IsFirst (header ∷ rows) (fault_at TwiceNamed 0 (1 + place))
twice-header header rows place few first =
    let earlier = place-among (take place header) first.item first.bad in
    let there = get-taken header earlier.0 place first.item earlier.1 in
    first-by (header ∷ rows) (fault_at TwiceNamed 0 (1 + place))
    (refl, header, place, omega arith, refl, (earlier.0, first.item, there.0, there.1, first.there)) behind
  where
    compare-with : (other : ℕ) → IsAgain header other → (other < place) ⊎ (other ≡ place) ⊎ (place < other) → (other ≡ place) ⊎ (place < other)
    compare-with other again (inl l) =
        let at = again-among header other again in
        absurd (false≢true (sym (first.fine other at.0 l at.1) ∙ at.2))
    compare-with other again (inr (inl s)) = inl s
    compare-with other again (inr (inr l)) = inr l

    twice : (row column other : ℕ) → row ≡ 0 → column ≡ other + 1 → (other ≡ place) ⊎ (place < other) → Behind (fault_at TwiceNamed 0 (1 + place)) TwiceNamed row column
    twice row column other r c (inl s) = inl (same-fault TwiceNamed row 0 column (1 + place) r (omega arith))
    twice row column other r c (inr l) = inr (inr (inr (sym r, refl, omega arith)))

    behind : (cause : Cause) (row column : ℕ) → HasCause (header ∷ rows) cause row column → Behind (fault_at TwiceNamed 0 (1 + place)) cause row column
    behind NoHeader row column h = let no = h.2 in cc
    behind TooManyColumns row column h =
        let same : header ≡ h.2 = some-same header h.2 h.3 in
        let long = subst (λ (t : Record). 16 < length t) (sym same) h.4 in
        absurd (omega arith)
    behind TwiceNamed row column h =
        let same : header ≡ h.1 = some-same header h.1 h.4 in
        let again = subst (λ (t : Record). IsAgain t h.2) (sym same) h.5 in
        twice row column h.2 h.0 h.3 (compare-with h.2 again (three-way h.2 place))
    behind TooManyRows row column h = let at = h.0 in inr (inl (omega arith))
    behind Ragged row column h = inr (inl h.4.0)
    behind BadNumber row column h = inr (inl h.4.0)

pub first-header : (header : Record) (rows : List Record) (f : Fault) → check_header header ≡ Err f → IsFirst (header ∷ rows) f
first-header header rows f e = elim (header-cases header (Err f) e) [
  | inl p ↦
      let same : f ≡ fault_at TooManyColumns 0 17 = let told = p.1 in cc in
      subst (IsFirst (header ∷ rows)) (sym same) (long-header header rows p.0)
  | inr q ↦
      let first = names-first [] 1 header f q.1 in
      subst (IsFirst (header ∷ rows)) (sym first.1) (twice-header header rows first.0 q.0 first.2)
]
