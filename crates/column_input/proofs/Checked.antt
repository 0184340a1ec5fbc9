-- What each check says of the places of a list.
use Rattle.std.proofs.Common.{◌≡◌, ◌≢◌, ℕ, zero, suc, ◌+◌, ◌<◌, ◌≤◌, ◌⊎◌, inl, inr, Bool, true, false, cond, Result, Ok, Err, Some, List, [], ◌∷◌, ◌++◌, length, take, slice_get, refl, sym, ◌∙◌, ap, subst, arith, append_assoc}
use Rattle.std.specs.Prelude.{◌==◌, nat_lt}
use Rattle.std.proofs.lemmas.Bool.Decides.{nat_tests}
use Rattle.std.proofs.lemmas.List.{append-nil}
use Rattle.task_text.specs.Scan.{is_among, is_number}
use Rattle.column_input.specs.declared.fault.Cause.TheVariants.{TwiceNamed, Ragged, BadNumber, TooManyRows, TooManyColumns}
use Rattle.column_input.specs.Records.{Field, Record}
use Rattle.column_input.specs.Reading.{Fault, ◌>>◌, check_header, check_names, check_numbers, check_row, check_rows, fault_at, most_columns, most_rows}

-- at a place of a list stands the first member that is at fault
pub record FirstAt {X : Type 0} (xs : List X) (Fine Bad : ℕ → X → Type 0) (place : ℕ) : Type 0 where
  pub item : X
  pub there : slice_get xs place ≡ Some item
  pub bad : Bad place item
  pub fine : (j : ℕ) (y : X) → j < place → slice_get xs j ≡ Some y → Fine j y

first-here : {X : Type 0} (x : X) (xs : List X) (Fine Bad : ℕ → X → Type 0) → Bad 0 x → FirstAt (x ∷ xs) Fine Bad 0
first-here x xs Fine Bad bad = record { item = x; there = refl; bad = bad; fine = λ j y l h. absurd (omega arith) }

first-later : {X : Type 0} (x : X) (xs : List X) (Fine Bad : ℕ → X → Type 0) (place : ℕ) → Fine 0 x
    → FirstAt xs (λ j y. Fine (suc j) y) (λ j y. Bad (suc j) y) place → FirstAt (x ∷ xs) Fine Bad (suc place)
first-later {X} x xs Fine Bad place fine later = record { item = later.item; there = later.there; bad = later.bad; fine = before } where
  before : (j : ℕ) (y : X) → j < suc place → slice_get (x ∷ xs) j ≡ Some y → Fine j y
  before zero y l h = let same : x ≡ y = cc in subst (Fine 0) same fine
  before (suc j) y l h = later.fine j y (omega arith) h

first-as : {X : Type 0} (xs : List X) (F B G C : ℕ → X → Type 0) (place : ℕ) → ((j : ℕ) (y : X) → F j y → G j y) → ((j : ℕ) (y : X) → B j y → C j y)
    → FirstAt xs F B place → FirstAt xs G C place
first-as xs F B G C place f b h = record { item = h.item; there = h.there; bad = b place h.item h.bad; fine = λ j y l e. f j y (h.fine j y l e) }

-- ---- the fields of a row

numbers-split : (row column : ℕ) (field : Field) (fields : Record) (r : Result (Unit {0}) Fault) → check_numbers row column (field ∷ fields) ≡ r
    → ((is_number field ≡ true) × (check_numbers row (column + 1) fields ≡ r)) ⊎ ((is_number field ≡ false) × (r ≡ Err (fault_at BadNumber row column)))
unfolding check_numbers
numbers-split row column field fields r e = by (is_number field) refl e where
  by : (b : Bool) → is_number field ≡ b → cond b (check_numbers row (column + 1) fields) (Err (fault_at BadNumber row column)) ≡ r
      → ((is_number field ≡ true) × (check_numbers row (column + 1) fields ≡ r)) ⊎ ((is_number field ≡ false) × (r ≡ Err (fault_at BadNumber row column)))
  by true t e = inl (t, e)
  by false t e = inr (t, sym e)

pub numbers-fine : (row column : ℕ) (fields : Record) → check_numbers row column fields ≡ Ok tt → (place : ℕ) (field : Field) → slice_get fields place ≡ Some field → is_number field ≡ true
numbers-fine row column [] e place field h = cc
numbers-fine row column (first ∷ fields) e zero field h =
    let same : first ≡ field = cc in
    elim (numbers-split row column first fields (Ok tt) e) [ inl p ↦ subst (λ (t : Field). is_number t ≡ true) same p.0 | inr q ↦ cc ]
numbers-fine row column (first ∷ fields) e (suc place) field h =
    elim (numbers-split row column first fields (Ok tt) e) [ inl p ↦ numbers-fine row (column + 1) fields p.1 place field h | inr q ↦ cc ]

abbrev pub IsFine : ℕ → Field → Type 0
IsFine place field = is_number field ≡ true

abbrev pub IsBad : ℕ → Field → Type 0
IsBad place field = is_number field ≡ false

err-same : (f g : Fault) → ◌≡◌ {A = Result (Unit {0}) Fault} (Err f) (Err g) → f ≡ g
err-same f g e = cc

pub numbers-first : (row column : ℕ) (fields : Record) (f : Fault) → check_numbers row column fields ≡ Err f
    → (place : ℕ) × (f ≡ fault_at BadNumber row (column + place)) × FirstAt fields IsFine IsBad place
unfolding check_numbers
numbers-first row column [] f e = cc
numbers-first row column (first ∷ fields) f e = elim (numbers-split row column first fields (Err f) e) [
  | inl p ↦
      let later = numbers-first row (column + 1) fields f p.1 in
      (suc later.0, later.1 ∙ ap (λ c. fault_at BadNumber row c) (omega arith), first-later first fields IsFine IsBad later.0 p.0 later.2)
  | inr q ↦ (0, err-same f _ q.1 ∙ ap (λ c. fault_at BadNumber row c) (omega arith), first-here first fields IsFine IsBad q.0)
]

-- ---- a row

-- what is asked of a row, and what it comes to
pub record TooMany (row : ℕ) (r : Result (Unit {0}) Fault) : Type 0 where
  pub past : most_rows < row
  pub told : r ≡ Err (fault_at TooManyRows row 0)

pub record Uneven (width row : ℕ) (fields : Record) (r : Result (Unit {0}) Fault) : Type 0 where
  pub within : row ≤ most_rows
  pub other : length fields ≢ width
  pub told : r ≡ Err (fault_at Ragged row 0)

pub record Even (width row : ℕ) (fields : Record) (r : Result (Unit {0}) Fault) : Type 0 where
  pub within : row ≤ most_rows
  pub full : length fields ≡ width
  pub numbers : check_numbers row 1 fields ≡ r

pub row-cases : (width row : ℕ) (fields : Record) (r : Result (Unit {0}) Fault) → check_row width row fields ≡ r
    → TooMany row r ⊎ Uneven width row fields r ⊎ Even width row fields r
row-cases width row fields r e = by (nat_lt most_rows row) refl (length fields == width) refl e where
  by : (b : Bool) → nat_lt most_rows row ≡ b → (d : Bool) → (length fields == width) ≡ d
      → cond b (Err (fault_at TooManyRows row 0)) (cond d (check_numbers row 1 fields) (Err (fault_at Ragged row 0))) ≡ r
      → TooMany row r ⊎ Uneven width row fields r ⊎ Even width row fields r
  by true t d u e = inl (record { past = grind (arith, nat_tests); told = sym e })
  by false t true u e = inr (inr (record { within = grind (arith, nat_tests); full = grind (arith, nat_tests); numbers = e }))
  by false t false u e = inr (inl (record { within = grind (arith, nat_tests); other = grind (arith, nat_tests); told = sym e }))

-- a row that passes is none too many, and full of numbers
pub row-fine : (width row : ℕ) (fields : Record) → check_row width row fields ≡ Ok tt
    → (row ≤ 1000000) × (length fields ≡ width) × ((place : ℕ) (field : Field) → slice_get fields place ≡ Some field → is_number field ≡ true)
row-fine width row fields e = elim (row-cases width row fields (Ok tt) e) [
  | inl many ↦ let no = many.told in cc
  | inr rest ↦ elim rest [
    | inl uneven ↦ let no = uneven.told in cc
    | inr even ↦ (even.within, even.full, numbers-fine row 1 fields even.numbers)
  ]
]

-- ---- the rows

rows-parts : (width row : ℕ) (fields : Record) (rows : List Record) (r : Result (Unit {0}) Fault) → check_rows width row (fields ∷ rows) ≡ r
    → ((check_row width row fields ≡ Ok tt) × (check_rows width (row + 1) rows ≡ r)) ⊎ ((f : Fault) × (check_row width row fields ≡ Err f) × (r ≡ Err f))
unfolding check_rows
rows-parts width row fields rows r e = by (check_row width row fields) refl e where
  by : (o : Result (Unit {0}) Fault) → check_row width row fields ≡ o → o >> check_rows width (row + 1) rows ≡ r
      → ((check_row width row fields ≡ Ok tt) × (check_rows width (row + 1) rows ≡ r)) ⊎ ((f : Fault) × (check_row width row fields ≡ Err f) × (r ≡ Err f))
  by (Ok u) t e = inl (t, e)
  by (Err f) t e = inr (f, t, sym e)

abbrev pub Passes : ℕ → ℕ → ℕ → Record → Type 0
Passes width row at fields = check_row width (row + at) fields ≡ Ok tt

abbrev pub Fails : ℕ → ℕ → Fault → ℕ → Record → Type 0
Fails width row f at fields = check_row width (row + at) fields ≡ Err f

row-same : (width a b : ℕ) (fields : Record) (r : Result (Unit {0}) Fault) → a ≡ b → check_row width a fields ≡ r → check_row width b fields ≡ r
row-same width a b fields r e h = subst (λ n. check_row width n fields ≡ r) e h

pub rows-fine : (width row : ℕ) (rows : List Record) → check_rows width row rows ≡ Ok tt → (at : ℕ) (fields : Record) → slice_get rows at ≡ Some fields → Passes width row at fields
rows-fine width row [] e at fields h = cc
rows-fine width row (first ∷ rows) e zero fields h =
    let same : first ≡ fields = cc in
    elim (rows-parts width row first rows (Ok tt) e) [ inl p ↦ subst (λ (t : Record). Passes width row 0 t) same (row-same width row (row + 0) first (Ok tt) (omega arith) p.0) | inr q ↦ cc ]
rows-fine width row (first ∷ rows) e (suc at) fields h =
    elim (rows-parts width row first rows (Ok tt) e) [
      | inl p ↦ row-same width (row + 1 + at) (row + suc at) fields (Ok tt) (omega arith) (rows-fine width (row + 1) rows p.1 at fields h)
      | inr q ↦ cc
    ]

pub rows-first : (width row : ℕ) (rows : List Record) (f : Fault) → check_rows width row rows ≡ Err f → (at : ℕ) × FirstAt rows (Passes width row) (Fails width row f) at
unfolding check_rows
rows-first width row [] f e = cc
rows-first width row (first ∷ rows) f e = elim (rows-parts width row first rows (Err f) e) [
  | inl p ↦
      let later = rows-first width (row + 1) rows f p.1 in (
        suc later.0,
        first-later first rows (Passes width row) (Fails width row f) later.0 (row-same width row (row + 0) first (Ok tt) (omega arith) p.0)
            (first-as rows (Passes width (row + 1)) (Fails width (row + 1) f) (λ j y. Passes width row (suc j) y) (λ j y. Fails width row f (suc j) y) later.0
            (λ j y h. row-same width (row + 1 + j) (row + suc j) y (Ok tt) (omega arith) h)
            (λ j y h. row-same width (row + 1 + j) (row + suc j) y (Err f) (omega arith) h) later.1),
      )
  | inr q ↦
      let told : Err f ≡ Err q.0 = q.2 in (
        0,
        first-here first rows (Passes width row) (Fails width row f)
            (row-same width row (row + 0) first (Err f) (omega arith) (q.1 ∙ sym told)),
      )
]

-- ---- the header

names-split : (before : List Field) (column : ℕ) (name : Field) (names : List Field) (r : Result (Unit {0}) Fault) → check_names before column (name ∷ names) ≡ r
    → ((is_among before name ≡ false) × (check_names (before ++ name ∷ []) (column + 1) names ≡ r)) ⊎ ((is_among before name ≡ true) × (r ≡ Err (fault_at TwiceNamed 0 column)))
unfolding check_names
names-split before column name names r e = by (is_among before name) refl e where
  by : (b : Bool) → is_among before name ≡ b → cond b (Err (fault_at TwiceNamed 0 column)) (check_names (before ++ name ∷ []) (column + 1) names) ≡ r
      → ((is_among before name ≡ false) × (check_names (before ++ name ∷ []) (column + 1) names ≡ r)) ⊎ ((is_among before name ≡ true) × (r ≡ Err (fault_at TwiceNamed 0 column)))
  by true t e = inr (t, sym e)
  by false t e = inl (t, e)

-- a name stands before a place, or in a list in front of it
abbrev pub Among : List Field → List Field → Bool → ℕ → Field → Type 0
Among before names b place name = is_among (before ++ take place names) name ≡ b

among-first : (before : List Field) (name other : Field) (names : List Field) (b : Bool) → is_among before other ≡ b → Among before (name ∷ names) b 0 other
among-first before name other names b h = rw append-nil h

among-later : (before : List Field) (name other : Field) (names : List Field) (b : Bool) (place : ℕ) → Among (before ++ name ∷ []) names b place other → Among before (name ∷ names) b (suc place) other
among-later before name other names b place h = rw append_assoc at h

pub names-fine : (before : List Field) (column : ℕ) (names : List Field) → check_names before column names ≡ Ok tt → (place : ℕ) (name : Field) → slice_get names place ≡ Some name
    → Among before names false place name
names-fine before column [] e place name h = cc
names-fine before column (first ∷ names) e zero name h =
    let same : first ≡ name = cc in
    elim (names-split before column first names (Ok tt) e) [
      | inl p ↦ among-first before first name names false (subst (λ (t : Field). is_among before t ≡ false) same p.0)
      | inr q ↦ cc
    ]
names-fine before column (first ∷ names) e (suc place) name h =
    elim (names-split before column first names (Ok tt) e) [
      | inl p ↦ among-later before first name names false place (names-fine (before ++ first ∷ []) (column + 1) names p.1 place name h)
      | inr q ↦ cc
    ]

pub names-first : (before : List Field) (column : ℕ) (names : List Field) (f : Fault) → check_names before column names ≡ Err f
    → (place : ℕ) × (f ≡ fault_at TwiceNamed 0 (column + place)) × FirstAt names (Among before names false) (Among before names true) place
unfolding check_names
names-first before column [] f e = cc
names-first before column (first ∷ names) f e = elim (names-split before column first names (Err f) e) [
  | inl p ↦
      let later = names-first (before ++ first ∷ []) (column + 1) names f p.1 in (
        suc later.0,
        later.1 ∙ ap (λ c. fault_at TwiceNamed 0 c) (omega arith),
        first-later first names (Among before (first ∷ names) false) (Among before (first ∷ names) true) later.0 (among-first before first first names false p.0)
            (first-as names (Among (before ++ first ∷ []) names false) (Among (before ++ first ∷ []) names true)
            (λ j y. Among before (first ∷ names) false (suc j) y) (λ j y. Among before (first ∷ names) true (suc j) y) later.0
            (λ j y h. among-later before first y names false j h) (λ j y h. among-later before first y names true j h) later.2),
      )
  | inr q ↦ (
    0,
    err-same f _ q.1 ∙ ap (λ c. fault_at TwiceNamed 0 c) (omega arith),
    first-here first names (Among before (first ∷ names) false) (Among before (first ∷ names) true) (among-first before first first names true q.0),
  )
]

pub header-cases : (header : Record) (r : Result (Unit {0}) Fault) → check_header header ≡ r
    → ((most_columns < length header) × (r ≡ Err (fault_at TooManyColumns 0 17))) ⊎ ((length header ≤ most_columns) × (check_names [] 1 header ≡ r))
header-cases header r e = by (nat_lt most_columns (length header)) refl e where
  by : (b : Bool) → nat_lt most_columns (length header) ≡ b → cond b (Err (fault_at TooManyColumns 0 (most_columns + 1))) (check_names [] 1 header) ≡ r
      → ((most_columns < length header) × (r ≡ Err (fault_at TooManyColumns 0 17))) ⊎ ((length header ≤ most_columns) × (check_names [] 1 header ≡ r))
  by true t e = inl (grind (arith, nat_tests), sym e)
  by false t e = inr (grind (arith, nat_tests), e)
