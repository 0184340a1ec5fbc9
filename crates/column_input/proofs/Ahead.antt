-- The records ahead of a reader, one after the other.
use Rattle.std.proofs.Common.{◌≡◌, ℕ, zero, suc, ◌+◌, ◌<◌, ◌≤◌, Bool, true, false, cond, Option, Some, None, List, [], ◌∷◌, ◌++◌, length, refl, sym, ◌∙◌, ap, subst, arith, inl, Bor, if◌then◌else◌, add-one}
use Rattle.std.specs.Prelude.{◌==◌, ◌||◌, IsSome}
use Rattle.std.proofs.lemmas.Bool.{false≢true}
use Rattle.csv.specs.Machine.{Read, next_record, step, in_field, start_field, start_record, is_end, ends_at_end, fields_after, field_after}
use Rattle.csv.specs.Reading.{AreRecords, ExplainsRead, ReadRecord, Reached, default_config, is_flexible, records_from, records_next, stops_reader, strip_bom, took_first}
use Rattle.csv.specs.declared.parser.State.{State}
use Rattle.csv.specs.declared.parser.State.TheVariants as st
use Rattle.csv.specs.declared.parser.Action.{Action}
use Rattle.csv.specs.declared.error.ErrorKind.{ErrorKind}
use Rattle.csv.specs.declared.error.ErrorKind.TheVariants as kind
use Rattle.csv.proofs.ReadFacts.{rows-end, rows-more}
use Rattle.column_input.specs.Records.{Record, records_of}
use Rattle.column_input.specs.Reader.{Source, IsReading, ahead, left_of, records_left}

-- ---- where a record ends

-- a step that ends a record leads to a state between two records
abbrev EndsBetween : State × Action → Type 0
EndsBetween q = is_end q.1 ≡ true → ends_at_end q.0 ≡ false

ends-chosen : (b : Bool) (x y : State × Action) → EndsBetween x → EndsBetween y → EndsBetween (cond b x y)
ends-chosen true x y p q = p
ends-chosen false x y p q = q

ends-line : (b : Bool) → ends_at_end (cond b st.AfterCr st.StartRecord) ≡ false
ends-line true = refl
ends-line false = refl

ends-in_field : (c : ℕ) → EndsBetween (in_field default_config c)
ends-in_field c =
    ends-chosen (c == 44) _ _ (λ e. absurd (false≢true e)) (
    ends-chosen ((c == 13) || (c == 10)) _ _ (λ e. ends-line (c == 13)) (λ e. absurd (false≢true e)))

ends-start_field : (c : ℕ) → EndsBetween (start_field default_config c)
ends-start_field c = ends-chosen (c == 34) _ _ (λ e. absurd (false≢true e)) (ends-in_field c)

ends-start_record : (c : ℕ) → EndsBetween (start_record default_config c)
ends-start_record c = ends-chosen ((c == 13) || (c == 10)) _ _ (λ e. absurd (false≢true e)) (ends-start_field c)

ends-step : (s : State) (c : ℕ) → EndsBetween (step default_config s c)
ends-step st.StartRecord c = ends-start_record c
ends-step st.StartField c = ends-start_field c
ends-step st.InField c = ends-in_field c
ends-step st.InQuoted c = ends-chosen (c == 34) _ _ (λ e. absurd (false≢true e)) (λ e. absurd (false≢true e))
ends-step st.InEscape c = λ e. absurd (false≢true e)
ends-step st.AfterQuote c = ends-chosen (c == 34) _ _ (λ e. absurd (false≢true e)) (ends-in_field c)
ends-step st.InComment c = ends-chosen (c == 10) _ _ (λ e. absurd (false≢true e)) (λ e. absurd (false≢true e))
ends-step st.AfterCr c = ends-chosen (c == 10) _ _ (λ e. absurd (false≢true e)) (ends-start_record c)

-- ---- what is left behind a record

-- a record that was read leaves no more than these bytes, and a state between two records
abbrev Leaves : List ℕ → Read → Type 0
Leaves rest p = (length p.2 ≤ length rest) × (ends_at_end p.1 ≡ false)

is-read : (rest : List ℕ) (p q : Read) → ◌≡◌ {A = Option Read} (Some q) (Some p) → Leaves rest q → Leaves rest p
is-read rest p q e h = let same : q ≡ p = cc in subst (Leaves rest) same h

-- one byte ends the record, or the record goes on
leaves-turn : (b : Bool) (q p : Read) (rest : List ℕ) (more : Option Read) → Leaves rest q → (more ≡ Some p → Leaves rest p) → cond b (Some q) more ≡ Some p → Leaves rest p
leaves-turn true q p rest more now later e = is-read rest p q e now
leaves-turn false q p rest more now later e = later e

leaves : (s : State) (fields : List (List ℕ)) (field xs : List ℕ) (p : Read) → next_record default_config s fields field xs ≡ Some p → Leaves xs p
unfolding next_record
leaves s fields field [] p e = at_end (ends_at_end s) e where
  at_end : (b : Bool) → cond b (Some (fields ++ (field ∷ []), st.StartRecord, [])) None ≡ Some p → Leaves [] p
  at_end true e = is-read [] p (fields ++ (field ∷ []), st.StartRecord, []) e (omega arith, refl)
  at_end false e = cc
leaves s fields field (c ∷ rest) p e =
    let shape : Leaves rest p = behind-byte (is_end (step default_config s c).1) refl (leaves (step default_config s c).0 _ _ rest p) e in
    (omega arith, shape.1)
  where
    behind-byte : (b : Bool) → is_end (step default_config s c).1 ≡ b
        → (next_record default_config (step default_config s c).0 (fields_after (step default_config s c).1 fields field) (field_after (step default_config s c).1 c field) rest ≡ Some p → Leaves rest p)
        → cond b (Some (fields_after (step default_config s c).1 fields field, (step default_config s c).0, rest))
        (next_record default_config (step default_config s c).0 (fields_after (step default_config s c).1 fields field) (field_after (step default_config s c).1 c field) rest) ≡ Some p
        → Leaves rest p
    behind-byte true t later e = is-read rest p _ e (omega arith, ends-step s c t)
    behind-byte false t later e = later e

-- a record takes a byte at least, where it begins between two records
takes-byte : (s : State) (xs : List ℕ) (p : Read) → ends_at_end s ≡ false → next_record default_config s [] [] xs ≡ Some p → (length p.2 < length xs) × (ends_at_end p.1 ≡ false)
unfolding next_record
takes-byte s [] p between e =
    let none : ◌≡◌ {A = Option Read} None (Some p) = rw between at e in cc
takes-byte s (c ∷ rest) p between e =
    let shape : Leaves rest p = behind-byte (is_end (step default_config s c).1) refl e in
    (omega arith, shape.1)
  where
    behind-byte : (b : Bool) → is_end (step default_config s c).1 ≡ b
        → cond b (Some (fields_after (step default_config s c).1 [] [], (step default_config s c).0, rest))
        (next_record default_config (step default_config s c).0 (fields_after (step default_config s c).1 [] []) (field_after (step default_config s c).1 c []) rest) ≡ Some p
        → Leaves rest p
    behind-byte true t e = is-read rest p _ e (omega arith, ends-step s c t)
    behind-byte false t e = leaves (step default_config s c).0 _ _ rest p e

-- ---- the records that come next

-- the records do not depend on how many are asked for, where those are enough
same-records : (n m : ℕ) (s : State) (xs : List ℕ) → ends_at_end s ≡ false → length xs < n → length xs < m → records_from default_config n s xs ≡ records_from default_config m s xs
unfolding records_from
same-records zero m s xs between a b = absurd (omega arith)
same-records (suc n) zero s xs between a b = absurd (omega arith)
same-records (suc n) (suc m) s xs between a b = by (next_record default_config s [] [] xs) refl (λ t ys. same-records n m t ys) where
  by : (o : Option Read) → next_record default_config s [] [] xs ≡ o
      → ((t : State) (ys : List ℕ) → ends_at_end t ≡ false → length ys < n → length ys < m → records_from default_config n t ys ≡ records_from default_config m t ys)
      → records_next (records_from default_config n) o ≡ records_next (records_from default_config m) o
  by None e again = refl
  by (Some p) e again =
      let shape = takes-byte s xs p between e in
      ap (λ (t : List Record). p.0 ∷ t) (again p.1 p.2 shape.1 (omega arith) (omega arith))

-- the records that come next are all
all-records : (n : ℕ) (s : State) (xs : List ℕ) → ends_at_end s ≡ false → length xs < n → AreRecords default_config s xs (records_from default_config n s xs)
unfolding records_from Reached
all-records zero s xs between l = absurd (omega arith)
all-records (suc n) s xs between l = by (next_record default_config s [] [] xs) refl (λ t ys. all-records n t ys) where
  by : (o : Option Read) → next_record default_config s [] [] xs ≡ o
      → ((t : State) (ys : List ℕ) → ends_at_end t ≡ false → length ys < n → AreRecords default_config t ys (records_from default_config n t ys))
      → AreRecords default_config s xs (records_next (records_from default_config n) o)
  by None e again = (s, xs, (refl, refl), e)
  by (Some p) e again =
      let shape = takes-byte s xs p between e in
      let rest = again p.1 p.2 shape.1 (omega arith) in
      (rest.0, rest.1, (p, e, refl, rest.2), rest.3)

pub each-record : (bytes : List ℕ) → AreRecords default_config st.StartRecord (strip_bom bytes) (records_of bytes)
each-record bytes = all-records (length (strip_bom bytes) + 1) st.StartRecord (strip_bom bytes) refl (omega arith)

left-more : (s : State) (xs : List ℕ) (p : Read) → ends_at_end s ≡ false → next_record default_config s [] [] xs ≡ Some p
    → records_left s (Some xs) ≡ p.0 ∷ records_left p.1 (Some p.2)
unfolding records_from
left-more s xs p between e =
    let shape = takes-byte s xs p between e in
    rw (add-one, e) (ap (λ (t : List Record). p.0 ∷ t) (same-records (length xs) (length p.2 + 1) p.1 p.2 shape.1 (omega arith) (omega arith)))

left-none : (s : State) (xs : List ℕ) → next_record default_config s [] [] xs ≡ None → records_left s (Some xs) ≡ []
unfolding records_from
left-none s xs e = rw (add-one, e) refl

known-of : (o : Option (List ℕ)) → IsSome o → (xs : List ℕ) × (o ≡ Some xs)
known-of None h = absurd (false≢true h)
known-of (Some xs) h = (xs, refl)

abbrev rest_of : Bor (List ℕ) → Option (List ℕ)
rest_of bytes = Some bytes.now

same-record : (f g : Record) (s t : State) (xs : List ℕ) → f ≡ g → s ≡ t → f ∷ records_left s (Some xs) ≡ g ∷ records_left t (Some xs)
same-record f g s t xs p q = rw (p, q) refl

-- what a read that found a record leaves
pub read-more : (a b : Source) (f : Record) → IsReading a → ReadRecord rest_of a b true f → took_first b ≡ true → is_flexible b ≡ is_flexible a → IsReading b × (ahead a ≡ f ∷ ahead b)
unfolding Reached
read-more a b f reading r first flexible =
    let known = known-of (left_of a) reading.known in
    let more = rows-more rest_of a b f default_config a.state known.0 known.0 [] reading.default known.1 (refl, refl) r in
    let p = more.2.0 in
    let next = more.2.1 in
    let shape = takes-byte a.state known.0 p reading.between next in
    let state : p.1 ≡ b.state = more.2.3.0 in
    let left : left_of b ≡ Some p.2 = more.1 ∙ ap (λ (t : List ℕ). Some t) (sym more.2.3.1) in (
      record {
        plain = r.3 ∙ reading.plain;
        ready = inl first;
        default = r.2 ∙ reading.default;
        between = subst (λ (t : State). ends_at_end t ≡ false) state shape.1;
        known = rw left refl;
        flexible = flexible ∙ reading.flexible;
      },
      rw (known.1, left) (left-more a.state known.0 p reading.between next ∙ same-record p.0 f p.1 b.state p.2 (sym more.2.2) state),
    )

-- a read that found no record stood behind the last
pub read-none : (a b : Source) (f : Record) → IsReading a → ReadRecord rest_of a b false f → ahead a ≡ []
read-none a b f reading r =
    let known = known-of (left_of a) reading.known in
    rw known.1 (left-none a.state known.0 (rows-end rest_of a b f default_config known.0 reading.default known.1 r))

pub read-one : (a b : Source) (found : Bool) (f : Record) → IsReading a → ReadRecord rest_of a b found f → took_first b ≡ true → is_flexible b ≡ is_flexible a
    → (found ≡ true → IsReading b) × (ahead a ≡ (if found then f ∷ ahead b else []))
read-one a b true f reading r first flexible = let more = read-more a b f reading r first flexible in (λ _. more.0, more.1)
read-one a b false f reading r first flexible = (λ e. absurd (false≢true e), read-none a b f reading r)

-- what made a read fail stopped the reader, since records of any length are taken, and as bytes
pub read-stopped : (a b : Source) (k : ErrorKind) → IsReading a → ExplainsRead rest_of a b false k → stops_reader k ≡ true
read-stopped a b (kind.Io e) reading why = refl
read-stopped a b kind.OutOfMemory reading why = refl
read-stopped a b (kind.UnequalLengths pos expected len) reading why = let no : false ≡ true = sym why.0 ∙ reading.flexible in absurd (false≢true no)
read-stopped a b (kind.Utf8 pos err) reading why = absurd (false≢true why.0)
read-stopped a b (kind.Serialize text) reading why = absurd why
read-stopped a b (kind.Deserialize pos err) reading why = absurd why
