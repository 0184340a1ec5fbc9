-- Lists of records that name one another stay as they are where the names in them do.
use Rattle.std.proofs.Common.{◌≡◌, ◌≢◌, ℕ, suc, Option, Some, None, List, [], ◌∷◌, slice_get, refl, sym, ◌∙◌, ap, subst, ⊎_elim}
use Rattle.std.proofs.lemmas.Bool.{cases_eq}
use Rattle.task_syntax.specs.Places.{Each}
use Rattle.plain_state.specs.declared.record.Record.{Record}
use Rattle.plain_state.specs.Store.{Chained, changed_at, less, let_go}
use Rattle.plain_state.specs.Store.{StoreState}
use Rattle.plain_state.proofs.ChangedRecords.{changed_same, changed_other, let_go_records}

-- what stood at the unit stands there with the same next one
abbrev pub KeepsNext : List Record → List Record → ℕ → Type 0
KeepsNext old new at = (k : Record) → slice_get old at ≡ Some k → (k' : Record) × (slice_get new at ≡ Some k') × (k'.next ≡ k.next)

-- where all records of a list keep their next one, it stays
pub chained_kept : (old new : List Record) (first : Option ℕ) (units : List ℕ) → Each units (KeepsNext old new) → Chained old first units
    → Chained new first units
chained_kept old new None [] keeps chain = chain
chained_kept old new None (at ∷ units) keeps chain = absurd chain
chained_kept old new (Some unit) [] keeps chain = absurd chain
chained_kept old new (Some unit) (at ∷ units) keeps (same, (k, there, rest)) =
    let (k', there', next) = keeps 0 at refl k (ap (slice_get old) (sym same) ∙ there) in (
      same,
      (
        k',
        ap (slice_get new) same
            ∙ there',
        subst (λ o. Chained new o units) (sym next) (chained_kept old new k.next units (λ place x e. keeps (suc place) x e) rest),
      ),
    )

-- a change of a record that keeps its next one
pub changed_keeps : (f : Record → Record) (unit at : ℕ) (records : List Record) → ((known : Record) → (f known).next ≡ known.next)
    → KeepsNext records (changed_at f unit records) at
changed_keeps f unit at records keeps k there =
    ⊎_elim
    (λ same. (
      f k,
      ap (slice_get (changed_at f unit records)) same
          ∙ changed_same f unit records k (ap (slice_get records) (sym same) ∙ there),
      keeps k,
    ))
    (λ differ. (k, changed_other f unit at records differ ∙ there, refl))
    (cases_eq at unit)

-- it keeps each list
pub chained_changed : (f : Record → Record) (unit : ℕ) (records : List Record) (first : Option ℕ) (units : List ℕ)
    → ((known : Record) → (f known).next ≡ known.next)
    → Chained records first units → Chained (changed_at f unit records) first units
chained_changed f unit records first units keeps chain =
    chained_kept records (changed_at f unit records) first units (λ place at e. changed_keeps f unit at records keeps) chain

-- any change of a record that is not in the list
pub chained_apart : (f : Record → Record) (unit : ℕ) (records : List Record) (first : Option ℕ) (units : List ℕ) → Each units (λ at. at ≢ unit)
    → Chained records first units → Chained (changed_at f unit records) first units
chained_apart f unit records first units apart chain =
    chained_kept records (changed_at f unit records) first units
    (λ place at e k there. (k, changed_other f unit at records (apart place at e) ∙ there, refl)) chain

-- a reference that is let go
pub chained_let_go : (unit : ℕ) (s : StoreState) (first : Option ℕ) (units : List ℕ) → Chained s.records first units
    → Chained (let_go unit s).records first units
chained_let_go unit s first units chain =
    subst (λ rs. Chained rs first units) (sym (let_go_records unit s)) (chained_changed less unit s.records first units (λ known. refl) chain)
