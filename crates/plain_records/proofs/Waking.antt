-- A waiter joins its queue: what is left of the list may still join.
use Rattle.std.proofs.Common.{◌≡◌, ℕ, zero, suc, ◌<◌, Option, Some, None, List, [], ◌∷◌, ◌++◌, length, slice_get, slice_set, refl, sym, ap, subst, ◌∙◌, arith}
use Rattle.std.proofs.lemmas.Option.{none-some, same_Some}
use Rattle.task_syntax.specs.declared.value.Priority.{Priority}
use Rattle.task_syntax.specs.declared.value.Priority.TheVariants.{High, Regular, Low}
use Rattle.record_core.specs.declared.rows.CutTag.{CutTag}
use Rattle.run_model.specs.State.{Queues, queued}
use Rattle.plain_state.specs.declared.record.Record.{Record}
use Rattle.plain_state.specs.declared.record.Outcome.{Outcome}
use Rattle.plain_state.specs.Store.{StoreState, Chained, HasUnit, HasPlaces, changed, changed_at, changed_in, with_cut, with_outcome, first_in, MayComplete, queued_count, woken, priority_in}
use Rattle.plain_records.specs.Taken.{IsNextOf, MayWake}

-- the list has as many members after one was set
length_set : {A : Type 0} (xs : List A) (at : ℕ) (x : A) → length (slice_set xs at x) ≡ length xs
length_set [] at x = refl
length_set (y ∷ xs) zero x = refl
length_set (y ∷ xs) (suc at) x = ap suc (length_set xs at x)

-- one more in a queue is one more in all
length_snoc : (xs : List ℕ) (x : ℕ) → length (xs ++ x ∷ []) ≡ suc (length xs)
length_snoc [] x = refl
length_snoc (y ∷ xs) x = ap suc (length_snoc xs x)

count_queued : (priority : Priority) (n : ℕ) (q : Queues) → queued_count (queued priority n q) ≡ suc (queued_count q)
count_queued High n q = omega (arith, length_snoc q.high n)
count_queued Regular n q = omega (arith, length_snoc q.regular n)
count_queued Low n q = omega (arith, length_snoc q.low n)

-- what is read at a place after one was set there, or elsewhere
read_set : (at unit : ℕ) (xs : List Record) (old x k : Record) → slice_get xs unit ≡ Some old → slice_get xs at ≡ Some k → x.next ≡ old.next
    → (other : Record) × (slice_get (slice_set xs unit x) at ≡ Some other) × (other.next ≡ k.next)
read_set at unit [] old x k there read same = absurd (none-some k read)
read_set zero zero (y ∷ xs) old x k there read same = (x, refl, same ∙ ap (λ (r : Record). r.next) (sym (same_Some y old there)) ∙ ap (λ (r : Record). r.next) (same_Some y k read))
read_set (suc at) zero (y ∷ xs) old x k there read same = (k, read, refl)
read_set zero (suc unit) (y ∷ xs) old x k there read same = (k, read, refl)
read_set (suc at) (suc unit) (y ∷ xs) old x k there read same = read_set at unit xs old x k there read same

-- a change of a record that keeps which is next
abbrev pub KeepsNext : (Record → Record) → Type 0
KeepsNext f = (k : Record) → (f k).next ≡ k.next

-- what is read after such a change
read_changed : (f : Record → Record) → KeepsNext f → (unit at : ℕ) (records : List Record) (k : Record) → slice_get records at ≡ Some k
    → (other : Record) × (slice_get (changed_at f unit records) at ≡ Some other) × (other.next ≡ k.next)
read_changed f keeps unit at records k there = by (slice_get records unit) refl
  where
    by : (o : Option Record) → slice_get records unit ≡ o → (other : Record) × (slice_get (changed_in f unit records o) at ≡ Some other) × (other.next ≡ k.next)
    by None e = (k, there, refl)
    by (Some old) e = read_set at unit records old (f old) k e there (keeps old)

pub length_changed : (f : Record → Record) (unit : ℕ) (records : List Record) → length (changed_at f unit records) ≡ length records
length_changed f unit records = by (slice_get records unit)
  where
    by : (o : Option Record) → length (changed_in f unit records o) ≡ length records
    by None = refl
    by (Some k) = length_set records unit (f k)

-- the list goes on as it did
pub chained_changed : (f : Record → Record) → KeepsNext f → (unit : ℕ) (records : List Record) (first : Option ℕ) (units : List ℕ) → Chained records first units
    → Chained (changed_at f unit records) first units
chained_changed f keeps unit records None [] chain = chain
chained_changed f keeps unit records None (u ∷ units) chain = elim chain [ ]
chained_changed f keeps unit records (Some at) [] chain = elim chain [ ]
chained_changed f keeps unit records (Some at) (u ∷ units) (same, (k, there, rest)) =
    let other = read_changed f keeps unit at records k there in
    (same, (other.0, other.1, subst (λ next. Chained (changed_at f unit records) next units) (sym other.2) (chained_changed f keeps unit records k.next units rest)))

-- a task that has ended has its waiters still to be woken
pub may_wake : (unit : ℕ) (outcome : Outcome) (waiters : List ℕ) (s : StoreState) → MayComplete unit waiters s → MayWake (changed (with_outcome outcome) unit s) (first_in (slice_get s.records unit)) waiters
may_wake unit outcome waiters s may = record {
  chain = chained_changed (with_outcome outcome) (λ k. refl) unit s.records (first_in (slice_get s.records unit)) waiters may.chain;
  inside = λ at u e. omega (arith, length_changed (with_outcome outcome) unit s.records, may.inside at u e);
  places = omega (arith, may.places, length_changed (with_outcome outcome) unit s.records);
}

-- a list that begins nowhere is empty, and one that begins with a unit has it in front
pub nothing_left : (s : StoreState) (left : List ℕ) → MayWake s None left → left ≡ []
nothing_left s [] may = refl
nothing_left s (u ∷ left) may = absurd may.chain

pub one_in_front : (s : StoreState) (unit : ℕ) (left : List ℕ) → MayWake s (Some unit) left → (rest : List ℕ) × (left ≡ unit ∷ rest)
one_in_front s unit [] may = absurd may.chain
one_in_front s unit (u ∷ left) may = (left, ap (λ x. x ∷ left) (sym may.chain.0))

-- the first may join
pub first_may : (s : StoreState) (unit : ℕ) (rest : List ℕ) → MayWake s (Some unit) (unit ∷ rest) → HasUnit s unit × HasPlaces s 1
first_may s unit rest may = (may.inside 0 unit refl, omega (arith, may.places))

-- and then the rest may
pub rest_may : (s : StoreState) (cut : Option CutTag) (unit : ℕ) (rest : List ℕ) (next : Option ℕ) → MayWake s (Some unit) (unit ∷ rest) → IsNextOf s unit next → MayWake (woken cut (unit ∷ []) s) next rest
rest_may s cut unit rest next may (known, there, is_next) =
    let (same, (k, there_too, chain)) = may.chain in
    let at_next : k.next ≡ next = ap (λ (r : Record). r.next) (same_Some k known (sym there_too ∙ there)) ∙ is_next in record {
      chain = subst (λ first. Chained (changed_at (with_cut cut) unit s.records) first rest) at_next (chained_changed (with_cut cut) (λ k. refl) unit s.records k.next rest chain);
      inside = λ at u e. omega (arith, length_changed (with_cut cut) unit s.records, may.inside (suc at) u e);
      places = omega (arith, may.places, length_changed (with_cut cut) unit s.records, count_queued (priority_in (slice_get (changed_at (with_cut cut) unit s.records) unit)) unit s.ready);
    }

-- one place less is left
pub fewer_left : (s : StoreState) (cut : Option CutTag) (unit : ℕ) → HasPlaces s 1
    → Rattle.std.specs.Prelude.◌-◌ (length (woken cut (unit ∷ []) s).records) (queued_count (woken cut (unit ∷ []) s).ready) < Rattle.std.specs.Prelude.◌-◌ (length s.records) (queued_count s.ready)
fewer_left s cut unit places = omega (arith, places, length_changed (with_cut cut) unit s.records, count_queued (priority_in (slice_get (changed_at (with_cut cut) unit s.records) unit)) unit s.ready)

-- the same of a list that is known to go on with this unit
pub unit_may : (s : StoreState) (next : Option ℕ) (unit : ℕ) (left : List ℕ) → next ≡ Some unit → MayWake s next left → HasUnit s unit × HasPlaces s 1
unit_may s next unit left e may =
    let front = one_in_front s unit left (subst (λ first. MayWake s first left) e may) in
    first_may s unit front.0 (subst (λ units. MayWake s (Some unit) units) front.1 (subst (λ first. MayWake s first left) e may))

pub goes_on : (s new : StoreState) (cut : Option CutTag) (next result : Option ℕ) (unit : ℕ) (left : List ℕ) → next ≡ Some unit → MayWake s next left → IsNextOf s unit result
    → new ≡ woken cut (unit ∷ []) s → (rest : List ℕ) × MayWake new result rest × (woken cut rest new ≡ woken cut left s)
goes_on s new cut next result unit left e may is_next after =
    let here = subst (λ first. MayWake s first left) e may in
    let front = one_in_front s unit left here in
    let all = subst (λ units. MayWake s (Some unit) units) front.1 here in (
      front.0,
      subst (λ state. MayWake state result front.0) (sym after) (rest_may s cut unit front.0 result all is_next),
      ap (λ state. woken cut front.0 state) after ∙ ap (λ units. woken cut units s) (sym front.1),
    )
