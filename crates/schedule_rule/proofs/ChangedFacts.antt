-- Lists of which one member is changed, and what of it stays.
use Rattle.std.proofs.Common.{◌≡◌, ◌∙◌, inl, inr, ℕ, zero, suc, ◌≤◌, Bool, true, false, cond, ◌||◌, Some, None, List, [], ◌∷◌, length, refl, sym, ap, subst, arith}
use Rattle.std.specs.Prelude.{slice_set, slice_index}
use Rattle.std.proofs.lemmas.List.{map-set}
use Rattle.record_core.specs.Sums.{total}
use Rattle.record_core.specs.Counting.{At, one_if, passing, times}
use Rattle.record_core.proofs.TotalFacts.{total-member, total-set}
use Rattle.task_syntax.specs.declared.program.Program.{Program}
use Rattle.frame_code.specs.Words.{body_at}
use Rattle.table_core.specs.Holdings.{Made, Run}
use Rattle.table_core.specs.Lists.{Each}
use Rattle.table_core.specs.Own.{any}
use Rattle.table_core.proofs.ListFacts.{same_some, map_at, set_cases}
use Rattle.schedule_rule.specs.DrawViews.{changed}
use Rattle.schedule_rule.specs.Frames.{HeldAmong, Covers, needed, BagSound}

-- the one that passes is changed
pub changed-one : {A : Type 0} (p : A → Bool) (f : A → A) (l : List A) (k : ℕ) (x : A) → At l k x → p x ≡ true → passing p l ≤ 1 → changed p f l ≡ slice_set l k (f x)
changed-one p f [] k x at passes few = let no_one : None ≡ Some x → ⊥ = λ e. cc in absurd (no_one at)
changed-one {A} p f (y ∷ l) zero x at passes few =
    let same : y ≡ x = same_some y x at in
    ap (λ (b : Bool). cond b (f y ∷ l) (y ∷ changed p f l)) (ap p same ∙ passes) ∙ ap (λ (z : A). f z ∷ l) same
changed-one {A} p f (y ∷ l) (suc k) x at passes few = by (p y) refl (λ left. changed-one p f l k x at passes left)
  where
    here : 1 ≤ passing p l
    here = omega (arith, total-member (λ (z : A). one_if (p z)) l k x at, ap one_if passes)

    by : (b : Bool) → p y ≡ b → (passing p l ≤ 1 → changed p f l ≡ slice_set l k (f x)) → cond b (f y ∷ l) (y ∷ changed p f l) ≡ y ∷ slice_set l k (f x)
    by true e rest = absurd (omega (arith, few, here, ap one_if e))
    by false e rest = ap (λ (r : List A). y ∷ r) (rest (omega (arith, few)))

-- a list has the same length with another member
pub length-set : {A : Type 0} (l : List A) (k : ℕ) (y : A) → length (slice_set l k y) ≡ length l
length-set [] k y = refl
length-set (x ∷ l) zero y = refl
length-set (x ∷ l) (suc k) y = ap suc (length-set l k y)

-- a test that does not tell the two members apart
any-set : {A : Type 0} (q : A → Bool) (l : List A) (k : ℕ) (x y : A) → At l k x → q y ≡ q x → any q (slice_set l k y) ≡ any q l
any-set q [] k x y at same = refl
any-set q (z ∷ l) zero x y at same = ap (λ (b : Bool). b || any q l) (same ∙ ap q (sym (same_some z x at)))
any-set q (z ∷ l) (suc k) x y at same = ap (λ (b : Bool). q z || b) (any-set q l k x y at same)

-- lists whose members agree but for one thing: sums, tests and properties that do not read it stay
pub record AreAs {A : Type 0} (As : A → A → Type 0) (l l' : List A) : Type 1 where
  pub long : length l' ≡ length l
  pub sums : (f : A → ℕ) → ((x y : A) → As x y → f y ≡ f x) → total f l' ≡ total f l
  pub tests : (q : A → Bool) → ((x y : A) → As x y → q y ≡ q x) → any q l' ≡ any q l
  pub each : (P : A → Type 0) → ((x y : A) → As x y → P x → P y) → Each P l → Each P l'

-- the same list
pub same-as : {A : Type 0} (As : A → A → Type 0) (l : List A) → AreAs As l l
same-as As l = record { long = refl; sums = λ f same. refl; tests = λ q same. refl; each = λ P same all. all }

-- the list in which one member was changed
pub set-as : {A : Type 0} (As : A → A → Type 0) (l : List A) (k : ℕ) (x y : A) → At l k x → As x y → AreAs As l (slice_set l k y)
set-as As l k x y at is = record {
  long = length-set l k y;
  sums = λ f same. omega (arith, total-set f l k x y at, same x y is);
  tests = λ q same. any-set q l k x y at (same x y is);
  each = λ P same all j z there. elim (set_cases l k j y z there) [
    | inl t ↦ subst P (sym t.1) (same x y is (all k x at))
    | inr t ↦ all j z t.1
  ];
}

-- made records that differ in their numbers alone
pub record IsMadeAs (r r' : Made) : Type 0 where
  pub unit : r'.unit ≡ r.unit
  pub class : r'.class ≡ r.class
  pub live : r'.live ≡ r.live

-- runs that differ in what they asked for alone
pub record IsRunAs (r r' : Run) : Type 0 where
  pub unit : r'.unit ≡ r.unit
  pub class : r'.class ≡ r.class
  pub number : r'.number ≡ r.number
  pub task : r'.task ≡ r.task
  pub words : r'.words ≡ r.words

-- the references are enough for runs with the same frames
pub bag-as : (p : Program) (futures : List ℕ) (runs : List Run) (k : ℕ) (x y : Run) → At runs k x → y.words ≡ x.words
    → BagSound p (record { futures = futures; runs = runs }) → BagSound p (record { futures = futures; runs = slice_set runs k y })
bag-as p futures runs k x y at same was = record {
  pairs = slice_set was.pairs k (y, mine.0.1);
  are_runs = map-set (λ (z : Run × List ℕ). z.0) was.pairs k (y, mine.0.1) ∙ ap (λ (l : List Run). slice_set l k y) was.are_runs;
  covers = λ j z there. elim (set_cases was.pairs k j (y, mine.0.1) z there) [
    | inl t ↦ subst (λ (w : Run × List ℕ). Covers p w.0 w.1) (sym t.1) covered
    | inr t ↦ was.covers j z t.1
  ];
  enough = λ u. omega (
    arith,
    was.enough u,
    total-set (λ (z : Run × List ℕ). times u (needed (body_at p (slice_index z.0.words)) z.1)) was.pairs k mine.0 (y, mine.0.1) mine.1,
    ap (λ (w : List ℕ). times u (needed (body_at p (slice_index w)) mine.0.1)) (same ∙ ap (λ (r : Run). r.words) (sym mine.2)),
  );
}
  where
    mine : (z : Run × List ℕ) × At was.pairs k z × (z.0 ≡ x)
    mine = map_at (λ (z : Run × List ℕ). z.0) was.pairs k x (subst (λ (l : List Run). At l k x) (sym was.are_runs) at)

    covered : Covers p y mine.0.1
    covered =
        let t = was.covers k mine.0 mine.1 in
        (t.0, subst (λ (w : List ℕ). HeldAmong p (body_at p (slice_index w)) mine.0.1) (sym (same ∙ ap (λ (r : Run). r.words) (sym mine.2))) t.1)
