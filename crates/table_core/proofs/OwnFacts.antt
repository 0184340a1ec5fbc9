-- Whose records are whose, where the passes have the same together.
use Rattle.std.proofs.Common.{◌≡◌, ◌≢◌, ◌∙◌, ◌⊎◌, inl, inr, ℕ, ◌+◌, ◌<◌, ◌≤◌, Bool, true, false, cond, ◌==◌, List, [], Some, None, refl, sym, ap, subst, arith}
use Rattle.std.specs.Prelude.{nat_lt, slice_set}
use Rattle.std.proofs.lemmas.Bool.{eq-eqb, eqb-true, ltb-true}
use Rattle.record_core.specs.Sums.{total}
use Rattle.record_core.specs.Counting.{At, Has, one_if}
use Rattle.record_core.proofs.TotalFacts.{total-member, total-set}
use Rattle.kt_words.specs.declared.plan.Plan.{Plan}
use Rattle.kt_words.specs.SuperWords.{class_of}
use Rattle.kt_words.specs.StateWords.{phase_of, number_of}
use Rattle.table_core.specs.Addresses.{Addr, units_of}
use Rattle.table_core.specs.Lists.{Each}
use Rattle.table_core.specs.Pool.{superblock_of}
use Rattle.table_core.specs.Holdings.{Made, Run, Done}
use Rattle.table_core.specs.Own.{Hands, made_at, runs_at, done_at, known_in, is_own, is_in, OwnSound}
use Rattle.table_core.proofs.ListFacts.{total-has, set_cases}

-- nothing is known of a word where nothing is known
pub knows-nothing : (a : Addr) (n : ℕ) → known_in a [] ≡ Some n → ⊥
knows-nothing a n e = let no : None ≡ Some n → ⊥ = λ x. cc in no e

-- a member counts at its unit
pub made-counts : (l : List Made) (r : Made) → Has r l → 1 ≤ made_at r.unit l
made-counts l r has = omega (arith, total-has (λ (x : Made). one_if (x.unit == r.unit)) l r has, ap one_if (eq-eqb r.unit r.unit refl))

-- a run that the hand has is counted at its unit
pub runs-counts : (l : List Run) (r : Run) → Has r l → 1 ≤ runs_at r.unit l
runs-counts l r has = omega (arith, total-has (λ (x : Run). one_if (x.unit == r.unit)) l r has, ap one_if (eq-eqb r.unit r.unit refl))

-- a done record that the hand has is counted at its unit
pub done-counts : (l : List Done) (d : Done) → Has d l → 1 ≤ done_at d.unit l
done-counts l d has = omega (arith, total-has (λ (x : Done). one_if (x.unit == d.unit)) l d has, ap one_if (eq-eqb d.unit d.unit refl))

module _ (g : Plan) (supers states : ℕ → ℕ) (words : Addr → ℕ) where
  -- what a hand alone must keep
  pub record IsHand (h : Hands) : Type 0 where
    pub classes : Each (λ (r : Made). r.class ≡ class_of (supers (superblock_of g r.unit))) h.made
    pub run_classes : Each (λ (r : Run). r.class ≡ class_of (supers (superblock_of g r.unit))) h.runs
    pub numbers : Each (λ (r : Run). r.number ≡ number_of (states r.unit)) h.runs
    pub known : (a : Addr) (n : ℕ) → known_in a h.known ≡ Some n → (words a ≡ n) × (is_own h.made h.runs a ≡ true)

  -- each hand is sound where all hands are sound together
  pub hands-from : (vs : List Hands) → OwnSound g supers states words vs → Each IsHand vs
  hands-from vs sound k h at = record { classes = sound.classes k h at; run_classes = sound.run_classes k h at; numbers = sound.numbers k h at; known = sound.known k h at }

  -- sums of hands, and each hand
  pub own-from : (vs : List Hands) → ((u : ℕ) → total (λ h. made_at u h.made) vs ≡ is_in g states 1 u) → ((u : ℕ) → total (λ h. runs_at u h.runs) vs ≡ is_in g states 4 u)
      → ((u : ℕ) → total (λ h. done_at u h.done) vs ≤ is_in g states 5 u) → Each IsHand vs → OwnSound g supers states words vs
  own-from vs made runs done each = record {
    made = made;
    running = runs;
    done = done;
    classes = λ k h at. (each k h at).classes;
    run_classes = λ k h at. (each k h at).run_classes;
    numbers = λ k h at. (each k h at).numbers;
    known = λ k h at. (each k h at).known;
  }

  -- a unit of the table in a phase
  pub in-phase : (phase u : ℕ) → 1 ≤ is_in g states phase u → (u < units_of g) × (phase_of (states u) ≡ phase)
  in-phase phase u some = by (nat_lt u (units_of g)) refl (phase_of (states u) == phase) refl some
    where
      by : (b : Bool) → nat_lt u (units_of g) ≡ b → (d : Bool) → (phase_of (states u) == phase) ≡ d → 1 ≤ cond b (cond d 1 0) 0 → (u < units_of g) × (phase_of (states u) ≡ phase)
      by true near true same h = (ltb-true u (units_of g) near, eqb-true (phase_of (states u)) phase same)
      by true near false same h = absurd (omega arith)
      by false near d same h = absurd (omega arith)

  -- a record that a hand has as made is made; one that it has as running runs
  pub made-phase : (vs : List Hands) → OwnSound g supers states words vs → (k : ℕ) (h : Hands) → At vs k h → (u : ℕ) → 1 ≤ made_at u h.made → (u < units_of g) × (phase_of (states u) ≡ 1)
  made-phase vs sound k h at u some = in-phase 1 u (omega (arith, some, sound.made u, total-member (λ (x : Hands). made_at u x.made) vs k h at))

  -- where a hand has a run, the unit is in range and its record runs
  pub runs-phase : (vs : List Hands) → OwnSound g supers states words vs → (k : ℕ) (h : Hands) → At vs k h → (u : ℕ) → 1 ≤ runs_at u h.runs → (u < units_of g) × (phase_of (states u) ≡ 4)
  runs-phase vs sound k h at u some = in-phase 4 u (omega (arith, some, sound.running u, total-member (λ (x : Hands). runs_at u x.runs) vs k h at))

  -- where a hand has a done record, the unit is in range and its record is done
  pub done-phase : (vs : List Hands) → OwnSound g supers states words vs → (k : ℕ) (h : Hands) → At vs k h → (u : ℕ) → 1 ≤ done_at u h.done → (u < units_of g) × (phase_of (states u) ≡ 5)
  done-phase vs sound k h at u some = in-phase 5 u (omega (arith, some, sound.done u, total-member (λ (x : Hands). done_at u x.done) vs k h at))

  -- words that are nobody's own may change
  pub own-written : (words' : Addr → ℕ) (vs : List Hands) → OwnSound g supers states words vs
      → ((k : ℕ) (h : Hands) → At vs k h → (a : Addr) → is_own h.made h.runs a ≡ true → words' a ≡ words a) → OwnSound g supers states words' vs
  own-written words' vs was kept = record {
    made = was.made;
    running = was.running;
    done = was.done;
    classes = was.classes;
    run_classes = was.run_classes;
    numbers = was.numbers;
    known = λ k h at a n e. let t = was.known k h at a n e in (kept k h at a t.1 ∙ t.0, t.1);
  }

-- a hand that knows only words that stay
pub hand-kept : (g : Plan) (supers states : ℕ → ℕ) (words words' : Addr → ℕ) (h : Hands) → IsHand g supers states words h
    → ((a : Addr) → is_own h.made h.runs a ≡ true → words' a ≡ words a) → IsHand g supers states words' h
hand-kept g supers states words words' h is kept = record {
  classes = is.classes;
  run_classes = is.run_classes;
  numbers = is.numbers;
  known = λ a n e. let t = is.known a n e in (kept a t.1 ∙ t.0, t.1);
}

-- one hand changes, and words
module _ (g : Plan) (supers states states' : ℕ → ℕ) (words words' : Addr → ℕ) (vs : List Hands) (id : ℕ) (h h' : Hands) (at : At vs id h) where
  -- hands own what they say still, where one hand and the phases change by the same records
  pub own-moved : OwnSound g supers states words vs
      → ((u : ℕ) → made_at u h'.made + is_in g states 1 u ≡ made_at u h.made + is_in g states' 1 u)
      → ((u : ℕ) → runs_at u h'.runs + is_in g states 4 u ≡ runs_at u h.runs + is_in g states' 4 u)
      → ((u : ℕ) → total (λ x. done_at u x.done) vs + done_at u h'.done ≤ done_at u h.done + is_in g states' 5 u)
      → ((k : ℕ) (x : Hands) → k ≢ id → At vs k x → IsHand g supers states words x → IsHand g supers states' words' x)
      → IsHand g supers states' words' h'
      → OwnSound g supers states' words' (slice_set vs id h')
  own-moved was made runs done others here = own-from g supers states' words' (slice_set vs id h')
      (λ u. omega (arith, was.made u, made u, total-set (λ (x : Hands). made_at u x.made) vs id h h' at))
      (λ u. omega (arith, was.running u, runs u, total-set (λ (x : Hands). runs_at u x.runs) vs id h h' at))
      (λ u. omega (arith, done u, total-set (λ (x : Hands). done_at u x.done) vs id h h' at))
      (λ k x there. by k x (set_cases vs id k h' x there))
    where
      by : (k : ℕ) (x : Hands) → ((k ≡ id) × (x ≡ h')) ⊎ ((k ≢ id) × At vs k x) → IsHand g supers states' words' x
      by k x (inl t) = subst (IsHand g supers states' words') (sym t.1) here
      by k x (inr t) = others k x t.0 t.1 (hands-from g supers states words vs was k x t.1)

-- a state word is written that is nobody's own, and of no record that runs
module _ (g : Plan) (supers states states' : ℕ → ℕ) (words words' : Addr → ℕ) (vs : List Hands) (was : OwnSound g supers states words vs) (u : ℕ) (others : (w : ℕ) → w ≢ u → states' w ≡ states w) where
  -- a hand that has no own record there keeps what it has
  pub hand-apart : (k : ℕ) (h : Hands) → At vs k h → ¬ (phase_of (states u) ≡ 4) → ((a : Addr) → is_own h.made h.runs a ≡ true → words' a ≡ words a) → IsHand g supers states' words' h
  hand-apart k h at not_running kept =
      let is = hands-from g supers states words vs was k h at in record {
        classes = is.classes;
        run_classes = is.run_classes;
        numbers = λ j r there. is.numbers j r there ∙ ap number_of (sym (others r.unit (λ e. not_running (ap (λ (w : ℕ). phase_of (states w)) (sym e) ∙ (runs-phase g supers states words vs was k h at r.unit (runs-counts h.runs r (j, there))).1))));
        known = λ a n e. let t = is.known a n e in (kept a t.1 ∙ t.0, t.1);
      }
