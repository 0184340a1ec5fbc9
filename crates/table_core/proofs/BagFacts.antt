-- Bags of which one changes, and how many references there can be.
use Rattle.std.proofs.Common.{◌≡◌, ◌≢◌, ◌∙◌, ◌⊎◌, inl, inr, ℕ, ◌+◌, ◌<◌, ◌≤◌, Bool, true, false, cond, ◌==◌, List, ◌∷◌, map, length, refl, sym, ap, subst, true≢false, arith}
use Rattle.std.specs.Prelude.{slice_set}
use Rattle.std.proofs.lemmas.Bool.{cases_eq, eqb-true, eq-eqb, ne_eqb}
use Rattle.record_core.specs.Counting.{At, Has, one_if, times, dropped}
use Rattle.record_core.proofs.TotalFacts.{total-map, total-set, total-bounded}
use Rattle.record_core.proofs.CountFacts.{total-dropped, times-some}
use Rattle.kt_words.specs.declared.plan.Plan.{Plan}
use Rattle.task_syntax.specs.declared.program.Program.{Program}
use Rattle.table_core.specs.Addresses.{units_of}
use Rattle.table_core.specs.Holdings.{Done}
use Rattle.table_core.specs.References.{is_record, Bag, IsReferred}
use Rattle.table_core.specs.Own.{done_at}
use Rattle.table_core.specs.RecordViews.{is_at, is_done_at, at_last}
use Rattle.table_core.proofs.ListFacts.{dropped-one}
use Rattle.table_core.proofs.ReferenceFacts.{in_hands, kept_in, leaving, held_at, referred-moved}

-- a number of a list is a member at most as often as there are members
pub times-few : (u : ℕ) (l : List ℕ) → times u l ≤ length l
times-few u l = omega (arith, total-bounded (λ (n : ℕ). one_if (n == u)) 1 l (λ k x at. by (x == u)))
  where
    by : (b : Bool) → one_if b ≤ 1
    by true = omega arith
    by false = omega arith

-- one of the references to u goes
pub times-dropped : (u w : ℕ) (l : List ℕ) → 1 ≤ times u l → times w (dropped (is_at u) l) + one_if (u == w) ≡ times w l
times-dropped u w l some = dropped-one (is_at u) u (λ y e. eqb-true y u e) (eq-eqb u u refl) (λ (n : ℕ). one_if (n == w)) l ((times-some u l).0 some)

-- the units of done records, of which one goes
pub times-done : (u : ℕ) (ds : List Done) → times u (map (λ (d : Done). d.unit) ds) ≡ done_at u ds
times-done u ds = total-map (λ (n : ℕ). one_if (n == u)) (λ (d : Done). d.unit) ds

-- without the done record at u, the done records at each unit are as many as before, but at u one fewer
pub done-dropped : (u w : ℕ) (ds : List Done) (d : Done) → Has d ds → d.unit ≡ u → done_at w (dropped (is_done_at u) ds) + one_if (u == w) ≡ done_at w ds
done-dropped u w ds d has e = total-dropped (λ (x : Done). one_if (x.unit == w)) (is_done_at u) (one_if (u == w)) ds
    (λ k x at here. ap (λ (n : ℕ). one_if (n == w)) (eqb-true x.unit u here)) (record { member = d; there = has; passes = eq-eqb d.unit u e })

-- a record comes to be retired where its reference word was 1
pub times-last : (u w n : ℕ) (l : List ℕ) → times w (at_last u n l) ≡ times w l + cond (n == 1) (one_if (u == w)) 0
times-last u w n l = by (n == 1)
  where
    by : (b : Bool) → times w (cond b (u ∷ l) l) ≡ times w l + cond b (one_if (u == w)) 0
    by true = omega arith
    by false = omega arith

-- a unit is counted once at itself
pub one-here : (u : ℕ) → one_if (u == u) ≡ 1
one-here u = ap one_if (eq-eqb u u refl)

-- a unit is not counted at another one
pub one-apart : (u w : ℕ) → u ≢ w → one_if (u == w) ≡ 0
one-apart u w ne = ap one_if (ne_eqb u w ne)

-- no hand has a reference to a unit that is no record
pub record-from : (p : Program) (g : Plan) (states counts roots : ℕ → ℕ) (frames : ℕ → ℕ → ℕ) (bags : List Bag) → IsReferred p states counts roots frames g bags
    → (u : ℕ) → u < units_of g → 1 ≤ held_at roots bags u → is_record (states u) ≡ true
record-from p g states counts roots frames bags sound u near some = by (is_record (states u)) refl
  where
    by : (b : Bool) → is_record (states u) ≡ b → b ≡ true
    by true e = refl
    by false e = absurd (omega (arith, sound.unnamed u near e, some))

-- The reference word of one record changes, and so do its references in one hand.
module _ (p : Program) (g : Plan) (states counts counts' roots : ℕ → ℕ) (frames : ℕ → ℕ → ℕ) (bags : List Bag) (id : ℕ) (b b' : Bag) (at : At bags id b) where
  abbrev after : List Bag
  after = slice_set bags id b'

  hands-set : (w : ℕ) → in_hands after w + times w b.futures ≡ in_hands bags w + times w b'.futures
  hands-set w = total-set (λ (x : Bag). times w x.futures) bags id b b' at

  kept-set : (w : ℕ) → kept_in after w + times w b.done ≡ kept_in bags w + times w b'.done
  kept-set w = total-set (λ (x : Bag). times w x.done) bags id b b' at

  leaving-set : (w : ℕ) → leaving after w + times w b.retiring ≡ leaving bags w + times w b'.retiring
  leaving-set w = total-set (λ (x : Bag). times w x.retiring) bags id b b' at

  -- references stay counted where one hand and one reference word change by the same number
  pub referred-hand : IsReferred p states counts roots frames g bags → (u : ℕ) → u < units_of g → is_record (states u) ≡ true → 1 ≤ counts u
      → ((w : ℕ) → w ≢ u → counts' w ≡ counts w)
      → ((w : ℕ) → w ≢ u → (times w b'.futures ≡ times w b.futures) × (times w b'.done ≡ times w b.done) × (times w b'.retiring ≡ times w b.retiring))
      → counts' u + (times u b.futures + times u b.done) ≡ counts u + (times u b'.futures + times u b'.done)
      → times u b'.retiring ≡ times u b.retiring + one_if (counts' u == 0)
      → IsReferred p states counts' roots frames g after
  referred-hand was u near is_one counted_one other_counts other_bags balance last = referred-moved p g states states counts counts' roots roots frames frames bags after was
      (λ w. refl) (λ w. refl) (λ w. refl) (λ r low is. refl)
      (λ w low is. balanced w (cases_eq w u))
      (λ w low is none. unnamed w is none (cases_eq w u))
      (λ w low. lasts w low (cases_eq w u))
      (λ w far. away w far (λ e. omega (arith, far, near, e)))
    where
      balanced : (w : ℕ) → (w ≡ u) ⊎ (w ≢ u) → counts' w + held_at roots bags w ≡ counts w + held_at roots after w
      balanced w (inl e) = subst (λ (x : ℕ). counts' x + held_at roots bags x ≡ counts x + held_at roots after x) (sym e) (omega (arith, balance, hands-set u, kept-set u))
      balanced w (inr ne) = let t = other_bags w ne in omega (arith, other_counts w ne, hands-set w, kept-set w, t.0, t.1)

      unnamed : (w : ℕ) → is_record (states w) ≡ false → held_at roots bags w ≡ 0 → (w ≡ u) ⊎ (w ≢ u) → held_at roots after w ≡ 0
      unnamed w is none (inl e) = absurd (true≢false (sym (ap (λ (x : ℕ). is_record (states x)) e ∙ is_one) ∙ is))
      unnamed w is none (inr ne) = let t = other_bags w ne in omega (arith, none, hands-set w, kept-set w, t.0, t.1)

      lasts : (w : ℕ) → w < units_of g → (w ≡ u) ⊎ (w ≢ u) → leaving after w ≡ cond (is_record (states w)) (one_if (counts' w == 0)) 0
      lasts w low (inl e) =
          let no_zero : one_if (counts u == 0) ≡ 0 = ap one_if (ne_eqb (counts u) 0 (λ z. omega (arith, z, counted_one))) in
          let before : leaving bags u ≡ 0 = was.last u near ∙ ap (λ (y : Bool). cond y (one_if (counts u == 0)) 0) is_one ∙ no_zero in
          let here : leaving after u ≡ cond (is_record (states u)) (one_if (counts' u == 0)) 0 =
          omega (arith, leaving-set u, before, last) ∙ sym (ap (λ (y : Bool). cond y (one_if (counts' u == 0)) 0) is_one) in
          subst (λ (x : ℕ). leaving after x ≡ cond (is_record (states x)) (one_if (counts' x == 0)) 0) (sym e) here
      lasts w low (inr ne) =
          let same : leaving after w ≡ leaving bags w = omega (arith, leaving-set w, (other_bags w ne).2) in
          same ∙ was.last w low ∙ ap (λ (x : ℕ). cond (is_record (states w)) (one_if (x == 0)) 0) (sym (other_counts w ne))

      away : (w : ℕ) → units_of g ≤ w → w ≢ u → in_hands after w + kept_in after w + leaving after w ≤ in_hands bags w + kept_in bags w + leaving bags w
      away w far ne = let t = other_bags w ne in omega (arith, hands-set w, kept-set w, leaving-set w, t.0, t.1, t.2)
