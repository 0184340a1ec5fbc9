-- How a count that is kept by hand follows the pass.
use Rattle.std.proofs.Common.{◌≡◌, ◌≢◌, ◌∙◌, ◌⊎◌, inl, inr, ℕ, zero, suc, ◌+◌, ◌-◌, ◌*◌, ◌<◌, ◌≤◌, ◌==◌, Bool, true, false, cond, Option, Some, None, List, [], ◌∷◌, replicate, length, refl, sym, ap, subst, mul-le-mul_right, arith, get_or, get_or-set_same, get_or-set_other, length-set}
use Rattle.std.specs.Prelude.{slice_get, slice_index, slice_set}
use Rattle.std.proofs.lemmas.Bool.{cases_eq, eq-eqb, ne_eqb, eqb-true}
use Rattle.std.specs.List.{slice_index_or}
use Rattle.std.proofs.lemmas.Option.{none-some, same_Some, slice_get-get_or}
use Rattle.record_core.specs.Counting.{Has, one_if, times, dropped}
use Rattle.kt_words.specs.declared.plan.Plan.{Plan}
use Rattle.table_core.specs.Addresses.{units_of, refs}
use Rattle.table_core.specs.Holdings.{Done}
use Rattle.table_core.specs.RecordViews.{is_at, is_done_at, at_last, gave_up}
use Rattle.table_core.specs.Views.{saw}
use Rattle.table_core.specs.declared.view.View.{View}
use Rattle.table_core.proofs.BagFacts.{times-dropped}
use Rattle.step_table.specs.declared.record_tokens.Finishing.{Finishing}
use Rattle.step_table.specs.Lookups.{done_in}
use Rattle.step_table.specs.RecordHands.{MayGiveUp, HasRetiring}
use Rattle.reference_rows.specs.Hands.{over_at, CountsOf, Owns, HasRecords, IsHand}

-- a number is itself
pub same-number : (n : ℕ) → (n == n) ≡ true
same-number n = eq-eqb n n refl

-- what is read after a write is what was written, or stood at another place
set-get : {A : Type 0} (l : List A) (u w : ℕ) (x y : A) → slice_get (slice_set l u x) w ≡ Some y → ((w ≡ u) × (x ≡ y)) ⊎ ((w ≢ u) × (slice_get l w ≡ Some y))
set-get [] u w x y e = absurd (none-some y e)
set-get (a ∷ l) zero zero x y e = inl (refl, same_Some x y e)
set-get (a ∷ l) zero (suc w) x y e = inr ((λ k. omega (arith, k)), e)
set-get (a ∷ l) (suc u) zero x y e = inr ((λ k. omega (arith, k)), e)
set-get {A} (a ∷ l) (suc u) (suc w) x y e = by (set-get l u w x y e)
  where
    by : ((w ≡ u) × (x ≡ y)) ⊎ ((w ≢ u) × (slice_get l w ≡ Some y)) → ((suc w ≡ suc u) × (x ≡ y)) ⊎ ((suc w ≢ suc u) × (slice_get l w ≡ Some y))
    by (inl same) = inl (ap suc same.0, same.1)
    by (inr other) = let apart = other.0 in inr ((λ k. apart (omega (arith, k))), other.1)

-- a record is looked up as before where one of another unit is left out
done-left : (u w : ℕ) (l : List Done) → u ≢ w → done_in u (dropped (is_done_at w) l) ≡ done_in u l
done-left u w [] ne = refl
done-left u w (d ∷ l) ne = by (done-left u w l ne) (is_done_at w d) refl
  where
    by : done_in u (dropped (is_done_at w) l) ≡ done_in u l → (b : Bool) → is_done_at w d ≡ b → done_in u (cond b l (d ∷ dropped (is_done_at w) l)) ≡ done_in u (d ∷ l)
    by rest true e = sym (ap (λ (b : Bool). cond b (Some d) (done_in u l)) (ne_eqb d.unit u (λ k. ne (sym k ∙ eqb-true d.unit w e))))
    by rest false e = ap (λ (o : Option Done). cond (is_done_at u d) (Some d) o) rest

-- and where one comes
done-further : (u w : ℕ) (l : List Done) → u ≢ w → done_in u (over_at w ∷ l) ≡ done_in u l
done-further u w l ne = ap (λ (b : Bool). cond b (Some (over_at w)) (done_in u l)) (ne_eqb w u (λ k. ne (sym k)))

-- which is looked up by its unit
pub done-first : (u : ℕ) (l : List Done) → done_in u (over_at u ∷ l) ≡ Some (over_at u)
done-first u l = ap (λ (b : Bool). cond b (Some (over_at u)) (done_in u l)) (same-number u)

module _ (futures l : List ℕ) (u : ℕ) (small : u < 8) (is : CountsOf futures l) where
  inside : u < length futures
  inside = omega (arith, is.eight, small)

  -- one reference more
  pub counts-up : CountsOf (slice_set futures u (slice_index futures u + 1)) (u ∷ l)
  counts-up = record { eight = length-set futures u (slice_index futures u + 1) ∙ is.eight; counts = λ x near. by x near (cases_eq u x) }
    where
      by : (x : ℕ) → x < 8 → (u ≡ x) ⊎ (u ≢ x) → times x (u ∷ l) ≡ slice_index (slice_set futures u (slice_index futures u + 1)) x
      by x near (inl e) =
          omega (
            arith,
            ap one_if (eq-eqb u x e),
            is.counts x near,
            ap (slice_index futures) e,
            ap (slice_index (slice_set futures u (slice_index futures u + 1))) (sym e) ∙ get_or-set_same futures u (slice_index futures u + 1) 0 inside,
          )
      by x near (inr ne) =
          omega (arith, ap one_if (ne_eqb u x ne), is.counts x near, get_or-set_other futures u x (slice_index futures u + 1) 0 (λ e. ne (sym e)))

  -- one reference less
  pub counts-down : 1 ≤ slice_index futures u → CountsOf (slice_set futures u (slice_index futures u - 1)) (dropped (is_at u) l)
  counts-down some = record { eight = length-set futures u (slice_index futures u - 1) ∙ is.eight; counts = λ x near. by x near (cases_eq u x) }
    where
      one : 1 ≤ times u l
      one = omega (arith, is.counts u small, some)

      by : (x : ℕ) → x < 8 → (u ≡ x) ⊎ (u ≢ x) → times x (dropped (is_at u) l) ≡ slice_index (slice_set futures u (slice_index futures u - 1)) x
      by x near (inl e) =
          omega (
            arith,
            times-dropped u x l one,
            ap one_if (eq-eqb u x e),
            is.counts x near,
            ap (slice_index futures) e,
            ap (slice_index (slice_set futures u (slice_index futures u - 1))) (sym e) ∙ get_or-set_same futures u (slice_index futures u - 1) 0 inside,
          )
      by x near (inr ne) =
          omega (arith, times-dropped u x l one, ap one_if (ne_eqb u x ne), is.counts x near, get_or-set_other futures u x (slice_index futures u - 1) 0 (λ e. ne (sym e)))

module _ (own : List (Option Finishing)) (done : List Done) (u : ℕ) (owns : Owns own done) where
  -- a record more is done
  pub owns-more : (f : Finishing) → f.unit ≡ u → Owns (slice_set own u (Some f)) (over_at u ∷ done)
  owns-more f its x y there = by (set-get own u x (Some f) (Some y) there)
    where
      by : ((x ≡ u) × (Some f ≡ Some y)) ⊎ ((x ≢ u) × (slice_get own x ≡ Some (Some y))) → (y.unit ≡ x) × (done_in x (over_at u ∷ done) ≡ Some (over_at x))
      by (inl same) =
          let e : f ≡ y = same_Some f y same.1 in
          (ap (λ (z : Finishing). z.unit) (sym e) ∙ its ∙ sym same.0, ap (λ (w : ℕ). done_in x (over_at w ∷ done)) (sym same.0) ∙ done-first x done)
      by (inr other) = let has = owns x y other.1 in (has.0, done-further x u done other.0 ∙ has.1)

  -- the scheduler's own reference goes
  pub owns-less : Owns (slice_set own u None) (dropped (is_done_at u) done)
  owns-less x y there = by (set-get own u x None (Some y) there)
    where
      by : ((x ≡ u) × (◌≡◌ {A = Option Finishing} None (Some y))) ⊎ ((x ≢ u) × (slice_get own x ≡ Some (Some y))) → (y.unit ≡ x) × (done_in x (dropped (is_done_at u) done) ≡ Some (over_at x))
      by (inl same) = absurd (none-some y same.1)
      by (inr other) = let has = owns x y other.1 in (has.0, done-left x u done other.0 ∙ has.1)

module _ (futures : List ℕ) (own : List (Option Finishing)) (v w : View) (hand : IsHand futures own v) (idle : w.runs ≡ v.runs) where
  -- a step that leaves the references
  pub hand-same : w.futures ≡ v.futures → w.done ≡ v.done → IsHand futures own w
  hand-same same given = record {
    records = record { counts = subst (CountsOf futures) (sym same) hand.records.counts; owns = subst (Owns own) (sym given) hand.records.owns };
    idle = idle ∙ hand.idle;
  }

  -- one reference more
  pub hand-more : (u : ℕ) → u < 8 → w.futures ≡ u ∷ v.futures → w.done ≡ v.done → IsHand (slice_set futures u (slice_index futures u + 1)) own w
  hand-more u small more given = record {
    records = record {
      counts = subst (CountsOf (slice_set futures u (slice_index futures u + 1))) (sym more) (counts-up futures v.futures u small hand.records.counts);
      owns = subst (Owns own) (sym given) hand.records.owns;
    };
    idle = idle ∙ hand.idle;
  }

  -- one reference less
  pub hand-less : (u : ℕ) → u < 8 → 1 ≤ slice_index futures u → w.futures ≡ dropped (is_at u) v.futures → w.done ≡ v.done → IsHand (slice_set futures u (slice_index futures u - 1)) own w
  hand-less u small some less given = record {
    records = record {
      counts = subst (CountsOf (slice_set futures u (slice_index futures u - 1))) (sym less) (counts-down futures v.futures u small hand.records.counts some);
      owns = subst (Owns own) (sym given) hand.records.owns;
    };
    idle = idle ∙ hand.idle;
  }

  -- the scheduler's own reference goes
  pub hand-given : (u : ℕ) → w.futures ≡ v.futures → w.done ≡ dropped (is_done_at u) v.done → IsHand futures (slice_set own u None) w
  hand-given u same given = record {
    records = record {
      counts = subst (CountsOf futures) (sym same) hand.records.counts;
      owns = subst (Owns (slice_set own u None)) (sym given) (owns-less own v.done u hand.records.owns);
    };
    idle = idle ∙ hand.idle;
  }

-- a table has eight units and more
pub unit-near : (g : Plan) (u : ℕ) → u < 8 → u < units_of g
unit-near g u small =
    let up_to : 1 * g.geometry.units ≤ g.geometry.superblocks * g.geometry.units = mul-le-mul_right g.geometry.units (omega (arith, g.geometry.superblocks_fit)) in
    omega (arith, small, up_to, g.geometry.units_fit)

-- the hand of a pass with one reference
pub first-hand : (u : ℕ) (v : View) → u < 8 → v.futures ≡ u ∷ [] → HasRecords (slice_set (replicate 8 0) u 1) (replicate 8 None) v
first-hand u v small refers = record {
  counts = subst (CountsOf (slice_set (replicate 8 0) u 1)) (sym refers) (subst (λ (n : ℕ). CountsOf (slice_set (replicate 8 0) u n) (u ∷ [])) one (counts-up (replicate 8 0) [] u small none));
  owns = owns;
}
  where
    zeros : (x : ℕ) → x < 8 → 0 ≡ slice_index (replicate 8 0) x
    zeros zero near = refl
    zeros (suc zero) near = refl
    zeros (suc (suc zero)) near = refl
    zeros (suc (suc (suc zero))) near = refl
    zeros (suc (suc (suc (suc zero)))) near = refl
    zeros (suc (suc (suc (suc (suc zero))))) near = refl
    zeros (suc (suc (suc (suc (suc (suc zero)))))) near = refl
    zeros (suc (suc (suc (suc (suc (suc (suc zero))))))) near = refl
    zeros (suc (suc (suc (suc (suc (suc (suc (suc x)))))))) near = absurd (omega (arith, near))

    none : CountsOf (replicate 8 0) []
    none = record { eight = refl; counts = zeros }

    one : slice_index (replicate 8 0) u + 1 ≡ 1
    one = omega (arith, zeros u small)

    owns : Owns (replicate 8 None) v.done
    owns zero f e = absurd (none-some f (same_Some None (Some f) e))
    owns (suc zero) f e = absurd (none-some f (same_Some None (Some f) e))
    owns (suc (suc zero)) f e = absurd (none-some f (same_Some None (Some f) e))
    owns (suc (suc (suc zero))) f e = absurd (none-some f (same_Some None (Some f) e))
    owns (suc (suc (suc (suc zero)))) f e = absurd (none-some f (same_Some None (Some f) e))
    owns (suc (suc (suc (suc (suc zero))))) f e = absurd (none-some f (same_Some None (Some f) e))
    owns (suc (suc (suc (suc (suc (suc zero)))))) f e = absurd (none-some f (same_Some None (Some f) e))
    owns (suc (suc (suc (suc (suc (suc (suc zero))))))) f e = absurd (none-some f (same_Some None (Some f) e))
    owns (suc (suc (suc (suc (suc (suc (suc (suc x)))))))) f e = absurd (none-some (Some f) e)

-- one record more that is done
pub records-more : (futures : List ℕ) (own : List (Option Finishing)) (v w : View) → HasRecords futures own v → (u : ℕ) (f : Finishing) → u < 8 → f.unit ≡ u → w.futures ≡ u ∷ v.futures
    → w.done ≡ over_at u ∷ v.done → HasRecords (slice_set futures u (slice_index futures u + 1)) (slice_set own u (Some f)) w
records-more futures own v w has u f small its more done = record {
  counts = subst (CountsOf (slice_set futures u (slice_index futures u + 1))) (sym more) (counts-up futures v.futures u small has.counts);
  owns = subst (Owns (slice_set own u (Some f))) (sym done) (owns-more own v.done u has.owns f its);
}

-- the scheduler's own reference to such a record may be given up
pub may-give : (g : Plan) (u x : ℕ) (v : View) → x ≡ u → u < units_of g → done_in u v.done ≡ Some (over_at u) → MayGiveUp g x v
may-give g u x v its near over = subst (λ (y : ℕ). MayGiveUp g y v) (sym its) (record { done = over_at u; at = record { near = near; there = over }; closed = refl; out = refl })

-- and where it was the last, the record may be retired
pub retiring-there : (g : Plan) (u x y found : ℕ) (v w : View) → x ≡ u → u < units_of g → y ≡ x → found ≡ 1 → w ≡ saw (refs x) found (gave_up x found v) → HasRetiring g y w
retiring-there g u x y found v w its near same last e = subst (λ (z : ℕ). HasRetiring g z w) (sym (same ∙ its)) (record {
  near = near;
  there = subst (λ (l : List ℕ). 1 ≤ times u l) (sym (ap (λ (z : View). z.retiring) e ∙ ap (λ (n : ℕ). at_last x n v.retiring) last ∙ ap (λ (z : ℕ). z ∷ v.retiring) its)) (omega (arith, ap one_if (same-number u)));
})

-- what is read inside of a list stands there
pub own-at : (own : List (Option Finishing)) (u : ℕ) (d : Option Finishing) (f : Finishing) → u < length own → slice_index_or own u d ≡ Some f → slice_get own u ≡ Some (Some f)
own-at own u d f inside e = slice_get-get_or own u d inside ∙ ap Some e
