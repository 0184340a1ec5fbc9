-- References where the words, and what passes have, change.
use Rattle.std.proofs.Common.{◌≡◌, ◌∙◌, ℕ, ◌+◌, ◌<◌, ◌≤◌, Bool, true, false, cond, ◌==◌, List, refl, sym, ap, arith}
use Rattle.record_core.specs.Sums.{total, below}
use Rattle.record_core.specs.Counting.{one_if, times}
use Rattle.record_core.proofs.BelowFacts.{below-same}
use Rattle.kt_words.specs.declared.plan.Plan.{Plan}
use Rattle.task_syntax.specs.declared.program.Program.{Program}
use Rattle.frame_code.specs.Names.{named}
use Rattle.table_core.specs.Addresses.{units_of}
use Rattle.table_core.specs.References.{is_saved, is_live, is_record, Bag, saved_in, IsReferred}

-- how many references to u are in hands, how many of them are the scheduler's own, and how often u is to be retired
abbrev pub in_hands : List Bag → ℕ → ℕ
in_hands bags u = total (λ b. times u b.futures) bags

abbrev pub kept_in : List Bag → ℕ → ℕ
kept_in bags u = total (λ b. times u b.done) bags

abbrev pub leaving : List Bag → ℕ → ℕ
leaving bags u = total (λ b. times u b.retiring) bags

-- what a step may change of the references to u: root words, hands
abbrev pub held_at : (ℕ → ℕ) → List Bag → ℕ → ℕ
held_at roots bags u = below (λ r. one_if (roots r == u + 1)) 16 + in_hands bags u + kept_in bags u

module _ (p : Program) (g : Plan) (states states' counts counts' roots roots' : ℕ → ℕ) (frames frames' : ℕ → ℕ → ℕ) (bags bags' : List Bag) where
  -- frames that are saved name the same
  pub saved-same : ((u : ℕ) → is_saved (states' u) ≡ is_saved (states u)) → ((r : ℕ) → r < units_of g → is_saved (states r) ≡ true → named p (frames' r) ≡ named p (frames r))
      → (u : ℕ) → below (saved_in p states' counts' roots' frames' u) (units_of g) ≡ below (saved_in p states counts roots frames u) (units_of g)
  saved-same tests names u = below-same (saved_in p states' counts' roots' frames' u) (saved_in p states counts roots frames u) (units_of g) (λ r near. one r near (is_saved (states r)) refl)
    where
      one : (r : ℕ) → r < units_of g → (b : Bool) → is_saved (states r) ≡ b → cond (is_saved (states' r)) (times u (named p (frames' r))) 0 ≡ cond (is_saved (states r)) (times u (named p (frames r))) 0
      one r near true e = ap (λ (b : Bool). cond b (times u (named p (frames' r))) 0) (tests r ∙ e) ∙ ap (times u) (names r near e) ∙ sym (ap (λ (b : Bool). cond b (times u (named p (frames r))) 0) e)
      one r near false e = ap (λ (b : Bool). cond b (times u (named p (frames' r))) 0) (tests r ∙ e) ∙ sym (ap (λ (b : Bool). cond b (times u (named p (frames r))) 0) e)

  -- The same records stand, and saved frames name the same: then each reference word changes as the references in root words
  -- and hands do.
  pub referred-moved : IsReferred p states counts roots frames g bags
      → ((u : ℕ) → is_saved (states' u) ≡ is_saved (states u)) → ((u : ℕ) → is_live (states' u) ≡ is_live (states u)) → ((u : ℕ) → is_record (states' u) ≡ is_record (states u))
      → ((r : ℕ) → r < units_of g → is_saved (states r) ≡ true → named p (frames' r) ≡ named p (frames r))
      → ((u : ℕ) → u < units_of g → is_record (states u) ≡ true → counts' u + held_at roots bags u ≡ counts u + held_at roots' bags' u)
      → ((u : ℕ) → u < units_of g → is_record (states u) ≡ false → held_at roots bags u ≡ 0 → held_at roots' bags' u ≡ 0)
      → ((u : ℕ) → u < units_of g → leaving bags' u ≡ cond (is_record (states u)) (one_if (counts' u == 0)) 0)
      → ((u : ℕ) → units_of g ≤ u → in_hands bags' u + kept_in bags' u + leaving bags' u ≤ in_hands bags u + kept_in bags u + leaving bags u)
      → IsReferred p states' counts' roots' frames' g bags'
  referred-moved was saved live recorded names balance nothing last away = record {
    counted = λ u near is. let is' : is_record (states u) ≡ true = sym (recorded u) ∙ is in
        omega (arith, was.counted u near is', balance u near is', saved-same saved names u, ap one_if (live u));
    unnamed = λ u near is. let is' : is_record (states u) ≡ false = sym (recorded u) ∙ is in
        omega (arith, was.unnamed u near is', nothing u near is' (omega (arith, was.unnamed u near is')), saved-same saved names u, ap one_if (live u));
    last = λ u near. last u near ∙ sym (ap (λ (b : Bool). cond b (one_if (counts' u == 0)) 0) (recorded u));
    inside = λ u far. omega (arith, was.inside u far, away u far, saved-same saved names u, ap one_if (live u));
  }

-- passes that have the same together
pub referred-same : (p : Program) (g : Plan) (states counts roots : ℕ → ℕ) (frames : ℕ → ℕ → ℕ) (bags bags' : List Bag)
    → ((u : ℕ) → in_hands bags' u ≡ in_hands bags u) → ((u : ℕ) → kept_in bags' u ≡ kept_in bags u) → ((u : ℕ) → leaving bags' u ≡ leaving bags u)
    → IsReferred p states counts roots frames g bags → IsReferred p states counts roots frames g bags'
referred-same p g states counts roots frames bags bags' hands kept left was = record {
  counted = λ u near is. omega (arith, was.counted u near is, hands u, kept u);
  unnamed = λ u near is. omega (arith, was.unnamed u near is, hands u, kept u);
  last = λ u near. left u ∙ was.last u near;
  inside = λ u far. omega (arith, was.inside u far, hands u, kept u, left u);
}
