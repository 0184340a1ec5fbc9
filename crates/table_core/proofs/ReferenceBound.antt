-- A reference word stays far below its range.
use Rattle.std.proofs.Common.{◌≡◌, ◌∙◌, ℕ, zero, suc, ◌+◌, ◌*◌, ◌%◌, ◌<◌, ◌≤◌, Bool, true, false, cond, ◌==◌, List, [], ◌∷◌, map, length, refl, sym, arith}
use Rattle.std.specs.Prelude.{nat_lt}
use Rattle.std.proofs.lemmas.Nat.{mul-le}
use Rattle.record_core.specs.Sums.{total}
use Rattle.record_core.specs.Counting.{one_if, times}
use Rattle.record_core.proofs.TotalFacts.{total-map, total-le, total-same}
use Rattle.record_core.proofs.BelowFacts.{below-bounded}
use Rattle.kt_words.specs.declared.plan.Plan.{Plan}
use Rattle.kt_words.specs.Capacity.{block_units}
use Rattle.kt_words.specs.SuperWords.{class_of}
use Rattle.frame_code.specs.Names.{named}
use Rattle.table_core.specs.Addresses.{Mem, super, state, refs, root, frame_in, units_of}
use Rattle.table_core.specs.Bounds.{IsBounded, Held, Numbered}
use Rattle.table_core.specs.Pool.{superblock_of}
use Rattle.table_core.specs.References.{Bag, is_saved, is_live, is_record, saved_in}
use Rattle.table_core.specs.Own.{Hands, done_at, is_in}
use Rattle.table_core.specs.Story.{Story}
use Rattle.table_core.specs.Parts.{pool, shares, bounds, references, fits, own, numbers, totals, seen, AllSay}
use Rattle.table_core.specs.declared.setup.Setup.{Setup}
use Rattle.table_core.specs.declared.view.View.{View}
use Rattle.table_core.proofs.ListFacts.{at_map}
use Rattle.table_core.proofs.ReferenceFacts.{in_hands, kept_in}
use Rattle.table_core.proofs.BagFacts.{times-few, times-done}
use Rattle.table_core.proofs.ClassFacts.{superblock_in}
use Rattle.table_core.proofs.FrameReads.{names-few}

-- a sum of three
total-three : {A : Type 0} (f h k : A → ℕ) (l : List A) → total (λ x. 4294967296 * f x + 64 * h x + k x) l ≡ 4294967296 * total f l + 64 * total h l + total k l
total-three f h k [] = refl
total-three f h k (x ∷ l) = omega (arith, total-three f h k l)

-- a pass has as many references as its bound says, and none where it is spent
few-of : (b : Held) → IsBounded b → b.references ≤ 4294967296 * b.parts + 64 * b.taken + b.calls
few-of b is = by b.parts refl
  where
    by : (n : ℕ) → b.parts ≡ n → b.references ≤ 4294967296 * n + 64 * b.taken + b.calls
    by zero e = omega (arith, is.spent e)
    by (suc n) e = omega (arith, is.few)

block-few : (c : ℕ) → c ≤ 3 → block_units c ≤ 8
block-few zero h = omega arith
block-few (suc zero) h = omega arith
block-few (suc (suc zero)) h = omega arith
block-few (suc (suc (suc zero))) h = omega arith
block-few (suc (suc (suc (suc c)))) h = absurd (omega (arith, h))

at_most_one : (b : Bool) → one_if b ≤ 1
at_most_one true = omega arith
at_most_one false = omega arith

-- a table has at most 524,288 units
pub units-few : (g : Plan) → units_of g ≤ 524288
units-few g = omega (arith, mul-le g.geometry.superblocks g.geometry.units 1024 512 g.geometry.superblocks_fit.1 g.geometry.units_fit.1)

module _ (g : Setup) (m : Mem) (vs : List View) (s : Story) (l : AllSay g s m vs) where
  abbrev bags : List Bag
  bags = map (seen references) vs

  all_hands : (u : ℕ) → in_hands bags u ≤ 17592186044416 + 65 * g.plan.limit
  all_hands u =
      let each : total (λ (v : View). times u v.futures) vs ≤ total (λ (v : View). 4294967296 * v.parts + 64 * length v.taken + length v.calls) vs =
      total-le (λ (v : View). times u v.futures) (λ (v : View). 4294967296 * v.parts + 64 * length v.taken + length v.calls) vs
      (λ k v at. omega (arith, times-few u v.futures, few-of (seen bounds v) (l bounds k (seen bounds v) (at_map (seen bounds) vs k v at)))) in
      omega (
        arith,
        each,
        total-map (λ (b : Bag). times u b.futures) (seen references) vs,
        total-three (λ (v : View). v.parts) (λ (v : View). length v.taken) (λ (v : View). length v.calls) vs,
        total-map (λ (n : ℕ). n) (seen shares) vs,
        l shares,
        total-map (λ (n : Numbered). n.taken) (seen numbers) vs,
        total-map (λ (n : Numbered). n.calls) (seen numbers) vs,
        (l numbers).taken,
        (l numbers).calls,
        (l totals).drawn,
      )

  -- the scheduler's own references are those of done records in hands
  pub kept-done : (u : ℕ) → kept_in bags u ≡ total (λ (h : Hands). done_at u h.done) (map (seen own) vs)
  kept-done u = total-map (λ (b : Bag). times u b.done) (seen references) vs
      ∙ total-same (λ (v : View). times u (seen references v).done) (λ (v : View). done_at u v.done) vs (λ k v at. times-done u v.done)
      ∙ sym (total-map (λ (h : Hands). done_at u h.done) (seen own) vs)

  -- a unit is counted in a phase once at most
  pub in-few : (phase u : ℕ) → is_in g.plan (λ w. m (state w)) phase u ≤ 1
  in-few phase u = by (nat_lt u (units_of g.plan))
    where
      by : (b : Bool) → cond b (one_if (m (state u) % 8 == phase)) 0 ≤ 1
      by true = at_most_one (m (state u) % 8 == phase)
      by false = omega arith

  -- a saved frame names at most 63
  saved_few : (u r : ℕ) → r < units_of g.plan → saved_in g.checked (λ w. m (state w)) (λ w. m (refs w)) (λ k. m (root k)) (frame_in m) u r ≤ 64
  saved_few u r near = by (is_saved (m (state r))) refl
    where
      by : (b : Bool) → is_saved (m (state r)) ≡ b → cond b (times u (named g.checked (frame_in m r))) 0 ≤ 64
      by false e = omega arith
      by true e =
          let i : ℕ = superblock_of g.plan r in
          omega (
            arith,
            times-few u (named g.checked (frame_in m r)),
            names-few g.checked (frame_in m r),
            (l fits).saved r near e,
            block-few (class_of (m (super i))) ((l pool).kept i (superblock_in g.plan r near)).class_fits,
          )

  -- so a reference word has room for one more
  pub refs-few : (u : ℕ) → u < units_of g.plan → is_record (m (state u)) ≡ true → m (refs u) < 18446744073709551615
  refs-few u near is = omega (
    arith,
    (l references).counted u near is,
    below-bounded (λ r. one_if (m (root r) == u + 1)) 1 16 (λ r low. at_most_one (m (root r) == u + 1)),
    below-bounded (saved_in g.checked (λ w. m (state w)) (λ w. m (refs w)) (λ k. m (root k)) (frame_in m) u) 64 (units_of g.plan) (λ r low. saved_few u r low),
    all_hands u,
    kept-done u,
    (l own).done u,
    in-few 5 u,
    at_most_one (is_live (m (state u))),
    units-few g.plan,
    g.plan.limit_fits,
  )
