-- The views in the course of a drop.
use Rattle.std.proofs.Common.{◌≡◌, ◌≢◌, ◌∙◌, ◌⊎◌, inl, inr, ℕ, ◌+◌, ◌/◌, ◌≤◌, Bool, false, cond, Some, List, [], ◌∷◌, refl, sym, ap, subst, arith}
use Rattle.std.proofs.lemmas.Bool.{eq-eqb, ne_eqb, cases_eq}
use Rattle.record_core.specs.Counting.{Has, times, one_if, dropped}
use Rattle.kt_words.specs.declared.plan.Plan.{Plan}
use Rattle.table_core.specs.Addresses.{Addr, super, bits, state, refs}
use Rattle.table_core.specs.Holdings.{Block as BlockOf}
use Rattle.table_core.specs.Pool.{superblock_of, bit_of, IsBlock}
use Rattle.table_core.specs.Views.{block, is_block, saw, released}
use Rattle.table_core.specs.RecordViews.{is_at, at_last, lessened, retired}
use Rattle.table_core.specs.declared.view.View.{View}
use Rattle.table_core.proofs.ListFacts.{block-passes}
use Rattle.step_table.specs.declared.pass.Pass.{Pass}
use Rattle.step_table.specs.declared.tokens.Block.{Block}
use Rattle.step_table.specs.declared.record_tokens.Retiring.{Retiring}
use Rattle.step_table.specs.Passes.{view, block_of, HasBlock}
use Rattle.step_table.specs.Steps.{Releases}
use Rattle.step_table.specs.RecordSteps.{Retires}
use Rattle.future_refs.specs.Drops.{freed, Frees, Drops, GivesBack}

-- a record at its last reference is in the hand to be retired
pub retires-one : (u found : ℕ) (old : View) (a : Addr) → found ≡ 1 → 1 ≤ times u (saw a found (lessened u found old)).retiring
retires-one u found old a one = subst (λ (n : ℕ). 1 ≤ times u (at_last u n old.retiring)) (sym one) (omega (arith, ap one_if (eq-eqb u u refl)))

-- the block that was made of it is in the hand
pub has-back : (g : Plan) (retiring : Retiring) (old : Pass) (back : Block) (new : Pass) → Retires g retiring old back new → HasBlock g (block_of back) (view new).blocks
has-back g retiring old back new retires = record {
  is_block = subst (λ (x : BlockOf). IsBlock g x.unit x.class) (sym retires.block_is) retires.is_block;
  there = subst (λ (v : View). Has (block_of back) v.blocks) (sym retires.view_is) (0, ap (λ (x : BlockOf). Some x) (sym retires.block_is));
}

module _ (g : Plan) (u c : ℕ) (old : View) where
  -- what was taken in the call has gone again
  none_left : dropped (is_at u) (u ∷ old.retiring) ≡ old.retiring
  none_left = ap (λ (b : Bool). cond b old.retiring (u ∷ dropped (is_at u) old.retiring)) (eq-eqb u u refl)

  no_block : dropped (is_block (block u c false)) (block u c false ∷ old.blocks) ≡ old.blocks
  no_block = ap (λ (b : Bool). cond b old.blocks (block u c false ∷ dropped (is_block (block u c false)) old.blocks)) (block-passes (block u c false))

  as_cleared : old.cleared + 0 ≡ old.cleared
  as_cleared = omega arith

  -- one view after all five steps
  pub freed-is : (n k b r : ℕ) → saw (super (superblock_of g u)) r (saw (bits (superblock_of g u) (bit_of g u c / 64)) b
      (released g (block u c false) (saw (super (superblock_of g u)) k (saw (state u) n (retired u c (saw (refs u) 1 (lessened u 1 old)))))))
      ≡ saw (super (superblock_of g u)) r (saw (bits (superblock_of g u) (bit_of g u c / 64)) b (saw (super (superblock_of g u)) k (saw (state u) n (saw (refs u) 1 (freed g u c old)))))
  freed-is n k b r = λ i. record (freed g u c old) {
    retiring = none_left i;
    blocks = no_block i;
    cleared = as_cleared i;
    seen = (super (superblock_of g u), r) ∷ (bits (superblock_of g u) (bit_of g u c / 64), b) ∷ (super (superblock_of g u), k) ∷ (state u, n) ∷ (refs u, 1) ∷ old.seen;
  }

-- the record is freed
pub frees-from : (g : Plan) (u found : ℕ) (old : View) (retiring : Retiring) (first second : Pass) (back : Block) (third : Pass) → retiring.unit ≡ u → found ≡ 1
    → view first ≡ saw (refs u) found (lessened u found old) → Retires g retiring first back second → Releases g back second third → Frees g u old (view third)
frees-from g u found old retiring first second back third unit_is one less retires releases = record {
  class = back.class;
  is_block = subst (λ (w : ℕ). IsBlock g w back.class) unit_is retires.is_block;
  state_was = retires.found;
  superblock_was = retires.counted;
  bits_were = releases.found;
  count_was = releases.counted;
  view_is = releases.view_is
      ∙ ap (λ (x : BlockOf). after x (view second)) its_block
      ∙ ap (after (block u back.class false)) (retires.view_is ∙ ap (λ (w : ℕ). saw (super (superblock_of g w)) retires.counted (saw (state w) retires.found (retired w back.class (view first)))) unit_is
      ∙ ap (λ (v : View). saw (super (superblock_of g u)) retires.counted (saw (state u) retires.found (retired u back.class v))) (less ∙ ap (λ (n : ℕ). saw (refs u) n (lessened u n old)) one))
      ∙ freed-is g u back.class old retires.found retires.counted releases.found releases.counted;
}
  where
    after : BlockOf → View → View
    after x v = saw (super (superblock_of g x.unit)) releases.counted (saw (bits (superblock_of g x.unit) (bit_of g x.unit x.class / 64)) releases.found (released g x v))

    its_block : block_of back ≡ block u back.class false
    its_block = retires.block_is ∙ ap (λ (w : ℕ). block w back.class false) unit_is

-- a record of which this was not the last reference is not retired
not_last : (u found : ℕ) (retiring : List ℕ) → found ≢ 1 → at_last u found retiring ≡ retiring
not_last u found retiring ne = ap (λ (b : Bool). cond b (u ∷ retiring) retiring) (ne_eqb found 1 ne)

-- in both cases the reference has left the hand
pub gives-back : (g : Plan) (u : ℕ) (old new : View) → Drops g u old new → GivesBack u old new
gives-back g u old new drops = by (cases_eq drops.found 1)
  where
    by : (drops.found ≡ 1) ⊎ (drops.found ≢ 1) → GivesBack u old new
    by (inr ne) =
        let e = drops.more ne in let n : ℕ = drops.found in
        let settled = ap (λ (v : View). v.settles) e in let seen = ap (λ (v : View). v.seen) e in
        record {
          steps = (refs u, n) ∷ [];
          since = seen;
          view_is = e ∙ (λ i. record (lessened u n old) { retiring = not_last u n old.retiring ne i; settles = sym settled i; seen = sym seen i });
        }
    by (inl one) =
        let frees = drops.last one in let e = frees.view_is in
        let settled = ap (λ (v : View). v.settles) e in let seen = ap (λ (v : View). v.seen) e in
        record {
          steps = (super (superblock_of g u), frees.count_was) ∷ (bits (superblock_of g u) (bit_of g u frees.class / 64), frees.bits_were) ∷ (super (superblock_of g u), frees.superblock_was) ∷ (state u, frees.state_was) ∷ (refs u, 1) ∷ [];
          since = seen;
          view_is = e ∙ (λ i. record (lessened u 0 old) { settles = sym settled i; seen = sym seen i });
        }
