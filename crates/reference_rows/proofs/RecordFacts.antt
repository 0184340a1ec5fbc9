-- Records that are made and unmade, and words that are written and read.
use Rattle.std.proofs.Common.{◌≡◌, ◌∙◌, ℕ, zero, suc, ◌+◌, ◌*◌, ◌^◌, ◌<◌, ◌≤◌, ◌==◌, Bool, true, false, cond, Some, List, [], ◌∷◌, inl, inr, refl, sym, ap, subst, arith}
use Rattle.record_core.specs.Counting.{Has}
use Rattle.kt_words.specs.Capacity.{block_units}
use Rattle.kt_words.specs.declared.plan.Plan.{Plan}
use Rattle.table_core.specs.Addresses.{state}
use Rattle.table_core.specs.Holdings.{Block as BlockOf, Made as MadeOf, Run as RunOf}
use Rattle.table_core.specs.Pool.{IsBlock}
use Rattle.table_core.specs.RecordViews.{new_made}
use Rattle.table_core.specs.declared.view.View.{View}
use Rattle.step_table.specs.declared.pass.Pass.{Pass}
use Rattle.step_table.specs.declared.tokens.Block.{Block}
use Rattle.step_table.specs.declared.record_tokens.Made.{Made}
use Rattle.step_table.specs.declared.record_tokens.OwnWord.{OwnWord}
use Rattle.step_table.specs.declared.record_tokens.OwnWord.TheVariants as own_word
use Rattle.step_table.specs.declared.record_tokens.Started.{Started}
use Rattle.step_table.specs.Lookups.{made_in, run_in}
use Rattle.step_table.specs.Passes.{view, block_of, HasBlock}
use Rattle.step_table.specs.RecordHands.{MadeAt, RunAt, FillsMade, FillsRun, ReadsWord, MayFill, MayRead, MayUnmake}
use Rattle.step_table.specs.RecordSteps.{Founds, Unmakes}
use Rattle.reference_rows.specs.Hands.{IsNew, IsRunning}
use Rattle.reference_rows.proofs.HandFacts.{same-number}

-- what may be written may be read
fills-reads : (class : ℕ) (word : OwnWord) → FillsMade class word → ReadsWord (block_units class) word
fills-reads class (own_word.Frame j) h = h
fills-reads class own_word.Next h = tt
fills-reads class own_word.Task h = tt
fills-reads class own_word.Result h = tt
fills-reads class own_word.References h = tt
fills-reads class own_word.Head h = tt

fills-reads_run : (class : ℕ) (word : OwnWord) → FillsRun class word → ReadsWord (block_units class) word
fills-reads_run class (own_word.Frame j) h = h
fills-reads_run class own_word.Next h = tt
fills-reads_run class own_word.Task h = tt
fills-reads_run class own_word.Result h = tt
fills-reads_run class own_word.References h = tt
fills-reads_run class own_word.Head h = tt

-- a block has a unit and more
some-units : (class : ℕ) → 1 ≤ block_units class
some-units class = pow-some class
  where
    pow-some : (c : ℕ) → 1 ≤ 2 ^ c
    pow-some zero = omega arith
    pow-some (suc c) = let some = pow-some c in omega (arith, some)

-- what may be written in the smallest block may be in any
fills-more : (class : ℕ) (word : OwnWord) → FillsRun 0 word → FillsRun class word
fills-more class (own_word.Frame j) h = omega (arith, h, some-units class)
fills-more class own_word.Next h = h
fills-more class own_word.Task h = h
fills-more class own_word.Result h = h
fills-more class own_word.References h = h
fills-more class own_word.Head h = h

module _ (g : Plan) (made : Made) (v w : View) (is : IsNew g made v) where
  made-at : w.made ≡ v.made → MadeAt g made.unit w is.0
  made-at same = record { is_block = is.1.is_block; there = ap (made_in made.unit) same ∙ is.1.there }

  -- the record stays in the hand
  pub new-stays : w.made ≡ v.made → IsNew g made w
  new-stays same = (is.0, made-at same, is.2, is.3, is.4)

  -- its words may be written and read
  pub fills-made : (u : ℕ) (word : OwnWord) → u ≡ made.unit → w.made ≡ v.made → FillsMade made.class word → MayFill g u word w
  fills-made u word its same fills =
      subst (λ (x : ℕ). MayFill g x word w) (sym its) (inl (is.0, made-at same, subst (λ (c : ℕ). FillsMade c word) (sym is.2) fills))

  pub reads-made : (u : ℕ) (word : OwnWord) → u ≡ made.unit → w.made ≡ v.made → FillsMade made.class word → MayRead g u word w
  reads-made u word its same fills =
      subst (λ (x : ℕ). MayRead g x word w) (sym its)
      (block_units is.0.class, inl (is.0, made-at same, refl), subst (λ (c : ℕ). ReadsWord (block_units c) word) (sym is.2) (fills-reads made.class word fills))

  -- and it may be a block again
  pub may-unmake : MayUnmake g made.unit made.class v
  may-unmake = record { made = is.0; at = is.1; class_is = is.2; no_number = is.3; not_live = is.4 }

module _ (g : Plan) (started : Started) (v w : View) (is : IsRunning g started v) (same : w.runs ≡ v.runs) where
  run-at : RunAt g started.unit w is.0
  run-at = record { is_block = is.1.at.is_block; there = ap (run_in started.unit) same ∙ is.1.at.there }

  pub running-stays : IsRunning g started w
  running-stays = (is.0, record { near = is.1.near; at = run-at; number_is = is.1.number_is; placed = is.1.placed })

  pub fills-run : (u : ℕ) (word : OwnWord) → u ≡ started.unit → FillsRun 0 word → MayFill g u word w
  fills-run u word its fills = subst (λ (x : ℕ). MayFill g x word w) (sym its) (inr (is.0, run-at, fills-more is.0.class word fills))

  pub reads-run : (u : ℕ) (word : OwnWord) → u ≡ started.unit → FillsRun 0 word → MayRead g u word w
  reads-run u word its fills =
      subst (λ (x : ℕ). MayRead g x word w) (sym its) (block_units is.0.class, inr (inl (is.0, run-at, refl)), fills-reads_run is.0.class word (fills-more is.0.class word fills))

-- a record that was made in a block
pub found-new : (g : Plan) (x : Block) (old : Pass) (made : Made) (new : Pass) → HasBlock g (block_of x) (view old).blocks → Founds x old made new → IsNew g made (view new)
found-new g x old made new has founds = (
  new_made (block_of x),
  record {
    is_block = subst (λ (u : ℕ). IsBlock g u x.class) (sym founds.unit_is) has.is_block;
    there = ap (λ (v : View). made_in made.unit v.made) founds.view_is
        ∙ ap (λ (b : Bool). cond b (Some (new_made (block_of x))) (made_in made.unit (view old).made)) (ap (λ (u : ℕ). x.unit == u) founds.unit_is ∙ same-number x.unit);
  },
  sym founds.class_is,
  refl,
  refl,
)

-- and its block, once it is unmade
pub unmade-block : (g : Plan) (made : Made) (old : Pass) (back : Block) (new : Pass) → IsNew g made (view old) → Unmakes made old back new → HasBlock g (block_of back) (view new).blocks
unmade-block g made old back new is unmakes = record {
  is_block = subst (λ (x : BlockOf). IsBlock g x.unit x.class) (sym unmakes.block_is) (subst (IsBlock g made.unit) is.2 is.1.is_block);
  there = subst (λ (v : View). Has (block_of back) v.blocks) (sym unmakes.view_is) (0, ap (λ (x : BlockOf). Some x) (sym unmakes.block_is));
}
