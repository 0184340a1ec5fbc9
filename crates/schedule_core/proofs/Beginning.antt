-- A block is asked for, and leave to draw a number; a record is made in the block, or it is given back.
use Rattle.std.proofs.Common.{◌≡◌, ◌∙◌, ℕ, suc, ◌+◌, ◌≤◌, Bool, true, cond, Option, Some, None, List, [], ◌∷◌, ◌++◌, refl, sym, ap, subst}
use Rattle.std.specs.Prelude.{slice_get}
use Rattle.record_core.specs.Counting.{Has, one_if, dropped}
use Rattle.table_core.specs.Addresses.{Addr, super, state, sum}
use Rattle.table_core.specs.Asking.{Asker, OfRoot, OfTask}
use Rattle.table_core.specs.Holdings.{Block as BlockOf, Place}
use Rattle.table_core.specs.Pool.{superblock_of, IsBlock}
use Rattle.table_core.specs.RecordViews.{founded, forget_words, is_made_at, new_made, unmade}
use Rattle.table_core.specs.Views.{is_block, place, block, saw, released}
use Rattle.table_core.specs.declared.setup.Setup.{Setup}
use Rattle.table_core.specs.declared.view.View.{View}
use Rattle.table_core.proofs.ListFacts.{block-passes}
use Rattle.schedule_rule.specs.DrawViews.{permitted, told_limit, drew_none, MayAsk}
use Rattle.schedule_rule.specs.SoundViews.{SoundView}
use Rattle.kt_words.specs.Capacity.{block_units}
use Rattle.kt_words.specs.declared.plan.Plan.{Plan}
use Rattle.memory_pool.specs.Answers.{Gives}
use Rattle.memory_pool.specs.Searches.{SeesMore, like}
use Rattle.step_table.specs.DrawSteps.{Asking, Move, MayMove, MaySeeDrawn, moved}
use Rattle.step_table.specs.Passes.{block_of, HasBlock}
use Rattle.step_table.specs.RecordHands.{MayUnmake}
use Rattle.step_table.specs.Steps.{bit_word_of}
use Rattle.step_table.specs.declared.record_tokens.Made.{Made}
use Rattle.step_table.specs.declared.tokens.Block.{Block}
use Rattle.schedule_core.specs.Begins.{runs_moved, answers_told, HasBegun, MetLimit}
use Rattle.schedule_core.specs.Numbers.{GivesBack, GaveBack}

-- the block that was given stands first, and nothing but blocks, wins and looks has changed
abbrev with_block : View → View → BlockOf → Place → View
with_block new old b won = record (like new old) { blocks = b ∷ old.blocks; wins = won ∷ old.wins }

asks-kept : (g : Setup) (new old : View) (b : BlockOf) (won : Place) (o : Option Asker) → MayAsk g old o → MayAsk g (with_block new old b won) o
asks-kept g new old b won None may = may
asks-kept g new old b won (Some (OfTask t)) may = may
asks-kept g new old b won (Some (OfRoot r)) may = may

moves-kept : (g : Setup) (new old : View) (b : BlockOf) (won : Place) (o : Option Move) → MayMove g o old → MayMove g o (with_block new old b won)
moves-kept g new old b won None may = may
moves-kept g new old b won (Some move) may = record {
  run = may.run;
  at = record { is_block = may.at.is_block; there = may.at.there };
  idle = may.idle;
  frame = may.frame;
  covers = may.covers;
}

-- leave to draw may be asked for behind the pool's answer as before it
pub may-see_drawn : (g : Setup) (class : ℕ) (asking : Asking) (old new : View) (b : BlockOf) → Gives g.plan class old b new → MaySeeDrawn g asking old → MaySeeDrawn g asking new
may-see_drawn g class asking old new b gives may = subst (MaySeeDrawn g asking) (sym gives.view_is) (record {
  asks = asks-kept g new old b (place (superblock_of g.plan b.unit) class) asking.asker may.asks;
  moves = moves-kept g new old b (place (superblock_of g.plan b.unit) class) asking.move may.moves;
})

-- what a move changes are the runs
moved-is : (o : Option Move) (v : View) → moved o v ≡ record v { runs = runs_moved o v.runs }
moved-is None v = refl
moved-is (Some move) v = refl

-- what an answer changes are the answers
told-is : (o : Option Asker) (v : View) → told_limit o v ≡ record v { answers = answers_told o v.answers }
told-is None v = refl
told-is (Some asker) v = refl

abbrev kept_blocks : BlockOf → List BlockOf → List BlockOf
kept_blocks b blocks = dropped (is_block b) (b ∷ blocks)

left-blocks : (b : BlockOf) (blocks : List BlockOf) → kept_blocks b blocks ≡ blocks
left-blocks b blocks = ap (λ (t : Bool). cond t blocks (b ∷ dropped (is_block b) blocks)) (block-passes b)

module _ (g : Setup) (class : ℕ) (asking : Asking) (old mid : View) (b : Block) (gives : Gives g.plan class old (block_of b) mid) (later : SeesMore old mid) (f : ℕ) (after : View) where
  abbrev won : Place
  won = place (superblock_of g.plan b.unit) class

  abbrev all_blocks : List BlockOf
  all_blocks = block_of b ∷ old.blocks

  -- the view where leave was given, over so many numbers drawn
  abbrev with_leave : View
  with_leave = record old {
    blocks = all_blocks;
    runs = runs_moved asking.move old.runs;
    wins = won ∷ old.wins;
    may_draw = 1;
    seen = (sum 0, f) ∷ mid.seen;
    looks = mid.looks;
  }

  -- the view where it was not
  abbrev with_answer : View
  with_answer = record old {
    blocks = all_blocks;
    runs = runs_moved asking.move old.runs;
    answers = answers_told asking.asker old.answers;
    wins = won ∷ old.wins;
    seen = (sum 0, f) ∷ mid.seen;
    looks = mid.looks;
  }

  leave-is : after ≡ saw (sum 0) f (permitted (moved asking.move mid)) → after ≡ with_leave
  leave-is e = e ∙ ap (λ (v : View). saw (sum 0) f (permitted v)) (moved-is asking.move mid)
      ∙ ap (λ (v : View). saw (sum 0) f (permitted (record v { runs = runs_moved asking.move v.runs }))) gives.view_is

  answer-is : after ≡ saw (sum 0) f (told_limit asking.asker (moved asking.move mid)) → after ≡ with_answer
  answer-is e = e ∙ ap (λ (v : View). saw (sum 0) f v) (told-is asking.asker (moved asking.move mid))
      ∙ ap (λ (v : View). saw (sum 0) f (record v { answers = answers_told asking.asker v.answers })) (moved-is asking.move mid)
      ∙ ap (λ (v : View). saw (sum 0) f (record v { answers = answers_told asking.asker v.answers; runs = runs_moved asking.move v.runs })) gives.view_is

  its-block : IsBlock g.plan b.unit b.class
  its-block = subst (λ (c : ℕ). IsBlock g.plan b.unit c) (sym gives.of_class) gives.is_block

  -- the pass still has the block
  pub leave-block : after ≡ saw (sum 0) f (permitted (moved asking.move mid)) → HasBlock g.plan (block_of b) after.blocks
  leave-block e = record { is_block = its-block; there = (0, ap (λ (v : View). slice_get v.blocks 0) (leave-is e)) }

  pub answer-block : after ≡ saw (sum 0) f (told_limit asking.asker (moved asking.move mid)) → HasBlock g.plan (block_of b) after.blocks
  answer-block e = record { is_block = its-block; there = (0, ap (λ (v : View). slice_get v.blocks 0) (answer-is e)) }

  -- a record is made in it
  pub begins-made : (made : Made) (h : ℕ) (new : View) → made.unit ≡ b.unit → made.class ≡ b.class → after ≡ saw (sum 0) f (permitted (moved asking.move mid))
      → new ≡ saw (state b.unit) h (founded (block_of b) after) → SoundView g new → HasBegun g class asking old made new
  begins-made made h new unit_is class_is leave e sound = record {
    is_block = subst (λ (u : ℕ). IsBlock g.plan u class) (sym unit_is) gives.is_block;
    class_is = class_is ∙ gives.of_class;
    seen = ((state b.unit, h) ∷ (sum 0, f) ∷ later.steps.0, ap (λ (v : View). v.seen) whole ∙ ap (λ (l : List (Addr × ℕ)). (state b.unit, h) ∷ (sum 0, f) ∷ l) later.steps.1);
    looks = (later.looks.0, ap (λ (v : View). v.looks) whole ∙ later.looks.1);
    sound = sound;
    view_is = whole ∙ (λ k. record old {
      blocks = left-blocks (block_of b) old.blocks k;
      made = new_made (block (sym unit_is k) (gives.of_class k) true) ∷ old.made;
      runs = runs_moved asking.move old.runs;
      wins = place (superblock_of g.plan (sym unit_is k)) class ∷ old.wins;
      may_draw = 1;
      seen = (sym whole k).seen;
      looks = (sym whole k).looks;
    });
  }
    where
      whole : new ≡ record old {
        blocks = kept_blocks (block_of b) old.blocks;
        made = new_made (block_of b) ∷ old.made;
        runs = runs_moved asking.move old.runs;
        wins = won ∷ old.wins;
        may_draw = 1;
        seen = (state b.unit, h) ∷ (sum 0, f) ∷ mid.seen;
        looks = mid.looks;
      }
      whole = e ∙ ap (λ (v : View). saw (state b.unit) h (founded (block_of b) v)) (leave-is leave)

  -- it is given back
  pub meets-limit : (n m : ℕ) (new : View) → after ≡ saw (sum 0) f (told_limit asking.asker (moved asking.move mid)) → g.plan.limit ≤ f
      → new ≡ saw (super (superblock_of g.plan b.unit)) m (saw (bit_word_of g.plan b) n (released g.plan (block_of b) after)) → MetLimit g class asking old new
  meets-limit n m new answer over e = record {
    saw = (steps ++ later.steps.0, f, ap (λ (v : View). v.seen) whole ∙ ap (λ (l : List (Addr × ℕ)). steps ++ l) later.steps.1, (2, refl), over);
    looks = (later.looks.0, ap (λ (v : View). v.looks) whole ∙ later.looks.1);
    sights = ([], ap (λ (v : View). v.sights) whole);
    facts = ([], ap (λ (v : View). v.facts) whole);
    superblock = superblock_of g.plan b.unit;
    view_is = whole ∙ (λ k. record old {
      blocks = left-blocks (block_of b) old.blocks k;
      runs = runs_moved asking.move old.runs;
      answers = answers_told asking.asker old.answers;
      wins = won ∷ old.wins;
      settles = place (superblock_of g.plan b.unit) (gives.of_class k) ∷ old.settles;
      cleared = old.cleared + one_if (gives.fresh k);
      may_draw = (sym whole k).may_draw;
      known = (sym whole k).known;
      sights = (sym whole k).sights;
      facts = (sym whole k).facts;
      seen = (sym whole k).seen;
      looks = (sym whole k).looks;
    });
  }
    where
      steps : List (Addr × ℕ)
      steps = (super (superblock_of g.plan b.unit), m) ∷ (bit_word_of g.plan b, n) ∷ (sum 0, f) ∷ []

      whole : new ≡ record old {
        blocks = kept_blocks (block_of b) old.blocks;
        runs = runs_moved asking.move old.runs;
        answers = answers_told asking.asker old.answers;
        wins = won ∷ old.wins;
        settles = place (superblock_of g.plan b.unit) b.class ∷ old.settles;
        cleared = old.cleared + one_if b.fresh;
        seen = steps ++ mid.seen;
        looks = mid.looks;
      }
      whole = e ∙ ap (λ (v : View). saw (super (superblock_of g.plan b.unit)) m (saw (bit_word_of g.plan b) n (released g.plan (block_of b) v))) (answer-is answer)

-- a made record without a number is a block again, and that is given back
pub gives-back : (g : Setup) (made : Made) (back : Block) (old mid new : View) (f n m : ℕ) → block_of back ≡ block made.unit made.class true → mid ≡ saw (state made.unit) f (unmade made.unit made.class old)
    → new ≡ saw (super (superblock_of g.plan back.unit)) m (saw (bit_word_of g.plan back) n (released g.plan (block_of back) mid)) → GivesBack g made old new
gives-back g made back old mid new f n m back_is mid_is e = record {
  seen = (steps, ap (λ (v : View). v.seen) whole);
  view_is = whole
      ∙ (λ k. record old {
        made = dropped (is_made_at made.unit) old.made;
        known = (sym whole k).known;
        blocks = dropped (is_block (back_is k)) (its ∷ old.blocks);
        settles = place (superblock_of g.plan (back_is k).unit) (back_is k).class ∷ old.settles;
        cleared = old.cleared + one_if (back_is k).fresh;
        seen = (sym whole k).seen;
      })
      ∙ (λ k. record old {
        made = dropped (is_made_at made.unit) old.made;
        known = new.known;
        blocks = left-blocks its old.blocks k;
        settles = place (superblock_of g.plan made.unit) made.class ∷ old.settles;
        cleared = old.cleared + 1;
        seen = new.seen;
      });
}
  where
    its : BlockOf
    its = block made.unit made.class true

    steps : List (Addr × ℕ)
    steps = (super (superblock_of g.plan back.unit), m) ∷ (bit_word_of g.plan back, n) ∷ (state made.unit, f) ∷ []

    whole : new ≡ record old {
      made = dropped (is_made_at made.unit) old.made;
      known = forget_words made.unit (block_units made.class) old.known;
      blocks = dropped (is_block (block_of back)) (its ∷ old.blocks);
      settles = place (superblock_of g.plan back.unit) back.class ∷ old.settles;
      cleared = old.cleared + one_if back.fresh;
      seen = steps ++ old.seen;
    }
    whole = e ∙ ap (λ (v : View). saw (super (superblock_of g.plan back.unit)) m (saw (bit_word_of g.plan back) n (released g.plan (block_of back) v))) mid_is

-- the pass has that block in between
pub has-back : (g : Setup) (made : Made) (back : Block) (old mid : View) (f : ℕ) → block_of back ≡ block made.unit made.class true → mid ≡ saw (state made.unit) f (unmade made.unit made.class old)
    → IsBlock g.plan made.unit made.class → HasBlock g.plan (block_of back) mid.blocks
has-back g made back old mid f back_is mid_is is_block = subst (λ (x : BlockOf). HasBlock g.plan x mid.blocks) (sym back_is) (record { is_block = is_block; there = (0, ap (λ (v : View). slice_get v.blocks 0) mid_is) })

-- of a record that may be a block again
pub block-at : (g : Setup) (made : Made) (v : View) → MayUnmake g.plan made.unit made.class v → IsBlock g.plan made.unit made.class
block-at g made v may = subst (λ (c : ℕ). IsBlock g.plan made.unit c) may.class_is may.at.is_block

-- where a draw met the limit, the record's block is given back
pub gave-back : (g : Setup) (made : Made) (asker : Asker) (f : ℕ) (old mid new : View) → g.plan.limit ≤ f → mid ≡ saw (sum 0) f (drew_none asker old) → GivesBack g made mid new → GaveBack g made asker old new
gave-back g made asker f old mid new over e gives = record {
  saw = (gives.seen.0 ++ (sum 0, f) ∷ [], f, gives.seen.1 ∙ ap (λ (v : View). gives.seen.0 ++ v.seen) e ∙ append_assoc' gives.seen.0, has-last gives.seen.0, over);
  view_is = gives.view_is ∙ (λ k. record (e k) {
    made = dropped (is_made_at made.unit) (e k).made;
    settles = place (superblock_of g.plan made.unit) made.class ∷ (e k).settles;
    cleared = (e k).cleared + 1;
    known = new.known;
    seen = new.seen;
  });
}
  where
    append_assoc' : (l : List (Addr × ℕ)) → l ++ ((sum 0, f) ∷ old.seen) ≡ l ++ ((sum 0, f) ∷ []) ++ old.seen
    append_assoc' [] = refl
    append_assoc' (x ∷ l) = ap (λ (r : List (Addr × ℕ)). x ∷ r) (append_assoc' l)

    has-last : (l : List (Addr × ℕ)) → Has (sum 0, f) (l ++ ((sum 0, f) ∷ []))
    has-last [] = (0, refl)
    has-last (x ∷ l) = let t = has-last l in (suc t.0, t.1)

-- what was made may still be a block again where its draw met the limit
pub may-unmake_still : (g : Plan) (u class : ℕ) (asker : Asker) (f : ℕ) (old mid : View) → mid ≡ saw (sum 0) f (drew_none asker old) → MayUnmake g u class old → MayUnmake g u class mid
may-unmake_still g u class asker f old mid e may = subst (MayUnmake g u class) (sym e) (record {
  made = may.made;
  at = record { is_block = may.at.is_block; there = may.at.there };
  class_is = may.class_is;
  no_number = may.no_number;
  not_live = may.not_live;
})
