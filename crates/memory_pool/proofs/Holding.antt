-- What a pass holds after an answer of the pool.
use Rattle.std.proofs.Common.{◌≡◌, ℕ, suc, List, ◌∷◌, refl, sym, ap, subst}
use Rattle.record_core.specs.Counting.{Has}
use Rattle.kt_words.specs.declared.plan.Plan.{Plan}
use Rattle.table_core.specs.Holdings.{Block as BlockOf}
use Rattle.table_core.specs.Pool.{IsBlock}
use Rattle.table_core.specs.Views.{HasOnlyBlocks}
use Rattle.table_core.specs.declared.view.View.{View}
use Rattle.step_table.specs.declared.pass.Pass.{Pass}
use Rattle.step_table.specs.declared.tokens.Block.{Block}
use Rattle.step_table.specs.Passes.{view, HasBlock}
use Rattle.step_table.specs.Steps.{Releases}
use Rattle.memory_pool.specs.Searches.{like}
use Rattle.memory_pool.specs.Answers.{Gives, Refuses}

-- a block that was given is in the hand
pub has-given : (g : Plan) (c : ℕ) (old : View) (b : BlockOf) (new : View) → Gives g c old b new → HasBlock g b new.blocks
has-given g c old b new gives = record {
  is_block = subst (IsBlock g b.unit) (sym gives.of_class) gives.is_block;
  there = subst (Has b) (sym (ap (λ (v : View). v.blocks) gives.view_is)) (0, refl);
}

-- and stays there while others are given or refused
pub has-kept : (g : Plan) (c : ℕ) (old : View) (b x : BlockOf) (new : View) → Gives g c old b new → HasBlock g x old.blocks → HasBlock g x new.blocks
has-kept g c old b x new gives has = record {
  is_block = has.is_block;
  there = subst (Has x) (sym (ap (λ (v : View). v.blocks) gives.view_is)) (suc has.there.0, has.there.1);
}

pub has-refused : (g : Plan) (c : ℕ) (old : View) (x : BlockOf) (new : View) → Refuses g c old new → HasBlock g x old.blocks → HasBlock g x new.blocks
has-refused g c old x new refuses has = subst (HasBlock g x) (sym (ap (λ (v : View). v.blocks) refuses.stays)) has

-- a hand with nothing but blocks
only-on : (v w : View) → HasOnlyBlocks v → (blocks : List BlockOf) → w ≡ record (like w v) { blocks = blocks; wins = w.wins; settles = w.settles; cleared = w.cleared } → HasOnlyBlocks w
only-on v w only blocks e = subst HasOnlyBlocks (sym e) (record {
  reserved = only.reserved;
  debts = only.debts;
  futures = only.futures;
  made = only.made;
  waiting = only.waiting;
  runs = only.runs;
  done = only.done;
  retiring = only.retiring;
  chains = only.chains;
  drawn = only.drawn;
  no_task = only.no_task;
  no_after = only.no_after;
  stamps = only.stamps;
  unwritten = only.unwritten;
  answers = only.answers;
})

-- it has none but blocks after a block is given, refused or given back
pub only-given : (g : Plan) (c : ℕ) (old : View) (b : BlockOf) (new : View) → Gives g c old b new → HasOnlyBlocks old → HasOnlyBlocks new
only-given g c old b new gives only = only-on old new only (b ∷ old.blocks) (subst (λ (w : View). w ≡ record (like w old) { blocks = b ∷ old.blocks; wins = w.wins; settles = w.settles; cleared = w.cleared }) (sym gives.view_is) refl)

pub only-refused : (g : Plan) (c : ℕ) (old new : View) → Refuses g c old new → HasOnlyBlocks old → HasOnlyBlocks new
only-refused g c old new refuses only = only-on old new only old.blocks (subst (λ (w : View). w ≡ record (like w old) { blocks = old.blocks; wins = w.wins; settles = w.settles; cleared = w.cleared }) (sym refuses.stays) refl)

pub only-released : (g : Plan) (x : Block) (old new : Pass) → Releases g x old new → HasOnlyBlocks (view old) → HasOnlyBlocks (view new)
only-released g x old new releases only = only-on (view old) (view new) only (view new).blocks
    (subst (λ (w : View). w ≡ record (like w (view old)) { blocks = w.blocks; wins = w.wins; settles = w.settles; cleared = w.cleared }) (sym releases.view_is) refl)
