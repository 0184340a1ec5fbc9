-- What a pass has after it dropped a future.
use Rattle.std.specs.Prelude.{◌≡◌, ◌≢◌, ℕ, ◌/◌, List, ◌∷◌, ◌++◌}
use Rattle.record_core.specs.Counting.{dropped}
use Rattle.kt_words.specs.declared.plan.Plan.{Plan}
use Rattle.table_core.specs.Addresses.{Addr, super, bits, state, refs}
use Rattle.table_core.specs.Pool.{superblock_of, bit_of, IsBlock}
use Rattle.table_core.specs.Views.{place, saw}
use Rattle.table_core.specs.RecordViews.{is_at, left_sights, lessened}
use Rattle.table_core.specs.declared.view.View.{View}

-- the reference has left the hand, and so has its record: its block of this class is given back, and its place settled
abbrev pub freed : Plan → ℕ → ℕ → View → View
freed g u c v = record (lessened u 0 v) { settles = place (superblock_of g u) c ∷ v.settles }

-- The record was freed in five steps. The reference word was 1; the state was stored, the class was told by the superblock's
-- word, the bit was cleared and the count lowered.
pub record Frees (g : Plan) (u : ℕ) (old new : View) : Type 0 where
  pub class : ℕ
  pub is_block : IsBlock g u class
  pub state_was : ℕ
  pub superblock_was : ℕ
  pub bits_were : ℕ
  pub count_was : ℕ
  pub view_is : new ≡ saw (super (superblock_of g u)) count_was
      (saw (bits (superblock_of g u) (bit_of g u class / 64)) bits_were
      (saw (super (superblock_of g u)) superblock_was
      (saw (state u) state_was
      (saw (refs u) 1 (freed g u class old)))))

-- The reference word was `found`. Where that was 1, the record is freed in this call; otherwise the reference has left the hand,
-- and nothing else has changed.
pub record Drops (g : Plan) (u : ℕ) (old new : View) : Type 0 where
  pub found : ℕ
  pub more : found ≢ 1 → new ≡ saw (refs u) found (lessened u found old)
  pub last : found ≡ 1 → Frees g u old new

-- In both cases the reference has left the hand, with what was seen of the record where it was the hand's last one to it. Beside it
-- steps and settled places have come.
pub record GivesBack (u : ℕ) (old new : View) : Type 0 where
  pub steps : List (Addr × ℕ)
  pub since : new.seen ≡ steps ++ old.seen
  pub view_is : new ≡ record old {
    futures = dropped (is_at u) old.futures;
    sights = left_sights u (dropped (is_at u) old.futures) old.sights;
    settles = new.settles;
    seen = new.seen;
  }
