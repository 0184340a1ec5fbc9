-- That the scheduler's rule holds of a new table, and that passes may be split and joined and steps be made under it.
use Rattle.std.specs.Prelude.{◌≡◌, ◌≢◌, ℕ, ◌+◌, ◌-◌, ◌*◌, ◌/◌, ◌%◌, ◌^◌, ◌<◌, ◌≤◌, ◌⊎◌, ◌==◌, List, [], ◌∷◌, ◌++◌, Bool, true, false, length, Some, replicate, slice_set}
use Rattle.std.specs.Int.{w64, bit_not}
use Rattle.std.specs.Int.Bits.{bit_or, bit_and}
use prog.Atomic.{either}
use Rattle.record_core.specs.Counting.{At, Has, times}
use Rattle.kt_words.specs.StateWords.{IsStateWord}
use Rattle.kt_words.specs.SuperWords.{count_of, class_of, reserved_word}
use Rattle.table_core.specs.Addresses.{Addr, Mem, super, bits, state, refs, head, task, outcome, arena, words_of, units_of}
use Rattle.table_core.specs.Holdings.{Block, Made, Done}
use Rattle.table_core.specs.Own.{is_own, known_in}
use Rattle.table_core.specs.Pool.{cap, superblock_of, bit_of, IsBlock}
use Rattle.table_core.specs.RecordViews.{founded, unmade, retired, filled, learnt, referred, lessened, gave_up, saw_state}
use Rattle.table_core.specs.Steps.{Tried, WonBit}
use Rattle.table_core.specs.Story.{Story}
use Rattle.table_core.specs.Views.{first_view, kept_half, idle_half, joined, spent, HasOnlyBlocks, place, saw, looked, reserved, claimed, cleared, settled}
use Rattle.table_core.specs.declared.setup.Setup.{Setup}
use Rattle.table_core.specs.declared.view.View.{View}
use Rattle.schedule_rule.specs.Parts.{AllSay, Holds, Keeps}
use Rattle.schedule_rule.specs.PlacingLaws.{StillCovers}

-- a table whose words are all 0, with its first pass
abbrev pub NewTablesHold : Type 0
NewTablesHold = (g : Setup) → Holds g (replicate (words_of g.plan) 0) (first_view ∷ [])

-- a pass with two parts or more is split, and the story is as it was
abbrev pub SplitsHold : Type 0
SplitsHold = (g : Setup) (s : Story) (m : Mem) (vs : List View) (id : ℕ) (v : View) → AllSay g s m vs → At vs id v → 2 ≤ v.parts → AllSay g s m (slice_set vs id (kept_half v) ++ idle_half v ∷ [])

-- a pass that has nothing but blocks is taken in by another, and the story is as it was
abbrev pub JoinsHold : Type 0
JoinsHold = (g : Setup) (s : Story) (m : Mem) (vs : List View) (id other : ℕ) (v w : View) → AllSay g s m vs → At vs id v → At vs other w → id ≢ other → 1 ≤ v.parts → HasOnlyBlocks w
    → AllSay g s m (slice_set (slice_set vs id (joined v w)) other spent)

-- the words that can be filled: those of a record's frame and header but its state and its next word
abbrev pub is_filled : Addr → Bool
is_filled (task u) = true
is_filled (head u) = true
is_filled (outcome u) = true
is_filled (refs u) = true
is_filled (arena k) = true
is_filled a = false

module _ (g : Setup) (id : ℕ) (v : View) where
  -- the steps of the pool
  abbrev pub LookKeeps : Type 0
  LookKeeps = (i c : ℕ) → i < g.plan.geometry.superblocks → Keeps g id v (super i) (λ n. n) (λ r w. (w ≡ saw (super i) r (looked i c r v)) × (class_of r ≤ 3))

  abbrev pub ReserveKeeps : Type 0
  ReserveKeeps = (i c old new : ℕ) → i < g.plan.geometry.superblocks → c ≤ 3 → 1 ≤ v.parts → (class_of old ≡ c) ⊎ (count_of old ≡ 0) → count_of old < cap g.plan c → new ≡ reserved_word old c
      → Keeps g id v (super i) (λ n. either (n == old) new n) (λ r w. Tried old (saw (super i) r v) (saw (super i) r (reserved (place i c) v)) r w × (class_of r ≤ 3))

  abbrev pub SettleKeeps : Type 0
  SettleKeeps = (i c : ℕ) → i < g.plan.geometry.superblocks → 1 ≤ v.parts → Has (place i c) v.debts
      → Keeps g id v (super i) (λ n. (n + (2 ^ 64 - 1)) % 2 ^ 64) (λ r w. w ≡ saw (super i) r (settled (place i c) v))

  -- the masks of one bit
  abbrev pub mask_of : ℕ → ℕ
  mask_of b = 1 * 2 ^ (b % 64) % 2 ^ 64

  abbrev pub ClaimKeeps : Type 0
  ClaimKeeps = (i c b : ℕ) → i < g.plan.geometry.superblocks → c ≤ 3 → b < cap g.plan c → 1 ≤ v.parts → Has (place i c) v.reserved
      → Keeps g id v (bits i (b / 64)) (λ n. bit_or n (mask_of b)) (λ r w. WonBit b (saw (bits i (b / 64)) r v) (saw (bits i (b / 64)) r (claimed g.plan (place i c) b v)) r w)

  abbrev pub ClearKeeps : Type 0
  ClearKeeps = (x : Block) → 1 ≤ v.parts → Has x v.blocks
      → Keeps g id v (bits (superblock_of g.plan x.unit) (bit_of g.plan x.unit x.class / 64)) (λ n. bit_and n (bit_not w64 (mask_of (bit_of g.plan x.unit x.class))))
      (λ r w. w ≡ saw (bits (superblock_of g.plan x.unit) (bit_of g.plan x.unit x.class / 64)) r (cleared g.plan x v))

  -- a load of any word, which tells that no pass has more than all parts, and none has more than one turn
  abbrev pub GlanceKeeps : Type 0
  GlanceKeeps = (a : Addr) → Keeps g id v a (λ n. n) (λ r w. (w ≡ saw a r v) × (v.parts ≤ 4096) × (length v.turn ≤ 1))

  -- the steps on records
  abbrev pub FoundKeeps : Type 0
  FoundKeeps = (x : Block) → Has x v.blocks → x.fresh ≡ true → 1 ≤ v.parts → Keeps g id v (state x.unit) (λ n. 1) (λ r w. (n : ℕ) × (w ≡ saw (state x.unit) n (founded x v)))

  abbrev pub UnmakeKeeps : Type 0
  UnmakeKeeps = (r : Made) → Has r v.made → r.number ≡ 0 → r.live ≡ false → 1 ≤ v.parts
      → Keeps g id v (state r.unit) (λ n. 0) (λ k w. (n : ℕ) × (w ≡ saw (state r.unit) n (unmade r.unit r.class v)))

  abbrev pub RetireKeeps : Type 0
  RetireKeeps = (u : ℕ) → u < units_of g.plan → 1 ≤ times u v.retiring → 1 ≤ v.parts
      → Keeps g id v (state u) (λ n. 0) (λ k w. (c : ℕ) × IsBlock g.plan u c × ((n : ℕ) × (w ≡ saw (state u) n (retired u c v))))

  -- an own word of a record that is made is filled, or one of the frame or the result of one that runs
  abbrev pub FillKeeps : Type 0
  FillKeeps = (a : Addr) (n : ℕ) → is_own v.made v.runs a ≡ true → is_filled a ≡ true → Keeps g id v a (λ k. n) (λ r w. (k : ℕ) × (w ≡ saw a k (filled a n v)))

  abbrev pub ReadKeeps : Type 0
  ReadKeeps = (a : Addr) → Keeps g id v a (λ n. n) (λ r w. (w ≡ saw a r (learnt a r v)) × ((n : ℕ) → known_in a v.known ≡ Some n → r ≡ n))

  abbrev pub SeeStateKeeps : Type 0
  SeeStateKeeps = (u : ℕ) → u < units_of g.plan → Keeps g id v (state u) (λ n. n) (λ r w. (w ≡ saw (state u) r (saw_state u r v)) × IsStateWord r)

  -- the steps on references
  abbrev pub MoreKeeps : Type 0
  MoreKeeps = (u : ℕ) → u < units_of g.plan → 1 ≤ v.parts → 1 ≤ times u v.futures → length v.futures < 4294967296
      → Keeps g id v (refs u) (λ n. (n + 1) % 2 ^ 64) (λ r w. w ≡ saw (refs u) r (referred u v))

  -- a reference goes where those that are left are enough for the frames that run, provided they were enough before
  abbrev pub LessKeeps : Type 0
  LessKeeps = (u : ℕ) → u < units_of g.plan → 1 ≤ v.parts → 1 ≤ times u v.futures
      → ((n : ℕ) → StillCovers g v (lessened u n v))
      → Keeps g id v (refs u) (λ n. (n + (2 ^ 64 - 1)) % 2 ^ 64) (λ r w. w ≡ saw (refs u) r (lessened u r v))

  -- a done record is given up once its list is closed and it is counted out
  abbrev pub GiveUpKeeps : Type 0
  GiveUpKeeps = (u : ℕ) → u < units_of g.plan → 1 ≤ v.parts → (d : Done) → Has d v.done → d.unit ≡ u → d.closed ≡ true → d.out ≡ true
      → Keeps g id v (refs u) (λ n. (n + (2 ^ 64 - 1)) % 2 ^ 64) (λ r w. w ≡ saw (refs u) r (gave_up u r v))

-- the steps of the pool, on records and on references keep the scheduler's rule
abbrev pub PoolStepsKeep : Type 0
PoolStepsKeep = (g : Setup) (id : ℕ) (v : View) → LookKeeps g id v × ReserveKeeps g id v × ClaimKeeps g id v × ClearKeeps g id v × SettleKeeps g id v × GlanceKeeps g id v

abbrev pub RecordStepsKeep : Type 0
RecordStepsKeep = (g : Setup) (id : ℕ) (v : View) → FoundKeeps g id v × UnmakeKeeps g id v × RetireKeeps g id v × FillKeeps g id v × ReadKeeps g id v × SeeStateKeeps g id v

abbrev pub ReferenceStepsKeep : Type 0
ReferenceStepsKeep = (g : Setup) (id : ℕ) (v : View) → MoreKeeps g id v × LessKeeps g id v × GiveUpKeeps g id v
