-- The steps of the pool keep the scheduler's rule: they change no class where a record stands, and nothing else that it reads.
use Rattle.std.proofs.Common.{◌≡◌, ◌∙◌, ◌⊎◌, inl, inr, ℕ, ◌+◌, ◌-◌, ◌/◌, ◌%◌, ◌^◌, ◌<◌, ◌≤◌, ◌==◌, List, map, length, refl, sym, ap, subst, arith}
use prog.Atomic.{either}
use Rattle.std.specs.Prelude.{slice_set}
use Rattle.std.specs.Int.{bit_at}
use Rattle.std.specs.Int.Bits.{bit_or, bit_and}
use Rattle.atomic_table.proofs.Lists.{exchanged}
use Rattle.record_core.specs.Counting.{At, Has}
use Rattle.kt_words.specs.SuperWords.{count_of, class_of, reserved_word}
use Rattle.kt_words.specs.declared.plan.Plan.{Plan}
use Rattle.task_syntax.specs.declared.program.Program.{Program}
use Rattle.task_meaning.specs.Worths.{Accepted}
use Rattle.table_core.specs.Addresses.{Addr, Mem, super, bits, state, put}
use Rattle.table_core.specs.Holdings.{Block, Made}
use Rattle.table_core.specs.Story.{Story}
use Rattle.table_core.specs.Pool.{cap, superblock_of, bit_of, Hand, PoolSound, bit_in}
use Rattle.table_core.specs.Views.{place, saw, looked, reserved, claimed, cleared, settled}
use Rattle.table_core.specs.Steps.{Tried, WonBit}
use Rattle.table_core.specs.Parts.{pool, seen as table_seen}
use Rattle.table_core.specs.declared.setup.Setup.{Setup}
use Rattle.table_core.specs.declared.view.View.{View}
use Rattle.table_core.proofs.AddressFacts.{put-again}
use Rattle.table_core.proofs.BitFacts.{one_bit, all_but}
use Rattle.table_core.proofs.ClassFacts.{record-phase, classes-stay}
use Rattle.table_core.proofs.PoolKinds.{bit_two, class_stays, still_class, looks-at as table-looks, reserves-at as table-reserves, settles-at as table-settles, claims-at as table-claims, clears-at as table-clears, glances-at as table-glances}
use Rattle.schedule_rule.specs.Counts.{ClassesSound}
use Rattle.schedule_rule.specs.Parts.{Part, classes, seen, Says, AllSay, Keeps}
use Rattle.schedule_rule.proofs.Rule.{frames, same-story}

-- where no class changes where a record stands, records have their classes still
pub classes-kept : (p : Program) (g : Plan) (calls : List Accepted) (supers supers' : ℕ → ℕ) (clear : ℕ → ℕ → ℕ) (states : ℕ → ℕ) (hands : List Hand) (vs : List (List Made))
    → PoolSound g supers clear states hands
    → ((j : ℕ) → j < g.geometry.superblocks → 1 ≤ count_of (supers j) → class_of (supers' j) ≡ class_of (supers j))
    → ClassesSound p g calls supers states vs → ClassesSound p g calls supers' states vs
classes-kept p g calls supers supers' clear states hands vs sound stays was = record {
  records = λ u near is. classes-stay g supers clear states hands sound supers' stays u near (omega (arith, record-phase (states u) is)) ∙ was.records u near is;
  made = was.made;
}

module _ (g : Setup) (id : ℕ) (v : View) where
  -- a step that sees a word, and leaves it and all that these parts read as it was
  pub sees : (a : Addr) (n : ℕ) (m : Mem) (vs : List View) (s : Story) → ((q : Part) → Says g q s m (map (seen q) vs)) → At vs id v
      → (q : Part) → Says g q s m (map (seen q) (slice_set vs id (saw a n v)))
  sees a n m vs s l at classes = frames g vs id v at classes s m (saw a n v) refl (l classes)
  sees a n m vs s l at q = frames g vs id v at q s m (saw a n v) refl (l q)

  -- a view that differs in what it has of the pool is for these parts as it was
  abbrev SamePool : View → Type 0
  SamePool w = (q : Part) → seen q v ≡ seen q w

  module _ (m : Mem) (vs : List View) (s : Story) (l : AllSay g s m vs) (at : At vs id v) where
    abbrev supers : ℕ → ℕ
    supers j = m (super j)

    -- the word of a superblock is written, and no class changes where there is a count
    super-says : (i n : ℕ) (w : View) → ((q : Part) → seen q v ≡ seen q w)
        → ((j : ℕ) → j < g.plan.geometry.superblocks → 1 ≤ count_of (supers j) → class_of (put m (super i) n (super j)) ≡ class_of (supers j))
        → (q : Part) → Says g q s (put m (super i) n) (map (seen q) (slice_set vs id w))
    super-says i n w same stays classes = frames g vs id v at classes s (put m (super i) n) w (same classes)
        (classes-kept g.checked g.plan s.calls supers (λ j. put m (super i) n (super j)) (bit_in m) (λ u. m (state u)) (map (table_seen pool) vs) (map (seen classes) vs) (l.table pool) stays (l.schedule classes))
    super-says i n w same stays q = frames g vs id v at q s (put m (super i) n) w (same q) (l.schedule q)

  same-saw : (a : Addr) (n : ℕ) → SamePool (saw a n v)
  same-saw a n classes = refl
  same-saw a n q = refl

  same-looked : (i c n : ℕ) → SamePool (saw (super i) n (looked i c n v))
  same-looked i c n classes = refl
  same-looked i c n q = refl

  same-reserved : (i c n : ℕ) → SamePool (saw (super i) n (reserved (place i c) v))
  same-reserved i c n classes = refl
  same-reserved i c n q = refl

  same-settled : (i c n : ℕ) → SamePool (saw (super i) n (settled (place i c) v))
  same-settled i c n classes = refl
  same-settled i c n q = refl

  same-claimed : (i c b n : ℕ) → SamePool (saw (bits i (b / 64)) n (claimed g.plan (place i c) b v))
  same-claimed i c b n classes = refl
  same-claimed i c b n q = refl

  same-cleared : (x : Block) (a : Addr) (n : ℕ) → SamePool (saw a n (cleared g.plan x v))
  same-cleared x a n classes = refl
  same-cleared x a n q = refl

  -- a word of bits is written
  bits-says : (i j n : ℕ) (m : Mem) (vs : List View) (s : Story) (w : View) → ((q : Part) → Says g q s m (map (seen q) vs)) → At vs id v → SamePool w
      → (q : Part) → Says g q s (put m (bits i j) n) (map (seen q) (slice_set vs id w))
  bits-says i j n m vs s w l at same classes = frames g vs id v at classes s (put m (bits i j) n) w (same classes) (l classes)
  bits-says i j n m vs s w l at same q = frames g vs id v at q s (put m (bits i j) n) w (same q) (l q)

  -- look
  pub looks-at : (i c : ℕ) → i < g.plan.geometry.superblocks → Keeps g id v (super i) (λ n. n) (λ r w. (w ≡ saw (super i) r (looked i c r v)) × (class_of r ≤ 3))
  looks-at i c near m vs s l at small =
      let t = table-looks g id v i c near m vs s l.table at small in
      let w : View = saw (super i) (m (super i)) (looked i c (m (super i)) v) in
      let says : (q : Part) → Says g q s (put m (super i) (m (super i))) (map (seen q) (slice_set vs id w)) =
      super-says m vs s l at i (m (super i)) w (same-looked i c (m (super i))) (λ j near' some. ap (λ (x : Mem). class_of (x (super j))) (put-again m (super i))) in
      (t.0, (s, same-story s, record { table = t.1; schedule = λ q. subst (λ (x : View). Says g q s (put m (super i) (m (super i))) (map (seen q) (slice_set vs id x))) (sym t.2.0) (says q) }), t.2, t.3)

  -- a load of any word
  pub glances-at : (a : Addr) → Keeps g id v a (λ n. n) (λ r w. (w ≡ saw a r v) × (v.parts ≤ 4096) × (length v.turn ≤ 1))
  glances-at a m vs s l at small =
      let t = table-glances g id v a m vs s l.table at small in (
        t.0,
        (
          s,
          same-story s,
          record {
            table = t.1;
            schedule = λ q. subst (λ (x : Mem). Says g q s x (map (seen q) (slice_set vs id t.0))) (sym (put-again m a))
                (subst (λ (x : View). Says g q s m (map (seen q) (slice_set vs id x))) (sym t.2.0) (sees a (m a) m vs s l.schedule at q));
          },
        ),
        t.2,
        t.3,
      )

  -- reserve
  pub reserves-at : (i c old new : ℕ) → i < g.plan.geometry.superblocks → c ≤ 3 → 1 ≤ v.parts → (class_of old ≡ c) ⊎ (count_of old ≡ 0) → count_of old < cap g.plan c → new ≡ reserved_word old c
      → Keeps g id v (super i) (λ n. either (n == old) new n) (λ r w. Tried old (saw (super i) r v) (saw (super i) r (reserved (place i c) v)) r w × (class_of r ≤ 3))
  reserves-at i c old new near low_class in_use which room new_is m vs s l at small =
      let t = table-reserves g id v i c old new near low_class in_use which room new_is m vs s l.table at small in
      let a : Addr = super i in let n : ℕ = either (m a == old) new (m a) in
      (t.0, (s, same-story s, record { table = t.1; schedule = says t.0 t.2.0 }), t.2, t.3)
    where
      won : m (super i) ≡ old → (q : Part) → Says g q s (put m (super i) new) (map (seen q) (slice_set vs id (saw (super i) (m (super i)) (reserved (place i c) v))))
      won e = super-says m vs s l at i new (saw (super i) (m (super i)) (reserved (place i c) v)) (same-reserved i c (m (super i)))
          (class_stays g id v m vs s l.table at i c new near low_class in_use (subst (λ (x : ℕ). (class_of x ≡ c) ⊎ (count_of x ≡ 0)) (sym e) which) (omega (arith, room, ap count_of e)) (new_is ∙ ap (λ (x : ℕ). reserved_word x c) (sym e)) small)

      says : (w : View) → Tried old (saw (super i) (m (super i)) v) (saw (super i) (m (super i)) (reserved (place i c) v)) (m (super i)) w
          → (q : Part) → Says g q s (put m (super i) (either (m (super i) == old) new (m (super i)))) (map (seen q) (slice_set vs id w))
      says w tried = exchanged (m (super i)) old new (λ k. (q : Part) → Says g q s (put m (super i) k) (map (seen q) (slice_set vs id w)))
          (λ e q. subst (λ (x : View). Says g q s (put m (super i) new) (map (seen q) (slice_set vs id x))) (sym (tried.0 e)) (won e q))
          (λ ne q. subst (λ (x : View). Says g q s (put m (super i) (m (super i))) (map (seen q) (slice_set vs id x))) (sym (tried.1 ne))
          (subst (λ (x : Mem). Says g q s x (map (seen q) (slice_set vs id (saw (super i) (m (super i)) v)))) (sym (put-again m (super i))) (sees (super i) (m (super i)) m vs s l.schedule at q)))

  -- settle
  pub settles-at : (i c : ℕ) → i < g.plan.geometry.superblocks → 1 ≤ v.parts → Has (place i c) v.debts
      → Keeps g id v (super i) (λ n. (n + (2 ^ 64 - 1)) % 2 ^ 64) (λ r w. w ≡ saw (super i) r (settled (place i c) v))
  settles-at i c near in_use has m vs s l at small =
      let t = table-settles g id v i c near in_use has m vs s l.table at small in
      let n : ℕ = (m (super i) + (2 ^ 64 - 1)) % 2 ^ 64 in
      let says : (q : Part) → Says g q s (put m (super i) n) (map (seen q) (slice_set vs id (saw (super i) (m (super i)) (settled (place i c) v)))) =
      super-says m vs s l at i n (saw (super i) (m (super i)) (settled (place i c) v)) (same-settled i c (m (super i)))
      (still_class g id v m vs s l.table at i c n near in_use has (λ some. omega (arith, some, small))) in
      (t.0, (s, same-story s, record { table = t.1; schedule = λ q. subst (λ (x : View). Says g q s (put m (super i) n) (map (seen q) (slice_set vs id x))) (sym t.2) (says q) }), t.2, t.3)

  -- claim
  pub claims-at : (i c b : ℕ) → i < g.plan.geometry.superblocks → c ≤ 3 → b < cap g.plan c → 1 ≤ v.parts → Has (place i c) v.reserved
      → Keeps g id v (bits i (b / 64)) (λ n. bit_or n (one_bit b)) (λ r w. WonBit b (saw (bits i (b / 64)) r v) (saw (bits i (b / 64)) r (claimed g.plan (place i c) b v)) r w)
  claims-at i c b near low_class below in_use has m vs s l at small =
      let t = table-claims g id v i c b near low_class below in_use has m vs s l.table at small in
      (t.0, (s, same-story s, record { table = t.1; schedule = says t.0 t.2 (bit_two (m (bits i (b / 64))) (b % 64)) }), t.2, t.3)
    where
      says : (w : View) → WonBit b (saw (bits i (b / 64)) (m (bits i (b / 64))) v) (saw (bits i (b / 64)) (m (bits i (b / 64))) (claimed g.plan (place i c) b v)) (m (bits i (b / 64))) w
          → (bit_at (m (bits i (b / 64))) (b % 64) ≡ 0) ⊎ (bit_at (m (bits i (b / 64))) (b % 64) ≡ 1)
          → (q : Part) → Says g q s (put m (bits i (b / 64)) (bit_or (m (bits i (b / 64))) (one_bit b))) (map (seen q) (slice_set vs id w))
      says w bit (inl clear) q = subst (λ (x : View). Says g q s (put m (bits i (b / 64)) (bit_or (m (bits i (b / 64))) (one_bit b))) (map (seen q) (slice_set vs id x))) (sym (bit.0 clear))
          (bits-says i (b / 64) (bit_or (m (bits i (b / 64))) (one_bit b)) m vs s (saw (bits i (b / 64)) (m (bits i (b / 64))) (claimed g.plan (place i c) b v)) l.schedule at (same-claimed i c b (m (bits i (b / 64)))) q)
      says w bit (inr set) q = subst (λ (x : View). Says g q s (put m (bits i (b / 64)) (bit_or (m (bits i (b / 64))) (one_bit b))) (map (seen q) (slice_set vs id x))) (sym (bit.1 set))
          (bits-says i (b / 64) (bit_or (m (bits i (b / 64))) (one_bit b)) m vs s (saw (bits i (b / 64)) (m (bits i (b / 64))) v) l.schedule at (same-saw (bits i (b / 64)) (m (bits i (b / 64)))) q)

  -- clear
  pub clears-at : (x : Block) → 1 ≤ v.parts → Has x v.blocks
      → Keeps g id v (bits (superblock_of g.plan x.unit) (bit_of g.plan x.unit x.class / 64)) (λ n. bit_and n (all_but (bit_of g.plan x.unit x.class)))
      (λ r w. w ≡ saw (bits (superblock_of g.plan x.unit) (bit_of g.plan x.unit x.class / 64)) r (cleared g.plan x v))
  clears-at x in_use has m vs s l at small =
      let t = table-clears g id v x in_use has m vs s l.table at small in
      let i : ℕ = superblock_of g.plan x.unit in let j : ℕ = bit_of g.plan x.unit x.class / 64 in let n : ℕ = bit_and (m (bits i j)) (all_but (bit_of g.plan x.unit x.class)) in (
        t.0,
        (
          s,
          same-story s,
          record {
            table = t.1;
            schedule = λ q. subst (λ (y : View). Says g q s (put m (bits i j) n) (map (seen q) (slice_set vs id y))) (sym t.2)
                (bits-says i j n m vs s (saw (bits i j) (m (bits i j)) (cleared g.plan x v)) l.schedule at (same-cleared x (bits i j) (m (bits i j))) q);
          },
        ),
        t.2,
        t.3,
      )
