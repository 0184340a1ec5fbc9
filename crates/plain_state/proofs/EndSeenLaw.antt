-- The law that an engine with nothing that may start answers what the end of the run answers.
use Rattle.std.proofs.Common.{◌≡◌, ℕ, zero, suc, ◌+◌, ◌/◌, ◌<◌, ◌≤◌, Bool, true, false, cond, nat_eq, Option, Some, None, List, [], ◌∷◌, map, slice_get, refl, sym, ◌∙◌, ap, subst, inl, inr, arith, eq-eqb}
use Rattle.std.specs.Option.{option_map}
use Rattle.std.proofs.lemmas.Bool.{ne_eqb}
use Rattle.std.proofs.lemmas.Option.{none-some, same_Some}
use Rattle.task_syntax.specs.Places.{Each}
use Rattle.task_syntax.specs.declared.program.Program.{Program}
use Rattle.task_syntax.specs.declared.columns.Columns.{Columns}
use Rattle.kt_words.specs.Ranges.{IsUnitCount, IsGeometry}
use Rattle.kt_words.specs.declared.super_word.SuperWord.{SuperWord}
use Rattle.pool_core.specs.Blocks.{BlockState}
use Rattle.pool_core.specs.Superblocks.{SuperblockState}
use Rattle.pool_core.specs.Pool.{PoolState}
use Rattle.record_core.specs.Numbers.{found}
use Rattle.record_core.specs.Sums.{total}
use Rattle.record_core.specs.EndSeen.{RunPlan, EndSeen}
use Rattle.record_core.specs.Journal.{JournalState}
use Rattle.record_core.specs.declared.rows.RootEnd.{RootEnd}
use Rattle.run_model.specs.State.{Outcome, Gave, WasCut, RootWord, Named, Refused, Skipped, Evidence, Super, Run}
use Rattle.run_model.specs.Placing.{used, stands_in, count_in, superblocks_from}
use Rattle.run_model.specs.Step.{own_task}
use Rattle.run_model.specs.End.{end_at, root_end, held_of, class_kept, words_kept}
use Rattle.run_model.proofs.UsedFacts.{in_use}
use Rattle.run_model.proofs.UsedSound.{IsPlaced, stands_here}
use Rattle.run_model.proofs.BlocksParts.{core_fit}
use Rattle.run_model.proofs.BlockLaws.{WithBlocks, blocks_always}
use Rattle.plain_state.specs.declared.record.RootState.{RootState}
use Rattle.plain_state.specs.declared.record.RootState.TheVariants as root
use Rattle.plain_state.specs.declared.record.Record.{Record}
use Rattle.plain_state.specs.Store.{out_of_class}
use Rattle.plain_state.specs.Engine.{EngineState}
use Rattle.plain_state.specs.EndView.{end_of_run, end_of, end_in}
use Rattle.plain_state.specs.EndView as view
use Rattle.plain_state.specs.Sees.{Sees, InUse, IsReached, root_state, outcome_seen, class_seen, words_seen}
use Rattle.plain_state.specs.Laws.{EndIsSeen}
use Rattle.plain_state.proofs.QueueRoom.{cons_parts}

-- blocks that are out, by class

-- what one block, and what all of these, count in superblocks of a class from this place on
abbrev one_counts : ℕ → ℕ → BlockState → ℕ → List Super → ℕ
one_counts units class b place [] = 0
one_counts units class b place (super ∷ supers) = cond (nat_eq super.class class) (cond (stands_in units place b) 1 0) 0 + one_counts units class b (suc place) supers

-- and what all of these count
abbrev all_count : ℕ → ℕ → List BlockState → ℕ → List Super → ℕ
all_count units class bs place supers = total (λ (s : SuperblockState). cond (nat_eq s.class class) s.count 0) (superblocks_from units bs place supers)

module _ (units class : ℕ) where
  -- no block counts nothing
  no_blocks : (place : ℕ) (supers : List Super) → all_count units class [] place supers ≡ 0
  no_blocks place [] = refl
  no_blocks place (super ∷ supers) = by (nat_eq super.class class) (no_blocks (suc place) supers)
    where
      by : (b : Bool) → all_count units class [] (suc place) supers ≡ 0 → cond b 0 0 + all_count units class [] (suc place) supers ≡ 0
      by true rest = omega (arith, rest)
      by false rest = omega (arith, rest)

  -- one block more
  one_more : (b : BlockState) (bs : List BlockState) (place : ℕ) (supers : List Super) → all_count units class (b ∷ bs) place supers ≡ one_counts units class b place supers + all_count units class bs place supers
  one_more b bs place [] = refl
  one_more b bs place (super ∷ supers) = by (nat_eq super.class class) (one_more b bs (suc place) supers)
    where
      by : (x : Bool) → all_count units class (b ∷ bs) (suc place) supers ≡ one_counts units class b (suc place) supers + all_count units class bs (suc place) supers
          → cond x (cond (stands_in units place b) 1 0 + count_in units place bs) 0 + all_count units class (b ∷ bs) (suc place) supers
          ≡ (cond x (cond (stands_in units place b) 1 0) 0 + one_counts units class b (suc place) supers) + (cond x (count_in units place bs) 0 + all_count units class bs (suc place) supers)
      by true rest = omega (arith, rest)
      by false rest = omega (arith, rest)

  -- a block that stands before all of these
  before_all : (b : BlockState) (place : ℕ) (supers : List Super) → b.unit / units < place → one_counts units class b place supers ≡ 0
  before_all b place [] lt = refl
  before_all b place (super ∷ supers) lt =
      let not_here : stands_in units place b ≡ false = ne_eqb (b.unit / units) place (λ e. absurd (omega (arith, e, lt))) in
      by (nat_eq super.class class) (stands_in units place b) not_here (before_all b (suc place) supers (omega (arith, lt)))
    where
      by : (x y : Bool) → y ≡ false → one_counts units class b (suc place) supers ≡ 0 → cond x (cond y 1 0) 0 + one_counts units class b (suc place) supers ≡ 0
      by true true e rest = absurd (Rattle.std.proofs.lemmas.Bool.false≢true (sym e))
      by true false e rest = omega (arith, rest)
      by false y e rest = omega (arith, rest)

  -- a block counts once, in its superblock
  counts_once : (b : BlockState) (place k : ℕ) (supers : List Super) (super : Super) → slice_get supers k ≡ Some super → b.unit / units ≡ place + k → b.class ≡ super.class
      → one_counts units class b place supers ≡ cond (nat_eq b.class class) 1 0
  counts_once b place k [] super there at same = absurd (none-some super there)
  counts_once b place zero (s ∷ supers) super there at same =
      let here : stands_in units place b ≡ true = eq-eqb (b.unit / units) place (omega (arith, at)) in
      let is_class : nat_eq s.class class ≡ nat_eq b.class class = ap (λ (x : Super). nat_eq x.class class) (same_Some s super there) ∙ ap (λ x. nat_eq x class) (sym same) in
      by (nat_eq s.class class) (nat_eq b.class class) (stands_in units place b) is_class here (before_all b (suc place) supers (omega (arith, at)))
    where
      by : (x z y : Bool) → x ≡ z → y ≡ true → one_counts units class b (suc place) supers ≡ 0 → cond x (cond y 1 0) 0 + one_counts units class b (suc place) supers ≡ cond z 1 0
      by x z false e f rest = absurd (Rattle.std.proofs.lemmas.Bool.false≢true f)
      by true true true e f rest = omega (arith, rest)
      by false false true e f rest = omega (arith, rest)
      by true false true e f rest = absurd (Rattle.std.proofs.lemmas.Bool.false≢true (sym e))
      by false true true e f rest = absurd (Rattle.std.proofs.lemmas.Bool.false≢true e)
  counts_once b place (suc k) (s ∷ supers) super there at same =
      let not_here : stands_in units place b ≡ false = ne_eqb (b.unit / units) place (λ e. absurd (omega (arith, e, at))) in
      by (nat_eq s.class class) (stands_in units place b) not_here (counts_once b (suc place) k supers super there (omega (arith, at)) same)
    where
      by : (x y : Bool) → y ≡ false → one_counts units class b (suc place) supers ≡ cond (nat_eq b.class class) 1 0 → cond x (cond y 1 0) 0 + one_counts units class b (suc place) supers ≡ cond (nat_eq b.class class) 1 0
      by true true e rest = absurd (Rattle.std.proofs.lemmas.Bool.false≢true (sym e))
      by true false e rest = omega (arith, rest)
      by false y e rest = omega (arith, rest)

  -- the counts of all superblocks of a class are the blocks of it
  counted_class : (supers : List Super) (unit_count : IsUnitCount units) (classes : (place : ℕ) (super : Super) → slice_get supers place ≡ Some super → super.class ≤ 3) (bs : List BlockState) → Each bs (IsPlaced units supers)
      → all_count units class bs 0 supers ≡ held_of class bs
  counted_class supers unit_count classes [] all = no_blocks 0 supers
  counted_class supers unit_count classes (b ∷ bs) all =
      let placed = all 0 b refl in
      let at : b.unit / units ≡ placed.place = Rattle.std.proofs.lemmas.Bool.eqb-true (b.unit / units) placed.place (stands_here units supers unit_count classes b placed) in
      let one = counts_once b 0 placed.place supers placed.super placed.there (omega (arith, at)) (ap (λ (x : BlockState). x.class) placed.block_is) in
      omega (arith, one_more b bs 0 supers, one, counted_class supers unit_count classes bs (λ i x e. all (suc i) x e))

-- roots

-- a list of images, by what holds at each place
images : {A B C : Type 0} (f : A → Option B) (g : B → C) (h : A → C) (xs : List A) (ys : List B) → map f xs ≡ map (λ y. Some y) ys
    → ((k : ℕ) (x : A) (y : B) → slice_get xs k ≡ Some x → f x ≡ Some y → g y ≡ h x) → map g ys ≡ map h xs
images f g h [] [] e same = refl
images {B = B} f g h [] (y ∷ ys) e same = absurd (differ e)
  where
    differ : ◌≡◌ {A = List (Option B)} [] (Some y ∷ map (λ v. Some v) ys) → ⊥
    differ h = cc
images {B = B} f g h (x ∷ xs) [] e same = absurd (differ e)
  where
    differ : ◌≡◌ {A = List (Option B)} (f x ∷ map f xs) [] → ⊥
    differ h = cc
images f g h (x ∷ xs) (y ∷ ys) e same =
    let (head, tail) = cons_parts (f x) (Some y) (map f xs) (map (λ v. Some v) ys) e in
    ap (λ z. z ∷ map g ys) (same 0 x y refl head) ∙ ap (λ zs. h x ∷ zs) (images f g h xs ys tail (λ k a b there is. same (suc k) a b there is))

module _ (p : Program) (units : ℕ) (e : EngineState) (r : Run) (sees : Sees p units [] None e r) where
  -- the task of a root is in use
  root_used : (k t : ℕ) → slice_get r.roots k ≡ Some (Named t) → InUse [] r t
  root_used k t there = (in_use r.roots r.bodies t).1 (inr (inl (k, there)))

  -- the record of the task of a root
  root_record : (k t : ℕ) (st : RootState) → slice_get r.roots k ≡ Some (Named t) → root_state r.blocks (Named t) ≡ Some st
      → (unit : ℕ) × (known : Record) × (st ≡ root.Named unit) × (slice_get e.store.records unit ≡ Some known) × (known.task ≡ t) × (known.outcome ≡ option_map outcome_seen (found r.outcomes t))
  root_record k t st there is =
      let task = sees.tasks t (root_used k t there) in
      let at = Rattle.plain_state.proofs.Units.unit_from r.blocks t task.block task.has_block in
      (task.block.unit, task.known, same_Some st (root.Named task.block.unit) (sym is ∙ ap (option_map root.Named) at), task.there, task.task, task.outcome)

  -- the end of a task, by its outcome
  ended_as : (t : ℕ) (o : Option Outcome) → end_of t (option_map outcome_seen o) ≡ end_at t o
  ended_as t None = refl
  ended_as t (Some (Gave v)) = refl
  ended_as t (Some (WasCut tag)) = refl

  -- how the roots ended
  roots_end : map (view.root_end e.store) e.roots ≡ map (root_end r) r.roots
  roots_end = images (root_state r.blocks) (view.root_end e.store) (root_end r) r.roots e.roots sees.roots same
    where
      same : (k : ℕ) (word : RootWord) (st : RootState) → slice_get r.roots k ≡ Some word → root_state r.blocks word ≡ Some st → view.root_end e.store st ≡ root_end r word
      same k (Named t) st there is =
          let (unit, known, is_named, stands, of_task, outcome) = root_record k t st there is in
          ap (view.root_end e.store) is_named ∙ ap end_in stands ∙ ap (λ x. end_of x known.outcome) of_task ∙ ap (end_of t) outcome ∙ ended_as t (found r.outcomes t)
      same k (Refused tag) st there is = ap (view.root_end e.store) (sym (same_Some (root.Refused tag) st is))
      same k (Skipped at tag) st there is = ap (view.root_end e.store) (sym (same_Some (root.Skipped at tag) st is))

  -- and which task each has
  roots_own : map (view.own_task e.store) e.roots ≡ map own_task r.roots
  roots_own = images (root_state r.blocks) (view.own_task e.store) own_task r.roots e.roots sees.roots same
    where
      same : (k : ℕ) (word : RootWord) (st : RootState) → slice_get r.roots k ≡ Some word → root_state r.blocks word ≡ Some st → view.own_task e.store st ≡ own_task word
      same k (Named t) st there is =
          let (unit, known, is_named, stands, of_task, outcome) = root_record k t st there is in
          ap (view.own_task e.store) is_named ∙ ap view.task_in stands ∙ ap Some of_task
      same k (Refused tag) st there is = ap (view.own_task e.store) (sym (same_Some (root.Refused tag) st is))
      same k (Skipped at tag) st there is = ap (view.own_task e.store) (sym (same_Some (root.Skipped at tag) st is))

-- the class that the first null answer kept
class_same : (o : Option Evidence) → class_seen o ≡ class_kept o
class_same None = refl
class_same (Some e) = refl

-- and the superblocks
words_same : (o : Option Evidence) → words_seen o ≡ words_kept o
words_same None = refl
words_same (Some e) = refl

-- an end, by its parts
abbrev end_with : RunPlan → List RootEnd → List (Option ℕ) → JournalState → ℕ → List ℕ → Option ℕ → List SuperWord → EndSeen
end_with plan roots own journal nulls held class words = record {
  superblocks = plan.superblocks;
  units = plan.units;
  roots = roots;
  own = own;
  rows = journal.rows;
  tasks = journal.tasks;
  nulls = nulls;
  held = held;
  evidence_class = class;
  evidence = words;
}

-- the blocks of a class that are out
pub out_is_held : (p : Program) (c : Columns) (plan : RunPlan) (e : EngineState) (r : Run) (class : ℕ) → IsGeometry plan.superblocks plan.units → IsReached p c plan r → Sees p plan.units [] None e r → out_of_class e.store.pool class ≡ held_of class (used r)
out_is_held p c plan e r class geometry (taken, is) sees =
    let held : WithBlocks p plan r = subst (WithBlocks p plan) is (blocks_always p c plan geometry taken) in
    let fit = core_fit plan.units r.roots r.bodies r.blocks r.supers held.blocks.core in
    let unit_count : IsUnitCount plan.units = subst IsUnitCount (ap (λ (x : PoolState). x.units) sees.pool) sees.sound.unit_count in
    ap (λ (x : PoolState). out_of_class x class) sees.pool
    ∙ counted_class plan.units class r.supers unit_count (λ place super there. (fit.supers_fit place super there).class_fits) (used r) fit.placed

-- the law on the end that is seen
pub end_is_seen : EndIsSeen
end_is_seen p c plan e r run rests none =
    let sees = rests.sees in
    let held : (class : ℕ) → out_of_class e.store.pool class ≡ held_of class (used r) = λ class. out_is_held p c plan e r class run.geometry rests.reached sees in
    ap (λ x. end_with plan x (map (view.own_task e.store) e.roots) e.journal e.nulls (map (out_of_class e.store.pool) (0 ∷ 1 ∷ 2 ∷ 3 ∷ [])) e.evidence_class e.evidence) (roots_end p plan.units e r sees)
    ∙ ap (λ x. end_with plan (map (root_end r) r.roots) x e.journal e.nulls (map (out_of_class e.store.pool) (0 ∷ 1 ∷ 2 ∷ 3 ∷ [])) e.evidence_class e.evidence) (roots_own p plan.units e r sees)
    ∙ ap (λ x. end_with plan (map (root_end r) r.roots) (map own_task r.roots) x e.nulls (map (out_of_class e.store.pool) (0 ∷ 1 ∷ 2 ∷ 3 ∷ [])) e.evidence_class e.evidence) sees.journal
    ∙ ap (λ x. end_with plan (map (root_end r) r.roots) (map own_task r.roots) r.journal x (map (out_of_class e.store.pool) (0 ∷ 1 ∷ 2 ∷ 3 ∷ [])) e.evidence_class e.evidence) sees.nulls
    ∙ ap (λ (f : ℕ → ℕ). end_with plan (map (root_end r) r.roots) (map own_task r.roots) r.journal r.nulls (map f (0 ∷ 1 ∷ 2 ∷ 3 ∷ [])) e.evidence_class e.evidence) (λ z class. held class z)
    ∙ ap (λ x. end_with plan (map (root_end r) r.roots) (map own_task r.roots) r.journal r.nulls (map (λ class. held_of class (used r)) (0 ∷ 1 ∷ 2 ∷ 3 ∷ [])) x e.evidence) (sees.class ∙ class_same r.evidence)
    ∙ ap (λ x. end_with plan (map (root_end r) r.roots) (map own_task r.roots) r.journal r.nulls (map (λ class. held_of class (used r)) (0 ∷ 1 ∷ 2 ∷ 3 ∷ [])) (class_kept r.evidence) x) (sees.words ∙ words_same r.evidence)
