-- While a task is still to come, a pool that suffices has a block for it.
use Rattle.std.proofs.Common.{◌≡◌, ℕ, suc, ◌+◌, ◌*◌, ◌≤◌, ◌<◌, Bool, true, false, cond, Option, Some, None, List, [], ◌∷◌, ◌++◌, length, slice_get, refl, sym, ◌∙◌, ap, subst, inl, inr, ⊎_elim, arith}
use Rattle.std.specs.Option.{is_some}
use Rattle.std.proofs.lemmas.Option.{none-some, same_Some}
use Rattle.task_syntax.specs.Places.{Each}
use Rattle.task_syntax.specs.Form.{IsWellFormed}
use Rattle.task_syntax.specs.Valid.{IsValid}
use Rattle.task_syntax.specs.declared.program.Root.{Root as RootLine}
use Rattle.task_syntax.specs.declared.program.Program.{Program}
use Rattle.task_syntax.specs.declared.columns.Columns.{Columns}
use Rattle.task_meaning.specs.Meant.{Counts}
use Rattle.task_meaning.specs.Frame.{set_future, variables_of}
use Rattle.task_meaning.specs.Worths.{Accepted, OfCall, OfAll, Respawn}
use Rattle.kt_words.specs.Capacity.{capacity}
use Rattle.kt_words.specs.Ranges.{IsGeometry}
use Rattle.kt_words.proofs.Powers.{unit_count}
use Rattle.kt_words.specs.declared.super_word.SuperWord.{SuperWord}
use Rattle.pool_core.specs.Blocks.{BlockState}
use Rattle.pool_core.specs.Superblocks.{SuperblockState}
use Rattle.pool_core.proofs.Units.{capacity_fills}
use Rattle.frame_code.specs.Words.{OfKind}
use Rattle.record_core.specs.Sums.{total}
use Rattle.record_core.specs.Numbers.{by_number, flat, found}
use Rattle.record_core.specs.Journal.{next_number, task_count}
use Rattle.record_core.specs.EndSeen.{RunPlan}
use Rattle.record_core.specs.EndSound.{kind_class, members_class, evidence_count, IsOfClass, Suffices}
use Rattle.record_core.specs.declared.rows.ActivationRow.{ActivationRow}
use Rattle.run_model.specs.State.{Outcome, Named, Super, Run}
use Rattle.run_model.specs.Step.{arrives, waits_or_queues, accepts, with_body, with_root, root_request, at_first}
use Rattle.run_model.specs.Placing.{stands_in, count_in, used_from, pool_of, placed, words_of}
use Rattle.run_model.specs.Move.{with_notes, Move, RootMove}
use Rattle.run_model.proofs.ByNumber.{member_at, snoc_cases, none_of_empty}
use Rattle.run_model.proofs.NumbersInvariant.{NumbersStand}
use Rattle.run_model.proofs.CallsInvariant.{CallsStand}
use Rattle.record_core.specs.EndCalls.{IsRowOf}
use Rattle.run_model.proofs.LiveFacts.{task_within}
use Rattle.run_model.proofs.FramesInvariant.{FramesStand}
use Rattle.run_model.proofs.TasksStand.{tasks_of}
use Rattle.run_model.proofs.FramesParts.{renewed_run}
use Rattle.run_model.proofs.FramesKept.{running_stands}
use Rattle.run_model.proofs.UsedSound.{superblock_at, is_place, classes_of}
use Rattle.run_model.proofs.BlocksInvariant.{class_of_call, EvidenceHolds}
use Rattle.run_model.proofs.BlocksParts.{used_member, core_fit}
use Rattle.run_model.proofs.BlocksKept.{BlocksHeld, class_fits, request_fits}
use Rattle.run_model.proofs.EvidenceKept.{word_at, null_sees}
use Rattle.run_model.proofs.CountsKept.{MayAsk, HasRoomLeft, may_ask}
use Rattle.run_model.proofs.Reached.{IsNextRoot}

-- the block of each accepted call is of a class of the program
abbrev pub CallsAsk : Program → List Accepted → Type 0
CallsAsk p calls = (t class : ℕ) (call : Accepted) → by_number calls t ≡ Some call → class_of_call p call ≡ Some class → MayAsk p class

-- at first nothing was accepted
pub ask_first : (p : Program) (plan : RunPlan) → CallsAsk p (at_first plan).calls
ask_first p plan t class call e = absurd (none-some call (sym (none_of_empty t) ∙ e))

-- one more call, whose class is one of the program
ask_snoc : (p : Program) (calls : List Accepted) (call : Accepted) → CallsAsk p calls → ((class : ℕ) → class_of_call p call ≡ Some class → MayAsk p class) → CallsAsk p (calls ++ call ∷ [])
ask_snoc p calls call now new t class other e of_class =
    ⊎_elim (λ old. now t class other old of_class) (λ added. new class (sym (ap (class_of_call p) added.1) ∙ of_class)) (snoc_cases calls call t other e)

-- where a number waits is not read here
ask_arrives : (p : Program) (r : Run) (n : ℕ) (after : Option ℕ) → CallsAsk p r.calls → CallsAsk p (arrives r n after).calls
ask_arrives p r n None now = now
ask_arrives p r n (Some u) now = by (found r.outcomes u)
  where
    by : (o : Option Outcome) → CallsAsk p (waits_or_queues o r n u).calls
    by None = now
    by (Some outcome) = now

-- a further activation asks for no block
none_asked : (p : Program) (t : ℕ) (after : Option ℕ) (class : ℕ) → class_of_call p (Respawn t after) ≡ Some class → MayAsk p class
none_asked p t after class e = absurd (none-some class e)

-- asking for a root keeps this
pub ask_root : (p : Program) → IsWellFormed p → (units : ℕ) (r s : Run) (root : RootLine) → IsNextRoot p r root → CallsAsk p r.calls → RootMove p units r root s → CallsAsk p s.calls
ask_root p formed units r _ root next now (RootMove.named block free placed some) =
    ask_arrives p (with_root (accepts units r (root_request p r root) block) (Named (next_number r.journal))) (next_number r.journal) (root_request p r root).after
    (ask_snoc p r.calls (root_request p r root).call now (λ class e.
    subst (MayAsk p) (same_Some (kind_class p root.kind) class e)
    (class_fits (1 + variables_of p root.kind), λ k of. of.kinds root.kind (formed.roots (length r.roots) root next.there).kind)))
ask_root p formed units r _ root next now (RootMove.refused tag notes free how) = now
ask_root p formed units r _ root next now (RootMove.skipped first e) = now

-- so does each move
pub ask_move : (p : Program) → IsWellFormed p → IsValid p → (c : Columns) (units : ℕ) (r s : Run) → NumbersStand r → FramesStand p r → CallsAsk p r.calls → Move p c units r s → CallsAsk p s.calls
ask_move p formed valid c units r _ held frames now (Move.goes_on t n q next runs goes) = now
ask_move p formed valid c units r _ held frames now (Move.spawned t n to q request retry block runs asks placed some) =
    ask_arrives p (with_body (accepts units r request block) t (OfKind (set_future q to (Some (next_number r.journal))))) (next_number r.journal) request.after
    (ask_snoc p r.calls request.call now (λ class e.
    subst (MayAsk p) (same_Some request.class class (sym (request_fits p c q request to retry asks).1 ∙ e))
    (may_ask p formed valid c r runs.row.after q (running_stands p r held (tasks_of p r frames) t n (OfKind q) runs).seat request to retry asks)))
ask_move p formed valid c units r _ held frames now (Move.respawned t n body to after priority notes runs renews some) =
    ask_arrives p (renewed_run (with_notes r notes) t to after priority) (next_number r.journal) after (ask_snoc p r.calls (Respawn t after) now (none_asked p t after))
ask_move p formed valid c units r _ held frames now (Move.gave t n body v runs answers) = now
ask_move p formed valid c units r _ held frames now (Move.refused t n body tag notes runs refuses) = now
ask_move p formed valid c units r _ held frames now (Move.started n left idle next uncut) = now
ask_move p formed valid c units r _ held frames now (Move.cut_at_start n left row u tag idle next there after cut) = now

-- a sum of members of at least so much each
total_least : {A : Type 0} (f : A → ℕ) (least : ℕ) (xs : List A) → Each xs (λ x. least ≤ f x) → least * length xs ≤ total f xs
total_least f least [] each = omega arith
total_least f least (x ∷ xs) each = omega (arith, each 0 x refl, total_least f least xs (λ at. each (suc at)))

-- where blocks are counted in a superblock, one stands there
counted_one : (units place : ℕ) (bs : List BlockState) → 0 < count_in units place bs → (i : ℕ) × (b : BlockState) × (slice_get bs i ≡ Some b) × (stands_in units place b ≡ true)
counted_one units place [] above = absurd (omega (arith, above))
counted_one units place (b ∷ bs) above = by (stands_in units place b) refl (λ more. counted_one units place bs more) above
  where
    by : (x : Bool) → stands_in units place b ≡ x → (0 < count_in units place bs → (i : ℕ) × (other : BlockState) × (slice_get bs i ≡ Some other) × (stands_in units place other ≡ true))
        → 0 < cond x 1 0 + count_in units place bs → (i : ℕ) × (other : BlockState) × (slice_get (b ∷ bs) i ≡ Some other) × (stands_in units place other ≡ true)
    by true e later above = (0, b, refl, e)
    by false e later above = let (i, other, there, stands) = later (omega (arith, above)) in (suc i, other, there, stands)

module _ (p : Program) (plan : RunPlan) (geometry : IsGeometry plan.superblocks plan.units) (r : Run) (held : NumbersStand r) (calls : CallsStand r) (blocks : BlocksHeld p plan r) (ask : CallsAsk p r.calls) where
  -- a block in use is of a class of the program
  used_asked : (at : ℕ) (b : BlockState) → slice_get (used_from r.roots r.bodies 1 r.blocks) at ≡ Some b → MayAsk p b.class
  used_asked at b e =
      let (k, there, used) = used_member r.roots r.bodies 1 r.blocks at b e in
      let has_block : found r.blocks (suc k) ≡ Some b = ap flat there in
      let (row, row_there, same) = blocks.owned.of_task (suc k) (ap is_some has_block) in
      let within = task_within r.journal.rows (suc k) (row, row_there, same) in
      let (call, is_call) = member_at r.calls (suc k) within.0 (omega (arith, within.1, held.beside.of_calls)) in
      by row k call is_call has_block (calls.row_of (suc k) call row is_call row_there) same
    where
      by : (row : ActivationRow) (k : ℕ) (call : Accepted) → by_number r.calls (suc k) ≡ Some call → found r.blocks (suc k) ≡ Some b → IsRowOf (suc k) call row → row.task ≡ suc k → MayAsk p b.class
      by row k (OfCall call waits) is_call has_block is_row same =
          subst (MayAsk p) (sym (blocks.owned.classes (suc k) (kind_class p call.kind) (OfCall call waits) b is_call has_block refl)) (ask (suc k) (kind_class p call.kind) (OfCall call waits) is_call refl)
      by row k (OfAll members) is_call has_block is_row same =
          subst (MayAsk p) (sym (blocks.owned.classes (suc k) (members_class (length members)) (OfAll members) b is_call has_block refl)) (ask (suc k) (members_class (length members)) (OfAll members) is_call refl)
      by row k (Respawn t waits) is_call has_block is_row same = absurd (omega (arith, is_row.0, is_row.2, same))

  -- so is a superblock that has blocks
  class_here : (k : ℕ) → IsOfClass p k → (at : ℕ) (s : SuperblockState) → slice_get (pool_of plan.units r).superblocks at ≡ Some s → 0 < s.count → s.class ≡ k
  class_here k of at s e above =
      let bs = used_from r.roots r.bodies 1 r.blocks in
      let fit = core_fit plan.units r.roots r.bodies r.blocks r.supers blocks.core in
      let count = unit_count plan.units geometry.units_fit in
      let (super, there, is_s) = superblock_at plan.units bs 0 at r.supers s e in
      let (i, b, has, stands) = counted_one plan.units (0 + at) bs (subst (λ (x : SuperblockState). 0 < x.count) is_s above) in
      let place = fit.placed i b has in
      let same : place.place ≡ at = omega (arith, is_place plan.units r.supers count (classes_of plan.units r.supers bs count fit) b place (0 + at) stands) in
      let is_super : place.super ≡ super = same_Some place.super super (sym place.there ∙ ap (slice_get r.supers) same ∙ there) in
      ap (λ (x : SuperblockState). x.class) is_s ∙ sym (ap (λ (x : Super). x.class) is_super) ∙ sym (ap (λ (x : BlockState). x.class) place.block_is) ∙ (used_asked i b has).1 k of

  -- no room needs more blocks than there are tasks so far
  pub has_room_left : (all : Counts) → Suffices p plan all.tasks → HasRoomLeft p plan.units all r
  has_room_left all suffices class may few none = by suffices
    where
      seen : EvidenceHolds plan r (record { class = class; words = words_of (pool_of plan.units r) })
      seen = null_sees p plan geometry r class may.0 blocks none

      full : (least : ℕ) → Each (words_of (pool_of plan.units r)) (λ (word : SuperWord). least ≤ word.count) → least * plan.superblocks ≤ task_count r.journal.rows
      full least each =
          let enough = total_least evidence_count least (words_of (pool_of plan.units r)) each in
          let same : least * length (words_of (pool_of plan.units r)) ≡ least * plan.superblocks = ap (λ x. least * x) seen.every in
          omega (arith, enough, same, seen.counted)

      one_each : Each (words_of (pool_of plan.units r)) (λ (word : SuperWord). 1 ≤ word.count)
      one_each at word e =
          ⊎_elim
          (λ same. let fills = capacity_fills plan.units class (unit_count plan.units geometry.units_fit) may.0 in omega (arith, same.1, fills.1))
          (λ differ. omega (arith, differ.1))
          (seen.full at word e)

      all_full : (k : ℕ) → IsOfClass p k → Each (words_of (pool_of plan.units r)) (λ (word : SuperWord). capacity plan.units k ≤ word.count)
      all_full k of at word e =
          let is_class : class ≡ k = may.1 k of in
          ⊎_elim
          (λ same. subst (λ x. capacity plan.units x ≤ word.count) is_class same.1)
          (λ differ.
          let (s, has, is_word) = word_at (pool_of plan.units r).superblocks at word e in
          let above : 0 < s.count = subst (λ (w : SuperWord). 0 < w.count) (sym is_word) differ.1 in
          absurd (differ.0 (sym (ap (λ (w : SuperWord). w.class) is_word) ∙ class_here k of at s has above ∙ sym is_class)))
          (seen.full at word e)

      by : Suffices p plan all.tasks → ⊥
      by (inl fits) = let many = full 1 one_each in absurd (omega (arith, many, few, fits))
      by (inr (k, of, fits)) =
          let many = full (capacity plan.units k) (all_full k of) in
          let same : capacity plan.units k * plan.superblocks ≡ plan.superblocks * capacity plan.units k = omega arith in
          absurd (omega (arith, many, same, few, fits))
