-- Each move keeps what the first null answer saw: a pool without room, whose blocks are those of so many tasks.
use Rattle.std.proofs.Common.{◌≡◌, ◌≢◌, ◌⊎◌, ℕ, zero, suc, ◌+◌, ◌<◌, ◌≤◌, Bool, true, false, cond, nat_eq, Option, Some, None, List, [], ◌∷◌, ◌++◌, length, map, slice_get, refl, sym, ◌∙◌, ap, subst, inl, inr, ⊎_elim, arith}
use Rattle.std.specs.Prelude.{IsSome}
use Rattle.std.specs.Option.{is_some}
use Rattle.std.proofs.lemmas.Bool.{eqb-true, ne_eqb}
use Rattle.std.proofs.lemmas.Option.{none-some, same_Some}
use Rattle.task_syntax.specs.declared.value.Priority.{Priority}
use Rattle.task_syntax.specs.declared.program.Root.{Root as RootLine}
use Rattle.task_syntax.specs.declared.program.Program.{Program}
use Rattle.task_syntax.specs.declared.columns.Columns.{Columns}
use Rattle.task_meaning.specs.Worths.{Respawn}
use Rattle.task_meaning.specs.Frame.{set_future, variables_of}
use Rattle.frame_code.specs.Words.{OfKind}
use Rattle.kt_words.specs.Ranges.{IsGeometry}
use Rattle.kt_words.specs.Capacity.{IsWithoutRoom}
use Rattle.kt_words.specs.declared.super_word.SuperWord.{SuperWord}
use Rattle.pool_core.specs.Blocks.{BlockState}
use Rattle.pool_core.specs.Superblocks.{SuperblockState}
use Rattle.record_core.specs.Sums.{total}
use Rattle.record_core.specs.Numbers.{by_number, found, HasTask}
use Rattle.record_core.specs.Journal.{next_number, started_rows, tasks_from, task_count}
use Rattle.record_core.specs.EndSeen.{RunPlan}
use Rattle.record_core.specs.EndSound.{kind_class, evidence_count}
use Rattle.record_core.specs.EndFaithful.{HeldBlocks}
use Rattle.record_core.specs.declared.rows.ActivationRow.{ActivationRow}
use Rattle.record_core.specs.declared.rows.CutTag.{CutTag}
use Rattle.run_model.specs.State.{Body, Outcome, RootWord, Named, Super, Evidence, Run}
use Rattle.run_model.specs.Placing.{pool_of, placed, is_in_use, used_from, stands_in, count_in, superblocks_from, word_of, words_of}
use Rattle.run_model.specs.Step.{arrives, waits_or_queues, accepts, draws, with_body, with_root, root_request, evidence_or, at_first}
use Rattle.run_model.specs.Move.{Notes, with_notes, Renews, Refuses, RefusesRoot, Move, RootMove}
use Rattle.run_model.proofs.UsedSound.{superblocks_length}
use Rattle.run_model.proofs.BlocksKept.{BlocksHeld, held_sound, held_full, class_fits, request_fits}
use Rattle.run_model.proofs.BlocksInvariant.{EvidenceHolds, EvidenceStands}
use Rattle.run_model.proofs.Reached.{IsNextRoot}

-- the members of a list that a function made
pub word_at : (superblocks : List SuperblockState) (at : ℕ) (word : SuperWord) → slice_get (map word_of superblocks) at ≡ Some word → (s : SuperblockState) × (slice_get superblocks at ≡ Some s) × (word_of s ≡ word)
word_at [] at word e = absurd (none-some word e)
word_at (s ∷ superblocks) zero word e = (s, refl, same_Some (word_of s) word e)
word_at (s ∷ superblocks) (suc at) word e = word_at superblocks at word e

words_length : (superblocks : List SuperblockState) → length (map word_of superblocks) ≡ length superblocks
words_length [] = refl
words_length (s ∷ superblocks) = ap suc (words_length superblocks)

-- a block counts in one superblock at most
one_place : (units : ℕ) (b : BlockState) (bs : List BlockState) (from : ℕ) (supers : List Super)
    → total evidence_count (map word_of (superblocks_from units (b ∷ bs) from supers)) ≤ total evidence_count (map word_of (superblocks_from units bs from supers)) + 1
one_place units b bs from [] = omega arith
one_place units b bs from (super ∷ supers) = by (stands_in units from b) refl (one_place units b bs (suc from) supers)
  where
    later : (from : ℕ) (supers : List Super) → ((place : ℕ) → from ≤ place → stands_in units place b ≡ false)
        → total evidence_count (map word_of (superblocks_from units (b ∷ bs) from supers)) ≡ total evidence_count (map word_of (superblocks_from units bs from supers))
    later from [] none = refl
    later from (super ∷ supers) none =
        let here : ◌≡◌ {A = ℕ} (cond (stands_in units from b) 1 0) 0 = ap (λ x. cond x 1 0) (none from (omega arith)) in
        omega (arith, here, later (suc from) supers (λ place le. none place (omega arith)))

    by : (x : Bool) → stands_in units from b ≡ x → total evidence_count (map word_of (superblocks_from units (b ∷ bs) (suc from) supers)) ≤ total evidence_count (map word_of (superblocks_from units bs (suc from) supers)) + 1
        → (cond x 1 0 + count_in units from bs) + total evidence_count (map word_of (superblocks_from units (b ∷ bs) (suc from) supers))
        ≤ (count_in units from bs + total evidence_count (map word_of (superblocks_from units bs (suc from) supers))) + 1
    by false e rest = omega (arith, rest)
    by true e rest =
        let none = later (suc from) supers (λ place le. ne_eqb (Rattle.std.proofs.Common.◌/◌ b.unit units) place (λ same. absurd (omega (arith, le, same, eqb-true (Rattle.std.proofs.Common.◌/◌ b.unit units) from e)))) in
        omega (arith, none)

counts_within : (units : ℕ) (bs : List BlockState) (supers : List Super) → total evidence_count (map word_of (superblocks_from units bs 0 supers)) ≤ length bs
counts_within units [] supers = omega (arith, none 0 supers)
  where
    none : (from : ℕ) (supers : List Super) → total evidence_count (map word_of (superblocks_from units [] from supers)) ≡ 0
    none from [] = refl
    none from (super ∷ supers) = omega (arith, none (suc from) supers)
counts_within units (b ∷ bs) supers = omega (arith, counts_within units bs supers, one_place units b bs 0 supers)

-- the blocks in use are those of tasks
used_within : (roots : List RootWord) (bodies : List (Option Body)) (t : ℕ) (blocks : List (Option BlockState)) (rows : List ActivationRow)
    → ((k : ℕ) (b : BlockState) → slice_get blocks k ≡ Some (Some b) → (row : ActivationRow) × (slice_get rows k ≡ Some row) × (row.task ≡ t + k)) → length (used_from roots bodies t blocks) ≤ tasks_from t rows
used_within roots bodies t [] rows of_task = omega arith
used_within roots bodies t (None ∷ blocks) [] of_task =
    let rest = used_within roots bodies (suc t) blocks [] (λ k b e. let (row, there, same) = of_task (suc k) b e in absurd (none-some row there)) in omega (arith, rest)
used_within roots bodies t (None ∷ blocks) (row ∷ rows) of_task =
    let rest = used_within roots bodies (suc t) blocks rows (λ k b e. let (other, there, same) = of_task (suc k) b e in (other, there, omega (arith, same))) in omega (arith, rest)
used_within roots bodies t (Some block ∷ blocks) [] of_task = let (row, there, same) = of_task 0 block refl in absurd (none-some row there)
used_within roots bodies t (Some block ∷ blocks) (row ∷ rows) of_task =
    let rest = used_within roots bodies (suc t) blocks rows (λ k b e. let (other, there, same) = of_task (suc k) b e in (other, there, omega (arith, same))) in
    let (first, there, same) = of_task 0 block refl in
    let is_first : row.task ≡ first.task = ap (λ (k : ActivationRow). k.task) (same_Some row first there) in
    let counts : ◌≡◌ {A = ℕ} (cond (nat_eq row.task t) 1 0) 1 = ap (λ x. cond x 1 0) (Rattle.std.proofs.Common.eq-eqb row.task t (omega (arith, is_first, same))) in
    by (is_in_use roots bodies t) rest counts
  where
    by : (x : Bool) → length (used_from roots bodies (suc t) blocks) ≤ tasks_from (suc t) rows → ◌≡◌ {A = ℕ} (cond (nat_eq row.task t) 1 0) 1
        → length (cond x (block ∷ used_from roots bodies (suc t) blocks) (used_from roots bodies (suc t) blocks)) ≤ cond (nat_eq row.task t) 1 0 + tasks_from (suc t) rows
    by true rest counts = omega (arith, rest, counts)
    by false rest counts = omega (arith, rest)

-- more rows have no fewer tasks
tasks_snoc : (n : ℕ) (rows : List ActivationRow) (row : ActivationRow) → tasks_from n rows ≤ tasks_from n (rows ++ row ∷ [])
tasks_snoc n [] row = omega arith
tasks_snoc n (first ∷ rows) row = omega (arith, tasks_snoc (suc n) rows row)

tasks_put : (n k : ℕ) (rows : List ActivationRow) (old new : ActivationRow) → slice_get rows k ≡ Some old → new.task ≡ old.task → tasks_from n (Rattle.std.specs.Prelude.slice_set rows k new) ≡ tasks_from n rows
tasks_put n k [] old new e same = absurd (none-some old e)
tasks_put n zero (first ∷ rows) old new e same = ap (λ t. cond (nat_eq t n) 1 0 + tasks_from (suc n) rows) (same ∙ sym (ap (λ (x : ActivationRow). x.task) (same_Some first old e)))
tasks_put n (suc k) (first ∷ rows) old new e same = ap (λ x. cond (nat_eq first.task n) 1 0 + x) (tasks_put (suc n) k rows old new e same)

pub tasks_started : (rows : List ActivationRow) (n stamp : ℕ) → task_count (started_rows rows n stamp (by_number rows n)) ≡ task_count rows
tasks_started rows n stamp = by n (by_number rows n) refl
  where
    by : (n : ℕ) (o : Option ActivationRow) → by_number rows n ≡ o → task_count (started_rows rows n stamp o) ≡ task_count rows
    by n None e = refl
    by zero (Some row) e = refl
    by (suc k) (Some row) e = tasks_put 1 k rows row (record row { start = Some stamp }) e refl

module _ (p : Program) (plan : RunPlan) (geometry : IsGeometry plan.superblocks plan.units) where
  -- what a null answer sees
  pub null_sees : (r : Run) (class : ℕ) → class ≤ 3 → BlocksHeld p plan r → placed (pool_of plan.units r) class ≡ None → EvidenceHolds plan r (record { class = class; words = words_of (pool_of plan.units r) })
  null_sees r class fits now e = record {
    class_fits = fits;
    every = words_length (pool_of plan.units r).superblocks ∙ superblocks_length plan.units (used_from r.roots r.bodies 1 r.blocks) 0 r.supers ∙ now.supers;
    classes = λ at word there. let (s, has, is_word) = word_at (pool_of plan.units r).superblocks at word there in
        subst (λ (w : SuperWord). w.class ≤ 3) is_word ((held_sound p plan geometry r now).kept at s has).class_fits;
    full = λ at word there. let (s, has, is_word) = word_at (pool_of plan.units r).superblocks at word there in
        subst (λ (w : SuperWord). IsWithoutRoom plan.units class w.class w.count) is_word (held_full p plan geometry r class fits now e at s has);
    counted = let few = counts_within plan.units (used_from r.roots r.bodies 1 r.blocks) r.supers in
        let tasks = used_within r.roots r.bodies 1 r.blocks r.journal.rows of_task in omega (arith, few, tasks);
    held = λ at word there. let (s, has, is_word) = word_at (pool_of plan.units r).superblocks at word there in
        let kept = (held_sound p plan geometry r now).kept at s has in
        subst (HeldBlocks plan.units) is_word (record { fits = kept.within; given = kept.ever_counts });
  }
    where
      of_task : (k : ℕ) (b : BlockState) → slice_get r.blocks k ≡ Some (Some b) → (row : ActivationRow) × (slice_get r.journal.rows k ≡ Some row) × (row.task ≡ 1 + k)
      of_task k b e =
          let (row, there, same) = now.owned.of_task (suc k) (ap is_some (ap Rattle.record_core.specs.Numbers.flat e)) in (row, there, omega (arith, same))

  -- the evidence of before, or of this null answer
  evidence_counted : (r : Run) (class : ℕ) → class ≤ 3 → BlocksHeld p plan r → placed (pool_of plan.units r) class ≡ None → EvidenceStands plan r → (e : Evidence) → evidence_or r.evidence plan.units r class ≡ Some e → EvidenceHolds plan r e
  evidence_counted r class fits now none stands e is_e = by r.evidence refl is_e
    where
      by : (o : Option Evidence) → r.evidence ≡ o → evidence_or o plan.units r class ≡ Some e → EvidenceHolds plan r e
      by None was f = subst (EvidenceHolds plan r) (same_Some (record { class = class; words = words_of (pool_of plan.units r) }) e f) (null_sees r class fits now none)
      by (Some first) was f = subst (EvidenceHolds plan r) (same_Some first e f) (stands first was)

  -- more rows, the same evidence
  held_on : (r s : Run) (e : Evidence) → task_count r.journal.rows ≤ task_count s.journal.rows → EvidenceHolds plan r e → EvidenceHolds plan s e
  held_on r s e more was = record { class_fits = was.class_fits; every = was.every; classes = was.classes; full = was.full; counted = omega (arith, was.counted, more); held = was.held }

  module _ (c : Columns) where
    noted_renewed : (r : Run) (n : ℕ) (body to : Body) (after : Option ℕ) (priority : Priority) (notes : Notes) → Renews p c plan.units r n body to after priority notes → BlocksHeld p plan r → EvidenceStands plan r
        → (e : Evidence) → notes.evidence ≡ Some e → EvidenceHolds plan r e
    noted_renewed r n _ _ _ _ _ (Renews.again q line target waits there e) now stands = stands
    noted_renewed r n _ _ _ _ _ (Renews.retries q request to how none) now stands = evidence_counted r request.class (request_fits p c q request to true how).0 now none stands
    noted_renewed r n _ _ _ _ _ (Renews.behind members next u e) now stands = stands

    noted_refused : (r : Run) (n : ℕ) (body : Body) (tag : CutTag) (notes : Notes) → Refuses p c plan.units r n body tag notes → BlocksHeld p plan r → EvidenceStands plan r → (e : Evidence) → notes.evidence ≡ Some e → EvidenceHolds plan r e
    noted_refused r n _ _ _ (Refuses.no_block q request to how none) now stands = evidence_counted r request.class (request_fits p c q request to false how).0 now none stands
    noted_refused r n _ _ _ (Refuses.no_number q request to retry block how e none) now stands = stands
    noted_refused r n _ _ _ (Refuses.no_renewal body to after priority notes how none) now stands = noted_renewed r n body to after priority notes how now stands

  noted_root : (r : Run) (root : RootLine) (tag : CutTag) (notes : Notes) → RefusesRoot p plan.units r root tag notes → BlocksHeld p plan r → EvidenceStands plan r → (e : Evidence) → notes.evidence ≡ Some e → EvidenceHolds plan r e
  noted_root r root _ _ (RefusesRoot.no_block none) now stands = evidence_counted r (kind_class p root.kind) (class_fits (1 + variables_of p root.kind)) now none stands
  noted_root r root _ _ (RefusesRoot.no_number block e none) now stands = stands

  -- an arrival notes nothing
  arrives_evidence : (r : Run) (n : ℕ) (after : Option ℕ) → EvidenceStands plan r → EvidenceStands plan (arrives r n after)
  arrives_evidence r n None stands = λ e is_e. held_on r (arrives r n None) e (omega arith) (stands e is_e)
  arrives_evidence r n (Some u) stands = by (found r.outcomes u)
    where
      by : (o : Option Outcome) → EvidenceStands plan (waits_or_queues o r n u)
      by None = λ e is_e. held_on r (waits_or_queues None r n u) e (omega arith) (stands e is_e)
      by (Some outcome) = λ e is_e. held_on r (waits_or_queues (Some outcome) r n u) e (omega arith) (stands e is_e)

  pub evidence_first : EvidenceStands plan (at_first plan)
  evidence_first e is_e = absurd (none-some e is_e)

  pub evidence_root : (r s : Run) (root : RootLine) → IsNextRoot p r root → BlocksHeld p plan r → EvidenceStands plan r → RootMove p plan.units r root s → EvidenceStands plan s
  evidence_root r _ root next now stands (RootMove.named block free placed some) =
      let request = root_request p r root in
      arrives_evidence (with_root (accepts plan.units r request block) (Named (next_number r.journal))) (next_number r.journal) request.after
      (λ e is_e. held_on r (with_root (accepts plan.units r request block) (Named (next_number r.journal))) e (tasks_snoc 1 r.journal.rows (record { task = next_number r.journal; after = request.after; start = None })) (stands e is_e))
  evidence_root r _ root next now stands (RootMove.refused tag notes free how) = λ e is_e. held_on r (with_root (with_notes r notes) (Rattle.run_model.specs.State.Refused tag)) e (omega arith) (noted_root r root tag notes how now stands e is_e)
  evidence_root r _ root next now stands (RootMove.skipped first e) = λ f is_f. held_on r (with_root r (Rattle.run_model.specs.State.Skipped first.0 first.1)) f (omega arith) (stands f is_f)

  pub evidence_move : (c : Columns) (r s : Run) → BlocksHeld p plan r → EvidenceStands plan r → Move p c plan.units r s → EvidenceStands plan s
  evidence_move c r s now stands (Move.goes_on t n q next runs goes) = λ e is_e. held_on r s e (omega arith) (stands e is_e)
  evidence_move c r _ now stands (Move.spawned t n to q request retry block runs asks placed some) =
      arrives_evidence (with_body (accepts plan.units r request block) t (OfKind (set_future q to (Some (next_number r.journal))))) (next_number r.journal) request.after
      (λ e is_e. held_on r (with_body (accepts plan.units r request block) t (OfKind (set_future q to (Some (next_number r.journal))))) e (tasks_snoc 1 r.journal.rows (record { task = next_number r.journal; after = request.after; start = None })) (stands e is_e))
  evidence_move c r _ now stands (Move.respawned t n body to after priority notes runs renews some) =
      arrives_evidence (with_body (record (draws (with_notes r notes) (Some t) after priority (Respawn t after) None None) { running = None }) t to) (next_number r.journal) after
      (λ e is_e. held_on r (with_body (record (draws (with_notes r notes) (Some t) after priority (Respawn t after) None None) { running = None }) t to) e (tasks_snoc 1 r.journal.rows (record { task = t; after = after; start = None }))
      (noted_renewed c r n body to after priority notes renews now stands e is_e))
  evidence_move c r s now stands (Move.gave t n body v runs answers) = λ e is_e. held_on r s e (omega arith) (stands e is_e)
  evidence_move c r s now stands (Move.refused t n body tag notes runs refuses) = λ e is_e. held_on r s e (omega arith) (noted_refused c r n body tag notes refuses now stands e is_e)
  evidence_move c r s now stands (Move.started n left idle next uncut) = λ e is_e. held_on r s e (omega (arith, tasks_started r.journal.rows n (r.journal.stamps + 1))) (stands e is_e)
  evidence_move c r s now stands (Move.cut_at_start n left row u tag idle next there after cut) = λ e is_e. held_on r s e (omega (arith, tasks_started r.journal.rows n (r.journal.stamps + 1))) (stands e is_e)
