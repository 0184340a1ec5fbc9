-- What the records are like after some of them were woken, and after one was completed.
use Rattle.std.proofs.Common.{◌≡◌, ℕ, zero, suc, ◌≤◌, Option, Some, List, [], ◌∷◌, length, map, slice_get, refl, sym, ◌∙◌, ap, subst, ⊎_elim, arith}
use Rattle.std.proofs.lemmas.Bool.{cases_eq}
use Rattle.task_syntax.specs.declared.value.Priority.{Priority}
use Rattle.record_core.specs.declared.rows.CutTag.{CutTag}
use Rattle.run_model.specs.State.{Queues, queued}
use Rattle.run_model.specs.Step.{all_queued, priority_of}
use Rattle.plain_state.specs.declared.record.Record.{Record}
use Rattle.plain_state.specs.Store.{StoreState, changed, changed_at, priority_in, queued_at, with_cut, woken, Chained}
use Rattle.plain_state.specs.Sees.{times}
use Rattle.plain_state.proofs.ChangedRecords.{changed_same, changed_other, changed_length}
use Rattle.plain_state.proofs.Chains.{chained_kept}
use Rattle.plain_state.proofs.References.{times_member}
use Rattle.plain_state.proofs.QueueRoom.{cons_parts, times_here, times_other, times_later}
use Rattle.plain_state.proofs.ReadySeen.{QueuesSeen, AreNames, queued_seen}

-- after some were woken

-- what stands beside the records and the queues is the same
pub record SameBeside (s s' : StoreState) : Type 0 where
  pub pool : s'.pool ≡ s.pool
  pub blocks : s'.blocks ≡ s.blocks
  pub words : s'.words ≡ s.words
  pub size : length s'.records ≡ length s.records

-- those that were woken know the cut, and the others are what they were
pub record Woken (cut : Option CutTag) (units : List ℕ) (s s' : StoreState) : Type 0 where
  pub beside : SameBeside s s'
  pub here : (unit : ℕ) (k : Record) → 1 ≤ times unit units → slice_get s.records unit ≡ Some k → slice_get s'.records unit ≡ Some (with_cut cut k)
  pub other : (unit : ℕ) → times unit units ≡ 0 → slice_get s'.records unit ≡ slice_get s.records unit

-- one more in front
woken_more : (cut : Option CutTag) (u : ℕ) (units : List ℕ) (s : StoreState) → Woken cut units (queued_at u (changed (with_cut cut) u s)) (woken cut units (queued_at u (changed (with_cut cut) u s))) → Woken cut (u ∷ units) s (woken cut (u ∷ units) s)
woken_more cut u units s rest = record {
  beside = record {
    pool = rest.beside.pool;
    blocks = rest.beside.blocks;
    words = rest.beside.words;
    size = rest.beside.size ∙ changed_length (with_cut cut) u s.records;
  };
  here = here;
  other = other;
}
  where
    later : (unit : ℕ) (k : Record) (n : ℕ) → times unit units ≡ n → slice_get (changed_at (with_cut cut) u s.records) unit ≡ Some (with_cut cut k) → slice_get (woken cut (u ∷ units) s).records unit ≡ Some (with_cut cut k)
    later unit k zero e there = rest.other unit e ∙ there
    later unit k (suc n) e there = rest.here unit (with_cut cut k) (omega (arith, e)) there

    here : (unit : ℕ) (k : Record) → 1 ≤ times unit (u ∷ units) → slice_get s.records unit ≡ Some k → slice_get (woken cut (u ∷ units) s).records unit ≡ Some (with_cut cut k)
    here unit k some there =
        ⊎_elim
        (λ same. let now = changed_same (with_cut cut) u s.records k (ap (slice_get s.records) same ∙ there) in
        later unit k (times unit units) refl (ap (slice_get (changed_at (with_cut cut) u s.records)) (sym same) ∙ now))
        (λ differ. rest.here unit k (let skip = times_other unit u units differ in omega (arith, skip, some)) (changed_other (with_cut cut) u unit s.records (λ e. differ (sym e)) ∙ there))
        (cases_eq u unit)

    other : (unit : ℕ) → times unit (u ∷ units) ≡ 0 → slice_get (woken cut (u ∷ units) s).records unit ≡ slice_get s.records unit
    other unit none =
        ⊎_elim (λ same. let one : times unit (u ∷ units) ≡ suc (times unit units) = ap (λ w. times unit (w ∷ units)) same ∙ times_here unit units in absurd (omega (arith, one, none)))
        (λ differ. rest.other unit (let skip = times_other unit u units differ in omega (arith, skip, none)) ∙ changed_other (with_cut cut) u unit s.records (λ e. differ (sym e)))
        (cases_eq u unit)

-- each that was woken knows the cut, and the others are what they were
pub woken_records : (cut : Option CutTag) (units : List ℕ) (s : StoreState) → Woken cut units s (woken cut units s)
woken_records cut [] s = record {
  beside = record { pool = refl; blocks = refl; words = refl; size = refl };
  here = λ unit k some there. absurd (omega (arith, some));
  other = λ unit none. refl;
}
woken_records cut (u ∷ units) s = woken_more cut u units s (woken_records cut units (queued_at u (changed (with_cut cut) u s)))

-- the queues of those that were woken, each with the priority of its number
module _ (f : ℕ → Option ℕ) (priorities : List Priority) (cut : Option CutTag) where
  -- where names and priorities are those of the numbers, so they are once all have joined
  pub woken_queues : (ns us : List ℕ) (s : StoreState) (q : Queues) → AreNames f us ns
      → ((n u : ℕ) → 1 ≤ times n ns → f n ≡ Some u → (k : Record) × (slice_get s.records u ≡ Some k) × (k.priority ≡ priority_of priorities n))
      → QueuesSeen f s.ready q → QueuesSeen f (woken cut us s).ready (all_queued priorities ns q)
  woken_queues [] [] s q e has seen = seen
  woken_queues [] (u ∷ us) s q e has seen = absurd (differ e)
    where
      differ : ◌≡◌ {A = List (Option ℕ)} [] (Some u ∷ map (λ v. Some v) us) → ⊥
      differ h = cc
  woken_queues (n ∷ ns) [] s q e has seen = absurd (differ e)
    where
      differ : ◌≡◌ {A = List (Option ℕ)} (f n ∷ map f ns) [] → ⊥
      differ h = cc
  woken_queues (n ∷ ns) (u ∷ us) s q e has seen =
      let (head, tail) = cons_parts (f n) (Some u) (map f ns) (map (λ w. Some w) us) e in
      let (k, there, as_priority) = has n u (let one = times_here n ns in omega (arith, one)) head in
      let now : priority_in (slice_get (changed_at (with_cut cut) u s.records) u) ≡ priority_of priorities n = ap priority_in (changed_same (with_cut cut) u s.records k there) ∙ as_priority in
      woken_queues ns us (queued_at u (changed (with_cut cut) u s)) (queued (priority_of priorities n) n q) tail
      (λ m v there named. by m v (has m v (times_later m n ns there) named))
      (subst (λ pr. QueuesSeen f (queued pr u s.ready) (queued (priority_of priorities n) n q)) (sym now) (queued_seen f (priority_of priorities n) s.ready q u n head seen))
    where
      by : (m v : ℕ) → (k : Record) × (slice_get s.records v ≡ Some k) × (k.priority ≡ priority_of priorities m) → (k : Record) × (slice_get (changed_at (with_cut cut) u s.records) v ≡ Some k) × (k.priority ≡ priority_of priorities m)
      by m v (k, there, same) =
          ⊎_elim (λ at. (with_cut cut k, ap (slice_get (changed_at (with_cut cut) u s.records)) at ∙ changed_same (with_cut cut) u s.records k (sym (ap (slice_get s.records) at) ∙ there), same))
          (λ differ. (k, changed_other (with_cut cut) u v s.records differ ∙ there, same)) (cases_eq v u)

-- a chain goes on where each of its records names the same next one
pub chained_same : (xs ys : List Record) (first : Option ℕ) (units : List ℕ)
    → ((u : ℕ) (k : Record) → 1 ≤ times u units → slice_get xs u ≡ Some k → (k' : Record) × (slice_get ys u ≡ Some k') × (k'.next ≡ k.next)) → Chained xs first units → Chained ys first units
chained_same xs ys first units same chain = chained_kept xs ys first units (λ place at e k there. same at k (times_member at units place e) there) chain
