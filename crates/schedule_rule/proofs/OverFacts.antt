-- Where a pass saw nothing living, all is over; and what running frames hold are records.
use Rattle.std.proofs.Common.{◌≡◌, ◌∙◌, ℕ, zero, suc, ◌<◌, ◌≤◌, ◌==◌, ◌&&◌, Bool, true, false, Option, Some, List, [], ◌∷◌, map, length, refl, sym, ap, subst, true≢false, arith}
use Rattle.std.specs.Prelude.{cond, nat_le, slice_index}
use Rattle.std.proofs.lemmas.Bool.{and_from, eq-eqb, eqb-true, le-leb}
use Rattle.record_core.specs.Sums.{total}
use Rattle.record_core.specs.Counting.{At, Has, one_if, passing, times}
use Rattle.record_core.proofs.BelowFacts.{below-bounded, below-member}
use Rattle.record_core.proofs.CountFacts.{times-some}
use Rattle.record_core.proofs.NumberFacts.{member_at}
use Rattle.record_core.proofs.TotalFacts.{none_there, total-bounded, total-map, total-member, total-same}
use Rattle.kt_words.specs.StateWords.{phase_of, number_of}
use Rattle.task_syntax.specs.declared.program.Program.{Program}
use Rattle.task_meaning.specs.Meant.{future_at}
use Rattle.frame_code.specs.Names.{present}
use Rattle.frame_code.specs.Words.{BodyOf, OfKind, OfMembers, body_at}
use Rattle.table_core.specs.Addresses.{Mem, super, state, task, root, sum, units_of}
use Rattle.table_core.specs.Asking.{Asker, OfRoot, OfTask, Drawn, Cut, IsLimit}
use Rattle.table_core.specs.Holdings.{Run, RootSays, Record, Null, Limit, Skipped}
use Rattle.table_core.specs.Own.{record_words}
use Rattle.table_core.specs.References.{is_live, is_record, is_saved}
use Rattle.table_core.specs.Roots.{Turn, root_word, word_at, asked_in}
use Rattle.table_core.specs.Story.{Story, End, WasCut}
use Rattle.table_core.specs.Parts.{own, roots, sights, seen as table_seen}
use Rattle.table_core.specs.declared.setup.Setup.{Setup}
use Rattle.table_core.specs.declared.view.View.{View}
use Rattle.table_core.proofs.ClassFacts.{saved-phase}
use Rattle.table_core.proofs.ListFacts.{at_map, map_at, same_some}
use Rattle.table_core.proofs.OwnFacts.{runs-counts, runs-phase}
use Rattle.table_core.proofs.ReferenceBound.{units-few}
use Rattle.table_core.proofs.SightFacts.{sighted}
use Rattle.table_core.proofs.StandingFacts.{total-some}
use Rattle.schedule_rule.specs.Askers.{IsAsker}
use Rattle.schedule_rule.specs.Calls.{task_of, ends_of, IsNumber, IsTaskOf, IsComplete, Ended}
use Rattle.schedule_rule.specs.Frames.{needed, HeldAmong, Covers, BagSound}
use Rattle.schedule_rule.specs.Limits.{IsMet}
use Rattle.schedule_rule.specs.Numbers.{in_state, in_hand, in_hands, saved_at}
use Rattle.schedule_rule.specs.OverLaws.{IsAllOver, HoldsUnit}
use Rattle.schedule_rule.specs.Parts.{askers, bags, limits, live, owners, places, quiet, seen, AllSay}
use Rattle.schedule_rule.specs.Rows.{drawn_at}
use Rattle.schedule_rule.proofs.CoveringFacts.{times-present, weight}
use Rattle.schedule_rule.proofs.LiveFacts.{asked-few}
use Rattle.schedule_rule.proofs.StoryFacts.{is-number}

-- a list without members is empty
none-left : {A : Type 0} (xs : List A) → ((x : A) → Has x xs → ⊥) → xs ≡ []
none-left [] none = refl
none-left (x ∷ xs) none = absurd (none x (0, refl))

-- what waits or is ready lives
saved-lives : (word : ℕ) → is_saved word ≡ true → is_live word ≡ true
saved-lives word e = let p = saved-phase word e in and_from _ _ (le-leb 2 (phase_of word) p.0) (le-leb (phase_of word) 4 (omega (arith, p.1)))

module _ (g : Setup) (s : Story) (m : Mem) (vs : List View) (l : AllSay g s m vs) (id : ℕ) (v : View) (at : At vs id v) (some : 1 ≤ v.quiet) where
  abbrev states : ℕ → ℕ
  states u = m (state u)

  -- nothing lives, and all roots are asked for
  is_quiet : (m (sum 1) ≡ 0) × (asked_in (λ r. m (root r)) ≡ g.plan.roots)
  is_quiet = l.schedule quiet id v.quiet (at_map (seen quiet) vs id v at) some

  -- so no record lives
  none-live : (u : ℕ) → u < units_of g.plan → is_live (states u) ≡ false
  none-live u near = by (is_live (states u)) refl
    where
      by : (b : Bool) → is_live (states u) ≡ b → is_live (states u) ≡ false
      by false e = e
      by true e = absurd (omega (arith, is_quiet.0, l.schedule live, below-member (λ w. one_if (is_live (states w))) (units_of g.plan) u near, ap one_if e))

  -- and none waits or is ready
  none-saved : (u : ℕ) → u < units_of g.plan → is_saved (states u) ≡ false
  none-saved u near = by (is_saved (states u)) refl
    where
      by : (b : Bool) → is_saved (states u) ≡ b → is_saved (states u) ≡ false
      by false e = e
      by true e = absurd (true≢false (sym (saved-lives (states u) e) ∙ none-live u near))

  -- no hand has a run
  none-runs : (k : ℕ) (x : View) → At vs k x → (r : Run) → Has r x.runs → ⊥
  none-runs k x there r has =
      let p = runs-phase g.plan (λ i. m (super i)) states (record_words m) (map (table_seen own) vs) (l.table own) k (table_seen own x) (at_map (table_seen own) vs k x there) r.unit (runs-counts x.runs r has) in
      true≢false (sym (ap (λ (n : ℕ). nat_le 2 n && nat_le n 4) p.1) ∙ none-live r.unit p.0)

  -- and none has a number that is drawn and not placed: no run asks, and no root is left
  none-drawn : (k : ℕ) (x : View) → At vs k x → (d : Drawn) → Has d x.drawn → ⊥
  none-drawn k x there d has = by d.asker ((l.schedule askers k (seen askers x) (at_map (seen askers) vs k x there)).asker has.0 d has.1).0
    where
      by : (a : Asker) → IsAsker s.calls g.plan (seen askers x) d.number a → ⊥
      by (OfTask t) is = none-runs k x there is.0 is.1
      by (OfRoot r) is = omega (
        arith,
        is_quiet.1,
        is.2,
        is.3,
        asked-few (λ j. m (root j)) is.0 (λ j low. (l.table roots).says k (table_seen roots x) (at_map (table_seen roots) vs k x there) is.1.0 is.0 is.1.1 j low),
      )

  runs-empty : (k : ℕ) (x : View) → At vs k x → x.runs ≡ []
  runs-empty k x there = none-left x.runs (none-runs k x there)

  drawn-empty : (k : ℕ) (x : View) → At vs k x → x.drawn ≡ []
  drawn-empty k x there = none-left x.drawn (none-drawn k x there)

  -- each accepted number was taken
  all-taken : (n : ℕ) → IsNumber s.calls n → total (λ (x : View). times n x.taken) vs ≡ 1
  all-taken n is = omega (
    arith,
    l.schedule places n,
    ap one_if (is-number s.calls n is),
    below-bounded (in_state states n) 0 (units_of g.plan) (λ u near. omega (arith, ap (λ (b : Bool). cond b (one_if (number_of (states u) == n)) 0) (none-saved u near))),
    total-map (in_hand n) (seen places) vs,
    total-same (λ (x : View). in_hand n (seen places x)) (λ (x : View). times n x.taken) vs (λ k x there. omega (arith, ap (drawn_at n) (drawn-empty k x there))),
  )

  -- each accepted task has ended
  all-ended : (t : ℕ) → IsTaskOf s.calls t → IsComplete s.ends t
  all-ended t is =
      let one : 1 ≤ ends_of t s.ends = omega (
        arith,
        (l.schedule owners).once t is,
        below-bounded (saved_at states (λ u. m (task u)) t) 0 (units_of g.plan) (λ u near. omega (arith, ap (λ (b : Bool). cond b (one_if (m (task u) == t)) 0) (none-saved u near))),
        total-map (in_hands s.calls t) (seen owners) vs,
        total-bounded (λ (x : View). in_hands s.calls t (seen owners x)) 0 vs (λ k x there. omega (
          arith,
          ap (drawn_at t) (drawn-empty k x there),
          ap (passing (λ (r : Run). task_of s.calls r.number == t)) (runs-empty k x there),
        )),
      ) in
      let e = total-some (λ (e : End). one_if (e.task == t)) s.ends one in
      ((e.1).outcome, (e.0, e.2 ∙ ap (λ (k : ℕ). Some (record { task = k; outcome = (e.1).outcome })) (eqb-true (e.1).task t (passes ((e.1).task == t) e.3))))
    where
      passes : (b : Bool) → 1 ≤ one_if b → b ≡ true
      passes true some = refl
      passes false some = absurd (omega (arith, some))

-- where a pass saw nothing living once all roots were asked for, all is over
pub quiet-is_over : (g : Setup) (s : Story) (m : Mem) (vs : List View) (id : ℕ) (v : View) → AllSay g s m vs → At vs id v → 1 ≤ v.quiet → IsAllOver g s m vs
quiet-is_over g s m vs id v l at some = record {
  tasks = all-ended g s m vs l id v at some;
  numbers = all-taken g s m vs l id v at some;
  records = none-live g s m vs l id v at some;
  runs = runs-empty g s m vs l id v at some;
  drawn = drawn-empty g s m vs l id v at some;
}

-- a variable that names a unit is one of those that name it
names-unit : (f : ℕ → Option ℕ) (u x : ℕ) → f x ≡ Some u → (xs : List ℕ) → Has x xs → 1 ≤ times u (present (map f xs))
names-unit f u x e [] has = absurd (none_there x has.1)
names-unit f u x e (y ∷ xs) has = by (names-unit f u x e xs) has.0 has.1
  where
    by : (Has x xs → 1 ≤ times u (present (map f xs))) → (k : ℕ) → At (y ∷ xs) k x → 1 ≤ times u (present (map f (y ∷ xs)))
    by rest zero here = omega (arith, times-present u (f y) (map f xs), ap (weight u) (ap f (same_some y x here) ∙ e), ap one_if (eq-eqb u u refl))
    by rest (suc k) there = omega (arith, times-present u (f y) (map f xs), rest (k, there))

-- what a frame holds is among what covers it
needs-held : (p : Program) (body : BodyOf ℕ) (u : ℕ) (variables : List ℕ) → HeldAmong p body variables → HoldsUnit p body u → 1 ≤ times u (needed body variables)
needs-held p (OfKind q) u variables among holds = names-unit (future_at q.futures) u holds.0 holds.4 variables (among holds.0 holds.1 holds.2 holds.3)
needs-held p (OfMembers units next) u variables among holds = (times-some u units).1 holds

-- what a running frame holds is a record of the table
pub held-are_records : (g : Setup) (s : Story) (m : Mem) (vs : List View) (id : ℕ) (v : View) (r : Run) (u : ℕ) → AllSay g s m vs → At vs id v → Has r v.runs → HoldsUnit g.checked (body_at g.checked (slice_index r.words)) u
    → (u < units_of g.plan) × (is_record (m (state u)) ≡ true)
held-are_records g s m vs id v r u l at has holds =
    let bag : BagSound g.checked (seen bags v) = l.schedule bags id (seen bags v) (at_map (seen bags) vs id v at) in
    let pair = map_at (λ (y : Run × List ℕ). y.0) bag.pairs has.0 r (subst (λ (rs : List Run). At rs has.0 r) (sym bag.are_runs) has.1) in
    let covers : Covers g.checked r pair.0.1 = subst (λ (y : Run). Covers g.checked y pair.0.1) pair.2 (bag.covers has.0 pair.0 pair.1) in
    let some : 1 ≤ times u (needed (body_at g.checked (slice_index pair.0.0.words)) pair.0.1) =
    subst (λ (y : Run). 1 ≤ times u (needed (body_at g.checked (slice_index y.words)) pair.0.1)) (sym pair.2) (needs-held g.checked (body_at g.checked (slice_index r.words)) u pair.0.1 covers.1 holds) in
    sighted g m vs s l.table id (table_seen sights v) (at_map (table_seen sights) vs id v at) u (omega (
      arith,
      some,
      bag.enough u,
      total-member (λ (y : Run × List ℕ). times u (needed (body_at g.checked (slice_index y.0.words)) y.1)) bag.pairs has.0 pair.0 pair.1,
    ))

-- the word of a root that was refused by the limit is no other root's
said-limit : (asked : List RootSays) (r : ℕ) → ((k u : ℕ) → At asked k (Record u) → u < 1048577) → word_at asked r ≡ root_word Limit → At asked r Limit
said-limit [] r near e = absurd (omega (arith, e))
said-limit (says ∷ asked) zero near e = by says (λ u is. near 0 u (ap Some is)) e
  where
    by : (x : RootSays) → ((u : ℕ) → x ≡ Record u → u < 1048577) → root_word x ≡ root_word Limit → Some x ≡ Some Limit
    by (Record u) few e' = absurd (omega (arith, e', few u refl))
    by Null few e' = absurd (omega (arith, e'))
    by Limit few e' = refl
    by (Skipped j) few e' = absurd (omega (arith, e'))
said-limit (says ∷ asked) (suc r) near e = said-limit asked r (λ k u there. near (suc k) u there) e

-- where an end or a root says so, the limit is met
pub limit-is_met : (g : Setup) (s : Story) (m : Mem) (vs : List View) → AllSay g s m vs → ((t : ℕ) (cut : Cut) → Ended s.ends t (WasCut cut IsLimit) → IsMet g.plan.limit s.calls) × ((r : ℕ) → r < 16 → m (root r) ≡ root_word Limit → IsMet g.plan.limit s.calls)
limit-is_met g s m vs l = ((λ t cut has. (l.schedule limits).ended has.0 (record { task = t; outcome = WasCut cut IsLimit }) has.1 refl), of-root)
  where
    of-root : (r : ℕ) → r < 16 → m (root r) ≡ root_word Limit → IsMet g.plan.limit s.calls
    of-root r low e =
        let t = total-some (λ (v : View). length v.turn) vs (omega (arith, (l.table roots).one, total-map (λ (x : Turn). length x.turn) (table_seen roots) vs)) in
        let one = member_at (t.1).turn 0 (omega (arith, t.3)) in
        let turn_at = at_map (table_seen roots) vs t.0 t.1 t.2 in
        let is : At one.0 r Limit = said-limit one.0 r (λ k u there. omega (arith, (l.table roots).near t.0 (table_seen roots t.1) turn_at 0 one.0 one.1 k u there, units-few g.plan))
        (sym ((l.table roots).says t.0 (table_seen roots t.1) turn_at 0 one.0 one.1 r low) ∙ e) in
        ((l.schedule limits).told t.0 (seen limits t.1) (at_map (seen limits) vs t.0 t.1 t.2)).roots 0 one.0 one.1 r Limit is refl
