-- The steps on the total of drawn numbers, by the values that name the records.
use Rattle.std.proofs.Common.{◌≡◌, ◌∙◌, inl, inr, ℕ, zero, suc, ◌+◌, ◌%◌, ◌^◌, ◌<◌, ◌≤◌, ◌==◌, Bool, true, false, cond, Option, Some, None, List, [], ◌∷◌, length, refl, sym, ap, subst, arith}
use Rattle.std.specs.Prelude.{slice_get, slice_set, SomeIff, nat_lt}
use Rattle.std.proofs.lemmas.Bool.{cases_lt, eq-eqb, lt-ltb, le-ltb}
use Rattle.record_core.specs.Counting.{At, Has, one_if}
use Rattle.task_syntax.specs.Form.{IsWellFormed}
use Rattle.task_syntax.specs.Valid.{IsValid}
use Rattle.task_meaning.specs.Worths.{Accepted, Respawn}
use Rattle.table_core.specs.Addresses.{Addr, Mem, sum, put}
use Rattle.table_core.specs.Asking.{Asker, OfRoot, OfTask, Drawn}
use Rattle.table_core.specs.Holdings.{Look, Run, Placing}
use Rattle.table_core.specs.Story.{Story}
use Rattle.table_core.specs.Views.{saw}
use Rattle.table_core.specs.WaitViews.{is_run_at}
use Rattle.table_core.specs.declared.setup.Setup.{Setup}
use Rattle.table_core.specs.declared.view.View.{View}
use Rattle.table_core.proofs.ListFacts.{set_here}
use Rattle.table_core.specs.Steps.{LogsWritten, placing}
use Rattle.schedule_rule.specs.DrawViews.{permitted, told_limit, drawn_for, drew_for_run, drew_for_root, drew_again, drew_none, changed, Drew, SawDrawn, MayAsk}
use Rattle.schedule_rule.specs.LifeViews.{with_words, moved_on}
use Rattle.schedule_rule.specs.Numbers.{in_hand}
use Rattle.schedule_rule.specs.Parts.{AllSay, LawfulAfter, Keeps}
use Rattle.schedule_rule.specs.PlacingLaws.{StillCovers}
use Rattle.schedule_rule.specs.SoundViews.{SoundView}
use Rattle.schedule_rule.proofs.DrawKindsAgain.{draws-again-at}
use Rattle.schedule_rule.proofs.DrawKindsRoot.{draws-for_root-at}
use Rattle.schedule_rule.proofs.DrawKindsRun.{draws-for_run-at}
use Rattle.schedule_rule.proofs.DrawKindsTotals.{sees-drawn-at}
use Rattle.schedule_rule.proofs.MoveKinds.{moved-says}
use Rattle.step_table.specs.DrawSteps.{Move, Asking, moved, MayMoveTo, MayMove, MaySeeDrawn, SeesDrawn, MayDrawForRun, MayDrawForRoot, MayDrawAgain, IsNewNumber, Draws}
use Rattle.step_table.specs.declared.pass.Pass.{Pass}
use Rattle.step_table.specs.LastLooks.{KeepsNewest}
use Rattle.step_table.specs.Passes.{view}
use Rattle.step_table.specs.Turns.{turn_of}
use Rattle.step_table.proofs.LookupFacts.{made-there, run-there}

-- what was written at a place before is of no matter
set_twice : {A : Type 0} (l : List A) (k : ℕ) (x y : A) → slice_set (slice_set l k x) k y ≡ slice_set l k y
set_twice [] k x y = refl
set_twice (z ∷ l) zero x y = refl
set_twice (z ∷ l) (suc k) x y = ap (λ (r : List _). z ∷ r) (set_twice l k x y)

-- what was placed is written also where the view before is another with the same placings
logs-from : (a : Addr) (n : ℕ) (v w new : View) → ◌≡◌ {A = List Placing} w.placings v.placings → LogsWritten a n w new → LogsWritten a n v new
logs-from a n v w new same (inl e) = inl (e ∙ same)
logs-from a n v w new same (inr (u, words, is, e)) = inr (u, words, is, e ∙ ap (λ (l : List Placing). placing u n words ∷ l) same)

-- a step that keeps the rule from a view to which the pass may go without one keeps it from the view before
pub keeps-from : (g : Setup) (id : ℕ) (v w : View) (a : Addr) (f : ℕ → ℕ) (told : ℕ → View → Type 0) → w.parts ≡ v.parts → ◌≡◌ {A = List (Addr × ℕ)} w.seen v.seen → ◌≡◌ {A = List Placing} w.placings v.placings
    → ((m : Mem) (vs : List View) (s : Story) → AllSay g s m vs → At vs id v → AllSay g s m (slice_set vs id w)) → Keeps g id w a f told → Keeps g id v a f told
keeps-from g id v w a f told parts same_seen same_placings goes keeps m vs s l at small =
    let t = keeps m (slice_set vs id w) s (goes m vs s l at) (set_here vs id v w at) small in (
      t.0,
      subst (λ (views : List View). LawfulAfter g s (put m a (f (m a))) views) (set_twice vs id w t.0) t.1,
      t.2,
      (t.3.0 ∙ parts, t.3.1 ∙ ap (λ (l : List (Addr × ℕ)). (a, m a) ∷ l) same_seen, logs-from a (f (m a)) v w t.0 same_placings t.3.2),
    )

-- a run of which the frame moved on
changed-has : (u : ℕ) (words : List ℕ) (l : List Run) (k : ℕ) (r : Run) → At l k r → (x : Run) × Has x (changed (is_run_at u) (with_words words) l) × (x.task ≡ r.task) × (x.unplaced ≡ r.unplaced)
changed-has u words [] k r at = let no_one : None ≡ Some r → ⊥ = λ e. cc in absurd (no_one at)
changed-has u words (y ∷ l) k r at = by (is_run_at u y) k at (changed-has u words l)
  where
    some_is : (x : Run) → Some x ≡ Some r → x ≡ r
    some_is x e = cc

    by : (b : Bool) (k : ℕ) → At (y ∷ l) k r → ((k : ℕ) (r : Run) → At l k r → (x : Run) × Has x (changed (is_run_at u) (with_words words) l) × (x.task ≡ r.task) × (x.unplaced ≡ r.unplaced))
        → (x : Run) × Has x (cond b (with_words words y ∷ l) (y ∷ changed (is_run_at u) (with_words words) l)) × (x.task ≡ r.task) × (x.unplaced ≡ r.unplaced)
    by true zero at more = (with_words words y, (0, refl), ap (λ (x : Run). x.task) (some_is y at), ap (λ (x : Run). x.unplaced) (some_is y at))
    by true (suc k) at more = (r, (suc k, at), refl, refl)
    by false zero at more = (y, (0, refl), ap (λ (x : Run). x.task) (some_is y at), ap (λ (x : Run). x.unplaced) (some_is y at))
    by false (suc k) at more = let t = more k r at in (t.0, (suc t.1.0, t.1.1), t.2, t.3)

-- who asks may ask once a frame has moved on
asks-moved : (g : Setup) (v : View) (asker : Option Asker) (move : Option Move) → MayAsk g v asker → MayAsk g (moved move v) asker
asks-moved g v asker None asks = asks
asks-moved g v None (Some move) asks = tt
asks-moved g v (Some (OfTask t)) (Some move) asks =
    let run : Run = asks.0 in let has : Has run v.runs = asks.1 in let t' = changed-has move.unit move.words v.runs has.0 run has.1 in
    (t'.0, t'.1, t'.2 ∙ asks.2, t'.3 ∙ asks.3)
asks-moved g v (Some (OfRoot r)) (Some move) asks = asks

-- the total may be loaded, also where a frame has moved on
pub sees-drawn-value : (g : Setup) (id : ℕ) (v : View) (asking : Asking) → MaySeeDrawn g asking v → 1 ≤ v.parts → Keeps g id v (sum 0) (λ n. n) (SawDrawn g.plan.limit asking.asker (moved asking.move v))
sees-drawn-value g id v asking may in_use = by asking.move may.moves
  where
    by : (move : Option Move) → MayMove g move v → Keeps g id v (sum 0) (λ n. n) (SawDrawn g.plan.limit asking.asker (moved move v))
    by None may_move = sees-drawn-at g id v asking.asker in_use
    by (Some move) may_move =
        let x : MayMoveTo g move v = may_move in
        let found = run-there move.unit v.runs x.run x.at.there in
        let at : x.run.unit ≡ move.unit = found.1 in
        let w : View = moved_on move.unit move.words v in
        keeps-from g id v w (sum 0) (λ n. n) (SawDrawn g.plan.limit asking.asker w) refl refl refl
        (λ m vs s l there. subst (λ (u : ℕ). AllSay g s m (slice_set vs id (moved_on u move.words v))) at
        (moved-says g id v m vs s l there x.run found.0 move.words x.frame (subst (λ (u : ℕ). StillCovers g v (moved_on u move.words v)) (sym at) x.covers) in_use))
        (sees-drawn-at g id w asking.asker in_use)

-- what was told of the load, by the answer to whether there is room
pub sees-drawn-says : (limit found : ℕ) (asking : Asking) (old new : Pass) → SawDrawn limit asking.asker (moved asking.move (view old)) found (view new) → SeesDrawn limit asking old (nat_lt found limit) new
sees-drawn-says limit found asking old new told = elim (cases_lt found limit) [
  | inl low ↦ subst (λ (b : Bool). SeesDrawn limit asking old b new) (sym (lt-ltb found limit low)) (found, low, told.0 low)
  | inr far ↦ subst (λ (b : Bool). SeesDrawn limit asking old b new) (sym (le-ltb found limit far)) (found, far, told.1 far)
]

-- a draw for a made record by a run
pub draws-for-run-value : (g : Setup) (id : ℕ) (v : View) (unit by task : ℕ) (call : Accepted) → MayDrawForRun g unit by task call v → 1 ≤ v.parts
    → Keeps g id v (sum 0) (λ n. (n + 1) % 2 ^ 64) (Drew g.plan.limit (λ n. drew_for_run unit by task call n v) (drew_none (OfTask task) v))
draws-for-run-value g id v unit by task call may in_use =
    let made = made-there unit v.made may.made.made may.made.at.there in let run = run-there by v.runs may.run may.at.there in
    let P : ℕ → ℕ → ℕ → Type 0 = λ u w t. Keeps g id v (sum 0) (λ n. (n + 1) % 2 ^ 64) (Drew g.plan.limit (λ n. drew_for_run u w t call n v) (drew_none (OfTask t) v)) in
    subst (λ (u : ℕ). P u by task) made.1 (subst (λ (w : ℕ). P may.made.made.unit w task) run.1 (subst (λ (t : ℕ). P may.made.made.unit may.run.unit t) may.task_is
    (draws-for_run-at g id v call may.knows may.made.made made.0 may.made.unnumbered may.made.class_is may.run run.0 may.idle may.permission in_use)))

-- a draw for a made record by a root
pub draws-for-root-value : (g : Setup) (id : ℕ) (v : View) (unit root : ℕ) (call : Accepted) → IsWellFormed g.checked → IsValid g.checked → MayDrawForRoot g unit root call v → 1 ≤ v.parts
    → Keeps g id v (sum 0) (λ n. (n + 1) % 2 ^ 64) (Drew g.plan.limit (λ n. drew_for_root unit root call n v) (drew_none (OfRoot root) v))
draws-for-root-value g id v unit root call formed valid may in_use =
    let made = made-there unit v.made may.made.made may.made.at.there in let asked = may.asked in
    let P : ℕ → ℕ → Type 0 = λ u r. Keeps g id v (sum 0) (λ n. (n + 1) % 2 ^ 64) (Drew g.plan.limit (λ n. drew_for_root u r call n v) (drew_none (OfRoot r) v)) in
    subst (λ (u : ℕ). P u root) made.1 (subst (λ (r : ℕ). P may.made.made.unit r) may.is_next
    (draws-for_root-at g id v formed valid asked may.has_turn (omega (arith, may.is_next, may.inside)) may.undrawn may.line
    (ap (slice_get g.checked.roots) may.is_next ∙ may.line_there) call may.call_is may.made.made made.0 may.made.unnumbered may.made.class_is may.permission in_use))

-- a draw for the next activation of a run
pub draws-again-value : (g : Setup) (id : ℕ) (v : View) (unit task : ℕ) (behind : Option ℕ) → MayDrawAgain g unit task behind v → 1 ≤ v.parts
    → Keeps g id v (sum 0) (λ n. (n + 1) % 2 ^ 64) (Drew g.plan.limit (λ n. drew_again unit task (Respawn task behind) n v) (drew_none (OfTask task) v))
draws-again-value g id v unit task behind may in_use =
    let run = run-there unit v.runs may.run may.at.there in
    let P : ℕ → ℕ → Type 0 = λ u t. Keeps g id v (sum 0) (λ n. (n + 1) % 2 ^ 64) (Drew g.plan.limit (λ n. drew_again u t (Respawn t behind) n v) (drew_none (OfTask t) v)) in
    subst (λ (u : ℕ). P u task) run.1 (subst (λ (t : ℕ). P may.run.unit t) may.task_is
    (draws-again-at g id v may.run run.0 may.unasked may.idle behind may.behind_is may.permission in_use))

-- the next number is a new one, where what the rule says of the views before and after the draw is so
new-number : (g : Setup) (old new : View) (found : ℕ) (d : Drawn) → new.drawn ≡ d ∷ old.drawn → new.taken ≡ old.taken → d.number ≡ found + 1 → found < g.plan.limit → SoundView g old → SoundView g new
    → IsNewNumber g.plan.limit (found + 1) old
new-number g old new found d drawn taken is low before after =
    let n : ℕ = found + 1 in
    let one : in_hand n (record { drawn = d ∷ old.drawn; taken = old.taken }) ≤ 1 =
    subst (λ (l : List ℕ). in_hand n (record { drawn = d ∷ old.drawn; taken = l }) ≤ 1) taken
    (subst (λ (l : List Drawn). in_hand n (record { drawn = l; taken = new.taken }) ≤ 1) drawn (after.numbers.one_number n)) in
    let here : one_if (d.number == n) ≡ 1 = ap one_if (eq-eqb d.number n is) in
    record {
      within = (omega arith, omega (arith, low));
      nowhere = omega (arith, one, here);
      task_written = omega (arith, one, here, before.numbers.rows.task n);
      after_written = omega (arith, one, here, before.numbers.rows.after n);
    }

-- what was told of a draw, by the answer: the won view has the number among the drawn ones
draws-says : (g : Setup) (found : ℕ) (won : ℕ → View) (d : ℕ → Drawn) (lost old new : View) (answer : Option ℕ) → ((n : ℕ) → (d n).number ≡ n) → ((n : ℕ) → (won n).drawn ≡ d n ∷ old.drawn) → ((n : ℕ) → (won n).taken ≡ old.taken)
    → SomeIff answer (found < g.plan.limit) (found + 1) → Drew g.plan.limit won lost found new → SoundView g old → SoundView g new → Draws g.plan.limit won lost old answer new
draws-says g found won d lost old new None numbered drawn taken is told before after = let far : g.plan.limit ≤ found = omega (arith, is) in record { found = found; is_met = far; view_is = told.1 far }
draws-says g found won d lost old new (Some number) numbered drawn taken is told before after =
    let drew_it : new ≡ saw (sum 0) found (won (found + 1)) = told.0 is.0 in
    let next : number ≡ found + 1 = is.1 in
    record {
      found = found;
      is_next = next;
      is_new = subst (λ (n : ℕ). IsNewNumber g.plan.limit n old) (sym next)
          (new-number g old new found (d (found + 1)) (ap (λ (v : View). v.drawn) drew_it ∙ drawn (found + 1)) (ap (λ (v : View). v.taken) drew_it ∙ taken (found + 1)) (numbered (found + 1)) is.0 before after);
      view_is = drew_it ∙ ap (λ (n : ℕ). saw (sum 0) found (won n)) (sym next);
    }

module _ (g : Setup) (found : ℕ) where
  -- so for a made record by a run
  pub draws-for-run-says : (unit by task : ℕ) (call : Accepted) (old new : View) (answer : Option ℕ) → SomeIff answer (found < g.plan.limit) (found + 1)
      → Drew g.plan.limit (λ n. drew_for_run unit by task call n old) (drew_none (OfTask task) old) found new → SoundView g old → SoundView g new
      → Draws g.plan.limit (λ n. drew_for_run unit by task call n old) (drew_none (OfTask task) old) old answer new
  draws-for-run-says unit by task call old new answer =
      draws-says g found (λ n. drew_for_run unit by task call n old) (λ n. drawn_for n unit (OfTask task)) (drew_none (OfTask task) old) old new answer (λ n. refl) (λ n. refl) (λ n. refl)

  -- for a made record by a root
  pub draws-for-root-says : (unit root : ℕ) (call : Accepted) (old new : View) (answer : Option ℕ) → SomeIff answer (found < g.plan.limit) (found + 1)
      → Drew g.plan.limit (λ n. drew_for_root unit root call n old) (drew_none (OfRoot root) old) found new → SoundView g old → SoundView g new
      → Draws g.plan.limit (λ n. drew_for_root unit root call n old) (drew_none (OfRoot root) old) old answer new
  draws-for-root-says unit root call old new answer =
      draws-says g found (λ n. drew_for_root unit root call n old) (λ n. drawn_for n unit (OfRoot root)) (drew_none (OfRoot root) old) old new answer (λ n. refl) (λ n. refl) (λ n. refl)

  -- for the next activation of a run
  pub draws-again-says : (unit task : ℕ) (behind : Option ℕ) (old new : View) (answer : Option ℕ) → SomeIff answer (found < g.plan.limit) (found + 1)
      → Drew g.plan.limit (λ n. drew_again unit task (Respawn task behind) n old) (drew_none (OfTask task) old) found new → SoundView g old → SoundView g new
      → Draws g.plan.limit (λ n. drew_again unit task (Respawn task behind) n old) (drew_none (OfTask task) old) old answer new
  draws-again-says unit task behind old new answer =
      draws-says g found (λ n. drew_again unit task (Respawn task behind) n old) (λ n. drawn_for n unit (OfTask task)) (drew_none (OfTask task) old) old new answer (λ n. refl) (λ n. refl) (λ n. refl)

-- What a pass keeps in words of its own it keeps where these stay.
pub record KeepsHand (old new : View) : Type 0 where
  pub futures : new.futures ≡ old.futures
  pub turn : new.turn ≡ old.turn
  pub old_looks : new.old_looks ≡ old.old_looks
  pub looks : new.looks ≡ old.looks

stays-same : (v : View) → KeepsHand v v
stays-same v = record { futures = refl; turn = refl; old_looks = refl; looks = refl }

-- they stay where a frame moves on
moved-keeps : (move : Option Move) (v : View) → KeepsHand v (moved move v)
moved-keeps None v = stays-same v
moved-keeps (Some move) v = record { futures = refl; turn = refl; old_looks = refl; looks = refl }

-- and where the limit is answered
told-keeps : (asker : Option Asker) (v w : View) → KeepsHand v w → KeepsHand v (told_limit asker w)
told-keeps None v w keeps = keeps
told-keeps (Some asker) v w keeps = record { futures = keeps.futures; turn = keeps.turn; old_looks = keeps.old_looks; looks = keeps.looks }

kept-along : (old v w : View) → w ≡ v → KeepsHand old v → KeepsHand old w
kept-along old v w e keeps = subst (KeepsHand old) (sym e) keeps

-- they stay at a load of the total
pub sees-drawn-keeps : (limit found : ℕ) (asking : Asking) (old new : View) → SawDrawn limit asking.asker (moved asking.move old) found new → KeepsHand old new
sees-drawn-keeps limit found asking old new told =
    let v : View = moved asking.move old in let keeps = moved-keeps asking.move old in elim (cases_lt found limit) [
      | inl low ↦ kept-along old (saw (sum 0) found (permitted v)) new (told.0 low) (record { futures = keeps.futures; turn = keeps.turn; old_looks = keeps.old_looks; looks = keeps.looks })
      | inr far ↦
          let limits = told-keeps asking.asker old v keeps in
          kept-along old (saw (sum 0) found (told_limit asking.asker v)) new (told.1 far) (record { futures = limits.futures; turn = limits.turn; old_looks = limits.old_looks; looks = limits.looks })
    ]

-- and at a draw
drew-keeps : (limit found : ℕ) (won : ℕ → View) (lost old new : View) → ((n : ℕ) → KeepsHand old (saw (sum 0) found (won n))) → KeepsHand old (saw (sum 0) found lost) → Drew limit won lost found new → KeepsHand old new
drew-keeps limit found won lost old new wins loses told = elim (cases_lt found limit) [
  | inl low ↦ kept-along old (saw (sum 0) found (won (found + 1))) new (told.0 low) (wins (found + 1))
  | inr far ↦ kept-along old (saw (sum 0) found lost) new (told.1 far) loses
]

module _ (limit found : ℕ) where
  pub draws-for-run-keeps : (unit by task : ℕ) (call : Accepted) (old new : View) → Drew limit (λ n. drew_for_run unit by task call n old) (drew_none (OfTask task) old) found new → KeepsHand old new
  draws-for-run-keeps unit by task call old new = drew-keeps limit found (λ n. drew_for_run unit by task call n old) (drew_none (OfTask task) old) old new
      (λ n. record { futures = refl; turn = refl; old_looks = refl; looks = refl }) (record { futures = refl; turn = refl; old_looks = refl; looks = refl })

  pub draws-for-root-keeps : (unit root : ℕ) (call : Accepted) (old new : View) → Drew limit (λ n. drew_for_root unit root call n old) (drew_none (OfRoot root) old) found new → KeepsHand old new
  draws-for-root-keeps unit root call old new = drew-keeps limit found (λ n. drew_for_root unit root call n old) (drew_none (OfRoot root) old) old new
      (λ n. record { futures = refl; turn = refl; old_looks = refl; looks = refl }) (record { futures = refl; turn = refl; old_looks = refl; looks = refl })

  pub draws-again-keeps : (unit task : ℕ) (behind : Option ℕ) (old new : View) → Drew limit (λ n. drew_again unit task (Respawn task behind) n old) (drew_none (OfTask task) old) found new → KeepsHand old new
  draws-again-keeps unit task behind old new = drew-keeps limit found (λ n. drew_again unit task (Respawn task behind) n old) (drew_none (OfTask task) old) old new
      (λ n. record { futures = refl; turn = refl; old_looks = refl; looks = refl }) (record { futures = refl; turn = refl; old_looks = refl; looks = refl })

-- what a pass says of its view holds of this one
pub record HandStays (p : Pass) (w : View) : Type 0 where
  pub counts : length w.futures ≤ p.held
  pub turns : turn_of p.turn ≡ w.turn
  pub ages : w.old_looks ≤ length w.looks
  pub looks : KeepsNewest p.last w.old_looks w.looks

pub hand-stays : (p : Pass) (w : View) → KeepsHand (view p) w → HandStays p w
hand-stays p w keeps = record {
  counts = subst (λ (l : List ℕ). length l ≤ p.held) (sym keeps.futures) p.counts;
  turns = p.turns ∙ sym keeps.turn;
  ages = omega (arith, p.ages, keeps.old_looks, ap (λ (l : List Look). length l) keeps.looks);
  looks = subst (λ (l : List Look). KeepsNewest p.last w.old_looks l) (sym keeps.looks) (subst (λ (n : ℕ). KeepsNewest p.last n (view p).looks) (sym keeps.old_looks) p.looks);
}
