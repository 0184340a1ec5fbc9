-- State words change, but none of a record that may be referred to, and no more of these are there: then what the scheduler's rule
-- says of state words is as before.
use Rattle.std.proofs.Common.{◌≡◌, ◌∙◌, ℕ, ◌<◌, ◌≤◌, ◌==◌, ◌&&◌, Bool, true, false, cond, not, List, [], refl, sym, ap, subst, arith}
use Rattle.std.specs.Prelude.{nat_le, IfSome}
use Rattle.std.proofs.lemmas.Bool.{and_from, and_parts, le-leb, leb-true, eq-eqb, eqb-true}
use Rattle.record_core.specs.Counting.{Has, one_if}
use Rattle.record_core.proofs.BelowFacts.{below-same}
use Rattle.kt_words.specs.declared.plan.Plan.{Plan}
use Rattle.kt_words.specs.StateWords.{phase_of, number_of}
use Rattle.task_meaning.specs.Worths.{Accepted}
use Rattle.task_syntax.specs.declared.program.Program.{Program}
use Rattle.frame_code.specs.Words.{body_at}
use Rattle.table_core.specs.Addresses.{units_of}
use Rattle.table_core.specs.Holdings.{Made, Run}
use Rattle.table_core.specs.References.{is_saved, is_live, is_record}
use Rattle.table_core.specs.WaitLists.{chained, listed}
use Rattle.table_core.specs.Story.{End}
use Rattle.table_core.proofs.ClassFacts.{saved-phase, live-phase}
use Rattle.schedule_rule.specs.Calls.{task_of, after_of, IsNumber, IsLast, IsComplete}
use Rattle.schedule_rule.specs.Numbers.{NumbersHeld, PlacesSound, in_state, TasksHeld, OwnersSound, saved_at, done_with, BehindSound, is_begun, BegunSound}
use Rattle.schedule_rule.specs.Frames.{FramedSound, FormedSound}
use Rattle.schedule_rule.specs.Results.{SaysOutcome, ResultsSound}
use Rattle.schedule_rule.specs.Counts.{Lives, LiveSound, ClassesSound}

-- what is saved is a record
pub saved-record : (word : ℕ) → is_saved word ≡ true → is_record word ≡ true
saved-record word e =
    let p = saved-phase word e in
    and_from _ _ (le-leb 2 (phase_of word) p.0) (le-leb (phase_of word) 5 (omega (arith, p.1)))

-- what is ready or runs is in one of two phases, and a record
pub begun-phase : (word : ℕ) → is_begun word ≡ true → (3 ≤ phase_of word) × (phase_of word ≤ 4)
begun-phase word e = let t = and_parts (nat_le 3 (phase_of word)) (nat_le (phase_of word) 4) e in (leb-true 3 (phase_of word) t.0, leb-true (phase_of word) 4 t.1)

-- it lives
begun-live : (word : ℕ) → is_begun word ≡ true → is_live word ≡ true
begun-live word e =
    let p = begun-phase word e in
    and_from _ _ (le-leb 2 (phase_of word) (omega (arith, p.0))) (le-leb (phase_of word) 4 p.1)

-- what lives is a record
live-record : (word : ℕ) → is_live word ≡ true → is_record word ≡ true
live-record word e =
    let p = live-phase word e in
    and_from _ _ (le-leb 2 (phase_of word) p.0) (le-leb (phase_of word) 5 (omega (arith, p.1)))

-- so what is ready or runs is a record
pub begun-record : (word : ℕ) → is_begun word ≡ true → is_record word ≡ true
begun-record word e = live-record word (begun-live word e)

-- state words in which the same records wait, are ready, run and are done
pub record AreAlike (states states' : ℕ → ℕ) : Type 0 where
  pub saved : (w : ℕ) → is_saved (states' w) ≡ is_saved (states w)
  pub live : (w : ℕ) → is_live (states' w) ≡ is_live (states w)
  pub recorded : (w : ℕ) → is_record (states' w) ≡ is_record (states w)
  pub done : (w : ℕ) → (phase_of (states' w) == 5) ≡ (phase_of (states w) == 5)
  pub same : (w : ℕ) → is_record (states w) ≡ true → states' w ≡ states w

module _ (g : Plan) (states states' : ℕ → ℕ) (alike : AreAlike states states') where
  -- a number stands in the same state words
  in-state-same : (n w : ℕ) → in_state states' n w ≡ in_state states n w
  in-state-same n w = by (is_saved (states w)) refl
    where
      by : (b : Bool) → is_saved (states w) ≡ b → in_state states' n w ≡ in_state states n w
      by true e = ap (λ (x : ℕ). cond (is_saved x) (one_if (number_of x == n)) 0) (alike.same w (saved-record (states w) e))
      by false e = ap (λ (b : Bool). cond b (one_if (number_of (states' w) == n)) 0) (alike.saved w ∙ e) ∙ sym (ap (λ (b : Bool). cond b (one_if (number_of (states w) == n)) 0) e)

  -- records have the lists that they had
  listed-same : (heads nexts : ℕ → ℕ) (w : ℕ) → listed states' heads nexts w ≡ listed states heads nexts w
  listed-same heads nexts w = ap (λ (b : Bool). listed_if (b && not (heads w == Rattle.kt_words.specs.HeadWords.closed_word))) (alike.recorded w)
    where
      listed_if : Bool → List ℕ
      listed_if b = cond b (chained nexts (Rattle.kt_words.specs.HeadWords.link_of (heads w)) (Rattle.kt_words.specs.HeadWords.length_of (heads w))) []

  -- numbers stand where they stood
  pub places-alike : (calls : List Accepted) (vs : List NumbersHeld) → PlacesSound g calls states vs → PlacesSound g calls states' vs
  places-alike calls vs was n = omega (arith, was n, below-same (in_state states' n) (in_state states n) (units_of g) (λ w near. in-state-same n w))

  -- tasks stand where they stood
  pub owners-alike : (calls : List Accepted) (ends : List End) (tasks : ℕ → ℕ) (vs : List TasksHeld) → OwnersSound g calls ends states tasks vs → OwnersSound g calls ends states' tasks vs
  owners-alike calls ends tasks vs was = record {
    is_of = λ u near is. let there = sym (alike.recorded u) ∙ is in
        subst (λ (x : ℕ). IsNumber calls (number_of x) × (tasks u ≡ task_of calls (number_of x))) (sym (alike.same u there)) (was.is_of u near there);
    once = λ t is. omega (arith, was.once t is, below-same (saved_at states' tasks t) (saved_at states tasks t) (units_of g) (λ w near. ap (λ (b : Bool). cond b (one_if (tasks w == t)) 0) (alike.saved w)));
    done = λ t. omega (arith, was.done t, below-same (done_with states' tasks t) (done_with states tasks t) (units_of g) (λ w near. ap (λ (b : Bool). cond b (one_if (tasks w == t)) 0) (alike.done w)));
    ended = was.ended;
    last_saved = λ u near is. let there = sym (alike.saved u) ∙ is in
        subst (λ (x : ℕ). IsLast calls (number_of x)) (sym (alike.same u (saved-record (states u) there))) (was.last_saved u near there);
    last_drawn = was.last_drawn;
  }

  -- frames are of the same calls
  pub framed-alike : (p : Program) (calls : List Accepted) (tasks : ℕ → ℕ) (words : ℕ → ℕ → ℕ) (vs : List (List Run)) → FramedSound p calls tasks g states words vs → FramedSound p calls tasks g states' words vs
  framed-alike p calls tasks words vs was = record {
    saved = λ u near is. let there = sym (alike.saved u) ∙ is in
        subst (λ (x : ℕ). Rattle.schedule_rule.specs.Frames.IsFrameOf p calls tasks (number_of x) (body_at p (words u))) (sym (alike.same u (saved-record (states u) there))) (was.saved u near there);
    names = λ u near is. was.names u near (sym (alike.saved u) ∙ is);
    running = was.running;
  }

  -- frames are frames
  pub formed-alike : (p : Program) (words : ℕ → ℕ → ℕ) (vs : List (List Run)) → FormedSound p g states words vs → FormedSound p g states' words vs
  formed-alike p words vs was = record { saved = λ u near is. was.saved u near (sym (alike.saved u) ∙ is); running = was.running }

  -- done records say the same
  pub results-alike : (ends : List End) (tasks results : ℕ → ℕ) → ResultsSound g ends states tasks results → ResultsSound g ends states' tasks results
  results-alike ends tasks results was u near done =
      let there : phase_of (states u) ≡ 5 = eqb-true (phase_of (states u)) 5 (sym (alike.done u) ∙ eq-eqb (phase_of (states' u)) 5 done) in
      let t = was u near there in
      (t.0, t.1, subst (λ (x : ℕ). SaysOutcome x (results u) t.0) (sym (alike.same u (ap (λ (p : ℕ). nat_le 2 p && nat_le p 5) there))) t.2)

  -- what is ready or runs may run
  pub begun-alike : (calls : List Accepted) (ends : List End) → BegunSound g calls ends states → BegunSound g calls ends states'
  begun-alike calls ends was u near is =
      let same : states' u ≡ states u = alike.same u (live-record (states u) (sym (alike.live u) ∙ begun-live (states' u) is)) in
      subst (λ (x : ℕ). IfSome (after_of calls (number_of x)) (IsComplete ends)) (sym same) (was u near (ap is_begun (sym same) ∙ is))

  -- as many records live
  pub live-alike : (live : ℕ) (vs : List Lives) → LiveSound g states live vs → LiveSound g states' live vs
  live-alike live vs was = omega (arith, was, below-same (λ u. one_if (is_live (states' u))) (λ u. one_if (is_live (states u))) (units_of g) (λ w near. ap one_if (alike.live w)))

  -- records have the classes of their calls
  pub classes-alike : (p : Program) (calls : List Accepted) (supers : ℕ → ℕ) (vs : List (List Made)) → ClassesSound p g calls supers states vs → ClassesSound p g calls supers states' vs
  classes-alike p calls supers vs was = record {
    records = λ u near is. let there = sym (alike.recorded u) ∙ is in
        was.records u near there ∙ ap (λ (x : ℕ). Rattle.schedule_rule.specs.Counts.class_in p (Rattle.record_core.specs.Numbers.by_number calls (task_of calls (number_of x)))) (sym (alike.same u there));
    made = was.made;
  }

  -- what stands in lists and chains waits, so its state word is that of a record
  pub behind-alike : (calls : List Accepted) (ends : List End) (heads nexts tasks : ℕ → ℕ) (vs : List (List (List ℕ)))
      → ((u w : ℕ) → u < units_of g → Has w (listed states heads nexts u) → is_record (states w) ≡ true)
      → ((k : ℕ) (chains : List (List ℕ)) (j : ℕ) (chain : List ℕ) (i w : ℕ) → Rattle.record_core.specs.Counting.At vs k chains → Rattle.record_core.specs.Counting.At chains j chain → Rattle.record_core.specs.Counting.At chain i w → is_record (states w) ≡ true)
      → BehindSound g calls ends states heads nexts tasks vs → BehindSound g calls ends states' heads nexts tasks vs
  behind-alike calls ends heads nexts tasks vs waits chained_waits was = record {
    listed_behind = λ u w near has.
        let there = subst (λ (l : List ℕ). Has w l) (listed-same heads nexts u) has in
        ap (λ (x : ℕ). after_of calls (number_of x)) (alike.same w (waits u w near there)) ∙ was.listed_behind u w near there;
    chained_behind = λ k chains at j chain at' i w at''.
        subst (λ (x : ℕ). Rattle.std.specs.Prelude.IfSome (after_of calls (number_of x)) (Rattle.schedule_rule.specs.Calls.IsComplete ends)) (sym (alike.same w (chained_waits k chains j chain i w at at' at'')))
        (was.chained_behind k chains at j chain at' i w at'');
  }
