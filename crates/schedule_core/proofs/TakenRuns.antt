-- A record that was taken just now, as the run that a worker goes on from.
use Rattle.std.proofs.Common.{◌≡◌, ◌≢◌, ◌∙◌, inl, inr, ℕ, zero, suc, ◌+◌, ◌<◌, ◌≤◌, ◌==◌, ◌*◌, Bool, true, false, cond, Some, None, List, [], ◌∷◌, ◌++◌, length, refl, sym, ap, subst, append_assoc, arith}
use Rattle.std.specs.Prelude.{slice_index, slice_get, nat_le, ◌&&◌}
use Rattle.std.proofs.lemmas.Bool.{eq-eqb}
use Rattle.std.proofs.lemmas.List.{length-append}
use Rattle.record_core.specs.Counting.{Has, times, one_if, dropped}
use Rattle.record_core.proofs.TotalFacts.{none_there, total-append}
use Rattle.task_syntax.specs.declared.program.Program.{Program}
use Rattle.task_syntax.specs.declared.value.Priority.{Priority}
use Rattle.frame_code.specs.Frames.{IsFrame}
use Rattle.frame_code.specs.Names.{named, names_of}
use Rattle.frame_code.specs.Units.{named_in}
use Rattle.frame_code.specs.Ways.{BodyHasWay}
use Rattle.frame_code.specs.Words.{BodyOf, OfKind, OfMembers, body_at, body_of}
use Rattle.kt_words.specs.StateWords.{FitsStateWord, packed_state, phase_of}
use Rattle.kt_words.specs.declared.state_word.StateWord.{StateWord}
use Rattle.ready_queues.specs.Moments.{Moment, TellsTake}
use Rattle.ready_queues.specs.declared.entry.Entry.{Entry}
use Rattle.table_core.specs.Addresses.{frame, state, sum, units_of}
use Rattle.table_core.specs.Story.{IsAccepted}
use Rattle.table_core.specs.Holdings.{Run, SawDone}
use Rattle.table_core.specs.Own.{known_in}
use Rattle.table_core.specs.Views.{saw}
use Rattle.table_core.specs.WaitViews.{is_run_at}
use Rattle.table_core.specs.declared.setup.Setup.{Setup}
use Rattle.table_core.specs.declared.view.View.{View}
use Rattle.table_core.proofs.BagFacts.{one-here}
use Rattle.schedule_rule.specs.Calls.{task_in, after_in}
use Rattle.schedule_rule.specs.Rows.{drawn_at}
use Rattle.schedule_rule.specs.Frames.{HoldsNames, BagSound, front}
use Rattle.schedule_rule.specs.PlacingViews.{less}
use Rattle.schedule_rule.specs.LifeViews.{knowing, MayStart}
use Rattle.schedule_rule.specs.TakingViews.{new_run, took, IsTakenFrame}
use Rattle.schedule_rule.proofs.FrontFacts.{front-says}
use Rattle.step_table.specs.Lookups.{run_in}
use Rattle.step_table.specs.Passes.{view}
use Rattle.step_table.specs.RecordSteps.{SeesState}
use Rattle.step_table.specs.Sound.{AreSound}
use Rattle.step_table.specs.TakingSteps.{TakesRecord, FindsOtherState}
use Rattle.step_table.specs.declared.pass.Pass.{Pass}
use Rattle.kt_words.specs.declared.plan.Plan.{Plan}
use Rattle.step_table.specs.SeeingSteps.{HasStarted}
use Rattle.step_table.specs.RecordHands.{RunAt}
use Rattle.step_table.specs.declared.record_tokens.OwnWord.TheVariants as own_word
use Rattle.step_table.specs.declared.record_tokens.Started.{Started}
use Rattle.step_table.proofs.RecordStepping.{fill-at}
use Rattle.step_table.proofs.TakingStepping.{taken-known}
use Rattle.schedule_core.specs.Bags.{IsSpare}
use Rattle.schedule_core.specs.FrameWords.{KnowsFront, IsFrontOf}
use Rattle.schedule_core.specs.Runs.{IsSameState, IsInStep, HasNoNumber}
use Rattle.schedule_core.specs.Entries.{FitsEntry, word_of}
use Rattle.schedule_core.specs.References.{Grows}
use Rattle.schedule_core.specs.Taking.{TookRecord, TakesRun, Takes, Passes, Sweeps, TakesSpilled, SawReady, SawNoneReady, SawSpill}
use Rattle.schedule_core.specs.declared.answers.Taken.{Taken}
use Rattle.schedule_core.specs.declared.answers.Taken.TheVariants as taken
use Rattle.schedule_core.proofs.EachFacts.{grows-on, grows-self}
use Rattle.schedule_core.specs.declared.running.Running.{Running}
use Rattle.schedule_core.proofs.LessFacts.{less-front}

-- a frame is of its own kind
pub same-self : (b : BodyOf ℕ) → IsSameState b b
same-self (OfKind q) = (refl, refl)
same-self (OfMembers units next) = (refl, refl)

module _ (g : Setup) (started : Started) (before v : View) (t : TookRecord g started before v) where
  abbrev u : ℕ
  u = started.unit

  abbrev p : Program
  p = g.checked

  -- the run that the record became
  abbrev pub its_run : Run
  its_run = new_run u t.class started.number (task_in (Some t.call) started.number) t.words

  -- it is looked up
  pub took-run : RunAt g.plan u v its_run
  took-run = record {
    is_block = t.frame_is.block;
    there = ap (λ (x : View). run_in u x.runs) t.view_is ∙ ap (λ (b : Bool). cond b (Some its_run) (run_in u before.runs)) (eq-eqb u u refl);
  }

  -- its number is one up to the limit
  pub took-number : started.number ≤ g.plan.limit
  took-number = (t.sound.numbers.runs 0 its_run (ap (λ (x : View). slice_get x.runs 0) t.view_is)).1

  -- the words of its frame are known
  pub took-front : KnowsFront g.plan p u t.words v
  took-front = record {
    formed = t.frame_is.formed;
    inside = λ j low. fill-at g.plan u (own_word.Frame j) v (inr (its_run, took-run, omega (arith, low, t.frame_is.fits)));
    known = λ j low. ap (λ (x : View). known_in (frame u j) x.known) t.view_is ∙ taken-known (8 * u) j t.words before.known (omega (arith, low, t.frame_is.fits, t.frame_is.long));
  }

  -- what the frame names, the pass has beside what it had before
  named-front : (items : List ℕ) → items ≡ front p (slice_index t.words) → named_in p items ≡ named p (slice_index t.words)
  named-front items is = ap (λ (l : List ℕ). named_in p l) is ∙ ap names_of (front-says p (slice_index t.words))

  futures-are : v.futures ≡ named p (slice_index t.words) ++ before.futures
  futures-are = ap (λ (x : View). x.futures) t.view_is

  runs-are : dropped (is_run_at u) v.runs ≡ before.runs
  runs-are = ap (λ (x : View). dropped (is_run_at u) x.runs) t.view_is ∙ ap (λ (b : Bool). cond b before.runs (its_run ∷ dropped (is_run_at u) before.runs)) (eq-eqb u u refl)

  spare-front : (items : List ℕ) → items ≡ front p (slice_index t.words) → IsSpare p u (named_in p items) v
  spare-front items is = record {
    there = λ w. omega (
      arith,
      ap (λ (l : List ℕ). times w l) (named-front items is),
      ap (λ (l : List ℕ). times w l) futures-are,
      total-append (λ (x : ℕ). one_if (x == w)) (named p (slice_index t.words)) before.futures,
    );
    bag = subst (BagSound p) (λ k. record { futures = sym left k; runs = sym runs-are k }) t.bag;
  }
    where
      left : less v.futures (named_in p items) ≡ before.futures
      left = ap (λ (l : List ℕ). less l (named_in p items)) futures-are ∙ ap (less (named p (slice_index t.words) ++ before.futures)) (named-front items is)
          ∙ less-front (named p (slice_index t.words)) (named p (slice_index t.words)) before.futures (λ w. refl)

  -- the pass has no more references than it counted before and those of the frame
  pub took-count : (held : ℕ) (items : List ℕ) → items ≡ front p (slice_index t.words) → length before.futures ≤ held → length v.futures ≤ held + length (named_in p items)
  took-count held items is counted = omega (arith, counted, ap length (named-front items is), ap length futures-are, length-append (named p (slice_index t.words)) before.futures)

  -- the pass had not taken its number before
  pub took-untaken : HasNoNumber started.number before
  took-untaken = omega (
    arith,
    t.sound.numbers.one_number started.number,
    ap (λ (x : View). drawn_at started.number x.drawn) t.view_is,
    ap (λ (x : View). times started.number x.taken) t.view_is,
    one-here started.number,
  )

  -- the value is in step with the run
  pub took-in_step : (x : Running) (new : View) → new ≡ record v { seen = new.seen } → x.started ≡ started → x.task ≡ task_in (Some t.call) started.number → x.frame.items ≡ front p (slice_index t.words) → IsInStep g x new
  took-in_step x new sees started_is task_is is = record {
    run = its_run;
    at = subst (λ (s : Started). RunAt g.plan s.unit new its_run) (sym started_is) (record { is_block = took-run.is_block; there = ap (λ (w : View). run_in u w.runs) sees ∙ took-run.there });
    number_is = sym (ap (λ (s : Started). s.number) started_is);
    task_is = sym task_is;
    placed = refl;
    unasked = refl;
    frame = subst (IsFrame p) (sym is) t.frame_is.formed;
    way = subst (BodyHasWay p) (sym body) t.frame_is.way;
    names = subst (λ (b : BodyOf ℕ). HoldsNames p b) (sym body) t.frame_is.names;
    same = subst (IsSameState (body_at p (slice_index t.words))) (sym body) (same-self (body_at p (slice_index t.words)));
    spare = subst (λ (s : Started). IsSpare p s.unit (named_in p x.frame.items) new) (sym started_is)
        (record {
          there = λ w. omega (arith, (spare-front x.frame.items is).there w, ap (λ (z : View). times w z.futures) sees);
          bag = subst (BagSound p) (λ k. record { futures = less ((sym sees k).futures) (named_in p x.frame.items); runs = dropped (is_run_at u) ((sym sees k).runs) }) (spare-front x.frame.items is).bag;
        });
  }
    where
      body : body_of p x.frame.items ≡ body_at p (slice_index t.words)
      body = ap (λ (l : List ℕ). body_of p l) is ∙ front-says p (slice_index t.words)

-- the run is still there, and its words are known still, where only steps were seen
pub started-sees : (g : Plan) (started : Started) (v w : View) → HasStarted g started v → w.runs ≡ v.runs → HasStarted g started w
started-sees g started v w has same = (
  has.0,
  record { run = record { is_block = (has.1).run.is_block; there = ap (λ l. run_in started.unit l) same ∙ (has.1).run.there }; number_is = (has.1).number_is; number_fits = (has.1).number_fits },
)

pub front-sees : (g : Plan) (p : Program) (u : ℕ) (words : List ℕ) (v w : View) → KnowsFront g p u words v → w.known ≡ v.known → KnowsFront g p u words w
front-sees g p u words v w k same = record { formed = k.formed; inside = k.inside; known = λ j low. ap (λ l. known_in (frame u j) l) same ∙ k.known j low }

pub took-started : (g : Setup) (started : Started) (before v : View) → TookRecord g started before v → HasStarted g.plan started v
took-started g started before v t = (its_run g started before v t, record { run = took-run g started before v t; number_is = refl; number_fits = took-number g started before v t })

-- what is behind some members is a member
has-behind : {A : Type 0} (more : List A) (x : A) (rest : List A) → Has x (more ++ x ∷ rest)
has-behind [] x rest = (0, refl)
has-behind (y ∷ more) x rest = let t = has-behind more x rest in (suc t.0, t.1)

pub took-accepted : (g : Setup) (started : Started) (before v : View) (t : TookRecord g started before v) → Has (IsAccepted started.number t.call) v.facts
took-accepted g started before v t = subst (λ (x : View). Has (IsAccepted started.number t.call) x.facts) (sym t.view_is) (has-behind t.more (IsAccepted started.number t.call) before.facts)

-- the frame that was read is the one in the words that were taken
pub front-known : (g : Setup) (code : Program) (started : Started) (before v w : View) (unit : ℕ) (t : TookRecord g started before v) → code ≡ g.checked → unit ≡ started.unit → w.known ≡ v.known
    → KnowsFront g.plan code unit t.words w
front-known g code started before v w unit t code_is unit_is same =
    subst (λ (q : Program). KnowsFront g.plan q unit t.words w) (sym code_is)
    (subst (λ (u : ℕ). KnowsFront g.plan g.checked u t.words w) (sym unit_is) (front-sees g.plan g.checked started.unit t.words v w (took-front g started before v t) same))

pub front-read : (g : Setup) (code : Program) (started : Started) (before v w : View) (unit : ℕ) (items : List ℕ) (t : TookRecord g started before v) → code ≡ g.checked → unit ≡ started.unit → w.known ≡ v.known
    → IsFrontOf g.plan code unit w items → items ≡ front g.checked (slice_index t.words)
front-read g code started before v w unit items t code_is unit_is same read =
    read t.words (front-known g code started before v w unit t code_is unit_is same) ∙ ap (λ (q : Program). front q (slice_index t.words)) code_is

-- few units are named by it
pub front-names_few : (g : Setup) (started : Started) (before v : View) (items : List ℕ) (t : TookRecord g started before v) → items ≡ front g.checked (slice_index t.words) → length (named_in g.checked items) ≤ 63
front-names_few g started before v items t is = omega (arith, ap length (named-front g started before v t items is), t.frame_is.few)

-- the value that was made of what was read is the run that was taken
pub takes-run : (g : Setup) (started : Started) (before v new : View) (t : TookRecord g started before v) (priority : Priority) (x : Running) → new ≡ record v { seen = new.seen } → Grows v.seen new.seen → x.started ≡ started
    → x.task ≡ task_in (Some t.call) started.number → x.after ≡ after_in (Some t.call) → x.priority ≡ priority → x.refused ≡ None → x.made ≡ None → x.frame.items ≡ front g.checked (slice_index t.words)
    → TakesRun g started.unit started.number priority before x new
takes-run g started before v new t priority x sees seen started_is task_is after_is priority_is refused_is made_is is = record {
  class = t.class;
  words = t.words;
  call = t.call;
  more = t.more;
  frame_is = t.frame_is;
  unit_is = ap (λ (s : Started). s.unit) started_is;
  number_is = ap (λ (s : Started). s.number) started_is;
  task_is = task_is;
  after_is = after_is;
  priority_is = priority_is;
  refused_is = refused_is;
  made_is = made_is;
  is_front = is;
  untaken = took-untaken g started before v t;
  sights = ([], ap (λ (w : View). w.sights) sees ∙ ap (λ (w : View). w.sights) t.view_is);
  seen = grows-on before.seen v.seen new.seen t.seen seen;
  view_is = (let whole = sees ∙ (λ k. record (t.view_is k) { seen = new.seen }) in whole ∙ (λ k. record (knowing t.more (took g.checked started.unit t.class started.number t.words t.call before)) { sights = (sym whole k).sights; seen = new.seen }));
  start = subst (λ (w : View). MayStart w started.number) (sym sees) t.start;
  in_step = took-in_step g started before v t x new sees started_is task_is is;
}

-- what an exchange told, as it is kept for the value
pub took-record : (g : Setup) (u : ℕ) (ready : StateWord) (old new : Pass) (started : Started) → TakesRecord g u ready old started new → AreSound g (view old) (view new) → TookRecord g started (view old) (view new)
took-record g u ready old new started told sound = record {
  class = told.class;
  words = told.words;
  call = told.call;
  more = told.more;
  frame_is = subst (λ (w : ℕ). IsTakenFrame g w told.class told.call told.words) (sym told.unit_is) told.frame_is;
  seen = ((state u, packed_state ready) ∷ [], ap (λ (v : View). v.seen) told.view_is);
  view_is = told.view_is
      ∙ (λ k. record (knowing told.more (took g.checked (sym told.unit_is k) told.class (sym told.number_is k) told.words told.call (view old))) { seen = (state u, packed_state ready) ∷ (view old).seen })
      ∙ (λ k. record (knowing told.more (took g.checked started.unit told.class started.number told.words told.call (view old))) { seen = (sym told.view_is k).seen });
  start = subst (λ (n : ℕ). MayStart (view new) n) (sym told.number_is) told.start;
  bag = sound.before.records.bag;
  sound = sound.after;
}

-- the run of an entry
pub takes-entry : (g : Setup) (entry : Entry) (started : Started) (before new : View) (x : Running) → started.unit ≡ entry.unit → started.number ≡ entry.number
    → TakesRun g started.unit started.number entry.priority before x new → TakesRun g entry.unit entry.number entry.priority before x new
takes-entry g entry started before new x unit_is number_is takes = subst (λ (n : ℕ). TakesRun g entry.unit n entry.priority before x new) number_is (subst (λ (u : ℕ). TakesRun g u started.number entry.priority before x new) unit_is takes)

-- another word was found
pub passes-word : (g : Setup) (entry : Entry) (ready found : StateWord) (old new : Pass) → FitsEntry g.plan entry → ready ≡ word_of entry → FindsOtherState entry.unit ready old found new → Passes g entry (view old) found (view new)
passes-word g entry ready found old new fits is finds = record {
  fits = finds.fits;
  other = λ near e. finds.other (e ∙ sym is);
  sights = ([], ap (λ (v : View). v.sights) finds.view_is);
  steps = (state entry.unit, packed_state found) ∷ [];
  since = ap (λ (v : View). v.seen) finds.view_is;
  saw = λ near. (0, refl);
  outside = λ far. absurd (omega (arith, far, fits.0));
  view_is = finds.view_is ∙ (λ k. record (view old) { sights = (sym finds.view_is k).sights; seen = (sym finds.view_is k).seen });
}

pub run-sees : (g : Plan) (u : ℕ) (v w : View) (r : Run) → RunAt g u v r → w.runs ≡ v.runs → RunAt g u w r
run-sees g u v w r at same = record { is_block = at.is_block; there = ap (λ l. run_in u l) same ∙ at.there }

-- where a state word was seen, the pass keeps one sight more, or none
pub state-sights : (u : ℕ) (old new : Pass) (word : StateWord) → SeesState u old word new → Grows (view old).sights (view new).sights
state-sights u old new word sees = let v : View = view old in
    subst (λ (w : View). Grows v.sights w.sights) (sym sees) (by (nat_le 1 (times u v.futures) && (phase_of (packed_state word) == 5)))
  where
    by : (b : Bool) → Grows (view old).sights (cond b (SawDone u (packed_state word) ∷ (view old).sights) (view old).sights)
    by true = (SawDone u (packed_state word) ∷ [], refl)
    by false = grows-self (view old).sights

-- an entry whose number no word has room for, or whose unit the table has not
pub passes-number : (g : Setup) (entry : Entry) (found : StateWord) (old new : Pass) → entry.unit < units_of g.plan → 16777216 ≤ entry.number → FitsStateWord found → SeesState entry.unit old found new
    → Passes g entry (view old) found (view new)
passes-number g entry found old new near large fits sees = record {
  fits = fits;
  other = λ low e. absurd (omega (arith, fits.number_fits, large, ap (λ (w : StateWord). w.number) e));
  sights = state-sights entry.unit old new found sees;
  steps = (state entry.unit, packed_state found) ∷ [];
  since = ap (λ (v : View). v.seen) sees;
  saw = λ low. (0, refl);
  outside = λ far. absurd (omega (arith, far, near));
  view_is = sees ∙ (λ k. record (view old) { sights = (sym sees k).sights; seen = (sym sees k).seen });
}

pub passes-outside : (g : Setup) (entry : Entry) (found : StateWord) (v : View) → units_of g.plan ≤ entry.unit → FitsStateWord found → packed_state found ≡ 0 → Passes g entry v found v
passes-outside g entry found v far fits zeros = record {
  fits = fits;
  other = λ near e. absurd (omega (arith, near, far));
  sights = grows-self v.sights;
  steps = [];
  since = refl;
  saw = λ near. absurd (omega (arith, far, near));
  outside = λ _. zeros;
  view_is = refl;
}

-- what a take tells since a sweep began
pub run-since : (g : Setup) (unit number : ℕ) (priority : Priority) (old now new : View) (x : Running) → now ≡ record old { sights = now.sights; seen = now.seen } → Grows old.sights now.sights → Grows old.seen now.seen
    → TakesRun g unit number priority now x new → TakesRun g unit number priority old x new
run-since g unit number priority old now new x so sights grows t = record {
  class = t.class;
  words = t.words;
  call = t.call;
  more = t.more;
  frame_is = t.frame_is;
  unit_is = t.unit_is;
  number_is = t.number_is;
  task_is = t.task_is;
  after_is = t.after_is;
  priority_is = t.priority_is;
  refused_is = t.refused_is;
  made_is = t.made_is;
  is_front = t.is_front;
  untaken = subst (λ (v : View). HasNoNumber number v) so t.untaken;
  sights = grows-on old.sights now.sights new.sights sights t.sights;
  seen = grows-on old.seen now.seen new.seen grows t.seen;
  view_is = t.view_is ∙ (λ k. record (knowing t.more (took g.checked unit t.class number t.words t.call (so k))) { sights = new.sights; seen = new.seen });
  start = t.start;
  in_step = t.in_step;
}

front-stays : {A : Type 0} (x : A) (front back : List A) → Has x front → Has x (front ++ back)
front-stays x [] back has = absurd (none_there x has.1)
front-stays x (y ∷ front) back (zero, at) = (0, at)
front-stays x (y ∷ front) back (suc k, at) = let t = front-stays x front back (k, at) in (suc t.0, t.1)

pub passes-since : (g : Setup) (entry : Entry) (found : StateWord) (old now new : View) → now ≡ record old { sights = now.sights; seen = now.seen } → Grows old.sights now.sights → Grows old.seen now.seen → Passes g entry now found new
    → Passes g entry old found new
passes-since g entry found old now new so sights grows t = record {
  fits = t.fits;
  other = t.other;
  sights = grows-on old.sights now.sights new.sights sights t.sights;
  steps = t.steps ++ grows.0;
  since = t.since ∙ ap (λ l. t.steps ++ l) grows.1 ∙ sym (append_assoc t.steps grows.0 old.seen);
  saw = λ near. front-stays (state entry.unit, packed_state found) t.steps grows.0 (t.saw near);
  outside = t.outside;
  view_is = t.view_is ∙ (λ k. record (so k) { sights = new.sights; seen = new.seen });
}

-- since a word of spills was seen before a sweep
ready-since : (entry : Entry) (old now new : View) → Grows old.seen now.seen → SawReady entry now new → SawReady entry old new
ready-since entry old now new grows s = (
  s.0 ++ grows.0,
  s.1,
  s.2 ∙ ap (λ l. s.0 ++ l) grows.1 ∙ sym (append_assoc s.0 grows.0 old.seen),
  front-stays (state entry.unit, packed_state s.1) s.0 grows.0 s.3,
  s.4,
  s.5,
  s.6,
)

none-since : (g : Setup) (old now new : View) → Grows old.seen now.seen → SawNoneReady g now new → SawNoneReady g old new
none-since g old now new grows none u low = let s = none u low in (
  s.0 ++ grows.0,
  s.1,
  s.2 ∙ ap (λ l. s.0 ++ l) grows.1 ∙ sym (append_assoc s.0 grows.0 old.seen),
  front-stays (state u, packed_state s.1) s.0 grows.0 s.3,
  s.4,
)

back-has : {A : Type 0} (x : A) (front back : List A) → Has x back → Has x (front ++ back)
back-has x [] back has = has
back-has x (y ∷ front) back has = let t = back-has x front back has in (suc t.0, t.1)

spill-since : (found : ℕ) (old now new : View) → now ≡ saw (sum 4) found old → found ≢ 0 → Grows now.seen new.seen → SawSpill old new
spill-since found old now new so other grows = (
  grows.0 ++ (sum 4, found) ∷ [],
  found,
  grows.1 ∙ ap (λ l. grows.0 ++ l) (ap (λ (v : View). v.seen) so) ∙ sym (append_assoc grows.0 ((sum 4, found) ∷ []) old.seen),
  back-has (sum 4, found) grows.0 ((sum 4, found) ∷ []) (0, refl),
  other,
)

pub spilled-since : (g : Setup) (found : ℕ) (old now new : View) (told : Taken) → now ≡ saw (sum 4) found old → found ≢ 0 → Sweeps g now told new → TakesSpilled g old told new
spilled-since g found old now new (taken.Task x) so other t =
    let since : now ≡ record old { sights = now.sights; seen = now.seen } = so ∙ (λ k. record old { sights = (sym so k).sights; seen = (sym so k).seen }) in let grows : Grows old.seen now.seen = ((sum 4, found) ∷ [], ap (λ (v : View). v.seen) so) in (
      spill-since found old now new so other t.2.seen,
      (t.0, ready-since t.0 old now new grows t.1, run-since g (t.0).unit (t.0).number (t.0).priority old now new x since ([], ap (λ (v : View). v.sights) so) grows t.2),
    )
spilled-since g found old now new (taken.Passed entry word) so other t =
    let since : now ≡ record old { sights = now.sights; seen = now.seen } = so ∙ (λ k. record old { sights = (sym so k).sights; seen = (sym so k).seen }) in let grows : Grows old.seen now.seen = ((sum 4, found) ∷ [], ap (λ (v : View). v.seen) so) in (
      spill-since found old now new so other ((t.1).steps, (t.1).since),
      (ready-since entry old now new grows t.0, passes-since g entry word old now new since ([], ap (λ (v : View). v.sights) so) grows t.1),
    )
spilled-since g found old now new taken.Empty so other t =
    let since : now ≡ record old { sights = now.sights; seen = now.seen } = so ∙ (λ k. record old { sights = (sym so k).sights; seen = (sym so k).seen }) in let grows : Grows old.seen now.seen = ((sum 4, found) ∷ [], ap (λ (v : View). v.seen) so) in (
      inr (none-since g old now new grows t.0),
      grows-on old.sights now.sights new.sights ([], ap (λ (v : View). v.sights) so) t.1,
      t.2 ∙ (λ k. record (since k) { sights = new.sights; seen = new.seen }),
    )

pub no-spill : (g : Setup) (found : ℕ) (old now : View) → now ≡ saw (sum 4) found old → found ≡ 0 → TakesSpilled g old taken.Empty now
no-spill g found old now so zeros = (
  inl ((sum 4, 0) ∷ [], ap (λ (v : View). v.seen) so ∙ ap (λ (n : ℕ). (sum 4, n) ∷ old.seen) zeros, (0, refl)),
  ([], ap (λ (v : View). v.sights) so),
  so ∙ (λ k. record old { sights = (sym so k).sights; seen = (sym so k).seen }),
)

-- a take from the spilled entries is one of a call that found all queues empty
pub takes-spilled : (g : Setup) (lanes begun : ℕ) (saw : Moment → Type 0) (old new : View) (told : Taken) → TellsTake lanes begun saw None → TakesSpilled g old told new → Takes g lanes begun saw old told new
takes-spilled g lanes begun saw old new (taken.Task x) none t = inr (none, t)
takes-spilled g lanes begun saw old new (taken.Passed entry word) none t = inr (none, t)
takes-spilled g lanes begun saw old new taken.Empty none t = (none, t)
