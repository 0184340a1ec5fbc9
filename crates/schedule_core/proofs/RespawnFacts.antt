-- A running task goes on by a next activation: what is asked for is met, and what is told follows.
use Rattle.std.proofs.Common.{◌≡◌, ◌∙◌, ℕ, zero, suc, ◌+◌, ◌^◌, ◌<◌, ◌≤◌, ◌==◌, Bool, cond, Option, Some, None, List, [], ◌∷◌, ◌++◌, length, refl, sym, ap, subst, append_assoc, arith}
use Rattle.std.specs.Prelude.{IfSome, slice_get, slice_index}
use Rattle.std.proofs.lemmas.Bool.{eq-eqb}
use Rattle.std.proofs.lemmas.Option.{none-some, same_Some, slice_get_within}
use Rattle.record_core.specs.Counting.{At, Has, times, one_if, dropped}
use Rattle.record_core.proofs.CountFacts.{times-some}
use Rattle.record_core.proofs.TotalFacts.{total-append, total-member}
use Rattle.kt_words.specs.declared.plan.Plan.{Plan}
use Rattle.task_syntax.specs.declared.columns.Columns.{Columns}
use Rattle.task_syntax.specs.declared.program.Program.{Program}
use Rattle.task_syntax.specs.declared.value.Priority.{Priority}
use Rattle.task_meaning.specs.Meant.{future_at}
use Rattle.task_meaning.specs.Worths.{Respawn}
use Rattle.ready_queues.specs.declared.entry.Entry.{Entry}
use Rattle.frame_code.specs.Frames.{IsFrame}
use Rattle.frame_code.specs.Moves.{MayEnter}
use Rattle.frame_code.specs.Names.{names_of, present}
use Rattle.frame_code.specs.Units.{named_in, entered_held, AreParts}
use Rattle.frame_code.specs.Units as units
use Rattle.frame_code.specs.Ways.{BodyHasWay}
use Rattle.frame_code.specs.Words.{BodyOf, OfKind, OfMembers, body_at, body_of}
use Rattle.frame_code.specs.declared.act.RespawnRequest.{RespawnRequest}
use Rattle.frame_code.specs.Members.{member_act}
use Rattle.frame_code.specs.declared.act.Act.{Act}
use Rattle.frame_code.specs.declared.act.Act.TheVariants as act
use Rattle.frame_code.proofs.AllowedMoves.{stop-allows, member-allows}
use Rattle.table_core.specs.Addresses.{Addr, units_of}
use Rattle.table_core.specs.Asking.{OfTask}
use Rattle.table_core.specs.Holdings.{Run}
use Rattle.table_core.specs.Lists.{Each}
use Rattle.table_core.specs.Story.{Fact, IsAccepted}
use Rattle.table_core.specs.WaitViews.{is_run_at}
use Rattle.table_core.specs.declared.setup.Setup.{Setup}
use Rattle.table_core.specs.declared.view.View.{View}
use Rattle.table_core.proofs.BagFacts.{one-here}
use Rattle.table_core.proofs.ReferenceBound.{units-few}
use Rattle.schedule_rule.specs.DrawViews.{ask_again, asking_again, drawn_for}
use Rattle.schedule_rule.specs.Frames.{HoldsNames, BagSound}
use Rattle.schedule_rule.specs.LifeViews.{answers_left}
use Rattle.schedule_rule.specs.PlacingViews.{less, is_drawn, IsNextFrame}
use Rattle.schedule_rule.specs.SoundViews.{SoundRecords, IsRunFrame}
use Rattle.schedule_rule.proofs.CoveringFacts.{more-cover}
use Rattle.schedule_rule.proofs.PlacingFacts.{times-less}
use Rattle.schedule_rule.proofs.PlacingFactsFrames.{next-short}
use Rattle.step_table.specs.Lookups.{run_in}
use Rattle.step_table.specs.RecordHands.{RunAt, HasFuture}
use Rattle.step_table.proofs.LookupFacts.{run-there}
use Rattle.step_table.specs.PlacingSteps.{placing_of}
use Rattle.schedule_core.specs.Making.{task_behind, waits_behind}
use Rattle.schedule_core.specs.SeenTasks.{unit_behind}
use Rattle.schedule_core.specs.NextNumbers.{IsNextUnit, HasNumber, MetLimitNext, SawBehind}
use Rattle.schedule_core.specs.NextPlaces.{MayPlaceBehind, PlacesAgain}
use Rattle.schedule_core.specs.References.{MayDropEach, DropsEach}
use Rattle.schedule_core.specs.Respawning.{unit_next, AsksAgain, AsksOnNull, HasRespawned, IsLimited, limited}
use Rattle.schedule_core.specs.Runs.{IsTask, IsSameState, IsInStep}
use Rattle.schedule_core.specs.declared.making.Behind.{Behind}
use Rattle.schedule_core.specs.declared.running.Running.{Running}
use Rattle.schedule_core.proofs.ChangedRuns.{dropped-changed, first-changed}
use Rattle.schedule_core.proofs.EachFacts.{grows-on, no-heads-none}
use Rattle.schedule_core.proofs.Joining.{has-grown}
use Rattle.schedule_core.proofs.LessParts.{less-append, less-same, less-long}
use Rattle.schedule_core.proofs.Placing.{drawn-later, enters-later, enters-more}

-- the two counts of a unit in a list are one
units-times : (u : ℕ) (l : List ℕ) → units.times u l ≡ times u l
units-times u [] = refl
units-times u (x ∷ l) = ap (λ (n : ℕ). one_if (x == u) + n) (units-times u l)

-- what was given up and what is named afterwards is what was named
pub parts-are : (given left whole : List ℕ) → AreParts given left whole → (w : ℕ) → times w given + times w left ≡ times w whole
parts-are given left whole parts w = omega (arith, parts w, units-times w given, units-times w left, units-times w whole)

-- the frame that a task enters is that of a next activation
pub next-entered : (p : Program) (target : ℕ) (a b c : BodyOf ℕ) → IsSameState a b → c ≡ entered_held p target b → BodyHasWay p c → IsNextFrame p a c
next-entered p target (OfKind q) (OfKind now) c same is way =
    subst (λ (x : BodyOf ℕ). IsNextFrame p (OfKind q) x) (sym is) (same.0, subst (BodyHasWay p) is way)
next-entered p target (OfMembers us at) (OfMembers vs next) c same is way =
    subst (λ (x : BodyOf ℕ). IsNextFrame p (OfMembers us at) x) (sym is) (same.0, ap (λ (n : ℕ). n + 1) same.1)
next-entered p target (OfKind q) (OfMembers vs next) c same is way = absurd same
next-entered p target (OfMembers us at) (OfKind now) c same is way = absurd same

-- and so is the frame as it stands, of a task
pub next-stays : (p : Program) (a b : BodyOf ℕ) → IsSameState a b → BodyHasWay p b → IsTask b → IsNextFrame p a b
next-stays p (OfKind q) (OfKind now) same way single = (same.0, way)
next-stays p (OfMembers us at) (OfMembers vs next) same way single = absurd single
next-stays p (OfKind q) (OfMembers vs next) same way single = absurd same
next-stays p (OfMembers us at) (OfKind now) same way single = absurd same

-- a task that asks for its next activation may enter the state that it names
pub may-enter : (p : Program) (c : Columns) (request : RespawnRequest) (b : BodyOf ℕ) → AsksAgain p c request b → MayEnter p request.target b
may-enter p c request (OfKind q) asks = stop-allows p c q (act.Again request) asks
may-enter p c request (OfMembers us n) asks = member-allows p us n (act.Again request) asks

-- what an aggregate asks for is to be behind its next member
pub record AsksMember (us : List ℕ) (n : ℕ) (request : RespawnRequest) : Type 0 where
  pub unit : ℕ
  pub there : At us n unit
  pub behind_is : request.behind ≡ Some n

abbrev behind-of : Act → Option ℕ
behind-of (act.Again request) = request.behind
behind-of _ = None

asks-member : (us : List ℕ) (n : ℕ) (request : RespawnRequest) → member_act (slice_get us n) n ≡ act.Again request → AsksMember us n request
asks-member us n request asks = by (slice_get us n) refl asks
  where
    by : (o : Option ℕ) → slice_get us n ≡ o → member_act o n ≡ act.Again request → AsksMember us n request
    by None is asks' = cc
    by (Some u) is asks' = record { unit = u; there = is; behind_is = sym (ap behind-of asks') }

-- so its next activation is behind that member
pub asks-next : (p : Program) (c : Columns) (request : RespawnRequest) (b : BodyOf ℕ) → AsksAgain p c request b → IsNextUnit (unit_next b request.behind) b
asks-next p c request (OfKind q) asks = tt
asks-next p c request (OfMembers us n) asks =
    let m = asks-member us n request asks in (m.unit, m.there, ap (λ (o : Option ℕ). unit_next (OfMembers us n) o) m.behind_is ∙ m.there)

-- and what it names is one of its members
pub member-name : (us : List ℕ) (n : ℕ) (request : RespawnRequest) → member_act (slice_get us n) n ≡ act.Again request → IfSome request.behind (λ position. position < length us)
member-name us n request asks =
    let m = asks-member us n request asks in subst (λ (o : Option ℕ). IfSome o (λ position. position < length us)) (sym m.behind_is) (slice_get_within us n m.unit m.there)

-- what is tried again is a task's act
pub null-single : (p : Program) (c : Columns) (b : BodyOf ℕ) → AsksOnNull p c b → IsTask b
null-single p c (OfKind q) asks = tt
null-single p c (OfMembers us n) asks = absurd asks

-- whose next activation may be behind none
pub null-next : (p : Program) (c : Columns) (b : BodyOf ℕ) → AsksOnNull p c b → IsNextUnit None b
null-next p c (OfKind q) asks = tt
null-next p c (OfMembers us n) asks = absurd asks

-- what a variable names is among what the frame names
pub named-there : (b : BodyOf ℕ) (x : Option ℕ) (u : ℕ) → unit_next b x ≡ Some u → 1 ≤ times u (names_of b)
named-there (OfKind q) None u is = absurd (none-some u is)
named-there (OfKind q) (Some x) u is = by q.futures x is
  where
    by : (fs : List (Option ℕ)) (y : ℕ) → future_at fs y ≡ Some u → 1 ≤ times u (present fs)
    by [] y named = absurd (none-some u named)
    by (None ∷ fs) zero named = absurd (none-some u named)
    by (Some w ∷ fs) zero named = omega (arith, ap one_if (eq-eqb w u (same_Some w u named)))
    by (None ∷ fs) (suc y) named = by fs y named
    by (Some w ∷ fs) (suc y) named = omega (arith, by fs y named)
named-there (OfMembers us n) None u is = absurd (none-some u is)
named-there (OfMembers us n) (Some k) u is = omega (arith, total-member (λ (x : ℕ). one_if (x == u)) us k u is, one-here u)

-- references of a sound view are to records of the table
pub near-each : (g : Setup) (v : View) (us : List ℕ) → SoundRecords g v → ((w : ℕ) → times w us ≤ times w v.futures) → Each (λ u. u < units_of g.plan) us
near-each g v us sound few k u at =
    let there = (times-some u v.futures).0 (omega (arith, few u, total-member (λ (x : ℕ). one_if (x == u)) us k u at, one-here u)) in
    sound.near there.0 u there.1

-- what was seen is seen among more steps
saw-more : (behind : Option Behind) (front steps : List (Addr × ℕ)) → SawBehind behind steps → SawBehind behind (front ++ steps)
saw-more None front steps saw = tt
saw-more (Some b) front steps saw = has-grown _ steps (front ++ steps) front refl saw

module _ (g : Setup) (x : Running) (wanted : Option ℕ) (number : ℕ) (behind : Option Behind) (base v : View) (in_step : IsInStep g x base) (has : HasNumber g x wanted number behind base v) where
  abbrev p : Program
  p = g.checked

  abbrev u : ℕ
  u = x.started.unit

  abbrev old : List ℕ
  old = named_in p x.frame.items

  -- the run that asked for its next number
  abbrev asker : Run
  asker = ask_again in_step.run

  runs-are : v.runs ≡ asking_again u base.runs
  runs-are = ap (λ (z : View). z.runs) has.view_is

  futures-are : v.futures ≡ base.futures
  futures-are = ap (λ (z : View). z.futures) has.view_is

  pub at-asker : RunAt g.plan u v asker
  at-asker = record {
    is_block = in_step.at.is_block;
    there = ap (run_in u) runs-are ∙ first-changed (is_run_at u) ask_again (λ r. refl) base.runs in_step.run in_step.at.there;
  }

  runs-left : dropped (is_run_at u) v.runs ≡ dropped (is_run_at u) base.runs
  runs-left = ap (dropped (is_run_at u)) runs-are ∙ dropped-changed (is_run_at u) ask_again (λ r. refl) base.runs

  asker-frame : IsRunFrame g asker
  asker-frame = let t = (run-there u v.runs asker at-asker.there).0 in has.sound.records.frames t.0 asker t.1

  -- the pass has the references of the frame
  pub old-few : (w : ℕ) → times w old ≤ times w v.futures
  old-few w = omega (arith, in_step.spare.there w, ap (λ (l : List ℕ). times w l) futures-are)

  module _ (next given : List ℕ) (frame : IsFrame p next) (is_next : IsNextFrame p (body_at p (slice_index in_step.run.words)) (body_of p next)) (its_names : HoldsNames p (body_of p next)) (parts : (w : ℕ) → times w given + times w (named_in p next) ≡ times w old) where
    abbrev names : List ℕ
    names = named_in p next

    names-few : (w : ℕ) → times w names ≤ times w v.futures
    names-few w = omega (arith, parts w, old-few w)

    -- the next activation may be placed
    pub may-place : MayPlaceBehind g u number behind next v
    may-place = record {
      may = record {
        run = asker;
        at = at-asker;
        last = ap (λ (n : ℕ). n + 1) in_step.placed;
        within = has.within.1;
        drawn = (0, ap (λ (z : View). slice_get z.drawn 0) has.view_is ∙ ap (λ (t : ℕ). Some (drawn_for number u (OfTask t))) (sym in_step.task_is));
        task_row = has.task_row;
        after_row = has.after_row;
        accepted = subst (λ (t : ℕ). Has (IsAccepted number (Respawn t (task_behind behind))) v.facts) (sym in_step.task_is) has.accepted;
        frame = frame;
        fits = omega (arith, frame.size, next-short p next frame in_step.run.words is_next, asker-frame.fits);
        next = is_next;
        names = its_names;
        spare = record {
          there = names-few;
          bag = subst (BagSound p) (λ k. record { futures = less (sym futures-are k) names; runs = sym runs-left k })
              (more-cover p (dropped (is_run_at u) base.runs) (less base.futures old) (less base.futures names)
              (λ w. omega (
                arith,
                parts w,
                times-less w base.futures old in_step.spare.there,
                times-less w base.futures names (λ y. omega (arith, parts y, in_step.spare.there y)),
              ))
              in_step.spare.bag);
        };
      };
      predecessor = has.knows;
    }

    -- what is left once the frame's references and the others are given up
    left-are : less (less v.futures names) given ≡ less base.futures old
    left-are = ap (λ (l : List ℕ). less (less l names) given) futures-are ∙ sym (less-append base.futures names given)
        ∙ less-same base.futures (names ++ given) old (λ w. omega (arith, parts w, total-append (λ (y : ℕ). one_if (y == w)) names given))

    module _ (priority : Priority) (told : Option Entry) (z : View) (places : PlacesAgain g u number priority behind next v told z) where
      placed : z ≡ record v {
        runs = dropped (is_run_at u) v.runs;
        known = z.known;
        futures = less v.futures names;
        sights = z.sights;
        drawn = dropped (is_drawn number) v.drawn;
        placings = placing_of (waits_behind behind) u number priority next ∷ v.placings;
        answers = answers_left asker.task v.answers;
        facts = z.facts;
        settles = z.settles;
        tries = z.tries;
        seen = z.seen;
      }
      placed = places.view_is asker at-asker

      futures-placed : z.futures ≡ less v.futures names
      futures-placed = ap (λ (s : View). s.futures) placed

      -- the references that the next frame does not name may be given up
      pub may-give : MayDropEach g given z
      may-give = record {
        near = near-each g v given has.sound.records (λ w. omega (arith, parts w, old-few w));
        there = λ w. omega (arith, parts w, old-few w, times-less w v.futures names names-few, ap (λ (l : List ℕ). times w l) futures-placed);
        bag = subst (BagSound p) (λ k. record { futures = sym (ap (λ (l : List ℕ). less l given) futures-placed ∙ left-are) k; runs = sym (ap (λ (s : View). s.runs) placed ∙ runs-left) k }) in_step.spare.bag;
      }

      module _ (e : View) (drops : DropsEach given z e) where
        -- as many references fewer as the frame named
        pub left-long : length e.futures + length old ≡ length v.futures
        left-long = omega (
          arith,
          ap (λ (s : View). length s.futures) drops.view_is,
          ap (λ (l : List ℕ). length (less l given)) futures-placed,
          ap length left-are,
          less-long base.futures old in_step.spare.there,
          ap length futures-are,
        )

        -- the task goes on
        pub gone-on : (IsNext : List ℕ → Type 0) → IsNext next → HasRespawned g x wanted priority IsNext base told e
        gone-on IsNext is_one = record {
          number = number;
          behind = behind;
          behind_is = has.behind_is;
          placed = record {
            within = has.within;
            steps = drops.seen.0 ++ (places.steps ++ has.steps);
            since = drops.seen.1 ∙ ap (λ (l : List (Addr × ℕ)). drops.seen.0 ++ l) (places.since ∙ ap (λ (l : List (Addr × ℕ)). places.steps ++ l) has.since ∙ sym (append_assoc places.steps has.steps base.seen))
                ∙ sym (append_assoc drops.seen.0 (places.steps ++ has.steps) base.seen);
            drawn = drawn-later number drops.seen.0 (places.steps ++ has.steps) (drawn-later number places.steps has.steps has.drawn);
            enters = enters-later u number priority behind told drops.seen.0 (places.steps ++ has.steps) drops.elsewhere (enters-more u number priority behind told places.steps has.steps places.enters);
          };
          words = next;
          is_frame = frame;
          next = is_one;
          saw = saw-more behind drops.seen.0 (places.steps ++ has.steps) (saw-more behind places.steps has.steps has.saw);
          facts = (
            places.facts.0 ++ has.facts.0,
            ap (λ (s : View). s.facts) drops.view_is ∙ places.facts.1 ∙ ap (λ (l : List Fact). places.facts.0 ++ l) has.facts.1 ∙ sym (append_assoc places.facts.0 has.facts.0 base.facts),
          );
          settles = grows-on base.settles z.settles e.settles (places.settles.0, places.settles.1 ∙ ap (λ (s : View). places.settles.0 ++ s.settles) has.view_is) drops.settles;
          view_is = all ∙ (λ k. record base {
            runs = dropped-changed (is_run_at u) ask_again (λ r. refl) base.runs k;
            known = (sym all k).known;
            futures = left-base k;
            sights = (sym all k).sights;
            drawn = drawn-gone k;
            calls = (number, Respawn x.task (task_behind behind)) ∷ base.calls;
            may_draw = 0;
            placings = placing_of (waits_behind behind) u number priority next ∷ base.placings;
            answers = answers_left (in_step.task_is k) base.answers;
            facts = (sym all k).facts;
            settles = (sym all k).settles;
            tries = (sym all k).tries;
            seen = (sym all k).seen;
          });
        }
          where
            left-base : less (less base.futures names) given ≡ less base.futures old
            left-base = ap (λ (l : List ℕ). less (less l names) given) (sym futures-are) ∙ left-are

            drawn-gone : dropped (is_drawn number) (drawn_for number u (OfTask x.task) ∷ base.drawn) ≡ base.drawn
            drawn-gone = ap (λ (b : Bool). cond b base.drawn (drawn_for number u (OfTask x.task) ∷ dropped (is_drawn number) base.drawn)) (eq-eqb number number refl)

            all : e ≡ record base {
              runs = dropped (is_run_at u) (asking_again u base.runs);
              known = z.known;
              futures = less (less base.futures names) given;
              sights = e.sights;
              drawn = dropped (is_drawn number) (drawn_for number u (OfTask x.task) ∷ base.drawn);
              calls = (number, Respawn x.task (task_behind behind)) ∷ base.calls;
              may_draw = 0;
              placings = placing_of (waits_behind behind) u number priority next ∷ base.placings;
              answers = answers_left in_step.run.task base.answers;
              facts = z.facts;
              settles = e.settles;
              tries = z.tries;
              seen = e.seen;
            }
            all = drops.view_is
                ∙ (λ k. record (placed k) { futures = less (placed k).futures given; sights = e.sights; settles = e.settles; seen = e.seen })
                ∙ (λ k. record (has.view_is k) {
                  runs = dropped (is_run_at u) (has.view_is k).runs;
                  known = z.known;
                  futures = less (less (has.view_is k).futures names) given;
                  sights = e.sights;
                  drawn = dropped (is_drawn number) (has.view_is k).drawn;
                  placings = placing_of (waits_behind behind) u number priority next ∷ (has.view_is k).placings;
                  answers = answers_left in_step.run.task (has.view_is k).answers;
                  facts = z.facts;
                  settles = e.settles;
                  tries = z.tries;
                  seen = e.seen;
                })

-- the task that met the limit runs as before
pub met-in_step : (g : Setup) (x : Running) (old new : View) → IsInStep g x old → MetLimitNext g x.task old new → IsLimited g x old (limited x) new
met-in_step g x old new s met = record {
  back_is = refl;
  met = met;
  in_step = record {
    run = s.run;
    at = record { is_block = s.at.is_block; there = ap (λ (z : View). run_in x.started.unit z.runs) met.view_is ∙ s.at.there };
    number_is = s.number_is;
    task_is = s.task_is;
    placed = s.placed;
    unasked = s.unasked;
    frame = s.frame;
    way = s.way;
    names = s.names;
    same = s.same;
    spare = record {
      there = λ w. omega (arith, s.spare.there w, ap (λ (z : View). times w z.futures) met.view_is);
      bag = subst (BagSound g.checked) (λ k. record { futures = less (sym met.view_is k).futures (named_in g.checked x.frame.items); runs = dropped (is_run_at x.started.unit) (sym met.view_is k).runs }) s.spare.bag;
    };
  };
}

-- the pass has a reference to the record of what a task is to be behind
pub has-wanted : (g : Setup) (items : List ℕ) (x : Option ℕ) (v : View) → SoundRecords g v → ((w : ℕ) → times w (named_in g.checked items) ≤ times w v.futures)
    → IfSome (unit_next (body_of g.checked items) x) (λ u. HasFuture g.plan u v)
has-wanted g items x v sound few = by (unit_next (body_of g.checked items) x) refl
  where
    by : (o : Option ℕ) → unit_next (body_of g.checked items) x ≡ o → IfSome o (λ u. HasFuture g.plan u v)
    by None e = tt
    by (Some u) e =
        let some : 1 ≤ times u v.futures = omega (arith, few u, named-there (body_of g.checked items) x u e) in
        let there = (times-some u v.futures).0 some in
        record { near = sound.near there.0 u there.1; there = some }

-- whose unit fits into a word
pub small-wanted : (g : Plan) (o : Option ℕ) (v : View) → IfSome o (λ u. HasFuture g u v) → IfSome o (λ u. u < 2 ^ 32)
small-wanted g None v has = tt
small-wanted g (Some u) v has = omega (arith, has.near, units-few g)

-- what a step that only draws leaves of the references
pub opened-few : (g : Setup) (x : Running) (base v : View) → IsInStep g x base → v.futures ≡ base.futures → (w : ℕ) → times w (named_in g.checked x.frame.items) ≤ times w v.futures
opened-few g x base v s same w = omega (arith, s.spare.there w, ap (λ (l : List ℕ). times w l) same)

-- nothing is given up
pub drops-none : (v : View) → DropsEach [] v v
drops-none v = record { settles = ([], refl); seen = ([], refl); elsewhere = no-heads-none; view_is = refl }

-- what is behind no unit is behind nothing
pub behind-none : (behind : Option Behind) → unit_behind behind ≡ None → behind ≡ None
behind-none None is = refl
behind-none (Some b) is = absurd (none-some b.unit (sym is))
