-- A seated frame stays seated over each line that it passes.
use Rattle.std.proofs.Common.{◌≡◌, ℕ, ◌+◌, ◌<◌, Bool, true, false, cond, nat_eq, Option, Some, None, List, [], ◌∷◌, length, map, slice_get, refl, sym, ◌∙◌, ap, subst, ◌⊎◌, inl, inr, arith}
use Rattle.std.specs.Prelude.{IsTrue}
use Rattle.std.specs.Option.{option_map}
use Rattle.std.proofs.lemmas.Bool.{eqb-true}
use Rattle.std.proofs.lemmas.Option.{none-some}
use Rattle.task_syntax.specs.Facts.{Facts, has, after as facts_after}
use Rattle.task_syntax.specs.Places.{instr_at}
use Rattle.task_syntax.specs.Form.{IsWellFormed, IsFormedInstr, IsFormedState, Leaves}
use Rattle.task_syntax.specs.Valid.{Way, goes_on, jumps, JumpsTo, IsSoundInstr, IsValid}
use Rattle.task_syntax.proofs.Bools.{either, has-first, has-rest}
use Rattle.task_syntax.specs.declared.instr.Instr.TheVariants.{Spawn, All, Get}
use Rattle.task_syntax.specs.declared.instr.Line.{Line}
use Rattle.task_syntax.specs.declared.program.Program.{Program}
use Rattle.task_syntax.specs.declared.columns.Columns.{Columns}
use Rattle.task_syntax.specs.declared.value.Value.{Value}
use Rattle.task_meaning.specs.Meant.{future_at}
use Rattle.task_meaning.specs.Frame.{FrameOf, CallOf, code_in, state_in, code_at, set_number, set_future}
use Rattle.task_meaning.specs.Acts.{Steps, Calls, Gathers, Reads, act_of}
use Rattle.task_meaning.specs.Worths.{Accepted, OfAll}
use Rattle.frame_code.proofs.Formed.{line-follows, jump-label, instr-within}
use Rattle.record_core.specs.Numbers.{by_number, found}
use Rattle.run_model.specs.State.{Gave, Run}
use Rattle.run_model.specs.Step.{Request, task_list, tasks_named}
use Rattle.run_model.specs.Move.{Goes, Asks}
use Rattle.run_model.proofs.FramesInvariant.{IsGiven, WillGive, IsSeated}
use Rattle.run_model.proofs.FutureFacts.{Meets, meets_renewed}
use Rattle.run_model.proofs.LineFacts.{Onward, number_onward, future_onward, steps_onward, shape_of, future_within}

-- what a run knows of tasks stays known in a later one
pub record Grows (r s : Run) : Type 0 where
  pub gave : (u : ℕ) (v : Value) → found r.outcomes u ≡ Some (Gave v) → found s.outcomes u ≡ Some (Gave v)
  pub calls : (n : ℕ) (call : Accepted) → by_number r.calls n ≡ Some call → by_number s.calls n ≡ Some call

-- a value that was given stays given
pub given_grows : (r s : Run) (u : ℕ) → Grows r s → IsGiven r u → IsGiven s u
given_grows r s u grows (v, e) = (v, grows.gave u v e)

-- and what will be given, still will be
pub will_grows : (r s : Run) (after : Option ℕ) (u : ℕ) → Grows r s → WillGive r after u → WillGive s after u
will_grows r s after u grows (inl given) = inl (given_grows r s u grows given)
will_grows r s after u grows (inr (inl e)) = inr (inl e)
will_grows r s after u grows (inr (inr (a, members, e, call, among))) = inr (inr (a, members, e, grows.calls a (OfAll members) call, among))

-- what is settled gave a value, or will
abbrev pub Given : Run → Option ℕ → Bool → ℕ → Type 0
Given r after started u = cond started (IsGiven r u) (WillGive r after u)

-- a task is a member of an aggregate
abbrev pub Among : Run → ℕ → ℕ → Type 0
Among r a u = (listed : List ℕ) × (by_number r.calls a ≡ Some (OfAll listed)) × IsTrue (has u listed)

abbrev pub MeetsIn : Run → Option ℕ → Bool → Facts → List (Option ℕ) → Type 0
MeetsIn r after started f fs = Meets (Given r after started) (Among r) f fs

-- a seated frame stays seated where more is known
pub seat_grows : (p : Program) (r s : Run) (after : Option ℕ) (started : Bool) (q : FrameOf ℕ) → Grows r s → IsSeated p r after started q → IsSeated p s after started q
seat_grows p r s after started q grows now = record {
  kind = now.kind;
  state = now.state;
  facts = now.facts;
  is_kind = now.is_kind;
  is_state = now.is_state;
  way = now.way;
  within = now.within;
  numbers = now.numbers;
  futures = now.futures;
  held = now.held;
  settled = λ x u h e. by u started (now.settled x u h e);
  members = λ g x a u h e k. let (listed, call, among) = now.members g x a u h e k in (listed, grows.calls a (OfAll listed) call, among);
}
  where
    by : (u : ℕ) (b : Bool) → cond b (IsGiven r u) (WillGive r after u) → cond b (IsGiven s u) (WillGive s after u)
    by u true given = given_grows r s u grows given
    by u false will = will_grows r s after u grows will

module _ (p : Program) (formed : IsWellFormed p) (valid : IsValid p) (c : Columns) (s : Run) (after : Option ℕ) (started : Bool) (q : FrameOf ℕ) (seat : IsSeated p s after started q) where
  -- the futures of a seated frame meet the facts of its way
  pub seat_meets : MeetsIn s after started seat.facts q.futures
  seat_meets = record { held = seat.held; settled = seat.settled; members = seat.members }

  -- its state is formed
  pub seat_state : IsFormedState p seat.kind seat.state
  seat_state = (formed.kinds q.kind seat.kind seat.is_kind).states q.state seat.state seat.is_state

  -- its lines are those of its state
  pub seat_code : code_at p q.kind q.state ≡ seat.state.code
  seat_code = ap (λ o. code_in (state_in o q.state)) seat.is_kind ∙ ap code_in seat.is_state

  -- the line at which the frame stands is formed and sound
  module _ (line : Line) (there : slice_get (code_at p q.kind q.state) q.at ≡ Some line) where
    -- a seated frame stands at a line
    pub seat_line : slice_get seat.state.code q.at ≡ Some line
    seat_line = ap (λ (ls : List Line). slice_get ls q.at) (sym seat_code) ∙ there

    -- and at an instruction
    pub seat_instr : instr_at seat.state q.at ≡ Some line.instr
    seat_instr = ap (option_map (λ (l : Line). l.instr)) seat_line

    -- the instruction is well formed
    pub seat_formed : IsFormedInstr p seat.kind seat.state q.at line.instr
    seat_formed = seat_state.instrs q.at line seat_line

    -- the instruction is sound
    pub seat_sound : IsSoundInstr p seat.kind seat.state q.at line.instr
    seat_sound = ((valid.kinds q.kind seat.kind seat.is_kind).states q.state seat.state seat.is_state).instrs q.at line.instr seat_instr

    -- the frame that goes on is seated
    seat_onward : (next : FrameOf ℕ) → Onward (Given s after started) (Among s) line.instr seat.facts q next → IsSeated p s after started next
    seat_onward next on = by on.goes
      where
        seated : (f : Facts) → Way seat.state next.at f → next.at < length seat.state.code → MeetsIn s after started f next.futures → IsSeated p s after started next
        seated f way within meets = record {
          kind = seat.kind;
          state = seat.state;
          facts = f;
          is_kind = ap (slice_get p.kinds) on.kind ∙ seat.is_kind;
          is_state = ap (slice_get seat.kind.states) on.state ∙ seat.is_state;
          way = way;
          within = within;
          numbers = on.numbers ∙ seat.numbers;
          futures = on.futures ∙ seat.futures;
          held = meets.held;
          settled = meets.settled;
          members = meets.members;
        }

        by : ((next.at ≡ q.at + 1) × ¬ Leaves line.instr × MeetsIn s after started (facts_after line.instr seat.facts) next.futures) ⊎ (JumpsTo line.instr next.at × MeetsIn s after started seat.facts next.futures)
            → IsSeated p s after started next
        by (inl (e, stays, meets)) =
            seated (facts_after line.instr seat.facts) (subst (λ n. Way seat.state n (facts_after line.instr seat.facts)) (sym e) (goes_on line.instr seat.way seat_instr stays))
            (let further = line-follows p seat.kind seat.state q.at line seat_state seat_line stays in omega (arith, e, further)) meets
        by (inr (jump, meets)) =
            seated seat.facts (jumps line.instr next.at seat.way seat_instr jump)
            (let label = jump-label p seat.kind seat.state q.at next.at line.instr seat_formed jump in instr-within seat.state next.at label.1.0 label.1.1) meets

    -- by a line of its own
    pub seat_steps : (next : FrameOf ℕ) → act_of c line.instr q ≡ Steps next → IsSeated p s after started next
    seat_steps next e = seat_onward next (steps_onward (Given s after started) (Among s) p c seat.kind seat.state line.instr seat.facts q next seat_formed seat_sound seat.futures seat.way seat_meets e)

    -- and of the same kind
    pub steps_kind : (next : FrameOf ℕ) → act_of c line.instr q ≡ Steps next → next.kind ≡ q.kind
    steps_kind next e = (steps_onward (Given s after started) (Among s) p c seat.kind seat.state line.instr seat.facts q next seat_formed seat_sound seat.futures seat.way seat_meets e).kind

    -- by the number that a task gave
    pub seat_reads : (to x n : ℕ) → act_of c line.instr q ≡ Reads to x → IsSeated p s after started (set_number q to n)
    seat_reads to x n e =
        seat_onward (set_number q to n)
        (subst (λ instr. Onward (Given s after started) (Among s) instr seat.facts q (set_number q to n)) (sym (shape_of c line.instr q (Reads to x) e))
        (number_onward (Given s after started) (Among s) (Get to x) seat.facts q (set_number q to n) to n (λ l. l) seat_meets refl))

    -- its variable names the new task that it asked for
    pub seat_calls : (to v : ℕ) (call : CallOf ℕ) (waits : Option ℕ) → act_of c line.instr q ≡ Calls to call waits → IsSeated p s after started (set_future q to (Some v))
    seat_calls to v call waits e =
        let (kind, arguments, priority, retry, is_spawn, is_call) = shape_of c line.instr q (Calls to call waits) e in
        let is_formed = subst (λ instr. IsFormedInstr p seat.kind seat.state q.at instr) is_spawn seat_formed in
        let to_within : to < length q.futures = let w = future_within seat.kind to is_formed.0 in omega (arith, w, seat.futures) in
        seat_onward (set_future q to (Some v))
        (subst (λ instr. Onward (Given s after started) (Among s) instr seat.facts q (set_future q to (Some v))) (sym is_spawn)
        (future_onward (Given s after started) (Among s) (Spawn to kind arguments waits priority retry) seat.facts q (set_future q to (Some v)) to (Some v) (λ l. l)
        (meets_renewed (Given s after started) (Among s) seat.facts q.futures to v false [] seat_meets to_within (λ h. absurd (cc h)) (λ x u h. absurd (cc h))) refl))

    -- the same where it asked for an aggregate
    pub seat_gathers : (to v : ℕ) (members : List ℕ) → act_of c line.instr q ≡ Gathers to members → by_number s.calls v ≡ Some (OfAll (tasks_named q members)) → IsSeated p s after started (set_future q to (Some v))
    seat_gathers to v members e call =
        let (priority, retry, is_all) = shape_of c line.instr q (Gathers to members) e in
        let is_formed = subst (λ instr. IsFormedInstr p seat.kind seat.state q.at instr) is_all seat_formed in
        let to_within : to < length q.futures = let w = future_within seat.kind to is_formed.0 in omega (arith, w, seat.futures) in
        seat_onward (set_future q to (Some v))
        (subst (λ instr. Onward (Given s after started) (Among s) instr seat.facts q (set_future q to (Some v))) (sym is_all)
        (future_onward (Given s after started) (Among s) (All to members priority retry) seat.facts q (set_future q to (Some v)) to (Some v) (λ l. l)
        (meets_renewed (Given s after started) (Among s) seat.facts q.futures to v false members seat_meets to_within (λ h. absurd (cc h))
        (λ x u h k. (tasks_named q members, call, listed members x u h k))) refl))
      where
        -- the task of a member is in the list of the tasks
        listed : (members : List ℕ) (x u : ℕ) → IsTrue (has x members) → future_at q.futures x ≡ Some u → IsTrue (has u (tasks_named q members))
        listed [] x u h k = absurd (cc h)
        listed (m ∷ more) x u h k = by (future_at q.futures m) refl (either (nat_eq x m) (has x more) h) (λ h. listed more x u h k)
          where
            by : (o : Option ℕ) → future_at q.futures m ≡ o → (nat_eq x m ≡ true) ⊎ (has x more ≡ true) → (IsTrue (has x more) → IsTrue (has u (tasks_named q more))) → IsTrue (has u (task_list (o ∷ map (future_at q.futures) more)))
            by None f (inl same) later = absurd (none-some u (sym f ∙ sym (ap (future_at q.futures) (eqb-true x m same)) ∙ k))
            by None f (inr h) later = later h
            by (Some t) f (inl same) later =
                let is : Some u ≡ Some t = sym k ∙ ap (future_at q.futures) (eqb-true x m same) ∙ f in has-first u t (tasks_named q more) (cc is)
            by (Some t) f (inr h) later = has-rest u t (tasks_named q more) (later h)

-- a frame that goes on stays seated
pub seat_goes : (p : Program) → IsWellFormed p → IsValid p → (c : Columns) (r s : Run) (after : Option ℕ) (started : Bool) (q next : FrameOf ℕ) → IsSeated p s after started q → Goes p c r q next → IsSeated p s after started next
seat_goes p formed valid c r s after started q _ seat (Goes.steps next (line, there, e)) = seat_steps p formed valid c s after started q seat line there next e
seat_goes p formed valid c r s after started q _ seat (Goes.reads to x u n (line, there, e) names gave) = seat_reads p formed valid c s after started q seat line there to x n e

-- and of the same kind
pub goes_kind : (p : Program) → IsWellFormed p → IsValid p → (c : Columns) (r s : Run) (after : Option ℕ) (started : Bool) (q next : FrameOf ℕ) → IsSeated p s after started q → Goes p c r q next → next.kind ≡ q.kind
goes_kind p formed valid c r s after started q _ seat (Goes.steps next (line, there, e)) = steps_kind p formed valid c s after started q seat line there next e
goes_kind p formed valid c r s after started q _ seat (Goes.reads to x u n acts names gave) = refl

-- and so does one that asked for a new task, once its variable names it
pub seat_asks : (p : Program) → IsWellFormed p → IsValid p → (c : Columns) (s : Run) (after : Option ℕ) (started : Bool) (q : FrameOf ℕ) (request : Request) (to v : ℕ) (retry : Bool) → IsSeated p s after started q
    → Asks p c q request to retry → by_number s.calls v ≡ Some request.call → IsSeated p s after started (set_future q to (Some v))
seat_asks p formed valid c s after started q _ _ v _ seat (Asks.calls line to call waits there e) called = seat_calls p formed valid c s after started q seat line there to v call waits e
seat_asks p formed valid c s after started q _ _ v _ seat (Asks.gathers line to members there e) called = seat_gathers p formed valid c s after started q seat line there to v members e called
