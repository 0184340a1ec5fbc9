-- The frame at the start of a task, and the one at the start of a further state, is seated.
use Rattle.std.proofs.Common.{◌≡◌, ℕ, zero, suc, ◌+◌, ◌<◌, ◌≤◌, Bool, true, false, ◌||◌, cond, nat_eq, Option, Some, None, List, [], ◌∷◌, ◌++◌, length, map, slice_get, refl, sym, ◌∙◌, ap, subst, inl, inr, arith}
use Rattle.std.specs.Prelude.{◌-◌, replicate, IsSome, IsTrue, IfSome}
use Rattle.std.specs.Option.{option_map, is_some}
use Rattle.std.proofs.lemmas.Bool.{eqb-true}
use Rattle.std.proofs.lemmas.Option.{none-some, same_Some, slice_get_cases}
use Rattle.task_syntax.specs.Facts.{has, at_start}
use Rattle.task_syntax.specs.Form.{IsWellFormed, IsFormedInstr, IsFormedKind}
use Rattle.task_syntax.specs.Valid.{Way, starts, Held, WillSettle, Agrees, EachSettledArgument, IsBehind, SpawnsSoundly, RespawnsSoundly, IsSoundInstr, IsSoundKind, IsSoundRoot, IsValid, sort_of, sort_of_root}
use Rattle.task_syntax.specs.declared.program.Sort.{Sort}
use Rattle.task_syntax.specs.declared.program.Sort.TheVariants as sort
use Rattle.task_syntax.specs.declared.program.Variable.{Variable}
use Rattle.task_syntax.specs.declared.program.State.{State}
use Rattle.task_syntax.specs.declared.program.Kind.{Kind}
use Rattle.task_syntax.specs.declared.program.Root.{Root as RootLine}
use Rattle.task_syntax.specs.declared.program.RootArgument.{RootArgument}
use Rattle.task_syntax.specs.declared.program.RootArgument.TheVariants as root_argument
use Rattle.task_syntax.specs.declared.program.Program.{Program}
use Rattle.task_syntax.specs.declared.columns.Columns.{Columns}
use Rattle.task_syntax.specs.declared.instr.Argument.{Argument}
use Rattle.task_syntax.specs.declared.instr.Argument.TheVariants as argument
use Rattle.task_syntax.specs.declared.instr.Line.{Line}
use Rattle.task_meaning.specs.Meant.{future_at}
use Rattle.task_meaning.specs.Frame.{FrameOf, CallOf, code_at, holds_at, variables_of, padded, kept, kept_from, entry, enter, number_passed, future_passed}
use Rattle.task_meaning.specs.FrameLaws.{task_waited}
use Rattle.task_meaning.specs.Roots.{root_call, root_number, root_future}
use Rattle.task_meaning.specs.RootLaws.{root_waits}
use Rattle.task_meaning.specs.Acts.{Calls, Respawns, act_of}
use Rattle.task_meaning.proofs.Parts.{holds_at-is, variables_of-is, entry-numbers, entry-futures, enter-futures}
use Rattle.run_model.specs.State.{Run}
use Rattle.run_model.proofs.ByNumber.{has_some}
use Rattle.run_model.proofs.NamesFacts.{entry_named, enter_named}
use Rattle.run_model.proofs.FramesInvariant.{WillGive, IsSeated}
use Rattle.run_model.proofs.LineFacts.{shape_of}
use Rattle.run_model.proofs.SeatFacts.{seat_formed, seat_sound}

-- what is in a list stands at a position
pub has_at : (x : ℕ) (xs : List ℕ) → IsTrue (has x xs) → (i : ℕ) × (slice_get xs i ≡ Some x)
has_at x [] h = absurd (cc h)
has_at x (y ∷ ys) h = by (nat_eq x y) refl (has_at x ys) h
  where
    by : (b : Bool) → nat_eq x y ≡ b → (IsTrue (has x ys) → (i : ℕ) × (slice_get ys i ≡ Some x)) → (b || has x ys) ≡ true → (i : ℕ) × (slice_get (y ∷ ys) i ≡ Some x)
    by true e later h = (0, ap Some (sym (eqb-true x y e)))
    by false e later h = let (i, f) = later h in (suc i, f)

-- a member of a list, at a position that is in range
pub item_at : {A : Type 0} (xs : List A) (at : ℕ) → at < length xs → (x : A) × (slice_get xs at ≡ Some x)
item_at xs at h = elim (slice_get_cases xs at).1 [ inl s ↦ (s.0, s.2) | inr s ↦ absurd (omega (arith, s.0, h)) ]

-- a held future is kept
kept_at : (from : ℕ) (held : List ℕ) (fs : List (Option ℕ)) (x : ℕ) → IsTrue (has (from + x) held) → future_at (kept_from from held fs) x ≡ future_at fs x
kept_at from held [] x h = refl
kept_at from held (f ∷ fs) zero h = let t : has from held ≡ true = ap (λ n. has n held) (omega arith) ∙ h in ap (λ b. cond b f None) t
kept_at from held (f ∷ fs) (suc x) h = kept_at (from + 1) held fs x (ap (λ n. has n held) (omega arith) ∙ h)

-- the same from the first position on
kept_stays : (held : List ℕ) (fs : List (Option ℕ)) (x : ℕ) → IsTrue (has x held) → future_at (kept held fs) x ≡ future_at fs x
kept_stays held fs x h = kept_at 0 held fs x (let e : 0 + x ≡ x = omega arith in ap (λ n. has n held) e ∙ h)

-- a future stays where a list is made longer
padded_stays : (fs more : List (Option ℕ)) (x u : ℕ) → future_at fs x ≡ Some u → future_at (fs ++ more) x ≡ Some u
padded_stays [] more x u e = absurd (none-some u e)
padded_stays (f ∷ fs) more zero u e = e
padded_stays (f ∷ fs) more (suc x) u e = padded_stays fs more x u e

-- what is passed and held, the first frame of a call has
entry_holds : (p : Program) (call : CallOf ℕ) (x : ℕ) → IsTrue (has x (holds_at p call.kind 0)) → IsSome (future_at call.futures x) → IsSome (future_at (entry p call).futures x)
entry_holds p call x held passed =
    let (u, names) = has_some (future_at call.futures x) passed in
    let more : List (Option ℕ) = replicate (variables_of p call.kind - length call.futures) None in
    let stays : future_at (padded (variables_of p call.kind) None call.futures) x ≡ Some u = padded_stays call.futures more x u names in
    ap is_some (kept_stays (holds_at p call.kind 0) (padded (variables_of p call.kind) None call.futures) x held) ∙ ap is_some stays

-- what is passed for an argument
mapped_at : {A : Type 0} (f : A → Option ℕ) (xs : List A) (x : ℕ) (a : A) → slice_get xs x ≡ Some a → future_at (map f xs) x ≡ f a
mapped_at f [] x a e = absurd (none-some a e)
mapped_at f (y ∷ ys) zero a e = ap f (same_Some y a e)
mapped_at f (y ∷ ys) (suc x) a e = mapped_at f ys x a e

-- what is passed at a position comes from the argument there
mapped_is : {A : Type 0} (f : A → Option ℕ) (xs : List A) (x u : ℕ) → future_at (map f xs) x ≡ Some u → (a : A) × (slice_get xs x ≡ Some a) × (f a ≡ Some u)
mapped_is f [] x u e = absurd (none-some u e)
mapped_is f (y ∷ ys) zero u e = (y, refl, e)
mapped_is f (y ∷ ys) (suc x) u e = mapped_is f ys x u e

-- as much is passed as there are arguments
length_mapped : {A B : Type 0} (f : A → B) (xs : List A) → length (map f xs) ≡ length xs
length_mapped f [] = refl
length_mapped f (x ∷ xs) = ap suc (length_mapped f xs)

-- a state of a formed kind has a line
pub has_line : (p : Program) (kind : Kind) (at : ℕ) (state : State) → IsFormedKind p kind → slice_get kind.states at ≡ Some state → 0 < length state.code
has_line p kind at state formed e = let ends = (formed.states at state e).ends in omega (arith, ends.2)

module _ (p : Program) (formed : IsWellFormed p) (s : Run) (after : Option ℕ) where
  -- a frame at the start of a state
  start_seated : (q : FrameOf ℕ) (kind : Kind) (state : State) → slice_get p.kinds q.kind ≡ Some kind → slice_get kind.states q.state ≡ Some state → q.at ≡ 0
      → length q.numbers ≡ length kind.variables → length q.futures ≡ length kind.variables → ((x : ℕ) → IsTrue (has x state.holds) → IsSome (future_at q.futures x))
      → ((x u : ℕ) → IsTrue (has x state.settled) → future_at q.futures x ≡ Some u → WillGive s after u) → IsSeated p s after false q
  start_seated q kind state is_kind is_state first numbers futures held settled = record {
    kind = kind;
    state = state;
    facts = at_start state;
    is_kind = is_kind;
    is_state = is_state;
    way = subst (λ n. Way state n (at_start state)) (sym first) starts;
    within = let some = has_line p kind q.state state (formed.kinds q.kind kind is_kind) is_state in omega (arith, first, some);
    numbers = numbers;
    futures = futures;
    held = held;
    settled = settled;
    members = λ g x a u h. absurd (cc h);
  }

  -- the first frame of a call, whose futures are passed for arguments
  call_seated : {A : Type 0} (sort_by : A → Sort) (pass : A → Option ℕ) (arguments : List A) (kind : Kind) (call : CallOf ℕ) → slice_get p.kinds call.kind ≡ Some kind → IsSoundKind p kind → Agrees sort_by kind arguments
      → length call.numbers ≡ length arguments → call.futures ≡ map pass arguments → ((x : ℕ) (a : A) → slice_get arguments x ≡ Some a → sort_by a ≡ sort.Future → IsSome (pass a))
      → EachSettledArgument kind arguments (λ a. (u : ℕ) → pass a ≡ Some u → WillGive s after u) → IsSeated p s after false (entry p call)
  call_seated {A} sort_by pass arguments kind call is_kind sound agrees as_numbers as_futures some gives =
      start_seated (entry p call) kind first.0 is_kind first.1 refl
      (entry-numbers p call (omega (arith, variables, fits, agrees.0, as_numbers)) ∙ variables)
      (entry-futures p call (omega (arith, variables, fits, agrees.0, ap length as_futures, length_mapped pass arguments)) ∙ variables)
      held settled
    where
      formed_kind : IsFormedKind p kind
      formed_kind = formed.kinds call.kind kind is_kind

      first : (state : State) × (slice_get kind.states 0 ≡ Some state)
      first = item_at kind.states 0 formed_kind.has_state

      variables : variables_of p call.kind ≡ length kind.variables
      variables = variables_of-is p call.kind kind is_kind

      fits : kind.arguments ≤ length kind.variables
      fits = formed_kind.arguments_are_variables

      held : (x : ℕ) → IsTrue (has x first.0.holds) → IsSome (future_at (entry p call).futures x)
      held x h =
          let (i, e) = has_at x first.0.holds h in
          let below : x < kind.arguments = sound.entry first.0 first.1 i x e in
          let (a, at_a) = item_at arguments x (omega (arith, below, agrees.0)) in
          let (v, at_v) = item_at kind.variables x (omega (arith, below, fits)) in
          let is_future : Some v.sort ≡ Some sort.Future = sym (ap (option_map (λ (w : Variable). w.sort)) at_v) ∙ (formed_kind.states 0 first.0 first.1).holds i x e in
          let is_some_a : IsSome (pass a) = some x a at_a (sym (agrees.1 x a v at_a at_v) ∙ same_Some v.sort sort.Future is_future) in
          let passed : IsSome (future_at call.futures x) = ap is_some (ap (λ fs. future_at fs x) as_futures ∙ mapped_at pass arguments x a at_a) ∙ is_some_a in
          entry_holds p call x (subst (λ hs. IsTrue (has x hs)) (sym (holds_at-is p call.kind 0 kind first.0 is_kind first.1)) h) passed

      settled : (x u : ℕ) → IsTrue (has x first.0.settled) → future_at (entry p call).futures x ≡ Some u → WillGive s after u
      settled x u h e =
          let (i, at_i) = has_at x first.0.settled h in
          let (a, at_a, names) = mapped_is pass arguments x u (sym (ap (λ fs. future_at fs x) as_futures) ∙ entry_named p call x u e) in
          gives first.0 first.1 i x at_i a at_a u names

-- what will be settled behind a predecessor, will have given a value
module _ (p : Program) (formed : IsWellFormed p) (valid : IsValid p) (c : Columns) (s : Run) (after : Option ℕ) (q : FrameOf ℕ) (seat : IsSeated p s after true q) where
  will_give : (waits : Option ℕ) (y u : ℕ) → IfSome waits (Held seat.state q.at) → WillSettle seat.state q.at waits y → future_at q.futures y ≡ Some u → WillGive s (task_waited q waits) u
  will_give None y u held settles e = inl (seat.settled y u (settles seat.facts seat.way) e)
  will_give (Some g) y u held (inl settles) e = inl (seat.settled y u (settles seat.facts seat.way) e)
  will_give (Some g) y u held (inr (inl same)) e = inr (inl (ap (future_at q.futures) same ∙ e))
  will_give (Some g) y u held (inr (inr member)) e =
      let (a, names) = has_some (future_at q.futures g) (seat.held g (held seat.facts seat.way)) in
      let (listed, call, among) = seat.members g y a u (member seat.facts seat.way) names e in
      inr (inr (a, listed, names, call, among))

  module _ (line : Line) (there : slice_get (code_at p q.kind q.state) q.at ≡ Some line) where
    -- the first frame of a call that the frame asks for
    pub spawn_seated : (to : ℕ) (call : CallOf ℕ) (waits : Option ℕ) → act_of c line.instr q ≡ Calls to call waits → IsSeated p s (task_waited q waits) false (entry p call)
    spawn_seated to call waits e =
        let (kind, arguments, priority, retry, is_spawn, is_call) = shape_of c line.instr q (Calls to call waits) e in
        let is_formed = subst (λ instr. IsFormedInstr p seat.kind seat.state q.at instr) is_spawn (seat_formed p formed valid c s after true q seat line there) in
        let is_sound = subst (λ instr. IsSoundInstr p seat.kind seat.state q.at instr) is_spawn (seat_sound p formed valid c s after true q seat line there) in
        let (callee, is_callee) = item_at p.kinds kind is_formed.1 in
        let sound : SpawnsSoundly callee seat.state q.at arguments waits = is_sound callee is_callee in
        subst (λ k. IsSeated p s (task_waited q waits) false (entry p k)) (sym is_call)
        (call_seated p formed s (task_waited q waits) sort_of (future_passed q.futures) arguments callee _ is_callee (valid.kinds kind callee is_callee) sound.agrees
        (length_mapped (number_passed q.numbers) arguments) refl (passes arguments waits callee sound)
        (λ first is_first i x at_i a at_a u names. gives arguments waits callee sound a (sound.settled first is_first i x at_i a at_a) u names))
      where
        passes : (arguments : List Argument) (waits : Option ℕ) (callee : Kind) → SpawnsSoundly callee seat.state q.at arguments waits
            → (x : ℕ) (a : Argument) → slice_get arguments x ≡ Some a → sort_of a ≡ sort.Future → IsSome (future_passed q.futures a)
        passes arguments waits callee sound x (argument.Number n) at_a is_future = absurd (cc is_future)
        passes arguments waits callee sound x (argument.Future y) at_a is_future = seat.held y (sound.held x (argument.Future y) at_a seat.facts seat.way)

        gives : (arguments : List Argument) (waits : Option ℕ) (callee : Kind) → SpawnsSoundly callee seat.state q.at arguments waits
            → (a : Argument) → Rattle.task_syntax.specs.Valid.WillSettleArgument seat.state q.at waits a → (u : ℕ) → future_passed q.futures a ≡ Some u → WillGive s (task_waited q waits) u
        gives arguments waits callee sound (argument.Number n) settles u names = absurd (none-some u names)
        gives arguments waits callee sound (argument.Future y) settles u names = will_give waits y u sound.behind_held settles names

    -- the frame at the start of a further state
    pub again_seated : (target : ℕ) (waits : Option ℕ) → act_of c line.instr q ≡ Respawns target waits → IsSeated p s (task_waited q waits) false (enter p q target)
    again_seated target waits e =
        let (priority, is_again) = shape_of c line.instr q (Respawns target waits) e in
        let is_formed = subst (λ instr. IsFormedInstr p seat.kind seat.state q.at instr) is_again (seat_formed p formed valid c s after true q seat line there) in
        let is_sound = subst (λ instr. IsSoundInstr p seat.kind seat.state q.at instr) is_again (seat_sound p formed valid c s after true q seat line there) in
        let (next, is_next) = item_at seat.kind.states target is_formed.0 in
        let sound : RespawnsSoundly next seat.state q.at waits = is_sound next is_next in
        start_seated p formed s (task_waited q waits) (enter p q target) seat.kind next seat.is_kind is_next refl seat.numbers (enter-futures p q target ∙ seat.futures)
        (λ x h.
        let (i, at_i) = has_at x next.holds h in
        let is_held : IsTrue (has x (holds_at p q.kind target)) = subst (λ hs. IsTrue (has x hs)) (sym (holds_at-is p q.kind target seat.kind next seat.is_kind is_next)) h in
        ap is_some (kept_stays (holds_at p q.kind target) q.futures x is_held) ∙ seat.held x (sound.held i x at_i seat.facts seat.way))
        (λ x u h k. let (i, at_i) = has_at x next.settled h in will_give waits x u sound.behind_held (sound.settled i x at_i) (enter_named p q target x u k))

-- the first frame of a root whose named roots have tasks
pub root_seated : (p : Program) (s : Run) (own : List (Option ℕ)) (at : ℕ) (root : RootLine) → IsWellFormed p → IsValid p → slice_get p.roots at ≡ Some root
    → ((x r : ℕ) → slice_get root.arguments x ≡ Some (root_argument.Root r) → IsSome (future_at own r)) → IsSeated p s (root_waits own root.behind) false (entry p (root_call own root))
root_seated p s own at root formed valid there have =
    let is_formed = formed.roots at root there in
    let is_sound : IsSoundRoot p root = valid.roots at root there in
    let (kind, is_kind) = item_at p.kinds root.kind is_formed.kind in
    call_seated p formed s (root_waits own root.behind) sort_of_root (root_future own) root.arguments kind (root_call own root) is_kind (valid.kinds root.kind kind is_kind) (is_sound.agrees kind is_kind)
    (length_mapped root_number root.arguments) refl passes (λ first is_first i x at_i a at_a u names. gives a (is_sound.settled kind is_kind first is_first i x at_i a at_a) u names)
  where
    passes : (x : ℕ) (a : RootArgument) → slice_get root.arguments x ≡ Some a → sort_of_root a ≡ sort.Future → IsSome (root_future own a)
    passes x (root_argument.Number n) at_a is_future = absurd (cc is_future)
    passes x (root_argument.Root r) at_a is_future = have x r at_a

    gives : (a : RootArgument) → IsBehind root.behind a → (u : ℕ) → root_future own a ≡ Some u → WillGive s (root_waits own root.behind) u
    gives (root_argument.Number n) behind u names = absurd (none-some u names)
    gives (root_argument.Root r) behind u names = inr (inl (ap (root_waits own) behind ∙ names))
