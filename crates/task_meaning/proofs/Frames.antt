-- What follows from the frames of tasks while calls are accepted.
use Rattle.std.specs.Prelude.{◌≡◌, ℕ, zero, suc, ◌+◌, ◌≤◌, ◌↔◌, Bool, true, false, cond, Option, Some, None, List, [], ◌∷◌, ◌++◌, map, length, slice_get}
use Rattle.std.proofs.Common.{refl, sym, ap, subst, ◌∙◌, arith}
use Rattle.task_syntax.specs.Places.{Each}
use Rattle.task_syntax.specs.Facts.{has}
use Rattle.task_syntax.specs.declared.value.Value.{Value}
use Rattle.task_syntax.specs.declared.value.Value.TheVariants.{Number, Trapped}
use Rattle.task_syntax.specs.declared.instr.Argument.{Argument}
use Rattle.task_syntax.specs.declared.instr.Argument.TheVariants as argument
use Rattle.task_syntax.specs.declared.instr.Instr.{Instr}
use Rattle.task_syntax.specs.declared.instr.Instr.TheVariants.{Math, Cell, Spawn}
use Rattle.task_syntax.specs.declared.program.Program.{Program}
use Rattle.task_syntax.specs.declared.columns.Columns.{Columns}
use Rattle.task_meaning.specs.Meant.{Meant, with_value, future_at, behind}
use Rattle.task_meaning.specs.Frame.{FrameOf, CallOf, Place, kept_from, set_number, set_future, operand, future_passed, renamed, call_with}
use Rattle.task_meaning.specs.Arithmetic.{computed, cell_at}
use Rattle.task_meaning.specs.Meaning.{mean, rest}
use Rattle.task_meaning.specs.Worths.{Accepted, OfCall, OfAll, worth_of, worths, place_in, rest_of}
use Rattle.task_meaning.specs.Acts.{Act, Calls, steps_with, act_of, ActsAt}
use Rattle.task_meaning.specs.WorthLaws.{NamesUpTo}
use Rattle.task_meaning.specs.FrameLaws.{RestGives, NamesTask, task_waited, NamesAccepted}
use Rattle.task_meaning.specs.AcceptedLaws.{IsCallAt, IsAggregateAt}
use Rattle.task_meaning.proofs.Grows.{Stays, Stays-at, AllStay, AllStay-at, AllStay-refl, AllStay-set, Within-behind}
use Rattle.task_meaning.proofs.Fuel.{rest-grows, mean-within}
use Rattle.task_meaning.proofs.Ahead.{AllJumpAhead}
use Rattle.task_meaning.proofs.FromRuns.{rest-acts}
use Rattle.task_meaning.proofs.Renaming.{future_at-renamed, set_future-renamed}
use Rattle.task_meaning.proofs.Worths.{worths-stay, AllStay-named, call-within, call-worth, aggregate-worth, later-rest, acts-in}

-- a call that a frame makes names what the frame names
passed-names : (most : ℕ) (fs : List (Option ℕ)) → Each fs (NamesUpTo most) → (x : ℕ) → NamesUpTo most (future_at fs x)
passed-names most [] h x = tt
passed-names most (f ∷ fs) h zero = h zero f refl
passed-names most (f ∷ fs) h (suc x) = passed-names most fs (λ at g e. h (suc at) g e) x

-- the variable that a frame waits for names what the frame may name
pub task-names : (most : ℕ) (q : FrameOf ℕ) → Each q.futures (NamesUpTo most) → (x : Option ℕ) → NamesUpTo most (task_waited q x)
task-names most q h None = tt
task-names most q h (Some x) = passed-names most q.futures h x

cond-names : (most : ℕ) (b : Bool) (f : Option ℕ) → NamesUpTo most f → NamesUpTo most (cond b f None)
cond-names most true f h = h
cond-names most false f h = tt

-- the futures that are kept name what the frame may name
pub kept-names : (most at : ℕ) (held : List ℕ) (fs : List (Option ℕ)) → Each fs (NamesUpTo most) → Each (kept_from at held fs) (NamesUpTo most)
kept-names most at held [] h i f e = absurd (cc e)
kept-names most at held (g ∷ fs) h zero f e =
    let s : cond (has at held) g None ≡ f = cc e in subst (NamesUpTo most) s (cond-names most (has at held) g (h zero g refl))
kept-names most at held (g ∷ fs) h (suc i) f e = kept-names most (at + 1) held fs (λ j x u. h (suc j) x u) i f e

arguments-name : (most : ℕ) (fs : List (Option ℕ)) → Each fs (NamesUpTo most) → (arguments : List Argument) → Each (map (future_passed fs) arguments) (NamesUpTo most)
arguments-name most fs h [] at f e = absurd (cc e)
arguments-name most fs h (argument.Number n ∷ more) zero f e = let s : None ≡ f = cc e in subst (NamesUpTo most) s tt
arguments-name most fs h (argument.Future x ∷ more) zero f e = let s : future_at fs x ≡ f = cc e in subst (NamesUpTo most) s (passed-names most fs h x)
arguments-name most fs h (a ∷ more) (suc at) f e = arguments-name most fs h more at f e

abbrev ActNames : ℕ → Act ℕ → Type 0
ActNames most (Calls to call waits) = Each call.futures (NamesUpTo most)
ActNames most _ = Unit {0}

number-names : (most : ℕ) (v : Value) (frame : ℕ → FrameOf ℕ) → ActNames most (steps_with v frame)
number-names most (Number n) frame = tt
number-names most (Trapped t) frame = tt

act-names : (most : ℕ) (c : Columns) (q : FrameOf ℕ) → Each q.futures (NamesUpTo most) → (instr : Instr) → ActNames most (act_of c instr q)
act-names most c q h (Spawn to kind arguments waits priority retry) = arguments-name most q.futures h arguments
act-names most c q h (Math op to left right) = number-names most (computed op (operand q.numbers left) (operand q.numbers right)) (set_number q to)
act-names most c q h (Cell to column row) = number-names most (cell_at c column (operand q.numbers row)) (set_number q to)
act-names most c q h _ = tt

-- the arguments of a call name what the frame may name
pub call-names : (p : Program) (c : Columns) (most : ℕ) (q : FrameOf ℕ) (to : ℕ) (call : CallOf ℕ) (waits : Option ℕ) → Each q.futures (NamesUpTo most)
    → ActsAt p c q (Calls to call waits) → Each call.futures (NamesUpTo most)
call-names p c most q to call waits h (line, e, a) = subst (ActNames most) a (act-names most c q h line.instr)

-- the tasks that members name
pub member-names : (most : ℕ) (fs : List (Option ℕ)) → Each fs (NamesUpTo most) → (members tasks : List ℕ) → map (future_at fs) members ≡ map Some tasks
    → Each tasks (λ t. t ≤ most)
member-names most fs h members [] e at t f = absurd (cc f)
member-names most fs h [] (u ∷ tasks) e at t f = absurd (cc e)
member-names most fs h (x ∷ members) (u ∷ tasks) e zero t f =
    let first : future_at fs x ≡ Some t = (let g : future_at fs x ≡ Some u = cc e in let s : u ≡ t = cc f in g ∙ ap Some s) in
    subst (NamesUpTo most) first (passed-names most fs h x)
member-names most fs h (x ∷ members) (u ∷ tasks) e (suc at) t f =
    let others : map (future_at fs) members ≡ map Some tasks = cc e in member-names most fs h members tasks others at t f

-- what is accepted at a position is worth what it means with the worths of all
abbrev pub IsWorthAt : Program → Columns → List Accepted → ℕ → Accepted → Type 0
IsWorthAt p c accepted position a = (n : ℕ) → future_at (worths p c n accepted) (suc position) ≡ worth_of p c n (worths p c n accepted) a

-- an accepted call that names earlier tasks is worth what it means
pub call-worth_at : (p : Program) (c : Columns) (accepted : List Accepted) (position : ℕ) (call : CallOf ℕ) (waits : Option ℕ) → IsCallAt accepted position call waits
    → IsWorthAt p c accepted position (OfCall call waits)
call-worth_at p c accepted position call waits is n = call-worth p c n accepted position call waits is.there is.futures is.waits_for

-- an accepted aggregate of earlier tasks is worth what it means
pub aggregate-worth_at : (p : Program) (c : Columns) (accepted : List Accepted) (position : ℕ) (members : List ℕ) → IsAggregateAt accepted position members
    → IsWorthAt p c accepted position (OfAll members)
aggregate-worth_at p c accepted position members is n = aggregate-worth p c n accepted position members is.there is.members_earlier

-- waiting for the variable of a frame is waiting for the task that it names
pub behind-task : (ws : List (Option Value)) (q : FrameOf ℕ) (x : Option ℕ) → NamesTask q x → (m : Meant)
    → behind x (place_in ws q).futures m ≡ behind (task_waited q x) ws m
behind-task ws q None h m = refl
behind-task ws q (Some x) (t, e) m =
    ap (λ (o : Option Value). with_value o (λ v. m)) (future_at-renamed (future_at ws) q.futures x ∙ ap (renamed (future_at ws)) e)
    ∙ ap (λ (o : Option ℕ). behind o ws m) (sym e)

-- equal meanings have equal values
pub value_of : (m more : Meant) → m ≡ more → m.value ≡ more.value
value_of m more e = ap (λ (r : Meant). r.value) e

with_value-stays : (o r : Option Value) (m more : Meant) → Stays o r → Stays m.value more.value → Stays (with_value o (λ v. m)).value (with_value r (λ v. more)).value
with_value-stays None r m more h k = tt
with_value-stays (Some v) r m more h k = subst (λ (s : Option Value). Stays m.value (with_value s (λ u. more)).value) (sym h) k

-- a value behind a task stays where more worths are known
pub behind-stays : (waits : Option ℕ) (ws vs : List (Option Value)) (m more : Meant) → AllStay ws vs → Stays m.value more.value
    → Stays (behind waits ws m).value (behind waits vs more).value
behind-stays None ws vs m more h k = k
behind-stays (Some t) ws vs m more h k = with_value-stays (future_at ws t) (future_at vs t) m more (AllStay-at ws vs t h) k

-- what a place gives with a future is kept where more is known and more fuel is left
set-stays : (p : Program) (c : Columns) (n m : ℕ) → n ≤ m → (ws vs : List (Option Value)) → AllStay ws vs → (q : FrameOf ℕ) (to : ℕ) (o r : Option Value) → Stays o r
    → Stays (rest p c n (set_future (place_in ws q) to o)).value (rest p c m (set_future (place_in vs q) to r)).value
set-stays p c n m e ws vs h q to o r k =
    (rest-grows p c n m e q.kind q.state (q.at + 1) q.numbers _ _ (AllStay-set _ _ to o r (AllStay-named ws vs h q.futures) k)).value

-- the value of a frame's place stays with more worths and more fuel
pub rest-stays : (p : Program) (c : Columns) (n m : ℕ) → n ≤ m → (ws vs : List (Option Value)) → AllStay ws vs → (q : FrameOf ℕ)
    → Stays (rest p c n (place_in ws q)).value (rest p c m (place_in vs q)).value
rest-stays p c n m e ws vs h q = (rest-grows p c n m e q.kind q.state q.at q.numbers _ _ (AllStay-named ws vs h q.futures)).value

-- the value of what follows from a frame stays with more fuel
pub rest_of-stays : (p : Program) (c : Columns) (n m : ℕ) → n ≤ m → (accepted : List Accepted) (waits : Option ℕ) (q : FrameOf ℕ)
    → Stays (rest_of p c n accepted waits q).value (rest_of p c m accepted waits q).value
rest_of-stays p c n m e accepted waits q =
    let h : AllStay (worths p c n accepted) (worths p c m accepted) = worths-stay p c n m e accepted in
    behind-stays waits _ _ (rest p c n (place_in (worths p c n accepted) q)) (rest p c m (place_in (worths p c m accepted) q)) h (rest-stays p c n m e _ _ h q)

-- two frames give the same, where each keeps what the other has with one fuel more
pub both-give : (p : Program) (c : Columns) (accepted later : List Accepted) (waits then : Option ℕ) (q next : FrameOf ℕ) (v : Value)
    → ((n : ℕ) → Stays (rest_of p c (suc n) accepted waits q).value (rest_of p c (suc n) later then next).value)
    → ((n : ℕ) → Stays (rest_of p c n later then next).value (rest_of p c (suc n) accepted waits q).value)
    → RestGives p c accepted waits q v ↔ RestGives p c later then next v
both-give p c accepted later waits then q next v forth back = (
  λ g. (suc g.0, Stays-at _ _ (forth g.0) v (Stays-at _ _ (rest_of-stays p c g.0 (suc g.0) (omega arith) accepted waits q) v g.1)),
  λ g. (suc g.0, Stays-at _ _ (back g.0) v g.1),
)

-- what stays up to an equal thing stays
pub Stays-to : {A : Type 0} (o r s : Option A) → Stays o r → r ≡ s → Stays o s
Stays-to {A} o r s h e = subst (λ (x : Option A). Stays o x) e h

-- what an equal thing keeps is kept
pub Stays-from : {A : Type 0} (o r s : Option A) → o ≡ r → Stays r s → Stays o s
Stays-from {A} o r s e h = subst (λ (x : Option A). Stays x s) (sym e) h

-- what follows from a frame whose variable names what is accepted at a position
pub next-rest : (p : Program) (c : Columns) (n : ℕ) (accepted : List Accepted) (position : ℕ) (a : Accepted) → IsWorthAt p c accepted position a
    → (waits : Option ℕ) (q : FrameOf ℕ) (to : ℕ)
    → rest_of p c n accepted waits (set_future q to (Some (suc position)))
    ≡ behind waits (worths p c n accepted) (rest p c n (set_future (place_in (worths p c n accepted) q) to (worth_of p c n (worths p c n accepted) a)))
next-rest p c n accepted position a is waits q to =
    let ws : List (Option Value) = worths p c n accepted in
    ap (λ (r : Place). behind waits ws (rest p c n r))
    (set_future-renamed (future_at ws) q to (Some (suc position)) ∙ ap (λ (o : Option Value). set_future (place_in ws q) to o) (is n))

-- what is accepted last stands after the others
pub last-accepted : (accepted : List Accepted) (a : Accepted) → slice_get (accepted ++ a ∷ []) (length accepted) ≡ Some a
last-accepted [] a = refl
last-accepted (b ∷ accepted) a = last-accepted accepted a

-- a frame gives what it gave before one more was accepted
pub grown-gives : (p : Program) (c : Columns) (accepted : List Accepted) (a : Accepted) (waits : Option ℕ) (q : FrameOf ℕ) (v : Value) → NamesAccepted accepted waits q
    → RestGives p c accepted waits q v ↔ RestGives p c (accepted ++ a ∷ []) waits q v
grown-gives p c accepted a waits q v names = (
  λ g. (g.0, value_of _ _ (later-rest p c g.0 accepted (a ∷ []) waits q names.0 names.1) ∙ g.1),
  λ g. (g.0, sym (value_of _ _ (later-rest p c g.0 accepted (a ∷ []) waits q names.0 names.1)) ∙ g.1),
)

-- the call of a spawn that is accepted last names earlier tasks
pub last-call : (p : Program) (c : Columns) (accepted : List Accepted) (q : FrameOf ℕ) (to : ℕ) (call : CallOf ℕ) (x : Option ℕ)
    → Each q.futures (NamesUpTo (length accepted)) → ActsAt p c q (Calls to call x)
    → IsCallAt (accepted ++ OfCall call (task_waited q x) ∷ []) (length accepted) call (task_waited q x)
last-call p c accepted q to call x names at = record {
  there = last-accepted accepted (OfCall call (task_waited q x));
  futures = call-names p c (length accepted) q to call x names at;
  waits_for = task-names (length accepted) q names x;
}

-- an aggregate that is accepted last is one of earlier tasks
pub last-aggregate : (accepted : List Accepted) (q : FrameOf ℕ) (members tasks : List ℕ)
    → Each q.futures (NamesUpTo (length accepted)) → map (future_at q.futures) members ≡ map Some tasks
    → IsAggregateAt (accepted ++ OfAll tasks ∷ []) (length accepted) tasks
last-aggregate accepted q members tasks names named = record {
  there = last-accepted accepted (OfAll tasks);
  members_earlier = member-names (length accepted) q.futures names members tasks named;
}

-- what a spawn gives the variable, where the rest has one fuel more than the child
child_value : Program → Columns → ℕ → List Accepted → FrameOf ℕ → CallOf ℕ → Option ℕ → Option Value
child_value p c n accepted q call x =
    let ws : List (Option Value) = worths p c (suc n) accepted in (behind (task_waited q x) ws (mean p c n (call_with (future_at ws) call))).value

spawn-acts : (p : Program) (c : Columns) → AllJumpAhead p → (n : ℕ) (accepted : List Accepted) (q : FrameOf ℕ) (to : ℕ) (call : CallOf ℕ) (x : Option ℕ)
    → ActsAt p c q (Calls to call x) → NamesTask q x
    → (rest p c (suc n) (place_in (worths p c (suc n) accepted) q)).value
    ≡ (rest p c (suc n) (set_future (place_in (worths p c (suc n) accepted) q) to (child_value p c n accepted q call x))).value
unfolding child_value
spawn-acts p c ahead n accepted q to call x at held =
    let ws : List (Option Value) = worths p c (suc n) accepted in
    value_of _ _ (rest-acts p c n (place_in ws q) (Calls to (call_with (future_at ws) call) x) ahead (acts-in p c ws q (Calls to call x) at))
    ∙ ap (λ (o : Option Value). (rest p c (suc n) (set_future (place_in ws q) to o)).value)
    (value_of _ _ (behind-task ws q x held (mean p c n (call_with (future_at ws) call))))

-- the child's value in the rest against the worth of the task
child-before : (p : Program) (c : Columns) (n : ℕ) (accepted : List Accepted) (q : FrameOf ℕ) (call : CallOf ℕ) (x : Option ℕ)
    → Stays (child_value p c n accepted q call x) (worth_of p c (suc n) (worths p c (suc n) accepted) (OfCall call (task_waited q x)))
unfolding child_value
child-before p c n accepted q call x =
    let ws : List (Option Value) = worths p c (suc n) accepted in
    (Within-behind (task_waited q x) ws ws _ _ (AllStay-refl ws) (mean-within p c n (suc n) (call_with (future_at ws) call) (omega arith))).value

child-after : (p : Program) (c : Columns) (n : ℕ) (accepted : List Accepted) (q : FrameOf ℕ) (call : CallOf ℕ) (x : Option ℕ)
    → Stays (worth_of p c n (worths p c n accepted) (OfCall call (task_waited q x))) (child_value p c n accepted q call x)
unfolding child_value
child-after p c n accepted q call x =
    let h = worths-stay p c n (suc n) (omega arith) accepted in
    (Within-behind (task_waited q x) _ _ _ _ h (call-within p c n n (omega arith) _ _ h call)).value

-- after a spawn whose call stands at a position, and after one whose call is accepted now
pub accepted_spawns-rest : (p : Program) (c : Columns) → AllJumpAhead p
    → (accepted : List Accepted) (position : ℕ) (waits : Option ℕ) (q : FrameOf ℕ) (to : ℕ) (call : CallOf ℕ) (x : Option ℕ) (v : Value)
    → ActsAt p c q (Calls to call x) → NamesTask q x → IsCallAt accepted position call (task_waited q x)
    → RestGives p c accepted waits q v ↔ RestGives p c accepted waits (set_future q to (Some (suc position))) v
accepted_spawns-rest p c ahead accepted position waits q to call x v at held is = both-give p c accepted accepted waits waits q next v forth back
  where
    a : Accepted
    a = OfCall call (task_waited q x)

    next : FrameOf ℕ
    next = set_future q to (Some (suc position))

    worth : IsWorthAt p c accepted position a
    worth = call-worth_at p c accepted position call (task_waited q x) is

    forth : (n : ℕ) → Stays (rest_of p c (suc n) accepted waits q).value (rest_of p c (suc n) accepted waits next).value
    forth n =
        let ws : List (Option Value) = worths p c (suc n) accepted in
        let s = set-stays p c (suc n) (suc n) (omega arith) ws ws (AllStay-refl ws) q to _ _ (child-before p c n accepted q call x) in
        Stays-to _ _ _
        (behind-stays waits ws ws (rest p c (suc n) (place_in ws q)) (rest p c (suc n) (set_future (place_in ws q) to (worth_of p c (suc n) ws a)))
        (AllStay-refl ws) (Stays-from _ _ _ (spawn-acts p c ahead n accepted q to call x at held) s))
        (sym (value_of _ _ (next-rest p c (suc n) accepted position a worth waits q to)))

    back : (n : ℕ) → Stays (rest_of p c n accepted waits next).value (rest_of p c (suc n) accepted waits q).value
    back n =
        let vs : List (Option Value) = worths p c n accepted in
        let ws : List (Option Value) = worths p c (suc n) accepted in
        let h : AllStay vs ws = worths-stay p c n (suc n) (omega arith) accepted in
        let s = set-stays p c n (suc n) (omega arith) vs ws h q to _ _ (child-after p c n accepted q call x) in
        Stays-from _ _ _ (value_of _ _ (next-rest p c n accepted position a worth waits q to))
        (behind-stays waits vs ws (rest p c n (set_future (place_in vs q) to (worth_of p c n vs a))) (rest p c (suc n) (place_in ws q)) h
        (Stays-to _ _ _ s (sym (spawn-acts p c ahead n accepted q to call x at held))))

-- after a spawn whose call is accepted now
pub spawns-rest : (p : Program) (c : Columns) → AllJumpAhead p → (accepted : List Accepted) (waits : Option ℕ) (q : FrameOf ℕ) (to : ℕ) (call : CallOf ℕ) (x : Option ℕ) (v : Value)
    → NamesAccepted accepted waits q → ActsAt p c q (Calls to call x) → NamesTask q x
    → RestGives p c accepted waits q v ↔ RestGives p c (accepted ++ OfCall call (task_waited q x) ∷ []) waits (set_future q to (Some (suc (length accepted)))) v
spawns-rest p c ahead accepted waits q to call x v names at held =
    let a : Accepted = OfCall call (task_waited q x) in
    let grown = grown-gives p c accepted a waits q v names in
    let both = accepted_spawns-rest p c ahead (accepted ++ a ∷ []) (length accepted) waits q to call x v at held (last-call p c accepted q to call x names.0 at) in
    (λ g. both.0 (grown.0 g), λ g. grown.1 (both.1 g))
