-- Where fuel gives a value and counts, there is a run to the value with so many events.
use Rattle.std.specs.Prelude.{◌≡◌, ℕ, zero, suc, ◌+◌, ◌≤◌, ◌<◌, Option, Some, None, List, [], ◌∷◌, ◌++◌, length, slice_get}
use Rattle.std.proofs.Common.{refl, sym, ap, subst, ◌∙◌, arith}
use Rattle.task_syntax.specs.Places.{Each}
use Rattle.task_syntax.specs.declared.value.Value.{Value}
use Rattle.task_syntax.specs.declared.value.Value.TheVariants.{Number, Trapped}
use Rattle.task_syntax.specs.declared.instr.Line.{Line}
use Rattle.task_syntax.specs.declared.program.Program.{Program}
use Rattle.task_syntax.specs.declared.columns.Columns.{Columns}
use Rattle.task_meaning.specs.Meant.{Counts, Meant, counted, total, nothing, gives, given, adding, with_value, with_number, future_at, behind, behind_all}
use Rattle.task_meaning.specs.Frame.{Place, Call, code_at, entry, enter, set_number, set_future}
use Rattle.task_meaning.specs.Meaning.{child_of, aggregate_of, with_child, rest, mean}
use Rattle.task_meaning.specs.Acts.{Act, Steps, Calls, Gathers, Reads, Respawns, Finishes, act_of, ActsAt, followed}
use Rattle.task_meaning.specs.Runs.{Event, Starts, counts_of, HasValue, IsReady, IsTrap, called, gathered, Runs, finishes, steps, calls, gathers, reads, reads_trap, respawns}
use Rattle.task_meaning.proofs.Complete.{IsComplete, plus_given, complete-child, complete-aggregate}
use Rattle.task_meaning.proofs.ActByAct.{rest-follows, rest-past}
use Rattle.task_meaning.proofs.Ahead.{AllJumpAhead, StepsAhead, act-ahead}
use Rattle.task_meaning.proofs.FromRuns.{given-by, counts-append, counts-called, counts-gathered, counts-started}

-- nothing gives no value
pub nothing-given : (v : Value) (k : Counts) → nothing ≡ given v k → ⊥
nothing-given v k e = let f : None ≡ Some v = ap (λ (m : Meant). m.value) e in cc f

-- what is waited for has a value where something is given behind it
pub behind-given : (waits : Option ℕ) (futures : List (Option Value)) (m : Meant) (v : Value) (k : Counts) → behind waits futures m ≡ given v k
    → IsReady futures waits × (m ≡ given v k)
behind-given None futures m v k e = (tt, e)
behind-given (Some x) futures m v k e = go (future_at futures x) refl e
  where
    go : (o : Option Value) → future_at futures x ≡ o → with_value o (λ u. m) ≡ given v k → HasValue futures x × (m ≡ given v k)
    go None f g = absurd (nothing-given v k g)
    go (Some u) f g = ((u, f), g)

-- several futures have values where something is given behind them
pub behind_all-given : (members : List ℕ) (futures : List (Option Value)) (m : Meant) (v : Value) (k : Counts) → behind_all members futures m ≡ given v k
    → Each members (HasValue futures) × (m ≡ given v k)
behind_all-given [] futures m v k e = (λ at x f. absurd (cc f), e)
behind_all-given (y ∷ more) futures m v k e =
    let (ready, f) = behind-given (Some y) futures (behind_all more futures m) v k e in
    let (each, g) = behind_all-given more futures m v k f in
    (both ready each, g)
  where
    both : HasValue futures y → Each more (HasValue futures) → Each (y ∷ more) (HasValue futures)
    both h each zero x f = let s : y ≡ x = cc f in subst (HasValue futures) s h
    both h each (suc at) x f = each at x f

-- what is given with more counted is given with less
pub adding-given : (more : Option Counts) (m : Meant) (v : Value) (k : Counts) → adding more m ≡ given v k
    → (i : Counts) × (j : Counts) × (more ≡ Some i) × (m ≡ given v j) × (k ≡ total i j)
adding-given more m v k e =
    let (i, j, a, b, s) = plus_given more m.counts k (ap (λ (r : Meant). r.counts) e) in
    (i, j, a, given-by m v j (ap (λ (r : Meant). r.value) e) b, s)

-- both a child and what follows it are given, where the whole is
pub with_child-given : (child : Meant) (same : Place → Meant) (q : Place) (to : ℕ) (v : Value) (k : Counts) → IsComplete child → with_child child same q to ≡ given v k
    → (w : Value) × (i : Counts) × (j : Counts) × (child ≡ given w i) × (same (set_future q to (Some w)) ≡ given v j) × (k ≡ total i j)
with_child-given child same q to v k complete e =
    let (i, j, a, f, s) = adding-given child.counts (same (set_future q to child.value)) v k e in
    let (w, b) = complete i a in
    (w, i, j, given-by child w i b a, subst (λ (o : Option Value). same (set_future q to o) ≡ given v j) b f, s)

slice_get-in : {A : Type 0} (xs : List A) (at : ℕ) (x : A) → slice_get xs at ≡ Some x → at < length xs
slice_get-in [] at x e = absurd (cc e)
slice_get-in (y ∷ ys) zero x e = omega arith
slice_get-in (y ∷ ys) (suc at) x e = let h : at < length ys = slice_get-in ys at x e in omega (arith, h)

-- a run from the place to the value, with so many events
abbrev RunsWith : Program → Columns → Place → Value → Counts → Type 0
RunsWith p c q v k = (events : List Event) × Runs p c q v events × (counts_of events ≡ k)

-- the same for every value and counts that are given
abbrev IsRun : Program → Columns → ℕ → Place → Type 0
IsRun p c n q = (v : Value) (k : Counts) → rest p c n q ≡ given v k → RunsWith p c q v k

-- each later place of the same state has a run
abbrev LaterRun : Program → Columns → ℕ → Place → Type 0
LaterRun p c n q = (next : Place) → next.kind ≡ q.kind → next.state ≡ q.state → q.at < next.at → IsRun p c n next

value_given : (w v : Value) (k : Counts) → gives w ≡ given v k → (w ≡ v) × (record { tasks = 0; activations = 0 } ≡ k)
value_given w v k e =
    let f : Some w ≡ Some v = ap (λ (m : Meant). m.value) e in
    let g : counted 0 0 ≡ Some k = ap (λ (m : Meant). m.counts) e in
    (cc f, cc g)

counts_both : (a b : List Event) (i j k : Counts) → counts_of a ≡ i → counts_of b ≡ j → k ≡ total i j → counts_of (a ++ b) ≡ k
counts_both a b i j k e f g = counts-append a b ∙ ap (λ (x : Counts). total x (counts_of b)) e ∙ ap (total i) f ∙ sym g

call_runs : (p : Program) (c : Columns) (n : ℕ) → ((q : Place) → IsRun p c n q) → (q : Place) → LaterRun p c (suc n) q
    → (to : ℕ) (call : Call) (waits : Option ℕ) → ActsAt p c q (Calls to call waits) → (v : Value) (k : Counts)
    → followed p c n (Calls to call waits) q ≡ given v k → RunsWith p c q v k
call_runs p c n below q later to call waits at v k e =
    let (w, i, j, f, g, s) = with_child-given (child_of p (rest p c n) waits call q.futures) (rest p c (suc n)) q to v k (complete-child p c n waits call q.futures) e in
    let (ready, f') = behind-given waits q.futures (mean p c n call) w i f in
    let (one, i', a, f'', s') = adding-given (counted 1 1) (rest p c n (entry p call)) w i f' in
    let (inner, r, t) = below (entry p call) w i' f'' in
    let (outer, r', t') = later (set_future q to (Some w)) refl refl (omega arith) v j g in
    let a' : record { tasks = 1; activations = 1 } ≡ one = cc a in (
      called inner ++ outer,
      calls to call waits w inner at ready r r',
      counts_both (called inner) outer i j k (counts-called inner ∙ ap (total _) t ∙ ap (λ (x : Counts). total x i') a' ∙ sym s') t' s,
    )

gather_runs : (p : Program) (c : Columns) (n : ℕ) (q : Place) → LaterRun p c (suc n) q → (to : ℕ) (members : List ℕ) → ActsAt p c q (Gathers to members)
    → (v : Value) (k : Counts) → followed p c n (Gathers to members) q ≡ given v k → RunsWith p c q v k
gather_runs p c n q later to members at v k e =
    let (w, i, j, f, g, s) = with_child-given (aggregate_of members q.futures) (rest p c (suc n)) q to v k (complete-aggregate members q.futures) e in
    let (ready, f') = behind_all-given members q.futures (adding (counted 1 (length members)) (gives (Number 0))) w i f in
    let b : counted (1 + 0) (length members + 0) ≡ Some i = ap (λ (m : Meant). m.counts) f' in
    let a : Some (Number 0) ≡ Some w = ap (λ (m : Meant). m.value) f' in
    let b' : record { tasks = 1 + 0; activations = length members + 0 } ≡ i = cc b in
    let a' : Number 0 ≡ w = cc a in
    let (outer, r, t) = later (set_future q to (Some (Number 0))) refl refl (omega arith) v j
    (subst (λ (u : Value). rest p c (suc n) (set_future q to (Some u)) ≡ given v j) (sym a') g) in (
      gathered (length members) ++ outer,
      gathers to members at ready r,
      counts_both (gathered (length members)) outer i j k (counts-gathered (length members) ∙ b') t s,
    )

read_runs : (p : Program) (c : Columns) (n : ℕ) (q : Place) → LaterRun p c (suc n) q → (to x : ℕ) → ActsAt p c q (Reads to x)
    → (v : Value) (k : Counts) → followed p c n (Reads to x) q ≡ given v k → RunsWith p c q v k
read_runs p c n q later to x at v k e = go (future_at q.futures x) refl e
  where
    go : (o : Option Value) → future_at q.futures x ≡ o → with_value o (λ u. with_number u (λ i. rest p c (suc n) (set_number q to i))) ≡ given v k → RunsWith p c q v k
    go None f g = absurd (nothing-given v k g)
    go (Some (Number i)) f g =
        let (events, r, t) = later (set_number q to i) refl refl (omega arith) v k g in (events, reads to x i at f r, t)
    go (Some (Trapped t)) f g =
        let (same, none) = value_given (Trapped t) v k g in
        ([], reads_trap to x at (f ∙ ap Some same) (subst IsTrap same tt), none)

respawn_runs : (p : Program) (c : Columns) (n : ℕ) → ((q : Place) → IsRun p c n q) → (q : Place) → (target : ℕ) (waits : Option ℕ) → ActsAt p c q (Respawns target waits)
    → (v : Value) (k : Counts) → followed p c n (Respawns target waits) q ≡ given v k → RunsWith p c q v k
respawn_runs p c n below q target waits at v k e =
    let (ready, f) = behind-given waits q.futures (adding (counted 0 1) (rest p c n (enter p q target))) v k e in
    let (one, j, a, g, s) = adding-given (counted 0 1) (rest p c n (enter p q target)) v k f in
    let (events, r, t) = below (enter p q target) v j g in
    let a' : record { tasks = 0; activations = 1 } ≡ one = cc a in
    (Starts ∷ events, respawns target waits at ready r, counts-started events ∙ ap (total _) t ∙ ap (λ (x : Counts). total x j) a' ∙ sym s)

act_runs : (p : Program) (c : Columns) (n : ℕ) → ((q : Place) → IsRun p c n q) → (q : Place) → LaterRun p c (suc n) q → (act : Act Value) → ActsAt p c q act → StepsAhead q act
    → (v : Value) (k : Counts) → followed p c n act q ≡ given v k → RunsWith p c q v k
act_runs p c n below q later (Steps next) at h v k e =
    let (events, r, t) = later next h.0 h.1 h.2 v k e in (events, steps next at r, t)
act_runs p c n below q later (Calls to call waits) at h v k e = call_runs p c n below q later to call waits at v k e
act_runs p c n below q later (Gathers to members) at h v k e = gather_runs p c n q later to members at v k e
act_runs p c n below q later (Reads to x) at h v k e = read_runs p c n q later to x at v k e
act_runs p c n below q later (Respawns target waits) at h v k e = respawn_runs p c n below q target waits at v k e
act_runs p c n below q later (Finishes w) at h v k e =
    let (same, none) = value_given w v k e in ([], finishes (subst (λ (u : Value). ActsAt p c q (Finishes u)) same at), none)

-- a place at a line, or past the lines, where the later places have runs
place_run : (p : Program) (c : Columns) → AllJumpAhead p → (n : ℕ) → ((q : Place) → IsRun p c n q) → (q : Place)
    → ((line : Line) → slice_get (code_at p q.kind q.state) q.at ≡ Some line → LaterRun p c (suc n) q) → IsRun p c (suc n) q
place_run p c ahead n below q later v k e = go (slice_get (code_at p q.kind q.state) q.at) refl
  where
    go : (o : Option Line) → slice_get (code_at p q.kind q.state) q.at ≡ o → RunsWith p c q v k
    go None f = absurd (nothing-given v k (sym (rest-past p c (suc n) q f) ∙ e))
    go (Some line) f =
        let jumps = ahead q.kind q.state q.at line f in
        act_runs p c n below q (later line f) (act_of c line.instr q) (line, f, refl) (act-ahead c line.instr q jumps) v k
        (sym (rest-follows p c n q line f jumps) ∙ e)

-- a place with at most so many lines left
lines_run : (p : Program) (c : Columns) → AllJumpAhead p → (n : ℕ) → ((q : Place) → IsRun p c n q) → (left : ℕ) (q : Place)
    → length (code_at p q.kind q.state) ≤ q.at + left → IsRun p c (suc n) q
lines_run p c ahead n below zero q h =
    place_run p c ahead n below q (λ line f. let g : q.at < length (code_at p q.kind q.state) = slice_get-in _ q.at line f in absurd (omega (arith, g, h)))
lines_run p c ahead n below (suc left) q h =
    place_run p c ahead n below q (λ line f next same_kind same_state further. lines_run p c ahead n below left next (fits next same_kind same_state further))
  where
    fits : (next : Place) → next.kind ≡ q.kind → next.state ≡ q.state → q.at < next.at → length (code_at p next.kind next.state) ≤ next.at + left
    fits next same_kind same_state further =
        let same : length (code_at p next.kind next.state) ≡ length (code_at p q.kind q.state)
        = ap (λ (x : ℕ). length (code_at p x next.state)) same_kind ∙ ap (λ (x : ℕ). length (code_at p q.kind x)) same_state in
        omega (arith, same, further, h)

-- what some fuel gives has a run with so many events
pub given-runs : (p : Program) (c : Columns) → AllJumpAhead p → (n : ℕ) (q : Place) (v : Value) (k : Counts) → rest p c n q ≡ given v k
    → (events : List Event) × Runs p c q v events × (counts_of events ≡ k)
given-runs p c ahead zero q v k e = absurd (nothing-given v k e)
given-runs p c ahead (suc n) q v k e =
    lines_run p c ahead n (given-runs p c ahead n) (length (code_at p q.kind q.state)) q (omega arith) v k e
