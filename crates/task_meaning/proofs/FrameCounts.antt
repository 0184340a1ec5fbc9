-- What is still counted from the frames of tasks while calls are accepted.
use Rattle.std.specs.Prelude.{◌≡◌, ℕ, suc, ◌+◌, ◌≤◌, ◌↔◌, Option, Some, None, List, [], ◌∷◌, ◌++◌, length}
use Rattle.std.proofs.Common.{refl, sym, ap, ◌∙◌, arith}
use Rattle.task_syntax.specs.declared.value.Value.{Value}
use Rattle.task_syntax.specs.declared.program.Program.{Program}
use Rattle.task_syntax.specs.declared.columns.Columns.{Columns}
use Rattle.task_meaning.specs.Meant.{Counts, Meant, counted, total, given, adding, future_at, behind}
use Rattle.task_meaning.specs.Frame.{FrameOf, CallOf, Place, entry, set_future, call_with}
use Rattle.task_meaning.specs.Meaning.{with_child, rest, mean}
use Rattle.task_meaning.specs.Worths.{Accepted, OfCall, worth_of, worths, place_in, rest_of}
use Rattle.task_meaning.specs.Acts.{Calls, ActsAt}
use Rattle.task_meaning.specs.FrameLaws.{NamesTask, task_waited, NamesAccepted}
use Rattle.task_meaning.specs.FrameCounts.{RestCounts}
use Rattle.task_meaning.specs.AcceptedLaws.{IsCallAt}
use Rattle.task_meaning.proofs.Grows.{Stays, Stays-at, AllStay, AllStay-set, Within, Within-refl, Within-behind}
use Rattle.task_meaning.proofs.Fuel.{rest-grows, mean-within}
use Rattle.task_meaning.proofs.Complete.{complete-behind, complete-rest, complete-mean}
use Rattle.task_meaning.proofs.Ahead.{AllJumpAhead}
use Rattle.task_meaning.proofs.FromRuns.{given-by, given-later, rest-acts, behind-ready, child-given}
use Rattle.task_meaning.proofs.ToRuns.{behind-given, adding-given, with_child-given}
use Rattle.task_meaning.proofs.RootsInTurn.{total-assoc}
use Rattle.task_meaning.proofs.Renaming.{entry-renamed}
use Rattle.task_meaning.proofs.Worths.{worths-stay, AllStay-named, call-within, later-rest, acts-in}
use Rattle.task_meaning.proofs.Frames.{call-worth_at, next-rest, last-call, behind-task, value_of}

-- equal meanings have equal counts
pub counts_in : (m more : Meant) → m ≡ more → m.counts ≡ more.counts
counts_in m more e = ap (λ (r : Meant). r.counts) e

-- what has a value and counts keeps both where it grows
pub within-given : (m more : Meant) (v : Value) (k : Counts) → Within m more → m ≡ given v k → more ≡ given v k
within-given m more v k w e = given-by more v k (Stays-at _ _ w.value v (value_of _ _ e)) (Stays-at _ _ w.counts k (counts_in _ _ e))

-- the place of a frame gives more where more worths are known and more fuel is left
pub place-within : (p : Program) (c : Columns) (n m : ℕ) → n ≤ m → (ws vs : List (Option Value)) → AllStay ws vs → (q : FrameOf ℕ)
    → Within (rest p c n (place_in ws q)) (rest p c m (place_in vs q))
place-within p c n m e ws vs h q = rest-grows p c n m e q.kind q.state q.at q.numbers _ _ (AllStay-named ws vs h q.futures)

set-within : (p : Program) (c : Columns) (n m : ℕ) → n ≤ m → (ws vs : List (Option Value)) → AllStay ws vs → (q : FrameOf ℕ) (to : ℕ) (o : Option Value)
    → Within (rest p c n (set_future (place_in ws q) to o)) (rest p c m (set_future (place_in vs q) to o))
set-within p c n m e ws vs h q to o =
    rest-grows p c n m e q.kind q.state (q.at + 1) q.numbers _ _ (AllStay-set _ _ to o o (AllStay-named ws vs h q.futures) (keep o))
  where
    keep : (o : Option Value) → Stays o o
    keep None = tt
    keep (Some v) = refl

-- what follows from a frame grows with the fuel
pub rest_of-within : (p : Program) (c : Columns) (n m : ℕ) → n ≤ m → (accepted : List Accepted) (waits : Option ℕ) (q : FrameOf ℕ)
    → Within (rest_of p c n accepted waits q) (rest_of p c m accepted waits q)
rest_of-within p c n m e accepted waits q =
    let h : AllStay (worths p c n accepted) (worths p c m accepted) = worths-stay p c n m e accepted in
    Within-behind waits _ _ _ _ h (place-within p c n m e _ _ h q)

-- a frame whose counts are given has a value, and so it is from there on
pub whole : (p : Program) (c : Columns) (n m : ℕ) (accepted : List Accepted) (waits : Option ℕ) (q : FrameOf ℕ) (k : Counts) → n ≤ m
    → (rest_of p c n accepted waits q).counts ≡ Some k → (v : Value) × (rest_of p c m accepted waits q ≡ given v k)
whole p c n m accepted waits q k l e =
    let ws : List (Option Value) = worths p c n accepted in
    let (v, f) = complete-behind waits ws (rest p c n (place_in ws q)) (complete-rest p c n (place_in ws q)) k e in (
      v,
      within-given (rest_of p c n accepted waits q) (rest_of p c m accepted waits q) v k (rest_of-within p c n m l accepted waits q)
          (given-by (rest_of p c n accepted waits q) v k f e),
    )

-- a spawn in a frame: the child behind the task that is waited for, and then the frame behind
spawn-whole : (p : Program) (c : Columns) → AllJumpAhead p → (n : ℕ) (ws : List (Option Value)) (q : FrameOf ℕ) (to : ℕ) (call : CallOf ℕ) (x : Option ℕ)
    → ActsAt p c q (Calls to call x) → NamesTask q x
    → rest p c (suc n) (place_in ws q) ≡ with_child (behind (task_waited q x) ws (mean p c n (call_with (future_at ws) call))) (rest p c (suc n)) (place_in ws q) to
spawn-whole p c ahead n ws q to call x at held =
    rest-acts p c n (place_in ws q) (Calls to (call_with (future_at ws) call) x) ahead (acts-in p c ws q (Calls to call x) at)
    ∙ ap (λ (m : Meant). with_child m (rest p c (suc n)) (place_in ws q) to) (behind-task ws q x held (mean p c n (call_with (future_at ws) call)))

-- a child is given with its first frame, and one task and one activation more
pub child-frame : (p : Program) (c : Columns) (n : ℕ) (ws : List (Option Value)) (call : CallOf ℕ)
    → mean p c n (call_with (future_at ws) call) ≡ adding (counted 1 1) (rest p c n (place_in ws (entry p call)))
child-frame p c n ws call = ap (λ (r : Place). adding (counted 1 1) (rest p c n r)) (sym (entry-renamed (future_at ws) p call))

abbrev one : Counts
one = record { tasks = 1; activations = 1 }

complete-child_in : (p : Program) (c : Columns) (n : ℕ) (ws : List (Option Value)) (waits : Option ℕ) (call : CallOf ℕ) (k : Counts)
    → (behind waits ws (mean p c n (call_with (future_at ws) call))).counts ≡ Some k → (v : Value) × ((behind waits ws (mean p c n (call_with (future_at ws) call))).value ≡ Some v)
complete-child_in p c n ws waits call = complete-behind waits ws (mean p c n (call_with (future_at ws) call)) (complete-mean p c n (call_with (future_at ws) call))

module _ (p : Program) (c : Columns) (ahead : AllJumpAhead p) (accepted : List Accepted) (position : ℕ) (waits : Option ℕ) (q : FrameOf ℕ) (to : ℕ) (call : CallOf ℕ) (x : Option ℕ)
    (at : ActsAt p c q (Calls to call x)) (held : NamesTask q x) (is : IsCallAt accepted position call (task_waited q x)) where
  next : FrameOf ℕ
  next = set_future q to (Some (suc position))

  -- the counts of the spawn are those of the child and of the next frame
  AddsUp : Counts → Type 0
  AddsUp k = (i : Counts) × (j : Counts) × RestCounts p c accepted (task_waited q x) (entry p call) i × RestCounts p c accepted waits next j × (k ≡ total one (total i j))

  spawn-forth : (k : Counts) → RestCounts p c accepted waits q k → AddsUp k
  unfolding AddsUp next
  spawn-forth k (n, e) =
      let ws : List (Option Value) = worths p c (suc n) accepted in
      let (v, f) = whole p c n (suc n) accepted waits q k (omega arith) e in
      let (ready, g) = behind-given waits ws (rest p c (suc n) (place_in ws q)) v k f in
      let (w, i', j, a, b, s) = with_child-given (behind (task_waited q x) ws (mean p c n (call_with (future_at ws) call))) (rest p c (suc n)) (place_in ws q) to v k
      (complete-child_in p c n ws (task_waited q x) call) (sym (spawn-whole p c ahead n ws q to call x at held) ∙ g) in
      let (ready', a') = behind-given (task_waited q x) ws (mean p c n (call_with (future_at ws) call)) w i' a in
      let (i0, i, u, d, s') = adding-given (counted 1 1) (rest p c n (place_in ws (entry p call))) w i' (sym (child-frame p c n ws call) ∙ a') in
      let u' : one ≡ i0 = cc u in
      let d' : rest p c (suc n) (place_in ws (entry p call)) ≡ given w i = given-later p c n (suc n) (place_in ws (entry p call)) w i (omega arith) d in
      let worth : worth_of p c (suc n) ws (OfCall call (task_waited q x)) ≡ Some w
      = value_of _ _ (behind-ready (task_waited q x) ws (mean p c (suc n) (call_with (future_at ws) call)) ready'
      ∙ within-given _ _ w i' (mean-within p c n (suc n) (call_with (future_at ws) call) (omega arith)) a') in
      let first : rest_of p c (suc n) accepted (task_waited q x) (entry p call) ≡ given w i
      = behind-ready (task_waited q x) ws (rest p c (suc n) (place_in ws (entry p call))) ready' ∙ d' in
      let second : rest_of p c (suc n) accepted waits (set_future q to (Some (suc position))) ≡ given v j
      = next-rest p c (suc n) accepted position (OfCall call (task_waited q x)) (call-worth_at p c accepted position call (task_waited q x) is) waits q to
      ∙ ap (λ (o : Option Value). behind waits ws (rest p c (suc n) (set_future (place_in ws q) to o))) worth
      ∙ behind-ready waits ws (rest p c (suc n) (set_future (place_in ws q) to (Some w))) ready
      ∙ b in (
        i,
        j,
        (suc n, counts_in _ (given w i) first),
        (suc n, counts_in _ (given v j) second),
        s ∙ ap (λ (r : Counts). total r j) (s' ∙ ap (λ (r : Counts). total r i) (sym u')) ∙ total-assoc one i j,
      )

  spawn-back : (k : Counts) → AddsUp k → RestCounts p c accepted waits q k
  unfolding AddsUp next
  spawn-back k (i, j, (n, e), (m, f), s) =
      let most : ℕ = n + m in
      let vs : List (Option Value) = worths p c most accepted in
      let ws : List (Option Value) = worths p c (suc most) accepted in
      let h : AllStay vs ws = worths-stay p c most (suc most) (omega arith) accepted in
      let (w, a) = whole p c n most accepted (task_waited q x) (entry p call) i (omega arith) e in
      let (v, b) = whole p c m most accepted waits next j (omega arith) f in
      let (ready', a') = behind-given (task_waited q x) vs (rest p c most (place_in vs (entry p call))) w i a in
      let child : mean p c most (call_with (future_at vs) call) ≡ given w (total one i)
      = child-frame p c most vs call ∙ ap (adding (counted 1 1)) a' in
      let child' : behind (task_waited q x) vs (mean p c most (call_with (future_at vs) call)) ≡ given w (total one i)
      = behind-ready (task_waited q x) vs (mean p c most (call_with (future_at vs) call)) ready' ∙ child in
      let b' : behind waits vs (rest p c most (set_future (place_in vs q) to (Some w))) ≡ given v j
      = ap (λ (o : Option Value). behind waits vs (rest p c most (set_future (place_in vs q) to o))) (sym (value_of _ _ child'))
      ∙ sym (next-rest p c most accepted position (OfCall call (task_waited q x)) (call-worth_at p c accepted position call (task_waited q x) is) waits q to) ∙ b in
      let (ready, b'') = behind-given waits vs (rest p c most (set_future (place_in vs q) to (Some w))) v j b' in
      let whole_child : behind (task_waited q x) ws (mean p c most (call_with (future_at ws) call)) ≡ given w (total one i)
      = within-given _ _ w (total one i) (Within-behind (task_waited q x) vs ws _ _ h (call-within p c most most (omega arith) vs ws h call)) child' in
      let whole_next : rest p c (suc most) (set_future (place_in ws q) to (Some w)) ≡ given v j
      = within-given _ _ v j (set-within p c most (suc most) (omega arith) vs ws h q to (Some w)) b'' in
      let place : rest p c (suc most) (place_in ws q) ≡ given v (total (total one i) j)
      = spawn-whole p c ahead most ws q to call x at held
      ∙ child-given _ w v (total one i) j (rest p c (suc most)) (place_in ws q) to whole_child whole_next in
      let end : rest_of p c (suc most) accepted waits q ≡ given v (total (total one i) j)
      = within-given _ _ v (total (total one i) j)
      (Within-behind waits vs ws _ _ h (Within-refl (rest p c (suc most) (place_in ws q))))
      (behind-ready waits vs (rest p c (suc most) (place_in ws q)) ready ∙ place) in
      (suc most, counts_in _ _ end ∙ ap Some (total-assoc one i j ∙ sym s))

-- at a spawn whose call stands at a position, and at one whose call is accepted now
pub accepted_spawns-counts : (p : Program) (c : Columns) → AllJumpAhead p
    → (accepted : List Accepted) (position : ℕ) (waits : Option ℕ) (q : FrameOf ℕ) (to : ℕ) (call : CallOf ℕ) (x : Option ℕ) (k : Counts)
    → ActsAt p c q (Calls to call x) → NamesTask q x → IsCallAt accepted position call (task_waited q x)
    → RestCounts p c accepted waits q k
    ↔ ((i : Counts) × (j : Counts) × RestCounts p c accepted (task_waited q x) (entry p call) i
    × RestCounts p c accepted waits (set_future q to (Some (suc position))) j × (k ≡ total one (total i j)))
unfolding AddsUp next
accepted_spawns-counts p c ahead accepted position waits q to call x k at held is =
    (spawn-forth p c ahead accepted position waits q to call x at held is k, spawn-back p c ahead accepted position waits q to call x at held is k)

-- a frame counts what it counted before one more was accepted
pub grown-counts : (p : Program) (c : Columns) (accepted : List Accepted) (a : Accepted) (waits : Option ℕ) (q : FrameOf ℕ) (k : Counts) → NamesAccepted accepted waits q
    → RestCounts p c accepted waits q k ↔ RestCounts p c (accepted ++ a ∷ []) waits q k
grown-counts p c accepted a waits q k names = (
  λ g. (g.0, counts_in _ _ (later-rest p c g.0 accepted (a ∷ []) waits q names.0 names.1) ∙ g.1),
  λ g. (g.0, sym (counts_in _ _ (later-rest p c g.0 accepted (a ∷ []) waits q names.0 names.1)) ∙ g.1),
)

-- at a spawn whose call is accepted now
pub spawns-counts : (p : Program) (c : Columns) → AllJumpAhead p → (accepted : List Accepted) (waits : Option ℕ) (q : FrameOf ℕ) (to : ℕ) (call : CallOf ℕ) (x : Option ℕ) (k : Counts)
    → NamesAccepted accepted waits q → ActsAt p c q (Calls to call x) → NamesTask q x
    → RestCounts p c accepted waits q k
    ↔ ((i : Counts) × (j : Counts)
    × RestCounts p c (accepted ++ OfCall call (task_waited q x) ∷ []) (task_waited q x) (entry p call) i
    × RestCounts p c (accepted ++ OfCall call (task_waited q x) ∷ []) waits (set_future q to (Some (suc (length accepted)))) j
    × (k ≡ total one (total i j)))
spawns-counts p c ahead accepted waits q to call x k names at held =
    let a : Accepted = OfCall call (task_waited q x) in
    let grown = grown-counts p c accepted a waits q k names in
    let both = accepted_spawns-counts p c ahead (accepted ++ a ∷ []) (length accepted) waits q to call x k at held (last-call p c accepted q to call x names.0 at) in
    (λ g. both.0 (grown.0 g), λ g. grown.1 (both.1 g))
