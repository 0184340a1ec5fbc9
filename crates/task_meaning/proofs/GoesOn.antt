-- Act by act, with no fuel named.
use Rattle.std.specs.Prelude.{◌≡◌, ℕ, suc, ◌+◌, ◌≤◌, ◌↔◌, Option, Some, None, length}
use Rattle.std.proofs.Common.{refl, sym, ap, ◌∙◌, arith}
use Rattle.task_syntax.specs.declared.value.Value.{Value}
use Rattle.task_syntax.specs.declared.value.Value.TheVariants.{Number}
use Rattle.task_syntax.specs.declared.program.Program.{Program}
use Rattle.task_syntax.specs.declared.columns.Columns.{Columns}
use Rattle.task_meaning.specs.Meant.{Counts, Meant, counted, total, plus, gives, given, adding, with_value, with_number}
use Rattle.task_meaning.specs.Frame.{Place, Call, set_number, set_future}
use Rattle.task_meaning.specs.Meaning.{child_of, with_child, rest, mean, Gives, GivesCounts, CallGives, CallCounts}
use Rattle.task_meaning.specs.Acts.{Calls, ActsAt}
use Rattle.task_meaning.specs.Runs.{IsReady}
use Rattle.task_meaning.specs.Leads.{Leads, EndsAt, no_counts}
use Rattle.task_meaning.specs.Leads.Leads.{steps, gathers, reads, respawns}
use Rattle.task_meaning.specs.Leads.EndsAt.{finishes, traps}
use Rattle.task_meaning.proofs.Grows.{Stays-at}
use Rattle.task_meaning.proofs.Fuel.{rest-within, mean-within}
use Rattle.task_meaning.proofs.Complete.{plus_given, complete-rest, complete-child}
use Rattle.task_meaning.proofs.Ahead.{AllJumpAhead}
use Rattle.task_meaning.proofs.FromRuns.{given-by, rest-acts, behind-ready, behind_all-ready, trap-ends}
use Rattle.task_meaning.proofs.ToRuns.{behind-given, with_child-given}

-- more fuel gives a place the same value
pub value-later : (p : Program) (c : Columns) (n m : ℕ) (q : Place) (v : Value) → n ≤ m → (rest p c n q).value ≡ Some v → (rest p c m q).value ≡ Some v
value-later p c n m q v e f = Stays-at _ _ (rest-within p c n m q e).value v f

-- more fuel gives a place the same counts
pub counts-later : (p : Program) (c : Columns) (n m : ℕ) (q : Place) (k : Counts) → n ≤ m → (rest p c n q).counts ≡ Some k → (rest p c m q).counts ≡ Some k
counts-later p c n m q k e f = Stays-at _ _ (rest-within p c n m q e).counts k f

-- more fuel gives a call the same value
pub call_value-later : (p : Program) (c : Columns) (n m : ℕ) (call : Call) (v : Value) → n ≤ m → (mean p c n call).value ≡ Some v → (mean p c m call).value ≡ Some v
call_value-later p c n m call v e f = Stays-at _ _ (mean-within p c n m call e).value v f

-- more fuel gives a call the same counts
pub call_counts-later : (p : Program) (c : Columns) (n m : ℕ) (call : Call) (k : Counts) → n ≤ m → (mean p c n call).counts ≡ Some k → (mean p c m call).counts ≡ Some k
call_counts-later p c n m call k e f = Stays-at _ _ (mean-within p c n m call e).counts k f

-- a place gives one value at most
pub one-value : (p : Program) (c : Columns) (q : Place) (v w : Value) → Gives p c q v → Gives p c q w → v ≡ w
one-value p c q v w (n, e) (m, f) =
    let a = value-later p c n (n + m) q v (omega arith) e in
    let b = value-later p c m (n + m) q w (omega arith) f in
    let s : Some v ≡ Some w = sym a ∙ b in cc s

-- a place gives one pair of counts at most
pub one-counts : (p : Program) (c : Columns) (q : Place) (i j : Counts) → GivesCounts p c q i → GivesCounts p c q j → i ≡ j
one-counts p c q i j (n, e) (m, f) =
    let a = counts-later p c n (n + m) q i (omega arith) e in
    let b = counts-later p c m (n + m) q j (omega arith) f in
    let s : Some i ≡ Some j = sym a ∙ b in cc s

-- a call gives one value at most
pub one-call_value : (p : Program) (c : Columns) (call : Call) (v w : Value) → CallGives p c call v → CallGives p c call w → v ≡ w
one-call_value p c call v w (n, e) (m, f) =
    let a = call_value-later p c n (n + m) call v (omega arith) e in
    let b = call_value-later p c m (n + m) call w (omega arith) f in
    let s : Some v ≡ Some w = sym a ∙ b in cc s

-- a call gives one pair of counts at most
pub one-call_counts : (p : Program) (c : Columns) (call : Call) (i j : Counts) → CallCounts p c call i → CallCounts p c call j → i ≡ j
one-call_counts p c call i j (n, e) (m, f) =
    let a = call_counts-later p c n (n + m) call i (omega arith) e in
    let b = call_counts-later p c m (n + m) call j (omega arith) f in
    let s : Some i ≡ Some j = sym a ∙ b in cc s

-- from a place with fuel left, the next place goes on with as much fuel or one less
pub record Leading (p : Program) (c : Columns) (q : Place) (extra : Counts) (next : Place) : Type 0 where
  pub fuel : ℕ → ℕ
  pub enough : (n : ℕ) → n ≤ fuel n
  pub follows : (n : ℕ) → rest p c (suc n) q ≡ adding (Some extra) (rest p c (fuel n) next)

adding-none : (m : Meant) → m ≡ adding (Some no_counts) m
adding-none m = λ i. record { value = m.value; counts = go m.counts i }
  where
    go : (o : Option Counts) → o ≡ plus (Some no_counts) o
    go None = refl
    go (Some k) =
        let t : k.tasks ≡ 0 + k.tasks = omega arith in
        let a : k.activations ≡ 0 + k.activations = omega arith in
        λ i. Some (record { tasks = t i; activations = a i })

-- an aggregate whose members have values gives 0, with a task and an activation for each
pub aggregate-given : (members : ℕ) → adding (counted 1 members) (gives (Number 0)) ≡ given (Number 0) (record { tasks = 1; activations = members })
aggregate-given members =
    let t : 1 + 0 ≡ 1 = omega arith in
    let a : members + 0 ≡ members = omega arith in
    λ i. given (Number 0) (record { tasks = t i; activations = a i })

-- an act that is no call goes on at the next place
pub leading : (p : Program) (c : Columns) → AllJumpAhead p → (q : Place) (extra : Counts) (next : Place) → Leads p c q extra next → Leading p c q extra next
leading p c ahead q extra next (steps {q = place} following at) = record {
  fuel = suc;
  enough = λ n. omega arith;
  follows = λ n. rest-acts p c n _ _ ahead at ∙ adding-none _;
}
leading p c ahead q extra next (gathers {q = place} to members at ready) = record {
  fuel = suc;
  enough = λ n. omega arith;
  follows = λ n. rest-acts p c n _ _ ahead at
      ∙ ap (λ (m : Meant). with_child m (rest p c (suc n)) place to)
      (behind_all-ready members place.futures (adding (counted 1 (length members)) (gives (Number 0))) ready ∙ aggregate-given (length members));
}
leading p c ahead q extra next (reads {q = place} to x k at named) = record {
  fuel = suc;
  enough = λ n. omega arith;
  follows = λ n. rest-acts p c n _ _ ahead at
      ∙ ap (λ (o : Option Value). with_value o (λ u. with_number u (λ i. rest p c (suc n) (set_number place to i)))) named
      ∙ adding-none _;
}
leading p c ahead q extra next (respawns {q = place} target waits at ready) = record {
  fuel = λ n. n;
  enough = λ n. omega arith;
  follows = λ n. rest-acts p c n _ _ ahead at ∙ behind-ready waits place.futures _ ready;
}

value_of : (m more : Meant) → m ≡ more → m.value ≡ more.value
value_of m more e = ap (λ (r : Meant). r.value) e

counts_in : (m more : Meant) → m ≡ more → m.counts ≡ more.counts
counts_in m more e = ap (λ (r : Meant). r.counts) e

-- after such an act the value is the same
pub leads-value : (p : Program) (c : Columns) → AllJumpAhead p → (q next : Place) (extra : Counts) (v : Value) → Leads p c q extra next → Gives p c q v ↔ Gives p c next v
leads-value p c ahead q next extra v leads = (there, back)
  where
    l : Leading p c q extra next
    l = leading p c ahead q extra next leads

    there : Gives p c q v → Gives p c next v
    there (n, e) = (l.fuel n, sym (value_of _ _ (l.follows n)) ∙ value-later p c n (suc n) q v (omega arith) e)

    back : Gives p c next v → Gives p c q v
    back (n, e) = (suc n, value_of _ _ (l.follows n) ∙ value-later p c n (l.fuel n) next v (l.enough n) e)

-- such an act counts its own, and what the next place counts
pub leads-counts : (p : Program) (c : Columns) → AllJumpAhead p → (q next : Place) (extra k : Counts) → Leads p c q extra next
    → GivesCounts p c q k ↔ ((j : Counts) × GivesCounts p c next j × (k ≡ total extra j))
leads-counts p c ahead q next extra k leads = (there, back)
  where
    l : Leading p c q extra next
    l = leading p c ahead q extra next leads

    there : GivesCounts p c q k → (j : Counts) × GivesCounts p c next j × (k ≡ total extra j)
    there (n, e) =
        let f : plus (Some extra) (rest p c (l.fuel n) next).counts ≡ Some k
        = sym (counts_in _ _ (l.follows n)) ∙ counts-later p c n (suc n) q k (omega arith) e in
        let (i, j, a, b, s) = plus_given (Some extra) (rest p c (l.fuel n) next).counts k f in
        let a' : i ≡ extra = cc a in
        (j, (l.fuel n, b), s ∙ ap (λ (x : Counts). total x j) a')

    back : (j : Counts) × GivesCounts p c next j × (k ≡ total extra j) → GivesCounts p c q k
    back (j, (n, e), s) =
        (suc n, counts_in _ _ (l.follows n) ∙ ap (plus (Some extra)) (counts-later p c n (l.fuel n) next j (l.enough n) e) ∙ ap Some (sym s))

-- a spawn where the child has its value at this fuel
calling : (p : Program) (c : Columns) → AllJumpAhead p → (n : ℕ) (q : Place) (to : ℕ) (call : Call) (waits : Option ℕ) (w : Value)
    → ActsAt p c q (Calls to call waits) → IsReady q.futures waits → (mean p c n call).value ≡ Some w
    → rest p c (suc n) q ≡ adding (mean p c n call).counts (rest p c (suc n) (set_future q to (Some w)))
calling p c ahead n q to call waits w at ready e =
    rest-acts p c n q _ ahead at
    ∙ ap (λ (m : Meant). with_child m (rest p c (suc n)) q to) (behind-ready waits q.futures (mean p c n call) ready)
    ∙ ap (λ (o : Option Value). adding (mean p c n call).counts (rest p c (suc n) (set_future q to o))) e

-- after a call with a value the task goes on with it
pub calls-value : (p : Program) (c : Columns) → AllJumpAhead p → (q : Place) (to : ℕ) (call : Call) (waits : Option ℕ) (w v : Value)
    → ActsAt p c q (Calls to call waits) → IsReady q.futures waits → CallGives p c call w → Gives p c q v ↔ Gives p c (set_future q to (Some w)) v
calls-value p c ahead q to call waits w v at ready (m, f) = (there, back)
  where
    at_fuel : (n : ℕ) → rest p c (suc (n + m)) q ≡ adding (mean p c (n + m) call).counts (rest p c (suc (n + m)) (set_future q to (Some w)))
    at_fuel n = calling p c ahead (n + m) q to call waits w at ready (call_value-later p c m (n + m) call w (omega arith) f)

    there : Gives p c q v → Gives p c (set_future q to (Some w)) v
    there (n, e) = (suc (n + m), sym (value_of _ _ (at_fuel n)) ∙ value-later p c n (suc (n + m)) q v (omega arith) e)

    back : Gives p c (set_future q to (Some w)) v → Gives p c q v
    back (n, e) = (suc (n + m), value_of _ _ (at_fuel n) ∙ value-later p c n (suc (n + m)) (set_future q to (Some w)) v (omega arith) e)

-- a call counts its own, and what the next place counts
pub calls-counts : (p : Program) (c : Columns) → AllJumpAhead p → (q : Place) (to : ℕ) (call : Call) (waits : Option ℕ) (k : Counts)
    → ActsAt p c q (Calls to call waits)
    → GivesCounts p c q k ↔ ((w : Value) × (i : Counts) × (j : Counts) × IsReady q.futures waits × CallGives p c call w × CallCounts p c call i
    × GivesCounts p c (set_future q to (Some w)) j × (k ≡ total i j))
calls-counts p c ahead q to call waits k at = (there, back)
  where
    there : GivesCounts p c q k → (w : Value) × (i : Counts) × (j : Counts) × IsReady q.futures waits × CallGives p c call w × CallCounts p c call i
        × GivesCounts p c (set_future q to (Some w)) j × (k ≡ total i j)
    there (n, e) =
        let f = counts-later p c n (suc n) q k (omega arith) e in
        let (v, g) = complete-rest p c (suc n) q k f in
        let (w, i, j, a, b, s) = with_child-given (child_of p (rest p c n) waits call q.futures) (rest p c (suc n)) q to v k (complete-child p c n waits call q.futures)
        (sym (rest-acts p c n q _ ahead at) ∙ given-by (rest p c (suc n) q) v k g f) in
        let (ready, a') = behind-given waits q.futures (mean p c n call) w i a in
        let next : Place = set_future q to (Some w) in (
          w,
          i,
          j,
          ready,
          (n, value_of (mean p c n call) (given w i) a'),
          (n, counts_in (mean p c n call) (given w i) a'),
          (suc n, counts_in (rest p c (suc n) next) (given v j) b),
          s,
        )

    back : (w : Value) × (i : Counts) × (j : Counts) × IsReady q.futures waits × CallGives p c call w × CallCounts p c call i
        × GivesCounts p c (set_future q to (Some w)) j × (k ≡ total i j) → GivesCounts p c q k
    back (w, i, j, ready, (n, e), (m, f), (l, g), s) =
        let most : ℕ = n + m + l in (
          suc most,
          counts_in _ _ (calling p c ahead most q to call waits w at ready (call_value-later p c n most call w (omega arith) e))
              ∙ ap (λ (o : Option Counts). plus o (rest p c (suc most) (set_future q to (Some w))).counts) (call_counts-later p c m most call i (omega arith) f)
              ∙ ap (plus (Some i)) (counts-later p c l (suc most) (set_future q to (Some w)) j (omega arith) g)
              ∙ ap Some (sym s),
        )

-- a place where the task ends
pub ends-at : (p : Program) (c : Columns) → AllJumpAhead p → (q : Place) (w : Value) → EndsAt p c q w → (n : ℕ) → rest p c (suc n) q ≡ given w no_counts
ends-at p c ahead q w (finishes at) n = rest-acts p c n _ _ ahead at
ends-at p c ahead q w (traps {q = place} to x at named trap) n =
    rest-acts p c n _ _ ahead at
    ∙ ap (λ (o : Option Value). with_value o (λ u. with_number u (λ i. rest p c (suc n) (set_number place to i)))) named
    ∙ trap-ends _ _ trap

-- where a task ends this is its value
pub ends-value : (p : Program) (c : Columns) → AllJumpAhead p → (q : Place) (w v : Value) → EndsAt p c q w → Gives p c q v ↔ (w ≡ v)
ends-value p c ahead q w v ends = (λ g. one-value p c q w v (1, value_of _ _ (ends-at p c ahead q w ends 0)) g, λ s. (1, value_of _ _ (ends-at p c ahead q w ends 0) ∙ ap Some s))

-- where a task ends no more is counted
pub ends-counts : (p : Program) (c : Columns) → AllJumpAhead p → (q : Place) (w : Value) (k : Counts) → EndsAt p c q w → GivesCounts p c q k ↔ (no_counts ≡ k)
ends-counts p c ahead q w k ends =
    (λ g. one-counts p c q no_counts k (1, counts_in _ _ (ends-at p c ahead q w ends 0)) g, λ s. (1, counts_in _ _ (ends-at p c ahead q w ends 0) ∙ ap Some s))
