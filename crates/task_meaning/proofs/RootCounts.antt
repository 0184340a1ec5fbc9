-- The counts of the roots, one root more at a time.
use Rattle.std.specs.Prelude.{◌≡◌, ℕ, suc, ◌+◌, ◌<◌, ◌≤◌, ◌↔◌, Option, Some, None, List, [], length, slice_get}
use Rattle.std.proofs.Common.{refl, sym, ap, ◌∙◌, arith}
use Rattle.task_syntax.specs.Form.{IsWellFormed}
use Rattle.task_syntax.specs.declared.value.Value.{Value}
use Rattle.task_syntax.specs.declared.program.Root.{Root as RootLine}
use Rattle.task_syntax.specs.declared.program.Program.{Program}
use Rattle.task_syntax.specs.declared.columns.Columns.{Columns}
use Rattle.task_meaning.specs.Meant.{Counts, Meant, total, plus, adding, with_value, future_at, behind}
use Rattle.task_meaning.specs.Frame.{CallOf, entry}
use Rattle.task_meaning.specs.Meaning.{rest}
use Rattle.task_meaning.specs.Roots.{root_call, mean_roots, all_counts}
use Rattle.task_meaning.specs.Worths.{Accepted, worths, place_in, rest_of}
use Rattle.task_meaning.specs.Leads.{no_counts}
use Rattle.task_meaning.specs.FrameCounts.{RestCounts}
use Rattle.task_meaning.specs.RootLaws.{root_waits, AreRootTasks}
use Rattle.task_meaning.specs.RootCounts.{counts_in, root_counts, later_counts, RootCounts, RootsLeft}
use Rattle.task_meaning.proofs.Lists.{drop-at, drop-past, get-inside}
use Rattle.task_meaning.proofs.Grows.{Stays-at}
use Rattle.task_meaning.proofs.RootsFuel.{root_counts-stay, later_counts-stay}
use Rattle.task_meaning.proofs.Complete.{plus_given}
use Rattle.task_meaning.proofs.FrameCounts.{child-frame}
use Rattle.task_meaning.proofs.RootTasks.{mean_roots-length, root-task_meant}

-- the counts from a root on are its own and those after it, at each fuel
counts-split : (p : Program) (c : Columns) (n position : ℕ) (root : RootLine) → slice_get p.roots position ≡ Some root
    → later_counts p c n position ≡ plus (root_counts p c n position) (later_counts p c n (suc position))
counts-split p c n position root e =
    let all : length (mean_roots p c n) ≡ 0 + length p.roots = mean_roots-length p c n p.roots [] in
    let l : position < length p.roots = (drop-at p.roots position root e).1 in
    let (m, f) = get-inside (mean_roots p c n) position (omega (arith, all, l)) in
    ap all_counts (drop-at (mean_roots p c n) position m f).0
    ∙ ap (λ (o : Option Meant). plus (counts_in o) (later_counts p c n (suc position))) (sym f)

-- the roots from one on count what it counts and what those after it count
pub one-more : (p : Program) (c : Columns) (position : ℕ) (root : RootLine) (k : Counts) → slice_get p.roots position ≡ Some root
    → RootsLeft p c position k ↔ ((i : Counts) × (j : Counts) × RootCounts p c position i × RootsLeft p c (suc position) j × (k ≡ total i j))
one-more p c position root k e = (
  λ g.
      let (n, f) = g in
      let (i, j, a, b, s) = plus_given (root_counts p c n position) (later_counts p c n (suc position)) k (sym (counts-split p c n position root e) ∙ f) in
      (i, j, (n, a), (n, b), s),
  λ g.
      let (i, j, first, later, s) = g in
      let (n, a) = first in
      let (m, b) = later in
      let a' : root_counts p c (n + m) position ≡ Some i = Stays-at _ _ (root_counts-stay p c n (n + m) position (omega arith)) i a in
      let b' : later_counts p c (n + m) (suc position) ≡ Some j = Stays-at _ _ (later_counts-stay p c m (n + m) (suc position) (omega arith)) j b in (
        n + m,
        counts-split p c (n + m) position root e
            ∙ ap (λ (o : Option Counts). plus o (later_counts p c (n + m) (suc position))) a'
            ∙ ap (plus (Some i)) b'
            ∙ ap Some (sym s),
      ),
)

-- after the last root nothing is counted
pub none-left : (p : Program) (c : Columns) (position : ℕ) (k : Counts) → length p.roots ≤ position → RootsLeft p c position k ↔ (no_counts ≡ k)
none-left p c position k l = (
  λ g. let s : Some no_counts ≡ Some k = sym (none g.0) ∙ g.1 in cc s,
  λ s. (0, none 0 ∙ ap Some s),
)
  where
    none : (n : ℕ) → later_counts p c n position ≡ Some no_counts
    none n =
        let all : length (mean_roots p c n) ≡ 0 + length p.roots = mean_roots-length p c n p.roots [] in
        ap all_counts (drop-past (mean_roots p c n) position (omega (arith, all, l)))

-- what is counted behind a task, with more counted besides
behind-plus : (waits : Option ℕ) (ws : List (Option Value)) (more : Counts) (m : Meant) → (behind waits ws (adding (Some more) m)).counts ≡ plus (Some more) (behind waits ws m).counts
behind-plus None ws more m = refl
behind-plus (Some t) ws more m = go (future_at ws t)
  where
    go : (o : Option Value) → (with_value o (λ v. adding (Some more) m)).counts ≡ plus (Some more) (with_value o (λ v. m)).counts
    go None = refl
    go (Some v) = refl

-- a root with a task counts the task, an activation, and the first frame
pub root-task_counts : (p : Program) (c : Columns) (accepted : List Accepted) (own : List (Option ℕ)) (position : ℕ) (root : RootLine) (t : ℕ) (k : Counts)
    → IsWellFormed p → AreRootTasks p accepted own → slice_get p.roots position ≡ Some root → future_at own position ≡ Some t
    → RootCounts p c position k
    ↔ ((i : Counts) × RestCounts p c accepted (root_waits own root.behind) (entry p (root_call own root)) i
    × (k ≡ total (record { tasks = 1; activations = 1 }) i))
root-task_counts p c accepted own position root t k formed tasks e o = (
  λ g.
      let (n, f) = g in
      let (one', i, a, b, s) = plus_given (Some one) (first n) k (sym (at_fuel n) ∙ f) in
      let s' : one ≡ one' = cc a in
      (i, (n, b), s ∙ ap (λ (x : Counts). total x i) (sym s')),
  λ g.
      let (i, r, s) = g in
      let (n, b) = r in
      (n, at_fuel n ∙ ap (plus (Some one)) b ∙ ap Some (sym s)),
)
  where
    one : Counts
    one = record { tasks = 1; activations = 1 }

    call : CallOf ℕ
    call = root_call own root

    first : ℕ → Option Counts
    first n = (rest_of p c n accepted (root_waits own root.behind) (entry p call)).counts

    at_fuel : (n : ℕ) → root_counts p c n position ≡ plus (Some one) (first n)
    at_fuel n =
        let ws : List (Option Value) = worths p c n accepted in
        ap counts_in (root-task_meant p c n accepted own formed tasks position root t e o)
        ∙ ap (λ (m : Meant). (behind (root_waits own root.behind) ws m).counts) (child-frame p c n ws call)
        ∙ behind-plus (root_waits own root.behind) ws one (rest p c n (place_in ws (entry p call)))
