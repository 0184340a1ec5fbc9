-- The roots are calls that are made one by one.
use Rattle.std.specs.Prelude.{◌≡◌, ℕ, zero, suc, ◌+◌, ◌<◌, ◌≤◌, ◌↔◌, Option, Some, None, List, [], ◌∷◌, ◌++◌, map, length, slice_get}
use Rattle.std.proofs.Common.{refl, sym, ap, subst, ◌∙◌, arith}
use Rattle.task_syntax.specs.declared.value.Value.{Value}
use Rattle.task_syntax.specs.declared.program.Root.{Root as RootLine}
use Rattle.task_syntax.specs.declared.program.Program.{Program}
use Rattle.task_syntax.specs.declared.columns.Columns.{Columns}
use Rattle.task_meaning.specs.Meant.{Counts, Meant, total, plus, given, future_at}
use Rattle.task_meaning.specs.Frame.{Call}
use Rattle.task_meaning.specs.Meaning.{mean, CallGives}
use Rattle.task_meaning.specs.Roots.{root_call, values_of, mean_root, mean_roots_from, all_counts, root_value, RootGives, RootsCount}
use Rattle.task_meaning.specs.Runs.{IsReady}
use Rattle.task_meaning.specs.Leads.{no_counts, RootsCost}
use Rattle.task_meaning.proofs.Lists.{map-snoc, length-snoc}
use Rattle.task_meaning.proofs.Grows.{Stays-at}
use Rattle.task_meaning.proofs.RootsFuel.{root_value-stays}
use Rattle.task_meaning.proofs.Complete.{plus_given, complete-behind, complete-mean}
use Rattle.task_meaning.proofs.FromRuns.{given-by, behind-ready}
use Rattle.task_meaning.proofs.ToRuns.{behind-given}
use Rattle.task_meaning.proofs.GoesOn.{call_value-later, call_counts-later}

-- there are as many values as meanings
pub length-values : (ms : List Meant) → length (values_of ms) ≡ length ms
length-values [] = refl
length-values (m ∷ ms) = ap suc (length-values ms)

same_futures : {A : Type 0} (xs ys : List (Option A)) → length xs ≡ length ys → ((at : ℕ) → at < length xs → future_at xs at ≡ future_at ys at) → xs ≡ ys
same_futures [] [] e h = refl
same_futures [] (y ∷ ys) e h = absurd (omega (arith, e))
same_futures (x ∷ xs) [] e h = absurd (omega (arith, e))
same_futures {A} (x ∷ xs) (y ∷ ys) e h =
    let first : x ≡ y = h zero (omega arith) in
    let more : xs ≡ ys = same_futures xs ys (omega (arith, e)) (λ at l. h (suc at) (omega (arith, l))) in
    λ i. first i ∷ more i

-- later roots leave the earlier ones as they are
earlier-stay : (p : Program) (c : Columns) (n : ℕ) (roots : List RootLine) (ms : List Meant) (at : ℕ) → at < length ms
    → slice_get (mean_roots_from p c n ms roots) at ≡ slice_get ms at
earlier-stay p c n [] ms at h = refl
earlier-stay p c n (root ∷ roots) ms at h =
    let m : Meant = mean_root p c n (values_of ms) root in
    let longer : length (ms ++ m ∷ []) ≡ suc (length ms) = length-snoc ms m in
    earlier-stay p c n roots (ms ++ m ∷ []) at (omega (arith, longer, h)) ∙ slice_get-snoc ms m at h
  where
    slice_get-snoc : (xs : List Meant) (x : Meant) (i : ℕ) → i < length xs → slice_get (xs ++ x ∷ []) i ≡ slice_get xs i
    slice_get-snoc [] x i l = absurd (omega (arith, l))
    slice_get-snoc (y ∷ ys) x zero l = refl
    slice_get-snoc (y ∷ ys) x (suc i) l = slice_get-snoc ys x i (omega (arith, l))

slice_get-last : (xs : List Meant) (x : Meant) → slice_get (xs ++ x ∷ []) (length xs) ≡ Some x
slice_get-last [] x = refl
slice_get-last (y ∷ ys) x = slice_get-last ys x

value_in : Option Meant → Option Value
value_in None = None
value_in (Some m) = m.value

value-at : (ms : List Meant) (at : ℕ) → future_at (values_of ms) at ≡ value_in (slice_get ms at)
unfolding value_in
value-at [] at = refl
value-at (m ∷ ms) zero = refl
value-at (m ∷ ms) (suc at) = value-at ms at

-- a root is called behind the values of those before it
pub root-meant : (p : Program) (c : Columns) (n : ℕ) (roots : List RootLine) (at : ℕ) (root : RootLine) (ms : List Meant) (vs : List (Option Value))
    → slice_get roots at ≡ Some root → length vs ≡ length ms + at
    → ((j : ℕ) → j < length vs → future_at vs j ≡ future_at (values_of (mean_roots_from p c n ms roots)) j)
    → slice_get (mean_roots_from p c n ms roots) (length vs) ≡ Some (mean_root p c n vs root)
root-meant p c n [] at root ms vs e l h = absurd (cc e)
root-meant p c n (r ∷ roots) zero root ms vs e l h =
    let m : Meant = mean_root p c n (values_of ms) r in
    let longer : length (ms ++ m ∷ []) ≡ suc (length ms) = length-snoc ms m in
    let same : length (values_of ms) ≡ length ms = length-values ms in
    let all : List Meant = mean_roots_from p c n ms (r ∷ roots) in
    let vs_are : vs ≡ values_of ms = same_futures vs (values_of ms) (omega (arith, l, same))
    (λ j b. h j b ∙ value-at all j ∙ ap value_in (earlier-stay p c n (r ∷ roots) ms j (omega (arith, b, l))) ∙ sym (value-at ms j)) in
    let place : length vs ≡ length ms = omega (arith, l) in
    let r_is : r ≡ root = cc e in
    earlier-stay p c n roots (ms ++ m ∷ []) (length vs) (omega (arith, longer, l))
    ∙ ap (slice_get (ms ++ m ∷ [])) place
    ∙ slice_get-last ms m
    ∙ ap (λ (ws : List (Option Value)). Some (mean_root p c n ws r)) (sym vs_are)
    ∙ ap (λ (x : RootLine). Some (mean_root p c n vs x)) r_is
root-meant p c n (r ∷ roots) (suc at) root ms vs e l h =
    let m : Meant = mean_root p c n (values_of ms) r in
    let longer : length (ms ++ m ∷ []) ≡ suc (length ms) = length-snoc ms m in
    root-meant p c n roots at root (ms ++ m ∷ []) vs e (omega (arith, longer, l)) h

-- the value of a root, by the values of those before it
pub root-at : (p : Program) (c : Columns) (n : ℕ) (roots : List RootLine) (at : ℕ) (root : RootLine) (ms : List Meant) (vs : List (Option Value))
    → slice_get roots at ≡ Some root → length vs ≡ length ms + at
    → ((j : ℕ) → j < length vs → future_at vs j ≡ future_at (values_of (mean_roots_from p c n ms roots)) j)
    → future_at (values_of (mean_roots_from p c n ms roots)) (length vs) ≡ (mean_root p c n vs root).value
unfolding value_in
root-at p c n roots at root ms vs e l h =
    value-at (mean_roots_from p c n ms roots) (length vs) ∙ ap value_in (root-meant p c n roots at root ms vs e l h)

-- enough fuel for the values of all earlier roots
fuel_for : (p : Program) (c : Columns) (from : ℕ) (earlier : List Value) → ((at : ℕ) (u : Value) → slice_get earlier at ≡ Some u → RootGives p c (from + at) u)
    → (n : ℕ) × ((at : ℕ) (u : Value) → slice_get earlier at ≡ Some u → root_value p c n (from + at) ≡ Some u)
fuel_for p c from [] h = (0, λ at u e. absurd (cc e))
fuel_for p c from (v ∷ earlier) h =
    let (n, e) = h zero v refl in
    let (m, f) = fuel_for p c (from + 1) earlier
    (λ at u g. subst (λ (x : ℕ). RootGives p c x u) (omega arith) (h (suc at) u g)) in
    (n + m, both n m e f)
  where
    both : (n m : ℕ) → root_value p c n (from + 0) ≡ Some v → ((at : ℕ) (u : Value) → slice_get earlier at ≡ Some u → root_value p c m (from + 1 + at) ≡ Some u)
        → (at : ℕ) (u : Value) → slice_get (v ∷ earlier) at ≡ Some u → root_value p c (n + m) (from + at) ≡ Some u
    both n m e f zero u g = Stays-at _ _ (root_value-stays p c n (n + m) (from + 0) (omega arith)) u (e ∙ g)
    both n m e f (suc at) u g =
        let s : from + 1 + at ≡ from + suc at = omega arith in
        Stays-at _ _ (root_value-stays p c m (n + m) (from + suc at) (omega arith)) u (subst (λ (x : ℕ). root_value p c m x ≡ Some u) s (f at u g))

length-some : (vs : List Value) → length (map Some vs) ≡ length vs
length-some [] = refl
length-some (v ∷ vs) = ap suc (length-some vs)

slice_get-some : (vs : List Value) (at : ℕ) → at < length (map Some vs) → (v : Value) × (slice_get vs at ≡ Some v) × (future_at (map Some vs) at ≡ Some v)
slice_get-some [] at h = absurd (omega (arith, h))
slice_get-some (v ∷ vs) zero h = (v, refl, refl)
slice_get-some (v ∷ vs) (suc at) h = slice_get-some vs at (omega (arith, h))

-- the value of a root, where the fuel is enough for the roots before it
root_value-is : (p : Program) (c : Columns) (n : ℕ) (earlier : List Value) (root : RootLine) → slice_get p.roots (length earlier) ≡ Some root
    → ((at : ℕ) (u : Value) → slice_get earlier at ≡ Some u → root_value p c n at ≡ Some u) → IsReady (map Some earlier) root.behind
    → root_value p c n (length earlier) ≡ (mean p c n (root_call (map Some earlier) root)).value
root_value-is p c n earlier root e h ready =
    ap (root_value p c n) (sym (length-some earlier))
    ∙ root-at p c n p.roots (length earlier) root [] (map Some earlier) e (omega (arith, length-some earlier)) known
    ∙ ap (λ (m : Meant). m.value) (behind-ready root.behind (map Some earlier) (mean p c n (root_call (map Some earlier) root)) ready)
  where
    known : (j : ℕ) → j < length (map Some earlier) → future_at (map Some earlier) j ≡ root_value p c n j
    known j b = let (u, f, g) = slice_get-some earlier j b in g ∙ sym (h j u f)

-- the value of a root is that of its call with the values before it
pub roots-are_calls : (p : Program) (c : Columns) (earlier : List Value) (root : RootLine) (v : Value)
    → slice_get p.roots (length earlier) ≡ Some root
    → ((at : ℕ) (u : Value) → slice_get earlier at ≡ Some u → RootGives p c at u)
    → IsReady (map Some earlier) root.behind
    → CallGives p c (root_call (map Some earlier) root) v ↔ RootGives p c (length earlier) v
roots-are_calls p c earlier root v e h ready =
    let (n, f) = fuel_for p c 0 earlier (λ at u g. subst (λ (x : ℕ). RootGives p c x u) (omega arith) (h at u g)) in
    both n (λ at u g. let s : 0 + at ≡ at = omega arith in subst (λ (x : ℕ). root_value p c n x ≡ Some u) s (f at u g))
  where
    call : Call
    call = root_call (map Some earlier) root

    both : (n : ℕ) → ((at : ℕ) (u : Value) → slice_get earlier at ≡ Some u → root_value p c n at ≡ Some u)
        → CallGives p c call v ↔ RootGives p c (length earlier) v
    both n f = (there, back)
      where
        same : (m : ℕ) → root_value p c (n + m) (length earlier) ≡ (mean p c (n + m) call).value
        same m = root_value-is p c (n + m) earlier root e (λ at u g. Stays-at _ _ (root_value-stays p c n (n + m) at (omega arith)) u (f at u g)) ready

        there : CallGives p c call v → RootGives p c (length earlier) v
        there (m, g) = (n + m, same m ∙ call_value-later p c m (n + m) call v (omega arith) g)

        back : RootGives p c (length earlier) v → CallGives p c call v
        back (m, g) = (n + m, sym (same m) ∙ Stays-at _ _ (root_value-stays p c m (n + m) (length earlier) (omega arith)) v g)

-- no counts add nothing
pub total-none : (i : Counts) → total i no_counts ≡ i
total-none i =
    let t : i.tasks + 0 ≡ i.tasks = omega arith in
    let a : i.activations + 0 ≡ i.activations = omega arith in
    λ x. record { tasks = t x; activations = a x }

-- counts add up in any grouping
pub total-assoc : (i j k : Counts) → total (total i j) k ≡ total i (total j k)
total-assoc i j k =
    let t : i.tasks + j.tasks + k.tasks ≡ i.tasks + (j.tasks + k.tasks) = omega arith in
    let a : i.activations + j.activations + k.activations ≡ i.activations + (j.activations + k.activations) = omega arith in
    λ x. record { tasks = t x; activations = a x }

plus-none : (o : Option Counts) → plus o (Some no_counts) ≡ o
plus-none None = refl
plus-none (Some i) = ap Some (total-none i)

plus-assoc : (a b d : Option Counts) → plus (plus a b) d ≡ plus a (plus b d)
plus-assoc None b d = refl
plus-assoc (Some i) None d = refl
plus-assoc (Some i) (Some j) None = refl
plus-assoc (Some i) (Some j) (Some k) = ap Some (total-assoc i j k)

-- no counts in front add nothing
pub plus-first : (o : Option Counts) → plus (Some no_counts) o ≡ o
plus-first None = refl
plus-first (Some k) =
    let t : 0 + k.tasks ≡ k.tasks = omega arith in
    let a : 0 + k.activations ≡ k.activations = omega arith in
    λ x. Some (record { tasks = t x; activations = a x })

counts-snoc : (ms : List Meant) (m : Meant) → all_counts (ms ++ m ∷ []) ≡ plus (all_counts ms) m.counts
counts-snoc [] m = plus-none m.counts ∙ sym (plus-first m.counts)
counts-snoc (x ∷ ms) m = ap (plus x.counts) (counts-snoc ms m) ∙ sym (plus-assoc x.counts (all_counts ms) m.counts)

-- the counts of the earlier roots are given, where those of all are
earlier-counted : (p : Program) (c : Columns) (n : ℕ) (roots : List RootLine) (ms : List Meant) (k : Counts) → all_counts (mean_roots_from p c n ms roots) ≡ Some k
    → (i : Counts) × (all_counts ms ≡ Some i)
earlier-counted p c n [] ms k e = (k, e)
earlier-counted p c n (root ∷ roots) ms k e =
    let m : Meant = mean_root p c n (values_of ms) root in
    let (i, f) = earlier-counted p c n roots (ms ++ m ∷ []) k e in
    let (a, b, g, h, s) = plus_given (all_counts ms) m.counts i (sym (counts-snoc ms m) ∙ f) in
    (a, g)

values-snoc : (ms : List Meant) (m : Meant) (earlier : List Value) (v : Value) → values_of ms ≡ map Some earlier → m.value ≡ Some v
    → values_of (ms ++ m ∷ []) ≡ map Some (earlier ++ v ∷ [])
values-snoc ms m earlier v e f =
    map-snoc (λ (x : Meant). x.value) ms m
    ∙ ap (λ (vs : List (Option Value)). vs ++ m.value ∷ []) e
    ∙ ap (λ (o : Option Value). map Some earlier ++ o ∷ []) f
    ∙ sym (map-snoc {B = Option Value} Some earlier v)

sums : (i a b i' j k : Counts) → a ≡ i → i' ≡ total a b → k ≡ total i' j → k ≡ total i (total b j)
sums i a b i' j k e f g = g ∙ ap (λ (q : Counts). total q j) (f ∙ ap (λ (q : Counts). total q b) e) ∙ total-assoc i b j

to_cost : (p : Program) (c : Columns) (n : ℕ) (roots : List RootLine) (ms : List Meant) (earlier : List Value) (i k : Counts)
    → all_counts ms ≡ Some i → values_of ms ≡ map Some earlier → all_counts (mean_roots_from p c n ms roots) ≡ Some k
    → (j : Counts) × RootsCost p c earlier roots j × (k ≡ total i j)
to_cost p c n [] ms earlier i k e f g =
    let s : Some i ≡ Some k = sym e ∙ g in
    let t : i ≡ k = cc s in
    (no_counts, refl, sym (total-none i ∙ t))
to_cost p c n (root ∷ roots) ms earlier i k e f g =
    let m : Meant = mean_root p c n (values_of ms) root in
    let (i', h) = earlier-counted p c n roots (ms ++ m ∷ []) k g in
    let (a, b, x, y, s) = plus_given (all_counts ms) m.counts i' (sym (counts-snoc ms m) ∙ h) in
    let (v, z) = complete-behind root.behind (values_of ms) (mean p c n (root_call (values_of ms) root)) (complete-mean p c n (root_call (values_of ms) root)) b y in
    let whole : mean_root p c n (map Some earlier) root ≡ given v b
    = ap (λ (vs : List (Option Value)). mean_root p c n vs root) (sym f) ∙ given-by m v b z y in
    let (ready, r) = behind-given root.behind (map Some earlier) (mean p c n (root_call (map Some earlier) root)) v b whole in
    let (j, cost, t) = to_cost p c n roots (ms ++ m ∷ []) (earlier ++ v ∷ []) i' k h (values-snoc ms m earlier v f z) g in
    let same : Some a ≡ Some i = sym x ∙ e in
    let same' : a ≡ i = cc same in
    (total b j, (v, b, j, ready, (n, ap (λ (q : Meant). q.value) r), (n, ap (λ (q : Meant). q.counts) r), cost, refl {a = total b j}), sums i a b i' j k same' s t)

from_cost : (p : Program) (c : Columns) (roots : List RootLine) (earlier : List Value) (j : Counts) → RootsCost p c earlier roots j
    → (least : ℕ) × ((n : ℕ) (ms : List Meant) (i : Counts) → least ≤ n → all_counts ms ≡ Some i → values_of ms ≡ map Some earlier
    → all_counts (mean_roots_from p c n ms roots) ≡ Some (total i j))
from_cost p c [] earlier j cost = (0, λ n ms i l e f. e ∙ ap Some (sym (total-none i) ∙ ap (total i) cost))
from_cost p c (root ∷ roots) earlier j (v, a, j', ready, (n1, e1), (n2, e2), more, s) =
    let (least, h) = from_cost p c roots (earlier ++ v ∷ []) j' more in
    (least + n1 + n2, go least h)
  where
    call : Call
    call = root_call (map Some earlier) root

    go : (least : ℕ) → ((n : ℕ) (ms : List Meant) (i : Counts) → least ≤ n → all_counts ms ≡ Some i → values_of ms ≡ map Some (earlier ++ v ∷ [])
        → all_counts (mean_roots_from p c n ms roots) ≡ Some (total i j'))
        → (n : ℕ) (ms : List Meant) (i : Counts) → least + n1 + n2 ≤ n → all_counts ms ≡ Some i → values_of ms ≡ map Some earlier
        → all_counts (mean_roots_from p c n ms (root ∷ roots)) ≡ Some (total i j)
    go least h n ms i l e f =
        let m : Meant = mean_root p c n (values_of ms) root in
        let whole : m ≡ given v a
        = ap (λ (vs : List (Option Value)). mean_root p c n vs root) f
        ∙ behind-ready root.behind (map Some earlier) (mean p c n call) ready
        ∙ given-by (mean p c n call) v a (call_value-later p c n1 n call v (omega (arith, l)) e1) (call_counts-later p c n2 n call a (omega (arith, l)) e2) in
        h n (ms ++ m ∷ []) (total i a) (omega (arith, l))
        (counts-snoc ms m ∙ ap (λ (o : Option Counts). plus o m.counts) e ∙ ap (λ (q : Meant). plus (Some i) q.counts) whole)
        (values-snoc ms m earlier v f (ap (λ (q : Meant). q.value) whole))
        ∙ ap Some (total-assoc i a j' ∙ ap (total i) (sym s))

-- the counts of all roots are those of their calls, one by one
pub roots-add_up : (p : Program) (c : Columns) (k : Counts) → RootsCount p c k ↔ RootsCost p c [] p.roots k
roots-add_up p c k = (there, back)
  where
    first : (j : Counts) → total no_counts j ≡ j
    first j = let s : Some (total no_counts j) ≡ Some j = plus-first (Some j) in cc s

    there : RootsCount p c k → RootsCost p c [] p.roots k
    there (n, e) =
        let (j, cost, s) = to_cost p c n p.roots [] [] no_counts k refl refl e in
        subst (RootsCost p c [] p.roots) (sym (s ∙ first j)) cost

    back : RootsCost p c [] p.roots k → RootsCount p c k
    back cost =
        let (n, h) = from_cost p c p.roots [] k cost in
        (n, h n [] no_counts (omega arith) refl refl ∙ ap Some (first k))
