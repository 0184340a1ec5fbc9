-- The worth of a root's task is the root's value, and the root means what the task's call means.
use Rattle.std.specs.Prelude.{◌≡◌, ℕ, zero, suc, ◌+◌, ◌<◌, ◌≤◌, min, Option, Some, None, List, [], ◌∷◌, ◌++◌, map, length, take, slice_get, IfSome}
use Rattle.std.proofs.Common.{refl, sym, ap, ◌∙◌, arith}
use Rattle.std.proofs.lemmas.List.{get_or-take, length-take}
use Rattle.task_syntax.specs.Places.{Each}
use Rattle.task_syntax.specs.Form.{IsWellFormed, IsFormedRoot, IsFormedRootArgument}
use Rattle.task_syntax.specs.declared.value.Value.{Value}
use Rattle.task_syntax.specs.declared.program.RootArgument.{RootArgument}
use Rattle.task_syntax.specs.declared.program.RootArgument.TheVariants as root_argument
use Rattle.task_syntax.specs.declared.program.Root.{Root as RootLine}
use Rattle.task_syntax.specs.declared.program.Program.{Program}
use Rattle.task_syntax.specs.declared.columns.Columns.{Columns}
use Rattle.task_meaning.specs.Meant.{Meant, with_value, future_at, behind}
use Rattle.task_meaning.specs.Frame.{Call, renamed, call_with}
use Rattle.task_meaning.specs.Meaning.{mean}
use Rattle.task_meaning.specs.Roots.{root_number, root_future, root_call, values_of, mean_root, mean_roots_from, mean_roots, root_value}
use Rattle.task_meaning.specs.Worths.{Accepted, worths}
use Rattle.task_meaning.specs.RootLaws.{root_waits, HasTask, NamesTasks, IsRootTask, AreRootTasks}
use Rattle.task_meaning.proofs.Lists.{length-snoc}
use Rattle.task_meaning.proofs.RootsInTurn.{root-meant, root-at, length-values}
use Rattle.task_meaning.proofs.Worths.{call-worth}

-- each root has a meaning
pub mean_roots-length : (p : Program) (c : Columns) (n : ℕ) (roots : List RootLine) (ms : List Meant) → length (mean_roots_from p c n ms roots) ≡ length ms + length roots
mean_roots-length p c n [] ms = omega arith
mean_roots-length p c n (root ∷ roots) ms =
    let m : Meant = mean_root p c n (values_of ms) root in
    let e = mean_roots-length p c n roots (ms ++ m ∷ []) in
    let l : length (ms ++ m ∷ []) ≡ suc (length ms) = length-snoc ms m in
    omega (arith, e, l)

slice_get-before : {A : Type 0} (xs : List A) (at : ℕ) (x : A) (r : ℕ) → slice_get xs at ≡ Some x → r ≤ at → (y : A) × (slice_get xs r ≡ Some y) × (at < length xs)
slice_get-before [] at x r e l = absurd (cc e)
slice_get-before (y ∷ ys) zero x zero e l = (y, refl, omega arith)
slice_get-before (y ∷ ys) zero x (suc r) e l = absurd (omega (arith, l))
slice_get-before (y ∷ ys) (suc at) x zero e l =
    let (z, f, b) = slice_get-before ys at x zero e (omega arith) in (y, refl, omega (arith, b))
slice_get-before (y ∷ ys) (suc at) x (suc r) e l =
    let (z, f, b) = slice_get-before ys at x r e (omega (arith, l)) in (z, f, omega (arith, b))

-- the tasks of the roots before one have the values that it is called with
abbrev KnownBefore : List (Option Value) → List (Option ℕ) → List (Option Value) → ℕ → Type 0
KnownBefore ws own vs at = (r : ℕ) → r < at → HasTask own r → renamed (future_at ws) (future_at own r) ≡ future_at vs r

argument-same : (ws : List (Option Value)) (own : List (Option ℕ)) (vs : List (Option Value)) (at : ℕ) → KnownBefore ws own vs at
    → (a : RootArgument) → NamesTasks own a → IsFormedRootArgument at a → renamed (future_at ws) (root_future own a) ≡ root_future vs a
argument-same ws own vs at known (root_argument.Number n) h l = refl
argument-same ws own vs at known (root_argument.Root r) h l = known r l h

arguments-same : (ws : List (Option Value)) (own : List (Option ℕ)) (vs : List (Option Value)) (at : ℕ) → KnownBefore ws own vs at
    → (arguments : List RootArgument) → Each arguments (NamesTasks own) → Each arguments (IsFormedRootArgument at)
    → map (renamed (future_at ws)) (map (root_future own) arguments) ≡ map (root_future vs) arguments
arguments-same ws own vs at known [] h l = refl
arguments-same ws own vs at known (a ∷ more) h l =
    let first : renamed (future_at ws) (root_future own a) ≡ root_future vs a = argument-same ws own vs at known a (h zero a refl) (l zero a refl) in
    let others = arguments-same ws own vs at known more (λ i b e. h (suc i) b e) (λ i b e. l (suc i) b e) in
    λ i. first i ∷ others i

waits-same : (ws : List (Option Value)) (own : List (Option ℕ)) (vs : List (Option Value)) (at : ℕ) → KnownBefore ws own vs at
    → (b : Option ℕ) → IfSome b (HasTask own) → IfSome b (λ r. r < at) → (m : Meant) → behind (root_waits own b) ws m ≡ behind b vs m
waits-same ws own vs at known None h l m = refl
waits-same ws own vs at known (Some r) (t, e) l m =
    ap (λ (o : Option ℕ). behind o ws m) e
    ∙ ap (λ (o : Option Value). with_value o (λ v. m)) (ap (renamed (future_at ws)) (sym e) ∙ known r l (t, e))

-- A root with a task, where the roots before it are known: what it means is what the call of its task means.
module _ (p : Program) (c : Columns) (n : ℕ) (accepted : List Accepted) (own : List (Option ℕ)) (formed : IsWellFormed p)
    (at : ℕ) (root : RootLine) (t : ℕ) (e : slice_get p.roots at ≡ Some root) (is : IsRootTask accepted own root t) where
  ws : List (Option Value)
  ws = worths p c n accepted

  vs : List (Option Value)
  vs = take at (values_of (mean_roots p c n))

  fits : length vs ≡ at
  unfolding vs
  fits =
      let (r, f, b) = slice_get-before p.roots at root at e (omega arith) in
      let all : length (mean_roots p c n) ≡ 0 + length p.roots = mean_roots-length p c n p.roots [] in
      let same : length (values_of (mean_roots p c n)) ≡ length (mean_roots p c n) = length-values (mean_roots p c n) in
      let taken : length vs ≡ min at (length (values_of (mean_roots p c n))) = length-take at (values_of (mean_roots p c n)) in
      omega (arith, all, same, taken, b)

  read : (r : ℕ) → r < at → future_at vs r ≡ root_value p c n r
  unfolding vs
  read r h = get_or-take at (values_of (mean_roots p c n)) r None h

  root-is : slice_get (mean_roots p c n) at ≡ Some (mean_root p c n vs root)
  root-is = ap (slice_get (mean_roots p c n)) (sym fits) ∙ root-meant p c n p.roots at root [] vs e (omega (arith, fits)) (λ j b. read j (omega (arith, b, fits)))

  value-is : root_value p c n at ≡ (mean_root p c n vs root).value
  value-is = ap (root_value p c n) (sym fits) ∙ root-at p c n p.roots at root [] vs e (omega (arith, fits)) (λ j b. read j (omega (arith, b, fits)))

  -- what the call of the task means
  called : Meant
  called = behind (root_waits own root.behind) ws (mean p c n (call_with (future_at ws) (root_call own root)))

  worth-is : future_at ws t ≡ called.value
  unfolding ws called
  worth-is = ap (future_at ws) is.follows ∙ call-worth p c n accepted is.before (root_call own root) (root_waits own root.behind) is.accepted_as is.earlier is.earlier_waits

  known-before : ((r : ℕ) (other : RootLine) (s : ℕ) → r < at → slice_get p.roots r ≡ Some other → future_at own r ≡ Some s → future_at ws s ≡ root_value p c n r)
      → KnownBefore ws own vs at
  known-before smaller r b (s, f) =
      let (other, g, far) = slice_get-before p.roots at root r e (omega (arith, b)) in
      ap (renamed (future_at ws)) f ∙ smaller r other s b g f ∙ sym (read r b)

  called-is : KnownBefore ws own vs at → called ≡ mean_root p c n vs root
  unfolding called
  called-is known =
      let form : IsFormedRoot p at root = formed.roots at root e in
      let futures = arguments-same ws own vs at known root.arguments is.arguments form.arguments in
      let call_is : call_with (future_at ws) (root_call own root) ≡ root_call vs root
      = (λ i. record { kind = root.kind; numbers = map root_number root.arguments; futures = futures i }) in
      waits-same ws own vs at known root.behind is.waits form.behind (mean p c n (call_with (future_at ws) (root_call own root)))
      ∙ ap (λ (k : Call). behind root.behind vs (mean p c n k)) call_is

-- the worth of a root's task is the root's value
pub root-worth : (p : Program) (c : Columns) (n : ℕ) (accepted : List Accepted) (own : List (Option ℕ)) → IsWellFormed p → AreRootTasks p accepted own
    → (bound at : ℕ) (root : RootLine) (t : ℕ) → at < bound → slice_get p.roots at ≡ Some root → future_at own at ≡ Some t
    → future_at (worths p c n accepted) t ≡ root_value p c n at
unfolding ws
root-worth p c n accepted own formed tasks zero at root t l e o = absurd (omega (arith, l))
root-worth p c n accepted own formed tasks (suc bound) at root t l e o =
    let is : IsRootTask accepted own root t = tasks at root t e o in
    let known = known-before p c n accepted own formed at root t e is
    (λ r other s b g f. root-worth p c n accepted own formed tasks bound r other s (omega (arith, b, l)) g f) in
    worth-is p c n accepted own formed at root t e is
    ∙ ap (λ (m : Meant). m.value) (called-is p c n accepted own formed at root t e is known)
    ∙ sym (value-is p c n accepted own formed at root t e is)

-- a root with a task means what the call of its task means
pub root-task_meant : (p : Program) (c : Columns) (n : ℕ) (accepted : List Accepted) (own : List (Option ℕ)) → IsWellFormed p → AreRootTasks p accepted own
    → (at : ℕ) (root : RootLine) (t : ℕ) → slice_get p.roots at ≡ Some root → future_at own at ≡ Some t
    → slice_get (mean_roots p c n) at
    ≡ Some (behind (root_waits own root.behind) (worths p c n accepted) (mean p c n (call_with (future_at (worths p c n accepted)) (root_call own root))))
unfolding ws called
root-task_meant p c n accepted own formed tasks at root t e o =
    let is : IsRootTask accepted own root t = tasks at root t e o in
    let known = known-before p c n accepted own formed at root t e is
    (λ r other s b g f. root-worth p c n accepted own formed tasks (suc r) r other s (omega arith) g f) in
    root-is p c n accepted own formed at root t e is ∙ ap Some (sym (called-is p c n accepted own formed at root t e is known))
