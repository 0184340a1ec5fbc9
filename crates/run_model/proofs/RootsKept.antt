-- Each move keeps what became of the roots that were asked for, in a well-formed program.
use Rattle.std.proofs.Common.{◌≡◌, ℕ, zero, suc, ◌<◌, ◌≤◌, Option, Some, None, List, [], ◌∷◌, ◌++◌, length, map, slice_get, refl, sym, ◌∙◌, ap, subst, ⊎_elim, arith}
use Rattle.std.specs.Prelude.{IfSome}
use Rattle.std.specs.List.{flat_map}
use Rattle.std.specs.Option.{option_map, option_or}
use Rattle.std.proofs.lemmas.Option.{none-some, same_Some, slice_get_within, IfSome_then}
use Rattle.task_syntax.specs.Places.{Each}
use Rattle.task_syntax.specs.Form.{IsWellFormed, IsFormedRootArgument}
use Rattle.task_syntax.specs.declared.program.RootArgument.{RootArgument}
use Rattle.task_syntax.specs.declared.program.RootArgument.TheVariants as root_argument
use Rattle.task_syntax.specs.declared.program.Root.{Root as RootLine}
use Rattle.task_syntax.specs.declared.program.Program.{Program}
use Rattle.task_syntax.specs.declared.columns.Columns.{Columns}
use Rattle.task_meaning.specs.Meant.{future_at}
use Rattle.task_meaning.specs.Frame.{CallOf, set_future}
use Rattle.task_meaning.specs.Roots.{root_call, root_future}
use Rattle.task_meaning.specs.RootLaws.{root_waits, HasTask as HasOwn, NamesTasks, IsRootTask, AreRootTasks}
use Rattle.task_meaning.specs.WorthLaws.{NamesUpTo}
use Rattle.task_meaning.specs.Worths.{Accepted, OfCall, Respawn}
use Rattle.frame_code.specs.Words.{OfKind}
use Rattle.record_core.specs.Numbers.{found}
use Rattle.record_core.specs.Journal.{next_number}
use Rattle.record_core.specs.EndSeen.{RunPlan}
use Rattle.record_core.specs.RootEnds.{roots_named, root_passed, root_waited}
use Rattle.record_core.specs.declared.rows.CutTag.{CutTag}
use Rattle.run_model.specs.State.{Outcome, RootWord, Named, Refused, Skipped, Run}
use Rattle.run_model.specs.Step.{arrives, waits_or_queues, accepts, draws, with_body, with_root, root_request, own_task, own_tasks, taskless, first_taskless, at_first}
use Rattle.run_model.specs.Move.{with_notes, Move, RootMove}
use Rattle.run_model.proofs.ByNumber.{length_snoc}
use Rattle.run_model.proofs.NumbersInvariant.{NumbersStand}
use Rattle.run_model.proofs.NamesFacts.{own_named}
use Rattle.run_model.proofs.LiveFacts.{task_within}
use Rattle.run_model.proofs.NumbersParts.{slice_snoc}
use Rattle.run_model.proofs.RootsInvariant.{skipped_from, RootsStand}
use Rattle.run_model.proofs.Reached.{IsNextRoot}

-- an earlier member stays where one more comes
pub get_snoc : {A : Type 0} (xs : List A) (x : A) (i : ℕ) → i < length xs → slice_get (xs ++ x ∷ []) i ≡ slice_get xs i
get_snoc [] x i lt = absurd (omega arith)
get_snoc (y ∷ xs) x zero lt = refl
get_snoc (y ∷ xs) x (suc i) lt = get_snoc xs x i (omega arith)

pub get_last : {A : Type 0} (xs : List A) (x : A) → slice_get (xs ++ x ∷ []) (length xs) ≡ Some x
get_last [] x = refl
get_last (y ∷ xs) x = get_last xs x

future_snoc : (own : List (Option ℕ)) (o : Option ℕ) (i : ℕ) → i < length own → future_at (own ++ o ∷ []) i ≡ future_at own i
future_snoc [] o i lt = absurd (omega arith)
future_snoc (f ∷ own) o zero lt = refl
future_snoc (f ∷ own) o (suc i) lt = future_snoc own o i (omega arith)

-- the last root's task is found at its position
pub future_last : (own : List (Option ℕ)) (o : Option ℕ) → future_at (own ++ o ∷ []) (length own) ≡ o
future_last [] o = refl
future_last (f ∷ own) o = future_last own o

future_within : (own : List (Option ℕ)) (i t : ℕ) → future_at own i ≡ Some t → i < length own
future_within [] i t e = absurd (none-some t e)
future_within (f ∷ own) zero t e = omega arith
future_within (f ∷ own) (suc i) t e = let rest = future_within own i t e in omega arith

-- one root word more is one own task more
pub own_snoc : (words : List RootWord) (word : RootWord) → map own_task (words ++ word ∷ []) ≡ map own_task words ++ own_task word ∷ []
own_snoc [] word = refl
own_snoc (w ∷ words) word = ap (λ rest. own_task w ∷ rest) (own_snoc words word)

-- there are as many own tasks as root words
pub own_length : (words : List RootWord) → length (map own_task words) ≡ length words
own_length [] = refl
own_length (w ∷ words) = ap suc (own_length words)

-- the roots that a formed root names come before it
abbrev AllBelow : ℕ → List ℕ → Type 0
AllBelow n names = (i k : ℕ) → slice_get names i ≡ Some k → k < n

below_append : (n : ℕ) (xs ys : List ℕ) → AllBelow n xs → AllBelow n ys → AllBelow n (xs ++ ys)
below_append n [] ys first second i k e = second i k e
below_append n (x ∷ xs) ys first second zero k e = first 0 k e
below_append n (x ∷ xs) ys first second (suc i) k e = below_append n xs ys (λ j l f. first (suc j) l f) second i k e

named_below : (n : ℕ) (arguments : List RootArgument) → Each arguments (IsFormedRootArgument n) → AllBelow n (flat_map root_passed arguments)
named_below n [] formed i k e = absurd (none-some k e)
named_below n (root_argument.Number x ∷ more) formed i k e = named_below n more (λ at a f. formed (suc at) a f) i k e
named_below n (root_argument.Root r ∷ more) formed i k e = below_append n (r ∷ []) (flat_map root_passed more) first (named_below n more (λ at a f. formed (suc at) a f)) i k e
  where
    first : (i k : ℕ) → slice_get (r ∷ []) i ≡ Some k → k < n
    first zero k e = subst (λ x. x < n) (same_Some r k e) (formed 0 (root_argument.Root r) refl)
    first (suc i) k e = absurd (none-some k e)

waited_below : (n : ℕ) (behind : Option ℕ) → IfSome behind (λ earlier. earlier < n) → AllBelow n (root_waited behind)
waited_below n None formed i k e = absurd (none-some k e)
waited_below n (Some r) formed zero k e = subst (λ x. x < n) (same_Some r k e) formed
waited_below n (Some r) formed (suc i) k e = absurd (none-some k e)

root_below : (p : Program) (at : ℕ) (root : RootLine) → IsWellFormed p → slice_get p.roots at ≡ Some root → AllBelow at (roots_named root)
root_below p at root formed there = let f = formed.roots at root there in below_append at (flat_map root_passed root.arguments) (root_waited root.behind) (named_below at root.arguments f.arguments) (waited_below at root.behind f.behind)

-- whether an earlier root has a task stays
first_snoc : (words : List RootWord) (word : RootWord) (names : List ℕ) → AllBelow (length words) names → first_taskless (words ++ word ∷ []) names ≡ first_taskless words names
first_snoc words word [] below = refl
first_snoc words word (k ∷ names) below =
    let same : taskless (slice_get (words ++ word ∷ []) k) ≡ taskless (slice_get words k) = ap taskless (get_snoc words word k (below 0 k refl)) in
    let rest = first_snoc words word names (λ i j e. below (suc i) j e) in
    ap (λ o. option_or (option_map (λ tag. (k, tag)) o) (first_taskless (words ++ word ∷ []) names)) same ∙ ap (option_or (option_map (λ tag. (k, tag)) (taskless (slice_get words k)))) rest

-- where no named root lacks a task, each has one
all_have : (words : List RootWord) (names : List ℕ) → AllBelow (length words) names → first_taskless words names ≡ None → (i k : ℕ) → slice_get names i ≡ Some k → HasOwn (map own_task words) k
all_have words [] below e i k f = absurd (none-some k f)
all_have words (n ∷ names) below e i k f = by (taskless (slice_get words n)) refl (λ g j l h. all_have words names (λ a b c. below (suc a) b c) g j l h) e
  where
    has : (words : List RootWord) (n : ℕ) → n < length words → taskless (slice_get words n) ≡ None → HasOwn (map own_task words) n
    has [] n lt g = absurd (omega arith)
    has (Named t ∷ words) zero lt g = (t, refl)
    has (Refused tag ∷ words) zero lt g = absurd (none-some tag (sym g))
    has (Skipped r tag ∷ words) zero lt g = absurd (none-some tag (sym g))
    has (w ∷ words) (suc n) lt g = has words n (omega arith) g

    by : (o : Option CutTag) → taskless (slice_get words n) ≡ o → (first_taskless words names ≡ None → (j l : ℕ) → slice_get names j ≡ Some l → HasOwn (map own_task words) l)
        → option_or (option_map (λ tag. (n, tag)) o) (first_taskless words names) ≡ None → HasOwn (map own_task words) k
    by (Some tag) g rest h = absurd (none-some (n, tag) (sym h))
    by None g rest h = at i f
      where
        at : (i : ℕ) → slice_get (n ∷ names) i ≡ Some k → HasOwn (map own_task words) k
        at zero f = subst (HasOwn (map own_task words)) (same_Some n k f) (has words n (below 0 n refl) g)
        at (suc i) f = rest h i k f

-- the names of a root's arguments and predecessor are among its names
append_left : (xs ys : List ℕ) (k : ℕ) → ((i : ℕ) × (slice_get xs i ≡ Some k)) → (i : ℕ) × (slice_get (xs ++ ys) i ≡ Some k)
append_left [] ys k (i, e) = absurd (none-some k e)
append_left (x ∷ xs) ys k (zero, e) = (0, e)
append_left (x ∷ xs) ys k (suc i, e) = let (j, f) = append_left xs ys k (i, e) in (suc j, f)

append_right : (xs ys : List ℕ) (k i : ℕ) → slice_get ys i ≡ Some k → (j : ℕ) × (slice_get (xs ++ ys) j ≡ Some k)
append_right [] ys k i e = (i, e)
append_right (x ∷ xs) ys k i e = let (j, f) = append_right xs ys k i e in (suc j, f)

argument_named : (arguments : List RootArgument) (at k : ℕ) → slice_get arguments at ≡ Some (root_argument.Root k) → (i : ℕ) × (slice_get (flat_map root_passed arguments) i ≡ Some k)
argument_named [] at k e = absurd (none-some (root_argument.Root k) e)
argument_named (root_argument.Number n ∷ more) zero k e = absurd (wrong n k (same_Some (root_argument.Number n) (root_argument.Root k) e))
  where
    wrong : (n k : ℕ) → root_argument.Number n ≡ root_argument.Root k → ⊥
    wrong n k h = cc
argument_named (root_argument.Root r ∷ more) zero k e = (0, ap Some (same_root r k (same_Some (root_argument.Root r) (root_argument.Root k) e)))
  where
    same_root : (r k : ℕ) → root_argument.Root r ≡ root_argument.Root k → r ≡ k
    same_root r k h = cc
argument_named (root_argument.Number n ∷ more) (suc at) k e = argument_named more at k e
argument_named (root_argument.Root r ∷ more) (suc at) k e = let (i, f) = argument_named more at k e in (suc i, f)

-- the same call where one more root has a task
module _ (own : List (Option ℕ)) (o : Option ℕ) where
  -- a root's arguments name the same tasks with one root more
  pub futures_snoc : (arguments : List RootArgument) → Each arguments (IsFormedRootArgument (length own)) → map (root_future (own ++ o ∷ [])) arguments ≡ map (root_future own) arguments
  futures_snoc [] formed = refl
  futures_snoc (root_argument.Number n ∷ more) formed = ap (λ rest. None ∷ rest) (futures_snoc more (λ at a e. formed (suc at) a e))
  futures_snoc (root_argument.Root r ∷ more) formed =
      ap (λ f. f ∷ map (root_future (own ++ o ∷ [])) more) (future_snoc own o r (formed 0 (root_argument.Root r) refl)) ∙ ap (λ rest. future_at own r ∷ rest) (futures_snoc more (λ at a e. formed (suc at) a e))

  -- a root is behind the same task with one root more
  pub waits_snoc : (behind : Option ℕ) → IfSome behind (λ earlier. earlier < length own) → root_waits (own ++ o ∷ []) behind ≡ root_waits own behind
  waits_snoc None formed = refl
  waits_snoc (Some r) formed = future_snoc own o r formed

  has_snoc : (r : ℕ) → HasOwn own r → HasOwn (own ++ o ∷ []) r
  has_snoc r (t, e) = (t, future_snoc own o r (future_within own r t e) ∙ e)

  names_snoc : (a : RootArgument) → NamesTasks own a → NamesTasks (own ++ o ∷ []) a
  names_snoc (root_argument.Number n) named = named
  names_snoc (root_argument.Root r) named = has_snoc r named

-- a fact on a call is one on the same call
pub call_same : (own own' : List (Option ℕ)) (root : RootLine) → map (root_future own') root.arguments ≡ map (root_future own) root.arguments → root_call own' root ≡ root_call own root
call_same own own' root e = ap (λ futures. record { kind = root.kind; numbers = map Rattle.task_meaning.specs.Roots.root_number root.arguments; futures = futures }) e

-- a formed argument stays formed under a higher bound
pub formed_up : (n m : ℕ) (arguments : List RootArgument) → n ≤ m → Each arguments (IsFormedRootArgument n) → Each arguments (IsFormedRootArgument m)
formed_up n m arguments le formed at (root_argument.Number x) e = formed at (root_argument.Number x) e
formed_up n m arguments le formed at (root_argument.Root r) e = let lt : r < n = formed at (root_argument.Root r) e in omega (arith, lt, le)

-- tasks of roots after more calls
tasks_later : (p : Program) (calls : List Accepted) (call : Accepted) (own : List (Option ℕ)) → AreRootTasks p calls own → AreRootTasks p (calls ++ call ∷ []) own
tasks_later p calls call own now at root t there has =
    let was = now at root t there has in
    record {
      before = was.before;
      follows = was.follows;
      accepted_as = get_snoc calls call was.before (slice_get_within calls was.before _ was.accepted_as) ∙ was.accepted_as;
      arguments = was.arguments;
      waits = was.waits;
      earlier = was.earlier;
      earlier_waits = was.earlier_waits;
    }

-- and after one more root, of which it is known whether it is one of these
module _ (p : Program) (formed : IsWellFormed p) (calls : List Accepted) (own : List (Option ℕ)) (o : Option ℕ) where
  task_up : (at : ℕ) (root : RootLine) (t : ℕ) → slice_get p.roots at ≡ Some root → at ≤ length own → IsRootTask calls own root t → IsRootTask calls (own ++ o ∷ []) root t
  task_up at root t there le was =
      let f = formed.roots at root there in
      let same_call = call_same own (own ++ o ∷ []) root (futures_snoc own o root.arguments (formed_up at (length own) root.arguments le f.arguments)) in
      let same_waits = waits_snoc own o root.behind (IfSome_then root.behind f.behind (λ r below. omega (arith, below, le))) in
      record {
        before = was.before;
        follows = was.follows;
        accepted_as = was.accepted_as ∙ sym (ap (λ k. Some (OfCall k (root_waits own root.behind))) same_call) ∙ sym (ap (λ w. Some (OfCall (root_call (own ++ o ∷ []) root) w)) same_waits);
        arguments = λ i a e. names_snoc own o a (was.arguments i a e);
        waits = IfSome_then root.behind was.waits (λ r h. has_snoc own o r h);
        earlier = subst (λ (k : CallOf ℕ). Each k.futures (NamesUpTo was.before)) (sym same_call) was.earlier;
        earlier_waits = subst (NamesUpTo was.before) (sym same_waits) was.earlier_waits;
      }

  one_more : AreRootTasks p calls own → ((root : RootLine) (t : ℕ) → slice_get p.roots (length own) ≡ Some root → o ≡ Some t → IsRootTask calls (own ++ o ∷ []) root t) → AreRootTasks p calls (own ++ o ∷ [])
  one_more now new at root t there has =
      ⊎_elim
      (λ same. let there' = sym (ap (slice_get p.roots) same) ∙ there in new root t there' (sym (future_last own o) ∙ sym (ap (future_at (own ++ o ∷ [])) same) ∙ has))
      (λ differ.
      let lt : at < length own = omega (arith, differ, length_snoc own o, future_within (own ++ o ∷ []) at t has) in
      task_up at root t there (omega (arith, lt)) (now at root t there (sym (future_snoc own o at lt) ∙ has)))
      (Rattle.std.proofs.lemmas.Bool.cases_eq at (length own))

arrives_roots : (p : Program) (r : Run) (n : ℕ) (after : Option ℕ) → RootsStand p r → RootsStand p (arrives r n after)
arrives_roots p r n None now = record { few = now.few; skipped = now.skipped; tasks = now.tasks }
arrives_roots p r n (Some u) now = by (found r.outcomes u)
  where
    by : (o : Option Outcome) → RootsStand p (waits_or_queues o r n u)
    by None = record { few = now.few; skipped = now.skipped; tasks = now.tasks }
    by (Some outcome) = record { few = now.few; skipped = now.skipped; tasks = now.tasks }

-- before the first root nothing was asked for
pub roots_first : (p : Program) (plan : RunPlan) → RootsStand p (at_first plan)
roots_first p plan = record { few = omega arith; skipped = λ at root word there e. absurd (none-some word e); tasks = λ at root t there e. absurd (none-some t e) }

module _ (p : Program) (formed : IsWellFormed p) (units : ℕ) where
  -- one more word, which is right of the next root
  word_added : (r : Run) (root : RootLine) (word : RootWord) → IsNextRoot p r root → RootsStand p r → first_taskless r.roots (roots_named root) ≡ skipped_from word
      → (at : ℕ) (other : RootLine) (w : RootWord) → slice_get p.roots at ≡ Some other → slice_get (r.roots ++ word ∷ []) at ≡ Some w → first_taskless (r.roots ++ word ∷ []) (roots_named other) ≡ skipped_from w
  word_added r root word next now right at other w there e =
      ⊎_elim
      (λ old.
      let lt = slice_get_within r.roots at w old in
      first_snoc r.roots word (roots_named other) (λ i k f. let below = root_below p at other formed there i k f in omega (arith, below, lt)) ∙ now.skipped at other w there old)
      (λ new.
      let is_root : root ≡ other = same_Some root other (sym next.there ∙ sym (ap (slice_get p.roots) new.0) ∙ there) in
      ap (λ (x : RootLine). first_taskless (r.roots ++ word ∷ []) (roots_named x)) (sym is_root)
      ∙ first_snoc r.roots word (roots_named root) (root_below p (length r.roots) root formed next.there) ∙ right ∙ ap skipped_from new.1)
      (slice_snoc r.roots word w at e)

  few_more : (r : Run) (root : RootLine) (word : RootWord) → IsNextRoot p r root → length (r.roots ++ word ∷ []) ≤ length p.roots
  few_more r root word next = let lt = slice_get_within p.roots (length r.roots) root next.there in omega (arith, lt, length_snoc r.roots word)

  -- a root without a task
  no_task : (r : Run) (word : RootWord) → RootsStand p r → own_task word ≡ None → AreRootTasks p r.calls (map own_task (r.roots ++ word ∷ []))
  no_task r word now none =
      subst (AreRootTasks p r.calls) (sym (own_snoc r.roots word))
      (one_more p formed r.calls (map own_task r.roots) (own_task word) now.tasks (λ root t there e. absurd (none-some t (sym none ∙ e))))

  -- the next root gets a task, where each that it names has one
  module _ (r : Run) (root : RootLine) (next : IsNextRoot p r root) (held : NumbersStand r) (now : RootsStand p r) (free : first_taskless r.roots (roots_named root) ≡ None) where
    abbrev n : ℕ
    n = next_number r.journal

    abbrev call : Accepted
    call = OfCall (root_call (own_tasks r) root) (root_waits (own_tasks r) root.behind)

    below : AllBelow (length r.roots) (roots_named root)
    below = root_below p (length r.roots) root formed next.there

    has : (k : ℕ) → ((i : ℕ) × (slice_get (roots_named root) i ≡ Some k)) → HasOwn (own_tasks r) k
    has k (i, e) = all_have r.roots (roots_named root) below free i k e

    named_of : (a : RootArgument) (at : ℕ) → slice_get root.arguments at ≡ Some a → NamesTasks (own_tasks r) a
    named_of (root_argument.Number x) at e = tt
    named_of (root_argument.Root k) at e = has k (append_left (flat_map root_passed root.arguments) (root_waited root.behind) k (argument_named root.arguments at k e))

    waited_of : (behind : Option ℕ) → root.behind ≡ behind → IfSome behind (HasOwn (own_tasks r))
    waited_of None e = tt
    waited_of (Some k) e = has k (append_right (flat_map root_passed root.arguments) (root_waited root.behind) k 0 (ap (λ o. slice_get (root_waited o) 0) e))

    up_to : (o : Option ℕ) → ((u : ℕ) → o ≡ Some u → (at : ℕ) × (future_at (own_tasks r) at ≡ Some u)) → NamesUpTo (length r.calls) o
    up_to None h = tt
    up_to (Some u) h =
        let (at, e) = h u refl in
        let within = task_within r.journal.rows u (held.names.in_roots at u (own_named r.roots at u e)) in omega (arith, within.1, held.beside.of_calls)

    future_of : (arguments : List RootArgument) (i : ℕ) (o : Option ℕ) → slice_get (map (root_future (own_tasks r)) arguments) i ≡ Some o → (u : ℕ) → o ≡ Some u → (at : ℕ) × (future_at (own_tasks r) at ≡ Some u)
    future_of [] i o e u f = absurd (none-some o e)
    future_of (root_argument.Number x ∷ more) zero o e u f = absurd (none-some u (same_Some None o e ∙ f))
    future_of (root_argument.Root k ∷ more) zero o e u f = (k, same_Some (future_at (own_tasks r) k) o e ∙ f)
    future_of (a ∷ more) (suc i) o e u f = future_of more i o e u f

    waits_of : (behind : Option ℕ) (u : ℕ) → root_waits (own_tasks r) behind ≡ Some u → (at : ℕ) × (future_at (own_tasks r) at ≡ Some u)
    waits_of None u e = absurd (none-some u e)
    waits_of (Some k) u e = (k, e)

    new_task : IsRootTask (r.calls ++ call ∷ []) (own_tasks r) root n
    new_task = record {
      before = length r.calls;
      follows = ap suc (sym held.beside.of_calls);
      accepted_as = get_last r.calls call;
      arguments = λ at a e. named_of a at e;
      waits = waited_of root.behind refl;
      earlier = λ i o e. up_to o (future_of root.arguments i o e);
      earlier_waits = up_to (root_waits (own_tasks r) root.behind) (waits_of root.behind);
    }

    lifted : (other : RootLine) (t : ℕ) → slice_get p.roots (length (own_tasks r)) ≡ Some other → Some n ≡ Some t → IsRootTask (r.calls ++ call ∷ []) (own_tasks r ++ Some n ∷ []) other t
    lifted other t there e =
        let is_root : root ≡ other = same_Some root other (sym next.there ∙ ap (slice_get p.roots) (sym (own_length r.roots)) ∙ there) in
        let up = task_up p formed (r.calls ++ call ∷ []) (own_tasks r) (Some n) (length (own_tasks r)) root n (ap (slice_get p.roots) (own_length r.roots) ∙ next.there) (omega arith) new_task in
        rw (sym is_root, sym (same_Some n t e)) up

    -- root tasks are as their lines say, with one more
    pub tasks_with : AreRootTasks p (r.calls ++ call ∷ []) (map own_task (r.roots ++ Named n ∷ []))
    tasks_with = subst (AreRootTasks p (r.calls ++ call ∷ [])) (sym (own_snoc r.roots (Named n))) (one_more p formed (r.calls ++ call ∷ []) (own_tasks r) (Some n) (tasks_later p r.calls call (own_tasks r) now.tasks) lifted)

  -- a root's move keeps what became of roots
  pub roots_root : (r s : Run) (root : RootLine) → IsNextRoot p r root → NumbersStand r → RootsStand p r → RootMove p units r root s → RootsStand p s
  roots_root r _ root next held now (RootMove.refused tag notes free how) =
      record { few = few_more r root (Refused tag) next; skipped = word_added r root (Refused tag) next now free; tasks = no_task r (Refused tag) now refl }
  roots_root r _ root next held now (RootMove.skipped first e) =
      record { few = few_more r root (Skipped first.0 first.1) next; skipped = word_added r root (Skipped first.0 first.1) next now e; tasks = no_task r (Skipped first.0 first.1) now refl }
  roots_root r _ root next held now (RootMove.named block free placed some) =
      arrives_roots p (with_root (accepts units r (root_request p r root) block) (Named (next_number r.journal))) (next_number r.journal) (root_request p r root).after
      (record { few = few_more r root (Named (next_number r.journal)) next; skipped = word_added r root (Named (next_number r.journal)) next now free; tasks = tasks_with r root next held now free })

module _ (p : Program) (c : Columns) (units : ℕ) where
  -- each move keeps what became of roots
  pub roots_move : (r s : Run) → RootsStand p r → Move p c units r s → RootsStand p s
  roots_move r _ now (Move.goes_on t n q next runs goes) = record { few = now.few; skipped = now.skipped; tasks = now.tasks }
  roots_move r _ now (Move.spawned t n to q request retry block runs asks placed some) =
      arrives_roots p (with_body (accepts units r request block) t (OfKind (set_future q to (Some (next_number r.journal))))) (next_number r.journal) request.after
      (record { few = now.few; skipped = now.skipped; tasks = tasks_later p r.calls request.call (own_tasks r) now.tasks })
  roots_move r _ now (Move.respawned t n body to after priority notes runs renews some) =
      arrives_roots p (with_body (record (draws (with_notes r notes) (Some t) after priority (Respawn t after) None None) { running = None }) t to) (next_number r.journal) after
      (record { few = now.few; skipped = now.skipped; tasks = tasks_later p r.calls (Respawn t after) (own_tasks r) now.tasks })
  roots_move r _ now (Move.gave t n body v runs answers) = record { few = now.few; skipped = now.skipped; tasks = now.tasks }
  roots_move r _ now (Move.refused t n body tag notes runs refuses) = record { few = now.few; skipped = now.skipped; tasks = now.tasks }
  roots_move r _ now (Move.started n left idle next uncut) = record { few = now.few; skipped = now.skipped; tasks = now.tasks }
  roots_move r _ now (Move.cut_at_start n left row u tag idle next there after cut) = record { few = now.few; skipped = now.skipped; tasks = now.tasks }

-- where a root names none without a task, each root that it passes has one
pub passed_has : (p : Program) (r : Run) (root : RootLine) → IsWellFormed p → slice_get p.roots (length r.roots) ≡ Some root → first_taskless r.roots (roots_named root) ≡ None
    → (at k : ℕ) → slice_get root.arguments at ≡ Some (root_argument.Root k) → HasOwn (own_tasks r) k
passed_has p r root formed there free at k e =
    let (i, named) = append_left (flat_map root_passed root.arguments) (root_waited root.behind) k (argument_named root.arguments at k e) in
    all_have r.roots (roots_named root) (root_below p (length r.roots) root formed there) free i k named
