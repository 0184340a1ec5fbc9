-- Paths along causes end with a refusal, and a path has at most as many tasks as there are.
use Rattle.std.proofs.Common.{◌≡◌, ℕ, zero, suc, ◌+◌, ◌<◌, ◌≤◌, arith, Bool, true, false, cond, nat_lt, List, [], ◌∷◌, length, Option, Some, None, slice_get, refl, sym, ◌∙◌, ap, subst}
use Rattle.std.proofs.lemmas.Bool.{ltb-true, lt-ltb, le-ltb}
use Rattle.std.proofs.lemmas.Option.{slice_get_within}
use Rattle.record_core.specs.Numbers.{by_number}
use Rattle.record_core.specs.Journal.{Leads, IsRefusal, cause_of, finish_of, finish_in}
use Rattle.record_core.specs.Journal as journal
use Rattle.record_core.specs.declared.rows.ActivationRow.{ActivationRow}
use Rattle.record_core.specs.declared.rows.TaskRow.{TaskRow}
use Rattle.record_core.specs.declared.rows.Cause.{Cause}
use Rattle.record_core.specs.declared.rows.Cause.TheVariants as cause
use Rattle.record_core.specs.declared.rows.CutTag.{CutTag}
use Rattle.record_core.specs.declared.rows.CutTag.TheVariants.{Null, Limit}
use Rattle.run_report.specs.Report.{cause_path, path_after, cut_by}
use Rattle.run_report.specs.Laws.{IsCausePath, ends, goes_on, PathsAreWhole}

-- how many members pass
abbrev count : {X : Type 0} → (X → Bool) → List X → ℕ
count p [] = 0
count p (x ∷ xs) = cond (p x) 1 0 + count p xs

one_below : (a b : Bool) → (a ≡ true → b ≡ true) → cond a 1 0 ≤ cond b 1 0
one_below true true h = omega arith
one_below true false h = let e : false ≡ true = h refl in cc
one_below false b h = omega arith

-- where all that pass one test pass another, no more pass the one
no_more : {X : Type 0} (p q : X → Bool) (xs : List X) → ((x : X) → p x ≡ true → q x ≡ true) → count p xs ≤ count q xs
no_more p q [] h = omega arith
no_more p q (x ∷ xs) h = let one = one_below (p x) (q x) (h x) in let more = no_more p q xs h in omega (arith, one, more)

-- and fewer, where a member passes the other alone
fewer : {X : Type 0} (p q : X → Bool) (xs : List X) (at : ℕ) (x : X) → ((y : X) → p y ≡ true → q y ≡ true) → slice_get xs at ≡ Some x
    → p x ≡ false → q x ≡ true → count p xs + 1 ≤ count q xs
fewer p q [] at x h is fails passes = cc
fewer p q (y ∷ ys) zero x h is fails passes =
    let same : y ≡ x = cc in
    let more : count p ys ≤ count q ys = no_more p q ys h in
    let a : ◌≡◌ {A = ℕ} (cond (p y) 1 0) 0 = ap (λ b. cond b 1 0) (ap p same ∙ fails) in
    let b : ◌≡◌ {A = ℕ} (cond (q y) 1 0) 1 = ap (λ b. cond b 1 0) (ap q same ∙ passes) in
    omega (arith, more, a, b)
fewer p q (y ∷ ys) (suc at) x h is fails passes =
    let one = one_below (p y) (q y) (h y) in
    let more : count p ys + 1 ≤ count q ys = fewer p q ys at x h is fails passes in
    omega (arith, one, more)

all_pass : {X : Type 0} (xs : List X) → count (λ (x : X). true) xs ≡ length xs
all_pass [] = refl
all_pass (x ∷ xs) = let e = all_pass xs in omega (arith, e)

-- ---- tasks that finished before a stamp

abbrev is_before : ℕ → Option ℕ → Bool
is_before f None = false
is_before f (Some g) = nat_lt g f

abbrev finished_before : ℕ → TaskRow → Bool
finished_before f task = is_before f task.finish

before_self : (f : ℕ) (o : Option ℕ) → o ≡ Some f → is_before f o ≡ false
before_self f None e = cc
before_self f (Some g) e = let same : g ≡ f = cc in subst (λ n. nat_lt n f ≡ false) (sym same) (le-ltb f f (omega arith))

before_later : (f g : ℕ) (o : Option ℕ) → o ≡ Some g → g < f → is_before f o ≡ true
before_later f g None e less = cc
before_later f g (Some h) e less = let same : h ≡ g = cc in subst (λ n. nat_lt n f ≡ true) (sym same) (lt-ltb g f less)

before_both : (f g : ℕ) (o : Option ℕ) → g < f → is_before g o ≡ true → is_before f o ≡ true
before_both f g None less h = cc
before_both f g (Some n) less h = let under : n < g = ltb-true n g h in lt-ltb n f (omega (arith, under, less))

-- a task that has finished stands in the list
there : (tasks : List TaskRow) (t f : ℕ) → finish_of tasks t ≡ Some f → (at : ℕ) × (task : TaskRow) × (slice_get tasks at ≡ Some task) × (task.finish ≡ Some f)
there tasks zero f e = cc
there tasks (suc at) f e = by (slice_get tasks at) refl e where
  by : (o : Option TaskRow) → slice_get tasks at ≡ o → finish_in o ≡ Some f
      → (at : ℕ) × (task : TaskRow) × (slice_get tasks at ≡ Some task) × (task.finish ≡ Some f)
  by None is fin = cc
  by (Some task) is fin = (at, task, is, fin)

-- a finish below another: fewer tasks finished before it
fewer_before : (tasks : List TaskRow) (u f g : ℕ) → finish_of tasks u ≡ Some g → g < f
    → count (finished_before g) tasks + 1 ≤ count (finished_before f) tasks
fewer_before tasks u f g fin less = let at = there tasks u g fin in
    fewer (finished_before g) (finished_before f) tasks at.0 at.1 (λ y. before_both f g y.finish less) at.2 (before_self g at.1.finish at.3) (before_later f g at.1.finish at.3 less)

-- and never all of them
not_all_before : (tasks : List TaskRow) (t f : ℕ) → finish_of tasks t ≡ Some f → count (finished_before f) tasks + 1 ≤ length tasks
not_all_before tasks t f fin = let at = there tasks t f fin in
    let less : count (finished_before f) tasks + 1 ≤ count (λ (task : TaskRow). true) tasks =
    fewer (finished_before f) (λ (task : TaskRow). true) tasks at.0 at.1 (λ y h. refl) at.2 (before_self f at.1.finish at.3) refl in
    let all = all_pass tasks in omega (arith, less, all)

-- ---- the path

-- so many tasks are enough for the path from t on
record IsEnough (tasks : List TaskRow) (t most : ℕ) : Type 0 where
  some : 1 ≤ most
  finished : (f : ℕ) → finish_of tasks t ≡ Some f → count (finished_before f) tasks < most

enough_after : (tasks : List TaskRow) (t u f g most : ℕ) → finish_of tasks u ≡ Some g → finish_of tasks t ≡ Some f → g < f → IsEnough tasks t (suc most) → IsEnough tasks u most
enough_after tasks t u f g most fin_u fin_t less enough =
    let fewer_than = fewer_before tasks u f g fin_u less in
    let within = enough.finished f fin_t in
    record {
      some = omega (arith, fewer_than, within);
      finished = λ h fin. let same : h ≡ g = cc in let at_h : count (finished_before h) tasks ≡ count (finished_before g) tasks = ap (λ n. count (finished_before n) tasks) same in omega (arith, fewer_than, within, at_h);
    }

ends_here : (tasks : List TaskRow) (tag : CutTag) (t most : ℕ) (c : Cause) → cause_of tasks t ≡ c → IsRefusal tag c → IsCausePath tasks tag t (t ∷ path_after (cut_by c) (cause_path most tasks))
ends_here tasks Null t most c is r = let e : cause_of tasks t ≡ cause.Null = is ∙ r in subst (λ x. IsCausePath tasks Null t (t ∷ path_after (cut_by x) (cause_path most tasks))) (sym r) (ends e)
ends_here tasks Limit t most c is r = let e : cause_of tasks t ≡ cause.Limit = is ∙ r in subst (λ x. IsCausePath tasks Limit t (t ∷ path_after (cut_by x) (cause_path most tasks))) (sym r) (ends e)

-- where so many tasks are enough, the path is whole
path_is_whole : (tasks : List TaskRow) (tag : CutTag) (t most : ℕ) → Leads tasks tag t → IsEnough tasks t most → IsCausePath tasks tag t (cause_path most tasks t)
path_is_whole tasks tag t zero leads enough = absurd (omega (arith, enough.some))
path_is_whole tasks tag t (suc most) (journal.refused r) enough = ends_here tasks tag t most (cause_of tasks t) refl r
path_is_whole tasks tag t (suc most) (journal.cut_by u f g by fin_u fin_t less leads) enough =
    let more : IsCausePath tasks tag u (cause_path most tasks u) = path_is_whole tasks tag u most leads (enough_after tasks t u f g most fin_u fin_t less enough) in
    subst (λ c. IsCausePath tasks tag t (t ∷ path_after (cut_by c) (cause_path most tasks))) (sym by) (goes_on u (cause_path most tasks u) by more)

some_row : (rows : List ActivationRow) (t : ℕ) (row : ActivationRow) → by_number rows t ≡ Some row → 1 ≤ length rows
some_row rows zero row e = cc
some_row rows (suc at) row e = let within = slice_get_within rows at row e in omega (arith, within)

pub paths_are_whole : PathsAreWhole
paths_are_whole p e can at t tag is =
    let told = can.roots at _ is in
    path_is_whole e.tasks tag t (length e.rows) told.1 (record {
      some = some_row e.rows t told.0.0 told.0.1;
      finished = λ f fin. let less = not_all_before e.tasks t f fin in let beside = can.beside in omega (arith, less, beside);
    })
