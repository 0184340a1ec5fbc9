-- One accepted call more at the end changes nothing that was said of earlier numbers.
use Rattle.std.proofs.Common.{◌≡◌, ◌≢◌, ◌∙◌, inl, inr, ℕ, zero, suc, ◌+◌, ◌-◌, ◌<◌, ◌≤◌, ◌==◌, Bool, true, false, Option, Some, None, List, [], ◌∷◌, ◌++◌, length, refl, sym, ap, subst, true≢false, arith, length-append}
use Rattle.std.specs.Prelude.{slice_get, nat_lt, nat_le, IfSome}
use Rattle.std.proofs.lemmas.Bool.{cases_eq, eq-eqb, ne_eqb, lt-ltb, le-leb, ltb-true, leb-true, and_parts, and_from}
use Rattle.record_core.specs.Counting.{one_if}
use Rattle.record_core.specs.Numbers.{by_number}
use Rattle.record_core.proofs.BelowFacts.{below-same, below-append, below-bounded}
use Rattle.record_core.proofs.NumberFacts.{number-old, number-new, number-cases, number-in_range, numbered_member}
use Rattle.task_meaning.specs.RootLaws.{AreRootTasks}
use Rattle.task_meaning.specs.Worths.{Accepted, OfCall, OfAll, Respawn}
use Rattle.task_syntax.specs.declared.program.Program.{Program}
use Rattle.frame_code.specs.Words.{BodyOf, OfKind, OfMembers}
use Rattle.table_core.specs.Story.{End, Fact, IsAccepted, IsOver, IsTask}
use Rattle.schedule_rule.specs.Calls.{AtNumber, task_in, after_in, task_of, after_of, is_number, IsNumber, IsTaskOf, IsBefore, NamesEarlier, begun, CallsSound, IsLast, IsSo}
use Rattle.schedule_rule.specs.Frames.{IsFrameOf}

-- other positions read the same when one member comes at the end
get-same : {A : Type 0} (xs : List A) (x : A) (k : ℕ) → k ≢ length xs → slice_get (xs ++ x ∷ []) k ≡ slice_get xs k
get-same [] x zero ne = absurd (ne refl)
get-same [] x (suc k) ne = refl
get-same (z ∷ xs) x zero ne = refl
get-same (z ∷ xs) x (suc k) ne = get-same xs x k (λ e. ne (ap suc e))

-- the test of a number and what it stands for
is-from : (calls : List Accepted) (n : ℕ) → is_number calls n ≡ true → IsNumber calls n
is-from calls n e = let t = and_parts (nat_lt 0 n) (nat_le n (length calls)) e in (omega (arith, ltb-true 0 n t.0), leb-true n (length calls) t.1)

-- a number passes the test
pub is-number : (calls : List Accepted) (n : ℕ) → IsNumber calls n → is_number calls n ≡ true
is-number calls n is = and_from _ _ (lt-ltb 0 n (omega (arith, is.0))) (le-leb n (length calls) is.1)

-- what is no number does not pass it
pub no-number : (calls : List Accepted) (n : ℕ) → ¬ IsNumber calls n → is_number calls n ≡ false
no-number calls n not = by (is_number calls n) refl
  where
    by : (b : Bool) → is_number calls n ≡ b → b ≡ false
    by true e = absurd (not (is-from calls n e))
    by false e = refl

-- a number that counts is one
pub number-from : (calls : List Accepted) (n : ℕ) → 1 ≤ one_if (is_number calls n) → IsNumber calls n
number-from calls n some = by (is_number calls n) refl some
  where
    by : (b : Bool) → is_number calls n ≡ b → 1 ≤ one_if b → IsNumber calls n
    by true e h = is-from calls n e
    by false e h = absurd (omega (arith, h))

module _ (calls : List Accepted) (a : Accepted) where
  -- the calls with one more, and its number
  abbrev pub more : List Accepted
  more = calls ++ a ∷ []

  abbrev pub new : ℕ
  new = suc (length calls)

  -- the longer list ends with the new number
  pub length-more : length more ≡ new
  length-more = omega (arith, length-append calls (a ∷ []))

  -- no old number is the new one
  pub not-new : (n : ℕ) → IsNumber calls n → n ≢ new
  not-new n is e = omega (arith, is.1, e)

  -- other numbers have the calls that they had
  pub number-same : (n : ℕ) → n ≢ new → by_number more n ≡ by_number calls n
  number-same zero ne = refl
  number-same (suc k) ne = get-same calls a k (λ e. ne (ap suc e))

  -- the new number has the new call
  pub number-here : by_number more new ≡ Some a
  number-here = number-new calls a

  -- other numbers are of the tasks that they were of
  pub task-same : (n : ℕ) → n ≢ new → task_of more n ≡ task_of calls n
  task-same n ne = ap (λ (o : Option Accepted). task_in o n) (number-same n ne)

  -- the task of the new number
  pub task-here : task_of more new ≡ task_in (Some a) new
  task-here = ap (λ (o : Option Accepted). task_in o new) number-here

  -- other numbers have the predecessors that they had
  pub after-same : (n : ℕ) → n ≢ new → after_of more n ≡ after_of calls n
  after-same n ne = ap after_in (number-same n ne)

  -- old numbers are numbers still, and the new one is one
  pub number-stays : (n : ℕ) → IsNumber calls n → IsNumber more n
  number-stays n is = (is.0, omega (arith, is.1, length-more))

  pub new-number : IsNumber more new
  new-number = (omega arith, omega (arith, length-more))

  -- any other number was one before
  pub number-was : (n : ℕ) → IsNumber more n → n ≢ new → IsNumber calls n
  number-was n is ne = (is.0, omega (arith, is.1, length-more, ne))

  -- the test of other numbers is as before
  pub is-number-same : (n : ℕ) → n ≢ new → is_number more n ≡ is_number calls n
  is-number-same n ne = by (is_number calls n) refl
    where
      by : (b : Bool) → is_number calls n ≡ b → is_number more n ≡ b
      by true e = is-number more n (number-stays n (is-from calls n e))
      by false e = no-number more n (λ is. absurd (true≢false (sym (is-number calls n (number-was n is ne)) ∙ e)))

  -- one number more counts
  pub is-number-more : (n : ℕ) → one_if (is_number more n) ≡ one_if (is_number calls n) + one_if (new == n)
  is-number-more n = elim (cases_eq n new) [
    | inl e ↦ subst (λ (x : ℕ). one_if (is_number more x) ≡ one_if (is_number calls x) + one_if (new == x)) (sym e)
        (omega (arith, ap one_if (is-number more new new-number), ap one_if (no-number calls new (λ is. omega (arith, is.1))), ap one_if (eq-eqb new new refl)))
    | inr ne ↦ omega (arith, ap one_if (is-number-same n ne), ap one_if (ne_eqb new n (λ e. ne (sym e))))
  ]

  -- old tasks are tasks still
  pub task-stays : (t : ℕ) → IsTaskOf calls t → IsTaskOf more t
  task-stays t is = (number-stays t is.0, task-same t (not-new t is.0) ∙ is.1)

  -- any other task was one before
  pub task-was : (t : ℕ) → IsTaskOf more t → t ≢ new → IsTaskOf calls t
  task-was t is ne = (number-was t is.0 ne, sym (task-same t ne) ∙ is.1)

  -- as many activations of a task were accepted before an old number, and before the new one, as in the old list
  pub begun-same : (t n : ℕ) → n ≤ new → begun more t n ≡ begun calls t n
  begun-same t n le = below-same (λ k. one_if (task_of more k == t)) (λ k. one_if (task_of calls k == t)) n
      (λ k low. ap (λ (x : ℕ). one_if (x == t)) (task-same k (λ e. omega (arith, low, e, le))))

  -- what a pass knows is still so
  pub so-stays : (ends : List End) (fact : Fact) → IsSo calls ends fact → IsSo more ends fact
  so-stays ends (IsAccepted n call) is = number-old calls a call n is
  so-stays ends (IsOver t outcome) is = is
  so-stays ends (IsTask t) is = task-stays t is

  -- tasks accepted before a number are so still
  before-stays : (n t : ℕ) → IsBefore calls n t → IsBefore more n t
  before-stays n t is = (is.0, task-stays t is.1)

  before-some : (n : ℕ) (o : Option ℕ) → IfSome o (IsBefore calls n) → IfSome o (IsBefore more n)
  before-some n None is = is
  before-some n (Some t) is = before-stays n t is

  -- what a call names is still accepted before it
  names-stay : (n : ℕ) (call : Accepted) → NamesEarlier calls n call → NamesEarlier more n call
  names-stay n (OfCall call waits) is = ((λ k o at. before-some n o (is.0 k o at)), before-some n waits is.1)
  names-stay n (OfAll members) is = (is.0, is.1, (λ k t at. before-stays n t (is.2 k t at)))
  names-stay n (Respawn task waits) is = (before-stays n task is.0, before-some n waits is.1)

  -- a further activation of an aggregate is behind its next member
  abbrev pub ComesNext : Type 0
  ComesNext = (t : ℕ) (members : List ℕ) (waits : Option ℕ) → a ≡ Respawn t waits → AtNumber calls t (OfAll members)
      → (begun calls t new < length members) × (waits ≡ slice_get members (begun calls t new))

  -- calls name earlier tasks still, where the new one does
  pub calls-more : CallsSound calls → NamesEarlier calls new a → ComesNext → CallsSound more
  calls-more sound names next = record { earlier = all; in_turn = turns }
    where
      all : (n : ℕ) (call : Accepted) → AtNumber more n call → NamesEarlier more n call
      all n call at = elim (number-cases calls a call n at) [
        | inl old ↦ names-stay n call (sound.earlier n call old)
        | inr t ↦ subst (λ (k : ℕ). NamesEarlier more k call) (sym t.0) (subst (NamesEarlier more new) (sym t.1) (names-stay new a names))
      ]

      turns : (t n : ℕ) (members : List ℕ) (waits : Option ℕ) → AtNumber more t (OfAll members) → AtNumber more n (Respawn t waits)
          → (begun more t n < length members) × (waits ≡ slice_get members (begun more t n))
      turns t n members waits at at' =
          let earlier : NamesEarlier more n (Respawn t waits) = all n (Respawn t waits) at' in let low : t < n = earlier.0.0 in
          let last : n ≤ new = omega (arith, (number-in_range more n (Respawn t waits) at').1, length-more) in
          let here : by_number calls t ≡ Some (OfAll members) = sym (number-same t (λ e. omega (arith, low, last, e))) ∙ at in
          let same : begun calls t n ≡ begun more t n = sym (begun-same t n last) in
          subst (λ (k : ℕ). (k < length members) × (waits ≡ slice_get members k)) same
          (elim (number-cases calls a (Respawn t waits) n at') [
            | inl old ↦ sound.in_turn t n members waits here old
            | inr e ↦ subst (λ (k : ℕ). (begun calls t k < length members) × (waits ≡ slice_get members (begun calls t k))) (sym e.0) (next t members waits (sym e.1) here)
          ])

  -- the last number of another task stays it
  pub last-stays : (n : ℕ) → n ≢ new → task_of calls n ≢ task_in (Some a) new → IsLast calls n → IsLast more n
  last-stays n old other last k is later same = elim (cases_eq k new) [
    | inl e ↦ other (sym (task-same n old) ∙ sym same ∙ ap (task_of more) e ∙ task-here)
    | inr ne ↦ last k (number-was k is ne) later (sym (task-same k ne) ∙ same ∙ task-same n old)
  ]

  -- the new number is the last of its task
  pub last-new : IsLast more new
  last-new k is later same = omega (arith, is.1, later, length-more)

  -- the roots have their tasks still
  pub root_tasks-stay : (p : Program) (own : List (Option ℕ)) → AreRootTasks p calls own → AreRootTasks p more own
  root_tasks-stay p own were at root t line has =
      let was = were at root t line has in
      record { before = was.before; follows = was.follows; accepted_as = number-old calls a _ (suc was.before) was.accepted_as; arguments = was.arguments; waits = was.waits; earlier = was.earlier; earlier_waits = was.earlier_waits }

  module _ (sound : CallsSound calls) where
    -- the task of a number is an accepted one
    pub task-of-number : (n : ℕ) → IsNumber calls n → IsTaskOf calls (task_of calls n) × (task_of calls n ≤ n)
    task-of-number n is = let x = numbered_member calls n is.0 is.1 in by x.0 x.1
      where
        by : (call : Accepted) → by_number calls n ≡ Some call → IsTaskOf calls (task_of calls n) × (task_of calls n ≤ n)
        by (OfCall call waits) e = own (ap (λ (o : Option Accepted). task_in o n) e)
          where
            own : task_of calls n ≡ n → IsTaskOf calls (task_of calls n) × (task_of calls n ≤ n)
            own same = (subst (IsTaskOf calls) (sym same) (is, same), omega (arith, same))
        by (OfAll members) e = own (ap (λ (o : Option Accepted). task_in o n) e)
          where
            own : task_of calls n ≡ n → IsTaskOf calls (task_of calls n) × (task_of calls n ≤ n)
            own same = (subst (IsTaskOf calls) (sym same) (is, same), omega (arith, same))
        by (Respawn t waits) e =
            let same : task_of calls n ≡ t = ap (λ (o : Option Accepted). task_in o n) e in let earlier : NamesEarlier calls n (Respawn t waits) = sound.earlier n (Respawn t waits) e in
            (subst (IsTaskOf calls) (sym same) earlier.0.1, omega (arith, same, earlier.0.0))

    -- the call of a number's task stays
    pub call-same : (n : ℕ) → IsNumber calls n → by_number more (task_of more n) ≡ by_number calls (task_of calls n)
    call-same n is = ap (by_number more) (task-same n (not-new n is)) ∙ number-same (task_of calls n) (λ e. omega (arith, (task-of-number n is).1, is.1, e))

    -- what is said of an old number's frame is so still
    pub frame-stays : (p : Program) (tasks : ℕ → ℕ) (n : ℕ) (body : BodyOf ℕ) → IsNumber calls n → IsFrameOf p calls tasks n body → IsFrameOf p more tasks n body
    frame-stays p tasks n (OfKind q) is was = ((was.0.0, was.0.1, call-same n is ∙ was.0.2, was.0.3), was.1)
    frame-stays p tasks n (OfMembers units next) is was = (
      call-same n is ∙ was.0,
      was.1 ∙ ap (λ (k : ℕ). k + 1) (sym (begun-same (task_of more n) n (omega (arith, is.1)) ∙ ap (λ (t : ℕ). begun calls t n) (task-same n (not-new n is)))),
    )

  -- between a task's last number and the end it has no other
  pub begun-last : (n : ℕ) → IsNumber calls n → IsLast calls n → begun calls (task_of calls n) new ≡ begun calls (task_of calls n) n + 1
  begun-last n is last = omega (
    arith,
    is.1,
    below-append (λ k. one_if (task_of calls k == task_of calls n)) (suc n) (new - suc n),
    ap (λ (x : ℕ). begun calls (task_of calls n) x) apart,
    ap one_if (eq-eqb (task_of calls n) (task_of calls n) refl),
    below-bounded (λ k. one_if (task_of calls (suc n + k) == task_of calls n)) 0 (new - suc n)
        (λ k low. omega (arith, ap one_if (ne_eqb (task_of calls (suc n + k)) (task_of calls n) (last (suc n + k) (omega arith, omega (arith, low, is.1)) (omega arith))))),
  )
    where
      apart : new ≡ suc n + (new - suc n)
      apart = omega (arith, is.1)
