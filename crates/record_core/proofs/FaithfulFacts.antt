-- What a faithful end can not show of tasks, roots and evidence.
use Rattle.std.proofs.Common.{◌≡◌, ◌≢◌, ◌⊎◌, inl, inr, ℕ, zero, suc, ◌<◌, ◌≤◌, true, Option, Some, List, length, refl, sym, ◌∙◌, subst, ⊎_elim, arith}
use Rattle.std.proofs.lemmas.Bool.{cases_eq}
use Rattle.std.specs.Prelude.{slice_get}
use Rattle.task_syntax.specs.declared.program.Program.{Program}
use Rattle.task_meaning.specs.Meant.{future_at}
use Rattle.task_meaning.specs.Worths.{Accepted, OfCall, OfAll, Respawn}
use Rattle.kt_words.specs.Capacity.{capacity}
use Rattle.kt_words.specs.declared.super_word.SuperWord.{SuperWord}
use Rattle.record_core.specs.Numbers.{by_number, HasTask}
use Rattle.record_core.specs.Journal.{is_cut, cause_of}
use Rattle.record_core.specs.EndSeen.{EndSeen}
use Rattle.record_core.specs.EndCalls.{Makers, TellRun, IsMadeBy, IsOf, IsOwn, IsRowOf, IsWanted}
use Rattle.record_core.specs.EndFaithful.{EndFaithful}
use Rattle.record_core.specs.EndLaws.{AsksForClass, IsOfOneRoot}
use Rattle.record_core.specs.declared.rows.ActivationRow.{ActivationRow}
use Rattle.record_core.specs.declared.rows.Cause.{Cause}
use Rattle.record_core.specs.declared.rows.Cause.TheVariants as cause
use Rattle.record_core.proofs.TotalFacts.{none_there}
use Rattle.record_core.proofs.NumberFacts.{at-in_range, member_at}

-- a cause cuts, or is clear
clear_or_cut : (why : Cause) → (why ≡ cause.Clear) ⊎ (is_cut why ≡ true)
clear_or_cut cause.Clear = inl refl
clear_or_cut cause.Null = inr refl
clear_or_cut cause.Limit = inr refl
clear_or_cut (cause.By u) = inr refl

-- a task that was not cut is behind no cut task
pub no_value_behind : (p : Program) (e : EndSeen) (n u : ℕ) (row : ActivationRow) → EndFaithful p e → by_number e.rows n ≡ Some row → row.after ≡ Some u
    → cause_of e.tasks row.task ≡ cause.Clear → cause_of e.tasks u ≡ cause.Clear
no_value_behind p e n u row faithful there after clear = elim (clear_or_cut (cause_of e.tasks u)) [
  | inl is ↦ is
  | inr cut ↦ let by : cause_of e.tasks row.task ≡ cause.By u = faithful.cuts.through n u row there after cut in absurd cc
]

-- a cut activation is its task's last
pub no_respawn : (p : Program) (e : EndSeen) (n m u : ℕ) (row other : ActivationRow) → EndFaithful p e → by_number e.rows n ≡ Some row → row.after ≡ Some u
    → is_cut (cause_of e.tasks u) ≡ true → by_number e.rows m ≡ Some other → other.task ≡ row.task → n < m → ⊥
no_respawn p e n m u row other faithful there after cut further same later = omega (arith, later, faithful.cuts.last n u row there after cut m other further same)

-- an earlier root has the smaller number
pub no_exchange : (p : Program) (e : EndSeen) (i j t u : ℕ) → EndFaithful p e → i < j → future_at e.own i ≡ Some t → future_at e.own j ≡ Some u → u < t → ⊥
no_exchange p e i j t u faithful earlier first second smaller = omega (arith, smaller, faithful.own.rise i j t u earlier first second)

-- 0 numbers nothing
pub no_zero : {X : Type 0} (xs : List X) (n : ℕ) (x : X) → by_number xs n ≡ Some x → 1 ≤ n
no_zero xs zero x there = absurd (none_there x there)
no_zero xs (suc n) x there = omega arith

-- two members at one place are the same
pub one_member : {X : Type 0} (o : Option X) (x y : X) → o ≡ Some x → o ≡ Some y → x ≡ y
one_member o x y first second = let both : Some x ≡ Some y = sym first ∙ second in cc

-- one number is below the other, or not
pub lt_or_le : (m n : ℕ) → (m < n) ⊎ (n ≤ m)
lt_or_le m zero = inr (omega arith)
lt_or_le zero (suc n) = inl (omega arith)
lt_or_le (suc m) (suc n) = elim (lt_or_le m n) [ inl less ↦ inl (omega (arith, less)) | inr more ↦ inr (omega (arith, more)) ]

-- lists of one length have members at the same numbers
pub beside : {X Y : Type 0} (xs : List X) (ys : List Y) → length xs ≡ length ys → (n : ℕ) (x : X) → by_number xs n ≡ Some x → (y : Y) × (by_number ys n ≡ Some y)
beside xs ys many zero x there = absurd (none_there x there)
beside xs ys many (suc n) x there = member_at ys n (omega (arith, many, at-in_range xs n x there))

-- a row belongs to a task with no greater number
row_first : (n : ℕ) (call : Accepted) (row : ActivationRow) → IsRowOf n call row → row.task ≤ n
row_first n (OfCall call waits) row is = omega (arith, is.0)
row_first n (OfAll members) row is = omega (arith, is.0)
row_first n (Respawn t waits) row is = omega (arith, is.0, is.2)

module _ (p : Program) (e : EndSeen) (calls : List Accepted) (makers : Makers) (told : TellRun p e calls makers) where
  -- whoever made a task is of a task with a smaller number
  pub maker_task : (t : ℕ) (is : IsMadeBy p e calls makers t) → (is.maker.row.task < t) × HasTask e.rows is.maker.row.task
  maker_task t is =
      let maker = is.maker in
      let n = makers.number t in
      let its_call = beside e.rows calls (sym told.as_many) n maker.row maker.there in
      let before : maker.row.task ≤ n = row_first n its_call.0 maker.row (told.rows n its_call.0 maker.row its_call.1 maker.there) in
      let stands = maker.stands in
      let first = beside calls e.rows told.as_many maker.row.task (OfCall stands.call stands.waits) stands.is_call in
      let is_row = told.rows maker.row.task (OfCall stands.call stands.waits) first.0 stands.is_call first.1 in
      (omega (arith, before, maker.drawn), (first.0, first.1, is_row.0))

  -- going from task to maker one comes to a root
  root_below : (bound t : ℕ) → t < bound → HasTask e.rows t → (at : ℕ) × IsOf p e calls makers at t
  root_below zero t below task = absurd (omega (arith, below))
  root_below (suc bound) t below task = elim (told.of_root t task) [
    | inl is ↦ (is.0, IsOf.own is.1)
    | inr is ↦
        let its = maker_task t is in
        let further = root_below bound is.maker.row.task (omega (arith, its.0, below)) its.1 in
        (further.0, IsOf.made is further.1)
  ]

  -- two roots have no task in common
  one_owner : ((i j t u : ℕ) → i < j → future_at e.own i ≡ Some t → future_at e.own j ≡ Some u → t < u) → (i j t : ℕ) → future_at e.own i ≡ Some t → future_at e.own j ≡ Some t → j ≡ i
  one_owner rise i j t first second =
      ⊎_elim (λ same. same) (λ differ. absurd (⊎_elim (λ less. omega (arith, rise j i t t less second first)) (λ more. omega (arith, rise i j t t more first second)) (apart differ))) (cases_eq j i)
    where
      apart : j ≢ i → (j < i) ⊎ (i < j)
      apart differ = ⊎_elim (λ less. inl less) (λ more. inr (omega (arith, more, differ))) (lt_or_le j i)

  -- a task is of one root
  only_root : ((i j t u : ℕ) → i < j → future_at e.own i ≡ Some t → future_at e.own j ≡ Some u → t < u)
      → (at other t : ℕ) → IsOf p e calls makers at t → IsOf p e calls makers other t → other ≡ at
  only_root rise at other t (IsOf.own first) (IsOf.own second) = one_owner rise at other t first second
  only_root rise at other t (IsOf.own first) (IsOf.made is of) = absurd (is.not_own (at, first))
  only_root rise at other t (IsOf.made is of) (IsOf.own second) = absurd (is.not_own (other, second))
  only_root rise at other t (IsOf.made is of) (IsOf.made again of_again) =
      let same : is.maker.row ≡ again.maker.row = one_member (by_number e.rows (makers.number t)) is.maker.row again.maker.row is.maker.there again.maker.there in
      only_root rise at other is.maker.row.task of (subst (λ (row : ActivationRow). IsOf p e calls makers other row.task) (sym same) of_again)

-- each task is of one root
pub each_of_a_root : (p : Program) (e : EndSeen) → EndFaithful p e
    → (calls : List Accepted) × (makers : Makers) × TellRun p e calls makers × ((t : ℕ) → HasTask e.rows t → IsOfOneRoot p e calls makers t)
each_of_a_root p e faithful =
    let (calls, makers, told) = faithful.told in (
      calls,
      makers,
      told,
      λ t task. let its = root_below p e calls makers told (suc t) t (omega arith) task in
          (its.0, its.1, λ other of. only_root p e calls makers told faithful.own.rise its.0 other t its.1 of),
    )

-- the first task is a root's own
pub first_is_own : (p : Program) (e : EndSeen) → EndFaithful p e → HasTask e.rows 1 → IsOwn e.own 1
first_is_own p e faithful task = elim (faithful.told.2.of_root 1 task) [
  | inl is ↦ is
  | inr is ↦ absurd (omega (arith, no_zero e.rows (faithful.told.1.number 1) is.maker.row is.maker.there, is.maker.drawn))
]

-- no superblock has more blocks than it has room for
pub none_too_large : (p : Program) (e : EndSeen) (superblock : ℕ) (word : SuperWord) → EndFaithful p e → slice_get e.evidence superblock ≡ Some word → capacity e.units word.class < word.count → ⊥
none_too_large p e superblock word faithful there more = omega (arith, more, (faithful.counts superblock word there).fits)

-- what was refused, a root or an instruction asks for
asked_for : (p : Program) (e : EndSeen) (calls : List Accepted) (class : ℕ) → IsWanted p e calls class → AsksForClass p class
asked_for p e calls class (IsWanted.of_root at root line end is) = inl (at, root, line, is)
asked_for p e calls class (IsWanted.of_task t instr has is null) = inr (has.call.kind, instr, has.in_kind, is)
asked_for p e calls class (IsWanted.again t instr has is retry on) = inr (has.call.kind, instr, has.in_kind, is)

-- the evidence is of a class that something asks for
pub none_unasked : (p : Program) (e : EndSeen) (class : ℕ) → EndFaithful p e → (AsksForClass p class → ⊥) → e.evidence_class ≢ Some class
none_unasked p e class faithful unasked is = unasked (asked_for p e faithful.told.0 class (faithful.told.2.wanted class is))

-- there is none where no answer was null
pub none_of_nothing : (p : Program) (e : EndSeen) (class : ℕ) → EndFaithful p e → e.nulls ≡ 0 → e.evidence_class ≢ Some class
none_of_nothing p e class faithful none is = none_there class (sym (faithful.shown.0 none) ∙ is)
