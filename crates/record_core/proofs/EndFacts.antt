-- What sound and faithful ends can not show.
use Rattle.std.proofs.Common.{◌≡◌, ◌≢◌, ◌⊎◌, ◌∙◌, inl, inr, ℕ, zero, suc, ◌+◌, ◌≤◌, ◌<◌, true, false, Option, Some, None, List, [], ◌∷◌, ◌++◌, length, refl, sym, ap, subst, arith}
use Rattle.std.specs.Prelude.{IfSome, slice_get}
use Rattle.std.specs.List.{flat_map}
use Rattle.std.specs.Option.{option_or, option_map}
use Rattle.task_syntax.specs.Places.{Each}
use Rattle.task_syntax.specs.Form.{IsWellFormed, IsFormedRootArgument, IsFormedRoot}
use Rattle.task_syntax.specs.declared.value.Value.{Value as ValueOf}
use Rattle.task_syntax.specs.declared.program.RootArgument.{RootArgument}
use Rattle.task_syntax.specs.declared.program.RootArgument.TheVariants as root_argument
use Rattle.task_syntax.specs.declared.program.Root.{Root as RootLine}
use Rattle.task_syntax.specs.declared.program.Program.{Program}
use Rattle.task_syntax.specs.declared.columns.Columns.{Columns}
use Rattle.task_meaning.specs.Meant.{future_at}
use Rattle.task_meaning.specs.Roots.{RootGives, root_value}
use Rattle.task_meaning.specs.RootLaws.{root_waits}
use Rattle.task_meaning.proofs.Grows.{Stays-at}
use Rattle.task_meaning.proofs.RootsFuel.{root_value-stays}
use Rattle.record_core.specs.Sums.{total}
use Rattle.record_core.specs.Counting.{Has}
use Rattle.record_core.specs.Numbers.{by_number}
use Rattle.record_core.specs.Journal.{IsRefusal, is_cut, Leads, refused, cut_by, finish_of, cause_of}
use Rattle.record_core.specs.EndSeen.{EndSeen, RunPlan}
use Rattle.record_core.specs.RootEnds.{root_passed, root_waited, roots_named, cut_without_task, without_task, first_without_task}
use Rattle.record_core.specs.EndSound.{EndSound, HasEvidence, null_root, null_task}
use Rattle.record_core.specs.EndFaithful.{EndFaithful, IsUncut}
use Rattle.record_core.specs.EndLaws.{HasRefusal, IsCutEarlier}
use Rattle.record_core.specs.declared.rows.ActivationRow.{ActivationRow}
use Rattle.record_core.specs.declared.rows.TaskRow.{TaskRow}
use Rattle.record_core.specs.declared.rows.Cause.{Cause}
use Rattle.record_core.specs.declared.rows.Cause.TheVariants as cause
use Rattle.record_core.specs.declared.rows.RootEnd.{RootEnd}
use Rattle.record_core.specs.declared.rows.RootEnd.TheVariants.{Value, Cut}
use Rattle.record_core.specs.declared.rows.CutTag.{CutTag}
use Rattle.record_core.specs.declared.rows.CutTag.TheVariants.{Null, Limit}
use Rattle.record_core.specs.declared.rows.CutFrom.{CutFrom}
use Rattle.record_core.specs.declared.rows.CutFrom.TheVariants.{Host, Root, Task}
use Rattle.record_core.proofs.TotalFacts.{none_there, total-member}
use Rattle.record_core.proofs.NumberFacts.{at-in_range, member_at}
use Rattle.record_core.proofs.LeadFacts.{leads_cut}

-- two values that some fuel gives are one
pub no_other_value : (p : Program) (c : Columns) (plan : RunPlan) (e : EndSeen) (at : ℕ) (shown meant : ValueOf) → EndSound p c plan e
    → slice_get e.roots at ≡ Some (Value shown) → RootGives p c at meant → shown ≡ meant
no_other_value p c plan e at shown meant sound there given =
    let gives : RootGives p c at shown = sound.roots at (Value shown) there in
    let one : root_value p c (gives.0 + given.0) at ≡ Some shown
    = Stays-at _ _ (root_value-stays p c gives.0 (gives.0 + given.0) at (omega arith)) shown gives.1 in
    let other : root_value p c (gives.0 + given.0) at ≡ Some meant
    = Stays-at _ _ (root_value-stays p c given.0 (gives.0 + given.0) at (omega arith)) meant given.1 in
    cc

-- causes lead to a refusal
pub leads_refusal : (tasks : List TaskRow) (tag : CutTag) (t : ℕ) → Leads tasks tag t → (u : ℕ) × IsRefusal tag (cause_of tasks u)
leads_refusal tasks tag t (refused is) = (t, is)
leads_refusal tasks tag t (cut_by u f g _ _ _ _ more) = leads_refusal tasks tag u more

-- a root that has no task was cut at the host or from a root
no_task : (tag : CutTag) (end : RootEnd) → cut_without_task end ≡ Some tag → (end ≡ Cut tag Host) ⊎ ((r : ℕ) × (end ≡ Cut tag (Root r)))
no_task tag (Value v) is = absurd (none_there tag is)
no_task tag (Cut other Host) is = inl cc
no_task tag (Cut other (Root r)) is = inr (r, cc)
no_task tag (Cut other (Task t)) is = absurd (none_there tag is)

-- what `without_task` finds is at its root
record IsWithout (ends : List RootEnd) (at r : ℕ) (tag : CutTag) : Type 0 where
  same : r ≡ at
  end : RootEnd
  there : slice_get ends at ≡ Some end
  cut : cut_without_task end ≡ Some tag

-- a root that is found is the one that was asked for
tagged : (at r : ℕ) (tag : CutTag) (o : Option CutTag) → option_map {U = ℕ × CutTag} (λ other. (at, other)) o ≡ Some (r, tag) → (r ≡ at) × (o ≡ Some tag)
tagged at r tag None is = absurd (none_there (r, tag) is)
tagged at r tag (Some other) is = let same : (at, other) ≡ (r, tag) = cc in (sym (ap (λ (x : ℕ × CutTag). x.0) same), ap (λ (x : ℕ × CutTag). Some x.1) same)

abbrev seen_without : ℕ → Option RootEnd → Option (ℕ × CutTag)
seen_without at None = None
seen_without at (Some end) = option_map (λ tag. (at, tag)) (cut_without_task end)

-- and has its end
found_without : (ends : List RootEnd) (at r : ℕ) (tag : CutTag) (o : Option RootEnd) → slice_get ends at ≡ o
    → seen_without at o ≡ Some (r, tag) → IsWithout ends at r tag
found_without ends at r tag None there is = absurd (none_there (r, tag) is)
found_without ends at r tag (Some end) there is =
    let both : (r ≡ at) × (cut_without_task end ≡ Some tag) = tagged at r tag (cut_without_task end) is in
    record { same = both.0; end = end; there = there; cut = both.1 }

-- the first root without a task is one of those named
record IsNamed (ends : List RootEnd) (names : List ℕ) (r : ℕ) (tag : CutTag) : Type 0 where
  named : Has r names
  without : IsWithout ends r r tag

-- the same, said of the root that was found
moved : (ends : List RootEnd) (at r : ℕ) (tag : CutTag) → IsWithout ends at r tag → IsWithout ends r r tag
moved ends at r tag w = record { same = refl; end = w.end; there = ap (slice_get ends) w.same ∙ w.there; cut = w.cut }

-- the first of a list is found at its head or further on
pick : (ends : List RootEnd) (at : ℕ) (names : List ℕ) (r : ℕ) (tag : CutTag) (o : Option (ℕ × CutTag)) → without_task ends at ≡ o
    → (first_without_task ends names ≡ Some (r, tag) → IsNamed ends names r tag) → option_or o (first_without_task ends names) ≡ Some (r, tag) → IsNamed ends (at ∷ names) r tag
pick ends at names r tag None none further is =
    let later : IsNamed ends names r tag = further is in record { named = (suc later.named.0, later.named.1); without = later.without }
pick ends at names r tag (Some x) some further is =
    let w : IsWithout ends at r tag = found_without ends at r tag (slice_get ends at) refl (some ∙ is) in
    record { named = (0, ap Some (sym w.same)); without = moved ends at r tag w }

first_named : (ends : List RootEnd) (names : List ℕ) (r : ℕ) (tag : CutTag) → first_without_task ends names ≡ Some (r, tag) → IsNamed ends names r tag
first_named ends [] r tag is = absurd (none_there (r, tag) is)
first_named ends (at ∷ names) r tag is = pick ends at names r tag (without_task ends at) refl (first_named ends names r tag) is

-- the roots that a root's line names are earlier ones
named_earlier : (at : ℕ) (arguments : List RootArgument) (behind : Option ℕ) → Each arguments (IsFormedRootArgument at) → IfSome behind (λ earlier. earlier < at)
    → (k r : ℕ) → slice_get (flat_map root_passed arguments ++ root_waited behind) k ≡ Some r → r < at
named_earlier at [] None formed waits k r there = absurd (none_there r there)
named_earlier at [] (Some b) formed waits zero r there = let same : b ≡ r = cc in omega (arith, waits, same)
named_earlier at [] (Some b) formed waits (suc k) r there = absurd (none_there r there)
named_earlier at (root_argument.Number n ∷ arguments) behind formed waits k r there = named_earlier at arguments behind (λ j. formed (suc j)) waits k r there
named_earlier at (root_argument.Root q ∷ arguments) behind formed waits zero r there =
    let same : q ≡ r = cc in let first : q < at = formed 0 (root_argument.Root q) refl in omega (arith, first, same)
named_earlier at (root_argument.Root q ∷ arguments) behind formed waits (suc k) r there = named_earlier at arguments behind (λ j. formed (suc j)) waits k r there

-- a task of cause null is counted
null_counted : (tasks : List TaskRow) (t : ℕ) → cause_of tasks t ≡ cause.Null → 1 ≤ total null_task tasks
null_counted tasks zero is = absurd cc
null_counted [] (suc k) is = absurd cc
null_counted (task ∷ tasks) (suc zero) is =
    let weight : Cause → ℕ = λ other. elim other [ cause.Clear ↦ 0 | cause.Null ↦ 1 | cause.Limit ↦ 0 | cause.By u ↦ 0 ] in
    let its : task.cause ≡ cause.Null = is in
    omega (arith, ap weight its)
null_counted (task ∷ tasks) (suc (suc k)) is = omega (arith, null_counted tasks (suc k) is)

module _ (p : Program) (c : Columns) (plan : RunPlan) (e : EndSeen) (formed : IsWellFormed p) (sound : EndSound p c plan e) where
  -- a root that is cut from another is cut from an earlier one
  record IsFromEarlier (at r : ℕ) (tag : CutTag) : Type 0 where
    earlier : r < at
    end : RootEnd
    there : slice_get e.roots r ≡ Some end
    cut : (end ≡ Cut tag Host) ⊎ ((q : ℕ) × (end ≡ Cut tag (Root q)))

  -- a cut from a root is from an earlier one, which got no task
  from_earlier : (at r : ℕ) (tag : CutTag) → slice_get e.roots at ≡ Some (Cut tag (Root r)) → IsFromEarlier at r tag
  from_earlier at r tag there =
      let line : (root : RootLine) × (slice_get p.roots at ≡ Some root) = member_at p.roots at (omega (arith, sound.as_many, at-in_range e.roots at (Cut tag (Root r)) there)) in
      let names : first_without_task e.roots (roots_named line.0) ≡ Some (r, tag) = sym (sound.named at (Cut tag (Root r)) there line.0 line.1) in
      let first : IsNamed e.roots (roots_named line.0) r tag = first_named e.roots (roots_named line.0) r tag names in
      let is : IsFormedRoot p at line.0 = formed.roots at line.0 line.1 in
      record {
        earlier = named_earlier at line.0.arguments line.0.behind is.arguments is.behind first.named.0 r first.named.1;
        end = first.without.end;
        there = first.without.there;
        cut = no_task tag first.without.end first.without.cut;
      }

  -- so going from root to root one comes to a refusal
  refusal_below : (bound at : ℕ) (tag : CutTag) (from : CutFrom) → at < bound → slice_get e.roots at ≡ Some (Cut tag from) → HasRefusal e tag
  refusal_below zero at tag from b there = absurd (omega (arith, b))
  refusal_below (suc bound) at tag Host b there = inr (at, there)
  refusal_below (suc bound) at tag (Task t) b there =
      let cut : (future_at e.own at ≡ Some t) × Leads e.tasks tag t = sound.roots at (Cut tag (Task t)) there in inl (leads_refusal e.tasks tag t cut.1)
  refusal_below (suc bound) at tag (Root r) b there =
      let w : IsFromEarlier at r tag = from_earlier at r tag there in
      elim w.cut [
        | inl host ↦ inr (r, w.there ∙ ap Some host)
        | inr root ↦ refusal_below bound r tag (Root root.0) (omega (arith, b, w.earlier)) (w.there ∙ ap Some root.1)
      ]

  -- each cut comes from a refusal
  pub refusal_of : (at : ℕ) (tag : CutTag) (from : CutFrom) → slice_get e.roots at ≡ Some (Cut tag from) → HasRefusal e tag
  refusal_of at tag from there = refusal_below (suc at) at tag from (omega arith) there

  -- a root is cut by the limit only where it is met
  pub limit_met : (at : ℕ) (from : CutFrom) → slice_get e.roots at ≡ Some (Cut Limit from) → length e.rows ≡ plan.limit
  limit_met at from there = elim (refusal_of at Limit from there) [ inl task ↦ sound.limited task.0 task.1 | inr root ↦ sound.limited_root root.0 root.1 ]

  -- a null root has evidence
  pub null_shown : (at : ℕ) (from : CutFrom) → slice_get e.roots at ≡ Some (Cut Null from) → HasEvidence e plan.limit
  null_shown at from there = elim (refusal_of at Null from there) [
    | inl task ↦ sound.evidence (omega (arith, null_counted e.tasks task.0 task.1, sound.nulls))
    | inr root ↦ sound.evidence (omega (arith, total-member null_root e.roots root.0 (Cut Null Host) root.1, sound.nulls))
  ]

-- whoever is cut by a task finished after it
cut_earlier : (e : EndSeen) (t u : ℕ) (tag : CutTag) → cause_of e.tasks t ≡ cause.By u → Leads e.tasks tag t → IsCutEarlier e t u
cut_earlier e t u Null by (refused is) = let null : cause_of e.tasks t ≡ cause.Null = is in absurd cc
cut_earlier e t u Limit by (refused is) = let limit : cause_of e.tasks t ≡ cause.Limit = is in absurd cc
cut_earlier e t u tag by (cut_by w f g is of_u of_t before more) =
    let same : w ≡ u = cc in
    record {
      finish = f;
      earlier = g;
      of_task = of_t;
      of_other = ap (finish_of e.tasks) (sym same) ∙ of_u;
      before = before;
      cut = ap (λ k. is_cut (cause_of e.tasks k)) (sym same) ∙ leads_cut e.tasks tag w more;
    }

-- whoever cuts a task finished earlier
pub cut_by_earlier : (p : Program) (c : Columns) (plan : RunPlan) (e : EndSeen) (t u : ℕ) → EndSound p c plan e → cause_of e.tasks t ≡ cause.By u → IsCutEarlier e t u
cut_by_earlier p c plan e t u sound by = let led = (sound.causes t u by).1 in cut_earlier e t u led.0 by led.1

-- a cut root shows no value
pub no_cut_value : (p : Program) (e : EndSeen) (at t : ℕ) (v : ValueOf) → EndFaithful p e → future_at e.own at ≡ Some t
    → is_cut (cause_of e.tasks t) ≡ true → slice_get e.roots at ≢ Some (Value v)
no_cut_value p e at t v faithful own cut there =
    let uncut : IsUncut e.tasks (future_at e.own at) = (faithful.cuts.clear at (Value v) there).0 tt in
    let clear : cause_of e.tasks t ≡ cause.Clear = subst (λ (o : Option ℕ). IsUncut e.tasks o) own uncut in
    let not_cut : is_cut (cause_of e.tasks t) ≡ false = ap is_cut clear in
    absurd cc

-- a task behind a cut one has no other cause
pub no_cut_hidden : (p : Program) (e : EndSeen) (n u : ℕ) (row : ActivationRow) (other : Cause) → EndFaithful p e → by_number e.rows n ≡ Some row → row.after ≡ Some u
    → is_cut (cause_of e.tasks u) ≡ true → other ≢ cause.By u → cause_of e.tasks row.task ≢ other
no_cut_hidden p e n u row other faithful at after cut differ is = differ (sym is ∙ faithful.cuts.through n u row at after cut)

-- a root's task has no other predecessor
pub no_other_predecessor : (p : Program) (e : EndSeen) (at t : ℕ) (root : RootLine) (row : ActivationRow) (other : Option ℕ) → EndFaithful p e
    → slice_get p.roots at ≡ Some root → future_at e.own at ≡ Some t → by_number e.rows t ≡ Some row → other ≢ root_waits e.own root.behind → row.after ≢ other
no_other_predecessor p e at t root row other faithful line own there differ is = differ (sym is ∙ faithful.own.behind at t root row line own there)
