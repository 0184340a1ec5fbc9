-- Facts on causes: what they lead to stays where cut tasks keep their causes and finishes.
use Rattle.std.proofs.Common.{◌≡◌, ◌∙◌, ℕ, true, List, sym, ap, subst}
use Rattle.record_core.specs.Journal.{IsRefusal, is_cut, Leads, refused, cut_by, finish_of, cause_of}
use Rattle.record_core.specs.declared.rows.TaskRow.{TaskRow}
use Rattle.record_core.specs.declared.rows.Cause.{Cause}
use Rattle.record_core.specs.declared.rows.Cause.TheVariants.{By}
use Rattle.record_core.specs.declared.rows.CutTag.{CutTag}
use Rattle.record_core.specs.declared.rows.CutTag.TheVariants as cut_tag

-- a task keeps its cause and its finish
pub record IsKept (tasks tasks' : List TaskRow) (t : ℕ) : Type 0 where
  pub cause : cause_of tasks' t ≡ cause_of tasks t
  pub finish : finish_of tasks' t ≡ finish_of tasks t

-- a refusal is a cut
pub refusal_cuts : (tag : CutTag) (cause : Cause) → IsRefusal tag cause → is_cut cause ≡ true
refusal_cuts cut_tag.Null cause is = ap is_cut is
refusal_cuts cut_tag.Limit cause is = ap is_cut is

-- who is cut by a task is cut
pub by_cuts : (cause : Cause) (u : ℕ) → cause ≡ By u → is_cut cause ≡ true
by_cuts cause u is = ap is_cut is

-- a task whose causes lead to a refusal is cut
pub leads_cut : (tasks : List TaskRow) (tag : CutTag) (t : ℕ) → Leads tasks tag t → is_cut (cause_of tasks t) ≡ true
leads_cut tasks tag t (refused is) = refusal_cuts tag (cause_of tasks t) is
leads_cut tasks tag t (cut_by u f g is _ _ _ _) = by_cuts (cause_of tasks t) u is

-- causes lead to the same refusal where cut tasks keep their rows
pub leads-kept : (tasks tasks' : List TaskRow) (tag : CutTag) → ((t : ℕ) → is_cut (cause_of tasks t) ≡ true → IsKept tasks tasks' t)
    → (t : ℕ) → Leads tasks tag t → Leads tasks' tag t
leads-kept tasks tasks' tag kept t (refused is) =
    let same : IsKept tasks tasks' t = kept t (refusal_cuts tag (cause_of tasks t) is) in
    refused (subst (λ (cause : Cause). IsRefusal tag cause) (sym same.cause) is)
leads-kept tasks tasks' tag kept t (cut_by u f g is of_u of_t earlier more) =
    let same : IsKept tasks tasks' t = kept t (by_cuts (cause_of tasks t) u is) in
    let before : IsKept tasks tasks' u = kept u (leads_cut tasks tag u more) in
    cut_by u f g (same.cause ∙ is) (before.finish ∙ of_u) (same.finish ∙ of_t) earlier (leads-kept tasks tasks' tag kept u more)
