use Rattle.std.proofs.Common.{length, slice_index, slice_set, sym, ◌∙◌, ap, subst, arith}
use Rattle.std.proofs.lemmas.List.{length-set}
use Rattle.task_syntax.specs.declared.program.Sort.TheVariants.{Number}
use Rattle.frame_code.specs.Control.{control_kind}
use Rattle.frame_code.specs.Words.{variables_at}
use Rattle.frame_code.specs.Layout.{number_place}
use Rattle.frame_code.specs.Setting.{IsSetNumber}
use Rattle.frame_code.proofs.Aggregates.{refill-same}
use Rattle.frame_code.proofs.SetFrames.{sort-of, number-place_within, number-set}
use Rattle.frame_code.proofs.set_variables.set_number.Goals as goal

pub offset_bounds-words-place : goal.offset_bounds-words-place
offset_bounds-words-place c =
    let p = c.args.checked.now in
    let old = c.args.frame.now.items in
    let words = c.as_mut_slice-words.result.now in
    let same = c.as_mut_slice-words.ensures.value in
    let s = sort-of p old Number c.args.x c.requires.variable in
    let place = c.number_place-place.ensures ∙ (ap (λ vs. number_place vs c.args.x) c.variables_of.ensures.same
    ∙ ap (λ l. number_place (variables_at p (control_kind (slice_index l 0))) c.args.x) same) in
    let within = number-place_within p old c.requires.frame s.0 c.args.x s.1 in
    omega (arith, place, within, c.requires.frame.few, ap length same)

pub bounds-words-place : goal.bounds-words-place
bounds-words-place c =
    let p = c.args.checked.now in
    let old = c.args.frame.now.items in
    let words = c.as_mut_slice-words.result.now in
    let same = c.as_mut_slice-words.ensures.value in
    let s = sort-of p old Number c.args.x c.requires.variable in
    let place = c.number_place-place.ensures ∙ (ap (λ vs. number_place vs c.args.x) c.variables_of.ensures.same
    ∙ ap (λ l. number_place (variables_at p (control_kind (slice_index l 0))) c.args.x) same) in
    let within = number-place_within p old c.requires.frame s.0 c.args.x s.1 in
    omega (arith, place, within, c.requires.frame.few, ap length same)

pub returns-clause-set : goal.returns-clause-set
returns-clause-set c =
    let p = c.args.checked.now in
    let old = c.args.frame.now.items in
    let words = c.as_mut_slice-words.result.now in
    let same = c.as_mut_slice-words.ensures.value in
    let s = sort-of p old Number c.args.x c.requires.variable in
    let place = c.number_place-place.ensures ∙ (ap (λ vs. number_place vs c.args.x) c.variables_of.ensures.same
    ∙ ap (λ l. number_place (variables_at p (control_kind (slice_index l 0))) c.args.x) same) in
    let written = refill-same old (slice_set words c.number_place-place.result c.args.number) (length-set words c.number_place-place.result c.args.number ∙ ap length same)
    ∙ (ap (λ l. slice_set l c.number_place-place.result c.args.number) same ∙ ap (λ k. slice_set old k c.args.number) place) in
    subst (IsSetNumber p c.args.x c.args.number old) (sym written) (number-set p old c.requires.frame s.0 c.args.x c.args.number s.1).1
