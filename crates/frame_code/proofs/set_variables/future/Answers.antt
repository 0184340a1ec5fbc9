use Rattle.std.proofs.Common.{length, slice_index, ◌∙◌, ap, arith}
use Rattle.task_syntax.specs.declared.program.Sort.TheVariants.{Future}
use Rattle.frame_code.specs.Control.{control_kind}
use Rattle.frame_code.specs.Words.{unit_named, variables_at}
use Rattle.frame_code.specs.Layout.{future_place}
use Rattle.frame_code.proofs.SetFrames.{sort-of, future-place_within, future-read}
use Rattle.frame_code.proofs.set_variables.future.Goals as goal

pub offset_bounds-words-place : goal.offset_bounds-words-place
offset_bounds-words-place c =
    let p = c.args.checked.now in
    let old = c.args.frame.now.items in
    let words = c.as_slice-words.result.now in
    let same = c.as_slice-words.ensures.value in
    let s = sort-of p old Future c.args.x c.requires.variable in
    let place = c.future_place-place.ensures ∙ (ap (λ vs. future_place vs c.args.x) c.variables_of.ensures.same
    ∙ ap (λ l. future_place (variables_at p (control_kind (slice_index l 0))) c.args.x) same) in
    let within = future-place_within p old c.requires.frame s.0 c.args.x s.1 in
    omega (arith, place, within, c.requires.frame.few, ap length same)

pub bounds-words-place : goal.bounds-words-place
bounds-words-place c =
    let p = c.args.checked.now in
    let old = c.args.frame.now.items in
    let words = c.as_slice-words.result.now in
    let same = c.as_slice-words.ensures.value in
    let s = sort-of p old Future c.args.x c.requires.variable in
    let place = c.future_place-place.ensures ∙ (ap (λ vs. future_place vs c.args.x) c.variables_of.ensures.same
    ∙ ap (λ l. future_place (variables_at p (control_kind (slice_index l 0))) c.args.x) same) in
    let within = future-place_within p old c.requires.frame s.0 c.args.x s.1 in
    omega (arith, place, within, c.requires.frame.few, ap length same)

pub returns : goal.returns
returns c =
    let p = c.args.checked.now in
    let old = c.args.frame.now.items in
    let words = c.as_slice-words.result.now in
    let same = c.as_slice-words.ensures.value in
    let s = sort-of p old Future c.args.x c.requires.variable in
    let place = c.future_place-place.ensures ∙ (ap (λ vs. future_place vs c.args.x) c.variables_of.ensures.same
    ∙ ap (λ l. future_place (variables_at p (control_kind (slice_index l 0))) c.args.x) same) in
    c.unit_of.ensures ∙ (ap (λ l. unit_named (slice_index l c.future_place-place.result)) same ∙ (ap (λ k. unit_named (slice_index old k)) place
    ∙ future-read p old c.requires.frame s.0 c.args.x s.1))
