use Rattle.std.proofs.Common.{slice_index, slice_set, sym, ◌∙◌, ap, subst, arith}
use Rattle.task_syntax.specs.declared.program.Sort.TheVariants.{Future}
use Rattle.frame_code.specs.Words.{unit_named}
use Rattle.frame_code.specs.Layout.{future_place}
use Rattle.frame_code.specs.Setting.{IsSetFuture}
use Rattle.frame_code.proofs.SetFrames.{sort-of, future-place_within, future-set, future-read}
use Rattle.frame_code.proofs.set_variables.exchange.Goals as goal

pub offset_bounds-words-place : goal.offset_bounds-words-place
offset_bounds-words-place c =
    let p = c.args.checked.now in
    let words = c.args.words.now in
    let s = sort-of p words Future c.args.x c.requires.variable in
    let place = c.future_place-place.ensures ∙ ap (λ vs. future_place vs c.args.x) c.variables_of.ensures.same in
    let within = future-place_within p words c.requires.frame s.0 c.args.x s.1 in
    omega (arith, place, within, c.requires.frame.few)

pub bounds-words-place : goal.bounds-words-place
bounds-words-place c =
    let p = c.args.checked.now in
    let words = c.args.words.now in
    let s = sort-of p words Future c.args.x c.requires.variable in
    let place = c.future_place-place.ensures ∙ ap (λ vs. future_place vs c.args.x) c.variables_of.ensures.same in
    let within = future-place_within p words c.requires.frame s.0 c.args.x s.1 in
    omega (arith, place, within, c.requires.frame.few)

pub offset_bounds-words-place-2 : goal.offset_bounds-words-place-2
offset_bounds-words-place-2 c =
    let p = c.args.checked.now in
    let words = c.args.words.now in
    let s = sort-of p words Future c.args.x c.requires.variable in
    let place = c.future_place-place.ensures ∙ ap (λ vs. future_place vs c.args.x) c.variables_of.ensures.same in
    let within = future-place_within p words c.requires.frame s.0 c.args.x s.1 in
    omega (arith, place, within, c.requires.frame.few)

pub bounds-words-place-2 : goal.bounds-words-place-2
bounds-words-place-2 c =
    let p = c.args.checked.now in
    let words = c.args.words.now in
    let s = sort-of p words Future c.args.x c.requires.variable in
    let place = c.future_place-place.ensures ∙ ap (λ vs. future_place vs c.args.x) c.variables_of.ensures.same in
    let within = future-place_within p words c.requires.frame s.0 c.args.x s.1 in
    omega (arith, place, within, c.requires.frame.few)

pub returns-clause-old : goal.returns-clause-old
returns-clause-old c =
    let p = c.args.checked.now in
    let words = c.args.words.now in
    let s = sort-of p words Future c.args.x c.requires.variable in
    let place = c.future_place-place.ensures ∙ ap (λ vs. future_place vs c.args.x) c.variables_of.ensures.same in
    ap (λ k. unit_named (slice_index words k)) place ∙ future-read p words c.requires.frame s.0 c.args.x s.1

pub returns-clause-set : goal.returns-clause-set
returns-clause-set c =
    let p = c.args.checked.now in
    let words = c.args.words.now in
    let s = sort-of p words Future c.args.x c.requires.variable in
    let place = c.future_place-place.ensures ∙ ap (λ vs. future_place vs c.args.x) c.variables_of.ensures.same in
    subst (λ k. IsSetFuture p c.args.x (unit_named c.args.word) words (slice_set words k c.args.word)) (sym place)
    (future-set p words c.requires.frame s.0 c.args.x c.args.word s.1).1
