use Rattle.std.proofs.Common.{◌≡◌, ℕ, List, length, slice_index, slice_set, ◌∙◌, ap, arith}
use Rattle.std.proofs.lemmas.List.{length-set}
use Rattle.task_syntax.specs.declared.program.Sort.TheVariants.{Number}
use Rattle.frame_code.specs.Control.{control_at}
use Rattle.frame_code.specs.Layout.{number_place}
use Rattle.frame_code.specs.declared.words.Control.{Control}
use Rattle.frame_code.proofs.Variables.{sort-within}
use Rattle.frame_code.proofs.PassedFrames.{of-kind, gives-past, of-read, past-read, next-fits, read-number, read-within, given-clauses, written-next}
use Rattle.frame_code.proofs.moves.give.Goals as goal

pub number_place-place-requires : goal.number_place-place-requires
number_place-place-requires c =
    let p = c.args.checked.now in
    let old = c.args.frame.now.items in
    let read = c.as_mut_slice-words.result.now in
    let line = c.line_at-line.result.now in
    let to = c.variable_read-to.result in
    let gives = c.variable_read-to.ensures in
    let of = of-read p c.program.result.now old read c.unpack-control.result c.kind_at-kind.result.now c.state_at.result.now line c.program.ensures.same
    c.as_mut_slice-words.ensures.value c.unpack-control.ensures c.kind_at-kind.ensures c.state_at.ensures c.line_at-line.ensures in
    let past = past-read p old line to gives.0 (gives-past p old c.requires.read).1.task of gives.1 in
    let number = read-number p old line c.program.ensures.formed past of to gives.0 0 gives.1 c.requires.frame in
    let within = sort-within c.kind_at-kind.result.now.variables to Number number in
    omega (
      arith,
      within,
      ap length (of-kind p c.program.result.now c.unpack-control.result.kind c.kind_at-kind.result.now
          c.variables.result c.program.ensures.same c.kind_at-kind.ensures c.variables.ensures.same),
    )

pub offset_bounds-words-place : goal.offset_bounds-words-place
offset_bounds-words-place c =
    let p = c.args.checked.now in
    let old = c.args.frame.now.items in
    let read = c.as_mut_slice-words.result.now in
    let line = c.line_at-line.result.now in
    let to = c.variable_read-to.result in
    let gives = c.variable_read-to.ensures in
    let of = of-read p c.program.result.now old read c.unpack-control.result c.kind_at-kind.result.now c.state_at.result.now line c.program.ensures.same
    c.as_mut_slice-words.ensures.value c.unpack-control.ensures c.kind_at-kind.ensures c.state_at.ensures c.line_at-line.ensures in
    let past = past-read p old line to gives.0 (gives-past p old c.requires.read).1.task of gives.1 in
    let place : c.number_place-place.result ≡ number_place c.kind_at-kind.result.now.variables to
    = c.number_place-place.ensures ∙ ap (λ vs. number_place vs to) (of-kind p c.program.result.now c.unpack-control.result.kind c.kind_at-kind.result.now
    c.variables.result c.program.ensures.same c.kind_at-kind.ensures c.variables.ensures.same) in
    let within = read-within p old line c.program.ensures.formed past of to gives.0 0 gives.1 c.requires.frame in
    omega (arith, place, within, c.requires.frame.few)

pub bounds-words-place : goal.bounds-words-place
bounds-words-place c =
    let p = c.args.checked.now in
    let old = c.args.frame.now.items in
    let read = c.as_mut_slice-words.result.now in
    let line = c.line_at-line.result.now in
    let to = c.variable_read-to.result in
    let gives = c.variable_read-to.ensures in
    let of = of-read p c.program.result.now old read c.unpack-control.result c.kind_at-kind.result.now c.state_at.result.now line c.program.ensures.same
    c.as_mut_slice-words.ensures.value c.unpack-control.ensures c.kind_at-kind.ensures c.state_at.ensures c.line_at-line.ensures in
    let past = past-read p old line to gives.0 (gives-past p old c.requires.read).1.task of gives.1 in
    let place : c.number_place-place.result ≡ number_place c.kind_at-kind.result.now.variables to
    = c.number_place-place.ensures ∙ ap (λ vs. number_place vs to) (of-kind p c.program.result.now c.unpack-control.result.kind c.kind_at-kind.result.now
    c.variables.result c.program.ensures.same c.kind_at-kind.ensures c.variables.ensures.same) in
    let within = read-within p old line c.program.ensures.formed past of to gives.0 0 gives.1 c.requires.frame in
    omega (arith, place, within, ap length c.as_mut_slice-words.ensures.value)

pub stand-requires-clause-at : goal.stand-requires-clause-at
stand-requires-clause-at c =
    let p = c.args.checked.now in
    let old = c.args.frame.now.items in
    let read = c.as_mut_slice-words.result.now in
    let line = c.line_at-line.result.now in
    let to = c.variable_read-to.result in
    let gives = c.variable_read-to.ensures in
    let of = of-read p c.program.result.now old read c.unpack-control.result c.kind_at-kind.result.now c.state_at.result.now line c.program.ensures.same
    c.as_mut_slice-words.ensures.value c.unpack-control.ensures c.kind_at-kind.ensures c.state_at.ensures c.line_at-line.ensures in
    let past = past-read p old line to gives.0 (gives-past p old c.requires.read).1.task of gives.1 in
    let fits = next-fits p old line c.program.ensures.formed past of in
    let same : control_at (slice_index read 0) ≡ control_at (slice_index old 0) = ap (λ l. control_at (slice_index l 0)) c.as_mut_slice-words.ensures.value in
    let is : c.unpack-control.result.at ≡ control_at (slice_index read 0) = ap (λ (x : Control). x.at) c.unpack-control.ensures in
    omega (arith, fits, same, is)

pub returns-clause-frame : goal.returns-clause-frame
returns-clause-frame c =
    let p = c.args.checked.now in
    let old = c.args.frame.now.items in
    let read = c.as_mut_slice-words.result.now in
    let line = c.line_at-line.result.now in
    let to = c.variable_read-to.result in
    let gives = c.variable_read-to.ensures in
    let of = of-read p c.program.result.now old read c.unpack-control.result c.kind_at-kind.result.now c.state_at.result.now line c.program.ensures.same
    c.as_mut_slice-words.ensures.value c.unpack-control.ensures c.kind_at-kind.ensures c.state_at.ensures c.line_at-line.ensures in
    let past = past-read p old line to gives.0 (gives-past p old c.requires.read).1.task of gives.1 in
    let place : c.number_place-place.result ≡ number_place c.kind_at-kind.result.now.variables to
    = c.number_place-place.ensures ∙ ap (λ vs. number_place vs to) (of-kind p c.program.result.now c.unpack-control.result.kind c.kind_at-kind.result.now
    c.variables.result c.program.ensures.same c.kind_at-kind.ensures c.variables.ensures.same) in
    let set : List ℕ = slice_set read c.number_place-place.result c.args.number in
    let is_set : set ≡ slice_set old (number_place c.kind_at-kind.result.now.variables to) c.args.number
    = ap (λ l. slice_set l c.number_place-place.result c.args.number) c.as_mut_slice-words.ensures.value ∙ ap (λ k. slice_set old k c.args.number) place in
    (given-clauses p old line c.program.ensures.formed past of to gives.0 c.args.number gives.1 c.requires.frame set _ is_set
    (written-next old read set c.stand.new.words c.unpack-control.result c.as_mut_slice-words.ensures.value c.unpack-control.ensures
    (ap length is_set ∙ length-set old _ c.args.number) c.stand.ensures)).0

pub returns-clause-given : goal.returns-clause-given
returns-clause-given c =
    let p = c.args.checked.now in
    let old = c.args.frame.now.items in
    let read = c.as_mut_slice-words.result.now in
    let line = c.line_at-line.result.now in
    let to = c.variable_read-to.result in
    let gives = c.variable_read-to.ensures in
    let of = of-read p c.program.result.now old read c.unpack-control.result c.kind_at-kind.result.now c.state_at.result.now line c.program.ensures.same
    c.as_mut_slice-words.ensures.value c.unpack-control.ensures c.kind_at-kind.ensures c.state_at.ensures c.line_at-line.ensures in
    let past = past-read p old line to gives.0 (gives-past p old c.requires.read).1.task of gives.1 in
    let place : c.number_place-place.result ≡ number_place c.kind_at-kind.result.now.variables to
    = c.number_place-place.ensures ∙ ap (λ vs. number_place vs to) (of-kind p c.program.result.now c.unpack-control.result.kind c.kind_at-kind.result.now
    c.variables.result c.program.ensures.same c.kind_at-kind.ensures c.variables.ensures.same) in
    let set : List ℕ = slice_set read c.number_place-place.result c.args.number in
    let is_set : set ≡ slice_set old (number_place c.kind_at-kind.result.now.variables to) c.args.number
    = ap (λ l. slice_set l c.number_place-place.result c.args.number) c.as_mut_slice-words.ensures.value ∙ ap (λ k. slice_set old k c.args.number) place in
    (given-clauses p old line c.program.ensures.formed past of to gives.0 c.args.number gives.1 c.requires.frame set _ is_set
    (written-next old read set c.stand.new.words c.unpack-control.result c.as_mut_slice-words.ensures.value c.unpack-control.ensures
    (ap length is_set ∙ length-set old _ c.args.number) c.stand.ensures)).1

pub returns-clause-way : goal.returns-clause-way
returns-clause-way c =
    let p = c.args.checked.now in
    let old = c.args.frame.now.items in
    let read = c.as_mut_slice-words.result.now in
    let line = c.line_at-line.result.now in
    let to = c.variable_read-to.result in
    let gives = c.variable_read-to.ensures in
    let of = of-read p c.program.result.now old read c.unpack-control.result c.kind_at-kind.result.now c.state_at.result.now line c.program.ensures.same
    c.as_mut_slice-words.ensures.value c.unpack-control.ensures c.kind_at-kind.ensures c.state_at.ensures c.line_at-line.ensures in
    let past = past-read p old line to gives.0 (gives-past p old c.requires.read).1.task of gives.1 in
    let place : c.number_place-place.result ≡ number_place c.kind_at-kind.result.now.variables to
    = c.number_place-place.ensures ∙ ap (λ vs. number_place vs to) (of-kind p c.program.result.now c.unpack-control.result.kind c.kind_at-kind.result.now
    c.variables.result c.program.ensures.same c.kind_at-kind.ensures c.variables.ensures.same) in
    let set : List ℕ = slice_set read c.number_place-place.result c.args.number in
    let is_set : set ≡ slice_set old (number_place c.kind_at-kind.result.now.variables to) c.args.number
    = ap (λ l. slice_set l c.number_place-place.result c.args.number) c.as_mut_slice-words.ensures.value ∙ ap (λ k. slice_set old k c.args.number) place in
    (given-clauses p old line c.program.ensures.formed past of to gives.0 c.args.number gives.1 c.requires.frame set _ is_set
    (written-next old read set c.stand.new.words c.unpack-control.result c.as_mut_slice-words.ensures.value c.unpack-control.ensures
    (ap length is_set ∙ length-set old _ c.args.number) c.stand.ensures)).2
