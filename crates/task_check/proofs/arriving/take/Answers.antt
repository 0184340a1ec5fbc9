use Rattle.std.proofs.Common.{◌≡◌, Some, slice_get, length, refl, sym, ◌∙◌, ap}
use Rattle.std.proofs.lemmas.Option.{slice_get_read}
use Rattle.task_check.proofs.Passing.{takes, both-ok}
use Rattle.task_check.proofs.arriving.take.Goals as goal

pub returns : goal.returns
returns c =
    let xs = c.args.arriving.now.items in
    let stands : slice_get xs c.args.at ≡ Some c.take-here.result =
    slice_get_read xs (length xs) c.args.at c.index_mut-slot.result.now refl c.requires.within c.index_mut-slot.ensures.value ∙ ap (λ o. Some o) (sym c.take-here.ensures.value) in
    both-ok _ _ _ _ (λ k known none. takes c.args.variables c.args.at xs c.take-here.result c.take-here.new.self k c.take-here.ensures.after stands c.requires.sized known none) c.or_nothing.ensures.known c.or_nothing.ensures.none
