use Rattle.std.proofs.Common.{◌≡◌, ◌+◌, drop, slice_index, sym, ◌∙◌, ap}
use Rattle.std.specs.List.{filter_map}
use Rattle.frame_code.specs.Control.{control_kind}
use Rattle.frame_code.specs.Words.{unit_named, variables_at, number_count}
use Rattle.frame_code.proofs.NamedUnits.{slice-to_end, group-names, task-names}
use Rattle.frame_code.proofs.naming.naming_words.Goals as goal

pub returns-then-is_aggregate : goal.returns-then-is_aggregate
returns-then-is_aggregate c =
    let group = sym c.is_aggregate.ensures ∙ c.if-is_aggregate.true in
    ap (filter_map unit_named) (slice-to_end 1 c.as_slice-words.result.now)
    ∙ (ap (λ l. filter_map unit_named (drop 1 l)) c.as_slice-words.ensures.value ∙ group-names c.args.checked.now c.args.frame.now.items c.requires group)

pub returns : goal.returns
returns c =
    let p = c.args.checked.now in
    let words = c.args.frame.now.items in
    let task = sym c.is_aggregate.ensures ∙ c.if-is_aggregate.false in
    let numbers : c.numbers-numbers.result ≡ number_count (variables_at p (control_kind (slice_index words 0)))
    = c.numbers-numbers.ensures.count ∙ (ap number_count c.variables_of.ensures.same
    ∙ ap (λ l. number_count (variables_at p (control_kind (slice_index l 0)))) c.as_slice-words.ensures.value) in
    ap (filter_map unit_named) (slice-to_end (1 + c.numbers-numbers.result) c.as_slice-words.result.now)
    ∙ (ap (λ l. filter_map unit_named (drop (1 + c.numbers-numbers.result) l)) c.as_slice-words.ensures.value
    ∙ (ap (λ n. filter_map unit_named (drop (1 + n) words)) numbers ∙ task-names p words c.requires task))
