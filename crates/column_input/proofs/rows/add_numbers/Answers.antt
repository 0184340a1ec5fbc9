use Rattle.std.proofs.Common.{length-set, arith, refl, ◌∙◌, sym}
use Rattle.csv.specs.Records.{fields_of}
use Rattle.column_input.proofs.Rowing.{a-number, no-number, numbers-bad, numbers-end, numbers-more, put-none, put-step}
use Rattle.column_input.proofs.rows.add_numbers.Goals as goal

pub fields-init : goal.fields-init
fields-init c = (refl, sym (put-none c.args.columns.now.items), refl)

pub returns-in_default-clause-checked : goal.returns-in_default-clause-checked
returns-in_default-clause-checked c =
    let no = no-number c.field_of.result.now _ c.number_of.result c.field_of.ensures c.number_of.ensures c.in_default.is in
    numbers-bad c.args.row (fields_of c.args.fields.now) c.fields.place _ (omega arith) no c.fields.invariant.2

pub fields-preserved : goal.fields-preserved
fields-preserved c =
    let number = a-number c.field_of.result.now _ c.number_of.result c.in-Some.number c.field_of.ensures c.number_of.ensures c.in-Some.is in
    let put = put-step c.args.columns.now.items c.fields.columns.items (fields_of c.args.fields.now) c.fields.place c.in-Some.number
    c.index_mut.result.now c.push.new.self (omega arith) c.requires.full c.fields.invariant.1 c.index_mut.ensures.value c.in_ok-push.ensures.ok number.1 in (
      length-set c.fields.columns.items c.fields.place c.push.new.self ∙ c.fields.invariant.0,
      put,
      numbers-more c.args.row (fields_of c.args.fields.now) c.fields.place _ (omega arith) number.0 c.fields.invariant.2,
    )

pub returns-clause-checked : goal.returns-clause-checked
returns-clause-checked c = numbers-end c.args.row (fields_of c.args.fields.now) c.fields.place _ (omega arith) c.fields.invariant.2
