use Rattle.step_table.proofs.shared.Shared.finish.Goals as goal
use Rattle.std.proofs.Common.{ℕ, ◌∙◌, refl, sym, ap, arith}
use Rattle.kt_words.specs.declared.phase.Phase.TheVariants.{Complete}
use Rattle.kt_words.specs.declared.state_word.StateWord.{StateWord}
use Rattle.kt_words.specs.StateWords.{tag_code}
use Rattle.table_core.specs.Addresses.{state}
use Rattle.table_core.specs.Views.{saw}
use Rattle.table_core.specs.WaitViews.{finished}
use Rattle.schedule_rule.specs.LifeViews.{ended}
use Rattle.step_table.specs.Endings.{outcome_of}
use Rattle.step_table.proofs.LookupFacts.{run-there}
use Rattle.step_table.proofs.ListStepping.{finishes-value, done-says}
use Rattle.step_table.proofs.RecordStepping.{state-there}

pub store_as-requires-clause-word : goal.store_as-requires-clause-word
store_as-requires-clause-word c = record { place = c.state_word-word.ensures; there = state-there c.args.self.now.setup.plan c.args.started.unit c.requires.may.at.is_block.inside; written = refl }

pub store_as-requires-clause-rule : goal.store_as-requires-clause-rule
store_as-requires-clause-rule c =
    let pass = c.args.pass.now in let may = c.requires.may in let started = c.args.started in
    let done : StateWord = record { phase = Complete; priority = 0; tag = c.tag-tag.result; number = started.number } in
    let says = done-says done c.pack.result (record { priority_fits = omega arith; number_fits = started.number_fits }) c.pack.ensures.packed refl in
    finishes-value c.args.self.now.setup pass.seat.id pass.seat.me.0 (omega (arith, pass.shares)) started.unit may.run may.at may.placed c.pack.result (outcome_of c.args.ending) (record {
      done = says.0;
      number = says.1 ∙ sym may.number_is;
      shape = c.pack.ensures.word;
      tag = says.2 ∙ ap tag_code c.tag-tag.ensures;
      knows = may.knows;
    })

pub returns-clause-done : goal.returns-clause-done
returns-clause-done c =
    let may = c.requires.may in let told = c.store_as.ensures.told may.run may.at.there in let u = c.args.started.unit in let old = c.args.pass.now.seat.me.0 in
    let has = run-there u old.runs may.run may.at.there in
    record {
      unit_is = refl;
      run = may.run;
      was = may.at;
      found = told.0;
      view_is = told.2 ∙ ap (λ (n : ℕ). saw (state u) told.0 (ended may.run.task (outcome_of c.args.ending) (finished u n old))) (sym (told.3 may.run has.0 has.1));
    }
