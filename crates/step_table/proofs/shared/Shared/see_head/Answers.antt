use Rattle.step_table.proofs.shared.Shared.see_head.Goals as goal
use Rattle.std.proofs.Common.{ℕ, ◌∙◌, ◌≤◌, sym, subst, refl}
use Rattle.kt_words.specs.HeadWords.{length_of}
use Rattle.table_core.specs.Addresses.{units_of}
use Rattle.schedule_rule.specs.LifeViews.{SawHeadOf}
use Rattle.schedule_rule.proofs.ListKindsJoin.{sees-head-at}
use Rattle.step_table.proofs.RecordStepping.{head-there}

pub load_as-found-requires-clause-word : goal.load_as-found-requires-clause-word
load_as-found-requires-clause-word c = record { place = c.own_word-word.ensures; there = head-there c.args.self.now.setup.plan c.args.future.now.unit c.requires.hand.near; written = refl }

pub load_as-found-requires-clause-rule : goal.load_as-found-requires-clause-rule
load_as-found-requires-clause-rule c =
    let seat = c.args.pass.now.seat in sees-head-at c.args.self.now.setup seat.id seat.me.0 c.args.future.now.unit c.requires.hand.there

pub of-requires : goal.of-requires
of-requires c = c.load_as-found.ensures.told.1

pub returns-clause-head : goal.returns-clause-head
returns-clause-head c =
    let u = c.args.future.now.unit in let word = c.of.ensures.packed in let told = c.load_as-found.ensures.told in
    record {
      is_head = record { fits = word.0; few = λ opened. subst (λ (n : ℕ). length_of n ≤ units_of c.args.self.now.setup.plan) (sym word.1) (told.2 (λ closed. opened (word.1 ∙ closed))) };
      tells = subst (λ (n : ℕ). SawHeadOf u c.args.pass.now.seat.me.0 n c.load_as-found.new.seat.me.0) (sym word.1) told.0;
    }
