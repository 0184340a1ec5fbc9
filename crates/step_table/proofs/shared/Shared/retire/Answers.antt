use Rattle.step_table.proofs.shared.Shared.retire.Goals as goal
use Rattle.std.proofs.Common.{◌≡◌, ℕ, ◌∙◌, false, refl, sym, ap, subst, arith}
use Rattle.record_core.specs.Counting.{Has}
use Rattle.kt_words.specs.SuperWords.{class_of}
use Rattle.table_core.specs.Addresses.{super, state}
use Rattle.table_core.specs.Holdings.{Block}
use Rattle.table_core.specs.Pool.{superblock_of, IsBlock}
use Rattle.table_core.specs.Views.{block, saw}
use Rattle.table_core.specs.RecordViews.{retired}
use Rattle.table_core.specs.declared.view.View.{View}
use Rattle.table_core.proofs.ClassFacts.{superblock_in}
use Rattle.schedule_rule.proofs.RetireKinds.{retires-at}
use Rattle.schedule_rule.proofs.SeeingKinds.{class-glances-at}
use Rattle.step_table.proofs.Stepping.{super-there}
use Rattle.step_table.proofs.RecordStepping.{state-there}

-- the class that the load tells is that of the block now in the hand
told_class : (u c n r : ℕ) (v w : View) → w ≡ saw (state u) n (retired u c v) → ((x : Block) → Has x w.blocks → x.unit ≡ u → class_of r ≡ x.class) → class_of r ≡ c
told_class u c n r v w e tells = tells (block u c false) (subst (λ (x : View). Has (block u c false) x.blocks) (sym e) (0, refl)) refl

pub store_as-requires-clause-word : goal.store_as-requires-clause-word
store_as-requires-clause-word c = record { place = c.state_word-word.ensures; there = state-there c.args.self.now.setup.plan c.args.retiring.unit c.requires.hand.near; written = refl }

pub store_as-requires-clause-rule : goal.store_as-requires-clause-rule
store_as-requires-clause-rule c =
    let pass = c.args.pass.now in
    retires-at c.args.self.now.setup pass.seat.id pass.seat.me.0 c.args.retiring.unit c.requires.hand.near c.requires.hand.there (omega (arith, pass.shares))

pub super_word-word-requires : goal.super_word-word-requires
super_word-word-requires c = superblock_in c.args.self.now.setup.plan c.args.retiring.unit c.requires.hand.near

pub load_as-found-requires-clause-word : goal.load_as-found-requires-clause-word
load_as-found-requires-clause-word c =
    let g = c.args.self.now.setup.plan in let u = c.args.retiring.unit in
    record { place = c.super_word-word.ensures; there = super-there g (superblock_of g u) (superblock_in g u c.requires.hand.near); written = refl }

pub load_as-found-requires-clause-rule : goal.load_as-found-requires-clause-rule
load_as-found-requires-clause-rule c = class-glances-at c.args.self.now.setup c.store_as.new.seat.id c.store_as.new.seat.me.0 c.args.retiring.unit c.requires.hand.near

pub of-requires : goal.of-requires
of-requires c = c.load_as-found.ensures.told.1

pub returns-clause-block : goal.returns-clause-block
returns-clause-block c =
    let u = c.args.retiring.unit in let v = c.args.pass.now.seat.me.0 in let told = c.store_as.ensures.told in let seen = c.load_as-found.ensures.told in
    let i = superblock_of c.args.self.now.setup.plan u in
    let class_is : c.of.result.class ≡ told.0 = c.of.ensures.numbers.class_is ∙ told_class u told.0 told.2.0 c.load_as-found.result v c.store_as.new.seat.me.0 told.2.1 seen.2 in
    record {
      is_block = subst (IsBlock c.args.self.now.setup.plan u) (sym class_is) told.1;
      block_is = refl;
      found = told.2.0;
      counted = c.load_as-found.result;
      view_is = seen.0 ∙ ap (λ (w : View). saw (super i) c.load_as-found.result w) (told.2.1 ∙ ap (λ (k : ℕ). saw (state u) told.2.0 (retired u k v)) (sym class_is));
    }

pub returns-clause-sound : goal.returns-clause-sound
returns-clause-sound c = record { before = c.store_as.ensures.sound.before; after = c.load_as-found.ensures.sound.after }
