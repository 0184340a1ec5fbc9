use Rattle.step_table.proofs.shared.Shared.reserve.Goals as goal
use Rattle.std.proofs.Common.{ℕ, ◌∙◌, refl, sym, ap, arith}
use Rattle.kt_words.specs.SuperWords.{packed_super, reserved_word}
use Rattle.table_core.specs.declared.view.View.{View}
use Rattle.table_core.specs.Addresses.{super}
use Rattle.table_core.specs.Views.{place, saw, reserved}
use Rattle.schedule_rule.proofs.PoolKinds.{reserves-at}
use Rattle.step_table.proofs.Stepping.{super-there, takes-one}

pub compare_exchange_as-found-requires-clause-word : goal.compare_exchange_as-found-requires-clause-word
compare_exchange_as-found-requires-clause-word c = record { place = c.super_word-word.ensures; there = super-there c.args.self.now.setup.plan c.args.superblock c.requires.superblock; written = refl }

pub compare_exchange_as-found-requires-clause-rule : goal.compare_exchange_as-found-requires-clause-rule
compare_exchange_as-found-requires-clause-rule c =
    let takes = takes-one c.args.self.now.setup.plan c.args.seen c.args.class c.pack-old.result c.requires.seen c.requires.room c.pack-old.ensures.packed in
    reserves-at c.args.self.now.setup c.args.pass.now.seat.id c.args.pass.now.seat.me.0 c.args.superblock c.args.class c.pack-old.result c.pack-new.result c.requires.superblock c.requires.class
    (omega (arith, c.args.pass.now.shares)) takes.0 takes.1 (c.pack-new.ensures.packed ∙ c.reserved.ensures.packed ∙ ap (λ (n : ℕ). reserved_word n c.args.class) (sym c.pack-old.ensures.packed))

pub of-requires : goal.of-requires
of-requires c = c.compare_exchange_as-found.ensures.told.1

pub returns-then-found-old-clause-ok : goal.returns-then-found-old-clause-ok
returns-then-found-old-clause-ok c =
    let won : View = reserved (place c.args.superblock c.args.class) c.args.pass.now.seat.me.0 in
    let e = c.if-found-old.true in
    record { place_is = refl; view_is = c.compare_exchange_as-found.ensures.told.0.0 e ∙ ap (λ (n : ℕ). saw (super c.args.superblock) n won) (e ∙ c.pack-old.ensures.packed); start_is = refl }

pub returns-else-found-old-clause-err : goal.returns-else-found-old-clause-err
returns-else-found-old-clause-err c =
    let word = c.of.ensures.packed in let differs = c.if-found-old.false in
    record {
      fits = word.0;
      other = λ e. differs (sym word.1 ∙ ap packed_super e ∙ sym c.pack-old.ensures.packed);
      view_is = c.compare_exchange_as-found.ensures.told.0.1 differs ∙ ap (λ (n : ℕ). saw (super c.args.superblock) n c.args.pass.now.seat.me.0) (sym word.1);
    }
