use Rattle.step_table.proofs.shared.Shared.push_head.Goals as goal
use Rattle.std.proofs.Common.{ℕ, ◌∙◌, ◌≤◌, refl, sym, ap, subst, arith}
use Rattle.kt_words.specs.HeadWords.{length_of, packed_head}
use Rattle.table_core.specs.Addresses.{head, units_of}
use Rattle.table_core.specs.Sights.{IsLater}
use Rattle.table_core.specs.Views.{saw}
use Rattle.table_core.specs.WaitViews.{tried, joined_list}
use Rattle.table_core.proofs.ReferenceBound.{units-few}
use Rattle.schedule_rule.specs.LifeViews.{SawHeadOf}
use Rattle.step_table.proofs.ListStepping.{joins-value, open-small}
use Rattle.step_table.proofs.RecordStepping.{head-there}

pub pushed-new-requires-clause-room : goal.pushed-new-requires-clause-room
pushed-new-requires-clause-room c = open-small c.args.seen c.pack-old.result c.requires.may.fits c.pack-old.ensures.packed c.requires.may.opened

pub pushed-new-requires-clause-unit : goal.pushed-new-requires-clause-unit
pushed-new-requires-clause-unit c = omega (arith, units-few c.args.self.now.setup.plan, c.requires.may.at.near)

pub compare_exchange_as-found-requires-clause-word : goal.compare_exchange_as-found-requires-clause-word
compare_exchange_as-found-requires-clause-word c = record { place = c.own_word-word.ensures; there = head-there c.args.self.now.setup.plan c.args.future.now.unit c.requires.may.future.near; written = refl }

pub compare_exchange_as-found-requires-clause-rule : goal.compare_exchange_as-found-requires-clause-rule
compare_exchange_as-found-requires-clause-rule c =
    let pass = c.args.pass.now in
    joins-value c.args.self.now.setup pass.seat.id pass.seat.me.0 (omega (arith, pass.shares)) c.args.future.now.unit c.args.waiter.unit c.pack-old.result c.pushed-new.result c.args.seen c.requires.may c.pack-old.ensures.packed
    c.pushed-new.ensures

pub of-requires : goal.of-requires
of-requires c = c.compare_exchange_as-found.ensures.told.1

pub returns-then-found-old-clause-push : goal.returns-then-found-old-clause-push
returns-then-found-old-clause-push c =
    let e = c.if-found-old.true in
    c.compare_exchange_as-found.ensures.told.0.0 e ∙ ap (λ (n : ℕ). saw (head c.args.future.now.unit) n (joined_list c.args.waiter.unit c.args.pass.now.seat.me.0)) (e ∙ c.pack-old.ensures.packed)

pub returns-else-found-old-clause-push : goal.returns-else-found-old-clause-push
returns-else-found-old-clause-push c =
    let word = c.of.ensures.packed in let differs = c.if-found-old.false in let told = c.compare_exchange_as-found.ensures.told in let u = c.args.future.now.unit in
    record {
      back = refl;
      is_head = record { fits = word.0; few = λ opened. subst (λ (n : ℕ). length_of n ≤ units_of c.args.self.now.setup.plan) (sym word.1) (told.3 (λ closed. opened (word.1 ∙ closed))) };
      other = λ e. differs (sym word.1 ∙ ap packed_head e ∙ sym c.pack-old.ensures.packed);
      later = subst (λ (n : ℕ). IsLater n (packed_head c.of.result)) c.pack-old.ensures.packed (subst (IsLater c.pack-old.result) (sym word.1) told.2);
      tells = subst (λ (n : ℕ). SawHeadOf u (tried c.args.pass.now.seat.me.0) n c.compare_exchange_as-found.new.seat.me.0) (sym word.1) (told.0.1 differs);
    }
