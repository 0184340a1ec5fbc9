use Rattle.step_table.proofs.shared.Shared.more_root.Goals as goal
use Rattle.std.proofs.Common.{◌∙◌, ℕ, ◌<◌, List, refl, sym, subst, arith}
use Rattle.record_core.specs.Counting.{At}
use Rattle.table_core.specs.Addresses.{units_of}
use Rattle.table_core.specs.Holdings.{RootSays, Record}
use Rattle.schedule_rule.proofs.NamingKinds.{root-mores-at}
use Rattle.step_table.proofs.RecordStepping.{refs-there}
use Rattle.step_table.proofs.Naming.{one-record}

-- the unit that is kept is the root's record
its_record : (asked : List RootSays) (r u w n : ℕ) → At asked r (Record u) → At asked r (Record w) → w < n → u < n
its_record asked r u w n at at' near = subst (λ (x : ℕ). x < n) (sym (one-record u w (sym at ∙ at'))) near

pub unit_of-unit-requires : goal.unit_of-unit-requires
unit_of-unit-requires c = let root = c.requires.named in (root.unit, c.named.ensures root.asked root.has_turn ∙ root.there)

pub refs_word-word-requires : goal.refs_word-word-requires
refs_word-word-requires c =
    let root = c.requires.named in
    its_record root.asked c.args.root c.unit_of-unit.result root.unit (units_of c.args.self.now.setup.plan) (sym (c.named.ensures root.asked root.has_turn) ∙ c.unit_of-unit.ensures) root.there root.near

pub fetch_add_as-requires-clause-word : goal.fetch_add_as-requires-clause-word
fetch_add_as-requires-clause-word c =
    let root = c.requires.named in let g = c.args.self.now.setup.plan in
    record {
      place = c.refs_word-word.ensures;
      there = refs-there g c.unit_of-unit.result
          (its_record root.asked c.args.root c.unit_of-unit.result root.unit (units_of g) (sym (c.named.ensures root.asked root.has_turn) ∙ c.unit_of-unit.ensures) root.there root.near);
      written = refl;
    }

pub fetch_add_as-requires-clause-rule : goal.fetch_add_as-requires-clause-rule
fetch_add_as-requires-clause-rule c =
    let pass = c.args.pass.now in let root = c.requires.named in
    root-mores-at c.args.self.now.setup pass.seat.id pass.seat.me.0 root.asked root.has_turn c.args.root c.unit_of-unit.result c.requires.root
    (sym (c.named.ensures root.asked root.has_turn) ∙ c.unit_of-unit.ensures) (omega (arith, pass.shares)) (omega (arith, pass.counts, c.requires.room))

pub returns-clause-future : goal.returns-clause-future
returns-clause-future c = record {
  is_its = λ asked e. sym (c.named.ensures asked e) ∙ c.unit_of-unit.ensures;
  refers = record { unit_is = refl; found = c.fetch_add_as.result; view_is = c.fetch_add_as.ensures.told };
}
