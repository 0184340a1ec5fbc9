use Rattle.step_table.proofs.shared.Shared.swap_head.Goals as goal
use Rattle.std.proofs.Common.{◌∙◌, refl, ap, arith}
use Rattle.table_core.specs.declared.view.View.{View}
use Rattle.step_table.proofs.ListStepping.{closes-value, chain-stands}
use Rattle.step_table.proofs.RecordStepping.{head-there}

pub swap_as-head-requires-clause-word : goal.swap_as-head-requires-clause-word
swap_as-head-requires-clause-word c = record { place = c.own_word-word.ensures; there = head-there c.args.self.now.setup.plan c.args.finishing.unit (c.requires.hand.1).near; written = refl }

pub swap_as-head-requires-clause-rule : goal.swap_as-head-requires-clause-rule
swap_as-head-requires-clause-rule c =
    let pass = c.args.pass.now in let hand = c.requires.hand in
    closes-value c.args.self.now.setup pass.seat.id pass.seat.me.0 (omega (arith, pass.shares)) c.args.finishing.unit hand.0 hand.1 hand.2 c.pack-closed.result c.pack-closed.ensures.packed

pub chain_of-taken-requires-clause-word : goal.chain_of-taken-requires-clause-word
chain_of-taken-requires-clause-word c = c.swap_as-head.ensures.told.2.is_head

pub chain_of-taken-requires-clause-opened : goal.chain_of-taken-requires-clause-opened
chain_of-taken-requires-clause-opened c = c.swap_as-head.ensures.told.2.unclosed

pub returns-clause-chain : goal.returns-clause-chain
returns-clause-chain c =
    let told = c.swap_as-head.ensures.told in let taken = told.2 in
    record {
      same = refl;
      members = told.0;
      word = c.swap_as-head.result;
      unclosed = taken.unclosed;
      link_is = taken.link_is;
      length_is = taken.length_is;
      has = record {
        there = chain-stands told.0 c.args.pass.now.seat.me.0.chains _ (ap (λ (v : View). v.chains) told.1);
        first_is = c.chain_of-taken.ensures.first ∙ taken.link_is;
        length_is = c.chain_of-taken.ensures.length ∙ taken.length_is;
        near = taken.near;
      };
      view_is = told.1;
    }
