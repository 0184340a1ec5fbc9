use Rattle.step_table.proofs.shared.Shared.claim.Goals as goal
use Rattle.std.proofs.Common.{◌≡◌, ◌≢◌, ℕ, ◌+◌, ◌*◌, ◌%◌, ◌^◌, ◌≤◌, ◌∙◌, true, refl, arith}
use Rattle.std.specs.Int.{bit_at}
use Rattle.std.proofs.lemmas.Nat.Bits.{shr_and_one}
use Rattle.table_core.specs.Pool.{unit_of}
use Rattle.table_core.specs.Views.{block}
use Rattle.table_core.proofs.PoolFacts.{first_below}
use Rattle.schedule_rule.proofs.PoolKinds.{claims-at}
use Rattle.step_table.proofs.Stepping.{bits-there, cap-units}

one_left : (b : ℕ) → b ≤ 1 → b ≢ 0 → b ≡ 1
one_left b few some = omega arith

pub fetch_or_as-found-requires-clause-word : goal.fetch_or_as-found-requires-clause-word
fetch_or_as-found-requires-clause-word c =
    let g = c.args.self.now.setup.plan in
    record { place = c.bit_word-word.ensures; there = bits-there g c.args.reserved.superblock c.args.bit c.requires.hand.superblock (omega (arith, c.requires.bit, cap-units g c.args.reserved.class)); written = refl }

pub fetch_or_as-found-requires-clause-rule : goal.fetch_or_as-found-requires-clause-rule
fetch_or_as-found-requires-clause-rule c = claims-at c.args.self.now.setup c.args.pass.now.seat.id c.args.pass.now.seat.me.0 c.args.reserved.superblock c.args.reserved.class c.args.bit
    c.requires.hand.superblock c.requires.hand.class c.requires.bit (omega (arith, c.args.pass.now.shares)) c.requires.hand.there

pub returns-then-clear-clause-ok : goal.returns-then-clear-clause-ok
returns-then-clear-clause-ok c =
    let g = c.args.self.now.setup.plan in let r = c.args.reserved in let found = c.fetch_or_as-found.result in
    let unit : r.superblock * g.geometry.units + c.args.bit * 2 ^ r.class % 4294967296 ≡ unit_of g r.superblock r.class c.args.bit =
    omega (arith, first_below g r.class c.args.bit c.requires.hand.class c.requires.bit, g.geometry.units_fit) in
    let clear : bit_at found (c.args.bit % 64) ≡ 0 = omega (arith, shr_and_one found (c.args.bit % 64), c.if-clear.true) in
    record { block_is = λ k. block (unit k) r.class true; found = found; clear = clear; view_is = c.fetch_or_as-found.ensures.told.0 clear }

pub returns-else-clear-clause-err : goal.returns-else-clear-clause-err
returns-else-clear-clause-err c =
    let found = c.fetch_or_as-found.result in let other = c.if-clear.false in
    let set : bit_at found (c.args.bit % 64) ≡ 1 = one_left (bit_at found (c.args.bit % 64)) (omega arith) (λ e. other (shr_and_one found (c.args.bit % 64) ∙ e)) in
    record { back = refl; set = set; view_is = c.fetch_or_as-found.ensures.told.1 set }
