use Rattle.std.proofs.Common.{◌≡◌, ℕ, ◌≤◌}
use Rattle.record_core.specs.Counting.{Has}
use Rattle.kt_words.specs.SuperWords.{class_of}
use Rattle.table_core.specs.Addresses.{super, state}
use Rattle.table_core.specs.Holdings.{Block}
use Rattle.table_core.specs.Pool.{superblock_of, IsBlock}
use Rattle.table_core.specs.Views.{saw}
use Rattle.table_core.specs.RecordViews.{retired}
use Rattle.step_table.proofs.shared.Shared.retire.Given as goal

abbrev pub ghosts-store_as : goal.ghosts-store_as
ghosts-store_as a =
    let u = a._about.now.unit in let g = a.self.now.setup.plan in
    record { at = state u; told = λ r w. (c : ℕ) × IsBlock g u c × ((n : ℕ) × (w ≡ saw (state u) n (retired u c a.seat.now.me.0))) }

abbrev pub ghosts-load_as : goal.ghosts-load_as
ghosts-load_as a =
    let u = a._about.now.unit in let i = superblock_of a.self.now.setup.plan u in let v = a.seat.now.me.0 in
    record { at = super i; told = λ r w. (w ≡ saw (super i) r v) × (class_of r ≤ 3) × ((x : Block) → Has x v.blocks → x.unit ≡ u → class_of r ≡ x.class) }
