-- Roots are asked for one after the other.
use Rattle.std.proofs.Common.{◌≡◌, ◌∙◌, ℕ, zero, suc, ◌+◌, ◌<◌, Some, List, [], ◌∷◌, ◌++◌, length, sym, ap, subst, arith}
use Rattle.std.specs.Prelude.{slice_get}
use Rattle.std.proofs.lemmas.List.{length-append}
use Rattle.record_core.specs.Counting.{At}
use Rattle.record_core.proofs.TotalFacts.{none_there}
use Rattle.task_syntax.specs.declared.program.Program.{Program}
use Rattle.task_syntax.specs.declared.program.Root.{Root as RootLine}
use Rattle.frame_code.proofs.HeldActs.{item-within}
use Rattle.table_core.specs.Addresses.{units_of}
use Rattle.table_core.specs.Holdings.{RootSays, Record, Null, Limit, Skipped}
use Rattle.table_core.specs.RecordViews.{turned}
use Rattle.table_core.specs.declared.setup.Setup.{Setup}
use Rattle.table_core.specs.declared.view.View.{View}
use Rattle.table_core.proofs.ListFacts.{same_some}
use Rattle.step_table.specs.Passes.{view, IsSame}
use Rattle.step_table.specs.declared.pass.Pass.{Pass}
use Rattle.schedule_core.specs.Hosting.{HostSpawns, Hosts, IsNextRoot, MayHostSpawn}
use Rattle.schedule_core.specs.declared.answers.HostSpawned.{HostSpawned}
use Rattle.schedule_core.specs.declared.answers.HostSpawned.TheVariants as hosted
use Rattle.schedule_rows.specs.Asked.{HasAsked}

module _ (g : Setup) (n : ℕ) (v : View) (all : g.plan.roots ≡ length g.checked.roots) (low : n < length g.checked.roots) (has : HasAsked g n v) where
  line-there : (line : RootLine) × (slice_get g.checked.roots n ≡ Some line)
  line-there = item-within g.checked.roots n low

  next-root : IsNextRoot g n line-there.0 has.asked v
  next-root = record {
    has_turn = has.has_turn;
    is_next = has.count;
    inside = subst (λ (k : ℕ). n < k) (sym all) low;
    is_line = line-there.1;
    undrawn = has.undrawn;
    near = has.near;
  }

  -- the next one may be asked for
  pub may-host : MayHostSpawn g n v
  may-host = (line-there.0, has.asked, next-root)

  -- a record at the end of the turn
  near-on : (said : RootSays) → ((u : ℕ) → said ≡ Record u → u < units_of g.plan) → (r u : ℕ) → At (has.asked ++ said ∷ []) r (Record u) → u < units_of g.plan
  near-on said near r u at = by has.asked r at (λ k w there. has.near k w there)
    where
      by : (l : List RootSays) (k : ℕ) → At (l ++ said ∷ []) k (Record u) → ((j w : ℕ) → At l j (Record w) → w < units_of g.plan) → u < units_of g.plan
      by [] zero here old = near u (same_some said (Record u) here)
      by [] (suc k) here old = absurd (none_there (Record u) here)
      by (x ∷ l) zero here old = old 0 u here
      by (x ∷ l) (suc k) here old = by l k here (λ j w there. old (suc j) w there)

  -- one root more is asked for
  one-more : (said : RootSays) (w : View) → ((u : ℕ) → said ≡ Record u → u < units_of g.plan) → w.turn ≡ turned said v.turn → w.root_task ≡ 0 → HasAsked g (n + 1) w
  one-more said w near turn drawn = record {
    asked = has.asked ++ said ∷ [];
    has_turn = turn ∙ ap (turned said) has.has_turn;
    count = omega (arith, has.count, length-append has.asked (said ∷ []));
    undrawn = drawn;
    near = near-on said near;
  }

  pub asked-more : (told : HostSpawned) (w : View) → HostSpawns g n v told w → HasAsked g (n + 1) w
  asked-more told w hosts = by told (hosts line-there.0 has.asked next-root)
    where
      unit_of : RootSays → ℕ
      unit_of (Record u) = u
      unit_of said = 0

      is_record : RootSays → ℕ
      is_record (Record u) = 1
      is_record said = 0

      by : (told' : HostSpawned) → Hosts g n line-there.0 has.asked v told' w → HasAsked g (n + 1) w
      by (hosted.Named entry) is = one-more (Record is.unit) w (λ u e. subst (λ (k : ℕ). k < units_of g.plan) (ap unit_of e) is.is_block.inside) (ap (λ (y : View). y.turn) is.view_is) (ap (λ (y : View). y.root_task) is.view_is)
      by hosted.Null is = one-more Null w (λ u e. absurd (omega (arith, ap is_record e))) (ap (λ (y : View). y.turn) is.1.view_is) (ap (λ (y : View). y.root_task) is.1.view_is)
      by hosted.Over is = one-more Limit w (λ u e. absurd (omega (arith, ap is_record e))) (ap (λ (y : View). y.turn) is.1.view_is) (ap (λ (y : View). y.root_task) is.1.view_is)
      by (hosted.Skipped j) is = one-more (Skipped j) w (λ u e. absurd (omega (arith, ap is_record e))) (ap (λ (y : View). y.turn) is.view_is) (ap (λ (y : View). y.root_task) is.view_is)

-- so many roots are asked for, and the pass counts its references as before
pub record IsAsking (g : Setup) (n : ℕ) (old now : Pass) : Type 0 where
  pub has : HasAsked g n (view now)
  pub same : IsSame old now

-- the number of roots, as the program that is read has them
pub low-roots : (g : Setup) (p q : Program) (shown : List RootLine) (n : ℕ) → shown ≡ q.roots → q ≡ p → p ≡ g.checked → n < length shown → n < length g.checked.roots
low-roots g p q shown n shown_is q_is p_is low = omega (arith, low, ap length shown_is, ap (λ (x : Program). length x.roots) q_is, ap (λ (x : Program). length x.roots) p_is)

pub asking-on : (g : Setup) (n : ℕ) (old now new : Pass) (all : g.plan.roots ≡ length g.checked.roots) (low : n < length g.checked.roots) (told : HostSpawned) → IsAsking g n old now → IsSame now new → HostSpawns g n (view now) told (view new) → IsAsking g (n + 1) old new
asking-on g n old now new all low told so same hosts = record {
  has = asked-more g n (view now) all low so.has told (view new) hosts;
  same = record {
    table = same.table ∙ so.same.table;
    id = same.id ∙ so.same.id;
    splits = same.splits ∙ so.same.splits;
    number = same.number ∙ so.same.number;
    held_is = same.held_is ∙ so.same.held_is;
  };
}
