-- Where the words of records lie in the table, and which of them are a pass's own.
use Rattle.std.proofs.Common.{◌≡◌, inl, inr, ℕ, suc, ◌+◌, ◌*◌, ◌<◌, ◌≤◌, true, refl, sym, subst, mul-le-mul_right, suc-mul, arith}
use Rattle.std.proofs.lemmas.Bool.{eq-eqb, lt-ltb, le-leb, and_from}
use Rattle.kt_words.specs.declared.plan.Plan.{Plan}
use Rattle.kt_words.specs.Capacity.{block_units}
use Rattle.kt_words.proofs.GeometryFacts.{blocks_end_inside}
use Rattle.table_core.specs.Addresses.{state, refs, head, next, task, outcome, root, journal, sum, frame, is_there, units_of}
use Rattle.table_core.specs.Pool.{superblock_of, bit_of, IsBlock}
use Rattle.table_core.specs.Holdings.{Made, Run}
use Rattle.table_core.specs.Own.{is_inside, is_word_of, is_result_of, is_own}
use Rattle.table_core.specs.Views.{saw}
use Rattle.table_core.specs.RecordViews.{unmade}
use Rattle.table_core.specs.declared.setup.Setup.{Setup}
use Rattle.table_core.specs.declared.view.View.{View}
use Rattle.table_core.proofs.AddressFacts.{there_from}
use Rattle.table_core.proofs.PoolFacts.{superblock_near, bit_below}
use Rattle.table_core.proofs.Owners.{is_filled}
use Rattle.table_core.proofs.RecordWords.{or-left, or-right, has-any}
use Rattle.schedule_rule.specs.Parts.{Keeps, is_written}
use Rattle.schedule_rule.proofs.RecordKinds.{unmakes-at}
use Rattle.step_table.proofs.LookupFacts.{made-there, run-there}
use Rattle.step_table.specs.declared.record_tokens.OwnWord.{OwnWord}
use Rattle.step_table.specs.declared.record_tokens.OwnWord.TheVariants as own_word
use Rattle.step_table.specs.RecordHands.{MayUnmake, word_of_record, OwnAt, FillsMade, FillsRun, MayFill, ReadsWord, IsOwnRecord, MayRead}

module _ (g : Plan) where
  pub state-there : (u : ℕ) → u < units_of g → is_there g (state u) ≡ true
  state-there u near = there_from g (state u) near (omega arith)

  pub refs-there : (u : ℕ) → u < units_of g → is_there g (refs u) ≡ true
  refs-there u near = there_from g (refs u) near (omega arith)

  pub head-there : (u : ℕ) → u < units_of g → is_there g (head u) ≡ true
  head-there u near = there_from g (head u) near (omega arith)

  pub next-there : (u : ℕ) → u < units_of g → is_there g (next u) ≡ true
  next-there u near = there_from g (next u) near (omega arith)

  pub task-there : (u : ℕ) → u < units_of g → is_there g (task u) ≡ true
  task-there u near = there_from g (task u) near (omega arith)

  pub outcome-there : (u : ℕ) → u < units_of g → is_there g (outcome u) ≡ true
  outcome-there u near = there_from g (outcome u) near (omega arith)

  pub journal-there : (n j : ℕ) → n ≤ g.limit → j < 5 → is_there g (journal n j) ≡ true
  journal-there n j few column = there_from g (journal n j) (omega (arith, few)) (omega (arith, column))

  pub sum-there : (k : ℕ) → k < 6 → is_there g (sum k) ≡ true
  sum-there k few = there_from g (sum k) (omega (arith, few)) (omega arith)

  pub root-there : (r : ℕ) → r < 16 → is_there g (root r) ≡ true
  root-there r near = there_from g (root r) near (omega arith)

  pub own-there : (u : ℕ) (word : OwnWord) → OwnAt g u word → is_there g (word_of_record word u) ≡ true
  own-there u (own_word.Frame j) at = there_from g (frame u j) at.1 (omega arith)
  own-there u own_word.Next at = there_from g (next u) at (omega arith)
  own-there u own_word.Task at = there_from g (task u) at (omega arith)
  own-there u own_word.Result at = there_from g (outcome u) at (omega arith)
  own-there u own_word.References at = there_from g (refs u) at (omega arith)
  own-there u own_word.Head at = there_from g (head u) at (omega arith)

  -- steps write each word of a record
  pub own-written : (word : OwnWord) (u : ℕ) → is_written (word_of_record word u) ≡ true
  own-written (own_word.Frame j) u = refl
  own-written own_word.Next u = refl
  own-written own_word.Task u = refl
  own-written own_word.Result u = refl
  own-written own_word.References u = refl
  own-written own_word.Head u = refl

  -- a block ends inside the table
  block-inside : (u c : ℕ) → IsBlock g u c → u + block_units c ≤ units_of g
  block-inside u c is =
      let up_to : suc (superblock_of g u) * g.geometry.units ≤ g.geometry.superblocks * g.geometry.units = mul-le-mul_right g.geometry.units (omega (arith, superblock_near g u c is)) in
      omega (arith, is.at_its_place, up_to, suc-mul (superblock_of g u) g.geometry.units, blocks_end_inside g.geometry c (bit_of g u c) is.class_fits (bit_below g u c is))

  -- a word of a record whose frame has so many units
  at-word : (u units : ℕ) (word : OwnWord) → u + units ≤ units_of g → u < units_of g → ReadsWord units word → OwnAt g u word
  at-word u units (own_word.Frame j) ends near low = (near, omega (arith, ends, low))
  at-word u units own_word.Next ends near low = near
  at-word u units own_word.Task ends near low = near
  at-word u units own_word.Result ends near low = near
  at-word u units own_word.References ends near low = near
  at-word u units own_word.Head ends near low = near

  made-reads : (c : ℕ) (word : OwnWord) → FillsMade c word → ReadsWord (block_units c) word
  made-reads c (own_word.Frame j) low = low
  made-reads c own_word.Next no_one = tt
  made-reads c own_word.Task low = tt
  made-reads c own_word.Result low = tt
  made-reads c own_word.References low = tt
  made-reads c own_word.Head low = tt

  run-reads : (c : ℕ) (word : OwnWord) → FillsRun c word → ReadsWord (block_units c) word
  run-reads c (own_word.Frame j) low = low
  run-reads c own_word.Next no_one = tt
  run-reads c own_word.Task no_one = tt
  run-reads c own_word.Result low = tt
  run-reads c own_word.References no_one = tt
  run-reads c own_word.Head no_one = tt

  -- what may be filled is in the table, and the pass's own, and a word that is filled
  pub fill-at : (u : ℕ) (word : OwnWord) (v : View) → MayFill g u word v → OwnAt g u word
  fill-at u word v (inl t) = let has = t.1 in at-word u (block_units (t.0).class) word (block-inside u (t.0).class has.is_block) has.is_block.inside (made-reads (t.0).class word t.2)
  fill-at u word v (inr t) = let has = t.1 in at-word u (block_units (t.0).class) word (block-inside u (t.0).class has.is_block) has.is_block.inside (run-reads (t.0).class word t.2)

  in-frame : (u x units j : ℕ) → x ≡ u → j < 8 * units → is_inside x units (8 * u + j) ≡ true
  in-frame u x units j e low = and_from _ _ (le-leb (8 * x) (8 * u + j) (omega (arith, e))) (lt-ltb (8 * u + j) (8 * (x + units)) (omega (arith, e, low)))

  made-word : (u x c : ℕ) (word : OwnWord) → x ≡ u → FillsMade c word → is_word_of x (block_units c) (word_of_record word u) ≡ true
  made-word u x c (own_word.Frame j) e low = in-frame u x (block_units c) j e low
  made-word u x c own_word.Next e no_one = eq-eqb u x (sym e)
  made-word u x c own_word.Task e low = eq-eqb u x (sym e)
  made-word u x c own_word.Result e low = eq-eqb u x (sym e)
  made-word u x c own_word.References e low = eq-eqb u x (sym e)
  made-word u x c own_word.Head e low = eq-eqb u x (sym e)

  run-word : (u x c : ℕ) (word : OwnWord) → x ≡ u → FillsRun c word → is_result_of x (block_units c) (word_of_record word u) ≡ true
  run-word u x c (own_word.Frame j) e low = in-frame u x (block_units c) j e low
  run-word u x c own_word.Next e no_one = absurd no_one
  run-word u x c own_word.Task e no_one = absurd no_one
  run-word u x c own_word.Result e low = eq-eqb u x (sym e)
  run-word u x c own_word.References e no_one = absurd no_one
  run-word u x c own_word.Head e no_one = absurd no_one

  pub fill-own : (u : ℕ) (word : OwnWord) (v : View) → MayFill g u word v → is_own v.made v.runs (word_of_record word u) ≡ true
  fill-own u word v (inl t) =
      let has = made-there u v.made t.0 (t.1).there in
      or-left _ _ (has-any (λ (r : Made). is_word_of r.unit (block_units r.class) (word_of_record word u)) v.made t.0 has.0 (made-word u (t.0).unit (t.0).class word has.1 t.2))
  fill-own u word v (inr t) =
      let has = run-there u v.runs t.0 (t.1).there in
      or-right _ _ (has-any (λ (r : Run). is_result_of r.unit (block_units r.class) (word_of_record word u)) v.runs t.0 has.0 (run-word u (t.0).unit (t.0).class word has.1 t.2))

  filled-made : (c u : ℕ) (word : OwnWord) → FillsMade c word → is_filled (word_of_record word u) ≡ true
  filled-made c u (own_word.Frame j) low = refl
  filled-made c u own_word.Next no_one = absurd no_one
  filled-made c u own_word.Task low = refl
  filled-made c u own_word.Result low = refl
  filled-made c u own_word.References low = refl
  filled-made c u own_word.Head low = refl

  filled-run : (c u : ℕ) (word : OwnWord) → FillsRun c word → is_filled (word_of_record word u) ≡ true
  filled-run c u (own_word.Frame j) low = refl
  filled-run c u own_word.Next no_one = absurd no_one
  filled-run c u own_word.Task no_one = absurd no_one
  filled-run c u own_word.Result low = refl
  filled-run c u own_word.References no_one = absurd no_one
  filled-run c u own_word.Head no_one = absurd no_one

  pub fill-filled : (u : ℕ) (word : OwnWord) (v : View) → MayFill g u word v → is_filled (word_of_record word u) ≡ true
  fill-filled u word v (inl t) = filled-made (t.0).class u word t.2
  fill-filled u word v (inr t) = filled-run (t.0).class u word t.2

  -- what may be read is in the table
  pub read-at : (u : ℕ) (word : OwnWord) (v : View) → MayRead g u word v → OwnAt g u word
  read-at u word v may = by may.1
    where
      by : IsOwnRecord g u v may.0 → OwnAt g u word
      by (inl t) = at-word u may.0 word (omega (arith, t.2, block-inside u (t.0).class (t.1).is_block)) (t.1).is_block.inside may.2
      by (inr (inl t)) = at-word u may.0 word (omega (arith, t.2, block-inside u (t.0).class (t.1).is_block)) (t.1).is_block.inside may.2
      by (inr (inr (inl t))) = at-word u may.0 word (omega (arith, t.2, (t.1).near)) (t.1).near may.2
      by (inr (inr (inr t))) = at-word u may.0 word (omega (arith, t.2, (t.1).near)) (t.1).near may.2

-- a record that is made, by the unit and the class of the value that names it
pub unmakes-value : (g : Setup) (id : ℕ) (v : View) (u c : ℕ) → MayUnmake g.plan u c v → 1 ≤ v.parts
    → Keeps g id v (state u) (λ n. 0) (λ k w. (n : ℕ) × (w ≡ saw (state u) n (unmade u c v)))
unmakes-value g id v u c may in_use =
    let r : Made = may.made in let has = made-there u v.made r may.at.there in
    subst (λ (x : ℕ). Keeps g id v (state x) (λ n. 0) (λ k w. (n : ℕ) × (w ≡ saw (state x) n (unmade x c v)))) has.1
    (subst (λ (d : ℕ). Keeps g id v (state r.unit) (λ n. 0) (λ k w. (n : ℕ) × (w ≡ saw (state r.unit) n (unmade r.unit d v)))) may.class_is (unmakes-at g id v r has.0 may.no_number may.not_live in_use))
