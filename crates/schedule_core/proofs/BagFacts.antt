-- Where the references that a running frame names are spare, the frame may move: what is held there is among them.
use Rattle.std.proofs.Common.{◌≡◌, ◌∙◌, ℕ, suc, ◌+◌, ◌≤◌, Bool, true, false, cond, Option, Some, None, List, [], ◌∷◌, map, refl, sym, ap, arith}
use Rattle.std.specs.Prelude.{slice_index}
use Rattle.std.proofs.lemmas.Option.{none-some, same_Some}
use Rattle.record_core.specs.Sums.{total}
use Rattle.record_core.specs.Counting.{times, dropped}
use Rattle.task_syntax.specs.declared.program.Program.{Program}
use Rattle.frame_code.specs.Names.{named}
use Rattle.frame_code.specs.Ways.{BodyHasWay}
use Rattle.frame_code.specs.Words.{body_at}
use Rattle.table_core.specs.Holdings.{Run}
use Rattle.table_core.specs.Lists.{Each}
use Rattle.table_core.specs.WaitViews.{is_run_at}
use Rattle.table_core.proofs.ListFacts.{each-cons}
use Rattle.step_table.specs.Lookups.{run_in}
use Rattle.schedule_rule.specs.DrawViews.{changed}
use Rattle.schedule_rule.specs.Frames.{Covers, needed, BagSound}
use Rattle.schedule_rule.specs.LifeViews.{with_words}
use Rattle.schedule_rule.specs.PlacingViews.{less}
use Rattle.schedule_rule.proofs.PlacingFacts.{times-less}
use Rattle.schedule_rule.proofs.TakingFacts.{covering, IsCovering}

abbrev rest_of : {A : Type 0} → List A → List A
rest_of [] = []
rest_of (x ∷ xs) = xs

abbrev first_in : {A : Type 0} → List A → Option A
first_in [] = None
first_in (x ∷ xs) = Some x

-- a run with the variables that count of its frame
abbrev Pair : Type 0
Pair = Run × List ℕ

module _ (p : Program) (u : ℕ) (words variables : List ℕ) (differ : (y : Run) → Covers p (with_words words y) variables) where
  abbrev weight : ℕ → Pair → ℕ
  weight w x = times w (needed (body_at p (slice_index x.0.words)) x.1)

  -- the pairs of all runs, where those without the run at u are given
  pub record IsPutBack (runs : List Run) (pairs : List Pair) : Type 0 where
    pub all : List Pair
    pub are_runs : map (λ (x : Pair). x.0) all ≡ changed (is_run_at u) (with_words words) runs
    pub covers : Each (λ (x : Pair). Covers p x.0 x.1) all
    pub sums : (w : ℕ) → total (weight w) all ≡ times w (needed (body_at p (slice_index words)) variables) + total (weight w) pairs

  -- the run at u is put back at its place, with these words
  put-back : (runs : List Run) (r : Run) (pairs : List Pair) → run_in u runs ≡ Some r → map (λ (x : Pair). x.0) pairs ≡ dropped (is_run_at u) runs
      → Each (λ (x : Pair). Covers p x.0 x.1) pairs → IsPutBack runs pairs
  put-back [] r pairs found are covers = absurd (none-some r found)
  put-back (y ∷ runs) r pairs found are covers = by (is_run_at u y) refl pairs (λ zs. put-back runs r zs) found are covers
    where
      by : (b : Bool) → is_run_at u y ≡ b → (pairs' : List Pair)
          → ((zs : List Pair) → run_in u runs ≡ Some r → map (λ (x : Pair). x.0) zs ≡ dropped (is_run_at u) runs → Each (λ (x : Pair). Covers p x.0 x.1) zs → IsPutBack runs zs)
          → cond b (Some y) (run_in u runs) ≡ Some r → map (λ (x : Pair). x.0) pairs' ≡ cond b runs (y ∷ dropped (is_run_at u) runs)
          → Each (λ (x : Pair). Covers p x.0 x.1) pairs' → IsPutBack (y ∷ runs) pairs'
      by true e pairs' deeper here are' covers' = record {
        all = (with_words words y, variables) ∷ pairs';
        are_runs = ap (λ (l : List Run). with_words words y ∷ l) are' ∙ ap (λ (b : Bool). cond b (with_words words y ∷ runs) (y ∷ changed (is_run_at u) (with_words words) runs)) (sym e);
        covers = each-cons (λ (x : Pair). Covers p x.0 x.1) (with_words words y, variables) pairs' (differ y) covers';
        sums = λ w. refl;
      }
      by false e [] deeper later are' covers' = absurd (none-some y (ap first_in are'))
      by false e (z ∷ zs) deeper later are' covers' =
          let rest : IsPutBack runs zs = deeper zs later (ap rest_of are') (λ k x at. covers' (suc k) x at) in
          record {
            all = z ∷ rest.all;
            are_runs = ap (λ (l : List Run). z.0 ∷ l) rest.are_runs ∙ ap (λ (x : Run). x ∷ changed (is_run_at u) (with_words words) runs) (same_Some z.0 y (ap first_in are'))
                ∙ ap (λ (b : Bool). cond b (with_words words y ∷ runs) (y ∷ changed (is_run_at u) (with_words words) runs)) (sym e);
            covers = each-cons (λ (x : Pair). Covers p x.0 x.1) z rest.all (covers' 0 z refl) rest.covers;
            sums = λ w. omega (arith, rest.sums w);
          }

-- references that are enough for the runs beside the one at u, and those that its new frame names, are enough for all
pub bag-moved : (p : Program) (futures names words : List ℕ) (runs : List Run) (u : ℕ) (r : Run) → run_in u runs ≡ Some r → BodyHasWay p (body_at p (slice_index words))
    → ((w : ℕ) → times w (named p (slice_index words)) ≤ times w names) → ((w : ℕ) → times w names ≤ times w futures)
    → BagSound p (record { futures = less futures names; runs = dropped (is_run_at u) runs })
    → BagSound p (record { futures = futures; runs = changed (is_run_at u) (with_words words) runs })
bag-moved p futures names words runs u r found way fewer there was = record {
  pairs = back.all;
  are_runs = back.are_runs;
  covers = back.covers;
  enough = λ w. omega (arith, back.sums w, mine.1.few w, fewer w, was.enough w, times-less w futures names there);
}
  where
    mine : (variables : List ℕ) × IsCovering p (body_at p (slice_index words)) variables
    mine = covering p (body_at p (slice_index words)) way

    back : IsPutBack p u words mine.0 (λ y. (mine.1.differ, mine.1.held)) runs was.pairs
    back = put-back p u words mine.0 (λ y. (mine.1.differ, mine.1.held)) runs r was.pairs found was.are_runs was.covers
