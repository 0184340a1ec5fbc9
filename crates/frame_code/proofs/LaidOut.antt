-- The words of a task, laid out for its kind: what a number variable reads, and what setting it leaves.
use Rattle.std.proofs.Common.{◌≡◌, ◌≢◌, ℕ, ◌+◌, ◌<◌, ◌≤◌, List, length, slice_index, slice_set, sym, ◌∙◌, ap, arith}
use Rattle.std.proofs.lemmas.List.{get_or-set_same, get_or-set_other}
use Rattle.task_syntax.specs.declared.program.Sort.TheVariants.{Number}
use Rattle.task_syntax.specs.declared.program.Kind.{Kind}
use Rattle.task_syntax.specs.Places.{IsNumberAt}
use Rattle.task_meaning.specs.Frame.{set_number}
use Rattle.frame_code.specs.Words.{number_count, futures_from}
use Rattle.frame_code.specs.Layout.{number_place}
use Rattle.frame_code.specs.Line.{IsLaidOut, numbers_of, standing}
use Rattle.frame_code.proofs.Variables.{sort-within, places-at, length-places, count-most, count-before, number-reads, number-sets, futures-same}

module _ (kind : Kind) (x : ℕ) (number : IsNumberAt kind x) where
  -- the place of a number variable is after the control word, and before the futures
  pub place-low : 1 ≤ number_place kind.variables x
  place-low = omega arith

  pub place-high : number_place kind.variables x < 1 + number_count kind.variables
  place-high = omega (arith, count-before kind.variables x number)

  pub place-read : (words : List ℕ) → slice_index words (number_place kind.variables x) ≡ slice_index (numbers_of kind words) x
  place-read words = sym (number-reads (slice_index words) 1 kind.variables x number)

  pub set-at_place : (words : List ℕ) (n at : ℕ) → number_place kind.variables x < length words
      → standing kind (slice_set words (number_place kind.variables x) n) (at + 1) ≡ set_number (standing kind words at) x n
  set-at_place words n at within =
      let place : ℕ = number_place kind.variables x in
      let new : List ℕ = slice_set words place n in
      let other : (k : ℕ) → k ≢ place → slice_index new k ≡ slice_index words k = λ k h. get_or-set_other words place k n 0 h in
      let head : slice_index new 0 ≡ slice_index words 0 = other 0 (λ h. omega (arith, h)) in
      let numbers : numbers_of kind new ≡ slice_set (numbers_of kind words) x n
      = number-sets (slice_index words) (slice_index new) 1 kind.variables x n number (get_or-set_same words place n 0 within) other in
      let futures : futures_from (slice_index new) (1 + number_count kind.variables) kind.variables ≡ futures_from (slice_index words) (1 + number_count kind.variables) kind.variables
      = futures-same (slice_index words) (slice_index new) (1 + number_count kind.variables) kind.variables
      (λ k low. other k (λ h. omega (arith, h, low, place-high))) in
      cc

module _ (kind : Kind) (places words : List ℕ) (laid : IsLaidOut kind places words) (x : ℕ) (number : IsNumberAt kind x) where
  pub laid-known : x < length places
  laid-known = omega (arith, ap length laid.placed, length-places 1 kind.variables, sort-within kind.variables x Number number)

  pub laid-place : slice_index places x ≡ number_place kind.variables x
  laid-place = ap (λ ps. slice_index ps x) laid.placed ∙ places-at 1 kind.variables x (sort-within kind.variables x Number number)

  pub laid-within : slice_index places x < length words
  laid-within = omega (arith, laid-place, laid.size, place-high kind x number, count-most kind.variables)

  pub laid-reads : slice_index words (slice_index places x) ≡ slice_index (numbers_of kind words) x
  laid-reads = ap (slice_index words) laid-place ∙ place-read kind x number words

  pub laid-sets : (n at : ℕ) → standing kind (slice_set words (slice_index places x) n) (at + 1) ≡ set_number (standing kind words at) x n
  laid-sets n at = ap (λ (k : ℕ). standing kind (slice_set words k n) (at + 1)) laid-place
      ∙ set-at_place kind x number words n at (omega (arith, laid-place, laid-within))

  pub laid-head : (n : ℕ) → slice_index (slice_set words (slice_index places x) n) 0 ≡ slice_index words 0
  laid-head n = get_or-set_other words (slice_index places x) 0 n 0 (λ h. omega (arith, h, laid-place, place-low kind x number))
