-- Where a run is over, the blocks in use are those of the roots.
use Rattle.std.proofs.Common.{◌≡◌, ℕ, zero, suc, ◌+◌, ◌<◌, ◌≤◌, Bool, true, false, cond, nat_eq, ◌||◌, Option, Some, None, List, [], ◌∷◌, length, map, slice_get, refl, sym, ◌∙◌, ap, arith, eq-eqb}
use Rattle.std.specs.List.{list_any}
use Rattle.std.proofs.lemmas.Bool.{false≢true, ne_eqb}
use Rattle.std.proofs.lemmas.Option.{none-some, same_Some}
use Rattle.task_syntax.specs.declared.program.Root.{Root as RootLine}
use Rattle.task_syntax.specs.declared.program.Program.{Program}
use Rattle.pool_core.specs.Blocks.{BlockState}
use Rattle.record_core.specs.Numbers.{flat, found}
use Rattle.record_core.specs.EndSound.{kind_class, own_of_class}
use Rattle.run_model.specs.State.{Body, RootWord, Named, Refused, Skipped}
use Rattle.run_model.specs.Step.{own_task}
use Rattle.run_model.specs.Placing.{is_open, task_names, root_names, is_in_use, used_from}
use Rattle.run_model.specs.End.{held_of}
use Rattle.run_model.proofs.UsedFacts.{any_true, root_named_so}

-- the blocks of the numbers that pass a test
abbrev picked : (ℕ → Bool) → ℕ → List (Option BlockState) → List BlockState
picked test t [] = []
picked test t (None ∷ more) = picked test (suc t) more
picked test t (Some block ∷ more) = cond (test t) (block ∷ picked test (suc t) more) (picked test (suc t) more)

abbrev of_class : ℕ → BlockState → ℕ
of_class class b = cond (nat_eq b.class class) 1 0

-- two tests that agree pick the same
picked_same : (test other : ℕ → Bool) (t : ℕ) (blocks : List (Option BlockState)) → ((n : ℕ) → test n ≡ other n) → picked test t blocks ≡ picked other t blocks
picked_same test other t [] same = refl
picked_same test other t (None ∷ more) same = picked_same test other (suc t) more same
picked_same test other t (Some block ∷ more) same =
    ap (λ x. cond x (block ∷ picked test (suc t) more) (picked test (suc t) more)) (same t) ∙ ap (λ xs. cond (other t) (block ∷ xs) xs) (picked_same test other (suc t) more same)

used_picked : (roots : List RootWord) (bodies : List (Option Body)) (t : ℕ) (blocks : List (Option BlockState)) → used_from roots bodies t blocks ≡ picked (is_in_use roots bodies) t blocks
used_picked roots bodies t [] = refl
used_picked roots bodies t (None ∷ more) = used_picked roots bodies (suc t) more
used_picked roots bodies t (Some block ∷ more) = ap (λ xs. cond (is_in_use roots bodies t) (block ∷ xs) xs) (used_picked roots bodies (suc t) more)

-- no number passes
picked_none : (class t : ℕ) (blocks : List (Option BlockState)) → held_of class (picked (λ n. false) t blocks) ≡ 0
picked_none class t [] = refl
picked_none class t (None ∷ more) = picked_none class (suc t) more
picked_none class t (Some block ∷ more) = picked_none class (suc t) more

-- one number more passes
picked_more : (class n : ℕ) (test : ℕ → Bool) (t k : ℕ) (blocks : List (Option BlockState)) (b : BlockState) → n ≡ t + k → slice_get blocks k ≡ Some (Some b) → test n ≡ false
    → held_of class (picked (λ m. nat_eq n m || test m) t blocks) ≡ held_of class (picked test t blocks) + of_class class b
picked_more class n test t k [] b at there fresh = absurd (none-some (Some b) there)
picked_more class n test t zero (None ∷ more) b at there fresh = absurd (none-some b (same_Some None (Some b) there))
picked_more class n test t (suc k) (None ∷ more) b at there fresh = picked_more class n test (suc t) k more b (omega (arith, at)) there fresh
picked_more class n test t zero (Some block ∷ more) b at there fresh =
    let is_t : n ≡ t = omega (arith, at) in
    let is_block : block ≡ b = same_Some block b (same_Some (Some block) (Some b) there) in
    let passes : nat_eq n t ≡ true = eq-eqb n t is_t in
    let fails : test t ≡ false = ap test (sym is_t) ∙ fresh in
    let rest = later (suc t) more (omega (arith, is_t)) in
    let here : held_of class (cond (nat_eq n t || test t) (block ∷ picked (λ m. nat_eq n m || test m) (suc t) more) (picked (λ m. nat_eq n m || test m) (suc t) more)) ≡ of_class class block + held_of class (picked (λ m. nat_eq n m || test m) (suc t) more) =
    ap (λ x. held_of class (cond (x || test t) (block ∷ picked (λ m. nat_eq n m || test m) (suc t) more) (picked (λ m. nat_eq n m || test m) (suc t) more))) passes in
    let before : held_of class (cond (test t) (block ∷ picked test (suc t) more) (picked test (suc t) more)) ≡ held_of class (picked test (suc t) more) =
    ap (λ x. held_of class (cond x (block ∷ picked test (suc t) more) (picked test (suc t) more))) fails in
    let same : of_class class block ≡ of_class class b = ap (of_class class) is_block in
    omega (arith, here, before, rest, same)
  where
    later : (u : ℕ) (blocks : List (Option BlockState)) → n < u → held_of class (picked (λ m. nat_eq n m || test m) u blocks) ≡ held_of class (picked test u blocks)
    later u [] lt = refl
    later u (None ∷ more) lt = later (suc u) more (omega (arith, lt))
    later u (Some c ∷ more) lt =
        let no : nat_eq n u ≡ false = ne_eqb n u (λ e. absurd (omega (arith, e, lt))) in
        ap (λ x. held_of class (cond (x || test u) (c ∷ picked (λ m. nat_eq n m || test m) (suc u) more) (picked (λ m. nat_eq n m || test m) (suc u) more))) no
        ∙ by (test u) (later (suc u) more (omega (arith, lt)))
      where
        by : (x : Bool) → held_of class (picked (λ m. nat_eq n m || test m) (suc u) more) ≡ held_of class (picked test (suc u) more)
            → held_of class (cond x (c ∷ picked (λ m. nat_eq n m || test m) (suc u) more) (picked (λ m. nat_eq n m || test m) (suc u) more)) ≡ held_of class (cond x (c ∷ picked test (suc u) more) (picked test (suc u) more))
        by true rest = ap (λ x. of_class class c + x) rest
        by false rest = rest
picked_more class n test t (suc k) (Some block ∷ more) b at there fresh =
    let no : nat_eq n t ≡ false = ne_eqb n t (λ e. absurd (omega (arith, e, at))) in
    ap (λ x. held_of class (cond (x || test t) (block ∷ picked (λ m. nat_eq n m || test m) (suc t) more) (picked (λ m. nat_eq n m || test m) (suc t) more))) no
    ∙ by (test t) (picked_more class n test (suc t) k more b (omega (arith, at)) there fresh)
  where
    by : (x : Bool) → held_of class (picked (λ m. nat_eq n m || test m) (suc t) more) ≡ held_of class (picked test (suc t) more) + of_class class b
        → held_of class (cond x (block ∷ picked (λ m. nat_eq n m || test m) (suc t) more) (picked (λ m. nat_eq n m || test m) (suc t) more)) ≡ held_of class (cond x (block ∷ picked test (suc t) more) (picked test (suc t) more)) + of_class class b
    by true rest = omega (arith, rest)
    by false rest = rest

-- the numbers that root words name
abbrev by_roots : List RootWord → ℕ → Bool
by_roots roots t = list_any (root_names t) roots

-- the blocks of the roots with a task, counted root by root
module _ (p : Program) (class : ℕ) (blocks : List (Option BlockState)) where
  held_roots : (lines : List RootLine) (words : List RootWord) → length words ≤ length lines
      → ((i t : ℕ) (line : RootLine) → slice_get words i ≡ Some (Named t) → slice_get lines i ≡ Some line → (b : BlockState) × (found blocks t ≡ Some b) × (b.class ≡ kind_class p line.kind))
      → ((i j t : ℕ) → slice_get words i ≡ Some (Named t) → slice_get words j ≡ Some (Named t) → i ≡ j)
      → held_of class (picked (by_roots words) 1 blocks) ≡ own_of_class p class lines (map own_task words)
  held_roots [] [] few has once = picked_none class 1 blocks
  held_roots (line ∷ lines) [] few has once = picked_none class 1 blocks
  held_roots [] (word ∷ words) few has once = absurd (omega (arith, few))
  held_roots (line ∷ lines) (Refused tag ∷ words) few has once = held_roots lines words (omega (arith, few)) (λ i t l e f. has (suc i) t l e f) (λ i j t e f. omega (arith, once (suc i) (suc j) t e f))
  held_roots (line ∷ lines) (Skipped at tag ∷ words) few has once = held_roots lines words (omega (arith, few)) (λ i t l e f. has (suc i) t l e f) (λ i j t e f. omega (arith, once (suc i) (suc j) t e f))
  held_roots (line ∷ lines) (Named t ∷ words) few has once =
      let rest = held_roots lines words (omega (arith, few)) (λ i u l e f. has (suc i) u l e f) (λ i j u e f. omega (arith, once (suc i) (suc j) u e f)) in
      let (b, there, of_kind) = has 0 t line refl refl in
      let more = one_more t b there (fresh (list_any (root_names t) words) refl) in
      let same : of_class class b ≡ cond (nat_eq (kind_class p line.kind) class) 1 0 = ap (λ k. cond (nat_eq k class) 1 0) of_kind in
      omega (arith, rest, more, same)
    where
      fresh : (x : Bool) → list_any (root_names t) words ≡ x → x ≡ false
      fresh false e = refl
      fresh true e =
          let (at, word, get, passes) = any_true (root_names t) words e in
          absurd (omega (arith, once 0 (suc at) t refl (get ∙ ap Some ((root_named_so word t).0 passes))))

      one_more : (t : ℕ) (b : BlockState) → found blocks t ≡ Some b → list_any (root_names t) words ≡ false → held_of class (picked (λ m. nat_eq t m || by_roots words m) 1 blocks) ≡ held_of class (picked (by_roots words) 1 blocks) + of_class class b
      one_more zero b e none = absurd (none-some b e)
      one_more (suc k) b e none = by (slice_get blocks k) refl e
        where
          by : (o : Option (Option BlockState)) → slice_get blocks k ≡ o → flat o ≡ Some b → held_of class (picked (λ m. nat_eq (suc k) m || by_roots words m) 1 blocks) ≡ held_of class (picked (by_roots words) 1 blocks) + of_class class b
          by None there f = absurd (none-some b f)
          by (Some o) there f = picked_more class (suc k) (by_roots words) 1 k blocks b (omega arith) (there ∙ ap Some f) none

-- where no task is unfinished, only roots keep blocks in use
in_use_by_roots : (roots : List RootWord) (bodies : List (Option Body)) → ((t : ℕ) → found bodies t ≡ None) → (t : ℕ) → is_in_use roots bodies t ≡ by_roots roots t
in_use_by_roots roots bodies none t =
    ap (λ o. is_open o || (list_any (root_names t) roots || list_any (task_names t) bodies)) (none t)
    ∙ ap (λ x. list_any (root_names t) roots || x) (no_names (list_any (task_names t) bodies) refl) ∙ or_false (list_any (root_names t) roots)
  where
    or_false : (x : Bool) → (x || false) ≡ x
    or_false true = refl
    or_false false = refl

    no_names : (x : Bool) → list_any (task_names t) bodies ≡ x → x ≡ false
    no_names false e = refl
    no_names true e =
        let (at, o, get, passes) = any_true (task_names t) bodies e in
        absurd (false≢true (ap (task_names t) (sym (sym (ap flat get) ∙ none (suc at))) ∙ passes))

pub held_at_end : (p : Program) (class : ℕ) (blocks : List (Option BlockState)) (bodies : List (Option Body)) (lines : List RootLine) (words : List RootWord) → ((t : ℕ) → found bodies t ≡ None) → length words ≤ length lines
    → ((i t : ℕ) (line : RootLine) → slice_get words i ≡ Some (Named t) → slice_get lines i ≡ Some line → (b : BlockState) × (found blocks t ≡ Some b) × (b.class ≡ kind_class p line.kind))
    → ((i j t : ℕ) → slice_get words i ≡ Some (Named t) → slice_get words j ≡ Some (Named t) → i ≡ j)
    → held_of class (used_from words bodies 1 blocks) ≡ own_of_class p class lines (map own_task words)
held_at_end p class blocks bodies lines words none few has once =
    ap (held_of class) (used_picked words bodies 1 blocks ∙ picked_same (is_in_use words bodies) (by_roots words) 1 blocks (in_use_by_roots words bodies none)) ∙ held_roots p class blocks lines words few has once
