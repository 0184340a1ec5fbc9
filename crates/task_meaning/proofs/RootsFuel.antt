-- More fuel gives the roots the same values and the same counts.
use Rattle.std.specs.Prelude.{ℕ, zero, suc, ◌≤◌, ⊤, Option, None, List, [], ◌∷◌, ◌++◌, map, drop, slice_get}
use Rattle.std.proofs.Common.{refl}
use Rattle.task_syntax.specs.declared.value.Value.{Value}
use Rattle.task_syntax.specs.declared.program.RootArgument.{RootArgument}
use Rattle.task_syntax.specs.declared.program.RootArgument.TheVariants as root_argument
use Rattle.task_syntax.specs.declared.program.Root.{Root as RootLine}
use Rattle.task_syntax.specs.declared.program.Program.{Program}
use Rattle.task_syntax.specs.declared.columns.Columns.{Columns}
use Rattle.task_meaning.specs.Meant.{Meant}
use Rattle.task_meaning.specs.Meaning.{rest}
use Rattle.task_meaning.specs.Roots.{root_number, root_future, values_of, mean_root, mean_roots_from, all_counts, root_value, roots_counts}
use Rattle.task_meaning.specs.RootCounts.{counts_in, root_counts, later_counts}
use Rattle.task_meaning.proofs.Grows.{Stays, AllStay, AllStay-at, Within, Within-counted, Within-behind, Within-adding}
use Rattle.task_meaning.proofs.Fuel.{entry-grows, rest-grows}

stays_root : (fs gs : List (Option Value)) (a : RootArgument) → AllStay fs gs → Stays (root_future fs a) (root_future gs a)
stays_root fs gs (root_argument.Number n) h = tt
stays_root fs gs (root_argument.Root r) h = AllStay-at fs gs r h

stay_roots : (fs gs : List (Option Value)) (arguments : List RootArgument) → AllStay fs gs → AllStay (map (root_future fs) arguments) (map (root_future gs) arguments)
stay_roots fs gs [] h = tt
stay_roots fs gs (a ∷ arguments) h = (stays_root fs gs a h, stay_roots fs gs arguments h)

-- more fuel, and more values of earlier roots, keep what a root means
pub mean_root-within : (p : Program) (c : Columns) (n m : ℕ) (fs gs : List (Option Value)) (root : RootLine) → n ≤ m → AllStay fs gs
    → Within (mean_root p c n fs root) (mean_root p c m gs root)
mean_root-within p c n m fs gs root e h =
    Within-behind root.behind fs gs _ _ h
    (Within-counted 1 1 _ _ (entry-grows p (rest p c n) (rest p c m) (rest-grows p c n m e) root.kind (map root_number root.arguments) _ _ (stay_roots fs gs root.arguments h)))

-- each member of the second list has what the one of the first has
abbrev AllWithin : List Meant → List Meant → Type 0
AllWithin [] [] = ⊤
AllWithin [] (b ∷ bs) = ⊥
AllWithin (a ∷ as_) [] = ⊥
AllWithin (a ∷ as_) (b ∷ bs) = Within a b × AllWithin as_ bs

within_snoc : (ms ns : List Meant) (m n : Meant) → AllWithin ms ns → Within m n → AllWithin (ms ++ m ∷ []) (ns ++ n ∷ [])
within_snoc [] [] m n h k = (k, tt)
within_snoc [] (b ∷ bs) m n h k = absurd h
within_snoc (a ∷ as_) [] m n h k = absurd h
within_snoc (a ∷ as_) (b ∷ bs) m n h k = (h.0, within_snoc as_ bs m n h.1 k)

values-stay : (ms ns : List Meant) → AllWithin ms ns → AllStay (values_of ms) (values_of ns)
values-stay [] [] h = tt
values-stay [] (b ∷ bs) h = absurd h
values-stay (a ∷ as_) [] h = absurd h
values-stay (a ∷ as_) (b ∷ bs) h = (h.0.value, values-stay as_ bs h.1)

counts-within : (ms ns : List Meant) → AllWithin ms ns → Stays (all_counts ms) (all_counts ns)
counts-within [] [] h = refl
counts-within [] (b ∷ bs) h = absurd h
counts-within (a ∷ as_) [] h = absurd h
counts-within (a ∷ as_) (b ∷ bs) h =
    (Within-adding a.counts b.counts (record { value = None; counts = all_counts as_ }) (record { value = None; counts = all_counts bs }) h.0.counts
    (record { value = tt; counts = counts-within as_ bs h.1 })).counts

roots-within : (p : Program) (c : Columns) (n m : ℕ) → n ≤ m → (roots : List RootLine) (ms ns : List Meant) → AllWithin ms ns
    → AllWithin (mean_roots_from p c n ms roots) (mean_roots_from p c m ns roots)
roots-within p c n m e [] ms ns h = h
roots-within p c n m e (root ∷ roots) ms ns h =
    roots-within p c n m e roots _ _ (within_snoc ms ns _ _ h (mean_root-within p c n m (values_of ms) (values_of ns) root e (values-stay ms ns h)))

-- more fuel gives a root the same value
pub root_value-stays : (p : Program) (c : Columns) (n m at : ℕ) → n ≤ m → Stays (root_value p c n at) (root_value p c m at)
root_value-stays p c n m at e = AllStay-at _ _ at (values-stay _ _ (roots-within p c n m e p.roots [] [] tt))

-- more fuel gives all roots the same counts
pub roots_counts-stay : (p : Program) (c : Columns) (n m : ℕ) → n ≤ m → Stays (roots_counts p c n) (roots_counts p c m)
roots_counts-stay p c n m e = counts-within _ _ (roots-within p c n m e p.roots [] [] tt)

counts-at : (ms ns : List Meant) → AllWithin ms ns → (position : ℕ) → Stays (counts_in (slice_get ms position)) (counts_in (slice_get ns position))
counts-at [] [] h position = tt
counts-at [] (b ∷ bs) h position = absurd h
counts-at (a ∷ as_) [] h position = absurd h
counts-at (a ∷ as_) (b ∷ bs) h zero = h.0.counts
counts-at (a ∷ as_) (b ∷ bs) h (suc position) = counts-at as_ bs h.1 position

within-from : (ms ns : List Meant) → AllWithin ms ns → (position : ℕ) → AllWithin (drop position ms) (drop position ns)
within-from ms ns h zero = h
within-from [] [] h (suc position) = tt
within-from [] (b ∷ bs) h (suc position) = absurd h
within-from (a ∷ as_) [] h (suc position) = absurd h
within-from (a ∷ as_) (b ∷ bs) h (suc position) = within-from as_ bs h.1 position

-- the counts of one root, and of the roots from a position on, stay with more fuel
pub root_counts-stay : (p : Program) (c : Columns) (n m position : ℕ) → n ≤ m → Stays (root_counts p c n position) (root_counts p c m position)
root_counts-stay p c n m position e = counts-at _ _ (roots-within p c n m e p.roots [] [] tt) position

-- more fuel gives the roots from one on the same counts
pub later_counts-stay : (p : Program) (c : Columns) (n m position : ℕ) → n ≤ m → Stays (later_counts p c n position) (later_counts p c m position)
later_counts-stay p c n m position e = counts-within _ _ (within-from _ _ (roots-within p c n m e p.roots [] [] tt) position)
