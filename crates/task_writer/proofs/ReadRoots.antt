-- The roots of a program are read back.
use Rattle.task_writer.proofs.Vocabulary.{◌≡◌, ℕ, suc, ◌+◌, ◌<◌, List, [], ◌∷◌, ◌++◌, map, length, slice_get, Some, unwrap_or, refl, sym, ◌∙◌, ap, subst, append_assoc, arith, length-map, length-append, flat_map, EachAt, AllDiffer, IsFormedRoot, IsFormedRootArgument, RootArgument, Kind, Root, Program, get-front, differ-front, What, place_of, root_argument_of, root_of, roots_from, kinds_from, numbered_roots, option_map, names_of_kinds, name_at, kind_names, root_names, kind_lines, root_term_of, root_line}
use Rattle.task_writer.proofs.Itemized.{items_at}
use Rattle.task_writer.proofs.Skipped.{SkipsInside, inner_lines, skipped, skips-inner}
use Rattle.task_writer.proofs.ReadPlaces.{position-place, named-at, name-place}
use Rattle.task_writer.proofs.ReadCode.{map-back, option-back, IsFrom, from-next, from-here}

-- the root before others is named as it is among all
pub earlier-name : (earlier later : List (List ℕ)) (at : ℕ) → at < length earlier → slice_get earlier at ≡ Some (name_at (earlier ++ later) at)
earlier-name earlier later at l = let e = named-at earlier at l in
    e ∙ ap Some (sym (ap (λ o. unwrap_or o []) (get-front earlier later at (name_at earlier at) e)))

earlier-back : (earlier later : List (List ℕ)) → AllDiffer (earlier ++ later) → (at : ℕ) → at < length earlier → place_of earlier (name_at (earlier ++ later) at) ≡ at
earlier-back earlier later differ at l = name-place earlier (differ-front earlier later differ) at (name_at (earlier ++ later) at) (earlier-name earlier later at l)

argument-back : (earlier later : List (List ℕ)) → AllDiffer (earlier ++ later) → (a : RootArgument) → IsFormedRootArgument (length earlier) a
    → root_argument_of earlier (root_term_of (earlier ++ later) a) ≡ a
argument-back earlier later differ (RootArgument.Number n) formed = refl
argument-back earlier later differ (RootArgument.Root at) formed = ap RootArgument.Root (earlier-back earlier later differ at formed)

root-back : (p : Program) → AllDiffer (kind_names p.kinds) → (earlier later : List (List ℕ)) → AllDiffer (earlier ++ later) → (n : ℕ) (root : Root) → IsFormedRoot p (length earlier) root
    → root_of (kind_names p.kinds) earlier n root.name (name_at (kind_names p.kinds) root.kind) (map (root_term_of (earlier ++ later)) root.arguments) (option_map (name_at (earlier ++ later)) root.behind) root.priority
    ≡ record root { line = n }
unfolding root_of
root-back p differ earlier later apart n root formed =
    rw (
      position-place (kind_names p.kinds) differ root.kind (rw length-map formed.kind),
      map-back (root_argument_of earlier) (root_term_of (earlier ++ later)) (IsFormedRootArgument (length earlier)) (argument-back earlier later apart) root.arguments formed.arguments,
      option-back (place_of earlier) (name_at (earlier ++ later)) (λ at. at < length earlier) (earlier-back earlier later apart) root.behind formed.behind,
    ) refl

-- the roots from one on, behind those with the earlier names
pub roots-back : (p : Program) → AllDiffer (kind_names p.kinds) → AllDiffer (root_names p.roots) → EachAt p.roots (IsFormedRoot p)
    → (roots : List Root) (earlier : List (List ℕ)) (n : ℕ) → root_names p.roots ≡ earlier ++ root_names roots → IsFrom p.roots (length earlier) roots
    → roots_from (kind_names p.kinds) earlier (items_at n (map (root_line (kind_names p.kinds) (root_names p.roots)) roots)) ≡ numbered_roots n roots
unfolding roots_from root_line numbered_roots
roots-back p differ apart formed [] earlier n names from = refl
roots-back p differ apart formed (root ∷ more) earlier n names from =
    let later = root_names (root ∷ more) in
    let here = formed (length earlier) root (from-here p.roots (length earlier) root more from) in
    let back = root-back p differ earlier later (subst (λ names. AllDiffer names) names apart) n root here in
    let back_here = subst (λ all. root_of (kind_names p.kinds) earlier n root.name (name_at (kind_names p.kinds) root.kind) (map (root_term_of all) root.arguments) (option_map (name_at all) root.behind) root.priority ≡ record root { line = n }) (sym names) back in
    let size : length earlier + 1 ≡ length (earlier ++ root.name ∷ []) = sym (length-append earlier (root.name ∷ [])) in
    rw (
      back_here,
      roots-back p differ apart formed more (earlier ++ root.name ∷ []) (n + 1) (names ∙ sym (append_assoc earlier (root.name ∷ []) (root_names more)))
          (subst (λ at. IsFrom p.roots at more) size (from-next p.roots (length earlier) root more from)),
    ) refl

-- ---- the lines of roots among other readings

pub roots-no-kinds : (kinds names roots : List (List ℕ)) (more : List Root) (n : ℕ) → kinds_from kinds (items_at n (map (root_line names roots) more)) ≡ []
unfolding kinds_from root_line
roots-no-kinds kinds names roots [] n = refl
roots-no-kinds kinds names roots (root ∷ more) n = roots-no-kinds kinds names roots more (n + 1)

pub roots-no-names : (names roots : List (List ℕ)) (more : List Root) (n : ℕ) → names_of_kinds (items_at n (map (root_line names roots) more)) ≡ []
unfolding root_line
roots-no-names names roots [] n = refl
roots-no-names names roots (root ∷ more) n = roots-no-names names roots more (n + 1)

roots-skip : (kinds earlier : List (List ℕ)) → SkipsInside (roots_from kinds earlier)
unfolding roots_from
roots-skip kinds earlier (What.Root name kind arguments behind priority) is n items = absurd is
roots-skip kinds earlier _ is n items = refl

-- kinds give no roots
pub kinds-no-roots : (names earlier : List (List ℕ)) (rest : List What) (kinds : List Kind) (n : ℕ)
    → roots_from names earlier (items_at n (flat_map (kind_lines names) kinds ++ rest)) ≡ roots_from names earlier (items_at (n + length (flat_map (kind_lines names) kinds)) rest)
unfolding roots_from kind_lines
kinds-no-roots names earlier rest [] n = let e : n ≡ n + 0 = omega arith in ap (λ k. roots_from names earlier (items_at k rest)) e
kinds-no-roots names earlier rest (kind ∷ more) n =
    let inner = inner_lines names kind in
    let tail = flat_map (kind_lines names) more in
    let e : n + 1 + length inner + length tail ≡ n + suc (length (inner ++ tail)) = omega (arith, length-append inner tail) in
    ap (λ ws. roots_from names earlier (items_at (n + 1) ws)) (append_assoc inner tail rest)
    ∙ (skipped (roots_from names earlier) inner (tail ++ rest) (n + 1) (skips-inner (roots_from names earlier) (roots-skip names earlier) names kind)
    ∙ (kinds-no-roots names earlier rest more (n + 1 + length inner) ∙ ap (λ k. roots_from names earlier (items_at k rest)) e))
