-- The roots of a program are well formed where their names are known.
use Rattle.task_reader.proofs.Vocabulary.{◌≡◌, ℕ, zero, suc, ◌+◌, ◌<◌, true, Option, Some, None, List, [], ◌∷◌, ◌++◌, Ok, map, length, slice_get, sym, subst, arith, IfSome, option_map, length-map, Each, IsFormedRootArgument, IsFormedRoot, Root, Program, Priority, each-map, each-nil, each-cons, Word, is_among, RootTerm, What, Item, Scope, after, EachSpells, SpellsRootTerm, UsesRoot, root_term_use, behind_uses, root_uses, Known, kind_names, is_given, known_at, line_known, names_known, place_of, root_argument_of, root_of, roots_from, length-append, some-same}
use Rattle.task_reader.proofs.Places.{place-within}
use Rattle.task_reader.proofs.Known.{AllGiven, both-known, all-given, given-parts}
use Rattle.task_reader.proofs.FormedSteps.{number-fits}
use Rattle.task_reader.proofs.Stands.{Stand, item_at}

argument-formed : (k : Known) (w : Word) (a : RootTerm) → SpellsRootTerm w a → is_given k (root_term_use a) ≡ true
    → IsFormedRootArgument (length k.roots) (root_argument_of k.roots a)
argument-formed k w (RootTerm.Number n) s e = number-fits w n s
argument-formed k w (RootTerm.Root name) s e = place-within k.roots name e

arguments-formed : (k : Known) (ws : List Word) (arguments : List RootTerm) → EachSpells SpellsRootTerm ws arguments
    → AllGiven k (map root_term_use arguments) → Each arguments (λ a. IsFormedRootArgument (length k.roots) (root_argument_of k.roots a))
arguments-formed k ws [] s g = each-nil (λ a. IsFormedRootArgument (length k.roots) (root_argument_of k.roots a))
arguments-formed k [] (a ∷ more) s g = absurd s
arguments-formed k (w ∷ ws) (a ∷ more) s g = each-cons (λ a. IsFormedRootArgument (length k.roots) (root_argument_of k.roots a)) a more
    (argument-formed k w a s.0 g.0) (arguments-formed k ws more s.1 g.1)

behind-formed : (k : Known) (behind : Option (List ℕ)) → AllGiven k (behind_uses UsesRoot behind)
    → IfSome (option_map (place_of k.roots) behind) (λ earlier. earlier < length k.roots)
behind-formed k None g = tt
behind-formed k (Some name) g = place-within k.roots name g.1.0

abbrev RootsFormed : Program → List (List ℕ) → List Item → List Item → Type 0
RootsFormed p kinds all items = (s : Scope) → Stand s items → names_known all s items ≡ Ok tt
    → (i : ℕ) (root : Root) → slice_get (roots_from kinds s.roots items) i ≡ Some root → IsFormedRoot p (length s.roots + i) root

root-formed : (p : Program) (kinds : List (List ℕ)) → length p.kinds ≡ length kinds → (all : List Item) → kind_names all ≡ kinds
    → (s : Scope) (line : ℕ) (name kind : List ℕ) (arguments : List RootTerm) (behind : Option (List ℕ)) (priority : Priority) (items : List Item)
    → Stand s (item_at line (What.Root name kind arguments behind priority) ∷ items)
    → line_known (known_at all s items) line (What.Root name kind arguments behind priority) ≡ Ok tt
    → IsFormedRoot p (length s.roots) (root_of kinds s.roots line name kind arguments behind priority)
unfolding root_of
root-formed p kinds count all names s line name kind arguments behind priority items stand looked_up = record {
  name = stand.0.1.0.0;
  kind = subst (λ n. place_of kinds kind < n) (sym count)
      (place-within kinds kind (subst (λ ks. is_among ks kind ≡ true) names given.1.1.0));
  arguments_fit = omega (arith, length-map arguments (root_argument_of s.roots), stand.1.3);
  arguments = each-map (root_argument_of s.roots) (IsFormedRootArgument (length s.roots)) arguments
      (arguments-formed k stand.0.1.0.1.1.0.0 arguments stand.0.1.0.1.1.0.1 parts.0);
  behind = behind-formed k behind parts.1;
} where
  k : Known
  k = known_at all s items

  given : AllGiven k (root_uses kind arguments behind)
  given = all-given k line 1 (root_uses kind arguments behind) looked_up

  parts : AllGiven k (map root_term_use arguments) × AllGiven k (behind_uses UsesRoot behind)
  parts = given-parts k (map root_term_use arguments) (behind_uses UsesRoot behind) given.1.1.1

roots-formed-step : (p : Program) (kinds : List (List ℕ)) → length p.kinds ≡ length kinds → (all : List Item) → kind_names all ≡ kinds
    → (line : ℕ) (w : What) (items : List Item) → RootsFormed p kinds all items → RootsFormed p kinds all (item_at line w ∷ items)
unfolding roots_from names_known
roots-formed-step p kinds count all names line (What.Root name kind arguments behind priority) items further s stand known zero root e =
    let parts = both-known (line_known (known_at all s items) line (What.Root name kind arguments behind priority)) (names_known all (after s (What.Root name kind arguments behind priority)) items) known in
    let z : length s.roots ≡ length s.roots + 0 = omega arith in
    subst (λ n. IsFormedRoot p n root) z (subst (IsFormedRoot p (length s.roots)) (some-same (root_of kinds s.roots line name kind arguments behind priority) root e)
    (root-formed p kinds count all names s line name kind arguments behind priority items stand parts.0))
roots-formed-step p kinds count all names line (What.Root name kind arguments behind priority) items further s stand known (suc i) root e =
    let parts = both-known (line_known (known_at all s items) line (What.Root name kind arguments behind priority)) (names_known all (after s (What.Root name kind arguments behind priority)) items) known in
    let z : length (s.roots ++ name ∷ []) + i ≡ length s.roots + suc i = omega (arith, length-append s.roots (name ∷ [])) in
    subst (λ n. IsFormedRoot p n root) z (further (after s (What.Root name kind arguments behind priority)) stand.2 parts.1 i root e)
roots-formed-step p kinds count all names line w items further s stand known i root e =
    let parts = both-known (line_known (known_at all s items) line w) (names_known all (after s w) items) known in
    further (after s w) stand.2 parts.1 i root e

pub roots-formed : (p : Program) (kinds : List (List ℕ)) → length p.kinds ≡ length kinds → (all : List Item) → kind_names all ≡ kinds
    → (items : List Item) → RootsFormed p kinds all items
unfolding roots_from
roots-formed p kinds count all names [] s stand known i root e = cc
roots-formed p kinds count all names (item ∷ items) s stand known i root e =
    roots-formed-step p kinds count all names item.line item.what items (roots-formed p kinds count all names items) s stand known i root e
