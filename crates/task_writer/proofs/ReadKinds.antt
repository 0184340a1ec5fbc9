-- The kinds of a program are read back.
use Rattle.task_writer.proofs.Vocabulary.{◌≡◌, ℕ, zero, suc, ◌+◌, List, [], ◌∷◌, ◌++◌, take, drop, length, refl, ◌∙◌, ap, append_assoc, arith, take-append-drop, length-take-le, flat_map, Each, AllDiffer, IsFormedKind, Kind, Program, What, states_from, kind_of, kinds_from, numbered_kind, numbered_kinds, names_of_kinds, names_of_states, kind_names, state_lines, var_lines, kind_lines}
use Rattle.task_writer.proofs.Itemized.{items_at}
use Rattle.task_writer.proofs.Skipped.{SkipsInside, inner_lines, skipped, skips-var, skips-inner}
use Rattle.task_writer.proofs.ReadCode.{positions_of}
use Rattle.task_writer.proofs.ReadStates.{states_lines, states-end-code, states-back, states-named, variables-back}

-- the lines of a kind behind its first, and the rest
pub inner-behind : (kinds : List (List ℕ)) (kind : Kind) (rest : List What)
    → inner_lines kinds kind ++ rest ≡ var_lines (drop kind.arguments kind.variables) ++ states_lines kinds kind kind.states rest
inner-behind kinds kind rest =
    let var = var_lines (drop kind.arguments kind.variables) in
    let states = flat_map (state_lines kinds kind) kind.states in
    append_assoc var (states ++ What.End ∷ []) rest ∙ ap (λ ws. var ++ ws) (append_assoc states (What.End ∷ []) rest)

pub kind-back : (p : Program) (kind : Kind) → AllDiffer (kind_names p.kinds) → IsFormedKind p kind → (n : ℕ) (rest : List What)
    → kind_of (kind_names p.kinds) n kind.name (take kind.arguments kind.variables) (items_at (n + 1) (inner_lines (kind_names p.kinds) kind ++ rest))
    ≡ numbered_kind (kind_names p.kinds) n kind
unfolding kind_of numbered_kind states_from
kind-back p kind differ formed n rest =
    let kinds = kind_names p.kinds in
    let other = drop kind.arguments kind.variables in
    let behind = states_lines kinds kind kind.states rest in
    let var = variables-back other (n + 1) behind (states-end-code kinds kind kind.states rest) in
    let named = skipped names_of_states (var_lines other) behind (n + 1) (skips-var names_of_states (λ vs n items. refl) other)
    ∙ states-named kinds kind kind.states (n + 1 + length (var_lines other)) rest in
    let states = skipped (states_from (positions_of p kind)) (var_lines other) behind (n + 1) (skips-var (states_from (positions_of p kind)) (λ vs n items. refl) other)
    ∙ states-back p kind differ formed kind.states (n + 1 + length (var_lines other)) rest formed.states in
    rw (
      inner-behind kinds kind rest,
      var,
      take-append-drop kind.arguments kind.variables,
      length-take-le kind.arguments kind.variables formed.arguments_are_variables,
      named,
      states,
    ) refl

-- ---- all kinds

kinds-skip : (kinds : List (List ℕ)) → SkipsInside (kinds_from kinds)
unfolding kinds_from
kinds-skip kinds (What.Kind name arguments) is n items = absurd is
kinds-skip kinds _ is n items = refl

names-skip : SkipsInside names_of_kinds
names-skip (What.Kind name arguments) is n items = absurd is
names-skip _ is n items = refl

pub kinds-back : (p : Program) → AllDiffer (kind_names p.kinds) → (rest : List What) → ((n : ℕ) → kinds_from (kind_names p.kinds) (items_at n rest) ≡ [])
    → (kinds : List Kind) (n : ℕ) → Each kinds (IsFormedKind p)
    → kinds_from (kind_names p.kinds) (items_at n (flat_map (kind_lines (kind_names p.kinds)) kinds ++ rest)) ≡ numbered_kinds (kind_names p.kinds) n kinds
unfolding kinds_from kind_lines numbered_kinds
kinds-back p differ rest none [] n formed = none n
kinds-back p differ rest none (kind ∷ more) n formed =
    let names = kind_names p.kinds in
    let inner = inner_lines names kind in
    let later = flat_map (kind_lines names) more ++ rest in
    let e : n + 1 + length inner ≡ n + suc (length inner) = omega arith in
    rw (
      append_assoc inner (flat_map (kind_lines names) more) rest,
      kind-back p kind differ (formed zero kind refl) n later,
      skipped (kinds_from names) inner later (n + 1) (skips-inner (kinds_from names) (kinds-skip names) names kind),
      e,
      kinds-back p differ rest none more (n + suc (length inner)) (λ i. formed (suc i)),
    ) refl

pub kinds-named : (names : List (List ℕ)) (rest : List What) → ((n : ℕ) → names_of_kinds (items_at n rest) ≡ [])
    → (kinds : List Kind) (n : ℕ) → names_of_kinds (items_at n (flat_map (kind_lines names) kinds ++ rest)) ≡ kind_names kinds
unfolding kind_lines
kinds-named names rest none [] n = none n
kinds-named names rest none (kind ∷ more) n =
    let inner = inner_lines names kind in
    let later = flat_map (kind_lines names) more ++ rest in
    rw (
      append_assoc inner (flat_map (kind_lines names) more) rest,
      skipped names_of_kinds inner later (n + 1) (skips-inner names_of_kinds names-skip names kind),
      kinds-named names rest none more (n + 1 + length inner),
    ) refl
