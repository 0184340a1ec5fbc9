-- The variables and the states of a kind are read back.
use Rattle.task_writer.proofs.Vocabulary.{◌≡◌, ℕ, zero, suc, ◌+◌, List, [], ◌∷◌, ◌++◌, map, length, refl, append_assoc, append-nil, arith, flat_map, Each, AllDiffer, IsFormedKind, IsFormedState, Variable, State, Kind, Program, What, names_of_states, states_from, variables_from, numbered_states, kind_names, names_in, code_lines, state_lines, var_lines}
use Rattle.task_writer.proofs.Itemized.{items_at}
use Rattle.task_writer.proofs.Skipped.{skipped, skips-code}
use Rattle.task_writer.proofs.ReadCode.{positions_of, EndsCode, code-back, futures-back, from-start}

-- the lines of states, behind which their kind ends
abbrev pub states_lines : List (List ℕ) → Kind → List State → List What → List What
states_lines kinds kind states rest = flat_map (state_lines kinds kind) states ++ What.End ∷ rest

pub states-end-code : (kinds : List (List ℕ)) (kind : Kind) (states : List State) (rest : List What) → EndsCode (states_lines kinds kind states rest)
unfolding state_lines
states-end-code kinds kind [] rest = tt
states-end-code kinds kind (s ∷ states) rest = tt

pub states-back : (p : Program) (kind : Kind) → AllDiffer (kind_names p.kinds) → IsFormedKind p kind → (states : List State) (n : ℕ) (rest : List What) → Each states (IsFormedState p kind)
    → states_from (positions_of p kind) (items_at n (states_lines (kind_names p.kinds) kind states rest)) ≡ numbered_states (λ state. length (state_lines (kind_names p.kinds) kind state)) n states
unfolding states_from state_lines numbered_states
states-back p kind differ k [] n rest formed = refl
states-back p kind differ k (s ∷ states) n rest formed =
    let kinds = kind_names p.kinds in
    let here = formed zero s refl in
    let code = code_lines (names_in kinds kind s) s.code in
    let later = states_lines kinds kind states rest in
    let e : n + 1 + length code ≡ n + suc (length code) = omega arith in
    let parted = append_assoc code (flat_map (state_lines kinds kind) states) (What.End ∷ rest) in
    rw (
      parted,
      futures-back p kind differ k s.holds here.holds,
      futures-back p kind differ k s.settled here.settled,
      code-back p kind differ k s here.instrs s.code 0 (n + 1) later (states-end-code kinds kind states rest) here.labels_differ (from-start s.code),
      skipped (states_from (positions_of p kind)) code later (n + 1) (skips-code (states_from (positions_of p kind)) (λ step n items. refl) kinds kind s s.code),
      e,
      states-back p kind differ k states (n + suc (length code)) rest (λ i. formed (suc i)),
    ) refl

pub states-named : (kinds : List (List ℕ)) (kind : Kind) (states : List State) (n : ℕ) (rest : List What)
    → names_of_states (items_at n (states_lines kinds kind states rest)) ≡ map (λ (s : State). s.name) states
unfolding state_lines
states-named kinds kind [] n rest = refl
states-named kinds kind (s ∷ states) n rest =
    let code = code_lines (names_in kinds kind s) s.code in
    let later = states_lines kinds kind states rest in
    rw (
      append_assoc code (flat_map (state_lines kinds kind) states) (What.End ∷ rest),
      skipped names_of_states code later (n + 1) (skips-code names_of_states (λ step n items. refl) kinds kind s s.code),
      states-named kinds kind states (n + 1 + length code) rest,
    ) refl

no-variables : (n : ℕ) (rest : List What) → EndsCode rest → variables_from (items_at n rest) ≡ []
no-variables n (What.State name holds settled ∷ rest) ends = refl
no-variables n (What.End ∷ rest) ends = refl
no-variables n _ ends = absurd ends

pub variables-back : (variables : List Variable) (n : ℕ) (rest : List What) → EndsCode rest → variables_from (items_at n (var_lines variables ++ rest)) ≡ variables
variables-back [] n rest ends = no-variables n rest ends
variables-back (v ∷ vs) n rest ends = rw (no-variables (n + 1) rest ends) (append-nil (v ∷ vs))
