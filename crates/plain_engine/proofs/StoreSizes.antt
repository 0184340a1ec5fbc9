-- No call of the store changes how many units there are.
use Rattle.std.proofs.Common.{◌≡◌, ℕ, ◌+◌, ◌*◌, ◌<◌, ◌≤◌, Bool, true, false, cond, Option, Some, None, List, [], ◌∷◌, length, slice_get, refl, sym, ◌∙◌, subst}
use Rattle.std.proofs.lemmas.List.{length-set}
use Rattle.record_core.specs.Numbers.{flat}
use Rattle.pool_core.specs.Blocks.{BlockState}
use Rattle.plain_state.specs.declared.record.Record.{Record}
use Rattle.plain_state.specs.Store.{StoreState, units_of, changed, changed_in, more, less, held, held_all, made, given_back_if, given_back, is_last, let_go, let_go_all, HasUnit, FitsAt}

changed_in_size : (f : Record → Record) (unit : ℕ) (records : List Record) (o : Option Record) → length (changed_in f unit records o) ≡ length records
changed_in_size f unit records None = refl
changed_in_size f unit records (Some k) = length-set records unit (f k)

pub changed_size : (f : Record → Record) (unit : ℕ) (s : StoreState) → units_of (changed f unit s) ≡ units_of s
changed_size f unit s = changed_in_size f unit s.records (slice_get s.records unit)

pub held_size : (units : List ℕ) (s : StoreState) → units_of (held_all units s) ≡ units_of s
held_size [] s = refl
held_size (unit ∷ units) s = held_size units (held unit s) ∙ changed_size more unit s

given_back_size : (unit : ℕ) (s : StoreState) (o : Option BlockState) → units_of (given_back_if unit s o) ≡ units_of s
given_back_size unit s None = refl
given_back_size unit s (Some block) = refl

either_size : (b : Bool) (unit : ℕ) (s : StoreState) → units_of (cond b (given_back unit s) s) ≡ units_of s
either_size true unit s = given_back_size unit s (flat (slice_get s.blocks unit))
either_size false unit s = refl

pub let_go_size : (unit : ℕ) (s : StoreState) → units_of (let_go unit s) ≡ units_of s
let_go_size unit s = either_size (is_last (slice_get s.records unit)) unit (changed less unit s) ∙ changed_size less unit s

pub let_go_all_size : (units : List ℕ) (s : StoreState) → units_of (let_go_all units s) ≡ units_of s
let_go_all_size [] s = refl
let_go_all_size (unit ∷ units) s = let_go_all_size units (let_go unit s) ∙ let_go_size unit s

-- a unit that there was is there, and words that fitted fit
pub unit_stays : (s t : StoreState) (unit : ℕ) → units_of t ≡ units_of s → HasUnit s unit → HasUnit t unit
unit_stays s t unit same within = subst (λ n. unit < n) (sym same) within

pub fits_still : (s t : StoreState) (unit n : ℕ) → units_of t ≡ units_of s → FitsAt s unit n → FitsAt t unit n
fits_still s t unit n same fits = subst (λ m. (unit * 8 + n ≤ m * 8) × (n ≤ 64)) (sym same) fits

pub made_size : (block : BlockState) (k : Record) (s : StoreState) → units_of (made block k s) ≡ units_of s
made_size block k s = length-set s.records block.unit k
