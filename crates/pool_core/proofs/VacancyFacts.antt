-- The superblocks that can give a block, before and after one of them changes.
use Rattle.std.proofs.Common.{◌≡◌, ◌≢◌, ◌↔◌, ◌⊎◌, ℕ, ◌<◌, ◌≤◌, Bool, true, false, if◌then◌else◌, List, [], Option, Some, None, length, replicate, slice_get, get_or, set, zero, suc, refl, sym, ◌∙◌, ap, subst, inl, inr, ⊎_elim, arith, length-set, get_or-set_same, get_or-set_other}
use Rattle.std.proofs.lemmas.Bool.{cases_eq, false≢true}
use Rattle.std.proofs.lemmas.Option.{same_Some, slice_get_within, slice_get-get_or}
use Rattle.claim_core.specs.Claims.{IsSet}
use Rattle.kt_words.specs.Capacity.{capacity}
use Rattle.pool_core.specs.Choice.{Each, IsFirst, Chooses, IsWithoutRoom}
use Rattle.pool_core.specs.Pool.{PoolState, IsSound, IsChosenFor, HasNoRoom}
use Rattle.pool_core.specs.Superblocks.{SuperblockState, HasRoom, IsEmpty, given, taken_back, unused}
use Rattle.pool_core.specs.Vacancies.{IsNoneSet, IsFirstSet, room_set, IsFirstVacancy, with_room_noted, noted, AreBelow, AreUnusedVacancies}
use Rattle.pool_core.specs.VacancyInvariant.{HasAt, AreThose, AreVacancies}
use Rattle.pool_core.specs.declared.vacancies.Vacancies.{Vacancies}
use Rattle.pool_core.proofs.Choosing.{IsWithoutRoom_from, HasRoom_excludes, IsEmpty_excludes}
use Rattle.std.proofs.lemmas.List.{get_or-replicate, length-replicate}
use Rattle.pool_core.proofs.Giving.{IsReady}
use Rattle.pool_core.proofs.Keeping.{set_count_some}
use Rattle.pool_core.proofs.Sound.{same_in_replicate}
use Rattle.pool_core.proofs.Units.{capacity_fills}
use Rattle.std.specs.Prelude.{IfSome, IsNone}
use Rattle.pool_core.proofs.Places.{slice_get-set_same, slice_get-set_other}

module _ (P : SuperblockState → Type 0) (superblocks : List SuperblockState) (bits : List Bool) where
  -- the first bit that is set is the first superblock that has P
  first_of_set : (at : ℕ) → AreThose P superblocks bits → IsFirstSet bits at → (superblock : SuperblockState) × IsFirst P superblocks at superblock
  first_of_set at those first =
      let here = (those.are at).0 first.is_set in
      (here.0, (here.1.0, here.1.1, λ other superblock below there has. first.before other below ((those.are other).1 (superblock, (there, has)))))

  -- where no bit is set, none has P
  none_of_set : AreThose P superblocks bits → IsNoneSet bits → Each (λ superblock. ¬ P superblock) superblocks
  none_of_set those none at superblock there has = none at ((those.are at).1 (superblock, (there, has)))

  -- where none has P, no bit is set
  none_set_of : AreThose P superblocks bits → Each (λ superblock. ¬ P superblock) superblocks → IsNoneSet bits
  none_set_of those none at is_set = let here = (those.are at).0 is_set in none at here.0 here.1.0 here.1.1

-- the first vacancy is the superblock that is chosen
pub chosen_vacancy : (units class at : ℕ) (superblocks : List SuperblockState) (vacancies : Vacancies) → class ≤ 3
    → AreVacancies units superblocks vacancies → IsFirstVacancy vacancies class at → Chooses class (capacity units class) superblocks at
chosen_vacancy units class at superblocks vacancies fits are (inl first) =
    let found = first_of_set (HasRoom class (capacity units class)) superblocks (room_set vacancies class) at (are.with_room class fits) first in
    (found.0, inl found.1)
chosen_vacancy units class at superblocks vacancies fits are (inr (full, first)) =
    let found = first_of_set IsEmpty superblocks vacancies.empty at are.empty first in
    (found.0, inr (none_of_set (HasRoom class (capacity units class)) superblocks (room_set vacancies class) (are.with_room class fits) full, found.1))

-- there is no vacancy exactly where no superblock has room
pub no_vacancy : (units class : ℕ) (superblocks : List SuperblockState) (vacancies : Vacancies) → class ≤ 3 → 0 < capacity units class
    → AreVacancies units superblocks vacancies
    → (IsNoneSet (room_set vacancies class) × IsNoneSet vacancies.empty) ↔ Each (IsWithoutRoom class (capacity units class)) superblocks
no_vacancy units class superblocks vacancies fits some are = (
  λ none at superblock there. IsWithoutRoom_from class (capacity units class) superblock
      (none_of_set (HasRoom class (capacity units class)) superblocks (room_set vacancies class) (are.with_room class fits) none.0 at superblock there)
      (none_of_set IsEmpty superblocks vacancies.empty are.empty none.1 at superblock there),
  λ closed. (
    none_set_of (HasRoom class (capacity units class)) superblocks (room_set vacancies class) (are.with_room class fits)
        (λ at superblock there has. HasRoom_excludes class (capacity units class) superblock has (closed at superblock there)),
    none_set_of IsEmpty superblocks vacancies.empty are.empty
        (λ at superblock there empty. IsEmpty_excludes class (capacity units class) superblock some empty (closed at superblock there)),
  ),
)

-- the set has the superblocks with P, but for one position of which it says nothing
record AreOthers (P : SuperblockState → Type 0) (superblocks : List SuperblockState) (at : ℕ) (bits : List Bool) : Type 0 where
  size : length bits ≡ 1024
  are : (other : ℕ) → other ≢ at → IsSet bits other ↔ HasAt P superblocks other

others_of : (P : SuperblockState → Type 0) (superblocks : List SuperblockState) (at : ℕ) (bits : List Bool) → AreThose P superblocks bits → AreOthers P superblocks at bits
others_of P superblocks at bits those = record { size = those.size; are = λ other ne. those.are other }

others_put : (P : SuperblockState → Type 0) (superblocks : List SuperblockState) (at : ℕ) (bits : List Bool) (bit : Bool)
    → AreOthers P superblocks at bits → AreOthers P superblocks at (set bits at bit)
others_put P superblocks at bits bit those = record {
  size = length-set bits at bit ∙ those.size;
  are = λ other ne. (
    λ is_set. (those.are other ne).0 (sym (slice_get-set_other bits at other bit ne) ∙ is_set),
    λ has. slice_get-set_other bits at other bit ne ∙ (those.are other ne).1 has,
  );
}

module _ (P : SuperblockState → Type 0) (superblocks : List SuperblockState) (at : ℕ) (new : SuperblockState) (within : at < length superblocks) where
  has_other : (other : ℕ) → other ≢ at → HasAt P (set superblocks at new) other ↔ HasAt P superblocks other
  has_other other ne = (
    λ (here, (there, has)). (here, (sym (slice_get-set_other superblocks at other new ne) ∙ there, has)),
    λ (here, (there, has)). (here, (slice_get-set_other superblocks at other new ne ∙ there, has)),
  )

  has_here : HasAt P (set superblocks at new) at ↔ P new
  has_here = (
    λ (here, (there, has)). subst P (same_Some here new (sym there ∙ slice_get-set_same superblocks at new within)) has,
    λ has. (new, (slice_get-set_same superblocks at new within, has)),
  )

  -- the position gets its bit
  those_put : (bits : List Bool) (bit : Bool) → at < 1024 → AreOthers P superblocks at bits → (bit ≡ true) ↔ P new
      → AreThose P (set superblocks at new) (set bits at bit)
  those_put bits bit small those tells = record {
    size = length-set bits at bit ∙ those.size;
    are = λ other. ⊎_elim (λ e. at_this other e) (λ ne. at_other other ne) (cases_eq other at);
  }
    where
      here : slice_get (set bits at bit) at ≡ Some bit
      here = slice_get-set_same bits at bit (omega (arith, those.size))

      this : IsSet (set bits at bit) at ↔ HasAt P (set superblocks at new) at
      this = (
        λ is_set. has_here.1 (tells.0 (same_Some bit true (sym here ∙ is_set))),
        λ has. here ∙ ap (λ b. Some b) (tells.1 (has_here.0 has)),
      )

      at_this : (other : ℕ) → other ≡ at → IsSet (set bits at bit) other ↔ HasAt P (set superblocks at new) other
      at_this other e = subst (λ k. IsSet (set bits at bit) k ↔ HasAt P (set superblocks at new) k) (sym e) this

      at_other : (other : ℕ) → other ≢ at → IsSet (set bits at bit) other ↔ HasAt P (set superblocks at new) other
      at_other other ne = (
        λ is_set. (has_other other ne).1 ((those.are other ne).0 (sym (slice_get-set_other bits at other bit ne) ∙ is_set)),
        λ has. slice_get-set_other bits at other bit ne ∙ (those.are other ne).1 ((has_other other ne).0 has),
      )

  -- the bit of the position stays clear, where neither superblock has P
  those_same : (bits : List Bool) (was : SuperblockState) → AreThose P superblocks bits → slice_get superblocks at ≡ Some was → ¬ P was → ¬ P new
      → AreThose P (set superblocks at new) bits
  those_same bits was those there fails fails_too = record {
    size = those.size;
    are = λ other. ⊎_elim
        (λ e. (
          λ is_set. let found = (those.are other).0 is_set in
              absurd (fails (subst P (same_Some found.0 was (sym found.1.0 ∙ ap (slice_get superblocks) e ∙ there)) found.1.1)),
          λ has. absurd (fails_too (has_here.0 (subst (HasAt P (set superblocks at new)) e has))),
        ))
        (λ ne. (λ is_set. (has_other other ne).1 ((those.are other).0 is_set), λ has. (those.are other).1 ((has_other other ne).0 has)))
        (cases_eq other at);
  }

  -- the bit of the position stays, where both superblocks have P, or neither
  those_kept : (bits : List Bool) (was : SuperblockState) → AreThose P superblocks bits → slice_get superblocks at ≡ Some was → P was ↔ P new
      → AreThose P (set superblocks at new) bits
  those_kept bits was those there both = record {
    size = those.size;
    are = λ other. ⊎_elim
        (λ e. (
          λ is_set. let found = (those.are other).0 is_set in
              subst (HasAt P (set superblocks at new)) (sym e)
              (has_here.1 (both.0 (subst P (same_Some found.0 was (sym found.1.0 ∙ ap (slice_get superblocks) e ∙ there)) found.1.1))),
          λ has. (those.are other).1 (was, (ap (slice_get superblocks) e ∙ there, both.1 (has_here.0 (subst (HasAt P (set superblocks at new)) e has)))),
        ))
        (λ ne. (λ is_set. (has_other other ne).1 ((those.are other).0 is_set), λ has. (those.are other).1 ((has_other other ne).0 has)))
        (cases_eq other at);
  }

-- the sets stay, where a superblock of a class had room and blocks out, and has
pub vacancies_kept : (units at class : ℕ) (superblocks : List SuperblockState) (vacancies : Vacancies) (was new : SuperblockState) → AreVacancies units superblocks vacancies
    → slice_get superblocks at ≡ Some was → HasRoom class (capacity units class) was → HasRoom class (capacity units class) new → ¬ IsEmpty was → ¬ IsEmpty new
    → AreVacancies units (set superblocks at new) vacancies
vacancies_kept units at class superblocks vacancies was new are there had has was_some some = record {
  classes = are.classes;
  with_room = λ other fits. those_kept (HasRoom other (capacity units other)) superblocks at new (slice_get_within superblocks at was there) (room_set vacancies other) was (are.with_room other fits) there (
    λ room. subst (λ k. HasRoom k (capacity units k) new) (sym had.of_class ∙ room.of_class) has,
    λ room. subst (λ k. HasRoom k (capacity units k) was) (sym has.of_class ∙ room.of_class) had,
  );
  empty = those_kept IsEmpty superblocks at new (slice_get_within superblocks at was there) vacancies.empty was are.empty there (λ e. absurd (was_some e), λ e. absurd (some e));
}

-- what is noted only where something changed
noted_if : (same : Bool) (P : Vacancies → Type 0) (new old : Vacancies) → P new → (same ≡ true → P old) → P (if same then old else new)
noted_if true P new old noting staying = staying refl
noted_if false P new old noting staying = noting

noted_change : (changed same : Bool) (P : Vacancies → Type 0) (new old : Vacancies) → P new → (changed ≡ false → same ≡ true → P old)
    → P (if changed then new else (if same then old else new))
noted_change true same P new old noting staying = noting
noted_change false same P new old noting staying = noted_if same P new old noting (staying refl)

-- the set of a class after one set was noted: that one, or another
noted_same : (sets : List (List Bool)) (class at : ℕ) (bit : Bool) → class < length sets
    → get_or (with_room_noted sets class at bit) class [] ≡ set (get_or sets class []) at bit
noted_same sets class at bit within = get_or-set_same sets class (set (get_or sets class []) at bit) [] within

noted_other : (sets : List (List Bool)) (class other at : ℕ) (bit : Bool) → other ≢ class
    → get_or (with_room_noted sets class at bit) other [] ≡ get_or sets other []
noted_other sets class other at bit ne = get_or-set_other sets class other (set (get_or sets class []) at bit) [] ne

length-noted : (sets : List (List Bool)) (class at : ℕ) (bit : Bool) → length (with_room_noted sets class at bit) ≡ length sets
length-noted sets class at bit = length-set sets class (set (get_or sets class []) at bit)

module _ (units at : ℕ) (superblocks : List SuperblockState) (vacancies : Vacancies) (was new : SuperblockState) (has_room : Bool)
    (are : AreVacancies units superblocks vacancies) (there : slice_get superblocks at ≡ Some was) (few : length superblocks ≤ 1024)
    (was_fits : was.class ≤ 3) (new_fits : new.class ≤ 3) (tells : (has_room ≡ true) ↔ HasRoom new.class (capacity units new.class) new) where
  abbrev Room : ℕ → SuperblockState → Type 0
  Room class = HasRoom class (capacity units class)

  abbrev left : List (List Bool)
  left = with_room_noted vacancies.with_room was.class at false

  abbrev sets : List (List Bool)
  sets = with_room_noted left new.class at has_room

  within : at < length superblocks
  within = slice_get_within superblocks at was there

  -- all but the position stand in each set after the superblock left its old class
  left_others : (class : ℕ) → class ≤ 3 → (class ≡ was.class) ⊎ (class ≢ was.class) → AreOthers (Room class) superblocks at (get_or left class [])
  left_others class fits (inl e) =
      let here : get_or left class [] ≡ set (room_set vacancies class) at false =
      subst (λ k. get_or left k [] ≡ set (room_set vacancies k) at false) (sym e) (noted_same vacancies.with_room was.class at false (omega (arith, are.classes))) in
      subst (AreOthers (Room class) superblocks at) (sym here)
      (others_put (Room class) superblocks at (room_set vacancies class) false (others_of (Room class) superblocks at (room_set vacancies class) (are.with_room class fits)))
  left_others class fits (inr ne) =
      subst (AreOthers (Room class) superblocks at) (sym (noted_other vacancies.with_room was.class class at false ne))
      (others_of (Room class) superblocks at (room_set vacancies class) (are.with_room class fits))

  -- its class has it exactly where it has room
  of_new_class : AreThose (Room new.class) (set superblocks at new) (get_or sets new.class [])
  of_new_class =
      let size : new.class < length left = omega (arith, are.classes, length-noted vacancies.with_room was.class at false) in
      subst (AreThose (Room new.class) (set superblocks at new)) (sym (noted_same left new.class at has_room size))
      (those_put (Room new.class) superblocks at new within (get_or left new.class []) has_room (omega (arith, within)) (left_others new.class new_fits (cases_eq new.class was.class)) tells)

  -- no other class has it
  of_other_class : (class : ℕ) → class ≤ 3 → class ≢ new.class → AreThose (Room class) (set superblocks at new) (get_or sets class [])
  of_other_class class fits ne =
      subst (AreThose (Room class) (set superblocks at new)) (sym (noted_other left new.class class at has_room ne))
      (⊎_elim of_old of_neither (cases_eq class was.class))
    where
      fails : ¬ Room class new
      fails has = ne (sym has.of_class)

      of_old : class ≡ was.class → AreThose (Room class) (set superblocks at new) (get_or left class [])
      of_old e =
          let here : get_or left class [] ≡ set (room_set vacancies class) at false =
          subst (λ k. get_or left k [] ≡ set (room_set vacancies k) at false) (sym e) (noted_same vacancies.with_room was.class at false (omega (arith, are.classes))) in
          subst (AreThose (Room class) (set superblocks at new)) (sym here)
          (those_put (Room class) superblocks at new within (room_set vacancies class) false (omega (arith, within))
          (others_of (Room class) superblocks at (room_set vacancies class) (are.with_room class fits)) (λ no. absurd (false≢true no), λ has. absurd (fails has)))

      of_neither : class ≢ was.class → AreThose (Room class) (set superblocks at new) (get_or left class [])
      of_neither far =
          subst (AreThose (Room class) (set superblocks at new)) (sym (noted_other vacancies.with_room was.class class at false far))
          (those_same (Room class) superblocks at new within (room_set vacancies class) was (are.with_room class fits) there (λ has. far (sym has.of_class)) fails)

  rooms_noted : (class : ℕ) → class ≤ 3 → AreThose (Room class) (set superblocks at new) (get_or sets class [])
  rooms_noted class fits = ⊎_elim
      (λ e. subst (λ k. AreThose (Room k) (set superblocks at new) (get_or sets k [])) (sym e) of_new_class)
      (of_other_class class fits) (cases_eq class new.class)

  -- after a superblock changed and was noted, the sets have the superblocks with room, and the empty ones
  pub vacancies_noted : (is_empty : Bool) → (is_empty ≡ true) ↔ IsEmpty new
      → AreVacancies units (set superblocks at new) (noted vacancies at was.class new.class has_room is_empty)
  vacancies_noted is_empty empty_tells = record {
    classes = length-noted left new.class at has_room ∙ length-noted vacancies.with_room was.class at false ∙ are.classes;
    with_room = rooms_noted;
    empty = those_put IsEmpty superblocks at new within vacancies.empty is_empty (omega (arith, within)) (others_of IsEmpty superblocks at vacancies.empty are.empty) empty_tells;
  }

-- of an unused pool all superblocks are empty and of class 0
pub unused_vacancies : (number units : ℕ) (vacancies : Vacancies) → 0 < capacity units 0 → AreUnusedVacancies number vacancies
    → AreVacancies units (replicate number (unused units)) vacancies
unused_vacancies number units vacancies some are = record {
  classes = are.classes;
  with_room = of_class;
  empty = all_of IsEmpty vacancies.empty are.empty refl;
}
  where
    there : (at : ℕ) → at < number → slice_get (replicate number (unused units)) at ≡ Some (unused units)
    there at below = slice_get-get_or (replicate number (unused units)) at (unused units) (omega (arith, below, length-replicate number (unused units)))
        ∙ ap (λ s. Some s) (get_or-replicate number at (unused units) (unused units) below)

    all_of : (P : SuperblockState → Type 0) (bits : List Bool) → AreBelow number bits → P (unused units) → AreThose P (replicate number (unused units)) bits
    all_of P bits below has = record {
      size = below.size;
      are = λ at. (
        λ is_set. (unused units, (there at ((below.are at).0 is_set), has)),
        λ (here, (found, has)). (below.are at).1 (omega (arith, slice_get_within (replicate number (unused units)) at here found, length-replicate number (unused units))),
      );
    }

    none_of : (class : ℕ) → 1 ≤ class → class ≤ 3 → AreThose (HasRoom class (capacity units class)) (replicate number (unused units)) (room_set vacancies class)
    none_of class above fits = record {
      size = (are.of_others class above fits).size;
      are = λ at. (
        λ is_set. absurd (omega (arith, ((are.of_others class above fits).are at).0 is_set)),
        λ (here, (found, has)).
            let same : unused units ≡ here = same_in_replicate number (unused units) at here found in
            let class_is : 0 ≡ class = ap (λ (s : SuperblockState). s.class) same ∙ has.of_class in
            absurd (omega (arith, class_is)),
      );
    }

    of_class : (class : ℕ) → class ≤ 3 → AreThose (HasRoom class (capacity units class)) (replicate number (unused units)) (room_set vacancies class)
    of_class zero fits = all_of (HasRoom 0 (capacity units 0)) (room_set vacancies 0) are.of_zero (record { of_class = refl; below = some })
    of_class (suc class) fits = none_of (suc class) (omega arith) fits

-- what the sets say of a pool is what the pool says
pub chosen_seen : {seen pool : PoolState} (class : ℕ) {vacancies : Vacancies} (result : Option ℕ) → seen ≡ pool → class ≤ 3
    → AreVacancies seen.units seen.superblocks vacancies → IfSome result (λ at. IsFirstVacancy vacancies class at) → IfSome result (λ at. IsChosenFor pool class at)
chosen_seen class {vacancies} None same fits are first = tt
chosen_seen {seen} {pool} class {vacancies} (Some at) same fits are first =
    subst (λ (p : PoolState). IsChosenFor p class at) same (chosen_vacancy seen.units class at seen.superblocks vacancies fits are first)

pub no_room_seen : {seen pool : PoolState} (class : ℕ) {vacancies : Vacancies} (result : Option ℕ) → seen ≡ pool → IsSound seen → class ≤ 3
    → AreVacancies seen.units seen.superblocks vacancies → (IsNone result ↔ (IsNoneSet (room_set vacancies class) × IsNoneSet vacancies.empty))
    → IsNone result ↔ HasNoRoom pool class
no_room_seen {seen} {pool} class {vacancies} result same sound fits are none =
    let full = no_vacancy seen.units class seen.superblocks vacancies fits (capacity_fills seen.units class sound.unit_count fits).1 are in
    subst (λ (p : PoolState). IsNone result ↔ HasNoRoom p class) same (λ no. full.0 (none.0 no), λ closed. none.1 (full.1 closed))

-- the sets after a block was given
pub vacancies_given : (units at class was_class bit room : ℕ) (superblocks : List SuperblockState) (vacancies : Vacancies) (was now : SuperblockState) (has_room : Bool)
    → AreVacancies units superblocks vacancies → IsSound (record { units = units; superblocks = superblocks }) → class ≤ 3
    → IsReady (record { units = units; superblocks = superblocks }) class at was → was_class ≡ was.class → room ≡ capacity units class
    → now ≡ given was class bit → (has_room ≡ true) ↔ HasRoom class room now
    → AreVacancies units (set superblocks at now) (noted vacancies at was_class class has_room false)
vacancies_given units at class was_class bit room superblocks vacancies was now has_room are sound fits ready old_class size after tells =
    subst (λ k. AreVacancies units (set superblocks at now) (noted vacancies at k class has_room false)) (sym old_class)
    (subst (λ s. AreVacancies units (set superblocks at s) (noted vacancies at was.class class has_room false)) (sym after)
    (vacancies_noted units at superblocks vacancies was (given was class bit) has_room are ready.there sound.few ready.kept.class_fits fits
    (subst (λ s. (has_room ≡ true) ↔ HasRoom class (capacity units class) s) after (subst (λ k. (has_room ≡ true) ↔ HasRoom class k now) size tells))
    false (λ no. absurd (false≢true no), λ e. absurd (omega (arith, e)))))

-- the sets after a block was taken back
pub vacancies_taken_back : (units at class bit : ℕ) (superblocks : List SuperblockState) (vacancies : Vacancies) (was now : SuperblockState) (is_empty : Bool)
    → AreVacancies units superblocks vacancies → IsSound (record { units = units; superblocks = superblocks })
    → slice_get superblocks at ≡ Some was → IsSet was.set bit → class ≡ was.class → now ≡ taken_back was bit → (is_empty ≡ true) ↔ IsEmpty now
    → AreVacancies units (set superblocks at now) (noted vacancies at class class true is_empty)
vacancies_taken_back units at class bit superblocks vacancies was now is_empty are sound there is_set same after tells =
    let kept = sound.kept at was there in
    let out : 0 < was.count = omega (arith, set_count_some was.set bit is_set, kept.counted) in
    let room : HasRoom was.class (capacity units was.class) (taken_back was bit) = record { of_class = refl; below = omega (arith, kept.within, out) } in
    subst (λ k. AreVacancies units (set superblocks at now) (noted vacancies at k k true is_empty)) (sym same)
    (subst (λ s. AreVacancies units (set superblocks at s) (noted vacancies at was.class was.class true is_empty)) (sym after)
    (vacancies_noted units at superblocks vacancies was (taken_back was bit) true are there sound.few kept.class_fits kept.class_fits (λ _. room, λ _. refl)
    is_empty (subst (λ s. (is_empty ≡ true) ↔ IsEmpty s) after tells)))

-- the same, where it is noted only if something changed
pub change_given : (units at class was_class bit room : ℕ) (superblocks : List SuperblockState) (vacancies : Vacancies) (was now : SuperblockState) (has_room was_empty : Bool)
    → AreVacancies units superblocks vacancies → IsSound (record { units = units; superblocks = superblocks }) → class ≤ 3
    → IsReady (record { units = units; superblocks = superblocks }) class at was → was_class ≡ was.class → room ≡ capacity units class
    → now ≡ given was class bit → (has_room ≡ true) ↔ HasRoom class room now → (was_empty ≡ true) ↔ IsEmpty was
    → AreVacancies units (set superblocks at now) (if was_empty then noted vacancies at was_class class has_room false
    else (if has_room then vacancies else noted vacancies at was_class class has_room false))
change_given units at class was_class bit room superblocks vacancies was now has_room was_empty are sound fits ready old_class size after tells tells_empty =
    noted_change was_empty has_room (AreVacancies units (set superblocks at now)) (noted vacancies at was_class class has_room false) vacancies
    (vacancies_given units at class was_class bit room superblocks vacancies was now has_room are sound fits ready old_class size after tells)
    (λ not_empty with_room.
    let some : ¬ IsEmpty was = λ e. false≢true (sym not_empty ∙ tells_empty.1 e) in
    let of_class : was.class ≡ class = ⊎_elim (λ same. same) (λ e. absurd (some e)) ready.of_class in
    vacancies_kept units at class superblocks vacancies was now are ready.there (record { of_class = of_class; below = ready.below })
    (subst (λ k. HasRoom class k now) size (tells.0 with_room)) some
    (λ e. omega (arith, ap (λ (s : SuperblockState). s.count) after, e)))

pub change_taken_back : (units at class bit room : ℕ) (superblocks : List SuperblockState) (vacancies : Vacancies) (was now : SuperblockState) (is_empty had_room : Bool)
    → AreVacancies units superblocks vacancies → IsSound (record { units = units; superblocks = superblocks })
    → slice_get superblocks at ≡ Some was → IsSet was.set bit → class ≡ was.class → room ≡ capacity units class → now ≡ taken_back was bit → (is_empty ≡ true) ↔ IsEmpty now
    → (had_room ≡ true) ↔ HasRoom class room was
    → AreVacancies units (set superblocks at now) (if is_empty then noted vacancies at class class true is_empty
    else (if had_room then vacancies else noted vacancies at class class true is_empty))
change_taken_back units at class bit room superblocks vacancies was now is_empty had_room are sound there is_set same size after tells tells_room =
    noted_change is_empty had_room (AreVacancies units (set superblocks at now)) (noted vacancies at class class true is_empty) vacancies
    (vacancies_taken_back units at class bit superblocks vacancies was now is_empty are sound there is_set same after tells)
    (λ not_empty with_room.
    let kept = sound.kept at was there in
    let out : 0 < was.count = omega (arith, set_count_some was.set bit is_set, kept.counted) in
    let had : HasRoom class (capacity units class) was = subst (λ k. HasRoom class k was) size (tells_room.0 with_room) in
    vacancies_kept units at class superblocks vacancies was now are there had
    (record { of_class = ap (λ (s : SuperblockState). s.class) after ∙ had.of_class; below = omega (arith, ap (λ (s : SuperblockState). s.count) after, had.below) })
    (λ e. omega (arith, e, out)) (λ e. false≢true (sym not_empty ∙ tells.1 e)))
