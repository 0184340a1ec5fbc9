-- The laws of the words of states, by name.
use Rattle.std.proofs.Common.{◌≡◌, ◌≤◌, arith}
use Rattle.kt_words.specs.StateWords.{phase_code, tag_code}
use Rattle.kt_words.specs.StateWordLaws.{StateWordSaysItsNumbers, StateWordIsItsNumbers, StateWordSaysItsValue, StateWordHasOneValue, PhaseHasOneCode, TagHasOneCode, PhaseChanges, PriorityChanges, TagChanges, NumberChanges}
use Rattle.kt_words.specs.declared.phase.Phase.{Phase}
use Rattle.kt_words.specs.declared.phase.Phase.TheVariants.{Free, Made, Waiting, Ready, Running, Complete}
use Rattle.kt_words.specs.declared.tag.Tag.{Tag}
use Rattle.kt_words.specs.declared.tag.Tag.TheVariants.{Unset, Number, Overflow, Divide, NoRow, Null, Limit}

pub phase_code_fits : (phase : Phase) → phase_code phase ≤ 5
phase_code_fits Free = omega arith
phase_code_fits Made = omega arith
phase_code_fits Waiting = omega arith
phase_code_fits Ready = omega arith
phase_code_fits Running = omega arith
phase_code_fits Complete = omega arith

pub tag_code_fits : (tag : Tag) → tag_code tag ≤ 6
tag_code_fits Unset = omega arith
tag_code_fits Number = omega arith
tag_code_fits Overflow = omega arith
tag_code_fits Divide = omega arith
tag_code_fits NoRow = omega arith
tag_code_fits Null = omega arith
tag_code_fits Limit = omega arith

pub phase_has_one_code : PhaseHasOneCode
phase_has_one_code one other e = grind (arith, e)

pub tag_has_one_code : TagHasOneCode
tag_has_one_code one other e = grind (arith, e)

pub state_word_says_its_numbers : StateWordSaysItsNumbers
state_word_says_its_numbers phase priority tag number a b c =
    record { phase_is = omega arith; priority_is = omega arith; tag_is = omega arith; number_is = omega arith }

pub state_word_is_its_numbers : StateWordIsItsNumbers
state_word_is_its_numbers word = omega arith

pub state_word_says_its_value : StateWordSaysItsValue
state_word_says_its_value value fits = (
  state_word_says_its_numbers (phase_code value.phase) value.priority (tag_code value.tag) value.number (omega (arith, phase_code_fits value.phase)) (omega (arith, fits.priority_fits)) (omega (arith, tag_code_fits value.tag)),
  record {
    phase_fits = omega (arith, phase_code_fits value.phase);
    priority_fits = omega (arith, phase_code_fits value.phase, fits.priority_fits);
    tag_fits = omega (arith, phase_code_fits value.phase, tag_code_fits value.tag, fits.priority_fits);
    number_fits = omega (arith, phase_code_fits value.phase, tag_code_fits value.tag, fits.priority_fits, fits.number_fits);
  },
  omega (arith, phase_code_fits value.phase, tag_code_fits value.tag, fits.priority_fits, fits.number_fits),
)

pub state_word_has_one_value : StateWordHasOneValue
state_word_has_one_value one other fits fits' e =
    let says = (state_word_says_its_value one fits).0 in
    let says' = (state_word_says_its_value other fits').0 in
    let phases : one.phase ≡ other.phase = phase_has_one_code one.phase other.phase (grind (arith, e, says.phase_is, says'.phase_is)) in
    let priorities : one.priority ≡ other.priority = grind (arith, e, says.priority_is, says'.priority_is) in
    let tags : one.tag ≡ other.tag = tag_has_one_code one.tag other.tag (grind (arith, e, says.tag_is, says'.tag_is)) in
    let numbers : one.number ≡ other.number = grind (arith, e, says.number_is, says'.number_is) in
    λ i. record { phase = phases i; priority = priorities i; tag = tags i; number = numbers i }

pub phase_changes : PhaseChanges
phase_changes word phase fits =
    record { phase_is = omega arith; priority_is = omega arith; tag_is = omega arith; number_is = omega arith }

pub priority_changes : PriorityChanges
priority_changes word priority fits =
    record { phase_is = omega arith; priority_is = omega arith; tag_is = omega arith; number_is = omega arith }

pub tag_changes : TagChanges
tag_changes word tag fits =
    record { phase_is = omega arith; priority_is = omega arith; tag_is = omega arith; number_is = omega arith }

pub number_changes : NumberChanges
number_changes word number =
    record { phase_is = omega arith; priority_is = omega arith; tag_is = omega arith; number_is = omega arith }
