-- The laws of the words of superblocks, by name.
use Rattle.std.proofs.Common.{◌≡◌, arith}
use Rattle.kt_words.specs.SuperWordLaws.{SuperWordSaysItsNumbers, SuperWordIsItsNumbers, SuperWordSaysItsValue, SuperWordHasOneValue, SuperWordFits, CountRises, CountFalls, EverRises, ClassChanges, WordReserves, WordReservesSame, EverIsCounted}

pub super_word_says_its_numbers : SuperWordSaysItsNumbers
super_word_says_its_numbers count class ever a b = record { count_is = omega arith; class_is = omega arith; ever_is = omega arith }

pub super_word_is_its_numbers : SuperWordIsItsNumbers
super_word_is_its_numbers word = omega arith

pub super_word_says_its_value : SuperWordSaysItsValue
super_word_says_its_value value fits = (
  super_word_says_its_numbers value.count value.class value.ever (omega (arith, fits.count_fits)) (omega (arith, fits.class_fits)),
  omega (arith, fits.count_fits, fits.class_fits),
  omega (arith, fits.count_fits, fits.class_fits, fits.ever_fits),
)

pub super_word_has_one_value : SuperWordHasOneValue
super_word_has_one_value one other fits fits' e =
    let counts : one.count ≡ other.count = omega (arith, fits.count_fits, fits'.count_fits, fits.class_fits, fits'.class_fits, e) in
    let classes : one.class ≡ other.class = omega (arith, fits.count_fits, fits'.count_fits, fits.class_fits, fits'.class_fits, e) in
    let evers : one.ever ≡ other.ever = omega (arith, fits.count_fits, fits'.count_fits, fits.class_fits, fits'.class_fits, e) in
    λ i. record { count = counts i; class = classes i; ever = evers i }

pub super_word_fits : SuperWordFits
super_word_fits word = (λ h. omega arith, λ h. omega arith)

pub count_rises : CountRises
count_rises word below = record { count_is = omega arith; class_is = omega arith; ever_is = omega arith }

pub count_falls : CountFalls
count_falls word some = record { count_is = omega arith; class_is = omega arith; ever_is = omega arith }

pub ever_rises : EverRises
ever_rises word = record { count_is = omega arith; class_is = omega arith; ever_is = omega arith }

pub class_changes : ClassChanges
class_changes word class fits = record { count_is = omega arith; class_is = omega arith; ever_is = omega arith }

pub word_reserves : WordReserves
word_reserves word class below fits =
    (record { count_is = omega arith; class_is = omega arith; ever_is = omega arith }, omega arith)

pub word_reserves_same : WordReservesSame
word_reserves_same word below rises = omega arith

pub ever_is_counted : EverIsCounted
ever_is_counted = (λ ever below. omega (arith, below), λ ever above. omega (arith, above))
