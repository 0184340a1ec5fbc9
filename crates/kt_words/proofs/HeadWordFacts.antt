-- The laws of the heads of waiting lists, by name.
use Rattle.std.proofs.Common.{◌≡◌, inl, inr, Some, None, refl, ap, arith}
use Rattle.kt_words.specs.HeadWordLaws.{HeadWordSaysItsNumbers, HeadWordIsItsNumbers, HeadWordSaysItsValue, HeadWordHasOneValue, LinkHasOneCode, ListedIsNotClosed, LengthRises, LengthFalls, FirstChanges}
use Rattle.kt_words.specs.declared.head_word.HeadWord.TheVariants.{Listed, Closed}

pub link_has_one_code : LinkHasOneCode
link_has_one_code None None e = refl
link_has_one_code None (Some b) e = absurd (omega (arith, e))
link_has_one_code (Some a) None e = absurd (omega (arith, e))
link_has_one_code (Some a) (Some b) e = let same : a ≡ b = omega (arith, e) in ap Some same

pub head_word_says_its_numbers : HeadWordSaysItsNumbers
head_word_says_its_numbers link length fits = record { link_is = omega arith; length_is = omega arith }

pub head_word_is_its_numbers : HeadWordIsItsNumbers
head_word_is_its_numbers word = omega arith

pub head_word_says_its_value : HeadWordSaysItsValue
head_word_says_its_value Closed fits = (refl, inl refl, omega arith)
head_word_says_its_value (Listed first length) fits =
    ((omega (arith, fits.0), omega (arith, fits.0)), inr (omega (arith, fits.0, fits.1)), omega (arith, fits.0, fits.1))

pub head_word_has_one_value : HeadWordHasOneValue
head_word_has_one_value Closed Closed fits fits' e = refl
head_word_has_one_value Closed (Listed first length) fits fits' e = absurd (omega (arith, fits'.0, fits'.1, e))
head_word_has_one_value (Listed first length) Closed fits fits' e = absurd (omega (arith, fits.0, fits.1, e))
head_word_has_one_value (Listed first length) (Listed first' length') fits fits' e =
    let links : first ≡ first' = link_has_one_code first first' (omega (arith, fits.0, fits'.0, e)) in
    let lengths : length ≡ length' = omega (arith, fits.0, fits'.0, e) in
    λ i. Listed (links i) (lengths i)

pub listed_is_not_closed : ListedIsNotClosed
listed_is_not_closed word fits = (λ e. omega (arith, e, fits), omega (arith, fits))

pub length_rises : LengthRises
length_rises word = record { link_is = omega arith; length_is = omega arith }

pub length_falls : LengthFalls
length_falls word some = record { link_is = omega arith; length_is = omega arith }

pub first_changes : FirstChanges
first_changes word link fits = record { link_is = omega arith; length_is = omega arith }
