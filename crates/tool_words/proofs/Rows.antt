-- What the getters of `clap` answer, by its rows.
use Rattle.std.proofs.Common.{◌≡◌, Option, Some, None, option_map, option_copied, sym, ◌∙◌}
use Rattle.std.specs.Borrow.{Bor}
use Rattle.clap.specs.Walk.{Text, first_of, rows_of}
use Rattle.clap.specs.Matches.{first_value}
use Rattle.clap.specs.declared.parser.matches.Found.{Found}
use Rattle.clap.proofs.WalkLemmas.{first_value-rows}

-- a word that was got is the first of its name
pub first_got : (found : Found) (name word : Text) → Some word ≡ first_value found name → first_of name (rows_of found) ≡ Some word
first_got found name word got = sym (got ∙ first_value-rows found name)

-- where none was got, there is none
pub none_got : (found : Found) (name : Text) → None ≡ first_value found name → first_of name (rows_of found) ≡ None
none_got found name got = sym (got ∙ first_value-rows found name)

-- a word that may have been got
pub maybe_got : (found : Found) (name : Text) (got : Option (Bor Text)) → option_map (λ word. word.now) got ≡ first_value found name → first_of name (rows_of found) ≡ option_copied got
maybe_got found name None e = none_got found name e
maybe_got found name (Some word) e = first_got found name word.now e
