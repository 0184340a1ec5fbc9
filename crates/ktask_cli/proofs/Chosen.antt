-- What is done for words, from what comes of them.
use Rattle.std.proofs.Common.{inl, inr, Option, Some, None, Result, Ok, Err, refl, sym, subst}
use Rattle.tool_io.specs.Seen.{ShelfSeen}
use Rattle.tool_words.specs.Choice.{Choice, Run, Bench, Plain, Check, Print, Help, GivesOrWants}
use Rattle.tool_words.specs.declared.words_error.WordsError.{WordsError}
use Rattle.tool_words.specs.declared.words_error.WordsError.TheVariants.{Refused, Memory}
use Rattle.ktask_cli.specs.Outcome.{Answer, Does, DoesChosen, plain_chosen, plain_of}

wanted : (choice : Option Choice) (was is : ShelfSeen) (a : Answer) → DoesChosen (Err Memory) was is a → Does choice was is a
wanted None was is a d = inr d
wanted (Some choice) was is a d = inr d

-- the words were looked at, and what they choose was done
pub does : (choice : Option Choice) (chosen : Result Choice WordsError) (was is : ShelfSeen) (a : Answer) → GivesOrWants choice chosen → DoesChosen chosen was is a → Does choice was is a
does choice (Ok made) was is a gives d = subst (λ o. Does o was is a) (sym gives) (inl d)
does choice (Err Refused) was is a gives d = subst (λ o. Does o was is a) (sym gives) (inl d)
does choice (Err Memory) was is a gives d = wanted choice was is a d

gives_plain : (made : Choice) → GivesOrWants (plain_of (Some made)) (plain_chosen (Ok made))
gives_plain (Run run) = refl
gives_plain (Bench bench) = refl
gives_plain (Plain run) = refl
gives_plain (Check name) = refl
gives_plain (Print name) = refl
gives_plain Help = refl

pub plain_gives : (choice : Option Choice) (chosen : Result Choice WordsError) → GivesOrWants choice chosen → GivesOrWants (plain_of choice) (plain_chosen chosen)
plain_gives choice (Ok made) gives = subst (λ o. GivesOrWants (plain_of o) (plain_chosen (Ok made))) (sym gives) (gives_plain made)
plain_gives choice (Err Refused) gives = subst (λ o. GivesOrWants (plain_of o) (Err Refused)) (sym gives) refl
plain_gives choice (Err Memory) gives = tt
