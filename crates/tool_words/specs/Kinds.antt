-- What is made of an error of `clap`.
use Rattle.clap.specs.declared.error.kind.ErrorKind.{ErrorKind}
use Rattle.clap.specs.declared.error.kind.ErrorKind.TheVariants.{OutOfMemory}
use Rattle.tool_words.specs.declared.words_error.WordsError.{WordsError}
use Rattle.tool_words.specs.declared.words_error.WordsError.TheVariants.{Refused, Memory}

-- memory ran out, or the words are refused
abbrev pub error_of : ErrorKind → WordsError
error_of OutOfMemory = Memory
error_of _ = Refused
