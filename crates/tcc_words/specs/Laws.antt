-- What two answers about the same words have in common.
use Rattle.std.specs.Prelude.{◌≡◌, List}
use Rattle.clap.specs.Words.{Text}
use Rattle.tcc_words.specs.Asked.{IsCommand, IsRefused}
use Rattle.tcc_words.specs.declared.command.Command.{Command}
use Rattle.tcc_words.specs.declared.command.WordsFault.{WordsFault}
use Rattle.tcc_words.specs.declared.command.WordsFault.TheVariants.{Memory}

-- words ask for one command at most
abbrev pub WordsAskForOneCommand : Type 0
WordsAskForOneCommand = (words : List Text) (c d : Command) → IsCommand words c → IsCommand words d → c ≡ d

-- words that ask for one are refused only for want of memory
abbrev pub CommandsAreNotRefused : Type 0
CommandsAreNotRefused = (words : List Text) (c : Command) (f : WordsFault) → IsCommand words c → IsRefused words f → f ≡ Memory
