use Rattle.tcc_words.proofs.OneCommand.{not-refused, one-command}
use Rattle.tcc_words.proofs.laws.words_ask_for_one_command.Goals as goal

pub returns-clause-one : goal.returns-clause-one
returns-clause-one c = one-command

pub returns-clause-not_refused : goal.returns-clause-not_refused
returns-clause-not_refused c = not-refused
