use Rattle.tcc_cli.specs.Commands.{start_from}
use Rattle.tcc_cli.proofs.Continued.{cut-is-whole}
use Rattle.tcc_words.specs.declared.command.Command.TheVariants.{Long}
use Rattle.tcc_cli.proofs.laws.cut_runs_are_whole.Goals as goal

pub returns : goal.returns
returns c = λ machine images begin steps view keep files told done text seed before comes is.
    cut-is-whole c.runs_go_on_from_texts.ensures c.texts_tell_runs_apart.ensures
    (start_from (Long machine images begin steps view keep) files) begin files steps view keep told done text seed before comes is
