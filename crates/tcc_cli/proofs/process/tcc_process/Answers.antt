-- The words couldn't be collected.
use Rattle.std.proofs.Common.{refl}
use Rattle.tcc_cli.proofs.Ending.{not-collected}
use Rattle.tcc_cli.proofs.process.tcc_process.Goals as goal

pub returns-in-Err-texts-clause-words : goal.returns-in-Err-texts-clause-words
returns-in-Err-texts-clause-words g c =
    not-collected c.args.given _ _ _ (λ n. refl) refl c.refuse-in-Err-texts.ensures.status c.refuse-in-Err-texts.ensures.told

pub returns-in-Err-words_of-clause-words : goal.returns-in-Err-words_of-clause-words
returns-in-Err-words_of-clause-words g c =
    not-collected c.args.given _ _ _ (λ n. refl) refl c.refuse-in-Err-words_of.ensures.status c.refuse-in-Err-words_of.ensures.told
