use Rattle.rules_maps.proofs.Looks.{looks-miss, looks-overflow, looks-room, any-word, reads-masked}
use Rattle.rules_maps.proofs.looks_are_exact.Goals as goal

pub returns-clause-miss : goal.returns-clause-miss
returns-clause-miss c = looks-miss

pub returns-clause-overflow : goal.returns-clause-overflow
returns-clause-overflow c = λ sh l s m. looks-overflow sh l m s

pub returns-clause-room : goal.returns-clause-room
returns-clause-room c = λ sh l s m. looks-room sh l m s

pub returns-clause-word : goal.returns-clause-word
returns-clause-word c = any-word

pub returns-clause-reads : goal.returns-clause-reads
returns-clause-reads c = reads-masked
