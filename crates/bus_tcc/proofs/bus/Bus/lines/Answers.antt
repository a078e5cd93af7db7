-- No packet has no words.
use Rattle.std.proofs.Common.{ap, sym}
use Rattle.core_node.specs.AtHand.{words_in}
use Rattle.bus_tcc.specs.Left.{packet_words}
use Rattle.bus_tcc.specs.Machine.{bus_of}
use Rattle.bus_tcc.proofs.bus.Bus.lines.Goals as goal

pub returns-in-Free-clause-words : goal.returns-in-Free-clause-words
unfolding words_in
returns-in-Free-clause-words c = sym (ap (λ b. packet_words (bus_of b)) c.in-Free.is)

pub returns-in-Alone-clause-words : goal.returns-in-Alone-clause-words
unfolding words_in
returns-in-Alone-clause-words c = sym (ap (λ b. packet_words (bus_of b)) c.in-Alone.is)
