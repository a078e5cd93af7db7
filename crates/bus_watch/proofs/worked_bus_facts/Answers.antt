-- The facts of each schedule are computed by the definitions alone.
use Rattle.std.proofs.Common.{refl}
use Rattle.rules_tcc.proofs.Lemmas.{computed}
use Rattle.rules_tcc.specs.Needs.{need_at, needs_after, needs, entry}
use Rattle.rules_tcc.specs.Told.{first_words}
use Rattle.rules_bus.specs.Commit.{written_words, with_words, wrote_some, all_clean, bus_commit}
use Rattle.rules_bus.specs.Exec.{line_words, line_at_hand, instruction, gone_alone, bus_exec}
use Rattle.rules_bus.specs.State.{bus_start}
use Rattle.rules_bus.specs.Step.{bus_names, bus_step, bus_next}
use Rattle.rules_bus.specs.Take.{reads_some, packet_invalidated, packet_taken, bus_take}
use Rattle.bus_tcc.specs.Packets.{packet_lines}
use Rattle.watch.specs.Instructions.{last_loaded, last_stored, done, addr_of, evicted}
use Rattle.watch.specs.Messages.{commit_of, words_read}
use Rattle.bus_watch.specs.Happened.{comes_from_memory, has_gone_alone, waits_for_bus, executed, first_read, taken, bus_happened}
use Rattle.bus_watch.specs.Worked.{bus_facts_from, bus_facts_of_codes}
use Rattle.bus_watch.proofs.worked_bus_facts.Goals as goal

pub returns-clause-anew : goal.returns-clause-anew
unfolding computed need_at needs_after needs entry first_words written_words with_words wrote_some all_clean bus_commit line_words
    line_at_hand instruction gone_alone bus_exec bus_start bus_names bus_step bus_next reads_some packet_invalidated packet_taken bus_take
    packet_lines last_loaded last_stored done addr_of evicted commit_of words_read comes_from_memory has_gone_alone
    waits_for_bus executed first_read taken bus_happened
    bus_facts_from bus_facts_of_codes
returns-clause-anew c = refl

pub returns-clause-alone : goal.returns-clause-alone
unfolding computed need_at needs_after needs entry first_words written_words with_words wrote_some all_clean bus_commit line_words
    line_at_hand instruction gone_alone bus_exec bus_start bus_names bus_step bus_next reads_some packet_invalidated packet_taken bus_take
    packet_lines last_loaded last_stored done addr_of evicted commit_of words_read comes_from_memory has_gone_alone
    waits_for_bus executed first_read taken bus_happened
    bus_facts_from bus_facts_of_codes
returns-clause-alone c = refl
