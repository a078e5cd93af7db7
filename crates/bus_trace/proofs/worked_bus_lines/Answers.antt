-- The lines of each row are computed by the definitions alone.
use Rattle.std.proofs.Common.{refl}
use Rattle.std.specs.Fmt.{char_count, digits, padded_integral}
use Rattle.rules_maps.specs.Masks.{has}
use Rattle.rules_tcc.proofs.Lemmas.{computed}
use Rattle.rules_tcc.specs.Needs.{need_at, needs_after, needs, entry}
use Rattle.rules_tcc.specs.Told.{first_words}
use Rattle.rules_bus.specs.Commit.{written_words, with_words, wrote_some, all_clean, bus_commit}
use Rattle.rules_bus.specs.Exec.{line_words, line_at_hand, instruction, gone_alone, bus_exec}
use Rattle.rules_bus.specs.State.{bus_start}
use Rattle.rules_bus.specs.Step.{bus_names, bus_step, bus_next}
use Rattle.rules_bus.specs.Take.{reads_some, packet_invalidated, packet_taken, bus_take}
use Rattle.bus_tcc.specs.Packets.{packet_lines}
use Rattle.watch.specs.Instructions.{last_loaded, last_stored, done, addr_of, evicted}
use Rattle.watch.specs.Messages.{commit_of, words_read}
use Rattle.watch_trace.specs.Words.{field, value_words, phase_words, access_words, done_words}
use Rattle.watch_trace.specs.Lines.{wanted_words, cause_words, fact_words, fact_line}
use Rattle.watch_trace.specs.Text.{from_line}
use Rattle.bus_watch.specs.Happened.{comes_from_memory, has_gone_alone, waits_for_bus, executed, first_read, taken, bus_happened}
use Rattle.bus_trace.specs.Lines.{bus_config_line, bus_event_line, holder_words, packet_line_words, bus_fact_line}
use Rattle.bus_trace.specs.Text.{bus_event_and_facts, bus_event_texts, bus_text_from, bus_version_line, bus_head_text}
use Rattle.bus_trace.proofs.worked_bus_lines.Goals as goal

pub returns-clause-facts : goal.returns-clause-facts
unfolding field char_count digits padded_integral has value_words phase_words wanted_words cause_words fact_words fact_line holder_words
    packet_line_words bus_fact_line
returns-clause-facts c = refl

pub returns-clause-head : goal.returns-clause-head
unfolding field digits from_line bus_config_line bus_version_line bus_head_text
returns-clause-head c = refl

pub returns-clause-last_of_alone : goal.returns-clause-last_of_alone
unfolding computed need_at needs_after needs entry first_words written_words with_words wrote_some all_clean bus_commit line_words
    line_at_hand instruction gone_alone bus_exec bus_start bus_names bus_step bus_next reads_some packet_invalidated packet_taken bus_take
    packet_lines last_loaded last_stored done addr_of evicted commit_of words_read comes_from_memory has_gone_alone waits_for_bus
    executed first_read taken bus_happened field char_count digits padded_integral has value_words phase_words access_words done_words
    wanted_words cause_words fact_words fact_line holder_words packet_line_words bus_fact_line bus_event_line bus_event_and_facts
    bus_event_texts bus_text_from
returns-clause-last_of_alone c = refl
