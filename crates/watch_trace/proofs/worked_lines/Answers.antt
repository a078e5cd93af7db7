-- The lines of each row are computed by the definitions alone.
use Rattle.rules_tcc.proofs.Lemmas.{computed}
use Rattle.rules_program.specs.Registers.{zeroed, register, written}
use Rattle.rules_tcc.specs.Rows.{padded, both_words, both_code}
use Rattle.rules_tcc.specs.Small.{at_pc, address, call_need, small, image_entry}
use Rattle.watch.specs.Instructions.{last_loaded, last_stored, done, addr_of, executed, evicted}
use Rattle.watch.specs.Messages.{taken, commit_of, words_read}
use Rattle.watch.specs.Happened.{numbered, sent_to, sent, happened}
use Rattle.std.specs.Fmt.{char_count, digits, padded_integral}
use Rattle.rules_maps.specs.Masks.{has}
use Rattle.schedule_text.specs.Grammar.{config_line, node_word, event_line}
use Rattle.report_text.specs.Lines.{end_line, events_line}
use Rattle.watch_trace.specs.Words.{field, value_words, fill_words, home_words, committed_words, keeps_words}
use Rattle.watch_trace.specs.Words.{acknowledged_words, message_words, phase_words, access_words, done_words}
use Rattle.watch_trace.specs.Lines.{wanted_words, cause_words, name_words, fact_words, fact_line}
use Rattle.watch_trace.specs.Text.{event_and_facts, event_texts, text_from, version_line, from_line, head_text, tail_text}
use Rattle.std.proofs.Common.{refl}
use Rattle.watch_trace.proofs.worked_lines.Goals as goal

pub returns-clause-finished : goal.returns-clause-finished
unfolding field char_count digits padded_integral access_words done_words fact_words fact_line
returns-clause-finished c = refl

pub returns-clause-undone : goal.returns-clause-undone
unfolding field char_count digits padded_integral wanted_words cause_words phase_words fact_words fact_line
returns-clause-undone c = refl

pub returns-clause-moved : goal.returns-clause-moved
unfolding field digits phase_words fact_words fact_line
returns-clause-moved c = refl

pub returns-clause-delivered : goal.returns-clause-delivered
unfolding field digits committed_words message_words fact_words fact_line
returns-clause-delivered c = refl

pub returns-clause-sent : goal.returns-clause-sent
unfolding field char_count digits padded_integral has node_word value_words fill_words home_words keeps_words acknowledged_words
    message_words name_words fact_words fact_line
returns-clause-sent c = refl

pub returns-clause-last_of_doomed_attempt : goal.returns-clause-last_of_doomed_attempt
unfolding computed zeroed register written padded both_words both_code at_pc address call_need small image_entry last_loaded last_stored
    done addr_of executed evicted taken commit_of words_read numbered sent_to sent happened field char_count digits padded_integral
    node_word event_line committed_words keeps_words acknowledged_words message_words phase_words cause_words name_words fact_words
    fact_line event_and_facts event_texts text_from
returns-clause-last_of_doomed_attempt c = refl

pub returns-clause-first_and_last : goal.returns-clause-first_and_last
unfolding field digits config_line end_line events_line version_line from_line head_text tail_text
returns-clause-first_and_last c = (refl, refl)
