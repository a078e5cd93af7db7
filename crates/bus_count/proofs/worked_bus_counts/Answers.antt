-- The counts of each schedule are computed by the definitions alone.
use Rattle.std.proofs.Common.{refl}
use Rattle.std.specs.Fmt.{digits}
use Rattle.watch_count.specs.Tables.{attempts_after, instructions_after, done_counted, accesses_after, evictions_after}
use Rattle.watch_count.specs.Tables.{phase_counted, core_after, event_came}
use Rattle.watch_count.specs.Messages.{messages_after}
use Rattle.watch_count.specs.Places.{line_after, conflict_after}
use Rattle.watch_count.specs.Sizes.{weight}
use Rattle.watch_count.specs.Counts.{changed, kept_changed, nothing_counted, counted, all_counted, event_begun}
use Rattle.watch_count.specs.Lines.{named, line_line, conflict_line}
use Rattle.bus_count.specs.Counts.{packets_after, lines_after, nothing_on_bus, bus_counted, all_bus_counted, bus_event_begun}
use Rattle.bus_count.specs.Counts.{bus_event_counted, bus_run_counted}
use Rattle.bus_count.specs.Text.{packets_line}
use Rattle.bus_count.specs.Worked.{bus_told}
use Rattle.bus_count.proofs.worked_bus_counts.Goals as goal

pub returns-clause-reader_attempts : goal.returns-clause-reader_attempts
unfolding attempts_after instructions_after done_counted accesses_after evictions_after phase_counted core_after event_came
    messages_after line_after conflict_after weight changed kept_changed nothing_counted counted all_counted event_begun
    packets_after lines_after nothing_on_bus bus_counted all_bus_counted bus_event_begun bus_event_counted bus_run_counted bus_told
returns-clause-reader_attempts c = refl

pub returns-clause-reader_lines : goal.returns-clause-reader_lines
unfolding attempts_after instructions_after done_counted accesses_after evictions_after phase_counted core_after event_came
    messages_after line_after conflict_after weight changed kept_changed nothing_counted counted all_counted event_begun
    packets_after lines_after nothing_on_bus bus_counted all_bus_counted bus_event_begun bus_event_counted bus_run_counted bus_told
    digits named line_line conflict_line packets_line
returns-clause-reader_lines c = refl

pub returns-clause-reader_conflicts : goal.returns-clause-reader_conflicts
unfolding attempts_after instructions_after done_counted accesses_after evictions_after phase_counted core_after event_came
    messages_after line_after conflict_after weight changed kept_changed nothing_counted counted all_counted event_begun
    packets_after lines_after nothing_on_bus bus_counted all_bus_counted bus_event_begun bus_event_counted bus_run_counted bus_told
    digits named line_line conflict_line packets_line
returns-clause-reader_conflicts c = refl

pub returns-clause-reader_packets : goal.returns-clause-reader_packets
unfolding attempts_after instructions_after done_counted accesses_after evictions_after phase_counted core_after event_came
    messages_after line_after conflict_after weight changed kept_changed nothing_counted counted all_counted event_begun
    packets_after lines_after nothing_on_bus bus_counted all_bus_counted bus_event_begun bus_event_counted bus_run_counted bus_told
returns-clause-reader_packets c = refl

pub returns-clause-reader_packets_line : goal.returns-clause-reader_packets_line
unfolding attempts_after instructions_after done_counted accesses_after evictions_after phase_counted core_after event_came
    messages_after line_after conflict_after weight changed kept_changed nothing_counted counted all_counted event_begun
    packets_after lines_after nothing_on_bus bus_counted all_bus_counted bus_event_begun bus_event_counted bus_run_counted bus_told
    digits named line_line conflict_line packets_line
returns-clause-reader_packets_line c = refl

pub returns-clause-alone_attempts : goal.returns-clause-alone_attempts
unfolding attempts_after instructions_after done_counted accesses_after evictions_after phase_counted core_after event_came
    messages_after line_after conflict_after weight changed kept_changed nothing_counted counted all_counted event_begun
    packets_after lines_after nothing_on_bus bus_counted all_bus_counted bus_event_begun bus_event_counted bus_run_counted bus_told
returns-clause-alone_attempts c = refl

pub returns-clause-alone_instructions : goal.returns-clause-alone_instructions
unfolding attempts_after instructions_after done_counted accesses_after evictions_after phase_counted core_after event_came
    messages_after line_after conflict_after weight changed kept_changed nothing_counted counted all_counted event_begun
    packets_after lines_after nothing_on_bus bus_counted all_bus_counted bus_event_begun bus_event_counted bus_run_counted bus_told
returns-clause-alone_instructions c = refl

pub returns-clause-alone_phases : goal.returns-clause-alone_phases
unfolding attempts_after instructions_after done_counted accesses_after evictions_after phase_counted core_after event_came
    messages_after line_after conflict_after weight changed kept_changed nothing_counted counted all_counted event_begun
    packets_after lines_after nothing_on_bus bus_counted all_bus_counted bus_event_begun bus_event_counted bus_run_counted bus_told
returns-clause-alone_phases c = refl

pub returns-clause-alone_lines : goal.returns-clause-alone_lines
unfolding attempts_after instructions_after done_counted accesses_after evictions_after phase_counted core_after event_came
    messages_after line_after conflict_after weight changed kept_changed nothing_counted counted all_counted event_begun
    packets_after lines_after nothing_on_bus bus_counted all_bus_counted bus_event_begun bus_event_counted bus_run_counted bus_told
returns-clause-alone_lines c = refl

pub returns-clause-alone_packets : goal.returns-clause-alone_packets
unfolding attempts_after instructions_after done_counted accesses_after evictions_after phase_counted core_after event_came
    messages_after line_after conflict_after weight changed kept_changed nothing_counted counted all_counted event_begun
    packets_after lines_after nothing_on_bus bus_counted all_bus_counted bus_event_begun bus_event_counted bus_run_counted bus_told
returns-clause-alone_packets c = refl
