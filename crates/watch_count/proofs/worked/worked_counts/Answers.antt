-- The counts of each schedule are computed by the definitions alone.
use Rattle.std.proofs.Common.{refl}
use Rattle.std.specs.Fmt.{digits}
use Rattle.watch_count.specs.Tables.{attempts_after, instructions_after, done_counted, accesses_after, evictions_after}
use Rattle.watch_count.specs.Tables.{phase_counted, core_after, event_came}
use Rattle.watch_count.specs.Messages.{messages_after}
use Rattle.watch_count.specs.Places.{line_after, conflict_after}
use Rattle.watch_count.specs.Sizes.{weight}
use Rattle.watch_count.specs.Counts.{changed, kept_changed, nothing_counted, counted, all_counted, event_begun, event_counted}
use Rattle.watch_count.specs.Counts.{run_counted}
use Rattle.watch_count.specs.Totals.{attempts_plus, instructions_plus, accesses_plus, evictions_plus, phases_plus, core_plus}
use Rattle.watch_count.specs.Totals.{cores_after}
use Rattle.watch_count.specs.Lines.{named, row, line_line, conflict_line}
use Rattle.watch_count.specs.Text.{rows_from, table_text}
use Rattle.watch_count.specs.Worked.{told}
use Rattle.watch_count.proofs.worked.worked_counts.Goals as goal

pub returns-clause-doomed_attempts : goal.returns-clause-doomed_attempts
unfolding attempts_after instructions_after done_counted accesses_after evictions_after phase_counted core_after event_came
    messages_after line_after conflict_after weight changed kept_changed nothing_counted counted all_counted event_begun event_counted
    run_counted told
returns-clause-doomed_attempts c = refl

pub returns-clause-doomed_instructions : goal.returns-clause-doomed_instructions
unfolding attempts_after instructions_after done_counted accesses_after evictions_after phase_counted core_after event_came
    messages_after line_after conflict_after weight changed kept_changed nothing_counted counted all_counted event_begun event_counted
    run_counted told
returns-clause-doomed_instructions c = refl

pub returns-clause-doomed_phases : goal.returns-clause-doomed_phases
unfolding attempts_after instructions_after done_counted accesses_after evictions_after phase_counted core_after event_came
    messages_after line_after conflict_after weight changed kept_changed nothing_counted counted all_counted event_begun event_counted
    run_counted told
returns-clause-doomed_phases c = refl

pub returns-clause-doomed_lines : goal.returns-clause-doomed_lines
unfolding attempts_after instructions_after done_counted accesses_after evictions_after phase_counted core_after event_came
    messages_after line_after conflict_after weight changed kept_changed nothing_counted counted all_counted event_begun event_counted
    run_counted told
returns-clause-doomed_lines c = refl

pub returns-clause-doomed_conflicts : goal.returns-clause-doomed_conflicts
unfolding attempts_after instructions_after done_counted accesses_after evictions_after phase_counted core_after event_came
    messages_after line_after conflict_after weight changed kept_changed nothing_counted counted all_counted event_begun event_counted
    run_counted told
returns-clause-doomed_conflicts c = refl

pub returns-clause-stale_fill_accesses : goal.returns-clause-stale_fill_accesses
unfolding attempts_after instructions_after done_counted accesses_after evictions_after phase_counted core_after event_came
    messages_after line_after conflict_after weight changed kept_changed nothing_counted counted all_counted event_begun event_counted
    run_counted told
returns-clause-stale_fill_accesses c = refl

pub returns-clause-stale_fill_requests : goal.returns-clause-stale_fill_requests
unfolding attempts_after instructions_after done_counted accesses_after evictions_after phase_counted core_after event_came
    messages_after line_after conflict_after weight changed kept_changed nothing_counted counted all_counted event_begun event_counted
    run_counted told
returns-clause-stale_fill_requests c = refl

pub returns-clause-dirty_evictions : goal.returns-clause-dirty_evictions
unfolding attempts_after instructions_after done_counted accesses_after evictions_after phase_counted core_after event_came
    messages_after line_after conflict_after weight changed kept_changed nothing_counted counted all_counted event_begun event_counted
    run_counted told
returns-clause-dirty_evictions c = refl

pub returns-clause-late_write_back : goal.returns-clause-late_write_back
unfolding attempts_after instructions_after done_counted accesses_after evictions_after phase_counted core_after event_came
    messages_after line_after conflict_after weight changed kept_changed nothing_counted counted all_counted event_begun event_counted
    run_counted told
returns-clause-late_write_back c = refl

pub returns-clause-overflow_accesses : goal.returns-clause-overflow_accesses
unfolding attempts_after instructions_after done_counted accesses_after evictions_after phase_counted core_after event_came
    messages_after line_after conflict_after weight changed kept_changed nothing_counted counted all_counted event_begun event_counted
    run_counted told
returns-clause-overflow_accesses c = refl

pub returns-clause-overflow_evictions : goal.returns-clause-overflow_evictions
unfolding attempts_after instructions_after done_counted accesses_after evictions_after phase_counted core_after event_came
    messages_after line_after conflict_after weight changed kept_changed nothing_counted counted all_counted event_begun event_counted
    run_counted told
returns-clause-overflow_evictions c = refl

pub returns-clause-doomed_rows : goal.returns-clause-doomed_rows
unfolding attempts_after instructions_after done_counted accesses_after evictions_after phase_counted core_after event_came
    messages_after line_after conflict_after weight changed kept_changed nothing_counted counted all_counted event_begun event_counted
    run_counted told attempts_plus instructions_plus accesses_plus evictions_plus phases_plus core_plus cores_after named row line_line
    conflict_line rows_from table_text digits
returns-clause-doomed_rows c = refl

pub returns-clause-doomed_places : goal.returns-clause-doomed_places
unfolding attempts_after instructions_after done_counted accesses_after evictions_after phase_counted core_after event_came
    messages_after line_after conflict_after weight changed kept_changed nothing_counted counted all_counted event_begun event_counted
    run_counted told attempts_plus instructions_plus accesses_plus evictions_plus phases_plus core_plus cores_after named row line_line
    conflict_line rows_from table_text digits
returns-clause-doomed_places c = refl
