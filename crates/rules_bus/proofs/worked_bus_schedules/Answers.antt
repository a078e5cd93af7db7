-- Each schedule is computed by the definitions alone.
use Rattle.std.proofs.Common.{refl}
use Rattle.rules_tcc.proofs.Lemmas.{computed}
use Rattle.rules_tcc.specs.Needs.{need_at, needs_after, needs, entry}
use Rattle.rules_tcc.specs.Rows.{changed}
use Rattle.rules_tcc.specs.Told.{words_with, told_core, first_words}
use Rattle.rules_bus.specs.Commit.{written_words, with_words, wrote_some, all_clean, bus_commit}
use Rattle.rules_bus.specs.Exec.{line_words, line_at_hand, instruction, gone_alone, bus_exec}
use Rattle.rules_bus.specs.State.{bus_start}
use Rattle.rules_bus.specs.Step.{bus_names, bus_step, bus_next, bus_from, bus_run}
use Rattle.rules_bus.specs.Take.{reads_some, packet_invalidated, packet_taken, bus_take}
use Rattle.rules_bus.specs.Told.{bus_told}
use Rattle.rules_bus.specs.Useful.{bus_is_useful, bus_execs, bus_evicts, bus_takes, bus_useful}
use Rattle.rules_bus.proofs.worked_bus_schedules.Goals as goal

pub returns : goal.returns
unfolding computed need_at needs_after needs entry changed words_with told_core first_words written_words with_words wrote_some all_clean
    bus_commit line_words line_at_hand instruction gone_alone bus_exec bus_start bus_names bus_step bus_next bus_from bus_run reads_some
    packet_invalidated
    packet_taken bus_take bus_told bus_is_useful bus_execs bus_evicts bus_takes bus_useful
returns c = record {
  anew = (refl, refl);
  taken = (refl, refl);
  alone = (refl, refl);
  late = (refl, refl);
  quiet = refl;
  waiting = refl;
  fills = (refl, refl, refl, refl, refl);
}
