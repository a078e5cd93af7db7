-- The next line is told.
use Rattle.std.proofs.Common.{arith, string_bytes}
use Rattle.image_load.specs.Start.{first_ram}
use Rattle.bus_tcc.specs.Machine.{bus_settings_of, bus_start_of, bus_world_of, word_in}
use Rattle.bus_changes.specs.Changes.{words_changes}
use Rattle.bus_changes.proofs.Words.{lines-all, lines-on}
use Rattle.bus_changes.proofs.memory.push_lines.Goals as goal

pub loop-at-preserved : goal.loop-at-preserved
loop-at-preserved c =
    let m = c.args.system.now in (
      omega (arith, c.loop-at-test.true),
      lines-on (words_changes (bus_settings_of m) (first_ram (bus_start_of m)) (word_in c.args.was.now) (bus_world_of m).ram)
          c.args.touched.now c.loop-at.at _ (string_bytes c.loop-at.text) (string_bytes c.push_line.new.text) _ c.loop-at-test.true
          c.in_ok-push_line.ensures c.loop-at.invariant.1,
    )

pub returns : goal.returns
returns c =
    let m = c.args.system.now in
    lines-all (words_changes (bus_settings_of m) (first_ram (bus_start_of m)) (word_in c.args.was.now) (bus_world_of m).ram)
    c.args.touched.now c.loop-at.at (string_bytes c.loop-at.text) _ (omega (arith, c.loop-at-test.false)) c.loop-at.invariant.1
