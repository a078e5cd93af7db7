-- The next word is told.
use Rattle.std.proofs.Common.{append-nil, string_bytes, sym}
use Rattle.image_load.specs.Start.{first_ram}
use Rattle.rules_maps.specs.Words.{those, word_at}
use Rattle.bus_tcc.specs.Machine.{bus_settings_of, bus_start_of, bus_world_of, word_in}
use Rattle.watch_state.proofs.Lemmas.{flats-more}
use Rattle.bus_changes.specs.Changes.{bus_change_line, bus_change_lines, word_changes}
use Rattle.bus_changes.proofs.memory.push_line.Goals as goal

pub loop-k-init : goal.loop-k-init
unfolding bus_change_lines those
loop-k-init c = sym (append-nil (string_bytes c.args.text.now))

pub loop-k-preserved : goal.loop-k-preserved
unfolding bus_change_lines
loop-k-preserved c =
    let m = c.args.system.now in
    flats-more bus_change_line
    (λ k. word_changes (bus_settings_of m) (first_ram (bus_start_of m)) (word_in c.args.was.now) (bus_world_of m).ram
    (word_at c.args.line k))
    c.loop-k.k (string_bytes c.args.text.now) (string_bytes c.loop-k.text) (string_bytes c.push_word.new.text)
    c.loop-k.invariant c.in_ok-push_word.ensures
