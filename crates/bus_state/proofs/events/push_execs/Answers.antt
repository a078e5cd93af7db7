-- Each core in turn.
use Rattle.std.proofs.Common.{◌≡◌, ◌++◌, ap, arith, sym, ◌∙◌, string_bytes}
use Rattle.std.proofs.lemmas.List.Folds.{flat_map-map}
use Rattle.tcc_base.specs.Settings.{Settings}
use Rattle.rules_tcc.specs.Seen.{numbers}
use Rattle.rules_bus.specs.State.{Exec}
use Rattle.rules_bus.specs.Useful.{bus_execs}
use Rattle.bus_tcc.specs.Machine.{bus_settings_of}
use Rattle.watch_state.proofs.Lemmas.{piece-more}
use Rattle.bus_state.specs.Text.{enabled_lines}
use Rattle.bus_state.proofs.Told.{text_of_event}
use Rattle.bus_state.proofs.events.push_execs.Goals as goal

pub loop-core-preserved : goal.loop-core-preserved
loop-core-preserved c =
    piece-more (λ k. text_of_event c.args.system.now (Exec k)) c.loop-core.core (string_bytes c.args.text.now)
    (string_bytes c.loop-core.text) (string_bytes c.push_if_enabled.new.text) c.loop-core.invariant c.in_ok-push_if_enabled.ensures

pub returns : goal.returns
unfolding enabled_lines bus_execs
returns c =
    let m = c.args.system.now in
    let bound : c.cores-core-end.result ≡ (bus_settings_of m).cores =
    c.cores-core-end.ensures.value ∙ ap (λ (s : Settings). s.cores) c.config.ensures in
    let all : c.loop-core.core ≡ (bus_settings_of m).cores = omega (arith, bound, c.loop-core-test.false, c.loop-core.auto.core-end) in
    (rw all at c.loop-core.invariant)
    ∙ ap (λ t. string_bytes c.args.text.now ++ t) (sym (flat_map-map (text_of_event m) (λ k. Exec k) (numbers (bus_settings_of m).cores)))
