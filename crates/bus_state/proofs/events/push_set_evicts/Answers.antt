-- Each way in turn.
use Rattle.std.proofs.Common.{◌≡◌, ◌++◌, ap, arith, sym, ◌∙◌, string_bytes}
use Rattle.std.proofs.lemmas.List.Folds.{flat_map-map}
use Rattle.tcc_base.specs.Settings.{Settings}
use Rattle.rules_tcc.specs.Seen.{numbers}
use Rattle.rules_bus.specs.State.{Evict}
use Rattle.bus_tcc.specs.Machine.{bus_settings_of}
use Rattle.watch_state.proofs.Lemmas.{piece-more}
use Rattle.bus_state.specs.Text.{enabled_lines, set_evicts}
use Rattle.bus_state.proofs.Told.{text_of_event}
use Rattle.bus_state.proofs.events.push_set_evicts.Goals as goal

pub loop-way-preserved : goal.loop-way-preserved
loop-way-preserved c =
    piece-more (λ k. text_of_event c.args.system.now (Evict c.args.core.0 c.args.set k)) c.loop-way.way (string_bytes c.args.text.now)
    (string_bytes c.loop-way.text) (string_bytes c.push_if_enabled.new.text) c.loop-way.invariant c.in_ok-push_if_enabled.ensures

pub returns : goal.returns
unfolding enabled_lines set_evicts
returns c =
    let m = c.args.system.now in
    let bound : c.ways-way-end.result ≡ (bus_settings_of m).ways =
    c.ways-way-end.ensures.value ∙ ap (λ (s : Settings). s.ways) c.config.ensures in
    let all : c.loop-way.way ≡ (bus_settings_of m).ways = omega (arith, bound, c.loop-way-test.false, c.loop-way.auto.way-end) in
    (rw all at c.loop-way.invariant)
    ∙ ap (λ t. string_bytes c.args.text.now ++ t)
    (sym (flat_map-map (text_of_event m) (λ k. Evict c.args.core.0 c.args.set k) (numbers (bus_settings_of m).ways)))
