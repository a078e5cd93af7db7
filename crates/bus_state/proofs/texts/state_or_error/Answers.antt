-- The lines, one after another.
use Rattle.std.proofs.Common.{◌≡◌, ◌++◌, ap, codes, ◌∙◌, rules, string_bytes}
use Rattle.image_load.specs.Contents.{started}
use Rattle.image_load.specs.Start.{first_ram}
use Rattle.tcc_base.specs.Settings.{Settings}
use Rattle.schedule_text.specs.Grammar.{newline}
use Rattle.report_text.specs.Lines.{end_line, events_line}
use Rattle.rules_bus.specs.Useful.{bus_evicts, bus_execs, bus_takes}
use Rattle.bus_tcc.specs.Machine.{bus_history_of, bus_program_of, bus_settings_of, bus_start_of, bus_world_of}
use Rattle.bus_trace.specs.Lines.{bus_config_line}
use Rattle.watch_state.specs.Lines.{record_lines}
use Rattle.bus_state.specs.Lines.{bus_record_lines}
use Rattle.bus_state.specs.Parts.{bus_records, cores_records}
use Rattle.bus_state.specs.Text.{bus_state_text, enabled_lines}
use Rattle.bus_state.proofs.texts.state_or_error.Goals as goal

pub returns : goal.returns
unfolding bus_state_text bus_history_of started
returns c =
    let m = c.args.system.now in
    let sh = bus_settings_of m in
    let w = bus_world_of m in
    let config = bus_config_line sh in
    let cores = record_lines (cores_records sh w) in
    let machine = bus_record_lines (bus_records sh (first_ram (bus_start_of m)) w) in
    let events = enabled_lines sh (bus_program_of m) w (bus_execs sh ++ (bus_evicts sh ++ bus_takes sh)) in
    let t0 = string_bytes c.in_ok-text.text in
    let head : t0 ≡ codes "tcc-bus-state 1" ++ newline = search rules in
    c.in_ok-push_events.ensures
    ∙ ap (λ t. t ++ events_line c.args.events) (c.in_ok-push_end.ensures
    ∙ ap (λ t. t ++ end_line c.args.done) (c.in_ok-push_all_enabled.ensures
    ∙ ap (λ t. t ++ events) (c.in_ok-push_machine.ensures
    ∙ ap (λ t. t ++ machine) (c.in_ok-push_cores.ensures
    ∙ ap (λ t. t ++ cores) (c.in_ok-push_bus_config.ensures ∙ ap (λ (s : Settings). t0 ++ bus_config_line s) c.config.ensures
    ∙ ap (λ t. t ++ config) head)))))
