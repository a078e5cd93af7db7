-- The lines, one after another.
use Rattle.std.proofs.Common.{◌≡◌, ◌++◌, ap, codes, ◌∙◌, rules, string_bytes}
use Rattle.std.specs.List.{flat_map}
use Rattle.image_load.specs.Contents.{started}
use Rattle.image_load.specs.Start.{first_ram}
use Rattle.tcc_base.specs.Settings.{Settings}
use Rattle.rules_tcc.specs.Useful.{delivers, evicts, execs, nodes}
use Rattle.schedule_text.specs.Grammar.{config_line, newline}
use Rattle.report_text.specs.Lines.{end_line, events_line}
use Rattle.net_core.specs.Machine.{history_of, program_of, settings_of, start_of, world_of}
use Rattle.watch_state.specs.Lines.{record_lines}
use Rattle.watch_state.specs.Text.{events_text, node_records, records_from, state_records, state_text}
use Rattle.watch_state.proofs.Growing.{led-none, lines-then}
use Rattle.watch_state.proofs.texts.state_or_error.Goals as goal

pub returns : goal.returns
unfolding state_text state_records history_of started
returns c =
    let m = c.args.system.now in
    let sh = settings_of m in
    let w = world_of m in
    let config = config_line sh in
    let of_nodes = node_records sh (first_ram (start_of m)) w in
    let flights = flat_map (records_from sh w) (nodes sh) in
    let records = record_lines (of_nodes ++ flights) in
    let events = events_text sh (program_of m) w (execs sh ++ (evicts sh ++ delivers sh w)) in
    let t0 = string_bytes c.in_ok-text.text in
    let t1 = string_bytes c.push_config.new.text in
    let t2 = string_bytes c.push_nodes.new.text in
    let t3 = string_bytes c.push_links.new.text in
    let head : t0 ≡ codes "tcc-state 1" ++ newline = search rules in
    c.in_ok-push_events.ensures
    ∙ ap (λ t. t ++ events_line c.args.events) (c.in_ok-push_end.ensures
    ∙ ap (λ t. t ++ end_line c.args.done) (c.in_ok-push_all_enabled.ensures
    ∙ ap (λ t. t ++ events) (lines-then of_nodes flights t1 t2 t3 c.in_ok-push_nodes.ensures
    (c.in_ok-push_links.ensures ∙ ap (λ t. t2 ++ t) (led-none flights))
    ∙ ap (λ t. t ++ records) (c.in_ok-push_config.ensures ∙ ap (λ (s : Settings). t0 ++ config_line s) c.config.ensures
    ∙ ap (λ t. t ++ config) head))))
