-- What there is now is kept, and all of it is told.
use Rattle.std.proofs.Common.{◌++◌, ◌∙◌, ap, [], append_assoc, length, map, string_bytes}
use Rattle.std.specs.Prelude.{get_or}
use Rattle.image_load.specs.Start.{first_ram}
use Rattle.rules_tcc.specs.Seen.{numbers}
use Rattle.bus_tcc.specs.Machine.{bus_settings_of, bus_start_of, bus_world_of}
use Rattle.watch_state.specs.Plain.{record_of}
use Rattle.watch_changes.specs.Changes.{all_lines}
use Rattle.bus_state.specs.Parts.{bus_records, cores_records}
use Rattle.bus_changes.specs.Changes.{Told, bus_change_lines}
use Rattle.bus_changes.specs.Plain.{core_records_now}
use Rattle.bus_changes.specs.Text.{bus_all_lines}
use Rattle.bus_changes.proofs.Begun.{fits-all, kept-one, lines-flat}
use Rattle.bus_changes.proofs.Steps.{bus-copied, lines-copied}
use Rattle.bus_changes.proofs.keeping.BusKept.begin.Goals as goal

pub returns-clause-kept : goal.returns-clause-kept
returns-clause-kept c =
    let m = c.args.system.now in
    let sh = bus_settings_of m in
    record {
      fits = record {
        cores = ap length c.cores.view_is ∙ fits-all (core_records_now m) _ sh.cores c.in_ok-cores.ensures.kept;
        ram = c.in_ok-copied_memory.ensures.count;
      };
      cores = λ d h. ap (λ ls. map record_of (get_or ls d [])) c.cores.view_is
          ∙ kept-one (core_records_now m) _ sh.cores d c.in_ok-cores.ensures.kept h;
      next = c.next.ensures;
      bus = bus-copied (bus_world_of m).bus _ _ c.in_ok-copied.ensures c.bus.ensures.bus;
      packet = lines-copied sh (bus_world_of m).bus _ _ c.in_ok-copied.ensures c.bus.ensures.bus c.bus.ensures.lines;
      ram = c.in_ok-copied_memory.ensures.words;
    }

pub returns-clause-told : goal.returns-clause-told
unfolding bus_all_lines cores_records
returns-clause-told c =
    let m = c.args.system.now in
    let sh = bus_settings_of m in
    let t0 = string_bytes c.args.text.now in
    let bus = bus_change_lines (map Told (bus_records sh (first_ram (bus_start_of m)) (bus_world_of m))) in
    c.in_ok-push_machine.ensures ∙ ap (λ t. t ++ bus) (c.in_ok-cores.ensures.told
    ∙ ap (λ t. t0 ++ t) (lines-flat (core_records_now m) (numbers sh.cores)))
    ∙ append_assoc t0 (all_lines (cores_records sh (bus_world_of m))) bus
