-- The report shows what is committed.
use Rattle.std.proofs.Common.{◌≡◌, ◌∙◌, ◌/◌, ap}
use Rattle.image_load.specs.Contents.{started}
use Rattle.report_text.specs.Text.{bus_text}
use Rattle.theorem_bus.specs.Given.{bus_committed}
use Rattle.bus_tcc.specs.Machine.{bus_history_of, bus_settings_of, bus_start_of, bus_world_of}
use Rattle.bus_tool.specs.Report.{bus_run_text}
use Rattle.bus_tool.proofs.reports.bus_report.Goals as goal

same : (c : goal.After-drop-consoles-inside-2)
    → bus_text c.done.result c.events.result (record {
      commits = c.commits.result.now;
      cores = c.deref.result.now;
      base = c.base.result;
      count = (bus_settings_of c.args.bus.now).ram / 4;
      ram = (bus_world_of c.args.bus.now).ram;
      loaded = (started c.code.result.now).word;
    })
    ≡ bus_run_text (bus_start_of c.args.bus.now) c.done.result c.args.bus.now.events (bus_history_of c.args.bus.now)
unfolding bus_run_text bus_committed bus_history_of started
same c =
    let m = c.args.bus.now in
    λ i. bus_text c.done.result (c.events.ensures.count i) (record {
      commits = c.commits.ensures.commits i;
      cores = (c.deref.ensures.value ∙ c.cores-2.view_is ∙ c.in_ok-cores.ensures) i;
      base = (c.base.ensures.value ∙ ap (λ s. s.base) c.config.ensures) i;
      count = (bus_settings_of m).ram / 4;
      ram = (bus_world_of m).ram;
      loaded = (started (c.code.ensures i)).word;
    })

pub returns : goal.returns
returns c = record { done = c.done.result; is_done = c.done.ensures; text = c.in_ok-text.ensures ∙ same c }
