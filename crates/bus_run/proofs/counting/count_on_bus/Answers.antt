-- From the machine at its start to the end of the run.
use Rattle.std.proofs.Common.{ap, ◌∙◌}
use Rattle.bus_count.specs.Counts.{nothing_on_bus}
use Rattle.bus_tcc.specs.Machine.{bus_history_of}
use Rattle.bus_run.proofs.Counts.{counted-first}
use Rattle.bus_run.proofs.Leading.{as-many, leads}
use Rattle.bus_run.proofs.counting.count_on_bus.Goals as goal

pub returns : goal.returns
returns c =
    let start = c.in_ok-run.ensures in
    let did = c.in_ok-count_events.ensures in
    record {
      ends = bus_history_of c.count_events.new.run.system;
      leads = leads c.args.loaded.now c.args.seed c.args.steps c.in_ok-run.run' c.count_events.new.run c.done.result start did.gone
          did.ended c.commits.ensures.refined c.done.ensures;
      all = c.events.ensures.count
          ∙ as-many c.args.loaded.now c.args.seed c.args.steps c.in_ok-run.run' c.count_events.new.run start did.gone did.ended;
      counted = counted-first c.args.loaded.now c.args.seed c.args.steps c.in_ok-run.run' c.in_ok-counts.counts
          c.count_events.new.counts start (c.in_ok-counts.ensures ∙ ap (λ s. nothing_on_bus s.cores) c.config.ensures) did.counted;
    }
