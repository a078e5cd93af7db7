-- The summary tells what is committed.
use Rattle.std.proofs.Common.{◌≡◌, ◌∙◌, ◌/◌, ap, length, subst}
use Rattle.image_load.specs.Contents.{started}
use Rattle.report_text.specs.Trial.{trial_text}
use Rattle.tcc_base.specs.Settings.{IsAllowed}
use Rattle.theorem_riscv.specs.Given.{committed}
use Rattle.rules_tcc.specs.Seen.{seen}
use Rattle.net_core.specs.Machine.{history_of, settings_of, world_of}
use Rattle.tcc_cli.specs.Runs.{summary_text}
use Rattle.tcc_cli.proofs.Machines.{ends-by}
use Rattle.tcc_cli.proofs.reports.summary_of.Goals as goal

same : (c : goal.After-drop-3)
    → trial_text (record {
      work = c.args.work;
      number = c.args.number;
      done = c.done-done.result;
      events = c.events.result;
      commits = length c.commits.result.now;
      count = (settings_of c.in_ok-ram.ram).ram / 4;
      ram = seen (settings_of c.in_ok-ram.ram) (world_of c.in_ok-ram.ram);
      loaded = (started c.args.loaded.now).word;
    })
    ≡ summary_text (started c.args.loaded.now) c.args.work c.args.number c.done-done.result c.args.system.now.events
    (history_of c.args.system.now)
unfolding summary_text committed history_of started
same c =
    let m = c.args.system.now in
    let read = c.in_ok-ram.ensures in
    let code = c.requires.code in
    λ i. trial_text (record {
      work = c.args.work;
      number = c.args.number;
      done = c.done-done.result;
      events = c.events.ensures.count i;
      commits = length (c.commits.ensures i);
      count = (ap (λ n. (settings_of n).ram / 4) read ∙ ap (λ k. k.settings.ram / 4) code) i;
      ram = (ap (λ n. seen (settings_of n) (world_of n)) read ∙ ap (λ k. seen k.settings (world_of m)) code) i;
      loaded = (started c.args.loaded.now).word;
    })

pub returns-clause-runs : goal.returns-clause-runs
returns-clause-runs c =
    ends-by c.args.system.now c.args.loaded.now c.done-done.result (subst IsAllowed c.config.ensures c.settings_are_allowed.ensures)
    c.requires.code c.done-done.ensures

pub returns-clause-text : goal.returns-clause-text
returns-clause-text c = c.in_ok-text.ensures ∙ same c
