-- The text shows the plain machine.
use Rattle.std.proofs.Common.{◌≡◌, ◌∙◌, ◌/◌, IfOk, ap, map, subst}
use Rattle.std.specs.List.{range_with_len}
use Rattle.std.specs.String.{string_bytes}
use Rattle.image_load.specs.Contents.{started}
use Rattle.report_text.specs.Plain.{shown_core}
use Rattle.report_text.specs.Text.{serial_text}
use Rattle.rv_plain.specs.PlainState.{plain_of}
use Rattle.tcc_cli.specs.Lists.{list_text}
use Rattle.tcc_cli.proofs.lists.text.Goals as goal

same : (c : goal.After-drop-cores-inside)
    → serial_text (record {
      commits = c.deref.result.now;
      cores = c.deref-2.result.now;
      base = c.base.result;
      count = c.args.plain.now.loaded.settings.ram / 4;
      ram = (plain_of c.args.plain.now).ram;
      loaded = (started c.args.loaded.now).word;
    })
    ≡ list_text (started c.args.loaded.now) c.args.commits.now (plain_of c.args.plain.now)
unfolding list_text started
same c = λ i. serial_text (record {
  commits = (c.deref.ensures.value ∙ c.commits.view_is) i;
  cores = (c.deref-2.ensures.value ∙ c.cores-2.view_is ∙ c.in_ok-cores.ensures
      ∙ ap (λ s. map (λ core. shown_core ((plain_of c.args.plain.now).cores core)) (range_with_len 0 s.cores)) c.config-config.ensures) i;
  base = (c.base.ensures.value ∙ ap (λ s. s.base) c.config-config.ensures) i;
  count = (ap (λ k. k.settings.ram / 4) c.requires) i;
  ram = (plain_of c.args.plain.now).ram;
  loaded = (started c.args.loaded.now).word;
})

pub returns : goal.returns
returns c = subst (λ bytes. IfOk c.serial_report.result (λ text. string_bytes text ≡ bytes)) (same c) c.serial_report.ensures
