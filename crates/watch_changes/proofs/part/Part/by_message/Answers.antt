-- The lines that were found are in RAM.
use Rattle.std.proofs.Common.{◌<◌, arith, subst}
use Rattle.std.proofs.lemmas.Bool.Decides.{nat_tests}
use Rattle.std.specs.List.{All}
use Rattle.tcc_base.specs.Settings.{Settings}
use Rattle.tcc_base.specs.declared.names.LineAddr.{LineAddr}
use Rattle.rules_maps.specs.Shape.{lines}
use Rattle.net_core.specs.Machine.{settings_of}
use Rattle.watch_changes.proofs.Listing.{lines-inside}
use Rattle.watch_changes.proofs.ReachedSets.{no-sets-inside}
use Rattle.watch_changes.proofs.part.Part.by_message.Goals as goal

pub returns-clause-inside : goal.returns-clause-inside
returns-clause-inside c = record {
  node = grind (arith, nat_tests);
  sets = no-sets-inside (settings_of c.args.system.now).sets _ c.new.ensures;
  known = subst (λ (s : Settings). All (λ (l : LineAddr). l.0 < lines s) c.in_ok-known_lines.field-0) c.config-config.ensures
      (lines-inside c.in_ok-known_lines.field-0 _ (lines c.config-config.result.now) (c.in_ok-known_lines.ensures (λ w. 0)));
  words = subst (λ (s : Settings). All (λ (l : LineAddr). l.0 < lines s) c.in_ok-home_lines.field-0) c.config-config.ensures
      (lines-inside c.in_ok-home_lines.field-0 _ (lines c.config-config.result.now) c.in_ok-home_lines.ensures);
}
