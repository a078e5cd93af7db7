-- The core is one of the machine's, and the sets are those of its cache.
use Rattle.std.proofs.Common.{◌<◌, ℕ, arith, subst}
use Rattle.std.proofs.lemmas.Bool.Decides.{nat_tests}
use Rattle.std.specs.List.{All}
use Rattle.tcc_base.specs.Settings.{Settings}
use Rattle.tcc_base.specs.declared.names.LineAddr.{LineAddr}
use Rattle.rules_maps.specs.Shape.{Shape, lines}
use Rattle.net_core.specs.Machine.{settings_of}
use Rattle.watch_changes.proofs.ReachedSets.{no-lines-inside, sets-inside}
use Rattle.watch_changes.proofs.part.Part.of_core.Goals as goal

pub returns-clause-inside : goal.returns-clause-inside
returns-clause-inside c =
    let sh : Settings = settings_of c.args.system.now in
    record {
      node = grind (arith, nat_tests);
      sets = subst (λ (s : Settings). All (λ (x : ℕ). x < s.sets) c.in_ok-sets_of.field-0) c.core.ensures.config
          (sets-inside c.in_ok-sets_of.field-0 _ c.core.result.now.config.sets c.in_ok-sets_of.ensures);
      known = no-lines-inside (lines sh) c.new.result c.new.ensures;
      words = no-lines-inside (lines sh) c.new-2.result c.new-2.ensures;
    }
