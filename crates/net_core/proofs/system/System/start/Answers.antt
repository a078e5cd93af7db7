-- The first machine.
use Rattle.std.proofs.Common.{refl, ap, ◌∙◌, subst}
use Rattle.image_load.specs.Contents.{started}
use Rattle.tcc_base.specs.Settings.{IsAllowed}
use Rattle.tcc_base.specs.declared.names.NodeId.TheVariants.{Vendor}
use Rattle.machine_cores.specs.Bank.{first_core}
use Rattle.net_core.specs.Machine.{Machine}
use Rattle.net_core.proofs.Starting.{IsFirst, first-history, first-whole}
use Rattle.net_core.proofs.system.System.start.Goals as goal

abbrev the_machine : goal.After-new-5 → Machine
the_machine c = record {
  cores = c.in_ok-start.field-0;
  dirs = c.in_ok-start-2.field-0;
  next = c.new-2.result;
  flights = c.in_ok-new.field-0;
  sender = Vendor;
  unsent = c.new-4.result.list.items;
  last = c.new-4.result.list.items;
  commits = c.new-5.result.list;
  room = c.new-5.result.room;
  events = 0;
}

first : (c : goal.After-new-5) → IsFirst c.args.loaded.now (the_machine c)
first c = record {
  allowed = subst IsAllowed c.config.ensures c.cores.ensures.allowed;
  code = c.in_ok-start.ensures.code ∙ c.in_ok-code.ensures ∙ c.in_ok-copy.ensures;
  cores = c.in_ok-start.ensures.start ∙ ap (λ k. first_core (started k)) (c.in_ok-code.ensures ∙ c.in_ok-copy.ensures);
  settings = c.in_ok-start-2.ensures.settings;
  dirs = c.in_ok-start-2.ensures.start;
  next = c.new-2.ensures;
  flight_cores = c.in_ok-new.ensures.cores ∙ c.cores.ensures.value ∙ ap (λ s. s.cores) c.config.ensures;
  flight_dirs = c.in_ok-new.ensures.dirs ∙ c.dirs.ensures.value ∙ ap (λ s. s.dirs) c.config.ensures;
  net = c.in_ok-new.ensures.net;
  unsent = c.new-4.ensures;
  commits = c.new-5.ensures;
  events = refl;
}

pub invariant_of-result : goal.invariant_of-result
invariant_of-result c = first-whole c.args.loaded.now _ (first c)

pub returns-clause-start : goal.returns-clause-start
returns-clause-start c = first-history c.args.loaded.now _ (first c)
