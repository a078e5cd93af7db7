-- The first machine.
use Rattle.std.proofs.Common.{refl, ap, ◌∙◌}
use Rattle.image_load.specs.Contents.{started}
use Rattle.machine_cores.specs.Bank.{first_core}
use Rattle.bus_tcc.specs.Machine.{BusMachine}
use Rattle.bus_tcc.specs.declared.bus.Bus.TheVariants.{Free}
use Rattle.bus_tcc.proofs.Starting.{IsFirst, first-history, first-whole}
use Rattle.bus_tcc.proofs.engine.Engine.start.Goals as goal

abbrev the_machine : goal.After-new-3 → BusMachine
the_machine c = record {
  code = c.in_ok-start.field-0.code;
  cores = c.in_ok-start.field-0.cores;
  ram = c.in_ok-start_words.field-0;
  bus = Free;
  next = 1;
  commits = c.new-2.result.list;
  room = c.new-2.result.room;
  events = 0;
}

first : (c : goal.After-new-3) → IsFirst c.args.loaded.now (the_machine c)
first c =
    let code = c.in_ok-code.ensures ∙ c.in_ok-copy.ensures in
    record {
      allowed = c.in_ok-start_words.ensures.allowed;
      one_home = c.requires;
      code = c.in_ok-start.ensures.code ∙ code;
      cores = c.in_ok-start.ensures.start ∙ ap (λ k. first_core (started k)) code;
      count = c.in_ok-start_words.ensures.count;
      words = c.in_ok-start_words.ensures.words;
      bus = refl;
      next = refl;
      commits = c.new-2.ensures;
      events = refl;
    }

pub invariant_of-result : goal.invariant_of-result
invariant_of-result c = first-whole c.args.loaded.now _ (first c)

pub returns-clause-start : goal.returns-clause-start
returns-clause-start c = first-history c.args.loaded.now _ (first c)
