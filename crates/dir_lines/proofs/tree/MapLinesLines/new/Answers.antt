use Rattle.std.proofs.Common.{◌≡◌, ◌/◌, ◌∙◌, arith}
use Rattle.rules_maps.specs.Shape.{lines}
use Rattle.rules_maps.specs.Lines.{has_mark}
use Rattle.dir_lines.specs.Home.{Home}
use Rattle.dir_lines.specs.Record.{lines_of}
use Rattle.dir_lines.specs.Filed.{filed_at}
use Rattle.dir_lines.proofs.PagesKeep.{those-none, blank-unmarked}
use Rattle.dir_lines.proofs.Filing.{filed_at-blank}
use Rattle.dir_lines.proofs.tree.MapLinesLines.new.Goals as goal

pub invariant_of-result : goal.invariant_of-result
invariant_of-result c =
    let here : Home = record { shape = c.args.cfg.now; dir = c.args.home.0 } in
    record {
      home = (c.count-count.ensures.allowed, c.requires);
      all = λ l a e. c.in_ok-records.ensures.all l (let w : c.words.result ≡ c.args.cfg.now.ram / 4 = c.words.ensures.value in omega arith)
          (rw c.dirs.ensures.value e);
      marked = c.in-Ok.ensures.items
          ∙ those-none (has_mark (lines_of (filed_at (record { place = here; entries = c.in_ok-records.records.entries }))))
          (lines c.args.cfg.now)
          (blank-unmarked (filed_at (record { place = here; entries = c.in_ok-records.records.entries }))
          (filed_at-blank (record { place = here; entries = c.in_ok-records.records.entries }) c.in_ok-records.ensures.blank));
      room = omega (arith, c.in-Ok.ensures.capacity, c.count-count.ensures.count);
    }

pub returns-in-Ok-clause-blank : goal.returns-in-Ok-clause-blank
returns-in-Ok-clause-blank c =
    filed_at-blank (record { place = record { shape = c.args.cfg.now; dir = c.args.home.0 }; entries = c.in_ok-records.records.entries })
    c.in_ok-records.ensures.blank
