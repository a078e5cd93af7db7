use Rattle.std.proofs.Common.{◌≡◌, ◌≤◌, length, ap, ◌∙◌, arith}
use Rattle.std.proofs.lemmas.List.{length-replicate}
use Rattle.dir_lines.specs.Record.{blank}
use Rattle.dir_lines.specs.Marking.{marked_at}
use Rattle.dir_lines.specs.Pages.{pages_at}
use Rattle.dir_lines.proofs.PagesAt.{pages_at-blank}
use Rattle.dir_lines.proofs.Places.{places-blank}
use Rattle.dir_lines.proofs.pages.PageLinesLines.new.Goals as goal

pub invariant_of-result : goal.invariant_of-result
invariant_of-result c =
    let long : length c.in_ok-records.records.items ≡ c.count-count.result =
    ap length c.in_ok-records.ensures ∙ length-replicate c.count-count.result blank in
    let ram : c.args.cfg.now.ram ≤ 16777216 = c.count-count.ensures.allowed.4.1 in
    record {
      home = (c.count-count.ensures.allowed, c.requires);
      count = long ∙ c.count-count.ensures.count;
      few = omega (arith, c.count-count.ensures.small);
      marks = c.in_ok-marks.ensures.none (marked_at c.in_ok-records.records.items)
          (places-blank c.in_ok-records.records.items c.count-count.result c.in_ok-records.ensures);
      room = omega (arith, c.in_ok-marks.ensures.room);
    }

pub returns-clause-blank : goal.returns-clause-blank
returns-clause-blank c =
    ap (λ xs. pages_at (record { place = record { shape = c.args.cfg.now; dir = c.args.home.0 }; records = xs })) c.in_ok-records.ensures
    ∙ pages_at-blank (record { shape = c.args.cfg.now; dir = c.args.home.0 }) c.count-count.result
