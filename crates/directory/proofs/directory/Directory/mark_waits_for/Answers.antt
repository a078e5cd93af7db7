use Rattle.std.proofs.Common.{◌≡◌, refl, ap, sym, ◌∙◌, arith}
use borrow.Author.Tests.{lt-ltb, le-ltb}
use Rattle.directory.specs.Data.{dir_of}
use Rattle.directory.specs.Gives.{is_taken}
use Rattle.directory.proofs.RuleCases.{mark-early}
use Rattle.directory.proofs.Staying.{mark-stays, same-line}
use Rattle.directory.proofs.directory.Directory.mark_waits_for.Goals as goal

pub returns-then-serving-tid : goal.returns-then-serving-tid
unfolding dir_of
returns-then-serving-tid c = λ e.
    let serving : c.serving.result.0 ≡ c.args.self.now.serving.serving = c.serving.ensures ∙ ap (λ d. d.serving.serving) c.self.view_is in
    record {
      none = sym c.if-takes_mark.false ∙ c.takes_mark.ensures e;
      holds = omega arith;
      stays = λ n h.
          let early = le-ltb c.args.tid.0 n.serving.serving (omega (arith, h)) in
          ap is_taken (mark-early c.args.line.0 c.args.mask.0 c.args.tid.0 n early (lt-ltb n.serving.serving c.args.tid.0 h));
    }

pub returns : goal.returns
returns c = λ e. record {
  none = sym c.if-takes_mark.false ∙ c.takes_mark.ensures e;
  holds = record { serving = refl; line = same-line c.args.line.0 (dir_of e c.args.self.now) };
  stays = λ n h.
      mark-stays c.args.line.0 c.args.mask.0 c.args.tid.0 (dir_of e c.args.self.now) n h
      ∙ (sym (c.takes_mark.ensures e) ∙ c.if-takes_mark.false);
}
