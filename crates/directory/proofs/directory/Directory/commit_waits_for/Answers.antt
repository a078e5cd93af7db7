use Rattle.std.proofs.Common.{◌≡◌, refl, ap, sym, ◌∙◌, arith}
use borrow.Author.Tests.{ne_eqb}
use Rattle.directory.specs.Data.{dir_of}
use Rattle.directory.specs.Gives.{is_taken}
use Rattle.directory.proofs.RuleCases.{commit-early}
use Rattle.directory.proofs.Staying.{commit-stays}
use Rattle.directory.proofs.directory.Directory.commit_waits_for.Goals as goal

pub returns-then-serving-tid : goal.returns-then-serving-tid
unfolding dir_of
returns-then-serving-tid c = λ e k.
    let serving : c.serving.result.0 ≡ c.args.self.now.serving.serving = c.serving.ensures ∙ ap (λ d. d.serving.serving) c.self.view_is in
    record {
      none = sym c.if-takes_commit.false ∙ c.takes_commit.ensures e k;
      holds = omega arith;
      stays = λ n h.
          ap is_taken (commit-early c.args.self.now.lines.place.shape k c.args.tid.0 c.args.count n
          (ne_eqb n.serving.serving c.args.tid.0 (λ same. omega (arith, h, same))));
    }

pub returns : goal.returns
returns c = λ e k. record {
  none = sym c.if-takes_commit.false ∙ c.takes_commit.ensures e k;
  holds = record { serving = refl; mark = refl };
  stays = λ n h.
      commit-stays c.args.self.now.lines.place.shape k c.args.tid.0 c.args.count (dir_of e c.args.self.now) n h
      ∙ (sym (c.takes_commit.ensures e k) ∙ c.if-takes_commit.false);
}
