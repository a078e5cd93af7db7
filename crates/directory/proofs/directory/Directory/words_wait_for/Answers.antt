use Rattle.std.proofs.Common.{sym, subst, ◌∙◌}
use Rattle.rules_maps.specs.Lines.{has_mark}
use Rattle.directory.specs.Data.{dir_of}
use Rattle.directory.specs.Stays.{Stays}
use Rattle.directory.proofs.Staying.{home-stays, line-stays, line-holds}
use Rattle.directory.proofs.directory.Directory.words_wait_for.Goals as goal

pub returns : goal.returns
returns c = λ e m ws.
    let now = dir_of e c.args.self.now in
    let marked = has_mark now.lines c.args.line.0 in
    let cause = c.line_cause.ensures e in
    record {
      none = sym c.if-takes_home.false ∙ c.takes_home.ensures e m ws;
      holds = rw cause (line-holds c.args.line now);
      stays = λ n h.
          let own = subst (λ w. Stays w now n) cause h in
          home-stays c.args.src.0 c.args.line.0 m ws c.args.tag.0 now n (line-stays marked c.args.line now n own)
          ∙ (sym (c.takes_home.ensures e m ws) ∙ c.if-takes_home.false);
    }
