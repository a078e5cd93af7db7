use Rattle.std.proofs.Common.{◌≡◌, ap, sym, subst, ◌∙◌, arith}
use Rattle.base_lemmas.proofs.Lemmas.{le-true}
use Rattle.rules_maps.specs.Lines.{has_mark}
use Rattle.directory.specs.Data.{dir_of}
use Rattle.directory.specs.Gives.{is_taken}
use Rattle.directory.specs.Stays.{Stays}
use Rattle.directory.proofs.RuleCases.{load-early}
use Rattle.directory.proofs.Staying.{load-stays, line-stays, line-rises, line-holds}
use Rattle.directory.proofs.directory.Directory.load_waits_for.Goals as goal

pub returns-then-serving-after : goal.returns-then-serving-after
unfolding dir_of
returns-then-serving-after c = λ e k.
    let serving : c.serving.result.0 ≡ c.args.self.now.serving.serving = c.serving.ensures ∙ ap (λ d. d.serving.serving) c.self.view_is in
    record {
      none = sym c.if-takes_load.false ∙ c.takes_load.ensures e k;
      holds = omega arith;
      stays = λ n h. ap is_taken (load-early k c.args.line.0 c.args.after.0 n (le-true n.serving.serving c.args.after.0 h));
    }

pub returns : goal.returns
unfolding dir_of
returns c = λ e k.
    let serving : c.serving.result.0 ≡ c.args.self.now.serving.serving = c.serving.ensures ∙ ap (λ d. d.serving.serving) c.self.view_is in
    let now = dir_of e c.args.self.now in
    let marked = has_mark now.lines c.args.line.0 in
    let cause = c.line_cause.ensures e in
    record {
      none = sym c.if-takes_load.false ∙ c.takes_load.ensures e k;
      holds = rw cause (line-holds c.args.line now);
      stays = λ n h.
          let own = subst (λ w. Stays w now n) cause h in
          load-stays k c.args.line.0 c.args.after.0 now n (omega arith) (line-rises marked c.args.line now n own)
          (line-stays marked c.args.line now n own)
          ∙ (sym (c.takes_load.ensures e k) ∙ c.if-takes_load.false);
    }
