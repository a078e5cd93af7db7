use Rattle.std.proofs.Common.{ap, sym, ◌∙◌, ◌≡◌, ◌==◌, true, false, arith}
use borrow.Author.Tests.{eq-eqb, ne_eqb}
use Rattle.rules_maps.specs.Serving.{advance}
use Rattle.rules_maps.specs.Lines.{unmarked}
use Rattle.rules_tcc.specs.DirDeliver.{moved_on_if_settled, moved_on}
use Rattle.dir_lines.specs.Kept.{kept}
use Rattle.dir_lines.specs.Words.{words_at}
use Rattle.directory.specs.Data.{dir_of}
use Rattle.directory.specs.DataInside.{data_of}
use Rattle.directory.proofs.RuleCases.{settled-owed, settled-none}
use Rattle.directory.proofs.directory.Directory.settle.Goals as goal

pub returns-then-self-eq0-clause-settled : goal.returns-then-self-eq0-clause-settled
unfolding dir_of moved_on
returns-then-self-eq0-clause-settled c = λ e.
    (λ i. record {
      words = words_at e c.self.inside.words;
      serving = c.advance.ensures i;
      lines = c.clear_marks.ensures.map i;
      owed = c.self.inside.owed;
    })
    ∙ (sym (settled-none (dir_of e (data_of c.self.inside)) (eq-eqb c.self.inside.owed 0 c.if-self-eq0.true))
    ∙ ap (λ d. moved_on_if_settled (dir_of e d)) c.self.view_is)

pub returns-else-self-eq0-clause-settled : goal.returns-else-self-eq0-clause-settled
unfolding dir_of
returns-else-self-eq0-clause-settled c = λ e.
    let same : c.self.inside.owed ≡ c.args.self.now.owed = ap (λ d. d.owed) c.self.view_is in
    sym (settled-owed (dir_of e c.args.self.now) (ne_eqb c.args.self.now.owed 0 (λ z. c.if-self-eq0.false (same ∙ z))))
