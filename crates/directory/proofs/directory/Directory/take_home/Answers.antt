use Rattle.std.proofs.Common.{◌≡◌, ap, sym, ◌∙◌, None, false}
use Rattle.rules_maps.specs.Judge.{judge}
use Rattle.rules_maps.specs.Lines.{with_asked}
use Rattle.rules_tcc.specs.DirDeliver as rules
use Rattle.rules_tcc.specs.Sends.{nothing}
use Rattle.dir_lines.specs.Kept.{kept}
use Rattle.directory.specs.Data.{dir_of}
use Rattle.directory.specs.DataInside.{data_of}
use Rattle.directory.proofs.RuleCases.{home-early, home-dropped, home-taken}
use Rattle.directory.proofs.Giving.{gives-from, gives-by, waits, drops, home-takes}
use Rattle.directory.proofs.directory.Directory.take_home.Goals as goal

pub returns-in-Wait-clause-gives : goal.returns-in-Wait-clause-gives
unfolding dir_of
returns-in-Wait-clause-gives c =
    waits (λ e. home-early c.args.src.0 c.args.line.0 c.args.mask.0 c.args.words.now c.args.tag.0 (dir_of e c.args.self.now)
    (ap (λ d. judge ((kept d.lines).owner c.args.line.0) ((kept d.lines).tag c.args.line.0) c.args.src.0 c.args.tag.0) (sym c.self.view_is)
    ∙ ((λ i. judge (sym c.get-record.ensures.owner i) (sym c.get-record.ensures.tag i) c.args.src.0 c.args.tag.0)
    ∙ sym c.in-Wait.ensures.map)))

pub returns-in-Drop-clause-gives : goal.returns-in-Drop-clause-gives
unfolding dir_of
returns-in-Drop-clause-gives c =
    drops (λ e. home-dropped c.args.src.0 c.args.line.0 c.args.mask.0 c.args.words.now c.args.tag.0 (dir_of e c.args.self.now)
    (ap (λ d. judge ((kept d.lines).owner c.args.line.0) ((kept d.lines).tag c.args.line.0) c.args.src.0 c.args.tag.0) (sym c.self.view_is)
    ∙ ((λ i. judge (sym c.get-record.ensures.owner i) (sym c.get-record.ensures.tag i) c.args.src.0 c.args.tag.0)
    ∙ sym c.in-Drop.ensures.map)))

pub returns-in-Take-clause-gives : goal.returns-in-Take-clause-gives
unfolding dir_of
returns-in-Take-clause-gives c =
    gives-from c.self.view_is (gives-by
    (λ s. rules.Takes (rules.came_home c.args.line.0 c.args.mask.0 c.args.words.now s) nothing)
    (rules.write_back c.args.src.0 c.args.line.0 c.args.mask.0 c.args.words.now c.args.tag.0)
    (λ e. home-taken c.args.src.0 c.args.line.0 c.args.mask.0 c.args.words.now c.args.tag.0 (dir_of e (data_of c.self.inside))
    ((λ i. judge (sym c.get-record.ensures.owner i) (sym c.get-record.ensures.tag i) c.args.src.0 c.args.tag.0)
    ∙ sym c.in-Take.ensures.map))
    (home-takes c.self.inside.lines c.self.inside.words c.self.inside.skips c.self.inside.owed c.set_asked.new.self c.write.new.self
    c.args.out.now.list.items c.args.line.0 c.args.mask.0 c.args.words.now
    (c.set_asked.ensures.map ∙ ap (with_asked c.args.line.0 false) c.set_owner.ensures.map) c.write.ensures.words))
