-- A core commits.
use Rattle.std.proofs.Common.{ap, sym, ◌∙◌}
use Rattle.image_load.specs.Contents.{started}
use Rattle.rv_code.specs.Machine.{program}
use Rattle.core_node.specs.View.{core_of}
use Rattle.bus_tcc.specs.Cleaning.{cleaned_by}
use Rattle.bus_tcc.specs.Ending.{at_commit}
use Rattle.bus_tcc.proofs.Commits.{commit-leaves, is-commit}
use Rattle.bus_tcc.proofs.Endings.{can-same, commit-holds, told-same}
use Rattle.bus_tcc.proofs.commit.commit_one.Goals as goal

pub returns-clause-does : goal.returns-clause-does
returns-clause-does c =
    let k = c.args.core.now in
    let p = program (started c.args.code.now) in
    let s = core_of k in
    let h = commit-holds p c.args.tid.0 s c.requires.commits in
    commit-leaves k.config k.id.0 c.args.tid.0 (at_commit p s) (core_of c.end.new.core) _ c.in_ok-lines.lines
    (can-same k.config (at_commit p s) s h c.requires.can)
    (c.in_ok-lines.ensures.lines ∙ sym (told-same k.config c.args.tid.0 (at_commit p s) s h)) c.in_ok-commit.ensures.does
    (c.clean_all.ensures.does ∙ ap (λ l. cleaned_by l (core_of c.end.new.core)) c.tagged.ensures)

pub returns-clause-wrote : goal.returns-clause-wrote
returns-clause-wrote c =
    let k = c.args.core.now in
    let p = program (started c.args.code.now) in
    let s = core_of k in
    let h = commit-holds p c.args.tid.0 s c.requires.commits in
    is-commit k.config k.id.0 c.args.tid.0 (at_commit p s) c.in_ok-commit.commit c.in_ok-lines.lines
    (can-same k.config (at_commit p s) s h c.requires.can)
    (c.in_ok-lines.ensures.lines ∙ sym (told-same k.config c.args.tid.0 (at_commit p s) s h)) c.in_ok-commit.ensures.noted
