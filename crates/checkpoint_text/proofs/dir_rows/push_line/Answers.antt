-- The line's row against that at the start.
use Rattle.std.proofs.Common.{◌%◌, ◌∷◌, ◌∙◌, ap, slice_get, sym}
use Rattle.checkpoint_text.specs.Directories.{first_line}
use Rattle.checkpoint_text.proofs.DirRows.{line-changed, line-kept}
use Rattle.checkpoint_text.proofs.dir_rows.push_line.Goals as goal

pub returns-then-are_same : goal.returns-then-are_same
returns-then-are_same c =
    let m = c.args.system.now in
    line-kept _ m.cores.code m.dirs.dirs c.args.line.0 _ _ _ _
    (ap (slice_get m.dirs.dirs) (sym (c.home.ensures.value ∙ ap (λ s. c.args.line.0 % s.dirs) c.config.ensures)) ∙ c.directory.ensures.data)
    c.numbers_now-now.ensures (c.first_numbers-first.ensures ∙ ap (λ x. c.args.line.0 ∷ first_line x c.args.line.0) c.code.ensures)
    (sym c.are_same.ensures ∙ c.if-are_same.true)

pub returns : goal.returns
returns c =
    let m = c.args.system.now in
    line-changed _ m.cores.code m.dirs.dirs c.args.line.0 _ _ _ _ _
    (ap (slice_get m.dirs.dirs) (sym (c.home.ensures.value ∙ ap (λ s. c.args.line.0 % s.dirs) c.config.ensures)) ∙ c.directory.ensures.data)
    c.numbers_now-now.ensures (c.first_numbers-first.ensures ∙ ap (λ x. c.args.line.0 ∷ first_line x c.args.line.0) c.code.ensures)
    (sym c.are_same.ensures ∙ c.if-are_same.false) c.in_ok-push_row.ensures
