-- It went on, was told of, and was written down.
use Rattle.std.proofs.Common.{◌∙◌, ◌+◌, ◌^◌, ◌-◌, ap, min}
use Rattle.std.specs.String.{string_bytes}
use Rattle.tcc_cli.proofs.GoingOn.{ran-on}
use Rattle.tcc_cli.proofs.long.go_and_leave.Goals as goal

pub returns-in-Ok-leave-clause-ran : goal.returns-in-Ok-leave-clause-ran
returns-in-Ok-leave-clause-ran g c =
    ran-on c.args.loaded.now c.args.run.now c.go_on.new.run c.leave.new.run c.args.steps c.steps_of.result c.saturating_add-asked.result
    c.args.view c.args.keep.now (g.F.Store.disk c.args.files.now).tells (g.F.Store.disk c.leave.new.files).contents
    c.in-Ok-tell.finished.done (string_bytes c.in-Ok-tell.finished.text) c.requires.untraced c.steps_of.ensures
    (c.saturating_add-asked.ensures ∙ ap (λ d. min (d + c.args.steps) (2 ^ 64 - 1)) c.drawn.ensures) c.go_on.ensures.seed
    c.in-Ok.ensures.went c.leave.ensures.same c.leave.ensures.seed c.in-Ok-leave.ensures.left c.in-Ok-tell.ensures
