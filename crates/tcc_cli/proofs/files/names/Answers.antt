-- Name by name.
use Rattle.std.proofs.Common.{◌∙◌, ◌++◌, [], ◌∷◌, ap}
use Rattle.tcc_cli.specs.Commands.{files_of, image_names}
use Rattle.tcc_cli.proofs.Naming.{all-names, first-name, name-more, no-name}
use Rattle.tcc_cli.proofs.files.names.Goals.{in-Some+in-Ok, in_default}
use Rattle.tcc_cli.proofs.files.names.Goals as goal

pub loop-name-init : goal.loop-name-init
loop-name-init c = elim c.match-first_name.branch [
  | in-Some+in-Ok w ↦ first-name c.match-first_name.names.items w.in-Some.name c.image_names-name-items.result.now
      (image_names c.args.command.now) (files_of c.args.command.now)
      (ap (λ v. v.items) w.names-is ∙ w.in-Ok.ensures.items ∙ ap (λ ns. ns ++ w.in-Some.name ∷ []) c.new-names.ensures.items)
      c.image_names-name-items.ensures w.in-Some.ensures
  | in_default w ↦ no-name c.match-first_name.names.items c.image_names-name-items.result.now (image_names c.args.command.now)
      (files_of c.args.command.now) (ap (λ v. v.items) w.names-is
      ∙ c.new-names.ensures.items) c.image_names-name-items.ensures w.in_default.ensures
]

pub loop-name-preserved : goal.loop-name-preserved
loop-name-preserved c =
    name-more c.loop-name.names.items c.push-in-loop-name.new.self.items c.as_str.result _ c.loop-name.name-index
    c.image_names-name-items.result.now (files_of c.args.command.now) c.loop-name-test.true c.loop-name.invariant c.in-Ok-push.ensures.items
    (c.as_str.ensures.value ∙ c.name.view_is ∙ c.name-item.is)

pub returns : goal.returns
returns c =
    all-names c.loop-name.names.items c.loop-name.name-index c.image_names-name-items.result.now
    (files_of c.args.command.now) c.loop-name-test.false
    c.loop-name.invariant
