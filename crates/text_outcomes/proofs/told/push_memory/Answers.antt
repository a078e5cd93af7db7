-- The lines of the changes are those of the words that changed.
use Rattle.std.proofs.Common.{◌++◌, ◌∙◌, ap, sym}
use Rattle.std.proofs.lemmas.Result.{on_ok_weaker}
use Rattle.std.specs.String.{string_bytes}
use Rattle.text_outcomes.proofs.Changes.{memory-lines}
use Rattle.text_outcomes.proofs.told.push_memory.Goals as goal

pub push_changes-requires : goal.push_changes-requires
push_changes-requires c = rw c.config.ensures c.requires.inside

pub returns : goal.returns
returns c =
    let l = c.args.loaded.now in
    let same = memory-lines l c.args.changes.now c.requires.fit c.requires.inside c.requires.normal in
    let pushed = rw c.config.ensures at c.push_changes.ensures in
    on_ok_weaker c.push_changes.result (λ is. is ∙ ap (λ xs. string_bytes c.args.text.now ++ xs) (sym same)) pushed
