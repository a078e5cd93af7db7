-- From the end of the command, or of the words, to the answer.
use Rattle.std.proofs.Common.{true, false, Ok, refl, subst}
use Rattle.tcc_cli.specs.Around.{Around, FilesAround}
use Rattle.tcc_world.specs.Page.{Written}
use Rattle.tcc_cli.specs.Top.{EndsOf}
use Rattle.tcc_cli.proofs.Ending.{command-ended, words-refused}
use Rattle.tcc_cli.proofs.top.tcc_main.Goals as goal

pub returns-in-Err : goal.returns-in-Err
returns-in-Err g c =
    words-refused _ _ _ _ c.in-Err.fault c.of_words.result c.in-Err.ensures.refused c.of_words.ensures
    (λ n. refl) refl c.refuse.ensures.status
    c.refuse.ensures.told

pub returns-in-Ok-true : goal.returns-in-Ok-true
returns-in-Ok-true g c =
    let files : FilesAround = record { before = g.F.Store.disk c.args.files.now; after = g.F.Store.disk c.carry_out.new.files } in
    let out : Written = record { before = g.O.Sink.page c.args.out.now; after = g.O.Sink.page c.carry_out.new.out } in
    let w : Around = record { files = files; out = out } in
    command-ended _ w _ _ c.in-Ok.command (Ok true) c.in-Ok.ensures.command
    (subst (λ d. EndsOf c.in-Ok.command w (Ok d)) c.in-Ok-true.field-0-test c.in-Ok-true.ensures.ends) c.in-Ok-true.ensures.others refl refl

pub returns-in-Ok-false : goal.returns-in-Ok-false
returns-in-Ok-false g c =
    let files : FilesAround = record { before = g.F.Store.disk c.args.files.now; after = g.F.Store.disk c.carry_out.new.files } in
    let out : Written = record { before = g.O.Sink.page c.args.out.now; after = g.O.Sink.page c.carry_out.new.out } in
    let w : Around = record { files = files; out = out } in
    command-ended _ w _ _ c.in-Ok.command (Ok false) c.in-Ok.ensures.command
    (subst (λ d. EndsOf c.in-Ok.command w (Ok d)) c.in-Ok-false.field-0-test c.in-Ok-false.ensures.ends) c.in-Ok-false.ensures.others refl
    refl
