use Rattle.std.proofs.Common.{◌∙◌}
use Rattle.tcc_cli.proofs.Refusing.{refused_form, refused_load_of}
use Rattle.tcc_cli.proofs.Starting.{same_start, no_fault}
use Rattle.tcc_cli.proofs.images.load_files.Goals as goal

pub returns-in-Err-clause-refused : goal.returns-in-Err-clause-refused
returns-in-Err-clause-refused c =
    refused_form c.args.is_raw c.args.config.now c.args.files.now c.in-Err.refusal c.in-Err.ensures.refused

pub returns-in-Ok-load-clause-start : goal.returns-in-Ok-load-clause-start
returns-in-Ok-load-clause-start c =
    same_start c.args.is_raw c.args.config.now c.args.files.now c.deref.result.now c.in-Ok-load.loaded
    (c.deref.ensures.value ∙ c.in-Ok.ensures.images) c.in-Ok-load.ensures.start

pub returns-in-Ok-load-clause-accepted : goal.returns-in-Ok-load-clause-accepted
returns-in-Ok-load-clause-accepted c =
    no_fault c.args.is_raw c.args.config.now c.args.files.now c.deref.result.now c.in-Ok.ensures.accepted
    (c.deref.ensures.value ∙ c.in-Ok.ensures.images) c.in-Ok-load.ensures.accepted

pub returns-clause-refused : goal.returns-clause-refused
returns-clause-refused c =
    refused_load_of c.args.is_raw c.args.config.now c.args.files.now c.deref.result.now c.in-Err-load.fault c.of_load.result
    c.in-Ok.ensures.accepted (c.deref.ensures.value ∙ c.in-Ok.ensures.images) c.in-Err-load.ensures.fault c.of_load.ensures
