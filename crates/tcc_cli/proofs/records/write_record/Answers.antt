-- The bytes are the contents of the name.
use Rattle.std.proofs.Common.{◌≡◌, ◌∙◌, Some, None, subst, if◌then◌else◌}
use Rattle.tcc_cli.proofs.records.write_record.Goals as goal

pub returns-in-Ok-clause-stored : goal.returns-in-Ok-clause-stored
returns-in-Ok-clause-stored g c =
    let tells = (g.F.Store.disk c.args.files.now).tells in
    let after = (g.F.Store.disk c.write.new.self).contents in
    subst (λ n. after n ≡ (if tells then Some c.args.text.now else None)) (c.as_str.ensures.value ∙ c.name.view_is) c.in-Ok.ensures.stored
