-- The trap of a word that isn't found, and the instruction of one that is.
use Rattle.std.proofs.Common.{ap, sym, ◌∙◌}
use Rattle.image_load.specs.Contents.{started}
use Rattle.rv_code.proofs.Running.{fails-unfetched, fails-undecoded, runs-decoded}
use Rattle.rv_code.proofs.code.fetch.Goals as goal

pub returns-in-None : goal.returns-in-None
returns-in-None c =
    let s = started c.args.loaded.now in
    fails-unfetched s c.args.at.now (ap s.fetch (sym c.pc.ensures) ∙ sym c.fetch.ensures ∙ c.in-None.is)

pub returns-in-None-decode : goal.returns-in-None-decode
returns-in-None-decode c =
    let s = started c.args.loaded.now in
    fails-undecoded s c.args.at.now c.in-Some.word (ap s.fetch (sym c.pc.ensures) ∙ sym c.fetch.ensures ∙ c.in-Some.is)
    (sym c.decode.ensures.function ∙ c.in-None-decode.is)

pub returns-in-Some-decode : goal.returns-in-Some-decode
returns-in-Some-decode c =
    let s = started c.args.loaded.now in
    runs-decoded s c.args.at.now c.in-Some.word c.in-Some-decode.inst
    (ap s.fetch (sym c.pc.ensures) ∙ sym c.fetch.ensures ∙ c.in-Some.is) (sym c.decode.ensures.function ∙ c.in-Some-decode.is)
