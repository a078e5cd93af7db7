-- From the answers of the steps to the end of the command.
use Rattle.std.proofs.Common.{◌∙◌, ap, length, map, refl, sym}
use Rattle.tcc_cli.proofs.Ending.{IsLater, begun, told}
use Rattle.tcc_cli.proofs.Loading.{given_length}
use Rattle.tcc_cli.specs.Around.{Around, FilesAround}
use Rattle.tcc_cli.proofs.top.carry_out.Goals as goal

pub load-requires-clause-count : goal.load-requires-clause-count
load-requires-clause-count g c =
    ap length c.deref-2.ensures.value
    ∙ sym (given_length (g.F.Store.disk c.args.files.now).contents (map (λ n. n.now) c.deref.result.now) c.in-Ok-read_files.read.items
    c.in-Ok-read_files.ensures.read)
    ∙ ap length (ap (map (λ n. n.now)) c.deref.ensures.value ∙ c.in-Ok.ensures)

pub tell-requires-clause-count : goal.tell-requires-clause-count
tell-requires-clause-count g c lifetimes outlive =
    ap length c.deref-3.ensures.value
    ∙ sym (given_length (g.F.Store.disk c.args.files.now).contents (map (λ n. n.now) c.deref.result.now) c.in-Ok-read_files.read.items
    c.in-Ok-read_files.ensures.read)
    ∙ ap length (ap (map (λ n. n.now)) c.deref.ensures.value ∙ c.in-Ok.ensures)

pub returns-clause-ends : goal.returns-clause-ends
returns-clause-ends g c =
    let files : FilesAround = record { before = g.F.Store.disk c.args.files.now; after = g.F.Store.disk c.tell.new.files } in
    let mid : FilesAround = record { before = g.F.Store.disk c.read_files.new.files; after = g.F.Store.disk c.tell.new.files } in
    let w : Around = record {
      files = files;
      out = record { before = g.O.Sink.page c.args.out.now; after = g.O.Sink.page c.tell.new.out };
    } in
    let later : IsLater files mid = record {
      contents = c.in-Ok-read_files.ensures.contents;
      writes = c.in-Ok-read_files.ensures.writes;
      after = refl;
      tells = sym c.in-Ok-read_files.ensures.tells;
      writes_after = λ n. refl;
    } in
    told c.args.command.now w mid c.deref-3.result.now c.tell.result later c.tell.ensures.tells
    (begun c.args.command.now w (map (λ n. n.now) c.deref.result.now) c.in-Ok-read_files.read.items c.deref-2.result.now
    c.deref-3.result.now
    (ap (map (λ n. n.now)) c.deref.ensures.value ∙ c.in-Ok.ensures) c.in-Ok-read_files.ensures.read c.deref-2.ensures.value
    c.deref-3.ensures.value c.in-Ok-load.ensures.accepted)
