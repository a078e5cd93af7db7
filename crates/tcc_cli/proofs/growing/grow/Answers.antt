-- The run of a seed, or of the checkpoint that the first file holds, goes on.
use Rattle.std.proofs.Common.{◌≡◌, ◌∙◌, subst, sym}
use Rattle.tcc_world.specs.Page.{Written}
use Rattle.tcc_cli.specs.Around.{FilesAround}
use Rattle.tcc_cli.specs.Commands.{head_of}
use Rattle.tcc_cli.specs.Long.{IsLeftIn, IsTakenUp}
use Rattle.tcc_words.specs.Bounds.{IsResumed}
use Rattle.tcc_cli.proofs.Grown.{From, grown-stopped, grown-told, head-first}
use Rattle.tcc_cli.proofs.growing.grow.Goals as goal

pub returns-in-Ok-clause-stopped : goal.returns-in-Ok-clause-stopped
returns-in-Ok-clause-stopped g c =
    let loaded = c.args.loaded.now in
    let begin = c.args.begin.now in
    let read = c.args.read.now in
    let run = c.in-Ok.run' in
    let f : FilesAround = record { before = g.F.Store.disk c.args.files.now; after = g.F.Store.disk c.grow_and_leave.new.files } in
    let o : Written = record { before = g.O.Sink.page c.args.out.now; after = g.O.Sink.page c.grow_and_leave.new.out } in
    let is = c.in-Ok.ensures in
    let from : From loaded (IsTakenUp begin loaded read) run = record {
      is = subst (λ b. IsTakenUp b loaded read run) (sym c.in-Seed.is) (is.run, is.seed, is.drawn);
      code = is.run.counted.code;
    } in
    grown-stopped loaded (IsTakenUp begin loaded read) run c.args.steps c.args.view
    (IsLeftIn c.args.keep.now f.before.tells f.after.contents loaded) (IsResumed begin) c.args.keep.now f o c.grow_and_leave.result from
    c.grow_and_leave.ensures.stopped

pub returns-in-Ok-read_run-clause-told : goal.returns-in-Ok-read_run-clause-told
returns-in-Ok-read_run-clause-told g c =
    let loaded = c.args.loaded.now in
    let begin = c.args.begin.now in
    let read = c.args.read.now in
    let run = c.in-Ok-read_run.run' in
    let told = (g.F.Store.disk c.grow_and_leave-in-Ok-read_run.new.files).contents in
    let o : Written = record { before = g.O.Sink.page c.args.out.now; after = g.O.Sink.page c.grow_and_leave-in-Ok-read_run.new.out } in
    let is = c.in-Ok-read_run.ensures in
    let bytes : c.bytes.result.now ≡ head_of read =
    c.bytes.ensures ∙ c.index-read-0.is ∙ head-first read _ (c.requires.first c.in-Checkpoint.field-0 c.in-Checkpoint.is) in
    let from : From loaded (IsTakenUp begin loaded read) run = record {
      is = subst (λ b. IsTakenUp b loaded read run) (sym c.in-Checkpoint.is) (record { text = is.text ∙ bytes; laid_out = is.laid_out });
      code = is.code;
    } in
    grown-told loaded (IsTakenUp begin loaded read) run c.args.steps c.args.view
    (IsLeftIn c.args.keep.now (g.F.Store.disk c.args.files.now).tells told loaded) o c.grow_and_leave-in-Ok-read_run.result from
    c.grow_and_leave-in-Ok-read_run.ensures.told

pub returns-in-Ok-read_run-clause-stopped : goal.returns-in-Ok-read_run-clause-stopped
returns-in-Ok-read_run-clause-stopped g c =
    let loaded = c.args.loaded.now in
    let begin = c.args.begin.now in
    let read = c.args.read.now in
    let run = c.in-Ok-read_run.run' in
    let files = c.grow_and_leave-in-Ok-read_run.new.files in
    let f : FilesAround = record { before = g.F.Store.disk c.args.files.now; after = g.F.Store.disk files } in
    let o : Written = record { before = g.O.Sink.page c.args.out.now; after = g.O.Sink.page c.grow_and_leave-in-Ok-read_run.new.out } in
    let is = c.in-Ok-read_run.ensures in
    let bytes : c.bytes.result.now ≡ head_of read =
    c.bytes.ensures ∙ c.index-read-0.is ∙ head-first read _ (c.requires.first c.in-Checkpoint.field-0 c.in-Checkpoint.is) in
    let from : From loaded (IsTakenUp begin loaded read) run = record {
      is = subst (λ b. IsTakenUp b loaded read run) (sym c.in-Checkpoint.is) (record { text = is.text ∙ bytes; laid_out = is.laid_out });
      code = is.code;
    } in
    grown-stopped loaded (IsTakenUp begin loaded read) run c.args.steps c.args.view
    (IsLeftIn c.args.keep.now f.before.tells f.after.contents loaded) (IsResumed begin) c.args.keep.now f o
    c.grow_and_leave-in-Ok-read_run.result from c.grow_and_leave-in-Ok-read_run.ensures.stopped
