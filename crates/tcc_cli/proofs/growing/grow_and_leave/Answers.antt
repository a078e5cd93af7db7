-- It went on and was written of, was written down, and its end was told.
use Rattle.std.proofs.Common.{◌∙◌, ◌+◌, ◌^◌, ◌-◌, ◌<◌, ◌++◌, ℕ, ap, inr, min, length, refl, subst, take}
use Rattle.std.specs.Io.KnownBytes.{Appends}
use Rattle.std.specs.String.{string_bytes}
use Rattle.base_lemmas.proofs.Lemmas.{appends-more}
use Rattle.tcc_world.specs.Page.{Written}
use Rattle.tcc_cli.specs.Around.{FilesAround}
use Rattle.tcc_cli.specs.Long.{BeganOn, IsLeftIn, RanOn}
use Rattle.tcc_cli.proofs.Grown.{cut-on, grown-on, open-on, stopped-on, unleft-on}
use Rattle.tcc_cli.proofs.growing.grow_and_leave.Goals as goal

pub returns-in-Err-clause-stopped : goal.returns-in-Err-clause-stopped
returns-in-Err-clause-stopped g c =
    let f : FilesAround = record { before = g.F.Store.disk c.args.files.now; after = g.F.Store.disk c.args.files.now } in
    let o : Written = record { before = g.O.Sink.page c.args.out.now; after = g.O.Sink.page c.go_and_write.new.out } in
    stopped-on c.args.loaded.now c.args.run.now c.args.steps c.saturating_add-asked.result c.args.view _ c.args.keep.now f o
    c.in-Err.refusal c.requires.growing
    (c.saturating_add-asked.ensures ∙ ap (λ d. min (d + c.args.steps) (2 ^ 64 - 1)) c.drawn.ensures) (λ n. refl) c.in-Err.ensures.stopped

pub returns-in-Err-last_of-clause-stopped : goal.returns-in-Err-last_of-clause-stopped
returns-in-Err-last_of-clause-stopped g c =
    let o : Written = record { before = g.O.Sink.page c.args.out.now; after = g.O.Sink.page c.go_and_write.new.out } in (
      inr (open-on c.args.loaded.now c.args.run.now c.args.steps c.saturating_add-asked.result c.args.view o c.requires.growing
          (c.saturating_add-asked.ensures ∙ ap (λ d. min (d + c.args.steps) (2 ^ 64 - 1)) c.drawn.ensures) c.in-Ok.ensures.written),
      λ n. refl,
    )

pub returns-in-Err-leave-clause-stopped : goal.returns-in-Err-leave-clause-stopped
returns-in-Err-leave-clause-stopped g c =
    let f : FilesAround = record { before = g.F.Store.disk c.args.files.now; after = g.F.Store.disk c.leave.new.files } in
    let o : Written = record { before = g.O.Sink.page c.args.out.now; after = g.O.Sink.page c.go_and_write.new.out } in
    unleft-on _ (BeganOn c.args.loaded.now c.args.run.now c.args.steps c.args.view) ⊥ c.args.keep.now f o c.in-Err-leave.refusal
    (open-on c.args.loaded.now c.args.run.now c.args.steps c.saturating_add-asked.result c.args.view o c.requires.growing
    (c.saturating_add-asked.ensures ∙ ap (λ d. min (d + c.args.steps) (2 ^ 64 - 1)) c.drawn.ensures) c.in-Ok.ensures.written)
    c.in-Err-leave.ensures.failed

pub returns-in-Ok-write_all-clause-told : goal.returns-in-Ok-write_all-clause-told
returns-in-Ok-write_all-clause-told g c =
    let opened = c.in-Ok.ensures.written in
    let last = string_bytes c.in-Ok-last_of.last.text in
    let mid = (g.O.Sink.page c.go_and_write.new.out).bytes in
    let after = (g.O.Sink.page c.write_all.new.sink).bytes in (
      opened.text ++ last,
      grown-on c.args.loaded.now c.args.run.now c.go_and_write.new.run c.leave.new.run c.args.steps c.saturating_add-asked.result
          c.args.view c.args.keep.now (g.F.Store.disk c.args.files.now).tells (g.F.Store.disk c.leave.new.files).contents
          c.in-Ok-last_of.last.done opened.text last c.requires.growing
          (c.saturating_add-asked.ensures ∙ ap (λ d. min (d + c.args.steps) (2 ^ 64 - 1)) c.drawn.ensures) c.go_and_write.ensures.seed
          c.in-Ok.ensures.went c.leave.ensures.same c.leave.ensures.seed c.in-Ok-leave.ensures.left opened.is c.in-Ok-last_of.ensures,
      appends-more (g.O.Sink.page c.args.out.now).bytes mid after opened.text last opened.whole
          (subst (Appends mid after) c.as_bytes.ensures.value c.in-Ok-write_all.ensures.written),
    )

pub returns-clause-stopped : goal.returns-clause-stopped
returns-clause-stopped g c =
    let opened = c.in-Ok.ensures.written in
    let last = string_bytes c.in-Ok-last_of.last.text in
    let mid = (g.O.Sink.page c.go_and_write.new.out).bytes in
    let after = (g.O.Sink.page c.write_all.new.sink).bytes in
    let tells = (g.F.Store.disk c.args.files.now).tells in
    let told = (g.F.Store.disk c.leave.new.files).contents in
    let f : FilesAround = record { before = g.F.Store.disk c.args.files.now; after = g.F.Store.disk c.leave.new.files } in
    cut-on (RanOn c.args.loaded.now c.args.run.now c.args.steps c.args.view (IsLeftIn c.args.keep.now tells told c.args.loaded.now))
    (BeganOn c.args.loaded.now c.args.run.now c.args.steps c.args.view) ⊥ c.args.keep.now f (g.O.Sink.page c.args.out.now)
    (g.O.Sink.page c.go_and_write.new.out) (g.O.Sink.page c.write_all.new.sink) c.in-Ok-last_of.last.done opened.text last
    (grown-on c.args.loaded.now c.args.run.now c.go_and_write.new.run c.leave.new.run c.args.steps c.saturating_add-asked.result
    c.args.view c.args.keep.now tells told c.in-Ok-last_of.last.done opened.text last c.requires.growing
    (c.saturating_add-asked.ensures ∙ ap (λ d. min (d + c.args.steps) (2 ^ 64 - 1)) c.drawn.ensures) c.go_and_write.ensures.seed
    c.in-Ok.ensures.went c.leave.ensures.same c.leave.ensures.seed c.in-Ok-leave.ensures.left opened.is c.in-Ok-last_of.ensures)
    opened.whole c.in-Ok.ensures.faults_stay
    (subst (λ xs. (n : ℕ) × (n < length xs) × Appends mid after (take n xs)) c.as_bytes.ensures.value
    c.in-Err-write_all.ensures.prefix) c.in-Err-write_all.ensures.cause
