-- All cores were gone through.
use Rattle.std.proofs.Common.{◌≡◌, ap, refl, ◌∙◌, arith}
use Rattle.tcc_base.specs.Settings.{Settings}
use Rattle.rules_maps.specs.Words.{line_of}
use Rattle.net_core.specs.Machine.{settings_of, world_of}
use Rattle.net_core.proofs.Words.Away.{all-covered}
use Rattle.net_core.proofs.system.System.notes.Goals as goal

pub returns : goal.returns
returns c = λ w inside free.
    let s : Settings = settings_of c.args.self.now in
    let cores : c.cores-c-end.result ≡ s.cores = c.cores-c-end.ensures.value ∙ ap (λ (k : Settings). k.cores) c.config-2.ensures in
    all-covered s (world_of c.args.self.now) w c.loop-c.c (omega (arith, cores, c.loop-c-test.false))
    (λ n lt. (c.loop-c.invariant (line_of w) free).1 n lt inside w refl)
