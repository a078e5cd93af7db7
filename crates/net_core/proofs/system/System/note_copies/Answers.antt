-- What the core has and what it sent to the line's home.
use Rattle.std.proofs.Common.{◌≡◌, ◌<◌, ap, subst, sym, ◌∙◌, arith}
use Rattle.std.proofs.Math.Nat.{mod-lt}
use Rattle.tcc_base.specs.Settings.{Settings}
use Rattle.rules_maps.specs.Shape.{home, lines}
use Rattle.rules_maps.specs.Words.{line_of}
use Rattle.core_node.specs.View.{core_of}
use Rattle.net_core.specs.Inside.{machine_of}
use Rattle.net_core.specs.Machine.{settings_of}
use Rattle.net_core.proofs.Words.Away.{core-covered}
use Rattle.net_core.proofs.system.System.note_copies.Goals as goal

pub returns : goal.returns
returns c = λ l free.
    let now = c.args.self.now in
    let s : Settings = settings_of now in
    let own_part = c.note_core.ensures l free in
    let sent = c.loop-d.invariant l own_part.0 in
    let same : c.core.result.now.config ≡ s = c.core.ensures.config ∙ ap settings_of c.self.view_is in
    let dirs : c.dirs-d-end.result ≡ s.dirs = c.dirs-d-end.ensures.value ∙ ap (λ (k : Settings). k.dirs) c.config.ensures in
    let some : 0 < s.dirs = omega (arith, dirs, c.dirs-d-end.ensures.value, c.dirs-d-end.ensures.allowed.1.0) in (
      sent.0,
      λ inside w own.
          let at : home s (line_of w) < s.dirs = mod-lt (line_of w) some in
          core-covered (machine_of c.self.inside) now w c.args.core.0 (core_of c.core.result.now) c.self.view_is c.requires.settled
          c.core.ensures.state (own_part.1 (subst (λ k. l < lines k) (sym same) inside) w own)
          (sent.1 (home s (line_of w)) (omega (arith, dirs, at, c.loop-d-test.false)) w own),
    )
