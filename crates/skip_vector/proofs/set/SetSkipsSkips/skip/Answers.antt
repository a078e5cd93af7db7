use Rattle.std.proofs.Common.{◌≡◌, ◌+◌, ◌^◌, ◌≤◌, length, ap, arith}
use Rattle.rules_maps.specs.Serving.{advance}
use Rattle.skip_vector.specs.Window.{window}
use Rattle.skip_vector.proofs.Flags.{advance-bound}
use Rattle.skip_vector.proofs.Windows.{window-bound}
use Rattle.skip_vector.proofs.set.SetSkipsSkips.skip.Goals as goal

pub returns-then-tid-self-2-clause-small : goal.returns-then-tid-self-2-clause-small
returns-then-tid-self-2-clause-small c = λ h.
    let next : c.advance.new.self.serving ≡ (advance c.args.self.now).serving = ap (λ s. s.serving) c.advance.ensures in
    let serving : c.self.inside.serving ≡ c.args.self.now.serving = ap (λ s. s.serving) c.self.view_is in
    let later : length (window (c.self.inside.serving + 1) c.self.inside.later.keys) ≡ length c.args.self.now.skips =
    ap (λ s. length s.skips) c.self.view_is in
    let all : c.self.inside.serving + 1 + length (window (c.self.inside.serving + 1) c.self.inside.later.keys) ≤ 2 ^ 62 =
    window-bound (c.self.inside.serving + 1) c.self.inside.later.keys c.self.invariant.1 (omega arith) in
    omega (arith, advance-bound c.args.self.now)
