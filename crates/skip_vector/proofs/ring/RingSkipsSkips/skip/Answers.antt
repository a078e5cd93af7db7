use Rattle.std.proofs.Common.{◌≡◌, ℕ, zero, suc, ◌+◌, ◌^◌, ◌<◌, ◌≤◌, length, ap, arith}
use Rattle.rules_maps.specs.Serving.{advance}
use Rattle.skip_vector.proofs.Flags.{advance-bound}
use Rattle.skip_vector.proofs.ring.RingSkipsSkips.skip.Goals as goal

-- with no flag the next TID is served, and with some none behind them
below : (s n next : ℕ) → s < 2 ^ 62 → (0 < n → s + n < 2 ^ 62) → next ≤ s + 1 + n → next ≤ 2 ^ 62
below s zero next a h b = omega arith
below s (suc n) next a h b = omega (arith, h (omega arith))

pub returns-then-tid-self-2-clause-small : goal.returns-then-tid-self-2-clause-small
returns-then-tid-self-2-clause-small c = λ h.
    let next : c.advance.new.self.serving ≡ (advance c.args.self.now).serving = ap (λ s. s.serving) c.advance.ensures in
    let serving : c.self.inside.serving ≡ c.args.self.now.serving = ap (λ s. s.serving) c.self.view_is in
    let ahead : length c.self.inside.ahead.items ≡ length c.args.self.now.skips = ap (λ s. length s.skips) c.self.view_is in
    below c.self.inside.serving (length c.self.inside.ahead.items) c.advance.new.self.serving (omega arith) c.self.invariant.1
    (omega (arith, advance-bound c.args.self.now))
