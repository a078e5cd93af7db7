-- No packet is left to nobody.
use Rattle.std.proofs.Common.{ap}
use Rattle.std.specs.Prelude.{slice_get}
use Rattle.rules_tcc.specs.Seen.{numbers}
use Rattle.bus_tcc.specs.Left.{is_left}
use Rattle.bus_tcc.specs.Machine.{bus_of}
use Rattle.bus_tcc.proofs.Numbers.{none-pass}
use Rattle.bus_tcc.proofs.bus.Bus.left_at.Goals as goal

pub returns-in-Free : goal.returns-in-Free
returns-in-Free c =
    ap (λ xs. slice_get xs c.args.k)
    (none-pass (is_left (bus_of c.args.self.now)) (numbers c.args.count) (λ k. ap (λ b. is_left (bus_of b) k) c.in-Free.is))

pub returns-in-Alone : goal.returns-in-Alone
returns-in-Alone c =
    ap (λ xs. slice_get xs c.args.k)
    (none-pass (is_left (bus_of c.args.self.now)) (numbers c.args.count) (λ k. ap (λ b. is_left (bus_of b) k) c.in-Alone.is))
