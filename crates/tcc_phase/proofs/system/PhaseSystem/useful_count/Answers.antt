-- All but those that are held back.
use Rattle.std.proofs.Common.{◌≡◌, ◌+◌, length, ap, sym, ◌∙◌, arith}
use Rattle.net_core.specs.Machine.{Machine, program_of, settings_of, world_of}
use Rattle.rules_tcc.specs.Useful.{useful}
use Rattle.tcc_phase.specs.Phased.{useful_in}
use Rattle.tcc_phase.proofs.Rows.{all-is, useful-many}
use Rattle.tcc_phase.proofs.system.PhaseSystem.useful_count.Goals as goal

many : (c : goal.After-len)
    → length (useful_in c.self.inside.refined.machine) + length c.self.inside.standing.held.items ≡ c.useful_count.result
many c =
    useful-many c.self.inside.refined.machine c.self.inside.standing c.self.invariant.kept c.useful_events_are_listed.ensures.holds
    c.useful_events_are_listed.ensures.ordered
    ∙ ap length (sym (all-is c.self.inside.refined.machine))
    ∙ ap (λ (m : Machine). length (useful (settings_of m) (program_of m) (world_of m))) (sym c.system.ensures.machine)
    ∙ sym c.useful_count.ensures

pub overflow_sub-result : goal.overflow_sub-result
overflow_sub-result c = let m = many c in omega (arith, m)

pub returns : goal.returns
returns c = rw (← c.self.view_is) (let m = many c in omega (arith, m))
