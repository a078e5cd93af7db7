-- Those that wait are those above the least phase whose requests are in flight.
use Rattle.std.proofs.Common.{◌≡◌, ℕ, List, ◌∙◌, subst}
use Rattle.std.specs.Prelude.{get_or}
use Rattle.rules_maps.specs.Words.{those}
use Rattle.net_core.specs.Machine.{program_of, settings_of, world_of}
use Rattle.tcc_phase.specs.Requests.{Limits, is_above, is_behind, is_below}
use Rattle.tcc_phase.proofs.Requests.Waiting.{none-of, waiting-above, waiting-none}
use Rattle.tcc_phase.proofs.standing.Standing.hold.Goals as goal

pub returns-in-Some-clause-held : goal.returns-in-Some-clause-held
returns-in-Some-clause-held c =
    let m = c.args.system.now in
    let own : List ℕ = c.args.self.now.own.items in
    let late : Limits (settings_of m) (world_of m) own c.earliest-self.result = λ d l.
    subst (λ xs. (q : ℕ) → is_behind (settings_of m).cores (world_of m) xs q ≡ is_below c.earliest-self.result q) c.deref.ensures.value
    c.earliest-self.ensures (get_or own d 0) in
    c.hold.ensures.listed
    ∙ (λ i. those (is_above (settings_of m) (program_of m) (world_of m) c.in-Some.least (c.deref-in-Some.ensures.value i)
    (c.deref-in-Some-2.ensures.value i)) (settings_of m).cores)
    ∙ waiting-above (settings_of m) (program_of m) (world_of m) own c.args.self.now.asked.items c.in-Some.least
    (subst (Limits (settings_of m) (world_of m) own) c.in-Some.is late)

pub returns-in_default-clause-held : goal.returns-in_default-clause-held
returns-in_default-clause-held c =
    let m = c.args.system.now in
    let own : List ℕ = c.args.self.now.own.items in
    let late : Limits (settings_of m) (world_of m) own c.earliest-self.result = λ d l.
    subst (λ xs. (q : ℕ) → is_behind (settings_of m).cores (world_of m) xs q ≡ is_below c.earliest-self.result q) c.deref.ensures.value
    c.earliest-self.ensures (get_or own d 0) in
    c.clear.ensures.items
    ∙ waiting-none (settings_of m) (program_of m) (world_of m) own c.args.self.now.asked.items
    (subst (Limits (settings_of m) (world_of m) own) (none-of c.earliest-self.result c.in_default.not-Some) late)
