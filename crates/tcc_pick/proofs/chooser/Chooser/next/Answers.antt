-- The useful event at the word modulo their number.
use Rattle.std.proofs.Common.{◌≡◌, ◌<◌, ◌∙◌, List, length, ap, sym, arith, if◌then◌else◌}
use Rattle.std.specs.Option.{option_map}
use Rattle.rand_pcg.specs.Pcg.{pcg32}
use Rattle.rules_maps.specs.Nodes.{Event}
use Rattle.tcc_msg.specs.Plain.{event_of}
use Rattle.rules_tcc.specs.Picked.{chosen}
use Rattle.rules_tcc.specs.Useful.{useful}
use Rattle.net_core.specs.Machine.{Machine, program_of, settings_of, world_of}
use Rattle.tcc_pick.proofs.Chosen.{answered-so, chosen-none, is-one}
use Rattle.tcc_pick.proofs.chooser.Chooser.next.Goals as goal

abbrev all : Machine → List Event
all m = useful (settings_of m) (program_of m) (world_of m)

pub returns-then-count-eq0-clause-chosen : goal.returns-then-count-eq0-clause-chosen
returns-then-count-eq0-clause-chosen c =
    sym (chosen-none (pcg32 c.args.self.now).0 (all c.args.system.now) (sym c.useful_count-count.ensures ∙ c.if-count-eq0.true))

there-are : (c : goal.After-useful_at) → 0 < length (all c.args.system.now)
there-are c = omega (arith, c.if-count-eq0.false, c.useful_count-count.ensures)

by-word : (c : goal.After-useful_at) → option_map event_of c.useful_at.result ≡ chosen (pcg32 c.args.self.now).0 (all c.args.system.now)
by-word c =
    answered-so c.useful_at.result c.next_word-word.result (pcg32 c.args.self.now).0 c.useful_count-count.result (all c.args.system.now)
    c.useful_count-count.ensures (ap (λ p. p.0) c.next_word-word.ensures ∙ ap (λ g. (pcg32 g).0) c.self.view_is) c.useful_at.ensures
    (omega (arith, c.if-count-eq0.false))

pub returns-clause-chosen : goal.returns-clause-chosen
returns-clause-chosen c = by-word c

pub returns-clause-drawn : goal.returns-clause-drawn
returns-clause-drawn c =
    let some = is-one c.useful_at.result (pcg32 c.args.self.now).0 (all c.args.system.now) (there-are c) (by-word c) in
    ap (λ p. p.1) c.next_word-word.ensures ∙ ap (λ g. (pcg32 g).1) c.self.view_is
    ∙ ap (λ b. if b then (pcg32 c.args.self.now).1 else c.args.self.now) (sym some)
