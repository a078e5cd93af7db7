-- The event at the word modulo their number.
use Rattle.std.proofs.Common.{◌≡◌, ◌<◌, ◌∙◌, length, ap, sym, arith, if◌then◌else◌}
use Rattle.std.specs.Option.{option_map}
use Rattle.rand_pcg.specs.Pcg.{pcg32}
use Rattle.tcc_msg.specs.Plain.{event_of}
use Rattle.rules_tcc.specs.Picked.{chosen}
use Rattle.tcc_phase.specs.Phased.{useful_in}
use Rattle.tcc_pick.proofs.Lemmas.{answered-so, chosen-none, is-one}
use Rattle.tcc_phase.proofs.running.pick.Goals as goal

pub returns-then-count-eq0-clause-chosen : goal.returns-then-count-eq0-clause-chosen
returns-then-count-eq0-clause-chosen c =
    sym (chosen-none (pcg32 c.args.words.now).0 (useful_in c.args.system.now.refined.machine)
    (sym c.useful_count-count.ensures ∙ c.if-count-eq0.true))

there-are : (c : goal.After-useful_at) → 0 < length (useful_in c.args.system.now.refined.machine)
there-are c = omega (arith, c.if-count-eq0.false, c.useful_count-count.ensures)

by-word : (c : goal.After-useful_at)
    → option_map event_of c.useful_at.result ≡ chosen (pcg32 c.args.words.now).0 (useful_in c.args.system.now.refined.machine)
by-word c =
    answered-so c.useful_at.result c.next_word-word.result (pcg32 c.args.words.now).0 c.useful_count-count.result
    (useful_in c.args.system.now.refined.machine) c.useful_count-count.ensures (ap (λ p. p.0) c.next_word-word.ensures) c.useful_at.ensures
    (omega (arith, c.if-count-eq0.false))

pub returns-clause-chosen : goal.returns-clause-chosen
returns-clause-chosen c = by-word c

pub returns-clause-drawn : goal.returns-clause-drawn
returns-clause-drawn c =
    let some =
    is-one c.useful_at.result (pcg32 c.args.words.now).0 (useful_in c.args.system.now.refined.machine) (there-are c) (by-word c) in
    ap (λ p. p.1) c.next_word-word.ensures ∙ ap (λ b. if b then (pcg32 c.args.words.now).1 else c.args.words.now) (sym some)
