use Rattle.std.proofs.Common.{ℕ, ◌≡◌, ◌<◌, ◌≤◌, ◌∙◌, List, ap, subst, slice_index, length, arith}
use Rattle.run_outcomes.proofs.Grouped.{groups-again, groups-if}
use Rattle.run_outcomes.proofs.Tallies.{many-le}
use Rattle.run_outcomes.specs.Explored.{state_at}
use Rattle.run_outcomes.specs.Results.{AreAlike, Tells, told_digest}
use Rattle.run_outcomes.specs.declared.outcomes.Groups.{Groups}
use Rattle.run_outcomes.proofs.outcomes.note.Goals as goal

pub count-requires-clause-small : goal.count-requires-clause-small
count-requires-clause-small c =
    let g = c.args.groups.now in
    let i = c.in-Some.i in
    let states = c.args.explored.now.states in
    let is : c.deref.result.now ≡ g.firsts = c.deref.ensures.value ∙ ap (λ (x : Groups). x.firsts) c.groups.view_is in
    let alike = subst (λ (fs : List ℕ). (i < length fs) × AreAlike c.args.tell (state_at states (slice_index fs i))
    (state_at states c.args.k)) is c.in-Some.ensures.alike in
    let le : slice_index g.counts i ≤ c.args.k =
    many-le (Tells c.args.tell states (slice_index g.firsts i)) c.args.k (slice_index g.counts i) (c.requires.groups.counts i alike.0) in
    omega (arith, le, c.requires.few)

pub returns-in-Some : goal.returns-in-Some
returns-in-Some c =
    let g = c.args.groups.now in
    let i = c.in-Some.i in
    let states = c.args.explored.now.states in
    let is : c.deref.result.now ≡ g.firsts = c.deref.ensures.value ∙ ap (λ (x : Groups). x.firsts) c.groups.view_is in
    let alike = subst (λ (fs : List ℕ). (i < length fs) × AreAlike c.args.tell (state_at states (slice_index fs i))
    (state_at states c.args.k)) is c.in-Some.ensures.alike in
    groups-again c.args.tell states g c.count.new.self c.args.k i c.requires.groups c.requires.end alike.0 alike.1
    (ap (λ (x : Groups). x.firsts) c.count.ensures) (ap (λ (x : Groups). x.counts) c.count.ensures)
    (ap (λ (x : Groups). x.chains) c.count.ensures)

pub returns-in-None : goal.returns-in-None
returns-in-None c =
    let g = c.args.groups.now in
    let states = c.args.explored.now.states in
    let is : c.deref.result.now ≡ g.firsts = c.deref.ensures.value ∙ ap (λ (x : Groups). x.firsts) c.groups.view_is in
    let absent = subst (λ (fs : List ℕ). (i : ℕ) → i < length fs → AreAlike c.args.tell (state_at states (slice_index fs i))
    (state_at states c.args.k) → ⊥) is c.in-None.ensures.absent in
    let digest : c.digest_told-digest.result ≡ told_digest c.args.tell (state_at states c.args.k) =
    c.digest_told-digest.ensures ∙ ap (told_digest c.args.tell) c.state.ensures in
    groups-if c.args.tell states g c.add.new.self c.args.k c.digest_told-digest.result c.add.result c.requires.groups c.requires.state
    c.requires.end absent digest c.add.ensures.firsts c.add.ensures.counts c.add.ensures.chains
