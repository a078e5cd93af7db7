use Rattle.std.proofs.Common.{ℕ, ◌≡◌, ◌∙◌, ◌<◌, refl, sym, ap, subst, length, map, slice_index}
use Rattle.std.proofs.lemmas.Bool.{false≢true}
use Rattle.std.proofs.lemmas.List.{length-map}
use Rattle.run_outcomes.proofs.Chained.{IsWalked, walk-at, walk-on, walk-ends}
use Rattle.run_outcomes.proofs.Distinct.{digest-at, numbered, contained}
use Rattle.run_outcomes.specs.Digests.{state_digest}
use Rattle.run_outcomes.specs.Explored.{state_at}
use Rattle.run_outcomes.proofs.states.find.Goals as goal

pub state_in-requires : goal.state_in-requires
state_in-requires c =
    let keys = map state_digest c.args.states.now in
    let walked = subst (IsWalked keys c.args.digest (λ j. state_at c.args.states.now j ≡ c.args.state.now → ⊥)) c.in-Some.is
    c.loop-next.invariant in
    let at = walk-at keys c.args.digest (λ j. state_at c.args.states.now j ≡ c.args.state.now → ⊥) c.in-Some.number walked in
    subst (λ n. c.in-Some.number < n) (length-map c.args.states.now state_digest) at.0

pub returns-then-is_same-clause-found : goal.returns-then-is_same-clause-found
returns-then-is_same-clause-found c =
    let keys = map state_digest c.args.states.now in
    let walked = subst (IsWalked keys c.args.digest (λ j. state_at c.args.states.now j ≡ c.args.state.now → ⊥)) c.in-Some.is
    c.loop-next.invariant in
    let at = walk-at keys c.args.digest (λ j. state_at c.args.states.now j ≡ c.args.state.now → ⊥) c.in-Some.number walked in
    let lt = subst (λ n. c.in-Some.number < n) (length-map c.args.states.now state_digest) at.0 in
    numbered c.args.states.now c.args.state.now c.in-Some.number lt (sym c.state_in.ensures ∙ c.if-is_same.ensures.0 refl)

pub loop-next-preserved : goal.loop-next-preserved
loop-next-preserved c =
    let keys = map state_digest c.args.states.now in
    let walked = subst (IsWalked keys c.args.digest (λ j. state_at c.args.states.now j ≡ c.args.state.now → ⊥)) c.in-Some.is
    c.loop-next.invariant in
    let at = walk-at keys c.args.digest (λ j. state_at c.args.states.now j ≡ c.args.state.now → ⊥) c.in-Some.number walked in
    walk-on keys c.args.digest (λ j. state_at c.args.states.now j ≡ c.args.state.now → ⊥) c.in-Some.number c.older-next.result walked
    (λ e. false≢true (c.if-is_same.ensures.1 (c.state_in.ensures ∙ e)))
    (c.older-next.ensures.older keys c.requires.chained at.0)

pub returns-clause-absent : goal.returns-clause-absent
returns-clause-absent c = λ has.
    let states = c.args.states.now in
    let keys = map state_digest states in
    let P : ℕ → Type 0 = λ j. state_at states j ≡ c.args.state.now → ⊥ in
    let walked = subst (IsWalked keys c.args.digest P) c.in_default.is c.loop-next.invariant in
    let is : state_at states has.0 ≡ c.args.state.now = contained states c.args.state.now has in
    let below : has.0 < length keys = subst (λ n. has.0 < n) (sym (length-map states state_digest)) has.1 in
    let key : slice_index keys has.0 ≡ c.args.digest =
    digest-at states has.0 has.1 ∙ ap state_digest is ∙ sym c.requires.digest in
    walk-ends keys c.args.digest P walked has.0 below key is
