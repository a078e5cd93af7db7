use Rattle.std.proofs.Common.{ℕ, ◌≡◌, ◌∙◌, ◌<◌, refl, sym, ap, subst, length, slice_index}
use Rattle.std.proofs.lemmas.Bool.{false≢true}
use Rattle.std.proofs.lemmas.List.{length-map}
use Rattle.std.proofs.lemmas.List.Elements.{All-get_or}
use Rattle.run_outcomes.proofs.Chained.{IsWalked, walk-at, walk-on, walk-ends}
use Rattle.run_outcomes.proofs.Grouped.{IsOther, told_keys, place-at, key-at, digest-alike}
use Rattle.run_outcomes.specs.Explored.{state_at}
use Rattle.run_outcomes.specs.Results.{AreAlike, IsEnd, told_digest}
use Rattle.run_outcomes.proofs.outcomes.place.Goals as goal

pub first_in-first-requires : goal.first_in-first-requires
first_in-first-requires c =
    let states = c.args.explored.now.states in
    let firsts = c.args.firsts.now in
    let walked = subst (IsWalked (told_keys c.args.tell states firsts) c.args.digest (IsOther c.args.tell states firsts c.args.k))
    c.in-Some.is c.loop-next.invariant in
    place-at c.args.tell states firsts c.args.digest c.args.k c.in-Some.i walked

pub state-requires : goal.state-requires
state-requires c =
    let states = c.args.explored.now.states in
    let firsts = c.args.firsts.now in
    let walked = subst (IsWalked (told_keys c.args.tell states firsts) c.args.digest (IsOther c.args.tell states firsts c.args.k))
    c.in-Some.is c.loop-next.invariant in
    let lt = place-at c.args.tell states firsts c.args.digest c.args.k c.in-Some.i walked in
    let P : ℕ → Type 0 = λ j. (j < length states) × IsEnd (state_at states j) in
    let ends = All-get_or P firsts c.in-Some.i 0 lt c.requires.ends in
    subst (λ j. j < length states) (sym c.first_in-first.ensures) ends.0

pub returns-then-are_alike-clause-alike : goal.returns-then-are_alike-clause-alike
returns-then-are_alike-clause-alike c =
    let states = c.args.explored.now.states in
    let firsts = c.args.firsts.now in
    let walked = subst (IsWalked (told_keys c.args.tell states firsts) c.args.digest (IsOther c.args.tell states firsts c.args.k))
    c.in-Some.is c.loop-next.invariant in
    let lt = place-at c.args.tell states firsts c.args.digest c.args.k c.in-Some.i walked in
    let states' : c.state.result.now ≡ state_at states (slice_index firsts c.in-Some.i) =
    c.state.ensures ∙ ap (state_at states) c.first_in-first.ensures in (
      lt,
      subst (λ x. AreAlike c.args.tell x (state_at states c.args.k)) states'
          (subst (λ x. AreAlike c.args.tell c.state.result.now x) c.state-in-Some.ensures (c.if-are_alike.ensures.0 refl)),
    )

pub loop-next-preserved : goal.loop-next-preserved
loop-next-preserved c =
    let states = c.args.explored.now.states in
    let firsts = c.args.firsts.now in
    let keys = told_keys c.args.tell states firsts in
    let P : ℕ → Type 0 = IsOther c.args.tell states firsts c.args.k in
    let walked = subst (IsWalked keys c.args.digest P) c.in-Some.is c.loop-next.invariant in
    let at = walk-at keys c.args.digest P c.in-Some.i walked in
    walk-on keys c.args.digest P c.in-Some.i c.older-next.result walked
    (λ alike.
    let first : c.state.result.now ≡ state_at states (slice_index firsts c.in-Some.i) =
    c.state.ensures ∙ ap (state_at states) c.first_in-first.ensures in
    false≢true (c.if-are_alike.ensures.1 (subst (λ x. AreAlike c.args.tell x c.state-in-Some.result.now) (sym first)
    (subst (λ x. AreAlike c.args.tell (state_at states (slice_index firsts c.in-Some.i)) x) (sym c.state-in-Some.ensures) alike))))
    (c.older-next.ensures.older keys c.requires.chained at.0)

pub returns-clause-absent : goal.returns-clause-absent
returns-clause-absent c = λ i lt alike.
    let states = c.args.explored.now.states in
    let firsts = c.args.firsts.now in
    let keys = told_keys c.args.tell states firsts in
    let P : ℕ → Type 0 = IsOther c.args.tell states firsts c.args.k in
    let walked = subst (IsWalked keys c.args.digest P) c.in_default.is c.loop-next.invariant in
    let below : i < length keys =
    subst (λ n. i < n) (sym (length-map firsts (λ j. told_digest c.args.tell (state_at states j)))) lt in
    let key : slice_index keys i ≡ c.args.digest =
    key-at c.args.tell states firsts i lt
    ∙ digest-alike c.args.tell (state_at states (slice_index firsts i)) (state_at states c.args.k) alike
    ∙ sym c.requires.digest in
    walk-ends keys c.args.digest P walked i below key alike
