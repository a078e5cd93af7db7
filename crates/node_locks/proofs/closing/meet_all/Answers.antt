-- One more has met all those.
use Rattle.std.proofs.Common.{◌≡◌, ◌<◌, ap, ◌∙◌, subst, rules}
use Rattle.std.specs.Prelude.{Some, slice_get, slice_set, slice_index_or, length}
use Rattle.base_lemmas.proofs.Lemmas.{get-some}
use Rattle.node_locks.specs.Hearing.{HasMetAll}
use Rattle.node_locks.proofs.Rounds.{one-more, all-of, set-same}
use Rattle.node_locks.proofs.closing.meet_all.Goals as goal

pub meet_each-requires : goal.meet_each-requires
meet_each-requires g c =
    let x = slice_index_or c.loop-i.these c.loop-i.i c.index-these-i.result in
    let within : c.loop-i.i < length c.loop-i.these = search rules in
    let got = get-some c.loop-i.these c.loop-i.i c.index-these-i.result within in
    let was : slice_get c.args.these.now c.loop-i.i ≡ Some x = subst (λ l. slice_get l c.loop-i.i ≡ Some x) c.loop-i.invariant.these got in
    record { wired = λ j b e. c.requires.wired c.loop-i.i j x b was (subst (λ l. slice_get l j ≡ Some b) c.loop-i.invariant.those e) }

pub loop-i-preserved : goal.loop-i-preserved
loop-i-preserved g c =
    let x = slice_index_or c.loop-i.these c.loop-i.i c.index-these-i.result in
    let within : c.loop-i.i < length c.loop-i.these = search rules in
    let got = get-some c.loop-i.these c.loop-i.i c.index-these-i.result within in
    let was : slice_get c.args.these.now c.loop-i.i ≡ Some x = subst (λ l. slice_get l c.loop-i.i ≡ Some x) c.loop-i.invariant.these got in
    record {
      these = ap (λ y. slice_set c.loop-i.these c.loop-i.i y) c.meet_each.ensures.node ∙ set-same c.loop-i.these c.loop-i.i x got
          ∙ c.loop-i.invariant.these;
      those = c.meet_each.ensures.others ∙ c.loop-i.invariant.those;
      met = one-more (λ a. HasMetAll a c.args.those.now) c.args.these.now c.loop-i.i x was
          (subst (λ l. HasMetAll x l) c.loop-i.invariant.those c.meet_each.ensures.met) c.loop-i.invariant.met;
    }

pub returns-clause-met : goal.returns-clause-met
returns-clause-met g c =
    all-of (λ a. HasMetAll a c.args.those.now) c.args.these.now c.loop-i.i (search rules) c.loop-i.invariant.met
