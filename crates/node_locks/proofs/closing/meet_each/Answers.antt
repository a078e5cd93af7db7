-- The node meets one more.
use Rattle.std.proofs.Common.{◌≡◌, ◌<◌, ap, ◌∙◌, subst, rules}
use Rattle.std.specs.Prelude.{Some, slice_get, slice_set, slice_index_or, length}
use Rattle.base_lemmas.proofs.Lemmas.{get-some}
use Rattle.node_locks.specs.Hearing.{HasHeard, HaveMet}
use Rattle.node_locks.proofs.Rounds.{one-more, all-of, set-same}
use Rattle.node_locks.proofs.closing.meet_each.Goals as goal

pub hear-requires-in-loop-j : goal.hear-requires-in-loop-j
hear-requires-in-loop-j g c =
    let x = slice_index_or c.loop-j.others c.loop-j.j c.index-others-j.result in
    let within : c.loop-j.j < length c.loop-j.others = search rules in
    let got = get-some c.loop-j.others c.loop-j.j c.index-others-j.result within in
    let was : slice_get c.args.others.now c.loop-j.j ≡ Some x = subst (λ l. slice_get l c.loop-j.j ≡ Some x) c.loop-j.invariant.others
    got in
    rw (c.hear.ensures.peer, c.hear.ensures.unchanged, c.loop-j.invariant.node) (c.requires.wired c.loop-j.j x was).1

pub loop-j-preserved : goal.loop-j-preserved
loop-j-preserved g c =
    let x = slice_index_or c.loop-j.others c.loop-j.j c.index-others-j.result in
    let within : c.loop-j.j < length c.loop-j.others = search rules in
    let got = get-some c.loop-j.others c.loop-j.j c.index-others-j.result within in
    let was : slice_get c.args.others.now c.loop-j.j ≡ Some x = subst (λ l. slice_get l c.loop-j.j ≡ Some x) c.loop-j.invariant.others
    got in
    let node = c.hear.ensures.unchanged ∙ c.loop-j.invariant.node in
    let same : c.hear-in-loop-j.new.self ≡ x = c.hear-in-loop-j.ensures.unchanged ∙ c.hear.ensures.peer in
    let first : HasHeard c.args.node.now x = subst (λ n. HasHeard n x) c.loop-j.invariant.node c.hear.ensures.begins in
    let second : HasHeard x c.args.node.now =
    subst (λ n. HasHeard x n) node (subst (λ n. HasHeard n c.hear.new.self) c.hear.ensures.peer c.hear-in-loop-j.ensures.begins) in
    record {
      node = c.hear-in-loop-j.ensures.peer ∙ node;
      others = ap (λ y. slice_set c.loop-j.others c.loop-j.j y) same ∙ set-same c.loop-j.others c.loop-j.j x got
          ∙ c.loop-j.invariant.others;
      met = one-more (λ b. HaveMet c.args.node.now b) c.args.others.now c.loop-j.j x was (first, second) c.loop-j.invariant.met;
    }

pub returns-clause-met : goal.returns-clause-met
returns-clause-met g c =
    all-of (λ b. HaveMet c.args.node.now b) c.args.others.now c.loop-j.j (search rules) c.loop-j.invariant.met
