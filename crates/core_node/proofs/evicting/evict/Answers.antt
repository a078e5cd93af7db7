use Rattle.std.proofs.Common.{◌≡◌, true, is_some, ap, ◌∙◌, sym, subst, Option}
use Rattle.rules_tcc.specs.Attempt.{Out}
use Rattle.rules_tcc.specs.CoreEvict.{core_evict}
use Rattle.core_node.specs.declared.state.Core.{Core}
use Rattle.core_node.specs.Answers.{Happened}
use Rattle.core_node.specs.View.{core_of}
use Rattle.core_node.proofs.Emptied.{evict_some, evicted_core, evicted_whole}
use Rattle.core_node.proofs.Steps.{happened_did}
use Rattle.core_node.proofs.evicting.evict.Goals as goal

pub returns-clause-does : goal.returns-clause-does
unfolding core_of
returns-clause-does c =
    let k = c.args.core.now in
    let m = c.keep_modified.new.core in
    let n = c.empty.new.core in
    let on : is_some (core_evict k.config c.args.set c.args.way (core_of k)) ≡ true = sym c.can_evict.ensures ∙ c.if-not-can_evict.false in
    let w = evict_some k.config c.args.set c.args.way (core_of k) on in
    let cache = ap (λ (q : Core). q.cache) c.in_ok-keep_modified.ensures.others in
    let config = ap (λ (q : Core). q.config) c.in_ok-keep_modified.ensures.others in
    let sent = rw (cache, config, w.1.here) at c.empty.ensures.sent in
    let core = evicted_core c.args.set c.args.way w.0 k m n c.in_ok-keep_modified.ensures.others c.empty.ensures.others
    c.empty.ensures.maps (c.in_ok-keep_modified.ensures.kept w.0 w.1.here) in
    subst (λ (o : Option Out). Happened o c.args.out.now n c.empty.new.out) (sym w.1.does)
    (happened_did _ 1 c.args.out.now c.make_room.new.out c.empty.new.out n c.in_ok-make_room.ensures.unsent
    (record { core = core; sent = sent }))

pub returns-clause-stays : goal.returns-clause-stays
unfolding core_of
returns-clause-stays c =
    let k = c.args.core.now in
    let m = c.keep_modified.new.core in
    let n = c.empty.new.core in
    let on : is_some (core_evict k.config c.args.set c.args.way (core_of k)) ≡ true = sym c.can_evict.ensures ∙ c.if-not-can_evict.false in
    let w = evict_some k.config c.args.set c.args.way (core_of k) on in
    record {
      config = ap (λ (q : Core). q.config) c.empty.ensures.others ∙ ap (λ (q : Core). q.config) c.in_ok-keep_modified.ensures.others;
      id = ap (λ (q : Core). q.id) c.empty.ensures.others ∙ ap (λ (q : Core). q.id) c.in_ok-keep_modified.ensures.others;
      whole = evicted_whole c.args.set c.args.way w.0 k m n c.requires.whole c.in_ok-keep_modified.ensures.others
          c.empty.ensures.others c.empty.ensures.maps c.empty.ensures.config w.1.here w.1.free;
    }
