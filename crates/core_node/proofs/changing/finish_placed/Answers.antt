use Rattle.std.proofs.Common.{false, is_some, ap, ◌∙◌}
use Rattle.rules_maps.specs.Cache.{Cache, free_way}
use Rattle.rules_maps.specs.Shape.{Shape, set_of}
use Rattle.rules_maps.specs.Words.{line_of}
use Rattle.rules_tcc.specs.State.{CoreState}
use Rattle.rules_tcc.specs.Execute.{stored_in_frame, place}
use Rattle.rv_exec.specs.Needs.{need_of}
use Rattle.rv_exec.specs.Running.{alone}
use Rattle.spec_cache.specs.Held.{maps}
use Rattle.core_node.specs.View.{core_of}
use Rattle.core_node.proofs.Changed.{framed_placed}
use Rattle.core_node.proofs.Finished.{cache-finished}
use Rattle.core_node.proofs.changing.finish_placed.Goals as goal

pub store_placed-requires-clause-absent : goal.store_placed-requires-clause-absent
unfolding core_of
store_placed-requires-clause-absent c =
    let l = line_of c.args.w.0 in
    ap (λ (s : CoreState). s.cache.held l) c.in-Ok.ensures.does
    ∙ ap (λ (x : Cache). x.held l) (cache-finished (alone c.args.inst.now) (need_of c.args.need) c.args.value (core_of c.args.core.now))
    ∙ c.requires.absent

pub store_placed-requires-clause-free : goal.store_placed-requires-clause-free
unfolding core_of
store_placed-requires-clause-free c =
    let k = c.args.core.now in
    let m = c.finish.new.core in
    let l = line_of c.args.w.0 in
    ap (λ (sh : Shape). is_some (free_way sh (maps m.cache) (set_of sh l))) c.in-Ok.ensures.stays.config
    ∙ ap (λ (s : CoreState). is_some (free_way k.config s.cache (set_of k.config l))) c.in-Ok.ensures.does
    ∙ ap (λ (x : Cache). is_some (free_way k.config x (set_of k.config l)))
    (cache-finished (alone c.args.inst.now) (need_of c.args.need) c.args.value (core_of k))
    ∙ c.requires.free

pub returns-clause-does : goal.returns-clause-does
returns-clause-does c =
    let k = c.args.core.now in
    let m = c.finish.new.core in
    let w = c.args.w.0 in
    let x = c.args.value in
    c.store_placed.ensures.does
    ∙ ap (λ (sh : Shape). stored_in_frame w x false (place sh (line_of w) (core_of m))) c.in-Ok.ensures.stays.config
    ∙ ap (λ (s : CoreState). stored_in_frame w x false (place k.config (line_of w) s)) c.in-Ok.ensures.does
    ∙ framed_placed k.config (line_of w) (alone c.args.inst.now) (need_of c.args.need) x w x false (core_of k)
