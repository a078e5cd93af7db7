use Rattle.std.proofs.Common.{◌≡◌, ap, sym, ◌∙◌}
use Rattle.rules_maps.specs.Cache.{Cache}
use Rattle.rules_maps.specs.Shape.{Shape}
use Rattle.rules_maps.specs.Words.{line_of}
use Rattle.rules_tcc.specs.State.{CoreState}
use Rattle.rules_tcc.specs.Attempt.{moves, finished}
use Rattle.rules_tcc.specs.Execute.{stored_in_frame}
use Rattle.rules_tcc.specs.Sends.{flush_line}
use Rattle.rv_exec.specs.Needs.{need_of}
use Rattle.rv_exec.specs.Running.{alone}
use Rattle.spec_cache.specs.Held.{maps}
use Rattle.core_node.specs.View.{core_of}
use Rattle.core_node.proofs.Changed.{framed_finished}
use Rattle.core_node.proofs.Finished.{cache-finished}
use Rattle.core_node.proofs.Steps.{did_as}
use Rattle.core_node.proofs.changing.finish_framed.Goals as goal

pub store_framed-requires-clause-held : goal.store_framed-requires-clause-held
unfolding core_of
store_framed-requires-clause-held c =
    let k = c.args.core.now in
    ap (λ (s : CoreState). s.cache.held (line_of c.args.w.0))
    (c.in-Ok.ensures.does) ∙ ap (λ (x : Cache). x.held (line_of c.args.w.0))
    (cache-finished (alone c.args.inst.now) (need_of c.args.need) c.args.word (core_of k)) ∙ c.requires.held

pub returns-clause-does : goal.returns-clause-does
unfolding core_of
returns-clause-does c =
    let k = c.args.core.now in
    let m = c.finish.new.core in
    let p = alone c.args.inst.now in
    let n = need_of c.args.need in
    let l = line_of c.args.w.0 in
    let core : stored_in_frame c.args.w.0 c.args.value c.args.also (core_of m)
    ≡ finished p n c.args.word (stored_in_frame c.args.w.0 c.args.value c.args.also (core_of k)) =
    ap (stored_in_frame c.args.w.0 c.args.value c.args.also) c.in-Ok.ensures.does
    ∙ framed_finished p n c.args.word c.args.w.0 c.args.value c.args.also (core_of k) in
    let cache : maps m.cache ≡ maps k.cache =
    ap (λ (s : CoreState). s.cache) c.in-Ok.ensures.does ∙ cache-finished p n c.args.word (core_of k) in
    did_as _ (moves (stored_in_frame c.args.w.0 c.args.value c.args.also (core_of m)) (flush_line m.config (maps m.cache) l)) 1
    c.args.out.now c.store_framed.new.out c.store_framed.new.core
    (ap (λ (s : CoreState). moves s (flush_line k.config (maps k.cache) l)) (sym core)
    ∙ ap (λ (x : Cache). moves (stored_in_frame c.args.w.0 c.args.value c.args.also (core_of m)) (flush_line k.config x l)) (sym cache)
    ∙ ap (λ (sh : Shape). moves (stored_in_frame c.args.w.0 c.args.value c.args.also (core_of m)) (flush_line sh (maps m.cache) l))
    (sym c.in-Ok.ensures.stays.config))
    c.store_framed.ensures.does
