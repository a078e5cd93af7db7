use Rattle.std.proofs.Common.{sym, subst, refl, ◌∙◌}
use Rattle.rv_exec.specs.Running.{alone}
use Rattle.spec_cache.specs.Held.{maps}
use Rattle.core_node.specs.View.{core_of, IsCore}
use Rattle.core_node.specs.declared.state.Core.{Core}
use Rattle.core_node.proofs.AtOnce.{quick_load, loaded_missing, cache_same, whole_loaded}
use Rattle.core_node.proofs.Loaded.{valid_hit, not_found}
use Rattle.core_node.proofs.quick.load_quickly.Goals as goal

pub advance-requires-clause-whole : goal.advance-requires-clause-whole
advance-requires-clause-whole c =
    let w = subst (λ (k : Core). IsCore k) (sym c.core.view_is) c.requires.whole in
    let x = whole_loaded _ c.load.new.self c.args.w.0 c.is_running.result w c.load.ensures.config c.load.ensures.maps in
    record { cache = x.cache; awaited = x.awaited; after = x.after }

pub returns-in-Hit-clause-does : goal.returns-in-Hit-clause-does
unfolding core_of
returns-in-Hit-clause-does c =
    rw (← c.core.view_is)
    (quick_load _ (alone c.args.inst.now) c.args.addr c.args.size c.args.w.0 c.in-Hit.word (maps c.load.new.self) _
    (core_of c.advance.new.core)
    (sym c.in_default.ensures)
    (valid_hit _ c.args.w.0 c.in-Hit.word _ c.in-Hit.ensures.answer)
    (rw c.is_running.ensures at c.load.ensures.maps)
    (rw (c.push_reserved.ensures.items, c.read-value.ensures) at c.advance.ensures.does))

pub returns-in_default-load-clause-does : goal.returns-in_default-load-clause-does
returns-in_default-load-clause-does c =
    rw (← c.core.view_is)
    (cache_same _ c.load.new.self
    (c.load.ensures.maps ∙ loaded_missing c.args.w.0 c.is_running.result _
    (not_found _ c.args.w.0 _ c.load.result c.load.ensures.answer c.in_default-load.not-Hit)))

pub returns-in_default-load-clause-stays : goal.returns-in_default-load-clause-stays
returns-in_default-load-clause-stays c =
    let w = subst (λ (k : Core). IsCore k) (sym c.core.view_is) c.requires.whole in
    let x = whole_loaded _ c.load.new.self c.args.w.0 c.is_running.result w c.load.ensures.config c.load.ensures.maps in
    rw (← c.core.view_is) (record { config = refl; id = refl; whole = record { cache = x.cache; awaited = x.awaited; after = x.after } })
