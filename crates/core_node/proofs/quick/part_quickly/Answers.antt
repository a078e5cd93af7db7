use Rattle.std.proofs.Common.{sym, subst, refl, ◌∙◌}
use Rattle.rv_exec.specs.Running.{alone}
use Rattle.spec_cache.specs.Held.{maps}
use Rattle.core_node.specs.View.{core_of, IsCore}
use Rattle.core_node.specs.declared.state.Core.{Core}
use Rattle.core_node.proofs.AtOnce.{quick_part, cache_same, whole_stored, whole_same}
use Rattle.core_node.proofs.Loaded.{valid_hit}
use Rattle.core_node.proofs.quick.part_quickly.Goals as goal

pub advance-requires-clause-whole : goal.advance-requires-clause-whole
advance-requires-clause-whole c =
    let w = subst (λ (k : Core). IsCore k) (sym c.core.view_is) c.requires.whole in
    let s = rw c.if-not-store_clean.false at c.store_clean.ensures.does in
    let x = whole_stored _ c.store_clean.new.self c.args.w.0 c.new_word-new.result c.marks_too-also.result w c.store_clean.ensures.config
    s.maps in
    record { cache = x.cache; awaited = x.awaited; after = x.after }

pub returns-clause-does : goal.returns-clause-does
unfolding core_of
returns-clause-does c =
    let s = rw c.if-not-store_clean.false at c.store_clean.ensures.does in
    let t = rw c.new_word-new.ensures at s in
    rw (← c.core.view_is)
    (quick_part _ (alone c.args.inst.now) c.args.addr c.args.size c.args.value c.args.w.0 c.in-Hit.word c.marks_too-also.result
    (maps c.store_clean.new.self) _
    (core_of c.advance.new.core) (sym c.in_default.ensures)
    (rw c.line_of_word.ensures at (sym c.holds.ensures ∙ c.if-holds.false))
    (valid_hit _ c.args.w.0 c.in-Hit.word _ c.in-Hit.ensures.answer) c.marks_too-also.ensures t
    (rw c.push_reserved.ensures.items at c.advance.ensures.does))

pub returns-then-not-store_clean-clause-does : goal.returns-then-not-store_clean-clause-does
returns-then-not-store_clean-clause-does c =
    let s = rw c.if-not-store_clean.true at c.store_clean.ensures.does in
    rw (← c.core.view_is) (cache_same _ c.store_clean.new.self s)

pub returns-then-not-store_clean-clause-stays : goal.returns-then-not-store_clean-clause-stays
returns-then-not-store_clean-clause-stays c =
    let w = subst (λ (k : Core). IsCore k) (sym c.core.view_is) c.requires.whole in
    let s = rw c.if-not-store_clean.true at c.store_clean.ensures.does in
    let x = whole_same _ c.store_clean.new.self w c.store_clean.ensures.config s in
    rw (← c.core.view_is) (record { config = refl; id = refl; whole = record { cache = x.cache; awaited = x.awaited; after = x.after } })
