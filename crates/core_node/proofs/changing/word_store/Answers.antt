use Rattle.std.proofs.Common.{ℕ, true, ap, sym, ◌∙◌}
use Rattle.rules_maps.specs.CacheLook.{look_line, look_store}
use Rattle.rules_maps.specs.Shape.{Shape}
use Rattle.rules_maps.specs.Spilled.{holds}
use Rattle.rv_exec.specs.Needs.{need_of}
use Rattle.rv_exec.specs.Running.{alone}
use Rattle.spec_cache.specs.Held.{maps}
use Rattle.overflow_buf.specs.Kept.{spilled}
use Rattle.core_node.specs.View.{core_of}
use Rattle.core_node.proofs.Blocked.{blocked_some, blocked_none, ok_did, ok_silently}
use Rattle.core_node.proofs.Stored.{hit_held, miss_absent, miss_free, full_absent, full_taken, full_looks}
use Rattle.core_node.proofs.Stored.{word_buffered, word_framed, word_placed, word_full}
use Rattle.core_node.proofs.changing.word_store.Goals as goal

pub returns-then-holds-clause-does : goal.returns-then-holds-clause-does
unfolding core_of
returns-then-holds-clause-does c =
    let k = c.args.core.now in
    let h = ap (holds (spilled k.spilled)) (sym c.line_of_word-line.ensures) ∙ sym c.holds.ensures ∙ c.if-holds.true in
    let same = word_buffered k.config (alone c.args.inst.now) (need_of c.args.need) c.args.w.0 c.args.value (core_of k) h in
    ok_silently c.finish_buffered.result _ _ 1 c.args.out.now c.finish_buffered.new.core same c.finish_buffered.ensures.does

pub returns-then-holds-clause-blocked : goal.returns-then-holds-clause-blocked
unfolding core_of
returns-then-holds-clause-blocked c =
    let k = c.args.core.now in
    let h = ap (holds (spilled k.spilled)) (sym c.line_of_word-line.ensures) ∙ sym c.holds.ensures ∙ c.if-holds.true in
    let same = word_buffered k.config (alone c.args.inst.now) (need_of c.args.need) c.args.w.0 c.args.value (core_of k) h in
    blocked_some c.finish_buffered.result _ _ same c.finish_buffered.ensures.cause

pub finish_framed-requires-clause-held : goal.finish_framed-requires-clause-held
finish_framed-requires-clause-held c =
    let k = c.args.core.now in
    hit_held k.cache.config c.args.w.0 c.in-Hit.field-0 (maps k.cache) c.in-Hit.ensures

pub finish_placed-requires-clause-absent : goal.finish_placed-requires-clause-absent
finish_placed-requires-clause-absent c =
    let k = c.args.core.now in
    miss_absent k.cache.config c.args.w.0 (maps k.cache) c.in-Miss.ensures

pub finish_placed-requires-clause-free : goal.finish_placed-requires-clause-free
finish_placed-requires-clause-free c =
    let k = c.args.core.now in
    miss_free k.config c.args.w.0 (maps k.cache)
    (c.in-Miss.ensures ∙ ap (λ (sh : Shape). look_store sh c.args.w.0 true (maps k.cache)) c.requires.whole.cache)

pub fetch-requires-clause-found : goal.fetch-requires-clause-found
fetch-requires-clause-found c =
    let k = c.args.core.now in
    full_looks k.config c.args.w.0 (maps k.cache) c.look_store.result
    (c.look_store.ensures ∙ ap (λ (sh : Shape). look_store sh c.args.w.0 true (maps k.cache)) c.requires.whole.cache)
    c.in_default.not-Hit
    ∙ ap (λ (l : ℕ). look_line k.config l (maps k.cache)) (sym c.line_of_word-line.ensures)

pub returns-in-Hit-clause-does : goal.returns-in-Hit-clause-does
unfolding core_of
returns-in-Hit-clause-does c =
    let k = c.args.core.now in
    let h = ap (holds (spilled k.spilled)) (sym c.line_of_word-line.ensures) ∙ sym c.holds.ensures ∙ c.if-holds.false in
    let same = word_framed k.config (alone c.args.inst.now) (need_of c.args.need) c.args.w.0 c.args.value (core_of k) h
    (hit_held k.cache.config c.args.w.0 c.in-Hit.field-0 (maps k.cache) c.in-Hit.ensures) in
    ok_did c.finish_framed.result _ _ 1 c.args.out.now c.finish_framed.new.out c.finish_framed.new.core same c.finish_framed.ensures.does

pub returns-in-Hit-clause-blocked : goal.returns-in-Hit-clause-blocked
unfolding core_of
returns-in-Hit-clause-blocked c =
    let k = c.args.core.now in
    let h = ap (holds (spilled k.spilled)) (sym c.line_of_word-line.ensures) ∙ sym c.holds.ensures ∙ c.if-holds.false in
    let same = word_framed k.config (alone c.args.inst.now) (need_of c.args.need) c.args.w.0 c.args.value (core_of k) h
    (hit_held k.cache.config c.args.w.0 c.in-Hit.field-0 (maps k.cache) c.in-Hit.ensures) in
    blocked_some c.finish_framed.result _ _ same c.finish_framed.ensures.cause

pub returns-in-Miss-clause-does : goal.returns-in-Miss-clause-does
unfolding core_of
returns-in-Miss-clause-does c =
    let k = c.args.core.now in
    let h = ap (holds (spilled k.spilled)) (sym c.line_of_word-line.ensures) ∙ sym c.holds.ensures ∙ c.if-holds.false in
    let found = c.in-Miss.ensures ∙ ap (λ (sh : Shape). look_store sh c.args.w.0 true (maps k.cache)) c.requires.whole.cache in
    let same = word_placed k.config (alone c.args.inst.now) (need_of c.args.need) c.args.w.0 c.args.value (core_of k) h
    (miss_absent k.config c.args.w.0 (maps k.cache) found) (miss_free k.config c.args.w.0 (maps k.cache) found) in
    ok_silently c.finish_placed.result _ _ 1 c.args.out.now c.finish_placed.new.core same c.finish_placed.ensures.does

pub returns-in-Miss-clause-blocked : goal.returns-in-Miss-clause-blocked
unfolding core_of
returns-in-Miss-clause-blocked c =
    let k = c.args.core.now in
    let h = ap (holds (spilled k.spilled)) (sym c.line_of_word-line.ensures) ∙ sym c.holds.ensures ∙ c.if-holds.false in
    let found = c.in-Miss.ensures ∙ ap (λ (sh : Shape). look_store sh c.args.w.0 true (maps k.cache)) c.requires.whole.cache in
    let same = word_placed k.config (alone c.args.inst.now) (need_of c.args.need) c.args.w.0 c.args.value (core_of k) h
    (miss_absent k.config c.args.w.0 (maps k.cache) found) (miss_free k.config c.args.w.0 (maps k.cache) found) in
    blocked_some c.finish_placed.result _ _ same c.finish_placed.ensures.cause

pub returns-in_default-clause-does : goal.returns-in_default-clause-does
unfolding core_of
returns-in_default-clause-does c =
    let k = c.args.core.now in
    let h = ap (holds (spilled k.spilled)) (sym c.line_of_word-line.ensures) ∙ sym c.holds.ensures ∙ c.if-holds.false in
    let found = c.look_store.ensures ∙ ap (λ (sh : Shape). look_store sh c.args.w.0 true (maps k.cache)) c.requires.whole.cache in
    rw (word_full k.config (alone c.args.inst.now) (need_of c.args.need) c.args.w.0 c.args.value (core_of k) h
    (full_absent k.config c.args.w.0 (maps k.cache) c.look_store.result found c.in_default.not-Hit)
    (full_taken k.config c.args.w.0 (maps k.cache) c.look_store.result found c.in_default.not-Hit c.in_default.not-Miss))
    (rw (c.line_of_word-line.ensures) at c.fetch.ensures.does)

pub returns-in_default-clause-blocked : goal.returns-in_default-clause-blocked
unfolding core_of
returns-in_default-clause-blocked c =
    let k = c.args.core.now in
    let h = ap (holds (spilled k.spilled)) (sym c.line_of_word-line.ensures) ∙ sym c.holds.ensures ∙ c.if-holds.false in
    let found = c.look_store.ensures ∙ ap (λ (sh : Shape). look_store sh c.args.w.0 true (maps k.cache)) c.requires.whole.cache in
    rw (word_full k.config (alone c.args.inst.now) (need_of c.args.need) c.args.w.0 c.args.value (core_of k) h
    (full_absent k.config c.args.w.0 (maps k.cache) c.look_store.result found c.in_default.not-Hit)
    (full_taken k.config c.args.w.0 (maps k.cache) c.look_store.result found c.in_default.not-Hit c.in_default.not-Miss))
    (blocked_none c.fetch.result _ 1 c.args.out.now c.fetch.new.out c.fetch.new.core
    (rw (c.line_of_word-line.ensures) at c.fetch.ensures.does) (rw (c.line_of_word-line.ensures) at c.fetch.ensures.blocked)
    c.fetch.ensures.cause)
