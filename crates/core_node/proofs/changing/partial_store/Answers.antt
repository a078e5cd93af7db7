use Rattle.std.proofs.Common.{ap, sym, ◌∙◌}
use Rattle.base_lemmas.proofs.Lemmas.{held_valued}
use Rattle.rules_maps.specs.CacheLook.{look_load}
use Rattle.rules_maps.specs.Shape.{Shape}
use Rattle.rv_exec.specs.Needs.{need_of}
use Rattle.rv_exec.specs.Running.{alone}
use Rattle.spec_cache.specs.Held.{maps}
use Rattle.core_node.specs.View.{core_of}
use Rattle.core_node.proofs.Blocked.{blocked_some, blocked_none, ok_silently, unchanged_core}
use Rattle.core_node.proofs.Loaded.{valid_hit, not_found, looks_for}
use Rattle.core_node.proofs.Stored.{partial_spilled, partial_valid, partial_missing}
use Rattle.core_node.proofs.changing.partial_store.Goals as goal

pub returns-in-Some-clause-does : goal.returns-in-Some-clause-does
unfolding core_of
returns-in-Some-clause-does c =
    let k = c.args.core.now in
    let same = partial_spilled k.config (alone c.args.inst.now) (need_of c.args.need) c.args.w.0 c.in-Some.word (core_of k)
    (sym c.in-Some.ensures) in
    ok_silently c.finish_buffered.result _ _ 1 c.args.out.now c.finish_buffered.new.core same
    (rw (c.new_word.ensures) at c.finish_buffered.ensures.does)

pub returns-in-Some-clause-blocked : goal.returns-in-Some-clause-blocked
unfolding core_of
returns-in-Some-clause-blocked c =
    let k = c.args.core.now in
    blocked_some c.finish_buffered.result _ _
    (partial_spilled k.config (alone c.args.inst.now) (need_of c.args.need) c.args.w.0 c.in-Some.word (core_of k) (sym c.in-Some.ensures))
    c.finish_buffered.ensures.cause

pub change_valid-requires-clause-held : goal.change_valid-requires-clause-held
change_valid-requires-clause-held c =
    let k = c.args.core.now in
    held_valued k.cache.config (maps k.cache) c.args.w.0 c.in-Hit.word c.look_load.ensures.consistent
    (valid_hit k.cache.config c.args.w.0 c.in-Hit.word (maps k.cache) c.in-Hit.ensures.answer)

pub fetch-requires : goal.fetch-requires
unfolding core_of
fetch-requires c =
    let k = c.args.core.now in
    let found = c.look_load.ensures.answer ∙ ap (λ (sh : Shape). look_load sh c.args.w.0 (maps k.cache)) c.requires.whole.cache in
    record {
      whole = c.requires.whole;
      exists = rw c.line_of_word.ensures c.requires.exists;
      found = rw c.line_of_word.ensures
          (looks_for k.config c.args.w.0 (maps k.cache) c.look_load.result found c.in_default-look_load.not-Hit);
      room = c.requires.room;
    }

pub returns-in-Hit-clause-does : goal.returns-in-Hit-clause-does
unfolding core_of
returns-in-Hit-clause-does c =
    let k = c.args.core.now in
    rw (partial_valid k.config (alone c.args.inst.now) (need_of c.args.need) c.args.w.0 c.in-Hit.word (core_of k) (sym c.in_default.ensures)
    (valid_hit k.cache.config c.args.w.0 c.in-Hit.word (maps k.cache) c.in-Hit.ensures.answer)) c.change_valid.ensures.does

pub returns-in-Hit-clause-blocked : goal.returns-in-Hit-clause-blocked
unfolding core_of
returns-in-Hit-clause-blocked c =
    let k = c.args.core.now in
    rw (partial_valid k.config (alone c.args.inst.now) (need_of c.args.need) c.args.w.0 c.in-Hit.word (core_of k) (sym c.in_default.ensures)
    (valid_hit k.cache.config c.args.w.0 c.in-Hit.word (maps k.cache) c.in-Hit.ensures.answer)) c.change_valid.ensures.blocked

pub returns-in_default-look_load : goal.returns-in_default-look_load
unfolding core_of
returns-in_default-look_load c =
    let k = c.args.core.now in
    let absent = not_found k.cache.config c.args.w.0 (maps k.cache) c.look_load.result c.look_load.ensures.answer
    c.in_default-look_load.not-Hit in
    let same = partial_missing k.config (alone c.args.inst.now) (need_of c.args.need) c.args.w.0 (core_of k)
    (sym c.in_default.ensures) absent in
    let does = rw (c.line_of_word.ensures) at c.fetch.ensures.does in
    let none = rw (c.line_of_word.ensures) at c.fetch.ensures.blocked in
    record {
      does = rw same does;
      blocked = rw same (blocked_none c.fetch.result _ 1 c.args.out.now c.fetch.new.out c.fetch.new.core does none c.fetch.ensures.cause);
      stays = c.fetch.ensures.stays;
      unchanged = unchanged_core c.fetch.result c.fetch.new.core k c.fetch.ensures.unchanged;
      unsent = c.fetch.ensures.unsent;
    }
