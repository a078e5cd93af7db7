use Rattle.std.proofs.Common.{ℕ, Option, is_some, ap, sym, ◌∙◌}
use Rattle.rules_maps.specs.Cache.{Cache}
use Rattle.rules_maps.specs.Shape.{Shape}
use Rattle.rules_maps.specs.CacheLook.{look_load}
use Rattle.rules_tcc.specs.State.{CoreState}
use Rattle.rules_tcc.specs.Execute.{with_read_mark}
use Rattle.rv_exec.specs.Needs.{need_of}
use Rattle.rv_exec.specs.Running.{alone}
use Rattle.core_node.specs.View.{core_of}
use Rattle.core_node.proofs.Blocked.{some_not, blocked_none}
use Rattle.core_node.proofs.Finished.{cache-finished}
use Rattle.core_node.proofs.Loaded.{load_spilled, load_valid, load_missing, valid_hit, not_found, looks_for, finished_used}
use Rattle.core_node.proofs.Steps.{did_silently}
use Rattle.core_node.proofs.loading.load.Goals as goal

pub returns-in_default-finish-clause-blocked : goal.returns-in_default-finish-clause-blocked
unfolding core_of
returns-in_default-finish-clause-blocked c =
    let k = c.args.core.now in
    some_not _ _
    (load_spilled k.config (alone c.args.inst.now) (need_of c.args.need) c.args.w.0 c.in-Some.word (core_of k) (sym c.in-Some.ensures))

pub returns-in-Some-clause-does : goal.returns-in-Some-clause-does
unfolding core_of
returns-in-Some-clause-does c =
    let k = c.args.core.now in
    rw (load_spilled k.config (alone c.args.inst.now) (need_of c.args.need) c.args.w.0 c.in-Some.word (core_of k) (sym c.in-Some.ensures))
    (did_silently _ 1 c.args.out.now c.finish.new.core c.in-Ok.ensures.does)

pub returns-in-Some-clause-blocked : goal.returns-in-Some-clause-blocked
unfolding core_of
returns-in-Some-clause-blocked c =
    let k = c.args.core.now in
    some_not _ _
    (load_spilled k.config (alone c.args.inst.now) (need_of c.args.need) c.args.w.0 c.in-Some.word (core_of k) (sym c.in-Some.ensures))

pub returns-in_default-finish-2-clause-blocked : goal.returns-in_default-finish-2-clause-blocked
unfolding core_of
returns-in_default-finish-2-clause-blocked c =
    let k = c.args.core.now in
    some_not _ _ (load_valid k.config (alone c.args.inst.now) (need_of c.args.need) c.args.w.0 c.in-Hit.word (core_of k)
    (sym c.in_default.ensures) (valid_hit k.cache.config c.args.w.0 c.in-Hit.word (core_of k).cache c.in-Hit.ensures.answer))

pub mark_used-requires-clause-valid : goal.mark_used-requires-clause-valid
unfolding core_of
mark_used-requires-clause-valid c =
    let k = c.args.core.now in
    ap (λ (s : CoreState). is_some (s.cache.value c.args.w.0)) c.in-Ok-finish.ensures.does
    ∙ ap (λ (x : Cache). is_some (x.value c.args.w.0))
    (cache-finished (alone c.args.inst.now) (need_of c.args.need) c.in-Hit.word (core_of k))
    ∙ ap (λ (x : Option ℕ). is_some x) (valid_hit k.cache.config c.args.w.0 c.in-Hit.word (core_of k).cache c.in-Hit.ensures.answer)

pub fetch-requires : goal.fetch-requires
unfolding core_of
fetch-requires c =
    let k = c.args.core.now in
    let m = (core_of k).cache in
    let found = c.look_load.ensures.answer ∙ ap (λ (sh : Shape). look_load sh c.args.w.0 m) c.requires.whole.cache in
    record {
      whole = c.requires.whole;
      exists = rw c.line_of_word.ensures c.requires.exists;
      found = rw c.line_of_word.ensures (looks_for k.config c.args.w.0 m c.look_load.result found c.in_default-look_load.not-Hit);
      room = c.requires.room;
    }

pub returns-in-Ok-finish-clause-does : goal.returns-in-Ok-finish-clause-does
unfolding core_of
returns-in-Ok-finish-clause-does c =
    let k = c.args.core.now in
    let p = alone c.args.inst.now in
    let n = need_of c.args.need in
    rw (load_valid k.config p n c.args.w.0 c.in-Hit.word (core_of k)
    (sym c.in_default.ensures) (valid_hit k.cache.config c.args.w.0 c.in-Hit.word (core_of k).cache c.in-Hit.ensures.answer))
    (did_silently _ 1 c.args.out.now c.mark_used.new.core
    (c.mark_used.ensures.does ∙ ap (with_read_mark c.args.w.0) c.in-Ok-finish.ensures.does
    ∙ finished_used p n c.in-Hit.word c.args.w.0 (core_of k)))

pub returns-in-Ok-finish-clause-blocked : goal.returns-in-Ok-finish-clause-blocked
unfolding core_of
returns-in-Ok-finish-clause-blocked c =
    let k = c.args.core.now in
    some_not _ _ (load_valid k.config (alone c.args.inst.now) (need_of c.args.need) c.args.w.0 c.in-Hit.word (core_of k)
    (sym c.in_default.ensures) (valid_hit k.cache.config c.args.w.0 c.in-Hit.word (core_of k).cache c.in-Hit.ensures.answer))

pub returns-in_default-look_load : goal.returns-in_default-look_load
unfolding core_of
returns-in_default-look_load c =
    let k = c.args.core.now in
    let absent = not_found k.cache.config c.args.w.0 (core_of k).cache c.look_load.result c.look_load.ensures.answer
    c.in_default-look_load.not-Hit in
    let same = load_missing k.config (alone c.args.inst.now) (need_of c.args.need) c.args.w.0 (core_of k)
    (sym c.in_default.ensures) absent in
    let does = rw (c.line_of_word.ensures) at c.fetch.ensures.does in
    let none = rw (c.line_of_word.ensures) at c.fetch.ensures.blocked in
    record {
      does = rw same does;
      blocked = rw same (blocked_none c.fetch.result _ 1 c.args.out.now c.fetch.new.out c.fetch.new.core does none c.fetch.ensures.cause);
      stays = c.fetch.ensures.stays;
      unchanged = c.fetch.ensures.unchanged;
      unsent = c.fetch.ensures.unsent;
    }
