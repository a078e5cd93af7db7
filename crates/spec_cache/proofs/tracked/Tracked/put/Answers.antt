use Rattle.std.proofs.Common.{◌≡◌, ◌<◌, ◌/◌, ◌∙◌, ap, true, None, length, get_or, sym, refl, arith}
use Rattle.std.proofs.lemmas.List.{get_or_read}
use Rattle.rules_maps.specs.Words.{num}
use Rattle.spec_cache.specs.Home.{reads_in}
use Rattle.spec_cache.specs.Useful.{writes_in, dirty_way}
use Rattle.spec_cache.specs.Held.{Held}
use Rattle.spec_cache.specs.PerSet.{idle_way, used_way}
use Rattle.spec_cache.specs.Tracked.{written_home, read_home}
use Rattle.spec_cache.proofs.Tallied.{written-below, read-below, written-some, read-some, counted-small, dirty-fits, dirty-enough}
use Rattle.spec_cache.proofs.SetTallies.{IsPerSet-set, block-exists, shift-exists, shift-some, shift-some_block, shift-some_all}
use Rattle.spec_cache.proofs.SetTallies.{shift-few, shift-few_block, shift-few_all}
use Rattle.spec_cache.proofs.TrackedKept.{IsTracked-alike, IsTracked-set}
use Rattle.spec_cache.proofs.tracked.Tracked.put.Goals as goal

pub recount-requires-clause-less_exists : goal.recount-requires-clause-less_exists
recount-requires-clause-less_exists c =
    written-below c.dirs-dirs.result (rw c.dirs-dirs.ensures.value c.dirs-dirs.ensures.allowed.1.0)
    (rw c.dirs-dirs.ensures.value c.dirs-dirs.ensures.allowed.1.1)
    c.way-old.result c.written_home.result c.written_home.ensures

pub recount-requires-clause-more_exists : goal.recount-requires-clause-more_exists
recount-requires-clause-more_exists c =
    written-below c.dirs-dirs.result (rw c.dirs-dirs.ensures.value c.dirs-dirs.ensures.allowed.1.0)
    (rw c.dirs-dirs.ensures.value c.dirs-dirs.ensures.allowed.1.1)
    c.args.frame c.written_home-2.result c.written_home-2.ensures

pub recount-requires-clause-some : goal.recount-requires-clause-some
recount-requires-clause-some c =
    let old : c.way-old.result ≡ get_or c.self.inside.frames.items c.args.at None = rw (sym c.self.view_is) at c.way-old.ensures in
    written-some c.self.inside.frames.items c.args.at (rw (sym c.self.view_is) at c.requires) c.self.inside.written
    c.self.inside.config.dirs c.self.invariant.written
    c.written_home.result (recount-requires-clause-less_exists c) (c.written_home.ensures ∙ (rw (c.dirs-dirs.ensures.value, old) refl))

pub recount-requires-clause-small : goal.recount-requires-clause-small
recount-requires-clause-small c =
    counted-small (writes_in c.self.inside.config.dirs) c.self.inside.frames.items c.self.inside.written c.self.invariant.written
    c.self.invariant.small

pub recount-requires-2-clause-less_exists : goal.recount-requires-2-clause-less_exists
recount-requires-2-clause-less_exists c =
    read-below c.dirs-dirs.result (rw c.dirs-dirs.ensures.value c.dirs-dirs.ensures.allowed.1.0)
    (rw c.dirs-dirs.ensures.value c.dirs-dirs.ensures.allowed.1.1)
    c.way-old.result c.read_home.result c.read_home.ensures

pub recount-requires-2-clause-more_exists : goal.recount-requires-2-clause-more_exists
recount-requires-2-clause-more_exists c =
    read-below c.dirs-dirs.result (rw c.dirs-dirs.ensures.value c.dirs-dirs.ensures.allowed.1.0)
    (rw c.dirs-dirs.ensures.value c.dirs-dirs.ensures.allowed.1.1)
    c.args.frame c.read_home-2.result c.read_home-2.ensures

pub recount-requires-2-clause-some : goal.recount-requires-2-clause-some
recount-requires-2-clause-some c =
    let old : c.way-old.result ≡ get_or c.self.inside.frames.items c.args.at None = rw (sym c.self.view_is) at c.way-old.ensures in
    read-some c.self.inside.frames.items c.args.at (rw (sym c.self.view_is) at c.requires) c.self.inside.read c.self.inside.config.dirs
    c.self.invariant.read
    c.read_home.result (recount-requires-2-clause-less_exists c) (c.read_home.ensures ∙ (rw (c.dirs-dirs.ensures.value, old) refl))

pub recount-requires-2-clause-small : goal.recount-requires-2-clause-small
recount-requires-2-clause-small c =
    counted-small (reads_in c.self.inside.config.dirs) c.self.inside.frames.items c.self.inside.read c.self.invariant.read
    c.self.invariant.small

pub overflow_add-self : goal.overflow_add-self
overflow_add-self c =
    let r = dirty-fits c.self.inside.frames.items c.self.inside.dirty c.is_dirty.result c.self.invariant.dirty c.self.invariant.small in
    rw c.one.ensures (omega (arith, r))

pub overflow_sub-self : goal.overflow_sub-self
overflow_sub-self c =
    let old : c.way-old.result ≡ get_or c.self.inside.frames.items c.args.at None = rw (sym c.self.view_is) at c.way-old.ensures in
    rw c.one-2.ensures (dirty-enough c.self.inside.frames.items c.args.at c.self.inside.dirty c.one.result c.is_dirty-2.result
    (rw (sym c.self.view_is) at c.requires)
    c.self.invariant.dirty (c.is_dirty-2.ensures ∙ ap dirty_way old))

pub shift-requires : goal.shift-requires
shift-requires c =
    let h : Held = record { config = c.self.inside.config; frames = c.self.inside.frames.items } in
    let old : c.way-old.result ≡ get_or c.self.inside.frames.items c.args.at None = rw (sym c.self.view_is) at c.way-old.ensures in
    let inside : c.args.at < length c.self.inside.frames.items = rw (sym c.self.view_is) at c.requires in
    let ways = c.ways.ensures.allowed.3 in
    let sets = c.ways.ensures.allowed.2.1 in
    let test : c.is_idle.result ≡ true → idle_way (get_or c.self.inside.frames.items c.args.at None) ≡ true =
    λ t. sym (c.is_idle.ensures ∙ ap idle_way old) ∙ t in
    rw (c.set_at-set.ensures, c.ways.ensures.value) record {
      exists = shift-exists idle_way h ways.0 ways.1 c.self.invariant.whole c.args.at c.args.frame inside c.self.inside.idle
          c.self.invariant.idle;
      some = λ t. shift-some idle_way h ways.0 ways.1 c.self.invariant.whole c.args.at c.args.frame inside c.self.inside.idle
          c.self.invariant.idle (test t);
      block_exists = block-exists idle_way h ways.0 ways.1 c.self.invariant.whole c.args.at c.args.frame inside sets;
      some_block = λ t. shift-some_block idle_way h ways.0 ways.1 c.self.invariant.whole c.args.at c.args.frame inside c.self.inside.idle
          c.self.invariant.idle sets (test t);
      some_all = λ t. shift-some_all idle_way h ways.0 ways.1 c.self.invariant.whole c.args.at c.args.frame inside c.self.inside.idle
          c.self.invariant.idle (test t);
      few = shift-few idle_way h ways.0 ways.1 c.self.invariant.whole c.args.at c.args.frame inside c.self.inside.idle
          c.self.invariant.idle;
      few_block = shift-few_block idle_way h ways.0 ways.1 c.self.invariant.whole c.args.at c.args.frame inside c.self.inside.idle
          c.self.invariant.idle sets;
      few_all =
          shift-few_all idle_way h ways.0 ways.1 c.self.invariant.whole c.self.inside.idle c.self.invariant.idle c.self.invariant.small;
    }

pub shift-requires-2 : goal.shift-requires-2
shift-requires-2 c =
    let h : Held = record { config = c.self.inside.config; frames = c.self.inside.frames.items } in
    let old : c.way-old.result ≡ get_or c.self.inside.frames.items c.args.at None = rw (sym c.self.view_is) at c.way-old.ensures in
    let inside : c.args.at < length c.self.inside.frames.items = rw (sym c.self.view_is) at c.requires in
    let ways = c.ways.ensures.allowed.3 in
    let sets = c.ways.ensures.allowed.2.1 in
    let test : c.is_used.result ≡ true → used_way (get_or c.self.inside.frames.items c.args.at None) ≡ true =
    λ t. sym (c.is_used.ensures ∙ ap used_way old) ∙ t in
    rw (c.set_at-set.ensures, c.ways.ensures.value) record {
      exists = shift-exists used_way h ways.0 ways.1 c.self.invariant.whole c.args.at c.args.frame inside c.self.inside.used
          c.self.invariant.used;
      some = λ t. shift-some used_way h ways.0 ways.1 c.self.invariant.whole c.args.at c.args.frame inside c.self.inside.used
          c.self.invariant.used (test t);
      block_exists = block-exists used_way h ways.0 ways.1 c.self.invariant.whole c.args.at c.args.frame inside sets;
      some_block = λ t. shift-some_block used_way h ways.0 ways.1 c.self.invariant.whole c.args.at c.args.frame inside c.self.inside.used
          c.self.invariant.used sets (test t);
      some_all = λ t. shift-some_all used_way h ways.0 ways.1 c.self.invariant.whole c.args.at c.args.frame inside c.self.inside.used
          c.self.invariant.used (test t);
      few = shift-few used_way h ways.0 ways.1 c.self.invariant.whole c.args.at c.args.frame inside c.self.inside.used
          c.self.invariant.used;
      few_block = shift-few_block used_way h ways.0 ways.1 c.self.invariant.whole c.args.at c.args.frame inside c.self.inside.used
          c.self.invariant.used sets;
      few_all =
          shift-few_all used_way h ways.0 ways.1 c.self.invariant.whole c.self.inside.used c.self.invariant.used c.self.invariant.small;
    }

pub invariant_of-self-2 : goal.invariant_of-self-2
invariant_of-self-2 c =
    let old : c.way-old.result ≡ get_or c.self.inside.frames.items c.args.at None = rw (sym c.self.view_is) at c.way-old.ensures in
    let dirs = c.self.inside.config.dirs in
    let was : c.written_home.result ≡ written_home dirs (get_or c.self.inside.frames.items c.args.at None) =
    c.written_home.ensures ∙ (rw (c.dirs-dirs.ensures.value, old) refl) in
    let is : c.written_home-2.result ≡ written_home dirs c.args.frame = c.written_home-2.ensures ∙ (rw c.dirs-dirs.ensures.value refl) in
    let was_read : c.read_home.result ≡ read_home dirs (get_or c.self.inside.frames.items c.args.at None) =
    c.read_home.ensures ∙ (rw (c.dirs-dirs.ensures.value, old) refl) in
    let is_read : c.read_home-2.result ≡ read_home dirs c.args.frame = c.read_home-2.ensures ∙ (rw c.dirs-dirs.ensures.value refl) in
    let more : c.one.result ≡ num (dirty_way c.args.frame) = c.one.ensures ∙ ap num c.is_dirty.ensures in
    let less : c.one-2.result ≡ num (dirty_way (get_or c.self.inside.frames.items c.args.at None)) =
    c.one-2.ensures ∙ ap num (c.is_dirty-2.ensures ∙ ap dirty_way old) in
    let enough = dirty-enough c.self.inside.frames.items c.args.at c.self.inside.dirty c.one.result c.is_dirty-2.result
    (rw (sym c.self.view_is) at c.requires) c.self.invariant.dirty (c.is_dirty-2.ensures ∙ ap dirty_way old) in
    let h : Held = record { config = c.self.inside.config; frames = c.self.inside.frames.items } in
    let inside : c.args.at < length c.self.inside.frames.items = rw (sym c.self.view_is) at c.requires in
    let ways = c.ways.ensures.allowed.3 in
    let set : c.set_at-set.result ≡ c.args.at / h.config.ways = c.set_at-set.ensures ∙ ap (λ w. c.args.at / w) c.ways.ensures.value in
    let was_idle : c.is_idle.result ≡ idle_way (get_or c.self.inside.frames.items c.args.at None) = c.is_idle.ensures ∙ ap idle_way old in
    let was_used : c.is_used.result ≡ used_way (get_or c.self.inside.frames.items c.args.at None) = c.is_used.ensures ∙ ap used_way old in
    let idle = IsPerSet-set idle_way h ways.0 ways.1 c.self.invariant.whole c.args.at c.args.frame inside c.self.inside.idle
    c.shift.new.self c.self.invariant.idle c.shift.ensures.sets
    (λ s. rw (← set, ← was_idle, ← c.is_idle-2.ensures) (c.shift.ensures.counts s))
    (λ b. rw (← set, ← was_idle, ← c.is_idle-2.ensures) (c.shift.ensures.blocks b))
    (rw (← was_idle, ← c.is_idle-2.ensures) c.shift.ensures.all) in
    let used = IsPerSet-set used_way h ways.0 ways.1 c.self.invariant.whole c.args.at c.args.frame inside c.self.inside.used
    c.shift-2.new.self c.self.invariant.used c.shift-2.ensures.sets
    (λ s. rw (← set, ← was_used, ← c.is_used-2.ensures) (c.shift-2.ensures.counts s))
    (λ b. rw (← set, ← was_used, ← c.is_used-2.ensures) (c.shift-2.ensures.blocks b))
    (rw (← was_used, ← c.is_used-2.ensures) c.shift-2.ensures.all) in
    IsTracked-set h c.self.inside.tags.items c.self.inside.written c.self.inside.read
    c.self.inside.dirty c.self.inside.idle c.self.inside.used c.self.invariant c.args.at c.args.frame
    (rw (sym c.self.view_is) at c.requires) c.tag.result c.tag.ensures _ _ _ c.shift.new.self c.shift-2.new.self
    (λ d. rw (← was, ← is) (c.recount.ensures d)) (λ d. rw (← was_read, ← is_read) (c.recount-2.ensures d))
    (rw (← more, ← less) (let e = c.one-2.ensures in omega (arith, enough, e))) idle used

pub invariant_of-self : goal.invariant_of-self
invariant_of-self c =
    let h : Held = record { config = c.self.inside.config; frames = c.self.inside.frames.items } in
    let inside : c.args.at < length c.self.inside.frames.items = rw (sym c.self.view_is) at c.requires in
    let old : c.index.result.now ≡ get_or c.self.inside.frames.items c.args.at None =
    get_or_read c.self.inside.frames.items c.args.at c.index.result.now inside c.index.ensures None in
    IsTracked-alike h c.self.inside.tags.items c.self.inside.written c.self.inside.read c.self.inside.dirty c.self.inside.idle
    c.self.inside.used
    c.self.invariant c.args.at c.args.frame inside (rw old at (c.alike.ensures c.if-alike.true))
