use Rattle.std.proofs.Common.{◌≡◌, ◌<◌, Some, refl, ap, ◌∙◌}
use Rattle.tcc_base.specs.declared.access.Commit.{Commit as Noted}
use Rattle.rules_tcc.specs.Commit.{with_last_commit, solo_writes_at, solo_commit, committed_core, noted}
use Rattle.spec_cache.specs.Held.{maps}
use Rattle.overflow_buf.specs.Kept.{spilled}
use Rattle.commit_engine.specs.Engine.{after_of}
use Rattle.core_node.specs.View.{core_of, IsCore}
use Rattle.core_node.proofs.Committed.{whole_dropped, held_dropped, noted_alone}
use Rattle.core_node.proofs.committing.solo_commit.Goals as goal

pub go_on-requires : goal.go_on-requires
go_on-requires c =
    let k = c.args.core.now in
    let w : IsCore (record k { cache = c.commit.new.self; after = c.note_commit.new.after; spilled = c.drop_spilled.new.spilled }) =
    whole_dropped k c.commit.new.self c.note_commit.new.after c.drop_spilled.new.spilled c.requires.whole
    (c.commit.ensures.config ∙ c.drop_spilled.ensures.config)
    (held_dropped c.args.tid.0 (spilled k.spilled) (maps c.commit.new.self) (maps c.drop_spilled.new.cache) (maps k.cache)
    c.commit.ensures.maps c.drop_spilled.ensures.dropped) c.note_commit.ensures.count in
    record { whole = rw c.take_attempt-done.ensures.emptied (record { cache = w.cache; awaited = w.awaited; after = w.after }) }

pub returns-clause-does : goal.returns-clause-does
unfolding core_of solo_commit committed_core
returns-clause-does c =
    let k = c.args.core.now in
    let some : 0 < k.config.dirs = c.dirs.ensures.allowed.1.0 in
    let after : after_of c.note_commit.new.after ≡ with_last_commit (solo_writes_at k.config (maps k.cache) (spilled k.spilled))
    c.args.tid.0 (after_of k.after) =
    c.note_commit.ensures.noted ∙ noted_alone k.config (maps k.cache) (spilled k.spilled) c.solo_homes-written.result.bits c.args.tid.0
    c.dirs.result
    (after_of k.after) some c.dirs.ensures.value c.solo_homes-written.ensures in
    record {
      core = rw (
        c.go_on.ensures.does,
        c.take_attempt-done.ensures.emptied,
        after,
        c.commit.ensures.maps,
        c.drop_spilled.ensures.dropped,
        c.drop_spilled.ensures.none,
      ) refl;
      sent = c.send_solo.ensures;
    }

pub returns-clause-noted : goal.returns-clause-noted
unfolding core_of solo_commit noted
returns-clause-noted c = ap (λ (x : Noted). Some x) c.take_attempt-done.ensures.taken
