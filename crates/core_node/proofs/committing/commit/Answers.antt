use Rattle.std.proofs.Common.{◌≡◌, ◌<◌, Some, refl, ap, ◌∙◌}
use Rattle.tcc_base.specs.declared.access.Commit.{Commit as Noted}
use Rattle.rules_maps.specs.Cache.{writes_at}
use Rattle.rules_tcc.specs.Commit.{with_last_commit, commit, committed_core, noted}
use Rattle.spec_cache.specs.Held.{maps}
use Rattle.commit_engine.specs.Engine.{after_of}
use Rattle.core_node.specs.View.{core_of, IsCore}
use Rattle.core_node.proofs.Committed.{whole_noted, held_committed, noted_written}
use Rattle.core_node.proofs.committing.commit.Goals as goal

pub go_on-requires : goal.go_on-requires
go_on-requires c =
    let k = c.args.core.now in
    let w : IsCore (record k { cache = c.commit.new.self; after = c.note_commit.new.after }) =
    whole_noted k c.commit.new.self c.note_commit.new.after c.requires.whole c.commit.ensures.config
    (held_committed c.args.tid.0 (maps c.commit.new.self) (maps k.cache) c.commit.ensures.maps) c.note_commit.ensures.count in
    record { whole = rw c.take_attempt-done.ensures.emptied (record { cache = w.cache; awaited = w.awaited; after = w.after }) }

pub returns-clause-does : goal.returns-clause-does
unfolding core_of commit committed_core
returns-clause-does c =
    let k = c.args.core.now in
    let some : 0 < k.config.dirs = c.dirs.ensures.allowed.1.0 in
    let after : after_of c.note_commit.new.after ≡ with_last_commit (writes_at k.config (maps k.cache)) c.args.tid.0 (after_of k.after) =
    c.note_commit.ensures.noted ∙ noted_written k.config (maps k.cache) c.written_homes-written.result.bits c.args.tid.0 c.dirs.result
    (after_of k.after)
    some c.dirs.ensures.value c.written_homes-written.ensures in
    record {
      core = rw (c.go_on.ensures.does, c.take_attempt-done.ensures.emptied, after, c.commit.ensures.maps) refl;
      sent = c.send_commits.ensures;
    }

pub returns-clause-noted : goal.returns-clause-noted
unfolding core_of commit noted
returns-clause-noted c = ap (λ (x : Noted). Some x) c.take_attempt-done.ensures.taken
