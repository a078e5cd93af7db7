use Rattle.std.proofs.Common.{◌≡◌, ℕ, refl, ap, ◌∙◌, arith}
use Rattle.tcc_base.specs.Settings.{Settings}
use Rattle.spec_cache.specs.Held.{maps}
use Rattle.commit_engine.specs.Sent.{to_first}
use Rattle.commit_engine.proofs.Noting.{count_at, commit_at, commit_in, commit_out, commits_are}
use Rattle.commit_engine.proofs.Lemmas.{sent_none, sent_more, sent_same, sent_as}
use Rattle.commit_engine.proofs.commits.send_commits.Goals.{then-count-ne0, else-count-ne0}
use Rattle.commit_engine.proofs.commits.send_commits.Goals as goal

pub loop-d-init : goal.loop-d-init
loop-d-init c = record { sent = sent_none c.args.out.now (commit_at c.args.cfg.now (maps c.args.cache.now) c.args.tid.0) }

pub hand_out-requires : goal.hand_out-requires
hand_out-requires c = let s = c.loop-d.invariant.sent in
    omega (arith, c.requires.room, c.dirs-d-end.ensures.value, c.loop-d-test.true, s.count, s.room)

pub loop-d-preserved : goal.loop-d-preserved
loop-d-preserved c =
    let sh = c.args.cfg.now in
    let m = maps c.args.cache.now in
    let d = c.loop-d.d in
    let e : c.write_count-count.result ≡ count_at sh m d = c.write_count-count.ensures
    ∙ ap (λ (s : Settings). count_at s m d) c.requires.config in
    elim c.if-count-ne0.branch [
      | then-count-ne0 w ↦ record {
        sent = rw w.out-is (sent_more c.args.out.now c.loop-d.out w.hand_out.new.self (commit_at sh m c.args.tid.0) d _ _
            c.loop-d.invariant.sent w.hand_out.ensures.sent w.hand_out.ensures.room refl
            (commit_in sh m c.args.tid.0 d c.write_count-count.result e w.if-count-ne0.true));
      }
      | else-count-ne0 w ↦ record {
        sent = rw w.out-is (sent_same c.args.out.now c.loop-d.out (commit_at sh m c.args.tid.0) d
            c.loop-d.invariant.sent (commit_out sh m c.args.tid.0 d c.write_count-count.result e w.if-count-ne0.false));
      }
    ]

pub returns : goal.returns
returns c =
    let sh = c.args.cfg.now in
    let f = commit_at sh (maps c.args.cache.now) c.args.tid.0 in
    let k : c.loop-d.d ≡ sh.dirs = omega (arith, c.dirs-d-end.ensures.value, c.loop-d-test.false, c.loop-d.auto.d-end) in
    sent_as c.args.out.now c.loop-d.out (to_first c.loop-d.d f) _ c.loop-d.d sh.dirs c.loop-d.invariant.sent
    (ap (λ (n : ℕ). to_first n f) k ∙ commits_are sh (maps c.args.cache.now) c.args.tid.0) (omega arith)
