use Rattle.std.proofs.Common.{map, arith}
use Rattle.std.proofs.lemmas.List.{length-map}
use Rattle.spec_cache.specs.Held.{maps}
use Rattle.spec_cache.specs.Home.{mark_of}
use Rattle.overflow_buf.specs.Kept.{spilled as words_of}
use Rattle.commit_engine.proofs.Lemmas.{sent_both, sent_as}
use Rattle.commit_engine.proofs.SoloLists.{solo_are, few_lines}
use Rattle.commit_engine.proofs.solo.send_solo.Goals as goal

pub close_all-requires-clause-few : goal.close_all-requires-clause-few
close_all-requires-clause-few c =
    let some = few_lines c.args.cfg.now (maps c.args.cache.now) (words_of c.args.spilled.now)
    (map mark_of c.args.marks.now) c.requires.marks in
    let same = length-map c.args.marks.now mark_of in
    omega (arith, some, same)

pub returns : goal.returns
returns c =
    let both = sent_both c.args.out.now c.mark_all.new.out c.close_all.new.out _ _ _ _ c.mark_all.ensures c.close_all.ensures.sent in
    let all = sent_both c.args.out.now c.close_all.new.out c.send_backs.new.out _ _ _ _ both c.send_backs.ensures in
    sent_as c.args.out.now c.send_backs.new.out _ _ _ _ all
    (solo_are c.args.cfg.now (maps c.args.cache.now) (words_of c.args.spilled.now) c.args.tid.0
    (map mark_of c.args.marks.now) c.close_all.ensures.some c.requires.marks) (omega arith)
