use Rattle.std.proofs.Common.{◌≡◌, ℕ, Bool, true, false, map, not, nat_eq, ap, ◌∙◌, arith}
use Rattle.std.proofs.lemmas.Bool.{ne_eqb}
use Rattle.std.proofs.lemmas.List.{length-map}
use Rattle.tcc_base.specs.Put.{put}
use Rattle.rules_tcc.specs.Commit.{solo_writes_at}
use Rattle.spec_cache.specs.Held.{maps}
use Rattle.spec_cache.specs.Home.{mark_of}
use Rattle.overflow_buf.specs.Kept.{spilled as words_of}
use Rattle.commit_engine.proofs.FirstWith.{first_none, first_in, first_out}
use Rattle.commit_engine.proofs.SoloLists.{few_lines, writes-here}
use Rattle.commit_engine.proofs.solo.solo_homes.Goals.{then-count_here-ne0, else-count_here-ne0}
use Rattle.commit_engine.proofs.solo.solo_homes.Goals as goal

pub loop-d-init : goal.loop-d-init
loop-d-init c =
    record { found = c.none-set.ensures ∙ first_none (solo_writes_at c.args.cfg.now (maps c.args.cache.now) (words_of c.args.spilled.now)) }

pub count_here-requires : goal.count_here-requires
count_here-requires c =
    let some = few_lines c.args.cfg.now (maps c.args.cache.now) (words_of c.args.spilled.now) (map mark_of c.args.marks.now) c.requires in
    let same = length-map c.args.marks.now mark_of in
    omega (arith, some, same, c.dirs-d-end.ensures.allowed)

pub loop-d-preserved : goal.loop-d-preserved
loop-d-preserved c =
    let p : ℕ → Bool = solo_writes_at c.args.cfg.now (maps c.args.cache.now) (words_of c.args.spilled.now) in
    let d = c.loop-d.d in
    let n = c.count_here.result in
    let tells : p d ≡ not (nat_eq n 0) =
    writes-here c.args.cfg.now (maps c.args.cache.now) (words_of c.args.spilled.now)
    (map mark_of c.args.marks.now) d n c.requires c.count_here.ensures in
    elim c.if-count_here-ne0.branch [
      | then-count_here-ne0 w ↦ (let e : p d ≡ true = tells ∙ ap not (ne_eqb n 0 w.if-count_here-ne0.true) in
          record {
            found = rw w.set-is (w.with-set.ensures ∙ ap (λ (q : ℕ → Bool). put q d true) c.loop-d.invariant.found ∙ first_in d p e);
          })
      | else-count_here-ne0 w ↦ (let e : p d ≡ false = tells ∙ ap (λ (k : ℕ). not (nat_eq k 0)) w.if-count_here-ne0.false in
          record { found = rw w.set-is (c.loop-d.invariant.found ∙ first_out d p e) })
    ]
