use Rattle.std.proofs.Common.{◌≡◌, ◌<◌, ℕ, true, false, length, length-set, sym, ap, ◌∙◌, arith}
use Rattle.tcc_base.specs.Put.{put}
use Rattle.rules_maps.specs.Masks.{has}
use Rattle.commit_engine.specs.Engine.{after_of}
use Rattle.commit_engine.proofs.Noting.{note_none, note_in, note_out, after_of-set}
use Rattle.commit_engine.proofs.commits.note_commit.Goals.{then-contains, else-contains}
use Rattle.commit_engine.proofs.commits.note_commit.Goals as goal

pub loop-d-init : goal.loop-d-init
loop-d-init c = record { noted = note_none (has c.args.written.bits) c.args.tid.0 (after_of c.args.after.now); count = c.told-after }

pub loop-d-preserved : goal.loop-d-preserved
loop-d-preserved c = elim c.if-contains.branch [
  | then-contains w ↦ (let e : has c.args.written.bits c.loop-d.d ≡ true = sym c.contains.ensures ∙ w.if-contains.true in
      let long : length c.loop-d.after ≡ length c.if-contains.after =
      rw w.after-is (sym (length-set c.loop-d.after c.loop-d.d c.args.tid)) in
      let below : c.loop-d.d < length c.loop-d.after = omega (arith, long, c.if-contains.array_long, c.loop-d-test.true, c.requires) in
      record {
        noted =
            rw w.after-is (after_of-set c.loop-d.after c.loop-d.d c.args.tid below
            ∙ ap (λ (a : ℕ → ℕ). put a c.loop-d.d c.args.tid.0) c.loop-d.invariant.noted
            ∙ note_in c.loop-d.d (has c.args.written.bits) c.args.tid.0 (after_of c.args.after.now) e);
        count = c.if-contains.array_long;
      })
  | else-contains w ↦ (let e : has c.args.written.bits c.loop-d.d ≡ false = sym c.contains.ensures ∙ w.if-contains.false in
      record {
        noted = rw w.after-is
            (c.loop-d.invariant.noted ∙ note_out c.loop-d.d (has c.args.written.bits) c.args.tid.0 (after_of c.args.after.now) e);
        count = c.if-contains.array_long;
      })
]

pub returns-clause-count : goal.returns-clause-count
returns-clause-count c = c.loop-d.invariant.count
