use Rattle.std.proofs.Common.{refl, ◌∙◌, ◌≡◌, ◌<◌, ◌≤◌, ◌+◌, ◌-◌, length, arith}
use Rattle.std.proofs.lemmas.List.{drop_all}
use Rattle.rv_plain.specs.Store.{buffer_of}
use Rattle.run_outcomes.proofs.Leads.{value_in-drop}
use Rattle.run_outcomes.specs.Changes.{value_in}
use Rattle.run_outcomes.proofs.changes.write_all.Goals as goal

pub loop-k-init : goal.loop-k-init
unfolding buffer_of value_in
loop-k-init c =
    let all : length c.args.changes.now ≤ length c.args.changes.now = omega arith in
    (rw (c.requires.empty, drop_all (length c.args.changes.now) c.args.changes.now all) refl, all, refl)

pub loop-k-preserved : goal.loop-k-preserved
loop-k-preserved c =
    let xs = c.args.changes.now in
    let k = c.loop-k.k in
    let lt : k - 1 < length xs = grind arith in
    let e : k - 1 + 1 ≡ k = grind arith in (
      rw (value_in-drop xs (k - 1) (0, 0) lt, e, ← c.loop-k.invariant.0) c.in_ok-write.ensures.written,
      grind arith,
      c.in_ok-write.ensures.ram ∙ c.loop-k.invariant.2,
    )
