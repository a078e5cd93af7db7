use Rattle.std.proofs.Common.{◌≡◌, ◌∙◌, sym, ◌<◌, ◌≤◌, ◌-◌, take, get_or, slice_index, length, Contains, subst, arith}
use Rattle.std.proofs.lemmas.List.{take_more, get_or-take, length-take}
use Rattle.std.proofs.lemmas.List.Elements.{All-nil, All-push, Contains-get_or}
use Rattle.run_outcomes.proofs.Normal.{past, past-le, past-same, so-far-nothing, so-far-same, so-far-push}
use Rattle.run_outcomes.proofs.Told.{told-nothing, told-again, told-same, told-push}
use Rattle.rules_program.specs.Ram.{flat}
use Rattle.run_outcomes.proofs.changes.differing.Goals as goal
use Rattle.run_outcomes.proofs.changes.differing.Goals.{then-value-word+in_ok-push, else-value-word}
use Rattle.run_outcomes.proofs.changes.differing.Goals.{else-k-gt0-via-then-k-gt0+else-words-k, else-k-gt0-via-else-k-gt0}

pub loop-k-init : goal.loop-k-init
loop-k-init c =
    rw c.new-changes.ensures (
      told-nothing c.args.memory.now,
      All-nil (λ change. change.0 < length c.args.memory.now.ram),
      so-far-nothing (flat c.args.memory.now.ram) c.args.words.now 0,
    )

pub loop-k-preserved-then-words-k : goal.loop-k-preserved-then-words-k
loop-k-preserved-then-words-k c =
    let words = c.args.words.now in
    let k = c.loop-k.k in
    let lt : k < length words = grind arith in
    let below : k - 1 < k = grind arith in
    let there : k - 1 < length (take k words) = grind (arith, length-take) in
    let same : get_or (take k words) (k - 1) 0 ≡ get_or words k 0 = get_or-take k words (k - 1) 0 below ∙ c.if-words-k.true in
    let again : Contains (take k words) (get_or words k 0) =
    subst (λ v. Contains (take k words) v) same (Contains-get_or (take k words) (k - 1) 0 there) in (
      rw (take_more words k 0 lt) (told-again c.args.memory.now (take k words) c.loop-k.changes (get_or words k 0)
          c.loop-k.invariant.0 again),
      c.loop-k.invariant.1,
      so-far-same (flat c.args.memory.now.ram) words k c.loop-k.changes (past-same words k c.if-words-k.true) c.loop-k.invariant.2,
    )

pub loop-k-preserved : goal.loop-k-preserved
loop-k-preserved c =
    let words = c.args.words.now in
    let m = c.args.memory.now in
    let k = c.loop-k.k in
    let lt : k < length words = grind arith in
    let apart : 0 < k → slice_index words (k - 1) ≡ slice_index words k → ⊥ =
    elim c.else-k-gt0.branch [
      | else-k-gt0-via-then-k-gt0+else-words-k w ↦ λ positive. w.if-words-k.false
      | else-k-gt0-via-else-k-gt0 w ↦ λ positive e. absurd (omega (arith, w.if-k-gt0.false, positive))
    ] in
    let rises : past words k ≤ slice_index words k = past-le words k c.requires.sorted lt apart in
    elim c.if-value-word.branch [
      | then-value-word+in_ok-push w ↦
          rw (w.changes-is, w.in_ok-push.ensures, take_more words k 0 lt) (
            told-push m (take k words) c.loop-k.changes (get_or words k 0) c.read-value.result c.loop-k.invariant.0 c.read-value.ensures,
            All-push (λ change. change.0 < length m.ram) c.loop-k.changes (get_or words k 0, c.read-value.result) c.loop-k.invariant.1
                (c.requires.inside k 0 lt),
            so-far-push (flat m.ram) words k c.read-value.result c.loop-k.changes rises
                (λ e. w.if-value-word.true (e ∙ sym c.word.ensures)) c.loop-k.invariant.2,
          )
      | else-value-word w ↦
          rw (w.changes-is, take_more words k 0 lt) (
            told-same m (take k words) c.loop-k.changes (get_or words k 0) c.loop-k.invariant.0
                (sym c.word.ensures ∙ sym w.if-value-word.false ∙ c.read-value.ensures),
            c.loop-k.invariant.1,
            so-far-same (flat m.ram) words k c.loop-k.changes (omega (arith, rises)) c.loop-k.invariant.2,
          )
    ]
