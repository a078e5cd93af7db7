-- The cores and the nodes behind them, met with one another, are all nodes met.
use Rattle.std.proofs.Common.{◌≡◌, ℕ, ◌+◌, ◌<◌, List, ◌++◌, length, Some, ap, sym, ◌∙◌, subst, arith}
use Rattle.std.specs.Prelude.{slice_get}
use Rattle.std.proofs.lemmas.Option.{slice_get_within}
use Rattle.base_lemmas.proofs.Lemmas.{get-front}
use Rattle.image_load.specs.Contents.{Contents}
use Rattle.rules_apart.specs.Fitting.{node_count}
use Rattle.apart_node.specs.Linked.{IsLinkedTo}
use Rattle.apart_node.specs.Node.{NodeData}
use Rattle.node_locks.specs.Hearing.{AllAreNodes, AllHaveMet, HaveAllMet}
use Rattle.node_locks.specs.Wiring.{AreNodes}
use Rattle.node_locks.proofs.Peers.{core-peers}
use Rattle.node_locks.proofs.Rounds.{get-back}

module _ (code : Contents) (nodes cores others : List NodeData) (are : AreNodes code nodes) (whole : nodes ≡ cores ++ others)
    (count : length cores ≡ code.settings.cores) where
  core-at : (i : ℕ) (a : NodeData) → slice_get cores i ≡ Some a → slice_get nodes i ≡ Some a
  core-at i a e = ap (λ l. slice_get l i) whole ∙ get-front cores others i (slice_get_within cores i a e) ∙ e

  other-at : (j : ℕ) (b : NodeData) → slice_get others j ≡ Some b → slice_get nodes (code.settings.cores + j) ≡ Some b
  other-at j b e = subst (λ n. slice_get nodes (n + j) ≡ Some b) count (ap (λ l. slice_get l (length cores + j)) whole
      ∙ get-back cores others j ∙ e)

  pub split-wired : (i j : ℕ) (a b : NodeData) → slice_get cores i ≡ Some a → slice_get others j ≡ Some b
      → IsLinkedTo a.room b.room × IsLinkedTo b.room a.room
  split-wired i j a b e f =
      let p = core-at i a e in
      let q = other-at j b f in
      let first = are.placed i a p in
      let second = are.placed (code.settings.cores + j) b q in
      let core : i < code.settings.cores = subst (λ n. i < n) count (slice_get_within cores i a e) in
      let within : code.settings.cores + j < node_count code.settings =
      subst (λ n. code.settings.cores + j < n) are.count (slice_get_within nodes (code.settings.cores + j) b q) in
      let peers = core-peers code.settings i j core (omega (arith, within)) in (
        are.wired i (code.settings.cores + j) a b p q (rw (first.node, second.node) peers.0),
        are.wired (code.settings.cores + j) i b a q p (rw (first.node, second.node) peers.1),
      )

  pub split-met : AllAreNodes nodes → AllHaveMet cores others → HaveAllMet code nodes
  split-met each met = record {
    are = are;
    each = each;
    met = λ c k a b h e f.
        met c a (sym (get-front cores others c (rw count h)) ∙ ap (λ l. slice_get l c) (sym whole) ∙ e)
        k b (sym (get-back cores others k) ∙ ap (λ l. slice_get l (length cores + k)) (sym whole)
        ∙ subst (λ n. slice_get nodes (n + k) ≡ Some b) (sym count) f);
  }
