-- The logs of nodes that have all met fit one another.
use Rattle.std.proofs.Common.{◌≡◌, ℕ, ◌<◌, true, List, [], ◌∷◌, Option, Some, None, refl, sym, ◌∙◌, subst}
use Rattle.std.specs.Prelude.{map}
use Rattle.std.proofs.lemmas.List.{length-map}
use Rattle.std.proofs.lemmas.Option.{slice_get-map, get_or_from_slice_get}
use Rattle.image_load.specs.Contents.{Contents, started}
use Rattle.rv_code.specs.Machine.{program}
use Rattle.rules_riscv.specs.Starting.{world_at_start}
use Rattle.rules_maps.specs.Nodes.{Node}
use Rattle.tcc_msg.specs.Plain.{event_of}
use Rattle.rules_tcc.specs.Local.{Mail, local, side_start, state_at}
use Rattle.rules_tcc.specs.Merged.{Each, StoresItsMessage, Rises}
use Rattle.rules_tcc.specs.Step.{is_node}
use Rattle.rules_apart.specs.Filled.{filled, bare, handled, entry_of}
use Rattle.rules_apart.specs.Fitting.{FitLogs, log_of, place}
use Rattle.rules_apart.specs.declared.logs.Logged.{Logged}
use Rattle.apart_node.specs.Node.{NodeData, got_from, here, run_alone}
use Rattle.node_locks.specs.Hearing.{HaveAllMet}
use Rattle.node_locks.specs.Wiring.{logs_of}
use Rattle.node_locks.proofs.Fits.Filling.{all-filled, all-stored}
use Rattle.node_locks.proofs.Fits.Sources.{AtPlace, at_place, from-all, sides_of}

later-filled : (from : Node → List Mail) (t : ℕ) (log : List Logged) → Each (λ f. t < f.stamp) (map bare log)
    → Each (λ f. t < f.stamp) (map (filled from) log)
unfolding bare filled
later-filled from t [] h = tt
later-filled from t (l ∷ ls) h = (go (handled from (event_of l.event)), later-filled from t ls h.1)
  where
    go : (o : Option Mail) → t < (entry_of l.stamp (event_of l.event) o).stamp
    go None = h.0
    go (Some m) = h.0

stamp-of-filled : (from : Node → List Mail) (l : Logged) → (filled from l).stamp ≡ l.stamp
unfolding filled
stamp-of-filled from l = go (handled from (event_of l.event))
  where
    go : (o : Option Mail) → (entry_of l.stamp (event_of l.event) o).stamp ≡ l.stamp
    go None = refl
    go (Some m) = refl

rises-filled : (from : Node → List Mail) (log : List Logged) → Rises (map bare log) → Rises (map (filled from) log)
unfolding bare
rises-filled from [] h = tt
rises-filled from (l ∷ ls) h = (
  subst (λ t. Each (λ f. t < f.stamp) (map (filled from) ls)) (sym (stamp-of-filled from l)) (later-filled from l.stamp ls h.0),
  rises-filled from ls h.1,
)

module _ (code : Contents) (nodes : List NodeData) (k : HaveAllMet code nodes) where
  abbrev sent_by : Node → Node → List Mail
  sent_by n src = (sides_of code nodes k src).sent n

  log-at : (n : Node) (to : AtPlace code nodes k n) → log_of code.settings (logs_of nodes) n ≡ to.node.log
  unfolding log_of logs_of
  log-at n to =
      get_or_from_slice_get (map (λ d. d.log) nodes) (place code.settings n) to.node.log []
      (slice_get-map (λ d. d.log) nodes (place code.settings n) ∙ rw to.got refl)

  run-at : (n : Node) → is_node code.settings n ≡ true → (to : AtPlace code nodes k n)
      → run_alone (started code) n (sent_by n) to.node.log ≡ Some (sides_of code nodes k n)
  run-at n h to =
      let same = all-filled (got_from to.node) (sent_by n) to.node.log (λ src. from-all code nodes k n src h to)
      (k.each (place code.settings n) to.node to.got).stored in
      let own : run_alone (started code) n (got_from to.node) to.node.log ≡ Some (sides_of code nodes k n) =
      subst (λ m. run_alone (started code) m (got_from to.node) to.node.log ≡ Some (sides_of code nodes k n)) to.is
      (subst (λ c. run_alone (started c) (here to.node) (got_from to.node) to.node.log ≡ Some (sides_of code nodes k n)) to.runs
      to.run.run) in
      subst
      (λ es. local (started code).settings (program (started code)) n es (side_start (state_at (world_at_start (started code)) n)) ≡ Some
      (sides_of code nodes k n))
      same own

  stored-at : (n : Node) → is_node code.settings n ≡ true → (to : AtPlace code nodes k n)
      → Each (StoresItsMessage (sides_of code nodes k)) (map (filled (sent_by n)) to.node.log)
  stored-at n h to =
      all-stored (started code).settings (program (started code)) (sides_of code nodes k) n (got_from to.node) to.node.log
      (side_start (state_at (world_at_start (started code)) n)) (sides_of code nodes k n) (λ src. from-all code nodes k n src h to)
      (k.each (place code.settings n) to.node to.got).stored (run-at n h to)

  pub fit-all : FitLogs (started code) (logs_of nodes)
  unfolding started logs_of
  fit-all = record {
    count = length-map nodes (λ d. d.log) ∙ k.are.count;
    sides = sides_of code nodes k;
    fits = record {
      locals = λ n h. let to = at_place code nodes k n h in rw (log-at n to) (run-at n h to);
      stored = λ n h. let to = at_place code nodes k n h in rw (log-at n to) (stored-at n h to);
      rises = λ n h. let to = at_place code nodes k n h in
          rw (log-at n to) (rises-filled (sent_by n) to.node.log (k.each (place code.settings n) to.node to.got).rises);
    };
  }
