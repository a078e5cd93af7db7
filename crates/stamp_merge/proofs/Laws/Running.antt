-- The merge of logs that fit is a run: an entry has its stamp and its event by itself and with the message that it handled, so that
-- filled entries are merged where bare ones are.
use Rattle.std.proofs.Common.{◌≡◌, true, List, [], ◌∷◌, map, Option, Some, None, refl, ap, sym, ◌∙◌, subst}
use Rattle.std.specs.Prelude.{IsSomeAnd, IfSome}
use Rattle.std.specs.List.{AllByRecursion, filter}
use Rattle.base_lemmas.proofs.Lemmas.{filter-map}
use Rattle.image_load.specs.Start.{Start, first_ram}
use Rattle.rv_code.specs.Machine.{program}
use Rattle.rules_riscv.specs.Starting.{world_at_start, local_at_start, AfterRun}
use Rattle.rules_maps.specs.Nodes.{Node, node_eq}
use Rattle.rules_maps.specs.Shape.{Shape}
use Rattle.tcc_msg.specs.Plain.{event_of}
use Rattle.tcc_msg.specs.declared.event.Event.{Event}
use Rattle.rules_tcc.specs.Local.{Entry, Side, at_node, state_at}
use Rattle.rules_tcc.specs.Merged.{Each, Sorted, IsMerged, is_at, entry_before, events}
use Rattle.rules_tcc.specs.Step.{History, run, is_node}
use Rattle.rules_tcc.proofs.Lemmas.{merged-runs}
use Rattle.rules_apart.specs.Filled.{handled, entry_of, filled, bare}
use Rattle.rules_apart.specs.Fitting.{log_of, FitLogs, IsMergeOf}
use Rattle.rules_apart.specs.declared.logs.Logged.{Logged}
use Rattle.stamp_merge.proofs.Laws.Fitting.{entry-event, entry-stamp, are_logs}
use Rattle.stamp_merge.proofs.Sorting.Laid.{node}
use Rattle.stamp_merge.proofs.Sorting.Lists.{each-from_all}

-- an entry of a node of the machine
abbrev IsHere : Shape → Entry → Type 0
IsHere sh e = is_node sh (at_node e.event) ≡ true

module _ (sides : Node → Side) where
  -- a bare entry with the message that it handled, of those that were sent to its node
  refilled : Entry → Entry
  refilled e = entry_of e.stamp e.event (handled (λ src. (sides src).sent (at_node e.event)) e.event)

  refilled-event : (e : Entry) → (refilled e).event ≡ e.event
  unfolding refilled
  refilled-event e = entry-event e.stamp e.event (handled (λ src. (sides src).sent (at_node e.event)) e.event)

  refilled-stamp : (e : Entry) → (refilled e).stamp ≡ e.stamp
  unfolding refilled
  refilled-stamp e = entry-stamp e.stamp e.event (handled (λ src. (sides src).sent (at_node e.event)) e.event)

  -- an entry of a node, as that node's log has it
  logged : Node → Logged → Entry
  logged n l = filled (λ src. (sides src).sent n) l

  refilled-bare : (n : Node) (l : Logged) → node l ≡ n → refilled (bare l) ≡ logged n l
  unfolding refilled bare filled logged
  refilled-bare n l e = ap (λ m. entry_of l.stamp (event_of l.event) (handled (λ src. (sides src).sent m) (event_of l.event))) e

  refilled-log : (n : Node) (ls : List Logged) → AllByRecursion (λ l. node l ≡ n) ls → map refilled (map bare ls) ≡ map (logged n) ls
  refilled-log n [] h = refl
  refilled-log n (l ∷ ls) h = let a = refilled-bare n l h.0 in let b = refilled-log n ls h.1 in cc

  filter-refilled : (n : Node) (es : List Entry) → filter (is_at n) (map refilled es) ≡ map refilled (filter (is_at n) es)
  filter-refilled n es =
      let e : (λ x. is_at n (refilled x)) ≡ is_at n = (λ i x. node_eq (at_node (refilled-event x i)) n) in
      filter-map (is_at n) refilled es ∙ ap (λ p. map refilled (filter p es)) e

  nodes-refilled : (sh : Shape) (es : List Entry) → Each (IsHere sh) es → Each (IsHere sh) (map refilled es)
  nodes-refilled sh [] h = tt
  nodes-refilled sh (e ∷ es) h = (ap (λ x. is_node sh (at_node x)) (refilled-event e) ∙ h.0, nodes-refilled sh es h.1)

  before-refilled : (e f : Entry) → entry_before (refilled e) (refilled f) ≡ entry_before e f
  before-refilled e f = rw (refilled-event e, refilled-event f, refilled-stamp e, refilled-stamp f) refl

  after-refilled : (e : Entry) (es : List Entry) → Each (λ f. entry_before e f ≡ true) es →
      Each (λ f. entry_before (refilled e) f ≡ true) (map refilled es)
  after-refilled e [] h = tt
  after-refilled e (f ∷ es) h = (before-refilled e f ∙ h.0, after-refilled e es h.1)

  sorted-refilled : (es : List Entry) → Sorted es → Sorted (map refilled es)
  sorted-refilled [] h = tt
  sorted-refilled (e ∷ es) h = (after-refilled e es h.0, sorted-refilled es h.1)

  events-refilled : (ls : List Logged) → events (map refilled (map bare ls)) ≡ map event_of (map (λ l. l.event) ls)
  unfolding bare
  events-refilled [] = refl
  events-refilled (l ∷ ls) = let a = refilled-event (bare l) in let b = events-refilled ls in cc

module _ (s : Start) (logs : List (List Logged)) (f : FitLogs s logs) (es : List Event) (m : IsMergeOf s.settings logs es) where
  merged-refilled :
      IsMerged s.settings (λ n. map (logged f.sides n) (log_of s.settings logs n)) (map (refilled f.sides) (map bare m.entries))
  merged-refilled = record {
    parts = λ n h. filter-refilled f.sides n (map bare m.entries)
        ∙ (ap (map (refilled f.sides)) (m.merged.parts n h)
        ∙ refilled-log f.sides n (log_of s.settings logs n)
        (each-from_all (λ l. node l ≡ n) (log_of s.settings logs n) ((are_logs s logs f).own n h)));
    nodes = nodes-refilled f.sides s.settings (map bare m.entries) m.merged.nodes;
    sorted = sorted-refilled f.sides (map bare m.entries) m.merged.sorted;
  }

  -- each node stands as its own log leaves it
  abbrev Ended : History → Type 0
  Ended h = (n : Node) → is_node s.settings n ≡ true → state_at h.world n ≡ (f.sides n).state

  pub merged_logs_run : IsSomeAnd (run s.settings (program s) (world_at_start s) (map event_of es)) Ended
  unfolding logged
  merged_logs_run =
      subst (λ l. IsSomeAnd (run s.settings (program s) (world_at_start s) l) Ended)
      (events-refilled f.sides m.entries ∙ ap (map event_of) (sym m.events_are))
      (merged-runs s.settings (program s) (local_at_start s) (first_ram s) (λ n. map (logged f.sides n) (log_of s.settings logs n)) f.sides
      (map (refilled f.sides) (map bare m.entries)) f.fits merged-refilled)

  pub after_merged_logs : AfterRun s (map event_of es) Ended
  after_merged_logs = if_some (run s.settings (program s) (world_at_start s) (map event_of es)) merged_logs_run
    where
      if_some : (o : Option History) → IsSomeAnd o Ended → IfSome o Ended
      if_some None h = absurd h
      if_some (Some x) h = h
