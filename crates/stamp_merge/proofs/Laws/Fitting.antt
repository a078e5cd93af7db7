-- Logs that fit can be merged: a node by itself does its own events alone, and a log's stamps are those of its entries.
use Rattle.std.proofs.Common.{◌≡◌, ℕ, ◌<◌, Bool, true, false, not, cond, List, [], ◌∷◌, map, Option, Some, None, refl, ap, sym, ◌∙◌, arith}
use Rattle.std.specs.Prelude.{◌&&◌}
use Rattle.std.specs.List.{AllByRecursion}
use Rattle.image_load.specs.Start.{Start}
use Rattle.rv_code.specs.Machine.{program}
use Rattle.rules_riscv.specs.Starting.{world_at_start}
use Rattle.rules_program.specs.Program.{Program}
use Rattle.rules_maps.specs.Nodes.{Node, Event, node_eq}
use Rattle.rules_maps.specs.Shape.{Shape}
use Rattle.tcc_msg.specs.Plain.{event_of}
use Rattle.rules_tcc.specs.Local.{Entry, Mail, Side, side_start, at_node, act, is_gone, side_after, state_at, local, local_step, side_then}
use Rattle.rules_tcc.specs.Merged.{Each, Rises}
use Rattle.rules_tcc.specs.Step.{names_nodes}
use Rattle.rules_tcc.proofs.Lemmas.{node_eq-eq}
use Rattle.rules_apart.specs.Filled.{handled, entry_of, filled, bare}
use Rattle.rules_apart.specs.Fitting.{log_of, FitLogs}
use Rattle.rules_apart.specs.declared.logs.Logged.{Logged}
use Rattle.stamp_merge.specs.Merging.{AreLogs}
use Rattle.stamp_merge.proofs.Sorting.Laid.{node}
use Rattle.stamp_merge.proofs.Sorting.Lists.{all-from_each}

pub entry-event : (t : ℕ) (e : Event) (o : Option Mail) → (entry_of t e o).event ≡ e
entry-event t e None = refl
entry-event t e (Some m) = refl

pub entry-stamp : (t : ℕ) (e : Event) (o : Option Mail) → (entry_of t e o).stamp ≡ t
entry-stamp t e None = refl
entry-stamp t e (Some m) = refl

-- an event of this node
abbrev IsOwn : Node → Entry → Type 0
IsOwn n e = node_eq (at_node e.event) n ≡ true

module _ (sh : Shape) (p : Program) (n : Node) where
  own-step : (e : Entry) (s t : Side) → local_step sh p n e s ≡ Some t → IsOwn n e
  unfolding local_step
  own-step e s t h = at (node_eq (at_node e.event) n) refl h
    where
      at : (b : Bool) → node_eq (at_node e.event) n ≡ b →
          cond (b && (names_nodes sh e.event && not (is_gone s.gone e.event))) (side_after e s (act sh p s.state e.event e.msg)) None ≡
          Some t →
          IsOwn n e
      at true q h = q
      at false q h = absurd (cc)

  own-entries : (es : List Entry) (s t : Side) → local sh p n es s ≡ Some t → Each (IsOwn n) es
  unfolding local
  own-entries [] s t h = tt
  own-entries (e ∷ es) s t h = at (local_step sh p n e s) refl h (own-entries es)
    where
      at : (o : Option Side) → local_step sh p n e s ≡ o → side_then (local sh p n es) o ≡ Some t →
          ((s t : Side) → local sh p n es s ≡ Some t → Each (IsOwn n) es) → Each (IsOwn n) (e ∷ es)
      at None q h f = absurd (cc)
      at (Some u) q h f = (own-step e s u q, f u t h)

module _ (from : Node → List Mail) where
  filled-event : (l : Logged) → (filled from l).event ≡ event_of l.event
  unfolding filled
  filled-event l = entry-event l.stamp (event_of l.event) (handled from (event_of l.event))

  filled-stamp : (l : Logged) → (filled from l).stamp ≡ l.stamp
  unfolding filled
  filled-stamp l = entry-stamp l.stamp (event_of l.event) (handled from (event_of l.event))

  own-logged : (n : Node) (ls : List Logged) → Each (IsOwn n) (map (filled from) ls) → AllByRecursion (λ l. node l ≡ n) ls
  own-logged n [] h = tt
  own-logged n (l ∷ ls) h =
      (node_eq-eq (node l) n (ap (λ e. node_eq (at_node e) n) (sym (filled-event l)) ∙ h.0), own-logged n ls h.1)

  later-bare : (l : Logged) (ls : List Logged) → Each (λ f. (filled from l).stamp < f.stamp) (map (filled from) ls) →
      Each (λ f. (bare l).stamp < f.stamp) (map bare ls)
  unfolding bare
  later-bare l [] h = tt
  later-bare l (m ∷ ls) h = (let a = h.0 in let e = filled-stamp l in let f = filled-stamp m in omega arith, later-bare l ls h.1)

  rises-bare : (ls : List Logged) → Rises (map (filled from) ls) → Rises (map bare ls)
  rises-bare [] h = tt
  rises-bare (l ∷ ls) h = (later-bare l ls h.0, rises-bare ls h.1)

module _ (s : Start) (logs : List (List Logged)) (f : FitLogs s logs) where
  -- what the others' logs send to this node
  abbrev from : Node → Node → List Mail
  from n src = (f.sides src).sent n

  abbrev log : Node → List Logged
  log n = log_of s.settings logs n

  pub are_logs : AreLogs s.settings logs
  are_logs = record {
    count = f.count;
    own = λ n h. all-from_each (λ e. node e ≡ n) (log n) (own-logged (from n) n (log n)
        (own-entries s.settings (program s) n (map (filled (from n)) (log n)) (side_start (state_at (world_at_start s) n)) (f.sides n)
        (f.fits.locals n h)));
    rises = λ n h. rises-bare (from n) (log n) (f.fits.rises n h);
  }
