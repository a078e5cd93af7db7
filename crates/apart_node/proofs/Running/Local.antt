-- The run of a log with one more entry.
use Rattle.std.proofs.Common.{◌≡◌, ℕ, true, false, List, [], ◌∷◌, ◌++◌, map, Option, Some, None, refl, ap, ◌∙◌}
use Rattle.std.specs.Prelude.{option_map}
use Rattle.std.proofs.lemmas.List.{map-append}
use Rattle.image_load.specs.Start.{Start}
use Rattle.rv_code.specs.Machine.{program}
use Rattle.rules_riscv.specs.Starting.{world_at_start}
use Rattle.rules_program.specs.Program.{Program}
use Rattle.rules_maps.specs.Nodes.{Node, Event, node_eq}
use Rattle.rules_maps.specs.Shape.{Shape}
use Rattle.tcc_msg.specs.Plain.{event_of}
use Rattle.rules_tcc.specs.Step.{names_nodes}
use Rattle.rules_tcc.specs.Local.{Acted, Entry, Mail, Side, act, at_node, consumed, is_gone, local, local_step, mailed}
use Rattle.rules_tcc.specs.Local.{side_start, side_then, state_at}
use Rattle.rules_apart.specs.Filled.{entry_of, filled, handled}
use Rattle.rules_apart.specs.declared.logs.Logged.{Logged}
use Rattle.apart_node.specs.Node.{run_alone}

pub local-push : (sh : Shape) (p : Program) (n : Node) (es : List Entry) (e : Entry) (s : Side)
    → local sh p n (es ++ e ∷ []) s ≡ side_then (local_step sh p n e) (local sh p n es s)
unfolding local
local-push sh p n [] e s = last (local_step sh p n e s)
  where
    last : (o : Option Side) → side_then (local sh p n []) o ≡ o
    last None = refl
    last (Some t) = refl
local-push sh p n (x ∷ es) e s = next (λ t. local-push sh p n es e t) (local_step sh p n x s)
  where
    next : ((t : Side) → local sh p n (es ++ e ∷ []) t ≡ side_then (local_step sh p n e) (local sh p n es t)) → (o : Option Side)
        → side_then (local sh p n (es ++ e ∷ [])) o ≡ side_then (local_step sh p n e) (side_then (local sh p n es) o)
    next h None = refl
    next h (Some t) = h t

-- the node after one more entry
abbrev pub after : Side → Acted → (stamp : ℕ) → Event → Side
after s a t e = record { state = a.state; sent = λ dst. s.sent dst ++ mailed t (a.sends dst); gone = consumed a.consumes e s.gone }

step-does : (sh : Shape) (p : Program) (n : Node) (e : Entry) (s : Side) (a : Acted) → node_eq (at_node e.event) n ≡ true
    → names_nodes sh e.event ≡ true → is_gone s.gone e.event ≡ false → act sh p s.state e.event e.msg ≡ Some a
    → local_step sh p n e s ≡ Some (after s a e.stamp e.event)
unfolding local_step
step-does sh p n e s a h k g d = rw (h, k, g, d)

entry-event : (t : ℕ) (e : Event) (m : Option Mail) → (entry_of t e m).event ≡ e
entry-event t e None = refl
entry-event t e (Some m) = refl

entry-stamp : (t : ℕ) (e : Event) (m : Option Mail) → (entry_of t e m).stamp ≡ t
entry-stamp t e None = refl
entry-stamp t e (Some m) = refl

entry-does : (sh : Shape) (p : Program) (n : Node) (t : ℕ) (e : Event) (m : Option Mail) (s : Side) (a : Acted)
    → node_eq (at_node e) n ≡ true
    → names_nodes sh e ≡ true → is_gone s.gone e ≡ false → act sh p s.state e (option_map (λ x. x.msg) m) ≡ Some a
    → local_step sh p n (entry_of t e m) s ≡ Some (after s a t e)
entry-does sh p n t e None s a h k g d = step-does sh p n (entry_of t e None) s a h k g d
entry-does sh p n t e (Some m) s a h k g d = step-does sh p n (entry_of t e (Some m)) s a h k g d

filled-is : (from : Node → List Mail) (l : Logged) (e : Event) (m : Option Mail) → event_of l.event ≡ e → handled from e ≡ m
    → filled from l ≡ entry_of l.stamp e m
unfolding filled
filled-is from l e m h k = rw (h, k)

pub run-push : (s : Start) (n : Node) (from : Node → List Mail) (log : List Logged) (l : Logged) (e : Event) (m : Option Mail)
    (side : Side) (a : Acted)
    → event_of l.event ≡ e → handled from e ≡ m → run_alone s n from log ≡ Some side → node_eq (at_node e) n ≡ true
    → names_nodes s.settings e ≡ true → is_gone side.gone e ≡ false
    → act s.settings (program s) side.state e (option_map (λ x. x.msg) m) ≡ Some a
    → run_alone s n from (log ++ l ∷ []) ≡ Some (after side a l.stamp e)
run-push s n from log l e m side a q f r h k g d =
    let start = side_start (state_at (world_at_start s) n) in
    ap (λ es. local s.settings (program s) n es start) (map-append (filled from) log (l ∷ []))
    ∙ (local-push s.settings (program s) n (map (filled from) log) (filled from l) start
    ∙ (ap (side_then (local_step s.settings (program s) n (filled from l))) r
    ∙ (ap (λ x. local_step s.settings (program s) n x side) (filled-is from l e m q f)
    ∙ entry-does s.settings (program s) n l.stamp e m side a h k g d)))
