-- What is told of an event is what the trace has.
use Rattle.std.proofs.Common.{◌≡◌, ℕ, suc, ◌+◌, ◌<◌, ◌≤◌, ◌==◌, ◌&&◌, Bool, true, false, List, [], ◌++◌}
use Rattle.std.proofs.Common.{append-nil, append_assoc, nat_lt, Result, Ok, Err, OnOk, Option, Some, None, IfSome, if◌then◌else◌}
use Rattle.std.proofs.Common.{refl, ap, sym, ◌∙◌, subst, arith}
use Rattle.std.proofs.lemmas.Bool.Decides.{nat_tests}
use Rattle.base_lemmas.proofs.Lemmas.{and-left, and-right, le-false, le-true}
use Rattle.image_load.specs.Contents.{started}
use Rattle.image_load.specs.Start.{first_ram}
use Rattle.rules_maps.specs.Nodes.{Event, Exec, Evict, Deliver}
use Rattle.rules_maps.specs.Shape.{Shape}
use Rattle.rules_program.specs.Program.{Program}
use Rattle.rules_tcc.specs.Step.{History, happens, is_node, names_nodes, next_history, recorded, step}
use Rattle.net_core.specs.Machine.{Machine, history_of, program_of, settings_of, start_of, world_of}
use Rattle.watch.specs.Facts.{Fact}
use Rattle.watch.specs.Happened.{actor, happened}
use Rattle.watch_trace.specs.Text.{event_and_facts, event_text}
use Rattle.watch_changes.specs.Changes.{change_lines, changes}
use Rattle.watch_changes.specs.Plain.{IsInside, Listed, Seen, part_of, records_of_part}
use Rattle.watch_changes.specs.Text.{added, shows}
use Rattle.watch_changes.specs.Touched.{part_records, touched}
use Rattle.watch_changes.proofs.Lemmas.{touched-suffices}
use Rattle.watch_run.specs.Going.{Took}
use Rattle.watch_run.specs.Telling.{IsLook, IsTold}

-- ---- the node of an event that was taken

actor-named : (sh : Shape) (e : Event) → names_nodes sh e ≡ true → is_node sh (actor e) ≡ true
unfolding names_nodes
actor-named sh (Exec c) h = h
actor-named sh (Evict c x y) h = and-left (nat_lt c sh.cores) (nat_lt x sh.sets && nat_lt y sh.ways) h
actor-named sh (Deliver src dst k) h = and-right (is_node sh src) (is_node sh dst) h

pub actor-is : (sh : Shape) (p : Program) (h k : History) (e : Event) → next_history sh p h e ≡ Some k → is_node sh (actor e) ≡ true
unfolding next_history step
actor-is sh p h k e q = actor-named sh e (go (names_nodes sh e) q)
  where
    go : (b : Bool) → recorded h (if b then happens sh p h.world e else None) ≡ Some k → b ≡ true
    go true r = refl
    go false r = absurd (cc)

-- ---- what changed

-- what is inside the machine before is inside the one after it
pub inside-later : (n o : Machine) (e : Event) (p : Listed) → Took n o e → IsInside (settings_of n) p → IsInside (settings_of o) p
inside-later n o e p t h = subst (λ c. IsInside c.settings p) (sym t.code) h

pub look-inside : (states : Bool) (b : Option Seen) (n o : Machine) (e : Event) → Took n o e → IsLook states b n e
    → IfSome b (λ s. IsInside (settings_of o) s.part)
look-inside true (Some b) n o e t h = inside-later n o e b.part t h.0.inside
look-inside true None n o e t h = absurd h
look-inside false (Some b) n o e t h = absurd h
look-inside false None n o e t h = record {}

-- the records of a part by the code of the machine before
now-before : (n o : Machine) (e : Event) (p : Listed) → Took n o e
    → records_of_part o p ≡ part_records (settings_of n) (first_ram (start_of n)) (world_of o) (part_of p)
now-before n o e p t = λ i. part_records (t.code i).settings (first_ram (started (t.code i))) (world_of o) (part_of p)

-- what was told of the part is what changed of the node
look-tells : (states : Bool) (b : Option Seen) (n o : Machine) (e : Event) (before after : List ℕ) → Took n o e
    → IsLook states b n e → IsTold b o before after → after ≡ before ++ (shows states (start_of n)).event (world_of n) (world_of o) e
unfolding history_of started
look-tells true (Some b) n o e before after t h q =
    let sh = settings_of n in
    let first = first_ram (start_of n) in
    let part : part_of b.part ≡ touched sh (program_of n) (world_of n) e =
    h.1 (actor-is sh (program_of n) (history_of n) (history_of o) e t.next) in
    q ∙ ap (λ cs. before ++ change_lines cs)
    ((λ i. changes (h.0.records i) (now-before n o e b.part t i))
    ∙ (λ i. changes (part_records sh first (world_of n) (part i)) (part_records sh first (world_of o) (part i)))
    ∙ sym (touched-suffices sh (program_of n) first (history_of n) (history_of o) e t.next))
look-tells true None n o e before after t h q = absurd h
look-tells false (Some b) n o e before after t h q = absurd h
look-tells false None n o e before after t h q = q ∙ sym (append-nil before)

-- the text of an event: what it did, and what it changed
pub text-tells : {A E : Type 0} (x : Result A E) (states : Bool) (b : Option Seen) (n o : Machine) (e : Event) (text after : List ℕ)
    (facts : List Fact) → Took n o e → IsLook states b n e
    → facts ≡ happened (settings_of n) (program_of n) (history_of n) e
    → OnOk x (IsTold b o (text ++ event_and_facts e facts) after)
    → OnOk x (after ≡ text ++ (event_text (settings_of n) (program_of n) (history_of n) e
    ++ (shows states (start_of n)).event (world_of n) (world_of o) e))
text-tells (Err f) states b n o e text after facts t h is q = record {}
text-tells (Ok y) states b n o e text after facts t h is q =
    let shown = (shows states (start_of n)).event (world_of n) (world_of o) e in
    look-tells states b n o e (text ++ event_and_facts e facts) after t h q
    ∙ ap (λ fs. (text ++ event_and_facts e fs) ++ shown) is
    ∙ append_assoc text (event_text (settings_of n) (program_of n) (history_of n) e) shown

-- ---- what one event adds

begins-behind : (from number : ℕ) → from ≡ number + 1 → (from == suc number) ≡ true
begins-behind from number h = grind (arith, nat_tests)

begins-later : (from number : ℕ) → number + 1 < from → (from == suc number) ≡ false
begins-later from number h = grind (arith, nat_tests)

-- in the window
pub event-tells : {A E : Type 0} (x : Result A E) (states : Bool) (n o : Machine) (e : Event) (from number : ℕ) (text after : List ℕ)
    → from ≤ number
    → OnOk x (after ≡ text ++ (event_text (settings_of n) (program_of n) (history_of n) e
    ++ (shows states (start_of n)).event (world_of n) (world_of o) e))
    → OnOk x (after ≡ text
    ++ added (shows states (start_of n)) (settings_of n) (program_of n) from number e (history_of n) (history_of o))
unfolding added history_of
event-tells (Err f) states n o e from number text after b q = record {}
event-tells (Ok y) states n o e from number text after b q =
    let x = shows states (start_of n) in
    let lines = event_text (settings_of n) (program_of n) (history_of n) e in
    q ∙ ap (λ c. text ++ (if c then lines ++ x.event (world_of n) (world_of o) e
    else if from == suc number then x.begins (world_of o) else [])) (sym (le-true from number b))

-- just before it
pub window-tells : {A E : Type 0} (x : Result A E) (states : Bool) (n o : Machine) (e : Event) (from number : ℕ) (text after : List ℕ)
    → Took n o e → from ≡ number + 1 → OnOk x (after ≡ text ++ (shows states (start_of o)).begins (world_of o))
    → OnOk x (after ≡ text
    ++ added (shows states (start_of n)) (settings_of n) (program_of n) from number e (history_of n) (history_of o))
unfolding added history_of
window-tells (Err f) states n o e from number text after t b q = record {}
window-tells (Ok y) states n o e from number text after t b q =
    let x = shows states (start_of n) in
    let lines = event_and_facts e (happened (settings_of n) (program_of n) (history_of n) e) in
    let test = le-false from number (omega (arith, b)) in
    let begins : (from == suc number) ≡ true = begins-behind from number b in
    q ∙ ap (λ d. text ++ (shows states (started d)).begins (world_of o)) t.code
    ∙ (λ i. text ++ (if sym test i then lines ++ x.event (world_of n) (world_of o) e
    else if sym begins i then x.begins (world_of o) else []))

-- and before that
pub nothing-tells : (states : Bool) (n o : Machine) (e : Event) (from number : ℕ) (text : List ℕ) → number + 1 < from
    → text ≡ text
    ++ added (shows states (start_of n)) (settings_of n) (program_of n) from number e (history_of n) (history_of o)
unfolding added history_of
nothing-tells states n o e from number text b =
    let x = shows states (start_of n) in
    let lines = event_and_facts e (happened (settings_of n) (program_of n) (history_of n) e) in
    let test = le-false from number (omega (arith, b)) in
    let begins : (from == suc number) ≡ false = begins-later from number b in
    sym (append-nil text)
    ∙ (λ i. text ++ (if sym test i then lines ++ x.event (world_of n) (world_of o) e
    else if sym begins i then x.begins (world_of o) else []))
