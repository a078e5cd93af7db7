-- The machine after an event of a core: what the rules say of it, and what the core's own answer says.
use Rattle.std.proofs.Common.{◌≡◌, ℕ, ◌+◌, ◌<◌, ◌⊎◌, inl, inr, Bool, true, false, ◌&&◌, []}
use Rattle.std.proofs.Common.{Option, Some, None, refl, ap, sym, ◌∙◌, subst, arith}
use Rattle.std.specs.Prelude.{nat_lt, Err, if◌then◌else◌}
use Rattle.std.specs.Option.{option_map}
use Rattle.std.proofs.lemmas.Bool.{lt-ltb}
use Rattle.std.proofs.lemmas.Bool.Decides.{nat_tests}
use Rattle.image_load.specs.Start.{first_ram}
use Rattle.net_core.specs.Limits.{machine_limit}
use Rattle.tcc_base.specs.Settings.{Settings}
use Rattle.machine_commits.specs.Rising.{HasNone}
use Rattle.tcc_base.specs.declared.access.Commit.{Commit}
use Rattle.tcc_base.specs.declared.names.CoreId.{CoreId}
use Rattle.tcc_base.specs.declared.names.NodeId.{NodeId}
use Rattle.tcc_base.specs.declared.names.NodeId.TheVariants as code_node
use Rattle.rules_maps.specs.Bridge.{node_of}
use Rattle.rules_maps.specs.Nodes.{Node, Core, Dir, Vendor, Event, Exec, Evict, Deliver, Msg}
use Rattle.tcc_msg.specs.Plain.{sends_of}
use Rattle.tcc_msg.specs.declared.outgoing.Outgoing.{Outgoing}
use Rattle.rules_maps.specs.Messages.{fits, goes_to_core, is_grant}
use Rattle.rules_tcc.specs.Attempt.{Out}
use Rattle.rules_tcc.specs.CoreExec.{core_exec}
use Rattle.rules_tcc.specs.CoreEvict.{core_evict, evict_line}
use Rattle.rules_tcc.specs.CoreDeliver.{core_deliver}
use Rattle.rules_tcc.specs.Links.{in_flight, sending, taking}
use Rattle.rules_tcc.specs.State.{CoreState, World}
use Rattle.rules_tcc.specs.Step.{Stepped, and_noted, core_moves, core_takes, insert_commit, happens, if_in_flight, is_node}
use Rattle.rules_tcc.specs.Step.{if_core_moves, names_nodes, step, if_core_takes}
use Rattle.core_node.specs.Answers.{IsBlocked}
use Rattle.core_node.specs.declared.delivering.CoreError.{CoreError}
use Rattle.core_node.specs.declared.delivering.CoreError.TheVariants.{Blocked, Memory}
use Rattle.core_node.specs.Executing.{TellsOfEvent}
use Rattle.core_node.specs.View.{IsKnown}
use Rattle.core_node.specs.declared.exec.Executed.{Executed}
use Rattle.core_node.specs.declared.exec.Executed.TheVariants as done
use Rattle.commit_engine.specs.Sent.{followed}
use Rattle.theorem_sound.specs.Sound.{GoodMessage}
use Rattle.machine_cores.specs.Acted.{Acted, ActedAs}
use Rattle.machine_cores.specs.Bank.{CoresData, cores_of}
use Rattle.machine_dirs.specs.Bank.{dirs_of}
use Rattle.machine_links.specs.Flights.{Flights, net_of}
use Rattle.net_core.specs.Answers.{Answers, Took, acts_in, refusal_of, step_of, tid_told}
use Rattle.net_core.specs.Delivery.{AreMarked}
use Rattle.net_core.specs.Inside.{machine_of}
use Rattle.net_core.specs.declared.system.System.TheInside.{Inside}
use Rattle.net_core.specs.Machine.{Machine, program_of, settings_of, start_of, world_of}
use Rattle.net_core.specs.Whole.{IsWhole}
use Rattle.net_core.specs.declared.taking.Step.{Step}
use Rattle.net_core.specs.declared.taking.Step.TheVariants.{Moved}
use Rattle.net_core.specs.declared.taking.Step.TheVariants as step_told
use Rattle.net_core.proofs.Keeping.{good-message, settled-net}
use Rattle.net_core.proofs.Events.Kept.{StaysBut, as-many, as-many_taken, new-tid, same-dirs, stays-kept, took-by, took-whole, world-is}

-- ---- how a system stands after a call of its cores

-- the call failed
abbrev pub after_none : Inside → CoresData → Outgoing → Machine
after_none s cores out = machine_of (record s { cores = cores; out = out })

-- the core acted
abbrev pub after_core : Inside → CoresData → Outgoing → Flights → CoreId → Machine
after_core s cores out flights core = machine_of (record s {
  cores = cores;
  flights = flights;
  sender = code_node.Core core;
  out = out;
  placed = 0;
  events = s.events + 1;
})

-- ---- what the rules say

not-below : (k n : ℕ) → (k < n → ⊥) → nat_lt k n ≡ false
not-below k n h = go (nat_lt k n) refl
  where
    go : (b : Bool) → nat_lt k n ≡ b → b ≡ false
    go true e = absurd (h (grind (arith, nat_tests)))
    go false e = refl

pub exec-step : (m : Machine) (c : ℕ) → c < (settings_of m).cores
    → step_of m (Exec c) ≡ if_core_moves (world_of m) c (core_exec (settings_of m) (program_of m) c (cores_of m.cores c))
unfolding step names_nodes happens world_of
exec-step m c l = rw (lt-ltb c (settings_of m).cores l) refl

pub no-exec : (m : Machine) (c : ℕ) → (c < (settings_of m).cores → ⊥) → step_of m (Exec c) ≡ None
unfolding step names_nodes
no-exec m c l = rw (not-below c (settings_of m).cores l) refl

pub evict-step : (m : Machine) (c x y : ℕ) → c < (settings_of m).cores → x < (settings_of m).sets → y < (settings_of m).ways
    → step_of m (Evict c x y) ≡ if_core_moves (world_of m) c (core_evict (settings_of m) x y (cores_of m.cores c))
unfolding step names_nodes happens world_of
evict-step m c x y l k j = rw (lt-ltb c (settings_of m).cores l, lt-ltb x (settings_of m).sets k, lt-ltb y (settings_of m).ways j) refl

pub no-evict : (m : Machine) (c x y : ℕ) → (c < (settings_of m).cores → x < (settings_of m).sets → y < (settings_of m).ways → ⊥)
    → step_of m (Evict c x y) ≡ None
unfolding step names_nodes
no-evict m c x y h = go (nat_lt c (settings_of m).cores) refl (nat_lt x (settings_of m).sets) refl (nat_lt y (settings_of m).ways) refl
  where
    go : (a : Bool) → nat_lt c (settings_of m).cores ≡ a → (b : Bool) → nat_lt x (settings_of m).sets ≡ b → (d : Bool)
        → nat_lt y (settings_of m).ways ≡ d → step_of m (Evict c x y) ≡ None
    go true p true q true r = absurd (h (grind (arith, nat_tests)) (grind (arith, nat_tests)) (grind (arith, nat_tests)))
    go true p true q false r = rw (p, q, r) refl
    go true p false q d r = rw (p, q) refl
    go false p b q d r = rw p refl

-- the same where the limits are read from settings that are those of the machine
pub exec-step_in : (m : Machine) (s : Settings) (c : ℕ) → s ≡ settings_of m → c < s.cores
    → step_of m (Exec c) ≡ if_core_moves (world_of m) c (core_exec (settings_of m) (program_of m) c (cores_of m.cores c))
exec-step_in m s c e l = exec-step m c (subst (λ t. c < t.cores) e l)

pub evict-step_in : (m : Machine) (s : Settings) (c x y : ℕ) → s ≡ settings_of m → (c < s.cores) × (x < s.sets) × (y < s.ways)
    → step_of m (Evict c x y) ≡ if_core_moves (world_of m) c (core_evict (settings_of m) x y (cores_of m.cores c))
evict-step_in m s c x y e h = evict-step m c x y (subst (λ t. c < t.cores) e h.0) (subst (λ t. x < t.sets) e h.1)
    (subst (λ t. y < t.ways) e h.2)

pub no-evict_in : (m : Machine) (s : Settings) (c x y : ℕ) → s ≡ settings_of m → ((c < s.cores) × (x < s.sets) × (y < s.ways) → ⊥)
    → step_of m (Evict c x y) ≡ None
no-evict_in m s c x y e h = no-evict m c x y
    (λ a b d. h (subst (λ t. c < t.cores) (sym e) a, subst (λ t. x < t.sets) (sym e) b, subst (λ t. y < t.ways) (sym e) d))

-- a message in flight to a core
pub take-step : (m : Machine) (src : Node) (c k : ℕ) (x : Msg) → in_flight (world_of m).net src (Core c) k ≡ Some x
    → is_node (settings_of m) src ≡ true → c < (settings_of m).cores
    → step_of m (Deliver src (Core c) k) ≡ if_core_takes (world_of m) src c k (core_deliver (settings_of m) (cores_of m.cores c) src x)
unfolding step names_nodes happens world_of
take-step m src c k x e n l = rw (n, lt-ltb c (settings_of m).cores l) (ap (if_in_flight (settings_of m) (world_of m) src (Core c) k) e)

-- ---- no event

moved-none : (w : World) (c : ℕ) (o : Option Out) → if_core_moves w c o ≡ None → o ≡ None
moved-none w c None e = refl
moved-none w c (Some o) e = absurd (cc)

taken-none : (w : World) (src : Node) (c k : ℕ) (o : Option Out) → if_core_takes w src c k o ≡ None → o ≡ None
taken-none w src c k None e = refl
taken-none w src c k (Some o) e = absurd (cc)

-- the core's refusal is that of the event
refused-by : (A : Type 0) (m n : Machine) (e : Event) (error : CoreError) (o : Option Out) → StaysBut m n
    → IsBlocked {A = A} (Err error) o → (o ≡ None → step_of m e ≡ None) → (step_of m e ≡ None → o ≡ None)
    → Answers m n e (Err (refusal_of error))
refused-by A m n e Blocked o s b to from = (stays-kept m n s, to b)
refused-by A m n e Memory o s b to from = (stays-kept m n s, λ q. b (from q))

pub refused-move : (A : Type 0) (m n : Machine) (e : Event) (c : ℕ) (error : CoreError) (o : Option Out) → StaysBut m n
    → IsBlocked {A = A} (Err error) o → step_of m e ≡ if_core_moves (world_of m) c o → Answers m n e (Err (refusal_of error))
refused-move A m n e c error o s b is =
    refused-by A m n e error o s b (λ q. is ∙ ap (if_core_moves (world_of m) c) q) (λ q. moved-none (world_of m) c o (sym is ∙ q))

pub refused-take : (A : Type 0) (m n : Machine) (e : Event) (src : Node) (c k : ℕ) (error : CoreError) (o : Option Out) → StaysBut m n
    → IsBlocked {A = A} (Err error) o → step_of m e ≡ if_core_takes (world_of m) src c k o → Answers m n e (Err (refusal_of error))
refused-take A m n e src c k error o s b is =
    refused-by A m n e error o s b (λ q. is ∙ ap (if_core_takes (world_of m) src c k) q)
    (λ q. taken-none (world_of m) src c k o (sym is ∙ q))

-- ---- an event

-- a core acted, and what it sent doesn't stand on its links yet
pub record ActsFrom (m n : Machine) (c : ℕ) (before out : Outgoing) : Type 0 where
  pub code : n.cores.code ≡ m.cores.code
  pub dirs : n.dirs ≡ m.dirs
  pub next : n.next ≡ m.next
  pub sender : node_of n.sender ≡ Core c
  pub unsent : n.unsent ≡ out.list.items
  pub last : n.last ≡ n.unsent
  pub settled : m.unsent ≡ []
  pub clear : before.list.items ≡ []
  pub events : n.events ≡ m.events + 1

sent-alone : (before out : Outgoing) (o : Out) → before.list.items ≡ []
    → sends_of out.list.items ≡ followed (sends_of before.list.items) o.sends
    → sends_of out.list.items ≡ o.sends
unfolding followed sends_of
sent-alone before out o e s = s ∙ ap (λ xs. followed (sends_of xs) o.sends) e

-- what was sent, behind what is on these links
links-after : (m n : Machine) (c : ℕ) (before out : Outgoing) (o : Out) → ActsFrom m n c before out
    → sends_of out.list.items ≡ followed (sends_of before.list.items) o.sends
    → sending (net_of n.flights) (node_of n.sender) (sends_of n.unsent) ≡ sending (net_of n.flights) (Core c) o.sends
links-after m n c before out o a s =
    λ i. sending (net_of n.flights) (a.sender i) ((ap sends_of a.unsent ∙ sent-alone before out o a.clear s) i)

moves-world : (m n : Machine) (c : ℕ) (before out : Outgoing) (o : Out) → ActsFrom m n c before out → ActedAs o c m.cores n.cores before out
    → n.flights ≡ m.flights → world_of n ≡ core_moves (world_of m) c o
unfolding core_moves world_of
moves-world m n c before out o a f flights = world-is n (core_moves (world_of m) c o) f.cores (same-dirs m n a.code a.dirs) a.next
    (links-after m n c before out o a f.sends
    ∙ ap (λ net. sending net (Core c) o.sends) (ap net_of flights ∙ sym (settled-net m a.settled)))

takes-world : (m n : Machine) (src : Node) (c k : ℕ) (before out : Outgoing) (o : Out) → ActsFrom m n c before out
    → ActedAs o c m.cores n.cores before out → net_of n.flights ≡ taking (net_of m.flights) src (Core c) k
    → world_of n ≡ core_takes (world_of m) src c k o
unfolding core_takes world_of
takes-world m n src c k before out o a f flights = world-is n (core_takes (world_of m) src c k o) f.cores
    (same-dirs m n a.code a.dirs) a.next
    (links-after m n c before out o a f.sends
    ∙ ap (λ net. sending net (Core c) o.sends) (flights ∙ ap (λ net. taking net src (Core c) k) (sym (settled-net m a.settled))))

-- the commits after what a rule notes, and what is told of it
abbrev pub NotesAs : (m n : Machine) → Step → Option Out → Type 0
NotesAs m n t None = ⊥
NotesAs m n t (Some o) = (n.commits ≡ and_noted o.commit m.commits) × (tid_told t ≡ option_map (λ c. c.tid) o.commit)

pub took-move : (m n : Machine) (e : Event) (c : ℕ) (before out : Outgoing) (t : Step) (o : Option Out) → ActsFrom m n c before out
    → Acted o c m.cores n.cores before out → n.flights ≡ m.flights → step_of m e ≡ if_core_moves (world_of m) c o → NotesAs m n t o
    → Core c ≡ acts_in e → Took m n e t
took-move m n e c before out t None a f flights is notes acting = absurd f
took-move m n e c before out t (Some o) a f flights is notes acting =
    took-by m n e _ t is (moves-world m n c before out o a f flights) notes.0 notes.1 a.events a.code
    (record {
      sender = a.sender ∙ acting;
      last = a.last;
      as_many = λ dst. as-many m n (acts_in e) dst a.settled (ap net_of flights);
    })

pub took-take : (m n : Machine) (e : Event) (src : Node) (c k : ℕ) (before out : Outgoing) (t : Step) (o : Option Out)
    → ActsFrom m n c before out → Acted o c m.cores n.cores before out → net_of n.flights ≡ taking (net_of m.flights) src (Core c) k
    → step_of m e ≡ if_core_takes (world_of m) src c k o → NotesAs m n t o → Core c ≡ acts_in e → Took m n e t
took-take m n e src c k before out t None a f flights is notes acting = absurd f
took-take m n e src c k before out t (Some o) a f flights is notes acting =
    took-by m n e _ t is (takes-world m n src c k before out o a f flights) notes.0 notes.1 a.events a.code
    (record {
      sender = a.sender ∙ acting;
      last = a.last;
      as_many = λ dst. as-many_taken m n src (Core c) k (acts_in e) dst a.settled flights;
    })

-- marks stay right where neither directories nor what stands on links has changed
pub marks-stay : (m n : Machine) → IsWhole m → n.cores.code ≡ m.cores.code → n.dirs ≡ m.dirs → n.flights ≡ m.flights
    → AreMarked (settings_of m) (dirs_of (first_ram (start_of n)) n.dirs) n.flights
marks-stay m n w code dirs flights =
    subst (λ f. AreMarked (settings_of m) (dirs_of (first_ram (start_of n)) n.dirs) f) (sym flights)
    (subst (λ ds. AreMarked (settings_of m) ds m.flights) (sym (same-dirs m n code dirs)) w.marked)

pub move-whole : (m n : Machine) (e : Event) (t : Step) (c : ℕ) (before out : Outgoing) → IsWhole m → m.events < machine_limit
    → ActsFrom m n c before out
    → Took m n e t → n.flights ≡ m.flights → IsWhole n
move-whole m n e t c before out w short a k flights = took-whole m n e t w short k (ap (λ d. d.settings) a.dirs) (ap (λ f. f.cores) flights)
    (ap (λ f. f.dirs) flights) (marks-stay m n w a.code a.dirs flights)

-- ---- what isn't an execution notes nothing

-- the rule notes no commit
abbrev pub Unnoted : Option Out → Type 0
Unnoted None = Unit {0}
Unnoted (Some o) = o.commit ≡ None

pub evict-unnoted : (sh : Settings) (x y : ℕ) (s : CoreState) → Unnoted (core_evict sh x y s)
unfolding core_evict
evict-unnoted sh x y s = go (s.cache.at x y)
  where
    cases : (b : Bool) (o : Out) → o.commit ≡ None → Unnoted (if b then None else Some o)
    cases true o e = tt
    cases false o e = e

    go : (l : Option ℕ) → Unnoted (evict_line sh x y s l)
    go None = tt
    go (Some l) = cases _ _ refl

pub unnoted-as : (m n : Machine) (o : Option Out) (c : ℕ) (before out : Outgoing) → Acted o c m.cores n.cores before out → Unnoted o
    → n.commits ≡ m.commits → NotesAs m n Moved o
unnoted-as m n None c before out a u e = absurd a
unnoted-as m n (Some o) c before out a u e = (e ∙ ap (λ x. and_noted x m.commits) (sym u), ap (option_map (λ c. c.tid)) (sym u))

-- ---- executions

-- what an execution told without a commit
pub told-unnoted : (o : Option Out) (e : Executed) → TellsOfEvent e o → (e ≡ done.Stepped) ⊎ (e ≡ done.Asked) → Unnoted o
told-unnoted None e t h = absurd t
told-unnoted (Some o) done.Stepped t h = t.0
told-unnoted (Some o) done.Asked t h = t.0
told-unnoted (Some o) (done.Committed c) t (inl h) = absurd (cc)
told-unnoted (Some o) (done.Committed c) t (inr h) = absurd (cc)

-- and with one
told-noted : (o : Option Out) (c : Commit) → TellsOfEvent (done.Committed c) o → (w : World) (core : ℕ)
    → (s : Stepped) × ((if_core_moves w core o ≡ Some s) × (s.noted ≡ Some c))
told-noted None c t w core = absurd t
told-noted (Some o) c t w core = (record { world = core_moves w core o; noted = o.commit }, (refl, t))

pub commit-new : (m : Machine) (core : ℕ) (o : Option Out) (c : Commit) → IsWhole m → TellsOfEvent (done.Committed c) o
    → step_of m (Exec core) ≡ if_core_moves (world_of m) core o → HasNone c.tid.0 m.commits
commit-new m core o c w t is = let (s, p) = told-noted o c t (world_of m) core in new-tid m (Exec core) s c w.sound (is ∙ p.0) p.1

pub noted-as : (m n : Machine) (o : Option Out) (c : Commit) → TellsOfEvent (done.Committed c) o → n.commits ≡ insert_commit c m.commits
    → NotesAs m n (step_told.Committed c.tid) o
noted-as m n None c t e = absurd t
noted-as m n (Some o) c t e = (e ∙ ap (λ x. and_noted x m.commits) (sym t), ap (option_map (λ d. d.tid)) (sym t))

-- ---- messages to a core

-- the core and the sender exist
pub record CoreThere (s : Settings) (src : Node) (c : ℕ) : Type 0 where
  pub core : c < s.cores
  pub sender : is_node s src ≡ true

there : (s : Settings) (n : ℕ) (src : Node) (c : ℕ) (x : Msg) → GoodMessage s n src (Core c) x → CoreThere s src c
unfolding fits
there s n (Dir d) c x b = go (nat_lt c s.cores) refl (nat_lt d s.dirs) refl b.fits
  where
    go : (p : Bool) → nat_lt c s.cores ≡ p → (q : Bool) → nat_lt d s.dirs ≡ q → (p && (q && goes_to_core x)) ≡ true → CoreThere s (Dir d) c
    go true e true f z = record { core = grind (arith, nat_tests); sender = f }
    go true e false f z = absurd (cc)
    go false e q f z = absurd (cc)
there s n Vendor c x b = go (nat_lt c s.cores) refl b.fits
  where
    go : (p : Bool) → nat_lt c s.cores ≡ p → (p && is_grant x) ≡ true → CoreThere s Vendor c
    go true e z = record { core = grind (arith, nat_tests); sender = refl }
    go false e z = absurd (cc)
there s n (Core d) c x b = let f = b.fits in absurd (cc)

pub core-there : (m : Machine) → IsWhole m → (src : Node) (c k : ℕ) (x : Msg) → in_flight (world_of m).net src (Core c) k ≡ Some x
    → CoreThere (settings_of m) src c
core-there m w src c k x e = there (settings_of m) (world_of m).next src c x (good-message m w src (Core c) k x e)

pub known : (s : Settings) (n : NodeId) → is_node s (node_of n) ≡ true → IsKnown s n
known s (code_node.Core c) e = tt
known s (code_node.Dir d) e = grind (arith, nat_tests)
known s code_node.Vendor e = tt
