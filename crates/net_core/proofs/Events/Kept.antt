-- The machine after an event of one node.
use Rattle.std.proofs.Common.{◌≡◌, ℕ, ◌+◌, ◌<◌, ◌≤◌, Bool, true, false, List, [], ◌++◌, length, Some, None, refl}
use Rattle.std.proofs.Common.{ap, sym, ◌∙◌, subst, arith, length-set}
use Rattle.std.specs.Prelude.{◌&&◌, slice_set, if◌then◌else◌}
use Rattle.image_load.specs.Contents.{started}
use Rattle.image_load.specs.Start.{first_ram}
use Rattle.net_core.specs.Limits.{machine_limit}
use Rattle.tcc_base.specs.declared.access.Commit.{Commit}
use Rattle.base_lemmas.proofs.Lemmas.{node_eq-refl}
use Rattle.rules_maps.specs.Bridge.{node_of}
use Rattle.rules_maps.specs.Nodes.{Node, Event, node_eq}
use Rattle.tcc_msg.specs.Plain.{sends_of}
use Rattle.rules_tcc.specs.Links.{sending, sent_all, taking}
use Rattle.rules_tcc.specs.Sends.{Sends}
use Rattle.rules_tcc.specs.State.{Link, World}
use Rattle.rules_tcc.specs.Step.{Stepped, and_noted, next_history, recorded}
use Rattle.theorem_sound.proofs.Lemmas.{sound_noted}
use Rattle.machine_commits.specs.Rising.{HasNone}
use Rattle.machine_cores.specs.Bank.{cores_of}
use Rattle.machine_dirs.specs.Bank.{dirs_of}
use Rattle.machine_links.specs.Flights.{net_of}
use Rattle.net_core.specs.Answers.{IsSent, Kept, Took, acts_in, step_of, tid_noted, tid_told}
use Rattle.net_core.specs.Delivery.{AreMarked}
use Rattle.net_core.specs.Machine.{Machine, history_of, program_of, settings_of, start_of, world_of}
use Rattle.net_core.specs.Whole.{IsSound, IsWhole}
use Rattle.net_core.specs.declared.taking.Step.{Step}
use Rattle.net_core.proofs.Keeping.{settled-net, sound-on, sound-same}
use Rattle.net_core.proofs.Running.{none-among}

pub world-is : (n : Machine) (v : World) → cores_of n.cores ≡ v.cores → dirs_of (first_ram (start_of n)) n.dirs ≡ v.dirs → n.next ≡ v.next
    → sending (net_of n.flights) (node_of n.sender) (sends_of n.unsent) ≡ v.net → world_of n ≡ v
unfolding world_of
world-is n v c d x l = λ i. record { cores = c i; dirs = d i; next = x i; net = l i }

-- directories and what they start from are as before
pub same-dirs : (m n : Machine) → n.cores.code ≡ m.cores.code → n.dirs ≡ m.dirs
    → dirs_of (first_ram (start_of n)) n.dirs ≡ dirs_of (first_ram (start_of m)) m.dirs
same-dirs m n code dirs = λ i. dirs_of (first_ram (started (code i))) (dirs i)

-- the rules' next history, where the rules' step is known
pub next-is : (m n : Machine) (e : Event) (o : Stepped) → step_of m e ≡ Some o → world_of n ≡ o.world
    → n.commits ≡ and_noted o.noted m.commits
    → next_history (settings_of m) (program_of m) (history_of m) e ≡ Some (history_of n)
unfolding next_history history_of
next-is m n e o s w cs = ap (recorded (record { world = world_of m; commits = m.commits })) s
    ∙ (λ i. Some (record { world = sym w i; commits = sym cs i }))

-- a node has sent, and none of it stands on its links yet: those have as many messages as before
pub record HasSent (m n : Machine) (src : Node) : Type 0 where
  pub sender : node_of n.sender ≡ src
  pub last : n.last ≡ n.unsent
  pub as_many : (dst : Node) → length (net_of n.flights src dst) ≡ length ((world_of m).net src dst)

behind-own : (net : Node → Node → Link) (src dst : Node) (sends : Sends)
    → sending net src sends src dst ≡ net src dst ++ sent_all (sends dst)
behind-own net src dst sends = rw (node_eq-refl src) refl

sent-by : (m n : Machine) (src : Node) → HasSent m n src → IsSent (world_of m) (world_of n) src (sends_of n.last)
unfolding world_of
sent-by m n src h = λ dst. record {
  front = net_of n.flights src dst;
  as_many = h.as_many dst;
  behind = (λ i. sending (net_of n.flights) (h.sender i) (sends_of (sym h.last i)) src dst)
      ∙ behind-own (net_of n.flights) src dst (sends_of n.last);
}

-- as many messages where the links are as before, and where one message was taken out
pub as-many : (m n : Machine) (src dst : Node) → m.unsent ≡ [] → net_of n.flights ≡ net_of m.flights
    → length (net_of n.flights src dst) ≡ length ((world_of m).net src dst)
as-many m n src dst settled e = ap (λ net. length (net src dst)) (e ∙ sym (settled-net m settled))

pub length-taking : (net : Node → Node → Link) (s d : Node) (k : ℕ) (src dst : Node)
    → length (taking net s d k src dst) ≡ length (net src dst)
length-taking net s d k src dst = by (node_eq src s && node_eq dst d)
  where
    by : (b : Bool) → length (if b then slice_set (net src dst) k None else net src dst) ≡ length (net src dst)
    by true = length-set (net src dst) k None
    by false = refl

pub as-many_taken : (m n : Machine) (s d : Node) (k : ℕ) (src dst : Node) → m.unsent ≡ []
    → net_of n.flights ≡ taking (net_of m.flights) s d k
    → length (net_of n.flights src dst) ≡ length ((world_of m).net src dst)
as-many_taken m n s d k src dst settled e =
    ap (λ net. length (net src dst)) e ∙ length-taking (net_of m.flights) s d k src dst
    ∙ ap (λ net. length (net src dst)) (sym (settled-net m settled))

-- the event was taken
pub took-by : (m n : Machine) (e : Event) (o : Stepped) (t : Step) → step_of m e ≡ Some o → world_of n ≡ o.world
    → n.commits ≡ and_noted o.noted m.commits → tid_told t ≡ tid_noted (Some o) → n.events ≡ m.events + 1 → n.cores.code ≡ m.cores.code
    → HasSent m n (acts_in e) → Took m n e t
took-by m n e o t s w cs told events code h = record {
  next = next-is m n e o s w cs;
  tells = told ∙ ap tid_noted (sym s);
  sent = sent-by m n (acts_in e) h;
  events = events;
  code = code;
}

-- and the machine is whole
pub took-whole : (m n : Machine) (e : Event) (t : Step) → IsWhole m → m.events < machine_limit → Took m n e t
    → n.dirs.settings ≡ m.dirs.settings → n.flights.cores ≡ m.flights.cores → n.flights.dirs ≡ m.flights.dirs
    → AreMarked (settings_of m) (dirs_of (first_ram (start_of n)) n.dirs) n.flights → IsWhole n
took-whole m n e t w short k settings cores dirs marked = record {
  allowed = rw k.code w.allowed;
  dirs = settings ∙ w.dirs ∙ ap (λ c. c.settings) (sym k.code);
  flight_cores = cores ∙ w.flight_cores ∙ ap (λ c. c.settings.cores) (sym k.code);
  flight_dirs = dirs ∙ w.flight_dirs ∙ ap (λ c. c.settings.dirs) (sym k.code);
  sound = sound-on m n e w.allowed w.sound k.next k.events k.code;
  few = let count = k.events in omega (arith, short, count);
  marked = subst (λ c. AreMarked c.settings (dirs_of (first_ram (start_of n)) n.dirs) n.flights) (sym k.code) marked;
}

-- nothing happened, and what is held is the same but for the cores' own way of holding it
pub record StaysBut (m n : Machine) : Type 0 where
  pub code : n.cores.code ≡ m.cores.code
  pub cores : cores_of n.cores ≡ cores_of m.cores
  pub dirs : dirs_of (first_ram (start_of m)) n.dirs ≡ dirs_of (first_ram (start_of m)) m.dirs
  pub settings : n.dirs.settings ≡ m.dirs.settings
  pub next : n.next ≡ m.next
  pub flights : n.flights ≡ m.flights
  pub before : m.unsent ≡ []
  pub now : n.unsent ≡ []
  pub commits : n.commits ≡ m.commits
  pub events : n.events ≡ m.events

same-dirs_but : (m n : Machine) → StaysBut m n → dirs_of (first_ram (start_of n)) n.dirs ≡ dirs_of (first_ram (start_of m)) m.dirs
same-dirs_but m n s = ap (λ c. dirs_of (first_ram (started c)) n.dirs) s.code ∙ s.dirs

stays-world : (m n : Machine) → StaysBut m n → world_of n ≡ world_of m
unfolding world_of
stays-world m n s = world-is n (world_of m) s.cores (same-dirs_but m n s) s.next
    (settled-net n s.now ∙ ap net_of s.flights ∙ sym (settled-net m s.before))

pub stays-kept : (m n : Machine) → StaysBut m n → Kept m n
unfolding history_of
stays-kept m n s = record {
  history = (λ i. record { world = stays-world m n s i; commits = s.commits i });
  events = s.events;
  code = s.code;
}

pub stays-whole : (m n : Machine) → IsWhole m → StaysBut m n → IsWhole n
stays-whole m n w s =
    let k : Kept m n = stays-kept m n s in
    record {
      allowed = rw s.code w.allowed;
      dirs = s.settings ∙ w.dirs ∙ ap (λ c. c.settings) (sym s.code);
      flight_cores = ap (λ f. f.cores) s.flights ∙ w.flight_cores ∙ ap (λ c. c.settings.cores) (sym s.code);
      flight_dirs = ap (λ f. f.dirs) s.flights ∙ w.flight_dirs ∙ ap (λ c. c.settings.dirs) (sym s.code);
      sound = sound-same m n w.sound k.history k.events k.code;
      few = subst (λ x. x ≤ machine_limit) (sym k.events) w.few;
      marked = subst (λ c. AreMarked c.settings (dirs_of (first_ram (start_of n)) n.dirs) n.flights) (sym s.code)
          (subst (λ f. AreMarked (settings_of m) (dirs_of (first_ram (start_of n)) n.dirs) f) (sym s.flights)
          (subst (λ ds. AreMarked (settings_of m) ds m.flights) (sym (same-dirs_but m n s)) w.marked));
    }

-- ---- one commit more

-- a commit that an event notes has a TID that no commit before it has
pub new-tid : (m : Machine) (e : Event) (o : Stepped) (c : Commit) → IsSound m → step_of m e ≡ Some o → o.noted ≡ Some c
    → HasNone c.tid.0 m.commits
unfolding history_of
new-tid m e o c sound s noted =
    none-among c.tid.0 m.commits (sound_noted (settings_of m) (program_of m) m.events (history_of m) e o c sound s noted)

-- ---- room for a commit

abbrev pub with_room : Machine → List Commit → (room : ℕ) → Machine
with_room m cs room = record m { commits = cs; room = room }

pub room-kept : (m : Machine) (cs : List Commit) (room : ℕ) → cs ≡ m.commits → Kept m (with_room m cs room)
unfolding history_of world_of
room-kept m cs room e = record { history = (λ i. record { world = world_of m; commits = e i }); events = refl; code = refl }

pub room-whole : (m : Machine) (cs : List Commit) (room : ℕ) → IsWhole m → cs ≡ m.commits → IsWhole (with_room m cs room)
room-whole m cs room w e =
    let k : Kept m (with_room m cs room) = room-kept m cs room e in
    record {
      allowed = w.allowed;
      dirs = w.dirs;
      flight_cores = w.flight_cores;
      flight_dirs = w.flight_dirs;
      sound = sound-same m (with_room m cs room) w.sound k.history k.events k.code;
      few = w.few;
      marked = w.marked;
    }
