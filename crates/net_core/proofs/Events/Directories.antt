-- The machine after a directory took a message, or asked for what it needs to take it.
use Rattle.std.proofs.Common.{◌≡◌, ◌≢◌, ℕ, ◌+◌, ◌<◌, Bool, true, false, not, ◌&&◌, [], length, Some, None, refl, ap, sym, ◌∙◌, subst, arith}
use Rattle.std.specs.Prelude.{◌==◌, if◌then◌else◌}
use Rattle.std.proofs.lemmas.Bool.{lt-ltb}
use Rattle.std.proofs.lemmas.Bool.Decides.{nat_tests}
use Rattle.image_load.specs.Contents.{started}
use Rattle.image_load.specs.Start.{first_ram}
use Rattle.net_core.specs.Limits.{machine_limit}
use Rattle.tcc_base.specs.Put.{put}
use Rattle.tcc_base.specs.Settings.{Settings}
use Rattle.theorem_bounds.proofs.Lemmas.{fits_out}
use Rattle.rules_maps.specs.Bridge.{node_of}
use Rattle.rules_maps.specs.Nodes.{Node, Core, Dir, Vendor, Deliver, Msg, node_eq}
use Rattle.tcc_msg.specs.Plain.{sends_of}
use Rattle.rules_tcc.specs.DirDeliver.{Answer, dir_deliver}
use Rattle.rules_tcc.specs.DirDeliver as rules
use Rattle.rules_tcc.specs.Links.{in_flight, sending, taking}
use Rattle.rules_tcc.specs.Sends.{Sends}
use Rattle.rules_tcc.specs.State.{DirState, World, Link}
use Rattle.rules_tcc.specs.Step.{answered, dir_asks, dir_takes, happens, if_in_flight, names_nodes, step}
use Rattle.machine_cores.specs.Bank.{cores_of}
use Rattle.machine_dirs.specs.Acted.{Acted}
use Rattle.machine_dirs.specs.Bank.{dirs_of}
use Rattle.directory.specs.Foreign.{is_foreign, HasSmallTids}
use Rattle.directory.specs.Gives.{answer_of, is_taken}
use Rattle.directory.specs.declared.handled.Handled.{Handled}
use Rattle.directory.specs.declared.handled.Handled.TheVariants.{Handled as Done, Waits, Asked, Dropped}
use Rattle.machine_links.specs.Flights.{Flights, net_of, is_ready}
use Rattle.machine_links.specs.Places.{is_link}
use Rattle.net_core.specs.Answers.{Took, step_of}
use Rattle.net_core.specs.Delivery.{AreMarked, is_consumed, is_deliverable}
use Rattle.net_core.specs.Machine.{Machine, settings_of, start_of, world_of}
use Rattle.net_core.specs.Whole.{IsWhole}
use Rattle.net_core.specs.declared.taking.Step.TheVariants.{Moved}
use Rattle.net_core.proofs.Keeping.{good-message, may-go, settled-net, small-tids}
use Rattle.net_core.proofs.Events.Kept.{HasSent, as-many, as-many_taken, took-by, took-whole, world-is}
use Rattle.net_core.proofs.Events.Marks.{still-flies}

-- ---- what the rules say

-- the directories as the rules have them, and the rules' answer to a message
abbrev pub rule_dirs : Machine → ℕ → DirState
rule_dirs m = dirs_of (first_ram (start_of m)) m.dirs

abbrev pub answer_to : Machine → (core dir : ℕ) → Msg → Answer
answer_to m c d x = dir_deliver (settings_of m) (rule_dirs m d) c x

-- what is known of a message in flight to a directory
pub record Comes (s : Settings) (c d : ℕ) (x : Msg) : Type 0 where
  pub core : c < s.cores
  pub dir : d < s.dirs
  pub belongs : is_foreign (record { shape = s; dir = d }) x ≡ false

comes-in : (m : Machine) (c d k : ℕ) (x : Msg) → IsWhole m → in_flight (world_of m).net (Core c) (Dir d) k ≡ Some x
    → Comes (settings_of m) c d x
comes-in m c d k x w e =
    let b = good-message m w (Core c) (Dir d) k x e in
    let f = fits_out (settings_of m) c d x b.fits in
    record { core = f.core; dir = f.dir; belongs = (may-go (settings_of m) (world_of m).next (Core c) (Dir d) x b).belongs }

-- the same of the links and of the directories' own settings
pub comes : (m : Machine) (c d k : ℕ) (x : Msg) → IsWhole m → m.unsent ≡ [] → in_flight (net_of m.flights) (Core c) (Dir d) k ≡ Some x
    → Comes m.dirs.settings c d x
comes m c d k x w settled e = subst (λ s. Comes s c d x) (sym w.dirs)
    (comes-in m c d k x w (ap (λ net. in_flight net (Core c) (Dir d) k) (settled-net m settled) ∙ e))

-- the same machine held by another name
pub comes-at : (m s : Machine) (c d k : ℕ) (x : Msg) → m ≡ s → IsWhole m → s.unsent ≡ []
    → in_flight (net_of s.flights) (Core c) (Dir d) k ≡ Some x → Comes m.dirs.settings c d x
comes-at m s c d k x e w settled fly =
    comes m c d k x w (ap (λ y. y.unsent) e ∙ settled) (ap (λ y. in_flight (net_of y.flights) (Core c) (Dir d) k) e ∙ fly)

-- its TID is small
pub small-at : (m s : Machine) (c d k : ℕ) (x : Msg) → m ≡ s → IsWhole m → s.events < machine_limit → s.unsent ≡ []
    → in_flight (net_of s.flights) (Core c) (Dir d) k ≡ Some x → HasSmallTids x
small-at m s c d k x e w few settled fly =
    small-tids m w (subst (λ y. y.events < machine_limit) (sym e) few) (Core c) (Dir d) k x
    (ap (λ net. in_flight net (Core c) (Dir d) k) (settled-net m (ap (λ y. y.unsent) e ∙ settled))
    ∙ ap (λ y. in_flight (net_of y.flights) (Core c) (Dir d) k) e ∙ fly)

step-in : (m : Machine) (c d k : ℕ) (x : Msg) → Comes (settings_of m) c d x → in_flight (world_of m).net (Core c) (Dir d) k ≡ Some x
    → step_of m (Deliver (Core c) (Dir d) k) ≡ answered (world_of m) c d k (answer_to m c d x)
unfolding step names_nodes happens world_of
step-in m c d k x h e = rw (lt-ltb c (settings_of m).cores h.core, lt-ltb d (settings_of m).dirs h.dir)
    (ap (if_in_flight (settings_of m) (world_of m) (Core c) (Dir d) k) e)

-- a message in flight to a directory is answered by its rule
pub dir-step : (m : Machine) (c d k : ℕ) (x : Msg) → IsWhole m → m.unsent ≡ [] → in_flight (net_of m.flights) (Core c) (Dir d) k ≡ Some x
    → step_of m (Deliver (Core c) (Dir d) k) ≡ answered (world_of m) c d k (answer_to m c d x)
dir-step m c d k x w settled e =
    let fly = ap (λ net. in_flight net (Core c) (Dir d) k) (settled-net m settled) ∙ e in
    step-in m c d k x (comes-in m c d k x w fly) fly

answered-none : (w : World) (c d k : ℕ) (a : Answer) → is_taken a ≡ false → answered w c d k a ≡ None
answered-none w c d k rules.Waits e = refl
answered-none w c d k rules.Drops e = absurd (cc)
answered-none w c d k (rules.Asks s sends) e = absurd (cc)
answered-none w c d k (rules.Takes s sends) e = absurd (cc)

answered-some : (w : World) (c d k : ℕ) (a : Answer) → is_taken a ≡ true → answered w c d k a ≢ None
answered-some w c d k rules.Waits e = λ q. absurd (cc)
answered-some w c d k rules.Drops e = λ q. absurd (cc)
answered-some w c d k (rules.Asks s sends) e = λ q. absurd (cc)
answered-some w c d k (rules.Takes s sends) e = λ q. absurd (cc)

-- what the directories' own test says of it
abbrev pub says_taken : Machine → (core dir : ℕ) → Msg → Bool
says_taken m c d x =
    not (is_foreign (record { shape = m.dirs.settings; dir = d }) x) && is_taken (dir_deliver m.dirs.settings (rule_dirs m d) c x)

is-taken : (m : Machine) (c d k : ℕ) (x : Msg) → IsWhole m → m.unsent ≡ [] → in_flight (net_of m.flights) (Core c) (Dir d) k ≡ Some x
    → says_taken m c d x ≡ is_taken (answer_to m c d x)
is-taken m c d k x w settled e =
    let b = (comes m c d k x w settled e).belongs in
    rw b (ap (λ s. is_taken (dir_deliver s (rule_dirs m d) c x)) w.dirs)

-- and so says its mark; the same machine may be held by another name
pub is-marked : (m s : Machine) (c d k : ℕ) (x : Msg) → m ≡ s → IsWhole m → s.unsent ≡ []
    → in_flight (net_of s.flights) (Core c) (Dir d) k ≡ Some x → is_ready s.flights (Core c) (Dir d) k ≡ says_taken m c d x
unfolding AreMarked
is-marked m s c d k x e w settled fly =
    let u = ap (λ y. y.unsent) e ∙ settled in
    let f = ap (λ y. in_flight (net_of y.flights) (Core c) (Dir d) k) e ∙ fly in
    ap (λ y. is_ready y.flights (Core c) (Dir d) k) (sym e) ∙ w.marked (Core c) (Dir d) k x f ∙ sym (is-taken m c d k x w u f)

pub refused : (m : Machine) (c d k : ℕ) (x : Msg) → IsWhole m → m.unsent ≡ [] → in_flight (net_of m.flights) (Core c) (Dir d) k ≡ Some x
    → says_taken m c d x ≡ false → step_of m (Deliver (Core c) (Dir d) k) ≡ None
refused m c d k x w settled e t = dir-step m c d k x w settled e
    ∙ answered-none (world_of m) c d k (answer_to m c d x) (sym (is-taken m c d k x w settled e) ∙ t)

pub enabled : (m : Machine) (c d k : ℕ) (x : Msg) → IsWhole m → m.unsent ≡ [] → in_flight (net_of m.flights) (Core c) (Dir d) k ≡ Some x
    → says_taken m c d x ≡ true → step_of m (Deliver (Core c) (Dir d) k) ≢ None
enabled m c d k x w settled e t = λ q.
    answered-some (world_of m) c d k (answer_to m c d x) (sym (is-taken m c d k x w settled e) ∙ t)
    (sym (dir-step m c d k x w settled e) ∙ q)

-- ---- the event

-- the links without the message, where it was consumed
abbrev pub net_after : Handled → (Node → Node → Link) → (core dir k : ℕ) → Node → Node → Link
net_after h net c d k = if is_consumed h then taking net (Core c) (Dir d) k else net

-- the state that the directory has now
abbrev pub now_at : (m n : Machine) → (dir : ℕ) → DirState
now_at m n d = dirs_of (first_ram (start_of m)) n.dirs d

-- a directory acted, and what it sent doesn't stand on its links yet; messages to it that were marked as it said are marked as it says
pub record ActsAt (m n : Machine) (c d k : ℕ) (x : Msg) (h : Handled) : Type 0 where
  pub cores : n.cores ≡ m.cores
  pub next : n.next ≡ m.next
  pub settings : n.dirs.settings ≡ m.dirs.settings
  pub settled : m.unsent ≡ []
  pub sender : node_of n.sender ≡ Dir d
  pub last : n.last ≡ n.unsent
  pub acted : Acted d m.dirs n.dirs [] n.unsent h (λ s. dir_deliver m.dirs.settings s c x)
  pub net : net_of n.flights ≡ net_after h (net_of m.flights) c d k
  pub flight_cores : n.flights.cores ≡ m.flights.cores
  pub flight_dirs : n.flights.dirs ≡ m.flights.dirs
  pub here : (b i : ℕ) (y : Msg) → in_flight (net_of n.flights) (Core b) (Dir d) i ≡ Some y
      → is_ready m.flights (Core b) (Dir d) i ≡ is_taken (dir_deliver m.dirs.settings (rule_dirs m d) b y)
      → is_ready n.flights (Core b) (Dir d) i ≡ is_taken (dir_deliver m.dirs.settings (now_at m n d) b y)
  pub others : (s e : Node) (i : ℕ) (y : Msg) → in_flight (net_of n.flights) s e i ≡ Some y → node_eq e (Dir d) ≡ false
      → is_ready n.flights s e i ≡ is_ready m.flights s e i
  pub commits : n.commits ≡ m.commits
  pub events : n.events ≡ m.events + 1

-- the directories are as before but for this one
dirs-after : (m n : Machine) (c d k : ℕ) (x : Msg) (h : Handled) → ActsAt m n c d k x h → rule_dirs n ≡ put (rule_dirs m) d (now_at m n d)
dirs-after m n c d k x h a = (λ i. dirs_of (first_ram (started (a.cores i).code)) n.dirs) ∙ a.acted.others (first_ram (start_of m))

-- the rules answer as it did
its-answer : (m n : Machine) (c d k : ℕ) (x : Msg) (h : Handled) → IsWhole m → ActsAt m n c d k x h
    → answer_to m c d x ≡ answer_of h (now_at m n d) (sends_of n.unsent)
its-answer m n c d k x h w a =
    ap (λ s. dir_deliver s (rule_dirs m d) c x) (sym w.dirs) ∙ a.acted.answer (first_ram (start_of m))
    ∙ ap (λ xs. answer_of h (now_at m n d) (sends_of xs)) (sym a.acted.behind)

-- what it sent, behind what is on these links
links-after : (m n : Machine) (c d k : ℕ) (x : Msg) (h : Handled) (sends : Sends) → ActsAt m n c d k x h → sends_of n.unsent ≡ sends
    → sending (net_of n.flights) (node_of n.sender) (sends_of n.unsent) ≡ sending (net_after h (world_of m).net c d k) (Dir d) sends
links-after m n c d k x h sends a s =
    (λ i. sending (net_of n.flights) (a.sender i) (s i))
    ∙ ap (λ net. sending net (Dir d) sends) (a.net ∙ ap (λ net. net_after h net c d k) (sym (settled-net m a.settled)))

takes-world : (m n : Machine) (c d k : ℕ) (x : Msg) (h : Handled) (s : DirState) (sends : Sends) → ActsAt m n c d k x h
    → is_consumed h ≡ true → now_at m n d ≡ s → sends_of n.unsent ≡ sends → world_of n ≡ dir_takes (world_of m) c d k s sends
unfolding dir_takes world_of
takes-world m n c d k x h s sends a taken now sent = world-is n (dir_takes (world_of m) c d k s sends) (ap cores_of a.cores)
    (dirs-after m n c d k x h a ∙ ap (put (rule_dirs m) d) now) a.next
    (links-after m n c d k x h sends a sent
    ∙ ap (λ b. sending (if b then taking (world_of m).net (Core c) (Dir d) k else (world_of m).net) (Dir d) sends) taken)

asks-world : (m n : Machine) (c d k : ℕ) (x : Msg) → ActsAt m n c d k x Asked
    → world_of n ≡ dir_asks (world_of m) d (now_at m n d) (sends_of n.unsent)
unfolding dir_asks world_of
asks-world m n c d k x a = world-is n (dir_asks (world_of m) d (now_at m n d) (sends_of n.unsent)) (ap cores_of a.cores)
    (dirs-after m n c d k x Asked a) a.next (links-after m n c d k x Asked (sends_of n.unsent) a refl)

nothing-is : sends_of [] ≡ (λ dst. [])
unfolding sends_of
nothing-is = refl

drops-world : (m n : Machine) (c d k : ℕ) (x : Msg) → ActsAt m n c d k x Dropped
    → world_of n ≡ dir_takes (world_of m) c d k ((world_of m).dirs d) (λ dst. [])
unfolding world_of
drops-world m n c d k x a =
    let still = a.acted.still refl in
    takes-world m n c d k x Dropped (rule_dirs m d) (λ dst. []) a refl (λ i. still.0 (first_ram (start_of m)) i d)
    (ap sends_of still.1 ∙ nothing-is)

-- what it sent stands behind as many messages as were sent before
has-sent : (m n : Machine) (c d k : ℕ) (x : Msg) (h : Handled) → ActsAt m n c d k x h → HasSent m n (Dir d)
has-sent m n c d k x h a = record {
  sender = a.sender;
  last = a.last;
  as_many = λ dst. by h a.net dst;
}
  where
    by : (h : Handled) → net_of n.flights ≡ net_after h (net_of m.flights) c d k → (dst : Node)
        → length (net_of n.flights (Dir d) dst) ≡ length ((world_of m).net (Dir d) dst)
    by Done e dst = as-many_taken m n (Core c) (Dir d) k (Dir d) dst a.settled e
    by Dropped e dst = as-many_taken m n (Core c) (Dir d) k (Dir d) dst a.settled e
    by Asked e dst = as-many m n (Dir d) dst a.settled e
    by Waits e dst = as-many m n (Dir d) dst a.settled e

-- the event was taken
pub acts-took : (m n : Machine) (c d k : ℕ) (x : Msg) (h : Handled) → IsWhole m → in_flight (net_of m.flights) (Core c) (Dir d) k ≡ Some x
    → says_taken m c d x ≡ true → ActsAt m n c d k x h → Took m n (Deliver (Core c) (Dir d) k) Moved
acts-took m n c d k x Done w e t a =
    took-by m n (Deliver (Core c) (Dir d) k) _ Moved
    (dir-step m c d k x w a.settled e ∙ ap (answered (world_of m) c d k) (its-answer m n c d k x Done w a))
    (takes-world m n c d k x Done (now_at m n d) (sends_of n.unsent) a refl refl refl)
    a.commits refl a.events (ap (λ y. y.code) a.cores) (has-sent m n c d k x Done a)
acts-took m n c d k x Asked w e t a =
    took-by m n (Deliver (Core c) (Dir d) k) _ Moved
    (dir-step m c d k x w a.settled e ∙ ap (answered (world_of m) c d k) (its-answer m n c d k x Asked w a))
    (asks-world m n c d k x a)
    a.commits refl a.events (ap (λ y. y.code) a.cores) (has-sent m n c d k x Asked a)
acts-took m n c d k x Dropped w e t a =
    took-by m n (Deliver (Core c) (Dir d) k) _ Moved
    (dir-step m c d k x w a.settled e ∙ ap (answered (world_of m) c d k) (its-answer m n c d k x Dropped w a))
    (drops-world m n c d k x a)
    a.commits refl a.events (ap (λ y. y.code) a.cores) (has-sent m n c d k x Dropped a)
acts-took m n c d k x Waits w e t a =
    let q : is_taken (answer_to m c d x) ≡ false = ap is_taken (its-answer m n c d k x Waits w a) in
    let r : is_taken (answer_to m c d x) ≡ true = sym (is-taken m c d k x w a.settled e) ∙ t in
    absurd (cc)

-- ---- the marks

-- what is in flight was so before
stays : (h : Handled) (net : Node → Node → Link) (c d k : ℕ) (s e : Node) (i : ℕ) (y : Msg)
    → in_flight (net_after h net c d k) s e i ≡ Some y → in_flight net s e i ≡ Some y
stays Done net c d k s e i y f = (still-flies net (Core c) (Dir d) k s e i y f).flies
stays Dropped net c d k s e i y f = (still-flies net (Core c) (Dir d) k s e i y f).flies
stays Asked net c d k s e i y f = f
stays Waits net c d k s e i y f = f

-- what is in flight to this directory belongs there
pub belongs-there : (m : Machine) (f : Flights) (c d k : ℕ) (h : Handled) → IsWhole m → m.unsent ≡ []
    → net_of f ≡ net_after h (net_of m.flights) c d k
    → (b i : ℕ) (y : Msg) → in_flight (net_of f) (Core b) (Dir d) i ≡ Some y → Comes m.dirs.settings b d y
belongs-there m f c d k h w settled net b i y fly = comes m b d i y w settled
    (stays h (net_of m.flights) c d k (Core b) (Dir d) i y (subst (λ g. in_flight g (Core b) (Dir d) i ≡ Some y) net fly))

-- a link to another node
mark-elsewhere : (m n : Machine) (c d k : ℕ) (x : Msg) (h : Handled) (s e : Node) (i : ℕ) (y : Msg) → IsWhole m
    → (a : ActsAt m n c d k x h) → in_flight (net_of m.flights) s e i ≡ Some y → in_flight (net_of n.flights) s e i ≡ Some y
    → node_eq e (Dir d) ≡ false
    → is_ready n.flights s e i ≡ is_deliverable (settings_of m) (rule_dirs m) s e y
unfolding AreMarked
mark-elsewhere m n c d k x h s e i y w a old now other = a.others s e i y now other ∙ w.marked s e i y old

-- a link to this directory
mark-here : (m n : Machine) (c d k : ℕ) (x : Msg) (h : Handled) (b i : ℕ) (y : Msg) → IsWhole m → ActsAt m n c d k x h
    → in_flight (net_of m.flights) (Core b) (Dir d) i ≡ Some y → in_flight (net_of n.flights) (Core b) (Dir d) i ≡ Some y
    → is_ready n.flights (Core b) (Dir d) i ≡ is_taken (dir_deliver (settings_of m) (rule_dirs n d) b y)
unfolding AreMarked
mark-here m n c d k x h b i y w a old now =
    a.here b i y now (w.marked (Core b) (Dir d) i y old ∙ ap (λ s. is_taken (dir_deliver s (rule_dirs m d) b y)) (sym w.dirs))
    ∙ ap (λ s. is_taken (dir_deliver s (now_at m n d) b y)) w.dirs
    ∙ sym (λ j. is_taken (dir_deliver (settings_of m) (dirs_of (first_ram (started (a.cores j).code)) n.dirs d) b y))

-- a link to a directory
mark-at : (m n : Machine) (c d k : ℕ) (x : Msg) (h : Handled) (b e i : ℕ) (y : Msg) → IsWhole m → ActsAt m n c d k x h
    → in_flight (net_of m.flights) (Core b) (Dir e) i ≡ Some y → in_flight (net_of n.flights) (Core b) (Dir e) i ≡ Some y
    → is_ready n.flights (Core b) (Dir e) i ≡ is_taken (dir_deliver (settings_of m) (rule_dirs n e) b y)
mark-at m n c d k x h b e i y w a old now = by (e == d) refl
  where
    by : (t : Bool) → (e == d) ≡ t → is_ready n.flights (Core b) (Dir e) i ≡ is_taken (dir_deliver (settings_of m) (rule_dirs n e) b y)
    by false q = mark-elsewhere m n c d k x h (Core b) (Dir e) i y w a old now q
        ∙ ap (λ s. is_taken (dir_deliver (settings_of m) s b y))
        (sym ((λ j. dirs-after m n c d k x h a j e) ∙ ap (λ r. if r then now_at m n d else rule_dirs m e) q))
    by true q =
        let same : e ≡ d = grind (arith, nat_tests) in
        subst (λ g. is_ready n.flights (Core b) (Dir g) i ≡ is_taken (dir_deliver (settings_of m) (rule_dirs n g) b y)) (sym same)
        (mark-here m n c d k x h b i y w a
        (subst (λ g. in_flight (net_of m.flights) (Core b) (Dir g) i ≡ Some y) same old)
        (subst (λ g. in_flight (net_of n.flights) (Core b) (Dir g) i ≡ Some y) same now))

-- the machine has such a link
linked : (m : Machine) (s e : Node) (i : ℕ) (y : Msg) → IsWhole m → m.unsent ≡ [] → in_flight (net_of m.flights) s e i ≡ Some y
    → is_link (settings_of m).cores (settings_of m).dirs s e ≡ true
linked m s e i y w settled fly =
    let now = ap (λ net. in_flight net s e i) (settled-net m settled) ∙ fly in
    (may-go (settings_of m) (world_of m).next s e y (good-message m w s e i y now)).link

marked-at : (m n : Machine) (c d k : ℕ) (x : Msg) (h : Handled) (s e : Node) (i : ℕ) (y : Msg) → IsWhole m → ActsAt m n c d k x h
    → in_flight (net_of m.flights) s e i ≡ Some y → in_flight (net_of n.flights) s e i ≡ Some y
    → is_ready n.flights s e i ≡ is_deliverable (settings_of m) (rule_dirs n) s e y
marked-at m n c d k x h (Core b) (Dir e) i y w a old now = mark-at m n c d k x h b e i y w a old now
marked-at m n c d k x h (Core b) (Core e) i y w a old now = mark-elsewhere m n c d k x h (Core b) (Core e) i y w a old now refl
marked-at m n c d k x h (Core b) Vendor i y w a old now = mark-elsewhere m n c d k x h (Core b) Vendor i y w a old now refl
marked-at m n c d k x h (Dir b) (Core e) i y w a old now = mark-elsewhere m n c d k x h (Dir b) (Core e) i y w a old now refl
marked-at m n c d k x h (Dir b) Vendor i y w a old now = mark-elsewhere m n c d k x h (Dir b) Vendor i y w a old now refl
marked-at m n c d k x h Vendor (Core e) i y w a old now = mark-elsewhere m n c d k x h Vendor (Core e) i y w a old now refl
marked-at m n c d k x h Vendor Vendor i y w a old now = mark-elsewhere m n c d k x h Vendor Vendor i y w a old now refl
marked-at m n c d k x h (Dir b) (Dir e) i y w a old now = let l = linked m (Dir b) (Dir e) i y w a.settled old in absurd (cc)
marked-at m n c d k x h Vendor (Dir e) i y w a old now = let l = linked m Vendor (Dir e) i y w a.settled old in absurd (cc)

marks-after : (m n : Machine) (c d k : ℕ) (x : Msg) (h : Handled) → IsWhole m → ActsAt m n c d k x h
    → AreMarked (settings_of m) (rule_dirs n) n.flights
unfolding AreMarked
marks-after m n c d k x h w a s e i y fly = marked-at m n c d k x h s e i y w a
    (stays h (net_of m.flights) c d k s e i y (subst (λ g. in_flight g s e i ≡ Some y) a.net fly)) fly

-- and the machine is whole
pub acts-whole : (m n : Machine) (c d k : ℕ) (x : Msg) (h : Handled) → IsWhole m → m.events < machine_limit
    → in_flight (net_of m.flights) (Core c) (Dir d) k ≡ Some x → says_taken m c d x ≡ true → ActsAt m n c d k x h → IsWhole n
acts-whole m n c d k x h w few e t a =
    took-whole m n (Deliver (Core c) (Dir d) k) Moved w few (acts-took m n c d k x h w e t a) a.settings a.flight_cores a.flight_dirs
    (marks-after m n c d k x h w a)
