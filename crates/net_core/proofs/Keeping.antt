-- What a sound machine keeps to, and that it is still sound after one more event.
use Rattle.std.proofs.Common.{◌≡◌, ℕ, zero, suc, ◌+◌, ◌^◌, ◌<◌, Bool, true, false, ◌&&◌, List, [], Some, refl, ap, sym, ◌∙◌, subst}
use Rattle.std.proofs.Common.{arith}
use Rattle.std.specs.Prelude.{nat_lt, IfSome, drop}
use Rattle.image_load.specs.Contents.{Contents, started}
use Rattle.rv_code.specs.Machine.{program}
use Rattle.net_core.specs.Limits.{machine_limit}
use Rattle.tcc_base.specs.Settings.{Settings, IsAllowed}
use Rattle.base_lemmas.proofs.Lemmas.{and-left, at_home}
use Rattle.rules_maps.specs.Messages.{fits, goes_to_dir, goes_to_core, IsLine, line_named}
use Rattle.rules_maps.specs.Bridge.{node_of}
use Rattle.rules_maps.specs.Nodes.{Node, Core, Dir, Vendor, Event, Msg, TidReq, TidGrant, LoadReq, Fill, Skip, Probe, ProbeReply, Mark}
use Rattle.rules_maps.specs.Nodes.{Commit, Abort, WriteBack, Flush, DataReq, Inv, InvAck}
use Rattle.tcc_msg.specs.Plain.{sends_of}
use Rattle.rules_tcc.specs.Links.{in_flight, sending}
use Rattle.rules_tcc.specs.Step.{History, next_history}
use Rattle.theorem_sound.specs.Sound.{GoodMessage, Sound, tid_resolved}
use Rattle.theorem_sound.proofs.Lemmas.{sound_after}
use Rattle.directory.specs.Foreign.{is_foreign, HasSmallTids}
use Rattle.machine_links.specs.Flights.{net_of}
use Rattle.net_core.specs.Delivery.{AllMayGo, MayGo}
use Rattle.net_core.specs.Machine.{Machine, history_of, program_of, settings_of, world_of}
use Rattle.net_core.specs.Whole.{IsSound, IsWhole}
use Rattle.net_core.proofs.Links.Placing.{sending-none}

-- ---- one more event

after-event : (c : Contents) (events : ℕ) (h g : History) (e : Event) → IsAllowed c.settings → Sound c.settings events h
    → next_history c.settings (program (started c)) h e ≡ Some g → Sound c.settings (events + 1) g
unfolding started
after-event c events h g e allowed sound step = sound_after (started c) events h g e allowed sound step

-- the machine after one more event of the rules
pub sound-on : (m n : Machine) (e : Event) → IsAllowed (settings_of m) → IsSound m
    → next_history (settings_of m) (program_of m) (history_of m) e ≡ Some (history_of n)
    → n.events ≡ m.events + 1 → n.cores.code ≡ m.cores.code → IsSound n
sound-on m n e allowed s step count code =
    subst (λ c. Sound c.settings n.events (history_of n)) (sym code)
    (subst (λ k. Sound (settings_of m) k (history_of n)) (sym count)
    (after-event m.cores.code m.events (history_of m) (history_of n) e allowed s step))

-- the same state held in another way
pub sound-same : (m n : Machine) → IsSound m → history_of n ≡ history_of m → n.events ≡ m.events → n.cores.code ≡ m.cores.code → IsSound n
sound-same m n s same count code =
    subst (λ c. Sound c.settings n.events (history_of n)) (sym code)
    (subst (λ k. Sound (settings_of m) k (history_of n)) (sym count)
    (subst (Sound (settings_of m) m.events) (sym same) s))

-- ---- messages in flight

-- what is in flight is as it may be
pub sound-message : (m : Machine) → IsSound m → (src dst : Node) (k : ℕ) (x : Msg) → in_flight (world_of m).net src dst k ≡ Some x
    → GoodMessage (settings_of m) (world_of m).next src dst x
unfolding history_of
sound-message m s src dst k x e = s.messages src dst k x e

pub good-message : (m : Machine) → IsWhole m → (src dst : Node) (k : ℕ) (x : Msg) → in_flight (world_of m).net src dst k ≡ Some x
    → GoodMessage (settings_of m) (world_of m).next src dst x
good-message m w src dst k x e = sound-message m w.sound src dst k x e

both : (a b : Bool) (x : Bool) → (a && (b && x)) ≡ true → (a && b) ≡ true
both true true x e = refl
both true false x e = absurd (cc)
both false b x e = absurd (cc)

swapped : (a b : Bool) → (a && b) ≡ true → (b && a) ≡ true
swapped true true e = refl
swapped true false e = absurd (cc)
swapped false b e = absurd (cc)

kind : (a b : Bool) (x : Bool) → (a && (b && x)) ≡ true → x ≡ true
kind true true x e = e
kind true false x e = absurd (cc)
kind false b x e = absurd (cc)

not-foreign : (s : Settings) (n c d : ℕ) (x : Msg) → goes_to_dir x ≡ true → IfSome (line_named x) (IsLine s (Core c) (Dir d))
    → is_foreign (record { shape = s; dir = d }) x ≡ false
not-foreign s n c d (Skip t) g l = refl
not-foreign s n c d (Abort t) g l = refl
not-foreign s n c d (Probe t) g l = refl
not-foreign s n c d (Commit t count) g l = refl
not-foreign s n c d (LoadReq y after) g l = rw (at_home s y d l.0 l.1) refl
not-foreign s n c d (Mark y m t) g l = rw (at_home s y d l.0 l.1) refl
not-foreign s n c d (InvAck y keeps) g l = rw (at_home s y d l.0 l.1) refl
not-foreign s n c d (WriteBack y m ws t) g l = rw (at_home s y d l.0 l.1) refl
not-foreign s n c d (Flush y m ws t) g l = rw (at_home s y d l.0 l.1) refl
not-foreign s n c d TidReq g l = absurd (cc)
not-foreign s n c d (TidGrant t) g l = absurd (cc)
not-foreign s n c d (Fill y ws) g l = absurd (cc)
not-foreign s n c d (ProbeReply t v) g l = absurd (cc)
not-foreign s n c d (DataReq y) g l = absurd (cc)
not-foreign s n c d (Inv y m t) g l = absurd (cc)

-- what is in bounds may go where it goes
pub may-go : (s : Settings) (n : ℕ) (src dst : Node) (x : Msg) → GoodMessage s n src dst x → MayGo s src dst x
unfolding fits
may-go s n (Core c) (Dir d) x b = record {
  link = both (nat_lt c s.cores) (nat_lt d s.dirs) (goes_to_dir x) b.fits;
  belongs = not-foreign s n c d x (kind (nat_lt c s.cores) (nat_lt d s.dirs) (goes_to_dir x) b.fits) b.line;
}
may-go s n (Core c) Vendor x b = record { link = and-left (nat_lt c s.cores) _ b.fits; belongs = refl }
may-go s n (Dir d) (Core c) x b = record {
  link = swapped (nat_lt c s.cores) (nat_lt d s.dirs) (both (nat_lt c s.cores) (nat_lt d s.dirs) (goes_to_core x) b.fits);
  belongs = refl;
}
may-go s n Vendor (Core c) x b = record { link = and-left (nat_lt c s.cores) _ b.fits; belongs = refl }
may-go s n (Core c) (Core d) x b = let f = b.fits in absurd (cc)
may-go s n (Dir c) (Dir d) x b = let f = b.fits in absurd (cc)
may-go s n (Dir c) Vendor x b = let f = b.fits in absurd (cc)
may-go s n Vendor (Dir d) x b = let f = b.fits in absurd (cc)
may-go s n Vendor Vendor x b = let f = b.fits in absurd (cc)

pub may-all-go : (m : Machine) → IsWhole m → AllMayGo (settings_of m) (world_of m).net
unfolding AllMayGo
may-all-go m w src dst k x e = may-go (settings_of m) (world_of m).next src dst x (good-message m w src dst k x e)

-- a TID in a message is small
pub small-tids : (m : Machine) → IsWhole m → m.events < machine_limit → (src dst : Node) (k : ℕ) (x : Msg)
    → in_flight (world_of m).net src dst k ≡ Some x → HasSmallTids x
unfolding history_of
small-tids m w few src dst k x e = go x (good-message m w src dst k x e).tid
  where
    small : (t : ℕ) → t < (world_of m).next → t < 2 ^ 62
    small t g = omega (arith, g, few, w.sound.next_most)

    go : (x : Msg) → IfSome (tid_resolved x) (λ t. t < (world_of m).next) → HasSmallTids x
    go (Skip t) g = small t g
    go (Abort t) g = small t g
    go (Commit t c) g = small t g
    go TidReq g = tt
    go (TidGrant t) g = tt
    go (LoadReq l after) g = tt
    go (Fill l ws) g = tt
    go (Probe t) g = tt
    go (ProbeReply t s) g = tt
    go (Mark l a t) g = tt
    go (WriteBack l a ws t) g = tt
    go (Flush l a ws t) g = tt
    go (DataReq l) g = tt
    go (Inv l a t) g = tt
    go (InvAck l k) g = tt

-- ---- nothing stands beside the links

-- where all that was sent stands on its links these are the world's
pub settled-net : (m : Machine) → m.unsent ≡ [] → (world_of m).net ≡ net_of m.flights
unfolding world_of
settled-net m e = ap (λ xs. sending (net_of m.flights) (node_of m.sender) (sends_of xs)) e
    ∙ sending-none (net_of m.flights) (node_of m.sender)

pub nothing-left : {A : Type 0} → (n : ℕ) (xs : List A) → xs ≡ [] → drop n xs ≡ []
nothing-left n xs e = ap (drop n) e ∙ none n
  where
    none : {A : Type 0} → (n : ℕ) → drop {A = A} n [] ≡ []
    none zero = refl
    none (suc n) = refl
