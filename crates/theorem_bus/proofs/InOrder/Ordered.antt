-- What holds between the cores and the bus: the core that has the bus is alone, and no other is; a packet is of words of memory, and some
-- core is still to take it.
use Rattle.std.specs.Prelude.{ℕ, ◌+◌, ◌≡◌, ◌<◌, Bool, true, false, not, ◌==◌, ◌&&◌, Option, is_some, nat_lt, if◌then◌else◌}
use Rattle.std.proofs.Common.{arith, refl, ap, sym, inl, inr, ◌∙◌, ◌⊎◌}
use Rattle.std.proofs.lemmas.Bool.Decides.{nat_tests}
use Rattle.rules_maps.specs.Shape.{Shape}
use Rattle.rules_maps.specs.Words.{put, any_below, line_of}
use Rattle.rules_program.specs.Plain.{Outcome, Goes, Ended, Halted as HaltedWith, Trapped as TrappedWith}
use Rattle.rules_program.specs.Program.{Program, Local}
use Rattle.rules_tcc.specs.Attempt.{is_solo, finished}
use Rattle.rules_tcc.specs.Commit.{phase_after_commit}
use Rattle.rules_tcc.specs.CoreEvict.{core_evict}
use Rattle.rules_tcc.specs.State.{CoreState, Phase, Running, AwaitTid, Solo, Halted, core_start}
use Rattle.theorem_attempt.proofs.Lemmas.{start-sound}
use Rattle.theorem_bounds.proofs.Lemmas.{none}
use Rattle.rules_bus.specs.Commit.{BusStepped, written_words, wrote_some, others, packet, bus_commit, all_clean, commit_out}
use Rattle.rules_bus.specs.Exec.{instruction, gone_alone, core_changed}
use Rattle.rules_bus.specs.State.{Bus, Free, Alone, Packet, BusWorld, bus_start}
use Rattle.rules_bus.specs.Take.{reads_some, packet_invalidated, packet_taken, bus_left}
use Rattle.theorem_bus.proofs.OneCore.Did.{LineSet, NeedIn}
use Rattle.theorem_bus.proofs.OneCore.Committed.{out-fine, out-phase, finished-fine, written-inside}
use Rattle.theorem_bus.proofs.InOrder.Events.{overflows, alone_by, taken_by, Happened, Instructs}
use Rattle.theorem_bus.proofs.InOrder.Events.{TakesBus, EndsAlone, Commits, Evicts, Takes}
use Rattle.theorem_bus.proofs.OneCore.Fine.{Fine, later, Ways, Stays, Closes}
use Rattle.theorem_bus.proofs.OneCore.Fine.{Overflows, Left, instruction-left, evict-left, evict-phase, alone-fine}
use Rattle.theorem_bus.proofs.OneCore.Instruction.{if-at}
use Rattle.theorem_bus.proofs.OneCore.Taken.{again, taken-fine}

-- a program whose accesses are to these lines
abbrev pub StaysIn : Shape → (M : LineSet) → Program → Type 0
StaysIn sh M p = (l : Local) → NeedIn M sh.base (p.need l)

-- a packet of words of these lines, which a core is still to take
pub record PacketFits (sh : Shape) (M : LineSet) (f : ℕ → Option ℕ) (left : ℕ → Bool) : Type 0 where
  pub some : any_below left sh.cores ≡ true
  pub cores : (c : ℕ) → left c ≡ true → c < sh.cores
  pub inside : (x : ℕ) → is_some (f x) ≡ true → M (line_of x)

-- a core that is alone has the bus, under the next TID
abbrev pub PhaseFits : (next : ℕ) → Bus → (core : ℕ) → Phase → Type 0
PhaseFits n b c Running = Unit {0}
PhaseFits n b c AwaitTid = Unit {0}
PhaseFits n b c (Solo t) = (b ≡ Alone c) × (t ≡ n)
PhaseFits n b c Halted = Unit {0}
PhaseFits n b c _ = ⊥

abbrev pub BusFits : Shape → (M : LineSet) → (ℕ → CoreState) → (next : ℕ) → Bus → Type 0
BusFits sh M cores n Free = Unit {0}
BusFits sh M cores n (Alone c) = (c < sh.cores) × ((cores c).phase ≡ Solo n)
BusFits sh M cores n (Packet f left) = PacketFits sh M f left

-- after so many events
pub record Ordered (sh : Shape) (M : LineSet) (n : ℕ) (w : BusWorld) : Type 0 where
  pub cores : (c : ℕ) → c < sh.cores → Fine sh M n (w.cores c)
  pub phases : (c : ℕ) → c < sh.cores → PhaseFits w.next w.bus c (w.cores c).phase
  pub bus : BusFits sh M w.cores w.next w.bus

-- one core changes
pub put-all : (P : ℕ → CoreState → Type 0) (sh : Shape) (cores : ℕ → CoreState) (c : ℕ) (s : CoreState)
    → ((i : ℕ) → i < sh.cores → (i == c) ≡ false → P i (cores i)) → P c s → (i : ℕ) → i < sh.cores → P i (put cores c s i)
put-all P sh cores c s f g i l = go (i == c) refl
  where
    go : (b : Bool) → (i == c) ≡ b → P i (if b then s else cores i)
    go true e = let q : c ≡ i = grind (arith, nat_tests) in rw q at g
    go false e = f i l e

-- a core that isn't alone fits every bus
fits-any : (n m : ℕ) (b d : Bus) (c : ℕ) (q : Phase) → (b ≡ Alone c → ⊥) → PhaseFits n b c q → PhaseFits m d c q
fits-any n m b d c Running f k = k
fits-any n m b d c AwaitTid f k = k
fits-any n m b d c (Solo t) f k = absurd (f (k.0))
fits-any n m b d c Halted f k = k
fits-any n m b d c _ f k = absurd k

not-solo : (n : ℕ) (b : Bus) (c : ℕ) (q : Phase) → (b ≡ Alone c → ⊥) → PhaseFits n b c q → is_solo q ≡ false
not-solo n b c (Solo t) f k = absurd (f (k.0))
not-solo n b c _ f k = refl

-- the bus isn't of another core
abbrev owner : Bus → ℕ
owner Free = 0
owner (Alone c) = c
owner (Packet f left) = 0

not-other : (b : Bus) (c i : ℕ) → (b ≡ Free) ⊎ (b ≡ Alone c) → (i == c) ≡ false → b ≡ Alone i → ⊥
not-other b c i (inl e) n f = absurd (cc)
not-other b c i (inr e) n f = let q : c ≡ i = ap owner (sym e ∙ f) in absurd (grind (arith, nat_tests))

-- a core moves, and the bus stays
abbrev pub GoesOn : CoreState → CoreState → Type 0
GoesOn s t = (t.phase ≡ s.phase) ⊎ ((s.phase ≡ Running) × (t.phase ≡ AwaitTid))

goes-ways : (s t : CoreState) → overflows t.phase ≡ false → Ways s t → GoesOn s t
goes-ways s t q (Stays e) = inl e
goes-ways s t q (Closes r e) = inr (r, e)
goes-ways s t q (Overflows n e) = absurd (let i : overflows t.phase ≡ true = rw e refl in cc)

moved-ordered : (sh : Shape) (M : LineSet) (n : ℕ) (w : BusWorld) (c : ℕ) (t : CoreState) → c < sh.cores → Ordered sh M n w
    → Fine sh M (n + 1) t
    → GoesOn (w.cores c) t → Ordered sh M (n + 1) (core_changed w c t).world
moved-ordered sh M n w c t l k f g = record {
  cores = put-all (λ i s. Fine sh M (n + 1) s) sh w.cores c t (λ i j e. later sh M n (w.cores i) (k.cores i j)) f;
  phases = put-all (λ i s. PhaseFits w.next w.bus i s.phase) sh w.cores c t (λ i j e. k.phases i j) (phase g);
  bus = bus w.bus k.bus;
}
  where
    phase : GoesOn (w.cores c) t → PhaseFits w.next w.bus c t.phase
    phase (inl e) = rw e (k.phases c l)
    phase (inr e) = rw e.1 tt

    bus : (b : Bus) → BusFits sh M w.cores w.next b → BusFits sh M (put w.cores c t) w.next b
    bus Free h = tt
    bus (Packet p left) h = h
    bus (Alone d) h = (h.0, at (d == c) refl g)
      where
        at : (b : Bool) → (d == c) ≡ b → GoesOn (w.cores c) t → (if b then t else w.cores d).phase ≡ Solo w.next
        at true e (inl q) = let i : d ≡ c = grind (arith, nat_tests) in q ∙ (rw i at (h.1))
        at true e (inr q) = absurd (
            let i : d ≡ c = grind (arith, nat_tests) in
            let j : (w.cores c).phase ≡ Solo w.next = rw i at (h.1) in
            let m = q.0 in
            cc)
        at false e g = h.1

-- a core gets the bus
alone-ordered : (sh : Shape) (M : LineSet) (n : ℕ) (w : BusWorld) (c : ℕ) (t : CoreState) → c < sh.cores → w.bus ≡ Free → Ordered sh M n w
    → Fine sh M (n + 1) t → Ordered sh M (n + 1) (alone_by w c t).world
unfolding gone_alone
alone-ordered sh M n w c t l b k f = record {
  cores = put-all (λ i s. Fine sh M (n + 1) s) sh w.cores c (gone_alone w.next t) (λ i j e. later sh M n (w.cores i) (k.cores i j))
      (alone-fine sh M (n + 1) w.next t f);
  phases = put-all (λ i s. PhaseFits w.next (Alone c) i s.phase) sh w.cores c (gone_alone w.next t)
      (λ i j e. fits-any w.next w.next w.bus (Alone c) i (w.cores i).phase (λ q. absurd (cc)) (k.phases i j)) (refl, refl);
  bus = (l, at (c == c) (grind (arith, nat_tests)));
}
  where
    at : (b : Bool) → b ≡ true → (if b then gone_alone w.next t else w.cores c).phase ≡ Solo w.next
    at true e = refl
    at false e = absurd (cc)

-- a commit

after-fits : (n : ℕ) (b : Bus) (c : ℕ) (o : Outcome) → PhaseFits n b c (phase_after_commit o)
after-fits n b c Goes = tt
after-fits n b c Ended = tt
after-fits n b c (HaltedWith code) = tt
after-fits n b c (TrappedWith code) = tt

packet-fits : (sh : Shape) (M : LineSet) (n m c : ℕ) (s : CoreState) (cores : ℕ → CoreState) → Fine sh M n s
    → BusFits sh M cores m (packet sh c s)
packet-fits sh M n m c s cores k = go (wrote_some sh s) (any_below (others sh c) sh.cores) refl
  where
    go : (a b : Bool) → any_below (others sh c) sh.cores ≡ b
        → BusFits sh M cores m (if a && b then Packet (written_words s) (others sh c) else Free)
    go true true e = record {
      some = e;
      cores = λ i h. (let q : (nat_lt i sh.cores && not (i == c)) ≡ true = h in grind (arith, nat_tests));
      inside = written-inside sh M n s k;
    }
    go true false e = tt
    go false b e = tt

commit-ordered : (sh : Shape) (M : LineSet) (n m : ℕ) (w : BusWorld) (c : ℕ) (s : CoreState) → (w.bus ≡ Free) ⊎ (w.bus ≡ Alone c)
    → Ordered sh M n w → Fine sh M m s → Ordered sh M (n + 1) (bus_commit sh w c s).world
unfolding bus_commit
commit-ordered sh M n m w c s b k f = record {
  cores = put-all (λ i s. Fine sh M (n + 1) s) sh w.cores c t (λ i j e. later sh M n (w.cores i) (k.cores i j))
      (out-fine sh M m (n + 1) c w.next s f);
  phases = put-all (λ i s. PhaseFits (w.next + 1) (packet sh c s') i s.phase) sh w.cores c t
      (λ i j e. fits-any w.next (w.next + 1) w.bus (packet sh c s') i (w.cores i).phase (not-other w.bus c i b e) (k.phases i j))
      (rw (out-phase sh c w.next s) (after-fits (w.next + 1) (packet sh c s') c s.ended));
  bus = packet-fits sh M m (w.next + 1) c s (put w.cores c t) f;
}
  where
    s' : CoreState
    s' = s

    t : CoreState
    t = all_clean (commit_out sh c w.next s).core

-- a packet is taken

left-fits : (sh : Shape) (M : LineSet) (n c : ℕ) (cores : ℕ → CoreState) (f : ℕ → Option ℕ) (left : ℕ → Bool) → PacketFits sh M f left
    → BusFits sh M cores n (bus_left sh f (put left c false))
left-fits sh M n c cores f left k = go (any_below (put left c false) sh.cores) refl
  where
    at : (i : ℕ) (b : Bool) → (if b then false else left i) ≡ true → left i ≡ true
    at i true e = absurd (cc)
    at i false e = e

    go : (b : Bool) → any_below (put left c false) sh.cores ≡ b
        → BusFits sh M cores n (if b then Packet f (put left c false) else Free)
    go true e = record { some = e; cores = λ i h. k.cores i (at i (i == c) h); inside = k.inside }
    go false e = tt

taken-phase : (sh : Shape) (f : ℕ → Option ℕ) (s : CoreState) → (n m : ℕ) (b d : Bus) (c : ℕ) → (b ≡ Alone c → ⊥)
    → PhaseFits n b c s.phase → PhaseFits m d c (packet_taken sh f s).phase
unfolding packet_taken packet_invalidated
taken-phase sh f s n m b d c q k = go (reads_some sh f s.cache)
  where
    go : (r : Bool) → PhaseFits m d c (again r s).phase
    go true = tt
    go false = fits-any n m b d c s.phase q k

taken-ordered : (sh : Shape) (M : LineSet) (n : ℕ) (w : BusWorld) (c : ℕ) (f : ℕ → Option ℕ) (left : ℕ → Bool) → c < sh.cores
    → w.bus ≡ Packet f left → Ordered sh M n w → Ordered sh M (n + 1) (taken_by sh w c f left).world
taken-ordered sh M n w c f left l b k = record {
  cores =
      put-all (λ i s. Fine sh M (n + 1) s) sh w.cores c (packet_taken sh f (w.cores c)) (λ i j e. later sh M n (w.cores i) (k.cores i j))
      (later sh M n (packet_taken sh f (w.cores c)) (taken-fine sh M n f (w.cores c)
      (not-solo w.next w.bus c (w.cores c).phase (none c) (k.phases c l)) (k.cores c l)));
  phases = put-all (λ i s. PhaseFits w.next after i s.phase) sh w.cores c (packet_taken sh f (w.cores c))
      (λ i j e. fits-any w.next w.next w.bus after i (w.cores i).phase (none i) (k.phases i j))
      (taken-phase sh f (w.cores c) w.next w.next w.bus after c (none c) (k.phases c l));
  bus = left-fits sh M w.next c (put w.cores c (packet_taken sh f (w.cores c))) f left (rw b at k.bus);
}
  where
    after : Bus
    after = bus_left sh f (put left c false)

    none : (i : ℕ) → w.bus ≡ Alone i → ⊥
    none i e = absurd (cc)

-- each event

alone-bus : (sh : Shape) (M : LineSet) (n : ℕ) (w : BusWorld) (c t : ℕ) → c < sh.cores → Ordered sh M n w → (w.cores c).phase ≡ Solo t
    → (w.bus ≡ Alone c) × (t ≡ w.next)
alone-bus sh M n w c t l k e = (rw e at (k.phases c l))

pub happened-ordered : (sh : Shape) (M : LineSet) (p : Program) (n : ℕ) (w : BusWorld) (r : BusStepped) → StaysIn sh M p → Ordered sh M n w
    → Happened sh p w r → Ordered sh M (n + 1) r.world
happened-ordered sh M p n w r m k (Instructs c o l x d q e) =
    let f = if-at (instruction sh p w.ram c (w.cores c)) o (Left sh M n (w.cores c)) d
    (instruction-left sh M n p w.ram c (w.cores c) (m (w.cores c).local) (k.cores c l) x) in
    rw e (moved-ordered sh M n w c o.core l k f.fine (goes-ways (w.cores c) o.core q f.ways))
happened-ordered sh M p n w r m k (TakesBus c o l x d q b e) =
    let f = if-at (instruction sh p w.ram c (w.cores c)) o (Left sh M n (w.cores c)) d
    (instruction-left sh M n p w.ram c (w.cores c) (m (w.cores c).local) (k.cores c l) x) in
    rw e (alone-ordered sh M n w c o.core l b k f.fine)
happened-ordered sh M p n w r m k (EndsAlone c t need l q i g e) =
    rw e (commit-ordered sh M n (n + 1) w c (finished p need 0 (w.cores c)) (inr ((alone-bus sh M n w c t l k q).0)) k
    (finished-fine sh M n p need 0 (w.cores c) (k.cores c l)))
happened-ordered sh M p n w r m k (Commits c l q b e) = rw e (commit-ordered sh M n n w c (w.cores c) (inl b) k (k.cores c l))
happened-ordered sh M p n w r m k (Evicts c x y o l d e) =
    let f = if-at (core_evict sh x y (w.cores c)) o (Left sh M n (w.cores c)) d (evict-left sh M n x y (w.cores c) (k.cores c l)) in
    let q = if-at (core_evict sh x y (w.cores c)) o (λ t. t.core.phase ≡ (w.cores c).phase) d (evict-phase sh x y (w.cores c)) in
    rw e (moved-ordered sh M n w c o.core l k f.fine (inl q))
happened-ordered sh M p n w r m k (Takes c f left l b h e) = rw e (taken-ordered sh M n w c f left l b k)

pub start-ordered : (sh : Shape) (M : LineSet) (entries : ℕ → Local) (ram : ℕ → ℕ) → Ordered sh M 0 (bus_start entries ram)
unfolding bus_start core_start Rattle.rules_maps.specs.Cache.empty_cache Rattle.rules_maps.specs.Spilled.none_spilled
start-ordered sh M entries ram = record {
  cores = λ c l. record {
    awaited = refl;
    clean = λ x. refl;
    sound = start-sound sh (entries c);
    attempt = none 0;
    frames = λ l e. absurd (cc);
    spilled = λ x e. absurd (cc);
  };
  phases = λ c l. tt;
  bus = tt;
}
