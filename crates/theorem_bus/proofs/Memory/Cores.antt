-- Each event keeps each core's attempt what the plain machine does over memory, but for words of a packet that the core is still to take.
use Rattle.std.specs.Prelude.{ℕ, ◌+◌, ◌≡◌, ◌<◌, Bool, true, false, ◌==◌, ◌&&◌, Option, None, is_some, if◌then◌else◌}
use Rattle.std.proofs.Common.{refl, ◌∙◌, inl, inr, ◌⊎◌}
use Rattle.rules_maps.specs.Shape.{Shape}
use Rattle.rules_maps.specs.Words.{put, any_below}
use Rattle.rules_maps.proofs.Lemmas.{any_below-at}
use Rattle.rules_program.specs.Program.{Need, Program}
use Rattle.rules_tcc.specs.Attempt.{finished}
use Rattle.rules_tcc.specs.CoreEvict.{core_evict}
use Rattle.rules_tcc.specs.State.{CoreState, Phase, Running, AwaitTid, Overflowing, Solo, Halted}
use Rattle.theorem_attempt.specs.Follows.{Fits}
use Rattle.theorem_attempt.specs.Marks.{owed_in}
use Rattle.theorem_attempt.proofs.Lemmas.{finished-same}
use Rattle.rules_bus.specs.Commit.{BusStepped, written_words, with_words, packet, bus_commit, all_clean, commit_out}
use Rattle.rules_bus.specs.Exec.{instruction, gone_alone, core_changed}
use Rattle.rules_bus.specs.State.{Bus, Free, Alone, Packet, BusWorld}
use Rattle.rules_bus.specs.Take.{packet_taken, bus_left}
use Rattle.theorem_bus.proofs.OneCore.Committed.{finished-fine}
use Rattle.theorem_bus.proofs.OneCore.Did.{did-nothing, finished-did}
use Rattle.theorem_bus.proofs.InOrder.Events.{overflows, alone_by, taken_by, Happened, Instructs}
use Rattle.theorem_bus.proofs.InOrder.Events.{TakesBus, EndsAlone, Commits, Evicts, Takes}
use Rattle.theorem_bus.proofs.OneCore.Filled.{Coherent, did-coherent}
use Rattle.theorem_bus.proofs.OneCore.Fine.{Fine, Ways, Stays, Closes, Overflows, Left, instruction-left}
use Rattle.theorem_bus.proofs.Memory.Follow.{Follow, follow-over, instruction-follow, alone-follow, evict-follow}
use Rattle.theorem_bus.proofs.Memory.Commit.{pending, out-follow, others-keep}
use Rattle.theorem_bus.proofs.Memory.Take.{calm, in_packet, none_gone, taken-follow}
use Rattle.theorem_bus.proofs.OneCore.Instruction.{if-at}
use Rattle.theorem_bus.proofs.InOrder.Ordered.{StaysIn, PacketFits, PhaseFits, Ordered, put-all}
use Rattle.theorem_bus.proofs.InOrder.Bounded.{in_memory}

-- each core's
abbrev pub Followed : Shape → Program → BusWorld → Type 0
Followed sh p w = (c : ℕ) → c < sh.cores → Follow sh p w.ram (pending w.bus c) (w.cores c)

-- the phase after an instruction that finds no room
pub full-phase : (n : ℕ) (b : Bus) (c : ℕ) (s t : CoreState) → PhaseFits n b c s.phase → overflows t.phase ≡ true → Ways s t
    → t.phase ≡ Overflowing None
full-phase n b c s t k q (Overflows m e) = e
full-phase n b c s t k q (Closes r e) = absurd (let i : overflows t.phase ≡ false = rw e refl in cc)
full-phase n b c s t k q (Stays e) = absurd (go s.phase k (rw e at q))
  where
    go : (x : Phase) → PhaseFits n b c x → overflows x ≡ true → ⊥
    go (Overflowing t) k e = k
    go x k e = absurd (cc)

-- where no packet is on the bus nothing is pending
pub none-pending : (b : Bus) (c i v : ℕ) → (b ≡ Free) ⊎ (b ≡ Alone c) → pending b i v ≡ false
none-pending b c i v (inl e) = rw e refl
none-pending b c i v (inr e) = rw e refl

moved-followed : (sh : Shape) (p : Program) (w : BusWorld) (c : ℕ) (t : CoreState) → Followed sh p w
    → Follow sh p w.ram (pending w.bus c) t → Followed sh p (core_changed w c t).world
moved-followed sh p w c t k h = put-all (λ i s. Follow sh p w.ram (pending w.bus i) s) sh w.cores c t (λ i l e. k i l) h

alone-followed : (sh : Shape) (p : Program) (w : BusWorld) (c : ℕ) (t : CoreState) → w.bus ≡ Free → Followed sh p w
    → t.phase ≡ Overflowing None → Follow sh p w.ram (pending w.bus c) t → Followed sh p (alone_by w c t).world
alone-followed sh p w c t b k e h =
    put-all (λ i s. Follow sh p w.ram (pending (Alone c) i) s) sh w.cores c (gone_alone w.next t)
    (λ i l q. follow-over sh p w.ram w.ram (pending w.bus i) (pending (Alone c) i) (w.cores i)
    (λ v g. (none-pending w.bus c i v (inl b), refl)) (k i l))
    (alone-follow sh p w.ram (pending (Alone c) c) w.next t e
    (follow-over sh p w.ram w.ram (pending w.bus c) (pending (Alone c) c) t (λ v g. (none-pending w.bus c c v (inl b), refl)) h))

-- what a commit asks of the core
pub record Committing (sh : Shape) (ram : ℕ → ℕ) (s : CoreState) : Type 0 where
  pub replied : (d : ℕ) → s.owing d ≡ true → ⊥
  pub coherent : Coherent ram none_gone s.cache

commit-followed : (sh : Shape) (n : ℕ) (p : Program) (w : BusWorld) (c : ℕ) (s : CoreState) → (w.bus ≡ Free) ⊎ (w.bus ≡ Alone c)
    → Fine sh (in_memory sh) n s → Committing sh w.ram s → Followed sh p w → Followed sh p (bus_commit sh w c s).world
unfolding bus_commit
commit-followed sh n p w c s b f h k =
    put-all (λ i u. Follow sh p now (pending (packet sh c s) i) u) sh w.cores c (all_clean (commit_out sh c w.next s).core)
    (λ i l e. follow-over sh p w.ram now (pending w.bus i) (pending (packet sh c s) i) (w.cores i)
    (λ v g. (none-pending w.bus c i v b, others-keep sh n c i w.ram s f l e v g)) (k i l))
    (follow-over sh p now now none_gone (pending (packet sh c s) c) (all_clean (commit_out sh c w.next s).core)
    (λ v g. (refl, refl)) (out-follow n c w.next sh p w.ram s f h.replied h.coherent))
  where
    now : ℕ → ℕ
    now = with_words (written_words s) w.ram

committing : (sh : Shape) (p : Program) (w : BusWorld) (c : ℕ) (s : CoreState) → (w.bus ≡ Free) ⊎ (w.bus ≡ Alone c)
    → owed_in s.phase ≡ false → Follow sh p w.ram (pending w.bus c) s → Committing sh w.ram s
committing sh p w c s b q h = record {
  replied = λ d e. (let i = (h.fits.marks.owes d e).0 in absurd (cc));
  coherent = (follow-over sh p w.ram w.ram (pending w.bus c) none_gone s (λ v g. (none-pending w.bus c c v b, refl)) h).coherent;
}

pub ends-committing : (sh : Shape) (p : Program) (need : Need) (ram : ℕ → ℕ) (s : CoreState) → Committing sh ram s
    → Committing sh ram (finished p need 0 s)
ends-committing sh p need ram s k = record {
  replied = λ d e. k.replied d (rw (finished-same p need 0 s).owing at e);
  coherent = did-coherent (in_memory sh) ram none_gone s (finished p need 0 s)
      (finished-did (in_memory sh) p need 0 s s (did-nothing (in_memory sh) s)) k.coherent;
}

-- a packet is taken

calm-phase : (n : ℕ) (b : Bus) (c : ℕ) (q : Phase) → (b ≡ Alone c → ⊥) → PhaseFits n b c q → calm q ≡ true
calm-phase n b c Running f k = refl
calm-phase n b c AwaitTid f k = refl
calm-phase n b c Halted f k = refl
calm-phase n b c (Solo t) f k = absurd (f (k.0))
calm-phase n b c _ f k = absurd k

-- for the other cores as much is pending
others-pending : (sh : Shape) (c i v : ℕ) (f : ℕ → Option ℕ) (left : ℕ → Bool) → i < sh.cores → (i == c) ≡ false
    → pending (bus_left sh f (put left c false)) i v ≡ false → (left i && is_some (f v)) ≡ false
others-pending sh c i v f left l q e = go (any_below (put left c false) sh.cores) refl e
  where
    at : put left c false i ≡ left i
    at = rw q refl

    none : (b : Bool) → left i ≡ b → any_below (put left c false) sh.cores ≡ false → (b && is_some (f v)) ≡ false
    none false x y = refl
    none true x y = absurd (let z = any_below-at (put left c false) sh.cores i l (at ∙ x) in cc)

    go : (b : Bool) → any_below (put left c false) sh.cores ≡ b → pending (if b then Packet f (put left c false) else Free) i v ≡ false
        → (left i && is_some (f v)) ≡ false
    go true x y = (rw q at y)
    go false x y = none (left i) refl x

taken-followed : (sh : Shape) (n : ℕ) (p : Program) (w : BusWorld) (c : ℕ) (f : ℕ → Option ℕ) (left : ℕ → Bool) → c < sh.cores
    → w.bus ≡ Packet f left → left c ≡ true → Ordered sh (in_memory sh) n w → Followed sh p w → Followed sh p (taken_by sh w c f left).world
taken-followed sh n p w c f left l b h o k =
    put-all (λ i s. Follow sh p w.ram (pending after i) s) sh w.cores c (packet_taken sh f (w.cores c))
    (λ i j e. follow-over sh p w.ram w.ram (pending w.bus i) (pending after i) (w.cores i)
    (λ v g. (rw b (others-pending sh c i v f left j e g), refl)) (k i j))
    (follow-over sh p w.ram w.ram none_gone (pending after c) (packet_taken sh f (w.cores c)) (λ v g. (refl, refl))
    (taken-follow sh n p f w.ram (w.cores c) (calm-phase w.next w.bus c (w.cores c).phase none (o.phases c l)) bounds.inside (o.cores c l)
    (follow-over sh p w.ram w.ram (pending w.bus c) (in_packet f) (w.cores c) (λ v g. (rw (b, h, g) refl, refl)) (k c l))))
  where
    after : Bus
    after = bus_left sh f (put left c false)

    none : w.bus ≡ Alone c → ⊥
    none e = absurd (cc)

    bounds : PacketFits sh (in_memory sh) f left
    bounds = (rw b at o.bus)

-- each event

pub alone-free : (sh : Shape) (n : ℕ) (w : BusWorld) (c t : ℕ) → c < sh.cores → Ordered sh (in_memory sh) n w → (w.cores c).phase ≡ Solo t
    → w.bus ≡ Alone c
alone-free sh n w c t l k e = (rw e at (k.phases c l)).0

pub happened-followed : (sh : Shape) (p : Program) (n : ℕ) (w : BusWorld) (r : BusStepped) → Fits p → StaysIn sh (in_memory sh) p
    → Ordered sh (in_memory sh) n w
    → Followed sh p w → Happened sh p w r → Followed sh p r.world
happened-followed sh p n w r f m o k (Instructs c t l x d q e) =
    let h = if-at (instruction sh p w.ram c (w.cores c)) t (λ u. Follow sh p w.ram (pending w.bus c) u.core) d
    (instruction-follow sh n p w.ram (pending w.bus c) c (w.cores c) f (m (w.cores c).local) (o.cores c l) x (k c l)) in
    rw e (moved-followed sh p w c t.core k h)
happened-followed sh p n w r f m o k (TakesBus c t l x d q b e) =
    let h = if-at (instruction sh p w.ram c (w.cores c)) t (λ u. Follow sh p w.ram (pending w.bus c) u.core) d
    (instruction-follow sh n p w.ram (pending w.bus c) c (w.cores c) f (m (w.cores c).local) (o.cores c l) x (k c l)) in
    let a = if-at (instruction sh p w.ram c (w.cores c)) t (Left sh (in_memory sh) n (w.cores c)) d
    (instruction-left sh (in_memory sh) n p w.ram c (w.cores c) (m (w.cores c).local) (o.cores c l) x) in
    rw e (alone-followed sh p w c t.core b k (full-phase w.next w.bus c (w.cores c) t.core (o.phases c l) q a.ways) h)
happened-followed sh p n w r f m o k (EndsAlone c t need l q i g e) =
    let b = alone-free sh n w c t l o q in
    let h = committing sh p w c (w.cores c) (inr b) (rw q refl) (k c l) in
    rw e (commit-followed sh (n + 1) p w c (finished p need 0 (w.cores c)) (inr b)
    (finished-fine sh (in_memory sh) n p need 0 (w.cores c) (o.cores c l))
    (ends-committing sh p need w.ram (w.cores c) h) k)
happened-followed sh p n w r f m o k (Commits c l q b e) =
    rw e (commit-followed sh n p w c (w.cores c) (inl b) (o.cores c l) (committing sh p w c (w.cores c) (inl b) (rw q refl) (k c l)) k)
happened-followed sh p n w r f m o k (Evicts c x y t l d e) =
    let h = if-at (core_evict sh x y (w.cores c)) t (λ u. Follow sh p w.ram (pending w.bus c) u.core) d
    (evict-follow sh n p w.ram (pending w.bus c) x y (w.cores c) (o.cores c l) (k c l)) in
    rw e (moved-followed sh p w c t.core k h)
happened-followed sh p n w r f m o k (Takes c g left l b h e) = rw e (taken-followed sh n p w c g left l b h o k)
