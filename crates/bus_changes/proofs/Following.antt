-- What an event of a core leaves as it was, rule by rule.
use Rattle.std.proofs.Common.{◌≡◌, ℕ, ◌+◌, ◌<◌, ◌==◌, ◌&&◌, Bool, true, false, if◌then◌else◌, Option, Some, None, refl}
use Rattle.std.proofs.Common.{nat_le, nat_lt, ap, length, sym, ◌∙◌, subst, arith, inl, inr}
use Rattle.std.specs.Prelude.{is_some, unwrap_or, IfSome}
use Rattle.std.proofs.lemmas.Bool.{cases_eq}
use Rattle.std.proofs.lemmas.Bool.Decides.{nat_tests}
use Rattle.base_lemmas.proofs.Lemmas.{and-left, neither, none_below, word_at-own}
use Rattle.rv_code.specs.Machine.{program}
use Rattle.rules_maps.specs.Cache.{is_modified}
use Rattle.rules_maps.specs.Shape.{Shape, lines}
use Rattle.rules_maps.specs.Spilled.{holds}
use Rattle.rules_maps.specs.Words.{any_below, any_word, line_of, or_else, place_of, put, word_at}
use Rattle.rules_maps.proofs.Lemmas.{any_below-at}
use Rattle.rules_program.specs.Program.{Need, Nothing, Loads, Stores, Changes, Prints, Ends, Halts, Traps, Program}
use Rattle.rules_tcc.specs.Attempt.{Out, finished}
use Rattle.rules_tcc.specs.CoreEvict.{core_evict}
use Rattle.rules_tcc.specs.Commit.{is_written}
use Rattle.rules_tcc.specs.State.{CoreState, Phase, Running, AwaitTid, DoomedTid, Probing, Ready, Overflowing, Solo, Halted}
use Rattle.rules_bus.specs.Commit.{BusStepped, all_clean, bus_commit, commit_out, others, packet, with_words, written_words, wrote_some}
use Rattle.rules_bus.specs.Exec.{bus_exec, bus_exec_in_phase, core_changed, exec_alone, executed, goes_on}
use Rattle.rules_bus.specs.Exec.{gone_alone, instruction, when_free}
use Rattle.rules_bus.specs.State.{Alone, Bus, BusEvent, BusWorld, Evict, Exec, Free, Packet, Take}
use Rattle.rules_bus.specs.Step.{BusHistory, and_noted, bus_happens, bus_names, bus_next, bus_run, bus_step, if_evicted, recorded}
use Rattle.rules_bus.specs.Take.{bus_left, bus_take, packet_taken, take_from}
use Rattle.theorem_bus.specs.Bounds.{IsBusBounded}
use Rattle.theorem_bus.specs.Given.{bus_at_start}
use Rattle.theorem_bus.proofs.Lemmas.{riscv_bus_runs_are_bounded}
use Rattle.bus_tcc.specs.Left.{packet_words}
use Rattle.bus_watch.specs.Happened.{core_of}
use Rattle.bus_changes.specs.Following.{Follows, NoneInPlace, may_change}
use Rattle.bus_changes.specs.Laws.{EventsFollow}

-- ---- a core changes, and nothing else

changed-follows : (sh : Shape) (w : BusWorld) (c : ℕ) (s : CoreState) (b : Bus) → NoneInPlace w.bus b
    → Follows sh c w (record w { cores = put w.cores c s; bus = b })
changed-follows sh w c s b k = record {
  others = λ d apart. ap (λ t. if t then s else w.cores d) apart;
  packet = k;
  memory = (λ e. refl, λ x i e. refl);
}

stays : (b : Bus) → NoneInPlace b b
stays b = inr (inr refl)

alone-in-place : (b : Bus) (c : ℕ) → NoneInPlace b (Alone c)
alone-in-place b c = inr (inl refl)

-- ---- a commit

place-less : (x : ℕ) → place_of x < 8
place-less x = omega arith

-- a word that has it is in a line with such a word
word-there : (p : ℕ → Bool) (x : ℕ) → p x ≡ true → any_word p (line_of x) ≡ true
unfolding any_word
word-there p x e =
    any_below-at (λ k. p (word_at (line_of x) k)) 8 (place_of x) (place-less x) (ap p (word_at-own x) ∙ e)

word-none : (p : ℕ → Bool) (x : ℕ) → any_word p (line_of x) ≡ false → p x ≡ false
word-none p x e = go (p x) refl
  where
    go : (b : Bool) → p x ≡ b → p x ≡ false
    go false q = q
    go true q = absurd (let some = word-there p x q in cc)

-- nothing was written there
none-written : (sh : Shape) (s : CoreState) (x : ℕ) → wrote_some sh s ≡ false → line_of x < lines sh → written_words s x ≡ None
unfolding wrote_some is_written written_words is_modified holds
none-written sh s x none here =
    let at = neither _ _ (none_below (is_written s.cache s.spilled) (lines sh) (line_of x) none here) in
    let modified = word-none s.cache.modified x at.0 in
    let spilled = word-none (λ w. is_some (s.spilled w)) x at.1 in
    ap (λ b. or_else (s.spilled x) (if b then s.cache.value x else None)) modified ∙ go (s.spilled x) spilled
  where
    go : (o : Option ℕ) → is_some o ≡ false → or_else o None ≡ None
    go None e = refl
    go (Some y) e = absurd (cc)

-- there is another core
other-there : (sh : Shape) (c : ℕ) → nat_le sh.cores 1 ≡ false → any_below (others sh c) sh.cores ≡ true
other-there sh c many =
    let more : 1 < sh.cores = grind (arith, nat_tests) in
    elim (cases_eq c 0) [
      | inl zero ↦ any_below-at (others sh c) sh.cores 1 more (grind (arith, nat_tests))
      | inr apart ↦ any_below-at (others sh c) sh.cores 0 (omega (arith, more)) (grind (arith, nat_tests))
    ]

-- a word that isn't in a line of the packet is as it was
unwritten : (sh : Shape) (c : ℕ) (s : CoreState) (x : ℕ) → line_of x < lines sh → may_change sh (packet sh c s) (line_of x) ≡ false
    → written_words s x ≡ None
unwritten sh c s x here e =
    let at = neither (nat_le sh.cores 1) _ e in
    go (wrote_some sh s) refl (any_below (others sh c) sh.cores) (other-there sh c at.0) at.1
  where
    is-none : (o : Option ℕ) → is_some o ≡ false → o ≡ None
    is-none None q = refl
    is-none (Some y) q = absurd (cc)

    go : (b : Bool) → wrote_some sh s ≡ b → (t : Bool) → t ≡ true
        → any_word (λ w. is_some (packet_words (if b && t then Packet (written_words s) (others sh c) else Free) w)) (line_of x) ≡ false
        → written_words s x ≡ None
    go false q t r h = none-written sh s x q here
    go true q true r h = is-none (written_words s x) (word-none (λ w. is_some (written_words s w)) x h)
    go true q false r h = absurd (cc)

commit-follows : (sh : Shape) (w : BusWorld) (c : ℕ) (s : CoreState) → packet_words w.bus ≡ (λ x. None)
    → Follows sh c w (bus_commit sh w c s).world
unfolding bus_commit with_words
commit-follows sh w c s none = record {
  others = λ d apart. ap (λ t. if t then all_clean (commit_out sh c w.next s).core else w.cores d) apart;
  packet = inl none;
  memory = (
    λ e. absurd (let later : (w.next + 1 == w.next) ≡ false = grind (arith, nat_tests) in cc),
    λ x here e. ap (λ o. unwrap_or o (w.ram x)) (unwritten sh c s x here e),
  );
}

-- ---- rule by rule

abbrev FollowsIf : Shape → (core : ℕ) → BusWorld → Option BusStepped → Type 0
FollowsIf sh c w o = IfSome o (λ k. Follows sh c w k.world)

-- only where the bus is free
free-alone : (sh : Shape) (w : BusWorld) (c : ℕ) (s : CoreState) (b : Bus) → w.bus ≡ b
    → FollowsIf sh c w (when_free b (record { world = record w { cores = put w.cores c s; bus = Alone c }; noted = None }))
free-alone sh w c s Free e = changed-follows sh w c s (Alone c) (alone-in-place w.bus c)
free-alone sh w c s (Alone d) e = tt
free-alone sh w c s (Packet f left) e = tt

free-commit : (sh : Shape) (w : BusWorld) (c : ℕ) (b : Bus) → w.bus ≡ b → FollowsIf sh c w (when_free b (bus_commit sh w c (w.cores c)))
free-commit sh w c Free e = commit-follows sh w c (w.cores c) (ap packet_words e)
free-commit sh w c (Alone d) e = tt
free-commit sh w c (Packet f left) e = tt

moved : (sh : Shape) (w : BusWorld) (c : ℕ) (s : CoreState) → Follows sh c w (core_changed w c s).world
moved sh w c s = changed-follows sh w c s w.bus (stays w.bus)

executed-follows : (sh : Shape) (w : BusWorld) (c : ℕ) (o : Out) (p : Phase) → FollowsIf sh c w (executed w c o p)
executed-follows sh w c o Running = moved sh w c o.core
executed-follows sh w c o AwaitTid = moved sh w c o.core
executed-follows sh w c o DoomedTid = moved sh w c o.core
executed-follows sh w c o (Probing t) = moved sh w c o.core
executed-follows sh w c o (Ready t) = moved sh w c o.core
executed-follows sh w c o (Overflowing t) = free-alone sh w c (gone_alone w.next o.core) w.bus refl
executed-follows sh w c o (Solo t) = moved sh w c o.core
executed-follows sh w c o Halted = moved sh w c o.core

goes-follows : (sh : Shape) (w : BusWorld) (c : ℕ) (o : Option Out) → FollowsIf sh c w (goes_on w c o)
goes-follows sh w c None = tt
goes-follows sh w c (Some o) = executed-follows sh w c o o.core.phase

alone-follows : (sh : Shape) (p : Program) (w : BusWorld) (c : ℕ) (s : CoreState) (n : Need) → packet_words w.bus ≡ (λ x. None)
    → FollowsIf sh c w (exec_alone sh p w c s n)
alone-follows sh p w c s Nothing none = goes-follows sh w c (instruction sh p w.ram c s)
alone-follows sh p w c s (Loads addr size) none = goes-follows sh w c (instruction sh p w.ram c s)
alone-follows sh p w c s (Stores addr size value) none = goes-follows sh w c (instruction sh p w.ram c s)
alone-follows sh p w c s (Changes addr changed) none = goes-follows sh w c (instruction sh p w.ram c s)
alone-follows sh p w c s (Prints byte) none = goes-follows sh w c (instruction sh p w.ram c s)
alone-follows sh p w c s Ends none = commit-follows sh w c (finished p Ends 0 s) none
alone-follows sh p w c s (Halts code) none = commit-follows sh w c (finished p (Halts code) 0 s) none
alone-follows sh p w c s (Traps code) none = commit-follows sh w c (finished p (Traps code) 0 s) none

-- a core that is alone has the bus
abbrev HasBus : BusWorld → (core : ℕ) → Type 0
HasBus w c = (t : ℕ) → (w.cores c).phase ≡ Solo t → w.bus ≡ Alone c

phase-follows : (sh : Shape) (p : Program) (w : BusWorld) (c : ℕ) (q : Phase) → (w.cores c).phase ≡ q → HasBus w c
    → FollowsIf sh c w (bus_exec_in_phase sh p w c (w.cores c) q)
phase-follows sh p w c Running e h = goes-follows sh w c (instruction sh p w.ram c (w.cores c))
phase-follows sh p w c AwaitTid e h = free-commit sh w c w.bus refl
phase-follows sh p w c DoomedTid e h = tt
phase-follows sh p w c (Probing t) e h = tt
phase-follows sh p w c (Ready t) e h = tt
phase-follows sh p w c (Overflowing t) e h = tt
phase-follows sh p w c (Solo t) e h =
    alone-follows sh p w c (w.cores c) (p.need (w.cores c).local) (ap packet_words (h t e))
phase-follows sh p w c Halted e h = tt

left-in-place : (sh : Shape) (f : ℕ → Option ℕ) (left still : ℕ → Bool) → NoneInPlace (Packet f left) (bus_left sh f still)
left-in-place sh f left still = go (any_below still sh.cores)
  where
    go : (b : Bool) → NoneInPlace (Packet f left) (if b then Packet f still else Free)
    go true = inr (inr refl)
    go false = inr (inl refl)

take-follows : (sh : Shape) (w : BusWorld) (c : ℕ) (b : Bus) → w.bus ≡ b → FollowsIf sh c w (take_from sh w c b)
take-follows sh w c Free e = tt
take-follows sh w c (Alone d) e = tt
take-follows sh w c (Packet f left) e = go (left c)
  where
    go : (t : Bool)
        → FollowsIf sh c w (if t
        then Some (record {
          world = record w { cores = put w.cores c (packet_taken sh f (w.cores c)); bus = bus_left sh f (put left c false) };
          noted = None;
        })
        else None)
    go false = tt
    go true = changed-follows sh w c (packet_taken sh f (w.cores c)) (bus_left sh f (put left c false))
        (subst (λ b. NoneInPlace b (bus_left sh f (put left c false))) (sym e) (left-in-place sh f left (put left c false)))

evict-follows : (sh : Shape) (w : BusWorld) (c : ℕ) (o : Option Out) → FollowsIf sh c w (if_evicted w c o)
evict-follows sh w c None = tt
evict-follows sh w c (Some o) = moved sh w c o.core

happens-follows : (sh : Shape) (p : Program) (w : BusWorld) (e : BusEvent) → HasBus w (core_of e)
    → FollowsIf sh (core_of e) w (bus_happens sh p w e)
unfolding bus_exec bus_take
happens-follows sh p w (Exec c) h = phase-follows sh p w c (w.cores c).phase refl h
happens-follows sh p w (Evict c x y) h = evict-follows sh w c (core_evict sh x y (w.cores c))
happens-follows sh p w (Take c) h = take-follows sh w c w.bus refl

-- ---- an event of a run

names-core : (sh : Shape) (e : BusEvent) → bus_names sh e ≡ true → core_of e < sh.cores
unfolding bus_names
names-core sh (Exec c) q = grind (arith, nat_tests)
names-core sh (Evict c x y) q = let here : nat_lt c sh.cores ≡ true = and-left _ _ q in grind (arith, nat_tests)
names-core sh (Take c) q = grind (arith, nat_tests)

pub step-follows : (sh : Shape) (p : Program) (w : BusWorld) (e : BusEvent)
    → (core_of e < sh.cores → HasBus w (core_of e)) → FollowsIf sh (core_of e) w (bus_step sh p w e)
unfolding bus_step
step-follows sh p w e h = go (bus_names sh e) refl (λ q. happens-follows sh p w e (h (names-core sh e q)))
  where
    go : (b : Bool) → bus_names sh e ≡ b → (bus_names sh e ≡ true → FollowsIf sh (core_of e) w (bus_happens sh p w e))
        → FollowsIf sh (core_of e) w (if b then bus_happens sh p w e else None)
    go true q k = k q
    go false q k = tt

next-follows : (sh : Shape) (p : Program) (h k : BusHistory) (e : BusEvent) → bus_next sh p h e ≡ Some k
    → FollowsIf sh (core_of e) h.world (bus_step sh p h.world e) → Follows sh (core_of e) h.world k.world
unfolding bus_next
next-follows sh p h k e n f = go (bus_step sh p h.world e) n f
  where
    go : (o : Option BusStepped) → recorded h o ≡ Some k → FollowsIf sh (core_of e) h.world o → Follows sh (core_of e) h.world k.world
    go None q f = absurd (cc)
    go (Some o) q f =
        let i : BusHistory = record { world = o.world; commits = and_noted o.noted h.commits } in
        let same : i ≡ k = cc in
        subst (λ (j : BusHistory). Follows sh (core_of e) h.world j.world) same f

pub events-follow : EventsFollow
events-follow s es h k e allowed run next =
    next-follows s.settings (program s) h k e next
    (step-follows s.settings (program s) h.world e (λ here t q. (bounded.solo (core_of e) t here q).0))
  where
    at : (o : Option BusHistory) → o ≡ Some h → IfSome o (IsBusBounded s.settings (length es)) → IsBusBounded s.settings (length es) h
    at None q b = absurd (cc)
    at (Some g) q b = let same : g ≡ h = cc in subst (IsBusBounded s.settings (length es)) same b

    bounded : IsBusBounded s.settings (length es) h
    bounded = at (bus_run s.settings (program s) (bus_at_start s).world es) run (riscv_bus_runs_are_bounded s es allowed)

-- the core that an event names exists
pub acts-there : (sh : Shape) (p : Program) (h k : BusHistory) (e : BusEvent) → bus_next sh p h e ≡ Some k → core_of e < sh.cores
unfolding bus_next bus_step
acts-there sh p h k e n = go (bus_names sh e) refl n
  where
    go : (b : Bool) → bus_names sh e ≡ b → recorded h (if b then bus_happens sh p h.world e else None) ≡ Some k → core_of e < sh.cores
    go true q r = names-core sh e q
    go false q r = absurd (cc)
