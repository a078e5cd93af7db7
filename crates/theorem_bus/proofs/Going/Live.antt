-- No state is stuck: a core takes the packet, or the core that is alone goes on, or any core that hasn't halted does.
use Rattle.std.specs.Prelude.{ℕ, ◌≡◌, ◌<◌, Bool, true, false, ◌==◌, ◌&&◌, ◌||◌, [], length, Option, Some, None, is_some, IfSome, nat_lt}
use Rattle.std.specs.Prelude.{unwrap_or, if◌then◌else◌}
use Rattle.std.proofs.Common.{arith, refl, ap, sym, inl, inr, ◌∙◌, ◌⊎◌}
use Rattle.std.proofs.lemmas.Bool.Decides.{nat_tests}
use Rattle.tcc_base.specs.declared.access.Size.TheVariants.{Byte, Half, Word}
use Rattle.rules_maps.specs.Cache.{free_way}
use Rattle.rules_maps.specs.Shape.{Shape, set_of}
use Rattle.rules_maps.specs.Words.{line_of}
use Rattle.rules_maps.proofs.Lemmas.{any_below-found}
use Rattle.rules_program.specs.Program.{Need, Nothing, Loads, Stores, Changes, Prints, Ends, Halts, Traps, Program}
use Rattle.rules_tcc.specs.Attempt.{Out, is_solo}
use Rattle.rules_tcc.specs.CoreEvict.{core_evict}
use Rattle.rules_tcc.specs.CoreExec.{core_exec}
use Rattle.rules_tcc.specs.State.{CoreState, Awaited, Phase, Running, AwaitTid, Overflowing, Solo, Halted}
use Rattle.rules_tcc.specs.Useful.{room_for_line, room_for_word, room_for_need, room_unless_awaiting, room_in_phase, room}
use Rattle.theorem_serial.specs.OneCore.{executes}
use Rattle.theorem_live.proofs.Lemmas.{WantsSome, emptied, exec-or}
use Rattle.rules_bus.specs.Exec.{word_read, line_at_hand, instruction, executed, goes_on, exec_alone, bus_exec_in_phase}
use Rattle.rules_bus.specs.Exec.{bus_exec}
use Rattle.rules_bus.specs.State.{Bus, Free, Alone, Packet, BusWorld, Exec, Evict, Take, bus_start}
use Rattle.rules_bus.specs.Step.{BusHistory, if_evicted, bus_names, bus_step, bus_run}
use Rattle.rules_bus.specs.Take.{bus_take}
use Rattle.rules_bus.specs.Useful.{bus_is_useful, bus_useful, BusIsDone}
use Rattle.theorem_bus.specs.Laws.{HasCaches, BusNeverStuck}
use Rattle.theorem_bus.proofs.InOrder.Bounded.{InOrder, runs-in-order}
use Rattle.theorem_bus.proofs.OneCore.Did.{NeedIn}
use Rattle.theorem_bus.proofs.OneCore.Filled.{Hand, Same, Has, at-hand}
use Rattle.theorem_bus.proofs.OneCore.Fine.{Fine, Ways, Stays, Closes, Overflows, Left, instruction-left}
use Rattle.theorem_bus.proofs.OneCore.Instruction.{Executes, read_by}
use Rattle.theorem_bus.proofs.Going.Listed.{NoneUseful, none-useful}
use Rattle.theorem_bus.proofs.InOrder.Ordered.{PacketFits, PhaseFits, BusFits, Ordered}

-- every line
abbrev pub any_line : ℕ → Type 0
any_line l = Unit {0}

pub need-any : (base : ℕ) (n : Need) → NeedIn any_line base n
need-any base (Loads addr size) = tt
need-any base (Stores addr size value) = tt
need-any base (Changes addr changed) = tt
need-any base _ = tt

-- a core that has a frame for the line of the word that it reads wants no room
or-some : (a b : Bool) (r : Option ℕ) → b ≡ true → (if a then None else if b then None else r) ≡ None
or-some true b r e = refl
or-some false true r e = refl
or-some false false r e = absurd (cc)

framed-room : (sh : Shape) (w : ℕ) (s : CoreState)
    → (s.cache.held (line_of w) || is_some (free_way sh s.cache (set_of sh (line_of w)))) ≡ true → room_for_word sh w s ≡ None
unfolding room_for_word room_for_line
framed-room sh w s f = or-some (is_some (s.spilled w) || is_some (s.cache.value w)) _ _ f

same-some : (v w : ℕ) → Some v ≡ Some w → v ≡ w
same-some v w e = ap (λ (o : Option ℕ). unwrap_or o 0) e

reading-room : (sh : Shape) (n : Need) (w : ℕ) (s : CoreState) → word_read sh.base n ≡ Some w
    → (s.cache.held (line_of w) || is_some (free_way sh s.cache (set_of sh (line_of w)))) ≡ true → room_for_need sh s n ≡ None
reading-room sh (Loads addr size) w s e f = rw (same-some _ w e) (framed-room sh w s f)
reading-room sh (Stores addr Word x) w s e f = absurd (cc)
reading-room sh (Stores addr Half x) w s e f = rw (same-some _ w e) (framed-room sh w s f)
reading-room sh (Stores addr Byte x) w s e f = rw (same-some _ w e) (framed-room sh w s f)
reading-room sh (Changes addr g) w s e f = rw (same-some _ w e) (framed-room sh w s f)
reading-room sh _ w s e f = absurd (cc)

no-room : (sh : Shape) (p : Program) (s : CoreState) → s.awaited ≡ None → room_for_need sh s (p.need s.local) ≡ None → room sh p s ≡ None
unfolding room
no-room sh p s a e = go s.phase
  where
    at : (o : Option Awaited) → room_unless_awaiting sh p s o ≡ None
    at (Some x) = refl
    at None = e

    go : (q : Phase) → room_in_phase sh p s q ≡ None
    go Running = at s.awaited
    go (Solo t) = at s.awaited
    go _ = refl

-- a core that executes and wants no room can execute
never-waits : (sh : Shape) (p : Program) (c : ℕ) (s : CoreState) → executes s.phase ≡ true → s.awaited ≡ None
    → room_for_need sh s (p.need s.local) ≡ None → is_some (core_exec sh p c s) ≡ true
never-waits sh p c s x a r = by (no-room sh p s a r) (exec-or sh p c s x a)
  where
    by : room sh p s ≡ None → (is_some (core_exec sh p c s) ≡ true) ⊎ WantsSome sh s (room sh p s) → is_some (core_exec sh p c s) ≡ true
    by e (inl i) = i
    by e (inr m) = absurd (let j = m.wants.room in cc)

-- it can be executed exactly where the core by itself executes
pub instruction-enabled : (sh : Shape) (p : Program) (ram : ℕ → ℕ) (c : ℕ) (s : CoreState) → s.awaited ≡ None
    → executes s.phase ≡ true → is_some (instruction sh p ram c s) ≡ is_some (core_exec sh p c s)
unfolding instruction line_at_hand
instruction-enabled sh p ram c s a q = go (at-hand sh ram s (read_by sh p s))
  where
    t : CoreState
    t = line_at_hand sh p ram s

    go : Hand sh s t (read_by sh p s) → is_some (core_exec sh p c t) ≡ is_some (core_exec sh p c s)
    go (Same e h) = ap (λ u. is_some (core_exec sh p c u)) e
    go (Has w r n f v h) =
        never-waits sh p c t q a (reading-room sh (p.need s.local) w t r (rw h refl))
        ∙ sym (never-waits sh p c s q a (reading-room sh (p.need s.local) w s r f))

-- an instruction, or room in a set
instruction-or : (sh : Shape) (n : ℕ) (p : Program) (ram : ℕ → ℕ) (c : ℕ) (s : CoreState) → Fine sh any_line n s
    → executes s.phase ≡ true → (is_some (instruction sh p ram c s) ≡ true) ⊎ WantsSome sh s (room sh p s)
instruction-or sh n p ram c s k q = by (exec-or sh p c s q k.awaited)
  where
    by : (is_some (core_exec sh p c s) ≡ true) ⊎ WantsSome sh s (room sh p s)
        → (is_some (instruction sh p ram c s) ≡ true) ⊎ WantsSome sh s (room sh p s)
    by (inl i) = inl (instruction-enabled sh p ram c s k.awaited q ∙ i)
    by (inr m) = inr m

-- with the bus free, or as the core that has it, an instruction is one event
goes-on : (sh : Shape) (n : ℕ) (p : Program) (w : BusWorld) (c : ℕ) → Fine sh any_line n (w.cores c) → Executes p (w.cores c)
    → (w.bus ≡ Free) ⊎ (is_solo (w.cores c).phase ≡ true) → is_some (instruction sh p w.ram c (w.cores c)) ≡ true
    → PhaseFits w.next w.bus c (w.cores c).phase
    → is_some (goes_on w c (instruction sh p w.ram c (w.cores c))) ≡ true
goes-on sh n p w c k x b i f = go (instruction sh p w.ram c (w.cores c)) i
    (instruction-left sh any_line n p w.ram c (w.cores c) (need-any sh.base (p.need (w.cores c).local)) k x)
  where
    not-full : (o : Out) → Left sh any_line n (w.cores c) o → is_solo (w.cores c).phase ≡ true → Ways (w.cores c) o.core
        → (t : Option ℕ) → o.core.phase ≡ Overflowing t → ⊥
    not-full o l s (Stays e) t q = no (w.cores c).phase f (sym e ∙ q)
      where
        no : (q : Phase) → PhaseFits w.next w.bus c q → q ≡ Overflowing t → ⊥
        no (Overflowing u) k e = k
        no q k e = absurd (cc)
    not-full o l s (Closes r e) t q = absurd (cc)
    not-full o l s (Overflows m e) t q = absurd (cc)

    by : (o : Out) → Left sh any_line n (w.cores c) o → (q : Phase) → o.core.phase ≡ q → is_some (executed w c o q) ≡ true
    by o l (Overflowing t) q = free b
      where
        free : (w.bus ≡ Free) ⊎ (is_solo (w.cores c).phase ≡ true) → is_some (executed w c o (Overflowing t)) ≡ true
        free (inl e) = rw e refl
        free (inr s) = absurd (not-full o l s l.ways t q)
    by o l _ q = refl

    go : (y : Option Out) → is_some y ≡ true → IfSome y (Left sh any_line n (w.cores c)) → is_some (goes_on w c y) ≡ true
    go None i l = absurd (cc)
    go (Some o) i l = by o l o.core.phase refl

-- a core that runs with the bus free, or is alone: it executes, or wants room
exec-some : (sh : Shape) (n : ℕ) (p : Program) (w : BusWorld) (c : ℕ) → Fine sh any_line n (w.cores c)
    → PhaseFits w.next w.bus c (w.cores c).phase → ((w.cores c).phase ≡ Running) ⊎ (is_solo (w.cores c).phase ≡ true)
    → (w.bus ≡ Free) ⊎ (is_solo (w.cores c).phase ≡ true)
    → (is_some (bus_exec sh p w c) ≡ true) ⊎ WantsSome sh (w.cores c) (room sh p (w.cores c))
unfolding bus_exec
exec-some sh n p w c k f r b = go s.phase refl r
  where
    s : CoreState
    s = w.cores c

    either : Executes p s → executes s.phase ≡ true
        → (is_some (goes_on w c (instruction sh p w.ram c s)) ≡ true) ⊎ WantsSome sh s (room sh p s)
    either x q = by (instruction-or sh n p w.ram c s k q)
      where
        by : (is_some (instruction sh p w.ram c s) ≡ true) ⊎ WantsSome sh s (room sh p s)
            → (is_some (goes_on w c (instruction sh p w.ram c s)) ≡ true) ⊎ WantsSome sh s (room sh p s)
        by (inl i) = inl (goes-on sh n p w c k x b i f)
        by (inr m) = inr m

    alone : (t : ℕ) → s.phase ≡ Solo t → (m : Need) → p.need s.local ≡ m
        → (is_some (exec_alone sh p w c s m) ≡ true) ⊎ WantsSome sh s (room sh p s)
    alone t e Ends g = inl refl
    alone t e (Halts code) g = inl refl
    alone t e (Traps code) g = inl refl
    alone t e Nothing g = either (inr (rw (e, g) refl)) (rw e refl)
    alone t e (Loads addr size) g = either (inr (rw (e, g) refl)) (rw e refl)
    alone t e (Stores addr size x) g = either (inr (rw (e, g) refl)) (rw e refl)
    alone t e (Changes addr h) g = either (inr (rw (e, g) refl)) (rw e refl)
    alone t e (Prints byte) g = either (inr (rw (e, g) refl)) (rw e refl)

    go : (q : Phase) → s.phase ≡ q → (q ≡ Running) ⊎ (is_solo q ≡ true)
        → (is_some (bus_exec_in_phase sh p w c s q) ≡ true) ⊎ WantsSome sh s (room sh p s)
    go Running e x = either (inl e) (rw e refl)
    go (Solo t) e x = alone t e (p.need s.local) refl
    go q e (inl x) = absurd (cc)
    go q e (inr x) = absurd (cc)

-- useful events

exec-useful : (sh : Shape) (p : Program) (w : BusWorld) (c : ℕ) → c < sh.cores → is_some (bus_exec sh p w c) ≡ true
    → bus_is_useful sh p w (Exec c) ≡ true
unfolding bus_is_useful bus_step bus_names
exec-useful sh p w c l e = let q : nat_lt c sh.cores ≡ true = grind (arith, nat_tests) in rw (q, e) refl

take-useful : (sh : Shape) (p : Program) (w : BusWorld) (c : ℕ) → c < sh.cores → is_some (bus_take sh w c) ≡ true
    → bus_is_useful sh p w (Take c) ≡ true
unfolding bus_is_useful bus_step bus_names
take-useful sh p w c l e = let q : nat_lt c sh.cores ≡ true = grind (arith, nat_tests) in rw (q, e) refl

evict-useful : (sh : Shape) (p : Program) (w : BusWorld) (c x y : ℕ) → c < sh.cores → x < sh.sets → y < sh.ways
    → is_some (core_evict sh x y (w.cores c)) ≡ true → room sh p (w.cores c) ≡ Some x → bus_is_useful sh p w (Evict c x y) ≡ true
unfolding bus_is_useful bus_step bus_names
evict-useful sh p w c x y l i j e r =
    let q : (nat_lt c sh.cores && (nat_lt x sh.sets && nat_lt y sh.ways)) ≡ true = grind (arith, nat_tests) in
    rw (q, r) (go (core_evict sh x y (w.cores c)) e)
  where
    go : (o : Option Out) → is_some o ≡ true → (is_some (if_evicted w c o) && (x == x)) ≡ true
    go None e = absurd (cc)
    go (Some o) e = grind (arith, nat_tests)

-- a core that executes has a useful event
moves : (sh : Shape) (n : ℕ) (p : Program) (w : BusWorld) (c : ℕ) → HasCaches sh → c < sh.cores → NoneUseful sh p w
    → Fine sh any_line n (w.cores c) → PhaseFits w.next w.bus c (w.cores c).phase
    → ((w.cores c).phase ≡ Running) ⊎ (is_solo (w.cores c).phase ≡ true) → (w.bus ≡ Free) ⊎ (is_solo (w.cores c).phase ≡ true) → ⊥
moves sh n p w c h l u k f r b = go (exec-some sh n p w c k f r b)
  where
    go : (is_some (bus_exec sh p w c) ≡ true) ⊎ WantsSome sh (w.cores c) (room sh p (w.cores c)) → ⊥
    go (inl e) = let i = exec-useful sh p w c l e in let j = u.execs c l in absurd (cc)
    go (inr m) =
        let e = emptied sh m.line (w.cores c) (room sh p (w.cores c)) (h.1) k.awaited m.wants in
        let s = h.0 in
        let x : set_of sh m.line < sh.sets = omega arith in
        let i = evict-useful sh p w c (set_of sh m.line) e.way l x e.below e.evicts m.wants.room in
        let j = u.evicts c (set_of sh m.line) e.way l x e.below in
        absurd (cc)

-- what isn't stuck

free-halts : (sh : Shape) (n : ℕ) (p : Program) (w : BusWorld) → HasCaches sh → Ordered sh any_line n w → NoneUseful sh p w → w.bus ≡ Free
    → (c : ℕ) → c < sh.cores → (w.cores c).phase ≡ Halted
unfolding bus_exec
free-halts sh n p w h k u b c l = go (w.cores c).phase refl (k.phases c l)
  where
    ends : (w.cores c).phase ≡ AwaitTid → is_some (bus_exec sh p w c) ≡ true
    ends e = rw (e, b) refl

    go : (q : Phase) → (w.cores c).phase ≡ q → PhaseFits w.next w.bus c q → q ≡ Halted
    go Halted e f = refl
    go Running e f = absurd (moves sh n p w c h l u (k.cores c l) (k.phases c l) (inl e) (inl b))
    go AwaitTid e f = absurd (let i = exec-useful sh p w c l (ends e) in let j = u.execs c l in cc)
    go (Solo t) e f = absurd (let i = f.0 in cc)
    go _ e f = absurd f

packet-goes : (sh : Shape) (p : Program) (w : BusWorld) (f : ℕ → Option ℕ) (left : ℕ → Bool) → NoneUseful sh p w
    → w.bus ≡ Packet f left → PacketFits sh any_line f left → ⊥
unfolding bus_take
packet-goes sh p w f left u b k =
    let a = any_below-found left sh.cores k.some in
    let e : is_some (bus_take sh w a.0) ≡ true = (let q = a.2 in rw (b, q) refl) in
    let i = take-useful sh p w a.0 (a.1) e in
    let j = u.takes a.0 (a.1) in
    absurd (cc)

not-stuck : (sh : Shape) (n : ℕ) (p : Program) (h : BusHistory) → HasCaches sh → InOrder sh any_line n h
    → bus_useful sh p h.world ≡ [] → BusIsDone sh h.world
not-stuck sh n p h s k e = go h.world.bus refl
  where
    w : BusWorld
    w = h.world

    o : Ordered sh any_line n w
    o = k.world

    u : NoneUseful sh p w
    u = none-useful sh p w e

    go : (b : Bus) → w.bus ≡ b → BusIsDone sh w
    go Free q = record { halted = free-halts sh n p w s o u q; quiet = rw q refl }
    go (Alone c) q = absurd (
        let a : BusFits sh any_line w.cores w.next (Alone c) = rw q at o.bus in
        let r : is_solo (w.cores c).phase ≡ true = rw (a.1) refl in
        moves sh n p w c s (a.0) u (o.cores c (a.0)) (o.phases c (a.0)) (inr r) (inr r))
    go (Packet f left) q = absurd (packet-goes sh p w f left u q (rw q at o.bus))

pub bus_never_stuck : BusNeverStuck
bus_never_stuck sh p entries ram es s = go (bus_run sh p (bus_start entries ram) es)
    (runs-in-order sh any_line p entries ram es (λ l. need-any sh.base (p.need l)))
  where
    go : (o : Option BusHistory) → IfSome o (InOrder sh any_line (length es))
        → IfSome o (λ h. bus_useful sh p h.world ≡ [] → BusIsDone sh h.world)
    go None k = tt
    go (Some h) k = λ e. not-stuck sh (length es) p h s k e
