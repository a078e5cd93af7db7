-- Which events of a machine are enabled, from what its cores may do by themselves, and the three parts of its useful events.
use Rattle.std.proofs.Common.{◌≡◌, ℕ, ◌<◌, ◌≤◌, Bool, true, false, not, ◌&&◌, ◌||◌, ◌++◌, map, Option, Some, None, is_some}
use Rattle.std.proofs.Common.{refl, ap, sym, ◌∙◌, inl, inr, arith, if◌then◌else◌}
use Rattle.std.specs.Prelude.{IfSome, nat_lt}
use Rattle.std.specs.List.{flat_map}
use Rattle.std.proofs.lemmas.Bool.{lt-ltb}
use Rattle.std.proofs.lemmas.Bool.Decides.{nat_tests}
use Rattle.base_lemmas.proofs.Lemmas.{and-true, map-map, or-false, or-true, power-positive}
use Rattle.rules_maps.specs.Shape.{Shape}
use Rattle.rules_program.specs.Program.{Need, Nothing, Loads, Stores, Changes, Prints, Ends, Halts, Traps, Program}
use Rattle.rules_tcc.specs.Attempt.{Out, is_solo}
use Rattle.rules_tcc.specs.CoreEvict.{core_evict}
use Rattle.rules_tcc.specs.CoreExec.{core_exec}
use Rattle.rules_tcc.specs.Execute.{execute}
use Rattle.rules_tcc.specs.Seen.{numbers}
use Rattle.rules_tcc.specs.State.{CoreState, Phase, Running, AwaitTid, DoomedTid, Probing, Ready, Overflowing, Solo, Halted}
use Rattle.rules_tcc.specs.Useful.{room}
use Rattle.machine_cores.specs.Bank.{cores_of}
use Rattle.core_node.specs.AtHand.{goes_alone}
use Rattle.commit_engine.specs.Engine.{overflows}
use Rattle.rules_bus.specs.Commit.{BusStepped}
use Rattle.rules_bus.specs.Exec.{bus_exec, exec_alone, executed, goes_on, when_free}
use Rattle.rules_bus.specs.State.{Bus, BusWorld, Exec, Evict, Take, Free, Alone, Packet}
use Rattle.rules_bus.specs.Step.{bus_names, bus_step}
use Rattle.rules_bus.specs.Take.{bus_take, take_from}
use Rattle.theorem_bus.proofs.Lemmas.{alone-stays, evicts_in, flat-same, goes, instruction-some, one_if, useful-by_core, evicted-some}
use Rattle.bus_tcc.specs.Answers.{bus_step_of}
use Rattle.bus_tcc.specs.Chosen.{bus_useful_of}
use Rattle.bus_tcc.specs.Left.{is_left}
use Rattle.bus_tcc.specs.Machine.{BusMachine, bus_of, bus_program_of, bus_settings_of, bus_world_of, is_free, word_in}
use Rattle.bus_tcc.specs.Parts.{evicts_of, execs_of, takes_of}
use Rattle.bus_tcc.specs.Uses.{may_exec, may_exec_in, room_ways, ways_in}
use Rattle.bus_tcc.specs.Whole.{IsBusWhole}
use Rattle.bus_tcc.proofs.Bounds.{core-bounded}
use Rattle.bus_tcc.proofs.Events.{bank_in, evict-step}
use Rattle.bus_tcc.proofs.Instructions.{instruction-alone, instruction_of}
use Rattle.bus_tcc.proofs.Numbers.{ones-flat}
use Rattle.bus_tcc.proofs.Published.{exec-step}
use Rattle.bus_tcc.proofs.Using.{at-phase}

-- ---- an execution

some-free : {A : Type 0} (b : Bus) (x : A) → is_some (when_free b x) ≡ is_free b
some-free Free x = refl
some-free (Alone c) x = refl
some-free (Packet f left) x = refl

executed-some : (w : BusWorld) (c : ℕ) (o : Out) (q : Phase) → is_some (executed w c o q) ≡ (is_free w.bus || not (overflows q))
executed-some w c o (Overflowing t) = some-free w.bus _ ∙ sym (or-false (is_free w.bus))
executed-some w c o Running = sym (or-true (is_free w.bus))
executed-some w c o AwaitTid = sym (or-true (is_free w.bus))
executed-some w c o DoomedTid = sym (or-true (is_free w.bus))
executed-some w c o (Probing t) = sym (or-true (is_free w.bus))
executed-some w c o (Ready t) = sym (or-true (is_free w.bus))
executed-some w c o (Solo t) = sym (or-true (is_free w.bus))
executed-some w c o Halted = sym (or-true (is_free w.bus))

goes-on-some : (w : BusWorld) (c : ℕ) (o : Option Out) → is_some (goes_on w c o) ≡ (is_some o && (is_free w.bus || not (goes_alone o)))
goes-on-some w c None = refl
goes-on-some w c (Some o) = executed-some w c o o.core.phase

-- what a core does in this machine, and may do by itself
abbrev state_of : BusMachine → ℕ → CoreState
state_of m c = cores_of (bank_in m) c

abbrev may_of : BusMachine → ℕ → Phase → Bool
may_of m c q = may_exec_in (bus_settings_of m) (bus_program_of m) (is_free (bus_of m.bus)) c (state_of m c) q

running-some : (m : BusMachine) (c : ℕ) → IsBusWhole m → c < (bus_settings_of m).cores → (state_of m c).phase ≡ Running
    → is_some (bus_step_of m (Exec c)) ≡ may_of m c Running
unfolding bus_world_of
running-some m c w l e =
    let s = state_of m c in
    let k = core-bounded m w c l in
    ap is_some (exec-step m c Running l e) ∙ goes-on-some (bus_world_of m) c (instruction_of m c)
    ∙ (λ i. instruction-some (bus_settings_of m) m.events (bus_program_of m) (word_in m.ram) c s k (inl e) (rw e refl) i
    && (is_free (bus_of m.bus) || not (instruction-alone (bus_settings_of m) (bus_program_of m) m.ram c s (rw e refl) k.awaited i)))

-- one that ends a transaction is always executed
ending-some : (sh : Shape) (p : Program) (c t : ℕ) (s : CoreState) (n : Need) → s.phase ≡ Solo t → s.awaited ≡ None → p.need s.local ≡ n
    → (n ≡ Ends → is_some (core_exec sh p c s) ≡ true)
    × ((code : ℕ) → (n ≡ Halts code → is_some (core_exec sh p c s) ≡ true) × (n ≡ Traps code → is_some (core_exec sh p c s) ≡ true))
unfolding core_exec execute
ending-some sh p c t s n e a q = (
  λ i. rw (e, a, q ∙ i) refl,
  λ code. (λ i. rw (e, a, q ∙ i) refl, λ i. rw (e, a, q ∙ i) refl),
)

not-alone : (t : ℕ) (o : Option Out) → IfSome o (λ x. x.core.phase ≡ Solo t) → goes_alone o ≡ false
not-alone t None h = refl
not-alone t (Some o) h = ap overflows h

alone-some : (m : BusMachine) (c t : ℕ) → IsBusWhole m → c < (bus_settings_of m).cores → (state_of m c).phase ≡ Solo t
    → is_some (bus_step_of m (Exec c)) ≡ may_of m c (Solo t)
unfolding bus_world_of
alone-some m c t w l e = ap is_some (exec-step m c (Solo t) l e) ∙ by (p.need s.local) refl
  where
    sh : Shape
    sh = bus_settings_of m

    p : Program
    p = bus_program_of m

    s : CoreState
    s = state_of m c

    going : (is_solo s.phase && goes (p.need s.local)) ≡ true
        → is_some (goes_on (bus_world_of m) c (instruction_of m c)) ≡ is_some (core_exec sh p c s)
    going g =
        let k = core-bounded m w c l in
        let stays = not-alone t (instruction_of m c) (alone-stays sh m.events p (word_in m.ram) c t s k (inr g) e) in
        goes-on-some (bus_world_of m) c (instruction_of m c)
        ∙ (λ i. instruction-some sh m.events p (word_in m.ram) c s k (inr g) (rw e refl) i
        && (is_free (bus_of m.bus) || not (stays i)))
        ∙ ap (λ b. is_some (core_exec sh p c s) && b) (or-true (is_free (bus_of m.bus))) ∙ and-true (is_some (core_exec sh p c s))

    ends : (n : Need) → p.need s.local ≡ n
        → (n ≡ Ends → is_some (core_exec sh p c s) ≡ true)
        × ((code : ℕ) → (n ≡ Halts code → is_some (core_exec sh p c s) ≡ true) × (n ≡ Traps code → is_some (core_exec sh p c s) ≡ true))
    ends n q = ending-some sh p c t s n e (core-bounded m w c l).awaited q

    by : (n : Need) → p.need s.local ≡ n → is_some (exec_alone sh p (bus_world_of m) c s n) ≡ is_some (core_exec sh p c s)
    by Ends q = sym ((ends Ends q).0 refl)
    by (Halts code) q = sym (((ends (Halts code) q).1 code).0 refl)
    by (Traps code) q = sym (((ends (Traps code) q).1 code).1 refl)
    by Nothing q = going (rw (e, q) refl)
    by (Loads addr size) q = going (rw (e, q) refl)
    by (Stores addr size x) q = going (rw (e, q) refl)
    by (Changes addr f) q = going (rw (e, q) refl)
    by (Prints byte) q = going (rw (e, q) refl)

pub exec-enabled : (m : BusMachine) (c : ℕ) → IsBusWhole m → c < (bus_settings_of m).cores → is_some (bus_step_of m (Exec c))
    ≡ may_exec (bus_settings_of m) (bus_program_of m) (is_free (bus_world_of m).bus) c ((bus_world_of m).cores c)
unfolding bus_world_of
exec-enabled m c w l = by (state_of m c).phase refl ∙ at-phase _ _ _ _ _ (state_of m c).phase refl
  where
    by : (q : Phase) → (state_of m c).phase ≡ q → is_some (bus_step_of m (Exec c)) ≡ may_of m c q
    by Running e = running-some m c w l e
    by (Solo t) e = alone-some m c t w l e
    by AwaitTid e = ap is_some (exec-step m c AwaitTid l e) ∙ some-free (bus_of m.bus) _
    by DoomedTid e = ap is_some (exec-step m c DoomedTid l e)
    by (Probing t) e = ap is_some (exec-step m c (Probing t) l e)
    by (Ready t) e = ap is_some (exec-step m c (Ready t) l e)
    by (Overflowing t) e = ap is_some (exec-step m c (Overflowing t) l e)
    by Halted e = ap is_some (exec-step m c Halted l e)

-- ---- the other events

pub evict-enabled : (m : BusMachine) (c x y : ℕ)
    → (c < (bus_settings_of m).cores) × (x < (bus_settings_of m).sets) × (y < (bus_settings_of m).ways)
    → is_some (bus_step_of m (Evict c x y)) ≡ is_some (core_evict (bus_settings_of m) x y (cores_of (bank_in m) c))
evict-enabled m c x y h =
    ap is_some (evict-step m (bus_settings_of m) c x y refl h) ∙ evicted-some (bus_world_of m) c _

taken-some : (sh : Shape) (w : BusWorld) (c : ℕ) (b : Bus) → is_some (take_from sh w c b) ≡ is_left b c
taken-some sh w c Free = refl
taken-some sh w c (Alone d) = refl
taken-some sh w c (Packet f left) = by (left c) _
  where
    by : (b : Bool) (o : BusStepped) → is_some (if b then Some o else None) ≡ b
    by true o = refl
    by false o = refl

take-some : (m : BusMachine) (c : ℕ) → is_some (bus_take (bus_settings_of m) (bus_world_of m) c) ≡ is_left (bus_world_of m).bus c
unfolding bus_take
take-some m c = taken-some (bus_settings_of m) (bus_world_of m) c (bus_world_of m).bus

pub take-enabled : (m : BusMachine) (c : ℕ) → c < (bus_settings_of m).cores
    → is_some (bus_step_of m (Take c)) ≡ is_left (bus_world_of m).bus c
unfolding bus_step bus_names
take-enabled m c l = rw (lt-ltb c (bus_settings_of m).cores l) (take-some m c)

pub no-exec : (m : BusMachine) (c n : ℕ) → n ≡ (bus_settings_of m).cores → n ≤ c → bus_step_of m (Exec c) ≡ None
unfolding bus_step bus_names
no-exec m c n e l = by (nat_lt c m.code.settings.cores) refl _
  where
    by : (b : Bool) → nat_lt c m.code.settings.cores ≡ b → (o : Option BusStepped) → (if b then o else None) ≡ None
    by true q o = let k : c < m.code.settings.cores = grind (arith, nat_tests) in absurd (omega (arith, k, e, l))
    by false q o = refl

-- ---- the useful events

exec-of : (m : BusMachine) (c : ℕ) → c < (bus_settings_of m).cores
    → bus_step_of m (Exec c) ≡ bus_exec (bus_settings_of m) (bus_program_of m) (bus_world_of m) c
unfolding bus_step bus_names
exec-of m c l = rw (lt-ltb c (bus_settings_of m).cores l) refl

same-ways : (sh : Shape) (s : CoreState) (c : ℕ) (o : Option ℕ) → evicts_in sh s c o ≡ map (λ q. Evict c q.0 q.1) (ways_in sh s o)
same-ways sh s c None = refl
same-ways sh s c (Some x) = sym (map-map (λ q. Evict c q.0 q.1) (λ y. (x, y)) _)

pub useful-parts : (m : BusMachine) → IsBusWhole m → bus_useful_of m ≡ execs_of m ++ (evicts_of m ++ takes_of m)
unfolding execs_of evicts_of takes_of room_ways
useful-parts m w =
    let sh = bus_settings_of m in
    let v = bus_world_of m in
    let n = numbers sh.cores in
    useful-by_core sh (bus_program_of m) v (power-positive (bus_settings_of m).sets w.allowed.2.0)
    ∙ ap (λ es. es ++ (flat_map (λ c. evicts_in sh (v.cores c) c (room sh (bus_program_of m) (v.cores c))) n
    ++ flat_map (λ c. one_if (is_some (bus_take sh v c)) (Take c)) n))
    (flat-same _ (λ c. one_if (may_exec sh (bus_program_of m) (is_free v.bus) c (v.cores c)) (Exec c)) sh.cores
    (λ c l. ap (λ b. one_if b (Exec c)) (ap is_some (sym (exec-of m c l)) ∙ exec-enabled m c w l)))
    ∙ ap (λ es. execs_of m ++ (es ++ flat_map (λ c. one_if (is_some (bus_take sh v c)) (Take c)) n))
    (flat-same _ (λ c. map (λ q. Evict c q.0 q.1) (room_ways sh (bus_program_of m) (v.cores c))) sh.cores
    (λ c l. same-ways sh (v.cores c) c (room sh (bus_program_of m) (v.cores c))))
    ∙ ap (λ es. execs_of m ++ (evicts_of m ++ es))
    (flat-same _ (λ c. one_if (is_left v.bus c) (Take c)) sh.cores (λ c l. ap (λ b. one_if b (Take c)) (take-some m c))
    ∙ ones-flat (is_left v.bus) Take n)
