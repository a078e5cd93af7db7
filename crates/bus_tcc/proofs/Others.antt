-- An event changes no core but the one that it names.
use Rattle.std.proofs.Common.{◌≡◌, ◌≢◌, ℕ, ◌<◌, Bool, true, false, not, Option, Some, None, Result, Ok, Err, refl, ap, sym, ◌∙◌, subst}
use Rattle.std.proofs.Common.{arith}
use Rattle.std.specs.Prelude.{IfSome, ◌&&◌, ◌||◌, if◌then◌else◌, nat_lt}
use Rattle.std.proofs.lemmas.Bool.{ne_eqb}
use Rattle.std.proofs.lemmas.Bool.Decides.{nat_tests}
use Rattle.image_load.specs.Contents.{started}
use Rattle.rv_code.specs.Machine.{program}
use Rattle.tcc_base.specs.Put.{put}
use Rattle.rules_maps.specs.Shape.{Shape}
use Rattle.rules_program.specs.Program.{Need, Nothing, Loads, Stores, Changes, Prints, Ends, Halts, Traps, Program}
use Rattle.rules_tcc.specs.Attempt.{Out}
use Rattle.rules_tcc.specs.CoreEvict.{core_evict}
use Rattle.rules_tcc.specs.State.{CoreState, Phase, Running, AwaitTid, DoomedTid, Probing, Ready, Overflowing, Solo, Halted}
use Rattle.rules_bus.specs.Commit.{BusStepped, bus_commit}
use Rattle.rules_bus.specs.Exec.{bus_exec, exec_alone, bus_exec_in_phase, executed, goes_on, instruction, when_free}
use Rattle.rules_bus.specs.State.{Bus, BusEvent, BusWorld, Exec, Evict, Take, Free, Alone, Packet}
use Rattle.rules_bus.specs.Step.{BusHistory, bus_happens, bus_names, bus_next, bus_step, if_evicted, recorded}
use Rattle.rules_bus.specs.Take.{bus_take, take_from}
use Rattle.bus_tcc.specs.Answers.{Answers, Kept}
use Rattle.bus_tcc.specs.Machine.{BusMachine, bus_history_of, bus_program_of, bus_settings_of, bus_world_of, is_free}
use Rattle.bus_tcc.specs.Parts.{CountedBut, CountedIn, core_named}
use Rattle.bus_tcc.specs.Uses.{AreCountedBut, counts_taken}
use Rattle.bus_tcc.specs.declared.counts.Counts.{Counts}
use Rattle.bus_tcc.specs.declared.event.BusError.{BusError}
use Rattle.bus_tcc.specs.declared.event.BusError.TheVariants.{Memory, Refused}
use Rattle.bus_tcc.specs.declared.event.BusStep.{BusStep}
use Rattle.bus_tcc.proofs.Counting.{others-counted}

abbrev Same : BusWorld → (core : ℕ) → (ℕ → CoreState) → Type 0
Same w c cores = (j : ℕ) → j ≢ c → cores j ≡ w.cores j

abbrev Keeps : BusWorld → (core : ℕ) → Option BusStepped → Type 0
Keeps w c o = IfSome o (λ x. Same w c x.world.cores)

put-others : (w : BusWorld) (c : ℕ) (s : CoreState) → Same w c (put w.cores c s)
put-others w c s j m = rw (ne_eqb j c m) refl

free-keeps : (w : BusWorld) (c : ℕ) (b : Bus) (x : BusStepped) → Same w c x.world.cores → Keeps w c (when_free b x)
free-keeps w c Free x h = h
free-keeps w c (Alone d) x h = tt
free-keeps w c (Packet f left) x h = tt

executed-keeps : (w : BusWorld) (c : ℕ) (o : Out) (q : Phase) → Keeps w c (executed w c o q)
executed-keeps w c o (Overflowing t) = free-keeps w c w.bus _ (put-others w c _)
executed-keeps w c o Running = put-others w c o.core
executed-keeps w c o AwaitTid = put-others w c o.core
executed-keeps w c o DoomedTid = put-others w c o.core
executed-keeps w c o (Probing t) = put-others w c o.core
executed-keeps w c o (Ready t) = put-others w c o.core
executed-keeps w c o (Solo t) = put-others w c o.core
executed-keeps w c o Halted = put-others w c o.core

goes-keeps : (w : BusWorld) (c : ℕ) (o : Option Out) → Keeps w c (goes_on w c o)
goes-keeps w c None = tt
goes-keeps w c (Some o) = executed-keeps w c o o.core.phase

commit-keeps : (sh : Shape) (w : BusWorld) (c : ℕ) (s : CoreState) → Same w c (bus_commit sh w c s).world.cores
unfolding bus_commit
commit-keeps sh w c s = put-others w c _

alone-keeps : (sh : Shape) (p : Program) (w : BusWorld) (c : ℕ) (s : CoreState) (n : Need) → Keeps w c (exec_alone sh p w c s n)
alone-keeps sh p w c s Ends = commit-keeps sh w c _
alone-keeps sh p w c s (Halts code) = commit-keeps sh w c _
alone-keeps sh p w c s (Traps code) = commit-keeps sh w c _
alone-keeps sh p w c s Nothing = goes-keeps w c (instruction sh p w.ram c s)
alone-keeps sh p w c s (Loads addr size) = goes-keeps w c (instruction sh p w.ram c s)
alone-keeps sh p w c s (Stores addr size x) = goes-keeps w c (instruction sh p w.ram c s)
alone-keeps sh p w c s (Changes addr f) = goes-keeps w c (instruction sh p w.ram c s)
alone-keeps sh p w c s (Prints byte) = goes-keeps w c (instruction sh p w.ram c s)

exec-keeps : (sh : Shape) (p : Program) (w : BusWorld) (c : ℕ) (s : CoreState) (q : Phase) → Keeps w c (bus_exec_in_phase sh p w c s q)
exec-keeps sh p w c s Running = goes-keeps w c (instruction sh p w.ram c s)
exec-keeps sh p w c s (Solo t) = alone-keeps sh p w c s (p.need s.local)
exec-keeps sh p w c s AwaitTid = free-keeps w c w.bus _ (commit-keeps sh w c s)
exec-keeps sh p w c s DoomedTid = tt
exec-keeps sh p w c s (Probing t) = tt
exec-keeps sh p w c s (Ready t) = tt
exec-keeps sh p w c s (Overflowing t) = tt
exec-keeps sh p w c s Halted = tt

evict-keeps : (w : BusWorld) (c : ℕ) (o : Option Out) → Keeps w c (if_evicted w c o)
evict-keeps w c None = tt
evict-keeps w c (Some o) = put-others w c o.core

take-keeps : (sh : Shape) (w : BusWorld) (c : ℕ) (b : Bus) → Keeps w c (take_from sh w c b)
take-keeps sh w c Free = tt
take-keeps sh w c (Alone d) = tt
take-keeps sh w c (Packet f left) = by (left c) _ (put-others w c _)
  where
    by : (b : Bool) (x : BusStepped) → Same w c x.world.cores → Keeps w c (if b then Some x else None)
    by true x h = h
    by false x h = tt

happens-keeps : (sh : Shape) (p : Program) (w : BusWorld) (e : BusEvent) → Keeps w (core_named e) (bus_happens sh p w e)
unfolding bus_exec bus_take
happens-keeps sh p w (Exec c) = exec-keeps sh p w c (w.cores c) (w.cores c).phase
happens-keeps sh p w (Evict c x y) = evict-keeps w c (core_evict sh x y (w.cores c))
happens-keeps sh p w (Take c) = take-keeps sh w c w.bus

step-keeps : (sh : Shape) (p : Program) (w : BusWorld) (e : BusEvent) → Keeps w (core_named e) (bus_step sh p w e)
unfolding bus_step
step-keeps sh p w e = by (bus_names sh e)
  where
    by : (b : Bool) → Keeps w (core_named e) (if b then bus_happens sh p w e else None)
    by true = happens-keeps sh p w e
    by false = tt

next-keeps : (sh : Shape) (p : Program) (h k : BusHistory) (e : BusEvent) → bus_next sh p h e ≡ Some k
    → Same h.world (core_named e) k.world.cores
unfolding bus_next
next-keeps sh p h k e q = by (bus_step sh p h.world e) (step-keeps sh p h.world e) q
  where
    by : (o : Option BusStepped) → Keeps h.world (core_named e) o → recorded h o ≡ Some k → Same h.world (core_named e) k.world.cores
    by None a r = cc
    by (Some o) a r = λ j m. sym (ap (λ (x : Option BusHistory). cores_in x j) r) ∙ a j m
      where
        cores_in : Option BusHistory → ℕ → CoreState
        cores_in None j = k.world.cores j
        cores_in (Some x) j = x.world.cores j

-- ---- an event that happens names a core of the machine

names-core : (sh : Shape) (e : BusEvent) → bus_names sh e ≡ true → core_named e < sh.cores
unfolding bus_names
names-core sh (Exec c) q = grind (arith, nat_tests)
names-core sh (Take c) q = grind (arith, nat_tests)
names-core sh (Evict c x y) q = by (nat_lt c sh.cores) refl _ q
  where
    by : (b : Bool) → nat_lt c sh.cores ≡ b → (d : Bool) → (b && d) ≡ true → c < sh.cores
    by true r d a = grind (arith, nat_tests)
    by false r d a = cc

next-names : (sh : Shape) (p : Program) (h k : BusHistory) (e : BusEvent) → bus_next sh p h e ≡ Some k → bus_names sh e ≡ true
unfolding bus_next bus_step
next-names sh p h k e q = by (bus_names sh e) q
  where
    by : (b : Bool) → recorded h (if b then bus_happens sh p h.world e else None) ≡ Some k → b ≡ true
    by true r = refl
    by false r = cc

-- where there is another core, executions while the bus isn't free are counted
two-cores : (sh : Shape) (f : Bool) (j c : ℕ) → j < sh.cores → c < sh.cores → j ≢ c → counts_taken sh f ≡ true
two-cores sh f j c l i m = rw (ne_eqb sh.cores 1 (λ q. m (omega (arith, q, l, i)))) (by f)
  where
    by : (b : Bool) → (not b || true) ≡ true
    by true = refl
    by false = refl

-- the machine's code, and its other cores, are as before, and of these no more is counted
pub record Leaves (m n : BusMachine) (core : ℕ) : Type 0 where
  pub code : n.code ≡ m.code
  pub cores : (j : ℕ) → j ≢ core → (bus_world_of n).cores j ≡ (bus_world_of m).cores j
  pub taken : (j : ℕ) → j < (bus_settings_of m).cores → j ≢ core → counts_taken (bus_settings_of m) (is_free (bus_world_of n).bus) ≡ true
      → counts_taken (bus_settings_of m) (is_free (bus_world_of m).bus) ≡ true

kept-leaves : (m n : BusMachine) (c : ℕ) → Kept m n → Leaves m n c
unfolding bus_history_of
kept-leaves m n c k = record {
  code = k.code;
  cores = λ j i. ap (λ h. h.world.cores j) k.history;
  taken = λ j l i e. subst (λ h. counts_taken (bus_settings_of m) (is_free h.world.bus) ≡ true) k.history e;
}

leaves : (m n : BusMachine) (e : BusEvent) (r : Result BusStep BusError) → Answers m n e r → Leaves m n (core_named e)
unfolding bus_history_of
leaves m n e (Ok told) a = record {
  code = a.code;
  cores = next-keeps (bus_settings_of m) (bus_program_of m) (bus_history_of m) (bus_history_of n) e a.next;
  taken = λ j l i q. two-cores (bus_settings_of m) (is_free (bus_world_of m).bus) j (core_named e) l
      (names-core (bus_settings_of m) e
      (next-names (bus_settings_of m) (bus_program_of m) (bus_history_of m) (bus_history_of n) e a.next)) i;
}
leaves m n e (Err Refused) a = kept-leaves m n (core_named e) a.0
leaves m n e (Err Memory) a = kept-leaves m n (core_named e) a.0

-- the counts are right of all cores but the one that the event names
pub still-counted : (m n : BusMachine) (e : BusEvent) (r : Result BusStep BusError) (k : Counts) → Answers m n e r → CountedIn m k
    → CountedBut n (core_named e) k
still-counted m n e r k a h =
    let l = leaves m n e r a in
    subst (λ x. AreCountedBut x.settings (program (started x)) (is_free (bus_world_of n).bus) (core_named e) (bus_world_of n).cores k)
    (sym l.code)
    (others-counted (bus_settings_of m) (bus_program_of m) (is_free (bus_world_of m).bus) (is_free (bus_world_of n).bus)
    (bus_world_of m).cores (bus_world_of n).cores (core_named e) k l.cores l.taken h)
