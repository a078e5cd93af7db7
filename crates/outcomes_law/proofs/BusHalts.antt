-- On the machine with one bus too a core that has halted did so by a halt or a trap.
use Rattle.std.proofs.Common.{ℕ, Bool, true, false, List, [], ◌∷◌, Option, Some, None, IfSome, if◌then◌else◌, refl, arith}
use Rattle.std.proofs.lemmas.Bool.Decides.{nat_tests}
use Rattle.rules_bus.specs.Commit.{BusStepped, all_clean, bus_commit, commit_out}
use Rattle.rules_bus.specs.Exec.{bus_exec, bus_exec_in_phase, exec_alone, executed, goes_on, gone_alone, instruction, line_at_hand}
use Rattle.rules_bus.specs.Exec.{when_free}
use Rattle.rules_bus.specs.State.{Bus, Free, Alone, Packet, BusWorld, BusEvent, Exec, Evict, Take, bus_start}
use Rattle.rules_bus.specs.Step.{BusHistory, and_then, bus_from, bus_happens, bus_names, bus_next, bus_run, bus_step, if_evicted, recorded}
use Rattle.rules_bus.specs.Take.{bus_left, bus_take, packet_invalidated, packet_taken, reads_some, take_from}
use Rattle.rules_maps.specs.Shape.{Shape}
use Rattle.rules_maps.specs.Words.{put}
use Rattle.rules_program.specs.Program.{Local, Need, Ends, Halts, Traps, Program}
use Rattle.rules_tcc.specs.Attempt.{Out, finished, is_solo, roll_back}
use Rattle.rules_tcc.specs.Commit.{commit, solo_commit}
use Rattle.rules_tcc.specs.CoreEvict.{core_evict}
use Rattle.rules_tcc.specs.State.{CoreState, Phase, Running, AwaitTid, Overflowing, Solo, core_start}
use Rattle.outcomes_law.proofs.Halts.{Fits, OutFits, commit-fits, evict-fits, exec-fits, solo-fits}

abbrev pub BusFit : BusWorld → Type 0
BusFit w = (c : ℕ) → Fits (w.cores c)

abbrev StepFit : Option BusStepped → Type 0
StepFit o = IfSome o (λ t. BusFit t.world)

put-fit : (cores : ℕ → CoreState) (c : ℕ) (s : CoreState) → ((j : ℕ) → Fits (cores j)) → Fits s → (j : ℕ) → Fits (put cores c s j)
put-fit cores c s all f j = let there = all j in grind (arith, nat_tests, f, there)

when-free : (b : Bus) (x : BusStepped) → BusFit x.world → StepFit (when_free b x)
when-free Free x f = f
when-free (Alone c) x f = tt
when-free (Packet words left) x f = tt

-- ---- a core executes or commits

clean-fits : (sh : Shape) (c t : ℕ) (s : CoreState) (b : Bool)
    → Fits (all_clean (if b then solo_commit sh c t s else commit sh c t s).core)
unfolding all_clean
clean-fits sh c t s true = solo-fits sh c t s
clean-fits sh c t s false = commit-fits sh c t s

commits-fit : (sh : Shape) (w : BusWorld) (c : ℕ) (s : CoreState) → BusFit w → BusFit (bus_commit sh w c s).world
unfolding bus_commit
commits-fit sh w c s all = put-fit w.cores c (all_clean (commit_out sh c w.next s).core) all (clean-fits sh c w.next s (is_solo s.phase))

executes-fit : (w : BusWorld) (c : ℕ) (o : Out) → BusFit w → Fits o.core → (q : Phase) → StepFit (executed w c o q)
unfolding gone_alone
executes-fit w c o all f (Overflowing t) =
    when-free w.bus (record { world = record w { cores = put w.cores c (gone_alone w.next o.core); bus = Alone c }; noted = None })
    (put-fit w.cores c (gone_alone w.next o.core) all refl)
executes-fit w c o all f _ = put-fit w.cores c o.core all f

goes-fit : (w : BusWorld) (c : ℕ) (o : Option Out) → BusFit w → OutFits o → StepFit (goes_on w c o)
goes-fit w c None all f = tt
goes-fit w c (Some o) all f = executes-fit w c o all f o.core.phase

instructs-fit : (sh : Shape) (p : Program) (w : BusWorld) (c : ℕ) (s : CoreState) → BusFit w
    → StepFit (goes_on w c (instruction sh p w.ram c s))
unfolding instruction
instructs-fit sh p w c s all = goes-fit w c (instruction sh p w.ram c s) all (exec-fits sh p c (line_at_hand sh p w.ram s))

alone-fit : (sh : Shape) (p : Program) (w : BusWorld) (c : ℕ) (s : CoreState) → BusFit w → (need : Need)
    → StepFit (exec_alone sh p w c s need)
alone-fit sh p w c s all Ends = commits-fit sh w c (finished p Ends 0 s) all
alone-fit sh p w c s all (Halts code) = commits-fit sh w c (finished p (Halts code) 0 s) all
alone-fit sh p w c s all (Traps code) = commits-fit sh w c (finished p (Traps code) 0 s) all
alone-fit sh p w c s all _ = instructs-fit sh p w c s all

phase-fit : (sh : Shape) (p : Program) (w : BusWorld) (c : ℕ) (s : CoreState) → BusFit w → (q : Phase)
    → StepFit (bus_exec_in_phase sh p w c s q)
phase-fit sh p w c s all Running = instructs-fit sh p w c s all
phase-fit sh p w c s all (Solo t) = alone-fit sh p w c s all (p.need s.local)
phase-fit sh p w c s all AwaitTid = when-free w.bus (bus_commit sh w c s) (commits-fit sh w c s all)
phase-fit sh p w c s all _ = tt

exec-fit : (sh : Shape) (p : Program) (w : BusWorld) (c : ℕ) → BusFit w → StepFit (bus_exec sh p w c)
unfolding bus_exec
exec-fit sh p w c all = phase-fit sh p w c (w.cores c) all (w.cores c).phase

-- ---- a core evicts, or takes a packet

evicted-fit : (w : BusWorld) (c : ℕ) (o : Option Out) → BusFit w → OutFits o → StepFit (if_evicted w c o)
evicted-fit w c None all f = tt
evicted-fit w c (Some o) all f = put-fit w.cores c o.core all f

taken-fits : (sh : Shape) (f : ℕ → Option ℕ) (s : CoreState) → Fits s → Fits (packet_taken sh f s)
unfolding packet_taken packet_invalidated roll_back
taken-fits sh f s fit = go (reads_some sh f s.cache)
  where
    go : (b : Bool) → Fits (packet_invalidated f (if b then record (roll_back s) { phase = Running } else s))
    go true = refl
    go false = fit

take-fit : (sh : Shape) (w : BusWorld) (c : ℕ) → BusFit w → (b : Bus) → StepFit (take_from sh w c b)
take-fit sh w c all Free = tt
take-fit sh w c all (Alone d) = tt
take-fit sh w c all (Packet f left) = go (left c)
  where
    go : (b : Bool) → StepFit (if b then Some (record {
      world = record w { cores = put w.cores c (packet_taken sh f (w.cores c)); bus = bus_left sh f (put left c false) };
      noted = None;
    }) else None)
    go true = put-fit w.cores c (packet_taken sh f (w.cores c)) all (taken-fits sh f (w.cores c) (all c))
    go false = tt

takes-fit : (sh : Shape) (w : BusWorld) (c : ℕ) → BusFit w → StepFit (bus_take sh w c)
unfolding bus_take
takes-fit sh w c all = take-fit sh w c all w.bus

-- ---- one event, and a run

happens-fit : (sh : Shape) (p : Program) (w : BusWorld) (e : BusEvent) → BusFit w → StepFit (bus_happens sh p w e)
happens-fit sh p w (Exec c) all = exec-fit sh p w c all
happens-fit sh p w (Evict c x y) all = evicted-fit w c (core_evict sh x y (w.cores c)) all (evict-fits sh x y (w.cores c) (all c))
happens-fit sh p w (Take c) all = takes-fit sh w c all

step-fit : (sh : Shape) (p : Program) (w : BusWorld) (e : BusEvent) → BusFit w → StepFit (bus_step sh p w e)
unfolding bus_step
step-fit sh p w e all = go (bus_names sh e)
  where
    go : (b : Bool) → StepFit (if b then bus_happens sh p w e else None)
    go true = happens-fit sh p w e all
    go false = tt

runs-fit : (sh : Shape) (p : Program) (es : List BusEvent) (h : BusHistory) → BusFit h.world
    → IfSome (bus_from sh p es h) (λ g. BusFit g.world)
unfolding bus_from bus_next
runs-fit sh p [] h all = all
runs-fit sh p (e ∷ es) h all = go (bus_step sh p h.world e) (step-fit sh p h.world e all) (runs-fit sh p es)
  where
    go : (o : Option BusStepped) → StepFit o → ((g : BusHistory) → BusFit g.world → IfSome (bus_from sh p es g) (λ r. BusFit r.world))
        → IfSome (and_then (bus_from sh p es) (recorded h o)) (λ r. BusFit r.world)
    go None f rest = tt
    go (Some t) f rest = rest _ f

-- from the start on
pub bus-run-fits : (sh : Shape) (p : Program) (entries : ℕ → Local) (ram : ℕ → ℕ) (es : List BusEvent)
    → IfSome (bus_run sh p (bus_start entries ram) es) (λ h. BusFit h.world)
unfolding bus_run bus_start core_start
bus-run-fits sh p entries ram es = runs-fit sh p es (record { world = bus_start entries ram; commits = [] }) (λ c. refl)
