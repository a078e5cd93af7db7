-- What can happen in one event, with what is known where it does.
use Rattle.std.specs.Prelude.{ℕ, ◌≡◌, ◌<◌, Bool, true, false, ◌&&◌, Option, Some, None, IfSome, nat_lt, if◌then◌else◌}
use Rattle.std.proofs.Common.{arith, refl, inl, inr}
use Rattle.std.proofs.lemmas.Bool.Decides.{nat_tests}
use Rattle.rules_maps.specs.Shape.{Shape}
use Rattle.rules_maps.specs.Words.{put}
use Rattle.rules_program.specs.Program.{Need, Nothing, Loads, Stores, Changes, Prints, Ends, Halts, Traps, Program}
use Rattle.rules_tcc.specs.Attempt.{Out, finished}
use Rattle.rules_tcc.specs.CoreEvict.{core_evict}
use Rattle.rules_tcc.specs.State.{CoreState, Phase, Running, AwaitTid, DoomedTid, Probing, Ready, Overflowing, Solo, Halted}
use Rattle.rules_bus.specs.Commit.{BusStepped, bus_commit}
use Rattle.rules_bus.specs.Exec.{instruction, when_free, gone_alone, core_changed, executed, goes_on, exec_alone, bus_exec_in_phase}
use Rattle.rules_bus.specs.Exec.{bus_exec}
use Rattle.rules_bus.specs.State.{Bus, Free, Alone, Packet, BusWorld, BusEvent, Exec, Evict, Take}
use Rattle.rules_bus.specs.Step.{if_evicted, bus_names, bus_step}
use Rattle.rules_bus.specs.Take.{packet_taken, bus_left, take_from, bus_take}
use Rattle.theorem_bus.proofs.OneCore.Did.{goes}
use Rattle.theorem_bus.proofs.OneCore.Instruction.{Executes}

abbrev pub overflows : Phase → Bool
overflows (Overflowing t) = true
overflows _ = false

-- the core has the bus
abbrev pub alone_by : BusWorld → (core : ℕ) → CoreState → BusStepped
alone_by w c s = record { world = record w { cores = put w.cores c (gone_alone w.next s); bus = Alone c }; noted = None }

abbrev pub taken_by : Shape → BusWorld → (core : ℕ) → (words : ℕ → Option ℕ) → (left : ℕ → Bool) → BusStepped
taken_by sh w c f left = record {
  world = record w { cores = put w.cores c (packet_taken sh f (w.cores c)); bus = bus_left sh f (put left c false) };
  noted = None;
}

pub data Happened (sh : Shape) (p : Program) (w : BusWorld) (r : BusStepped) : Type 0 where
  Instructs : (c : ℕ) (o : Out) (core : c < sh.cores) (executes : Executes p (w.cores c))
      (does : instruction sh p w.ram c (w.cores c) ≡ Some o) (stays : overflows o.core.phase ≡ false) (is : r ≡ core_changed w c o.core)
      → Happened sh p w r
  TakesBus : (c : ℕ) (o : Out) (core : c < sh.cores) (executes : Executes p (w.cores c))
      (does : instruction sh p w.ram c (w.cores c) ≡ Some o) (full : overflows o.core.phase ≡ true) (free : w.bus ≡ Free)
      (is : r ≡ alone_by w c o.core) → Happened sh p w r
  EndsAlone : (c t : ℕ) (need : Need) (core : c < sh.cores) (phase : (w.cores c).phase ≡ Solo t)
      (needs : p.need (w.cores c).local ≡ need) (ends : goes need ≡ false)
      (is : r ≡ bus_commit sh w c (finished p need 0 (w.cores c))) → Happened sh p w r
  Commits : (c : ℕ) (core : c < sh.cores) (phase : (w.cores c).phase ≡ AwaitTid) (free : w.bus ≡ Free)
      (is : r ≡ bus_commit sh w c (w.cores c)) → Happened sh p w r
  Evicts : (c x y : ℕ) (o : Out) (core : c < sh.cores) (does : core_evict sh x y (w.cores c) ≡ Some o) (is : r ≡ core_changed w c o.core)
      → Happened sh p w r
  Takes : (c : ℕ) (f : ℕ → Option ℕ) (left : ℕ → Bool) (core : c < sh.cores) (bus : w.bus ≡ Packet f left) (is_left : left c ≡ true)
      (is : r ≡ taken_by sh w c f left) → Happened sh p w r

-- where the bus is free

free-only : {A : Type 0} (b : Bus) (x : A) (P : A → Type 0) → (b ≡ Free → P x) → IfSome (when_free b x) P
free-only Free x P f = f refl
free-only (Alone c) x P f = tt
free-only (Packet g left) x P f = tt

goes-happened : (sh : Shape) (p : Program) (w : BusWorld) (c : ℕ) → c < sh.cores → Executes p (w.cores c)
    → IfSome (goes_on w c (instruction sh p w.ram c (w.cores c))) (Happened sh p w)
goes-happened sh p w c l x = go (instruction sh p w.ram c (w.cores c)) refl
  where
    by : (o : Out) → instruction sh p w.ram c (w.cores c) ≡ Some o → (q : Phase) → o.core.phase ≡ q
        → IfSome (executed w c o q) (Happened sh p w)
    by o e (Overflowing t) f =
        free-only w.bus (alone_by w c o.core) (Happened sh p w) (λ b. TakesBus c o l x e (rw f refl) b refl)
    by o e Running f = Instructs c o l x e (rw f refl) refl
    by o e AwaitTid f = Instructs c o l x e (rw f refl) refl
    by o e DoomedTid f = Instructs c o l x e (rw f refl) refl
    by o e (Probing t) f = Instructs c o l x e (rw f refl) refl
    by o e (Ready t) f = Instructs c o l x e (rw f refl) refl
    by o e (Solo t) f = Instructs c o l x e (rw f refl) refl
    by o e Halted f = Instructs c o l x e (rw f refl) refl

    go : (y : Option Out) → instruction sh p w.ram c (w.cores c) ≡ y → IfSome (goes_on w c y) (Happened sh p w)
    go None e = tt
    go (Some o) e = by o e o.core.phase refl

exec-happened : (sh : Shape) (p : Program) (w : BusWorld) (c : ℕ) → c < sh.cores → IfSome (bus_exec sh p w c) (Happened sh p w)
unfolding bus_exec
exec-happened sh p w c l = go (w.cores c).phase refl
  where
    s : CoreState
    s = w.cores c

    alone : (t : ℕ) → s.phase ≡ Solo t → (n : Need) → p.need s.local ≡ n → IfSome (exec_alone sh p w c s n) (Happened sh p w)
    alone t e Ends f = EndsAlone c t Ends l e f refl refl
    alone t e (Halts code) f = EndsAlone c t (Halts code) l e f refl refl
    alone t e (Traps code) f = EndsAlone c t (Traps code) l e f refl refl
    alone t e Nothing f = goes-happened sh p w c l (inr (rw (e, f) refl))
    alone t e (Loads addr size) f = goes-happened sh p w c l (inr (rw (e, f) refl))
    alone t e (Stores addr size x) f = goes-happened sh p w c l (inr (rw (e, f) refl))
    alone t e (Changes addr g) f = goes-happened sh p w c l (inr (rw (e, f) refl))
    alone t e (Prints byte) f = goes-happened sh p w c l (inr (rw (e, f) refl))

    go : (q : Phase) → s.phase ≡ q → IfSome (bus_exec_in_phase sh p w c s q) (Happened sh p w)
    go Running e = goes-happened sh p w c l (inl e)
    go (Solo t) e = alone t e (p.need s.local) refl
    go AwaitTid e = free-only w.bus (bus_commit sh w c s) (Happened sh p w) (λ b. Commits c l e b refl)
    go _ e = tt

take-happened : (sh : Shape) (p : Program) (w : BusWorld) (c : ℕ) → c < sh.cores → IfSome (bus_take sh w c) (Happened sh p w)
unfolding bus_take
take-happened sh p w c l = go w.bus refl
  where
    by : (f : ℕ → Option ℕ) (left : ℕ → Bool) → w.bus ≡ Packet f left → (b : Bool) → left c ≡ b
        → IfSome (if b then Some (taken_by sh w c f left) else None) (Happened sh p w)
    by f left e true g = Takes c f left l e g refl
    by f left e false g = tt

    go : (b : Bus) → w.bus ≡ b → IfSome (take_from sh w c b) (Happened sh p w)
    go Free e = tt
    go (Alone d) e = tt
    go (Packet f left) e = by f left e (left c) refl

evict-happened : (sh : Shape) (p : Program) (w : BusWorld) (c x y : ℕ) → c < sh.cores
    → IfSome (if_evicted w c (core_evict sh x y (w.cores c))) (Happened sh p w)
evict-happened sh p w c x y l = go (core_evict sh x y (w.cores c)) refl
  where
    go : (o : Option Out) → core_evict sh x y (w.cores c) ≡ o → IfSome (if_evicted w c o) (Happened sh p w)
    go None e = tt
    go (Some o) e = Evicts c x y o l e refl

if-named : (b : Bool) (o : Option BusStepped) (P : BusStepped → Type 0) → (b ≡ true → IfSome o P) → IfSome (if b then o else None) P
if-named true o P f = f refl
if-named false o P f = tt

pub bus-happened : (sh : Shape) (p : Program) (w : BusWorld) (e : BusEvent) → IfSome (bus_step sh p w e) (Happened sh p w)
unfolding bus_step bus_names
bus-happened sh p w (Exec c) =
    if-named (nat_lt c sh.cores) (bus_exec sh p w c) (Happened sh p w) (λ h. exec-happened sh p w c (grind (arith, nat_tests)))
bus-happened sh p w (Evict c x y) =
    if-named (nat_lt c sh.cores && (nat_lt x sh.sets && nat_lt y sh.ways)) (if_evicted w c (core_evict sh x y (w.cores c)))
    (Happened sh p w)
    (λ h. evict-happened sh p w c x y (grind (arith, nat_tests)))
bus-happened sh p w (Take c) =
    if-named (nat_lt c sh.cores) (bus_take sh w c) (Happened sh p w) (λ h. take-happened sh p w c (grind (arith, nat_tests)))
