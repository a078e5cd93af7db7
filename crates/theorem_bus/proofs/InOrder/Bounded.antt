-- Every state that a run reaches is in bounds.
use Rattle.std.specs.Prelude.{ℕ, ◌≡◌, ◌<◌, Bool, true, List, [], length, Option, Some, None, IfSome}
use Rattle.std.proofs.Common.{arith, refl}
use Rattle.rv_code.specs.Machine.{program}
use Rattle.image_load.specs.Start.{first_ram}
use Rattle.rules_riscv.specs.Starting.{local_at_start}
use Rattle.theorem_riscv.proofs.Lemmas.{riscv_programs_suit}
use Rattle.rules_maps.specs.Shape.{Shape, lines}
use Rattle.rules_program.specs.Cores.{AreBy}
use Rattle.rules_program.specs.Program.{Local, Need, Loads, Stores, Changes, Program}
use Rattle.rules_tcc.specs.State.{Phase, Running, AwaitTid, Solo, Halted}
use Rattle.theorem_serial.specs.InMemory.{NeedInMemory, StaysInMemory}
use Rattle.theorem_bounds.proofs.Lemmas.{kept_in_frames}
use Rattle.rules_bus.specs.State.{Bus, BusWorld, BusEvent, bus_start}
use Rattle.rules_bus.specs.Step.{BusHistory, bus_run}
use Rattle.theorem_bus.specs.Bounds.{is_of_bus, BusCoreInBounds, PacketInBounds, IsBusBounded, BusRunsAreBounded, RiscvBusRunsAreBounded}
use Rattle.theorem_bus.specs.Laws.{AreNumbered}
use Rattle.theorem_bus.proofs.OneCore.Did.{LineSet, NeedIn}
use Rattle.theorem_bus.proofs.InOrder.Numbered.{Numbered, happened-numbered}
use Rattle.theorem_bus.proofs.InOrder.Ordered.{StaysIn, PacketFits, PhaseFits, Ordered, happened-ordered, start-ordered}
use Rattle.theorem_bus.proofs.InOrder.Runs.{EventsKeep, run-keeps}

-- the lines of memory
abbrev pub in_memory : Shape → ℕ → Type 0
in_memory sh l = l < lines sh

pub stays-in : (sh : Shape) (p : Program) → StaysInMemory sh p → StaysIn sh (in_memory sh) p
stays-in sh p m l = go (p.need l) (m l)
  where
    go : (n : Need) → NeedInMemory sh n → NeedIn (in_memory sh) sh.base n
    go (Loads addr size) k = k
    go (Stores addr size value) k = k
    go (Changes addr changed) k = k
    go _ k = tt

-- all of it
pub record InOrder (sh : Shape) (M : LineSet) (n : ℕ) (h : BusHistory) : Type 0 where
  pub world : Ordered sh M n h.world
  pub commits : Numbered sh n h.world.next h.commits

pub events-in-order : (sh : Shape) (M : LineSet) (p : Program) → StaysIn sh M p → EventsKeep sh p (InOrder sh M)
events-in-order sh M p m n h r d k = record {
  world = happened-ordered sh M p n h.world r m k.world d;
  commits = happened-numbered sh M p n h.world r h.commits k.world k.commits d;
}

pub start-in-order : (sh : Shape) (M : LineSet) (entries : ℕ → Local) (ram : ℕ → ℕ)
    → InOrder sh M 0 (record { world = bus_start entries ram; commits = [] })
unfolding AreNumbered AreBy bus_start
start-in-order sh M entries ram = record {
  world = start-ordered sh M entries ram;
  commits = record { next = refl; number = omega arith; counted = λ x c. absurd (omega (arith, c.1)); tids = tt; by = tt };
}

pub runs-in-order : (sh : Shape) (M : LineSet) (p : Program) (entries : ℕ → Local) (ram : ℕ → ℕ) (es : List BusEvent) → StaysIn sh M p
    → IfSome (bus_run sh p (bus_start entries ram) es) (InOrder sh M (length es))
runs-in-order sh M p entries ram es m =
    run-keeps sh p (InOrder sh M) (bus_start entries ram) es (events-in-order sh M p m) (start-in-order sh M entries ram)

phase-of : (n : ℕ) (b : Bus) (c : ℕ) (q : Phase) → PhaseFits n b c q → is_of_bus q ≡ true
phase-of n b c Running k = refl
phase-of n b c AwaitTid k = refl
phase-of n b c (Solo t) k = refl
phase-of n b c Halted k = refl
phase-of n b c _ k = absurd k

core-bounded : (sh : Shape) (n : ℕ) (w : BusWorld) (c : ℕ) → Ordered sh (in_memory sh) n w → c < sh.cores → BusCoreInBounds sh n (w.cores c)
core-bounded sh n w c k l =
    let f = k.cores c l in record {
      phase = phase-of w.next w.bus c (w.cores c).phase (k.phases c l);
      awaited = f.awaited;
      clean = f.clean;
      sound = f.sound;
      attempt = f.attempt;
      cache = kept_in_frames sh (w.cores c).cache f.sound.cache f.frames;
      spilled = f.spilled;
    }

packet-bounded : (sh : Shape) (f : ℕ → Option ℕ) (left : ℕ → Bool) → PacketFits sh (in_memory sh) f left → PacketInBounds sh f left
packet-bounded sh f left k = record { some = k.some; cores = k.cores; inside = k.inside }

pub bounded : (sh : Shape) (n : ℕ) (h : BusHistory) → InOrder sh (in_memory sh) n h → IsBusBounded sh n h
bounded sh n h k = record {
  cores = λ c l. core-bounded sh n h.world c k.world l;
  alone = λ c e. (rw e at k.world.bus);
  solo = λ c t l e. (rw e at (k.world.phases c l));
  packet = λ f left e. packet-bounded sh f left (rw e at k.world.bus);
  next = k.commits.next;
  number = k.commits.number;
  counted = k.commits.counted;
}

pub bus_runs_are_bounded : BusRunsAreBounded
bus_runs_are_bounded sh p entries ram es m =
    go (bus_run sh p (bus_start entries ram) es) (runs-in-order sh (in_memory sh) p entries ram es (stays-in sh p m))
  where
    go : (o : Option BusHistory) → IfSome o (InOrder sh (in_memory sh) (length es)) → IfSome o (IsBusBounded sh (length es))
    go None k = tt
    go (Some h) k = bounded sh (length es) h k

pub riscv_bus_runs_are_bounded : RiscvBusRunsAreBounded
riscv_bus_runs_are_bounded s es k =
    bus_runs_are_bounded s.settings (program s) (local_at_start s) (first_ram s) es (riscv_programs_suit s k).inside
