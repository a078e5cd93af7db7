-- Requests for TIDs: which cores are late by the phases that are kept, and which requests are in flight.
use Rattle.std.specs.Prelude.{ℕ, zero, suc, ◌≡◌, ◌<◌, ◌+◌, Bool, true, false, not, ◌&&◌, ◌||◌, List, [], ◌∷◌, length, get_or, Option}
use Rattle.std.specs.Prelude.{Some, None, is_some, nat_lt, if◌then◌else◌}
use Rattle.tcc_base.specs.Settings.{Settings}
use Rattle.rules_maps.specs.Nodes.{Core, Vendor, Event, Deliver}
use Rattle.rules_maps.specs.Words.{any_below, those}
use Rattle.rules_program.specs.Program.{Program}
use Rattle.rules_tcc.specs.State.{Link, World}
use Rattle.rules_tcc.specs.Step.{step}
use Rattle.theorem_phases.specs.Laws.{asks, executes}
use Rattle.rules_phases.specs.Phased.{has_halted}

-- the delivery of a core's next request
abbrev pub request : (asked : List ℕ) → (core : ℕ) → Event
request asked c = Deliver (Core c) Vendor (get_or asked c 0)

-- there is such a phase, and it is an earlier one
abbrev pub is_below : Option ℕ → (phase : ℕ) → Bool
is_below None q = false
is_below (Some p) q = nat_lt p q

-- there is such a phase before q, or this one is
abbrev pub either_below : Option ℕ → (phase q : ℕ) → Bool
either_below least p q = is_below least q || nat_lt p q

-- one of the first n cores hasn't halted and is in an earlier phase
unfoldable pub is_behind : (n : ℕ) → World → (own : List ℕ) → (phase : ℕ) → Bool
is_behind n w own q = any_below (λ j. not (has_halted (w.cores j).phase) && nat_lt (get_or own j 0) q) n

-- the core is late, and its request is in flight
unfoldable pub is_waiting : Settings → Program → World → (own asked : List ℕ) → (core : ℕ) → Bool
is_waiting s p w own asked c = is_behind s.cores w own (get_or own c 0) && is_some (step s p w (request asked c))

-- the core is in a later phase than this one, and its request is in flight
unfoldable pub is_above : Settings → Program → World → (least : ℕ) → (own asked : List ℕ) → (core : ℕ) → Bool
is_above s p w least own asked c = nat_lt least (get_or own c 0) && is_some (step s p w (request asked c))

-- this phase tells which of the cores are late: those in a later one
abbrev pub Limits : Settings → World → (own : List ℕ) → Option ℕ → Type 0
Limits s w own least = (c : ℕ) → c < s.cores → is_behind s.cores w own (get_or own c 0) ≡ is_below least (get_or own c 0)

-- Before an event, which noted no commit, these cores waited. They still do, and so does nobody else but perhaps the core that executed.
pub record HeldBefore (s : Settings) (p : Program) (w : World) (own asked : List ℕ) (e : Event) (held : List ℕ) : Type 0 where
  pub waited : ℕ → Bool
  pub listed : held ≡ those waited s.cores
  pub still : (c : ℕ) → c < s.cores → waited c ≡ true → is_waiting s p w own asked c ≡ true
  pub others : (c : ℕ) → c < s.cores → executes c e ≡ false → waited c ≡ is_waiting s p w own asked c

-- the core whose message to the vendor the event delivers
abbrev pub asker : Event → Option ℕ
asker (Deliver (Core c) Vendor k) = Some c
asker _ = None

-- one more delivery from its core, where the event is one
abbrev pub Counts : Event → (old new : List ℕ) → Type 0
Counts e old new = (c : ℕ) → c < length old → get_or new c 0 ≡ (if asks c e then get_or old c 0 + 1 else get_or old c 0)

-- the first n messages on the link were delivered, and at most one was sent behind them
unfoldable pub IsAsked : Link → (n : ℕ) → Type 0
IsAsked [] n = n ≡ 0
IsAsked (None ∷ ms) zero = ⊥
IsAsked (None ∷ ms) (suc n) = IsAsked ms n
IsAsked (Some m ∷ ms) zero = ms ≡ []
IsAsked (Some m ∷ ms) (suc n) = ⊥
