-- Schedules that are looked at from inside: reservations, who owes a core a reply, and what a reply says.
use Rattle.std.specs.Prelude.{ℕ, ◌≡◌, ◌==◌, List, [], ◌∷◌, ◌++◌, map, filter, Option, Some, None, option_map, if◌then◌else◌}
use Rattle.rules_program.specs.Program.{Need, Nothing, Loads, Stores, Ends, Halts, Traps, Program}
use Rattle.rules_maps.specs.Nodes.{Event, ProbeReply}
use Rattle.rules_maps.specs.Shape.{Shape}
use Rattle.rules_tcc.specs.State.{Phase, Running, Probing, Halted, start}
use Rattle.rules_tcc.specs.Step.{History, run}
use Rattle.rules_tcc.specs.Seen.{numbers}
use Rattle.rules_tcc.specs.Rows.{e, d, c0, c1, d0, v}
use Rattle.rules_tcc.specs.Needs.{Codes, need_at, needs_after, needs, entry, lw, sw}
use Rattle.rules_tcc.specs.Told.{machine, first_words}
use Rattle.rules_tcc.specs.Names.{noted_commit, got, wrote}

-- every event is enabled where it comes, and at the end this is so
abbrev pub After : {A : Type 0} → Shape → Program → List Event → (History → A) → A → Type 0
After sh p es f x = option_map f (run sh p (start entry first_words) es) ≡ Some x

-- reservations

-- a store is made only at the reserved address
abbrev pub if_reserved : (reserved : Option ℕ) → Need → Need
if_reserved None (Stores addr size value) = Nothing
if_reserved (Some a) (Stores addr size value) = if a == addr then Stores addr size value else Nothing
if_reserved _ need = need

-- a load reserves its address, and a store ends the reservation
abbrev pub reserved_after : Need → (reserved : Option ℕ) → Option ℕ
reserved_after (Loads addr size) r = Some addr
reserved_after (Stores addr size value) r = None
reserved_after _ r = r

-- the lists of needs as a program whose loads reserve and whose stores are conditional
unfoldable pub reserving : Codes → Program
reserving codes = record {
  need = λ s. if_reserved s.reserved (need_at codes s.pc);
  after = λ s given. record (needs_after s given) { reserved = reserved_after (need_at codes s.pc) s.reserved };
}

-- the first store is made, as its word is reserved; the second isn't, as an end came between
abbrev pub end_unreserves_events : List Event
end_unreserves_events =
    e 0 ∷ d c0 d0 0 ∷ d d0 c0 0 ∷ e 0 ∷ e 0 ∷ e 0 ∷ e 0 ∷ d c0 v 0 ∷ d v c0 0 ∷ d c0 d0 1 ∷ d d0 c0 1 ∷ d c0 d0 2 ∷ e 0 ∷ e 0 ∷
    e 0 ∷ d c0 v 1 ∷ d v c0 1 ∷ e 0 ∷ []

abbrev pub EndUnreserves : Type 0
EndUnreserves =
    After (machine 1 1 1 1 32)
    (reserving ((lw 0 ∷ sw 0 5 ∷ lw 0 ∷ Ends ∷ sw 0 6 ∷ Halts 1 ∷ []) ∷ []))
    end_unreserves_events
    (λ h. h.commits)
    (noted_commit 1 0 4 (got 0 100 ∷ got 0 5 ∷ []) (wrote 0 5 ∷ []) [] ∷ noted_commit 2 0 2 [] [] [] ∷ [])

-- the phase of a core, and what its checkpoint reserves
abbrev pub checkpoint_reserves : History → (core : ℕ) → Phase × Option ℕ
checkpoint_reserves h c = ((h.world.cores c).phase, (h.world.cores c).saved.reserved)

-- neither a core that halted nor one that trapped has a reservation
abbrev pub halt_unreserves_events : List Event
halt_unreserves_events =
    e 0 ∷ d c0 d0 0 ∷ d d0 c0 0 ∷ e 0 ∷ e 0 ∷ d c0 v 0 ∷ d v c0 0 ∷ d c0 d0 1 ∷ d c0 d0 2 ∷ d d0 c0 1 ∷ e 0 ∷
    e 1 ∷ d c1 d0 0 ∷ d d0 c1 0 ∷ e 1 ∷ e 1 ∷ d c1 v 0 ∷ d v c1 0 ∷ d c1 d0 1 ∷ d c1 d0 2 ∷ d d0 c1 1 ∷ e 1 ∷ []

abbrev pub HaltUnreserves : Type 0
HaltUnreserves =
    After (machine 2 1 1 1 64)
    (reserving ((lw 0 ∷ Halts 3 ∷ []) ∷ (lw 8 ∷ Traps 3 ∷ []) ∷ []))
    halt_unreserves_events
    (λ h. map (checkpoint_reserves h) (numbers 2))
    ((Halted, None) ∷ (Halted, None) ∷ [])

-- replies

-- the second core commits TID 1 where the first one has read, and the first one has probed for TID 2
abbrev pub probed_events : List Event
probed_events =
    e 0 ∷ d c0 d0 0 ∷ d d0 c0 0 ∷ e 0 ∷ e 0 ∷ e 0 ∷ e 1 ∷ e 1 ∷ d c1 v 0 ∷ d v c1 0 ∷ d c1 d0 0 ∷ d d0 c1 0 ∷ d c1 d0 1 ∷ e 1 ∷
    d c0 v 0 ∷ d v c0 0 ∷ d c1 d0 2 ∷ []

abbrev pub Probed : {A : Type 0} → (more : List Event) → (History → A) → A → Type 0
Probed more f x =
    After (machine 2 1 1 2 256)
    (needs ((lw 0 ∷ sw 8 5 ∷ []) ∷ (sw 0 4 ∷ Ends ∷ []) ∷ []))
    (probed_events ++ more) f x

-- the phase of the first core, and the directories that owe it a reply
abbrev pub owed_to_first : History → Phase × List ℕ
owed_to_first h = ((h.world.cores 0).phase, filter (h.world.cores 0).owing (numbers 1))

-- a directory that was probed owes a reply, until the core is rolled back
abbrev pub RollBackOwes : Type 0
RollBackOwes = Probed [] owed_to_first (Probing 2, 0 ∷ []) × Probed (d d0 c0 1 ∷ []) owed_to_first (Running, [])

-- the abort overtakes the probe, which is answered with the TID that is served by then
abbrev pub LaterTidServed : Type 0
LaterTidServed =
    Probed (d d0 c0 1 ∷ d c0 d0 3 ∷ d c0 d0 2 ∷ d c0 d0 1 ∷ [])
    (λ h. h.world.net d0 c0)
    (None ∷ None ∷ Some (ProbeReply 2 3) ∷ [])

abbrev pub InsideAre : Type 0
InsideAre = EndUnreserves × HaltUnreserves × RollBackOwes × LaterTidServed
