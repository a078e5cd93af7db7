-- An event of a run that is told with records.
use Rattle.std.proofs.Common.{◌≡◌, ℕ, ◌<◌, Bool, true, false, if◌then◌else◌, List, [], ◌++◌, append-nil, append_assoc, ap, sym, ◌∙◌, subst}
use Rattle.image_load.specs.Contents.{Contents, started}
use Rattle.rules_bus.specs.State.{BusEvent}
use Rattle.bus_tcc.specs.Machine.{BusMachine, bus_history_of, bus_program_of, bus_settings_of, bus_start_of, bus_world_of}
use Rattle.bus_tcc.specs.Refined.{IsBusRefined}
use Rattle.bus_tcc.specs.Whole.{BusReached}
use Rattle.bus_watch.specs.Happened.{core_of}
use Rattle.bus_watch.specs.Watched.{BusTookAndTold}
use Rattle.bus_watch.specs.declared.fact.BusFact.{BusFact}
use Rattle.bus_changes.specs.Following.{Follows}
use Rattle.bus_changes.specs.Plain.{BusParts, IsKept}
use Rattle.bus_changes.proofs.Lemmas.{acts-there, events-follow}

-- what it leaves as it was
pub follows-one : (m n : BusMachine) (e : BusEvent) (facts : List BusFact) → IsBusRefined m → BusReached m → BusTookAndTold m n e facts
    → Follows (bus_settings_of n) (core_of e) (bus_world_of m) (bus_world_of n)
unfolding started bus_history_of
follows-one m n e facts k r t =
    subst (λ (c : Contents). Follows c.settings (core_of e) (bus_world_of m) (bus_world_of n)) (sym t.code)
    (events-follow (bus_start_of m) r.taken (bus_history_of m) (bus_history_of n) e k.allowed r.reaches t.next)

-- its core exists
pub there-one : (m n : BusMachine) (e : BusEvent) (facts : List BusFact) → BusTookAndTold m n e facts
    → core_of e < (bus_settings_of n).cores
there-one m n e facts t =
    subst (λ (c : Contents). core_of e < c.settings.cores) (sym t.code)
    (acts-there (bus_settings_of m) (bus_program_of m) (bus_history_of m) (bus_history_of n) e t.next)

-- what is kept is of the state before it
pub kept-one : (m n : BusMachine) (k : BusParts) → n.code ≡ m.code → IsKept k (bus_settings_of m) (bus_world_of m)
    → IsKept k (bus_settings_of n) (bus_world_of m)
kept-one m n k e i = subst (λ (c : Contents). IsKept k c.settings (bus_world_of m)) (sym e) i

-- both are shown, or none
pub shown-both : (shown : Bool) (before mid after facts changes : List ℕ) → mid ≡ before ++ (if shown then facts else [])
    → after ≡ mid ++ (if shown then changes else []) → after ≡ before ++ (if shown then facts ++ changes else [])
shown-both true before mid after facts changes p q = q ∙ ap (λ t. t ++ changes) p ∙ append_assoc before facts changes
shown-both false before mid after facts changes p q = q ∙ append-nil mid ∙ p
