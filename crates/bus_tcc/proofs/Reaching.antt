-- One more event leads on from what a machine has come to.
use Rattle.std.proofs.Common.{◌≡◌, ◌+◌, List, [], ◌∷◌, ◌++◌, length, Option, Some, None, refl, ap, sym, ◌∙◌, subst, arith}
use Rattle.image_load.specs.Contents.{started}
use Rattle.rv_code.specs.Machine.{program}
use Rattle.tcc_base.specs.Settings.{Settings}
use Rattle.rules_program.specs.Program.{Program}
use Rattle.rules_bus.specs.State.{BusEvent, BusWorld}
use Rattle.rules_bus.specs.Step.{BusHistory, and_then, bus_from, bus_next, bus_run}
use Rattle.theorem_bus.specs.Given.{bus_at_start}
use Rattle.bus_tcc.specs.Machine.{BusMachine, bus_history_of, bus_program_of, bus_settings_of, bus_start_of}
use Rattle.bus_tcc.specs.Whole.{BusReached}

after-all : (sh : Settings) (p : Program) (e : BusEvent) (es : List BusEvent) (h : BusHistory)
    → bus_from sh p (es ++ e ∷ []) h ≡ and_then (λ g. bus_next sh p g e) (bus_from sh p es h)
unfolding bus_from
after-all sh p e [] h = last (bus_next sh p h e)
  where
    last : (o : Option BusHistory) → and_then (λ g. Some g) o ≡ o
    last None = refl
    last (Some g) = refl
after-all sh p e (x ∷ es) h = go (bus_next sh p h x) (after-all sh p e es)
  where
    go : (o : Option BusHistory)
        → ((g : BusHistory) → bus_from sh p (es ++ e ∷ []) g ≡ and_then (λ f. bus_next sh p f e) (bus_from sh p es g))
        → and_then (bus_from sh p (es ++ e ∷ [])) o ≡ and_then (λ g. bus_next sh p g e) (and_then (bus_from sh p es) o)
    go None rest = refl
    go (Some g) rest = rest g

run-on : (sh : Settings) (p : Program) (w : BusWorld) (es : List BusEvent) (e : BusEvent) (h : BusHistory) → bus_run sh p w es ≡ Some h
    → bus_run sh p w (es ++ e ∷ []) ≡ bus_next sh p h e
unfolding bus_run
run-on sh p w es e h r = after-all sh p e es (record { world = w; commits = [] }) ∙ ap (and_then (λ g. bus_next sh p g e)) r

one-longer : (xs : List BusEvent) (e : BusEvent) → length (xs ++ e ∷ []) ≡ length xs + 1
one-longer [] e = refl
one-longer (x ∷ xs) e = let r = one-longer xs e in omega (arith, r)

-- the machine after one more event of the rules
pub reached-on : (m n : BusMachine) (e : BusEvent) → BusReached m
    → bus_next (bus_settings_of m) (bus_program_of m) (bus_history_of m) e ≡ Some (bus_history_of n)
    → n.events ≡ m.events + 1 → n.code ≡ m.code → BusReached n
reached-on m n e r step count code = record {
  taken = r.taken ++ e ∷ [];
  count = one-longer r.taken e ∙ ap (λ k. k + 1) r.count ∙ sym count;
  reaches = subst (λ c. bus_run c.settings (program (started c)) (bus_at_start (started c)).world (r.taken ++ e ∷ []) ≡ Some
      (bus_history_of n))
      (sym code)
      (run-on (bus_settings_of m) (bus_program_of m) (bus_at_start (bus_start_of m)).world r.taken e (bus_history_of m) r.reaches ∙ step);
}

-- the same state held in another way
pub reached-same : (m n : BusMachine) → BusReached m → bus_history_of n ≡ bus_history_of m → n.events ≡ m.events → n.code ≡ m.code
    → BusReached n
reached-same m n r same count code = record {
  taken = r.taken;
  count = r.count ∙ sym count;
  reaches = subst (λ c. bus_run c.settings (program (started c)) (bus_at_start (started c)).world r.taken ≡ Some (bus_history_of n)) (sym
      code)
      (r.reaches ∙ ap (λ h. Some h) (sym same));
}
