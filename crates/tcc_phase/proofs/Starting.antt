-- Before the first event all cores are in phase 0, and nobody has asked.
use Rattle.std.proofs.Common.{◌≡◌, ℕ, zero, suc, List, [], map, None, Some, refl, ap, sym, ◌∙◌, subst, arith}
use Rattle.std.specs.Prelude.{get_or, replicate}
use Rattle.image_load.specs.Contents.{Contents, started}
use Rattle.image_load.specs.Start.{Start}
use Rattle.rv_code.specs.Machine.{program, start_regs}
use Rattle.rules_maps.specs.Nodes.{Core, Vendor}
use Rattle.tcc_msg.specs.Plain.{event_of}
use Rattle.tcc_msg.specs.declared.event.Event.{Event as CodeEvent}
use Rattle.rules_program.specs.Registers.{register, written, zeroed}
use Rattle.rules_tcc.specs.State.{core_start, start}
use Rattle.rules_riscv.specs.Starting.{at_start}
use Rattle.rules_phases.specs.Phased.{phased_from}
use Rattle.rules_phases.specs.Phases.{phase_of, phases_along, phases_in, phases_of}
use Rattle.net_core.specs.Machine.{Machine, history_of, start_of}
use Rattle.tcc_phase.specs.Kept.{HasRows, IsKept}
use Rattle.tcc_phase.specs.Requests.{IsAsked, Limits, is_below}
use Rattle.tcc_phase.specs.declared.standing.Standing.{Standing}
use Rattle.tcc_phase.proofs.Requests.Asked.{asked-none}
use Rattle.tcc_phase.proofs.Requests.Behind.{even-none}
use Rattle.tcc_phase.proofs.Requests.Waiting.{waiting-none}

zeros : (n c : ℕ) → ◌≡◌ {A = ℕ} (get_or (replicate n 0) c 0) 0
zeros zero zero = refl
zeros zero (suc c) = refl
zeros (suc n) zero = refl
zeros (suc n) (suc c) = zeros n c

no-phases : (s : Start) → phases_of s (at_start s) ≡ []
unfolding phases_of phases_in phases_along
no-phases s = refl

first-phase : (s : Start) (c : ℕ) → phase_of s (at_start s) c ≡ 0
unfolding phase_of phases_in phases_along start core_start start_regs register written zeroed
first-phase s c = refl

nothing-sent : (s : Start) (c : ℕ) → (at_start s).world.net (Core c) Vendor ≡ []
unfolding start
nothing-sent s c = refl

-- what is kept at the start
pub record IsFirst (n : ℕ) (l : Standing) : Type 0 where
  pub each : l.each.items ≡ []
  pub own : l.own.items ≡ replicate n 0
  pub asked : l.asked.items ≡ replicate n 0
  pub rows : HasRows n l
  pub none : l.held.items ≡ []
  pub even : l.least ≡ None

kept-at : (s : Start) (events : ℕ) (l : Standing) → IsFirst s.settings.cores l → IsKept s (at_start s) events l
kept-at s events l f = record {
  rows = f.rows;
  each = f.each ∙ sym (no-phases s);
  own = λ c h. own-zero c ∙ sym (first-phase s c);
  asked = λ c h. subst (λ link. IsAsked link (get_or l.asked.items c 0)) (sym (nothing-sent s c))
      (subst (IsAsked []) (sym (asked-zero c)) asked-none);
  few = λ c. let z = asked-zero c in omega (arith, z);
  limits = λ c h. even c h ∙ ap (λ o. is_below o (get_or l.own.items c 0)) (sym f.even);
  held = f.none ∙ waiting-none s.settings (program s) (at_start s).world l.own.items l.asked.items even;
}
  where
    own-zero : (c : ℕ) → get_or l.own.items c 0 ≡ 0
    own-zero c = ap (λ xs. get_or xs c 0) f.own ∙ zeros s.settings.cores c

    asked-zero : (c : ℕ) → get_or l.asked.items c 0 ≡ 0
    asked-zero c = ap (λ xs. get_or xs c 0) f.asked ∙ zeros s.settings.cores c

    even : Limits s.settings (at_start s).world l.own.items None
    even c h = even-none s.settings.cores (at_start s).world l.own.items c (λ j k. own-zero j ∙ sym (own-zero c))

pub kept-first : (c : Contents) (m : Machine) (l : Standing) → m.cores.code ≡ c → history_of m ≡ at_start (started c)
    → IsFirst c.settings.cores l → IsKept (start_of m) (history_of m) m.events l
unfolding started
kept-first c m l code first f =
    subst (λ k. IsKept (started k) (history_of m) m.events l) (sym code)
    (subst (λ h. IsKept (started c) h m.events l) (sym first) (kept-at (started c) m.events l f))

pub phased-first : (c : Contents) (m : Machine) (es : List CodeEvent) → m.cores.code ≡ c → history_of m ≡ at_start (started c)
    → es ≡ []
    → phased_from (start_of m) (map event_of es) (at_start (start_of m)) ≡ Some (history_of m)
unfolding phased_from
phased-first c m es code first none =
    ap (λ xs. phased_from (start_of m) (map event_of xs) (at_start (start_of m))) none
    ∙ ap (λ k. Some (at_start (started k))) code ∙ ap Some (sym first)
