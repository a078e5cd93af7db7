-- Where nothing was committed and no core executed, all is as it was but for a request that was delivered.
use Rattle.std.proofs.Common.{◌≡◌, ℕ, false, length, ◌≤◌, refl, ap, sym, ◌∙◌, subst}
use Rattle.std.specs.Prelude.{vec_capacity}
use Rattle.tcc_base.specs.declared.names.CoreId.{CoreId}
use Rattle.rules_maps.specs.Words.{those}
use Rattle.tcc_msg.specs.Plain.{event_of}
use Rattle.tcc_msg.specs.declared.event.Event.{Event}
use Rattle.tcc_msg.specs.declared.event.Event.TheVariants.{Exec, Evict, Deliver}
use Rattle.net_core.specs.Machine.{program_of, settings_of, world_of}
use Rattle.net_core.specs.declared.taking.Step.TheVariants.{Moved}
use Rattle.theorem_phases.specs.Laws.{executes}
use Rattle.tcc_phase.specs.Standing.{Notes, StillHolds}
use Rattle.tcc_phase.specs.Requests.{Limits, is_waiting}
use Rattle.tcc_phase.specs.declared.standing.Standing.{Standing}
use Rattle.tcc_phase.proofs.Requests.Staying.{unless-executed}
use Rattle.tcc_phase.proofs.standing.Standing.note.Goals as goal

no-core : (e : Event) → ((x : CoreId) → e ≡ Exec x → ⊥) → (d : ℕ) → executes d (event_of e) ≡ false
no-core (Exec x) f d = absurd (f x refl)
no-core (Evict x y z) f d = refl
no-core (Deliver n) f d = refl

still : (c : goal.In_default) → StillHolds c.args.system.now (event_of c.args.e) Moved c.args.self.now
still c = subst (λ d. StillHolds c.args.system.now (event_of c.args.e) d c.args.self.now) c.in-Moved.is c.requires.holds

pub returns-in_default-clause-rows : goal.returns-in_default-clause-rows
returns-in_default-clause-rows c =
    let k : Standing = c.note_delivery.new.self in
    record {
      own = ap (λ (x : Standing). length x.own.items) c.note_delivery.ensures.others ∙ c.requires.rows.own;
      asked = c.note_delivery.ensures.rows ∙ c.requires.rows.asked;
      held = subst (λ (x : Standing). (settings_of c.args.system.now).cores ≤ vec_capacity x.held) (sym c.note_delivery.ensures.others)
          c.requires.rows.held;
    }

pub returns-in_default-clause-notes : goal.returns-in_default-clause-notes
returns-in_default-clause-notes c =
    let l : Standing = c.args.self.now in
    let k : Standing = c.note_delivery.new.self in
    subst (λ d. Notes c.args.system.now d l.each.items l.own.items k.each.items k.own.items) (sym c.in-Moved.is) (
      ap (λ (x : Standing). x.each.items) c.note_delivery.ensures.others,
      ap (λ (x : Standing). x.own.items) c.note_delivery.ensures.others,
    )

pub returns-in_default-clause-limits : goal.returns-in_default-clause-limits
returns-in_default-clause-limits c =
    subst (λ (x : Standing). Limits (settings_of c.args.system.now) (world_of c.args.system.now) x.own.items x.least)
    (sym c.note_delivery.ensures.others) (still c).0

pub returns-in_default-clause-held : goal.returns-in_default-clause-held
returns-in_default-clause-held c =
    let m = c.args.system.now in
    let l : Standing = c.args.self.now in
    let k : Standing = c.note_delivery.new.self in
    subst (λ (x : Standing). x.held.items ≡ those (is_waiting (settings_of m) (program_of m) (world_of m) x.own.items k.asked.items)
    (settings_of m).cores) (sym c.note_delivery.ensures.others)
    (unless-executed (settings_of m) (program_of m) (world_of m) l.own.items k.asked.items (event_of c.args.e) l.held.items
    ((still c).1 k.asked.items c.note_delivery.ensures.asked)
    (λ d q x. let n = no-core c.args.e c.in_default.not-Exec d in absurd (cc)))
