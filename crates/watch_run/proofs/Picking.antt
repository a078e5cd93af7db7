-- The events that a seed picks, one after another.
use Rattle.std.proofs.Common.{◌≡◌, ℕ, suc, ◌-◌, ◌≤◌, List, [], ◌∷◌, length, Option, Some, None, IfSome, refl, ap, sym, ◌∙◌, arith}
use Rattle.std.specs.Prelude.{is_some, option_map, if◌then◌else◌}
use Rattle.rand_core.specs.Steps.{first_words}
use Rattle.rand_pcg.specs.Lcg.{Lcg}
use Rattle.rand_pcg.specs.Pcg.{pcg32}
use Rattle.rules_maps.specs.Nodes.{Event}
use Rattle.tcc_msg.specs.Plain.{event_of}
use Rattle.tcc_msg.specs.declared.event.Event.{Event as CodeEvent}
use Rattle.net_core.specs.Machine.{Machine, program_of, settings_of, start_of, world_of}
use Rattle.tcc_pick.specs.Picking.{picks}
use Rattle.tcc_pick.proofs.Lemmas.{chosen_at, no-words, picks-none, picks-one}
use Rattle.rules_tcc.specs.Picked.{pick, picked}
use Rattle.rules_tcc.specs.State.{World}
use Rattle.tcc_pick.specs.Words.{words}
use Rattle.rv_code.specs.Machine.{program}
use Rattle.image_load.specs.Contents.{started}
use Rattle.image_load.specs.Start.{Start}
use Rattle.watch_run.specs.Going.{IsFirst}

-- the events that come by so many words
abbrev pub coming_by : (left : ℕ) → Lcg → Start → World → List Event
coming_by left g s w = picked s.settings (program s) (words left g) w

pub none-left : (left : ℕ) (g : Lcg) (m : Machine) → left ≡ 0 → coming_by left g (start_of m) (world_of m) ≡ []
unfolding started
none-left left g m e = no-words g m left e

suc-of : (left less : ℕ) → less ≡ left - 1 → (left ≡ 0 → ⊥) → left ≡ suc less
suc-of left less e h = omega (arith, e, h)

-- no event is useful, and none comes
pub none-chosen : (left : ℕ) (g : Lcg) (m : Machine) (o : Option CodeEvent) → (left ≡ 0 → ⊥)
    → option_map event_of o ≡ chosen_at g m → o ≡ None → coming_by left g (start_of m) (world_of m) ≡ []
unfolding started
none-chosen left g m o h c e =
    ap (λ k. picks k g m) (suc-of left (left - 1) refl h)
    ∙ picks-none (left - 1) g m (sym c ∙ ap (option_map event_of) e)

-- one is, and it is the first that comes
pub first-chosen : (left less : ℕ) (g f : Lcg) (m : Machine) (o : Option CodeEvent) → (left ≡ 0 → ⊥) → less ≡ left - 1
    → option_map event_of o ≡ chosen_at g m → f ≡ (if is_some o then (pcg32 g).1 else g)
    → IfSome o (λ e. IsFirst (coming_by left g (start_of m) (world_of m)) (coming_by less f) m (event_of e))
unfolding started
first-chosen left less g f m None h l c d = tt
first-chosen left less g f m (Some e) h l c d = λ n t.
    ap (λ k. picks k g m) (suc-of left less l h)
    ∙ picks-one less g m n (event_of e) (sym c) t.next t.code
    ∙ ap (λ k. event_of e ∷ picks less k n) (sym d)

-- and so one at least comes
pub one-chosen : (left : ℕ) (g : Lcg) (m : Machine) (o : Option CodeEvent) → (left ≡ 0 → ⊥) → option_map event_of o ≡ chosen_at g m
    → IfSome o (λ e. 1 ≤ length (coming_by left g (start_of m) (world_of m)))
unfolding started picked first_words
one-chosen left g m None h c = tt
one-chosen left g m (Some e) h c =
    let rest = picked (settings_of m) (program_of m) (words (left - 1) (pcg32 g).1) in
    let first : coming_by left g (start_of m) (world_of m) ≡ pick (settings_of m) (program_of m) (world_of m) rest (Some (event_of e)) =
    ap (λ k. picks k g m) (suc-of left (left - 1) refl h)
    ∙ ap (pick (settings_of m) (program_of m) (world_of m) rest) (sym c) in
    omega (arith, ap length first)
