-- Whether an event is held back, by what is kept beside the machine.
use Rattle.std.proofs.Common.{◌≡◌, ℕ, ◌<◌, Bool, true, false, Option, Some, None, refl, ap, sym, ◌∙◌, subst}
use Rattle.std.specs.Prelude.{◌↔◌, Err, IsErrOf, get_or, is_some, nat_lt, if◌then◌else◌}
use Rattle.image_load.specs.Contents.{started}
use Rattle.rules_maps.specs.Nodes.{Core, Deliver, Dir, Event, Evict, Exec, Vendor}
use Rattle.rules_tcc.specs.Step.{History, Stepped, names_nodes, next_history, recorded, step}
use Rattle.rules_phases.specs.Phased.{is_held, phased_next}
use Rattle.net_core.specs.Answers.{step_of}
use Rattle.net_core.specs.Machine.{Machine, history_of, program_of, settings_of, start_of}
use Rattle.net_core.specs.declared.taking.Step.{Step}
use Rattle.net_core.specs.declared.taking.StepError.{StepError}
use Rattle.net_core.specs.declared.taking.StepError.TheVariants.{Memory, Refused}
use Rattle.tcc_phase.specs.Answers.{cause_of, next_of}
use Rattle.tcc_phase.specs.Kept.{HasRows, IsKept}
use Rattle.tcc_phase.specs.Phased.{PhaseMachine}
use Rattle.tcc_phase.specs.Requests.{asker, is_below}
use Rattle.tcc_phase.specs.declared.standing.Standing.{Standing}
use Rattle.tcc_phase.proofs.Requests.Behind.{behind-late}

abbrev pub goes : Machine → Event → Option History
goes m e = next_history (settings_of m) (program_of m) (history_of m) e

abbrev pub Holds : Machine → Event → Bool → Type 0
Holds m e b = next_of m e ≡ (if b then None else goes m e)

-- the same settings
pub rows-by : (m n : Machine) (l : Standing) → n.cores.code ≡ m.cores.code → IsKept (start_of m) (history_of m) m.events l
    → HasRows (settings_of n).cores l
unfolding started
rows-by m n l e kept = subst (λ k. HasRows k.settings.cores l) (sym e) kept.rows

-- a request is held back where its core is late
pub by-late : (m : Machine) (l : Standing) (c k : ℕ) (b : Bool) → IsKept (start_of m) (history_of m) m.events l
    → c < (settings_of m).cores → b ≡ is_below l.least (get_or l.own.items c 0) → Holds m (Deliver (Core c) Vendor k) b
unfolding started history_of phased_next is_held
by-late m l c k b kept h e =
    let q : is_held (start_of m) (history_of m) (Deliver (Core c) Vendor k) ≡ b =
    behind-late (start_of m) (history_of m) l.own.items kept.own c h ∙ kept.limits c h ∙ sym e in
    ap (λ t. if t then None else goes m (Deliver (Core c) Vendor k)) q

-- where the core doesn't exist nothing happens
pub by-absent : (m : Machine) (c k : ℕ) → nat_lt c (settings_of m).cores ≡ false → Holds m (Deliver (Core c) Vendor k) false
unfolding started history_of phased_next next_history step names_nodes
by-absent m c k e = go (is_held (start_of m) (history_of m) (Deliver (Core c) Vendor k))
  where
    nothing : goes m (Deliver (Core c) Vendor k) ≡ None
    nothing = rw e refl

    go : (b : Bool) → (if b then None else goes m (Deliver (Core c) Vendor k)) ≡ goes m (Deliver (Core c) Vendor k)
    go true = sym nothing
    go false = refl

-- what isn't held back happens as without phases
pub by-free : (m : Machine) (e : Event) → is_held (start_of m) (history_of m) e ≡ false → Holds m e false
unfolding started history_of phased_next
by-free m e h = ap (λ t. if t then None else goes m e) h

-- what was asked of the machine itself
pub goes-some : (m : Machine) (e : Event) → is_some (goes m e) ≡ is_some (step_of m e)
unfolding next_history history_of
goes-some m e = go (step_of m e)
  where
    go : (o : Option Stepped) → is_some (recorded (history_of m) o) ≡ is_some o
    go None = refl
    go (Some o) = refl

pub goes-none : (m : Machine) (e : Event) → step_of m e ≡ None → goes m e ≡ None
unfolding next_history history_of
goes-none m e q = ap (recorded (history_of m)) q

pub none-goes : (m : Machine) (e : Event) → goes m e ≡ None → step_of m e ≡ None
unfolding next_history history_of
none-goes m e q = go (step_of m e) q
  where
    go : (o : Option Stepped) → recorded (history_of m) o ≡ None → o ≡ None
    go None q = refl
    go (Some o) q = absurd (cc)

-- ---- by the core that asks

asker-none : (m : Machine) (e : Event) → asker e ≡ None → is_held (start_of m) (history_of m) e ≡ false
unfolding is_held
asker-none m (Exec c) q = refl
asker-none m (Evict c x y) q = refl
asker-none m (Deliver (Core c) (Core d) k) q = refl
asker-none m (Deliver (Core c) (Dir d) k) q = refl
asker-none m (Deliver (Core c) Vendor k) q = absurd (cc)
asker-none m (Deliver (Dir c) d k) q = refl
asker-none m (Deliver Vendor d k) q = refl

pub free-of : (m : Machine) (e : Event) → asker e ≡ None → Holds m e false
free-of m e q = by-free m e (asker-none m e q)

pub late-of : (m : Machine) (l : Standing) (e : Event) (c : ℕ) (b : Bool) → asker e ≡ Some c
    → IsKept (start_of m) (history_of m) m.events l → c < (settings_of m).cores
    → b ≡ is_below l.least (get_or l.own.items c 0) → Holds m e b
late-of m l (Exec d) c b q kept h e = absurd (cc)
late-of m l (Evict d x y) c b q kept h e = absurd (cc)
late-of m l (Deliver (Core d) (Core f) k) c b q kept h e = absurd (cc)
late-of m l (Deliver (Core d) (Dir f) k) c b q kept h e = absurd (cc)
late-of m l (Deliver (Core d) Vendor k) c b q kept h e =
    let s : d ≡ c = cc in subst (λ x. Holds m (Deliver (Core x) Vendor k) b) (sym s) (by-late m l c k b kept h e)
late-of m l (Deliver (Dir d) f k) c b q kept h e = absurd (cc)
late-of m l (Deliver Vendor f k) c b q kept h e = absurd (cc)

pub absent-of : (m : Machine) (e : Event) (c : ℕ) → asker e ≡ Some c → nat_lt c (settings_of m).cores ≡ false → Holds m e false
absent-of m (Exec d) c q h = absurd (cc)
absent-of m (Evict d x y) c q h = absurd (cc)
absent-of m (Deliver (Core d) (Core f) k) c q h = absurd (cc)
absent-of m (Deliver (Core d) (Dir f) k) c q h = absurd (cc)
absent-of m (Deliver (Core d) Vendor k) c q h =
    let s : d ≡ c = cc in subst (λ x. Holds m (Deliver (Core x) Vendor k) false) (sym s) (by-absent m c k h)
absent-of m (Deliver (Dir d) f k) c q h = absurd (cc)
absent-of m (Deliver Vendor f k) c q h = absurd (cc)

-- ---- what is answered where an event isn't taken

pub refused-so : (m : Machine) (e : Event) (x : StepError) → next_of m e ≡ goes m e → x ≡ cause_of (is_some (step_of m e))
    → IsErrOf {T = Step} (Err x) Refused ↔ (next_of m e ≡ None)
refused-so m e x free q = go (step_of m e) refl x q
  where
    go : (o : Option Stepped) → step_of m e ≡ o → (x : StepError) → x ≡ cause_of (is_some o)
        → IsErrOf {T = Step} (Err x) Refused ↔ (next_of m e ≡ None)
    go None s Refused q = (λ r. free ∙ goes-none m e s, λ r. refl)
    go None s Memory q = absurd (cc)
    go (Some o) s Refused q = absurd (cc)
    go (Some o) s Memory q = (λ r. absurd (cc), λ r. let n = none-goes m e (sym free ∙ r) in absurd (cc))

pub refused-as : (m : Machine) (e : Event) (x : StepError) → next_of m e ≡ goes m e
    → IsErrOf {T = Step} (Err x) Refused ↔ (step_of m e ≡ None)
    → IsErrOf {T = Step} (Err x) Refused ↔ (next_of m e ≡ None)
refused-as m e x free r = (λ q. free ∙ goes-none m e (r.0 q), λ q. r.1 (none-goes m e (sym free ∙ q)))

pub free-in : (p q : PhaseMachine) (e : Event) (b : Bool) → p ≡ q → Holds q.refined.machine e b → b ≡ false
    → next_of p.refined.machine e ≡ goes p.refined.machine e
free-in p q e b v h f =
    subst (λ (x : PhaseMachine). next_of x.refined.machine e ≡ goes x.refined.machine e) (sym v)
    (h ∙ ap (λ t. if t then None else goes q.refined.machine e) f)
