-- The useful events of a bank, as its trees of counts find them.
use Rattle.std.proofs.Common.{◌≡◌, ℕ, ◌<◌, List, length, true, false, Option, Some, None, ap, sym, ◌∙◌}
use Rattle.std.specs.Prelude.{get_or, slice_get, sum}
use Rattle.std.specs.Option.{option_map}
use Rattle.std.proofs.lemmas.Option.{slice_get-get_or}
use Rattle.base_lemmas.proofs.Lemmas.{never}
use Rattle.image_load.specs.Contents.{started}
use Rattle.rv_code.specs.Machine.{program}
use Rattle.rules_maps.specs.Nodes.{Event, Exec, Evict}
use Rattle.core_node.specs.Useful.{useful_evicts}
use Rattle.core_node.specs.View.{core_of}
use Rattle.core_node.specs.declared.state.Core.{Core}
use Rattle.base_sums.specs.Falls.{FallsAt}
use Rattle.machine_cores.specs.Bank.{CoresData, cores_of}
use Rattle.machine_cores.specs.BankInside.{IsBank, bank_of}
use Rattle.machine_cores.specs.Uses.{evict_events, exec_events}
use Rattle.machine_cores.specs.declared.bank.CoreBank.TheInside.{Inside}
use Rattle.machine_cores.proofs.Totals.{evict-found, evict-past, evict-total, exec-found, exec-past, exec-total}

abbrev pub execs : CoresData → List Event
execs d = exec_events d.code.settings (program (started d.code)) (cores_of d)

abbrev pub evicts : CoresData → List Event
evicts d = evict_events d.code.settings (program (started d.code)) (cores_of d)

pub exec-totals : (b : Inside) (now : CoresData) → IsBank b → bank_of b ≡ now → sum b.execs ≡ length (execs now)
exec-totals b now h e = exec-total _ _ _ b.execs b.evicts h.counted ∙ ap (λ d. length (execs d)) e

pub exec-pasts : (b : Inside) (now : CoresData) (k : ℕ) → IsBank b → bank_of b ≡ now → (k < sum b.execs → false ≡ true)
    → slice_get (execs now) k ≡ None
exec-pasts b now k h e l = ap (λ d. slice_get (execs d) k) (sym e) ∙ exec-past _ _ _ b.execs b.evicts k h.counted (λ q. never (l q))

pub exec-founds : (b : Inside) (now : CoresData) (k c r : ℕ) → IsBank b → bank_of b ≡ now → FallsAt b.execs k c r
    → slice_get (execs now) k ≡ Some (Exec c)
exec-founds b now k c r h e a = ap (λ d. slice_get (execs d) k) (sym e) ∙ exec-found _ _ _ b.execs b.evicts k c r h.counted a

pub evict-totals : (b : Inside) (now : CoresData) → IsBank b → bank_of b ≡ now → sum b.evicts ≡ length (evicts now)
evict-totals b now h e = evict-total _ _ _ b.execs b.evicts h.counted ∙ ap (λ d. length (evicts d)) e

pub evict-pasts : (b : Inside) (now : CoresData) (k : ℕ) → IsBank b → bank_of b ≡ now → (k < sum b.evicts → false ≡ true)
    → slice_get (evicts now) k ≡ None
evict-pasts b now k h e l = ap (λ d. slice_get (evicts d) k) (sym e) ∙ evict-past _ _ _ b.execs b.evicts k h.counted (λ q. never (l q))

-- the useful evictions of one of the cores
abbrev useful : CoresData → ℕ → List (ℕ × ℕ)
useful d c = useful_evicts d.code.settings (program (started d.code)) (cores_of d c)

useful-of : (b : Inside) (now : CoresData) (c : ℕ) (x : Core) → bank_of b ≡ now → x.config ≡ now.code.settings → core_of x ≡ cores_of now c
    → useful_evicts x.config (program (started b.code)) (core_of x) ≡ useful now c
useful-of b now c x e f g =
    ap (λ s. useful_evicts s (program (started b.code)) (core_of x)) f
    ∙ ap (useful_evicts now.code.settings (program (started b.code))) g
    ∙ ap (λ d. useful_evicts now.code.settings (program (started d.code)) (cores_of now c)) e

-- what the core answers is what the bank is asked for
pub evict-founds : (b : Inside) (now : CoresData) (k c r : ℕ) (x : Core) (o : Option (ℕ × ℕ)) → IsBank b → bank_of b ≡ now
    → FallsAt b.evicts k c r → x.config ≡ now.code.settings → core_of x ≡ cores_of now c
    → o ≡ slice_get (useful_evicts x.config (program (started b.code)) (core_of x)) r
    → option_map (λ q. Evict c q.0 q.1) o ≡ slice_get (evicts now) k
evict-founds b now k c r x o h e a f g q =
    let at = evict-found _ _ _ b.execs b.evicts k c r h.counted a in
    ap (option_map (λ q. Evict c q.0 q.1)) (q ∙ ap (λ qs. slice_get qs r) (useful-of b now c x e f g))
    ∙ ap (λ d. option_map (λ q. Evict c q.0 q.1) (slice_get (useful d c) r)) (sym e)
    ∙ sym at.1 ∙ ap (λ d. slice_get (evicts d) k) e

-- it has an answer
pub evict-there : (b : Inside) (now : CoresData) (k c r : ℕ) (x : Core) (o : Option (ℕ × ℕ)) → IsBank b → bank_of b ≡ now
    → FallsAt b.evicts k c r → x.config ≡ now.code.settings → core_of x ≡ cores_of now c
    → o ≡ slice_get (useful_evicts x.config (program (started b.code)) (core_of x)) r → o ≡ None → ⊥
evict-there b now k c r x o h e a f g q n =
    let at = evict-found _ _ _ b.execs b.evicts k c r h.counted a in
    let some : slice_get (useful (bank_of b) c) r ≡ Some (get_or (useful (bank_of b) c) r (0, 0)) =
    slice_get-get_or (useful (bank_of b) c) r (0, 0) at.0 in
    let same : slice_get (useful now c) r ≡ None = ap (λ qs. slice_get qs r) (sym (useful-of b now c x e f g)) ∙ sym q ∙ n in
    let here : slice_get (useful (bank_of b) c) r ≡ None = ap (λ d. slice_get (useful d c) r) e ∙ same in
    cc
