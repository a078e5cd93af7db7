-- The further events of a run whose machine forgets: they do, and show, what they do in the whole.
use Rattle.std.proofs.Common.{◌≡◌, ℕ, zero, suc, ◌+◌, List, [], ◌∷◌, ◌++◌, length, append-nil, append_assoc, Option, Some, None}
use Rattle.std.proofs.Common.{refl, ap, sym, subst, ◌∙◌, arith}
use Rattle.image_load.specs.Start.{Start}
use Rattle.rv_code.specs.Machine.{program}
use Rattle.rules_maps.specs.Nodes.{Event}
use Rattle.rules_maps.specs.Shape.{Shape}
use Rattle.rules_program.specs.Program.{Program}
use Rattle.rules_riscv.specs.Starting.{at_start, world_at_start}
use Rattle.rules_tcc.specs.Step.{History, Stepped, and_then, next_history, recorded, run, run_from, step}
use Rattle.schedule_text.specs.Grammar.{joined}
use Rattle.watch_trace.specs.Text.{event_and_facts}
use Rattle.watch_trace.proofs.Lemmas.{run-more}
use Rattle.watch_changes.specs.Text.{Shows, if_shown, if_taken, shown_from, shown_texts}
use Rattle.watch_run.specs.Forgetting.{IsKeptOf}
use Rattle.watch_run.proofs.Kept.{goes-along}

-- one event more
run-one : (s : Start) (es : List Event) (e : Event) (h k : History) → run s.settings (program s) (world_at_start s) es ≡ Some h
    → next_history s.settings (program s) h e ≡ Some k → run s.settings (program s) (world_at_start s) (es ++ e ∷ []) ≡ Some k
unfolding run
run-one s es e h k r n = run-more s.settings (program s) es e (at_start s) h r ∙ n

-- an event that isn't enabled in what is kept isn't in the whole
none-along : (sh : Shape) (p : Program) (e : Event) (kept h : History) → kept.world ≡ h.world → next_history sh p kept e ≡ None
    → next_history sh p h e ≡ None
unfolding next_history
none-along sh p e kept h w n = go (step sh p h.world e) refl ((λ i. recorded kept (step sh p (sym w i) e)) ∙ n)
  where
    go : (o : Option Stepped) → step sh p h.world e ≡ o → recorded kept o ≡ None → recorded h (step sh p h.world e) ≡ None
    go None q m = ap (recorded h) q
    go (Some o) q m = absurd (cc)

-- ---- what is shown

texts-along : (x : Shows) (s : Start) (firsts es : List Event) (kept h : History)
    → run s.settings (program s) (world_at_start s) firsts ≡ Some h → IsKeptOf s.settings kept h
    → shown_texts x s.settings (program s) es kept ≡ shown_texts x s.settings (program s) es h
unfolding shown_texts
texts-along x s firsts [] kept h r k = refl
texts-along x s firsts (e ∷ es) kept h r k =
    go (λ mid later ran keeps. texts-along x s (firsts ++ e ∷ []) es mid later ran keeps) (next_history s.settings (program s) kept e) refl
  where
    rest : History → List (List ℕ)
    rest = shown_texts x s.settings (program s) es

    go : ((mid later : History) → run s.settings (program s) (world_at_start s) (firsts ++ e ∷ []) ≡ Some later
        → IsKeptOf s.settings mid later → rest mid ≡ rest later)
        → (o : Option History) → next_history s.settings (program s) kept e ≡ o
        → if_shown x s.settings (program s) e kept rest o
        ≡ if_shown x s.settings (program s) e h rest (next_history s.settings (program s) h e)
    go behind None n = sym (ap (if_shown x s.settings (program s) e h rest) (none-along s.settings (program s) e kept h k.world n))
    go behind (Some mid) n =
        let g = goes-along s firsts e kept h mid r k n in
        (λ i. (event_and_facts e (g.facts i) ++ x.event (k.world i) (g.keeps.world i) e)
        ∷ behind mid g.later (run-one s firsts e h g.later r g.next) g.keeps i)
        ∙ sym (ap (if_shown x s.settings (program s) e h rest) g.next)

pub lines-along : (x : Shows) (s : Start) (firsts es : List Event) (kept h : History) (from : ℕ)
    → run s.settings (program s) (world_at_start s) firsts ≡ Some h → IsKeptOf s.settings kept h
    → shown_from x s.settings (program s) from es kept ≡ shown_from x s.settings (program s) from es h
unfolding shown_from
lines-along x s firsts es kept h zero r k = λ i. x.begins (k.world i) ++ joined (texts-along x s firsts es kept h r k i)
lines-along x s firsts [] kept h (suc from) r k = refl
lines-along x s firsts (e ∷ es) kept h (suc from) r k =
    go (λ mid later ran keeps. lines-along x s (firsts ++ e ∷ []) es mid later from ran keeps)
    (next_history s.settings (program s) kept e) refl
  where
    rest : History → List ℕ
    rest = shown_from x s.settings (program s) from es

    go : ((mid later : History) → run s.settings (program s) (world_at_start s) (firsts ++ e ∷ []) ≡ Some later
        → IsKeptOf s.settings mid later → rest mid ≡ rest later)
        → (o : Option History) → next_history s.settings (program s) kept e ≡ o
        → if_taken rest o ≡ if_taken rest (next_history s.settings (program s) h e)
    go behind None n = sym (ap (if_taken rest) (none-along s.settings (program s) e kept h k.world n))
    go behind (Some mid) n =
        let g = goes-along s firsts e kept h mid r k n in
        behind mid g.later (run-one s firsts e h g.later r g.next) g.keeps ∙ sym (ap (if_taken rest) g.next)

-- events before those that are shown are passed over
pub passed-over : (x : Shows) (sh : Shape) (p : Program) (firsts more : List Event) (h k : History) (from : ℕ)
    → run_from sh p firsts h ≡ Some k → shown_from x sh p (length firsts + from) (firsts ++ more) h ≡ shown_from x sh p from more k
unfolding run_from shown_from
passed-over x sh p [] more h k from r =
    let same : h ≡ k = cc in
    let none : length {A = Event} [] + from ≡ from = omega arith in
    λ i. shown_from x sh p (none i) more (same i)
passed-over x sh p (e ∷ firsts) more h k from r =
    let one : length (e ∷ firsts) + from ≡ suc (length firsts + from) = omega arith in
    ap (λ n. shown_from x sh p n (e ∷ (firsts ++ more)) h) one
    ∙ go (λ j q. passed-over x sh p firsts more j k from q) (next_history sh p h e) r
  where
    rest : History → List ℕ
    rest = shown_from x sh p (length firsts + from) (firsts ++ more)

    go : ((j : History) → run_from sh p firsts j ≡ Some k → rest j ≡ shown_from x sh p from more k) → (o : Option History)
        → and_then (run_from sh p firsts) o ≡ Some k → if_taken rest o ≡ shown_from x sh p from more k
    go behind None q = absurd (cc)
    go behind (Some j) q = behind j q

-- ---- where they lead

-- the rules lead by all these events to a history of which this is kept
pub record RanAlong (s : Start) (all : List Event) (now : History) : Type 0 where
  pub later : History
  pub ran : run s.settings (program s) (world_at_start s) all ≡ Some later
  pub keeps : IsKeptOf s.settings now later

pub ran-along : (s : Start) (firsts es : List Event) (kept h now : History)
    → run s.settings (program s) (world_at_start s) firsts ≡ Some h → IsKeptOf s.settings kept h
    → run_from s.settings (program s) es kept ≡ Some now → RanAlong s (firsts ++ es) now
unfolding run_from
ran-along s firsts [] kept h now r k q =
    let same : kept ≡ now = cc in
    record {
      later = h;
      ran = ap (run s.settings (program s) (world_at_start s)) (append-nil firsts) ∙ r;
      keeps = subst (λ x. IsKeptOf s.settings x h) same k;
    }
ran-along s firsts (e ∷ es) kept h now r k q =
    go (λ mid later ran keeps m. ran-along s (firsts ++ e ∷ []) es mid later now ran keeps m)
    (next_history s.settings (program s) kept e) refl q
  where
    go : ((mid later : History) → run s.settings (program s) (world_at_start s) (firsts ++ e ∷ []) ≡ Some later
        → IsKeptOf s.settings mid later → run_from s.settings (program s) es mid ≡ Some now
        → RanAlong s ((firsts ++ e ∷ []) ++ es) now)
        → (o : Option History) → next_history s.settings (program s) kept e ≡ o
        → and_then (run_from s.settings (program s) es) o ≡ Some now → RanAlong s (firsts ++ e ∷ es) now
    go behind None n m = absurd (cc)
    go behind (Some mid) n m =
        let g = goes-along s firsts e kept h mid r k n in
        subst (λ all. RanAlong s all now) (append_assoc firsts (e ∷ []) es)
        (behind mid g.later (run-one s firsts e h g.later r g.next) g.keeps m)
