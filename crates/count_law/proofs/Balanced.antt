-- After each run the counts of messages add up.
use Rattle.std.proofs.Common.{◌≡◌, ◌<◌, ◌+◌, ℕ, List, [], ◌∷◌, Option, Some, None, IfSome, get_or, length, sum_by}
use Rattle.std.proofs.Common.{refl, sym, subst, arith}
use Rattle.std.proofs.lemmas.List.{get_or-replicate, length-replicate}
use Rattle.rv_code.specs.Machine.{program}
use Rattle.image_load.specs.Start.{first_ram}
use Rattle.rules_riscv.specs.Starting.{local_at_start, world_at_start, at_start}
use Rattle.rules_maps.specs.Nodes.{Event}
use Rattle.rules_maps.specs.Shape.{Shape}
use Rattle.rules_program.specs.Program.{Local, Program}
use Rattle.rules_tcc.specs.State.{start}
use Rattle.rules_tcc.specs.Step.{History, Stepped, and_noted, and_then, next_history, recorded, run, run_from, step}
use Rattle.rules_tcc.specs.Useful.{nodes}
use Rattle.watch.specs.Happened.{actor, facts_of, happened}
use Rattle.watch_count.specs.Counts.{Counts, event_counted, nothing_counted, run_counted}
use Rattle.watch_count.specs.Messages.{no_messages}
use Rattle.watch_count.specs.declared.messages.MessageCounts.{MessageCounts}
use Rattle.watch_run.specs.Looked.{and_later, counts_of_run, run_facts}
use Rattle.count_law.specs.Messages.{SentAddUp, MessagesAddUp, messages_of, flying_on, flying}
use Rattle.count_law.proofs.Flown.{Flown, step-flown}
use Rattle.count_law.proofs.Heard.{Heard, all_sends, all_ends, event-heard, event-as-many}
use Rattle.count_law.proofs.Nodes.{sum-none}

-- these counts add up in this state
abbrev Balanced : Shape → (kind : ℕ) → History → Counts → Type 0
Balanced sh k h c = SentAddUp (get_or c.messages k no_messages) (flying sh k h.world.net)

event-balanced : (m n : MessageCounts) (x y f g : ℕ) → Heard m n x y → g + y ≡ f + x → SentAddUp m f → SentAddUp n g
event-balanced m n x y f g heard flown was = omega (arith, heard.sent, heard.ended, flown, was)

-- after a run from this state and these counts
abbrev BalancedAfter : Shape → Program → (kind : ℕ) → List Event → History → Counts → Type 0
BalancedAfter sh p k es h c = IfSome (run_from sh p es h) (λ g. Balanced sh k g (run_counted (run_facts sh p es h) c))

runs-balanced : (sh : Shape) (p : Program) (k : ℕ) (es : List Event) (h : History) (c : Counts) → k < length c.messages
    → Balanced sh k h c → BalancedAfter sh p k es h c
unfolding run_from next_history run_facts run_counted happened
runs-balanced sh p k [] h c lt was = was
runs-balanced sh p k (e ∷ es) h c lt was = go (step sh p h.world e) (step-flown sh p k h e) (runs-balanced sh p k es)
  where
    go : (o : Option Stepped) → IfSome o (λ t. Flown sh k h.world t.world (facts_of sh p h e (Some t)))
        → ((g : History) (d : Counts) → k < length d.messages → Balanced sh k g d → BalancedAfter sh p k es g d)
        → IfSome (and_then (run_from sh p es) (recorded h o)) (λ g. Balanced sh k g
        (run_counted (and_later (actor e, facts_of sh p h e o) (run_facts sh p es) (recorded h o)) c))
    go None flown rest = tt
    go (Some t) flown rest =
        let facts = facts_of sh p h e (Some t) in
        let d = event_counted (actor e) facts c in
        rest (record { world = t.world; commits = and_noted t.noted h.commits }) d
        (subst (λ n. k < n) (sym (event-as-many (actor e) facts c)) lt)
        (event-balanced (get_or c.messages k no_messages) (get_or d.messages k no_messages) (all_sends k facts) (all_ends k facts)
        (flying sh k h.world.net) (flying sh k t.world.net) (event-heard (actor e) k facts c lt) flown was)

-- nothing is in flight at the start
none-from : (sh : Shape) (k : ℕ) → sum_by (λ dst. flying_on k []) (nodes sh) ≡ 0
unfolding flying_on
none-from sh k = sum-none (nodes sh)

first-flying : (sh : Shape) (k : ℕ) (entries : ℕ → Local) (ram : ℕ → ℕ) → flying sh k (start entries ram).net ≡ 0
unfolding flying start
first-flying sh k entries ram = subst (λ n. sum_by (λ src. n) (nodes sh) ≡ 0) (sym (none-from sh k)) (sum-none (nodes sh))

first-row : (n k : ℕ) → k < 15 → get_or (nothing_counted n).messages k no_messages ≡ no_messages
unfolding nothing_counted
first-row n k lt = get_or-replicate 15 k no_messages no_messages lt

fifteen : (n : ℕ) → length (nothing_counted n).messages ≡ 15
unfolding nothing_counted
fifteen n = length-replicate 15 no_messages

first-balanced : (m : MessageCounts) (f : ℕ) → m ≡ no_messages → f ≡ 0 → SentAddUp m f
first-balanced m f e none = rw (e, none) refl

pub messages-add-up : MessagesAddUp
unfolding run counts_of_run
messages-add-up s es = go (run s.settings (program s) (world_at_start s) es) each
  where
    c : Counts
    c = nothing_counted s.settings.cores

    each : (k : ℕ) → k < 15 → BalancedAfter s.settings (program s) k es (at_start s) c
    each k lt =
        runs-balanced s.settings (program s) k es (at_start s) c (subst (λ n. k < n) (sym (fifteen s.settings.cores)) lt)
        (first-balanced (get_or c.messages k no_messages) (flying s.settings k (at_start s).world.net)
        (first-row s.settings.cores k lt) (first-flying s.settings k (local_at_start s) (first_ram s)))

    go : (x : Option History) → ((k : ℕ) → k < 15 → IfSome x (λ h. SentAddUp (messages_of s es k) (flying s.settings k h.world.net)))
        → IfSome x (λ h. (k : ℕ) → k < 15 → SentAddUp (messages_of s es k) (flying s.settings k h.world.net))
    go None each = tt
    go (Some h) each = each
