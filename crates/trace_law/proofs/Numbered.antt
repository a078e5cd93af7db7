-- After each run the messages that are told as sent on a link are numbered.
use Rattle.std.proofs.Common.{◌≡◌, ℕ, true, List, [], ◌∷◌, ◌++◌, Option, Some, None, IfSome, length, sym, ap, ◌∙◌}
use Rattle.std.proofs.lemmas.List.{append-nil, append_assoc}
use Rattle.rules_maps.specs.Nodes.{Node, Event}
use Rattle.rules_maps.specs.Shape.{Shape}
use Rattle.rules_program.specs.Program.{Program}
use Rattle.rules_tcc.specs.Laws.{counting}
use Rattle.rules_tcc.specs.Step.{History, Stepped, and_noted, and_then, is_node, next_history, recorded, run, run_from, step}
use Rattle.watch.specs.Facts.{Fact}
use Rattle.watch.specs.Happened.{actor, acted, facts_of, happened}
use Rattle.trace_law.specs.Sent.{SentNumbered, numbers_in}
use Rattle.trace_law.specs.Told.{if_enabled, told, facts_in, begun}
use Rattle.trace_law.proofs.Events.{event-grown, event-numbers}
use Rattle.trace_law.proofs.Grown.{numbers-append, numbers-grown}
use Rattle.trace_law.proofs.Outcomes.{Happens, step-outcome}

-- the numbers that were told before with those of an event
event-numbered : (sh : Shape) (p : Program) (h : History) (e : Event) (t : Stepped) (s d : Node) → is_node sh d ≡ true
    → Happens sh p h e t.world → counting 0 (length (h.world.net s d)) ++ numbers_in s d (facts_of sh p h e (Some t))
    ≡ counting 0 (length (t.world.net s d))
event-numbered sh p h e t s d node o =
    ap (λ ks. counting 0 (length (h.world.net s d)) ++ ks) (event-numbers sh p h e t o s d)
    ∙ numbers-grown sh h.world t.world (actor e) s d
    (event-grown h.world t.world e (acted sh p h.commits h.world t.world e) o.did) node

runs-numbered : (sh : Shape) (p : Program) (s d : Node) → is_node sh d ≡ true → (es : List Event) (h : History) (before : List ℕ)
    → before ≡ counting 0 (length (h.world.net s d))
    → IfSome (run_from sh p es h) (λ g. before ++ numbers_in s d (facts_in (told sh p es h)) ≡ counting 0 (length (g.world.net s d)))
unfolding run_from next_history told facts_in numbers_in happened
runs-numbered sh p s d node [] h before was = append-nil before ∙ was
runs-numbered sh p s d node (e ∷ es) h before was = go (step sh p h.world e) (step-outcome sh p h e) (runs-numbered sh p s d node es)
  where
    go : (o : Option Stepped) → IfSome o (λ t. Happens sh p h e t.world)
        → ((i : History) (now : List ℕ) → now ≡ counting 0 (length (i.world.net s d))
        → IfSome (run_from sh p es i) (λ g. now ++ numbers_in s d (facts_in (told sh p es i)) ≡ counting 0 (length (g.world.net s d))))
        → IfSome (and_then (run_from sh p es) (recorded h o)) (λ g. before ++ numbers_in s d
        (facts_in (if_enabled (record { event = e; facts = facts_of sh p h e o }) (told sh p es) (recorded h o)))
        ≡ counting 0 (length (g.world.net s d)))
    go None did rest = tt
    go (Some t) did rest = last (run_from sh p es i) (rest i (before ++ numbers_in s d facts) now)
      where
        i : History
        i = record { world = t.world; commits = and_noted t.noted h.commits }

        facts : List Fact
        facts = facts_of sh p h e (Some t)

        now : before ++ numbers_in s d facts ≡ counting 0 (length (t.world.net s d))
        now = ap (λ ks. ks ++ numbers_in s d facts) was ∙ event-numbered sh p h e t s d node did

        later : List Fact
        later = facts_in (told sh p es i)

        last : (x : Option History)
            → IfSome x (λ g. (before ++ numbers_in s d facts) ++ numbers_in s d later ≡ counting 0 (length (g.world.net s d)))
            → IfSome x (λ g. before ++ numbers_in s d (facts ++ later) ≡ counting 0 (length (g.world.net s d)))
        last None q = tt
        last (Some g) q =
            ap (λ ks. before ++ ks) (numbers-append s d facts later)
            ∙ sym (append_assoc before (numbers_in s d facts) (numbers_in s d later)) ∙ q

pub sent-numbered : SentNumbered
unfolding run counting
sent-numbered sh p w es none = go (run sh p w es) each
  where
    each : (s d : Node) → is_node sh d ≡ true
        → IfSome (run_from sh p es (begun w))
        (λ h. numbers_in s d (facts_in (told sh p es (begun w))) ≡ counting 0 (length (h.world.net s d)))
    each s d node = runs-numbered sh p s d node es (begun w) [] (ap (λ l. counting 0 (length l)) (sym (none s d)))

    go : (x : Option History)
        → ((s d : Node) → is_node sh d ≡ true
        → IfSome x (λ h. numbers_in s d (facts_in (told sh p es (begun w))) ≡ counting 0 (length (h.world.net s d))))
        → IfSome x (λ h. (s d : Node) → is_node sh d ≡ true
        → numbers_in s d (facts_in (told sh p es (begun w))) ≡ counting 0 (length (h.world.net s d)))
    go None each = tt
    go (Some h) each = each
