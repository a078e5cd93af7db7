-- How many entries are in logs.
use Rattle.std.proofs.Common.{◌≡◌, ℕ, zero, suc, ◌+◌, List, [], ◌∷◌, ◌++◌, length, refl, ap, sym, ◌∙◌, arith, append-nil}
use Rattle.std.specs.Prelude.{reverse, All}
use Rattle.std.proofs.lemmas.List.{reverse-append, length-append}
use Rattle.std.proofs.lemmas.List.Elements.{All-head, All-tail}
use Rattle.rand_pcg.specs.Lcg.{Lcg}
use Rattle.apart_node.specs.Acts.{AnswersAct}
use Rattle.apart_node.specs.Node.{NodeData}
use Rattle.apart_node.specs.declared.node.Act.{Act}
use Rattle.apart_node.specs.declared.node.Act.TheVariants.{Moved, Idle, Memory}
use Rattle.rules_apart.specs.declared.logs.Logged.{Logged}
use Rattle.node_locks.specs.Turns.{ActedOn, MovedOn, entries_by, entries_in, moved_in}
use Rattle.node_locks.specs.Wiring.{logs_of}
use Rattle.node_locks.specs.declared.acts.Acts.{Acts}

-- an act adds what it is counted for
pub entries-more : (old new : NodeData) (pick : ℕ) (answer : Act) → AnswersAct old pick new answer
    → length new.log ≡ length old.log + entries_by answer
entries-more old new pick Moved h =
    ap length (h.1.1.performs.log ∙ ap (λ l. l ++ h.1.1.performs.entry ∷ []) h.1.0.log) ∙ length-append old.log (h.1.1.performs.entry ∷ [])
entries-more old new pick Idle h = omega (arith, ap length h.0.log)
entries-more old new pick Memory h = omega (arith, ap length h.log)

-- as many entries are added as acts moved
entries-moved : (old new : NodeData) (g : Lcg) (n : ℕ) → MovedOn old g n new → length new.log ≡ length old.log + n
unfolding MovedOn
entries-moved old new g zero h = omega (arith, ap (λ (x : NodeData). length x.log) h)
entries-moved old new g (suc n) h = omega (arith, entries-moved old h.0 g n h.1.0, entries-more h.0 new _ Moved h.1.1)

pub entries-turn : (old new : NodeData) (g : Lcg) (t : Acts) → ActedOn old g new t → length new.log ≡ length old.log + moved_in t
entries-turn old new g t h = omega (arith, entries-moved old h.mid g t.before h.moved, entries-more h.mid new _ t.last h.last)

pub reverse-last : (nodes : List NodeData) (n : NodeData) → reverse (nodes ++ n ∷ []) ≡ n ∷ reverse nodes
reverse-last nodes n = reverse-append nodes (n ∷ [])

pub logs-first : (n : NodeData) (nodes : List NodeData) → logs_of (n ∷ nodes) ≡ n.log ∷ logs_of nodes
unfolding logs_of
logs-first n nodes = refl

pub entries-first : (n : NodeData) (nodes : List NodeData) → entries_in (logs_of (n ∷ nodes)) ≡ length n.log + entries_in (logs_of nodes)
unfolding logs_of entries_in
entries-first n nodes = refl

pub entries-last : (nodes : List NodeData) (n : NodeData) → entries_in (logs_of (nodes ++ n ∷ [])) ≡ entries_in (logs_of nodes) + length
    n.log
unfolding logs_of entries_in
entries-last [] n = omega arith
entries-last (m ∷ nodes) n = omega (arith, entries-last nodes n)

pub entries-none : (nodes : List NodeData) → All (λ log. log ≡ []) (logs_of nodes) → entries_in (logs_of nodes) ≡ 0
unfolding logs_of entries_in
entries-none [] h = refl
entries-none (n ∷ nodes) h =
    let first = All-head (λ log. log ≡ []) n.log (logs_of nodes) h in
    let rest = entries-none nodes (All-tail (λ log. log ≡ []) n.log (logs_of nodes) h) in
    omega (arith, ap length first, rest)

pub no-entries : (nodes : List NodeData) → length nodes ≡ 0 → entries_in (logs_of nodes) ≡ 0
unfolding logs_of entries_in
no-entries [] h = refl
no-entries (n ∷ nodes) h = absurd (omega (arith, h))

pub none-reversed : (nodes : List NodeData) → length nodes ≡ 0 → entries_in (logs_of (reverse nodes)) ≡ 0
unfolding logs_of entries_in
none-reversed [] h = refl
none-reversed (n ∷ nodes) h = absurd (omega (arith, h))

pub logs-end : (logs whole : List (List Logged)) (nodes : List NodeData) → length nodes ≡ 0 → logs ++ logs_of (reverse nodes) ≡ whole
    → logs ≡ whole
unfolding logs_of
logs-end logs whole [] h e = sym (append-nil logs) ∙ e
logs-end logs whole (n ∷ nodes) h e = absurd (omega (arith, h))
