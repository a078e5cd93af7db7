-- What one more event adds to the text of a run, with records or without.
use Rattle.std.proofs.Common.{◌≡◌, ℕ, zero, suc, ◌==◌, Bool, true, false, List, [], ◌∷◌, ◌++◌, length, Option, Some, None, nat_le}
use Rattle.std.proofs.Common.{if◌then◌else◌, append-nil, append_assoc, refl, ap, sym, ◌∙◌, arith}
use Rattle.std.proofs.lemmas.Bool.Decides.{nat_tests}
use Rattle.image_load.specs.Start.{Start}
use Rattle.rv_code.specs.Machine.{program}
use Rattle.rules_program.specs.Program.{Program}
use Rattle.rules_maps.specs.Nodes.{Event}
use Rattle.rules_maps.specs.Shape.{Shape}
use Rattle.rules_tcc.specs.State.{World}
use Rattle.rules_tcc.specs.Step.{History, and_then, next_history, run_from}
use Rattle.schedule_text.specs.Grammar.{joined}
use Rattle.watch_trace.specs.Text.{event_text, head_text, tail_text}
use Rattle.watch_changes.specs.Text.{Shows, added, if_shown, if_taken, shown_from, shown_text, shown_texts}

-- what an event adds in the window
abbrev whole : Shows → Shape → Program → Event → (before after : History) → List ℕ
whole x sh p e h k = event_text sh p h e ++ x.event h.world k.world e

texts-more : (x : Shows) (sh : Shape) (p : Program) (es : List Event) (e : Event) (h g i : History) → run_from sh p es h ≡ Some g
    → next_history sh p g e ≡ Some i
    → joined (shown_texts x sh p (es ++ e ∷ []) h) ≡ joined (shown_texts x sh p es h) ++ whole x sh p e g i
unfolding run_from shown_texts
texts-more x sh p [] e h g i r s = let same : h ≡ g = cc in
    ap (λ k. joined (if_shown x sh p e k (shown_texts x sh p []) (next_history sh p k e))) same
    ∙ ap (λ o. joined (if_shown x sh p e g (shown_texts x sh p []) o)) s
    ∙ append-nil (whole x sh p e g i)
texts-more x sh p (f ∷ es) e h g i r s = go (next_history sh p h f) (λ k q. texts-more x sh p es e k g i q s) r
  where
    go : (o : Option History)
        → ((k : History) → run_from sh p es k ≡ Some g
        → joined (shown_texts x sh p (es ++ e ∷ []) k) ≡ joined (shown_texts x sh p es k) ++ whole x sh p e g i)
        → and_then (run_from sh p es) o ≡ Some g
        → joined (if_shown x sh p f h (shown_texts x sh p (es ++ e ∷ [])) o)
        ≡ joined (if_shown x sh p f h (shown_texts x sh p es) o) ++ whole x sh p e g i
    go None next q = absurd (cc)
    go (Some k) next q =
        ap (λ ts. whole x sh p f h k ++ ts) (next k q)
        ∙ sym (append_assoc (whole x sh p f h k) (joined (shown_texts x sh p es k)) (whole x sh p e g i))

-- before the first event the window begins, or nothing is shown
pub shown-none : (x : Shows) (sh : Shape) (p : Program) (from : ℕ) (h : History)
    → shown_from x sh p from [] h ≡ (if from == 0 then x.begins h.world else [])
unfolding shown_from shown_texts
shown-none x sh p zero h = append-nil (x.begins h.world)
shown-none x sh p (suc from) h = let test : (suc from == 0) ≡ false = grind (arith, nat_tests) in
    ap (λ b. if b then x.begins h.world else []) (sym test)

-- the numbers of the window and of the event matter by their difference
added-less : (x : Shows) (sh : Shape) (p : Program) (from number : ℕ) (e : Event) (h k : History)
    → added x sh p (suc from) (suc number) e h k ≡ added x sh p from number e h k
unfolding added
added-less x sh p from number e h k =
    let test : nat_le (suc from) (suc number) ≡ nat_le from number = grind (arith, nat_tests) in
    let begins : (suc from == suc (suc number)) ≡ (from == suc number) = grind (arith, nat_tests) in
    λ i. if test i then whole x sh p e h k else if begins i then x.begins k.world else []

pub shown-more : (x : Shows) (sh : Shape) (p : Program) (from : ℕ) (es : List Event) (e : Event) (h g i : History)
    → run_from sh p es h ≡ Some g → next_history sh p g e ≡ Some i
    → shown_from x sh p from (es ++ e ∷ []) h ≡ shown_from x sh p from es h ++ added x sh p from (length es) e g i
unfolding run_from shown_from added
shown-more x sh p zero es e h g i r s =
    let test : nat_le 0 (length es) ≡ true = grind (arith, nat_tests) in
    ap (λ ts. x.begins h.world ++ ts) (texts-more x sh p es e h g i r s)
    ∙ sym (append_assoc (x.begins h.world) (joined (shown_texts x sh p es h)) (whole x sh p e g i))
    ∙ ap (λ b. (x.begins h.world ++ joined (shown_texts x sh p es h))
    ++ (if b then whole x sh p e g i else if 0 == suc (length es) then x.begins i.world else [])) (sym test)
shown-more x sh p (suc from) [] e h g i r s =
    let same : h ≡ g = cc in
    let test : nat_le (suc from) 0 ≡ false = grind (arith, nat_tests) in
    let begins : (from == 0) ≡ (suc from == 1) = grind (arith, nat_tests) in
    ap (λ k. if_taken (shown_from x sh p from []) (next_history sh p k e)) same
    ∙ ap (if_taken (shown_from x sh p from [])) s
    ∙ shown-none x sh p from i
    ∙ ap (λ b. if b then x.begins i.world else []) begins
    ∙ ap (λ b. if b then whole x sh p e g i else if suc from == 1 then x.begins i.world else []) (sym test)
shown-more x sh p (suc from) (f ∷ es) e h g i r s =
    go (next_history sh p h f) (λ k q. shown-more x sh p from es e k g i q s) r
    ∙ ap (λ ts. if_taken (shown_from x sh p from es) (next_history sh p h f) ++ ts)
    (sym (added-less x sh p from (length es) e g i))
  where
    go : (o : Option History)
        → ((k : History) → run_from sh p es k ≡ Some g
        → shown_from x sh p from (es ++ e ∷ []) k ≡ shown_from x sh p from es k ++ added x sh p from (length es) e g i)
        → and_then (run_from sh p es) o ≡ Some g
        → if_taken (shown_from x sh p from (es ++ e ∷ [])) o
        ≡ if_taken (shown_from x sh p from es) o ++ added x sh p from (length es) e g i
    go None next q = absurd (cc)
    go (Some k) next q = next k q

-- a trace is its first lines, the events, and its last lines
pub shown-parts : (x : Shows) (s : Start) (first : World) (from : ℕ) (es : List Event) (done : Bool)
    → shown_text x s first from es done
    ≡ head_text s.settings from ++ shown_from x s.settings (program s) from es (record { world = first; commits = [] })
    ++ tail_text done (length es)
unfolding shown_text
shown-parts x s first from es done = refl
