-- One event more is counted.
use Rattle.std.proofs.Common.{◌≡◌, ℕ, ◌+◌, ◌<◌, ◌≤◌, List, [], ◌∷◌, ◌++◌, length, append-nil, append_assoc, length-append, Option, Some}
use Rattle.std.proofs.Common.{None, refl, ap, sym, subst, ◌∙◌, arith}
use Rattle.base_lemmas.proofs.Lemmas.{one-longer}
use Rattle.image_load.specs.Contents.{Contents, started}
use Rattle.image_load.specs.Start.{Start}
use Rattle.rv_code.specs.Machine.{program}
use Rattle.rules_maps.specs.Nodes.{Node, Event}
use Rattle.rules_maps.specs.Shape.{Shape}
use Rattle.rules_program.specs.Program.{Program}
use Rattle.rules_riscv.specs.Starting.{at_start}
use Rattle.rules_tcc.specs.State.{World}
use Rattle.rules_tcc.specs.Step.{History, and_then, next_history, run, run_from}
use Rattle.watch.specs.Facts.{Fact}
use Rattle.watch.specs.Happened.{actor, happened}
use Rattle.watch.specs.Messages.{commit_of}
use Rattle.watch_count.specs.Counts.{Counts, event_counted, nothing_counted, run_counted}
use Rattle.watch_trace.proofs.Lemmas.{run-more}
use Rattle.net_core.specs.Machine.{Machine, history_of, program_of, settings_of, start_of, world_of}
use Rattle.watch_run.specs.Forgetting.{StillKeeps, IsKeptOf}
use Rattle.watch_run.specs.Going.{Took}
use Rattle.watch_run.specs.Looked.{CountedMore, HasCounted, and_later, counts_of_run, run_facts}
use Rattle.watch_run.proofs.Going.{none-left}
use Rattle.watch_run.proofs.Kept.{goes-along}
use Rattle.watch_run.proofs.Leading.{StartsAt}

facts-more : (sh : Shape) (p : Program) (es : List Event) (e : Event) (h g i : History) → run_from sh p es h ≡ Some g
    → next_history sh p g e ≡ Some i
    → run_facts sh p (es ++ e ∷ []) h ≡ run_facts sh p es h ++ (actor e, happened sh p g e) ∷ []
unfolding run_from run_facts
facts-more sh p [] e h g i r s = let same : h ≡ g = cc in
    ap (λ k. and_later (actor e, happened sh p k e) (run_facts sh p []) (next_history sh p k e)) same
    ∙ ap (and_later (actor e, happened sh p g e) (run_facts sh p [])) s
facts-more sh p (f ∷ es) e h g i r s = go (next_history sh p h f) (λ k q. facts-more sh p es e k g i q s) r
  where
    go : (o : Option History)
        → ((k : History) → run_from sh p es k ≡ Some g
        → run_facts sh p (es ++ e ∷ []) k ≡ run_facts sh p es k ++ (actor e, happened sh p g e) ∷ [])
        → and_then (run_from sh p es) o ≡ Some g
        → and_later (actor f, happened sh p h f) (run_facts sh p (es ++ e ∷ [])) o
        ≡ and_later (actor f, happened sh p h f) (run_facts sh p es) o ++ (actor e, happened sh p g e) ∷ []
    go None next q = absurd (cc)
    go (Some k) next q = ap (λ fs. (actor f, happened sh p h f) ∷ fs) (next k q)

counted-more : (xs : List (Node × List Fact)) (x : Node × List Fact) (c : Counts)
    → run_counted (xs ++ x ∷ []) c ≡ event_counted x.0 x.1 (run_counted xs c)
unfolding run_counted
counted-more [] x c = refl
counted-more (y ∷ xs) x c = counted-more xs x (event_counted y.0 y.1 c)

run-counted-more : (sh : Shape) (p : Program) (es : List Event) (e : Event) (h g i : History) (c : Counts)
    → run_from sh p es h ≡ Some g
    → next_history sh p g e ≡ Some i
    → run_counted (run_facts sh p (es ++ e ∷ []) h) c
    ≡ event_counted (actor e) (happened sh p g e) (run_counted (run_facts sh p es h) c)
run-counted-more sh p es e h g i c r s =
    ap (λ fs. run_counted fs c) (facts-more sh p es e h g i r s)
    ∙ counted-more (run_facts sh p es h) (actor e, happened sh p g e) c

-- ---- from the start, by a machine that forgets

-- nothing was taken
pub counted-none : (c : Contents) (m : Machine) (counts : Counts) → StartsAt c m → m.events ≡ 0 → m.unsent ≡ []
    → counts ≡ nothing_counted c.settings.cores → HasCounted c [] m counts
unfolding counts_of_run run_facts run_counted run run_from started
counted-none c m counts s z u is = record {
  ends = at_start (started c);
  ran = refl;
  kept = record { world = ap (λ h. h.world) s.first; commits = λ d t dl le. ap (λ h. commit_of t h.commits) s.first };
  counted = is;
  settled = u;
  events = z;
  code = s.code;
}

-- one more event was taken and counted
pub counted-one : (c : Contents) (es : List Event) (e : Event) (m n : Machine) (before after : Counts) → HasCounted c es m before
    → Took m n e → after ≡ event_counted (actor e) (happened (settings_of m) (program_of m) (history_of m) e) before
    → HasCounted c (es ++ e ∷ []) n after
unfolding counts_of_run run started
counted-one c es e m n before after h t is =
    let next : next_history c.settings (program (started c)) (history_of m) e ≡ Some (history_of n) =
    (λ i. next_history (sym h.code i).settings (program (started (sym h.code i))) (history_of m) e) ∙ t.next in
    let along = goes-along (started c) es e (history_of m) h.ends (history_of n) h.ran h.kept next in
    record {
      ends = along.later;
      ran = run-more c.settings (program (started c)) es e (at_start (started c)) h.ends h.ran ∙ along.next;
      kept = along.keeps;
      counted = is
          ∙ (λ i. event_counted (actor e) (happened (h.code i).settings (program (started (h.code i))) (history_of m) e) (h.counted i))
          ∙ ap (λ fs. event_counted (actor e) fs (counts_of_run (started c) es)) along.facts
          ∙ sym (run-counted-more c.settings (program (started c)) es e (at_start (started c)) h.ends along.later
          (nothing_counted c.settings.cores) h.ran along.next);
      settled = t.settled;
      events = let a = t.events in let b = h.events in let k = one-longer es e in omega (arith, a, b, k);
      code = t.code ∙ h.code;
    }

-- commits were forgotten
pub counted-still : (c : Contents) (es : List Event) (m n : Machine) (counts : Counts) → HasCounted c es m counts → StillKeeps m n
    → HasCounted c es n counts
counted-still c es m n counts h f = record {
  ends = h.ends;
  ran = h.ran;
  kept = subst (λ k. IsKeptOf k.settings (history_of n) h.ends) h.code
      (f.keeps h.ends (subst (λ k. IsKeptOf k.settings (history_of m) h.ends) (sym h.code) h.kept));
  counted = h.counted;
  settled = f.unsent ∙ h.settled;
  events = f.events ∙ h.events;
  code = f.code ∙ h.code;
}

-- what was sent was put on its links
pub counted-same : (c : Contents) (es : List Event) (m n : Machine) (counts : Counts) → HasCounted c es m counts
    → history_of n ≡ history_of m → n.unsent ≡ [] → n.events ≡ m.events → n.cores.code ≡ m.cores.code → HasCounted c es n counts
counted-same c es m n counts h history unsent events code = record {
  ends = h.ends;
  ran = h.ran;
  kept = subst (λ k. IsKeptOf c.settings k h.ends) (sym history) h.kept;
  counted = h.counted;
  settled = unsent;
  events = events ∙ h.events;
  code = code ∙ h.code;
}

-- ---- behind whatever was counted

pub more-none : (m : Machine) (counts : Counts) → m.unsent ≡ [] → CountedMore m m counts counts []
more-none m counts u = record {
  counted = λ c firsts h. subst (λ es. HasCounted c es m counts) (sym (append-nil firsts)) h;
  settled = u;
  events = omega arith;
  code = refl;
}

pub more-one : (m n o p : Machine) (before now after : Counts) (es : List Event) (e : Event) → CountedMore m n before now es → Took n o e
    → after ≡ event_counted (actor e) (happened (settings_of n) (program_of n) (history_of n) e) now → StillKeeps o p
    → CountedMore m p before after (es ++ e ∷ [])
more-one m n o p before now after es e k t is f = record {
  counted = λ c firsts h. subst (λ all. HasCounted c all p after) (append_assoc firsts es (e ∷ []))
      (counted-still c ((firsts ++ es) ++ e ∷ []) o p after
      (counted-one c (firsts ++ es) e n o now after (k.counted c firsts h) t is) f);
  settled = f.unsent ∙ t.settled;
  events =
      let a = k.events in let b = t.events in let d = f.events in let l = one-longer es e in omega (arith, a, b, d, l);
  code = f.code ∙ t.code ∙ k.code;
}

-- ---- in the loop

-- of the events that were to come these were taken and counted, as many as the number says, and the others are left
pub record Counting (m n : Machine) (before after : Counts) (all left : List Event) (number : ℕ) : Type 0 where
  pub firsts : List Event
  pub so_far : CountedMore m n before after firsts
  pub parts : all ≡ firsts ++ left
  pub count : length firsts ≡ number

pub counting-none : (m : Machine) (counts : Counts) (all : List Event) → m.unsent ≡ [] → Counting m m counts counts all all 0
counting-none m counts all u = record { firsts = []; so_far = more-none m counts u; parts = refl; count = refl }

pub counting-more : (m n o p : Machine) (before now after : Counts) (all left : List Event) (later : Start → World → List Event)
    (number : ℕ) (e : Event) → Counting m n before now all left number → left ≡ e ∷ later (start_of o) (world_of o) → Took n o e
    → after ≡ event_counted (actor e) (happened (settings_of n) (program_of n) (history_of n) e) now → StillKeeps o p
    → Counting m p before after all (later (start_of p) (world_of p)) (number + 1)
counting-more m n o p before now after all left later number e k l t is f = record {
  firsts = k.firsts ++ e ∷ [];
  so_far = more-one m n o p before now after k.firsts e k.so_far t is f;
  parts = k.parts
      ∙ ap (λ es. k.firsts ++ es) (l ∙ (λ i. e ∷ later (started (sym f.code i)) (sym f.world i)))
      ∙ sym (append_assoc k.firsts (e ∷ []) (later (start_of p) (world_of p)));
  count = let a = one-longer k.firsts e in let b = k.count in omega (arith, a, b);
}

-- there were not too many events before the next
pub counting-before : (m n : Machine) (before after : Counts) (all left : List Event) (number most limit : ℕ)
    → Counting m n before after all left number → number < most → m.events + most ≤ limit → n.events < limit
counting-before m n before after all left number most limit k less few =
    let a = k.so_far.events in let b = k.count in omega (arith, a, b, less, few)

-- fewer than all were taken
pub counting-few : (m n : Machine) (before after : Counts) (all left : List Event) (number : ℕ)
    → Counting m n before after all left number → 1 ≤ length left → number < length all
counting-few m n before after all left number k some =
    let a = ap length k.parts ∙ length-append k.firsts left in let b = k.count in omega (arith, a, b, some)

-- all were taken
pub counting-all : (m n : Machine) (before after : Counts) (all left : List Event) (number : ℕ)
    → Counting m n before after all left number → left ≡ [] → CountedMore m n before after all
counting-all m n before after all left number k l =
    subst (λ es. CountedMore m n before after es) (sym (k.parts ∙ ap (λ es. k.firsts ++ es) l ∙ append-nil k.firsts)) k.so_far

-- as many were taken as there were at most
pub counting-most : (m n : Machine) (before after : Counts) (all left : List Event) (number most : ℕ)
    → Counting m n before after all left number → length all ≤ most → most ≤ number → left ≡ []
counting-most m n before after all left number most k few h =
    let a = ap length k.parts in let b = k.count in none-left k.firsts left (omega (arith, a, b, few, h))
