-- Events that follow a list, one after another.
use Rattle.std.proofs.Common.{◌≡◌, ℕ, suc, ◌+◌, ◌-◌, ◌<◌, ◌≤◌, List, [], ◌∷◌, ◌++◌, length, append-nil, append_assoc}
use Rattle.std.proofs.Common.{Option, Some, None, refl, ap, sym, ◌∙◌, subst, arith}
use Rattle.tcc_base.specs.Limits.{run_limit}
use Rattle.base_lemmas.proofs.Lemmas.{fewer, one-longer}
use Rattle.image_load.specs.Contents.{started}
use Rattle.image_load.specs.Start.{Start}
use Rattle.rv_code.specs.Machine.{program}
use Rattle.rules_maps.specs.Nodes.{Event}
use Rattle.tcc_msg.specs.Plain.{event_of}
use Rattle.tcc_msg.specs.declared.event.Event.{Event as CodeEvent}
use Rattle.rules_program.specs.Plain.{Order}
use Rattle.rules_tcc.specs.Step.{History, next_history}
use Rattle.rules_tcc.specs.Useful.{useful}
use Rattle.net_core.specs.Machine.{Machine, history_of, program_of, settings_of, start_of, world_of}
use Rattle.tcc_refine.specs.Refined.{Refined}
use Rattle.tcc_pick.specs.Picking.{TookAll}
use Rattle.tcc_pick.proofs.Lemmas.{Same, Takes, took-more, took-none, took-same}
use Rattle.run_follow.specs.Following.{after_event, comes, followed_from, next_in, next_of, turn_of}

-- what comes next in a machine, and the next n events
abbrev pub next_at : List Order → Machine → Option Event
next_at os m = next_of (turn_of os m.commits) (useful (settings_of m) (program_of m) (world_of m))

abbrev pub follows : List Order → (n : ℕ) → Machine → List Event
follows os n m = followed_from (start_of m) os n (history_of m)

pub next-is_in : (os : List Order) (m : Machine) → next_in (start_of m) os (history_of m) ≡ next_at os m
unfolding history_of started
next-is_in os m = refl

none-more : (s : Start) (os : List Order) (n : ℕ) (h : History) → n ≡ 0 → followed_from s os n h ≡ []
unfolding followed_from
none-more s os n h e = ap (λ k. followed_from s os k h) e

none-comes : (s : Start) (os : List Order) (n : ℕ) (h : History) → next_in s os h ≡ None → followed_from s os (suc n) h ≡ []
unfolding followed_from
none-comes s os n h e = ap (comes s h (followed_from s os n)) e

one-comes : (s : Start) (os : List Order) (n : ℕ) (h g : History) (e : Event) → next_in s os h ≡ Some e
    → next_history s.settings (program s) h e ≡ Some g → followed_from s os (suc n) h ≡ e ∷ followed_from s os n g
unfolding followed_from
one-comes s os n h g e c t = ap (comes s h (followed_from s os n)) c ∙ ap (λ o. e ∷ after_event (followed_from s os n) o) t

-- what is found in the machine that is read comes next in the machine
pub next-read : (os : List Order) (m read : Machine) (turn : Option ℕ) (o : Option Event) → read ≡ m → turn ≡ turn_of os m.commits
    → o ≡ next_of turn (useful (settings_of read) (program_of read) (world_of read)) → next_at os m ≡ o
next-read os m read turn o r t e = sym (e ∙ (λ i. next_of (t i) (useful (settings_of (r i)) (program_of (r i)) (world_of (r i)))))

follows-same : (os : List Order) (n : ℕ) (m o : Machine) → history_of o ≡ history_of m → o.cores.code ≡ m.cores.code
    → follows os n m ≡ follows os n o
follows-same os n m o h c = λ i. followed_from (started (sym c i)) os n (sym h i)

follows-one : (os : List Order) (n : ℕ) (m o : Machine) (e : Event) → next_at os m ≡ Some e
    → next_history (settings_of m) (program_of m) (history_of m) e ≡ Some (history_of o) → o.cores.code ≡ m.cores.code
    → follows os (suc n) m ≡ e ∷ follows os n o
unfolding started
follows-one os n m o e c t code =
    one-comes (start_of m) os n (history_of m) (history_of o) e (next-is_in os m ∙ c) t
    ∙ ap (λ k. e ∷ followed_from (started k) os n (history_of o)) (sym code)

-- after i events the machine has taken the first i that follow the list, and those that are left follow it from here
pub record Going (os : List Order) (m n : Refined) (all i : ℕ) : Type 0 where
  pub firsts : List Event
  pub count : length firsts ≡ i
  pub few : n.machine.events + (all - i) ≤ run_limit
  pub took : TookAll m n firsts
  pub rest : follows os all m.machine ≡ firsts ++ follows os (all - i) n.machine

pub going-none : (os : List Order) (m : Refined) (all : ℕ) → m.machine.events + all ≤ run_limit → Going os m m all 0
going-none os m all h = record {
  firsts = [];
  count = refl;
  few = omega (arith, h);
  took = took-none m;
  rest = ap (λ k. follows os k m.machine) (omega arith);
}

pub going-same : {os : List Order} {m n : Refined} {all i : ℕ} (o : Refined) → Going os m n all i → Same n o → Going os m o all i
going-same {os} {m} {n} {all} {i} o g s = record {
  firsts = g.firsts;
  count = g.count;
  few = let a = g.few in let b = s.events in omega (arith, a, b);
  took = took-same m n o g.firsts g.took s;
  rest = g.rest ∙ ap (λ es. g.firsts ++ es) (follows-same os (all - i) n.machine o.machine s.history s.code);
}

pub going-more : {os : List Order} {m n : Refined} {all i : ℕ} (o : Refined) (e : CodeEvent) → Going os m n all i → i < all
    → next_at os n.machine ≡ Some (event_of e) → Takes n o e → Going os m o all (i + 1)
going-more {os} {m} {n} {all} {i} o e g l c t =
    let x = event_of e in
    let gc = g.count in
    let gf = g.few in
    let te = t.events in
    let longer = one-longer g.firsts x in
    record {
      firsts = g.firsts ++ x ∷ [];
      count = omega (arith, gc, longer);
      few = omega (arith, gf, te, l);
      took = took-more m n o g.firsts e g.took t;
      rest = g.rest
          ∙ ap (λ es. g.firsts ++ es) (ap (λ k. follows os k n.machine) (fewer all i l)
          ∙ follows-one os (all - (i + 1)) n.machine o.machine x c t.next t.code)
          ∙ sym (append_assoc g.firsts (x ∷ []) (follows os (all - (i + 1)) o.machine));
    }

all-taken : {os : List Order} {m n : Refined} {all i : ℕ} → Going os m n all i → follows os (all - i) n.machine ≡ []
    → TookAll m n (follows os all m.machine)
all-taken {os} {m} {n} {all} {i} g e =
    subst (TookAll m n) (sym (g.rest ∙ ap (λ es. g.firsts ++ es) e ∙ append-nil g.firsts)) g.took

-- no event may come
pub going-stops : {os : List Order} {m n : Refined} {all i : ℕ} → Going os m n all i → i < all → next_at os n.machine ≡ None
    → TookAll m n (follows os all m.machine)
going-stops {os} {m} {n} {all} {i} g l c =
    all-taken g (ap (λ k. follows os k n.machine) (fewer all i l)
    ∙ none-comes (start_of n.machine) os (all - (i + 1)) (history_of n.machine) (next-is_in os n.machine ∙ c))

-- there were as many as there may be
pub going-ends : {os : List Order} {m n : Refined} {all i : ℕ} → Going os m n all i → i ≡ all → TookAll m n (follows os all m.machine)
going-ends {os} {m} {n} {all} {i} g e =
    all-taken g (none-more (start_of n.machine) os (all - i) (history_of n.machine) (omega (arith, e)))
