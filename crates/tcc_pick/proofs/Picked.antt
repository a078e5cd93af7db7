-- The events that random words pick, one after another.
use Rattle.std.proofs.Common.{◌≡◌, ℕ, suc, ◌+◌, ◌-◌, ◌<◌, ◌≤◌, List, [], ◌∷◌, ◌++◌, length, append-nil, append_assoc}
use Rattle.std.proofs.Common.{Option, Some, None, refl, ap, sym, ◌∙◌, subst, arith}
use Rattle.tcc_base.specs.Limits.{run_limit}
use Rattle.base_lemmas.proofs.Lemmas.{one-longer}
use Rattle.image_load.specs.Contents.{started}
use Rattle.rand_core.specs.Steps.{first_words}
use Rattle.rand_pcg.specs.Lcg.{Lcg}
use Rattle.rand_pcg.specs.Pcg.{pcg32}
use Rattle.rv_code.specs.Machine.{program}
use Rattle.rules_maps.specs.Nodes.{Event}
use Rattle.tcc_msg.specs.Plain.{event_of}
use Rattle.tcc_msg.specs.declared.event.Event.{Event as CodeEvent}
use Rattle.rules_tcc.specs.Picked.{after_step, chosen, pick, picked}
use Rattle.rules_tcc.specs.State.{World}
use Rattle.rules_tcc.specs.Step.{History, Stepped, next_history, recorded, step}
use Rattle.rules_tcc.specs.Useful.{useful}
use Rattle.net_core.specs.Machine.{Machine, history_of, program_of, settings_of, world_of}
use Rattle.tcc_refine.specs.Refined.{Refined}
use Rattle.tcc_pick.specs.Picking.{TookAll, picks}
use Rattle.tcc_pick.specs.Words.{after_words, words}
use Rattle.tcc_pick.proofs.Took.{Same, Takes, took-more, took-none, took-same}

-- the event that a generator's next word chooses
abbrev pub chosen_at : Lcg → Machine → Option Event
chosen_at g m = chosen (pcg32 g).0 (useful (settings_of m) (program_of m) (world_of m))

-- ---- what words pick

picks-same : (k : ℕ) (g : Lcg) (m n : Refined) → Same m n → picks k g n.machine ≡ picks k g m.machine
unfolding history_of
picks-same k g m n s =
    λ i. picked (s.code i).settings (program (started (s.code i))) (words k g) ((ap (λ h. h.world) s.history) i)

picks-first : (k : ℕ) (g : Lcg) (m : Machine)
    → picks (suc k) g m
    ≡ pick (settings_of m) (program_of m) (world_of m) (picked (settings_of m) (program_of m) (words k (pcg32 g).1)) (chosen_at g m)
unfolding picked first_words
picks-first k g m = refl

-- no event is useful
pub picks-none : (k : ℕ) (g : Lcg) (m : Machine) → chosen_at g m ≡ None → picks (suc k) g m ≡ []
picks-none k g m e = picks-first k g m
    ∙ ap (pick (settings_of m) (program_of m) (world_of m) (picked (settings_of m) (program_of m) (words k (pcg32 g).1))) e

-- the event that is chosen leads there
pub leads-to : (h : History) (o : Option Stepped) (g : History) (rest : World → List Event) → recorded h o ≡ Some g
    → after_step rest o ≡ rest g.world
leads-to h None g rest e = absurd (cc)
leads-to h (Some s) g rest e = ap rest (ap (of s.world) e)
  where
    of : World → Option History → World
    of w None = w
    of w (Some g) = g.world

pub picks-one : (k : ℕ) (g : Lcg) (m n : Machine) (e : Event) → chosen_at g m ≡ Some e
    → next_history (settings_of m) (program_of m) (history_of m) e ≡ Some (history_of n) → n.cores.code ≡ m.cores.code
    → picks (suc k) g m ≡ e ∷ picks k (pcg32 g).1 n
unfolding next_history history_of
picks-one k g m n e c s code = picks-first k g m
    ∙ ap (pick (settings_of m) (program_of m) (world_of m) (picked (settings_of m) (program_of m) (words k (pcg32 g).1))) c
    ∙ ap (λ es. e ∷ es) (leads-to (record { world = world_of m; commits = m.commits }) (step (settings_of m) (program_of m) (world_of m) e)
    (record { world = world_of n; commits = n.commits }) (picked (settings_of m) (program_of m) (words k (pcg32 g).1)) s
    ∙ (λ i. picked (sym code i).settings (program (started (sym code i))) (words k (pcg32 g).1) (world_of n)))

pub no-words : (g : Lcg) (m : Machine) (left : ℕ) → left ≡ 0 → picks left g m ≡ []
unfolding picked first_words
no-words g m left e = ap (λ k. picks k g m) e

-- ---- one word after another

-- some events were taken, a word was drawn for each, and the events that are left are what the words that are left pick
pub record So (m n : Refined) (f g : Lcg) (all left : ℕ) : Type 0 where
  pub firsts : List Event
  pub took : TookAll m n firsts
  pub drawn : g ≡ after_words (length firsts) f
  pub rest : picks all f m.machine ≡ firsts ++ picks left g n.machine

so-none : (m : Refined) (g : Lcg) (all left : ℕ) → left ≡ all → So m m g g all left
unfolding after_words
so-none m g all left e = record { firsts = []; took = took-none m; drawn = refl; rest = ap (λ k. picks k g m.machine) (sym e) }

so-same : (m n o : Refined) (f g : Lcg) (all left : ℕ) → So m n f g all left → Same n o → So m o f g all left
so-same m n o f g all left s t = record {
  firsts = s.firsts;
  took = took-same m n o s.firsts s.took t;
  drawn = s.drawn;
  rest = s.rest ∙ ap (λ es. s.firsts ++ es) (sym (picks-same left g n o t));
}

-- one word more
after-one : (n k : ℕ) (f g : Lcg) → g ≡ after_words n f → k ≡ n + 1 → (pcg32 g).1 ≡ after_words k f
unfolding after_words
after-one n k f g e more = let s : suc n ≡ k = omega (arith, more) in ap (λ x. (pcg32 x).1) e ∙ ap (λ j. after_words j f) s

so-more : (m n o : Refined) (f g : Lcg) (all left less : ℕ) (e : CodeEvent) → So m n f g all left → left ≡ suc less
    → chosen_at g n.machine ≡ Some (event_of e) → Takes n o e → So m o f (pcg32 g).1 all less
so-more m n o f g all left less e s l c t =
    let x = event_of e in
    record {
      firsts = s.firsts ++ x ∷ [];
      took = took-more m n o s.firsts e s.took t;
      drawn = after-one (length s.firsts) (length (s.firsts ++ x ∷ [])) f g s.drawn (one-longer s.firsts x);
      rest = s.rest
          ∙ ap (λ es. s.firsts ++ es) (ap (λ k. picks k g n.machine) l ∙ picks-one less g n.machine o.machine x c t.next t.code)
          ∙ sym (append_assoc s.firsts (x ∷ []) (picks less (pcg32 g).1 o.machine));
    }

-- all that the words pick was taken, and no further word was drawn
pub record Ended (m n : Refined) (f g : Lcg) (all : ℕ) : Type 0 where
  pub took : TookAll m n (picks all f m.machine)
  pub drawn : g ≡ after_words (length (picks all f m.machine)) f

-- nothing is left
so-all : (m n : Refined) (f g : Lcg) (all left : ℕ) → So m n f g all left → picks left g n.machine ≡ [] → Ended m n f g all
so-all m n f g all left s e =
    let are : s.firsts ≡ picks all f m.machine = sym (s.rest ∙ ap (λ es. s.firsts ++ es) e ∙ append-nil s.firsts) in
    record { took = subst (TookAll m n) are s.took; drawn = s.drawn ∙ ap (λ es. after_words (length es) f) are }

-- ---- in the loop

-- after i words
pub record Going (m n : Refined) (f g : Lcg) (all i : ℕ) : Type 0 where
  pub left : ℕ
  pub count : left + i ≡ all
  pub few : n.machine.events + left ≤ run_limit
  pub so : So m n f g all left

pub going-none : (m : Refined) (g : Lcg) (all : ℕ) → m.machine.events + all ≤ run_limit → Going m m g g all 0
going-none m g all h = record { left = all; count = omega arith; few = h; so = so-none m g all all refl }

pub going-same : {m n : Refined} {f g : Lcg} {all i : ℕ} (o : Refined) → Going m n f g all i → Same n o → Going m o f g all i
going-same {m} {n} {f} {g} {all} {i} o s t = record {
  left = s.left;
  count = s.count;
  few = let a = s.few in let b = t.events in omega (arith, a, b);
  so = so-same m n o f g all s.left s.so t;
}

pub going-more : {m n : Refined} {f g : Lcg} {all i : ℕ} (o : Refined) (e : CodeEvent) → Going m n f g all i → i < all
    → chosen_at g n.machine ≡ Some (event_of e) → Takes n o e → Going m o f (pcg32 g).1 all (i + 1)
going-more {m} {n} {f} {g} {all} {i} o e s h c t =
    let sc = s.count in
    let sf = s.few in
    let te = t.events in
    record {
      left = s.left - 1;
      count = omega (arith, sc, h);
      few = omega (arith, sc, sf, te, h);
      so = so-more m n o f g all s.left (s.left - 1) e s.so (omega (arith, sc, h)) c t;
    }

-- no event is useful
pub going-stops : {m n : Refined} {f g : Lcg} {all i : ℕ} → Going m n f g all i → i < all → chosen_at g n.machine ≡ None
    → Ended m n f g all
going-stops {m} {n} {f} {g} {all} {i} s h c =
    let sc = s.count in
    let l : s.left ≡ suc (s.left - 1) = omega (arith, sc, h) in
    so-all m n f g all s.left s.so (ap (λ k. picks k g n.machine) l ∙ picks-none (s.left - 1) g n.machine c)

-- all words are drawn
pub going-ends : {m n : Refined} {f g : Lcg} {all i : ℕ} → Going m n f g all i → i ≡ all → Ended m n f g all
going-ends {m} {n} {f} {g} {all} {i} s h =
    let sc = s.count in so-all m n f g all s.left s.so (no-words g n.machine s.left (omega (arith, sc, h)))
