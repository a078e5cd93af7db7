-- Events that a machine takes one after another without a list of them, and what is written down of each.
use Rattle.std.proofs.Common.{◌≡◌, ℕ, ◌+◌, ◌<◌, ◌≤◌, List, [], ◌∷◌, ◌++◌, length, append-nil, append_assoc, Some, None}
use Rattle.std.proofs.Common.{refl, ap, sym, ◌∙◌}
use Rattle.std.specs.List.{flat_map}
use Rattle.std.proofs.lemmas.List.Concat.{flat_map-append}
use Rattle.tcc_base.specs.Limits.{run_limit}
use Rattle.rand_pcg.specs.Lcg.{Lcg}
use Rattle.rand_pcg.specs.Pcg.{pcg32}
use Rattle.tcc_msg.specs.Plain.{event_of}
use Rattle.tcc_msg.specs.declared.event.Event.{Event as Listed}
use Rattle.rules_tcc.specs.Step.{next_history}
use Rattle.net_core.specs.Machine.{Machine, history_of, program_of, settings_of}
use Rattle.tcc_pick.specs.Picking.{NotedAll, TookFirst, listing, picks}
use Rattle.tcc_pick.specs.Words.{after_words}
use Rattle.tcc_pick.proofs.Picked.{Ended, Going, chosen_at, going-ends, going-more, going-none, going-same, going-stops}

-- a call that leaves the rules' state as it is
pub record Stays (m n : Machine) : Type 0 where
  pub history : history_of n ≡ history_of m
  pub events : n.events ≡ m.events
  pub code : n.cores.code ≡ m.cores.code

-- a call that takes an event
pub record Steps (m n : Machine) (e : Listed) : Type 0 where
  pub next : next_history (settings_of m) (program_of m) (history_of m) (event_of e) ≡ Some (history_of n)
  pub events : n.events ≡ m.events + 1
  pub code : n.cores.code ≡ m.cores.code

-- what each event adds, with one event more
noted-more : (line : Listed → List ℕ) (before after now : List ℕ) (es : List Listed) (e : Listed) → after ≡ before ++ flat_map line es
    → now ≡ after ++ line e → now ≡ before ++ flat_map line (es ++ e ∷ [])
noted-more line before after now es e a n =
    n ∙ ap (λ x. x ++ line e) a ∙ append_assoc before (flat_map line es) (line e)
    ∙ ap (λ x. before ++ (flat_map line es ++ x)) (sym (append-nil (line e)))
    ∙ ap (λ x. before ++ x) (sym (flat_map-append line es (e ∷ [])))

-- after i words a list of what was taken would be so, and what these events add was written down
pub record Noting (m n : Machine) (f g : Lcg) (all i : ℕ) (line : Listed → List ℕ) (before after : List ℕ) : Type 0 where
  pub taken : List Listed
  pub going : Going (listing m []) (listing n taken) f g all i
  pub noted : after ≡ before ++ flat_map line taken

pub noting-none : (m : Machine) (g : Lcg) (all : ℕ) (line : Listed → List ℕ) (before : List ℕ) → m.events + all ≤ run_limit
    → Noting m m g g all 0 line before before
noting-none m g all line before h = record {
  taken = [];
  going = going-none (listing m []) g all h;
  noted = sym (append-nil before);
}

pub noting-same : {m n : Machine} {f g : Lcg} {all i : ℕ} {line : Listed → List ℕ} {before after : List ℕ} (o : Machine)
    → Noting m n f g all i line before after → Stays n o → Noting m o f g all i line before after
noting-same {m} {n} {f} {g} {all} {i} {line} {before} {after} o s t = record {
  taken = s.taken;
  going = going-same (listing o s.taken) s.going (record { history = t.history; taken = refl; events = t.events; code = t.code });
  noted = s.noted;
}

pub noting-more : {m n : Machine} {f g : Lcg} {all i : ℕ} {line : Listed → List ℕ} {before after : List ℕ} (o : Machine) (e : Listed)
    (now : List ℕ) → Noting m n f g all i line before after → i < all → chosen_at g n ≡ Some (event_of e) → Steps n o e
    → now ≡ after ++ line e → Noting m o f (pcg32 g).1 all (i + 1) line before now
noting-more {m} {n} {f} {g} {all} {i} {line} {before} {after} o e now s h c t w = record {
  taken = s.taken ++ e ∷ [];
  going = going-more (listing o (s.taken ++ e ∷ [])) e s.going h c
      (record { next = t.next; taken = refl; events = t.events; code = t.code });
  noted = noted-more line before after now s.taken e s.noted w;
}

-- where memory ran out: after the first events, and after one more
pub noting-first : {m n : Machine} {f g : Lcg} {all i : ℕ} {line : Listed → List ℕ} {before after : List ℕ} (o : Machine)
    → Noting m n f g all i line before after → Stays n o → TookFirst m o (picks all f m)
noting-first {m} {n} {f} {g} {all} {i} {line} {before} {after} o s t =
    let k = noting-same o s t in (
      k.taken,
      record { firsts = k.going.so.firsts; left = picks k.going.left g o; parts = k.going.so.rest; took = k.going.so.took },
    )

pub noting-one : {m n : Machine} {f g : Lcg} {all i : ℕ} {line : Listed → List ℕ} {before after : List ℕ} (o : Machine) (e : Listed)
    → Noting m n f g all i line before after → i < all → chosen_at g n ≡ Some (event_of e) → Steps n o e → TookFirst m o (picks all f m)
noting-one {m} {n} {f} {g} {all} {i} {line} {before} {after} o e s h c t =
    noting-first o (noting-more o e (after ++ line e) s h c t refl) (record { history = refl; events = refl; code = refl })

-- all that the words pick was taken, what it adds was written down, and no further word was drawn
pub record NotedEnd (m n : Machine) (f g : Lcg) (all : ℕ) (line : Listed → List ℕ) (before after : List ℕ) : Type 0 where
  pub took : NotedAll m n (picks all f m) line before after
  pub drawn : g ≡ after_words (length (picks all f m)) f

noted-end : {m n : Machine} {f g : Lcg} {all : ℕ} {line : Listed → List ℕ} {before after : List ℕ} (taken : List Listed)
    → Ended (listing m []) (listing n taken) f g all → after ≡ before ++ flat_map line taken → NotedEnd m n f g all line before after
noted-end taken e w = record { took = record { taken = taken; took = e.took; noted = w }; drawn = e.drawn }

-- no event is useful, or all words are drawn
pub noting-stops : {m n : Machine} {f g : Lcg} {all i : ℕ} {line : Listed → List ℕ} {before after : List ℕ}
    → Noting m n f g all i line before after → i < all → chosen_at g n ≡ None → NotedEnd m n f g all line before after
noting-stops s h c = noted-end s.taken (going-stops s.going h c) s.noted

pub noting-ends : {m n : Machine} {f g : Lcg} {all i : ℕ} {line : Listed → List ℕ} {before after : List ℕ}
    → Noting m n f g all i line before after → i ≡ all → NotedEnd m n f g all line before after
noting-ends s h = noted-end s.taken (going-ends s.going h) s.noted
