-- What stands behind what was told before, piece by piece.
use Rattle.std.proofs.Common.{◌≡◌, ℕ, ◌+◌, ◌≤◌, ◌==◌, List, [], ◌∷◌, ◌++◌, length, append-nil, append_assoc}
use Rattle.std.proofs.Common.{Option, if◌then◌else◌, ap, sym, ◌∙◌, subst, arith, take}
use Rattle.std.proofs.Math.Seq.{take-append_seam, take-append-add}
use Rattle.std.specs.Io.KnownBytes.{Appends}
use Rattle.base_lemmas.proofs.Lemmas.{appends-more, appends-none}
use Rattle.image_load.specs.Contents.{started}
use Rattle.rv_code.specs.Machine.{program}
use Rattle.rules_maps.specs.Nodes.{Event}
use Rattle.net_core.specs.Machine.{Machine, history_of, program_of, settings_of, start_of, world_of}
use Rattle.watch_changes.specs.Text.{added, shows}
use Rattle.watch_changes.proofs.Lemmas.{shown-more, shown-none}
use Rattle.watch_run.specs.Going.{Took, Went}
use Rattle.watch_run.specs.Telling.{lines_from}
use Rattle.watch_run.specs.Written.{HasBegun, IsPart, IsPut}
use Rattle.watch_run.specs.declared.telling.Shown.{Shown}
use Rattle.watch_run.proofs.Going.{Gone, by-first, gone-all, gone-more, gone-none}

-- ---- bytes that stand behind others

-- ---- what was held was put out in part

pub put-none : (held : List ℕ) (o : Option (List ℕ)) → IsPut held held o o []
put-none held o = record { written = []; all = append-nil held; appended = appends-none o }

pub put-more : (held now next more xs : List ℕ) (a b : Option (List ℕ)) → IsPut held now a b more → next ≡ now ++ xs
    → IsPut held next a b (more ++ xs)
put-more held now next more xs a b p e = record {
  written = p.written;
  all = sym (append_assoc held more xs) ∙ ap (λ ys. ys ++ xs) p.all ∙ append_assoc p.written now xs ∙ ap (λ ys. p.written ++ ys) (sym e);
  appended = p.appended;
}

pub put-put : (held now next more : List ℕ) (a b c : Option (List ℕ)) → IsPut held now a b more → IsPut now next b c []
    → IsPut held next a c more
put-put held now next more a b c p q = record {
  written = p.written ++ q.written;
  all = p.all ∙ ap (λ ys. p.written ++ ys) (sym (append-nil now) ∙ q.all) ∙ sym (append_assoc p.written q.written next);
  appended = appends-more a b c p.written q.written p.appended q.appended;
}

-- no more was written, or a first part of what is held
pub put-part : (held now more : List ℕ) (a b : Option (List ℕ)) → IsPut held now a b more → IsPart (held ++ more) a b
put-part held now more a b p =
    (length p.written, subst (Appends a b) (sym (ap (take (length p.written)) p.all ∙ take-append_seam p.written now)) p.appended)

pub put-cut : (held now more : List ℕ) (a b c : Option (List ℕ)) (n : ℕ) → IsPut held now a b more → Appends b c (take n now)
    → IsPart (held ++ more) a c
put-cut held now more a b c n p q = (
  length p.written + n,
  subst (Appends a c) (sym (ap (take (length p.written + n)) p.all ∙ take-append-add p.written now n))
      (appends-more a b c p.written (take n now) p.appended q),
)

-- ---- in the loop

-- the events so far were taken, and their texts are held or written
pub record Going (first now : Machine) (all left : List Event) (number : ℕ) (shown : Shown) (held_first held : List ℕ)
    (before after : Option (List ℕ)) (faults_before faults : ℕ) : Type 0 where
  pub gone : Gone first now all left number
  pub put : IsPut held_first held before after (lines_from shown first gone.firsts)
  pub faults_stay : faults_before ≤ faults

pub going-none : (m : Machine) (all : List Event) (shown : Shown) (h0 held : List ℕ) (o : Option (List ℕ)) (f : ℕ) → m.unsent ≡ []
    → held ≡ h0 ++ (if shown.from == 0 then (shows shown.states (start_of m)).begins (world_of m) else [])
    → Going m m all all 0 shown h0 held o o f f
unfolding history_of
going-none m all shown h0 held o f u e = record {
  gone = gone-none m all u;
  put = subst (IsPut h0 held o o)
      (sym (shown-none (shows shown.states (start_of m)) (settings_of m) (program_of m) shown.from (history_of m)))
      (put-more h0 h0 held [] _ o o (put-none h0 o) e);
  faults_stay = omega arith;
}

-- the later machine's event adds what it adds by the first machine's code
by-first-code : (m n o : Machine) (shown : Shown) (number : ℕ) (e : Event) → n.cores.code ≡ m.cores.code
    → added (shows shown.states (start_of n)) (settings_of n) (program_of n) shown.from number e (history_of n) (history_of o)
    ≡ added (shows shown.states (start_of m)) (settings_of m) (program_of m) shown.from number e (history_of n) (history_of o)
by-first-code m n o shown number e c = λ i.
    added (shows shown.states (started (c i))) (c i).settings (program (started (c i))) shown.from number e (history_of n) (history_of o)

pub going-more : (m n o : Machine) (all left later : List Event) (number : ℕ) (shown : Shown) (h0 held next : List ℕ)
    (a b : Option (List ℕ)) (f g : ℕ) (e : Event) → Going m n all left number shown h0 held a b f g → left ≡ e ∷ later → Took n o e
    → next
    ≡ held ++ added (shows shown.states (start_of n)) (settings_of n) (program_of n) shown.from number e (history_of n) (history_of o)
    → Going m o all later (number + 1) shown h0 next a b f g
going-more m n o all left later number shown h0 held next a b f g e s l t text =
    let w = s.gone.went in
    let x = shows shown.states (start_of m) in
    record {
      gone = gone-more m n o all left later number e s.gone l t;
      put = subst (IsPut h0 next a b)
          (sym (shown-more x (settings_of m) (program_of m) shown.from s.gone.firsts e (history_of m) (history_of n) (history_of o) w.ran
          (by-first m n o e w.code t)))
          (put-more h0 held next _ _ a b s.put
          (text ∙ ap (λ xs. held ++ xs)
          (by-first-code m n o shown number e w.code
          ∙ ap (λ k. added x (settings_of m) (program_of m) shown.from k e (history_of n) (history_of o)) (sym s.gone.count))));
      faults_stay = s.faults_stay;
    }

-- a first part of what is held was written
pub going-put : (m n : Machine) (all left : List Event) (number : ℕ) (shown : Shown) (h0 held next : List ℕ) (a b c : Option (List ℕ))
    (f g k : ℕ) → Going m n all left number shown h0 held a b f g → IsPut held next b c [] → g ≤ k
    → Going m n all left number shown h0 next a c f k
going-put m n all left number shown h0 held next a b c f g k s p h = record {
  gone = s.gone;
  put = put-put h0 held next _ a b c s.put p;
  faults_stay = let stay = s.faults_stay in omega (arith, stay, h);
}

-- the lines broke off: no more was written, or a first part of what is held
pub going-part : (m n : Machine) (all left : List Event) (number : ℕ) (shown : Shown) (h0 held : List ℕ) (a b : Option (List ℕ))
    (f g : ℕ) → Going m n all left number shown h0 held a b f g → HasBegun (lines_from shown m) h0 all a b
going-part m n all left number shown h0 held a b f g s =
    let part = put-part h0 held _ a b s.put in
    record { firsts = s.gone.firsts; left = left; parts = s.gone.parts; n = part.0; appended = part.1 }

pub going-cut : (m n : Machine) (all left : List Event) (number : ℕ) (shown : Shown) (h0 held : List ℕ) (a b c : Option (List ℕ))
    (f g k : ℕ) → Going m n all left number shown h0 held a b f g → Appends b c (take k held)
    → HasBegun (lines_from shown m) h0 all a c
going-cut m n all left number shown h0 held a b c f g k s q =
    let part = put-cut h0 held _ a b c k s.put q in
    record { firsts = s.gone.firsts; left = left; parts = s.gone.parts; n = part.0; appended = part.1 }

-- all texts are held or written
pub going-all : (m n : Machine) (all left : List Event) (number : ℕ) (shown : Shown) (h0 held : List ℕ) (a b : Option (List ℕ)) (f g : ℕ)
    → Going m n all left number shown h0 held a b f g → left ≡ [] → IsPut h0 held a b (lines_from shown m all)
going-all m n all left number shown h0 held a b f g s l =
    subst (λ es. IsPut h0 held a b (lines_from shown m es)) (sym (gone-all m n all left number s.gone l)) s.put

pub went-all : (m n : Machine) (all left : List Event) (number : ℕ) → Gone m n all left number → left ≡ [] → Went m n all
went-all m n all left number g l = subst (Went m n) (sym (gone-all m n all left number g l)) g.went
