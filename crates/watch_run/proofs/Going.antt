-- One event more, and the events that are left.
use Rattle.std.proofs.Common.{◌≡◌, ℕ, ◌+◌, ◌≤◌, List, [], ◌∷◌, ◌++◌, length, append-nil, append_assoc}
use Rattle.std.proofs.Common.{Some, refl, ap, sym, ◌∙◌, arith}
use Rattle.base_lemmas.proofs.Lemmas.{one-longer}
use Rattle.image_load.specs.Contents.{started}
use Rattle.rv_code.specs.Machine.{program}
use Rattle.rules_maps.specs.Nodes.{Event}
use Rattle.rules_tcc.specs.Step.{next_history, run_from}
use Rattle.net_core.specs.Machine.{Machine, history_of, program_of, settings_of}
use Rattle.watch_trace.proofs.Lemmas.{run-more}
use Rattle.watch_run.specs.Going.{Took, Went}

pub none-left : (xs ys : List Event) → length (xs ++ ys) ≤ length xs → ys ≡ []
none-left [] [] h = refl
none-left [] (y ∷ ys) h = absurd (omega (arith, h))
none-left (x ∷ xs) ys h = none-left xs ys (omega (arith, h))

-- the step that the later machine takes is one by the first machine's code
pub by-first : (m n o : Machine) (e : Event) → n.cores.code ≡ m.cores.code → Took n o e
    → next_history (settings_of m) (program_of m) (history_of n) e ≡ Some (history_of o)
by-first m n o e c t = (λ i. next_history (sym c i).settings (program (started (sym c i))) (history_of n) e) ∙ t.next

pub went-none : (m : Machine) → m.unsent ≡ [] → Went m m []
unfolding run_from
went-none m u = record { ran = refl; settled = u; events = omega arith; code = refl }

pub went-more : (m n o : Machine) (es : List Event) (e : Event) → Went m n es → Took n o e → Went m o (es ++ e ∷ [])
went-more m n o es e w t = record {
  ran = run-more (settings_of m) (program_of m) es e (history_of m) (history_of n) w.ran ∙ by-first m n o e w.code t;
  settled = t.settled;
  events = let a = w.events in let b = t.events in let c = one-longer es e in omega (arith, a, b, c);
  code = t.code ∙ w.code;
}

-- of the events that were to come these were taken, as many as the number says, and the others are left
pub record Gone (m n : Machine) (all left : List Event) (number : ℕ) : Type 0 where
  pub firsts : List Event
  pub went : Went m n firsts
  pub parts : all ≡ firsts ++ left
  pub count : length firsts ≡ number

abbrev pub gone-none : (m : Machine) (all : List Event) → m.unsent ≡ [] → Gone m m all all 0
gone-none m all u = record { firsts = []; went = went-none m u; parts = refl; count = refl }

abbrev pub gone-more : (m n o : Machine) (all left later : List Event) (number : ℕ) (e : Event) → Gone m n all left number
    → left ≡ e ∷ later → Took n o e → Gone m o all later (number + 1)
gone-more m n o all left later number e g l t = record {
  firsts = g.firsts ++ e ∷ [];
  went = went-more m n o g.firsts e g.went t;
  parts = g.parts ∙ ap (λ es. g.firsts ++ es) l ∙ sym (append_assoc g.firsts (e ∷ []) later);
  count = let a = one-longer g.firsts e in let b = g.count in omega (arith, a, b);
}

-- nothing is left
pub gone-all : (m n : Machine) (all left : List Event) (number : ℕ) → (g : Gone m n all left number) → left ≡ [] → all ≡ g.firsts
gone-all m n all left number g l = g.parts ∙ ap (λ es. g.firsts ++ es) l ∙ append-nil g.firsts

-- as many were taken as there were at most
pub gone-most : (m n : Machine) (all left : List Event) (number most : ℕ) → Gone m n all left number → length all ≤ most → most ≤ number
    → left ≡ []
gone-most m n all left number most g few h =
    let a = ap length g.parts in let b = g.count in
    none-left g.firsts left (omega (arith, a, b, few, h))
