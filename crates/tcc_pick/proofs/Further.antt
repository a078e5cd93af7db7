-- What a generator's further words are, and what they pick.
use Rattle.std.proofs.Common.{◌≡◌, ℕ, zero, suc, ◌+◌, ◌≤◌, List, [], ◌∷◌, ◌++◌, length, Option, Some}
use Rattle.std.proofs.Common.{None, refl, ap, sym, ◌∙◌, add-one, arith}
use Rattle.rand_core.specs.Steps.{first_words}
use Rattle.rand_pcg.specs.Lcg.{Lcg, advance}
use Rattle.rand_pcg.specs.Pcg.{multiplier_64, pcg32}
use Rattle.rand_pcg.proofs.LcgLemmas.{advance_more, advance_zero}
use Rattle.rules_maps.specs.Nodes.{Event}
use Rattle.rules_maps.specs.Shape.{Shape}
use Rattle.rules_program.specs.Program.{Program}
use Rattle.rules_tcc.specs.Picked.{after_step, chosen, pick, picked}
use Rattle.rules_tcc.specs.State.{World}
use Rattle.rules_tcc.specs.Step.{History, Stepped, and_noted, and_then, next_history, recorded, run_from, step}
use Rattle.rules_tcc.specs.Useful.{useful}
use Rattle.tcc_pick.specs.Words.{after_words, words}

-- ---- the words

-- the first word, and then the others
after-first : (n : ℕ) (g : Lcg) → after_words (suc n) g ≡ after_words n (pcg32 g).1
unfolding after_words
after-first zero g = refl
after-first (suc n) g = ap (λ f. (pcg32 f).1) (after-first n g)

-- so many words are passed at once
pub after-advance : (n : ℕ) (g : Lcg) → advance 64 multiplier_64 n g ≡ after_words n g
unfolding after_words
after-advance zero g = advance_zero 64 multiplier_64 g
after-advance (suc n) g =
    ap (λ k. advance 64 multiplier_64 k g) (sym (add-one n))
    ∙ sym (advance_more 64 multiplier_64 n g)
    ∙ after-advance n (pcg32 g).1
    ∙ sym (after-first n g)

-- ---- what they pick

-- no event is useful, whatever the words
nothing-picked : (sh : Shape) (p : Program) (w : World) (m r : ℕ) (g : Lcg) → chosen r (useful sh p w) ≡ None
    → picked sh p (words m g) w ≡ []
unfolding picked first_words chosen
nothing-picked sh p w zero r g e = refl
nothing-picked sh p w (suc m) r g e = go (useful sh p w) e
  where
    go : (es : List Event) → chosen r es ≡ None → pick sh p w (picked sh p (words m (pcg32 g).1)) (chosen (pcg32 g).0 es) ≡ []
    go [] q = refl
    go (x ∷ xs) q = absurd (cc)

-- the events `all` are these, and then those that the next m words pick where they led
abbrev pub GoesOn : Shape → Program → (m : ℕ) → Lcg → (firsts all : List Event) → History → Type 0
GoesOn sh p m g firsts all i = all ≡ firsts ++ picked sh p (words m (after_words (length firsts) g)) i.world

-- what n + m words pick is what n words pick, and then what the next m do in the state to which these led
pub picked-further : (sh : Shape) (p : Program) (n m : ℕ) (g : Lcg) (h i : History)
    → run_from sh p (picked sh p (words n g) h.world) h ≡ Some i
    → GoesOn sh p m g (picked sh p (words n g) h.world) (picked sh p (words (n + m) g) h.world) i
unfolding picked first_words run_from next_history after_words
picked-further sh p zero m g h i r =
    let same : h ≡ i = cc in
    let none : 0 + m ≡ m = omega arith in
    ap (λ k. picked sh p (words k g) h.world) none ∙ ap (λ k. picked sh p (words m g) k.world) same
picked-further sh p (suc n) m g h i r =
    let more : suc n + m ≡ suc (n + m) = omega arith in
    ap (λ k. picked sh p (words k g) h.world) more
    ∙ choice (chosen (pcg32 g).0 (useful sh p h.world)) refl (λ k. picked-further sh p n m (pcg32 g).1 k i) r
  where
    firsts : World → List Event
    firsts = picked sh p (words n (pcg32 g).1)

    all : World → List Event
    all = picked sh p (words (n + m) (pcg32 g).1)

    stepped : (e : Event) (o : Option Stepped)
        → ((k : History) → run_from sh p (firsts k.world) k ≡ Some i → GoesOn sh p m (pcg32 g).1 (firsts k.world) (all k.world) i)
        → and_then (run_from sh p (after_step firsts o)) (recorded h o) ≡ Some i
        → GoesOn sh p m g (e ∷ after_step firsts o) (e ∷ after_step all o) i
    stepped e None later q = absurd (cc)
    stepped e (Some s) later q =
        ap (λ es. e ∷ es) (later (record { world = s.world; commits = and_noted s.noted h.commits }) q
        ∙ ap (λ f. firsts s.world ++ picked sh p (words m f) i.world) (sym (after-first (length (firsts s.world)) g)))

    choice : (o : Option Event) → chosen (pcg32 g).0 (useful sh p h.world) ≡ o
        → ((k : History) → run_from sh p (firsts k.world) k ≡ Some i → GoesOn sh p m (pcg32 g).1 (firsts k.world) (all k.world) i)
        → run_from sh p (pick sh p h.world firsts o) h ≡ Some i
        → GoesOn sh p m g (pick sh p h.world firsts o) (pick sh p h.world all o) i
    choice None c later q =
        let same : h ≡ i = cc in
        sym (nothing-picked sh p h.world m (pcg32 g).0 g c) ∙ ap (λ k. picked sh p (words m g) k.world) same
    choice (Some e) c later q = stepped e (step sh p h.world e) later q

-- what more words pick begins with what fewer do
pub picked-begins : (sh : Shape) (p : Program) (n m : ℕ) (g : Lcg) (w : World)
    → (more : List Event) × (picked sh p (words (n + m) g) w ≡ picked sh p (words n g) w ++ more)
unfolding picked first_words
picked-begins sh p zero m g w = (picked sh p (words (0 + m) g) w, refl)
picked-begins sh p (suc n) m g w =
    let more : suc n + m ≡ suc (n + m) = omega arith in
    let (others, e) = choice (chosen (pcg32 g).0 (useful sh p w)) (picked-begins sh p n m (pcg32 g).1) in
    (others, ap (λ k. picked sh p (words k g) w) more ∙ e)
  where
    firsts : World → List Event
    firsts = picked sh p (words n (pcg32 g).1)

    all : World → List Event
    all = picked sh p (words (n + m) (pcg32 g).1)

    stepped : (o : Option Stepped) → ((v : World) → (more : List Event) × (all v ≡ firsts v ++ more))
        → (more : List Event) × (after_step all o ≡ after_step firsts o ++ more)
    stepped None later = ([], refl)
    stepped (Some s) later = later s.world

    choice : (o : Option Event) → ((v : World) → (more : List Event) × (all v ≡ firsts v ++ more))
        → (more : List Event) × (pick sh p w all o ≡ pick sh p w firsts o ++ more)
    choice None later = ([], refl)
    choice (Some e) later = let (more, q) = stepped (step sh p w e) later in (more, ap (λ es. e ∷ es) q)

-- ---- how many they pick

-- at most one event a word
pub picked-few : (sh : Shape) (p : Program) (n : ℕ) (g : Lcg) (w : World) → length (picked sh p (words n g) w) ≤ n
unfolding picked first_words
picked-few sh p zero g w = omega arith
picked-few sh p (suc n) g w = choice (chosen (pcg32 g).0 (useful sh p w)) (picked-few sh p n (pcg32 g).1)
  where
    firsts : World → List Event
    firsts = picked sh p (words n (pcg32 g).1)

    stepped : (o : Option Stepped) → ((v : World) → length (firsts v) ≤ n) → length (after_step firsts o) ≤ n
    stepped None few = omega arith
    stepped (Some s) few = few s.world

    choice : (o : Option Event) → ((v : World) → length (firsts v) ≤ n) → length (pick sh p w firsts o) ≤ suc n
    choice None few = omega arith
    choice (Some e) few = let rest = stepped (step sh p w e) few in omega (arith, rest)
