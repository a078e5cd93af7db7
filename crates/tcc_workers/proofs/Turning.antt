-- What a worker has called so far, turn by turn.
use Rattle.std.proofs.Common.{◌≡◌, ℕ, zero, suc, ◌+◌, ◌*◌, ◌%◌, ◌<◌, ◌≤◌, true, false, List, [], ◌∷◌, ◌++◌, length, Option, Some, None}
use Rattle.std.proofs.Common.{inl, inr, refl, sym, ap, subst, ◌∙◌, append_assoc, append-nil, arith, ◌⊎◌}
use Rattle.std.proofs.Math.Nat.{eq-or-lt_of_le, mul-le-mul_right}
use Rattle.std.proofs.lemmas.Bool.{false≢true}
use Rattle.std.proofs.lemmas.Bool.Decides.{nat_tests}
use Rattle.rand_pcg.specs.Lcg.{Lcg}
use Rattle.rand_pcg.specs.Pcg.{pcg32}
use Rattle.apart_node.specs.declared.node.Act.{Act}
use Rattle.apart_node.specs.declared.node.Act.TheVariants.{Moved, Idle, Memory}
use Rattle.node_locks.specs.Turns.{IsTurn, after_words, entries_by, moved_in}
use Rattle.node_locks.specs.declared.acts.Acts.{Acts}
use Rattle.tcc_workers.specs.Calls.{Made, acts_at, calls_of, drawn_by, moved_by, idle_run, is_want, met_want, most_next, GoesOn, WentOn}
use Rattle.tcc_workers.specs.Calls.{TookTurns}
use Rattle.tcc_workers.specs.Words.{words_of}
use Rattle.tcc_workers.specs.declared.shift.Shift.{Shift}
use Rattle.tcc_workers.specs.declared.turns.Call.{Call}
use Rattle.tcc_workers.specs.declared.turns.Call.TheVariants.{Pass}

made-none : (a : Option (List Call)) → Made a a []
made-none None = tt
made-none (Some xs) = sym (append-nil xs)

pub made-more : (a b c : Option (List Call)) (xs ys : List Call) → Made a b xs → Made b c ys → Made a c (xs ++ ys)
made-more a b None xs ys p q = tt
made-more a None (Some cs) xs ys p q = absurd q
made-more None (Some bs) (Some cs) xs ys p q = absurd p
made-more (Some as₁) (Some bs) (Some cs) xs ys p q = q ∙ ap (λ l. l ++ ys) p ∙ append_assoc as₁ xs ys

-- m words, and then n more
after-more : (n m : ℕ) (g : Lcg) → after_words n (after_words m g) ≡ after_words (n + m) g
unfolding after_words
after-more zero m g = ap (λ k. after_words k g) (omega arith)
after-more (suc n) m g =
    let sum : suc (n + m) ≡ suc n + m = omega arith in
    ap (λ w. (pcg32 w).1) (after-more n m g) ∙ ap (λ k. after_words k g) sum

pub one-entry : (a : Act) → entries_by a ≤ 1
one-entry Moved = omega arith
one-entry Idle = omega arith
one-entry Memory = omega arith

idle-more : (t : Acts) (before : List Acts) → moved_in t ≡ 0 → idle_run (t ∷ before) ≡ suc (idle_run before)
unfolding idle_run
idle-more t before h = grind (arith, nat_tests)

idle-none : (t : Acts) (before : List Acts) → 0 < moved_in t → idle_run (t ∷ before) ≡ 0
unfolding idle_run
idle-none t before h = grind (arith, nat_tests)

module _ (s : Shift) (nodes before : ℕ) (old : Option (List Call)) where
  -- after so many turns, with the generator and the calls then
  pub record Turning (turn idle moved : ℕ) (words : Lcg) (new : Option (List Call)) : Type 0 where
    pub turns : List Acts
    pub number : turn ≡ length turns
    pub made : Made old new (calls_of s nodes turns)
    pub counted : moved ≡ before + moved_by turns
    pub in_row : idle ≡ idle_run turns
    pub went_on : WentOn s before turns
    pub memory : met_want turns ≡ false
    pub drawn : words ≡ after_words (drawn_by turns) (words_of s.seed s.worker)
    pub few : moved ≤ s.until
    pub patient : idle ≤ s.patience
    pub bound : turn ≤ moved_by turns * s.patience + idle

  pub turning-start : (words : Lcg) → words ≡ words_of s.seed s.worker → before ≤ s.until → Turning 0 0 before words old
  unfolding calls_of drawn_by moved_by idle_run met_want after_words
  turning-start words drawn few = record {
    turns = [];
    number = refl;
    made = made-none old;
    counted = omega arith;
    in_row = refl;
    went_on = tt;
    memory = refl;
    drawn = drawn;
    few = few;
    patient = omega arith;
    bound = omega arith;
  }

  -- where the turns are over, so is the worker's work
  module _ (turn idle moved : ℕ) (words : Lcg) (new : Option (List Call)) (k : Turning turn idle moved words new) where
    pub turning-over : (moved ≡ s.until) ⊎ (idle ≡ s.patience) → TookTurns s nodes before moved old new true
    turning-over over = record {
      turns = k.turns;
      made = k.made;
      counted = k.counted;
      went_on = k.went_on;
      want = k.memory;
      over = λ _. subst (λ n. (moved ≡ s.until) ⊎ (n ≡ s.patience)) k.in_row over;
    }

    -- no worker takes more turns than that
    turning-bounded : (s.until + 1) * s.patience ≤ turn → (moved ≡ s.until) ⊎ (idle ≡ s.patience)
    turning-bounded spent = elim (eq-or-lt_of_le k.few) [
      | inl all ↦ inl all
      | inr short ↦
          let count = k.counted in
          let fewer : moved_by k.turns + 1 ≤ s.until = omega (arith, count, short) in
          let most : (moved_by k.turns + 1) * s.patience ≤ s.until * s.patience = mul-le-mul_right s.patience fewer in
          let bound = k.bound in
          let patient = k.patient in
          inr (omega (arith, most, bound, patient, spent))
    ]

    pub turning-spent : (s.until + 1) * s.patience ≤ turn → TookTurns s nodes before moved old new true
    turning-spent spent = turning-over (turning-bounded spent)

    -- one more turn after the gate, at the node of its number, with the next words
    module _ (more : moved ≡ s.until → ⊥) (patient : idle ≡ s.patience → ⊥) (t : Acts) (most : ℕ) (is : IsTurn most t)
        (enough : most ≡ most_next s moved) (node count : ℕ) (counts : count ≡ nodes) (at : node ≡ (s.worker + turn) % count) (drawn : Lcg)
        (draws : drawn ≡ after_words (suc t.before) words)
        (mid next : Option (List Call)) (passed : Made new mid (Pass s.worker turn ∷ []))
        (took : Made mid next (acts_at node words (suc t.before)))
        (kept after : ℕ) (keeps : kept ≡ moved) (counted : after ≡ kept + moved_in t) where
      left : moved < s.until
      left = elim (eq-or-lt_of_le k.few) [ inl all ↦ absurd (more all) | inr short ↦ short ]

      in_row : idle < s.patience
      in_row = elim (eq-or-lt_of_le k.patient) [ inl all ↦ absurd (patient all) | inr short ↦ short ]

      -- the acts before the last are fewer than the events that are left
      within : moved + t.before < s.until
      within = (let f = is.few in let l = left in omega (arith, f, enough, l))

      goes-on : GoesOn s before k.turns
      goes-on = record {
        left = (let e = k.counted in let l = left in omega (arith, e, l));
        patient = subst (λ n. n < s.patience) k.in_row in_row;
        memory = k.memory;
      }

      next-went : WentOn s before (t ∷ k.turns)
      next-went = (k.went_on, goes-on, subst (λ n. IsTurn n t) (enough ∙ ap (most_next s) k.counted) is)

      next-made : Made old next (calls_of s nodes (t ∷ k.turns))
      unfolding calls_of
      next-made =
          let place : node ≡ (s.worker + length k.turns) % nodes =
          at ∙ ap (λ n. (s.worker + turn) % n) counts ∙ ap (λ n. (s.worker + n) % nodes) k.number in
          let first : Made new mid (Pass s.worker (length k.turns) ∷ []) =
          subst (λ n. Made new mid (Pass s.worker n ∷ [])) k.number passed in
          let rest : Made mid next (acts_at ((s.worker + length k.turns) % nodes)
          (after_words (drawn_by k.turns) (words_of s.seed s.worker)) (suc t.before)) =
          subst (λ w. Made mid next (acts_at ((s.worker + length k.turns) % nodes) w (suc t.before))) k.drawn
          (subst (λ n. Made mid next (acts_at n words (suc t.before))) place took) in
          made-more old new next (calls_of s nodes k.turns) _ k.made (made-more new mid next _ _ first rest)

      next-drawn : drawn ≡ after_words (drawn_by (t ∷ k.turns)) (words_of s.seed s.worker)
      unfolding drawn_by
      next-drawn =
          draws ∙ ap (after_words (suc t.before)) k.drawn ∙ after-more (suc t.before) (drawn_by k.turns) (words_of s.seed s.worker)

      next-counted : after ≡ before + moved_by (t ∷ k.turns)
      unfolding moved_by
      next-counted = (let e = k.counted in omega (arith, e, keeps, counted))

      next-few : after ≤ s.until
      next-few = (let w = within in let one = one-entry t.last in omega (arith, w, one, keeps, counted))

      pub turning-wants : t.last ≡ Memory → TookTurns s nodes before after old next false
      unfolding met_want
      turning-wants want = record {
        turns = t ∷ k.turns;
        made = next-made;
        counted = next-counted;
        went_on = next-went;
        want = ap is_want want;
        over = λ q. absurd (false≢true q);
      }

      pub turning-moved : is_want t.last ≡ false → 0 < moved_in t → Turning (turn + 1) 0 after drawn next
      unfolding met_want moved_by
      turning-moved memory some = record {
        turns = t ∷ k.turns;
        number = (let e = k.number in omega (arith, e));
        made = next-made;
        counted = next-counted;
        in_row = sym (idle-none t k.turns some);
        went_on = next-went;
        memory = memory;
        drawn = next-drawn;
        few = next-few;
        patient = omega arith;
        bound =
            (let all = moved_in t + moved_by k.turns in
            let more : moved_by k.turns + 1 ≤ all = omega (arith, some) in
            let most : (moved_by k.turns + 1) * s.patience ≤ all * s.patience = mul-le-mul_right s.patience more in
            let b = k.bound in
            let p = in_row in
            omega (arith, most, b, p));
      }

      pub turning-idle : is_want t.last ≡ false → moved_in t ≡ 0 → Turning (turn + 1) (idle + 1) after drawn next
      unfolding met_want moved_by
      turning-idle memory none = record {
        turns = t ∷ k.turns;
        number = (let e = k.number in omega (arith, e));
        made = next-made;
        counted = next-counted;
        in_row = (let e = k.in_row in let r = idle-more t k.turns none in omega (arith, e, r));
        went_on = next-went;
        memory = memory;
        drawn = next-drawn;
        few = next-few;
        patient = (let p = in_row in omega (arith, p));
        bound = (let b = k.bound in omega (arith, b, none));
      }
