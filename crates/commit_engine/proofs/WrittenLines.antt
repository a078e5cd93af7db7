-- The lines that a core has written, gathered home by home, and in order.
use Rattle.std.proofs.Common.{ℕ, ◌+◌, ◌<◌, ◌≤◌, ◌≡◌, Bool, true, false, cond, ◌||◌, ◌&&◌, ◌⊎◌, inl, inr, List, [], ◌∷◌, ◌++◌, length}
use Rattle.std.proofs.Common.{get_or, map, take, nat_eq, nat_lt, refl, sym, ◌∙◌, ap, subst, arith, Contains, lt-ltb}
use Rattle.std.specs.List.{filter}
use Rattle.std.proofs.lemmas.Bool.{false≢true, cases_eq, and_parts, eq-eqb}
use Rattle.std.proofs.lemmas.Bool.Decides.{nat_tests}
use Rattle.std.proofs.lemmas.List.{map-append, append-nil, take_all}
use Rattle.std.proofs.lemmas.List.Elements.{Contains-append_cases, Contains-append_left, Contains-append_right, filter_more}
use Rattle.std.proofs.lemmas.List.Kept.{AllPairs-filter}
use Rattle.tcc_base.specs.declared.names.LineAddr.{LineAddr}
use Rattle.tcc_base.specs.declared.names.Mask.{Mask}
use Rattle.base_lemmas.proofs.Lemmas.{lt-from, or-left, or-right}
use Rattle.rules_maps.specs.Words.{those}
use Rattle.rules_maps.specs.Shape.{Shape, home, lines}
use Rattle.rules_maps.specs.Cache.{Cache, is_modified, modified_mask, written_lines, marks_by_home}
use Rattle.rules_maps.specs.Spilled.{Spilled, holds}
use Rattle.rules_maps.proofs.Lemmas.{those-holds, those-only, those-rise}
use Rattle.rules_tcc.specs.Commit.{is_written, written_mask}
use Rattle.spec_cache.specs.Home.{mark_of}
use Rattle.commit_engine.specs.Solo.{line_in, solo_list}
use Rattle.commit_engine.proofs.Rising.{Rises, rising_same, filter-has, filter-only}

-- ---- the lines of marks

map-firsts : (f : ℕ → ℕ) (ls : List ℕ) (ms : List (LineAddr × Mask)) → map mark_of ms ≡ map (λ l. (l, f l)) ls → map line_in ms ≡ ls
map-firsts f ls ms e = sym (firsts ms) ∙ ap (map (λ (p : ℕ × ℕ). p.0)) e ∙ back ls
  where
    firsts : (ms : List (LineAddr × Mask)) → map (λ (p : ℕ × ℕ). p.0) (map mark_of ms) ≡ map line_in ms
    firsts [] = refl
    firsts (m ∷ ms) = ap (λ l. m.0.0 ∷ l) (firsts ms)

    back : (ls : List ℕ) → map (λ (p : ℕ × ℕ). p.0) (map (λ l. (l, f l)) ls) ≡ ls
    back [] = refl
    back (l ∷ ls) = ap (λ k. l ∷ k) (back ls)

pub marks-lines : (sh : Shape) (c : Cache) (d : ℕ) (ms : List (LineAddr × Mask)) → map mark_of ms ≡ marks_by_home sh c d
    → map line_in ms ≡ written_lines sh c d
unfolding marks_by_home
marks-lines sh c d ms e = map-firsts (modified_mask c) (written_lines sh c d) ms e

-- ---- home by home

written-or : (c : Cache) (sp : Spilled) (l : ℕ) → is_written c sp l ≡ (is_modified c l || holds sp l)
unfolding is_written
written-or c sp l = refl

pub record Gathered (sh : Shape) (c : Cache) (sp : Spilled) (d : ℕ) (ls : List ℕ) : Type 0 where
  pub modified : (l : ℕ) → l < lines sh → is_modified c l ≡ true → home sh l < d → Contains ls l
  pub spilled : (l : ℕ) → holds sp l ≡ true → Contains ls l
  pub only : (l : ℕ) → Contains ls l → is_written c sp l ≡ true

pub gathered-none : (sh : Shape) (c : Cache) (sp : Spilled) (ls : List ℕ)
    → ((l : ℕ) → (Contains ls l → holds sp l ≡ true) × (holds sp l ≡ true → Contains ls l)) → Gathered sh c sp 0 ls
gathered-none sh c sp ls h = record {
  modified = λ l b m less. absurd (omega (arith, less));
  spilled = λ l s. (h l).1 s;
  only = λ l i. written-or c sp l ∙ or-right (is_modified c l) (holds sp l) ((h l).0 i);
}

pub gathered-more : (sh : Shape) (c : Cache) (sp : Spilled) (d : ℕ) (ls ms : List ℕ) → Gathered sh c sp d ls
    → ms ≡ ls ++ written_lines sh c d → Gathered sh c sp (d + 1) ms
unfolding written_lines
gathered-more sh c sp d ls ms g e = record {
  modified = λ l b m less. subst (λ (xs : List ℕ). Contains xs l) (sym e) (at l b m less (cases_eq d (home sh l)));
  spilled = λ l s. subst (λ (xs : List ℕ). Contains xs l) (sym e) (Contains-append_left ls (those test (lines sh)) l (g.spilled l s));
  only = λ l i. elim (Contains-append_cases ls (those test (lines sh)) l (subst (λ (xs : List ℕ). Contains xs l) e i)) [
    | inl j ↦ g.only l j
    | inr j ↦ written-or c sp l ∙ or-left (is_modified c l) (holds sp l)
        (and_parts (nat_eq d (home sh l)) (is_modified c l) (those-only test (lines sh) l j).1).1
  ];
}
  where
    test : ℕ → Bool
    test l = nat_eq d (home sh l) && is_modified c l

    at : (l : ℕ) → l < lines sh → is_modified c l ≡ true → home sh l < d + 1 → (d ≡ home sh l) ⊎ (d ≡ home sh l → ⊥)
        → Contains (ls ++ those test (lines sh)) l
    at l b m less (inl q) = Contains-append_right ls (those test (lines sh)) l
        (those-holds test (lines sh) l b (rw (eq-eqb d (home sh l) q, m) refl))
    at l b m less (inr n) = Contains-append_left ls (those test (lines sh)) l (g.modified l b m (omega (arith, less, n)))

pub gathered-all : (sh : Shape) (c : Cache) (sp : Spilled) (d : ℕ) (ls : List ℕ) → Gathered sh c sp d ls → ((l : ℕ) → home sh l < d)
    → (l : ℕ) → l < lines sh → is_written c sp l ≡ true → Contains ls l
gathered-all sh c sp d ls g h l b w = by (is_modified c l) (holds sp l) refl refl (sym (written-or c sp l) ∙ w)
  where
    by : (m s : Bool) → is_modified c l ≡ m → holds sp l ≡ s → (m || s) ≡ true → Contains ls l
    by true s m q e = g.modified l b m (h l)
    by false true m q e = g.spilled l q
    by false false m q e = absurd (false≢true e)

-- ---- in order, below RAM's end

abbrev below : (n l : ℕ) → Bool
below n l = nat_lt l n

over : (k n : ℕ) → n ≤ k → nat_lt k n ≡ false
over k n h = grind (arith, nat_tests)

pub marks-in : (f : ℕ → ℕ) (n : ℕ) (ls : List ℕ) (i d : ℕ) (ms : List (LineAddr × Mask)) (line : LineAddr) (mask : Mask) → i < length ls
    → line.0 ≡ get_or ls i d → get_or ls i d < n → mask.0 ≡ f (get_or ls i d)
    → map mark_of ms ≡ map (λ l. (l, f l)) (filter (below n) (take i ls))
    → map mark_of (ms ++ (line, mask) ∷ []) ≡ map (λ l. (l, f l)) (filter (below n) (take (i + 1) ls))
marks-in f n ls i d ms line mask h at less m e =
    let pair : ℕ → ℕ × ℕ = λ l. (l, f l) in
    let x = get_or ls i d in
    let here : mark_of (line, mask) ∷ [] ≡ pair x ∷ [] = rw (at, m) refl in
    let t : nat_lt x n ≡ true = lt-ltb x n less in
    map-append mark_of ms ((line, mask) ∷ []) ∙ ap (λ xs. xs ++ mark_of (line, mask) ∷ []) e
    ∙ ap (λ xs. map pair (filter (below n) (take i ls)) ++ xs) here ∙ sym (map-append pair (filter (below n) (take i ls)) (x ∷ []))
    ∙ ap (map pair) (sym (filter_more (below n) ls i d h ∙ ap (λ b. filter (below n) (take i ls) ++ cond b (x ∷ []) []) t))

pub marks-out : (f : ℕ → ℕ) (n : ℕ) (ls : List ℕ) (i d : ℕ) (ms : List (ℕ × ℕ)) → i < length ls → n ≤ get_or ls i d
    → ms ≡ map (λ l. (l, f l)) (filter (below n) (take i ls)) → ms ≡ map (λ l. (l, f l)) (filter (below n) (take (i + 1) ls))
marks-out f n ls i d ms h t e =
    e ∙ ap (map (λ l. (l, f l))) (sym (filter_more (below n) ls i d h
    ∙ ap (λ b. filter (below n) (take i ls) ++ cond b (get_or ls i d ∷ []) []) (over (get_or ls i d) n t)
    ∙ append-nil (filter (below n) (take i ls))))

pub marks-whole : (sh : Shape) (c : Cache) (sp : Spilled) (ls : List ℕ) (n i : ℕ) (ms : List (ℕ × ℕ)) → n ≡ lines sh → length ls ≤ i
    → Rises ls → ((l : ℕ) → l < lines sh → is_written c sp l ≡ true → Contains ls l) → ((l : ℕ) → Contains ls l → is_written c sp l ≡ true)
    → ms ≡ map (λ l. (l, written_mask c sp l)) (filter (below n) (take i ls)) → ms ≡ solo_list sh c sp
unfolding solo_list
marks-whole sh c sp ls n i ms q h r each only e =
    e ∙ ap (λ ks. map (λ l. (l, written_mask c sp l)) (filter (below n) ks)) (take_all i ls h)
    ∙ ap (map (λ l. (l, written_mask c sp l))) (rising_same (filter (below n) ls) (those (is_written c sp) (lines sh))
    (AllPairs-filter (λ x y. x < y) (below n) ls r) (those-rise (is_written c sp) (lines sh))
    (λ k j. let f = filter-only (below n) ls k j in those-holds (is_written c sp) (lines sh) k (less k f.1) (only k f.0))
    (λ k j. let t = those-only (is_written c sp) (lines sh) k j in filter-has (below n) ls k (each k t.0 t.1)
    (lt-ltb k n (let b : k < lines sh = t.0 in omega (arith, b, q)))))
  where
    less : (k : ℕ) → nat_lt k n ≡ true → k < lines sh
    less k t = subst (λ (x : ℕ). k < x) q (lt-from k n t)
