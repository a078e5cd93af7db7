-- What a commit sends, as one list: what each node gets of it, and how long it is.
use Rattle.std.proofs.Common.{◌≡◌, ℕ, zero, suc, ◌+◌, ◌<◌, ◌≤◌, Bool, true, false, not, ◌&&◌, ◌==◌, eqb, nat_lt, cond, if◌then◌else◌, List}
use Rattle.std.proofs.Common.{[], ◌∷◌, ◌++◌, length, length-append, append-nil, append_assoc, get_or, take, slice_get, Some, None, ◌⊎◌, inl}
use Rattle.std.proofs.Common.{inr, refl, ap, sym, subst, ◌∙◌, arith}
use Rattle.std.specs.List.{flat_map}
use Rattle.std.proofs.Math.Seq.{take-suc}
use Rattle.std.proofs.lemmas.Option.{slice_get_cases}
use Rattle.std.proofs.lemmas.List.Concat.{flat_map-append}
use Rattle.std.proofs.lemmas.Bool.Decides.{nat_tests}
use borrow.Author.Tests.{lt-ltb, le-ltb, eqb-true, eqb-false, eq-eqb, ne_eqb}
use Rattle.tcc_base.specs.declared.names.NodeId.{NodeId}
use Rattle.tcc_base.specs.declared.names.NodeId.TheVariants as node
use Rattle.rules_maps.specs.Words.{those, count_below, num}
use Rattle.rules_maps.specs.Shape.{Shape, lines}
use Rattle.rules_maps.specs.Lines.{Lines, has_mark}
use Rattle.rules_maps.specs.Nodes as plain
use Rattle.rules_tcc.specs.DirDeliver.{is_invalidated, invs_to, invalidations, sum_below, invalidation_count}
use Rattle.tcc_msg.specs.declared.msg.Msg.{Msg}
use Rattle.tcc_msg.specs.declared.msg.Msg.TheVariants as code
use Rattle.tcc_msg.specs.Plain.{sends_of}
use Rattle.tcc_msg.proofs.Lemmas.{sends_of-append}
use Rattle.directory.specs.Invs.{told, told_of, told_all, is_told}

-- which cores are told
pub told-yes : (ls : Lines) (c l j : ℕ) → (j ≡ c → ⊥) → ls.sharers l j ≡ true → is_told ls c l j ≡ true
told-yes ls c l j ne s = let f : (j == c) ≡ false = ne_eqb j c ne in rw (f, s) refl

pub told-other : (ls : Lines) (c l j : ℕ) → ls.sharers l j ≡ false → is_told ls c l j ≡ false
told-other ls c l j s = rw s (by (j == c))
  where
    by : (b : Bool) → (not b && false) ≡ false
    by true = refl
    by false = refl

pub told-itself : (ls : Lines) (c l j : ℕ) → j ≡ c → is_told ls c l j ≡ false
told-itself ls c l j e = let f : (j == c) ≡ true = eq-eqb j c e in rw f refl

-- one more core is told, or isn't
pub told-grows : (b now next : List (NodeId × Msg)) (l m t : ℕ) (q : ℕ → Bool) (n : ℕ) (x : NodeId × Msg) → q n ≡ true
    → x ≡ (node.Core (record { 0 = n }), code.Inv (record { 0 = l }) (record { 0 = m }) (record { 0 = t }))
    → now ≡ b ++ told l m t q n → next ≡ now ++ x ∷ [] → next ≡ b ++ told l m t q (n + 1)
unfolding told
told-grows b now next l m t q n x f g h e =
    let one : suc n ≡ n + 1 = omega arith in
    e ∙ ((λ i. h i ++ g i ∷ [])
    ∙ (append_assoc b (told l m t q n)
    ((node.Core (record { 0 = n }), code.Inv (record { 0 = l }) (record { 0 = m }) (record { 0 = t })) ∷ [])
    ∙ (ap (λ c. b ++ (told l m t q n
    ++ (if c then (node.Core (record { 0 = n }), code.Inv (record { 0 = l }) (record { 0 = m }) (record { 0 = t })) ∷ []
    else []))) (sym f)
    ∙ ap (λ k. b ++ told l m t q k) one)))

pub told-stays : (b now : List (NodeId × Msg)) (l m t : ℕ) (q : ℕ → Bool) (n : ℕ) → q n ≡ false → now ≡ b ++ told l m t q n
    → now ≡ b ++ told l m t q (n + 1)
unfolding told
told-stays b now l m t q n f h =
    let one : suc n ≡ n + 1 = omega arith in
    h ∙ (ap (λ xs. b ++ xs) (sym (append-nil (told l m t q n)))
    ∙ (ap (λ c. b ++ (told l m t q n
    ++ (if c then (node.Core (record { 0 = n }), code.Inv (record { 0 = l }) (record { 0 = m }) (record { 0 = t })) ∷ []
    else []))) (sym f)
    ∙ ap (λ k. b ++ told l m t q k) one))

-- the first lines of a list, and one more
pub take-next : (xs : List ℕ) (k l : ℕ) → slice_get xs k ≡ Some l → take (k + 1) xs ≡ take k xs ++ l ∷ []
take-next xs k l e = by (slice_get_cases xs k).1
  where
    by : ((x : ℕ) × (k < length xs) × (slice_get xs k ≡ Some x) × (get_or xs k x ≡ x)) ⊎ ((length xs ≤ k) × (slice_get xs k ≡ None))
        → take (k + 1) xs ≡ take k xs ++ l ∷ []
    by (inl s) =
        let g : slice_get xs k ≡ Some s.0 = s.2 in
        let q : s.0 ≡ l = cc in
        let one : k + 1 ≡ suc k = omega arith in
        ap (λ n. take n xs) one ∙ (take-suc xs k s.0 s.1 ∙ ap (λ x. take k xs ++ x ∷ []) (s.3 ∙ q))
    by (inr s) = let g : slice_get xs k ≡ None = s.1 in cc

pub take-whole : (xs : List ℕ) (k : ℕ) → length xs ≤ k → take k xs ≡ xs
take-whole [] zero h = refl
take-whole [] (suc k) h = refl
take-whole (x ∷ xs) zero h = absurd (omega arith)
take-whole (x ∷ xs) (suc k) h = ap (λ ys. x ∷ ys) (take-whole xs k (omega arith))

pub take-past : (xs : List ℕ) (k : ℕ) → slice_get xs k ≡ None → take (k + 1) xs ≡ take k xs
take-past xs k e = by (slice_get_cases xs k).1
  where
    by : ((x : ℕ) × (k < length xs) × (slice_get xs k ≡ Some x) × (get_or xs k x ≡ x)) ⊎ ((length xs ≤ k) × (slice_get xs k ≡ None))
        → take (k + 1) xs ≡ take k xs
    by (inl s) = let g : slice_get xs k ≡ Some s.0 = s.2 in cc
    by (inr s) = take-whole xs (k + 1) (omega (arith, s.0)) ∙ sym (take-whole xs k s.0)

pub told_of-grows : (b now next : List (NodeId × Msg)) (ls : Lines) (cores c t : ℕ) (xs : List ℕ) (k l : ℕ) → slice_get xs k ≡ Some l
    → now ≡ b ++ told_of ls cores c t (take k xs) → next ≡ now ++ told l (ls.mark l) t (is_told ls c l) cores
    → next ≡ b ++ told_of ls cores c t (take (k + 1) xs)
told_of-grows b now next ls cores c t xs k l e h f =
    f ∙ (ap (λ ys. ys ++ told l (ls.mark l) t (is_told ls c l) cores) h
    ∙ (append_assoc b (told_of ls cores c t (take k xs)) (told l (ls.mark l) t (is_told ls c l) cores)
    ∙ (ap (λ ys. b ++ (told_of ls cores c t (take k xs) ++ ys)) (sym (append-nil (told l (ls.mark l) t (is_told ls c l) cores)))
    ∙ (ap (λ ys. b ++ ys) (sym (flat_map-append (λ m. told m (ls.mark m) t (is_told ls c m) cores) (take k xs) (l ∷ [])))
    ∙ ap (λ ys. b ++ told_of ls cores c t ys) (sym (take-next xs k l e))))))

-- of one line
told-core : (l m t : ℕ) (q : ℕ → Bool) (j n : ℕ)
    → sends_of (told l m t q n) (plain.Core j) ≡ (if nat_lt j n && q j then plain.Inv l m t ∷ [] else [])
unfolding told sends_of
told-core l m t q j zero = let f : nat_lt j 0 ≡ false = le-ltb j 0 (omega arith) in rw f refl
told-core l m t q j (suc n) =
    sends_of-append (told l m t q n)
    (if q n then (node.Core (record { 0 = n }), code.Inv (record { 0 = l }) (record { 0 = m }) (record { 0 = t })) ∷ [] else [])
    (plain.Core j)
    ∙ (ap (λ xs. xs ++ sends_of
    (if q n then (node.Core (record { 0 = n }), code.Inv (record { 0 = l }) (record { 0 = m }) (record { 0 = t })) ∷ [] else [])
    (plain.Core j)) (told-core l m t q j n)
    ∙ by (eqb j n) refl)
  where
    last : (c b : Bool)
        → sends_of (if b then (node.Core (record { 0 = n }), code.Inv (record { 0 = l }) (record { 0 = m }) (record { 0 = t })) ∷ []
        else []) (plain.Core j) ≡ (if b && (j == n) then plain.Inv l m t ∷ [] else [])
    last c true = append-nil (if j == n then plain.Inv l m t ∷ [] else [])
    last c false = refl

    by : (c : Bool) → eqb j n ≡ c
        → (if nat_lt j n && q j then plain.Inv l m t ∷ [] else [])
        ++ sends_of (if q n then (node.Core (record { 0 = n }), code.Inv (record { 0 = l }) (record { 0 = m }) (record { 0 = t })) ∷ []
        else []) (plain.Core j)
        ≡ (if nat_lt j (suc n) && q j then plain.Inv l m t ∷ [] else [])
    by true e =
        let same : j ≡ n = eqb-true j n e in
        let f : nat_lt j n ≡ false = le-ltb j n (omega arith) in
        let g : nat_lt j (suc n) ≡ true = lt-ltb j (suc n) (omega arith) in
        rw (f, g) (last true (q n)
        ∙ (ap (λ c. if q n && c then plain.Inv l m t ∷ [] else []) e
        ∙ (and-true (q n) ∙ ap (λ k. if q k then plain.Inv l m t ∷ [] else []) (sym same))))
      where
        and-true : (b : Bool) → (if b && true then plain.Inv l m t ∷ [] else []) ≡ (if b then plain.Inv l m t ∷ [] else [])
        and-true true = refl
        and-true false = refl
    by false e =
        let g : nat_lt j (suc n) ≡ nat_lt j n = below (nat_lt j n) refl in
        rw g (ap (λ xs. (if nat_lt j n && q j then plain.Inv l m t ∷ [] else []) ++ xs)
        (last true (q n) ∙ (ap (λ c. if q n && c then plain.Inv l m t ∷ [] else []) e ∙ and-false (q n)))
        ∙ append-nil (if nat_lt j n && q j then plain.Inv l m t ∷ [] else []))
      where
        and-false : (b : Bool) → (if b && false then plain.Inv l m t ∷ [] else []) ≡ []
        and-false true = refl
        and-false false = refl

        below : (b : Bool) → nat_lt j n ≡ b → nat_lt j (suc n) ≡ nat_lt j n
        below b f = let ne : j ≡ n → ⊥ = eqb-false j n e in grind (arith, nat_tests)

told-dir : (l m t : ℕ) (q : ℕ → Bool) (d n : ℕ) → sends_of (told l m t q n) (plain.Dir d) ≡ []
unfolding told sends_of
told-dir l m t q d zero = refl
told-dir l m t q d (suc n) =
    sends_of-append (told l m t q n)
    (if q n then (node.Core (record { 0 = n }), code.Inv (record { 0 = l }) (record { 0 = m }) (record { 0 = t })) ∷ [] else [])
    (plain.Dir d)
    ∙ (ap (λ xs. xs ++ sends_of
    (if q n then (node.Core (record { 0 = n }), code.Inv (record { 0 = l }) (record { 0 = m }) (record { 0 = t })) ∷ [] else [])
    (plain.Dir d)) (told-dir l m t q d n) ∙ by (q n))
  where
    by : (b : Bool)
        → sends_of (if b then (node.Core (record { 0 = n }), code.Inv (record { 0 = l }) (record { 0 = m }) (record { 0 = t })) ∷ []
        else []) (plain.Dir d) ≡ []
    by true = refl
    by false = refl

told-vendor : (l m t : ℕ) (q : ℕ → Bool) (n : ℕ) → sends_of (told l m t q n) plain.Vendor ≡ []
unfolding told sends_of
told-vendor l m t q zero = refl
told-vendor l m t q (suc n) =
    sends_of-append (told l m t q n)
    (if q n then (node.Core (record { 0 = n }), code.Inv (record { 0 = l }) (record { 0 = m }) (record { 0 = t })) ∷ [] else [])
    plain.Vendor
    ∙ (ap (λ xs. xs ++ sends_of
    (if q n then (node.Core (record { 0 = n }), code.Inv (record { 0 = l }) (record { 0 = m }) (record { 0 = t })) ∷ [] else [])
    plain.Vendor) (told-vendor l m t q n) ∙ by (q n))
  where
    by : (b : Bool)
        → sends_of (if b then (node.Core (record { 0 = n }), code.Inv (record { 0 = l }) (record { 0 = m }) (record { 0 = t })) ∷ []
        else []) plain.Vendor ≡ []
    by true = refl
    by false = refl

-- nothing of all lines where nothing of each
none-of : (ls : Lines) (cores c t : ℕ) (n : plain.Node) → ((l m : ℕ) (q : ℕ → Bool) → sends_of (told l m t q cores) n ≡ []) → (xs : List ℕ)
    → sends_of (told_of ls cores c t xs) n ≡ []
unfolding sends_of
none-of ls cores c t n h [] = refl
none-of ls cores c t n h (x ∷ xs) =
    sends_of-append (told x (ls.mark x) t (is_told ls c x) cores) (told_of ls cores c t xs) n
    ∙ (ap (λ ys. ys ++ sends_of (told_of ls cores c t xs) n) (h x (ls.mark x) (is_told ls c x)) ∙ none-of ls cores c t n h xs)

-- to one core
told_of-core : (sh : Shape) (ls : Lines) (c t j n : ℕ)
    → sends_of (told_of ls sh.cores c t (those (has_mark ls) n)) (plain.Core j) ≡ flat_map (λ l. plain.Inv l (ls.mark l) t ∷ [])
    (those (is_invalidated sh ls c j) n)
unfolding those sends_of is_invalidated
told_of-core sh ls c t j zero = refl
told_of-core sh ls c t j (suc n) =
    ap (λ xs. sends_of xs (plain.Core j))
    (flat_map-append (λ l. told l (ls.mark l) t (is_told ls c l) sh.cores) (those (has_mark ls) n) (cond (has_mark ls n) (n ∷ []) []))
    ∙ (sends_of-append (told_of ls sh.cores c t (those (has_mark ls) n)) (told_of ls sh.cores c t (cond (has_mark ls n) (n ∷ []) []))
    (plain.Core j)
    ∙ ((λ i. told_of-core sh ls c t j n i ++ last (has_mark ls n) i)
    ∙ sym (flat_map-append (λ l. plain.Inv l (ls.mark l) t ∷ []) (those (is_invalidated sh ls c j) n)
    (cond (is_invalidated sh ls c j n) (n ∷ []) []))))
  where
    pick : (a s e : Bool) → (if a && (not e && s) then plain.Inv n (ls.mark n) t ∷ [] else []) ≡ flat_map
        (λ l. plain.Inv l (ls.mark l) t ∷ []) (cond (a && true && s && not e) (n ∷ []) [])
    pick true true true = refl
    pick true true false = refl
    pick true false true = refl
    pick true false false = refl
    pick false s e = refl

    unpicked : (a s e : Bool) → [] ≡ flat_map (λ l. plain.Inv l (ls.mark l) t ∷ []) (cond (a && false && s && not e) (n ∷ []) [])
    unpicked true s e = refl
    unpicked false s e = refl

    last : (p : Bool) → sends_of (told_of ls sh.cores c t (cond p (n ∷ []) [])) (plain.Core j)
        ≡ flat_map (λ l. plain.Inv l (ls.mark l) t ∷ []) (cond (nat_lt j sh.cores && p && ls.sharers n j && not (j == c)) (n ∷ []) [])
    last true =
        ap (λ xs. sends_of xs (plain.Core j)) (append-nil (told n (ls.mark n) t (is_told ls c n) sh.cores))
        ∙ (told-core n (ls.mark n) t (is_told ls c n) j sh.cores ∙ pick (nat_lt j sh.cores) (ls.sharers n j) (j == c))
    last false = unpicked (nat_lt j sh.cores) (ls.sharers n j) (j == c)

-- to each node what the rule sends
pub told_all-sends : (sh : Shape) (ls : Lines) (c t : ℕ) → invalidations sh ls c t ≡ sends_of (told_all sh ls c t)
unfolding invalidations invs_to
told_all-sends sh ls c t = λ i n. by n i
  where
    by : (n : plain.Node) → invalidations sh ls c t n ≡ sends_of (told_all sh ls c t) n
    by (plain.Core j) = sym (told_of-core sh ls c t j (lines sh))
    by (plain.Dir d) = sym (none-of ls sh.cores c t (plain.Dir d) (λ l m q. told-dir l m t q d sh.cores) (those (has_mark ls) (lines sh)))
    by plain.Vendor = sym (none-of ls sh.cores c t plain.Vendor (λ l m q. told-vendor l m t q sh.cores) (those (has_mark ls) (lines sh)))

-- sums
total-same : (f g : ℕ → ℕ) (n : ℕ) → ((j : ℕ) → j < n → f j ≡ g j) → sum_below f n ≡ sum_below g n
unfolding sum_below
total-same f g zero h = refl
total-same f g (suc n) h = λ i. total-same f g n (λ j l. h j (omega arith)) i + h n (omega arith) i

total-none : (n : ℕ) → sum_below (λ j. 0) n ≡ 0
unfolding sum_below
total-none zero = refl
total-none (suc n) = omega (arith, total-none n)

total-plus : (f g : ℕ → ℕ) (n : ℕ) → sum_below (λ j. f j + g j) n ≡ sum_below f n + sum_below g n
unfolding sum_below
total-plus f g zero = refl
total-plus f g (suc n) = omega (arith, total-plus f g n)

total-count : (q : ℕ → Bool) (n : ℕ) → count_below q n ≡ sum_below (λ j. num (q j)) n
unfolding sum_below count_below
total-count q zero = refl
total-count q (suc n) = ap (λ k. k + num (q n)) (total-count q n)

-- of one line as many as are told
told-length : (l m t : ℕ) (q : ℕ → Bool) (n : ℕ) → length (told l m t q n) ≡ count_below q n
unfolding told count_below
told-length l m t q zero = refl
told-length l m t q (suc n) =
    length-append (told l m t q n)
    (if q n then (node.Core (record { 0 = n }), code.Inv (record { 0 = l }) (record { 0 = m }) (record { 0 = t })) ∷ [] else [])
    ∙ (λ i. told-length l m t q n i + by (q n) i)
  where
    by : (b : Bool)
        → length {A = NodeId × Msg}
        (if b then (node.Core (record { 0 = n }), code.Inv (record { 0 = l }) (record { 0 = m }) (record { 0 = t })) ∷ [] else []) ≡ num b
    by true = refl
    by false = refl

told_of-length : (sh : Shape) (ls : Lines) (c t n : ℕ) → length (told_of ls sh.cores c t (those (has_mark ls) n)) ≡ sum_below
    (λ j. count_below (is_invalidated sh ls c j) n) sh.cores
unfolding those count_below is_invalidated
told_of-length sh ls c t zero = sym (total-none sh.cores)
told_of-length sh ls c t (suc n) =
    ap length (flat_map-append (λ l. told l (ls.mark l) t (is_told ls c l) sh.cores) (those (has_mark ls) n)
    (cond (has_mark ls n) (n ∷ []) []))
    ∙ (length-append (told_of ls sh.cores c t (those (has_mark ls) n)) (told_of ls sh.cores c t (cond (has_mark ls n) (n ∷ []) []))
    ∙ ((λ i. told_of-length sh ls c t n i + last (has_mark ls n) i)
    ∙ sym (total-plus (λ j. count_below (is_invalidated sh ls c j) n) (λ j. num (is_invalidated sh ls c j n)) sh.cores)))
  where
    pick : (s e : Bool) → num (not e && s) ≡ num (true && true && s && not e)
    pick true true = refl
    pick true false = refl
    pick false true = refl
    pick false false = refl

    unpicked : (a s e : Bool) → 0 ≡ num (a && false && s && not e)
    unpicked true s e = refl
    unpicked false s e = refl

    last : (p : Bool) → length (told_of ls sh.cores c t (cond p (n ∷ []) [])) ≡ sum_below
        (λ j. num (nat_lt j sh.cores && p && ls.sharers n j && not (j == c))) sh.cores
    last true =
        ap length (append-nil (told n (ls.mark n) t (is_told ls c n) sh.cores))
        ∙ (told-length n (ls.mark n) t (is_told ls c n) sh.cores
        ∙ (total-count (is_told ls c n) sh.cores
        ∙ total-same (λ j. num (is_told ls c n j)) (λ j. num (nat_lt j sh.cores && true && ls.sharers n j && not (j == c))) sh.cores
        (λ j lt. pick (ls.sharers n j) (j == c) ∙ ap (λ a. num (a && true && ls.sharers n j && not (j == c)))
        (sym (lt-ltb j sh.cores lt)))))
    last false =
        sym (total-none sh.cores)
        ∙ total-same (λ j. 0) (λ j. num (nat_lt j sh.cores && false && ls.sharers n j && not (j == c))) sh.cores
        (λ j lt. unpicked (nat_lt j sh.cores) (ls.sharers n j) (j == c))

pub told_all-length : (sh : Shape) (ls : Lines) (c t : ℕ) → length (told_all sh ls c t) ≡ invalidation_count sh ls c
unfolding invalidation_count
told_all-length sh ls c t = told_of-length sh ls c t (lines sh)
