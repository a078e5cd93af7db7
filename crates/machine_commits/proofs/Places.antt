-- Where a commit comes to stand, looked for from the end.
use Rattle.std.proofs.Common.{◌≡◌, ℕ, ◌+◌, ◌<◌, ◌≤◌, Bool, true, false, nat_lt, List, [], ◌∷◌, ◌++◌, length, get_or, take, drop}
use Rattle.std.proofs.Common.{if◌then◌else◌, refl, sym, ap, ◌∙◌, subst, append_assoc, append-nil, add-one, arith}
use borrow.Author.Tests.{lt-ltb, le-ltb}
use Rattle.std.specs.List.{insert}
use Rattle.std.proofs.Math.Seq.{drop-cons, take-suc}
use Rattle.std.proofs.lemmas.List.{take-append-drop, take_all, drop_all}
use Rattle.tcc_base.specs.declared.access.Commit.{Commit}
use Rattle.rules_tcc.specs.Step.{insert_commit}
use Rattle.machine_commits.specs.Rising.{Rising}
use Rattle.machine_commits.proofs.Lemmas.{Rising-above, Rising-front, RisesFrom-last}

-- before one of a larger TID
insert_commit-front : (c d : Commit) (xs : List Commit) → c.tid.0 < d.tid.0 → insert_commit c (xs ++ d ∷ []) ≡ insert_commit c xs ++ d ∷ []
unfolding insert_commit
insert_commit-front c d [] h = let e : nat_lt c.tid.0 d.tid.0 ≡ true = lt-ltb c.tid.0 d.tid.0 h in rw e refl
insert_commit-front c d (x ∷ xs) h = by (insert_commit-front c d xs h) (nat_lt c.tid.0 x.tid.0)
  where
    by : insert_commit c (xs ++ d ∷ []) ≡ insert_commit c xs ++ d ∷ [] → (b : Bool)
        → (if b then c ∷ x ∷ (xs ++ d ∷ []) else x ∷ insert_commit c (xs ++ d ∷ []))
        ≡ (if b then c ∷ x ∷ xs else x ∷ insert_commit c xs) ++ d ∷ []
    by rest true = refl
    by rest false = ap (λ ys. x ∷ ys) rest

-- behind a last one of no larger TID
insert_commit-last : (c d : Commit) (xs : List Commit) → Rising (xs ++ d ∷ []) → d.tid.0 ≤ c.tid.0
    → insert_commit c (xs ++ d ∷ []) ≡ xs ++ d ∷ c ∷ []
unfolding insert_commit Rising
insert_commit-last c d [] h le = let e : nat_lt c.tid.0 d.tid.0 ≡ false = le-ltb c.tid.0 d.tid.0 le in rw e refl
insert_commit-last c d (x ∷ xs) h le =
    let lt : x.tid.0 < d.tid.0 = RisesFrom-last x.tid.0 xs d h in
    let e : nat_lt c.tid.0 x.tid.0 ≡ false = le-ltb c.tid.0 x.tid.0 (omega arith) in
    rw e (ap (λ ys. x ∷ ys) (insert_commit-last c d xs (Rising-above x.tid.0 (xs ++ d ∷ []) h) le))

-- the first commits, with one more
take-more : (k : ℕ) (d : Commit) (cs : List Commit) → k < length cs → d ≡ get_or cs k d → take (k + 1) cs ≡ take k cs ++ d ∷ []
take-more k d cs lt is = ap (λ n. take n cs) (add-one k) ∙ (take-suc cs k d lt ∙ ap (λ x. take k cs ++ x ∷ []) (sym is))

-- the commit stands among the first k
unfoldable pub StandsAmong : ℕ → Commit → List Commit → Type 0
StandsAmong k c cs = insert_commit c cs ≡ insert_commit c (take k cs) ++ drop k cs

-- at first all of them
pub stands-among_all : (k : ℕ) (c : Commit) (cs : List Commit) → length cs ≤ k → StandsAmong k c cs
unfolding StandsAmong
stands-among_all k c cs h =
    let front : take k cs ≡ cs = take_all k cs h in
    let back : drop k cs ≡ [] = drop_all k cs h in
    rw (front, back) (sym (append-nil (insert_commit c cs)))

-- one less where that one has a larger TID
pub stands-among_fewer : (k : ℕ) (c d : Commit) (cs : List Commit) → k < length cs → d ≡ get_or cs k d
    → c.tid.0 < d.tid.0 → StandsAmong (k + 1) c cs → StandsAmong k c cs
unfolding StandsAmong
stands-among_fewer k c d cs lt is h s =
    let front : take (k + 1) cs ≡ take k cs ++ d ∷ [] = take-more k d cs lt is in
    let back : drop k cs ≡ d ∷ drop (k + 1) cs = drop-cons cs k d lt ∙ (λ i. sym is i ∷ drop (sym (add-one k) i) cs) in
    s ∙ (ap (λ xs. insert_commit c xs ++ drop (k + 1) cs) front
    ∙ (ap (λ xs. xs ++ drop (k + 1) cs) (insert_commit-front c d (take k cs) h)
    ∙ (append_assoc (insert_commit c (take k cs)) (d ∷ []) (drop (k + 1) cs)
    ∙ ap (λ xs. insert_commit c (take k cs) ++ xs) (sym back))))

-- found: there is none before it
pub stands-first : (c : Commit) (cs : List Commit) → StandsAmong 0 c cs → insert_commit c cs ≡ insert cs 0 c
unfolding StandsAmong insert_commit
stands-first c cs s = s

-- or the last before it has no larger TID
pub stands-behind : (k : ℕ) (c d : Commit) (cs : List Commit) → Rising cs → k < length cs → d ≡ get_or cs k d
    → d.tid.0 ≤ c.tid.0 → StandsAmong (k + 1) c cs → insert_commit c cs ≡ insert cs (k + 1) c
unfolding StandsAmong
stands-behind k c d cs rising lt is le s =
    let front : take (k + 1) cs ≡ take k cs ++ d ∷ [] = take-more k d cs lt is in
    let part : Rising (take (k + 1) cs) = Rising-front (take (k + 1) cs) (drop (k + 1) cs) (rw (take-append-drop (k + 1) cs) rising) in
    let fits : Rising (take k cs ++ d ∷ []) = subst Rising front part in
    s ∙ (ap (λ xs. insert_commit c xs ++ drop (k + 1) cs) front
    ∙ (ap (λ xs. xs ++ drop (k + 1) cs) (insert_commit-last c d (take k cs) fits le)
    ∙ (ap (λ xs. xs ++ drop (k + 1) cs) (sym (append_assoc (take k cs) (d ∷ []) (c ∷ [])))
    ∙ (ap (λ xs. (xs ++ c ∷ []) ++ drop (k + 1) cs) (sym front)
    ∙ append_assoc (take (k + 1) cs) (c ∷ []) (drop (k + 1) cs)))))
