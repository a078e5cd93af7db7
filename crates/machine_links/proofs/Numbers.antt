-- The numbers of the messages on a link that have a property.
use Rattle.std.proofs.Common.{◌≡◌, ℕ, suc, zero, ◌+◌, ◌<◌, ◌≤◌, ◌≢◌, Bool, true, false, cond, ⊎_elim, List, [], ◌∷◌, ◌++◌, map, length}
use Rattle.std.proofs.Common.{get_or, Option, Some, None, refl, ap, sym, ◌∙◌, arith}
use Rattle.std.specs.List.{filter, count_by}
use Rattle.std.proofs.lemmas.Bool.{cases_eq, cases_Bool, eq-eqb, ne_eqb}
use Rattle.std.proofs.lemmas.List.{length-map}
use Rattle.std.proofs.lemmas.List.Sums.{sum_by-cons, length-filter, count_by-le-length}
use Rattle.base_lemmas.proofs.Lemmas.{count_below-head, those-none, those-same}
use Rattle.rules_maps.specs.Words.{those, count_below, num}
use Rattle.rules_maps.proofs.Lemmas.{length-those}
use Rattle.machine_links.specs.declared.lane.Held.{Held}
use Rattle.machine_links.specs.declared.lane.Waiting.{Waiting}
use Rattle.machine_links.specs.Lane.{Lane, is_marked, is_waiting, numbers_of}
use Rattle.machine_links.specs.Laid.{laid, held_at, Rises}
use Rattle.machine_links.proofs.Laid.{length-laid, get-laid}
use Rattle.machine_links.proofs.Finding.{rises-le, held-low}

-- the first of them, and the others
those-first : (p q : ℕ → Bool) (s n : ℕ) → s < n → p s ≡ true → ((k : ℕ) → k < s → p k ≡ false) → ((k : ℕ) → k ≢ s → p k ≡ q k)
    → q s ≡ false → those p n ≡ s ∷ those q n
unfolding those
those-first p q s zero h own low same out = absurd (omega arith)
those-first p q s (suc n) h own low same out =
    ⊎_elim (λ e. last e)
    (λ ne. let lt : s < n = omega arith in λ i. those-first p q s n lt own low same out i ++ cond (same n (λ f. ne (sym f)) i) (n ∷ []) [])
    (cases_eq s n)
  where
    last : s ≡ n → those p n ++ cond (p n) (n ∷ []) [] ≡ s ∷ (those q n ++ cond (q n) (n ∷ []) [])
    last e =
        let a : those p n ≡ [] = those-none p n (λ k l. low k (omega arith)) in
        let b : those q n ≡ [] = those-none q n (λ k l. sym (same k (λ f. omega arith)) ∙ low k (omega arith)) in
        let c : p n ≡ true = ap p (sym e) ∙ own in
        let d : q n ≡ false = ap q (sym e) ∙ out in
        rw (a, b, c, d) (ap (λ k. k ∷ []) (sym e))

-- the numbers that are listed
pub seqs : (Option Held → Bool) → List Waiting → List ℕ
seqs p ws = map (λ w. w.seq) (filter (λ w. p (Some w.held)) ws)

those-held : (p : Option Held → Bool) → p None ≡ false → (low n : ℕ) (ws : List Waiting) → Rises low n ws
    → those (λ k. p (held_at ws k)) n ≡ seqs p ws
unfolding held_at seqs
those-held p none low n [] r = those-none (λ k. p None) n (λ k l. none)
those-held p none low n (w ∷ ws) r =
    ⊎_elim
    (λ yes. those-first (λ k. p (held_at (w ∷ ws) k)) (λ k. p (held_at ws k)) w.seq n (rises-le (suc w.seq) n ws r.1)
    (rw (eq-eqb w.seq w.seq refl) yes)
    (λ k l. ap p (early k l) ∙ none)
    (λ k ne. rw (ne_eqb w.seq k (λ e. ne (sym e))) refl)
    (rw (held-low (suc w.seq) n ws w.seq r.1 (omega arith)) none)
    ∙ (ap (λ ks. w.seq ∷ ks) (those-held p none (suc w.seq) n ws r.1) ∙ rw yes refl))
    (λ off. those-same (λ k. p (held_at (w ∷ ws) k)) (λ k. p (held_at ws k)) n
    (λ k l. ⊎_elim (λ e. here k e off) (λ ne. rw (ne_eqb w.seq k ne) refl) (cases_eq w.seq k))
    ∙ (those-held p none (suc w.seq) n ws r.1 ∙ rw off refl))
    (cases_Bool (p (Some w.held)))
  where
    here : (k : ℕ) → w.seq ≡ k → p (Some w.held) ≡ false → p (held_at (w ∷ ws) k) ≡ p (held_at ws k)
    here k e off =
        let lt : k < suc w.seq = omega arith in
        rw (eq-eqb w.seq k e, held-low (suc w.seq) n ws k r.1 lt) (off ∙ sym none)

    early : (k : ℕ) → k < w.seq → held_at (w ∷ ws) k ≡ None
    early k l = let ne : w.seq ≢ k = λ e. omega arith in rw (ne_eqb w.seq k ne) (held-low (suc w.seq) n ws k r.1 (omega arith))

pub numbers-laid : (p : Option Held → Bool) → p None ≡ false → (n : ℕ) (ws : List Waiting) → Rises 0 n ws
    → numbers_of p (laid (held_at ws) n) ≡ seqs p ws
unfolding numbers_of
numbers-laid p none n ws r =
    ap (those (λ k. p (get_or (laid (held_at ws) n) k None))) (length-laid (held_at ws) n)
    ∙ (those-same (λ k. p (get_or (laid (held_at ws) n) k None)) (λ k. p (held_at ws k)) n (λ k l. ap p (get-laid (held_at ws) n k None l))
    ∙ those-held p none 0 n ws r)

count-list : (p : Option Held → Bool) (l : Lane) → count_below (λ k. p (get_or l k None)) (length l) ≡ count_by p l
unfolding count_below
count-list p [] = refl
count-list p (x ∷ xs) =
    let a : count_below (λ k. p (get_or (x ∷ xs) k None)) (suc (length xs))
    ≡ num (p x) + count_below (λ k. p (get_or xs k None)) (length xs) = count_below-head (λ k. p (get_or (x ∷ xs) k None)) (length xs) in
    let b : count_by p (x ∷ xs) ≡ num (p x) + count_by p xs = sum_by-cons (λ x. cond (p x) 1 0) x xs in
    a ∙ (ap (λ m. num (p x) + m) (count-list p xs) ∙ sym b)

pub length-numbers : (p : Option Held → Bool) (l : Lane) → length (numbers_of p l) ≡ count_by p l
unfolding numbers_of
length-numbers p l = length-those (λ k. p (get_or l k None)) (length l) ∙ count-list p l

pub count-laid : (p : Option Held → Bool) → p None ≡ false → (n : ℕ) (ws : List Waiting) → Rises 0 n ws
    → count_by p (laid (held_at ws) n) ≤ length ws
unfolding seqs
count-laid p none n ws r =
    let a : length (seqs p ws) ≡ count_by p (laid (held_at ws) n) = ap length (sym (numbers-laid p none n ws r))
    ∙ length-numbers p (laid (held_at ws) n) in
    let b : length (seqs p ws) ≡ count_by (λ w. p (Some w.held)) ws = length-map (filter (λ w. p (Some w.held)) ws) (λ w. w.seq)
    ∙ length-filter (λ w. p (Some w.held)) ws in
    let c : count_by (λ w. p (Some w.held)) ws ≤ length ws = count_by-le-length (λ w. p (Some w.held)) ws in omega arith

all : (ws : List Waiting) → filter (λ w. true) ws ≡ ws
all [] = refl
all (w ∷ ws) = ap (λ vs. w ∷ vs) (all ws)

pub waiting-laid : (n : ℕ) (ws : List Waiting) → Rises 0 n ws → numbers_of is_waiting (laid (held_at ws) n) ≡ map (λ w. w.seq) ws
unfolding seqs is_waiting
waiting-laid n ws r = numbers-laid is_waiting refl n ws r ∙ ap (map (λ w. w.seq)) (all ws)

pub ready-laid : (n : ℕ) (ws : List Waiting) → Rises 0 n ws
    → numbers_of is_marked (laid (held_at ws) n) ≡ map (λ w. w.seq) (filter (λ w. w.held.ready) ws)
unfolding seqs is_marked
ready-laid n ws r = numbers-laid is_marked refl n ws r

pub few-marked : (n : ℕ) (ws : List Waiting) → Rises 0 n ws → count_by is_marked (laid (held_at ws) n) ≤ length ws
unfolding is_marked
few-marked n ws r = count-laid is_marked refl n ws r
