-- Moving the listed places to the counts, the last one first.
use Rattle.std.proofs.Common.{◌≡◌, ℕ, zero, suc, ◌+◌, ◌-◌, ◌*◌, ◌/◌, ◌<◌, ◌≤◌, Bool, true, false, not, ◌==◌, ◌&&◌, nat_lt, if◌then◌else◌}
use Rattle.std.proofs.Common.{List, [], ◌∷◌, ◌++◌, cond, length, get_or, set, sum, replicate, length-set, length-append, append-nil, refl}
use Rattle.std.proofs.Common.{ap, sym, subst}
use Rattle.std.proofs.Common.{◌∙◌, arith}
use Rattle.std.proofs.lemmas.List.{nil_from_length, same_from_push}
use Rattle.std.proofs.lemmas.List.Folds.{sum_by-replicate}
use Rattle.std.proofs.lemmas.List.Sums.{get_or-le-sum_by}
use Rattle.base_lemmas.proofs.Lemmas.{count_below-same, those-same}
use borrow.Author.Tests.{ltb-true, ltb-false, eqb-true}
use Rattle.rules_maps.specs.Words.{put, those, count_below, num}
use Rattle.rules_maps.proofs.Lemmas.{length-those}
use Rattle.dir_lines.specs.Marking.{Counts, IsMarked}
use Rattle.dir_lines.proofs.Marks.{put-other, put-own}
use Rattle.dir_lines.proofs.Clearing.{count_below-none}
use Rattle.dir_lines.proofs.PagesKeep.{those-none}
use Rattle.dir_lines.proofs.Sixteens.{counts-less, counts-more, counts-most, counts-some, counts-sum}

pub zero-below : (p : ℕ → Bool) (n : ℕ) → ((k : ℕ) → p k ≡ false) → count_below p n ≡ 0
unfolding count_below
zero-below p zero h = refl
zero-below p (suc n) h = let r : count_below p n ≡ 0 = zero-below p n h in let o : num (p n) ≡ 0 = ap num (h n) in omega arith

-- counts of sixteen places each for one test are those for a test that agrees
counts-same : (p q : ℕ → Bool) (counts : List ℕ) → ((k : ℕ) → k < 16 * length counts → p k ≡ q k) → Counts p counts → Counts q counts
counts-same p q counts h f c lt =
    let a : count_below p (16 * c) ≡ count_below q (16 * c) = count_below-same p q (16 * c) (λ k l. h k (omega arith)) in
    let b : count_below p (16 * (c + 1)) ≡ count_below q (16 * (c + 1)) = count_below-same p q (16 * (c + 1)) (λ k l. h k (omega arith)) in
    let o : count_below p (16 * c) + get_or counts c 0 ≡ count_below p (16 * (c + 1)) = f c lt in
    omega arith

-- where all counts are 0, nothing is counted
pub counts-none : (p : ℕ → Bool) (counts : List ℕ) → sum counts ≡ 0 → ((k : ℕ) → p k ≡ false) → Counts p counts
counts-none p counts z h c lt =
    let a : count_below p (16 * c) ≡ 0 = zero-below p (16 * c) h in
    let b : count_below p (16 * (c + 1)) ≡ 0 = zero-below p (16 * (c + 1)) h in
    let d : get_or counts c 0 ≤ sum counts = get_or-le-sum_by (λ x. x) counts c 0 lt in
    omega arith

-- some of the places are listed still, the others counted already
pub record Spilling (p : ℕ → Bool) (few counts : List ℕ) : Type 0 where
  pub still : ℕ → Bool
  pub listed : few ≡ those still (16 * length counts)
  pub counted : Counts (λ k. p k && not (still k)) counts
  pub part : (k : ℕ) → still k ≡ true → p k ≡ true

neither : (b : Bool) → (b && not b) ≡ false
neither true = refl
neither false = refl

alone : (b : Bool) → b ≡ (b && not false)
alone true = refl
alone false = refl

pub spilling-begins : (p : ℕ → Bool) (few counts : List ℕ) → IsMarked few counts p → Spilling p few counts
spilling-begins p few counts m = by (nat_lt 0 (sum counts)) refl
  where
    by : (b : Bool) → nat_lt 0 (sum counts) ≡ b → Spilling p few counts
    by true e = record {
      still = λ k. false;
      listed = (m.counted (ltb-true 0 (sum counts) e)).0 ∙ those-none (λ k. false) (16 * length counts) (λ k. refl);
      counted = counts-same p (λ k. p k && not false) counts (λ k l. alone (p k)) (m.counted (ltb-true 0 (sum counts) e)).1;
      part = λ k f. cc;
    }
    by false e =
        let z : sum counts ≡ 0 = omega (arith, ltb-false 0 (sum counts) e) in
        record {
          still = p;
          listed = m.listed z;
          counted = counts-none (λ k. p k && not (p k)) counts z (λ k. neither (p k));
          part = λ k f. f;
        }

-- the last of a rising list
those-last : (p : ℕ → Bool) (n : ℕ) (rest : List ℕ) (x : ℕ) → those p n ≡ rest ++ x ∷ []
    → (x < n) × (p x ≡ true) × (rest ≡ those (put p x false) n)
unfolding those
those-last p zero rest x e = absurd (omega (arith, length-append rest (x ∷ []), ap length e))
those-last p (suc n) rest x e = by (p n) refl e (λ f. those-last p n rest x f)
  where
    by : (b : Bool) → p n ≡ b → those p n ++ cond b (n ∷ []) [] ≡ rest ++ x ∷ []
        → (those p n ≡ rest ++ x ∷ [] → (x < n) × (p x ≡ true) × (rest ≡ those (put p x false) n))
        → (x < suc n) × (p x ≡ true) × (rest ≡ those (put p x false) n ++ cond (put p x false n) (n ∷ []) [])
    by true g f before =
        let s : (those p n ≡ rest) × (n ≡ x) = same_from_push (those p n) rest n x f in
        let off : put p x false n ≡ false = subst (λ k. put p k false n ≡ false) s.1 (put-own p n false) in (
          omega (arith, s.1),
          subst (λ k. p k ≡ true) s.1 g,
          sym s.0 ∙ (those-same p (put p x false) n (λ k l. sym (put-other p x false k (λ (q : k ≡ x). omega (arith, s.1))))
              ∙ (sym (append-nil (those (put p x false) n)) ∙ ap (λ c. those (put p x false) n ++ cond c (n ∷ []) []) (sym off))),
        )
    by false g f before =
        let r : (x < n) × (p x ≡ true) × (rest ≡ those (put p x false) n) = before (sym (append-nil (those p n)) ∙ f) in
        let lt : x < n = r.0 in
        let off : put p x false n ≡ false = put-other p x false n (λ (q : n ≡ x). omega arith) ∙ g in (
          omega arith,
          r.1,
          r.2 ∙ (sym (append-nil (those (put p x false) n)) ∙ ap (λ c. those (put p x false) n ++ cond c (n ∷ []) []) (sym off)),
        )

-- the next place to be counted, for which there is room
pub spilling-room : (p : ℕ → Bool) (few rest counts : List ℕ) (x : ℕ) → Spilling p few counts → few ≡ rest ++ x ∷ []
    → (x < 16 * length counts) × (get_or counts (x / 16) 0 ≤ 16)
spilling-room p few rest counts x s e =
    let l = those-last s.still (16 * length counts) rest x (sym s.listed ∙ e) in
    let lt : x < 16 * length counts = l.0 in
    (lt, counts-most (λ k. p k && not (s.still k)) counts (x / 16) s.counted (omega arith))

pub spilling-next : (p : ℕ → Bool) (few rest counts next : List ℕ) (x : ℕ) → Spilling p few counts → few ≡ rest ++ x ∷ []
    → next ≡ set counts (x / 16) (get_or counts (x / 16) 0 + 1) → Spilling p rest next
spilling-next p few rest counts next x s e f =
    let l = those-last s.still (16 * length counts) rest x (sym s.listed ∙ e) in
    let on : s.still x ≡ true = l.1 in
    let long : length next ≡ length counts = ap length f ∙ length-set counts (x / 16) (get_or counts (x / 16) 0 + 1) in
    record {
      still = put s.still x false;
      listed = l.2 ∙ ap (λ n. those (put s.still x false) (16 * n)) (sym long);
      counted = counts-same (put (λ k. p k && not (s.still k)) x true) (λ k. p k && not (put s.still x false k)) next
          (λ k q. both k (k == x) refl on)
          (subst (Counts (put (λ k. p k && not (s.still k)) x true)) (sym f)
          (counts-more (λ k. p k && not (s.still k)) counts x s.counted (apart (p x) (s.still x) on)));
      part = λ k g. only k (k == x) g;
    }
  where
    apart : (a b : Bool) → b ≡ true → (a && not b) ≡ false
    apart true true h = refl
    apart false true h = refl
    apart a false h = cc

    both : (k : ℕ) (b : Bool) → (k == x) ≡ b → s.still x ≡ true
        → (if b then true else (p k && not (s.still k))) ≡ (p k && not (if b then false else s.still k))
    both k true h on = sym (ap (λ a. a && true) (ap p (eqb-true k x h) ∙ s.part x on))
    both k false h on = refl

    only : (k : ℕ) (b : Bool) → (if b then false else s.still k) ≡ true → p k ≡ true
    only k true g = cc
    only k false g = s.part k g

pub spilling-done : (p : ℕ → Bool) (few counts : List ℕ) → few ≡ [] → Spilling p few counts → Counts p counts
spilling-done p few counts e s =
    let none : count_below s.still (16 * length counts) ≡ 0 =
    sym (length-those s.still (16 * length counts)) ∙ ap length (sym s.listed ∙ e) in
    counts-same (λ k. p k && not (s.still k)) p counts
    (λ k l. sym (alone (p k) ∙ ap (λ b. p k && not b) (sym (count_below-none s.still (16 * length counts) k none l)))) s.counted

-- at the start
pub marked-none : (p : ℕ → Bool) (few counts : List ℕ) (n : ℕ) → few ≡ [] → counts ≡ replicate n 0 → ((k : ℕ) → p k ≡ false)
    → IsMarked few counts p
marked-none p few counts n e f h =
    let z : sum counts ≡ 0 = ap (λ l. sum l) f ∙ (sum_by-replicate (λ x. x) n 0 ∙ omega arith) in
    record { listed = λ t. e ∙ those-none p (16 * length counts) h; counted = λ t. absurd (omega arith) }

-- one more is counted
pub marked-more : (p : ℕ → Bool) (few counts next : List ℕ) (x : ℕ) → few ≡ [] → Counts p counts → x < 16 * length counts → p x ≡ false
    → next ≡ set counts (x / 16) (get_or counts (x / 16) 0 + 1) → IsMarked few next (put p x true)
marked-more p few counts next x e h lt off f =
    let long : length next ≡ length counts = ap length f ∙ length-set counts (x / 16) (get_or counts (x / 16) 0 + 1) in
    let all : Counts (put p x true) next = subst (Counts (put p x true)) (sym f) (counts-more p counts x h off) in
    let some : 0 < get_or next (x / 16) 0 = counts-some (put p x true) next x all (omega arith) (put-own p x true) in
    let most : get_or next (x / 16) 0 ≤ sum next = get_or-le-sum_by (λ k. k) next (x / 16) 0 (omega arith) in
    record { listed = λ z. absurd (omega arith); counted = λ z. (e, all) }

-- one less
pub marked-less : (p : ℕ → Bool) (few counts next : List ℕ) (x : ℕ) → 0 < sum counts → x < 16 * length counts → p x ≡ true
    → IsMarked few counts p → next ≡ set counts (x / 16) (get_or counts (x / 16) 0 - 1) → IsMarked few next (put p x false)
marked-less p few counts next x some lt on m f =
    let all : Counts (put p x false) next =
    subst (Counts (put p x false)) (sym f) (counts-less p counts x (m.counted some).1 lt on) in
    record {
      listed = λ z. (m.counted some).0 ∙ sym (nil_from_length (those (put p x false) (16 * length next))
          (length-those (put p x false) (16 * length next) ∙ (sym (counts-sum (put p x false) next all) ∙ z)));
      counted = λ z. ((m.counted some).0, all);
    }

-- nothing was taken of an empty list
pub none-popped : (n : ℕ) → (0 < n → ⊥) → n ≡ 0
none-popped zero h = refl
none-popped (suc n) h = absurd (h (omega arith))
