-- Words that go to memory.
use Rattle.std.proofs.Common.{◌≡◌, ℕ, zero, suc, ◌+◌, ◌*◌, ◌<◌, ◌≤◌, Bool, true, false, ◌&&◌, List, [], ◌∷◌, get_or, drop, length, Option}
use Rattle.std.proofs.Common.{Some}
use Rattle.std.proofs.Common.{inl, inr, refl, ap, sym, ◌∙◌, arith}
use Rattle.std.specs.Prelude.{◌==◌, nat_lt, slice_set, unwrap_or, if◌then◌else◌}
use Rattle.std.proofs.lemmas.Bool.{cases_eq}
use Rattle.std.proofs.lemmas.Bool.Decides.{nat_tests}
use Rattle.std.proofs.lemmas.Grind.{get_or-set_at}
use Rattle.std.proofs.lemmas.List.{get_or-set_other}
use Rattle.std.proofs.Math.ListN.{drop_of_length-le}
use Rattle.std.proofs.Math.Seq.{drop-cons}
use Rattle.tcc_base.specs.declared.access.Tagged.{Tagged}
use Rattle.base_lemmas.proofs.Lemmas.{and-false, and-true}
use Rattle.rules_maps.specs.Masks.{has, hit}
use Rattle.rules_maps.specs.Words.{line_of, place_of}
use Rattle.rules_bus.specs.Commit.{with_words}
use Rattle.core_node.specs.AtHand.{words_in}
use Rattle.bus_tcc.specs.Machine.{word_in}

-- the first k words of a line have gone to memory
pub record Stored (t : Tagged) (k : ℕ) (old now : List ℕ) : Type 0 where
  pub count : length now ≡ length old
  pub words : (w : ℕ) → get_or now w 0
      ≡ (if hit t.line.0 t.mask.0 w && nat_lt (place_of w) k then get_or t.words (place_of w) 0 else get_or old w 0)

pub stored-first : (t : Tagged) (old : List ℕ) → Stored t 0 old old
stored-first t old = record { count = refl; words = λ w. by w (nat_lt (place_of w) 0) (grind (arith, nat_tests)) }
  where
    by : (w : ℕ) (b : Bool) → b ≡ false → get_or old w 0
        ≡ (if hit t.line.0 t.mask.0 w && b then get_or t.words (place_of w) 0 else get_or old w 0)
    by w true e = cc
    by w false e = rw (and-false (hit t.line.0 t.mask.0 w)) refl

length-set : (xs : List ℕ) (i x : ℕ) → length (slice_set xs i x) ≡ length xs
length-set [] i x = refl
length-set (y ∷ ys) zero x = refl
length-set (y ∷ ys) (suc i) x = ap (λ n. suc n) (length-set ys i x)

-- the word at a place of a line
at-place : (l k : ℕ) → k < 8 → (line_of (8 * l + k) ≡ l) × (place_of (8 * l + k) ≡ k)
at-place l k h = (omega (arith, h), omega (arith, h))

hit-at : (l m k : ℕ) → k < 8 → hit l m (8 * l + k) ≡ has m k
unfolding hit
hit-at l m k h =
    let p = at-place l k h in
    let own : (l == line_of (8 * l + k)) ≡ true = let q = p.0 in grind (arith, nat_tests) in
    rw own (ap (has m) p.1)

-- another word is of another line, or at another place
elsewhere : (l m k w : ℕ) → k < 8 → (w ≡ 8 * l + k → ⊥)
    → (hit l m w && nat_lt (place_of w) (k + 1)) ≡ (hit l m w && nat_lt (place_of w) k)
unfolding hit
elsewhere l m k w h n = by (l == line_of w) refl
  where
    same : l ≡ line_of w → nat_lt (place_of w) (k + 1) ≡ nat_lt (place_of w) k
    same q =
        let d : place_of w ≡ k → ⊥ = λ e. n (omega (arith, q, e)) in
        grind (arith, nat_tests)

    by : (b : Bool) → (l == line_of w) ≡ b
        → ((b && has m (place_of w)) && nat_lt (place_of w) (k + 1)) ≡ ((b && has m (place_of w)) && nat_lt (place_of w) k)
    by true q = let e : l ≡ line_of w = grind (arith, nat_tests) in ap (λ x. has m (place_of w) && x) (same e)
    by false q = refl

pub stored-next : (t : Tagged) (k x : ℕ) (old now new : List ℕ) (does : Bool) → Stored t k old now → k < 8
    → 8 * t.line.0 + 8 ≤ length old → does ≡ has t.mask.0 k → x ≡ get_or t.words k 0
    → new ≡ (if does then slice_set now (8 * t.line.0 + k) x else now) → Stored t (k + 1) old new
stored-next t k x old now new true h l room d v e = record {
  count = ap length e ∙ length-set now (8 * t.line.0 + k) x ∙ h.count;
  words = λ w. ap (λ ws. get_or ws w 0) e ∙ word w;
}
  where
    word : (w : ℕ) → get_or (slice_set now (8 * t.line.0 + k) x) w 0
        ≡ (if hit t.line.0 t.mask.0 w && nat_lt (place_of w) (k + 1) then get_or t.words (place_of w) 0 else get_or old w 0)
    word w = elim (cases_eq w (8 * t.line.0 + k)) [
      | inl q ↦ (let c = h.count in
          let p = at-place t.line.0 k l in
          let in_line : hit t.line.0 t.mask.0 w ≡ true = ap (hit t.line.0 t.mask.0) q ∙ hit-at t.line.0 t.mask.0 k l ∙ sym d in
          let place : place_of w ≡ k = ap place_of q ∙ p.1 in
          let done : nat_lt (place_of w) (k + 1) ≡ true = grind (arith, nat_tests) in
          get_or-set_at now (8 * t.line.0 + k) w x 0 q (omega (arith, c, room, l)) ∙ v ∙ ap (λ j. get_or t.words j 0) (sym place)
          ∙ sym (rw (in_line, done) refl))
      | inr n ↦ get_or-set_other now (8 * t.line.0 + k) w x 0 n ∙ h.words w
          ∙ sym (ap (λ b. if b then get_or t.words (place_of w) 0 else get_or old w 0) (elsewhere t.line.0 t.mask.0 k w l n))
    ]
stored-next t k x old now new false h l room d v e = record {
  count = ap length e ∙ h.count;
  words = λ w. ap (λ ws. get_or ws w 0) e ∙ h.words w
      ∙ sym (ap (λ b. if b then get_or t.words (place_of w) 0 else get_or old w 0) (word w));
}
  where
    word : (w : ℕ) → (hit t.line.0 t.mask.0 w && nat_lt (place_of w) (k + 1)) ≡ (hit t.line.0 t.mask.0 w && nat_lt (place_of w) k)
    word w = elim (cases_eq w (8 * t.line.0 + k)) [
      | inl q ↦ (let out : hit t.line.0 t.mask.0 w ≡ false = ap (hit t.line.0 t.mask.0) q ∙ hit-at t.line.0 t.mask.0 k l
          ∙ sym d in rw out refl)
      | inr n ↦ elsewhere t.line.0 t.mask.0 k w l n
    ]

pub stored-all : (t : Tagged) (old now : List ℕ) → Stored t 8 old now → (w : ℕ)
    → get_or now w 0 ≡ (if hit t.line.0 t.mask.0 w then get_or t.words (place_of w) 0 else get_or old w 0)
stored-all t old now h w =
    let all : nat_lt (place_of w) 8 ≡ true = grind (arith, nat_tests) in
    h.words w ∙ ap (λ b. if b then get_or t.words (place_of w) 0 else get_or old w 0) (rw all (and-true (hit t.line.0 t.mask.0 w)))

-- ---- several lines, from the last one on

pub record StoredFrom (ts : List Tagged) (i : ℕ) (old now : List ℕ) : Type 0 where
  pub count : length now ≡ length old
  pub words : word_in now ≡ with_words (words_in (drop i ts)) (word_in old)

pub from-last : (ts : List Tagged) (old : List ℕ) → StoredFrom ts (length ts) old old
unfolding with_words words_in
from-last ts old = record {
  count = refl;
  words = sym (ap (λ xs. with_words (words_in xs) (word_in old)) (drop_of_length-le ts (omega
      arith)));
}

unwrapped : (h : Bool) (x : ℕ) (o : Option ℕ) (r : ℕ) → (if h then x else unwrap_or o r) ≡ unwrap_or (if h then Some x else o) r
unwrapped true x o r = refl
unwrapped false x o r = refl

pub from-next : (ts : List Tagged) (i : ℕ) (d : Tagged) (old now new : List ℕ) → StoredFrom ts (i + 1) old now → i < length ts
    → length new ≡ length now
    → ((w : ℕ) → get_or new w 0 ≡ (if hit (get_or ts i d).line.0 (get_or ts i d).mask.0 w then get_or (get_or ts i d).words (place_of w)
    0 else get_or now w 0))
    → StoredFrom ts i old new
unfolding with_words words_in
from-next ts i d old now new h l c n =
    let t = get_or ts i d in
    let one : suc i ≡ i + 1 = omega arith in
    let first : drop i ts ≡ t ∷ drop (i + 1) ts = drop-cons ts i d l ∙ ap (λ k. t ∷ drop k ts) one in
    record {
      count = c ∙ h.count;
      words = (λ j w. (n w ∙ ap (λ r. if hit t.line.0 t.mask.0 w then get_or t.words (place_of w) 0 else r) (λ e. h.words e w)
          ∙ unwrapped (hit t.line.0 t.mask.0 w) (get_or t.words (place_of w) 0) (words_in (drop (i + 1) ts) w) (get_or old w 0)) j)
          ∙ sym (ap (λ xs. with_words (words_in xs) (word_in old)) first);
    }

pub from-first : (ts : List Tagged) (i : ℕ) (old now : List ℕ) → StoredFrom ts i old now → i ≡ 0
    → word_in now ≡ with_words (words_in ts) (word_in old)
from-first ts i old now h e = h.words ∙ ap (λ k. with_words (words_in (drop k ts)) (word_in old)) e
