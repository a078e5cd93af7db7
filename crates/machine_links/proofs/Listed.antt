-- The lists of messages by what they are about: one more, one less, and what stays listed.
use Rattle.std.proofs.Common.{◌≡◌, ◌≢◌, ℕ, zero, suc, ◌-◌, ◌%◌, ◌<◌, ◌≤◌, List, [], ◌∷◌, ◌++◌, take, drop, length, get_or, set}
use Rattle.std.proofs.Common.{Some, None, refl, ap, sym, subst, ◌∙◌, ⊎_elim, arith}
use Rattle.std.specs.Prelude.{Result, Ok, Err, OnOk, OnErr, is_ok, if◌then◌else◌, slice_get}
use Rattle.std.proofs.lemmas.Bool.{cases_eq, cases_lt}
use Rattle.std.proofs.lemmas.List.{get_or_read, get_or-set_same, get_or-set_other, set-get_or, set_past}
use Rattle.machine_links.specs.declared.subject.Entry.{Entry}
use Rattle.machine_links.specs.Subject.{Index, IsIndex, IsListed, bucket, with_entry}

pub below : (x : Index) (k : ℕ) → IsIndex x → k % 4096 < length x
below x k is = omega (arith, is)

-- what is read at a key's place is its list
pub bucket-read : (x : Index) (k : ℕ) (b : List Entry) → IsIndex x → b ≡ get_or x (k % 4096) b → b ≡ bucket x k
unfolding bucket
bucket-read x k b is e = get_or_read x (k % 4096) b (below x k is) e []

-- what is read in a list
pub got : (b : List Entry) (i : ℕ) (e : Entry) → i < length b → e ≡ get_or b i e → Some e ≡ slice_get b i
got [] i e lt q = absurd (omega (arith, lt))
got (y ∷ b) zero e lt q = ap Some q
got (y ∷ b) (suc i) e lt q = got b i e (omega (arith, lt)) q

pub none-got : (b : List Entry) (i : ℕ) → length b ≤ i → None ≡ slice_get b i
none-got [] i le = refl
none-got (y ∷ b) zero le = absurd (omega (arith, le))
none-got (y ∷ b) (suc i) le = none-got b i (omega (arith, le))

-- a list that is put there, and the others
bucket-set : (x : Index) (k : ℕ) (b : List Entry) → k % 4096 < length x → bucket (set x (k % 4096) b) k ≡ b
unfolding bucket
bucket-set x k b lt = get_or-set_same x (k % 4096) b [] lt

bucket-put : (x : Index) (k j : ℕ) (b : List Entry) → IsIndex x → j % 4096 ≡ k % 4096 → bucket (set x (k % 4096) b) j ≡ b
unfolding bucket
bucket-put x k j b is e = ap (λ i. get_or (set x (k % 4096) b) i []) e ∙ get_or-set_same x (k % 4096) b [] (below x k is)

bucket-other : (x : Index) (k j : ℕ) (b : List Entry) → j % 4096 ≢ k % 4096 → bucket (set x (k % 4096) b) j ≡ bucket x j
unfolding bucket
bucket-other x k j b ne = get_or-set_other x (k % 4096) (j % 4096) b [] ne

-- keys of one place have one list
bucket-alike : (x : Index) (j k : ℕ) → j % 4096 ≡ k % 4096 → bucket x j ≡ bucket x k
unfolding bucket
bucket-alike x j k same = ap (λ i. get_or x i []) same

-- one less: the others stay in their list
record Found (b : List Entry) (e : Entry) : Type 0 where
  pub at : ℕ
  pub there : slice_get b at ≡ Some e

found-rest : (b : List Entry) (i j : ℕ) (e f : Entry) → slice_get b i ≡ Some f → slice_get b j ≡ Some e → e ≢ f
    → Found (take i b ++ drop (suc i) b) e
found-rest [] i j e f p q ne = absurd (cc)
found-rest (y ∷ b) zero zero e f p q ne = absurd (ne (cc))
found-rest (y ∷ b) zero (suc j) e f p q ne = record { at = j; there = q }
found-rest (y ∷ b) (suc i) zero e f p q ne = record { at = 0; there = q }
found-rest (y ∷ b) (suc i) (suc j) e f p q ne = let r = found-rest b i j e f p q ne in record { at = suc r.at; there = r.there }

pub removed : (x : Index) (e f : Entry) (i : ℕ) → IsIndex x → slice_get (bucket x f.key) i ≡ Some f → e ≢ f → IsListed x e
    → IsListed (set x (f.key % 4096) (take i (bucket x f.key) ++ drop (suc i) (bucket x f.key))) e
removed x e f i is at ne listed =
    ⊎_elim
    (λ same. let j : slice_get (bucket x f.key) listed.at ≡ Some e =
    subst (λ b. slice_get b listed.at ≡ Some e) (bucket-alike x e.key f.key same) listed.there in
    let r = found-rest (bucket x f.key) i listed.at e f at j ne in
    record {
      at = r.at;
      there = ap (λ b. slice_get b r.at)
          (bucket-put x f.key e.key (take i (bucket x f.key) ++ drop (suc i) (bucket x f.key)) is same) ∙ r.there;
    })
    (λ other. record {
      at = listed.at;
      there = ap (λ b. slice_get b listed.at)
          (bucket-other x f.key e.key (take i (bucket x f.key) ++ drop (suc i) (bucket x f.key)) other) ∙ listed.there;
    })
    (cases_eq (e.key % 4096) (f.key % 4096))

-- ---- one more behind the others

last-get : (b : List Entry) (e : Entry) → slice_get (b ++ e ∷ []) (length b) ≡ Some e
last-get [] e = refl
last-get (y ∷ b) e = last-get b e

front-get : (b : List Entry) (j : ℕ) (e f : Entry) → slice_get b j ≡ Some f → slice_get (b ++ e ∷ []) j ≡ Some f
front-get [] j e f p = absurd (cc)
front-get (y ∷ b) zero e f p = p
front-get (y ∷ b) (suc j) e f p = front-get b j e f p

without-last : (b : List Entry) (e : Entry) → take (length (b ++ e ∷ []) - 1) (b ++ e ∷ []) ≡ b
without-last b e = let n : length (b ++ e ∷ []) - 1 ≡ length b = omega (arith, as-many b) in ap (λ k. take k (b ++ e ∷ [])) n ∙ front b
  where
    as-many : (b : List Entry) → length (b ++ e ∷ []) ≡ suc (length b)
    as-many [] = refl
    as-many (y ∷ b) = ap suc (as-many b)

    front : (b : List Entry) → take (length b) (b ++ e ∷ []) ≡ b
    front [] = refl
    front (y ∷ b) = ap (λ l. y ∷ l) (front b)

-- what is listed stays listed where one more is, which is listed too
pub listed-on : (x : Index) (e f : Entry) → IsIndex x → IsListed x f → IsListed (with_entry e x) f
unfolding with_entry
listed-on x e f is listed =
    ⊎_elim
    (λ same. record {
      at = listed.at;
      there = ap (λ b. slice_get b listed.at) (bucket-put x e.key f.key (bucket x e.key ++ e ∷ []) is same)
          ∙ front-get (bucket x e.key) listed.at e f
          (subst (λ b. slice_get b listed.at ≡ Some f) (bucket-alike x f.key e.key same) listed.there);
    })
    (λ other. record {
      at = listed.at;
      there = ap (λ b. slice_get b listed.at) (bucket-other x e.key f.key (bucket x e.key ++ e ∷ []) other) ∙ listed.there;
    })
    (cases_eq (f.key % 4096) (e.key % 4096))

pub listed-last : (x : Index) (e : Entry) → IsIndex x → IsListed (with_entry e x) e
unfolding with_entry
listed-last x e is = record {
  at = length (bucket x e.key);
  there = ap (λ b. slice_get b (length (bucket x e.key))) (bucket-put x e.key e.key (bucket x e.key ++ e ∷ []) is refl)
      ∙ last-get (bucket x e.key) e;
}

-- a list that is put where it stands changes nothing
pub put-own : (x : Index) (k : ℕ) → set x (k % 4096) (bucket x k) ≡ x
unfolding bucket
put-own x k = set-get_or x (k % 4096) []

-- and the lists are as they were where it is taken back
pub taken-back : (x : Index) (e : Entry)
    → set (with_entry e x) (e.key % 4096) (take (length (bucket (with_entry e x) e.key) - 1) (bucket (with_entry e x) e.key)) ≡ x
unfolding with_entry
taken-back x e = ⊎_elim inside past (cases_lt (e.key % 4096) (length x))
  where
    more : List Entry
    more = bucket x e.key ++ e ∷ []

    less : List Entry → List Entry
    less b = take (length b - 1) b

    twice : (x : Index) (i : ℕ) (b c : List Entry) → set (set x i b) i c ≡ set x i c
    twice [] i b c = refl
    twice (y ∷ x) zero b c = refl
    twice (y ∷ x) (suc i) b c = ap (λ l. y ∷ l) (twice x i b c)

    inside : e.key % 4096 < length x → set (set x (e.key % 4096) more) (e.key % 4096) (less (bucket (set x (e.key % 4096) more) e.key)) ≡ x
    inside lt =
        ap (λ b. set (set x (e.key % 4096) more) (e.key % 4096) (less b)) (bucket-set x e.key more lt)
        ∙ ap (λ b. set (set x (e.key % 4096) more) (e.key % 4096) b) (without-last (bucket x e.key) e)
        ∙ twice x (e.key % 4096) more (bucket x e.key) ∙ put-own x e.key

    past : length x ≤ e.key % 4096 → set (set x (e.key % 4096) more) (e.key % 4096) (less (bucket (set x (e.key % 4096) more) e.key)) ≡ x
    past le =
        ap (λ y. set y (e.key % 4096) (less (bucket y e.key))) (set_past x (e.key % 4096) more le)
        ∙ set_past x (e.key % 4096) (less (bucket x e.key)) le

-- ---- the list of a key as it is after a call that lists an entry, or finds no memory

module _ (x : Index) (e : Entry) (b n : List Entry) (is : IsIndex x) (read : b ≡ get_or x (e.key % 4096) b) where
  none : n ≡ b → set x (e.key % 4096) n ≡ x
  none q = ap (λ l. set x (e.key % 4096) l) (q ∙ get_or_read x (e.key % 4096) b (below x e.key is) read []) ∙ set-get_or x (e.key % 4096) []

  more : n ≡ b ++ e ∷ [] → set x (e.key % 4096) n ≡ with_entry e x
  unfolding with_entry
  more q = ap (λ l. set x (e.key % 4096) l) (q ∙ ap (λ l. l ++ e ∷ []) (bucket-read x e.key b is read))

  pub add-is : {A B : Type 0} (r : Result A B) → n ≡ (if is_ok r then b ++ e ∷ [] else b) → OnOk r (set x (e.key % 4096) n ≡ with_entry e x)
  add-is (Ok y) q = more q
  add-is (Err y) q = tt

  pub add-none : {A B : Type 0} (r : Result A B) → n ≡ (if is_ok r then b ++ e ∷ [] else b) → OnErr r (set x (e.key % 4096) n ≡ x)
  add-none (Ok y) q = tt
  add-none (Err y) q = none q

  pub add-lists : {A B : Type 0} (r : Result A B) → n ≡ (if is_ok r then b ++ e ∷ [] else b) → OnOk r (IsListed (set x (e.key % 4096) n) e)
  add-lists (Ok y) q = subst (λ z. IsListed z e) (sym (more q)) (listed-last x e is)
  add-lists (Err y) q = tt

  pub add-keeps : {A B : Type 0} (r : Result A B) (f : Entry) → n ≡ (if is_ok r then b ++ e ∷ [] else b) → IsListed x f
      → IsListed (set x (e.key % 4096) n) f
  add-keeps (Ok y) f q listed = subst (λ z. IsListed z f) (sym (more q)) (listed-on x e f is listed)
  add-keeps (Err y) f q listed = subst (λ z. IsListed z f) (sym (none q)) listed
