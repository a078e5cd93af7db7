-- Messages of a link in pieces: what is found in a piece is found in all of them, and what is changed in a piece is changed in all.
use Rattle.std.proofs.Common.{◌≡◌, ℕ, suc, zero, ◌+◌, ◌-◌, ◌<◌, ◌≤◌, eqb, ⊎_elim, Bool, List, [], ◌∷◌, ◌++◌, length, get_or, set, drop}
use Rattle.std.proofs.Common.{map, Option, Some, None, false, if◌then◌else◌, refl, ap, sym, subst, ◌∙◌, arith}
use Rattle.std.proofs.Common.{append_assoc, append-nil, length-append}
use Rattle.std.specs.Prelude.{slice_get, IfSome, IfNone, Result, Ok, Err, OnOk, is_ok, is_err}
use Rattle.std.specs.List.{remove, filter, count_by}
use Rattle.std.proofs.lemmas.Bool.{cases_eq, eq-eqb, ne_eqb, false≢true}
use Rattle.std.proofs.lemmas.List.{get_or_append_left, get_or-append-add, set-append_left, set-append_right, map-append, length-map}
use Rattle.std.proofs.lemmas.List.{get_or_read, length-set}
use Rattle.std.proofs.lemmas.List.Edits.{remove-append_left, remove-append_right, length-remove}
use Rattle.std.proofs.lemmas.List.Elements.{filter-append}
use Rattle.std.proofs.lemmas.List.Sums.{length-filter}
use Rattle.tcc_msg.specs.declared.msg.Msg.TheVariants.{TidReq}
use Rattle.machine_links.specs.declared.lane.Held.{Held}
use Rattle.machine_links.specs.declared.lane.Waiting.{Waiting}
use Rattle.machine_links.specs.Laid.{held_at, Rises}
use Rattle.machine_links.specs.Pieces.{AreRising, Marked, Taken, flat}
use Rattle.machine_links.proofs.Finding.{rises-get, rises-lower, held-low}

-- any message
pub blank : Waiting
blank = record { seq = 0; held = record { msg = TidReq; ready = false } }

-- the numbers of a part rise
record Parted (low high : ℕ) (x y : List Waiting) : Type 0 where
  pub mid : ℕ
  pub left : Rises low mid x
  pub right : Rises mid high y

parted : (low high : ℕ) (x y : List Waiting) → Rises low high (x ++ y) → Parted low high x y
parted low high [] y r = record { mid = low; left = omega arith; right = r }
parted low high (w ∷ x) y r =
    let p = parted (suc w.seq) high x y r.1 in record { mid = p.mid; left = (r.0, p.left); right = p.right }

pub rising-left : (x y : List Waiting) → AreRising (x ++ y) → AreRising x
rising-left x y r = let p = parted 0 r.high x y r.rises in record { high = p.mid; rises = p.left }

pub rising-right : (x y : List Waiting) → AreRising (x ++ y) → AreRising y
rising-right x y r =
    let p = parted 0 r.high x y r.rises in record { high = r.high; rises = rises-lower 0 p.mid r.high y (omega arith) p.right }

pub rising-at : (xs : List (List Waiting)) (p : ℕ) → AreRising (flat xs) → AreRising (get_or xs p [])
unfolding flat
rising-at [] p r = record { high = 0; rises = omega arith }
rising-at (x ∷ xs) zero r = rising-left x (flat xs) r
rising-at (x ∷ xs) (suc p) r = rising-at xs p (rising-right x (flat xs) r)

pub rising-drop : (xs : List (List Waiting)) (n : ℕ) → AreRising (flat xs) → AreRising (flat (drop n xs))
unfolding flat
rising-drop xs zero r = r
rising-drop [] (suc n) r = r
rising-drop (x ∷ xs) (suc n) r = rising-drop xs n (rising-right x (flat xs) r)

-- what is found
pub held-behind : (x y : List Waiting) (k : ℕ) → held_at x k ≡ None → held_at (x ++ y) k ≡ held_at y k
unfolding held_at
held-behind [] y k h = refl
held-behind (w ∷ x) y k h = ⊎_elim
    (λ e. absurd (some e h))
    (λ ne. rw (ne_eqb w.seq k ne) (held-behind x y k (rw (ne_eqb w.seq k ne) at h)))
    (cases_eq w.seq k)
  where
    some : w.seq ≡ k → (if eqb w.seq k then Some w.held else held_at x k) ≡ None → ⊥
    some e f = let g : Some w.held ≡ None = rw (eq-eqb w.seq k e) at f in cc

pub held-before : (x y : List Waiting) (k : ℕ) → held_at y k ≡ None → held_at (x ++ y) k ≡ held_at x k
unfolding held_at
held-before [] y k h = h
held-before (w ∷ x) y k h = ap (λ o. if eqb w.seq k then Some w.held else o) (held-before x y k h)

pub held-here : (x y : List Waiting) (k : ℕ) (h : Held) → held_at x k ≡ Some h → held_at (x ++ y) k ≡ Some h
unfolding held_at
held-here [] y k h e = absurd (cc)
held-here (w ∷ x) y k h e = ⊎_elim
    (λ f. rw (eq-eqb w.seq k f) (rw (eq-eqb w.seq k f) at e))
    (λ ne. rw (ne_eqb w.seq k ne) (held-here x y k h (rw (ne_eqb w.seq k ne) at e)))
    (cases_eq w.seq k)

-- what reaches the number has it, or nothing has it
pub held-reached : (x y : List Waiting) (k : ℕ) (d : Waiting) → AreRising (x ++ y) → 0 < length x
    → k ≤ (get_or x (length x - 1) d).seq → held_at (x ++ y) k ≡ held_at x k
held-reached x y k d r some le =
    let p = parted 0 r.high x y r.rises in
    let lt : (get_or x (length x - 1) d).seq < p.mid = (rises-get 0 p.mid x (length x - 1) d p.left (omega arith)).1 in
    held-before x y k (held-low p.mid r.high y k p.right (omega arith))

-- one taken out of a part
pub taken-left : (x y v : List Waiting) (k : ℕ) (m : Bool) → Taken x v k m → Taken (x ++ y) (v ++ y) k m
taken-left x y v k m t = record {
  at = t.at;
  within = omega (arith, t.within, length-append x y);
  own = λ d. ap (λ w. w.seq) (get_or_append_left x y d t.at t.within) ∙ t.own d;
  was = λ d. ap (λ w. w.held.ready) (get_or_append_left x y d t.at t.within) ∙ t.was d;
  left = ap (λ z. z ++ y) t.left ∙ sym (remove-append_left x y t.at t.within);
}

pub taken-right : (x y v : List Waiting) (k : ℕ) (m : Bool) → Taken y v k m → Taken (x ++ y) (x ++ v) k m
taken-right x y v k m t =
    let back : length x + t.at - length x ≡ t.at = omega arith in
    record {
      at = length x + t.at;
      within = omega (arith, t.within, length-append x y);
      own = λ d. ap (λ w. w.seq) (get_or-append-add x y t.at d) ∙ t.own d;
      was = λ d. ap (λ w. w.held.ready) (get_or-append-add x y t.at d) ∙ t.was d;
      left = ap (λ z. x ++ z) t.left
          ∙ sym (remove-append_right x y (length x) (length x + t.at) refl (omega arith) ∙ ap (λ n. x ++ remove y n) back);
    }

pub taken-in : (xs : List (List Waiting)) (p : ℕ) (v : List Waiting) (k : ℕ) (m : Bool) → Taken (get_or xs p []) v k m
    → Taken (flat xs) (flat (set xs p v)) k m
unfolding flat
taken-in [] p v k m t = absurd (omega (arith, t.within))
taken-in (x ∷ xs) zero v k m t = taken-left x (flat xs) v k m t
taken-in (x ∷ xs) (suc p) v k m t = taken-right x (flat xs) (flat (set xs p v)) k m (taken-in xs p v k m t)

pub taken-read : (xs : List (List Waiting)) (p : ℕ) (x v : List Waiting) (k : ℕ) (m : Bool) → p < length xs → x ≡ get_or xs p x
    → Taken x v k m → Taken (flat xs) (flat (set xs p v)) k m
taken-read xs p x v k m lt e t = taken-in xs p v k m (subst (λ y. Taken y v k m) (get_or_read xs p x lt e []) t)

pub length-taken : (old new : List Waiting) (k : ℕ) (m : Bool) → Taken old new k m → length new + 1 ≡ length old
length-taken old new k m t =
    let a : length new ≡ length (remove old t.at) = ap length t.left in omega (arith, length-remove old t.at t.within, t.within)

-- one marked in a part
pub marked-left : (x y v : List Waiting) (k : ℕ) (b was : Bool) → Marked x v k b was → Marked (x ++ y) (v ++ y) k b was
marked-left x y v k b was t = record {
  at = t.at;
  within = omega (arith, t.within, length-append x y);
  own = λ d. ap (λ w. w.seq) (get_or_append_left x y d t.at t.within) ∙ t.own d;
  was = λ d. ap (λ w. w.held.ready) (get_or_append_left x y d t.at t.within) ∙ t.was d;
  left = λ d. ap (λ z. z ++ y) (t.left d) ∙ (sym (set-append_left x y t.at (new (get_or x t.at d)) t.within)
      ∙ ap (λ w. set (x ++ y) t.at (new w)) (sym (get_or_append_left x y d t.at t.within)));
}
  where
    new : Waiting → Waiting
    new w = record w { held = record w.held { ready = b } }

pub marked-right : (x y v : List Waiting) (k : ℕ) (b was : Bool) → Marked y v k b was → Marked (x ++ y) (x ++ v) k b was
marked-right x y v k b was t =
    let back : length x + t.at - length x ≡ t.at = omega arith in
    record {
      at = length x + t.at;
      within = omega (arith, t.within, length-append x y);
      own = λ d. ap (λ w. w.seq) (get_or-append-add x y t.at d) ∙ t.own d;
      was = λ d. ap (λ w. w.held.ready) (get_or-append-add x y t.at d) ∙ t.was d;
      left = λ d. ap (λ z. x ++ z) (t.left d)
          ∙ (sym (set-append_right x y (length x) (length x + t.at) (new (get_or y t.at d)) refl (omega arith)
          ∙ ap (λ n. x ++ set y n (new (get_or y t.at d))) back)
          ∙ ap (λ w. set (x ++ y) (length x + t.at) (new w)) (sym (get_or-append-add x y t.at d)));
    }
  where
    new : Waiting → Waiting
    new w = record w { held = record w.held { ready = b } }

pub marked-piece : (xs : List (List Waiting)) (p : ℕ) (v : List Waiting) (k : ℕ) (b was : Bool) → Marked (get_or xs p []) v k b was
    → Marked (flat xs) (flat (set xs p v)) k b was
unfolding flat
marked-piece [] p v k b was t = absurd (omega (arith, t.within))
marked-piece (x ∷ xs) zero v k b was t = marked-left x (flat xs) v k b was t
marked-piece (x ∷ xs) (suc p) v k b was t = marked-right x (flat xs) (flat (set xs p v)) k b was (marked-piece xs p v k b was t)

pub marked-read : (xs : List (List Waiting)) (p : ℕ) (x v : List Waiting) (k : ℕ) (b : Bool) (o : Option Bool) → p < length xs
    → x ≡ get_or xs p x → IfSome o (λ was. Marked x v k b was) → IfSome o (λ was. Marked (flat xs) (flat (set xs p v)) k b was)
marked-read xs p x v k b None lt e m = tt
marked-read xs p x v k b (Some was) lt e m =
    marked-piece xs p v k b was (subst (λ y. Marked y v k b was) (get_or_read xs p x lt e []) m)

pub length-marked : (old new : List Waiting) (k : ℕ) (b : Bool) (o : Option Bool) → IfSome o (λ was. Marked old new k b was)
    → IfNone o (new ≡ old) → length new ≡ length old
length-marked old new k b None m e = ap length e
length-marked old [] k b (Some was) m e = ap length (m.left blank) ∙ length-set old m.at _
length-marked old (w ∷ new) k b (Some was) m e = ap length (m.left w) ∙ length-set old m.at _

-- of two parts
pub taken-both : (x x2 y y2 : List Waiting) (k : ℕ) (o : Option Bool) → x2 ≡ x → IfSome o (λ m. Taken y y2 k m)
    → IfSome o (λ m. Taken (x ++ y) (x2 ++ y2) k m)
taken-both x x2 y y2 k None e t = tt
taken-both x x2 y y2 k (Some m) e t = subst (λ z. Taken (x ++ y) (z ++ y2) k m) (sym e) (taken-right x y y2 k m t)

pub marked-both : (x x2 y y2 : List Waiting) (k : ℕ) (b : Bool) (o : Option Bool) → x2 ≡ x → IfSome o (λ was. Marked y y2 k b was)
    → IfSome o (λ was. Marked (x ++ y) (x2 ++ y2) k b was)
marked-both x x2 y y2 k b None e t = tt
marked-both x x2 y y2 k b (Some was) e t = subst (λ z. Marked (x ++ y) (z ++ y2) k b was) (sym e) (marked-right x y y2 k b was t)

pub none-both : {A : Type 0} (x y : List Waiting) (k : ℕ) (o : Option A) → held_at x k ≡ None → IfNone o (held_at y k ≡ None)
    → IfNone o (held_at (x ++ y) k ≡ None)
none-both x y k None h e = held-behind x y k h ∙ e
none-both x y k (Some a) h e = tt

-- one more behind the others
pub flat-push : (xs : List (List Waiting)) (v : List Waiting) → flat (xs ++ v ∷ []) ≡ flat xs ++ v
unfolding flat
flat-push [] v = append-nil v
flat-push (x ∷ xs) v = ap (λ z. x ++ z) (flat-push xs v) ∙ sym (append_assoc x (flat xs) v)

pub flat-last : (xs : List (List Waiting)) (p : ℕ) (w : Waiting) → p + 1 ≡ length xs
    → flat (set xs p (get_or xs p [] ++ w ∷ [])) ≡ flat xs ++ w ∷ []
unfolding flat
flat-last [] p w e = absurd (omega arith)
flat-last (x ∷ []) zero w e = append-nil (x ++ w ∷ []) ∙ sym (ap (λ z. z ++ w ∷ []) (append-nil x))
flat-last (x ∷ y ∷ xs) zero w e = absurd (omega arith)
flat-last (x ∷ xs) (suc p) w e = ap (λ z. x ++ z) (flat-last xs p w (omega arith)) ∙ sym (append_assoc x (flat xs) (w ∷ []))

pub pushed-last : {A B : Type 0} (xs : List (List Waiting)) (p : ℕ) (x v : List Waiting) (w : Waiting) (r : Result A B) → p + 1 ≡ length xs
    → x ≡ get_or xs p x → OnOk r (v ≡ x ++ w ∷ []) → OnOk r (flat (set xs p v) ≡ flat xs ++ w ∷ [])
pushed-last xs p x v w (Ok a) n e o =
    ap (λ y. flat (set xs p y)) (o ∙ ap (λ z. z ++ w ∷ []) (get_or_read xs p x (omega arith) e [])) ∙ flat-last xs p w n
pushed-last xs p x v w (Err b) n e o = tt

pub pushed-new : {A B : Type 0} (xs ys : List (List Waiting)) (x : List Waiting) (w : Waiting) (r : Result A B)
    → ys ≡ (if is_ok r then xs ++ x ∷ [] else xs) → is_err r ≡ false → x ≡ w ∷ [] → flat ys ≡ flat xs ++ w ∷ []
pushed-new xs ys x w (Ok a) q ok e = ap flat q ∙ (flat-push xs x ∙ ap (λ z. flat xs ++ z) e)
pushed-new xs ys x w (Err b) q ok e = absurd (false≢true (sym ok))

-- the first piece and the others
pub flat-first : (xs : List (List Waiting)) (x : List Waiting) → 0 < length xs → x ≡ get_or xs 0 x → flat xs ≡ x ++ flat (remove xs 0)
unfolding flat
flat-first [] x h e = absurd (omega arith)
flat-first (y ∷ ys) x h e = ap (λ z. z ++ flat ys) (sym e)

-- an empty piece less
pub flat-gone : (xs : List (List Waiting)) (p : ℕ) → get_or xs p [] ≡ [] → flat (remove xs p) ≡ flat xs
unfolding flat
flat-gone [] zero e = refl
flat-gone [] (suc p) e = refl
flat-gone (x ∷ xs) zero e = sym (ap (λ z. z ++ flat xs) e)
flat-gone (x ∷ xs) (suc p) e = ap (λ z. x ++ z) (flat-gone xs p e)

pub flat-same : (xs : List (List Waiting)) (p : ℕ) → flat (set xs p (get_or xs p [])) ≡ flat xs
unfolding flat
flat-same [] p = refl
flat-same (x ∷ xs) zero = refl
flat-same (x ∷ xs) (suc p) = ap (λ z. x ++ z) (flat-same xs p)

-- by place
pub slice_get-left : {A : Type 0} (x y : List A) (i : ℕ) → i < length x → slice_get (x ++ y) i ≡ slice_get x i
slice_get-left [] y i h = absurd (omega arith)
slice_get-left (a ∷ x) y zero h = refl
slice_get-left (a ∷ x) y (suc i) h = slice_get-left x y i (omega arith)

pub slice_get-right : {A : Type 0} (x y : List A) (i : ℕ) → length x ≤ i → slice_get (x ++ y) i ≡ slice_get y (i - length x)
slice_get-right [] y i h = let e : i ≡ i - 0 = omega arith in ap (slice_get y) e
slice_get-right (a ∷ x) y zero h = absurd (omega arith)
slice_get-right (a ∷ x) y (suc i) h =
    let e : i - length x ≡ suc i - length (a ∷ x) = omega arith in slice_get-right x y i (omega arith) ∙ ap (slice_get y) e

-- the numbers of the marked ones
abbrev pub ready : List Waiting → List ℕ
ready ws = map (λ w. w.seq) (filter (λ w. w.held.ready) ws)

ready-append : (x y : List Waiting) → ready (x ++ y) ≡ ready x ++ ready y
ready-append x y = ap (map (λ w. w.seq)) (filter-append (λ w. w.held.ready) x y)
    ∙ map-append (λ w. w.seq) (filter (λ w. w.held.ready) x) (filter (λ w. w.held.ready) y)

length-ready : (x : List Waiting) → length (ready x) ≡ count_by (λ w. w.held.ready) x
length-ready x = length-map (filter (λ w. w.held.ready) x) (λ w. w.seq) ∙ length-filter (λ w. w.held.ready) x

pub ready-left : (x y : List Waiting) (k : ℕ) → k < count_by (λ w. w.held.ready) x → slice_get (ready (x ++ y)) k ≡ slice_get (ready x) k
ready-left x y k h =
    let n : length (ready x) ≡ count_by (λ w. w.held.ready) x = length-ready x in
    ap (λ z. slice_get z k) (ready-append x y) ∙ slice_get-left (ready x) (ready y) k (omega arith)

pub ready-right : (x y : List Waiting) (k : ℕ) → count_by (λ w. w.held.ready) x ≤ k
    → slice_get (ready (x ++ y)) k ≡ slice_get (ready y) (k - count_by (λ w. w.held.ready) x)
ready-right x y k h =
    let n : length (ready x) ≡ count_by (λ w. w.held.ready) x = length-ready x in
    ap (λ z. slice_get z k) (ready-append x y)
    ∙ (slice_get-right (ready x) (ready y) k (omega arith) ∙ ap (λ m. slice_get (ready y) (k - m)) n)
