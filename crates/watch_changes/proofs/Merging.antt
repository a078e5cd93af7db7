-- What changed, put on what was, gives what is; and what is told is ordered as records are.
use Rattle.std.proofs.Common.{◌≡◌, ℕ, Bool, true, false, if◌then◌else◌, List, [], ◌∷◌, refl, ap, subst, sym, ◌∙◌}
use Rattle.watch_state.specs.Records.{Record}
use Rattle.watch_changes.specs.Changes.{Change, Told, Gone, Meeting, Unchanged, Left, Came, Changed, all_gone, all_told}
use Rattle.watch_changes.specs.Changes.{AreChangesBehind, AreChangesOrdered, AreNew, IsNew, changes, meeting, put_on, told_of, with_change}
use Rattle.watch_changes.specs.Order.{AreBehind, AreOrdered, key, lower}
use Rattle.watch_changes.specs.Same.{same}
use Rattle.watch_changes.proofs.Compared.{same-is}
use Rattle.watch_changes.proofs.Lowering.{lower-neither, lower-self, lower-then}

-- what a meeting says of the keys
abbrev Met : (b a : Record) → Meeting → Type 0
Met b a Unchanged = b ≡ a
Met b a Left = lower (key b) (key a) ≡ true
Met b a Came = (lower (key b) (key a) ≡ false) × (lower (key a) (key b) ≡ true)
Met b a Changed = key b ≡ key a

met : (b a : Record) → Met b a (meeting b a)
unfolding meeting
met b a = at_same (same b a) refl
  where
    at_higher : (y : Bool) → lower (key a) (key b) ≡ y → lower (key b) (key a) ≡ false → Met b a (if y then Came else Changed)
    at_higher true h l = (l, h)
    at_higher false h l = lower-neither (key b) (key a) l h

    at_lower : (y : Bool) → lower (key b) (key a) ≡ y → Met b a (if y then Left else if lower (key a) (key b) then Came else Changed)
    at_lower true l = l
    at_lower false l = at_higher (lower (key a) (key b)) refl l

    at_same : (y : Bool) → same b a ≡ y
        → Met b a (if y then Unchanged else if lower (key b) (key a) then Left else if lower (key a) (key b) then Came else Changed)
    at_same true e = same-is b a e
    at_same false e = at_lower (lower (key b) (key a)) refl

-- ---- keys

behind-behind : (k l : List ℕ) (rs : List Record) → lower k l ≡ true → AreBehind l rs → AreBehind k rs
behind-behind k l [] h b = b
behind-behind k l (r ∷ rs) h b = (lower-then k l (key r) h b.0, behind-behind k l rs h b.1)

told-behind : (k : List ℕ) (ns : List Record) → AreBehind k ns → AreChangesBehind k (all_told ns)
told-behind k [] h = h
told-behind k (a ∷ ns) h = (h.0, told-behind k ns h.1)

gone-behind : (k : List ℕ) (bs : List Record) → AreBehind k bs → AreChangesBehind k (all_gone bs)
gone-behind k [] h = h
gone-behind k (b ∷ bs) h = (h.0, gone-behind k bs h.1)

meeting-behind : (k : List ℕ) (m : Meeting) (b a : Record) (both first second : List Change)
    → lower k (key b) ≡ true → lower k (key a) ≡ true → AreChangesBehind k both → AreChangesBehind k first
    → AreChangesBehind k second → AreChangesBehind k (told_of m b a both first second)
meeting-behind k Unchanged b a both first second p q x y z = x
meeting-behind k Left b a both first second p q x y z = (p, y)
meeting-behind k Came b a both first second p q x y z = (q, z)
meeting-behind k Changed b a both first second p q x y z = (q, x)

pub changes-behind : (k : List ℕ) (bs ns : List Record) → AreBehind k bs → AreBehind k ns → AreChangesBehind k (changes bs ns)
unfolding changes
changes-behind k [] ns p q = told-behind k ns q
changes-behind k (b ∷ bs) [] p q = gone-behind k (b ∷ bs) p
changes-behind k (b ∷ bs) (a ∷ ns) p q =
    meeting-behind k (meeting b a) b a (changes bs ns) (changes bs (a ∷ ns)) (changes (b ∷ bs) ns) p.0 q.0
    (changes-behind k bs ns p.1 q.1) (changes-behind k bs (a ∷ ns) p.1 q) (changes-behind k (b ∷ bs) ns p q.1)

-- ---- put on what was

-- a record before all that changed stays
past : (b : Record) (bs : List Record) (cs : List Change) → AreChangesBehind (key b) cs → put_on (b ∷ bs) cs ≡ b ∷ put_on bs cs
unfolding put_on with_change
past b bs [] h = refl
past b bs (Told a ∷ cs) h = rw h.0 (past b (with_change (Told a) bs) cs h.1)
past b bs (Gone g ∷ cs) h = rw h.0 (past b (with_change (Gone g) bs) cs h.1)

all-told : (ns : List Record) → AreOrdered ns → put_on [] (all_told ns) ≡ ns
unfolding put_on with_change
all-told [] o = refl
all-told (a ∷ ns) o = past a [] (all_told ns) (told-behind (key a) ns o.0) ∙ ap (λ rs. a ∷ rs) (all-told ns o.1)

gone-alone : (b : Record) (bs : List Record) → with_change (Gone b) (b ∷ bs) ≡ bs
unfolding with_change
gone-alone b bs = rw (lower-self (key b)) refl

told-before : (b a : Record) (bs : List Record) → lower (key b) (key a) ≡ false → lower (key a) (key b) ≡ true
    → with_change (Told a) (b ∷ bs) ≡ a ∷ b ∷ bs
unfolding with_change
told-before b a bs l h = rw (l, h) refl

told-instead : (b a : Record) (bs : List Record) → lower (key b) (key a) ≡ false → lower (key a) (key b) ≡ false
    → with_change (Told a) (b ∷ bs) ≡ a ∷ bs
unfolding with_change
told-instead b a bs l h = rw (l, h) refl

all-gone : (bs : List Record) → put_on bs (all_gone bs) ≡ []
unfolding put_on
all-gone [] = refl
all-gone (b ∷ bs) = ap (λ rs. put_on rs (all_gone bs)) (gone-alone b bs) ∙ all-gone bs

at-meeting : (m : Meeting) (b a : Record) (bs ns : List Record) → Met b a m → AreBehind (key b) bs → AreBehind (key a) ns
    → put_on bs (changes bs ns) ≡ ns → put_on bs (changes bs (a ∷ ns)) ≡ a ∷ ns → put_on (b ∷ bs) (changes (b ∷ bs) ns) ≡ ns
    → put_on (b ∷ bs) (told_of m b a (changes bs ns) (changes bs (a ∷ ns)) (changes (b ∷ bs) ns)) ≡ a ∷ ns
unfolding put_on
at-meeting Unchanged b a bs ns e p q x y z =
    past b bs (changes bs ns) (changes-behind (key b) bs ns p (subst (λ r. AreBehind (key r) ns) (sym e) q)) ∙ (λ i. e i ∷ x i)
at-meeting Left b a bs ns l p q x y z = ap (λ rs. put_on rs (changes bs (a ∷ ns))) (gone-alone b bs) ∙ y
at-meeting Came b a bs ns h p q x y z =
    let cs = changes (b ∷ bs) ns in
    let behind = changes-behind (key a) (b ∷ bs) ns (h.1, behind-behind (key a) (key b) bs h.1 p) q in
    ap (λ rs. put_on rs cs) (told-before b a bs h.0 h.1) ∙ past a (b ∷ bs) cs behind ∙ ap (λ rs. a ∷ rs) z
at-meeting Changed b a bs ns e p q x y z =
    let cs = changes bs ns in
    let none : lower (key b) (key a) ≡ false = ap (λ k. lower k (key a)) e ∙ lower-self (key a) in
    let nor : lower (key a) (key b) ≡ false = ap (λ k. lower (key a) k) e ∙ lower-self (key a) in
    let behind = changes-behind (key a) bs ns (subst (λ k. AreBehind k bs) e p) q in
    ap (λ rs. put_on rs cs) (told-instead b a bs none nor) ∙ past a bs cs behind ∙ ap (λ rs. a ∷ rs) x

-- what changed, put on what was, gives what is
pub put-changes : (bs ns : List Record) → AreOrdered bs → AreOrdered ns → put_on bs (changes bs ns) ≡ ns
unfolding changes
put-changes [] ns p q = all-told ns q
put-changes (b ∷ bs) [] p q = all-gone (b ∷ bs)
put-changes (b ∷ bs) (a ∷ ns) p q =
    at-meeting (meeting b a) b a bs ns (met b a) p.0 q.0 (put-changes bs ns p.1 q.1) (put-changes bs (a ∷ ns) p.1 q)
    (put-changes (b ∷ bs) ns p q.1)

-- ---- the order of what is told

told-ordered : (ns : List Record) → AreOrdered ns → AreChangesOrdered (all_told ns)
told-ordered [] o = o
told-ordered (a ∷ ns) o = (told-behind (key a) ns o.0, told-ordered ns o.1)

gone-ordered : (bs : List Record) → AreOrdered bs → AreChangesOrdered (all_gone bs)
gone-ordered [] o = o
gone-ordered (b ∷ bs) o = (gone-behind (key b) bs o.0, gone-ordered bs o.1)

meeting-ordered : (m : Meeting) (b a : Record) (bs ns : List Record) → Met b a m → AreBehind (key b) bs → AreBehind (key a) ns
    → AreChangesOrdered (changes bs ns) → AreChangesOrdered (changes bs (a ∷ ns)) → AreChangesOrdered (changes (b ∷ bs) ns)
    → AreChangesOrdered (told_of m b a (changes bs ns) (changes bs (a ∷ ns)) (changes (b ∷ bs) ns))
meeting-ordered Unchanged b a bs ns e p q x y z = x
meeting-ordered Left b a bs ns l p q x y z = (changes-behind (key b) bs (a ∷ ns) p (l, behind-behind (key b) (key a) ns l q), y)
meeting-ordered Came b a bs ns h p q x y z = (changes-behind (key a) (b ∷ bs) ns (h.1, behind-behind (key a) (key b) bs h.1 p) q, z)
meeting-ordered Changed b a bs ns e p q x y z = (changes-behind (key a) bs ns (subst (λ k. AreBehind k bs) e p) q, x)

-- no key is told twice
pub changes-ordered : (bs ns : List Record) → AreOrdered bs → AreOrdered ns → AreChangesOrdered (changes bs ns)
unfolding changes
changes-ordered [] ns p q = told-ordered ns q
changes-ordered (b ∷ bs) [] p q = gone-ordered (b ∷ bs) p
changes-ordered (b ∷ bs) (a ∷ ns) p q =
    meeting-ordered (meeting b a) b a bs ns (met b a) p.0 q.0 (changes-ordered bs ns p.1 q.1) (changes-ordered bs (a ∷ ns) p.1 q)
    (changes-ordered (b ∷ bs) ns p q.1)

-- ---- what is told is new

-- a record before all that changed is none of what is told
new-past : (b : Record) (bs : List Record) (cs : List Change) → AreChangesBehind (key b) cs → AreNew bs cs → AreNew (b ∷ bs) cs
new-past b bs [] h n = n
new-past b bs (Told a ∷ cs) h n = ((apart (same b a) refl, n.0), new-past b bs cs h.1 n.1)
  where
    apart : (t : Bool) → same b a ≡ t → t ≡ false
    apart false e = refl
    apart true e = absurd (
        let one : lower (key b) (key a) ≡ false = ap (λ r. lower (key b) (key r)) (sym (same-is b a e)) ∙ lower-self (key b) in
        let less = h.0 in
        cc
        )
new-past b bs (Gone g ∷ cs) h n = new-past b bs cs h.1 n

-- none of those behind a key is a record with that key
new-behind : (a : Record) (bs : List Record) → AreBehind (key a) bs → IsNew bs a
new-behind a [] h = h
new-behind a (b ∷ bs) h = (apart (same b a) refl, new-behind a bs h.1)
  where
    apart : (t : Bool) → same b a ≡ t → t ≡ false
    apart false e = refl
    apart true e = absurd (
        let one : lower (key a) (key b) ≡ false = ap (λ r. lower (key a) (key r)) (same-is b a e) ∙ lower-self (key a) in
        let less = h.0 in
        cc
        )

new-all : (ns : List Record) → AreNew [] (all_told ns)
new-all [] = record {}
new-all (a ∷ ns) = (record {}, new-all ns)

gone-new : (os bs : List Record) → AreNew os (all_gone bs)
gone-new os [] = record {}
gone-new os (b ∷ bs) = gone-new os bs

not-same : (b a : Record) → meeting b a ≡ Changed → same b a ≡ false
unfolding meeting
not-same b a e = go (same b a) e
  where
    go : (t : Bool) → (if t then Unchanged else if lower (key b) (key a) then Left else if lower (key a) (key b) then Came else Changed)
        ≡ Changed → t ≡ false
    go false e = refl
    go true e = absurd (cc)

meeting-new : (m : Meeting) → (b a : Record) (bs ns : List Record) → meeting b a ≡ m → Met b a m → AreBehind (key b) bs
    → AreBehind (key a) ns → AreNew bs (changes bs ns) → AreNew bs (changes bs (a ∷ ns)) → AreNew (b ∷ bs) (changes (b ∷ bs) ns)
    → AreNew (b ∷ bs) (told_of m b a (changes bs ns) (changes bs (a ∷ ns)) (changes (b ∷ bs) ns))
meeting-new Unchanged b a bs ns q e p h x y z =
    new-past b bs (changes bs ns) (changes-behind (key b) bs ns p (subst (λ r. AreBehind (key r) ns) (sym e) h)) x
meeting-new Left b a bs ns q l p h x y z =
    new-past b bs (changes bs (a ∷ ns)) (changes-behind (key b) bs (a ∷ ns) p (l, behind-behind (key b) (key a) ns l h)) y
meeting-new Came b a bs ns q l p h x y z =
    (new-behind a (b ∷ bs) (l.1, behind-behind (key a) (key b) bs l.1 p), z)
meeting-new Changed b a bs ns q e p h x y z = (
  (not-same b a q, new-behind a bs (subst (λ k. AreBehind k bs) e p)),
  new-past b bs (changes bs ns) (changes-behind (key b) bs ns p (subst (λ k. AreBehind k ns) (sym e) h)) x,
)

-- nothing is told that is as it was
pub changes-new : (bs ns : List Record) → AreOrdered bs → AreOrdered ns → AreNew bs (changes bs ns)
unfolding changes
changes-new [] ns p q = new-all ns
changes-new (b ∷ bs) [] p q = gone-new (b ∷ bs) (b ∷ bs)
changes-new (b ∷ bs) (a ∷ ns) p q =
    meeting-new (meeting b a) b a bs ns refl (met b a) p.0 q.0 (changes-new bs ns p.1 q.1) (changes-new bs (a ∷ ns) p.1 q)
    (changes-new (b ∷ bs) ns p q.1)
