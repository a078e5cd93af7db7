-- Every event keeps that the tag of a line in memory is the greatest TID that is settled at its home and stored in it.
use Rattle.theorem_serial.proofs
use proofs.Names
use Names.{moved_by, nothing, taken_by, unnoted, and-false, ℕ, ◌+◌, ◌≡◌, ◌<◌, ◌≤◌, ◌⊎◌, ◌==◌, ◌&&◌, Bool, true, false, nat_lt, List, []}
use Names.{Contains, Option, Some, None, IfSome, max, cond, set, if◌then◌else◌, arith, refl, ap, sym, ◌∙◌, cases_eq, Noted, Program, Local}
use Names.{num, any_word, has_mark, no_lines, Core, Dir, Msg, Event, Shape, home, lines, any_below-at, DirState, World, start, dir_start}
use Names.{Sends, Out, Answer, Waits, Drops, Asks, Takes, dir_deliver, core_moves, core_takes, dir_takes, dir_asks, vendor_gives, History}
use Names.{Stepped, and_noted, step, settled_in_line, KeptTags, Kind, Commits, live, passes, KeptAll, KeptRun, pair, Grant, is_settled}
use Names.{is_applied, CommitsStand, stored_mask, stores_at, SettledCommit, stores_word, Ways, names_line, last_of, ◌∷◌, cases_lt, Inv}
use Names.{Invs, InvOf, KeptNamed, due, OwedAt, times, share, KeptStored, inl, inr, ◌-◌, subst, insert_commit, nats, tid_at, to_dir}
use Names.{to_core, FromCore, FromDir, tested}
use proofs.Copies.CopyRules.{on-its-way, applied-or}
use proofs.Counts.{num-same, live-takes, total-le, OfAnswer, step_cases}
use proofs.Marks.DirRecords.{NoCommit, Records, Still, Came, Settles, RecordsBy, dir-records, CountsMarked}
use proofs.Marks.MaskLaws.{same-commit}
use proofs.Marks.StoredKept.{noted-keeps, taken-stored, noted-has}
use proofs.Marks.CoreMarks.{stored-line}
use proofs.Serving.{core_of_out}
use proofs.Tids.{granted-once, last-same, last-most, last-least, granted-at, live-some}
use proofs.Marks.AfterKept.{last-insert}

-- what an event does to the tags

-- a message of core c to directory d is consumed, and the messages to directories are the others still
abbrev pub Consumes : World → (core dir : ℕ) → Msg → World → Type 0
Consumes w c d m v = (k : Kind) (j e : ℕ) → live k (to_dir v j e) + num ((j == c && e == d) && passes k m) ≡ live k (to_dir w j e)

-- the tags stay, and no Commit is consumed; or a Commit is, and the marked lines have its TID
pub data TagStep (sh : Shape) (w : World) (o : Stepped) : Type 0 where
  Unheard : o.world.dirs ≡ w.dirs → TagStep sh w o
  Heard : o.noted ≡ None → ((e l : ℕ) → (o.world.dirs e).lines.tag l ≡ (w.dirs e).lines.tag l)
      → ((t j e : ℕ) → live (Commits t) (to_dir o.world j e) ≡ live (Commits t) (to_dir w j e)) → TagStep sh w o
  Taken : (c d k : ℕ) (m : Msg) → o.noted ≡ None → FromCore w c d k m → CountsMarked sh (w.dirs d) m
      → ((e l : ℕ)
      → (o.world.dirs e).lines.tag l ≡ (if e == d && has_mark (w.dirs d).lines l then tid_at w d
      else (w.dirs e).lines.tag l)) → Consumes w c d m o.world → TagStep sh w o

pub takes-consumes : (w : World) (c d k : ℕ) (m : Msg) (s : DirState) (sends : Sends) → FromCore w c d k m
    → Consumes w c d m (dir_takes w c d k s sends)
unfolding dir_takes
takes-consumes w c d k m s sends i q j e = go (j == c) (e == d) refl refl
  where
    go : (a b : Bool) → (j == c) ≡ a → (e == d) ≡ b
        → live q (if a && b then set (to_dir w j e) k None else to_dir w j e) + num ((a && b) && passes q m) ≡ live q (to_dir w j e)
    go a b x y = grind (nats, live-takes)

pub tag-step : (sh : Shape) (p : Program) (w : World) (e : Event) → IfSome (step sh p w e) (TagStep sh w)
unfolding core_moves core_takes vendor_gives dir_asks dir_takes
tag-step sh p w e = step_cases sh p w e (λ g o. TagStep sh w o) (λ c o eq l. moved c o)
    (λ c x y o eq l. moved c o) (λ c k t i. Unheard refl) (λ c d k m o eq i. taken c d k o)
    (λ c d k m i. answered c d k m i (dir_deliver sh (w.dirs d) c m) (dir-records sh (w.dirs d) c m)) (λ c k a i. Unheard refl)
  where
    moved : (c : ℕ) (o : Out) → TagStep sh w (moved_by w c o)
    moved c o = Unheard refl

    taken : (c d k : ℕ) (o : Out) → TagStep sh w (taken_by w (Dir d) c k o)
    taken c d k o = Unheard refl

    same-tags : (d e l : ℕ) (s : DirState) → ((l : ℕ) → s.lines.tag l ≡ (w.dirs d).lines.tag l)
        → (if e == d then s else w.dirs e).lines.tag l ≡ (w.dirs e).lines.tag l
    same-tags d e l s h = grind nats

    same-commits : (c d k : ℕ) (m : Msg) (s : DirState) (sends : Sends) → FromCore w c d k m → NoCommit m
        → (t j e : ℕ) → live (Commits t) ((dir_takes w c d k s sends).net (Core j) (Dir e)) ≡ live (Commits t) (to_dir w j e)
    same-commits c d k m s sends i n t j e =
        omega (arith, takes-consumes w c d k m s sends i (Commits t) j e, none (j == c && e == d) (n t))
      where
        none : (b : Bool) → passes (Commits t) m ≡ false → num (b && passes (Commits t) m) ≡ 0
        none a h = grind nats

    new-tags : (d e l : ℕ) (s : DirState)
        → ((l : ℕ) → s.lines.tag l ≡ (if has_mark (w.dirs d).lines l then tid_at w d else (w.dirs d).lines.tag l))
        → (if e == d then s else w.dirs e).lines.tag l ≡ (if e == d && has_mark (w.dirs d).lines l then tid_at w d
        else (w.dirs e).lines.tag l)
    new-tags d e l s h = grind nats

    takes : (c d k : ℕ) (m : Msg) (s : DirState) (sends : Sends) → FromCore w c d k m → Records sh (w.dirs d) c m s
        → TagStep sh w (unnoted (dir_takes w c d k s sends))
    takes c d k m s sends i (Still y n q) = Heard refl (λ e l. same-tags d e l s y.tags) (same-commits c d k m s sends i n)
    takes c d k m s sends i (Came x q o g a n) = Heard refl (λ e l. same-tags d e l s g) (same-commits c d k m s sends i n)
    takes c d k m s sends i (Settles q g a n) = Taken c d k m refl i q (λ e l. new-tags d e l s g) (takes-consumes w c d k m s sends i)

    answered : (c d k : ℕ) (m : Msg) → FromCore w c d k m → (a : Answer) → RecordsBy sh (w.dirs d) c m a
        → OfAnswer w c d k (λ v. TagStep sh w (unnoted v)) a
    answered c d k m i Waits u = tt
    answered c d k m i Drops u = Heard refl (λ e l. same-tags d e l (w.dirs d) (λ x. refl))
        (same-commits c d k m (w.dirs d) nothing i u.commit)
    answered c d k m i (Asks s sends) u = Heard refl (λ e l. same-tags d e l s u.tags) (λ t j e. refl)
    answered c d k m i (Takes s sends) u = takes c d k m s sends i u

-- the mask of a commit in a line at home has a word where the commit stored in the line
pub stored-in : (sh : Shape) (d l : ℕ) (n : Noted) → l < lines sh → home sh l ≡ d
    → names_line sh.base n.stores l ≡ nat_lt 0 (stored_mask sh d n.stores l)
unfolding names_line
stored-in sh d l n i e =
    let a : nat_lt l (lines sh) ≡ true = grind nats in
    let b : (d == home sh l) ≡ true = rw e (grind nats) in
    num-same (any_word (stores_word sh.base n.stores) l) (nat_lt 0 (stored_mask sh d n.stores l))
    (rw (a, b) at (stored-line sh d n.stores l))

-- a commit that stored in a line stored at the line's home
pub stored-home : (sh : Shape) {d : ℕ} (l : ℕ) (n : Noted) → l < lines sh → home sh l ≡ d → names_line sh.base n.stores l ≡ true
    → stores_at sh d n.stores ≡ true
unfolding stores_at
stored-home sh {d} l n i e s = any_below-at (λ k. nat_lt 0 (stored_mask sh d n.stores k)) (lines sh) l i (sym (stored-in sh d l n i e) ∙ s)

-- tests of a commit that stored in a line or not
same-test : (a b s : Bool) → (s ≡ true → a ≡ b) → (a && s) ≡ (b && s)
same-test a b d h = grind nats

-- where no directory changes, a commit is settled as before, and a new one isn't
unheard-tags : (sh : Shape) (w v : World) (cs : List Noted) (a : Option Noted) → CommitsStand sh w cs → CommitsStand sh v (and_noted a cs)
    → v.dirs ≡ w.dirs
    → ((n : Noted) (d : ℕ) → a ≡ Some n → d < sh.dirs → stores_at sh d n.stores ≡ true → is_applied (w.dirs d) n.tid.0 ≡ false)
    → KeptTags sh w cs → KeptTags sh v (and_noted a cs)
unfolding settled_in_line is_settled
unheard-tags sh w v cs a b z e f h d l dl i q = rw e (h d l dl i q ∙ go a refl)
  where
    here : (x : Noted) → names_line sh.base x.stores l ≡ true → stores_at sh d x.stores ≡ true
    here x s = stored-home sh l x i q s

    one : (x : Noted) → Contains cs x → settled_in_line sh v d l x ≡ settled_in_line sh w d l x
    one x k = same-test (is_settled v d x) (is_settled w d x) (names_line sh.base x.stores l) (λ s.
        let n : live (Commits x.tid.0) (to_dir v x.core.0 d) + num (is_applied (w.dirs d) x.tid.0) ≡ 1 =
        rw e at (z x d (noted-keeps a cs x k) dl (here x s)) in
        let y : live (Commits x.tid.0) (to_dir v x.core.0 d) ≡ live (Commits x.tid.0) (to_dir w x.core.0 d) =
        omega (arith, b x d k dl (here x s)) in
        rw y)

    new : (n : Noted) → a ≡ Some n → Contains (and_noted a cs) n → settled_in_line sh v d l n ≡ false
    new n r k = elim (tested (names_line sh.base n.stores l)) [
      | inr s ↦ rw s (grind arith)
      | inl s ↦ let y : live (Commits n.tid.0) (to_dir v n.core.0 d) + num (is_applied (w.dirs d) n.tid.0) ≡ 1 =
          rw e at (z n d k dl (here n s)) in
          let u : num (is_applied (w.dirs d) n.tid.0) ≡ 0 = ap num (f n d r dl (here n s)) in
          let x : live (Commits n.tid.0) (to_dir v n.core.0 d) ≡ 1 = omega arith in
          rw x
    ]

    go : (b : Option Noted) → a ≡ b → last_of (settled_in_line sh w d l) cs ≡ last_of (settled_in_line sh v d l) (and_noted b cs)
    go None r = sym (last-same (settled_in_line sh v d l) (settled_in_line sh w d l) cs one)
    go (Some n) r =
        let x : settled_in_line sh v d l n ≡ false = new n r (noted-has cs r) in
        let m = last-insert (settled_in_line sh v d l) n cs in
        let u : last_of (settled_in_line sh v d l) (insert_commit n cs) ≡ max (cond {A = ℕ} false n.tid.0 0)
        (last_of (settled_in_line sh v d l) cs) = rw x at m in
        omega (arith, last-same (settled_in_line sh v d l) (settled_in_line sh w d l) cs one)

-- where the tags stay, and no Commit is consumed
heard-tags : (sh : Shape) (w v : World) (cs : List Noted) → ((e l : ℕ) → (v.dirs e).lines.tag l ≡ (w.dirs e).lines.tag l)
    → ((t j e : ℕ) → live (Commits t) (to_dir v j e) ≡ live (Commits t) (to_dir w j e)) → KeptTags sh w cs → KeptTags sh v cs
unfolding settled_in_line is_settled
heard-tags sh w v cs f g h d l dl i q = f d l ∙ h d l dl i q
    ∙ sym (last-same (settled_in_line sh v d l) (settled_in_line sh w d l) cs (λ x k. rw (g x.tid.0 x.core.0 d)))

applied-served : (s : DirState) (t : ℕ) → 1 ≤ num (is_applied s t) → t ≤ s.serving.serving
applied-served s t l = grind (nats, applied-or)

-- a Commit that a directory takes is of a commit of the served TID, by the core that sent it
pub record TakenCommit (sh : Shape) (cs : List Noted) (w : World) (c d : ℕ) : Type 0 where
  pub settled : SettledCommit sh cs d (w.dirs d)
  pub core : settled.commit.core.0 ≡ c
  pub only : (x : Noted) → Contains cs x → tid_at w d ≡ x.tid.0 → x ≡ settled.commit
  pub sent : 1 ≤ live (Commits (tid_at w d)) (to_dir w c d)

pub taken-commit : {sh : Shape} {gs : List Grant} {h : History} (c d k : ℕ) {m : Msg} → KeptAll sh gs h → d < sh.dirs
    → FromCore h.world c d k m → CountsMarked sh (h.world.dirs d) m → TakenCommit sh h.commits h.world c d
unfolding pair passes
taken-commit {sh} {gs} {h} c d k {m} r dl i q =
    record {
      settled = n;
      core = core;
      only = λ x j o. same-commit h.commits x n.commit r.owners.rising j n.noted (sym o ∙ sym n.tid);
      sent = sent;
    }
  where
    u : ℕ
    u = tid_at h.world d

    n : SettledCommit sh h.commits d (h.world.dirs d)
    n = taken-stored h.world c k r.counted r.stored (core_of_out c d k r.kept.told.tids i) dl i q

    sent : 1 ≤ live (Commits u) (to_dir h.world c d)
    sent = let one : num (passes (Commits u) m) ≡ 1 = rw q (grind nats) in
        omega (arith, live-some (Commits u) (to_dir h.world c d) k m i)

    core : n.commit.core.0 ≡ c
    core = granted-once 1 gs u n.commit.core.0 c r.owners.numbered
        (rw n.tid at (granted-at gs h.commits n.commit r.owners.granted n.noted)) ((r.spared c d).owner u sent)

-- another commit is settled as before
still-settled : (w v : World) (c d : ℕ) (m : Msg) (x : Noted) (e : ℕ) → Consumes w c d m v
    → ((x.core.0 == c && e == d) ≡ false) ⊎ (passes (Commits x.tid.0) m ≡ false) → is_settled v e x ≡ is_settled w e x
unfolding is_settled
still-settled w v c d m x e b f = grind nats

pub none-sent : (w : World) (d : ℕ) (x : Noted) → is_settled w d x ≡ true → live (Commits x.tid.0) (to_dir w x.core.0 d) ≡ 0
unfolding is_settled
none-sent w d x y = grind nats

-- the commit is settled once its Commit is taken
settled-now : {sh : Shape} {cs : List Noted} (w v : World) (c d : ℕ) (m : Msg) → CommitsStand sh w cs → d < sh.dirs
    → CountsMarked sh (w.dirs d) m → Consumes w c d m v → (t : TakenCommit sh cs w c d) → stores_at sh d t.settled.commit.stores ≡ true
    → is_settled v d t.settled.commit ≡ true
unfolding is_settled passes
settled-now w v c d m a dl q b t st =
    let x = t.settled.commit in
    let e : x.tid.0 ≡ tid_at w d = t.settled.tid in
    let one : num ((x.core.0 == c && d == d) && passes (Commits x.tid.0) m) ≡ 1 = rw (q, t.core, e) (grind nats) in
    let before : 1 ≤ live (Commits x.tid.0) (to_dir w x.core.0 d) = rw (t.core, e) t.sent in
    let z : live (Commits x.tid.0) (to_dir v x.core.0 d) ≡ 0 =
    omega (arith, b, a) in
    rw z

-- where a Commit is taken, each line of its commit has its TID, which is the greatest that is settled
taken-here : (sh : Shape) (cs : List Noted) (w v : World) (c d l : ℕ) (m : Msg) → CommitsStand sh w cs → d < sh.dirs → l < lines sh
    → home sh l ≡ d → CountsMarked sh (w.dirs d) m → Consumes w c d m v → TakenCommit sh cs w c d
    → (v.dirs d).lines.tag l ≡ (if has_mark (w.dirs d).lines l then tid_at w d else (w.dirs d).lines.tag l)
    → (w.dirs d).lines.tag l ≡ last_of (settled_in_line sh w d l) cs → (v.dirs d).lines.tag l ≡ last_of (settled_in_line sh v d l) cs
unfolding settled_in_line passes
taken-here sh cs w v c d l m a dl i e q b t g h = go (has_mark (w.dirs d).lines l) refl g
  where
    u : ℕ
    u = tid_at w d

    n : Noted
    n = t.settled.commit

    line : names_line sh.base n.stores l ≡ has_mark (w.dirs d).lines l
    line = stored-in sh d l n i e ∙ ap (nat_lt 0) (sym (t.settled.marks l))

    -- one of another TID is settled as before
    other : (x : Noted) → (u == x.tid.0) ≡ false → is_settled v d x ≡ is_settled w d x
    other x z = still-settled w v c d m x d b (inr (rw q z))

    most : (x : Noted) → Contains cs x → settled_in_line sh v d l x ≡ true → x.tid.0 ≤ u
    most x j s = below (u == x.tid.0) (is_settled w d x) refl refl (names_line sh.base x.stores l) refl (is_settled v d x) refl s
      where
        below : (y f : Bool) → (u == x.tid.0) ≡ y → is_settled w d x ≡ f → (o : Bool) → names_line sh.base x.stores l ≡ o → (p : Bool)
            → is_settled v d x ≡ p → (p && o) ≡ true → x.tid.0 ≤ u
        below true f z k o r p r' s = grind nats
        below false f z k false r true r' s = absurd (cc)
        below false f z k o r false r' s = absurd (cc)
        below false false z k true r true r' s = absurd (let y = other x z in cc)
        below false true z k true r true r' s =
            applied-served (w.dirs d) x.tid.0 (omega (arith, a x d j dl (stored-home sh l x i e r), none-sent))

    go : (f : Bool) → has_mark (w.dirs d).lines l ≡ f → (v.dirs d).lines.tag l ≡ (if f then u else (w.dirs d).lines.tag l)
        → (v.dirs d).lines.tag l ≡ last_of (settled_in_line sh v d l) cs
    go true f g =
        let s : names_line sh.base n.stores l ≡ true = line ∙ f in
        let y : settled_in_line sh v d l n ≡ true = rw (settled-now w v c d m a dl q b t (stored-home sh l n i e s), s) in
        let z : n.tid.0 ≡ u = t.settled.tid in
        omega (arith, last-least (settled_in_line sh v d l) cs n t.settled.noted y, last-most (settled_in_line sh v d l) cs u most)
    go false f g = g ∙ h ∙ sym (last-same (settled_in_line sh v d l) (settled_in_line sh w d l) cs one)
      where
        one : (x : Noted) → Contains cs x → settled_in_line sh v d l x ≡ settled_in_line sh w d l x
        one x j = same-test (is_settled v d x) (is_settled w d x) (names_line sh.base x.stores l) (tid (u == x.tid.0) refl)
          where
            tid : (y : Bool) → (u == x.tid.0) ≡ y → names_line sh.base x.stores l ≡ true → is_settled v d x ≡ is_settled w d x
            tid false z s = other x z
            tid true z s = absurd (let o : u ≡ x.tid.0 = grind nats in let p : x ≡ n = t.only x j o in
                let r : names_line sh.base n.stores l ≡ true = rw p at s in let k = line in cc)

taken-tags : (sh : Shape) (cs : List Noted) (w v : World) (c d : ℕ) (m : Msg) → CommitsStand sh w cs
    → (d < sh.dirs → TakenCommit sh cs w c d) → CountsMarked sh (w.dirs d) m
    → ((e l : ℕ) → (v.dirs e).lines.tag l ≡ (if e == d && has_mark (w.dirs d).lines l then tid_at w d else (w.dirs e).lines.tag l))
    → Consumes w c d m v → KeptTags sh w cs → KeptTags sh v cs
unfolding settled_in_line
taken-tags sh cs w v c d m a t q g b h e l el i k = elim (cases_eq e d) [
  | inl p ↦ subst (λ e. (v.dirs e).lines.tag l ≡ last_of (settled_in_line sh v e l) cs) (sym p)
      (let dl = rw p at el in let y : (d == d) ≡ true = grind nats in
      taken-here sh cs w v c d l m a dl i (k ∙ p) q b (t dl) (rw y at (g d l)) (h d l dl i (k ∙ p)))
  | inr p ↦ let y : (e == d) ≡ false = grind nats in (rw y at (g e l)) ∙ h e l el i k
      ∙ sym (last-same (settled_in_line sh v e l) (settled_in_line sh w e l) cs
      (λ x j. rw (still-settled w v c d m x e b (inl (rw y (and-false (x.core.0 == c)))))))
]

pub tags-out : (sh : Shape) (gs : List Grant) (ys : Ways) (h : History) (o : Stepped) → KeptRun sh gs ys h
    → CommitsStand sh o.world (and_noted o.noted h.commits)
    → ((n : Noted) (d : ℕ) → o.noted ≡ Some n → d < sh.dirs → stores_at sh d n.stores ≡ true → is_applied (h.world.dirs d) n.tid.0 ≡ false)
    → KeptTags sh h.world h.commits → TagStep sh h.world o → KeptTags sh o.world (and_noted o.noted h.commits)
tags-out sh gs ys h o k z f t (Unheard e) = unheard-tags sh h.world o.world h.commits o.noted (on-its-way sh gs ys h k) z e f t
tags-out sh gs ys h o k z f t (Heard n g y) = rw n (heard-tags sh h.world o.world h.commits g y t)
tags-out sh gs ys h o k z f t (Taken c d i m n j q g b) = rw n (taken-tags sh h.commits h.world o.world c d m (on-its-way sh gs ys h k)
    (λ dl. taken-commit c d i k.all dl j q) q g b t)

pub start-tags : (sh : Shape) (entries : ℕ → Local) (ram : ℕ → ℕ) → KeptTags sh (start entries ram) []
unfolding start dir_start no_lines last_of
start-tags sh entries ram d l a b e = refl

-- What the tag of a line is: below the TID of each commit that isn't settled yet, and the served TID while the line's invalidations go out.

-- a greatest TID is of a commit
last-listed : (p : Noted → Bool) (cs : List Noted) (t : ℕ) → last_of p cs ≡ t → 1 ≤ t → 1 ≤ times t cs
unfolding last_of times
last-listed p [] t e l = absurd (omega arith)
last-listed p (x ∷ cs) t e l = go (p x) e (cases_lt (last_of p cs) t) (λ q. last-listed p cs t q l)
  where
    go : (b : Bool) → max (cond b x.tid.0 0) (last_of p cs) ≡ t → (last_of p cs < t) ⊎ (t ≤ last_of p cs)
        → (last_of p cs ≡ t → 1 ≤ times t cs) → 1 ≤ num (x.tid.0 == t) + times t cs
    go a e b f = grind nats

-- a TID that no commit has is no line's tag
pub untagged : (sh : Shape) (h : History) (d l t : ℕ) → KeptTags sh h.world h.commits → d < sh.dirs → l < lines sh → home sh l ≡ d → 1 ≤ t
    → times t h.commits ≡ 0 → t ≡ (h.world.dirs d).lines.tag l → ⊥
untagged sh h d l t k dl ll e p z q =
    absurd (omega (arith, last-listed (settled_in_line sh h.world d l) h.commits t (sym (k d l dl ll e) ∙ sym q) p))

-- the tag isn't above the served TID
tag-served : (sh : Shape) (w : World) (cs : List Noted) (d l : ℕ) → CommitsStand sh w cs → KeptTags sh w cs → d < sh.dirs → l < lines sh
    → home sh l ≡ d → (w.dirs d).lines.tag l ≤ tid_at w d
unfolding settled_in_line
tag-served sh w cs d l a k dl ll e = rw (k d l dl ll e) (last-most (settled_in_line sh w d l) cs (tid_at w d)
    (λ x j s. one x j (is_settled w d x) (names_line sh.base x.stores l) refl refl s))
  where
    one : (x : Noted) → Contains cs x → (b s : Bool) → is_settled w d x ≡ b → names_line sh.base x.stores l ≡ s → (b && s) ≡ true
        → x.tid.0 ≤ (tid_at w d)
    one x j true true q r f = applied-served (w.dirs d) x.tid.0 (omega (arith, a x d j dl (stored-home sh l x ll e r), none-sent))
    one x j true false q r f = absurd (cc)
    one x j false s q r f = absurd (cc)

-- while a Commit of the served TID is in flight the tag is below it
pub tag-below : (sh : Shape) (h : History) (c d l : ℕ) → CommitsStand sh h.world h.commits → KeptTags sh h.world h.commits → d < sh.dirs
    → l < lines sh → home sh l ≡ d → 1 ≤ tid_at h.world d → ((x : Noted) → Contains h.commits x → x.tid.0 ≡ tid_at h.world d → x.core.0 ≡ c)
    → 1 ≤ live (Commits (tid_at h.world d)) (to_dir h.world c d) → (h.world.dirs d).lines.tag l < tid_at h.world d
unfolding settled_in_line
tag-below sh h c d l a k dl ll e p own s = go (tid_at h.world d) refl
  where
    u : ℕ
    u = tid_at h.world d

    one : (v : ℕ) → u ≡ v + 1 → (x : Noted) → Contains h.commits x → (b s : Bool) → is_settled h.world d x ≡ b
        → names_line sh.base x.stores l ≡ s → (b && s) ≡ true → x.tid.0 ≤ v
    one v y x j true true q r f = elim (cases_lt v x.tid.0) [
      | inr z ↦ z
      | inl z ↦ absurd (let i : x.tid.0 ≡ u = omega (arith, z, most, y) in
          let n : live (Commits u) (to_dir h.world c d) ≡ 0 = rw (i, own x j i) at (none-sent h.world d x q) in
          omega arith)
    ]
      where
        most : x.tid.0 ≤ u
        most = applied-served (h.world.dirs d) x.tid.0 (omega (arith, a x d j dl (stored-home sh l x ll e r), none-sent))
    one v y x j true false q r f = absurd (cc)
    one v y x j false s q r f = absurd (cc)

    go : (n : ℕ) → u ≡ n → (h.world.dirs d).lines.tag l < u
    go n q = let y : u ≡ (u - 1) + 1 = omega arith in let z = last-most (settled_in_line sh h.world d l) h.commits (u - 1)
        (λ x j s. one (u - 1) y x j (is_settled h.world d x) (names_line sh.base x.stores l) refl refl s) in
        omega (arith, k)

pub applied-owed : (s : DirState) (t : ℕ) → t ≡ s.serving.serving → 1 ≤ s.owed → is_applied s t ≡ true
unfolding is_applied
applied-owed s t e o = grind nats

-- while an invalidation of the line is in flight its tag is the served TID
pub record Invalidating (sh : Shape) (h : History) (c d l : ℕ) : Type 0 where
  pub tag : (h.world.dirs d).lines.tag l ≡ (tid_at h.world d)
  pub sent : 1 ≤ live Invs (pair h.world c d).back

pub inv-tag-of : (sh : Shape) (h : History) (c d k l m u : ℕ) → ((d : ℕ) → OwedAt sh h.world d) → KeptNamed sh h.world
    → KeptStored sh h.commits h.world → CommitsStand sh h.world h.commits → KeptTags sh h.world h.commits → c < sh.cores → d < sh.dirs
    → l < lines sh → home sh l ≡ d → FromDir h.world d c k (Inv l m u) → Invalidating sh h c d l
unfolding pair passes due share settled_in_line is_settled
inv-tag-of sh h c d k l m u owes named stored a g cl dl ll e i =
    let most : s.lines.tag l ≤ s.serving.serving = tag-served sh w h.commits d l a g dl ll e in
    record { tag = omega (arith, least); sent = invs }
  where
    w : World
    w = h.world

    s : DirState
    s = w.dirs d

    invs : 1 ≤ live Invs (to_core w d c)
    invs = omega (arith, live-some Invs (to_core w d c) k (Inv l m u) i)

    owed : 1 ≤ s.owed
    owed = omega (arith, invs, owes d, total-le (share due w d) sh.cores c cl)

    marked : (b : Bool) → has_mark s.lines l ≡ b → b ≡ true
    marked true q = refl
    marked false q = absurd (let y : (l == l) ≡ true = grind nats in let z : num (l == l) ≡ 1 = rw y in
        let n : num (has_mark s.lines l) ≡ 0 = ap num q in
        omega (arith, live-some (InvOf l) (to_core w d c) k (Inv l m u) i, (named c d l cl dl).one, n))

    n : SettledCommit sh h.commits d s
    n = (stored 0 d 0).settled dl owed

    line : names_line sh.base n.commit.stores l ≡ true
    line = stored-in sh d l n.commit ll e ∙ ap (nat_lt 0) (sym (n.marks l)) ∙ marked (has_mark s.lines l) refl

    settled : settled_in_line sh w d l n.commit ≡ true
    settled = let y : num (is_applied s n.commit.tid.0) ≡ 1 = ap num (applied-owed s n.commit.tid.0 n.tid owed) in
        let z : live (Commits n.commit.tid.0) (to_dir w n.commit.core.0 d) ≡ 0 =
        omega (arith, y, a n.commit d n.noted dl (stored-home sh l n.commit ll e line)) in rw (z, line)

    least : s.serving.serving ≤ s.lines.tag l
    least = omega (arith, n.tid, last-least (settled_in_line sh w d l) h.commits n.commit n.noted settled, g d l dl ll e)

pub inv-tag : {sh : Shape} {gs : List Grant} (h : History) (c d k l m u : ℕ) → KeptAll sh gs h → CommitsStand sh h.world h.commits
    → KeptTags sh h.world h.commits → c < sh.cores → d < sh.dirs → l < lines sh → home sh l ≡ d → FromDir h.world d c k (Inv l m u)
    → Invalidating sh h c d l
inv-tag {sh} h c d k l m u r = inv-tag-of sh h c d k l m u r.kept.told.owed.owed r.named r.stored
