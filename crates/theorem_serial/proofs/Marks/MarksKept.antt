-- Every event keeps that the Marks of a TID are those of the lines that its core stores.
use Rattle.theorem_serial.proofs
use proofs.Names
use Names.{got, nothing, eq-self, ℕ, ◌+◌, ◌≡◌, ◌<◌, ◌≤◌, true, false, List, ◌++◌, ◌==◌, ◌&&◌, Contains, Some, None, nat_lt, nat_le}
use Names.{slice_index_or, arith, refl, ap, subst, ◌⊎◌, inl, inr, cases_eq, cases_lt, num, has_mark, Dir, Msg, TidGrant, Mark, Skip, Shape}
use Names.{writes_at, DirState, Link, Out, sent_all, Grants, Resolves, Marks, MarkOf, EmptyMarks, Skips, live, among, passes, marks_of}
use Names.{MarksOf, Grant, Pair, after_move, grant_taken, has_tid, opens, [], slice_set, ◌∙◌, Contains-append_left, Noted, Core}
use Names.{Vendor, CoreState, World, in_flight, Kind, AnyResolve, has_marked, marked_by, KeptMarks, holder, KeptOwners, pair, share}
use Names.{after_answer, part, handled, KeptTids, KeptTold, IfSome, set, append-nil, Program, Local}
use Names.{no_lines, TidReq, Event, start, core_start, dir_start, Sends, grant, Answer, Waits, Drops, Asks, Takes, dir_deliver, core_moves}
use Names.{core_takes, dir_takes, dir_asks, step, granted_by, back_taken, Kept, nats, tid_at, to_dir, FromCore, grant_to, ◌≢◌, tested}
use proofs.Counts.{live-sends, live-takes, live-fewer, total-le, none-taken, pairs_move, pairs_grant, pairs_back, pairs_dir, pairs_asks}
use proofs.Counts.{pairs_vendor, OfAnswer, step_cases}
use proofs.Marks.CoreMarking.{Marking, few, at-most-one, marking-exec, marking-evict, Granting, marking-back, granting}
use proofs.Marks.CoreMarks.{stores-writes}
use proofs.Marks.DirRecords.{Marked, Stays, MarkedBy, dir-marked, marks-grow, marks-count}
use proofs.Serving.{core_of_grant, core_of_back, grant-alone}
use proofs.Tids.{granted-once, is_mine, not_mine, live-some, granted_waits}
use proofs.Counts.{Ask, Gift, gift, gift_grants, gift-counts, after_gift, after_other_gift}

-- How each kind of event keeps what is known of the Marks between a core and a directory.
one-kind : (t l : ℕ) (m : Msg) → (num (passes (MarkOf t l) m) ≤ num (passes (Marks t) m))
    × (num (passes (Skips t) m) ≤ num (passes (Resolves t) m))
unfolding passes
one-kind t l m = (grind nats, grind nats)

-- a Mark of a line is a Mark, and a Skip a word on its TID
pub kinds : (t l : ℕ) (k : Link) → (live (MarkOf t l) k ≤ live (Marks t) k) × (live (Skips t) k ≤ live (Resolves t) k)
kinds t l k = (live-fewer (MarkOf t l) (Marks t) (λ m. (one-kind t l m).0) k, live-fewer (Skips t) (Resolves t) (λ m. (one-kind t l m).1) k)

-- a core moves
marks-moved : {sh : Shape} {gs : List Grant} {c d t l : ℕ} {v : Pair} {o : Out} → Marking sh d t l v.core o → c < sh.cores
    → (has_tid v.core.phase t ≡ true → num (nat_le v.next t) + live (Grants t) v.grants ≡ 0)
    → (has_tid v.core.phase t ≡ true → Contains gs (grant_to t c))
    → (d < sh.dirs → opens v.core.phase (writes_at sh v.core.cache d) t ≡ true → live (Resolves t) v.out ≡ 0) → MarksOf sh gs c d t l v
    → MarksOf sh gs c d t l (after_move v o d)
unfolding marks_of
marks-moved {sh} {gs} {c} {d} {t} {l} {v} {o} y cl alone mine free h = record {
  owner = λ x. owner x (cases_lt 0 (live (Marks t) v.out + live (Resolves t) v.out));
  words = omega (arith, live-sends EmptyMarks v.out (o.sends (Dir d)), y.words, h.words);
  fresh =
      λ x. omega (
        arith,
        h.fresh x,
        live-sends (MarkOf t l) v.out (o.sends (Dir d)),
        quiet x
            (cases_lt 0 (among (MarkOf t l) (o.sends (Dir d)))),
      );
  skipped = λ dl x. skipped dl x (cases_lt 0 (among (Skips t) (o.sends (Dir d))));
  held = λ a dl x. let k = y.kept x in omega (arith, h.held a dl k.0, k.1, live-sends (MarkOf t l) v.out (o.sends (Dir d)));
}
  where
    f : (among (MarkOf t l) (o.sends (Dir d)) ≤ among (Marks t) (o.sends (Dir d)))
        × (among (Skips t) (o.sends (Dir d)) ≤ among (Resolves t) (o.sends (Dir d)))
    f = let g = few t l (o.sends (Dir d)) in (g.2, g.3)

    owner : 1 ≤ live (Marks t) (v.out ++ sent_all (o.sends (Dir d))) + live (Resolves t) (v.out ++ sent_all (o.sends (Dir d)))
        → (0 < live (Marks t) v.out + live (Resolves t) v.out) ⊎ (live (Marks t) v.out + live (Resolves t) v.out ≤ 0)
        → Contains gs (grant_to t c)
    owner x (inl z) = h.owner (omega (arith, z))
    owner x (inr z) =
        mine (y.owned (omega (arith, x, z, live-sends (Marks t) v.out (o.sends (Dir d)), live-sends (Resolves t) v.out (o.sends (Dir d)))))

    quiet : 1 ≤ num (nat_le v.next t) + live (Grants t) v.grants → (0 < among (MarkOf t l) (o.sends (Dir d)))
        ⊎ (among (MarkOf t l) (o.sends (Dir d)) ≤ 0) → among (MarkOf t l) (o.sends (Dir d)) ≡ 0
    quiet x (inl z) = absurd (omega (arith, x, alone (y.owned (omega (arith, z, f.0)))))
    quiet x (inr z) = omega (arith, z)

    unmarked : d < sh.dirs → 1 ≤ live (Skips t) v.out → (0 < among (MarkOf t l) (o.sends (Dir d)))
        ⊎ (among (MarkOf t l) (o.sends (Dir d)) ≤ 0) → among (MarkOf t l) (o.sends (Dir d)) ≡ 0
    unmarked dl x (inl z) = absurd (omega (arith, x, free dl (y.opened (omega (arith, z))), (kinds t l v.out).1))
    unmarked dl x (inr z) = omega (arith, z)

    skipped : d < sh.dirs → 1 ≤ live (Skips t) (v.out ++ sent_all (o.sends (Dir d))) → (0 < among (Skips t) (o.sends (Dir d)))
        ⊎ (among (Skips t) (o.sends (Dir d)) ≤ 0)
        → live (MarkOf t l) (v.out ++ sent_all (o.sends (Dir d))) + num (v.dir.serving.serving == t && has_mark v.dir.lines l) ≡ 0
    skipped dl x (inl z) = let k = y.skips (omega (arith, z)) in
        omega (arith, h.held cl dl k.0, k.1, live-sends (MarkOf t l) v.out (o.sends (Dir d)))
    skipped dl x (inr z) =
        let b : 1 ≤ live (Skips t) v.out = omega (arith, x, z, live-sends (Skips t) v.out (o.sends (Dir d))) in
        omega (
          arith,
          h.skipped dl b,
          unmarked dl b (cases_lt 0 (among (MarkOf t l) (o.sends (Dir d)))),
          live-sends (MarkOf t l) v.out
              (o.sends (Dir d)),
        )

-- a core takes its grant
granted-here : {sh : Shape} {gs : List Grant} {c : ℕ} (d u l k : ℕ) (v : Pair) (o : Out)
    → slice_index_or v.grants k None ≡ Some (TidGrant u) → num (nat_le v.next u) + live (Grants u) v.grants ≤ 1 → Contains gs (grant_to u c)
    → Granting sh u d u l o → MarksOf sh gs c d u l v → MarksOf sh gs c d u l (after_move (grant_taken v k) o d)
unfolding marks_of
granted-here d u l k v o i one mine y h = record {
  owner = λ x. mine;
  words = omega (arith, live-sends);
  fresh = λ x. absurd (omega (arith, live-takes (Grants u) v.grants k (TidGrant u) i, is_mine));
  skipped = λ dl x. none;
  held = λ a dl x. omega (arith, none, (y.kept dl x).1);
}
  where
    none : live (MarkOf u l) (v.out ++ sent_all (o.sends (Dir d))) + num (v.dir.serving.serving == u && has_mark v.dir.lines l) ≡ 0
    none =
        omega (arith, h.fresh (omega (arith, live-takes (Grants u) v.grants k (TidGrant u) i, is_mine)), live-sends)

pub marks-granted : (sh : Shape) (gs : List Grant) (c d t l k u : ℕ) (v : Pair) (o : Out)
    → slice_index_or v.grants k None ≡ Some (TidGrant u) → num (nat_le v.next u) + live (Grants u) v.grants ≤ 1 → Contains gs (grant_to u c)
    → ((x : ℕ) → Granting sh u d x l o) → ((x : ℕ) → MarksOf sh gs c d x l v) → MarksOf sh gs c d t l (after_move (grant_taken v k) o d)
unfolding marks_of
marks-granted sh gs c d t l k u v o i one mine y h = elim (cases_eq u t) [
  | inl e ↦ subst (λ x. MarksOf sh gs c d x l (after_move (grant_taken v k) o d)) e (granted-here d u l k v o i one mine (y u) (h u))
  | inr n ↦ record {
    owner =
        λ x. (h t).owner (omega (arith, (y t).owned n, live-sends));
    words = omega (arith, live-sends, (y t).words, (h t).words);
    fresh = λ x. omega (
      arith,
      (h t).fresh (omega (arith, live-takes (Grants t) v.grants k (TidGrant u) i, not_mine)),
      (y t).marks,
      live-sends,
    );
    skipped = λ dl x. omega (arith, (h t).skipped dl (omega (arith, no-skips, live-sends)), (y t).marks, live-sends);
    held = λ a dl x. absurd (n ((y t).kept dl x).0);
  }
]
  where
    no-skips : u ≢ t → among (Skips t) (o.sends (Dir d)) ≡ 0
    no-skips n = omega (arith, (y t).owned n, (few t l (o.sends (Dir d))).3)

-- a directory answers
is-skip : (u : ℕ) → num (passes (Skips u) (Skip u)) ≡ 1
unfolding passes
is-skip u = grind nats

pub is-mark : (t a b : ℕ) → num (passes (MarkOf t a) (Mark a b t)) ≡ 1
unfolding passes
is-mark t a b = grind nats

-- none of the Marks of a line before, so none after
pub falls : {s new : DirState} {m : Msg} (t l x y : ℕ) → Marked s m new → y + num (passes (MarkOf t l) m) ≡ x
    → (m ≡ Skip s.serving.serving → has_mark s.lines l ≡ false) → x + num (s.serving.serving == t && has_mark s.lines l) ≡ 0
    → y + num (new.serving.serving == t && has_mark new.lines l) ≡ 0
falls {m} t l x y h q k z =
    omega (arith, marks-grow (nat_lt 0) t l (num (passes (MarkOf t l) m)) refl h k (λ i e r. rw e (omega (arith, is-mark))))

-- a line of which one Mark was sent at most, b, by a TID that isn't passed
pub holds : {s new : DirState} {m : Msg} (t l : ℕ) {x : ℕ} (y : ℕ) {b : ℕ} → Marked s m new → y + num (passes (MarkOf t l) m) ≡ x
    → (m ≡ Skip s.serving.serving → has_mark s.lines l ≡ false) → passes EmptyMarks m ≡ false → b ≤ 1 → (1 ≤ b → new.serving.serving ≤ t)
    → x + num (s.serving.serving == t && has_mark s.lines l) ≡ b → y + num (new.serving.serving == t && has_mark new.lines l) ≡ b
holds {s} {new} {m} t l y {b} h q k nonempty once reached z = go (marks-count s t l h k nonempty) (cases_lt 0 b)
  where
    go : (num (new.serving.serving == t && has_mark new.lines l) ≡ num (s.serving.serving == t && has_mark s.lines l) + num
        (passes (MarkOf t l) m))
        ⊎ ((t < new.serving.serving) ⊎ ((num (new.serving.serving == t && has_mark new.lines l) ≡ 1) × (num (passes (MarkOf t l) m) ≡ 1)))
        → (0 < b) ⊎ (b ≤ 0) → y + num (new.serving.serving == t && has_mark new.lines l) ≡ b
    go (inl e) o = omega arith
    go (inr (inr e)) o = omega arith
    go (inr (inl e)) (inl o) = absurd (omega (arith, reached))
    go (inr (inl e)) (inr o) = let r : (new.serving.serving == t) ≡ false = grind nats in rw r (omega arith)

-- a line is marked by a core only where its TID is open
marked-opens : (sh : Shape) (s : CoreState) (d t l : ℕ) → has_tid s.phase t ≡ true → 1 ≤ marked_by sh s d l
    → opens s.phase (writes_at sh s.cache d) t ≡ true
unfolding marked_by has_marked has_tid opens
marked-opens sh s d t l h m = grind (nats, stores-writes)

-- what a directory's answer does to a pair: what is in flight to it is what was, but for m perhaps
marks-answered : {sh : Shape} {gs : List Grant} {j d t l : ℕ} {v : Pair} (m : Msg) (s : DirState) (ms : List Msg) (k : Link)
    → Marked v.dir m s → ((x : Kind) → live x k ≤ live x v.out)
    → ((Contains gs (grant_to t j)) ⊎ (1 ≤ num (nat_le v.next t))
    → live (MarkOf t l) k + num (passes (MarkOf t l) m) ≡ live (MarkOf t l) v.out)
    → (m ≡ Skip v.dir.serving.serving → has_mark v.dir.lines l ≡ false)
    → (1 ≤ live (Grants t) v.grants + num (has_tid v.core.phase t) → Contains gs (grant_to t j))
    → (j < sh.cores → d < sh.dirs → opens v.core.phase (writes_at sh v.core.cache d) t ≡ true → s.serving.serving ≤ t)
    → passes EmptyMarks m ≡ false → MarksOf sh gs j d t l v → MarksOf sh gs j d t l (after_answer (record v { out = k }) s ms)
unfolding marks_of
marks-answered {sh} {gs} {j} {d} {t} {l} {v} m s ms k y less eqn skip has reached nonempty h = record {
  owner = λ x. h.owner (omega (arith, less));
  words = omega (arith, less);
  fresh = λ x. falls t l (live (MarkOf t l) v.out) (live (MarkOf t l) k) y (eqn (young x (cases_lt 0 (num (nat_le v.next t)))))
      skip (h.fresh x);
  skipped = λ dl x. falls t l (live (MarkOf t l) v.out) (live (MarkOf t l) k) y
      (eqn (inl (h.owner (omega (arith, less, (kinds t l v.out).1))))) skip (h.skipped dl (omega (arith, less)));
  held = λ a dl x. holds t l (live (MarkOf t l) k) y
      (eqn (inl (has (mine x)))) skip nonempty (at-most-one sh v.core d l) (λ z. reached a dl (marked-opens sh v.core d t l x z))
      (h.held a dl x);
}
  where
    young : 1 ≤ num (nat_le v.next t) + live (Grants t) v.grants → (0 < num (nat_le v.next t)) ⊎ (num (nat_le v.next t) ≤ 0)
        → (Contains gs (grant_to t j)) ⊎ (1 ≤ num (nat_le v.next t))
    young x (inl z) = inr (omega arith)
    young x (inr z) = inl (has (omega arith))

    mine : has_tid v.core.phase t ≡ true → 1 ≤ live (Grants t) v.grants + num (has_tid v.core.phase t)
    mine x = let n : num (has_tid v.core.phase t) ≡ 1 = ap num x in omega arith

-- the vendor grants
marks-given : (sh : Shape) (gs hs : List Grant) (c d t l k : ℕ) (g : Gift) (v : Pair) → MarksOf sh gs c d t l v
    → MarksOf sh (gs ++ hs) c d t l (after_gift v k g)
unfolding marks_of
marks-given sh gs hs c d t l k g v h = record {
  owner = λ x. Contains-append_left gs hs (grant_to t c) (h.owner x);
  words = h.words;
  fresh = λ x. h.fresh (omega (arith, live-sends, gift-counts g v.next t));
  skipped = h.skipped;
  held = h.held;
}

marks-next : (sh : Shape) (gs hs : List Grant) (c d t l : ℕ) (g : Gift) (v : Pair) → MarksOf sh gs c d t l v
    → MarksOf sh (gs ++ hs) c d t l (after_other_gift v g)
unfolding marks_of
marks-next sh gs hs c d t l g v h = record {
  owner = λ x. Contains-append_left gs hs (grant_to t c) (h.owner x);
  words = h.words;
  fresh = λ x. h.fresh (omega (arith, gift-counts g v.next t));
  skipped = h.skipped;
  held = h.held;
}

-- what else is known of a TID that a core has
has-alone : {sh : Shape} {gs : List Grant} {w : World} {cs : List Noted} (c t : ℕ) → KeptOwners sh gs w cs → c < sh.cores
    → has_tid (w.cores c).phase t ≡ true → num (nat_le w.next t) + live (Grants t) (w.net Vendor (Core c)) ≡ 0
unfolding share holder pair
has-alone {sh} {w} c t k l h = let n : num (has_tid (w.cores c).phase t) ≡ 1 = ap num h in
    omega (arith, k.once t, total-le (share (holder t) w 0) sh.cores c l)

pub is-granted : {sh : Shape} {gs : List Grant} {w : World} {cs : List Noted} (c t : ℕ) → KeptOwners sh gs w cs
    → 1 ≤ live (Grants t) (w.net Vendor (Core c)) + num (has_tid (w.cores c).phase t) → Contains gs (grant_to t c)
unfolding holder pair
is-granted c t k l = k.held c 0 t l

pub has-granted : {sh : Shape} {gs : List Grant} {w : World} {cs : List Noted} (c t : ℕ) → KeptOwners sh gs w cs
    → has_tid (w.cores c).phase t ≡ true → Contains gs (grant_to t c)
has-granted {w} c t k h = let n : num (has_tid (w.cores c).phase t) ≡ 1 = ap num h in is-granted c t k (omega arith)

pub open-untold : {sh : Shape} {w : World} (c d t : ℕ) → KeptTids sh w → c < sh.cores → d < sh.dirs
    → opens (w.cores c).phase (writes_at sh (w.cores c).cache d) t ≡ true → live (Resolves t) (to_dir w c d) ≡ 0
unfolding share part pair
open-untold {sh} {w} c d t k l x h = let n : num (opens (w.cores c).phase (writes_at sh (w.cores c).cache d) t) ≡ 1 = ap num h in
    omega (arith, k.resolved d t x, total-le (share (part sh d t) w d) sh.cores c l)

open-ahead : {sh : Shape} {w : World} (c d t : ℕ) → KeptTids sh w → c < sh.cores → d < sh.dirs
    → opens (w.cores c).phase (writes_at sh (w.cores c).cache d) t ≡ true → tid_at w d ≤ t
unfolding share part pair handled
open-ahead {sh} {w} c d t k l x h = elim (cases_lt t (tid_at w d)) [
  | inr q ↦ q
  | inl q ↦ let n : num (opens (w.cores c).phase (writes_at sh (w.cores c).cache d) t) ≡ 1 = ap num h in
      let b : num (nat_lt t (tid_at w d)) ≡ 1 = grind nats in
      absurd (omega (arith, k.resolved d t x, total-le (share (part sh d t) w d) sh.cores c l))
]

pub taken-less : (k : ℕ) (x : Kind) (l : Link) {m : Msg} → slice_index_or l k None ≡ Some m → live x (slice_set l k None) ≤ live x l
taken-less k x l {m} i = omega (arith, live-takes x l k m i)

pub empty-one : (l : Link) (k : ℕ) {m : Msg} → slice_index_or l k None ≡ Some m → live EmptyMarks l ≡ 0 → passes EmptyMarks m ≡ false
empty-one l k i z = none-taken EmptyMarks l k i z

is-resolve : (t : ℕ) (m : Msg) → num (passes (Skips t) m) ≤ num (passes AnyResolve m)
unfolding passes
is-resolve t m = grind nats

inside-dirs : (sh : Shape) (w : World) (c d k u : ℕ) → KeptTold sh w → FromCore w c d k (Skip u) → d < sh.dirs
unfolding pair
inside-dirs sh w c d k u z i = elim (cases_lt d sh.dirs) [
  | inl l ↦ l
  | inr l ↦ absurd (omega (
    arith,
    (z.owed.at_home c d).far l,
    live-some AnyResolve (to_dir w c d) k (Skip u) i,
    is-resolve u (Skip u),
    is-skip u,
  ))
]

unmarked-of : (s : DirState) (l x : ℕ) → x + num (s.serving.serving == s.serving.serving && has_mark s.lines l) ≡ 0
    → has_mark s.lines l ≡ false
unmarked-of s l x z = grind nats

-- where the served TID is skipped, nothing is marked
pub skip-unmarked : {sh : Shape} {gs : List Grant} {w : World} (c d k : ℕ) {m : Msg} (l : ℕ) → KeptTold sh w → KeptMarks sh gs w
    → FromCore w c d k m → m ≡ Skip (tid_at w d) → has_mark (w.dirs d).lines l ≡ false
unfolding marks_of pair
skip-unmarked {sh} {w} c d k l z h i e =
    let u : ℕ = tid_at w d in
    let j : FromCore w c d k (Skip u) = i ∙ ap (λ y. Some y) e in
    unmarked-of (w.dirs d) l (live (MarkOf u l) (to_dir w c d)) ((h c d u l).skipped (inside-dirs sh w c d k u z j)
    (omega (arith, live-some (Skips u) (to_dir w c d) k (Skip u) j, is-skip)))

-- a Mark of a TID comes from one core, to which the TID was granted
pub only-there : {sh : Shape} {gs : List Grant} {w : World} {cs : List Noted} (c j d k t l : ℕ) {m : Msg} → KeptOwners sh gs w cs
    → KeptMarks sh gs w → FromCore w c d k m → j ≢ c → (Contains gs (grant_to t j)) ⊎ (1 ≤ num (nat_le w.next t))
    → live (MarkOf t l) (to_dir w j d) + num (passes (MarkOf t l) m) ≡ live (MarkOf t l) (to_dir w j d)
unfolding marks_of pair
only-there {gs} {w} c j d k t l {m} y h i n q =
    elim (tested (passes (MarkOf t l) m)) [ inl p ↦ absurd (not (some p) q) | inr p ↦ rw p (omega arith) ]
  where
    some : passes (MarkOf t l) m ≡ true → 1 ≤ live (MarkOf t l) (to_dir w c d)
    some p = let o : num (passes (MarkOf t l) m) ≡ 1 = ap num p in omega (arith, live-some (MarkOf t l) (to_dir w c d) k m i)

    not : 1 ≤ live (MarkOf t l) (to_dir w c d) → (Contains gs (grant_to t j)) ⊎ (1 ≤ num (nat_le w.next t)) → ⊥
    not x (inl a) = n (granted-once 1 gs t j c y.numbered a ((h c d t l).owner (omega (arith, (kinds t l (to_dir w c d)).0))))
    not x (inr b) = omega (arith, (h c d t l).fresh (omega arith))

dir-marks : {sh : Shape} {gs : List Grant} {w : World} {cs : List Noted} (c d k : ℕ) {m : Msg} (s : DirState) (sends : Sends)
    → KeptTold sh w → KeptOwners sh gs w cs → KeptMarks sh gs w → KeptTold sh (dir_takes w c d k s sends) → FromCore w c d k m
    → Marked (w.dirs d) m s → KeptMarks sh gs (dir_takes w c d k s sends)
unfolding dir_takes pair
dir-marks {sh} {gs} {w} c d k {m} s sends a y h z i u = pairs_dir (λ j e v. (t l : ℕ) → MarksOf sh gs j e t l v) w c d k s sends
    (λ t l. marks-answered m s (sends (Core c)) (set (to_dir w c d) k None) u
    (λ x. taken-less k x (to_dir w c d) i) (λ q. live-takes (MarkOf t l) (to_dir w c d) k m i) (skip l)
    (is-granted c t y) (reached c t) nonempty (h c d t l))
    (λ j n t l. marks-answered m s (sends (Core j)) (to_dir w j d) u (λ x. omega arith)
    (only-there c j d k t l y h i n) (skip l) (is-granted j t y) (reached j t) nonempty (h j d t l)) h
  where
    v : World
    v = dir_takes w c d k s sends

    skip : (l : ℕ) → m ≡ Skip (tid_at w d) → has_mark (w.dirs d).lines l ≡ false
    skip l = skip-unmarked c d k l a h i

    nonempty : passes EmptyMarks m ≡ false
    nonempty = empty-one (to_dir w c d) k i (h c d 0 0).words

    reached : (j t : ℕ) → j < sh.cores → d < sh.dirs → opens (w.cores j).phase (writes_at sh (w.cores j).cache d) t ≡ true
        → s.serving.serving ≤ t
    reached j t x l o = rw (tid_at, eq-self d) at (open-ahead j d t z.tids x l o)

pub no-request : (t l : ℕ) → passes (MarkOf t l) TidReq ≡ false
unfolding passes
no-request t l = refl

pub no-empty : passes EmptyMarks TidReq ≡ false
unfolding passes
no-empty = refl

asks-marks : {sh : Shape} {gs : List Grant} (w : World) {cs : List Noted} (d : ℕ) (s : DirState) (sends : Sends) → KeptOwners sh gs w cs
    → KeptMarks sh gs w → KeptTold sh (dir_asks w d s sends)
    → (s.serving.serving ≡ tid_at w d) × ((l : ℕ) → s.lines.mark l ≡ (w.dirs d).lines.mark l) → KeptMarks sh gs (dir_asks w d s sends)
unfolding dir_asks pair
asks-marks {sh} {gs} w d s sends y h z u = pairs_asks (λ j e v. (t l : ℕ) → MarksOf sh gs j e t l v) w d s sends
    (λ j t l. marks-answered TidReq s (sends (Core j)) (to_dir w j d)
    (Stays u.0 u.1 (λ a b q. let e = no-request a b in absurd (cc))) (λ x. omega arith) (λ q. rw (no-request t l) (omega arith))
    (λ e. absurd (cc)) (is-granted j t y) (reached j t) no-empty (h j d t l)) h
  where
    v : World
    v = dir_asks w d s sends

    reached : (j t : ℕ) → j < sh.cores → d < sh.dirs → opens (w.cores j).phase (writes_at sh (w.cores j).cache d) t ≡ true
        → s.serving.serving ≤ t
    reached j t x l o = rw (tid_at, eq-self d) at (open-ahead j d t z.tids x l o)

pub taken-back : {sh : Shape} {gs : List Grant} (w : World) {c d : ℕ} (k : ℕ) {t l : ℕ} → MarksOf sh gs c d t l (pair w c d)
    → MarksOf sh gs c d t l (back_taken (pair w c d) k)
unfolding marks_of
taken-back w k h = record { owner = h.owner; words = h.words; fresh = h.fresh; skipped = h.skipped; held = h.held }

pub step-marks : {sh : Shape} (p : Program) {gs : List Grant} {w : World} {cs : List Noted} (e : Event) → Kept sh w → KeptOwners sh gs w cs
    → KeptMarks sh gs w → IfSome (step sh p w e) (λ o. KeptTold sh o.world → KeptMarks sh (gs ++ granted_by w e) o.world)
unfolding pair
step-marks {sh} p {gs} {w} e z y h = step_cases sh p w e (λ g o. KeptTold sh o.world → KeptMarks sh (gs ++ g) o.world)
    (λ c o eq x. moved c x o (λ d t l. got _ eq (marking-exec sh p c d t l (w.cores c))))
    (λ c a b o eq x. moved c x o (λ d t l. got _ eq (marking-evict sh a b d t l (w.cores c)))) (λ c k u i n. rw append-nil
    (pairs_grant P w c k (grant sh u (w.cores c)) (λ d t l. marks-granted sh gs c d t l k u (pair w c d) (grant sh u (w.cores c)) i
    (grant-alone c u y (core_of_grant c k z.told.tids i)) (is-granted c u y (came c k u i))
    (λ x. granting sh u d x l (w.cores c) (granted_waits (pair w c d) k i (z.told.tids.requests c d))) (λ x. h c d x l)) h))
    (λ c d k m o eq i. taken c d k (core_of_back c d k z.told.tids i) o (λ b t l. got _ eq (marking-back sh d b t l (w.cores c) m)))
    (λ c d k m i. answered c d k i (dir_deliver sh (w.dirs d) c m) (dir-marked sh (w.dirs d) c m))
    (λ c k a i n. pairs_vendor (Q a c) w c k a (λ d t l. marks-given sh gs (new a c) c d t l k (gift a) (pair w c d) (h c d t l))
    (λ j d n t l. marks-next sh gs (new a c) j d t l (gift a) (pair w j d) (h j d t l)))
  where
    P : ℕ → ℕ → Pair → Type 0
    P c d v = (t l : ℕ) → MarksOf sh gs c d t l v

    new : Ask → ℕ → List Grant
    new a c = gift_grants (gift a) w.next c

    Q : Ask → ℕ → ℕ → ℕ → Pair → Type 0
    Q a x c d v = (t l : ℕ) → MarksOf sh (gs ++ new a x) c d t l v

    came : (c k u : ℕ) → in_flight w.net Vendor (Core c) k ≡ Some (TidGrant u)
        → 1 ≤ live (Grants u) (w.net Vendor (Core c)) + num (has_tid (w.cores c).phase u)
    came c k u i = omega (arith, live-some (Grants u) (w.net Vendor (Core c)) k (TidGrant u) i, is_mine)

    own : {c d t l : ℕ} {o : Out} → c < sh.cores → Marking sh d t l (w.cores c) o → MarksOf sh gs c d t l (pair w c d)
        → MarksOf sh gs c d t l (after_move (pair w c d) o d)
    own {c} {d} {t} x a b = marks-moved a x (has-alone c t y x) (has-granted c t y) (open-untold c d t z.told.tids x) b

    moved : (c : ℕ) → c < sh.cores → (o : Out) → ((d t l : ℕ) → Marking sh d t l (w.cores c) o) → KeptTold sh (core_moves w c o)
        → KeptMarks sh (gs ++ []) (core_moves w c o)
    moved c a o u = λ n. rw append-nil (pairs_move P w c o (λ d t l. own a (u d t l) (h c d t l)) h)

    -- what came from the directory counts for nothing here
    back : (c d k : ℕ) (o : Out) → c < sh.cores → (t l : ℕ) → Marking sh d t l (w.cores c) o
        → MarksOf sh gs c d t l (after_move (back_taken (pair w c d) k) o d)
    back c d k o x t l a = marks-moved a x (has-alone c t y x)
        (has-granted c t y) (open-untold c d t z.told.tids x) (taken-back w k (h c d t l))

    taken : (c d k : ℕ) → c < sh.cores → (o : Out) → ((b t l : ℕ) → Marking sh b t l (w.cores c) o)
        → KeptTold sh (core_takes w (Dir d) c k o) → KeptMarks sh (gs ++ []) (core_takes w (Dir d) c k o)
    taken c d k a o u = λ n. rw append-nil (pairs_back P w d c k o (λ t l. back c d k o a t l (u d t l))
        (λ b q t l. own a (u b t l) (h c b t l)) h)

    answered : (c d k : ℕ) {m : Msg} → FromCore w c d k m → (a : Answer) → MarkedBy (w.dirs d) m a
        → OfAnswer w c d k (λ v. KeptTold sh v → KeptMarks sh (gs ++ []) v) a
    answered c d k i Waits u = tt
    answered c d k i Drops u = λ n. rw append-nil (dir-marks c d k (w.dirs d) nothing z.told y h n i (Stays refl (λ l. refl) u))
    answered c d k i (Asks s sends) u = λ n. rw append-nil (asks-marks w d s sends y h n u)
    answered c d k i (Takes s sends) u = λ n. rw append-nil (dir-marks c d k s sends z.told y h n i u)

pub start-marks : (sh : Shape) (entries : ℕ → Local) (ram : ℕ → ℕ) → KeptMarks sh [] (start entries ram)
unfolding start core_start dir_start no_lines pair live marks_of has_tid
start-marks sh entries ram c d t l = record {
  owner = λ x. absurd (omega arith);
  words = refl;
  fresh = λ x. grind arith;
  skipped = λ dl x. absurd (omega arith);
  held = λ a dl x. absurd (cc);
}
