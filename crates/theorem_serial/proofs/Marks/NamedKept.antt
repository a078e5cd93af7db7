-- Every event keeps that invalidations in flight name marked lines with their masks, once each.
use Rattle.theorem_serial.proofs
use proofs.Names.{got, eq-self, Contains-append_cases, flat_map-append, SparesCommitter, is_invalidated, if◌then◌else◌, invalidations}
use proofs.Names.{after_answer, dir_deliver, KeptCounted, grant_taken, ProbeReply, core_moves, core_takes, after_move, back_taken}
use proofs.Names.{append-nil, granted_by, home_words, CoreState, dir_takes, KeptNamed, out_taken, flat_map, cases_eq, has_mark, DirState}
use proofs.Names.{from_dir, InvsAway, Resolves, cases_lt, KeptTold, Contains, DataReq, invs_to, InvMask, Program, NamedOf, handled, IfSome}
use proofs.Names.{nat_lt, InvAck, Answer, passes, MarkOf, false, arith, those, Lines, Shape, lines, Waits, Drops, Takes, InvOf, AckOf}
use proofs.Names.{among, subst, Local, Event, World, start, Sends, grant, share, Grant, zero, Bool, true, List, ◌==◌, ◌&&◌, Some, None}
use proofs.Names.{refl, Core, Fill, Mark, home, Link, Asks, Invs, Acks, live, step, Pair, pair, Kept, ◌++◌, suc, ◌+◌, ◌≡◌, ◌≤◌, ◌∷◌, ◌⊎◌}
use proofs.Names.{inl, inr, num, Dir, Msg, Inv, Out, ◌<◌, set, sym, ◌∙◌, due, Any, [], ap, ℕ, nats, tid_at, to_dir, to_core, FromCore}
use proofs.Names.{FromDir, grant_to, ◌≢◌}
use proofs.Counts.{Outcome, Waiting, Spent, AsksOwner, TakesProbe, TakesLoad, TakesCommit, outcome, none-to, among-none, among-append}
use proofs.Counts.{among-flat_map_none, live-sends, live-takes, total-le, live-fewer, none-taken, among-fewer, dir-own, dir-other}
use proofs.Counts.{pairs_move, pairs_grant, pairs_back, pairs_dir, pairs_asks, pairs_vendor, OfAnswer, step_cases, asks-own}
use proofs.Marks.DirRecords.{Marked, Stays, Clears, Skipped, Marks as IsMarked, MarkedBy, dir-marked, CountsMarked, OwesBy, dir-owes}
use proofs.Marks.MarksKept.{taken-less, is-mark}
use proofs.OneCore.{fill-steady, data-steady, Invalidated, invalidate-cases, reply-cases}
use proofs.Serving.{Clean, clean-hurt, clean-replied, clean-steady, CleanOut, clean-exec, clean-evict, clean-grant, Due, DueBy, dir-due}
use proofs.Serving.{still-due, none-quiet, Quiet, core_of_out, once_at, marks_home, acks_owed, BackDue, back-due}
use proofs.Tids.{unserved, live-some}
use proofs.Counts.{Ask, gift, gift_grants, gift-is}

-- What nodes send of invalidations and acknowledgements, line by line.

-- kinds, line by line
line-kinds : (l m : ℕ) (x : Msg) → (num (passes (InvOf l) x) ≤ num (passes Invs x)) × (num (passes (InvMask l m) x) ≤ num (passes Invs x))
    × (num (passes (AckOf l) x) ≤ num (passes Acks x))
unfolding passes
line-kinds l m x = (grind nats, grind nats, grind nats)

pub lines-live : (l m : ℕ) (k : Link) → (live (InvOf l) k ≤ live Invs k) × (live (InvMask l m) k ≤ live Invs k)
    × (live (AckOf l) k ≤ live Acks k)
lines-live l m k = (
  live-fewer (InvOf l) Invs (λ x. (line-kinds l m x).0) k,
  live-fewer (InvMask l m) Invs (λ x. (line-kinds l m x).1) k,
  live-fewer (AckOf l) Acks (λ x. (line-kinds l m x).2) k,
)

pub lines-among : (l m : ℕ) (k : List Msg) → (among (InvOf l) k ≤ among Invs k) × (among (InvMask l m) k ≤ among Invs k)
    × (among (AckOf l) k ≤ among Acks k)
lines-among l m k = (
  among-fewer (InvOf l) Invs (λ x. (line-kinds l m x).0) k,
  among-fewer (InvMask l m) Invs (λ x. (line-kinds l m x).1) k,
  among-fewer (AckOf l) Acks (λ x. (line-kinds l m x).2) k,
)

-- a core acknowledges the line of an invalidation, to the directory that it came from
acks-of : {sh : Shape} (k l d : ℕ) (s : CoreState) {o : Out} → Invalidated sh k s o
    → among (AckOf l) (o.sends (Dir d)) ≤ num ((d == home sh k) && (k == l))
unfolding among passes
acks-of {sh} k l d s i =
    rw (i.dirs d) (omega (arith, among-append, (clean-hurt sh d i.hurt).acks, (lines-among l 0 (i.sends (Dir d))).2, one))
  where
    one : (b : Bool) → among (AckOf l) (if b then InvAck k i.kept ∷ [] else []) ≤ num (b && (k == l))
    one true = omega arith
    one false = omega arith

at-home : (sh : Shape) (e k m u : ℕ) → passes (InvsAway sh.dirs e) (Inv k m u) ≡ false → home sh k ≡ e
unfolding passes
at-home sh e k m u h = grind nats

none-of : (l : ℕ) {d : ℕ} {sh : Shape} {ms : List Msg} (n : ℕ) → Clean sh d ms → among (AckOf l) ms ≤ n
none-of l {ms} n c = omega (arith, (lines-among l 0 ms).2)

pub acks-line : (sh : Shape) (e d l : ℕ) (s : CoreState) (m : Msg) → passes (InvsAway sh.dirs e) m ≡ false
    → IfSome (from_dir sh e s m) (λ o. among (AckOf l) (o.sends (Dir d)) ≤ num ((d == e) && passes (InvOf l) m))
unfolding passes
acks-line sh e d l s (ProbeReply u v) h = none-of l _ (clean-replied sh (reply-cases sh e u s) d)
acks-line sh e d l s (Fill k ws) h = none-of l _ (clean-steady sh (fill-steady k ws s) d)
acks-line sh e d l s (DataReq k) h = none-of l _ (clean-steady sh (data-steady sh k s) d)
acks-line sh e d l s (Inv k m u) h = let q : home sh k ≡ e = at-home sh e k m u h in
    rw (← q) (acks-of k l d s (invalidate-cases sh k m u s))
acks-line sh e d l s _ h = tt

-- a directory invalidates marked lines, once each and with their masks, where it takes a Commit, and else none
one-inv : (p : ℕ → Bool) (f : ℕ → ℕ) (u l n : ℕ) → among (InvOf l) (flat_map (λ k. Inv k (f k) u ∷ []) (those p n)) ≤ num (p l)
unfolding among passes those
one-inv p f u l n = exact n (one n)
  where
    exact : (n : ℕ) → among (InvOf l) (flat_map (λ k. Inv k (f k) u ∷ []) (those p n)) ≡ num (nat_lt l n && p l)
        → among (InvOf l) (flat_map (λ k. Inv k (f k) u ∷ []) (those p n)) ≤ num (p l)
    exact n e = let z : num (nat_lt l n && p l) ≤ num (p l) = grind nats in omega arith

    one : (n : ℕ) → among (InvOf l) (flat_map (λ k. Inv k (f k) u ∷ []) (those p n)) ≡ num (nat_lt l n && p l)
    one zero = grind nats
    one (suc n) = rw (flat_map-append, among-append, one n) (go (p n) refl)
      where
        go : (b : Bool) → p n ≡ b
            → num (nat_lt l n && p l) + among (InvOf l) (flat_map (λ k. Inv k (f k) u ∷ []) (if b then n ∷ [] else [])) ≡ num
            (nat_lt l (suc n) && p l)
        go b q = grind nats

own-mask : (f : ℕ → ℕ) (u l k : ℕ) → num (passes (InvMask l (f l)) (Inv k (f k) u)) ≡ 0
unfolding passes
own-mask f u l k = elim (cases_eq k l) [ inl e ↦ rw e (grind nats) | inr n ↦ grind nats ]

-- what is sent to core j
abbrev pub Names : Lines → List Msg → Type 0
Names ls ms = (l : ℕ) → (among (InvOf l) ms ≤ num (has_mark ls l)) × (among (InvMask l (ls.mark l)) ms ≡ 0)

names-invs : (sh : Shape) (ls : Lines) (c u j : ℕ) → Names ls (invalidations sh ls c u (Core j))
unfolding invalidations invs_to among is_invalidated
names-invs sh ls c u j l =
    let marked : num (is_invalidated sh ls c j l) ≤ num (has_mark ls l) = grind arith in (
      omega (arith, one-inv (is_invalidated sh ls c j) ls.mark u l (lines sh)),
      among-flat_map_none (InvMask l (ls.mark l))
          (λ k. Inv k (ls.mark k) u ∷ []) (λ k. omega (arith, own-mask ls.mark u l k)) (those (is_invalidated sh ls c j) (lines sh)),
    )

abbrev pub NamesBy : DirState → Msg → Answer → Type 0
NamesBy s m (Asks new sends) = Quiet sends
NamesBy s m (Takes new sends) = Quiet sends ⊎ ((passes (Resolves s.serving.serving) m ≡ true) × ((j : ℕ) → Names s.lines (sends (Core j))))
NamesBy s m _ = Unit {0}

dir-names : (sh : Shape) (s : DirState) (c : ℕ) (m : Msg) → NamesBy s m (dir_deliver sh s c m)
unfolding passes
dir-names sh s c m = go (outcome sh s c m)
  where
    go : {m : Msg} {a : Answer} → Outcome sh s c m a → NamesBy s m a
    go (Waiting m) = tt
    go (Spent m i) = tt
    go (AsksOwner m l o w e) = λ j. none-to Invs o j (DataReq l) refl
    go (TakesProbe t h) = inl (λ j. none-to Invs c j (ProbeReply t s.serving.serving) refl)
    go (TakesLoad l k h e o) = inl (λ j. none-to Invs c j (Fill l (home_words s l)) refl)
    go (TakesCommit b e) = inr (eq-self s.serving.serving, names-invs sh s.lines c s.serving.serving)
    go _ = inl (λ j. among-none Invs)

-- a core moves: so many acknowledgements as invalidations that it took
named-moved : {l : ℕ} (d got : ℕ) {v : Pair} (o : Out) (k : Link) → among (AckOf l) (o.sends (Dir d)) ≤ got
    → live (InvOf l) k + got ≤ live (InvOf l) v.back
    → live (InvMask l (v.dir.lines.mark l)) k ≤ live (InvMask l (v.dir.lines.mark l)) v.back → NamedOf l v
    → NamedOf l (after_move (record v { back = k }) o d)
named-moved {l} d got {v} o k a b m h = record {
  one = omega (arith, live-sends);
  mask = omega arith;
}

named-clean : {l d : ℕ} {sh : Shape} (v : Pair) (o : Out) → Clean sh d (o.sends (Dir d)) → NamedOf l v → NamedOf l (after_move v o d)
named-clean {l} {d} v o c h = named-moved d 0 o v.back (omega (arith, (lines-among l 0 (o.sends (Dir d))).2)) (omega arith)
    (omega arith) h

named-granted : (l d k : ℕ) {sh : Shape} {v : Pair} (o : Out) → Clean sh d (o.sends (Dir d)) → NamedOf l v
    → NamedOf l (after_move (grant_taken v k) o d)
named-granted l d k {v} o c h = named-clean (grant_taken v k) o c (record { one = h.one; mask = h.mask })

-- a directory answers

-- nothing is in flight any more
named-none : (l : ℕ) (v : Pair) → live Invs v.back ≡ 0 → live Acks v.out ≡ 0 → NamedOf l v
named-none l v a b = let r = lines-live l (v.dir.lines.mark l) v.back in let s = lines-live l 0 v.out in record {
  one = omega arith;
  mask = omega arith;
}

has-same : {a b : ℕ} → a ≡ b → num (nat_lt 0 a) ≡ num (nat_lt 0 b)
has-same e = rw e

-- the marks stay, and no invalidation goes out
named-quiet : {l : ℕ} {v : Pair} (s : DirState) (ms : List Msg) (k : Link) → s.lines.mark l ≡ v.dir.lines.mark l → among Invs ms ≡ 0
    → live (AckOf l) k ≤ live (AckOf l) v.out → NamedOf l v → NamedOf l (after_answer (record v { out = k }) s ms)
named-quiet {l} {v} s ms k e q a h = record {
  one = omega (arith, (lines-among l 0 ms).0, live-sends, has-same e);
  mask = rw e (omega (arith, (lines-among l (v.dir.lines.mark l) ms).1, live-sends));
}

-- the marks stay, and the first invalidations go out
named-first : (l : ℕ) (v : Pair) (s : DirState) (ms : List Msg) (k : Link) → s.lines.mark l ≡ v.dir.lines.mark l → Names v.dir.lines ms
    → live Invs v.back ≡ 0 → live Acks k ≡ 0 → NamedOf l (after_answer (record v { out = k }) s ms)
named-first l v s ms k e n a b = record {
  one =
      omega (arith, (n l).0, (lines-live l 0 v.back).0, (lines-live l 0 k).2, live-sends, has-same e);
  mask =
      rw e (omega (arith, (n l).1, (lines-live l (v.dir.lines.mark l) v.back).1, live-sends));
}

-- a directory that is owed nothing has nothing in flight
none-due : {sh : Shape} {w : World} (j d : ℕ) → KeptTold sh w → j < sh.cores → (pair w j d).dir.owed ≡ 0
    → live Invs (pair w j d).back + live Acks (pair w j d).out ≡ 0
unfolding share due pair
none-due {sh} {w} j d k l z = omega (arith, k.owed.owed d, total-le (share due w d) sh.cores j l)

no-commit-mark : (sh : Shape) (s : DirState) (l k t : ℕ) → CountsMarked sh s (Mark l k t) → ⊥
no-commit-mark sh s l k t e = cc

-- while something is owed the marks stay
pub marks-same : {sh : Shape} (w : World) (c d k : ℕ) {m : Msg} {s : DirState} → KeptCounted sh w → c < sh.cores → d < sh.dirs
    → FromCore w c d k m → 1 ≤ s.owed → (s.serving.serving ≡ tid_at w d) → (s.owed ≤ (w.dirs d).owed) ⊎ CountsMarked sh (w.dirs d) m
    → Marked (w.dirs d) m s → (l : ℕ) → s.lines.mark l ≡ (w.dirs d).lines.mark l
unfolding pair
marks-same w c d k h cl dl i x e o (Stays f g p) l = g l
marks-same w c d k h cl dl i x e o (Clears f g p) l = absurd (omega arith)
marks-same w c d k h cl dl i x e o (Skipped f g) l = g l
marks-same w c d k h cl dl i x e (inl o) (IsMarked a b q g f) l =
    absurd (omega (
      arith,
      (h c d 0 cl).settled a dl (omega arith),
      live-some (MarkOf (tid_at w d) a) (to_dir w c d) k
          (Mark a b (tid_at w d)) (i ∙ ap (λ y. Some y) q),
      is-mark,
    ))
marks-same {sh} w c d k h cl dl i x e (inr o) (IsMarked a b q g f) l = absurd (no-commit-mark sh (w.dirs d) a b (tid_at w d) (sym q ∙ o))

dir-named : {sh : Shape} {w : World} (c : ℕ) {d : ℕ} (k : ℕ) {ack : ℕ} {m : Msg} {s : DirState} {sends : Sends} → KeptTold sh w
    → KeptCounted sh w → KeptNamed sh w → KeptTold sh (dir_takes w c d k s sends) → c < sh.cores → FromCore w c d k m
    → Marked (w.dirs d) m s → Due sh d (w.dirs d) ack s sends → (s.owed ≤ (w.dirs d).owed) ⊎ CountsMarked sh (w.dirs d) m
    → (((j : ℕ) → among Invs (sends (Core j)) ≡ 0) ⊎
    ((passes (Resolves (tid_at w d)) m ≡ true) × ((j : ℕ) → Names (w.dirs d).lines (sends (Core j)))))
    → KeptNamed sh (dir_takes w c d k s sends)
unfolding pair
dir-named {sh} {w} c {d} k {m} {s} {sends} b g h z cl i u p o n =
    λ j e l. pairs_dir (λ j e v. (l : ℕ) → j < sh.cores → e < sh.dirs → NamedOf l v) w c d k s sends
    (λ l jl dl. pairs c l jl dl (set (to_dir w c d) k None) (taken-less k (AckOf l) (to_dir w c d) i) (taken-less k Acks (to_dir w c d) i)
    (subst (λ v. v.dir.owed ≡ 0 → live Invs v.back + live Acks v.out ≡ 0) (dir-own w c d k s sends) (none-due c d z jl)))
    (λ j q l jl dl. pairs j l jl dl (to_dir w j d) (omega arith) (omega arith)
    (subst (λ v. v.dir.owed ≡ 0 → live Invs v.back + live Acks v.out ≡ 0) (dir-other w c d k s sends j q) (none-due j d z jl)))
    h j e l
  where
    new : World
    new = dir_takes w c d k s sends

    pairs : (j l : ℕ) → j < sh.cores → d < sh.dirs → (q : Link) → live (AckOf l) q ≤ live (AckOf l) (to_dir w j d)
        → live Acks q ≤ live Acks (to_dir w j d)
        → (s.owed ≡ 0 → live Invs (after_answer (record (pair w j d) { out = q }) s (sends (Core j))).back + live Acks q ≡ 0)
        → NamedOf l (after_answer (record (pair w j d) { out = q }) s (sends (Core j)))
    pairs j l jl dl q a f e = elim (cases_lt 0 s.owed) [
      | inl x ↦ serves (omega arith) p.served
      | inr x ↦ let t = e (omega arith) in named-none l (after_answer (record (pair w j d) { out = q }) s (sends (Core j)))
          (omega arith) (omega arith)
    ]
      where
        first : (s.serving.serving ≡ tid_at w d) → 1 ≤ s.owed
            → (((j : ℕ) → among Invs (sends (Core j)) ≡ 0)
            ⊎ ((passes (Resolves (tid_at w d)) m ≡ true) × ((j : ℕ) → Names (w.dirs d).lines (sends (Core j)))))
            → NamedOf l (after_answer (record (pair w j d) { out = q }) s (sends (Core j)))
        first r x (inl y) = named-quiet s (sends (Core j)) q (marks-same w c d k g cl dl i x r o u l) (y j) a (h j d l jl dl)
        first r x (inr y) =
            let t = none-due j d b jl (unserved (w.dirs d) m (once_at c d k b i) y.0) in
            named-first l (pair w j d) s (sends (Core j)) q (marks-same w c d k g cl dl i x r o u l) (y.1 j) (omega arith)
            (omega arith)

        serves : {B : Type 0} → 1 ≤ s.owed → ((s.serving.serving ≡ tid_at w d) × B) ⊎ (s.owed ≡ 0)
            → NamedOf l (after_answer (record (pair w j d) { out = q }) s (sends (Core j)))
        serves x (inl y) = first y.0 x n
        serves x (inr y) = absurd (omega arith)

near-back : (k e d c l : ℕ) (sh : Shape) (w : World) (m : Msg) (o : Out) → FromDir w e c k m
    → among (AckOf l) (o.sends (Dir e)) ≤ num ((e == e) && passes (InvOf l) m) → NamedOf l (pair w c e)
    → NamedOf l (after_move (back_taken (pair w c e) k) o e)
unfolding pair
near-back k e d c l sh w m o i a h = named-moved e (num (passes (InvOf l) m)) o (set (to_core w e c) k None)
    (rw (eq-self e) at a) (omega (arith, live-takes (InvOf l) (to_core w e c) k m i))
    (taken-less k (InvMask l ((w.dirs e).lines.mark l)) (to_core w e c) i) h

away-back : (e d c l : ℕ) (w : World) (m : Msg) (o : Out) → d ≢ e → among (AckOf l) (o.sends (Dir d)) ≤ num ((d == e) && passes (InvOf l) m)
    → NamedOf l (pair w c d) → NamedOf l (after_move (pair w c d) o d)
unfolding pair
away-back e d c l w m o n a h = let b : (d == e) ≡ false = grind nats in
    named-moved d 0 o (to_core w d c) (rw b at a) (omega arith) (omega arith) h

pub passed-away : {sh : Shape} {w : World} (c e k : ℕ) {m : Msg} → KeptTold sh w → FromDir w e c k m → passes (InvsAway sh.dirs e) m ≡ false
unfolding pair
passed-away {sh} {w} c e k z i = none-taken (InvsAway sh.dirs e) (to_core w e c) k i (z.owed.at_home c e).invs

pub step-named : {sh : Shape} (p : Program) {w : World} (e : Event) → Kept sh w → KeptCounted sh w → KeptNamed sh w
    → IfSome (step sh p w e) (λ o. KeptTold sh o.world → KeptNamed sh o.world)
unfolding pair
step-named {sh} p {w} e z g h = step_cases sh p w e (λ x o. KeptTold sh o.world → KeptNamed sh o.world)
    (λ c o eq l. moved c o (got _ eq (clean-exec sh p c (w.cores c))))
    (λ c a b o eq l. moved c o (got _ eq (clean-evict sh a b (w.cores c))))
    (λ c k u i n. pairs_grant P w c k (grant sh u (w.cores c))
    (λ d l x y. named-granted l d k (grant sh u (w.cores c)) (clean-grant sh u (w.cores c) d) (h c d l x y)) h)
    (λ c d k m o eq i. taken c d k m i o (λ b l. got _ eq (acks-line sh d b l (w.cores c) m (passed-away c d k z.told i))))
    (λ c d k m i. answered c d k i (core_of_out c d k z.told.tids i) (dir_deliver sh (w.dirs d) c m) (dir-marked sh (w.dirs d) c m)
    (dir-owes sh (w.dirs d) c m)
    (dir-due sh d (w.dirs d) c m (once_at c d k z.told i) (z.told.owed.at_home c d).marked (marks_home c d k z.told.owed i)
    (acks_owed c d k z.told.owed (core_of_out c d k z.told.tids i) i)) (dir-names sh (w.dirs d) c m))
    (λ c k a i n. pairs_vendor P w c k a (λ d l x y. record { one = (h c d l x y).one; mask = (h c d l x y).mask })
    (λ j d q l x y. record { one = (h j d l x y).one; mask = (h j d l x y).mask }))
  where
    P : ℕ → ℕ → Pair → Type 0
    P c d v = (l : ℕ) → c < sh.cores → d < sh.dirs → NamedOf l v

    moved : (c : ℕ) (o : Out) → CleanOut sh o → KeptTold sh (core_moves w c o) → KeptNamed sh (core_moves w c o)
    moved c o u = λ n. pairs_move P w c o (λ d l x y. named-clean (pair w c d) o (u d) (h c d l x y)) h

    taken : (c d k : ℕ) (m : Msg) → FromDir w d c k m → (o : Out)
        → ((b l : ℕ) → among (AckOf l) (o.sends (Dir b)) ≤ num ((b == d) && passes (InvOf l) m)) → KeptTold sh (core_takes w (Dir d) c k o)
        → KeptNamed sh (core_takes w (Dir d) c k o)
    taken c d k m i o u = λ n. pairs_back P w d c k o (λ l x y. near-back k d d c l sh w m o i (u d l) (h c d l x y))
        (λ b r l x y. away-back d b c l w m o r (u b l) (h c b l x y)) h

    answered : (c d k : ℕ) {m : Msg} → FromCore w c d k m → c < sh.cores → (b : Answer) → MarkedBy (w.dirs d) m b → OwesBy sh (w.dirs d) m b
        → DueBy sh d (w.dirs d) (num (passes Acks m)) b → NamesBy (w.dirs d) m b → OfAnswer w c d k (λ v. KeptTold sh v → KeptNamed sh v) b
    answered c d k i cl Waits u o p n = tt
    answered c d k i cl Drops u o p n = λ t. dir-named c k z.told g h t cl i (Stays refl (λ l. refl) u)
        (still-due sh d (w.dirs d) (z.told.owed.at_home c d).marked) (inl (omega arith)) (inl none-quiet)
    answered c d k i cl (Asks s sends) u o p n = λ t. pairs_asks P w d s sends
        (λ j l x y. named-quiet s (sends (Core j)) (to_dir w j d) (u.1 l) (n j) (omega arith) (h j d l x y)) h
    answered c d k i cl (Takes s sends) u o p n = λ t. dir-named c k z.told g h t cl i u p o n

pub start-named : (sh : Shape) (entries : ℕ → Local) (ram : ℕ → ℕ) → KeptNamed sh (start entries ram)
unfolding start pair live
start-named sh entries ram c d l x y = record { one = omega arith; mask = refl }

-- Every event keeps that no acknowledgement is in flight from the core that the served TID was granted to.
abbrev pub UnackedOf : Shape → List Grant → (core dir : ℕ) → Pair → Type 0
UnackedOf sh gs c d v = d < sh.dirs → Contains gs (grant_to v.dir.serving.serving c) → live Acks v.out ≡ 0

abbrev pub KeptUnacked : Shape → List Grant → World → Type 0
KeptUnacked sh gs w = (c d : ℕ) → UnackedOf sh gs c d (pair w c d)

acks-any : (m : Msg) → num (passes Acks m) ≤ num (passes Any m)
unfolding passes
acks-any m = grind nats

-- where nothing is owed, no acknowledgement is in flight
no-acks : {sh : Shape} {w : World} (j d : ℕ) → KeptTold sh w → (pair w j d).dir.owed ≡ 0 → live Acks (pair w j d).out ≡ 0
unfolding share due pair
no-acks {sh} {w} j d k z = elim (cases_lt j sh.cores) [
  | inl l ↦ omega (arith, k.owed.owed d, total-le (share due w d) sh.cores j l)
  | inr l ↦ omega (arith, (k.tids.inside j d).out l, live-fewer Acks Any acks-any (to_dir w j d))
]

-- a directory whose TID isn't granted yet is owed nothing
next-unacked : (sh : Shape) (w : World) (j d : ℕ) → KeptTold sh w → d < sh.dirs → tid_at w d ≡ w.next → live Acks (pair w j d).out ≡ 0
unfolding handled pair
next-unacked sh w j d k l e = elim (cases_eq (w.dirs d).owed 0) [
  | inl z ↦ no-acks j d k z
  | inr n ↦ let r = k.tids.resolved d (tid_at w d) l in absurd (grind nats)
]

-- a directory's answer: it serves the same TID, and no acknowledgement comes with it, or it is owed nothing
unacked-answered : (sh : Shape) (gs : List Grant) (c d : ℕ) (v q : Pair) {B : Type 0}
    → ((q.dir.serving.serving ≡ v.dir.serving.serving) × B) ⊎ (q.dir.owed ≡ 0) → live Acks q.out ≤ live Acks v.out
    → (q.dir.owed ≡ 0 → live Acks q.out ≡ 0) → UnackedOf sh gs c d v → UnackedOf sh gs c d q
unacked-answered sh gs c d v q (inl e) f z h l g = omega (arith, h l (rw e.0 at g))
unacked-answered sh gs c d v q (inr e) f z h l g = z e

dir-unacked : {sh : Shape} (gs : List Grant) (w : World) (c : ℕ) {e : ℕ} (k : ℕ) {ack : ℕ} {m : Msg} {s : DirState} {sends : Sends}
    → KeptUnacked sh gs w → KeptTold sh (dir_takes w c e k s sends) → FromCore w c e k m → Due sh e (w.dirs e) ack s sends
    → KeptUnacked sh gs (dir_takes w c e k s sends)
unfolding pair
dir-unacked {sh} gs w c {e} k {m} {s} {sends} h z i u = pairs_dir (UnackedOf sh gs) w c e k s sends
    (unacked-answered sh gs c e (pair w c e) (after_answer (out_taken (pair w c e) k) s (sends (Core c))) u.served
    (omega (arith, live-takes Acks (to_dir w c e) k m i))
    (subst (λ q. q.dir.owed ≡ 0 → live Acks q.out ≡ 0) (dir-own w c e k s sends) (no-acks c e z)) (h c e))
    (λ j n. unacked-answered sh gs j e (pair w j e) (after_answer (pair w j e) s (sends (Core j))) u.served (omega arith)
    (subst (λ q. q.dir.owed ≡ 0 → live Acks q.out ≡ 0) (dir-other w c e k s sends j n) (no-acks j e z)) (h j e)) h

pub step-unacked : {sh : Shape} (p : Program) {gs : List Grant} {w : World} (e : Event) → Kept sh w → SparesCommitter sh gs w
    → KeptUnacked sh gs w → IfSome (step sh p w e) (λ o. KeptTold sh o.world → KeptUnacked sh (gs ++ granted_by w e) o.world)
unfolding pair
step-unacked {sh} p {gs} {w} e z y h = step_cases sh p w e (λ g o. KeptTold sh o.world → KeptUnacked sh (gs ++ g) o.world)
    (λ c o eq l. moved c o (got _ eq (clean-exec sh p c (w.cores c))))
    (λ c a b o eq l. moved c o (got _ eq (clean-evict sh a b (w.cores c)))) (λ c k u i n. rw append-nil
    (pairs_grant P w c k (grant sh u (w.cores c))
    (λ d l g. omega (arith, h, (clean-grant sh u (w.cores c) d).acks, live-sends)) h))
    (λ c d k m o eq i. taken c d k m i o (got _ eq (back-due sh d (w.cores c) m (passed-away c d k z.told i))))
    (λ c d k m i. answered c d k i (dir_deliver sh (w.dirs d) c m)
    (dir-due sh d (w.dirs d) c m (once_at c d k z.told i) (z.told.owed.at_home c d).marked (marks_home c d k z.told.owed i)
    (acks_owed c d k z.told.owed (core_of_out c d k z.told.tids i) i)))
    (λ c k a i n. pairs_vendor (UnackedOf sh (gs ++ new a c)) w c k a
    (λ d l g. more a c c d l (Contains-append_cases gs (new a c) (grant_to (tid_at w d) c) g))
    (λ j d q l g. more a c j d l (Contains-append_cases gs (new a c) (grant_to (tid_at w d) j) g)))
  where
    P : ℕ → ℕ → Pair → Type 0
    P = UnackedOf sh gs

    new : Ask → ℕ → List Grant
    new a c = gift_grants (gift a) w.next c

    more : (a : Ask) (c j d : ℕ) → d < sh.dirs → Contains gs (grant_to (tid_at w d) j)
        ⊎ Contains (new a c) (grant_to (tid_at w d) j) → live Acks (to_dir w j d) ≡ 0
    more a c j d l (inl x) = h j d l x
    more a c j d l (inr x) =
        next-unacked sh w j d z.told l (sym (ap (λ r. r.tid) (gift-is (gift a) w.next c (grant_to (tid_at w d) j) x)))

    moved : (c : ℕ) (o : Out) → CleanOut sh o → KeptTold sh (core_moves w c o) → KeptUnacked sh (gs ++ []) (core_moves w c o)
    moved c o a = λ n. rw append-nil (pairs_move P w c o
        (λ d l g. omega (arith, h, (a d).acks, live-sends)) h)

    taken : (c d k : ℕ) (m : Msg) → FromDir w d c k m → (o : Out) → BackDue sh d m o → KeptTold sh (core_takes w (Dir d) c k o)
        → KeptUnacked sh (gs ++ []) (core_takes w (Dir d) c k o)
    taken c d k m i o a = λ n. rw append-nil (pairs_back P w d c k o
        (λ l g. omega (arith, h, (y c d).own l g, live-takes Invs (to_core w d c) k m i, live-sends))
        (λ b q l g. omega (arith, h, a.away, live-sends)) h)

    answered : (c d k : ℕ) {m : Msg} → FromCore w c d k m → (a : Answer) → DueBy sh d (w.dirs d) (num (passes Acks m)) a
        → OfAnswer w c d k (λ v. KeptTold sh v → KeptUnacked sh (gs ++ []) v) a
    answered c d k i Waits u = tt
    answered c d k i Drops u = λ n. rw append-nil (dir-unacked gs w c k h n i (still-due sh d (w.dirs d) (z.told.owed.at_home c d).marked))
    answered c d k i (Asks s sends) u = λ n. rw append-nil (pairs_asks P w d s sends
        (λ j. unacked-answered sh gs j d (pair w j d) (after_answer (pair w j d) s (sends (Core j))) u.served (omega arith)
        (subst (λ q. q.dir.owed ≡ 0 → live Acks q.out ≡ 0) (asks-own w d s sends j) (no-acks j d n)) (h j d)) h)
    answered c d k i (Takes s sends) u = λ n. rw append-nil (dir-unacked gs w c k h n i u)

pub start-unacked : (sh : Shape) (entries : ℕ → Local) (ram : ℕ → ℕ) → KeptUnacked sh [] (start entries ram)
unfolding start pair live
start-unacked sh entries ram c d l g = refl
