-- Every event keeps that a word which is marked read is valid, or its home has passed the core's TID.
use Rattle.theorem_serial.proofs
use proofs.Names
use Names.{got, nothing, ℕ, ◌≡◌, ◌<◌, ◌≤◌, ◌==◌, not, true, List, Contains, Option, Some, None, IfSome, is_some, arith, ◌⊎◌, inl, inr}
use Names.{cases_eq, Noted, Program, Local, num, Dir, Msg, Inv, Event, Shape, home, empty_cache, CoreState, World, start, core_start, Out}
use Names.{grant, Answer, Waits, Drops, Asks, Takes, dir_deliver, core_moves, core_takes, step, Invs, InvsNot, passes, Kept, KeptTold}
use Names.{KeptCores, Grant, KeptOwners, LastGranted, SparesCommitter, holder, Pair, pair, IsBound, has_tid, IsPassed, ReadWords, sym, ◌∙◌}
use Names.{nats, tid_at, to_core, FromDir, grant_to, ◌≢◌}
use proofs.Counts.{pairs_move, pairs_grant, pairs_back, pairs_dir, pairs_asks, pairs_vendor, OfAnswer, step_cases}
use proofs.Marks.NamedKept.{passed-away}
use proofs.OneCore.{Reading, ValidOrPassed, ReadOf, read-kept, reading-exec, reading-evict, PassesTid, Admits, reading-grant, reads-back}
use proofs.Serving.{RisesBy, dir-rises}
use proofs.Tids.{live-some}

abbrev pub KeptReads : Shape → World → Type 0
KeptReads sh w = (c d : ℕ) → d < sh.dirs → ReadOf sh d (tid_at w d) (w.cores c)

-- a core's TID counts as held by it
has-holder : (t : ℕ) (v : Pair) → has_tid v.core.phase t ≡ true → 1 ≤ holder t v
unfolding holder
has-holder t v e = rw e (omega arith)

-- an invalidation carries the served TID
served-inv : {sh : Shape} (w : World) (c e k l m u : ℕ) → KeptTold sh w → FromDir w e c k (Inv l m u) → u ≡ tid_at w e
unfolding pair passes
served-inv w c e k l m u z i = elim (cases_eq u (tid_at w e)) [
  | inl q ↦ q
  | inr n ↦ let b : num (not (u == tid_at w e)) ≡ 1 = grind nats in
      absurd (omega (arith, (z.owed.at_home c e).served, live-some (InvsNot (tid_at w e)) (to_core w e c) k (Inv l m u) i))
]

inv-home : {sh : Shape} {w : World} (c e k : ℕ) {l m u : ℕ} → KeptTold sh w → FromDir w e c k (Inv l m u) → home sh l ≡ e
unfolding passes
inv-home c e k z i = let a = passed-away c e k z i in grind nats

-- and this isn't the TID of the core that it goes to
not-own : {sh : Shape} {gs : List Grant} (w : World) {cs : List Noted} (c e k l m u : ℕ) → e < sh.dirs → KeptOwners sh gs w cs
    → SparesCommitter sh gs w → FromDir w e c k (Inv l m u) → has_tid (w.cores c).phase (tid_at w e) ≡ true → ⊥
unfolding pair passes
not-own {gs} w c e k l m u b y s i h =
    let g : Contains gs (grant_to (tid_at w e) c) = y.held c e (tid_at w e) (has-holder (tid_at w e) (pair w c e) h) in
    omega (arith, (s c e).own b g, live-some Invs (to_core w e c) k (Inv l m u) i)

-- so the directory has passed the TID of a core that is ahead of it
inv-passes : {sh : Shape} {gs : List Grant} (w : World) {cs : List Noted} (c e k l m u d : ℕ) → d < sh.dirs → KeptTold sh w
    → KeptOwners sh gs w cs → SparesCommitter sh gs w → FromDir w e c k (Inv l m u) → PassesTid sh (w.cores c) d (tid_at w d) l u
inv-passes w c e k l m u d b z y s i a t h n = rw q (go (cases_eq t u))
  where
    q : d ≡ e
    q = let x = inv-home c e k z i in cc

    x : u ≡ (tid_at w e)
    x = served-inv w c e k l m u z i

    go : (t ≡ u) ⊎ (t ≢ u) → t < (tid_at w e)
    go (inl r) = absurd (not-own w c e k l m u (rw (sym q) b) y s i (rw (r ∙ x) at h))
    go (inr r) = omega (arith, x)

admitted : {sh : Shape} {gs : List Grant} {w : World} {cs : List Noted} (c e k : ℕ) (m : Msg) (d : ℕ) → d < sh.dirs → KeptTold sh w
    → KeptOwners sh gs w cs → SparesCommitter sh gs w → FromDir w e c k m → Admits sh (w.cores c) d (tid_at w d) m
admitted {w} c e k (Inv l m u) d b z y s i = inv-passes w c e k l m u d b z y s i
admitted c e k _ d b z y s i = tt

-- what a directory serves only rises
read-rises : (sh : Shape) (d a b : ℕ) (s : CoreState) → a ≤ b → ReadOf sh d a s → ReadOf sh d b s
read-rises sh d a b s l h x e y = elim (h x e y) [ inl z ↦ inl z | inr z ↦ inr (z.0, z.1, omega arith) ]

pub step-reads : {sh : Shape} (p : Program) {gs : List Grant} {w : World} {cs : List Noted} (e : Event) → Kept sh w → KeptOwners sh gs w cs
    → KeptCores sh w → SparesCommitter sh gs w → KeptReads sh w → IfSome (step sh p w e) (λ o. KeptReads sh o.world)
unfolding pair
step-reads {sh} p {w} e z y ks s h = step_cases sh p w e (λ g o. KeptReads sh o.world)
    (λ c o eq l. moved c o (got _ eq (reading-exec sh p c (w.cores c))))
    (λ c a b o eq l. moved c o (got _ eq (reading-evict sh a b (w.cores c))))
    (λ c k u i. pairs_grant P w c k (grant sh u (w.cores c)) (λ d b. read-kept sh d _ (reading-grant sh u (w.cores c)) (h c d b)) h)
    (λ c d k m o eq i. taken c d k o (λ a b. got _ eq (reads-back d a (tid_at w a) m (ks c) (admitted c d k m a b z.told y s i)
    (h c a b)))) (λ c d k m i. answered c d k (dir_deliver sh (w.dirs d) c m) (dir-rises sh (w.dirs d) c m))
    (λ c k a i. pairs_vendor P w c k a (h c) (λ j d n. h j d))
  where
    P : ℕ → ℕ → Pair → Type 0
    P c d v = d < sh.dirs → ReadOf sh d v.dir.serving.serving v.core

    moved : (c : ℕ) (o : Out) → Reading (w.cores c) o.core → KeptReads sh (core_moves w c o)
    moved c o a = pairs_move P w c o (λ d b. read-kept sh d _ a (h c d b)) h

    taken : (c d k : ℕ) (o : Out) → ((a : ℕ) → a < sh.dirs → ReadOf sh a (tid_at w a) o.core) → KeptReads sh (core_takes w (Dir d) c k o)
    taken c d k o f = pairs_back P w d c k o (f d) (λ a n. f a) h

    answered : (c d k : ℕ) (a : Answer) → RisesBy (w.dirs d) a → OfAnswer w c d k (KeptReads sh) a
    answered c d k Waits u = tt
    answered c d k Drops u = pairs_dir P w c d k (w.dirs d) nothing (h c d) (λ j n. h j d) h
    answered c d k (Asks r sends) u = pairs_asks P w d r sends (λ j b. read-rises sh d _ _ (w.cores j) u.rises (h j d b)) h
    answered c d k (Takes r sends) u = pairs_dir P w c d k r sends (λ b. read-rises sh d _ _ (w.cores c) u.rises (h c d b))
        (λ j n b. read-rises sh d _ _ (w.cores j) u.rises (h j d b)) h

pub start-reads : (sh : Shape) (entries : ℕ → Local) (ram : ℕ → ℕ) → KeptReads sh (start entries ram)
unfolding start core_start empty_cache
start-reads sh entries ram c d b x e y = absurd (cc)

-- a core's TID is its bound, as it is the last that was granted to it
pub read-words : {sh : Shape} {gs : List Grant} {w : World} {cs : List Noted} → KeptOwners sh gs w cs → LastGranted gs w → KeptReads sh w
    → ReadWords sh w
unfolding pair
read-words {w} y last k c d x b l a e q r = go b q (k c d a x e r)
  where
    v : Pair
    v = pair w c d

    go : (b : Option ℕ) → IsBound b v → ValidOrPassed ((w.cores c).cache.value x) (w.cores c).phase (tid_at w d)
        → (is_some ((w.cores c).cache.value x) ≡ true) ⊎ IsPassed b (tid_at w d)
    go b q (inl z) = inl z
    go None q (inr z) = absurd (omega (arith, q z.0, has-holder z.0 v z.1))
    go (Some t) q (inr z) = inr (omega (arith, last c d z.0 t (has-holder z.0 v z.1) (y.held c d t q)))
