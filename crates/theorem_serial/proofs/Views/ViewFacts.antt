-- What the proof on views asks of a state, and where a word keeps its value for a core; then the views of pairs.
use Rattle.theorem_serial.proofs
use proofs.Names
use Names.{ℕ, ◌≡◌, ◌<◌, ◌≤◌, ◌⊎◌, ◌==◌, Bool, true, false, List, [], ◌∷◌, Contains, Option, Some, None, is_some, arith, refl, ap, inl, inr}
use Names.{cases_lt, num, Msg, Cache, writes_at, Shape, Phase, DoomedTid, Probing, Ready, Overflowing, Solo, Halted, Link, World, is_solo}
use Names.{History, Uses, AllStand, UsesStand, Invs, InvsNot, InvWord, InvBelow, passes, live, Carried, due, Grant, times, holder, pair}
use Names.{share, IsBound, is_applied, has_tid, opens, dooms, EachUse, IsPassed, IsDoomed, Ways, Settled, suc, ◌+◌, ◌||◌, length}
use Names.{slice_index_or, Noted, DirState, Commits, is_this, CommitsStand, stores_at, counts, value_at, nats, home_of, tid_at, to_dir}
use Names.{to_core, grant_to, tested, line_of, word_of, moves, solo_commit, ◌++◌, IfSome, sym, ◌∙◌, Byte, Half, Program, Need, Loads}
use Names.{Stores, Changes, any_below, Inv, CoreState, Running, AwaitTid, Out, commit, noted, core_exec, core_evict, grant, grant_in_phase}
use Names.{probing_or_ready, is_probed, from_dir, is_violated, used_in, used_at, used_by, uses_delivered, rolls_back, waits_for_tid, cond}
use Names.{rests, ◌&&◌, after_answer, grant_taken, after_move, back_taken, out_taken, TidGrant, sent_all}
use Names.{Grants, among, Pair, ◌≢◌}
use proofs.Counts.{live-fewer, total-le, live-sends, live-takes}
use proofs.Tids.{numbered-least, numbered-most, granted-at, tid-probing}
use proofs.Values.ValueAt.{value-alike}
use proofs.OneCore.{Acts, Buffers, Commits_now, Did, Ends_alone, Ends_run, Finds, Frames, Frames_anew, Idles, Misses, Misses_anew, Reads}
use proofs.OneCore.{Room_wanted, after_end, each-exec, out, Heard, Hurt_alone, Hurt_none, Hurt_probing, Hurt_running, Hurt_waiting}
use proofs.OneCore.{Last_probing, Last_room, each-back, each-evict, heard, message, Flushes, Requests, Silent, say}
use proofs.OneCore.Said.{Said}
use proofs.Serving.{had-or-given, holder-given}
use proofs.Counts.{Gift, Gives_tid, gift-tid, after_gift, after_other_gift}

-- What the proof on views asks of a state: the bound of a core, directories that serve an open TID, and what dooms a viewed word.

-- the bound of a core
pub own-holder : (w : World) (c d t : ℕ) → has_tid (w.cores c).phase t ≡ true → 1 ≤ holder t (pair w c d)
unfolding holder pair
own-holder w c d t e = rw e (omega arith)

-- a core has one TID at most
one-holder : {sh : Shape} {gs : List Grant} {ys : Ways} {h : History} → Carried sh gs ys h → (c d e t u : ℕ) → c < sh.cores
    → 1 ≤ holder t (pair h.world c d) → 1 ≤ holder u (pair h.world c e) → t ≡ u
one-holder k c d e t u l a b =
    omega (
      arith,
      k.live_tid_is_the_last_granted_to_its_core c e u t b
          (k.live_tid_is_granted_to_its_core c d t l a).0,
      k.live_tid_is_the_last_granted_to_its_core c d t u a
          (k.live_tid_is_granted_to_its_core c e u l b).0,
    )

-- so it is the core's bound
pub bound-own : {sh : Shape} {gs : List Grant} {ys : Ways} {h : History} → Carried sh gs ys h → (c d t : ℕ) (b : Option ℕ) → c < sh.cores
    → has_tid (h.world.cores c).phase t ≡ true → IsBound b (pair h.world c d) → b ≡ Some t
bound-own {h} k c d t None l e i = absurd (omega (arith, i t, own-holder))
bound-own {h} k c d t (Some u) l e i = ap Some (one-holder k c d d u t l i (own-holder h.world c d t e))

-- a directory at which a core's TID is open
pub record IsServed (w : World) (d t : ℕ) : Type 0 where
  pub serving : tid_at w d ≡ t
  pub owed : (w.dirs d).owed ≡ 0

pub open-served : {sh : Shape} {gs : List Grant} {ys : Ways} {h : History} → Carried sh gs ys h → (c d t : ℕ) → c < sh.cores → d < sh.dirs
    → has_tid (h.world.cores c).phase t ≡ true → opens (h.world.cores c).phase (writes_at sh (h.world.cores c).cache d) t ≡ true
    → (h.world.cores c).owing d ≡ false → IsServed h.world d t
open-served {sh} {gs} {ys} {h} k c d t cl dl e o f = record { serving = s; owed = go (cases_lt 0 (h.world.dirs d).owed) }
  where
    s : tid_at h.world d ≡ t
    s = k.directory_that_replied_serves_the_tid.serves c d t cl dl o f

    g : Contains gs (grant_to t c) × (times t h.commits ≡ 0)
    g = k.live_tid_is_granted_to_its_core c d t cl (own-holder h.world c d t e)

    go : (0 < (h.world.dirs d).owed) ⊎ ((h.world.dirs d).owed ≤ 0) → (h.world.dirs d).owed ≡ 0
    go (inr l) = omega arith
    go (inl l) =
        let y : Settled sh ys h.world d t = k.owed_only_where_settled d t dl
        (numbered-least 1 gs (grant_to t c) k.granted_tids_are_those_below_next.0 g.0) s (omega arith) in
        absurd (omega (arith, g.1, k.committed_tid_is_given_up_where_it_stored_nothing.only d t dl y.committed))

-- such a TID isn't applied there
pub served-unapplied : {w : World} {d t : ℕ} → IsServed w d t → is_applied (w.dirs d) t ≡ false
unfolding is_applied
served-unapplied s = let a = s.serving in let b = s.owed in grind nats

-- no invalidation is in flight from it
unowed-none : {sh : Shape} {gs : List Grant} {ys : Ways} {h : History} → Carried sh gs ys h → (c d : ℕ) → c < sh.cores
    → (h.world.dirs d).owed ≡ 0 → live Invs (pair h.world c d).back ≡ 0
unfolding share due
unowed-none {sh} {h} k c d l e = omega (arith, k.owed_counts_invs_and_acks.owed d, total-le (share due h.world d) sh.cores c l)

-- a core that is alone
pub solo-tid : (q : Phase) → is_solo q ≡ true → (t : ℕ) × (q ≡ Solo t)
solo-tid (Solo t) e = (t, refl)
solo-tid _ e = absurd (cc)

pub solo-holds : {q : Phase} {t : ℕ} → q ≡ Solo t → has_tid q t ≡ true
unfolding has_tid
solo-holds e = rw e (grind nats)

pub solo-served : {sh : Shape} {gs : List Grant} {ys : Ways} {h : History} → Carried sh gs ys h → (c d : ℕ) {t : ℕ} → c < sh.cores
    → d < sh.dirs → (h.world.cores c).phase ≡ Solo t → IsServed h.world d t
unfolding has_tid opens
solo-served k c d {t} cl dl e =
    let s : (t == t) ≡ true = grind nats in
    open-served k c d t cl dl (rw e s) (rw e s) (k.directory_that_replied_serves_the_tid.replied c d cl dl (rw e))

-- invalidations of a word
few-word : (x : ℕ) (m : Msg) → num (passes (InvWord x) m) ≤ num (passes Invs m)
unfolding passes
few-word x m = grind nats

few-below : (x b : ℕ) (m : Msg) → num (passes (InvBelow x b) m) ≤ num (passes Invs m)
unfolding passes
few-below x b m = grind nats

pub few-doom : (b : Option ℕ) (x : ℕ) (m : Msg) → num (passes (dooms b x) m) ≤ num (passes Invs m)
few-doom a x m = grind (nats, few-word, few-below)

few-dooms : (b : Option ℕ) (x : ℕ) (l : Link) → live (dooms b x) l ≤ live Invs l
few-dooms b x l = live-fewer (dooms b x) Invs (few-doom b x) l

below-not : (x b s : ℕ) → b ≤ s → (m : Msg) → num (passes (InvBelow x b) m) ≤ num (passes (InvsNot s) m)
unfolding passes
below-not x b s l m = grind nats

-- one with a TID below the bound carries the served one
below-served : (sh : Shape) (gs : List Grant) (ys : Ways) (h : History) → Carried sh gs ys h → (c d x b : ℕ)
    → 1 ≤ live (InvBelow x b) (pair h.world c d).back → tid_at h.world d < b
unfolding pair
below-served sh gs ys h k c d x b i = grind (nats, live-fewer, below-not)

-- a core that is alone has none in flight to it
pub solo-undoomed : {sh : Shape} {gs : List Grant} {ys : Ways} {h : History} → Carried sh gs ys h → (c d x : ℕ) (b : Option ℕ)
    → c < sh.cores → d < sh.dirs → is_solo (h.world.cores c).phase ≡ true → live (dooms b x) (pair h.world c d).back ≡ 0
solo-undoomed {h} k c d x b cl dl e =
    let t = solo-tid (h.world.cores c).phase e in
    omega (arith, few-dooms, unowed-none k c d cl (solo-served k c d cl dl t.1).owed)

-- uses
pub each-two : (P Q R : ℕ → ℕ → Type 0) (us : Uses) → ((x y : ℕ) → P x y → Q x y → R x y) → EachUse P us → EachUse Q us → EachUse R us
each-two P Q R [] f a b = tt
each-two P Q R (u ∷ us) f a b = (f u.0 u.1 a.0 b.0, each-two P Q R us f a.1 b.1)

pub each-one : (P Q : ℕ → ℕ → Type 0) (us : Uses) → ((x y : ℕ) → P x y → Q x y) → EachUse P us → EachUse Q us
each-one P Q [] f a = tt
each-one P Q (u ∷ us) f a = (f u.0 u.1 a.0, each-one P Q us f a.1)

-- a used word is marked read, or the core is alone
abbrev pub IsSeen : Cache → Phase → (word value : ℕ) → Type 0
IsSeen c q x y = (c.read x ≡ true) ⊎ (is_solo q ≡ true)

stand-seen : (gone : Bool) (c : Cache) (q : Phase) (us : Uses) → AllStand gone c us → EachUse (IsSeen c q) us
stand-seen gone c q [] s = tt
stand-seen gone c q (u ∷ us) s = (inl s.0.marked, stand-seen gone c q us s.1)

alone-seen : (c : Cache) (t : ℕ) (us : Uses) → EachUse (IsSeen c (Solo t)) us
alone-seen c t [] = tt
alone-seen c t (u ∷ us) = (inr refl, alone-seen c t us)

pub uses-seen : (c : Cache) (q : Phase) (us : Uses) → UsesStand c us q → (q ≡ Halted → us ≡ []) → EachUse (IsSeen c q) us
uses-seen c (Overflowing (Some t)) us s n = stand-seen true c (Overflowing (Some t)) us s
uses-seen c (Probing t) us s n = stand-seen true c (Probing t) us s
uses-seen c (Ready t) us s n = stand-seen true c (Ready t) us s
uses-seen c (Solo t) us s n = alone-seen c t us
uses-seen c DoomedTid us s n = rw s tt
uses-seen c Halted us s n = let e = n refl in rw e tt
uses-seen c x us s n = stand-seen false c x us s

-- a used word that an invalidation dooms

-- near: the word has its value, or an invalidation that dooms it is in flight
abbrev pub IsNear : Shape → (value : ℕ) → (b : Option ℕ) → (dir : ℕ) → (back : Link) → (word had : ℕ) → Type 0
IsNear sh value b d l x y = home_of sh x ≡ d → (y ≡ value) ⊎ (1 ≤ live (dooms b x) l)

pub doomed-again : {sh : Shape} {gs : List Grant} {ys : Ways} (h : History) → Carried sh gs ys h → (c d x y : ℕ) (b : Option ℕ)
    → c < sh.cores → d < sh.dirs → home_of sh x ≡ d → IsBound b (pair h.world c d)
    → IsSeen (h.world.cores c).cache (h.world.cores c).phase x y → 1 ≤ live (dooms b x) (pair h.world c d).back
    → IsDoomed b x (pair h.world c d)
unfolding pair
doomed-again h k c d x y b cl dl e i s l = go s
  where
    valid : (b : Option ℕ) → 1 ≤ live (dooms b x) (pair h.world c d).back → (is_some ((h.world.cores c).cache.value x) ≡ true)
        ⊎ IsPassed b (tid_at h.world d) → is_some ((h.world.cores c).cache.value x) ≡ true
    valid b l a = grind (nats, below-served)

    go : IsSeen (h.world.cores c).cache (h.world.cores c).phase x y → IsDoomed b x (pair h.world c d)
    go (inl r) = record { hit = l; read = r; valid = valid b l (k.read_mark_is_valid_or_passed c d x b cl dl e i r) }
    go (inr q) = absurd (omega (arith, l, solo-undoomed k c d x b cl dl q))

-- Where a word keeps its value for a core: bounds above all commits that count, and directories that apply the same commits.

-- a commit has one of the TIDs of the commits
listed-once : (cs : List Noted) (n : Noted) → Contains cs n → 1 ≤ times n.tid.0 cs
unfolding times
listed-once [] n k = absurd (omega arith)
listed-once (m ∷ cs) n k = go k.0 k.1 k.2 (listed-once cs n)
  where
    go : (i : ℕ) → i < suc (length cs) → slice_index_or (m ∷ cs) i n ≡ n → (Contains cs n → 1 ≤ times n.tid.0 cs)
        → 1 ≤ num (m.tid.0 == n.tid.0) + times n.tid.0 cs
    go a l e f = grind nats

-- it was granted
pub listed-below : {sh : Shape} {gs : List Grant} {ys : Ways} {h : History} → Carried sh gs ys h → (n : Noted) → Contains h.commits n
    → n.tid.0 < h.world.next
listed-below {gs} {h} k n i =
    omega (
      arith,
      numbered-most 1 gs (grant_to n.tid.0 n.core.0) k.granted_tids_are_those_below_next.0
          (granted-at gs h.commits n k.commits_are_of_granted_tids.1 i),
    )

-- a bound above all that count is as good as none
pub value-bounded : (base : ℕ) (ram : ℕ → ℕ) (cs : List Noted) (s : DirState) (c t x : ℕ)
    → ((n : Noted) → Contains cs n → (is_this (Some c) n.core.0 || is_applied s n.tid.0) ≡ true → n.tid.0 < t)
    → value_at base ram cs s (Some c) None x ≡ value_at base ram cs s (Some c) (Some t) x
unfolding counts
value-bounded base ram cs s c t x f = grind (nats, value-alike)

-- what counts for a core that is alone is below its TID
pub solo-value : {sh : Shape} {gs : List Grant} {ys : Ways} (ram : ℕ → ℕ) (h : History) → Carried sh gs ys h → (c d t x : ℕ) → c < sh.cores
    → d < sh.dirs → (h.world.cores c).phase ≡ Solo t
    → value_at sh.base ram h.commits (h.world.dirs d) (Some c) None x ≡ value_at sh.base ram h.commits (h.world.dirs d) (Some c) (Some t) x
unfolding is_applied
solo-value {sh} {gs} ram h k c d t x cl dl e = value-bounded sh.base ram h.commits (h.world.dirs d) c t x below
  where
    held : 1 ≤ holder t (pair h.world c d)
    held = own-holder h.world c d t (solo-holds e)

    s : IsServed h.world d t
    s = solo-served k c d cl dl e

    other : (n : Noted) → Contains h.commits n → n.tid.0 ≡ t → ⊥
    other n i q = let z : times t h.commits ≡ 0 = (k.live_tid_is_granted_to_its_core c d t cl held).1 in let o : 1 ≤ times t h.commits =
        rw q at (listed-once h.commits n i) in omega arith

    own : (n : Noted) → Contains h.commits n → n.core.0 ≡ c → n.tid.0 < t
    own n i q =
        let g : Contains gs (grant_to n.tid.0 c) = rw q at (granted-at gs h.commits n k.commits_are_of_granted_tids.1 i) in
        let l : n.tid.0 ≤ t = k.live_tid_is_the_last_granted_to_its_core c d t n.tid.0 held g in
        go (cases_lt n.tid.0 t) l
      where
        go : (n.tid.0 < t) ⊎ (t ≤ n.tid.0) → n.tid.0 ≤ t → n.tid.0 < t
        go (inl a) l = a
        go (inr a) l = absurd (other n i (omega arith))

    below : (n : Noted) → Contains h.commits n → (is_this (Some c) n.core.0 || is_applied (h.world.dirs d) n.tid.0) ≡ true → n.tid.0 < t
    below n i q = elim (tested (c == n.core.0)) [ inl z ↦ own n i (grind nats) | inr z ↦ let a = s.serving in let o = s.owed in grind nats ]

-- a directory that applies the same commits, of those that stored the word
num-same : {a b : Bool} → num a ≡ num b → a ≡ b
num-same e = grind nats

-- a commit of which as many Commits are in flight as before is applied as before
pub applied-same : (sh : Shape) (cs : List Noted) (v w : World) (n : Noted) (d : ℕ) → CommitsStand sh v cs → CommitsStand sh w cs
    → Contains cs n → d < sh.dirs → stores_at sh d n.stores ≡ true
    → live (Commits n.tid.0) (to_dir w n.core.0 d) ≡ live (Commits n.tid.0) (to_dir v n.core.0 d)
    → is_applied (v.dirs d) n.tid.0 ≡ is_applied (w.dirs d) n.tid.0
applied-same sh cs v w n d a b i l s e = num-same (omega (arith, a, b))

-- an invalidation of the word carries the served TID, which has committed
word-either : (x t s : ℕ) → s < t → (m : Msg) → num (passes (InvWord x) m) ≤ num (passes (InvBelow x t) m) + num (passes (InvsNot s) m)
unfolding passes
word-either x t s l m = grind nats

word-below : (x t s : ℕ) → s < t → (l : Link) → live (InvWord x) l ≤ live (InvBelow x t) l + live (InvsNot s) l
unfolding live
word-below x t s b [] = omega arith
word-below x t s b (None ∷ l) = word-below x t s b l
word-below x t s b (Some m ∷ l) = omega (arith, word-either x t s b m, word-below x t s b l)

pub word-next : {sh : Shape} {gs : List Grant} {ys : Ways} (h : History) → Carried sh gs ys h → (c d x : ℕ) → c < sh.cores → d < sh.dirs
    → 1 ≤ live (InvWord x) (pair h.world c d).back → 1 ≤ live (InvBelow x h.world.next) (pair h.world c d).back
unfolding pair
word-next h k c d x cl dl i =
    omega (arith, i, word-below x h.world.next (tid_at h.world d) served (to_core h.world d c), k.owed_counts_invs_and_acks.served c d)
  where
    owed : 1 ≤ (h.world.dirs d).owed
    owed = elim (cases_lt 0 (h.world.dirs d).owed) [
      | inl l ↦ omega arith
      | inr l ↦ absurd (omega (arith, i, few-dooms None x (pair h.world c d).back, unowed-none k c d cl (omega arith)))
    ]

    served : tid_at h.world d < h.world.next
    served = let z = (k.marks_sent_are_the_lines_stored.2 c d 0).settled dl owed in
        omega (arith, z.tid, listed-below k z.commit z.noted)

-- What each kind of event does to a core's TID, its halt and its view, as a pair of the core and a directory sees it.

-- What each of a core's rules does to its TID, its halt and its view.

-- the core has the TID that it had, and halts only where it had halted
pub record Keeps (s r : CoreState) : Type 0 where
  pub tids : (t : ℕ) → has_tid r.phase t ≡ has_tid s.phase t
  pub halted : r.phase ≡ Halted → s.phase ≡ Halted

keeps-phase : (s r : CoreState) → r.phase ≡ s.phase → Keeps s r
keeps-phase s r e = record { tids = λ t. ap (λ q. has_tid q t) e; halted = λ q. sym e ∙ q }

-- instructions

-- it does no commit, or the one of its TID
pub data Exec (s : CoreState) (c : ℕ) (o : Out) : Type 0 where
  Goes : Acts s.phase → o.commit ≡ None → Keeps s o.core → Exec s c o
  Commits_own : (t : ℕ) (n : Noted) → (s.phase ≡ Ready t) ⊎ (s.phase ≡ Solo t) → o.commit ≡ Some n → n.tid.0 ≡ t → n.core.0 ≡ c
      → n.stores ≡ s.stores → Exec s c o

from-running : {s : CoreState} {c : ℕ} {o : Out} (q : Phase) → s.phase ≡ Running → o.core.phase ≡ q → ((t : ℕ) → has_tid q t ≡ false)
    → q ≢ Halted → o.commit ≡ None → Exec s c o
unfolding has_tid
from-running q e f n z m = Goes (rw e tt) m (record { tids = λ t. rw (e, f) (n t); halted = λ g. absurd (z (sym f ∙ g)) })

pub exec-view : (sh : Shape) (p : Program) (c : ℕ) (s : CoreState) → IfSome (core_exec sh p c s) (Exec s c)
unfolding commit solo_commit noted has_tid
exec-view sh p c s = each-exec sh p c s (Exec s c) go
  where
    still : (r : CoreState) (q : Said) → Acts s.phase → r.phase ≡ s.phase → Exec s c (moves r (say sh s q))
    still r q a e = Goes a refl (keeps-phase s r e)

    go : (x : Did sh p c s) → Exec s c (out x)
    go (Idles n l b g) = still _ Silent g.acts refl
    go (Finds a x z l g f) = still _ Silent g.acts refl
    go (Reads a x z l g r f) = still _ Silent g.acts refl
    go (Buffers a y v n k g i q h) = still _ Silent g.acts refl
    go (Frames a y also n k g i f) = still _ (Flushes (line_of (word_of sh.base a))) g.acts refl
    go (Frames_anew a y n k g i q f h) = still _ Silent g.acts refl
    go (Misses a n g i q) = still _ (Requests (line_of (word_of sh.base a))) g.acts refl
    go (Misses_anew a n g i q f) = still _ (Requests (line_of (word_of sh.base a))) g.acts refl
    go (Room_wanted r i) = from-running (Overflowing None) r refl (λ t. refl) (λ e. absurd (cc)) refl
    go (Ends_run l e f r i) = from-running AwaitTid r refl (λ t. refl) (λ e. absurd (cc)) refl
    go (Ends_alone t l e f r i) = Commits_own t (noted t c (after_end s l e)) (inr r) refl refl refl refl
    go (Commits_now t e) = Commits_own t (noted t c s) (inl e) refl refl refl refl

-- each word that an instruction uses is valid, and neither spilled nor modified

used-one : (P : ℕ → ℕ → Type 0) (w : ℕ) (sp : Option ℕ) (m : Bool) (v : Option ℕ) → ((y : ℕ) → m ≡ false → v ≡ Some y → P w y)
    → EachUse P (used_in w sp m v)
used-one P w (Some x) m v f = tt
used-one P w None true v f = tt
used-one P w None false None f = tt
used-one P w None false (Some x) f = (f x refl refl, tt)

pub used-each : (P : ℕ → ℕ → Type 0) (base : ℕ) (s : CoreState) (need : Need)
    → ((x y : ℕ) → s.cache.modified x ≡ false → s.cache.value x ≡ Some y → P x y) → EachUse P (used_by base s need)
used-each P base s need f = go need
  where
    at : (w : ℕ) → EachUse P (used_at s w)
    at w = used-one P w (s.spilled w) (s.cache.modified w) (s.cache.value w) (f w)

    go : (need : Need) → EachUse P (used_by base s need)
    go (Loads a z) = at (word_of base a)
    go (Stores a Half v) = at (word_of base a)
    go (Stores a Byte v) = at (word_of base a)
    go (Changes a g) = at (word_of base a)
    go _ = tt

pub each-append : (P : ℕ → ℕ → Type 0) (us vs : Uses) → EachUse P us → EachUse P vs → EachUse P (us ++ vs)
each-append P [] vs a b = b
each-append P (u ∷ us) vs a b = (a.0, each-append P us vs a.1 b)

-- evictions
pub evict-view : (sh : Shape) (x y : ℕ) (s : CoreState) → IfSome (core_evict sh x y s) (λ o. (o.commit ≡ None) × Keeps s o.core)
evict-view sh x y s = each-evict sh x y s (λ o. (o.commit ≡ None) × Keeps s o.core) (λ k q u z. (refl, keeps-phase s _ refl))

-- grants

-- the core has the granted TID, or it had no view
abbrev pub Gets : (tid : ℕ) → CoreState → Uses → Out → Type 0
Gets u s us o = (us ≡ []) ⊎ (((t : ℕ) → num (has_tid o.core.phase t) ≡ num (u == t) + num (has_tid s.phase t)) × (o.core.phase ≢ Halted))

pub grant-view : (sh : Shape) (u : ℕ) (s : CoreState) (us : Uses) → waits_for_tid s.phase ≡ true → (s.phase ≡ DoomedTid → us ≡ [])
    → ((grant sh u s).commit ≡ None) × Gets u s us (grant sh u s)
unfolding grant has_tid waits_for_tid
grant-view sh u s us w dm = go s.phase refl w
  where
    unhalted : (b : Bool) → probing_or_ready b u ≡ Halted → ⊥
    unhalted true q = absurd (cc)
    unhalted false q = absurd (cc)

    go : (q : Phase) → s.phase ≡ q → waits_for_tid q ≡ true →
        ((grant_in_phase sh u s q).commit ≡ None) × Gets u s us (grant_in_phase sh u s q)
    go AwaitTid e w = (
      refl,
      inr (
        λ t. rw (e, tid-probing (any_below (is_probed sh s.cache) sh.dirs) u t) (omega arith),
        unhalted (any_below (is_probed sh s.cache) sh.dirs),
      ),
    )
    go DoomedTid e w = (refl, inl (dm e))
    go (Overflowing None) e w = (refl, inr (λ t. rw e (omega arith), λ q. absurd (cc)))
    go _ e w = absurd (cc)

-- messages of directories

-- the view is emptied, or it stays with the core's TID and the message isn't an invalidation that rolls it back
abbrev pub Spares : CoreState → Msg → Type 0
Spares s (Inv l m u) = is_violated l m u s ≡ false
Spares s _ = Unit {0}

pub data Back (s : CoreState) (m : Msg) (us : Uses) (o : Out) : Type 0 where
  Empties : o.commit ≡ None → uses_delivered s m us ≡ [] → Back s m us o
  Stays : o.commit ≡ None → uses_delivered s m us ≡ us → Keeps s o.core → Spares s m → Back s m us o

pub back-view : (sh : Shape) (e : ℕ) (s : CoreState) (m : Msg) (us : Uses) → (s.phase ≡ DoomedTid → us ≡ []) → (s.phase ≡ Halted → us ≡ [])
    → IfSome (from_dir sh e s m) (Back s m us)
unfolding has_tid
back-view sh e s m us dm ha = each-back sh e s (λ m o. Back s m us o) go m
  where
    none : (q : Phase) → s.phase ≡ q → rests q ≡ true → us ≡ []
    none DoomedTid g r = dm g
    none Halted g r = ha g
    none _ g r = absurd (cc)

    emptied : (l m u : ℕ) (o : Out) → o.commit ≡ None → is_violated l m u s ≡ true → rolls_back s.phase ≡ true → Back s (Inv l m u) us o
    emptied l m u o n v r = Empties n (rw (v, r))

    go : (x : Heard sh e s) → Back s (message x) us (heard x)
    go (Last_probing u v q o r) = Stays refl refl (record { tids = λ t. rw q; halted = λ z. absurd (cc) }) tt
    go (Last_room u v q o r) = Stays refl refl (record { tids = λ t. rw q; halted = λ z. absurd (cc) }) tt
    go (Hurt_none l m u (inl v)) = Stays refl (rw v) (keeps-phase s _ refl) v
    go (Hurt_none l m u (inr r)) = Empties refl (rw (none s.phase refl r) (nothing (is_violated l m u s && rolls_back s.phase)))
      where
        nothing : (b : Bool) → cond {A = Uses} b [] [] ≡ []
        nothing true = refl
        nothing false = refl
    go (Hurt_running l m u v q) = emptied l m u _ refl v (rw q)
    go (Hurt_waiting l m u v (inl q)) = emptied l m u _ refl v (rw q)
    go (Hurt_waiting l m u v (inr q)) = emptied l m u _ refl v (rw q)
    go (Hurt_probing l m u t v (inl q)) = emptied l m u _ refl v (rw q)
    go (Hurt_probing l m u t v (inr q)) = emptied l m u _ refl v (rw q)
    go (Hurt_alone l m u t v (inl q)) = emptied l m u _ refl v (rw q)
    go (Hurt_alone l m u t v (inr q)) = emptied l m u _ refl v (rw q)
    go _ = Stays refl refl (keeps-phase s _ refl) tt

-- What each kind of event does to a core's view, as a pair of the core and a directory sees it.

-- each use is near the value that it has for the core at its bound
abbrev pub NearAt : Shape → (ℕ → ℕ) → List Noted → (core dir : ℕ) → (bound : Option ℕ) → Pair → (word had : ℕ) → Type 0
NearAt sh ram cs c d b v x y = IsNear sh (value_at sh.base ram cs v.dir (Some c) b x) b d v.back x y

-- the core's view is near; it is empty where the core has halted
pub record ViewOf (sh : Shape) (ram : ℕ → ℕ) (cs : List Noted) (us : Uses) (c d : ℕ) (v : Pair) : Type 0 where
  pub near : (b : Option ℕ) → c < sh.cores → d < sh.dirs → IsBound b v → EachUse (NearAt sh ram cs c d b v) us
  pub halted : v.core.phase ≡ Halted → us ≡ []

pub view-empty : (sh : Shape) (ram : ℕ → ℕ) (cs : List Noted) (c d : ℕ) (v : Pair) → ViewOf sh ram cs [] c d v
view-empty sh ram cs c d v = record { near = λ b cl dl i. tt; halted = λ e. refl }

-- a core moves
bound-kept : (b : Option ℕ) (v : Pair) {s : CoreState} → Keeps v.core s → IsBound b (record v { core = s }) → IsBound b v
unfolding holder
bound-kept None v {s} k h = λ t. let e : num (has_tid s.phase t) ≡ num (has_tid v.core.phase t) = ap num (k.tids t) in omega (arith, h)
bound-kept (Some t) v {s} k h = let e : num (has_tid s.phase t) ≡ num (has_tid v.core.phase t) = ap num (k.tids t) in omega arith

bound-moved : (b : Option ℕ) (v : Pair) (o : Out) (d : ℕ) → Keeps v.core o.core → IsBound b (after_move v o d) → IsBound b v
unfolding holder
bound-moved None v o d k h = bound-kept None v k h
bound-moved (Some t) v o d k h = bound-kept (Some t) v k h

pub view-moves : {sh : Shape} {ram : ℕ → ℕ} {cs : List Noted} {us : Uses} {c d : ℕ} (e : ℕ) {v : Pair} (o : Out) → Keeps v.core o.core
    → ViewOf sh ram cs us c d v → ViewOf sh ram cs us c d (after_move v o e)
view-moves e {v} o k y = record { near = λ b cl dl i. y.near b cl dl (bound-moved b v o e k i); halted = λ q. y.halted (k.halted q) }

-- a message to the core is consumed that dooms no use
bound-back : (b : Option ℕ) (v : Pair) (k : ℕ) → IsBound b (back_taken v k) → IsBound b v
unfolding holder
bound-back None v k h = h
bound-back (Some t) v k h = h

pub view-takes : {sh : Shape} {ram : ℕ → ℕ} {cs : List Noted} {us : Uses} (c d k : ℕ) {v : Pair} (m : Msg)
    → slice_index_or v.back k None ≡ Some m
    → ((b : Option ℕ) → c < sh.cores → d < sh.dirs → IsBound b v → (x y : ℕ) → home_of sh x ≡ d → IsSeen v.core.cache v.core.phase x y
    → passes (dooms b x) m ≡ false) → EachUse (IsSeen v.core.cache v.core.phase) us → ViewOf sh ram cs us c d v
    → ViewOf sh ram cs us c d (back_taken v k)
view-takes {sh} {ram} {cs} {us} c d k {v} m i f s y = record { near = near; halted = y.halted }
  where
    near : (b : Option ℕ) → c < sh.cores → d < sh.dirs → IsBound b (back_taken v k) → EachUse (NearAt sh ram cs c d b (back_taken v k)) us
    near b cl dl g = each-two (NearAt sh ram cs c d b v) (IsSeen v.core.cache v.core.phase) (NearAt sh ram cs c d b (back_taken v k)) us one
        (y.near b cl dl (bound-back b v k g)) s
      where
        one : (x z : ℕ) → NearAt sh ram cs c d b v x z → IsSeen v.core.cache v.core.phase x z → NearAt sh ram cs c d b (back_taken v k) x z
        one x z n q e = elim (n e) [
          | inl r ↦ inl r
          | inr r ↦ let p : num (passes (dooms b x) m) ≡ 0 = ap num (f b cl dl (bound-back b v k g) x z e q) in
              inr (omega (arith, live-takes (dooms b x) v.back k m i))
        ]

-- a grant is consumed, and the core has its TID
bound-granted : (b : Option ℕ) (v : Pair) (o : Out) (d k u : ℕ) → slice_index_or v.grants k None ≡ Some (TidGrant u)
    → ((t : ℕ) → num (has_tid o.core.phase t) ≡ num (u == t) + num (has_tid v.core.phase t)) → IsBound b (after_move (grant_taken v k) o d)
    → IsBound b v
unfolding holder passes
bound-granted None v o d k u i f h = λ t. omega (arith, h t, f t, live-takes (Grants t) v.grants k (TidGrant u) i)
bound-granted (Some t) v o d k u i f h = omega (arith, f, live-takes (Grants t) v.grants k (TidGrant u) i)

pub view-grants : {sh : Shape} {ram : ℕ → ℕ} {cs : List Noted} {us : Uses} {c d : ℕ} (e k u : ℕ) {v : Pair} (o : Out)
    → slice_index_or v.grants k None ≡ Some (TidGrant u)
    → ((t : ℕ) → num (has_tid o.core.phase t) ≡ num (u == t) + num (has_tid v.core.phase t)) → o.core.phase ≢ Halted
    → ViewOf sh ram cs us c d v → ViewOf sh ram cs us c d (after_move (grant_taken v k) o e)
view-grants e k u {v} o i f n y =
    record { near = λ b cl dl g. y.near b cl dl (bound-granted b v o e k u i f g); halted = λ q. absurd (n q) }

-- the directory answers: the values stay, or what it sends dooms
bound-answered : (b : Option ℕ) (v : Pair) (s : DirState) (ms : List Msg) → IsBound b (after_answer v s ms) → IsBound b v
unfolding holder
bound-answered None v s ms h = h
bound-answered (Some t) v s ms h = h

abbrev pub StaysOrDooms : Shape → (ℕ → ℕ) → List Noted → (core dir : ℕ) → Pair → DirState → List Msg → Type 0
StaysOrDooms sh ram cs c d v s ms = (b : Option ℕ) → c < sh.cores → d < sh.dirs → IsBound b v → (x y : ℕ) → home_of sh x ≡ d
    → IsSeen v.core.cache v.core.phase x y
    → (value_at sh.base ram cs v.dir (Some c) b x ≡ value_at sh.base ram cs s (Some c) b x) ⊎ (1 ≤ among (dooms b x) ms)

pub view-answers : {sh : Shape} {ram : ℕ → ℕ} {cs : List Noted} {us : Uses} {c d : ℕ} {v : Pair} (s : DirState) (ms : List Msg)
    → StaysOrDooms sh ram cs c d v s ms → EachUse (IsSeen v.core.cache v.core.phase) us → ViewOf sh ram cs us c d v
    → ViewOf sh ram cs us c d (after_answer v s ms)
view-answers {sh} {ram} {cs} {us} {c} {d} {v} s ms f q y = record { near = near; halted = y.halted }
  where
    near : (b : Option ℕ) → c < sh.cores → d < sh.dirs → IsBound b (after_answer v s ms)
        → EachUse (NearAt sh ram cs c d b (after_answer v s ms)) us
    near b cl dl g = each-two (NearAt sh ram cs c d b v) (IsSeen v.core.cache v.core.phase) (NearAt sh ram cs c d b (after_answer v s ms))
        us one (y.near b cl dl (bound-answered b v s ms g)) q
      where
        one : (x z : ℕ) → NearAt sh ram cs c d b v x z → IsSeen v.core.cache v.core.phase x z
            → NearAt sh ram cs c d b (after_answer v s ms) x z
        one x z n r e = go (n e) (f b cl dl (bound-answered b v s ms g) x z e r)
          where
            back : live (dooms b x) (v.back ++ sent_all ms) ≡ live (dooms b x) v.back + among (dooms b x) ms
            back = live-sends (dooms b x) v.back ms

            go : (z ≡ value_at sh.base ram cs v.dir (Some c) b x) ⊎ (1 ≤ live (dooms b x) v.back)
                → (value_at sh.base ram cs v.dir (Some c) b x ≡ value_at sh.base ram cs s (Some c) b x) ⊎ (1 ≤ among (dooms b x) ms)
                → (z ≡ value_at sh.base ram cs s (Some c) b x) ⊎ (1 ≤ live (dooms b x) (v.back ++ sent_all ms))
            go (inr l) a = inr (omega (arith, l, back))
            go (inl a) (inr l) = inr (omega (arith, l, back))
            go (inl a) (inl w) = inl (a ∙ w)

-- a message to the directory is consumed
pub bound-out : (b : Option ℕ) (v : Pair) (k : ℕ) → IsBound b (out_taken v k) → IsBound b v
unfolding holder
bound-out None v k h = h
bound-out (Some t) v k h = h

pub view-out : {sh : Shape} {ram : ℕ → ℕ} {cs : List Noted} {us : Uses} {c d : ℕ} (k : ℕ) {v : Pair} → ViewOf sh ram cs us c d v
    → ViewOf sh ram cs us c d (out_taken v k)
view-out k {v} y = record { near = λ b cl dl g. y.near b cl dl (bound-out b v k g); halted = y.halted }

-- the vendor gives
pub view-other : {sh : Shape} {ram : ℕ → ℕ} {cs : List Noted} {us : Uses} {c d : ℕ} {v : Pair} (g : Gift) → ViewOf sh ram cs us c d v
    → ViewOf sh ram cs us c d (after_other_gift v g)
unfolding holder
view-other {v} g y = record { near = λ b cl dl x. y.near b cl dl (bound-other b x); halted = y.halted }
  where
    bound-other : (b : Option ℕ) → IsBound b (after_other_gift v g) → IsBound b v
    bound-other None h = h
    bound-other (Some t) h = h

-- a TID to a core that has none: its view is as near at the new bound as it was at none
pub view-given : {sh : Shape} {ram : ℕ → ℕ} {cs : List Noted} {us : Uses} (c d k : ℕ) (g : Gift) {v : Pair}
    → (g ≡ Gives_tid → (t : ℕ) → holder t v ≡ 0)
    → (c < sh.cores → d < sh.dirs → (x y : ℕ) → NearAt sh ram cs c d None v x y → NearAt sh ram cs c d (Some v.next) v x y)
    → ViewOf sh ram cs us c d v → ViewOf sh ram cs us c d (after_gift v k g)
view-given {sh} {ram} {cs} {us} c d k g {v} z f y = record { near = near; halted = y.halted }
  where
    given : (t : ℕ) → c < sh.cores → d < sh.dirs → (g ≡ Gives_tid) × (v.next ≡ t) → EachUse (NearAt sh ram cs c d (Some t) v) us
    given t cl dl e = let n : v.next ≡ t = e.1 in
        rw (← n) (each-one (NearAt sh ram cs c d None v) (NearAt sh ram cs c d (Some v.next) v) us (f cl dl) (y.near None cl dl (z e.0)))

    near : (b : Option ℕ) → c < sh.cores → d < sh.dirs → IsBound b (after_gift v k g)
        → EachUse (NearAt sh ram cs c d b (after_gift v k g)) us
    near None cl dl x = y.near None cl dl (λ t. omega (arith, x t, holder-given v k t g))
    near (Some t) cl dl x = elim (had-or-given v k t g x) [
      | inl i ↦ y.near (Some t) cl dl i
      | inr i ↦ given t cl dl (gift-tid g v.next t i)
    ]
