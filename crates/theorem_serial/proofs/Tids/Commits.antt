-- A further commit in the list of commits, and a further grant; which commits are listed, and the greatest of their TIDs; then the TIDs of
-- one core.
use Rattle.theorem_serial.specs.Count.{Asks}
use Rattle.theorem_serial.proofs
use proofs.Names
use Names.{ℕ, zero, suc, ◌+◌, ◌≡◌, ◌<◌, ◌≤◌, Bool, true, false, ◌==◌, List, [], ◌∷◌, ◌++◌, length, Contains, slice_index_or, nat_lt}
use Names.{if◌then◌else◌, arith, refl, sym, ap, ◌∙◌, Contains-append_left, Noted, num, insert_commit, Grant, IsNumbered, IsRising}
use Names.{AreGranted, times, ◌⊎◌, inl, inr, World, Shape, holder, KeptOwners, pair, has_tid, max, cond, last_of, nats, grant_to}
use Names.{phase_after_commit, probing_or_ready, committed_core, grant_in_phase, waits_for_tid, Overflowing, all_replied, solo_commit}
use Names.{ProbeReply, core_evict, any_below, writes_at, CoreState, DoomedTid, marks_for, core_exec, is_probed, AwaitTid, from_dir}
use Names.{Resolves, Program, Outcome, DataReq, Running, Probing, ignored, IfSome, commit, passes, Phase, Ready, Sends, grant, among, opens}
use Names.{◌&&◌, Some, None, Fill, Solo, Dir, Msg, Inv, Out, put, to, Vendor, skip_all, probe_all, commit_sends, solo_sends, grant_sends}
use Names.{abort_written, flush_line, Mark, Cache, modified_mask, written_lines, Probes, Protocol, Option, noted, ◌≢◌}
use proofs.Counts.{among-append, resolves-commit_sends, resolves-abort_written, resolves-skip_all, resolves-probe_all, resolves-grant_sends}
use proofs.Counts.{resolves-marks_for, resolves-solo_sends, among-quiet, among-fewer, among-flat_map_none}
use proofs.OneCore.{Steady, did-steady, ignored-steady, fill-steady, data-steady, Hurt, Invalidated, invalidate-cases, steady-emptied}
use proofs.OneCore.{Ignored, Left_alone, Probed, Replied, reply-cases, Unhurt, Rolled, Doomed, Aborted, Gave_up, Acts, Commits_now, Did}
use proofs.OneCore.{each-exec, out, each-evict, writes_at-same, Ends_alone, Ends_run, Room_wanted, Heard, Hurt_alone, Hurt_probing}
use proofs.OneCore.{Hurt_running, Hurt_waiting, Last_probing, Last_room, each-back, heard, after_end, said, quiet, Aborts_all, Skips_all}
use proofs.OneCore.{Tells_alone, Tells_commit, Wants}

-- A further commit in the list of commits, and a further grant.
pub times-insert : (t : ℕ) (n : Noted) (cs : List Noted) → times t (insert_commit n cs) ≡ times t cs + num (n.tid.0 == t)
unfolding times insert_commit
times-insert t n [] = omega arith
times-insert t n (c ∷ cs) = go (nat_lt n.tid.0 c.tid.0) (times-insert t n cs)
  where
    go : (b : Bool) → times t (insert_commit n cs) ≡ times t cs + num (n.tid.0 == t)
        → times t (if b then n ∷ c ∷ cs else c ∷ insert_commit n cs) ≡ num (c.tid.0 == t) + times t cs + num (n.tid.0 == t)
    go a r = grind nats

pub insert-rising : (last : ℕ) (n : Noted) (cs : List Noted) → IsRising last cs → last < n.tid.0 → times n.tid.0 cs ≡ 0
    → IsRising last (insert_commit n cs)
unfolding IsRising insert_commit times
insert-rising last n [] r l z = (l, tt)
insert-rising last n (c ∷ cs) r l z = go (nat_lt n.tid.0 c.tid.0) refl (λ k. insert-rising c.tid.0 n cs r.1 k (omega arith))
  where
    above : nat_lt n.tid.0 c.tid.0 ≡ false → c.tid.0 < n.tid.0
    above q = grind nats

    go : (b : Bool) → nat_lt n.tid.0 c.tid.0 ≡ b → (c.tid.0 < n.tid.0 → IsRising c.tid.0 (insert_commit n cs))
        → IsRising last (if b then n ∷ c ∷ cs else c ∷ insert_commit n cs)
    go true q f = (l, (grind nats, r.1))
    go false q f = (r.0, f (above q))

pub insert-granted : (gs : List Grant) (n : Noted) (cs : List Noted) → AreGranted gs cs
    → Contains gs (grant_to n.tid.0 n.core.0) → AreGranted gs (insert_commit n cs)
unfolding AreGranted insert_commit
insert-granted gs n [] a h = (h, tt)
insert-granted gs n (c ∷ cs) a h = go (nat_lt n.tid.0 c.tid.0) (insert-granted gs n cs a.1 h)
  where
    go : (b : Bool) → AreGranted gs (insert_commit n cs) → AreGranted gs (if b then n ∷ c ∷ cs else c ∷ insert_commit n cs)
    go true r = (h, (a.0, a.1))
    go false r = (a.0, r)

pub granted-more : (gs hs : List Grant) (cs : List Noted) → AreGranted gs cs → AreGranted (gs ++ hs) cs
unfolding AreGranted
granted-more gs hs [] a = tt
granted-more gs hs (c ∷ cs) a = (Contains-append_left gs hs (grant_to c.tid.0 c.core.0) a.0, granted-more gs hs cs a.1)

pub numbered-more : (n : ℕ) (gs : List Grant) (g : Grant) → IsNumbered n gs → g.tid ≡ n + length gs → IsNumbered n (gs ++ g ∷ [])
unfolding IsNumbered
numbered-more n [] g h e = (omega arith, tt)
numbered-more n (x ∷ gs) g h e = (h.0, numbered-more (n + 1) gs g h.1 (omega arith))

numbered-at : (n k : ℕ) (gs : List Grant) (g : Grant) → IsNumbered n gs → k < length gs → slice_index_or gs k g ≡ g → n ≤ g.tid
unfolding IsNumbered
numbered-at n k [] g h l e = absurd (omega arith)
numbered-at n zero (x ∷ gs) g h l e = let q : x.tid ≡ g.tid = ap (λ y. y.tid) e in omega arith
numbered-at n (suc k) (x ∷ gs) g h l e = omega (arith, numbered-at (n + 1) k gs g h.1 (omega arith) e)

-- no TID is below the first
pub numbered-least : (n : ℕ) (gs : List Grant) (g : Grant) → IsNumbered n gs → Contains gs g → n ≤ g.tid
numbered-least n gs g h c = numbered-at n c.0 gs g h c.1 c.2

numbered-below : (n k : ℕ) (gs : List Grant) (g : Grant) → IsNumbered n gs → k < length gs → slice_index_or gs k g ≡ g
    → g.tid < n + length gs
unfolding IsNumbered
numbered-below n k [] g h l e = absurd (omega arith)
numbered-below n zero (x ∷ gs) g h l e = let q : x.tid ≡ g.tid = ap (λ y. y.tid) e in omega arith
numbered-below n (suc k) (x ∷ gs) g h l e = omega (arith, numbered-below (n + 1) k gs g h.1 (omega arith) e)

-- each TID is below the next
pub numbered-most : (n : ℕ) (gs : List Grant) (g : Grant) → IsNumbered n gs → Contains gs g → g.tid < n + length gs
numbered-most n gs g h c = numbered-below n c.0 gs g h c.1 c.2

-- what a list of one holds
pub only-one : (g x : Grant) → Contains (g ∷ []) x → g ≡ x
only-one g x c = grind nats

unique-at : (n i j : ℕ) (gs : List Grant) (g h : Grant) → IsNumbered n gs → g.tid ≡ h.tid → i < length gs → slice_index_or gs i g ≡ g
    → j < length gs → slice_index_or gs j h ≡ h → g ≡ h
unfolding IsNumbered
unique-at n i j [] g h o t a p b q = absurd (omega arith)
unique-at n zero zero (x ∷ gs) g h o t a p b q = sym p ∙ q
unique-at n zero (suc j) (x ∷ gs) g h o t a p b q = let r : x.tid ≡ g.tid = ap (λ y. y.tid) p in
    absurd (omega (arith, numbered-at (n + 1) j gs h o.1 (omega arith) q))
unique-at n (suc i) zero (x ∷ gs) g h o t a p b q = let r : x.tid ≡ h.tid = ap (λ y. y.tid) q in
    absurd (omega (arith, numbered-at (n + 1) i gs g o.1 (omega arith) p))
unique-at n (suc i) (suc j) (x ∷ gs) g h o t a p b q = unique-at (n + 1) i j gs g h o.1 t (omega arith) p (omega arith) q

-- a TID was granted to one core
pub granted-once : (n : ℕ) (gs : List Grant) (t c d : ℕ) → IsNumbered n gs → Contains gs (record { tid = t; core = c })
    → Contains gs (record { tid = t; core = d }) → c ≡ d
granted-once n gs t c d o a b = ap (λ g. g.core) (unique-at n a.0 b.0 gs (grant_to t c) (grant_to t d) o refl a.1 a.2 b.1 b.2)

-- Which commits are listed after a further one, and that TIDs count from 1.
contains-cases : (x n : Noted) (xs : List Noted) → Contains (x ∷ xs) n → (x ≡ n) ⊎ Contains xs n
contains-cases x n xs c = go c.0 c.1 c.2
  where
    go : (k : ℕ) → k < suc (length xs) → slice_index_or (x ∷ xs) k n ≡ n → (x ≡ n) ⊎ Contains xs n
    go zero l e = inl e
    go (suc k) l e = inr (k, omega arith, e)

pub granted-at : (gs : List Grant) (cs : List Noted) (n : Noted) → AreGranted gs cs → Contains cs n
    → Contains gs (record { tid = n.tid.0; core = n.core.0 })
unfolding AreGranted
granted-at gs [] n a c = absurd (omega arith)
granted-at gs (x ∷ cs) n a c = go (contains-cases x n cs c) (granted-at gs cs n a.1)
  where
    go : (x ≡ n) ⊎ Contains cs n → (Contains cs n → Contains gs (grant_to n.tid.0 n.core.0)) → Contains gs (grant_to n.tid.0 n.core.0)
    go (inl e) f = rw e at a.0
    go (inr k) f = f k

pub inserted : (x n : Noted) (cs : List Noted) → Contains (insert_commit x cs) n → (x ≡ n) ⊎ Contains cs n
unfolding insert_commit
inserted x n [] k = contains-cases x n [] k
inserted x n (c ∷ cs) k = go (nat_lt x.tid.0 c.tid.0) k (inserted x n cs)
  where
    later : Contains cs n → Contains (c ∷ cs) n
    later q = (suc q.0, omega arith, q.2)

    behind : (c ≡ n) ⊎ Contains (insert_commit x cs) n → (Contains (insert_commit x cs) n → (x ≡ n) ⊎ Contains cs n)
        → (x ≡ n) ⊎ Contains (c ∷ cs) n
    behind (inl e) f = inr (0, omega arith, e)
    behind (inr q) f = elim (f q) [ inl e ↦ inl e | inr k ↦ inr (later k) ]

    go : (b : Bool) → Contains (if b then x ∷ c ∷ cs else c ∷ insert_commit x cs) n
        → (Contains (insert_commit x cs) n → (x ≡ n) ⊎ Contains cs n) → (x ≡ n) ⊎ Contains (c ∷ cs) n
    go true q f = contains-cases x n (c ∷ cs) q
    go false q f = behind (contains-cases c n (insert_commit x cs) q) f

-- TIDs count from 1
pub positive-granted : {sh : Shape} {gs : List Grant} {w : World} {cs : List Noted} (c t : ℕ) → KeptOwners sh gs w cs
    → 1 ≤ holder t (pair w c 0) → 1 ≤ t
positive-granted {gs} c t o h = numbered-least 1 gs (grant_to t c) o.numbered (o.held c 0 t h)

pub positive-held : {sh : Shape} {gs : List Grant} {w : World} {cs : List Noted} (c t : ℕ) → KeptOwners sh gs w cs
    → has_tid (w.cores c).phase t ≡ true → 1 ≤ t
unfolding holder pair
positive-held {w} c t o h = let n : num (has_tid (w.cores c).phase t) ≡ 1 = ap num h in
    positive-granted c t o (omega arith)

pub positive-committed : {sh : Shape} {gs : List Grant} {w : World} {cs : List Noted} (n : Noted) → KeptOwners sh gs w cs → Contains cs n
    → 1 ≤ n.tid.0
positive-committed {gs} {cs} n o k = numbered-least 1 gs (grant_to n.tid.0 n.core.0) o.numbered (granted-at gs cs n o.granted k)

-- The greatest TID of the commits that pass a test.
later : (m : Noted) (cs : List Noted) (x : Noted) → Contains cs x → Contains (m ∷ cs) x
later m cs x k = (suc k.0, omega arith, k.2)

-- it is the same for tests that are the same of the commits
pub last-same : (p q : Noted → Bool) (cs : List Noted) → ((x : Noted) → Contains cs x → p x ≡ q x) → last_of p cs ≡ last_of q cs
unfolding last_of
last-same p q [] h = refl
last-same p q (m ∷ cs) h = rw (h m (0, omega arith, refl), last-same p q cs (λ x k. h x (later m cs x k)))

pub last-most : (p : Noted → Bool) (cs : List Noted) (b : ℕ) → ((x : Noted) → Contains cs x → p x ≡ true → x.tid.0 ≤ b) → last_of p cs ≤ b
unfolding last_of
last-most p [] b h = omega arith
last-most p (m ∷ cs) b h = go (p m) (h m (0, omega arith, refl)) (last-most p cs b (λ x k. h x (later m cs x k)))
  where
    go : (y : Bool) → (y ≡ true → m.tid.0 ≤ b) → last_of p cs ≤ b → max (cond y m.tid.0 0) (last_of p cs) ≤ b
    go a f l = grind nats

at-least : (p : Noted → Bool) (cs : List Noted) (x : Noted) (k : ℕ) → slice_index_or cs k x ≡ x → suc k ≤ length cs → p x ≡ true
    → x.tid.0 ≤ last_of p cs
unfolding last_of
at-least p [] x k e l h = absurd (omega arith)
at-least p (m ∷ cs) x zero e l h = let y : p m ≡ true = rw (ap {A = Noted} p e) h in let z : m.tid.0 ≡ x.tid.0 = ap (λ q. q.tid.0) e in
    rw y (omega arith)
at-least p (m ∷ cs) x (suc k) e l h = omega (arith, at-least p cs x k e (omega arith) h)

pub last-least : (p : Noted → Bool) (cs : List Noted) (x : Noted) → Contains cs x → p x ≡ true → x.tid.0 ≤ last_of p cs
last-least p cs x k h = at-least p cs x k.0 k.2 (omega arith) h

-- What a core's rules do to its TID: its part of one, its requests, its probes, and that it was granted what it has.

-- What a core's rules do to its part of a TID, and to its requests for one.

-- What a core's rules do to its part of a TID.

-- a core's step with `got` of the TID taken from the vendor's link keeps its part of it
abbrev pub KeepsPart : Shape → (dir tid got : ℕ) → CoreState → Out → Type 0
KeepsPart sh d t got s o = got + num (opens s.phase (writes_at sh s.cache d) t) ≡ num (opens o.core.phase (writes_at sh o.core.cache d) t)
    + among (Resolves t) (o.sends (Dir d))

-- where a core executes, its written directories don't matter
opens-acts : (q : Phase) (a b : Bool) (t : ℕ) → (Acts q → ⊥) ⊎ Acts q → ((Acts q → ⊥) → a ≡ b) → opens q a t ≡ opens q b t
unfolding opens
opens-acts q a b t d e = grind nats

acts : (q : Phase) → (Acts q → ⊥) ⊎ Acts q
acts Running = inr tt
acts (Solo u) = inr tt
acts _ = inl (λ h. h)

opens-after : (e : Outcome) (a : Bool) (t : ℕ) → opens (phase_after_commit e) a t ≡ false
unfolding opens
opens-after b a t = grind nats

part-steady : (sh : Shape) (d t : ℕ) {s : CoreState} {o : Out} → Steady s o → KeepsPart sh d t 0 s o
part-steady sh d t {s} {o} y =
    rw (
      y.phase,
      opens-acts s.phase (writes_at sh o.core.cache d) (writes_at sh s.cache d) t (acts s.phase)
          (λ h. writes_at-same sh o.core.cache s.cache d (y.modified h)),
    ) (omega (arith, among-quiet, y.quiet))

part-committed : (sh : Shape) (id u d t : ℕ) (s : CoreState) → d < sh.dirs → s.phase ≡ Ready u → KeepsPart sh d t 0 s (commit sh id u s)
unfolding opens commit committed_core
part-committed sh id u d t s l e = rw e (rw (opens-after s.ended _ t) (omega (arith, resolves-commit_sends)))

pub part-exec : (sh : Shape) (p : Program) (c d t : ℕ) (s : CoreState) → d < sh.dirs
    → IfSome (core_exec sh p c s) (KeepsPart sh d t 0 s)
unfolding opens among solo_commit committed_core
part-exec sh p c d t s l = each-exec sh p c s (KeepsPart sh d t 0 s) go
  where
    go : (x : Did sh p c s) → KeepsPart sh d t 0 s (out x)
    go (Commits_now u e) = part-committed sh c u d t s l e
    go (Room_wanted r i) = rw r
    go (Ends_run n e f r i) = rw r
    go (Ends_alone u n e f r i) = rw r (rw (opens-after e _ t) (omega (arith, resolves-solo_sends)))
    go x = part-steady sh d t (did-steady x)

pub part-evict : (sh : Shape) (x y d t : ℕ) (s : CoreState) → IfSome (core_evict sh x y s) (KeepsPart sh d t 0 s)
part-evict sh x y d t s = each-evict sh x y s (KeepsPart sh d t 0 s)
    (λ k q u z. part-steady sh d t (steady-emptied sh x y s k q u z))

opens-probing : (b : Bool) (u : ℕ) (w : Bool) (t : ℕ) → opens (probing_or_ready b u) w t ≡ ((u == t) && w)
unfolding opens
opens-probing a u w t = grind nats

pub part-grant : (sh : Shape) (u d t : ℕ) (s : CoreState) → d < sh.dirs → waits_for_tid s.phase ≡ true
    → KeepsPart sh d t (num (u == t)) s (grant sh u s)
unfolding grant waits_for_tid opens
part-grant sh u d t s l w = go s.phase refl w
  where
    go : (q : Phase) → s.phase ≡ q → waits_for_tid q ≡ true → KeepsPart sh d t (num (u == t)) s (grant_in_phase sh u s q)
    go AwaitTid e h = rw e (rw (opens-probing (any_below (is_probed sh s.cache) sh.dirs) u (writes_at sh s.cache d) t)
        (omega (arith, resolves-grant_sends)))
    go DoomedTid e h = rw e (omega (arith, resolves-skip_all))
    go (Overflowing None) e h = rw e (omega (arith, resolves-probe_all))
    go _ e h = absurd (cc)

-- a message of a directory
resolves-to : (t h d : ℕ) (ms : List Msg) → among (Resolves t) ms ≡ 0 → among (Resolves t) (to (Dir h) ms (Dir d)) ≡ 0
unfolding among
resolves-to t h d ms e = grind nats

part-replied : (sh : Shape) (e u d t : ℕ) (s : CoreState) {o : Out} → Replied sh e u s o → KeepsPart sh d t 0 s o
unfolding opens among
part-replied sh e u d t s (Ignored q f) = rw q (part-steady sh d t (ignored-steady s))
part-replied sh e u d t s (Probed ph ow ph' ow' ca se cm) =
    rw (ph, ph', ca, se) (omega (
      arith,
      resolves-to t e d (marks_for sh s.cache u e) (resolves-marks_for sh s.cache u e t),
      same (all_replied sh (put s.owing e false)),
    ))
  where
    same : (b : Bool) → num (opens (if b then Ready u else Probing u) (writes_at sh s.cache d) t) ≡ num ((u == t) && writes_at sh s.cache d)
    same true = refl
    same false = refl
part-replied sh e u d t s {o} (Left_alone ph ow ph' ow' mo se cm) = rw (ph, ph', se) (same (all_replied sh (put s.owing e false)))
  where
    same : (b : Bool) → 0 + num (u == t) ≡ num (opens (if b then Solo u else Overflowing (Some u)) (writes_at sh o.core.cache d) t) + 0
    same true = omega arith
    same false = omega arith

part-hurt : {sh : Shape} (d t : ℕ) {s r : CoreState} {sends : Sends} → d < sh.dirs → Hurt sh s r sends
    → num (opens s.phase (writes_at sh s.cache d) t) ≡ num (opens r.phase (writes_at sh r.cache d) t) + among (Resolves t) (sends (Dir d))
unfolding among opens
part-hurt d t l a = grind (nats, writes_at-same, resolves-abort_written, resolves-skip_all)

part-invalidated : {sh : Shape} (l d t : ℕ) (s : CoreState) {o : Out} → d < sh.dirs → Invalidated sh l s o → KeepsPart sh d t 0 s o
unfolding among passes
part-invalidated {sh} l d t s h i =
    rw (i.dirs d) (omega (arith, part-hurt d t h i.hurt, among-append, resolves-to))

pub part-back : (sh : Shape) (e d t : ℕ) (s : CoreState) (m : Msg) → d < sh.dirs → IfSome (from_dir sh e s m) (KeepsPart sh d t 0 s)
part-back sh e d t s (ProbeReply u v) h = part-replied sh e u d t s (reply-cases sh e u s)
part-back sh e d t s (Fill l ws) h = part-steady sh d t (fill-steady l ws s)
part-back sh e d t s (DataReq l) h = part-steady sh d t (data-steady sh l s)
part-back sh e d t s (Inv l m u) h = part-invalidated l d t s h (invalidate-cases sh l m u s)
part-back sh e d t s _ h = tt

-- What a core's rules do to its requests for a TID.

-- a core's step with `got` grants taken keeps its requests
abbrev pub KeepsRequests : (got : ℕ) → CoreState → Out → Type 0
KeepsRequests got s o = num (waits_for_tid s.phase) + among Asks (o.sends Vendor) ≡ num (waits_for_tid o.core.phase) + got

waits-after : (e : Outcome) → waits_for_tid (phase_after_commit e) ≡ false
unfolding waits_for_tid
waits-after a = grind nats

requests-steady : {s : CoreState} {o : Out} → Steady s o → KeepsRequests 0 s o
unfolding among
requests-steady y = rw (y.phase, y.vendor)

pub requests-exec : (sh : Shape) (p : Program) (c : ℕ) (s : CoreState) → IfSome (core_exec sh p c s) (KeepsRequests 0 s)
unfolding waits_for_tid commit solo_commit committed_core commit_sends solo_sends flush_line among passes
requests-exec sh p c s = each-exec sh p c s (KeepsRequests 0 s) go
  where
    go : (x : Did sh p c s) → KeepsRequests 0 s (out x)
    go (Room_wanted r i) = rw r
    go (Ends_run l e f r i) = rw r
    go (Ends_alone u l e f r i) = rw (r, waits-after e)
    go (Commits_now u e) = rw (e, waits-after s.ended)
    go x = refl

pub requests-evict : (sh : Shape) (x y : ℕ) (s : CoreState) → IfSome (core_evict sh x y s) (KeepsRequests 0 s)
requests-evict sh x y s = each-evict sh x y s (KeepsRequests 0 s) (λ k q u z. requests-steady (steady-emptied sh x y s k q u z))

waits-probing : (b : Bool) (u : ℕ) → waits_for_tid (probing_or_ready b u) ≡ false
unfolding waits_for_tid
waits-probing a u = grind nats

pub requests-grant : (sh : Shape) (u : ℕ) (s : CoreState) → waits_for_tid s.phase ≡ true → KeepsRequests 1 s (grant sh u s)
unfolding grant waits_for_tid among grant_sends skip_all probe_all
requests-grant sh u s w = go s.phase refl w
  where
    go : (q : Phase) → s.phase ≡ q → waits_for_tid q ≡ true → KeepsRequests 1 s (grant_in_phase sh u s q)
    go AwaitTid e h = rw (e, waits-probing (any_below (is_probed sh s.cache) sh.dirs) u)
    go DoomedTid e h = rw e
    go (Overflowing None) e h = rw e
    go _ e h = absurd (cc)

pub requests-back : (sh : Shape) (e : ℕ) (s : CoreState) (m : Msg) → IfSome (from_dir sh e s m) (KeepsRequests 0 s)
unfolding waits_for_tid among flush_line skip_all abort_written
requests-back sh e s m = each-back sh e s (λ m o. KeepsRequests 0 s o) go m
  where
    go : (x : Heard sh e s) → KeepsRequests 0 s (heard x)
    go (Last_probing u v q o r) = rw q
    go (Last_room u v q o r) = rw q
    go (Hurt_running l m u v q) = rw q
    go (Hurt_waiting l m u v (inl q)) = rw q
    go (Hurt_waiting l m u v (inr q)) = rw q
    go (Hurt_probing l m u t v (inl q)) = rw q
    go (Hurt_probing l m u t v (inr q)) = rw q
    go (Hurt_alone l m u t v (inl q)) = rw q
    go (Hurt_alone l m u t v (inr q)) = rw q
    go x = refl

-- A core's TID: it has none but one that it was granted, and probes with it where it takes the grant.

-- A core sends a probe only where it takes a grant, and to each directory that owes a reply from then on.

-- no probe is sent, and a TID that the core has then it had before, owed the same replies
pub record Unprobed (s : CoreState) (o : Out) : Type 0 where
  pub sent : (d t : ℕ) → among (Probes t) (o.sends (Dir d)) ≡ 0
  pub kept : (d t : ℕ) → has_tid o.core.phase t ≡ true → (has_tid s.phase t ≡ true) × (o.core.owing d ≡ s.owing d)

probes-protocol : (t : ℕ) (m : Msg) → num (passes (Probes t) m) ≤ num (passes Protocol m)
unfolding passes
probes-protocol t m = grind nats

few-probes : (t : ℕ) (ms : List Msg) → among (Probes t) ms ≤ among Protocol ms
few-probes t ms = among-fewer (Probes t) Protocol (probes-protocol t) ms

pub unprobed-steady : {s : CoreState} {o : Out} → Steady s o → Unprobed s o
unprobed-steady {o} y = record {
  sent = λ d t. omega (arith, few-probes, y.quiet);
  kept = λ d t h. (rw y.phase at h, ap (λ f. f d) y.owing);
}

-- the core has no TID any more
unprobed-none : {s : CoreState} {o : Out} (q : Phase) → o.core.phase ≡ q → ((t : ℕ) → has_tid q t ≡ false)
    → ((d t : ℕ) → among (Probes t) (o.sends (Dir d)) ≡ 0) → Unprobed s o
unprobed-none {o} q e h n = record { sent = n; kept = λ d t k. let x : has_tid o.core.phase t ≡ false = rw e (h t) in absurd (cc) }

pub none-marks : (sh : Shape) (c : Cache) (u e t : ℕ) → among (Probes t) (marks_for sh c u e) ≡ 0
unfolding marks_for among passes
none-marks sh c u e t = among-flat_map_none (Probes t) (λ l. Mark l (modified_mask c l) u ∷ []) (λ l. refl) (written_lines sh c e)

pub none-to : (t h d : ℕ) (ms : List Msg) → among (Probes t) ms ≡ 0 → among (Probes t) (to (Dir h) ms (Dir d)) ≡ 0
unfolding among
none-to t h d ms e = grind nats

pub tid-after : (e : Outcome) (t : ℕ) → has_tid (phase_after_commit e) t ≡ false
unfolding has_tid
tid-after a t = grind nats

pub unprobed-exec : (sh : Shape) (p : Program) (c : ℕ) (s : CoreState) → IfSome (core_exec sh p c s) (Unprobed s)
unfolding commit solo_commit committed_core has_tid passes
unprobed-exec sh p c s = each-exec sh p c s (Unprobed s) go
  where
    go : (x : Did sh p c s) → Unprobed s (out x)
    go (Room_wanted r i) = unprobed-none (Overflowing None) refl (λ t. refl) (λ d t. quiet sh s (Probes t) Wants (λ y. refl) d)
    go (Ends_run l e f r i) = unprobed-none AwaitTid refl (λ t. refl) (λ d t. quiet sh s (Probes t) Wants (λ y. refl) d)
    go (Ends_alone u l e f r i) = unprobed-none (phase_after_commit e) refl (tid-after e)
        (λ d t. quiet sh s (Probes t) (Tells_alone u) (λ y. refl) d)
    go (Commits_now u e) = unprobed-none (phase_after_commit s.ended) refl (tid-after s.ended)
        (λ d t. quiet sh s (Probes t) (Tells_commit u) (λ y. refl) d)
    go x = record { sent = λ d t. quiet sh s (Probes t) (said x) (λ y. refl) d; kept = λ d t h. (h, refl) }

pub unprobed-evict : (sh : Shape) (x y : ℕ) (s : CoreState) → IfSome (core_evict sh x y s) (Unprobed s)
unprobed-evict sh x y s = each-evict sh x y s (Unprobed s) (λ k q u z. unprobed-steady (steady-emptied sh x y s k q u z))

pub unprobed-hurt : {sh : Shape} {l : ℕ} {s : CoreState} {o : Out} → Invalidated sh l s o → Unprobed s o
unfolding has_tid among passes
unprobed-hurt {sh} {l} {s} {o} i = go i.hurt
  where
    sent : ((d t : ℕ) → among (Probes t) (i.sends (Dir d)) ≡ 0) → (d t : ℕ) → among (Probes t) (o.sends (Dir d)) ≡ 0
    sent f d t =
        rw (i.dirs d) (omega (arith, among-append, f, none-to))

    go : Hurt sh s o.core i.sends → Unprobed s o
    go (Unhurt ph ow mo re se) = record { sent = sent (λ d t. rw (se (Dir d))); kept = λ d t h. (rw ph at h, ap (λ f. f d) ow) }
    go (Rolled ph ph' ow se) = unprobed-none Running ph' (λ t. refl) (sent (λ d t. rw (se (Dir d))))
    go (Doomed ph ph' ow se) = unprobed-none DoomedTid ph' (λ t. refl) (sent (λ d t. rw (se (Dir d))))
    go (Aborted u ph ph' ow se) =
        unprobed-none Running ph' (λ t. refl) (sent (λ d t. rw se (quiet sh s (Probes t) (Aborts_all u) (λ y. refl) d)))
    go (Gave_up u ph ph' ow se) =
        unprobed-none Running ph' (λ t. refl) (sent (λ d t. rw se (quiet sh s (Probes t) (Skips_all u) (λ y. refl) d)))

-- a grant: its TID is probed at each directory that owes a reply then, and no other TID is
pub record Granted (u : ℕ) (o : Out) : Type 0 where
  pub sent : (d t : ℕ) → u ≢ t → among (Probes t) (o.sends (Dir d)) ≡ 0
  pub kept : (d t : ℕ) → has_tid o.core.phase t ≡ true → (u ≡ t) × (among (Probes t) (o.sends (Dir d)) ≡ num (o.core.owing d))

probes-grant : (sh : Shape) (c : Cache) (u d t : ℕ) → among (Probes t) (grant_sends sh c u (Dir d)) ≡ num ((u == t) && is_probed sh c d)
unfolding grant_sends is_probed among passes
probes-grant sh c u d t = grind nats

probes-all : (sh : Shape) (u d t : ℕ) → among (Probes t) (probe_all sh u (Dir d)) ≡ num ((u == t) && nat_lt d sh.dirs)
unfolding probe_all among passes
probes-all sh u d t = grind nats

pub tid-probing : (b : Bool) (u t : ℕ) → has_tid (probing_or_ready b u) t ≡ (u == t)
unfolding has_tid
tid-probing a u t = grind nats

pub granted : (sh : Shape) (u : ℕ) (s : CoreState) → waits_for_tid s.phase ≡ true → Granted u (grant sh u s)
unfolding grant waits_for_tid has_tid passes
granted sh u s w = go s.phase refl w
  where
    other : (t : ℕ) (b : Bool) → u ≢ t → num ((u == t) && b) ≡ 0
    other t b n = let e : (u == t) ≡ false = grind nats in rw e

    same : (t : ℕ) → (u == t) ≡ true → u ≡ t
    same t e = grind nats

    go : (q : Phase) → s.phase ≡ q → waits_for_tid q ≡ true → Granted u (grant_in_phase sh u s q)
    go AwaitTid e h = record {
      sent = λ d t n. probes-grant sh s.cache u d t ∙ other t (is_probed sh s.cache d) n;
      kept = λ d t k. let x : (u == t) ≡ true = sym (tid-probing (any_below (is_probed sh s.cache) sh.dirs) u t) ∙ k in
          (same t x, probes-grant sh s.cache u d t ∙ rw x);
    }
    go DoomedTid e h = record { sent = λ d t n. quiet sh s (Probes t) (Skips_all u) (λ y. refl) d; kept = λ d t k. absurd (cc) }
    go (Overflowing None) e h = record {
      sent = λ d t n. probes-all sh u d t ∙ other t (nat_lt d sh.dirs) n;
      kept = λ d t k. (same t k, probes-all sh u d t ∙ rw k);
    }
    go (Overflowing (Some v)) e h = absurd (cc)
    go _ e h = absurd (cc)

-- A core has no TID but one that it was granted, and what it commits is the TID that it had.

-- the TID of a commit
abbrev pub noted_tid : ℕ → Option Noted → ℕ
noted_tid t None = 0
noted_tid t (Some n) = num (n.tid.0 == t)

-- the core has no TID but those that it had, or took
pub record KeepsHolder (c : ℕ) (got : ℕ → ℕ) (s : CoreState) (o : Out) : Type 0 where
  pub holds : (t : ℕ) → num (has_tid o.core.phase t) + noted_tid t o.commit ≤ got t + num (has_tid s.phase t)
  pub own : IfSome o.commit (λ n. n.core.0 ≡ c)

abbrev pub none : ℕ → ℕ
none t = 0

holder-noted : {c : ℕ} (u : ℕ) {s : CoreState} (r : CoreState) {o : Out} → has_tid s.phase u ≡ true
    → ((t : ℕ) → has_tid s.phase t ≡ (u == t)) → o.core.phase ≡ phase_after_commit r.ended → o.commit ≡ Some (noted u c r)
    → KeepsHolder c none s o
unfolding noted
holder-noted u r h k e n = record { holds = λ t. rw (e, n, tid-after r.ended t, k t) (omega arith); own = rw n }

pub holder-exec : (sh : Shape) (p : Program) (c : ℕ) (s : CoreState) → IfSome (core_exec sh p c s) (KeepsHolder c none s)
unfolding commit solo_commit committed_core has_tid
holder-exec sh p c s = each-exec sh p c s (KeepsHolder c none s) go
  where
    go : (x : Did sh p c s) → KeepsHolder c none s (out x)
    go (Ends_alone u l e f r i) = holder-noted u (after_end s l e) (rw r (grind nats)) (λ t. rw r) refl refl
    go (Commits_now u e) = holder-noted u s (rw e (grind nats)) (λ t. rw e) refl refl
    go _ = record { holds = λ t. omega arith; own = tt }

pub holder-evict : (sh : Shape) (x y c : ℕ) (s : CoreState) → IfSome (core_evict sh x y s) (KeepsHolder c none s)
holder-evict sh x y c s = each-evict sh x y s (KeepsHolder c none s) (λ k q u z. record { holds = λ t. omega arith; own = tt })

pub holder-grant : (sh : Shape) (u c : ℕ) (s : CoreState) → KeepsHolder c (λ t. num (u == t)) s (grant sh u s)
unfolding grant has_tid
holder-grant sh u c s = go s.phase
  where
    still : KeepsHolder c (λ t. num (u == t)) s (ignored s)
    still = record { holds = λ t. omega arith; own = tt }

    go : (q : Phase) → KeepsHolder c (λ t. num (u == t)) s (grant_in_phase sh u s q)
    go AwaitTid = record { holds = λ t. rw (tid-probing (any_below (is_probed sh s.cache) sh.dirs) u t) (omega arith); own = tt }
    go DoomedTid = record { holds = λ t. omega arith; own = tt }
    go (Overflowing None) = record { holds = λ t. omega arith; own = tt }
    go _ = still

pub holder-back : (sh : Shape) (e c : ℕ) (s : CoreState) (m : Msg) → IfSome (from_dir sh e s m) (KeepsHolder c none s)
unfolding has_tid
holder-back sh e c s m = each-back sh e s (λ m o. KeepsHolder c none s o) go m
  where
    go : (x : Heard sh e s) → KeepsHolder c none s (heard x)
    go (Last_probing u v q o r) = record { holds = λ t. rw q (omega arith); own = tt }
    go (Last_room u v q o r) = record { holds = λ t. rw q (omega arith); own = tt }
    go _ = record { holds = λ t. omega arith; own = tt }
