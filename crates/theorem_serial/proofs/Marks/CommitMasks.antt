-- What a commit says of its Marks: how many it counts, and that their masks are the words that it stored.
use Rattle.theorem_serial.proofs
use proofs.Names
use Names.{eq-self, ℕ, zero, suc, ◌+◌, ◌≡◌, ◌<◌, ◌≤◌, Bool, true, false, List, [], ◌∷◌, ◌++◌, ◌==◌, ◌&&◌, IfSome, nat_lt, if◌then◌else◌}
use Names.{flat_map, arith, refl, ◌∙◌, Program, num, those, count_below, Dir, Msg, Skip, Mark, Commit, WriteBack, Shape, home, lines, Cache}
use Names.{is_modified, writes_at, Spilled, holds, spilled_mask, spilled_words, CoreState, Phase, Ready, Solo, Out, commit, commit_sends}
use Names.{solo_sends, solo_marks_or_skip, solo_write_backs, solo_writes_at, is_written, written_mask, core_exec, core_evict, from_dir}
use Names.{sum_below, Kind, MarkOf, AnyCommit, CommitOf, among, passes, has_marked, stores_line, marked_by, may_commit, has_tid}
use Names.{solo_commit, nats, None, ap, ◌⊎◌, inl, inr, word_at, mask_of, InvAck, ProbeReply, Fill, DataReq, Inv, modified_mask}
use Names.{written_lines, Running, AwaitTid, DoomedTid, Overflowing, Link, to, marks_for, committed_core, phase_after_commit, MarkMask}
use Names.{live, stored_mask, any_below, stores_in, stores_at, Commits, OneCore, Noted, noted, Some, not, sym}
use proofs.Serving.{heard-free, few-of}
use proofs.Counts.{among-append, total-same, among-fewer, among-flat_map_none, live-fewer}
use proofs.Marks.CoreMarks.{one-mark, marks-only, unspilled, stored-line, stored-any, stored-cases, modified-line, modified-stored}
use proofs.Marks.CoreMarks.{written-line, written-stored}
use proofs.Marks.CoreMarking.{mine, told-commit, has-ready, Unsaid, unsaid-quiet, unsaid-nothing, unsaid-append, acked, idle, unmarked}
use proofs.OneCore.{quiet, Empties, Commits_now, Did, each-exec, out, each-evict, emptied, Ends_alone, after_end, each-back, heard, said}
use proofs.OneCore.{Ends_run, Room_wanted, Steady, did-steady, fill-steady, data-steady, ignored-steady, Hurt, Unhurt, Rolled, Doomed}
use proofs.OneCore.{Aborted, Gave_up, Invalidated, invalidate-cases, Replied, Ignored, Probed, Left_alone, reply-cases, steady-emptied}
use proofs.Tids.{tid-after}

-- A Commit that a core sends counts the Marks that it has sent, or sends with it.

-- the Marks of a TID that a core has sent and sends
abbrev marks_after : Shape → (dir tid : ℕ) → CoreState → Out → ℕ → ℕ
marks_after sh d t s o l = among (MarkOf t l) (o.sends (Dir d)) + marked_by sh s d l

-- a Commit is of the core's TID, and counts them
pub record Counts (sh : Shape) (d t n : ℕ) (s : CoreState) (o : Out) : Type 0 where
  pub held : has_tid s.phase t ≡ true
  pub each : (l : ℕ) → marks_after sh d t s o l ≤ num (nat_lt l (lines sh))
  pub sum : sum_below (marks_after sh d t s o) (lines sh) ≡ n

abbrev pub CountsAll : Shape → (dir tid : ℕ) → CoreState → Out → Type 0
CountsAll sh d t s o = (n : ℕ) → 1 ≤ among (CommitOf t n) (o.sends (Dir d)) → Counts sh d t n s o

pub total-num : (p : ℕ → Bool) (n : ℕ) → sum_below (λ l. num (p l)) n ≡ count_below p n
unfolding sum_below count_below
total-num p zero = refl
total-num p (suc n) = omega (arith, total-num p n)

-- as many as there are lines with p
counts-lines : {sh : Shape} {d t n : ℕ} {s : CoreState} {o : Out} (p : ℕ → Bool) → has_tid s.phase t ≡ true → count_below p (lines sh) ≡ n
    → ((l : ℕ) → marks_after sh d t s o l ≡ num (nat_lt l (lines sh) && p l)) → Counts sh d t n s o
counts-lines {sh} {d} {t} {s} {o} p h e f = record {
  held = h;
  each = λ l. omega (arith, f, few);
  sum = total-same (marks_after sh d t s o) (λ l. num (p l)) (lines sh) (λ l x. f l ∙ below l x) ∙ total-num p (lines sh) ∙ e;
}
  where
    few : (a b : Bool) → num (a && b) ≤ num a
    few a b = grind nats

    below : (l : ℕ) → l < lines sh → num (nat_lt l (lines sh) && p l) ≡ num (p l)
    below l x = let b : nat_lt l (lines sh) ≡ true = grind nats in rw b

-- none is sent
of-any : (t n : ℕ) (m : Msg) → num (passes (CommitOf t n) m) ≤ num (passes AnyCommit m)
unfolding passes
of-any t n m = grind nats

pub few-any : (t n : ℕ) (ms : List Msg) → among (CommitOf t n) ms ≤ among AnyCommit ms
few-any t n ms = among-fewer (CommitOf t n) AnyCommit (of-any t n) ms

counts-none : (sh : Shape) (d t : ℕ) (s : CoreState) (o : Out) → among AnyCommit (o.sends (Dir d)) ≡ 0 → CountsAll sh d t s o
counts-none sh d t s o z n x = absurd (omega (arith, few-any))

-- a core whose directories are all ready
pub is-commit : (sh : Shape) (c : Cache) (u d t n : ℕ) → 1 ≤ among (CommitOf t n) (commit_sends sh c u (Dir d))
    → (u ≡ t) × (count_below (λ l. d == home sh l && is_modified c l) (lines sh) ≡ n)
unfolding commit_sends among passes
is-commit sh c u d t n x =
    go (nat_lt d sh.dirs) (writes_at sh c d) (u == t) (count_below (λ l. d == home sh l && is_modified c l) (lines sh) == n) refl refl x
  where
    go : (a b e f : Bool) → (u == t) ≡ e → (count_below (λ l. d == home sh l && is_modified c l) (lines sh) == n) ≡ f
        → 1 ≤ among (CommitOf t n)
        (if a then (if b then Commit u (count_below (λ l. d == home sh l && is_modified c l) (lines sh)) ∷ [] else []) else [])
        → (u ≡ t) × (count_below (λ l. d == home sh l && is_modified c l) (lines sh) ≡ n)
    go true true true true p q y = (grind nats, grind nats)
    go true true true false p q y = absurd (grind nats)
    go true true false f p q y = absurd (grind nats)
    go true false e f p q y = absurd (omega arith)
    go false b e f p q y = absurd (omega arith)

has-solo : {u : ℕ} {q : Phase} → q ≡ Solo u → has_tid q u ≡ true
unfolding has_tid
has-solo {u} e = rw e (eq-self u)

counts-ready : (sh : Shape) (c d t u : ℕ) (s : CoreState) → s.phase ≡ Ready u → s.owing d ≡ false → CountsAll sh d t s (commit sh c u s)
unfolding commit marked_by has_marked stores_line
counts-ready sh c d t u s ph ow n x =
    let p : ℕ → Bool = λ l. d == home sh l && is_modified s.cache l in
    let r : (u ≡ t) × (count_below p (lines sh) ≡ n) = is-commit sh s.cache u d t n x in
    counts-lines p (mine s.phase (has-ready ph) r.0) r.1 (λ l. rw (ph, ow) (omega (arith, (told-commit sh s.cache u d t l).1)))

-- a core alone
is-alone : (sh : Shape) (c : Cache) (sp : Spilled) (u d t n : ℕ) → 1 ≤ among (CommitOf t n) (solo_sends sh c sp u (Dir d))
    → (u ≡ t) × (count_below (λ l. d == home sh l && is_written c sp l) (lines sh) ≡ n)
    × ((l : ℕ) → among (MarkOf t l) (solo_sends sh c sp u (Dir d)) ≡ num (nat_lt l (lines sh) && (d == home sh l && is_written c sp l)))
unfolding solo_sends solo_marks_or_skip solo_write_backs among passes
is-alone sh c sp u d t n x = go (nat_lt d sh.dirs) (solo_writes_at sh c sp d) x
  where
    p : ℕ → Bool
    p k = d == home sh k && is_written c sp k

    backs : (k : Kind) → ((x m : ℕ) (ws : List ℕ) → num (passes k (WriteBack x m ws u)) ≡ 0) → among k (solo_write_backs sh sp u d) ≡ 0
    backs k e = among-flat_map_none k (λ x. WriteBack x (spilled_mask sp x) (spilled_words sp x) u ∷ [])
        (λ x. omega (arith, e)) (those (λ x. d == home sh x && holds sp x) (lines sh))

    marks : List Msg
    marks = flat_map (λ k. Mark k (written_mask c sp k) u ∷ []) (those p (lines sh))

    sends : (a w : Bool) → List Msg
    sends a w =
        if a then (if w then marks ++ Commit u (count_below p (lines sh)) ∷ [] else Skip u ∷ []) ++ solo_write_backs sh sp u d else []

    counted : among (CommitOf t n) (sends true true) ≡ num ((u == t) && (count_below p (lines sh) == n))
    counted =
        rw (
          among-append,
          among-append,
          marks-only (CommitOf t n) p (written_mask c sp) u (lines sh) (λ x m. refl),
          backs (CommitOf t n) (λ x m ws. refl),
        ) (omega arith)

    skipped : among (CommitOf t n) (sends true false) ≡ 0
    skipped = rw (among-append, backs (CommitOf t n) (λ x m ws. refl)) (omega arith)

    marked : u ≡ t → (l : ℕ) → among (MarkOf t l) (sends true true) ≡ num (nat_lt l (lines sh) && p l)
    marked e l = let b : (u == t) ≡ true = grind nats in
        rw (among-append, among-append, one-mark p (written_mask c sp) u t l (lines sh), backs (MarkOf t l) (λ x m ws. refl), b)
        (omega arith)

    both : (e f : Bool) → (u == t) ≡ e → (count_below p (lines sh) == n) ≡ f → 1 ≤ num (e && f) → (u ≡ t) × (count_below p (lines sh) ≡ n)
    both true true q r y = (grind nats, grind nats)
    both true false q r y = absurd (omega arith)
    both false f q r y = absurd (omega arith)

    go : (a w : Bool) → 1 ≤ among (CommitOf t n) (sends a w) → (u ≡ t) × (count_below p (lines sh) ≡ n)
        × ((l : ℕ) → among (MarkOf t l) (sends a w) ≡ num (nat_lt l (lines sh) && p l))
    go false w y = absurd (omega arith)
    go true false y = absurd (omega (arith, y, skipped))
    go true true y = let r = both (u == t) (count_below p (lines sh) == n) refl refl (omega (arith, y, counted)) in (r.0, r.1, marked r.0)

counts-alone : {sh : Shape} (d t u : ℕ) (s : CoreState) {o : Out} → s.phase ≡ Solo u → o.sends ≡ solo_sends sh s.cache s.spilled u
    → CountsAll sh d t s o
unfolding marked_by has_marked
counts-alone {sh} d t u s q se n x = let f = is-alone sh s.cache s.spilled u d t n (rw se at x) in
    counts-lines (λ k. d == home sh k && is_written s.cache s.spilled k) (mine s.phase (has-solo q) f.0) f.1
    (λ l. rw (se, q) (omega (arith, f.2)))

pub counts-exec : (sh : Shape) (p : Program) (c d t : ℕ) (s : CoreState) → (may_commit s.phase ≡ true → s.owing d ≡ false)
    → IfSome (core_exec sh p c s) (CountsAll sh d t s)
unfolding passes solo_commit
counts-exec sh p c d t s f = each-exec sh p c s (CountsAll sh d t s) go
  where
    go : (x : Did sh p c s) → CountsAll sh d t s (out x)
    go (Ends_alone u l o g q i) = counts-alone d t u s q refl
    go (Commits_now u e) = counts-ready sh c d t u s e (f (rw e))
    go x = counts-none sh d t s (out x) (quiet sh s AnyCommit (said x) (λ y. refl) d)

pub counts-evict : (sh : Shape) (x y d t : ℕ) (s : CoreState) → IfSome (core_evict sh x y s) (CountsAll sh d t s)
unfolding passes
counts-evict sh x y d t s = each-evict sh x y s (CountsAll sh d t s)
    (λ k q u z. counts-none sh d t s (emptied sh x y k s) (quiet sh s AnyCommit (Empties k) (λ y. refl) d))

pub counts-back : (sh : Shape) (e d t : ℕ) (s : CoreState) (m : Msg) → IfSome (from_dir sh e s m) (CountsAll sh d t s)
counts-back sh e d t s m = each-back sh e s (λ m o. CountsAll sh d t s o) (λ y. counts-none sh d t s (heard y) (heard-free y d)) m

-- The masks of the Marks that a core sends: the words that it has modified, and at a commit those that it stored.

-- The Marks that a core sends have as masks the words that it has modified, and these stay while it has its TID.

-- While a core keeps its TID, what it marks has the mask of the line's modified words, and these stay where it has marked.
pub record Masking (sh : Shape) (d t l : ℕ) (s : CoreState) (o : Out) : Type 0 where
  pub sent : has_tid o.core.phase t ≡ true → among (MarkMask t l (modified_mask o.core.cache l)) (o.sends (Dir d)) ≡ 0
  pub stays : has_tid o.core.phase t ≡ true → (marked_by sh s d l ≡ 0) ⊎ (modified_mask o.core.cache l ≡ modified_mask s.cache l)

-- a Mark with another mask is a Mark
one-masked : (t l q : ℕ) (m : Msg) → num (passes (MarkMask t l q) m) ≤ num (passes (MarkOf t l) m)
unfolding passes
one-masked t l q m = grind nats

pub few-masked : (t l q : ℕ) (ms : List Msg) → among (MarkMask t l q) ms ≤ among (MarkOf t l) ms
few-masked t l q ms = among-fewer (MarkMask t l q) (MarkOf t l) (one-masked t l q) ms

pub live-masked : (t l q : ℕ) (k : Link) → live (MarkMask t l q) k ≤ live (MarkOf t l) k
live-masked t l q k = live-fewer (MarkMask t l q) (MarkOf t l) (one-masked t l q) k

pub passes-masked : (t l q : ℕ) (m : Msg) → num (passes (MarkOf t l) m) ≡ 0 → num (passes (MarkMask t l q) m) ≡ 0
passes-masked t l q m z = omega (arith, one-masked)

-- Marks of lines whose masks are f
own-mask : (f : ℕ → ℕ) (t u l k : ℕ) → num (passes (MarkMask t l (f l)) (Mark k (f k) u)) ≡ 0
unfolding passes
own-mask f t u l k = grind nats

masked-for : (sh : Shape) (c : Cache) (u e t l : ℕ) → among (MarkMask t l (modified_mask c l)) (marks_for sh c u e) ≡ 0
unfolding marks_for among
masked-for sh c u e t l = among-flat_map_none (MarkMask t l (modified_mask c l)) (λ k. Mark k (modified_mask c k) u ∷ [])
    (λ k. omega (arith, own-mask (modified_mask c) t u l k)) (written_lines sh c e)

mask-same : (a b : Cache) (l : ℕ) → ((v : ℕ) → a.modified v ≡ b.modified v) → modified_mask a l ≡ modified_mask b l
unfolding modified_mask
mask-same a b l h = ap {A = ℕ → Bool} (λ m. mask_of (λ k. m (word_at l k))) (λ i v. h v i)

-- what a core's rules do

-- it marks nothing
masking-unsaid : {sh : Shape} {d t l : ℕ} {s : CoreState} {o : Out} → Unsaid t l (o.sends (Dir d))
    → (has_tid o.core.phase t ≡ true → (marked_by sh s d l ≡ 0) ⊎ (modified_mask o.core.cache l ≡ modified_mask s.cache l))
    → Masking sh d t l s o
masking-unsaid {d} {t} {l} {o} u f = record {
  sent = λ x. omega (arith, few-masked);
  stays = f;
}

-- it has no TID any more
gone : {sh : Shape} {d t l : ℕ} {s : CoreState} {o : Out} (q : Phase) → o.core.phase ≡ q → has_tid q t ≡ false → Masking sh d t l s o
gone {t} {o} q e h =
    let none : has_tid o.core.phase t ≡ true → ⊥ = λ x. let y : has_tid o.core.phase t ≡ false = rw e h in cc in
    record { sent = λ x. absurd (none x); stays = λ x. absurd (none x) }

masking-steady : (sh : Shape) (d t l : ℕ) {s : CoreState} {o : Out} → Steady s o → Masking sh d t l s o
masking-steady sh d t l {s} {o} y = masking-unsaid (unsaid-quiet t l (o.sends (Dir d)) (y.quiet d)) (λ x. go (has_marked s.phase) refl)
  where
    go : (b : Bool) → has_marked s.phase ≡ b → (marked_by sh s d l ≡ 0) ⊎ (modified_mask o.core.cache l ≡ modified_mask s.cache l)
    go false e = inl (unmarked sh s d l e)
    go true e = inr (mask-same o.core.cache s.cache l (y.modified (idle s.phase e)))

pub masking-exec : (sh : Shape) (p : Program) (c d t l : ℕ) (s : CoreState) → IfSome (core_exec sh p c s) (Masking sh d t l s)
unfolding commit solo_commit committed_core has_tid
masking-exec sh p c d t l s = each-exec sh p c s (Masking sh d t l s) go
  where
    go : (x : Did sh p c s) → Masking sh d t l s (out x)
    go (Commits_now u e) = gone (phase_after_commit s.ended) refl (tid-after s.ended t)
    go (Room_wanted r i) = gone (Overflowing None) refl refl
    go (Ends_run n e f r i) = gone AwaitTid refl refl
    go (Ends_alone u n e f r i) = gone (phase_after_commit e) refl (tid-after e t)
    go x = masking-steady sh d t l (did-steady x)

pub masking-evict : (sh : Shape) (x y d t l : ℕ) (s : CoreState) → IfSome (core_evict sh x y s) (Masking sh d t l s)
masking-evict sh x y d t l s = each-evict sh x y s (Masking sh d t l s)
    (λ k q u z. masking-steady sh d t l (steady-emptied sh x y s k q u z))

masking-hurt : {sh : Shape} (x d t l : ℕ) (s : CoreState) {o : Out} → Invalidated sh x s o → Masking sh d t l s o
unfolding has_tid
masking-hurt {sh} x d t l s {o} i = go i.hurt
  where
    ack : List Msg
    ack = to (Dir (home sh x)) (InvAck x i.kept ∷ []) (Dir d)

    unsaid : i.sends (Dir d) ≡ [] → Unsaid t l (o.sends (Dir d))
    unsaid e = rw (i.dirs d) (rw e (unsaid-append t l [] ack (unsaid-nothing t l) (acked t l (home sh x) d x i.kept)))

    go : Hurt sh s o.core i.sends → Masking sh d t l s o
    go (Unhurt ph ow mo re se) = masking-unsaid (unsaid (se (Dir d))) (λ y. inr (mask-same o.core.cache s.cache l mo))
    go (Rolled ph ph' ow se) = gone Running ph' refl
    go (Doomed ph ph' ow se) = gone DoomedTid ph' refl
    go (Aborted u ph ph' ow se) = gone Running ph' refl
    go (Gave_up u ph ph' ow se) = gone Running ph' refl

masking-replied : (sh : Shape) {e u : ℕ} (d t l : ℕ) (s : CoreState) {o : Out} → Replied sh e u s o → Masking sh d t l s o
masking-replied sh d t l s (Ignored q f) = rw q (masking-steady sh d t l (ignored-steady s))
masking-replied sh {e} {u} d t l s (Probed ph ow ph' ow' ca se cm) =
    record { sent = λ x. rw (ca, se) (go (d == e)); stays = λ x. inr (rw ca) }
  where
    go : (b : Bool) → among (MarkMask t l (modified_mask s.cache l)) (if b then marks_for sh s.cache u e else []) ≡ 0
    go a = grind (nats, masked-for, few-masked, unsaid-nothing)
masking-replied sh d t l s {o} (Left_alone ph ow ph' ow' ca se cm) = masking-unsaid (rw (ap (λ f. f (Dir d)) se) (unsaid-nothing t l))
    (λ x. inr (mask-same o.core.cache s.cache l ca))

pub masking-back : (sh : Shape) (e d t l : ℕ) (s : CoreState) (m : Msg) → IfSome (from_dir sh e s m) (Masking sh d t l s)
masking-back sh e d t l s (ProbeReply u v) = masking-replied sh d t l s (reply-cases sh e u s)
masking-back sh e d t l s (Fill k ws) = masking-steady sh d t l (fill-steady k ws s)
masking-back sh e d t l s (DataReq k) = masking-steady sh d t l (data-steady sh k s)
masking-back sh e d t l s (Inv k m u) = masking-hurt k d t l s (invalidate-cases sh k m u s)
masking-back sh e d t l s _ = tt

-- What a core has marked, or marks, by a TID that it commits is what the commit stored.

-- A core notes a commit that stored at the directory, and what this stored are the masks of the Marks that it has sent, and of those that
-- it sends with it.
pub record Storing (sh : Shape) (c d t : ℕ) (s : CoreState) (o : Out) : Type 0 where
  pub commit : Noted
  pub noted : o.commit ≡ Some commit
  pub tid : commit.tid.0 ≡ t
  pub core : commit.core.0 ≡ c
  pub held : has_tid s.phase t ≡ true
  pub stored : stores_at sh d commit.stores ≡ true
  pub marks : (l : ℕ) → among (MarkOf t l) (o.sends (Dir d)) + marked_by sh s d l ≡ num (nat_lt 0 (stored_mask sh d commit.stores l))
  pub right : (l : ℕ) → among (MarkMask t l (stored_mask sh d commit.stores l)) (o.sends (Dir d)) ≡ 0
  pub before : (l : ℕ) → (marked_by sh s d l ≡ 0) ⊎ (stored_mask sh d commit.stores l ≡ modified_mask s.cache l)

-- it does where it sends a Commit
abbrev pub StoresAll : Shape → (core dir tid : ℕ) → CoreState → Out → Type 0
StoresAll sh c d t s o = 1 ≤ among (Commits t) (o.sends (Dir d)) → Storing sh c d t s o

-- no Commit is sent
storing-none : (sh : Shape) (c d t : ℕ) (s : CoreState) (o : Out) → among AnyCommit (o.sends (Dir d)) ≡ 0 → StoresAll sh c d t s o
storing-none sh c d t s o z x = absurd (omega (arith, few-of))

-- a Commit counts something
abbrev count_of : Msg → ℕ
count_of (Commit u n) = n
count_of _ = 0

of-count : (t : ℕ) (m : Msg) → num (passes (Commits t) m) ≤ num (passes (CommitOf t (count_of m)) m)
unfolding passes
of-count t m = grind nats

commit-some : (t : ℕ) (ms : List Msg) → 1 ≤ among (Commits t) ms → (n : ℕ) × (1 ≤ among (CommitOf t n) ms)
unfolding among
commit-some t [] x = absurd (omega arith)
commit-some t (m ∷ ms) x = go (passes (Commits t) m) refl (commit-some t ms)
  where
    go : (b : Bool) → passes (Commits t) m ≡ b → (1 ≤ among (Commits t) ms → (n : ℕ) × (1 ≤ among (CommitOf t n) ms))
        → (n : ℕ) × (1 ≤ num (passes (CommitOf t n) m) + among (CommitOf t n) ms)
    go true q f = let o : num (passes (Commits t) m) ≡ 1 = ap num q in (count_of m, omega (arith, of-count))
    go false q f = let o : num (passes (Commits t) m) ≡ 0 = ap num q in let r = f (omega arith) in (r.0, omega arith)

-- a core whose directories are all ready has marked what its stores name
commit-writes : (sh : Shape) (c : Cache) (u d t : ℕ) → 1 ≤ among (Commits t) (commit_sends sh c u (Dir d))
    → any_below (λ l. d == home sh l && is_modified c l) (lines sh) ≡ true
unfolding commit_sends writes_at among passes
commit-writes sh c u d t x = grind nats

storing-ready : (sh : Shape) (c d t u : ℕ) (s : CoreState) → s.phase ≡ Ready u → OneCore sh s → StoresAll sh c d t s (commit sh c u s)
unfolding commit noted marked_by has_marked stores_line
storing-ready sh c d t u s ph h x = record {
  commit = noted u c s;
  noted = refl;
  tid = same;
  core = refl;
  held = mine s.phase (has-ready ph) same;
  stored = sym (stored-any sh d s.stores (λ l. d == home sh l && is_modified s.cache l) line) ∙ commit-writes sh s.cache u d t x;
  marks = marks;
  right =
      λ l. omega (arith, few-masked, (told-commit sh s.cache u d t l).1);
  before = λ l. before l (stored-cases sh d s.stores l);
}
  where
    sent : (n : ℕ) × (1 ≤ among (CommitOf t n) (commit_sends sh s.cache u (Dir d)))
    sent = commit-some t (commit_sends sh s.cache u (Dir d)) x

    same : u ≡ t
    same = (is-commit sh s.cache u d t sent.0 sent.1).0

    owing : s.owing d ≡ false
    owing = h.owing d (rw ph)

    line : (l : ℕ) → num (nat_lt l (lines sh) && (d == home sh l && is_modified s.cache l)) ≡ num (nat_lt 0 (stored_mask sh d s.stores l))
    line l = rw (modified-line sh.base s.cache s.stores l (unspilled sh s.cache s.spilled s.stores (rw ph at h.words)))
        (stored-line sh d s.stores l)

    marks : (l : ℕ)
        → among (MarkOf t l) (commit_sends sh s.cache u (Dir d)) + num
        (has_marked s.phase && (not (s.owing d) && (nat_lt l (lines sh) && (d == home sh l && is_modified s.cache l)))) ≡ num
        (nat_lt 0 (stored_mask sh d s.stores l))
    marks l = rw (ph, owing) (omega (arith, (told-commit sh s.cache u d t l).1, line))

    before : (l : ℕ) → (stored_mask sh d s.stores l ≡ stores_in sh.base s.stores l) ⊎ (stored_mask sh d s.stores l ≡ 0)
        → (num (has_marked s.phase && (not (s.owing d) && (nat_lt l (lines sh) && (d == home sh l && is_modified s.cache l)))) ≡ 0)
        ⊎ (stored_mask sh d s.stores l ≡ modified_mask s.cache l)
    before l (inl e) = inr (e ∙ modified-stored sh.base s.cache s.stores l (unspilled sh s.cache s.spilled s.stores (rw ph at h.words)))
    before l (inr e) = let z : num (nat_lt 0 (stored_mask sh d s.stores l)) ≡ 0 = rw e in inl (omega (arith, marks l))

-- a core alone marks what its stores name
alone-masked : (sh : Shape) (c : Cache) (sp : Spilled) (u d t l : ℕ)
    → among (MarkMask t l (written_mask c sp l)) (solo_sends sh c sp u (Dir d)) ≡ 0
unfolding solo_sends solo_marks_or_skip solo_write_backs among passes
alone-masked sh c sp u d t l = grind (nats, among-flat_map_none, own-mask, among-append)

alone-writes : (sh : Shape) (c : Cache) (sp : Spilled) (u d t : ℕ) → 1 ≤ among (Commits t) (solo_sends sh c sp u (Dir d))
    → any_below (λ l. d == home sh l && is_written c sp l) (lines sh) ≡ true
unfolding solo_sends solo_marks_or_skip solo_write_backs solo_writes_at among passes
alone-writes sh c sp u d t x = grind (nats, among-flat_map_none, among-append)

alone : (u : ℕ) (q : Phase) → q ≡ Solo u → has_marked q ≡ false
unfolding has_marked
alone u q e = rw e

storing-alone : {sh : Shape} (c d t u : ℕ) (s r : CoreState) {o : Out} → s.phase ≡ Solo u → o.commit ≡ Some (noted u c r)
    → r.stores ≡ s.stores → o.sends ≡ solo_sends sh s.cache s.spilled u → OneCore sh s → StoresAll sh c d t s o
unfolding noted
storing-alone {sh} c d t u s r ph cm st se h x = record {
  commit = noted u c r;
  noted = cm;
  tid = same;
  core = refl;
  held = mine s.phase (has-solo ph) same;
  stored = rw st (sym (stored-any sh d s.stores (λ l. d == home sh l && is_written s.cache s.spilled l) line)
      ∙ alone-writes sh s.cache s.spilled u d t (rw se at x));
  marks = λ l. rw (se, st) (omega (arith, marks, nothing));
  right = λ l. rw (se, st) (right l (stored-cases sh d s.stores l));
  before = λ l. inl (nothing l);
}
  where
    all : List Msg
    all = solo_sends sh s.cache s.spilled u (Dir d)

    sent : (n : ℕ) × (1 ≤ among (CommitOf t n) all)
    sent = commit-some t all (rw se at x)

    same : u ≡ t
    same = (is-alone sh s.cache s.spilled u d t sent.0 sent.1).0

    nothing : (l : ℕ) → marked_by sh s d l ≡ 0
    nothing l = unmarked sh s d l (alone u s.phase ph)

    line : (l : ℕ) → num (nat_lt l (lines sh) && (d == home sh l && is_written s.cache s.spilled l)) ≡ num
        (nat_lt 0 (stored_mask sh d s.stores l))
    line l = rw (written-line sh.base s.cache s.spilled s.stores l h.words.named) (stored-line sh d s.stores l)

    marks : (l : ℕ) → among (MarkOf t l) all ≡ num (nat_lt 0 (stored_mask sh d s.stores l))
    marks l = omega (arith, (is-alone sh s.cache s.spilled u d t sent.0 sent.1).2 l, line)

    right : (l : ℕ) → (stored_mask sh d s.stores l ≡ stores_in sh.base s.stores l) ⊎ (stored_mask sh d s.stores l ≡ 0)
        → among (MarkMask t l (stored_mask sh d s.stores l)) all ≡ 0
    right l (inl e) = rw (e ∙ written-stored sh.base s.cache s.spilled s.stores l h.words.named) (alone-masked sh s.cache s.spilled u d t l)
    right l (inr e) = let z : num (nat_lt 0 (stored_mask sh d s.stores l)) ≡ 0 = rw e in
        omega (arith, few-masked, marks)

pub storing-exec : {sh : Shape} (p : Program) (c d t : ℕ) {s : CoreState} → OneCore sh s
    → IfSome (core_exec sh p c s) (StoresAll sh c d t s)
unfolding passes solo_commit
storing-exec {sh} p c d t {s} h = each-exec sh p c s (StoresAll sh c d t s) go
  where
    go : (x : Did sh p c s) → StoresAll sh c d t s (out x)
    go (Ends_alone u l o f q i) = storing-alone c d t u s (after_end s l o) q refl refl refl h
    go (Commits_now u e) = storing-ready sh c d t u s e h
    go x = storing-none sh c d t s (out x) (quiet sh s AnyCommit (said x) (λ y. refl) d)

pub storing-evict : (sh : Shape) (x y c d t : ℕ) (s : CoreState) → IfSome (core_evict sh x y s) (StoresAll sh c d t s)
unfolding passes
storing-evict sh x y c d t s = each-evict sh x y s (StoresAll sh c d t s)
    (λ k q u z. storing-none sh c d t s (emptied sh x y k s) (quiet sh s AnyCommit (Empties k) (λ y. refl) d))

pub storing-back : (sh : Shape) (e c d t : ℕ) (s : CoreState) (m : Msg) → IfSome (from_dir sh e s m) (StoresAll sh c d t s)
storing-back sh e c d t s m = each-back sh e s (λ m o. StoresAll sh c d t s o) (λ y. storing-none sh c d t s (heard y) (heard-free y d)) m
