-- The way of a TID by its parts, and what each of a core's rules says of its TID: where it writes nothing it skips it, and where it has
-- stored it commits it.
use Rattle.theorem_serial.proofs
use proofs.Names
use Names.{ℕ, zero, suc, ◌+◌, ◌≡◌, ◌≤◌, Bool, true, false, List, [], ◌∷◌, ◌==◌, ◌&&◌, Some, None, nat_lt, nat_le, if◌then◌else◌, arith}
use Names.{refl, num, is_skipped, Msg, Shape, sum_below, World, Link, Kind, Resolves, Skips, Aborts, Commits, live, among, passes, Pair}
use Names.{share, sum_of, part, handled, ResolvedAt, Way, Untold, Skipped, Aborted, Committed, told_by, part_in, kept_in, WayAt, nats}
use Names.{tid_at, ◌<◌, count_below, Dir, Skip, Mark, Commit, WriteBack, home, lines, Cache, writes_at, Spilled, commit_sends, solo_sends}
use Names.{solo_marks_or_skip, solo_write_backs, solo_writes_at, is_written, not, IfSome, sym, ◌⊎◌, inl, inr, Noted, Program, Outcome}
use Names.{any_below, Fill, ProbeReply, DataReq, Inv, CoreState, Phase, Running, AwaitTid, DoomedTid, Probing, Ready, Overflowing, Solo}
use Names.{Out, commit, committed_core, noted, phase_after_commit, core_exec, core_evict, grant, grant_in_phase, grant_sends, from_dir}
use Names.{probing_or_ready, is_probed, all_replied, put, Words, OneCore, has_tid, live_way, commit_way, Local, solo_commit}
use proofs.Counts.{among-append, among-flat_map_none}
use proofs.OneCore.{Steady, did-steady, ignored-steady, fill-steady, data-steady, Hurt, Unhurt, Rolled, Doomed, Aborted as AbortsAll}
use proofs.OneCore.{Gave_up, Invalidated, invalidate-cases, Replied, Ignored, Probed, Left_alone, reply-cases, steady-emptied, Acts}
use proofs.OneCore.{Commits_now, Did, each-exec, out, each-evict, writes_at-same, Ends_alone, Ends_run, Room_wanted, after_end}
use proofs.Marks.CoreMarks.{stored-solo, stored-written}

-- Where a TID is, split by the ways, and what its core's messages make of it.

-- a word on a TID is a Skip, an Abort or a Commit
one-said : (t : ℕ) (m : Msg) → num (passes (Resolves t) m) ≡ num (passes (Skips t) m) + num (passes (Aborts t) m) + num
    (passes (Commits t) m)
unfolding passes
one-said t m = grind nats

among-said : (t : ℕ) (ms : List Msg) → among (Resolves t) ms ≡ among (Skips t) ms + among (Aborts t) ms + among (Commits t) ms
unfolding among
among-said t [] = refl
among-said t (m ∷ ms) = omega (arith, one-said, among-said t ms)

live-said : (t : ℕ) (l : Link) → live (Resolves t) l ≡ live (Skips t) l + live (Aborts t) l + live (Commits t) l
unfolding live
live-said t [] = refl
live-said t (None ∷ l) = live-said t l
live-said t (Some m ∷ l) = omega (arith, one-said, live-said t l)

part-split : (sh : Shape) (d t : ℕ) (v : Pair)
    → part sh d t v ≡ part_in Untold sh d t v + part_in Skipped sh d t v + part_in Aborted sh d t v + part_in Committed sh d t v
unfolding part part_in
part-split sh d t v = omega (arith, live-said)

-- the sum of the cores' parts of a TID in a way
abbrev pub parts_in : Way → Shape → World → (dir tid : ℕ) → ℕ
parts_in y sh w d t = sum_of (part_in y sh d t) sh.cores w d

parts-split : (sh : Shape) (w : World) (d t n : ℕ)
    → sum_of (part sh d t) n w d ≡ sum_of (part_in Untold sh d t) n w d + sum_of (part_in Skipped sh d t) n w d + sum_of
    (part_in Aborted sh d t) n w d + sum_of (part_in Committed sh d t) n w d
unfolding sum_below share
parts-split sh w d t zero = refl
parts-split sh w d t (suc n) = omega (arith, parts-split sh w d t n, part-split)

-- where a TID is: by the ways
pub resolved-split : (sh : Shape) (w : World) (d t : ℕ) → ResolvedAt sh w d t
    → parts_in Untold sh w d t + parts_in Skipped sh w d t + parts_in Aborted sh w d t + parts_in Committed sh w d t + num
    (nat_le w.next t) + (num (nat_lt t (tid_at w d)) + num (is_skipped (w.dirs d).serving t) + num
    ((t == tid_at w d) && nat_lt 0 (w.dirs d).owed)) ≡ 1
unfolding handled
resolved-split sh w d t r = omega (arith, parts-split)

-- what messages of its core add to and take from its places
abbrev pub gained : List Msg → (tid : ℕ) → Way → ℕ
gained ms t Untold = 0
gained ms t Skipped = among (Skips t) ms
gained ms t Aborted = among (Aborts t) ms
gained ms t Committed = among (Commits t) ms

abbrev pub lost : List Msg → (tid : ℕ) → Way → ℕ
lost ms t Untold = among (Resolves t) ms
lost ms t _ = 0

-- the core's messages take the TID from the places of one way to those of another
pub told-moved : (sh : Shape) (w v : World) (d t : ℕ) (ms : List Msg) (y : Way) → v.dirs d ≡ w.dirs d → v.next ≡ w.next
    → ((z : Way) → parts_in z sh v d t + lost ms t z ≡ parts_in z sh w d t + gained ms t z)
    → ResolvedAt sh w d t → WayAt sh w d t y → WayAt sh v d t (told_by ms t y)
unfolding told_by kept_in
told-moved sh w v d t ms y e n h r k = go (nat_lt 0 (among (Skips t) ms)) refl (nat_lt 0 (among (Aborts t) ms)) refl
    (nat_lt 0 (among (Commits t) ms)) refl
  where
    here : (z : Way) → kept_in z v.next (v.dirs d) t ≡ kept_in z w.next (w.dirs d) t
    here z = rw (e, n)

    none : (k : Kind) → nat_lt 0 (among k ms) ≡ false → among k ms ≡ 0
    none k q = grind nats

    some : (k : Kind) → nat_lt 0 (among k ms) ≡ true → 1 ≤ among k ms
    some k q = grind nats

    same : (z : Way) → among (Skips t) ms ≡ 0 → among (Aborts t) ms ≡ 0 → among (Commits t) ms ≡ 0 → WayAt sh w d t z → WayAt sh v d t z
    same Untold a b c q = omega (arith, here, h, among-said)
    same Skipped a b c q = omega (arith, here Skipped, h Skipped)
    same Aborted a b c q = omega (arith, here Aborted, h Aborted)
    same Committed a b c q = omega (arith, here Committed, h Committed)

    -- what it was before, in numbers
    was : parts_in Untold sh w d t + parts_in Skipped sh w d t + parts_in Aborted sh w d t + parts_in Committed sh w d t + num
        (nat_le w.next t) + (num (nat_lt t (tid_at w d)) + num (is_skipped (w.dirs d).serving t) + num
        ((t == tid_at w d) && nat_lt 0 (w.dirs d).owed)) ≡ 1
    was = resolved-split sh w d t r

    go : (a : Bool) → nat_lt 0 (among (Skips t) ms) ≡ a → (b : Bool) → nat_lt 0 (among (Aborts t) ms) ≡ b → (c : Bool)
        → nat_lt 0 (among (Commits t) ms) ≡ c
        → WayAt sh v d t (if a then Skipped else (if b then Aborted else (if c then Committed else y)))
    go true p b q c o = omega (arith, some (Skips t) p, was, here Skipped, h Untold, h Skipped, among-said t ms)
    go false p true q c o = omega (arith, some (Aborts t) q, was, here Aborted, h Untold, h Aborted, among-said t ms)
    go false p false q true o = omega (arith, some (Commits t) o, was, here Committed, h Untold, h Committed, among-said t ms)
    go false p false q false o = same y (none (Skips t) p) (none (Aborts t) q) (none (Commits t) o) k

-- what messages of a kind make of a way
pub told-none : (ms : List Msg) (t : ℕ) (y : Way) → among (Resolves t) ms ≡ 0 → told_by ms t y ≡ y
unfolding told_by
told-none ms t y h =
    let a : among (Skips t) ms ≡ 0 = omega (arith, among-said) in
    let b : among (Aborts t) ms ≡ 0 = omega (arith, among-said) in
    let c : among (Commits t) ms ≡ 0 = omega (arith, among-said) in
    rw (a, b, c)

pub told-nothing : (t : ℕ) (y : Way) → told_by [] t y ≡ y
unfolding told_by among
told-nothing t y = refl

pub told-skip : (ms : List Msg) (t : ℕ) (y : Way) → 1 ≤ among (Skips t) ms → told_by ms t y ≡ Skipped
unfolding told_by
told-skip ms t y h = let a : nat_lt 0 (among (Skips t) ms) ≡ true = grind nats in rw a

pub told-commit : (ms : List Msg) (t : ℕ) (y : Way) → among (Skips t) ms ≡ 0 → among (Aborts t) ms ≡ 0 → 1 ≤ among (Commits t) ms
    → told_by ms t y ≡ Committed
unfolding told_by
told-commit ms t y a b h = let c : nat_lt 0 (among (Commits t) ms) ≡ true = grind nats in rw (a, b, c)

-- the way is the one in which the TID has a place
pub in-way : (sh : Shape) (w : World) (d t : ℕ) {y z : Way} → ResolvedAt sh w d t → WayAt sh w d t y → 1 ≤ parts_in z sh w d t → y ≡ z
unfolding kept_in
in-way sh w d t {y} {z} r h l = go y z h l
  where
    was : parts_in Untold sh w d t + parts_in Skipped sh w d t + parts_in Aborted sh w d t + parts_in Committed sh w d t + num
        (nat_le w.next t) + (num (nat_lt t (tid_at w d)) + num (is_skipped (w.dirs d).serving t) + num
        ((t == tid_at w d) && nat_lt 0 (w.dirs d).owed)) ≡ 1
    was = resolved-split sh w d t r

    go : (y z : Way) → WayAt sh w d t y → 1 ≤ parts_in z sh w d t → y ≡ z
    go Untold Untold h l = refl
    go Untold Committed h l = absurd (omega (arith, was))
    go Skipped Untold h l = absurd (omega (arith, h, l, was))
    go Skipped Skipped h l = refl
    go Skipped Committed h l = absurd (omega (arith, was))
    go Aborted Untold h l = absurd (omega (arith, h, l, was))
    go Aborted Aborted h l = refl
    go Aborted Committed h l = absurd (omega (arith, was))
    go Committed Untold h l = absurd (omega (arith, h, l, was))
    go Committed Committed h l = refl
    go _ Skipped h l = absurd (omega (arith, was))
    go _ Aborted h l = absurd (omega (arith, was))

-- What each of a core's rules says of its TID: it skips it at directories where it writes nothing, and commits it where it has stored.

-- What a core with a TID says of it: it skips it at directories where it writes nothing, and commits it where it has stored.

-- what it sends as it commits

-- nothing of this kind among Marks and spilled words
record Apart (k : Kind) : Type 0 where
  marks : (l m u : ℕ) → num (passes k (Mark l m u)) ≡ 0
  backs : (l m : ℕ) (ws : List ℕ) (u : ℕ) → num (passes k (WriteBack l m ws u)) ≡ 0

skips-apart : (t : ℕ) → Apart (Skips t)
unfolding passes
skips-apart t = record { marks = λ l m u. refl; backs = λ l m ws u. refl }

aborts-apart : (t : ℕ) → Apart (Aborts t)
unfolding passes
aborts-apart t = record { marks = λ l m u. refl; backs = λ l m ws u. refl }

commits-apart : (t : ℕ) → Apart (Commits t)
unfolding passes
commits-apart t = record { marks = λ l m u. refl; backs = λ l m ws u. refl }

-- alone: as many of a kind as there are words on the TID
solo-said : (sh : Shape) (c : Cache) (sp : Spilled) (u d : ℕ) (k : Kind) → Apart k → d < sh.dirs
    → among k (solo_sends sh c sp u (Dir d))
    ≡ (if solo_writes_at sh c sp d then num (passes k (Commit u (count_below (λ l. d == home sh l && is_written c sp l) (lines sh))))
    else num (passes k (Skip u)))
unfolding solo_sends solo_marks_or_skip solo_write_backs among
solo-said sh c sp u d k a l = grind (nats, among-flat_map_none, among-append)

solo-told : (sh : Shape) (c : Cache) (sp : Spilled) (u d : ℕ) (y : Way) → d < sh.dirs
    → told_by (solo_sends sh c sp u (Dir d)) u y ≡ (if solo_writes_at sh c sp d then Committed else Skipped)
unfolding passes
solo-told sh c sp u d y l = grind (nats, solo-said, skips-apart, aborts-apart, commits-apart, told-commit, told-skip)

-- ready: where it writes nothing it has skipped before
ready-told : (sh : Shape) (c : Cache) (u d : ℕ) → d < sh.dirs
    → told_by (commit_sends sh c u (Dir d)) u (if writes_at sh c d then Untold else Skipped)
    ≡ (if writes_at sh c d then Committed else Skipped)
unfolding commit_sends told_by among passes
ready-told sh c u d l = grind nats

-- What each of a core's rules says of its TID: where it goes on with it, it has skipped it at directories where it writes nothing;
-- and where it commits, it has spoken at each directory.

-- a core in this phase has skipped its TID where it writes nothing
abbrev pub skips_here : Phase → (written : Bool) → ℕ → Bool
skips_here (Probing u) written t = (u == t) && not written
skips_here (Ready u) written t = (u == t) && not written
skips_here _ written t = false

-- it commits its own TID, and says so or gives it up
pub record TellsCommit (sh : Shape) (s : CoreState) (o : Out) (n : Noted) : Type 0 where
  pub has : has_tid s.phase n.tid.0 ≡ true
  pub told : (d : ℕ) → d < sh.dirs → told_by (o.sends (Dir d)) n.tid.0 (live_way s.phase (writes_at sh s.cache d)) ≡ commit_way sh n d

pub record Tells (sh : Shape) (s : CoreState) (o : Out) : Type 0 where
  pub skips : (d t : ℕ) → d < sh.dirs → skips_here o.core.phase (writes_at sh o.core.cache d) t ≡ true
      → (skips_here s.phase (writes_at sh s.cache d) t ≡ true) ⊎ (1 ≤ among (Skips t) (o.sends (Dir d)))
  pub commits : IfSome o.commit (TellsCommit sh s o)

tells-steady : (sh : Shape) {s : CoreState} {o : Out} → Steady s o → Tells sh s o
tells-steady sh {s} {o} y = record { skips = λ d t l e. inl (go d t s.phase refl (rw y.phase at e)); commits = rw y.commit tt }
  where
    written : (Acts s.phase → ⊥) → (d : ℕ) → writes_at sh o.core.cache d ≡ writes_at sh s.cache d
    written h d = writes_at-same sh o.core.cache s.cache d (y.modified h)

    go : (d t : ℕ) (q : Phase) → s.phase ≡ q → skips_here q (writes_at sh o.core.cache d) t ≡ true
        → skips_here q (writes_at sh s.cache d) t ≡ true
    go d t (Probing u) g e = rw (sym (written (λ a. rw g at a) d)) e
    go d t (Ready u) g e = rw (sym (written (λ a. rw g at a) d)) e
    go d t _ g e = absurd (cc)

-- it goes on without its TID
tells-none : {sh : Shape} {s : CoreState} {o : Out} (q : Phase) → o.core.phase ≡ q → ((b : Bool) (t : ℕ) → skips_here q b t ≡ false)
    → IfSome o.commit (TellsCommit sh s o) → Tells sh s o
tells-none {sh} {o} q e h c =
    record {
      skips = λ d t l x.
          absurd (let z = h (writes_at sh o.core.cache d) t in let y : skips_here q (writes_at sh o.core.cache d) t ≡ true = rw e at x in
          cc);
      commits = c;
    }

skips-after : (e : Outcome) (b : Bool) (t : ℕ) → skips_here (phase_after_commit e) b t ≡ false
skips-after a b t = grind nats

tells-alone : (sh : Shape) (c u : ℕ) (s : CoreState) (l : Local) (e : Outcome) → s.phase ≡ Solo u → OneCore sh s
    → Tells sh s (solo_commit sh c u (after_end s l e))
unfolding solo_commit committed_core noted has_tid live_way
tells-alone sh c u s l e q h = tells-none (phase_after_commit e) refl (skips-after e) (record {
  has = rw q (grind nats);
  told = λ d l. rw q (rw (← stored-solo sh s.cache s.spilled s.stores d words.named) (solo-told sh s.cache s.spilled u d Untold l));
})
  where
    words : Words sh true s.cache s.spilled s.stores
    words = rw q at h.words

tells-committed : (sh : Shape) (id u : ℕ) (s : CoreState) → s.phase ≡ Ready u → OneCore sh s → Tells sh s (commit sh id u s)
unfolding commit committed_core noted has_tid live_way
tells-committed sh id u s e h = tells-none (phase_after_commit s.ended) refl (skips-after s.ended) (record {
  has = rw e (grind nats);
  told = λ d l. rw e (rw (← stored-written sh s.cache s.spilled s.stores d (rw e at h.words)) (ready-told sh s.cache u d l));
})

pub tells-exec : {sh : Shape} (p : Program) (c : ℕ) {s : CoreState} → OneCore sh s → IfSome (core_exec sh p c s) (Tells sh s)
tells-exec {sh} p c {s} h = each-exec sh p c s (Tells sh s) go
  where
    go : (x : Did sh p c s) → Tells sh s (out x)
    go (Commits_now u e) = tells-committed sh c u s e h
    go (Room_wanted r i) = tells-none (Overflowing None) refl (λ b t. refl) tt
    go (Ends_run l e f r i) = tells-none AwaitTid refl (λ b t. refl) tt
    go (Ends_alone u l e f r i) = tells-alone sh c u s l e r h
    go x = tells-steady sh (did-steady x)

pub tells-evict : (sh : Shape) (x y : ℕ) (s : CoreState) → IfSome (core_evict sh x y s) (Tells sh s)
tells-evict sh x y s = each-evict sh x y s (Tells sh s) (λ k q u z. tells-steady sh (steady-emptied sh x y s k q u z))

-- a granted TID is skipped where nothing is written
skips-granted : (sh : Shape) (c : Cache) (b : Bool) (u d t : ℕ) → d < sh.dirs
    → skips_here (probing_or_ready b u) (writes_at sh c d) t ≡ true → 1 ≤ among (Skips t) (grant_sends sh c u (Dir d))
unfolding grant_sends among passes
skips-granted sh c b u d t l e = grind nats

pub tells-grant : {sh : Shape} (u : ℕ) {s : CoreState} → Tells sh s (grant sh u s)
unfolding grant
tells-grant {sh} u {s} = go s.phase refl
  where
    go : (q : Phase) → s.phase ≡ q → Tells sh s (grant_in_phase sh u s q)
    go AwaitTid e = record {
      skips = λ d t l x. inr (skips-granted sh s.cache (any_below (is_probed sh s.cache) sh.dirs) u d t l x);
      commits = tt;
    }
    go DoomedTid e = tells-none Running refl (λ b t. refl) tt
    go (Overflowing None) e = tells-none (Overflowing (Some u)) refl (λ b t. refl) tt
    go _ e = tells-steady sh (ignored-steady s)

tells-replied : (sh : Shape) (e u : ℕ) (s : CoreState) {o : Out} → Replied sh e u s o → Tells sh s o
tells-replied sh e u s (Ignored q n) = rw q (tells-steady sh (ignored-steady s))
tells-replied sh e u s {o} (Probed g f ph ow ca se cm) =
    record { skips = λ d t l x. inl (go d t (all_replied sh (put s.owing e false)) (rw ph at x)); commits = rw cm tt }
  where
    go : (d t : ℕ) (b : Bool) → skips_here (if b then Ready u else Probing u) (writes_at sh o.core.cache d) t ≡ true
        → skips_here s.phase (writes_at sh s.cache d) t ≡ true
    go d t a x = grind nats
tells-replied sh e u s (Left_alone g f ph ow mo se cm) =
    tells-none (if all_replied sh (put s.owing e false) then Solo u else Overflowing (Some u)) ph
    (none (all_replied sh (put s.owing e false))) (rw cm tt)
  where
    none : (a b : Bool) (t : ℕ) → skips_here (if a then Solo u else Overflowing (Some u)) b t ≡ false
    none a b t = grind nats

tells-hurt : {sh : Shape} (l : ℕ) (s : CoreState) {o : Out} → Invalidated sh l s o → Tells sh s o
tells-hurt {sh} l s {o} i = go i.hurt
  where
    quiet : IfSome o.commit (TellsCommit sh s o)
    quiet = rw i.commit tt

    go : Hurt sh s o.core i.sends → Tells sh s o
    go (Unhurt ph ow mo re se) = record {
      skips = λ d t l x. inl (rw (← writes_at-same sh o.core.cache s.cache d mo) (rw ph at x));
      commits = quiet;
    }
    go (Rolled ph ph' ow se) = tells-none Running ph' (λ b t. refl) quiet
    go (Doomed ph ph' ow se) = tells-none DoomedTid ph' (λ b t. refl) quiet
    go (AbortsAll u ph ph' ow se) = tells-none Running ph' (λ b t. refl) quiet
    go (Gave_up u ph ph' ow se) = tells-none Running ph' (λ b t. refl) quiet

pub tells-back : (sh : Shape) (e : ℕ) (s : CoreState) (m : Msg) → IfSome (from_dir sh e s m) (Tells sh s)
tells-back sh e s (ProbeReply u v) = tells-replied sh e u s (reply-cases sh e u s)
tells-back sh e s (Fill l ws) = tells-steady sh (fill-steady l ws s)
tells-back sh e s (DataReq l) = tells-steady sh (data-steady sh l s)
tells-back sh e s (Inv l m u) = tells-hurt l s (invalidate-cases sh l m u s)
tells-back sh e s _ = tt
