-- What a core sends that directories count: Commits, to those that have reached its TID, and acknowledgements; then what a core owes.
use Rattle.rules_maps.specs.Words.{put}
use Rattle.theorem_serial.proofs
use proofs.Names
use Names.{got, ℕ, ◌≡◌, ◌<◌, ◌≤◌, true, false, List, IfSome, nat_lt, arith, refl, Program, num, Dir, Msg, Shape, Cache, writes_at}
use Names.{CoreState, Ready, Link, Out, commit, commit_sends, solo_sends, core_exec, core_evict, grant, from_dir, CommitsAbove, AnyCommit}
use Names.{among, live, passes, Reached, cases_lt, inl, inr, solo_commit, nats, ◌==◌, Spilled, noted, solo_marks_or_skip, solo_write_backs}
use Names.{Commits, zero, suc, ◌%◌, Bool, [], ◌∷◌, ◌++◌, ◌&&◌, None, cond, if◌then◌else◌, flat_map, flat_map-append, those, count_below}
use Names.{Fill, Skip, ProbeReply, Mark, Commit, WriteBack, DataReq, Inv, InvAck, home, lines, is_modified, modified_mask, written_lines}
use Names.{holds, spilled_mask, spilled_words, Phase, AwaitTid, DoomedTid, Overflowing, Sends, to, marks_for, skip_all, probe_all}
use Names.{abort_written, solo_writes_at, is_written, written_mask, grant_in_phase, grant_sends, Kind, Acks, MarksAway, AnyResolve}
use Names.{Protocol, ◌||◌, Some, ap₂, Local, Outcome, any_below, Event, reads_at, any_below-at, World, Running, Probing, Solo, start}
use Names.{core_start, committed_core, phase_after_commit, is_probed, probing_or_ready, all_replied, Answer, Waits, dir_deliver, core_moves}
use Names.{core_takes, dir_takes, dir_asks, vendor_gives, step, OwingFits, awaits_replies, asks_dir, tested}
use proofs.Counts.{among-fewer, live-fewer, among-append, among-flat_map_none, OfAnswer, step_cases}
use proofs.OneCore.{quiet, Empties, Flushes, Silent, Tells_alone, say, Commits_now, Did, each-exec, out, each-evict, emptied, Ends_alone}
use proofs.OneCore.{Given_none, Granted, Hands_out, Heard, each-back, each-grant, granted, granted_said, heard, heard-quiet, said, Ends_run}
use proofs.OneCore.{Room_wanted, Steady, did-steady, ignored-steady, fill-steady, data-steady, Hurt, Unhurt, Rolled, Doomed, Aborted}
use proofs.OneCore.{Gave_up, Invalidated, invalidate-cases, Replied, Ignored, Probed, Left_alone, reply-cases, steady-emptied, none-below}
use proofs.OneCore.{all-replied, reads_at-same, Acts, writes_at-same}
use proofs.Tids.{noted_tid}

-- What a core sends as a commit: only to directories that have reached its TID, and of what it notes the commit of.

-- A core sends a Commit only to directories that have reached its TID.

-- no Commit of a TID above x
abbrev pub Served : (dir x : ℕ) → Out → Type 0
Served d x o = among (CommitsAbove x) (o.sends (Dir d)) ≡ 0

above-any : (x : ℕ) (m : Msg) → num (passes (CommitsAbove x) m) ≤ num (passes AnyCommit m)
unfolding passes
above-any x m = grind nats

few-above : (x : ℕ) (ms : List Msg) → among (CommitsAbove x) ms ≤ among AnyCommit ms
few-above x ms = among-fewer (CommitsAbove x) AnyCommit (above-any x) ms

served-free : (d x : ℕ) (o : Out) → among AnyCommit (o.sends (Dir d)) ≡ 0 → Served d x o
served-free d x o h = omega (arith, few-above)

served-commit : (sh : Shape) (c : Cache) (t d x : ℕ) → (d < sh.dirs → writes_at sh c d ≡ true → t ≤ x)
    → among (CommitsAbove x) (commit_sends sh c t (Dir d)) ≡ 0
unfolding commit_sends among passes
served-commit sh c t d x h = grind nats

served-solo : (sh : Shape) (s : CoreState) (t d x : ℕ) → (d < sh.dirs → t ≤ x)
    → among (CommitsAbove x) (say sh s (Tells_alone t) (Dir d)) ≡ 0
unfolding passes solo_sends among
served-solo sh s t d x h = elim (cases_lt d sh.dirs) [
  | inl l ↦ quiet sh s (CommitsAbove x) (Tells_alone t) (λ y. let i = h l in let z : nat_lt x t ≡ false = grind nats in
      rw z) d
  | inr l ↦ let z : nat_lt d sh.dirs ≡ false = grind nats in rw z
]

pub served-exec : {sh : Shape} (p : Program) (c : ℕ) {d x : ℕ} {s : CoreState} → Reached sh d x s
    → IfSome (core_exec sh p c s) (Served d x)
unfolding commit solo_commit passes
served-exec {sh} p c {d} {x} {s} r = each-exec sh p c s (Served d x) go
  where
    ready : (u : ℕ) → s.phase ≡ Ready u → d < sh.dirs → writes_at sh s.cache d ≡ true → u ≤ x
    ready u e l w = rw e at (r.reached l (rw e (rw w)) (r.replied l (rw e)))

    go : (y : Did sh p c s) → Served d x (out y)
    go (Ends_alone t l o f q i) = served-solo sh s t d x (λ l. rw q at (r.reached l (rw q) (r.replied l (rw q))))
    go (Commits_now u e) = served-commit sh s.cache u d x (ready u e)
    go y = served-free d x (out y) (quiet sh s AnyCommit (said y) (λ z. refl) d)

pub served-evict : (sh : Shape) (y z d x : ℕ) (s : CoreState) → IfSome (core_evict sh y z s) (Served d x)
unfolding passes
served-evict sh y z d x s = each-evict sh y z s (Served d x)
    (λ k q u i. served-free d x (emptied sh y z k s) (quiet sh s AnyCommit (Empties k) (λ z. refl) d))

-- no other event sends a Commit
pub granted-free : (sh : Shape) (u d : ℕ) (s : CoreState) → among AnyCommit ((grant sh u s).sends (Dir d)) ≡ 0
unfolding passes
granted-free sh u d s = each-grant sh u s (λ o. among AnyCommit (o.sends (Dir d)) ≡ 0) go
  where
    go : (y : Granted sh u s) → among AnyCommit ((granted y).sends (Dir d)) ≡ 0
    go (Given_none e) = quiet sh s AnyCommit Silent (λ z. refl) d
    go y = quiet sh s AnyCommit (granted_said y) (λ z. refl) d

pub heard-free : {sh : Shape} {e : ℕ} {s : CoreState} (y : Heard sh e s) (d : ℕ) → among AnyCommit ((heard y).sends (Dir d)) ≡ 0
unfolding passes
heard-free {sh} {s} (Hands_out l) d = quiet sh s AnyCommit (Flushes l) (λ z. refl) d
heard-free y d = heard-quiet AnyCommit y (λ z. refl) (λ b. refl) d

pub served-grant : (sh : Shape) (u d x : ℕ) (s : CoreState) → Served d x (grant sh u s)
served-grant sh u d x s = served-free d x (grant sh u s) (granted-free sh u d s)

pub served-back : (sh : Shape) (e d x : ℕ) (s : CoreState) (m : Msg) → IfSome (from_dir sh e s m) (Served d x)
served-back sh e d x s m = each-back sh e s (λ m o. Served d x o) (λ y. served-free d x (heard y) (heard-free y d)) m

-- fewer Commits are above a larger TID
above-fewer : (a b : ℕ) (m : Msg) → a ≤ b → num (passes (CommitsAbove b) m) ≤ num (passes (CommitsAbove a) m)
unfolding passes
above-fewer a b m l = grind nats

pub fewer-commits : (a b : ℕ) (l : Link) → a ≤ b → live (CommitsAbove b) l ≤ live (CommitsAbove a) l
fewer-commits a b l h = live-fewer (CommitsAbove b) (CommitsAbove a) (λ m. above-fewer a b m h) l

-- What a core sends a Commit of is what it notes the commit of.

-- a Commit is sent of no TID but the one noted
abbrev pub CommitsNoted : Out → Type 0
CommitsNoted o = (d t : ℕ) → among (Commits t) (o.sends (Dir d)) ≤ noted_tid t o.commit

of-any : (t : ℕ) (m : Msg) → num (passes (Commits t) m) ≤ num (passes AnyCommit m)
unfolding passes
of-any t m = grind nats

pub few-of : (t : ℕ) (ms : List Msg) → among (Commits t) ms ≤ among AnyCommit ms
few-of t ms = among-fewer (Commits t) AnyCommit (of-any t) ms

noted-free : (o : Out) → ((d : ℕ) → among AnyCommit (o.sends (Dir d)) ≡ 0) → CommitsNoted o
noted-free o h d t = omega (arith, h, few-of)

of-commit : (sh : Shape) (c : Cache) (u d t : ℕ) → among (Commits t) (commit_sends sh c u (Dir d)) ≤ num (u == t)
unfolding commit_sends among passes
of-commit sh c u d t = grind nats

of-solo : (sh : Shape) (c : Cache) (sp : Spilled) (u d t : ℕ) → among (Commits t) (solo_sends sh c sp u (Dir d)) ≤ num (u == t)
unfolding solo_sends solo_marks_or_skip solo_write_backs among passes
of-solo sh c sp u d t = grind (nats, among-flat_map_none, among-append)

pub noted-exec : (sh : Shape) (p : Program) (c : ℕ) (s : CoreState) → IfSome (core_exec sh p c s) CommitsNoted
unfolding commit solo_commit noted passes
noted-exec sh p c s = each-exec sh p c s CommitsNoted go
  where
    go : (x : Did sh p c s) → CommitsNoted (out x)
    go (Ends_alone t l o f q i) = λ d u. of-solo sh s.cache s.spilled t d u
    go (Commits_now u e) = λ d t. of-commit sh s.cache u d t
    go x = noted-free (out x) (quiet sh s AnyCommit (said x) (λ y. refl))

pub noted-evict : (sh : Shape) (x y : ℕ) (s : CoreState) → IfSome (core_evict sh x y s) CommitsNoted
unfolding passes
noted-evict sh x y s = each-evict sh x y s CommitsNoted
    (λ k q u z. noted-free (emptied sh x y k s) (quiet sh s AnyCommit (Empties k) (λ y. refl)))

pub noted-grant : (sh : Shape) (u : ℕ) (s : CoreState) → CommitsNoted (grant sh u s)
noted-grant sh u s = noted-free (grant sh u s) (λ d. granted-free sh u d s)

pub noted-back : (sh : Shape) (e : ℕ) (s : CoreState) (m : Msg) → IfSome (from_dir sh e s m) CommitsNoted
noted-back sh e s m = each-back sh e s (λ m o. CommitsNoted o) (λ y. noted-free (heard y) (heard-free y)) m

-- A core acknowledges nothing but an invalidation, and marks lines at their homes alone.

-- no acknowledgement, no mark of a line that is at home elsewhere, and no word on a TID to a directory that the machine
-- doesn't have
pub record Clean (sh : Shape) (d : ℕ) (ms : List Msg) : Type 0 where
  pub acks : among Acks ms ≡ 0
  pub marks : among (MarksAway sh.dirs d) ms ≡ 0
  pub far : sh.dirs ≤ d → among AnyResolve ms ≡ 0

abbrev pub CleanOut : Shape → Out → Type 0
CleanOut sh o = (d : ℕ) → Clean sh d (o.sends (Dir d))

-- of what is sent for each number that passes a test
pub among-those_none : (k : Kind) (f : ℕ → List Msg) (p : ℕ → Bool) (n : ℕ) → ((l : ℕ) → p l ≡ true → among k (f l) ≡ 0)
    → among k (flat_map f (those p n)) ≡ 0
unfolding among those
among-those_none k f p zero h = refl
among-those_none k f p (suc n) h = rw flat_map-append (rw among-append (omega (arith, among-those_none k f p n h, last (p n) refl)))
  where
    last : (b : Bool) → p n ≡ b → among k (flat_map f (cond b (n ∷ []) [])) ≡ 0
    last a q = grind (nats, among-append)

acks-protocol : (m : Msg) → num (passes Acks m) ≤ num (passes Protocol m)
unfolding passes
acks-protocol m = grind nats

marks-protocol : (n d : ℕ) (m : Msg) → num (passes (MarksAway n d) m) ≤ num (passes Protocol m)
unfolding passes
marks-protocol n d m = grind nats

resolves-protocol : (m : Msg) → num (passes AnyResolve m) ≤ num (passes Protocol m)
unfolding passes
resolves-protocol m = grind nats

clean-quiet : (sh : Shape) (d : ℕ) (ms : List Msg) → among Protocol ms ≡ 0 → Clean sh d ms
unfolding among
clean-quiet sh d [] h = record { acks = refl; marks = refl; far = λ x. refl }
clean-quiet sh d (m ∷ ms) h = let r = clean-quiet sh d ms (omega arith) in record {
  acks = omega (arith, acks-protocol);
  marks = omega (arith, marks-protocol);
  far = λ x. omega (arith, resolves-protocol, r.far);
}

clean-append : {sh : Shape} {d : ℕ} (a b : List Msg) → Clean sh d a → Clean sh d b → Clean sh d (a ++ b)
clean-append {sh} {d} a b x y =
    record {
      acks = omega (arith, among-append);
      marks = omega (arith, among-append);
      far = λ z. omega (arith, among-append, x.far, y.far);
    }

clean-marks : (sh : Shape) (d t : ℕ) (mask : ℕ → ℕ) (p : ℕ → Bool) (n : ℕ) → ((l : ℕ) → p l ≡ true → home sh l ≡ d)
    → Clean sh d (flat_map (λ l. Mark l (mask l) t ∷ []) (those p n))
unfolding among passes
clean-marks sh d t mask p n h = record {
  acks = among-flat_map_none Acks (λ l. Mark l (mask l) t ∷ []) (λ l. refl) (those p n);
  marks = among-those_none (MarksAway sh.dirs d) (λ l. Mark l (mask l) t ∷ []) p n
      (λ l q. let e : l % sh.dirs ≡ d = h l q in let b : ((l % sh.dirs) == d) ≡ true = grind nats in rw b);
  far = λ x. among-flat_map_none AnyResolve (λ l. Mark l (mask l) t ∷ []) (λ l. refl) (those p n);
}

at-home : (d h : ℕ) (b : Bool) → ((d == h) && b) ≡ true → h ≡ d
at-home d h b q = grind nats

clean-marks_for : (sh : Shape) (c : Cache) (t d : ℕ) → Clean sh d (marks_for sh c t d)
unfolding marks_for written_lines
clean-marks_for sh c t d = clean-marks sh d t (modified_mask c) (λ l. d == home sh l && is_modified c l) (lines sh)
    (λ l q. at-home d (home sh l) (is_modified c l) q)

clean-backs : (sh : Shape) (sp : Spilled) (t d : ℕ) → Clean sh d (solo_write_backs sh sp t d)
unfolding solo_write_backs among passes
clean-backs sh sp t d = record {
  acks = among-flat_map_none Acks (λ l. WriteBack l (spilled_mask sp l) (spilled_words sp l) t ∷ [])
      (λ l. refl) (those (λ l. d == home sh l && holds sp l) (lines sh));
  marks = among-flat_map_none (MarksAway sh.dirs d) (λ l. WriteBack l (spilled_mask sp l) (spilled_words sp l) t ∷ [])
      (λ l. refl) (those (λ l. d == home sh l && holds sp l) (lines sh));
  far = λ x. among-flat_map_none AnyResolve (λ l. WriteBack l (spilled_mask sp l) (spilled_words sp l) t ∷ [])
      (λ l. refl) (those (λ l. d == home sh l && holds sp l) (lines sh));
}

clean-solo : (sh : Shape) (c : Cache) (sp : Spilled) (t d : ℕ) → Clean sh d (solo_sends sh c sp t (Dir d))
unfolding solo_sends solo_marks_or_skip among passes
clean-solo sh c sp t d = go (nat_lt d sh.dirs) refl (solo_writes_at sh c sp d)
  where
    go : (a : Bool) → nat_lt d sh.dirs ≡ a → (b : Bool)
        → Clean sh d (if a then (if b then flat_map (λ l. Mark l (written_mask c sp l) t ∷ [])
        (those (λ l. d == home sh l && is_written c sp l) (lines sh))
        ++ Commit t (count_below (λ l. d == home sh l && is_written c sp l) (lines sh)) ∷ [] else Skip t ∷ [])
        ++ solo_write_backs sh sp t d else [])
    go false q b = record { acks = refl; marks = refl; far = λ x. refl }
    go true q false = clean-append (Skip t ∷ []) (solo_write_backs sh sp t d)
        (record { acks = refl; marks = refl; far = λ x. absurd (grind nats) }) (clean-backs sh sp t d)
    go true q true = clean-append _ (solo_write_backs sh sp t d)
        (clean-append _ (Commit t (count_below (λ l. d == home sh l && is_written c sp l) (lines sh)) ∷ [])
        (clean-marks sh d t (written_mask c sp) (λ l. d == home sh l && is_written c sp l) (lines sh)
        (λ l q. at-home d (home sh l) (is_written c sp l) q))
        (record { acks = refl; marks = refl; far = λ x. absurd (grind nats) })) (clean-backs sh sp t d)

clean-commit : (sh : Shape) (c : Cache) (t d : ℕ) → Clean sh d (commit_sends sh c t (Dir d))
unfolding commit_sends among passes
clean-commit sh c t d = record { acks = grind arith; marks = grind arith; far = λ x. grind nats }

clean-abort : (sh : Shape) (c : Cache) (t d : ℕ) → Clean sh d (abort_written sh c t (Dir d))
unfolding abort_written among passes
clean-abort sh c t d = record { acks = grind arith; marks = grind arith; far = λ x. grind nats }

clean-skip : (sh : Shape) (t d : ℕ) → Clean sh d (skip_all sh t (Dir d))
unfolding skip_all among passes
clean-skip sh t d = record { acks = grind arith; marks = grind arith; far = λ x. grind nats }

clean-probe : {sh : Shape} (t d : ℕ) → Clean sh d (probe_all sh t (Dir d))
unfolding probe_all among passes
clean-probe t d = record { acks = grind arith; marks = grind arith; far = λ x. grind nats }

clean-grants : {sh : Shape} (c : Cache) (t d : ℕ) → Clean sh d (grant_sends sh c t (Dir d))
unfolding grant_sends among passes
clean-grants c t d = record { acks = grind arith; marks = grind arith; far = λ x. grind nats }

clean-none : (sh : Shape) (d : ℕ) → Clean sh d []
unfolding among
clean-none sh d = record { acks = refl; marks = refl; far = λ x. refl }

pub clean-steady : (sh : Shape) {s : CoreState} {o : Out} → Steady s o → CleanOut sh o
clean-steady sh {o} y d = clean-quiet sh d (o.sends (Dir d)) (y.quiet d)

pub clean-exec : (sh : Shape) (p : Program) (c : ℕ) (s : CoreState) → IfSome (core_exec sh p c s) (CleanOut sh)
unfolding commit solo_commit
clean-exec sh p c s = each-exec sh p c s (CleanOut sh) go
  where
    go : (x : Did sh p c s) → CleanOut sh (out x)
    go (Commits_now u e) = λ d. clean-commit sh s.cache u d
    go (Room_wanted r i) = λ d. clean-none sh d
    go (Ends_run l e f r i) = λ d. clean-none sh d
    go (Ends_alone u l e f r i) = λ d. clean-solo sh s.cache s.spilled u d
    go x = clean-steady sh (did-steady x)

pub clean-evict : (sh : Shape) (x y : ℕ) (s : CoreState) → IfSome (core_evict sh x y s) (CleanOut sh)
clean-evict sh x y s = each-evict sh x y s (CleanOut sh) (λ k q u z. clean-steady sh (steady-emptied sh x y s k q u z))

pub clean-grant : (sh : Shape) (u : ℕ) (s : CoreState) → CleanOut sh (grant sh u s)
unfolding grant
clean-grant sh u s = go s.phase
  where
    go : (q : Phase) → CleanOut sh (grant_in_phase sh u s q)
    go AwaitTid = clean-grants s.cache u
    go DoomedTid = clean-skip sh u
    go (Overflowing None) = clean-probe u
    go _ = clean-steady sh (ignored-steady s)

pub clean-replied : (sh : Shape) {e u : ℕ} {s : CoreState} {o : Out} → Replied sh e u s o → CleanOut sh o
clean-replied sh {s} (Ignored q n) = rw q (clean-steady sh (ignored-steady s))
clean-replied sh {e} {u} {s} (Probed g f ph ow ca se cm) = rw se (λ d. go d (d == e) refl)
  where
    go : (d : ℕ) (b : Bool) → (d == e) ≡ b → Clean sh d (if b then marks_for sh s.cache u e else [])
    go d true q = let i : d ≡ e = grind nats in rw i (clean-marks_for sh s.cache u e)
    go d false q = clean-none sh d
clean-replied sh (Left_alone g f ph ow mo se cm) = rw se (clean-none sh)

-- an invalidation is acknowledged to the line's home, and nothing else is
pub record AcksHome (sh : Shape) (l d : ℕ) (ms : List Msg) : Type 0 where
  pub acks : among Acks ms ≡ num (d == home sh l)
  pub marks : among (MarksAway sh.dirs d) ms ≡ 0
  pub far : sh.dirs ≤ d → among AnyResolve ms ≡ 0

pub clean-hurt : (sh : Shape) {s r : CoreState} {sends : Sends} (d : ℕ) → Hurt sh s r sends → Clean sh d (sends (Dir d))
clean-hurt sh d (Unhurt ph ow mo re se) = rw (se (Dir d)) (clean-none sh d)
clean-hurt sh d (Rolled ph ph' ow se) = rw (se (Dir d)) (clean-none sh d)
clean-hurt sh d (Doomed ph ph' ow se) = rw (se (Dir d)) (clean-none sh d)
clean-hurt sh {s} d (Aborted u ph ph' ow se) = rw se (clean-abort sh s.cache u d)
clean-hurt sh d (Gave_up u ph ph' ow se) = rw se (clean-skip sh u d)

acks-invalidated : {sh : Shape} (l d : ℕ) (s : CoreState) {o : Out} → Invalidated sh l s o → AcksHome sh l d (o.sends (Dir d))
unfolding among passes
acks-invalidated {sh} l d s i = rw (i.dirs d) (record {
  acks =
      omega (
        arith,
        among-append Acks (i.sends (Dir d)) (to (Dir (home sh l)) (InvAck l i.kept ∷ []) (Dir d)),
        c.acks,
        (one (d == home sh l)).0,
      );
  marks = omega (
    arith,
    among-append (MarksAway sh.dirs d) (i.sends (Dir d)) (to (Dir (home sh l)) (InvAck l i.kept ∷ []) (Dir d)),
    c.marks,
    (one (d == home sh l)).1,
  );
  far = λ x. omega (arith, among-append, c.far, (one (d == home sh l)).2);
})
  where
    c : Clean sh d (i.sends (Dir d))
    c = clean-hurt sh d i.hurt

    one : (b : Bool) → (among Acks (if b then InvAck l i.kept ∷ [] else []) ≡ num b)
        × (among (MarksAway sh.dirs d) (if b then InvAck l i.kept ∷ [] else []) ≡ 0)
        × (among AnyResolve (if b then InvAck l i.kept ∷ [] else []) ≡ 0)
    one true = (refl, refl, refl)
    one false = (refl, refl, refl)

-- what a message of directory e makes a core acknowledge
abbrev pub AcksBack : Shape → (dir : ℕ) → Msg → Out → Type 0
AcksBack sh d (Inv l m u) o = AcksHome sh l d (o.sends (Dir d))
AcksBack sh d m o = Clean sh d (o.sends (Dir d))

pub acks-back : (sh : Shape) (e d : ℕ) (s : CoreState) (m : Msg) → IfSome (from_dir sh e s m) (AcksBack sh d m)
acks-back sh e d s (ProbeReply u v) = clean-replied sh (reply-cases sh e u s) d
acks-back sh e d s (Fill l ws) = clean-steady sh (fill-steady l ws s) d
acks-back sh e d s (DataReq l) = clean-steady sh (data-steady sh l s) d
acks-back sh e d s (Inv l m u) = acks-invalidated l d s (invalidate-cases sh l m u s)
acks-back sh e d s _ = tt

-- Every event keeps which directories owe a core replies: those that it asked, while it waits, and then some does.

abbrev pub KeptOwing : Shape → World → Type 0
KeptOwing sh w = (c : ℕ) → OwingFits sh (w.cores c)

-- no reply is owed where the core doesn't wait
idle : {sh : Shape} {s : CoreState} → OwingFits sh s → awaits_replies s.phase ≡ false → (d : ℕ) → s.owing d ≡ false
idle h n d = grind nats

none-owing : {sh : Shape} {r : CoreState} {q : Phase} → r.phase ≡ q → awaits_replies q ≡ false → ((d : ℕ) → r.owing d ≡ false)
    → OwingFits sh r
none-owing {r} e n f = record {
  asked = λ d o. absurd (let y = f d in cc);
  waits = λ d o. absurd (let y = f d in cc);
  some = λ a. absurd (let y : awaits_replies r.phase ≡ false = rw e n in cc);
}

-- a core that doesn't wait goes on to a phase in which it doesn't wait
still-none : {sh : Shape} {s r : CoreState} {p : Phase} (q : Phase) → s.phase ≡ p → awaits_replies p ≡ false → r.phase ≡ q
    → awaits_replies q ≡ false → r.owing ≡ s.owing → OwingFits sh s → OwingFits sh r
still-none q e n f m ow h = none-owing f m (λ d. rw ow (idle h (rw e n) d))

not-acts : (q : Phase) → awaits_replies q ≡ true → Acts q → ⊥
not-acts Running e a = cc
not-acts (Solo t) e a = cc
not-acts _ e a = a

same-owing : {sh : Shape} {s r : CoreState} → r.phase ≡ s.phase → r.owing ≡ s.owing
    → (awaits_replies s.phase ≡ true → (d : ℕ)
    → (writes_at sh r.cache d || reads_at sh r.cache d) ≡ (writes_at sh s.cache d || reads_at sh s.cache d)) → OwingFits sh s
    → OwingFits sh r
same-owing {s} e f g h = record {
  asked = λ d o. let a : s.owing d ≡ true = rw f at o in ((h.asked d a).0, rw (e, g (h.waits d a) d) (h.asked d a).1);
  waits = λ d o. rw e (h.waits d (rw f at o));
  some = λ a l. rw f (h.some (rw e at a) l);
}

steady-owing : {sh : Shape} {s : CoreState} {o : Out} → Steady s o → OwingFits sh s → OwingFits sh o.core
steady-owing {sh} {s} {o} y h = same-owing y.phase y.owing
    (λ a d. ap₂ (λ x z. x || z) (writes_at-same sh o.core.cache s.cache d (y.modified (not-acts s.phase a)))
    (reads_at-same sh o.core.cache s.cache d (y.read (not-acts s.phase a)))) h

after-none : (e : Outcome) → awaits_replies (phase_after_commit e) ≡ false
after-none a = grind nats

owing-exec : {sh : Shape} (p : Program) (c : ℕ) {s : CoreState} → OwingFits sh s → IfSome (core_exec sh p c s) (λ o. OwingFits sh o.core)
unfolding commit solo_commit committed_core
owing-exec {sh} p c {s} h = each-exec sh p c s (λ o. OwingFits sh o.core) go
  where
    go : (x : Did sh p c s) → OwingFits sh (out x).core
    go (Commits_now t e) = still-none (phase_after_commit s.ended) e refl refl (after-none s.ended) refl h
    go (Room_wanted r i) = still-none (Overflowing None) r refl refl refl refl h
    go (Ends_run l e f r i) = still-none AwaitTid r refl refl refl refl h
    go (Ends_alone t l e f r i) = still-none (phase_after_commit e) r refl refl (after-none e) refl h
    go x = steady-owing (did-steady x) h

owing-evict : {sh : Shape} (x y : ℕ) {s : CoreState} → OwingFits sh s → IfSome (core_evict sh x y s) (λ o. OwingFits sh o.core)
owing-evict {sh} x y {s} h = each-evict sh x y s (λ o. OwingFits sh o.core) (λ k q u z. steady-owing (steady-emptied sh x y s k q u z) h)

owing-grant : {sh : Shape} (t : ℕ) {s : CoreState} → OwingFits sh s → OwingFits sh (grant sh t s).core
unfolding grant is_probed
owing-grant {sh} t {s} h = go s.phase refl
  where
    both : (a b : Bool) → (a && b) ≡ true → (a ≡ true) × (b ≡ true)
    both true b x = (refl, x)
    both false b x = absurd (cc)

    asks : (d : ℕ) → is_probed sh s.cache d ≡ true → (d < sh.dirs) × ((writes_at sh s.cache d || reads_at sh s.cache d) ≡ true)
    asks d o = let y = both (nat_lt d sh.dirs) (writes_at sh s.cache d || reads_at sh s.cache d) o in let z = y.0 in
        (grind nats, y.1)

    probed : (b : Bool) → any_below (is_probed sh s.cache) sh.dirs ≡ b
        → OwingFits sh (record s { owing = is_probed sh s.cache; phase = probing_or_ready b t })
    probed true q = record { asked = λ d o. asks d o; waits = λ d o. refl; some = λ a l. q }
    probed false q = record {
      asked = λ d o. absurd (let y = none-below (is_probed sh s.cache) sh.dirs d (asks d o).0 q in cc);
      waits = λ d o. absurd (let y = none-below (is_probed sh s.cache) sh.dirs d (asks d o).0 q in cc);
      some = λ a. absurd (cc);
    }

    every : OwingFits sh (record s { owing = λ d. nat_lt d sh.dirs; phase = Overflowing (Some t) })
    every = record {
      asked = λ d o. (grind nats, refl);
      waits = λ d o. refl;
      some = λ a l. any_below-at (λ d. nat_lt d sh.dirs) sh.dirs 0 l (grind nats);
    }

    go : (q : Phase) → s.phase ≡ q → OwingFits sh (grant_in_phase sh t s q).core
    go AwaitTid e = probed (any_below (is_probed sh s.cache) sh.dirs) refl
    go DoomedTid e = still-none Running e refl refl refl refl h
    go (Overflowing None) e = every
    go _ e = h

-- a directory has replied
put-true : (f : ℕ → Bool) (e d : ℕ) → put f e false d ≡ true → f d ≡ true
put-true f e d x = grind nats

not-all : (sh : Shape) (f : ℕ → Bool) → all_replied sh f ≡ false → any_below f sh.dirs ≡ true
not-all sh f q = grind nats

one-less : {sh : Shape} (e : ℕ) {s r : CoreState} (goes wait : Phase)
    → r.phase ≡ (if all_replied sh (put s.owing e false) then goes else wait) → r.owing ≡ put s.owing e false → awaits_replies goes ≡ false
    → ((d : ℕ) → asks_dir s.phase (writes_at sh s.cache d || reads_at sh s.cache d) ≡ true
    → asks_dir wait (writes_at sh r.cache d || reads_at sh r.cache d) ≡ true) → awaits_replies wait ≡ true → OwingFits sh s → OwingFits sh r
one-less {sh} e {s} {r} goes wait ph ow n f w h = elim (tested (all_replied sh (put s.owing e false))) [
  | inl q ↦ let p : r.phase ≡ goes = rw q at ph in
      let none : (d : ℕ) → r.owing d ≡ true → ⊥ = λ d o. let z = all-replied sh (put s.owing e false) d (h.asked d (old d o)).0 q in
      let y : put s.owing e false d ≡ true = rw ow at o in cc in
      record {
        asked = λ d o. absurd (none d o);
        waits = λ d o. absurd (none d o);
        some = λ a. absurd (let y : awaits_replies r.phase ≡ false = rw p n in cc);
      }
  | inr q ↦ let p : r.phase ≡ wait = rw q at ph in
      record {
        asked = λ d o. ((h.asked d (old d o)).0, rw p (f d (h.asked d (old d o)).1));
        waits = λ d o. rw p w;
        some = λ a l. rw ow (not-all sh (put s.owing e false) q);
      }
]
  where
    old : (d : ℕ) → r.owing d ≡ true → s.owing d ≡ true
    old d o = put-true s.owing e d (rw ow at o)

replied-owing : {sh : Shape} (e u : ℕ) {s : CoreState} {o : Out} → Replied sh e u s o → OwingFits sh s → OwingFits sh o.core
replied-owing e u (Ignored q n) h = rw q h
replied-owing e u (Probed g w ph ow ca se cm) h = one-less e (Ready u) (Probing u) ph ow refl (λ d a. rw ca (rw g at a)) refl h
replied-owing e u (Left_alone g w ph ow mo se cm) h = one-less e (Solo u) (Overflowing (Some u)) ph ow refl (λ d a. refl) refl h

hurt-owing : {sh : Shape} {l : ℕ} (s : CoreState) {o : Out} → Invalidated sh l s o → OwingFits sh s → OwingFits sh o.core
hurt-owing {sh} s {o} i h = go i.hurt
  where
    go : Hurt sh s o.core i.sends → OwingFits sh o.core
    go (Unhurt ph ow mo re se) = same-owing ph ow
        (λ a d. ap₂ (λ x z. x || z) (writes_at-same sh o.core.cache s.cache d mo) (reads_at-same sh o.core.cache s.cache d re)) h
    go (Rolled ph ph' ow se) = none-owing ph' refl (λ d. rw ow)
    go (Doomed ph ph' ow se) = none-owing ph' refl (λ d. rw ow)
    go (Aborted u ph ph' ow se) = none-owing ph' refl (λ d. rw ow)
    go (Gave_up u ph ph' ow se) = none-owing ph' refl (λ d. rw ow)

owing-back : {sh : Shape} (e : ℕ) {s : CoreState} (m : Msg) → OwingFits sh s → IfSome (from_dir sh e s m) (λ o. OwingFits sh o.core)
owing-back {sh} e {s} (ProbeReply u v) h = replied-owing e u (reply-cases sh e u s) h
owing-back e {s} (Fill l ws) h = steady-owing (fill-steady l ws s) h
owing-back {sh} e {s} (DataReq l) h = steady-owing (data-steady sh l s) h
owing-back {sh} e {s} (Inv l m u) h = hurt-owing s (invalidate-cases sh l m u s) h
owing-back e _ h = tt

-- one core has changed
put-owing : {sh : Shape} (w : World) (c : ℕ) {s : CoreState} → KeptOwing sh w → OwingFits sh s → (j : ℕ)
    → OwingFits sh (if j == c then s else w.cores j)
put-owing {sh} w c {s} k h j = elim (j == c) as (λ b. OwingFits sh (if b then s else w.cores j)) [ true ↦ h | false ↦ k j ]

pub step-owing : (sh : Shape) (p : Program) (w : World) (e : Event) → KeptOwing sh w → IfSome (step sh p w e) (λ o. KeptOwing sh o.world)
unfolding core_moves core_takes dir_takes dir_asks vendor_gives
step-owing sh p w e k = step_cases sh p w e (λ g o. KeptOwing sh o.world)
    (λ c o eq l. moved c o (got _ eq (owing-exec p c (k c))))
    (λ c x y o eq l. moved c o (got _ eq (owing-evict x y (k c)))) (λ c i t q. put-owing w c k (owing-grant t (k c)))
    (λ c d i m o eq q. (put-owing w c k (got _ eq (owing-back d m (k c)))))
    (λ c d i m q. answered c d i (dir_deliver sh (w.dirs d) c m)) (λ c i a q. k)
  where
    moved : (c : ℕ) (o : Out) → OwingFits sh o.core → KeptOwing sh (core_moves w c o)
    moved c o h = put-owing w c k h

    answered : (c d i : ℕ) (a : Answer) → OfAnswer w c d i (KeptOwing sh) a
    answered c d i Waits = tt
    answered c d i _ = k

pub start-owing : {sh : Shape} (entries : ℕ → Local) (ram : ℕ → ℕ) → KeptOwing sh (start entries ram)
unfolding start core_start
start-owing entries ram c = record { asked = λ d e. absurd (cc); waits = λ d e. absurd (cc); some = λ e. absurd (cc) }
