-- What a core's rules leave alone: instructions as far as TIDs go, evictions, fills, data requests, invalidations; then what a core asks
-- for.
use Rattle.theorem_serial.proofs
use proofs.Names
use Names.{ℕ, ◌≡◌, [], None, refl, Program, word_of, line_of, Dir, Vendor, Shape, CoreState, flush_line, Out, moves, Protocol, among}
use Names.{passes, write_back_line, if◌then◌else◌, abort_written, evicted_line, read_cleared, any_below-at, fill_awaited, data_request}
use Names.{invalidated, Overflowing, probe_reply, all_replied, core_evict, is_awaited, invalidate, ProbeReply, any_below, is_marked}
use Names.{DoomedTid, marks_for, any_word, reads_at, AwaitTid, skip_all, evicted, cleaned, Awaited, Running, Probing, nothing, is_solo}
use Names.{ignored, IfSome, InvAck, filled, false, arith, lines, Cache, keeps, Phase, Ready, Sends, Bool, true, List, ◌++◌, ◌==◌, ◌&&◌}
use Names.{◌||◌, Some, Node, home, Solo, fill, ◌+◌, ◌*◌, ◌%◌, ◌∷◌, sym, ◌⊎◌, put, Inv, Msg, ap, to, nats, ◌<◌, ◌≤◌, Option, nat_lt, ap₂}
use Names.{◌∙◌, Outcome, HaltedWith, TrappedWith, Fill, DataReq, writes_at, Halted, commit, committed_core, phase_after_commit, core_exec}
use Names.{grant, grant_in_phase, from_dir, probing_or_ready, is_probed, RepliesAbove, tid_of, asks_dir, may_commit, Reached, solo_commit}
use Names.{num, LoadReq, staled, LoadOf, FillOf, tested, inl, inr}
use proofs.OneCore.Said.{quiet, Flushes, Requests, Said, Silent, Unheard, say, Empties, Aborts_all, Skips_all}
use proofs.OneCore.Outcomes.{Acts, Buffers, Commits_now, Did, Ends_alone, Ends_run, Finds, Frames, Frames_anew, Idles, Misses, Misses_anew}
use proofs.OneCore.Outcomes.{Reads, Room_wanted, out, acked, each-evict, emptied, Heard, Hurt_alone, Hurt_none, Hurt_probing, Hurt_running}
use proofs.OneCore.Outcomes.{Hurt_waiting, Ignores_reply, Last_probing, Last_room, Reply_probing, Reply_room, each-back, heard, message}
use proofs.OneCore.Outcomes.{each-exec, writes_at-same, Fills, Fills_none, Given_none, Granted, Ignores_fill, awaiting, each-grant, given}
use proofs.OneCore.Outcomes.{granted, granted_said, heard-quiet, said}

-- What Exec may come to, as far as TIDs and messages about them go.

-- nothing changes that TIDs and messages about them go by; where the core executes it may have marked further words
pub record Steady (s : CoreState) (o : Out) : Type 0 where
  pub phase : o.core.phase ≡ s.phase
  pub owing : o.core.owing ≡ s.owing
  pub commit : o.commit ≡ None
  pub vendor : o.sends Vendor ≡ []
  pub quiet : (d : ℕ) → among Protocol (o.sends (Dir d)) ≡ 0
  pub modified : (Acts s.phase → ⊥) → (v : ℕ) → o.core.cache.modified v ≡ s.cache.modified v
  pub read : (Acts s.phase → ⊥) → (v : ℕ) → o.core.cache.read v ≡ s.cache.read v

steady-said : (sh : Shape) (s r : CoreState) (q : Said) → Acts s.phase → r.phase ≡ s.phase → r.owing ≡ s.owing → say sh s q Vendor ≡ []
    → Unheard Protocol q → Steady s (moves r (say sh s q))
steady-said sh s r q a ph ow v u = record {
  phase = ph;
  owing = ow;
  commit = refl;
  vendor = v;
  quiet = λ d. quiet sh s Protocol q u d;
  modified = λ h. absurd (h a);
  read = λ h. absurd (h a);
}

-- so is an event that ends no transaction and asks for no TID
abbrev pub IfSteady : {sh : Shape} {p : Program} {c : ℕ} {s : CoreState} → Did sh p c s → Type 0
IfSteady (Room_wanted r i) = Unit {0}
IfSteady (Ends_run l e f r i) = Unit {0}
IfSteady (Ends_alone t l e f r i) = Unit {0}
IfSteady (Commits_now t r) = Unit {0}
IfSteady {s} x = Steady s (out x)

pub did-steady : {sh : Shape} {p : Program} {c : ℕ} {s : CoreState} (x : Did sh p c s) → IfSteady x
unfolding passes flush_line
did-steady {sh} {s} (Idles n l b g) = steady-said sh s _ Silent g.acts refl refl refl (λ x. refl)
did-steady {sh} {s} (Finds a x z l g f) = steady-said sh s _ Silent g.acts refl refl refl (λ x. refl)
did-steady {sh} {s} (Reads a x z l g r f) = steady-said sh s _ Silent g.acts refl refl refl (λ x. refl)
did-steady {sh} {s} (Buffers a y v n k g i q h) = steady-said sh s _ Silent g.acts refl refl refl (λ x. refl)
did-steady {sh} {s} (Frames a y also n k g i f) = steady-said sh s _ (Flushes (line_of (word_of sh.base a))) g.acts refl refl refl
    (λ x. refl)
did-steady {sh} {s} (Frames_anew a y n k g i q f h) = steady-said sh s _ Silent g.acts refl refl refl (λ x. refl)
did-steady {sh} {s} (Misses a n g i q) = steady-said sh s _ (Requests (line_of (word_of sh.base a))) g.acts refl refl refl (λ x. refl)
did-steady {sh} {s} (Misses_anew a n g i q f) = steady-said sh s _ (Requests (line_of (word_of sh.base a))) g.acts refl refl refl
    (λ x. refl)
did-steady _ = tt

-- What a core's rules leave alone: evictions, fills, data requests, invalidations.

-- written and read directories depend on the modified and the read words alone
pub reads_at-same : (sh : Shape) (a b : Cache) (d : ℕ) → ((v : ℕ) → a.read v ≡ b.read v) → reads_at sh a d ≡ reads_at sh b d
unfolding reads_at
reads_at-same sh a b d h = ap (λ m. any_below (λ l. d == home sh l && any_word m l) (lines sh)) (λ i v. h v i)

-- an unmarked line has no modified and no read word
pub unmarked-word : (c : Cache) (l v : ℕ) → is_marked c l ≡ false → l ≡ line_of v → (c.modified v ≡ false) × (c.read v ≡ false)
unfolding is_marked any_word
unmarked-word c l v h e = go (c.modified v) (c.read v) refl refl
  where
    r : 8 * l + v % 8 ≡ v
    r = omega arith

    marked : (c.read v || c.modified v) ≡ true → ⊥
    marked q =
        let m : (c.read (8 * l + v % 8) || c.modified (8 * l + v % 8)) ≡ true = rw r q in
        let a : any_below (λ k. c.read (8 * l + k) || c.modified (8 * l + k)) 8 ≡ true =
        any_below-at (λ k. c.read (8 * l + k) || c.modified (8 * l + k)) 8 (v % 8) (omega arith) m in
        cc

    go : (a b : Bool) → c.modified v ≡ a → c.read v ≡ b → (c.modified v ≡ false) × (c.read v ≡ false)
    go false false q q' = (q, q')
    go a true q q' = absurd (marked (rw q'))
    go true false q q' = absurd (marked (rw (q', q)))

pub evicted-modified : (x y l : ℕ) (c : Cache) → c.at x y ≡ Some l → is_marked c l ≡ false → (v : ℕ)
    → ((evicted x y c).modified v ≡ c.modified v) × ((evicted x y c).read v ≡ c.read v)
unfolding evicted evicted_line
evicted-modified x y l c e m v = rw e (go (l == line_of v) refl)
  where
    go : (b : Bool) → (l == line_of v) ≡ b → ((if b then false else c.modified v) ≡ c.modified v)
        × ((if b then false else c.read v) ≡ c.read v)
    go false q = (refl, refl)
    go true q = let u = unmarked-word c l v m (grind nats) in (sym u.0, sym u.1)

pub steady-emptied : (sh : Shape) (x y : ℕ) (s : CoreState) (l : ℕ) → s.cache.at x y ≡ Some l → is_awaited s.awaited l ≡ false
    → (is_marked s.cache l ≡ false) ⊎ (is_solo s.phase ≡ true) → Steady s (emptied sh x y l s)
unfolding write_back_line passes
steady-emptied sh x y s l e i m = record {
  phase = refl;
  owing = refl;
  commit = refl;
  vendor = refl;
  quiet = λ d. quiet sh s Protocol (Empties l) (λ y. refl) d;
  modified = λ h v. (evicted-modified x y l s.cache e (unmarked h m) v).0;
  read = λ h v. (evicted-modified x y l s.cache e (unmarked h m) v).1;
}
  where
    solo : (q : Phase) → s.phase ≡ q → is_solo q ≡ true → Acts s.phase
    solo (Solo t) e h = rw e tt
    solo _ e h = absurd (cc)

    unmarked : (Acts s.phase → ⊥) → (is_marked s.cache l ≡ false) ⊎ (is_solo s.phase ≡ true) → is_marked s.cache l ≡ false
    unmarked h a = grind nats

pub evict-steady : (sh : Shape) (x y : ℕ) (s : CoreState) → IfSome (core_evict sh x y s) (Steady s)
evict-steady sh x y s = each-evict sh x y s (Steady s) (steady-emptied sh x y s)

pub ignored-steady : (s : CoreState) → Steady s (ignored s)
unfolding among
ignored-steady s = record {
  phase = refl;
  owing = refl;
  commit = refl;
  vendor = refl;
  quiet = λ d. refl;
  modified = λ h v. refl;
  read = λ h v. refl;
}

pub fill-steady : (l : ℕ) (ws : List ℕ) (s : CoreState) → Steady s (fill l ws s)
unfolding fill among filled
fill-steady l ws s = elim s.awaited as (λ a. Steady s (fill_awaited l ws s a)) [ None ↦ ignored-steady s | Some a ↦ one a (a.line == l) ]
  where
    cached : (a : Bool) (v : ℕ) → ((if a then s.cache else filled l ws s.cache).modified v ≡ s.cache.modified v)
        × ((if a then s.cache else filled l ws s.cache).read v ≡ s.cache.read v)
    cached true v = (refl, refl)
    cached false v = (refl, refl)

    one : (a : Awaited) (b : Bool)
        → Steady s (if b then moves (record s { cache = (if a.stale then s.cache else filled l ws s.cache); awaited = None }) nothing
        else ignored s)
    one a false = ignored-steady s
    one a true =
        record {
          phase = refl;
          owing = refl;
          commit = refl;
          vendor = refl;
          quiet = λ d. refl;
          modified = λ h v. (cached a.stale v).0;
          read = λ h v. (cached a.stale v).1;
        }

pub data-steady : (sh : Shape) (l : ℕ) (s : CoreState) → Steady s (data_request sh l s)
unfolding data_request cleaned flush_line passes
data-steady sh l s =
    record {
      phase = refl;
      owing = refl;
      commit = refl;
      vendor = refl;
      quiet = λ d. quiet sh s Protocol (Flushes l) (λ y. refl) d;
      modified = λ h v. refl;
      read = λ h v. refl;
    }

-- what an invalidation comes to, apart from the words that it makes invalid
pub data Hurt (sh : Shape) (s r : CoreState) (sends : Sends) : Type 0 where
  Unhurt : r.phase ≡ s.phase → r.owing ≡ s.owing → ((v : ℕ) → r.cache.modified v ≡ s.cache.modified v)
      → ((v : ℕ) → r.cache.read v ≡ s.cache.read v) → ((n : Node) → sends n ≡ []) → Hurt sh s r sends
  Rolled : s.phase ≡ Running → r.phase ≡ Running → r.owing ≡ (λ d. false) → ((n : Node) → sends n ≡ []) → Hurt sh s r sends
  Doomed : (s.phase ≡ AwaitTid) ⊎ (s.phase ≡ Overflowing None) → r.phase ≡ DoomedTid → r.owing ≡ (λ d. false) → ((n : Node) → sends n ≡ [])
      → Hurt sh s r sends
  Aborted : (t : ℕ) → (s.phase ≡ Probing t) ⊎ (s.phase ≡ Ready t) → r.phase ≡ Running → r.owing ≡ (λ d. false)
      → sends ≡ abort_written sh s.cache t → Hurt sh s r sends
  Gave_up : (t : ℕ) → (s.phase ≡ Overflowing (Some t)) ⊎ (s.phase ≡ Solo t) → r.phase ≡ Running → r.owing ≡ (λ d. false)
      → sends ≡ skip_all sh t → Hurt sh s r sends

-- the acknowledgement stands behind all else
pub record Invalidated (sh : Shape) (l : ℕ) (s : CoreState) (o : Out) : Type 0 where
  pub sends : Sends
  pub kept : Bool
  pub hurt : Hurt sh s o.core sends
  pub dirs : (d : ℕ) → o.sends (Dir d) ≡ sends (Dir d) ++ to (Dir (home sh l)) (InvAck l kept ∷ []) (Dir d)
  pub vendor : o.sends Vendor ≡ []
  pub commit : o.commit ≡ None

-- what a reply comes to: it isn't the one that the core waits for, or one less is owed
pub data Replied (sh : Shape) (e u : ℕ) (s : CoreState) (o : Out) : Type 0 where
  Ignored : o ≡ ignored s → ((s.phase ≡ Probing u) ⊎ (s.phase ≡ Overflowing (Some u)) → s.owing e ≡ false) → Replied sh e u s o
  Probed : s.phase ≡ Probing u → s.owing e ≡ true → o.core.phase ≡ (if all_replied sh (put s.owing e false) then Ready u else Probing u)
      → o.core.owing ≡ put s.owing e false → o.core.cache ≡ s.cache → o.sends ≡ to (Dir e) (marks_for sh s.cache u e) → o.commit ≡ None
      → Replied sh e u s o
  Left_alone : s.phase ≡ Overflowing (Some u) → s.owing e ≡ true
      → o.core.phase ≡ (if all_replied sh (put s.owing e false) then Solo u else Overflowing (Some u)) → o.core.owing ≡ put s.owing e false
      → ((v : ℕ) → o.core.cache.modified v ≡ s.cache.modified v) → o.sends ≡ nothing → o.commit ≡ None → Replied sh e u s o

-- what such a message comes to
abbrev Back : Shape → (dir : ℕ) → CoreState → Msg → Out → Type 0
Back sh e s (ProbeReply u v) o = Replied sh e u s o
Back sh e s (Inv l m u) o = Invalidated sh l s o
Back sh e s _ o = Unit {0}

invalidated-acked : {sh : Shape} {l : ℕ} {s : CoreState} (r : CoreState) (q : Said) → say sh s q Vendor ≡ [] → Hurt sh s r (say sh s q)
    → Invalidated sh l s (acked sh l r (say sh s q))
invalidated-acked {sh} {l} {s} r q v h = record {
  sends = say sh s q;
  kept = keeps r.cache l;
  hurt = h;
  dirs = λ d. refl;
  vendor = rw v;
  commit = refl;
}

back-case : {sh : Shape} {e : ℕ} {s : CoreState} (x : Heard sh e s) → Back sh e s (message x) (heard x)
unfolding read_cleared invalidated skip_all abort_written
back-case (Ignores_reply u v n) = Ignored refl n
back-case (Reply_probing u v q o r) = Probed q o (rw r q) refl refl refl refl
back-case (Last_probing u v q o r) = Probed q o (rw r) refl refl refl refl
back-case (Reply_room u v q o r) = Left_alone q o (rw r q) refl (λ v. refl) refl refl
back-case (Last_room u v q o r) = Left_alone q o (rw r) refl (λ v. refl) refl refl
back-case (Hurt_none l m u n) = invalidated-acked _ Silent refl (Unhurt refl refl (λ v. refl) (λ v. refl) (λ n. refl))
back-case (Hurt_running l m u v q) = invalidated-acked _ Silent refl (Rolled q refl refl (λ n. refl))
back-case (Hurt_waiting l m u v q) = invalidated-acked _ Silent refl (Doomed q refl refl (λ n. refl))
back-case (Hurt_probing l m u t v q) = invalidated-acked _ (Aborts_all t) refl (Aborted t q refl refl refl)
back-case (Hurt_alone l m u t v q) = invalidated-acked _ (Skips_all t) refl (Gave_up t q refl refl refl)
back-case _ = tt

pub reply-cases : (sh : Shape) (e u : ℕ) (s : CoreState) → Replied sh e u s (probe_reply sh e u s)
reply-cases sh e u s = each-back sh e s (Back sh e s) back-case (ProbeReply u 0)

pub invalidate-cases : (sh : Shape) (l m u : ℕ) (s : CoreState) → Invalidated sh l s (invalidate sh l m u s)
invalidate-cases sh l m u s = each-back sh 0 s (Back sh 0 s) back-case (Inv l m u)

-- What each of a core's rules does to what it has asked for: the directories that it probed, and the line that it awaits.

-- What a core's rules do to what it knows of the directories that it asked.

-- a core in this phase asks none
pub none-asked : {sh : Shape} {d x : ℕ} {s : CoreState} (q : Phase) → s.phase ≡ q → ((b : Bool) → asks_dir q b ≡ false)
    → may_commit q ≡ false → Reached sh d x s
none-asked {sh} {d} {s} q e a m = record {
  reached = λ l h o. let n : asks_dir s.phase (writes_at sh s.cache d || reads_at sh s.cache d) ≡ false = rw e (a _) in absurd (cc);
  replied = λ l h. let n : may_commit s.phase ≡ false = rw e m in absurd (cc);
}

-- the same phase, the same replies and the same directories
same-asked : {sh : Shape} {d x : ℕ} {s r : CoreState} → r.phase ≡ s.phase → r.owing ≡ s.owing
    → asks_dir s.phase (writes_at sh r.cache d || reads_at sh r.cache d) ≡ asks_dir s.phase
    (writes_at sh s.cache d || reads_at sh s.cache d) → Reached sh d x s → Reached sh d x r
same-asked e f g h = record {
  reached = λ l a o. rw e (h.reached l (sym g ∙ (rw e at a)) (rw f at o));
  replied = λ l m. rw f (h.replied l (rw e at m));
}

acts-asked : (q : Phase) (a b : Bool) → ((Acts q → ⊥) → a ≡ b) → asks_dir q a ≡ asks_dir q b
acts-asked d a b h = grind nats

asked-steady : {sh : Shape} {d x : ℕ} {s : CoreState} {o : Out} → Steady s o → Reached sh d x s → Reached sh d x o.core
asked-steady {sh} {d} {s} {o} y h = same-asked y.phase y.owing
    (acts-asked s.phase _ _ (λ n. ap₂ (λ a b. a || b) (writes_at-same sh o.core.cache s.cache d (y.modified n))
    (reads_at-same sh o.core.cache s.cache d (y.read n)))) h

asked-after : {sh : Shape} {d x : ℕ} {r : CoreState} (e : Outcome) → r.phase ≡ phase_after_commit e → Reached sh d x r
asked-after (HaltedWith k) q = none-asked Halted q (λ b. refl) refl
asked-after (TrappedWith k) q = none-asked Halted q (λ b. refl) refl
asked-after _ q = none-asked Running q (λ b. refl) refl

abbrev pub StaysReached : Shape → (dir serving : ℕ) → CoreState → Option Out → Type 0
StaysReached sh d x s y = IfSome y (λ o. Reached sh d x o.core)

pub asked-exec : {sh : Shape} (p : Program) (c d : ℕ) {x : ℕ} {s : CoreState} → Reached sh d x s
    → StaysReached sh d x s (core_exec sh p c s)
unfolding commit solo_commit committed_core
asked-exec {sh} p c d {x} {s} h = each-exec sh p c s (λ o. Reached sh d x o.core) go
  where
    go : (y : Did sh p c s) → Reached sh d x (out y).core
    go (Commits_now u e) = asked-after s.ended refl
    go (Room_wanted r i) = none-asked (Overflowing None) refl (λ b. refl) refl
    go (Ends_run l e f r i) = none-asked AwaitTid refl (λ b. refl) refl
    go (Ends_alone u l e f r i) = asked-after e refl
    go y = asked-steady (did-steady y) h

pub asked-evict : {sh : Shape} (x' y d : ℕ) {x : ℕ} {s : CoreState} → Reached sh d x s → StaysReached sh d x s (core_evict sh x' y s)
asked-evict {sh} x' y d {x} {s} h = each-evict sh x' y s (λ o. Reached sh d x o.core)
    (λ k q u z. asked-steady (steady-emptied sh x' y s k q u z) h)

probed-owes : (sh : Shape) (c : Cache) (d : ℕ) → d < sh.dirs → (writes_at sh c d || reads_at sh c d) ≡ true → is_probed sh c d ≡ false → ⊥
unfolding is_probed
probed-owes sh c d l a o = go (nat_lt d sh.dirs) (grind nats) o
  where
    go : (b : Bool) → b ≡ true → (b && (writes_at sh c d || reads_at sh c d)) ≡ false → ⊥
    go true q o = cc
    go false q o = cc

-- where a test holds of none below, it doesn't hold of one
pub none-below : (p : ℕ → Bool) (n k : ℕ) → k < n → any_below p n ≡ false → p k ≡ false
none-below p n k l q = elim (tested (p k)) [ inr e ↦ e | inl e ↦ let a : any_below p n ≡ true = any_below-at p n k l e in absurd (cc) ]

pub asked-grant : {sh : Shape} (u d : ℕ) {x : ℕ} {s : CoreState} → Reached sh d x s → Reached sh d x (grant sh u s).core
unfolding grant
asked-grant {sh} u d {x} {s} h = go s.phase
  where
    owes : d < sh.dirs → (writes_at sh s.cache d || reads_at sh s.cache d) ≡ true → is_probed sh s.cache d ≡ false → ⊥
    owes l a o = probed-owes sh s.cache d l a o

    probed : (b : Bool) → any_below (is_probed sh s.cache) sh.dirs ≡ b
        → Reached sh d x (record s { owing = is_probed sh s.cache; phase = probing_or_ready b u })
    probed true q = record { reached = λ l a o. absurd (owes l a o); replied = λ l m. absurd (cc) }
    probed false q = record { reached = λ l a o. absurd (owes l a o); replied = λ l m. none-below (is_probed sh s.cache) sh.dirs d l q }

    go : (q : Phase) → Reached sh d x (grant_in_phase sh u s q).core
    go AwaitTid = probed (any_below (is_probed sh s.cache) sh.dirs) refl
    go DoomedTid = none-asked Running refl (λ b. refl) refl
    go (Overflowing None) = record { reached = λ l a o. absurd (grind nats); replied = λ l m. absurd (cc) }
    go _ = h

pub all-replied : (sh : Shape) (f : ℕ → Bool) (d : ℕ) → d < sh.dirs → all_replied sh f ≡ true → f d ≡ false
all-replied sh f d l q = none-below f sh.dirs d l (go (any_below f sh.dirs) refl)
  where
    go : (b : Bool) → any_below f sh.dirs ≡ b → any_below f sh.dirs ≡ false
    go false e = e
    go true e = let n : all_replied sh f ≡ false = rw e in absurd (cc)

-- one more directory has replied, and its TID is u
one_replied : {sh : Shape} (e : ℕ) {d x : ℕ} (u : ℕ) {s r : CoreState} (go wait : Phase) → (d ≡ e → u ≤ x)
    → r.phase ≡ (if all_replied sh (put s.owing e false) then go else wait) → r.owing ≡ put s.owing e false → tid_of go ≡ u
    → tid_of wait ≡ u → tid_of s.phase ≡ u → may_commit wait ≡ false
    → (asks_dir go (writes_at sh r.cache d || reads_at sh r.cache d) ≡ true
    → asks_dir s.phase (writes_at sh s.cache d || reads_at sh s.cache d) ≡ true)
    → (asks_dir wait (writes_at sh r.cache d || reads_at sh r.cache d) ≡ true
    → asks_dir s.phase (writes_at sh s.cache d || reads_at sh s.cache d) ≡ true) → Reached sh d x s → Reached sh d x r
one_replied {sh} e {d} {x} u {s} {r} go wait f ph ow tg tw ts mw ag aw h = elim (tested (all_replied sh (put s.owing e false))) [
  | inl q ↦ let p : r.phase ≡ go = rw q at ph in
      record {
        reached = λ l k o. rw p (low go tg ag l (rw p at k) (rw ow at o));
        replied = λ l m. rw ow (all-replied sh (put s.owing e false) d l q);
      }
  | inr q ↦ let p : r.phase ≡ wait = rw q at ph in
      record {
        reached = λ l k o. rw p (low wait tw aw l (rw p at k) (rw ow at o));
        replied = λ l m. let n : may_commit r.phase ≡ false = rw p mw in absurd (cc);
      }
]
  where
    low : (q : Phase) → tid_of q ≡ u
        → (asks_dir q (writes_at sh r.cache d || reads_at sh r.cache d) ≡ true
        → asks_dir s.phase (writes_at sh s.cache d || reads_at sh s.cache d) ≡ true) → d < sh.dirs
        → asks_dir q (writes_at sh r.cache d || reads_at sh r.cache d) ≡ true → put s.owing e false d ≡ false → tid_of q ≤ x
    low q t a l k o = grind nats

asked-replied : {sh : Shape} (e u : ℕ) {d x : ℕ} {s : CoreState} {o : Out} → (d ≡ e → u ≤ x) → Replied sh e u s o → Reached sh d x s
    → Reached sh d x o.core
asked-replied e u f (Ignored q n) h = rw q h
asked-replied e u f (Probed g w ph ow ca se cm) h = one_replied e u (Ready u) (Probing u) f ph ow refl refl
    (rw g) refl (λ k. rw g (rw ca at k)) (λ k. rw g (rw ca at k)) h
asked-replied e u f (Left_alone g w ph ow mo se cm) h =
    one_replied e u (Solo u) (Overflowing (Some u)) f ph ow refl refl (rw g) refl (λ k. rw g) (λ k. rw g) h

asked-hurt : {sh : Shape} {l : ℕ} (d x : ℕ) (s : CoreState) {o : Out} → Invalidated sh l s o → Reached sh d x s → Reached sh d x o.core
asked-hurt {sh} d x s {o} i h = go i.hurt
  where
    go : Hurt sh s o.core i.sends → Reached sh d x o.core
    go (Unhurt ph ow mo re se) = same-asked ph ow
        (acts-asked s.phase _ _ (λ n. ap₂ (λ a b. a || b) (writes_at-same sh o.core.cache s.cache d mo)
        (reads_at-same sh o.core.cache s.cache d re))) h
    go (Rolled ph ph' ow se) = none-asked Running ph' (λ b. refl) refl
    go (Doomed ph ph' ow se) = none-asked DoomedTid ph' (λ b. refl) refl
    go (Aborted u ph ph' ow se) = none-asked Running ph' (λ b. refl) refl
    go (Gave_up u ph ph' ow se) = none-asked Running ph' (λ b. refl) refl

-- x is what directory d serves; a reply of e is of a TID that e has reached
pub asked-back : {sh : Shape} (e : ℕ) {d x : ℕ} {s : CoreState} (m : Msg) → (d ≡ e → passes (RepliesAbove x) m ≡ false) → Reached sh d x s
    → StaysReached sh d x s (from_dir sh e s m)
unfolding passes
asked-back {sh} e {x} {s} (ProbeReply u v) f h =
    let low : nat_lt x u ≡ false → u ≤ x = λ k. grind nats in
    asked-replied e u (λ q. low (f q)) (reply-cases sh e u s) h
asked-back e {s} (Fill l ws) f h = asked-steady (fill-steady l ws s) h
asked-back {sh} e {s} (DataReq l) f h = asked-steady (data-steady sh l s) h
asked-back {sh} e {d} {x} {s} (Inv l m u) f h = asked-hurt d x s (invalidate-cases sh l m u s) h
asked-back e _ f h = tt

-- What a core's step does to its load requests and to the line that it awaits.

-- the core awaits the line, whose home is the directory
abbrev pub awaits_at : Shape → (dir line : ℕ) → Option Awaited → ℕ
awaits_at sh d l a = num (is_awaited a l && home sh l == d)

-- as many requests are sent as further lines are awaited
abbrev pub LoadsStep : Shape → CoreState → Out → Type 0
LoadsStep sh s o = (d l : ℕ) → among (LoadOf l) (o.sends (Dir d)) + awaits_at sh d l s.awaited ≡ awaits_at sh d l o.core.awaited

-- no request is sent, and the line awaited stays
still : (sh : Shape) (s : CoreState) (o : Out) → ((d l : ℕ) → among (LoadOf l) (o.sends (Dir d)) ≡ 0) → o.core.awaited ≡ s.awaited
    → LoadsStep sh s o
still sh s o f e d l = rw e (omega (arith, f))

-- one line: a request for it goes to its home
asked-count : (k l d h g : ℕ) → (l ≡ k → h ≡ g) → num (d == h && k == l) ≡ num (k == l && g == d)
asked-count k l d h g e = grind nats

asked : (sh : Shape) (k : ℕ) (s : CoreState) → s.awaited ≡ None
    → LoadsStep sh s (moves (record s { awaited = awaiting k }) (say sh s (Requests k)))
unfolding among passes
asked sh k s n d l = rw n (let c = asked-count k l d (home sh k) (home sh l) (λ e. rw e) in omega (arith, one))
  where
    one : (b : Bool) → among (LoadOf l) (if b then LoadReq k (s.last_commit (home sh k)) ∷ [] else []) ≡ num (b && k == l)
    one a = grind nats

pub loads-exec : (sh : Shape) (p : Program) (c : ℕ) (s : CoreState) → IfSome (core_exec sh p c s) (LoadsStep sh s)
unfolding passes commit solo_commit committed_core
loads-exec sh p c s = each-exec sh p c s (LoadsStep sh s) go
  where
    go : (x : Did sh p c s) → LoadsStep sh s (out x)
    go (Misses a n g i q) = asked sh (line_of (word_of sh.base a)) s g.idle
    go (Misses_anew a n g i q f) = asked sh (line_of (word_of sh.base a)) s g.idle
    go x = still sh s (out x) (λ d l. quiet sh s (LoadOf l) (said x) (λ y. refl) d) refl

pub loads-evict : (sh : Shape) (x y : ℕ) (s : CoreState) → IfSome (core_evict sh x y s) (LoadsStep sh s)
unfolding passes
loads-evict sh x y s = each-evict sh x y s (LoadsStep sh s)
    (λ k e a m. still sh s (emptied sh x y k s) (λ d l. quiet sh s (LoadOf l) (Empties k) (λ y. refl) d) refl)

pub loads-grant : (sh : Shape) (t : ℕ) (s : CoreState) → LoadsStep sh s (grant sh t s)
unfolding passes
loads-grant sh t s = each-grant sh t s (LoadsStep sh s) go
  where
    go : (x : Granted sh t s) → LoadsStep sh s (granted x)
    go (Given_none e) = still sh s (granted {sh = sh} {t = t} {s = s} (Given_none e))
        (λ d l. quiet sh s (LoadOf l) Silent (λ y. refl) d) refl
    go x = still sh s (granted x) (λ d l. quiet sh s (LoadOf l) (granted_said x) (λ y. refl) d) refl

-- the same where the core takes a message of directory e, a Fill being of the line that it awaits from there
abbrev pub LoadsBack : Shape → (dir : ℕ) → CoreState → Msg → Out → Type 0
LoadsBack sh e s m o = (d l : ℕ) → among (LoadOf l) (o.sends (Dir d)) + awaits_at sh d l s.awaited ≡ awaits_at sh d l o.core.awaited + num
    (d == e && passes (FillOf l) m)

no-fill : (b : Bool) → num (b && false) ≡ 0
no-fill a = grind nats

step-back : (sh : Shape) (e : ℕ) (s : CoreState) (m : Msg) (o : Out) → ((l : ℕ) → passes (FillOf l) m ≡ false)
    → ((d l : ℕ) → among (LoadOf l) (o.sends (Dir d)) ≡ 0) → ((d l : ℕ) → awaits_at sh d l o.core.awaited ≡ awaits_at sh d l s.awaited)
    → LoadsBack sh e s m o
step-back sh e s m o f z a d l = rw (f l) (omega (arith, z, a, no-fill (d == e)))

fill-count : {a k : ℕ} (l d e h : ℕ) → a ≡ k → (l ≡ k → h ≡ e) → num (a == l && h == d) ≡ num (d == e && k == l)
fill-count l d e h p q = grind nats

-- the line that is awaited comes
taken : (sh : Shape) (e k : ℕ) (ws : List ℕ) (s r : CoreState) (a : Awaited) → s.awaited ≡ Some a → a.line ≡ k → r.awaited ≡ None
    → 1 ≤ awaits_at sh e k s.awaited → LoadsBack sh e s (Fill k ws) (moves r nothing)
unfolding among passes
taken sh e k ws s r a q i n x d l =
    rw (q, n) (omega (arith, fill-count l d e (home sh l) i (λ j. rw j (home-is (a.line == k) (home sh k == e) refl (rw q at x)))))
  where
    home-is : (b c : Bool) → (home sh k == e) ≡ c → 1 ≤ num (b && c) → home sh k ≡ e
    home-is a c g y = grind nats

pub loads-back : (sh : Shape) (e : ℕ) (s : CoreState) (m : Msg) → ((l : ℕ) → num (passes (FillOf l) m) ≤ awaits_at sh e l s.awaited)
    → IfSome (from_dir sh e s m) (LoadsBack sh e s m)
unfolding passes
loads-back sh e s m h =
    given (from_dir sh e s m) (Fits m) (LoadsBack sh e s m) (each-back sh e s (λ m o. Fits m → LoadsBack sh e s m o) go m) h
  where
    Fits : Msg → Type 0
    Fits m = (l : ℕ) → num (passes (FillOf l) m) ≤ awaits_at sh e l s.awaited

    one : (l : ℕ) (ws : List ℕ) → Fits (Fill l ws) → 1 ≤ awaits_at sh e l s.awaited
    one l ws h = let x = h l in let y : num (l == l) ≡ 1 = grind nats in omega arith

    staled-awaits : (k d l : ℕ) (a : Option Awaited) → awaits_at sh d l (staled k a) ≡ awaits_at sh d l a
    staled-awaits k d l a = grind nats

    hurt : (k m u : ℕ) (x : Heard sh e s) → (heard x).core.awaited ≡ staled k s.awaited
        → ((d l : ℕ) → among (LoadOf l) ((heard x).sends (Dir d)) ≡ 0) → LoadsBack sh e s (Inv k m u) (heard x)
    hurt k m u x a z = step-back sh e s (Inv k m u) (heard x) (λ l. refl) z (λ d l. rw a (staled-awaits k d l s.awaited))

    go : (x : Heard sh e s) → Fits (message x) → LoadsBack sh e s (message x) (heard x)
    go (Ignores_fill k ws n) h = absurd (let y : awaits_at sh e k s.awaited ≡ 0 = rw n in omega (arith, one k ws h, y))
    go (Fills k ws a q i f) h = taken sh e k ws s (record s { awaited = None }) a q i refl (one k ws h)
    go (Fills_none k ws a q i f) h = taken sh e k ws s (record s { awaited = None }) a q i refl (one k ws h)
    go (Hurt_none k m u n) h = hurt k m u (Hurt_none k m u n) refl
        (λ d l. heard-quiet {sh = sh} {e = e} {s = s} (LoadOf l) (Hurt_none k m u n) (λ y. refl) (λ b. refl) d)
    go (Hurt_running k m u v q) h = hurt k m u (Hurt_running k m u v q) refl
        (λ d l. heard-quiet {sh = sh} {e = e} {s = s} (LoadOf l) (Hurt_running k m u v q) (λ y. refl) (λ b. refl) d)
    go (Hurt_waiting k m u v q) h = hurt k m u (Hurt_waiting k m u v q) refl
        (λ d l. heard-quiet {sh = sh} {e = e} {s = s} (LoadOf l) (Hurt_waiting k m u v q) (λ y. refl) (λ b. refl) d)
    go (Hurt_probing k m u t v q) h = hurt k m u (Hurt_probing k m u t v q) refl
        (λ d l. heard-quiet {sh = sh} {e = e} {s = s} (LoadOf l) (Hurt_probing k m u t v q) (λ y. refl) (λ b. refl) d)
    go (Hurt_alone k m u t v q) h = hurt k m u (Hurt_alone k m u t v q) refl
        (λ d l. heard-quiet {sh = sh} {e = e} {s = s} (LoadOf l) (Hurt_alone k m u t v q) (λ y. refl) (λ b. refl) d)
    go x h = step-back sh e s (message x) (heard x) (λ l. refl) (λ d l. heard-quiet (LoadOf l) x (λ y. refl) (λ b. refl) d) (λ d l. refl)
