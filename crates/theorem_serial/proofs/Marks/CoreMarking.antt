-- What each of a core's rules does to its Marks, Skips and the words on its TID.
use Rattle.theorem_serial.proofs
use proofs.Names
use Names.{eq-self, num-most, ℕ, ◌+◌, ◌≡◌, ◌≤◌, Bool, true, false, not, List, [], ◌∷◌, ◌++◌, ◌==◌, ◌&&◌, None, IfSome, nat_lt}
use Names.{if◌then◌else◌, arith, refl, ap, ◌⊎◌, inl, inr, cases_eq, Program, num, any_word, Dir, Msg, InvAck, Shape, home, lines, Cache}
use Names.{writes_at, is_modified, CoreState, Phase, Running, AwaitTid, Ready, Overflowing, Solo, to, skip_all, abort_written, Out, commit}
use Names.{committed_core, phase_after_commit, commit_sends, solo_sends, core_exec, core_evict, Resolves, Protocol, Marks, MarkOf}
use Names.{EmptyMarks, Skips, among, passes, has_marked, stores_line, marked_by, has_tid, opens, Outcome, solo_commit, nats, ◌≢◌, and-left}
use Names.{and-right, ◌<◌, Some, sym, ◌∙◌, put, any_below, ProbeReply, Fill, DataReq, Inv, modified_mask, written_lines, DoomedTid, Probing}
use Names.{marks_for, probe_all, from_dir, all_replied, grant, grant_in_phase, grant_sends, is_probed, probing_or_ready, waits_for_tid}
use proofs.Counts.{among-append, num-one}
use proofs.Tids.{tid-after}
use proofs.OneCore.{Steady, did-steady, steady-emptied, Acts, Commits_now, Did, each-exec, out, each-evict, Ends_alone, Ends_run}
use proofs.OneCore.{Room_wanted, fill-steady, data-steady, ignored-steady, Hurt, Unhurt, Rolled, Doomed, Aborted, Gave_up, Invalidated}
use proofs.OneCore.{invalidate-cases, Replied, Ignored, Probed, Left_alone, reply-cases}
use proofs.Marks.CoreMarks.{solo-mark, solo-full, solo-skips, solo-owned, marks-for, marks-only, full-for, stores-writes}

-- A core speaks only of its TID. While it keeps it, it has sent a Mark of each line that it has to; it marks a line once, only where
-- the TID is open, and skips only where it has sent no Mark.
pub record Marking (sh : Shape) (d t l : ℕ) (s : CoreState) (o : Out) : Type 0 where
  pub owned : 1 ≤ among (Marks t) (o.sends (Dir d)) + among (Resolves t) (o.sends (Dir d)) → has_tid s.phase t ≡ true
  pub words : among EmptyMarks (o.sends (Dir d)) ≡ 0
  pub kept : has_tid o.core.phase t ≡ true
      → (has_tid s.phase t ≡ true) × (among (MarkOf t l) (o.sends (Dir d)) + marked_by sh s d l ≡ marked_by sh o.core d l)
  pub once : among (MarkOf t l) (o.sends (Dir d)) + marked_by sh s d l ≤ 1
  pub opened : 1 ≤ among (MarkOf t l) (o.sends (Dir d)) → opens s.phase (writes_at sh s.cache d) t ≡ true
  pub skips : 1 ≤ among (Skips t) (o.sends (Dir d))
      → (has_tid s.phase t ≡ true) × (among (MarkOf t l) (o.sends (Dir d)) + marked_by sh s d l ≡ 0)

-- kinds that are told of
one-protocol : (t l : ℕ) (m : Msg) → num (passes (Marks t) m) + num (passes (Resolves t) m) + num (passes EmptyMarks m) ≤ num
    (passes Protocol m) + num (passes EmptyMarks m)
unfolding passes
one-protocol t l m = grind nats

two-protocol : (t l : ℕ) (m : Msg) → num (passes EmptyMarks m) ≤ num (passes Protocol m)
unfolding passes
two-protocol t l m = grind nats

of-mark : (t l : ℕ) (m : Msg) → num (passes (MarkOf t l) m) ≤ num (passes (Marks t) m)
unfolding passes
of-mark t l m = grind nats

of-skip : (t : ℕ) (m : Msg) → num (passes (Skips t) m) ≤ num (passes (Resolves t) m)
unfolding passes
of-skip t m = grind nats

-- none of these
pub record Unsaid (t l : ℕ) (ms : List Msg) : Type 0 where
  pub words : among EmptyMarks ms ≡ 0
  pub owned : among (Marks t) ms + among (Resolves t) ms ≡ 0
  pub marks : among (MarkOf t l) ms ≡ 0
  pub skips : among (Skips t) ms ≡ 0

pub few : (t l : ℕ) (ms : List Msg) → (among (Marks t) ms + among (Resolves t) ms ≤ among Protocol ms)
    × (among EmptyMarks ms ≤ among Protocol ms) × (among (MarkOf t l) ms ≤ among (Marks t) ms)
    × (among (Skips t) ms ≤ among (Resolves t) ms)
unfolding among
few t l [] = (omega arith, omega arith, omega arith, omega arith)
few t l (m ∷ ms) = let r = few t l ms in (
  omega (arith, one-protocol t l m),
  omega (arith, two-protocol t l m),
  omega (arith, of-mark),
  omega (arith, of-skip),
)

pub unsaid-quiet : (t l : ℕ) (ms : List Msg) → among Protocol ms ≡ 0 → Unsaid t l ms
unsaid-quiet t l ms q = let f = few t l ms in
    record { words = omega arith; owned = omega arith; marks = omega arith; skips = omega arith }

pub unsaid-nothing : (t l : ℕ) → Unsaid t l []
unfolding among
unsaid-nothing t l = record { words = refl; owned = refl; marks = refl; skips = refl }

pub unsaid-append : (t l : ℕ) (a b : List Msg) → Unsaid t l a → Unsaid t l b → Unsaid t l (a ++ b)
unsaid-append t l a b x y = record {
  words = omega (arith, among-append);
  owned = omega (arith, among-append);
  marks = omega (arith, among-append);
  skips = omega (arith, among-append);
}

pub at-most-one : (sh : Shape) (s : CoreState) (d l : ℕ) → marked_by sh s d l ≤ 1
unfolding marked_by
at-most-one sh s d l = num-most (has_marked s.phase && (not (s.owing d) && stores_line sh s.cache d l))

-- nothing is said, and what is to be marked stays
pub silent : {sh : Shape} {d t l : ℕ} {s : CoreState} {o : Out} → Unsaid t l (o.sends (Dir d))
    → (has_tid o.core.phase t ≡ true → (has_tid s.phase t ≡ true) × (marked_by sh s d l ≡ marked_by sh o.core d l)) → Marking sh d t l s o
silent {sh} {d} {l} {s} u k = record {
  owned = λ x. absurd (omega arith);
  words = u.words;
  kept = λ x. ((k x).0, omega (arith, (k x).1));
  once = omega (arith, at-most-one);
  opened = λ x. absurd (omega arith);
  skips = λ x. absurd (omega arith);
}

pub stores-same : (sh : Shape) (a b : Cache) (d l : ℕ) → ((v : ℕ) → a.modified v ≡ b.modified v)
    → stores_line sh a d l ≡ stores_line sh b d l
unfolding stores_line is_modified
stores-same sh a b d l h = ap (λ m. nat_lt l (lines sh) && (d == home sh l && any_word m l)) (λ i v. h v i)

pub marked-same : (sh : Shape) (s r : CoreState) (d l : ℕ) → r.phase ≡ s.phase → r.owing d ≡ s.owing d
    → (has_marked s.phase ≡ true → stores_line sh r.cache d l ≡ stores_line sh s.cache d l) → marked_by sh s d l ≡ marked_by sh r d l
unfolding marked_by
marked-same sh s r d l p q h = grind nats

pub idle : (q : Phase) → has_marked q ≡ true → Acts q → ⊥
unfolding has_marked
idle Running e a = cc
idle (Solo t) e a = cc
idle _ e a = a

pub marking-steady : (sh : Shape) (d t l : ℕ) {s : CoreState} {o : Out} → Steady s o → Marking sh d t l s o
marking-steady sh d t l {s} {o} y = silent (unsaid-quiet t l (o.sends (Dir d)) (y.quiet d))
    (λ x. (
      rw y.phase at x,
      marked-same sh s o.core d l y.phase (ap (λ f. f d) y.owing)
          (λ m. stores-same sh o.core.cache s.cache d l (y.modified (idle s.phase m))),
    ))

-- the core has no TID any more
pub silent-none : {sh : Shape} {d t l : ℕ} {s : CoreState} {o : Out} (q : Phase) → o.core.phase ≡ q → has_tid q t ≡ false
    → Unsaid t l (o.sends (Dir d)) → Marking sh d t l s o
silent-none {t} {o} q e h u = silent u (λ k. let x : has_tid o.core.phase t ≡ false = rw e h in absurd (cc))

-- it has none any more, and has spoken of its TID u without a Mark
pub last-words : {sh : Shape} {d t l : ℕ} (u : ℕ) {s : CoreState} {o : Out} (q : Phase) → o.core.phase ≡ q → has_tid q t ≡ false
    → ((u ≡ t) → has_tid s.phase t ≡ true) → (among EmptyMarks (o.sends (Dir d)) ≡ 0) → (among (MarkOf t l) (o.sends (Dir d)) ≡ 0)
    → ((among (Marks t) (o.sends (Dir d)) + among (Resolves t) (o.sends (Dir d)) ≡ 0) ⊎ (u ≡ t))
    → (1 ≤ among (Skips t) (o.sends (Dir d)) → (has_tid s.phase t ≡ true) × (marked_by sh s d l ≡ 0)) → Marking sh d t l s o
last-words {sh} {d} {t} {l} u {s} {o} q e h f w m a k = record {
  owned = λ x. own x a;
  words = w;
  kept = λ x. let y : has_tid o.core.phase t ≡ false = rw e h in absurd (cc);
  once = omega (arith, at-most-one);
  opened = λ x. absurd (omega arith);
  skips = λ x. ((k x).0, omega (arith, (k x).1));
}
  where
    own : 1 ≤ among (Marks t) (o.sends (Dir d)) + among (Resolves t) (o.sends (Dir d))
        → (among (Marks t) (o.sends (Dir d)) + among (Resolves t) (o.sends (Dir d)) ≡ 0) ⊎ (u ≡ t) → has_tid s.phase t ≡ true
    own x a = grind nats

-- the words on a TID
pub is-tid : (u t : ℕ) (a : ℕ) → (u ≢ t) ⊎ (u ≡ t) → (((u == t) ≡ false) → a ≡ 0) → (a ≡ 0) ⊎ (u ≡ t)
is-tid u t a (inr e) f = inr e
is-tid u t a (inl n) f = inl (f (grind nats))

pub swap : {A B : Type 0} → A ⊎ B → B ⊎ A
swap (inl a) = inr a
swap (inr a) = inl a

pub told-commit : (sh : Shape) (c : Cache) (u d t l : ℕ) → (among EmptyMarks (commit_sends sh c u (Dir d)) ≡ 0)
    × (among (MarkOf t l) (commit_sends sh c u (Dir d)) ≡ 0) × (among (Skips t) (commit_sends sh c u (Dir d)) ≡ 0)
    × (((u == t) ≡ false) → among (Marks t) (commit_sends sh c u (Dir d)) + among (Resolves t) (commit_sends sh c u (Dir d)) ≡ 0)
unfolding commit_sends among passes
told-commit sh c u d t l = (grind arith, grind arith, grind arith, λ q. grind arith)

pub told-abort : (sh : Shape) (c : Cache) (u d t l : ℕ) → (among EmptyMarks (abort_written sh c u (Dir d)) ≡ 0)
    × (among (MarkOf t l) (abort_written sh c u (Dir d)) ≡ 0) × (among (Skips t) (abort_written sh c u (Dir d)) ≡ 0)
    × (((u == t) ≡ false) → among (Marks t) (abort_written sh c u (Dir d)) + among (Resolves t) (abort_written sh c u (Dir d)) ≡ 0)
unfolding abort_written among passes
told-abort sh c u d t l = (grind arith, grind arith, grind arith, λ q. grind arith)

pub told-skip : (sh : Shape) (u d t l : ℕ) → (among EmptyMarks (skip_all sh u (Dir d)) ≡ 0)
    × (among (MarkOf t l) (skip_all sh u (Dir d)) ≡ 0)
    × (((u == t) ≡ false) → among (Marks t) (skip_all sh u (Dir d)) + among (Resolves t) (skip_all sh u (Dir d)) ≡ 0)
unfolding skip_all among passes
told-skip sh u d t l = (grind arith, grind arith, λ q. grind arith)

-- before or behind an acknowledgement
pub acked : (t l h d x : ℕ) (b : Bool) → Unsaid t l (to (Dir h) (InvAck x b ∷ []) (Dir d))
unfolding among passes
acked t l h d x b = go (d == h)
  where
    go : (y : Bool) → Unsaid t l (if y then InvAck x b ∷ [] else [])
    go true = record { words = refl; owned = refl; marks = refl; skips = refl }
    go false = record { words = refl; owned = refl; marks = refl; skips = refl }

pub mine : {u t : ℕ} (q : Phase) → has_tid q u ≡ true → u ≡ t → has_tid q t ≡ true
mine q h e = rw e at h

pub has-ready : {u : ℕ} {q : Phase} → q ≡ Ready u → has_tid q u ≡ true
unfolding has_tid
has-ready {u} e = rw e (eq-self u)

solo-opens : {u t : ℕ} (w : Bool) {q : Phase} → q ≡ Solo u → u ≡ t → opens q w t ≡ true
unfolding opens
solo-opens w e h = rw e (grind nats)

marking-alone : {sh : Shape} (d t l u : ℕ) (s : CoreState) {o : Out} (e : Outcome) → s.phase ≡ Solo u → o.core.phase ≡ phase_after_commit e
    → o.sends ≡ solo_sends sh s.cache s.spilled u → Marking sh d t l s o
unfolding has_tid has_marked marked_by
marking-alone {sh} d t l u s {o} e q ph se = record {
  owned = λ x. own (rw se at x) (solo-owned sh s.cache s.spilled u d t);
  words = rw se (solo-full sh s.cache s.spilled u d);
  kept = λ x. let y : has_tid o.core.phase t ≡ false = rw ph (tid-after e t) in absurd (cc);
  once = rw (se, q) (omega (arith, solo-mark, num-most));
  opened = λ x. solo-opens (writes_at sh s.cache d) q (one (rw se at x) (cases_eq u t));
  skips =
      λ x. (
        own (skipped (rw se at x)) (solo-owned sh s.cache s.spilled u d t),
        rw (se, q) (omega (arith, solo-skips sh s.cache s.spilled u d t l (rw se at x))),
      );
}
  where
    own : 1 ≤ among (Marks t) (solo_sends sh s.cache s.spilled u (Dir d)) + among (Resolves t) (solo_sends sh s.cache s.spilled u (Dir d))
        → (among (Marks t) (solo_sends sh s.cache s.spilled u (Dir d)) + among (Resolves t) (solo_sends sh s.cache s.spilled u (Dir d)) ≡ 0)
        ⊎ (u ≡ t) → has_tid s.phase t ≡ true
    own x a = grind nats

    skipped : 1 ≤ among (Skips t) (solo_sends sh s.cache s.spilled u (Dir d))
        → 1 ≤ among (Marks t) (solo_sends sh s.cache s.spilled u (Dir d)) + among (Resolves t) (solo_sends sh s.cache s.spilled u (Dir d))
    skipped x = omega (arith, (few t l (solo_sends sh s.cache s.spilled u (Dir d))).3)

    one : 1 ≤ among (MarkOf t l) (solo_sends sh s.cache s.spilled u (Dir d)) → (u ≡ t) ⊎ (u ≢ t) → u ≡ t
    one x a = grind (nats, solo-mark)

pub marking-exec : (sh : Shape) (p : Program) (c d t l : ℕ) (s : CoreState) → IfSome (core_exec sh p c s) (Marking sh d t l s)
unfolding commit solo_commit committed_core has_tid
marking-exec sh p c d t l s = each-exec sh p c s (Marking sh d t l s) go
  where
    ready : (u : ℕ) → s.phase ≡ Ready u → Marking sh d t l s (commit sh c u s)
    ready u e = let f = told-commit sh s.cache u d t l in last-words u (phase_after_commit s.ended) refl
        (tid-after s.ended t) (mine s.phase (has-ready e)) f.0 f.1 (is-tid u t _ (swap (cases_eq u t)) f.3)
        (λ x. absurd (omega arith))

    go : (x : Did sh p c s) → Marking sh d t l s (out x)
    go (Commits_now u e) = ready u e
    go (Room_wanted r i) = silent-none (Overflowing None) refl refl (unsaid-nothing t l)
    go (Ends_run n e f r i) = silent-none AwaitTid refl refl (unsaid-nothing t l)
    go (Ends_alone u n e f r i) = marking-alone d t l u s e r refl refl
    go x = marking-steady sh d t l (did-steady x)

pub marking-evict : (sh : Shape) (x y d t l : ℕ) (s : CoreState) → IfSome (core_evict sh x y s) (Marking sh d t l s)
marking-evict sh x y d t l s = each-evict sh x y s (Marking sh d t l s)
    (λ k q u z. marking-steady sh d t l (steady-emptied sh x y s k q u z))

-- What each message to a core does to its Marks, Skips and the words on its TID.

-- before an acknowledgement
append-told : (t l : ℕ) (a b : List Msg) → Unsaid t l b → (among EmptyMarks (a ++ b) ≡ among EmptyMarks a)
    × (among (MarkOf t l) (a ++ b) ≡ among (MarkOf t l) a) × (among (Skips t) (a ++ b) ≡ among (Skips t) a)
    × (among (Marks t) (a ++ b) + among (Resolves t) (a ++ b) ≡ among (Marks t) a + among (Resolves t) a)
append-told t l a b u = (
  omega (arith, among-append),
  omega (arith, among-append),
  omega (arith, among-append),
  omega (arith, among-append),
)

has-of : (u : ℕ) (q : Phase) → ((q ≡ Probing u) ⊎ (q ≡ Ready u)) ⊎ ((q ≡ Overflowing (Some u)) ⊎ (q ≡ Solo u)) → has_tid q u ≡ true
unfolding has_tid
has-of u q a = grind nats

silent-alone : (u : ℕ) (q : Phase) → (q ≡ Overflowing (Some u)) ⊎ (q ≡ Solo u) → has_marked q ≡ false
unfolding has_marked
silent-alone u q a = grind nats

pub unmarked : (sh : Shape) (s : CoreState) (d l : ℕ) → has_marked s.phase ≡ false → marked_by sh s d l ≡ 0
unfolding marked_by
unmarked sh s d l e = rw e

skips-mine : (u t : ℕ) (a b : ℕ) → 1 ≤ a → a ≤ b → (b ≡ 0) ⊎ (u ≡ t) → u ≡ t
skips-mine u t a b x y d = grind nats

skips-resolves : (sh : Shape) (u d t : ℕ) → among (Skips t) (skip_all sh u (Dir d)) ≤ among (Marks t) (skip_all sh u (Dir d)) + among
    (Resolves t) (skip_all sh u (Dir d))
unfolding skip_all among passes
skips-resolves sh u d t = grind arith

marking-hurt : {sh : Shape} (x d t l : ℕ) (s : CoreState) {o : Out} → Invalidated sh x s o → Marking sh d t l s o
unfolding has_tid
marking-hurt {sh} x d t l s {o} i = go i.hurt
  where
    ack : List Msg
    ack = to (Dir (home sh x)) (InvAck x i.kept ∷ []) (Dir d)

    a : Unsaid t l ack
    a = acked t l (home sh x) d x i.kept

    quiet : i.sends (Dir d) ≡ [] → Unsaid t l (o.sends (Dir d))
    quiet e = rw (i.dirs d) (rw e (unsaid-append t l [] ack (unsaid-nothing t l) a))

    told : (ms : List Msg) → i.sends (Dir d) ≡ ms → (among EmptyMarks (o.sends (Dir d)) ≡ among EmptyMarks ms)
        × (among (MarkOf t l) (o.sends (Dir d)) ≡ among (MarkOf t l) ms) × (among (Skips t) (o.sends (Dir d)) ≡ among (Skips t) ms)
        × (among (Marks t) (o.sends (Dir d)) + among (Resolves t) (o.sends (Dir d)) ≡ among (Marks t) ms + among (Resolves t) ms)
    told ms e = rw (i.dirs d) (rw e (append-told t l ms ack a))

    aborted : (u : ℕ) → (s.phase ≡ Probing u) ⊎ (s.phase ≡ Ready u) → o.core.phase ≡ Running → i.sends ≡ abort_written sh s.cache u
        → Marking sh d t l s o
    aborted u ph ph' se =
        let f = told-abort sh s.cache u d t l in
        let g = told (abort_written sh s.cache u (Dir d)) (ap (λ h. h (Dir d)) se) in
        last-words u Running ph' refl (λ z. mine s.phase (has-of u s.phase (inl ph)) z) (g.0 ∙ f.0) (g.1 ∙ f.1)
        (is-tid u t _ (swap (cases_eq u t)) (λ q. g.3 ∙ f.3 q)) (λ y. absurd (omega arith))

    gave_up : (u : ℕ) → (s.phase ≡ Overflowing (Some u)) ⊎ (s.phase ≡ Solo u) → o.core.phase ≡ Running → i.sends ≡ skip_all sh u
        → Marking sh d t l s o
    gave_up u ph ph' se =
        let f = told-skip sh u d t l in
        let g = told (skip_all sh u (Dir d)) (ap (λ h. h (Dir d)) se) in
        let own = is-tid u t _ (swap (cases_eq u t)) f.2 in
        last-words u Running ph' refl (λ z. mine s.phase (has-of u s.phase (inr ph)) z) (g.0 ∙ f.0) (g.1 ∙ f.1)
        (is-tid u t _ (swap (cases_eq u t)) (λ q. g.3 ∙ f.2 q))
        (λ y. (
          mine s.phase (has-of u s.phase (inr ph)) (skips-mine u t _ _ (omega arith) (skips-resolves sh u d t) own),
          unmarked sh s d l (silent-alone u s.phase ph),
        ))

    go : Hurt sh s o.core i.sends → Marking sh d t l s o
    go (Unhurt ph ow mo re se) = silent (quiet (se (Dir d)))
        (λ x. (rw ph at x, marked-same sh s o.core d l ph (ap (λ f. f d) ow) (λ m. stores-same sh o.core.cache s.cache d l mo)))
    go (Rolled ph ph' ow se) = silent-none Running ph' refl (quiet (se (Dir d)))
    go (Doomed ph ph' ow se) = silent-none DoomedTid ph' refl (quiet (se (Dir d)))
    go (Aborted u ph ph' ow se) = aborted u ph ph' se
    go (Gave_up u ph ph' ow se) = gave_up u ph ph' se

-- a reply
last-tid : (b : Bool) (u t : ℕ) → has_tid (if b then Ready u else Probing u) t ≡ true → u ≡ t
unfolding has_tid
last-tid a u t x = grind nats

last-alone : (b : Bool) (u t : ℕ) → has_tid (if b then Solo u else Overflowing (Some u)) t ≡ true → u ≡ t
unfolding has_tid
last-alone a u t x = grind nats

both-marked : (b : Bool) (u : ℕ) → has_marked (if b then Ready u else Probing u) ≡ true
unfolding has_marked
both-marked a u = grind nats

none-marked : (b : Bool) (u : ℕ) → has_marked (if b then Solo u else Overflowing (Some u)) ≡ false
unfolding has_marked
none-marked a u = grind nats

put_same : (e : ℕ) (f : ℕ → Bool) → put f e false e ≡ false
put_same e f = let b : (e == e) ≡ true = eq-self e in rw b

put_other : (e d : ℕ) (f : ℕ → Bool) → d ≢ e → put f e false d ≡ f d
put_other e d f n = let b : (d == e) ≡ false = grind nats in rw b

nothing-more : (a b : Bool) → num (true && b) + num (a && (not true && b)) ≡ num (true && (not false && b))
nothing-more a b = grind nats

no-more : (a b c : Bool) → num a + num (b && (not true && c)) ≤ 1
no-more a b c = grind nats

opens-probing : (u t : ℕ) {w : Bool} → (u == t) ≡ true → w ≡ true → opens (Probing u) w t ≡ true
unfolding opens
opens-probing u t a b = rw (a, b)

marks-mine : (sh : Shape) (c : Cache) (u e t : ℕ) → (u == t) ≡ false
    → among (Marks t) (marks_for sh c u e) + among (Resolves t) (marks_for sh c u e) ≡ 0
unfolding marks_for written_lines passes
marks-mine sh c u e t q =
    omega (
      arith,
      marks-only (Marks t) (λ k. e == home sh k && is_modified c k) (modified_mask c) u (lines sh) (λ l x. ap num q),
      marks-only (Resolves t) (λ k. e == home sh k && is_modified c k) (modified_mask c) u (lines sh) (λ l x. refl),
    )

no-skips : (sh : Shape) (c : Cache) (u e t : ℕ) → among (Skips t) (marks_for sh c u e) ≡ 0
unfolding marks_for written_lines passes
no-skips sh c u e t = marks-only (Skips t) (λ k. e == home sh k && is_modified c k) (modified_mask c) u (lines sh) (λ l x. refl)

-- the reply that a core waits for: it marks there what it stores
marking-here : (sh : Shape) (e u t l : ℕ) (s : CoreState) (o : Out) → s.phase ≡ Probing u → s.owing e ≡ true
    → o.core.phase ≡ (if all_replied sh (put s.owing e false) then Ready u else Probing u) → o.core.owing ≡ put s.owing e false
    → o.core.cache ≡ s.cache → o.sends (Dir e) ≡ marks_for sh s.cache u e → Marking sh e t l s o
unfolding marked_by
marking-here sh e u t l s o ph ow ph' ow' ca se = record {
  owned = λ x. mine s.phase has
      (skips-mine u t _ _ (rw se at x) (omega arith) (is-tid u t _ (swap (cases_eq u t)) (marks-mine sh s.cache u e t)));
  words = rw se (full-for sh s.cache u e);
  kept = λ x. let y : u ≡ t = last-tid (all_replied sh (put s.owing e false)) u t (rw ph' at x) in
      (mine s.phase has y, rw (se, ph, ow, ca, marks-for sh s.cache u e t l) (after y));
  once = rw (se, ph, ow, marks-for sh s.cache u e t l)
      (no-more ((u == t) && stores_line sh s.cache e l) (has_marked (Probing u)) (stores_line sh s.cache e l));
  opened = λ x. opening (rw se at x);
  skips = λ x. absurd (omega (arith, rw se at x, no-skips));
}
  where
    has : has_tid s.phase u ≡ true
    has = has-of u s.phase (inl (inl ph))

    marked : has_marked o.core.phase ≡ true
    marked = rw ph' (both-marked (all_replied sh (put s.owing e false)) u)

    free : o.core.owing e ≡ false
    free = ap (λ f. f e) ow' ∙ put_same e s.owing

    after : u ≡ t → num ((u == t) && stores_line sh s.cache e l) + num (has_marked (Probing u) && (not true && stores_line sh s.cache e l))
        ≡ num (has_marked o.core.phase && (not (o.core.owing e) && stores_line sh s.cache e l))
    after y = let b : (u == t) ≡ true = grind nats in
        rw (b, marked, free) (nothing-more (has_marked (Probing u)) (stores_line sh s.cache e l))

    opening : 1 ≤ among (MarkOf t l) (marks_for sh s.cache u e) → opens s.phase (writes_at sh s.cache e) t ≡ true
    opening x = let y : (u == t) && stores_line sh s.cache e l ≡ true = num-one _ (omega (arith, marks-for)) in
        rw ph (opens-probing u t (and-left _ _ y) (stores-writes sh s.cache e l (and-right _ _ y)))

-- a directory where it doesn't mark
marking-away : (sh : Shape) (e u d t l : ℕ) (s : CoreState) (o : Out) → d ≢ e → s.phase ≡ Probing u
    → o.core.phase ≡ (if all_replied sh (put s.owing e false) then Ready u else Probing u) → o.core.owing ≡ put s.owing e false
    → o.core.cache ≡ s.cache → o.sends (Dir d) ≡ [] → Marking sh d t l s o
unfolding marked_by
marking-away sh e u d t l s o n ph ph' ow' ca se =
    let was : has_marked s.phase ≡ true = rw ph (both-marked false u) in
    let now : has_marked o.core.phase ≡ true = rw ph' (both-marked (all_replied sh (put s.owing e false)) u) in
    let same : o.core.owing d ≡ s.owing d = ap (λ f. f d) ow' ∙ put_other e d s.owing n in
    silent (rw se (unsaid-nothing t l))
    (λ x. (
      mine s.phase (has-of u s.phase (inl (inl ph))) (last-tid (all_replied sh (put s.owing e false)) u t (rw ph' at x)),
      rw (ca, was, now, same),
    ))

marking-onward : (sh : Shape) (e u d t l : ℕ) (s : CoreState) (o : Out) → s.phase ≡ Overflowing (Some u)
    → o.core.phase ≡ (if all_replied sh (put s.owing e false) then Solo u else Overflowing (Some u)) → o.sends (Dir d) ≡ []
    → Marking sh d t l s o
marking-onward sh e u d t l s o ph ph' se = silent (rw se (unsaid-nothing t l))
    (λ x. (
      mine s.phase (has-of u s.phase (inr (inl ph))) (last-alone (all_replied sh (put s.owing e false)) u t (rw ph' at x)),
      unmarked sh s d l (silent-alone u s.phase (inl ph))
          ∙ sym (unmarked sh o.core d l (rw ph' (none-marked (all_replied sh (put s.owing e false)) u))),
    ))

marking-replied : (sh : Shape) (e u d t l : ℕ) (s : CoreState) {o : Out} → Replied sh e u s o → Marking sh d t l s o
marking-replied sh e u d t l s (Ignored q f) = rw q (marking-steady sh d t l (ignored-steady s))
marking-replied sh e u d t l s {o} (Probed ph ow ph' ow' ca se cm) = elim (cases_eq d e) [
  | inl q ↦ rw q (marking-here sh e u t l s o ph ow ph' ow' ca (ap (λ f. f (Dir e)) se ∙ here))
  | inr n ↦ marking-away sh e u d t l s o n ph ph' ow' ca (ap (λ f. f (Dir d)) se ∙ away n)
]
  where
    here : to (Dir e) (marks_for sh s.cache u e) (Dir e) ≡ marks_for sh s.cache u e
    here = let b : (e == e) ≡ true = eq-self e in rw b

    away : d ≢ e → to (Dir e) (marks_for sh s.cache u e) (Dir d) ≡ []
    away n = let b : (d == e) ≡ false = grind nats in rw b
marking-replied sh e u d t l s {o} (Left_alone ph ow ph' ow' ca se cm) = marking-onward sh e u d t l s o ph ph' (ap (λ f. f (Dir d)) se)

pub marking-back : (sh : Shape) (e d t l : ℕ) (s : CoreState) (m : Msg) → IfSome (from_dir sh e s m) (Marking sh d t l s)
marking-back sh e d t l s (ProbeReply u v) = marking-replied sh e u d t l s (reply-cases sh e u s)
marking-back sh e d t l s (Fill k ws) = marking-steady sh d t l (fill-steady k ws s)
marking-back sh e d t l s (DataReq k) = marking-steady sh d t l (data-steady sh k s)
marking-back sh e d t l s (Inv k m u) = marking-hurt k d t l s (invalidate-cases sh k m u s)
marking-back sh e d t l s _ = tt

-- A grant: no Mark goes out, and only the TID that came is spoken of.
pub record Granting (sh : Shape) (u d t l : ℕ) (o : Out) : Type 0 where
  pub words : among EmptyMarks (o.sends (Dir d)) ≡ 0
  pub marks : among (MarkOf t l) (o.sends (Dir d)) ≡ 0
  pub owned : u ≢ t → among (Marks t) (o.sends (Dir d)) + among (Resolves t) (o.sends (Dir d)) ≡ 0
  pub kept : d < sh.dirs → has_tid o.core.phase t ≡ true → (u ≡ t) × (marked_by sh o.core d l ≡ 0)

told-grant : (sh : Shape) (c : Cache) (u d t l : ℕ) → (among EmptyMarks (grant_sends sh c u (Dir d)) ≡ 0)
    × (among (MarkOf t l) (grant_sends sh c u (Dir d)) ≡ 0)
    × (((u == t) ≡ false) → among (Marks t) (grant_sends sh c u (Dir d)) + among (Resolves t) (grant_sends sh c u (Dir d)) ≡ 0)
unfolding grant_sends among passes
told-grant sh c u d t l = (grind arith, grind arith, λ q. grind arith)

told-probe : (sh : Shape) (u d t l : ℕ) → (among EmptyMarks (probe_all sh u (Dir d)) ≡ 0)
    × (among (MarkOf t l) (probe_all sh u (Dir d)) ≡ 0)
    × (among (Marks t) (probe_all sh u (Dir d)) + among (Resolves t) (probe_all sh u (Dir d)) ≡ 0)
unfolding probe_all among passes
told-probe sh u d t l = (grind arith, grind arith, grind arith)

tid-probing : (b : Bool) (u t : ℕ) → has_tid (probing_or_ready b u) t ≡ true → u ≡ t
unfolding has_tid
tid-probing a u t x = grind nats

unprobed-stores : (sh : Shape) (c : Cache) (d l : ℕ) → d < sh.dirs → is_probed sh c d ≡ false → stores_line sh c d l ≡ false
unfolding is_probed
unprobed-stores sh c d l x q = grind (nats, stores-writes)

pub granting : (sh : Shape) (u d t l : ℕ) (s : CoreState) → waits_for_tid s.phase ≡ true → Granting sh u d t l (grant sh u s)
unfolding grant waits_for_tid has_tid has_marked marked_by
granting sh u d t l s w = go s.phase w
  where
    other : u ≢ t → (u == t) ≡ false
    other n = grind nats

    same : (u == t) ≡ true → u ≡ t
    same e = grind nats

    quiet : (q : Phase) (b : Bool) → d < sh.dirs → is_probed sh s.cache d ≡ b
        → num (has_marked q && (not b && stores_line sh s.cache d l)) ≡ 0
    quiet q a x e = grind (nats, unprobed-stores)

    go : (q : Phase) → waits_for_tid q ≡ true → Granting sh u d t l (grant_in_phase sh u s q)
    go AwaitTid h = let f = told-grant sh s.cache u d t l in
        record {
          words = f.0;
          marks = f.1;
          owned = λ n. f.2 (other n);
          kept = λ x y. (
            tid-probing (any_below (is_probed sh s.cache) sh.dirs) u t y,
            quiet (probing_or_ready (any_below (is_probed sh s.cache) sh.dirs) u) (is_probed sh s.cache d) x refl,
          );
        }
    go DoomedTid h = let f = told-skip sh u d t l in
        record { words = f.0; marks = f.1; owned = λ n. f.2 (other n); kept = λ x y. absurd (cc) }
    go (Overflowing None) h = let f = told-probe sh u d t l in
        record { words = f.0; marks = f.1; owned = λ n. f.2; kept = λ x y. (same y, refl) }
    go _ h = absurd (cc)
