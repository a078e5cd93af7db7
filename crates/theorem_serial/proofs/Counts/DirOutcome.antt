-- What a directory does with a message: each outcome with the whole new state and what is sent. All else about its rules is shown of these.
use Rattle.rules_tcc.specs.DirDeliver.{dir_commit}
use Rattle.theorem_serial.proofs
use proofs.Names
use Names.{those-empty, ℕ, ◌-◌, ◌≡◌, ◌<◌, ◌≤◌, ◌⊎◌, Bool, true, false, List, [], ◌∷◌, get_or, ◌==◌, ◌&&◌, ◌||◌, not, Option, Some, None}
use Names.{nat_lt, nat_le, if◌then◌else◌, arith, refl, inl, inr, num, count_below, those, place_of, hit, full, Lines, has_mark, with_asked}
use Names.{with_mark, with_sharer, with_owner, unmarked, judge, is_owner, Current, Outdated, TooEarly, advance, skipped, kept, Core, Msg}
use Names.{LoadReq, Fill, Skip, Probe, ProbeReply, Mark, Commit, Abort, WriteBack, Flush, DataReq, Inv, InvAck, Shape, lines, DirState}
use Names.{nothing, to, Answer, Waits, Drops, Asks, Takes, skip, abort, acknowledgement, dir_deliver, moved_on, moved_on_if_settled}
use Names.{owned_by_committer, invalidation_count, invalidations, invs_to, is_invalidated, unless_keeps, ask_owner, load_unless_owned}
use Names.{load_request, home_words, mark_taken, mark_unless_owned, mark, judged, write_back, came_home, probe, Kind, among, passes, nats}
use Names.{Sends, Any}
use proofs.Counts.Links.{among-flat_map_none}

-- a WriteBack or Flush, which count alike
pub record IsCopy (m : Msg) (l k : ℕ) (ws : List ℕ) (g : ℕ) : Type 0 where
  pub alike : (q : Kind) → passes q m ≡ passes q (WriteBack l k ws g)

-- a message that comes too late
pub data IsSpent (s : DirState) (c : ℕ) : Msg → Type 0 where
  SkipPassed : (t : ℕ) → t < s.serving.serving → IsSpent s c (Skip t)
  AbortPassed : (t : ℕ) → t < s.serving.serving → IsSpent s c (Abort t)
  MarkPassed : (l k t : ℕ) → t < s.serving.serving → IsSpent s c (Mark l k t)
  NoneOwed : (l : ℕ) (b : Bool) → s.owed ≡ 0 → IsSpent s c (InvAck l b)
  CopyPassed : (m : Msg) (l k : ℕ) (ws : List ℕ) (g : ℕ) → IsCopy m l k ws g → g ≤ s.lines.tag l
      → ((s.lines.tag l == g) && is_owner (s.lines.owner l) c) ≡ false → IsSpent s c m

-- a message that wants the words of an owned line
pub data Wants (s : DirState) (l : ℕ) : Msg → Type 0 where
  ToLoad : (a : ℕ) → Wants s l (LoadReq l a)
  ToMark : (k : ℕ) → Wants s l (Mark l k s.serving.serving)

-- TakesSkip and TakesAbort: next, the served TID advances, or t is kept. TakesCommit and TakesAck: next, nothing is owed any more, and it
-- advances.
pub data Outcome (sh : Shape) (s : DirState) (c : ℕ) : Msg → Answer → Type 0 where
  Waiting : (m : Msg) → Outcome sh s c m Waits
  Spent : (m : Msg) → IsSpent s c m → Outcome sh s c m Drops
  AsksOwner : (m : Msg) (l o : ℕ) → Wants s l m → s.lines.owner l ≡ Some o
      → Outcome sh s c m (Asks (record s { lines = record s.lines { asked = λ x. (if x == l then true else s.lines.asked x) } })
      (to (Core o) (DataReq l ∷ [])))
  TakesSkip : (t : ℕ) (next : Bool) → (s.serving.serving == t) ≡ next → s.serving.serving ≤ t
      → Outcome sh s c (Skip t) (Takes (record s { serving = (if next then advance s.serving else kept t s.serving) }) nothing)
  TakesAbort : (t : ℕ) (next : Bool) → (s.serving.serving == t) ≡ next → s.serving.serving ≤ t
      → Outcome sh s c (Abort t)
      (Takes (record s {
        serving = (if next then advance s.serving else kept t s.serving);
        lines = record s.lines { mark = λ x. (if next then 0 else s.lines.mark x) };
      }) nothing)
  TakesProbe : (t : ℕ) → t ≤ s.serving.serving → Outcome sh s c (Probe t) (Takes s (to (Core c) (ProbeReply t s.serving.serving ∷ [])))
  TakesLoad : (l a : ℕ) → a < s.serving.serving → has_mark s.lines l ≡ false → s.lines.owner l ≡ None
      → Outcome sh s c (LoadReq l a)
      (Takes (record s { lines = record s.lines { sharers = λ x j. (if x == l && j == c then true else s.lines.sharers x j) } })
      (to (Core c) (Fill l (home_words s l) ∷ [])))
  TakesMark : (l k : ℕ) → (k ≡ full) ⊎ (s.lines.owner l ≡ None)
      → Outcome sh s c (Mark l k s.serving.serving)
      (Takes (record s { lines = record s.lines { mark = λ x. (if x == l then k else s.lines.mark x) } }) nothing)
  TakesCommit : (next : Bool) → (invalidation_count sh s.lines c == 0) ≡ next
      → Outcome sh s c (Commit s.serving.serving (count_below (has_mark s.lines) (lines sh))) (Takes (record s {
        serving = (if next then advance s.serving else s.serving);
        lines = record {
          sharers = λ x j. (if has_mark s.lines x && j == c then true else s.lines.sharers x j);
          owner = λ x. (if has_mark s.lines x then Some c else s.lines.owner x);
          tag = λ x. (if has_mark s.lines x then s.serving.serving else s.lines.tag x);
          asked = λ x. (if has_mark s.lines x then false else s.lines.asked x);
          mark = λ x. (if next then 0 else s.lines.mark x);
        };
        owed = invalidation_count sh s.lines c;
      }) (invalidations sh s.lines c s.serving.serving))
  TakesAck : (l : ℕ) (b next : Bool) → 0 < s.owed → (s.owed - 1 == 0) ≡ next → Outcome sh s c (InvAck l b) (Takes (record s {
    serving = (if next then advance s.serving else s.serving);
    lines = record s.lines {
      sharers = λ x j. (if not b && x == l && j == c then false else s.lines.sharers x j);
      mark = λ x. (if next then 0 else s.lines.mark x);
    };
    owed = s.owed - 1;
  }) nothing)
  TakesCopy : (m : Msg) (l k : ℕ) (ws : List ℕ) (g : ℕ) → IsCopy m l k ws g → s.lines.tag l ≡ g → s.lines.owner l ≡ Some c
      → Outcome sh s c m (Takes (record s {
        words = λ w. (if hit l k w then get_or ws (place_of w) 0 else s.words w);
        lines =
            record s.lines {
              owner = λ x. (if x == l then None else s.lines.owner x);
              asked = λ x. (if x == l then false else s.lines.asked x);
            };
      }) nothing)

ask-outcome : (sh : Shape) (s : DirState) (c l o : ℕ) (m : Msg) → Wants s l m → s.lines.owner l ≡ Some o
    → Outcome sh s c m (ask_owner o l s)
unfolding ask_owner with_asked
ask-outcome sh s c l o m w e = go (s.lines.asked l)
  where
    go : (b : Bool)
        → Outcome sh s c m (if b then Waits else Asks (record s { lines = with_asked l true s.lines }) (to (Core o) (DataReq l ∷ [])))
    go true = Waiting m
    go false = AsksOwner m l o w e

skip-outcome : (sh : Shape) (s : DirState) (c t : ℕ) → Outcome sh s c (Skip t) (skip t s)
unfolding skip skipped
skip-outcome sh s c t = go (nat_lt t s.serving.serving) refl (s.serving.serving == t) refl
  where
    go : (a : Bool) → nat_lt t s.serving.serving ≡ a → (b : Bool) → (s.serving.serving == t) ≡ b
        → Outcome sh s c (Skip t)
        (if a then Drops else Takes (record s { serving = (if a then s.serving else (if b then advance s.serving else kept t s.serving)) })
        nothing)
    go true p b q = Spent (Skip t) (SkipPassed t (grind nats))
    go false p b q = TakesSkip t b q (grind nats)

abort-outcome : (sh : Shape) (s : DirState) (c t : ℕ) → Outcome sh s c (Abort t) (abort t s)
unfolding abort moved_on unmarked
abort-outcome sh s c t = go (nat_lt t s.serving.serving) refl (s.serving.serving == t) refl
  where
    go : (a : Bool) → nat_lt t s.serving.serving ≡ a → (b : Bool) → (s.serving.serving == t) ≡ b
        → Outcome sh s c (Abort t)
        (if a then Drops else (if b then Takes (moved_on s) nothing else Takes (record s { serving = kept t s.serving }) nothing))
    go true p b q = Spent (Abort t) (AbortPassed t (grind nats))
    go false p true q = TakesAbort t true q (grind nats)
    go false p false q = TakesAbort t false q (grind nats)

probe-outcome : (sh : Shape) (s : DirState) (c t : ℕ) → Outcome sh s c (Probe t) (probe c t s)
unfolding probe
probe-outcome sh s c t = go (nat_lt s.serving.serving t) refl
  where
    go : (b : Bool) → nat_lt s.serving.serving t ≡ b
        → Outcome sh s c (Probe t) (if b then Waits else Takes s (to (Core c) (ProbeReply t s.serving.serving ∷ [])))
    go true q = Waiting (Probe t)
    go false q = TakesProbe t (grind nats)

load-outcome : (sh : Shape) (s : DirState) (c l a : ℕ) → Outcome sh s c (LoadReq l a) (load_request c l a s)
unfolding load_request with_sharer
load-outcome sh s c l a = go (nat_le s.serving.serving a) (has_mark s.lines l) (s.lines.owner l) refl refl refl
  where
    go : (b x : Bool) (o : Option ℕ) → nat_le s.serving.serving a ≡ b → has_mark s.lines l ≡ x → s.lines.owner l ≡ o
        → Outcome sh s c (LoadReq l a) (if b || x then Waits else load_unless_owned c l s o)
    go true x o p q r = Waiting (LoadReq l a)
    go false true o p q r = Waiting (LoadReq l a)
    go false false (Some o) p q r = ask-outcome sh s c l o (LoadReq l a) (ToLoad a) r
    go false false None p q r = TakesLoad l a (grind nats) q r

mark-outcome : (sh : Shape) (s : DirState) (c l k t : ℕ) → Outcome sh s c (Mark l k t) (mark l k t s)
unfolding mark with_mark
mark-outcome sh s c l k t = go (nat_lt t s.serving.serving) (nat_lt s.serving.serving t) (k == full) (s.lines.owner l) refl refl refl refl
  where
    served : nat_lt t s.serving.serving ≡ false → nat_lt s.serving.serving t ≡ false → s.serving.serving ≡ t
    served p q = grind nats

    go : (a b x : Bool) (o : Option ℕ) → nat_lt t s.serving.serving ≡ a → nat_lt s.serving.serving t ≡ b → (k == full) ≡ x
        → s.lines.owner l ≡ o
        → Outcome sh s c (Mark l k t)
        (if a then Drops else (if b then Waits else (if x then mark_taken l k s else mark_unless_owned l k s o)))
    go true b x o p q r e = Spent (Mark l k t) (MarkPassed l k t (grind nats))
    go false true x o p q r e = Waiting (Mark l k t)
    go false false true o p q r e = rw (← (served p q)) (TakesMark l k (inl (grind nats)))
    go false false false None p q r e = rw (← (served p q)) (TakesMark l k (inr e))
    go false false false (Some o) p q r e = rw (← (served p q)) (ask-outcome sh s c l o (Mark l k s.serving.serving) (ToMark k) e)

commit-outcome : (sh : Shape) (s : DirState) (c t n : ℕ) → Outcome sh s c (Commit t n) (dir_commit sh c t n s)
unfolding dir_commit owned_by_committer moved_on_if_settled moved_on unmarked
commit-outcome sh s c t n = go (s.serving.serving == t) (count_below (has_mark s.lines) (lines sh) == n) refl refl
  where
    next : (b : Bool) → (invalidation_count sh s.lines c == 0) ≡ b
        → Outcome sh s c (Commit s.serving.serving (count_below (has_mark s.lines) (lines sh))) (Takes (if b then moved_on
        (record s { lines = owned_by_committer c s.serving.serving s.lines; owed = invalidation_count sh s.lines c })
        else record s { lines = owned_by_committer c s.serving.serving s.lines; owed = invalidation_count sh s.lines c })
        (invalidations sh s.lines c s.serving.serving))
    next true q = TakesCommit true q
    next false q = TakesCommit false q

    go : (a b : Bool) → (s.serving.serving == t) ≡ a → (count_below (has_mark s.lines) (lines sh) == n) ≡ b
        → Outcome sh s c (Commit t n) (if a && b then Takes (moved_on_if_settled
        (record s { lines = owned_by_committer c t s.lines; owed = invalidation_count sh s.lines c }))
        (invalidations sh s.lines c t) else Waits)
    go false b p q = Waiting (Commit t n)
    go true false p q = Waiting (Commit t n)
    go true true p q =
        let e : s.serving.serving ≡ t = grind nats in
        let f : count_below (has_mark s.lines) (lines sh) ≡ n = grind nats in
        rw (← e, ← f) (next (invalidation_count sh s.lines c == 0) refl)

ack-outcome : (sh : Shape) (s : DirState) (c l : ℕ) (b : Bool) → Outcome sh s c (InvAck l b) (acknowledgement c l b s)
unfolding acknowledgement with_sharer moved_on_if_settled moved_on unmarked
ack-outcome sh s c l b = go (s.owed == 0) refl
  where
    next : (b x : Bool) → (s.owed - 1 == 0) ≡ x → 0 < s.owed
        → Outcome sh s c (InvAck l b) (Takes (if x then moved_on (record s { lines = unless_keeps b c l s.lines; owed = s.owed - 1 })
        else record s { lines = unless_keeps b c l s.lines; owed = s.owed - 1 }) nothing)
    next true true q p = TakesAck l true true p q
    next true false q p = TakesAck l true false p q
    next false true q p = TakesAck l false true p q
    next false false q p = TakesAck l false false p q

    go : (a : Bool) → (s.owed == 0) ≡ a
        → Outcome sh s c (InvAck l b)
        (if a then Drops else Takes (moved_on_if_settled (record s { lines = unless_keeps b c l s.lines; owed = s.owed - 1 })) nothing)
    go true p = Spent (InvAck l b) (NoneOwed l b (grind nats))
    go false p = next b (s.owed - 1 == 0) refl (grind nats)

back-outcome : {sh : Shape} {s : DirState} {c : ℕ} (l k : ℕ) (ws : List ℕ) (g : ℕ) {m : Msg} → IsCopy m l k ws g
    → Outcome sh s c m (write_back c l k ws g s)
unfolding write_back came_home with_asked with_owner judge
back-outcome {sh} {s} {c} l k ws g {m} y = go (nat_lt (s.lines.tag l) g) (s.lines.tag l == g) (is_owner (s.lines.owner l) c) refl refl refl
  where
    own : (o : Option ℕ) → is_owner o c ≡ true → o ≡ Some c
    own a h = grind nats

    go : (a b x : Bool) → nat_lt (s.lines.tag l) g ≡ a → (s.lines.tag l == g) ≡ b → is_owner (s.lines.owner l) c ≡ x
        → Outcome sh s c m (judged l k ws s (if a then TooEarly else (if b && x then Current else Outdated)))
    go true b x p q r = Waiting m
    go false true true p q r = TakesCopy m l k ws g y (grind nats) (own (s.lines.owner l) r)
    go false true false p q r = Spent m (CopyPassed m l k ws g y (grind nats) (rw (q, r)))
    go false false x p q r = Spent m (CopyPassed m l k ws g y (grind nats) (rw q))

flush-alike : (q : Kind) (l k : ℕ) (ws : List ℕ) (g : ℕ) → passes q (Flush l k ws g) ≡ passes q (WriteBack l k ws g)
unfolding passes
flush-alike q l k ws g = grind arith

pub outcome : (sh : Shape) (s : DirState) (c : ℕ) (m : Msg) → Outcome sh s c m (dir_deliver sh s c m)
unfolding dir_deliver
outcome sh s c (Skip t) = skip-outcome sh s c t
outcome sh s c (Abort t) = abort-outcome sh s c t
outcome sh s c (Probe t) = probe-outcome sh s c t
outcome sh s c (LoadReq l a) = load-outcome sh s c l a
outcome sh s c (Mark l k t) = mark-outcome sh s c l k t
outcome sh s c (Commit t n) = commit-outcome sh s c t n
outcome sh s c (InvAck l b) = ack-outcome sh s c l b
outcome sh s c (WriteBack l k ws g) = back-outcome l k ws g (record { alike = λ q. refl })
outcome sh s c (Flush l k ws g) = back-outcome l k ws g (record { alike = λ q. flush-alike q l k ws g })
outcome sh s c m = Waiting m

-- what is sent, by kind
pub among-to : (q : Kind) (c j : ℕ) (m : Msg) → among q (to (Core c) (m ∷ []) (Core j)) ≡ num (j == c && passes q m)
unfolding among
among-to q c j m = elim (j == c) as (λ b. among q (if b then m ∷ [] else []) ≡ num (b && passes q m)) [ true ↦ omega arith | false ↦ refl ]

pub among-none : (q : Kind) → among q [] ≡ 0
unfolding among
among-none q = refl

pub none-to : (q : Kind) (c j : ℕ) (m : Msg) → passes q m ≡ false → among q (to (Core c) (m ∷ []) (Core j)) ≡ 0
unfolding among
none-to q c j m e = elim (j == c) as (λ b. among q (if b then m ∷ [] else []) ≡ 0) [ true ↦ rw e | false ↦ refl ]

pub none-invalidations : (q : Kind) → ((l k t : ℕ) → passes q (Inv l k t) ≡ false) → (sh : Shape) (ls : Lines) (c t j : ℕ)
    → among q (invalidations sh ls c t (Core j)) ≡ 0
unfolding invalidations invs_to among
none-invalidations q e sh ls c t j =
    let one : (l : ℕ) → among q (Inv l (ls.mark l) t ∷ []) ≡ 0 = λ l. rw (e l (ls.mark l) t) in
    among-flat_map_none q (λ l. Inv l (ls.mark l) t ∷ []) one (those (is_invalidated sh ls c j) (lines sh))

-- No message goes to a core that the machine doesn't have, and none of them owns a line.

-- owners are cores of the machine
abbrev pub OwnersInside : Shape → DirState → Type 0
OwnersInside sh s = (l o : ℕ) → s.lines.owner l ≡ Some o → o < sh.cores

-- nothing is sent to others
abbrev pub SendsInside : Shape → Sends → Type 0
SendsInside sh sends = (j : ℕ) → sh.cores ≤ j → among Any (sends (Core j)) ≡ 0

abbrev pub AnswersInside : Shape → Answer → Type 0
AnswersInside sh (Asks new sends) = SendsInside sh sends × OwnersInside sh new
AnswersInside sh (Takes new sends) = SendsInside sh sends × OwnersInside sh new
AnswersInside sh _ = Unit {0}

quiet-inside : (sh : Shape) → SendsInside sh nothing
unfolding among
quiet-inside sh j l = refl

to-inside : (sh : Shape) (c : ℕ) (m : Msg) → c < sh.cores → SendsInside sh (to (Core c) (m ∷ []))
unfolding among
to-inside sh c m h j l = let e : (j == c) ≡ false = grind nats in rw e

is_invalidated-outside : (sh : Shape) (ls : Lines) (c j k : ℕ) → nat_lt j sh.cores ≡ false → is_invalidated sh ls c j k ≡ false
unfolding is_invalidated
is_invalidated-outside sh ls c j k e = rw e

invalidations-inside : (sh : Shape) (ls : Lines) (c t : ℕ) → SendsInside sh (invalidations sh ls c t)
unfolding invalidations invs_to among
invalidations-inside sh ls c t j l =
    let outside : nat_lt j sh.cores ≡ false = grind nats in
    let none : (k : ℕ) → is_invalidated sh ls c j k ≡ false = λ k. is_invalidated-outside sh ls c j k outside in
    rw (those-empty (is_invalidated sh ls c j) (lines sh) none)

pub dir-inside : (sh : Shape) (s : DirState) (c : ℕ) (m : Msg) → c < sh.cores → OwnersInside sh s → AnswersInside sh (dir_deliver sh s c m)
dir-inside sh s c m l h = go (outcome sh s c m)
  where
    go : {m : Msg} {a : Answer} → Outcome sh s c m a → AnswersInside sh a
    go (Waiting m) = tt
    go (Spent m i) = tt
    go (AsksOwner m k o w e) = (to-inside sh o (DataReq k) (h k o e), h)
    go (TakesProbe t i) = (to-inside sh c (ProbeReply t s.serving.serving) l, h)
    go (TakesLoad k x i e o) = (to-inside sh c (Fill k (home_words s k)) l, h)
    go (TakesCommit b e) = (invalidations-inside sh s.lines c s.serving.serving, λ x o q. grind (nats, h))
    go (TakesCopy m k n ws g y e o) = (quiet-inside sh, λ x o q. grind (nats, h))
    go _ = (quiet-inside sh, h)
