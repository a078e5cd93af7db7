-- What a directory's rules do to what it records of its lines: marks, tags, owners and sharers, and what it owes.
use Rattle.theorem_serial.proofs
use proofs.Names
use Names.{eq-self, has_mark, ℕ, ◌≡◌, ◌<◌, Bool, true, false, ◌==◌, if◌then◌else◌, arith, refl, advance, kept, Msg, Skip, Mark, Shape}
use Names.{advance-rises, DirState, Answer, Waits, Drops, Asks, Takes, dir_deliver, MarkOf, passes, num, ◌≤◌, ◌+◌, ◌⊎◌, inl, inr, ◌∙◌}
use Names.{EmptyMarks, cases_eq, nat_lt, ◌&&◌, nats, count_below, Commit, lines, Some, None, is_owner, Commits, CopyOf, is_this, [], Core}
use Names.{Fill, ProbeReply, DataReq, Sends, home_words, FillOf, GoneOf, among, AnyCommit, ◌≢◌}
use proofs.Counts.{Outcome, Waiting, Spent, AsksOwner, TakesSkip, TakesAbort, TakesMark, TakesCommit, TakesAck, TakesCopy, IsSpent}
use proofs.Counts.{MarkPassed, CopyPassed, outcome, TakesProbe, TakesLoad, ToLoad, ToMark, among-to, among-none, none-to}
use proofs.Counts.{none-invalidations}

-- What a directory's rules do to its marks: it marks a line by the served TID, and clears all marks where it moves on; a Skip
-- moves it on without.

-- a message that is no Mark
abbrev NoMark : Msg → Type 0
NoMark m = (t l : ℕ) → passes (MarkOf t l) m ≡ false

-- what becomes of the marks
pub data Marked (s : DirState) (m : Msg) (new : DirState) : Type 0 where
  Stays : new.serving.serving ≡ s.serving.serving → ((l : ℕ) → new.lines.mark l ≡ s.lines.mark l)
      → ((t l : ℕ) → passes (MarkOf t l) m ≡ true → t < s.serving.serving) → Marked s m new
  Clears : s.serving.serving < new.serving.serving → ((l : ℕ) → new.lines.mark l ≡ 0) → ((t l : ℕ) → passes (MarkOf t l) m ≡ false)
      → Marked s m new
  Skipped : m ≡ Skip s.serving.serving → ((l : ℕ) → new.lines.mark l ≡ s.lines.mark l) → Marked s m new
  Marks : (l k : ℕ) → m ≡ Mark l k s.serving.serving → new.serving.serving ≡ s.serving.serving
      → ((x : ℕ) → new.lines.mark x ≡ (if x == l then k else s.lines.mark x)) → Marked s m new

abbrev pub MarkedBy : DirState → Msg → Answer → Type 0
MarkedBy s m Waits = Unit {0}
MarkedBy s m Drops = (t l : ℕ) → passes (MarkOf t l) m ≡ true → t < s.serving.serving
MarkedBy s m (Asks new sends) = (new.serving.serving ≡ s.serving.serving) × ((l : ℕ) → new.lines.mark l ≡ s.lines.mark l)
MarkedBy s m (Takes new sends) = Marked s m new

pub dir-marked : (sh : Shape) (s : DirState) (c : ℕ) (m : Msg) → MarkedBy s m (dir_deliver sh s c m)
unfolding passes kept
dir-marked sh s c m = go (outcome sh s c m)
  where
    none : (m : Msg) → NoMark m → (t l : ℕ) → passes (MarkOf t l) m ≡ true → t < s.serving.serving
    none m n t l q = let x = n t l in absurd (cc)

    spent : {m : Msg} → IsSpent s c m → (t l : ℕ) → passes (MarkOf t l) m ≡ true → t < s.serving.serving
    spent (MarkPassed k n u i) t l q = grind nats
    spent (CopyPassed m k n ws g y i e) t l q = none m (λ t l. y.alike (MarkOf t l)) t l q
    spent _ t l q = absurd (cc)

    settled : {m : Msg} (b : Bool) → NoMark m → (new : DirState) → new.serving ≡ (if b then advance s.serving else s.serving)
        → ((x : ℕ) → new.lines.mark x ≡ (if b then 0 else s.lines.mark x)) → Marked s m new
    settled true n new e f = Clears (rw e (advance-rises s.serving)) f n
    settled false n new e f = Stays (rw e) f (none _ n)

    go : {m : Msg} {a : Answer} → Outcome sh s c m a → MarkedBy s m a
    go (Waiting m) = tt
    go (Spent m i) = spent i
    go (AsksOwner m l o w e) = (refl, λ x. refl)
    go (TakesSkip u true e h) = let i : s.serving.serving ≡ u = grind nats in Skipped (rw i) (λ x. refl)
    go (TakesAbort u true e h) = settled true (λ t x. refl) _ refl (λ x. refl)
    go (TakesMark l k h) = Marks l k refl refl (λ x. refl)
    go (TakesCommit b e) = settled b (λ t x. refl) _ refl (λ x. refl)
    go (TakesAck l k b h e) = settled b (λ t x. refl) _ refl (λ x. refl)
    go (TakesCopy m l k ws g y e o) = Stays refl (λ x. refl) (none m (λ t x. y.alike (MarkOf t x)))
    go _ = Stays refl (λ x. refl) (λ t x q. absurd (cc))

-- What counts the marks of line l by TID t whose mask has f, and n of these in the message: it grows by n at most.
pub marks-grow : (f : ℕ → Bool) {s new : DirState} {m : Msg} (t l n : ℕ) → f 0 ≡ false → Marked s m new
    → (m ≡ Skip s.serving.serving → f (s.lines.mark l) ≡ false) → ((k : ℕ) → m ≡ Mark l k t → f k ≡ true → 1 ≤ n)
    → num (new.serving.serving == t && f (new.lines.mark l)) ≤ num (s.serving.serving == t && f (s.lines.mark l)) + n
marks-grow f t l n z (Stays e g h) k w = rw (e, g l) (omega arith)
marks-grow f t l n z (Clears e g h) k w = rw (g l, z) (grind arith)
marks-grow f t l n z (Skipped e g) k w = rw (g l, k e) (grind arith)
marks-grow f {s} t l n z (Marks a i e g h) k w = rw (g, h l) (go (l == a) refl (s.serving.serving == t) refl (f i) refl)
  where
    go : (x : Bool) → (l == a) ≡ x → (y : Bool) → (s.serving.serving == t) ≡ y → (b : Bool) → f i ≡ b
        → num (y && f (if x then i else s.lines.mark l)) ≤ num (y && f (s.lines.mark l)) + n
    go false p y q b r = omega arith
    go true p false q b r = omega arith
    go true p true q false r = rw r (omega arith)
    go true p true q true r = let c : a ≡ l = grind nats in let d : s.serving.serving ≡ t = grind nats in
        rw r (omega (arith, w i (e ∙ rw (c, d)) r))

-- All its Marks are counted, unless the TID is passed, or the message is the Mark.
pub marks-count : (s : DirState) {new : DirState} {m : Msg} (t l : ℕ) → Marked s m new
    → (m ≡ Skip s.serving.serving → has_mark s.lines l ≡ false) → passes EmptyMarks m ≡ false
    → (num (new.serving.serving == t && has_mark new.lines l) ≡ num (s.serving.serving == t && has_mark s.lines l) + num
    (passes (MarkOf t l) m)) ⊎
    ((t < new.serving.serving) ⊎ ((num (new.serving.serving == t && has_mark new.lines l) ≡ 1) × (num (passes (MarkOf t l) m) ≡ 1)))
unfolding passes
marks-count s {m} t l (Stays e f g) k w = rw (e, f l) (go (passes (MarkOf t l) m) refl)
  where
    go : (b : Bool) → passes (MarkOf t l) m ≡ b
        → (num (s.serving.serving == t && has_mark s.lines l) ≡ num (s.serving.serving == t && has_mark s.lines l) + num b)
        ⊎ ((t < s.serving.serving) ⊎ ((num (s.serving.serving == t && has_mark s.lines l) ≡ 1) × (num b ≡ 1)))
    go true p = inr (inl (g t l p))
    go false p = inl (omega arith)
marks-count s {new} t l (Clears e f g) k w = rw (f l, g t l) (go (cases_eq s.serving.serving t))
  where
    go : {A : Type 0} → (s.serving.serving ≡ t) ⊎ (s.serving.serving ≢ t)
        → (num (new.serving.serving == t && nat_lt 0 0) ≡ num (s.serving.serving == t && has_mark s.lines l) + 0)
        ⊎ ((t < new.serving.serving) ⊎ A)
    go (inl p) = inr (inl (omega arith))
    go (inr p) = inl (grind nats)
marks-count s t l (Skipped e f) k w = inl (rw (f l, k e, e) (grind arith))
marks-count s t l (Marks a i e g f) k w = rw (g, f l, e) (go (rw e at w) (l == a) refl (s.serving.serving == t) refl)
  where
    go : (i == 0) ≡ false → (x : Bool) → (l == a) ≡ x → (y : Bool) → (s.serving.serving == t) ≡ y
        → (num (y && nat_lt 0 (if x then i else s.lines.mark l)) ≡ num (y && has_mark s.lines l) + num (y && (a == l)))
        ⊎ ((t < s.serving.serving) ⊎ ((num (y && nat_lt 0 (if x then i else s.lines.mark l)) ≡ 1) × (num (y && (a == l)) ≡ 1)))
    go v false p true q = inl (grind nats)
    go v true p true q = inr (inr (grind nats, grind nats))
    go v x p false q = inl (omega arith)

-- What a directory's rules do to what it records of its lines: tags, owners and sharers, and what it owes.

-- A directory owes more than it did only by a Commit that counts the lines that are marked.

-- a Commit of the served TID that counts the marked lines
abbrev pub CountsMarked : Shape → DirState → Msg → Type 0
CountsMarked sh s m = m ≡ Commit s.serving.serving (count_below (has_mark s.lines) (lines sh))

abbrev pub OwesBy : Shape → DirState → Msg → Answer → Type 0
OwesBy sh s m (Asks new sends) = new.owed ≤ s.owed
OwesBy sh s m (Takes new sends) = (new.owed ≤ s.owed) ⊎ CountsMarked sh s m
OwesBy sh s m _ = Unit {0}

pub dir-owes : (sh : Shape) (s : DirState) (c : ℕ) (m : Msg) → OwesBy sh s m (dir_deliver sh s c m)
dir-owes sh s c m = go (outcome sh s c m)
  where
    go : {m : Msg} {a : Answer} → Outcome sh s c m a → OwesBy sh s m a
    go (Waiting m) = tt
    go (Spent m i) = tt
    go (AsksOwner m l o w e) = omega arith
    go (TakesCommit b e) = inr refl
    go _ = inl (omega arith)

-- What a directory's rules do to the tags and owners of its lines: a Commit of the served TID takes the marked lines over, and the
-- owner's words that come home leave their line without owner.

abbrev pub NoCommit : Msg → Type 0
NoCommit m = (t : ℕ) → passes (Commits t) m ≡ false

abbrev pub NoCopy : Msg → Type 0
NoCopy m = (l t : ℕ) → passes (CopyOf l t) m ≡ false

-- tags and owners stay
pub record RecordStays (s new : DirState) : Type 0 where
  pub tags : (l : ℕ) → new.lines.tag l ≡ s.lines.tag l
  pub owners : (l : ℕ) → new.lines.owner l ≡ s.lines.owner l

pub data Records (sh : Shape) (s : DirState) (c : ℕ) (m : Msg) (new : DirState) : Type 0 where
  Still : RecordStays s new → NoCommit m → NoCopy m → Records sh s c m new
  Came : (k : ℕ) → ((l t : ℕ) → passes (CopyOf l t) m ≡ ((k == l) && (s.lines.tag k == t))) → s.lines.owner k ≡ Some c
      → ((l : ℕ) → new.lines.tag l ≡ s.lines.tag l) → ((l : ℕ) → new.lines.owner l ≡ (if l == k then None else s.lines.owner l))
      → NoCommit m → Records sh s c m new
  Settles : CountsMarked sh s m → ((l : ℕ) → new.lines.tag l ≡ (if has_mark s.lines l then s.serving.serving else s.lines.tag l))
      → ((l : ℕ) → new.lines.owner l ≡ (if has_mark s.lines l then Some c else s.lines.owner l)) → NoCopy m → Records sh s c m new

-- a copy that is dropped isn't the owner's with the line's tag, nor of a later commit
pub record Dropped (s : DirState) (c : ℕ) (m : Msg) : Type 0 where
  pub commit : NoCommit m
  pub late : (l t : ℕ) → passes (CopyOf l t) m ≡ true → t ≤ s.lines.tag l
  pub other : (l : ℕ) → passes (CopyOf l (s.lines.tag l)) m ≡ true → is_this (s.lines.owner l) c ≡ false

abbrev pub RecordsBy : Shape → DirState → (core : ℕ) → Msg → Answer → Type 0
RecordsBy sh s c m Waits = Unit {0}
RecordsBy sh s c m Drops = Dropped s c m
RecordsBy sh s c m (Asks new sends) = RecordStays s new
RecordsBy sh s c m (Takes new sends) = Records sh s c m new

pub dir-records : (sh : Shape) (s : DirState) (c : ℕ) (m : Msg) → RecordsBy sh s c m (dir_deliver sh s c m)
unfolding passes
dir-records sh s c m = go (outcome sh s c m)
  where
    same-records : {new : DirState} → ((l : ℕ) → new.lines.tag l ≡ s.lines.tag l) → ((l : ℕ) → new.lines.owner l ≡ s.lines.owner l)
        → RecordStays s new
    same-records f g = record { tags = f; owners = g }

    -- a copy with the line's tag isn't the owner's
    other : (k l g : ℕ) (b : Bool) → (k == l) ≡ b → (b && (g == s.lines.tag l)) ≡ true
        → ((s.lines.tag k == g) && is_owner (s.lines.owner k) c) ≡ false → is_this (s.lines.owner l) c ≡ false
    other k l g a z y e = grind nats

    late : (k l t g : ℕ) (b : Bool) → (k == l) ≡ b → (b && (g == t)) ≡ true → g ≤ s.lines.tag k → t ≤ s.lines.tag l
    late k l t g a z y h = grind nats

    spent : {m : Msg} → IsSpent s c m → Dropped s c m
    spent (CopyPassed m k n ws g y i e) = record {
      commit = λ t. y.alike (Commits t);
      late = λ l t q. late k l t g (k == l) refl (rw (y.alike (CopyOf l t)) at q) i;
      other = λ l q. other k l g (k == l) refl (rw (y.alike (CopyOf l (s.lines.tag l))) at q) e;
    }
    spent _ = record { commit = λ t. refl; late = λ l t q. absurd (cc); other = λ l q. absurd (cc) }

    go : {m : Msg} {a : Answer} → Outcome sh s c m a → RecordsBy sh s c m a
    go (Waiting m) = tt
    go (Spent m i) = spent i
    go (AsksOwner m l o w e) = same-records (λ x. refl) (λ x. refl)
    go (TakesCommit b e) = Settles refl (λ x. refl) (λ x. refl) (λ x t. refl)
    go (TakesCopy m k n ws g y e o) = Came k (λ l t. y.alike (CopyOf l t) ∙ rw e) o (λ x. refl) (λ x. refl) (λ t. y.alike (Commits t))
    go _ = Still (same-records (λ x. refl) (λ x. refl)) (λ t. refl) (λ x t. refl)

-- What a directory's rules do to the sharers of its lines: a Fill goes to a sharer, a commit is one of its lines, and a core is a sharer
-- no more only where it says that it keeps no word.

pub record Shares (sh : Shape) (s : DirState) (c : ℕ) (m : Msg) (new : DirState) (sends : Sends) : Type 0 where
  pub kept : (l j : ℕ) → s.lines.sharers l j ≡ true → (new.lines.sharers l j ≡ true) ⊎ ((j ≡ c) × (passes (GoneOf l) m ≡ true))
  pub filled : (l j : ℕ) → 1 ≤ among (FillOf l) (sends (Core j)) → (new.lines.sharers l j ≡ true) × (has_mark s.lines l ≡ false)
  pub taken : (l : ℕ) → CountsMarked sh s m → has_mark s.lines l ≡ true → new.lines.sharers l c ≡ true

abbrev pub SharesBy : Shape → DirState → (core : ℕ) → Msg → Answer → Type 0
SharesBy sh s c m (Asks new sends) = Shares sh s c m new sends
SharesBy sh s c m (Takes new sends) = Shares sh s c m new sends
SharesBy sh s c m _ = Unit {0}

pub dir-shares : (sh : Shape) (s : DirState) (c : ℕ) (m : Msg) → SharesBy sh s c m (dir_deliver sh s c m)
unfolding passes
dir-shares sh s c m = go (outcome sh s c m)
  where
    none : (l j : ℕ) → among (FillOf l) [] ≡ 0
    none l j = among-none (FillOf l)

    -- no sharer changes and no Fill is sent
    same-shares : {m : Msg} {new : DirState} {sends : Sends} → ((l j : ℕ) → new.lines.sharers l j ≡ s.lines.sharers l j)
        → ((l j : ℕ) → among (FillOf l) (sends (Core j)) ≡ 0) → (CountsMarked sh s m → ⊥) → Shares sh s c m new sends
    same-shares h z n = record {
      kept = λ l j e. inl (rw (h l j) e);
      filled = λ l j x. absurd (omega (arith, z));
      taken = λ l q e. absurd (n q);
    }

    go : {m : Msg} {a : Answer} → Outcome sh s c m a → SharesBy sh s c m a
    go (Waiting m) = tt
    go (Spent m i) = tt
    go (AsksOwner m l o (ToLoad a) e) = same-shares (λ x j. refl) (λ x j. none-to (FillOf x) o j (DataReq l) refl) (λ q. absurd (cc))
    go (AsksOwner m l o (ToMark k) e) = same-shares (λ x j. refl) (λ x j. none-to (FillOf x) o j (DataReq l) refl) (λ q. absurd (cc))
    go (TakesProbe t h) = same-shares (λ x j. refl) (λ x j. none-to (FillOf x) c j (ProbeReply t s.serving.serving) refl) (λ q. absurd (cc))
    go (TakesLoad l k h e o) = record {
      kept = λ x j q. inl (grind nats);
      filled = λ x j q. let n : 1 ≤ num (j == c && l == x) = rw (among-to (FillOf x) c j (Fill l (home_words s l))) at q in
          (grind nats, grind nats);
      taken = λ x q r. absurd (cc);
    }
    go (TakesCommit b e) = record {
      kept = λ x j q. inl (grind nats);
      filled = λ x j q. absurd (omega (arith, none-invalidations (FillOf x) (λ l k t. refl) sh s.lines c s.serving.serving j));
      taken = λ x q r. rw (r, eq-self c);
    }
    go (TakesAck l k b h e) = record {
      kept = λ x j q. grind nats;
      filled = λ x j q. absurd (omega (arith, none));
      taken = λ x q r. absurd (cc);
    }
    go (TakesCopy m l k ws g y e o) = same-shares (λ x j. refl) none (λ q. absurd (not_counts q (y.alike AnyCommit)))
      where
        not_counts : {m : Msg} → CountsMarked sh s m → passes AnyCommit m ≡ false → ⊥
        not_counts q f = absurd (cc)
    go _ = same-shares (λ x j. refl) none (λ q. absurd (cc))
