-- The copies of a word: no more than those of its line, and those that leave a frame go home as they are; then what a core's event does to
-- them.
use Rattle.rules_tcc.specs.Sends.{write_back_of}
use Rattle.rules_maps.proofs.Lemmas.{dirty-placed, value-placed}
use Rattle.theorem_serial.proofs
use proofs.Names
use Names.{eight-at, word_at-own, ℕ, ◌+◌, ◌≡◌, ◌≤◌, ◌==◌, ◌&&◌, Bool, true, false, not, List, [], ◌∷◌, Option, Some, None, is_some, arith}
use Names.{refl, sym, ◌∙◌, num, line_of, place_of, word_at, has, hit, Msg, WriteBack, Flush, Shape, Cache, IsCache, is_dirty, dirty_tag}
use Names.{dirty_mask, has-mask_of, Link, copies_with, CopyOf, CopyMask, CopyWord, CopyNot, live, among, passes, Pair, is_this, word_copies}
use Names.{CopiesHave, ◌⊎◌, cond, unwrap_or, get_or, if◌then◌else◌, inl, inr, cases_eq, eight, Dir, home, dirty_words, dirty_copy}
use Names.{CoreState, Out, to, flush_of, flush_line, write_back_line, nats, home_of, ◌≢◌, tested, hit-line, unheld-clean, DirState, Answer}
use Names.{Asks, Takes, dir_deliver, word_of, stored, solo_commit, marked, IfSome, ap, Program, placed, dirty-evicted, value-evicted}
use Names.{nothing, moves, commit, core_exec, core_evict, invalidated, Inv, filled, cleaned, rolled_back, read_cleared, grant, from_dir}
use Names.{◌||◌, Noted, Skip, Mark, Commit, committed, words_dropped, Spilled, spilled_mask, spilled_words, is_solo, noted, committed_core}
use Names.{solo_sends, solo_marks_or_skip, solo_write_backs, Kind, mark, skip}
use proofs.Copies.{some-dirty, tag-of, framed-dirty, commit-copies, missed}
use proofs.Counts.{live-fewer, among-fewer, Outcome, Waiting, Spent, AsksOwner, TakesCopy, IsCopy, outcome, among-append}
use proofs.Counts.{among-flat_map_none}
use proofs.OneCore.{Requests, Silent, quiet, say, Flushes, Unheard, Commits_now, Did, Ends_alone, Frames, Frames_anew, Misses_anew}
use proofs.OneCore.{after_store, each-evict, each-exec, emptied, out, said, Fills, Given_none, Granted, Hands_out, Heard, Hurt_alone}
use proofs.OneCore.{Hurt_probing, Hurt_running, Hurt_waiting, Hurt_none, each-back, each-grant, granted, granted_said, heard, heard-quiet}
use proofs.OneCore.{heard_said, hears_ack, message, after_end}

-- The copies of a word: no more than those of its line, and all of them where the copies have the word in their mask.

pub word-line : (x t : ℕ) (m : Msg) → num (passes (CopyWord x t) m) ≤ num (passes (CopyOf (line_of x) t) m)
unfolding passes hit
word-line x t a = grind nats

pub few-words : (x t : ℕ) (l : Link) → live (CopyWord x t) l ≤ live (CopyOf (line_of x) t) l
few-words x t l = live-fewer (CopyWord x t) (CopyOf (line_of x) t) (word-line x t) l

other-word : (x t y : ℕ) (m : Msg) → num (passes (CopyNot x t y) m) ≤ num (passes (CopyWord x t) m)
unfolding passes
other-word x t y m = grind nats

pub few-others : (x t y : ℕ) (l : Link) → live (CopyNot x t y) l ≤ live (CopyWord x t) l
few-others x t y l = live-fewer (CopyNot x t y) (CopyWord x t) (other-word x t y) l

pub among-words : (x t : ℕ) (ms : List Msg) → among (CopyWord x t) ms ≤ among (CopyOf (line_of x) t) ms
among-words x t ms = among-fewer (CopyWord x t) (CopyOf (line_of x) t) (word-line x t) ms

pub among-others : (x t y : ℕ) (ms : List Msg) → among (CopyNot x t y) ms ≤ among (CopyWord x t) ms
among-others x t y ms = among-fewer (CopyNot x t y) (CopyWord x t) (other-word x t y) ms

line-word : (x t n : ℕ) → has n (place_of x) ≡ true → (m : Msg)
    → num (passes (CopyOf (line_of x) t) m) ≤ num (passes (CopyWord x t) m) + num (passes (CopyMask (line_of x) t n) m)
unfolding passes hit
line-word x t n h a = grind nats

live-words : (x t n : ℕ) → has n (place_of x) ≡ true → (l : Link)
    → live (CopyOf (line_of x) t) l ≤ live (CopyWord x t) l + live (CopyMask (line_of x) t n) l
unfolding live
live-words x t n h [] = omega arith
live-words x t n h (None ∷ l) = live-words x t n h l
live-words x t n h (Some m ∷ l) = omega (arith, line-word x t n h m, live-words x t n h l)

-- a dirty word's line is dirty with the word's tag
dirty-line : (sh : Shape) (c : Cache) (x t : ℕ) → IsCache sh c → c.dirty x ≡ Some t
    → (is_dirty c (line_of x) ≡ true) × (dirty_tag c (line_of x) ≡ t)
dirty-line sh c x t h e = let y : c.dirty (word_at (line_of x) (place_of x)) ≡ Some t = rw (word_at-own x) e in
    (some-dirty c (line_of x) (place_of x) t (omega arith) y, tag-of (line_of x) (place_of x) t h (omega arith) y)

-- a core without a copy of the line has none of the word
pub none-copied : {sh : Shape} (x t y : ℕ) (v : Pair) → IsCache sh v.core.cache → copies_with (line_of x) t v ≡ 0 → CopiesHave x t y v
unfolding copies_with
none-copied {sh} x t y v h z = record {
  framed = λ e. absurd (let d = dirty-line sh v.core.cache x t h e in
      let q : (dirty_tag v.core.cache (line_of x) == t) ≡ true = (let f = d.1 in grind nats) in
      let o : num (is_dirty v.core.cache (line_of x) && dirty_tag v.core.cache (line_of x) == t) ≡ 1 = rw (d.0, q) in
      omega arith);
  sent = omega (arith, few-others, few-words);
}

pub few-copies : {sh : Shape} (x t : ℕ) (v : Pair) → IsCache sh v.core.cache → word_copies x t v ≤ copies_with (line_of x) t v
unfolding copies_with word_copies
few-copies x t v h = omega (arith, few-words, go (v.core.cache.dirty x) refl)
  where
    go : (o : Option ℕ) → v.core.cache.dirty x ≡ o
        → num (is_this o t) ≤ num (is_dirty v.core.cache (line_of x) && dirty_tag v.core.cache (line_of x) == t)
    go a e = grind (nats, dirty-line)

-- a word in the mask of its line's dirty words is dirty
mask-dirty : (c : Cache) (x n : ℕ) → has n (place_of x) ≡ true → dirty_mask c (line_of x) ≡ n → is_some (c.dirty x) ≡ true
unfolding dirty_mask
mask-dirty c x n i e = let y : has (dirty_mask c (line_of x)) (place_of x) ≡ true = rw e i in
    sym (rw (word_at-own x) at (has-mask_of (λ k. is_some (c.dirty (word_at (line_of x) k))) (place_of x) (omega arith))) ∙ y

-- a copy of the line with a mask that has the word is a copy of the word
pub copy-has : {sh : Shape} (x t n : ℕ) (v : Pair) → IsCache sh v.core.cache → has n (place_of x) ≡ true
    → (is_dirty v.core.cache (line_of x) ≡ true → dirty_tag v.core.cache (line_of x) ≡ t → dirty_mask v.core.cache (line_of x) ≡ n)
    → live (CopyMask (line_of x) t n) v.out ≡ 0 → copies_with (line_of x) t v ≤ word_copies x t v
unfolding copies_with word_copies
copy-has x t n v h i f z =
    omega (arith, live-words x t n i v.out, framed (is_dirty v.core.cache (line_of x)) (dirty_tag v.core.cache (line_of x) == t) refl refl)
  where
    c : Cache
    c = v.core.cache

    l : ℕ
    l = line_of x

    tagged : (o : Option ℕ) → c.dirty x ≡ o → is_some o ≡ true → dirty_tag c l ≡ t → num (is_this o t) ≡ 1
    tagged a e s q = grind (nats, dirty-line)

    framed : (a b : Bool) → is_dirty c l ≡ a → (dirty_tag c l == t) ≡ b → num (a && b) ≤ num (is_this (c.dirty x) t)
    framed true true p q = let e : dirty_tag c l ≡ t = grind nats in
        omega (arith, tagged (c.dirty x) refl (mask-dirty c x n i (f p e)) e)
    framed true false p q = omega arith
    framed false b p q = omega arith

-- The dirty words of a line that leave its frame go home as they are: what this is for the copies of one word.

-- what an event of a core does to a word: its copies are as many, in the frame and sent, and each has the value that it had
pub record WordCarried (sh : Shape) (x : ℕ) (s : CoreState) (o : Out) : Type 0 where
  pub copies : (t : ℕ) → num (is_this (o.core.cache.dirty x) t) + among (CopyWord x t) (o.sends (Dir (home_of sh x))) ≡ num
      (is_this (s.cache.dirty x) t)
  pub framed : (t : ℕ) → o.core.cache.dirty x ≡ Some t → (s.cache.dirty x ≡ Some t) × (o.core.cache.value x ≡ s.cache.value x)
  pub sent : (t y : ℕ) → (s.cache.dirty x ≡ Some t → s.cache.value x ≡ Some y)
      → among (CopyNot x t y) (o.sends (Dir (home_of sh x))) ≡ 0

abbrev pub Carries : Shape → CoreState → Out → Type 0
Carries sh s o = (x : ℕ) → WordCarried sh x s o

-- no dirty word changes, and none is sent
pub word-still : (sh : Shape) (x : ℕ) (s : CoreState) (o : Out) → o.core.cache.dirty x ≡ s.cache.dirty x
    → (is_some (s.cache.dirty x) ≡ true → o.core.cache.value x ≡ s.cache.value x)
    → ((t : ℕ) → among (CopyOf (line_of x) t) (o.sends (Dir (home_of sh x))) ≡ 0) → WordCarried sh x s o
word-still sh x s o e f z = record {
  copies = λ t. rw e (omega (arith, z, among-words));
  framed = λ t q. (sym e ∙ q, f (rw (sym e ∙ q)));
  sent =
      λ t y q. omega (arith, z, among-words, among-others);
}

-- what leaves a frame of line k is the frame's copy of the word
pub record WordLeaves (k x : ℕ) (c : Cache) (ms : List Msg) : Type 0 where
  pub same : k ≡ line_of x → (t : ℕ) → among (CopyWord x t) ms ≡ num (is_this (c.dirty x) t)
  pub other : k ≢ line_of x → (t : ℕ) → among (CopyWord x t) ms ≡ 0
  pub right : (t y : ℕ) → (c.dirty x ≡ Some t → c.value x ≡ Some y) → among (CopyNot x t y) ms ≡ 0

word-clean : (sh : Shape) (k x : ℕ) (c : Cache) → IsCache sh c → is_dirty c k ≡ false → k ≡ line_of x → c.dirty x ≡ None
word-clean sh k x c h q e = go (c.dirty x) refl
  where
    go : (o : Option ℕ) → c.dirty x ≡ o → o ≡ None
    go a r = grind (nats, dirty-line)

leaves-none : {sh : Shape} (k x : ℕ) {c : Cache} → IsCache sh c → is_dirty c k ≡ false → WordLeaves k x c []
unfolding among
leaves-none {sh} k x {c} h q = record { same = λ e t. rw (word-clean sh k x c h q e); other = λ e t. refl; right = λ t y f. refl }

-- the mask and the words of the line's copy, at the word's place
mask-at : (c : Cache) (x : ℕ) → has (dirty_mask c (line_of x)) (place_of x) ≡ is_some (c.dirty x)
unfolding dirty_mask
mask-at c x = rw (word_at-own x) at (has-mask_of (λ k. is_some (c.dirty (word_at (line_of x) k))) (place_of x) (omega arith))

value-at : (c : Cache) (x t y : ℕ) → c.dirty x ≡ Some t → c.value x ≡ Some y → get_or (dirty_words c (line_of x)) (place_of x) 0 ≡ y
unfolding dirty_words
value-at c x t y d v =
    let e : get_or (eight (λ k. if is_some (c.dirty (word_at (line_of x) k)) then unwrap_or (c.value (word_at (line_of x) k)) 0 else 0))
    (place_of x) 0 ≡ (if is_some (c.dirty x) then unwrap_or (c.value x) 0 else 0) =
    rw (word_at-own x) at (eight-at (λ k. if is_some (c.dirty (word_at (line_of x) k)) then unwrap_or (c.value (word_at (line_of x) k)) 0
    else 0) (place_of x) (omega arith)) in
    e ∙ rw (d, v)

-- one message of the frame's words
leaves-one : {sh : Shape} {k x : ℕ} {c : Cache} (m : Msg) → IsCache sh c
    → ((t : ℕ) → passes (CopyWord x t) m ≡ (hit k (dirty_mask c k) x && (dirty_tag c k == t)))
    → ((t y : ℕ)
    → passes (CopyNot x t y) m ≡ ((hit k (dirty_mask c k) x && (dirty_tag c k == t)) && not (get_or (dirty_words c k) (place_of x) 0 == y)))
    → WordLeaves k x c (m ∷ [])
unfolding among hit
leaves-one {k} {x} {c} m h f g =
    record {
      same = λ e t. here e t (c.dirty x) refl;
      other = λ n t. (let y : (k == line_of x) ≡ false = grind nats in rw (f t, y));
      right = λ t y q. right t y q (cases_eq k (line_of x));
    }
  where
    here : k ≡ line_of x → (t : ℕ) (o : Option ℕ) → c.dirty x ≡ o → num (passes (CopyWord x t) m) + 0 ≡ num (is_this o t)
    here e t a r = grind (nats, mask-at, dirty-line)

    wrong : (t y : ℕ) (o : Option ℕ) → c.dirty x ≡ o → (o ≡ Some t → c.value x ≡ Some y)
        → num (((true && is_some o) && (dirty_tag c (line_of x) == t)) && not (get_or (dirty_words c (line_of x)) (place_of x) 0 == y)) ≡ 0
    wrong t y a r q = grind (nats, dirty-line, value-at)

    right : (t y : ℕ) → (c.dirty x ≡ Some t → c.value x ≡ Some y) → (k ≡ line_of x) ⊎ (k ≢ line_of x)
        → num (passes (CopyNot x t y) m) + 0 ≡ 0
    right t y q (inr n) = let z : (k == line_of x) ≡ false = grind nats in rw (g t y, z)
    right t y q (inl e) = let z : (line_of x == line_of x) ≡ true = grind nats in
        rw (g t y, e, z, mask-at c x) (omega (arith, wrong t y (c.dirty x) refl q))

flush-leaves : {sh : Shape} (k x : ℕ) (c : Cache) → IsCache sh c → WordLeaves k x c (flush_of (dirty_copy c k))
unfolding dirty_copy passes
flush-leaves k x c h = go (is_dirty c k) refl
  where
    go : (b : Bool) → is_dirty c k ≡ b
        → WordLeaves k x c (flush_of
        (cond b (Some (record { line = k; mask = dirty_mask c k; words = dirty_words c k; tag = dirty_tag c k })) None))
    go false q = leaves-none k x h q
    go true q = leaves-one (Flush k (dirty_mask c k) (dirty_words c k) (dirty_tag c k)) h (λ t. refl) (λ t y. refl)

back-leaves : {sh : Shape} (k x : ℕ) (c : Cache) → IsCache sh c → WordLeaves k x c (write_back_of (dirty_copy c k))
unfolding dirty_copy passes
back-leaves k x c h = go (is_dirty c k) refl
  where
    go : (b : Bool) → is_dirty c k ≡ b
        → WordLeaves k x c (write_back_of
        (cond b (Some (record { line = k; mask = dirty_mask c k; words = dirty_words c k; tag = dirty_tag c k })) None))
    go false q = leaves-none k x h q
    go true q = leaves-one (WriteBack k (dirty_mask c k) (dirty_words c k) (dirty_tag c k)) h (λ t. refl) (λ t y. refl)

-- they go to the line's home
at-home : (sh : Shape) {k x : ℕ} {c : Cache} {ms : List Msg} → WordLeaves k x c ms
    → WordLeaves k x c (to (Dir (home sh k)) ms (Dir (home_of sh x)))
unfolding among
at-home sh {k} {x} {c} {ms} h = go (home_of sh x == home sh k) refl
  where
    go : (b : Bool) → (home_of sh x == home sh k) ≡ b → WordLeaves k x c (if b then ms else [])
    go true q = h
    go false q = record {
      same = λ e. absurd (let y : (home_of sh x == home sh k) ≡ true = rw e (grind nats) in cc);
      other = λ e t. refl;
      right = λ t y f. refl;
    }

pub flushed-words : {sh : Shape} (k x : ℕ) {c : Cache} → IsCache sh c → WordLeaves k x c (flush_line sh c k (Dir (home_of sh x)))
unfolding flush_line
flushed-words {sh} k x {c} h = at-home sh (flush-leaves k x c h)

pub back-home-words : {sh : Shape} (k x : ℕ) {c : Cache} → IsCache sh c → WordLeaves k x c (write_back_line sh c k (Dir (home_of sh x)))
unfolding write_back_line
back-home-words {sh} k x {c} h = at-home sh (back-leaves k x c h)

-- the dirty words of line k are sent, and become clean
pub word-sent : (sh : Shape) {k x : ℕ} (s : CoreState) (o : Out) → o.core.cache.dirty x ≡ (if k == line_of x then None else s.cache.dirty x)
    → ((k ≢ line_of x) → o.core.cache.value x ≡ s.cache.value x) → WordLeaves k x s.cache (o.sends (Dir (home_of sh x)))
    → WordCarried sh x s o
word-sent sh {k} {x} s o e f h = elim (tested (k == line_of x)) [
  | inl q ↦ let d : o.core.cache.dirty x ≡ None = e ∙ rw q in let l : k ≡ line_of x = grind nats in
      record { copies = λ t. rw d (omega (arith, h.same l t)); framed = λ t r. absurd (let z = sym d ∙ r in cc); sent = h.right }
  | inr q ↦ let d : o.core.cache.dirty x ≡ s.cache.dirty x = e ∙ rw q in let n : (k ≢ line_of x) =
      λ l. (let z : (k == line_of x) ≡ true = grind nats in cc) in
      record { copies = λ t. rw d (omega (arith, h.other n t)); framed = λ t r. (sym d ∙ r, f n); sent = h.right }
]

-- What nodes' rules do to a word's copies: a directory to its home word, a core by what it executes, takes and commits.

-- What a directory's rules do to a home word: it stays, and no copy of it is consumed; or a copy with its line's tag comes home.

pub data HomeBy (s : DirState) (m : Msg) (x : ℕ) (new : DirState) : Type 0 where
  Left : new.words x ≡ s.words x → ((t : ℕ) → passes (CopyWord x t) m ≡ false) → HomeBy s m x new
  Home : passes (CopyWord x (s.lines.tag (line_of x))) m ≡ true
      → ((y : ℕ) → passes (CopyNot x (s.lines.tag (line_of x)) y) m ≡ not (new.words x == y)) → HomeBy s m x new

abbrev pub WordsBy : DirState → Msg → (word : ℕ) → Answer → Type 0
WordsBy s m x (Asks new sends) = new.words x ≡ s.words x
WordsBy s m x (Takes new sends) = HomeBy s m x new
WordsBy s m x _ = Unit {0}

pub dir-words : (sh : Shape) (x : ℕ) (s : DirState) (c : ℕ) (m : Msg) → WordsBy s m x (dir_deliver sh s c m)
unfolding passes
dir-words sh x s c m = go (outcome sh s c m)
  where
    -- of the line's last commit
    home : {m : Msg} {l k : ℕ} {ws : List ℕ} {g : ℕ} → IsCopy m l k ws g → s.lines.tag l ≡ g → (b : Bool) → hit l k x ≡ b → (new : DirState)
        → new.words x ≡ (if hit l k x then get_or ws (place_of x) 0 else s.words x) → HomeBy s m x new
    home y e false h new n = Left (n ∙ rw h) (λ t. y.alike (CopyWord x t) ∙ rw h)
    home {l} {k} {ws} {g} y e true h new n =
        let z : l ≡ line_of x = hit-line l k x h in
        let r : (g == s.lines.tag (line_of x)) ≡ true = rw z at (let i : (g == s.lines.tag l) ≡ true = grind nats in i) in
        let w : new.words x ≡ get_or ws (place_of x) 0 = n ∙ rw h in
        Home (y.alike (CopyWord x (s.lines.tag (line_of x))) ∙ rw (h, r))
        (λ v. y.alike (CopyNot x (s.lines.tag (line_of x)) v) ∙ rw (h, r, w))

    go : {m : Msg} {a : Answer} → Outcome sh s c m a → WordsBy s m x a
    go (Waiting m) = tt
    go (Spent m h) = tt
    go (AsksOwner m l o w e) = refl
    go (TakesCopy m l k ws g y e o) = home y e (hit l k x) refl _ refl
    go _ = Left refl (λ t. refl)

-- What a core's instructions and evictions do to a word's copies: where nothing is committed they are as many as before, with their values.

-- no dirty word changes, and no copy is sent
carries-still : {sh : Shape} {s : CoreState} {o : Out} → ((v : ℕ) → o.core.cache.dirty v ≡ s.cache.dirty v)
    → ((v : ℕ) → is_some (s.cache.dirty v) ≡ true → o.core.cache.value v ≡ s.cache.value v)
    → ((l t : ℕ) → among (CopyOf l t) (o.sends (Dir (home sh l))) ≡ 0) → Carries sh s o
carries-still {sh} {s} {o} e f z x = word-still sh x s o (e x) (f x) (z (line_of x))

-- and nothing is committed
abbrev pub Quietly : Shape → CoreState → Out → Type 0
Quietly sh s o = (o.commit ≡ None) × Carries sh s o

-- a store into a frame sends the line's dirty words home
framed-sent : (sh : Shape) (w y : ℕ) (also : Bool) (s r : CoreState) → r.cache ≡ stored w y also s.cache → IsCache sh s.cache
    → Carries sh s (moves r (flush_line sh s.cache (line_of w)))
unfolding stored
framed-sent sh w y also s r c h v = word-sent sh s (moves r (flush_line sh s.cache (line_of w))) (ap (λ d. d.dirty v) c)
    (λ n. ap (λ d. d.value v) c ∙ other v n (v == w) refl) (flushed-words (line_of w) v h)
  where
    other : (v : ℕ) → line_of w ≢ line_of v → (b : Bool) → (v == w) ≡ b → (if b then Some y else s.cache.value v) ≡ s.cache.value v
    other v n a q = grind nats

-- a store into a new frame leaves the values of dirty words, which are of other lines
framed-value : {sh : Shape} (w x : ℕ) {c : Cache} → IsCache sh c → c.held (line_of w) ≡ false → (v : ℕ) → is_some (c.dirty v) ≡ true
    → (stored w x false (placed sh (line_of w) c)).value v ≡ c.value v
unfolding stored
framed-value w x h e v d = grind (nats, value-placed, unheld-clean)

-- where the event commits nothing
abbrev pub Uncommitted : Shape → CoreState → Out → Type 0
Uncommitted sh s o = o.commit ≡ None → Carries sh s o

pub words-exec : (sh : Shape) (p : Program) (id : ℕ) (s : CoreState) → IsCache sh s.cache → IfSome (core_exec sh p id s) (Uncommitted sh s)
unfolding commit solo_commit passes marked
words-exec sh p id s h = each-exec sh p id s (Uncommitted sh s) go
  where
    w : ℕ → ℕ
    w a = word_of sh.base a

    go : (x : Did sh p id s) → Uncommitted sh s (out x)
    go (Frames a y also n k g i f) e = framed-sent sh (w a) y also s (after_store s a k (stored (w a) y also s.cache) s.spilled) refl h
    go (Frames_anew a y n k g i q f o) e = carries-still (framed-dirty (w a) y h q) (framed-value (w a) y h q)
        (λ l t. quiet sh s (CopyOf l t) Silent (λ y. refl) (home sh l))
    go (Misses_anew a n g i q f) e = carries-still (dirty-placed sh (line_of (w a)) s.cache)
        (λ v d. value-placed sh (line_of (w a)) s.cache v)
        (λ l t. quiet sh s (CopyOf l t) (Requests (line_of (w a))) (λ y. refl) (home sh l))
    go (Ends_alone t l o f r i) e = absurd (cc)
    go (Commits_now t r) e = absurd (cc)
    go x e = carries-still (λ v. refl) (λ v d. refl) (λ l t. quiet sh s (CopyOf l t) (said x) (λ y. refl) (home sh l))

pub words-evict : (sh : Shape) (x y : ℕ) (s : CoreState) → IsCache sh s.cache → IfSome (core_evict sh x y s) (Quietly sh s)
words-evict sh x y s h = each-evict sh x y s (Quietly sh s)
    (λ k e a m. (
      refl,
      λ v. word-sent sh s (emptied sh x y k s) (dirty-evicted x y s.cache v k e)
          (λ n. value-evicted x y s.cache v k e ∙ other k v n (k == line_of v) refl) (back-home-words k v h),
    ))
  where
    other : (k v : ℕ) → k ≢ line_of v → (b : Bool) → (k == line_of v) ≡ b → (if b then None else s.cache.value v) ≡ s.cache.value v
    other k v n a q = grind nats

-- What a message does to a word's copies at the core that takes it: it keeps them, or is an invalidation of the word's line, which may
-- take the word from the frame.

pub words-grant : (sh : Shape) (u : ℕ) (s : CoreState) → Carries sh s (grant sh u s)
unfolding passes
words-grant sh u s = each-grant sh u s (Carries sh s) go
  where
    go : (x : Granted sh u s) → Carries sh s (granted x)
    go (Given_none e) = carries-still (λ v. refl) (λ v d. refl) (λ l t. quiet sh s (CopyOf l t) Silent (λ y. refl) (home sh l))
    go x = carries-still (λ v. refl) (λ v d. refl) (λ l t. quiet sh s (CopyOf l t) (granted_said x) (λ y. refl) (home sh l))

-- an invalidation of the word's line: what stays of the word in the frame is as it was, and no copy is sent
pub data WordBack (sh : Shape) (x : ℕ) (s : CoreState) (m : Msg) (o : Out) : Type 0 where
  Carried : WordCarried sh x s o → WordBack sh x s m o
  Lost : (n u : ℕ) → m ≡ Inv (line_of x) n u
      → ((t : ℕ) → o.core.cache.dirty x ≡ Some t → (s.cache.dirty x ≡ Some t) × (o.core.cache.value x ≡ s.cache.value x))
      → ((t : ℕ) → among (CopyOf (line_of x) t) (o.sends (Dir (home_of sh x))) ≡ 0) → WordBack sh x s m o

pub words-back : (sh : Shape) (x e : ℕ) (s : CoreState) (m : Msg) → IsCache sh s.cache → IfSome (from_dir sh e s m) (WordBack sh x s m)
unfolding invalidated rolled_back cleaned filled read_cleared passes
words-back sh x e s m h = each-back sh e s (WordBack sh x s) go m
  where
    l : ℕ
    l = line_of x

    away : (k m : ℕ) → k ≢ l → ((invalidated k m s.cache).dirty x ≡ s.cache.dirty x) × ((invalidated k m s.cache).value x ≡ s.cache.value x)
    away k m n = none (hit k m x) (s.cache.modified x) (missed k m l x refl n)
      where
        none : (a b : Bool) → a ≡ false → ((if a && not b then None else s.cache.dirty x) ≡ s.cache.dirty x)
            × ((if a && not b then None else s.cache.value x) ≡ s.cache.value x)
        none true b e = absurd (cc)
        none false b e = (refl, refl)

    here : (k m t : ℕ) → (invalidated k m s.cache).dirty x ≡ Some t
        → (s.cache.dirty x ≡ Some t) × ((invalidated k m s.cache).value x ≡ s.cache.value x)
    here k m t q = one (hit k m x && not (s.cache.modified x)) q
      where
        one : (a : Bool) → (if a then None else s.cache.dirty x) ≡ Some t
            → (s.cache.dirty x ≡ Some t) × ((if a then None else s.cache.value x) ≡ s.cache.value x)
        one true q = absurd (cc)
        one false q = (q, refl)

    -- a roll back takes modified words, and dirty words aren't modified
    unmodified : (k m : ℕ) (b : Bool) → s.cache.modified x ≡ b → is_some (s.cache.dirty x) ≡ true
        → (if b then None else (invalidated k m s.cache).value x) ≡ (invalidated k m s.cache).value x
    unmodified k m a q d = grind nats

    kept : (ws : List ℕ) (v : ℕ) (b : Bool) (o : Option ℕ) → is_some o ≡ true
        → (if b then Some (unwrap_or o (get_or ws (place_of v) 0)) else o) ≡ o
    kept ws v a o e = grind nats

    -- after an invalidation and perhaps a roll back
    hurt : (k m u : ℕ) (y : Heard sh e s) → (heard y).core.cache.dirty x ≡ (invalidated k m s.cache).dirty x
        → (is_some (s.cache.dirty x) ≡ true → (heard y).core.cache.value x ≡ (invalidated k m s.cache).value x)
        → ((t : ℕ) → among (CopyOf l t) ((heard y).sends (Dir (home sh l))) ≡ 0) → WordBack sh x s (Inv k m u) (heard y)
    hurt k m u y f g told = elim (cases_eq k l) [
      | inl q ↦ Lost m u (rw q refl) (λ t e. let y = here k m t (sym f ∙ e) in (y.0, g (rw y.0 refl) ∙ y.1)) told
      | inr q ↦ let z = away k m q in Carried (word-still sh x s (heard y) (f ∙ z.0) (λ d. g d ∙ z.1) told)
    ]

    none : (y : Heard sh e s) → ((t : ℕ) → Unheard (CopyOf l t) (heard_said y)) → ((t : ℕ) (b : Bool) → hears_ack (CopyOf l t) y b ≡ false)
        → (t : ℕ) → among (CopyOf l t) ((heard y).sends (Dir (home sh l))) ≡ 0
    none y f g t = heard-quiet (CopyOf l t) y (f t) (g t) (home sh l)

    rolls : (k m u : ℕ) (y : Heard sh e s) → (heard y).core.cache ≡ rolled_back (invalidated k m s.cache)
        → ((t : ℕ) → among (CopyOf l t) ((heard y).sends (Dir (home sh l))) ≡ 0) → WordBack sh x s (Inv k m u) (heard y)
    rolls k m u y c n = hurt k m u y (ap (λ r. r.dirty x) c) (λ d. ap (λ r. r.value x) c ∙ unmodified k m (s.cache.modified x) refl d) n

    go : (y : Heard sh e s) → WordBack sh x s (message y) (heard y)
    go (Hands_out k) = Carried (word-sent sh s (moves (record s { cache = cleaned k s.cache }) (say sh s (Flushes k))) refl
        (λ n. refl) (flushed-words k x h))
    go (Fills k ws a q i f) = Carried (word-still sh x s (moves (record s { cache = filled k ws s.cache; awaited = None }) nothing) refl
        (λ d. kept ws x (k == line_of x) (s.cache.value x) (h.dirty x d)) (none (Fills k ws a q i f) (λ t y. refl) (λ t b. refl)))
    go (Hurt_none k m u n) = hurt k m u (Hurt_none k m u n) refl (λ d. refl) (none (Hurt_none k m u n) (λ t y. refl) (λ t b. refl))
    go (Hurt_running k m u v q) = rolls k m u (Hurt_running k m u v q) refl (none (Hurt_running k m u v q) (λ t y. refl) (λ t b. refl))
    go (Hurt_waiting k m u v q) = rolls k m u (Hurt_waiting k m u v q) refl (none (Hurt_waiting k m u v q) (λ t y. refl) (λ t b. refl))
    go (Hurt_probing k m u t v q) =
        rolls k m u (Hurt_probing k m u t v q) refl (none (Hurt_probing k m u t v q) (λ t y. refl) (λ t b. refl))
    go (Hurt_alone k m u t v q) = rolls k m u (Hurt_alone k m u t v q) refl (none (Hurt_alone k m u t v q) (λ t y. refl) (λ t b. refl))
    go y = Carried (word-still sh x s (heard y) refl (λ d. refl) (none y (λ t y. refl) (λ t b. refl)))

-- What a commit does to one word: where it didn't store it nothing; where it did, the frame's word is dirty with the commit's TID, or
-- the spilled word is sent with it, as they were.

pub record CommitsWord (sh : Shape) (x t : ℕ) (c : Cache) (sp : Spilled) (o : Out) : Type 0 where
  pub left : c.modified x ≡ false → sp x ≡ None
      → (o.core.cache.dirty x ≡ c.dirty x) × ((o.core.cache.value x ≡ c.value x) × ((u d : ℕ) → among (CopyWord x u) (o.sends (Dir d)) ≡ 0))
  pub framed : (u : ℕ) → (c.modified x || is_some (sp x)) ≡ true → o.core.cache.dirty x ≡ Some u
      → (u ≡ t) × ((sp x ≡ None) × (o.core.cache.value x ≡ c.value x))
  pub sent : (u d : ℕ) → t ≢ u → among (CopyWord x u) (o.sends (Dir d)) ≡ 0
  pub right : (y d : ℕ) → unwrap_or (sp x) y ≡ y → among (CopyNot x t y) (o.sends (Dir d)) ≡ 0

-- with all directories ready
ready-word : (sh : Shape) (x id t : ℕ) (s : CoreState) → s.spilled x ≡ None → CommitsWord sh x t s.cache s.spilled (commit sh id t s)
unfolding commit committed_core committed
ready-word sh x id t s z = record {
  left = λ m e. (rw m, (refl, λ u d. none u d));
  framed = λ u m e. framed u (s.cache.modified x) (s.spilled x) z m e;
  sent = λ u d n. none u d;
  right = λ y d e. omega (arith, none, among-others);
}
  where
    none : (u d : ℕ) → among (CopyWord x u) ((commit sh id t s).sends (Dir d)) ≡ 0
    none u d = omega (arith, among-words, commit-copies)

    framed : (u : ℕ) (b : Bool) (o : Option ℕ) → o ≡ None → (b || is_some o) ≡ true → (if b then Some t else s.cache.dirty x) ≡ Some u
        → (u ≡ t) × ((o ≡ None) × (s.cache.value x ≡ s.cache.value x))
    framed u true o q m e = (cc, (q, refl))
    framed u false None q m e = absurd (cc)
    framed u false (Some y) q m e = absurd (cc)

-- alone

-- no message of the spilled lines is of this kind, and none of the marks is
solo-none : (sh : Shape) (k : Kind) (c : Cache) (sp : Spilled) (t d : ℕ)
    → ((l : ℕ) → passes k (WriteBack l (spilled_mask sp l) (spilled_words sp l) t) ≡ false) → ((l m : ℕ) → passes k (Mark l m t) ≡ false)
    → ((n : ℕ) → passes k (Commit t n) ≡ false) → passes k (Skip t) ≡ false → among k (solo_sends sh c sp t (Dir d)) ≡ 0
unfolding solo_sends solo_marks_or_skip solo_write_backs among
solo-none sh k c sp t d back mark sent skip = grind (nats, among-flat_map_none, among-append)

-- the spilled words of a line at the word's place
spilled-at : (sp : Spilled) (x : ℕ) → (has (spilled_mask sp (line_of x)) (place_of x) ≡ is_some (sp x))
    × (get_or (spilled_words sp (line_of x)) (place_of x) 0 ≡ unwrap_or (sp x) 0)
unfolding spilled_mask spilled_words
spilled-at sp x = (
  rw (word_at-own x) at (has-mask_of (λ k. is_some (sp (word_at (line_of x) k))) (place_of x) (omega arith)),
  rw (word_at-own x) at (eight-at (λ k. unwrap_or (sp (word_at (line_of x) k)) 0) (place_of x) (omega arith)),
)

and-off : (a b : Bool) → b ≡ false → (a && b) ≡ false
and-off a b e = grind nats

off-and : {a : Bool} (b : Bool) → a ≡ false → (a && b) ≡ false
off-and b e = grind nats

unhit : (sp : Spilled) (x l : ℕ) → sp x ≡ None → hit l (spilled_mask sp l) x ≡ false
unfolding hit
unhit sp x l z = grind (nats, spilled-at)

unhit-line : (sp : Spilled) (x l : ℕ) → (l == line_of x) ≡ false → hit l (spilled_mask sp l) x ≡ false
unfolding hit
unhit-line sp x l q = rw q

solo-word : (sh : Shape) (x id t : ℕ) (s : CoreState) → CommitsWord sh x t s.cache s.spilled (solo_commit sh id t s)
unfolding solo_commit committed_core committed words_dropped passes
solo-word sh x id t s = record {
  left =
      λ m z. (
        rw (m, z),
        (
          rw z,
          λ u d. solo-none sh (CopyWord x u) s.cache s.spilled t d
              (λ l. off-and (t == u) (unhit s.spilled x l z)) (λ l m. refl) (λ n. refl) refl,
        ),
      );
  framed = λ u m e. framed u (s.cache.modified x) (s.spilled x) m e;
  sent = λ u d n. solo-none sh (CopyWord x u) s.cache s.spilled t d
      (λ l. and-off (hit l (spilled_mask s.spilled l) x) (t == u) (grind nats)) (λ l m. refl) (λ n. refl) refl;
  right = λ y d e. solo-none sh (CopyNot x t y) s.cache s.spilled t d (λ l. right y e l (l == line_of x) refl (s.spilled x) refl)
      (λ l m. refl) (λ n. refl) refl;
}
  where
    framed : (u : ℕ) (b : Bool) (o : Option ℕ) → (b || is_some o) ≡ true
        → (if (if is_some o then false else b) then Some t else (if is_some o then None else s.cache.dirty x)) ≡ Some u
        → (u ≡ t) × ((o ≡ None) × ((if is_some o then None else s.cache.value x) ≡ s.cache.value x))
    framed u b (Some y) m e = absurd (cc)
    framed u true None m e = (cc, (refl, refl))
    framed u false None m e = absurd (cc)

    right : (y : ℕ) → unwrap_or (s.spilled x) y ≡ y → (l : ℕ) (b : Bool) → (l == line_of x) ≡ b → (o : Option ℕ) → s.spilled x ≡ o
        → ((hit l (spilled_mask s.spilled l) x && (t == t)) && not (get_or (spilled_words s.spilled l) (place_of x) 0 == y)) ≡ false
    right y e l b q None z = off-and _ (off-and (t == t) (unhit s.spilled x l z))
    right y e l false q (Some w) z = off-and _ (off-and (t == t) (unhit-line s.spilled x l q))
    right y e l true q (Some w) z =
        let i : l ≡ line_of x = grind nats in
        let v : w ≡ y = rw z at e in
        let g : get_or (spilled_words s.spilled l) (place_of x) 0 ≡ y = rw i ((spilled-at s.spilled x).1 ∙ rw z v) in
        let n : (y == y) ≡ true = grind nats in
        and-off (hit l (spilled_mask s.spilled l) x && (t == t)) _ (rw (g, n))

-- what an instruction commits
abbrev pub CommitsWords : Shape → CoreState → Out → Type 0
CommitsWords sh s o = (n : Noted) → o.commit ≡ Some n → (x : ℕ) → CommitsWord sh x n.tid.0 s.cache s.spilled o

none-noted : {sh : Shape} (s : CoreState) {o : Out} → o.commit ≡ None → CommitsWords sh s o
none-noted s e n q x = absurd (let z = sym e ∙ q in cc)

-- the TID of what is noted
noted-tid : (t id : ℕ) (r : CoreState) (n : Noted) → Some (noted t id r) ≡ Some n → t ≡ n.tid.0
unfolding noted
noted-tid t id r n e = let y : noted t id r ≡ n = cc in ap (λ z. z.tid.0) y

pub commits-exec : (sh : Shape) (p : Program) (id : ℕ) (s : CoreState) → IsCache sh s.cache
    → (is_solo s.phase ≡ false → (x : ℕ) → s.spilled x ≡ None) → IfSome (core_exec sh p id s) (CommitsWords sh s)
unfolding commit solo_commit
commits-exec sh p id s h f = each-exec sh p id s (CommitsWords sh s) go
  where
    go : (x : Did sh p id s) → CommitsWords sh s (out x)
    go (Ends_alone t l e g r i) = λ n q x. let z = solo-word sh x id t (after_end s l e) in
        rw (sym (noted-tid t id (after_end s l e) n q)) (record { left = z.left; framed = z.framed; sent = z.sent; right = z.right })
    go (Commits_now t e) = λ n q x. rw (sym (noted-tid t id s n q)) (ready-word sh x id t s (f (rw e) x))
    go x = none-noted s refl
