-- What a core's events do to the copies of a line: all keep them, but that a commit makes new ones; then the lines that commits wrote.
use Rattle.rules_maps.proofs.Lemmas.{dirty-placed}
use Rattle.theorem_serial.proofs
use proofs.Names
use Names.{line_of-word_at, committed_core, if◌then◌else◌, modified_mask, words_dropped, dirty-evicted, spilled_mask, any_below-at}
use Names.{written_mask, read_cleared, is_modified, solo_commit, invalidated, rolled_back, committed, is_written, names_line, core_evict}
use Names.{CoreState, stores_in, core_exec, any_word, cases_eq, ◌≡◌, from_dir, is_some, word_at, mask_of, Spilled, OneCore, Program}
use Names.{word_of, line_of, IsCache, cleaned, ◌<◌, nothing, Option, commit, IfSome, filled, CopyOf, passes, stored, marked, placed, false}
use Names.{arith, Shape, lines, Cache, holds, Ready, noted, Words, moves, grant, among, ◌==◌, ◌&&◌, ◌||◌, Bool, true, not, Some, None, refl}
use Names.{home, sym, ◌∙◌, num, Dir, ◌+◌, ◌≤◌, ◌⊎◌, inl, inr, hit, Msg, Inv, Out, ℕ, nats, ◌≢◌, zero, suc, List, [], ◌∷◌, length, Contains}
use Names.{slice_index_or, nat_lt, ap, Noted, any_below, insert_commit, times, stores_word, wrote, wrote_line, wrote_mask, subst, cases_lt}
use Names.{sum_below, DirState, History, Commits, live, KeptRun, Grant, pair, share, is_applied, CommitsStand, stores_at, Skipped}
use Names.{Committed, Ways, part_in, kept_in, WayAt, writes_at, Sends, Stepped, Resolves, holder, has_tid, part, handled, live_way, to_dir}
use proofs.Copies.CopySends.{few-masks, commit-copies, solo-copies, solo-wrong, flushed-leaves, back-home-leaves, Conserves}
use proofs.Copies.CopySends.{conserves-still, conserves-sent, framed-dirty, wrong-copy, IsClean, clean-frame, committed-frame, frame_copy}
use proofs.Copies.CopySends.{fewer-frame}
use proofs.Marks.CoreMarks.{holds-found, unspilled, modified-line, modified-stored, written-line, written-stored}
use proofs.OneCore.{Flushes, Requests, Silent, Unheard, quiet, say, Commits_now, Did, Ends_alone, Frames, Frames_anew, Given_none, Granted}
use proofs.OneCore.{Hands_out, Heard, Hurt_alone, Hurt_probing, Hurt_running, Hurt_waiting, Misses_anew, Hurt_none, after_end, after_store}
use proofs.OneCore.{awaiting, each-back, each-evict, each-exec, each-grant, emptied, granted, granted_said, heard, heard-quiet, heard_said}
use proofs.OneCore.{hears_ack, message, out, said}
use proofs.Counts.{total-zero, total-le}
use proofs.Marks.MaskLaws.{few-any}
use proofs.Serving.{of-resolves}
use proofs.Tids.{granted-once, granted-at, positive-committed}
use proofs.Ways.{ByCore, Still, Moved, Speaks, told-committed, TellsCommit}

-- A commit makes one copy of each line that it stored, with its TID and of the stored words: in the frame, or sent from the overflow
-- buffer.
ready-copies : (sh : Shape) (l id u : ℕ) (s : CoreState) → s.phase ≡ Ready u → OneCore sh s → Conserves sh l s (commit sh id u s)
unfolding commit committed_core committed noted names_line
ready-copies sh l id u s e h =
    let x = committed-frame (committed u s.cache) l u h.words.cache (λ k i. refl) in
    let z : (t : ℕ) → num (is_modified s.cache l && u == t) ≡ num (names_line sh.base s.stores l && u == t) =
    λ t. rw (modified-line sh.base s.cache s.stores l (unspilled sh s.cache s.spilled s.stores (rw e at h.words))) in
    let y : (t m : ℕ) → num ((is_modified s.cache l && u == t) && not (modified_mask s.cache l == m)) ≡ num
    ((names_line sh.base s.stores l && u == t) && not (stores_in sh.base s.stores l == m)) =
    λ t m. rw (
      modified-line sh.base s.cache s.stores l (unspilled sh s.cache s.spilled s.stores (rw e at h.words)),
      modified-stored sh.base s.cache s.stores l (unspilled sh s.cache s.spilled s.stores (rw e at h.words)),
    ) in
    record {
      copies = λ t. omega (arith, x.0, z, commit-copies);
      wrong =
          λ t m. omega (arith, x.1, y, commit-copies, few-masks);
    }

none-held : (sp : Spilled) (l : ℕ) → holds sp l ≡ false → (k : ℕ) → k < 8 → sp (word_at l k) ≡ None
unfolding holds any_word
none-held sp l e k i = go (sp (word_at l k)) refl
  where
    go : (a : Option ℕ) → sp (word_at l k) ≡ a → sp (word_at l k) ≡ None
    go None q = q
    go (Some x) q = absurd (let a = any_below-at (λ k. is_some (sp (word_at l k))) 8 k i (rw q) in cc)

-- of a line without spilled words the written ones are the modified ones, and of one with some they are the spilled ones
unspilled-mask : (c : Cache) (sp : Spilled) (l : ℕ) → ((k : ℕ) → k < 8 → sp (word_at l k) ≡ None) → written_mask c sp l ≡ modified_mask c l
unfolding written_mask modified_mask mask_of
unspilled-mask c sp l h =
    rw (
      h 0 (omega arith),
      h 1 (omega arith),
      h 2 (omega arith),
      h 3 (omega arith),
      h 4 (omega arith),
      h 5 (omega arith),
      h 6 (omega arith),
      h 7 (omega arith),
    ) (rw (
      or-none (c.modified (word_at l 0)),
      or-none (c.modified (word_at l 1)),
      or-none (c.modified (word_at l 2)),
      or-none (c.modified (word_at l 3)),
      or-none (c.modified (word_at l 4)),
      or-none (c.modified (word_at l 5)),
      or-none (c.modified (word_at l 6)),
      or-none (c.modified (word_at l 7)),
    ))
  where
    or-none : (b : Bool) → (b || false) ≡ b
    or-none a = grind nats

spilled-only : (c : Cache) (sp : Spilled) (l : ℕ) → ((k : ℕ) → k < 8 → c.modified (word_at l k) ≡ false)
    → written_mask c sp l ≡ spilled_mask sp l
unfolding written_mask spilled_mask mask_of
spilled-only c sp l h =
    rw (
      h 0 (omega arith),
      h 1 (omega arith),
      h 2 (omega arith),
      h 3 (omega arith),
      h 4 (omega arith),
      h 5 (omega arith),
      h 6 (omega arith),
      h 7 (omega arith),
    )

alone-copies : {sh : Shape} {b : Bool} (l id u : ℕ) (s : CoreState) → l < lines sh → home sh l < sh.dirs
    → Words sh b s.cache s.spilled s.stores → Conserves sh l s (solo_commit sh id u s)
unfolding solo_commit committed_core committed words_dropped noted names_line is_written
alone-copies {sh} {b} l id u s i j h = go (holds s.spilled l) refl
  where
    after : Cache
    after = committed u (words_dropped s.spilled s.cache)

    line : (is_modified s.cache l || holds s.spilled l) ≡ names_line sh.base s.stores l
    line = written-line sh.base s.cache s.spilled s.stores l h.named

    mask : stores_in sh.base s.stores l ≡ written_mask s.cache s.spilled l
    mask = written-stored sh.base s.cache s.spilled s.stores l h.named

    or-last : (a : Bool) {c : Bool} → c ≡ true → (a || c) ≡ true
    or-last a e = grind nats

    or-none : (a : Bool) {c : Bool} → c ≡ false → (a || c) ≡ a
    or-none a e = grind nats

    go : (b : Bool) → holds s.spilled l ≡ b → Conserves sh l s (solo_commit sh id u s)
    go false q =
        let none = none-held s.spilled l q in
        let x = committed-frame after l u h.cache (λ k i. rw (none k i)) in
        let m : is_modified s.cache l ≡ names_line sh.base s.stores l = sym (or-none (is_modified s.cache l) q) ∙ line in
        let n : modified_mask s.cache l ≡ stores_in sh.base s.stores l = sym (unspilled-mask s.cache s.spilled l none) ∙ sym mask in
        record {
          copies = λ t. (let y : num (holds s.spilled l && u == t) ≡ 0 = rw q in
              let z : num (is_modified s.cache l && u == t) ≡ num (names_line sh.base s.stores l && u == t) = rw m in
              omega (arith, x.0, solo-copies));
          wrong = λ t k. (let y : num ((holds s.spilled l && u == t) && not (spilled_mask s.spilled l == k)) ≡ 0 = rw q in
              let z : num ((is_modified s.cache l && u == t) && not (modified_mask s.cache l == k)) ≡ num
              ((names_line sh.base s.stores l && u == t) && not (stores_in sh.base s.stores l == k)) = rw (m, n) in
              omega (arith, x.1, solo-wrong));
        }
    go true q = alone (holds-found s.spilled l q)
      where
        alone : (k : ℕ) × (k < 8) × (is_some (s.spilled (word_at l k)) ≡ true) → Conserves sh l s (solo_commit sh id u s)
        alone v = record {
          copies = λ t. (let z : num (holds s.spilled l && u == t) ≡ num (names_line sh.base s.stores l && u == t) = rw (q, stored) in
              omega (arith, clean-frame s.cache l (λ k i. (words k i).1) t, clean-frame after l gone t, solo-copies));
          wrong = λ t k. (let z : num ((holds s.spilled l && u == t) && not (spilled_mask s.spilled l == k)) ≡ num
              ((names_line sh.base s.stores l && u == t) && not (stores_in sh.base s.stores l == k)) = rw (q, stored, n) in
              omega (arith, clean-frame s.cache l (λ k i. (words k i).1) t, clean-frame after l gone t, wrong-copy, solo-wrong));
        }
          where
            words : (k : ℕ) → k < 8 → (s.cache.modified (word_at l k) ≡ false) × (s.cache.dirty (word_at l k) ≡ None)
            words k i = h.clean (word_at l v.0) (word_at l k) (line_of-word_at l v.0 v.1 ∙ sym (line_of-word_at l k i)) v.2

            none : (a : Bool) (m : Bool) (d : Option ℕ) → m ≡ false → d ≡ None
                → (if (if a then false else m) then Some u else (if a then None else d)) ≡ None
            none a m d e f = grind nats

            gone : IsClean after l
            gone k i = none (is_some (s.spilled (word_at l k))) (s.cache.modified (word_at l k)) (s.cache.dirty (word_at l k))
                (words k i).0 (words k i).1

            stored : names_line sh.base s.stores l ≡ true
            stored = sym line ∙ or-last (is_modified s.cache l) q

            n : spilled_mask s.spilled l ≡ stores_in sh.base s.stores l
            n = sym (spilled-only s.cache s.spilled l (λ k i. (words k i).0)) ∙ sym mask

-- What a core's events do to the copies of a line: all keep them, but that a commit makes new ones, and that an invalidation of the line
-- may leave fewer in the frame.

-- a line in memory, whose home the machine has
pub record InMemory (sh : Shape) (l : ℕ) : Type 0 where
  pub line : l < lines sh
  pub home : home sh l < sh.dirs

-- executing
pub copies-exec : {sh : Shape} (l : ℕ) (p : Program) (id : ℕ) {s : CoreState} → InMemory sh l → OneCore sh s
    → IfSome (core_exec sh p id s) (Conserves sh l s)
unfolding passes marked stored
copies-exec {sh} l p id {s} m h = each-exec sh p id s (Conserves sh l s) go
  where
    w : ℕ → ℕ
    w a = word_of sh.base a

    frames : (a y : ℕ) (also : Bool) (r : CoreState)
        → ((v : ℕ) → r.cache.dirty v ≡ (if line_of (w a) == line_of v then None else s.cache.dirty v))
        → Conserves sh l s (moves r (say sh s (Flushes (line_of (w a)))))
    frames a y also r e = conserves-sent sh s (moves r (say sh s (Flushes (line_of (w a))))) refl e
        (flushed-leaves sh l (line_of (w a)) s.cache)

    go : (x : Did sh p id s) → Conserves sh l s (out x)
    go (Frames a y also n k g i f) = frames a y also (after_store s a k (stored (w a) y also s.cache) s.spilled) (λ v. refl)
    go (Frames_anew a y n k g i q f h2) =
        conserves-still sh l s (moves (after_store s a k (stored (w a) y false (placed sh (line_of (w a)) s.cache)) s.spilled) nothing) refl
        (λ j i. framed-dirty (w a) y h.words.cache q (word_at l j)) (λ t. quiet sh s (CopyOf l t) Silent (λ y. refl) (home sh l))
    go (Misses_anew a n g i q f) =
        conserves-still sh l s (moves (record s { awaited = awaiting (line_of (w a)); cache = placed sh (line_of (w a)) s.cache })
        (say sh s (Requests (line_of (w a))))) refl (λ j i. dirty-placed sh (line_of (w a)) s.cache (word_at l j))
        (λ t. quiet sh s (CopyOf l t) (Requests (line_of (w a))) (λ y. refl) (home sh l))
    go (Ends_alone t b e f r i) = let x = alone-copies l id t (after_end s b e) m.line m.home h.words in
        record { copies = x.copies; wrong = x.wrong }
    go (Commits_now t e) = ready-copies sh l id t s e h
    go x = conserves-still sh l s (out x) refl (λ k i. refl) (λ t. quiet sh s (CopyOf l t) (said x) (λ y. refl) (home sh l))

pub copies-evict : (sh : Shape) (l x y : ℕ) (s : CoreState) → IfSome (core_evict sh x y s) (Conserves sh l s)
copies-evict sh l x y s = each-evict sh x y s (Conserves sh l s)
    (λ k e a m. conserves-sent sh s (emptied sh x y k s) refl (λ v. dirty-evicted x y s.cache v k e) (back-home-leaves sh l k s.cache))

-- messages

-- a word of another line isn't hit
pub missed : (k m l w : ℕ) → line_of w ≡ l → k ≢ l → hit k m w ≡ false
unfolding hit
missed k m l w e n = let z : (k == line_of w) ≡ false = rw e (grind nats) in rw z

pub copies-grant : (sh : Shape) (l u : ℕ) (s : CoreState) → Conserves sh l s (grant sh u s)
unfolding passes
copies-grant sh l u s = each-grant sh u s (Conserves sh l s) go
  where
    go : (x : Granted sh u s) → Conserves sh l s (granted x)
    go (Given_none e) = conserves-still sh l s (moves s nothing) refl (λ k i. refl)
        (λ t. quiet sh s (CopyOf l t) Silent (λ y. refl) (home sh l))
    go x = conserves-still sh l s (granted x) refl (λ k i. refl) (λ t. quiet sh s (CopyOf l t) (granted_said x) (λ y. refl) (home sh l))

-- a message to a core keeps the copies, or it invalidates the line and no copy is new
pub data BackStep (sh : Shape) (l : ℕ) (s : CoreState) (m : Msg) (o : Out) : Type 0 where
  Kept : Conserves sh l s o → BackStep sh l s m o
  Invalidates : (k u : ℕ) → m ≡ Inv l k u → o.commit ≡ None
      → ((t : ℕ) → frame_copy o.core.cache l t + among (CopyOf l t) (o.sends (Dir (home sh l))) ≤ frame_copy s.cache l t)
      → BackStep sh l s m o

pub copies-back : (sh : Shape) (l e : ℕ) (s : CoreState) (m : Msg) → IsCache sh s.cache → IfSome (from_dir sh e s m) (BackStep sh l s m)
unfolding invalidated rolled_back cleaned filled read_cleared passes
copies-back sh l e s m h = each-back sh e s (BackStep sh l s) go m
  where
    away : (k m : ℕ) → k ≢ l → (j : ℕ) → j < 8 → (invalidated k m s.cache).dirty (word_at l j) ≡ s.cache.dirty (word_at l j)
    away k m n j i = let z : line_of (word_at l j) ≡ l = line_of-word_at l j i in
        none (hit k m (word_at l j)) (s.cache.modified (word_at l j)) (missed k m l (word_at l j) z n)
      where
        none : (a b : Bool) → a ≡ false → (if a && not b then None else s.cache.dirty (word_at l j)) ≡ s.cache.dirty (word_at l j)
        none a b e = grind nats

    here : (k m j : ℕ) → j < 8 → ((invalidated k m s.cache).dirty (word_at l j) ≡ None)
        ⊎ ((invalidated k m s.cache).dirty (word_at l j) ≡ s.cache.dirty (word_at l j))
    here k m j i = one (hit k m (word_at l j) && not (s.cache.modified (word_at l j)))
      where
        one : (a : Bool) → ((if a then None else s.cache.dirty (word_at l j)) ≡ None)
            ⊎ ((if a then None else s.cache.dirty (word_at l j)) ≡ s.cache.dirty (word_at l j))
        one true = inl refl
        one false = inr refl

    -- after an invalidation and perhaps a roll back
    hurt : (k m u : ℕ) (x : Heard sh e s) → (heard x).commit ≡ None
        → ((v : ℕ) → (heard x).core.cache.dirty v ≡ (invalidated k m s.cache).dirty v)
        → ((t : ℕ) → among (CopyOf l t) ((heard x).sends (Dir (home sh l))) ≡ 0) → BackStep sh l s (Inv k m u) (heard x)
    hurt k m u x n f told = elim (cases_eq k l) [
      | inl q ↦ Invalidates m u (rw q) n
          (λ t. omega (arith, told, fewer-frame sh s.cache (heard x).core.cache l h (λ j i. rw (f (word_at l j)) (here k m j i)) t))
      | inr q ↦ Kept (conserves-still sh l s (heard x) n (λ j i. f (word_at l j) ∙ away k m q j i) told)
    ]

    none : (x : Heard sh e s) → ((t : ℕ) → Unheard (CopyOf l t) (heard_said x)) → ((t : ℕ) (b : Bool) → hears_ack (CopyOf l t) x b ≡ false)
        → (t : ℕ) → among (CopyOf l t) ((heard x).sends (Dir (home sh l))) ≡ 0
    none x f g t = heard-quiet (CopyOf l t) x (f t) (g t) (home sh l)

    go : (x : Heard sh e s) → BackStep sh l s (message x) (heard x)
    go (Hands_out k) = Kept (conserves-sent sh s (moves (record s { cache = cleaned k s.cache }) (say sh s (Flushes k))) refl
        (λ v. refl) (flushed-leaves sh l k s.cache))
    go (Hurt_none k m u n) = hurt k m u (Hurt_none k m u n) refl (λ v. refl) (none (Hurt_none k m u n) (λ t y. refl) (λ t b. refl))
    go (Hurt_running k m u v q) =
        hurt k m u (Hurt_running k m u v q) refl (λ v. refl) (none (Hurt_running k m u v q) (λ t y. refl) (λ t b. refl))
    go (Hurt_waiting k m u v q) =
        hurt k m u (Hurt_waiting k m u v q) refl (λ v. refl) (none (Hurt_waiting k m u v q) (λ t y. refl) (λ t b. refl))
    go (Hurt_probing k m u t v q) = hurt k m u (Hurt_probing k m u t v q) refl
        (λ v. refl) (none (Hurt_probing k m u t v q) (λ t y. refl) (λ t b. refl))
    go (Hurt_alone k m u t v q) =
        hurt k m u (Hurt_alone k m u t v q) refl (λ v. refl) (none (Hurt_alone k m u t v q) (λ t y. refl) (λ t b. refl))
    go x = Kept (conserves-still sh l s (heard x) refl (λ j i. refl) (none x (λ t y. refl) (λ t b. refl)))

-- Which lines a core's commit with a TID stored, and that the commit is on its way there, or applied.

-- Which lines a core's commit with a TID stored, by the list of commits.

-- the commit is this core's with this TID
abbrev pub is_of : (core tid : ℕ) → Noted → Bool
is_of c t n = (n.core.0 == c) && (n.tid.0 == t)

wrote-insert : (base : ℕ) (n : Noted) (cs : List Noted) (c t w : ℕ)
    → wrote base (insert_commit n cs) c t w ≡ (((n.core.0 == c) && ((n.tid.0 == t) && stores_word base n.stores w)) || wrote base cs c t w)
unfolding wrote insert_commit
wrote-insert base n [] c t w = refl
wrote-insert base n (x ∷ cs) c t w = go (nat_lt n.tid.0 x.tid.0) (wrote-insert base n cs c t w)
  where
    go : (b : Bool)
        → wrote base (insert_commit n cs) c t w ≡ (((n.core.0 == c) && ((n.tid.0 == t) && stores_word base n.stores w))
        || wrote base cs c t w)
        → wrote base (if b then n ∷ x ∷ cs else x ∷ insert_commit n cs) c t w
        ≡ (((n.core.0 == c) && ((n.tid.0 == t) && stores_word base n.stores w))
        || (((x.core.0 == c) && ((x.tid.0 == t) && stores_word base x.stores w)) || wrote base cs c t w))
    go a e = grind nats

-- a TID that no commit has
wrote-none : (base : ℕ) (cs : List Noted) (c t w : ℕ) → times t cs ≡ 0 → wrote base cs c t w ≡ false
unfolding wrote times
wrote-none base [] c t w e = refl
wrote-none base (x ∷ cs) c t w e = rw (wrote-none base cs c t w (omega arith)) (go (x.core.0 == c) (x.tid.0 == t) refl)
  where
    go : (a b : Bool) → (x.tid.0 == t) ≡ b → ((a && (b && stores_word base x.stores w)) || false) ≡ false
    go a b q = grind nats

same-line : (f g : ℕ → Bool) → ((w : ℕ) → f w ≡ g w) → (l : ℕ) → any_word f l ≡ any_word g l
same-line f g h l = ap {A = ℕ → Bool} (λ p. any_word p l) (λ i w. h w i)

same-mask : (f g : ℕ → Bool) → ((w : ℕ) → f w ≡ g w) → (l : ℕ) → mask_of (λ k. f (word_at l k)) ≡ mask_of (λ k. g (word_at l k))
same-mask f g h l = ap {A = ℕ → Bool} (λ p. mask_of (λ k. p (word_at l k))) (λ i w. h w i)

-- the words of a commit by this core with this TID are the words that it stored
pub record Wrote (base : ℕ) (cs : List Noted) (c t l : ℕ) (n : Noted) : Type 0 where
  pub line : wrote_line base cs c t l ≡ names_line base n.stores l
  pub mask : wrote_mask base cs c t l ≡ stores_in base n.stores l

wrote-all : {base : ℕ} {cs : List Noted} {c t l : ℕ} {n : Noted} → ((w : ℕ) → wrote base cs c t w ≡ stores_word base n.stores w)
    → Wrote base cs c t l n
unfolding wrote_line wrote_mask names_line stores_in
wrote-all {base} {cs} {c} {t} {l} {n} h =
    record {
      line = same-line (wrote base cs c t) (stores_word base n.stores) h l;
      mask = same-mask (wrote base cs c t) (stores_word base n.stores) h l;
    }

-- a new commit
pub wrote-new : (base : ℕ) (n : Noted) (cs : List Noted) (c t l : ℕ) → n.core.0 ≡ c → n.tid.0 ≡ t → times t cs ≡ 0
    → Wrote base (insert_commit n cs) c t l n
wrote-new base n cs c t l e f z =
    let own : (b : Bool) → (((c == c) && ((t == t) && b)) || false) ≡ b = λ b. grind nats in
    wrote-all (λ w. wrote-insert base n cs c t w ∙ rw (wrote-none base cs c t w z, e, f) (own (stores_word base n.stores w)))

-- what another one stored stays
pub record SameWrote (base : ℕ) (cs ds : List Noted) (c t l : ℕ) : Type 0 where
  pub line : wrote_line base ds c t l ≡ wrote_line base cs c t l
  pub mask : wrote_mask base ds c t l ≡ wrote_mask base cs c t l

pub wrote-other : (base : ℕ) (n : Noted) (cs : List Noted) (c t l : ℕ) → is_of c t n ≡ false → SameWrote base cs (insert_commit n cs) c t l
unfolding wrote_line wrote_mask
wrote-other base n cs c t l e =
    record {
      line = same-line (wrote base (insert_commit n cs) c t) (wrote base cs c t) one l;
      mask = same-mask (wrote base (insert_commit n cs) c t) (wrote base cs c t) one l;
    }
  where
    one : (w : ℕ) → wrote base (insert_commit n cs) c t w ≡ wrote base cs c t w
    one w = grind (nats, wrote-insert)

-- where no commit of the list is this core's with this TID, nothing is stored; where one is, its words are
wrote-never : (base : ℕ) (cs : List Noted) (c t w : ℕ) → ((x : Noted) → Contains cs x → is_of c t x ≡ false) → wrote base cs c t w ≡ false
unfolding wrote
wrote-never base [] c t w h = refl
wrote-never base (x ∷ cs) c t w h = rw (wrote-never base cs c t w (λ y k. h y (suc k.0, omega arith, k.2)))
    (go (x.core.0 == c) (x.tid.0 == t) (h x (0, omega arith, refl)))
  where
    go : (a b : Bool) → (a && b) ≡ false → ((a && (b && stores_word base x.stores w)) || false) ≡ false
    go a b q = grind nats

line-never : (base : ℕ) (cs : List Noted) (c t l : ℕ) → ((w : ℕ) → wrote base cs c t w ≡ false) → wrote_line base cs c t l ≡ false
unfolding wrote_line any_word any_below
line-never base cs c t l h =
    rw (
      h (word_at l 0),
      h (word_at l 1),
      h (word_at l 2),
      h (word_at l 3),
      h (word_at l 4),
      h (word_at l 5),
      h (word_at l 6),
      h (word_at l 7),
    )

pub no-writer : (base : ℕ) (cs : List Noted) (c t l : ℕ) → ((x : Noted) → Contains cs x → is_of c t x ≡ false)
    → wrote_line base cs c t l ≡ false
no-writer base cs c t l h = line-never base cs c t l (λ w. wrote-never base cs c t w h)

pub wrote-unknown : (base : ℕ) (cs : List Noted) (c t l : ℕ) → times t cs ≡ 0 → wrote_line base cs c t l ≡ false
wrote-unknown base cs c t l z = line-never base cs c t l (λ w. wrote-none base cs c t w z)

pub wrote-at : (base : ℕ) (cs : List Noted) (n : Noted) (w k : ℕ) → stores_word base n.stores w ≡ true → k < length cs
    → slice_index_or cs k n ≡ n → wrote base cs n.core.0 n.tid.0 w ≡ true
unfolding wrote
wrote-at base [] n w k s i e = absurd (omega arith)
wrote-at base (x ∷ cs) n w zero s i e = grind nats
wrote-at base (x ∷ cs) n w (suc k) s i e = rw (wrote-at base cs n w k s (omega arith) e)
    (go ((x.core.0 == n.core.0) && ((x.tid.0 == n.tid.0) && stores_word base x.stores w)))
  where
    go : (b : Bool) → (b || true) ≡ true
    go a = grind nats

-- where the only commit by this core with this TID didn't store the word, none did
wrote-only : (base : ℕ) (cs : List Noted) (n : Noted) (c t w : ℕ) → stores_word base n.stores w ≡ false
    → ((x : Noted) → Contains cs x → is_of c t x ≡ true → x ≡ n) → wrote base cs c t w ≡ false
unfolding wrote
wrote-only base [] n c t w s h = refl
wrote-only base (x ∷ cs) n c t w s h = rw (wrote-only base cs n c t w s (λ y k. h y (suc k.0, omega arith, k.2)))
    (go (x.core.0 == c) (x.tid.0 == t) (h x (0, omega arith, refl)))
  where
    go : (a b : Bool) → ((a && b) ≡ true → x ≡ n) → ((a && (b && stores_word base x.stores w)) || false) ≡ false
    go a b q = grind nats

pub wrote-listed : (base : ℕ) (cs : List Noted) (n : Noted) (l : ℕ) → Contains cs n
    → ((x : Noted) → Contains cs x → is_of n.core.0 n.tid.0 x ≡ true → x ≡ n) → Wrote base cs n.core.0 n.tid.0 l n
wrote-listed base cs n l k h = wrote-all (λ w. go w (stores_word base n.stores w) refl)
  where
    go : (w : ℕ) (b : Bool) → stores_word base n.stores w ≡ b → wrote base cs n.core.0 n.tid.0 w ≡ b
    go w a s = grind (nats, wrote-at, wrote-only)

-- A commit is on its way to each directory where it stored, or applied there.

-- the only number of a sum that isn't zero
total-only : (f : ℕ → ℕ) (n c : ℕ) → ((j : ℕ) → j < n → j ≢ c → f j ≡ 0) → (n ≤ c → f c ≡ 0) → sum_below f n ≡ f c
unfolding sum_below
total-only f zero c h z = sym (z (omega arith))
total-only f (suc n) c h z = go (cases_eq n c) (total-only f n c (λ j l i. h j (omega arith) i))
  where
    go : (n ≡ c) ⊎ (n ≢ c) → ((n ≤ c → f c ≡ 0) → sum_below f n ≡ f c) → sum_below f n + f n ≡ f c
    go a g = grind (nats, total-zero)

pub applied-or : (s : DirState) (t : ℕ)
    → num (is_applied s t) ≡ num (nat_lt t s.serving.serving) + num ((t == s.serving.serving) && nat_lt 0 s.owed)
unfolding is_applied
applied-or s t = grind nats

pub on-its-way : (sh : Shape) (gs : List Grant) (ys : Ways) (h : History) → KeptRun sh gs ys h → CommitsStand sh h.world h.commits
unfolding share part_in kept_in pair
on-its-way sh gs ys h k n d i dl s = omega (arith, place, one, applied-or (h.world.dirs d) n.tid.0)
  where
    t : ℕ
    t = n.tid.0

    way : ys d t ≡ Committed
    way =
        let told : (b : Bool) → b ≡ true → (if b then Committed else Skipped) ≡ Committed = λ b e. rw e in
        k.committed.stored n d i dl ∙ told (stores_at sh d n.stores) s

    place : WayAt sh h.world d t Committed
    place = subst (WayAt sh h.world d t) way (k.ways d t dl (positive-committed n k.all.owners i))

    other : (j : ℕ) → j ≢ n.core.0 → live (Commits t) (to_dir h.world j d) ≡ 0
    other j e = elim (cases_lt 0 (live (Commits t) (to_dir h.world j d))) [
      | inl l ↦ absurd (e (granted-once 1 gs t j n.core.0 k.all.owners.numbered ((k.all.spared j d).owner t (omega arith))
          (granted-at gs h.commits n k.all.owners.granted i)))
      | inr l ↦ omega arith
    ]

    one : sum_below (share (part_in Committed sh d t) h.world d) sh.cores ≡ live (Commits t) (to_dir h.world n.core.0 d)
    one = total-only (share (part_in Committed sh d t) h.world d) sh.cores n.core.0 (λ j l e. other j e)
        (λ l. omega (arith, (k.all.kept.told.tids.inside n.core.0 d).out l, few-any))

-- A commit that is noted by an event isn't applied anywhere yet.
pub few-resolves : (t : ℕ) (ms : List Msg) → among (Commits t) ms ≤ among (Resolves t) ms
unfolding among
few-resolves t [] = omega arith
few-resolves t (m ∷ ms) = omega (arith, of-resolves, few-resolves t ms)

-- a TID that a core has is of no commit yet
pub uncommitted : {sh : Shape} {gs : List Grant} {ys : Ways} {h : History} (c t : ℕ) → KeptRun sh gs ys h → c < sh.cores
    → has_tid (h.world.cores c).phase t ≡ true → times t h.commits ≡ 0
unfolding share holder pair
uncommitted {sh} {h} c t k l e = let one : num (has_tid (h.world.cores c).phase t) ≡ 1 = ap num e in
    omega (arith, k.all.owners.once t, total-le (share (holder t) h.world 0) sh.cores c l)

-- it sends a Commit to each directory where it stored
pub commit-sent : {sh : Shape} {gs : List Grant} {ys : Ways} {h : History} (c d : ℕ) {s : Out} {n : Noted} → KeptRun sh gs ys h
    → c < sh.cores → TellsCommit sh (h.world.cores c) s n → d < sh.dirs → stores_at sh d n.stores ≡ true
    → 1 ≤ among (Commits n.tid.0) (s.sends (Dir d))
commit-sent {sh} {h} c d {s} {n} k cl a dl e =
    let there : (b : Bool) → b ≡ true → (if b then Committed else Skipped) ≡ Committed = λ b q. rw q in
    go (told-committed (s.sends (Dir d)) n.tid.0 (live_way (h.world.cores c).phase (writes_at sh (h.world.cores c).cache d))
    (a.told d dl ∙ there (stores_at sh d n.stores) e))
  where
    go : (live_way (h.world.cores c).phase (writes_at sh (h.world.cores c).cache d) ≡ Committed)
        ⊎ (1 ≤ among (Commits n.tid.0) (s.sends (Dir d))) → 1 ≤ among (Commits n.tid.0) (s.sends (Dir d))
    go (inl q) =
        absurd (omega (
          arith,
          uncommitted c n.tid.0 k cl a.has,
          k.committed.only d n.tid.0 dl (k.live c d n.tid.0 cl dl a.has ∙ q),
        ))
    go (inr q) = q

pub new-commit : {sh : Shape} {gs : List Grant} {ys : Ways} {h : History} {x : Sends} {o : Stepped} → KeptRun sh gs ys h
    → ByCore sh h.world (Speaks sh h.world) x o → (n : Noted) (d : ℕ) → o.noted ≡ Some n → d < sh.dirs → stores_at sh d n.stores ≡ true
    → is_applied (h.world.dirs d) n.tid.0 ≡ false
unfolding share part part_in handled pair
new-commit k (Still e i q) n d z dl st = absurd (let y = sym q ∙ z in cc)
new-commit {sh} {h} k (Moved c s cl u f i q) n d z dl st = go (is_applied (h.world.dirs d) n.tid.0) refl
  where
    t : ℕ
    t = n.tid.0

    tells : TellsCommit sh (h.world.cores c) s n
    tells = of s.commit (sym q ∙ z) u.tells.commits
      where
        of : (a : Option Noted) → a ≡ Some n → IfSome a (TellsCommit sh (h.world.cores c) s) → TellsCommit sh (h.world.cores c) s n
        of a e y = rw e at y

    unhandled : num (is_applied (h.world.dirs d) t) ≤ 0
    unhandled = place (commit-sent c d k cl tells dl st)
      where
        place : 1 ≤ among (Commits t) (s.sends (Dir d)) → num (is_applied (h.world.dirs d) t) ≤ 0
        place l =
            omega (
              arith,
              few-resolves,
              u.untold d t dl,
              total-le
                  (share (part sh d t) h.world d) sh.cores c cl,
              k.all.kept.told.tids.resolved d t dl,
              applied-or,
            )

    go : (b : Bool) → is_applied (h.world.dirs d) t ≡ b → b ≡ false
    go false e = refl
    go true e = absurd (let y : num (is_applied (h.world.dirs d) t) ≡ 1 = ap num e in omega (arith, y, unhandled))
