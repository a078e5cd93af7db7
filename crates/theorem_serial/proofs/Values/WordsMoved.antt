-- What a core's event does to the values of a word, where nothing is committed: its copies with the line's tag or a larger one stay; then
-- that home words stay current.
use Rattle.theorem_serial.specs.KeepsHomes.{EventsKeepHomes}
use Rattle.theorem_serial.proofs
use proofs.Names
use Names.{if_recorded, got, ℕ, ◌+◌, ◌%◌, ◌≡◌, ◌<◌, ◌≤◌, ◌==◌, ◌++◌, Bool, true, false, not, List, Option, Some, None, arith, refl, ap, sym}
use Names.{subst, ◌∙◌, Noted, num, line_of, has_mark, Dir, Vendor, Msg, Inv, Shape, home, lines, World, sent_all, Out, History, core_moves}
use Names.{core_takes, CopyOf, CopyWord, CopyNot, Invs, InvOf, InvsAway, live, among, passes, due, Pair, pair, share, after_move}
use Names.{grant_taken, back_taken, is_this, SettledCommit, value_at, word_copies, CopiesHave, copies_with, nats, home_of, to_core, FromDir}
use Names.{tested, inl, inr, moved_by, taken_by, IfSome, Plain, Local, Program, Event, CoreState, dir_deliver, Stepped, step, next_history}
use Names.{and_noted, Uses, Suits, Invariants, Grant, Ways, zero, suc, ◌||◌, cond, is_some, unwrap_or, DirState, noted, insert_commit, sees}
use Names.{AboveOf, Commits, is_applied, stores_word, after_stores, counts, wrote_line, grant, CommitsStand, to_dir, ◌≢◌}
use proofs.Copies.{inv-tag-of, Invalidating, untagged}
use proofs.Counts.{live-sends, total-le, AllPairs, pairs_move, pairs_grant, pairs_back, either, moves-own, moves-other, node_cases}
use proofs.Tids.{live-some}
use proofs.Values.WordCopies.{WordBack, Carried as CarriedBack, Lost, few-copies, among-words, among-others, WordCarried, Carries}
use proofs.Values.WordCopies.{CommitsWord, CommitsWords, commits-exec, Uncommitted, Quietly, words-exec, words-evict, words-grant}
use proofs.Values.WordCopies.{words-back, dir-words, few-others, none-copied}
use proofs.Values.HomesAnswered.{mask-inside, answered, granted, known}
use proofs.Values.ValueAt.{Known, value_of, tag_of, KeptValues, ValuesAt, values-of, from-values, IsSilent, value-skip}
use proofs.Marks.DirRecords.{dir-records}
use proofs.OneCore.{CheckpointStays, grant-stays, back-stays}
use proofs.Order.{each-listed, Stand, stand}
use proofs.Values.FramedCores.{Closing, Framing, Stays, Closes, framing-exec}
use proofs.Values.ModifiedWords.{value-own, value-else, Serves, stored-served, stored-seen, times-listed}
use proofs.Values.SeenWords.{wrote-none, unwritten-none}

-- the word has as many copies with tag g, and each copy its value
pub record Alike (x g : ℕ) (a b : Pair) : Type 0 where
  pub copies : word_copies x g b ≡ word_copies x g a
  pub have : (t y : ℕ) → CopiesHave x t y a → CopiesHave x t y b

-- between core c and directory d, where the word is at home there
abbrev pub AlikeAt : Shape → World → (core dir : ℕ) → Pair → Type 0
AlikeAt sh w c d v = (x : ℕ) → c < sh.cores → d < sh.dirs → home_of sh x ≡ d → Alike x (tag_of w d x) (pair w c d) v

still-alike : (sh : Shape) (w : World) → AllPairs (AlikeAt sh w) w
still-alike sh w c d x cl dl e = record { copies = refl; have = λ t y h. h }

-- so all values are as they were
pub alike-keeps : {sh : Shape} {ram : ℕ → ℕ} {w : World} (v : World) {cs : List Noted} → v.dirs ≡ w.dirs → AllPairs (AlikeAt sh w) v
    → KeptValues sh ram w cs → KeptValues sh ram v cs
alike-keeps {sh} {ram} {w} v {cs} f a k d x dl e = record {
  at_home = λ p. ap (λ z. (z d).words x) f ∙ (k d x dl e).at_home (λ c cl. sym (a c d x cl dl e).copies ∙ rw tag at (p c cl))
      ∙ sym (value None);
  in_copies = λ c cl. subst (λ y. CopiesHave x (tag_of v d x) y (pair v c d)) (sym (value None))
      (rw tag ((a c d x cl dl e).have (tag_of w d x) (value_of sh ram w cs d None x) ((k d x dl e).in_copies c cl)));
  above = λ c t cl i. subst (λ y. CopiesHave x t y (pair v c d)) (sym (value (Some c)))
      ((a c d x cl dl e).have t (value_of sh ram w cs d (Some c) x) ((k d x dl e).above c t cl (rw tag at i)));
}
  where
    tag : tag_of v d x ≡ tag_of w d x
    tag = ap (λ z. (z d).lines.tag (line_of x)) f

    value : (c : Option ℕ) → value_of sh ram v cs d c x ≡ value_of sh ram w cs d c x
    value c = ap (λ z. value_at sh.base ram cs (z d) c None x) f

-- the core and what it sent, as the pair has them
pub record Moved (o : Out) (d : ℕ) (a b : Pair) : Type 0 where
  pub core : b.core ≡ o.core
  pub out : b.out ≡ a.out ++ sent_all (o.sends (Dir d))

carried-alike : {sh : Shape} {x d : ℕ} (g : ℕ) {o : Out} (a b : Pair) → home_of sh x ≡ d → WordCarried sh x a.core o → Moved o d a b
    → Alike x g a b
unfolding word_copies
carried-alike {x} {d} g {o} a b e h m = record { copies = copies; have = have }
  where
    copies : num (is_this (b.core.cache.dirty x) g) + live (CopyWord x g) b.out ≡ num (is_this (a.core.cache.dirty x) g) + live
        (CopyWord x g) a.out
    copies = rw (m.core, m.out) (let y : num (is_this (o.core.cache.dirty x) g) + among (CopyWord x g) (o.sends (Dir d)) ≡ num
        (is_this (a.core.cache.dirty x) g) = rw e at (h.copies g) in
        omega (arith, live-sends))

    have : (t y : ℕ) → CopiesHave x t y a → CopiesHave x t y b
    have t y q = record {
      framed = λ r. (let f = h.framed t (sym (ap (λ c. c.cache.dirty x) m.core) ∙ r) in ap (λ c. c.cache.value x) m.core ∙ f.1
          ∙ q.framed f.0);
      sent = rw m.out (let z : among (CopyNot x t y) (o.sends (Dir d)) ≡ 0 = rw e at (h.sent t y q.framed) in
          omega (arith, live-sends));
    }

-- an invalidation of a line of which the core has no copy with its tag
lost-alike : (sh : Shape) (x d : ℕ) {g : ℕ} (o : Out) {a : Pair} (b : Pair) → word_copies x g a ≡ 0
    → ((t : ℕ) → o.core.cache.dirty x ≡ Some t → (a.core.cache.dirty x ≡ Some t) × (o.core.cache.value x ≡ a.core.cache.value x))
    → ((t : ℕ) → among (CopyOf (line_of x) t) (o.sends (Dir d)) ≡ 0) → Moved o d a b → Alike x g a b
unfolding word_copies
lost-alike sh x d {g} o {a} b n f z m = record { copies = copies; have = have }
  where
    fewer : (y : Option ℕ) → o.core.cache.dirty x ≡ y → num (is_this y g) ≤ num (is_this (a.core.cache.dirty x) g)
    fewer a q = grind nats

    copies : num (is_this (b.core.cache.dirty x) g) + live (CopyWord x g) b.out ≡ num (is_this (a.core.cache.dirty x) g) + live
        (CopyWord x g) a.out
    copies =
        rw (m.core, m.out) (omega (arith, fewer (o.core.cache.dirty x) refl, z g, among-words, live-sends))

    have : (t y : ℕ) → CopiesHave x t y a → CopiesHave x t y b
    have t y q = record {
      framed = λ r. (let h = f t (sym (ap (λ c. c.cache.dirty x) m.core) ∙ r) in ap (λ c. c.cache.value x) m.core ∙ h.1 ∙ q.framed h.0);
      sent =
          rw m.out (omega (arith, z, among-words, among-others, live-sends));
    }

-- an invalidation comes from the line's home
inv-home : (sh : Shape) (ram : ℕ → ℕ) (h : History) (c e k l m u : ℕ) → Known sh ram h → FromDir h.world e c k (Inv l m u) → home sh l ≡ e
unfolding passes
inv-home sh ram h c e k l m u b i = elim (tested (home sh l == e)) [
  | inl q ↦ grind nats
  | inr q ↦ absurd (let n : num (not ((l % sh.dirs) == e)) ≡ 1 = rw q in
      omega (arith, live-some (InvsAway sh.dirs e) (to_core h.world e c) k (Inv l m u) i, b.invs.at_home c e))
]

-- and of a line in memory, for it is marked
inv-inside : {sh : Shape} {ram : ℕ → ℕ} (h : History) (c d k l m u : ℕ) → Known sh ram h → c < sh.cores → d < sh.dirs
    → FromDir h.world d c k (Inv l m u) → l < lines sh
unfolding pair passes due share
inv-inside {sh} h c d k l m u b cl dl i =
    let owed : 1 ≤ (h.world.dirs d).owed = omega (arith, invs, b.invs.owed d, total-le (share due h.world d) sh.cores c cl) in
    let n : SettledCommit sh h.commits d (h.world.dirs d) = (b.stored 0 d 0).settled dl owed in
    mask-inside sh d l n.commit.stores (n.marks l) (marked (has_mark (h.world.dirs d).lines l) refl)
  where
    invs : 1 ≤ live Invs (to_core h.world d c)
    invs = omega (arith, live-some Invs (to_core h.world d c) k (Inv l m u) i)

    marked : (y : Bool) → has_mark (h.world.dirs d).lines l ≡ y → y ≡ true
    marked true q = refl
    marked false q = absurd (let y : (l == l) ≡ true = grind nats in let z : num (l == l) ≡ 1 = rw y in
        let w : num (has_mark (h.world.dirs d).lines l) ≡ 0 = ap num q in
        omega (arith, live-some (InvOf l) (to_core h.world d c) k (Inv l m u) i, (b.named c d l cl dl).one))

-- the core that it goes to has no copy of the word with the line's tag, for it isn't the owner
none-with-tag : {sh : Shape} {ram : ℕ → ℕ} (h : History) (c d k x m u : ℕ) → Known sh ram h → c < sh.cores → d < sh.dirs
    → line_of x < lines sh → home_of sh x ≡ d → FromDir h.world d c k (Inv (line_of x) m u)
    → word_copies x (tag_of h.world d x) (pair h.world c d) ≡ 0
unfolding pair
none-with-tag {sh} h c d k x m u b cl dl ll e i = let y = b.owned c d (line_of x) cl dl ll e in
    omega (
      arith,
      y,
      mine ((h.world.dirs d).lines.owner (line_of x)) refl,
      few-copies x (tag_of h.world d x) (pair h.world c d)
          (b.caches c),
    )
  where
    t : Invalidating sh h c d (line_of x)
    t = inv-tag-of sh h c d k (line_of x) m u b.invs.owed b.named b.stored b.stand b.tags cl dl ll e i

    mine : (o : Option ℕ) → (h.world.dirs d).lines.owner (line_of x) ≡ o → num (is_this o c) ≡ 0
    mine None q = refl
    mine (Some o) q = which (o == c) refl
      where
        which : (y : Bool) → (o == c) ≡ y → num y ≡ 0
        which false r = refl
        which true r = absurd (let z : o ≡ c = grind nats in
            omega (arith, t.sent, b.spared c d (line_of x) dl (q ∙ ap (λ n. Some n) z) t.tag))

-- a core moves, takes a grant, takes a message of a directory
pub moved-alike : {sh : Shape} (w : World) (c : ℕ) {o : Out} → Carries sh (w.cores c) o → AllPairs (AlikeAt sh w) (core_moves w c o)
unfolding pair
moved-alike {sh} w c {o} h = pairs_move (AlikeAt sh w) w c o
    (λ d x cl dl e. carried-alike (tag_of w d x) (pair w c d) (after_move (pair w c d) o d) e (h x)
    (record { core = refl; out = refl })) (still-alike sh w)

pub granted-alike : (sh : Shape) (w : World) (c k : ℕ) (o : Out) → Carries sh (w.cores c) o
    → AllPairs (AlikeAt sh w) (core_takes w Vendor c k o)
unfolding pair
granted-alike sh w c k o h = pairs_grant (AlikeAt sh w) w c k o
    (λ d x cl dl e. carried-alike (tag_of w d x) (pair w c d) (after_move (grant_taken (pair w c d) k) o d) e (h x)
    (record { core = refl; out = refl })) (still-alike sh w)

taken-one : {sh : Shape} {ram : ℕ → ℕ} (h : History) (c e d k x : ℕ) {m : Msg} (o : Out) (v : Pair) → Known sh ram h → c < sh.cores
    → d < sh.dirs → home_of sh x ≡ d → FromDir h.world e c k m → WordBack sh x (h.world.cores c) m o → Moved o d (pair h.world c d) v
    → Alike x (tag_of h.world d x) (pair h.world c d) v
unfolding pair
taken-one h c e d k x o v b cl dl q i (CarriedBack y) n = carried-alike (tag_of h.world d x) (pair h.world c d) v q y n
taken-one {sh} {ram} h c e d k x o v b cl dl q i (Lost p u r f z) n =
    let j : FromDir h.world e c k (Inv (line_of x) p u) = i ∙ ap (λ y. Some y) r in
    let w : d ≡ e = sym q ∙ inv-home sh ram h c e k (line_of x) p u b j in
    lost-alike sh x d o v (none-with-tag h c d k x p u b cl dl (inv-inside h c d k (line_of x) p u b cl dl (rw w j)) q (rw w j)) f
    (λ t. rw q at (z t)) n

pub taken-alike : {sh : Shape} {ram : ℕ → ℕ} (h : History) (c e k : ℕ) {m : Msg} (o : Out) → Known sh ram h → FromDir h.world e c k m
    → ((x : ℕ) → WordBack sh x (h.world.cores c) m o) → AllPairs (AlikeAt sh h.world) (core_takes h.world (Dir e) c k o)
unfolding pair
taken-alike {sh} h c e k o b i f = pairs_back (AlikeAt sh h.world) h.world e c k o
    (λ x cl dl q. taken-one h c e e k x o (after_move (back_taken (pair h.world c e) k) o e) b cl dl q i (f x)
    (record { core = refl; out = refl })) (λ d n x cl dl q. taken-one h c e d k x o (after_move (pair h.world c d) o d) b cl dl q i (f x)
    (record { core = refl; out = refl })) (still-alike sh h.world)

-- Every event keeps the values of home words and of copies on their way home.

-- A core's commit keeps the values of home words and of copies: its new copies have the words as their core sees them.

-- one pair

-- a word that the commit didn't store has the copies that it had
unstored-alike : {sh : Shape} (x d : ℕ) {g u : ℕ} (o : Out) {v : Pair} → CommitsWord sh x u v.core.cache v.core.spilled o
    → v.core.cache.modified x ≡ false → v.core.spilled x ≡ None → Alike x g v (after_move v o d)
unfolding word_copies
unstored-alike x d {g} o {v} w m z = record {
  copies = rw a.0 (omega (arith, a.1.1, live-sends));
  have = λ t y q. record {
    framed = λ r. a.1.0 ∙ q.framed (sym a.0 ∙ r);
    sent = omega (arith, a.1.1, among-others, live-sends);
  };
}
  where
    a : (o.core.cache.dirty x ≡ v.core.cache.dirty x)
        × ((o.core.cache.value x ≡ v.core.cache.value x) × ((k e : ℕ) → among (CopyWord x k) (o.sends (Dir e)) ≡ 0))
    a = w.left m z

-- one that it stored has those of other TIDs
pub record Others (x g : ℕ) (a b : Pair) : Type 0 where
  pub copies : word_copies x g b ≡ word_copies x g a
  pub have : (y : ℕ) → CopiesHave x g y a → CopiesHave x g y b

stored-others : {sh : Shape} (x d g : ℕ) {u : ℕ} (o : Out) {v : Pair} → CommitsWord sh x u v.core.cache v.core.spilled o
    → (v.core.cache.modified x || is_some (v.core.spilled x)) ≡ true → v.core.cache.dirty x ≡ None → u ≢ g → Others x g v (after_move v o d)
unfolding word_copies
stored-others x d g o {v} w m z n = record {
  copies = rw z (omega (arith, clean (o.core.cache.dirty x) refl, w.sent g d n, live-sends));
  have = λ y q. record {
    framed = λ r. absurd (n (sym (w.framed g m r).0));
    sent = omega (arith, w.sent, among-others, live-sends);
  };
}
  where
    clean : (k : Option ℕ) → o.core.cache.dirty x ≡ k → num (is_this k g) ≡ 0
    clean a q = grind nats

-- and new ones of the commit, as the core sees it
new-copies : (sh : Shape) (x d u y : ℕ) (ram : ℕ → ℕ) (o : Out) (v : Pair) → CommitsWord sh x u v.core.cache v.core.spilled o
    → (v.core.cache.modified x || is_some (v.core.spilled x)) ≡ true
    → (v.core.cache.modified x ≡ true → is_some (v.core.cache.value x) ≡ true) → word_copies x u v ≡ 0 → sees v.core ram x ≡ y
    → CopiesHave x u y (after_move v o d)
unfolding word_copies sees
new-copies sh x d u y ram o v w m valid none s = record {
  framed = λ r. (let f = w.framed u m r in f.1.1 ∙ framed (v.core.cache.value x) refl f.1.0);
  sent =
      omega (arith, few-others, w.right y d (spilled (v.core.spilled x) refl), live-sends);
}
  where
    spilled : (k : Option ℕ) → v.core.spilled x ≡ k → unwrap_or k y ≡ y
    spilled a q = grind nats

    modified : (b : Bool) (k : Option ℕ) → (b || is_some k) ≡ true → k ≡ None → b ≡ true
    modified a k e q = grind nats

    framed : (k : Option ℕ) → v.core.cache.value x ≡ k → v.core.spilled x ≡ None → k ≡ Some y
    framed a q z = grind nats

-- a commit that isn't applied counts for no home
counts-none : (s : DirState) (c t : ℕ) (r : CoreState) → s.serving.serving ≡ t → s.owed ≡ 0 → counts s None None (noted t c r) ≡ false
unfolding counts is_applied noted
counts-none s c t r e z = rw (e, z) (grind nats)

-- all pairs

-- a core's copies of the word: those with tag g, which have the value y, and those above it, which have the value z
record CoreKeeps (x g y z : ℕ) (a b : Pair) : Type 0 where
  copies : word_copies x g b ≡ word_copies x g a
  tagged : CopiesHave x g y b
  above : (t : ℕ) → g < t → CopiesHave x t z b

commit-keeps : {sh : Shape} {p : Program} {entries : ℕ → Local} {ram : ℕ → ℕ} {gs : List Grant} {ys : Ways} {views : ℕ
    → Uses} {m : Plain} (h : History) (c : ℕ) (o : Out) → Suits sh p ram → Invariants sh p entries ram gs ys views m h → c < sh.cores
    → Closing c (h.world.cores c) o → CommitsWords sh (h.world.cores c) o
    → KeptValues sh ram (core_moves h.world c o) (and_noted o.commit h.commits)
unfolding core_moves noted pair
commit-keeps {sh} {ram} {ys} h c o u k l g f =
    subst (λ q. KeptValues sh ram (core_moves h.world c o) (and_noted q h.commits)) (sym g.commit)
    (λ d x dl e. subst (λ d. ValuesAt sh ram (core_moves h.world c o) cs d x) e (at-home x (rw e dl)))
  where
    w : World
    w = h.world

    s : CoreState
    s = w.cores c

    new : Noted
    new = noted g.tid c g.last

    cs : List Noted
    cs = insert_commit new h.commits

    st : Stand sh h ys c g.tid
    st = stand u k l g.phase

    word : (x : ℕ) → CommitsWord sh x g.tid s.cache s.spilled o
    word x = f new g.commit x

    old : KeptValues sh ram w h.commits
    old = values-of k.home_words_are_current k.copy_above_the_tag_has_the_committed_words

    served : (x : ℕ) → stores_word sh.base s.stores x ≡ true → Serves sh h c g.tid x
    served x e = stored-served c g.tid x u k l g.phase e

    unstored : (x : ℕ) → stores_word sh.base s.stores x ≡ false → stores_word sh.base g.last.stores x ≡ false
    unstored x q = ap (λ y. stores_word sh.base y x) g.stores ∙ q

    -- the commit makes nothing of the word at home
    quiet : (x : ℕ) (b : Bool) → stores_word sh.base s.stores x ≡ b → IsSilent sh.base (w.dirs (home_of sh x)) None None x new
    quiet x true q = let y = served x q in inl (counts-none (w.dirs (home_of sh x)) c g.tid g.last y.serving y.owed)
    quiet x false q = inr (unstored x q)

    own : (x : ℕ) → home_of sh x < sh.dirs → (b : Bool) → stores_word sh.base s.stores x ≡ b
        → CoreKeeps x (tag_of w (home_of sh x) x) (value_of sh ram w h.commits (home_of sh x) None x)
        (value_of sh ram w cs (home_of sh x) (Some c) x) (pair w c (home_of sh x)) (after_move (pair w c (home_of sh x)) o (home_of sh x))
    own x dl false q = record {
      copies = a.copies;
      tagged = a.have (tag_of w d x) _ ((old d x dl refl).in_copies c l);
      above = λ t i. a.have t _ (subst (λ y. CopiesHave x t y (pair w c d))
          (sym (value-skip sh.base ram new h.commits (w.dirs d) (Some c) None x (inr (unstored x q)))) ((old d x dl refl).above c t l i));
    }
      where
        d : ℕ
        d = home_of sh x

        none : (i : Bool) (j : Option ℕ) {b : Bool} → (i || is_some j) ≡ b → b ≡ false → (i ≡ false) × (j ≡ None)
        none false None e z = (refl, refl)
        none false (Some y) e z = absurd (cc)
        none true j e z = absurd (cc)

        a : Alike x (tag_of w d x) (pair w c d) (after_move (pair w c d) o d)
        a = let y = none (s.cache.modified x) (s.spilled x) (k.carried.stored_words_are_those_named c x) q
            in unstored-alike x d o (word x) y.0 y.1
    own x dl true q = record {
      copies = (others (tag_of w d x) untag).copies;
      tagged = (others (tag_of w d x) untag).have _ ((old d x dl refl).in_copies c l);
      above = λ t i. either t g.tid (λ r. rw r (new-copies sh x d g.tid _ seen.0 o (pair w c d) (word x) named
          ((k.carried.modified_and_dirty_words_are_valid_and_apart c).modified x) (fresh (rw r at i))
          (seen.1 ∙ sym (value-own x u k l g q)))) (λ r. (others t (λ y. r (sym y))).have _
          (none-copied x t _ (pair w c d) (k.carried.frames_stand_in_their_sets c) (no-other t i r)));
    }
      where
        d : ℕ
        d = home_of sh x

        inside : line_of x < lines sh
        inside = (k.carried_in_memory.attempts_stay_in_memory c).accesses.stored x q

        named : (s.cache.modified x || is_some (s.spilled x)) ≡ true
        named = k.carried.stored_words_are_those_named c x ∙ q

        clean : (b : Bool) → s.cache.modified x ≡ b → (z : Option ℕ) → s.spilled x ≡ z → (b || is_some z) ≡ true → s.cache.dirty x ≡ None
        clean b r a z e = grind nats

        others : (t : ℕ) → g.tid ≢ t → Others x t (pair w c d) (after_move (pair w c d) o d)
        others t n = stored-others x d t o (word x) named (clean (s.cache.modified x) refl (s.spilled x) refl named) n

        untag : g.tid ≡ tag_of w d x → ⊥
        untag = untagged sh h d (line_of x) g.tid k.carried.line_tag_is_the_last_settled_writer dl inside refl st.positive st.fresh

        seen : (r : ℕ → ℕ) × (sees s r x ≡ after_stores sh.base s.stores x (value_of sh ram w h.commits d (Some c) x))
        seen = stored-seen c g.tid x u k l g.phase q

        above : (t : ℕ) → tag_of w d x < t → AboveOf sh.base h.commits c (line_of x) t (pair w c d)
        above t i = k.carried.copy_above_the_tag_is_of_a_commit_in_flight c d (line_of x) t l dl inside refl i

        fresh : tag_of w d x < g.tid → word_copies x g.tid (pair w c d) ≡ 0
        fresh i = unwritten-none x (k.carried.frames_stand_in_their_sets c) (above g.tid i)
            (wrote-none sh.base h.commits c g.tid x (each-listed (λ n. n.tid.0 ≡ g.tid → stores_word sh.base n.stores x ≡ false) h.commits
            (λ n i e. absurd (omega (arith, st.fresh, times-listed g.tid h.commits n i e)))))

        unsent : (t : ℕ) → t ≢ g.tid → (y : ℕ) → live (Commits t) (to_dir w c d) ≡ y → y ≡ 0
        unsent t n zero e = refl
        unsent t n (suc y) e = absurd (n (sym (k.carried.committing_tid_is_served c d t l dl (omega arith)) ∙ (served x q).serving))

        no-other : (t : ℕ) → tag_of w d x < t → t ≢ g.tid → copies_with (line_of x) t (pair w c d) ≡ 0
        no-other t i n = (above t i).one ∙ rw (unsent t n (live (Commits t) (to_dir w c d)) refl)
            (which (wrote_line sh.base h.commits c t (line_of x)))
          where
            which : (b : Bool) → cond {A = ℕ} b 0 0 ≡ 0
            which true = refl
            which false = refl

    at-home : (x : ℕ) → home_of sh x < sh.dirs → ValuesAt sh ram (core_moves w c o) cs (home_of sh x) x
    at-home x dl = record {
      at_home = λ q. (old d x dl refl).at_home (λ j jl. sym (each j jl).copies ∙ q j jl) ∙ sym same;
      in_copies = λ j jl. subst (λ y. CopiesHave x (tag_of w d x) y (pair (core_moves w c o) j d)) (sym same) (each j jl).tagged;
      above = λ j t jl i. (each j jl).above t i;
    }
      where
        d : ℕ
        d = home_of sh x

        same : value_of sh ram w cs d None x ≡ value_of sh ram w h.commits d None x
        same = value-skip sh.base ram new h.commits (w.dirs d) None None x (quiet x (stores_word sh.base s.stores x) refl)

        each : (j : ℕ) → j < sh.cores
            → CoreKeeps x (tag_of w d x) (value_of sh ram w h.commits d None x) (value_of sh ram w cs d (Some j) x) (pair w j d)
            (pair (core_moves w c o) j d)
        each j jl = either j c
            (λ q. rw q (subst (CoreKeeps x (tag_of w d x) (value_of sh ram w h.commits d None x) (value_of sh ram w cs d (Some c) x)
            (pair w c d)) (sym (moves-own w c o d)) (own x dl (stores_word sh.base s.stores x) refl)))
            (λ n. subst (CoreKeeps x (tag_of w d x) (value_of sh ram w h.commits d None x) (value_of sh ram w cs d (Some j) x) (pair w j d))
            (sym (moves-other w c o j d n)) (record {
              copies = refl;
              tagged = (old d x dl refl).in_copies j jl;
              above = λ t i. subst (λ y. CopiesHave x t y (pair w j d)) (sym (value-else j x u k l g n)) ((old d x dl refl).above j t jl i);
            }))

-- Every event that commits nothing keeps the values of home words and of copies on their way home.

-- what is shown of an event
abbrev KeepsValues : Shape → (ram : ℕ → ℕ) → History → Stepped → Type 0
KeepsValues sh ram h o = CommitsStand sh o.world (and_noted o.noted h.commits) → KeptValues sh ram o.world (and_noted o.noted h.commits)

step-values : {sh : Shape} (p : Program) {entries : ℕ → Local} {ram : ℕ → ℕ} {gs : List Grant} {ys : Ways} {views : ℕ → Uses} (m : Plain)
    (h : History) (e : Event) → Suits sh p ram → Invariants sh p entries ram gs ys views m h
    → IfSome (step sh p h.world e) (KeepsValues sh ram h)
unfolding core_moves core_takes
step-values {sh} p {entries} {ram} {gs} {ys} {views} m h e u k = node_cases sh p w e (λ x g o. KeepsValues sh ram h o)
    (λ c o eq l. executed c l o (got _ eq (framing-exec sh p c (w.cores c)))
    (got _ eq (commits-exec sh p c (w.cores c) (b.caches c) (k.carried.marks_fit_the_phase c).spilled))
    (got _ eq (words-exec sh p c (w.cores c) (b.caches c))))
    (λ c x y o eq l. evicted c o (got _ eq (words-evict sh x y (w.cores c) (b.caches c))))
    (λ c n t i. let o = grant sh t (w.cores c) in quietly (grant-stays sh t (w.cores c)).commit
    (alike-keeps (core_takes w Vendor c n o) refl (granted-alike sh w c n o (words-grant sh t (w.cores c))) b.values))
    (λ c d n a o eq i. taken c d n i o (got _ eq (back-stays sh d (w.cores c) a))
    (λ y. got _ eq (words-back sh y d (w.cores c) a (b.caches c))))
    (λ c d n a cl dl i. answered h c d n (dir_deliver sh (w.dirs d) c a) b cl dl i (dir-records sh (w.dirs d) c a)
    (λ x. dir-words sh x (w.dirs d) c a)) (λ c n a i s. granted h c n a b)
  where
    w : World
    w = h.world

    b : Known sh ram h
    b = known sh p entries ram gs ys views m h k

    quietly : {n : Option Noted} {v : World} → n ≡ None → KeptValues sh ram v h.commits
        → KeepsValues sh ram h (record { world = v; noted = n })
    quietly e f = rw e (λ s. f)

    executed : (c : ℕ) → c < sh.cores → (o : Out) → Framing c (w.cores c) o → CommitsWords sh (w.cores c) o → Uncommitted sh (w.cores c) o
        → KeepsValues sh ram h (moved_by w c o)
    executed c l o (Stays n f) g a = quietly n (alike-keeps (core_moves w c o) refl (moved-alike w c (a n)) b.values)
    executed c l o (Closes f) g a = λ s. commit-keeps h c o u k l f g

    evicted : (c : ℕ) (o : Out) → Quietly sh (w.cores c) o → KeepsValues sh ram h (moved_by w c o)
    evicted c o a = quietly a.0 (alike-keeps (core_moves w c o) refl (moved-alike w c a.1) b.values)

    taken : (c d n : ℕ) {a : Msg} → FromDir w d c n a → (o : Out) → CheckpointStays (w.cores c) o
        → ((y : ℕ) → WordBack sh y (w.cores c) a o) → KeepsValues sh ram h (taken_by w (Dir d) c n o)
    taken c d n i o r f = quietly r.commit (alike-keeps (core_takes w (Dir d) c n o) refl (taken-alike h c d n o b i f) b.values)

pub homes_kept : EventsKeepHomes
unfolding next_history
homes_kept sh p entries ram gs ys views m h e u k = if_recorded _ h (step sh p h.world e)
    (λ o eq c. from-values (got _ eq (step-values p m h e u k) c.commit_is_on_its_way_or_applied))
