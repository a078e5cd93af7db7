-- What is seen of a word is its value after all commits: its copy with the greatest tag is of the commit whose Commit is in flight, if any.
use Rattle.theorem_serial.proofs
use proofs.Names
use Names.{word_at-own, ℕ, zero, suc, ◌≡◌, ◌<◌, ◌≤◌, Bool, true, false, cond, max, ◌==◌, ◌&&◌, ◌||◌, List, [], ◌∷◌, length, Contains}
use Names.{Option, Some, None, slice_index_or, is_some, if◌then◌else◌, arith, refl, sym, ap, ◌∙◌, ◌⊎◌, inl, inr, Noted, num, line_of}
use Names.{place_of, word_at, has, hit, Msg, Shape, IsCache, is_dirty, dirty_tag, dirty_mask, has-mask_of, DirState, AboveOf, CopyMask}
use Names.{CopyWord, passes, IsRising, Pair, is_this, stores_word, after_stores, counts, after_commits, word_copies, wrote, wrote_mask}
use Names.{last_of, ◌+◌, map, nat_lt, nat_le, subst, order_of_commit, lines, seen, World, History, plain_start, copies_with}
use Names.{settled_in_line, Commits, CopyOf, live, Carried, CarriedInMemory, Grant, pair, SeenFollows, is_settled, is_applied, MarkedCommit}
use Names.{value_at, CopiesHave, HomeWords, CopiesAbove, Ways, Committed, names_line, wrote_line, nats, home_of, to_dir, grant_to, tested}
use proofs.Copies.{some-dirty, tag-of}
use proofs.Counts.{live-fewer}
use proofs.Memory.CoreHomes.{accesses_at_homes, line-has}
use proofs.Order.{Each, all_stores, home-below, each-listed, serial-holds}
use proofs.Tids.{numbered-least, granted-once, granted-at}
use proofs.Values.ValueAt.{Greatest, seen-greatest, after_stores-other}
use proofs.Values.WordCopies.{few-words, none-copied, few-copies, copy-has}

-- Facts on one word for what is seen of it: which commits stored it, and what its copies say of them.

-- values

-- where each commit that stored the word counts, its value is that after all of them
after-all : (base : ℕ) (s : DirState) (c b : Option ℕ) (x : ℕ) (ns : List Noted) (y : ℕ)
    → Each (λ n. (counts s c b n ≡ true) ⊎ (stores_word base n.stores x ≡ false)) ns
    → after_commits base s c b x ns y ≡ all_stores base x ns y
unfolding after_commits all_stores Each
after-all base s c b x [] y h = refl
after-all base s c b x (n ∷ ns) y h = ap (after_commits base s c b x ns) (one h.0)
    ∙ after-all base s c b x ns (after_stores base n.stores x y) h.1
  where
    silent : stores_word base n.stores x ≡ false → (k : Bool)
        → (if k then after_stores base n.stores x y else y) ≡ after_stores base n.stores x y
    silent e a = grind (nats, after_stores-other)

    one : (counts s c b n ≡ true) ⊎ (stores_word base n.stores x ≡ false)
        → (if counts s c b n then after_stores base n.stores x y else y) ≡ after_stores base n.stores x y
    one (inl e) = rw e
    one (inr e) = silent e (counts s c b n)

-- commits
above-first : (last : ℕ) (ns : List Noted) (n : Noted) → IsRising last ns → (k : ℕ) → k < length ns → slice_index_or ns k n ≡ n
    → last < n.tid.0
unfolding IsRising
above-first last [] n r k l e = absurd (omega arith)
above-first last (m ∷ ns) n r zero l e = let i : m ≡ n = e in let j : last < m.tid.0 = r.0 in rw i at j
above-first last (m ∷ ns) n r (suc k) l e = let i : last < m.tid.0 = r.0 in omega (arith, above-first m.tid.0 ns n r.1 k (omega arith) e)

-- a TID has one commit
pub one-commit : (last : ℕ) (ns : List Noted) (a b : Noted) → IsRising last ns → Contains ns a → Contains ns b → a.tid.0 ≡ b.tid.0 → a ≡ b
unfolding IsRising
one-commit last [] a b r i j e = absurd (omega arith)
one-commit last (m ∷ ns) a b r i j e = go i.0 i.1 i.2 j.0 j.1 j.2 (λ k l. one-commit m.tid.0 ns a b r.1 k l e)
  where
    go : (k : ℕ) → k < suc (length ns) → slice_index_or (m ∷ ns) k a ≡ a → (n : ℕ) → n < suc (length ns) → slice_index_or (m ∷ ns) n b ≡ b
        → (Contains ns a → Contains ns b → a ≡ b) → a ≡ b
    go a k p b n q f = grind (nats, above-first)

-- the commits that pass are below a TID
last-under : (p : Noted → Bool) (t : ℕ) (ns : List Noted) → 1 ≤ t → Each (λ n. p n ≡ true → n.tid.0 < t) ns → last_of p ns < t
unfolding last_of Each
last-under p t [] l h = l
last-under p t (n ∷ ns) l h = go (p n) h.0 (last-under p t ns l h.1)
  where
    go : (b : Bool) → (b ≡ true → n.tid.0 < t) → last_of p ns < t → max (cond b n.tid.0 0) (last_of p ns) < t
    go a f i = grind nats

-- a commit wrote the words that it stored
wrote-word : (base : ℕ) (ns : List Noted) (n : Noted) (x : ℕ) → Contains ns n → stores_word base n.stores x ≡ true
    → wrote base ns n.core.0 n.tid.0 x ≡ true
unfolding wrote
wrote-word base [] n x i s = absurd (omega arith)
wrote-word base (m ∷ ns) n x i s = go i.0 i.1 i.2 (λ k. wrote-word base ns n x k s)
  where
    c : (n.core.0 == n.core.0) ≡ true
    c = grind nats

    t : (n.tid.0 == n.tid.0) ≡ true
    t = grind nats

    either : (b : Bool) → (b || true) ≡ true
    either a = grind nats

    here : (m : Noted) → m ≡ n
        → (((m.core.0 == n.core.0) && ((m.tid.0 == n.tid.0) && stores_word base m.stores x)) || wrote base ns n.core.0 n.tid.0 x) ≡ true
    here m e = rw (e, c, t, s)

    go : (k : ℕ) → k < suc (length ns) → slice_index_or (m ∷ ns) k n ≡ n → (Contains ns n → wrote base ns n.core.0 n.tid.0 x ≡ true)
        → (((m.core.0 == n.core.0) && ((m.tid.0 == n.tid.0) && stores_word base m.stores x)) || wrote base ns n.core.0 n.tid.0 x) ≡ true
    go a l e f = grind nats

-- and where no commit with the TID stored the word none wrote it
pub wrote-none : (base : ℕ) (ns : List Noted) (c t x : ℕ) → Each (λ n. n.tid.0 ≡ t → stores_word base n.stores x ≡ false) ns
    → wrote base ns c t x ≡ false
unfolding wrote Each
wrote-none base [] c t x h = refl
wrote-none base (n ∷ ns) c t x h = rw (wrote-none base ns c t x h.1) (go (n.core.0 == c) (n.tid.0 == t) refl)
  where
    go : (a b : Bool) → (n.tid.0 == t) ≡ b → ((a && (b && stores_word base n.stores x)) || false) ≡ false
    go a b q = grind nats

mask-wrote : (base : ℕ) (ns : List Noted) (c t x : ℕ) → has (wrote_mask base ns c t (line_of x)) (place_of x) ≡ wrote base ns c t x
unfolding wrote_mask
mask-wrote base ns c t x = has-mask_of (λ k. wrote base ns c t (word_at (line_of x) k)) (place_of x) (omega arith)
    ∙ ap (wrote base ns c t) (word_at-own x)

outside : (x t n : ℕ) → has n (place_of x) ≡ false → (m : Msg) → num (passes (CopyWord x t) m) ≤ num (passes (CopyMask (line_of x) t n) m)
unfolding passes hit
outside x t n h a = grind nats

-- a word that wasn't written has none
pub unwritten-none : {sh : Shape} {ns : List Noted} {c : ℕ} (x : ℕ) {t : ℕ} {v : Pair} → IsCache sh v.core.cache
    → AboveOf sh.base ns c (line_of x) t v → wrote sh.base ns c t x ≡ false → word_copies x t v ≡ 0
unfolding word_copies dirty_mask
unwritten-none {sh} {ns} {c} x {t} {v} h a w =
    omega (
      arith,
      live-fewer (CopyWord x t) (CopyMask (line_of x) t (wrote_mask sh.base ns c t (line_of x)))
          (outside x t (wrote_mask sh.base ns c t (line_of x)) (mask-wrote sh.base ns c t x ∙ w)) v.out,
      framed (v.core.cache.dirty x) refl,
    )
  where
    same : (g : ℕ) → v.core.cache.dirty x ≡ Some g → g ≡ t → ⊥
    same g e i =
        let y : v.core.cache.dirty (word_at (line_of x) (place_of x)) ≡ Some g = rw (word_at-own x) e in
        let d : is_dirty v.core.cache (line_of x) ≡ true = some-dirty v.core.cache (line_of x) (place_of x) g (omega arith) y in
        let f : dirty_tag v.core.cache (line_of x) ≡ t = tag-of (line_of x) (place_of x) g h (omega arith) y ∙ i in
        let m : has (dirty_mask v.core.cache (line_of x)) (place_of x) ≡ false = ap (λ n. has n (place_of x)) (a.framed d f)
        ∙ (mask-wrote sh.base ns c t x ∙ w) in
        let s : has (dirty_mask v.core.cache (line_of x)) (place_of x) ≡ true =
        has-mask_of (λ k. is_some (v.core.cache.dirty (word_at (line_of x) k))) (place_of x) (omega arith) ∙ rw y in
        cc

    framed : (o : Option ℕ) → v.core.cache.dirty x ≡ o → num (is_this o t) ≡ 0
    framed None e = refl
    framed (Some g) e = go (g == t) refl
      where
        go : (b : Bool) → (g == t) ≡ b → num b ≡ 0
        go false q = refl
        go true q = absurd (same g e (grind nats))

-- What is seen of a word is its value after all commits: its copy with the greatest tag is of the commit whose Commit is in flight, if
-- that stored the word, and else it has the line's tag or is the word at home.

-- one of the first n has some, or none has
search : (f : ℕ → ℕ) (n : ℕ) → ((c : ℕ) × (c < n) × (1 ≤ f c)) ⊎ ((c : ℕ) → c < n → f c ≡ 0)
search f zero = inr (λ c l. absurd (omega arith))
search f (suc n) = go (nat_le 1 (f n)) refl (search f n)
  where
    go : (b : Bool) → nat_le 1 (f n) ≡ b → ((c : ℕ) × (c < n) × (1 ≤ f c)) ⊎ ((c : ℕ) → c < n → f c ≡ 0)
        → ((c : ℕ) × (c < suc n) × (1 ≤ f c)) ⊎ ((c : ℕ) → c < suc n → f c ≡ 0)
    go true q r = inl (n, omega arith, grind nats)
    go false q (inl r) = inl (r.0, omega arith, r.2)
    go false q (inr r) = inr (λ c l. last c l (c == n) refl)
      where
        last : (c : ℕ) → c < suc n → (b : Bool) → (c == n) ≡ b → f c ≡ 0
        last c l a e = grind nats

-- all that is known; the words are those after all commits
record Known (sh : Shape) (ram : ℕ → ℕ) (gs : List Grant) (ys : Ways) (ends : ℕ → ℕ) (h : History) : Type 0 where
  dirs : 1 ≤ sh.dirs
  carried : Carried sh gs ys h
  inside : CarriedInMemory sh h
  homes : HomeWords sh ram h.world h.commits
  above : CopiesAbove sh ram h.world h.commits
  words : (x : ℕ) → ends x ≡ all_stores sh.base x h.commits (ram x)

-- the word's home
abbrev at : Shape → World → ℕ → DirState
at sh w x = w.dirs (home_of sh x)

-- a Commit of the TID is in flight there
abbrev Flying : Shape → World → (word tid : ℕ) → Type 0
Flying sh w x t = (c : ℕ) × (c < sh.cores) × (1 ≤ live (Commits t) (to_dir w c (home_of sh x)))

is-applied : (s : DirState) (t : ℕ) → ((t < s.serving.serving) ⊎ ((s.serving.serving ≡ t) × (1 ≤ s.owed))) → is_applied s t ≡ true
unfolding is_applied
is-applied s t a = grind nats

-- a commit that stored the word is applied at its home, or on its way there
applied-or-flying : {sh : Shape} {ram : ℕ → ℕ} {gs : List Grant} {ys : Ways} {ends : ℕ → ℕ} {h : History} (x : ℕ) (n : Noted)
    → Known sh ram gs ys ends h → Contains h.commits n → stores_word sh.base n.stores x ≡ true
    → (is_applied (at sh h.world x) n.tid.0 ≡ true) ⊎ Flying sh h.world x n.tid.0
applied-or-flying {sh} {gs} {ys} {h} x n k i s = elim (search (λ c. live (Commits n.tid.0) (to_dir h.world c (home_of sh x))) sh.cores) [
  | inl f ↦ inr f
  | inr z ↦ inl (is-applied (at sh h.world x) n.tid.0 (k.carried.settled_tid_is_passed_or_owed d n.tid.0 (home-below sh x k.dirs) positive
      (record { committed = committed; handled = z })))
]
  where
    d : ℕ
    d = home_of sh x

    positive : 1 ≤ n.tid.0
    positive = numbered-least 1 gs (grant_to n.tid.0 n.core.0) k.carried.granted_tids_are_those_below_next.0
        (granted-at gs h.commits n k.carried.commits_are_of_granted_tids.1 i)

    committed : ys d n.tid.0 ≡ Committed
    committed = k.carried.committed_tid_is_given_up_where_it_stored_nothing.stored n d i (home-below sh x k.dirs)
        ∙ rw ((accesses_at_homes sh n.loads n.stores (k.inside.commits_stay_in_memory n i)).stored x s)

-- its value, where all that stored it count
all-value : {sh : Shape} {ram : ℕ → ℕ} {gs : List Grant} {ys : Ways} {ends : ℕ → ℕ} {h : History} (x : ℕ) (c : Option ℕ)
    → Known sh ram gs ys ends h
    → ((n : Noted) → Contains h.commits n → stores_word sh.base n.stores x ≡ true → counts (at sh h.world x) c None n ≡ true)
    → value_at sh.base ram h.commits (at sh h.world x) c None x ≡ ends x
unfolding value_at
all-value x c k f = grind (nats, after-all, each-listed)

-- where all commits that stored the word are applied, and no copy is above its line's tag
settled-word : {sh : Shape} {ram : ℕ → ℕ} {gs : List Grant} {ys : Ways} {ends : ℕ → ℕ} {h : History} {x : ℕ} → Known sh ram gs ys ends h
    → ((n : Noted) → Contains h.commits n → stores_word sh.base n.stores x ≡ true → is_applied (at sh h.world x) n.tid.0 ≡ true)
    → ((c g : ℕ) → c < sh.cores → (at sh h.world x).lines.tag (line_of x) < g → word_copies x g (pair h.world c (home_of sh x)) ≡ 0)
    → Greatest sh h.world x ((at sh h.world x).lines.tag (line_of x)) (ends x)
unfolding counts
settled-word {sh} {ram} {ends} {h} {x} k f none = record {
  none = none;
  have = λ c l. subst (λ y. CopiesHave x ((at sh h.world x).lines.tag (line_of x)) y (pair h.world c (home_of sh x))) value
      (k.homes.in_copies c (home_of sh x) x l (home-below sh x k.dirs) refl);
  line = omega arith;
  some = λ z. (refl, k.homes.at_home (home_of sh x) x (home-below sh x k.dirs) refl z ∙ value);
}
  where
    value : value_at sh.base ram h.commits (at sh h.world x) None None x ≡ ends x
    value = all-value x None k f

-- a word outside memory has no copy, and none stored it
outside-word : {sh : Shape} {ram : ℕ → ℕ} {gs : List Grant} {ys : Ways} {ends : ℕ → ℕ} (h : History) (x : ℕ) → Known sh ram gs ys ends h
    → (line_of x < lines sh → ⊥) → Greatest sh h.world x ((at sh h.world x).lines.tag (line_of x)) (ends x)
unfolding word_copies pair
outside-word {sh} h x k out = settled-word k (λ n i s. absurd (out ((k.inside.commits_stay_in_memory n i).stored x s)))
    (λ c g l t. omega (
      arith,
      few-words,
      sent c g
          (nat_le 1 (live (CopyOf (line_of x) g) (to_dir h.world c (home_of sh x)))) refl,
      framed c g ((h.world.cores c).cache.dirty x) refl,
    ))
  where
    sent : (c g : ℕ) (b : Bool) → nat_le 1 (live (CopyOf (line_of x) g) (to_dir h.world c (home_of sh x))) ≡ b
        → live (CopyOf (line_of x) g) (to_dir h.world c (home_of sh x)) ≡ 0
    sent c g a q = grind nats

    framed : (c g : ℕ) (o : Option ℕ) → (h.world.cores c).cache.dirty x ≡ o → num (is_this o g) ≡ 0
    framed c g a e = grind nats

-- a copy above the line's tag is of the served TID
above-none : {sh : Shape} {ram : ℕ → ℕ} {gs : List Grant} {ys : Ways} {ends : ℕ → ℕ} {h : History} (x c g : ℕ) → Known sh ram gs ys ends h
    → line_of x < lines sh → c < sh.cores → (at sh h.world x).lines.tag (line_of x) < g
    → live (Commits g) (to_dir h.world c (home_of sh x)) ≡ 0 → copies_with (line_of x) g (pair h.world c (home_of sh x)) ≡ 0
unfolding pair
above-none x c g k i l t z = grind nats

-- no Commit is on its way there
quiet-word : {sh : Shape} {ram : ℕ → ℕ} {gs : List Grant} {ys : Ways} {ends : ℕ → ℕ} (h : History) (x : ℕ) → Known sh ram gs ys ends h
    → line_of x < lines sh
    → ((c : ℕ) → c < sh.cores → live (Commits (at sh h.world x).serving.serving) (to_dir h.world c (home_of sh x)) ≡ 0)
    → Greatest sh h.world x ((at sh h.world x).lines.tag (line_of x)) (ends x)
unfolding pair
quiet-word {sh} h x k i z = settled-word k (λ n j s. applied n (applied-or-flying x n k j s))
    (λ c g l t. let y = few-copies x g (pair h.world c (home_of sh x)) (k.carried.frames_stand_in_their_sets c) in
    omega (arith, above-none x c g k i l t (still c g l (nat_le 1 (live (Commits g) (to_dir h.world c (home_of sh x)))) refl)))
  where
    never : (c t : ℕ) → c < sh.cores → 1 ≤ live (Commits t) (to_dir h.world c (home_of sh x)) → ⊥
    never c t l f =
        let e : (at sh h.world x).serving.serving ≡ t = k.carried.committing_tid_is_served c (home_of sh x) t l
        (home-below sh x k.dirs) f in
        let y : live (Commits t) (to_dir h.world c (home_of sh x)) ≡ 0 =
        subst (λ t. live (Commits t) (to_dir h.world c (home_of sh x)) ≡ 0) e (z c l) in
        omega arith

    still : (c g : ℕ) → c < sh.cores → (b : Bool) → nat_le 1 (live (Commits g) (to_dir h.world c (home_of sh x))) ≡ b
        → live (Commits g) (to_dir h.world c (home_of sh x)) ≡ 0
    still c g l a q = grind nats

    applied : (n : Noted) → (is_applied (at sh h.world x) n.tid.0 ≡ true) ⊎ Flying sh h.world x n.tid.0
        → is_applied (at sh h.world x) n.tid.0 ≡ true
    applied n a = grind nats

-- a commit of core c is on its way there
record Coming (sh : Shape) (h : History) (x c : ℕ) (n : Noted) : Type 0 where
  below : c < sh.cores
  sent : 1 ≤ live (Commits (at sh h.world x).serving.serving) (to_dir h.world c (home_of sh x))
  listed : Contains h.commits n
  tid : n.tid.0 ≡ (at sh h.world x).serving.serving
  core : n.core.0 ≡ c

-- it is the only one
only-coming : {sh : Shape} {ram : ℕ → ℕ} {gs : List Grant} {ys : Ways} {ends : ℕ → ℕ} {h : History} {x c : ℕ} (e : ℕ) {n : Noted}
    (m : Noted) → Known sh ram gs ys ends h → Coming sh h x c n → Contains h.commits m → e < sh.cores
    → 1 ≤ live (Commits m.tid.0) (to_dir h.world e (home_of sh x)) → m ≡ n
only-coming {sh} {h} {x} e {n} m k f i l s = one-commit 0 h.commits m n k.carried.commits_are_of_granted_tids.0 i f.listed
    (sym (k.carried.committing_tid_is_served e (home_of sh x) m.tid.0 l (home-below sh x k.dirs) s) ∙ sym f.tid)

coming-core : {sh : Shape} {ram : ℕ → ℕ} {gs : List Grant} {ys : Ways} {ends : ℕ → ℕ} (h : History) (x c e : ℕ) {n : Noted}
    → Known sh ram gs ys ends h → Coming sh h x c n → 1 ≤ live (Commits (at sh h.world x).serving.serving) (to_dir h.world e (home_of sh x))
    → e ≡ c
unfolding pair
coming-core {sh} {gs} h x c e k f s = granted-once 1 gs (at sh h.world x).serving.serving e c k.carried.granted_tids_are_those_below_next.0
    ((k.carried.no_inv_to_the_core_that_committed.0 e (home_of sh x)).owner (at sh h.world x).serving.serving s)
    ((k.carried.no_inv_to_the_core_that_committed.0 c (home_of sh x)).owner (at sh h.world x).serving.serving f.sent)

-- it didn't store the word
other-word : {sh : Shape} {ram : ℕ → ℕ} {gs : List Grant} {ys : Ways} {ends : ℕ → ℕ} (h : History) (x : ℕ) {c : ℕ} {n : Noted}
    → Known sh ram gs ys ends h → line_of x < lines sh → Coming sh h x c n → stores_word sh.base n.stores x ≡ false
    → Greatest sh h.world x ((at sh h.world x).lines.tag (line_of x)) (ends x)
unfolding pair
other-word {sh} h x {n} k i f s = settled-word k (λ m j t. applied m j t (applied-or-flying x m k j t))
    (λ e g l t. none e g l t (nat_le 1 (live (Commits g) (to_dir h.world e (home_of sh x)))) refl)
  where
    applied : (m : Noted) → Contains h.commits m → stores_word sh.base m.stores x ≡ true → (is_applied (at sh h.world x) m.tid.0 ≡ true)
        ⊎ Flying sh h.world x m.tid.0 → is_applied (at sh h.world x) m.tid.0 ≡ true
    applied m j t (inl e) = e
    applied m j t (inr y) = absurd (let o : stores_word sh.base m.stores x ≡ false = ap (λ z. stores_word sh.base z.stores x)
        (only-coming y.0 m k f j y.1 y.2) ∙ s in cc)

    none : (e g : ℕ) → e < sh.cores → (at sh h.world x).lines.tag (line_of x) < g → (b : Bool)
        → nat_le 1 (live (Commits g) (to_dir h.world e (home_of sh x))) ≡ b → word_copies x g (pair h.world e (home_of sh x)) ≡ 0
    none e g l t false q = let y = few-copies x g (pair h.world e (home_of sh x)) (k.carried.frames_stand_in_their_sets e) in
        let z : live (Commits g) (to_dir h.world e (home_of sh x)) ≡ 0 = grind nats in
        omega (arith, above-none x e g k i l t z)
    none e g l t true q =
        let z : 1 ≤ live (Commits g) (to_dir h.world e (home_of sh x)) = grind nats in
        let y : (at sh h.world x).serving.serving ≡ g = k.carried.committing_tid_is_served e (home_of sh x) g l
        (home-below sh x k.dirs) z in
        unwritten-none x (k.carried.frames_stand_in_their_sets e)
        (k.carried.copy_above_the_tag_is_of_a_commit_in_flight e (home_of sh x) (line_of x) g l (home-below sh x k.dirs) i refl t)
        (wrote-none sh.base h.commits e g x (each-listed (λ m. m.tid.0 ≡ g → stores_word sh.base m.stores x ≡ false) h.commits
        (λ m j u. ap (λ z. stores_word sh.base z.stores x)
        (one-commit 0 h.commits m n k.carried.commits_are_of_granted_tids.0 j f.listed (u ∙ (sym y ∙ sym f.tid))) ∙ s)))

-- it stored the word: its TID is the greatest
coming-below : {sh : Shape} {ram : ℕ → ℕ} {gs : List Grant} {ys : Ways} {ends : ℕ → ℕ} (h : History) (x c : ℕ) (n : Noted)
    → Known sh ram gs ys ends h → line_of x < lines sh → Coming sh h x c n
    → (at sh h.world x).lines.tag (line_of x) < (at sh h.world x).serving.serving
unfolding settled_in_line is_settled is_applied pair
coming-below {sh} {gs} h x c n k i f = subst (λ q. q < (at sh h.world x).serving.serving)
    (sym (k.carried.line_tag_is_the_last_settled_writer (home_of sh x) (line_of x) (home-below sh x k.dirs) i refl))
    (last-under (settled_in_line sh h.world (home_of sh x) (line_of x)) (at sh h.world x).serving.serving h.commits positive
    (each-listed (λ m. settled_in_line sh h.world (home_of sh x) (line_of x) m ≡ true
    → m.tid.0 < (at sh h.world x).serving.serving) h.commits below))
  where
    positive : 1 ≤ (at sh h.world x).serving.serving
    positive = numbered-least 1 gs (grant_to (at sh h.world x).serving.serving c) k.carried.granted_tids_are_those_below_next.0
        ((k.carried.no_inv_to_the_core_that_committed.0 c (home_of sh x)).owner (at sh h.world x).serving.serving f.sent)

    stands : (m : Noted) → Contains h.commits m → names_line sh.base m.stores (line_of x) ≡ true
        → live (Commits m.tid.0) (to_dir h.world m.core.0 (home_of sh x)) + num (is_applied (at sh h.world x) m.tid.0) ≡ 1
    stands m j e = k.carried.commit_is_on_its_way_or_applied m (home_of sh x) j (home-below sh x k.dirs)
        ((accesses_at_homes sh m.loads m.stores (k.inside.commits_stay_in_memory m j)).in_line (line_of x) e).1

    -- the served one isn't settled
    served : (m : Noted) → Contains h.commits m → m.tid.0 ≡ (at sh h.world x).serving.serving
        → live (Commits m.tid.0) (to_dir h.world m.core.0 (home_of sh x)) ≡ 0 → ⊥
    served m j e z =
        let o : m ≡ n = one-commit 0 h.commits m n k.carried.commits_are_of_granted_tids.0 j f.listed (e ∙ sym f.tid) in
        let q : m.core.0 ≡ c = ap (λ y. y.core.0) o ∙ f.core in
        let y : live (Commits (at sh h.world x).serving.serving) (to_dir h.world c (home_of sh x)) ≡ 0 =
        subst (λ t. live (Commits t) (to_dir h.world c (home_of sh x)) ≡ 0) e
        (subst (λ b. live (Commits m.tid.0) (to_dir h.world b (home_of sh x)) ≡ 0) q z) in
        omega arith

    below : (m : Noted) → Contains h.commits m → settled_in_line sh h.world (home_of sh x) (line_of x) m ≡ true
        → m.tid.0 < (at sh h.world x).serving.serving
    below m j e = go (live (Commits m.tid.0) (to_dir h.world m.core.0 (home_of sh x)) == 0) refl
        (names_line sh.base m.stores (line_of x)) refl e
      where
        last : live (Commits m.tid.0) (to_dir h.world m.core.0 (home_of sh x)) ≡ 0
            → num (is_applied (at sh h.world x) m.tid.0) ≡ 1 → (a : Bool) → nat_lt m.tid.0 (at sh h.world x).serving.serving ≡ a
            → (b : Bool) → (m.tid.0 == (at sh h.world x).serving.serving) ≡ b → m.tid.0 < (at sh h.world x).serving.serving
        last z o true p b q = grind nats
        last z o false p true q = absurd (served m j (grind nats) z)
        last z o false p false q = absurd (let y : is_applied (at sh h.world x) m.tid.0 ≡ false = rw (p, q) in
            let w : num (is_applied (at sh h.world x) m.tid.0) ≡ 0 = ap num y in omega arith)

        go : (a : Bool) → (live (Commits m.tid.0) (to_dir h.world m.core.0 (home_of sh x)) == 0) ≡ a → (b : Bool)
            → names_line sh.base m.stores (line_of x) ≡ b → (a && b) ≡ true → m.tid.0 < (at sh h.world x).serving.serving
        go true p true q w = let z : live (Commits m.tid.0) (to_dir h.world m.core.0 (home_of sh x)) ≡ 0 =
            grind nats in last z (omega (arith, stands)) (nat_lt m.tid.0 (at sh h.world x).serving.serving) refl
            (m.tid.0 == (at sh h.world x).serving.serving) refl
        go true p false q w = absurd (cc)
        go false p b q w = absurd (cc)

stored-word : {sh : Shape} {ram : ℕ → ℕ} {gs : List Grant} {ys : Ways} {ends : ℕ → ℕ} (h : History) (x : ℕ) {c : ℕ} {n : Noted}
    → Known sh ram gs ys ends h → line_of x < lines sh → Coming sh h x c n → stores_word sh.base n.stores x ≡ true
    → Greatest sh h.world x (at sh h.world x).serving.serving (ends x)
unfolding counts wrote_line pair
stored-word {sh} {ram} {ends} h x {c} {n} k i f s = record {
  none = λ e g l t. let y = few-copies x g (pair h.world e (home_of sh x)) (k.carried.frames_stand_in_their_sets e) in
      omega (
        arith,
        above-none x e g k i l (omega (arith, below))
            (later e g l t (nat_le 1 (live (Commits g) (to_dir h.world e (home_of sh x)))) refl),
      );
  have = λ e l. have e l (nat_le 1 (live (Commits (at sh h.world x).serving.serving) (to_dir h.world e (home_of sh x)))) refl;
  line = omega (arith, below);
  some = λ z. absurd (omega (arith, z, copied));
}
  where
    below : (at sh h.world x).lines.tag (line_of x) < (at sh h.world x).serving.serving
    below = coming-below h x c n k i f

    later : (e g : ℕ) → e < sh.cores → (at sh h.world x).serving.serving < g → (b : Bool)
        → nat_le 1 (live (Commits g) (to_dir h.world e (home_of sh x))) ≡ b → live (Commits g) (to_dir h.world e (home_of sh x)) ≡ 0
    later e g l u a q = grind nats

    counted : (m : Noted) → Contains h.commits m → (is_applied (at sh h.world x) m.tid.0 ≡ true) ⊎ Flying sh h.world x m.tid.0
        → (is_this (Some c) m.core.0 || is_applied (at sh h.world x) m.tid.0) ≡ true
    counted m j (inl e) = rw e ((elim (is_this (Some c) m.core.0) as (λ b. (b || true) ≡ true) [ true ↦ refl | false ↦ refl ]))
    counted m j (inr y) = let o : m.core.0 ≡ c = ap (λ z. z.core.0) (only-coming y.0 m k f j y.1 y.2)
        ∙ f.core in let q : (c == m.core.0) ≡ true = grind nats in rw q

    value : value_at sh.base ram h.commits (at sh h.world x) (Some c) None x ≡ ends x
    value = all-value x (Some c) k (λ m j u. counted m j (applied-or-flying x m k j u))

    have : (e : ℕ) → e < sh.cores → (b : Bool)
        → nat_le 1 (live (Commits (at sh h.world x).serving.serving) (to_dir h.world e (home_of sh x))) ≡ b
        → CopiesHave x (at sh h.world x).serving.serving (ends x) (pair h.world e (home_of sh x))
    have e l true q =
        let o : e ≡ c = coming-core h x c e k f (grind nats) in
        subst (λ y. CopiesHave x (at sh h.world x).serving.serving y (pair h.world e (home_of sh x)))
        (ap (λ j. value_at sh.base ram h.commits (at sh h.world x) (Some j) None x) o ∙ value)
        (k.above e (home_of sh x) x (at sh h.world x).serving.serving l (home-below sh x k.dirs) refl below)
    have e l false q = none-copied x (at sh h.world x).serving.serving (ends x) (pair h.world e (home_of sh x))
        (k.carried.frames_stand_in_their_sets e) (above-none x e (at sh h.world x).serving.serving k i l below (grind nats))

    written : wrote sh.base h.commits c (at sh h.world x).serving.serving x ≡ true
    written = subst (λ j. wrote sh.base h.commits c j x ≡ true) f.tid
        (subst (λ j. wrote sh.base h.commits j n.tid.0 x ≡ true) f.core (wrote-word sh.base h.commits n x f.listed s))

    kept : AboveOf sh.base h.commits c (line_of x) (at sh h.world x).serving.serving (pair h.world c (home_of sh x))
    kept = k.carried.copy_above_the_tag_is_of_a_commit_in_flight c (home_of sh x) (line_of x)
        (at sh h.world x).serving.serving f.below (home-below sh x k.dirs) i refl below

    line : wrote_line sh.base h.commits c (at sh h.world x).serving.serving (line_of x) ≡ true
    line = line-has (wrote sh.base h.commits c (at sh h.world x).serving.serving) x written

    one : copies_with (line_of x) (at sh h.world x).serving.serving (pair h.world c (home_of sh x)) ≡ live
        (Commits (at sh h.world x).serving.serving) (to_dir h.world c (home_of sh x))
    one = kept.one ∙ rw line

    copied : 1 ≤ word_copies x (at sh h.world x).serving.serving (pair h.world c (home_of sh x))
    copied = omega (
      arith,
      f.sent,
      one,
      copy-has x (at sh h.world x).serving.serving
          (wrote_mask sh.base h.commits c (at sh h.world x).serving.serving (line_of x)) (pair h.world c (home_of sh x))
          (k.carried.frames_stand_in_their_sets c)
          (mask-wrote sh.base h.commits c (at sh h.world x).serving.serving x ∙ written) kept.framed kept.sent,
    )

-- any word
coming : {sh : Shape} (h : History) (x : ℕ) {c : ℕ} → c < sh.cores
    → 1 ≤ live (Commits (at sh h.world x).serving.serving) (to_dir h.world c (home_of sh x))
    → (m : MarkedCommit sh h.commits c (home_of sh x) (at sh h.world x).serving.serving (pair h.world c (home_of sh x)))
    → Coming sh h x c m.commit
coming h x l s m = record { below = l; sent = s; listed = m.noted; tid = m.tid; core = m.core }

word-seen : (sh : Shape) (ram : ℕ → ℕ) (gs : List Grant) (ys : Ways) (ends : ℕ → ℕ) (h : History) (x : ℕ) → Known sh ram gs ys ends h
    → seen sh h.world x ≡ ends x
unfolding pair
word-seen sh ram gs ys ends h x k = elim (tested (nat_lt (line_of x) (lines sh))) [
  | inl q ↦ flying (grind nats) (search (λ c. live (Commits (at sh h.world x).serving.serving) (to_dir h.world c (home_of sh x))) sh.cores)
  | inr q ↦ seen-greatest (outside-word h x k (λ l. absurd (let y : nat_lt (line_of x) (lines sh) ≡ true = grind nats in cc)))
]
  where
    flying : line_of x < lines sh
        → ((c : ℕ) × (c < sh.cores) × (1 ≤ live (Commits (at sh h.world x).serving.serving) (to_dir h.world c (home_of sh x))))
        ⊎ ((c : ℕ) → c < sh.cores → live (Commits (at sh h.world x).serving.serving) (to_dir h.world c (home_of sh x)) ≡ 0)
        → seen sh h.world x ≡ ends x
    flying i (inr z) = seen-greatest (quiet-word h x k i z)
    flying i (inl f) = word (k.carried.marks_sent_are_the_lines_stored.2 f.0 (home_of sh x) (at sh h.world x).serving.serving).sent
      where
        by : (m : MarkedCommit sh h.commits f.0 (home_of sh x) (at sh h.world x).serving.serving (pair h.world f.0 (home_of sh x)))
            → (b : Bool) → stores_word sh.base m.commit.stores x ≡ b → seen sh h.world x ≡ ends x
        by m true s = seen-greatest (stored-word h x k i (coming h x f.1 f.2 m) s)
        by m false s = seen-greatest (other-word h x k i (coming h x f.1 f.2 m) s)

        word : (f.0 < sh.cores → home_of sh x < sh.dirs
            → 1 ≤ live (Commits (at sh h.world x).serving.serving) (to_dir h.world f.0 (home_of sh x))
            → MarkedCommit sh h.commits f.0 (home_of sh x) (at sh h.world x).serving.serving
            (pair h.world f.0 (home_of sh x))) → seen sh h.world x ≡ ends x
        word g = let m = g f.1 (home-below sh x k.dirs) f.2 in by m (stores_word sh.base m.commit.stores x) refl

pub seen_follows : SeenFollows
unfolding plain_start
seen_follows sh p entries ram gs ys m h d k i homes above serial x = word-seen sh ram gs ys m.ram h x (record {
  dirs = d;
  carried = k;
  inside = i;
  homes = homes;
  above = above;
  words = λ x. rw serial at (serial-holds sh.base p 0 (map order_of_commit h.commits) (plain_start entries ram) x);
})
