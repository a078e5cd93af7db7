-- What a core that may commit has made of a word: its stores over the word as the core sees it; then that frames and Fills keep their
-- values.
use Rattle.theorem_serial.specs.KeepsWords.{EventsKeepWords}
use Rattle.theorem_attempt.proofs.Lemmas.{sees-modified}
use Rattle.theorem_serial.proofs
use proofs.Names
use Names.{if_recorded, got, ℕ, suc, ◌+◌, ◌≡◌, ◌<◌, ◌≤◌, ◌⊎◌, Bool, true, false, ◌==◌, ◌||◌, List, [], ◌∷◌, map, length, slice_index_or}
use Names.{Contains, Option, Some, None, IfSome, IsSomeAnd, is_some, arith, sym, subst, ◌∙◌, inl, inr, cases_eq, cases_lt, Noted}
use Names.{order_of_commit, Attempt, Plain, serial, begun, steps, Local, Program, num, writes_at, Shape, CoreState, DirState, Phase, Ready}
use Names.{Solo, Halted, is_solo, History, Uses, Agrees, Reaches, sees, Suits, MarkedAtHomes, plain_start, Invariants, Grant, times, pair}
use Names.{is_applied, opens, stores_word, IsMemory, after_stores, counts, value_at, Settled, Ways, ap, nats, home_of, tid_at, moved_by}
use Names.{nothing, taken_by, unnoted, eq-self as same, not, ◌&&◌, refl, line_of, IsCache, Msg, Core, LoadReq, lines, World, Sends, Answer}
use Names.{Waits, Drops, Asks, Takes, dir_takes, dir_asks, KeptAfter, KeptOwned, stored_there, FillOf, FillNot, LoadOf, LoadNot, Commits}
use Names.{live, among, passes, CommitsInMemory, LoadsInMemory, is_this, CommitsStand, stores_at, word_copies, HomeWords, last_of, to_dir}
use Names.{to_core, FromCore, ◌≢◌, tested, nat_lt, get_or, Dir, Vendor, Fill, Commit, Event, home, Awaited, Out, noted, grant, is_awaited}
use Names.{dir_deliver, Stepped, step, next_history, and_noted, insert_commit, core_moves, core_takes, LoadingOf, LinesAway, InvWord}
use Names.{executes, Pair, after_move, back_taken, grant_taken, UnmodifiedWords, FilledWords, FromDir}
use proofs.Memory.CoreHomes.{marks_at_homes, accesses_at_homes}
use proofs.OneCore.{follows-in}
use proofs.Order.{serial-memory, home-below, agrees-before, value-before, before, behind, cut-joined, SerialCut, Holds, serial-cut}
use proofs.Order.{serial-holds, steps-hold, all_stores, May, may-bound, may-commits, Stand, stand, view-stands, uses-reached, fits-aligned}
use proofs.Values.ValueAt.{value-alike, IsAlike, IsSilent, with_commit, value-skip, value-insert}
use proofs.Counts.{differ, either, asks-own, OfAnswer, moves-own, moves-other, pairs_move, pairs_grant, pairs_back, pairs_vendor}
use proofs.Counts.{node_cases}
use proofs.Lines.LineOwners.{FillsBy, dir-fills}
use proofs.Tids.{last-least, live-some}
use proofs.Values.FramedWords.{KeptHeld, few-sent, held-answered, value-stays, FillsHome, value-taken, steady-taken, held-taken, held-asked}
use proofs.Values.FramedWords.{HeldOf, HeldAt, few-not, load-home, answered-commit, commit-invalidates}
use proofs.Values.WordCopies.{few-copies}
use proofs.Values.FramedCores.{no-fill, held-fades, held-quietly, held-invalid, held-filled, held-elsewhere, Coming, Quiet}
use proofs.Values.FramedCores.{Takes as TakesWords, Brings, OnlyFades, comes-back, fading-grant, Closing, Framing, Stays, Closes}
use proofs.Values.FramedCores.{fades-same, fading, framing-exec, fading-evict}
use proofs.Counts.{gift, after_gift, after_other_gift}

-- the home of a word that the core stored serves its TID, and is owed nothing
opens-may : (t : ℕ) (q : Phase) (b : Bool) → May t q → (is_solo q ≡ false → b ≡ true) → opens q b t ≡ true
unfolding opens
opens-may t q b a h = grind nats

-- a stored word is modified, unless the core is alone
stored-modified : (m : Bool) {o : Option ℕ} {b : Bool} → (m || is_some o) ≡ b → b ≡ true → o ≡ None → m ≡ true
stored-modified a e f g = grind nats

pub record Serves (sh : Shape) (h : History) (c t x : ℕ) : Type 0 where
  pub serving : tid_at h.world (home_of sh x) ≡ t
  pub owed : (h.world.dirs (home_of sh x)).owed ≡ 0

pub stored-served : {sh : Shape} {p : Program} {entries : ℕ → Local} {ram : ℕ → ℕ} {gs : List Grant} {ys : Ways} {views : ℕ
    → Uses} {m : Plain} {h : History} (c t x : ℕ) → Suits sh p ram → Invariants sh p entries ram gs ys views m h → c < sh.cores
    → May t (h.world.cores c).phase → stores_word sh.base (h.world.cores c).stores x ≡ true → Serves sh h c t x
stored-served {sh} {ys} {h} c t x u k l y e = record { serving = serving; owed = none (cases_lt 0 (h.world.dirs d).owed) }
  where
    s : CoreState
    s = h.world.cores c

    d : ℕ
    d = home_of sh x

    dl : d < sh.dirs
    dl = home-below sh x u.dirs

    st : Stand sh h ys c t
    st = stand u k l y

    marked : MarkedAtHomes sh s.cache
    marked = marks_at_homes sh s.cache (k.carried.frames_stand_in_their_sets c) (k.carried_in_memory.frames_are_of_lines_in_memory c)

    writes : is_solo s.phase ≡ false → writes_at sh s.cache d ≡ true
    writes q = marked.modified x (stored-modified (s.cache.modified x)
        (k.carried.stored_words_are_those_named c x) e ((k.carried.marks_fit_the_phase c).spilled q x))

    serving : tid_at h.world d ≡ t
    serving = k.carried.directory_that_replied_serves_the_tid.serves c d t l dl (opens-may t s.phase (writes_at sh s.cache d) y writes)
        (k.carried.directory_that_replied_serves_the_tid.replied c d l dl (may-commits t s.phase y).0)

    none : (0 < (h.world.dirs d).owed) ⊎ ((h.world.dirs d).owed ≤ 0) → (h.world.dirs d).owed ≡ 0
    none (inr q) = omega arith
    none (inl q) =
        absurd (let z : Settled sh ys h.world d t = k.carried.owed_only_where_settled d t dl st.positive serving (omega arith) in
        let a = z.committed in let b = st.untold x e in cc)

-- a listed commit counts once
pub times-listed : (t : ℕ) (cs : List Noted) (n : Noted) → Contains cs n → n.tid.0 ≡ t → 1 ≤ times t cs
unfolding times
times-listed t [] n k e = absurd (omega arith)
times-listed t (x ∷ cs) n k e = go k.0 k.1 k.2 (λ j. times-listed t cs n j e)
  where
    go : (i : ℕ) → i < suc (length cs) → slice_index_or (x ∷ cs) i n ≡ n → (Contains cs n → 1 ≤ times t cs)
        → 1 ≤ num (x.tid.0 == t) + times t cs
    go a l q f = grind nats

-- its value for the core is that at its TID
counts-until : (s : DirState) (c t : ℕ) (n : Noted) → s.serving.serving ≡ t → s.owed ≡ 0 → (n.core.0 ≡ c → n.tid.0 < t)
    → counts s (Some c) (Some t) n ≡ counts s (Some c) None n
unfolding counts is_applied
counts-until s c t n e z own = grind nats

-- A word that the core stored is, in its frame or spilled, what the stores make of the value that the core sees: sees takes no other
-- memory for it.
pub stored-seen : {sh : Shape} {p : Program} {entries : ℕ → Local} {ram : ℕ → ℕ} {gs : List Grant} {ys : Ways} {views : ℕ
    → Uses} {m : Plain} {h : History} (c t x : ℕ) → Suits sh p ram → Invariants sh p entries ram gs ys views m h → c < sh.cores
    → May t (h.world.cores c).phase → stores_word sh.base (h.world.cores c).stores x ≡ true
    → (r : ℕ → ℕ) × (sees (h.world.cores c) r x ≡ after_stores sh.base (h.world.cores c).stores x
    (value_at sh.base ram h.commits (h.world.dirs (home_of sh x)) (Some c) None x))
unfolding plain_start pair
stored-seen {sh} {p} {entries} {ram} {ys} {views} {m} {h} c t x u k l y e =
    (cut.start.ram, go (steps sh.base p s.n (begun s.saved cut.start.ram)) follows (steps-hold sh.base p s.n s.saved cut.start.ram x))
  where
    s : CoreState
    s = h.world.cores c

    dir : DirState
    dir = h.world.dirs (home_of sh x)

    st : Stand sh h ys c t
    st = stand u k l y

    served : Serves sh h c t x
    served = stored-served c t x u k l y e

    cut : SerialCut sh.base p 0 (before t h.commits) (behind t h.commits) (plain_start entries ram) m
    cut = serial-cut sh.base p 0 (before t h.commits) (behind t h.commits) (plain_start entries ram) m
        (subst (λ q. serial sh.base p 0 (map order_of_commit q) (plain_start entries ram) ≡ Some (m, q)) (cut-joined t h.commits)
        k.commits_are_serial)

    small : IsMemory cut.start.ram
    small = rw cut.first at (serial-memory sh.base p 0 (map order_of_commit (before t h.commits)) (plain_start entries ram)
        (fits-aligned p u.fits) u.small)

    words : (x : ℕ) → cut.start.ram x ≡ all_stores sh.base x (before t h.commits) (ram x)
    words x = rw cut.first at (serial-holds sh.base p 0 (map order_of_commit (before t h.commits)) (plain_start entries ram) x)

    agrees : Agrees (views c) cut.start.ram
    agrees = agrees-before sh ram cut.start.ram h.world h.commits c t (views c) u.dirs k.carried.commits_are_of_granted_tids.0 st.fresh
        words (k.carried.owed_counts_invs_and_acks.served c) (uses-reached sh h ys c t true (views c) st
        (view-stands t (h.world.cores c) (views c) st.may (k.carried_views.read_marks_are_the_view c).stand))
        (λ d i. k.viewed_word_is_current_or_doomed c d (Some t) l i (may-bound h.world c d t st.may))

    runs : (q : Phase) → May t q → q ≡ Halted → ⊥
    runs q (inl i) j = absurd (let a : Ready t ≡ Halted = sym i ∙ j in cc)
    runs q (inr i) j = absurd (let a : Solo t ≡ Halted = sym i ∙ j in cc)

    follows : IsSomeAnd (steps sh.base p s.n (begun s.saved cut.start.ram)) (Reaches s cut.start.ram)
    follows = follows-in sh p s (views c) s.phase (runs s.phase y) (k.carried_views.attempt_follows_from_its_view c).steps cut.start.ram
        small agrees

    smaller : (n : Noted) → Contains h.commits n → n.core.0 ≡ c → n.tid.0 < t
    smaller n i q = elim (cases_eq n.tid.0 t) [
      | inl f ↦ absurd (omega (arith, st.fresh, f, times-listed t h.commits n i f))
      | inr f ↦ omega (arith, st.last)
    ]

    current : cut.start.ram x ≡ value_at sh.base ram h.commits dir (Some c) None x
    current = words x ∙ (sym (value-before sh.base ram h.commits dir (Some c) t x k.carried.commits_are_of_granted_tids.0 st.fresh
        (omega (arith, served.serving))) ∙ value-alike sh.base ram h.commits dir (Some c) (Some t) dir (Some c) None x
        (λ n i. inl (counts-until dir c t n served.serving served.owed (smaller n i))))

    go : (o : Option Attempt) → IsSomeAnd o (Reaches s cut.start.ram) → IfSome o (Holds sh.base x (cut.start.ram x))
        → sees s cut.start.ram x ≡ after_stores sh.base s.stores x (value_at sh.base ram h.commits dir (Some c) None x)
    go None f g = absurd f
    go (Some a) f g = sym (f.words x) ∙ (g ∙ (ap (λ q. after_stores sh.base q x (cut.start.ram x)) f.stores
        ∙ ap (after_stores sh.base s.stores x) current))

-- Each event keeps that words in frames and Fills have their values, or are invalidated.

-- Where a directory takes a message, each word in a frame or a Fill has its value still, or is invalidated.

-- messages that are neither a load request nor a Commit
none-among : (x y : ℕ) → among (FillNot x y) [] ≡ 0
unfolding among
none-among x y = refl

taken-quietly : {sh : Shape} (ram : ℕ → ℕ) (w : World) (cs : List Noted) (c d k : ℕ) {m : Msg} (s : DirState) (sends : Sends)
    → CommitsInMemory sh cs → CommitsStand sh w cs → KeptHeld sh ram w cs → FromCore w c d k m → ((t : ℕ) → passes (Commits t) m ≡ false)
    → ((j x y : ℕ) → among (FillNot x y) (sends (Core j)) ≡ 0) → CommitsStand sh (dir_takes w c d k s sends) cs
    → KeptHeld sh ram (dir_takes w c d k s sends) cs
unfolding pair
taken-quietly {sh} ram w cs c d k s sends inside before h i p f after = held-taken sh ram w cs c d k s sends
    (λ j x out jl dl e. held-answered out s (sends (Core j)) (value-taken sh ram w cs c d k s sends (Some j) x inside before after dl e
    (λ n q r. steady-taken w c d k s sends (Some j) n i p)) (f j x _) (h j d x jl dl e)) h

-- where an owner is asked
value-asked : {sh : Shape} (ram : ℕ → ℕ) (w : World) (cs : List Noted) {d : ℕ} (s : DirState) (sends : Sends) (j : Option ℕ) (x : ℕ)
    → CommitsInMemory sh cs → CommitsStand sh w cs → CommitsStand sh (dir_asks w d s sends) cs → d < sh.dirs → home_of sh x ≡ d
    → value_at sh.base ram cs s j None x ≡ value_at sh.base ram cs (w.dirs d) j None x
unfolding pair
value-asked {sh} ram w cs {d} s sends j x inside before after dl e =
    subst (λ r. value_at sh.base ram cs r j None x ≡ value_at sh.base ram cs (w.dirs d) j None x) (ap (λ v. v.dir) (asks-own w d s sends 0))
    (value-stays ram w (dir_asks w d s sends) cs j x inside before after dl e
    (λ n q r. inr (ap (λ v. live (Commits n.tid.0) v.out) (asks-own w d s sends n.core.0))))

answered-quietly : {sh : Shape} (ram : ℕ → ℕ) (w : World) (cs : List Noted) (c d k : ℕ) {m : Msg} → CommitsInMemory sh cs
    → CommitsStand sh w cs → KeptHeld sh ram w cs → FromCore w c d k m → ((t : ℕ) → passes (Commits t) m ≡ false)
    → ((l : ℕ) → passes (LoadOf l) m ≡ false) → (a : Answer) → FillsBy c m a
    → OfAnswer w c d k (λ v. CommitsStand sh v cs → KeptHeld sh ram v cs) a
answered-quietly ram w cs c d k inside before h i p l Waits f = tt
answered-quietly ram w cs c d k inside before h i p l Drops f = λ after. taken-quietly ram w cs c d k (w.dirs d)
    nothing inside before h i p (λ j x y. none-among x y) after
answered-quietly {sh} ram w cs c d k inside before h i p l (Asks s sends) f =
    λ after. held-asked sh ram w cs d s sends (λ j x dl e. value-asked ram w cs s sends (Some j) x inside before after dl e)
    (λ j x y. omega (arith, few-sent, f)) h
answered-quietly ram w cs c d k inside before h i p l (Takes s sends) f =
    λ after. taken-quietly ram w cs c d k s sends inside before h i p
    (λ j x y. omega (arith, few-sent, f (line_of x) j, none (j == c) (l (line_of x)))) after
  where
    none : (a : Bool) {b : Bool} → b ≡ false → num (a && b) ≡ 0
    none true e = rw e
    none false e = refl

-- a load request

-- a commit below the served TID counts for all cores alike
counts-passed : (s : DirState) (c : ℕ) (n : Noted) → ((c == n.core.0) ≡ true → n.tid.0 < s.serving.serving)
    → counts s None None n ≡ counts s (Some c) None n
unfolding counts is_applied
counts-passed s c n h = grind nats

commit-passed : (sh : Shape) (cs : List Noted) (c d : ℕ) {a : ℕ} (b : ℕ) (n : Noted) → Contains cs n → stores_at sh d n.stores ≡ true
    → a ≡ last_of (stored_there sh c d) cs → a < b → (c == n.core.0) ≡ true → n.tid.0 < b
unfolding stored_there
commit-passed sh cs c d b n k s e l q =
    let i : (n.core.0 == c) ≡ true = grind nats in
    omega (arith, last-least (stored_there sh c d) cs n k (rw (i, s)))

-- The word at home is as the core sees it, where its line has no owner and the core's last commit there is passed.
home-word : (sh : Shape) (ram : ℕ → ℕ) (w : World) (cs : List Noted) (c d x : ℕ) → CommitsInMemory sh cs → KeptOwned sh w
    → HomeWords sh ram w cs → KeptAfter sh w cs → ((j : ℕ) → IsCache sh (w.cores j).cache) → c < sh.cores → d < sh.dirs
    → line_of x < lines sh → home_of sh x ≡ d → (w.dirs d).lines.owner (line_of x) ≡ None → (w.cores c).last_commit d < tid_at w d
    → (w.dirs d).words x ≡ value_at sh.base ram cs (w.dirs d) (Some c) None x
unfolding pair
home-word sh ram w cs c d x inside owned words after caches cl dl il e o p = words.at_home d x dl e none
    ∙ value-alike sh.base ram cs (w.dirs d) None None (w.dirs d) (Some c) None x (λ n k. alike n k (stores_word sh.base n.stores x) refl)
  where
    unowned : (j : ℕ) → num (is_this ((w.dirs d).lines.owner (line_of x)) j) ≡ 0
    unowned j = rw o

    none : (j : ℕ) → j < sh.cores → word_copies x ((w.dirs d).lines.tag (line_of x)) (pair w j d) ≡ 0
    none j jl = omega (arith, few-copies x ((w.dirs d).lines.tag (line_of x)) (pair w j d) (caches j), owned, unowned)

    alike : (n : Noted) → Contains cs n → (b : Bool) → stores_word sh.base n.stores x ≡ b
        → IsAlike sh.base (w.dirs d) None None (w.dirs d) (Some c) None x n
    alike n k false s = inr s
    alike n k true s = inl (counts-passed (w.dirs d) c n (commit-passed sh cs c d (tid_at w d) n k
        (rw e at ((accesses_at_homes sh n.loads n.stores (inside n k)).stored x s)) (after c d cl dl).last p))

-- a load request carries the core's last commit there
carried-after : {sh : Shape} (w : World) {cs : List Noted} (c d k l a : ℕ) → KeptAfter sh w cs → c < sh.cores → d < sh.dirs
    → FromCore w c d k (LoadReq l a) → (w.cores c).last_commit d ≡ a
unfolding pair passes
carried-after w c d k l a h cl dl i = elim (tested (a == (w.cores c).last_commit d)) [
  | inl q ↦ grind nats
  | inr q ↦ let z : num (not (a == (w.cores c).last_commit d)) ≡ 1 = rw q in
      absurd (omega (arith, (h c d cl dl).carried, live-some (LoadNot ((w.cores c).last_commit d)) (to_dir w c d) k (LoadReq l a) i))
]

answered-load : {sh : Shape} {ram : ℕ → ℕ} (w : World) {cs : List Noted} (c d k : ℕ) {l a : ℕ} → CommitsInMemory sh cs
    → CommitsStand sh w cs → KeptHeld sh ram w cs → KeptOwned sh w → HomeWords sh ram w cs → KeptAfter sh w cs
    → ((j : ℕ) → IsCache sh (w.cores j).cache) → LoadsInMemory sh w → c < sh.cores → d < sh.dirs → FromCore w c d k (LoadReq l a)
    → (b : Answer) → FillsBy c (LoadReq l a) b → FillsHome c l a (w.dirs d) b
    → OfAnswer w c d k (λ v. CommitsStand sh v cs → KeptHeld sh ram v cs) b
unfolding pair passes
answered-load w c d k inside before h owned words last caches loads cl dl i Waits f g = tt
answered-load {ram} w {cs} c d k inside before h owned words last caches loads cl dl i Drops f g =
    λ after. taken-quietly ram w cs c d k (w.dirs d) nothing inside before h i (λ t. refl) (λ j x y. none-among x y) after
answered-load {sh} {ram} w {cs} c d k inside before h owned words last caches loads cl dl i (Asks s sends) f g =
    λ after. held-asked sh ram w cs d s sends (λ j x dl e. value-asked ram w cs s sends (Some j) x inside before after dl e)
    (λ j x y. omega (arith, few-sent, f)) h
answered-load {sh} {ram} w {cs} c d k {l} {a} inside before h owned words last caches loads cl dl i (Takes s sends) f g =
    λ after. held-taken sh ram w cs c d k s sends (λ j x out jl dl' e. held-answered out s (sends (Core j))
    (value-taken sh ram w cs c d k s sends (Some j) x inside before after dl e
    (λ n q r. steady-taken w c d k s sends (Some j) n i (λ t. refl))) (sent j x e) (h j d x jl dl e)) h
  where
    loading : 1 ≤ live (LoadOf l) (to_dir w c d) + live (FillOf l) (to_core w d c)
    loading = let y : (l == l) ≡ true = same l in let z : num (l == l) ≡ 1 = rw y in
        omega (arith, live-some (LoadOf l) (to_dir w c d) k (LoadReq l a) i)

    current : (x : ℕ) → home_of sh x ≡ d → l ≡ line_of x → (w.dirs d).words x ≡ value_at sh.base ram cs (w.dirs d) (Some c) None x
    current x e q = home-word sh ram w cs c d x inside owned words last caches cl dl (rw q at (loads c d l loading)) e (rw q at g.unowned)
        (omega (arith, carried-after w c d k l a last cl dl i))

    other : (j b : ℕ) → j ≢ c → num (j == c && l == b) ≡ 0
    other j b n = rw (differ j c n)

    sent : (j x : ℕ) → home_of sh x ≡ d → among (FillNot x (value_at sh.base ram cs (w.dirs d) (Some j) None x)) (sends (Core j)) ≡ 0
    sent j x e = either j c (λ q. rw q (g.words x (value_at sh.base ram cs (w.dirs d) (Some c) None x) (current x e)))
        (λ n. omega (arith, few-sent, f, other))

-- Each event keeps that words in frames and Fills have their values, or are invalidated.

-- a core commits

-- the commit counts for its own core
counts-own : (s : DirState) (c t : ℕ) (r : CoreState) → counts s (Some c) None (noted t c r) ≡ true
unfolding counts noted
counts-own s c t r = let e : (c == c) ≡ true = grind nats in rw e

-- and for no other, where it isn't applied
counts-else : (s : DirState) (j c t : ℕ) (r : CoreState) → j ≢ c → s.serving.serving ≡ t → s.owed ≡ 0
    → counts s (Some j) None (noted t c r) ≡ false
unfolding counts is_applied noted
counts-else s j c t r n e z =
    let a : (j == c) ≡ false = grind nats in
    rw (a, e, z) (grind nats)

own-value : (base : ℕ) (s : DirState) (c t x y : ℕ) (r : CoreState)
    → with_commit base s (Some c) None x (noted t c r) y ≡ after_stores base r.stores x y
unfolding noted
own-value base s c t x y r = rw (counts-own s c t r)

stores-not : {m : Bool} {o : Option ℕ} {b : Bool} → (m || is_some o) ≡ b → m ≡ false → o ≡ None → b ≡ false
stores-not e f g = sym e ∙ rw (f, g)

-- nothing is awaited in the phases in which a core commits
rests-none : (t : ℕ) (q : Phase) (a : Option Awaited) → (q ≡ Ready t) ⊎ (q ≡ Solo t) → (is_solo q ≡ true → a ≡ None)
    → ((w : Awaited) → a ≡ Some w → executes q ≡ true) → a ≡ None
rests-none t q a m f g = grind nats

-- a later commit makes nothing of a word at a home that hasn't come to it, unless it is the core's
counts-later : (s : DirState) (c t : ℕ) (n : Noted) → s.serving.serving ≡ t → t < n.tid.0 → n.core.0 ≢ c → counts s (Some c) None n ≡ false
unfolding counts is_applied
counts-later s c t n e l own =
    let a : (c == n.core.0) ≡ false = grind nats in
    let b : nat_lt n.tid.0 t ≡ false = grind nats in
    let d : (n.tid.0 == t) ≡ false = grind nats in
    rw (a, e, b, d)

-- the value of a word that the commit stored, for its core: its stores over what the core saw
pub value-own : {sh : Shape} {p : Program} {entries : ℕ → Local} {ram : ℕ → ℕ} {gs : List Grant} {ys : Ways} {views : ℕ
    → Uses} {m : Plain} {h : History} {c : ℕ} (x : ℕ) {o : Out} → Suits sh p ram → Invariants sh p entries ram gs ys views m h
    → c < sh.cores → (g : Closing c (h.world.cores c) o) → stores_word sh.base (h.world.cores c).stores x ≡ true
    → value_at sh.base ram (insert_commit (noted g.tid c g.last) h.commits) (h.world.dirs (home_of sh x)) (Some c) None x
    ≡ after_stores sh.base (h.world.cores c).stores x (value_at sh.base ram h.commits (h.world.dirs (home_of sh x)) (Some c) None x)
unfolding noted
value-own {sh} {ram} {ys} {h} {c} x u k l g e = value-insert sh.base ram (noted g.tid c g.last) h.commits d (Some c) None x
    k.carried.commits_are_of_granted_tids.0 silent
    ∙ (own-value sh.base d c g.tid x _ g.last ∙ ap (λ q. after_stores sh.base q x (value_at sh.base ram h.commits d (Some c) None x))
    g.stores)
  where
    d : DirState
    d = h.world.dirs (home_of sh x)

    st : Stand sh h ys c g.tid
    st = stand u k l g.phase

    served : Serves sh h c g.tid x
    served = stored-served c g.tid x u k l g.phase e

    -- no later commit that stored the word counts for the core
    silent : (n : Noted) → Contains h.commits n → g.tid < n.tid.0 → IsSilent sh.base d (Some c) None x n
    silent n i q = inl (counts-later d c g.tid n served.serving q (λ j. absurd (omega (arith, st.last))))

-- for another core the value is as it was
pub value-else : {sh : Shape} {p : Program} {entries : ℕ → Local} {ram : ℕ → ℕ} {gs : List Grant} {ys : Ways} {views : ℕ
    → Uses} {m : Plain} {h : History} {c : ℕ} (j x : ℕ) {o : Out} → Suits sh p ram → Invariants sh p entries ram gs ys views m h
    → c < sh.cores → (g : Closing c (h.world.cores c) o) → j ≢ c
    → value_at sh.base ram (insert_commit (noted g.tid c g.last) h.commits) (h.world.dirs (home_of sh x)) (Some j) None x
    ≡ value_at sh.base ram h.commits (h.world.dirs (home_of sh x)) (Some j) None x
unfolding noted
value-else {sh} {ram} {h} {c} j x u k l g n =
    value-skip sh.base ram (noted g.tid c g.last) h.commits (h.world.dirs (home_of sh x)) (Some j) None x
    (quiet (stores_word sh.base (h.world.cores c).stores x) refl)
  where
    quiet : (b : Bool) → stores_word sh.base (h.world.cores c).stores x ≡ b
        → IsSilent sh.base (h.world.dirs (home_of sh x)) (Some j) None x (noted g.tid c g.last)
    quiet true q = let y = stored-served c g.tid x u k l g.phase q in
        inl (counts-else (h.world.dirs (home_of sh x)) j c g.tid g.last n y.serving y.owed)
    quiet false q = inr (ap (λ y. stores_word sh.base y x) g.stores ∙ q)

committed : {sh : Shape} {p : Program} {entries : ℕ → Local} {ram : ℕ → ℕ} {gs : List Grant} {ys : Ways} {views : ℕ → Uses} {m : Plain}
    (h : History) (c : ℕ) (o : Out) → Suits sh p ram → Invariants sh p entries ram gs ys views m h → KeptHeld sh ram h.world h.commits
    → c < sh.cores → Closing c (h.world.cores c) o → KeptHeld sh ram (core_moves h.world c o) (and_noted o.commit h.commits)
unfolding pair noted
committed {sh} {ram} h c o u k held l g = subst (λ q. KeptHeld sh ram (core_moves h.world c o) (and_noted q h.commits)) (sym g.commit)
    (λ j d. either j c (λ q. rw q (subst (HeldAt sh ram cs c d) (sym (moves-own h.world c o d)) (λ x cl dl e. own' d x dl e)))
    (λ n. subst (HeldAt sh ram cs j d) (sym (moves-other h.world c o j d n)) (λ x jl dl e. other j d x jl dl e n)))
  where
    s : CoreState
    s = h.world.cores c

    new : Noted
    new = noted g.tid c g.last

    cs : List Noted
    cs = insert_commit new h.commits

    home-of : ℕ → ℕ
    home-of x = home_of sh x

    spilled : (x : ℕ) → (is_solo s.phase ≡ true → s.spilled x ≡ None) → s.spilled x ≡ None
    spilled x f = grind nats

    framed : (x z : ℕ) → s.cache.value x ≡ Some z → s.spilled x ≡ None → (b : Bool) → s.cache.modified x ≡ b
        → HeldOf x (value_at sh.base ram h.commits (h.world.dirs (home-of x)) (Some c) None x) (pair h.world c (home-of x))
        → (z ≡ value_at sh.base ram cs (h.world.dirs (home-of x)) (Some c) None x)
        ⊎ (1 ≤ live (InvWord x) (pair h.world c (home-of x)).back)
    framed x z v n true q f =
        let e : stores_word sh.base s.stores x ≡ true = sym (k.carried.stored_words_are_those_named c x) ∙ rw q in
        let r = stored-seen c g.tid x u k l g.phase e in
        inl (sym (sees-modified s r.0 x z n q v) ∙ (r.1 ∙ sym (value-own x u k l g e)))
    framed x z v n false q f =
        let e : stores_word sh.base s.stores x ≡ false = stores-not (k.carried.stored_words_are_those_named c x) q n in
        let i : stores_word sh.base g.last.stores x ≡ false = ap (λ y. stores_word sh.base y x) g.stores ∙ e in
        rw (value-skip sh.base ram new h.commits (h.world.dirs (home-of x)) (Some c) None x (inr i)) (f.framed z v q)

    own : (x : ℕ) → home-of x < sh.dirs → HeldOf x (value_at sh.base ram cs (h.world.dirs (home-of x)) (Some c) None x)
        (after_move (pair h.world c (home-of x)) o (home-of x))
    own x dl = record {
      framed = λ z a b. let w = g.words x z a in
          framed x z w.0 (spilled x w.1) (s.cache.modified x) refl (held c (home-of x) x l dl refl);
      filled =
          λ a. inl (omega (
            arith,
            no-fill sh (home-of x) (line_of x) (pair h.world c (home-of x)) none
                (k.carried.one_load_request_or_fill c (home-of x) (line_of x)),
            few-not,
          ));
    }
      where
        none : is_awaited s.awaited (line_of x) ≡ false
        none = rw (rests-none g.tid s.phase s.awaited g.phase g.rests.0 (λ w q. (k.carried.awaited_line_has_a_frame c w q).0))

    own' : (d x : ℕ) → d < sh.dirs → home_of sh x ≡ d
        → HeldOf x (value_at sh.base ram cs (h.world.dirs d) (Some c) None x) (after_move (pair h.world c d) o d)
    own' d x dl e = subst (λ q. HeldOf x (value_at sh.base ram cs (h.world.dirs q) (Some c) None x) (after_move (pair h.world c q) o q)) e
        (own x (rw e dl))

    other : (j d x : ℕ) → j < sh.cores → d < sh.dirs → home_of sh x ≡ d → j ≢ c
        → HeldOf x (value_at sh.base ram cs (pair h.world j d).dir (Some j) None x) (pair h.world j d)
    other j d x jl dl e n = subst (λ y. HeldOf x y (pair h.world j d)) (sym same) (held j d x jl dl e)
      where
        same : value_at sh.base ram cs (h.world.dirs d) (Some j) None x ≡ value_at sh.base ram h.commits (h.world.dirs d) (Some j) None x
        same = rw e at (value-else j x u k l g n)

-- a Fill from one home isn't of a line of another
fill-home : (sh : Shape) (d e k l x : ℕ) (ws : List ℕ) (v : Pair) → get_or v.back k None ≡ Some (Fill l ws)
    → live (LinesAway sh.dirs e) v.back ≡ 0 → home_of sh x ≡ d → d ≢ e → (l == line_of x) ≡ false
unfolding passes
fill-home sh d e k l x ws v i z q n = go (l == line_of x) refl
  where
    go : (b : Bool) → (l == line_of x) ≡ b → b ≡ false
    go false r = refl
    go true r = absurd (n (sym q ∙ at-home))
      where
        at-home : home sh (line_of x) ≡ e
        at-home =
            let j : l ≡ line_of x = grind nats in
            let o = live-some (LinesAway sh.dirs e) v.back k (Fill l ws) i in
            rw (← j) (grind nats)

-- Each event keeps that each word in a frame or a Fill has its value, or is invalidated.
step-held : {sh : Shape} (p : Program) {entries : ℕ → Local} {ram : ℕ → ℕ} {gs : List Grant} {ys : Ways} {views : ℕ → Uses} (m : Plain)
    (h : History) (e : Event) → Suits sh p ram → Invariants sh p entries ram gs ys views m h → KeptHeld sh ram h.world h.commits
    → IfSome (step sh p h.world e)
    (λ o. CommitsStand sh o.world (and_noted o.noted h.commits) → KeptHeld sh ram o.world (and_noted o.noted h.commits))
unfolding pair passes dir_deliver
step-held {sh} p {ram} m h e u k held = node_cases sh p w e (λ s g o. R o)
    (λ c o eq l. executed c l o (got _ eq (framing-exec sh p c (w.cores c))))
    (λ c x y o eq l. emptied c o (got _ eq (fading-evict sh x y (w.cores c))))
    (λ c n t i after. granted c n (grant sh t (w.cores c)) (fading-grant sh t (w.cores c)))
    (λ c d n a o eq i. (come c d n i o (got _ eq (comes-back sh d (w.cores c) a))))
    answered
    (λ c n a i after. pairs_vendor P w c n a (λ d x cl dl q. same (after_gift (pair w c d) n (gift a)) refl refl (held c d x cl dl q))
    (λ j d r x cl dl q. same (after_other_gift (pair w j d) (gift a)) refl refl (held j d x cl dl q)))
  where
    w : World
    w = h.world

    P : ℕ → ℕ → Pair → Type 0
    P = HeldAt sh ram h.commits

    R : Stepped → Type 0
    R o = CommitsStand sh o.world (and_noted o.noted h.commits) → KeptHeld sh ram o.world (and_noted o.noted h.commits)

    same : {y : ℕ} {x : ℕ} {v : Pair} (r : Pair) → r.back ≡ v.back → r.core ≡ v.core → HeldOf x y v → HeldOf x y r
    same {v} r b c f = held-fades r b (fading v.core r.core (ap (λ s. s.awaited) c) (rw c (fades-same v.core.cache))) f

    -- a core that commits nothing
    quietly : (c : ℕ) (o : Out) (v : World) → o.commit ≡ None → KeptHeld sh ram v h.commits → R (record { world = v; noted = o.commit })
    quietly c o v n f after = rw n f

    executed : (c : ℕ) → c < sh.cores → (o : Out) → Framing c (w.cores c) o → R (moved_by w c o)
    executed c l o (Stays n f) = quietly c o (core_moves w c o) n
        (pairs_move P w c o (λ d x cl dl q. held-fades (after_move (pair w c d) o d) refl f (held c d x cl dl q)) held)
    executed c l o (Closes g) = λ after. committed h c o u k held l g

    emptied : (c : ℕ) (o : Out) → OnlyFades (w.cores c) o → R (moved_by w c o)
    emptied c o f = quietly c o (core_moves w c o) f.0
        (pairs_move P w c o (λ d x cl dl q. held-fades (after_move (pair w c d) o d) refl f.1 (held c d x cl dl q)) held)

    granted : (c n : ℕ) (o : Out) → OnlyFades (w.cores c) o → KeptHeld sh ram (core_takes w Vendor c n o) (and_noted o.commit h.commits)
    granted c n o f = subst (λ q. KeptHeld sh ram (core_takes w Vendor c n o) (and_noted q h.commits)) (sym f.0)
        (pairs_grant P w c n o (λ d x cl dl q. held-fades (after_move (grant_taken (pair w c d) n) o d) refl f.1 (held c d x cl dl q)) held)

    loading : (c d x : ℕ) → LoadingOf sh d (line_of x) (pair w c d)
    loading c d x = k.carried.one_load_request_or_fill c d (line_of x)

    come : (c d n : ℕ) {a : Msg} → FromDir w d c n a → (o : Out) → Coming (w.cores c) a o
        → R (taken_by w (Dir d) c n o)
    come c d n i o (Quiet z f) = quietly c o (core_takes w (Dir d) c n o) f.0 (pairs_back P w d c n o
        (λ x cl dl q. held-quietly n (after_move (back_taken (pair w c d) n) o d) i refl (z x) f.1 (held c d x cl dl q))
        (λ b r x cl dl q. held-fades (after_move (pair w c b) o b) refl f.1 (held c b x cl dl q)) held)
    come c d n i o (TakesWords l t v e f) = quietly c o (core_takes w (Dir d) c n o) f.rests.0 (pairs_back P w d c n o
        (λ x cl dl q. held-invalid sh d x _ n l t v o (i ∙ ap (λ y. Some y) e) f (loading c d x) (held c d x cl dl q))
        (λ b r x cl dl q. held-fades (after_move (pair w c b) o b) refl f.rests.1 (held c b x cl dl q)) held)
    come c d n i o (Brings l ws e f) = quietly c o (core_takes w (Dir d) c n o) f.commit (pairs_back P w d c n o
        (λ x cl dl q. held-filled sh d x _ n l o (i ∙ ap (λ y. Some y) e) f (loading c d x) (held c d x cl dl q))
        (λ b r x cl dl q. held-elsewhere sh b x _ l o
        (fill-home sh b d n l x ws (pair w c d) (i ∙ ap (λ y. Some y) e) (k.carried.records_and_messages_are_at_home c d 0).back q
        r) f (loading c b x) (held c b x cl dl q)) held)

    quiet : (c d n : ℕ) (a : Msg) → FromCore w c d n a → ((t : ℕ) → passes (Commits t) a ≡ false) → ((l : ℕ) → passes (LoadOf l) a ≡ false)
        → OfAnswer w c d n (λ v. R (unnoted v)) (dir_deliver sh (w.dirs d) c a)
    quiet c d n a i f g = answered-quietly ram w h.commits c d n k.carried_in_memory.commits_stay_in_memory
        k.carried.commit_is_on_its_way_or_applied held i f g (dir_deliver sh (w.dirs d) c a) (dir-fills sh (w.dirs d) c a)

    answered : (c d n : ℕ) (a : Msg) → c < sh.cores → d < sh.dirs → FromCore w c d n a
        → OfAnswer w c d n (λ v. R (unnoted v)) (dir_deliver sh (w.dirs d) c a)
    answered c d n (LoadReq l a) cl dl i = answered-load w c d n k.carried_in_memory.commits_stay_in_memory
        k.carried.commit_is_on_its_way_or_applied held k.carried.owned_line_has_one_copy_with_its_tag k.home_words_are_current
        k.carried.after_is_the_last_commit_there k.carried.frames_stand_in_their_sets
        k.carried_in_memory.loads_in_flight_are_of_lines_in_memory cl dl i
        (dir_deliver sh (w.dirs d) c (LoadReq l a)) (dir-fills sh (w.dirs d) c (LoadReq l a)) (load-home c l a (w.dirs d))
    answered c d n (Commit t b) cl dl i = answered-commit ram w d n k.carried_in_memory.commits_stay_in_memory
        k.carried.commit_is_on_its_way_or_applied held k.carried.commits_are_of_granted_tids.0 k.carried.committing_tid_is_served
        k.carried.marks_sent_are_in_flight_or_handled.1 k.carried.marks_sent_are_the_lines_stored.2 k.carried.one_load_request_or_fill
        k.carried.holder_is_a_sharer cl dl i (λ l. refl)
        (dir_deliver sh (w.dirs d) c (Commit t b)) (dir-fills sh (w.dirs d) c (Commit t b)) (commit-invalidates sh c t b (w.dirs d))
    answered c d n m cl dl i = quiet c d n m i (λ t. refl) (λ l. refl)

-- in the list's terms
held-all : (sh : Shape) (ram : ℕ → ℕ) (w : World) (cs : List Noted) → UnmodifiedWords sh ram w cs → FilledWords sh ram w cs
    → KeptHeld sh ram w cs
unfolding pair
held-all sh ram w cs a b c d x cl dl e = record { framed = λ z p q. a c d x z cl dl e p q; filled = λ p. b c d x cl dl e p }

pub words_kept : EventsKeepWords
unfolding next_history pair
words_kept sh p entries ram gs ys views m h e u k = if_recorded _ h (step sh p h.world e) (λ o eq r.
    let s : KeptHeld sh ram o.world (and_noted o.noted h.commits) = got _ eq (step-held p m h e u k
    (held-all sh ram h.world h.commits k.unmodified_word_is_current_or_inv_in_flight k.filled_word_is_current_or_inv_in_flight))
    r.commit_is_on_its_way_or_applied in
    (λ c d x y cl dl q a b. (s c d x cl dl q).framed y a b, λ c d x cl dl q a. (s c d x cl dl q).filled a))
