-- What sending and taking do to the number of messages of a kind, how many a rule sends, and what events do to pairs and sums over cores.
use Rattle.theorem_serial.proofs
use proofs.Names
use Names.{◌≡◌, ◌≤◌, Bool, true, false, arith, refl, num, ℕ, zero, suc, ◌+◌, ◌<◌, ◌≢◌, List, [], ◌∷◌, ◌++◌, set, get_or, Some, None, ap}
use Names.{◌⊎◌, cases_eq, Msg, Link, sent_all, sum_below, Kind, live, among, passes, ◌==◌, ◌&&◌, flat_map, Dir, Mark, Shape, Cache}
use Names.{writes_at, modified_mask, written_lines, Spilled, skip_all, probe_all, abort_written, marks_for, commit_sends, solo_sends}
use Names.{solo_marks_or_skip, solo_write_backs, grant_sends, Resolves, Protocol, nats, tested, inl, inr}
use Names.{and-false, eq-self, DirState, sym, subst, ◌∙◌, Node, Core, Vendor, World, Out, core_moves, core_takes}
use Names.{dir_takes, dir_asks, Pair, pair, after_move, grant_taken, back_taken, after_answer, out_taken}
use Names.{share, sum_of}

pub num-one : (b : Bool) → 1 ≤ num b → b ≡ true
num-one a h = grind nats

pub num-same : (a b : Bool) → num a ≡ num b → a ≡ b
num-same a b h = grind nats

-- What sending and taking do to the number of messages of a kind.
live-append : (k : Kind) (l m : Link) → live k (l ++ m) ≡ live k l + live k m
unfolding live
live-append k [] m = omega arith
live-append k (None ∷ l) m = live-append k l m
live-append k (Some x ∷ l) m = omega (arith, live-append k l m)

live-sent_all : (k : Kind) (ms : List Msg) → live k (sent_all ms) ≡ among k ms
unfolding live among sent_all
live-sent_all k [] = refl
live-sent_all k (m ∷ ms) = omega (arith, live-sent_all k ms)

pub live-sends : (k : Kind) (l : Link) (ms : List Msg) → live k (l ++ sent_all ms) ≡ live k l + among k ms
live-sends k l ms = omega (arith, live-append, live-sent_all)

pub live-takes : (k : Kind) (l : Link) (i : ℕ) (m : Msg) → get_or l i None ≡ Some m → live k (set l i None) + num (passes k m) ≡ live k l
unfolding live
live-takes k [] i m e = absurd (cc)
live-takes k (Some x ∷ l) zero m e = let h : x ≡ m = cc in rw (← h) (omega arith)
live-takes k (None ∷ l) zero m e = absurd (cc)
live-takes k (Some x ∷ l) (suc i) m e = omega (arith, live-takes k l i m e)
live-takes k (None ∷ l) (suc i) m e = live-takes k l i m e

-- a message of a kind of which none is in flight isn't taken
pub none-taken : (q : Kind) (l : Link) (i : ℕ) {m : Msg} → get_or l i None ≡ Some m → live q l ≡ 0 → passes q m ≡ false
none-taken q l i {m} e z = elim (tested (passes q m)) [
  | inr h ↦ h
  | inl h ↦ let n : num (passes q m) ≡ 1 = ap num h in absurd (omega (arith, live-takes q l i m e))
]

pub among-append : (k : Kind) (a b : List Msg) → among k (a ++ b) ≡ among k a + among k b
unfolding among
among-append k [] b = omega arith
among-append k (m ∷ a) b = omega (arith, among-append k a b)

-- where each message of a kind is one of another, there are no more of them
pub live-fewer : (a b : Kind) → ((m : Msg) → num (passes a m) ≤ num (passes b m)) → (l : Link) → live a l ≤ live b l
unfolding live
live-fewer a b h [] = omega arith
live-fewer a b h (None ∷ l) = live-fewer a b h l
live-fewer a b h (Some m ∷ l) = omega (arith, h, live-fewer a b h l)

pub among-fewer : (a b : Kind) → ((m : Msg) → num (passes a m) ≤ num (passes b m)) → (ms : List Msg) → among a ms ≤ among b ms
unfolding among
among-fewer a b h [] = omega arith
among-fewer a b h (m ∷ ms) = omega (arith, h, among-fewer a b h ms)

-- sums
pub total-same : (f g : ℕ → ℕ) (n : ℕ) → ((j : ℕ) → j < n → f j ≡ g j) → sum_below f n ≡ sum_below g n
unfolding sum_below
total-same f g zero h = refl
total-same f g (suc n) h = omega (arith, total-same f g n (λ j l. h j (omega arith)), h)

pub total-plus : (f g h : ℕ → ℕ) (n : ℕ) → ((j : ℕ) → j < n → h j ≡ f j + g j) → sum_below h n ≡ sum_below f n + sum_below g n
unfolding sum_below
total-plus f g h zero e = refl
total-plus f g h (suc n) e = omega (arith, total-plus f g h n (λ j l. e j (omega arith)), e)

pub total-le : (f : ℕ → ℕ) (n j : ℕ) → j < n → f j ≤ sum_below f n
unfolding sum_below
total-le f zero j l = absurd (omega arith)
total-le f (suc n) j l = go (cases_eq j n) (total-le f n j)
  where
    go : (j ≡ n) ⊎ (j ≢ n) → (j < n → f j ≤ sum_below f n) → f j ≤ sum_below f n + f n
    go a r = grind nats

pub total-at : (f g : ℕ → ℕ) (n c : ℕ) → c < n → ((j : ℕ) → j ≢ c → f j ≡ g j) → sum_below f n + g c ≡ sum_below g n + f c
unfolding sum_below
total-at f g zero c l h = absurd (omega arith)
total-at f g (suc n) c l h = go (cases_eq c n) (λ k. total-at f g n c k h)
  where
    go : (c ≡ n) ⊎ (c ≢ n) → (c < n → sum_below f n + g c ≡ sum_below g n + f c) → sum_below f n + f n + g c ≡ sum_below g n + g n + f c
    go a r = grind (nats, total-same)

pub total-zero : (f : ℕ → ℕ) (n : ℕ) → ((j : ℕ) → j < n → f j ≡ 0) → sum_below f n ≡ 0
unfolding sum_below
total-zero f zero h = refl
total-zero f (suc n) h = omega (arith, total-zero f n (λ j l. h j (omega arith)), h)

-- How many messages of a kind a rule sends.
pub among-flat_map_none : (k : Kind) (f : ℕ → List Msg) → ((l : ℕ) → among k (f l) ≡ 0) → (xs : List ℕ) → among k (flat_map f xs) ≡ 0
unfolding among
among-flat_map_none k f h [] = refl
among-flat_map_none k f h (x ∷ xs) = omega (arith, among-append, h, among-flat_map_none k f h xs)

passes-protocol : (t : ℕ) (m : Msg) → num (passes (Resolves t) m) ≤ num (passes Protocol m)
unfolding passes
passes-protocol t m = grind nats

pub among-quiet : (t : ℕ) (ms : List Msg) → among (Resolves t) ms ≤ among Protocol ms
among-quiet t ms = among-fewer (Resolves t) Protocol (passes-protocol t) ms

pub resolves-commit_sends : (sh : Shape) (c : Cache) (u d t : ℕ) → d < sh.dirs
    → among (Resolves t) (commit_sends sh c u (Dir d)) ≡ num ((u == t) && writes_at sh c d)
unfolding commit_sends among passes
resolves-commit_sends sh c u d t l = grind nats

pub resolves-abort_written : (sh : Shape) (c : Cache) (u d t : ℕ) → d < sh.dirs
    → among (Resolves t) (abort_written sh c u (Dir d)) ≡ num ((u == t) && writes_at sh c d)
unfolding abort_written among passes
resolves-abort_written sh c u d t l = grind nats

pub resolves-skip_all : (sh : Shape) (u d t : ℕ) → d < sh.dirs → among (Resolves t) (skip_all sh u (Dir d)) ≡ num (u == t)
unfolding skip_all among passes
resolves-skip_all sh u d t l = grind nats

pub resolves-probe_all : (sh : Shape) (u d t : ℕ) → among (Resolves t) (probe_all sh u (Dir d)) ≡ 0
unfolding probe_all among passes
resolves-probe_all sh u d t = grind nats

pub resolves-grant_sends : (sh : Shape) (c : Cache) (u d t : ℕ) → d < sh.dirs
    → among (Resolves t) (grant_sends sh c u (Dir d)) + num ((u == t) && writes_at sh c d) ≡ num (u == t)
unfolding grant_sends among passes
resolves-grant_sends sh c u d t l = grind nats

pub resolves-marks_for : (sh : Shape) (c : Cache) (u e t : ℕ) → among (Resolves t) (marks_for sh c u e) ≡ 0
unfolding marks_for among passes
resolves-marks_for sh c u e t = among-flat_map_none (Resolves t) (λ l. Mark l (modified_mask c l) u ∷ []) (λ l. refl) (written_lines sh c e)

pub resolves-solo_sends : (sh : Shape) (c : Cache) (sp : Spilled) (u d t : ℕ) → d < sh.dirs
    → among (Resolves t) (solo_sends sh c sp u (Dir d)) ≡ num (u == t)
unfolding solo_sends solo_marks_or_skip solo_write_backs among passes
resolves-solo_sends sh c sp u d t l = grind (nats, among-flat_map_none, among-append)

-- What each kind of event but the vendor's does to the pairs of a core and a directory.

pub differ : (j c : ℕ) → j ≢ c → (j == c) ≡ false
differ j c h = grind nats

pub append-none : (l : Link) → l ++ [] ≡ l
append-none [] = refl
append-none (x ∷ l) = rw (append-none l)

-- a core moves
pub moves-own : (w : World) (c : ℕ) (o : Out) (d : ℕ) → pair (core_moves w c o) c d ≡ after_move (pair w c d) o d
unfolding pair core_moves
moves-own w c o d = rw (eq-self c)

pub moves-other : (w : World) (c : ℕ) (o : Out) (j d : ℕ) → j ≢ c → pair (core_moves w c o) j d ≡ pair w j d
unfolding pair core_moves
moves-other w c o j d h = rw (differ j c h)

-- a core takes a grant
grant-own : (w : World) (c k : ℕ) (o : Out) (d : ℕ) → pair (core_takes w Vendor c k o) c d ≡ after_move (grant_taken (pair w c d) k) o d
unfolding pair core_takes
grant-own w c k o d = rw (eq-self c)

grant-other : (w : World) (c k : ℕ) (o : Out) (j d : ℕ) → j ≢ c → pair (core_takes w Vendor c k o) j d ≡ pair w j d
unfolding pair core_takes
grant-other w c k o j d h = rw (differ j c h)

-- a core takes a message of directory e
pub back-own : (w : World) (c k : ℕ) (o : Out) (d : ℕ) → pair (core_takes w (Dir d) c k o) c d ≡ after_move (back_taken (pair w c d) k) o d
unfolding pair core_takes
back-own w c k o d = rw (eq-self c) (rw (eq-self d))

pub back-away : (w : World) (e c k : ℕ) (o : Out) (d : ℕ) → d ≢ e → pair (core_takes w (Dir e) c k o) c d ≡ after_move (pair w c d) o d
unfolding pair core_takes
back-away w e c k o d h = rw (eq-self c) (rw (differ d e h))

back-other : (w : World) (e c k : ℕ) (o : Out) (j d : ℕ) → j ≢ c → pair (core_takes w (Dir e) c k o) j d ≡ pair w j d
unfolding pair core_takes
back-other w e c k o j d h = rw (differ j c h) (rw (and-false (d == e)))

-- directory e takes a message of core c
pub dir-own : (w : World) (c d k : ℕ) (s : DirState) (sends : Node → List Msg)
    → pair (dir_takes w c d k s sends) c d ≡ after_answer (out_taken (pair w c d) k) s (sends (Core c))
unfolding pair dir_takes
dir-own w c d k s sends = rw (eq-self c) (rw (eq-self d))

pub dir-other : (w : World) (c d k : ℕ) (s : DirState) (sends : Node → List Msg) (j : ℕ) → j ≢ c
    → pair (dir_takes w c d k s sends) j d ≡ after_answer (pair w j d) s (sends (Core j))
unfolding pair dir_takes
dir-other w c d k s sends j h = rw (differ j c h) (rw (eq-self d))

dir-away : (w : World) (c e k : ℕ) (s : DirState) (sends : Node → List Msg) (j d : ℕ) → d ≢ e
    → pair (dir_takes w c e k s sends) j d ≡ pair w j d
unfolding pair dir_takes
dir-away w c e k s sends j d h = rw (differ d e h) (rw (and-false (j == c)))

pub asks-own : (w : World) (d : ℕ) (s : DirState) (sends : Node → List Msg) (j : ℕ)
    → pair (dir_asks w d s sends) j d ≡ after_answer (pair w j d) s (sends (Core j))
unfolding pair dir_asks
asks-own w d s sends j = rw (eq-self d)

asks-away : (w : World) (e : ℕ) (s : DirState) (sends : Node → List Msg) (j d : ℕ) → d ≢ e → pair (dir_asks w e s sends) j d ≡ pair w j d
unfolding pair dir_asks
asks-away w e s sends j d h = rw (differ d e h)

-- what holds of all pairs
pub either : {A : Type 0} → (j c : ℕ) → (j ≡ c → A) → ((j ≢ c) → A) → A
either j c f g = elim (cases_eq j c) [ inl e ↦ f e | inr h ↦ g h ]

abbrev pub AllPairs : (ℕ → ℕ → Pair → Type 0) → World → Type 0
AllPairs P w = (c d : ℕ) → P c d (pair w c d)

pub pairs_move : (P : ℕ → ℕ → Pair → Type 0) (w : World) (c : ℕ) (o : Out) → ((d : ℕ) → P c d (after_move (pair w c d) o d)) → AllPairs P w
    → AllPairs P (core_moves w c o)
pairs_move P w c o own all j d = either j c (λ e. rw e (subst (P c d) (sym (moves-own w c o d)) (own d)))
    (λ h. subst (P j d) (sym (moves-other w c o j d h)) (all j d))

pub pairs_grant : (P : ℕ → ℕ → Pair → Type 0) (w : World) (c k : ℕ) (o : Out)
    → ((d : ℕ) → P c d (after_move (grant_taken (pair w c d) k) o d)) → AllPairs P w → AllPairs P (core_takes w Vendor c k o)
pairs_grant P w c k o own all j d = either j c (λ e. rw e (subst (P c d) (sym (grant-own w c k o d)) (own d)))
    (λ h. subst (P j d) (sym (grant-other w c k o j d h)) (all j d))

pub pairs_back : (P : ℕ → ℕ → Pair → Type 0) (w : World) (e c k : ℕ) (o : Out) → P c e (after_move (back_taken (pair w c e) k) o e)
    → ((d : ℕ) → d ≢ e → P c d (after_move (pair w c d) o d)) → AllPairs P w → AllPairs P (core_takes w (Dir e) c k o)
pairs_back P w e c k o own away all j d = either j c (λ q. either d e (λ r. rw (q, r) (subst (P c e) (sym (back-own w c k o e)) own))
    (λ h. rw q (subst (P c d) (sym (back-away w e c k o d h)) (away d h))))
    (λ h. subst (P j d) (sym (back-other w e c k o j d h)) (all j d))

pub pairs_dir : (P : ℕ → ℕ → Pair → Type 0) (w : World) (c e k : ℕ) (s : DirState) (sends : Node → List Msg)
    → P c e (after_answer (out_taken (pair w c e) k) s (sends (Core c)))
    → ((j : ℕ) → j ≢ c → P j e (after_answer (pair w j e) s (sends (Core j)))) → AllPairs P w → AllPairs P (dir_takes w c e k s sends)
pairs_dir P w c e k s sends own others all j d = either d e (λ q. either j c
    (λ r. rw (q, r) (subst (P c e) (sym (dir-own w c e k s sends)) own))
    (λ h. rw q (subst (P j e) (sym (dir-other w c e k s sends j h)) (others j h))))
    (λ h. subst (P j d) (sym (dir-away w c e k s sends j d h)) (all j d))

pub pairs_asks : (P : ℕ → ℕ → Pair → Type 0) (w : World) (e : ℕ) (s : DirState) (sends : Node → List Msg)
    → ((j : ℕ) → P j e (after_answer (pair w j e) s (sends (Core j)))) → AllPairs P w → AllPairs P (dir_asks w e s sends)
pairs_asks P w e s sends own all j d = either d e (λ q. rw q (subst (P j e) (sym (asks-own w e s sends j)) (own j)))
    (λ h. subst (P j d) (sym (asks-away w e s sends j d h)) (all j d))

-- sums over the cores
shares_at : (f : Pair → ℕ) (n : ℕ) (v w : World) (c d x y : ℕ) → c < n → f (pair v c d) + x ≡ f (pair w c d) + y
    → ((j : ℕ) → j ≢ c → pair v j d ≡ pair w j d) → sum_of f n v d + x ≡ sum_of f n w d + y
unfolding share
shares_at f n v w c d x y l e others = omega (arith, total-at (share f v d) (share f w d) n c l (λ j h. ap f (others j h)))

pub sum_move : (f : Pair → ℕ) (n : ℕ) (w : World) (c : ℕ) (o : Out) (d x y : ℕ) → c < n
    → f (after_move (pair w c d) o d) + x ≡ f (pair w c d) + y → sum_of f n (core_moves w c o) d + x ≡ sum_of f n w d + y
sum_move f n w c o d x y l e = shares_at f n (core_moves w c o) w c d x y l (rw (moves-own w c o d) e) (λ j h. moves-other w c o j d h)

pub sum_grant : (f : Pair → ℕ) (n : ℕ) (w : World) (c k : ℕ) (o : Out) (d x y : ℕ) → c < n
    → f (after_move (grant_taken (pair w c d) k) o d) + x ≡ f (pair w c d) + y
    → sum_of f n (core_takes w Vendor c k o) d + x ≡ sum_of f n w d + y
sum_grant f n w c k o d x y l e = shares_at f n (core_takes w Vendor c k o) w c d x y l (rw (grant-own w c k o d) e)
    (λ j h. grant-other w c k o j d h)

pub sum_back : (f : Pair → ℕ) (n : ℕ) (w : World) (c k : ℕ) (o : Out) (d x y : ℕ) → c < n
    → f (after_move (back_taken (pair w c d) k) o d) + x ≡ f (pair w c d) + y
    → sum_of f n (core_takes w (Dir d) c k o) d + x ≡ sum_of f n w d + y
sum_back f n w c k o d x y l e = shares_at f n (core_takes w (Dir d) c k o) w c d x y l (rw (back-own w c k o d) e)
    (λ j h. back-other w d c k o j d h)

pub sum_back_away : (f : Pair → ℕ) (n : ℕ) (w : World) (e c k : ℕ) (o : Out) (d x y : ℕ) → d ≢ e → c < n
    → f (after_move (pair w c d) o d) + x ≡ f (pair w c d) + y → sum_of f n (core_takes w (Dir e) c k o) d + x ≡ sum_of f n w d + y
sum_back_away f n w e c k o d x y h l q = shares_at f n (core_takes w (Dir e) c k o) w c d x y l (rw (back-away w e c k o d h) q)
    (λ j h. back-other w e c k o j d h)

-- g is what each other core's part grows by
pub sum_dir : (f : Pair → ℕ) (g : ℕ → ℕ) (n : ℕ) (w : World) (c k : ℕ) (s : DirState) (sends : Node → List Msg) (d x y : ℕ) → c < n
    → f (after_answer (out_taken (pair w c d) k) s (sends (Core c))) + x ≡ f (pair w c d) + g c + y
    → ((j : ℕ) → j ≢ c → f (after_answer (pair w j d) s (sends (Core j))) ≡ f (pair w j d) + g j)
    → sum_of f n (dir_takes w c d k s sends) d + x ≡ sum_of f n w d + sum_below g n + y
unfolding share
sum_dir f g n w c k s sends d x y l e others =
    let v : World = dir_takes w c d k s sends in
    let h : ℕ → ℕ = λ j. share f w d j + g j in
    let q : sum_below h n ≡ sum_below (share f w d) n + sum_below g n = total-plus (share f w d) g h n (λ j l. refl) in
    let p : sum_below (share f v d) n + h c ≡ sum_below h n + share f v d c =
    total-at (share f v d) h n c l (λ j r. ap f (dir-other w c d k s sends j r) ∙ others j r) in
    let own : share f v d c + x ≡ share f w d c + g c + y = rw (dir-own w c d k s sends) e in
    omega arith

pub sum_dir_away : (f : Pair → ℕ) (n : ℕ) (w : World) (c e k : ℕ) (s : DirState) (sends : Node → List Msg) (d : ℕ) → d ≢ e
    → sum_of f n (dir_takes w c e k s sends) d ≡ sum_of f n w d
unfolding share
sum_dir_away f n w c e k s sends d h = total-same (share f (dir_takes w c e k s sends) d) (share f w d) n
    (λ j l. ap f (dir-away w c e k s sends j d h))

pub sum_asks : (f : Pair → ℕ) (g : ℕ → ℕ) (n : ℕ) (w : World) (e : ℕ) (s : DirState) (sends : Node → List Msg) (d : ℕ)
    → ((j : ℕ) → f (after_answer (pair w j d) s (sends (Core j))) ≡ f (pair w j d)) → sum_of f n (dir_asks w e s sends) d ≡ sum_of f n w d
unfolding share
sum_asks f g n w e s sends d h = total-same (share f (dir_asks w e s sends) d) (share f w d) n
    (λ j l. either d e (λ q. ap f (rw q (asks-own w e s sends j)) ∙ h j) (λ r. ap f (asks-away w e s sends j d r)))

-- the same where a directory asks
pub sum_asks_here : (f : Pair → ℕ) (g : ℕ → ℕ) (n : ℕ) (w : World) (s : DirState) (sends : Node → List Msg) (d : ℕ)
    → ((j : ℕ) → f (after_answer (pair w j d) s (sends (Core j))) ≡ f (pair w j d) + g j)
    → sum_of f n (dir_asks w d s sends) d ≡ sum_of f n w d + sum_below g n
unfolding share
sum_asks_here f g n w s sends d h = total-plus (share f w d) g (share f (dir_asks w d s sends) d) n
    (λ j l. ap f (asks-own w d s sends j) ∙ h j)

pub sum_asks_away : (f : Pair → ℕ) (n : ℕ) (w : World) (e : ℕ) (s : DirState) (sends : Node → List Msg) (d : ℕ) → d ≢ e
    → sum_of f n (dir_asks w e s sends) d ≡ sum_of f n w d
unfolding share
sum_asks_away f n w e s sends d h = total-same (share f (dir_asks w e s sends) d) (share f w d) n
    (λ j l. ap f (asks-away w e s sends j d h))
