-- A word as the commits left it, core by core.
use Rattle.std.proofs.Common.{◌≡◌, ℕ, suc, ◌+◌, ◌<◌, List, [], ◌∷◌, ◌++◌, get_or, ap}
use Rattle.std.proofs.Common.{sym, ◌∙◌, subst, arith, append-nil}
use Rattle.std.specs.List.{flat_map}
use Rattle.std.proofs.lemmas.List.Concat.{flat_map-append}
use Rattle.base_lemmas.proofs.Lemmas.{eight-at, line_of-word_at}
use Rattle.image_load.specs.Start.{first_ram}
use Rattle.rules_maps.specs.Cache.{Cache}
use Rattle.rules_maps.specs.Nodes.{Core, Dir}
use Rattle.rules_maps.specs.Shape.{Shape, home}
use Rattle.rules_maps.specs.Words.{eight, line_of, those, word_at}
use Rattle.rules_tcc.specs.Seen.{Copy, copies, copies_of, copies_on, copy_in, home_copy, newest, numbers, seen}
use Rattle.rules_tcc.specs.State.{DirState, World}
use Rattle.machine_cores.specs.Bank.{cores_of}
use Rattle.machine_dirs.specs.Bank.{DirsData, dirs_of}
use Rattle.machine_links.specs.Flights.{net_of}
use Rattle.net_core.specs.Machine.{Machine, settings_of, start_of, world_of}
use Rattle.net_core.proofs.Words.Newest.{newest-append}
use Rattle.net_core.proofs.Words.Places.{newest-none}
use Rattle.net_core.proofs.Keeping.{settled-net}

-- ---- the cores one by one

numbers-more : (n : ℕ) → numbers (n + 1) ≡ numbers n ++ n ∷ []
unfolding those
numbers-more n = let s : n + 1 ≡ suc n = omega arith in ap numbers s

-- the copies of the first cores
abbrev pub first_copies : Machine → (word cores : ℕ) → List Copy
first_copies m v n = flat_map (copies_of (settings_of m) (world_of m) v) (numbers n)

-- the newest after these
abbrev pub best_of : Machine → (word cores : ℕ) → Copy
best_of m v n = newest (home_copy (settings_of m) (world_of m) v) (first_copies m v n)

copies-next : (m : Machine) (v n : ℕ) → first_copies m v (n + 1) ≡ first_copies m v n ++ copies_of (settings_of m) (world_of m) v n
copies-next m v n =
    let own = copies_of (settings_of m) (world_of m) v in
    ap (flat_map own) (numbers-more n)
    ∙ (flat_map-append own (numbers n) (n ∷ []) ∙ ap (λ cs. first_copies m v n ++ cs) (append-nil (own n)))

pub own-copies : (m : Machine) (v n : ℕ) → m.unsent ≡ [] → let c : Cache = (cores_of m.cores n).cache in
    copies_of (settings_of m) (world_of m) v n
    ≡ copy_in (c.value v) (c.dirty v) ++ copies_on v (net_of m.flights (Core n) (Dir (home (settings_of m) (line_of v))))
unfolding copies_of world_of
own-copies m v n e =
    let c : Cache = (cores_of m.cores n).cache in
    ap (λ net. copy_in (c.value v) (c.dirty v) ++ copies_on v (net (Core n) (Dir (home (settings_of m) (line_of v))))) (settled-net m e)

-- one more core: its frame's copy, then those that it sent
best-next : (m : Machine) (v n : ℕ) → m.unsent ≡ []
    → let c : Cache = (cores_of m.cores n).cache in let d : ℕ = home (settings_of m) (line_of v) in
    newest (newest (best_of m v n) (copy_in (c.value v) (c.dirty v))) (copies_on v (net_of m.flights (Core n) (Dir d)))
    ≡ best_of m v (n + 1)
best-next m v n e =
    let c : Cache = (cores_of m.cores n).cache in
    let framed : List Copy = copy_in (c.value v) (c.dirty v) in
    let sent : List Copy = copies_on v (net_of m.flights (Core n) (Dir (home (settings_of m) (line_of v)))) in
    let start : Copy = home_copy (settings_of m) (world_of m) v in
    sym (newest-append (best_of m v n) framed sent)
    ∙ (sym (newest-append start (first_copies m v n) (framed ++ sent))
    ∙ ap (newest start) (ap (λ cs. first_copies m v n ++ cs) (sym (own-copies m v n e)) ∙ sym (copies-next m v n)))

-- as the code comes to it
pub best-more : (m now : Machine) (v n h : ℕ) (a b c : Copy) → m ≡ now → now.unsent ≡ [] → h ≡ home (settings_of m) (line_of v)
    → a ≡ best_of now v n
    → b ≡ newest a (copy_in ((cores_of m.cores n).cache.value v) ((cores_of m.cores n).cache.dirty v))
    → c ≡ newest b (copies_on v (net_of m.flights (Core n) (Dir h))) → c ≡ best_of now v (n + 1)
best-more m now v n h a b c same e at p q r =
    subst (λ k. c ≡ best_of k v (n + 1)) same
    (r ∙ ap (λ d. newest b (copies_on v (net_of m.flights (Core n) (Dir d)))) at
    ∙ ap (λ x. newest x (copies_on v (net_of m.flights (Core n) (Dir (home (settings_of m) (line_of v)))))) (q
    ∙ ap (λ x. newest x (copy_in ((cores_of m.cores n).cache.value v) ((cores_of m.cores n).cache.dirty v)))
    (p ∙ ap (λ k. best_of k v n) (sym same)))
    ∙ best-next m v n (ap (λ k. k.unsent) same ∙ e))

-- ---- its beginning and its end

-- the home's copy, before any core
pub best-first : (m now : Machine) (v tag value : ℕ) → m ≡ now → m.dirs.settings ≡ settings_of m
    → ((ram : ℕ → ℕ) → tag ≡ (dirs_of ram m.dirs (home m.dirs.settings (line_of v))).lines.tag (line_of v))
    → ((ram : ℕ → ℕ) → value ≡ (dirs_of ram m.dirs (home m.dirs.settings (line_of v))).words v)
    → record { tag = tag; value = value } ≡ best_of now v 0
unfolding world_of home_copy those newest
best-first m now v tag value same s t x =
    let ram : ℕ → ℕ = first_ram (start_of m) in
    subst (λ k. record { tag = tag; value = value } ≡ best_of k v 0) same
    ((λ i. record { tag = t ram i; value = x ram i })
    ∙ ap (λ q. let d : DirState = dirs_of ram m.dirs (home q (line_of v)) in record { tag = d.lines.tag (line_of v); value = d.words v }) s)

pub best-last : (m : Machine) (v n : ℕ) → n ≡ (settings_of m).cores → (best_of m v n).value ≡ seen (settings_of m) (world_of m) v
unfolding seen copies
best-last m v n e = ap (λ k. (best_of m v k).value) e

-- ---- where no copy is away

home-newest : (s : Shape) (w : World) (v : ℕ) → copies s w v ≡ [] → (home_copy s w v).value ≡ seen s w v
unfolding seen
home-newest s w v none = ap (λ (c : Copy). c.value) (newest-none (home_copy s w v) ∙ ap (newest (home_copy s w v)) (sym none))

-- only the home has the word
pub home-seen : (m now : Machine) (v value : ℕ) → m ≡ now → m.dirs.settings ≡ settings_of m
    → copies (settings_of now) (world_of now) v ≡ []
    → ((ram : ℕ → ℕ) → value ≡ (dirs_of ram m.dirs (home m.dirs.settings (line_of v))).words v)
    → value ≡ seen (settings_of now) (world_of now) v
unfolding world_of home_copy
home-seen m now v value same s none x =
    let ram : ℕ → ℕ = first_ram (start_of m) in
    let here : value ≡ (home_copy (settings_of m) (world_of m) v).value =
    x ram ∙ ap (λ q. (dirs_of ram m.dirs (home q (line_of v))).words v) s in
    here ∙ ap (λ k. (home_copy (settings_of k) (world_of k) v).value) same ∙ home-newest (settings_of now) (world_of now) v none

-- ---- the home words of a line

pub home-word : (ram : ℕ → ℕ) (d : DirsData) (l k : ℕ) (ws : List ℕ) → k < 8
    → ws ≡ eight (λ j. (dirs_of ram d (home d.settings l)).words (word_at l j))
    → get_or ws k 0 ≡ (dirs_of ram d (home d.settings (line_of (word_at l k)))).words (word_at l k)
home-word ram d l k ws b e =
    ap (λ xs. get_or xs k 0) e
    ∙ (eight-at (λ j. (dirs_of ram d (home d.settings l)).words (word_at l j)) k b
    ∙ ap (λ n. (dirs_of ram d (home d.settings n)).words (word_at l k)) (sym (line_of-word_at l k b)))

pub home-tag : (ram : ℕ → ℕ) (d : DirsData) (l k t : ℕ) → k < 8 → t ≡ (dirs_of ram d (home d.settings l)).lines.tag l
    → t ≡ (dirs_of ram d (home d.settings (line_of (word_at l k)))).lines.tag (line_of (word_at l k))
home-tag ram d l k t b e = e ∙ ap (λ n. (dirs_of ram d (home d.settings n)).lines.tag n) (sym (line_of-word_at l k b))
