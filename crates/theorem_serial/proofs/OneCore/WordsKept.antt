-- What each change of a cache or of the overflow buffer does to the words of an attempt; then the read marks.
use Rattle.rules_maps.specs.CacheLook.{reads_masked}
use Rattle.rules_program.specs.Ram.{part}
use Rattle.theorem_serial.proofs
use proofs.Names
use Names.{held_valued, or-left, ℕ, ◌+◌, ◌*◌, ◌%◌, ◌≡◌, Bool, true, false, not, ◌&&◌, ◌||◌, ◌==◌, List, [], ◌∷◌, ◌++◌, Option, Some, None}
use Names.{is_some, unwrap_or, if◌then◌else◌, arith, refl, sym, ap, ◌∙◌, put, Stored, word_of, line_of, any_word, any_below, Shape, set_of}
use Names.{Cache, IsCache, free_way, is_marked, marked, stored, placed, placed_at, filled, invalidated, cleaned, evicted, evicted_line}
use Names.{rolled_back, read_cleared, committed, Spilled, spill_line, holds, any_below-at, marked-keeps, stored-keeps, placed-keeps}
use Names.{filled-keeps, invalidated-keeps, cleaned-keeps, evicted-keeps, rolled_back-keeps, read_cleared-keeps, committed-keeps}
use Names.{stores_word, Words, hit, nats, hit-line, ◌<◌, IfSome, subst, ◌⊎◌, inl, inr, Program, value-placed, read-placed, CoreState, Phase}
use Names.{commit, committed_core, solo_commit, core_exec, core_evict, has_tid, home_of, OneCore, ◌≤◌, get_or, place_of, Msg, Inv, home}
use Names.{Probing, Ready, Overflowing, Solo, grant, is_violated, may_be_above, words_invalidated, from_dir, hit-reads, Load, load_of}
use Names.{is_running, is_solo, loads_word, LoadsMarked, tested}
use proofs.OneCore.UsedWords.{stores_word-append, loads_word-append}
use proofs.OneCore.CoreSteps.{unmarked-word, evicted-modified}
use proofs.OneCore.Outcomes.{Commits_now, Did, Ends_alone, Ends_run, Frames, Frames_anew, Misses_anew, Reads, Room_wanted, each-evict}
use proofs.OneCore.Outcomes.{each-exec, out, Last_probing, Last_room, Fills, Given, Given_doomed, Given_none, Given_room, Granted}
use proofs.OneCore.Outcomes.{Hands_out, Heard, Hurt_alone, Hurt_probing, Hurt_running, Hurt_waiting, Hurt_none, each-back, each-grant}
use proofs.OneCore.Outcomes.{given, granted, heard, message, Acts, Buffers, Finds, Storing, emptied}

-- a line of which nothing is spilled
unspilled : (sp : Spilled) (l v : ℕ) → holds sp l ≡ false → line_of v ≡ l → is_some (sp v) ≡ true → ⊥
unfolding holds any_word
unspilled sp l v h e q =
    let r : 8 * l + v % 8 ≡ v = omega arith in
    let m : is_some (sp (8 * l + v % 8)) ≡ true = rw r q in
    let a : any_below (λ k. is_some (sp (8 * l + k))) 8 ≡ true = any_below-at (λ k. is_some (sp (8 * l + k))) 8 (v % 8) (omega arith) m in
    cc

-- a valid word has a frame
-- the marks and spilled words stay
same-words : {sh : Shape} {solo : Bool} {c d : Cache} {sp : Spilled} {ss : List Stored} → IsCache sh d
    → ((w : ℕ) → solo ≡ true → d.read w ≡ c.read w) → ((w : ℕ) → d.modified w ≡ c.modified w)
    → ((w : ℕ) → c.dirty w ≡ None → d.dirty w ≡ None) → Words sh solo c sp ss → Words sh solo d sp ss
same-words i r m t k = record {
  cache = i;
  spilled_alone = k.spilled_alone;
  unread_alone = λ s w. r w s ∙ k.unread_alone s w;
  named = λ w. rw (m w) (k.named w);
  clean = λ v w e s. let x = k.clean v w e s in (m w ∙ x.0, t w x.1);
}

pub words-marked : (sh : Shape) (c : Cache) (w x : ℕ) (sp : Spilled) (ss : List Stored) → c.value w ≡ Some x → Words sh false c sp ss
    → Words sh false (marked w c) sp ss
unfolding marked
words-marked sh c w x sp ss e k = same-words (marked-keeps sh w c (held_valued sh c w x k.cache e) k.cache)
    (λ v q. absurd (cc)) (λ v. refl) (λ v q. q) k

pub placed-marks : (sh : Shape) (l : ℕ) (c : Cache) (v : ℕ)
    → ((placed sh l c).read v ≡ c.read v) × ((placed sh l c).modified v ≡ c.modified v) × ((placed sh l c).dirty v ≡ c.dirty v)
unfolding placed placed_at
placed-marks sh l c v = go (free_way sh c (set_of sh l))
  where
    go : (y : Option ℕ) → ((placed_at y (set_of sh l) l c).read v ≡ c.read v) × ((placed_at y (set_of sh l) l c).modified v ≡ c.modified v)
        × ((placed_at y (set_of sh l) l c).dirty v ≡ c.dirty v)
    go None = (refl, refl, refl)
    go (Some y) = (refl, refl, refl)

pub words-placed : {sh : Shape} {solo : Bool} {c : Cache} (l : ℕ) {sp : Spilled} {ss : List Stored} → c.held l ≡ false
    → Words sh solo c sp ss → Words sh solo (placed sh l c) sp ss
words-placed {sh} {c} l e k = same-words (placed-keeps sh l c e k.cache) (λ v q. (same v).0) (λ v. (same v).1) (λ v q. (same v).2 ∙ q) k
  where
    same : (v : ℕ) → ((placed sh l c).read v ≡ c.read v) × ((placed sh l c).modified v ≡ c.modified v)
        × ((placed sh l c).dirty v ≡ c.dirty v)
    same v = placed-marks sh l c v

-- one more store names its word too
names-more : (base : ℕ) (ss : List Stored) (s : Stored) (w v : ℕ) → word_of base s.addr ≡ w
    → stores_word base (ss ++ s ∷ []) v ≡ (stores_word base ss v || (v == w))
unfolding stores_word
names-more base ss s w v e = grind (nats, stores_word-append)

pub words-stored : {sh : Shape} {solo : Bool} {c : Cache} (w x : ℕ) (also : Bool) {sp : Spilled} {ss : List Stored} (s : Stored)
    → c.held (line_of w) ≡ true → holds sp (line_of w) ≡ false → (solo ≡ true → also ≡ false) → word_of sh.base s.addr ≡ w
    → Words sh solo c sp ss → Words sh solo (stored w x also c) sp (ss ++ s ∷ [])
unfolding stored
words-stored {sh} {solo} {c} w x also {sp} {ss} s h u a e k = record {
  cache = stored-keeps sh w x also c h k.cache;
  spilled_alone = k.spilled_alone;
  unread_alone = λ q v. unread q v (w == v);
  named = λ v. named v (v == w) refl ∙ sym (names-more sh.base ss s w v e);
  clean = λ v y l q. clean v y l q (y == w) refl (line_of w == line_of y) refl;
}
  where
    unread : solo ≡ true → (v : ℕ) (b : Bool) → (if b then also || c.read v else c.read v) ≡ false
    unread q v true = rw (a q, k.unread_alone q v)
    unread q v false = k.unread_alone q v

    named : (v : ℕ) (b : Bool) → (v == w) ≡ b
        → ((if (v == w) then true else c.modified v) || is_some (sp v)) ≡ (stores_word sh.base ss v || (v == w))
    named v a q = grind nats

    clean : (v y : ℕ) → line_of v ≡ line_of y → is_some (sp v) ≡ true → (b : Bool) → (y == w) ≡ b → (l : Bool)
        → (line_of w == line_of y) ≡ l → ((if (y == w) then true else c.modified y) ≡ false) × ((if l then None else c.dirty y) ≡ None)
    clean v y l q true p m n = let i : y ≡ w = grind nats in absurd (unspilled sp (line_of w) v u (l ∙ ap line_of i) q)
    clean v y l q false p true n = let x = k.clean v y l q in rw p (x.0, refl)
    clean v y l q false p false n = let x = k.clean v y l q in rw p (x.0, x.1)

pub words-buffered : {sh : Shape} {solo : Bool} {c : Cache} (w x : ℕ) {sp : Spilled} {ss : List Stored} (s : Stored) (v : ℕ)
    → line_of v ≡ line_of w → is_some (sp v) ≡ true → word_of sh.base s.addr ≡ w → Words sh solo c sp ss
    → Words sh solo c (put sp w (Some x)) (ss ++ s ∷ [])
words-buffered {sh} {c} w x {sp} {ss} s v l q e k = record {
  cache = k.cache;
  spilled_alone = λ a y. let n : sp v ≡ None = k.spilled_alone a v in let m : is_some (sp v) ≡ false = rw n in absurd (cc);
  unread_alone = k.unread_alone;
  named = λ y. named y (y == w) refl ∙ sym (names-more sh.base ss s w y e);
  clean = λ u y m p. clean u y m (u == w) refl p;
}
  where
    named : (y : ℕ) (b : Bool) → (y == w) ≡ b
        → (c.modified y || is_some (if (y == w) then Some x else sp y)) ≡ (stores_word sh.base ss y || (y == w))
    named y a p = grind nats

    clean : (u y : ℕ) → line_of u ≡ line_of y → (b : Bool) → (u == w) ≡ b → is_some (if (u == w) then Some x else sp u) ≡ true
        → (c.modified y ≡ false) × (c.dirty y ≡ None)
    clean u y m true p r = let i : u ≡ w = grind nats in k.clean v y (l ∙ ap line_of (sym i) ∙ m) q
    clean u y m false p r = k.clean u y m (rw p at r)

or_other : {a : Bool} (b : Bool) → a ≡ false → (a || b) ≡ b
or_other b e = rw e

-- a frame is emptied: what was modified in it is spilled
evicted-fields : (c : Cache) (s y l v : ℕ) → c.at s y ≡ Some l → ((evicted s y c).read v ≡ (if l == line_of v then false else c.read v))
    × ((evicted s y c).modified v ≡ (if l == line_of v then false else c.modified v))
    × ((evicted s y c).dirty v ≡ (if l == line_of v then None else c.dirty v))
unfolding evicted evicted_line
evicted-fields c s y l v e = rw e (refl, refl, refl)

pub words-evicted : {sh : Shape} {solo : Bool} {c : Cache} (s y l : ℕ) {sp : Spilled} {ss : List Stored} → c.at s y ≡ Some l
    → (solo ≡ false → (v : ℕ) → l ≡ line_of v → c.modified v ≡ false) → Words sh solo c sp ss
    → Words sh solo (evicted s y c) (spill_line l c sp) ss
unfolding spill_line
words-evicted {sh} {solo} {c} s y l {sp} {ss} e m k = record {
  cache = evicted-keeps sh s y c k.cache;
  spilled_alone = λ a w. spilled a w (l == line_of w) refl;
  unread_alone = λ a w. (evicted-fields c s y l w e).0 ∙ unread a w (l == line_of w);
  named = λ w. named w (l == line_of w) (c.modified w) refl refl;
  clean = λ v w q r. clean v w q r (l == line_of w) refl;
}
  where
    spilled : solo ≡ false → (w : ℕ) (b : Bool) → (l == line_of w) ≡ b
        → (if b && c.modified w then Some (unwrap_or (c.value w) 0) else sp w) ≡ None
    spilled a w b q = grind nats

    unread : solo ≡ true → (w : ℕ) (b : Bool) → (if b then false else c.read w) ≡ false
    unread a w b = grind nats

    named : (w : ℕ) (b n : Bool) → (l == line_of w) ≡ b → c.modified w ≡ n
        → ((evicted s y c).modified w || is_some (if (l == line_of w) && c.modified w then Some (unwrap_or (c.value w) 0) else sp w))
        ≡ stores_word sh.base ss w
    named w false n q r = rw (evicted-fields c s y l w e).1 (rw q (k.named w))
    named w true true q r = rw (evicted-fields c s y l w e).1 (rw (q, r) (sym (or-left (c.modified w) (is_some (sp w)) r) ∙ k.named w))
    named w true false q r = rw (evicted-fields c s y l w e).1 (rw (q, r) (sym (or_other (is_some (sp w)) r) ∙ k.named w))

    clean : (v w : ℕ) → line_of v ≡ line_of w → is_some (if (l == line_of v) && c.modified v then Some (unwrap_or (c.value v) 0) else sp v)
        ≡ true → (b : Bool) → (l == line_of w) ≡ b → ((evicted s y c).modified w ≡ false) × ((evicted s y c).dirty w ≡ None)
    clean v w q r true p = ((evicted-fields c s y l w e).1 ∙ rw p, (evicted-fields c s y l w e).2 ∙ rw p)
    clean v w q r false p =
        let z : (l == line_of v) ≡ false = rw q p in
        let x = k.clean v w q (rw z at r) in
        ((evicted-fields c s y l w e).1 ∙ rw p x.0, (evicted-fields c s y l w e).2 ∙ rw p x.1)

pub words-filled : {sh : Shape} {solo : Bool} {c : Cache} (l : ℕ) (ws : List ℕ) {sp : Spilled} {ss : List Stored} → c.held l ≡ true
    → Words sh solo c sp ss → Words sh solo (filled l ws c) sp ss
unfolding filled
words-filled {sh} {c} l ws e k = same-words (filled-keeps sh l ws c e k.cache) (λ v q. refl) (λ v. refl) (λ v q. q) k

pub words-invalidated : {sh : Shape} {solo : Bool} {c : Cache} (l m : ℕ) {sp : Spilled} {ss : List Stored} → Words sh solo c sp ss
    → Words sh solo (invalidated l m c) sp ss
unfolding invalidated
words-invalidated {sh} {c} l m k = same-words (invalidated-keeps sh l m c k.cache)
    (λ v q. refl) (λ v. refl) (λ v q. clean (hit l m v && not (c.modified v)) q) k
  where
    clean : {x : Option ℕ} (b : Bool) → x ≡ None → (if b then None else x) ≡ None
    clean true q = refl
    clean false q = q

pub words-cleaned : {sh : Shape} {solo : Bool} {c : Cache} (l : ℕ) {sp : Spilled} {ss : List Stored} → Words sh solo c sp ss
    → Words sh solo (cleaned l c) sp ss
unfolding cleaned
words-cleaned {sh} {c} l k = same-words (cleaned-keeps sh l c k.cache) (λ v q. refl) (λ v. refl) (λ v q. clean (l == line_of v) q) k
  where
    clean : {x : Option ℕ} (b : Bool) → x ≡ None → (if b then None else x) ≡ None
    clean true q = refl
    clean false q = q

-- nothing is left of the attempt
pub words-none : {sh : Shape} (solo : Bool) {c : Cache} (sp : Spilled) → IsCache sh c → ((w : ℕ) → c.read w ≡ false)
    → ((w : ℕ) → c.modified w ≡ false) → ((w : ℕ) → sp w ≡ None) → Words sh solo c sp []
unfolding stores_word
words-none solo sp i r m z = record {
  cache = i;
  spilled_alone = λ a w. z w;
  unread_alone = λ a w. r w;
  named = λ w. rw (m w, z w);
  clean = λ v w e q. let n : is_some (sp v) ≡ false = rw (z v) in absurd (cc);
}

pub words-rolled : {sh : Shape} (solo : Bool) {c : Cache} (sp : Spilled) → IsCache sh c → ((w : ℕ) → sp w ≡ None)
    → Words sh solo (rolled_back c) sp []
unfolding rolled_back
words-rolled {sh} solo {c} sp i z = words-none solo sp (rolled_back-keeps sh c i) (λ w. refl) (λ w. refl) z

pub words-committed : {sh : Shape} (solo : Bool) (t : ℕ) {c : Cache} (sp : Spilled) → IsCache sh c → ((w : ℕ) → sp w ≡ None)
    → Words sh solo (committed t c) sp []
unfolding committed
words-committed {sh} solo t {c} sp i z = words-none solo sp (committed-keeps sh t c i) (λ w. refl) (λ w. refl) z

pub words-evicted_unmarked : (sh : Shape) (c : Cache) (l v : ℕ) → is_marked c l ≡ false → l ≡ line_of v → c.modified v ≡ false
words-evicted_unmarked sh c l v m e = (unmarked-word c l v m e).0

-- a core that becomes alone reads without marks
pub words-alone : {sh : Shape} (c : Cache) {sp : Spilled} {ss : List Stored} → Words sh false c sp ss → Words sh true (read_cleared c) sp ss
unfolding read_cleared
words-alone {sh} c k =
    record {
      cache = read_cleared-keeps sh c k.cache;
      spilled_alone = λ a w. absurd (cc);
      unread_alone = λ a w. refl;
      named = k.named;
      clean = k.clean;
    }

-- What each of a core's rules does to the words that are marked read, and that words which its attempt loaded are marked read or modified.

-- What each of a core's rules does to the words that are marked read: they are valid, or as they were, or their marks are cleared.

-- a word that is marked read in the cache d is valid there, or it is marked and valid in d as it was in c
abbrev pub StillRead : (c d : Cache) → (word : ℕ) → Type 0
StillRead c d x = d.read x ≡ true → (is_some (d.value x) ≡ true) ⊎ ((c.read x ≡ true) × (d.value x ≡ c.value x))

-- no word is marked read any more; or the core keeps its TID, if it has one, and each word that is marked is valid or as it was
pub data Reading (s r : CoreState) : Type 0 where
  Cleared : ((x : ℕ) → r.cache.read x ≡ false) → Reading s r
  Kept : ((t : ℕ) → has_tid s.phase t ≡ true → has_tid r.phase t ≡ true) → ((x : ℕ) → StillRead s.cache r.cache x) → Reading s r

-- the word is valid, or the core has a TID that a directory which serves n has passed
abbrev pub ValidOrPassed : (value : Option ℕ) → Phase → (serving : ℕ) → Type 0
ValidOrPassed y q n = (is_some y ≡ true) ⊎ ((t : ℕ) × (has_tid q t ≡ true) × (t < n))

-- so is each word at home at directory d that is marked read
abbrev pub ReadOf : Shape → (dir serving : ℕ) → CoreState → Type 0
ReadOf sh d n s = (x : ℕ) → home_of sh x ≡ d → s.cache.read x ≡ true → ValidOrPassed (s.cache.value x) s.phase n

pub read-kept : (sh : Shape) (d n : ℕ) {s r : CoreState} → Reading s r → ReadOf sh d n s → ReadOf sh d n r
read-kept sh d n (Cleared h) k x e y = absurd (let z = h x in cc)
read-kept sh d n {s} {r} (Kept tid words) k x e y = elim (words x y) [ inl z ↦ inl z | inr z ↦ before z.1 (k x e z.0) ]
  where
    before : r.cache.value x ≡ s.cache.value x → ValidOrPassed (s.cache.value x) s.phase n → ValidOrPassed (r.cache.value x) r.phase n
    before v (inl z) = inl (rw v z)
    before v (inr z) = inr (z.0, tid z.0 z.1, z.2)

reads-same : (c : Cache) (x : ℕ) → StillRead c c x
reads-same c x e = inr (e, refl)

-- the same TID, and the same cache but for these words
as-before : (s r : CoreState) → r.phase ≡ s.phase → ((x : ℕ) → StillRead s.cache r.cache x) → Reading s r
as-before s r p h = Kept (λ t e. rw p e) h

-- the phase changes, and the core keeps the TID that it has in q
tid-kept : (s r : CoreState) {q : Phase} → s.phase ≡ q → ((t : ℕ) → has_tid q t ≡ true → has_tid r.phase t ≡ true)
    → ((x : ℕ) → StillRead s.cache r.cache x) → Reading s r
tid-kept s r e n h = Kept (λ t y. n t (rw e at y)) h

-- a core without a TID enters another phase
no-tid : {s r : CoreState} {q : Phase} → s.phase ≡ q → ((t : ℕ) → has_tid q t ≡ false) → ((x : ℕ) → StillRead s.cache r.cache x)
    → Reading s r
no-tid {s} {r} e n h = tid-kept s r e (λ t y. absurd (let z = n t in cc)) h

-- what the changes of a cache do
reads-marked : (w x v : ℕ) (c : Cache) → c.value w ≡ Some x → StillRead c (marked w c) v
unfolding marked
reads-marked w x v c e = go (w == v) refl
  where
    go : (b : Bool) → (w == v) ≡ b → (if b then c.read v || not (c.modified v) else c.read v) ≡ true
        → (is_some (c.value v) ≡ true) ⊎ ((c.read v ≡ true) × (c.value v ≡ c.value v))
    go true q h = let i : w ≡ v = grind nats in inl (subst (λ y. is_some (c.value y) ≡ true) i (rw e))
    go false q h = inr (h, refl)

reads-stored : (w x v : ℕ) (also : Bool) (c : Cache) → StillRead c (stored w x also c) v
unfolding stored
reads-stored w x v also c = go (w == v) (v == w) refl refl
  where
    go : (a b : Bool) → (w == v) ≡ a → (v == w) ≡ b → (if a then also || c.read v else c.read v) ≡ true
        → (is_some (if b then Some x else c.value v) ≡ true) ⊎ ((c.read v ≡ true) × ((if b then Some x else c.value v) ≡ c.value v))
    go a true p q h = inl refl
    go false false p q h = inr (h, refl)
    go true false p q h = absurd (grind nats)

reads-placed : (sh : Shape) (l v : ℕ) (c : Cache) → StillRead c (placed sh l c) v
reads-placed sh l v c h = inr (sym (read-placed sh l c v) ∙ h, value-placed sh l c v)

reads-then : (b c d : Cache) (v : ℕ) → StillRead b c v → StillRead c d v → StillRead b d v
reads-then b c d v f g h = elim (g h) [ inl y ↦ inl y | inr y ↦ further y.1 (f y.0) ]
  where
    further : d.value v ≡ c.value v → (is_some (c.value v) ≡ true) ⊎ ((b.read v ≡ true) × (c.value v ≡ b.value v))
        → (is_some (d.value v) ≡ true) ⊎ ((b.read v ≡ true) × (d.value v ≡ b.value v))
    further e (inl y) = inl (rw e y)
    further e (inr y) = inr (y.0, e ∙ y.1)

-- executing
pub reading-exec : (sh : Shape) (p : Program) (c : ℕ) (s : CoreState) → IfSome (core_exec sh p c s) (λ o. Reading s o.core)
unfolding commit solo_commit committed_core committed has_tid
reading-exec sh p c s = each-exec sh p c s (λ o. Reading s o.core) go
  where
    w : ℕ → ℕ
    w a = word_of sh.base a

    go : (x : Did sh p c s) → Reading s (out x).core
    go (Reads a x z l g r f) = as-before s _ refl (λ v. reads-marked (w a) x v s.cache f)
    go (Frames a y also n k g i f) = as-before s _ refl (λ v. reads-stored (w a) y v also s.cache)
    go (Frames_anew a y n k g i q f h) = as-before s _ refl (λ v. reads-then s.cache (placed sh (line_of (w a)) s.cache)
        (stored (w a) y false (placed sh (line_of (w a)) s.cache)) v (reads-placed sh (line_of (w a)) v s.cache)
        (reads-stored (w a) y v false (placed sh (line_of (w a)) s.cache)))
    go (Misses_anew a n g i q f) = as-before s _ refl (λ v. reads-placed sh (line_of (w a)) v s.cache)
    go (Room_wanted r i) = no-tid r (λ t. refl) (reads-same s.cache)
    go (Ends_run l e f r i) = no-tid r (λ t. refl) (reads-same s.cache)
    go (Ends_alone t l e f r i) = Cleared (λ v. refl)
    go (Commits_now t r) = Cleared (λ v. refl)
    go _ = as-before s _ refl (reads-same s.cache)

-- evicting clears the marks of the line that it takes
reads-evicted : (x y l v : ℕ) (c : Cache) → c.at x y ≡ Some l → StillRead c (evicted x y c) v
unfolding evicted evicted_line
reads-evicted x y l v c e = rw e (go (l == line_of v))
  where
    go : (b : Bool) → (if b then false else c.read v) ≡ true → (is_some (if b then None else c.value v) ≡ true)
        ⊎ ((c.read v ≡ true) × ((if b then None else c.value v) ≡ c.value v))
    go true h = absurd (cc)
    go false h = inr (h, refl)

pub reading-evict : (sh : Shape) (x y : ℕ) (s : CoreState) → IfSome (core_evict sh x y s) (λ o. Reading s o.core)
reading-evict sh x y s = each-evict sh x y s (λ o. Reading s o.core) (λ l e a m. as-before s _ refl (λ v. reads-evicted x y l v s.cache e))

-- What each message to a core does to the words that are marked read.

pub reading-grant : (sh : Shape) (u : ℕ) (s : CoreState) → Reading s (grant sh u s).core
unfolding has_tid
reading-grant sh u s = each-grant sh u s (λ o. Reading s o.core) go
  where
    go : (x : Granted sh u s) → Reading s (granted x).core
    go (Given e) = no-tid e (λ t. refl) (reads-same s.cache)
    go (Given_doomed e) = no-tid e (λ t. refl) (reads-same s.cache)
    go (Given_room e) = no-tid e (λ t. refl) (reads-same s.cache)
    go (Given_none e) = as-before s _ refl (reads-same s.cache)

reads-filled : (l v : ℕ) (ws : List ℕ) (c : Cache) → StillRead c (filled l ws c) v
unfolding filled
reads-filled l v ws c = go (l == line_of v)
  where
    go : (b : Bool) → c.read v ≡ true → (is_some (if b then Some (unwrap_or (c.value v) (get_or ws (place_of v) 0)) else c.value v) ≡ true)
        ⊎ ((c.read v ≡ true) × ((if b then Some (unwrap_or (c.value v) (get_or ws (place_of v) 0)) else c.value v) ≡ c.value v))
    go true h = inl refl
    go false h = inr (h, refl)

-- an invalidation

-- a masked word that is marked read
-- a core that is ahead of TID u, or has it, has a TID up to u
pub tid-ahead : (u : ℕ) (q : Phase) → may_be_above u q ≡ false → (t : ℕ) × (has_tid q t ≡ true) × (t ≤ u)
unfolding has_tid
tid-ahead u (Probing t) h = (t, grind nats, grind nats)
tid-ahead u (Ready t) h = (t, grind nats, grind nats)
tid-ahead u (Overflowing (Some t)) h = (t, grind nats, grind nats)
tid-ahead u (Solo t) h = (t, grind nats, grind nats)
tid-ahead u _ h = absurd (cc)

-- where the line is at home at directory d, which serves n, this has passed the core's TID, unless that is above the TID u
abbrev pub PassesTid : Shape → CoreState → (dir serving line tid : ℕ) → Type 0
PassesTid sh s d n l u = home sh l ≡ d → (t : ℕ) → has_tid s.phase t ≡ true → t ≤ u → t < n

-- a core that isn't violated: a read word that becomes invalid is one of a core that is ahead
unhurt : (sh : Shape) (l m u d n : ℕ) (s : CoreState) → is_violated l m u s ≡ false → PassesTid sh s d n l u → ReadOf sh d n s
    → ReadOf sh d n (words_invalidated l m s)
unfolding words_invalidated invalidated is_violated
unhurt sh l m u d n s v p k x e y = go (hit l m x) refl
  where
    ahead : (a b : Bool) → a ≡ true → (a && b) ≡ false → b ≡ false
    ahead true b f q = q
    ahead false b f q = absurd (cc)

    passed : l ≡ line_of x → may_be_above u s.phase ≡ false → (t : ℕ) × (has_tid s.phase t ≡ true) × (t < n)
    passed i a = let z = tid-ahead u s.phase a in (z.0, z.1, p (rw i e) z.0 z.1 z.2)

    go : (b : Bool) → hit l m x ≡ b → ValidOrPassed (if b && not (s.cache.modified x) then None else s.cache.value x) s.phase n
    go false q = k x e y
    go true q = let i = hit-line l m x q in
        inr (passed i (ahead (reads_masked l m s.cache) (may_be_above u s.phase) (hit-reads l m s.cache x y q i) v))

-- what is asked of a message: of an invalidation, that its line's home has passed the TID of a core that is ahead of it
abbrev pub Admits : Shape → CoreState → (dir serving : ℕ) → Msg → Type 0
Admits sh s d n (Inv l m u) = PassesTid sh s d n l u
Admits sh s d n _ = Unit {0}

pub reads-back : {sh : Shape} (e d n : ℕ) {s : CoreState} (m : Msg) → OneCore sh s → Admits sh s d n m → ReadOf sh d n s
    → IfSome (from_dir sh e s m) (λ o. ReadOf sh d n o.core)
unfolding words_invalidated invalidated cleaned rolled_back read_cleared has_tid
reads-back {sh} e d n {s} m h p k = given (from_dir sh e s m) (Admits sh s d n m) (λ o. ReadOf sh d n o.core)
    (each-back sh e s (λ m o. Admits sh s d n m → ReadOf sh d n o.core) go m) p
  where
    kept : (r : CoreState) → Reading s r → ReadOf sh d n r
    kept r y = read-kept sh d n y k

    go : (x : Heard sh e s) → Admits sh s d n (message x) → ReadOf sh d n (heard x).core
    go (Last_probing u v q o r) p = kept (record s { owing = put s.owing e false; phase = Ready u })
        (tid-kept s _ q (λ t z. z) (reads-same s.cache))
    go (Last_room u v q o r) p = λ x f y. absurd (cc)
    go (Fills l ws a q i f) p = kept (record s { cache = filled l ws s.cache; awaited = None })
        (as-before s _ refl (λ v. reads-filled l v ws s.cache))
    go (Hands_out l) p = kept (record s { cache = cleaned l s.cache }) (as-before s _ refl (λ v z. inr (z, refl)))
    go (Hurt_none l m u (inl v)) p = unhurt sh l m u d n s v p k
    go (Hurt_none l m u (inr q)) p = λ x f y. absurd (let z = (h.rested q).unread x in let i : s.cache.read x ≡ true = y in cc)
    go (Hurt_running l m u v q) p = λ x f y. absurd (cc)
    go (Hurt_waiting l m u v q) p = λ x f y. absurd (cc)
    go (Hurt_probing l m u t v q) p = λ x f y. absurd (cc)
    go (Hurt_alone l m u t v q) p = λ x f y. absurd (cc)
    go x p = kept (heard x).core (as-before s _ refl (reads-same s.cache))

-- Each of a core's rules keeps that the words which its attempt loaded are marked read or modified, unless it is alone.

-- the word is marked read or modified
abbrev pub touched : Cache → ℕ → Bool
touched c w = c.read w || c.modified w

-- the attempt is empty; the core is alone; or it has loaded no further word that isn't marked, and keeps its marks
pub data Loading (sh : Shape) (s r : CoreState) : Type 0 where
  Empty : r.loads ≡ [] → Loading sh s r
  Alone_now : is_solo r.phase ≡ true → Loading sh s r
  Loaded : is_solo s.phase ≡ false
      → ((w : ℕ) → loads_word sh.base r.loads w ≡ true → (loads_word sh.base s.loads w ≡ true) ⊎ (touched r.cache w ≡ true))
      → ((w : ℕ) → touched s.cache w ≡ true → touched r.cache w ≡ true) → Loading sh s r

loads-marked : {sh : Shape} {s r : CoreState} → LoadsMarked sh s → Loading sh s r → LoadsMarked sh r
unfolding loads_word
loads-marked h (Empty e) = λ w a l. absurd (let z : false ≡ true = rw e at l in cc)
loads-marked h (Alone_now e) = λ w a l. absurd (cc)
loads-marked {sh} {s} {r} h (Loaded b more marks) = λ w a l. go w (more w l)
  where
    go : (w : ℕ) → (loads_word sh.base s.loads w ≡ true) ⊎ (touched r.cache w ≡ true) → touched r.cache w ≡ true
    go w a = grind nats

-- the same loads, and marks that are kept
pub kept : (sh : Shape) (s r : CoreState) → is_solo s.phase ≡ false → r.loads ≡ s.loads
    → ((w : ℕ) → touched s.cache w ≡ true → touched r.cache w ≡ true) → Loading sh s r
kept sh s r b e m = Loaded b (λ w l. inl (rw e at l)) m

-- where a core that isn't alone keeps its marks, and else stays alone
either-way : {sh : Shape} {s r : CoreState} → r.phase ≡ s.phase → r.loads ≡ s.loads
    → ((w : ℕ) → touched s.cache w ≡ true → touched r.cache w ≡ true) → Loading sh s r
either-way {sh} {s} {r} p e m = elim (tested (is_solo s.phase)) [ inl q ↦ Alone_now (rw p q) | inr q ↦ kept sh s r q e m ]

-- one more load, of a word that is marked now
one-more : {sh : Shape} {s r : CoreState} (m : Load) → is_solo s.phase ≡ false → r.loads ≡ s.loads ++ m ∷ []
    → touched r.cache (word_of sh.base m.addr) ≡ true → ((w : ℕ) → touched s.cache w ≡ true → touched r.cache w ≡ true) → Loading sh s r
unfolding loads_word
one-more {sh} {s} {r} m b e t k =
    Loaded b (λ w l. go w (loads_word sh.base s.loads w) refl (rw (e, loads_word-append sh.base s.loads (m ∷ []) w) at l)) k
  where
    go : (w : ℕ) (a : Bool) → loads_word sh.base s.loads w ≡ a → (a || ((word_of sh.base m.addr == w) || false)) ≡ true
        → (loads_word sh.base s.loads w ≡ true) ⊎ (touched r.cache w ≡ true)
    go w true q l = inl q
    go w false q l = let i : word_of sh.base m.addr ≡ w = grind nats in inr (rw i at t)

-- what marks the changes of a cache keep
marked-touched : (w v : ℕ) (c : Cache) → touched c v ≡ true → touched (marked w c) v ≡ true
unfolding marked
marked-touched w v c h = grind nats

marked-now : (w : ℕ) (c : Cache) → touched (marked w c) w ≡ true
unfolding marked
marked-now w c = grind nats

stored-touched : (w x v : ℕ) (also : Bool) (c : Cache) → touched c v ≡ true → touched (stored w x also c) v ≡ true
unfolding stored
stored-touched w x v also c h = grind nats

stored-now : (w x : ℕ) (also : Bool) (c : Cache) → touched (stored w x also c) w ≡ true
unfolding stored
stored-now w x also c = grind nats

placed-touched : (sh : Shape) (l : ℕ) (c : Cache) (v : ℕ) → touched c v ≡ true → touched (placed sh l c) v ≡ true
placed-touched sh l c v h = let m = placed-marks sh l c v in rw (m.0, m.1) h

-- executing

-- a core that executes is alone where it doesn't run
acts-alone : (q : Phase) → Acts q → is_running q ≡ false → is_solo q ≡ true
acts-alone b a e = grind nats

-- a spilled word is one of a core that is alone
spilled-solo : {sh : Shape} {s : CoreState} (v : ℕ) → OneCore sh s → is_some (s.spilled v) ≡ true → is_solo s.phase ≡ true
spilled-solo v h e = grind nats

-- the word is stored, and loaded before where the instruction changes it
storing : {sh : Shape} {s r : CoreState} {a : ℕ} (k : Storing s a) → r.phase ≡ s.phase → r.loads ≡ k.loads
    → touched r.cache (word_of sh.base a) ≡ true → ((v : ℕ) → touched s.cache v ≡ true → touched r.cache v ≡ true) → Loading sh s r
storing {sh} {s} {r} {a} k p l t m = go (is_solo s.phase) refl k.loaded
  where
    go : (b : Bool) → is_solo s.phase ≡ b → (k.loads ≡ s.loads) ⊎ ((y : Load) × (y.addr ≡ a) × (k.loads ≡ s.loads ++ y ∷ []))
        → Loading sh s r
    go true q z = Alone_now (rw p q)
    go false q (inl z) = kept sh s r q (l ∙ z) m
    go false q (inr z) = one-more z.0 q (l ∙ z.2) (rw z.1 t) m

did-loading : {sh : Shape} {p : Program} {c : ℕ} {s : CoreState} → OneCore sh s → (x : Did sh p c s) → Loading sh s (out x).core
unfolding commit solo_commit committed_core
did-loading {sh} h (Finds a x z l g (inl f)) = Alone_now (spilled-solo (word_of sh.base a) h f)
did-loading {s} h (Finds a x z l g (inr f)) = Alone_now (acts-alone s.phase g.acts f)
did-loading {sh} {s} h (Reads a x z l g r f) = one-more (load_of a z (part x a z)) (rw r) refl
    (marked-now (word_of sh.base a) s.cache) (λ v t. marked-touched (word_of sh.base a) v s.cache t)
did-loading h (Buffers a y v n k g i q f) = Alone_now (spilled-solo v h f)
did-loading {sh} {s} h (Frames a y also n k g i f) = storing k refl refl (stored-now (word_of sh.base a) y also s.cache)
    (λ v t. stored-touched (word_of sh.base a) y v also s.cache t)
did-loading {sh} {s} h (Frames_anew a y n k g i q f o) =
    storing k refl refl (stored-now (word_of sh.base a) y false (placed sh (line_of (word_of sh.base a)) s.cache))
    (λ v t. stored-touched (word_of sh.base a) y v false (placed sh (line_of (word_of sh.base a)) s.cache)
    (placed-touched sh (line_of (word_of sh.base a)) s.cache v t))
did-loading {sh} {s} h (Misses_anew a n g i q f) = either-way refl refl (placed-touched sh (line_of (word_of sh.base a)) s.cache)
did-loading {sh} {s} h (Room_wanted r i) = kept sh s _ (rw r) refl (λ v t. t)
did-loading {sh} {s} h (Ends_run l e f r i) = kept sh s _ (rw r) refl (λ v t. t)
did-loading h (Ends_alone t l e f r i) = Empty refl
did-loading h (Commits_now t r) = Empty refl
did-loading h _ = either-way refl refl (λ v t. t)

pub loaded-exec : {sh : Shape} (p : Program) (c : ℕ) {s : CoreState} → OneCore sh s → LoadsMarked sh s
    → IfSome (core_exec sh p c s) (λ o. LoadsMarked sh o.core)
loaded-exec {sh} p c {s} h k = each-exec sh p c s (λ o. LoadsMarked sh o.core) (λ x. loads-marked k (did-loading h x))

-- an unmarked line is evicted, unless the core is alone
pub loaded-evict : (sh : Shape) (x y : ℕ) (s : CoreState) → LoadsMarked sh s → IfSome (core_evict sh x y s) (λ o. LoadsMarked sh o.core)
loaded-evict sh x y s k = each-evict sh x y s (λ o. LoadsMarked sh o.core) (λ l e a m. loads-marked k (go l e m))
  where
    go : (l : ℕ) → s.cache.at x y ≡ Some l → (is_marked s.cache l ≡ false) ⊎ (is_solo s.phase ≡ true)
        → Loading sh s (emptied sh x y l s).core
    go l e (inl m) = either-way refl refl (λ w t. let u = evicted-modified x y l s.cache e m w in rw (u.0, u.1) t)
    go l e (inr m) = Alone_now m

-- Each message keeps that the words which a core's attempt loaded are marked read or modified, unless it is alone.

pub loaded-grant : (sh : Shape) (u : ℕ) (s : CoreState) → LoadsMarked sh s → LoadsMarked sh (grant sh u s).core
loaded-grant sh u s k = each-grant sh u s (λ o. LoadsMarked sh o.core) (λ x. loads-marked k (go x))
  where
    go : (x : Granted sh u s) → Loading sh s (granted x).core
    go (Given e) = kept sh s _ (rw e) refl (λ w t. t)
    go (Given_doomed e) = kept sh s _ (rw e) refl (λ w t. t)
    go (Given_room e) = kept sh s _ (rw e) refl (λ w t. t)
    go (Given_none e) = either-way refl refl (λ w t. t)

pub loaded-back : (sh : Shape) (e : ℕ) (s : CoreState) (m : Msg) → LoadsMarked sh s → IfSome (from_dir sh e s m)
    (λ o. LoadsMarked sh o.core)
unfolding filled cleaned invalidated
loaded-back sh e s m k = each-back sh e s (λ m o. LoadsMarked sh o.core) (λ x. loads-marked k (go x)) m
  where
    go : (x : Heard sh e s) → Loading sh s (heard x).core
    go (Last_probing u v q o r) = kept sh s _ (rw q) refl (λ w t. t)
    go (Last_room u v q o r) = Alone_now refl
    go (Hurt_running l m u v q) = Empty refl
    go (Hurt_waiting l m u v q) = Empty refl
    go (Hurt_probing l m u t v q) = Empty refl
    go (Hurt_alone l m u t v q) = Empty refl
    go _ = either-way refl refl (λ w t. t)
