-- What goes to the homes of the lines of a list, directory by directory.
use Rattle.std.proofs.Common.{ℕ, suc, zero, ◌%◌, ◌<◌, ◌≤◌, ◌≡◌, Bool, true, false, not, cond, ◌==◌, ◌&&◌, ◌||◌, nat_eq, nat_lt}
use Rattle.std.proofs.Common.{if◌then◌else◌, List, [], ◌∷◌, ◌++◌, map, length, append_assoc, append-nil, refl, ap, sym, ◌∙◌, arith}
use Rattle.std.specs.List.{flat_map}
use Rattle.std.proofs.Math.Nat.{mod-lt}
use Rattle.std.proofs.lemmas.Bool.Decides.{nat_tests}
use Rattle.std.proofs.lemmas.List.{map-append, length-map}
use Rattle.base_lemmas.proofs.Lemmas.{any_below-count, count_below-most}
use Rattle.rules_maps.specs.Words.{count_below, those}
use Rattle.rules_maps.specs.Nodes.{Node, Core, Dir, Vendor, Msg, Skip, Mark, Commit, WriteBack}
use Rattle.rules_maps.specs.Shape.{Shape, home, lines}
use Rattle.rules_maps.specs.Cache.{Cache, is_modified}
use Rattle.rules_maps.specs.Spilled.{Spilled, holds, spilled_mask, spilled_words}
use Rattle.rules_maps.proofs.Lemmas.{length-those}
use Rattle.rules_tcc.specs.Commit.{is_written, written_mask, solo_writes_at, solo_marks_or_skip, solo_write_backs, solo_sends}
use Rattle.commit_engine.specs.Sent.{followed, to_first}
use Rattle.commit_engine.specs.Solo.{solo_list, at_homes, marked_line, spilled_back, here, closing}

pub flat_map-append : {X A : Type 0} (f : X → List A) (xs ys : List X) → flat_map f (xs ++ ys) ≡ flat_map f xs ++ flat_map f ys
flat_map-append f [] ys = refl
flat_map-append f (x ∷ xs) ys = ap (λ r. f x ++ r) (flat_map-append f xs ys) ∙ sym (append_assoc (f x) (flat_map f xs) (flat_map f ys))

-- of the numbers that pass one test, those of which something is said
said : {A : Type 0} (g : ℕ × ℕ → List A) (h : ℕ → ℕ × ℕ) (k : ℕ → List A) (w v : Bool) (n : ℕ)
    → (if w then g (h n) else []) ≡ (if v then k n else [])
    → flat_map g (map h (cond w (n ∷ []) [])) ≡ flat_map k (cond v (n ∷ []) [])
said g h k true true n e = append-nil (g (h n)) ∙ e ∙ sym (append-nil (k n))
said g h k true false n e = append-nil (g (h n)) ∙ e
said g h k false true n e = e ∙ sym (append-nil (k n))
said g h k false false n e = refl

picked : {A : Type 0} (W V : ℕ → Bool) (g : ℕ × ℕ → List A) (h : ℕ → ℕ × ℕ) (k : ℕ → List A) (n : ℕ)
    → ((l : ℕ) → (if W l then g (h l) else []) ≡ (if V l then k l else [])) → flat_map g (map h (those W n)) ≡ flat_map k (those V n)
unfolding those
picked W V g h k zero e = refl
picked W V g h k (suc n) e =
    ap (flat_map g) (map-append h (those W n) (cond (W n) (n ∷ []) []))
    ∙ flat_map-append g (map h (those W n)) (map h (cond (W n) (n ∷ []) []))
    ∙ ap (λ xs. xs ++ flat_map g (map h (cond (W n) (n ∷ []) []))) (picked W V g h k n e)
    ∙ ap (λ xs. flat_map k (those V n) ++ xs) (said g h k (W n) (V n) n (e n))
    ∙ sym (flat_map-append k (those V n) (cond (V n) (n ∷ []) []))

within : {A : Type 0} (w e : Bool) (xs : List A) → (if w then if e then xs else [] else []) ≡ (if e && w then xs else [])
within true true xs = refl
within true false xs = refl
within false true xs = refl
within false false xs = refl

within_spilled : (m s e : Bool) (xs : List Msg)
    → (if m || s then if e then if s then xs else [] else [] else []) ≡ (if e && s then xs else [])
within_spilled true true true xs = refl
within_spilled true true false xs = refl
within_spilled true false true xs = refl
within_spilled true false false xs = refl
within_spilled false true true xs = refl
within_spilled false true false xs = refl
within_spilled false false true xs = refl
within_spilled false false false xs = refl

-- the written lines at home at a directory
abbrev written_here : Shape → Cache → Spilled → ℕ → ℕ → Bool
written_here sh c sp d l = d == home sh l && is_written c sp l

marks_here : (sh : Shape) (c : Cache) (sp : Spilled) (t d : ℕ)
    → at_homes sh (marked_line t) (solo_list sh c sp) (Dir d) ≡ flat_map (λ l. Mark l (written_mask c sp l) t ∷ [])
    (those (written_here sh c sp d) (lines sh))
unfolding at_homes marked_line solo_list
marks_here sh c sp t d =
    picked (is_written c sp) (written_here sh c sp d) (λ m. if d == home sh m.0 then Mark m.0 m.1 t ∷ [] else [])
    (λ l. (l, written_mask c sp l)) (λ l. Mark l (written_mask c sp l) t ∷ []) (lines sh)
    (λ l. within (is_written c sp l) (d == home sh l) (Mark l (written_mask c sp l) t ∷ []))

backs_here : (sh : Shape) (c : Cache) (sp : Spilled) (t d : ℕ)
    → at_homes sh (spilled_back sp t) (solo_list sh c sp) (Dir d) ≡ solo_write_backs sh sp t d
unfolding at_homes spilled_back solo_list solo_write_backs is_written
backs_here sh c sp t d =
    picked (is_written c sp) (λ l. d == home sh l && holds sp l)
    (λ m. if d == home sh m.0 then if holds sp m.0 then WriteBack m.0 (spilled_mask sp m.0) (spilled_words sp m.0) t ∷ [] else [] else [])
    (λ l. (l, written_mask c sp l))
    (λ l. WriteBack l (spilled_mask sp l) (spilled_words sp l) t ∷ []) (lines sh)
    (λ l. within_spilled (is_modified c l) (holds sp l) (d == home sh l) (WriteBack l (spilled_mask sp l) (spilled_words sp l) t ∷ []))

singles-length : {A : Type 0} (k : ℕ → A) (ls : List ℕ) → length (flat_map (λ l. k l ∷ []) ls) ≡ length ls
singles-length k [] = refl
singles-length k (l ∷ ls) = ap suc (singles-length k ls)

pub count_here-is : (sh : Shape) (c : Cache) (sp : Spilled) (d : ℕ)
    → length (here sh d (solo_list sh c sp)) ≡ count_below (written_here sh c sp d) (lines sh)
unfolding here solo_list
count_here-is sh c sp d =
    ap length (picked (is_written c sp) (written_here sh c sp d) (λ m. if d == home sh m.0 then m ∷ [] else [])
    (λ l. (l, written_mask c sp l)) (λ l. (l, written_mask c sp l) ∷ []) (lines sh)
    (λ l. within (is_written c sp l) (d == home sh l) ((l, written_mask c sp l) ∷ [])))
    ∙ singles-length (λ l. (l, written_mask c sp l)) (those (written_here sh c sp d) (lines sh))
    ∙ length-those (written_here sh c sp d) (lines sh)

empty : {A : Type 0} (xs : List A) → length xs ≡ 0 → xs ≡ []
empty [] e = refl
empty (x ∷ xs) e = absurd (omega (arith, e))

either : (b : Bool) (xs s c : List Msg) → (b ≡ true → xs ≡ []) → xs ++ (if b then s else c) ≡ (if not b then xs ++ c else s)
either true xs s c e = rw (e refl) refl
either false xs s c e = refl

closes : (sh : Shape) (c : Cache) (sp : Spilled) (t d : ℕ)
    → at_homes sh (marked_line t) (solo_list sh c sp) (Dir d) ++ closing sh (solo_list sh c sp) t d ≡ solo_marks_or_skip sh c sp t d
unfolding closing solo_marks_or_skip solo_writes_at
closes sh c sp t d =
    let n = count_below (written_here sh c sp d) (lines sh) in
    let ls = those (written_here sh c sp d) (lines sh) in
    let f : ℕ → List Msg = λ l. Mark l (written_mask c sp l) t ∷ [] in
    let none : nat_eq n 0 ≡ true → flat_map f ls ≡ [] =
    λ z. ap (flat_map f) (empty ls (length-those (written_here sh c sp d) (lines sh) ∙ grind (arith, nat_tests))) in
    rw (marks_here sh c sp t d, count_here-is sh c sp d, any_below-count (written_here sh c sp d) (lines sh))
    (either (nat_eq n 0) (flat_map f ls) (Skip t ∷ []) (Commit t n ∷ []) none)

-- nothing goes to other nodes
elsewhere : (sh : Shape) (f : ℕ × ℕ → List Msg) (ms : List (ℕ × ℕ)) (d : ℕ) → 0 < sh.dirs → nat_lt d sh.dirs ≡ false
    → at_homes sh f ms (Dir d) ≡ []
unfolding at_homes
elsewhere sh f [] d s e = refl
elsewhere sh f (m ∷ ms) d s e =
    let below : m.0 % sh.dirs < sh.dirs = mod-lt m.0 s in
    let other : nat_eq d (m.0 % sh.dirs) ≡ false = grind (arith, nat_tests) in
    rw (other, elsewhere sh f ms d s e) refl

no_core : (sh : Shape) (f : ℕ × ℕ → List Msg) (ms : List (ℕ × ℕ)) (k : ℕ) → at_homes sh f ms (Core k) ≡ []
unfolding at_homes
no_core sh f [] k = refl
no_core sh f (m ∷ ms) k = no_core sh f ms k

no_vendor : (sh : Shape) (f : ℕ × ℕ → List Msg) (ms : List (ℕ × ℕ)) → at_homes sh f ms Vendor ≡ []
unfolding at_homes
no_vendor sh f [] = refl
no_vendor sh f (m ∷ ms) = no_vendor sh f ms

pub solo_are : (sh : Shape) (c : Cache) (sp : Spilled) (t : ℕ) (ms : List (ℕ × ℕ)) → 0 < sh.dirs → ms ≡ solo_list sh c sp
    → followed (followed (at_homes sh (marked_line t) ms) (to_first sh.dirs (closing sh ms t))) (at_homes sh (spilled_back sp t) ms)
    ≡ solo_sends sh c sp t
unfolding followed to_first solo_sends
solo_are sh c sp t ms s e =
    ap (λ (xs : List (ℕ × ℕ)). followed (followed (at_homes sh (marked_line t) xs) (to_first sh.dirs (closing sh xs t)))
    (at_homes sh (spilled_back sp t) xs)) e ∙ (λ i dst. (each dst) i)
  where
    all : List (ℕ × ℕ)
    all = solo_list sh c sp

    at : (d : ℕ) (b : Bool) → nat_lt d sh.dirs ≡ b
        → (at_homes sh (marked_line t) all (Dir d) ++ (if b then closing sh all t d else [])) ++ at_homes sh (spilled_back sp t) all (Dir d)
        ≡ (if b then solo_marks_or_skip sh c sp t d ++ solo_write_backs sh sp t d else [])
    at d true q = rw (closes sh c sp t d, backs_here sh c sp t d) refl
    at d false q = rw (elsewhere sh (marked_line t) all d s q, elsewhere sh (spilled_back sp t) all d s q) refl

    each : (dst : Node) → followed (followed (at_homes sh (marked_line t) all) (to_first sh.dirs (closing sh all t)))
        (at_homes sh (spilled_back sp t) all) dst ≡ solo_sends sh c sp t dst
    each (Dir d) = at d (nat_lt d sh.dirs) refl
    each (Core k) = rw (no_core sh (marked_line t) all k, no_core sh (spilled_back sp t) all k) refl
    each Vendor = rw (no_vendor sh (marked_line t) all, no_vendor sh (spilled_back sp t) all) refl

pub few_lines : (sh : Shape) (c : Cache) (sp : Spilled) (ms : List (ℕ × ℕ)) → ms ≡ solo_list sh c sp → length ms ≤ lines sh
unfolding solo_list
few_lines sh c sp ms e =
    let long : length ms ≡ count_below (is_written c sp) (lines sh) =
    ap length e ∙ length-map (those (is_written c sp) (lines sh)) (λ l. (l, written_mask c sp l))
    ∙ length-those (is_written c sp) (lines sh) in
    let small = count_below-most (is_written c sp) (lines sh) in
    omega (arith, long, small)

-- a directory was written exactly where a line of the list is at home
pub writes-here : (sh : Shape) (c : Cache) (sp : Spilled) (ms : List (ℕ × ℕ)) (d n : ℕ) → ms ≡ solo_list sh c sp → n ≡ length (here sh d ms)
    → solo_writes_at sh c sp d ≡ not (nat_eq n 0)
unfolding solo_writes_at
writes-here sh c sp ms d n e k =
    let count : n ≡ count_below (written_here sh c sp d) (lines sh) = k ∙ ap (λ (xs : List (ℕ × ℕ)). length (here sh d xs)) e
    ∙ count_here-is sh c sp d in
    rw count (any_below-count (written_here sh c sp d) (lines sh))
