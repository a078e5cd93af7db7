-- A core's commit: what it leaves, and the lines that it wrote.
use Rattle.std.proofs.Common.{◌≡◌, ℕ, zero, suc, ◌/◌, ◌<◌, Bool, true, false, not, ◌||◌, List, [], ◌∷◌, ◌++◌, map, get_or}
use Rattle.std.proofs.Common.{length, Option, Some, None, is_some, refl, ap, sym, ◌∙◌, subst, arith}
use Rattle.std.specs.Prelude.{◌==◌, cond, if◌then◌else◌}
use Rattle.std.proofs.lemmas.Bool.Decides.{nat_tests}
use Rattle.std.proofs.lemmas.List.{length-append, length-map}
use Rattle.std.proofs.lemmas.List.Elements.{Contains-get_or}
use Rattle.tcc_base.specs.declared.access.Commit.{Commit as Noted}
use Rattle.tcc_base.specs.declared.access.Tagged.{Tagged}
use Rattle.rules_maps.proofs.Lemmas.{those-only}
use Rattle.rules_maps.specs.CacheChange.{committed, words_dropped}
use Rattle.rules_maps.specs.Shape.{Shape, lines}
use Rattle.rules_maps.specs.Words.{any_below, line_of, or_else, those}
use Rattle.rules_tcc.specs.Attempt.{is_solo}
use Rattle.rules_tcc.specs.Commit.{commit, committed_core, is_written, solo_commit}
use Rattle.rules_tcc.specs.State.{CoreState}
use Rattle.rules_bus.specs.Commit.{all_clean, commit_out, wrote_some, written_words}
use Rattle.core_node.specs.AtHand.{line_told, lines_told, words_in}
use Rattle.bus_tcc.specs.Cleaning.{cleaned_by}
use Rattle.bus_tcc.specs.Committing.{CanCommit, IsCommitOf}
use Rattle.bus_tcc.specs.Packets.{AreInOrder}
use Rattle.bus_tcc.specs.Storing.{AreInside}
use Rattle.bus_tcc.proofs.Cleaned.{cleaned-all, is_among, word-among}
use Rattle.bus_tcc.proofs.PacketLines.{told-in-order}
use Rattle.bus_tcc.proofs.Writes.{lines-written, the_line, told-each}

-- the lines that are told
pub told-lines : (sh : Shape) (s : CoreState) (t : ℕ) → CanCommit sh s → words_in (lines_told sh t s) ≡ written_words s
told-lines sh s t k = lines-written sh s t k.valid k.inside

-- ---- no line stays dirty

some-written : (o : Option ℕ) (b : Bool) (v : Option ℕ) → b ≡ true → is_some v ≡ true → is_some (or_else o (if b then v else None)) ≡ true
some-written (Some x) b v e h = refl
some-written None true v e h = h
some-written None false v e h = cc

-- a word of no line that is told is not modified
unmodified : (sh : Shape) (s : CoreState) (t w : ℕ) → CanCommit sh s → is_among (lines_told sh t s) (line_of w) ≡ false
    → s.cache.modified w ≡ false
unfolding written_words
unmodified sh s t w k e = by (s.cache.modified w) refl
  where
    by : (b : Bool) → s.cache.modified w ≡ b → s.cache.modified w ≡ false
    by false q = q
    by true q =
        let has : is_some (written_words s w) ≡ true = some-written (s.spilled w) (s.cache.modified w) (s.cache.value w) q (k.valid w q) in
        let there : is_some (words_in (lines_told sh t s) w) ≡ true = ap (λ f. is_some (f w)) (told-lines sh s t k) ∙ has in
        let in_it = word-among (lines_told sh t s) w there in
        let bad : true ≡ false = sym in_it ∙ e in absurd (cc)

together-clean : (sh : Shape) (c t : ℕ) (s : CoreState) → CanCommit sh s
    → cleaned_by (lines_told sh t s) (commit sh c t s).core ≡ all_clean (commit sh c t s).core
unfolding commit committed_core committed
together-clean sh c t s k = cleaned-all (lines_told sh t s) (commit sh c t s).core (λ w e. rw (unmodified sh s t w k e) (k.clean w))

still-none : (b : Bool) (t : ℕ) (d : Option ℕ) → d ≡ None
    → (if (if b then false else false) then Some t else (if b then None else d)) ≡ None
still-none true t d e = refl
still-none false t d e = e

alone-clean : (sh : Shape) (c t : ℕ) (s : CoreState) → CanCommit sh s
    → cleaned_by (lines_told sh t s) (solo_commit sh c t s).core ≡ all_clean (solo_commit sh c t s).core
unfolding solo_commit committed_core committed words_dropped
alone-clean sh c t s k =
    cleaned-all (lines_told sh t s) (solo_commit sh c t s).core
    (λ w e. rw (unmodified sh s t w k e) (still-none (is_some (s.spilled w)) t (s.cache.dirty w) (k.clean w)))

commit-clean : (sh : Shape) (c t : ℕ) (s : CoreState) → CanCommit sh s
    → cleaned_by (lines_told sh t s) (commit_out sh c t s).core ≡ all_clean (commit_out sh c t s).core
commit-clean sh c t s k = by (is_solo s.phase)
  where
    by : (b : Bool) → cleaned_by (lines_told sh t s) (if b then solo_commit sh c t s else commit sh c t s).core
        ≡ all_clean (if b then solo_commit sh c t s else commit sh c t s).core
    by true = alone-clean sh c t s k
    by false = together-clean sh c t s k

-- ---- the lines are of memory

mapped : (f : ℕ → Tagged) (xs : List ℕ) (i : ℕ) (d : Tagged) → i < length (map f xs) → get_or (map f xs) i d ≡ f (get_or xs i 0)
mapped f [] i d h = absurd (omega (arith, h))
mapped f (x ∷ xs) zero d h = refl
mapped f (x ∷ xs) (suc i) d h = mapped f xs i d (omega (arith, h))

its-line : (s : CoreState) (t l : ℕ) → (the_line s t l).line.0 ≡ l
unfolding line_told
its-line s t l = refl

pub told-inside : (sh : Shape) (s : CoreState) (t : ℕ) → AreInside (sh.ram / 4) (lines_told sh t s)
told-inside sh s t = subst (AreInside (sh.ram / 4)) (sym (told-each sh s t)) each
  where
    each : AreInside (sh.ram / 4) (map (the_line s t) (those (is_written s.cache s.spilled) (lines sh)))
    each i d h =
        let xs = those (is_written s.cache s.spilled) (lines sh) in
        let l : i < length xs = rw (sym (length-map xs (the_line s t))) h in
        let below : get_or xs i 0 < lines sh = (those-only (is_written s.cache s.spilled) (lines sh) (get_or xs i 0)
        (Contains-get_or xs i 0 l)).0 in
        let is : (get_or (map (the_line s t) xs) i d).line.0 ≡ get_or xs i 0 =
        ap (λ y. y.line.0) (mapped (the_line s t) xs i d h) ∙ its-line s t (get_or xs i 0) in
        omega (arith, below, is)

-- ---- there are some where something was written

none-those : (p : ℕ → Bool) (n : ℕ) → (length (those p n) == 0) ≡ not (any_below p n)
unfolding those any_below
none-those p zero = refl
none-those p (suc n) = by (any_below p n) (p n) (none-those p n)
  where
    by : (a b : Bool) → (length (those p n) == 0) ≡ not a → (length (those p n ++ cond b (n ∷ []) []) == 0) ≡ not (a || b)
    by a true e = rw (length-append) (grind (arith, nat_tests))
    by true false e = rw (length-append) (grind (arith, nat_tests))
    by false false e = rw (length-append) (grind (arith, nat_tests))

pub told-empty : (sh : Shape) (s : CoreState) (t : ℕ) → (length (lines_told sh t s) == 0) ≡ not (wrote_some sh s)
unfolding wrote_some
told-empty sh s t =
    ap (λ ts. length ts == 0) (told-each sh s t)
    ∙ ap (λ k. k == 0) (length-map (those (is_written s.cache s.spilled) (lines sh)) (the_line s t))
    ∙ none-those (is_written s.cache s.spilled) (lines sh)

-- ---- all of it

pub is-commit : (sh : Shape) (c t : ℕ) (s : CoreState) (d : Noted) (ts : List Tagged) → CanCommit sh s → ts ≡ lines_told sh t s
    → Some d ≡ (commit_out sh c t s).commit → IsCommitOf sh c t s (record { commit = d; lines = ts })
is-commit sh c t s d ts k same noted = record {
  noted = noted;
  words = ap words_in same ∙ told-lines sh s t k;
  inside = subst (AreInside (sh.ram / 4)) (sym same) (told-inside sh s t);
  empty = ap (λ l. length l == 0) same ∙ told-empty sh s t;
  order = subst (AreInOrder sh) (sym same) (told-in-order sh s t k.valid k.inside);
}

pub commit-leaves : (sh : Shape) (c t : ℕ) (s now new : CoreState) (ts : List Tagged) → CanCommit sh s → ts ≡ lines_told sh t s
    → now ≡ (commit_out sh c t s).core → new ≡ cleaned_by ts now → new ≡ all_clean (commit_out sh c t s).core
commit-leaves sh c t s now new ts k same mid end =
    end ∙ ap (λ l. cleaned_by l now) same ∙ ap (cleaned_by (lines_told sh t s)) mid ∙ commit-clean sh c t s k
