-- The commits that go to the written directories, and what is noted of them.
use Rattle.std.proofs.Common.{ℕ, suc, zero, ◌+◌, ◌%◌, ◌<◌, ◌≡◌, ◌≢◌, Bool, true, false, ◌==◌, ◌&&◌, nat_eq, nat_lt}
use Rattle.std.proofs.Common.{if◌then◌else◌, inl, inr, List, [], ◌∷◌, length, get_or, set, refl, ap, sym, ◌∙◌, arith}
use Rattle.std.proofs.Math.Nat.{mod-lt}
use Rattle.std.proofs.lemmas.Bool.{cases_eq, ne_eqb}
use Rattle.std.proofs.lemmas.Bool.Decides.{nat_tests}
use Rattle.std.proofs.lemmas.List.{get_or-set_same, get_or-set_other}
use Rattle.tcc_base.specs.Put.{put}
use Rattle.tcc_base.specs.declared.names.Tid.{Tid}
use Rattle.base_lemmas.proofs.Lemmas.{any_below-count}
use Rattle.rules_maps.specs.Words.{any_below, count_below}
use Rattle.rules_maps.specs.Masks.{has}
use Rattle.rules_maps.specs.Spilled.{Spilled}
use Rattle.rules_maps.specs.Nodes.{Node, Core, Dir, Vendor, Msg, Commit}
use Rattle.rules_maps.specs.Shape.{Shape, home, lines}
use Rattle.rules_maps.specs.Cache.{Cache, is_modified, writes_at}
use Rattle.rules_tcc.specs.Commit.{with_last_commit, commit_sends, is_written, solo_writes_at}
use Rattle.rules_tcc.specs.Sends.{when}
use Rattle.commit_engine.specs.Engine.{after_of, first_with}
use Rattle.commit_engine.specs.Sent.{to_first}
use Rattle.commit_engine.proofs.FirstWith.{first_none, first_in, first_out}

-- how many lines were written at a directory, and what goes there
abbrev pub count_at : Shape → Cache → ℕ → ℕ
count_at sh c d = count_below (λ l. d == home sh l && is_modified c l) (lines sh)

unfoldable pub commit_at : Shape → Cache → (tid dir : ℕ) → List Msg
commit_at sh c t d = when (writes_at sh c d) (Commit t (count_at sh c d) ∷ [])

pub commit_in : (sh : Shape) (c : Cache) (t d n : ℕ) → n ≡ count_at sh c d → n ≢ 0 → commit_at sh c t d ≡ Commit t n ∷ []
unfolding commit_at writes_at
commit_in sh c t d n e h =
    let f : nat_eq n 0 ≡ false = ne_eqb n 0 h in
    rw (any_below-count (λ l. d == home sh l && is_modified c l) (lines sh), sym e, f) refl

pub commit_out : (sh : Shape) (c : Cache) (t d n : ℕ) → n ≡ count_at sh c d → n ≡ 0 → commit_at sh c t d ≡ []
unfolding commit_at writes_at
commit_out sh c t d n e h =
    let z : count_at sh c d ≡ 0 = sym e ∙ h in
    rw (any_below-count (λ l. d == home sh l && is_modified c l) (lines sh), z) refl

pub commits_are : (sh : Shape) (c : Cache) (t : ℕ) → to_first sh.dirs (commit_at sh c t) ≡ commit_sends sh c t
unfolding to_first commit_at commit_sends
commits_are sh c t = λ i dst. (each dst) i
  where
    each : (dst : Node) → to_first sh.dirs (commit_at sh c t) dst ≡ commit_sends sh c t dst
    each (Dir d) = refl
    each (Core k) = refl
    each Vendor = refl

-- the noted TIDs, directory by directory
pub note_none : (p : ℕ → Bool) (t : ℕ) (a : ℕ → ℕ) → a ≡ with_last_commit (first_with 0 p) t a
unfolding with_last_commit
note_none p t a = ap (λ (w : ℕ → Bool). with_last_commit w t a) (first_none p)

pub note_in : (n : ℕ) (p : ℕ → Bool) (t : ℕ) (a : ℕ → ℕ) → p n ≡ true
    → put (with_last_commit (first_with n p) t a) n t ≡ with_last_commit (first_with (n + 1) p) t a
unfolding with_last_commit
note_in n p t a h = (λ i d. (each d (first_with n p d) (nat_eq d n)) i) ∙ ap (λ (w : ℕ → Bool). with_last_commit w t a) (first_in n p h)
  where
    each : (d : ℕ) (w b : Bool) → (if b then t else if w then t else a d) ≡ (if (if b then true else w) then t else a d)
    each d w true = refl
    each d w false = refl

pub note_out : (n : ℕ) (p : ℕ → Bool) (t : ℕ) (a : ℕ → ℕ) → p n ≡ false
    → with_last_commit (first_with n p) t a ≡ with_last_commit (first_with (n + 1) p) t a
note_out n p t a h = ap (λ (w : ℕ → Bool). with_last_commit w t a) (first_out n p h)

pub after_of-set : (xs : List Tid) (n : ℕ) (t : Tid) → n < length xs → after_of (set xs n t) ≡ put (after_of xs) n t.0
unfolding after_of
after_of-set xs n t l = λ i d. (each d) i
  where
    zeroth : Tid
    zeroth = record { 0 = 0 }

    each : (d : ℕ) → (get_or (set xs n t) d zeroth).0 ≡ (if nat_eq d n then t.0 else (get_or xs d zeroth).0)
    each d = elim (cases_eq d n) [
      | inl e ↦ rw e (rw (get_or-set_same xs n t zeroth l) (grind (arith, nat_tests)))
      | inr m ↦ rw (ne_eqb d n m, get_or-set_other xs n d t zeroth m) refl
    ]

-- no line is at home at a directory that isn't there
home_elsewhere : (sh : Shape) (q : ℕ → Bool) (d n : ℕ) → 0 < sh.dirs → nat_lt d sh.dirs ≡ false
    → any_below (λ l. d == home sh l && q l) n ≡ false
unfolding any_below
home_elsewhere sh q d zero s e = refl
home_elsewhere sh q d (suc n) s e =
    let below : n % sh.dirs < sh.dirs = mod-lt n s in
    let other : nat_eq d (n % sh.dirs) ≡ false = grind (arith, nat_tests) in
    rw (home_elsewhere sh q d n s e, other) refl

pub writes_elsewhere : (sh : Shape) (c : Cache) (d : ℕ) → 0 < sh.dirs → nat_lt d sh.dirs ≡ false → writes_at sh c d ≡ false
unfolding writes_at
writes_elsewhere sh c d s e = home_elsewhere sh (is_modified c) d (lines sh) s e

pub solo_writes_elsewhere : (sh : Shape) (c : Cache) (sp : Spilled) (d : ℕ) → 0 < sh.dirs → nat_lt d sh.dirs ≡ false
    → solo_writes_at sh c sp d ≡ false
unfolding solo_writes_at
solo_writes_elsewhere sh c sp d s e = home_elsewhere sh (is_written c sp) d (lines sh) s e

-- what is noted of a set of directories is what is noted of those that were written
pub noted_all : (n bits t : ℕ) (p : ℕ → Bool) (a : ℕ → ℕ) → has bits ≡ first_with n p → ((d : ℕ) → nat_lt d n ≡ false → p d ≡ false)
    → with_last_commit (first_with n (has bits)) t a ≡ with_last_commit p t a
unfolding first_with
noted_all n bits t p a e none = ap (λ (w : ℕ → Bool). with_last_commit w t a) (λ i d. (each d) i)
  where
    by : (d : ℕ) (b : Bool) → nat_lt d n ≡ b → (b && (b && p d)) ≡ p d
    by d true q = refl
    by d false q = sym (none d q)

    each : (d : ℕ) → (nat_lt d n && has bits d) ≡ p d
    each d = rw (ap (λ (w : ℕ → Bool). w d) e) (by d (nat_lt d n) refl)
