-- What a cache has of memory: each valid word that isn't modified has memory's value, unless it is of a packet that is still to be taken.
-- A line that is filled from memory keeps this, all marks and the values of all valid words.
use Rattle.std.specs.Prelude.{ℕ, zero, suc, ◌≡◌, ◌<◌, ◌⊎◌, Bool, true, false, ◌==◌, ◌||◌, List, get_or, Option, Some, None, is_some}
use Rattle.std.specs.Prelude.{unwrap_or, not, if◌then◌else◌}
use Rattle.std.proofs.Common.{arith, refl, sym, ap, inl, inr, ◌∙◌}
use Rattle.std.proofs.lemmas.Bool.Decides.{nat_tests}
use Rattle.rules_maps.specs.Cache.{Cache, IsCache, free_way}
use Rattle.rules_maps.specs.CacheChange.{filled, placed}
use Rattle.rules_maps.specs.Shape.{Shape, set_of}
use Rattle.rules_maps.specs.Words.{line_of, place_of, word_at, eight}
use Rattle.rules_maps.proofs.Lemmas.{dirty-placed, filled-keeps, held-placed, modified-placed, placed-keeps}
use Rattle.rules_maps.proofs.Lemmas.{read-placed, value-filled, value-placed}
use Rattle.rules_tcc.specs.State.{CoreState}
use Rattle.rules_bus.specs.Exec.{line_filled, line_words, with_line_of}
use Rattle.theorem_bus.proofs.OneCore.Did.{AtHand, LineSet, Did}
use Rattle.theorem_serial.proofs.Lemmas.{placed-held}

-- gone: the words of the packet
abbrev pub Coherent : (ram : ℕ → ℕ) → (gone : ℕ → Bool) → Cache → Type 0
Coherent ram gone c = (v : ℕ) → gone v ≡ false → c.modified v ≡ false → (x : ℕ) → c.value v ≡ Some x → ram v ≡ x

pub did-coherent : (M : LineSet) (ram : ℕ → ℕ) (gone : ℕ → Bool) (s t : CoreState) → Did M s t → Coherent ram gone s.cache
    → Coherent ram gone t.cache
did-coherent M ram gone s t d k v g m x e = k v g (d.stays v m) x (sym (d.value v m) ∙ e)

some-is : (x y : ℕ) → Some x ≡ Some y → x ≡ y
some-is x y e = ap (λ (o : Option ℕ). unwrap_or o 0) e

line_words-at : (ram : ℕ → ℕ) (l v : ℕ) → l ≡ line_of v → get_or (line_words ram l) (place_of v) 0 ≡ ram v
unfolding line_words eight
line_words-at ram l v e = go (place_of v) refl (omega arith)
  where
    go : (k : ℕ) → place_of v ≡ k → k < 8 → get_or (eight (λ j. ram (word_at l j))) k 0 ≡ ram v
    go zero q h = ap ram (omega arith)
    go (suc zero) q h = ap ram (omega arith)
    go (suc (suc zero)) q h = ap ram (omega arith)
    go (suc (suc (suc zero))) q h = ap ram (omega arith)
    go (suc (suc (suc (suc zero)))) q h = ap ram (omega arith)
    go (suc (suc (suc (suc (suc zero))))) q h = ap ram (omega arith)
    go (suc (suc (suc (suc (suc (suc zero)))))) q h = ap ram (omega arith)
    go (suc (suc (suc (suc (suc (suc (suc zero))))))) q h = ap ram (omega arith)
    go (suc (suc (suc (suc (suc (suc (suc (suc k)))))))) q h = absurd (omega arith)

-- from one cache to another: marks stay, valid words keep their values, new ones have memory's, and new frames are of lines in a set
pub record Grown (sh : Shape) (M : LineSet) (ram : ℕ → ℕ) (c d : Cache) : Type 0 where
  pub read : (v : ℕ) → d.read v ≡ c.read v
  pub modified : (v : ℕ) → d.modified v ≡ c.modified v
  pub dirty : (v : ℕ) → d.dirty v ≡ c.dirty v
  pub keeps : (v x : ℕ) → c.value v ≡ Some x → d.value v ≡ Some x
  pub from : (v x : ℕ) → d.value v ≡ Some x → (c.value v ≡ Some x) ⊎ (ram v ≡ x)
  pub held : (l : ℕ) → d.held l ≡ true → (c.held l ≡ true) ⊎ (M l)
  pub cache : IsCache sh c → IsCache sh d

grown-same : (sh : Shape) (M : LineSet) (ram : ℕ → ℕ) (c : Cache) → Grown sh M ram c c
grown-same sh M ram c = record {
  read = λ v. refl;
  modified = λ v. refl;
  dirty = λ v. refl;
  keeps = λ v x e. e;
  from = λ v x e. inl e;
  held = λ l e. inl e;
  cache = λ k. k;
}

grown-then : (sh : Shape) (M : LineSet) (ram : ℕ → ℕ) (c d f : Cache) → Grown sh M ram c d → Grown sh M ram d f → Grown sh M ram c f
grown-then sh M ram c d f g h = record {
  read = λ v. h.read v ∙ g.read v;
  modified = λ v. h.modified v ∙ g.modified v;
  dirty = λ v. h.dirty v ∙ g.dirty v;
  keeps = λ v x e. h.keeps v x (g.keeps v x e);
  from = λ v x e. from v x (h.from v x e);
  held = λ l e. held l (h.held l e);
  cache = λ k. h.cache (g.cache k);
}
  where
    from : (v x : ℕ) → (d.value v ≡ Some x) ⊎ (ram v ≡ x) → (c.value v ≡ Some x) ⊎ (ram v ≡ x)
    from v x (inl e) = g.from v x e
    from v x (inr e) = inr e

    held : (l : ℕ) → (d.held l ≡ true) ⊎ (M l) → (c.held l ≡ true) ⊎ (M l)
    held l (inl e) = g.held l e
    held l (inr m) = inr m

grown-filled : (sh : Shape) (M : LineSet) (ram : ℕ → ℕ) (l : ℕ) (c : Cache) → c.held l ≡ true
    → Grown sh M ram c (filled l (line_words ram l) c)
unfolding filled
grown-filled sh M ram l c h = record {
  read = λ v. refl;
  modified = λ v. refl;
  dirty = λ v. refl;
  keeps = λ v x e. keeps v x (l == line_of v) (c.value v) e;
  from = λ v x e. from v x (l == line_of v) refl (c.value v) refl e;
  held = λ j e. inl e;
  cache = filled-keeps sh l (line_words ram l) c h;
}
  where
    keeps : (v x : ℕ) (b : Bool) (o : Option ℕ) → o ≡ Some x
        → (if b then Some (unwrap_or o (get_or (line_words ram l) (place_of v) 0)) else o) ≡ Some x
    keeps v x true o e = rw e refl
    keeps v x false o e = e

    from : (v x : ℕ) (b : Bool) → (l == line_of v) ≡ b → (o : Option ℕ) → c.value v ≡ o
        → (if b then Some (unwrap_or o (get_or (line_words ram l) (place_of v) 0)) else o) ≡ Some x
        → (c.value v ≡ Some x) ⊎ (ram v ≡ x)
    from v x true q None r e = inr (sym (line_words-at ram l v (grind (arith, nat_tests))) ∙ some-is _ x e)
    from v x true q (Some y) r e = inl (r ∙ e)
    from v x false q o r e = inl (r ∙ e)

grown-placed : (sh : Shape) (M : LineSet) (ram : ℕ → ℕ) (l : ℕ) (c : Cache) → M l → c.held l ≡ false
    → is_some (free_way sh c (set_of sh l)) ≡ true → Grown sh M ram c (placed sh l c)
grown-placed sh M ram l c m h i = record {
  read = read-placed sh l c;
  modified = modified-placed sh l c;
  dirty = dirty-placed sh l c;
  keeps = λ v x e. value-placed sh l c v ∙ e;
  from = λ v x e. inl (sym (value-placed sh l c v) ∙ e);
  held = λ j e. held j (free_way sh c (set_of sh l)) refl i e;
  cache = placed-keeps sh l c h;
}
  where
    new : (j : ℕ) (b : Bool) → (j == l) ≡ b → (if b then true else c.held j) ≡ true → (c.held j ≡ true) ⊎ (M j)
    new j true q e = let k : j ≡ l = grind (arith, nat_tests) in inr (rw k m)
    new j false q e = inl e

    held : (j : ℕ) (o : Option ℕ) → free_way sh c (set_of sh l) ≡ o → is_some o ≡ true → (placed sh l c).held j ≡ true
        → (c.held j ≡ true) ⊎ (M j)
    held j None q i e = absurd (cc)
    held j (Some y) q i e = new j (j == l) refl (sym (held-placed sh l c j y q) ∙ e)

-- the word that is read is of a line in the set
abbrev pub ReadIn : LineSet → (read : Option ℕ) → Type 0
ReadIn M None = Unit {0}
ReadIn M (Some w) = M (line_of w)

line-grown : (sh : Shape) (M : LineSet) (ram : ℕ → ℕ) (l : ℕ) (c : Cache) → M l → Grown sh M ram c (line_filled sh ram l c)
line-grown sh M ram l c m = go (c.held l) refl (is_some (free_way sh c (set_of sh l))) refl
  where
    go : (a : Bool) → c.held l ≡ a → (b : Bool) → is_some (free_way sh c (set_of sh l)) ≡ b
        → Grown sh M ram c (
        if a then filled l (line_words ram l) c
        else (if b then filled l (line_words ram l) (placed sh l c) else c))
    go true e b f = grown-filled sh M ram l c e
    go false e true f =
        let d = placed sh l c in
        grown-then sh M ram c d (filled l (line_words ram l) d) (grown-placed sh M ram l c m e f)
        (grown-filled sh M ram l d (placed-held sh l c f))
    go false e false f = grown-same sh M ram c

pub read-grown : (sh : Shape) (M : LineSet) (ram : ℕ → ℕ) (s : CoreState) (o : Option ℕ) → ReadIn M o
    → Grown sh M ram s.cache (with_line_of sh ram s o)
read-grown sh M ram s None m = grown-same sh M ram s.cache
read-grown sh M ram s (Some w) m = go (is_some (s.spilled w))
  where
    go : (b : Bool) → Grown sh M ram s.cache (if b then s.cache else line_filled sh ram (line_of w) s.cache)
    go true = grown-same sh M ram s.cache
    go false = line-grown sh M ram (line_of w) s.cache m

pub grown-coherent : (sh : Shape) (M : LineSet) (ram : ℕ → ℕ) (gone : ℕ → Bool) (c d : Cache) → Grown sh M ram c d → Coherent ram gone c
    → Coherent ram gone d
grown-coherent sh M ram gone c d k h v g m x e = go (k.from v x e)
  where
    go : (c.value v ≡ Some x) ⊎ (ram v ≡ x) → ram v ≡ x
    go (inl i) = h v g (sym (k.modified v) ∙ m) x i
    go (inr i) = i

-- every word of a line that was filled is valid
filled-valid : (l : ℕ) (ws : List ℕ) (c : Cache) (v : ℕ) → l ≡ line_of v → is_some ((filled l ws c).value v) ≡ true
filled-valid l ws c v e = let q : (l == line_of v) ≡ true = grind (arith, nat_tests) in rw (value-filled l ws c v, q) refl

-- with the line of a word that is read: nothing has changed, and the line isn't asked for; or there was a frame for the line, the word is
-- valid, and the line has a frame
pub data Hand (sh : Shape) (s t : CoreState) (o : Option ℕ) : Type 0 where
  Same : (is : t ≡ s) → (at : AtHand sh s o) → Hand sh s t o
  Has : (w : ℕ) → (reads : o ≡ Some w) → (spilled : s.spilled w ≡ None)
      → (frame : (s.cache.held (line_of w) || is_some (free_way sh s.cache (set_of sh (line_of w)))) ≡ true)
      → (valid : is_some (t.cache.value w) ≡ true) → (held : t.cache.held (line_of w) ≡ true) → Hand sh s t o

pub at-hand : (sh : Shape) (ram : ℕ → ℕ) (s : CoreState) (o : Option ℕ) → Hand sh s (record s { cache = with_line_of sh ram s o }) o
unfolding filled
at-hand sh ram s None = Same refl tt
at-hand sh ram s (Some w) = go (s.spilled w) refl
  where
    l : ℕ
    l = line_of w

    c : Cache
    c = s.cache

    none : (a b : Bool) → a ≡ false → b ≡ false → (is_some (c.value w) || not (a || b)) ≡ true
    none true b e f = absurd (cc)
    none false true e f = absurd (cc)
    none false false e f = or-true (is_some (c.value w))
      where
        or-true : (b : Bool) → (b || true) ≡ true
        or-true true = refl
        or-true false = refl

    line : s.spilled w ≡ None → (a : Bool) → c.held l ≡ a → (b : Bool) → is_some (free_way sh c (set_of sh l)) ≡ b
        → Hand sh s (record s {
          cache =
              if a then filled l (line_words ram l) c
              else (if b then filled l (line_words ram l) (placed sh l c) else c);
        }) (Some w)
    line n true e b f = Has w refl n (rw e refl) (filled-valid l (line_words ram l) c w refl) e
    line n false e true f = Has w refl n (rw (e, f) refl) (filled-valid l (line_words ram l) (placed sh l c) w refl) (placed-held sh l c f)
    line n false e false f = Same refl (rw n (none (c.held l) (is_some (free_way sh c (set_of sh l))) e f))

    go : (o : Option ℕ) → s.spilled w ≡ o
        → Hand sh s (record s { cache = if is_some o then c else line_filled sh ram l c }) (Some w)
    go (Some x) e = Same refl (rw e refl)
    go None e = line e (c.held l) refl (is_some (free_way sh c (set_of sh l))) refl
