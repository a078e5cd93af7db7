-- All that is counted of the ways, after one of them changed and at the start.
use Rattle.std.proofs.Common.{ℕ, zero, suc, ◌+◌, ◌*◌, ◌<◌, ◌≤◌, ◌≡◌, Bool, List, [], ◌∷◌, map, length, get_or, set, replicate}
use Rattle.std.proofs.Common.{Option, Some, None, inl, inr, refl, sym, ap, ◌∙◌, length-set, get_or-set_same, get_or-set_other, arith}
use Rattle.std.proofs.lemmas.Bool.{cases_eq}
use Rattle.std.proofs.lemmas.List.{map-set, length-replicate}
use Rattle.tcc_base.specs.Settings.{Settings}
use Rattle.base_lemmas.proofs.Lemmas.{count_below-same}
use Rattle.rules_maps.specs.Words.{num, count_below}
use Rattle.spec_cache.specs.declared.frame.FrameView.{FrameView}
use Rattle.spec_cache.specs.Home.{reads_in, written_in}
use Rattle.spec_cache.specs.Useful.{writes_in, dirty_way}
use Rattle.spec_cache.specs.Held.{Held}
use Rattle.spec_cache.specs.PerSet.{Counted, IsPerSet, count_set, count_block, idle_way, used_way}
use Rattle.spec_cache.specs.Tracked.{written_home, read_home, is_home, tag_of, AreAlike, IsTracked}
use Rattle.spec_cache.proofs.Tallied.{recounted, writes-home, reads-home, count-none, map-none, zeros}
use Rattle.spec_cache.proofs.SetTallies.{IsPerSet-empty}

module _ (h : Held) (ts ws rs : List ℕ) (n : ℕ) (idle used : Counted) (k : IsTracked h ts ws rs n idle used) (i : ℕ) (o : Option FrameView)
    (inside : i < length h.frames) where
  pub IsTracked-set : (t : ℕ) → t ≡ tag_of o → (us vs : List ℕ) (m : ℕ) (a b : Counted) →
      ((d : ℕ) → get_or us d 0 + num (is_home (written_home h.config.dirs (get_or h.frames i None)) d) ≡ get_or ws d 0 + num
      (is_home (written_home h.config.dirs o) d)) →
      ((d : ℕ) → get_or vs d 0 + num (is_home (read_home h.config.dirs (get_or h.frames i None)) d) ≡ get_or rs d 0 + num
      (is_home (read_home h.config.dirs o) d)) →
      m + num (dirty_way (get_or h.frames i None)) ≡ n + num (dirty_way o) →
      IsPerSet idle_way (record h { frames = set h.frames i o }) a → IsPerSet used_way (record h { frames = set h.frames i o }) b →
      IsTracked (record h { frames = set h.frames i o }) (set ts i t) us vs m a b
  IsTracked-set t e us vs m a b w r d x y = record {
    tags = rw (k.tags, e) (sym (map-set tag_of h.frames i o));
    written = λ a b. recounted (writes_in h.config.dirs a) h.frames i o inside (get_or ws a 0) (get_or us a 0) (k.written a b)
        (rw (writes-home h.config.dirs a (get_or h.frames i None), writes-home h.config.dirs a o) (w a));
    read = λ a b. recounted (reads_in h.config.dirs a) h.frames i o inside (get_or rs a 0) (get_or vs a 0) (k.read a b)
        (rw (reads-home h.config.dirs a (get_or h.frames i None), reads-home h.config.dirs a o) (r a));
    dirty = recounted dirty_way h.frames i o inside n m k.dirty d;
    idle = x;
    used = y;
    whole = length-set h.frames i o ∙ k.whole;
    small = rw (length-set h.frames i o) k.small;
  }

pub IsTracked-empty : (s : Settings) → s.sets * s.ways ≤ 16384 →
    IsTracked (record { config = s; frames = replicate (s.sets * s.ways) None }) (replicate (s.sets * s.ways) 4294967295) (replicate 64 0)
    (replicate 64 0) 0
    (record { counts = replicate s.sets 0; blocks = replicate 32 0; all = 0 })
    (record { counts = replicate s.sets 0; blocks = replicate 32 0; all = 0 })
IsTracked-empty s b = record {
  tags = map-none (s.sets * s.ways);
  written = λ d l. zeros 64 d ∙ sym (count-none (writes_in s.dirs d) (s.sets * s.ways) (unfold written_in in refl));
  read = λ d l. zeros 64 d ∙ sym (count-none (reads_in s.dirs d) (s.sets * s.ways) (unfold reads_in in refl));
  dirty = sym (count-none dirty_way (s.sets * s.ways) (unfold dirty_way in refl));
  idle = IsPerSet-empty idle_way (unfold idle_way in refl) s (s.sets * s.ways);
  used = IsPerSet-empty used_way (unfold used_way in refl) s (s.sets * s.ways);
  whole = length-replicate {A = Option FrameView} (s.sets * s.ways) None;
  small = rw (length-replicate {A = Option FrameView} (s.sets * s.ways) None) b;
}

-- ---- a frame in the place of one that is alike

tag-alike : (o p : Option FrameView) → AreAlike o p → tag_of p ≡ tag_of o
unfolding tag_of
tag-alike (Some f) (Some g) a = sym a.line
tag-alike None p a = absurd a
tag-alike (Some f) None a = absurd a

written-alike : (dirs : ℕ) (o p : Option FrameView) → AreAlike o p → written_home dirs o ≡ written_home dirs p
unfolding written_home
written-alike dirs (Some f) (Some g) a = rw (a.line, a.modified) refl
written-alike dirs None p a = absurd a
written-alike dirs (Some f) None a = absurd a

read-alike : (dirs : ℕ) (o p : Option FrameView) → AreAlike o p → read_home dirs o ≡ read_home dirs p
unfolding read_home
read-alike dirs (Some f) (Some g) a = rw (a.line, a.read) refl
read-alike dirs None p a = absurd a
read-alike dirs (Some f) None a = absurd a

dirty-alike : (o p : Option FrameView) → AreAlike o p → dirty_way o ≡ dirty_way p
unfolding dirty_way
dirty-alike (Some f) (Some g) a = rw a.dirty refl
dirty-alike None p a = absurd a
dirty-alike (Some f) None a = absurd a

idle-alike : (o p : Option FrameView) → AreAlike o p → idle_way o ≡ idle_way p
unfolding idle_way
idle-alike (Some f) (Some g) a = rw (a.read, a.modified, a.dirty) refl
idle-alike None p a = absurd a
idle-alike (Some f) None a = absurd a

used-alike : (o p : Option FrameView) → AreAlike o p → used_way o ≡ used_way p
unfolding used_way
used-alike (Some f) (Some g) a = rw (a.modified, a.dirty) refl
used-alike None p a = absurd a
used-alike (Some f) None a = absurd a

same-tags : (fs : List (Option FrameView)) (i : ℕ) (o : Option FrameView) → i < length fs → tag_of o ≡ tag_of (get_or fs i None)
    → set (map tag_of fs) i (tag_of o) ≡ map tag_of fs
same-tags [] i o b e = absurd (omega arith)
same-tags (p ∷ ps) zero o b e = ap (λ (t : ℕ). t ∷ map tag_of ps) e
same-tags (p ∷ ps) (suc i) o b e = ap (λ (ts : List ℕ). tag_of p ∷ ts) (same-tags ps i o (omega arith) e)

same-test : (q : Option FrameView → Bool) (fs : List (Option FrameView)) (i : ℕ) (o : Option FrameView) → i < length fs
    → q (get_or fs i None) ≡ q o
    → (j : ℕ) → q (get_or fs j None) ≡ q (get_or (set fs i o) j None)
same-test q fs i o b e j = elim (cases_eq j i) [
  | inl z ↦ rw z (e ∙ sym (ap q (get_or-set_same fs i o None b)))
  | inr n ↦ sym (ap q (get_or-set_other fs i j o None n))
]

per-set-alike : (q : Option FrameView → Bool) (h : Held) (p : Counted) (i : ℕ) (o : Option FrameView) → i < length h.frames
    → q (get_or h.frames i None) ≡ q o → IsPerSet q h p → IsPerSet q (record h { frames = set h.frames i o }) p
unfolding count_set count_block
per-set-alike q h p i o b e k = record {
  sets = k.sets;
  each = λ s l. k.each s l ∙ count_below-same _ _ h.config.ways (λ y m. same-test q h.frames i o b e (s * h.config.ways + y));
  blocks = λ t l. k.blocks t l ∙ count_below-same _ _ (h.config.ways * 32)
      (λ y m. same-test q h.frames i o b e (t * (h.config.ways * 32) + y));
  all = k.all ∙ count_below-same _ _ (length h.frames) (λ j m. same-test q h.frames i o b e j)
      ∙ ap (count_below (λ j. q (get_or (set h.frames i o) j None))) (sym (length-set h.frames i o));
}

pub IsTracked-alike : (h : Held) (ts ws rs : List ℕ) (n : ℕ) (idle used : Counted) → IsTracked h ts ws rs n idle used
    → (i : ℕ) (o : Option FrameView) → i < length h.frames → AreAlike (get_or h.frames i None) o
    → IsTracked (record h { frames = set h.frames i o }) ts ws rs n idle used
IsTracked-alike h ts ws rs n idle used k i o inside a =
    let old = get_or h.frames i None in
    let t = IsTracked-set h ts ws rs n idle used k i o inside (tag_of o) refl ws rs n idle used
    (λ d. ap (λ x. get_or ws d 0 + num (is_home x d)) (written-alike h.config.dirs old o a))
    (λ d. ap (λ x. get_or rs d 0 + num (is_home x d)) (read-alike h.config.dirs old o a))
    (ap (λ x. n + num x) (dirty-alike old o a))
    (per-set-alike idle_way h idle i o inside (idle-alike old o a) k.idle)
    (per-set-alike used_way h used i o inside (used-alike old o a) k.used) in
    let same : set ts i (tag_of o) ≡ ts = rw k.tags (same-tags h.frames i o inside (tag-alike old o a)) in
    rw same at t
