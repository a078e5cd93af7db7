-- A core that commits, by itself.
use Rattle.std.specs.Prelude.{ℕ, ◌+◌, ◌≡◌, ◌⊎◌, Bool, true, false, Option, Some, None, is_some, if◌then◌else◌}
use Rattle.std.proofs.Common.{refl, inl, inr, ◌∙◌}
use Rattle.base_lemmas.proofs.Lemmas.{held_valued}
use Rattle.rules_maps.specs.Cache.{Cache}
use Rattle.rules_maps.specs.CacheChange.{committed, words_dropped}
use Rattle.rules_maps.specs.Shape.{Shape}
use Rattle.rules_maps.specs.Words.{line_of, or_else}
use Rattle.rules_program.specs.Program.{Need, Program}
use Rattle.theorem_attempt.proofs.Lemmas.{commit-sound, finished-sound, solo_commit-sound}
use Rattle.theorem_bounds.proofs.Lemmas.{finishes, none}
use Rattle.theorem_bus.proofs.OneCore.Did.{LineSet, did-nothing, finished-did, finished-awaits}
use Rattle.rules_maps.specs.Spilled.{none_spilled}
use Rattle.rules_tcc.specs.Attempt.{is_solo, finished}
use Rattle.rules_tcc.specs.Commit.{phase_after_commit, ended_after_commit, committed_core, commit, solo_commit, noted}
use Rattle.rules_tcc.specs.State.{CoreState, Awaited}
use Rattle.theorem_attempt.specs.Sound.{AwaitsHeld, SoundCore}
use Rattle.theorem_bounds.specs.Bounds.{AttemptCounted, CommitCounted}
use Rattle.rules_bus.specs.Commit.{written_words, all_clean, commit_out}
use Rattle.theorem_bus.proofs.OneCore.Fine.{Fine}

clean-awaits : (c : Cache) (o : Option Awaited) → AwaitsHeld c o
    → AwaitsHeld (record c { dirty = λ w. None }) o
clean-awaits c None h = tt
clean-awaits c (Some a) h = h

clean-sound : (sh : Shape) (s : CoreState) → SoundCore sh s → SoundCore sh (all_clean s)
unfolding all_clean
clean-sound sh s k = record {
  cache = record {
    placed = k.cache.placed;
    held = k.cache.held;
    once = k.cache.once;
    valued = k.cache.valued;
    unread = k.cache.unread;
    modified = k.cache.modified;
    dirty = λ v e. absurd (cc);
    either = λ v w i e. refl;
    one_tag = λ v w x y i e f. absurd (cc);
  };
  awaits = clean-awaits s.cache s.awaited k.awaits;
  alone = k.alone;
  apart = λ v w i e. ((k.apart v w i e).0, refl);
  unmarked = k.unmarked;
}

commit-fine : (sh : Shape) (M : LineSet) (n m c t : ℕ) (s : CoreState) → is_solo s.phase ≡ false → Fine sh M n s
    → Fine sh M m (all_clean (commit sh c t s).core)
unfolding all_clean commit committed_core committed
commit-fine sh M n m c t s e k = record {
  awaited = k.awaited;
  clean = λ x. refl;
  sound = clean-sound sh (commit sh c t s).core (commit-sound sh c t s e k.sound);
  attempt = none m;
  frames = k.frames;
  spilled = k.spilled;
}

solo_commit-fine : (sh : Shape) (M : LineSet) (n m c t : ℕ) (s : CoreState) → Fine sh M n s
    → Fine sh M m (all_clean (solo_commit sh c t s).core)
unfolding all_clean solo_commit committed_core committed words_dropped none_spilled
solo_commit-fine sh M n m c t s k = record {
  awaited = k.awaited;
  clean = λ x. refl;
  sound = clean-sound sh (solo_commit sh c t s).core (solo_commit-sound sh c t s k.sound);
  attempt = none m;
  frames = k.frames;
  spilled = λ x e. absurd (cc);
}

-- a commit leaves an empty attempt, whatever the count
pub out-fine : (sh : Shape) (M : LineSet) (n m c t : ℕ) (s : CoreState) → Fine sh M n s → Fine sh M m (all_clean (commit_out sh c t s).core)
out-fine sh M n m c t s k = go (is_solo s.phase) refl
  where
    go : (b : Bool) → is_solo s.phase ≡ b → Fine sh M m (all_clean (if b then solo_commit sh c t s else commit sh c t s).core)
    go true e = solo_commit-fine sh M n m c t s k
    go false e = commit-fine sh M n m c t s e k

pub out-phase : (sh : Shape) (c t : ℕ) (s : CoreState) → (all_clean (commit_out sh c t s).core).phase ≡ phase_after_commit s.ended
unfolding all_clean commit solo_commit committed_core
out-phase sh c t s = go (is_solo s.phase)
  where
    go : (b : Bool) → (if b then solo_commit sh c t s else commit sh c t s).core.phase ≡ phase_after_commit s.ended
    go true = refl
    go false = refl

-- the checkpoint, and how a core that has halted did
pub record Checked (s t : CoreState) : Type 0 where
  pub saved : t.saved ≡ s.local
  pub ended : t.ended ≡ ended_after_commit s.ended

pub out-checked : (sh : Shape) (c t : ℕ) (s : CoreState) → Checked s (all_clean (commit_out sh c t s).core)
unfolding all_clean commit solo_commit committed_core
out-checked sh c t s = go (is_solo s.phase)
  where
    go : (b : Bool) → Checked s (all_clean (if b then solo_commit sh c t s else commit sh c t s).core)
    go true = record { saved = refl; ended = refl }
    go false = record { saved = refl; ended = refl }

-- what is noted
pub out-noted : (sh : Shape) (c t : ℕ) (s : CoreState) → (commit_out sh c t s).commit ≡ Some (noted t c s)
unfolding commit solo_commit
out-noted sh c t s = go (is_solo s.phase)
  where
    go : (b : Bool) → (if b then solo_commit sh c t s else commit sh c t s).commit ≡ Some (noted t c s)
    go true = refl
    go false = refl

pub noted-counted : (n t c : ℕ) (s : CoreState) → AttemptCounted n s → CommitCounted n (noted t c s)
unfolding noted
noted-counted n t c s k = k

-- an instruction that ends the transaction
pub finished-fine : (sh : Shape) (M : LineSet) (n : ℕ) (p : Program) (need : Need) (x : ℕ) (s : CoreState) → Fine sh M n s
    → Fine sh M (n + 1) (finished p need x s)
finished-fine sh M n p need x s k =
    let d = finished-did M p need x s s (did-nothing M s) in
    record {
      awaited = finished-awaits p need x s ∙ k.awaited;
      clean = λ v. d.clean v (k.clean v);
      sound = finished-sound sh p need x s k.sound;
      attempt = finishes n p need x s k.attempt;
      frames = λ l e. frames l (d.frames l e);
      spilled = λ v e. spilled v (d.spilled v e);
    }
  where
    frames : (l : ℕ) → (s.cache.held l ≡ true) ⊎ (M l) → M l
    frames l (inl h) = k.frames l h
    frames l (inr h) = h

    spilled : (v : ℕ) → (is_some (s.spilled v) ≡ true) ⊎ M (line_of v) → M (line_of v)
    spilled v (inl h) = k.spilled v h
    spilled v (inr h) = h

-- a word that is written lies in memory
pub written-inside : (sh : Shape) (M : LineSet) (n : ℕ) (s : CoreState) → Fine sh M n s → (x : ℕ) → is_some (written_words s x) ≡ true
    → M (line_of x)
unfolding written_words
written-inside sh M n s k x = go (s.spilled x) refl (s.cache.modified x) (s.cache.value x) refl
  where
    go : (o : Option ℕ) → s.spilled x ≡ o → (m : Bool) (v : Option ℕ) → s.cache.value x ≡ v
        → is_some (or_else o (if m then v else None)) ≡ true → M (line_of x)
    go (Some y) e m v f h = k.spilled x (rw e refl)
    go None e true None f h = absurd (cc)
    go None e true (Some z) f h = k.frames (line_of x) (held_valued sh s.cache x z k.sound.cache f)
    go None e false v f h = absurd (cc)
