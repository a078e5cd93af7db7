-- A commit: memory takes what the attempt wrote, the core has memory's values after it, and every other core has them but for the words of
-- the packet.
use Rattle.std.specs.Prelude.{ℕ, ◌≡◌, ◌<◌, ◌%◌, Bool, true, false, ◌==◌, ◌&&◌, ◌||◌, [], Option, Some, None, is_some, unwrap_or, nat_lt}
use Rattle.std.specs.Prelude.{if◌then◌else◌}
use Rattle.std.proofs.Common.{arith, refl, ap, ◌∙◌}
use Rattle.std.proofs.lemmas.Bool.Decides.{nat_tests}
use Rattle.rules_maps.specs.Cache.{Cache, is_modified}
use Rattle.rules_maps.specs.CacheChange.{committed, words_dropped}
use Rattle.rules_maps.specs.Shape.{Shape, lines}
use Rattle.rules_maps.specs.Spilled.{holds}
use Rattle.rules_maps.specs.Words.{line_of, word_at, any_word, any_below, or_else}
use Rattle.rules_maps.proofs.Lemmas.{any_below-at}
use Rattle.rules_program.specs.Plain.{Outcome, Goes, Ended, Halted as HaltedWith, Trapped as TrappedWith}
use Rattle.rules_program.specs.Program.{Program}
use Rattle.rules_tcc.specs.Attempt.{is_solo}
use Rattle.rules_tcc.specs.Commit.{phase_after_commit, committed_core, commit, solo_commit, is_written}
use Rattle.rules_tcc.specs.State.{CoreState}
use Rattle.theorem_attempt.specs.Follows.{Follows, sees}
use Rattle.theorem_attempt.specs.Marks.{UsesStand, MarksFit}
use Rattle.theorem_attempt.proofs.Lemmas.{commit-follows, follows-same, none-used, solo_commit-follows}
use Rattle.rules_bus.specs.Commit.{written_words, with_words, wrote_some, all_clean, commit_out, others, packet}
use Rattle.rules_bus.specs.State.{Bus, Free, Alone, Packet}
use Rattle.theorem_bus.proofs.OneCore.Committed.{out-phase, written-inside}
use Rattle.theorem_bus.proofs.OneCore.Filled.{Coherent}
use Rattle.theorem_bus.proofs.OneCore.Fine.{Fine}
use Rattle.theorem_bus.proofs.Memory.Follow.{Follow}
use Rattle.theorem_bus.proofs.Memory.Take.{none_gone}
use Rattle.theorem_bus.proofs.InOrder.Bounded.{in_memory}

-- the words of the packet on the bus that the core is still to take
abbrev pub pending : Bus → (core : ℕ) → (word : ℕ) → Bool
pending Free c v = false
pending (Alone d) c v = false
pending (Packet f left) c v = left c && is_some (f v)

-- the core that commits

commit-coherent : (ram : ℕ → ℕ) (c t : ℕ) (sh : Shape) (s : CoreState) → ((v : ℕ) → s.spilled v ≡ None) → Coherent ram none_gone s.cache
    → Coherent (with_words (written_words s) ram) none_gone (all_clean (commit sh c t s).core).cache
unfolding all_clean commit committed_core committed written_words with_words
commit-coherent ram c t sh s n k v g m x i = rw (n v) (go (s.cache.modified v) refl)
  where
    go : (b : Bool) → s.cache.modified v ≡ b → unwrap_or (if b then s.cache.value v else None) (ram v) ≡ x
    go true e = rw i refl
    go false e = k v refl e x i

solo-coherent : (ram : ℕ → ℕ) (c t : ℕ) (sh : Shape) (s : CoreState) → Coherent ram none_gone s.cache
    → Coherent (with_words (written_words s) ram) none_gone (all_clean (solo_commit sh c t s).core).cache
unfolding all_clean solo_commit committed_core committed words_dropped written_words with_words
solo-coherent ram c t sh s k v g m x i = go (s.spilled v) i (s.cache.modified v) refl
  where
    go : (o : Option ℕ) → (if is_some o then None else s.cache.value v) ≡ Some x → (b : Bool) → s.cache.modified v ≡ b
        → unwrap_or (or_else o (if b then s.cache.value v else None)) (ram v) ≡ x
    go (Some y) i b e = absurd (cc)
    go None i true e = rw i refl
    go None i false e = k v refl e x i

pub out-coherent : (n c t : ℕ) (ram : ℕ → ℕ) (sh : Shape) (s : CoreState) → Fine sh (in_memory sh) n s → Coherent ram none_gone s.cache
    → Coherent (with_words (written_words s) ram) none_gone (all_clean (commit_out sh c t s).core).cache
out-coherent n c t ram sh s k h = go (is_solo s.phase) refl
  where
    go : (b : Bool) → is_solo s.phase ≡ b
        → Coherent (with_words (written_words s) ram) none_gone (all_clean (if b then solo_commit sh c t s else commit sh c t s).core).cache
    go true e = solo-coherent ram c t sh s h
    go false e = commit-coherent ram c t sh s (k.sound.alone e) h

out-follows : (n c t : ℕ) (sh : Shape) (p : Program) (s : CoreState) → Fine sh (in_memory sh) n s
    → Follows sh p (all_clean (commit_out sh c t s).core) []
unfolding all_clean sees
out-follows n c t sh p s k = go (is_solo s.phase) refl
  where
    clean : (u : CoreState) → Follows sh p u [] → Follows sh p (all_clean u) []
    clean u h = follows-same sh p u [] (record u.cache { dirty = λ v. None }) u.spilled u.awaited u.owing (λ ram v. refl) h

    go : (b : Bool) → is_solo s.phase ≡ b → Follows sh p (all_clean (if b then solo_commit sh c t s else commit sh c t s).core) []
    go true e = clean (solo_commit sh c t s).core (solo_commit-follows sh p c t s)
    go false e = clean (commit sh c t s).core (commit-follows sh p c t s e k.sound)

-- what a commit leaves alone, and that no mark is left
record Bare (s t : CoreState) : Type 0 where
  owing : t.owing ≡ s.owing
  awaited : t.awaited ≡ s.awaited
  read : (v : ℕ) → t.cache.read v ≡ false

out-bare : (c t : ℕ) (sh : Shape) (s : CoreState) → Bare s (all_clean (commit_out sh c t s).core)
unfolding all_clean commit solo_commit committed_core committed words_dropped
out-bare c t sh s = go (is_solo s.phase)
  where
    go : (b : Bool) → Bare s (all_clean (if b then solo_commit sh c t s else commit sh c t s).core)
    go true = record { owing = refl; awaited = refl; read = λ v. refl }
    go false = record { owing = refl; awaited = refl; read = λ v. refl }

out-marks : (n c t : ℕ) (sh : Shape) (s : CoreState) → Fine sh (in_memory sh) n s → ((d : ℕ) → s.owing d ≡ true → ⊥)
    → MarksFit sh (all_clean (commit_out sh c t s).core) []
out-marks n c t sh s k o =
    let b = out-bare c t sh s in
    let u = all_clean (commit_out sh c t s).core in record {
      stand = rw (out-phase sh c t s) (stand u.cache s.ended);
      used = none-used u.cache b.read;
      awaits = λ q. b.awaited ∙ k.awaited;
      owes = λ d e. absurd (o d (rw b.owing at e));
    }
  where
    stand : (d : Cache) (o : Outcome) → UsesStand d [] (phase_after_commit o)
    stand d Goes = tt
    stand d Ended = tt
    stand d (HaltedWith code) = tt
    stand d (TrappedWith code) = tt

pub out-follow : (n c t : ℕ) (sh : Shape) (p : Program) (ram : ℕ → ℕ) (s : CoreState) → Fine sh (in_memory sh) n s → ((d : ℕ)
    → s.owing d ≡ true → ⊥)
    → Coherent ram none_gone s.cache → Follow sh p (with_words (written_words s) ram) none_gone (all_clean (commit_out sh c t s).core)
out-follow n c t sh p ram s k o h = record {
  uses = [];
  fits = record { follows = out-follows n c t sh p s k; marks = out-marks n c t sh s k o };
  coherent = out-coherent n c t ram sh s k h;
  agrees = tt;
}

-- every other core

written-some : (sh : Shape) (n : ℕ) (s : CoreState) (v : ℕ) → Fine sh (in_memory sh) n s → is_some (written_words s v) ≡ true
    → wrote_some sh s ≡ true
unfolding wrote_some is_written is_modified holds any_word written_words
written-some sh n s v k e =
    any_below-at (λ l. is_modified s.cache l || holds s.spilled l) (lines sh) (line_of v) (written-inside sh (in_memory sh) n s k v e)
    (go (s.spilled v) refl (s.cache.modified v) refl e)
  where
    i : word_at (line_of v) (v % 8) ≡ v
    i = omega arith

    held : is_some (s.spilled v) ≡ true → holds s.spilled (line_of v) ≡ true
    held q = any_below-at (λ k. is_some (s.spilled (word_at (line_of v) k))) 8 (v % 8) (omega arith) (rw i q)

    stored : s.cache.modified v ≡ true → is_modified s.cache (line_of v) ≡ true
    stored q = any_below-at (λ k. s.cache.modified (word_at (line_of v) k)) 8 (v % 8) (omega arith) (rw i q)

    go : (o : Option ℕ) → s.spilled v ≡ o → (m : Bool) → s.cache.modified v ≡ m
        → is_some (or_else o (if m then s.cache.value v else None)) ≡ true
        → (is_modified s.cache (line_of v) || holds s.spilled (line_of v)) ≡ true
    go (Some y) a m b q = let h = held (ap is_some a) in grind (arith, nat_tests)
    go None a true b q = let h = stored b in grind (arith, nat_tests)
    go None a false b q = absurd (cc)

-- a word that isn't pending for another core has its value still
pub others-keep : (sh : Shape) (n c i : ℕ) (ram : ℕ → ℕ) (s : CoreState) → Fine sh (in_memory sh) n s → i < sh.cores
    → (i == c) ≡ false → (v : ℕ)
    → pending (packet sh c s) i v ≡ false → with_words (written_words s) ram v ≡ ram v
unfolding with_words
others-keep sh n c i ram s k l q v e = go (written_words s v) refl (wrote_some sh s) refl (any_below (others sh c) sh.cores) refl e
  where
    here : others sh c i ≡ true
    here = let a : nat_lt i sh.cores ≡ true = grind (arith, nat_tests) in rw (a, q) refl

    go : (o : Option ℕ) → written_words s v ≡ o → (a : Bool) → wrote_some sh s ≡ a → (b : Bool) → any_below (others sh c) sh.cores ≡ b
        → pending (if a && b then Packet (written_words s) (others sh c) else Free) i v ≡ false → unwrap_or o (ram v) ≡ ram v
    go None x a y b z e = refl
    go (Some u) x true y true z e = absurd (
        let h = here in
        let w = ap is_some x in
        let j : (others sh c i && is_some (written_words s v)) ≡ false = e in
        grind (arith, nat_tests))
    go (Some u) x false y b z e = absurd (let w = written-some sh n s v k (ap is_some x) in cc)
    go (Some u) x true y false z e = absurd (let w = any_below-at (others sh c) sh.cores i l here in cc)
