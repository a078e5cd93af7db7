-- Each event of a core keeps that its marked words are of memory, and that a core that has halted keeps how it did.
use Rattle.std.specs.Prelude.{ℕ, ◌≡◌, ◌≢◌, ◌==◌, Bool, true, false, List, Option, Some, None, IfSome, is_some, if◌then◌else◌}
use Rattle.std.proofs.Common.{arith, refl}
use Rattle.std.proofs.lemmas.Bool.Decides.{nat_tests}
use Rattle.tcc_base.specs.declared.access.CoreEnd.TheVariants.{Run}
use Rattle.rules_program.specs.Plain.{Outcome, Goes, Ended, Halted as HaltedWith, Trapped as TrappedWith}
use Rattle.rules_program.specs.Program.{Need, Program}
use Rattle.rules_program.specs.Ram.{word_of}
use Rattle.rules_maps.specs.Cache.{Cache, free_way}
use Rattle.rules_maps.specs.CacheChange.{cleaned, committed, evicted, evicted_line, filled, invalidated, marked, placed, placed_at}
use Rattle.rules_maps.specs.CacheChange.{read_cleared}
use Rattle.rules_maps.specs.CacheChange.{rolled_back, stored, words_dropped}
use Rattle.rules_maps.specs.Nodes.{Msg}
use Rattle.rules_maps.specs.Shape.{Shape, set_of}
use Rattle.rules_maps.specs.Words.{line_of, any_below}
use Rattle.rules_tcc.specs.State.{CoreState, Phase, Halted}
use Rattle.rules_tcc.specs.Commit.{commit, committed_core, ended_after_commit, phase_after_commit, solo_commit}
use Rattle.rules_tcc.specs.CoreDeliver.{from_dir, grant, is_probed, probing_or_ready}
use Rattle.rules_tcc.specs.CoreEvict.{core_evict}
use Rattle.rules_tcc.specs.CoreExec.{core_exec}
use Rattle.rules_tcc.proofs.Lemmas.{each-evict}
use Rattle.theorem_serial.specs.Commits.{end_after}
use Rattle.theorem_serial.specs.InMemory.{StaysInMemory, WordInMemory}
use Rattle.theorem_serial.proofs.Lemmas.{Acting, Acts, Buffers, Commits_now, Did, Ends_alone, Ends_run, Fills, Fills_none, Finds, Frames}
use Rattle.theorem_serial.proofs.Lemmas.{Frames_anew, Given, Given_doomed, Given_none, Given_room, GrantedTo, Hands_out, Heard, Hurt_alone}
use Rattle.theorem_serial.proofs.Lemmas.{Hurt_none, Hurt_probing, Hurt_running, Hurt_waiting, Idles, Last_probing, Last_room, Misses}
use Rattle.theorem_serial.proofs.Lemmas.{Misses_anew, Reads, Reply_probing, Reply_room, Room_wanted, access-in_memory, each-back, each-exec}
use Rattle.theorem_serial.proofs.Lemmas.{each-grant, granted, heard, out, stores-access}
use Rattle.theorem_sound.specs.Sound.{KeepsItsEnd, MarksInMemory}

-- what holds of each core
pub record CoreSound (sh : Shape) (s : CoreState) : Type 0 where
  pub marks : MarksInMemory sh s.cache
  pub ends : KeepsItsEnd s

ruleset nats = (arith, nat_tests)

-- changes of a cache

-- no word is modified or dirty anew
fewer-marks : (sh : Shape) (c d : Cache) → ((x : ℕ) → d.modified x ≡ true → c.modified x ≡ true)
    → ((x : ℕ) → is_some (d.dirty x) ≡ true → is_some (c.dirty x) ≡ true) → MarksInMemory sh c → MarksInMemory sh d
fewer-marks sh c d m n k = record { modified = λ x e. k.modified x (m x e); dirty = λ x e. k.dirty x (n x e) }

-- a word that is dropped is neither dirty nor modified
kept-dirty : (b : Bool) (o : Option ℕ) → is_some (if b then None else o) ≡ true → is_some o ≡ true
kept-dirty true o e = absurd (cc)
kept-dirty false o e = e

kept-modified : (b m : Bool) → (if b then false else m) ≡ true → m ≡ true
kept-modified true m e = absurd (cc)
kept-modified false m e = e

marked-marks : (sh : Shape) (w : ℕ) (c : Cache) → MarksInMemory sh c → MarksInMemory sh (marked w c)
unfolding marked
marked-marks sh w c k = record { modified = k.modified; dirty = k.dirty }

-- but the word that is stored
stored-marks : (sh : Shape) (w x : ℕ) (also : Bool) (c : Cache) → WordInMemory sh w → MarksInMemory sh c
    → MarksInMemory sh (stored w x also c)
unfolding stored
stored-marks sh w x also c i k = record { modified = λ v e. modified v (v == w) refl e; dirty = λ v e. dirty v (line_of w == line_of v) e }
  where
    modified : (v : ℕ) (b : Bool) → (v == w) ≡ b → (if b then true else c.modified v) ≡ true → WordInMemory sh v
    modified v true q e = let r : w ≡ v = grind nats in rw r at i
    modified v false q e = k.modified v e

    dirty : (v : ℕ) (b : Bool) → is_some (if b then None else c.dirty v) ≡ true → WordInMemory sh v
    dirty v true e = absurd (cc)
    dirty v false e = k.dirty v e

placed-marks : (sh : Shape) (l : ℕ) (c : Cache) → MarksInMemory sh c → MarksInMemory sh (placed sh l c)
unfolding placed placed_at
placed-marks sh l c k = go (free_way sh c (set_of sh l))
  where
    go : (y : Option ℕ) → MarksInMemory sh (placed_at y (set_of sh l) l c)
    go None = k
    go (Some y) = record { modified = k.modified; dirty = k.dirty }

-- at a commit modified words are dirty
committed-marks : (sh : Shape) (t : ℕ) (c : Cache) → MarksInMemory sh c → MarksInMemory sh (committed t c)
unfolding committed
committed-marks sh t c k = record { modified = λ x e. absurd (cc); dirty = λ x e. dirty x (c.modified x) refl e }
  where
    dirty : (x : ℕ) (b : Bool) → c.modified x ≡ b → is_some (if b then Some t else c.dirty x) ≡ true → WordInMemory sh x
    dirty x true q e = k.modified x q
    dirty x false q e = k.dirty x e

dropped-marks : (sh : Shape) (f : ℕ → Option ℕ) (c : Cache) → MarksInMemory sh c → MarksInMemory sh (words_dropped f c)
unfolding words_dropped
dropped-marks sh f c k = fewer-marks sh c (words_dropped f c) (λ v e. kept-modified (is_some (f v)) (c.modified v) e)
    (λ v e. kept-dirty (is_some (f v)) (c.dirty v) e) k

evicted-marks : (sh : Shape) (x y : ℕ) (c : Cache) → MarksInMemory sh c → MarksInMemory sh (evicted x y c)
unfolding evicted evicted_line
evicted-marks sh x y c k = go (c.at x y)
  where
    go : (l : Option ℕ) → MarksInMemory sh (evicted_line l x y c)
    go None = k
    go (Some l) = fewer-marks sh c (evicted_line (Some l) x y c) (λ v e. kept-modified (l == line_of v) (c.modified v) e)
        (λ v e. kept-dirty (l == line_of v) (c.dirty v) e) k

cleaned-marks : (sh : Shape) (l : ℕ) (c : Cache) → MarksInMemory sh c → MarksInMemory sh (cleaned l c)
unfolding cleaned
cleaned-marks sh l c k = fewer-marks sh c (cleaned l c) (λ v e. e) (λ v e. kept-dirty (l == line_of v) (c.dirty v) e) k

filled-marks : (sh : Shape) (l : ℕ) (ws : List ℕ) (c : Cache) → MarksInMemory sh c → MarksInMemory sh (filled l ws c)
unfolding filled
filled-marks sh l ws c k = record { modified = k.modified; dirty = k.dirty }

invalidated-marks : (sh : Shape) (l m : ℕ) (c : Cache) → MarksInMemory sh c → MarksInMemory sh (invalidated l m c)
unfolding invalidated
invalidated-marks sh l m c k = fewer-marks sh c (invalidated l m c) (λ v e. e) (λ v e. kept-dirty _ (c.dirty v) e) k

rolled-marks : (sh : Shape) (c : Cache) → MarksInMemory sh c → MarksInMemory sh (rolled_back c)
unfolding rolled_back
rolled-marks sh c k = record { modified = λ x e. absurd (cc); dirty = k.dirty }

cleared-marks : (sh : Shape) (c : Cache) → MarksInMemory sh c → MarksInMemory sh (read_cleared c)
unfolding read_cleared
cleared-marks sh c k = record { modified = k.modified; dirty = k.dirty }

-- ends

-- a core that executes hasn't halted
acts-on : (q : Phase) → Acts q → q ≡ Halted → ⊥
acts-on Halted a e = a
acts-on q a e = cc

end-after : (x : Outcome) → phase_after_commit x ≡ Halted → end_after (phase_after_commit x) (ended_after_commit x) ≢ Run
end-after Goes e r = cc
end-after Ended e r = cc
end-after (HaltedWith code) e r = cc
end-after (TrappedWith code) e r = cc

probing-on : (b : Bool) (t : ℕ) → probing_or_ready b t ≡ Halted → ⊥
probing-on true t e = cc
probing-on false t e = cc

-- by event

pub exec-sound : (sh : Shape) (p : Program) (c : ℕ) (s : CoreState) → StaysInMemory sh p → CoreSound sh s
    → IfSome (core_exec sh p c s) (λ o. CoreSound sh o.core)
unfolding commit solo_commit committed_core
exec-sound sh p c s i k = each-exec sh p c s (λ o. CoreSound sh o.core) go
  where
    -- a core that executes an instruction, with such a cache then
    on : {need : Need} (r : CoreState) → Acting p s need → r.phase ≡ s.phase → MarksInMemory sh r.cache → CoreSound sh r
    on r g q m = record { marks = m; ends = λ e. absurd (acts-on s.phase g.acts (rw q at e)) }

    go : (x : Did sh p c s) → CoreSound sh (out x).core
    go (Idles need l bytes g) = on _ g refl k.marks
    go (Finds a x z l g f) = on _ g refl k.marks
    go (Reads a x z l g r f) = on _ g refl (marked-marks sh (word_of sh.base a) s.cache k.marks)
    go (Buffers a y v n q g at e f) = on _ g refl k.marks
    go (Frames a y also n q g at f) = on _ g refl (stored-marks sh (word_of sh.base a) y also s.cache
        (access-in_memory sh s a i g (stores-access n a at)) k.marks)
    go (Frames_anew a y n q g at e f h) = on _ g refl (stored-marks sh (word_of sh.base a) y false
        (placed sh (line_of (word_of sh.base a)) s.cache) (access-in_memory sh s a i g (stores-access n a at))
        (placed-marks sh (line_of (word_of sh.base a)) s.cache k.marks))
    go (Misses a n g at e) = on _ g refl k.marks
    go (Misses_anew a n g at e f) = on _ g refl (placed-marks sh (line_of (word_of sh.base a)) s.cache k.marks)
    go (Room_wanted r n) = record { marks = k.marks; ends = λ e. absurd (cc) }
    go (Ends_run l e f r n) = record { marks = k.marks; ends = λ e. absurd (cc) }
    go (Ends_alone t l e f r n) = record {
      marks = committed-marks sh t (words_dropped s.spilled s.cache) (dropped-marks sh s.spilled s.cache k.marks);
      ends = end-after e;
    }
    go (Commits_now t r) = record { marks = committed-marks sh t s.cache k.marks; ends = end-after s.ended }

pub evict-sound : (sh : Shape) (x y : ℕ) (s : CoreState) → CoreSound sh s → IfSome (core_evict sh x y s) (λ o. CoreSound sh o.core)
evict-sound sh x y s k = each-evict sh x y s (λ o. CoreSound sh o.core)
    (λ l e a m. record { marks = evicted-marks sh x y s.cache k.marks; ends = k.ends })

pub grant-sound : (sh : Shape) (t : ℕ) (s : CoreState) → CoreSound sh s → CoreSound sh (grant sh t s).core
grant-sound sh t s k = each-grant sh t s (λ o. CoreSound sh o.core) go
  where
    go : (x : GrantedTo sh t s) → CoreSound sh (granted x).core
    go (Given e) = record { marks = k.marks; ends = λ q. absurd (probing-on (any_below (is_probed sh s.cache) sh.dirs) t q) }
    go (Given_doomed e) = record { marks = k.marks; ends = λ q. absurd (cc) }
    go (Given_room e) = record { marks = k.marks; ends = λ q. absurd (cc) }
    go (Given_none e) = k

pub back-sound : (sh : Shape) (d : ℕ) (s : CoreState) (m : Msg) → CoreSound sh s → IfSome (from_dir sh d s m) (λ o. CoreSound sh o.core)
back-sound sh d s m k = each-back sh d s (λ m o. CoreSound sh o.core) go m
  where
    -- a core that rolls back
    begun : (l m : ℕ) → MarksInMemory sh (rolled_back (invalidated l m s.cache))
    begun l m = rolled-marks sh (invalidated l m s.cache) (invalidated-marks sh l m s.cache k.marks)

    go : (x : Heard sh d s) → CoreSound sh (heard x).core
    go (Reply_probing u v q o r) = record { marks = k.marks; ends = k.ends }
    go (Last_probing u v q o r) = record { marks = k.marks; ends = λ e. absurd (cc) }
    go (Reply_room u v q o r) = record { marks = k.marks; ends = k.ends }
    go (Last_room u v q o r) = record { marks = cleared-marks sh s.cache k.marks; ends = λ e. absurd (cc) }
    go (Fills l ws a q i f) = record { marks = filled-marks sh l ws s.cache k.marks; ends = k.ends }
    go (Fills_none l ws a q i f) = record { marks = k.marks; ends = k.ends }
    go (Hands_out l) = record { marks = cleaned-marks sh l s.cache k.marks; ends = k.ends }
    go (Hurt_none l m u n) = record { marks = invalidated-marks sh l m s.cache k.marks; ends = k.ends }
    go (Hurt_running l m u v q) = record { marks = begun l m; ends = λ e. absurd (cc) }
    go (Hurt_waiting l m u v q) = record { marks = begun l m; ends = λ e. absurd (cc) }
    go (Hurt_probing l m u t v q) = record { marks = begun l m; ends = λ e. absurd (cc) }
    go (Hurt_alone l m u t v q) = record { marks = begun l m; ends = λ e. absurd (cc) }
    go _ = k
