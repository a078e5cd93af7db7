-- A machine is sound at the start, and each event keeps it so.
use Rattle.std.specs.Prelude.{ℕ, ◌+◌, ◌≡◌, ◌<◌, ◌≤◌, ◌==◌, Bool, true, false, [], Option, Some, None, IfSome, is_some}
use Rattle.std.specs.Prelude.{if◌then◌else◌}
use Rattle.std.proofs.Common.{arith, refl}
use Rattle.image_load.specs.Start.{Start, first_ram}
use Rattle.rv_code.specs.Machine.{program}
use Rattle.tcc_base.specs.Put.{put}
use Rattle.tcc_base.specs.Settings.{IsAllowed}
use Rattle.tcc_base.specs.declared.access.Commit.{Commit as Noted}
use Rattle.rules_program.specs.Program.{Local, Program}
use Rattle.rules_maps.specs.Cache.{empty_cache, is_dirty}
use Rattle.rules_maps.specs.Lines.{no_lines}
use Rattle.rules_maps.specs.Nodes.{Event}
use Rattle.rules_maps.specs.Serving.{first_serving}
use Rattle.rules_maps.specs.Shape.{Shape, lines}
use Rattle.rules_maps.specs.Words.{line_of}
use Rattle.rules_tcc.specs.State.{CoreState, World, core_start, dir_start, start, vendor_start}
use Rattle.rules_tcc.specs.CoreDeliver.{grant}
use Rattle.rules_tcc.specs.DirDeliver.{Answer, Waits, dir_deliver}
use Rattle.rules_tcc.specs.Step.{History, Stepped, and_noted, core_moves, core_takes, dir_asks, dir_takes, next_history, recorded, step}
use Rattle.rules_tcc.specs.Step.{vendor_gives}
use Rattle.rules_riscv.specs.Starting.{local_at_start}
use Rattle.theorem_serial.specs.InMemory.{StaysInMemory}
use Rattle.theorem_serial.specs.Owners.{times}
use Rattle.theorem_serial.specs.Pairs.{pair}
use Rattle.theorem_serial.proofs.Lemmas.{DirtyInMemory, OfAnswer, Once, got, line-found, node_cases, start-owners, step-anew}
use Rattle.theorem_serial.proofs.Lemmas.{step-once, unnoted}
use Rattle.theorem_live.proofs.Lemmas.{Clean, link-fits, step-clean}
use Rattle.theorem_riscv.proofs.Lemmas.{riscv_programs_suit}
use Rattle.theorem_bounds.proofs.Lemmas.{Within, link-inside, none, step-keeps}
use Rattle.theorem_sound.specs.Laws.{CommitsAnew, SoundAfterEvent, SoundAtStart, SoundWithFewer}
use Rattle.theorem_sound.specs.Sound.{Sound}
use Rattle.theorem_sound.proofs.Cores.{CoreSound, back-sound, evict-sound, exec-sound, grant-sound}
use Rattle.theorem_sound.proofs.Messages.{from-cores, good, links-clean, links-inside, pairs-sound}
use Rattle.theorem_sound.proofs.Pairs.{PairsSound, step-pairs}

-- every event keeps what holds of each core
step-cores : (sh : Shape) (p : Program) (w : World) (e : Event) → StaysInMemory sh p → ((c : ℕ) → CoreSound sh (w.cores c))
    → IfSome (step sh p w e) (λ o. (c : ℕ) → CoreSound sh (o.world.cores c))
unfolding core_moves core_takes dir_takes dir_asks vendor_gives
step-cores sh p w e i k = node_cases sh p w e (λ s g o. (c : ℕ) → CoreSound sh (o.world.cores c))
    (λ c o eq l. one c o.core (got _ eq (exec-sound sh p c (w.cores c) i (k c))))
    (λ c x y o eq l. one c o.core (got _ eq (evict-sound sh x y (w.cores c) (k c))))
    (λ c n t q. one c (grant sh t (w.cores c)).core (grant-sound sh t (w.cores c) (k c)))
    (λ c d n m o eq q. one c o.core (got _ eq (back-sound sh d (w.cores c) m (k c))))
    (λ c d n m a b q. answered c d n (dir_deliver sh (w.dirs d) c m)) (λ c n a q. k)
  where
    one : (c : ℕ) (s : CoreState) → CoreSound sh s → (j : ℕ) → CoreSound sh (put w.cores c s j)
    one c s h j = go (j == c)
      where
        go : (b : Bool) → CoreSound sh (if b then s else w.cores j)
        go true = h
        go false = k j

    answered : (c d n : ℕ) (a : Answer) → OfAnswer w c d n (λ v. (c : ℕ) → CoreSound sh ((unnoted v).world.cores c)) a
    answered c d n Waits = tt
    answered c d n _ = k

-- dirty words are of lines of memory
dirty-lines : (sh : Shape) (events : ℕ) (h : History) → Sound sh events h → (c : ℕ) → DirtyInMemory sh (h.world.cores c).cache
unfolding is_dirty
dirty-lines sh events h k c l e =
    let x = line-found (λ w. is_some ((h.world.cores c).cache.dirty w)) l e in
    let i : line_of x.0 < lines sh = (k.marks c).dirty x.0 (x.2) in
    rw (x.1) at i

-- what holds after an event, by its parts
record After (sh : Shape) (events : ℕ) (h : History) (o : Stepped) : Type 0 where
  counted : Within sh (events + 1) o.world
  clean : Clean sh o.world
  pairs : PairsSound sh o.world
  cores : (c : ℕ) → CoreSound sh (o.world.cores c)
  once : Once sh o.world (and_noted o.noted h.commits)

-- from what is counted of the state before it
step-parts : (sh : Shape) (p : Program) (events : ℕ) (h : History) (e : Event) (o : Stepped) → 1 ≤ sh.dirs → StaysInMemory sh p
    → Sound sh events h → step sh p h.world e ≡ Some o → After sh events h o
step-parts sh p events h e o d i k q = record {
  counted = (got _ q (step-keeps sh p events h.world e i (record {
    links = links-inside sh events h k;
    cores = k.attempts;
    least = k.next_least;
    most = k.next_most;
  }))).world;
  clean = got _ q (step-clean sh p h.world e (record {
    links = links-clean sh events h k;
    dirs = λ d. record { owners = (k.lines d).owners; serves = k.serves d };
  }) d);
  pairs = got _ q (step-pairs sh p h.world h.commits (from-cores sh events h k) (dirty-lines sh events h k) k.once
      (pairs-sound sh events h k) e);
  cores = got _ q (step-cores sh p h.world e i (λ c. record { marks = k.marks c; ends = k.ends c }));
  once = got _ q (step-once sh p h.world h.commits e (from-cores sh events h k) k.once);
}

-- and back
sound-from : (sh : Shape) (events : ℕ) (h : History) (o : Stepped) → After sh events h o
    → Sound sh (events + 1) (record { world = o.world; commits = and_noted o.noted h.commits })
unfolding pair
sound-from sh events h o a = record {
  next_least = a.counted.least;
  next_most = a.counted.most;
  links = λ s d. (a.counted.links s d).few;
  messages = λ s d i m e. good sh o.world s d i m a.pairs e (link-fits sh s d (o.world.net s d) i m (a.clean.links s d) e)
      (link-inside sh (o.world.net s d) i m (a.counted.links s d).none e);
  attempts = a.counted.cores;
  marks = λ c. (a.cores c).marks;
  ends = λ c. (a.cores c).ends;
  lines = λ d. (a.pairs 0 d).lines;
  serves = λ d. (a.clean.dirs d).serves;
  once = a.once;
}

pub step-sound : (sh : Shape) (p : Program) (events : ℕ) (h : History) (e : Event) → 1 ≤ sh.dirs → StaysInMemory sh p
    → Sound sh events h → IfSome (next_history sh p h e) (Sound sh (events + 1))
unfolding next_history
step-sound sh p events h e d i k = go (step sh p h.world e) refl
  where
    go : (x : Option Stepped) → step sh p h.world e ≡ x → IfSome (recorded h x) (Sound sh (events + 1))
    go None q = tt
    go (Some o) q = sound-from sh events h o (step-parts sh p events h e o d i k q)

-- at the start

pub start-sound : (sh : Shape) (entries : ℕ → Local) (ram : ℕ → ℕ) → Sound sh 0 (record { world = start entries ram; commits = [] })
unfolding start core_start dir_start vendor_start no_lines first_serving empty_cache
start-sound sh entries ram = record {
  next_least = omega arith;
  next_most = omega arith;
  links = λ s d. omega arith;
  messages = λ s d i m e. absurd (cc);
  attempts = λ c. none 0;
  marks = λ c. record { modified = λ x e. absurd (cc); dirty = λ x e. absurd (cc) };
  ends = λ c e. absurd (cc);
  lines = λ d. record { marked = λ l e. absurd (cc); owners = λ l c e. absurd (cc) };
  serves = λ d. omega arith;
  once = (start-owners sh entries ram).once;
}

-- the laws

pub sound_at_start : SoundAtStart
sound_at_start s a = start-sound s.settings (local_at_start s) (first_ram s)

pub each_sound_after : SoundAfterEvent
each_sound_after s events h e a k =
    let u = riscv_programs_suit s a in step-sound s.settings (program s) events h e u.dirs u.inside k

pub each_anew : CommitsAnew
each_anew sh p events h e k = step-anew sh p h.world h.commits e (from-cores sh events h k) k.once

pub sound_fewer : SoundWithFewer
sound_fewer sh events w cs ds f k = record {
  next_least = k.next_least;
  next_most = k.next_most;
  links = k.links;
  messages = k.messages;
  attempts = k.attempts;
  marks = k.marks;
  ends = k.ends;
  lines = k.lines;
  serves = k.serves;
  once = λ t. omega (arith, k.once t, f t);
}

-- as other crates cite them

pub sound_after : (s : Start) (events : ℕ) (h g : History) (e : Event) → IsAllowed s.settings → Sound s.settings events h
    → next_history s.settings (program s) h e ≡ Some g → Sound s.settings (events + 1) g
sound_after s events h g e a k q = got _ q (each_sound_after s events h e a k)

pub sound_noted : (sh : Shape) (p : Program) (events : ℕ) (h : History) (e : Event) (o : Stepped) (x : Noted) → Sound sh events h
    → step sh p h.world e ≡ Some o → o.noted ≡ Some x → times x.tid.0 h.commits ≡ 0
sound_noted sh p events h e o x k q n = got _ n (got _ q (each_anew sh p events h e k))
