-- Every state that a run reaches is in bounds: from what the theorem's list says of it, and from what is counted along the run.
use Rattle.std.specs.Prelude.{ℕ, ◌≡◌, ◌<◌, Bool, true, false, List, length, Option, Some, None, IfSome, is_some, nat_lt}
use Rattle.std.proofs.Common.{refl, subst, sym}
use Rattle.base_lemmas.proofs.Lemmas.{and-never, and-right}
use Rattle.rules_maps.specs.Cache.{Cache, IsCache}
use Rattle.rules_maps.specs.Nodes.{Node, Core, Dir, Vendor, Event, Msg, TidGrant}
use Rattle.rules_maps.specs.Shape.{Shape, lines}
use Rattle.rules_maps.specs.Words.{line_of}
use Rattle.rules_tcc.specs.Links.{in_flight}
use Rattle.rules_tcc.specs.State.{CoreState, Awaited, start}
use Rattle.rules_tcc.specs.Step.{History, run}
use Rattle.rules_tcc.proofs.Lemmas.{request-bare}
use Rattle.theorem_serial.specs.InMemory.{FramesInMemory, AttemptInMemory, WordInMemory}
use Rattle.theorem_serial.specs.Invariants.{Carried, CarriedInMemory, first_state}
use Rattle.theorem_serial.specs.Owners.{Grant, KeptOwners, grants_from}
use Rattle.theorem_serial.specs.Ways.{Ways, first_ways, ways_from}
use Rattle.theorem_serial.proofs.Lemmas.{runs_carry, runs_stay_in_memory, run-owners}
use Rattle.theorem_live.specs.Fits.{KeptFits}
use Rattle.rules_maps.specs.Messages.{fits, is_request, IsLine, WasGranted, InBounds}
use Rattle.theorem_live.proofs.Lemmas.{links_fit}
use Rattle.theorem_bounds.specs.Bounds.{CacheInMemory, CoreInBounds, IsBounded, RunsAreBounded}
use Rattle.theorem_bounds.proofs.AtHome.{out-line, back-line}
use Rattle.theorem_bounds.proofs.Ends.{fits_out, fits_back}
use Rattle.theorem_bounds.proofs.Granted.{Reached, commit_granted, core_granted, serves-bounded, out_granted, back_granted, grant_granted}
use Rattle.theorem_bounds.proofs.Outside.{is_inside, link-inside}
use Rattle.theorem_bounds.proofs.Steps.{Counts, each-at, runs-count}

-- cores

pub kept_in_frames : (sh : Shape) (c : Cache) → IsCache sh c → FramesInMemory sh c → CacheInMemory sh c
kept_in_frames sh c k f = record {
  at = λ s y l e. f l ((k.placed s y l e).2);
  held = f;
  valid = valid;
  read = λ x e. read x e (c.held (line_of x)) refl;
  modified = λ x e. valid x (k.modified x e);
  dirty = λ x e. valid x (k.dirty x e);
}
  where
    valid_in : (x : ℕ) → is_some (c.value x) ≡ true → (b : Bool) → c.held (line_of x) ≡ b → WordInMemory sh x
    valid_in x e true q = f (line_of x) q
    valid_in x e false q = absurd (let n = k.valued x q in cc)

    valid : (x : ℕ) → is_some (c.value x) ≡ true → WordInMemory sh x
    valid x e = valid_in x e (c.held (line_of x)) refl

    read : (x : ℕ) → c.read x ≡ true → (b : Bool) → c.held (line_of x) ≡ b → WordInMemory sh x
    read x e true q = f (line_of x) q
    read x e false q = absurd (let n = k.unread x q in cc)

awaits : (sh : Shape) (s : CoreState) → AttemptInMemory sh s → IfSome s.awaited (λ a. a.line < lines sh)
awaits sh s k = go s.awaited refl
  where
    go : (o : Option Awaited) → s.awaited ≡ o → IfSome o (λ a. a.line < lines sh)
    go None e = tt
    go (Some a) e = k.awaited a e

core-bounded : (sh : Shape) (n : ℕ) (h : History) → Reached sh h → CarriedInMemory sh h → Counts sh n h → (c : ℕ)
    → CoreInBounds sh n h.world.next (h.world.cores c)
core-bounded sh n h r m k c = record {
  attempt = k.world.cores c;
  tid = λ t e. core_granted sh h r c t e;
  cache = kept_in_frames sh (h.world.cores c).cache (r.carried.frames_stand_in_their_sets c) (m.frames_are_of_lines_in_memory c);
  spilled = (m.attempts_stay_in_memory c).spilled;
  awaited = awaits sh (h.world.cores c) (m.attempts_stay_in_memory c);
}

-- messages

ask-bounded : (sh : Shape) (next c : ℕ) (m : Msg) → fits sh (Core c) Vendor m ≡ true → InBounds sh next (Core c) Vendor m
unfolding fits
ask-bounded sh next c m f = let b = request-bare m (and-right (nat_lt c sh.cores) (is_request m) f) in record {
  fits = f;
  line = subst (λ o. IfSome o (IsLine sh (Core c) Vendor)) (sym b.0) tt;
  tid = subst (λ o. IfSome o (WasGranted next)) (sym b.1) tt;
}

grant-bounded : (sh : Shape) (h : History) → Reached sh h → (c i : ℕ) (m : Msg) → in_flight h.world.net Vendor (Core c) i ≡ Some m
    → fits sh Vendor (Core c) m ≡ true → InBounds sh h.world.next Vendor (Core c) m
unfolding fits
grant-bounded sh h r c i (TidGrant t) e f = record { fits = f; line = tt; tid = grant_granted sh h r c i t e }
grant-bounded sh h r c i m e f = absurd (and-never (nat_lt c sh.cores) f)

-- no other link has a message
no-such : (sh : Shape) (src dst : Node) (m : Msg) (next : ℕ) → fits sh src dst m ≡ true → fits sh src dst m ≡ false
    → InBounds sh next src dst m
no-such sh src dst m next e f = absurd (cc)

message-bounded : (sh : Shape) (h : History) → Reached sh h → CarriedInMemory sh h → (src dst : Node) (i : ℕ) (m : Msg)
    → in_flight h.world.net src dst i ≡ Some m → fits sh src dst m ≡ true → is_inside sh m ≡ true → InBounds sh h.world.next src dst m
unfolding fits
message-bounded sh h r q (Core c) (Dir d) i m e f s =
    let b = fits_out sh c d m f in record {
      fits = f;
      line = out-line sh h r c d i m q.copies_in_flight_are_of_lines_in_memory s e;
      tid = out_granted sh h r c d i m b.core b.dir e b.goes;
    }
message-bounded sh h r q (Dir d) (Core c) i m e f s =
    let b = fits_back sh c d m f in record {
      fits = f;
      line = back-line sh h r c d i m s b.goes e;
      tid = back_granted sh h r c d i m b.core b.dir e b.goes;
    }
message-bounded sh h r q (Core c) Vendor i m e f s = ask-bounded sh h.world.next c m f
message-bounded sh h r q Vendor (Core c) i m e f s = grant-bounded sh h r c i m e f
message-bounded sh h r q (Core c) (Core d) i m e f s = no-such sh (Core c) (Core d) m h.world.next f refl
message-bounded sh h r q (Dir c) (Dir d) i m e f s = no-such sh (Dir c) (Dir d) m h.world.next f refl
message-bounded sh h r q (Dir d) Vendor i m e f s = no-such sh (Dir d) Vendor m h.world.next f refl
message-bounded sh h r q Vendor (Dir d) i m e f s = no-such sh Vendor (Dir d) m h.world.next f refl
message-bounded sh h r q Vendor Vendor i m e f s = no-such sh Vendor Vendor m h.world.next f refl

-- all of it

bounded : (sh : Shape) (es : List Event) (h : History) → Reached sh h → CarriedInMemory sh h → Counts sh (length es) h → IsBounded sh es h
bounded sh es h r m k = record {
  next_least = k.world.least;
  next_most = k.world.most;
  cores = core-bounded sh (length es) h r m k;
  dirs = serves-bounded sh h r;
  messages = λ src dst i x e.
      message-bounded sh h r m src dst i x e (r.fits.links src dst i x e)
      (link-inside sh (h.world.net src dst) i x (k.world.links src dst).none e);
  links = λ src dst. (k.world.links src dst).few;
  number = k.number;
  granted = λ x c. commit_granted sh h r x c;
  counted = λ x c. each-at (length es) h.commits x k.commits c;
}

pub runs_are_bounded : RunsAreBounded
runs_are_bounded sh p entries ram es d i = go (run sh p (start entries ram) es) (runs_carry sh p entries ram es)
    (run-owners sh p entries ram es) (links_fit sh p entries ram es d) (runs_stay_in_memory sh p entries ram es i)
    (runs-count sh p entries ram es i)
  where
    gs : List Grant
    gs = grants_from sh p es (first_state entries ram)

    ys : Ways
    ys = ways_from sh p es first_ways (first_state entries ram)

    go : (x : Option History) → IfSome x (λ h. Carried sh gs ys h) → IfSome x (λ h. KeptOwners sh gs h.world h.commits)
        → IfSome x (λ h. KeptFits sh h.world) → IfSome x (λ h. CarriedInMemory sh h) → IfSome x (Counts sh (length es))
        → IfSome x (IsBounded sh es)
    go None a b c d k = tt
    go (Some h) a b c d k =
        bounded sh es h (record { grants = gs; ways = ys; carried = a; owners = b; fits = c }) d k
