-- What each rule gives, by the tests that it makes.
use Rattle.std.proofs.Common.{◌≡◌, ℕ, ◌-◌, Bool, true, false, ◌==◌, ◌&&◌, nat_lt, if◌then◌else◌, List, [], ◌∷◌, Option}
use Rattle.std.proofs.Common.{None, refl, ap}
use Rattle.std.specs.Prelude.{nat_le}
use Rattle.rules_maps.specs.Words.{count_below}
use Rattle.rules_maps.specs.Masks.{full}
use Rattle.rules_maps.specs.Nodes.{Core, ProbeReply, DataReq}
use Rattle.rules_maps.specs.Shape.{Shape, lines}
use Rattle.rules_maps.specs.Serving.{Serving, advance, skipped, kept as kept_skip}
use Rattle.rules_maps.specs.Lines.{with_asked, has_mark}
use Rattle.rules_maps.specs.Judge.{judge, Current, Outdated, TooEarly}
use Rattle.rules_tcc.specs.State.{DirState}
use Rattle.rules_tcc.specs.Sends.{nothing, to}
use Rattle.rules_tcc.specs.DirDeliver.{Waits, Drops, Asks, Takes, skip, abort, probe, ask_owner, load_unless_owned, load_request, mark}
use Rattle.rules_tcc.specs.DirDeliver.{mark_taken, mark_unless_owned, dir_commit, acknowledgement, write_back, judged, came_home, moved_on}
use Rattle.rules_tcc.specs.DirDeliver.{moved_on_if_settled, owned_by_committer, invalidation_count, invalidations, unless_keeps}

pub skip-lower : (t : ℕ) (s : DirState) → nat_lt t s.serving.serving ≡ true → skip t s ≡ Drops
unfolding skip
skip-lower t s f = rw f refl

pub skip-other : (t : ℕ) (s : DirState) → nat_lt t s.serving.serving ≡ false
    → skip t s ≡ Takes (record s { serving = skipped t s.serving }) nothing
unfolding skip
skip-other t s f = rw f refl

pub skipped-served : (t : ℕ) (s : Serving) → nat_lt t s.serving ≡ false → (s.serving == t) ≡ true → skipped t s ≡ advance s
unfolding skipped
skipped-served t s f g = rw (f, g) refl

pub skipped-higher : (t : ℕ) (s : Serving) → nat_lt t s.serving ≡ false → (s.serving == t) ≡ false → skipped t s ≡ kept_skip t s
unfolding skipped
skipped-higher t s f g = rw (f, g) refl

pub abort-lower : (t : ℕ) (s : DirState) → nat_lt t s.serving.serving ≡ true → abort t s ≡ Drops
unfolding abort
abort-lower t s f = rw f refl

pub abort-served : (t : ℕ) (s : DirState) → nat_lt t s.serving.serving ≡ false → (s.serving.serving == t) ≡ true
    → abort t s ≡ Takes (moved_on s) nothing
unfolding abort
abort-served t s f g = rw (f, g) refl

pub abort-higher : (t : ℕ) (s : DirState) → nat_lt t s.serving.serving ≡ false → (s.serving.serving == t) ≡ false
    → abort t s ≡ Takes (record s { serving = kept_skip t s.serving }) nothing
unfolding abort
abort-higher t s f g = rw (f, g) refl

pub probe-early : (c t : ℕ) (s : DirState) → nat_lt s.serving.serving t ≡ true → probe c t s ≡ Waits
unfolding probe
probe-early c t s f = rw f refl

pub probe-served : (c t : ℕ) (s : DirState) → nat_lt s.serving.serving t ≡ false
    → probe c t s ≡ Takes s (to (Core c) (ProbeReply t s.serving.serving ∷ []))
unfolding probe
probe-served c t s f = rw f refl

pub ask-asked : (o l : ℕ) (s : DirState) → s.lines.asked l ≡ true → ask_owner o l s ≡ Waits
unfolding ask_owner
ask-asked o l s f = rw f refl

pub ask-first : (o l : ℕ) (s : DirState) → s.lines.asked l ≡ false
    → ask_owner o l s ≡ Asks (record s { lines = with_asked l true s.lines }) (to (Core o) (DataReq l ∷ []))
unfolding ask_owner
ask-first o l s f = rw f refl

pub load-early : (c l after : ℕ) (s : DirState) → nat_le s.serving.serving after ≡ true → load_request c l after s ≡ Waits
unfolding load_request
load-early c l after s f = rw f refl

pub load-marked : (c l after : ℕ) (s : DirState) → nat_le s.serving.serving after ≡ false → has_mark s.lines l ≡ true
    → load_request c l after s ≡ Waits
unfolding load_request
load-marked c l after s f g = rw (f, g) refl

pub load-other : (c l after : ℕ) (s : DirState) → nat_le s.serving.serving after ≡ false → has_mark s.lines l ≡ false
    → load_request c l after s ≡ load_unless_owned c l s (s.lines.owner l)
unfolding load_request
load-other c l after s f g = rw (f, g) refl

pub mark-lower : (l m t : ℕ) (s : DirState) → nat_lt t s.serving.serving ≡ true → mark l m t s ≡ Drops
unfolding mark
mark-lower l m t s f = rw f refl

pub mark-early : (l m t : ℕ) (s : DirState) → nat_lt t s.serving.serving ≡ false → nat_lt s.serving.serving t ≡ true → mark l m t s ≡ Waits
unfolding mark
mark-early l m t s f g = rw (f, g) refl

-- by the owner that is to be asked first
pub mark-served : (l m t : ℕ) (s : DirState) → nat_lt t s.serving.serving ≡ false → nat_lt s.serving.serving t ≡ false
    → mark l m t s ≡ mark_unless_owned l m s (if m == full then None else s.lines.owner l)
unfolding mark
mark-served l m t s f g = rw (f, g) (by (m == full) (s.lines.owner l))
  where
    by : (b : Bool) (o : Option ℕ) →
        (if b then mark_taken l m s else mark_unless_owned l m s o) ≡ mark_unless_owned l m s (if b then None else o)
    by true o = refl
    by false o = refl

pub commit-early : (sh : Shape) (c t count : ℕ) (s : DirState) → (s.serving.serving == t) ≡ false → dir_commit sh c t count s ≡ Waits
unfolding dir_commit
commit-early sh c t count s f = rw f refl

pub commit-unmarked : (sh : Shape) (c t count : ℕ) (s : DirState) → (count_below (has_mark s.lines) (lines sh) == count) ≡ false
    → dir_commit sh c t count s ≡ Waits
unfolding dir_commit
commit-unmarked sh c t count s f = rw f (by (s.serving.serving == t))
  where
    by : (b : Bool)
        → (if b && false then Takes
        (moved_on_if_settled (record s { lines = owned_by_committer c t s.lines; owed = invalidation_count sh s.lines c }))
        (invalidations sh s.lines c t) else Waits) ≡ Waits
    by true = refl
    by false = refl

pub commit-marked : (sh : Shape) (c t count : ℕ) (s : DirState) → (s.serving.serving == t) ≡ true
    → (count_below (has_mark s.lines) (lines sh) == count) ≡ true
    → dir_commit sh c t count s ≡ Takes
    (moved_on_if_settled (record s { lines = owned_by_committer c t s.lines; owed = invalidation_count sh s.lines c }))
    (invalidations sh s.lines c t)
unfolding dir_commit
commit-marked sh c t count s f g = rw (f, g) refl

pub acknowledgement-none : (c l : ℕ) (keeps : Bool) (s : DirState) → (s.owed == 0) ≡ true → acknowledgement c l keeps s ≡ Drops
unfolding acknowledgement
acknowledgement-none c l keeps s f = rw f refl

pub acknowledgement-owed : (c l : ℕ) (keeps : Bool) (s : DirState) → (s.owed == 0) ≡ false
    → acknowledgement c l keeps s
    ≡ Takes (moved_on_if_settled (record s { lines = unless_keeps keeps c l s.lines; owed = s.owed - 1 })) nothing
unfolding acknowledgement
acknowledgement-owed c l keeps s f = rw f refl

pub home-early : (c l m : ℕ) (ws : List ℕ) (g : ℕ) (s : DirState) → judge (s.lines.owner l) (s.lines.tag l) c g ≡ TooEarly
    → write_back c l m ws g s ≡ Waits
unfolding write_back
home-early c l m ws g s f = ap (judged l m ws s) f

pub home-dropped : (c l m : ℕ) (ws : List ℕ) (g : ℕ) (s : DirState) → judge (s.lines.owner l) (s.lines.tag l) c g ≡ Outdated
    → write_back c l m ws g s ≡ Drops
unfolding write_back
home-dropped c l m ws g s f = ap (judged l m ws s) f

pub home-taken : (c l m : ℕ) (ws : List ℕ) (g : ℕ) (s : DirState) → judge (s.lines.owner l) (s.lines.tag l) c g ≡ Current
    → write_back c l m ws g s ≡ Takes (came_home l m ws s) nothing
unfolding write_back
home-taken c l m ws g s f = ap (judged l m ws s) f

pub settled-owed : (s : DirState) → (s.owed == 0) ≡ false → moved_on_if_settled s ≡ s
unfolding moved_on_if_settled
settled-owed s f = rw f refl

pub settled-none : (s : DirState) → (s.owed == 0) ≡ true → moved_on_if_settled s ≡ moved_on s
unfolding moved_on_if_settled
settled-none s f = rw f refl
