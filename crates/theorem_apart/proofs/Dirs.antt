-- A directory's answer keeps what it knows in bounds, and sends what its links carry.
use Rattle.std.specs.Prelude.{ℕ, ◌≡◌, ◌<◌, ◌==◌, ◌&&◌, ◌||◌, not, Bool, true, false, List, [], ◌∷◌, slice_index_or, Option, Some, None}
use Rattle.std.specs.Prelude.{IfSome, nat_lt, nat_le, if◌then◌else◌}
use Rattle.std.proofs.Common.{arith, refl, ap, sym, ◌∙◌}
use Rattle.std.proofs.lemmas.Bool.Decides.{nat_tests}
use Rattle.rules_maps.specs.Judge.{Judgement, judge, Current, Outdated, TooEarly}
use Rattle.rules_maps.specs.Lines.{Lines, has_mark}
use Rattle.rules_maps.specs.Masks.{full}
use Rattle.rules_maps.specs.Nodes.{Node, Core, Dir, Vendor, Msg, LoadReq, Fill, Skip, Probe, ProbeReply, Mark, Commit, Abort, WriteBack}
use Rattle.rules_maps.specs.Nodes.{Flush, DataReq, Inv, InvAck}
use Rattle.rules_maps.specs.Shape.{Shape, home, lines}
use Rattle.rules_maps.specs.Words.{count_below}
use Rattle.rules_tcc.specs.DirDeliver.{Answer, Waits, Drops, Asks, Takes, skip, abort, probe, ask_owner, home_words, load_unless_owned}
use Rattle.rules_tcc.specs.DirDeliver.{load_request, mark_unless_owned, mark, is_invalidated, invs_to, invalidations, dir_commit}
use Rattle.rules_tcc.specs.DirDeliver.{acknowledgement}
use Rattle.rules_tcc.specs.DirDeliver.{judged, write_back, dir_deliver}
use Rattle.rules_tcc.specs.Sends.{Sends, nothing, to}
use Rattle.rules_tcc.specs.State.{DirState}
use Rattle.theorem_serial.proofs.Lemmas.{Marked, MarkedBy, Stays, Clears, Skipped, Marks, dir-marked}
use Rattle.rules_maps.specs.Messages.{fits, line_named}
use Rattle.theorem_live.proofs.Lemmas.{FitAnswer, fit-answer, AllFit}
use Rattle.theorem_bounds.proofs.Lemmas.{fits_out}
use Rattle.rules_apart.specs.Carried.{IsCarried}
use Rattle.theorem_apart.specs.Apart.{DirApart, EachCarried}
use Rattle.theorem_apart.proofs.sends.Carries.{each-fits}
use Rattle.theorem_apart.proofs.sends.Each.{Each, each-all, each-none, each-one, each-those}
use Rattle.theorem_apart.proofs.sends.Timely.{IsTid, Timely}

-- a line of memory, at home at this directory
abbrev LineOf : Shape → (dir line : ℕ) → Type 0
LineOf sh d l = (l < lines sh) × (home sh l ≡ d)

-- what the directory says to a core: of a line at home there, and of a TID that can be given
record Says (sh : Shape) (d : ℕ) (m : Msg) : Type 0 where
  line : IfSome (line_named m) (LineOf sh d)
  tid : Timely m

abbrev AllSaid : Shape → (dir : ℕ) → Sends → Type 0
AllSaid sh d sends = (c : ℕ) → Each (Says sh d) (sends (Core c))

abbrev SaysBy : Shape → (dir : ℕ) → Answer → Type 0
SaysBy sh d Waits = Unit {0}
SaysBy sh d Drops = Unit {0}
SaysBy sh d (Asks s sends) = AllSaid sh d sends
SaysBy sh d (Takes s sends) = AllSaid sh d sends

either : (sh : Shape) (d : ℕ) (b : Bool) (x y : Answer) → SaysBy sh d x → SaysBy sh d y → SaysBy sh d (if b then x else y)
either sh d true x y f g = f
either sh d false x y f g = g

silent : (sh : Shape) (d : ℕ) → AllSaid sh d nothing
silent sh d c = each-none (Says sh d)

says-one : (sh : Shape) (d c : ℕ) (m : Msg) → Says sh d m → AllSaid sh d (to (Core c) (m ∷ []))
says-one sh d c m h j = go (j == c)
  where
    go : (b : Bool) → Each (Says sh d) (if b then m ∷ [] else [])
    go true = each-one (Says sh d) m h
    go false = each-none (Says sh d)

-- by message

asks_owner : (sh : Shape) (d o l : ℕ) (s : DirState) → LineOf sh d l → SaysBy sh d (ask_owner o l s)
unfolding ask_owner
asks_owner sh d o l s h = either sh d (s.lines.asked l) Waits _ tt (says-one sh d o (DataReq l) (record { line = h; tid = tt }))

skips : (sh : Shape) (d t : ℕ) (s : DirState) → SaysBy sh d (skip t s)
unfolding skip
skips sh d t s = either sh d (nat_lt t s.serving.serving) Drops _ tt (silent sh d)

aborts : (sh : Shape) (d t : ℕ) (s : DirState) → SaysBy sh d (abort t s)
unfolding abort
aborts sh d t s = either sh d (nat_lt t s.serving.serving) Drops _ tt
    (either sh d (s.serving.serving == t) _ _ (silent sh d) (silent sh d))

probes : (sh : Shape) (d c t : ℕ) (s : DirState) → IsTid t → SaysBy sh d (probe c t s)
unfolding probe
probes sh d c t s g = either sh d (nat_lt s.serving.serving t) Waits _ tt
    (says-one sh d c (ProbeReply t s.serving.serving) (record { line = tt; tid = g }))

loads : (sh : Shape) (d c l a : ℕ) (s : DirState) → LineOf sh d l → SaysBy sh d (load_request c l a s)
unfolding load_request
loads sh d c l a s h = either sh d (nat_le s.serving.serving a || has_mark s.lines l) Waits _ tt (go (s.lines.owner l))
  where
    go : (o : Option ℕ) → SaysBy sh d (load_unless_owned c l s o)
    go None = says-one sh d c (Fill l (home_words s l)) (record { line = h; tid = tt })
    go (Some o) = asks_owner sh d o l s h

marks : (sh : Shape) (d l m t : ℕ) (s : DirState) → LineOf sh d l → SaysBy sh d (mark l m t s)
unfolding mark
marks sh d l m t s h = either sh d (nat_lt t s.serving.serving) Drops _ tt
    (either sh d (nat_lt s.serving.serving t) Waits _ tt (either sh d (m == full) _ _ (silent sh d) (go (s.lines.owner l))))
  where
    go : (o : Option ℕ) → SaysBy sh d (mark_unless_owned l m s o)
    go None = silent sh d
    go (Some o) = asks_owner sh d o l s h

-- only marked lines are invalidated
invalidates : (sh : Shape) (d : ℕ) (ls : Lines) (c t : ℕ) → ((l : ℕ) → has_mark ls l ≡ true → LineOf sh d l) → IsTid t
    → AllSaid sh d (invalidations sh ls c t)
unfolding invalidations invs_to is_invalidated
invalidates sh d ls c t h g j = each-those (Says sh d) (λ l. Inv l (ls.mark l) t) (is_invalidated sh ls c j) (lines sh)
    (λ l i e. record { line = h l (marked (nat_lt j sh.cores) (has_mark ls l) (ls.sharers l j) (not (j == c)) e); tid = g })
  where
    marked : (a b x y : Bool) → (a && b && x && y) ≡ true → b ≡ true
    marked true true x y e = refl
    marked true false x y e = absurd (cc)
    marked false b x y e = absurd (cc)

commits : (sh : Shape) (d c t n : ℕ) (s : DirState) → DirApart sh d s → IsTid t → SaysBy sh d (dir_commit sh c t n s)
unfolding dir_commit
commits sh d c t n s k g = either sh d (s.serving.serving == t && count_below (has_mark s.lines) (lines sh) == n) _ Waits
    (invalidates sh d s.lines c t k.marked g) tt

acks : (sh : Shape) (d c l : ℕ) (keeps : Bool) (s : DirState) → SaysBy sh d (acknowledgement c l keeps s)
unfolding acknowledgement
acks sh d c l keeps s = either sh d (s.owed == 0) Drops _ tt (silent sh d)

backs : (sh : Shape) (d c l m : ℕ) (ws : List ℕ) (g : ℕ) (s : DirState) → SaysBy sh d (write_back c l m ws g s)
unfolding write_back
backs sh d c l m ws g s = go (judge (s.lines.owner l) (s.lines.tag l) c g)
  where
    go : (j : Judgement) → SaysBy sh d (judged l m ws s j)
    go TooEarly = tt
    go Outdated = tt
    go Current = silent sh d

says : (sh : Shape) (d c : ℕ) (s : DirState) (m : Msg) → IsCarried sh (Core c) (Dir d) m → DirApart sh d s
    → SaysBy sh d (dir_deliver sh s c m)
unfolding dir_deliver
says sh d c s (Skip t) b k = skips sh d t s
says sh d c s (Abort t) b k = aborts sh d t s
says sh d c s (Probe t) b k = probes sh d c t s b.tid
says sh d c s (LoadReq l a) b k = loads sh d c l a s b.line
says sh d c s (Mark l m t) b k = marks sh d l m t s b.line
says sh d c s (Commit t n) b k = commits sh d c t n s k b.tid
says sh d c s (InvAck l x) b k = acks sh d c l x s
says sh d c s (WriteBack l m ws g) b k = backs sh d c l m ws g s
says sh d c s (Flush l m ws g) b k = backs sh d c l m ws g s
says sh d c s _ b k = tt

-- what is sent is carried

-- to directories and the vendor nothing goes
elsewhere : (sh : Shape) (d : ℕ) (n : Node) (m : Msg) → fits sh (Dir d) n m ≡ true → fits sh (Dir d) n m ≡ false
    → IsCarried sh (Dir d) n m
elsewhere sh d n m e f = absurd (cc)

dir-carries : (sh : Shape) (d : ℕ) (sends : Sends) → AllFit sh (Dir d) sends → AllSaid sh d sends → EachCarried sh (Dir d) sends
unfolding fits
dir-carries sh d sends f h (Core c) k x l =
    let y = each-all (Says sh d) (sends (Core c)) (h c) k x l in
    record { fits = each-fits sh (Dir d) sends f (Core c) k x l; line = y.line; tid = y.tid }
dir-carries sh d sends f h (Dir e) k x l =
    elsewhere sh d (Dir e) (slice_index_or (sends (Dir e)) k x) (each-fits sh (Dir d) sends f (Dir e) k x l) refl
dir-carries sh d sends f h Vendor k x l =
    elsewhere sh d Vendor (slice_index_or (sends Vendor) k x) (each-fits sh (Dir d) sends f Vendor k x l) refl

-- marks

-- a line is marked by a message only, or was before
marked-after : (sh : Shape) (c d : ℕ) (s : DirState) (m : Msg) (r : DirState) → IsCarried sh (Core c) (Dir d) m → DirApart sh d s
    → Marked s m r → (l : ℕ) → has_mark r.lines l ≡ true → LineOf sh d l
marked-after sh c d s m r b k (Stays e f g) l h = k.marked l (ap (nat_lt 0) (sym (f l)) ∙ h)
marked-after sh c d s m r b k (Clears e f g) l h = absurd (let z = ap (nat_lt 0) (f l) in cc)
marked-after sh c d s m r b k (Skipped e f) l h = k.marked l (ap (nat_lt 0) (sym (f l)) ∙ h)
marked-after sh c d s m r b k (Marks j n q e f) l h = go (l == j) refl (ap (nat_lt 0) (sym (f l)) ∙ h)
  where
    named : IfSome (line_named (Mark j n s.serving.serving)) (LineOf sh d)
    named = rw q at b.line

    go : (x : Bool) → (l == j) ≡ x → nat_lt 0 (if x then n else s.lines.mark l) ≡ true → LineOf sh d l
    go true e h = let i : l ≡ j = grind (arith, nat_tests) in rw i named
    go false e h = k.marked l h

-- what an answer leaves of a directory and sends from it
pub record DirActs (sh : Shape) (d : ℕ) (s : DirState) (sent : Sends) : Type 0 where
  pub apart : DirApart sh d s
  pub sends : EachCarried sh (Dir d) sent

abbrev pub ActsBy : Shape → (dir : ℕ) → Answer → Type 0
ActsBy sh d Waits = Unit {0}
ActsBy sh d Drops = Unit {0}
ActsBy sh d (Asks s sends) = DirActs sh d s sends
ActsBy sh d (Takes s sends) = DirActs sh d s sends

gathers : (sh : Shape) (c d : ℕ) (s : DirState) (m : Msg) (a : Answer) → IsCarried sh (Core c) (Dir d) m → DirApart sh d s
    → FitAnswer sh d a → SaysBy sh d a → MarkedBy s m a → ActsBy sh d a
gathers sh c d s m Waits b k f h q = tt
gathers sh c d s m Drops b k f h q = tt
gathers sh c d s m (Asks r sends) b k f h q = record {
  apart = record {
    exists = k.exists;
    serves = f.kept.serves;
    owners = f.kept.owners;
    marked = λ l e. k.marked l (ap (nat_lt 0) (sym ((q.1) l)) ∙ e);
  };
  sends = dir-carries sh d sends f.fit h;
}
gathers sh c d s m (Takes r sends) b k f h q = record {
  apart = record {
    exists = k.exists;
    serves = f.kept.serves;
    owners = f.kept.owners;
    marked = marked-after sh c d s m r b k q;
  };
  sends = dir-carries sh d sends f.fit h;
}

pub answers-act : (sh : Shape) (c d : ℕ) (s : DirState) (m : Msg) → IsCarried sh (Core c) (Dir d) m → DirApart sh d s
    → ActsBy sh d (dir_deliver sh s c m)
answers-act sh c d s m b k = gathers sh c d s m (dir_deliver sh s c m) b k
    (fit-answer sh d c s m (fits_out sh c d m b.fits).core k.exists (record { owners = k.owners; serves = k.serves })) (says sh d c s m b k)
    (dir-marked sh s c m)
