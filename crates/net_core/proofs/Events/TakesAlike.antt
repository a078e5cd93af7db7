-- A directory takes the same messages in states that differ only where no message looks.
use Rattle.std.proofs.Common.{◌≡◌, ◌≢◌, ℕ, Bool, true, false, ◌||◌, ◌&&◌, List, Option, Some, None, refl, sym, ◌∙◌}
use Rattle.std.specs.Prelude.{nat_lt, nat_le, ◌==◌, if◌then◌else◌}
use Rattle.std.proofs.lemmas.Bool.{eq-eqb, false≢true}
use Rattle.tcc_base.specs.Settings.{Settings}
use Rattle.rules_maps.specs.Judge.{Judgement, judge, Current, Outdated, TooEarly}
use Rattle.rules_maps.specs.Lines.{has_mark}
use Rattle.rules_maps.specs.Masks.{full}
use Rattle.rules_maps.specs.Nodes.{Msg, TidReq, TidGrant, LoadReq, Fill, Skip, Probe, ProbeReply, Mark, Commit, Abort}
use Rattle.rules_maps.specs.Nodes.{WriteBack, Flush, DataReq, Inv, InvAck}
use Rattle.rules_maps.specs.Shape.{lines}
use Rattle.rules_maps.specs.Words.{count_below}
use Rattle.rules_tcc.specs.DirDeliver.{Answer, ask_owner, dir_commit, dir_deliver, judged}
use Rattle.rules_tcc.specs.DirDeliver.{load_unless_owned, load_request, mark, mark_unless_owned, probe, write_back}
use Rattle.rules_tcc.specs.State.{DirState}
use Rattle.directory.specs.Gives.{is_taken}
use Rattle.directory.proofs.Lemmas.{skip-taken, abort-taken, acknowledgement-taken}
use Rattle.net_core.specs.Taking.{AtLine, SameBut, SameTaking, is_seen}

if-taken : (b : Bool) (x y : Answer) (p q : Bool) → is_taken x ≡ p → is_taken y ≡ q → is_taken (if b then x else y) ≡ (if b then p else q)
if-taken true x y p q e f = e
if-taken false x y p q e f = f

-- ---- these by what is the same

probe-taken : (c k : ℕ) (s : DirState) → is_taken (probe c k s) ≡ (if nat_lt s.serving.serving k then false else true)
unfolding probe
probe-taken c k s = if-taken (nat_lt s.serving.serving k) _ _ false true refl refl

-- a line's owner is asked once
abbrev once : Option ℕ → (asked : Bool) → Bool
once None asked = true
once (Some o) asked = if asked then false else true

ask-taken : (o l : ℕ) (s : DirState) → is_taken (ask_owner o l s) ≡ once (Some o) (s.lines.asked l)
unfolding ask_owner
ask-taken o l s = if-taken (s.lines.asked l) _ _ false true refl refl

abbrev loads : (serving last mark : ℕ) → Option ℕ → Bool → Bool
loads v last m o asked = if nat_le v last || nat_lt 0 m then false else once o asked

load-taken : (c l last : ℕ) (s : DirState)
    → is_taken (load_request c l last s) ≡ loads s.serving.serving last (s.lines.mark l) (s.lines.owner l) (s.lines.asked l)
unfolding load_request
load-taken c l last s =
    if-taken (nat_le s.serving.serving last || has_mark s.lines l) _ _ false (once (s.lines.owner l) (s.lines.asked l)) refl
    (by (s.lines.owner l))
  where
    by : (o : Option ℕ) → is_taken (load_unless_owned c l s o) ≡ once o (s.lines.asked l)
    by None = refl
    by (Some o) = ask-taken o l s

abbrev marks : (tid serving : ℕ) → (full : Bool) → Option ℕ → Bool → Bool
marks k v f o asked = if nat_lt k v then true else (if nat_lt v k then false else (if f then true else once o asked))

mark-taken : (l m k : ℕ) (s : DirState)
    → is_taken (mark l m k s) ≡ marks k s.serving.serving (m == full) (s.lines.owner l) (s.lines.asked l)
unfolding mark
mark-taken l m k s =
    if-taken (nat_lt k s.serving.serving) _ _ true _ refl
    (if-taken (nat_lt s.serving.serving k) _ _ false _ refl
    (if-taken (m == full) _ _ true (once (s.lines.owner l) (s.lines.asked l)) refl (by (s.lines.owner l))))
  where
    by : (o : Option ℕ) → is_taken (mark_unless_owned l m s o) ≡ once o (s.lines.asked l)
    by None = refl
    by (Some o) = ask-taken o l s

abbrev commits : Settings → (tid count serving : ℕ) → (mark : ℕ → ℕ) → Bool
commits sh k count v mark = if v == k && count_below (λ l. nat_lt 0 (mark l)) (lines sh) == count then true else false

commit-taken : (sh : Settings) (c k count : ℕ) (s : DirState)
    → is_taken (dir_commit sh c k count s) ≡ commits sh k count s.serving.serving s.lines.mark
unfolding dir_commit
commit-taken sh c k count s =
    if-taken (s.serving.serving == k && count_below (has_mark s.lines) (lines sh) == count) _ _ true false refl refl

abbrev comes_home : Judgement → Bool
comes_home TooEarly = false
comes_home Current = true
comes_home Outdated = true

home-taken : (c l m : ℕ) (ws : List ℕ) (g : ℕ) (s : DirState)
    → is_taken (write_back c l m ws g s) ≡ comes_home (judge (s.lines.owner l) (s.lines.tag l) c g)
unfolding write_back
home-taken c l m ws g s = by (judge (s.lines.owner l) (s.lines.tag l) c g)
  where
    by : (j : Judgement) → is_taken (judged l m ws s j) ≡ comes_home j
    by TooEarly = refl
    by Current = refl
    by Outdated = refl

home-alike : (c l m : ℕ) (ws : List ℕ) (g : ℕ) (s t : DirState) → SameTaking s t
    → is_taken (write_back c l m ws g t) ≡ is_taken (write_back c l m ws g s)
home-alike c l m ws g s t e =
    home-taken c l m ws g t ∙ (λ i. comes_home (judge (e.owner i l) (e.tag i l) c g)) ∙ sym (home-taken c l m ws g s)

pub taken-alike : (sh : Settings) (s t : DirState) (c : ℕ) (m : Msg) → SameTaking s t
    → is_taken (dir_deliver sh t c m) ≡ is_taken (dir_deliver sh s c m)
unfolding dir_deliver
taken-alike sh s t c (Skip k) e = skip-taken k t ∙ sym (skip-taken k s)
taken-alike sh s t c (Abort k) e = abort-taken k t ∙ sym (abort-taken k s)
taken-alike sh s t c (InvAck l keeps) e = acknowledgement-taken c l keeps t ∙ sym (acknowledgement-taken c l keeps s)
taken-alike sh s t c (Probe k) e = probe-taken c k t ∙ (λ i. if nat_lt (e.serving i) k then false else true) ∙ sym (probe-taken c k s)
taken-alike sh s t c (LoadReq l last) e =
    load-taken c l last t ∙ (λ i. loads (e.serving i) last (e.mark i l) (e.owner i l) (e.asked i l)) ∙ sym (load-taken c l last s)
taken-alike sh s t c (Mark l m k) e =
    mark-taken l m k t ∙ (λ i. marks k (e.serving i) (m == full) (e.owner i l) (e.asked i l)) ∙ sym (mark-taken l m k s)
taken-alike sh s t c (Commit k count) e =
    commit-taken sh c k count t ∙ (λ i. commits sh k count (e.serving i) (e.mark i)) ∙ sym (commit-taken sh c k count s)
taken-alike sh s t c (WriteBack l m ws g) e = home-alike c l m ws g s t e
taken-alike sh s t c (Flush l m ws g) e = home-alike c l m ws g s t e
taken-alike sh s t c TidReq e = refl
taken-alike sh s t c (TidGrant k) e = refl
taken-alike sh s t c (Fill l ws) e = refl
taken-alike sh s t c (ProbeReply k serving) e = refl
taken-alike sh s t c (DataReq l) e = refl
taken-alike sh s t c (Inv l m k) e = refl

-- ---- in states that differ at one line only, what isn't about it

home-but : (c l m : ℕ) (ws : List ℕ) (g line : ℕ) (s t : DirState) → SameBut line s t → l ≢ line
    → is_taken (write_back c l m ws g t) ≡ is_taken (write_back c l m ws g s)
home-but c l m ws g line s t e ne =
    home-taken c l m ws g t ∙ (λ i. comes_home (judge (e.owner l ne i) (e.tag l ne i) c g)) ∙ sym (home-taken c l m ws g s)

other-line : (a b : ℕ) → (a == b) ≡ false → a ≢ b
other-line a b f q = let same : (a == b) ≡ true = eq-eqb a b q in false≢true (sym f ∙ same)

pub taken-but : (sh : Settings) (s t : DirState) (c d line : ℕ) (m : Msg) → SameBut line s t → is_seen (AtLine line) d m ≡ false
    → is_taken (dir_deliver sh t c m) ≡ is_taken (dir_deliver sh s c m)
unfolding dir_deliver
taken-but sh s t c d line (Skip k) e f = skip-taken k t ∙ sym (skip-taken k s)
taken-but sh s t c d line (Abort k) e f = abort-taken k t ∙ sym (abort-taken k s)
taken-but sh s t c d line (InvAck l keeps) e f = acknowledgement-taken c l keeps t ∙ sym (acknowledgement-taken c l keeps s)
taken-but sh s t c d line (Probe k) e f =
    probe-taken c k t ∙ (λ i. if nat_lt (e.serving i) k then false else true) ∙ sym (probe-taken c k s)
taken-but sh s t c d line (LoadReq l last) e f =
    let ne = other-line l line f in
    load-taken c l last t ∙ (λ i. loads (e.serving i) last (e.mark l ne i) (e.owner l ne i) (e.asked l ne i)) ∙ sym (load-taken c l last s)
taken-but sh s t c d line (Mark l m k) e f =
    let ne = other-line l line f in
    mark-taken l m k t ∙ (λ i. marks k (e.serving i) (m == full) (e.owner l ne i) (e.asked l ne i)) ∙ sym (mark-taken l m k s)
taken-but sh s t c d line (Commit k count) e f = absurd (other-line d d f refl)
taken-but sh s t c d line (WriteBack l m ws g) e f = home-but c l m ws g line s t e (other-line l line f)
taken-but sh s t c d line (Flush l m ws g) e f = home-but c l m ws g line s t e (other-line l line f)
taken-but sh s t c d line TidReq e f = refl
taken-but sh s t c d line (TidGrant k) e f = refl
taken-but sh s t c d line (Fill l ws) e f = refl
taken-but sh s t c d line (ProbeReply k serving) e f = refl
taken-but sh s t c d line (DataReq l) e f = refl
taken-but sh s t c d line (Inv l m k) e f = refl
