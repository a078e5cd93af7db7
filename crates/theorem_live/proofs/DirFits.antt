-- What a directory sends fits: to cores that the machine has; and lines have owners among these, and the served TID doesn't fall.
use Rattle.std.specs.Prelude.{ℕ, ◌-◌, ◌≡◌, ◌<◌, ◌≤◌, Bool, true, false, ◌==◌, ◌&&◌, ◌||◌, List, [], ◌∷◌, Option, Some, None, nat_lt, nat_le}
use Rattle.std.specs.Prelude.{if◌then◌else◌}
use Rattle.std.specs.List.{flat_map}
use Rattle.std.proofs.Common.{arith, refl}
use Rattle.std.proofs.lemmas.Bool.Decides.{nat_tests}
use Rattle.base_lemmas.proofs.Lemmas.{those-empty}
use Rattle.rules_maps.specs.Words.{those, count_below}
use Rattle.rules_maps.specs.Judge.{Judgement, judge, Current, Outdated, TooEarly}
use Rattle.rules_maps.specs.Lines.{Lines, with_sharer, with_owner, with_asked, with_mark, unmarked, has_mark}
use Rattle.rules_maps.specs.Masks.{full}
use Rattle.rules_maps.specs.Nodes.{Core, Dir, Vendor, Msg, LoadReq, Fill, Skip, Probe, ProbeReply, Mark, Commit, Abort, WriteBack, Flush}
use Rattle.rules_maps.specs.Nodes.{DataReq, Inv, InvAck}
use Rattle.rules_maps.specs.Serving.{Serving, advance, skipped, kept}
use Rattle.rules_maps.specs.Shape.{Shape, lines}
use Rattle.rules_maps.proofs.Lemmas.{advance-rises}
use Rattle.rules_tcc.specs.DirDeliver.{Answer, Waits, Drops, Asks, Takes, moved_on, skip, abort, probe, ask_owner, home_words}
use Rattle.rules_tcc.specs.DirDeliver.{load_unless_owned, load_request, mark_unless_owned, mark, is_invalidated, invs_to, invalidations}
use Rattle.rules_tcc.specs.DirDeliver.{invalidation_count, owned_by_committer, moved_on_if_settled, dir_commit, unless_keeps}
use Rattle.rules_tcc.specs.DirDeliver.{acknowledgement, came_home, judged, write_back, dir_deliver}
use Rattle.rules_tcc.specs.Sends.{Sends, nothing}
use Rattle.rules_tcc.specs.State.{DirState}
use Rattle.theorem_live.proofs.Strays.{strays, AllFit, strays-none, strays-flat, back_fits, fit-nothing, fit-to}

-- owners are cores of the machine, and a TID is served
pub record KeptDir (sh : Shape) (s : DirState) : Type 0 where
  pub owners : (l c : ℕ) → s.lines.owner l ≡ Some c → c < sh.cores
  pub serves : 1 ≤ s.serving.serving

-- and what is sent fits
pub record Answered (sh : Shape) (d : ℕ) (s : DirState) (sends : Sends) : Type 0 where
  pub kept : KeptDir sh s
  pub fit : AllFit sh (Dir d) sends

abbrev pub FitAnswer : Shape → (dir : ℕ) → Answer → Type 0
FitAnswer sh d Waits = Unit {0}
FitAnswer sh d Drops = Unit {0}
FitAnswer sh d (Asks s sends) = Answered sh d s sends
FitAnswer sh d (Takes s sends) = Answered sh d s sends

either : (sh : Shape) (d : ℕ) (b : Bool) (x y : Answer) → FitAnswer sh d x → FitAnswer sh d y → FitAnswer sh d (if b then x else y)
either sh d true x y f g = f
either sh d false x y f g = g

quietly : (sh : Shape) (d : ℕ) (s : DirState) → KeptDir sh s → Answered sh d s nothing
quietly sh d s k = record { kept = k; fit = fit-nothing sh (Dir d) }

-- what changes of a directory

same-lines : (sh : Shape) (s : DirState) (v : Serving) → KeptDir sh s → 1 ≤ v.serving → KeptDir sh (record s { serving = v })
same-lines sh s v k h = record { owners = k.owners; serves = h }

moved : (sh : Shape) (s : DirState) → KeptDir sh s → KeptDir sh (moved_on s)
unfolding moved_on unmarked
moved sh s k = record { owners = k.owners; serves = let n = k.serves in omega (arith, advance-rises s.serving) }

settles : (sh : Shape) (s : DirState) → KeptDir sh s → KeptDir sh (moved_on_if_settled s)
unfolding moved_on_if_settled
settles sh s k = go (s.owed == 0)
  where
    go : (b : Bool) → KeptDir sh (if b then moved_on s else s)
    go true = moved sh s k
    go false = k

-- by message

skips : (sh : Shape) (d t : ℕ) (s : DirState) → KeptDir sh s → FitAnswer sh d (skip t s)
unfolding skip skipped kept
skips sh d t s k = either sh d (nat_lt t s.serving.serving) Drops _ tt
    (quietly sh d _ (same-lines sh s (skipped t s.serving) k (go (nat_lt t s.serving.serving) (s.serving.serving == t))))
  where
    go : (a b : Bool) → 1 ≤ (if a then s.serving else (if b then advance s.serving else kept t s.serving)).serving
    go true b = k.serves
    go false true = let n = k.serves in omega (arith, advance-rises s.serving)
    go false false = k.serves

aborts : (sh : Shape) (d t : ℕ) (s : DirState) → KeptDir sh s → FitAnswer sh d (abort t s)
unfolding abort kept
aborts sh d t s k = either sh d (nat_lt t s.serving.serving) Drops _ tt
    (either sh d (s.serving.serving == t) _ _ (quietly sh d _ (moved sh s k))
    (quietly sh d _ (same-lines sh s (kept t s.serving) k k.serves)))

probes : (sh : Shape) (d c t : ℕ) (s : DirState) → c < sh.cores → d < sh.dirs → KeptDir sh s → FitAnswer sh d (probe c t s)
unfolding probe
probes sh d c t s l i k = either sh d (nat_lt s.serving.serving t) Waits _ tt
    (record {
      kept = k;
      fit = fit-to sh (Dir d) (Core c) (ProbeReply t s.serving.serving ∷ [])
          (back_fits sh c d (ProbeReply t s.serving.serving) l i refl);
    })

asks_owner : (sh : Shape) (d o l : ℕ) (s : DirState) → o < sh.cores → d < sh.dirs → KeptDir sh s → FitAnswer sh d (ask_owner o l s)
unfolding ask_owner with_asked
asks_owner sh d o l s b i k = either sh d (s.lines.asked l) Waits _ tt
    (record {
      kept = record { owners = k.owners; serves = k.serves };
      fit = fit-to sh (Dir d) (Core o) (DataReq l ∷ [])
          (back_fits sh o d (DataReq l) b i refl);
    })

loads : (sh : Shape) (d c l a : ℕ) (s : DirState) → c < sh.cores → d < sh.dirs → KeptDir sh s → FitAnswer sh d (load_request c l a s)
unfolding load_request with_sharer
loads sh d c l a s b i k = either sh d (nat_le s.serving.serving a || has_mark s.lines l) Waits _ tt (go (s.lines.owner l) refl)
  where
    go : (o : Option ℕ) → s.lines.owner l ≡ o → FitAnswer sh d (load_unless_owned c l s o)
    go None e = record {
      kept = record { owners = k.owners; serves = k.serves };
      fit = fit-to sh (Dir d) (Core c)
          (Fill l (home_words s l) ∷ []) (back_fits sh c d (Fill l (home_words s l)) b i refl);
    }
    go (Some o) e = asks_owner sh d o l s (k.owners l o e) i k

marks : (sh : Shape) (d l m t : ℕ) (s : DirState) → d < sh.dirs → KeptDir sh s → FitAnswer sh d (mark l m t s)
unfolding mark with_mark
marks sh d l m t s i k = either sh d (nat_lt t s.serving.serving) Drops _ tt
    (either sh d (nat_lt s.serving.serving t) Waits _ tt (either sh d (m == full) _ _ taken (go (s.lines.owner l) refl)))
  where
    taken : Answered sh d (record s { lines = with_mark l m s.lines }) nothing
    taken = quietly sh d _ (record { owners = k.owners; serves = k.serves })

    go : (o : Option ℕ) → s.lines.owner l ≡ o → FitAnswer sh d (mark_unless_owned l m s o)
    go None e = taken
    go (Some o) e = asks_owner sh d o l s (k.owners l o e) i k

-- invalidations go to cores that the machine has
invalidates : (sh : Shape) (d : ℕ) (ls : Lines) (c t : ℕ) → d < sh.dirs → AllFit sh (Dir d) (invalidations sh ls c t)
unfolding invalidations invs_to is_invalidated
invalidates sh d ls c t i (Dir e) = strays-none sh (Dir d) (Dir e)
invalidates sh d ls c t i Vendor = strays-none sh (Dir d) Vendor
invalidates sh d ls c t i (Core j) = go (nat_lt j sh.cores) refl
  where
    go : (b : Bool) → nat_lt j sh.cores ≡ b → strays sh (Dir d) (Core j)
        (flat_map (λ l. Inv l (ls.mark l) t ∷ []) (those (is_invalidated sh ls c j) (lines sh))) ≡ 0
    go true e = strays-flat sh (Dir d) (Core j) (λ l. Inv l (ls.mark l) t ∷ [])
        (λ l. back_fits sh j d (Inv l (ls.mark l) t) (grind (arith, nat_tests)) i refl) (those (is_invalidated sh ls c j) (lines sh))
    go false e = let z : those (is_invalidated sh ls c j) (lines sh) ≡ [] =
        those-empty (is_invalidated sh ls c j) (lines sh) (λ l. rw e refl) in rw z (strays-none sh (Dir d) (Core j))

owned-by : (sh : Shape) (c t : ℕ) (s : DirState) (n : ℕ) → c < sh.cores → KeptDir sh s
    → KeptDir sh (record s { lines = owned_by_committer c t s.lines; owed = n })
unfolding owned_by_committer
owned-by sh c t s n b k = record { owners = λ l j e. go l j (has_mark s.lines l) e; serves = k.serves }
  where
    go : (l j : ℕ) (x : Bool) → (if x then Some c else s.lines.owner l) ≡ Some j → j < sh.cores
    go l j true e = let q : c ≡ j = cc in omega arith
    go l j false e = k.owners l j e

commits : (sh : Shape) (d c t n : ℕ) (s : DirState) → c < sh.cores → d < sh.dirs → KeptDir sh s → FitAnswer sh d (dir_commit sh c t n s)
unfolding dir_commit
commits sh d c t n s b i k = either sh d (s.serving.serving == t && count_below (has_mark s.lines) (lines sh) == n) _ Waits
    (record { kept = settles sh _ (owned-by sh c t s (invalidation_count sh s.lines c) b k); fit = invalidates sh d s.lines c t i }) tt

acks : (sh : Shape) (d c l : ℕ) (keeps : Bool) (s : DirState) → KeptDir sh s → FitAnswer sh d (acknowledgement c l keeps s)
unfolding acknowledgement with_sharer
acks sh d c l keeps s k = either sh d (s.owed == 0) Drops _ tt (quietly sh d _ (settles sh _ (go keeps)))
  where
    go : (b : Bool) → KeptDir sh (record s { lines = unless_keeps b c l s.lines; owed = s.owed - 1 })
    go true = record { owners = k.owners; serves = k.serves }
    go false = record { owners = k.owners; serves = k.serves }

backs : (sh : Shape) (d c l m : ℕ) (ws : List ℕ) (g : ℕ) (s : DirState) → KeptDir sh s → FitAnswer sh d (write_back c l m ws g s)
unfolding write_back came_home with_asked with_owner
backs sh d c l m ws g s k = go (judge (s.lines.owner l) (s.lines.tag l) c g)
  where
    home : (j o : ℕ) (b : Bool) → (if b then None else s.lines.owner j) ≡ Some o → o < sh.cores
    home j o true e = absurd (cc)
    home j o false e = k.owners j o e

    go : (j : Judgement) → FitAnswer sh d (judged l m ws s j)
    go TooEarly = tt
    go Outdated = tt
    go Current = quietly sh d _ (record { owners = λ j o e. home j o (j == l) e; serves = k.serves })

pub fit-answer : (sh : Shape) (d c : ℕ) (s : DirState) (m : Msg) → c < sh.cores → d < sh.dirs → KeptDir sh s
    → FitAnswer sh d (dir_deliver sh s c m)
unfolding dir_deliver
fit-answer sh d c s (Skip t) b i k = skips sh d t s k
fit-answer sh d c s (Abort t) b i k = aborts sh d t s k
fit-answer sh d c s (Probe t) b i k = probes sh d c t s b i k
fit-answer sh d c s (LoadReq l a) b i k = loads sh d c l a s b i k
fit-answer sh d c s (Mark l m t) b i k = marks sh d l m t s i k
fit-answer sh d c s (Commit t n) b i k = commits sh d c t n s b i k
fit-answer sh d c s (InvAck l x) b i k = acks sh d c l x s k
fit-answer sh d c s (WriteBack l m ws g) b i k = backs sh d c l m ws g s k
fit-answer sh d c s (Flush l m ws g) b i k = backs sh d c l m ws g s k
fit-answer sh d c s _ b i k = tt
