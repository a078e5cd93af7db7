-- Evict and messages keep what a core's marks say of its attempt.
use Rattle.std.proofs.Common.{◌≡◌, ℕ, ◌%◌, Bool, true, false, not, cond, ◌&&◌, ◌||◌, ◌⊎◌, inl, inr, ⊎_elim, List, [], ◌∷◌, get_or, Option}
use Rattle.std.proofs.Common.{Some, None, refl, ap, sym, ◌∙◌, subst, arith}
use Rattle.std.specs.Prelude.{IfSome, unwrap_or, ◌==◌, nat_lt}
use Rattle.std.proofs.lemmas.Bool.{cases_Bool, cases_eq}
use Rattle.std.proofs.lemmas.Bool.Decides.{nat_tests}
use Rattle.tcc_base.specs.Put.{put}
use Rattle.base_lemmas.proofs.Lemmas.{and-left, hit-line}
use Rattle.rules_maps.specs.Words.{line_of, place_of, word_at, any_below, any_word}
use Rattle.rules_maps.specs.Masks.{hit}
use Rattle.rules_maps.specs.Nodes.{Node, Core, Dir, Vendor, Msg, TidGrant, Fill, ProbeReply}
use Rattle.rules_maps.specs.Nodes.{DataReq, Inv}
use Rattle.rules_maps.specs.Shape.{Shape}
use Rattle.rules_maps.specs.Cache.{Cache, is_marked}
use Rattle.rules_maps.specs.CacheChange.{filled, invalidated, cleaned, evicted, rolled_back, read_cleared}
use Rattle.rules_maps.specs.CacheLook.{reads_masked}
use Rattle.rules_maps.specs.Spilled.{none_spilled}
use Rattle.rules_maps.proofs.Lemmas.{any_below-at, value-evicted, read-evicted, modified-evicted, value-filled, read-filled}
use Rattle.rules_maps.proofs.Lemmas.{modified-filled}
use Rattle.rules_maps.proofs.Lemmas.{value-invalidated, read-invalidated, modified-invalidated, read-cleaned, read-rolled_back}
use Rattle.rules_tcc.specs.State.{CoreState, Awaited, Phase, Running, AwaitTid, DoomedTid, Probing, Ready, Overflowing, Solo, Halted}
use Rattle.rules_tcc.specs.Sends.{nothing, to, marks_for}
use Rattle.rules_tcc.specs.Attempt.{Out, moves, is_solo, roll_back}
use Rattle.rules_tcc.specs.CoreEvict.{core_evict}
use Rattle.rules_tcc.specs.CoreDeliver.{ignored, grant_in_phase, grant, probing_or_ready, is_probed, replied, all_replied, reply_in_phase}
use Rattle.rules_tcc.specs.CoreDeliver.{probe_reply, fill_awaited, fill, data_request, may_be_above, violated_in_phase, if_violated, staled}
use Rattle.rules_tcc.specs.CoreDeliver.{words_invalidated, is_violated, acknowledged, invalidate, from_dir, from_vendor, core_deliver}
use Rattle.rules_tcc.proofs.Lemmas.{each-evict}
use Rattle.theorem_attempt.specs.Follows.{Uses}
use Rattle.theorem_attempt.specs.Marks.{StillHas, UseStands, AllStand, UsesStand, OnlyUsed, awaits_in, owed_in, MarksFit}
use Rattle.theorem_attempt.specs.Views.{uses_violated, uses_delivered}
use Rattle.theorem_attempt.proofs.Marks.{none-used}

-- a change that keeps each use keeps them in every phase, where it adds no read mark to a core that is alone
pub record KeepsUses (c d : Cache) : Type 0 where
  pub stands : (g : Bool) (w x : ℕ) → UseStands g c w x → UseStands g d w x
  pub unread : (v : ℕ) → c.read v ≡ false → d.read v ≡ false

all-kept : (g : Bool) (c d : Cache) (us : Uses) → KeepsUses c d → AllStand g c us → AllStand g d us
all-kept g c d [] k h = tt
all-kept g c d (u ∷ us) k h = (k.stands g u.0 u.1 h.0, all-kept g c d us k h.1)

uses-kept : (c d : Cache) (us : Uses) (q : Phase) → KeepsUses c d → UsesStand c us q → UsesStand d us q
uses-kept c d us Running k h = all-kept false c d us k h
uses-kept c d us AwaitTid k h = all-kept false c d us k h
uses-kept c d us (Overflowing None) k h = all-kept false c d us k h
uses-kept c d us (Overflowing (Some t)) k h = all-kept true c d us k h
uses-kept c d us (Probing t) k h = all-kept true c d us k h
uses-kept c d us (Ready t) k h = all-kept true c d us k h
uses-kept c d us (Solo t) k h = λ v. k.unread v (h v)
uses-kept c d us DoomedTid k h = h
uses-kept c d us Halted k h = h

-- before a TID is known a use is more than with one
weaker : (c : Cache) (us : Uses) → AllStand false c us → AllStand true c us
weaker c [] h = tt
weaker c (u ∷ us) h = (record { marked = h.0.marked; value = λ m. inl (h.0.value m) }, weaker c us h.1)

-- a word that is marked read is in a frame that is marked
read-marks : (c : Cache) (w : ℕ) → c.read w ≡ true → is_marked c (line_of w) ≡ true
unfolding is_marked any_word
read-marks c w h =
    let i : word_at (line_of w) (w % 8) ≡ w = omega arith in
    any_below-at (λ k. c.read (word_at (line_of w) k) || c.modified (word_at (line_of w) k)) 8 (w % 8) (omega arith)
    (subst (λ v. (c.read v || c.modified v) ≡ true) (sym i) (grind (arith, nat_tests)))

still-same : (g : Bool) (a b : Option ℕ) (x : ℕ) → b ≡ a → StillHas g a x → StillHas g b x
still-same g a b x e h = subst (λ (o : Option ℕ). StillHas g o x) (sym e) h

evicted-stands : (x y l : ℕ) (c : Cache) → c.at x y ≡ Some l → is_marked c l ≡ false → KeepsUses c (evicted x y c)
evicted-stands x y l c e m = record {
  stands = λ g w z u. stays g w z u (apart_line w u.marked);
  unread = λ v h. read-evicted x y c v l e ∙ grind (arith, nat_tests);
}
  where
    apart_line : (w : ℕ) → c.read w ≡ true → (l == line_of w) ≡ false
    apart_line w r = ⊎_elim (λ i. absurd (let h = read-marks c w r in let j : is_marked c l ≡ true = ap (is_marked c) i ∙ h in cc))
        (λ n. grind (arith, nat_tests)) (cases_eq l (line_of w))

    stays : (g : Bool) (w z : ℕ) → UseStands g c w z → (l == line_of w) ≡ false → UseStands g (evicted x y c) w z
    stays g w z u n = record {
      marked = read-evicted x y c w l e ∙ (ap (λ (b : Bool). cond b false (c.read w)) n ∙ u.marked);
      value = λ h. still-same g (c.value w) ((evicted x y c).value w) z
          (value-evicted x y c w l e ∙ ap (λ (b : Bool). cond b None (c.value w)) n)
          (u.value (sym (ap (λ (b : Bool). cond b false (c.modified w)) n) ∙ (sym (modified-evicted x y c w l e) ∙ h)));
    }

evicted-unread : (x y l : ℕ) (c : Cache) → c.at x y ≡ Some l → (v : ℕ) → c.read v ≡ false → (evicted x y c).read v ≡ false
evicted-unread x y l c e v h = read-evicted x y c v l e ∙ grind (arith, nat_tests)

-- a change that adds no read mark
fewer-used : (c d : Cache) (us : Uses) → ((v : ℕ) → d.read v ≡ true → c.read v ≡ true) → OnlyUsed c us → OnlyUsed d us
fewer-used c d us f h v r = h v (f v r)

evicted-reads : (x y l : ℕ) (c : Cache) → c.at x y ≡ Some l → (v : ℕ) → (evicted x y c).read v ≡ true → c.read v ≡ true
evicted-reads x y l c e v h = at (l == line_of v) (sym (read-evicted x y c v l e) ∙ h)
  where
    at : (b : Bool) → cond b false (c.read v) ≡ true → c.read v ≡ true
    at true q = absurd (cc)
    at false q = q

-- a core that is alone has no read marks to lose
evicted-uses : (x y l : ℕ) (c : Cache) (us : Uses) (q : Phase) → c.at x y ≡ Some l → (is_marked c l ≡ false) ⊎ (is_solo q ≡ true)
    → UsesStand c us q → UsesStand (evicted x y c) us q
evicted-uses x y l c us q e (inl u) h = uses-kept c (evicted x y c) us q (evicted-stands x y l c e u) h
evicted-uses x y l c us (Solo t) e (inr i) h = λ v. evicted-unread x y l c e v (h v)
evicted-uses x y l c us q e (inr i) h = absurd (cc)

pub core_evict-fit : (sh : Shape) (x y : ℕ) (s : CoreState) (us : Uses) → MarksFit sh s us
    → IfSome (core_evict sh x y s) (λ t. MarksFit sh t.core us)
core_evict-fit sh x y s us m = each-evict sh x y s (λ o. MarksFit sh o.core us) (λ l e n u. record {
  stand = evicted-uses x y l s.cache us s.phase e u m.stand;
  used = fewer-used s.cache (evicted x y s.cache) us (evicted-reads x y l s.cache e) m.used;
  awaits = m.awaits;
  owes = m.owes;
})

stand-in : (s : CoreState) (us : Uses) (q : Phase) → s.phase ≡ q → UsesStand s.cache us s.phase → UsesStand s.cache us q
stand-in s us q e h = subst (λ (x : Phase). UsesStand s.cache us x) e h

-- grant
probed-below : (sh : Shape) (c : Cache) (d : ℕ) → is_probed sh c d ≡ true
    → (nat_lt d sh.dirs ≡ true) × (any_below (is_probed sh c) sh.dirs ≡ true)
unfolding is_probed
probed-below sh c d h =
    let i = and-left (nat_lt d sh.dirs) (Rattle.rules_maps.specs.Cache.writes_at sh c d || Rattle.rules_maps.specs.Cache.reads_at sh c d) h
    in (
      i,
      any_below-at (λ d. nat_lt d sh.dirs
          && (Rattle.rules_maps.specs.Cache.writes_at sh c d || Rattle.rules_maps.specs.Cache.reads_at sh c d)) sh.dirs d
          (grind (arith, nat_tests)) h,
    )

probing-stand : (c : Cache) (us : Uses) (b : Bool) (t : ℕ) → AllStand false c us → UsesStand c us (probing_or_ready b t)
probing-stand c us true t h = weaker c us h
probing-stand c us false t h = weaker c us h

probing-owed : (b : Bool) (t : ℕ) → b ≡ true → owed_in (probing_or_ready b t) ≡ true
probing-owed true t e = refl
probing-owed false t e = absurd (cc)

grant_in_phase-fit : (sh : Shape) (t : ℕ) (s : CoreState) (us : Uses) (q : Phase) → s.phase ≡ q → MarksFit sh s us
    → MarksFit sh (grant_in_phase sh t s q).core us
grant_in_phase-fit sh t s us AwaitTid e m = record {
  stand = probing-stand s.cache us (any_below (is_probed sh s.cache) sh.dirs) t (stand-in s us AwaitTid e m.stand);
  used = m.used;
  awaits = λ i. m.awaits (ap awaits_in e);
  owes = λ d h. let b = probed-below sh s.cache d h in (probing-owed (any_below (is_probed sh s.cache) sh.dirs) t b.1, b.0);
}
grant_in_phase-fit sh t s us DoomedTid e m = record {
  stand = subst (AllStand false s.cache) (sym (stand-in s us DoomedTid e m.stand)) tt;
  used = m.used;
  awaits = λ i. m.awaits (ap awaits_in e);
  owes = λ d h. absurd (let o = m.owes d h in let a = o.0 in let b = ap owed_in e in cc);
}
grant_in_phase-fit sh t s us (Overflowing None) e m = record {
  stand = weaker s.cache us (stand-in s us (Overflowing None) e m.stand);
  used = m.used;
  awaits = λ i. m.awaits (ap awaits_in e);
  owes = λ d h. (refl, h);
}
grant_in_phase-fit sh t s us (Overflowing (Some u)) e m = m
grant_in_phase-fit sh t s us Running e m = m
grant_in_phase-fit sh t s us (Probing u) e m = m
grant_in_phase-fit sh t s us (Ready u) e m = m
grant_in_phase-fit sh t s us (Solo u) e m = m
grant_in_phase-fit sh t s us Halted e m = m

grant-fit : (sh : Shape) (t : ℕ) (s : CoreState) (us : Uses) → MarksFit sh s us → MarksFit sh (grant sh t s).core us
unfolding grant
grant-fit sh t s us m = grant_in_phase-fit sh t s us s.phase refl m

-- replies
replied-owes : (owing : ℕ → Bool) (d e : ℕ) → put owing d false e ≡ true → owing e ≡ true
replied-owes owing d e h = grind (arith, nat_tests)

all-none : (sh : Shape) (owing : ℕ → Bool) (d : ℕ) → all_replied sh owing ≡ true → nat_lt d sh.dirs ≡ true → owing d ≡ true → ⊥
all-none sh owing d a l o = let i = any_below-at owing sh.dirs d (grind (arith, nat_tests)) o in grind (arith, nat_tests)

reply_in_phase-fit : (sh : Shape) (d t : ℕ) (s : CoreState) (us : Uses) (q : Phase) → s.phase ≡ q → MarksFit sh s us
    → MarksFit sh (reply_in_phase sh d t s q).core us
unfolding read_cleared
reply_in_phase-fit sh d t s us (Probing u) e m = at (u == t && s.owing d) (all_replied sh (replied d s).owing) refl
  where
    at : (b c : Bool) → all_replied sh (replied d s).owing ≡ c
        → MarksFit sh (cond b (moves (cond c (record (replied d s) { phase = Ready t }) (replied d s))
        (to (Dir d) (marks_for sh s.cache t d))) (ignored s)).core us
    at true true r = record {
      stand = stand-in s us (Probing u) e m.stand;
      used = m.used;
      awaits = λ i. m.awaits (ap awaits_in e);
      owes = λ f h. absurd (all-none sh (put s.owing d false) f r ((m.owes f (replied-owes s.owing d f h)).1) h);
    }
    at true false r = record { stand = m.stand; used = m.used; awaits = m.awaits; owes = λ f h. m.owes f (replied-owes s.owing d f h) }
    at false c r = m
reply_in_phase-fit sh d t s us (Overflowing (Some u)) e m = at (u == t && s.owing d) (all_replied sh (replied d s).owing) refl
  where
    at : (b c : Bool) → all_replied sh (replied d s).owing ≡ c
        → MarksFit sh (cond b (moves (cond c (record (replied d s) { phase = Solo t; cache = read_cleared s.cache }) (replied d s)) nothing)
        (ignored s)).core us
    at true true r = record {
      stand = λ v. refl;
      used = λ v i. absurd (cc);
      awaits = λ i. absurd (cc);
      owes = λ f h. absurd (all-none sh (put s.owing d false) f r ((m.owes f (replied-owes s.owing d f h)).1) h);
    }
    at true false r = record { stand = m.stand; used = m.used; awaits = m.awaits; owes = λ f h. m.owes f (replied-owes s.owing d f h) }
    at false c r = m
reply_in_phase-fit sh d t s us (Overflowing None) e m = m
reply_in_phase-fit sh d t s us Running e m = m
reply_in_phase-fit sh d t s us AwaitTid e m = m
reply_in_phase-fit sh d t s us DoomedTid e m = m
reply_in_phase-fit sh d t s us (Ready u) e m = m
reply_in_phase-fit sh d t s us (Solo u) e m = m
reply_in_phase-fit sh d t s us Halted e m = m

-- fill: words that are valid keep their values
filled-value : (l : ℕ) (ws : List ℕ) (c : Cache) (w x : ℕ) → c.value w ≡ Some x → (filled l ws c).value w ≡ Some x
filled-value l ws c w x e = value-filled l ws c w ∙ at (l == line_of w) (c.value w) e
  where
    at : (b : Bool) (o : Option ℕ) → o ≡ Some x → cond b (Some (unwrap_or o (get_or ws (place_of w) 0))) o ≡ Some x
    at true o q = rw q
    at false o q = q

filled-all : (l : ℕ) (ws : List ℕ) (c : Cache) (us : Uses) → AllStand false c us → AllStand false (filled l ws c) us
filled-all l ws c [] h = tt
filled-all l ws c (u ∷ us) h = (
  record {
    marked = read-filled l ws c u.0 ∙ h.0.marked;
    value = λ m. filled-value l ws c u.0 u.1 (h.0.value (sym (modified-filled l ws c u.0) ∙ m));
  },
  filled-all l ws c us h.1,
)

-- a line is awaited in Running and Solo alone
filled-uses : (l : ℕ) (ws : List ℕ) (c : Cache) (us : Uses) (q : Phase) → awaits_in q ≡ true → UsesStand c us q
    → UsesStand (filled l ws c) us q
filled-uses l ws c us Running e h = filled-all l ws c us h
filled-uses l ws c us (Solo t) e h = λ v. read-filled l ws c v ∙ h v
filled-uses l ws c us AwaitTid e h = absurd (cc)
filled-uses l ws c us DoomedTid e h = absurd (cc)
filled-uses l ws c us (Probing t) e h = absurd (cc)
filled-uses l ws c us (Ready t) e h = absurd (cc)
filled-uses l ws c us (Overflowing t) e h = absurd (cc)
filled-uses l ws c us Halted e h = absurd (cc)

fill_awaited-fit : (sh : Shape) (l : ℕ) (ws : List ℕ) (s : CoreState) (us : Uses) (o : Option Awaited) → s.awaited ≡ o → MarksFit sh s us
    → MarksFit sh (fill_awaited l ws s o).core us
fill_awaited-fit sh l ws s us None e m = m
fill_awaited-fit sh l ws s us (Some a) e m = at (a.line == l) a.stale
  where
    awaiting : awaits_in s.phase ≡ true
    awaiting = ⊎_elim (λ h. h) (λ h. absurd (let n = m.awaits h in cc)) (cases_Bool (awaits_in s.phase))

    at : (b c : Bool)
        → MarksFit sh (cond b (moves (record s { cache = cond c s.cache (filled l ws s.cache); awaited = None }) nothing) (ignored s)).core
        us
    at true true = record { stand = m.stand; used = m.used; awaits = λ i. refl; owes = m.owes }
    at true false =
        record {
          stand = filled-uses l ws s.cache us s.phase awaiting m.stand;
          used = fewer-used s.cache (filled l ws s.cache) us
              (λ v i. sym (read-filled l ws s.cache v) ∙ i) m.used;
          awaits = λ i. refl;
          owes = m.owes;
        }
    at false c = m

fill-fit : (sh : Shape) (l : ℕ) (ws : List ℕ) (s : CoreState) (us : Uses) → MarksFit sh s us → MarksFit sh (fill l ws s).core us
unfolding fill
fill-fit sh l ws s us m = fill_awaited-fit sh l ws s us s.awaited refl m

cleaned-uses : (l : ℕ) (c : Cache) → KeepsUses c (cleaned l c)
unfolding cleaned
cleaned-uses l c = record { stands = λ g w x u. record { marked = u.marked; value = u.value }; unread = λ v h. h }

request-fit : (sh : Shape) (l : ℕ) (s : CoreState) (us : Uses) → MarksFit sh s us → MarksFit sh (data_request sh l s).core us
unfolding data_request
request-fit sh l s us m = record {
  stand = uses-kept s.cache (cleaned l s.cache) us s.phase (cleaned-uses l s.cache) m.stand;
  used = fewer-used s.cache (cleaned l s.cache) us (λ v i. sym (read-cleaned l s.cache v) ∙ i) m.used;
  awaits = m.awaits;
  owes = m.owes;
}

-- an invalidated word that is marked read
pub hit-reads : (l m : ℕ) (c : Cache) (w : ℕ) → c.read w ≡ true → hit l m w ≡ true → l ≡ line_of w → reads_masked l m c ≡ true
unfolding reads_masked any_word
hit-reads l m c w r h e =
    let i : word_at l (w % 8) ≡ w = omega arith in
    any_below-at (λ k. hit l m (word_at l k) && c.read (word_at l k)) 8 (w % 8) (omega arith)
    (subst (λ v. (hit l m v && c.read v) ≡ true) (sym i) (grind (arith, nat_tests)))

unhit-same : (l m : ℕ) (c : Cache) (w : ℕ) → hit l m w ≡ false → (invalidated l m c).value w ≡ c.value w
unhit-same l m c w h = value-invalidated l m c w ∙ grind (arith, nat_tests)

-- where no masked word is marked read, used words stay as they were; else they may be gone
missed-all : (l m : ℕ) (c : Cache) (us : Uses) → reads_masked l m c ≡ false → AllStand false c us → AllStand false (invalidated l m c) us
missed-all l m c [] n h = tt
missed-all l m c (u ∷ us) n h = (
  record {
    marked = read-invalidated l m c u.0 ∙ h.0.marked;
    value = λ q. unhit-same l m c u.0 (unhit (cases_Bool (hit l m u.0))) ∙ h.0.value (sym (modified-invalidated l m c u.0) ∙ q);
  },
  missed-all l m c us n h.1,
)
  where
    unhit : (hit l m u.0 ≡ true) ⊎ (hit l m u.0 ≡ false) → hit l m u.0 ≡ false
    unhit (inl t) = absurd (let i = hit-reads l m c u.0 h.0.marked t (hit-line l m u.0 t) in cc)
    unhit (inr f) = f

gone-all : (l m : ℕ) (c : Cache) (us : Uses) → AllStand true c us → AllStand true (invalidated l m c) us
gone-all l m c [] h = tt
gone-all l m c (u ∷ us) h = (
  record {
    marked = read-invalidated l m c u.0 ∙ h.0.marked;
    value = λ q. gone (hit l m u.0 && not (c.modified u.0)) (value-invalidated l m c u.0)
        (h.0.value (sym (modified-invalidated l m c u.0) ∙ q));
  },
  gone-all l m c us h.1,
)
  where
    gone : (b : Bool) → (invalidated l m c).value u.0 ≡ cond b None (c.value u.0) → StillHas true (c.value u.0) u.1
        → StillHas true ((invalidated l m c).value u.0) u.1
    gone true e k = inr e
    gone false e k = still-same true (c.value u.0) ((invalidated l m c).value u.0) u.1 e k

above-reads : (a b : Bool) → b ≡ true → (a && b) ≡ false → a ≡ false
above-reads true b e h = absurd (cc)
above-reads false b e h = refl

without-uses : (l m u : ℕ) (c : Cache) (us : Uses) (q : Phase) → (reads_masked l m c && may_be_above u q) ≡ false → UsesStand c us q
    → UsesStand (invalidated l m c) us q
without-uses l m u c us Running n h = missed-all l m c us (above-reads (reads_masked l m c) true refl n) h
without-uses l m u c us AwaitTid n h = missed-all l m c us (above-reads (reads_masked l m c) true refl n) h
without-uses l m u c us (Overflowing None) n h = missed-all l m c us (above-reads (reads_masked l m c) true refl n) h
without-uses l m u c us (Overflowing (Some t)) n h = gone-all l m c us h
without-uses l m u c us (Probing t) n h = gone-all l m c us h
without-uses l m u c us (Ready t) n h = gone-all l m c us h
without-uses l m u c us (Solo t) n h = λ v. read-invalidated l m c v ∙ h v
without-uses l m u c us DoomedTid n h = h
without-uses l m u c us Halted n h = h

staled-none : (l : ℕ) (o : Option Awaited) → o ≡ None → staled l o ≡ None
staled-none l o e = rw e

without-used : (l m : ℕ) (c : Cache) (us : Uses) → OnlyUsed c us → OnlyUsed (invalidated l m c) us
without-used l m c us h = fewer-used c (invalidated l m c) us (λ v i. sym (read-invalidated l m c v) ∙ i) h

-- a core that isn't violated
words_invalidated-fit : (sh : Shape) (l m u : ℕ) (s : CoreState) (us : Uses) → is_violated l m u s ≡ false → MarksFit sh s us
    → MarksFit sh (words_invalidated l m s) us
unfolding words_invalidated is_violated
words_invalidated-fit sh l m u s us n k =
    record {
      stand = without-uses l m u s.cache us s.phase n k.stand;
      used = without-used l m s.cache us k.used;
      awaits = λ i. staled-none l s.awaited (k.awaits i);
      owes = k.owes;
    }

-- one that is: it begins anew, or had no attempt
rolled-fit : (sh : Shape) (s : CoreState) (q : Phase) (sp : ℕ → Option ℕ) → UsesStand (rolled_back s.cache) [] q
    → (awaits_in q ≡ false → s.awaited ≡ None) → MarksFit sh (record (roll_back s) { phase = q; spilled = sp }) []
unfolding roll_back
rolled-fit sh s q sp f n = record {
  stand = f;
  used = none-used (rolled_back s.cache) (read-rolled_back s.cache);
  awaits = n;
  owes = λ d h. absurd (cc);
}

violated-fit : (sh : Shape) (l m : ℕ) (s : CoreState) (us : Uses) (q : Phase) → s.phase ≡ q → MarksFit sh s us
    → MarksFit sh (violated_in_phase sh (words_invalidated l m s) q).core (uses_violated true q us)
unfolding words_invalidated roll_back none_spilled
violated-fit sh l m s us Running e k =
    rolled-fit sh (words_invalidated l m s) s.phase s.spilled
    (subst (λ (x : Phase). UsesStand (rolled_back (invalidated l m s.cache)) [] x) (sym e) tt) (λ i. absurd (let j = ap awaits_in e in cc))
violated-fit sh l m s us AwaitTid e k = rolled-fit sh (words_invalidated l m s) DoomedTid s.spilled refl
    (λ i. staled-none l s.awaited (k.awaits (ap awaits_in e)))
violated-fit sh l m s us (Overflowing None) e k = rolled-fit sh (words_invalidated l m s) DoomedTid s.spilled refl
    (λ i. staled-none l s.awaited (k.awaits (ap awaits_in e)))
violated-fit sh l m s us (Probing t) e k = rolled-fit sh (words_invalidated l m s) Running s.spilled tt (λ i. absurd (cc))
violated-fit sh l m s us (Ready t) e k = rolled-fit sh (words_invalidated l m s) Running s.spilled tt (λ i. absurd (cc))
violated-fit sh l m s us (Overflowing (Some t)) e k = rolled-fit sh (words_invalidated l m s) Running none_spilled tt (λ i. absurd (cc))
violated-fit sh l m s us (Solo t) e k = rolled-fit sh (words_invalidated l m s) Running none_spilled tt (λ i. absurd (cc))
violated-fit sh l m s us DoomedTid e k = record {
  stand = subst (λ (x : Phase). UsesStand (invalidated l m s.cache) us x) (sym e) (stand-in s us DoomedTid e k.stand);
  used = without-used l m s.cache us k.used;
  awaits = λ i. staled-none l s.awaited (k.awaits i);
  owes = k.owes;
}
violated-fit sh l m s us Halted e k = record {
  stand = subst (λ (x : Phase). UsesStand (invalidated l m s.cache) us x) (sym e) tt;
  used = without-used l m s.cache us k.used;
  awaits = λ i. staled-none l s.awaited (k.awaits i);
  owes = k.owes;
}

kept_phase : (sh : Shape) (l m : ℕ) (s : CoreState) → (words_invalidated l m s).phase ≡ s.phase
unfolding words_invalidated
kept_phase sh l m s = refl

if_violated-fit : (sh : Shape) (l m u : ℕ) (s : CoreState) (us : Uses) (b : Bool) → is_violated l m u s ≡ b → MarksFit sh s us
    → MarksFit sh (if_violated sh b (words_invalidated l m s)).core (uses_violated b s.phase us)
unfolding if_violated
if_violated-fit sh l m u s us true e k = violated_here
  where
    violated_here : MarksFit sh (violated_in_phase sh (words_invalidated l m s) (words_invalidated l m s).phase).core
        (uses_violated true s.phase us)
    violated_here = without_phase (words_invalidated l m s).phase (kept_phase sh l m s)
      where
        without_phase : (q : Phase) → q ≡ s.phase →
            MarksFit sh (violated_in_phase sh (words_invalidated l m s) q).core (uses_violated true s.phase us)
        without_phase q i =
            subst (λ (x : Phase). MarksFit sh (violated_in_phase sh (words_invalidated l m s) x).core (uses_violated true s.phase us))
            (sym i) (violated-fit sh l m s us s.phase refl k)
if_violated-fit sh l m u s us false e k = words_invalidated-fit sh l m u s us e k

invalidate-fit : (sh : Shape) (l m u : ℕ) (s : CoreState) (us : Uses) → MarksFit sh s us
    → MarksFit sh (invalidate sh l m u s).core (uses_violated (is_violated l m u s) s.phase us)
unfolding invalidate acknowledged
invalidate-fit sh l m u s us k = if_violated-fit sh l m u s us (is_violated l m u s) refl k

abbrev pub OutMarks : Shape → Uses → Option Out → Type 0
OutMarks sh us o = IfSome o (λ t. MarksFit sh t.core us)

from_dir-fit : (sh : Shape) (d : ℕ) (s : CoreState) (us : Uses) (m : Msg) → MarksFit sh s us
    → OutMarks sh (uses_delivered s m us) (from_dir sh d s m)
unfolding probe_reply
from_dir-fit sh d s us (ProbeReply t serving) k = reply_in_phase-fit sh d t s us s.phase refl k
from_dir-fit sh d s us (Fill l ws) k = fill-fit sh l ws s us k
from_dir-fit sh d s us (DataReq l) k = request-fit sh l s us k
from_dir-fit sh d s us (Inv l m t) k = invalidate-fit sh l m t s us k
from_dir-fit sh d s us _ k = tt

from_vendor-fit : (sh : Shape) (s : CoreState) (us : Uses) (m : Msg) → MarksFit sh s us
    → OutMarks sh (uses_delivered s m us) (from_vendor sh s m)
from_vendor-fit sh s us (TidGrant t) k = grant-fit sh t s us k
from_vendor-fit sh s us _ k = tt

pub core_deliver-fit : (sh : Shape) (s : CoreState) (us : Uses) (src : Node) (m : Msg) → MarksFit sh s us
    → OutMarks sh (uses_delivered s m us) (core_deliver sh s src m)
unfolding core_deliver
core_deliver-fit sh s us (Dir d) m k = from_dir-fit sh d s us m k
core_deliver-fit sh s us Vendor m k = from_vendor-fit sh s us m k
core_deliver-fit sh s us (Core c) m k = tt
