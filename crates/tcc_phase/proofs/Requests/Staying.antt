-- Who waits after an event that noted no commit: those that waited before, and perhaps the core that executed.
use Rattle.std.proofs.Common.{◌≡◌, ◌≢◌, ℕ, zero, suc, ◌+◌, ◌<◌, ◌≤◌, length, Bool, true, false, cond, ◌&&◌, List, [], ◌∷◌, ◌++◌}
use Rattle.std.proofs.Common.{Ok, Err, Option, Some, None, is_some, refl, ap, sym, ◌∙◌, subst, arith}
use Rattle.std.specs.List.Sorted.{IsBinarySearchResult}
use Rattle.std.specs.Ordering.{nat_cmp}
use Rattle.std.specs.Prelude.{Result, get_or, insert, nat_lt, not, slice_index_or, if◌then◌else◌}
use Rattle.std.specs.Result.{MatchResult}
use Rattle.std.proofs.lemmas.List.Edits.{length-insert}
use Rattle.std.proofs.lemmas.List.Sorted.{searched}
use Rattle.std.proofs.lemmas.Bool.Decides.{nat_tests}
use Rattle.tcc_base.specs.Settings.{Settings}
use Rattle.base_lemmas.proofs.Lemmas.{any_below-same, those-most, those-same}
use Rattle.rules_maps.specs.Nodes.{Core, Vendor, Msg, Event, Exec, Evict, Deliver}
use Rattle.rules_maps.specs.Words.{those}
use Rattle.rules_program.specs.Program.{Program}
use Rattle.rules_tcc.specs.Links.{in_flight}
use Rattle.rules_tcc.specs.State.{Link, World}
use Rattle.rules_tcc.specs.Step.{if_vendor_gives, happens, if_in_flight, names_nodes, step}
use Rattle.rules_tcc.specs.VendorDeliver.{Granted, vendor_deliver}
use Rattle.theorem_phases.specs.Laws.{asks, executes}
use Rattle.rules_phases.specs.Phased.{has_halted}
use Rattle.tcc_phase.specs.Requests.{HeldBefore, Limits, is_above, is_behind, is_waiting, request}
use Rattle.tcc_phase.proofs.Requests.Those.{absent, between, stands, those-insert, those-rise}
use Rattle.tcc_phase.proofs.Requests.Waiting.{waits-above}

-- ---- what the vendor takes

-- by the message alone
abbrev is_taken : (core : ℕ) → Option Msg → Bool
is_taken c None = false
is_taken c (Some m) = is_some (vendor_deliver 0 c m)

gives : (next c : ℕ) (m : Msg) → is_some (vendor_deliver next c m) ≡ is_some (vendor_deliver 0 c m)
gives next c m = grind (arith, nat_tests)

taken-so : (s : Settings) (w : World) (c k : ℕ) (m : Option Msg) → is_some (if_in_flight s w (Core c) Vendor k m) ≡ is_taken c m
taken-so s w c k None = refl
taken-so s w c k (Some m) = go (vendor_deliver w.next c m) ∙ gives w.next c m
  where
    go : (g : Option Granted) → is_some (if_vendor_gives w c k g) ≡ is_some g
    go None = refl
    go (Some g) = refl

enabled-so : (s : Settings) (p : Program) (w : World) (c k : ℕ)
    → is_some (step s p w (Deliver (Core c) Vendor k)) ≡ (nat_lt c s.cores && true && is_taken c (in_flight w.net (Core c) Vendor k))
unfolding step happens names_nodes
enabled-so s p w c k = go (nat_lt c s.cores && true)
  where
    go : (b : Bool) → is_some (cond b (if_in_flight s w (Core c) Vendor k (in_flight w.net (Core c) Vendor k)) None)
        ≡ (b && is_taken c (in_flight w.net (Core c) Vendor k))
    go true = taken-so s w c k (in_flight w.net (Core c) Vendor k)
    go false = refl

-- what is in flight stays so behind what is sent
stays-there : (l more : Link) (k : ℕ) (m : Msg) → slice_index_or l k None ≡ Some m → slice_index_or (l ++ more) k None ≡ Some m
stays-there [] more k m e = absurd (cc)
stays-there (x ∷ l) more zero m e = e
stays-there (x ∷ l) more (suc k) m e = stays-there l more k m e

still-taken : (c : ℕ) (o q : Option Msg) → ((m : Msg) → o ≡ Some m → q ≡ Some m) → is_taken c o ≡ true → is_taken c q ≡ true
still-taken c None q f e = absurd (cc)
still-taken c (Some m) q f e = ap (is_taken c) (f m refl) ∙ e

-- ---- one event

-- the same cores are late
module _ (s : Settings) (w v : World) (own : List ℕ)
    (halts : (j : ℕ) → has_halted (v.cores j).phase ≡ has_halted (w.cores j).phase) where
  behind-same : (q : ℕ) → is_behind s.cores v own q ≡ is_behind s.cores w own q
  unfolding is_behind
  behind-same q = any_below-same _ _ s.cores (λ j l. ap (λ b. not b && nat_lt (get_or own j 0) q) (halts j))

  pub limits-same : (least : Option ℕ) → Limits s w own least → Limits s v own least
  limits-same least h c l = behind-same (get_or own c 0) ∙ h c l

module _ (s : Settings) (p : Program) (w v : World) (e : Event) (own asked next : List ℕ)
    (halts : (j : ℕ) → has_halted (v.cores j).phase ≡ has_halted (w.cores j).phase)
    (stays : (c : ℕ) → executes c e ≡ false → asks c e ≡ false → v.net (Core c) Vendor ≡ w.net (Core c) Vendor)
    (grows : (c : ℕ) → executes c e ≡ true → (more : Link) × (v.net (Core c) Vendor ≡ w.net (Core c) Vendor ++ more))
    (free : (c : ℕ) → c < s.cores → asks c e ≡ true → is_behind s.cores w own (get_or own c 0) ≡ false)
    (counts : (c : ℕ) → c < s.cores → get_or next c 0 ≡ (if asks c e then get_or asked c 0 + 1 else get_or asked c 0)) where
  same-late : (q : ℕ) → is_behind s.cores v own q ≡ is_behind s.cores w own q
  same-late = behind-same s w v own halts

  same-number : (c : ℕ) → c < s.cores → asks c e ≡ false → get_or next c 0 ≡ get_or asked c 0
  same-number c l a = counts c l ∙ ap (λ b. if b then get_or asked c 0 + 1 else get_or asked c 0) a

  others-so : (c : ℕ) → c < s.cores → executes c e ≡ false → is_waiting s p w own asked c ≡ is_waiting s p v own next c
  unfolding is_waiting
  others-so c l x = go (asks c e) refl
    where
      go : (b : Bool) → asks c e ≡ b → (is_behind s.cores w own (get_or own c 0) && is_some (step s p w (request asked c)))
          ≡ (is_behind s.cores v own (get_or own c 0) && is_some (step s p v (request next c)))
      go true a =
          ap (λ b. b && is_some (step s p w (request asked c))) (free c l a)
          ∙ sym (ap (λ b. b && is_some (step s p v (request next c))) (same-late (get_or own c 0) ∙ free c l a))
      go false a =
          let at : get_or next c 0 ≡ get_or asked c 0 = same-number c l a in
          let on = enabled-so s p w c (get_or asked c 0)
          ∙ (λ i. nat_lt c s.cores && true && is_taken c (slice_index_or (sym (stays c x a) i) (sym at i) None))
          ∙ sym (enabled-so s p v c (get_or next c 0)) in
          (λ i. sym (same-late (get_or own c 0)) i && on i)

  executed-so : (c : ℕ) → c < s.cores → executes c e ≡ true → asks c e ≡ false → is_waiting s p w own asked c ≡ true
      → is_waiting s p v own next c ≡ true
  unfolding is_waiting
  executed-so c l x a h =
      let both = both-true (is_behind s.cores w own (get_or own c 0)) (is_some (step s p w (request asked c))) h in
      let at : get_or next c 0 ≡ get_or asked c 0 = same-number c l a in
      let more = grows c x in
      let was = both-true (nat_lt c s.cores && true) _ (sym (enabled-so s p w c (get_or asked c 0)) ∙ both.1) in
      let now = still-taken c (in_flight w.net (Core c) Vendor (get_or asked c 0)) (in_flight v.net (Core c) Vendor (get_or asked c 0))
      (λ m q. ap (λ l. slice_index_or l (get_or asked c 0) None) more.1
      ∙ stays-there (w.net (Core c) Vendor) more.0 (get_or asked c 0) m q) was.1 in
      let on : is_some (step s p v (request next c)) ≡ true =
      enabled-so s p v c (get_or next c 0) ∙ ap (λ k. nat_lt c s.cores && true && is_taken c (in_flight v.net (Core c) Vendor k)) at
      ∙ (λ i. was.0 i && now i) in
      (λ i. (same-late (get_or own c 0) ∙ both.0) i && on i)
    where
      both-true : (a b : Bool) → (a && b) ≡ true → (a ≡ true) × (b ≡ true)
      both-true true true e = (refl, refl)
      both-true true false e = absurd (cc)
      both-true false b e = absurd (cc)

  alone : (c : ℕ) (e : Event) → executes c e ≡ true → asks c e ≡ false
  alone c (Exec d) x = refl
  alone c (Evict d y z) x = absurd (cc)
  alone c (Deliver a b k) x = absurd (cc)

  pub held-before : (held : List ℕ) → held ≡ those (is_waiting s p w own asked) s.cores → HeldBefore s p v own next e held
  held-before held h = record {
    waited = is_waiting s p w own asked;
    listed = h;
    still = λ c l t. go c l t (executes c e) refl;
    others = others-so;
  }
    where
      go : (c : ℕ) → c < s.cores → is_waiting s p w own asked c ≡ true → (b : Bool) → executes c e ≡ b
          → is_waiting s p v own next c ≡ true
      go c l t true x = executed-so c l x (alone c e x) t
      go c l t false x = sym (others-so c l x) ∙ t

-- ---- where nobody executed, or that core doesn't wait

module _ (s : Settings) (p : Program) (w : World) (own asked : List ℕ) (e : Event) (held : List ℕ)
    (h : HeldBefore s p w own asked e held) where
  pub unless-executed : ((c : ℕ) → c < s.cores → executes c e ≡ true → is_waiting s p w own asked c ≡ h.waited c)
      → held ≡ those (is_waiting s p w own asked) s.cores
  unless-executed f = h.listed ∙ those-same h.waited (is_waiting s p w own asked) s.cores (λ c l. go c l (executes c e) refl)
    where
      go : (c : ℕ) → c < s.cores → (b : Bool) → executes c e ≡ b → h.waited c ≡ is_waiting s p w own asked c
      go c l true x = sym (f c l x)
      go c l false x = h.others c l x

  -- one that doesn't wait didn't
  pub not-before : (c : ℕ) → c < s.cores → is_waiting s p w own asked c ≡ false → is_waiting s p w own asked c ≡ h.waited c
  not-before c l q = go (h.waited c) refl
    where
      go : (b : Bool) → h.waited c ≡ b → is_waiting s p w own asked c ≡ h.waited c
      go false z = q ∙ sym z
      go true z = absurd (let t = h.still c l z in cc)

-- ---- where the core that executed waits

-- it is there, or its place is known
abbrev pub IsListed : (held now : List ℕ) → (core : ℕ) → Result ℕ ℕ → Type 0
IsListed held now c r = MatchResult r (λ i. held ≡ now) (λ k. insert held k c ≡ now)

pub itself : (c d : ℕ) → executes d (Exec c) ≡ true → d ≡ c
itself c d x = grind (arith, nat_tests)

module _ (s : Settings) (p : Program) (w : World) (own asked : List ℕ) (c : ℕ) (held : List ℕ)
    (h : HeldBefore s p w own asked (Exec c) held) (l : c < s.cores) (t : is_waiting s p w own asked c ≡ true) where
  abbrev waits : ℕ → Bool
  waits = is_waiting s p w own asked

  other : (d : ℕ) → d ≢ c → executes d (Exec c) ≡ false
  other d n = grind (arith, nat_tests)

  found : (i : ℕ) → i < length held → get_or held i 0 ≡ c → held ≡ those waits s.cores
  found i k e = unless-executed s p w own asked (Exec c) held h
      (λ d m x. (λ j. waits (itself c d x j)) ∙ t ∙ sym (ap h.waited (itself c d x) ∙ was))
    where
      was : h.waited c ≡ true
      was =
          subst (λ x. h.waited x ≡ true) (ap (λ xs. get_or xs i 0) (sym h.listed) ∙ e)
          (stands h.waited s.cores i (subst (λ xs. i < length xs) h.listed k)).passes

  missing : (k : ℕ) → k ≤ length held → ((i : ℕ) → i < k → get_or held i 0 < c)
      → ((i : ℕ) → k ≤ i → i < length held → c < get_or held i 0) → insert held k c ≡ those waits s.cores
  missing k m low high =
      ap (λ xs. insert xs k c) h.listed ∙ ap (λ i. insert (those h.waited s.cores) i c) at
      ∙ those-insert h.waited waits c s.cores l
      (absent h.waited c s.cores k l (λ i q. below i q) (λ i q r. above i q r)) t (λ d q n. h.others d q (other d n))
    where
      below : (i : ℕ) → i < k → get_or (those h.waited s.cores) i 0 < c
      below = subst (λ xs. (i : ℕ) → i < k → get_or xs i 0 < c) h.listed low

      above : (i : ℕ) → k ≤ i → i < length (those h.waited s.cores) → c < get_or (those h.waited s.cores) i 0
      above = subst (λ xs. (i : ℕ) → k ≤ i → i < length xs → c < get_or xs i 0) h.listed high

      at : k ≡ length (those h.waited c)
      at =
          between h.waited c s.cores k (omega (arith, l)) (subst (λ xs. k ≤ length xs) h.listed m) below above

  -- by what the search of the list finds
  pub by-search : (r : Result ℕ ℕ) → IsBinarySearchResult (λ y. nat_cmp y c) held r → IsListed held (those waits s.cores) c r
  by-search r b = go r (searched held c r b rises)
    where
      rises : (i j : ℕ) → i ≤ j → j < length held → get_or held i 0 ≤ get_or held j 0
      rises =
          subst (λ xs. (i j : ℕ) → i ≤ j → j < length xs → get_or xs i 0 ≤ get_or xs j 0) (sym h.listed) (those-rise h.waited s.cores)

      go : (r : Result ℕ ℕ) → MatchResult r (λ i. (i < length held) × (get_or held i 0 ≡ c)) (λ k. (k ≤ length held)
          × ((i : ℕ) → i < k → get_or held i 0 < c) × ((i : ℕ) → k ≤ i → i < length held → c < get_or held i 0))
          → IsListed held (those waits s.cores) c r
      go (Ok i) f = found i f.0 f.1
      go (Err k) f = missing k f.0 f.1 f.2

-- one more fits
pub room : (p : ℕ → Bool) (n k c : ℕ) (held : List ℕ) → k ≤ length held → insert held k c ≡ those p n → length held < n
room p n k c held m e =
    let a = length-insert held k c m in let b = ap length e in let d = those-most p n in omega (arith, a, b, d)

-- a core that is above that phase is looked for
pub looked-up : (s : Settings) (p : Program) (w : World) (own asked : List ℕ) (least c : ℕ) (held seen : List ℕ) (r : Result ℕ ℕ)
    → Limits s w own (Some least) → HeldBefore s p w own asked (Exec c) held → c < s.cores → is_above s p w least own asked c ≡ true
    → seen ≡ held → IsBinarySearchResult (λ y. nat_cmp y c) seen r → IsListed held (those (is_waiting s p w own asked) s.cores) c r
looked-up s p w own asked least c held seen r limits h l t e b =
    by-search s p w own asked c held h l (sym (waits-above s p w own asked least limits c l) ∙ t) r
    (subst (λ xs. IsBinarySearchResult (λ y. nat_cmp y c) xs r) e b)
