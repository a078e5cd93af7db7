-- What an event that may come does to the cores' TIDs: another core than the one whose turn it is stays without, a TID is had by none that
-- hadn't it but where it is granted, and what commits is the TID of the core whose turn it is, which has none then.
use Rattle.std.proofs.Common.{◌≡◌, ◌==◌, ◌+◌, ℕ, ◌≤◌, ◌⊎◌, inl, inr, Bool, true, false, [], ◌∷◌, ◌++◌, set, zero, suc}
use Rattle.std.proofs.Common.{Option, Some, None, IfSome, if◌then◌else◌, refl, sym, arith}
use Rattle.std.proofs.lemmas.Bool.{cases_eq}
use Rattle.std.proofs.lemmas.Bool.Decides.{nat_tests}
use Rattle.tcc_base.specs.declared.access.Commit.{Commit as Noted}
use Rattle.rules_maps.specs.Nodes.{Node, Core, Dir, Vendor, Event, Exec, Evict, Deliver, Msg, TidReq, TidGrant}
use Rattle.rules_maps.specs.Shape.{Shape}
use Rattle.rules_maps.specs.Words.{num}
use Rattle.rules_program.specs.Program.{Program}
use Rattle.rules_tcc.specs.Attempt.{Out}
use Rattle.rules_tcc.specs.CoreDeliver.{core_deliver, from_dir, grant}
use Rattle.rules_tcc.specs.CoreEvict.{core_evict}
use Rattle.rules_tcc.specs.CoreExec.{core_exec}
use Rattle.rules_tcc.specs.DirDeliver.{Answer, Waits, Drops, Asks, Takes, dir_deliver}
use Rattle.rules_tcc.specs.Links.{in_flight, sent_all}
use Rattle.rules_tcc.specs.Sends.{to}
use Rattle.rules_tcc.specs.State.{CoreState, Link, World}
use Rattle.rules_tcc.specs.Step.{Stepped, core_moves, core_takes, dir_takes, dir_asks, vendor_gives, if_core_moves, if_core_takes}
use Rattle.rules_tcc.specs.Step.{answered, if_vendor_gives, delivered, if_in_flight, names_nodes, happens, step}
use Rattle.rules_tcc.specs.VendorDeliver.{Granted, vendor_deliver}
use Rattle.theorem_serial.specs.Count.{Grants, live, passes}
use Rattle.theorem_serial.specs.Owners.{holder}
use Rattle.theorem_serial.specs.Pairs.{pair}
use Rattle.theorem_serial.specs.Tids.{has_tid}
use Rattle.theorem_serial.proofs.Lemmas.{KeepsHolder, holder-back, holder-evict, holder-exec, holder-grant, live-some, no_grant}
use Rattle.run_follow.specs.Following.{is_turn, may_come}
use Rattle.run_follow.proofs.Clear.{Calm, Commits, deliver-calm, evict-calm, exec-commits, is_clear}

-- core c has the TID, or it is on its way there
abbrev pub Holds : World → (core tid : ℕ) → Type 0
Holds w c t = 1 ≤ holder t (pair w c 0)

-- the core whose turn it is commits a TID that it held, and has none then
pub record Committing (turn : Option ℕ) (w v : World) (n : Noted) : Type 0 where
  pub in_turn : is_turn turn n.core.0 ≡ true
  pub held : Holds w n.core.0 n.tid.0
  pub clear : is_clear (v.cores n.core.0).phase ≡ true

pub record Turning (turn : Option ℕ) (w v : World) (noted : Option Noted) : Type 0 where
  pub others : (c : ℕ) → is_turn turn c ≡ false → is_clear (w.cores c).phase ≡ true → is_clear (v.cores c).phase ≡ true
  pub held : (c t : ℕ) → Holds v c t → Holds w c t ⊎ (t ≡ w.next)
  pub commits : IfSome noted (Committing turn w v)

abbrev pub IfTurning : Option ℕ → World → Option Stepped → Type 0
IfTurning turn w x = IfSome x (λ o. Turning turn w o.world o.noted)

-- ---- links

fewer-taken : (t k : ℕ) (l : Link) → live (Grants t) (set l k None) ≤ live (Grants t) l
unfolding live
fewer-taken t k [] = omega arith
fewer-taken t zero (None ∷ l) = omega arith
fewer-taken t zero (Some m ∷ l) = omega arith
fewer-taken t (suc k) (None ∷ l) = fewer-taken t k l
fewer-taken t (suc k) (Some m ∷ l) = omega (arith, fewer-taken t k l)

one-more : (t n : ℕ) (b : Bool) (l : Link)
    → live (Grants t) (l ++ sent_all (if b then TidGrant n ∷ [] else [])) ≤ live (Grants t) l + num (n == t)
unfolding live sent_all passes
one-more t n true [] = omega arith
one-more t n false [] = omega arith
one-more t n b (None ∷ l) = one-more t n b l
one-more t n b (Some m ∷ l) = omega (arith, one-more t n b l)

-- ---- a core executes or evicts

put-clear : (cores : ℕ → CoreState) (c j : ℕ) (s : CoreState) → (j ≡ c → is_clear s.phase ≡ true) → is_clear (cores j).phase ≡ true
    → is_clear (if j == c then s else cores j).phase ≡ true
put-clear cores c j s mine theirs = grind (arith, nat_tests, mine, theirs)

held-moved : (w : World) (c : ℕ) (o : Out) → KeepsHolder c no_grant (w.cores c) o → (j t : ℕ) → Holds (core_moves w c o) j t → Holds w j t
unfolding core_moves pair holder
held-moved w c o k j t h = let few = k.holds t in grind (arith, nat_tests, few, h)

committing : (turn : Option ℕ) (w : World) (c : ℕ) (o : Out) (n : Noted) → is_turn turn c ≡ true → Commits c (w.cores c) o n
    → Committing turn w (core_moves w c o) n
unfolding core_moves pair holder
committing turn w c o n i k =
    let one : num (has_tid (w.cores c).phase n.tid.0) ≡ 1 = rw k.had refl in
    let same : (n.core.0 == c) ≡ true = rw k.own (grind (arith, nat_tests)) in
    record { in_turn = rw k.own i; held = rw k.own (omega (arith, one)); clear = rw same k.clear }

exec-turns : (turn : Option ℕ) (w : World) (c : ℕ) (o : Out) → is_turn turn c ≡ true → KeepsHolder c no_grant (w.cores c) o
    → IfSome o.commit (Commits c (w.cores c) o) → Turning turn w (core_moves w c o) o.commit
unfolding core_moves
exec-turns turn w c o i k x = record {
  others = λ j f h. put-clear w.cores c j o.core (λ e. let both : is_turn turn c ≡ false = rw (sym e) f in absurd (cc)) h;
  held = λ j t h. inl (held-moved w c o k j t h);
  commits = go o.commit x;
}
  where
    go : (n : Option Noted) → IfSome n (Commits c (w.cores c) o) → IfSome n (Committing turn w (core_moves w c o))
    go None y = tt
    go (Some n) y = committing turn w c o n i y

-- nothing is committed
still : {turn : Option ℕ} {w v : World} (noted : Option Noted) → noted ≡ None
    → ((c : ℕ) → is_clear (w.cores c).phase ≡ true → is_clear (v.cores c).phase ≡ true)
    → ((c t : ℕ) → Holds v c t → Holds w c t ⊎ (t ≡ w.next)) → Turning turn w v noted
still noted e clear held = record { others = λ c f h. clear c h; held = held; commits = rw e tt }

calm-clear : (w : World) (c j : ℕ) (o : Out) → Calm (w.cores c) o → is_clear (w.cores j).phase ≡ true
    → is_clear (if j == c then o.core else w.cores j).phase ≡ true
calm-clear w c j o k h = put-clear w.cores c j o.core (λ e. k.clear (rw (sym e) h)) h

evict-turns : (turn : Option ℕ) (w : World) (c : ℕ) (o : Out) → KeepsHolder c no_grant (w.cores c) o → Calm (w.cores c) o
    → Turning turn w (core_moves w c o) o.commit
unfolding core_moves
evict-turns turn w c o k q =
    still o.commit q.quiet (λ j h. calm-clear w c j o q h) (λ j t h. inl (held-moved w c o k j t h))

-- ---- a core takes a message

held-back : (w : World) (d c k : ℕ) (o : Out) → KeepsHolder c no_grant (w.cores c) o → (j t : ℕ) → Holds (core_takes w (Dir d) c k o) j t
    → Holds w j t
unfolding core_takes pair holder
held-back w d c k o y j t h = let few = y.holds t in grind (arith, nat_tests, few, h)

back-turns : (turn : Option ℕ) (w : World) (d c k : ℕ) (o : Out) → KeepsHolder c no_grant (w.cores c) o → Calm (w.cores c) o
    → Turning turn w (core_takes w (Dir d) c k o) o.commit
unfolding core_takes
back-turns turn w d c k o y q =
    still o.commit q.quiet (λ j h. calm-clear w c j o q h) (λ j t h. inl (held-back w d c k o y j t h))

held-given : (w : World) (c k u : ℕ) (o : Out) → in_flight w.net Vendor (Core c) k ≡ Some (TidGrant u)
    → KeepsHolder c (λ t. num (u == t)) (w.cores c) o → (j t : ℕ) → Holds (core_takes w Vendor c k o) j t → Holds w j t
unfolding core_takes pair holder passes
held-given w c k u o i y j t h =
    let few = y.holds t in
    let came = live-some (Grants t) (w.net Vendor (Core c)) k (TidGrant u) i in
    let less = fewer-taken t k (w.net Vendor (Core c)) in
    grind (arith, nat_tests, few, came, less, h)

given-turns : (turn : Option ℕ) (w : World) (c k u : ℕ) (o : Out) → in_flight w.net Vendor (Core c) k ≡ Some (TidGrant u)
    → KeepsHolder c (λ t. num (u == t)) (w.cores c) o → Calm (w.cores c) o → Turning turn w (core_takes w Vendor c k o) o.commit
unfolding core_takes
given-turns turn w c k u o i y q =
    still o.commit q.quiet (λ j h. calm-clear w c j o q h) (λ j t h. inl (held-given w c k u o i y j t h))

-- ---- a directory or the vendor takes a message

answered-turns : (turn : Option ℕ) (w : World) (c d k : ℕ) (a : Answer) → IfTurning turn w (answered w c d k a)
unfolding dir_takes dir_asks pair holder
answered-turns turn w c d k Waits = tt
answered-turns turn w c d k Drops = still None refl (λ j h. h) (λ j t h. inl h)
answered-turns turn w c d k (Asks s sends) = still None refl (λ j h. h) (λ j t h. inl h)
answered-turns turn w c d k (Takes s sends) = still None refl (λ j h. h) (λ j t h. inl h)

held-new : (w : World) (c k : ℕ) (g : Granted) → vendor_deliver w.next c TidReq ≡ Some g → (j t : ℕ) → Holds (vendor_gives w c k g) j t
    → Holds w j t ⊎ (t ≡ w.next)
unfolding vendor_gives pair holder
held-new w c k g e j t h = go (cases_eq w.next t)
  where
    few : holder t (pair (vendor_gives w c k g) j 0) ≤ holder t (pair w j 0) + num (w.next == t)
    few = let more = one-more t w.next (j == c) (w.net Vendor (Core j)) in
        let same : g ≡ record { next = w.next + 1; sends = to (Core c) (TidGrant w.next ∷ []) } = cc in rw same (omega (arith, more))

    go : (w.next ≡ t) ⊎ (w.next ≡ t → ⊥) → Holds w j t ⊎ (t ≡ w.next)
    go (inl q) = inr (sym q)
    go (inr q) = let none : num (w.next == t) ≡ 0 = grind (arith, nat_tests, q) in inl (omega (arith, few, h, none))

vendor-turns : (turn : Option ℕ) (w : World) (c k : ℕ) (m : Msg) → IfTurning turn w (if_vendor_gives w c k (vendor_deliver w.next c m))
unfolding vendor_gives
vendor-turns turn w c k TidReq = still None refl (λ j h. h) (held-new w c k _ refl)
vendor-turns turn w c k _ = tt

-- ---- an event

exec-may : (sh : Shape) (p : Program) (w : World) (c : ℕ) (turn : Option ℕ) → is_turn turn c ≡ true
    → IfTurning turn w (if_core_moves w c (core_exec sh p c (w.cores c)))
exec-may sh p w c turn i = go (core_exec sh p c (w.cores c)) (holder-exec sh p c (w.cores c)) (exec-commits sh p c (w.cores c))
  where
    go : (x : Option Out) → IfSome x (KeepsHolder c no_grant (w.cores c)) → IfSome x (λ o. IfSome o.commit (Commits c (w.cores c) o))
        → IfTurning turn w (if_core_moves w c x)
    go None y n = tt
    go (Some o) y n = exec-turns turn w c o i y n

evict-may : (sh : Shape) (w : World) (c x y : ℕ) (turn : Option ℕ) → IfTurning turn w (if_core_moves w c (core_evict sh x y (w.cores c)))
evict-may sh w c x y turn = go (core_evict sh x y (w.cores c)) (holder-evict sh x y c (w.cores c)) (evict-calm sh x y (w.cores c))
  where
    go : (x : Option Out) → IfSome x (KeepsHolder c no_grant (w.cores c)) → IfSome x (Calm (w.cores c))
        → IfTurning turn w (if_core_moves w c x)
    go None y n = tt
    go (Some o) y n = evict-turns turn w c o y n

back-may : (sh : Shape) (w : World) (d c k : ℕ) (m : Msg) (turn : Option ℕ)
    → IfTurning turn w (if_core_takes w (Dir d) c k (core_deliver sh (w.cores c) (Dir d) m))
unfolding core_deliver
back-may sh w d c k m turn = go (from_dir sh d (w.cores c) m) (holder-back sh d c (w.cores c) m) (deliver-calm sh (w.cores c) (Dir d) m)
  where
    go : (x : Option Out) → IfSome x (KeepsHolder c no_grant (w.cores c)) → IfSome x (Calm (w.cores c))
        → IfTurning turn w (if_core_takes w (Dir d) c k x)
    go None y n = tt
    go (Some o) y n = back-turns turn w d c k o y n

given-may : (sh : Shape) (w : World) (c k : ℕ) (m : Msg) (turn : Option ℕ) → in_flight w.net Vendor (Core c) k ≡ Some m
    → IfTurning turn w (if_core_takes w Vendor c k (core_deliver sh (w.cores c) Vendor m))
unfolding core_deliver
given-may sh w c k (TidGrant u) turn i =
    given-turns turn w c k u (grant sh u (w.cores c)) i (holder-grant sh u c (w.cores c)) (deliver-calm sh (w.cores c) Vendor (TidGrant u))
given-may sh w c k _ turn i = tt

delivered-may : (sh : Shape) (w : World) (src dst : Node) (k : ℕ) (m : Msg) (turn : Option ℕ) → in_flight w.net src dst k ≡ Some m
    → IfTurning turn w (delivered sh w src dst k m)
unfolding core_deliver
delivered-may sh w (Dir d) (Core c) k m turn i = back-may sh w d c k m turn
delivered-may sh w Vendor (Core c) k m turn i = given-may sh w c k m turn i
delivered-may sh w (Core j) (Core c) k m turn i = tt
delivered-may sh w (Core c) (Dir d) k m turn i = answered-turns turn w c d k (dir_deliver sh (w.dirs d) c m)
delivered-may sh w (Core c) Vendor k m turn i = vendor-turns turn w c k m
delivered-may sh w _ _ k m turn i = tt

happens-may : (sh : Shape) (p : Program) (w : World) (e : Event) (turn : Option ℕ) → may_come turn e ≡ true
    → IfTurning turn w (happens sh p w e)
unfolding happens may_come
happens-may sh p w (Exec c) turn i = exec-may sh p w c turn i
happens-may sh p w (Evict c x y) turn i = evict-may sh w c x y turn
happens-may sh p w (Deliver src dst k) turn i = go (in_flight w.net src dst k) refl
  where
    go : (m : Option Msg) → in_flight w.net src dst k ≡ m → IfTurning turn w (if_in_flight sh w src dst k m)
    go None e = tt
    go (Some m) e = delivered-may sh w src dst k m turn e

pub step-turns : (sh : Shape) (p : Program) (w : World) (e : Event) (turn : Option ℕ) → may_come turn e ≡ true
    → IfTurning turn w (step sh p w e)
unfolding step
step-turns sh p w e turn i = go (names_nodes sh e)
  where
    go : (b : Bool) → IfTurning turn w (if b then happens sh p w e else None)
    go true = happens-may sh p w e turn i
    go false = tt
