-- The messages that a node sent, put on their links one after another: what is in flight stays the same, and marks stay right.
use Rattle.std.proofs.Common.{◌≡◌, ℕ, zero, suc, ◌+◌, ◌<◌, Bool, true, false, ◌&&◌, List, [], ◌∷◌, ◌++◌}
use Rattle.std.proofs.Common.{length, drop, get_or, Option, Some, None, refl, ap, sym, ◌∙◌, subst, append_assoc, append-nil, arith}
use Rattle.std.specs.Prelude.{slice_index_or, ◌==◌, if◌then◌else◌}
use Rattle.std.proofs.Math.Seq.{drop-cons}
use Rattle.std.proofs.lemmas.Bool.Decides.{nat_tests}
use Rattle.tcc_base.specs.Settings.{Settings}
use Rattle.tcc_base.specs.declared.names.NodeId.{NodeId}
use Rattle.base_lemmas.proofs.Lemmas.{eq-from, node_eq-refl}
use Rattle.rules_maps.specs.Bridge.{node_of}
use Rattle.rules_maps.specs.Nodes.{Node, Msg as PlainMsg, node_eq}
use Rattle.tcc_msg.proofs.Lemmas.{sends_of-append}
use Rattle.tcc_msg.specs.Plain.{msg_of, sends_of}
use Rattle.tcc_msg.specs.declared.msg.Msg.{Msg}
use Rattle.rules_tcc.proofs.Lemmas.{node_eq-eq}
use Rattle.rules_tcc.specs.Links.{in_flight, sending, sent_all}
use Rattle.rules_tcc.specs.State.{DirState, Link}
use Rattle.machine_dirs.specs.Bank.{DirsData, dirs_of}
use Rattle.machine_links.proofs.Lemmas.{with_mark-own, with_mark-other}
use Rattle.machine_links.specs.Flights.{Flights, net_of, is_ready, with_mark}
use Rattle.machine_links.specs.Places.{is_link}
use Rattle.net_core.specs.Delivery.{AllMayGo, AreMarked, MayGo, is_deliverable}

sent_all-append : (xs ys : List PlainMsg) → sent_all (xs ++ ys) ≡ sent_all xs ++ sent_all ys
unfolding sent_all
sent_all-append [] ys = refl
sent_all-append (x ∷ xs) ys = ap (λ zs. Some x ∷ zs) (sent_all-append xs ys)

-- the first message sent alone, and then the others
pub sending-first : (net : Node → Node → Link) (n : Node) (x : NodeId × Msg) (xs : List (NodeId × Msg))
    → sending (sending net n (sends_of (x ∷ []))) n (sends_of xs) ≡ sending net n (sends_of (x ∷ xs))
sending-first net n x xs = λ i s d. by (node_eq s n) s d i
  where
    by : (b : Bool) (s d : Node)
        → (if b then (if b then net s d ++ sent_all (sends_of (x ∷ []) d) else net s d) ++ sent_all (sends_of xs d)
        else (if b then net s d ++ sent_all (sends_of (x ∷ []) d) else net s d))
        ≡ (if b then net s d ++ sent_all (sends_of (x ∷ xs) d) else net s d)
    by true s d =
        append_assoc (net s d) (sent_all (sends_of (x ∷ []) d)) (sent_all (sends_of xs d))
        ∙ ap (λ l. net s d ++ l)
        (sym (sent_all-append (sends_of (x ∷ []) d) (sends_of xs d)) ∙ ap sent_all (sym (sends_of-append (x ∷ []) xs d)))
    by false s d = refl

-- nothing is sent
pub sending-none : (net : Node → Node → Link) (n : Node) → sending net n (sends_of []) ≡ net
unfolding sends_of sent_all
sending-none net n = λ i s d. by (node_eq s n) (net s d) i
  where
    by : (b : Bool) (l : Link) → (if b then l ++ [] else l) ≡ l
    by true l = append-nil l
    by false l = refl

next-on : (l : Link) (x : Option PlainMsg) (xs : Link) → slice_index_or (l ++ x ∷ xs) (length l) None ≡ x
next-on [] x xs = refl
next-on (y ∷ ys) x xs = next-on ys x xs

-- the first of them is in flight under the next number of its link
pub first-flies : (net : Node → Node → Link) (n : Node) (x : NodeId × Msg) (xs : List (NodeId × Msg))
    → in_flight (sending net n (sends_of (x ∷ xs))) n (node_of x.0) (length (net n (node_of x.0))) ≡ Some (msg_of x.1)
unfolding sends_of sent_all
first-flies net n x xs =
    rw (node_eq-refl n, node_eq-refl (node_of x.0))
    (next-on (net n (node_of x.0)) (Some (msg_of x.1)) (sent_all (sends_of xs (node_of x.0))))

-- another number than that of the last was there before
before-last : (l : Link) (x : Option PlainMsg) (k : ℕ) (m : PlainMsg) → slice_index_or (l ++ x ∷ []) k None ≡ Some m
    → (k == length l) ≡ false → slice_index_or l k None ≡ Some m
before-last [] x zero m e n = absurd (cc)
before-last [] x (suc k) m e n = e
before-last (y ∷ ys) x zero m e n = e
before-last (y ∷ ys) x (suc k) m e n = before-last ys x k m e (grind (arith, nat_tests))

-- the number under which it is sent
abbrev is_next : (Node → Node → Link) → (n : Node) → NodeId × Msg → (src dst : Node) → ℕ → Bool
is_next net n x src dst k = node_eq src n && (node_eq dst (node_of x.0) && k == length (net n (node_of x.0)))

still-by : (net : Node → Node → Link) (n : Node) (x : NodeId × Msg) (src dst : Node) (k : ℕ) (m : PlainMsg)
    → (a : Bool) → node_eq src n ≡ a → (b : Bool) → node_eq dst (node_of x.0) ≡ b
    → slice_index_or (if a then net src dst ++ sent_all ((if b then msg_of x.1 ∷ [] else []) ++ []) else net src dst) k None ≡ Some m
    → (a && (b && k == length (net n (node_of x.0)))) ≡ false → in_flight net src dst k ≡ Some m
unfolding sent_all
still-by net n x src dst k m false p b q fly h = fly
still-by net n x src dst k m true p false q fly h = subst (λ l. slice_index_or l k None ≡ Some m) (append-nil (net src dst)) fly
still-by net n x src dst k m true p true q fly h =
    let same : net src dst ≡ net n (node_of x.0) = λ i. net (node_eq-eq src n p i) (node_eq-eq dst (node_of x.0) q i) in
    before-last (net src dst) (Some (msg_of x.1)) k m fly (subst (λ l. (k == length l) ≡ false) (sym same) h)

-- what has another name was in flight before
still : (net : Node → Node → Link) (n : Node) (x : NodeId × Msg) (src dst : Node) (k : ℕ) (m : PlainMsg)
    → in_flight (sending net n (sends_of (x ∷ []))) src dst k ≡ Some m → is_next net n x src dst k ≡ false
    → in_flight net src dst k ≡ Some m
unfolding sends_of
still net n x src dst k m fly h = still-by net n x src dst k m (node_eq src n) refl (node_eq dst (node_of x.0)) refl fly h

-- what has that name is the message that was sent
is-sent : (net : Node → Node → Link) (n : Node) (x : NodeId × Msg) (src dst : Node) (k : ℕ) (m : PlainMsg)
    → in_flight (sending net n (sends_of (x ∷ []))) src dst k ≡ Some m → src ≡ n → dst ≡ node_of x.0 → k ≡ length (net n (node_of x.0))
    → m ≡ msg_of x.1
is-sent net n x src dst k m fly a b c =
    let all : (Node → Node → Link) = sending net n (sends_of (x ∷ [])) in
    let same : in_flight all src dst k ≡ in_flight all n (node_of x.0) (length (net n (node_of x.0))) =
    λ i. in_flight all (a i) (b i) (c i) in
    let is : Some m ≡ Some (msg_of x.1) = sym fly ∙ same ∙ first-flies net n x [] in
    cc

-- all three parts hold
all-three : (a b c : Bool) → (a && (b && c)) ≡ true → (a ≡ true) × (b ≡ true) × (c ≡ true)
all-three true true true e = (refl, refl, refl)
all-three true true false e = absurd (cc)
all-three true false c e = absurd (cc)
all-three false b c e = absurd (cc)

-- one more message on its link, marked as its directory says
pub marked-push : (s : Settings) (dirs : ℕ → DirState) (old new : Flights) (n : Node) (x : NodeId × Msg) (ready : Bool)
    → AreMarked s dirs old → net_of new ≡ sending (net_of old) n (sends_of (x ∷ []))
    → is_ready new ≡ with_mark (is_ready old) n (node_of x.0) (length (net_of old n (node_of x.0))) ready
    → ready ≡ is_deliverable s dirs n (node_of x.0) (msg_of x.1) → AreMarked s dirs new
unfolding AreMarked
marked-push s dirs old new n x ready marked net marks says src dst k m fly =
    (λ i. marks i src dst k)
    ∙ go (is_next (net_of old) n x src dst k) refl (subst (λ f. in_flight f src dst k ≡ Some m) net fly)
  where
    go : (b : Bool) → is_next (net_of old) n x src dst k ≡ b → in_flight (sending (net_of old) n (sends_of (x ∷ []))) src dst k ≡ Some m
        → with_mark (is_ready old) n (node_of x.0) (length (net_of old n (node_of x.0))) ready src dst k ≡ is_deliverable s dirs src dst m
    go false e there =
        with_mark-other (is_ready old) n (node_of x.0) (length (net_of old n (node_of x.0))) ready src dst k e
        ∙ marked src dst k m (still (net_of old) n x src dst k m there e)
    go true e there =
        let t = all-three (node_eq src n) (node_eq dst (node_of x.0)) (k == length (net_of old n (node_of x.0))) e in
        let a = node_eq-eq src n t.0 in
        let b = node_eq-eq dst (node_of x.0) t.1 in
        let c = eq-from k (length (net_of old n (node_of x.0))) t.2 in
        let is = is-sent (net_of old) n x src dst k m there a b c in
        (λ i. with_mark (is_ready old) n (node_of x.0) (length (net_of old n (node_of x.0))) ready (a i) (b i) (c i))
        ∙ with_mark-own (is_ready old) n (node_of x.0) (length (net_of old n (node_of x.0))) ready
        ∙ says ∙ sym (λ i. is_deliverable s dirs (a i) (b i) (is i))

-- those from number p up to q stand on their links: in flight are the same messages, and marks stay right
pub record Placed (d : DirsData) (n : NodeId) (sent : List (NodeId × Msg)) (p q : ℕ) (old new : Flights) : Type 0 where
  pub cores : new.cores ≡ old.cores
  pub dirs : new.dirs ≡ old.dirs
  pub net : sending (net_of new) (node_of n) (sends_of (drop q sent)) ≡ sending (net_of old) (node_of n) (sends_of (drop p sent))
  pub marked : (ram : ℕ → ℕ) → AreMarked d.settings (dirs_of ram d) old → AreMarked d.settings (dirs_of ram d) new

pub placed-none : (d : DirsData) (n : NodeId) (sent : List (NodeId × Msg)) (p : ℕ) (f : Flights) → Placed d n sent p p f f
placed-none d n sent p f = record { cores = refl; dirs = refl; net = refl; marked = λ ram h. h }

-- the first that doesn't stand there
pub next-first : (sent : List (NodeId × Msg)) (q : ℕ) (x : NodeId × Msg) → q < length sent → x ≡ get_or sent q x
    → drop q sent ≡ x ∷ drop (q + 1) sent
next-first sent q x h e =
    drop-cons sent q x h ∙ ap (λ y. y ∷ drop (suc q) sent) (sym e) ∙ ap (λ k. x ∷ drop k sent) (let f : suc q ≡ q + 1 = omega arith in f)

-- it may go, since it is in flight
pub next-goes : (s : Settings) (d : DirsData) (n : NodeId) (sent : List (NodeId × Msg)) (p q : ℕ) (old mid : Flights) (x : NodeId × Msg)
    → AllMayGo s (sending (net_of old) (node_of n) (sends_of (drop p sent))) → Placed d n sent p q old mid
    → drop q sent ≡ x ∷ drop (q + 1) sent
    → MayGo s (node_of n) (node_of x.0) (msg_of x.1)
unfolding AllMayGo
next-goes s d n sent p q old mid x go w first =
    let to = node_of x.0 in
    let k = length (net_of mid (node_of n) to) in
    go (node_of n) to k (msg_of x.1) (subst (λ f. in_flight f (node_of n) to k ≡ Some (msg_of x.1)) w.net
    (subst (λ xs. in_flight (sending (net_of mid) (node_of n) (sends_of xs)) (node_of n) to k ≡ Some (msg_of x.1)) (sym first)
    (first-flies (net_of mid) (node_of n) x (drop (q + 1) sent))))

-- and the flights have its link
pub next-link : (s : Settings) (d : DirsData) (n : NodeId) (sent : List (NodeId × Msg)) (p q : ℕ) (old mid : Flights) (x : NodeId × Msg)
    → MayGo s (node_of n) (node_of x.0) (msg_of x.1) → Placed d n sent p q old mid → old.cores ≡ s.cores → old.dirs ≡ s.dirs
    → is_link mid.cores mid.dirs (node_of n) (node_of x.0) ≡ true
next-link s d n sent p q old mid x go w cores dirs =
    (λ i. is_link ((w.cores ∙ cores) i) ((w.dirs ∙ dirs) i) (node_of n) (node_of x.0)) ∙ go.link

-- one more stands there
pub placed-step : (d : DirsData) (n : NodeId) (sent : List (NodeId × Msg)) (p q : ℕ) (old mid new : Flights) (x : NodeId × Msg)
    (ready : Bool) → Placed d n sent p q old mid → drop q sent ≡ x ∷ drop (q + 1) sent → new.cores ≡ mid.cores → new.dirs ≡ mid.dirs
    → net_of new ≡ sending (net_of mid) (node_of n) (sends_of (x ∷ []))
    → is_ready new ≡ with_mark (is_ready mid) (node_of n) (node_of x.0) (length (net_of mid (node_of n) (node_of x.0))) ready
    → ((ram : ℕ → ℕ) → ready ≡ is_deliverable d.settings (dirs_of ram d) (node_of n) (node_of x.0) (msg_of x.1))
    → Placed d n sent p (q + 1) old new
placed-step d n sent p q old mid new x ready w first cs ds net marks says = record {
  cores = cs ∙ w.cores;
  dirs = ds ∙ w.dirs;
  net = ap (λ f. sending f (node_of n) (sends_of (drop (q + 1) sent))) net
      ∙ sending-first (net_of mid) (node_of n) x (drop (q + 1) sent)
      ∙ ap (λ xs. sending (net_of mid) (node_of n) (sends_of xs)) (sym first)
      ∙ w.net;
  marked = λ ram h. marked-push d.settings (dirs_of ram d) mid new (node_of n) x ready (w.marked ram h) net marks (says ram);
}
