-- What goes to each node, message by message: for the proofs of callers too.
pub use Rattle.commit_engine.proofs.Noting.{noted_all, solo_writes_elsewhere, writes_elsewhere}
use Rattle.std.proofs.Common.{◌≡◌, ℕ, ◌+◌, Bool, true, false, List, [], ◌∷◌, ◌++◌, map, length, vec_capacity, length-append, ◌≤◌, nat_eq}
use Rattle.std.proofs.Common.{nat_lt, ◌||◌, if◌then◌else◌, append_assoc, append-nil, refl, ap, sym, ◌∙◌, arith, inl, inr}
use Rattle.std.specs.List.{flat_map}
use Rattle.std.proofs.lemmas.Bool.{cases_eq, ne_eqb}
use Rattle.std.proofs.lemmas.Bool.Decides.{nat_tests}
use Rattle.tcc_base.specs.declared.names.NodeId.{NodeId}
use Rattle.rules_maps.specs.Nodes.{Node, Core, Dir, Vendor, Msg, Mark, Skip, Probe, node_eq}
use Rattle.rules_maps.specs.Masks.{has}
use Rattle.rules_maps.specs.Shape.{Shape}
use Rattle.rules_maps.specs.Bridge.{node_of}
use Rattle.rules_maps.specs.Cache.{Cache, modified_mask, written_lines, marks_by_home}
use Rattle.tcc_msg.specs.Plain.{msg_of, sends_of}
use Rattle.tcc_msg.specs.declared.msg.Msg.{Msg as CodeMsg}
use Rattle.tcc_msg.specs.declared.outgoing.Outgoing.{Outgoing}
use Rattle.tcc_msg.proofs.Lemmas.{sends_of-push}
use Rattle.rules_tcc.specs.Sends.{Sends, to, when, skip_all, probe_all, marks_for}
use Rattle.commit_engine.specs.Sent.{Sent, followed, to_first, to_members, mark_at}

pub followed-nothing : (s : Sends) → followed s (λ dst. []) ≡ s
unfolding followed
followed-nothing s = λ i dst. (append-nil (s dst)) i

pub followed_assoc : (r s t : Sends) → followed (followed r s) t ≡ followed r (followed s t)
unfolding followed
followed_assoc r s t = λ i dst. (append_assoc (r dst) (s dst) (t dst)) i

-- one more message
pub sent-push : (xs : List (NodeId × CodeMsg)) (d : NodeId) (m : CodeMsg)
    → sends_of (xs ++ (d, m) ∷ []) ≡ followed (sends_of xs) (to (node_of d) (msg_of m ∷ []))
unfolding followed
sent-push xs d m = λ i n. (sends_of-push xs d m n) i

pub to_first-zero : (f : ℕ → List Msg) (dst : Node) → to_first 0 f dst ≡ []
unfolding to_first
to_first-zero f (Dir d) = (let e : nat_lt d 0 ≡ false = grind (arith, nat_tests) in rw e refl)
to_first-zero f (Core c) = refl
to_first-zero f Vendor = refl

first_more : (x y z : Bool) (ms : List Msg) → z ≡ (x || y) → (x ≡ true → y ≡ false) → (if z then ms else []) ≡ (if x then ms else [])
    ++ (if y then ms else [])
first_more true y z ms e d = rw (e, d refl) (sym (append-nil ms))
first_more false y z ms e d = rw e refl

lt_more : (d n : ℕ) → nat_lt d (n + 1) ≡ (nat_lt d n || nat_eq d n)
lt_more d n = grind (arith, nat_tests)

lt_other : (d n : ℕ) → nat_lt d n ≡ true → nat_eq d n ≡ false
lt_other d n h = grind (arith, nat_tests)

same_place : (f : ℕ → List Msg) (d n : ℕ) → (if nat_eq d n then f d else []) ≡ (if nat_eq d n then f n else [])
same_place f d n = elim (cases_eq d n) [
  | inl e ↦ rw e refl
  | inr m ↦ rw (ne_eqb d n m) refl
]

pub to_first-more : (n : ℕ) (f : ℕ → List Msg) (dst : Node) → to_first (n + 1) f dst ≡ to_first n f dst ++ to (Dir n) (f n) dst
unfolding to_first
to_first-more n f (Dir d) = first_more (nat_lt d n) (nat_eq d n) (nat_lt d (n + 1)) (f d) (lt_more d n) (lt_other d n)
    ∙ ap (λ ms. (if nat_lt d n then f d else []) ++ ms) (same_place f d n)
to_first-more n f (Core c) = refl
to_first-more n f Vendor = refl

same_either : (b : Bool) (ms : List Msg) → (if b then ms else ms) ≡ ms
same_either true ms = refl
same_either false ms = refl

-- nothing more to one of them
to_none : (n : ℕ) (dst : Node) → to (Dir n) [] dst ≡ []
to_none n (Dir d) = same_either (nat_eq d n) []
to_none n (Core c) = refl
to_none n Vendor = refl

pub to_first_skips : (n : ℕ) (f : ℕ → List Msg) → f n ≡ [] → to_first (n + 1) f ≡ to_first n f
to_first_skips n f e = λ i dst. (each dst) i
  where
    each : (dst : Node) → to_first (n + 1) f dst ≡ to_first n f dst
    each dst =
        let none : to (Dir n) (f n) dst ≡ [] = rw e (to_none n dst) in
        to_first-more n f dst ∙ ap (λ (ms : List Msg). to_first n f dst ++ ms) none ∙ append-nil (to_first n f dst)

pub to_first_sends : (n : ℕ) (f : ℕ → List Msg) → to_first (n + 1) f ≡ followed (to_first n f) (to (Dir n) (f n))
unfolding followed
to_first_sends n f = λ i dst. (to_first-more n f dst) i

-- what a call sent, step by step
pub sent_none : (out : Outgoing) (f : ℕ → List Msg) → Sent out out (to_first 0 f) 0
sent_none out f =
    let e : to_first 0 f ≡ (λ dst. []) = λ i dst. (to_first-zero f dst) i in
    record {
      messages = sym (ap (followed (sends_of out.list.items)) e ∙ followed-nothing (sends_of out.list.items));
      count = omega arith;
      room = refl;
    }

pub sent_same : (old new : Outgoing) (f : ℕ → List Msg) (n : ℕ) → Sent old new (to_first n f) n → f n ≡ []
    → Sent old new (to_first (n + 1) f) (n + 1)
sent_same old new f n s e =
    let m : to_first (n + 1) f ≡ to_first n f = to_first_skips n f e in
    record { messages = rw m s.messages; count = omega arith; room = s.room }

pub sent_more : (old mid new : Outgoing) (f : ℕ → List Msg) (n : ℕ) (d : NodeId) (m : CodeMsg)
    → Sent old mid (to_first n f) n → new.list.items ≡ mid.list.items ++ (d, m) ∷ [] → vec_capacity new.list ≡ vec_capacity mid.list
    → node_of d ≡ Dir n → f n ≡ msg_of m ∷ [] → Sent old new (to_first (n + 1) f) (n + 1)
sent_more old mid new f n d m s i r e g =
    let pushed : sends_of new.list.items ≡ followed (sends_of mid.list.items) (to (Dir n) (f n)) =
    rw i (rw (sent-push mid.list.items d m) (rw (e, g) refl)) in
    let all : sends_of new.list.items ≡ followed (followed (sends_of old.list.items) (to_first n f)) (to (Dir n) (f n)) =
    pushed ∙ ap (λ (x : Sends). followed x (to (Dir n) (f n))) s.messages in
    let long : length new.list.items ≡ length mid.list.items + 1 = rw i (length-append mid.list.items ((d, m) ∷ [])) in
    record {
      messages = all ∙ followed_assoc (sends_of old.list.items) (to_first n f) (to (Dir n) (f n)) ∙ ap (followed (sends_of old.list.items))
          (sym (to_first_sends n f));
      count = omega arith;
      room = r ∙ s.room;
    }

-- two calls, one after the other
pub sent_both : (old mid new : Outgoing) (a b : Sends) (m n : ℕ) → Sent old mid a m → Sent mid new b n → Sent old new (followed a b) (m + n)
sent_both old mid new a b m n s t = record {
  messages = t.messages ∙ ap (λ (x : Sends). followed x b) s.messages ∙ followed_assoc (sends_of old.list.items) a b;
  count = omega arith;
  room = t.room ∙ s.room;
}

-- one message
pub sent_one : (old new : Outgoing) (d : NodeId) (m : CodeMsg) → new.list.items ≡ old.list.items ++ (d, m) ∷ []
    → vec_capacity new.list ≡ vec_capacity old.list
    → Sent old new (to (node_of d) (msg_of m ∷ [])) 1
sent_one old new d m i r =
    let long : length new.list.items ≡ length old.list.items + 1 = rw i (length-append old.list.items ((d, m) ∷ [])) in
    record { messages = rw i (sent-push old.list.items d m); count = omega arith; room = r }

-- the same messages in other words, or with more room
pub sent_as : (old new : Outgoing) (a b : Sends) (m n : ℕ) → Sent old new a m → a ≡ b → m ≤ n → Sent old new b n
sent_as old new a b m n s e l = record {
  messages = s.messages ∙ ap (followed (sends_of old.list.items)) e;
  count = omega arith;
  room = s.room;
}

pub to-append : (n : Node) (xs ys : List Msg) → followed (to n xs) (to n ys) ≡ to n (xs ++ ys)
unfolding followed
to-append n xs ys = λ i dst. (both (node_eq dst n)) i
  where
    both : (b : Bool) → (if b then xs else []) ++ (if b then ys else []) ≡ (if b then xs ++ ys else [])
    both true = refl
    both false = refl

pub to-none : (n : Node) → to n [] ≡ (λ dst. [])
to-none n = λ i dst. (same_either (node_eq dst n) []) i

-- a message to every directory
members_all : (bits n d : ℕ) (m : Msg) → has bits d ≡ nat_lt d n
    → (if nat_lt d n then to_members bits m d else []) ≡ (if nat_lt d n then m ∷ [] else [])
unfolding to_members
members_all bits n d m e = rw e (twice (nat_lt d n))
  where
    twice : (b : Bool) → (if b then when b (m ∷ []) else []) ≡ (if b then m ∷ [] else [])
    twice true = refl
    twice false = refl

pub skips_all : (sh : Shape) (bits t : ℕ) → has bits ≡ (λ d. nat_lt d sh.dirs) → to_first sh.dirs (to_members bits (Skip t)) ≡ skip_all sh t
unfolding to_first skip_all
skips_all sh bits t e = λ i dst. (each dst) i
  where
    each : (dst : Node) → to_first sh.dirs (to_members bits (Skip t)) dst ≡ skip_all sh t dst
    each (Dir d) = members_all bits sh.dirs d (Skip t) (ap (λ (p : ℕ → Bool). p d) e)
    each (Core c) = refl
    each Vendor = refl

pub probes_all : (sh : Shape) (bits t : ℕ) → has bits ≡ (λ d. nat_lt d sh.dirs)
    → to_first sh.dirs (to_members bits (Probe t)) ≡ probe_all sh t
unfolding to_first probe_all
probes_all sh bits t e = λ i dst. (each dst) i
  where
    each : (dst : Node) → to_first sh.dirs (to_members bits (Probe t)) dst ≡ probe_all sh t dst
    each (Dir d) = members_all bits sh.dirs d (Probe t) (ap (λ (p : ℕ → Bool). p d) e)
    each (Core c) = refl
    each Vendor = refl

-- marks, as they stand in a list
pub marks_are : (sh : Shape) (c : Cache) (t d : ℕ) → map (mark_at t) (marks_by_home sh c d) ≡ marks_for sh c t d
unfolding marks_by_home marks_for mark_at
marks_are sh c t d = go (written_lines sh c d)
  where
    go : (ls : List ℕ) → map (λ (m : ℕ × ℕ). Mark m.0 m.1 t) (map (λ (l : ℕ). (l, modified_mask c l)) ls) ≡ flat_map
        (λ l. Mark l (modified_mask c l) t ∷ []) ls
    go [] = refl
    go (l ∷ ls) = ap (λ ms. Mark l (modified_mask c l) t ∷ ms) (go ls)

pub member_in : (bits : ℕ) (m : Msg) (d : ℕ) → has bits d ≡ true → to_members bits m d ≡ m ∷ []
unfolding to_members
member_in bits m d e = rw e refl

pub member_out : (bits : ℕ) (m : Msg) (d : ℕ) → has bits d ≡ false → to_members bits m d ≡ []
unfolding to_members
member_out bits m d e = rw e refl

pub sent_push : (old mid new : Outgoing) (a : Sends) (n : ℕ) (d : NodeId) (m : CodeMsg)
    → Sent old mid a n → new.list.items ≡ mid.list.items ++ (d, m) ∷ [] → vec_capacity new.list ≡ vec_capacity mid.list
    → Sent old new (followed a (to (node_of d) (msg_of m ∷ []))) (n + 1)
sent_push old mid new a n d m s i r = sent_both old mid new a (to (node_of d) (msg_of m ∷ [])) n 1 s (sent_one mid new d m i r)

pub sent_nothing : (out : Outgoing) → Sent out out (λ dst. []) 0
sent_nothing out = record { messages = sym (followed-nothing (sends_of out.list.items)); count = omega arith; room = refl }
