-- What is in flight to a directory stays listed: nothing was sent, one message more is sent, and one is taken.
use Rattle.std.proofs.Common.{◌≡◌, ◌≢◌, ℕ, zero, suc, Bool, true, false, ◌&&◌, if◌then◌else◌, [], ◌∷◌, ◌++◌, length, get_or, set}
use Rattle.std.proofs.Common.{Option, Some, None, refl, ap, sym, subst, append-nil, ◌∙◌, arith}
use Rattle.std.proofs.lemmas.Bool.{false≢true}
use Rattle.tcc_base.specs.declared.names.NodeId.{NodeId}
use Rattle.base_lemmas.proofs.Lemmas.{node_eq-refl}
use Rattle.rules_maps.specs.Bridge.{node_of}
use Rattle.rules_maps.specs.Nodes.{Node, Core, Dir, Vendor, Msg, node_eq}
use Rattle.tcc_msg.specs.Plain.{msg_of, sends_of}
use Rattle.tcc_msg.specs.declared.msg.Msg.{Msg as CodeMsg}
use Rattle.rules_tcc.specs.Links.{in_flight, sending, sent_all, taking}
use Rattle.rules_tcc.specs.State.{Link}
use Rattle.rules_tcc.proofs.Lemmas.{node_eq-eq}
use Rattle.machine_links.specs.declared.subject.Entry.{Entry}
use Rattle.machine_links.specs.Flights.{AllListed}
use Rattle.machine_links.specs.Subject.{Index, IsListed, Subject, about, entry, entry_of, listed_as}

-- nothing was sent
pub none-listed : (net : Node → Node → Link) (x : Index) → net ≡ (λ s d. []) → AllListed net x
unfolding AllListed
none-listed net x none c d k m e fly q =
    let nothing : None ≡ Some m = sym (ap (λ n. in_flight n (Core c) (Dir d) k) none) ∙ fly in absurd (cc)

-- ---- one message more

-- what is in flight on a link with one message more at its end was there, or is this one
behind : {A : Type 0} (l : Link) (x y : Msg) (k : ℕ) → get_or (l ++ Some x ∷ []) k None ≡ Some y → (k ≡ length l → x ≡ y → A)
    → (get_or l k None ≡ Some y → A) → A
behind [] x y zero q new old = new refl (cc)
behind [] x y (suc k) q new old = absurd (cc)
behind (z ∷ l) x y zero q new old = old q
behind (z ∷ l) x y (suc k) q new old = behind l x y k q (λ e s. new (ap suc e) s) old

pub put-listed : (net : Node → Node → Link) (x z : Index) (src dst : Node) (m : Msg)
    → ((e : Entry) → entry_of src dst (length (net src dst)) m ≡ Some e → IsListed z e) → ((e : Entry) → IsListed x e → IsListed z e)
    → AllListed net x → AllListed (sending net src (λ n. if node_eq n dst then m ∷ [] else [])) z
unfolding AllListed sent_all
put-listed net x z src dst m own others all c d k y e fly q = go (node_eq (Core c) src) refl (node_eq (Dir d) dst) refl fly
  where
    old : in_flight net (Core c) (Dir d) k ≡ Some y → IsListed z e
    old f = others e (all c d k y e f q)

    new : Core c ≡ src → Dir d ≡ dst → k ≡ length (net (Core c) (Dir d)) → m ≡ y → IsListed z e
    new s t n same = own e
        ((λ i. entry_of (sym s i) (sym t i) (length (net (sym s i) (sym t i))) m)
        ∙ (λ i. entry_of (Core c) (Dir d) (sym n i) (same i)) ∙ q)

    go : (a : Bool) → node_eq (Core c) src ≡ a → (b : Bool) → node_eq (Dir d) dst ≡ b
        → get_or (if a then net (Core c) (Dir d) ++ sent_all (if b then m ∷ [] else []) else net (Core c) (Dir d)) k None ≡ Some y
        → IsListed z e
    go false s b t f = old f
    go true s false t f = old (subst (λ l. get_or l k None ≡ Some y) (append-nil (net (Core c) (Dir d))) f)
    go true s true t f =
        behind (net (Core c) (Dir d)) m y k f (new (node_eq-eq (Core c) src s) (node_eq-eq (Dir d) dst t)) old

-- one message goes to its destination
pub sends-one : (dst : NodeId) (m : CodeMsg) → sends_of ((dst, m) ∷ []) ≡ (λ n. if node_eq n (node_of dst) then msg_of m ∷ [] else [])
unfolding sends_of
sends-one dst m = λ i n. append-nil (if node_eq n (node_of dst) then msg_of m ∷ [] else []) i

-- ---- one message less

-- an entry names its message
record Named (src dst : Node) (k : ℕ) (e : Entry) : Type 0 where
  pub src_is : src ≡ Core e.src.0
  pub dst_is : dst ≡ Dir e.dst.0
  pub seq_is : k ≡ e.seq

named : (src dst : Node) (k : ℕ) (m : Msg) (e : Entry) → entry_of src dst k m ≡ Some e → Named src dst k e
named (Core c) (Dir d) k m e q = go (about d m) q
  where
    go : (o : Option Subject) → listed_as c d k o ≡ Some e → Named (Core c) (Dir d) k e
    go None q = absurd (cc)
    go (Some a) q =
        let same : entry a c d k ≡ e = cc in
        record { src_is = ap (λ f. Core f.src.0) same; dst_is = ap (λ f. Dir f.dst.0) same; seq_is = ap (λ f. f.seq) same }
named (Core c) (Core d) k m e q = absurd (cc)
named (Core c) Vendor k m e q = absurd (cc)
named (Dir c) dst k m e q = absurd (cc)
named Vendor dst k m e q = absurd (cc)

-- another place of a link is as it was
record Other (l : Link) (k j : ℕ) (y : Msg) : Type 0 where
  pub flies : get_or l j None ≡ Some y
  pub apart : j ≢ k

unset : (l : Link) (k j : ℕ) (y : Msg) → get_or (set l k None) j None ≡ Some y → Other l k j y
unset [] k j y q = absurd (cc)
unset (z ∷ l) zero zero y q = absurd (cc)
unset (z ∷ l) zero (suc j) y q = record { flies = q; apart = λ e. absurd (omega (arith, e)) }
unset (z ∷ l) (suc k) zero y q = record { flies = q; apart = λ e. absurd (omega (arith, e)) }
unset (z ∷ l) (suc k) (suc j) y q =
    let o = unset l k j y q in record { flies = o.flies; apart = λ e. o.apart (omega (arith, e)) }

pub taken-listed : (net : Node → Node → Link) (x y : Index) (src dst : Node) (k : ℕ) (m : Msg)
    → ((e : Entry) → entry_of src dst k m ≢ Some e → IsListed x e → IsListed y e)
    → AllListed net x → AllListed (taking net src dst k) y
unfolding AllListed
taken-listed net x y src dst k m others all c d j z e fly q = go (node_eq (Core c) src) refl (node_eq (Dir d) dst) refl fly
  where
    mine : Named (Core c) (Dir d) j e
    mine = named (Core c) (Dir d) j z e q

    stays : in_flight net (Core c) (Dir d) j ≡ Some z → (Named src dst k e → ⊥) → IsListed y e
    stays f other = others e (λ p. other (named src dst k m e p)) (all c d j z e f q)

    go : (a : Bool) → node_eq (Core c) src ≡ a → (b : Bool) → node_eq (Dir d) dst ≡ b
        → get_or (if a && b then set (net (Core c) (Dir d)) k None else net (Core c) (Dir d)) j None ≡ Some z → IsListed y e
    go true s true t f =
        let o = unset (net (Core c) (Dir d)) k j z f in stays o.flies (λ p. o.apart (mine.seq_is ∙ sym p.seq_is))
    go true s false t f =
        stays f (λ p. false≢true (sym t ∙ (λ i. node_eq (mine.dst_is i) (p.dst_is i)) ∙ node_eq-refl (Dir e.dst.0)))
    go false s b t f =
        stays f (λ p. false≢true (sym s ∙ (λ i. node_eq (mine.src_is i) (p.src_is i)) ∙ node_eq-refl (Core e.src.0)))
