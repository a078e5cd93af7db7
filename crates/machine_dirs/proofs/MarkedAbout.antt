-- The messages to one directory that are listed together looked at again, one after another.
use Rattle.std.proofs.Common.{◌≡◌, ◌⊎◌, ℕ, zero, suc, ◌<◌, Bool, false, ◌&&◌, List, [], ◌∷◌, length, Some}
use Rattle.std.proofs.Common.{sym, ◌∙◌, arith, inl, inr}
use Rattle.std.specs.Prelude.{◌==◌, slice_get}
use Rattle.std.proofs.lemmas.Bool.{cases_eq, ne_eqb}
use Rattle.std.proofs.lemmas.Bool.Decides.{nat_tests}
use Rattle.rules_maps.specs.Nodes.{Node, Msg, Core, Dir, node_eq}
use Rattle.rules_tcc.specs.DirDeliver.{dir_deliver}
use Rattle.rules_tcc.specs.Links.{in_flight}
use Rattle.directory.specs.Data.{DirData, dir_of}
use Rattle.directory.specs.Gives.{is_taken}
use Rattle.machine_links.specs.declared.subject.Entry.{Entry}
use Rattle.machine_links.specs.Flights.{Flights, net_of, is_ready, with_mark}
use Rattle.machine_links.specs.Subject.{IsListed, Subject, bucket, entry, key}
use Rattle.machine_links.proofs.Lemmas.{with_mark-own, with_mark-other}

-- what the mark is to be
abbrev pub IsRight : DirData → (ℕ → ℕ) → (c d k : ℕ) → Msg → Flights → Type 0
IsRight x e c d k m f = is_ready f (Core c) (Dir d) k ≡ is_taken (dir_deliver x.lines.place.shape (dir_of e x) c m)

-- the first n of those listed have the mark that they are to have, each other to the directory has it too or keeps its own, and messages
-- to others keep theirs
pub record MarkedAbout (x : DirData) (d : ℕ) (on : Subject) (n : ℕ) (old new : Flights) : Type 0 where
  pub cores : new.cores ≡ old.cores
  pub dirs : new.dirs ≡ old.dirs
  pub index : new.index ≡ old.index
  pub net : net_of new ≡ net_of old
  pub its : (e : ℕ → ℕ) (i c k : ℕ) (m : Msg) → i < n → slice_get (bucket old.index (key on)) i ≡ Some (entry on c d k)
      → in_flight (net_of old) (Core c) (Dir d) k ≡ Some m → IsRight x e c d k m new
  pub here : (e : ℕ → ℕ) (c k : ℕ) (m : Msg) → in_flight (net_of old) (Core c) (Dir d) k ≡ Some m
      → IsRight x e c d k m new ⊎ (is_ready new (Core c) (Dir d) k ≡ is_ready old (Core c) (Dir d) k)
  pub others : (t u : Node) (k : ℕ) → node_eq u (Dir d) ≡ false → is_ready new t u k ≡ is_ready old t u k

-- one more was looked at, which is the next one listed
pub record LookedAt (x : DirData) (d : ℕ) (on : Subject) (n : ℕ) (old new : Flights) : Type 0 where
  pub cores : new.cores ≡ old.cores
  pub dirs : new.dirs ≡ old.dirs
  pub index : new.index ≡ old.index
  pub net : net_of new ≡ net_of old
  pub its : (e : ℕ → ℕ) (c k : ℕ) (m : Msg) → slice_get (bucket old.index (key on)) n ≡ Some (entry on c d k)
      → in_flight (net_of old) (Core c) (Dir d) k ≡ Some m → IsRight x e c d k m new
  pub here : (e : ℕ → ℕ) (c k : ℕ) (m : Msg) → in_flight (net_of old) (Core c) (Dir d) k ≡ Some m
      → IsRight x e c d k m new ⊎ (is_ready new (Core c) (Dir d) k ≡ is_ready old (Core c) (Dir d) k)
  pub others : (t u : Node) (k : ℕ) → node_eq u (Dir d) ≡ false → is_ready new t u k ≡ is_ready old t u k

got-within : (b : List Entry) (i : ℕ) (f : Entry) → slice_get b i ≡ Some f → i < length b
got-within [] i f q = absurd (cc)
got-within (y ∷ b) zero f q = omega arith
got-within (y ∷ b) (suc i) f q = omega (arith, got-within b i f q)

-- all that are listed were looked at
pub about-all : (x : DirData) (d : ℕ) (on : Subject) (n : ℕ) (old new : Flights) → MarkedAbout x d on n old new
    → n ≡ length (bucket old.index (key on)) → (e : ℕ → ℕ) (c k : ℕ) (m : Msg) → IsListed old.index (entry on c d k)
    → in_flight (net_of old) (Core c) (Dir d) k ≡ Some m → IsRight x e c d k m new
about-all x d on n old new w all e c k m listed fly =
    w.its e listed.at c k m
    (omega (arith, all, got-within (bucket old.index (key on)) listed.at (entry on c d k) listed.there)) listed.there fly

-- ---- one message's mark is set as the directory says

module _ (x : DirData) (d s q : ℕ) (mine : Msg) (r : Bool) (old new : Flights) (fly : in_flight (net_of old) (Core s) (Dir d) q ≡ Some mine)
    (takes : (e : ℕ → ℕ) → r ≡ is_taken (dir_deliver x.lines.place.shape (dir_of e x) s mine))
    (ready : is_ready new ≡ with_mark (is_ready old) (Core s) (Dir d) q r) where
  pub set-its : (e : ℕ → ℕ) (c k : ℕ) (m : Msg) → c ≡ s → k ≡ q → in_flight (net_of old) (Core c) (Dir d) k ≡ Some m
      → IsRight x e c d k m new
  set-its e c k m a b there =
      let both : Some mine ≡ Some m = sym fly ∙ (λ i. in_flight (net_of old) (Core (sym a i)) (Dir d) (sym b i)) ∙ there in
      let is : mine ≡ m = cc in
      (λ i. is_ready new (Core (a i)) (Dir d) (b i)) ∙ (λ i. ready i (Core s) (Dir d) q)
      ∙ with_mark-own (is_ready old) (Core s) (Dir d) q r ∙ takes e
      ∙ (λ i. is_taken (dir_deliver x.lines.place.shape (dir_of e x) (sym a i) (is i)))

  pub set-others : (t u : Node) (k : ℕ) → (node_eq t (Core s) && (node_eq u (Dir d) && k == q)) ≡ false
      → is_ready new t u k ≡ is_ready old t u k
  set-others t u k h = (λ i. ready i t u k) ∙ with_mark-other (is_ready old) (Core s) (Dir d) q r t u k h

  pub set-here : (e : ℕ → ℕ) (c k : ℕ) (m : Msg) → in_flight (net_of old) (Core c) (Dir d) k ≡ Some m
      → IsRight x e c d k m new ⊎ (is_ready new (Core c) (Dir d) k ≡ is_ready old (Core c) (Dir d) k)
  set-here e c k m there = elim (cases_eq c s) [
    | inl a ↦ elim (cases_eq k q) [
      | inl b ↦ inl (set-its e c k m a b there)
      | inr b ↦ inr (set-others (Core c) (Dir d) k (let f : (k == q) ≡ false = ne_eqb k q b in grind (arith, nat_tests)))
    ]
    | inr a ↦ inr (set-others (Core c) (Dir d) k (let f : (c == s) ≡ false = ne_eqb c s a in grind (arith, nat_tests)))
  ]

  pub set-elsewhere : (t u : Node) (k : ℕ) → node_eq u (Dir d) ≡ false → is_ready new t u k ≡ is_ready old t u k
  set-elsewhere t u k h = set-others t u k (grind (arith, nat_tests))
