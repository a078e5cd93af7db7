-- One pair of nodes more is joined.
use Rattle.std.proofs.Common.{◌≡◌, ◌≢◌, ℕ, zero, suc, ◌+◌, ◌-◌, ◌<◌, ◌≤◌, Bool, true, false, cond, List, [], ◌∷◌, ◌++◌, length, Some, refl}
use Rattle.std.proofs.Common.{ap, sym, ◌∙◌, subst, arith, inl, inr}
use Rattle.std.specs.Prelude.{slice_get, slice_set, nat_lt, ◌==◌, replicate, ◌⊎◌}
use Rattle.std.proofs.lemmas.Bool.{cases_eq}
use Rattle.std.proofs.lemmas.Bool.Decides.{nat_tests}
use Rattle.std.proofs.lemmas.List.{length-append, length-replicate}
use Rattle.std.proofs.lemmas.Option.{slice_get_within}
use Rattle.tcc_base.specs.Settings.{Settings}
use Rattle.base_lemmas.proofs.Lemmas.{get-set, get-set_other, length-set}
use Rattle.rules_apart.specs.Fitting.{node_count}
use Rattle.apart_node.specs.Ports.{PortData, IsPortAt, IsUnused}
use Rattle.node_locks.specs.Joining.{AreJoined, AreJoinedTo, ports_due}
use Rattle.node_locks.specs.Places.{nth_node}

-- an element of a list with one more is an old one or that one
last-or : (ps : List PortData) (p x : PortData) (j : ℕ) → slice_get (ps ++ p ∷ []) j ≡ Some x
    → (slice_get ps j ≡ Some x) ⊎ ((j ≡ length ps) × (p ≡ x))
last-or [] p x zero e = inr (refl, cc)
last-or [] p x (suc j) e = absurd (cc)
last-or (q ∷ ps) p x zero e = inl e
last-or (q ∷ ps) p x (suc j) e = elim (last-or ps p x j e) [
  | inl h ↦ inl h
  | inr h ↦ inr (ap suc h.0, h.1)
]

-- what stands at a place: what stood there, or the two that have one port more
data Place (rooms : List (List PortData)) (c o : ℕ) (row col : List PortData) (p q : PortData) (i : ℕ) (ps : List PortData) : Type 0 where
  core : i ≡ c → ps ≡ row ++ p ∷ [] → Place rooms c o row col p q i ps
  other : i ≡ o → ps ≡ col ++ q ∷ [] → Place rooms c o row col p q i ps
  same : i ≢ c → i ≢ o → slice_get rooms i ≡ Some ps → Place rooms c o row col p q i ps

some-is : (a b : List PortData) → Some a ≡ Some b → b ≡ a
some-is a b e = cc

place-of : (rooms : List (List PortData)) (c o : ℕ) (row col : List PortData) (p q : PortData) (i : ℕ) (ps : List PortData)
    → c < length rooms → o < length rooms → c ≢ o
    → slice_get (slice_set (slice_set rooms c (row ++ p ∷ [])) o (col ++ q ∷ [])) i ≡ Some ps → Place rooms c o row col p q i ps
place-of rooms c o row col p q i ps hc ho n e =
    let once = slice_set rooms c (row ++ p ∷ []) in
    let within : o < length once = rw (length-set rooms c (row ++ p ∷ [])) ho in
    elim (cases_eq i o) [
      | inl is ↦ other is (some-is (col ++ q ∷ []) ps (sym (get-set once o (col ++ q ∷ []) within) ∙ rw is at e))
      | inr not_o ↦ elim (cases_eq i c) [
        | inl is ↦ core is (some-is (row ++ p ∷ []) ps (sym (get-set rooms c (row ++ p ∷ []) hc)
            ∙ subst (λ k. slice_get once k ≡ Some ps) is (sym (get-set_other once o i (col ++ q ∷ []) not_o) ∙ e)))
        | inr nc ↦ same nc not_o (sym (get-set_other rooms c i (row ++ p ∷ []) nc)
            ∙ (sym (get-set_other once o i (col ++ q ∷ []) not_o) ∙ e))
      ]
    ]

module _ (s : Settings) (c k : ℕ) (rooms : List (List PortData)) (row col : List PortData) (p q : PortData) (core_in : c < s.cores)
    (other_in : k ≤ s.dirs)
    (so_far : AreJoinedTo s c k rooms) (got_row : slice_get rooms c ≡ Some row) (got_col : slice_get rooms (s.cores + k) ≡ Some col) where
  place-at : (i : ℕ) (ps : List PortData)
      → slice_get (slice_set (slice_set rooms c (row ++ p ∷ [])) (s.cores + k) (col ++ q ∷ [])) i ≡ Some ps
      → Place rooms c (s.cores + k) row col p q i ps
  place-at i ps e =
      place-of rooms c (s.cores + k) row col p q i ps (omega (arith, so_far.count, core_in)) (omega (arith, so_far.count, other_in))
      (λ h. omega (arith, h, core_in)) e

  row-length : length row ≡ k
  row-length =
      let core : nat_lt c s.cores ≡ true = grind (arith, nat_tests) in
      let not_past : nat_lt c c ≡ false = grind (arith, nat_tests) in
      let own : (c == c) ≡ true = grind (arith, nat_tests) in
      so_far.due c row got_row ∙ rw (core, not_past, own) refl

  col-length : length col ≡ c
  col-length =
      let past : nat_lt (s.cores + k) s.cores ≡ false = grind (arith, nat_tests) in
      let not_yet : nat_lt (s.cores + k - s.cores) k ≡ false = grind (arith, nat_tests) in
      so_far.due (s.cores + k) col got_col ∙ rw (past, not_yet) refl

  due-core : ports_due s c (k + 1) c ≡ k + 1
  due-core =
      let core : nat_lt c s.cores ≡ true = grind (arith, nat_tests) in
      let not_past : nat_lt c c ≡ false = grind (arith, nat_tests) in
      let own : (c == c) ≡ true = grind (arith, nat_tests) in
      rw (core, not_past, own) refl

  due-other : ports_due s c (k + 1) (s.cores + k) ≡ c + 1
  due-other =
      let past : nat_lt (s.cores + k) s.cores ≡ false = grind (arith, nat_tests) in
      let now : nat_lt (s.cores + k - s.cores) (k + 1) ≡ true = grind (arith, nat_tests) in
      rw (past, now) refl

  due-same : (i : ℕ) → i ≢ c → i ≢ s.cores + k → ports_due s c (k + 1) i ≡ ports_due s c k i
  due-same i nc not_o = go (nat_lt i s.cores) refl
    where
      go : (b : Bool) → nat_lt i s.cores ≡ b → ports_due s c (k + 1) i ≡ ports_due s c k i
      go true e =
          let own : (i == c) ≡ false = grind (arith, nat_tests, nc) in
          rw (e, own) refl
      go false e =
          let here : nat_lt (i - s.cores) (k + 1) ≡ nat_lt (i - s.cores) k = grind (arith, nat_tests, not_o) in
          rw (e, here) refl

  pub join-one : IsPortAt s (nth_node s c) k p → IsUnused p → IsPortAt s (nth_node s (s.cores + k)) c q → IsUnused q → AreJoined p q
      → AreJoinedTo s c (k + 1) (slice_set (slice_set rooms c (row ++ p ∷ [])) (s.cores + k) (col ++ q ∷ []))
  join-one p_at p_new q_at q_new join = record {
    count = length-set (slice_set rooms c (row ++ p ∷ [])) (s.cores + k) (col ++ q ∷ []) ∙ length-set rooms c (row ++ p ∷ [])
        ∙ so_far.count;
    due = λ i ps e. due i ps (place-at i ps e);
    at = λ i j ps x e f. at i j ps x (place-at i ps e) f;
    unused = λ i j ps x e f. unused i j ps x (place-at i ps e) f;
    joined = λ i j ps qs x y h e f g l. joined i j ps qs x y h (place-at i ps e) (place-at (s.cores + j) qs f) g l;
  }
    where
      due : (i : ℕ) (ps : List PortData) → Place rooms c (s.cores + k) row col p q i ps → length ps ≡ ports_due s c (k + 1) i
      due i ps (core is e) = ap length e ∙ length-append row (p ∷ []) ∙ ap (λ n. n + 1) row-length
          ∙ sym (ap (ports_due s c (k + 1)) is ∙ due-core)
      due i ps (other is e) = ap length e ∙ length-append col (q ∷ []) ∙ ap (λ n. n + 1) col-length
          ∙ sym (ap (ports_due s c (k + 1)) is ∙ due-other)
      due i ps (same nc not_o e) = so_far.due i ps e ∙ sym (due-same i nc not_o)

      at : (i j : ℕ) (ps : List PortData) (x : PortData) → Place rooms c (s.cores + k) row col p q i ps → slice_get ps j ≡ Some x
          → IsPortAt s (nth_node s i) j x
      at i j ps x (core is e) f = rw is (elim (last-or row p x j (rw e at f)) [
        | inl h ↦ so_far.at c j row x got_row h
        | inr h ↦ subst (λ n. IsPortAt s (nth_node s c) n x) (sym (h.0 ∙ row-length)) (subst (λ z. IsPortAt s (nth_node s c) k z) h.1 p_at)
      ])
      at i j ps x (other is e) f = rw is (elim (last-or col q x j (rw e at f)) [
        | inl h ↦ so_far.at (s.cores + k) j col x got_col h
        | inr h ↦ subst (λ n. IsPortAt s (nth_node s (s.cores + k)) n x) (sym (h.0 ∙ col-length))
            (subst (λ z. IsPortAt s (nth_node s (s.cores + k)) c z) h.1 q_at)
      ])
      at i j ps x (same nc not_o e) f = so_far.at i j ps x e f

      unused : (i j : ℕ) (ps : List PortData) (x : PortData) → Place rooms c (s.cores + k) row col p q i ps → slice_get ps j ≡ Some x
          → IsUnused x
      unused i j ps x (core is e) f = elim (last-or row p x j (rw e at f)) [
        | inl h ↦ so_far.unused c j row x got_row h
        | inr h ↦ subst IsUnused h.1 p_new
      ]
      unused i j ps x (other is e) f = elim (last-or col q x j (rw e at f)) [
        | inl h ↦ so_far.unused (s.cores + k) j col x got_col h
        | inr h ↦ subst IsUnused h.1 q_new
      ]
      unused i j ps x (same nc not_o e) f = so_far.unused i j ps x e f

      joined : (i j : ℕ) (ps qs : List PortData) (x y : PortData) → i < s.cores → Place rooms c (s.cores + k) row col p q i ps
          → Place rooms c (s.cores + k) row col p q (s.cores + j) qs → slice_get ps j ≡ Some x → slice_get qs i ≡ Some y → AreJoined x y
      joined i j ps qs x y h (other is e) b f g = absurd (omega (arith, h, is))
      joined i j ps qs x y h (core is e) (core there d) f g = absurd (omega (arith, core_in, there))
      joined i j ps qs x y h (core is e) (other there d) f g =
          let two : j ≡ k = omega (arith, there) in
          elim (last-or row p x j (rw e at f)) [
            | inl old ↦ absurd (omega (arith, slice_get_within row j x old, row-length, two))
            | inr new ↦ elim (last-or col q y i (rw d at g)) [
              | inl old ↦ absurd (omega (arith, slice_get_within col i y old, col-length, is))
              | inr last ↦ subst (λ z. AreJoined z y) new.1 (subst (λ z. AreJoined p z) last.1 join)
            ]
          ]
      joined i j ps qs x y h (core is e) (same nc not_o d) f g = elim (last-or row p x j (rw e at f)) [
        | inl old ↦ so_far.joined c j row qs x y core_in got_row d old (rw is at g)
        | inr new ↦ absurd (not_o (ap (λ n. s.cores + n) (new.0 ∙ row-length)))
      ]
      joined i j ps qs x y h (same nc not_o d) (core there e) f g = absurd (omega (arith, core_in, there))
      joined i j ps qs x y h (same nc not_o d) (other there e) f g = elim (last-or col q y i (rw e at g)) [
        | inl old ↦ so_far.joined i j ps col x y h d (rw there got_col) f old
        | inr last ↦ absurd (nc (last.0 ∙ col-length))
      ]
      joined i j ps qs x y h (same nc not_o d) (same mc mo e) f g = so_far.joined i j ps qs x y h d e f g

get-none : (n i : ℕ) (ps : List PortData) → slice_get (replicate n []) i ≡ Some ps → ps ≡ []
get-none zero i ps e = absurd (cc)
get-none (suc n) zero ps e = some-is [] ps e
get-none (suc n) (suc i) ps e = get-none n i ps e

nothing-in : (ps : List PortData) (j : ℕ) (x : PortData) → ps ≡ [] → slice_get ps j ≡ Some x → ⊥
nothing-in [] j x h e = cc
nothing-in (p ∷ ps) j x h e = cc

-- before the first pair no node has a port
pub none-joined : (s : Settings) → AreJoinedTo s 0 0 (replicate (node_count s) [])
none-joined s = record {
  count = length-replicate (node_count s) [];
  due = λ i ps e. ap length (get-none (node_count s) i ps e) ∙ none-due i;
  at = λ i j ps p e f. absurd (nothing-in ps j p (get-none (node_count s) i ps e) f);
  unused = λ i j ps p e f. absurd (nothing-in ps j p (get-none (node_count s) i ps e) f);
  joined = λ i j ps qs p q h e g f l. absurd (nothing-in ps j p (get-none (node_count s) i ps e) f);
}
  where
    none-due : (i : ℕ) → 0 ≡ ports_due s 0 0 i
    none-due i =
        let first : nat_lt i 0 ≡ false = grind (arith, nat_tests) in
        let behind : nat_lt (i - s.cores) 0 ≡ false = grind (arith, nat_tests) in
        rw (first, behind) (go (nat_lt i s.cores) (i == 0))
      where
        go : (b d : Bool) → ◌≡◌ {A = ℕ} 0 (cond b (cond d 0 0) 0)
        go true true = refl
        go true false = refl
        go false d = refl

-- the ports of one core more are made
pub next-core : (s : Settings) (c : ℕ) (rooms : List (List PortData)) → c < s.cores → AreJoinedTo s c (s.dirs + 1) rooms
    → AreJoinedTo s (c + 1) 0 rooms
next-core s c rooms h a = record {
  count = a.count;
  due = λ i ps e. a.due i ps e ∙ same i (subst (λ n. i < n) a.count (slice_get_within rooms i ps e));
  at = a.at;
  unused = a.unused;
  joined = a.joined;
}
  where
    zeros : (d : Bool) → ◌≡◌ {A = ℕ} 0 (cond d 0 0)
    zeros true = refl
    zeros false = refl

    of-core : (i : ℕ) (b : Bool) → nat_lt i c ≡ b → (d : Bool) → (i == c) ≡ d
        → ◌≡◌ {A = ℕ} (cond b (s.dirs + 1) (cond d (s.dirs + 1) 0)) (cond (nat_lt i (c + 1)) (s.dirs + 1) (cond (i == c + 1) 0 0))
    of-core i true e d f =
        let now : nat_lt i (c + 1) ≡ true = grind (arith, nat_tests) in
        rw now refl
    of-core i false e true f =
        let now : nat_lt i (c + 1) ≡ true = grind (arith, nat_tests) in
        rw now refl
    of-core i false e false f =
        let later : nat_lt i (c + 1) ≡ false = grind (arith, nat_tests) in
        rw later (zeros (i == c + 1))

    same : (i : ℕ) → i < node_count s → ports_due s c (s.dirs + 1) i ≡ ports_due s (c + 1) 0 i
    same i l = go (nat_lt i s.cores) refl
      where
        go : (b : Bool) → nat_lt i s.cores ≡ b → ports_due s c (s.dirs + 1) i ≡ ports_due s (c + 1) 0 i
        go true e = rw e (of-core i (nat_lt i c) refl (i == c) refl)
        go false e =
            let all : nat_lt (i - s.cores) (s.dirs + 1) ≡ true = grind (arith, nat_tests) in
            let none : nat_lt (i - s.cores) 0 ≡ false = grind (arith, nat_tests) in
            rw (e, all, none) refl
