-- The logs of a machine's nodes, made one after another in the order of nodes.
use Rattle.std.proofs.Common.{◌≡◌, ℕ, suc, ◌+◌, ◌<◌, true, List, [], ◌∷◌, ◌++◌, length, get_or, map}
use Rattle.std.proofs.Common.{inl, inr, refl, ap, subst, sym, ◌∙◌, arith}
use Rattle.std.specs.List.{All}
use Rattle.std.proofs.Math.Seq.{get_or-append_seam}
use Rattle.std.proofs.lemmas.Bool.{cases_eq}
use Rattle.std.proofs.lemmas.Bool.Decides.{nat_tests}
use Rattle.std.proofs.lemmas.List.{get_or_append_left, length-append}
use Rattle.std.proofs.lemmas.List.Elements.{All-cons}
use Rattle.tcc_base.specs.Settings.{Settings}
use Rattle.rules_maps.specs.Nodes.{Node, Core, Dir, Vendor}
use Rattle.tcc_msg.specs.Plain.{event_of}
use Rattle.rules_tcc.specs.Local.{at_node}
use Rattle.rules_tcc.specs.Merged.{Rises}
use Rattle.rules_tcc.specs.Step.{is_node}
use Rattle.rules_apart.specs.Filled.{bare}
use Rattle.rules_apart.specs.Fitting.{place, node_count, log_of}
use Rattle.rules_apart.specs.declared.logs.Logged.{Logged}
use Rattle.stamp_merge.specs.Merging.{AreLogs}

-- a log of this node: events of its own, by rising stamps
record IsLogOf (n : Node) (log : List Logged) : Type 0 where
  own : All (λ e. at_node (event_of e.event) ≡ n) log
  rises : Rises (map bare log)

empty-log : (n : Node) → IsLogOf n []
empty-log n = record { own = λ k d q. absurd (omega arith); rises = tt }

log-of_one : (n : Node) (e : Logged) → at_node (event_of e.event) ≡ n → IsLogOf n (e ∷ [])
log-of_one n e h = record { own = All-cons (λ e. at_node (event_of e.event) ≡ n) e [] h (λ k d q. absurd (omega arith)); rises = (tt, tt) }

module _ (s : Settings) where
  core-at : (k : ℕ) (n : Node) → place s n ≡ k → k < s.cores → n ≡ Core k
  core-at k (Core c) e q = ap Core e
  core-at k (Dir d) e q = absurd (omega arith)
  core-at k Vendor e q = absurd (omega arith)

  vendor-at : (n : Node) → is_node s n ≡ true → place s n ≡ s.cores + s.dirs → n ≡ Vendor
  vendor-at (Core c) h e = absurd (let q : c < s.cores = grind (arith, nat_tests) in omega arith)
  vendor-at (Dir d) h e = absurd (let q : d < s.dirs = grind (arith, nat_tests) in omega arith)
  vendor-at Vendor h e = refl

  place-below : (n : Node) → is_node s n ≡ true → place s n < node_count s
  place-below (Core c) h = grind (arith, nat_tests)
  place-below (Dir d) h = grind (arith, nat_tests)
  place-below Vendor h = omega arith

  -- the logs of the first nodes, as many as that
  pub record AreFirst (count : ℕ) (logs : List (List Logged)) : Type 0 where
    counted : length logs ≡ count
    each : (n : Node) → is_node s n ≡ true → place s n < count → IsLogOf n (log_of s logs n)

  pub first-none : AreFirst 0 []
  first-none = record { counted = refl; each = λ n h q. absurd (omega arith) }

  pub first-all : (logs : List (List Logged)) → AreFirst (node_count s) logs → AreLogs s logs
  first-all logs a = record {
    count = a.counted;
    own = λ n h. (a.each n h (place-below n h)).own;
    rises = λ n h. (a.each n h (place-below n h)).rises;
  }

  -- one log more
  module _ (k : ℕ) (old new : List (List Logged)) (log : List Logged) (a : AreFirst k old) (pushed : new ≡ old ++ log ∷ []) where
    next-log : ((n : Node) → place s n ≡ k → is_node s n ≡ true → IsLogOf n log) →
        (n : Node) → is_node s n ≡ true → place s n < suc k → IsLogOf n (log_of s (old ++ log ∷ []) n)
    unfolding log_of
    next-log f n h q = elim (cases_eq (place s n) k) [
      | inl e ↦
          let last = ap (λ j. get_or (old ++ log ∷ []) j []) (e ∙ sym a.counted) ∙ get_or-append_seam old log [] [] in
          subst (IsLogOf n) (sym last) (f n e h)
      | inr d ↦
          let c = a.counted in
          let l : place s n < k = omega arith in
          subst (IsLogOf n) (sym (get_or_append_left old (log ∷ []) [] (place s n) (omega arith))) (a.each n h l)
    ]

    next : ((n : Node) → place s n ≡ k → is_node s n ≡ true → IsLogOf n log) → AreFirst (suc k) new
    next f =
        subst (AreFirst (suc k)) (sym pushed)
        (record { counted = (let c = a.counted in let l = length-append old (log ∷ []) in omega arith); each = next-log f })

    pub first-empty : log ≡ [] → AreFirst (suc k) new
    first-empty e = next (λ n p h. subst (IsLogOf n) (sym e) (empty-log n))

    module _ (e : Logged) (is : log ≡ e ∷ []) where
      pub first-core : at_node (event_of e.event) ≡ Core k → k < s.cores → AreFirst (suc k) new
      first-core o q = next (λ n p h. subst (IsLogOf n) (sym is) (log-of_one n e (o ∙ sym (core-at k n p q))))

      pub first-vendor : at_node (event_of e.event) ≡ Vendor → k ≡ s.cores + s.dirs → AreFirst (suc k) new
      first-vendor o q = next (λ n p h. subst (IsLogOf n) (sym is) (log-of_one n e (o ∙ sym (vendor-at n h (p ∙ q)))))
