-- A message is taken off its link: the marks of the others stay right.
use Rattle.std.proofs.Common.{◌≡◌, ℕ, zero, suc, Bool, true, false, ◌&&◌, [], ◌∷◌, Some, None, refl, ◌∙◌, subst}
use Rattle.std.proofs.Common.{arith}
use Rattle.std.specs.Prelude.{slice_index_or, slice_set, ◌==◌, if◌then◌else◌}
use Rattle.std.proofs.lemmas.Bool.Decides.{nat_tests}
use Rattle.tcc_base.specs.Settings.{Settings}
use Rattle.rules_maps.specs.Nodes.{Node, Msg, node_eq}
use Rattle.rules_tcc.specs.Links.{in_flight, taking}
use Rattle.rules_tcc.specs.State.{DirState, Link}
use Rattle.machine_links.specs.Flights.{Flights, net_of, is_ready, with_mark}
use Rattle.machine_links.proofs.Lemmas.{with_mark-other}
use Rattle.net_core.specs.Delivery.{AreMarked}

-- another message that is still there
pub record Still (net : Node → Node → Link) (src dst : Node) (k : ℕ) (s d : Node) (j : ℕ) (x : Msg) : Type 0 where
  pub flies : in_flight net s d j ≡ Some x
  pub apart : (node_eq s src && (node_eq d dst && j == k)) ≡ false

pub record Other (l : Link) (k j : ℕ) (x : Msg) : Type 0 where
  pub flies : slice_index_or l j None ≡ Some x
  pub apart : (j == k) ≡ false

unset : (l : Link) (k j : ℕ) (x : Msg) → slice_index_or (slice_set l k None) j None ≡ Some x → Other l k j x
unset [] k j x e = absurd (cc)
unset (y ∷ l) zero zero x e = absurd (cc)
unset (y ∷ l) zero (suc j) x e = record { flies = e; apart = grind (arith, nat_tests) }
unset (y ∷ l) (suc k) zero x e = record { flies = e; apart = grind (arith, nat_tests) }
unset (y ∷ l) (suc k) (suc j) x e = let o = unset l k j x e in
    record { flies = o.flies; apart = let a = o.apart in grind (arith, nat_tests) }

pub still-flies : (net : Node → Node → Link) (src dst : Node) (k : ℕ) (s d : Node) (j : ℕ) (x : Msg)
    → in_flight (taking net src dst k) s d j ≡ Some x → Still net src dst k s d j x
still-flies net src dst k s d j x e = go (node_eq s src) refl (node_eq d dst) refl e
  where
    go : (a : Bool) → node_eq s src ≡ a → (b : Bool) → node_eq d dst ≡ b
        → slice_index_or (if a && b then slice_set (net s d) k None else net s d) j None ≡ Some x → Still net src dst k s d j x
    go true p true q e = let o = unset (net s d) k j x e in record { flies = o.flies; apart = rw (p, q) o.apart }
    go true p false q e = record { flies = e; apart = rw (p, q) refl }
    go false p b q e = record { flies = e; apart = rw p refl }

pub marks-taken : (s : Settings) (dirs : ℕ → DirState) (f g : Flights) (src dst : Node) (k : ℕ) → net_of g ≡ taking (net_of f) src dst k
    → is_ready g ≡ with_mark (is_ready f) src dst k false → AreMarked s dirs f → AreMarked s dirs g
unfolding AreMarked
marks-taken s dirs f g src dst k net ready marked t e j x flies =
    let o = still-flies (net_of f) src dst k t e j x (subst (λ n. in_flight n t e j ≡ Some x) net flies) in
    (λ i. ready i t e j) ∙ with_mark-other (is_ready f) src dst k false t e j o.apart ∙ marked t e j x o.flies
