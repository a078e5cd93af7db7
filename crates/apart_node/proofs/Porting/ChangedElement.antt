-- A list with one element changed, place by place.
use Rattle.std.proofs.Common.{◌≡◌, ℕ, suc, ◌<◌, List, [], ◌∷◌, length, Option, Some, None, refl, ap, ◌∙◌}
use Rattle.std.specs.Prelude.{slice_get, slice_set}
use Rattle.std.proofs.lemmas.Bool.{cases_eq}
use Rattle.std.proofs.Common.{inl, inr}
use Rattle.tcc_base.specs.Settings.{Settings}
use Rattle.base_lemmas.proofs.Lemmas.{get-set, get-set_other}
use Rattle.rules_maps.specs.Nodes.{Node}
use Rattle.apart_node.specs.Moves.{AtEach, Both, SameLinks}
use Rattle.apart_node.specs.Ports.{ArePorts, IsPortAt, PortData}
use Rattle.apart_node.proofs.Porting.SeveralMoves.{both-refl, both-then, both-weaker}

pub each-set : (P : PortData → PortData → Type 0) (ps : List PortData) (i : ℕ) (p q : PortData) → slice_get ps i ≡ Some p → P p q
    → ((r : PortData) → P r r) → i < length ps → AtEach P ps (slice_set ps i q)
each-set P ps i p q e h r l = λ k. elim (cases_eq k i) [
  | inl s ↦ rw (s, e, get-set ps i q l) h
  | inr n ↦ rw (get-set_other ps i k q n) (both-refl P (slice_get ps k) r)
]

pub each-then : (P : PortData → PortData → Type 0) (a b c : List PortData) → ((p q r : PortData) → P p q → P q r → P p r) → AtEach P a b
    → AtEach P b c → AtEach P a c
each-then P a b c t h g = λ k. both-then P P P (slice_get a k) (slice_get b k) (slice_get c k) t (h k) (g k)

pub each-length : (P : PortData → PortData → Type 0) (a b : List PortData) → AtEach P a b → length b ≡ length a
each-length P [] [] h = refl
each-length P [] (q ∷ b) h = absurd (h 0)
each-length P (p ∷ a) [] h = absurd (h 0)
each-length P (p ∷ a) (q ∷ b) h = ap suc (each-length P a b (λ k. h (suc k)))

pub each-weaker : (P Q : PortData → PortData → Type 0) (a b : List PortData) → ((p q : PortData) → P p q → Q p q) → AtEach P a b
    → AtEach Q a b
each-weaker P Q a b w h = λ k. both-weaker P Q (slice_get a k) (slice_get b k) w (h k)

at-links : (s : Settings) (own : Node) (k : ℕ) (p q : PortData) → SameLinks p q → IsPortAt s own k p → IsPortAt s own k q
at-links s own k p q l h = record {
  place = rw l.out_ends h.place;
  mirrored = rw (l.in_ends, l.out_ends) h.mirrored;
  out_settings = rw l.out_ends h.out_settings;
  in_settings = rw l.in_ends h.in_settings;
  out_own = rw l.out_ends h.out_own;
  in_own = rw l.in_ends h.in_own;
}

-- over the same links they are the ports of the same node
pub ports-keep : (s : Settings) (own : Node) (a b : List PortData) → AtEach SameLinks a b → ArePorts s own a → ArePorts s own b
ports-keep s own a b l h = record {
  count = each-length SameLinks a b l ∙ h.count;
  each = λ k q e. at k q (slice_get a k) refl (rw e at (l k));
}
  where
    at : (k : ℕ) (q : PortData) (o : Option PortData) → slice_get a k ≡ o → Both SameLinks (slice_get a k) (Some q) → IsPortAt s own k q
    at k q None e x = absurd (rw e at x)
    at k q (Some p) e x = at-links s own k p q (rw e at x) (h.each k p e)
