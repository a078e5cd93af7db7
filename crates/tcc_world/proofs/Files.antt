-- The map of names that a search tree of texts and vectors stands for.
use Rattle.std.proofs.Common.{◌≡◌, ℕ, Bool, true, false, cond, List, [], ◌∷◌, map, refl, ap, sym, ◌∙◌}
use Rattle.std.specs.Prelude.{Option, Some, option_map}
use Rattle.std.specs.Ordering.{is_eq, nat_cmp, eq_by_cmp}
use Rattle.std.specs.Cmp.Lexicographic.{slice_cmp, nat_list_cmp_total}
use Rattle.std.specs.Cmp.{eq_by_cmp_equiv}
use Rattle.std.specs.Map.{lookup}
use Rattle.std.specs.Str.{bytes_eq}
use Rattle.std.specs.FinMap as by_name
use Rattle.std.specs.FinMap.Entries.{find}
use Rattle.std.proofs.lemmas.Map.Text.{is_eq-slice_cmp}

pub same_test : (name other : List ℕ) → bytes_eq name other ≡ eq_by_cmp (slice_cmp nat_cmp) other name
same_test name other =
    sym (is_eq-slice_cmp name other) ∙ (eq_by_cmp_equiv nat_list_cmp_total).symm name other

module _ {K V : Type 0} (name_of : K → List ℕ) (bytes_of : V → List ℕ) where
  abbrev named : K × V → List ℕ × List ℕ
  named e = (name_of e.0, bytes_of e.1)

  abbrev is_name : List ℕ → K → Bool
  is_name name k = is_eq (slice_cmp nat_cmp name (name_of k))

  find-named : (name : List ℕ) (es : List (K × V))
      → find (slice_cmp nat_cmp) name (map named es) ≡ option_map bytes_of (lookup (is_name name) es)
  find-named name [] = refl
  find-named name (e ∷ es) =
      elim (is_name name e.0) as
      (λ b. cond b (Some (bytes_of e.1)) (find (slice_cmp nat_cmp) name (map named es)) ≡ option_map bytes_of
      (cond b (Some e.1) (lookup (is_name name) es))) [
        | true ↦ refl
        | false ↦ find-named name es
      ]

  -- what the tree has at a name
  pub get-from_tree : (name : List ℕ) (es : List (K × V)) → by_name.get (by_name.from_entries {R = slice_cmp nat_cmp} (map named es)) name
      ≡ option_map bytes_of (lookup (is_name name) es)
  get-from_tree name es = by_name.get-from_entries nat_list_cmp_total (map named es) name ∙ find-named name es

  lookup_after : (b : Bool) (v : V) (rest : Option V)
      → option_map bytes_of (cond b (Some v) rest) ≡ cond b (Some (bytes_of v)) (option_map bytes_of rest)
  lookup_after true v rest = refl
  lookup_after false v rest = refl

  -- a tree that differs from another at one name stands for the map with that name set
  pub from_tree-set : (before after : List (K × V)) (name : List ℕ) (v : V)
      → ((other : List ℕ) → lookup (is_name other) after ≡ cond (bytes_eq name other) (Some v) (lookup (is_name other) before))
      → by_name.from_entries {R = slice_cmp nat_cmp} (map named after) ≡ by_name.insert (by_name.from_entries (map named before)) name
      (bytes_of v)
  from_tree-set before after name v updates =
      by_name.same_map nat_list_cmp_total (by_name.slice_cmp-IsAntisymmetric by_name.nat_cmp-IsAntisymmetric) _ _ (λ other.
      get-from_tree other after
      ∙ ap (option_map bytes_of) (updates other)
      ∙ lookup_after (bytes_eq name other) v (lookup (is_name other) before)
      ∙ ap (λ rest. cond (bytes_eq name other) (Some (bytes_of v)) rest) (sym (get-from_tree other before))
      ∙ ap (λ b. cond b (Some (bytes_of v)) (by_name.get (by_name.from_entries {R = slice_cmp nat_cmp} (map named before)) other))
      (same_test name other)
      ∙ sym (by_name.get-insert nat_list_cmp_total (by_name.from_entries (map named before)) name (bytes_of v) other))
