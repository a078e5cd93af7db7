-- What clap found under a name, as the rows that its contract speaks of.
use Rattle.std.proofs.Common.{◌≡◌, Bool, true, false, cond, List, [], ◌∷◌, map, Option, Some, None, refl, sym, ap, ◌∙◌}
use Rattle.std.specs.Prelude.{find, option_and_then, option_map, slice_get}
use Rattle.std.specs.Borrow.{Bor}
use Rattle.std.specs.Str.{bytes_eq}
use Rattle.clap.specs.Facts.{Entry}
use Rattle.clap.specs.Matches.{first_value, matched_of, raw_values}
use Rattle.clap.specs.Walk.{Text, all_of, first_of, row_of, rows_of}
use Rattle.clap.specs.declared.parser.matches.Found.{Found}

find-rows : (id : Text) (es : List Entry)
    → find (λ r. bytes_eq r.id id) (map row_of es) ≡ option_map row_of (find (λ e. bytes_eq e.0.now id) es)
find-rows id [] = refl
find-rows id (e ∷ es) = go (bytes_eq e.0.now id) (find-rows id es)
  where
    go : (b : Bool) → find (λ r. bytes_eq r.id id) (map row_of es) ≡ option_map row_of (find (λ x. bytes_eq x.0.now id) es)
        → cond b (Some (row_of e)) (find (λ r. bytes_eq r.id id) (map row_of es))
        ≡ option_map row_of (cond b (Some e) (find (λ x. bytes_eq x.0.now id) es))
    go true rest = refl
    go false rest = rest

pub first_value-rows : (f : Found) (id : Text) → first_value f id ≡ first_of id (rows_of f)
first_value-rows f id =
    go (find (λ e. bytes_eq e.0.now id) f.entries.items)
    ∙ ap (option_and_then (λ r. slice_get r.values 0)) (sym (find-rows id f.entries.items))
  where
    first : (vals : List (Bor Text)) → option_map (λ s. s.now) (slice_get vals 0) ≡ slice_get (map (λ s. s.now) vals) 0
    first [] = refl
    first (v ∷ vals) = refl

    go : (o : Option Entry) → option_and_then (λ a. option_map (λ s. s.now) (slice_get a.vals.items 0)) (option_map (λ e. e.1) o)
        ≡ option_and_then (λ r. slice_get r.values 0) (option_map row_of o)
    go None = refl
    go (Some e) = first e.1.vals.items

pub raw_values-rows : (f : Found) (id : Text) → option_map raw_values (matched_of f id) ≡ all_of id (rows_of f)
raw_values-rows f id =
    go (find (λ e. bytes_eq e.0.now id) f.entries.items) ∙ ap (option_map (λ r. r.values)) (sym (find-rows id f.entries.items))
  where
    go : (o : Option Entry) → option_map raw_values (option_map (λ e. e.1) o) ≡ option_map (λ r. r.values) (option_map row_of o)
    go None = refl
    go (Some e) = refl
