-- What a store in memory holds, and what its calls do with it.
use Rattle.std.specs.Prelude.{ℕ, Bool, List, [], ◌∷◌, ◌++◌, Option, None, ◌==◌, refl, if◌then◌else◌}
use Rattle.std.specs.List.{list_any}
use Rattle.std.specs.FinMap as by_name
use Rattle.std.specs.Coded.{Coded, code_by, coded×, coded_list, coded_ℕ}
use Rattle.tcc_world.specs.Faults.{raised}
use Rattle.tcc_world.specs.Files.{Files, files_code}

pub record Shelf : Type 0 where
  pub files : Files  -- the contents of each name that has some
  pub fails : List ℕ  -- the numbers of the calls that fail
  pub calls : ℕ  -- the number of the coming call
  pub unread : List (List ℕ)  -- the names of the failed reads, in order
  pub unwritten : List (List ℕ)  -- the names of the failed writes, in order

abbrev pub shelf_code : Coded Shelf
shelf_code =
    code_by (Files × (List ℕ × (ℕ × (List (List ℕ) × List (List ℕ)))))
    (coded× files_code (coded× (coded_list coded_ℕ)
    (coded× coded_ℕ (coded× (coded_list (coded_list coded_ℕ)) (coded_list (coded_list coded_ℕ))))))
    (λ s. (s.files, (s.fails, (s.calls, (s.unread, s.unwritten)))))
    (λ p. record { files = p.0; fails = p.1.0; calls = p.1.1.0; unread = p.1.1.1.0; unwritten = p.1.1.1.1 })
    (λ _. refl)

-- no name has contents
abbrev pub empty_shelf : List ℕ → Shelf
empty_shelf fails = record { files = by_name.empty; fails = fails; calls = 0; unread = []; unwritten = [] }

-- the coming call is one of those that fail
abbrev pub is_due : Shelf → Bool
is_due s = list_any (λ n. n == s.calls) s.fails

-- the name has these contents from now on
abbrev pub holding : Shelf → List ℕ → List ℕ → Shelf
holding s name bytes = record s { files = by_name.insert s.files name bytes }

-- the coming call is done
abbrev pub counted : Shelf → Shelf
counted s = record s { calls = raised s.calls }

-- what the coming call reads, if it doesn't fail
abbrev pub readable : Shelf → List ℕ → Option (List ℕ)
readable s name = if is_due s then None else by_name.get s.files name

-- after a read that failed
abbrev pub read_failed : Shelf → List ℕ → Shelf
read_failed s name = record s { calls = raised s.calls; unread = s.unread ++ name ∷ [] }

-- after a write that failed
abbrev pub write_failed : Shelf → List ℕ → Shelf
write_failed s name = record s { calls = raised s.calls; unwritten = s.unwritten ++ name ∷ [] }
