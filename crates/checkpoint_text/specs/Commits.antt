-- The tables of commits.
use Rattle.std.specs.Prelude.{ℕ, List, [], ◌∷◌, codes}
use Rattle.tcc_base.specs.declared.access.Commit.{Commit}
use Rattle.checkpoint_text.specs.Tables.{Table, all, each, numbered}
use Rattle.checkpoint_text.specs.Numbers.{byte_numbers, load_numbers, stored_numbers}

-- TID, core and instructions
abbrev pub commit_numbers : Commit → List ℕ
commit_numbers c = c.tid.0 ∷ c.core.0 ∷ c.n ∷ []

-- of those that the machine keeps, by rising TID
unfoldable pub commit_tables : List Commit → List Table
commit_tables cs =
    record { word = codes "commit"; rows = numbered (each commit_numbers) 0 cs }
    ∷ record { word = codes "commit-load"; rows = numbered (all (λ (c : Commit). c.loads) load_numbers) 0 cs }
    ∷ record { word = codes "commit-store"; rows = numbered (all (λ (c : Commit). c.stores) stored_numbers) 0 cs }
    ∷ record { word = codes "commit-byte"; rows = numbered (all (λ (c : Commit). c.console) byte_numbers) 0 cs }
    ∷ []
