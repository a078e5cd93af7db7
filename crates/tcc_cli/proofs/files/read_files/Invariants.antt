use Rattle.std.proofs.Common.{ℕ, List, ◌≡◌, map, take}
use Rattle.tcc_cli.specs.Reading.{AreGiven}
use Rattle.tcc_cli.proofs.files.read_files.Given as goal

abbrev pub invariant-loop-name : goal.invariant-loop-name
invariant-loop-name g l = record {
  given : AreGiven (g.F.Store.disk l.fn.files).contents (map (λ w. w.now) (take l.name-index l.names)) l.read.items;
  contents : (n : List ℕ) → (g.F.Store.disk l.files).contents n ≡ (g.F.Store.disk l.fn.files).contents n;
  reads : (n : List ℕ) → (g.F.Store.disk l.files).failed_reads n ≡ (g.F.Store.disk l.fn.files).failed_reads n;
  tells : (g.F.Store.disk l.files).tells ≡ (g.F.Store.disk l.fn.files).tells;
  writes : (n : List ℕ) → (g.F.Store.disk l.files).failed_writes n ≡ (g.F.Store.disk l.fn.files).failed_writes n;
}
