-- Of a core that has spilled nothing there is no record of a spilled word.
use Rattle.std.proofs.Common.{◌≡◌, ℕ, [], refl}
use Rattle.std.specs.List.{flat_map}
use Rattle.rules_maps.specs.Shape.{Shape}
use Rattle.rules_maps.specs.Spilled.{none_spilled}
use Rattle.rules_tcc.specs.Seen.{numbers}
use Rattle.watch_state.specs.Cores.{spilled_records, spilled_word}
use Rattle.watch_state.proofs.Listed.{none-of}

line-none : (sh : Shape) (c l : ℕ) → spilled_records sh c none_spilled l ≡ []
unfolding spilled_records spilled_word none_spilled
line-none sh c l = none-of (λ k. []) (λ k. refl) 8

pub none-spilled : (sh : Shape) (c n : ℕ) → flat_map (spilled_records sh c none_spilled) (numbers n) ≡ []
none-spilled sh c n = none-of (spilled_records sh c none_spilled) (λ l. line-none sh c l) n
