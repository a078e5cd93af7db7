-- What is compared of a schedule: all that can be told apart from outside, and what may happen next.
use Rattle.std.specs.Prelude.{ℕ, ◌≡◌, ◌+◌, ◌/◌, Bool, List, map, filter, Some, option_map}
use Rattle.tcc_base.specs.declared.access.Commit.{Commit as Noted}
use Rattle.rules_program.specs.Plain.{Outcome}
use Rattle.rules_maps.specs.Nodes.{Event}
use Rattle.rules_maps.specs.Shape.{Shape}
use Rattle.rules_tcc.specs.State.{CoreState, Phase, start}
use Rattle.rules_tcc.specs.Step.{History, run}
use Rattle.rules_tcc.specs.Seen.{seen, numbers}
use Rattle.rules_tcc.specs.Useful.{useful}
use Rattle.rules_tcc.specs.Rows.{Pairs, changed}
use Rattle.rules_tcc.specs.Needs.{Codes, ram_base, needs, entry}

-- a core: where its checkpoint stands, how far it has come, how its attempt ended, and the words that it has marked read
pub record ToldCore : Type 0 where
  pub pc : ℕ
  pub regs : List ℕ
  pub phase : Phase
  pub ended : Outcome
  pub reads : List ℕ

-- the commits, the cores, the words that aren't as they were loaded with what is seen there, and the useful events
pub record Told : Type 0 where
  pub commits : List Noted
  pub cores : List ToldCore
  pub words : Pairs
  pub useful : List Event

-- the words of RAM with this mark
unfoldable pub words_with : Shape → (ℕ → Bool) → List ℕ
words_with sh f = filter f (numbers (sh.ram / 4))

unfoldable pub told_core : Shape → CoreState → ToldCore
told_core sh s = record {
  pc = s.saved.pc;
  regs = s.saved.regs;
  phase = s.phase;
  ended = s.ended;
  reads = words_with sh s.cache.read;
}

-- word w is loaded with 100 + w
unfoldable pub first_words : ℕ → ℕ
first_words w = 100 + w

unfoldable pub told : Shape → Codes → History → Told
told sh codes h = record {
  commits = h.commits;
  cores = map (λ c. told_core sh (h.world.cores c)) (numbers sh.cores);
  words = changed first_words (seen sh h.world) (numbers (sh.ram / 4));
  useful = useful sh (needs codes) h.world;
}

abbrev pub machine : (cores dirs sets ways ram : ℕ) → Shape
machine cores dirs sets ways ram = record { cores = cores; dirs = dirs; sets = sets; ways = ways; base = ram_base; ram = ram }

-- every event is enabled where it comes, and this is told at the end
abbrev pub Tells : Shape → Codes → List Event → Told → Type 0
Tells sh codes es t = option_map (told sh codes) (run sh (needs codes) (start entry first_words) es) ≡ Some t
