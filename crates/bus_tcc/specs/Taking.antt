-- What a core does with the lines of a packet, one after another.
use Rattle.std.specs.Prelude.{Bool, false, ◌||◌, List, [], ◌∷◌, if◌then◌else◌}
use Rattle.tcc_base.specs.declared.access.Tagged.{Tagged}
use Rattle.rules_maps.specs.Cache.{Cache}
use Rattle.rules_maps.specs.CacheLook.{reads_masked}
use Rattle.rules_tcc.specs.Attempt.{roll_back}
use Rattle.rules_tcc.specs.CoreDeliver.{words_invalidated}
use Rattle.rules_tcc.specs.State.{CoreState, Running}

unfoldable pub struck_by : List Tagged → CoreState → CoreState
struck_by [] s = s
struck_by (t ∷ ts) s = struck_by ts (words_invalidated t.line.0 t.mask.0 s)

-- a word of the lines is marked read
unfoldable pub reads_any : List Tagged → Cache → Bool
reads_any [] c = false
reads_any (t ∷ ts) c = reads_masked t.line.0 t.mask.0 c || reads_any ts c

-- where one is, the attempt begins anew
abbrev pub took : List Tagged → CoreState → CoreState
took ts s = if reads_any ts s.cache then record (roll_back (struck_by ts s)) { phase = Running } else struck_by ts s
