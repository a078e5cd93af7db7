-- A directory's answer to words that come home, as the rules name it.
use Rattle.rules_maps.specs.Judge as maps
use Rattle.write_back.specs.declared.Take.{Take}
use Rattle.write_back.specs.declared.Take.TheVariants.{Take as Taken, Drop, Wait}

abbrev pub verdict_of : Take → maps.Judgement
verdict_of Taken = maps.Current
verdict_of Drop = maps.Outdated
verdict_of Wait = maps.TooEarly
