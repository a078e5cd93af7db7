-- One of the words of its line.
use Rattle.std.proofs.Common.{ap, ◌∙◌}
use Rattle.std.specs.Prelude.{get_or}
use Rattle.rules_maps.specs.Words.{place_of}
use Rattle.rules_tcc.specs.Seen.{seen}
use Rattle.net_core.specs.Machine.{settings_of, world_of}
use Rattle.net_core.proofs.Words.Places.{word-of}
use Rattle.net_core.proofs.system.System.seen_word.Goals as goal

pub returns : goal.returns
returns c =
    ap (λ ws. get_or ws (place_of c.args.w.0) 0) c.seen_line-words.ensures
    ∙ word-of (seen (settings_of c.args.self.now) (world_of c.args.self.now)) c.args.w.0
