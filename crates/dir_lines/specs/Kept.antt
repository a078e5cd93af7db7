-- What a directory's lines are to the protocol.
use Rattle.rules_maps.specs.Lines.{Lines}
use Rattle.dir_lines.specs.Record.{lines_of}
use Rattle.dir_lines.specs.Pages.{Pages, pages_at}

unfoldable pub kept : Pages → Lines
kept p = lines_of (pages_at p)
