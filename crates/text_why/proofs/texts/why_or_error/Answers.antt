-- The lines, one after another.
use Rattle.std.proofs.Common.{rules}
use Rattle.image_load.specs.Contents.{started}
use Rattle.net_core.specs.Machine.{history_of}
use Rattle.text_why.specs.Text.{why_text}
use Rattle.text_why.proofs.texts.why_or_error.Goals as goal

pub returns : goal.returns
unfolding why_text history_of started
returns c = rw (c.in_ok-push_next.ensures, c.find.ensures.first) (search rules)
