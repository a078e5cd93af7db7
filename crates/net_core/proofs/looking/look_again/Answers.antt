-- What is looked at again is marked as the directory says now.
use Rattle.std.proofs.Common.{◌≡◌, Some, inl, subst}
use Rattle.rules_maps.specs.Nodes.{Core, Dir}
use Rattle.rules_tcc.specs.Links.{in_flight}
use Rattle.net_core.proofs.looking.look_again.Goals as goal

pub mark_about-requires-in-Line-clause-home : goal.mark_about-requires-in-Line-clause-home
mark_about-requires-in-Line-clause-home c = λ b k m fly.
    c.requires.home b k m (subst (λ n. in_flight n (Core b) (Dir c.args.dir.0) k ≡ Some m) c.mark_about.ensures.net fly)

pub returns-in-All-clause-seen : goal.returns-in-All-clause-seen
returns-in-All-clause-seen c = λ ram b k m fly seen. c.mark.ensures.here ram b k m (c.requires.home b k m fly).0 fly

pub returns-in-All-clause-here : goal.returns-in-All-clause-here
returns-in-All-clause-here c = λ ram b k m fly. inl (c.mark.ensures.here ram b k m (c.requires.home b k m fly).0 fly)
