use Rattle.net_links.proofs.wire.link.Given as goal

abbrev pub ghosts-between : goal.ghosts-between
ghosts-between a = record { ends = a.ends }
