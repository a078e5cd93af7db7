-- The first so many of those listed have been looked at.
use Rattle.machine_links.specs.Subject.{subject_of}
use Rattle.machine_dirs.proofs.MarkedAbout.{MarkedAbout}
use Rattle.machine_dirs.proofs.bank.DirBank.mark_about.Given as goal

abbrev pub invariant-loop-i : goal.invariant-loop-i
invariant-loop-i l = MarkedAbout l.directory l.fn.dir.0 (subject_of l.fn.on) l.i l.initial.flights l.flights
