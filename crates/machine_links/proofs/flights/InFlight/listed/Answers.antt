-- What is in flight and about this is listed.
use Rattle.std.proofs.Common.{ap, subst}
use Rattle.machine_links.specs.Flights.{AllListed, net_of}
use Rattle.machine_links.specs.Subject.{entry, listed_as, subject_of}
use Rattle.machine_links.proofs.flights.InFlight.listed.Goals as goal

pub returns-clause-all : goal.returns-clause-all
unfolding AllListed
returns-clause-all c = λ b d k m fly on.
    let all : AllListed (net_of c.args.self.now) c.args.self.now.index =
    subst (λ f. AllListed (net_of f) f.index) c.self.view_is c.self.invariant.listed in
    all b d k m (entry (subject_of c.args.on) b d k) fly (ap (listed_as b d k) on)
