-- The vendor at its start.
use Rattle.std.specs.Arc.{arc_value}
use Rattle.apart_member.specs.declared.kind.MemberKind.TheVariants as kind
use Rattle.apart_member.proofs.Starts.{starts-there, vendor-starts}
use Rattle.apart_member.proofs.member.Member.vendor.Goals as goal

pub at_start-requires-clause-start : goal.at_start-requires-clause-start
at_start-requires-clause-start c = vendor-starts (arc_value c.args.code) c.new.result c.new.ensures

pub returns-clause-start : goal.returns-clause-start
returns-clause-start c =
    starts-there (arc_value c.args.code) c.at_start.result (kind.Vendor c.new.result) c.at_start.ensures
    (vendor-starts (arc_value c.args.code) c.new.result c.new.ensures)
