use Rattle.std.proofs.Common.{string_bytes}
use Rattle.schedule_text.proofs.EachLine.{line_from_parts}
use Rattle.schedule_text.proofs.Words.{on_ok_then}
use Rattle.schedule_text.proofs.writing.push_config.Goals as goal

pub returns : goal.returns
returns c =
    let front = rw (c.cores.ensures.value, c.dirs.ensures.value, c.sets.ensures.value) at c.in_ok-write.ensures.bytes in
    on_ok_then c.write-2.result _ _
    (λ back. line_from_parts c.args.config.now (string_bytes c.args.text.now) (string_bytes c.write.new.self)
    (string_bytes c.write-2.new.self) front
    (rw (c.ways.ensures.value, c.base.ensures.value, c.ram_bytes-ram.ensures) at back))
    c.write-2.ensures.bytes
