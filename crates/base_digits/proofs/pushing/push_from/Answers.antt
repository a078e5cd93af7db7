use Rattle.std.proofs.Common.{◌-◌, drop, arith, take_all, length-drop}
use Rattle.std.proofs.lemmas.Str.{IsUtf8-from_ascii}
use Rattle.base_digits.proofs.pushing.push_from.Goals as goal

pub from_utf8_unchecked-requires : goal.from_utf8_unchecked-requires
from_utf8_unchecked-requires c =
    let line = c.args.line.now in
    let start = c.args.start in
    IsUtf8-from_ascii _ (rw (take_all (56 - start) (drop start line) (omega (arith, length-drop start line))) c.requires.1)
