-- Whether all that was sent stands on its links.
use Rattle.std.proofs.Common.{◌≡◌, ◌≤◌, length, drop, sym, ap, ◌∙◌, arith}
use Rattle.std.proofs.Math.ListN.{drop_of_length-le}
use Rattle.std.proofs.lemmas.Bool.Decides.{nat_tests}
use Rattle.std.proofs.lemmas.List.{length-drop}
use Rattle.net_core.proofs.system.System.is_settled.Goals as goal

pub returns : goal.returns
returns c =
    let xs = c.self.inside.out.list.items in
    let n = c.self.inside.placed in
    let unsent : drop n xs ≡ c.args.self.now.unsent = ap (λ m. m.unsent) c.self.view_is in
    let long : c.len.result ≡ length xs = omega (arith, c.len.ensures, c.self.inside.out.list.ok) in (
      λ e. (let below : length xs ≤ n = grind (arith, nat_tests) in sym unsent ∙ drop_of_length-le xs below),
      λ e. (let below : length xs ≤ n = omega (arith, length-drop n xs, ap length (unsent ∙ e)) in grind (arith, nat_tests)),
    )
