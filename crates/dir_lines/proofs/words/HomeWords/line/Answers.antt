use Rattle.std.proofs.Common.{◌≡◌, ◌+◌, ◌-◌, ◌≤◌, length, take, drop, ap, ◌∙◌, arith}
use Rattle.dir_lines.specs.Words.{first_place}
use Rattle.dir_lines.proofs.WordsAt.{line-read}
use Rattle.dir_lines.proofs.words.HomeWords.line.Goals as goal

pub returns : goal.returns
returns c = λ e.
    let copied : c.copy_from_slice.new.self ≡ take (c.first-at.result + 8 - c.first-at.result) (drop c.first-at.result c.deref.result.now) =
    c.copy_from_slice.ensures.after in
    let eight_of : c.first-at.result + 8 - c.first-at.result ≡ 8 = omega arith in
    let within : first_place c.args.self.now.place c.args.line.0 + 8 ≤ length c.args.self.now.words =
    omega (arith, c.first-at.ensures.place, c.first-at.ensures.within) in
    copied
    ∙ ((λ i. take (eight_of i) (drop c.first-at.result (c.deref.ensures.value i)))
    ∙ (ap (λ p. take 8 (drop c.first-at.result p.words)) c.self.view_is
    ∙ (ap (λ n. take 8 (drop n c.args.self.now.words)) c.first-at.ensures.place
    ∙ line-read e c.args.self.now c.args.line.0 c.requires within)))
