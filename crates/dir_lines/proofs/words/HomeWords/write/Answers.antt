use Rattle.std.proofs.Common.{◌≡◌, ◌++◌, length, take, drop, sym, subst, ap, ◌∙◌}
use Rattle.std.proofs.lemmas.List.{take_at}
use Rattle.dir_lines.specs.Home.{IsAtHome}
use Rattle.dir_lines.specs.Words.{words_at, first_place, with_words, IsWritten}
use Rattle.dir_lines.specs.WordsInside.{words_of}
use Rattle.dir_lines.proofs.WordsAt.{words_at-written}
use Rattle.dir_lines.proofs.words.HomeWords.write.Goals as goal

pub returns-clause-words : goal.returns-clause-words
returns-clause-words c = λ e.
    let at_home : IsAtHome (words_of c.self.inside).place c.args.line.0 =
    subst (λ p. IsAtHome p.place c.args.line.0) (sym c.self.view_is) c.requires in
    let from_items : IsWritten c.first-at.result c.args.mask.0 8 c.args.words.now c.self.inside.words.items c.write_masked.new.all =
    subst (λ xs. IsWritten c.first-at.result c.args.mask.0 8 c.args.words.now xs c.write_masked.new.all) c.as_mut_slice.ensures.value
    c.write_masked.ensures in
    let written : IsWritten (first_place (words_of c.self.inside).place c.args.line.0) c.args.mask.0 8 c.args.words.now
    c.self.inside.words.items c.write_masked.new.all =
    subst (λ n. IsWritten n c.args.mask.0 8 c.args.words.now c.self.inside.words.items c.write_masked.new.all)
    (c.first-at.ensures.place ∙ ap (λ p. first_place p.place c.args.line.0) (sym c.self.view_is)) from_items in
    let whole : take c.self.inside.words.len (c.write_masked.new.all ++ drop (length c.write_masked.new.all) c.self.inside.words.items)
    ≡ c.write_masked.new.all =
    take_at c.write_masked.new.all (drop (length c.write_masked.new.all) c.self.inside.words.items) c.self.inside.words.len
    (c.write_masked.ensures.count ∙ (ap length c.as_mut_slice.ensures.value ∙ sym c.self.inside.words.ok.0)) in
    ap (λ ws. words_at e (record { place = (words_of c.self.inside).place; words = ws })) whole
    ∙ (words_at-written e (words_of c.self.inside).place c.self.inside.words.items c.write_masked.new.all c.args.line.0 c.args.mask.0
    c.args.words.now at_home written
    ∙ ap (λ p. with_words c.args.line.0 c.args.mask.0 c.args.words.now (words_at e p)) c.self.view_is)
