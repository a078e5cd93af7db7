-- Core by core.
use Rattle.std.proofs.Common.{◌≡◌, ap, sym, ◌∙◌, arith}
use Rattle.std.specs.Prelude.{get_or}
use Rattle.tcc_base.specs.Settings.{Settings}
use Rattle.base_lemmas.proofs.Lemmas.{line_of-word_at}
use Rattle.rules_maps.specs.Shape.{home}
use Rattle.rules_maps.specs.Words.{word_at}
use Rattle.rules_tcc.specs.Seen.{Copy, seen}
use Rattle.net_core.specs.Copies.{nth_copy}
use Rattle.net_core.specs.Inside.{machine_of}
use Rattle.net_core.specs.Machine.{settings_of, world_of}
use Rattle.net_core.proofs.Words.Places.{line-is}
use Rattle.net_core.proofs.Words.Seen.{best-first, best-last, best-more, home-tag, home-word}
use Rattle.net_core.proofs.system.System.seen_line.Goals as goal

pub loop-c-init : goal.loop-c-init
loop-c-init c = λ k b.
    let m = machine_of c.self.inside in
    c.dated-best.ensures k b
    ∙ best-first m c.args.self.now (word_at c.args.line.0 k) c.tag.result.0 (get_or c.line_words.result k 0) c.self.view_is
    c.self.invariant.dirs
    (λ ram. home-tag ram m.dirs c.args.line.0 k c.tag.result.0 b (c.tag.ensures ram))
    (λ ram. home-word ram m.dirs c.args.line.0 k c.line_words.result b (c.line_words.ensures ram))

pub loop-c-preserved : goal.loop-c-preserved
loop-c-preserved c = λ k b.
    let m = machine_of c.self.inside in
    best-more m c.args.self.now (word_at c.args.line.0 k) c.loop-c.c c.home-home.result.0 (nth_copy c.loop-c.best k)
    (nth_copy c.newest_in_core.new.best k) (nth_copy c.newest_on_link.new.best k) c.self.view_is c.requires.settled
    (c.home-home.ensures.value
    ∙ (ap (λ (s : Settings). home s c.args.line.0) (c.config.ensures ∙ ap settings_of (sym c.self.view_is))
    ∙ ap (home (settings_of m)) (sym (line_of-word_at c.args.line.0 k b))))
    (c.loop-c.invariant k b) (c.newest_in_core.ensures k b) (c.newest_on_link.ensures k b)

pub returns : goal.returns
returns c =
    let cores : c.cores-c-end.result ≡ (settings_of c.args.self.now).cores =
    c.cores-c-end.ensures.value ∙ ap (λ (s : Settings). s.cores) c.config-2.ensures in
    let all : c.loop-c.c ≡ (settings_of c.args.self.now).cores = omega (arith, cores, c.loop-c-test.false, c.loop-c.auto.c-end) in
    line-is (seen (settings_of c.args.self.now) (world_of c.args.self.now)) c.args.line.0 c.values.result c.values.ensures.count
    (λ k b. c.values.ensures.each k b ∙ ap (λ (x : Copy). x.value) (c.loop-c.invariant k b)
    ∙ best-last c.args.self.now (word_at c.args.line.0 k) c.loop-c.c all)
