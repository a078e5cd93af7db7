-- One word more, and all eight.
use Rattle.std.proofs.Common.{◌≡◌, arith}
use Rattle.std.proofs.lemmas.Grind.{common_steps}
use Rattle.base_lemmas.proofs.Lemmas.{flat_map-range_with_len_more}
use Rattle.watch_trace.specs.Words.{value_word, value_words}
use Rattle.watch_trace.proofs.words.push_values.Goals as goal

pub loop-k-preserved : goal.loop-k-preserved
loop-k-preserved c =
    let more = flat_map-range_with_len_more (value_word c.args.mask c.args.words.now) 0 c.loop-k.k c.loop-k.k (omega arith) in
    grind (arith, common_steps, more)

pub returns : goal.returns
unfolding value_words
returns c =
    let all : c.loop-k.k ≡ 8 = omega arith in
    rw all at c.loop-k.invariant
