use Rattle.rules_maps.proofs.Caches.{empty-keeps, marked-keeps, stored-keeps, placed-keeps, filled-keeps, invalidated-keeps, cleaned-keeps}
use Rattle.rules_maps.proofs.Caches.{evicted-keeps, rolled_back-keeps, read_cleared-keeps, committed-keeps, word_dropped-keeps}
use Rattle.rules_maps.proofs.Caches.{words_dropped-keeps}
use Rattle.rules_maps.proofs.changes_keep_caches.Goals as goal

pub returns-clause-begins : goal.returns-clause-begins
returns-clause-begins c = empty-keeps

pub returns-clause-keep : goal.returns-clause-keep
returns-clause-keep c = λ sh m k. record {
  marks = λ w h. marked-keeps sh w m h k;
  stores = λ w x also h. stored-keeps sh w x also m h k;
  places = λ l h. placed-keeps sh l m h k;
  fills = λ l ws h. filled-keeps sh l ws m h k;
  invalidates = λ l n. invalidated-keeps sh l n m k;
  cleans = λ l. cleaned-keeps sh l m k;
  evicts = λ s y. evicted-keeps sh s y m k;
  rolls_back = rolled_back-keeps sh m k;
  clears_read = read_cleared-keeps sh m k;
  commits = λ t. committed-keeps sh t m k;
  drops_word = λ w. word_dropped-keeps sh w m k;
  drops_words = λ f. words_dropped-keeps sh f m k;
}
