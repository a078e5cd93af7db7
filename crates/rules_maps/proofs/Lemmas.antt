-- What other crates may cite: laws of masks, of bounded tests, of serving, and of caches and their readers after each change.
pub use Rattle.rules_maps.proofs.Caches.{cleaned-keeps, committed-keeps, empty-keeps, evicted-keeps, filled-keeps, invalidated-keeps}
pub use Rattle.rules_maps.proofs.Caches.{marked-keeps, placed-keeps, read_cleared-keeps, rolled_back-keeps, stored-keeps}
pub use Rattle.rules_maps.proofs.Caches.{words_dropped-keeps}
pub use Rattle.rules_maps.proofs.Masks.{has-join, has-mask_of, has-meet, has-minus, has-pow, has-zero, mask_of-has, mask_of-small}
pub use Rattle.rules_maps.proofs.Numbers.{LowestIs, any_below-at, any_below-found, length-those, lowest-cases, lowest-is, those-holds}
pub use Rattle.rules_maps.proofs.Numbers.{those-only, those-rise}
pub use Rattle.rules_maps.proofs.Readers.{dirty-cleaned, dirty-evicted, dirty-filled, dirty-invalidated, dirty-marked, dirty-placed}
pub use Rattle.rules_maps.proofs.Readers.{dirty-read_cleared, dirty-stored, held-cleaned, held-committed, held-evicted, held-invalidated}
pub use Rattle.rules_maps.proofs.Readers.{held-marked, held-placed, held-read_cleared, held-rolled_back, held-stored, held-words_dropped}
pub use Rattle.rules_maps.proofs.Readers.{modified-cleaned, modified-committed, modified-evicted, modified-filled, modified-invalidated}
pub use Rattle.rules_maps.proofs.Readers.{modified-marked, modified-placed, modified-read_cleared, modified-rolled_back, modified-stored}
pub use Rattle.rules_maps.proofs.Readers.{read-cleaned, read-committed, read-evicted, read-filled, read-invalidated, read-marked}
pub use Rattle.rules_maps.proofs.Readers.{read-placed}
pub use Rattle.rules_maps.proofs.Readers.{read-rolled_back, read-stored, value-evicted, value-filled, value-invalidated, value-placed}
pub use Rattle.rules_maps.proofs.Serving.{advance-keeps, advance-past, advance-rises, advance-stops, first-skips, kept-skips}
pub use Rattle.rules_maps.proofs.Looks.{all_below-fails}
