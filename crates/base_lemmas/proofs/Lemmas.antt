-- What other crates may cite: all lemmas of this crate.
pub use Rattle.base_lemmas.proofs.Booleans.{or-left, or-right, and-left, and-right, and-both, neither-left, neither-right, neither}
pub use Rattle.base_lemmas.proofs.Booleans.{or-cases, and-false, and-never, and-true, or-false, or-true, not-false, never, is_some-cond}
pub use Rattle.base_lemmas.proofs.Numbers.{lt-from, eq-true, eq-from, eq-self, le-true, le-false, lt_self, nat_eq-comm, fewer, next-number}
pub use Rattle.base_lemmas.proofs.Numbers.{power-positive, one_more, bit_minus, bit_join, bit_meet}
pub use Rattle.base_lemmas.proofs.Lists.{get_or-front, get_or-last, read-set, get-after, get-front, get-some, get-set, get-set_other}
pub use Rattle.base_lemmas.proofs.Lists.{length-set, none-past, map-map, flat-each, flat-nothing, flat-last, filter-map, filter-flat}
pub use Rattle.base_lemmas.proofs.Lists.{filter-few, drop-front, write_back-whole, pieces-all, piece-more, flat_map-range_with_len_more}
pub use Rattle.base_lemmas.proofs.Lists.{in_tail, head_or_tail, at_head, one-longer, appends-more, appends-none, on_err-from}
pub use Rattle.base_lemmas.proofs.Words.{any_below-same, any_below-none, none_below, any_below-count, any_below-found, count_below-same}
pub use Rattle.base_lemmas.proofs.Words.{count_below-most, count_below-head, those-same, those-empty, those-none, those-most, mask_of-same}
pub use Rattle.base_lemmas.proofs.Words.{mask_of-none, has-full, has-zero, eight-same, eight-at, get_or-eight, length-eight, eight_of}
pub use Rattle.base_lemmas.proofs.Words.{line_of-word_at, place_of-word_at, word_at-own, at_home, in-memory, num-most}
pub use Rattle.base_lemmas.proofs.Nodes.{node_eq-refl, node_eq-sym, hit-line, held_valued, unheld-clean}
