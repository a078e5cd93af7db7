-- Totals are no larger than their parts together.
use Rattle.std.proofs.Common.{◌≡◌, ℕ, ◌+◌, ◌<◌, List, drop, map, get_or, length, ap, sym, ◌∙◌, arith}
use Rattle.std.proofs.lemmas.List.{at_drop_more}
use Rattle.watch_count.specs.declared.tables.CoreCounts.{CoreCounts}
use Rattle.watch_count.specs.declared.messages.MessageCounts.{MessageCounts}
use Rattle.watch_count.specs.Totals.{attempts_plus, instructions_plus, accesses_plus, evictions_plus, phases_plus, core_plus, messages_plus}
use Rattle.watch_count.specs.Totals.{cores_after, messages_sum}
use Rattle.watch_count.specs.Sizes.{attempts_size, instructions_size, accesses_size, evictions_size, phases_size, core_size, messages_size}

pub core-adds : (a b : CoreCounts) → core_size (core_plus a b) ≡ core_size a + core_size b
unfolding core_plus attempts_plus instructions_plus accesses_plus evictions_plus phases_plus
    attempts_size instructions_size accesses_size evictions_size phases_size
core-adds a b = omega arith

pub messages-add : (a b : MessageCounts) → messages_size (messages_plus a b) ≡ messages_size a + messages_size b
unfolding messages_plus messages_size
messages-add a b = omega arith

-- the next one is added
pub cores-more : {A : Type 0} (f : A → CoreCounts) (cs : List A) (i : ℕ) (d : A) (t now all : CoreCounts) → i < length cs
    → now ≡ core_plus t (f (get_or cs i d)) → cores_after t (map f (drop i cs)) ≡ all → cores_after now (map f (drop (i + 1) cs)) ≡ all
unfolding cores_after
cores-more f cs i d t now all l e h =
    ap (λ x. cores_after x (map f (drop (i + 1) cs))) e ∙ sym (at_drop_more (λ ys. cores_after t (map f ys)) cs i d l) ∙ h

pub messages-more : (ms : List MessageCounts) (i : ℕ) (d t now all : MessageCounts) → i < length ms → now ≡ messages_plus t (get_or ms i d)
    → messages_sum t (drop i ms) ≡ all → messages_sum now (drop (i + 1) ms) ≡ all
unfolding messages_sum
messages-more ms i d t now all l e h = ap (λ x. messages_sum x (drop (i + 1) ms)) e ∙ sym (at_drop_more (messages_sum t) ms i d l) ∙ h
