-- Counts after a fact, and when an event begins, field by field.
use Rattle.std.proofs.Common.{◌≡◌, ℕ, ◌+◌, ◌≤◌, ◌<◌, ◌^◌, List, map, drop, get_or, length}
use Rattle.std.proofs.Common.{Result, Ok, Err, ap, sym, subst, ◌∙◌, arith}
use Rattle.std.specs.Prelude.{All, OnOk, OnErr}
use Rattle.std.specs.Map.{values_of}
use Rattle.std.specs.Ordering.{nat_cmp}
use Rattle.std.proofs.lemmas.List.{length-map, at_drop_more, drop_all}
use Rattle.std.proofs.lemmas.List.Elements.{All-same}
use Rattle.rules_maps.specs.Nodes.{Node}
use Rattle.watch.specs.Facts.{Fact}
use Rattle.watch.specs.Plain.{fact_of}
use Rattle.watch.specs.declared.fact.Fact.{Fact as CodeFact}
use Rattle.watch_count.specs.declared.tables.CoreCounts.{CoreCounts}
use Rattle.watch_count.specs.declared.messages.MessageCounts.{MessageCounts}
use Rattle.watch_count.specs.declared.places.LineCounts.{LineCounts}
use Rattle.watch_count.specs.declared.places.Conflict.{Conflict}
use Rattle.watch_count.specs.declared.places.ConflictCounts.{ConflictCounts}
use Rattle.watch_count.specs.Tables.{core_after, event_came}
use Rattle.watch_count.specs.Messages.{kind_of, messages_after}
use Rattle.watch_count.specs.Places.{nothing_there, line_of, line_after, no_conflict, conflict_of, conflict_after}
use Rattle.watch_count.specs.Sizes.{core_size, messages_size, line_size, conflict_size, weight}
use Rattle.watch_count.specs.Counts.{Counts, core_of, changed_if, kept_changed_if, conflict_cmp, counted, all_counted, event_begun}
use Rattle.watch_count.specs.CountsInside.{IsKept}
use Rattle.watch_count.proofs.Lists.{length-changed_if}
use Rattle.watch_count.proofs.Keeping.{all-below, cores-kept, cores-came, messages-kept}

abbrev pub made : List CoreCounts → List MessageCounts → List (ℕ × LineCounts) → List (Conflict × ConflictCounts) → ℕ → Counts
made cs ms ls xs b = record { cores = cs; messages = ms; lines = ls; conflicts = xs; bound = b }

pub begun-is : (s now : Counts) (cs : List CoreCounts) → s ≡ now → cs ≡ map event_came s.cores
    → made cs s.messages s.lines s.conflicts (s.bound + 1) ≡ event_begun now
unfolding event_begun
begun-is s now cs h e = ap (λ x. made x s.messages s.lines s.conflicts (s.bound + 1)) e ∙ ap event_begun h

pub begun-kept : (s : Counts) (cs : List CoreCounts) → IsKept s → cs ≡ map event_came s.cores → s.bound + 1 ≤ 2 ^ 56
    → IsKept (made cs s.messages s.lines s.conflicts (s.bound + 1))
begun-kept s cs k e l = record {
  cores = All-same (λ x. core_size x ≤ s.bound + 1) cs (map event_came s.cores) e (cores-came s k);
  messages = all-below messages_size s.bound 1 s.messages k.messages;
  lines = all-below line_size s.bound 1 (values_of s.lines) k.lines;
  conflicts = all-below conflict_size s.bound 1 (values_of s.conflicts) k.conflicts;
  small = l;
  few = (let same : length cs ≡ length s.cores = ap length e ∙ length-map s.cores event_came in omega (arith, same, k.few));
}

pub counted-is : (a : Node) (f : Fact) (s now : Counts) (cs : List CoreCounts) (ms : List MessageCounts) (ls : List (ℕ × LineCounts))
    (xs : List (Conflict × ConflictCounts)) (b : ℕ) → s ≡ now
    → cs ≡ changed_if (core_of a f) (core_after f) s.cores
    → ms ≡ changed_if (kind_of f) (messages_after f) s.messages
    → ls ≡ kept_changed_if nat_cmp nothing_there (line_of f) (line_after f) s.lines
    → xs ≡ kept_changed_if conflict_cmp no_conflict (conflict_of f) (conflict_after f) s.conflicts
    → b ≡ weight f → made cs ms ls xs (s.bound + b) ≡ counted a f now
unfolding counted
counted-is a f s now cs ms ls xs b h e1 e2 e3 e4 e5 = (λ i. made (e1 i) (e2 i) (e3 i) (e4 i) (s.bound + e5 i)) ∙ ap (counted a f) h

pub counted-kept : (a : Node) (f : Fact) (s : Counts) (cs : List CoreCounts) (ms : List MessageCounts) (ls : List (ℕ × LineCounts))
    (xs : List (Conflict × ConflictCounts)) (b : ℕ) → IsKept s
    → cs ≡ changed_if (core_of a f) (core_after f) s.cores
    → ms ≡ changed_if (kind_of f) (messages_after f) s.messages
    → All (λ x. line_size x ≤ s.bound + weight f) (values_of ls)
    → All (λ x. conflict_size x ≤ s.bound + weight f) (values_of xs)
    → b ≡ weight f → s.bound + weight f ≤ 2 ^ 56 → IsKept (made cs ms ls xs (s.bound + b))
counted-kept a f s cs ms ls xs b k e1 e2 all_lines all_conflicts e5 l =
    subst (λ w. IsKept (made cs ms ls xs (s.bound + w))) (sym e5) (record {
      cores = All-same (λ x. core_size x ≤ s.bound + weight f) cs (changed_if (core_of a f) (core_after f) s.cores) e1 (cores-kept a f s k);
      messages = All-same (λ x. messages_size x ≤ s.bound + weight f) ms (changed_if (kind_of f) (messages_after f) s.messages) e2
          (messages-kept f s k);
      lines = all_lines;
      conflicts = all_conflicts;
      small = l;
      few = (let same : length cs ≡ length s.cores = ap length e1 ∙ length-changed_if (core_after f) (core_of a f) s.cores in
          omega (arith, same, k.few));
    })

-- what a call left is one thing where it went well, and another where it failed
pub either : {T E X : Type 0} (P : X → Type 0) (r : Result T E) (x a b : X) → OnOk r (x ≡ a) → OnErr r (x ≡ b) → P a → P b → P x
either P (Ok v) x a b h k p q = subst P (sym h) p
either P (Err v) x a b h k p q = subst P (sym k) q

-- the next fact is counted
pub facts-more : (a : Node) (fs : List CodeFact) (i : ℕ) (d : CodeFact) (s now all : Counts) → i < length fs
    → now ≡ counted a (fact_of (get_or fs i d)) s
    → all_counted a (map fact_of (drop i fs)) s ≡ all → all_counted a (map fact_of (drop (i + 1) fs)) now ≡ all
unfolding all_counted
facts-more a fs i d s now all l e h =
    ap (all_counted a (map fact_of (drop (i + 1) fs))) e ∙ sym (at_drop_more (λ ys. all_counted a (map fact_of ys) s) fs i d l) ∙ h

pub facts-all : (a : Node) (fs : List CodeFact) (i : ℕ) (s all : Counts) → length fs ≤ i
    → all_counted a (map fact_of (drop i fs)) s ≡ all → s ≡ all
unfolding all_counted
facts-all a fs i s all l h = sym (ap (λ ys. all_counted a (map fact_of ys) s) (drop_all i fs l)) ∙ h
