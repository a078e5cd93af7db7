-- One fact more is counted.
use Rattle.std.proofs.Common.{◌≡◌, ℕ, ◌+◌, ◌<◌, ◌≤◌, List, map, drop, get_or, length, ap, sym, ◌∙◌}
use Rattle.std.proofs.lemmas.List.{at_drop_more, drop_all}
use Rattle.tcc_base.specs.declared.access.Tagged.{Tagged}
use Rattle.rules_maps.specs.Nodes.{Node}
use Rattle.bus_tcc.specs.Packets.{packet_line_of}
use Rattle.bus_watch.specs.Plain.{bus_fact_of}
use Rattle.bus_watch.specs.declared.fact.BusFact.{BusFact as CodeFact}
use Rattle.watch_count.specs.Counts.{Counts, all_counted, counted}
use Rattle.bus_count.specs.Counts.{BusCounts, all_bus_counted, bus_counted, invalidation}

-- a packet's line
abbrev pub of_line : (tid : ℕ) → Node → Tagged → Counts → Counts
of_line t a d c = counted a (invalidation t (packet_line_of d)) c

-- those of the lines that are left
abbrev pub of_lines : (tid : ℕ) → Node → List Tagged → Counts → Counts
of_lines t a ds c = all_counted a (map (invalidation t) (map packet_line_of ds)) c

pub lines-more : (t : ℕ) (a : Node) (ds : List Tagged) (i : ℕ) (d : Tagged) (s now all : Counts) → i < length ds
    → now ≡ of_line t a (get_or ds i d) s → of_lines t a (drop i ds) s ≡ all → of_lines t a (drop (i + 1) ds) now ≡ all
unfolding all_counted
lines-more t a ds i d s now all l e h =
    ap (of_lines t a (drop (i + 1) ds)) e ∙ sym (at_drop_more (λ ys. of_lines t a ys s) ds i d l) ∙ h

pub lines-all : (t : ℕ) (a : Node) (ds : List Tagged) (i : ℕ) (s all : Counts) → length ds ≤ i → of_lines t a (drop i ds) s ≡ all
    → s ≡ all
unfolding all_counted
lines-all t a ds i s all l h = sym (ap (λ ys. of_lines t a ys s) (drop_all i ds l)) ∙ h

pub facts-more : (core : ℕ) (fs : List CodeFact) (i : ℕ) (d : CodeFact) (s now all : BusCounts) → i < length fs
    → now ≡ bus_counted core (bus_fact_of (get_or fs i d)) s
    → all_bus_counted core (map bus_fact_of (drop i fs)) s ≡ all → all_bus_counted core (map bus_fact_of (drop (i + 1) fs)) now ≡ all
unfolding all_bus_counted
facts-more core fs i d s now all l e h =
    ap (all_bus_counted core (map bus_fact_of (drop (i + 1) fs))) e
    ∙ sym (at_drop_more (λ ys. all_bus_counted core (map bus_fact_of ys) s) fs i d l) ∙ h

pub facts-all : (core : ℕ) (fs : List CodeFact) (i : ℕ) (s all : BusCounts) → length fs ≤ i
    → all_bus_counted core (map bus_fact_of (drop i fs)) s ≡ all → s ≡ all
unfolding all_bus_counted
facts-all core fs i s all l h = sym (ap (λ ys. all_bus_counted core (map bus_fact_of ys) s) (drop_all i fs l)) ∙ h
