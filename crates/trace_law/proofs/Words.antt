-- The words of a trace have no line feed.
use Rattle.std.proofs.Common.{◌≡◌, ◌==◌, ◌-◌, ◌/◌, ◌%◌, ℕ, zero, suc, Bool, true, false, not, List, [], ◌∷◌, ◌++◌, Some, None}
use Rattle.std.proofs.Common.{◌&&◌, codes, if◌then◌else◌, get_or, length, replicate, refl, ap, ◌∙◌, arith}
use Rattle.std.specs.Fmt.{decimal, digits, digits_onto, digit_glyph, padded_integral, char_count}
use Rattle.std.specs.List.{flat_map, range_with_len}
use Rattle.std.proofs.lemmas.Bool.Decides.{nat_tests}
use Rattle.tcc_base.specs.declared.access.Size.{Size}
use Rattle.rules_maps.specs.Masks.{has}
use Rattle.rules_maps.specs.Nodes.{Node, Core, Dir, Vendor}
use Rattle.rules_maps.specs.Nodes.{Msg, TidReq, TidGrant, LoadReq, Fill, Skip, Probe, ProbeReply, Mark, Commit, Abort}
use Rattle.rules_maps.specs.Nodes.{WriteBack, Flush, DataReq, Inv, InvAck}
use Rattle.rules_tcc.specs.State.{Phase, Running, AwaitTid, DoomedTid, Probing, Ready, Overflowing, Solo, Halted}
use Rattle.base_digits.specs.Digits.{hex}
use Rattle.schedule_text.specs.Grammar.{node_word}
use Rattle.watch.specs.Facts.{Fact, Did, Missed, Overflowed, Evicted, Took, Dropped, AskedOwner, Violated, GaveUp, Committed, CameTo}
use Rattle.watch.specs.Facts.{Serves, Sent}
use Rattle.watch.specs.Facts.{Done, Plainly, Loaded, Stored, Changed, Printed, Ended, HaltedWith, TrappedWith}
use Rattle.watch_trace.specs.Lines.{wanted_words, cause_words, name_words, fact_words}
use Rattle.watch_trace.specs.Shown.{shown_node_of}
use Rattle.watch_trace.specs.Words.{field, value_word, value_words, home_words, committed_words, fill_words}
use Rattle.watch_trace.specs.Words.{keeps_words, acknowledged_words, message_words, phase_words, access_words, done_words}

-- no line feed is among these bytes
abbrev pub free : List ℕ → Bool
free [] = true
free (b ∷ bs) = not (b == 10) && free bs

pub free-append : (xs ys : List ℕ) → free (xs ++ ys) ≡ (free xs && free ys)
free-append [] ys = refl
free-append (x ∷ xs) ys = ap (λ b. not (x == 10) && b) (free-append xs ys) ∙ go (not (x == 10))
  where
    go : (b : Bool) → (b && (free xs && free ys)) ≡ ((b && free xs) && free ys)
    go true = refl
    go false = refl

free-glyph : (d : ℕ) → not (digit_glyph false d == 10) ≡ true
free-glyph d = grind (arith, nat_tests)

free-digits_onto : (k base n : ℕ) (more : List ℕ) → free more ≡ true → free (digits_onto k base false n more) ≡ true
free-digits_onto zero base n more e = e
free-digits_onto (suc k) base n more e =
    go (n / base == 0) one (free-digits_onto k base (n / base) (digit_glyph false (n % base) ∷ more) one)
  where
    one : free (digit_glyph false (n % base) ∷ more) ≡ true
    one = rw (free-glyph (n % base)) e

    go : (b : Bool) → free (digit_glyph false (n % base) ∷ more) ≡ true
        → free (digits_onto k base false (n / base) (digit_glyph false (n % base) ∷ more)) ≡ true
        → free (if b then digit_glyph false (n % base) ∷ more
        else digits_onto k base false (n / base) (digit_glyph false (n % base) ∷ more)) ≡ true
    go true f rest = f
    go false f rest = rest

free-digits : (base n : ℕ) → free (digits base false n) ≡ true
unfolding digits
free-digits base n = free-digits_onto 64 base n [] refl

pub free-decimal : (n : ℕ) → free (decimal n) ≡ true
free-decimal n = free-digits 10 n

free-zeros : (n : ℕ) → free (replicate n 48) ≡ true
free-zeros zero = refl
free-zeros (suc n) = free-zeros n

free-hex : (w n : ℕ) → free (hex w n) ≡ true
unfolding padded_integral char_count
free-hex w n =
    let zeros : List ℕ = replicate (w - length (digits 16 false n) - 0 - 0) 48 in
    free-append zeros (digits 16 false n ++ [])
    ∙ (λ i. free-zeros (w - length (digits 16 false n) - 0 - 0) i && free-append (digits 16 false n) [] i)
    ∙ ap (λ b. b && true) (free-digits 16 n)

-- ---- parts of words

free-value : (mask : ℕ) (words : List ℕ) (k : ℕ) → free (value_word mask words k) ≡ true
free-value mask words k = go (has mask k)
  where
    go : (b : Bool) → free (codes " " ++ (if b then hex 8 (get_or words k 0) else codes "-")) ≡ true
    go true = free-hex 8 (get_or words k 0)
    go false = refl

free-flat : (f : ℕ → List ℕ) (ks : List ℕ) → ((k : ℕ) → free (f k) ≡ true) → free (flat_map f ks) ≡ true
free-flat f [] each = refl
free-flat f (k ∷ ks) each = free-append (f k) (flat_map f ks) ∙ (λ i. each k i && free-flat f ks each i)

free-values : (mask : ℕ) (words : List ℕ) → free (value_words mask words) ≡ true
unfolding value_words
free-values mask words = free-flat (value_word mask words) (range_with_len 0 8) (free-value mask words)

free-home : (line mask : ℕ) (words : List ℕ) (tag : ℕ) → free (home_words line mask words tag) ≡ true
unfolding home_words field
free-home line mask words tag = simp (free-append, free-decimal, free-values)

free-committed : (line mask tid : ℕ) → free (committed_words line mask tid) ≡ true
unfolding committed_words field
free-committed line mask tid = simp (free-append, free-decimal)

pub free-node : (n : Node) → free (node_word (shown_node_of n)) ≡ true
unfolding node_word
free-node (Core c) = free-decimal c
free-node (Dir d) = free-decimal d
free-node Vendor = refl

-- ---- a message

free-message : (m : Msg) → free (message_words m) ≡ true
unfolding message_words field fill_words acknowledged_words keeps_words
free-message TidReq = refl
free-message (TidGrant tid) = free-decimal tid
free-message (LoadReq line after) = simp (free-append, free-decimal)
free-message (Fill line words) = simp (free-append, free-decimal, free-values)
free-message (Skip tid) = free-decimal tid
free-message (Probe tid) = free-decimal tid
free-message (ProbeReply tid serving) = simp (free-append, free-decimal)
free-message (Mark line mask tid) = free-committed line mask tid
free-message (Commit tid count) = simp (free-append, free-decimal)
free-message (Abort tid) = free-decimal tid
free-message (WriteBack line mask words tag) = free-home line mask words tag
free-message (Flush line mask words tag) = free-home line mask words tag
free-message (DataReq line) = free-decimal line
free-message (Inv line mask tid) = free-committed line mask tid
free-message (InvAck line true) = simp (free-append, free-decimal)
free-message (InvAck line false) = simp (free-append, free-decimal)

-- ---- a phase, and an instruction

free-phase : (q : Phase) → free (phase_words q) ≡ true
unfolding phase_words field
free-phase Running = refl
free-phase AwaitTid = refl
free-phase DoomedTid = refl
free-phase (Probing tid) = free-decimal tid
free-phase (Ready tid) = free-decimal tid
free-phase (Overflowing None) = refl
free-phase (Overflowing (Some tid)) = free-decimal tid
free-phase (Solo tid) = free-decimal tid
free-phase Halted = refl

free-access : (addr : ℕ) (size : Size) → free (access_words addr size) ≡ true
unfolding access_words field
free-access addr size = simp (free-append, free-hex, free-decimal)

free-done : (d : Done) → free (done_words d) ≡ true
unfolding done_words field
free-done Plainly = refl
free-done (Loaded addr size value) = simp (free-append, free-access, free-hex)
free-done (Stored addr size value) = simp (free-append, free-access, free-hex)
free-done (Changed addr size old new) = simp (free-append, free-access, free-hex)
free-done (Printed byte) = free-hex 2 byte
free-done Ended = refl
free-done (HaltedWith code) = free-decimal code
free-done (TrappedWith cause) = free-decimal cause

-- ---- a fact

free-wanted : (core pc addr line : ℕ) → free (wanted_words core pc addr line) ≡ true
unfolding wanted_words field
free-wanted core pc addr line = simp (free-append, free-decimal, free-hex)

free-cause : (by tid line words : ℕ) → free (cause_words by tid line words) ≡ true
unfolding cause_words field
free-cause by tid line words = simp (free-append, free-decimal)

free-name : (src dst : Node) (k : ℕ) → free (name_words src dst k) ≡ true
unfolding name_words field
free-name src dst k = simp (free-append, free-node, free-decimal)

pub free-fact : (f : Fact) → free (fact_words f) ≡ true
unfolding fact_words field
free-fact (Did core pc done) = simp (free-append, free-decimal, free-hex, free-done)
free-fact (Missed core pc addr line) = free-wanted core pc addr line
free-fact (Overflowed core pc addr line) = free-wanted core pc addr line
free-fact (Evicted core line dirty modified) = simp (free-append, free-decimal)
free-fact (Took m) = free-message m
free-fact (Dropped m) = free-message m
free-fact (AskedOwner m) = free-message m
free-fact (Violated core by tid line words lost phase) = simp (free-append, free-decimal, free-cause, free-phase)
free-fact (GaveUp tid core) = simp (free-append, free-decimal)
free-fact (Committed tid core n) = simp (free-append, free-decimal)
free-fact (CameTo core phase) = simp (free-append, free-decimal, free-phase)
free-fact (Serves dir tid) = simp (free-append, free-decimal)
free-fact (Sent src dst k m) = simp (free-append, free-name, free-message)
