-- The runs on which the list was tried, computed by the definitions alone.
use Rattle.rules_tcc.proofs.Lemmas.{computed}
use Rattle.rules_program.specs.Registers.{zeroed, register, written}
use Rattle.rules_tcc.specs.Rows.{padded, both_words, both_code}
use Rattle.rules_tcc.specs.Small.{at_pc, address, call_need, small, image_entry}
use Rattle.theorem_serial.specs.Tried.{tag_test, after_test, loading_test, above_test, owned_test, sharer_test, line_test, home_test}
use Rattle.theorem_serial.specs.Tried.{copy_test, frame_test, word_test, tests, along, tried_end, TriedFill, TriedRead, TriedOwner}
use Rattle.theorem_serial.specs.Tried.{TriedAlone, TriedFails}
use Rattle.theorem_serial.proofs
use proofs.Names
use Names.{never, line_of, World, arith, refl, inl, inr, passes, live, pair, stores_word, stores_in, stored_mask, stores_at, names_line}
use Names.{wrote, wrote_line, wrote_mask, last_of, is_settled, is_applied, settled_in_line, stored_there, copies_with, keeps_unmodified}
use Names.{holds_line, HomeWords, after_stores, counts, after_commits, value_at, word_copies, Noted, Shape, ℕ, zero, suc, ◌≡◌, ◌<◌, ◌≤◌}
use Names.{◌⊎◌, ◌==◌, false, List, None, nats, home_of}

-- all that the runs compute with, and what is counted at their ends
unfoldable run_computed : Type 0
unfolding computed zeroed register written padded both_words both_code at_pc address call_need small image_entry pair passes live
    stores_word names_line stores_in stored_mask stores_at wrote wrote_line wrote_mask last_of is_settled is_applied settled_in_line
    stored_there copies_with keeps_unmodified holds_line after_stores counts after_commits value_at word_copies tried_end
run_computed = Unit {0}

pub tried_fill : TriedFill
unfolding run_computed tag_test after_test loading_test above_test owned_test sharer_test line_test home_test copy_test
    frame_test word_test tests along
tried_fill = refl

pub tried_read : TriedRead
unfolding run_computed tag_test after_test loading_test above_test owned_test sharer_test line_test home_test copy_test
    frame_test word_test tests along
tried_read = refl

pub tried_owner : TriedOwner
unfolding run_computed tag_test after_test loading_test above_test owned_test sharer_test line_test home_test copy_test
    frame_test word_test tests along
tried_owner = refl

pub tried_alone : TriedAlone
unfolding run_computed tag_test after_test loading_test above_test owned_test sharer_test line_test home_test copy_test
    frame_test word_test tests along
tried_alone = refl

-- of both cores
both : (P : ℕ → Type 0) → P 0 → P 1 → (c : ℕ) → c < 2 → P c
both P a b zero l = a
both P a b (suc zero) l = b
both P a b (suc (suc c)) l = absurd (omega arith)

neither : {A : Type 0} → {B : Type 0} → {C : Type 0} → (A → C) → (B → C) → A ⊎ B → C
neither f g (inl a) = f a
neither f g (inr b) = g b

zero-two : 0 < 2
zero-two = omega arith

one-two : 1 < 2
one-two = omega arith

no : 1 ≤ 0 → ⊥
no l = omega arith

unequal : (a b : ℕ) → (a == b) ≡ false → a ≡ b → ⊥
unequal a b h e = grind nats

home-of : {sh : Shape} {ram : ℕ → ℕ} {w : World} {cs : List Noted} (d x : ℕ) → HomeWords sh ram w cs → sh.cores ≡ 2 → d < sh.dirs
    → home_of sh x ≡ d → word_copies x ((w.dirs d).lines.tag (line_of x)) (pair w 0 d) ≡ 0
    → word_copies x ((w.dirs d).lines.tag (line_of x)) (pair w 1 d) ≡ 0
    → (w.dirs d).words x ≡ value_at sh.base ram cs (w.dirs d) None None x
home-of {w} d x k e l h a b =
    k.at_home d x l h (λ c i. both (λ c. word_copies x ((w.dirs d).lines.tag (line_of x)) (pair w c d) ≡ 0) a b c (omega arith))

pub tried_fails : TriedFails
unfolding run_computed
tried_fails = record {
  tag = λ k. unequal 2 1 refl (k 1 3 one-two (let q : 3 < 4 = omega arith in q) refl);
  owner = λ k. unequal 0 1 refl (k 0 1 3 zero-two one-two (let q : 3 < 4 = omega arith in q) refl);
  sharer = λ k. neither never (λ t. no t.sent) ((k 1 1 3 one-two one-two (let q : 3 < 4 = omega arith in q) refl).shares refl);
  word = λ k. unequal 7 2 refl (home-of 1 24 k refl one-two refl refl refl);
  commit = λ k. unequal 1 0 refl (k 1 0 2 2 one-two zero-two (let q : 2 < 4 = omega arith in q) refl zero-two).one;
  uncommitted = λ k. neither (unequal 2 0 refl) no (k 1 1 24 2 one-two one-two refl refl refl);
}
