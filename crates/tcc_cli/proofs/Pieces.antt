-- Pieces that are written one after the other.
use Rattle.std.proofs.Common.{ℕ, suc, ◌≡◌, ◌+◌, ◌<◌, List, [], ◌∷◌, ◌++◌, length, take, drop, get_or, Option, sym, ◌∙◌, ap, subst}
use Rattle.std.proofs.Common.{refl, rules, Bor, append_assoc, arith, append-nil, add-one, drop-cons, take-suc}
use Rattle.std.proofs.Math.Seq.{take-append-add}
use Rattle.std.proofs.lemmas.Grind.{flat_map-append}
use Rattle.std.proofs.lemmas.List.{take-append-drop, take-append-le}
use Rattle.std.proofs.lemmas.List.Folds.{length-flat_map-take}
use Rattle.std.specs.List.{flat_map}
use Rattle.std.specs.Fmt.{decimal}
use Rattle.std.specs.Io.KnownBytes.{Appends}
use Rattle.std.specs.Prelude.{codes}
use Rattle.base_lemmas.proofs.Lemmas.{appends-more}
use Rattle.report_text.specs.Lines.{newline}
use Rattle.tcc_cli.specs.Lines.{IsCut, IsTold}
use Rattle.tcc_world.specs.Page.{Written}
use Rattle.tcc_cli.specs.Refusals.{reader_word, line_of}
use Rattle.tcc_cli.specs.declared.refusal.ImageFault.{ImageFault}
use Rattle.tcc_cli.specs.declared.refusal.Refusal.TheVariants.{Words, Value, Image, Schedule, Store, Output, Memory}
use Rattle.tcc_words.specs.Fields.{field_word}
use Rattle.tcc_words.specs.declared.command.Field.{Field}
use Rattle.tcc_world.specs.Faults.{Rose}

split_at : {P : Type 0} (f : P → List ℕ) (ps : List P) (i : ℕ) (d : P) → i < length ps
    → flat_map f ps ≡ flat_map f (take i ps) ++ (f (get_or ps i d) ++ flat_map f (drop (suc i) ps))
split_at f ps i d h =
    ap (flat_map f) (sym (take-append-drop i ps))
    ∙ flat_map-append f (take i ps) (drop i ps)
    ∙ ap (λ rest. flat_map f (take i ps) ++ flat_map f rest) (drop-cons ps i d h)

-- a piece of which a first part was written cuts the whole
pub cut_at : {P : Type 0} (f : P → List ℕ) (ps : List P) (i n : ℕ) (d : P) (o : Written) (mid : Option (List ℕ)) → i < length ps
    → Appends o.before.bytes mid (flat_map f (take i ps)) → n < length (f (get_or ps i d))
    → Appends mid o.after.bytes (take n (f (get_or ps i d))) → Rose o.before.faults o.after.faults → IsCut (flat_map f ps) o
cut_at f ps i n d o mid h begun short cut rose =
    let pre = flat_map f (take i ps) in
    let x = f (get_or ps i d) in
    let rest = flat_map f (drop (suc i) ps) in
    let fits = length-flat_map-take f ps i d h in
    let whole : take (length pre + n) (flat_map f ps) ≡ pre ++ take n x =
    ap (take (length pre + n)) (split_at f ps i d h)
    ∙ take-append-add pre (x ++ rest) n
    ∙ ap (λ t. pre ++ t) (take-append-le n x rest (omega (arith, short))) in (
      length pre + n,
      omega (arith, fits, short),
      subst (Appends o.before.bytes o.after.bytes) (sym whole) (appends-more o.before.bytes mid o.after.bytes pre (take n x) begun cut),
      rose,
    )

-- one piece more was written
pub told_more : {P : Type 0} (f : P → List ℕ) (ps : List P) (i : ℕ) (d : P) (before mid after : Option (List ℕ)) → i < length ps
    → Appends before mid (flat_map f (take i ps)) → Appends mid after (f (get_or ps i d))
    → Appends before after (flat_map f (take (i + 1) ps))
told_more f ps i d before mid after h begun more =
    let pre = flat_map f (take i ps) in
    let x = f (get_or ps i d) in
    let joined : flat_map f (take (suc i) ps) ≡ pre ++ x =
    ap (flat_map f) (take-suc ps i d h) ∙ flat_map-append f (take i ps) (get_or ps i d ∷ []) ∙ ap (λ t. pre ++ t) (append-nil x) in
    rw (add-one i) (subst (Appends before after) (sym joined) (appends-more before mid after pre x begun more))

pub told_same : (s t : List ℕ) (o : Written) → s ≡ t → IsTold s o → IsTold t o
told_same s t o e h = subst (λ x. IsTold x o) e h

-- the pieces of a line are the line
pub fault_pieces : (f : ImageFault) (word : List ℕ) → word ≡ reader_word f.by
    → codes "tcc: image "
    ++ (decimal f.image ++ (codes " " ++ (word ++ (codes " " ++ (decimal f.number ++ (codes " " ++ (decimal f.place ++ newline)))))))
    ≡ line_of (Image f)
unfolding line_of
fault_pieces f word e = rw e (search (rules, append_assoc))

pub value_pieces : (field : Field) (word : List ℕ) → word ≡ field_word field
    → codes "tcc: value " ++ (word ++ newline) ≡ line_of (Value field)
unfolding line_of
value_pieces field word e = rw e refl

pub schedule_pieces : (line : ℕ) → codes "tcc: schedule line " ++ (decimal line ++ newline) ≡ line_of (Schedule line)
unfolding line_of
schedule_pieces line = refl

pub store_pieces : (name : Bor (List ℕ)) → codes "tcc: store " ++ (name.now ++ newline) ≡ line_of (Store name)
unfolding line_of
store_pieces name = refl

pub words_piece : codes "tcc: words" ++ newline ≡ line_of Words
unfolding line_of
words_piece = refl

pub output_piece : codes "tcc: output" ++ newline ≡ line_of Output
unfolding line_of
output_piece = refl

pub memory_piece : codes "tcc: memory" ++ newline ≡ line_of Memory
unfolding line_of
memory_piece = refl
