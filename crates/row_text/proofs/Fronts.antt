-- What the readers find in front of some bytes.
use Rattle.std.proofs.Common.{◌≡◌, ℕ, ◌+◌, ◌<◌, ◌≤◌, ◌^◌, List, [], ◌∷◌, ◌++◌, All, IsTrue, length, get_or}
use Rattle.std.proofs.Common.{Option, Some, None, MatchOption, Bor, take, drop, sym, ap, ◌∙◌, subst, arith}
use Rattle.std.proofs.Common.{append_assoc, take-append-drop, append-nil}
use Rattle.std.specs.Fmt.{decimal}
use Rattle.std.specs.List.{flat_map}
use Rattle.std.proofs.lemmas.List.{append_cancel_left, take_more}
use Rattle.std.proofs.lemmas.List.Elements.{All-append, All-cons, All-nil}
use Rattle.row_text.specs.Reading.{AreNumbersRead, EndsField, HasNoNumber, HasNoNumbers, HasNoRow, HasNoWord, IsNumberRead, IsRowRead}
use Rattle.row_text.specs.Reading.{IsWordRead}
use Rattle.row_text.specs.Rows.{AreNumbers, IsNumber, Row, is_word_byte, number_text, numeral}
use Rattle.row_text.proofs.Fields.{Above, ends-tail, later-all, one-field, one-number-front, word-above}
use Rattle.row_text.proofs.Numbers.{decimal-above}
use Rattle.row_text.proofs.Numerals.{number_text_decimal}
use Rattle.row_text.proofs.Texts.{row-parts}

-- one more byte
pub all-more : (P : ℕ → Type 0) (xs : List ℕ) (i : ℕ) → i < length xs → All P (take i xs) → P (get_or xs i 0) → All P (take (i + 1) xs)
all-more P xs i lt before one =
    rw (take_more xs i 0 lt) (All-append P (take i xs) (get_or xs i 0 ∷ []) before (All-cons P (get_or xs i 0) [] one (All-nil P)))

-- the field that ends here
pub record IsField (bytes : List ℕ) (end : ℕ) : Type 0 where
  pub inside : Above (take end bytes)
  pub ends : EndsField (drop end bytes)

one-end : (bytes xs rest : List ℕ) (end : ℕ) → IsField bytes end → Above xs → EndsField rest → bytes ≡ xs ++ rest
    → (take end bytes ≡ xs) × (drop end bytes ≡ rest)
one-end bytes xs rest end field above ends e =
    one-field (take end bytes) xs (drop end bytes) rest field.inside above field.ends ends (take-append-drop end bytes ∙ e)

-- ---- a word

pub no-word-empty : (bytes : List ℕ) (end : ℕ) → IsField bytes end → end ≡ 0 → HasNoWord bytes
no-word-empty bytes end field none word rest r =
    let same : take end bytes ≡ word = (one-end bytes word rest end field (word-above word r.formed) r.ends r.parts).0 in
    let empty : length word ≡ 0 = sym (ap length same) ∙ ap (λ k. length (take k bytes)) none in
    let some = r.formed.some in
    omega arith

pub no-word-other : (bytes : List ℕ) (end : ℕ) → IsField bytes end
    → (All (λ b. IsTrue (is_word_byte b)) (take end bytes) → ⊥) → HasNoWord bytes
no-word-other bytes end field other word rest r =
    let same : take end bytes ≡ word = (one-end bytes word rest end field (word-above word r.formed) r.ends r.parts).0 in
    other (subst (All (λ b. IsTrue (is_word_byte b))) (sym same) r.formed.bytes)

pub word-read : (bytes : List ℕ) (end : ℕ) → IsField bytes end → end ≤ length bytes → 0 < end
    → All (λ b. IsTrue (is_word_byte b)) (take end bytes) → IsWordRead bytes (take end bytes) (drop end bytes)
word-read bytes end field within some all = record {
  parts = sym (take-append-drop end bytes);
  formed = record { some = grind arith; bytes = all };
  ends = field.ends;
}

-- ---- a number

pub no-number-space : (bytes : List ℕ) → ((rest : List ℕ) → bytes ≡ 32 ∷ rest → ⊥) → HasNoNumber bytes
unfolding number_text
no-number-space bytes never n rest r = never (numeral n ++ rest) r.parts

pub no-number-digits : (bytes digits : List ℕ) (end : ℕ) → bytes ≡ 32 ∷ digits → IsField digits end
    → ((n : ℕ) → IsNumber (take end digits) n → ⊥) → HasNoNumber bytes
no-number-digits bytes digits end front field none n rest r =
    let behind : 32 ∷ digits ≡ 32 ∷ (decimal n ++ rest) = sym front ∙ r.parts ∙ ap (λ ds. ds ++ rest) (number_text_decimal n r.fits) in
    let same : digits ≡ decimal n ++ rest = cc in
    none n ((one-end digits (decimal n) rest end field (decimal-above n r.fits) r.ends same).0, r.fits)

pub number-front : (bytes digits : List ℕ) (end n : ℕ) → bytes ≡ 32 ∷ digits → IsField digits end → IsNumber (take end digits) n
    → IsNumberRead bytes n (drop end digits)
number-front bytes digits end n front field is = record {
  parts = front ∙ ap (λ ds. 32 ∷ ds) (sym (take-append-drop end digits)) ∙ ap (λ ds. 32 ∷ (ds ++ drop end digits)) is.0
      ∙ ap (λ ds. ds ++ drop end digits) (sym (number_text_decimal n is.1));
  fits = is.1;
  ends = field.ends;
}

-- ---- the numbers of a row

-- where no number is in front, a row hasn't one more
pub none-more : (rest : List ℕ) (count : ℕ) → HasNoNumber rest → 0 < count → HasNoNumbers rest count
none-more rest count none some [] tail long r = omega arith
none-more rest count none some (m ∷ ms) tail long r =
    none m (flat_map number_text ms ++ (10 ∷ tail)) (record {
      parts = r.parts ∙ append_assoc (number_text m) (flat_map number_text ms) (10 ∷ tail);
      fits = r.fit 0 0 (omega arith);
      ends = ends-tail ms tail;
    })

-- what follows a number that was read decides whether the row has one more
pub one-less : (rest after : List ℕ) (n count : ℕ) → IsNumberRead rest n after → HasNoNumbers after count → HasNoNumbers rest (count + 1)
one-less rest after n count read none [] tail long r = omega arith
one-less rest after n count read none (m ∷ ms) tail long r =
    let more = flat_map number_text ms ++ (10 ∷ tail) in
    let same : number_text n ++ after ≡ number_text m ++ more =
    sym read.parts ∙ r.parts ∙ append_assoc (number_text m) (flat_map number_text ms) (10 ∷ tail) in
    let first = one-number-front n m after more read.ends (ends-tail ms tail) same in
    none ms tail (omega arith) (record { parts = first.1; fit = later-all (λ k. k < 2 ^ 64) m ms r.fit })

pub parts-more : (bytes rest after numbers : List ℕ) (i n : ℕ) → i < length numbers
    → bytes ≡ flat_map number_text (take i numbers) ++ rest → rest ≡ number_text n ++ after → (new : List ℕ)
    → take (i + 1) new ≡ take i numbers ++ n ∷ [] → bytes ≡ flat_map number_text (take (i + 1) new) ++ after
parts-more bytes rest after numbers i n lt before one new e =
    before ∙ ap (λ (r : List ℕ). flat_map number_text (take i numbers) ++ r) one
    ∙ sym (append_assoc (flat_map number_text (take i numbers)) (number_text n) after)
    ∙ sym (ap (λ (r : List ℕ). r ++ after) (ap (flat_map number_text) e ∙ flat_last number_text (take i numbers) n))
  where
    flat_last : (f : ℕ → List ℕ) (xs : List ℕ) (x : ℕ) → flat_map f (xs ++ x ∷ []) ≡ flat_map f xs ++ f x
    flat_last f [] x = simp append-nil
    flat_last f (y ∷ ys) x = ap (λ (r : List ℕ). f y ++ r) (flat_last f ys x) ∙ sym (append_assoc (f y) (flat_map f ys) (f x))

-- ---- a row

pub no-row-word : (bytes word : List ℕ) (count : ℕ) → ((rest : List ℕ) → bytes ≡ word ++ rest → ⊥) → HasNoRow bytes word count
no-row-word bytes word count never numbers rest long r =
    never (flat_map number_text numbers ++ (10 ∷ rest)) (r.parts ∙ row-parts (record { word = word; numbers = numbers }) rest)

pub no-row-numbers : (bytes word after : List ℕ) (count : ℕ) → bytes ≡ word ++ after → HasNoNumbers after count
    → HasNoRow bytes word count
no-row-numbers bytes word after count front none numbers rest long r =
    let row : Row = record { word = word; numbers = numbers } in
    let same : word ++ after ≡ word ++ (flat_map number_text numbers ++ (10 ∷ rest)) = sym front ∙ r.parts ∙ row-parts row rest in
    none numbers rest long (record { parts = append_cancel_left word _ _ same; fit = r.fit })

pub no-end : (bytes : List ℕ) → ((rest : List ℕ) → bytes ≡ 10 ∷ rest → ⊥) → HasNoNumbers bytes 0
no-end bytes never [] rest long r = never rest r.parts
no-end bytes never (m ∷ ms) rest long r = omega arith

pub row-read : (bytes word after numbers last rest : List ℕ) → bytes ≡ word ++ after → AreNumbersRead after numbers last → last ≡ 10 ∷ rest
    → IsRowRead bytes word numbers rest
row-read bytes word after numbers last rest front read ends = record {
  parts = front ∙ ap (λ (r : List ℕ). word ++ r) (read.parts ∙ ap (λ (r : List ℕ). flat_map number_text numbers ++ r) ends)
      ∙ sym (row-parts (record { word = word; numbers = numbers }) rest);
  fit = read.fit;
}

-- what follows the numbers decides
pub row-answer : (bytes word after numbers last : List ℕ) (count : ℕ) (r : Option (Bor (List ℕ))) → bytes ≡ word ++ after
    → AreNumbersRead after numbers last → length numbers ≡ count
    → MatchOption r ((rest : List ℕ) → last ≡ 10 ∷ rest → ⊥) (λ rest. last ≡ 10 ∷ rest.now)
    → MatchOption r (HasNoRow bytes word count) (λ rest. IsRowRead bytes word numbers rest.now)
row-answer bytes word after numbers last count None front read long never =
    no-row-numbers bytes word after count front
    (subst (HasNoNumbers after) long (read.only (no-end last never)))
row-answer bytes word after numbers last count (Some rest) front read long ends =
    row-read bytes word after numbers last rest.now front read ends

pub numbers-more : (numbers : List ℕ) (i n : ℕ) (new : List ℕ) → take (i + 1) new ≡ take i numbers ++ n ∷ []
    → AreNumbers (take i numbers) → n < 2 ^ 64 → AreNumbers (take (i + 1) new)
numbers-more numbers i n new e before fits =
    subst AreNumbers (sym e)
    (All-append (λ k. k < 2 ^ 64) (take i numbers) (n ∷ []) before (All-cons (λ k. k < 2 ^ 64) n [] fits (All-nil (λ k. k < 2 ^ 64))))
