-- The lines as the parts that the code puts one behind another, how long they are at the most, that they are ASCII, and a book's lines record by record and part by part.
use Prim.Native.Nat.{ℕ, zero, suc, ◌+◌, ◌-◌, ◌*◌, ◌/◌, ◌^◌, ◌≤◌, ◌<◌}
use native.Mathlib.Omega.{arith}
use mathlib.Core.Path.{◌≡◌, refl, sym, ap, subst, ◌∙◌}
use mathlib.Core.Bool.{Bool, true, false}
use mathlib.Core.List.{List, [], ◌∷◌, ◌++◌, append_assoc, append-nil}
use lib.ListN.{length, get_or, take, drop, length-append, length-drop}
use native.Mathlib.Nat.{zero-add}
use lib.Seq.{drop-drop, get_or-drop, length-take-le}
use Rattle.std.proofs.lemmas.List.{get_or-take, drop-take, take-take}
use Rattle.std.specs.Str.{IsAscii}
use Rattle.std.proofs.lemmas.Str.{IsAscii-append}
use Rattle.std.proofs.lemmas.Str.Ascii.{IsAscii-nil, IsAscii-cons}
use Rattle.queries.specs.declared.till.Till.{Till}
use Rattle.numbers.specs.Bytes.{number_of}
use Rattle.text.specs.Lines.{decimal, line, figure, four_figures, answer_line, record_line, book_lines, stop_line, signed, till_line}
use Rattle.text.proofs.DecimalLaws.{decimal_long, figure_long, four_long, decimal_ascii}

pub answer_as : (byte code number cents : ℕ) → answer_line byte code number cents ≡ four_figures byte code number cents 10
unfolding answer_line line four_figures figure
answer_as byte code number cents = simp append_assoc

pub stop_as : (code : ℕ) → stop_line code ≡ (115 ∷ 116 ∷ 111 ∷ 112 ∷ 32 ∷ []) ++ figure code 10
unfolding stop_line line figure
stop_as code = refl

pub till_as :
    (t : Till)
    → till_line t
    ≡ (116 ∷ 105 ∷ 108 ∷ 108 ∷ 32 ∷ [])
    ++ (four_figures t.taken t.seeds t.paid t.refunded 32
    ++ (four_figures t.owed t.held t.unclaimed t.pooled 32 ++ (signed t.negative t.retained ++ (10 ∷ []))))
unfolding till_line line four_figures figure
till_as t = simp append_assoc

pub signed_negative : (negative : Bool) (size : ℕ) → negative ≡ true → signed negative size ++ (10 ∷ []) ≡ (45 ∷ []) ++ figure size 10
unfolding signed figure
signed_negative negative size e = rw e

pub signed_plain : (negative : Bool) (size : ℕ) → negative ≡ false → signed negative size ++ (10 ∷ []) ≡ figure size 10
unfolding signed figure
signed_plain negative size e = rw e

-- ---- lengths

pub signed_long : (negative : Bool) (size : ℕ) → size < 2 ^ 64 → length (signed negative size ++ (10 ∷ [])) ≤ 22
signed_long true size fits = omega (arith, ap length (signed_negative true size refl), figure_long size 10, decimal_long 20 size (omega arith) (omega arith))
signed_long false size fits = omega (arith, ap length (signed_plain false size refl), figure_long size 10, decimal_long 20 size (omega arith) (omega arith))

pub till_parts :
    (t : Till)
    → length (till_line t)
    ≡ 5
    + length (four_figures t.taken t.seeds t.paid t.refunded 32)
    + length (four_figures t.owed t.held t.unclaimed t.pooled 32)
    + length (signed t.negative t.retained ++ (10 ∷ []))
till_parts t =
    let four = four_figures t.taken t.seeds t.paid t.refunded 32 in
    let more = four_figures t.owed t.held t.unclaimed t.pooled 32 in
    let last = signed t.negative t.retained ++ (10 ∷ []) in
    omega (arith, ap length (till_as t), length-append four (more ++ last), length-append more last)

-- a line of an answer has at most 40 bytes
pub answer_long : (byte code number cents : ℕ) → byte < 256 → code < 256 → number < 2 ^ 32 → cents < 2 ^ 64 → length (answer_line byte code number cents) ≤ 40
answer_long byte code number cents a b c d =
    omega (
      arith,
      ap length (answer_as byte code number cents),
      four_long byte code number cents 10,
      figure_long byte 32,
      figure_long code 32,
      figure_long number 32,
      figure_long cents 10,
      decimal_long 3 byte (omega arith) (omega arith),
      decimal_long 3 code (omega arith) (omega arith),
      decimal_long 10 number (omega arith) (omega arith),
      decimal_long 20 cents (omega arith) (omega arith),
    )

pub stop_long : (code : ℕ) → code < 256 → length (stop_line code) ≤ 9
stop_long code a = omega (arith, ap length (stop_as code), figure_long code 10, decimal_long 3 code (omega arith) (omega arith))

figure_fits : (n end : ℕ) → n < 2 ^ 64 → length (figure n end) ≤ 21
figure_fits n end fits = omega (arith, figure_long n end, decimal_long 20 n (omega arith) (omega arith))

four_fit : (a b c d end : ℕ) → a < 2 ^ 64 → b < 2 ^ 64 → c < 2 ^ 64 → d < 2 ^ 64 → length (four_figures a b c d end) ≤ 84
four_fit a b c d end p q r s =
    omega (arith, four_long a b c d end, figure_fits a 32 p, figure_fits b 32 q, figure_fits c 32 r, figure_fits d end s)

-- the figures of a till fit 64 bits
pub record Fitting (t : Till) : Type 0 where
  pub taken : t.taken < 2 ^ 64
  pub seeds : t.seeds < 2 ^ 64
  pub paid : t.paid < 2 ^ 64
  pub refunded : t.refunded < 2 ^ 64
  pub owed : t.owed < 2 ^ 64
  pub held : t.held < 2 ^ 64
  pub unclaimed : t.unclaimed < 2 ^ 64
  pub pooled : t.pooled < 2 ^ 64
  pub retained : t.retained < 2 ^ 64

pub till_long : (t : Till) → Fitting t → length (till_line t) ≤ 195
till_long t fits =
    omega (
      arith,
      till_parts t,
      four_fit t.taken t.seeds t.paid t.refunded 32 fits.taken fits.seeds fits.paid fits.refunded,
      four_fit t.owed t.held t.unclaimed t.pooled 32 fits.owed fits.held fits.unclaimed fits.pooled,
      signed_long t.negative t.retained fits.retained,
    )

-- ---- ASCII

figure_ascii : (n end : ℕ) → n < 2 ^ 64 → end < 128 → IsAscii (figure n end)
unfolding figure
figure_ascii n end fits small = IsAscii-append (decimal n) (end ∷ []) (decimal_ascii n fits) (IsAscii-cons end [] small IsAscii-nil)

four_ascii : (a b c d end : ℕ) → a < 2 ^ 64 → b < 2 ^ 64 → c < 2 ^ 64 → d < 2 ^ 64 → end < 128 → IsAscii (four_figures a b c d end)
unfolding four_figures
four_ascii a b c d end p q r s small =
    IsAscii-append _ _ (figure_ascii a 32 p (omega arith))
    (IsAscii-append _ _ (figure_ascii b 32 q (omega arith)) (IsAscii-append _ _ (figure_ascii c 32 r (omega arith)) (figure_ascii d end s small)))

word_ascii : (a b c d : ℕ) → a < 128 → b < 128 → c < 128 → d < 128 → IsAscii (a ∷ b ∷ c ∷ d ∷ 32 ∷ [])
word_ascii a b c d p q r s =
    IsAscii-cons a (b ∷ c ∷ d ∷ 32 ∷ []) p
    (IsAscii-cons b (c ∷ d ∷ 32 ∷ []) q (IsAscii-cons c (d ∷ 32 ∷ []) r (IsAscii-cons d (32 ∷ []) s (IsAscii-cons 32 [] (omega arith) IsAscii-nil))))

signed_ascii : (negative : Bool) (size : ℕ) → size < 2 ^ 64 → IsAscii (signed negative size ++ (10 ∷ []))
signed_ascii true size fits = subst IsAscii (sym (signed_negative true size refl)) (IsAscii-cons 45 (figure size 10) (omega arith) (figure_ascii size 10 fits (omega arith)))
signed_ascii false size fits = subst IsAscii (sym (signed_plain false size refl)) (figure_ascii size 10 fits (omega arith))

pub answer_ascii : (byte code number cents : ℕ) → byte < 2 ^ 64 → code < 2 ^ 64 → number < 2 ^ 64 → cents < 2 ^ 64 → IsAscii (answer_line byte code number cents)
answer_ascii byte code number cents a b c d =
    subst IsAscii (sym (answer_as byte code number cents)) (four_ascii byte code number cents 10 a b c d (omega arith))

pub stop_ascii : (code : ℕ) → code < 2 ^ 64 → IsAscii (stop_line code)
stop_ascii code a =
    subst IsAscii (sym (stop_as code))
    (IsAscii-append (115 ∷ 116 ∷ 111 ∷ 112 ∷ 32 ∷ []) (figure code 10) (word_ascii 115 116 111 112 (omega arith) (omega arith) (omega arith) (omega arith)) (figure_ascii code 10 a (omega arith)))

pub till_ascii : (t : Till) → Fitting t → IsAscii (till_line t)
till_ascii t fits =
    subst IsAscii (sym (till_as t))
    (IsAscii-append (116 ∷ 105 ∷ 108 ∷ 108 ∷ 32 ∷ []) _ (word_ascii 116 105 108 108 (omega arith) (omega arith) (omega arith) (omega arith))
    (IsAscii-append _ _ (four_ascii t.taken t.seeds t.paid t.refunded 32 fits.taken fits.seeds fits.paid fits.refunded (omega arith))
    (IsAscii-append _ _ (four_ascii t.owed t.held t.unclaimed t.pooled 32 fits.owed fits.held fits.unclaimed fits.pooled (omega arith))
    (signed_ascii t.negative t.retained fits.retained))))

-- ---- a book

-- the record at a place, from the whole book
pub record_as :
    (book : List ℕ) (from : ℕ)
    → record_line (drop from book)
    ≡ answer_line (get_or book from 0) (get_or book (from + 1) 0) (number_of (take 4 (drop (from + 2) book))) (number_of (take 8 (drop (from + 6) book)))
unfolding record_line
record_as book from =
    let here : from + 0 ≡ from = omega arith in
    rw (get_or-drop from book 0 0, get_or-drop from book 1 0, drop-drop 2 from book, drop-drop 6 from book, here)

-- one record more
pub book_more : (i : ℕ) (book : List ℕ) → book_lines (suc i) book ≡ book_lines i book ++ record_line (drop (i * 14) book)
unfolding book_lines
book_more zero book = append-nil (record_line book)
book_more (suc i) book =
    let further : 14 + i * 14 ≡ suc i * 14 = omega arith in
    ap (λ l. record_line book ++ l) (book_more i (drop 14 book))
    ∙ sym (append_assoc (record_line book) (book_lines i (drop 14 book)) (record_line (drop (i * 14) (drop 14 book))))
    ∙ ap (λ l. book_lines (suc i) book ++ record_line l) (drop-drop (i * 14) 14 book ∙ ap (λ k. drop k book) further)

-- a record's line is told by its 14 bytes
pub record_part : (part : List ℕ) → record_line (take 14 part) ≡ record_line part
unfolding record_line
record_part part =
    rw (
      get_or-take 14 part 0 0 (omega arith),
      get_or-take 14 part 1 0 (omega arith),
      drop-take 2 12 part,
      drop-take 6 8 part,
      take-take 4 12 (drop 2 part) (omega arith),
      take-take 8 8 (drop 6 part) (omega arith),
    )

-- the lines of so many records are told by their part of the book
part_lines : (k : ℕ) (book : List ℕ) → book_lines k (take (k * 14) book) ≡ book_lines k book
unfolding book_lines
part_lines zero book = refl
part_lines (suc k) book =
    let long : suc k * 14 ≡ 14 + k * 14 = omega arith in
    let first = sym (record_part (take (14 + k * 14) book)) ∙ ap record_line (take-take 14 (14 + k * 14) book (omega arith)) ∙ record_part book in
    ap (λ n. record_line (take n book) ++ book_lines k (drop 14 (take n book))) long
    ∙ rw (first, drop-take 14 (k * 14) book) (ap (λ l. record_line book ++ l) (part_lines k (drop 14 book)))

-- the lines of a book's part of so many records
pub book_part : (k : ℕ) (book : List ℕ) → k * 14 ≤ length book → book_lines (length (take (k * 14) book) / 14) (take (k * 14) book) ≡ book_lines k book
book_part k book room =
    let count : length (take (k * 14) book) / 14 ≡ k = omega (arith, length-take-le (k * 14) book room) in
    rw count (part_lines k book)

-- the lines of some records and those of the records behind them
pub lines_append : (a b : ℕ) (book : List ℕ) → book_lines (a + b) book ≡ book_lines a book ++ book_lines b (drop (a * 14) book)
unfolding book_lines
lines_append zero b book = rw (zero-add b) refl
lines_append (suc a) b book =
    let further : 14 + a * 14 ≡ suc a * 14 = omega arith in
    let count : suc a + b ≡ suc (a + b) = omega arith in
    ap (λ k. book_lines k book) count
    ∙ ap (λ l. record_line book ++ l) (lines_append a b (drop 14 book))
    ∙ sym (append_assoc (record_line book) (book_lines a (drop 14 book)) (book_lines b (drop (a * 14) (drop 14 book))))
    ∙ ap (λ l. book_lines (suc a) book ++ book_lines b l) (drop-drop (a * 14) 14 book ∙ ap (λ k. drop k book) further)

-- the lines of 64 records more, from their part of the book
pub part_more : (i : ℕ) (book : List ℕ) → book_lines (i * 64) book ++ book_lines 64 (take 896 (drop (i * 896) book)) ≡ book_lines ((i + 1) * 64) book
part_more i book =
    let place : i * 64 * 14 ≡ i * 896 = omega arith in
    let count : i * 64 + 64 ≡ (i + 1) * 64 = omega arith in
    ap (λ l. book_lines (i * 64) book ++ l) (part_lines 64 (drop (i * 896) book) ∙ ap (λ k. book_lines 64 (drop k book)) (sym place))
    ∙ sym (lines_append (i * 64) 64 book)
    ∙ ap (λ k. book_lines k book) count

-- the lines behind parts of 64 records, from what is left of the book
pub part_last : (i : ℕ) (book rest : List ℕ) → rest ≡ drop (i * 896) book → i * 896 ≤ length book
    → book_lines (i * 64) book ++ book_lines (length rest / 14) rest ≡ book_lines (length book / 14) book
part_last i book rest same inside =
    let place : i * 64 * 14 ≡ i * 896 = omega arith in
    let long : length rest ≡ length book - i * 896 = ap length same ∙ length-drop (i * 896) book in
    let count : i * 64 + length rest / 14 ≡ length book / 14 = omega (arith, long, inside) in
    ap (λ l. book_lines (i * 64) book ++ book_lines (length rest / 14) l) (same ∙ ap (λ k. drop k book) (sym place))
    ∙ sym (lines_append (i * 64) (length rest / 14) book)
    ∙ ap (λ k. book_lines k book) count
