-- "one line an answer (command, code, number, cents), then the stop code, then the nine till figures [..]. Figures are decimal, one space
-- apart, with a minus sign where negative; the last two lines start with the words shown." Text is bytes: 48 to 57 are the digits.
use Rattle.std.specs.Prelude.{ℕ, zero, suc, ◌+◌, ◌*◌, ◌/◌, ◌%◌, ◌≤◌, ◌≡◌, Bool, cond, List, [], ◌∷◌, ◌++◌, ltb, length, get_or, take, drop}
use Rattle.queries.specs.declared.till.Till.{Till}
use Rattle.numbers.specs.Bytes.{number_of}

-- the decimal digits of a number that has at most so many
unfoldable pub digits_within : ℕ → ℕ → List ℕ
digits_within zero n = []
digits_within (suc places) n = cond (ltb n 10) ((48 + n) ∷ []) (digits_within places (n / 10) ++ ((48 + n % 10) ∷ []))

-- a number in decimal, with no leading zeros; it has no more digits than its own value and one
unfoldable pub decimal : ℕ → List ℕ
decimal n = digits_within (suc n) n

-- words one space apart, and a line's end
unfoldable pub line : List (List ℕ) → List ℕ
line [] = 10 ∷ []
line (word ∷ []) = word ++ (10 ∷ [])
line (word ∷ next ∷ words) = word ++ (32 ∷ line (next ∷ words))

-- an answer: command byte, code, number, cents
unfoldable pub answer_line : ℕ → ℕ → ℕ → ℕ → List ℕ
answer_line byte code number cents = line (decimal byte ∷ decimal code ∷ decimal number ∷ decimal cents ∷ [])

-- the line of the record of 14 bytes at the start of a part of a book
unfoldable pub record_line : List ℕ → List ℕ
record_line part =
    answer_line (get_or part 0 0) (get_or part 1 0) (number_of (take 4 (drop 2 part))) (number_of (take 8 (drop 6 part)))

-- the lines of so many records at the start of a book
unfoldable pub book_lines : ℕ → List ℕ → List ℕ
book_lines zero book = []
book_lines (suc answers) book = record_line book ++ book_lines answers (drop 14 book)

-- "stop"
abbrev pub stop_word : List ℕ
stop_word = 115 ∷ 116 ∷ 111 ∷ 112 ∷ []

-- "till"
abbrev pub till_word : List ℕ
till_word = 116 ∷ 105 ∷ 108 ∷ 108 ∷ []

unfoldable pub stop_line : ℕ → List ℕ
stop_line code = line (stop_word ∷ decimal code ∷ [])

-- a figure by its size, with a minus sign where it is below zero
unfoldable pub signed : Bool → ℕ → List ℕ
signed negative size = cond negative (45 ∷ decimal size) (decimal size)

unfoldable pub till_line : Till → List ℕ
till_line t =
    line
    (till_word
    ∷ decimal t.taken
    ∷ decimal t.seeds
    ∷ decimal t.paid
    ∷ decimal t.refunded
    ∷ decimal t.owed
    ∷ decimal t.held
    ∷ decimal t.unclaimed
    ∷ decimal t.pooled
    ∷ signed t.negative t.retained
    ∷ [])

-- ---- what only the contracts of the writers speak of

-- a figure and the byte that ends it
unfoldable pub figure : ℕ → ℕ → List ℕ
figure n end = decimal n ++ (end ∷ [])

-- four figures one space apart, and the byte that ends them
unfoldable pub four_figures : ℕ → ℕ → ℕ → ℕ → ℕ → List ℕ
four_figures a b c d end = figure a 32 ++ (figure b 32 ++ (figure c 32 ++ figure d end))

-- a buffer with a text put at a place: what stands before and after it is untouched
unfoldable pub placed : List ℕ → ℕ → List ℕ → List ℕ
placed out at text = take at out ++ (text ++ drop (at + length text) out)

-- the buffer before, the place, the text written there, the buffer after, and the next place
pub record Wrote (before : List ℕ) (at : ℕ) (text after : List ℕ) (next : ℕ) : Type 0 where
  pub bytes : after ≡ placed before at text
  pub ends : next ≡ at + length text

-- a buffer with room for a line from a place on
pub record RoomFor (out : List ℕ) (at : ℕ) (text : List ℕ) : Type 0 where
  pub ends : at + length text ≤ length out

-- a book that has so many answers, and a buffer with room for their lines, 40 bytes each at the most
pub record BookRoom (out book : List ℕ) (answers : ℕ) : Type 0 where
  pub lines : answers * 40 ≤ length out
  pub records : answers * 14 ≤ length book
