-- An answer's record: it is read back from its bytes, and the code's stores make it.
use Prim.Native.Nat.{ℕ, ◌+◌, ◌^◌, ◌≤◌, ◌<◌}
use native.Mathlib.Omega.{arith}
use mathlib.Core.Path.{◌≡◌, refl, ap, ◌∙◌}
use mathlib.Core.List.{List, [], ◌∷◌, ◌++◌}
use lib.ListN.{take, drop, set, length}
use Rattle.numbers.specs.Bytes.{bytes_of}
use Rattle.numbers.proofs.ByteLaws.{number_of_bytes}
use Rattle.house.specs.declared.answer.Answer.{Answer}
use Rattle.roll.specs.Decode.{record_of}
use Rattle.roll.specs.Balance.{entry_from}

-- so many bytes of a number stored from a place on
abbrev put : ℕ → ℕ → ℕ → List ℕ → List ℕ
put at width n l = take at l ++ bytes_of width n ++ drop (at + width) l

-- an answer and its command's byte are read back from their record, whatever stands after it
pub entry_back :
    (byte : ℕ) (a : Answer) (rest : List ℕ)
    → a.number < 2 ^ 32
    → a.cents < 2 ^ 64
    → entry_from (take 14 (record_of byte a ++ rest)) ≡ record { byte = byte; answer = a }
unfolding record_of bytes_of
entry_back byte a rest number cents =
    let n = number_of_bytes 4 a.number number in
    let c = number_of_bytes 8 a.cents cents in
    λ i. record { byte = byte; answer = record { code = a.code; number = n i; cents = c i } }

pub record_passed : (byte : ℕ) (a : Answer) (rest : List ℕ) → drop 14 (record_of byte a ++ rest) ≡ rest
unfolding record_of bytes_of
record_passed byte a rest = refl

-- the two numbers that are stored in their places, and then the first two bytes
stored :
    (l : List ℕ) (byte : ℕ) (a : Answer)
    → 14 ≤ length l
    → set (set (put 2 4 a.number (put 6 8 a.cents l)) 0 byte) 1 a.code ≡ record_of byte a ++ drop 14 l
unfolding record_of bytes_of
stored [] byte x within = absurd (omega arith)
stored (a ∷ []) byte x within = absurd (omega arith)
stored (a ∷ b ∷ []) byte x within = absurd (omega arith)
stored (a ∷ b ∷ c ∷ []) byte x within = absurd (omega arith)
stored (a ∷ b ∷ c ∷ d ∷ []) byte x within = absurd (omega arith)
stored (a ∷ b ∷ c ∷ d ∷ e ∷ []) byte x within = absurd (omega arith)
stored (a ∷ b ∷ c ∷ d ∷ e ∷ f ∷ l) byte x within = refl

pub record_written :
    (l : List ℕ) (byte : ℕ) (a : Answer) (l₁ l₂ : List ℕ)
    → 14 ≤ length l
    → l₁ ≡ put 6 8 a.cents l
    → l₂ ≡ put 2 4 a.number l₁
    → set (set l₂ 0 byte) 1 a.code ≡ record_of byte a ++ drop 14 l
record_written l byte a l₁ l₂ within first second =
    ap (λ x. set (set x 0 byte) 1 a.code) (second ∙ ap (put 2 4 a.number) first) ∙ stored l byte a within
