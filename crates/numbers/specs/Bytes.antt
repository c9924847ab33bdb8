-- "multi-byte numbers are unsigned, high byte first"
use Rattle.std.specs.Prelude.{ℕ, zero, suc, ◌+◌, ◌*◌, ◌/◌, ◌%◌, ◌^◌, List, [], ◌∷◌}

unfoldable pub number_from : ℕ → List ℕ → ℕ
number_from n [] = n
number_from n (b ∷ bytes) = number_from (n * 256 + b) bytes

-- the number that some bytes stand for
abbrev pub number_of : List ℕ → ℕ
number_of bytes = number_from 0 bytes

-- so many bytes of a number
unfoldable pub bytes_of : ℕ → ℕ → List ℕ
bytes_of zero n = []
bytes_of (suc k) n = n / 256 ^ k % 256 ∷ bytes_of k n
