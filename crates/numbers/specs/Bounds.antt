-- What reading and writing a number asks of its callers, so that no byte outside the buffer is touched.
use Rattle.std.specs.Prelude.{ℕ, ◌+◌, ◌≤◌, List, length}

-- a buffer that has so many bytes from a place on
pub record BytesAt (buffer : List ℕ) (at count : ℕ) : Type 0 where
  pub ends : at + count ≤ length buffer
