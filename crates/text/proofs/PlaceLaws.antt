-- Texts put into a buffer: one byte, and one text behind another.
use Prim.Native.Nat.{ℕ, ◌+◌, ◌≤◌}
use native.Mathlib.Omega.{arith}
use native.Mathlib.Numerals.{add-one}
use mathlib.Core.Path.{◌≡◌, refl, sym, ap, ◌∙◌, subst}
use mathlib.Core.List.{List, [], ◌∷◌, ◌++◌, append_assoc}
use lib.ListN.{length, set, take, drop, length-append, length-take}
use lib.Seq.{set_split, take_at, drop-append-add, drop-drop, length-take-le}
use Rattle.text.specs.Lines.{placed, Wrote}

pub wrote_one : (out : List ℕ) (at byte : ℕ) → at + 1 ≤ length out → Wrote out at (byte ∷ []) (set out at byte) (at + 1)
unfolding placed
wrote_one out at byte within = record { bytes = set_split out at byte (omega arith) ∙ rw add-one; ends = refl }

pub wrote_none : (out : List ℕ) → Wrote out 0 [] out 0
unfolding placed
wrote_none out = record { bytes = refl; ends = refl }

module _ (before : List ℕ) (at : ℕ) (text : List ℕ) (within : at + length text ≤ length before) where
  head_long : length (take at before ++ text) ≡ at + length text
  head_long = length-append (take at before) text ∙ ap (λ k. k + length text) (length-take-le at before (omega arith))

  placed_twice : (more : List ℕ) → placed (placed before at text) (at + length text) more ≡ placed before at (text ++ more)
  unfolding placed
  placed_twice more =
      let head = take at before ++ text in
      let tail = drop (at + length text) before in
      let further : at + length text + length more ≡ at + (length text + length more) = omega arith in
      ap (λ l. take (at + length text) l ++ (more ++ drop (at + length text + length more) l)) (sym (append_assoc (take at before) text tail))
      ∙ ap (λ k. take k (head ++ tail) ++ (more ++ drop (k + length more) (head ++ tail))) (sym head_long)
      ∙ rw (take_at head tail (length head) refl, drop-append-add head tail (length more), drop-drop (length more) (at + length text) before, append_assoc (take at before) text, append_assoc text more, length-append text more)
      (ap (λ k. take at before ++ (text ++ (more ++ drop k before))) further)

-- one text behind another
pub wrote_more :
    {before : List ℕ} {at : ℕ} {text middle : List ℕ} {next : ℕ} {more after : List ℕ} {end : ℕ}
    → at + length text ≤ length before
    → Wrote before at text middle next
    → Wrote middle next more after end
    → Wrote before at (text ++ more) after end
wrote_more {before} {at} {text} {middle} {next} {more} {after} {end} within first second =
    record {
      bytes = second.bytes ∙ ap (λ l. placed l next more) first.bytes ∙ ap (λ k. placed (placed before at text) k more) first.ends ∙ placed_twice before at text within more;
      ends = second.ends ∙ omega (arith, first.ends, length-append text more);
    }

-- the same text by another name
pub wrote_as : {before : List ℕ} {at : ℕ} {text other after : List ℕ} {next : ℕ} → text ≡ other → Wrote before at text after next → Wrote before at other after next
wrote_as {before} {at} {text} {other} {after} {next} same wrote = subst (λ t. Wrote before at t after next) same wrote

-- the next place lies within the buffer
pub wrote_within : {before : List ℕ} {at : ℕ} {text after : List ℕ} {next : ℕ} → at ≤ length before → Wrote before at text after next → next ≤ length after
unfolding placed
wrote_within {before} {at} {text} inside wrote =
    omega (
      arith,
      wrote.ends,
      ap length wrote.bytes,
      length-append (take at before) (text ++ drop (at + length text) before),
      length-append text (drop (at + length text) before),
      length-take at before,
    )

-- what was put at a buffer's start is read back from there
pub written : {before text after : List ℕ} {next : ℕ} → Wrote before 0 text after next → take next after ≡ text
unfolding placed
written {before} {text} {after} {next} wrote =
    let count : next ≡ length text = omega (arith, wrote.ends) in
    ap (take next) wrote.bytes
    ∙ ap (λ k. take k (text ++ drop (0 + length text) before)) count
    ∙ take_at text (drop (0 + length text) before) (length text) refl
