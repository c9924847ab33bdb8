-- "Kinds: 0 standard (rule 18.1, ways of 1 to 15 numbers); 1 jackpot (all ways of 6 numbers, or all of 8);
-- 2 Special One (rule 18.2, ways of 1 to 15, at least two ways); 3 Special Two (rule 18.3, ways of 3 to 6)."
use Rattle.std.specs.Prelude.{ℕ, Bool, true, false, cond, ◌&&◌, ◌||◌, List, leb, eqb, Option, None, Some, Result, ok_or}
use Rattle.refusals.specs.declared.refusal.Refusal.{Refusal}
use Rattle.refusals.specs.declared.refusal.Refusal.TheVariants.{UnknownJackpot}
use Rattle.sale.specs.Lists.{every}
use Rattle.sale.specs.Ways.{way_sizes}
use Rattle.sale.specs.declared.terms.JackpotKind.{JackpotKind}
use Rattle.sale.specs.declared.terms.JackpotKind.TheVariants.{Six, Eight}
use Rattle.sale.specs.declared.terms.Kind.{Kind}
use Rattle.sale.specs.declared.terms.Kind.TheVariants.{Standard, Jackpot, Special}
use Rattle.sale.specs.declared.terms.Schedule.TheVariants.{One, Two}
use Rattle.sale.specs.declared.terms.Terms.{Terms}

-- The kind of each number. A number over 3 is refused before it is read, and stands for the last kind.
unfoldable pub kind_of : ℕ → Kind
kind_of n = cond (eqb n 0) Standard (cond (eqb n 1) Jackpot (cond (eqb n 2) (Special One) (Special Two)))

-- the number of each kind
abbrev pub kind_number : Kind → ℕ
kind_number Standard = 0
kind_number Jackpot = 1
kind_number (Special One) = 2
kind_number (Special Two) = 3

abbrev pub is_jackpot : Kind → Bool
is_jackpot Standard = false
is_jackpot Jackpot = true
is_jackpot (Special s) = false

abbrev pub is_special_one : Kind → Bool
is_special_one Standard = false
is_special_one Jackpot = false
is_special_one (Special One) = true
is_special_one (Special Two) = false

-- every size from the first number to the second
unfoldable pub within : ℕ → ℕ → List ℕ → Bool
within lo hi sizes = every (λ n. leb lo n && leb n hi) sizes

-- the sizes of all of a ticket's ways against its kind
abbrev pub sizes_fit : Kind → List ℕ → Bool
sizes_fit Standard sizes = within 1 15 sizes
sizes_fit Jackpot sizes = within 6 6 sizes || within 8 8 sizes
sizes_fit (Special One) sizes = within 1 15 sizes
sizes_fit (Special Two) sizes = within 3 6 sizes

-- the jackpot that a ticket plays for, 6 or 8, or 0 for none, from the sizes of the groups
unfoldable pub jackpot_by : Terms → List ℕ → ℕ
jackpot_by t sizes =
    cond (is_jackpot t.kind)
    (cond (within 6 6 (way_sizes t.groups t.types sizes)) 6
    (cond (within 8 8 (way_sizes t.groups t.types sizes)) 8 0))
    0

-- ---- the two jackpots by their numbers

-- the numbers that each of a jackpot's ways selects
abbrev pub number_of : JackpotKind → ℕ
number_of Six = 6
number_of Eight = 8

-- the same where there may be none: 0
abbrev pub jackpot_number : Option JackpotKind → ℕ
jackpot_number None = 0
jackpot_number (Some jackpot) = number_of jackpot

-- the jackpot of a number, if it has one
unfoldable pub jackpot_named : ℕ → Option JackpotKind
jackpot_named n = cond (eqb n 6) (Some Six) (cond (eqb n 8) (Some Eight) None)

-- the jackpot that Transfer's operand names, or the refusal of one that names none: 28 of the table
abbrev pub jackpot_operand : ℕ → Result JackpotKind Refusal
jackpot_operand n = ok_or (jackpot_named n) UnknownJackpot
