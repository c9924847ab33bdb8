-- "A way's prize = schedule dollars × stake. [..] Kinds other than 1 are capped at 5,000,000 a way (rule 12.2). A full match on kind 1 gets
-- no schedule prize but a jackpot share. A major prize is 20,000 or more after the cap."
use Rattle.std.specs.Prelude.{ℕ, ◌*◌, min, Bool, cond, leb, eqb}
use Rattle.prizes.specs.Schedules.{standard_rows, special_one_rows, special_two_rows, cell}
use Rattle.sale.specs.declared.terms.Kind.{Kind}
use Rattle.sale.specs.declared.terms.Kind.TheVariants.{Standard, Jackpot, Special}
use Rattle.sale.specs.declared.terms.Schedule.TheVariants.{One, Two}

-- the most for a way (rule 12.2)
abbrev pub prize_limit : ℕ
prize_limit = 5000000

-- the least major prize, below which none is cut
abbrev pub major_floor : ℕ
major_floor = 20000

-- what a way that selects and matches so many numbers wins for a stake of one dollar, jackpot shares aside
unfoldable pub dollars : Kind → ℕ → ℕ → ℕ
dollars Standard selection matched = cell standard_rows selection matched
dollars Jackpot selection matched = cond (eqb matched selection) 0 (cell standard_rows selection matched)
dollars (Special One) selection matched = cell special_one_rows selection matched
dollars (Special Two) selection matched = cell special_two_rows selection matched

abbrev pub capped : Kind → ℕ → ℕ
capped Standard cents = min cents prize_limit
capped Jackpot cents = cents
capped (Special s) cents = min cents prize_limit

-- cents: a stake of so many cents wins so many times the dollars of a one-dollar stake, in cents
unfoldable pub prize : Kind → ℕ → ℕ → ℕ → ℕ
prize kind stake selection matched = capped kind (dollars kind selection matched * stake)

abbrev pub is_major : ℕ → Bool
is_major p = leb major_floor p
