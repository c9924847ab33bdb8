-- The bounds that some parts of prizes and jackpots ask of their callers, so that no sum or product passes 64 bits. Every sale (`Playable`) and
-- the laws on reached houses give them.
use Rattle.std.specs.Prelude.{ℕ, ◌+◌, ◌*◌, ◌≤◌, ◌<◌, ◌^◌, ◌≡◌, List}
use Rattle.sale.specs.Ways.{sizes, size_word}
use Rattle.sale.specs.Price.{charge_limit}
use Rattle.sale.specs.Bounds.{Marked, Grouping}
use Rattle.prizes.specs.Prize.{major_floor}
use Rattle.prizes.specs.Cut.{majors_limit}
use Rattle.prizes.specs.declared.cut.Cut.{Cut}
use Rattle.prizes.specs.declared.jackpot.Jackpot.{Jackpot}

-- a prize whose product with all that there is to share fits
pub record Payable (prize : ℕ) : Type 0 where
  pub small : prize < 2 ^ 40

-- a state of the cut whose next bound fits
pub record Cuttable (c : Cut) : Type 0 where
  pub small : c.base < 2 ^ 63

-- cents to divide by what is left to share, which is at least one floor
pub record Divided (base part : ℕ) : Type 0 where
  pub small : base < 2 ^ 63
  pub least : major_floor ≤ part
  pub most : part ≤ majors_limit

-- a jackpot whose pools and debt can grow by one game's paid stakes and a seed
pub record Roomy (j : Jackpot) : Type 0 where
  pub primary : j.primary < 2 ^ 63
  pub secondary : j.secondary < 2 ^ 63
  pub reimbursement : j.reimbursement < 2 ^ 63
  pub debt : j.debt < 2 ^ 63

-- a ticket's winning ways among all winning ways, whose stakes are s together
pub record Sharing (p s n stake : ℕ) : Type 0 where
  pub pool : p < 2 ^ 63
  pub limit : stake ≤ charge_limit
  pub total : s < 2 ^ 40
  pub won : 0 < s
  pub part : n * stake ≤ s
  pub few : n < 2 ^ 16

-- the same, of a ticket that has a winning way
pub record Winning (p s n stake : ℕ) : Type 0 where
  pub sharing : Sharing p s n stake
  pub some : 0 < n

-- a jackpot, and the paid stakes of a game that contribute to it
pub record Contributing (j : Jackpot) (paid : ℕ) : Type 0 where
  pub room : Roomy j
  pub stakes : paid < 2 ^ 60

-- a jackpot, and the guarantee that a seed brings it up to
pub record Seeding (j : Jackpot) (guarantee : ℕ) : Type 0 where
  pub room : Roomy j
  pub limit : guarantee < 2 ^ 63

-- a ticket's marks, and the word in which its row keeps the sizes of its groups
pub record KeptSizes (word : ℕ) (marks : List ℕ) : Type 0 where
  pub few : Marked marks
  pub groups : Grouping marks
  pub same : word ≡ size_word (sizes marks)

-- the most that the prizes of a ticket's ways are together in one game, jackpot shares aside: so much for each of 255 ways
abbrev pub way_prizes_limit : ℕ
way_prizes_limit = 255 * majors_limit

-- the most that Lucky Last pays for a stake: 60 dollars for each dollar
abbrev pub feature_limit : ℕ → ℕ
feature_limit stake = 60 * stake

-- the most that all prizes of a ticket are together in one game, jackpot shares aside
abbrev pub ticket_prizes_limit : ℕ
ticket_prizes_limit = way_prizes_limit + feature_limit charge_limit
