-- How the code keeps the schedules: in one table, which the look-up is lent. Only contracts and the table's own struct speak of it. A selection has a word in the table: the place of
-- its first cell, the match with which its run begins, and how many low matches pay.
use Rattle.std.specs.Prelude.{ℕ, ◌+◌, ◌-◌, ◌/◌, ◌%◌, ◌≤◌, ◌<◌, ◌≡◌, cond, List, ltb, get_or}
use Rattle.prizes.specs.Schedules.{standard_rows, special_one_rows, special_two_rows, cell}

abbrev pub start_in : ℕ → ℕ
start_in word = word / 256

abbrev pub run_in : ℕ → ℕ
run_in word = word / 16 % 16

abbrev pub low_in : ℕ → ℕ
low_in word = word % 16

-- the prize that a table has by a word of it: below the run the low matches have the first cells and the others pay nothing; from there on the cells
-- follow, up to all numbers of the selection
abbrev pub prize_by : List ℕ → ℕ → ℕ → ℕ → ℕ
prize_by table word selection matched =
    cond (ltb matched (run_in word))
    (cond (ltb matched (low_in word)) (get_or table (start_in word + matched) 0) 0)
    (cond (ltb selection matched) 0 (get_or table (start_in word + low_in word + (matched - run_in word)) 0))

-- a place of the table with a word of a selection of so many numbers, whose last cell is in the table too
pub record WordAt (table : List ℕ) (place selection : ℕ) : Type 0 where
  pub few : place < 132
  pub inside : start_in (get_or table place 0) + low_in (get_or table place 0) + (selection - run_in (get_or table place 0)) < 132

-- the table keeps the row of a selection, with its word at a place
pub record Keeps (table : List ℕ) (place selection : ℕ) (rows : List (List ℕ)) : Type 0 where
  pub word : WordAt table place selection
  pub prizes : (matched : ℕ) → prize_by table (get_or table place 0) selection matched ≡ cell rows selection matched

-- it is the table of the three schedules, which keeps every row of theirs; rule 18.2's other selections are rule 18.1's
pub record Schedules (table : List ℕ) : Type 0 where
  pub standard : (s : ℕ) → 1 ≤ s → s ≤ 15 → Keeps table (s - 1) s standard_rows
  pub six : Keeps table 15 6 special_one_rows
  pub eight : Keeps table 16 8 special_one_rows
  pub special_two : (s : ℕ) → 3 ≤ s → s ≤ 6 → Keeps table (s + 14) s special_two_rows
