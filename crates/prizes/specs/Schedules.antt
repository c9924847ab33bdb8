-- The schedules of rules 18.1, 18.2 and 18.3, in dollars for a stake of one dollar. "Combinations of selection and match that a schedule
-- lacks pay 0; kind 2 uses rule 18.1 for sizes other than 6 and 8." A row for each selection from 0 on, in it the prize of each match from 0 on.
-- The match numbers stand above the first columns, the selection behind each row.
use Rattle.std.specs.Prelude.{ℕ, List, [], ◌∷◌, get_or, set}

unfoldable pub standard_rows : List (List ℕ)
standard_rows =
    -- 0   1   2   3   4   5   6   7   8   9   10   11   12   13   14   15  matched
    []  -- 0
    ∷ (0 ∷ 3 ∷ [])  -- 1
    ∷ (0 ∷ 0 ∷ 13 ∷ [])  -- 2
    ∷ (0 ∷ 0 ∷ 2 ∷ 36 ∷ [])  -- 3
    ∷ (0 ∷ 0 ∷ 1 ∷ 5 ∷ 113 ∷ [])  -- 4
    ∷ (1 ∷ 0 ∷ 0 ∷ 1 ∷ 10 ∷ 530 ∷ [])  -- 5
    ∷ (0 ∷ 0 ∷ 0 ∷ 1 ∷ 4 ∷ 50 ∷ 1000 ∷ [])  -- 6
    ∷ (1 ∷ 0 ∷ 0 ∷ 1 ∷ 3 ∷ 10 ∷ 155 ∷ 5000 ∷ [])  -- 7
    ∷ (1 ∷ 0 ∷ 0 ∷ 0 ∷ 1 ∷ 5 ∷ 50 ∷ 555 ∷ 12500 ∷ [])  -- 8
    ∷ (2 ∷ 0 ∷ 0 ∷ 0 ∷ 2 ∷ 4 ∷ 15 ∷ 150 ∷ 3000 ∷ 20000 ∷ [])  -- 9
    ∷ (3 ∷ 0 ∷ 0 ∷ 0 ∷ 1 ∷ 3 ∷ 12 ∷ 50 ∷ 500 ∷ 7500 ∷ 25000 ∷ [])  -- 10
    ∷ (4 ∷ 1 ∷ 0 ∷ 0 ∷ 0 ∷ 2 ∷ 5 ∷ 32 ∷ 200 ∷ 1500 ∷ 10000 ∷ 30000 ∷ [])  -- 11
    ∷ (6 ∷ 1 ∷ 0 ∷ 0 ∷ 0 ∷ 1 ∷ 5 ∷ 15 ∷ 75 ∷ 600 ∷ 4000 ∷ 12000 ∷ 35000 ∷ [])  -- 12
    ∷ (8 ∷ 1 ∷ 0 ∷ 0 ∷ 0 ∷ 1 ∷ 3 ∷ 7 ∷ 40 ∷ 250 ∷ 2000 ∷ 9000 ∷ 20000 ∷ 40000 ∷ [])  -- 13
    ∷ (10 ∷ 1 ∷ 0 ∷ 0 ∷ 0 ∷ 1 ∷ 2 ∷ 5 ∷ 15 ∷ 150 ∷ 500 ∷ 5500 ∷ 15000 ∷ 25000 ∷ 45000 ∷ [])  -- 14
    ∷ (12 ∷ 2 ∷ 0 ∷ 0 ∷ 0 ∷ 0 ∷ 2 ∷ 5 ∷ 15 ∷ 50 ∷ 350 ∷ 1600 ∷ 8000 ∷ 15000 ∷ 30000 ∷ 50000 ∷ [])  -- 15
    ∷ []

-- rule 18.2: rule 18.1 but for 6 and 8 numbers
unfoldable pub special_one_rows : List (List ℕ)
unfolding standard_rows
special_one_rows =
    set
    (set standard_rows 6 (1 ∷ 0 ∷ 0 ∷ 1 ∷ 6 ∷ 50 ∷ 1200 ∷ []))
    8
    (1 ∷ 0 ∷ 0 ∷ 0 ∷ 2 ∷ 9 ∷ 60 ∷ 1000 ∷ 12500 ∷ [])

unfoldable pub special_two_rows : List (List ℕ)
special_two_rows =
    -- 0   1   2   3   4   5   6  matched
    []  -- 0
    ∷ []  -- 1
    ∷ []  -- 2
    ∷ (0 ∷ 0 ∷ 0 ∷ 56 ∷ [])  -- 3
    ∷ (0 ∷ 0 ∷ 0 ∷ 0 ∷ 252 ∷ [])  -- 4
    ∷ (0 ∷ 0 ∷ 0 ∷ 0 ∷ 0 ∷ 1200 ∷ [])  -- 5
    ∷ (0 ∷ 0 ∷ 0 ∷ 0 ∷ 0 ∷ 0 ∷ 6000 ∷ [])  -- 6
    ∷ []

-- the prize of a selection and a match in a schedule
unfoldable pub cell : List (List ℕ) → ℕ → ℕ → ℕ
cell rows selection matched = get_or (get_or rows selection []) matched 0
