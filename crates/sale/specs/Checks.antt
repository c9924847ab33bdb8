-- "Top to bottom; the first met is given": Sell's operand checks. "7 kind over 3; 8 games not 1 to 100; 9 groups not 1 to 8; 10 not 80
-- marks, a mark over g, or an empty group; 11 types 0 or naming more than g groups; 12 a way's size against its kind; 13 Special One, one
-- way; 14 stake; 15 charge". And of Lucky Last: "31 when kind is not 0 or there is more than one way, after 13; 32 when the feature stake is 0 or no
-- multiple of 100, after 14."
use Rattle.std.specs.Prelude.{ℕ, ◌%◌, ◌^◌, Bool, true, false, cond, not, ◌&&◌, ◌||◌, List, [], ◌∷◌, ◌++◌, ltb, leb, eqb, length, take, Option, None, Some}
use Rattle.sale.specs.Lists.{every}
use Rattle.sale.specs.Kinds.{kind_of, is_special_one, sizes_fit, jackpot_by, jackpot_named}
use Rattle.sale.specs.Ways.{sizes, size_word, ways, way_sizes}
use Rattle.sale.specs.Price.{charge_limit, paid_games, stake_fits, game_price, charge}
use Rattle.sale.specs.declared.terms.Sale.{Sale}
use Rattle.sale.specs.declared.check.Quote.{Quote}

-- the operands of a sale, as the caller gives them: Sell's, and with Lucky Last its feature stake
pub record Operands : Type 0 where
  pub kind : ℕ
  pub games : ℕ
  pub stake : ℕ
  pub groups : ℕ
  pub types : ℕ
  pub feature : Option ℕ
  pub marks : List ℕ

-- a sale with the marks that stand beside it
abbrev pub operands_of : Sale → List ℕ → Operands
operands_of s marks =
    record { kind = s.kind; games = s.games; stake = s.stake; groups = s.groups; types = s.types; feature = s.feature; marks = marks }

-- whether a sale enters the feature, and its stake for a game: one without it has none
abbrev pub has_feature : Option ℕ → Bool
has_feature None = false
has_feature (Some stake) = true

abbrev pub feature_stake : Option ℕ → ℕ
feature_stake None = 0
feature_stake (Some stake) = stake

-- the number of the first row that is met, and 0 where none is
unfoldable pub first_met : List (Bool × ℕ) → ℕ
first_met [] = 0
first_met (row ∷ rows) = cond row.0 row.1 (first_met rows)

abbrev pub way_count : Operands → ℕ
way_count o = length (ways o.groups o.types)

abbrev pub price_of : Operands → ℕ
price_of o = game_price o.stake (way_count o) (feature_stake o.feature)

abbrev pub charge_of : Operands → ℕ
charge_of o = charge (price_of o) (paid_games o.games)

unfoldable pub marks_fit : ℕ → List ℕ → Bool
marks_fit g marks =
    eqb (length marks) 80 && every (λ m. leb m g) marks && every (λ n. not (eqb n 0)) (take g (sizes marks))

-- the kind, the games, the groups and the marks
abbrev pub mark_rows : Operands → List (Bool × ℕ)
mark_rows o =
    (not (leb o.kind 3), 7)
    ∷ (not (leb 1 o.games && leb o.games 100), 8)
    ∷ (not (leb 1 o.groups && leb o.groups 8), 9)
    ∷ (not (marks_fit o.groups o.marks), 10)
    ∷ []

-- the ways
abbrev pub way_rows : Operands → List (Bool × ℕ)
way_rows o =
    (eqb o.types 0 || leb (2 ^ o.groups) o.types, 11)
    ∷ (not (sizes_fit (kind_of o.kind) (way_sizes o.groups o.types (sizes o.marks))), 12)
    ∷ (is_special_one (kind_of o.kind) && eqb (way_count o) 1, 13)
    ∷ []

-- the feature, whether it goes with the kind and the ways, and the price
abbrev pub feature_row : Operands → Bool × ℕ
feature_row o = (has_feature o.feature && (not (eqb o.kind 0) || ltb 1 (way_count o)), 31)

abbrev pub stake_row : Operands → Bool × ℕ
stake_row o = (not (stake_fits (kind_of o.kind) (way_count o) o.stake), 14)

abbrev pub feature_stake_row : Operands → Bool × ℕ
feature_stake_row o =
    (has_feature o.feature && (eqb (feature_stake o.feature) 0 || not (eqb (feature_stake o.feature % 100) 0)), 32)

abbrev pub charge_row : Operands → Bool × ℕ
charge_row o = (ltb charge_limit (charge_of o), 15)

abbrev pub price_rows : Operands → List (Bool × ℕ)
price_rows o = feature_row o ∷ stake_row o ∷ feature_stake_row o ∷ charge_row o ∷ []

unfoldable pub operand_rows : Operands → List (Bool × ℕ)
operand_rows o = mark_rows o ++ (way_rows o ++ price_rows o)

-- 0, or the refusal of a sale by its operands alone
unfoldable pub operand_code : Operands → ℕ
operand_code o = first_met (operand_rows o)

-- the jackpot that the operands play for
abbrev pub jackpot_of : Operands → ℕ
jackpot_of o =
    jackpot_by
    (record { kind = kind_of o.kind; games = o.games; stake = o.stake; groups = o.groups; types = o.types })
    (sizes o.marks)

-- what a sale that passes is told: the charge, and what the ticket keeps of its operands
abbrev pub accepted_quote : Operands → Quote
accepted_quote o =
    record {
      ways = way_count o;
      paid = paid_games o.games;
      charge = charge_of o;
      jackpot = jackpot_named (jackpot_of o);
      sizes = size_word (sizes o.marks);
    }
