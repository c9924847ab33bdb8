-- The walk over a ticket's ways as the code takes it, what a sale sees in it, and what the stages of a sale's checks tell. Only contracts speak of
-- these; the laws in proofs/WalkLaws, proofs/NotedLaws and proofs/SurveyLaws join the walk to the ways themselves.
use Rattle.std.specs.Prelude.{ℕ, zero, suc, ◌+◌, ◌*◌, ◌/◌, ◌%◌, ◌^◌, ◌≤◌, ◌<◌, min, max, ◌≡◌, Bool, cond, not, ◌&&◌, List, [], ◌∷◌, ◌++◌, map, leb, eqb, drop, Result, IfOk}
use Rattle.std.specs.Int.Count.{ones}
use Rattle.std.proofs.Common.{ap, arith}
use Rattle.sale.specs.Kinds.{kind_of}
use Rattle.sale.specs.Ways.{sizes, nominated, mask_sum, way_sizes}
use Rattle.sale.specs.Price.{charge_limit, paid_games}
use Rattle.sale.specs.Checks.{Operands, first_met, charge_of, mark_rows, way_rows, price_rows}
use Rattle.sale.specs.Bounds.{Grouped, Bytes}
use Rattle.sale.specs.Noting.{NotingLaws}
use Rattle.sale.specs.declared.terms.Kind.{Kind}
use Rattle.sale.specs.declared.survey.Survey.{Survey}
use Rattle.refusals.specs.Refusal.{code_in}
use Rattle.refusals.specs.declared.refusal.Refusal.{Refusal}
use Rattle.sale.specs.declared.check.Price.{Price}

-- The ways that begin with the groups in a mask, where so many groups are left to take or to leave. Leaving comes first, so that the masks
-- rise.
unfoldable pub ways_from : ℕ → ℕ → ℕ → List ℕ
ways_from types zero mask = cond (nominated types (ones mask)) (mask ∷ []) []
ways_from types (suc left) mask = ways_from types left (mask * 2) ++ ways_from types left (mask * 2 + 1)

-- their figures, from those of the groups
abbrev pub figures_from : ℕ → List ℕ → ℕ → ℕ → List ℕ
figures_from types table left mask = map (λ m. mask_sum m (drop 1 table)) (ways_from types left mask)

-- Whether some number of groups, from so many taken to those with all that are left, has its bit in the types byte: bit k of the byte's
-- double is that of k groups.
unfoldable pub nominable : ℕ → ℕ → ℕ → Bool
nominable types count left = not (eqb (types * 2 / 2 ^ count % 2 ^ (left + 1)) 0)

-- Where the walk ends early: no way begins with the groups in the mask. It is asked only where three groups or more are left.
unfoldable pub ends_here : ℕ → ℕ → ℕ → Bool
ends_here types mask left = leb 3 left && not (nominable types (ones mask) left)

-- ---- a sale's one look at its ways

-- one way more, which selects so many numbers
abbrev pub noted : Survey → ℕ → Survey
noted s size = record { count = s.count + 1; least = min s.least size; most = max s.most size }

unfoldable pub survey_from : Survey → List ℕ → Survey
survey_from s [] = s
survey_from s (size ∷ sizes) = survey_from (noted s size) sizes

-- how many, the smallest and the largest of them. Where there are none, every test of a size from a byte to another is passed.
abbrev pub survey_of : List ℕ → Survey
survey_of sizes = survey_from (record { count = 0; least = 255; most = 0 }) sizes

-- a survey with room for the count of so many ways more
pub record Unfilled (s : Survey) (ways : ℕ) : Type 0 where
  pub room : s.count + ways < 2 ^ 32

-- a survey before and after a way is noted
abbrev pub Notes : ℕ → Survey → Survey → Type 0
Notes size s t = t ≡ noted s size

-- A survey is an instance of what a walk notes.
pub survey_laws : NotingLaws Unfilled Notes
survey_laws =
    record {
      fewer = λ s n m le u. record { room = omega (arith, u.room) };
      others = λ s t size n e u. record { room = omega (arith, u.room, ap (λ (r : Survey). r.count) e) };
    }

-- ---- a sale's checks, stage by stage

-- what later stages have of marks that pass: the sizes of the groups, each in its byte
pub record MarksPassed (o : Operands) (counts : List ℕ) : Type 0 where
  pub same : counts ≡ sizes o.marks
  pub groups : Grouped o.groups
  pub bytes : Bytes counts

-- the first refusal of the marks' rows, or the sizes of the groups
pub record MarksChecked (o : Operands) (r : Result (List ℕ) Refusal) : Type 0 where
  pub code : code_in r ≡ first_met (mark_rows o)
  pub passed : IfOk r (MarksPassed o)

-- the look at the operands' ways, with their kind
pub record LookedAt (o : Operands) (k : Kind) (seen : Survey) : Type 0 where
  pub kind : k ≡ kind_of o.kind
  pub survey : seen ≡ survey_of (way_sizes o.groups o.types (sizes o.marks))

-- the first refusal of the ways' rows, for operands of the kind, or what was seen of the ways
pub record WaysChecked (o : Operands) (k : Kind) (r : Result Survey Refusal) : Type 0 where
  pub code : code_in r ≡ first_met (way_rows o)
  pub passed : IfOk r (LookedAt o k)

-- what a price that passes tells
pub record Priced (o : Operands) (price : Price) : Type 0 where
  pub paid : price.paid ≡ paid_games o.games
  pub charge : price.charge ≡ charge_of o
  pub within : charge_of o ≤ charge_limit

-- the first refusal of the feature's and the price's rows, or the price
pub record PriceChecked (o : Operands) (r : Result Price Refusal) : Type 0 where
  pub code : code_in r ≡ first_met (price_rows o)
  pub passed : IfOk r (Priced o)
